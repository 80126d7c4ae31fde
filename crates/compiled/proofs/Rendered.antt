-- The statements of a faithful list are in form: they name registers that are given, and symbols that are there. Assumes that each register
-- that is named is below 256, and each symbol that is bound below S.
use mathlib.Core.Path.{◌≡◌, refl, ap, ◌∙◌}
use mathlib.Core.Bool.{Bool, true, false}
use mathlib.Core.Option.{some, none-ne-some}
use mathlib.Core.List.{List, [], ◌∷◌, ◌++◌, map}
use Prim.Native.Nat.{ℕ, zero, suc, ◌+◌, ◌<◌}
use native.Mathlib.Omega.{arith}
use lib.ListN.{length, get_elem?, length-append, length-map}
use Rattle.calculus.specs.Terms.{leaf, Term, Build, built, map_build, Act, send, receive, fresh, compare, split, decrypt, operands, binders, bound, Side, Statement, act, half, build}
use Rattle.calculus.specs.Tables.{Entry}
use Rattle.calculus.specs.Scope.{All, all_nil, all_cons}
use Rattle.calculus.specs.Version1.{signature1}
use Rattle.calculus.proofs.Lists.{all_append, all_parts}
use Rattle.rendering.specs.Rendering.{halves, Due, whole, part, binds, dues_of, dues, Says, says_act, says_half, Dues, Follows, no_more, permitted, next_due}
use Rattle.rendering.specs.Translation.{parts, registers}
use Rattle.rendering.proofs.ActLaws.{ActZip, zip_send, zip_receive, zip_fresh, zip_compare, zip_split, zip_decrypt, BuildZip, zip_one, zip_two, zip_acts, zip_builds}
use Rattle.decoded_list.specs.Form.{symbols_named, registers_given, StatementFits, StatementsFit, fit_none, fit_one}

-- an act is a split
unfoldable pub is_split : {X : Type 0} → Act signature1 X → Bool
is_split (send a b) = false
is_split (receive a x) = false
is_split (fresh x) = false
is_split (compare a b) = false
is_split (split a x y) = true
is_split (decrypt s a b x) = false

-- what no two constructors are
clash : ◌≡◌ {A = ℕ} 0 1 → ⊥
clash e = omega arith

-- ── Registers ──

-- a register that means something is given
given : {X : Type 0} (ms : List X) (p : ℕ) {M : X} → get_elem? ms p ≡ some M → p < length ms
given [] p {M} e = absurd (none-ne-some M e)
given (m ∷ ms) zero e = omega arith
given (m ∷ ms) (suc p) e = let h = given ms p e in omega arith

-- what all have, and what all have, all have both
all_both : {X : Type 0} {P Q : X → Type 0} {l : List X} → All P l → All Q l → All (λ x. P x × Q x) l
all_both all_nil all_nil = all_nil
all_both (all_cons p ps) (all_cons q qs) = all_cons (p, q) (all_both ps qs)

module _ {X : Type 0} (ms : List X) where
  -- the operand registers of an act, and the part registers of a build, are given
  act_given : {a : Act signature1 ℕ} {d : Act signature1 X} → ActZip signature1 (λ p m. get_elem? ms p ≡ some m) a d → All (λ p. p < length ms) (operands signature1 a)
  unfolding operands
  act_given (zip_send u v) = all_cons (given ms _ u) (all_cons (given ms _ v) all_nil)
  act_given (zip_receive u) = all_cons (given ms _ u) all_nil
  act_given zip_fresh = all_nil
  act_given (zip_compare u v) = all_cons (given ms _ u) (all_cons (given ms _ v) all_nil)
  act_given (zip_split u) = all_cons (given ms _ u) all_nil
  act_given (zip_decrypt u v) = all_cons (given ms _ u) (all_cons (given ms _ v) all_nil)

  build_given : {b : Build signature1 ℕ} {d : Build signature1 X} → BuildZip signature1 (λ p m. get_elem? ms p ≡ some m) b d → All (λ p. p < length ms) (parts signature1 b)
  unfolding parts
  build_given (zip_one u) = all_cons (given ms _ u) all_nil
  build_given (zip_two u v) = all_cons (given ms _ u) (all_cons (given ms _ v) all_nil)

  -- an act binds what the step binds
  act_binds : {a : Act signature1 ℕ} {d : Act signature1 X} → ActZip signature1 (λ p m. get_elem? ms p ≡ some m) a d → binders signature1 a ≡ binders signature1 d
  unfolding binders
  act_binds (zip_send u v) = refl
  act_binds (zip_receive u) = refl
  act_binds zip_fresh = refl
  act_binds (zip_compare u v) = refl
  act_binds (zip_split u) = refl
  act_binds (zip_decrypt u v) = refl

  -- and is a split only if the step is
  act_split : {a : Act signature1 ℕ} {d : Act signature1 X} → ActZip signature1 (λ p m. get_elem? ms p ≡ some m) a d → is_split d ≡ false
      → (p x y : ℕ) → ◌≡◌ {A = Statement signature1} (act a) (act (split p x y)) → ⊥
  unfolding is_split
  act_split (zip_send u v) n p x y e = clash cc
  act_split (zip_receive u) n p x y e = clash cc
  act_split zip_fresh n p x y e = clash cc
  act_split (zip_compare u v) n p x y e = clash cc
  act_split (zip_split u) n p x y e = clash cc
  act_split (zip_decrypt u v) n p x y e = clash cc

-- ── What is due ──

-- a statement that is due binds symbols below S, and is no split in one statement
pub data DueFits (S : ℕ) {X : Type 0} : Due signature1 X → Type 0 where
  whole_fits : {a : Act signature1 X} → is_split a ≡ false → All (λ x. x < S) (binders signature1 a) → DueFits S (whole a)
  part_fits : {d : Side} {m : X} {x : ℕ} → x < S → DueFits S (part d m x)

-- so are those that a step makes due
step_dues_fit : (S : ℕ) {X : Type 0} (a : Act signature1 X) → All (λ x. x < S) (binders signature1 a) → All (DueFits S) (dues_of signature1 halves a)
unfolding dues_of binders is_split
step_dues_fit S (send a b) h = all_cons (whole_fits refl h) all_nil
step_dues_fit S (receive a x) h = all_cons (whole_fits refl h) all_nil
step_dues_fit S (fresh x) h = all_cons (whole_fits refl h) all_nil
step_dues_fit S (compare a b) h = all_cons (whole_fits refl h) all_nil
step_dues_fit S (split a x y) (all_cons p (all_cons q r)) = all_cons (part_fits p) (all_cons (part_fits q) all_nil)
step_dues_fit S (decrypt s a b x) h = all_cons (whole_fits refl h) all_nil

-- each with its step's number
abbrev pub AllDue : ℕ → Dues signature1 → Type 0
AllDue S ws = All (λ w. DueFits S w.1) ws

-- what all have, they have with a number beside them
numbered : {X : Type 0} {P : X → Type 0} (n : ℕ) (l : List X) → All P l → All (λ (w : ℕ × X). P w.1) (map (λ x. (n, x)) l)
numbered n [] all_nil = all_nil
numbered n (x ∷ l) (all_cons p q) = all_cons p (numbered n l q)

-- those that steps make due, which bind symbols below S
pub dues_fit : (S n : ℕ) (P : List (Act signature1 (Term signature1))) → All (λ x. x < S) (bound signature1 P) → AllDue S (dues signature1 halves n P)
unfolding bound dues
dues_fit S n [] h = all_nil
dues_fit S n (a ∷ P) h =
    let (u, v) = all_parts (binders signature1 a) (bound signature1 P) h in
    all_append (numbered n (dues_of signature1 halves a) (step_dues_fit S a u)) (dues_fit S (suc n) P v)

-- ── A faithful list ──

-- the registers that a statement names can be named
abbrev pub Nameable : Statement signature1 → Type 0
Nameable st = All (λ p. p < 256) (registers signature1 st)

module _ (S : ℕ) where
  -- a build is in form
  build_fits : (ms : List (Term signature1)) (b : Build signature1 ℕ) (B : Build signature1 (Term signature1)) → map_build signature1 (get_elem? ms) b ≡ map_build signature1 some B
      → Nameable (build b) → StatementFits S (length ms) (build b)
  unfolding registers symbols_named
  build_fits ms b B e n = record { given_registers = all_both (build_given ms (zip_builds signature1 (get_elem? ms) some b B e)) n; symbols_there = all_nil; not_whole = no_split }
    where
      no_split : (p x y : ℕ) → ◌≡◌ {A = Statement signature1} (build b) (act (split p x y)) → ⊥
      no_split p x y q = clash cc

  -- a statement that says what is due is in form, and gives a register for each symbol that is bound
  says_fits : {ms : List (Term signature1)} {st : Statement signature1} {w : Due signature1 (Term signature1)} → Says signature1 ms st w → DueFits S w → Nameable st
      → StatementFits S (length ms) st × (registers_given st ≡ length (binds signature1 w))
  unfolding registers symbols_named registers_given binds
  says_fits {ms} (says_act {a = a} {d = d} e) (whole_fits q h) n =
      let z = zip_acts signature1 (get_elem? ms) some a d e in
      let b : binders signature1 a ≡ binders signature1 d = act_binds ms z in
      (record { given_registers = all_both (act_given ms z) n; symbols_there = rw b h; not_whole = act_split ms z q }, ap length b)
  says_fits {ms} (says_half {d = d} {p = p} {x = x} e) (part_fits h) n = (record { given_registers = all_both (all_cons (given ms p e) all_nil) n; symbols_there = all_cons h all_nil; not_whole = no_split }, refl)
    where
      no_split : (u v w : ℕ) → ◌≡◌ {A = Statement signature1} (half d p x) (act (split u v w)) → ⊥
      no_split u v w q = clash cc

  -- statements that follow what is due are in form, one after the other
  pub follows_fit : {es : List (Entry signature1 ℕ)} {ms ns : List (Term signature1)} {ws vs : Dues signature1} {ss : List (Statement signature1)}
      → Follows signature1 es ms ws ss ns vs → AllDue S ws → All Nameable ss → StatementsFit S (length ms) ss
  unfolding registers_given
  follows_fit no_more f n = fit_none
  follows_fit {ms = ms} (permitted {b = b} B e i r) f (all_cons n k) =
      fit_one (build_fits ms b B e n) (rw (length-append ms (built signature1 B ∷ [])) at (follows_fit r f k))
  follows_fit {ms = ms} (next_due {s = s} {w = w} y r) (all_cons g f) (all_cons n k) =
      let (p, q) = says_fits y g n in
      let z : length (ms ++ map leaf (binds signature1 w)) ≡ length ms + registers_given s = length-append ms (map leaf (binds signature1 w)) ∙ rw (length-map (binds signature1 w) leaf, q) in
      fit_one p (rw z at (follows_fit r f k))
