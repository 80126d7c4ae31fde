-- Registers, messages and acts under a map of values, and as a value table grows. Assumes nothing.
use mathlib.Core.Path.{◌≡◌, refl}
use mathlib.Core.Bool.{Bool, true, false, cond, ◌&&◌}
use mathlib.Core.Option.{Option, none, some}
use mathlib.Core.List.{List, [], ◌∷◌, map}
use Prim.Native.Nat.{ℕ, zero, suc, ◌+◌, ◌<◌, ◌≤◌, zero-le, suc-le-suc}
use native.Mathlib.Nat.{le_of_suc-le-suc, not-suc-le-zero}
use native.Mathlib.Omega.{arith}
use lib.ListN.{length, get_elem?}
use Rattle.calculus.specs.Signature.{Signature}
use Rattle.calculus.specs.Terms.{Atom, Term, Value, Act, send, receive, fresh, compare, split, decrypt, map_act, operands, binders, Step}
use Rattle.calculus.specs.Tables.{Entry}
use Rattle.calculus.specs.Scope.{All, all_nil, all_cons}
use Rattle.calculus.proofs.Lists.{all_map, all_at}
use Rattle.rendering.proofs.ActLaws.{ActZip, zip_send, zip_receive, zip_fresh, zip_compare, zip_split, zip_decrypt}
use Rattle.running.specs.Values.{View, is_fresh, is_atom, pair_parts, Opening, inside, locked, unsealed, open_shape}
use Rattle.running.specs.Acts.{Both, both, Logged, on_logged, Out, goes, stops, Tests, passes, splitting, opening, perform}
use Rattle.running.specs.Lists.{Register, symbol_register, term_register, held, holds}
use Rattle.running.specs.Demand3.{value_of, speaks}
use Rattle.running.proofs.Registers.{Names}
use Rattle.running.proofs.Seen.{on_binding}
use Rattle.running.proofs.Made.{Grows, grows_longer}

module _ (𝓢 : Signature) where
  abbrev pub Val : Type 0
  Val = Value 𝓢

  abbrev pub E : Type 0
  E = Entry 𝓢 Atom

  abbrev pub D : List E → ℕ → Val
  D es = value_of 𝓢 es

  -- ── operands name registers already given ──

  pub given : (ms : List (Term 𝓢)) (p : ℕ) {M : Term 𝓢} → get_elem? ms p ≡ some M → p < length ms
  given [] p h = absurd (let w : ◌≡◌ {A = ℕ} 0 1 = cc in omega arith)
  given (N ∷ ms) zero h = suc-le-suc zero-le
  given (N ∷ ms) (suc p) h = suc-le-suc (given ms p h)

  pub named_given : {ms : List (Term 𝓢)} {p : ℕ} {M : Term 𝓢} → Names 𝓢 ms p M → p < length ms
  named_given {ms} {p} n = given ms p n.means

  pub act_given : {ms : List (Term 𝓢)} {a : Act 𝓢 ℕ} {d : Step 𝓢} → ActZip 𝓢 (Names 𝓢 ms) a d → All (λ p. p < length ms) (operands 𝓢 a)
  unfolding operands
  act_given (zip_send m n) = all_cons (named_given m) (all_cons (named_given n) all_nil)
  act_given (zip_receive m) = all_cons (named_given m) all_nil
  act_given zip_fresh = all_nil
  act_given (zip_compare m n) = all_cons (named_given m) (all_cons (named_given n) all_nil)
  act_given (zip_split m) = all_cons (named_given m) all_nil
  act_given (zip_decrypt m n) = all_cons (named_given m) (all_cons (named_given n) all_nil)

  pub zip_binders : {ms : List (Term 𝓢)} {a : Act 𝓢 ℕ} {d : Step 𝓢} → ActZip 𝓢 (Names 𝓢 ms) a d → binders 𝓢 a ≡ binders 𝓢 d
  unfolding binders
  zip_binders (zip_send m n) = refl
  zip_binders (zip_receive m) = refl
  zip_binders zip_fresh = refl
  zip_binders (zip_compare m n) = refl
  zip_binders (zip_split m) = refl
  zip_binders (zip_decrypt m n) = refl

  -- ── registers under a map ──

  abbrev pub on_register : {W X : Type 0} → (W → X) → Register W → Register X
  on_register f r = record { for_symbol = r.for_symbol; value = f r.value }

  module _ {W X : Type 0} (f : W → X) (z : W) (z' : X) where
    pub held_map : (rs : List (Register W)) → held (map (on_register f) rs) ≡ map f (held rs)
    unfolding held
    held_map [] = refl
    held_map (r ∷ rs) = go r.for_symbol (held_map rs)
      where
        go : (t : Bool) → held (map (on_register f) rs) ≡ map f (held rs) → cond t (f r.value ∷ held (map (on_register f) rs)) (held (map (on_register f) rs)) ≡ map f (cond t (r.value ∷ held rs) (held rs))
        go true e = rw e
        go false e = e

    pub holds_map : (rs : List (Register W)) (p : ℕ) → p < length rs → holds z' (map (on_register f) rs) p ≡ f (holds z rs p)
    holds_map [] p h = absurd (not-suc-le-zero h)
    holds_map (r ∷ rs) zero h = refl
    holds_map (r ∷ rs) (suc p) h = holds_map rs p (le_of_suc-le-suc h)

    pub act_map : (rs : List (Register W)) (a : Act 𝓢 ℕ) → All (λ p. p < length rs) (operands 𝓢 a) → map_act 𝓢 (holds z' (map (on_register f) rs)) a ≡ map_act 𝓢 f (map_act 𝓢 (holds z rs) a)
    unfolding map_act operands
    act_map rs (send p q) (all_cons h (all_cons k n)) = rw (holds_map rs p h, holds_map rs q k)
    act_map rs (receive p x) (all_cons h n) = rw (holds_map rs p h)
    act_map rs (fresh x) n = refl
    act_map rs (compare p q) (all_cons h (all_cons k n)) = rw (holds_map rs p h, holds_map rs q k)
    act_map rs (split p x y) (all_cons h n) = rw (holds_map rs p h)
    act_map rs (decrypt s p q x) (all_cons h (all_cons k n)) = rw (holds_map rs p h, holds_map rs q k)

    pub symbols_map : (bs : List (ℕ × W)) → map (λ b. symbol_register b.1) (map (on_binding 𝓢 f) bs) ≡ map (on_register f) (map (λ b. symbol_register b.1) bs)
    symbols_map [] = refl
    symbols_map (b ∷ bs) = rw (symbols_map bs)

  module _ {W : Type 0} (Ok : W → Type 0) (z : W) where
    pub held_ok : {rs : List (Register W)} → All (λ r. Ok r.value) rs → All Ok (held rs)
    unfolding held
    held_ok all_nil = all_nil
    held_ok (all_cons {x = r} {l = rs} p s) = go r.for_symbol (held_ok s)
      where
        go : (t : Bool) → All Ok (held rs) → All Ok (cond t (r.value ∷ held rs) (held rs))
        go true k = all_cons p k
        go false k = k

    pub holds_ok : {rs : List (Register W)} → All (λ r. Ok r.value) rs → (p : ℕ) → p < length rs → Ok (holds z rs p)
    holds_ok s p h = all_at s p h (term_register z)

    pub act_ok : {rs : List (Register W)} → All (λ r. Ok r.value) rs → (a : Act 𝓢 ℕ) → All (λ p. p < length rs) (operands 𝓢 a) → All Ok (operands 𝓢 (map_act 𝓢 (holds z rs) a))
    unfolding map_act operands
    act_ok s (send p q) (all_cons h (all_cons k n)) = all_cons (holds_ok s p h) (all_cons (holds_ok s q k) all_nil)
    act_ok s (receive p x) (all_cons h n) = all_cons (holds_ok s p h) all_nil
    act_ok s (fresh x) n = all_nil
    act_ok s (compare p q) (all_cons h (all_cons k n)) = all_cons (holds_ok s p h) (all_cons (holds_ok s q k) all_nil)
    act_ok s (split p x y) (all_cons h n) = all_cons (holds_ok s p h) all_nil
    act_ok s (decrypt c p q x) (all_cons h (all_cons k n)) = all_cons (holds_ok s p h) (all_cons (holds_ok s q k) all_nil)

    pub symbols_ok : {bs : List (ℕ × W)} → All (λ b. Ok b.1) bs → All (λ r. Ok r.value) (map (λ b. symbol_register b.1) bs)
    symbols_ok all_nil = all_nil
    symbols_ok (all_cons p s) = all_cons p (symbols_ok s)

  -- ── what was said stays said ──

  module _ {es fs : List E} (g : Grows 𝓢 es fs) where
    pub values_keep : {su : List ℕ} → All (λ i. i < length es) su → map (D fs) su ≡ map (D es) su
    values_keep all_nil = refl
    values_keep (all_cons {x = i} p s) = rw (g.keep i p, values_keep s)

    pub logged_keep : {m : Logged ℕ} → Both (λ i. i < length es) m → on_logged (D fs) m ≡ on_logged (D es) m
    unfolding on_logged
    logged_keep (both {c = c} {v = v} p q) = rw (g.keep c p, g.keep v q)

    pub log_keep : {ms : List (Logged ℕ)} → All (Both (λ i. i < length es)) ms → map (on_logged (D fs)) ms ≡ map (on_logged (D es)) ms
    log_keep all_nil = refl
    log_keep (all_cons p s) = rw (logged_keep p, log_keep s)

    pub registers_keep : {rs : List (Register ℕ)} → All (λ r. r.value < length es) rs → map (on_register (D fs)) rs ≡ map (on_register (D es)) rs
    registers_keep all_nil = refl
    registers_keep (all_cons {x = r} p s) = rw (g.keep r.value p, registers_keep s)

    pub still_in : {su : List ℕ} → All (λ i. i < length es) su → All (λ i. i < length fs) su
    still_in s = all_map (λ i p. let l = grows_longer 𝓢 g in omega arith) s

    pub registers_in : {rs : List (Register ℕ)} → All (λ r. r.value < length es) rs → All (λ r. r.value < length fs) rs
    registers_in s = all_map (λ r p. let l = grows_longer 𝓢 g in omega arith) s

    pub log_in : {ms : List (Logged ℕ)} → All (Both (λ i. i < length es)) ms → All (Both (λ i. i < length fs)) ms
    log_in all_nil = all_nil
    log_in (all_cons (both {c = c} {v = v} p q) s) =
        let l = grows_longer 𝓢 g in
        let u : c < length fs = omega arith in
        let w : v < length fs = omega arith in
        all_cons (both u w) (log_in s)

  -- ── how much an act says ──

  unfoldable pub says_of : {W B : Type 0} → Out W B → ℕ
  says_of (goes ms bs su) = length ms
  says_of (stops e ms su) = length ms

  pub says_if : {W B : Type 0} (t : Bool) {n : ℕ} (a b : Out W B) → says_of a ≤ n → says_of b ≤ n → says_of (cond t a b) ≤ n
  says_if true a b p q = p
  says_if false a b p q = q

  module _ (A : View 𝓢 ℕ) (ts : Tests 𝓢) where
    pub says_split : (x y : ℕ) (su : List ℕ) (o : Option (ℕ × ℕ)) → says_of (splitting 𝓢 x y su o) ≤ 0
    unfolding splitting says_of
    says_split x y su none = omega arith
    says_split x y su (some h) = omega arith

    pub says_open : (q : ℕ → Bool) (x : ℕ) (su : List ℕ) (o : Opening 𝓢 ℕ) → says_of (opening 𝓢 q x su o) ≤ 0
    unfolding opening says_of
    says_open q x su (inside v) = says_if (q v) _ _ (omega arith) (omega arith)
    says_open q x su locked = omega arith
    says_open q x su unsealed = omega arith

    pub perform_says : (hs su : List ℕ) (a : Act 𝓢 ℕ) (n : ℕ) → says_of (perform 𝓢 A ts hs su a) + n ≤ speaks 𝓢 a n
    unfolding perform speaks says_of
    perform_says hs su (send c v) n = omega arith
    perform_says hs [] (receive c x) n = omega arith
    perform_says hs (v ∷ su) (receive c x) n = let h : says_of (perform 𝓢 A ts hs (v ∷ su) (receive c x)) ≤ 1 = says_if (passes 𝓢 ts A x v) _ _ (omega arith) (omega arith) in omega arith
    perform_says hs [] (fresh x) n = omega arith
    perform_says hs (v ∷ su) (fresh x) n =
        let h : says_of (perform 𝓢 A ts hs (v ∷ su) (fresh x)) ≤ 0 = says_if (is_atom 𝓢 (A.shape v) && is_fresh 𝓢 A hs v) _ _ (says_if (passes 𝓢 ts A x v) _ _ (omega arith) (omega arith)) (omega arith) in omega arith
    perform_says hs su (compare v w) n = let h : says_of (perform 𝓢 A ts hs su (compare v w)) ≤ 0 = says_if (A.same v w) _ _ (omega arith) (omega arith) in omega arith
    perform_says hs su (split v x y) n = let h = says_split x y su (pair_parts 𝓢 (A.shape v)) in omega arith
    perform_says hs su (decrypt s v k x) n = let h = says_open (λ w. passes 𝓢 ts A x w) x su (open_shape 𝓢 A s k (A.shape v)) in omega arith

  pub speaks_map : (f : ℕ → ℕ) (a : Act 𝓢 ℕ) (n : ℕ) → speaks 𝓢 (map_act 𝓢 f a) n ≡ speaks 𝓢 a n
  unfolding speaks map_act
  speaks_map f (send a b) n = refl
  speaks_map f (receive a x) n = refl
  speaks_map f (fresh x) n = refl
  speaks_map f (compare a b) n = refl
  speaks_map f (split a x y) n = refl
  speaks_map f (decrypt s a b x) n = refl
