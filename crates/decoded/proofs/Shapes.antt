-- Each term and each step of a table that passes 1 to 5, written again, is its bytes; so what was read tells which parts, terms and
-- symbols the bytes name. Assumes that 1 to 5 pass, where it says so.
use mathlib.Core.Path.{◌≡◌, refl, sym, ap, ◌∙◌}
use mathlib.Core.List.{List, [], ◌∷◌}
use mathlib.Core.Logic.{inl, inr}
use Prim.Native.Nat.{ℕ, zero, suc, ◌+◌, ◌≤◌, ◌<◌}
use native.Mathlib.Omega.{arith}
use Rattle.base.specs.Bytes.{byte}
use Rattle.codes.specs.Rows.{cell, no_role, part_role, symbol_role, name_role, variable_role, term_role as step_term_role}
use Rattle.entries.specs.Fields.{code, role}
use Rattle.table_layout.specs.Layout.{terms, steps, terms_at, steps_at, term_field, term_role, step_field, step_role}
use Rattle.calculus.specs.Signature.{Two, pairing, seal}
use Rattle.calculus.specs.Terms.{build1, build2, Act, send, receive, fresh, compare, split, decrypt, operands, binders}
use Rattle.calculus.specs.Tables.{Entry, leaf_entry, kind_entry}
use Rattle.calculus.specs.Scope.{All, all_nil, all_cons, Distinct, di_nil, di_cons}
use Rattle.calculus.specs.Version1.{Seal1, encryption, signature1}
use Rattle.decoded.specs.Table.{entry_of, act_of, term_at, step_at, two_code, entry_bytes, step_bytes}
use Rattle.decoded.specs.Meaning.{HasPart, Uses, Binds, BindsNew}
use Rattle.decoded.proofs.Passed.{Entered}
use Rattle.decoded.proofs.Ranges.{term_code_lem, term_unused, step_code_lem, step_unused}

-- the bytes of term i and of step k
abbrev pub three_bytes : List ℕ → ℕ → List ℕ
three_bytes s i = code s 0 (terms_at s) i ∷ term_field s i 0 ∷ term_field s i 1 ∷ []

abbrev pub five_bytes : List ℕ → ℕ → List ℕ
five_bytes s k = code s 1 (steps_at s) k ∷ step_field s k 0 ∷ step_field s k 1 ∷ step_field s k 2 ∷ step_field s k 3 ∷ []

-- ── Written again ──

entry_written : (op a b : ℕ) → op < 3 → (cell 0 op 2 ≡ no_role → b ≡ 0) → entry_bytes (entry_of op a b) ≡ op ∷ a ∷ b ∷ []
unfolding entry_bytes entry_of two_code cell byte
entry_written zero a b h f = let z : b ≡ 0 = f refl in rw z
entry_written (suc zero) a b h f = refl
entry_written (suc (suc zero)) a b h f = refl
entry_written (suc (suc (suc op))) a b h f = absurd (omega arith)

act_written : (op a b x y : ℕ) → op < 6 → (cell 1 op 1 ≡ no_role → a ≡ 0) → (cell 1 op 2 ≡ no_role → b ≡ 0) → (cell 1 op 3 ≡ no_role → x ≡ 0) → (cell 1 op 4 ≡ no_role → y ≡ 0)
    → step_bytes (act_of op a b x y) ≡ op ∷ a ∷ b ∷ x ∷ y ∷ []
unfolding step_bytes act_of cell byte
act_written zero a b x y h fa fb fx fy = rw (fx refl, fy refl)
act_written (suc zero) a b x y h fa fb fx fy = rw (fb refl, fy refl)
act_written (suc (suc zero)) a b x y h fa fb fx fy = rw (fa refl, fb refl, fy refl)
act_written (suc (suc (suc zero))) a b x y h fa fb fx fy = rw (fx refl, fy refl)
act_written (suc (suc (suc (suc zero)))) a b x y h fa fb fx fy = rw (fb refl)
act_written (suc (suc (suc (suc (suc zero))))) a b x y h fa fb fx fy = rw (fy refl)
act_written (suc (suc (suc (suc (suc (suc op)))))) a b x y h fa fb fx fy = absurd (omega arith)

module _ (s : List ℕ) (n : Entered s) where
  pub term_written : (i : ℕ) → i < terms s → entry_bytes (term_at s i) ≡ three_bytes s i
  unfolding term_at role
  term_written i h = entry_written (code s 0 (terms_at s) i) (term_field s i 0) (term_field s i 1) (term_code_lem s n i h) (term_unused s n i h 1 (omega arith))

  pub step_written : (k : ℕ) → k < steps s → step_bytes (step_at s k) ≡ five_bytes s k
  unfolding step_at role
  step_written k h =
      act_written (code s 1 (steps_at s) k) (step_field s k 0) (step_field s k 1) (step_field s k 2) (step_field s k 3) (step_code_lem s n k h)
      (step_unused s n k h 0 (omega arith)) (step_unused s n k h 1 (omega arith)) (step_unused s n k h 2 (omega arith)) (step_unused s n k h 3 (omega arith))

-- ── What a term names ──

-- a term's first field is its symbol and its second is not used, or its fields are its two parts
pub data TermNames (s : List ℕ) (i : ℕ) : Entry signature1 ℕ → Type 0 where
  a_symbol : {x : ℕ} → term_role s i 0 ≡ symbol_role → term_field s i 0 ≡ x → term_role s i 1 ≡ no_role → TermNames s i (leaf_entry x)
  two_parts : {k : Two Seal1} {a b : ℕ} → term_role s i 0 ≡ part_role → term_field s i 0 ≡ a → term_role s i 1 ≡ part_role → term_field s i 1 ≡ b
      → TermNames s i (kind_entry (build2 k a b))

pub left_part : {s : List ℕ} {i a : ℕ} → term_role s i 0 ≡ part_role → term_field s i 0 ≡ a → HasPart s i a
left_part r f = record { at = 0; among = omega arith; is_part = r; names = f }

pub right_part : {s : List ℕ} {i a : ℕ} → term_role s i 1 ≡ part_role → term_field s i 1 ≡ a → HasPart s i a
right_part r f = record { at = 1; among = omega arith; is_part = r; names = f }

-- equal bytes, one by one
pub three_same : {a b c d e f : ℕ} → ◌≡◌ {A = List ℕ} (a ∷ b ∷ c ∷ []) (d ∷ e ∷ f ∷ []) → (d ≡ a) × (e ≡ b) × (f ≡ c)
three_same h = (cc, cc, cc)

pub five_same : {a b c d e f g h i j : ℕ} → ◌≡◌ {A = List ℕ} (a ∷ b ∷ c ∷ d ∷ e ∷ []) (f ∷ g ∷ h ∷ i ∷ j ∷ []) → (f ≡ a) × (g ≡ b) × (h ≡ c) × (i ≡ d) × (j ≡ e)
five_same q = (cc, cc, cc, cc, cc)

pub term_role_lem : (s : List ℕ) (i op j : ℕ) → code s 0 (terms_at s) i ≡ op → term_role s i j ≡ cell 0 op (j + 1)
unfolding role
term_role_lem s i op j e = rw e

pub step_role_lem : (s : List ℕ) (k op j : ℕ) → code s 1 (steps_at s) k ≡ op → step_role s k j ≡ cell 1 op (j + 1)
unfolding role
step_role_lem s k op j e = rw e

-- the parts of a kind with two
kind_roles : (k : Two Seal1) → (cell 0 (two_code k) 1 ≡ part_role) × (cell 0 (two_code k) 2 ≡ part_role)
unfolding two_code cell byte
kind_roles pairing = (refl, refl)
kind_roles (seal encryption) = (refl, refl)

names_of : (s : List ℕ) (i : ℕ) (e : Entry signature1 ℕ) → entry_bytes e ≡ three_bytes s i → TermNames s i e
unfolding entry_bytes cell byte
names_of s i (leaf_entry x) q = let (c, a, b) = three_same q in a_symbol (term_role_lem s i 0 0 c) a (term_role_lem s i 0 1 c)
names_of s i (kind_entry (build1 k a)) q = elim k [ ]
names_of s i (kind_entry (build2 k a b)) q =
    let (c, e, f) = three_same q in
    let (l, r) = kind_roles k in
    two_parts (term_role_lem s i (two_code k) 0 c ∙ l) e (term_role_lem s i (two_code k) 1 c ∙ r) f

-- ── What a step uses and binds ──

module _ (s : List ℕ) (k : ℕ) where
  use_of : (op j t : ℕ) → j < 2 → code s 1 (steps_at s) k ≡ op → cell 1 op (j + 1) ≡ step_term_role → step_field s k j ≡ t → Uses s k t
  use_of op j t h c r f = record { at = j; among = h; is_term = step_role_lem s k op j c ∙ r; names = f }

  uses_of : (p : Act signature1 ℕ) → step_bytes p ≡ five_bytes s k → All (Uses s k) (operands signature1 p)
  unfolding step_bytes operands cell byte
  uses_of (send a b) q = let (c, fa, fb, fx, fy) = five_same q in all_cons (use_of 0 0 a (omega arith) c refl fa) (all_cons (use_of 0 1 b (omega arith) c refl fb) all_nil)
  uses_of (receive a x) q = let (c, fa, fb, fx, fy) = five_same q in all_cons (use_of 1 0 a (omega arith) c refl fa) all_nil
  uses_of (fresh x) q = all_nil
  uses_of (compare a b) q = let (c, fa, fb, fx, fy) = five_same q in all_cons (use_of 3 0 a (omega arith) c refl fa) (all_cons (use_of 3 1 b (omega arith) c refl fb) all_nil)
  uses_of (split a x y) q = let (c, fa, fb, fx, fy) = five_same q in all_cons (use_of 4 0 a (omega arith) c refl fa) all_nil
  uses_of (decrypt e a b x) q = let (c, fa, fb, fx, fy) = five_same q in all_cons (use_of 5 0 a (omega arith) c refl fa) (all_cons (use_of 5 1 b (omega arith) c refl fb) all_nil)

  variable_of : (op j x : ℕ) → 2 ≤ j → j < 4 → code s 1 (steps_at s) k ≡ op → cell 1 op (j + 1) ≡ variable_role → step_field s k j ≡ x → Binds s k x
  variable_of op j x l h c r f = record { at = j; from = l; among = h; binds = inr (step_role_lem s k op j c ∙ r); names = f }

  binds_of : (p : Act signature1 ℕ) → step_bytes p ≡ five_bytes s k → All (Binds s k) (binders signature1 p)
  unfolding step_bytes binders cell byte
  binds_of (send a b) q = all_nil
  binds_of (receive a x) q = let (c, fa, fb, fx, fy) = five_same q in all_cons (variable_of 1 2 x (omega arith) (omega arith) c refl fx) all_nil
  binds_of (fresh x) q =
      let (c, fa, fb, fx, fy) = five_same q in
      all_cons (record { at = 2; from = omega arith; among = omega arith; binds = inl (step_role_lem s k 2 2 c); names = fx }) all_nil
  binds_of (compare a b) q = all_nil
  binds_of (split a x y) q =
      let (c, fa, fb, fx, fy) = five_same q in
      all_cons (variable_of 4 2 x (omega arith) (omega arith) c refl fx) (all_cons (variable_of 4 3 y (omega arith) (omega arith) c refl fy) all_nil)
  binds_of (decrypt e a b x) q = let (c, fa, fb, fx, fy) = five_same q in all_cons (variable_of 5 2 x (omega arith) (omega arith) c refl fx) all_nil

  -- the two that a split binds differ
  apart_of : (p : Act signature1 ℕ) → step_bytes p ≡ five_bytes s k → BindsNew s k → Distinct (binders signature1 p)
  unfolding step_bytes binders cell byte
  apart_of (send a b) q w = di_nil
  apart_of (receive a x) q w = di_cons all_nil di_nil
  apart_of (fresh x) q w = di_cons all_nil di_nil
  apart_of (compare a b) q w = di_nil
  apart_of (split a x y) q w =
      let (c, fa, fb, fx, fy) = five_same q in
      let d : ¬ (x ≡ y) = λ e. w.two_differ (inr (step_role_lem s k 4 2 c)) (inr (step_role_lem s k 4 3 c)) (fx ∙ e ∙ sym fy) in
      di_cons (all_cons d all_nil) (di_cons all_nil di_nil)
  apart_of (decrypt e a b x) q w = di_cons all_nil di_nil

  -- a restriction's field
  fresh_of : (x : ℕ) → step_bytes (fresh x) ≡ five_bytes s k → (step_role s k 2 ≡ name_role) × (step_field s k 2 ≡ x)
  unfolding step_bytes cell byte
  fresh_of x q = let (c, fa, fb, fx, fy) = five_same q in (step_role_lem s k 2 2 c, fx)

module _ (s : List ℕ) (n : Entered s) where
  -- what each term names
  pub term_names_lem : (i : ℕ) → i < terms s → TermNames s i (term_at s i)
  term_names_lem i h = names_of s i (term_at s i) (term_written s n i h)

  -- the operands of a step are what it uses, and its binders what it binds
  pub step_uses : (k : ℕ) → k < steps s → All (Uses s k) (operands signature1 (step_at s k))
  step_uses k h = uses_of s k (step_at s k) (step_written s n k h)

  pub step_binds : (k : ℕ) → k < steps s → All (Binds s k) (binders signature1 (step_at s k))
  step_binds k h = binds_of s k (step_at s k) (step_written s n k h)

  pub step_apart : (k : ℕ) → k < steps s → BindsNew s k → Distinct (binders signature1 (step_at s k))
  step_apart k h w = apart_of s k (step_at s k) (step_written s n k h) w

  pub step_fresh : (k x : ℕ) → k < steps s → fresh x ≡ step_at s k → (step_role s k 2 ≡ name_role) × (step_field s k 2 ≡ x)
  step_fresh k x h e = fresh_of s k x (ap step_bytes e ∙ step_written s n k h)

  -- equal terms have equal bytes
  pub term_same : (i j : ℕ) → i < terms s → j < terms s → term_at s i ≡ term_at s j
      → (code s 0 (terms_at s) i ≡ code s 0 (terms_at s) j) × (term_field s i 0 ≡ term_field s j 0) × (term_field s i 1 ≡ term_field s j 1)
  term_same i j h l e = three_same (sym (term_written s n j l) ∙ sym (ap entry_bytes e) ∙ term_written s n i h)
