-- E1 passes the checks that typing assumes, so the theorems say something of it. Assumes nothing.
use mathlib.Core.Path.{◌≡◌, refl}
use mathlib.Core.List.{[], ◌∷◌}
use Prim.Native.Nat.{ℕ, zero, suc, ◌<◌}
use native.Mathlib.Omega.{arith}
use Rattle.calculus.specs.Terms.{leaf, Act, send, receive, fresh, decrypt, map_act, operands, binders, bound}
use Rattle.calculus.specs.Tables.{entry_tree, trees_from, Lower, low_leaf, entry_at, process}
use Rattle.calculus.specs.Scope.{In, All, all_nil, all_cons, Distinct, di_nil, di_cons, Lacks, la_symbol, Scoped, sc_nil, sc_step, RestrictsNames}
use Rattle.calculus.specs.Typing.{Checked}
use Rattle.calculus.specs.Version1.{signature1, encryption}
use Rattle.calculus.specs.ExampleTables.{E1}
use Rattle.calculus.proofs.Lists.{all_in}

closed : (i : ℕ) → i < 4 → Lower signature1 i (entry_at signature1 0 E1.entries i)
closed zero h = low_leaf
closed (suc zero) h = low_leaf
closed (suc (suc zero)) h = low_leaf
closed (suc (suc (suc zero))) h = low_leaf
closed (suc (suc (suc (suc i)))) h = absurd (omega arith)

below : (i : ℕ) → i < 4 → i < 4
below i h = h

ranges : All (λ s. All (λ i. i < 4) (operands signature1 s)) E1.steps
unfolding operands
ranges = all_cons (all_cons (below 0 (omega arith)) all_nil)
    (all_cons (all_cons (below 2 (omega arith)) (all_cons (below 1 (omega arith)) all_nil))
    (all_cons (all_cons (below 0 (omega arith)) (all_cons (below 3 (omega arith)) all_nil)) all_nil))

-- no step is a restriction
not_receive : {A : Type 0} (a y x : ℕ) → ◌≡◌ {A = Act signature1 ℕ} (fresh x) (receive a y) → A
not_receive a y x e = absurd (let z : ◌≡◌ {A = ℕ} 0 1 = cc in omega arith)

not_decrypt : {A : Type 0} (a b y x : ℕ) → ◌≡◌ {A = Act signature1 ℕ} (fresh x) (decrypt encryption a b y) → A
not_decrypt a b y x e = absurd (let z : ◌≡◌ {A = ℕ} 0 1 = cc in omega arith)

not_send : {A : Type 0} (a b x : ℕ) → ◌≡◌ {A = Act signature1 ℕ} (fresh x) (send a b) → A
not_send a b x e = absurd (let z : ◌≡◌ {A = ℕ} 0 1 = cc in omega arith)

no_fresh : All (λ s. (x : ℕ) → fresh x ≡ s → ⊥) E1.steps
no_fresh = all_cons (λ x e. not_receive 0 2 x e) (all_cons (λ x e. not_decrypt 2 1 3 x e) (all_cons (λ x e. not_send 0 3 x e) all_nil))

restricts : RestrictsNames signature1 E1.sorts E1.steps
restricts x i = absurd (all_in no_fresh (fresh x) i x refl)

apart : (x y : ℕ) → x < y → ¬ (x ≡ y)
apart x y h e = omega arith

apart' : (x y : ℕ) → y < x → ¬ (x ≡ y)
apart' x y h e = omega arith

once : Distinct (bound signature1 (process signature1 E1))
unfolding trees_from entry_tree map_act bound binders
once = di_cons (all_cons (apart 2 3 (omega arith)) all_nil) (di_cons all_nil di_nil)

lacks : (x y : ℕ) → y < x → Lacks signature1 x (leaf y)
lacks x y h = la_symbol (apart' x y h)

scope0 : All (λ x. All (Lacks signature1 x) (leaf 0 ∷ [])) (2 ∷ 3 ∷ [])
scope0 = all_cons (all_cons (lacks 2 0 (omega arith)) all_nil) (all_cons (all_cons (lacks 3 0 (omega arith)) all_nil) all_nil)

scope1 : All (λ x. All (Lacks signature1 x) (leaf 2 ∷ leaf 1 ∷ [])) (3 ∷ [])
scope1 = all_cons (all_cons (lacks 3 2 (omega arith)) (all_cons (lacks 3 1 (omega arith)) all_nil)) all_nil

scope2 : (x : ℕ) → In x [] → All (Lacks signature1 x) (leaf 0 ∷ leaf 3 ∷ [])
scope2 x i = elim i [ ]

scoped : Scoped signature1 (process signature1 E1)
unfolding trees_from entry_tree map_act bound binders operands
scoped = sc_step (all_in scope0) (sc_step (all_in scope1) (sc_step scope2 sc_nil))

pub e1_checked : Checked signature1 E1
e1_checked = record { closed = closed; in_range = λ s i p q. all_in (all_in ranges s p) i q; restricts = restricts; once = once; scoped = scoped }
