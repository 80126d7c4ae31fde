-- What a renaming of symbols keeps: numbers 9 and 10 do not arise where they did not before. Assumes nothing.
use mathlib.Core.Path.{◌≡◌, refl, sym, ap, ◌∙◌}
use mathlib.Core.Logic.{◌⊎◌, inl, inr}
use mathlib.Core.Option.{Option, none, some, some_inj, none-ne-some}
use mathlib.Core.List.{List, [], ◌∷◌, ◌++◌, map}
use Prim.Native.Nat.{ℕ, zero, suc, ◌<◌}
use native.Mathlib.Decide.{ℕ_discrete}
use native.Mathlib.Omega.{arith}
use lib.ListN.{length}
use Rattle.calculus.specs.Terms.{Tree, Act, send, receive, fresh, compare, split, decrypt, map_act, operands, binders, bound}
use Rattle.calculus.specs.Tables.{Table, process}
use Rattle.calculus.specs.Scope.{In, here, there, All, all_nil, all_cons, Lacks, la_symbol, la_two, Scoped, sc_nil, sc_step}
use Rattle.calculus.specs.Figure2.{T as Types, Env, ◌⊢◌∶◌ as Has, T-Var, T-Pair, T-ShKC, T-One, T-Sub, ◌<:◌ as Sub}
use Rattle.calculus.specs.Typing.{allowed, Typed, P-Nil, P-Out, P-In, P-Restr, P-Match, P-PSplit, P-ShKD, start}
use Rattle.calculus.specs.Version1.{signature1}
use Rattle.calculus.proofs.Environments.{sub_refl}
use Rattle.calculus.proofs.Lists.{all_in, in_append, in_append_left, in_append_right, in_unmap}
use Rattle.text.specs.Right.{Right}
use Rattle.text.specs.Renaming.{rename_term, rename_step}
use Rattle.text.specs.Statements.{KeepsScope, KeepsTyping}
use Rattle.text.proofs.EntryLaws.{tree}
use Rattle.text.proofs.WrittenForm.{Shaped, shaped_leaf, shaped_two, shaped_at}

abbrev Tr : Type 0
Tr = Tree signature1 ℕ

-- a step whose symbols are below n
pub record StepBelow (n : ℕ) (s : Act signature1 Tr) : Type 0 where
  pub terms : All (λ M. (l : ℕ) × Shaped n l M) (operands signature1 s)
  pub symbols : All (λ x. x < n) (binders signature1 s)

-- the steps of a table in form
pub process_below : (t : Table signature1) → Right t → All (StepBelow (length t.sorts)) (process signature1 t)
unfolding map_act operands binders
process_below t r = go t.steps (λ s i p q. r.operands_there s i p q) (λ s x p q. r.binders_there s x p q)
  where
    below : (s : Act signature1 ℕ) → ((i : ℕ) → In i (operands signature1 s) → i < length t.entries) → ((x : ℕ) → In x (binders signature1 s) → x < length t.sorts)
        → StepBelow (length t.sorts) (map_act signature1 (tree t.entries) s)
    below (send a b) f g = record { terms = all_cons (a, shaped_at t r a (f a here)) (all_cons (b, shaped_at t r b (f b (there here))) all_nil); symbols = all_nil }
    below (receive a x) f g = record { terms = all_cons (a, shaped_at t r a (f a here)) all_nil; symbols = all_cons (g x here) all_nil }
    below (fresh x) f g = record { terms = all_nil; symbols = all_cons (g x here) all_nil }
    below (compare a b) f g = record { terms = all_cons (a, shaped_at t r a (f a here)) (all_cons (b, shaped_at t r b (f b (there here))) all_nil); symbols = all_nil }
    below (split a x y) f g =
        record { terms = all_cons (a, shaped_at t r a (f a here)) all_nil; symbols = all_cons (g x here) (all_cons (g y (there here)) all_nil) }
    below (decrypt c a b x) f g =
        record { terms = all_cons (a, shaped_at t r a (f a here)) (all_cons (b, shaped_at t r b (f b (there here))) all_nil); symbols = all_cons (g x here) all_nil }

    go : (ss : List (Act signature1 ℕ)) → ((s : Act signature1 ℕ) (i : ℕ) → In s ss → In i (operands signature1 s) → i < length t.entries)
        → ((s : Act signature1 ℕ) (x : ℕ) → In s ss → In x (binders signature1 s) → x < length t.sorts)
        → All (StepBelow (length t.sorts)) (map (map_act signature1 (tree t.entries)) ss)
    go [] f g = all_nil
    go (s ∷ ss) f g = all_cons (below s (λ i p. f s i here p) (λ x p. g s x here p)) (go ss (λ u i p q. f u i (there p) q) (λ u x p q. g u x (there p) q))

module _ (ρ : ℕ → ℕ) (n : ℕ) (apart : (x y : ℕ) → x < n → y < n → ρ x ≡ ρ y → x ≡ y) where
  -- ── Scope ──

  lacks_renamed : (x : ℕ) {l : ℕ} {M : Tr} → x < n → Shaped n l M → Lacks signature1 x M → Lacks signature1 (ρ x) (rename_term ρ M)
  unfolding rename_term
  lacks_renamed x h (shaped_leaf {x = y} k) (la_symbol ne) = la_symbol (λ e. ne (apart x y h k e))
  lacks_renamed x h (shaped_two a b) (la_two p q) = la_two (lacks_renamed x h a p) (lacks_renamed x h b q)

  -- a renamed step's operands
  operands_lack : (x : ℕ) → x < n → (s : Act signature1 Tr) → StepBelow n s → All (Lacks signature1 x) (operands signature1 s) → All (Lacks signature1 (ρ x)) (operands signature1 (rename_step ρ s))
  unfolding operands rename_step
  operands_lack x h (send M N) w (all_cons p (all_cons q all_nil)) = two_lack w.terms
    where
      two_lack : All (λ M. (l : ℕ) × Shaped n l M) (M ∷ N ∷ []) → All (Lacks signature1 (ρ x)) (rename_term ρ M ∷ rename_term ρ N ∷ [])
      two_lack (all_cons a (all_cons b all_nil)) = all_cons (lacks_renamed x h a.1 p) (all_cons (lacks_renamed x h b.1 q) all_nil)
  operands_lack x h (receive M y) w (all_cons p all_nil) = one_lack w.terms
    where
      one_lack : All (λ M. (l : ℕ) × Shaped n l M) (M ∷ []) → All (Lacks signature1 (ρ x)) (rename_term ρ M ∷ [])
      one_lack (all_cons a all_nil) = all_cons (lacks_renamed x h a.1 p) all_nil
  operands_lack x h (fresh y) w all_nil = all_nil
  operands_lack x h (compare M N) w (all_cons p (all_cons q all_nil)) = two_lack w.terms
    where
      two_lack : All (λ M. (l : ℕ) × Shaped n l M) (M ∷ N ∷ []) → All (Lacks signature1 (ρ x)) (rename_term ρ M ∷ rename_term ρ N ∷ [])
      two_lack (all_cons a (all_cons b all_nil)) = all_cons (lacks_renamed x h a.1 p) (all_cons (lacks_renamed x h b.1 q) all_nil)
  operands_lack x h (split M y z) w (all_cons p all_nil) = one_lack w.terms
    where
      one_lack : All (λ M. (l : ℕ) × Shaped n l M) (M ∷ []) → All (Lacks signature1 (ρ x)) (rename_term ρ M ∷ [])
      one_lack (all_cons a all_nil) = all_cons (lacks_renamed x h a.1 p) all_nil
  operands_lack x h (decrypt c M N y) w (all_cons p (all_cons q all_nil)) = two_lack w.terms
    where
      two_lack : All (λ M. (l : ℕ) × Shaped n l M) (M ∷ N ∷ []) → All (Lacks signature1 (ρ x)) (rename_term ρ M ∷ rename_term ρ N ∷ [])
      two_lack (all_cons a (all_cons b all_nil)) = all_cons (lacks_renamed x h a.1 p) (all_cons (lacks_renamed x h b.1 q) all_nil)

  -- what a renamed process binds
  binders_renamed : (s : Act signature1 Tr) → binders signature1 (rename_step ρ s) ≡ map ρ (binders signature1 s)
  unfolding binders rename_step
  binders_renamed (send M N) = refl
  binders_renamed (receive M x) = refl
  binders_renamed (fresh x) = refl
  binders_renamed (compare M N) = refl
  binders_renamed (split M x y) = refl
  binders_renamed (decrypt c M N x) = refl

  bound_renamed : (P : List (Act signature1 Tr)) → All (StepBelow n) P → (y : ℕ) → In y (bound signature1 (map (rename_step ρ) P))
      → (x : ℕ) × In x (bound signature1 P) × (x < n) × (ρ x ≡ y)
  unfolding bound
  bound_renamed [] all_nil y p = elim p [ ]
  bound_renamed (s ∷ P) (all_cons w a) y p = go (in_append (binders signature1 (rename_step ρ s)) p) (bound_renamed P a y)
    where
      go : In y (binders signature1 (rename_step ρ s)) ⊎ In y (bound signature1 (map (rename_step ρ) P))
          → (In y (bound signature1 (map (rename_step ρ) P)) → (x : ℕ) × In x (bound signature1 P) × (x < n) × (ρ x ≡ y))
          → (x : ℕ) × In x (binders signature1 s ++ bound signature1 P) × (x < n) × (ρ x ≡ y)
      go (inl q) f =
          let (x, i, e) = in_unmap ρ (binders signature1 s) (rw (binders_renamed s) at q) in
          (x, in_append_left (bound signature1 P) i, all_in w.symbols x i, e)
      go (inr q) f = let (x, i, k, e) = f q in (x, in_append_right (binders signature1 s) i, k, e)

  scoped_renamed : {P : List (Act signature1 Tr)} → All (StepBelow n) P → Scoped signature1 P → Scoped signature1 (map (rename_step ρ) P)
  scoped_renamed all_nil sc_nil = sc_nil
  scoped_renamed (all_cons {x = s} {l = P} w a) (sc_step f g) = sc_step (λ y p. each y (bound_renamed (s ∷ P) (all_cons w a) y p)) (scoped_renamed a g)
    where
      each : (y : ℕ) → (x : ℕ) × In x (bound signature1 (s ∷ P)) × (x < n) × (ρ x ≡ y) → All (Lacks signature1 y) (operands signature1 (rename_step ρ s))
      each y (x, i, k, e) = rw (sym e) (operands_lack x k s w (f x i))

  -- ── Typing ──

  module _ (Γ Δ : Env signature1) (same : (x : ℕ) → x < n → Δ (ρ x) ≡ Γ x) where
    term_typed : {M : Tr} {A : Types signature1} → Has signature1 Γ M A → (l : ℕ) → Shaped n l M → Has signature1 Δ (rename_term ρ M) A
    unfolding rename_term
    term_typed (T-Var {x = x}) l (shaped_leaf h) = rw (sym (same x h)) T-Var
    term_typed (T-Pair p q) zero a = elim a [ ]
    term_typed (T-Pair p q) (suc l) (shaped_two a b) = T-Pair (term_typed p l a) (term_typed q l b)
    term_typed (T-ShKC p q) zero a = elim a [ ]
    term_typed (T-ShKC p q) (suc l) (shaped_two a b) = T-ShKC (term_typed p l a) (term_typed q l b)
    term_typed (T-One {k = k} p) l a = elim k [ ]
    term_typed (T-Sub p e) l a = T-Sub (term_typed p l a) e

    -- the terms of a step
    one_shaped : {M : Tr} {l : List Tr} → All (λ M. (l : ℕ) × Shaped n l M) (M ∷ l) → (l : ℕ) × Shaped n l M
    one_shaped (all_cons a r) = a

    next_shaped : {M N : Tr} {l : List Tr} → All (λ M. (l : ℕ) × Shaped n l M) (M ∷ N ∷ l) → (l : ℕ) × Shaped n l N
    next_shaped (all_cons a (all_cons b r)) = b

    one_below : {x : ℕ} {l : List ℕ} → All (λ x. x < n) (x ∷ l) → x < n
    one_below (all_cons h r) = h

    next_below : {x y : ℕ} {l : List ℕ} → All (λ x. x < n) (x ∷ y ∷ l) → y < n
    next_below (all_cons h (all_cons k r)) = k

    typed_renamed : {P : List (Act signature1 Tr)} → Typed signature1 Γ P → All (StepBelow n) P → Typed signature1 Δ (map (rename_step ρ) P)
    unfolding rename_step operands binders
    typed_renamed P-Nil all_nil = P-Nil
    typed_renamed (P-Out p q r) (all_cons w a) =
        let (l, b) = one_shaped w.terms in
        let (m, c) = next_shaped w.terms in
        P-Out (term_typed p l b) (term_typed q m c) (typed_renamed r a)
    typed_renamed (P-In p r) (all_cons w a) = let (l, b) = one_shaped w.terms in P-In (term_typed p l b) (typed_renamed r a)
    typed_renamed (P-Restr {n = x} p r) (all_cons w a) = P-Restr {n = ρ x} (rw (same x (one_below w.symbols)) p) (typed_renamed r a)
    typed_renamed (P-Match p q r) (all_cons w a) =
        let (l, b) = one_shaped w.terms in
        let (m, c) = next_shaped w.terms in
        P-Match (term_typed p l b) (term_typed q m c) (typed_renamed r a)
    typed_renamed (P-PSplit {M = M} {x = x} {y = y} p r) (all_cons w a) =
        let (l, b) = one_shaped w.terms in
        P-PSplit {M = rename_term ρ M} {x = ρ x} {y = ρ y} (rw (same x (one_below w.symbols), same y (next_below w.symbols)) (term_typed p l b)) (typed_renamed r a)
    typed_renamed (P-ShKD {s = c} {M = M} {x = x} p q r) (all_cons w a) =
        let (l, b) = one_shaped w.terms in
        let (m, e) = next_shaped w.terms in
        P-ShKD {s = c} {M = rename_term ρ M} {x = ρ x} (rw (same x (one_below w.symbols)) (term_typed p l b)) (term_typed q m e) (typed_renamed r a)

-- ── The old symbol of a new one ──

-- this one, if it is sent there
unfoldable pub either : {A : Type 0} → Dec A → ℕ → Option ℕ → Option ℕ
either (yes p) m o = some m
either (no n) m o = o

-- the highest symbol below m that is sent to y
unfoldable pub sent_back : (ℕ → ℕ) → ℕ → ℕ → Option ℕ
sent_back ρ zero y = none
sent_back ρ (suc m) y = either (ℕ_discrete (ρ m) y) m (sent_back ρ m y)

back_is : (ρ : ℕ → ℕ) (m y x : ℕ) → sent_back ρ m y ≡ some x → (x < m) × (ρ x ≡ y)
unfolding sent_back either
back_is ρ zero y x e = absurd (none-ne-some x e)
back_is ρ (suc m) y x e = go (ℕ_discrete (ρ m) y) e (back_is ρ m y x)
  where
    go : (D : Dec (ρ m ≡ y)) → either D m (sent_back ρ m y) ≡ some x → (sent_back ρ m y ≡ some x → (x < m) × (ρ x ≡ y)) → (x < suc m) × (ρ x ≡ y)
    go (yes p) e f = let q : m ≡ x = some_inj.0 e in (omega arith, rw (sym q) p)
    go (no n) e f = let (h, p) = f e in (omega arith, p)

back_there : (ρ : ℕ → ℕ) (m y x : ℕ) → x < m → ρ x ≡ y → (z : ℕ) × (sent_back ρ m y ≡ some z)
unfolding sent_back either
back_there ρ zero y x h e = absurd (omega arith)
back_there ρ (suc m) y x h e = go (ℕ_discrete (ρ m) y) (λ l. back_there ρ m y x l e)
  where
    go : (D : Dec (ρ m ≡ y)) → (x < m → (z : ℕ) × (sent_back ρ m y ≡ some z)) → (z : ℕ) × (either D m (sent_back ρ m y) ≡ some z)
    go (yes p) f = (m, refl)
    go (no n) f = f (lower n)
      where
        lower : ¬ (ρ m ≡ y) → x < m
        lower n = at (ℕ_discrete x m)
          where
            at : Dec (x ≡ m) → x < m
            at (yes q) = absurd (n (ap ρ (sym q) ∙ e))
            at (no q) = omega arith

-- the type of a new symbol is that of the old one; where there is none, the widest that its sort allows
unfoldable pub type_back : Env signature1 → Types signature1 → Option ℕ → Types signature1
type_back Γ A none = A
type_back Γ A (some x) = Γ x

-- ── The statements ──

pub keeps_scope : KeepsScope
keeps_scope t u r n s = rw n.same_process (scoped_renamed n.to (length t.sorts) n.apart (process_below t r) s)

pub keeps_typing : KeepsTyping
unfolding type_back
keeps_typing t u r n Γ (below, typed) = (Δ, (under, rw n.same_process (typed_renamed n.to S n.apart Γ Δ same typed (process_below t r))))
  where
    S : ℕ
    S = length t.sorts

    Δ : Env signature1
    Δ y = type_back Γ (start signature1 u.sorts y) (sent_back n.to (length t.sorts) y)

    same : (x : ℕ) → x < length t.sorts → type_back Γ (start signature1 u.sorts (n.to x)) (sent_back n.to (length t.sorts) (n.to x)) ≡ Γ x
    same x h =
        let (z, e) = back_there n.to (length t.sorts) (n.to x) x h refl in
        let (k, p) = back_is n.to (length t.sorts) (n.to x) z e in
        rw e (ap Γ (n.apart z x k h p))

    under : (y : ℕ) → Sub signature1 (type_back Γ (start signature1 u.sorts y) (sent_back n.to (length t.sorts) y)) (start signature1 u.sorts y)
    under y = go (sent_back n.to (length t.sorts) y) refl
      where
        go : (o : Option ℕ) → sent_back n.to (length t.sorts) y ≡ o → Sub signature1 (type_back Γ (start signature1 u.sorts y) o) (start signature1 u.sorts y)
        go none e = sub_refl signature1 (start signature1 u.sorts y)
        go (some x) e =
            let (k, p) = back_is n.to (length t.sorts) y x e in
            let q : start signature1 u.sorts y ≡ start signature1 t.sorts x =
            ap (start signature1 u.sorts) (sym p) ∙ ap (allowed signature1) (n.same_sorts x k) in
            rw q (below x)
