-- What is handed out as a symbol's type: nothing exactly where document 01 says so, and otherwise the bytes of exactly one type.
-- Assumes nothing.
use mathlib.Core.Path.{◌≡◌, refl, sym, ◌∙◌}
use mathlib.Core.Bool.{Bool, true, false}
use mathlib.Core.Logic.{◌↔◌, ◌⊎◌, inl, inr}
use mathlib.Core.List.{List, [], ◌∷◌, append-nil}
use Prim.Native.Nat.{ℕ, ◌≤◌, ◌<◌}
use native.Mathlib.Omega.{arith}
use lib.Dec.{ltb, leb}
use lib.ListN.{length}
use borrow.Author.Tests.{ltb-false, le-ltb, le-leb}
use Rattle.base.specs.Search.{Search, clean, wrong, first}
use Rattle.base.specs.Pick.{both}
use Rattle.base.proofs.Searched.{Found, all_are_right, first_bad, found}
use Rattle.answers.specs.Ladder.{least, Check}
use Rattle.answers.specs.Least.{Fault, Least, none, lowest}
use Rattle.answers.specs.declared.Refusal.{Refusal}
use Rattle.answers.proofs.Ladder.{after_pass}
use Rattle.opening.specs.Opening.{version}
use Rattle.types.specs.Version1.{codes1, T, bytes}
use Rattle.types.proofs.PrefixLaws.{not_empty}
use Rattle.list.specs.Layout.{symbols, body_at, past_type, type_at, wants, type_ok_at, type_ok}
use Rattle.list.specs.Faults.{frame_rungs, type_rung, type_rungs}
use Rattle.list.specs.TypeOf.{passed, has_type, type_bytes, FrameFault, MalformedType}
use Rattle.answers.proofs.Passes.{layers_passed, first_passed, rung_passes}
use Rattle.base.proofs.BothLaws.{clash, both_parts}
use Rattle.list.specs.Right.{Framed}
use Rattle.list.proofs.Framed.{frame_passes, type_inside}
use Rattle.list.proofs.Parts.{has_type_lem}
use Rattle.list.proofs.TypesExact.{types_exact, type_once}
use Rattle.list.proofs.LeastFault.{frame_least_fault}
use Rattle.std.proofs.Common.{Ok, Err}

-- after 1 to 4 a type is in order exactly if its bytes are a type's
pub type_ok_exact : (s : List ℕ) (i : ℕ) → Framed s → i < symbols s → (type_ok s i ≡ true) ↔ ((A : T) × (body_at s (type_at s i) ≡ bytes A))
unfolding type_ok type_ok_at
type_ok_exact s i f h =
    let p = type_at s i in (
      λ e. (types_exact (body_at s p)).0 (rw f.version_one at (both_parts (leb (past_type s p) (length s)) (wants (version s) 1 (body_at s p)) e).1),
      λ w. rw (le-leb (past_type s p) (length s) (type_inside s i f.length_exact h), f.version_one) ((types_exact (body_at s p)).1 w),
    )

-- a type has a byte at least
some_bytes_there : (A : T) → [] ≡ bytes A → ⊥
some_bytes_there A e = not_empty codes1 A [] (e ∙ sym (append-nil (bytes A)))

-- the answer Pass says that there is no fault
fault_none : (s : List ℕ) (y : Refusal) → Fault y (frame_rungs s) → least (frame_rungs s) ≡ Ok tt → ⊥
fault_none s y f p = go (rw p at (frame_least_fault s))
  where
    go : Least (frame_rungs s) (Ok tt) → ⊥
    go (none n) = n y f

-- and of the types, that none is malformed
none_malformed : (s : List ℕ) → MalformedType s → (least (frame_rungs s) ≡ Ok tt) × (least (type_rung s ∷ []) ≡ Ok tt) → ⊥
none_malformed s (i, h, n) (p, q) = let (A, e) = (type_ok_exact s i ((frame_passes s).0 p) h).0 (first_passed (type_rung s) [] q i h) in n A e

-- a list that has the symbol's type, or hands out nothing
module _ (s : List ℕ) (x : ℕ) where
  bytes_none : has_type s x ≡ false → type_bytes s x ≡ []
  unfolding type_bytes
  bytes_none e = rw e

  bytes_some : has_type s x ≡ true → type_bytes s x ≡ body_at s (type_at s x)
  unfolding type_bytes
  bytes_some e = rw e

  -- the tests of 1 to 4 and of the types do not pass
  not_passed : (least (type_rungs s) ≡ Ok tt → ⊥) → type_bytes s x ≡ []
  unfolding has_type
  not_passed n = go (least (type_rungs s)) refl
    where
      go : (a : Check) → least (type_rungs s) ≡ a → type_bytes s x ≡ []
      go (Ok tt) q = absurd (n q)
      go (Err y) q = bytes_none (rw q)

  past_symbols : symbols s ≤ x → type_bytes s x ≡ []
  unfolding has_type
  past_symbols h = bytes_none (both_false (passed (least (type_rungs s))) (ltb x (symbols s)) (le-ltb x (symbols s) h))
    where
      both_false : (a b : Bool) → b ≡ false → both a b ≡ false
      both_false true b e = e
      both_false false b e = refl

  lacks : has_type s x ≡ false → least (type_rungs s) ≡ Ok tt → symbols s ≤ x
  unfolding has_type
  lacks e q = ltb-false x (symbols s) (rw q at e)

  -- the bytes of a type that is handed out are a type's
  pub handed_type : has_type s x ≡ true → (A : T) × (type_bytes s x ≡ bytes A)
  handed_type e =
      let t = has_type_lem s x e in
      let (A, q) = (type_ok_exact s x t.framed t.among).0 (t.types_right x t.among) in
      (A, bytes_some e ∙ q)

  -- where nothing is handed out, the list does not have the type
  not_handed : type_bytes s x ≡ [] → has_type s x ≡ false
  not_handed e = go (has_type s x) refl
    where
      go : (b : Bool) → has_type s x ≡ b → has_type s x ≡ false
      go false q = q
      go true q = let (A, w) = handed_type q in absurd (some_bytes_there A (sym e ∙ w))

  -- nothing is handed out exactly if the list has a fault 1 to 4, or a malformed type, or lacks the symbol
  pub type_of_empty : (type_bytes s x ≡ []) ↔ (FrameFault s ⊎ (MalformedType s ⊎ (symbols s ≤ x)))
  type_of_empty = (λ e. to (least (frame_rungs s)) refl (frame_least_fault s) (not_handed e), λ w. from w)
    where
      types : Framed s → least (frame_rungs s) ≡ Ok tt → has_type s x ≡ false → (c : Search) → Found (type_ok s) 0 (symbols s) c → FrameFault s ⊎ (MalformedType s ⊎ (symbols s ≤ x))
      types f p e clean (all_are_right g) =
          inr (inr (lacks e (after_pass (frame_rungs s) (type_rung s ∷ []) p ∙ rung_passes (type_rung s) (λ k h. g k (omega arith) h))))
      types f p e (wrong i) (first_bad a h b g) = inr (inl (i, h, λ A q. clash ((type_ok_exact s i f h).1 (A, q)) b))

      to : (a : Check) → least (frame_rungs s) ≡ a → Least (frame_rungs s) a → has_type s x ≡ false → FrameFault s ⊎ (MalformedType s ⊎ (symbols s ≤ x))
      to (Ok tt) q l e = types ((frame_passes s).0 q) q e (first (type_ok s) 0 (symbols s)) (found (type_ok s) 0 (symbols s) (omega arith))
      to (Err y) q (lowest f m) e = inl (y, f)

      from : FrameFault s ⊎ (MalformedType s ⊎ (symbols s ≤ x)) → type_bytes s x ≡ []
      from (inl (y, f)) = not_passed λ p. fault_none s y f (layers_passed (frame_rungs s) (type_rung s ∷ []) p).0
      from (inr (inl m)) = not_passed λ p. none_malformed s m (layers_passed (frame_rungs s) (type_rung s ∷ []) p)
      from (inr (inr h)) = past_symbols h

  -- and otherwise it is the bytes of exactly one type
  pub type_of_type : (type_bytes s x ≡ [] → ⊥) → (A : T) × (type_bytes s x ≡ bytes A) × ((B : T) → type_bytes s x ≡ bytes B → A ≡ B)
  type_of_type n = go (has_type s x) refl
    where
      go : (b : Bool) → has_type s x ≡ b → (A : T) × (type_bytes s x ≡ bytes A) × ((B : T) → type_bytes s x ≡ bytes B → A ≡ B)
      go false q = absurd (n (bytes_none q))
      go true q = let (A, w) = handed_type q in (A, w, λ B e. type_once A B (sym w ∙ e))
