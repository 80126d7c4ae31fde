-- Types compared one after the other. Assumes nothing.
use mathlib.Core.Path.{◌≡◌, refl, sym, ap, ◌∙◌}
use mathlib.Core.Bool.{Bool, true, false, not}
use mathlib.Core.Option.{some, some_inj, none-ne-some}
use mathlib.Core.List.{List, [], ◌∷◌}
use Prim.Native.Nat.{ℕ, zero, suc, ◌+◌, ◌≤◌, ◌<◌, min}
use native.Mathlib.Omega.{arith}
use native.Mathlib.Numerals.{add-one}
use lib.ListN.{length, take, get_or, get_elem?}
use lib.Seq.{take_all, take-suc}
use borrow.Author.Tests.{not-false}
use Rattle.std.specs.Str.{bytes_eq}
use Rattle.std.proofs.lemmas.Slice.Eq.{bytes_eq-Decides}
use Rattle.base.specs.Bytes.{byte}
use Rattle.answers.specs.Ladder.{refusal, least, Check}
use Rattle.list.specs.Layout.{symbols, type_at}
use Rattle.list.specs.Faults.{list_rungs}
use Rattle.list.proofs.Framed.{list_passes, type_inside}
use Rattle.list.proofs.Walks.{type_at_next}
use Rattle.list.proofs.TypesExact.{type_once}
use Rattle.entries.proofs.Tiling.{listed_length}
use Rattle.types.specs.Types.{Message}
use Rattle.types.specs.Version1.{T, bytes}
use Rattle.calculus.specs.Figure2.{Env}
use Rattle.calculus.specs.Version1.{signature1}
use Rattle.rendering.specs.Lists.{differ_at}
use Rattle.decoded.proofs.Listed.{listed_all_at}
use Rattle.decoded_list.specs.Decoded.{Decoded}
use Rattle.decoded_list.proofs.Once.{decoded_symbols, decoded_body}
use Rattle.decoded_list.specs.Bytes.{types_to}
use Rattle.slots.specs.Slots.{Holds}
use Rattle.type_lists.specs.Lists.{TypeIs}
use Rattle.type_match.specs.Alike.{alike, unlike, BodyIs, Matched}
use Rattle.std.proofs.Common.{Ok, Err}

-- ── Elements of lists ──

there : (l : List T) (i : ℕ) → i < length l → get_elem? l i ≡ some (get_or l i Message)
there [] i h = absurd (omega arith)
there (a ∷ l) zero h = refl
there (a ∷ l) (suc i) h = there l i (omega arith)

-- lists of different lengths differ where the shorter one ends
ends_apart : (k l : List T) (i : ℕ) → i ≡ min (length k) (length l) → ¬ (length k ≡ length l) → ¬ (get_elem? k i ≡ get_elem? l i)
ends_apart [] [] i e n q = n refl
ends_apart [] (b ∷ l) zero e n q = none-ne-some _ q
ends_apart [] (b ∷ l) (suc i) e n q = absurd (omega arith)
ends_apart (a ∷ k) [] zero e n q = none-ne-some _ (sym q)
ends_apart (a ∷ k) [] (suc i) e n q = absurd (omega arith)
ends_apart (a ∷ k) (b ∷ l) zero e n q = absurd (omega arith)
ends_apart (a ∷ k) (b ∷ l) (suc i) e n q = ends_apart k l i (omega arith) (λ m. n (omega arith)) q

-- ── One comparison ──

-- the first i types are those of the slots
pub record SoFar (l w : List ℕ) (n i : ℕ) : Type 0 where
  pub same : (Γ : Env signature1) (free : ℕ) → Holds w Γ → n ≤ 96 → least (list_rungs l free) ≡ Ok tt → (d : Decoded l) → take i d.types ≡ take i (types_to Γ n)

pub none_yet : (l w : List ℕ) (n : ℕ) → SoFar l w n 0
none_yet l w n = record { same = λ Γ free h m e d. refl }

module _ (l w : List ℕ) (n i : ℕ) (p : SoFar l w n i) where
  -- there are more types, here or there
  pub number_differs : i ≡ min (symbols l) n → ¬ (symbols l ≡ n) → (r : Check) → r ≡ Err (refusal 11 1 i) → Matched l w n r
  number_differs m g r q = rw q (record {
    matched = λ Γ free k f e d. unlike (differ_at (p.same Γ free k f e d) (ends_apart d.types (types_to Γ n) i (rw (decoded_symbols l d, listed_length Γ 0 n) m) (rw (decoded_symbols l d, listed_length Γ 0 n) g)));
  })

  -- all are alike
  pub as_many : i ≡ min (symbols l) n → symbols l ≡ n → Matched l w n (Ok tt)
  as_many g m = record {
    matched = λ Γ free k f e d.
        let s : take i d.types ≡ take i (types_to Γ n) = p.same Γ free k f e d in
        alike (sym (take_all i d.types (omega (arith, decoded_symbols l d))) ∙ s ∙ take_all i (types_to Γ n) (omega (arith, listed_length Γ 0 n)));
  }

  module _ (at : ℕ) (a : at ≡ type_at l i) (h : i < n) (m : i < symbols l) (u v : List ℕ) (b : BodyIs l at u) (t : TypeIs w i v) where
    -- what is compared
    of_list : (free : ℕ) → least (list_rungs l free) ≡ Ok tt → (d : Decoded l) → u ≡ bytes (get_or d.types i Message)
    of_list free e d =
        let f = ((list_passes l free).0 e).framed in
        b.is (rw a (type_inside l i f.length_exact m)) ∙ rw a (decoded_body l d i m)

    of_slot : (Γ : Env signature1) → Holds w Γ → n ≤ 96 → v ≡ bytes (get_or (types_to Γ n) i Message)
    of_slot Γ k f = t.is Γ (omega arith) k ∙ ap (λ (x : T). bytes x) (sym (listed_all_at Γ Message n i h))

    -- they are alike
    pub one_more : u ≡ v → SoFar l w n (i + 1)
    one_more q = record {
      same = λ Γ free k f e d.
          let x : get_or d.types i Message ≡ get_or (types_to Γ n) i Message = type_once _ _ (sym (of_list free e d) ∙ q ∙ of_slot Γ k f) in
          rw add-one (take-suc d.types i Message (omega (arith, decoded_symbols l d)) ∙ rw (p.same Γ free k f e d, x) refl ∙ sym (take-suc (types_to Γ n) i Message (omega (arith, listed_length Γ 0 n))));
    }

    -- they differ
    pub one_differs : ¬ (u ≡ v) → (r : Check) → r ≡ Err (refusal 11 1 i) → Matched l w n r
    one_differs q r j = rw j (record {
      matched = λ Γ free k f e d. unlike (differ_at (p.same Γ free k f e d) (λ z.
          let y : some (get_or d.types i Message) ≡ some (get_or (types_to Γ n) i Message) = sym (there d.types i (omega (arith, decoded_symbols l d))) ∙ z ∙ there (types_to Γ n) i (omega (arith, listed_length Γ 0 n)) in
          q (of_list free e d ∙ ap (λ (x : T). bytes x) (some_inj.0 y) ∙ sym (of_slot Γ k f))));
    })

-- what a comparison tells
pub is_same : (u v : List ℕ) (r : Bool) → r ≡ not (bytes_eq u v) → r ≡ false → u ≡ v
is_same u v r e f = (bytes_eq-Decides u v).0 (not-false (bytes_eq u v) (sym e ∙ f))

pub not_same : (u v : List ℕ) (r : Bool) → r ≡ not (bytes_eq u v) → r ≡ true → ¬ (u ≡ v)
not_same u v r e f q = let g = (bytes_eq-Decides u v).1 q in let y : ◌≡◌ {A = ℕ} 0 1 = cc in absurd (omega arith)

-- where the next type stands
pub next_at : (l : List ℕ) (at i b r : ℕ) → at ≡ type_at l i → b ≡ byte l at → r ≡ at + (b + 1) → r ≡ type_at l (i + 1)
next_at l at i b r a e q = let g : byte l at ≡ byte l (type_at l i) = ap (λ (p : ℕ). byte l p) a in omega (arith, type_at_next l i)
