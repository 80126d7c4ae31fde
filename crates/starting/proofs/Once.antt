-- Number 14 has one answer. Assumes nothing.
use mathlib.Core.Path.{◌≡◌, refl, sym, ap, ◌∙◌}
use mathlib.Core.Bool.{true, false, false≢true}
use mathlib.Core.List.{List}
use Prim.Native.Nat.{ℕ, zero, suc, ◌<◌}
use native.Mathlib.Omega.{arith}
use native.Mathlib.Decide.{dec_lt}
use lib.ListN.{length, get_or}
use Rattle.answers.specs.Ladder.{refusal, Check}
use Rattle.entries.specs.Tiling.{listed}
use Rattle.trace.specs.Layout.{startings, starting}
use Rattle.types.specs.Types.{Ty}
use Rattle.types.specs.Version1.{T}
use Rattle.calculus.specs.Terms.{Atom}
use Rattle.calculus.specs.Tables.{Entry}
use Rattle.calculus.specs.Version1.{signature1}
use Rattle.running.specs.Values.{visible, index}
use Rattle.running.specs.Demand3.{Starts, starts_nil, starts_cons, types_of}
use Rattle.decoded.specs.Values.{values_of}
use Rattle.decoded.proofs.Listed.{listed_all_at}
use Rattle.decoded.specs.Table.{free_of, free_count}
use Rattle.starting.specs.Fourteen.{start_fits, Fourteen, starts, wrong_number, lacks}
use Rattle.std.proofs.Common.{Err}

-- each starting value has its type
starts_each : {Γ : ℕ → Ty signature1.types} {es : List (Entry signature1 Atom)} {xs is : List ℕ} → Starts signature1 Γ es xs is
    → (j : ℕ) → j < length xs → visible signature1 (index signature1 es) (Γ (get_or xs j 0)) (get_or is j 0) ≡ true
starts_each starts_nil j h = absurd (omega arith)
starts_each (starts_cons v s) zero h = v
starts_each (starts_cons v s) (suc j) h = starts_each s j (omega arith)

module _ (t : List ℕ) (As : List T) (tr : List ℕ) where
  -- starting value i lacks its type
  abbrev Lacks : ℕ → Type 0
  Lacks i = start_fits As tr (get_or (free_of t) i 0) i ≡ false

  -- none lacks it where all start
  not_both : startings tr ≡ free_count t → Starts signature1 (types_of signature1 As) (values_of tr) (free_of t) (listed (starting tr) 0 (startings tr)) → (i : ℕ) → i < startings tr → ¬ Lacks i
  not_both n s i h f =
      let v = starts_each s i (omega arith) in
      let w : start_fits As tr (get_or (free_of t) i 0) i ≡ true = rw (listed_all_at (starting tr) 0 (startings tr) i h) at v in
      false≢true (sym f ∙ w)

  -- the first that lacks it is one
  first_same : (i j : ℕ) → Lacks i → Lacks j → ((k : ℕ) → k < i → start_fits As tr (get_or (free_of t) k 0) k ≡ true)
      → ((k : ℕ) → k < j → start_fits As tr (get_or (free_of t) k 0) k ≡ true) → i ≡ j
  first_same i j f g a b = go (dec_lt i j) (dec_lt j i)
    where
      go : Dec (i < j) → Dec (j < i) → i ≡ j
      go (yes h) d = absurd (false≢true (sym f ∙ b i h))
      go (no n) (yes h) = absurd (false≢true (sym g ∙ a j h))
      go (no n) (no m) = omega arith

-- no second answer fits
pub fourteen_once : {t : List ℕ} {As : List T} {tr : List ℕ} {a b : Check} → Fourteen t As tr a → Fourteen t As tr b → a ≡ b
fourteen_once {t} {As} {tr} (starts n s) (starts m u) = refl
fourteen_once {t} {As} {tr} (starts n s) (wrong_number m) = absurd (m n)
fourteen_once {t} {As} {tr} (starts n s) (lacks {i = i} m h f g) = absurd (not_both t As tr n s i h f)
fourteen_once {t} {As} {tr} (wrong_number n) (starts m u) = absurd (n m)
fourteen_once {t} {As} {tr} (wrong_number n) (wrong_number m) = refl
fourteen_once {t} {As} {tr} (wrong_number n) (lacks m h f g) = absurd (n m)
fourteen_once {t} {As} {tr} (lacks {i = i} n h f g) (starts m u) = absurd (not_both t As tr m u i h f)
fourteen_once {t} {As} {tr} (lacks n h f g) (wrong_number m) = absurd (m n)
fourteen_once {t} {As} {tr} (lacks {i = i} n h f g) (lacks {i = j} m k u w) = ap (λ (p : ℕ). Err (refusal 14 2 p)) (first_same t As tr i j f u g w)
