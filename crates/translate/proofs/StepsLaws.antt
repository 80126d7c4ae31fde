-- The steps one after the other: one step more, and how far the loop has come. Assumes that 1 to 9 pass.
use mathlib.Core.Path.{◌≡◌, refl, sym, ap, ◌∙◌}
use mathlib.Core.List.{List, [], ◌∷◌, ◌++◌, map, append-nil, append_assoc}
use Prim.Native.Nat.{ℕ, suc, ◌+◌, ◌-◌, ◌<◌, ◌≤◌}
use native.Mathlib.Omega.{arith}
use native.Mathlib.Numerals.{add-one}
use lib.ListN.{length, length-append}
use Rattle.answers.specs.Ladder.{least}
use Rattle.buffers.specs.Over.{over}
use Rattle.table_layout.specs.Layout.{terms, steps}
use Rattle.table.specs.Faults.{table_rungs}
use Rattle.calculus.specs.Terms.{Act, operands, binders, Statement}
use Rattle.calculus.specs.Scope.{All, all_cons}
use Rattle.calculus.specs.Version1.{signature1}
use Rattle.calculus.proofs.Lists.{all_map}
use Rattle.rendering.specs.Rendering.{halves}
use Rattle.rendering.specs.Judge.{Meaning, symbol}
use Rattle.rendering.specs.Translation.{build_each, build_term, translate_from}
use Rattle.entries.specs.Tiling.{listed}
use Rattle.decoded.specs.Table.{step_at}
use Rattle.decoded.proofs.Passed.{table_passed}
use Rattle.decoded.proofs.Ranges.{terms_there}
use Rattle.decoded.proofs.Shapes.{step_uses}
use Rattle.decoded.proofs.Holding.{entries_length}
use Rattle.decoded_list.specs.Bytes.{statements_bytes}
use Rattle.decoded.specs.Indexes.{entries_of}
use Rattle.registers.specs.Held.{at_start}
use Rattle.translate.specs.declared.Progress.{Progress}
use Rattle.translate.specs.Stepwise.{Making, built, more, after, operands_built, step_stated, step_bound, step_made, steps_made}
use Rattle.translate.specs.Making.{Stands, Ready, AllReady}
use Rattle.translate.proofs.BuiltLaws.{built_any, term_grows}
use Rattle.translate.proofs.Writing.{twice, ready_first, ready_as}
use Rattle.std.proofs.Common.{Ok}

each_same : (f g : ℕ → List Meaning → Making) (l : List ℕ) → All (λ j. (ns : List Meaning) → f j ns ≡ g j ns) l → (ms : List Meaning) → build_each signature1 f l ms ≡ build_each signature1 g l ms
unfolding build_each
each_same f g [] a ms = refl
each_same f g (j ∷ l) (all_cons p ps) ms = rw (p ms, each_same f g l ps (g j ms).1)

each_grows : (f : ℕ → List Meaning → Making) → ((j : ℕ) (ns : List Meaning) → length ns ≤ length (f j ns).1) → (l : List ℕ) (ms : List Meaning) → length ms ≤ length (build_each signature1 f l ms).1
unfolding build_each
each_grows f h [] ms = omega arith
each_grows f h (j ∷ l) ms = omega (arith, h j ms, each_grows f h l (f j ms).1)

pub steps_grow : (s : List ℕ) (P : List (Act signature1 ℕ)) (ms : List Meaning) → length ms ≤ length (translate_from signature1 (entries_of s) halves P ms).1
unfolding translate_from
steps_grow s [] ms = omega arith
steps_grow s (p ∷ P) ms =
    let f = build_term signature1 (entries_of s) (length (entries_of s)) in
    let ns = (build_each signature1 f (operands signature1 p) ms).1 in
    omega (arith, each_grows f (λ j ks. omega (arith, term_grows (entries_of s) (length (entries_of s)) j ks)) (operands signature1 p) ms, length-append ns (map symbol (binders signature1 p)), steps_grow s P (ns ++ map symbol (binders signature1 p)))

pub grown : (s : List ℕ) (k n : ℕ) (ms : List Meaning) → length ms ≤ length (steps_made s k n ms).1
unfolding steps_made
grown s k n ms = steps_grow s (listed (step_at s) k n) ms

-- how far the loop has come
pub record Come (s : List ℕ) (k : ℕ) (p : Progress) (y out : List ℕ) : Type 0 where
  pub made : Making
  pub rest : more (steps_made s k (steps s - k)) made ≡ steps_made s 0 (steps s) (at_start s)
  pub stands : Stands made p y out

pub many : (s : List ℕ) → least (table_rungs s) ≡ Ok tt → length (entries_of s) ≡ terms s
unfolding entries_of
many s e = entries_length s

module _ (s : List ℕ) (e : least (table_rungs s) ≡ Ok tt) where
  operands_built_lem : (k : ℕ) → k < steps s → (ms : List Meaning) → build_each signature1 (build_term signature1 (entries_of s) (length (entries_of s))) (operands signature1 (step_at s k)) ms ≡ operands_built s k ms
  unfolding operands_built
  operands_built_lem k h ms =
      let n = (table_passed s e).entered in
      each_same (build_term signature1 (entries_of s) (length (entries_of s))) (built s) (operands signature1 (step_at s k)) (all_map (λ j u. each j (terms_there s n k h j u)) (step_uses s n k h)) ms
    where
      each : (j : ℕ) → j < terms s → (ns : List Meaning) → build_term signature1 (entries_of s) (length (entries_of s)) j ns ≡ built s j ns
      each j l ns = built_any s e (length (entries_of s)) j (rw (many s e) l) l ns

  pub steps_more : (k n : ℕ) → k < steps s → (ms : List Meaning) → steps_made s k (suc n) ms ≡ after (step_made s k) (steps_made s (suc k) n) ms
  unfolding steps_made listed translate_from step_made step_stated step_bound
  steps_more k n h ms = rw (operands_built_lem k h ms, append_assoc)

  module _ {p₀ : Progress} {y : List ℕ} (q : AllReady (steps_made s 0 (steps s)) (at_start s) p₀ y) where
    -- at the start
    pub begun : Come s 0 p₀ y y
    begun = record { made = ([], at_start s); rest = let n : steps s - 0 ≡ steps s = omega arith in rw n; stands = q.stands }

    module _ {k : ℕ} {p : Progress} {o : List ℕ} (c : Come s k p y o) where
      module _ (h : k < steps s) where
        one_more : (ms : List Meaning) → steps_made s k (steps s - k) ms ≡ after (step_made s k) (steps_made s (suc k) (steps s - suc k)) ms
        one_more ms = let n : steps s - k ≡ suc (steps s - suc k) = omega arith in rw n (steps_more k (steps s - suc k) h ms)

        rest_ready : Ready (steps_made s k (steps s - k)) c.made p y o
        rest_ready = record { stands = c.stands; fits = rw c.rest q.fits }

        pub step_ready : Ready (step_made s k) c.made p y o
        step_ready =
            ready_first (step_made s k) (steps_made s (suc k) (steps s - suc k)) c.made (ready_as (steps_made s k (steps s - k)) (after (step_made s k) (steps_made s (suc k) (steps s - suc k))) c.made (one_more c.made.1) rest_ready)
            (grown s (suc k) (steps s - suc k) (step_made s k c.made.1).1)

        pub stepped : {p' : Progress} {o' : List ℕ} → Stands (more (step_made s k) c.made) p' y o' → Come s (k + 1) p' y o'
        stepped d = record {
          made = more (step_made s k) c.made;
          rest = rw add-one (twice (step_made s k) (steps_made s (suc k) (steps s - suc k)) c.made ∙ ap (λ (v : Making). (c.made.0 ++ v.0, v.1)) (sym (one_more c.made.1)) ∙ c.rest);
          stands = d;
        }

      -- at the end
      pub finished : steps s ≤ k → o ≡ over (statements_bytes (steps_made s 0 (steps s) (at_start s)).0) y
      unfolding steps_made listed translate_from
      finished h =
          let n : steps s - k ≡ 0 = omega arith in
          let w : (c.made.0 ++ [], c.made.1) ≡ steps_made s 0 (steps s) (at_start s) = rw n at c.rest in
          c.stands.written ∙ ap (λ (v : List (Statement signature1)). over (statements_bytes v) y) (sym (append-nil c.made.0) ∙ ap (λ (v : Making). v.0) w)
