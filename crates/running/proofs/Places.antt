-- Where runs end: after all statements or steps where they finished, else at one of them. Assumes nothing.
use mathlib.Core.Path.{◌≡◌, refl}
use mathlib.Core.Option.{Option, none, some}
use mathlib.Core.List.{List, [], ◌∷◌, ◌++◌}
use Prim.Native.Nat.{ℕ, suc, zero-le, suc-le-suc}
use native.Mathlib.Omega.{arith}
use Rattle.calculus.specs.Signature.{Signature}
use Rattle.calculus.specs.Terms.{map_act, Side, Statement, act, half, build}
use Rattle.running.specs.Values.{pair_parts, tree}
use Rattle.running.specs.Acts.{Ending, finished, no_pair, number_of, Logged, Out, goes, stops, Tests, Result, and_then, EndsWithin}
use Rattle.running.specs.Lists.{Register, held, holds, half_of, in_registers, Store, execute, run, RunsEndWithin}
use Rattle.running.specs.Processes.{values_of, eval, run_process, ProcessesEndWithin}
use Rattle.running.proofs.Binding.{Binds, binds, binds_not, other, perform_binds}

-- it goes on, or stops without having finished
data Unfinished {W B : Type 0} : Out W B → Type 0 where
  goes_on : {ms : List (Logged W)} {bs : List B} {su : List W} → Unfinished (goes ms bs su)
  stops_by : {e : Ending} {ms : List (Logged W)} {su : List W} → ¬ (e ≡ finished) → Unfinished (stops e ms su)

-- one statement or step, then the rest
then_within : {W B S : Type 0} {n : ℕ} (st : S) {o : Out W B} (k : List B → List W → Result W S) → Unfinished o → ((bs : List B) (su : List W) → EndsWithin n (k bs su)) → EndsWithin (suc n) (and_then st o k)
unfolding and_then
then_within st k (goes_on {bs = bs} {su = su}) f =
    let r = f bs su in
    record { finished_after = λ q. let h = r.finished_after q in omega arith; stopped_before = λ q. suc-le-suc (r.stopped_before q) }
then_within st k (stops_by n) f = record { finished_after = λ q. absurd (n q); stopped_before = λ q. suc-le-suc zero-le }

bound_unfinished : {W : Type 0} {xs : List ℕ} {o : Out W (ℕ × W)} → Binds xs o → Unfinished o
bound_unfinished (binds e) = goes_on
bound_unfinished (binds_not n) = stops_by n

registers_unfinished : {W : Type 0} {o : Out W (ℕ × W)} → Unfinished o → Unfinished (in_registers o)
unfolding in_registers
registers_unfinished goes_on = goes_on
registers_unfinished (stops_by n) = stops_by n

half_unfinished : {W : Type 0} (d : Side) (su : List W) (o : Option (W × W)) → Unfinished (half_of d su o)
unfolding half_of number_of
half_unfinished d su none = stops_by (other no_pair 7 refl)
half_unfinished d su (some h) = goes_on

module _ (𝓢 : Signature) where
  module _ {W S : Type 0} (K : Store 𝓢 W S) (ts : Tests 𝓢) where
    statement_unfinished : (st : S) (rs : List (Register W)) (su : List W) (s : Statement 𝓢) → Unfinished (execute 𝓢 K ts st rs su s).1
    unfolding execute
    statement_unfinished st rs su (act a) = registers_unfinished (bound_unfinished (perform_binds 𝓢 (K.view st) ts (held rs) su (map_act 𝓢 (holds (K.view st).blank rs) a)))
    statement_unfinished st rs su (half d p x) = half_unfinished d su (pair_parts 𝓢 ((K.view st).shape (holds (K.view st).blank rs p)))
    statement_unfinished st rs su (build b) = goes_on

    pub runs_end_within : RunsEndWithin 𝓢 K ts
    unfolding run
    runs_end_within [] st rs su = record { finished_after = λ q. refl; stopped_before = λ n. absurd (n refl) }
    runs_end_within (s ∷ ss) st rs su =
        let st' = (execute 𝓢 K ts st rs su s).0 in
        then_within st' (λ new su'. run 𝓢 K ts ss st' (rs ++ new) su') (statement_unfinished st rs su s) (λ new su'. runs_end_within ss st' (rs ++ new) su')

  pub processes_end_within : ProcessesEndWithin 𝓢
  unfolding run_process
  processes_end_within ts [] σ su = record { finished_after = λ q. refl; stopped_before = λ n. absurd (n refl) }
  processes_end_within ts (d ∷ P) σ su =
      then_within tt (λ bs su'. run_process 𝓢 ts P (σ ++ bs) su') (bound_unfinished (perform_binds 𝓢 (tree 𝓢) ts (values_of 𝓢 σ) su (map_act 𝓢 (eval 𝓢 σ) d))) (λ bs su'. processes_end_within ts P (σ ++ bs) su')
