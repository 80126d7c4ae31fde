-- The statement index and demand 3 of the run service, said of its own answer and bytes. Assumes nothing.
use mathlib.Core.Path.{◌≡◌, refl, sym, ap, ◌∙◌}
use mathlib.Core.List.{List, [], ◌∷◌, ◌++◌, map, append_assoc}
use Prim.Native.Nat.{ℕ, zero, suc, ◌+◌, ◌-◌, ◌<◌}
use native.Mathlib.Omega.{arith}
use lib.ListN.{length, drop, length-append, length-map}
use lib.Seq.{drop_at}
use Rattle.entries.specs.Tiling.{listed}
use Rattle.entries.proofs.Tiling.{listed_length}
use Rattle.list.specs.Layout.{statements}
use Rattle.trace.specs.Layout.{supplies, supply, startings, starting}
use Rattle.types.specs.Types.{Ty}
use Rattle.types.specs.Version1.{T}
use Rattle.calculus.specs.Terms.{Value, Step, Process}
use Rattle.calculus.specs.Tables.{process}
use Rattle.calculus.specs.Version1.{signature1}
use Rattle.running.specs.Acts.{Ending, finished, no_supply, not_equal, wrong_key, received_lacks, opened_lacks, not_fresh, fresh_lacks, no_pair, no_ciphertext, number_of, Logged, typed}
use Rattle.running.specs.Lists.{symbol_register}
use Rattle.running.specs.Processes.{Bindings, Moves, moves_out, moves_in, moves_new, moves_match, moves_split, moves_open, StuckBy, stuck_in, stuck_new, stuck_fresh, stuck_match, stuck_split, stuck_key, stuck_seal, Reaches, stays, moves, Ends, ends_finished, ends_stuck}
use Rattle.running.specs.Demand3.{ByType, by_received, by_opened, by_fresh, step_of, value_of, supplied, Starts, types_of, start, list_run, left_over, Lacking, Demand3}
use Rattle.running.proofs.Version1Laws.{process_by_rules1, runs_end_within1}
use Rattle.decoded.specs.Table.{table_of, free_of}
use Rattle.decoded.specs.Values.{values_of}
use Rattle.decoded_list.specs.Statements.{statement_at, statements_of}
use Rattle.machine.specs.Statements.{trace_of, run_of, Told}
use Rattle.machine.specs.declared.Ran.{Ran}
use Rattle.starting.specs.Fourteen.{Fourteen, starts}
use Rattle.run_laws.proofs.Runs.{accepted_runs_keep_demand_3}
use Rattle.run_service.specs.Runs.{Runnable, RunAnswered, ran}
use Rattle.run_service.specs.Read.{process_of, NotByType, EndsInList, KeepsDemand3}
use Rattle.run_service.proofs.Stages.{accepted}
use Rattle.run_service.proofs.ReadBack.{told_terms}
use Rattle.std.proofs.Common.{Ok}

-- ── Endings by their numbers ──

-- the ending with a number
ending_of : ℕ → Ending
ending_of zero = finished
ending_of (suc zero) = no_supply
ending_of (suc (suc zero)) = not_equal
ending_of (suc (suc (suc zero))) = wrong_key
ending_of (suc (suc (suc (suc zero)))) = received_lacks
ending_of (suc (suc (suc (suc (suc zero))))) = opened_lacks
ending_of (suc (suc (suc (suc (suc (suc zero)))))) = not_fresh
ending_of (suc (suc (suc (suc (suc (suc (suc zero))))))) = fresh_lacks
ending_of (suc (suc (suc (suc (suc (suc (suc (suc zero)))))))) = no_pair
ending_of (suc (suc (suc (suc (suc (suc (suc (suc (suc n))))))))) = no_ciphertext

-- it is found again by its number
ending_of_lem : (e : Ending) → ending_of (number_of e) ≡ e
unfolding number_of ending_of
ending_of_lem finished = refl
ending_of_lem no_supply = refl
ending_of_lem not_equal = refl
ending_of_lem wrong_key = refl
ending_of_lem received_lacks = refl
ending_of_lem opened_lacks = refl
ending_of_lem not_fresh = refl
ending_of_lem fresh_lacks = refl
ending_of_lem no_pair = refl
ending_of_lem no_ciphertext = refl

-- no two endings have one number
number_once : (e f : Ending) → number_of e ≡ number_of f → e ≡ f
number_once e f q = sym (ending_of_lem e) ∙ ap ending_of q ∙ ending_of_lem f

-- an answer that does not end by type tells of no ending by type
not_by_type : (r : Ran) (e : Ending) → r.ending ≡ number_of e → NotByType r → ¬ ByType e
unfolding number_of
not_by_type r e q (a, b, c) by_received = a q
not_by_type r e q (a, b, c) by_opened = b q
not_by_type r e q (a, b, c) by_fresh = c q

-- ── What is left of a supply ──

-- a value, as a term
abbrev Val : Type 0
Val = Value signature1

-- the second list is the end of the first
abbrev Tail : List Val → List Val → Type 0
Tail su rest = (first : List Val) × (su ≡ first ++ rest)

-- the end of an end
tail_further : {su sv rest : List Val} → Tail su sv → Tail sv rest → Tail su rest
tail_further {su} {sv} {rest} (p, e) (q, f) = (p ++ q, e ∙ ap (λ (k : List Val). p ++ k) f ∙ sym (append_assoc p q rest))

-- by how many were taken
tail_drop : {su rest : List Val} (n : ℕ) → Tail su rest → n ≡ length su - length rest → rest ≡ drop n su
tail_drop {su} {rest} n (p, e) h =
    let a : length su ≡ length p + length rest = ap (λ (k : List Val). length k) e ∙ length-append p rest in
    sym (ap (λ (k : List Val). drop n k) e ∙ drop_at p rest n (omega arith))

-- a step takes from the front
moved : {σ bs : Bindings signature1} {d : Step signature1} {su sv : List Val} {ms : List (Logged Val)} → Moves signature1 σ d su ms bs sv → Tail su sv
moved moves_out = ([], refl)
moved (moves_in {v = v}) = (v ∷ [], refl)
moved (moves_new f) = (_ ∷ [], refl)
moved (moves_match e) = ([], refl)
moved (moves_split e) = ([], refl)
moved (moves_open e f) = ([], refl)

-- so does one that cannot be taken
stuck : {σ : Bindings signature1} {e : Ending} {d : Step signature1} {su rest : List Val} → StuckBy signature1 σ e d su rest → Tail su rest
stuck stuck_in = ([], refl)
stuck stuck_new = ([], refl)
stuck (stuck_fresh {v = v} f) = (v ∷ [], refl)
stuck (stuck_match f) = ([], refl)
stuck (stuck_split f) = ([], refl)
stuck (stuck_key e f) = ([], refl)
stuck (stuck_seal f) = ([], refl)

-- so do several steps
reached : {P Q : Process signature1} {σ τ : Bindings signature1} {su sv : List Val} {ms : List (Logged Val)} → Reaches signature1 P σ su ms Q τ sv → Tail su sv
reached stays = ([], refl)
reached (moves m r) = tail_further (moved m) (reached r)

-- so does an end
ended : {τ : Bindings signature1} {su rest : List Val} {Q : Process signature1} {e : Ending} → Ends signature1 τ su Q e rest → Tail su rest
ended ends_finished = ([], refl)
ended (ends_stuck s) = stuck s

-- the process's run leaves the end of the supply
process_tail : (t tr : List ℕ) → Tail (supplied signature1 (trace_of tr)) (process_of t tr).rest
process_tail t tr =
    let (τ, sv, r, e, p) = process_by_rules1 (process signature1 (table_of t)) (start signature1 (table_of t) (trace_of tr)) (supplied signature1 (trace_of tr)) in
    tail_further (reached r) (ended e)

-- as many as the trace supplies
supplied_length : (tr : List ℕ) → length (supplied signature1 (trace_of tr)) ≡ supplies tr
unfolding trace_of
supplied_length tr = length-map (listed (supply tr) 0 (supplies tr)) (value_of signature1 (values_of tr)) ∙ listed_length (supply tr) 0 (supplies tr)

-- ── The service ──

-- a lacking value, said of equal things
lacking_as : (Γ : ℕ → Ty signature1.types) (P : Process signature1) (σ : Bindings signature1) (su : List Val) {e f : Ending} {n k : ℕ} {ms ls : List (Logged Val)} {rest left : List Val}
    → e ≡ f → n ≡ k → ms ≡ ls → rest ≡ left → Lacking signature1 Γ P σ su f k ls left → Lacking signature1 Γ P σ su e n ms rest
lacking_as Γ P σ su a b c d l = rw (a, b, c, d) l

-- what number 14 leaves
started : {t tr : List ℕ} {As : List T} → Fourteen t As tr (Ok tt) → Starts signature1 (types_of signature1 As) (values_of tr) (free_of t) (listed (starting tr) 0 (startings tr))
started (starts h q) = q

module _ (t l tr z y v o : List ℕ) (r : Ran) (s : Runnable t l tr z y) (m : Told tr z v y o (run_of l tr s.sound.decoded.types) r) where
  -- the list's types
  abbrev As : List T
  As = s.sound.decoded.types

  -- what the list left has as many values as the answer says
  counted : (rest : List Val) → rest ≡ left_over signature1 (typed (types_of signature1 As)) (statements_of l) (trace_of tr) → r.used ≡ length (supplied signature1 (trace_of tr)) - length rest
  unfolding run_of
  counted rest e =
      let R = list_run signature1 (typed (types_of signature1 As)) (statements_of l) (trace_of tr) in
      let a : length rest ≡ length R.rest = ap (λ (k : List Val). length k) e ∙ length-map R.rest (value_of signature1 R.store) in
      rw (a, supplied_length tr) m.used

  -- where the run ends, carried over to the answer
  in_list : EndsInList l r
  unfolding run_of number_of
  in_list =
      let R = list_run signature1 (typed (types_of signature1 As)) (statements_of l) (trace_of tr) in
      let n : length (statements_of l) ≡ statements l = listed_length (statement_at l) 0 (statements l) in
      let w = runs_end_within1 (typed (types_of signature1 As)) (statements_of l) (trace_of tr).values (map symbol_register (trace_of tr).starting) (trace_of tr).supply in
      record {
        finished_after = λ e. m.place ∙ w.finished_after (number_once _ finished (sym m.ending ∙ e)) ∙ n;
        stopped_before = λ e. let h : R.place < length (statements_of l) = w.stopped_before (λ q. e (m.ending ∙ ap number_of q)) in omega (arith, m.place, n);
      }

  -- demand 3 of the meaning layer's run
  demand : Demand3 signature1 (table_of t) (types_of signature1 As) (statements_of l) (trace_of tr)
  demand =
      let k = accepted t l s.sound.decoded s.sound.accepted in
      accepted_runs_keep_demand_3 t l tr k.Γ k.widest.sound k.widest.typing s.sound.decoded k.same_types k.renders s.sound.trace_sound (started s.sound.starts)

  -- carried over to answer and bytes
  keeps : KeepsDemand3 t l tr v o r
  unfolding run_of number_of
  keeps = record {
    decoded = s.sound.decoded;
    opening = (demand.opening.0, rw (told_terms m) demand.opening.1);
    complete = λ n. told_terms m ∙ demand.complete (not_by_type r _ m.ending n);
    stops = λ n.
        let (a, b, c) = demand.stops (not_by_type r _ m.ending n) in
        (ap number_of a ∙ sym m.ending, b ∙ ap (step_of signature1 (statements_of l)) (sym m.place), tail_drop r.used (process_tail t tr) (counted _ c));
    finishes = λ e. demand.finishes (number_once _ finished (sym m.ending ∙ e));
    lacking = λ e b q.
        let a = number_once e _ (sym q ∙ m.ending) in
        let k = demand.lacking (rw a at b) in
        lacking_as _ _ _ _ a (ap (step_of signature1 (statements_of l)) m.place) (told_terms m) (sym (tail_drop r.used (reached k.passes) (counted _ refl))) k;
    known = rw m.ending demand.known;
    among = omega (arith, m.used);
  }

-- a run that nothing refuses keeps demand 3
pub run_keeps_demand_3 : (t l tr z y v o : List ℕ) (r : Ran) → RunAnswered t l tr z y v o (Ok r) → KeepsDemand3 t l tr v o r
run_keeps_demand_3 t l tr z y v o r (ran s m) = keeps t l tr z y v o r s m

-- its statement index is N where it finished, else below N
pub run_ends_in_list : (t l tr z y v o : List ℕ) (r : Ran) → RunAnswered t l tr z y v o (Ok r) → EndsInList l r
run_ends_in_list t l tr z y v o r (ran s m) = in_list t l tr z y v o r s m
