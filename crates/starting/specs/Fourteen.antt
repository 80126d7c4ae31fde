-- Number 14, in the words of the meaning. Assumes nothing: these are definitions.
use Rattle.std.specs.Prelude.{◌≡◌, Bool, true, false, List, ℕ, ◌<◌, min, get_or, Ok, Err}
use Rattle.answers.specs.Ladder.{refusal, least, Check}
use Rattle.entries.specs.Tiling.{listed}
use Rattle.table_layout.specs.Layout as TableLayout
use Rattle.table.specs.Faults.{table_rungs}
use Rattle.list.specs.Layout.{symbols}
use Rattle.list.specs.Faults.{list_rungs}
use Rattle.trace.specs.Layout.{startings, starting}
use Rattle.trace.specs.Faults.{trace_rungs}
use Rattle.types.specs.Version1.{T}
use Rattle.calculus.specs.Version1.{signature1}
use Rattle.running.specs.Values.{visible, index}
use Rattle.running.specs.Demand3.{Starts, types_of}
use Rattle.decoded.specs.Table.{free_of, free_count}
use Rattle.decoded.specs.Values.{values_of}
use Rattle.decoded_list.specs.Decoded.{Decoded}

-- whether starting value i visibly has the type of symbol x
abbrev pub start_fits : List T → List ℕ → ℕ → ℕ → Bool
start_fits As tr x i = visible signature1 (index signature1 (values_of tr)) (types_of signature1 As x) (starting tr i)

-- a starting value for each free symbol, which visibly has its type; or 14 at the smaller number where F isn't that of the free symbols, or
-- at the first starting value that lacks its type
pub data Fourteen (t : List ℕ) (As : List T) (tr : List ℕ) : Check → Type 0 where
  starts : startings tr ≡ free_count t → Starts signature1 (types_of signature1 As) (values_of tr) (free_of t) (listed (starting tr) 0 (startings tr)) → Fourteen t As tr (Ok tt)
  wrong_number : ¬ (startings tr ≡ free_count t) → Fourteen t As tr (Err (refusal 14 2 (min (startings tr) (free_count t))))
  lacks : {i : ℕ} → startings tr ≡ free_count t → i < startings tr → start_fits As tr (get_or (free_of t) i 0) i ≡ false
      → ((j : ℕ) → j < i → start_fits As tr (get_or (free_of t) j 0) j ≡ true) → Fourteen t As tr (Err (refusal 14 2 i))

-- the answer r for a table without faults 1 to 9, a list without faults 1 to 5 that has as many symbols, and a trace without faults 1 to 6
pub record StartsChecked (t l tr : List ℕ) (r : Check) : Type 0 where
  pub checked : least (table_rungs t) ≡ Ok tt → (free : ℕ) → least (list_rungs l free) ≡ Ok tt → least (trace_rungs tr) ≡ Ok tt → (d : Decoded l)
      → symbols l ≡ TableLayout.symbols t → Fourteen t d.types tr r

-- the answer r: whether starting value i of a trace without faults 1 to 6 visibly has the type of symbol x
pub record StartSeen (l tr : List ℕ) (x i : ℕ) (r : Bool) : Type 0 where
  pub seen : least (trace_rungs tr) ≡ Ok tt → (d : Decoded l) → x < symbols l → r ≡ start_fits d.types tr x i
