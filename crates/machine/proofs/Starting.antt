-- The start of a run: the registers of the starting values, and the run of a checked list on a checked trace. Assumes nothing.
use mathlib.Core.Path.{◌≡◌, refl, ◌∙◌}
use mathlib.Core.Bool.{Bool, true, false}
use mathlib.Core.List.{List, [], ◌∷◌, ◌++◌, map}
use Prim.Native.Nat.{ℕ, ◌+◌, ◌-◌, ◌*◌, ◌<◌, ◌≤◌}
use native.Mathlib.Omega.{arith}
use lib.Dec.{ltb}
use lib.ListN.{length, get_or, replicate, length-map, length-replicate, get_or-replicate, get_or-eq_default}
use borrow.Author.Tests.{ltb-true, ltb-false}
use Rattle.buffers.proofs.OverLaws.{over_none}
use Rattle.entries.specs.Tiling.{listed, joined}
use Rattle.entries.proofs.Tiling.{listed_length, listed_add}
use Rattle.list.proofs.Framed.{list_passes}
use Rattle.trace.specs.Layout.{values, supplies, startings, starting, supply}
use Rattle.trace.proofs.Passes.{trace_passes}
use Rattle.types.specs.Version1.{T}
use Rattle.calculus.proofs.Lists.{map_append}
use Rattle.running.specs.Lists.{Register, symbol_register}
use Rattle.decoded.specs.Values.{values_of}
use Rattle.decoded.proofs.ValueLaws.{values_length}
use Rattle.value_table.specs.Kept.{Copied}
use Rattle.run_parts.specs.Registers.{Given, Gives}
use Rattle.run_parts.specs.Messages.{Said}
use Rattle.run_parts.proofs.RegisterLaws.{given_symbol}
use Rattle.machine.specs.Statements.{trace_of, run_of, StatementsRun}
use Rattle.machine.specs.Running.{start_registers, zeros, Started, run_from, RunFrom}
use Rattle.machine.specs.declared.Ran.{Ran}

-- ── Registers ──

-- the registers of the first i starting values
unfoldable pub first_registers : List ℕ → ℕ → List (Register ℕ)
first_registers tr i = map symbol_register (listed (starting tr) 0 i)

zero_at : (p : ℕ) → get_or zeros p 0 ≡ 0
unfolding zeros
zero_at p = go (ltb p 608) refl
  where
    go : (b : Bool) → ltb p 608 ≡ b → ◌≡◌ {A = ℕ} (get_or (replicate 608 0) p 0) 0
    go true e = get_or-replicate {A = ℕ} 608 p 0 0 (ltb-true _ _ e)
    go false e = get_or-eq_default (replicate 608 0) 0 {n = p} (rw (length-replicate {A = ℕ} 608 0) (ltb-false p 608 e))

zeros_length : length zeros ≡ 608
unfolding zeros
zeros_length = length-replicate {A = ℕ} 608 0

pub none_given : (tr g : List ℕ) → g ≡ zeros → Given (first_registers tr 0) g 0
unfolding first_registers listed
none_given tr g e = record { size = rw e zeros_length; count = refl; small = λ p. rw (e, zero_at p) (omega arith); numbers = refl }

registers_length : (tr : List ℕ) (i : ℕ) → length (first_registers tr i) ≡ i
unfolding first_registers
registers_length tr i = length-map (listed (starting tr) 0 i) symbol_register ∙ listed_length (starting tr) 0 i

registers_more : (tr : List ℕ) (i : ℕ) → first_registers tr (i + 1) ≡ first_registers tr i ++ (symbol_register (starting tr i) ∷ [])
unfolding first_registers
registers_more tr i =
    let e : 0 + i ≡ i = omega arith in
    rw (listed_add (starting tr) 0 i 1, map_append symbol_register (listed (starting tr) 0 i) (listed (starting tr) (0 + i) 1), e) (unfold listed in refl)

pub one_given : (tr g g' : List ℕ) (n i v r : ℕ) → v ≡ starting tr i → v < 65536 → i < 256 → Given (first_registers tr i) g n → Gives g n (2 * v + 1) g' r → Given (first_registers tr (i + 1)) g' r
one_given tr g g' n i v r e s h k d = rw (registers_more tr i, ← e) (given_symbol v s d k (omega (arith, k.count, registers_length tr i)))

pub all_given : (tr g o : List ℕ) (n i r : ℕ) → n ≡ startings tr → i ≤ n → n ≤ i → (g ≡ zeros → Given (first_registers tr i) o r) → Started tr g o r
unfolding first_registers start_registers
all_given tr g o n i r e h l f = record { started = λ q. let j : i ≡ startings tr = omega arith in rw j at (f q) }

-- ── The whole run ──

nothing_said : (y : List ℕ) → Said y [] y 0
unfolding joined
nothing_said y = record { count = refl; bytes = over_none y }

run_same : (l tr : List ℕ) (As : List T) → run_from l As (values_of tr) (start_registers tr) (listed (supply tr) 0 (supplies tr)) ≡ run_of l tr As
unfolding run_from run_of trace_of start_registers
run_same l tr As = refl

pub whole_run : (l tr z w v v' y o o' g g' : List ℕ) (n count : ℕ) (r : Ran) → v' ≡ v → o' ≡ o → Copied tr z w → Started tr g g' n → g ≡ zeros → count ≡ values tr
    → RunFrom l tr w v y o g' (record { used = 0; logged = 0; count = count; registers = n }) r → StatementsRun l tr z v' y o' r
whole_run l tr z w v v' y o o' g g' n count r i j c st q e f = rw (i, j) (record {
  ran = λ As t pl pt vr mr.
      let fl = ((list_passes l (startings tr)).0 pl).framed in
      let ft = ((trace_passes tr).0 pt).framed in
      let k = c.copied pt (omega arith) in
      let b = values_length tr in
      let d = registers_count in
      let m : supplies tr - 0 ≡ supplies tr = omega arith in
      rw (run_same l tr As) at (f.ran As z y (values_of tr) (start_registers tr) (listed (supply tr) 0 (supplies tr)) (record {
        types = t;
        keeps = record {
          kept = rw e k;
          said = nothing_said y;
          given = st.started q;
          left = record { among = omega arith; rest = rw m };
        };
        few_statements = fl.few_statements;
        few_registers = omega (arith, d, ft.few_startings);
        few_values = omega (arith, b, ft.few_values);
        value_room = rw b vr;
        message_room = mr;
      }));
})
  where
    registers_count : length (start_registers tr) ≡ startings tr
    registers_count = unfold start_registers in length-map (listed (starting tr) 0 (startings tr)) symbol_register ∙ listed_length (starting tr) 0 (startings tr)
