-- E1 meets every hypothesis of the theorems, so that they speak of it: besides being checked (`calculus`), it is in range and typed, and its trace
-- is checked and starts as it must. Assumes nothing.
use mathlib.Core.Path.{◌≡◌, refl, sym, ap, ◌∙◌}
use mathlib.Core.Bool.{decide}
use Prim.Native.Nat.{ℕ, zero, suc, ◌<◌}
use native.Mathlib.Omega.{arith}
use lib.ListN.{length}
use Rattle.types.specs.Forest.{within, under}
use Rattle.types.specs.Types.{top}
use Rattle.types.specs.Version1.{parent1, depth1}
use Rattle.calculus.specs.Terms.{Atom, atom, map_act, binders, bound}
use Rattle.calculus.specs.Tables.{Entry, leaf_entry, kind_entry, entry_tree, trees_from, entry_at, low_leaf, low_two, Closed, Unrepeated, is_in, missing, process, free}
use Rattle.calculus.specs.Scope.{all_nil, all_cons}
use Rattle.calculus.specs.Figure2.{T-Var, T-Sub}
use Rattle.calculus.specs.Typing.{Typed, P-Nil, P-Out, P-In, P-ShKD}
use Rattle.calculus.specs.Version1.{signature1, atom_type1}
use Rattle.rendering.specs.Rendering.{halves}
use Rattle.rendering.specs.Translation.{InRange, translation}
use Rattle.calculus.specs.ExampleTables.{E1}
use Rattle.calculus.proofs.ExampleChecks.{e1_checked}
use Rattle.rendering.proofs.TranslationLaws.{translation_is_faithful}
use Rattle.running.specs.Values.{basic_shape, visible, entry_shape}
use Rattle.running.specs.Demand3.{CheckedTrace, Starts, starts_nil, starts_cons, Demand3}
use Rattle.running.specs.Examples.{types1, trace1}
use Rattle.running.proofs.Version1Laws.{demand_3_holds1}

below : (n : ℕ) → n < 4 → n < length E1.entries
below n h = h

leaf_is : {i x : ℕ} → i < 4 → ◌≡◌ {A = Entry signature1 ℕ} (leaf_entry i) (leaf_entry x) → x < 4
leaf_is {i} {x} h e = let q : i ≡ x = cc in omega arith

leaves1 : (i x : ℕ) → i < 4 → entry_at signature1 0 E1.entries i ≡ leaf_entry x → x < 4
leaves1 zero x h e = leaf_is h e
leaves1 (suc zero) x h e = leaf_is h e
leaves1 (suc (suc zero)) x h e = leaf_is h e
leaves1 (suc (suc (suc zero))) x h e = leaf_is h e
leaves1 (suc (suc (suc (suc i)))) x h e = absurd (omega arith)

pub in_range1 : InRange signature1 E1
unfolding bound binders
in_range1 = record { leaves = leaves1; binders = all_cons (below 2 (omega arith)) (all_cons (below 3 (omega arith)) all_nil) }

pub typed1 : Typed signature1 types1 (process signature1 E1)
unfolding map_act entry_tree trees_from types1
typed1 = P-In T-Var (P-ShKD T-Var T-Var (P-Out T-Var (T-Sub T-Var top) P-Nil))

low4 : (n : ℕ) → n < 4 → n < length trace1.values
low4 n h = h

closed_trace : Closed signature1 (atom 0 0) trace1.values
closed_trace zero h = low_leaf
closed_trace (suc zero) h = low_leaf
closed_trace (suc (suc zero)) h = low_leaf
closed_trace (suc (suc (suc zero))) h = let a : 2 < 3 = omega arith in let b : 1 < 3 = omega arith in low_two a b
closed_trace (suc (suc (suc (suc i)))) h = absurd (omega arith)

-- the place of an entry of the trace
unfoldable place_of : Entry signature1 Atom → ℕ
place_of (leaf_entry (atom zero n)) = 2
place_of (leaf_entry (atom (suc zero) n)) = 0
place_of (leaf_entry (atom (suc (suc k)) n)) = 1
place_of (kind_entry b) = 3

place_at : (i : ℕ) → i < length trace1.values → place_of (entry_at signature1 (atom 0 0) trace1.values i) ≡ i
unfolding place_of
place_at zero h = refl
place_at (suc zero) h = refl
place_at (suc (suc zero)) h = refl
place_at (suc (suc (suc zero))) h = refl
place_at (suc (suc (suc (suc i)))) h = absurd (omega arith)

once_trace : Unrepeated signature1 (atom 0 0) trace1.values
once_trace i j p q e = sym (place_at i p) ∙ ap place_of e ∙ place_at j q

pub checked_trace1 : CheckedTrace signature1 trace1
checked_trace1 = record {
  closed = closed_trace;
  once = once_trace;
  starts = all_cons (low4 0 (omega arith)) (all_cons (low4 1 (omega arith)) all_nil);
  supplies = all_cons (low4 3 (omega arith)) all_nil;
}

pub starts1 : Starts signature1 types1 trace1.values (free signature1 E1) trace1.starting
unfolding missing is_in bound binders types1 visible basic_shape entry_shape under within parent1 depth1 atom_type1 decide
starts1 = starts_cons refl (starts_cons refl starts_nil)

-- demand 3 of E1's own list on that trace
pub demand_3_of_e1 : Demand3 signature1 E1 types1 (translation signature1 halves E1) trace1
demand_3_of_e1 = demand_3_holds1 halves E1 types1 (translation signature1 halves E1) trace1 e1_checked typed1 (translation_is_faithful signature1 halves E1 e1_checked in_range1) checked_trace1 starts1
