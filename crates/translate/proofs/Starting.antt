-- The whole translation: what its loop starts with. Assumes that 1 to 9 pass.
use mathlib.Core.Path.{◌≡◌, refl}
use mathlib.Core.List.{List}
use Prim.Native.Nat.{ℕ, ◌*◌, ◌≤◌}
use lib.ListN.{length}
use Rattle.answers.specs.Ladder.{least}
use Rattle.marks.specs.Put.{blank}
use Rattle.table_layout.specs.Layout.{steps}
use Rattle.table.specs.Faults.{table_rungs}
use Rattle.calculus.specs.Version1.{signature1}
use Rattle.rendering.specs.Rendering.{halves}
use Rattle.rendering.specs.Translation.{translation, translated}
use Rattle.decoded.specs.Table.{table_of}
use Rattle.decoded.specs.Indexes.{entries_of}
use Rattle.registers.specs.Held.{at_start, HeldSymbols}
use Rattle.registers.proofs.Marking.{none_held}
use Rattle.translate.specs.Stepwise.{steps_made}
use Rattle.translate.specs.declared.Progress.{Progress}
use Rattle.translate.specs.Making.{AllReady}
use Rattle.entries.specs.Tiling.{joined}
use Rattle.buffers.proofs.OverLaws.{over_none}
use Rattle.statement_counts.proofs.Ranged.{all_fits}
use Rattle.std.proofs.Common.{Ok}

-- all steps are the translation
pub whole_made : (s : List ℕ) → steps_made s 0 (steps s) (at_start s) ≡ translated signature1 halves (table_of s)
unfolding steps_made at_start entries_of
whole_made s = refl

-- the free symbols have the first registers, and there is room
pub start_ready : (s : List ℕ) → least (table_rungs s) ≡ Ok tt → {p : Progress} {out : List ℕ} → HeldSymbols (at_start s) p.symbols → p.terms ≡ blank → p.registers ≡ length (at_start s) → p.at ≡ 0
    → 4 * length (translation signature1 halves (table_of s)) ≤ length out → AllReady (steps_made s 0 (steps s)) (at_start s) p out
unfolding joined
start_ready s e {p} {out} h b n z r =
    let w = whole_made s in
    record {
      stands = record { holds = record { of_symbols = h; of_terms = none_held s p.terms b; count = n }; ends = z; written = over_none out };
      fits = record { few = rw w (all_fits s e).1; room = rw w r };
    }
