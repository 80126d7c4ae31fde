-- `entries::node_ok` meets its contract. Assumes nothing.
use mathlib.Core.Path.{◌∙◌}
use Rattle.entries.specs.Faults.{node_ok}
use Rattle.entries.proofs.node_ok.Goals as goal

pub returns : goal.returns
unfolding node_ok
returns c = c.entry_ok.ensures ∙ rw (c.limits-limits.ensures, c.atom_kinds.ensures)
