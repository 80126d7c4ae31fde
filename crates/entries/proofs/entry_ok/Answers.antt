-- `entries::entry_ok` meets its contract. Assumes nothing.
use mathlib.Core.Path.{sym, ◌∙◌}
use Rattle.entries.specs.Fields.{entry_ok}
use Rattle.entries.proofs.entry_ok.Goals as goal

pub returns-then-code_known : goal.returns-then-code_known
unfolding entry_ok
returns-then-code_known c = rw (← c.code_at.ensures, rw c.number.ensures at (sym c.code_known.ensures ∙ c.if-code_known.true)) c.fields_ok.ensures

pub returns-else-code_known : goal.returns-else-code_known
unfolding entry_ok
returns-else-code_known c = rw (c.if-code_known.false, ← c.code_at.ensures, rw c.number.ensures at (sym c.code_known.ensures ∙ c.if-code_known.false))
