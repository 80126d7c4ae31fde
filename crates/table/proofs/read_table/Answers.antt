-- `table::read_table` meets its contract. Assumes nothing.
use mathlib.Core.Path.{sym, ap, ◌∙◌}
use Rattle.answers.proofs.Layers.{passed_on}
use Rattle.table.specs.Read.{table_read, read_or}
use Rattle.table.proofs.read_table.Goals as goal

pub returns-in_err-check_table : goal.returns-in_err-check_table
unfolding table_read
returns-in_err-check_table c = passed_on c.from_residual.ensures.1 ∙ ap (read_or c.args.s.now) (sym c.in_err-check_table.was ∙ c.check_table.ensures)

pub returns : goal.returns
unfolding table_read
returns c =
    let e = ap (read_or c.args.s.now) (sym c.in_ok-check_table.was ∙ c.check_table.ensures) in
    cc
