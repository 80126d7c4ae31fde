-- `compile::print` meets its contract. Assumes nothing.
use borrow.Author.Rules.{rules}
use Rattle.compile.proofs.PrintLaws.{list_printed, line_printed}
use Rattle.compile.proofs.print.Goals as goal

pub returns-in-Ok : goal.returns-in-Ok
returns-in-Ok c = list_printed _ _ _ _ _ c.compile.ensures c.in-Ok.is

pub returns-in-Err : goal.returns-in-Err
returns-in-Err c = line_printed _ c.args.out.now _ _ _ _ _ c.compile.ensures c.in-Err.is (search rules)
