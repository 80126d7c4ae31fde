-- `trace::check_indexes` meets its contract. Assumes nothing.
use borrow.Author.Rules.{rules}
use mathlib.Core.Path.{◌∙◌}
use Rattle.std.proofs.Common.{tests}
use Rattle.base.proofs.Ranges.{find_in_range}
use Rattle.answers.specs.Files.{file_number}
use Rattle.answers.proofs.Finds.{find_passes, find_refuses}
use Rattle.trace.specs.Layout.{index_ok}
use Rattle.trace.specs.Faults.{index_rung}
use Rattle.trace.proofs.check_indexes.Goals as goal

pub returns-in-None : goal.returns-in-None
unfolding index_ok
returns-in-None c = find_passes (index_rung c.args.s.now (file_number c.args.file) c.args.base c.args.limit c.args.count) (find_in_range _ _ _ _ c.find.ensures.ran (λ x b q k. search (rules, tests))) c.in-None.is

pub returns-in-Some : goal.returns-in-Some
unfolding index_ok
returns-in-Some c = c.refuse.ensures ∙ find_refuses (index_rung c.args.s.now (file_number c.args.file) c.args.base c.args.limit c.args.count) (find_in_range _ _ _ _ c.find.ensures.ran (λ x b q k. search (rules, tests))) c.in-Some.is (rw c.index_place.ensures)
