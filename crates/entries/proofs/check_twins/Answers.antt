-- `entries::check_twins` meets its contract. Assumes nothing.
use mathlib.Core.Path.{◌∙◌}
use borrow.Author.Rules.{rules}
use borrow.Author.Tests.{tests}
use Rattle.base.proofs.Ranges.{find_in_range}
use Rattle.answers.proofs.Finds.{find_passes, find_refuses}
use Rattle.entries.specs.Faults.{twin_rung}
use Rattle.codes.specs.Kinds.{kind_number}
use Rattle.answers.specs.Files.{file_number}
use Rattle.entries.proofs.check_twins.Goals as goal

pub returns-in-None : goal.returns-in-None
returns-in-None c =
    find_passes (twin_rung c.args.s.now (kind_number c.args.kind) (file_number c.args.file) c.args.base c.args.count) (find_in_range _ _ _ _ c.find.ensures.ran (λ x b q k. search (rules, tests))) c.in-None.is

-- `search`: what counts is which file is told, not how it was come by
pub returns-in-Some : goal.returns-in-Some
returns-in-Some c =
    c.refuse.ensures ∙ find_refuses (twin_rung c.args.s.now (kind_number c.args.kind) (file_number c.args.file) c.args.base c.args.count) (find_in_range _ _ _ _ c.find.ensures.ran (λ x b q k. search (rules, tests))) c.in-Some.is (search rules)
