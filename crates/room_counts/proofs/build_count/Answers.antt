-- `room_counts::build_count` meets its contract. Assumes nothing.
use mathlib.Core.Path.{◌∙◌}
use borrow.Author.Rules.{rules}
use borrow.Author.Tests.{tests}
use Rattle.room_counts.proofs.RoomLaws.{builds_passing, is_build}
use Rattle.room_counts.proofs.build_count.Goals as goal

pub returns : goal.returns
returns c = c.count_of.ensures is_build (λ op b l k. search (rules, tests)) ∙ builds_passing _
