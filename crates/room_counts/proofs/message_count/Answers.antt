-- `room_counts::message_count` meets its contract. Assumes nothing.
use mathlib.Core.Path.{◌∙◌}
use borrow.Author.Rules.{rules}
use borrow.Author.Tests.{tests}
use Rattle.room_counts.proofs.RoomLaws.{messages_passing, is_message}
use Rattle.room_counts.proofs.message_count.Goals as goal

pub returns : goal.returns
returns c = c.count_of.ensures is_message (λ op b l k. search (rules, tests)) ∙ messages_passing _
