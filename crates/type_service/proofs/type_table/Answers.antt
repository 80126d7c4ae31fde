-- `type_service::type_table` meets its contract. Assumes nothing.
use Rattle.type_service.proofs.ServiceLaws.{typed, types_counted, types_written, not_typed, no_room, room_for, all_written}
use Rattle.type_service.specs.Services.{types_file}
use Rattle.answers.proofs.Layers.{passed_on}
use borrow.Author.Rules.{rules}
use Rattle.type_service.proofs.type_table.Goals as goal

pub returns-in_err-type_slots : goal.returns-in_err-type_slots
returns-in_err-type_slots c = not_typed _ _ _ _ _ _ _ (c.type_slots.ensures.typed (search rules)) c.in_err-type_slots.was (passed_on c.from_residual.ensures.1)

-- from here on, k: the slots hold the widest types of the table s; and n: so many bytes are needed
pub returns-in_err-check_room : goal.returns-in_err-check_room
returns-in_err-check_room c =
    let s = c.args.table.now in
    let k = typed s _ _ (rw c.in_ok-type_slots.was at (c.type_slots.ensures.typed (search rules))) c.symbol_count-n.ensures in
    let n = types_counted _ _ _ k _ c.types_size-need.ensures in
    no_room (types_file s) s _ k.Γ k.widest _ n _ _ _ c.check_room.ensures c.in_err-check_room.was (passed_on c.from_residual-in_err-check_room.ensures.1)

pub returns : goal.returns
returns c =
    let s = c.args.table.now in
    let z = c.args.out.now in
    let k = typed s _ _ (rw c.in_ok-type_slots.was at (c.type_slots.ensures.typed (search rules))) c.symbol_count-n.ensures in
    let n = types_counted _ _ _ k _ c.types_size-need.ensures in
    let r = c.check_room.ensures in
    let e = c.in_ok-check_room.was in
    let f = room_for (types_file s) s z k.Γ k.widest _ n _ r e in
    all_written (types_file s) s z k.Γ k.widest _ n _ _ r e (types_written _ _ _ k _ _ c.put_types.ensures f)
