-- `shelf_service::check_shelf` meets its contract. Assumes nothing.
use Rattle.shelf_service.proofs.Stages.{many, not_equal, room_told}
use Rattle.shelf_service.proofs.check_shelf.Goals as goal

pub returns-then-n-gt64 : goal.returns-then-n-gt64
returns-then-n-gt64 c = many _ _ _ _ c.if-n-gt64.true c.refuse.ensures

pub returns-then-add_up : goal.returns-then-add_up
returns-then-add_up c = room_told _ _ _ c.if-n-gt64.false _ c.add_up.ensures _ c.if-add_up.true c.check_room.ensures

pub returns : goal.returns
returns c = not_equal _ _ _ c.if-n-gt64.false _ c.add_up.ensures _ c.if-add_up.false c.refuse-2.ensures
