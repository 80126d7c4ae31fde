-- `type_service::check_room` meets its contract. Assumes nothing.
use Rattle.type_service.proofs.ServiceLaws.{room_short}
use Rattle.type_service.specs.Services.{enough}
use Rattle.type_service.proofs.check_room.Goals as goal

pub returns-then-need-out : goal.returns-then-need-out
returns-then-need-out c = enough c.if-need-out.true

pub returns : goal.returns
returns c = room_short _ _ _ c.if-need-out.false c.refuse.ensures
