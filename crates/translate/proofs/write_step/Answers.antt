-- `translate::write_step` meets its contract. Assumes nothing.
use Rattle.decoded.proofs.Tabled.{step_known}
use Rattle.translate.proofs.StepWriting.{operands_ready, states_room, few_given, step_done}
use Rattle.translate.proofs.write_step.Goals as goal

pub build_operands-requires : goal.build_operands-requires
build_operands-requires c = (c.requires.0, c.requires.1, (_, _, operands_ready _ c.requires.0 _ c.requires.1 c.requires.2.2))

pub state_step-progress-requires : goal.state_step-progress-requires
state_step-progress-requires c =
    let q = c.requires.2.2 in
    states_room _ c.requires.0 _ c.requires.1 q (c.build_operands.ensures _ _ (operands_ready _ c.requires.0 _ c.requires.1 q))

pub bind_step-requires : goal.bind_step-requires
bind_step-requires c =
    let q = c.requires.2.2 in
    (step_known _ c.requires.0 _ c.requires.1, few_given _ c.requires.0 _ c.requires.1 q (c.build_operands.ensures _ _ (operands_ready _ c.requires.0 _ c.requires.1 q)))

pub returns : goal.returns
returns c r y q =
    let d = c.build_operands.ensures _ _ (operands_ready _ c.requires.0 _ c.requires.1 q) in
    step_done _ c.requires.0 _ c.requires.1 q d (rw c.bind_step.ensures.at c.state_step-progress.ensures) (c.bind_step.ensures.bound _ d.holds)
