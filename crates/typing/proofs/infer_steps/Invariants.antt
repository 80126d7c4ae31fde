-- `typing::infer_steps` meets its contract. Assumes nothing.
use Rattle.typing.specs.Stages.{TypedFrom}
use Rattle.typing.proofs.infer_steps.Given as goal

abbrev pub invariant-loop-k : goal.invariant-loop-k
invariant-loop-k l = TypedFrom l.initial.work l.table l.k l.work
