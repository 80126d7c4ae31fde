-- `typing::need_keys` meets its contract. Assumes nothing.
use Rattle.std.proofs.Common.{Some}
use Rattle.typing.specs.Stages.{KeysTo}
use Rattle.typing.proofs.need_keys.Given as goal

abbrev pub invariant-loop-u : goal.invariant-loop-u
invariant-loop-u l = KeysTo l.u l.initial.work l.table l.marks l.work (Some tt)
