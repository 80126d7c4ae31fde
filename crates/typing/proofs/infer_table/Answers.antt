-- `typing::infer_table` meets its contract. Assumes nothing.
use Rattle.typing.proofs.AnswerLaws.{table_inferred}
use Rattle.typing.proofs.infer_table.Goals as goal

pub returns : goal.returns
returns c = table_inferred _ _ _ _ _ c.start.ensures c.infer_steps.ensures
