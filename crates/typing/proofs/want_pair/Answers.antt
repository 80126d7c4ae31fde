-- `typing::want_pair` meets its contract. Assumes nothing.
use Rattle.typing.proofs.WantLaws.{split_put}
use Rattle.typing.proofs.want_pair.Goals as goal

pub returns : goal.returns
returns c = split_put _ _ _ _ _ _ _ _ _ c.step_field.ensures c.step_field-x.ensures c.step_field-y.ensures c.put_pair.ensures c.push.ensures
