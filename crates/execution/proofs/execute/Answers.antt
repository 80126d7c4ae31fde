-- `execution::execute` meets its contract. Assumes nothing.
use Rattle.execution.proofs.StatementLaws.{sends, receives, freshens, compares, halves_left, halves_right, decrypts, pairs, encrypts, unknowns}
use mathlib.Core.Path.{refl}
use native.Mathlib.Omega.{arith}
use Rattle.calculus.specs.Signature.{pairing, seal}
use Rattle.calculus.specs.Terms.{left, right}
use Rattle.calculus.specs.Version1.{encryption}
use Rattle.decoded.specs.Table.{two_code}
use Rattle.effects.specs.Effects.{side_number}
use Rattle.execution.proofs.execute.Goals as goal

pub returns-in-0-clause-does : goal.returns-in-0-clause-does
returns-in-0-clause-does c = sends _ _ _ _ _ _ _ _ _ _ _ _ _ _ _ _ _ _ _ c.code_at-op.ensures c.operand_at.ensures c.operand_at-2.ensures c.operand_at-x.ensures c.value_in-v.ensures c.value_in-w.ensures c.in-0.is c.send.ensures.does

pub returns-in-1-clause-does : goal.returns-in-1-clause-does
returns-in-1-clause-does c = receives _ _ _ _ _ _ _ _ _ _ _ _ _ _ _ _ _ _ _ c.code_at-op.ensures c.operand_at.ensures c.operand_at-2.ensures c.operand_at-x.ensures c.value_in-v.ensures c.value_in-w.ensures c.in-1.is c.receive.ensures.does

pub returns-in-2-clause-does : goal.returns-in-2-clause-does
returns-in-2-clause-does c = freshens _ _ _ _ _ _ _ _ _ _ _ _ _ _ _ _ _ _ _ c.code_at-op.ensures c.operand_at.ensures c.operand_at-2.ensures c.operand_at-x.ensures c.value_in-v.ensures c.value_in-w.ensures c.in-2.is c.fresh.ensures.does

pub returns-in-3-clause-does : goal.returns-in-3-clause-does
returns-in-3-clause-does c = compares _ _ _ _ _ _ _ _ _ _ _ _ _ _ _ _ _ _ _ c.code_at-op.ensures c.operand_at.ensures c.operand_at-2.ensures c.operand_at-x.ensures c.value_in-v.ensures c.value_in-w.ensures c.in-3.is c.compare.ensures

pub returns-in-4-clause-does : goal.returns-in-4-clause-does
unfolding side_number
returns-in-4-clause-does c = halves_left _ _ _ _ _ _ _ _ _ _ _ _ _ _ _ _ _ _ _ c.code_at-op.ensures c.operand_at.ensures c.operand_at-2.ensures c.operand_at-x.ensures c.value_in-v.ensures c.value_in-w.ensures c.in-4.is (c.half.ensures.does left refl)

pub returns-in-5-clause-does : goal.returns-in-5-clause-does
unfolding side_number
returns-in-5-clause-does c = halves_right _ _ _ _ _ _ _ _ _ _ _ _ _ _ _ _ _ _ _ c.code_at-op.ensures c.operand_at.ensures c.operand_at-2.ensures c.operand_at-x.ensures c.value_in-v.ensures c.value_in-w.ensures c.in-5.is (c.half-in-5.ensures.does right refl)

pub returns-in-6-clause-does : goal.returns-in-6-clause-does
returns-in-6-clause-does c = decrypts _ _ _ _ _ _ _ _ _ _ _ _ _ _ _ _ _ _ _ c.code_at-op.ensures c.operand_at.ensures c.operand_at-2.ensures c.operand_at-x.ensures c.value_in-v.ensures c.value_in-w.ensures c.in-6.is c.decrypt.ensures.does

pub returns-in-7-clause-does : goal.returns-in-7-clause-does
unfolding two_code
returns-in-7-clause-does c = pairs _ _ _ _ _ _ _ _ _ _ _ _ _ _ _ _ _ _ _ c.code_at-op.ensures c.operand_at.ensures c.operand_at-2.ensures c.operand_at-x.ensures c.value_in-v.ensures c.value_in-w.ensures c.in-7.is (c.build.ensures.does pairing refl)

pub returns-in-8-clause-does : goal.returns-in-8-clause-does
unfolding two_code
returns-in-8-clause-does c = encrypts _ _ _ _ _ _ _ _ _ _ _ _ _ _ _ _ _ _ _ c.code_at-op.ensures c.operand_at.ensures c.operand_at-2.ensures c.operand_at-x.ensures c.value_in-v.ensures c.value_in-w.ensures c.in-8.is (c.build-in-8.ensures.does (seal encryption) refl)

pub returns-in-9-to-255-clause-does : goal.returns-in-9-to-255-clause-does
returns-in-9-to-255-clause-does c = unknowns _ _ _ _ _ _ _ _ _ _ _ _ _ _ _ _ _ _ _ c.code_at-op.ensures c.operand_at.ensures c.operand_at-2.ensures c.operand_at-x.ensures c.value_in-v.ensures c.value_in-w.ensures (omega arith) c.fresh-in-9-to-255.ensures.does
