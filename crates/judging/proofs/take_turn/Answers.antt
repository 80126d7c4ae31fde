-- `judging::take_turn` meets its contract. Assumes nothing.
use mathlib.Core.Path.{◌≡◌, refl, sym, ◌∙◌}
use mathlib.Core.List.{List}
use Prim.Native.Nat.{ℕ, ◌<◌}
use lib.ListN.{get_or}
use Rattle.entries.specs.Fields.{field}
use Rattle.calculus.specs.Signature.{pairing, seal}
use Rattle.calculus.specs.Version1.{encryption}
use Rattle.decoded.specs.Table.{two_code}
use Rattle.judging.proofs.ReadLaws.{Operands, turns_build}
use borrow.Author.Rules.{rules}
use Rattle.judging.proofs.take_turn.Goals as goal

-- the first two operands are read
operands : (l z : List ℕ) (base i u v p q : ℕ) → u ≡ field l 2 base i 0 → p ≡ get_or z u 0 → v ≡ field l 2 base i 1 → q ≡ get_or z v 0
    → u < 256 → v < 256 → Operands l base i z p q
operands l z base i u v p q e g f h a b = record { first = rw e at g; second = rw f at h; first_small = rw (← e) a; second_small = rw (← f) b }

pub returns-in-7 : goal.returns-in-7
unfolding two_code
returns-in-7 c =
    let a = c.args in
    let o = operands a.list.now a.registers.now.meanings a.base a.i _ _ _ _ c.operand_at.ensures c.get.ensures c.operand_at-2.ensures c.get-2.ensures (search rules) (search rules) in
    turns_build _ _ _ _ _ _ _ _ _ _ o pairing 1 refl (sym c.code_at.ensures ∙ c.in-7.is) c.build.ensures

pub returns-in-8 : goal.returns-in-8
unfolding two_code
returns-in-8 c =
    let a = c.args in
    let o = operands a.list.now a.registers.now.meanings a.base a.i _ _ _ _ c.operand_at.ensures c.get.ensures c.operand_at-2.ensures c.get-2.ensures (search rules) (search rules) in
    turns_build _ _ _ _ _ _ _ _ _ _ o (seal encryption) 2 refl (sym c.code_at.ensures ∙ c.in-8.is) c.build-in-8.ensures
