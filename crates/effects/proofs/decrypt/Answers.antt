-- `effects::decrypt` meets its contract. Assumes nothing.
use Rattle.effects.proofs.OpeningLaws.{decrypt_none, decrypt_locked, decrypt_bound}
use Rattle.effects.proofs.decrypt.Goals as goal

pub returns-then-tag_at-ne2 : goal.returns-then-tag_at-ne2
returns-then-tag_at-ne2 c = decrypt_none _ _ _ _ _ _ _ _ c.tag_at.ensures c.if-tag_at-ne2.true

pub returns-then-part_at-w : goal.returns-then-part_at-w
returns-then-part_at-w c = decrypt_locked _ _ _ _ _ _ _ _ c.tag_at.ensures c.if-tag_at-ne2.false _ c.part_at.ensures c.if-part_at-w.true

pub returns : goal.returns
returns c =
    decrypt_bound _ _ _ _ _ _ _ _ c.tag_at.ensures c.if-tag_at-ne2.false _ c.part_at.ensures c.if-part_at-w.false _ c.part_at-part.ensures c.bind.ensures
