-- `compile_service::put_header` meets its contract. Assumes nothing.
use mathlib.Core.Path.{◌∙◌}
use Rattle.buffers.proofs.OverLaws.{over_fits}
use Rattle.decoded_list.specs.Bytes.{header_bytes}
use Rattle.compile_service.proofs.put_header.Goals as goal

pub returns : goal.returns
unfolding header_bytes
returns c = c.copy.ensures.written ∙ rw (c.mark_byte.ensures, c.mark_byte-2.ensures, c.mark_byte-3.ensures) (over_fits _ _ c.requires.1)
