-- `translate::put_statements` meets its contract. Assumes nothing.
use Rattle.translate.proofs.Starting.{start_ready, whole_made}
use Rattle.marks.specs.Put.{blank}
use mathlib.Core.Path.{refl}
use Rattle.translate.proofs.put_statements.Goals as goal

pub write_steps-requires : goal.write_steps-requires
unfolding blank
write_steps-requires c =
    let m = c.note_free-registers.ensures c.requires.0 refl in
    (c.requires.0, start_ready _ c.requires.0 m.0 refl m.1 refl c.requires.1)

pub returns : goal.returns
returns c = rw (whole_made c.args.s.now) at c.write_steps.ensures
