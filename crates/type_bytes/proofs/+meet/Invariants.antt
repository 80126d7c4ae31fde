-- `type_bytes::meet` ends: each part is met in a shorter buffer. Assumes nothing.
use Rattle.std.proofs.Common.{length}
use Rattle.type_bytes.proofs.+meet.Given as goal

abbrev pub decreases-meet : goal.decreases-meet
decreases-meet l = length l.out.now
