use Rattle.std.proofs.Common.{length}
use Rattle.circuit.proofs.slots.+segment_slot.Given as goal

abbrev pub decreases-segment_slot : goal.decreases-segment_slot
decreases-segment_slot l = length l.ages.now
