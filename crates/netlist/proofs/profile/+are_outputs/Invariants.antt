use Rattle.std.proofs.Common.{length}
use Rattle.netlist.proofs.profile.+are_outputs.Given as goal

abbrev pub decreases-are_outputs : goal.decreases-are_outputs
decreases-are_outputs l = length l.ports.now
