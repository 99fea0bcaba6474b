use Rattle.std.proofs.Common.{length}
use Rattle.netlist.proofs.profile.+are_from_dins.Given as goal

abbrev pub decreases-are_from_dins : goal.decreases-are_from_dins
decreases-are_from_dins l = length l.ports.now
