use Rattle.std.proofs.Common.{◌≡◌, slice_index, sum}
use Rattle.std.specs.Prelude.{All}
use Rattle.raster_delay.specs.Network.{Holds, IsComplementary}
use Rattle.flow_dual.specs.Tree.{AreSmall}
use Rattle.flow_dual.proofs.settling.settle.Given as goal

abbrev pub invariant-loop-tree : goal.invariant-loop-tree
invariant-loop-tree l = record {
  numbers : AreSmall l.numbers;
  zero : slice_index l.numbers 0 ≡ 0;
  holds : All (Holds l.numbers) l.network.constraints.now;
  carries : IsComplementary l.network.constraints.now l.flow l.numbers;
}

abbrev pub decreases-loop-tree : goal.decreases-loop-tree
decreases-loop-tree l = sum l.numbers
