use Rattle.std.proofs.Common.{◌≤◌, ◌+◌, ◌-◌, ◌*◌, ◌^◌, ℕ, slice_index}
use Rattle.std.specs.Prelude.{All}
use Rattle.raster_delay.specs.Network.{Holds, IsComplementary}
use Rattle.flow_dual.specs.Tree.{Moves}
use Rattle.flow_dual.proofs.sending.send.Given as goal

abbrev pub invariant-loop-rest : goal.invariant-loop-rest
invariant-loop-rest l = record {
  rest : l.rest ≤ l.width;
  numbers : (v : ℕ) → slice_index l.numbers v ≤ 2 ^ 41 + l.image * 2 ^ 36 + 2 ^ 35;
  end : slice_index l.numbers l.end ≤ 2 ^ 41 + l.image * 2 ^ 36;
  amounts : (i : ℕ) → slice_index l.flow i + l.rest ≤ l.image * 2 ^ 8 + l.width;
  holds : All (Holds l.numbers) l.network.constraints.now;
  carries : IsComplementary l.network.constraints.now l.flow l.numbers;
  moves : Moves l.network.constraints.now l.initial.flow l.flow l.begin l.end (l.width - l.rest);
}

abbrev pub decreases-loop-rest : goal.decreases-loop-rest
decreases-loop-rest l = l.rest + (slice_index l.numbers l.end - slice_index l.numbers l.begin)
