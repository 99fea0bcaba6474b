use Rattle.std.proofs.Common.{◌≡◌, ◌≤◌, ◌+◌, ◌*◌, ◌^◌, ℕ, slice_index, take}
use Rattle.std.specs.Prelude.{All}
use Rattle.raster_delay.specs.Network.{Holds, IsComplementary, inflow, outflow, amount_at, begins, ends}
use Rattle.raster_delay.specs.Systems.{constraints_in, buffers}
use Rattle.flow_dual.proofs.sending.send_all.Given as goal

abbrev pub invariant-loop-image : goal.invariant-loop-image
invariant-loop-image l = record {
  numbers : (v : ℕ) → slice_index l.numbers v ≤ 2 ^ 41 + l.image * 2 ^ 36;
  amounts : (i : ℕ) → slice_index l.flow i ≤ l.image * 2 ^ 8;
  holds : All (Holds l.numbers) (constraints_in l.system);
  carries : IsComplementary (constraints_in l.system) l.flow l.numbers;
  sent : (v : ℕ) → inflow (constraints_in l.system) l.flow v + amount_at (take l.image (begins (buffers l.system))) v
      ≡ outflow (constraints_in l.system) l.flow v + amount_at (take l.image (ends (buffers l.system))) v;
}
