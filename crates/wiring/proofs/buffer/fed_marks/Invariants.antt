use Rattle.std.proofs.Common.{◌≡◌, ℕ, ◌+◌, ◌≤◌, ◌<◌, true, false, length}
use Rattle.std.specs.Prelude.{All, if◌then◌else◌}
use Rattle.wiring.specs.declared.netlist.Holder.TheVariants.{OfNet}
use Rattle.wiring.specs.declared.netlist.Net.TheVariants.{Input}
use Rattle.wiring.specs.Netlist.{netlist_of, first_din}
use Rattle.wiring.specs.BufferBits.{drives}
use Rattle.wiring.specs.Marks.{HasMarks, IsSound, IsClosed, is_marked, gap}
use Rattle.wiring.proofs.buffer.fed_marks.Given as goal

abbrev pub invariant-loop-open : goal.invariant-loop-open
invariant-loop-open l = record {
  size : HasMarks (netlist_of l.wiring) l.marks;
  sound : IsSound (netlist_of l.wiring) l.marks;
  dins : (i : ℕ) → first_din (netlist_of l.wiring) ≤ i → i < length l.wiring.inputs.items → is_marked l.marks (OfNet (Input i)) ≡ true;
  closed : l.open ≡ false → All (IsClosed l.marks) (drives (netlist_of l.wiring));
}

abbrev pub decreases-loop-open : goal.decreases-loop-open
decreases-loop-open l = gap l.marks + (if l.open then 1 else 0)
