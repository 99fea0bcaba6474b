use Rattle.std.proofs.Common.{◌≡◌, ℕ, ◌≤◌, ◌<◌, true}
use Rattle.wiring.specs.declared.netlist.Holder.TheVariants.{OfNet}
use Rattle.wiring.specs.declared.netlist.Net.TheVariants.{Input}
use Rattle.wiring.specs.Netlist.{netlist_of}
use Rattle.wiring.specs.Marks.{Spreads, is_marked}
use Rattle.wiring.proofs.buffer.mark_dins.Given as goal

abbrev pub invariant-loop-i : goal.invariant-loop-i
invariant-loop-i l = record {
  spreads : Spreads (netlist_of l.wiring) l.fn.marks l.marks;
  dins : (j : ℕ) → l.first ≤ j → j < l.i → is_marked l.marks (OfNet (Input j)) ≡ true;
}
