use Rattle.std.proofs.Common.{◌≡◌, true, false}
use Rattle.wiring.specs.declared.netlist.Holder.TheVariants.{OfNet}
use Rattle.wiring.specs.declared.netlist.Net.TheVariants.{Input}
use Rattle.wiring.specs.Netlist.{netlist_of}
use Rattle.wiring.proofs.MarkSpread.{none_sound, closed_complete}
use Rattle.wiring.proofs.buffer.fed_marks.Goals as goal

pub loop-open-init : goal.loop-open-init
loop-open-init c = record {
  size = c.spread.ensures.size (c.mark_dins.ensures.spreads.size c.in_ok-marks.ensures.size);
  sound = c.spread.ensures.sound (c.mark_dins.ensures.spreads.sound (none_sound (netlist_of c.args.wiring.now) c.in_ok-marks.marks c.in_ok-marks.ensures.none));
  dins = λ i le l. c.spread.ensures.kept (OfNet (Input i)) (c.in_ok-mark_dins.ensures.dins i le l);
  closed = λ e. absurd (apart e);
}
  where
    apart : true ≡ false → ⊥
    apart e = cc

pub loop-open-preserved : goal.loop-open-preserved
loop-open-preserved c = record {
  size = c.close-open.ensures.spreads.size c.loop-open.invariant.size;
  sound = c.close-open.ensures.spreads.sound c.loop-open.invariant.sound;
  dins = λ i le l. c.close-open.ensures.spreads.kept (OfNet (Input i)) (c.loop-open.invariant.dins i le l);
  closed = c.close-open.ensures.closed;
}

pub returns-clause-complete : goal.returns-clause-complete
returns-clause-complete c = closed_complete (netlist_of c.args.wiring.now) c.loop-open.marks c.loop-open.invariant.dins (c.loop-open.invariant.closed c.loop-open-test.false)
