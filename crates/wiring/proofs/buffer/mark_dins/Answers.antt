use Rattle.std.proofs.Common.{◌≡◌, ℕ, true, subst, sym, inl, inr, arith}
use Rattle.std.proofs.lemmas.Bool.{cases_lt}
use Rattle.wiring.specs.declared.netlist.Holder.TheVariants.{OfNet}
use Rattle.wiring.specs.declared.netlist.Net.TheVariants.{Input}
use Rattle.wiring.specs.Netlist.{netlist_of}
use Rattle.wiring.specs.Marks.{is_marked}
use Rattle.wiring.proofs.MarkSpread.{Spreads-trans}
use Rattle.wiring.proofs.buffer.mark_dins.Goals as goal

pub returns-in_err-push-clause-spreads : goal.returns-in_err-push-clause-spreads
returns-in_err-push-clause-spreads c = Spreads-trans (netlist_of c.args.wiring.now) c.args.marks.now c.loop-i.marks c.mark_din.new.marks c.loop-i.invariant.spreads c.mark_din.ensures.spreads

pub loop-i-preserved : goal.loop-i-preserved
loop-i-preserved c = record {
  spreads = Spreads-trans (netlist_of c.args.wiring.now) c.args.marks.now c.loop-i.marks c.mark_din.new.marks c.loop-i.invariant.spreads c.mark_din.ensures.spreads;
  dins = λ j le lt. elim (cases_lt j c.loop-i.i) as (λ _. is_marked c.mark_din.new.marks (OfNet (Input j)) ≡ true) [
    | inl below ↦ c.mark_din.ensures.spreads.kept (OfNet (Input j)) (c.loop-i.invariant.dins j le below)
    | inr above ↦ let e : j ≡ c.loop-i.i = omega (arith, lt, above) in subst (λ (z : ℕ). is_marked c.mark_din.new.marks (OfNet (Input z)) ≡ true) (sym e) c.mark_din.ensures.added
  ];
}
