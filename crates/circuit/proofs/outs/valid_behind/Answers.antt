use Rattle.std.proofs.Common.{◌≡◌, ℕ, ◌+◌, length, ◌∙◌, subst, sym, rules}
use Rattle.dk_base.specs.FrameSizes.{size_of}
use Rattle.net_build.specs.Registers.{register_bits}
use Rattle.edge_select.specs.FrameTests.{start_bits}
use Rattle.std.proofs.lemmas.Option.{slice_get-get_or, slice_get_within}
use Rattle.wiring.specs.declared.netlist.Net.TheVariants.{Input}
use Rattle.circuit.proofs.Placing.{tests_none}
use Rattle.circuit.proofs.Leaving.{valid_shared}
use Rattle.circuit.proofs.Registered.{adds_old, adds_new}
use Rattle.circuit.proofs.outs.valid_behind.Goals as goal

pub returns-in-Some : goal.returns-in-Some
returns-in-Some c = record {
  adds = tests_none c.args.b.now c.args.tests.now;
  bits = adds_old c.args.plan.now c.args.tests.now (length c.args.outs.now) c.requires.next.within c.args.b.now c.in-Some.j c.in-Some.ensures.earlier c.in-Some.ensures.same;
  right = valid_shared c.args.b.now c.args.plan.now c.in-Some.j _ _ c.in-Some.ensures.same (c.requires.valids c.in-Some.j _ (slice_get-get_or c.args.outs.now c.in-Some.j (Input 0, Input 0) c.in-Some.ensures.earlier));
  shared = λ i o at same. c.requires.next.share c.in-Some.j _ (slice_get-get_or c.args.outs.now c.in-Some.j (Input 0, Input 0) c.in-Some.ensures.earlier) i o at (same ∙ sym c.in-Some.ensures.same);
}

pub returns-in_ok-net-in-None : goal.returns-in_ok-net-in-None
returns-in_ok-net-in-None c = record {
  adds = c.in_ok-net-in-None.ensures.adds;
  bits = adds_new c.args.plan.now c.args.tests.now (length c.args.outs.now) c.requires.next.within c.valid_from.new.b c.args.b.now c.in-None.ensures.none
      (subst (λ (l : ℕ). register_bits c.valid_from.new.b ≡ register_bits c.args.b.now + start_bits c.args.tests.now.counters (size_of c.args.tests.now.size) l) c.latency_of.ensures c.in_ok-net-in-None.ensures.bits);
  right = search rules;
  shared = λ j out at same. absurd (c.in-None.ensures.none j (slice_get_within c.args.outs.now j out at) same);
}
