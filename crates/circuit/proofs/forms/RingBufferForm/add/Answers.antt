use Rattle.std.proofs.Common.{ℕ, List, false, subst, rules}
use Rattle.std.specs.Prelude.{⊤}
use Rattle.line_buffer.specs.Places.{ring_shapes, ring_place}
use Rattle.line_buffer.proofs.Bits.{ring_bits}
use Rattle.buffer_plan.specs.Plans.{ages_of, width_of}
use Rattle.line_buffer.specs.Depths.{ring_operators}
use Rattle.circuit.proofs.Forming.{image_buffered, form_buffered}
use Rattle.line_buffer.specs.SharedCounters.{CountsTurns}
use Rattle.circuit.proofs.forms.RingBufferForm.add.Goals as goal

pub ring-requires-clause-image : goal.ring-requires-clause-image
ring-requires-clause-image c = image_buffered c.args.b.now c.args.plan.now c.args.own.image c.args.own.net c.width.result c.ages.result.now c.law.ensures c.requires.kept c.requires.net c.requires.width c.width.ensures c.ages.ensures.ages

pub returns-clause-image : goal.returns-clause-image
returns-clause-image c = record {
  turns = search rules;
  counts = let plan = c.args.plan.now in
      subst (λ (w : ℕ). CountsTurns c.ring.new.b c.args.b.now c.ring.new.turns c.args.turns.now (λ words. false) (ring_shapes w (ages_of plan c.args.own.image))) c.width.ensures
      (subst (λ (ages : List ℕ). CountsTurns c.ring.new.b c.args.b.now c.ring.new.turns c.args.turns.now (λ words. false) (ring_shapes c.width.result ages)) c.ages.ensures.ages c.in_ok-nets.ensures.counts);
  buffered = form_buffered ring_shapes ring_place ring_operators (λ words reads puts. ⊤) c.ring.new.b c.args.b.now c.args.plan.now c.args.own.image c.width.result c.ages.result.now c.args.own.net c.in_ok-nets.nets.items c.new.result c.ages.ensures.ages c.width.ensures c.new.ensures c.requires.arrays
      (ring_bits (width_of c.args.plan.now c.args.own.image) (ages_of c.args.plan.now c.args.own.image)) c.in_ok-nets.ensures.adds c.in_ok-nets.ensures.buffer c.in_ok-nets.ensures.made c.in_ok-nets.ensures.fills (λ x low high. tt);
}
