use Rattle.std.proofs.Common.{ℕ, List, false, subst, rules}
use Rattle.line_buffer.specs.Places.{chain_shapes, chain_place}
use Rattle.line_buffer.specs.Indices.{IsReadOnce}
use Rattle.line_buffer.proofs.Bits.{chain_bits}
use Rattle.buffer_plan.specs.Plans.{ages_of, width_of}
use Rattle.buffer_plan.proofs.Aged.{are_ages}
use Rattle.line_buffer.specs.Depths.{line_operators}
use Rattle.circuit.proofs.Forming.{image_buffered, form_buffered}
use Rattle.line_buffer.specs.SharedCounters.{CountsTurns}
use Rattle.circuit.proofs.forms.ChainBufferForm.add.Goals as goal

pub chain-requires-clause-image : goal.chain-requires-clause-image
chain-requires-clause-image c = image_buffered c.args.b.now c.args.plan.now c.args.own.image c.args.own.net c.width.result c.ages.result.now c.law.ensures c.requires.kept c.requires.net c.requires.width c.width.ensures c.ages.ensures.ages

pub returns-clause-image : goal.returns-clause-image
returns-clause-image c = record {
  turns = search rules;
  counts = let plan = c.args.plan.now in
      subst (λ (w : ℕ). CountsTurns c.chain.new.b c.args.b.now c.chain.new.turns c.args.turns.now (λ words. false) (chain_shapes w (ages_of plan c.args.own.image))) c.width.ensures
      (subst (λ (ages : List ℕ). CountsTurns c.chain.new.b c.args.b.now c.chain.new.turns c.args.turns.now (λ words. false) (chain_shapes c.width.result ages)) c.ages.ensures.ages c.in_ok-nets.ensures.counts);
  buffered = form_buffered chain_shapes chain_place line_operators (λ words. IsReadOnce) c.chain.new.b c.args.b.now c.args.plan.now c.args.own.image c.width.result c.ages.result.now c.args.own.net c.in_ok-nets.nets.items c.new.result c.ages.ensures.ages c.width.ensures c.new.ensures c.requires.arrays
      (chain_bits (width_of c.args.plan.now c.args.own.image) (ages_of c.args.plan.now c.args.own.image) (are_ages c.args.plan.now c.args.own.image).ascending) c.in_ok-nets.ensures.adds c.in_ok-nets.ensures.buffer c.in_ok-nets.ensures.made c.in_ok-nets.ensures.fills c.in_ok-nets.ensures.once;
}
