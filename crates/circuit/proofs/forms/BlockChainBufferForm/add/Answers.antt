use Rattle.std.proofs.Common.{◌≡◌, ℕ, List, Some, length, sym, ap, subst, ◌∙◌, rules}
use Rattle.wiring.specs.declared.netlist.Net.{Net}
use Rattle.net_build.proofs.Grown.{net_more}
use Rattle.line_buffer.specs.Indices.{is_long}
use Rattle.line_buffer.specs.Chains.{IsChain}
use Rattle.circuit.specs.Splits.{Splits, lists_of, split_ages, IsFiner, AreTapsAmong}
use Rattle.circuit.proofs.Forming.{plan_wide, split_most, block_buffered}
use Rattle.line_buffer.specs.SharedCounters.{CountsTurns}
use Rattle.line_buffer.specs.Places.{chain_shapes}
use Rattle.circuit.proofs.forms.BlockChainBufferForm.add.Goals as goal

pub block_chain-requires-clause-image : goal.block_chain-requires-clause-image
block_chain-requires-clause-image c = record {
  ascending = c.split_of-split.ensures.finer.ascending;
  most = split_most (lists_of c.deref.result.now) c.args.plan.now c.args.own.image c.split_of-split.result.now c.law.ensures c.requires.kept c.split_of-split.ensures.ages;
  bits = plan_wide c.args.plan.now c.args.own.image c.width.result c.law.ensures c.requires.kept c.width.ensures;
  there = c.requires.net;
  wide = c.requires.width ∙ sym c.width.ensures;
}

pub taps_among-requires-clause-finer : goal.taps_among-requires-clause-finer
taps_among-requires-clause-finer c = subst (λ (ages : List ℕ). IsFiner ages c.split_of-split.result.now) (sym c.ages.ensures.ages) c.split_of-split.ensures.finer

pub taps_among-requires-clause-one_each : goal.taps_among-requires-clause-one_each
taps_among-requires-clause-one_each c = ap length c.deref-2.ensures.value ∙ c.in_ok-nets.ensures.chain.buffer.one_each

pub returns-clause-image : goal.returns-clause-image
returns-clause-image c = record {
  turns = search rules;
  counts = let plan = c.args.plan.now in
      let form : Splits = c.args.self.now in
      let same : lists_of c.deref.result.now ≡ form.proposed = ap lists_of c.deref.ensures.value ∙ ap (λ (f : Splits). f.proposed) c.self.view_is in
      let given : c.split_of-split.result.now ≡ split_ages form.proposed plan c.args.own.image = c.split_of-split.ensures.ages ∙ ap (λ (proposed : List (List ℕ)). split_ages proposed plan c.args.own.image) same in
      subst (λ (w : ℕ). CountsTurns c.block_chain.new.b c.args.b.now c.block_chain.new.turns c.args.turns.now (is_long (Some form.least)) (chain_shapes w (split_ages form.proposed plan c.args.own.image))) c.width.ensures
      (subst (λ (ages : List ℕ). CountsTurns c.block_chain.new.b c.args.b.now c.block_chain.new.turns c.args.turns.now (is_long (Some form.least)) (chain_shapes c.width.result ages)) given
      (subst (λ (least : ℕ). CountsTurns c.block_chain.new.b c.args.b.now c.block_chain.new.turns c.args.turns.now (is_long (Some least)) (chain_shapes c.width.result c.split_of-split.result.now)) (ap (λ (f : Splits). f.least) c.self.view_is) c.in_ok-nets.ensures.counts));
  buffered = let form : Splits = c.args.self.now in
      let nets : List Net = c.in_ok-nets.nets.items in
      let split : List ℕ = c.split_of-split.result.now in
      let own = net_more c.block_chain.new.b c.args.b.now c.in_ok-nets.ensures.includes c.args.own.net c.requires.net in
      let same : lists_of c.deref.result.now ≡ form.proposed = ap lists_of c.deref.ensures.value ∙ ap (λ (f : Splits). f.proposed) c.self.view_is in
      let given : split ≡ split_ages form.proposed c.args.plan.now c.args.own.image = c.split_of-split.ensures.ages ∙ ap (λ (proposed : List (List ℕ)). split_ages proposed c.args.plan.now c.args.own.image) same in
      block_buffered form.least form.proposed c.block_chain.new.b c.args.b.now c.args.plan.now c.args.own.image c.args.own.net c.width.result c.ages.result.now split nets c.new.result own c.ages.ensures.ages given c.width.ensures c.requires.arrays
      (subst (λ (least : ℕ). IsChain c.block_chain.new.b c.args.b.now c.width.result (is_long (Some least)) c.args.own.net split nets) (ap (λ (f : Splits). f.least) c.self.view_is) c.in_ok-nets.ensures.chain)
      (subst (λ (taps : List Net). AreTapsAmong c.ages.result.now split nets c.args.own.net taps) (sym c.new.ensures)
      (subst (λ (list : List Net). AreTapsAmong c.ages.result.now split list c.args.own.net c.in_ok-taps.taps.items) c.deref-2.ensures.value c.in_ok-taps.ensures));
}
