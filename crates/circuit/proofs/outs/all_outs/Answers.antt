use Rattle.circuit.specs.Behaviour.{net_of}
use Rattle.std.proofs.Common.{rules, ◌≡◌, ◌∙◌, ◌++◌, ◌∷◌, [], ℕ, ◌+◌, List, length, take, suc, refl, subst, ap, length-append, arith, sym}
use Rattle.wiring.specs.declared.netlist.Net.{Net}
use Rattle.dk_base.specs.FrameSizes.{size_of}
use Rattle.edge_select.proofs.Framed.{tests_more}
use Rattle.circuit.specs.Ends.{IsSharedBy, AreValids, IsValidOf, output_in}
use Rattle.circuit.specs.Registers.{latencies, latency_bits, AddsLatency}
use Rattle.circuit.proofs.Placing.{tests_none, tests_on}
use Rattle.circuit.proofs.Leaving.{outs_none, outs_more, shared_none, shared_more, valids_of}
use Rattle.circuit.proofs.outs.all_outs.Goals as goal

pub loop-init : goal.loop-init
loop-init c = record {
  count = ap length c.new-outs.ensures.items;
  adds = tests_none c.args.b.now c.args.tests.now;
  are = outs_none c.args.b.now c.args.plan.now c.args.nets.now c.new-outs.result.items c.new-outs.ensures.items;
  bits = (let none : latency_bits c.args.tests.now (take 0 (latencies c.args.plan.now)) ≡ 0 = refl in omega (arith, none));
  share = shared_none c.args.plan.now c.new-outs.result.items c.new-outs.ensures.items;
}

pub loop-preserved : goal.loop-preserved
loop-preserved c =
    let new = c.valid_behind.new.b in
    let plan = c.args.plan.now in
    let nets = c.args.nets.now in
    let was = c.loop.outs.items in
    let out : Net × Net = (c.in_ok-valid.valid, c.dout_at-dout.result) in
    let more : c.push.new.self.items ≡ was ++ out ∷ [] = c.in_ok-push.ensures.items in
    let valid = subst (λ (outs : List (Net × Net)). IsValidOf new plan (length outs) c.in_ok-valid.valid) c.deref.ensures.value c.in_ok-valid.ensures.right in
    let shared : IsSharedBy plan was (length was) c.in_ok-valid.valid = subst (λ (outs : List (Net × Net)). IsSharedBy plan outs (length outs) c.in_ok-valid.valid) c.deref.ensures.value c.in_ok-valid.ensures.shared in
    let dout : c.dout_at-dout.result ≡ net_of plan nets (output_in plan (length was)) = search rules in
    record {
      count = ap length more ∙ length-append was (out ∷ []) ∙ ap (λ (n : ℕ). n + 1) c.loop.invariant.count;
      adds = tests_on c.args.b.now c.loop.b new c.args.tests.now c.args.tests.now c.args.tests.now c.loop.invariant.adds c.in_ok-valid.ensures.adds;
      are = outs_more new c.loop.b plan nets was c.push.new.self.items out c.in_ok-valid.ensures.adds.includes more c.loop.invariant.are (record { valid = valid; dout = dout });
      bits =
          let before = c.loop.invariant.bits in
          let added = subst (λ (n : ℕ). AddsLatency new c.loop.b plan c.args.tests.now n) (ap length c.deref.ensures.value ∙ c.loop.invariant.count) c.in_ok-valid.ensures.bits in
          let next = ap (λ (n : ℕ). latency_bits c.args.tests.now (take n (latencies plan))) (let e : suc c.loop.index ≡ c.loop.index + 1 = omega arith in e) in
          omega (arith, before, added, next);
      share = shared_more plan was c.push.new.self.items out more c.loop.invariant.share shared;
    }

pub valid_behind-requires-clause-next : goal.valid_behind-requires-clause-next
valid_behind-requires-clause-next c = record {
  tests = tests_more c.loop.b c.args.b.now (size_of c.args.tests.now.size) c.args.tests.now c.loop.invariant.adds.includes c.requires.tests;
  within = search rules;
  share = search rules;
}

pub valid_behind-requires-clause-valids : goal.valid_behind-requires-clause-valids
valid_behind-requires-clause-valids c = subst (AreValids c.loop.b c.args.plan.now) (sym c.deref.ensures.value) (valids_of c.loop.b c.args.plan.now c.args.nets.now _ c.loop.outs.items c.loop.invariant.are)
