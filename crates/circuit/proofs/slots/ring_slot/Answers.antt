use Rattle.std.proofs.Common.{ℕ, ◌-◌, ◌%◌, ◌∙◌, sym, ap, rules}
use Rattle.circuit.proofs.Forming.{plan_depth}
use Rattle.circuit.proofs.slots.ring_slot.Goals as goal

pub returns : goal.returns
returns c = record {
  array = search rules;
  word = ap (λ (n : ℕ). n % c.depth.result) c.saturating_sub.ensures
      ∙ ap (λ (d : ℕ). (c.args.clock - c.args.age) % d) (c.depth.ensures.depth ∙ sym (plan_depth c.args.plan.now c.args.image));
}
