use Rattle.std.proofs.Common.{◌≡◌, ◌+◌, ◌^◌, ◌<◌, arith, ap, ◌∙◌, ℕ, refl, rules}
use Rattle.std.proofs.Math.Pow.{pow_pos}
use Rattle.wiring.specs.declared.right.Atom.TheVariants as atom
use Rattle.net_build.proofs.Logic.{logic_none}
use Rattle.edge_select.proofs.Combining.{at_most_is, equal_is, to_first}
use Rattle.edge_select.proofs.Failing.{at_err}
use Rattle.std.proofs.Common.{[], ◌∷◌}
use Rattle.wiring.specs.declared.right.Operator.TheVariants.{Equal, Less}
use Rattle.edge_select.proofs.Levels.{over_deeper, compared_over}
use Rattle.edge_select.proofs.frame_conditions.at_most.Goals as goal

pub returns-then-end-side : goal.returns-then-end-side
returns-then-end-side c = record {
  logic = logic_none c.args.b.now;
  test = search rules;
  depth = tt;
}

pub returns-then-end-eq1 : goal.returns-then-end-eq1
returns-then-end-eq1 c = record {
  logic = c.gate.ensures.logic;
  test = let none : c.args.last ≡ 0 = omega (arith, c.if-end-eq1.true) in
      let low : c.args.last + 2 < c.args.side = omega (arith, c.if-end-side.false, c.if-end-side-2.false) in
      to_first c.gate.new.b c.args.b.now c.args.x c.in_ok-net-2.net c.args.side c.args.last none low
      (equal_is c.args.b.now c.gate.new.b c.args.x c.in_ok-net-2.net c.args.bits 0 c.number-zero.result c.gate.ensures.logic.includes c.requires.x.x c.requires.x.width c.requires.x.bits (pow_pos c.args.bits) c.number-zero.ensures c.in_ok-net-2.ensures.gate);
  depth = over_deeper c.gate.new.b c.args.b.now 1 2 (c.args.x ∷ []) c.in_ok-net-2.net (omega arith) (compared_over c.gate.new.b c.args.b.now Equal c.args.x c.in_ok-net-2.net c.number-zero.result _ c.gate.ensures.logic.includes c.number-zero.ensures c.in_ok-net-2.ensures.gate);
}

pub returns : goal.returns
returns c = record {
  logic = c.gate-2.ensures.logic;
  test = let low : c.args.last + 1 + 1 < c.args.side = omega (arith, c.if-end-side.false, c.if-end-side-2.false) in
      let fits : c.args.last + 1 < 2 ^ c.args.bits = omega (arith, low, c.requires.x.side) in
      at_most_is c.args.b.now c.gate-2.new.b c.args.x c.in_ok-net-3.net c.args.bits c.args.side c.args.last (c.args.last + 1) c.number.result c.gate-2.ensures.logic.includes c.requires.x.x c.requires.x.width c.requires.x.bits fits refl low
      (c.number.ensures ∙ ap (λ (v : ℕ). atom.Constant (record { width = c.args.bits; value = v })) c.from.ensures) c.in_ok-net-3.ensures.gate;
  depth = over_deeper c.gate-2.new.b c.args.b.now 1 2 (c.args.x ∷ []) c.in_ok-net-3.net (omega arith) (compared_over c.gate-2.new.b c.args.b.now Less c.args.x c.in_ok-net-3.net c.number.result _ c.gate-2.ensures.logic.includes c.number.ensures c.in_ok-net-3.ensures.gate);
}

pub returns-in_err-net-2 : goal.returns-in_err-net-2
returns-in_err-net-2 c = at_err _ _ c.from_residual-in_err-net-2.result c.from_residual-in_err-net-2.ensures.1 (c.gate.ensures.logic)

pub returns-in_err-net-3 : goal.returns-in_err-net-3
returns-in_err-net-3 c = at_err _ _ c.from_residual-in_err-net-3.result c.from_residual-in_err-net-3.ensures.1 (c.gate-2.ensures.logic)
