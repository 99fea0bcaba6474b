use Rattle.std.proofs.Common.{ℕ, ◌≡◌, ◌≢◌, ◌+◌, ◌-◌, ◌^◌, ◌<◌, arith, ap, ◌∙◌, rules}
use Rattle.wiring.specs.declared.right.Atom.TheVariants as atom
use Rattle.net_build.proofs.Logic.{logic_none}
use Rattle.edge_select.proofs.Combining.{at_least_is, equal_is, is_from_end, is_from_other}
use Rattle.edge_select.proofs.Failing.{at_err}
use Rattle.std.proofs.Common.{[], ◌∷◌}
use Rattle.wiring.specs.declared.right.Operator.TheVariants.{Equal, Less}
use Rattle.edge_select.proofs.Levels.{over_deeper, compared_over, above_over}
use Rattle.edge_select.proofs.frame_conditions.at_least.Goals as goal

pub returns-then-first-eq0 : goal.returns-then-first-eq0
returns-then-first-eq0 c = record {
  logic = logic_none c.args.b.now;
  test = search rules;
  depth = tt;
}

pub returns-then-first-side : goal.returns-then-first-side
returns-then-first-side c = record {
  logic = c.gate.ensures.logic;
  test = let some : 0 < c.args.first = omega (arith, c.if-first-eq0.false) in
      let whole : c.args.first + 1 ≡ c.args.side = omega (arith, c.if-first-side.true, c.requires.x.some) in
      let fits : c.args.first < 2 ^ c.args.bits = omega (arith, c.if-first-side.true, c.requires.x.side) in
      is_from_end c.gate.new.b c.args.b.now c.args.x c.in_ok-net.net c.args.side c.args.first some whole
      (equal_is c.args.b.now c.gate.new.b c.args.x c.in_ok-net.net c.args.bits c.args.first c.number-last.result c.gate.ensures.logic.includes c.requires.x.x c.requires.x.width c.requires.x.bits fits
      (c.number-last.ensures ∙ ap (λ (v : ℕ). atom.Constant (record { width = c.args.bits; value = v })) c.from.ensures) c.in_ok-net.ensures.gate);
  depth = over_deeper c.gate.new.b c.args.b.now 1 2 (c.args.x ∷ []) c.in_ok-net.net (omega arith) (compared_over c.gate.new.b c.args.b.now Equal c.args.x c.in_ok-net.net c.number-last.result _ c.gate.ensures.logic.includes c.number-last.ensures c.in_ok-net.ensures.gate);
}

pub returns : goal.returns
returns c = record {
  logic = c.gate-2.ensures.logic;
  test = let some : 0 < c.args.first = omega (arith, c.if-first-eq0.false) in
      let fits : c.args.first - 1 < 2 ^ c.args.bits = omega (arith, some, c.requires.first) in
      let other : c.args.first + 1 ≢ c.args.side = λ i. c.if-first-side.false (omega (arith, i)) in
      is_from_other c.gate-2.new.b c.args.b.now c.args.x c.in_ok-net-3.net c.args.side c.args.first some other
      (at_least_is c.args.b.now c.gate-2.new.b c.args.x c.in_ok-net-3.net c.args.bits c.args.first c.number-before.result c.gate-2.ensures.logic.includes c.requires.x.x c.requires.x.width c.requires.x.bits fits some
      (c.number-before.ensures ∙ ap (λ (v : ℕ). atom.Constant (record { width = c.args.bits; value = v - 1 })) c.from-2.ensures) c.in_ok-net-3.ensures.gate);
  depth = over_deeper c.gate-2.new.b c.args.b.now 1 2 (c.args.x ∷ []) c.in_ok-net-3.net (omega arith) (above_over c.gate-2.new.b c.args.b.now Less c.args.x c.in_ok-net-3.net c.number-before.result _ c.gate-2.ensures.logic.includes c.number-before.ensures c.in_ok-net-3.ensures.gate);
}

pub returns-in_err-net : goal.returns-in_err-net
returns-in_err-net c = at_err _ _ c.from_residual.result c.from_residual.ensures.1 (c.gate.ensures.logic)

pub returns-in_err-net-3 : goal.returns-in_err-net-3
returns-in_err-net-3 c = at_err _ _ c.from_residual-in_err-net-3.result c.from_residual-in_err-net-3.ensures.1 (c.gate-2.ensures.logic)
