use Rattle.std.proofs.Common.{◌≡◌, refl, rules, sym, true, false}
use Rattle.netlist.proofs.Resolving.{sort_is_wrong}
use Rattle.netlist.proofs.statement.checked_assign.Goals as goal

pub returns-then-not-is_driven-clause-wrong : goal.returns-then-not-is_driven-clause-wrong
returns-then-not-is_driven-clause-wrong c =
    sort_is_wrong c.args.scope.now c.args.named.now c.in-Some.assign (sym c.in-Some.ensures.named) (λ d. let e : false ≡ true = c.if-not-is_driven.ensures.no d in cc)

pub returns-clause-ok : goal.returns-clause-ok
returns-clause-ok c = record {
  named = sym c.in-Some.ensures.named;
  driven = search rules;
  divisor = search rules;
  fits = search rules;
  constants = c.in-Some.ensures.constants refl;
}
