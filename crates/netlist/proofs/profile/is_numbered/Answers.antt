use Rattle.std.proofs.Common.{◌+◌, sym, ◌∙◌, arith}
use Rattle.std.proofs.lemmas.Bool.{eqb-true}
use Rattle.netlist.proofs.Profiles.{not_numbered, numbered_is}
use Rattle.netlist.proofs.profile.is_numbered.Goals as goal

pub returns-then-not-same-clause-no : goal.returns-then-not-same-clause-no
returns-then-not-same-clause-no c = λ is.
    absurd (not_numbered c.args.name.now c.in-Some.front.now c.args.word.now c.in-Some.digit.now c.args.number c.in-Some.ensures.cases.0 (omega arith) (sym c.same.ensures ∙ c.if-not-same.true) is)

pub returns-else-not-same-clause-yes : goal.returns-else-not-same-clause-yes
returns-else-not-same-clause-yes c = λ e.
    numbered_is c.args.name.now c.in-Some.front.now c.args.word.now c.in-Some.digit.now c.args.number c.in-Some.ensures.cases.0 (omega arith) (sym c.same.ensures ∙ c.if-not-same.false) (eqb-true c.in-Some.digit.now (48 + c.args.number) e)
