use Rattle.std.proofs.Common.{◌∙◌}
use Rattle.report_text.proofs.Lines.{follows_last}
use Rattle.report_text.proofs.Orders.{is_the_test}
use Rattle.report_text.proofs.flow.may_follow.Goals as goal

pub returns-in-Some : goal.returns-in-Some
returns-in-Some c =
    is_the_test c.in-Some.last.now c.args.line c.stands_before.result (c.stands_before.ensures.yes, c.stands_before.ensures.no)
    ∙ follows_last c.args.flow.now c.args.line c.in-Some.last.now c.in-Some.ensures.value
