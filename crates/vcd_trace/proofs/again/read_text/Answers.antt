use Rattle.vcd_trace.proofs.Headings.{refuse_text, at_text}
use Rattle.vcd_trace.proofs.again.read_text.Goals as goal

pub returns-in-None : goal.returns-in-None
returns-in-None c = λ m same head. refuse_text m c.args.text.now c.args.head.now c.common_lines-number.result head c.common_lines-number.ensures.number c.in-None.ensures

pub returns-in-Err : goal.returns-in-Err
returns-in-Err c = λ m same head. c.in-Err.ensures m c.args.text.now same (at_text m c.args.text.now c.args.head.now c.in-Some.rest.now c.common_lines-number.result head c.common_lines-number.ensures.number c.in-Some.ensures)

pub returns-in-Ok : goal.returns-in-Ok
returns-in-Ok c = λ m same head. c.in-Ok.ensures m c.args.text.now same (at_text m c.args.text.now c.args.head.now c.in-Some.rest.now c.common_lines-number.result head c.common_lines-number.ensures.number c.in-Some.ensures)
