use Rattle.std.proofs.Common.{subst, sym}
use Rattle.verilog_parse.specs.Fault.{IsParseFault}
use Rattle.verilog_parse.proofs.OneAnswer as O
use Rattle.verilog_parse.proofs.text.read.Goals as goal

pub returns-in-Ok-module : goal.returns-in-Ok-module
returns-in-Ok-module c = O.is_written _ _ _ c.in-Ok.ensures.tokens c.in-Ok-module.ensures.parsed

pub returns-in-Err-Faulty : goal.returns-in-Err-Faulty
returns-in-Err-Faulty c =
    let stuck = rw c.in-Err-Faulty.field-0-is at c.in-Err-Faulty.ensures.parsed in
    subst (λ f. IsParseFault c.args.text.now f) (sym c.fault_at.ensures) (O.parse_fault _ _ _ _ _ c.in-Ok.ensures.tokens stuck c.peek.ensures.next.1)
