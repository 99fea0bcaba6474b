use Rattle.verilog_text.specs.Grammar.{source_of}
use Rattle.verilog_read.proofs.Judged.{net_is}
use Rattle.verilog_read.proofs.Spanned.{fault_written}
use Rattle.verilog_read.proofs.text.module_of.Goals as goal

pub net_fault-requires : goal.net_fault-requires
net_fault-requires c =
    let fault = rw c.in-Err-Fault.field-0-is at c.in-Err-Fault.ensures.fault in
    fault_written c.args.text.now (source_of c.args.written.now) c.in-Ok.parts c.in-Ok.ensures c.in-Err-Fault.fault fault

pub returns-in-Err-Fault : goal.returns-in-Err-Fault
returns-in-Err-Fault c =
    let fault = rw c.in-Err-Fault.field-0-is at c.in-Err-Fault.ensures.fault in
    let some = fault_written c.args.text.now (source_of c.args.written.now) c.in-Ok.parts c.in-Ok.ensures c.in-Err-Fault.fault fault in
    net_is c.args.text.now (source_of c.args.written.now) c.in-Ok.parts c.in-Err-Fault.fault c.net_fault.result c.requires.written c.requires.limits c.in-Ok.ensures fault some c.net_fault.ensures
