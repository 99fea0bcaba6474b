use Rattle.verilog_verdicts.proofs.Netted.{some}
use Rattle.verilog_verdicts.proofs.laws.every_netlist_law.Goals as goal

pub returns : goal.returns
returns c = record { some = some }
