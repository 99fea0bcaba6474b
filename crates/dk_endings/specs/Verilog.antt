-- What is reported of the faults of a Verilog text.
use Rattle.netlist.specs.declared.fault.NetFault.{NetFault}
use Rattle.netlist.specs.declared.fault.NetFault.TheVariants as net
use Rattle.verilog_text.specs.declared.fault.TextFault.{TextFault}
use Rattle.verilog_text.specs.declared.fault.TextFault.TheVariants as text
use Rattle.dk_endings.specs.declared.verilog.VerilogKind.{VerilogKind}
use Rattle.dk_endings.specs.declared.verilog.VerilogKind.TheVariants as kind
use Rattle.dk_endings.specs.declared.verilog.VerilogFault.{VerilogFault}
use Rattle.dk_endings.specs.declared.verilog.VerilogFault.TheVariants.{At}

-- of the net rules
abbrev pub net_kind : NetFault → VerilogKind
net_kind (net.Duplicate _) = kind.Duplicate
net_kind net.Ports = kind.Ports
net_kind (net.Unknown _) = kind.Unknown
net_kind (net.WrongSort _) = kind.WrongSort
net_kind (net.Divisor _) = kind.Divisor
net_kind (net.Width _) = kind.Width
net_kind (net.DrivenTwice _) = kind.DrivenTwice
net_kind (net.Undriven _) = kind.Undriven
net_kind (net.Cycle _) = kind.Cycle

-- the kind and the place of a fault
abbrev pub fault_told : TextFault → VerilogFault
fault_told (text.Lex fault) = At fault.span (kind.Token fault.kind)
fault_told (text.Syntax span) = At span kind.Syntax
fault_told (text.NotInSubset span) = At span kind.NotInSubset
fault_told (text.Limit fault) = At fault.span (kind.Limit fault.kind)
fault_told (text.Net span fault) = At span (net_kind fault)
