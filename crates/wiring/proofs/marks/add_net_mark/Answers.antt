use Rattle.std.proofs.Common.{ap}
use Rattle.wiring.specs.declared.netlist.Net.{Net}
use Rattle.wiring.specs.declared.netlist.Holder.TheVariants.{OfNet}
use Rattle.wiring.proofs.MarkLists.{adds_inputs, adds_outputs, adds_wires, adds_regs}
use Rattle.wiring.proofs.marks.add_net_mark.Goals as goal

pub returns-in-Input : goal.returns-in-Input
returns-in-Input c = adds_inputs c.args.marks.now (OfNet c.args.net) c.in-Input.i (ap (λ (n : Net). OfNet n) c.in-Input.is) c.requires.place c.requires.free

pub returns-in-Output : goal.returns-in-Output
returns-in-Output c = adds_outputs c.args.marks.now (OfNet c.args.net) c.in-Output.i (ap (λ (n : Net). OfNet n) c.in-Output.is) c.requires.place c.requires.free

pub returns-in-Wire : goal.returns-in-Wire
returns-in-Wire c = adds_wires c.args.marks.now (OfNet c.args.net) c.in-Wire.i (ap (λ (n : Net). OfNet n) c.in-Wire.is) c.requires.place c.requires.free

pub returns-in-Reg : goal.returns-in-Reg
returns-in-Reg c = adds_regs c.args.marks.now (OfNet c.args.net) c.in-Reg.i (ap (λ (n : Net). OfNet n) c.in-Reg.is) c.requires.place c.requires.free
