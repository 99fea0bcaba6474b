use Rattle.std.proofs.Common.{◌∙◌, sym, subst, ap, length}
use Rattle.std.specs.List.{All}
use Rattle.wiring.specs.Rules.{IsPortCount, IsPortWidth}
use Rattle.cycle_sim.specs.Ports.{din_widths}
use Rattle.cycle_sim.proofs.Given.{din_ports}
use Rattle.cycle_sim.proofs.ports.dins_of.Goals as goal

pub returns-clause-count : goal.returns-clause-count
returns-clause-count c =
    subst (λ z. IsPortCount (length z)) (sym (c.dins_in.ensures ∙ ap (λ m. din_widths m) c.wiring-wiring.ensures.netlist)) (din_ports c.args.module.now.netlist c.wiring-wiring.ensures.rules).0

pub returns-clause-ports : goal.returns-clause-ports
returns-clause-ports c =
    subst (λ z. All IsPortWidth z) (sym (c.dins_in.ensures ∙ ap (λ m. din_widths m) c.wiring-wiring.ensures.netlist)) (din_ports c.args.module.now.netlist c.wiring-wiring.ensures.rules).1
