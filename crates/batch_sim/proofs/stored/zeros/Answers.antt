use Rattle.std.proofs.Common.{◌∙◌, ap, List, ℕ, map, length, replicate}
use Rattle.wiring.specs.declared.netlist.Shape.{Shape}
use Rattle.wiring.specs.Netlist.{netlist_of}
use Rattle.cycle_sim.specs.Slots.{words_of}
use Rattle.batch_sim.proofs.Fitting.{zeros_fit}
use Rattle.batch_sim.proofs.stored.zeros.Goals as goal

pub returns : goal.returns
returns c =
    zeros_fit (netlist_of c.args.wiring.now) c.in_ok-regs.regs.items (words_of c.in_ok-arrays.arrays.items)
    (c.in_ok-regs.ensures ∙ ap (λ (l : List ℕ). replicate (length l) 0) c.deref.ensures.value)
    (c.in_ok-arrays.ensures ∙ ap (λ (l : List Shape). map (λ (s : Shape). replicate s.depth 0) l) c.deref-2.ensures.value)
