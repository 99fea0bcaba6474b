use Rattle.std.proofs.Common.{◌≤◌, sym, subst}
use Rattle.dk_base.specs.declared.TheConstants.{MAX_BUFFER_BITS}
use Rattle.wiring.specs.BufferBits.{array_bits}
use Rattle.netlist.specs.Names.{NamedNetlist}
use Rattle.verilog_verdicts.proofs.Printed.{sizes_fit, names_are, bits_within}
use Rattle.verilog_verdicts.proofs.laws.printable_law.Goals as goal

pub returns : goal.returns
returns c = record {
  printable = λ text m h. record {
    rules = c.rules_kept_law.ensures.rules h.parts m (sizes_fit text.items h.parts h.has_parts) h.is_module;
    names = c.rules_kept_law.ensures.names h.parts m (names_are text.items h.parts h.has_parts) h.is_module;
    bits = subst (λ (n : NamedNetlist). array_bits n.netlist.arrays ≤ MAX_BUFFER_BITS) (sym h.is_module.is) (bits_within text.items h.parts h.has_parts);
  };
}
