-- Modules that a text can describe.
use Rattle.std.specs.Prelude.{◌≤◌}
use Rattle.dk_base.specs.declared.TheConstants.{MAX_BUFFER_BITS}
use Rattle.wiring.specs.Rules.{KeepsRules}
use Rattle.wiring.specs.BufferBits.{array_bits}
use Rattle.netlist.specs.Names.{NamedNetlist, HasNames}

-- it keeps the net rules, its names fit, and its arrays have no more bits than a text may have
pub record IsPrintable (m : NamedNetlist) : Type 0 where
  pub rules : KeepsRules m.netlist
  pub names : HasNames m.netlist m.names
  pub bits : array_bits m.netlist.arrays ≤ MAX_BUFFER_BITS
