-- For the private functions: the end of a list of ports, from the outputs, the dins or the enable on.
use Rattle.std.specs.Prelude.{◌≤◌, ℕ, ◌+◌, Bool, true, if◌then◌else◌, List, [], ◌∷◌, ◌++◌, codes}
use Rattle.std.specs.List.{AllZip}
use Rattle.wiring.specs.declared.TheConstants.{MOST_PORTS}
use Rattle.wiring.specs.Rules.{IsPortCount}
use Rattle.netlist.specs.declared.parts.Port.{Port}
use Rattle.netlist.specs.declared.parts.Direction.{Direction}
use Rattle.netlist.specs.declared.parts.Direction.TheVariants.{Input as Takes}
use Rattle.netlist.specs.Names.{numbered}
use Rattle.netlist.specs.Faults.{PortRule, bit_input, din_rules, output_rules, FitsRule}

abbrev pub din_rule : ℕ → PortRule
din_rule k = record { direction = Takes; name = numbered (codes "din") k; wide = true }

-- the port has this direction, the name of this word with this number, and one bit unless it is wide
abbrev pub IsNumberedPort : Port → Direction → (word : List ℕ) → (number : ℕ) → (wide : Bool) → Type 0
IsNumberedPort p direction word number wide = FitsRule p (record { direction = direction; name = numbered word number; wide = wide })

-- from the output of this number on
pub record AreOutputs (ports : List Port) (number : ℕ) : Type 0 where
  pub count : ℕ
  pub few : number + count ≤ MOST_PORTS
  pub fit : AllZip FitsRule ports (output_rules number count)

-- from the din of this number on
pub record AreFromDins (ports : List Port) (number : ℕ) : Type 0 where
  pub dins : ℕ
  pub douts : ℕ
  pub din_count : IsPortCount (number + dins)
  pub dout_count : IsPortCount douts
  pub fit : AllZip FitsRule ports (din_rules number dins ++ output_rules 0 douts)

-- from the enable on, or the first din where there is none
pub record AreFromEnable (ports : List Port) : Type 0 where
  pub enable : Bool
  pub dins : ℕ
  pub douts : ℕ
  pub din_count : IsPortCount dins
  pub dout_count : IsPortCount douts
  pub fit : AllZip FitsRule ports ((if enable then bit_input (codes "en") ∷ [] else []) ++ (din_rules 0 dins ++ output_rules 0 douts))
