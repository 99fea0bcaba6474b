-- Contents at power-up.
use Rattle.std.specs.Prelude.{ℕ, ◌-◌, ◌^◌, List, map, replicate}
use Rattle.wiring.specs.declared.netlist.Shape.{Shape}
use Rattle.wiring.specs.Netlist.{Netlist}
use Rattle.wiring.specs.Snapshot.{Contents}
use Rattle.cycle_sim.specs.declared.fill.Fill.{Fill}
use Rattle.cycle_sim.specs.declared.fill.Fill.TheVariants.{Zeros, Ones}

abbrev pub fill_value : Fill → ℕ → ℕ
fill_value Zeros width = 0
fill_value Ones width = 2 ^ width - 1

abbrev pub filled_words : Fill → Shape → List ℕ
filled_words fill s = replicate s.depth (fill_value fill s.width)

abbrev pub filled_contents : Fill → Netlist → Contents
filled_contents fill m = record { regs = map (fill_value fill) m.regs; arrays = map (filled_words fill) m.arrays }
