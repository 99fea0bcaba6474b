-- The names that a builder gives.
use Rattle.std.specs.Prelude.{ℕ, ◌≤◌, ◌^◌, List, ◌++◌, length, map, codes, decimal}
use Rattle.std.specs.List.{range_with_len}
use Rattle.wiring.specs.Netlist.{Netlist}
use Rattle.netlist.specs.Names.{ModuleNames, NamedNetlist}
use Rattle.net_build.specs.Draft.{with_outputs}
use Rattle.wiring.specs.declared.netlist.Net.{Net}

-- a letter and a number, as n12
abbrev pub made_name : (letter : List ℕ) → ℕ → List ℕ
made_name letter k = letter ++ decimal k

-- this many names with a letter, with the numbers from 0 on
abbrev pub made_names : (letter : List ℕ) (count : ℕ) → List (List ℕ)
made_names letter count = map (made_name letter) (range_with_len 0 count)

-- n0 and so on for wires, r0 for registers, m0 for arrays
abbrev pub names_for : Netlist → ModuleNames
names_for b = record {
  «module» = codes "dk";
  wires = made_names (codes "n") (length b.wires);
  regs = made_names (codes "r") (length b.regs);
  arrays = made_names (codes "m") (length b.arrays);
}

-- the module of a draft whose outputs take these nets
abbrev pub finished : Netlist → List Net → NamedNetlist
finished b sources = record { netlist = with_outputs b sources; names = names_for b }

-- no more of a sort than an index can number
pub record AreCounts (b : Netlist) : Type 0 where
  pub wires : length b.wires ≤ 2 ^ 64
  pub regs : length b.regs ≤ 2 ^ 64
  pub arrays : length b.arrays ≤ 2 ^ 64
