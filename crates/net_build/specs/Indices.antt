-- At which indices an array is read and put.
use Rattle.std.specs.Prelude.{ℕ, ◌==◌, if◌then◌else◌, List, [], ◌∷◌}
use Rattle.wiring.specs.declared.right.Atom.{Atom}
use Rattle.wiring.specs.declared.netlist.Net.{Net}
use Rattle.wiring.specs.declared.netlist.Assign.{Assign}
use Rattle.wiring.specs.Netlist.{Netlist}
use Rattle.wiring.specs.Snapshot.{right_accesses, update_accesses, accesses_of}

-- the indices of the accesses to this array, in order
abbrev pub indices_of : (array : ℕ) → List (ℕ × Atom Net) → List (Atom Net)
indices_of array [] = []
indices_of array (a ∷ accesses) = if a.0 == array then a.1 ∷ indices_of array accesses else indices_of array accesses

-- those of the assigns
abbrev pub read_indices : Netlist → ℕ → List (Atom Net)
read_indices m x = indices_of x (accesses_of (λ (a : Assign). right_accesses a.right) m.assigns)

-- those of the updates
abbrev pub put_indices : Netlist → ℕ → List (Atom Net)
put_indices m x = indices_of x (accesses_of update_accesses m.updates)
