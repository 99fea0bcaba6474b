-- The buffer bits of a netlist: those of all arrays, and of each register that takes in what came in.
use Rattle.std.specs.Prelude.{◌≡◌, ◌↔◌, ℕ, ◌+◌, ◌*◌, ◌<◌, ◌≤◌, Bool, false, IsTrue, if◌then◌else◌, List, [], ◌∷◌, ◌++◌, length, slice_index_or, Contains}
use Rattle.std.specs.Prelude.{map}
use Rattle.std.specs.Option.{option_to_list}
use Rattle.wiring.specs.declared.right.Atom.{Atom}
use Rattle.wiring.specs.declared.right.Atom.TheVariants as atom
use Rattle.wiring.specs.declared.right.Right.{Right}
use Rattle.wiring.specs.declared.netlist.Net.{Net}
use Rattle.wiring.specs.declared.netlist.Net.TheVariants.{Input, Reg}
use Rattle.wiring.specs.declared.netlist.Shape.{Shape}
use Rattle.wiring.specs.declared.netlist.Assign.{Assign}
use Rattle.wiring.specs.declared.netlist.Update.{Update}
use Rattle.wiring.specs.declared.netlist.Update.TheVariants.{Set, Put}
use Rattle.wiring.specs.Rights.{operands, array_of, gathered}
use Rattle.wiring.specs.Netlist.{Netlist, first_din, update_target}
use Rattle.wiring.specs.declared.netlist.Holder.{Holder}
use Rattle.wiring.specs.declared.netlist.Holder.TheVariants.{OfNet, OfArray}

-- what takes a value, and what that value is made of, indices included
pub record Drive : Type 0 where
  pub reads : List Holder
  pub target : Holder

abbrev pub atom_reads : Atom Net → List Holder
atom_reads (atom.Net n) = OfNet n ∷ []
atom_reads (atom.Constant c) = []

abbrev pub right_reads : Right Net ℕ → List Holder
right_reads r = gathered atom_reads (map (λ m. OfArray m) (option_to_list (array_of r))) (operands r)

abbrev pub update_reads : Update → List Holder
update_reads (Set r a) = atom_reads a
update_reads (Put m i a) = atom_reads i ++ atom_reads a

abbrev pub assign_drive : Assign → Drive
assign_drive a = record { reads = right_reads a.right; target = OfNet a.target }

abbrev pub update_drive : Update → Drive
update_drive u = record { reads = update_reads u; target = update_target u }

abbrev pub drives : Netlist → List Drive
drives m = map assign_drive m.assigns ++ map update_drive m.updates

-- the least set that holds every din and, with anything that an assign or update reads, its target
pub data IsFed (m : Netlist) : Holder → Type 0 where
  by_port : (i : ℕ) → first_din m ≤ i → i < length m.inputs → IsFed m (OfNet (Input i))
  by_drive : {from to : Holder} (d : Drive) → Contains (drives m) d → Contains d.reads from → d.target ≡ to → IsFed m from → IsFed m to

-- the bits of all arrays: width times words, summed
abbrev pub array_bits : List Shape → ℕ
array_bits [] = 0
array_bits (s ∷ arrays) = s.width * s.depth + array_bits arrays

-- the widths of the registers that are chosen
abbrev pub chosen_bits : List ℕ → List Bool → ℕ
chosen_bits [] chosen = 0
chosen_bits (w ∷ regs) [] = 0
chosen_bits (w ∷ regs) (b ∷ chosen) = (if b then w else 0) + chosen_bits regs chosen

-- n is the bits of all arrays and of each register that takes in what came in at a din
pub record IsBufferBits (m : Netlist) (n : ℕ) : Type 0 where
  pub fed : List Bool
  pub size : length fed ≡ length m.regs
  pub each : (r : ℕ) → r < length m.regs → IsTrue (slice_index_or fed r false) ↔ IsFed m (OfNet (Reg r))
  pub bits : n ≡ array_bits m.arrays + chosen_bits m.regs fed
