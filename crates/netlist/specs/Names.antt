-- The names beside a netlist.
use Rattle.std.specs.Prelude.{◌≡◌, ℕ, zero, suc, ◌+◌, ◌-◌, ◌/◌, Bool, true, if◌then◌else◌, List, [], ◌∷◌, ◌++◌, length, slice_get, Some, unwrap_or, All, codes}
use Rattle.net_names.specs.Words.{is_name}
use Rattle.wiring.specs.declared.TheConstants.{MOST_PORTS}
use Rattle.wiring.specs.Netlist.{Netlist, first_din}
use Rattle.netlist.specs.declared.names.Names.{Names}

-- the name of the module, and those of wires, registers and arrays in order
pub record ModuleNames : Type 0 where
  pub «module» : List ℕ
  pub wires : List (List ℕ)
  pub regs : List (List ℕ)
  pub arrays : List (List ℕ)

abbrev pub names_of : Names → ModuleNames
names_of n = record { «module» = n.module; wires = n.wires.items; regs = n.regs.items; arrays = n.arrays.items }

-- a module: a netlist, with the names of its nets and arrays
pub record NamedNetlist : Type 0 where
  pub netlist : Netlist
  pub names : ModuleNames

-- the first port of a kind has the bare name, the k-th further one the digit k after it
abbrev pub numbered : List ℕ → ℕ → List ℕ
numbered name zero = name
numbered name (suc k) = name ++ (49 + k) ∷ []

-- The names of ports: clock, reset, enable, and the k-th din, valid and dout.
abbrev pub clock_name : List ℕ
clock_name = codes "clk"

abbrev pub reset_name : List ℕ
reset_name = codes "rst"

abbrev pub enable_name : List ℕ
enable_name = codes "en"

abbrev pub din_name : ℕ → List ℕ
din_name k = numbered (codes "din") k

abbrev pub valid_name : ℕ → List ℕ
valid_name k = numbered (codes "valid") k

abbrev pub dout_name : ℕ → List ℕ
dout_name k = numbered (codes "dout") k

-- this many dins, and outputs, from the k-th on
abbrev pub din_names : ℕ → ℕ → List (List ℕ)
din_names k zero = []
din_names k (suc n) = din_name k ∷ din_names (suc k) n

-- the names of the ports of n outputs from number k on: for each its valid and its dout
abbrev pub output_names : ℕ → ℕ → List (List ℕ)
output_names k zero = []
output_names k (suc n) = valid_name k ∷ (dout_name k ∷ output_names (suc k) n)

-- the inputs after the clock: the reset, the enable where there is one, and this many dins
abbrev pub names_after_clock : Bool → ℕ → List (List ℕ)
names_after_clock enable dins = reset_name ∷ (if enable then enable_name ∷ din_names 0 dins else din_names 0 dins)

abbrev pub input_names : Netlist → List (List ℕ)
input_names m = clock_name ∷ names_after_clock m.enable (length m.inputs - first_din m)

-- the names of the ports, in the order of the text: the inputs, then the outputs
abbrev pub port_names : Netlist → List (List ℕ)
port_names m = input_names m ++ output_names 0 (length m.outputs / 2)

-- the name at a place
abbrev pub name_at : List (List ℕ) → ℕ → List ℕ
name_at names k = unwrap_or (slice_get names k) []

-- the inputs after the clock, and the outputs, of a module with as many ports as there may be
abbrev pub all_inputs : Bool → List (List ℕ)
all_inputs enable = names_after_clock enable MOST_PORTS

abbrev pub all_outputs : List (List ℕ)
all_outputs = output_names 0 MOST_PORTS

-- no two places have the same name
abbrev pub AreDistinct : List (List ℕ) → Type 0
AreDistinct names = (i j : ℕ) (x : List ℕ) → slice_get names i ≡ Some x → slice_get names j ≡ Some x → i ≡ j

-- each wire, register and array has a name of its own, which no port has
pub record HasNames (m : Netlist) (n : ModuleNames) : Type 0 where
  pub wires : length n.wires ≡ length m.wires
  pub regs : length n.regs ≡ length m.regs
  pub arrays : length n.arrays ≡ length m.arrays
  pub distinct : AreDistinct (((port_names m ++ n.wires) ++ n.regs) ++ n.arrays)
  pub module_name : is_name n.«module» ≡ true
  pub are_names : All (λ b. is_name b ≡ true) ((n.wires ++ n.regs) ++ n.arrays)
