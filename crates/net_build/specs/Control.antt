-- What nets are made of through assigns, and registers that take in no data.
use Rattle.std.specs.Prelude.{◌≡◌, ◌==◌, ◌≤◌, ◌<◌, ◌⊎◌, ℕ, Some, slice_get, List, length, Bool, true, false, not, IsTrue, nat_lt, if◌then◌else◌, All, Contains}
use Rattle.std.specs.List.{list_any}
use Rattle.std.specs.Option.{option_to_list}
use Rattle.wiring.specs.declared.right.Right.{Right}
use Rattle.wiring.specs.declared.netlist.Net.{Net}
use Rattle.wiring.specs.declared.netlist.Net.TheVariants.{Input, Output, Wire, Reg}
use Rattle.wiring.specs.declared.netlist.Holder.{Holder}
use Rattle.wiring.specs.declared.netlist.Holder.TheVariants.{OfNet, OfArray}
use Rattle.wiring.specs.declared.netlist.Assign.{Assign}
use Rattle.wiring.specs.declared.netlist.Update.{Update}
use Rattle.wiring.specs.declared.netlist.Update.TheVariants.{Set, Put}
use Rattle.wiring.specs.Netlist.{Netlist}
use Rattle.wiring.specs.BufferBits.{atom_reads, right_reads, IsFed}
use Rattle.wiring.specs.Rights.{array_of}
use Rattle.net_build.specs.Depth.{SetsWithin}

-- made only of these nets and arrays: one of them, or driven by what is made only of them
pub data IsMadeOf (m : Netlist) (base : Holder → Bool) : Holder → Type 0 where
  by_itself : {h : Holder} → IsTrue (base h) → IsMadeOf m base h
  by_assign : {h : Holder} (a : Assign) → Contains m.assigns a → OfNet a.target ≡ h → ((g : Holder) → Contains (right_reads a.right) g → IsMadeOf m base g) → IsMadeOf m base h

-- rst, en and the registers
abbrev pub is_control : Bool → Holder → Bool
is_control enable (OfNet (Input k)) = nat_lt k (if enable then 2 else 1)
is_control enable (OfNet (Output k)) = false
is_control enable (OfNet (Wire k)) = false
is_control enable (OfNet (Reg k)) = true
is_control enable (OfArray x) = false

-- made of no din and no array, except through registers
abbrev pub IsControl : Netlist → Holder → Type 0
IsControl b h = IsMadeOf b (is_control b.enable) h

-- rst, en and the registers, except these
abbrev pub is_control_but : (enable : Bool) → (copies : List ℕ) → Holder → Bool
is_control_but enable copies (OfNet (Input k)) = nat_lt k (if enable then 2 else 1)
is_control_but enable copies (OfNet (Output k)) = false
is_control_but enable copies (OfNet (Wire k)) = false
is_control_but enable copies (OfNet (Reg k)) = not (list_any (λ (r : ℕ). r == k) copies)
is_control_but enable copies (OfArray x) = false

abbrev pub IsControlBut : Netlist → (copies : List ℕ) → Holder → Type 0
IsControlBut b copies h = IsMadeOf b (is_control_but b.enable copies) h

-- a register is one of the copies, or takes what is made of rst, en and registers that are none
abbrev pub TakesControl : Netlist → (copies : List ℕ) → Update → Type 0
TakesControl b copies (Set r a) = Contains copies r ⊎ All (IsControlBut b copies) (atom_reads a)
TakesControl b copies (Put x i a) = Unit {0}

-- Each register takes what is made of rst, en and registers, except the copies: registers that may take words of arrays. No other register takes in a copy. Each clock path to a register is short.
pub record IsControlled (b : Netlist) (copies : List ℕ) : Type 0 where
  pub there : All (λ r. r < length b.regs) copies
  pub each : All (TakesControl b copies) b.updates
  pub levels : All (SetsWithin b) b.updates

-- registers that take only control nets still do
abbrev pub KeepsControl : (new old : Netlist) → Type 0
KeepsControl new old = (copies : List ℕ) → IsControlled old copies → IsControlled new copies

-- a net is made of whatever the reads of this right side are made of
abbrev pub IsMadeOfReads : Netlist → Right Net ℕ → Net → Type 0
IsMadeOfReads b r n = (base : Holder → Bool) → All (IsMadeOf b base) (right_reads r) → IsMadeOf b base (OfNet n)

-- no register except these depends on a din
abbrev pub FedOnly : Netlist → (copies : List ℕ) → Type 0
FedOnly m copies = (r : ℕ) → IsFed m (OfNet (Reg r)) → Contains copies r

-- the right side reads this array
abbrev pub reads_array : Right Net ℕ → ℕ → Bool
reads_array r x = list_any (λ (a : ℕ). a == x) (option_to_list (array_of r))

-- the assigns that are added read only these arrays
pub record AddsReads (new old : Netlist) (arrays : ℕ → Bool) : Type 0 where
  pub each : (k : ℕ) (a : Assign) → length old.assigns ≤ k → slice_get new.assigns k ≡ Some a → (x : ℕ) → Contains (right_reads a.right) (OfArray x) → IsTrue (arrays x)

-- they read no array
abbrev pub AddsNoReads : Netlist → Netlist → Type 0
AddsNoReads new old = AddsReads new old (λ x. false)
