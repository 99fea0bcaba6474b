-- The module of a program under a plan, with its buffers in a form.
use Rattle.std.specs.Prelude.{◌≡◌, ◌⊎◌, ◌↔◌, ℕ, ◌+◌, ◌<◌, ◌++◌, Bool, false, IsTrue, List, [], length, slice_index_or, All, Contains}
use Rattle.wiring.specs.declared.netlist.Net.{Net}
use Rattle.wiring.specs.declared.netlist.Net.TheVariants.{Reg}
use Rattle.wiring.specs.declared.netlist.Holder.{Holder}
use Rattle.wiring.specs.declared.netlist.Holder.TheVariants.{OfNet}
use Rattle.wiring.specs.declared.netlist.Update.{Update}
use Rattle.wiring.specs.declared.netlist.Update.TheVariants.{Set, Put}
use Rattle.wiring.specs.BufferBits.{IsFed, IsBufferBits, array_bits, chosen_bits, atom_reads}
use Rattle.wiring.specs.Netlist.{Netlist, depth, valid_net, dout_net}
use Rattle.net_build.specs.Control.{IsMadeOf, FedOnly}
use Rattle.pointwise_ir.specs.Programs.{Program}
use Rattle.buffer_plan.specs.Plans.{Plan, bits_of}
use Rattle.line_buffer.specs.Chains.{AreCopies}
use Rattle.line_buffer.specs.Fills.{IsCopyOf}
use Rattle.circuit.specs.Taps.{Keeps}
use Rattle.circuit.specs.Forms.{Form}
use Rattle.circuit.specs.Images.{direct_source}
use Rattle.circuit.specs.Behaviour.{net_of, Behaves}
use Rattle.circuit.specs.Nets.{AreNetsOf}

-- one of the copies, which copies the word of array x
pub record HasCopy (m : Netlist) (copies : List ℕ) (x : ℕ) : Type 0 where
  pub copy : ℕ
  pub among : Contains copies copy
  pub copies_word : IsCopyOf m x copy

-- The copies are a register for each long array, in order, as wide as its words, which copies its word.
pub record CopyLongArrays (m : Netlist) (long : (words : ℕ) → Bool) (copies : List ℕ) : Type 0 where
  pub widths : AreCopies long m copies m.arrays
  pub each : (x : ℕ) → x < length m.arrays → IsTrue (long (depth m x)) → HasCopy m copies x

-- k is n and the widths of the copies that a din reaches
pub record AddsCopies (m : Netlist) (n : ℕ) (copies : List ℕ) (k : ℕ) : Type 0 where
  pub fed : List Bool
  pub size : length fed ≡ length m.regs
  pub each : (r : ℕ) → r < length m.regs → IsTrue (slice_index_or fed r false) ↔ (Contains copies r × IsFed m (OfNet (Reg r)))
  pub bits : k ≡ n + chosen_bits m.regs fed

-- The arrays have n bits, and a register that a din reaches is one of the copies. So the buffer bits are n, and the widths of the copies that a din reaches.
pub record HasBits (m : Netlist) (n : ℕ) (copies : List ℕ) : Type 0 where
  pub arrays : array_bits m.arrays ≡ n
  pub fed : FedOnly m copies
  pub plain : copies ≡ [] → IsBufferBits m n
  pub exact : (k : ℕ) → IsBufferBits m k → AddsCopies m n copies k

-- what an update reads is made only of the base, unless it is the update of a copy
abbrev pub ReadsOnly : Netlist → (base : Holder → Bool) → (copies : List ℕ) → Update → Type 0
ReadsOnly m base copies (Set r a) = Contains copies r ⊎ All (IsMadeOf m base) (atom_reads a)
ReadsOnly m base copies (Put x i a) = All (IsMadeOf m base) (atom_reads i ++ atom_reads a)

-- No path of assigns leads from a long array to an image's net, an output, a put, or a register that is not a copy.
pub record ReadsDirectly (m : Netlist) (p : Program) (plan : Plan) (form : Form) (copies : List ℕ) (nets : List Net) : Type 0 where
  pub net : (g : ℕ) → Keeps plan g → IsMadeOf m (direct_source form plan) (OfNet (net_of plan nets g))
  pub dout : (k : ℕ) → k < length p.outputs → IsMadeOf m (direct_source form plan) (OfNet (dout_net k))
  pub valid : (k : ℕ) → k < length p.outputs → IsMadeOf m (direct_source form plan) (OfNet (valid_net k))
  pub updates : (u : Update) → Contains m.updates u → ReadsOnly m (direct_source form plan) copies u

-- What the module does, its buffer bits, its copies, and its nets.
pub record IsModuleOf (m : Netlist) (p : Program) (plan : Plan) (form : Form) (nets : List Net) : Type 0 where
  pub copies : List ℕ
  pub copied : CopyLongArrays m form.long copies
  pub behaves : Behaves m p plan form.places copies nets
  pub bits : HasBits m (bits_of plan) copies
  pub nets_are : AreNetsOf m p plan form copies nets
  pub direct : ReadsDirectly m p plan form copies nets
