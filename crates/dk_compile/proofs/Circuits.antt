-- The module of a program as the circuit of a text, in both forms of its buffers.
use Rattle.std.proofs.Common.{◌≡◌, ℕ, Bool, List, [], None, Some, refl, subst}
use Rattle.std.proofs.lemmas.Option.{same_Some}
use Rattle.wiring.specs.declared.netlist.Net.{Net}
use Rattle.wiring.specs.Netlist.{Netlist}
use Rattle.net_build.specs.Runs.{IsWhole, RunsOn}
use Rattle.pointwise_ir.specs.Programs.{Program}
use Rattle.buffer_plan.specs.Plans.{Plan}
use Rattle.line_buffer.proofs.Chaining.{no_copies}
use Rattle.circuit.specs.Forms.{HasProperty, chain_form, block_form, shapes_of}
use Rattle.circuit.specs.Divided.{AreChainsDivided}
use Rattle.circuit.specs.Behaviour.{HasPorts, AreReadNets}
use Rattle.circuit.specs.Nets.{AreComputed, IsApart}
use Rattle.circuit.specs.Paths.{HasClockPaths}
use Rattle.circuit.specs.Registers.{HasRegisters}
use Rattle.circuit.specs.Modules.{IsModuleOf}
use Rattle.circuit.specs.Driven.{Drives}
use Rattle.dk_compile.specs.Circuits.{IsCircuitOf}

module _ (m : Netlist) (p : Program) (plan : Plan) (enable : Bool) where
  pub chain_circuit : (nets reads : List Net) → HasPorts m p enable → IsWhole m m → RunsOn m → IsModuleOf m p plan chain_form nets → AreReadNets m p plan reads → m.arrays ≡ shapes_of chain_form.shapes plan plan.system.stencils.images → HasProperty m chain_form.property → AreComputed m p plan chain_form nets reads → IsApart m p plan chain_form nets → HasClockPaths m p plan chain_form → HasRegisters m p plan chain_form.long → Drives m p plan →
      IsCircuitOf p plan enable None m nets reads
  chain_circuit nets reads ports whole runs is reads_are arrays once computed apart paths registers drives = record {
    ports = ports;
    whole = whole;
    runs = runs;
    drives = drives;
    copies = is.copies;
    copied = is.copied;
    none = λ e. no_copies m is.copies m.arrays is.copied.widths;
    splits = [];
    divided = λ least e. absurd (let f : ⊥ = cc in f);
    behaves = is.behaves;
    bits = is.bits;
    arrays = arrays;
    once = λ x lt. (let one = once x lt in record { read_at = one.index; put_at = one.index; read = one.read; put = one.put; one = λ same. refl });
    nets_are = is.nets_are;
    reads_are = reads_are;
    direct = is.direct;
    computed = computed;
    apart = apart;
    paths = paths;
    registers = registers;
  }

  pub block_circuit : (least : ℕ) (splits : List (List ℕ)) (nets reads : List Net) → HasPorts m p enable → IsWhole m m → RunsOn m → IsModuleOf m p plan (block_form least splits) nets → AreReadNets m p plan reads → m.arrays ≡ shapes_of (block_form least splits).shapes plan plan.system.stencils.images → HasProperty m (block_form least splits).property → AreComputed m p plan (block_form least splits) nets reads → IsApart m p plan (block_form least splits) nets → HasClockPaths m p plan (block_form least splits) → HasRegisters m p plan (block_form least splits).long → Drives m p plan → AreChainsDivided least plan splits →
      IsCircuitOf p plan enable (Some least) m nets reads
  block_circuit least splits nets reads ports whole runs is reads_are arrays once computed apart paths registers drives divided = record {
    ports = ports;
    whole = whole;
    runs = runs;
    drives = drives;
    copies = is.copies;
    copied = is.copied;
    none = λ e. absurd (let f : ⊥ = cc in f);
    splits = splits;
    divided = λ n e. subst (λ (k : ℕ). AreChainsDivided k plan splits) (same_Some least n e) divided;
    behaves = is.behaves;
    bits = is.bits;
    arrays = arrays;
    once = once;
    nets_are = is.nets_are;
    reads_are = reads_are;
    direct = is.direct;
    computed = computed;
    apart = apart;
    paths = paths;
    registers = registers;
  }
