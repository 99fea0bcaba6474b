-- The text of a module with the bits of a plan.
use Rattle.std.proofs.Common.{◌≡◌, ℕ, ◌≤◌, List, arith}
use Rattle.dk_base.specs.declared.TheConstants.{MAX_BUFFER_BITS}
use Rattle.wiring.specs.BufferBits.{array_bits}
use Rattle.netlist.specs.Names.{NamedNetlist}
use Rattle.verilog_text.specs.Stands.{StandsFor}
use Rattle.verilog_layout.specs.Layout.{layout}
use Rattle.net_build.specs.Naming.{names_for}
use Rattle.dk_compile.specs.Compiled.{IsTextOf}

pub text_of : (m : NamedNetlist) (text : List ℕ) (n : ℕ) → m.names ≡ names_for m.netlist → text ≡ layout m → array_bits m.netlist.arrays ≡ n → n ≤ MAX_BUFFER_BITS → (array_bits m.netlist.arrays ≤ MAX_BUFFER_BITS → StandsFor text m)
    → (array_bits m.netlist.arrays ≤ MAX_BUFFER_BITS → (other : NamedNetlist) → StandsFor text other → other ≡ m) → IsTextOf m text
text_of m text n named laid_out is few stands only =
    let small : array_bits m.netlist.arrays ≤ MAX_BUFFER_BITS = omega (arith, is, few) in
    record { named = named; laid_out = laid_out; stands = stands small; only = only small }
