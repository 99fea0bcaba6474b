-- What holds of the program of a text.
use Rattle.std.proofs.Common.{ℕ, ◌≤◌, List, length}
use Rattle.std.specs.Prelude.{Contains}
use Rattle.dk_types.specs.Typed.{Typing}
use Rattle.dk_types.specs.Reads.{output}
use Rattle.dk_types.proofs.Kept.{typed_is_kept}
use Rattle.dk_inline.specs.Inlined.{Stays}
use Rattle.dk_inline.proofs.Kept.{kept_stay}
use Rattle.dk_compile.specs.Sources.{IsText}
use Rattle.dk_compile.proofs.Ports.{some_ports}

-- its outputs stay images
pub output_stays : (text : List ℕ) (p : Typing) → IsText text p → (g : ℕ) → Contains p.outputs g → Stays p g
output_stays text p is g there = kept_stay p (typed_is_kept is.tree p is.typed) g (output there)

-- it has an input
pub has_input : (text : List ℕ) (p : Typing) → IsText text p → 1 ≤ length p.inputs
has_input text p is = (some_ports text is.tree p is.parsed is.typed).0
