-- What inlining answers: a program that means the same, or the first limit that is passed.
use Rattle.std.specs.Prelude.{◌≡◌, ◌↔◌, ℕ, ◌<◌, ◌≤◌, min, ℤ, List, length, ◌++◌, map}
use Rattle.dk_base.specs.declared.TheConstants.{MAX_NODES}
use Rattle.dk_base.specs.Frames.{Picture}
use Rattle.dk_types.specs.Typed.{Definition, Typing, types_of}
use Rattle.dk_types.specs.Meaning.{meaning}
use Rattle.dk_types.specs.Reads.{IsLive, IsKept}
use Rattle.pointwise_ir.specs.Programs.{Program, names_of, bodies_of}
use Rattle.pointwise_ir.specs.Programs as P
use Rattle.dk_base.specs.Frames.{picture_at}
use Rattle.pointwise_ir.specs.Meaning.{pictures, IsRound}
use Rattle.pointwise_ir.specs.Reads as R
use Rattle.dk_inline.specs.declared.inlining.InlineFault.{InlineFault}
use Rattle.dk_inline.specs.declared.inlining.InlineFault.TheVariants.{Nodes, InlineDepth, OutOfMemory}
use Rattle.dk_inline.specs.Inlined.{bodies, Stays}
use Rattle.dk_inline.specs.Nodes.{node_count, IsDeep, IsFirstDeep}

-- of all images, the inputs first
abbrev pub image_names : Typing → List (List ℕ)
image_names p = map (λ i. i.name.text) p.inputs ++ map (λ (d : Definition). d.name.text) p.definitions

-- The program has an input and an output.
pub record HasPorts (p : Typing) : Type 0 where
  -- an input
  pub some_inputs : 1 ≤ length p.inputs
  -- an output
  pub some_outputs : 1 ≤ length p.outputs

-- the program is within both limits
pub record IsWithin (p : Typing) : Type 0 where
  pub nodes : node_count p ≤ MAX_NODES
  pub depth : (k : ℕ) (d : Definition) → IsDeep p k d → ⊥

-- the same images with inlined bodies
pub record IsInlining (p : Typing) (ir : Program) : Type 0 where
  pub size : ir.size ≡ p.size
  pub inputs : map (λ i. i.ty) ir.inputs ≡ map (λ i. i.ty) p.inputs
  pub names : names_of ir ≡ image_names p
  pub types : P.types_of ir ≡ types_of p
  pub outputs : ir.outputs ≡ p.outputs
  pub bodies : bodies_of ir ≡ bodies p

-- Each image that stays has the program's picture, on any round; the kept images are the program's, and so are their live reads.
pub record KeepsProgram (p : Typing) (ir : Program) : Type 0 where
  pub meaning : (round : List Picture) → IsRound ir round → (g : ℕ) → Stays p g → (x y : ℤ) → picture_at (pictures ir round) g x y ≡ picture_at (meaning p round) g x y
  pub kept : (g : ℕ) → R.Kept ir g ↔ IsKept p g
  pub stay : (g : ℕ) → IsKept p g → Stays p g
  pub live : (f g : ℕ) (dx dy : ℤ) → Stays p f → R.IsLive ir f g dx dy ↔ IsLive p f g dx dy

-- the limit that is passed first; a count of nodes is specified up to 2^64 - 1
abbrev pub IsFault : Typing → InlineFault → Type 0
IsFault p (Nodes count) = (MAX_NODES < node_count p) × (count ≡ min (node_count p) 18446744073709551615)
IsFault p (InlineDepth name) = (node_count p ≤ MAX_NODES) × IsFirstDeep p name
IsFault p OutOfMemory = Unit {0}
