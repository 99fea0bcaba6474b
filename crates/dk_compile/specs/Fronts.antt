-- The forms of programs that are given on: images without inline ones, and their stencils.
use Rattle.std.specs.Prelude.{◌≡◌, ◌↔◌, ℕ, ◌≤◌, ℤ, List, length, map}
use Rattle.dk_base.specs.declared.TheConstants.{MAX_LIVE_READS}
use Rattle.dk_base.specs.Frames.{Picture, picture_at}
use Rattle.dk_base.specs.Stencils.{Stencils}
use Rattle.dk_types.specs.Typed.{Typing, types_of}
use Rattle.dk_types.specs.Meaning.{meaning}
use Rattle.dk_types.specs.Reads.{IsLive, IsKept}
use Rattle.pointwise_ir.specs.Programs.{Program, names_of}
use Rattle.pointwise_ir.specs.Programs as P
use Rattle.pointwise_ir.specs.Meaning.{pictures, IsRound}
use Rattle.pointwise_ir.specs.Reads as R
use Rattle.dk_inline.specs.Inlined.{Stays}
use Rattle.dk_inline.specs.Answers.{IsWithin, IsInlining, image_names}
use Rattle.dk_inline.specs.Folded.{IsFolded, IsFolding}
use Rattle.pointwise_ir.specs.Stencils.{AreStencilsOf}
use Rattle.dk_compile.specs.Sources.{IsText}

-- Images without inline ones that mean what the program means: the same sizes, names and types; of each image that stays, as each kept one does, the same picture on any round; the same kept images, and the same live reads of each.
pub record IsForm (p : Typing) (ir : Program) : Type 0 where
  pub size : ir.size ≡ p.size
  pub inputs : map (λ i. i.ty) ir.inputs ≡ map (λ i. i.ty) p.inputs
  pub names : names_of ir ≡ image_names p
  pub types : P.types_of ir ≡ types_of p
  pub outputs : ir.outputs ≡ p.outputs
  pub meaning : (round : List Picture) → IsRound ir round → (g : ℕ) → Stays p g → (x y : ℤ) → picture_at (pictures ir round) g x y ≡ picture_at (meaning p round) g x y
  pub stay : (g : ℕ) → IsKept p g → Stays p g
  pub kept : (g : ℕ) → R.Kept ir g ↔ IsKept p g
  pub live : (f g : ℕ) (dx dy : ℤ) → IsKept p f → R.IsLive ir f g dx dy ↔ IsLive p f g dx dy

-- Its bodies are the program's own: with the inline images substituted that each reads, and then with the constant of its value in place of each part that has no read and no shift.
pub record HasOwnBodies (p : Typing) (ir : Program) : Type 0 where
  pub inlined : Program
  pub inlining : IsInlining p inlined
  pub folding : IsFolding inlined ir

-- the text is that of a program within all limits, with this form of its own bodies and these stencils
pub record IsFront (text : List ℕ) (p : Typing) (ir : Program) (s : Stencils) : Type 0 where
  pub program : IsText text p
  pub within : IsWithin p
  pub form : IsForm p ir
  pub folded : IsFolded ir
  pub bodies : HasOwnBodies p ir
  pub stencils : AreStencilsOf ir s
  pub few : length s.reads ≤ MAX_LIVE_READS
