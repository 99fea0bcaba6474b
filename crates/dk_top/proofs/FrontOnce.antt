-- An accepted text has one list of names and one of live reads.
use Rattle.std.proofs.Common.{◌≡◌, ◌∙◌, ℕ, List, sym, ap}
use Rattle.dk_base.specs.declared.stencils.Image.{Image}
use Rattle.dk_base.specs.declared.stencils.LiveRead.{LiveRead}
use Rattle.dk_base.specs.Stencils.{Stencils}
use Rattle.dk_types.specs.Typed.{Typing}
use Rattle.pointwise_ir.specs.Programs.{Program}
use Rattle.pointwise_ir.specs.Stencils.{AreReads, AreImages}
use Rattle.dk_inline.specs.Answers.{image_names}
use Rattle.dk_compile.specs.Sources.{IsText}
use Rattle.dk_compile.proofs.Stenciled.{text_stencils}
use Rattle.dk_top.specs.Plans.{HasStencils}

pub front_once : (programs : (text : List ℕ) (p q : Typing) → IsText text p → IsText text q → p ≡ q)
    → (images_once : (p : Program) (a b : List Image) → AreImages p a → AreImages p b → a ≡ b)
    → (reads_once : (p : Program) (a b : List LiveRead) → AreReads p a → AreReads p b → a ≡ b)
    → (text : List ℕ) (a b : List (List ℕ)) (s t : Stencils) → HasStencils text a s → HasStencils text b t → (a ≡ b) × (s ≡ t)
front_once programs images_once reads_once text a b s t h k =
    let same = programs text k.program h.program k.front.program h.front.program in (
      h.names_are ∙ (ap image_names (sym same) ∙ sym k.names_are),
      text_stencils programs images_once reads_once text h.program k.program h.form k.form s t h.front k.front,
    )
