-- What an accepted text's form and live reads have.
use Rattle.std.proofs.Common.{◌≡◌, ◌∙◌, ℕ, ◌<◌, List, length, map, slice_index_or, sym, subst, arith}
use Rattle.std.specs.Prelude.{All}
use Rattle.std.proofs.lemmas.List.{length-map, length-append}
use Rattle.std.proofs.lemmas.Option.{slice_get_within}
use Rattle.dk_base.specs.declared.stencils.Image.{Image}
use Rattle.dk_base.specs.Stencils.{Stencils}
use Rattle.dk_lexer.specs.declared.token.Token.{Token}
use Rattle.dk_lexer.specs.Lexis.{HasTokens}
use Rattle.dk_parser.specs.Programs.{Source}
use Rattle.dk_parser.specs.Judged.{Accepted}
use Rattle.dk_types.specs.Typed.{Typing}
use Rattle.dk_types.specs.Types.{IsTyping}
use Rattle.dk_inline.specs.Answers.{image_names}
use Rattle.pointwise_ir.specs.declared.program.Input.{Input}
use Rattle.pointwise_ir.specs.declared.program.Definition.{Definition}
use Rattle.pointwise_ir.specs.Programs.{Program, names_of, types_of}
use Rattle.dk_compile.specs.Fronts.{IsFront}
use Rattle.dk_compile.proofs.Stenciled.{inputs_count}
use Rattle.report_text.specs.Reports.{AreNames}

-- the law of the names
abbrev pub Names : Type 0
Names = (text : List ℕ) (tokens : List Token) (tree : Source) (p : Typing) → HasTokens text tokens → Accepted tokens tree → IsTyping tree p → AreNames (length p.inputs) (image_names p)

-- as many names as types
names_count : (ir : Program) → length (types_of ir) ≡ length (names_of ir)
names_count ir = omega (
  arith,
  length-append (map (λ (i : Input). i.ty) ir.inputs) (map (λ (d : Definition). d.ty) ir.images),
  length-append (map (λ (i : Input). i.name) ir.inputs) (map (λ (d : Definition). d.name) ir.images),
  length-map ir.inputs (λ (i : Input). i.ty),
  length-map ir.inputs (λ (i : Input). i.name),
  length-map ir.images (λ (d : Definition). d.ty),
  length-map ir.images (λ (d : Definition). d.name),
)

-- the kept images are images of the program
pub front_images : (text : List ℕ) (p : Typing) (ir : Program) (s : Stencils) → IsFront text p ir s → All (λ (i : Image). i.number < length (names_of ir)) s.images
front_images text p ir s is = λ k d lt.
    let kept = is.stencils.images.sound k d lt in
    omega (arith, slice_get_within (types_of ir) (slice_index_or s.images k d).number kept.ty kept.typed, names_count ir)

pub front_names : Names → (text : List ℕ) (p : Typing) (ir : Program) (s : Stencils) → IsFront text p ir s → AreNames s.inputs (names_of ir)
front_names law text p ir s is =
    let parsed = is.program.parsed in
    subst (λ n. AreNames n (names_of ir)) (sym (is.stencils.inputs ∙ inputs_count p ir is.form))
    (subst (AreNames (length p.inputs)) (sym is.form.names) (law text parsed.tokens is.program.tree p parsed.cut.are parsed.parsed is.program.typed))
