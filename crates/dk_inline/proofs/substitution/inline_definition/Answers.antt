use Rattle.std.proofs.Common.{◌<◌, length, subst, List}
use Rattle.dk_types.specs.declared.typed.TypedInput.{TypedInput}
use Rattle.dk_types.specs.Typed.{typing_of}
use Rattle.dk_inline.proofs.Substituted.{input}
use Rattle.dk_inline.proofs.Bodies.{inline_found, other_found}
use Rattle.dk_inline.proofs.substitution.inline_definition.Goals as goal

pub returns-then-image-inputs : goal.returns-then-image-inputs
returns-then-image-inputs c =
    let P : List TypedInput → Type 0 = λ is. c.args.image < length is in
    input (typing_of c.args.program.now) c.args.image (subst P c.inputs-inputs.ensures c.if-image-inputs.true)

pub returns-then-definition : goal.returns-then-definition
returns-then-definition c =
    inline_found c.args.program.now c.law.ensures c.inputs-inputs.result.now c.definitions.result.now c.args.image c.index-definitions-image.result
    c.inputs-inputs.ensures c.definitions.ensures c.requires c.if-image-inputs.false c.index-definitions-image.is c.if-definition.true

pub returns-else-definition : goal.returns-else-definition
returns-else-definition c =
    other_found c.args.program.now c.law.ensures c.inputs-inputs.result.now c.definitions.result.now c.args.image c.index-definitions-image.result
    c.inputs-inputs.ensures c.definitions.ensures c.requires c.if-image-inputs.false c.index-definitions-image.is c.if-definition.false
