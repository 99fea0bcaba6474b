use Rattle.std.proofs.Common.{sym, ◌∙◌}
use Rattle.dk_types.specs.Typed.{definition_of, typing_of}
use Rattle.dk_inline.proofs.Bodies.{well_number, only_number, stays_body}
use Rattle.dk_inline.proofs.substitution.image_body.Goals as goal

pub whole_body-requires : goal.whole_body-requires
whole_body-requires c = well_number c.args.program.now c.law.ensures c.definitions.result.now c.args.number c.index-definitions-number.result c.definitions.ensures c.requires c.index-definitions-number.is

pub returns : goal.returns
returns c d is =
    let same = only_number c.args.program.now c.definitions.result.now c.args.number c.index-definitions-number.result c.definitions.ensures c.requires c.index-definitions-number.is d is in
    stays_body (typing_of c.args.program.now) c.args.number (definition_of c.index-definitions-number.result) d _ same (sym (c.stays.ensures d is) ∙ c.if-not-stays.false) c.in_ok-body.ensures
