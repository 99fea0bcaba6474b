use Rattle.std.proofs.Common.{sym}
use Rattle.std.proofs.lemmas.Result.{err_from_is_err_and}
use Rattle.dk_parser.specs.Programs.{definition_of as source_of}
use Rattle.dk_parser.proofs.Depths.{span_at}
use Rattle.dk_types.specs.Typed.{typed_of}
use Rattle.dk_types.proofs.Rules as R
use Rattle.dk_types.proofs.Places as I
use Rattle.dk_types.proofs.items.definition.Goals as goal

pub returns-then-before-ge-MAX_DEFINITIONS-clause-judged : goal.returns-then-before-ge-MAX_DEFINITIONS-clause-judged
returns-then-before-ge-MAX_DEFINITIONS-clause-judged c = λ is ds done l e. I.told_too_many c.args.scope.now is ds done (source_of c.args.item.now) c.args.before c.fault.result l e c.fault.ensures c.if-before-ge-MAX_DEFINITIONS.true

pub returns-in-Some-clause-judged : goal.returns-in-Some-clause-judged
returns-in-Some-clause-judged c = λ is ds done l e.
    I.told_again c.args.scope.now is ds done (source_of c.args.item.now) c.args.before c.fault-in-Some.result l e c.fault-in-Some.ensures c.if-before-ge-MAX_DEFINITIONS.false c.as_bytes.result.now _ _ c.as_bytes.ensures c.in-Some.ensures.image

pub returns-in_err-body-clause-judged : goal.returns-in_err-body-clause-judged
returns-in_err-body-clause-judged c = λ is ds done l e.
    let p = err_from_is_err_and c.from_residual.result c.from_residual.ensures.1 in
    rw (p.1, p.2) (I.told_body c.args.scope.now is ds done (source_of c.args.item.now) c.args.before c.in_err-body.field-0.0 l e c.if-before-ge-MAX_DEFINITIONS.false c.as_bytes.result.now c.as_bytes.ensures c.in_default.ensures c.in_err-body.ensures)

pub returns-in_default-image_type-clause-judged : goal.returns-in_default-image_type-clause-judged
returns-in_default-image_type-clause-judged c = λ is ds done l e.
    I.told_not_taken c.args.scope.now is ds done (source_of c.args.item.now) c.args.before c.fault-in_default-image_type.result l e c.args.item.now.body.span c.fault-in_default-image_type.ensures
    (sym (span_at c.args.item.now.body.span c.args.item.now.body.node)) c.if-before-ge-MAX_DEFINITIONS.false c.as_bytes.result.now c.as_bytes.ensures c.in_default.ensures
    (typed_of c.in_ok-body.body) c.in_ok-body.body.ty c.in_ok-body.ensures.has (R.type_at c.in_ok-body.body.ty c.in_ok-body.body.node)
    c.declared_type-declared.result c.declared_type-declared.ensures c.in_default-image_type.ensures.taken
