use Rattle.std.proofs.lemmas.Result.{err_from_is_err_and}
use Rattle.dk_types.specs.Typed.{typed_of}
use Rattle.dk_types.proofs.Rules as R
use Rattle.dk_types.proofs.expression.unary.Goals as goal

pub returns-in_err-ty : goal.returns-in_err-ty
returns-in_err-ty c = λ scope a h.
    let p = err_from_is_err_and c.from_residual.result c.from_residual.ensures.1 in
    let x = c.args.operand.typed in
    rw (p.1, p.2) (c.in_err-ty.ensures.faulty scope a (typed_of x) h.typed.has (R.type_at x.ty x.node) h.stands)

pub returns : goal.returns
returns c = λ scope a h. record {
  has = R.unary_is scope c.args.span c.args.operator a c.args.operand.typed c.in_ok-new.field-0.value c.in_ok-ty.ty c.in_ok-new.ensures.ok c.in_ok-ty.ensures.typed h.typed.has;
  is_type = c.in_ok-ty.ensures.is_type;
}
