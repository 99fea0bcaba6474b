use Rattle.std.proofs.lemmas.Result.{err_from_is_err_and}
use Rattle.dk_types.specs.Typed.{typed_of}
use Rattle.dk_types.proofs.Rules as R
use Rattle.dk_types.proofs.expression.binary.Goals as goal

pub returns-in_err-ty : goal.returns-in_err-ty
returns-in_err-ty c = λ scope a b h g.
    let p = err_from_is_err_and c.from_residual.result c.from_residual.ensures.1 in
    let x = c.args.left.typed in
    let y = c.args.right.typed in
    rw (p.1, p.2) (c.in_err-ty.ensures.faulty scope a b (typed_of x) (typed_of y) h.typed.has g.typed.has (R.type_at x.ty x.node) (R.type_at y.ty y.node) h.stands g.stands)

pub returns : goal.returns
returns c = λ scope a b h g. record {
  has = R.binary_is scope c.args.span c.args.operator a b c.args.left.typed c.args.right.typed c.in_ok-left.left.value c.in_ok-right.right.value c.in_ok-ty.ty c.in_ok-left.ensures.ok c.in_ok-right.ensures.ok c.in_ok-ty.ensures.typed h.typed.has g.typed.has;
  is_type = c.in_ok-ty.ensures.is_type;
}
