use Rattle.std.proofs.lemmas.Result.{err_from_is_err_and}
use Rattle.dk_types.specs.Typed.{typed_of}
use Rattle.dk_types.proofs.Rules as R
use Rattle.dk_types.proofs.expression.select.Goals as goal

pub returns-in_err-ty : goal.returns-in_err-ty
returns-in_err-ty c = λ scope d a b h g i.
    let p = err_from_is_err_and c.from_residual.result c.from_residual.ensures.1 in
    let x = c.args.condition.typed in
    let y = c.args.left in
    let z = c.args.right in
    rw (p.1, p.2) (c.in_err-ty.ensures.faulty scope d a b (typed_of x) (typed_of y) (typed_of z) h.typed.has g.has i.has (R.type_at x.ty x.node) (R.type_at y.ty y.node) (R.type_at z.ty z.node) h.stands)

pub returns : goal.returns
returns c = λ scope d a b h g i. record {
  has = R.select_is scope c.args.span d a b c.args.condition.typed c.args.left c.args.right c.in_ok-condition.condition.value c.in_ok-left.left.value c.in_ok-right.right.value c.in_ok-ty.ty c.in_ok-condition.ensures.ok c.in_ok-left.ensures.ok c.in_ok-right.ensures.ok c.in_ok-ty.ensures.typed h.typed.has g.has i.has;
  is_type = c.in_ok-ty.ensures.is_type;
}
