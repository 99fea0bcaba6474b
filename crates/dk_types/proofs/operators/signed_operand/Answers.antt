use Rattle.std.proofs.Common.{sym, ◌∙◌}
use Rattle.dk_types.proofs.Rules as R
use Rattle.dk_types.proofs.operators.signed_operand.Goals as goal

pub returns-then-is_signed : goal.returns-then-is_signed
returns-then-is_signed c = λ scope a b e f h g te tf pe qe.
    R.told_left scope c.args.span c.args.first c.args.operator a b e f c.args.left c.fault.result c.fault.ensures
    (sym c.is_bitwise.ensures ∙ c.if-not-is_bitwise.false)
    (sym c.is_signed.ensures ∙ c.if-is_signed.true) h g te pe

pub returns-then-is_signed-2 : goal.returns-then-is_signed-2
returns-then-is_signed-2 c = λ scope a b e f h g te tf pe qe.
    R.told_right scope c.args.span c.args.second c.args.operator a b e f c.args.left c.args.right c.fault-then-is_signed-2.result c.fault-then-is_signed-2.ensures
    (sym c.is_bitwise.ensures ∙ c.if-not-is_bitwise.false)
    (sym c.is_signed.ensures ∙ c.if-is_signed.false) (sym c.is_signed-2.ensures ∙ c.if-is_signed-2.true) h g te tf qe
