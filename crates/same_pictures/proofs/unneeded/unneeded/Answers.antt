use Rattle.std.proofs.Common.{rules, ap, sym, subst, ◌∙◌}
use Rattle.dk_base.specs.Types.{IsType, IsIn}
use Rattle.pointwise_ir.specs.declared.expr.Expr.{Expr}
use Rattle.pointwise_ir.specs.Trees.{Tree, tree_of}
use Rattle.pointwise_ir.specs.Meaning.{value, pictures}
use Rattle.same_pictures.proofs.Numbers.{conversion_same}
use Rattle.same_pictures.proofs.unneeded.unneeded.Goals as goal

pub returns-then-is_held : goal.returns-then-is_held
returns-then-is_held c round is x y inside =
    let p = c.args.on.now.program.now in
    let typed : IsType c.in-Convert.ty = search rules in
    let held = subst (λ (e : Expr). IsIn c.in-Convert.ty (value p.size (pictures p round) (tree_of e) x y)) c.deref.ensures (c.is_held.ensures c.if-is_held.true round is x y) in
    ap (λ (e : Tree). value p.size (pictures p round) e x y) (ap tree_of c.in-Convert.is)
    ∙ conversion_same c.in-Convert.field-0 c.in-Convert.ty (value p.size (pictures p round) (tree_of c.in-Convert.operand.value) x y) typed held
    ∙ ap (λ (e : Expr). value p.size (pictures p round) (tree_of e) x y) (sym c.deref-then-is_held.ensures)
