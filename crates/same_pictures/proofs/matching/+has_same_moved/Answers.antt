use Rattle.std.proofs.Common.{rules, ℤ, pos, ap, sym, subst, w32, to_z, of_z, FitsSigned}
use Rattle.pointwise_ir.specs.declared.expr.Edge.TheVariants.{Clamp}
use Rattle.pointwise_ir.specs.declared.expr.Expr.{Expr}
use Rattle.pointwise_ir.specs.Trees.{Tree, tree_of, shifted}
use Rattle.same_pictures.specs.Matching.{HaveSameMoved, IsPushed, ShowsShifted}
use Rattle.same_pictures.proofs.Moved.{moved_standing, moved_shifted, to_word, parts_of}
use Rattle.same_pictures.proofs.matching.+has_same_moved.Goals as goal

abbrev word : ℤ → ℤ
word z = to_z w32 (of_z w32 z)

pub returns-in-Some-shifted_body : goal.returns-in-Some-shifted_body
returns-in-Some-shifted_body t c = λ yes.
    let old = c.args.on.now.old.program.now in
    let new = c.args.on.now.new.program.now in
    let at = c.args.at in
    let by = c.in-Shifted in
    let to = c.in-Some-pushed-2.step in
    let other = tree_of c.in-Some-shifted_body.other.now in
    let fx : FitsSigned w32 by.dx = search rules in
    let fy : FitsSigned w32 by.dy = search rules in
    let sx : FitsSigned w32 to.dx = search rules in
    let sy : FitsSigned w32 to.dy = search rules in
    let step = c.new-in-Shifted in
    let pushed = parts_of (λ e x y. IsPushed at.edge at.dx at.dy e x y to.edge to.dx to.dy) step.result by.edge by.dx by.dy fx fy step.ensures.edge step.ensures.across step.ensures.down c.in-Some-pushed-2.ensures in
    let inner = subst (λ (e : Expr). HaveSameMoved old new Clamp (pos 0) (pos 0) (tree_of e) other) c.deref.ensures (c.has_same_moved.ensures yes) in
    let whole = moved_shifted old new c.requires.inputs c.law.ensures at.edge at.dx at.dy by.edge to.edge by.dx by.dy to.dx to.dy (tree_of by.body.value) other pushed inner in
    moved_standing old new c.requires.inputs at.edge at.dx at.dy (tree_of c.args.a.now) (tree_of c.args.b.now) (tree_of c.aligned-e.result.now) c.aligned-e.ensures
    (subst (λ (e : Tree). HaveSameMoved old new at.edge at.dx at.dy (tree_of c.args.a.now) e) (sym c.in-Some-shifted_body.ensures)
    (subst (λ (e : Tree). HaveSameMoved old new at.edge at.dx at.dy e (shifted to.edge (word to.dx) (word to.dy) other)) (sym (ap tree_of by.is))
    (to_word (λ u. HaveSameMoved old new at.edge at.dx at.dy (shifted by.edge by.dx by.dy (tree_of by.body.value)) (shifted to.edge u (word to.dy) other)) to.dx sx
    (to_word (λ v. HaveSameMoved old new at.edge at.dx at.dy (shifted by.edge by.dx by.dy (tree_of by.body.value)) (shifted to.edge to.dx v other)) to.dy sy whole))))

pub returns-in-Some-part_of : goal.returns-in-Some-part_of
returns-in-Some-part_of t c = λ yes.
    let old = c.args.on.now.old.program.now in
    let new = c.args.on.now.new.program.now in
    let at = c.args.at in
    let by = c.in-Shifted in
    let to = c.in-Some-part_of.part.to in
    let here = tree_of c.args.b.now in
    let part = tree_of c.in-Some-part_of.part.body.now in
    let fx : FitsSigned w32 by.dx = search rules in
    let fy : FitsSigned w32 by.dy = search rules in
    let step = c.new-in-None-shifted_body in
    let shows = parts_of (λ e x y. ShowsShifted new at e x y to part here) step.result by.edge by.dx by.dy fx fy step.ensures.edge step.ensures.across step.ensures.down c.in-Some-part_of.ensures in
    let inner = subst (λ (e : Expr). HaveSameMoved old new to.edge to.dx to.dy (tree_of e) part) c.deref-in-Some-part_of.ensures (c.has_same_moved-in-Some-part_of.ensures yes) in
    subst (λ (e : Tree). HaveSameMoved old new at.edge at.dx at.dy e here) (sym (ap tree_of by.is)) (shows old c.law.ensures c.requires.inputs (tree_of by.body.value) inner)
