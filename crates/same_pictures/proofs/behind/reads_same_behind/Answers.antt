use Rattle.std.proofs.Common.{rules, ◌≡◌, ℤ, Some, slice_get, sym, subst}
use Rattle.pointwise_ir.specs.declared.expr.Edge.{Edge}
use Rattle.pointwise_ir.specs.Trees.{Tree, read}
use Rattle.same_pictures.specs.Matching.{HaveSameBehind, IsPushed}
use Rattle.same_pictures.proofs.Seen.{read_behind}
use Rattle.same_pictures.proofs.behind.reads_same_behind.Goals as goal

pub returns-in-Some-pushed : goal.returns-in-Some-pushed
returns-in-Some-pushed c = λ yes.
    let old = c.args.on.now.old.program.now in
    let new = c.args.on.now.new.program.now in
    let step = c.args.step in
    let by = c.args.by in
    let other = c.in-Some.other in
    let from = other.step in
    let to = c.in-Some-pushed.to in
    let there : slice_get c.args.on.now.pairs.now c.args.image ≡ Some (Some other.image) = search rules in
    let pushed = subst (λ (k : Edge). IsPushed step.edge step.dx step.dy from.edge from.dx from.dy k by.dx by.dy) (c.is_same_step.ensures.edge yes)
    (subst (λ (r : ℤ). IsPushed step.edge step.dx step.dy from.edge from.dx from.dy to.edge r by.dy) (c.is_same_step.ensures.across yes)
    (subst (λ (s : ℤ). IsPushed step.edge step.dx step.dy from.edge from.dx from.dy to.edge to.dx s) (c.is_same_step.ensures.down yes) c.in-Some-pushed.ensures)) in
    subst (λ (e : Tree). HaveSameBehind old new step.edge step.dx step.dy (read by.edge c.args.image by.dx by.dy) e) (sym c.in-Some.ensures)
    (read_behind old new c.requires.inputs c.law.ensures step by from c.args.image other.image (c.requires.paired c.args.image other.image there) pushed)
