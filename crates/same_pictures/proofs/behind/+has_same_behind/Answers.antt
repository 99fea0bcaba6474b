use Rattle.std.proofs.Common.{rules, ap, sym, subst, w32, FitsSigned}
use Rattle.pointwise_ir.specs.Trees.{Tree, tree_of, read}
use Rattle.same_pictures.specs.Matching.{HaveSameBehind}
use Rattle.same_pictures.proofs.Moved.{parts_of}
use Rattle.same_pictures.proofs.Seen.{behind_standing}
use Rattle.same_pictures.proofs.behind.+has_same_behind.Goals as goal

pub returns-in-Read : goal.returns-in-Read
returns-in-Read t c = λ yes.
    let old = c.args.on.now.old.program.now in
    let new = c.args.on.now.new.program.now in
    let step = c.args.step in
    let by = c.in-Read in
    let e = tree_of c.unfolded-e.result.now in
    let fx : FitsSigned w32 by.dx = search rules in
    let fy : FitsSigned w32 by.dy = search rules in
    let whole = parts_of (λ edge x y. HaveSameBehind old new step.edge step.dx step.dy (read edge by.image x y) e) c.new.result by.edge by.dx by.dy fx fy c.new.ensures.edge c.new.ensures.across c.new.ensures.down (c.reads_same_behind.ensures yes) in
    behind_standing old new c.requires.inputs c.law.ensures step.edge step.dx step.dy (tree_of c.args.a.now) (tree_of c.args.b.now) e c.unfolded-e.ensures
    (subst (λ (a : Tree). HaveSameBehind old new step.edge step.dx step.dy a e) (sym (ap tree_of by.is)) whole)
