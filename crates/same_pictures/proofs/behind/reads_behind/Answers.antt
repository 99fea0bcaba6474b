use Rattle.std.proofs.Common.{rules, ℤ, sym, subst, w32, to_z, of_z, FitsSigned}
use Rattle.std.specs.Prelude.{IsTrue}
use Rattle.pointwise_ir.specs.Trees.{Tree, tree_of}
use Rattle.same_pictures.specs.Matching.{HaveSameValue, VanishesOutside}
use Rattle.same_pictures.proofs.Moved.{from_word}
use Rattle.same_pictures.proofs.Seen.{behind_read, value_standing}
use Rattle.same_pictures.proofs.behind.reads_behind.Goals as goal

abbrev word : ℤ → ℤ
word z = to_z w32 (of_z w32 z)

pub returns-in-Clamp : goal.returns-in-Clamp
returns-in-Clamp c = λ yes.
    let old = c.args.on.now.old.program.now in
    let new = c.args.on.now.new.program.now in
    let a = tree_of c.args.a.now in
    let r = c.in-Some.read in
    let body = tree_of c.in-Some-body_of.body.now in
    let holds : IsTrue c.has_same_behind.result = search rules in
    let clamped = c.in-Clamp.is in
    value_standing old new c.requires.inputs a (tree_of c.args.b.now) (tree_of c.unfolded-e.result.now) c.unfolded-e.ensures
    (subst (λ (e : Tree). HaveSameValue old new a e) (sym c.in-Some.ensures)
    (behind_read old new c.requires.inputs c.law.ensures r.image r.step.edge r.step.dx r.step.dy a body
    (λ round is x y. c.meaning_law.ensures.images round is.one_each r.image body c.in-Some-body_of.ensures x y) (c.has_same_behind.ensures holds)
    (λ zero. absurd (let no : ⊥ = cc in no))))

pub returns-in-Zero : goal.returns-in-Zero
returns-in-Zero c = λ yes.
    let old = c.args.on.now.old.program.now in
    let new = c.args.on.now.new.program.now in
    let a = tree_of c.args.a.now in
    let r = c.in-Some.read in
    let body = tree_of c.in-Some-body_of.body.now in
    let holds : IsTrue c.has_same_behind.result = search rules in
    let fx : FitsSigned w32 r.step.dx = search rules in
    let fy : FitsSigned w32 r.step.dy = search rules in
    let none = from_word (λ u. VanishesOutside u r.step.dy a) r.step.dx fx (from_word (λ v. VanishesOutside (word r.step.dx) v a) r.step.dy fy (c.vanishes.ensures yes)) in
    value_standing old new c.requires.inputs a (tree_of c.args.b.now) (tree_of c.unfolded-e.result.now) c.unfolded-e.ensures
    (subst (λ (e : Tree). HaveSameValue old new a e) (sym c.in-Some.ensures)
    (behind_read old new c.requires.inputs c.law.ensures r.image r.step.edge r.step.dx r.step.dy a body
    (λ round is x y. c.meaning_law.ensures.images round is.one_each r.image body c.in-Some-body_of.ensures x y) (c.has_same_behind.ensures holds)
    (λ zero. none)))
