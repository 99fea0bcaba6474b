use Rattle.pointwise_ir.specs.Trees.{tree_of}
use Rattle.same_pictures.proofs.Values.{same_picture}
use Rattle.same_pictures.proofs.pairing.is_counterpart.Goals as goal

pub returns-in-Some-body_of : goal.returns-in-Some-body_of
returns-in-Some-body_of c holds =
    let old = c.args.on.now.old.program.now in
    let new = c.args.on.now.new.program.now in
    let a = tree_of c.in-Some.a.now in
    let b = tree_of c.in-Some-body_of.b.now in
    same_picture old new c.requires.comparable.inputs c.args.g c.args.h a b
    (λ round is x y. c.meaning_law.ensures.images round is.one_each c.args.g a c.in-Some.ensures x y)
    (λ round is x y. c.meaning_law-in-Some-body_of.ensures.images round is.one_each c.args.h b c.in-Some-body_of.ensures x y)
    (c.has_same_value.ensures holds)
