use Rattle.std.proofs.Common.{rules, ℤ, w32, to_z, of_z, FitsSigned}
use Rattle.pointwise_ir.specs.Trees.{tree_of}
use Rattle.same_pictures.specs.Matching.{IsFramed}
use Rattle.same_pictures.proofs.Moved.{shows_framed, from_word}
use Rattle.same_pictures.proofs.matching.framed_part.Goals as goal

abbrev word : ℤ → ℤ
word z = to_z w32 (of_z w32 z)

pub returns-in_ok-body-in-Zero : goal.returns-in_ok-body-in-Zero
returns-in_ok-body-in-Zero c =
    let new = c.args.new.now in
    let by = c.args.by in
    let to = c.in_ok-to.to in
    let e = tree_of c.unfolded.result.now in
    let arm = tree_of c.in_ok-body-in-Zero.body.now in
    let sx : FitsSigned w32 to.dx = search rules in
    let sy : FitsSigned w32 to.dy = search rules in
    let framing = from_word (λ r. IsFramed new r to.dy e arm) to.dx sx (from_word (λ s. IsFramed new (word to.dx) s e arm) to.dy sy c.in_ok-body-in-Zero.ensures) in
    shows_framed new c.args.at by.edge by.dx by.dy to e arm (tree_of c.args.b.now) c.in-Zero.is c.in_ok-to.ensures c.unfolded.ensures framing
