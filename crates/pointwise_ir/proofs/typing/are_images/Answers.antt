use Rattle.std.proofs.Common.{List, refl, sym, subst, ◌∙◌, arith, ◌<◌}
use Rattle.std.specs.List.{All}
use Rattle.std.proofs.lemmas.Option.{slice_get_read, slice_get_within}
use Rattle.dk_base.specs.Types.{IsType}
use Rattle.pointwise_ir.specs.declared.program.Definition.{Definition}
use Rattle.pointwise_ir.specs.Programs.{IsDefined, all_types}
use Rattle.pointwise_ir.proofs.Defined.{types_below, defined_more}
use Rattle.pointwise_ir.proofs.typing.are_images.Goals as goal

pub is_defined-requires : goal.is_defined-requires
is_defined-requires c =
    let P : List Definition → Type 0 = λ ds. All IsType (all_types c.args.inputs.now ds) in
    subst P (sym c.earlier.ensures) (types_below c.args.inputs.now c.args.images.now c.loop-k.k c.requires c.loop-k.invariant)

pub returns-then-not-is_defined-clause-no : goal.returns-then-not-is_defined-clause-no
returns-then-not-is_defined-clause-no c = λ defined.
    let there = slice_get_read c.args.images.now _ c.loop-k.k c.index-images-k.result refl c.loop-k-test.true c.index-images-k.is in
    let P : List Definition → Type 0 = λ ds. IsDefined (all_types c.args.inputs.now ds) c.index-images-k.result in
    let is = subst P (sym c.earlier.ensures) (defined c.loop-k.k c.index-images-k.result there) in
    sym c.if-not-is_defined.true ∙ c.is_defined.ensures.no is

pub loop-k-preserved : goal.loop-k-preserved
loop-k-preserved c =
    let there = slice_get_read c.args.images.now _ c.loop-k.k c.index-images-k.result refl c.loop-k-test.true c.index-images-k.is in
    defined_more c.args.inputs.now c.args.images.now c.earlier.result.now c.loop-k.k c.index-images-k.result c.earlier.ensures there (c.is_defined.ensures.yes c.if-not-is_defined.false) c.loop-k.invariant

pub returns-clause-yes : goal.returns-clause-yes
returns-clause-yes c = λ _ k image is.
    let within = slice_get_within c.args.images.now k image is in
    c.loop-k.invariant k image (let below : k < c.loop-k.k = omega (arith, within, c.loop-k-test.false) in below) is
