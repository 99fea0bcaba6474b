use Rattle.std.proofs.Common.{rules, refl, ap, sym, subst}
use Rattle.std.proofs.lemmas.Option.{slice_get_read, get_or_from_slice_get}
use Rattle.dk_base.specs.Types.{IsType}
use Rattle.pointwise_ir.specs.declared.program.Definition.{Definition}
use Rattle.value_ranges.proofs.Imaged.{image_type}
use Rattle.value_ranges.proofs.wider.type_at.Goals as goal

pub returns-clause-typed : goal.returns-clause-typed
returns-clause-typed c =
    let there = rw c.images.ensures at (slice_get_read c.images.result.now _ c.args.k c.index-images-k.result refl (search rules) c.index-images-k.is) in
    subst (λ (d : Definition). IsType d.ty) c.index-images-k.is (image_type c.args.program.now c.args.k c.index-images-k.result c.law.ensures there)

pub returns-clause-is : goal.returns-clause-is
returns-clause-is c = λ d there.
    ap (λ (e : Definition). e.ty) (get_or_from_slice_get c.images.result.now c.args.k d c.index-images-k.result (rw c.images.ensures there))
