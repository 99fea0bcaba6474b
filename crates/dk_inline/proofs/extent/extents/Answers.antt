use Rattle.std.proofs.Common.{◌≡◌, ◌+◌, List, length, slice_get, Option, Some, None, refl, sym, ap, ◌∙◌, subst, arith, length-append, [], ◌∷◌, ◌++◌, if◌then◌else◌}
use Rattle.std.proofs.lemmas.Option.{slice_get_read}
use Rattle.dk_types.specs.Typed.{definition_of, typing_of}
use Rattle.dk_inline.specs.declared.extent.InlinedSize.{InlinedSize}
use Rattle.dk_inline.specs.Extents.{AreExtents}
use Rattle.dk_inline.proofs.Bodies.{entry_as}
use Rattle.dk_inline.proofs.Counted.{images_before, known_first, known_more, each_more, each_none, HaveEach}
use Rattle.dk_inline.proofs.extent.extents.Goals as goal

pub loop-k-init : goal.loop-k-init
loop-k-init c =
    let a = c.in_ok-known.ensures.long in
    let b : length c.inputs.result.now ≡ length c.args.program.now.inputs = ap length c.inputs.ensures in
    record {
      images = known_first (typing_of c.args.program.now) c.in_ok-known.known.items c.in_ok-known.ensures.none;
      known = omega (arith, a, b);
      count = ap length c.new-all.ensures.items;
      each = each_none (typing_of c.args.program.now) c.new-all.result.items c.new-all.ensures.items;
    }

pub loop-k-preserved : goal.loop-k-preserved
loop-k-preserved c =
    let p = typing_of c.args.program.now in
    let k = c.loop-k.k in
    let t = c.index-definitions-k.result in
    let x = c.body_extent-body.result in
    let ds = c.definitions-definitions.result.now in
    let listed : slice_get c.args.program.now.definitions k ≡ Some t = ap (λ zs. slice_get zs k) (sym c.definitions-definitions.ensures) ∙ slice_get_read ds (length ds) k t refl c.loop-k-test.true c.index-definitions-k.is in
    let at = entry_as c.args.program.now.definitions k t listed in
    let P : List (Option InlinedSize) → Type 0 = λ zs. AreExtents zs (images_before p k) in
    let known = subst P (sym c.deref.ensures.value) c.loop-k.invariant.images in
    let next = known_more p c.law.ensures k c.loop-k.known.items x (definition_of t) at c.loop-k.invariant.known c.loop-k.invariant.images (c.body_extent-body.ensures (images_before p k) known) in
    let pushed : c.push.new.self.items ≡ c.loop-k.known.items ++ (if t.inline then Some x else None) ∷ [] = c.in_ok-push.ensures.items ∙ ap (λ o. c.loop-k.known.items ++ o ∷ []) c.read_extent.ensures in
    let added = c.in_ok-push-2.ensures.items in
    let a = length-append c.loop-k.known.items ((if t.inline then Some x else None) ∷ []) in
    let b = length-append c.loop-k.all.items (x ∷ []) in
    let m = c.loop-k.invariant.known in
    let n = c.loop-k.invariant.count in
    record {
      images = let Q : List (Option InlinedSize) → Type 0 = λ zs. AreExtents zs (images_before p (k + 1)) in subst Q (sym pushed) next.0;
      known = let s = ap length pushed in omega (arith, s, a, m);
      count = let s = ap length added in omega (arith, s, b, n);
      each =
          let R : List InlinedSize → Type 0 = λ zs. HaveEach p zs in
          subst R (sym added) (each_more p k c.loop-k.all.items x (definition_of t) at n next.1 c.loop-k.invariant.each);
    }
