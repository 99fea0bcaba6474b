use Rattle.std.proofs.Common.{◌≡◌, ℕ, List, ◌≤◌, ◌∙◌, get_or, ap, sym, subst}
use Rattle.std.proofs.lemmas.Option.{slice_get-get_or, get_or_from_slice_get}
use Rattle.dk_base.specs.declared.TheConstants.{MAX_INLINED_DEPTH}
use Rattle.pointwise_ir.specs.declared.program.Definition.{Definition}
use Rattle.pointwise_ir.specs.Trees.{tree_of, depth_of}
use Rattle.body_levels.specs.Reasons.{is_long_name}
use Rattle.body_levels.proofs.Noted.{reason_is}
use Rattle.body_levels.proofs.reasons.reason_at.Goals as goal

pub is_one_operator-is_operator-requires : goal.is_one_operator-is_operator-requires
is_one_operator-is_operator-requires c =
    let p = c.args.program.now in
    record {
      shallow =
          subst (λ (d : Definition). depth_of (tree_of d.body) ≤ MAX_INLINED_DEPTH) (sym (c.index-images-k.is ∙ ap (λ ds. get_or ds c.args.k c.index-images-k.result) c.images.ensures))
          (c.law.ensures.images c.args.k (get_or p.images c.args.k c.index-images-k.result) (slice_get-get_or p.images c.args.k c.index-images-k.result c.requires.there)).depth;
    }

pub has_deep_move-is_moved-requires : goal.has_deep_move-is_moved-requires
has_deep_move-is_moved-requires c =
    let p = c.args.program.now in
    record {
      shallow =
          subst (λ (d : Definition). depth_of (tree_of d.body) ≤ MAX_INLINED_DEPTH) (sym (c.index-images-k.is ∙ ap (λ ds. get_or ds c.args.k c.index-images-k.result) c.images.ensures))
          (c.law.ensures.images c.args.k (get_or p.images c.args.k c.index-images-k.result) (slice_get-get_or p.images c.args.k c.index-images-k.result c.requires.there)).depth;
    }

pub returns : goal.returns
returns c = λ d there.
    let image = c.index-images-k.result in
    let same : image ≡ d = c.index-images-k.is ∙ get_or_from_slice_get c.images.result.now c.args.k d image (rw c.images.ensures there) in
    reason_is c.args.most d image _ _ _ _ _ same c.is_one_operator-is_operator.ensures (c.is_long_name-is_name.ensures ∙ ap (λ (n : List ℕ). is_long_name n) c.as_bytes.ensures) c.has_deep_move-is_moved.ensures c.first_reason.ensures
