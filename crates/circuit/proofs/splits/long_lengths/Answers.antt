use Rattle.std.proofs.Common.{◌≡◌, ℕ, ◌<◌, List, length, nat_lt, filter, sym, subst, ◌∙◌, arith}
use Rattle.std.specs.Prelude.{slice_index_or, Contains}
use Rattle.std.proofs.lemmas.List.Sorted.{Contains-permutation, IsPermutation-sym, IsNonDecreasingBy-from_sort}
use Rattle.dk_base.specs.declared.stencils.Image.{Image}
use Rattle.buffer_plan.specs.Plans.{ages_of}
use Rattle.circuit.specs.Divided.{all_segments, segments}
use Rattle.circuit.proofs.Adding.{image_at}
use Rattle.circuit.proofs.Building.{entry_kept}
use Rattle.circuit.proofs.Dividing.{filter_in, in_filter, images_none}
use Rattle.circuit.proofs.splits.long_lengths.Goals as goal

abbrev none : Image
none = record { number = 0; width = 0 }

pub ages-requires : goal.ages-requires
ages-requires c =
    entry_kept c.args.plan.now.system.stencils.images c.loop-image.image-index (slice_index_or c.images-images.result.now c.loop-image.image-index none)
    (image_at c.args.plan.now.system.stencils.images c.images-images.result.now c.loop-image.image-index none c.images-images.ensures (subst (λ (xs : List Image). c.loop-image.image-index < length xs) c.images-images.ensures c.loop-image-test.true))

pub returns : goal.returns
returns c =
    let sorted = c.sort_unstable.new.self.items in
    let before = c.loop-image.lengths.items in
    let perm = c.sort_unstable.ensures.permutation in
    let all = all_segments c.args.plan.now in
    let is : before ≡ filter (nat_lt c.args.least) all = sym (images_none (nat_lt c.args.least) (λ (i : Image). segments 0 (ages_of c.args.plan.now i.number)) c.images-images.result.now c.loop-image.image-index before (omega arith)) ∙ c.loop-image.invariant in
    record {
      ascending = IsNonDecreasingBy-from_sort (λ (n : ℕ). n) sorted c.sort_unstable.ensures.sorted;
      among = λ words has. filter_in c.args.least all words (subst (λ (l : List ℕ). Contains l words) is (Contains-permutation sorted before words (IsPermutation-sym before sorted perm) has));
      has = λ words has over. Contains-permutation before sorted words perm (subst (λ (l : List ℕ). Contains l words) (sym is) (in_filter c.args.least all words has over));
    }
