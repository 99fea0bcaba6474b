use Rattle.std.proofs.Common.{◌≡◌, ◌++◌, ◌∷◌, [], ◌<◌, List, ℕ, length, drop, flat_map, append-nil, sym, subst, ap, ◌∙◌, arith}
use Rattle.std.specs.List.{AllZip}
use Rattle.std.specs.Prelude.{slice_index_or, Contains, Vec}
use Rattle.std.specs.declared.alloc.Global.{Global}
use Rattle.dk_base.specs.declared.stencils.Image.{Image}
use Rattle.buffer_plan.specs.Plans.{Plan, ages_of}
use Rattle.buffer_plan.proofs.Aged.{are_ages}
use Rattle.circuit.specs.Splits.{lists_of}
use Rattle.circuit.specs.Divided.{all_segments, segments, AreDivided, AreLong, AreSplits}
use Rattle.circuit.proofs.Adding.{image_at}
use Rattle.circuit.proofs.Building.{entry_kept}
use Rattle.circuit.proofs.Dividing.{drop_here, none_left, in_all, lists_more}
use Rattle.circuit.proofs.Divisions.{divided_taken}
use Rattle.circuit.proofs.splits.finer_ages.Goals as goal

abbrev none : Image
none = record { number = 0; width = 0 }

pub ages-requires : goal.ages-requires
ages-requires c =
    entry_kept c.args.plan.now.system.stencils.images c.loop-image.image-index (slice_index_or c.images-images.result.now c.loop-image.image-index none)
    (image_at c.args.plan.now.system.stencils.images c.images-images.result.now c.loop-image.image-index none c.images-images.ensures (subst (λ (xs : List Image). c.loop-image.image-index < length xs) c.images-images.ensures c.loop-image-test.true))

-- what is so of an image and its divided ages
abbrev Has : (least : ℕ) → Plan → Image → List ℕ → Type 0
Has least plan i split = AreDivided least (all_segments plan) 0 (ages_of plan i.number) split

-- the segments of one image are among those of all
inside : (plan : Plan) (images : List Image) (k : ℕ) (ages : List ℕ) → images ≡ plan.system.stencils.images → k < length images → ages ≡ ages_of plan (slice_index_or images k none).number
    → (words : ℕ) → Contains (segments 0 ages) words → Contains (all_segments plan) words
inside plan images k ages same there here words has =
    let all : (xs : List Image) → k < length xs → Contains (segments 0 (ages_of plan (slice_index_or xs k none).number)) words → Contains (flat_map (λ (i : Image). segments 0 (ages_of plan i.number)) xs) words = λ xs low h. in_all (λ (i : Image). segments 0 (ages_of plan i.number)) xs k none words low h in
    subst (λ (xs : List Image). Contains (flat_map (λ (i : Image). segments 0 (ages_of plan i.number)) xs) words) same (all images there (subst (λ (l : List ℕ). Contains (segments 0 l) words) here has))

pub divided-requires-clause-long : goal.divided-requires-clause-long
divided-requires-clause-long c = (
  all_segments c.args.plan.now,
  subst (AreLong c.args.least (all_segments c.args.plan.now)) (sym c.deref.ensures.value) c.in_ok-lengths.ensures,
  inside c.args.plan.now c.images-images.result.now c.loop-image.image-index c.ages.result.now c.images-images.ensures c.loop-image-test.true c.ages.ensures.ages,
)

pub loop-image-preserved : goal.loop-image-preserved
loop-image-preserved c = λ rest each.
    let plan = c.args.plan.now in
    let images : List Image = c.images-images.result.now in
    let k = c.loop-image.image-index in
    let own = c.in_ok-split.ensures (all_segments plan) (subst (AreLong c.args.least (all_segments plan)) (sym c.deref.ensures.value) c.in_ok-lengths.ensures) (inside plan images k c.ages.result.now c.images-images.ensures c.loop-image-test.true c.ages.ensures.ages) in
    let one : Has c.args.least plan (slice_index_or images k none) c.in_ok-split.split.items = subst (λ (l : List ℕ). AreDivided c.args.least (all_segments plan) 0 l c.in_ok-split.split.items) c.ages.ensures.ages own in
    let here : AllZip (Has c.args.least plan) (drop k images) (c.in_ok-split.split.items ∷ rest) = subst (λ (l : List Image). AllZip (Has c.args.least plan) l (c.in_ok-split.split.items ∷ rest)) (sym (drop_here images k none c.loop-image-test.true)) (one, each) in
    subst (AreSplits c.args.least plan) (sym (ap (λ (l : List (Vec ℕ Global)). lists_of l ++ rest) c.in_ok-push.ensures.items ∙ lists_more c.loop-image.splits.items c.in_ok-split.split rest)) (c.loop-image.invariant (c.in_ok-split.split.items ∷ rest) here)

pub returns-clause-splits : goal.returns-clause-splits
returns-clause-splits c =
    let images : List Image = c.images-images.result.now in
    subst (AreSplits c.args.least c.args.plan.now) (append-nil (lists_of c.loop-image.splits.items))
    (c.loop-image.invariant [] (subst (λ (l : List Image). AllZip (Has c.args.least c.args.plan.now) l []) (sym (none_left images c.loop-image.image-index (omega arith))) tt))

pub returns-clause-taken : goal.returns-clause-taken
returns-clause-taken c = λ some g keeps. divided_taken c.args.least c.args.plan.now (lists_of c.loop-image.splits.items) some (returns-clause-splits c) g keeps (are_ages c.args.plan.now g).ascending
