use Rattle.std.proofs.Common.{List, ◌≡◌, ◌∙◌, ℕ, ◌<◌, ◌≤◌, ◌+◌, length, take, get_or, slice_get, ap, sym, subst, arith, rules}
use Rattle.std.specs.Prelude.{IsTrue}
use Rattle.pointwise_eval.specs.Needs.{IsNeeded}
use Rattle.std.proofs.lemmas.Option.{slice_get-get_or}
use Rattle.pointwise_ir.proofs.Defined.{types_below}
use Rattle.pointwise_ir.specs.Programs.{all_types}
use Rattle.pointwise_ir.specs.Trees.{tree_of}
use Rattle.pointwise_ir.specs.Meaning.{pictures}
use Rattle.dk_base.specs.Frames.{Size}
use Rattle.value_ranges.specs.Parts.{AreBetween}
use Rattle.pointwise_eval.specs.declared.plane.Plane.{Plane}
use Rattle.pointwise_eval.specs.Planes.{all_shown, ShowsNeeded}
use Rattle.pointwise_eval.specs.Rounds.{round_of}
use Rattle.pointwise_eval.proofs.Rendered.{shows_inputs, can_be, shows_more, shows_after, round_is, types-length}
use Rattle.pointwise_eval.proofs.Known.{known_inputs, known_more, known_after, planes_between}
use Rattle.pointwise_eval.proofs.evaluation.all_planes.Goals as goal

pub loop-k-init : goal.loop-k-init
loop-k-init c = record {
  shows = shows_inputs c.args.ir.now c.args.frames.now c.args.until.now _ c.in_ok-planes.planes.items c.law.ensures c.requires.frames c.in_ok-planes.ensures;
  known = known_inputs c.args.ir.now c.args.frames.now c.in_ok-planes.planes.items c.in_ok-planes.ensures;
}

pub next_plane-requires-clause-sources : goal.next_plane-requires-clause-sources
next_plane-requires-clause-sources c =
    let p = c.args.ir.now in
    let Q : Size → Type 0 = λ s. AreBetween c.args.ranges.now (all_shown s c.as_slice.result.now) in
    let P : List Plane → Type 0 = λ planes. AreBetween c.args.ranges.now (all_shown p.size planes) in
    let between = planes_between p _ c.args.ranges.now c.loop-k.planes.items c.law.ensures (round_is p c.args.frames.now c.law.ensures c.requires.frames) c.requires.count c.requires.ranges c.loop-k.invariant.known in
    record {
      types = rw (c.earlier-before.ensures, c.images-images.ensures, c.inputs-inputs.ensures)
          (types_below p.inputs p.images c.loop-k.k c.law.ensures.inputs (λ j image lt h. c.law.ensures.images j image h));
      values = search rules;
      ranges = subst Q (sym c.size-size.ensures) (subst P (sym c.as_slice.ensures.value) between);
    }

pub next_plane-requires-clause-depth : goal.next_plane-requires-clause-depth
next_plane-requires-clause-depth c =
    let p = c.args.ir.now in
    let lt : c.loop-k.k < length p.images = rw c.images-images.ensures at c.loop-k-test.true in
    rw c.images-images.ensures
    (c.law.ensures.images c.loop-k.k (get_or p.images c.loop-k.k c.index-images-k.result) (slice_get-get_or p.images c.loop-k.k c.index-images-k.result lt)).depth

pub next_plane-requires-clause-can : goal.next_plane-requires-clause-can
next_plane-requires-clause-can c = λ wanted.
    let p = c.args.ir.now in
    let d = get_or p.images c.loop-k.k c.index-images-k.result in
    let lt : c.loop-k.k < length p.images = rw c.images-images.ensures at c.loop-k-test.true in
    let there = slice_get-get_or p.images c.loop-k.k c.index-images-k.result lt in
    let wants = rw c.inputs-inputs.ensures at (c.is_needed-wanted.ensures.0 wanted) in
    rw (c.size-size.ensures, c.as_slice.ensures.value, c.images-images.ensures)
    (can_be p _ c.args.until.now c.loop-k.planes.items c.loop-k.k d c.law.ensures c.requires.needs there c.loop-k.invariant.shows wants)

pub loop-k-preserved : goal.loop-k-preserved
loop-k-preserved c =
    let p = c.args.ir.now in
    let k = c.loop-k.k in
    let until = c.args.until.now in
    let d = get_or p.images k c.index-images-k.result in
    let lt : k < length p.images = rw c.images-images.ensures at c.loop-k-test.true in
    let there = slice_get-get_or p.images k c.index-images-k.result lt in
    let round = round_of p.size c.args.frames.now in
    let types = all_types p.inputs (take (k + 1) p.images) in
    let one_each = (round_is p c.args.frames.now c.law.ensures c.requires.frames).one_each in
    let plane = rw (c.size-size.ensures, c.as_slice.ensures.value, c.images-images.ensures) at c.in_ok-plane.ensures in
    let inputs_count : length c.inputs-inputs.result.now ≡ length p.inputs = ap length c.inputs-inputs.ensures in
    let does : IsTrue c.is_needed-wanted.result → IsNeeded until (length p.inputs + k + 1) (length p.inputs + k) = λ wanted. subst (λ n. IsNeeded until (n + k + 1) (n + k)) inputs_count (c.is_needed-wanted.ensures.0 wanted) in
    let has : IsNeeded until (length p.inputs + k + 1) (length p.inputs + k) → IsTrue c.is_needed-wanted.result = λ wants. c.is_needed-wanted.ensures.1 (subst (λ n. IsNeeded until (n + k + 1) (n + k)) (sym inputs_count) wants) in
    let kept : (g : ℕ) → IsNeeded until (length p.inputs + k + 1) g → slice_get c.drop_unneeded.new.planes.items g ≡ slice_get c.push.new.self.items g = λ g wants. c.drop_unneeded.ensures.kept g (subst (λ n. IsNeeded until (n + k + 1) g) (sym inputs_count) wants) in
    let more = shows_more p round until c.loop-k.planes.items k d _ c.in_ok-plane.plane c.law.ensures c.requires.needs one_each there does has plane c.loop-k.invariant.shows in
    let count : length c.loop-k.planes.items ≡ length p.inputs + k = c.loop-k.invariant.shows.one_each ∙ types-length p.inputs p.images k (let le : k ≤ length p.images = omega (arith, lt) in le) in
    let known = known_more p.size types (pictures p round) until (length p.inputs + k + 1) (length p.inputs + k) c.loop-k.planes.items (tree_of d.body) _ c.in_ok-plane.plane count does plane more c.loop-k.invariant.known in
    let pushed : ShowsNeeded p.size types (pictures p round) until (length p.inputs + k + 1) c.push.new.self.items = rw c.in_ok-push.ensures.items more in
    let after = shows_after p types (pictures p round) until (length p.inputs + k + 1) c.push.new.self.items c.drop_unneeded.new.planes.items c.drop_unneeded.ensures.count kept c.drop_unneeded.ensures.each pushed in
    let next : length p.inputs + k + 1 ≡ length p.inputs + (k + 1) = omega arith in
    record {
      shows = subst (λ n. ShowsNeeded p.size types (pictures p round) until n c.drop_unneeded.new.planes.items) next after;
      known = known_after p.size (pictures p round) c.push.new.self.items c.drop_unneeded.new.planes.items c.drop_unneeded.ensures.each (rw c.in_ok-push.ensures.items known);
    }
