use Rattle.std.proofs.Common.{◌∙◌, ◌+◌, ◌-◌, ◌*◌, ◌^◌, ◌<◌, ◌≤◌, ap, sym, subst, arith, length, drop, take, get_or}
use Rattle.std.specs.Prelude.{slice_index}
use Rattle.std.specs.List.{All}
use Rattle.std.proofs.lemmas.List.{get_or_read}
use Rattle.std.proofs.lemmas.List.Elements.{All-take, All-drop}
use Rattle.dk_base.specs.FrameSizes.{size_of}
use Rattle.wiring.specs.Rules.{IsPortWidth}
use Rattle.test_bench.proofs.Written.{whole_at, width_at, round_there, some_maxval}
use Rattle.test_bench.proofs.writing.write_output.Goals as goal

pub greatest-maxval-requires : goal.greatest-maxval-requires
greatest-maxval-requires c =
    let w = c.requires.whole in
    let ports = c.args.ports.now in
    let l : 2 * c.args.output + 1 < length ports = omega (arith, w.3.count, c.requires.output) in
    subst (λ z. IsPortWidth z) (sym (get_or_read ports (2 * c.args.output + 1) c.index-ports-output.result l c.index-ports-output.is 0))
    (width_at (size_of c.args.size) ports w.0 c.args.pictures.now w.3 c.args.output c.requires.output)

pub part-samples-requires : goal.part-samples-requires
part-samples-requires c =
    let w = c.requires.whole in
    let size = size_of c.args.size in
    let whole = whole_at size c.args.ports.now w.0 c.args.pictures.now w.3 c.args.output c.index-pictures-output.result c.requires.output in
    let there : w.0 * c.area-pixels.result ≤ length c.deref.result.now =
    subst (λ z. w.0 * z ≤ length c.deref.result.now) (sym c.area-pixels.ensures.is) (subst (λ z. w.0 * (c.args.size.width * c.args.size.height) ≤ length z) (sym c.deref.ensures.value) whole.samples) in
    round_there w.0 c.args.round c.area-pixels.result (length c.deref.result.now) w.1 there

pub write_image-requires-clause-maxval : goal.write_image-requires-clause-maxval
write_image-requires-clause-maxval c =
    let w = c.requires.whole in
    let ports = c.args.ports.now in
    let l : 2 * c.args.output + 1 < length ports = omega (arith, w.3.count, c.requires.output) in
    let e = get_or_read ports (2 * c.args.output + 1) c.index-ports-output.result l c.index-ports-output.is 0 in
    some_maxval c.greatest-maxval.result (slice_index ports (2 * c.args.output + 1)) (c.greatest-maxval.ensures ∙ ap (λ z. 2 ^ z - 1) e)
    (width_at (size_of c.args.size) ports w.0 c.args.pictures.now w.3 c.args.output c.requires.output).0

pub write_image-requires-clause-bounded : goal.write_image-requires-clause-bounded
write_image-requires-clause-bounded c =
    let w = c.requires.whole in
    let ports = c.args.ports.now in
    let l : 2 * c.args.output + 1 < length ports = omega (arith, w.3.count, c.requires.output) in
    let e = get_or_read ports (2 * c.args.output + 1) c.index-ports-output.result l c.index-ports-output.is 0 in
    let bits = slice_index ports (2 * c.args.output + 1) in
    let pixels = c.area-pixels.result in
    let from = c.args.round * pixels in
    let kept = get_or c.args.pictures.now c.args.output c.index-pictures-output.result in
    let whole = whole_at (size_of c.args.size) ports w.0 c.args.pictures.now w.3 c.args.output c.index-pictures-output.result c.requires.output in
    let part = c.part-samples.ensures ∙ ap (λ z. take pixels (drop from z)) c.deref.ensures.value in
    subst (λ m. All (λ s. s ≤ m) c.part-samples.result.now) (sym (c.greatest-maxval.ensures ∙ ap (λ z. 2 ^ z - 1) e))
    (subst (λ z. All (λ s. s ≤ 2 ^ bits - 1) z) (sym part) (All-take (λ s. s ≤ 2 ^ bits - 1) pixels (drop from kept.samples.items) (All-drop (λ s. s ≤ 2 ^ bits - 1) from kept.samples.items whole.values)))
