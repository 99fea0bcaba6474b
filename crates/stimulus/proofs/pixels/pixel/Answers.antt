use Rattle.std.proofs.Common.{◌≡◌, ◌∙◌, ℕ, ◌<◌, ◌≤◌, Some, sym, refl, ap, subst, arith, length, get_or}
use Rattle.std.specs.Prelude.{◌/◌, slice_get, slice_index}
use Rattle.std.proofs.Math.Nat.{mod-lt}
use Rattle.std.proofs.lemmas.Option.{slice_get_read, slice_get_past, slice_get-get_or}
use Rattle.stimulus.proofs.Streams.{pixel_read, pixel_none, frame_within, frame_whole}
use Rattle.stimulus.proofs.pixels.pixel.Goals as goal

pub returns-then-rounds-round : goal.returns-then-rounds-round
returns-then-rounds-round c =
    let f = c.requires.frames in
    pixel_none f.0 f.1 c.args.rounds.now f.2 c.args.input f.3 c.args.area c.args.number f.4 (slice_get_past c.args.rounds.now (c.args.number / c.args.area) (subst (λ (n : ℕ). length c.args.rounds.now ≤ n) c.round_at-round.ensures c.if-rounds-round.true))

pub index-frame-requires : goal.index-frame-requires
index-frame-requires c =
    let f = c.requires.frames in
    let rounds = c.args.rounds.now in
    let q = c.args.number / c.args.area in
    let r = get_or rounds c.round_at-round.result c.index-rounds-round.result in
    let there = subst (λ (n : ℕ). slice_get rounds n ≡ Some r) c.round_at-round.ensures (slice_get-get_or rounds c.round_at-round.result c.index-rounds-round.result c.if-rounds-round.false) in
    omega (arith, frame_within f.0 f.1 rounds f.2 c.args.input f.3 q r there, r.frames.ok.0)

pub sample-requires : goal.sample-requires
sample-requires c =
    let f = c.requires.frames in
    let rounds = c.args.rounds.now in
    let q = c.args.number / c.args.area in
    let r = get_or rounds c.round_at-round.result c.index-rounds-round.result in
    let there = subst (λ (n : ℕ). slice_get rounds n ≡ Some r) c.round_at-round.ensures (slice_get-get_or rounds c.round_at-round.result c.index-rounds-round.result c.if-rounds-round.false) in
    let frame = c.index-frame.result.now in
    let at = slice_get_read r.frames.items (length r.frames.items) c.args.input frame refl (frame_within f.0 f.1 rounds f.2 c.args.input f.3 q r there) c.index-frame.ensures in
    let e : c.args.area ≡ length frame.samples = f.4 ∙ sym (frame_whole f.0 f.1 rounds f.2 c.args.input f.3 q r frame there at) in
    subst (λ z. c.place_at.result < z) e (subst (λ (n : ℕ). n < c.args.area) (sym c.place_at.ensures) (mod-lt c.args.number c.requires.area))

pub returns : goal.returns
returns c =
    let f = c.requires.frames in
    let rounds = c.args.rounds.now in
    let q = c.args.number / c.args.area in
    let r = get_or rounds c.round_at-round.result c.index-rounds-round.result in
    let there = subst (λ (n : ℕ). slice_get rounds n ≡ Some r) c.round_at-round.ensures (slice_get-get_or rounds c.round_at-round.result c.index-rounds-round.result c.if-rounds-round.false) in
    let frame = c.index-frame.result.now in
    let at = slice_get_read r.frames.items (length r.frames.items) c.args.input frame refl (frame_within f.0 f.1 rounds f.2 c.args.input f.3 q r there) c.index-frame.ensures in
    c.sample.ensures ∙ ap (λ n. slice_index c.index-frame.result.now.samples n) c.place_at.ensures ∙ pixel_read f.0 f.1 rounds f.2 c.args.input f.3 c.args.area c.args.number f.4 c.requires.area r frame there at
