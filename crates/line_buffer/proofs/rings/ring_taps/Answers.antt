use Rattle.std.proofs.Common.{rules, ◌≡◌, ◌∙◌, ◌++◌, ◌∷◌, [], ℕ, ◌+◌, length, take, sym, subst, arith, length-take, length-append, ap}
use Rattle.std.specs.Prelude.{slice_index_or}
use Rattle.std.proofs.lemmas.List.{take_more, take_all}
use Rattle.net_build.proofs.Grown.{net_more}
use Rattle.line_buffer.specs.Rings.{AreRingTaps}
use Rattle.line_buffer.proofs.Tapping.{taps_none, taps_joined, ring_more, ring_taps_more}
use Rattle.line_buffer.proofs.rings.ring_taps.Goals as goal

pub loop-age-init : goal.loop-age-init
loop-age-init c = record {
  taps = taps_none c.args.b.now c.args.ring.line.array;
  one_each = ap length c.new-nets.ensures.items;
  are = λ k age tap ea et. cc;
}

pub ring_tap-requires-clause-ring : goal.ring_tap-requires-clause-ring
ring_tap-requires-clause-ring c = ring_more c.loop-age.b c.args.b.now c.args.ring.line c.args.ring.value c.args.ring.bits c.args.ring.words c.loop-age.invariant.taps.includes c.requires.ring

pub returns-in_err-tap-clause-taps : goal.returns-in_err-tap-clause-taps
returns-in_err-tap-clause-taps c = taps_joined _ _ _ c.args.ring.line.array c.ring_tap.ensures.taps c.loop-age.invariant.taps

pub returns-in_err-push-clause-taps : goal.returns-in_err-push-clause-taps
returns-in_err-push-clause-taps c = taps_joined _ _ _ c.args.ring.line.array c.ring_tap.ensures.taps c.loop-age.invariant.taps

pub loop-age-preserved : goal.loop-age-preserved
loop-age-preserved c =
    let i : ℕ = c.loop-age.age-index in
    let age : ℕ = slice_index_or c.args.ages.now i 0 in
    let more : c.push.new.self.items ≡ c.loop-age.nets.items ++ c.in_ok-tap.tap ∷ [] = search rules in
    let as_many : length c.loop-age.nets.items ≡ length (take i c.args.ages.now) = simp length-take (omega (arith, c.loop-age-test.true, c.loop-age.invariant.one_each)) in
    record {
      taps = taps_joined _ _ _ c.args.ring.line.array c.ring_tap.ensures.taps c.loop-age.invariant.taps;
      one_each = ap length more ∙ length-append c.loop-age.nets.items (c.in_ok-tap.tap ∷ []) ∙ ap (λ (n : ℕ). n + 1) c.loop-age.invariant.one_each;
      are =
          subst (λ ages. AreRingTaps c.ring_tap.new.b c.args.ring.line.array c.args.ring.words c.args.ring.line.index c.args.ring.value ages c.push.new.self.items) (sym (take_more c.args.ages.now i 0 c.loop-age-test.true))
          (subst (λ taps. AreRingTaps c.ring_tap.new.b c.args.ring.line.array c.args.ring.words c.args.ring.line.index c.args.ring.value (take i c.args.ages.now ++ age ∷ []) taps) (sym more)
          (ring_taps_more c.ring_tap.new.b c.loop-age.b c.args.ring.line.array c.args.ring.words c.args.ring.line.index c.args.ring.value (take i c.args.ages.now) c.loop-age.nets.items age c.in_ok-tap.tap c.ring_tap.ensures.taps.includes (net_more c.loop-age.b c.args.b.now c.loop-age.invariant.taps.includes c.args.ring.value c.requires.ring.value_net) as_many c.loop-age.invariant.are c.in_ok-tap.ensures.tap));
    }

pub returns-clause-are : goal.returns-clause-are
returns-clause-are c =
    let all = take_all c.loop-age.age-index c.args.ages.now c.loop-age-test.false in
    subst (λ ages. AreRingTaps c.loop-age.b c.args.ring.line.array c.args.ring.words c.args.ring.line.index c.args.ring.value ages c.loop-age.nets.items) all c.loop-age.invariant.are
