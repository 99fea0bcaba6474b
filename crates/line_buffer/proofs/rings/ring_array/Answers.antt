use Rattle.std.proofs.Common.{◌∙◌, ◌-◌, ℕ, [], ◌∷◌, false, ap, sym, subst, arith}
use Rattle.dk_base.specs.Numbers.{bit_count, IsBitCount}
use Rattle.net_build.proofs.Parts.{includes_on}
use Rattle.net_build.proofs.Failing.{at_err}
use Rattle.line_buffer.specs.Rings.{IsRing, AreRingTaps}
use Rattle.line_buffer.proofs.Shared.{turns_more}
use Rattle.line_buffer.proofs.Building.{ring_built, ages_deep, built_adds, built_buffer, built_made, built_fills}
use Rattle.line_buffer.specs.Places.{ring_shapes}
use Rattle.line_buffer.proofs.Delayed.{delay_is}
use Rattle.line_buffer.proofs.Counted.{counts_as, counts_wires, ring_one}
use Rattle.line_buffer.proofs.rings.ring_array.Goals as goal

pub ring_taps-requires-clause-ring : goal.ring_taps-requires-clause-ring
ring_taps-requires-clause-ring c = subst (λ (w : ℕ). IsRing c.delay_line.new.b c.in_ok-line.line c.args.image.net c.bits_for-bits.result w) (sym c.from-count.ensures)
    (ring_built c.args.b.now c.delay_line.new.b c.args.image.width c.args.words c.bits_for-bits.result c.args.image.net c.in_ok-line.line c.in_ok-line.ensures.line
    (c.in_ok-line.ensures.line.index.width ∙ ap (λ (w : ℕ). bit_count (w - 1)) (sym c.from-count.ensures) ∙ sym c.bits_for-bits.ensures.value) c.requires.image.bits c.requires.image.there c.requires.image.wide c.requires.words.0 (omega (arith, c.requires.words.1)) (subst (λ (w : ℕ). IsBitCount (w - 1) c.bits_for-bits.result) c.from-count.ensures c.bits_for-bits.ensures.least))

pub ring_taps-requires-clause-deep : goal.ring_taps-requires-clause-deep
ring_taps-requires-clause-deep c = ages_deep c.args.image.ages.now c.from-count.result c.requires.image.ascending (c.from-count.ensures ∙ c.requires.depth)

pub delay_line-requires-clause-feed : goal.delay_line-requires-clause-feed
delay_line-requires-clause-feed c = record {
  bits = c.requires.image.bits;
  deep = c.requires.words;
  there = c.requires.image.there;
  wide = c.requires.image.wide;
}

pub returns-in_err-line : goal.returns-in_err-line
returns-in_err-line c = at_err _ _ _ c.from_residual.result c.from_residual.ensures.1 c.in_err-line.ensures

pub returns-in_err-taps : goal.returns-in_err-taps
returns-in_err-taps c = at_err _ _ _ c.from_residual-in_err-taps.result c.from_residual-in_err-taps.ensures.1 (includes_on _ _ _ c.in_ok-line.ensures.line.adds.includes c.ring_taps.ensures.taps.includes)

pub returns : goal.returns
returns c = record {
  includes = includes_on _ _ _ c.in_ok-line.ensures.line.adds.includes c.ring_taps.ensures.taps.includes;
  turns = turns_more c.ring_taps.new.b c.delay_line.new.b c.delay_line.new.turns c.ring_taps.ensures.taps.includes c.in_ok-line.ensures.turns;
  adds = built_adds c.args.b.now c.delay_line.new.b c.args.image.width c.args.words c.bits_for-bits.result c.args.image.net c.in_ok-line.line c.in_ok-line.ensures.line
      (c.in_ok-line.ensures.line.index.width ∙ ap (λ (w : ℕ). bit_count (w - 1)) (sym c.from-count.ensures) ∙ sym c.bits_for-bits.ensures.value) c.requires.image.bits c.requires.image.there c.requires.image.wide c.requires.words.0 (omega (arith, c.requires.words.1)) (subst (λ (w : ℕ). IsBitCount (w - 1) c.bits_for-bits.result) c.from-count.ensures c.bits_for-bits.ensures.least)
      c.ring_taps.new.b c.args.image.ages.now c.in_ok-taps.taps.items c.requires.image.ascending c.requires.depth c.ring_taps.ensures.taps c.in_ok-taps.ensures.one_each
      (subst (λ (w : ℕ). AreRingTaps c.ring_taps.new.b c.in_ok-line.line.array w c.in_ok-line.line.index c.args.image.net c.args.image.ages.now c.in_ok-taps.taps.items) c.from-count.ensures c.in_ok-taps.ensures.are);
  once = λ x low high. tt;
  buffer = built_buffer c.args.b.now c.delay_line.new.b c.args.image.width c.args.words c.bits_for-bits.result c.args.image.net c.in_ok-line.line c.in_ok-line.ensures.line
      (c.in_ok-line.ensures.line.index.width ∙ ap (λ (w : ℕ). bit_count (w - 1)) (sym c.from-count.ensures) ∙ sym c.bits_for-bits.ensures.value) c.requires.image.bits c.requires.image.there c.requires.image.wide c.requires.words.0 (omega (arith, c.requires.words.1)) (subst (λ (w : ℕ). IsBitCount (w - 1) c.bits_for-bits.result) c.from-count.ensures c.bits_for-bits.ensures.least)
      c.ring_taps.new.b c.args.image.ages.now c.in_ok-taps.taps.items c.requires.image.ascending c.requires.depth c.ring_taps.ensures.taps c.in_ok-taps.ensures.one_each
      (subst (λ (w : ℕ). AreRingTaps c.ring_taps.new.b c.in_ok-line.line.array w c.in_ok-line.line.index c.args.image.net c.args.image.ages.now c.in_ok-taps.taps.items) c.from-count.ensures c.in_ok-taps.ensures.are);
  delay = delay_is c.ring_taps.new.b [] _ c.args.image.ages.now c.in_ok-taps.taps.items c.args.image.net c.requires.image.ascending
      (built_buffer c.args.b.now c.delay_line.new.b c.args.image.width c.args.words c.bits_for-bits.result c.args.image.net c.in_ok-line.line c.in_ok-line.ensures.line
      (c.in_ok-line.ensures.line.index.width ∙ ap (λ (w : ℕ). bit_count (w - 1)) (sym c.from-count.ensures) ∙ sym c.bits_for-bits.ensures.value) c.requires.image.bits c.requires.image.there c.requires.image.wide c.requires.words.0 (omega (arith, c.requires.words.1)) (subst (λ (w : ℕ). IsBitCount (w - 1) c.bits_for-bits.result) c.from-count.ensures c.bits_for-bits.ensures.least)
      c.ring_taps.new.b c.args.image.ages.now c.in_ok-taps.taps.items c.requires.image.ascending c.requires.depth c.ring_taps.ensures.taps c.in_ok-taps.ensures.one_each
      (subst (λ (w : ℕ). AreRingTaps c.ring_taps.new.b c.in_ok-line.line.array w c.in_ok-line.line.index c.args.image.net c.args.image.ages.now c.in_ok-taps.taps.items) c.from-count.ensures c.in_ok-taps.ensures.are));
  made = built_made c.args.b.now c.delay_line.new.b c.args.image.width c.args.words c.bits_for-bits.result c.args.image.net c.in_ok-line.line c.in_ok-line.ensures.line
      (c.in_ok-line.ensures.line.index.width ∙ ap (λ (w : ℕ). bit_count (w - 1)) (sym c.from-count.ensures) ∙ sym c.bits_for-bits.ensures.value) c.requires.image.bits c.requires.image.there c.requires.image.wide c.requires.words.0 (omega (arith, c.requires.words.1)) (subst (λ (w : ℕ). IsBitCount (w - 1) c.bits_for-bits.result) c.from-count.ensures c.bits_for-bits.ensures.least)
      c.ring_taps.new.b c.args.image.ages.now c.in_ok-taps.taps.items c.requires.image.ascending c.requires.depth c.ring_taps.ensures.taps c.in_ok-taps.ensures.one_each
      (subst (λ (w : ℕ). AreRingTaps c.ring_taps.new.b c.in_ok-line.line.array w c.in_ok-line.line.index c.args.image.net c.args.image.ages.now c.in_ok-taps.taps.items) c.from-count.ensures c.in_ok-taps.ensures.are);
  fills = built_fills c.args.b.now c.delay_line.new.b c.args.image.width c.args.words c.bits_for-bits.result c.args.image.net c.in_ok-line.line c.in_ok-line.ensures.line
      (c.in_ok-line.ensures.line.index.width ∙ ap (λ (w : ℕ). bit_count (w - 1)) (sym c.from-count.ensures) ∙ sym c.bits_for-bits.ensures.value) c.requires.image.bits c.requires.image.there c.requires.image.wide c.requires.words.0 (omega (arith, c.requires.words.1)) (subst (λ (w : ℕ). IsBitCount (w - 1) c.bits_for-bits.result) c.from-count.ensures c.bits_for-bits.ensures.least)
      c.ring_taps.new.b c.args.image.ages.now c.in_ok-taps.taps.items c.requires.image.ascending c.requires.depth c.ring_taps.ensures.taps c.in_ok-taps.ensures.one_each
      (subst (λ (w : ℕ). AreRingTaps c.ring_taps.new.b c.in_ok-line.line.array w c.in_ok-line.line.index c.args.image.net c.args.image.ages.now c.in_ok-taps.taps.items) c.from-count.ensures c.in_ok-taps.ensures.are);
  counts = counts_as c.ring_taps.new.b c.args.b.now c.delay_line.new.turns c.args.turns.now (λ words. false) ((record { width = c.args.image.width; depth = c.args.words }) ∷ []) (ring_shapes c.args.image.width c.args.image.ages.now)
      (ring_one c.args.image.width c.args.words c.args.image.ages.now c.requires.words.0 c.requires.depth)
      (counts_wires c.ring_taps.new.b c.delay_line.new.b c.args.b.now c.delay_line.new.turns c.args.turns.now (λ words. false) ((record { width = c.args.image.width; depth = c.args.words }) ∷ []) c.ring_taps.ensures.taps.wires.regs c.in_ok-line.ensures.counts);
}
