use Rattle.std.proofs.Common.{rules, ◌≡◌, ◌∙◌, ◌++◌, ◌∷◌, [], ℕ, take, sym, subst, refl}
use Rattle.std.specs.Prelude.{slice_index_or}
use Rattle.std.proofs.lemmas.List.{take_more, take_all}
use Rattle.net_build.proofs.Parts.{Includes-refl, includes_on}
use Rattle.net_build.proofs.Grown.{width_more}
use Rattle.net_build.proofs.Failing.{at_err}
use Rattle.line_buffer.specs.Indices.{is_long}
use Rattle.line_buffer.specs.Places.{chain_shapes}
use Rattle.line_buffer.specs.SharedCounters.{CountsTurns}
use Rattle.line_buffer.specs.Chains.{IsChained}
use Rattle.line_buffer.proofs.Chaining.{chained_none, chained_more, chained_chain, up_next, below_next}
use Rattle.line_buffer.proofs.Counted.{counts_none, counts_more}
use Rattle.line_buffer.proofs.chains.chained.Goals as goal

pub loop-age-init : goal.loop-age-init
loop-age-init c = record {
  includes = Includes-refl c.args.b.now;
  turns = c.requires.turns;
  chained = subst (λ taps. IsChained c.args.b.now c.args.b.now c.args.image.width (is_long c.args.least) c.args.image.net [] taps (record { age = 0; net = c.args.image.net })) (sym c.new-nets.ensures.items)
      (chained_none c.args.b.now c.args.image.width (is_long c.args.least) c.args.image.net (record { age = 0; net = c.args.image.net }) c.requires.image.there c.requires.image.wide refl refl);
  counts = counts_none c.args.b.now c.args.turns.now (is_long c.args.least);
}

pub loop-age-preserved : goal.loop-age-preserved
loop-age-preserved c =
    let i : ℕ = c.loop-age.age-index in
    let age : ℕ = slice_index_or c.args.image.ages.now i 0 in
    let more : c.push.new.self.items ≡ c.loop-age.nets.items ++ c.in_ok-last.last.net ∷ [] = search rules in
    record {
      includes = includes_on _ _ _ c.loop-age.invariant.includes c.in_ok-last.ensures.includes;
      turns = c.in_ok-last.ensures.turns;
      chained =
          subst (λ ages. IsChained c.next_tap.new.b c.args.b.now c.args.image.width (is_long c.args.least) c.args.image.net ages c.push.new.self.items c.in_ok-last.last) (sym (take_more c.args.image.ages.now i 0 c.loop-age-test.true))
          (subst (λ taps. IsChained c.next_tap.new.b c.args.b.now c.args.image.width (is_long c.args.least) c.args.image.net (take i c.args.image.ages.now ++ age ∷ []) taps c.in_ok-last.last) (sym more)
          (chained_more c.args.b.now c.loop-age.b c.next_tap.new.b c.args.image.width (is_long c.args.least) c.args.image.net (take i c.args.image.ages.now) c.loop-age.nets.items c.loop-age.last c.in_ok-last.last age c.loop-age.invariant.chained c.in_ok-last.ensures.step (below_next c.args.image.ages.now i c.requires.image.ascending c.loop-age-test.true)));
      counts =
          subst (λ ages. CountsTurns c.next_tap.new.b c.args.b.now c.next_tap.new.turns c.args.turns.now (is_long c.args.least) (chain_shapes c.args.image.width ages)) (sym (take_more c.args.image.ages.now i 0 c.loop-age-test.true))
          (counts_more c.next_tap.new.b c.loop-age.b c.args.b.now c.next_tap.new.turns c.loop-age.turns c.args.turns.now (is_long c.args.least) c.args.image.width (take i c.args.image.ages.now) c.loop-age.last.age age c.loop-age.invariant.chained.age_is (below_next c.args.image.ages.now i c.requires.image.ascending c.loop-age-test.true) c.loop-age.invariant.counts c.in_ok-last.ensures.stays c.in_ok-last.ensures.goes);
    }

pub next_tap-requires-clause-next : goal.next_tap-requires-clause-next
next_tap-requires-clause-next c = record {
  bits = c.requires.image.bits;
  up = up_next c.args.image.ages.now c.loop-age.age-index c.loop-age.last.age c.requires.image.ascending c.loop-age-test.true c.loop-age.invariant.chained.age_is;
  most = c.requires.image.most c.loop-age.age-index 0 c.loop-age-test.true;
  there = c.loop-age.invariant.chained.net;
  wide = c.loop-age.invariant.chained.wide;
}

pub returns-in_err-last : goal.returns-in_err-last
returns-in_err-last c = at_err _ _ _ c.from_residual.result c.from_residual.ensures.1 (includes_on _ _ _ c.loop-age.invariant.includes c.in_err-last.ensures)

pub returns-in_err-push : goal.returns-in_err-push
returns-in_err-push c = at_err _ _ _ c.from_residual-in_err-push.result c.from_residual-in_err-push.ensures.1 (includes_on _ _ _ c.loop-age.invariant.includes c.in_ok-last.ensures.includes)

pub returns : goal.returns
returns c = record {
  includes = c.loop-age.invariant.includes;
  turns = c.loop-age.invariant.turns;
  chain = let all = take_all c.loop-age.age-index c.args.image.ages.now c.loop-age-test.false in
      chained_chain c.loop-age.b c.args.b.now c.args.image.width (is_long c.args.least) c.args.image.net c.args.image.ages.now c.loop-age.nets.items c.loop-age.last c.requires.image.ascending (width_more c.loop-age.b c.args.b.now c.loop-age.invariant.includes c.args.image.net c.requires.image.there.declared ∙ c.requires.image.wide)
      (subst (λ ages. IsChained c.loop-age.b c.args.b.now c.args.image.width (is_long c.args.least) c.args.image.net ages c.loop-age.nets.items c.loop-age.last) all c.loop-age.invariant.chained);
  counts = let all = take_all c.loop-age.age-index c.args.image.ages.now c.loop-age-test.false in
      subst (λ ages. CountsTurns c.loop-age.b c.args.b.now c.loop-age.turns c.args.turns.now (is_long c.args.least) (chain_shapes c.args.image.width ages)) all c.loop-age.invariant.counts;
}
