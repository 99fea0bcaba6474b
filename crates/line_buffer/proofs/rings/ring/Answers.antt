use Rattle.std.proofs.Common.{[], false, ◌∙◌, sym}
use Rattle.net_build.proofs.Parts.{Includes-refl}
use Rattle.net_build.proofs.Failing.{at_err}
use Rattle.line_buffer.proofs.Building.{still_adds, still_made, still_fills}
use Rattle.line_buffer.proofs.Ringed.{still_is}
use Rattle.line_buffer.proofs.Delayed.{delay_is}
use Rattle.line_buffer.proofs.Counted.{counts_still}
use Rattle.line_buffer.proofs.rings.ring.Goals as goal

pub returns-then-depth-eq0 : goal.returns-then-depth-eq0
returns-then-depth-eq0 c = record {
  includes = Includes-refl c.args.b.now;
  turns = c.requires.turns;
  adds = still_adds c.args.b.now c.args.image.width c.args.image.ages.now (sym c.greatest-depth.ensures.depth ∙ c.if-depth-eq0.true);
  once = λ x low high. tt;
  buffer = still_is c.args.b.now _ c.args.image.ages.now c.args.image.net c.in_ok-still.still.items c.requires.image.there c.requires.image.ascending (sym c.greatest-depth.ensures.depth ∙ c.if-depth-eq0.true) c.in_ok-still.ensures.one_each c.in_ok-still.ensures.same;
  delay = delay_is c.args.b.now [] _ c.args.image.ages.now c.in_ok-still.still.items c.args.image.net c.requires.image.ascending
      (still_is c.args.b.now _ c.args.image.ages.now c.args.image.net c.in_ok-still.still.items c.requires.image.there c.requires.image.ascending (sym c.greatest-depth.ensures.depth ∙ c.if-depth-eq0.true) c.in_ok-still.ensures.one_each c.in_ok-still.ensures.same);
  made = still_made c.args.b.now _ _ _ c.args.image.ages.now c.in_ok-still.still.items c.requires.image.ascending (sym c.greatest-depth.ensures.depth ∙ c.if-depth-eq0.true);
  fills = still_fills c.args.b.now _ c.args.image.width c.args.image.ages.now c.args.image.net (sym c.greatest-depth.ensures.depth ∙ c.if-depth-eq0.true);
  counts = counts_still c.args.b.now c.args.turns.now (λ words. false) c.args.image.width c.args.image.ages.now (sym c.greatest-depth.ensures.depth ∙ c.if-depth-eq0.true);
}

pub returns : goal.returns
returns c = c.in_ok-taps.ensures

pub returns-in_err-still : goal.returns-in_err-still
returns-in_err-still c = at_err _ _ _ c.from_residual.result c.from_residual.ensures.1 (Includes-refl c.args.b.now)

pub returns-in_err-taps : goal.returns-in_err-taps
returns-in_err-taps c = at_err _ _ _ c.from_residual-in_err-taps.result c.from_residual-in_err-taps.ensures.1 c.in_err-taps.ensures
