use Rattle.std.proofs.Common.{◌≡◌, ◌∙◌, subst, sym, ap}
use Rattle.report_text.specs.Reports.{parts_of}
use Rattle.plan_check.specs.First.{IsFirst}
use Rattle.plan_check.specs.Rules.{Breaks}
use Rattle.raster_delay.specs.Systems.{bits}
use Rattle.plan_check.specs.Holding.{delays, clocks_of}
use Rattle.plan_check.specs.Sums.{bits_of_lines}
use Rattle.plan_check.specs.Judging.{number_rules}
use Rattle.plan_check.proofs.Firsts.{images_keep, latencies_keep, wrong_clocks, wrong_bits}
use Rattle.plan_check.proofs.Least.{bits_of_delays}
use Rattle.plan_check.proofs.checking.faulty_sum.Goals as goal

pub returns-then-from-clocks : goal.returns-then-from-clocks
returns-then-from-clocks c =
    let s = c.args.system.now in
    let r = parts_of c.args.report.now in
    subst (IsFirst (Breaks (number_rules s r))) (sym c.clocks_line.ensures.value) (wrong_clocks s r (images_keep s r c.requires.images) (latencies_keep s r (images_keep s r c.requires.images) c.requires.latencies) (λ e. c.if-from-clocks.true (c.from.ensures ∙ e ∙ sym c.clocks.ensures)))

pub returns-then-from-bits : goal.returns-then-from-bits
returns-then-from-bits c =
    let s = c.args.system.now in
    let r = parts_of c.args.report.now in
    let right : r.clocks ≡ clocks_of r = sym c.from.ensures ∙ c.if-from-clocks.false ∙ c.clocks.ensures in
    let sum : c.bits.result ≡ bits s (delays r) = c.bits.ensures ∙ ap bits_of_lines c.deref.ensures.value ∙ bits_of_delays s c.law.ensures r.images c.requires.suits.images c.requires.images in
    subst (IsFirst (Breaks (number_rules s r))) (sym c.bits_line.ensures.value)
    (wrong_bits s r (images_keep s r c.requires.images) (latencies_keep s r (images_keep s r c.requires.images) c.requires.latencies) right (λ e. c.if-from-bits.true (c.from-2.ensures ∙ e ∙ sym sum)))

pub returns : goal.returns
returns c =
    let s = c.args.system.now in
    let r = parts_of c.args.report.now in
    let right : r.clocks ≡ clocks_of r = sym c.from.ensures ∙ c.if-from-clocks.false ∙ c.clocks.ensures in
    let sum : c.bits.result ≡ bits s (delays r) = c.bits.ensures ∙ ap bits_of_lines c.deref.ensures.value ∙ bits_of_delays s c.law.ensures r.images c.requires.suits.images c.requires.images in
    record {
      suits = c.requires.suits;
      images = c.requires.images;
      latencies = c.requires.latencies;
      clocks = right;
      bits = sym c.from-2.ensures ∙ c.if-from-bits.false ∙ sum;
    }
