use Rattle.std.proofs.Common.{◌≡◌, ◌+◌, ◌-◌, ◌*◌, ◌<◌, ◌++◌, length, take, drop, ap, sym, subst, ◌∙◌, arith}
use Rattle.std.proofs.lemmas.List.{take_all}
use Rattle.batch_sim.specs.Called.{of_clock}
use Rattle.batch_sim.proofs.Clockwise.{place_size, place_inside, code_size}
use Rattle.test_bench.specs.Clocking.{AreKept}
use Rattle.test_bench.proofs.Shows.{shown_more}
use Rattle.test_bench.proofs.clocking.show_all.Goals as goal

pub loop-number-preserved : goal.loop-number-preserved
loop-number-preserved c =
    let inv = c.loop-number.invariant in
    let k = c.loop-number.number in
    let p = c.len-ports.result in
    let outs = c.args.outs.now in
    let ports : p ≡ length c.args.pictures.now.items = omega (arith, c.len-ports.ensures) in
    let places : length outs ≡ c.args.count * p = c.requires.places ∙ ap (λ n. c.args.count * n) (sym ports) in
    let inside = place_inside k c.args.count p (length outs) c.loop-number-test.true places in
    let size : length (take ((k + 1) * p - k * p) (drop (k * p) outs)) ≡ p = code_size p k outs inside in
    let here = ap (λ n. take n (drop (k * p) outs)) (place_size k p) ∙ ap (λ n. of_clock n k outs) ports in
    record {
      count = c.show.ensures.pictures.count ∙ size ∙ ports;
      room = c.show.ensures.pictures.room;
      kept = λ shots all n shown h.
          shown_more c.args.most (length c.args.pictures.now.items) k outs (take ((k + 1) * p - k * p) (drop (k * p) outs)) shots all c.loop-number.pictures.items c.show.new.pictures.items here (subst (λ z. k < z) (sym n) c.loop-number-test.true) shown
          (inv.count ∙ sym ports ∙ sym size) c.show.ensures.pictures.count c.show.ensures.kept (inv.kept shots all n shown h);
    }

pub returns-clause-kept : goal.returns-clause-kept
returns-clause-kept c = λ shots all n shown h.
    subst (λ z. AreKept c.args.most (all ++ z) c.loop-number.pictures.items) (take_all c.loop-number.number shots (omega (arith, n, c.loop-number-test.false))) (c.loop-number.invariant.kept shots all n shown h)
