use Rattle.std.proofs.Common.{pos, rules}
use Rattle.dk_base.specs.FrameSizes.{size_of}
use Rattle.edge_select.proofs.Walks.{pixel_inside}
use Rattle.edge_select.proofs.paths.leading_pixels.Goals as goal

pub returns-in-Some : goal.returns-in-Some
returns-in-Some c = record {
  within = search rules;
  passes = λ x y low high. let inside = pixel_inside (size_of c.args.size) x y low high in
      let led = c.led_on.ensures.passes x y in (
        (λ h. let k = led.0 h in (k.0, k.1, (c.in-Some.ensures.leads (pos x) (pos y) k.0 k.1 inside).0 k.2)),
        (λ h. led.1 (h.0, h.1, (c.in-Some.ensures.leads (pos x) (pos y) h.0 h.1 inside).1 h.2)),
      );
}

pub returns-in-None : goal.returns-in-None
returns-in-None c = record {
  within = search rules;
  passes = λ x y low high. let inside = pixel_inside (size_of c.args.size) x y low high in (
    (λ h. absurd h),
    (λ h. (c.in-None.ensures.leads (pos x) (pos y) h.0 h.1 inside).1 h.2),
  );
}
