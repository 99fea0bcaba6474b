use Rattle.std.proofs.Common.{◌≡◌, ℤ, pos, ◌+ℤ◌, subst, rules, to_z, of_z, w32}
use Rattle.std.proofs.lemmas.Int.{to_z-of_z}
use Rattle.dk_base.specs.FrameSizes.{size_of}
use Rattle.frame_paths.specs.Paths.{LeadsTo}
use Rattle.edge_select.specs.Passes.{PassesOn}
use Rattle.edge_select.proofs.Walks.{Same, led_through, pixel_inside}
use Rattle.edge_select.proofs.paths.passing_pixels.Goals as goal

pub returns-in-Some : goal.returns-in-Some
returns-in-Some c = record {
  within = search rules;
  passes = λ x y low high. let size = size_of c.args.size in
      let dx : to_z w32 (of_z w32 c.args.dx) ≡ c.args.dx = to_z-of_z w32 c.args.dx (search rules) in
      let dy : to_z w32 (of_z w32 c.args.dy) ≡ c.args.dy = to_z-of_z w32 c.args.dy (search rules) in
      let Led = λ (d e : ℤ). Same (PassesOn c.led_by.result x y) (LeadsTo c.in-Some.path (pos x) (pos y) (pos x +ℤ d) (pos y +ℤ e)) in
      let led : Led c.args.dx c.args.dy = subst (λ (d : ℤ). Led d c.args.dy) dx (subst (λ (e : ℤ). Led (to_z w32 (of_z w32 c.args.dx)) e) dy (c.led_by.ensures.passes x y)) in
      led_through led (c.in-Some.ensures.leads (pos x) (pos y) (pos x +ℤ c.args.dx) (pos y +ℤ c.args.dy) (pixel_inside size x y low high));
}

pub returns-in-None : goal.returns-in-None
returns-in-None c = record {
  within = search rules;
  passes = λ x y low high. c.in-None.ensures.leads (pos x) (pos y) (pos x +ℤ c.args.dx) (pos y +ℤ c.args.dy) (pixel_inside (size_of c.args.size) x y low high);
}
