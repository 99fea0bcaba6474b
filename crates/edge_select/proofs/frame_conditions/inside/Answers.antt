use Rattle.std.proofs.Common.{◌≡◌, ℤ, pos, ◌+ℤ◌, IsTrue, subst, rules, to_z, of_z, w32}
use Rattle.std.proofs.lemmas.Int.{to_z-of_z}
use Rattle.dk_base.specs.Frames.{in_frame}
use Rattle.dk_base.specs.FrameSizes.{size_of}
use Rattle.edge_select.specs.Steps.{LeadBy}
use Rattle.edge_select.specs.Pixels.{IsTest}
use Rattle.edge_select.proofs.Walks.{one_step, one_to, one_from}
use Rattle.edge_select.proofs.Combining.{test_as}
use Rattle.edge_select.proofs.frame_conditions.inside.Goals as goal

pub returns : goal.returns
returns c = record {
  logic = c.in_ok-net.ensures.logic;
  test = let p = c.args.pixel.now in
      let size = size_of p.size in
      let dx : to_z w32 (of_z w32 c.args.dx) ≡ c.args.dx = to_z-of_z w32 c.args.dx (search rules) in
      let dy : to_z w32 (of_z w32 c.args.dy) ≡ c.args.dy = to_z-of_z w32 c.args.dy (search rules) in
      let one : IsTest c.at.new.b c.args.b.now p (LeadBy size (one_step c.args.dx c.args.dy) c.args.dx c.args.dy) c.in_ok-net.net =
      subst (λ (d : ℤ). IsTest c.at.new.b c.args.b.now p (LeadBy size (one_step d c.args.dy) d c.args.dy) c.in_ok-net.net) dx
      (subst (λ (e : ℤ). IsTest c.at.new.b c.args.b.now p (LeadBy size (one_step (to_z w32 (of_z w32 c.args.dx)) e) (to_z w32 (of_z w32 c.args.dx)) e) c.in_ok-net.net) dy c.in_ok-net.ensures.test) in
      test_as c.at.new.b c.args.b.now p (LeadBy size (one_step c.args.dx c.args.dy) c.args.dx c.args.dy) (λ x y. IsTrue (in_frame size (pos x +ℤ c.args.dx) (pos y +ℤ c.args.dy))) c.in_ok-net.net one
      (one_to size c.args.dx c.args.dy) (one_from size c.args.dx c.args.dy);
}
