use Rattle.std.proofs.Common.{◌≡◌, ◌∙◌, ◌*◌, ap, ◌++◌, length, map, mul_comm, arith, rules}
use Rattle.std.proofs.lemmas.List.{map-append}
use Rattle.dk_base.specs.Frames.{area}
use Rattle.dk_base.specs.FrameSizes.{size_of}
use Rattle.pointwise_ir.specs.Trees.{tree_of}
use Rattle.pointwise_ir.specs.Meaning.{value}
use Rattle.pointwise_eval.specs.Planes.{all_shown}
use Rattle.pointwise_eval.proofs.Shown.{longer, row_more, shown_is}
use Rattle.pointwise_eval.proofs.rows.elements_of_rows.Goals as goal

pub loop-y-preserved : goal.loop-y-preserved
loop-y-preserved g c =
    let size = size_of c.args.size in
    let grown : c.extend_from_slice.new.self.items ≡ c.loop-y.elements.items ++ c.element_row.new.to = search rules in
    let more : map g.T.Element.worth c.extend_from_slice.new.self.items ≡ map g.T.Element.worth c.loop-y.elements.items ++ map g.T.Element.worth c.element_row.new.to = ap (map g.T.Element.worth) grown ∙ map-append g.T.Element.worth c.loop-y.elements.items c.element_row.new.to in
    let row : length (map g.T.Element.worth c.element_row.new.to) ≡ c.args.size.width = c.element_row.ensures.whole in
    let before : length (map g.T.Element.worth c.loop-y.elements.items) ≡ c.loop-y.y * c.args.size.width = c.loop-y.invariant.count in
    record {
      scratch = search rules;
      part = search rules;
      count = ap length more ∙ longer (map g.T.Element.worth c.loop-y.elements.items) (map g.T.Element.worth c.element_row.new.to) c.loop-y.y c.args.size.width before row;
      samples = rw more (row_more size (value size (all_shown size c.args.planes.now) (tree_of c.args.e.now)) (map g.T.Element.worth c.loop-y.elements.items) (map g.T.Element.worth c.element_row.new.to) c.loop-y.y before c.element_row.ensures c.loop-y.invariant.samples);
    }

pub returns : goal.returns
returns g c =
    let size = size_of c.args.size in
    let rows : c.loop-y.y ≡ c.args.size.height = omega (arith, c.loop-y.auto.y-end, c.loop-y-test.false) in
    let whole : length (map g.T.Element.worth c.loop-y.elements.items) ≡ area size = c.loop-y.invariant.count ∙ ap (λ n. n * c.args.size.width) rows ∙ mul_comm c.args.size.height c.args.size.width in
    record { whole = whole; shown = shown_is size (value size (all_shown size c.args.planes.now) (tree_of c.args.e.now)) (map g.T.Element.worth c.loop-y.elements.items) whole c.loop-y.invariant.samples }
