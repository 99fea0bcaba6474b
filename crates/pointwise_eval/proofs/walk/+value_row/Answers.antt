use Rattle.std.proofs.Common.{◌≡◌, ◌∙◌, sym, subst, ℕ, ◌<◌, ◌+ℤ◌, length, map, rules, pos}
use Rattle.std.specs.Prelude.{FitsSigned}
use Rattle.std.proofs.lemmas.Int.{to_z-of_z}
use mir.Syntax.{w128}
use Rattle.dk_base.specs.Types.{IsIn}
use Rattle.dk_base.specs.Frames.{Picture, picture_at}
use Rattle.dk_base.specs.FrameSizes.{size_of}
use Rattle.dk_base.specs.Operators.{unary_value, binary_value, scaling_value, conversion_value}
use Rattle.pointwise_ir.specs.Trees.{tree_of}
use Rattle.pointwise_ir.specs.Meaning.{value}
use Rattle.value_rows.specs.Rows.{entry, beside}
use Rattle.pointwise_eval.specs.Planes.{all_shown}
use Rattle.pointwise_eval.specs.Steps.{LeadsToRow, ReadsRow}
use Rattle.pointwise_eval.proofs.Narrows.{whole_in}
use Rattle.pointwise_eval.proofs.Operands.{takes_one, takes_two, takes_scaled}
use Rattle.pointwise_eval.proofs.Lined.{one_fits, one_row, two_fit, two_rows, chosen_row}
use Rattle.pointwise_eval.proofs.Sides.{row_in, side_row}
use Rattle.pointwise_eval.proofs.Rendered.{entry_shown, whole_at, rows_at}
use Rattle.pointwise_eval.proofs.walk.+value_row.Goals as goal

pub unary_row-requires-clause-takes : goal.unary_row-requires-clause-takes
unary_row-requires-clause-takes g t c k lt =
    takes_one (size_of c.args.size) c.args.planes.now c.in-Unary.op (tree_of c.in-Unary.body.value) (rw c.in-Unary.is at c.requires.lane).can _ (pos k) (pos c.args.y) (search rules)

pub scale_row-requires-clause-takes : goal.scale_row-requires-clause-takes
scale_row-requires-clause-takes g t c k lt =
    takes_scaled (size_of c.args.size) c.args.planes.now c.in-Scale.op (tree_of c.in-Scale.body.value) c.in-Scale.by (rw c.in-Scale.is at c.requires.lane).can _ (pos k) (pos c.args.y) (search rules)

pub binary_row-requires-clause-takes : goal.binary_row-requires-clause-takes
binary_row-requires-clause-takes g t c k lt =
    takes_two (size_of c.args.size) c.args.planes.now c.in-Binary.op (tree_of c.in-Binary.left.value) (tree_of c.in-Binary.right.value) (rw c.in-Binary.is at c.requires.lane).can _ _ (pos k) (pos c.args.y) (search rules) (search rules)

pub constant_row-requires : goal.constant_row-requires
constant_row-requires g t c =
    let fits : FitsSigned w128 c.in-Constant.value = search rules in
    rw (to_z-of_z w128 c.in-Constant.value fits) ((rw c.in-Constant.is at c.requires.lane).parts (pos 0) (pos 0))

pub shift_row-requires-clause-fits : goal.shift_row-requires-clause-fits
shift_row-requires-clause-fits g t c k lt =
    let size = size_of c.args.size in
    let known = all_shown size c.args.planes.now in
    let body = tree_of c.in-Shifted.body.value in
    let parts = (rw c.in-Shifted.is at c.requires.lane).parts in
    row_in g.L.Element.worth g.L.Element.ty size (value size known body) (pos c.in-Some-row_at.there) c.value_row.new.to (rw c.deref.ensures at c.value_row.ensures) (whole_in g.L.Element.ty size known body parts.1) k lt

pub convert_row-requires-clause-values : goal.convert_row-requires-clause-values
convert_row-requires-clause-values g t c k lt =
    let size = size_of c.args.size in
    let known = all_shown size c.args.planes.now in
    let body = tree_of c.in-Convert.body.value in
    let parts = (rw c.in-Convert.is at c.requires.lane).parts in
    row_in g.L.Element.worth g.L.Element.ty size (value size known body) (pos c.args.y) c.value_row-in-Convert.new.to (rw c.deref-in-Convert.ensures at c.value_row-in-Convert.ensures) (whole_in g.L.Element.ty size known body parts.1) k lt

pub returns-in-Some : goal.returns-in-Some
returns-in-Some g t c =
    let size = size_of c.args.size in
    let reads : ReadsRow size c.in-Read.edge (picture_at (all_shown size c.args.planes.now) c.in-Read.image) c.in-Some.there c.in-Read.dx (map g.L.Element.worth c.read_plane.new.to) =
    subst (λ (p : Picture). ReadsRow size c.in-Read.edge p c.in-Some.there c.in-Read.dx (map g.L.Element.worth c.read_plane.new.to)) (sym (entry_shown size c.args.planes.now c.in-Read.image c.plane_of.result.now c.plane_of.ensures)) (search rules) in
    let some : 0 < c.args.size.width = search rules in
    let long : length c.read_plane.new.to ≡ c.args.size.width = c.read_plane.auto.to ∙ c.requires.memory.row in
    let leads : LeadsToRow c.in-Read.edge (pos c.args.y +ℤ c.in-Read.dy) c.args.size.height c.in-Some.there = search rules in
    rw c.in-Read.is (side_row g.L.Element.worth size c.in-Read.edge (picture_at (all_shown size c.args.planes.now) c.in-Read.image) c.in-Read.dx c.in-Read.dy c.args.y c.in-Some.there reads.row c.read_plane.new.to some long leads reads.is reads.placed)

pub returns-in-Some-row_at : goal.returns-in-Some-row_at
returns-in-Some-row_at g t c =
    let size = size_of c.args.size in
    let known = all_shown size c.args.planes.now in
    let row = map g.L.Element.worth c.value_row.new.to in
    let some : 0 < c.args.size.width = search rules in
    let long : length c.shift_row.new.to ≡ c.args.size.width = search rules in
    let leads : LeadsToRow c.in-Shifted.edge (pos c.args.y +ℤ c.in-Shifted.dy) c.args.size.height c.in-Some-row_at.there = search rules in
    let placed : (x : ℕ) → x < c.args.size.width → entry (map g.L.Element.worth c.shift_row.new.to) x ≡ beside c.in-Shifted.edge row (pos x +ℤ c.in-Shifted.dx) = search rules in
    rw c.in-Shifted.is (side_row g.L.Element.worth size c.in-Shifted.edge (value size known (tree_of c.in-Shifted.body.value)) c.in-Shifted.dx c.in-Shifted.dy c.args.y c.in-Some-row_at.there row c.shift_row.new.to some long leads (rw c.deref.ensures at c.value_row.ensures) placed)

pub plane_of-requires : goal.plane_of-requires
plane_of-requires g t c = (rw c.in-Read.is at c.requires.lane).rows

pub read_plane-requires-clause-rows : goal.read_plane-requires-clause-rows
read_plane-requires-clause-rows g t c = rows_at c.args.planes.now c.in-Read.image c.plane_of.result.now (rw c.in-Read.is at c.requires.lane).rows c.plane_of.ensures

pub read_plane-requires-clause-read : goal.read_plane-requires-clause-read
read_plane-requires-clause-read g t c =
    let size = size_of c.args.size in
    let plane = c.plane_of.result.now in
    let lane = rw c.in-Read.is at c.requires.lane in
    let row : LeadsToRow c.in-Read.edge (pos c.args.y +ℤ c.in-Read.dy) c.args.size.height c.in-Some.there = search rules in
    record {
      whole = whole_at size c.args.planes.now c.in-Read.image plane lane.can.whole c.plane_of.ensures;
      down = row.below;
      fits = λ x z. subst (λ (p : Picture). IsIn g.L.Element.ty (p x z)) (entry_shown size c.args.planes.now c.in-Read.image plane c.plane_of.ensures) (lane.parts.1 x z);
    }

pub unary_row-requires-clause-fits : goal.unary_row-requires-clause-fits
unary_row-requires-clause-fits g t c k lt =
    let size = size_of c.args.size in
    let known = all_shown size c.args.planes.now in
    let parts = (rw c.in-Unary.is at c.requires.lane).parts in
    one_fits g.L.Element.worth size (pos c.args.y) g.L.Element.ty (unary_value c.in-Unary.op) (value size known (tree_of c.in-Unary.body.value)) c.value_row-in-Unary.new.to (rw c.deref-in-Unary.ensures at c.value_row-in-Unary.ensures) parts.0 k lt

pub returns-in-Unary : goal.returns-in-Unary
returns-in-Unary g t c =
    let size = size_of c.args.size in
    let known = all_shown size c.args.planes.now in
    rw c.in-Unary.is (one_row g.L.Element.worth size (pos c.args.y) (unary_value c.in-Unary.op) (value size known (tree_of c.in-Unary.body.value)) c.value_row-in-Unary.new.to c.unary_row.new.to (rw c.deref-in-Unary.ensures at c.value_row-in-Unary.ensures) c.unary_row.auto.to c.unary_row.ensures)

pub convert_row-requires-clause-fits : goal.convert_row-requires-clause-fits
convert_row-requires-clause-fits g t c k lt =
    let size = size_of c.args.size in
    let known = all_shown size c.args.planes.now in
    let parts = (rw c.in-Convert.is at c.requires.lane).parts in
    one_fits g.L.Element.worth size (pos c.args.y) g.L.Element.ty (conversion_value c.in-Convert.how c.in-Convert.ty) (value size known (tree_of c.in-Convert.body.value)) c.value_row-in-Convert.new.to (rw c.deref-in-Convert.ensures at c.value_row-in-Convert.ensures) parts.0 k lt

pub returns-in-Convert : goal.returns-in-Convert
returns-in-Convert g t c =
    let size = size_of c.args.size in
    let known = all_shown size c.args.planes.now in
    rw c.in-Convert.is (one_row g.L.Element.worth size (pos c.args.y) (conversion_value c.in-Convert.how c.in-Convert.ty) (value size known (tree_of c.in-Convert.body.value)) c.value_row-in-Convert.new.to c.convert_row.new.to (rw c.deref-in-Convert.ensures at c.value_row-in-Convert.ensures) c.convert_row.auto.to c.convert_row.ensures)

pub scale_row-requires-clause-fits : goal.scale_row-requires-clause-fits
scale_row-requires-clause-fits g t c k lt =
    let size = size_of c.args.size in
    let known = all_shown size c.args.planes.now in
    let parts = (rw c.in-Scale.is at c.requires.lane).parts in
    one_fits g.L.Element.worth size (pos c.args.y) g.L.Element.ty (λ v. scaling_value c.in-Scale.op v c.in-Scale.by) (value size known (tree_of c.in-Scale.body.value)) c.value_row-in-Scale.new.to (rw c.deref-in-Scale.ensures at c.value_row-in-Scale.ensures) parts.0 k lt

pub returns-in-Scale : goal.returns-in-Scale
returns-in-Scale g t c =
    let size = size_of c.args.size in
    let known = all_shown size c.args.planes.now in
    rw c.in-Scale.is (one_row g.L.Element.worth size (pos c.args.y) (λ v. scaling_value c.in-Scale.op v c.in-Scale.by) (value size known (tree_of c.in-Scale.body.value)) c.value_row-in-Scale.new.to c.scale_row.new.to (rw c.deref-in-Scale.ensures at c.value_row-in-Scale.ensures) c.scale_row.auto.to c.scale_row.ensures)

pub binary_row-requires-clause-fits : goal.binary_row-requires-clause-fits
binary_row-requires-clause-fits g t c k lt =
    let size = size_of c.args.size in
    let known = all_shown size c.args.planes.now in
    let parts = (rw c.in-Binary.is at c.requires.lane).parts in
    two_fit g.L.Element.worth size (pos c.args.y) g.L.Element.ty (binary_value c.in-Binary.op) (value size known (tree_of c.in-Binary.left.value)) (value size known (tree_of c.in-Binary.right.value)) c.value_row-in-Binary.new.to c.value_row-in-Binary-2.new.to (rw c.deref-in-Binary.ensures at c.value_row-in-Binary.ensures) (rw c.deref-in-Binary-2.ensures at c.value_row-in-Binary-2.ensures) parts.0 k lt

pub returns-in-Binary : goal.returns-in-Binary
returns-in-Binary g t c =
    let size = size_of c.args.size in
    let known = all_shown size c.args.planes.now in
    rw c.in-Binary.is (two_rows g.L.Element.worth size (pos c.args.y) (binary_value c.in-Binary.op) (value size known (tree_of c.in-Binary.left.value)) (value size known (tree_of c.in-Binary.right.value)) c.value_row-in-Binary.new.to c.value_row-in-Binary-2.new.to c.binary_row.new.to (rw c.deref-in-Binary.ensures at c.value_row-in-Binary.ensures) (rw c.deref-in-Binary-2.ensures at c.value_row-in-Binary-2.ensures) c.binary_row.auto.to c.binary_row.ensures)

pub returns-in-Select : goal.returns-in-Select
returns-in-Select g t c =
    let size = size_of c.args.size in
    let known = all_shown size c.args.planes.now in
    rw c.in-Select.is (chosen_row g.L.Element.worth size (pos c.args.y) (value size known (tree_of c.in-Select.condition.value)) (value size known (tree_of c.in-Select.left.value)) (value size known (tree_of c.in-Select.right.value)) c.value_row-in-Select.new.to c.value_row-in-Select-2.new.to c.value_row-in-Select-3.new.to c.select_row.new.to (rw c.deref-in-Select.ensures at c.value_row-in-Select.ensures) (rw c.deref-in-Select-2.ensures at c.value_row-in-Select-2.ensures) (rw c.deref-in-Select-3.ensures at c.value_row-in-Select-3.ensures) c.select_row.auto.to c.select_row.ensures)
