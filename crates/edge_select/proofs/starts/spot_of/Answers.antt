use Rattle.std.proofs.Common.{ℕ, ◌%◌, ◌/◌, ap, sym, ◌∙◌, rules}
use Rattle.dk_base.specs.FrameSizes.{size_of}
use Rattle.edge_select.proofs.Shifts.{column_is, row_is}
use Rattle.edge_select.proofs.starts.spot_of.Goals as goal

pub returns : goal.returns
returns c = record {
  column = ap (λ (w : ℕ). c.args.pixel % w) c.from-width.ensures ∙ sym (column_is (size_of c.args.size) c.args.size.sides.some_columns c.args.size.sides.some_rows c.args.pixel);
  row = ap (λ (w : ℕ). c.args.pixel / w % c.from-height.result) c.from-width.ensures ∙ ap (λ (h : ℕ). c.args.pixel / c.args.size.width % h) c.from-height.ensures
      ∙ sym (row_is (size_of c.args.size) c.args.size.sides.some_columns c.args.size.sides.some_rows c.args.pixel);
  in_row = search rules;
  in_column = search rules;
}
