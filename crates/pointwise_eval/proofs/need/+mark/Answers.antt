use Rattle.std.proofs.Common.{◌∙◌}
use Rattle.pointwise_ir.specs.Trees.{tree_of}
use Rattle.pointwise_ir.proofs.Agreement.{each_weaker}
use Rattle.pointwise_eval.specs.Needs.{IsNeeded}
use Rattle.pointwise_eval.proofs.need.+mark.Goals as goal

pub returns-in-Shifted : goal.returns-in-Shifted
returns-in-Shifted t c = record {
  reads = rw c.in-Shifted.is (rw c.deref.ensures at c.mark.ensures.reads);
  kept = c.mark.ensures.kept;
  others = λ n each g past. c.mark.ensures.others n (rw c.deref.ensures (rw c.in-Shifted.is at each)) g past;
}

pub returns-in-Unary : goal.returns-in-Unary
returns-in-Unary t c = record {
  reads = rw c.in-Unary.is (rw c.deref-in-Unary.ensures at c.mark-in-Unary.ensures.reads);
  kept = c.mark-in-Unary.ensures.kept;
  others = λ n each g past. c.mark-in-Unary.ensures.others n (rw c.deref-in-Unary.ensures (rw c.in-Unary.is at each)) g past;
}

pub returns-in-Convert : goal.returns-in-Convert
returns-in-Convert t c = record {
  reads = rw c.in-Convert.is (rw c.deref-in-Convert.ensures at c.mark-in-Convert.ensures.reads);
  kept = c.mark-in-Convert.ensures.kept;
  others = λ n each g past. c.mark-in-Convert.ensures.others n (rw c.deref-in-Convert.ensures (rw c.in-Convert.is at each)) g past;
}

pub returns-in-Scale : goal.returns-in-Scale
returns-in-Scale t c = record {
  reads = rw c.in-Scale.is (rw c.deref-in-Scale.ensures at c.mark-in-Scale.ensures.reads);
  kept = c.mark-in-Scale.ensures.kept;
  others = λ n each g past. c.mark-in-Scale.ensures.others n (rw c.deref-in-Scale.ensures (rw c.in-Scale.is at each)) g past;
}

pub returns-in-Binary : goal.returns-in-Binary
returns-in-Binary t c = record {
  reads = let left = rw c.deref-in-Binary.ensures at c.mark-in-Binary.ensures.reads in
      let right = rw c.deref-in-Binary-2.ensures at c.mark-in-Binary-2.ensures.reads in
      rw c.in-Binary.is (each_weaker (IsNeeded c.mark-in-Binary.new.until c.args.behind) (IsNeeded c.mark-in-Binary-2.new.until c.args.behind) (c.mark-in-Binary-2.ensures.kept c.args.behind) (tree_of c.in-Binary.left.value) left, right);
  kept = λ n g is. c.mark-in-Binary-2.ensures.kept n g (c.mark-in-Binary.ensures.kept n g is);
  others = λ n each g past.
      let parts = rw c.in-Binary.is at each in
      c.mark-in-Binary-2.ensures.others n (rw c.deref-in-Binary-2.ensures parts.1) g past ∙ c.mark-in-Binary.ensures.others n (rw c.deref-in-Binary.ensures parts.0) g past;
}

pub returns-in-Select : goal.returns-in-Select
returns-in-Select t c = record {
  reads = let condition = rw c.deref-in-Select.ensures at c.mark-in-Select.ensures.reads in
      let left = rw c.deref-in-Select-2.ensures at c.mark-in-Select-2.ensures.reads in
      let right = rw c.deref-in-Select-3.ensures at c.mark-in-Select-3.ensures.reads in
      rw c.in-Select.is (
        each_weaker (IsNeeded c.mark-in-Select.new.until c.args.behind) (IsNeeded c.mark-in-Select-3.new.until c.args.behind) (λ g h. c.mark-in-Select-3.ensures.kept c.args.behind g (c.mark-in-Select-2.ensures.kept c.args.behind g h)) (tree_of c.in-Select.condition.value) condition,
        each_weaker (IsNeeded c.mark-in-Select-2.new.until c.args.behind) (IsNeeded c.mark-in-Select-3.new.until c.args.behind) (c.mark-in-Select-3.ensures.kept c.args.behind) (tree_of c.in-Select.left.value) left,
        right,
      );
  kept = λ n g is. c.mark-in-Select-3.ensures.kept n g (c.mark-in-Select-2.ensures.kept n g (c.mark-in-Select.ensures.kept n g is));
  others = λ n each g past.
      let parts = rw c.in-Select.is at each in
      c.mark-in-Select-3.ensures.others n (rw c.deref-in-Select-3.ensures parts.2) g past
      ∙ c.mark-in-Select-2.ensures.others n (rw c.deref-in-Select-2.ensures parts.1) g past
      ∙ c.mark-in-Select.ensures.others n (rw c.deref-in-Select.ensures parts.0) g past;
}
