use Rattle.dk_inline.proofs.Replacements.{if_none, unary_folds, binary_folds, select_folds, convert_folds, scale_folds}
use Rattle.dk_inline.proofs.fold.constant_of.Goals as goal

pub returns-in-Unary : goal.returns-in-Unary
returns-in-Unary c = record {
  found = rw c.in-Unary.is (rw c.deref.ensures at c.unary_constant.ensures.found);
  none = rw c.in-Unary.is (if_none c.unary_constant.result (unary_folds c.in-Unary.op _ (rw c.in-Unary.is at c.requires.operands)) (rw c.deref.ensures at c.unary_constant.ensures.none));
}

pub returns-in-Binary : goal.returns-in-Binary
returns-in-Binary c = record {
  found = rw c.in-Binary.is (rw (c.deref-in-Binary.ensures, c.deref-in-Binary-2.ensures) at c.binary_constant.ensures.found);
  none = let operands = rw c.in-Binary.is at c.requires.operands in
      rw c.in-Binary.is (if_none c.binary_constant.result (binary_folds c.in-Binary.op _ _ operands.0 operands.1)
      (rw (c.deref-in-Binary.ensures, c.deref-in-Binary-2.ensures) at c.binary_constant.ensures.none));
}

pub returns-in-Select : goal.returns-in-Select
returns-in-Select c = record {
  found = rw c.in-Select.is (rw (c.deref-in-Select.ensures, c.deref-in-Select-2.ensures, c.deref-in-Select-3.ensures) at c.select_constant.ensures.found);
  none = let operands = rw c.in-Select.is at c.requires.operands in
      rw c.in-Select.is (if_none c.select_constant.result (select_folds _ _ _ operands.0 operands.1 operands.2)
      (rw (c.deref-in-Select.ensures, c.deref-in-Select-2.ensures, c.deref-in-Select-3.ensures) at c.select_constant.ensures.none));
}

pub returns-in-Convert : goal.returns-in-Convert
returns-in-Convert c = record {
  found = rw c.in-Convert.is (rw c.deref-in-Convert.ensures at c.converted_constant.ensures.found);
  none = rw c.in-Convert.is (if_none c.converted_constant.result (convert_folds c.in-Convert.how _ c.in-Convert.ty (rw c.in-Convert.is at c.requires.operands))
      (rw c.deref-in-Convert.ensures at c.converted_constant.ensures.none));
}

pub returns-in-Scale : goal.returns-in-Scale
returns-in-Scale c = record {
  found = rw c.in-Scale.is (rw c.deref-in-Scale.ensures at c.scaled_constant.ensures.found);
  none = rw c.in-Scale.is (if_none c.scaled_constant.result (scale_folds c.in-Scale.op _ c.in-Scale.by (rw c.in-Scale.is at c.requires.operands))
      (rw c.deref-in-Scale.ensures at c.scaled_constant.ensures.none));
}
