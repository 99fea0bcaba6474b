use Rattle.std.proofs.Common.{refl, rules}
use Rattle.pointwise_ir.specs.Trees.{tree_of}
use Rattle.dk_inline.specs.Folded.{HasFoldedParts}
use Rattle.dk_inline.proofs.Replacements.{still_typed, worth_stands, stands_on, shifted_stands, unary_stands, binary_stands, select_stands, convert_stands, scale_stands}
use Rattle.dk_inline.proofs.FoldResults.{constant_fold, same_fold}
use Rattle.dk_inline.proofs.fold.+fold.Goals as goal

pub fold_expression-constant_of-requires : goal.fold_expression-constant_of-requires
fold_expression-constant_of-requires t c = record {
  typed = still_typed _ _ c.fold_operands.ensures.stands c.requires;
  operands = c.fold_operands.ensures.operands;
}

pub fold_expression-returns-in-Some : goal.fold_expression-returns-in-Some
fold_expression-returns-in-Some t c = record {
  stands = rw c.put.ensures (stands_on _ _ _ c.fold_operands.ensures.stands (worth_stands _ _ _ c.in-Some.ensures.found));
  folded = rw c.put.ensures (λ part is closed. (_, _, is));
  fold = rw c.put.ensures (constant_fold _ _ _ _ c.fold_operands.ensures.folds c.in-Some.ensures.found);
}

pub fold_operands-returns-in-Shifted : goal.fold_operands-returns-in-Shifted
fold_operands-returns-in-Shifted t c = record {
  stands = rw c.in-Shifted.is (shifted_stands c.in-Shifted.field-0 c.in-Shifted.field-1 c.in-Shifted.field-2 _ _ (rw c.deref_mut.ensures.value at c.fold_expression.ensures.stands));
  operands = c.fold_expression.ensures.folded;
  folds = rw c.in-Shifted.is (_, refl, rw c.deref_mut.ensures.value at c.fold_expression.ensures.fold);
}

pub fold_operands-returns-in-Unary : goal.fold_operands-returns-in-Unary
fold_operands-returns-in-Unary t c = record {
  stands = rw c.in-Unary.is (unary_stands c.in-Unary.field-0 _ _ (rw c.deref_mut-in-Unary.ensures.value at c.fold_expression-in-Unary.ensures.stands));
  operands = c.fold_expression-in-Unary.ensures.folded;
  folds = rw c.in-Unary.is (_, refl, rw c.deref_mut-in-Unary.ensures.value at c.fold_expression-in-Unary.ensures.fold);
}

pub fold_operands-returns-in-Binary : goal.fold_operands-returns-in-Binary
fold_operands-returns-in-Binary t c = record {
  stands = rw c.in-Binary.is (binary_stands c.in-Binary.field-0 _ _ _ _ (rw c.deref_mut-in-Binary.ensures.value at c.fold_expression-in-Binary.ensures.stands)
      (rw c.deref_mut-in-Binary-2.ensures.value at c.fold_expression-in-Binary-2.ensures.stands));
  operands = (c.fold_expression-in-Binary.ensures.folded, c.fold_expression-in-Binary-2.ensures.folded);
  folds = rw c.in-Binary.is (_, _, refl, rw c.deref_mut-in-Binary.ensures.value at c.fold_expression-in-Binary.ensures.fold, rw c.deref_mut-in-Binary-2.ensures.value at c.fold_expression-in-Binary-2.ensures.fold);
}

pub fold_operands-returns-in-Select : goal.fold_operands-returns-in-Select
fold_operands-returns-in-Select t c = record {
  stands = rw c.in-Select.is (select_stands _ _ _ _ _ _ (rw c.deref_mut-in-Select.ensures.value at c.fold_expression-in-Select.ensures.stands)
      (rw c.deref_mut-in-Select-2.ensures.value at c.fold_expression-in-Select-2.ensures.stands)
      (rw c.deref_mut-in-Select-3.ensures.value at c.fold_expression-in-Select-3.ensures.stands));
  operands = (c.fold_expression-in-Select.ensures.folded, c.fold_expression-in-Select-2.ensures.folded, c.fold_expression-in-Select-3.ensures.folded);
  folds = rw c.in-Select.is (
    _,
    _,
    _,
    refl,
    rw c.deref_mut-in-Select.ensures.value at c.fold_expression-in-Select.ensures.fold,
    rw c.deref_mut-in-Select-2.ensures.value at c.fold_expression-in-Select-2.ensures.fold,
    rw c.deref_mut-in-Select-3.ensures.value at c.fold_expression-in-Select-3.ensures.fold,
  );
}

pub fold_operands-returns-in-Convert : goal.fold_operands-returns-in-Convert
fold_operands-returns-in-Convert t c = record {
  stands = rw c.in-Convert.is (convert_stands c.in-Convert.field-0 _ _ c.in-Convert.field-2 (rw c.deref_mut-in-Convert.ensures.value at c.fold_expression-in-Convert.ensures.stands));
  operands = c.fold_expression-in-Convert.ensures.folded;
  folds = rw c.in-Convert.is (_, refl, rw c.deref_mut-in-Convert.ensures.value at c.fold_expression-in-Convert.ensures.fold);
}

pub fold_operands-returns-in-Scale : goal.fold_operands-returns-in-Scale
fold_operands-returns-in-Scale t c = record {
  stands = rw c.in-Scale.is (scale_stands c.in-Scale.field-0 _ _ c.in-Scale.field-2 (rw c.deref_mut-in-Scale.ensures.value at c.fold_expression-in-Scale.ensures.stands));
  operands = c.fold_expression-in-Scale.ensures.folded;
  folds = rw c.in-Scale.is (_, refl, rw c.deref_mut-in-Scale.ensures.value at c.fold_expression-in-Scale.ensures.fold);
}

pub fold_expression-returns-in_default : goal.fold_expression-returns-in_default
fold_expression-returns-in_default t c = record {
  stands = search rules;
  folded = search rules;
  fold = let folded : HasFoldedParts (tree_of c.fold_operands.new.e) = search rules in
      same_fold _ _ c.requires c.fold_operands.ensures.folds folded;
}
