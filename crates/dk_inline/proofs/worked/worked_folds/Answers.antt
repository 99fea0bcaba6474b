use Rattle.dk_inline.proofs.WorkedFolds.{sum, product, moved, first, second, choice, saturated, cast, divided, left, right}
use Rattle.dk_inline.proofs.worked.worked_folds.Goals as goal

pub returns : goal.returns
returns c = record {
  sum = sum;
  product_with_zero = product;
  moved_sum = moved;
  chosen_first = first;
  chosen_second = second;
  choice_of_a_pixel = choice;
  saturated = saturated;
  cast = cast;
  divided = divided;
  shifted_left = left;
  shifted_right = right;
}
