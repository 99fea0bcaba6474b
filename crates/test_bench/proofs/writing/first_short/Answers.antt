use Rattle.std.proofs.Common.{refl, arith, get_or}
use Rattle.std.proofs.lemmas.Option.{slice_get-get_or, slice_get_within}
use Rattle.test_bench.proofs.Written.{enough_more}
use Rattle.test_bench.proofs.writing.first_short.Goals as goal

pub returns-then-not-is_enough : goal.returns-then-not-is_enough
returns-then-not-is_enough c = record {
  output = c.loop-k.k;
  kept = get_or c.args.pictures.now c.loop-k.k c.index-pictures-k.result;
  at = slice_get-get_or c.args.pictures.now c.loop-k.k c.index-pictures-k.result c.loop-k-test.true;
  wrong = c.if-not-is_enough.ensures;
  before = c.loop-k.invariant;
  shown_is = refl;
}

pub loop-k-preserved : goal.loop-k-preserved
loop-k-preserved c = enough_more c.args.pictures.now c.args.asked c.loop-k.k c.index-pictures-k.result c.loop-k.invariant c.loop-k-test.true c.if-not-is_enough.ensures

pub returns : goal.returns
returns c = λ k kept at. let l = slice_get_within c.args.pictures.now k kept at in c.loop-k.invariant k (omega (arith, l, c.loop-k-test.false)) kept at
