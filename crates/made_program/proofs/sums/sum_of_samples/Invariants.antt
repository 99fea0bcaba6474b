use Rattle.std.proofs.Common.{◌≡◌, ◌≤◌, ◌*◌, take}
use Rattle.std.specs.List.{sum}
use Rattle.dk_base.specs.declared.TheConstants.{MAX_MAXVAL}
use Rattle.made_program.proofs.sums.sum_of_samples.Given as goal

abbrev pub invariant-loop-place : goal.invariant-loop-place
invariant-loop-place l = record {
  total : l.total ≡ sum (take l.place l.samples);
  most : l.total ≤ l.place * MAX_MAXVAL;
}
