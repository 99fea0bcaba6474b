use Rattle.std.proofs.Common.{◌≡◌, ◌≤◌, ◌*◌, take}
use Rattle.std.specs.List.{sum, flat_map}
use Rattle.dk_base.specs.declared.TheConstants.{MAX_MAXVAL, MAX_SIDE}
use Rattle.made_program.specs.Sums.{samples_of_round}
use Rattle.made_program.proofs.sums.sum_of_rounds.Given as goal

abbrev pub invariant-loop-round : goal.invariant-loop-round
invariant-loop-round l = record {
  total : l.total ≡ sum (flat_map samples_of_round (take l.round-index l.rounds));
  most : l.total ≤ l.round-index * (MAX_SIDE * MAX_SIDE * MAX_MAXVAL);
}
