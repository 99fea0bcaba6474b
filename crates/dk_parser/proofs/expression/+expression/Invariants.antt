use Rattle.std.proofs.Common.{◌+◌, length, ◌*◌}
use Rattle.dk_parser.proofs.Resumes.{Going}
use Rattle.dk_parser.proofs.expression.+expression.Given as goal

abbrev pub decreases-inside_of : goal.decreases-inside_of
decreases-inside_of l = 16 * length l.tokens.now + 15

abbrev pub decreases-bracket_of : goal.decreases-bracket_of
decreases-bracket_of l = 16 * length l.tokens.now + 14

abbrev pub decreases-pair_of : goal.decreases-pair_of
decreases-pair_of l = 16 * length l.tokens.now + 14

abbrev pub decreases-absolute_of : goal.decreases-absolute_of
decreases-absolute_of l = 16 * length l.tokens.now + 14

abbrev pub decreases-saturate_of : goal.decreases-saturate_of
decreases-saturate_of l = 16 * length l.tokens.now + 14

abbrev pub decreases-choice_of : goal.decreases-choice_of
decreases-choice_of l = 16 * length l.tokens.now + 14

abbrev pub decreases-closed_by : goal.decreases-closed_by
decreases-closed_by l = 16 * length l.tokens.now + 13

abbrev pub decreases-comparison_of : goal.decreases-comparison_of
decreases-comparison_of l = 16 * length l.tokens.now + 12

abbrev pub decreases-level_of : goal.decreases-level_of
decreases-level_of l = 16 * length l.tokens.now + l.precedence + 2

abbrev pub decreases-primary_of : goal.decreases-primary_of
decreases-primary_of l = 16 * length l.tokens.now

abbrev pub decreases-steps_of : goal.decreases-steps_of
decreases-steps_of l = 16 * length l.tokens.now + 1

abbrev pub decreases-unary_of : goal.decreases-unary_of
decreases-unary_of l = 16 * length l.tokens.now + 1

abbrev pub invariant-steps_of-steps : goal.invariant-steps_of-steps
invariant-steps_of-steps l = Going l.precedence l.fn.first l.fn.tokens l.left l.rest

abbrev pub decreases-steps_of-steps : goal.decreases-steps_of-steps
decreases-steps_of-steps l = length l.rest
