use Rattle.dk_words.proofs.FileWords.{compile_reads, compile_reads_after, enable_first_reads, enable_last_reads, run_reads, run_reads_after, eval_reads, eval_reads_after, explain_reads, explain_reads_after, nets_reads, nets_reads_after, nets_enable_reads, narrow_reads, narrow_reads_after, check_reads, check_reads_after, plan_reads, plan_reads_after}
use Rattle.dk_words.proofs.DecimalWords.{compile_age_first, compile_age_last, compile_block_first, compile_block_last, compile_both_first, compile_both_last, cut_after, cut_alone, make_after, make_alone, nets_age, nets_block, plan_age_first, plan_age_last, run_age_first, run_age_last, sim_after, sim_alone, sim_hold, sim_ones, sim_ones_hold, trace_after, trace_alone, widen_after, widen_alone}
use Rattle.dk_words.proofs.commands_read_their_words_law.Goals as goal

pub returns-clause-run : goal.returns-clause-run
returns-clause-run c = λ name p i o ep ei eo. run_reads p i o ep ei eo name

pub returns-clause-run_after_dashes : goal.returns-clause-run_after_dashes
returns-clause-run_after_dashes c = run_reads_after

pub returns-clause-eval : goal.returns-clause-eval
returns-clause-eval c = λ name p i o ep ei eo. eval_reads p i o ep ei eo name

pub returns-clause-eval_after_dashes : goal.returns-clause-eval_after_dashes
returns-clause-eval_after_dashes c = eval_reads_after

pub returns-clause-check : goal.returns-clause-check
returns-clause-check c = check_reads

pub returns-clause-check_after_dashes : goal.returns-clause-check_after_dashes
returns-clause-check_after_dashes c = check_reads_after

pub returns-clause-plan : goal.returns-clause-plan
returns-clause-plan c = plan_reads

pub returns-clause-plan_after_dashes : goal.returns-clause-plan_after_dashes
returns-clause-plan_after_dashes c = plan_reads_after

pub returns-clause-plan_age_first : goal.returns-clause-plan_age_first
returns-clause-plan_age_first c = λ name p z age low ep. plan_age_first name p z age low ep

pub returns-clause-plan_age_last : goal.returns-clause-plan_age_last
returns-clause-plan_age_last c = λ name p z age low ep. plan_age_last name p z age low ep

pub returns-clause-sim : goal.returns-clause-sim
returns-clause-sim c = λ name v i o z n few ev ei eo. sim_alone name v i o z n few ev ei eo

pub returns-clause-sim_after_dashes : goal.returns-clause-sim_after_dashes
returns-clause-sim_after_dashes c = λ name v i o z n few. sim_after name v i o z n few

pub returns-clause-sim_ones : goal.returns-clause-sim_ones
returns-clause-sim_ones c = λ name v i o z n few ev ei eo. sim_ones name v i o z n few ev ei eo

pub returns-clause-sim_hold : goal.returns-clause-sim_hold
returns-clause-sim_hold c = λ name v i o z n y k few low high ev ei eo. sim_hold name v i o z n few ev ei eo y k low high

pub returns-clause-sim_ones_hold : goal.returns-clause-sim_ones_hold
returns-clause-sim_ones_hold c = λ name v i o z n y k few low high ev ei eo. sim_ones_hold name v i o z n few ev ei eo y k low high

pub returns-clause-run_age_first : goal.returns-clause-run_age_first
returns-clause-run_age_first c = λ name p i o z age low ep ei eo. run_age_first name p i o z age low ep ei eo

pub returns-clause-run_age_last : goal.returns-clause-run_age_last
returns-clause-run_age_last c = λ name p i o z age low ep ei eo. run_age_last name p i o z age low ep ei eo

pub returns-clause-compile : goal.returns-clause-compile
returns-clause-compile c = λ name p o ep eo. compile_reads p o ep eo name

pub returns-clause-compile_after_dashes : goal.returns-clause-compile_after_dashes
returns-clause-compile_after_dashes c = compile_reads_after

pub returns-clause-compile_enable_first : goal.returns-clause-compile_enable_first
returns-clause-compile_enable_first c = λ name p o ep eo. enable_first_reads p o ep eo name

pub returns-clause-compile_enable_last : goal.returns-clause-compile_enable_last
returns-clause-compile_enable_last c = λ name p o ep eo. enable_last_reads p o ep eo name

pub returns-clause-compile_age_first : goal.returns-clause-compile_age_first
returns-clause-compile_age_first c = λ name p o z age low ep eo. compile_age_first name p o z age low ep eo

pub returns-clause-compile_age_last : goal.returns-clause-compile_age_last
returns-clause-compile_age_last c = λ name p o z age low ep eo. compile_age_last name p o z age low ep eo

pub returns-clause-compile_enable_age_first : goal.returns-clause-compile_enable_age_first
returns-clause-compile_enable_age_first c = λ name p o z age low ep eo. compile_both_first name p o z age low ep eo

pub returns-clause-compile_enable_age_last : goal.returns-clause-compile_enable_age_last
returns-clause-compile_enable_age_last c = λ name p o z age low ep eo. compile_both_last name p o z age low ep eo

pub returns-clause-trace : goal.returns-clause-trace
returns-clause-trace c = λ name v i o z n few ev ei eo. trace_alone name v i o z n few ev ei eo

pub returns-clause-trace_after_dashes : goal.returns-clause-trace_after_dashes
returns-clause-trace_after_dashes c = λ name v i o z n few. trace_after name v i o z n few

pub returns-clause-make : goal.returns-clause-make
returns-clause-make c = make_alone

pub returns-clause-make_after_dashes : goal.returns-clause-make_after_dashes
returns-clause-make_after_dashes c = make_after

pub returns-clause-cut : goal.returns-clause-cut
returns-clause-cut c = λ name p o z n low high ep eo. cut_alone name p o z n low high ep eo

pub returns-clause-cut_after_dashes : goal.returns-clause-cut_after_dashes
returns-clause-cut_after_dashes c = λ name p o z n low high. cut_after name p o z n low high

pub returns-clause-narrow : goal.returns-clause-narrow
returns-clause-narrow c = narrow_reads

pub returns-clause-narrow_after_dashes : goal.returns-clause-narrow_after_dashes
returns-clause-narrow_after_dashes c = narrow_reads_after

pub returns-clause-explain : goal.returns-clause-explain
returns-clause-explain c = explain_reads

pub returns-clause-explain_after_dashes : goal.returns-clause-explain_after_dashes
returns-clause-explain_after_dashes c = explain_reads_after

pub returns-clause-nets : goal.returns-clause-nets
returns-clause-nets c = λ name p ep. nets_reads p ep name

pub returns-clause-nets_after_dashes : goal.returns-clause-nets_after_dashes
returns-clause-nets_after_dashes c = nets_reads_after

pub returns-clause-nets_enable_first : goal.returns-clause-nets_enable_first
returns-clause-nets_enable_first c = λ name p ep. nets_enable_reads p ep name

pub returns-clause-nets_age_first : goal.returns-clause-nets_age_first
returns-clause-nets_age_first c = λ name p z age low ep. nets_age name p ep z age low

pub returns-clause-nets_block_first : goal.returns-clause-nets_block_first
returns-clause-nets_block_first c = λ name p z block low high ep. nets_block name p ep z block low high

pub returns-clause-widen : goal.returns-clause-widen
returns-clause-widen c = λ name p o z n low high ep eo. widen_alone name p o z n low high ep eo

pub returns-clause-widen_after_dashes : goal.returns-clause-widen_after_dashes
returns-clause-widen_after_dashes c = λ name p o z n low high. widen_after name p o z n low high

pub returns-clause-compile_block_first : goal.returns-clause-compile_block_first
returns-clause-compile_block_first c = λ name p o z block low high ep eo. compile_block_first name p o z block low high ep eo

pub returns-clause-compile_block_last : goal.returns-clause-compile_block_last
returns-clause-compile_block_last c = λ name p o z block low high ep eo. compile_block_last name p o z block low high ep eo
