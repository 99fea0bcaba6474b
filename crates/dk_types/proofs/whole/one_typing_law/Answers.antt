use Rattle.dk_types.proofs.Programs.{one_type, one_fault, never_both}
use Rattle.dk_types.proofs.Total.{program}
use Rattle.dk_types.proofs.whole.one_typing_law.Goals as goal

pub returns : goal.returns
returns c = record { typing = one_type; fault = one_fault; either = never_both; some = program }
