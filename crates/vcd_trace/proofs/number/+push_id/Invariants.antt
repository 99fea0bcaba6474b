use Rattle.vcd_trace.proofs.number.+push_id.Given as goal

abbrev pub decreases-push_id : goal.decreases-push_id
decreases-push_id l = l.place
