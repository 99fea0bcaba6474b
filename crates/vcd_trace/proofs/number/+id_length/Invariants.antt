use Rattle.vcd_trace.proofs.number.+id_length.Given as goal

abbrev pub decreases-id_length : goal.decreases-id_length
decreases-id_length l = l.place
