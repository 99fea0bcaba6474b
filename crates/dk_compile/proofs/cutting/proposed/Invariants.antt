use Rattle.dk_compile.proofs.cutting.proposed.Given as goal

-- nothing but what holds before it
abbrev pub invariant-loop : goal.invariant-loop
invariant-loop l = Unit {0}
