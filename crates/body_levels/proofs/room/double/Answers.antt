use Rattle.body_levels.proofs.room.double.Goals as goal

pub returns : goal.returns
returns c = λ s t is is_other. c.beside.ensures _ _ (c.under.ensures s is) (c.under-2.ensures t is_other)
