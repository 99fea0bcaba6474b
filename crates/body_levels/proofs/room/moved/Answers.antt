use Rattle.body_levels.proofs.room.moved.Goals as goal

pub returns : goal.returns
returns c = λ s is. c.beside.ensures _ _ c.uncut.ensures (c.under.ensures s is)
