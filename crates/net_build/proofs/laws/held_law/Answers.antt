use Rattle.net_build.proofs.Standing.{held_same}
use Rattle.net_build.proofs.laws.held_law.Goals as goal

pub returns : goal.returns
returns c m copies still n from before d s clock same ready held next goes = held_same m n copies from before d s next still clock same ready held goes
