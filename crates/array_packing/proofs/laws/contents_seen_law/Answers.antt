use Rattle.array_packing.proofs.Seen.{contents_seen}
use Rattle.array_packing.proofs.laws.contents_seen_law.Goals as goal

pub returns : goal.returns
returns c new old slots filled x y fit_x fit_y same = contents_seen new old slots filled x y fit_x fit_y same
