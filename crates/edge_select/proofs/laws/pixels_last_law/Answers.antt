use Rattle.edge_select.proofs.Lasting.{follows_more}
use Rattle.edge_select.proofs.laws.pixels_last_law.Goals as goal

pub returns-clause-follows : goal.returns-clause-follows
returns-clause-follows c b a delay p f is = follows_more b a delay p f is
