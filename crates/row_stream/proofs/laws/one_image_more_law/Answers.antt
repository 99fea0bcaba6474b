use Rattle.row_stream.proofs.Adds.{image_more}
use Rattle.row_stream.proofs.laws.one_image_more_law.Goals as goal

pub returns : goal.returns
returns c kind m most count header all from mid to old between new before half now w h l at s = image_more kind m most count header all from mid to old between new before half now w h l at s
