use Rattle.std.proofs.Common.{rules}
use Rattle.made_program.proofs.Drawing.{image_draws}
use Rattle.made_program.proofs.draws.draw_image.Goals as goal

pub returns-clause-draws : goal.returns-clause-draws
returns-clause-draws c = search (rules, image_draws)
