use Rattle.file_verdicts.proofs.Rasters.{are_bytes}
use Rattle.file_verdicts.proofs.ImageFiles.{file_judged}
use Rattle.file_verdicts.proofs.images.every_image_file_law.Goals as goal

pub returns : goal.returns
returns c = record { some = λ ports some bytes all. file_judged ports bytes (are_bytes bytes all) some }
