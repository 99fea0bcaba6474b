use Rattle.row_stream.proofs.Taken.{samples, is_image, sample_is}
use Rattle.row_stream.proofs.laws.lines_are_images_law.Goals as goal

pub returns : goal.returns
returns c header head raster reads exact are = (samples header raster are, is_image header head raster reads exact are, sample_is header raster are)
