-- The images that are written, as the code has them.
use Rattle.dk_base.specs.FrameSizes.{size_of}
use Rattle.row_stream.specs.declared.line.OutputFormat.{OutputFormat}
use Rattle.row_stream.specs.Lines.{Kind}

abbrev pub kind_of : OutputFormat → Kind
kind_of format = record { size = size_of format.size; maxval = format.maxval }
