-- The size that a `FrameSize` keeps.
use Rattle.dk_base.specs.declared.frame.FrameSize.{FrameSize}
use Rattle.dk_base.specs.Frames.{Size}

abbrev pub size_of : FrameSize → Size
size_of frame = record { width = frame.width; height = frame.height }
