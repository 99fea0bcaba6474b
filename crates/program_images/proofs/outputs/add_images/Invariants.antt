use Rattle.std.proofs.Common.{◌≡◌, ◌++◌, take}
use Rattle.pgm_codec.specs.Images.{file_of}
use Rattle.pointwise_ir.specs.Programs.{types_of}
use Rattle.program_images.specs.Writing.{images_with}
use Rattle.program_images.proofs.outputs.add_images.Given as goal

abbrev pub invariant-loop-k : goal.invariant-loop-k
invariant-loop-k l = l.file.items ≡ l.initial.file.items ++ file_of (images_with (types_of l.ir) (take l.k l.ir.outputs) (take l.k l.frames))
