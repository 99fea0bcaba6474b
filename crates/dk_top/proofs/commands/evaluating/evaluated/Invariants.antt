use Rattle.std.proofs.Common.{◌≡◌, take}
use Rattle.std.specs.List.{flat_map}
use Rattle.pointwise_ir.specs.Programs.{types_of}
use Rattle.pointwise_ir.specs.Meaning.{pictures}
use Rattle.pointwise_eval.specs.Rounds.{round_of}
use Rattle.pgm_codec.specs.Images.{file_of}
use Rattle.pgm_rounds.specs.declared.round.Round.{Round}
use Rattle.program_images.specs.Outputs.{output_images}
use Rattle.dk_top.proofs.commands.evaluating.evaluated.Given as goal

abbrev pub invariant-loop-round : goal.invariant-loop-round
invariant-loop-round l =
    let ir = l.given.ir in
    l.file.items ≡ flat_map (λ (r : Round). file_of (output_images ir.size (types_of ir) ir.outputs (pictures ir (round_of ir.size r.frames.items)))) (take l.round-index l.given.rounds.items)
