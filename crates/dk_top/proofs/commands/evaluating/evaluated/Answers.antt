use Rattle.std.proofs.Common.{ap, arith, ◌∙◌}
use Rattle.std.specs.List.{flat_map}
use Rattle.std.proofs.lemmas.List.{take_all}
use Rattle.pointwise_ir.specs.Programs.{types_of}
use Rattle.pointwise_ir.specs.Meaning.{pictures}
use Rattle.pointwise_eval.specs.Rounds.{round_of}
use Rattle.pgm_codec.specs.Images.{file_of}
use Rattle.pgm_rounds.specs.declared.round.Round.{Round}
use Rattle.program_images.specs.Outputs.{output_images}
use Rattle.dk_top.proofs.CommandLemmas.{evaluated_pair}
use Rattle.dk_top.proofs.commands.evaluating.evaluated.Goals as goal

pub returns : goal.returns
returns c =
    let ir = c.args.given.now.ir in
    let rounds = c.args.given.now.rounds.items in
    record {
      output = evaluated_pair ir rounds _ c.law.ensures c.requires.frames
          (c.loop-round.invariant ∙ ap (flat_map (λ (r : Round). file_of (output_images ir.size (types_of ir) ir.outputs (pictures ir (round_of ir.size r.frames.items))))) (take_all c.loop-round.round-index rounds (omega arith)));
    }
