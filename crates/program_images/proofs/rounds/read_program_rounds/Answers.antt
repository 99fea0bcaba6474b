use Rattle.std.proofs.Common.{◌∙◌, ap, map}
use Rattle.dk_base.specs.FrameSizes.{size_of}
use Rattle.dk_base.specs.Types.{width_of}
use Rattle.program_images.proofs.Taken.{are_frames, small_ports}
use Rattle.program_images.proofs.rounds.read_program_rounds.Goals as goal

pub read_rounds-requires-clause-widths : goal.read_rounds-requires-clause-widths
read_rounds-requires-clause-widths c =
    small_ports c.args.ir.now.inputs c.law.ensures.inputs c.deref.result.now (c.deref.ensures.value ∙ c.in_ok-widths.ensures ∙ ap (λ is. map width_of (map (λ i. i.ty) is)) c.inputs.ensures)

pub returns-clause-frames : goal.returns-clause-frames
returns-clause-frames c =
    are_frames c.args.ir.now c.law.ensures.inputs (size_of c.size.result) c.size.ensures c.deref.result.now (c.deref.ensures.value ∙ c.in_ok-widths.ensures ∙ ap (λ is. map width_of (map (λ i. i.ty) is)) c.inputs.ensures)
    c.in_ok-rounds.rounds.items c.in_ok-rounds.ensures.frames
