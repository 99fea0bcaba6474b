use Rattle.std.proofs.Common.{ℕ, List, length, map, ◌-◌, sym, ap, ◌∙◌, subst}
use Rattle.std.proofs.lemmas.Result.{IfOk-weaker}
use Rattle.dk_base.specs.declared.stencils.Image.{Image as Kept}
use Rattle.dk_base.specs.Frames.{Size}
use Rattle.pgm_rounds.specs.Files.{joined}
use Rattle.made_program.specs.Programs.{program_of}
use Rattle.made_program.specs.Images.{image_of, picture_of}
use Rattle.made_program.specs.Sums.{AreSummed}
use Rattle.dk_top.specs.Output.{outputs_of}
use Rattle.dk_top.proofs.MakeLemmas.{summed, same_line}
use Rattle.dk_top.proofs.commands.making.line_of.Goals as goal

pub sample_sum-requires : goal.sample_sum-requires
sample_sum-requires c =
    let (rounds, made) = c.requires in
    let n = c.args.n in
    let p = made.from.program in
    let are = summed (program_of n) 0 c.args.compiled.now made.from c.meaning_law.ensures.values (image_of n) (picture_of n) rounds c.one_reading_law.ensures.files (c.made_is_read_law.ensures.file n) made.fits in
    record { images = (joined (map (outputs_of p) rounds), subst (λ (s : Size). AreSummed s (joined (map (outputs_of p) rounds))) (sym (c.size.ensures ∙ (made.from.is.planned.has.front).form.size)) are, made.file_is) }

pub returns : goal.returns
returns c =
    let (rounds, made) = c.requires in
    let n = c.args.n in
    let p = made.from.program in
    let k = c.args.compiled.now in
    let are = summed (program_of n) 0 k made.from c.meaning_law.ensures.values (image_of n) (picture_of n) rounds c.one_reading_law.ensures.files (c.made_is_read_law.ensures.file n) made.fits in
    let here = subst (λ (s : Size). AreSummed s (joined (map (outputs_of p) rounds))) (sym (c.size.ensures ∙ (made.from.is.planned.has.front).form.size)) are in
    let total = c.in_ok-sample_sum.ensures (joined (map (outputs_of p) rounds)) here made.file_is in
    let images = ap (λ (xs : List Kept). length xs - c.inputs.result) c.images.ensures ∙ ap (λ (m : ℕ). length k.system.stencils.images - m) c.inputs.ensures in
    IfOk-weaker c.summary.result _ _ (λ line is. record {
      compiled = k;
      from = made.from;
      rounds = rounds;
      fits = made.fits;
      line_is = is ∙ same_line n _ _ _ _ _ _ _ _ _ _ images (ap length c.reads.ensures) c.bits.ensures c.latency.ensures total;
    }) c.summary.ensures
