use Rattle.std.proofs.Common.{◌∙◌, ◌++◌, ap}
use Rattle.std.proofs.lemmas.Result.{IfOk-weaker}
use Rattle.pgm_rounds.proofs.Pairs.{narrow_raster}
use Rattle.pgm_rounds.proofs.writing.add_words.Goals as goal

pub returns-then-maxval-lt256 : goal.returns-then-maxval-lt256
returns-then-maxval-lt256 c =
    IfOk-weaker c.add_low_bytes.result _ _ (λ done is. is ∙ ap (λ bytes. c.args.file.now.items ++ bytes) (narrow_raster c.args.maxval c.args.samples.now c.if-maxval-lt256.true c.requires)) c.add_low_bytes.ensures
