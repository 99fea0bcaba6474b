use Rattle.std.proofs.Common.{◌∙◌, ◌≤◌, ◌*◌, arith, true, false, length, subst, sym}
use Rattle.std.proofs.lemmas.Result.{IfOk-weaker}
use Rattle.pgm_rounds.specs.Standing.{AreSamples}
use Rattle.pgm_rounds.proofs.Rasters.{enough_of, samples_are, are_bytes, narrow, wide}
use Rattle.pgm_rounds.proofs.image.read_samples.Goals as goal

pub split_at-requires-then-header-lt256 : goal.split_at-requires-then-header-lt256
split_at-requires-then-header-lt256 c =
    let h = c.args.header.now in
    let l = enough_of c.one_answer_law.ensures.header true c.args.rest.now h c.requires.image.0 c.split_at.result.1.now (narrow h.maxval c.if-header-lt256.true) c.requires.reads c.requires.image.1 c.split_at.ensures.back in
    omega arith

pub words_of-requires : goal.words_of-requires
words_of-requires c =
    let h = c.args.header.now in
    let l = enough_of c.one_answer_law.ensures.header false c.args.rest.now h c.requires.image.0 c.split_at.result.1.now (wide h.maxval c.if-header-lt256.false) c.requires.reads c.requires.image.1 c.split_at.ensures.back in
    omega arith

pub returns-then-header-lt256 : goal.returns-then-header-lt256
returns-then-header-lt256 c =
    let h = c.args.header.now in
    let raster = c.split_at.result.1.now in
    let count = h.width * h.height in
    let l = enough_of c.one_answer_law.ensures.header true c.args.rest.now h c.requires.image.0 raster (narrow h.maxval c.if-header-lt256.true) c.requires.reads c.requires.image.1 c.split_at.ensures.back in
    let fits : count ≤ length raster = omega (arith, l) in
    IfOk-weaker c.bytes_of.result _ _ (λ read is samples b.
    samples_are c.one_answer_law.ensures.header c.rows_are_rasters_law.ensures.samples true c.args.rest.now h samples raster read (narrow h.maxval c.if-header-lt256.true) c.requires.reads b c.split_at.ensures.back
    (subst (λ x. AreSamples true raster count x) (sym (is ∙ c.split_at-then-header-lt256.ensures.front)) (are_bytes raster count fits))) c.bytes_of.ensures

pub returns-else-header-lt256 : goal.returns-else-header-lt256
returns-else-header-lt256 c =
    let h = c.args.header.now in
    IfOk-weaker c.words_of.result _ _ (λ read are samples b.
    samples_are c.one_answer_law.ensures.header c.rows_are_rasters_law.ensures.samples false c.args.rest.now h samples c.split_at.result.1.now read (wide h.maxval c.if-header-lt256.false) c.requires.reads b c.split_at.ensures.back are)
    c.words_of.ensures
