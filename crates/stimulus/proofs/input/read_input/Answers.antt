use Rattle.std.proofs.Common.{refl, ◌∙◌}
use Rattle.std.proofs.lemmas.Bool.{false≢true}
use Rattle.std.proofs.lemmas.Result.{err_from_is_err_and}
use Rattle.dk_base.specs.FrameSizes.{size_of}
use Rattle.stimulus.specs.Inputs.{heading, sizing}
use Rattle.stimulus.proofs.Takings.{error_later, bench_frames}
use Rattle.stimulus.proofs.input.read_input.Goals as goal

pub returns-in-Err-clause-fault : goal.returns-in-Err-clause-fault
returns-in-Err-clause-fault c = heading c.in-Err.fault c.in-Err.ensures.judged c.first_fault.ensures

pub returns-in_default-clause-fault : goal.returns-in_default-clause-fault
returns-in_default-clause-fault c = sizing c.in-Ok.header c.in-Ok.ensures.judged (λ h. false≢true (c.in_default.ensures.made.1 h)) refl

pub returns-in_err-rounds-clause-fault : goal.returns-in_err-rounds-clause-fault
returns-in_err-rounds-clause-fault c =
    let p = err_from_is_err_and c.from_residual-in_err-rounds.result c.from_residual-in_err-rounds.ensures.1 in
    let size = c.in-Some.size in
    rw (p.1, p.2) (error_later c.args.widths.now c.args.file.now c.in-Ok.header c.in-Ok.ensures.judged (size_of size) c.in-Some.ensures.size size.sides c.deref.result.now (c.deref.ensures.value ∙ c.in_ok-bits.ensures) c.in_err-rounds.field-0.0 c.in_err-rounds.ensures.fault)

pub returns-clause-frames : goal.returns-clause-frames
returns-clause-frames c =
    let fits = c.in_ok-rounds.ensures.fits in
    bench_frames (size_of c.in-Some.size) c.args.widths.now c.deref.result.now c.args.file.now fits.0 c.in_ok-rounds.rounds.items c.requires.count.0 (c.deref.ensures.value ∙ c.in_ok-bits.ensures) fits.1 fits.2 c.in_ok-rounds.ensures.frames
