use Rattle.std.proofs.Common.{◌<◌, List, ℕ, length, subst}
use Rattle.dk_base.specs.FrameSizes.{size_of}
use Rattle.cycle_sim.specs.Ports.{din_widths}
use Rattle.stimulus.specs.Inputs.{FitsBench, IsBenchError}
use Rattle.stimulus.specs.Given.{AreBenchFrames}
use Rattle.dk_top.proofs.commands.simulating.rounds_for.Goals as goal

pub returns-in-Ok-clause-input : goal.returns-in-Ok-clause-input
returns-in-Ok-clause-input c =
    let read = c.in-Ok.ensures.fits in
    record {
      images = read.0;
      fits = record { within = c.requires; fits = subst (λ (w : List ℕ). FitsBench w c.args.file.now (size_of c.in-Ok.input.size) read.0) c.dins_of.ensures.widths read.1 };
      frames = read.2;
    }

pub returns-in-Ok-clause-frame : goal.returns-in-Ok-clause-frame
returns-in-Ok-clause-frame c = c.in-Ok.ensures.fits.1.frame

pub returns-in-Ok-clause-frames : goal.returns-in-Ok-clause-frames
returns-in-Ok-clause-frames c = subst (λ (w : List ℕ). AreBenchFrames w (size_of c.in-Ok.input.size) c.in-Ok.input.rounds.items) c.dins_of.ensures.widths c.in-Ok.ensures.frames

pub returns-in-Err-Fault-clause-fault : goal.returns-in-Err-Fault-clause-fault
returns-in-Err-Fault-clause-fault c =
    let widths = din_widths c.args.module.now.netlist in
    let some : 0 < length c.dins_of.result.now = c.dins_of.ensures.count.0 in (
      c.requires,
      record {
        some = subst (λ (w : List ℕ). 0 < length w) c.dins_of.ensures.widths some;
        is = subst (λ e. IsBenchError widths c.args.file.now e) c.in-Err-Fault.field-0-is (subst (λ (w : List ℕ). IsBenchError w c.args.file.now c.in-Err-Fault.field-0) c.dins_of.ensures.widths c.in-Err-Fault.ensures.fault);
      },
    )
