use Rattle.std.proofs.Common.{◌≡◌, List, IfSome, subst, rules}
use Rattle.dk_base.specs.FrameSizes.{size_of}
use Rattle.dk_desk.specs.declared.Stage.TheVariants.{Open}
use Rattle.dk_desk.specs.Outside.{Outside}
use Rattle.dk_endings.specs.declared.ending.Ending.TheVariants as ending
use Rattle.pgm_rounds.specs.declared.round.Round.{Round}
use Rattle.stimulus.specs.Given.{rounds_of}
use Rattle.trace_bench.specs.Traces.{TracesRun, EndsTrace}
use Rattle.dk_top.specs.Simulating.{OfInput}
use Rattle.dk_top.specs.State.{HasOwnFile}
use Rattle.dk_top.specs.Tracing.{IsTraceAnswer, IsStoredTrace}
use Rattle.dk_top.proofs.TraceLemmas.{can_be_traced, trace_stops, stored_run, stored_stop, stored_cut, own_run, own_end}
use Rattle.dk_top.proofs.FileLemmas.{own_created}
use Rattle.dk_top.proofs.commands.tracing.write_trace.Goals as goal

pub returns-in-Ok-run_trace-clause-leaves : goal.returns-in-Ok-run_trace-clause-leaves
returns-in-Ok-run_trace-clause-leaves g c =
    let m = c.args.given.now.module in
    let input = c.args.given.now.input in
    let drive = c.args.drive in
    let old : Outside = g.D.Desk.outside c.args.desk.now in
    let mid : Outside = g.D.Desk.outside c.create.new.self in
    let new : Outside = g.D.Desk.outside c.run_trace.new.desk in
    let runs : TracesRun m drive (rounds_of input.rounds.items) mid new = subst (λ (rs : List Round). TracesRun m drive (rounds_of rs) mid new) c.deref.ensures.value c.in-Ok-run_trace.ensures.ok in
    let verdict : OfInput drive.hold c.args.given.now (λ text images. IsTraceAnswer drive text images ending.Done) = λ text images is.
    can_be_traced drive m (size_of input.size) input.rounds.items c.law.ensures.one_valuation c.law.ensures.one_next text images is mid new runs in
    let output : new.file.stage ≡ Open → IfSome new.file.bytes (λ bytes. OfInput drive.hold c.args.given.now (λ text images. IsStoredTrace ending.Done drive text images bytes)) = λ opened.
    stored_run drive m (size_of input.size) input.rounds.items c.law.ensures.one_valuation c.law.ensures.one_next mid new c.in-Ok.ensures.empty runs in
    let own : HasOwnFile new = λ opened. own_run m drive (rounds_of input.rounds.items) mid new (own_created old mid c.in-Ok.ensures.files) runs in
    search (rules, verdict, output, own)

pub returns-in-Err-Stopped-clause-leaves : goal.returns-in-Err-Stopped-clause-leaves
returns-in-Err-Stopped-clause-leaves g c =
    let m = c.args.given.now.module in
    let input = c.args.given.now.input in
    let drive = c.args.drive in
    let stop = c.in-Err-Stopped.stop in
    let old : Outside = g.D.Desk.outside c.args.desk.now in
    let mid : Outside = g.D.Desk.outside c.create.new.self in
    let new : Outside = g.D.Desk.outside c.run_trace.new.desk in
    let ends : EndsTrace m drive (rounds_of input.rounds.items) c.in-Err-Stopped.field-0 mid new = subst (λ (rs : List Round). EndsTrace m drive (rounds_of rs) c.in-Err-Stopped.field-0 mid new) c.deref.ensures.value c.in-Err-Stopped.ensures.end in
    let stopped = subst (λ e. EndsTrace m drive (rounds_of input.rounds.items) e mid new) c.in-Err-Stopped.field-0-is ends in
    let verdict : OfInput drive.hold c.args.given.now (λ text images. IsTraceAnswer drive text images (ending.Stopped stop)) = λ text images is.
    trace_stops drive m (size_of input.size) input.rounds.items c.law.ensures.one_valuation c.law.ensures.one_next text images is stop mid new stopped in
    let output : new.file.stage ≡ Open → IfSome new.file.bytes (λ bytes. OfInput drive.hold c.args.given.now (λ text images. IsStoredTrace (ending.Stopped stop) drive text images bytes)) = λ opened.
    stored_stop drive m (size_of input.size) input.rounds.items c.law.ensures.one_valuation c.law.ensures.one_next mid new c.in-Ok.ensures.empty stop stopped in
    let own : HasOwnFile new = λ opened. own_end m drive (rounds_of input.rounds.items) c.in-Err-Stopped.field-0 mid new (own_created old mid c.in-Ok.ensures.files) ends in
    search (rules, verdict, output, own)

pub returns-in-Err-Write-clause-leaves : goal.returns-in-Err-Write-clause-leaves
returns-in-Err-Write-clause-leaves g c =
    let m = c.args.given.now.module in
    let input = c.args.given.now.input in
    let drive = c.args.drive in
    let old : Outside = g.D.Desk.outside c.args.desk.now in
    let mid : Outside = g.D.Desk.outside c.create.new.self in
    let new : Outside = g.D.Desk.outside c.run_trace.new.desk in
    let ends : EndsTrace m drive (rounds_of input.rounds.items) c.in-Err-Write.field-0 mid new = subst (λ (rs : List Round). EndsTrace m drive (rounds_of rs) c.in-Err-Write.field-0 mid new) c.deref.ensures.value c.in-Err-Write.ensures.end in
    let output : new.file.stage ≡ Open → IfSome new.file.bytes (λ bytes. OfInput drive.hold c.args.given.now (λ text images. IsStoredTrace ending.WriteFault drive text images bytes)) = λ opened.
    stored_cut drive m (size_of input.size) input.rounds.items c.law.ensures.one_valuation c.law.ensures.one_next mid new c.in-Ok.ensures.empty
    (subst (λ e. EndsTrace m drive (rounds_of input.rounds.items) e mid new) c.in-Err-Write.field-0-is ends) in
    let own : HasOwnFile new = λ opened. own_end m drive (rounds_of input.rounds.items) c.in-Err-Write.field-0 mid new (own_created old mid c.in-Ok.ensures.files) ends in
    search (rules, output, own)
