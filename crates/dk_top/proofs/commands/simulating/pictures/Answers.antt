use Rattle.std.proofs.Common.{◌≡◌, subst, List, ℕ, Bool, ◌++◌, option_map, rules}
use Rattle.dk_base.specs.FrameSizes.{size_of}
use Rattle.dk_desk.specs.Calls.{IsIfTold}
use Rattle.dk_desk.specs.Outside.{Outside}
use Rattle.dk_endings.specs.declared.ending.Ending.TheVariants as ending
use Rattle.pgm_rounds.specs.declared.round.Round.{Round}
use Rattle.stimulus.specs.Given.{rounds_of}
use Rattle.stimulus.specs.Showing.{IsShown, IsNoted as AreNotes}
use Rattle.stimulus.specs.Stops.{IsBenchEnd}
use Rattle.dk_top.specs.Simulating.{OfInput}
use Rattle.dk_top.specs.Simulation.{IsSimulated, NotesSim, IsSimAnswer}
use Rattle.dk_top.proofs.SimReads.{shown_of, one_shown, notes_of_run, stopped_of}
use Rattle.dk_top.proofs.commands.simulating.pictures.Goals as goal

pub returns-in-Ok : goal.returns-in-Ok
returns-in-Ok g c =
    let m = c.args.given.now.module in
    let input = c.args.given.now.input in
    let drive = c.args.drive in
    let old : Outside = g.D.Desk.outside c.args.desk.now in
    let new : Outside = g.D.Desk.outside c.run_bench.new.desk in
    let shown : IsShown m.netlist drive (size_of input.size) (rounds_of input.rounds.items) c.in-Ok.file.items = subst (λ (rs : List Round). IsShown m.netlist drive (size_of input.size) (rounds_of rs) c.in-Ok.file.items) c.deref.ensures.value c.in-Ok.ensures.file in
    let file : OfInput drive.hold c.args.given.now (λ text images. IsSimulated drive text images c.in-Ok.file.items) =
    shown_of drive m (size_of input.size) input.rounds.items c.in-Ok.file.items shown in
    let only_file : OfInput drive.hold c.args.given.now (λ text images. (pictures : List ℕ) → IsSimulated drive text images pictures → pictures ≡ c.in-Ok.file.items) =
    one_shown drive m (size_of input.size) input.rounds.items c.one_module_law.ensures.one c.one_input_law.ensures.rounds c.one_bench_law.ensures.file c.law.ensures.one_valuation c.law.ensures.one_next c.in-Ok.file.items shown in
    let notes : OfInput drive.hold c.args.given.now (λ text images. NotesSim drive text images old.notes new.notes) =
    notes_of_run drive m (size_of input.size) input.rounds.items _ _
    (subst (λ (rs : List Round). (notes : List (Bool × ℕ)) × AreNotes m.netlist drive (rounds_of rs) notes × IsIfTold new.notes (option_map (λ before. before ++ notes) old.notes)) c.deref.ensures.value c.in-Ok.ensures.notes) in
    search (rules, file, only_file, notes)

pub returns-in-Err-Stopped : goal.returns-in-Err-Stopped
returns-in-Err-Stopped g c =
    let m = c.args.given.now.module in
    let input = c.args.given.now.input in
    let drive = c.args.drive in
    let stop = c.in-Err-Stopped.stop in
    let fault : OfInput drive.hold c.args.given.now (λ text images. IsSimAnswer drive text images (ending.Stopped stop)) =
    stopped_of drive m (size_of input.size) input.rounds.items stop c.law.ensures.one_valuation c.law.ensures.one_next
    (subst (λ e. IsBenchEnd m.netlist drive (size_of input.size) (rounds_of input.rounds.items) e) c.in-Err-Stopped.field-0-is
    (subst (λ (rs : List Round). IsBenchEnd m.netlist drive (size_of input.size) (rounds_of rs) c.in-Err-Stopped.field-0) c.deref.ensures.value c.in-Err-Stopped.ensures.stop)) in
    search (rules, fault)
