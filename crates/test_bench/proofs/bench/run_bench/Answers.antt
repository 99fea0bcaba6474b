use Rattle.std.proofs.Common.{◌≡◌, ◌∙◌, ◌*◌, [], ap, sym, subst, length, refl}
use Rattle.std.proofs.lemmas.Result.{err_from_is_err_and}
use Rattle.dk_base.specs.Frames.{area}
use Rattle.dk_base.specs.FrameSizes.{size_of}
use Rattle.stimulus.specs.Given.{rounds_of}
use Rattle.stimulus.specs.Showing.{asked, notes_of}
use Rattle.wiring.specs.Netlist.{Netlist}
use Rattle.wiring.specs.Snapshot.{Contents}
use Rattle.cycle_sim.specs.Ports.{din_widths}
use Rattle.stimulus.specs.Stimulus.{stimulus}
use Rattle.test_bench.specs.Clocking.{AreKept, StopsIn}
use Rattle.test_bench.proofs.Ends.{ended, rounds_length, filled_end, file_end, short_end, is_stop}
use Rattle.test_bench.proofs.bench.run_bench.Goals as goal

pub finish-requires-clause-filled : goal.finish-requires-clause-filled
finish-requires-clause-filled g c =
    let m = c.args.module.now.netlist in
    let size = size_of c.args.size in
    let rounds = c.args.rounds.now in
    let old = c.in_ok-bench.bench in
    let new = c.all_clocks.new.bench in
    let set = c.in_ok-bench.ensures in
    let before = (g.D.Desk.outside c.args.desk.now).notes in
    let now = (g.D.Desk.outside c.all_clocks.new.desk).notes in
    let most : old.most ≡ asked size (rounds_of rounds) = set.most ∙ ap (λ z. length rounds * z) c.area-pixels.ensures.is ∙ ap (λ n. n * area size) (sym (rounds_length rounds)) in
    let none = subst (λ n. AreKept n [] old.pictures.items) (sym set.most) set.kept in
    let end = ended m c.args.drive size (rounds_of rounds) old new before now set.netlist set.contents most none c.in-Ok.ensures.drives.ok c.in-Ok.ensures.few in
    filled_end m c.args.drive size rounds new.pictures.items c.deref-3.result.now c.deref-2.result.now before now end c.deref-3.ensures.value (c.deref-2.ensures.value ∙ ap (λ z. z.outputs) c.wiring-wiring.ensures.netlist)

pub returns-in_err-file-clause-stop : goal.returns-in_err-file-clause-stop
returns-in_err-file-clause-stop g c =
    let m = c.args.module.now.netlist in
    let size = size_of c.args.size in
    let rounds = c.args.rounds.now in
    let old = c.in_ok-bench.bench in
    let new = c.all_clocks.new.bench in
    let set = c.in_ok-bench.ensures in
    let before = (g.D.Desk.outside c.args.desk.now).notes in
    let now = (g.D.Desk.outside c.all_clocks.new.desk).notes in
    let most : old.most ≡ asked size (rounds_of rounds) = set.most ∙ ap (λ z. length rounds * z) c.area-pixels.ensures.is ∙ ap (λ n. n * area size) (sym (rounds_length rounds)) in
    let none = subst (λ n. AreKept n [] old.pictures.items) (sym set.most) set.kept in
    let end = ended m c.args.drive size (rounds_of rounds) old new before now set.netlist set.contents most none c.in-Ok.ensures.drives.ok c.in-Ok.ensures.few in
    let p = err_from_is_err_and c.from_residual-in_err-file.result c.from_residual-in_err-file.ensures.1 in
    rw (p.1, p.2) (short_end m c.args.drive size rounds new.pictures.items c.deref-3.result.now c.deref-2.result.now before now end c.deref-3.ensures.value (c.deref-2.ensures.value ∙ ap (λ z. z.outputs) c.wiring-wiring.ensures.netlist) c.in_err-file.field-0.0 c.in_err-file.ensures.short)

pub returns-clause-file : goal.returns-clause-file
returns-clause-file g c =
    let m = c.args.module.now.netlist in
    let size = size_of c.args.size in
    let rounds = c.args.rounds.now in
    let old = c.in_ok-bench.bench in
    let new = c.all_clocks.new.bench in
    let set = c.in_ok-bench.ensures in
    let before = (g.D.Desk.outside c.args.desk.now).notes in
    let now = (g.D.Desk.outside c.all_clocks.new.desk).notes in
    let most : old.most ≡ asked size (rounds_of rounds) = set.most ∙ ap (λ z. length rounds * z) c.area-pixels.ensures.is ∙ ap (λ n. n * area size) (sym (rounds_length rounds)) in
    let none = subst (λ n. AreKept n [] old.pictures.items) (sym set.most) set.kept in
    let end = ended m c.args.drive size (rounds_of rounds) old new before now set.netlist set.contents most none c.in-Ok.ensures.drives.ok c.in-Ok.ensures.few in
    file_end m c.args.drive size rounds new.pictures.items c.deref-3.result.now c.deref-2.result.now before now end c.deref-3.ensures.value (c.deref-2.ensures.value ∙ ap (λ z. z.outputs) c.wiring-wiring.ensures.netlist) c.in_ok-file.file.items c.in_ok-file.ensures.file

pub returns-clause-notes : goal.returns-clause-notes
returns-clause-notes g c =
    let m = c.args.module.now.netlist in
    let size = size_of c.args.size in
    let rounds = c.args.rounds.now in
    let old = c.in_ok-bench.bench in
    let new = c.all_clocks.new.bench in
    let set = c.in_ok-bench.ensures in
    let before = (g.D.Desk.outside c.args.desk.now).notes in
    let now = (g.D.Desk.outside c.all_clocks.new.desk).notes in
    let most : old.most ≡ asked size (rounds_of rounds) = set.most ∙ ap (λ z. length rounds * z) c.area-pixels.ensures.is ∙ ap (λ n. n * area size) (sym (rounds_length rounds)) in
    let none = subst (λ n. AreKept n [] old.pictures.items) (sym set.most) set.kept in
    let end = ended m c.args.drive size (rounds_of rounds) old new before now set.netlist set.contents most none c.in-Ok.ensures.drives.ok c.in-Ok.ensures.few in
    (notes_of m end.shots, record { shots = end.shots; run = end.run; notes_are = refl }, end.told)

pub returns-in_err-held-clause-stop : goal.returns-in_err-held-clause-stop
returns-in_err-held-clause-stop g c =
    let p = err_from_is_err_and c.from_residual-in_err-held.result c.from_residual-in_err-held.ensures.1 in
    rw (p.1, p.2) tt

pub returns-in-Err-clause-stop : goal.returns-in-Err-clause-stop
returns-in-Err-clause-stop g c =
    let m = c.args.module.now.netlist in
    let drive = c.args.drive in
    let rounds = rounds_of c.args.rounds.now in
    let old = c.in_ok-bench.bench in
    let set = c.in_ok-bench.ensures in
    let stop = c.in-Err.stop in
    is_stop m drive (size_of c.args.size) rounds old.made stop set.made
    (subst (λ (from : Contents). StopsIn m from old.made (stimulus drive (din_widths m) rounds) stop) set.contents
    (subst (λ (z : Netlist). StopsIn z old.sim.contents old.made (stimulus drive (din_widths z) rounds) stop) set.netlist c.in-Err.ensures.drives.stop))
