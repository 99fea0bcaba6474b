use Rattle.std.proofs.Common.{ap, refl, ◌∙◌}
use Rattle.dk_base.specs.FrameSizes.{size_of}
use Rattle.dk_desk.specs.Outside.{Outside}
use Rattle.row_stream.specs.Formats.{kind_of}
use Rattle.dk_top.specs.Streams.{StreamsImages, RunsMachine}
use Rattle.dk_top.proofs.EndingLemmas.{ending_as}
use Rattle.dk_top.proofs.RunLemmas.{lines_on, runs_none}
use Rattle.dk_top.proofs.StreamStarts.{inputs_two, outputs_two, dout_small, kind_is, bits_as, one_as, fit_as, starts_as, runs_as}
use Rattle.dk_top.proofs.commands.streaming.run_streamed.Goals as goal

pub dout_bits-requires : goal.dout_bits-requires
dout_bits-requires g c =
    let given = c.requires.machine.compiled in
    outputs_two given.0 given.1 c.args.machine.now.compiled given.2 (c.requires.one _ given.2.is.planned.has.front.form) c.args.machine.now.«module» c.requires.machine.again

pub format_of-format-requires : goal.format_of-format-requires
format_of-format-requires g c =
    let given = c.requires.machine.compiled in
    dout_small given.0 given.1 c.args.machine.now.compiled given.2 (c.requires.one _ given.2.is.planned.has.front.form) c.args.machine.now.«module» c.requires.machine.again c.dout_bits.result c.dout_bits.ensures

pub din_bits-bits-requires : goal.din_bits-bits-requires
din_bits-bits-requires g c =
    let given = c.requires.machine.compiled in
    inputs_two given.0 given.1 c.args.machine.now.compiled given.2 (c.requires.one _ given.2.is.planned.has.front.form) c.args.machine.now.«module» c.requires.machine.again

pub stream_file-requires-clause-start : goal.stream_file-requires-clause-start
stream_file-requires-clause-start g c =
    let given = c.requires.machine.compiled in
    let one = c.requires.one _ given.2.is.planned.has.front.form in
    let s = c.in-Ok.stream in
    let made = c.in-Ok.ensures in
    let kind = ap kind_of made.format_is ∙ kind_is given.0 given.1 c.args.machine.now.compiled given.2 one c.args.machine.now.«module» c.requires.machine.again (kind_of c.format_of-format.result) c.dout_bits.result (ap size_of c.format_of-format.ensures.size ∙ c.size.ensures) c.format_of-format.ensures.maxval c.dout_bits.ensures in
    let wide = made.bits_is ∙ c.din_bits-bits.ensures in
    record {
      stream = record {
        bits = bits_as given.0 given.1 c.args.machine.now.compiled given.2 one c.args.machine.now.«module» c.requires.machine.again s.bits wide;
        one = one_as given.0 given.1 c.args.machine.now.compiled given.2 one c.args.machine.now.«module» c.requires.machine.again (kind_of s.format) s.sim.netlist kind made.netlist;
        fit = fit_as given.0 given.1 c.args.machine.now.compiled given.2 one c.args.machine.now.«module» c.requires.machine.again s.bits s.sim.netlist wide made.netlist;
        room = made.room;
        row = made.row;
        batch = made.batch;
      };
      fresh = made.fresh;
      starts = starts_as given.0 given.1 c.args.machine.now.compiled given.2 one c.args.machine.now.«module» c.requires.machine.again s.sim.netlist s.sim.contents made.netlist made.contents;
    }

pub returns-in_default : goal.returns-in_default
returns-in_default g c = λ source age from. runs_none source age c.args.image.now c.args.out.now (g.D.Desk.outside c.args.desk.now) (g.D.Desk.outside c.args.desk.now) c.requires.awaits.image c.requires.awaits.file refl

pub returns : goal.returns
returns g c =
    let m = c.args.machine.now in
    let image = c.args.image.now in
    let out = c.args.out.now in
    let old : Outside = g.D.Desk.outside c.args.desk.now in
    let new : Outside = g.D.Desk.outside c.stream_file.new.desk in
    let s = c.in-Ok.stream in
    let made = c.in-Ok.ensures in
    ending_as (λ e. StreamsImages s c.latency-latency.result image out e old new) (λ e. RunsMachine m image out e old new) c.stream_file.result
    (λ e h. λ source age from.
    let one = c.requires.one _ from.is.planned.has.front.form in
    let kind = ap kind_of made.format_is ∙ kind_is source age m.compiled from one m.«module» c.requires.machine.again (kind_of c.format_of-format.result) c.dout_bits.result (ap size_of c.format_of-format.ensures.size ∙ c.size.ensures) c.format_of-format.ensures.maxval c.dout_bits.ensures in
    lines_on c.one_at_age_law.ensures.accepted c.one_source_law.ensures.program c.one_file_law.ensures.rounds c.drive_shows_law.ensures.picture c.drive_shows_law.ensures.rasters
    (record { fault_behind = c.streams_most.ensures.fault_behind; fault_inside = c.streams_most.ensures.fault_inside; read_behind = c.streams_most.ensures.read_behind; read_inside = c.streams_most.ensures.read_inside }) c.notes_agree_law.ensures.agree source age m.compiled from
    one m.«module» c.requires.machine.again image out old new c.requires.awaits.image c.requires.awaits.file e
    (runs_as source age m.compiled from one m.«module» c.requires.machine.again (kind_of s.format) s.sim.netlist s.bits c.latency-latency.result s.sim.contents image out old new e kind made.netlist (made.bits_is ∙ c.din_bits-bits.ensures) c.latency-latency.ensures made.contents h.runs)
    h.read h.write)
    c.stream_file.ensures
