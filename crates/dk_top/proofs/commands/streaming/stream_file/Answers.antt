use Rattle.std.proofs.Common.{subst, rules}
use Rattle.dk_desk.specs.Outside.{Outside}
use Rattle.dk_endings.specs.declared.ending.Ending.TheVariants as ending
use Rattle.dk_endings.specs.declared.ending.ImageFault.TheVariants as image
use Rattle.row_stream.specs.Formats.{kind_of}
use Rattle.row_stream.specs.Whole.{Leaves}
use Rattle.dk_top.specs.Streams.{OpensImages, RunsStream, streamed}
use Rattle.dk_top.proofs.commands.streaming.stream_file.Goals as goal

pub returns-in-Ok-run : goal.returns-in-Ok-run
returns-in-Ok-run g c =
    let s = c.args.stream.now in
    let old : Outside = g.D.Desk.outside c.args.desk.now in
    let opened : Outside = g.D.Desk.outside c.open_in.new.self in
    let new : Outside = g.D.Desk.outside c.run.new.desk in
    let e = c.in-Ok.ensures in
    let opens : OpensImages c.args.image.now old opened = record { only = e.only; no_failure = e.cause.ok; stage = e.stage; named = e.name; start = e.start } in
    let runs : RunsStream (kind_of s.format) s.sim.netlist s.bits c.args.latency c.args.image.now c.args.out.now s.sim.contents old new ending.Done =
    streamed opened opens c.in-Ok-run.ensures.ok in
    record { runs = runs; read = search rules; write = search rules }

pub returns-in-Err-Image : goal.returns-in-Err-Image
returns-in-Err-Image g c =
    let s = c.args.stream.now in
    let old : Outside = g.D.Desk.outside c.args.desk.now in
    let opened : Outside = g.D.Desk.outside c.open_in.new.self in
    let new : Outside = g.D.Desk.outside c.run.new.desk in
    let e = c.in-Ok.ensures in
    let opens : OpensImages c.args.image.now old opened = record { only = e.only; no_failure = e.cause.ok; stage = e.stage; named = e.name; start = e.start } in
    let runs : RunsStream (kind_of s.format) s.sim.netlist s.bits c.args.latency c.args.image.now c.args.out.now s.sim.contents old new (ending.Image (image.File c.in-Err-Image.fault)) =
    streamed opened opens (subst (λ f. Leaves (kind_of s.format) s.sim.netlist s.bits c.args.latency f c.args.out.now s.sim.contents opened new) c.in-Err-Image.field-0-is c.in-Err-Image.ensures.err) in
    record { runs = runs; read = search rules; write = search rules }

pub returns-in-Err-Read : goal.returns-in-Err-Read
returns-in-Err-Read g c =
    let s = c.args.stream.now in
    let old : Outside = g.D.Desk.outside c.args.desk.now in
    let opened : Outside = g.D.Desk.outside c.open_in.new.self in
    let new : Outside = g.D.Desk.outside c.run.new.desk in
    let e = c.in-Ok.ensures in
    let opens : OpensImages c.args.image.now old opened = record { only = e.only; no_failure = e.cause.ok; stage = e.stage; named = e.name; start = e.start } in
    let runs : RunsStream (kind_of s.format) s.sim.netlist s.bits c.args.latency c.args.image.now c.args.out.now s.sim.contents old new ending.ReadFault =
    streamed opened opens (subst (λ f. Leaves (kind_of s.format) s.sim.netlist s.bits c.args.latency f c.args.out.now s.sim.contents opened new) c.in-Err-Read.field-0-is c.in-Err-Read.ensures.err) in
    record { runs = runs; read = search rules; write = search rules }

pub returns-in-Err-Write : goal.returns-in-Err-Write
returns-in-Err-Write g c =
    let s = c.args.stream.now in
    let old : Outside = g.D.Desk.outside c.args.desk.now in
    let opened : Outside = g.D.Desk.outside c.open_in.new.self in
    let new : Outside = g.D.Desk.outside c.run.new.desk in
    let e = c.in-Ok.ensures in
    let opens : OpensImages c.args.image.now old opened = record { only = e.only; no_failure = e.cause.ok; stage = e.stage; named = e.name; start = e.start } in
    let runs : RunsStream (kind_of s.format) s.sim.netlist s.bits c.args.latency c.args.image.now c.args.out.now s.sim.contents old new ending.WriteFault =
    streamed opened opens (subst (λ f. Leaves (kind_of s.format) s.sim.netlist s.bits c.args.latency f c.args.out.now s.sim.contents opened new) c.in-Err-Write.field-0-is c.in-Err-Write.ensures.err) in
    record { runs = runs; read = search rules; write = search rules }
