use Rattle.std.proofs.Common.{rules, ◌≡◌, arith}
use Rattle.row_stream.specs.Formats.{kind_of}
use Rattle.row_stream.specs.Whole.{at_head, at_reset}
use Rattle.row_stream.proofs.Keeping.{passed, keeps_none}
use Rattle.row_stream.proofs.Leaving.{creates_of, fails_at_reset}
use Rattle.row_stream.proofs.state.Stream.begin.Goals as goal

pub returns-in_err-create-clause-keeps : goal.returns-in_err-create-clause-keeps
returns-in_err-create-clause-keeps g c = keeps_none c.args.self.now c.requires.start.stream

pub returns-in_err-write_head-clause-keeps : goal.returns-in_err-write_head-clause-keeps
returns-in_err-write_head-clause-keeps g c = keeps_none c.args.self.now c.requires.start.stream

pub returns-in_err-write_head-clause-err : goal.returns-in_err-write_head-clause-err
returns-in_err-write_head-clause-err g c =
    let old = g.D.Desk.outside c.args.desk.now in
    let created = g.D.Desk.outside c.create.new.self in
    let same : created.output_failures ≡ old.output_failures = search rules in
    let e = c.in_ok-create.ensures in
    let creates = creates_of c.args.name.now old created e.only same e.stage e.name e.empty e.files in
    passed c.from_residual-in_err-write_head.result c.in_err-write_head.field-0.0 c.from_residual-in_err-write_head.ensures.1 (at_head created creates c.in_err-write_head.ensures.err)

pub returns-in_err-reset-clause-err : goal.returns-in_err-reset-clause-err
returns-in_err-reset-clause-err g c =
    let old = g.D.Desk.outside c.args.desk.now in
    let created = g.D.Desk.outside c.create.new.self in
    let same : created.output_failures ≡ old.output_failures = search rules in
    let e = c.in_ok-create.ensures in
    let creates = creates_of c.args.name.now old created e.only same e.stage e.name e.empty e.files in
    let s = c.args.self.now in
    passed c.from_residual-in_err-reset.result c.in_err-reset.field-0.0 c.from_residual-in_err-reset.ensures.1
    (at_reset created creates
    (fails_at_reset (kind_of s.format) s.sim.netlist s.sim.contents s.line created (g.D.Desk.outside c.write_head.new.desk) c.requires.start.fresh (omega (arith, c.requires.start.stream.room.below)) c.in_ok-write_head.ensures.ok
    (g.D.Desk.outside c.reset.new.desk) c.in_err-reset.ensures.err))
