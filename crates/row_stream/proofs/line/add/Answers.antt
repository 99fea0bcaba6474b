use Rattle.std.proofs.Common.{rules, ◌≡◌, ◌+◌, arith, subst, ◌++◌}
use Rattle.dk_desk.specs.declared.OutSlot.TheVariants.{File}
use Rattle.dk_desk.specs.Calls.{AddsToFile, WritesFront}
use Rattle.row_stream.specs.Lines.{header_before}
use Rattle.row_stream.specs.Formats.{kind_of}
use Rattle.row_stream.proofs.Adding.{failed_line, written_line}
use Rattle.row_stream.proofs.Adding as A
use Rattle.row_stream.proofs.Keeping.{passed}
use Rattle.row_stream.proofs.line.add.Goals as goal

pub returns-then-line-format : goal.returns-then-line-format
returns-then-line-format g c = record {
  more = search rules;
  ok = λ start samples notes h.
      A.goes_on (kind_of c.args.format) samples c.args.sample c.args.line.now c.push_sample.new.bytes h c.push_sample.ensures.bytes c.if-line-format.true;
  err = search rules;
  desk = search rules;
}

pub returns-in_err-write_bytes : goal.returns-in_err-write_bytes
returns-in_err-write_bytes g c = record {
  more = search rules;
  ok = search rules;
  err =
      passed c.from_residual.result c.in_err-write_bytes.field-0.0 c.from_residual.ensures.1 (λ start samples notes h.
      let full : c.args.line.now.count + 1 ≡ c.args.format.size.width = omega (arith, c.if-line-format.false, c.requires.can.room.below) in
      failed_line (kind_of c.args.format) samples c.args.sample c.args.line.now c.push_sample.new.bytes h.pending c.push_sample.ensures.bytes full start (g.D.Desk.outside c.args.desk.now) (g.D.Desk.outside c.write_bytes.new.desk) notes h.gained
      (subst (λ z. WritesFront File (g.D.Desk.outside c.args.desk.now) (header_before (kind_of c.args.format) c.args.line.now.rows ++ z) (g.D.Desk.outside c.write_bytes.new.desk)) c.deref.ensures.value c.in_err-write_bytes.ensures.err));
  desk = search rules;
}

pub returns : goal.returns
returns g c = record {
  more = search rules;
  ok = λ start samples notes h.
      let full : c.args.line.now.count + 1 ≡ c.args.format.size.width = omega (arith, c.if-line-format.false, c.requires.can.room.below) in
      written_line (kind_of c.args.format) samples c.args.sample c.args.line.now c.push_sample.new.bytes h.pending c.push_sample.ensures.bytes full start (g.D.Desk.outside c.args.desk.now) (g.D.Desk.outside c.write_bytes.new.desk) notes c.clear.new.self c.clear.ensures.items (omega (arith, c.requires.can.room.below)) h.gained
      (subst (λ z. AddsToFile (g.D.Desk.outside c.args.desk.now) (header_before (kind_of c.args.format) c.args.line.now.rows ++ z) (g.D.Desk.outside c.write_bytes.new.desk)) c.deref.ensures.value c.in_ok-write_bytes.ensures.ok);
  err = search rules;
  desk = search rules;
}
