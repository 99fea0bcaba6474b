use Rattle.std.proofs.Common.{rules}
use Rattle.std.proofs.lemmas.Result.{on_ok_weaker, on_err_weaker}
use Rattle.row_stream.specs.Formats.{kind_of}
use Rattle.row_stream.proofs.Telling.{tells_one, fails_one}
use Rattle.row_stream.proofs.clocking.tell.Goals as goal

pub returns : goal.returns
returns g c = record {
  more = search rules;
  ok =
      let outside = g.D.Desk.outside in
      on_ok_weaker c.show.result (λ h. tells_one (kind_of c.args.format) c.args.out c.args.line.now (outside c.args.desk.now) (outside c.note.new.self) (outside c.show.new.desk) c.note.ensures.only c.note.ensures.notes c.show.new.line h) c.show.ensures.ok;
  err =
      let outside = g.D.Desk.outside in
      on_err_weaker c.show.result (λ h. fails_one (kind_of c.args.format) c.args.out c.args.line.now (outside c.args.desk.now) (outside c.note.new.self) (outside c.show.new.desk) c.note.ensures.only c.note.ensures.notes h) c.show.ensures.err;
  desk = search rules;
}
