use Rattle.std.proofs.Common.{rules, ℕ, List, IfSome, subst, sym}
use Rattle.dk_base.specs.Frames.{Size}
use Rattle.pgm_codec.specs.Answers.{Refuses}
use Rattle.pgm_rounds.specs.Files.{Refused}
use Rattle.dk_base.specs.FrameSizes.{size_of}
use Rattle.row_stream.specs.Heads.{TakesHead}
use Rattle.row_stream.specs.HeadReading.{EndsHead, IsRefusal}
use Rattle.row_stream.proofs.HeadEnds.{refusal_of, refuses_head, refuses_taken}
use Rattle.row_stream.proofs.heads.next_image.Goals as goal

pub header_fault-requires-clause-refusal : goal.header_fault-requires-clause-refusal
header_fault-requires-clause-refusal g c =
    let old = (g.D.Desk.outside c.args.desk.now).image in
    let new = (g.D.Desk.outside c.next_head.new.desk).image in
    subst (λ f. IsRefusal f) (sym c.in-Err-Head.fault-is) (refusal_of c.args.may_end c.in-Err-Head.fault old new (subst (λ z. EndsHead c.args.may_end z old new) c.in-Err-Head.field-0-is c.in-Err-Head.ensures.err))

pub returns-in-Err-Head : goal.returns-in-Err-Head
returns-in-Err-Head g c = record {
  ok = search rules;
  none = search rules;
  err =
      refuses_head (size_of c.args.size) c.args.bits c.args.offset c.in-Err-Head.fault c.header_fault.result (g.D.Desk.outside c.args.desk.now).image (g.D.Desk.outside c.next_head.new.desk).image c.args.may_end
      (subst (λ f. (size : Size) (bits number : ℕ) (bytes : List ℕ) → Refuses bytes f → Refused size bits number c.args.offset bytes c.header_fault.result) c.in-Err-Head.fault-is c.header_fault.ensures)
      (subst (λ z. EndsHead c.args.may_end z (g.D.Desk.outside c.args.desk.now).image (g.D.Desk.outside c.next_head.new.desk).image) c.in-Err-Head.field-0-is c.in-Err-Head.ensures.err);
  desk = search rules;
}

pub returns-in-Err : goal.returns-in-Err
returns-in-Err g c = record {
  ok = search rules;
  none = search rules;
  err =
      refuses_taken (size_of c.args.size) c.args.bits c.args.offset c.in-Ok-Some.header c.in-Err.fault (g.D.Desk.outside c.args.desk.now).image (g.D.Desk.outside c.next_head.new.desk).image c.args.may_end c.in-Err.ensures.fault c.in-Err.ensures.unfit
      (subst (λ z. IfSome z (λ header. TakesHead header (g.D.Desk.outside c.args.desk.now).image (g.D.Desk.outside c.next_head.new.desk).image)) c.in-Ok-Some.field-0-is c.in-Ok-Some.ensures.ok);
  desk = search rules;
}
