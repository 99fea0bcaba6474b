use Rattle.std.proofs.Common.{rules, ◌≡◌, ◌++◌, ◌∷◌, [], sym, subst, append-nil, if◌then◌else◌, true, false}
use Rattle.std.proofs.lemmas.Result.{on_ok_weaker}
use Rattle.row_stream.specs.Formats.{kind_of}
use Rattle.row_stream.specs.Progress.{Writes}
use Rattle.row_stream.proofs.clocking.show.Goals as goal

pub returns-then-out : goal.returns-then-out
returns-then-out g c = record {
  more = search rules;
  ok =
      let is : c.args.out.valid ≡ true = search rules in
      on_ok_weaker c.add.result (λ h start samples notes w. subst (λ z. Writes (kind_of c.args.format) start (samples ++ (if z then c.args.out.dout ∷ [] else [])) notes c.add.new.line (g.D.Desk.outside c.add.new.desk)) (sym is) (h start samples notes w)) c.add.ensures.ok;
  err = search rules;
  desk = search rules;
}

pub returns-else-out : goal.returns-else-out
returns-else-out g c = record {
  more = search rules;
  ok = λ start samples notes w.
      let is : c.args.out.valid ≡ false = search rules in
      subst (λ z. Writes (kind_of c.args.format) start (samples ++ (if z then c.args.out.dout ∷ [] else [])) notes c.args.line.now (g.D.Desk.outside c.args.desk.now)) (sym is)
      (subst (λ z. Writes (kind_of c.args.format) start z notes c.args.line.now (g.D.Desk.outside c.args.desk.now)) (sym (append-nil samples)) w);
  err = search rules;
  desk = search rules;
}
