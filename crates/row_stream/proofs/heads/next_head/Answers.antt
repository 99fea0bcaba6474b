use Rattle.std.proofs.Common.{◌≡◌, ℕ, List, Option, Some, arith, rules, length-append, ap, subst, ◌∙◌, ◌++◌, ◌∷◌, []}
use Rattle.std.specs.Prelude.{option_to_list}
use Rattle.std.specs.Io.KnownBytes.{prepend_known}
use Rattle.dk_desk.proofs.DeskLemmas.{prepend_known-more}
use Rattle.pgm_codec.specs.Answers.{Answers, Undecided}
use Rattle.row_stream.specs.HeadReading.{decided, ended}
use Rattle.row_stream.proofs.HeadEnds.{undecided_before, undecided_more}
use Rattle.row_stream.proofs.HeadLemmas.{exact_head}
use Rattle.row_stream.proofs.heads.next_head.Goals as goal

-- one byte more was read
given_more : (read : List ℕ) (byte : ℕ) (next : Option ℕ) (old mid new : Option (List ℕ)) → next ≡ Some byte → old ≡ prepend_known read mid → mid ≡ prepend_known (option_to_list next) new → old ≡ prepend_known (read ++ byte ∷ []) new
given_more read byte next old mid new is before here =
    before ∙ ap (λ z. prepend_known read z) (subst (λ z. mid ≡ prepend_known (option_to_list z) new) is here) ∙ prepend_known-more read (byte ∷ []) new

pub loop-index-preserved : goal.loop-index-preserved
loop-index-preserved g c =
    let s = c.loop-index.invariant.scanning in
    let byte = c.in-Ok-Some.byte in
    record {
      opened = search rules;
      only = search rules;
      no_read = search rules;
      goes_on = search rules;
      scanning = record {
        read = s.read ++ byte ∷ [];
        count_is = omega (arith, length-append s.read (byte ∷ []), s.count_is);
        given = given_more s.read byte _ _ _ _ c.in-Ok-Some.field-0-is s.given c.in-Ok-Some.ensures.given;
        scanned = c.in-More.ensures.scanned s.read s.scanned;
      };
    }

pub returns-in-Fault-clause-err : goal.returns-in-Fault-clause-err
returns-in-Fault-clause-err g c =
    let s = c.loop-index.invariant.scanning in
    let byte = c.in-Ok-Some.byte in
    let open_yet : Undecided s.read = subst (λ a. Answers s.read a) c.loop-index.invariant.goes_on s.scanned.answers in
    record {
      read = s.read ++ byte ∷ [];
      before = undecided_more s.read byte open_yet;
      given = given_more s.read byte _ _ _ _ c.in-Ok-Some.field-0-is s.given c.in-Ok-Some.ensures.given;
      some = λ _. omega (arith, length-append s.read (byte ∷ []));
      why = decided (c.in-Fault.ensures.answer s.read s.scanned);
    }

pub returns-in-Done-clause-ok : goal.returns-in-Done-clause-ok
returns-in-Done-clause-ok g c =
    let s = c.loop-index.invariant.scanning in
    let byte = c.in-Ok-Some.byte in
    let open_yet : Undecided s.read = subst (λ a. Answers s.read a) c.loop-index.invariant.goes_on s.scanned.answers in
    record {
      read = s.read ++ byte ∷ [];
      given = given_more s.read byte _ _ _ _ c.in-Ok-Some.field-0-is s.given c.in-Ok-Some.ensures.given;
      reads = c.in-Done.ensures.answer s.read s.scanned;
      exact = exact_head c.one_reading_law.ensures.headers s.read byte c.in-Done.header open_yet (c.in-Done.ensures.answer s.read s.scanned);
    }

pub returns-in-Ok-None-clause-err : goal.returns-in-Ok-None-clause-err
returns-in-Ok-None-clause-err g c =
    let s = c.loop-index.invariant.scanning in
    let open_yet : Undecided s.read = subst (λ a. Answers s.read a) c.loop-index.invariant.goes_on s.scanned.answers in
    record {
      read = s.read;
      before = undecided_before s.read open_yet;
      some = search rules;
      given = search rules;
      why = ended (c.end.ensures s.read s.scanned) (search rules);
    }
