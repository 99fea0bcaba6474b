use Rattle.std.proofs.Common.{ℕ, List, None, sym, subst}
use Rattle.pgm_rounds.specs.declared.round.Round.{Round}
use Rattle.made_program.specs.Programs.{program_of}
use Rattle.made_program.specs.Images.{image_of}
use Rattle.dk_top.specs.Making.{IsMade}
use Rattle.dk_top.specs.Reading.{IsInputOf}
use Rattle.dk_top.proofs.MakeLemmas.{made_file, made_notes}
use Rattle.dk_top.proofs.commands.making.made_line.Goals as goal

pub line_of-requires : goal.line_of-requires
line_of-requires g c =
    let n = c.args.n in
    let k = c.in_ok-ready.ready.machine.compiled in
    let rounds = c.in_ok-ready.ready.rounds.items in
    let given = subst (λ (rs : List Round). IsInputOf None k.ir (image_of n) rs) (sym c.deref.ensures.value) c.in_ok-ready.ensures.input in
    let made = made_file c.one_at_age_law.ensures.accepted n k c.in_ok-ready.ensures.compiled rounds c.in_ok-ready.ensures.input c.in-Ok.file.items (c.in-Ok.ensures.output (program_of n) (image_of n) 0 c.in_ok-ready.ensures.compiled given) in
    let from = c.in_ok-ready.ensures.compiled in
    let images = (c.in_ok-ready.ensures.input.some from.program (from.is.planned.has.front).form).0 in
    (images, subst (λ (bytes : List ℕ). IsMade n k images bytes) (sym c.deref-2.ensures.value) made)

pub returns-in-Ok-line_of-clause-notes : goal.returns-in-Ok-line_of-clause-notes
returns-in-Ok-line_of-clause-notes g c =
    let n = c.args.n in
    let k = c.in_ok-ready.ready.machine.compiled in
    let rounds = c.in_ok-ready.ready.rounds.items in
    let given = subst (λ (rs : List Round). IsInputOf None k.ir (image_of n) rs) (sym c.deref.ensures.value) c.in_ok-ready.ensures.input in
    made_notes c.one_at_age_law.ensures.accepted n k c.in_ok-ready.ensures.compiled rounds c.in_ok-ready.ensures.input _ _ (c.in-Ok.ensures.notes (program_of n) (image_of n) 0 c.in_ok-ready.ensures.compiled given)
