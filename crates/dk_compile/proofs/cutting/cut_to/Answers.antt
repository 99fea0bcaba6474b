use Rattle.dk_types.specs.Typed.{typing_of}
use Rattle.dk_compile.specs.Cuts.{IsInlinedText}
use Rattle.dk_compile.proofs.Same.{cut_itself}
use Rattle.dk_compile.proofs.cutting.cut_to.Goals as goal

pub inlined-requires : goal.inlined-requires
inlined-requires c = record { accepted = (c.args.source.now, c.requires.form.accepted) }

pub returns-clause-is_cut : goal.returns-clause-is_cut
returns-clause-is_cut c =
    let p = typing_of c.args.old.now.program in
    let is : IsInlinedText c.args.source.now c.in_ok-form.form = record { program = p; is_text = c.requires.form.accepted.program; inlined = c.in_ok-form.ensures } in
    cut_itself c.args.source.now c.in_ok-text.text.items p c.args.levels c.in_ok-form.form c.requires.form.accepted c.in_ok-text.ensures.items is
