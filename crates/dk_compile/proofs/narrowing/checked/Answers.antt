use Rattle.std.proofs.Common.{rules}
use Rattle.dk_types.specs.Typed.{typing_of}
use Rattle.dk_compile.specs.Narrowed.{NarrowsForm, HasWiderImages}
use Rattle.dk_compile.proofs.Narrowed.{narrowed_of, narrowed_itself, wider_of_text, wider_itself}
use Rattle.dk_compile.proofs.narrowing.checked.Goals as goal

pub returns-then-found-before-clause-narrowed : goal.returns-then-found-before-clause-narrowed
returns-then-found-before-clause-narrowed c =
    let old = c.args.old.now in
    let narrows : NarrowsForm old.ir c.deref.result.now = search rules in
    narrowed_of c.args.source.now c.in_ok-text.text.items c.deref.result.now (typing_of old.program) old.ir c.requires.form narrows c.deref.ensures.value

pub returns-then-found-before-clause-wider : goal.returns-then-found-before-clause-wider
returns-then-found-before-clause-wider c =
    let old = c.args.old.now in
    let wider : HasWiderImages old.ir c.deref.result.now c.in-Some.found.wider.items = search rules in
    wider_of_text c.args.source.now c.in_ok-text.text.items c.deref.result.now (typing_of old.program) old.ir c.in-Some.found.wider.items c.requires.form c.requires.own wider c.deref.ensures.value

pub returns-clause-narrowed : goal.returns-clause-narrowed
returns-clause-narrowed c = narrowed_itself c.args.source.now c.in_ok-same.same.text.items (typing_of c.args.old.now.program) c.requires.form.accepted c.in_ok-same.ensures.same

pub returns-clause-wider : goal.returns-clause-wider
returns-clause-wider c = wider_itself c.args.source.now c.in_ok-same.same.text.items (typing_of c.args.old.now.program) c.args.old.now.ir c.in_ok-same.same.wider.items c.requires.form c.requires.own c.in_ok-same.ensures.wider c.in_ok-same.ensures.same
