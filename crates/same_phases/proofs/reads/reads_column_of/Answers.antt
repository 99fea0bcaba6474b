use Rattle.std.proofs.Common.{rules, ◌≡◌, ◌∙◌, sym, pos, ◌+ℤ◌, w32, w64, FitsSigned}
use Rattle.dk_types.specs.Typed.{typing_of}
use Rattle.same_phases.proofs.Words.{from_word, same_word}
use Rattle.same_phases.proofs.Played.{reads_column}
use Rattle.same_phases.proofs.reads.reads_column_of.Goals as goal

pub returns : goal.returns
returns c = λ yes.
    let a = c.args.a in
    let b = c.args.b in
    let at = c.args.at in
    let ax : FitsSigned w32 a.dx = search rules in
    let ay : FitsSigned w32 a.dy = search rules in
    let bx : FitsSigned w32 b.dx = search rules in
    let by : FitsSigned w32 b.dy = search rules in
    let fits : FitsSigned w64 c.column_by.result = search rules in
    let column : c.args.column ≡ (pos at.phase +ℤ a.dx) = sym (same_word w64 c.column_by.result c.args.column fits c.ranges.column c.if-column_by-column.false)
    ∙ from_word w32 (λ v. c.column_by.result ≡ (pos at.phase +ℤ v)) a.dx ax c.column_by.ensures in
    let here : b.dx ≡ pos 0 = search rules in
    reads_column at.phases (typing_of c.args.old.now) (typing_of c.args.new.now) c.requires.phase.split at.phase c.requires.phase.below c.args.column a b
    (c.is_brought.ensures c.if-not-is_brought.false) (c.is_brought-2.ensures yes) (same_word w32 b.dy a.dy by ay c.if-b-a.false) here column c.requires.shows
