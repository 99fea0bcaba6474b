use Rattle.std.proofs.Common.{rules, ℤ, w32, to_z, of_z, FitsSigned}
use Rattle.dk_types.specs.Typed.{typing_of}
use Rattle.same_phases.specs.Roles.{IsMovedColumn, StaysInPhase}
use Rattle.same_phases.proofs.Words.{from_word, same_word, is_not}
use Rattle.same_phases.proofs.Played.{reads_unclamped, reads_clamped}
use Rattle.same_phases.proofs.reads.reads_phase_of.Goals as goal

abbrev word : ℤ → ℤ
word z = to_z w32 (of_z w32 z)

pub returns-then-not-b : goal.returns-then-not-b
returns-then-not-b c = λ yes.
    let a = c.args.a in
    let b = c.args.b in
    let at = c.args.at in
    let ax : FitsSigned w32 a.dx = search rules in
    let ay : FitsSigned w32 a.dy = search rules in
    let bx : FitsSigned w32 b.dx = search rules in
    let by : FitsSigned w32 b.dy = search rules in
    let moved = from_word w32 (λ u. IsMovedColumn at.phases c.args.phase u at.phase a.dx) b.dx bx
    (from_word w32 (λ v. IsMovedColumn at.phases c.args.phase (word b.dx) at.phase v) a.dx ax (c.is_at_column.ensures c.if-not-is_at_column.false)) in
    reads_unclamped at.phases (typing_of c.args.old.now) (typing_of c.args.new.now) c.requires.phase.split at.phase c.args.phase a b
    (is_not a.clamped c.if-not-a.true) (is_not b.clamped c.if-not-b.true) (same_word w32 b.dy a.dy by ay c.if-b-a.false) moved c.requires.shows

pub returns : goal.returns
returns c = λ yes.
    let a = c.args.a in
    let b = c.args.b in
    let at = c.args.at in
    let ax : FitsSigned w32 a.dx = search rules in
    let ay : FitsSigned w32 a.dy = search rules in
    let bx : FitsSigned w32 b.dx = search rules in
    let by : FitsSigned w32 b.dy = search rules in
    let moved = from_word w32 (λ u. IsMovedColumn at.phases c.args.phase u at.phase a.dx) b.dx bx
    (from_word w32 (λ v. IsMovedColumn at.phases c.args.phase (word b.dx) at.phase v) a.dx ax (c.is_at_column.ensures c.if-not-is_at_column.false)) in
    let stays = from_word w32 (λ u. StaysInPhase at.phases u c.args.phase) b.dx bx (c.stays_in_phase.ensures yes) in
    reads_clamped at.phases (typing_of c.args.old.now) (typing_of c.args.new.now) c.requires.phase.split at.phase c.args.phase c.requires.phase.below a b
    (c.is_brought.ensures c.if-not-is_brought.false) (c.is_brought-2.ensures c.if-not-is_brought-2.false) (same_word w32 b.dy a.dy by ay c.if-b-a.false) moved stays c.requires.shows
