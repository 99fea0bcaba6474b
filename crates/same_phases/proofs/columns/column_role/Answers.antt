use Rattle.std.proofs.Common.{rules, ◌≡◌, sym, subst, ℕ, ℤ, pos, ◌+ℤ◌, ◌*ℤ◌, w32, w64, to_z, of_z, FitsSigned}
use Rattle.dk_types.specs.Typed.{Typed, typing_of, typed_of}
use Rattle.same_phases.specs.Roles.{IsPhase, IsNearer, HasColumn}
use Rattle.same_phases.proofs.Words.{from_word, to_word}
use Rattle.same_phases.proofs.Played.{has_column}
use Rattle.same_phases.proofs.columns.column_role.Goals as goal

abbrev word : ℤ → ℤ
word z = to_z w32 (of_z w32 z)

pub returns : goal.returns
returns c =
    let n = c.args.phases in
    let old = typing_of c.args.old.now in
    let new = typing_of c.args.new.now in
    let choice = c.in_ok-choice.choice in
    let f = choice.test in
    let h = choice.inside in
    let i = choice.edge in
    let g = c.in_ok-image.image in
    let phase = c.in_ok-image.phase in
    let end = c.in_ok-same.end in
    let column = c.column_at.result in
    let row = c.is_of_row.ensures c.if-not-is_of_row.false in
    let (t, u, v, w, is) = c.in_ok-choice.ensures in
    let fx : FitsSigned w32 f.dx = search rules in
    let ix : FitsSigned w32 i.dx = search rules in
    let fits : FitsSigned w64 column = search rules in
    let whole : column ≡ ((pos n *ℤ f.dx) +ℤ pos phase) = from_word w32 (λ z. column ≡ ((pos n *ℤ z) +ℤ pos phase)) f.dx fx c.column_at.ensures in
    let nearer = from_word w32 (λ z. IsNearer n z i.dx end) f.dx fx (from_word w32 (λ z. IsNearer n (word f.dx) z end) i.dx ix (c.is_nearer.ensures c.if-not-is_nearer.false)) in
    let ends = subst (λ (k : ℕ). IsPhase n old new k end i.image) c.if-same-image.false c.in_ok-same.ensures in
    to_word w64 (λ z. HasColumn n old new g z (typed_of c.args.e.now)) column fits
    (subst (λ (e : Typed). HasColumn n old new g column e) (sym is)
    (has_column n old new c.requires.split g phase end column t u v w f h i row.test row.inside row.edge row.point row.test_row row.inside_row row.edge_row whole nearer
    (c.is_frame.ensures c.if-not-is_frame.false) c.in_ok-image.ensures ends))
