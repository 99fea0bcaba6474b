-- Expressions of the old program at a moved point, and expressions of the new one at the point itself.
use Rattle.std.proofs.Common.{◌≡◌, ◌⊎◌, ℕ, ◌-◌, ◌<◌, ◌≤◌, min, inl, inr, refl, Bool, true, false, if◌then◌else◌, ℤ, pos, negsuc, ◌+ℤ◌, ◌-ℤ◌, ap, sym, ◌∙◌, subst, arith, w32, to_z, of_z, FitsSigned}
use Rattle.std.specs.Prelude.{IsTrue, ◌≤ℤ◌}
use Rattle.std.proofs.lemmas.Bool.{cases_lt}
use Rattle.std.proofs.lemmas.Int.{ints, to_z-of_z}
use Rattle.dk_base.specs.Frames.{Size, in_frame, is_below, clamped}
use Rattle.dk_base.specs.Operators.{select_value}
use Rattle.pointwise_ir.specs.declared.expr.Edge.{Edge}
use Rattle.pointwise_ir.specs.declared.expr.Edge.TheVariants.{Zero, Clamp}
use Rattle.pointwise_ir.specs.Trees.{Tree, shifted}
use Rattle.pointwise_ir.specs.Programs.{Program, IsProgram}
use Rattle.pointwise_ir.specs.Meaning.{edged, value, pictures, IsRound}
use Rattle.dk_base.proofs.Rasters.{below_is, inside_is}
use Rattle.same_pictures.specs.declared.moves.Step.{Step}
use Rattle.same_pictures.specs.Matching.{HaveSameValue, HaveSameMoved, HaveSameInputs, StandsFor, IsSeen, IsJoined, IsPushed, IsSeenBehind, IsFramed, ShowsShifted}
use Rattle.same_pictures.proofs.Values.{clamped_same, round_too, same_shifted}

-- the nearest number of 0 to last: below, above or inside
abbrev Nearest : (last v r : ℤ) → Type 0
Nearest last v r = ((v ≤ℤ pos 0) × (r ≡ pos 0)) ⊎ (((last ≤ℤ v) × (r ≡ last)) ⊎ ((pos 0 ≤ℤ v) × (v ≤ℤ last) × (r ≡ v)))

nearest : (limit : ℕ) (v : ℤ) → 1 ≤ limit → Nearest (pos limit -ℤ pos 1) v (clamped limit v)
nearest limit (pos n) some = by (cases_lt n limit)
  where
    by : (n < limit) ⊎ (limit ≤ n) → Nearest (pos limit -ℤ pos 1) (pos n) (pos (min n (limit - 1)))
    by (inl lt) = inr (inr (omega (arith, ints), omega (arith, ints, lt), omega (arith, ints, lt)))
    by (inr ge) = inr (inl (omega (arith, ints, ge), omega (arith, ints, ge, some)))
nearest limit (negsuc n) some = inl (omega (arith, ints), omega (arith, ints))

-- two moves to one side from inside are one
joined_moves : (limit : ℕ) (x d e f : ℤ) → 1 ≤ limit → IsTrue (is_below x limit) → IsJoined d e f → clamped limit (clamped limit (x +ℤ d) +ℤ e) ≡ clamped limit (x +ℤ f)
joined_moves limit x d e f some below (sum, side) =
    let (n, is, lt) = below_is x limit below in
    let one = nearest limit (x +ℤ d) some in
    let two = nearest limit (clamped limit (x +ℤ d) +ℤ e) some in
    let both = nearest limit (x +ℤ f) some in
    omega (arith, ints, is, lt, sum, side, one, two, both)

-- the point itself is seen by no move, and no other
here_seen : (size : Size) (x y : ℤ) → IsTrue (in_frame size x y) → IsSeen size Clamp (pos 0) (pos 0) x y x y
here_seen size x y inside =
    let parts = inside_is size x y inside in
    let across : x +ℤ pos 0 ≡ x = omega (arith, ints) in
    let down : y +ℤ pos 0 ≡ y = omega (arith, ints) in
    (sym (ap (clamped size.width) across ∙ clamped_same size.width x parts.0), sym (ap (clamped size.height) down ∙ clamped_same size.height y parts.1))

-- a clamped read to the same sides
pub pushed_joined : (dx dy ex ey fx fy : ℤ) → IsJoined dx ex fx → IsJoined dy ey fy → IsPushed Clamp dx dy Clamp ex ey Clamp fx fy
pushed_joined dx dy ex ey fx fy across down size frame p x y inside u v is =
    let parts = inside_is size x y inside in
    ap (λ (r : ℤ). p (clamped size.width (r +ℤ ex)) (clamped size.height (v +ℤ ey))) is.0
    ∙ ap (λ (s : ℤ). p (clamped size.width (clamped size.width (x +ℤ dx) +ℤ ex)) (clamped size.height (s +ℤ ey))) is.1
    ∙ ap (λ (r : ℤ). p r (clamped size.height (clamped size.height (y +ℤ dy) +ℤ ey))) (joined_moves size.width x dx ex fx frame.some_columns parts.0 across)
    ∙ ap (p (clamped size.width (x +ℤ fx))) (joined_moves size.height y dy ey fy frame.some_rows parts.1 down)

-- a read from a moved point that is in the frame
pub pushed_added : (dx dy : ℤ) (edge : Edge) (ex ey fx fy : ℤ) → fx ≡ dx +ℤ ex → fy ≡ dy +ℤ ey → IsPushed Zero dx dy edge ex ey edge fx fy
pushed_added dx dy edge ex ey fx fy across down size frame p x y inside u v (one, two, there) =
    let r : u +ℤ ex ≡ x +ℤ fx = omega (arith, ints, one, across) in
    let s : v +ℤ ey ≡ y +ℤ fy = omega (arith, ints, two, down) in
    ap (λ t. edged size edge p t (v +ℤ ey)) r ∙ ap (edged size edge p (x +ℤ fx)) s

pub behind_clamped : (seen : Edge) (dx dy : ℤ) (edge : Edge) (ex ey fx fy : ℤ) → IsPushed seen dx dy edge ex ey Clamp fx fy → IsSeenBehind seen dx dy edge ex ey Clamp fx fy
behind_clamped seen dx dy edge ex ey fx fy pushed size frame p x y inside u v is =
    (clamped size.width (x +ℤ fx), clamped size.height (y +ℤ fy), (refl, refl), pushed size frame p x y inside u v is)

-- a move by nothing
pub from_here : (old new : Program) (a b : Tree) → HaveSameMoved old new Clamp (pos 0) (pos 0) a b → HaveSameValue old new a b
from_here old new a b has round is x y inside = has round is x y inside x y (here_seen old.size x y inside)

-- what stands for an expression of the new program serves as well
pub moved_standing : (old new : Program) → HaveSameInputs old new → (edge : Edge) (dx dy : ℤ) (a b c : Tree) → StandsFor new b c → HaveSameMoved old new edge dx dy a c → HaveSameMoved old new edge dx dy a b
moved_standing old new same edge dx dy a b c stands has round is x y inside u v seen =
    has round is x y inside u v seen ∙ sym (stands round (round_too old new same round is) x y (subst (λ (s : Size). IsTrue (in_frame s x y)) (sym same.size) inside))

-- an inline body that stays whole
pub moved_shifted : (old new : Program) → HaveSameInputs old new → IsProgram old → (seen : Edge) (dx dy : ℤ) (edge to : Edge) (ex ey fx fy : ℤ) (a b : Tree) → IsPushed seen dx dy edge ex ey to fx fy →
    HaveSameMoved old new Clamp (pos 0) (pos 0) a b → HaveSameMoved old new seen dx dy (shifted edge ex ey a) (shifted to fx fy b)
moved_shifted old new same program seen dx dy edge to ex ey fx fy a b pushed has round is x y inside u v there =
    pushed old.size program.frame (value old.size (pictures old round) a) x y inside u v there
    ∙ same_shifted old new same program to fx fy a b (from_here old new a b has) round is x y inside

-- an inline body that is taken apart
pub shows_apart : (new : Program) (at : Step) (edge : Edge) (ex ey : ℤ) (to : Step) (b : Tree) → IsSeenBehind at.edge at.dx at.dy edge ex ey to.edge to.dx to.dy → ShowsShifted new at edge ex ey to b b
shows_apart new at edge ex ey to b behind old program same body has round is x y inside u v seen =
    let (r, s, there, equal) = behind old.size program.frame (value old.size (pictures old round) body) x y inside u v seen in
    equal ∙ has round is x y inside r s there

-- an inline body under a frame test
pub shows_framed : (new : Program) (at : Step) (edge : Edge) (ex ey : ℤ) (to : Step) (e arm b : Tree) → to.edge ≡ Zero → IsPushed at.edge at.dx at.dy edge ex ey to.edge to.dx to.dy → StandsFor new b e → IsFramed new to.dx to.dy e arm →
    ShowsShifted new at edge ex ey to arm b
shows_framed new at edge ex ey to e arm b zero pushed stands framing old program same body has round is x y inside u v seen =
    pushed old.size program.frame (value old.size (pictures old round) body) x y inside u v seen
    ∙ ap (λ (k : Edge). edged old.size k (value old.size (pictures old round) body) (x +ℤ to.dx) (y +ℤ to.dy)) zero
    ∙ by (in_frame old.size (x +ℤ to.dx) (y +ℤ to.dy)) refl
    ∙ sym (ap (λ c. select_value c (value new.size (pictures new round) arm x y) (pos 0)) (framing.tests.1 round round_new x y inside_new))
    ∙ sym (ap (λ (k : Tree). value new.size (pictures new round) k x y) framing.is)
    ∙ sym (stands round round_new x y inside_new)
  where
    round_new : IsRound new round
    round_new = round_too old new same round is

    inside_new : IsTrue (in_frame new.size x y)
    inside_new = subst (λ (s : Size). IsTrue (in_frame s x y)) (sym same.size) inside

    by : (t : Bool) → in_frame old.size (x +ℤ to.dx) (y +ℤ to.dy) ≡ t →
        (if in_frame old.size (x +ℤ to.dx) (y +ℤ to.dy) then value old.size (pictures old round) body (x +ℤ to.dx) (y +ℤ to.dy) else pos 0)
        ≡ select_value (if in_frame new.size (x +ℤ to.dx) (y +ℤ to.dy) then pos 1 else pos 0) (value new.size (pictures new round) arm x y) (pos 0)
    by true there =
        ap (λ t. if t then value old.size (pictures old round) body (x +ℤ to.dx) (y +ℤ to.dy) else pos 0) there
        ∙ subst (λ (k : Edge). HaveSameMoved old new k to.dx to.dy body arm) zero has round is x y inside (x +ℤ to.dx) (y +ℤ to.dy) (refl, refl, there)
        ∙ sym (ap (λ t. select_value (if t then pos 1 else pos 0) (value new.size (pictures new round) arm x y) (pos 0)) (ap (λ (s : Size). in_frame s (x +ℤ to.dx) (y +ℤ to.dy)) same.size ∙ there))
    by false outside =
        ap (λ t. if t then value old.size (pictures old round) body (x +ℤ to.dx) (y +ℤ to.dy) else pos 0) outside
        ∙ sym (ap (λ t. select_value (if t then pos 1 else pos 0) (value new.size (pictures new round) arm x y) (pos 0)) (ap (λ (s : Size). in_frame s (x +ℤ to.dx) (y +ℤ to.dy)) same.size ∙ outside))

-- a number of 32 bits with a sign, and the word that holds it
pub from_word : (P : ℤ → Type 0) (z : ℤ) → FitsSigned w32 z → P (to_z w32 (of_z w32 z)) → P z
from_word P z fits p = subst P (to_z-of_z w32 z fits) p

pub to_word : (P : ℤ → Type 0) (z : ℤ) → FitsSigned w32 z → P z → P (to_z w32 (of_z w32 z))
to_word P z fits p = subst P (sym (to_z-of_z w32 z fits)) p

-- a step by its parts
pub parts_of : (P : Edge → ℤ → ℤ → Type 0) (s : Step) (edge : Edge) (dx dy : ℤ) → FitsSigned w32 dx → FitsSigned w32 dy → s.edge ≡ edge → s.dx ≡ to_z w32 (of_z w32 dx) → s.dy ≡ to_z w32 (of_z w32 dy) →
    P s.edge s.dx s.dy → P edge dx dy
parts_of P s edge dx dy sx sy e u v is =
    subst (λ (k : Edge). P k dx dy) e
    (from_word (λ x. P s.edge x dy) dx sx (subst (λ (x : ℤ). P s.edge x dy) u
    (from_word (λ y. P s.edge s.dx y) dy sy (subst (λ (y : ℤ). P s.edge s.dx y) v is))))
