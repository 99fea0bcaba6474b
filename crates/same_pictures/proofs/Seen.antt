-- Expressions of the old program here, and expressions of the new one at a point that is seen from here.
use Rattle.std.proofs.Common.{◌≡◌, ℕ, List, Bool, true, false, if◌then◌else◌, ℤ, pos, ◌+ℤ◌, refl, ap, sym, ◌∙◌, subst, arith}
use Rattle.std.specs.Prelude.{IsTrue}
use Rattle.std.proofs.lemmas.Int.{ints}
use Rattle.dk_base.specs.Frames.{Size, Picture, in_frame, clamped, framed, picture_at}
use Rattle.dk_base.proofs.Rasters.{inside_is}
use Rattle.pointwise_ir.specs.declared.expr.Edge.{Edge}
use Rattle.pointwise_ir.specs.declared.expr.Edge.TheVariants.{Zero, Clamp}
use Rattle.pointwise_ir.specs.Trees.{Tree, read}
use Rattle.pointwise_ir.specs.Programs.{Program, IsProgram}
use Rattle.pointwise_ir.specs.Meaning.{edged, value, pictures, IsRound}
use Rattle.pointwise_ir.proofs.Agreement.{edged_agrees}
use Rattle.same_pictures.specs.declared.moves.Step.{Step}
use Rattle.same_pictures.specs.Same.{HaveSamePicture}
use Rattle.same_pictures.specs.Matching.{HaveSameInputs, HaveSameValue, HaveSameMoved, HaveSameBehind, VanishesOutside, StandsFor, IsSeen, IsPushed}
use Rattle.same_pictures.proofs.Values.{round_too, clamped_inside, clamped_same}

-- a point that is seen is in the frame
seen_inside : (p : Program) → IsProgram p → (edge : Edge) (dx dy x y u v : ℤ) → IsSeen p.size edge dx dy x y u v → IsTrue (in_frame p.size u v)
seen_inside p program Zero dx dy x y u v (one, two, there) = there
seen_inside p program Clamp dx dy x y u v seen =
    ap (λ r. in_frame p.size r v) seen.0 ∙ ap (in_frame p.size (clamped p.size.width (x +ℤ dx))) seen.1 ∙ clamped_inside p.size (x +ℤ dx) (y +ℤ dy) program.frame

-- an expression of the new program may be replaced by one of the same value
pub behind_standing : (old new : Program) → HaveSameInputs old new → IsProgram old → (edge : Edge) (dx dy : ℤ) (a b c : Tree) → StandsFor new b c → HaveSameBehind old new edge dx dy a c → HaveSameBehind old new edge dx dy a b
behind_standing old new same program edge dx dy a b c stands has round is x y inside u v seen =
    has round is x y inside u v seen
    ∙ sym (stands round (round_too old new same round is) u v (subst (λ (s : Size). IsTrue (in_frame s u v)) (sym same.size) (seen_inside old program edge dx dy x y u v seen)))

-- the same at the point itself
pub value_standing : (old new : Program) → HaveSameInputs old new → (a b c : Tree) → StandsFor new b c → HaveSameValue old new a c → HaveSameValue old new a b
value_standing old new same a b c stands has round is x y inside =
    has round is x y inside ∙ sym (stands round (round_too old new same round is) x y (subst (λ (s : Size). IsTrue (in_frame s x y)) (sym same.size) inside))

-- reads of a picture and of its counterpart
pub read_behind : (old new : Program) → HaveSameInputs old new → IsProgram old → (step by other : Step) (g h : ℕ) → HaveSamePicture old new g h →
    IsPushed step.edge step.dx step.dy other.edge other.dx other.dy by.edge by.dx by.dy →
    HaveSameBehind old new step.edge step.dx step.dy (read by.edge g by.dx by.dy) (read other.edge h other.dx other.dy)
read_behind old new same program step by other g h has pushed round is x y inside u v seen =
    sym (pushed old.size program.frame (picture_at (pictures old round) g) x y inside u v seen)
    ∙ edged_agrees old.size other.edge (picture_at (pictures old round) g) (picture_at (pictures new round) h) (has round is) (u +ℤ other.dx) (v +ℤ other.dy)
    ∙ ap (λ (s : Size). edged s other.edge (picture_at (pictures new round) h) (u +ℤ other.dx) (v +ℤ other.dy)) (sym same.size)

-- a read of a definition whose body has the value at the point that the read sees
pub behind_read : (old new : Program) → HaveSameInputs old new → IsProgram old → (h : ℕ) (edge : Edge) (dx dy : ℤ) (a e : Tree) →
    ((round : List Picture) → IsRound new round → (x y : ℤ) → picture_at (pictures new round) h x y ≡ framed new.size (value new.size (pictures new round) e) x y) →
    HaveSameBehind old new edge dx dy a e → (edge ≡ Zero → VanishesOutside dx dy a) → HaveSameValue old new a (read edge h dx dy)
behind_read old new same program h Clamp dx dy a e shows has none round is x y inside =
    has round is x y inside (clamped old.size.width (x +ℤ dx)) (clamped old.size.height (y +ℤ dy)) (refl, refl)
    ∙ ap (λ (s : Size). value new.size (pictures new round) e (clamped s.width (x +ℤ dx)) (clamped s.height (y +ℤ dy))) (sym same.size)
    ∙ sym (ap (λ t. if t then value new.size (pictures new round) e (clamped new.size.width (x +ℤ dx)) (clamped new.size.height (y +ℤ dy)) else pos 0) there)
    ∙ sym (shows round (round_too old new same round is) (clamped new.size.width (x +ℤ dx)) (clamped new.size.height (y +ℤ dy)))
  where
    there : in_frame new.size (clamped new.size.width (x +ℤ dx)) (clamped new.size.height (y +ℤ dy)) ≡ true
    there = subst (λ (s : Size). in_frame s (clamped s.width (x +ℤ dx)) (clamped s.height (y +ℤ dy)) ≡ true) (sym same.size) (clamped_inside old.size (x +ℤ dx) (y +ℤ dy) program.frame)
behind_read old new same program h Zero dx dy a e shows has none round is x y inside = by (in_frame old.size (x +ℤ dx) (y +ℤ dy)) refl
  where
    round_new : IsRound new round
    round_new = round_too old new same round is

    inside_new : (t : Bool) → in_frame old.size (x +ℤ dx) (y +ℤ dy) ≡ t → in_frame new.size (x +ℤ dx) (y +ℤ dy) ≡ t
    inside_new t there = ap (λ (s : Size). in_frame s (x +ℤ dx) (y +ℤ dy)) same.size ∙ there

    by : (t : Bool) → in_frame old.size (x +ℤ dx) (y +ℤ dy) ≡ t → value old.size (pictures old round) a x y ≡ framed new.size (picture_at (pictures new round) h) (x +ℤ dx) (y +ℤ dy)
    by true there =
        has round is x y inside (x +ℤ dx) (y +ℤ dy) (refl, refl, there)
        ∙ sym (ap (λ t. if t then value new.size (pictures new round) e (x +ℤ dx) (y +ℤ dy) else pos 0) (inside_new true there))
        ∙ sym (shows round round_new (x +ℤ dx) (y +ℤ dy))
        ∙ sym (ap (λ t. if t then picture_at (pictures new round) h (x +ℤ dx) (y +ℤ dy) else pos 0) (inside_new true there))
    by false outside =
        none refl old.size (pictures old round) x y outside
        ∙ sym (ap (λ t. if t then picture_at (pictures new round) h (x +ℤ dx) (y +ℤ dy) else pos 0) (inside_new false outside))
