-- Expressions of two programs with the same value, by their form.
use Rattle.std.proofs.Common.{◌≡◌, ℕ, ◌-◌, ◌<◌, ◌≤◌, min, Bool, true, false, ◌&&◌, List, length, ℤ, pos, negsuc, ◌+ℤ◌, Some, slice_get, refl, ap, sym, ◌∙◌, subst, arith, if◌then◌else◌}
use Rattle.std.specs.Prelude.{IsTrue}
use Rattle.std.proofs.lemmas.Bool.Decides.{nat_tests}
use Rattle.std.proofs.lemmas.Int.{ints}
use Rattle.dk_base.specs.Frames.{Size, IsFrame, Picture, is_below, in_frame, clamped, framed, picture_at}
use Rattle.pointwise_ir.specs.declared.program.Input.{Input}
use Rattle.pointwise_ir.specs.declared.expr.Edge.{Edge}
use Rattle.pointwise_ir.specs.declared.expr.Edge.TheVariants.{Zero, Clamp}
use Rattle.pointwise_ir.specs.Trees.{Tree, read, shifted}
use Rattle.pointwise_ir.specs.Programs.{Program, IsProgram}
use Rattle.pointwise_ir.specs.Meaning.{edged, value, pictures, IsPicture, IsRound}
use Rattle.dk_base.proofs.Rasters.{below_is, inside_is}
use Rattle.pointwise_ir.proofs.Agreement.{edged_agrees}
use Rattle.same_pictures.specs.Same.{HaveSamePicture}
use Rattle.same_pictures.specs.Matching.{HaveSameValue, StandsFor, HaveSameInputs}

-- a round of the old program is one of the new program
pub round_too : (old new : Program) → HaveSameInputs old new → (round : List Picture) → IsRound old round → IsRound new round
round_too old new same round is = record {
  one_each = is.one_each ∙ sym (ap length same.inputs);
  pictures = λ k input there.
      let at : slice_get old.inputs k ≡ Some input = ap (λ (xs : List Input). slice_get xs k) (sym same.inputs) ∙ there in
      subst (λ (s : Size). IsPicture s input.ty (picture_at round k)) (sym same.size) (is.pictures k input at);
}

-- a coordinate inside is its own nearest one
pub clamped_same : (limit : ℕ) (x : ℤ) → IsTrue (is_below x limit) → clamped limit x ≡ x
clamped_same limit x below =
    let (n, is, lt) = below_is x limit below in
    ap (clamped limit) is ∙ ap pos (let e : min n (limit - 1) ≡ n = omega (arith, lt) in e) ∙ sym is

clamped_below : (limit : ℕ) (x : ℤ) → 1 ≤ limit → is_below (clamped limit x) limit ≡ true
clamped_below limit (pos n) some = let lt : min n (limit - 1) < limit = omega (arith, some) in grind (arith, nat_tests, lt)
clamped_below limit (negsuc n) some = grind (arith, nat_tests, some)

pub clamped_inside : (size : Size) (x y : ℤ) → IsFrame size.width size.height → in_frame size (clamped size.width x) (clamped size.height y) ≡ true
clamped_inside size x y frame =
    ap (λ b. b && is_below (clamped size.height y) size.height) (clamped_below size.width x frame.some_columns) ∙ clamped_below size.height y frame.some_rows

-- at a point of the frame an edge shows the picture
pub edged_here : (size : Size) (edge : Edge) (p : Picture) (x y : ℤ) → IsTrue (in_frame size x y) → edged size edge p (x +ℤ pos 0) (y +ℤ pos 0) ≡ p x y
edged_here size edge p x y inside =
    let across : x +ℤ pos 0 ≡ x = omega (arith, ints) in
    let down : y +ℤ pos 0 ≡ y = omega (arith, ints) in
    ap (λ u. edged size edge p u (y +ℤ pos 0)) across ∙ ap (edged size edge p x) down ∙ by edge
  where
    by : (e : Edge) → edged size e p x y ≡ p x y
    by Zero = ap (λ b. if b then p x y else pos 0) inside
    by Clamp = let parts = inside_is size x y inside in ap (λ u. p u (clamped size.height y)) (clamped_same size.width x parts.0) ∙ ap (p x) (clamped_same size.height y parts.1)

-- an edge shows only what of a picture is in the frame
edged_same : (size : Size) → IsFrame size.width size.height → (edge : Edge) (p q : Picture) → ((x y : ℤ) → IsTrue (in_frame size x y) → p x y ≡ q x y) → (x y : ℤ) → edged size edge p x y ≡ edged size edge q x y
edged_same size frame Zero p q same x y = by (in_frame size x y) (same x y)
  where
    by : (b : Bool) → (IsTrue b → p x y ≡ q x y) → ◌≡◌ {A = ℤ} (if b then p x y else pos 0) (if b then q x y else pos 0)
    by true h = h refl
    by false h = refl
edged_same size frame Clamp p q same x y = same (clamped size.width x) (clamped size.height y) (clamped_inside size x y frame)

-- the body of an image stands for a read of the image at the point itself
pub body_stands : (p : Program) (edge : Edge) (g : ℕ) (e : Tree) → ((round : List Picture) → IsRound p round → (x y : ℤ) → picture_at (pictures p round) g x y ≡ framed p.size (value p.size (pictures p round) e) x y) →
    StandsFor p (read edge g (pos 0) (pos 0)) e
body_stands p edge g e shows round is x y inside =
    edged_here p.size edge (picture_at (pictures p round) g) x y inside ∙ shows round is x y ∙ ap (λ b. if b then value p.size (pictures p round) e x y else pos 0) inside

-- images whose bodies have the same value have the same picture
pub same_picture : (old new : Program) → HaveSameInputs old new → (g h : ℕ) (a b : Tree) →
    ((round : List Picture) → IsRound old round → (x y : ℤ) → picture_at (pictures old round) g x y ≡ framed old.size (value old.size (pictures old round) a) x y) →
    ((round : List Picture) → IsRound new round → (x y : ℤ) → picture_at (pictures new round) h x y ≡ framed new.size (value new.size (pictures new round) b) x y) →
    HaveSameValue old new a b → HaveSamePicture old new g h
same_picture old new same g h a b one other has round is x y =
    one round is x y ∙ by (in_frame old.size x y) refl ∙ ap (λ (s : Size). framed s (value new.size (pictures new round) b) x y) (sym same.size) ∙ sym (other round (round_too old new same round is) x y)
  where
    by : (t : Bool) → in_frame old.size x y ≡ t → framed old.size (value old.size (pictures old round) a) x y ≡ framed old.size (value new.size (pictures new round) b) x y
    by true inside = ap (λ t. if t then value old.size (pictures old round) a x y else pos 0) inside ∙ has round is x y inside ∙ sym (ap (λ t. if t then value new.size (pictures new round) b x y else pos 0) inside)
    by false outside = ap (λ t. if t then value old.size (pictures old round) a x y else pos 0) outside ∙ sym (ap (λ t. if t then value new.size (pictures new round) b x y else pos 0) outside)

pub same_read : (old new : Program) → HaveSameInputs old new → (edge : Edge) (g h : ℕ) (dx dy : ℤ) → HaveSamePicture old new g h → HaveSameValue old new (read edge g dx dy) (read edge h dx dy)
same_read old new same edge g h dx dy has round is x y inside =
    edged_agrees old.size edge (picture_at (pictures old round) g) (picture_at (pictures new round) h) (has round is) (x +ℤ dx) (y +ℤ dy)
    ∙ ap (λ (s : Size). edged s edge (picture_at (pictures new round) h) (x +ℤ dx) (y +ℤ dy)) (sym same.size)

pub same_shifted : (old new : Program) → HaveSameInputs old new → IsProgram old → (edge : Edge) (dx dy : ℤ) (a b : Tree) → HaveSameValue old new a b → HaveSameValue old new (shifted edge dx dy a) (shifted edge dx dy b)
same_shifted old new same program edge dx dy a b has round is x y inside =
    edged_same old.size program.frame edge (value old.size (pictures old round) a) (value new.size (pictures new round) b) (has round is) (x +ℤ dx) (y +ℤ dy)
    ∙ ap (λ (s : Size). edged s edge (value new.size (pictures new round) b) (x +ℤ dx) (y +ℤ dy)) (sym same.size)
