-- Images of the new program, by their bodies.
use Rattle.std.proofs.Common.{◌≡◌, ℕ, ◌+◌, ◌*◌, ◌<◌, List, length, ℤ, pos, ◌+ℤ◌, ◌*ℤ◌, ap, sym, ◌∙◌, subst, arith, mul_comm, ◌/◌, ◌%◌, if◌then◌else◌}
use Rattle.std.specs.Prelude.{IsTrue}
use Rattle.std.proofs.lemmas.Nat.{div-add-mod', mod_below, div_below}
use Rattle.dk_base.specs.Frames.{Size, Picture, in_frame, clamped, framed, picture_at}
use Rattle.dk_base.specs.declared.ty.Ty.{Ty}
use Rattle.dk_base.specs.Operators.{select_value}
use Rattle.dk_types.specs.declared.typed.TypedRead.{TypedRead}
use Rattle.dk_types.specs.Typed.{Typed, constant, fetch, chosen, Typing}
use Rattle.dk_types.specs.Kept.{IsTyped}
use Rattle.dk_types.specs.Meaning.{meaning, value, read_value}
use Rattle.same_phases.specs.declared.role.Role.{Role}
use Rattle.same_phases.specs.declared.role.Role.TheVariants.{Phase, Column, Frame}
use Rattle.same_phases.specs.Phases.{phase_of, phases_of}
use Rattle.same_phases.specs.Roles.{IsSplit, HasOneEach, IsPhase, IsColumn, IsFrameTest, HasPhase, ReadsPhase, HasColumn, IsColumnOf, Plays, IsBodyOf, IsBrought, IsUnclamped, IsMovedColumn, StaysInPhase, IsNearer}
use Rattle.same_phases.proofs.Meant.{input_picture, definition_picture}
use Rattle.same_phases.proofs.Arithmetic.{column}
use Rattle.same_phases.proofs.Rounds.{length-phases, phase_at}
use Rattle.same_phases.proofs.PhaseReads.{AreSizes, frame_same, framed_same, unclamped_reads, clamped_reads, column_reads, chosen_column}

sizes_of : (n : ℕ) (old new : Typing) → IsSplit n old new → AreSizes n old.size new.size
sizes_of n old new split = record { some = split.some; most = split.most; width = split.width; height = split.height }

one_each_phase : (n : ℕ) (old new : Typing) → IsSplit n old new → (round : List Picture) → HasOneEach old round → length (phases_of n round) ≡ length new.inputs
one_each_phase n old new split round each = length-phases n round ∙ ap (λ k. n * k) each ∙ sym split.input_count

-- images
pub input_plays : (n : ℕ) (old new : Typing) → IsSplit n old new → (k p : ℕ) → k < length old.inputs → p < n → k * n + p < length new.inputs → IsPhase n old new k p (k * n + p)
input_plays n old new split k p there below there_too = record {
  below = below;
  shows = λ round each x y.
      ap (λ (q : Picture). q x y) (input_picture new (phases_of n round) (one_each_phase n old new split round each) (k * n + p) there_too
      ∙ phase_at n round k p (omega (arith, there, each)) below)
      ∙ sym (ap (λ (q : Picture). phase_of n p q x y) (input_picture old round each k there));
}

pub input_at : (n : ℕ) (old new : Typing) → IsSplit n old new → (h : ℕ) → h < length new.inputs → IsPhase n old new (h / n) (h % n) h
input_at n old new split h there =
    let some : 0 < n = omega (arith, split.some) in
    let whole : h / n * n + h % n ≡ h = div-add-mod' h n in
    let rest : h % n < n = mod_below h n some in
    let lt : h / n < length old.inputs = div_below h n (length old.inputs) some (let q = split.input_count in let turned = mul_comm n (length old.inputs) in omega (arith, there, q, turned)) in
    subst (λ (k : ℕ). IsPhase n old new (h / n) (h % n) k) whole (input_plays n old new split (h / n) (h % n) lt rest (omega (arith, whole, there)))

-- an image by its body
picture_of_body : (p : Typing) → IsTyped p → (round : List Picture) → length round ≡ length p.inputs → (g : ℕ) (e : Typed) → IsBodyOf p g e → (x y : ℤ) →
    picture_at (meaning p round) g x y ≡ framed p.size (value p.size (meaning p round) e) x y
picture_of_body p typed round each g e (d, (k, place, listed), is) x y =
    ap (λ n. picture_at (meaning p round) n x y) place ∙ definition_picture p typed round each k d listed x y
    ∙ ap (λ (b : Typed). framed p.size (value p.size (meaning p round) b) x y) is

pub phase_plays : (n : ℕ) (old new : Typing) → IsSplit n old new → IsTyped old → IsTyped new → (p : ℕ) → p < n → (g h : ℕ) (a b : Typed) → IsBodyOf old g a → IsBodyOf new h b → HasPhase n old new p a b → IsPhase n old new g p h
phase_plays n old new split old_typed new_typed p below g h a b of_old of_new has = record {
  below = below;
  shows = λ round each x y.
      picture_of_body new new_typed (phases_of n round) (one_each_phase n old new split round each) h b of_new x y
      ∙ framed_same n old.size new.size (sizes_of n old new split) p below (value old.size (meaning old round) a) (value new.size (meaning new (phases_of n round)) b) (has round each) x y
      ∙ sym (picture_of_body old old_typed round each g a of_old (column n x p) y);
}

-- in the frame an image is its body
inside_body : (n : ℕ) (old new : Typing) → IsSplit n old new → IsTyped new → (h : ℕ) (e : Typed) → IsBodyOf new h e → (round : List Picture) → HasOneEach old round → (x y : ℤ) → IsTrue (in_frame new.size x y) →
    picture_at (meaning new (phases_of n round)) h x y ≡ value new.size (meaning new (phases_of n round)) e x y
inside_body n old new split typed h e of_new round each x y within =
    picture_of_body new typed (phases_of n round) (one_each_phase n old new split round each) h e of_new x y
    ∙ ap (λ b. if b then value new.size (meaning new (phases_of n round)) e x y else pos 0) within

pub column_plays : (n : ℕ) (old new : Typing) → IsSplit n old new → IsTyped new → (g : ℕ) (c : ℤ) (h : ℕ) (e : Typed) → IsBodyOf new h e → HasColumn n old new g c e → IsColumn n old new g c h
column_plays n old new split typed g c h e of_new has round each x y within = inside_body n old new split typed h e of_new round each x y within ∙ has round each x y within

pub column_of_plays : (n : ℕ) (old new : Typing) → IsSplit n old new → IsTyped new → (role : Role) (h : ℕ) (e : Typed) → IsBodyOf new h e → IsColumnOf n old new role e → Plays n old new role h
column_of_plays n old new split typed (Phase g p) h e of_new is = absurd is
column_of_plays n old new split typed (Column g c) h e of_new has = column_plays n old new split typed g c h e of_new has
column_of_plays n old new split typed Frame h e of_new is = absurd is

pub frame_plays : (n : ℕ) (old new : Typing) → IsSplit n old new → IsTyped new → (h : ℕ) (e : Typed) → IsBodyOf new h e → (t : Ty) → e ≡ constant t 1 → IsFrameTest n old new h
frame_plays n old new split typed h e of_new t is round each x y =
    picture_of_body new typed (phases_of n round) (one_each_phase n old new split round each) h e of_new x y
    ∙ ap (λ (k : Typed). framed new.size (value new.size (meaning new (phases_of n round)) k) x y) is

-- reads
unclamped_value : (size : Size) (known : List Picture) (r : TypedRead) → IsUnclamped r → (x y : ℤ) → read_value size known r x y ≡ framed size (picture_at known r.image) (x +ℤ r.dx) (y +ℤ r.dy)
unclamped_value size known r is x y =
    ap (λ b. if b then picture_at known r.image (clamped size.width (x +ℤ r.dx)) (clamped size.height (y +ℤ r.dy)) else framed size (picture_at known r.image) (x +ℤ r.dx) (y +ℤ r.dy)) is

pub reads_unclamped : (n : ℕ) (old new : Typing) → IsSplit n old new → (p r : ℕ) (a b : TypedRead) → IsUnclamped a → IsUnclamped b → b.dy ≡ a.dy → IsMovedColumn n r b.dx p a.dx → IsPhase n old new a.image r b.image → ReadsPhase n old new p a b
reads_unclamped n old new split p r a b one other down is phase round each x y within =
    let known = meaning new (phases_of n round) in
    unclamped_value new.size known b other x y
    ∙ ap (λ v. framed new.size (picture_at known b.image) (x +ℤ b.dx) (y +ℤ v)) down
    ∙ unclamped_reads n old.size new.size (sizes_of n old new split) p r phase.below b.dx a.dx a.dy is (picture_at (meaning old round) a.image) (picture_at known b.image) (phase.shows round each) x y
    ∙ sym (unclamped_value old.size (meaning old round) a one (column n x p) y)

-- the point of phase p is in the old frame
within_old : (n : ℕ) (old new : Typing) → IsSplit n old new → (p : ℕ) → p < n → (x y : ℤ) → IsTrue (in_frame new.size x y) → IsTrue (in_frame old.size (column n x p) y)
within_old n old new split p below x y within = frame_same n old.size new.size (sizes_of n old new split) p below x y ∙ within

pub reads_clamped : (n : ℕ) (old new : Typing) → IsSplit n old new → (p r : ℕ) → p < n → (a b : TypedRead) → IsBrought a → IsBrought b → b.dy ≡ a.dy → IsMovedColumn n r b.dx p a.dx → StaysInPhase n b.dx r → IsPhase n old new a.image r b.image → ReadsPhase n old new p a b
reads_clamped n old new split p r below a b one other down is stays phase round each x y within =
    let known = meaning new (phases_of n round) in
    other new.size known x y within
    ∙ ap (λ v. picture_at known b.image (clamped new.size.width (x +ℤ b.dx)) (clamped new.size.height (y +ℤ v))) down
    ∙ clamped_reads n old.size new.size (sizes_of n old new split) p r phase.below b.dx a.dx a.dy is stays (picture_at (meaning old round) a.image) (picture_at known b.image) (phase.shows round each) x y within
    ∙ sym (one old.size (meaning old round) (column n x p) y (within_old n old new split p below x y within))

pub reads_column : (n : ℕ) (old new : Typing) → IsSplit n old new → (p : ℕ) → p < n → (c : ℤ) (a b : TypedRead) → IsBrought a → IsBrought b → b.dy ≡ a.dy → b.dx ≡ pos 0 → c ≡ (pos p +ℤ a.dx) → IsColumn n old new a.image c b.image → ReadsPhase n old new p a b
reads_column n old new split p below c a b one other down here is shows round each x y within =
    let known = meaning new (phases_of n round) in
    other new.size known x y within
    ∙ ap (λ u. picture_at known b.image (clamped new.size.width (x +ℤ u)) (clamped new.size.height (y +ℤ b.dy))) here
    ∙ ap (λ v. picture_at known b.image (clamped new.size.width (x +ℤ pos 0)) (clamped new.size.height (y +ℤ v))) down
    ∙ column_reads n old.size new.size (sizes_of n old new split) p c a.dx a.dy is (picture_at (meaning old round) a.image) (picture_at known b.image) (shows round each) x y within
    ∙ sym (one old.size (meaning old round) (column n x p) y (within_old n old new split p below x y within))

-- a column's body
pub has_column : (n : ℕ) (old new : Typing) → IsSplit n old new → (g r e : ℕ) (c : ℤ) (t u v w : Ty) (f h i : TypedRead) → IsUnclamped f → IsUnclamped h → IsBrought i → h.dx ≡ f.dx → f.dy ≡ pos 0 → h.dy ≡ pos 0 → i.dy ≡ pos 0 →
    c ≡ ((pos n *ℤ f.dx) +ℤ pos r) → IsNearer n f.dx i.dx e → IsFrameTest n old new f.image → IsPhase n old new g r h.image → IsPhase n old new g e i.image → HasColumn n old new g c (chosen t (fetch u f) (fetch v h) (fetch w i))
has_column n old new split g r e c t u v w f h i one other third same_x down_f down_h down_i is nearer tests shows ends round each x y within =
    let known = meaning new (phases_of n round) in
    let pf = picture_at known f.image in
    let ph = picture_at known h.image in
    let pi = picture_at known i.image in
    let s = new.size in
    ap (λ k. select_value k (read_value s known h x y) (read_value s known i x y)) (unclamped_value s known f one x y ∙ ap (λ d. framed s pf (x +ℤ f.dx) (y +ℤ d)) down_f)
    ∙ ap (λ k. select_value (framed s pf (x +ℤ f.dx) (y +ℤ pos 0)) k (read_value s known i x y))
    (unclamped_value s known h other x y ∙ ap (λ d. framed s ph (x +ℤ d) (y +ℤ h.dy)) same_x ∙ ap (λ d. framed s ph (x +ℤ f.dx) (y +ℤ d)) down_h)
    ∙ ap (select_value (framed s pf (x +ℤ f.dx) (y +ℤ pos 0)) (framed s ph (x +ℤ f.dx) (y +ℤ pos 0)))
    (third s known x y within ∙ ap (λ d. pi (clamped s.width (x +ℤ i.dx)) (clamped s.height (y +ℤ d))) down_i)
    ∙ chosen_column n old.size s (sizes_of n old new split) r e shows.below ends.below f.dx i.dx c is nearer (picture_at (meaning old round) g) pf ph pi (tests round each) (shows.shows round each) (ends.shows round each) x y within
