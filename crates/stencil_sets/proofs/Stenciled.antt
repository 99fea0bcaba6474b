-- The parts of a program's stencils are stencils, where the reads are not too many.
use Rattle.std.proofs.Common.{◌≡◌, ℕ, zero, suc, ◌≤◌, ◌<◌, ℤ, pos, ◌+ℤ◌, ◌⊎◌, inl, inr, IsTrue, List, [], ◌∷◌, length, slice_index_or, Contains, refl, sym, subst, arith}
use Rattle.std.proofs.lemmas.Int.{ints, clamps}
use Rattle.std.proofs.lemmas.Bool.{cases_lt}
use Rattle.std.proofs.lemmas.List.Elements.{All-from_get_or}
use Rattle.dk_base.specs.declared.stencils.LiveRead.{LiveRead}
use Rattle.dk_base.specs.declared.stencils.Image.{Image}
use Rattle.dk_base.specs.Frames.{Size, in_frame, is_below, clamped}
use Rattle.dk_base.specs.Stencils.{IsStencils, IsRead, IsOffset, IsKept, AreKeptImages, AreOutputs}
use Rattle.pointwise_ir.specs.declared.expr.Edge.{Edge}
use Rattle.pointwise_ir.specs.declared.expr.Edge.TheVariants.{Zero, Clamp}
use Rattle.pointwise_ir.specs.Trees.{Tree, constant, read, shifted, unary, binary, select, convert, scale}
use Rattle.pointwise_ir.specs.Programs.{Program, IsProgram}
use Rattle.pointwise_ir.specs.Reads.{EndsAt, Reads, reached, output}
use Rattle.pointwise_ir.specs.Stencils.{IsKeptRead, AreReads, AreImages}
use Rattle.stencil_sets.specs.Live.{AreSome, HasCount}
use Rattle.frame_paths.proofs.Chains.{IsInside, inside_is, clamped_is}
use Rattle.frame_paths.proofs.Walks.{both_true}
use Rattle.stencil_sets.proofs.Marked.{read_below}

pub record InFrame (size : Size) (x y : ℤ) : Type 0 where
  pub across : IsInside size.width x
  pub down : IsInside size.height y

pub in_frame_is : (size : Size) (x y : ℤ) → IsTrue (in_frame size x y) → InFrame size x y
in_frame_is size x y t = let b = both_true (is_below x size.width) (is_below y size.height) t in record { across = inside_is size.width x b.0; down = inside_is size.height y b.1 }

clamped_inside : (side : ℕ) (v : ℤ) → 1 ≤ side → IsInside side (clamped side v)
clamped_inside side v h = let e = clamped_is side v h in subst (IsInside side) (sym e) (record { low = omega (arith, ints, clamps, h); high = omega (arith, ints, clamps, h) })

end_inside : (size : Size) (edge : Edge) (x y u v : ℤ) → 1 ≤ size.width → 1 ≤ size.height → EndsAt size edge x y u v → InFrame size u v
end_inside size Zero x y u v w h e = record { across = subst (IsInside size.width) (sym e.0.0) (inside_is size.width x e.0.1); down = subst (IsInside size.height) (sym e.1.0) (inside_is size.height y e.1.1) }
end_inside size Clamp x y u v w h e = record { across = subst (IsInside size.width) (sym e.0) (clamped_inside size.width x w); down = subst (IsInside size.height) (sym e.1) (clamped_inside size.height y h) }

-- what is read lies in the frame
pub read_inside : (size : Size) → 1 ≤ size.width → 1 ≤ size.height → (e : Tree) (x y : ℤ) (g : ℕ) (u v : ℤ) → Reads size e x y g u v → InFrame size u v
read_inside size w h (constant c t) x y g u v r = absurd r
read_inside size w h (read edge i dx dy) x y g u v r = end_inside size edge (x +ℤ dx) (y +ℤ dy) u v w h r.1
read_inside size w h (shifted edge dx dy b) x y g u v r = read_inside size w h b r.0 r.1 g u v r.3
read_inside size w h (unary o b) x y g u v r = read_inside size w h b x y g u v r
read_inside size w h (binary o b d) x y g u v (inl r) = read_inside size w h b x y g u v r
read_inside size w h (binary o b d) x y g u v (inr r) = read_inside size w h d x y g u v r
read_inside size w h (select c b d) x y g u v (inl r) = read_inside size w h c x y g u v r
read_inside size w h (select c b d) x y g u v (inr (inl r)) = read_inside size w h b x y g u v r
read_inside size w h (select c b d) x y g u v (inr (inr r)) = read_inside size w h d x y g u v r
read_inside size w h (convert k b t) x y g u v r = read_inside size w h b x y g u v r
read_inside size w h (scale o b k) x y g u v r = read_inside size w h b x y g u v r

pub offset_inside : (side : ℕ) (x d : ℤ) → IsInside side x → IsInside side (x +ℤ d) → IsOffset side d
offset_inside side x d a b =
    let al = a.low in let ah = a.high in let bl = b.low in let bh = b.high in
    record { low = omega (arith, ints, al, ah, bl, bh); high = omega (arith, ints, al, ah, bl, bh) }

-- a live read of a kept image is one between kept images
read_kept : (p : Program) → IsProgram p → (images : List Image) → AreImages p images → (r : LiveRead) → IsKeptRead p r.f r.g r.dx r.dy → IsRead p.size.width p.size.height (length p.inputs) images r
read_kept p is images are r k =
    let l = k.live in
    let body = l.1 in
    let at = body.1 in
    let low = read_below p is body.0 l.0 body.2 r.g r.dx r.dy (l.2, l.3, l.4, l.5) in
    let here = in_frame_is p.size l.2 l.3 l.4 in
    let there = read_inside p.size is.frame.some_columns is.frame.some_rows l.0 l.2 l.3 r.g (l.2 +ℤ r.dx) (l.3 +ℤ r.dy) l.5 in
    record {
      reader_kept = are.complete r.f k.kept;
      source_kept = are.complete r.g (reached r.f r.g r.dx r.dy k.kept l);
      no_input = omega (arith, at);
      earlier = omega (arith, at, low);
      across = offset_inside p.size.width l.2 r.dx here.across there.across;
      down = offset_inside p.size.height l.3 r.dy here.down there.down;
    }

no_read : LiveRead
no_read = record { f = 0; g = 0; dx = pos 0; dy = pos 0 }

contains_entry : {X : Type 0} (xs : List X) (i : ℕ) (d : X) → i < length xs → Contains xs (slice_index_or xs i d)
contains_entry {X = X} xs i d h = (i, h, same xs i d (slice_index_or xs i d) h)
  where
    same : (xs : List X) (i : ℕ) (d e : X) → i < length xs → slice_index_or xs i e ≡ slice_index_or xs i d
    same [] i d e h = absurd (omega (arith, h))
    same (x ∷ xs) zero d e h = refl
    same (x ∷ xs) (suc i) d e h = same xs i d e (omega (arith, h))

outputs_are : (p : Program) → IsProgram p → (images : List Image) → AreImages p images → AreOutputs images p.outputs
outputs_are p is images are = record {
  some_outputs = is.some_outputs;
  most_outputs = is.most_outputs;
  distinct = is.distinct;
  outputs_kept = All-from_get_or (IsKept images) p.outputs 0 (λ i h. are.complete (slice_index_or p.outputs i 0) (output (slice_index_or p.outputs i 0) (contains_entry p.outputs i 0 h)));
}

pub stencils_are : (p : Program) → IsProgram p → (images : List Image) (reads : List LiveRead) → AreImages p images → AreKeptImages (length p.inputs) images → AreReads p reads → length reads ≤ 4096
    → IsStencils (record { width = p.size.width; height = p.size.height; inputs = length p.inputs; outputs = p.outputs; images = images; reads = reads })
stencils_are p is images reads are form exact few = record {
  frame = is.frame;
  images = form;
  outputs = outputs_are p is images are;
  reads = record {
    most_reads = few;
    in_order = exact.in_order;
    between = All-from_get_or (IsRead p.size.width p.size.height (length p.inputs) images) reads no_read (λ i h.
        read_kept p is images are (slice_index_or reads i no_read) ((exact.exact (slice_index_or reads i no_read).f (slice_index_or reads i no_read).g (slice_index_or reads i no_read).dx (slice_index_or reads i no_read).dy).0 (contains_entry reads i no_read h)));
  };
}

some_of_all : (p : Program) (reads : List LiveRead) → AreReads p reads → AreSome p reads
some_of_all p reads a = record { in_order = a.in_order; sound = λ f g dx dy h. (a.exact f g dx dy).0 h }

-- how many there are
pub counted : (p : Program) (reads : List LiveRead) (count : ℕ) → AreReads p reads → (length reads ≤ 65536 → count ≡ length reads) → (65536 < length reads → count ≡ 65537) → (length reads ≤ 4096 → ⊥) → (4096 < count) × HasCount p count
counted p reads count a few many none = which (cases_lt 65536 (length reads)) (cases_lt 4096 (length reads))
  where
    which : (65536 < length reads) ⊎ (length reads ≤ 65536) → (4096 < length reads) ⊎ (length reads ≤ 4096) → (4096 < count) × HasCount p count
    which s (inr l) = absurd (none l)
    which (inl m) (inl l) = let e = many m in (omega (arith, e), inr (record { reads = reads; some = some_of_all p reads a; many = m; count_is = e }))
    which (inr f) (inl l) = let e = few f in (omega (arith, e, l), inl (record { reads = reads; exact = a; count_is = e; few = omega (arith, e, f) }))

pub too_many : (p : Program) → IsProgram p → (images : List Image) (reads : List LiveRead) → AreImages p images → AreKeptImages (length p.inputs) images → AreReads p reads
    → (size : Size) (inputs : ℕ) (outputs : List ℕ) → size ≡ p.size → inputs ≡ length p.inputs → outputs ≡ p.outputs
    → (IsStencils (record { width = size.width; height = size.height; inputs = inputs; outputs = outputs; images = images; reads = reads }) → ⊥) → length reads ≤ 4096 → ⊥
too_many p is images reads are form exact size inputs outputs s i o none few =
    none (subst (λ z. IsStencils (record { width = z.width; height = z.height; inputs = inputs; outputs = outputs; images = images; reads = reads })) (sym s)
    (subst (λ n. IsStencils (record { width = p.size.width; height = p.size.height; inputs = n; outputs = outputs; images = images; reads = reads })) (sym i)
    (subst (λ xs. IsStencils (record { width = p.size.width; height = p.size.height; inputs = length p.inputs; outputs = xs; images = images; reads = reads })) (sym o)
    (stencils_are p is images reads are form exact few))))
