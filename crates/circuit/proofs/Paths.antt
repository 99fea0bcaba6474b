-- From the nets of an expression's leaves to its leaves, at each pixel.
use Rattle.std.proofs.Common.{◌≡◌, ℕ, ◌+◌, Bool, true, false, List, [], ◌∷◌, ◌++◌, length, Some, refl, sym, ap, subst, ◌∙◌, inl, inr, arith, length-append}
use Rattle.std.specs.Prelude.{ℤ, pos, ◌+ℤ◌, IsTrue, slice_get, if◌then◌else◌}
use Rattle.dk_base.specs.Frames.{Size, in_frame, clamped, Picture, picture_at}
use Rattle.wiring.proofs.Lists.{slice_get-append}
use Rattle.net_build.proofs.Drafts.{append_behind}
use Rattle.pointwise_ir.specs.declared.expr.Edge.{Edge}
use Rattle.pointwise_ir.specs.declared.expr.Edge.TheVariants.{Zero, Clamp}
use Rattle.pointwise_ir.specs.Trees.{Tree, constant, read, shifted, unary, binary, select, convert, scale}
use Rattle.pointwise_ir.specs.Meaning.{edged}
use Rattle.pointwise_ir.specs.Reads.{EndsAt}
use Rattle.datapath.specs.Expressions.{edge_bits, reads_in, bits_in}
use Rattle.edge_select.specs.declared.step.Step.{Step}
use Rattle.edge_select.specs.Steps.{Lead, LeadOn}
use Rattle.circuit.specs.Leaves.{LeafRead, with_step, reads_of, own_bit, bits_of, ReadIsRight, BitIsRight}
use Rattle.datapath.specs.Meant.{AreRight, SaysInside}
use Rattle.net_build.proofs.Clocks.{bool_cases, never}
use Rattle.dk_base.proofs.Unclamped.{ends_here, is_inside}
use Rattle.edge_select.proofs.Stepping.{lead_one, lead_then, lead_parts}

-- one step more
lead_push : (size : Size) (steps : List Step) (edge : Edge) (dx dy x y u v a b : ℤ) → Lead size steps x y u v → EndsAt size edge (u +ℤ dx) (v +ℤ dy) a b → Lead size (with_step steps edge dx dy) x y a b
lead_push size steps edge dx dy x y u v a b on ends = lead_then size steps ((record { edge = edge; dx = dx; dy = dy }) ∷ []) x y u v a b on (a, b, ends, (refl, refl))

pub lead_last : (size : Size) (steps : List Step) (edge : Edge) (dx dy x y a b : ℤ) → Lead size (with_step steps edge dx dy) x y a b → (u : ℤ) × (v : ℤ) × Lead size steps x y u v × EndsAt size edge (u +ℤ dx) (v +ℤ dy) a b
lead_last size steps edge dx dy x y a b on = by (lead_parts size steps ((record { edge = edge; dx = dx; dy = dy }) ∷ []) x y a b on)
  where
    by : ((u : ℤ) × (v : ℤ) × Lead size steps x y u v × Lead size ((record { edge = edge; dx = dx; dy = dy }) ∷ []) u v a b) → (u : ℤ) × (v : ℤ) × Lead size steps x y u v × EndsAt size edge (u +ℤ dx) (v +ℤ dy) a b
    by (u, v, first, (w, z, ends, (ea, eb))) = (u, v, first, subst (λ (p : ℤ). EndsAt size edge (u +ℤ dx) (v +ℤ dy) p b) (sym ea) (subst (λ (q : ℤ). EndsAt size edge (u +ℤ dx) (v +ℤ dy) w q) (sym eb) ends))

module _ (size : Size) (known : List Picture) (px py : ℕ) (reads : ℕ → ℤ) (bits : ℕ → Bool) where
  abbrev x : ℤ
  x = pos px

  abbrev y : ℤ
  y = pos py

  abbrev pub ReadsRight : List LeafRead → ℕ → Type 0
  ReadsRight leaves n = (i : ℕ) (leaf : LeafRead) → slice_get leaves i ≡ Some leaf → ReadIsRight size known px py leaf (reads (n + i))

  abbrev pub BitsRight : List (List Step) → ℕ → Type 0
  BitsRight all k = (i : ℕ) (steps : List Step) → slice_get all i ≡ Some steps → BitIsRight size px py steps (bits (k + i))

  left_reads : (xs ys : List LeafRead) (n : ℕ) → ReadsRight (xs ++ ys) n → ReadsRight xs n
  left_reads xs ys n h i leaf e = h i leaf (slice_get-append xs ys i leaf e)

  right_reads : (xs ys : List LeafRead) (n c : ℕ) → length xs ≡ c → ReadsRight (xs ++ ys) n → ReadsRight ys (n + c)
  right_reads xs ys n c long h i leaf e = subst (λ (j : ℕ). ReadIsRight size known px py leaf (reads j)) (let f : n + (length xs + i) ≡ n + c + i = omega (arith, long) in f) (h (length xs + i) leaf (append_behind xs ys i leaf e))

  left_bits : (xs ys : List (List Step)) (k : ℕ) → BitsRight (xs ++ ys) k → BitsRight xs k
  left_bits xs ys k h i steps e = h i steps (slice_get-append xs ys i steps e)

  right_bits : (xs ys : List (List Step)) (k c : ℕ) → length xs ≡ c → BitsRight (xs ++ ys) k → BitsRight ys (k + c)
  right_bits xs ys k c long h i steps e = subst (λ (j : ℕ). BitIsRight size px py steps (bits j)) (let f : k + (length xs + i) ≡ k + c + i = omega (arith, long) in f) (h (length xs + i) steps (append_behind xs ys i steps e))

  pub reads_long : (e : Tree) (path : List Step) → length (reads_of e path) ≡ reads_in e
  reads_long (constant v t) path = refl
  reads_long (read edge g dx dy) path = refl
  reads_long (shifted edge dx dy a) path = reads_long a (with_step path edge dx dy)
  reads_long (unary op a) path = reads_long a path
  reads_long (binary op a b) path = omega (arith, length-append (reads_of a path) (reads_of b path), reads_long a path, reads_long b path)
  reads_long (select c a b) path = omega (arith, length-append (reads_of c path ++ reads_of a path) (reads_of b path), length-append (reads_of c path) (reads_of a path), reads_long c path, reads_long a path, reads_long b path)
  reads_long (convert how a t) path = reads_long a path
  reads_long (scale op a m) path = reads_long a path

  own_long : (edge : Edge) (path : List Step) → length (own_bit edge path) ≡ edge_bits edge
  own_long Zero path = refl
  own_long Clamp path = refl

  pub bits_long : (e : Tree) (path : List Step) → length (bits_of e path) ≡ bits_in e
  bits_long (constant v t) path = refl
  bits_long (read edge g dx dy) path = refl
  bits_long (shifted edge dx dy a) path = omega (arith, length-append (own_bit edge (with_step path edge dx dy)) (bits_of a (with_step path edge dx dy)), own_long edge (with_step path edge dx dy), bits_long a (with_step path edge dx dy))
  bits_long (unary op a) path = bits_long a path
  bits_long (binary op a b) path = omega (arith, length-append (bits_of a path) (bits_of b path), bits_long a path, bits_long b path)
  bits_long (select c a b) path = omega (arith, length-append (bits_of c path ++ bits_of a path) (bits_of b path), length-append (bits_of c path) (bits_of a path), bits_long c path, bits_long a path, bits_long b path)
  bits_long (convert how a t) path = bits_long a path
  bits_long (scale op a m) path = bits_long a path

  -- a read
  read_is : (edge : Edge) (g : ℕ) (dx dy : ℤ) (path : List Step) (u v w : ℤ) → Lead size path x y u v → ReadIsRight size known px py (record { image = g; steps = with_step path edge dx dy }) w → w ≡ edged size edge (picture_at known g) (u +ℤ dx) (v +ℤ dy)
  read_is Clamp g dx dy path u v w at is = is.led (clamped size.width (u +ℤ dx)) (clamped size.height (v +ℤ dy)) (lead_push size path Clamp dx dy x y u v (clamped size.width (u +ℤ dx)) (clamped size.height (v +ℤ dy)) at (refl, refl))
  read_is Zero g dx dy path u v w at is =
      elim (bool_cases (in_frame size (u +ℤ dx) (v +ℤ dy))) as (λ _. w ≡ (if in_frame size (u +ℤ dx) (v +ℤ dy) then picture_at known g (u +ℤ dx) (v +ℤ dy) else pos 0)) [
        | inl inside ↦
            is.led (u +ℤ dx) (v +ℤ dy) (lead_push size path Zero dx dy x y u v (u +ℤ dx) (v +ℤ dy) at (ends_here size (u +ℤ dx) (v +ℤ dy) (is_true inside)))
            ∙ sym (ap (λ (h : Bool). if h then picture_at known g (u +ℤ dx) (v +ℤ dy) else pos 0) inside)
        | inr out ↦
            is.none (λ led. never (subst IsTrue out (there (lead_last size path Zero dx dy x y led.0 led.1 led.2))))
            ∙ sym (ap (λ (h : Bool). if h then picture_at known g (u +ℤ dx) (v +ℤ dy) else pos 0) out)
      ]
    where
      is_true : {h : Bool} → h ≡ true → IsTrue h
      is_true e = e

      there : {a b : ℤ} → ((i : ℤ) × (j : ℤ) × Lead size path x y i j × EndsAt size Zero (i +ℤ dx) (j +ℤ dy) a b) → IsTrue (in_frame size (u +ℤ dx) (v +ℤ dy))
      there {a} {b} (i, j, lead, ends) =
          let e = lead_one size path x y i j u v lead at in
          subst (λ (p : ℤ). IsTrue (in_frame size (p +ℤ dx) (v +ℤ dy))) e.0 (subst (λ (q : ℤ). IsTrue (in_frame size (i +ℤ dx) (q +ℤ dy))) e.1 (is_inside size (i +ℤ dx) (j +ℤ dy) a b ends))

  -- the bit of a shifted part
  bit_is : (dx dy : ℤ) (path : List Step) (u v : ℤ) (bit : Bool) → Lead size path x y u v → BitIsRight size px py (with_step path Zero dx dy) bit → bit ≡ in_frame size (u +ℤ dx) (v +ℤ dy)
  bit_is dx dy path u v bit at is = same bit (in_frame size (u +ℤ dx) (v +ℤ dy)) (λ on. there (is.no on)) (λ inside. is.yes (u +ℤ dx, v +ℤ dy, lead_push size path Zero dx dy x y u v (u +ℤ dx) (v +ℤ dy) at (ends_here size (u +ℤ dx) (v +ℤ dy) inside)))
    where
      same : (p q : Bool) → (IsTrue p → IsTrue q) → (IsTrue q → IsTrue p) → p ≡ q
      same true true f g = refl
      same false false f g = refl
      same true false f g = absurd (never (f refl))
      same false true f g = absurd (never (g refl))

      there : LeadOn size (with_step path Zero dx dy) px py → IsTrue (in_frame size (u +ℤ dx) (v +ℤ dy))
      there (a, b, led) =
          let r = lead_last size path Zero dx dy x y a b led in
          let e = lead_one size path x y r.0 r.1 u v r.2 at in
          subst (λ (p : ℤ). IsTrue (in_frame size (p +ℤ dx) (v +ℤ dy))) e.0 (subst (λ (q : ℤ). IsTrue (in_frame size (r.0 +ℤ dx) (q +ℤ dy))) e.1 (is_inside size (r.0 +ℤ dx) (r.1 +ℤ dy) a b r.3))

  own_bit_is : (edge : Edge) (dx dy : ℤ) (path : List Step) (u v : ℤ) (k : ℕ) → Lead size path x y u v → BitsRight (own_bit edge (with_step path edge dx dy)) k → SaysInside size edge (u +ℤ dx) (v +ℤ dy) (bits k)
  own_bit_is Zero dx dy path u v k at bs = bit_is dx dy path u v (bits k) at (subst (λ (j : ℕ). BitIsRight size px py (with_step path Zero dx dy) (bits j)) (let e : k + 0 ≡ k = omega arith in e) (bs 0 (with_step path Zero dx dy) refl))
  own_bit_is Clamp dx dy path u v k at bs = tt

  -- all leaves, where the steps lead to the expression's point
  pub leaves_are : (e : Tree) (path : List Step) (u v : ℤ) (n k : ℕ) → Lead size path x y u v → ReadsRight (reads_of e path) n → BitsRight (bits_of e path) k → AreRight size known e u v reads bits n k
  leaves_are (constant c t) path u v n k at rs bs = tt
  leaves_are (read edge g dx dy) path u v n k at rs bs = read_is edge g dx dy path u v (reads n) at (subst (λ (j : ℕ). ReadIsRight size known px py (record { image = g; steps = with_step path edge dx dy }) (reads j)) (let e : n + 0 ≡ n = omega arith in e) (rs 0 (record { image = g; steps = with_step path edge dx dy }) refl))
  leaves_are (shifted edge dx dy a) path u v n k at rs bs = (
    own_bit_is edge dx dy path u v k at (left_bits (own_bit edge (with_step path edge dx dy)) (bits_of a (with_step path edge dx dy)) k bs),
    λ i j ends. leaves_are a (with_step path edge dx dy) i j n (k + edge_bits edge) (lead_push size path edge dx dy x y u v i j at ends) rs
        (right_bits (own_bit edge (with_step path edge dx dy)) (bits_of a (with_step path edge dx dy)) k (edge_bits edge) (own_long edge (with_step path edge dx dy)) bs),
  )
  leaves_are (unary op a) path u v n k at rs bs = leaves_are a path u v n k at rs bs
  leaves_are (binary op a b) path u v n k at rs bs = (
    leaves_are a path u v n k at (left_reads (reads_of a path) (reads_of b path) n rs) (left_bits (bits_of a path) (bits_of b path) k bs),
    leaves_are b path u v (n + reads_in a) (k + bits_in a) at (right_reads (reads_of a path) (reads_of b path) n (reads_in a) (reads_long a path) rs) (right_bits (bits_of a path) (bits_of b path) k (bits_in a) (bits_long a path) bs),
  )
  leaves_are (select c a b) path u v n k at rs bs =
      let rca = reads_of c path ++ reads_of a path in
      let bca = bits_of c path ++ bits_of a path in
      let first_reads = left_reads rca (reads_of b path) n rs in
      let first_bits = left_bits bca (bits_of b path) k bs in
      let both_reads : length rca ≡ reads_in c + reads_in a = omega (arith, length-append (reads_of c path) (reads_of a path), reads_long c path, reads_long a path) in
      let both_bits : length bca ≡ bits_in c + bits_in a = omega (arith, length-append (bits_of c path) (bits_of a path), bits_long c path, bits_long a path) in (
        leaves_are c path u v n k at (left_reads (reads_of c path) (reads_of a path) n first_reads) (left_bits (bits_of c path) (bits_of a path) k first_bits),
        leaves_are a path u v (n + reads_in c) (k + bits_in c) at (right_reads (reads_of c path) (reads_of a path) n (reads_in c) (reads_long c path) first_reads) (right_bits (bits_of c path) (bits_of a path) k (bits_in c) (bits_long c path) first_bits),
        subst (λ (j : ℕ). AreRight size known b u v reads bits j (k + bits_in c + bits_in a)) (let e : n + (reads_in c + reads_in a) ≡ n + reads_in c + reads_in a = omega arith in e)
            (subst (λ (j : ℕ). AreRight size known b u v reads bits (n + (reads_in c + reads_in a)) j) (let e : k + (bits_in c + bits_in a) ≡ k + bits_in c + bits_in a = omega arith in e)
            (leaves_are b path u v (n + (reads_in c + reads_in a)) (k + (bits_in c + bits_in a)) at (right_reads rca (reads_of b path) n (reads_in c + reads_in a) both_reads rs) (right_bits bca (bits_of b path) k (bits_in c + bits_in a) both_bits bs))),
      )
  leaves_are (convert how a t) path u v n k at rs bs = leaves_are a path u v n k at rs bs
  leaves_are (scale op a m) path u v n k at rs bs = leaves_are a path u v n k at rs bs
