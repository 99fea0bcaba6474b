-- Where the steps of a leaf lead the expression reads, so the leaf's net has the pixel that is read.
use Rattle.std.proofs.Common.{◌≡◌, ◌⊎◌, ℕ, zero, suc, ◌+◌, ◌<◌, ◌≤◌, List, [], ◌∷◌, ◌++◌, length, Some, sym, ap, subst, ◌∙◌, inl, inr}
use Rattle.std.specs.Prelude.{ℤ, pos, ◌+ℤ◌, ◌-ℤ◌, IsTrue, slice_get, Contains}
use Rattle.std.proofs.lemmas.Option.{same_Some}
use Rattle.dk_base.specs.declared.ty.Ty.{Ty}
use Rattle.dk_base.specs.declared.stencils.LiveRead.{LiveRead}
use Rattle.dk_base.specs.Types.{IsType, IsIn}
use Rattle.dk_base.specs.Numbers.{number}
use Rattle.dk_base.specs.Frames.{Size, Picture, area, column, row, frame_of, in_frame, raster_offset, picture_at}
use Rattle.wiring.specs.declared.netlist.Net.{Net}
use Rattle.wiring.specs.Snapshot.{Snapshot, net_value}
use Rattle.pointwise_ir.specs.Programs.{Program, IsBody}
use Rattle.pointwise_ir.specs.Reads.{Reads, IsLive}
use Rattle.pointwise_ir.specs.Trees.{Tree, constant, read, shifted, unary, binary, select, convert, scale}
use Rattle.edge_select.specs.declared.step.Step.{Step}
use Rattle.edge_select.specs.Steps.{Lead, LeadBy}
use Rattle.edge_select.proofs.Stepping.{lead_one, lead_in_frame, way_of}
use Rattle.buffer_plan.specs.Plans.{Plan, ages_of, read_age, delay_of}
use Rattle.circuit.specs.Rounds.{Rounds, type_at, pixel_count, pictures_in}
use Rattle.circuit.specs.Leaves.{LeafRead, with_step, reads_of, ReadIsRight}
use Rattle.circuit.specs.Taps.{size_in, taps_at, TapsAreRight}
use Rattle.circuit.specs.Reads.{reads_in, IsLedTo, IsChosen}
use Rattle.circuit.proofs.Paths.{lead_last}
use Rattle.circuit.proofs.Tapped.{tap_is}

-- where a leaf's steps lead, the expression reads: so it is a live read
abbrev Made : Size → Tree → List Step → (x y : ℤ) → (g : ℕ) → (u v : ℤ) → Type 0
Made size e path x y g u v = (a : ℤ) × (b : ℤ) × Lead size path x y a b × Reads size e a b g u v

module _ (size : Size) (x y : ℤ) where
  either : (xs ys : List LeafRead) (i : ℕ) (leaf : LeafRead) → slice_get (xs ++ ys) i ≡ Some leaf → ((j : ℕ) × (slice_get xs j ≡ Some leaf)) ⊎ ((j : ℕ) × (slice_get ys j ≡ Some leaf))
  either [] ys i leaf e = inr (i, e)
  either (l ∷ xs) ys zero leaf e = inl (zero, e)
  either (l ∷ xs) ys (suc i) leaf e = elim (either xs ys i leaf e) as (λ _. ((j : ℕ) × (slice_get (l ∷ xs) j ≡ Some leaf)) ⊎ ((j : ℕ) × (slice_get ys j ≡ Some leaf))) [ inl h ↦ inl (suc h.0, h.1) | inr h ↦ inr h ]

  pub leaf_reads : (e : Tree) (path : List Step) (i : ℕ) (leaf : LeafRead) → slice_get (reads_of e path) i ≡ Some leaf → (u v : ℤ) → Lead size leaf.steps x y u v → Made size e path x y leaf.image u v
  leaf_reads (constant c t) path i leaf at u v led = cc
  leaf_reads (read edge g dx dy) path zero leaf at u v led =
      let same : record { image = g; steps = with_step path edge dx dy } ≡ leaf = same_Some (record { image = g; steps = with_step path edge dx dy }) leaf at in
      let r = lead_last size path edge dx dy x y u v (subst (λ (l : LeafRead). Lead size l.steps x y u v) (sym same) led) in
      (r.0, r.1, r.2, (sym (ap (λ (l : LeafRead). l.image) same), r.3))
  leaf_reads (read edge g dx dy) path (suc i) leaf at u v led = cc
  leaf_reads (shifted edge dx dy a) path i leaf at u v led =
      let deep = leaf_reads a (with_step path edge dx dy) i leaf at u v led in
      let r = lead_last size path edge dx dy x y deep.0 deep.1 deep.2 in
      (r.0, r.1, r.2, (deep.0, deep.1, r.3, deep.3))
  leaf_reads (unary op a) path i leaf at u v led = leaf_reads a path i leaf at u v led
  leaf_reads (binary op a b) path i leaf at u v led =
      elim (either (reads_of a path) (reads_of b path) i leaf at) as (λ _. Made size (binary op a b) path x y leaf.image u v) [
        | inl h ↦ (let r = leaf_reads a path h.0 leaf h.1 u v led in (r.0, r.1, r.2, inl r.3))
        | inr h ↦ (let r = leaf_reads b path h.0 leaf h.1 u v led in (r.0, r.1, r.2, inr r.3))
      ]
  leaf_reads (select c a b) path i leaf at u v led =
      elim (either (reads_of c path ++ reads_of a path) (reads_of b path) i leaf at) as (λ _. Made size (select c a b) path x y leaf.image u v) [
        | inl h ↦ elim (either (reads_of c path) (reads_of a path) h.0 leaf h.1) as (λ _. Made size (select c a b) path x y leaf.image u v) [
          | inl k ↦ (let r = leaf_reads c path k.0 leaf k.1 u v led in (r.0, r.1, r.2, inl r.3))
          | inr k ↦ (let r = leaf_reads a path k.0 leaf k.1 u v led in (r.0, r.1, r.2, inr (inl r.3)))
        ]
        | inr h ↦ (let r = leaf_reads b path h.0 leaf h.1 u v led in (r.0, r.1, r.2, inr (inr r.3)))
      ]
  leaf_reads (convert how a t) path i leaf at u v led = leaf_reads a path i leaf at u v led
  leaf_reads (scale op a m) path i leaf at u v led = leaf_reads a path i leaf at u v led

-- a live read's age, by the delays of the images at its ends
aged : (plan : Plan) (f g : ℕ) (size : Size) (r : LiveRead) → r.f ≡ f → r.g ≡ g → size_in plan ≡ size → (age : ℕ) → pos age ≡ read_age plan r → pos age ≡ pos (delay_of plan f) -ℤ pos (delay_of plan g) -ℤ raster_offset size r.dx r.dy
aged plan f g size r ef eg es age e =
    e
    ∙ ap (λ (a : ℕ). pos (delay_of plan a) -ℤ pos (delay_of plan r.g) -ℤ raster_offset (size_in plan) r.dx r.dy) ef
    ∙ ap (λ (a : ℕ). pos (delay_of plan f) -ℤ pos (delay_of plan a) -ℤ raster_offset (size_in plan) r.dx r.dy) eg
    ∙ ap (λ (z : Size). pos (delay_of plan f) -ℤ pos (delay_of plan g) -ℤ raster_offset z r.dx r.dy) es

-- A leaf of image f's body e, at pixel q of f.
module _ (p : Program) (rounds : Rounds) (plan : Plan) (taps : List (List Net)) (s : Snapshot) (t f q : ℕ) (e : Tree) (i : ℕ) (leaf : LeafRead) (value : ℕ)
    (body : IsBody p f e) (at : slice_get (reads_of e []) i ≡ Some leaf) (size_is : size_in plan ≡ p.size) (wide : 1 ≤ p.size.width) (high : 1 ≤ p.size.height) (some : 0 < area p.size) (inside : IsTrue (in_frame p.size (pos (column p.size q)) (pos (row p.size q))))
    (live : (dx dy : ℤ) → IsLive p f leaf.image dx dy → (r : LiveRead) × Contains (reads_in plan f) r × (r.g ≡ leaf.image) × (r.dx ≡ dx) × (r.dy ≡ dy))
    (right : (r : LiveRead) → Contains (reads_in plan f) r → TapsAreRight p rounds plan taps t s r.g) (typed : IsType (type_at p leaf.image)) (values : (k : ℕ) (x y : ℤ) → k < length rounds → IsIn (type_at p leaf.image) (picture_at (pictures_in p rounds k) leaf.image x y))
    (zero_is : number (type_at p leaf.image) 0 ≡ pos 0) (reader : (r : LiveRead) → Contains (reads_in plan f) r → r.f ≡ f) (since : q + delay_of plan f ≡ t) (low : q < pixel_count p rounds) where
  abbrev x : ℕ
  x = column p.size q

  abbrev y : ℕ
  y = row p.size q

  abbrev known : List Picture
  known = pictures_in p rounds (frame_of p.size q)

  abbrev ty : Ty
  ty = type_at p leaf.image

  -- a read by whose offset the steps lead is live
  leads_live : (dx dy : ℤ) → LeadBy p.size leaf.steps dx dy x y → IsLive p f leaf.image dx dy
  leads_live dx dy by = from (leaf_reads p.size (pos x) (pos y) e [] i leaf at (pos x +ℤ dx) (pos y +ℤ dy) by)
    where
      from : Made p.size e [] (pos x) (pos y) leaf.image (pos x +ℤ dx) (pos y +ℤ dy) → IsLive p f leaf.image dx dy
      from (a, b, (ea, eb), reads) =
          (e, body, pos x, pos y, inside, subst (λ (v : ℤ). Reads p.size e (pos x) v leaf.image (pos x +ℤ dx) (pos y +ℤ dy)) eb (subst (λ (u : ℤ). Reads p.size e u b leaf.image (pos x +ℤ dx) (pos y +ℤ dy)) ea reads))

  pub read_right : IsChosen p.size plan taps (reads_in plan f) leaf x y s value → ReadIsRight p.size known x y leaf (number ty value)
  read_right (inl to) =
      let dx = to.read.dx in
      let dy = to.read.dy in
      let tap = to.is_tap in
      let of_leaf : to.read.g ≡ leaf.image = to.of_image in
      let there = lead_in_frame p.size leaf.steps (pos x) (pos y) (pos x +ℤ dx) (pos y +ℤ dy) wide high inside to.leads in
      let is : number ty (net_value s to.tap) ≡ picture_at known leaf.image (pos x +ℤ dx) (pos y +ℤ dy) = tapped to there in
      record {
        led = λ u v on.
            let same = lead_one p.size leaf.steps (pos x) (pos y) (pos x +ℤ dx) (pos y +ℤ dy) u v to.leads on in
            ap (number ty) to.value_is
            ∙ is
            ∙ ap (λ (j : ℤ). picture_at known leaf.image j (pos y +ℤ dy)) same.0
            ∙ ap (picture_at known leaf.image u) same.1;
        none = λ nowhere. absurd (nowhere (pos x +ℤ dx, pos y +ℤ dy, to.leads));
      }
    where
      tapped : (to : IsLedTo p.size plan taps (reads_in plan f) leaf x y s value) → IsTrue (in_frame p.size (pos x +ℤ to.read.dx) (pos y +ℤ to.read.dy)) → number ty (net_value s to.tap) ≡ picture_at known leaf.image (pos x +ℤ to.read.dx) (pos y +ℤ to.read.dy)
      tapped to there =
          let r = to.read in
          let tap = to.is_tap in
          let same = to.of_image in
          let from = reader r to.among in
          tap_is p rounds plan taps s t f leaf.image some (subst (TapsAreRight p rounds plan taps t s) same (right r to.among)) typed values q r.dx r.dy tap.place tap.age to.tap since low there (aged plan f leaf.image p.size r from same size_is tap.age tap.is_age) (subst (λ (g : ℕ). slice_get (ages_of plan g) tap.place ≡ Some tap.age) same tap.aged) (subst (λ (g : ℕ). slice_get (taps_at plan taps g) tap.place ≡ Some to.tap) same tap.there)
  read_right (inr off) = record {
    led = λ u v on. absurd (nowhere (way_of p.size leaf.steps x y (u, v, on)));
    none = λ _. ap (number ty) off.value_is ∙ zero_is;
  }
    where
      nowhere : ((dx : ℤ) × (dy : ℤ) × LeadBy p.size leaf.steps dx dy x y) → ⊥
      nowhere (dx, dy, by) = found (live dx dy (leads_live dx dy by)) by
        where
          found : ((r : LiveRead) × Contains (reads_in plan f) r × (r.g ≡ leaf.image) × (r.dx ≡ dx) × (r.dy ≡ dy)) → LeadBy p.size leaf.steps dx dy x y → ⊥
          found (r, among, same, across, down) by =
              off.none r among same (subst (λ (z : ℤ). LeadBy p.size leaf.steps r.dx z x y) (sym down) (subst (λ (z : ℤ). LeadBy p.size leaf.steps z dy x y) (sym across) by))
