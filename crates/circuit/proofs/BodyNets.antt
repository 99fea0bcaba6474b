-- From the nets of a body's leaves to the net of the image.
use Rattle.std.proofs.Common.{◌≡◌, ℕ, zero, suc, ◌+◌, ◌-◌, ◌^◌, ◌<◌, ◌==◌, nat_lt, Bool, true, false, List, [], ◌∷◌, length, Some, refl, sym, ap, subst, ◌∙◌, arith, cond}
use Rattle.std.specs.Prelude.{ℤ, pos, ◌-ℤ◌, IsTrue, Contains, filter, slice_get, slice_index_or, if◌then◌else◌}
use Rattle.std.proofs.Math.Pow.{pow_pos}
use Rattle.std.proofs.lemmas.Bool.Decides.{nat_tests}
use Rattle.std.proofs.lemmas.Nat.{div_below}
use Rattle.std.proofs.lemmas.Option.{slice_get_within}
use Rattle.dk_base.specs.declared.ty.Ty.{Ty}
use Rattle.dk_base.specs.declared.ty.Ty.TheVariants.{Unsigned, Signed}
use Rattle.dk_base.specs.declared.stencils.Image.{Image}
use Rattle.dk_base.specs.declared.stencils.LiveRead.{LiveRead}
use Rattle.dk_base.specs.Types.{IsType, IsIn, above, width_of as bits_of_type}
use Rattle.dk_base.specs.Numbers.{number}
use Rattle.dk_base.specs.Frames.{Size, Picture, area, column, row, frame_of, in_frame, framed, picture_at}
use Rattle.dk_base.specs.Stencils.{place, IsRead}
use Rattle.dk_base.proofs.Orders.{at_place}
use Rattle.wiring.specs.declared.netlist.Net.{Net}
use Rattle.wiring.specs.Netlist.{Netlist}
use Rattle.wiring.specs.Snapshot.{Contents, Snapshot, net_value}
use Rattle.wiring.specs.Clock.{Clock}
use Rattle.wiring.specs.History.{counted}
use Rattle.pointwise_ir.specs.Programs.{Program, IsProgram, IsBody, types_of}
use Rattle.pointwise_ir.specs.Meaning.{pictures, value, IsRound, IsPicture}
use Rattle.pointwise_ir.specs.Reads.{IsLive, Kept}
use Rattle.pointwise_ir.specs.Stencils.{the, AreStencilsOf}
use Rattle.pointwise_ir.specs.Trees.{Tree}
use Rattle.pointwise_ir.proofs.Defined.{types_are}
use Rattle.edge_select.specs.declared.step.Step.{Step}
use Rattle.edge_select.specs.Steps.{LeadOn}
use Rattle.edge_select.specs.Pixels.{IsBitOf}
use Rattle.edge_select.proofs.Walks.{pixel_inside}
use Rattle.edge_select.proofs.Raster.{some_area}
use Rattle.datapath.specs.Expressions.{IsLowered, type_of, types_in, type_or, worth_in, worth_or, set_in}
use Rattle.buffer_plan.specs.Plans.{Plan, IsPlan, delay_of}
use Rattle.circuit.specs.Runs.{IsRunning}
use Rattle.circuit.specs.Rounds.{Rounds, AreRounds, type_at, pixel_count, pictures_in, pixel_bits}
use Rattle.circuit.specs.Leaves.{LeafRead, reads_of, bits_of, ReadIsRight, BitIsRight}
use Rattle.circuit.specs.Taps.{Keeps, size_in, TapsAreRight}
use Rattle.circuit.specs.Reads.{reads_in, IsChosen, AreLeafNets}
use Rattle.circuit.specs.Images.{IsBodyNet}
use Rattle.circuit.proofs.Placing.{columns_below, rows_below}
use Rattle.circuit.proofs.Reading.{read_right}
use Rattle.circuit.proofs.BodyPixels.{bit_right, pixel_right}

-- 0 is 0 in each type
pub zero_number : (t : Ty) → number t 0 ≡ pos 0
unfolding number
zero_number t = ap (λ (b : Bool). if b then pos 0 else pos 0 -ℤ pos (2 ^ bits_of_type t)) (low t)
  where
    low : (t : Ty) → nat_lt 0 (above t) ≡ true
    low (Unsigned n) = (let h = pow_pos n in grind (arith, nat_tests, h))
    low (Signed n) = (let h = pow_pos (n - 1) in grind (arith, nat_tests, h))

-- an entry for each of another list
pub entry_of : {X Y : Type 0} (xs : List X) (ys : List Y) (k : ℕ) (y : Y) → length ys ≡ length xs → slice_get ys k ≡ Some y → (x : X) × (slice_get xs k ≡ Some x)
entry_of [] ys k y long at = absurd (let lt = slice_get_within ys k y at in let f : ⊥ = omega (arith, lt, long) in f)
entry_of (x ∷ xs) [] k y long at = absurd (let f : ⊥ = cc in f)
entry_of (x ∷ xs) (z ∷ ys) zero y long at = (x, refl)
entry_of (x ∷ xs) (z ∷ ys) (suc k) y long at = entry_of xs ys k y (let e : length ys ≡ length xs = omega (arith, long) in e) at

-- what passes a test, and what does not
pub passed_in : {X : Type 0} (test : X → Bool) (xs : List X) (x : X) → Contains (filter test xs) x → Contains xs x × (test x ≡ true)
passed_in test [] x (k, lt, e) = absurd (let f : ⊥ = omega (arith, lt) in f)
passed_in {X} test (y ∷ xs) x has = by (test y) refl has (λ h. passed_in test xs x h)
  where
    later : Contains xs x × (test x ≡ true) → Contains (y ∷ xs) x × (test x ≡ true)
    later ((k, lt, e), t) = ((suc k, (let h : suc k < length (y ∷ xs) = omega (arith, lt) in h), e), t)

    by : (b : Bool) → test y ≡ b → Contains (cond b (y ∷ filter test xs) (filter test xs)) x → (Contains (filter test xs) x → Contains xs x × (test x ≡ true)) → Contains (y ∷ xs) x × (test x ≡ true)
    by true t (zero, lt, e) rest = ((0, omega arith, e), ap test (sym e) ∙ t)
    by true t (suc k, lt, e) rest = later (rest (k, (let h : k < length (filter test xs) = omega (arith, lt) in h), e))
    by false t has rest = later (rest has)

pub passing_in : {X : Type 0} (test : X → Bool) (xs : List X) (x : X) → Contains xs x → test x ≡ true → Contains (filter test xs) x
passing_in test [] x (k, lt, e) t = absurd (let f : ⊥ = omega (arith, lt) in f)
passing_in test (y ∷ xs) x has t = by (test y) refl has (λ h. passing_in test xs x h t)
  where
    by : (b : Bool) → test y ≡ b → Contains (y ∷ xs) x → (Contains xs x → Contains (filter test xs) x) → Contains (cond b (y ∷ filter test xs) (filter test xs)) x
    by true u (zero, lt, e) rest = (0, omega arith, e)
    by true u (suc k, lt, e) rest = (let r = rest (k, (let h : k < length xs = omega (arith, lt) in h), e) in (suc r.0, (let low = r.1 in let h : suc r.0 < length (y ∷ filter test xs) = omega (arith, low) in h), r.2))
    by false u (zero, lt, e) rest = absurd (let f : false ≡ true = sym u ∙ ap test e ∙ t in let g : ⊥ = cc in g)
    by false u (suc k, lt, e) rest = rest (k, (let h : k < length xs = omega (arith, lt) in h), e)

-- the reads of image f are reads of the plan
pub read_of : (plan : Plan) (f : ℕ) (r : LiveRead) → Contains (reads_in plan f) r → Contains plan.system.stencils.reads r × (r.f ≡ f)
read_of plan f r has =
    let both = passed_in (λ (q : LiveRead). q.f == f) plan.system.stencils.reads r has in
    (both.0, equal r.f f both.1)
  where
    equal : (a b : ℕ) → (a == b) ≡ true → a ≡ b
    equal a b h = grind (arith, nat_tests, h)

pub read_is_between : (plan : Plan) → IsPlan plan → (r : LiveRead) → Contains plan.system.stencils.reads r → IsRead plan.system.stencils.width plan.system.stencils.height plan.system.stencils.inputs plan.system.stencils.images r
read_is_between plan is r (k, lt, e) = subst (IsRead plan.system.stencils.width plan.system.stencils.height plan.system.stencils.inputs plan.system.stencils.images) e (is.system.stencils.reads.between k r lt)

pub size_is : (p : Program) (plan : Plan) → AreStencilsOf p plan.system.stencils → size_in plan ≡ p.size
size_is p plan are = ap (λ (w : ℕ). record { width = w; height = plan.system.stencils.height }) are.width ∙ ap (λ (h : ℕ). record { width = p.size.width; height = h }) are.height

-- an image that the plan keeps is kept in the program
pub kept_is : (p : Program) (plan : Plan) (g : ℕ) → AreStencilsOf p plan.system.stencils → Keeps plan g → Kept p g
kept_is p plan g are kept =
    let images = plan.system.stencils.images in
    let none : Image = record { number = 0; width = 0 } in
    subst (Kept p) (at_place images g none kept) (are.images.sound (place images g) none kept).kept

-- where a leaf's steps lead the read is live, so the plan has it
live_read : (p : Program) (plan : Plan) (f g : ℕ) (dx dy : ℤ) → AreStencilsOf p plan.system.stencils → Keeps plan f → IsLive p f g dx dy → (r : LiveRead) × Contains (reads_in plan f) r × (r.g ≡ g) × (r.dx ≡ dx) × (r.dy ≡ dy)
live_read p plan f g dx dy are kept live =
    let has = (are.reads.exact f g dx dy).1 (record { kept = kept_is p plan f are kept; live = live }) in
    (the f g dx dy, passing_in (λ (q : LiveRead). q.f == f) plan.system.stencils.reads (the f g dx dy) has (same f f refl), refl, refl, refl)
  where
    same : (a b : ℕ) → a ≡ b → (a == b) ≡ true
    same a b h = grind (arith, nat_tests, h)

pub type_typed : (p : Program) → IsProgram p → (g : ℕ) → g < length (types_of p) → IsType (type_at p g)
type_typed p is g lt = types_are p.inputs p.images is.inputs is.images g (type_at p g) (there (types_of p) g lt)
  where
    there : (ts : List Ty) (k : ℕ) → k < length ts → slice_get ts k ≡ Some (slice_index_or ts k (Unsigned 1))
    there [] k lt = absurd (let f : ⊥ = omega (arith, lt) in f)
    there (t ∷ ts) zero lt = refl
    there (t ∷ ts) (suc k) lt = there ts k (let h : k < length ts = omega (arith, lt) in h)

-- what a read's net is worth
worth_is : (s : Snapshot) (reads : List (Ty × Net)) (i : ℕ) (n : Ty × Net) (t : Ty) → slice_get reads i ≡ Some n → n.0 ≡ t → worth_in s reads i ≡ number t (net_value s n.1)
worth_is s reads i n t at e = ap (worth_or s) at ∙ ap (λ (u : Ty). number u (net_value s n.1)) e

pub types_of_reads : (reads : List (Ty × Net)) (i : ℕ) (n : Ty × Net) (t : Ty) → slice_get reads i ≡ Some n → n.0 ≡ t → types_in reads i ≡ t
types_of_reads reads i n t at e = ap type_or at ∙ e

-- The body e of image f, over the nets of its leaves.
module _ (b first : Netlist) (p : Program) (plan : Plan) (taps : List (List Net)) (f : ℕ) (e : Tree) (reads : List (Ty × Net)) (bits : List Net) (net : Net)
    (is_program : IsProgram p) (is_plan : IsPlan plan) (stencils : AreStencilsOf p plan.system.stencils) (kept : Keeps plan f) (body : IsBody p f e)
    (meant : (round : List Picture) → length round ≡ length p.inputs → (x y : ℤ) → picture_at (pictures p round) f x y ≡ framed p.size (value p.size (pictures p round) e) x y)
    (values : (round : List Picture) → IsRound p round → (g : ℕ) (t : Ty) → slice_get (types_of p) g ≡ Some t → IsPicture p.size t (picture_at (pictures p round) g))
    (leaves : AreLeafNets b first p plan taps f (reads_of e []) (bits_of e []) reads bits) (there : (i : ℕ) (leaf : LeafRead) → slice_get (reads_of e []) i ≡ Some leaf → (leaf.image < f) × (leaf.image < length (types_of p)))
    (lowered : IsLowered b e reads bits net) (typed : type_of e (types_in reads) 0 ≡ type_at p f) where
  size : Size
  size = p.size

  same_size : size_in plan ≡ p.size
  same_size = size_is p plan stencils

  some : 0 < area p.size
  some = some_area p.size is_program.frame.some_columns is_program.frame.some_rows

  inside : (q : ℕ) → IsTrue (in_frame p.size (pos (column p.size q)) (pos (row p.size q)))
  inside q =
      let across = subst (λ (z : Size). column z q < z.width) same_size (columns_below plan is_plan q) in
      let down = subst (λ (z : Size). row z q < z.height) same_size (rows_below plan is_plan q) in
      pixel_inside p.size (column p.size q) (row p.size q) across down

  framed_inside : (picture : Picture) (x y : ℤ) → IsTrue (in_frame p.size x y) → framed p.size picture x y ≡ picture x y
  framed_inside picture x y h = ap (λ (t : Bool). if t then picture x y else pos 0) h

  module _ (m : Netlist) (from : Contents) (before : List Clock) (c : Clock) (s : Snapshot) (run : IsRunning b m from before c s) (rounds : Rounds) (are : AreRounds p rounds) (right : (g : ℕ) → g < f → Keeps plan g → TapsAreRight p rounds plan taps (length (counted m before)) s g) (q : ℕ) (since : q + delay_of plan f ≡ length (counted m before)) (low : q < pixel_count p rounds) where
    x : ℕ
    x = column p.size q

    in_rounds : (g : ℕ) (k : ℕ) (u v : ℤ) → g < length (types_of p) → k < length rounds → IsIn (type_at p g) (picture_at (pictures_in p rounds k) g u v)
    in_rounds g k u v known lt = (values (slice_index_or rounds k []) (are k [] lt) g (type_at p g) (entry (types_of p) g known)).values u v
      where
        entry : (ts : List Ty) (j : ℕ) → j < length ts → slice_get ts j ≡ Some (slice_index_or ts j (Unsigned 1))
        entry [] j lt = absurd (let f : ⊥ = omega (arith, lt) in f)
        entry (t ∷ ts) zero lt = refl
        entry (t ∷ ts) (suc j) lt = entry ts j (let h : j < length ts = omega (arith, lt) in h)

    right_of : (r : LiveRead) → Contains (reads_in plan f) r → TapsAreRight p rounds plan taps (length (counted m before)) s r.g
    right_of r has =
        let (among, of_f) = read_of plan f r has in
        let between = read_is_between plan is_plan r among in
        right r.g (let lt = between.earlier in omega (arith, lt, of_f)) between.source_kept

    read_is : (i : ℕ) (leaf : LeafRead) → slice_get (reads_of e []) i ≡ Some leaf → ReadIsRight p.size (pictures_in p rounds (frame_of p.size q)) (column p.size q) (row p.size q) leaf (worth_in s reads i)
    read_is i leaf at = by (entry_of reads (reads_of e []) i leaf (sym leaves.reads_are) at)
      where
        by : (n : Ty × Net) × (slice_get reads i ≡ Some n) → ReadIsRight p.size (pictures_in p rounds (frame_of p.size q)) (column p.size q) (row p.size q) leaf (worth_in s reads i)
        by (n, on) =
            let net_is = leaves.read i leaf n at on in
            let ty = leaves.ty i leaf n at on in
            let (less, known) = there i leaf at in
            let chosen = net_is.value m from before c s run q since in
            let here : IsChosen p.size plan taps (reads_in plan f) leaf (column p.size q) (row p.size q) s (net_value s n.1) = subst (λ (z : Size). IsChosen z plan taps (reads_in plan f) leaf (column z q) (row z q) s (net_value s n.1)) same_size chosen in
            subst (ReadIsRight p.size (pictures_in p rounds (frame_of p.size q)) (column p.size q) (row p.size q) leaf) (sym (worth_is s reads i n (type_at p leaf.image) on ty))
            (read_right p rounds plan taps s (length (counted m before)) f q e i leaf (net_value s n.1) body at same_size is_program.frame.some_columns is_program.frame.some_rows some (inside q)
            (λ dx dy live. live_read p plan f leaf.image dx dy stencils kept live) (λ r has. right_of r has) (type_typed p is_program leaf.image known) (λ k u v lt. in_rounds leaf.image k u v known lt) (zero_number (type_at p leaf.image)) (λ r has. (read_of plan f r has).1) since low here)

    bit_is : (i : ℕ) (steps : List Step) → slice_get (bits_of e []) i ≡ Some steps → BitIsRight p.size (column p.size q) (row p.size q) steps (set_in s bits i)
    bit_is i steps at = by (entry_of bits (bits_of e []) i steps (sym leaves.bits_are) at)
      where
        by : (n : Net) × (slice_get bits i ≡ Some n) → BitIsRight p.size (column p.size q) (row p.size q) steps (set_in s bits i)
        by (n, on) =
            let tested = (leaves.bit i steps n at on).value m from before c s run q since in
            let here : IsBitOf (LeadOn p.size steps (column p.size q) (row p.size q)) (net_value s n) = subst (λ (z : Size). IsBitOf (LeadOn z steps (column z q) (row z q)) (net_value s n)) same_size tested in
            bit_right p.size (column p.size q) (row p.size q) steps s (slice_get bits i) n on here

    pub body_pixel : net_value s net ≡ pixel_bits p rounds f q
    body_pixel =
        let frame : frame_of p.size q < length rounds = div_below q (area p.size) (length rounds) some low in
        let round : List Picture = slice_index_or rounds (frame_of p.size q) [] in
        let is_round = are (frame_of p.size q) [] frame in
        pixel_right b m from before c s run p rounds plan f q e reads bits net lowered typed read_is bit_is
        (meant round is_round.one_each (pos (column p.size q)) (pos (row p.size q)) ∙ framed_inside (value p.size (pictures p round) e) (pos (column p.size q)) (pos (row p.size q)) (inside q))

  pub body_net_is : IsBodyNet b p plan taps f net
  body_net_is m from before c s run rounds are right q since low = body_pixel m from before c s run rounds are right q since low
