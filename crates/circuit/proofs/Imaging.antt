-- The net of an image's body, over the nets of its leaves.
use Rattle.wiring.specs.declared.netlist.Holder.TheVariants.{OfNet}
use Rattle.wiring.specs.declared.netlist.Holder.{Holder}
use Rattle.std.proofs.Common.{◌≡◌, ℕ, zero, suc, ◌+◌, ◌-◌, ◌<◌, ◌≤◌, Bool, List, [], ◌∷◌, ◌++◌, length, map, take, drop, Some, true, false, refl, sym, ap, subst, ◌∙◌, arith, append_assoc, length-append, length-take-le}
use Rattle.std.specs.Prelude.{pos, option_map, slice_get, slice_index, slice_index_or, if◌then◌else◌}
use Rattle.std.specs.List.{All}
use Rattle.std.proofs.lemmas.Option.{same_Some, slice_get-map, slice_get-get_or, slice_get_within, get_or_from_slice_get}
use Rattle.std.proofs.lemmas.List.{length-map, map-append, take-append-drop}
use Rattle.std.proofs.lemmas.List.Elements.{All-append}
use Rattle.wiring.proofs.Lists.{slice_get-append}
use Rattle.dk_base.specs.declared.ty.Ty.{Ty}
use Rattle.dk_base.specs.declared.ty.Ty.TheVariants.{Unsigned}
use Rattle.dk_base.specs.Types.{IsType, width_of as bits_of_type}
use Rattle.wiring.specs.declared.netlist.Net.{Net}
use Rattle.wiring.specs.Netlist.{Netlist, net_width, din_net, first_din}
use Rattle.net_build.specs.Includes.{Includes}
use Rattle.net_build.specs.Draft.{IsNet}
use Rattle.net_build.proofs.Parts.{Includes-refl}
use Rattle.net_build.proofs.Drafts.{append_behind}
use Rattle.pointwise_ir.specs.declared.program.Input.{Input}
use Rattle.pointwise_ir.specs.declared.program.Definition.{Definition}
use Rattle.pointwise_ir.specs.Trees.{Tree, tree_of, constant, read, shifted, unary, binary, select, convert, scale}
use Rattle.pointwise_ir.specs.Typing.{HasType}
use Rattle.pointwise_ir.specs.Programs.{Program, IsProgram, IsBody, bodies_of, types_of, all_types}
use Rattle.pointwise_ir.proofs.Defined.{types_are}
use Rattle.pointwise_ir.proofs.Pictured.{mapped_entry, picture_of_body, values_in}
use Rattle.edge_select.specs.declared.step.Step.{Step}
use Rattle.datapath.specs.Levels.{logic_levels}
use Rattle.datapath.specs.Expressions.{AreLeavesMade, AreLeaves, HasLeaves, IsLowered, IsMadeOfLeaves, IsTyped, types_in, type_of}
use Rattle.datapath.specs.declared.operand.Signal.TheVariants as signal
use Rattle.datapath.proofs.Leaved.{typed_as}
use Rattle.buffer_plan.specs.Plans.{Plan, IsPlan}
use Rattle.circuit.specs.Rounds.{type_at}
use Rattle.circuit.specs.declared.known.BodyLeaves.{BodyLeaves}
use Rattle.circuit.specs.Known.{ArePlaced}
use Rattle.circuit.specs.Leaves.{LeafRead, with_step, reads_of, bits_of, ReadsBefore}
use Rattle.circuit.specs.Taps.{HasControl, IsReading}
use Rattle.circuit.specs.Reads.{AreLeafNets, AddsLeaves}
use Rattle.circuit.specs.Images.{IsImageNet, ports_of}
use Rattle.circuit.proofs.Typing.{entry_or, plan_width, reads_typed, reads_before}
use Rattle.circuit.proofs.Paths.{reads_long, bits_long}
use Rattle.net_build.specs.Depth.{IsWithin}
use Rattle.net_build.proofs.Depth.{HasDepth, within_deeper, within_made, made_within}
use Rattle.circuit.specs.Depths.{ChoosesAmong, test_levels}
use Rattle.circuit.proofs.Lasting.{leaf_nets_more}
use Rattle.circuit.proofs.BodyNets.{entry_of, type_typed, types_of_reads, body_net_is}

-- what is there of the first images is there of them all
among_all : {A B : Type 0} (f : A → B) (xs : List B) (ys : List A) (k g : ℕ) (t : B) → slice_get (xs ++ map f (take k ys)) g ≡ Some t → slice_get (xs ++ map f ys) g ≡ Some t
among_all f xs ys k g t is =
    let parts : (xs ++ map f (take k ys)) ++ map f (drop k ys) ≡ xs ++ map f ys = append_assoc xs (map f (take k ys)) (map f (drop k ys)) ∙ ap (λ zs. xs ++ zs) (sym (map-append f (take k ys) (drop k ys)) ∙ ap (map f) (take-append-drop k ys)) in
    subst (λ zs. slice_get zs g ≡ Some t) parts (slice_get-append (xs ++ map f (take k ys)) (map f (drop k ys)) g t is)

-- a body is typed over the types of the images before its own
record IsTypedBody (p : Program) (f : ℕ) (e : Tree) : Type 0 where
  pub earlier : List Ty
  pub known : (g : ℕ) (t : Ty) → slice_get earlier g ≡ Some t → slice_get (types_of p) g ≡ Some t
  pub few : length earlier ≤ f
  pub typed : HasType earlier e (type_at p f)

typed_body : (p : Program) → IsProgram p → (f : ℕ) (e : Tree) → IsBody p f e → IsTypedBody p f e
typed_body p is f e (k, here, at) =
    let (d, there, same) = mapped_entry (λ d. tree_of d.body) p.images k e at in
    let inputs = map (λ i. i.ty) p.inputs in
    let long : length inputs ≡ length p.inputs = length-map p.inputs _ in
    let own : slice_get (map (λ d. d.ty) p.images) k ≡ Some d.ty = slice_get-map (λ d. d.ty) p.images k ∙ ap (λ o. option_map (λ d. d.ty) o) there in
    let among : slice_get (types_of p) f ≡ Some d.ty = subst (λ (j : ℕ). slice_get (types_of p) j ≡ Some d.ty) (let j : length inputs + k ≡ f = omega (arith, long, here) in j) (append_behind inputs (map (λ d. d.ty) p.images) k d.ty own) in
    let is_type : type_at p f ≡ d.ty = entry_or (types_of p) f d.ty (Unsigned 1) among in
    record {
      earlier = all_types p.inputs (take k p.images);
      known = λ g t h. among_all (λ d. d.ty) inputs p.images k g t h;
      few = (let a = length-append inputs (map (λ d. d.ty) (take k p.images)) in let c : length (map (λ d. d.ty) (take k p.images)) ≡ length (take k p.images) = length-map (take k p.images) _ in let t = length-take-le k p.images (let l = slice_get_within p.images k d there in omega (arith, l)) in omega (arith, a, long, c, t, here));
      typed = subst (λ (x : Tree). HasType (all_types p.inputs (take k p.images)) x (type_at p f)) same (subst (HasType (all_types p.inputs (take k p.images)) (tree_of d.body)) (sym is_type) (is.images k d there).typed);
    }

-- its reads are of images before its own
pub body_before : (p : Program) → IsProgram p → (f : ℕ) (e : Tree) → IsBody p f e → ReadsBefore f e
body_before p is f e body = (let t = typed_body p is f e body in reads_before t.earlier f t.few e (type_at p f) t.typed)

reads_are_before : (f : ℕ) (e : Tree) (path : List Step) → ReadsBefore f e → All (λ (l : LeafRead). l.image < f) (reads_of e path)
reads_are_before f (constant v t) path before k d lt = absurd (let n : ⊥ = omega (arith, lt) in n)
reads_are_before f (read edge g dx dy) path before zero d lt = before
reads_are_before f (read edge g dx dy) path before (suc k) d lt = absurd (let n : ⊥ = omega (arith, lt) in n)
reads_are_before f (shifted edge dx dy a) path before k d lt = reads_are_before f a (with_step path edge dx dy) before k d lt
reads_are_before f (unary op a) path before k d lt = reads_are_before f a path before k d lt
reads_are_before f (binary op a b) path (one, other) k d lt = All-append (λ (l : LeafRead). l.image < f) (reads_of a path) (reads_of b path) (reads_are_before f a path one) (reads_are_before f b path other) k d lt
reads_are_before f (select c a b) path (first, one, other) k d lt =
    All-append (λ (l : LeafRead). l.image < f) (reads_of c path ++ reads_of a path) (reads_of b path) (All-append (λ (l : LeafRead). l.image < f) (reads_of c path) (reads_of a path) (reads_are_before f c path first) (reads_are_before f a path one)) (reads_are_before f b path other) k d lt
reads_are_before f (convert how a t) path before k d lt = reads_are_before f a path before k d lt
reads_are_before f (scale op a m) path before k d lt = reads_are_before f a path before k d lt

-- an image has one body
one_body : (p : Program) (f : ℕ) (e t : Tree) → IsBody p f e → IsBody p f t → e ≡ t
one_body p f e t (k, here, at) (j, there, on) =
    let same : k ≡ j = omega (arith, here, there) in
    same_Some e t (sym at ∙ ap (slice_get (bodies_of p)) same ∙ on)

-- leaves that are made of a base are so with some number of operators
reads_within : (m : Netlist) (base : Holder → Bool) (reads : List (Ty × Net)) → ((k : ℕ) (leaf : Ty × Net) → slice_get reads k ≡ Some leaf → HasDepth m base (OfNet leaf.1)) →
    (j : ℕ) × ((k : ℕ) (leaf : Ty × Net) → slice_get reads k ≡ Some leaf → IsWithin m base j (OfNet leaf.1))
reads_within m base [] each = (0, λ k leaf at. absurd (let e : ⊥ = cc in e))
reads_within m base (x ∷ reads) each =
    let (i, first) = each 0 x refl in
    let (j, rest) = reads_within m base reads (λ k leaf at. each (suc k) leaf at) in
    (i + j, both i j first rest)
  where
    both : (i j : ℕ) → IsWithin m base i (OfNet x.1) → ((k : ℕ) (leaf : Ty × Net) → slice_get reads k ≡ Some leaf → IsWithin m base j (OfNet leaf.1)) → (k : ℕ) (leaf : Ty × Net) → slice_get (x ∷ reads) k ≡ Some leaf → IsWithin m base (i + j) (OfNet leaf.1)
    both i j first rest zero leaf at = within_deeper (omega arith) (subst (λ (l : Ty × Net). IsWithin m base i (OfNet l.1)) (same_Some x leaf at) first)
    both i j first rest (suc k) leaf at = within_deeper (omega arith) (rest k leaf at)

bits_within : (m : Netlist) (base : Holder → Bool) (bits : List Net) → ((k : ℕ) (n : Net) → slice_get bits k ≡ Some n → HasDepth m base (OfNet n)) →
    (j : ℕ) × ((k : ℕ) (n : Net) → slice_get bits k ≡ Some n → IsWithin m base j (OfNet n))
bits_within m base [] each = (0, λ k n at. absurd (let e : ⊥ = cc in e))
bits_within m base (x ∷ bits) each =
    let (i, first) = each 0 x refl in
    let (j, rest) = bits_within m base bits (λ k n at. each (suc k) n at) in
    (i + j, both i j first rest)
  where
    both : (i j : ℕ) → IsWithin m base i (OfNet x) → ((k : ℕ) (n : Net) → slice_get bits k ≡ Some n → IsWithin m base j (OfNet n)) → (k : ℕ) (n : Net) → slice_get (x ∷ bits) k ≡ Some n → IsWithin m base (i + j) (OfNet n)
    both i j first rest zero n at = within_deeper (omega arith) (subst (λ (l : Net). IsWithin m base i (OfNet l)) (same_Some x n at) first)
    both i j first rest (suc k) n at = within_deeper (omega arith) (rest k n at)

leaves_within : (m : Netlist) (base : Holder → Bool) (reads : List (Ty × Net)) (bits : List Net) → ((k : ℕ) (leaf : Ty × Net) → slice_get reads k ≡ Some leaf → HasDepth m base (OfNet leaf.1)) → ((k : ℕ) (n : Net) → slice_get bits k ≡ Some n → HasDepth m base (OfNet n)) →
    (j : ℕ) × AreLeavesMade m base j reads bits
leaves_within m base reads bits of_read of_bit =
    let (i, all) = reads_within m base reads of_read in
    let (j, tests) = bits_within m base bits of_bit in (
      i + j,
      record {
        read = λ k leaf at. within_deeper (omega arith) (all k leaf at);
        bit = λ k n at. within_deeper (omega arith) (tests k n at);
      },
    )

-- The body e of image f over the nets of its leaves in the netlist `mid`, of which the taps are in `old`.
module _ (mid old : Netlist) (p : Program) (plan : Plan) (taps : List (List Net)) (f : ℕ) (e : Tree) (reads : List (Ty × Net)) (bits : List Net)
    (is_program : IsProgram p) (is_plan : IsPlan plan) (reading : IsReading old p plan taps f) (body : IsBody p f e) (leaves : AreLeafNets mid old p plan taps f (reads_of e []) (bits_of e []) reads bits) where
  typed : IsTypedBody p f e
  typed = typed_body p is_program f e body

  before : ReadsBefore f e
  before = body_before p is_program f e body

  there : (i : ℕ) (leaf : LeafRead) → slice_get (reads_of e []) i ≡ Some leaf → (leaf.image < f) × (leaf.image < length (types_of p))
  there i leaf at =
      let here = reads_are_before f e [] before i leaf (slice_get_within (reads_of e []) i leaf at) in
      let low : leaf.image < f = subst (λ (l : LeafRead). l.image < f) (get_or_from_slice_get (reads_of e []) i leaf leaf at) here in
      (low, (let known = reading.there in omega (arith, low, known)))

  leaf_types : (i : ℕ) (leaf : LeafRead) → slice_get (reads_of e []) i ≡ Some leaf → types_in reads (0 + i) ≡ type_at p leaf.image
  leaf_types i leaf at = by (entry_of reads (reads_of e []) i leaf (sym leaves.reads_are) at)
    where
      by : (n : Ty × Net) × (slice_get reads i ≡ Some n) → types_in reads (0 + i) ≡ type_at p leaf.image
      by (n, on) = ap (types_in reads) (let z : 0 + i ≡ i = omega arith in z) ∙ types_of_reads reads i n (type_at p leaf.image) on (leaves.ty i leaf n at on)

  over : IsTyped e (types_in reads) 0 × (type_of e (types_in reads) 0 ≡ type_at p f)
  over =
      let w = typed_as typed.earlier (types_in reads) (λ g t h. types_are p.inputs p.images is_program.inputs is_program.images g t (typed.known g t h)) e (type_at p f) 0 typed.typed
      (reads_typed (types_in reads) p typed.earlier (λ g t h. entry_or (types_of p) g t (Unsigned 1) (typed.known g t h)) (λ x path. reads_long p.size [] 0 0 (λ i. pos 0) (λ i. false) x path) e (type_at p f) [] 0 typed.typed leaf_types)
      in (w.typed, w.is)

  pub has_leaves : HasLeaves e reads bits
  has_leaves = record {
    typed = over.0;
    reads_are = leaves.reads_are ∙ reads_long p.size [] 0 0 (λ i. pos 0) (λ i. false) e [];
    bits_are = leaves.bits_are ∙ bits_long p.size [] 0 0 (λ i. pos 0) (λ i. false) e [];
  }

  of_read : (k : ℕ) (n : Ty × Net) → slice_get reads k ≡ Some n → (leaf : LeafRead) × (slice_get (reads_of e []) k ≡ Some leaf)
  of_read k n on = entry_of (reads_of e []) reads k n leaves.reads_are on

  of_bit : (k : ℕ) (n : Net) → slice_get bits k ≡ Some n → (steps : List Step) × (slice_get (bits_of e []) k ≡ Some steps)
  of_bit k n on = entry_of (bits_of e []) bits k n leaves.bits_are on

  pub are_leaves : AreLeaves mid reads bits
  are_leaves = record {
    read_type = λ k n on. (let (leaf, at) = of_read k n on in subst IsType (sym (leaves.ty k leaf n at on)) (type_typed p is_program leaf.image (there k leaf at).1));
    read_net = λ k n on. (let (leaf, at) = of_read k n on in (leaves.read k leaf n at on).there);
    read_width = λ k n on. (let (leaf, at) = of_read k n on in (leaves.read k leaf n at on).width);
    bit_net = λ k n on. (let (steps, at) = of_bit k n on in (leaves.bit k steps n at on).there);
    bit_width = λ k n on. (let (steps, at) = of_bit k n on in (leaves.bit k steps n at on).width);
  }

  -- and the net to which it is lowered
  pub image_net_is : (new : Netlist) (net : Net) → Includes new mid → Includes mid old → IsLowered new e reads bits net → IsMadeOfLeaves new (logic_levels e) (signal.Net net) reads bits → IsImageNet new old p plan taps f net
  image_net_is new net late early lowered made =
      let now = leaf_nets_more new mid late old p plan taps f (reads_of e []) (bits_of e []) reads bits leaves in
      let (k, here, at) = body in
      record {
        there = lowered.operand.width.operand.nets net (0, omega arith, refl);
        width = lowered.operand.width.operand.width_is ∙ ap bits_of_type over.1 ∙ sym (plan_width p plan f reading.stencils reading.kept);
        input = λ lt. absurd (let n : ⊥ = omega (arith, lt, here) in n);
        body = λ le. body_net_is new old p plan taps f e reads bits net is_program is_plan reading.stencils reading.kept body (λ round long x y. picture_of_body p is_program round long f e body x y) (λ round is g t known. values_in p is_program round is g t known) now there lowered over.1;
        made = λ le base has own.
            let control : HasControl new.enable base = subst (λ (x : Bool). HasControl x base) (sym (late.enable ∙ early.enable)) has in
            let (j, all) = leaves_within new base reads bits
            (λ i n on. (let (leaf, at) = of_read i n on in made_within ((now.read i leaf n at on).made base has own)))
            (λ i n on. (let (steps, at) = of_bit i n on in (test_levels, (now.bit i steps n at on).within base control))) in
            within_made (made.made new base j (Includes-refl new) all);
        levels = λ f' n is_body among base j has least own.
            let control : HasControl new.enable base = subst (λ (x : Bool). HasControl x base) (sym (late.enable ∙ early.enable)) has in
            let same : f' ≡ e = one_body p f f' e is_body body in
            let most : ChoosesAmong plan f e n = subst (λ (t : Tree). ChoosesAmong plan f t n) same among in
            subst (λ (t : Tree). IsWithin new base (logic_levels t + n + j) (OfNet net)) (sym same)
            (within_deeper (let g : logic_levels e + (n + j) ≤ logic_levels e + n + j = omega arith in g) (made.made new base (n + j) (Includes-refl new) (record {
              read = λ i m on. (let (leaf, at) = of_read i m on in (now.read i leaf m at on).levels n (most i leaf at) base j has least own);
              bit = λ i m on. (let (steps, at) = of_bit i m on in within_deeper (let g : test_levels ≤ n + j = omega (arith, least) in g) ((now.bit i steps m at on).within base control));
            })));
      }

-- the leaves that are added to none, at the end of no steps
pub first_leaves : (new old : Netlist) (p : Program) (plan : Plan) (taps : List (List Net)) (f : ℕ) (e : Tree) (steps : List Step) (now before : BodyLeaves) → steps ≡ [] → before.nets.reads.items ≡ [] → before.nets.bits.items ≡ [] → before.known ≡ [] → AddsLeaves new old p plan taps f (reads_of e steps) (bits_of e steps) now before →
    AreLeafNets new old p plan taps f (reads_of e []) (bits_of e []) now.nets.reads.items now.nets.bits.items
first_leaves new old p plan taps f e steps now before none reads bits known adds =
    subst (λ (s : List Step). AreLeafNets new old p plan taps f (reads_of e s) (bits_of e s) now.nets.reads.items now.nets.bits.items) none
    (adds.added old [] [] (Includes-refl old) (record {
      nets = record {
        reads_are = ap length reads;
        bits_are = ap length bits;
        ty = λ i leaf n at on. absurd (let e : ⊥ = cc in e);
        read = λ i leaf n at on. absurd (let e : ⊥ = cc in e);
        bit = λ i steps n at on. absurd (let e : ⊥ = cc in e);
      };
      placed = subst (ArePlaced []) (sym known) (λ r (k, lt, e). absurd (let f : ⊥ = omega (arith, lt) in f));
    })).nets

-- the body of an image
pub body_at : (p : Program) (inputs : List Input) (images : List Definition) → inputs ≡ p.inputs → images ≡ p.images → (f : ℕ) (d : Definition) → length inputs ≤ f → f < length (types_of p) → IsBody p f (tree_of (slice_index_or images (f - length inputs) d).body)
body_at p inputs images same_inputs same_images f d high low =
    let k = f - length inputs in
    let long : length (types_of p) ≡ length inputs + length images =
    let a = length-append (map (λ i. i.ty) p.inputs) (map (λ d. d.ty) p.images) in
    let b : length (map (λ i. i.ty) p.inputs) ≡ length p.inputs = length-map p.inputs _ in
    let c : length (map (λ d. d.ty) p.images) ≡ length p.images = length-map p.images _ in
    omega (arith, a, b, c, ap length same_inputs, ap length same_images) in
    let within : k < length images = omega (arith, high, low, long) in
    let at : slice_get p.images k ≡ Some (slice_index_or images k d) = subst (λ (xs : List Definition). slice_get xs k ≡ Some (slice_index_or images k d)) same_images (slice_get-get_or images k d within) in
    (k, (let e : f ≡ length p.inputs + k = omega (arith, high, ap length same_inputs) in e), slice_get-map (λ d. tree_of d.body) p.images k ∙ ap (λ o. option_map (λ d. tree_of d.body) o) at)

-- the din of an input
port_of : (enable : Bool) (dins : List ℕ) (k : ℕ) → k < length dins → ((if enable then 2 else 1) + k < length (1 ∷ (if enable then 1 ∷ dins else dins))) × (slice_index (1 ∷ (if enable then 1 ∷ dins else dins)) ((if enable then 2 else 1) + k) ≡ slice_index dins k)
port_of true dins k lt = (omega (arith, lt), ap (slice_index (1 ∷ (1 ∷ dins))) (let e : 2 + k ≡ suc (suc k) = omega arith in e))
port_of false dins k lt = (omega (arith, lt), ap (slice_index (1 ∷ dins)) (let e : 1 + k ≡ suc k = omega arith in e))

input_type : (inputs : List Input) (images : List Definition) (k : ℕ) → k < length inputs → slice_index (map (λ i. bits_of_type i.ty) inputs) k ≡ bits_of_type (slice_index_or (all_types inputs images) k (Unsigned 1))
input_type [] images k lt = absurd (let e : ⊥ = omega (arith, lt) in e)
input_type (i ∷ inputs) images zero lt = refl
input_type (i ∷ inputs) images (suc k) lt = input_type inputs images k (let h : k < length inputs = omega (arith, lt) in h)

pub din_wide : (b : Netlist) (p : Program) → Includes b (ports_of p b.enable) → (k : ℕ) → k < length p.inputs → net_width b (din_net b k) ≡ bits_of_type (type_at p k)
din_wide b p ports k lt =
    let dins = map (λ i. bits_of_type i.ty) p.inputs in
    let long : length dins ≡ length p.inputs = length-map p.inputs _ in
    ap (λ (xs : List ℕ). slice_index xs (first_din b + k)) ports.inputs ∙ (port_of b.enable dins k (omega (arith, lt, long))).1 ∙ input_type p.inputs p.images k lt

-- the net of an input
pub input_net_is : (b : Netlist) (p : Program) (plan : Plan) (taps : List (List Net)) (f : ℕ) (net : Net) → IsReading b p plan taps f → Includes b (ports_of p b.enable) → f < length p.inputs → net ≡ din_net b f → IsNet b net → IsImageNet b b p plan taps f net
input_net_is b p plan taps f net reading ports lt is there = record {
  there = there;
  width = ap (net_width b) is ∙ din_wide b p ports f lt ∙ sym (plan_width p plan f reading.stencils reading.kept);
  input = λ low. is;
  body = λ le. absurd (let e : ⊥ = omega (arith, lt, le) in e);
  made = λ le. absurd (let e : ⊥ = omega (arith, lt, le) in e);
  levels = λ e n (k, here, at). absurd (let f : ⊥ = omega (arith, lt, here) in f);
}
