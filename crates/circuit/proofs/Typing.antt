-- The types of an expression's leaves, and the widths of a plan's images.
use Rattle.std.proofs.Common.{◌≡◌, ℕ, zero, suc, ◌+◌, ◌≤◌, List, [], ◌∷◌, ◌++◌, length, map, Some, refl, sym, ap, subst, ◌∙◌, arith, length-append}
use Rattle.std.specs.Prelude.{slice_get, slice_index, slice_index_or}
use Rattle.std.proofs.lemmas.Option.{same_Some, slice_get_within}
use Rattle.std.proofs.lemmas.List.{get_or-map}
use Rattle.dk_base.specs.declared.ty.Ty.{Ty}
use Rattle.dk_base.specs.declared.ty.Ty.TheVariants.{Unsigned}
use Rattle.dk_base.specs.declared.stencils.Image.{Image}
use Rattle.dk_base.specs.Types.{width_of as bits_of_type}
use Rattle.dk_base.specs.Stencils.{place}
use Rattle.dk_base.proofs.Orders.{at_place}
use Rattle.pointwise_ir.specs.Trees.{Tree, constant, read, shifted, unary, binary, select, convert, scale}
use Rattle.pointwise_ir.specs.Typing.{HasType}
use Rattle.pointwise_ir.specs.Programs.{Program, types_of}
use Rattle.pointwise_ir.specs.Stencils.{AreStencilsOf}
use Rattle.edge_select.specs.declared.step.Step.{Step}
use Rattle.datapath.specs.Expressions.{reads_in as read_count, AreReadsOf}
use Rattle.buffer_plan.specs.Plans.{Plan, width_of}
use Rattle.circuit.specs.Rounds.{type_at}
use Rattle.circuit.specs.Leaves.{LeafRead, with_step, reads_of, ReadsBefore}
use Rattle.circuit.specs.Taps.{Keeps}
use Rattle.wiring.proofs.Lists.{slice_get-append}
use Rattle.net_build.proofs.Drafts.{append_behind}

-- an entry as the entry or another
pub entry_or : {X : Type 0} (xs : List X) (k : ℕ) (x d : X) → slice_get xs k ≡ Some x → slice_index_or xs k d ≡ x
entry_or [] k x d at = absurd (let f : ⊥ = cc in f)
entry_or (y ∷ xs) zero x d at = same_Some y x at
entry_or (y ∷ xs) (suc k) x d at = entry_or xs k x d at

-- the type of an image that is there
pub type_is : (p : Program) (g : ℕ) (t : Ty) → slice_get (types_of p) g ≡ Some t → t ≡ type_at p g
type_is p g t at = sym (entry_or (types_of p) g t (Unsigned 1) at)

-- the width of a kept image is its type's
pub plan_width : (p : Program) (plan : Plan) (g : ℕ) → AreStencilsOf p plan.system.stencils → Keeps plan g → width_of plan g ≡ bits_of_type (type_at p g)
plan_width p plan g are kept =
    let images = plan.system.stencils.images in
    let none : Image = record { number = 0; width = 0 } in
    let i : Image = slice_index_or images (place images g) none in
    let is = are.images.sound (place images g) none kept in
    let number : i.number ≡ g = at_place images g none kept in
    let here : slice_index (map (λ (j : Image). j.width) images) (place images g) ≡ i.width = get_or-map (λ (j : Image). j.width) images (place images g) none 0 kept in
    let typed : type_at p g ≡ is.ty = entry_or (types_of p) g is.ty (Unsigned 1) (subst (λ (n : ℕ). slice_get (types_of p) n ≡ Some is.ty) number is.typed) in
    here ∙ is.width ∙ ap bits_of_type (sym typed)

module _ (types : ℕ → Ty) (p : Program) (T : List Ty) (known : (g : ℕ) (s : Ty) → slice_get T g ≡ Some s → type_at p g ≡ s) where
  abbrev HaveTypes : List LeafRead → ℕ → Type 0
  HaveTypes leaves n = (i : ℕ) (leaf : LeafRead) → slice_get leaves i ≡ Some leaf → types (n + i) ≡ type_at p leaf.image

  left : (xs ys : List LeafRead) (n : ℕ) → HaveTypes (xs ++ ys) n → HaveTypes xs n
  left xs ys n h i leaf e = h i leaf (slice_get-append xs ys i leaf e)

  right : (xs ys : List LeafRead) (n c : ℕ) → length xs ≡ c → HaveTypes (xs ++ ys) n → HaveTypes ys (n + c)
  right xs ys n c long h i leaf e = subst (λ (j : ℕ). types j ≡ type_at p leaf.image) (let f : n + (length xs + i) ≡ n + c + i = omega (arith, long) in f) (h (length xs + i) leaf (append_behind xs ys i leaf e))

  -- the leaves have the types of the images that the expression is typed over
  pub reads_typed : (long : (e : Tree) (path : List Step) → length (reads_of e path) ≡ read_count e) (e : Tree) (t : Ty) (path : List Step) (n : ℕ) → HasType T e t → HaveTypes (reads_of e path) n → AreReadsOf T e types n
  reads_typed long (constant v s) t path n typed have = tt
  reads_typed long (read edge g dx dy) t path n typed have =
      let same : types (n + 0) ≡ type_at p g = have 0 (record { image = g; steps = with_step path edge dx dy }) refl in
      let here : types n ≡ t = ap types (let e : n ≡ n + 0 = omega arith in e) ∙ same ∙ known g t typed in
      typed ∙ ap Some (sym here)
  reads_typed long (shifted edge dx dy a) t path n typed have = reads_typed long a t (with_step path edge dx dy) n typed have
  reads_typed long (unary op a) t path n (s, typed, e) have = reads_typed long a s path n typed have
  reads_typed long (binary op a b) t path n (s, r, one, other, e) have = (
    reads_typed long a s path n one (left (reads_of a path) (reads_of b path) n have),
    reads_typed long b r path (n + read_count a) other (right (reads_of a path) (reads_of b path) n (read_count a) (long a path) have),
  )
  reads_typed long (select c a b) t path n (q, s, r, first, one, other, e) have =
      let front = left (reads_of c path ++ reads_of a path) (reads_of b path) n have in
      let both : length (reads_of c path ++ reads_of a path) ≡ read_count c + read_count a = omega (arith, length-append (reads_of c path) (reads_of a path), long c path, long a path) in (
        reads_typed long c q path n first (left (reads_of c path) (reads_of a path) n front),
        reads_typed long a s path (n + read_count c) one (right (reads_of c path) (reads_of a path) n (read_count c) (long c path) front),
        subst (λ (j : ℕ). AreReadsOf T b types j) (let z : n + (read_count c + read_count a) ≡ n + read_count c + read_count a = omega arith in z)
            (reads_typed long b r path (n + (read_count c + read_count a)) other (right (reads_of c path ++ reads_of a path) (reads_of b path) n (read_count c + read_count a) both have)),
      )
  reads_typed long (convert how a s) t path n (is, e, r, typed) have = reads_typed long a r path n typed have
  reads_typed long (scale op a m) t path n (s, typed, e) have = reads_typed long a s path n typed have

-- and it reads images before its own
pub reads_before : (T : List Ty) (f : ℕ) → length T ≤ f → (e : Tree) (t : Ty) → HasType T e t → ReadsBefore f e
reads_before T f long (constant v s) t typed = tt
reads_before T f long (read edge g dx dy) t typed = (let lt = slice_get_within T g t typed in omega (arith, lt, long))
reads_before T f long (shifted edge dx dy a) t typed = reads_before T f long a t typed
reads_before T f long (unary op a) t (s, typed, e) = reads_before T f long a s typed
reads_before T f long (binary op a b) t (s, r, one, other, e) = (reads_before T f long a s one, reads_before T f long b r other)
reads_before T f long (select c a b) t (q, s, r, first, one, other, e) = (reads_before T f long c q first, reads_before T f long a s one, reads_before T f long b r other)
reads_before T f long (convert how a s) t (is, e, r, typed) = reads_before T f long a r typed
reads_before T f long (scale op a m) t (s, typed, e) = reads_before T f long a s typed
