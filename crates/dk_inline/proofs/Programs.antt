-- An inlining of a typed program within the limits is a program.
use Rattle.std.proofs.Common.{◌≡◌, ℕ, zero, suc, ◌+◌, ◌<◌, ◌≤◌, Bool, true, false, pos, List, [], ◌∷◌, ◌++◌, length, map, take, slice_get, Option, Some, None, refl, ap, sym, ◌∙◌, subst, arith, if◌then◌else◌, inl, inr, get_or, add-zero}
use Rattle.std.specs.Option.{option_map}
use Rattle.std.specs.List.{All}
use Rattle.std.proofs.lemmas.Bool.{cases_lt}
use Rattle.std.proofs.lemmas.List.{length-map, append_cancel_left, take-map}
use Rattle.std.proofs.lemmas.Option.{slice_get-map}
use Rattle.dk_base.specs.declared.ty.Ty.{Ty}
use Rattle.dk_base.specs.declared.ty.Ty.TheVariants.{Unsigned, Signed}
use Rattle.dk_base.specs.Types.{IsType}
use Rattle.dk_base.specs.Frames.{Size, IsFrame}
use Rattle.dk_types.specs.declared.typed.TypedInput.{TypedInput}
use Rattle.dk_base.specs.Stencils.{IsDistinct}
use Rattle.dk_types.specs.Typed.{type_of, Definition, Typing, declared_or, image_type, input_types, types_of}
use Rattle.dk_types.specs.Kept.{IsTyped, AreWell, ArePorts, AreOutputsOf}
use Rattle.dk_types.specs.Types as T
use Rattle.pointwise_ir.specs.declared.program.Input.{Input}
use Rattle.pointwise_ir.specs.declared.program.Definition as D
use Rattle.pointwise_ir.specs.Trees.{Tree, constant, tree_of, depth_of, AreNear}
use Rattle.pointwise_ir.specs.Typing.{HasType}
use Rattle.dk_base.specs.Types.{IsPort}
use Rattle.pointwise_ir.specs.Programs.{Program, IsProgram, IsOutput, IsDefined, all_types, bodies_of}
use Rattle.pointwise_ir.specs.Programs as P
use Rattle.dk_types.proofs.Values.{well_typed}
use Rattle.pointwise_ir.proofs.Typed.{AreTypes, zero_in}
use Rattle.pointwise_ir.proofs.Defined.{types_more}
use Rattle.dk_inline.specs.Inlined.{inlined_body, substitutes, stays, body_of, bodies_from}
use Rattle.dk_inline.specs.Answers.{IsWithin, IsInlining}
use Rattle.dk_inline.proofs.Welltyped.{typed_at}

-- the body of the k-th image
pub body_entry : (p : Typing) (ds : List Definition) (n k : ℕ) (e : Tree) → slice_get (bodies_from p n ds) k ≡ Some e → (d : Definition) × (slice_get ds k ≡ Some d) × (body_of p (n + k) d ≡ e)
body_entry p [] n k e is = absurd (let f : ⊥ = cc in f)
body_entry p (d ∷ ds) n zero e is =
    let same : body_of p n d ≡ e = cc in
    (d, refl, ap (λ m. body_of p m d) (add-zero n) ∙ same)
body_entry p (d ∷ ds) n (suc k) e is =
    let (c, there, same) = body_entry p ds (suc n) k e is in
    let place : n + suc k ≡ suc n + k = omega arith in
    (c, there, ap (λ m. body_of p m c) place ∙ same)

-- types
takes_type : (o : Option Ty) (t : Ty) → T.Takes o t → IsType t → IsType (declared_or o t)
takes_type None t h ok = ok
takes_type (Some u) t h ok = h.is_type

types_from : (ds : List Definition) (ts : List Ty) → AreTypes ts → AreWell ts ds → (k : ℕ) (d : Definition) → slice_get ds k ≡ Some d → IsType (image_type d)
types_from [] ts ok well k d is = absurd (let f : ⊥ = cc in f)
types_from (c ∷ ds) ts ok well zero d is =
    let same : c ≡ d = cc in
    subst (λ x. IsType (image_type x)) same (takes_type c.declared (type_of c.body) well.1 (well_typed ts ok c.body well.0))
types_from (c ∷ ds) ts ok well (suc k) d is =
    types_from ds (ts ++ image_type c ∷ []) (types_more ts (image_type c) ok (takes_type c.declared (type_of c.body) well.1 (well_typed ts ok c.body well.0))) well.2 k d is

port_type : (t : Ty) → IsPort t → IsType t
port_type (Unsigned n) h = record { some = h.0; most = omega (arith, h.1) }
port_type (Signed n) h = absurd h

input_types_are : (is : List TypedInput) → ArePorts is → AreTypes (input_types is)
input_types_are [] h g t e = absurd (let f : ⊥ = cc in f)
input_types_are (i ∷ is) h zero t e = let q : i.ty ≡ t = cc in subst IsType q (port_type i.ty h.0)
input_types_are (i ∷ is) h (suc g) t e = input_types_are is h.1 g t e

pub image_typed : (p : Typing) → IsTyped p → (k : ℕ) (d : Definition) → slice_get p.definitions k ≡ Some d → IsType (image_type d)
image_typed p typed k d is = types_from p.definitions (input_types p.inputs) (input_types_are p.inputs typed.inputs) typed.bodies k d is

-- ports
ports : (is : List Input) (js : List TypedInput) → map (λ i. i.ty) is ≡ map (λ j. j.ty) js → ArePorts js → (k : ℕ) (d : Input) → k < length is → IsPort (get_or is k d).ty
ports [] js same are k d lt = absurd (omega (arith, lt))
ports (i ∷ is) [] same are k d lt = absurd (let f : ⊥ = cc in f)
ports (i ∷ is) (j ∷ js) same are zero d lt = let e : j.ty ≡ i.ty = cc in subst IsPort e are.0
ports (i ∷ is) (j ∷ js) same are (suc k) d lt = let e : map (λ i. i.ty) is ≡ map (λ j. j.ty) js = cc in ports is js e are.1 k d (omega (arith, lt))

outputs_are : (ts : List Ty) (gs : List ℕ) → AreOutputsOf ts gs → (k d : ℕ) → k < length gs → IsOutput ts (get_or gs k d)
outputs_are ts [] are k d lt = absurd (omega (arith, lt))
outputs_are ts (g ∷ gs) are zero d lt = record { ty = are.0.ty; there = are.0.image; port = are.0.port }
outputs_are ts (g ∷ gs) are (suc k) d lt = outputs_are ts gs are.1 k d (omega (arith, lt))

-- what a body of an image keeps: the inlined one of an image that stays, or 0
abbrev pub IsFine : List Ty → Ty → Tree → Type 0
IsFine ts t e = HasType ts e t × (depth_of e ≤ 1024) × AreNear e

shallow : (p : Typing) → IsWithin p → (k : ℕ) (d : Definition) → slice_get p.definitions k ≡ Some d → stays p k d ≡ true → depth_of (inlined_body (substitutes p) d) ≤ 1024
shallow p within k d is stay = elim (cases_lt 1024 (depth_of (inlined_body (substitutes p) d))) [
  | inl deep ↦ absurd (within.depth k d (record { at = is; stays = stay; deep = deep }))
  | inr low ↦ low
]

fine_body : (p : Typing) → IsTyped p → IsWithin p → (k : ℕ) (d : Definition) → slice_get p.definitions k ≡ Some d →
    IsFine (input_types p.inputs ++ map image_type (take k p.definitions)) (image_type d) (body_of p k d)
fine_body p typed within k d is = by (stays p k d) refl
  where
    by : (b : Bool) → stays p k d ≡ b → IsFine (input_types p.inputs ++ map image_type (take k p.definitions)) (image_type d) (if b then inlined_body (substitutes p) d else constant (pos 0) (image_type d))
    by true e = let fit = typed_at p typed k d is in (fit.0, shallow p within k d is e, fit.1)
    by false e = ((image_typed p typed k d is, zero_in (image_type d), refl), omega arith, tt)

image_types_same : (p : Typing) (ir : Program) → IsInlining p ir → map (λ d. d.ty) ir.images ≡ map image_type p.definitions
image_types_same p ir is =
    append_cancel_left (input_types p.inputs) (map (λ d. d.ty) ir.images) (map image_type p.definitions)
    (ap (λ ts. ts ++ map (λ d. d.ty) ir.images) (sym is.inputs) ∙ is.types)

fine_image : (p : Typing) (ir : Program) → IsTyped p → IsWithin p → IsInlining p ir → (k : ℕ) (image : D.Definition) → slice_get ir.images k ≡ Some image → IsDefined (all_types ir.inputs (take k ir.images)) image
fine_image p ir typed within is k image there =
    let listed : slice_get (bodies_of ir) k ≡ Some (tree_of image.body) = slice_get-map (λ (d : D.Definition). tree_of d.body) ir.images k ∙ ap (option_map (λ (d : D.Definition). tree_of d.body)) there in
    let (d, at, there_too) = body_entry p p.definitions 0 k (tree_of image.body) (ap (λ bs. slice_get bs k) (sym is.bodies) ∙ listed) in
    let place : 0 + k ≡ k = omega arith in
    let same : body_of p k d ≡ tree_of image.body = ap (λ m. body_of p m d) (sym place) ∙ there_too in
    let types = image_types_same p ir is in
    let one : slice_get (map (λ (d : D.Definition). d.ty) ir.images) k ≡ Some image.ty = slice_get-map (λ (d : D.Definition). d.ty) ir.images k ∙ ap (option_map (λ (d : D.Definition). d.ty)) there in
    let two : slice_get (map image_type p.definitions) k ≡ Some (image_type d) = slice_get-map image_type p.definitions k ∙ ap (option_map image_type) at in
    let some : Some image.ty ≡ Some (image_type d) = sym one ∙ ap (λ ts. slice_get ts k) types ∙ two in
    let ty : image.ty ≡ image_type d = cc in
    let earlier : all_types ir.inputs (take k ir.images) ≡ input_types p.inputs ++ map image_type (take k p.definitions) =
    ap (λ ts. ts ++ map (λ (d : D.Definition). d.ty) (take k ir.images)) is.inputs
    ∙ ap (λ ts. input_types p.inputs ++ ts) (sym (take-map (λ (d : D.Definition). d.ty) k ir.images) ∙ ap (take k) types ∙ take-map image_type k p.definitions) in
    let F : Tree → Type 0 = λ e. IsFine (input_types p.inputs ++ map image_type (take k p.definitions)) (image_type d) e in
    let fine = subst F same (fine_body p typed within k d at) in
    let G : List Ty → Type 0 = λ ts. HasType ts (tree_of image.body) (image_type d) in
    let H : Ty → Type 0 = λ t. HasType (all_types ir.inputs (take k ir.images)) (tree_of image.body) t in
    record { typed = subst H (sym ty) (subst G (sym earlier) fine.0); depth = fine.1; offsets = fine.2 }

pub is_program : (p : Typing) (ir : Program) → IsTyped p → IsWithin p → 1 ≤ length p.inputs → 1 ≤ length p.outputs → IsInlining p ir → IsProgram ir
is_program p ir typed within inputs outputs is =
    let types = image_types_same p ir is in
    let n : length ir.inputs ≡ length p.inputs = sym (length-map ir.inputs (λ i. i.ty)) ∙ ap length is.inputs ∙ length-map p.inputs (λ i. i.ty) in
    let m : length ir.images ≡ length p.definitions = sym (length-map ir.images (λ d. d.ty)) ∙ ap length types ∙ length-map p.definitions image_type in
    let o : length ir.outputs ≡ length p.outputs = ap length is.outputs in
    record {
      frame = let Q : Size → Type 0 = λ s. IsFrame s.width s.height in subst Q (sym is.size) typed.frame;
      some_inputs = omega (arith, inputs, n);
      most_inputs = omega (arith, typed.few_inputs, n);
      inputs = λ k d lt. ports ir.inputs p.inputs is.inputs typed.inputs k d lt;
      most_images = omega (arith, typed.few_inputs, typed.few_definitions, n, m);
      images = λ k image there. fine_image p ir typed within is k image there;
      some_outputs = omega (arith, outputs, o);
      most_outputs = omega (arith, typed.few_outputs, o);
      distinct = let Q : List ℕ → Type 0 = λ xs. IsDistinct xs in subst Q (sym is.outputs) typed.distinct;
      outputs =
          let Q : List ℕ → Type 0 = λ xs. All (IsOutput (P.types_of ir)) xs in
          let R : List Ty → Type 0 = λ ts. All (IsOutput ts) p.outputs in
          let are : All (IsOutput (types_of p)) p.outputs = λ k d lt. outputs_are (types_of p) p.outputs typed.outputs k d lt in
          subst Q (sym is.outputs) (subst R (sym is.types) are);
    }
