-- A text has one list of live reads, whatever form its program has.
use Rattle.std.proofs.Common.{◌≡◌, ◌∙◌, ℕ, ℤ, List, length, slice_get, slice_index_or, Some, sym, ap, subst}
use Rattle.std.proofs.lemmas.List.{length-map}
use Rattle.dk_base.specs.declared.ty.Ty.{Ty}
use Rattle.dk_base.specs.declared.stencils.Image.{Image}
use Rattle.dk_base.specs.declared.stencils.LiveRead.{LiveRead}
use Rattle.dk_base.specs.Frames.{Size}
use Rattle.dk_base.specs.Stencils.{Stencils}
use Rattle.dk_types.specs.declared.typed.TypedInput.{TypedInput}
use Rattle.dk_types.specs.Typed.{Typing}
use Rattle.pointwise_ir.specs.declared.program.Input.{Input}
use Rattle.pointwise_ir.specs.Programs.{Program}
use Rattle.pointwise_ir.specs.Stencils.{IsKeptRead, AreReads, AreImages, AreStencilsOf}
use Rattle.dk_compile.specs.Sources.{IsText}
use Rattle.dk_compile.specs.Fronts.{IsForm, IsFront}

-- a form has as many inputs as its program
pub inputs_count : (p : Typing) (ir : Program) → IsForm p ir → length ir.inputs ≡ length p.inputs
inputs_count p ir form =
    sym (length-map ir.inputs (λ (i : Input). i.ty)) ∙ (ap (λ (ts : List Ty). length ts) form.inputs ∙ length-map p.inputs (λ (i : TypedInput). i.ty))

module _ (p : Typing) (a b : Program) (one : IsForm p a) (other : IsForm p b) where
  images_of_both : (images : List Image) → AreImages a images → AreImages b images
  images_of_both images h = record {
    ascending = h.ascending;
    sound = λ k d lt.
        let i = h.sound k d lt in
        let n = (slice_index_or images k d).number in
        record {
          kept = (other.kept n).1 ((one.kept n).0 i.kept);
          ty = i.ty;
          typed = subst (λ (ts : List Ty). slice_get ts n ≡ Some i.ty) (one.types ∙ sym other.types) i.typed;
          width = i.width;
        };
    complete = λ g kept. h.complete g ((one.kept g).1 ((other.kept g).0 kept));
  }

  read_of_both : (f g : ℕ) (dx dy : ℤ) → IsKeptRead a f g dx dy → IsKeptRead b f g dx dy
  read_of_both f g dx dy h =
      let kept = (one.kept f).0 h.kept in
      record { kept = (other.kept f).1 kept; live = (other.live f g dx dy kept).1 ((one.live f g dx dy kept).0 h.live) }

pub reads_of_both : (p : Typing) (a b : Program) → IsForm p a → IsForm p b → (reads : List LiveRead) → AreReads a reads → AreReads b reads
reads_of_both p a b one other reads h = record {
  in_order = h.in_order;
  exact = λ f g dx dy. (λ has. read_of_both p a b one other f g dx dy ((h.exact f g dx dy).0 has), λ live. (h.exact f g dx dy).1 (read_of_both p b a other one f g dx dy live));
}

same_stencils : (s t : Stencils) → s.width ≡ t.width → s.height ≡ t.height → s.inputs ≡ t.inputs → s.outputs ≡ t.outputs → s.images ≡ t.images → s.reads ≡ t.reads → s ≡ t
same_stencils s t e1 e2 e3 e4 e5 e6 =
    ap (λ x. let r : Stencils = record { width = x; height = s.height; inputs = s.inputs; outputs = s.outputs; images = s.images; reads = s.reads } in r) e1
    ∙ (ap (λ x. let r : Stencils = record { width = t.width; height = x; inputs = s.inputs; outputs = s.outputs; images = s.images; reads = s.reads } in r) e2
    ∙ (ap (λ x. let r : Stencils = record { width = t.width; height = t.height; inputs = x; outputs = s.outputs; images = s.images; reads = s.reads } in r) e3
    ∙ (ap (λ x. let r : Stencils = record { width = t.width; height = t.height; inputs = t.inputs; outputs = x; images = s.images; reads = s.reads } in r) e4
    ∙ (ap (λ x. let r : Stencils = record { width = t.width; height = t.height; inputs = t.inputs; outputs = t.outputs; images = x; reads = s.reads } in r) e5
    ∙ ap (λ x. let r : Stencils = record { width = t.width; height = t.height; inputs = t.inputs; outputs = t.outputs; images = t.images; reads = x } in r) e6))))

module _ (programs : (text : List ℕ) (p q : Typing) → IsText text p → IsText text q → p ≡ q)
    (images_once : (p : Program) (a b : List Image) → AreImages p a → AreImages p b → a ≡ b)
    (reads_once : (p : Program) (a b : List LiveRead) → AreReads p a → AreReads p b → a ≡ b) where
  pub stencils_once : (p : Typing) (a b : Program) (s t : Stencils) → IsForm p a → IsForm p b → AreStencilsOf a s → AreStencilsOf b t → s ≡ t
  stencils_once p a b s t one other h k =
      let size : a.size ≡ b.size = one.size ∙ sym other.size in
      same_stencils s t
      (h.width ∙ (ap (λ (z : Size). z.width) size ∙ sym k.width))
      (h.height ∙ (ap (λ (z : Size). z.height) size ∙ sym k.height))
      (h.inputs ∙ (inputs_count p a one ∙ (sym (inputs_count p b other) ∙ sym k.inputs)))
      (h.outputs ∙ (one.outputs ∙ (sym other.outputs ∙ sym k.outputs)))
      (images_once b s.images t.images (images_of_both p a b one other s.images h.images) k.images)
      (reads_once b s.reads t.reads (reads_of_both p a b one other s.reads h.reads) k.reads)

  -- those of the text
  pub text_stencils : (text : List ℕ) (p q : Typing) (a b : Program) (s t : Stencils) → IsFront text p a s → IsFront text q b t → s ≡ t
  text_stencils text p q a b s t one other =
      let same = programs text q p other.program one.program in
      stencils_once p a b s t one.form (subst (λ (r : Typing). IsForm r b) same other.form) one.stencils other.stencils
