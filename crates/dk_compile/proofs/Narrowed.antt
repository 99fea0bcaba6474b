-- Texts that a source is narrowed to.
use Rattle.std.proofs.Common.{◌≡◌, refl, true, false, inl, inr, arith, ℕ, ◌≤◌, List, slice_get, Some, sym, subst, ◌∙◌}
use Rattle.dk_base.specs.declared.ty.Ty.{Ty}
use Rattle.dk_base.specs.Types.{width_of}
use Rattle.dk_types.specs.Typed.{Typing, types_of}
use Rattle.pointwise_ir.specs.Programs.{Program}
use Rattle.pointwise_ir.specs.Programs as P
use Rattle.raster_delay.specs.Systems.{System}
use Rattle.flow_dual.specs.declared.solution.Solution.{Solution}
use Rattle.buffer_plan.specs.Plans.{Plan, bits_of}
use Rattle.dk_compile.specs.Sources.{IsAccepted}
use Rattle.dk_compile.specs.Limits.{IsAcceptedAt}
use Rattle.dk_compile.specs.Compiled.{IsPlanned, HasLeastBits}
use Rattle.dk_compile.specs.Judged.{HasForm}
use Rattle.value_ranges.specs.declared.wider.WiderImage.{WiderImage}
use Rattle.value_ranges.specs.Wider.{wider_of}
use Rattle.dk_compile.specs.Fronts.{HasOwnBodies}
use Rattle.dk_compile.specs.Narrowed.{AreNoWider, IsOneNarrower, HasNoMoreBits, IsNarrowed, NarrowsForm, HasWiderImages, AreWiderImages}
use Rattle.dk_compile.proofs.Same.{same_of_forms}

-- of each image by its number
pub no_wider_of : (old new : List Ty) → ((k : ℕ) (t : Ty) → slice_get old k ≡ Some t → HasNoMoreBits old new k) → AreNoWider old new
no_wider_of old new each k t at =
    let is = each k t at in
    let one : Some is.before ≡ Some t = sym is.was ∙ at in
    let same : is.before ≡ t = cc in
    (is.after, is.is, subst (λ (s : Ty). width_of is.after ≤ width_of s) same is.no_more)

-- a planned text has the form that is planned
pub planned_form : (text : List ℕ) (p : Typing) (ir : Program) (s : System) (x : Solution) (plan : Plan) → IsAcceptedAt text 0 p → IsPlanned text 0 p ir s x plan → HasForm text p ir
planned_form text p ir s x plan at is = record { accepted = at.accepted; form = is.has.front.form }

pub planned_bits : (text : List ℕ) (p : Typing) (ir : Program) (s : System) (x : Solution) (plan : Plan) → IsPlanned text 0 p ir s x plan → (bits : ℕ) → bits ≡ bits_of plan → HasLeastBits text bits
planned_bits text p ir s x plan is bits are = record { program = p; ir = ir; system = s; solution = x; plan = plan; planned = is; bits_are = are }

-- a text whose program has a form that narrows the source's form
narrowed_by : (source text : List ℕ) (p : Typing) (old : Program) → HasForm source p old → NarrowsForm old text → IsNarrowed source text
narrowed_by source text p old has narrows =
    let a = has.form.types in
    let b = narrows.has.form.types in
    record {
      keeps = record {
        old = p;
        new = narrows.program;
        from = has.accepted.program;
        accepted = narrows.has.accepted;
        same = same_of_forms p narrows.program old narrows.new has.form narrows.has.form narrows.narrowing.same;
      };
      no_wider = subst (λ (ts : List Ty). AreNoWider ts (types_of narrows.program)) a (subst (λ (us : List Ty). AreNoWider (P.types_of old) us) b narrows.narrowing.no_wider);
      narrower = inr (subst (λ (ts : List Ty). IsOneNarrower ts (types_of narrows.program)) a (subst (λ (us : List Ty). IsOneNarrower (P.types_of old) us) b narrows.narrowing.narrower));
    }

pub narrowed_of : (source text shown : List ℕ) (p : Typing) (old : Program) → HasForm source p old → NarrowsForm old shown → shown ≡ text → IsNarrowed source text
narrowed_of source text shown p old has narrows same = subst (λ (t : List ℕ). IsNarrowed source t) same (narrowed_by source shown p old has narrows)

-- a source that is returned
unchanged : (source : List ℕ) (p : Typing) → IsAccepted source p → IsNarrowed source source
unchanged source p accepted = record {
  keeps = record {
    old = p;
    new = p;
    from = accepted.program;
    accepted = accepted;
    same = record {
      size = refl;
      input_types = refl;
      input_names = refl;
      count = refl;
      names = λ k lt. refl;
      types = λ k lt. refl;
      pictures = λ round is k lt x y. refl;
    };
  };
  no_wider = λ k t at. (t, at, (let same : width_of t ≤ width_of t = omega arith in same));
  narrower = inl refl;
}

pub narrowed_itself : (source text : List ℕ) (p : Typing) → IsAccepted source p → text ≡ source → IsNarrowed source text
narrowed_itself source text p accepted same = subst (λ (t : List ℕ). IsNarrowed source t) (sym same) (unchanged source p accepted)

-- equal texts have the same bits
pub same_bits : (text shown : List ℕ) (bits : ℕ) → HasLeastBits shown bits → shown ≡ text → HasLeastBits text bits
same_bits text shown bits has same = subst (λ (t : List ℕ). HasLeastBits t bits) same has

-- a planned text's form has its own bodies
pub planned_own : (text : List ℕ) (p : Typing) (ir : Program) (s : System) (x : Solution) (plan : Plan) → IsPlanned text 0 p ir s x plan → HasOwnBodies p ir
planned_own text p ir s x plan is = is.has.front.bodies

wider_by : (source text : List ℕ) (p : Typing) (old : Program) (wider : List WiderImage) → HasForm source p old → HasOwnBodies p old → HasWiderImages old text wider → AreWiderImages source text wider
wider_by source text p old wider has own is = record {
  old = p;
  new = is.program;
  before = old;
  after = is.new;
  was = has;
  was_own = own;
  is = is.has;
  is_own = is.own;
  is_same = false;
  same = λ e. absurd (let f : ⊥ = cc in f);
  narrower = λ e. is.narrower;
  images_are = is.images_are;
}

pub wider_of_text : (source text shown : List ℕ) (p : Typing) (old : Program) (wider : List WiderImage) → HasForm source p old → HasOwnBodies p old → HasWiderImages old shown wider → shown ≡ text → AreWiderImages source text wider
wider_of_text source text shown p old wider has own is same = subst (λ (t : List ℕ). AreWiderImages source t wider) same (wider_by source shown p old wider has own is)

wider_same : (source : List ℕ) (p : Typing) (old : Program) (wider : List WiderImage) → HasForm source p old → HasOwnBodies p old → wider ≡ wider_of old old true → AreWiderImages source source wider
wider_same source p old wider has own are = record {
  old = p;
  new = p;
  before = old;
  after = old;
  was = has;
  was_own = own;
  is = has;
  is_own = own;
  is_same = true;
  same = λ e. refl;
  narrower = λ e. absurd (let f : ⊥ = cc in f);
  images_are = are;
}

pub wider_itself : (source text : List ℕ) (p : Typing) (old : Program) (wider : List WiderImage) → HasForm source p old → HasOwnBodies p old → wider ≡ wider_of old old true → text ≡ source → AreWiderImages source text wider
wider_itself source text p old wider has own are same = subst (λ (t : List ℕ). AreWiderImages source t wider) (sym same) (wider_same source p old wider has own are)
