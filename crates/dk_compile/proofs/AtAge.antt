-- What the definitions say of a text at an age.
use Rattle.std.proofs.Common.{◌≡◌, ◌≢◌, ◌⊎◌, inl, inr, ℕ, List, refl, ap, sym, subst, ◌∙◌}
use Rattle.dk_base.specs.Stencils.{Stencils}
use Rattle.dk_types.specs.Typed.{Typing}
use Rattle.pointwise_ir.specs.Programs.{Program}
use Rattle.raster_delay.specs.Systems.{System}
use Rattle.flow_dual.specs.declared.solution.Solution.{Solution}
use Rattle.buffer_plan.specs.Plans.{Plan}
use Rattle.buffer_plan.specs.declared.fault.PlanFault.{PlanFault}
use Rattle.buffer_plan.specs.declared.fault.PlanFault.TheVariants as plan
use Rattle.buffer_plan.specs.Limits.{IsWithinLimits, KeepsLimits, IsPlanFault}
use Rattle.source_fault.specs.declared.fault.SourceFault.{SourceFault}
use Rattle.source_fault.specs.declared.fault.SourceFault.TheVariants.{TooLong, Lex, Nest, Syntax, Depth, Types, Nodes, InlineDepth, Reads, Bits, Latency}
use Rattle.dk_compile.specs.declared.fault.SourceError.TheVariants.{Fault}
use Rattle.dk_compile.specs.Sources.{IsAccepted, IsSourceFault, IsErrorBy}
use Rattle.dk_compile.specs.Fronts.{IsFront}
use Rattle.dk_compile.specs.Faults.{of_plan}
use Rattle.dk_compile.specs.Limits.{HasSystem, IsAcceptedAt, PassesLimit, IsFaultAt}
use Rattle.dk_compile.specs.Compiled.{IsPlanned}

same_system : (s t : System) → s.stencils ≡ t.stencils → s.age ≡ t.age → s ≡ t
same_system s t one other =
    ap (λ (x : Stencils). let r : System = record { stencils = x; age = s.age } in r) one ∙ ap (λ (n : ℕ). let r : System = record { stencils = t.stencils; age = n } in r) other

-- an error has one fault
fault_one : (f g : SourceFault) → Fault f ≡ Fault g → f ≡ g
fault_one f g e = cc

-- the text's own fault is its fault at any age
own_fault : (text : List ℕ) (age : ℕ) (f : SourceFault) → IsSourceFault text f → IsFaultAt text age f
own_fault text age TooLong h = h
own_fault text age (Lex x) h = h
own_fault text age (Nest x) h = h
own_fault text age (Syntax x) h = h
own_fault text age (Depth x) h = h
own_fault text age (Types x) h = h
own_fault text age (Nodes x) h = h
own_fault text age (InlineDepth x) h = h
own_fault text age (Reads x) h = h
own_fault text age (Bits n) h = absurd h
own_fault text age (Latency n) h = absurd h

-- a limit that is passed is a fault
pub limit_fault : (text : List ℕ) (age : ℕ) (p : Typing) (ir : Program) (s : System) (f : PlanFault) → HasSystem text age p ir s → IsPlanFault s f → IsErrorBy (IsFaultAt text age) (of_plan f)
limit_fault text age p ir s (plan.Bits n) has is = record { program = p; ir = ir; system = s; has = has; passes = is }
limit_fault text age p ir s (plan.Latency n) has is = record { program = p; ir = ir; system = s; has = has; passes = is }
limit_fault text age p ir s plan.OutOfMemory has is = tt

-- the first limit exceeded, and its fault
record Told (text : List ℕ) (age : ℕ) (f : SourceFault) : Type 0 where
  fault : PlanFault
  passes : PassesLimit text age fault
  is : IsPlanFault passes.system fault
  told : of_plan fault ≡ Fault f
  judged : fault ≢ plan.OutOfMemory

-- a fault at an age is the text's own, or such a limit
own_or_limit : (text : List ℕ) (age : ℕ) (f : SourceFault) → IsFaultAt text age f → IsSourceFault text f ⊎ Told text age f
own_or_limit text age (Bits n) h = inr (record { fault = plan.Bits n; passes = h; is = h.passes; told = refl; judged = λ e. cc })
own_or_limit text age (Latency n) h = inr (record { fault = plan.Latency n; passes = h; is = h.passes; told = refl; judged = λ e. cc })
own_or_limit text age TooLong h = inl h
own_or_limit text age (Lex x) h = inl h
own_or_limit text age (Nest x) h = inl h
own_or_limit text age (Syntax x) h = inl h
own_or_limit text age (Depth x) h = inl h
own_or_limit text age (Types x) h = inl h
own_or_limit text age (Nodes x) h = inl h
own_or_limit text age (InlineDepth x) h = inl h
own_or_limit text age (Reads x) h = inl h

module _ (accepted_of : (text : List ℕ) (p : Typing) (ir : Program) (s : Stencils) → IsFront text p ir s → IsAccepted text p) where
  -- what is planned is accepted
  pub planned_accepted : (text : List ℕ) (age : ℕ) (p : Typing) (ir : Program) (s : System) (x : Solution) (r : Plan) → IsPlanned text age p ir s x r → IsAcceptedAt text age p
  planned_accepted text age p ir s x r is = record {
    accepted = accepted_of text p ir s.stencils is.has.front;
    ir = ir;
    system = s;
    has = is.has;
    keeps = record {
      delays_are = x.delays;
      vector = is.solved.vector;
      within = subst (λ (y : Plan). IsWithinLimits y.system y.delays) is.plan_is is.within.within;
    };
  }

  module _ (stencils_once : (text : List ℕ) (p q : Typing) (a b : Program) (s t : Stencils) → IsFront text p a s → IsFront text q b t → s ≡ t)
      (text_apart : (text : List ℕ) (p : Typing) (f : SourceFault) → IsAccepted text p → IsSourceFault text f → ⊥)
      (one_fault : (text : List ℕ) (f g : SourceFault) → IsSourceFault text f → IsSourceFault text g → f ≡ g)
      (limits_apart : (s : System) (f : PlanFault) → KeepsLimits s → IsPlanFault s f → f ≡ plan.OutOfMemory)
      (one_limit : (s : System) (f g : PlanFault) → IsPlanFault s f → IsPlanFault s g → (f ≡ plan.OutOfMemory) ⊎ (g ≡ plan.OutOfMemory) ⊎ (f ≡ g)) where
    pub system_once : (text : List ℕ) (age : ℕ) (p q : Typing) (a b : Program) (s t : System) → HasSystem text age p a s → HasSystem text age q b t → s ≡ t
    system_once text age p q a b s t one other = same_system s t (stencils_once text p q a b s.stencils t.stencils one.front other.front) (one.age_is ∙ sym other.age_is)

    pub apart_at : (text : List ℕ) (age : ℕ) (p : Typing) (f : SourceFault) → IsAcceptedAt text age p → IsFaultAt text age f → ⊥
    apart_at text age p f ok h = elim (own_or_limit text age f h) as (λ _. ⊥) [
      | inl own ↦ text_apart text p f ok.accepted own
      | inr t ↦
          let same = system_once text age p t.passes.program ok.ir t.passes.ir ok.system t.passes.system ok.has t.passes.has in
          t.judged (limits_apart t.passes.system t.fault (subst KeepsLimits same ok.keeps) t.is)
    ]

    -- a text whose program passes a limit has no fault of its own
    no_own : (text : List ℕ) (age : ℕ) (f g : SourceFault) → Told text age f → IsSourceFault text g → ⊥
    no_own text age f g t own =
        text_apart text t.passes.program g (accepted_of text t.passes.program t.passes.ir t.passes.system.stencils t.passes.has.front) own

    both_told : (text : List ℕ) (age : ℕ) (f g : SourceFault) → Told text age f → Told text age g → f ≡ g
    both_told text age f g h k =
        let same = system_once text age h.passes.program k.passes.program h.passes.ir k.passes.ir h.passes.system k.passes.system h.passes.has k.passes.has in
        elim (one_limit k.passes.system h.fault k.fault (subst (λ (s : System). IsPlanFault s h.fault) same h.is) k.is) as (λ _. f ≡ g) [
          | inl e ↦ absurd (h.judged e)
          | inr rest ↦ elim rest as (λ _. f ≡ g) [
            | inl e ↦ absurd (k.judged e)
            | inr e ↦ fault_one f g (sym h.told ∙ (ap of_plan e ∙ k.told))
          ]
        ]

    pub agree_at : (text : List ℕ) (age : ℕ) (f g : SourceFault) → IsFaultAt text age f → IsFaultAt text age g → f ≡ g
    agree_at text age f g x y = elim (own_or_limit text age f x) as (λ _. f ≡ g) [
      | inl own ↦ elim (own_or_limit text age g y) as (λ _. f ≡ g) [ inl other ↦ one_fault text f g own other | inr t ↦ absurd (no_own text age g f t own) ]
      | inr t ↦ elim (own_or_limit text age g y) as (λ _. f ≡ g) [ inl other ↦ absurd (no_own text age f g t other) | inr u ↦ both_told text age f g t u ]
    ]
