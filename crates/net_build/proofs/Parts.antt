-- Parts of netlists.
use Rattle.std.proofs.Common.{◌≡◌, ℕ, List, [], ◌∷◌, ◌++◌, refl, ap, subst, sym, ◌∙◌, Some, append_assoc, append-nil}
use Rattle.std.specs.Prelude.{slice_get}
use Rattle.wiring.specs.Netlist.{Netlist}
use Rattle.wiring.specs.Snapshot.{Snapshot}
use Rattle.net_build.specs.Includes.{Begins, Includes, InEach}
use Rattle.wiring.proofs.Lists.{slice_get-append}

pub Begins-refl : {X : Type 0} (xs : List X) → Begins xs xs
Begins-refl xs = ([], sym (append-nil xs))

pub Begins-push : {X : Type 0} (xs : List X) (x : X) → Begins xs (xs ++ x ∷ [])
Begins-push xs x = (x ∷ [], refl)

pub Begins-trans : {X : Type 0} (xs ys zs : List X) → Begins xs ys → Begins ys zs → Begins xs zs
Begins-trans xs ys zs a b = (a.0 ++ b.0, b.1 ∙ ap (λ l. l ++ b.0) a.1 ∙ append_assoc xs a.0 b.0)

-- what a list has, each list that goes on after it has at the same place
pub at_Begins : {X : Type 0} (xs ys : List X) (k : ℕ) (x : X) → Begins xs ys → slice_get xs k ≡ Some x → slice_get ys k ≡ Some x
at_Begins xs ys k x b e = subst (λ l. slice_get l k ≡ Some x) (sym b.1) (slice_get-append xs b.0 k x e)

pub Includes-refl : (m : Netlist) → Includes m m
Includes-refl m = record { enable = refl; inputs = refl; outputs = refl; wires = Begins-refl m.wires; regs = Begins-refl m.regs; arrays = Begins-refl m.arrays; assigns = Begins-refl m.assigns; updates = Begins-refl m.updates }

pub Includes-trans : (c b a : Netlist) → Includes c b → Includes b a → Includes c a
Includes-trans c b a f g = record {
  enable = f.enable ∙ g.enable;
  inputs = f.inputs ∙ g.inputs;
  outputs = f.outputs ∙ g.outputs;
  wires = Begins-trans a.wires b.wires c.wires g.wires f.wires;
  regs = Begins-trans a.regs b.regs c.regs g.regs f.regs;
  arrays = Begins-trans a.arrays b.arrays c.arrays g.arrays f.arrays;
  assigns = Begins-trans a.assigns b.assigns c.assigns g.assigns f.assigns;
  updates = Begins-trans a.updates b.updates c.updates g.updates f.updates;
}

-- what holds in each netlist with a part holds in each with more
pub InEach-more : (P : Netlist → Snapshot → Type 0) (b a : Netlist) → Includes b a → InEach a P → InEach b P
InEach-more P b a f h m s g settled = h m s (Includes-trans m b a g f) settled

-- the same in the order of growth, for chains of calls
pub includes_on : (a b c : Netlist) → Includes b a → Includes c b → Includes c a
includes_on a b c f g = Includes-trans c b a g f
