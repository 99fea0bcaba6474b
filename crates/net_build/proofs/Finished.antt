-- A draft with its outputs keeps the net rules.
use Rattle.std.proofs.Common.{◌≡◌, ℕ, zero, suc, ◌+◌, ◌<◌, List, [], ◌∷◌, length, Some, refl, sym, ap, subst, ◌∙◌, inl, inr, arith}
use Rattle.std.specs.Prelude.{slice_get, Contains, All}
use Rattle.std.proofs.lemmas.Option.{slice_get_within, same_Some, slice_get_cases}
use Rattle.std.proofs.lemmas.List.Elements.{All-weaker, All-cons, All-nil}
use Rattle.wiring.specs.declared.netlist.Net.{Net}
use Rattle.wiring.specs.declared.netlist.Net.TheVariants.{Input, Output, Wire, Reg}
use Rattle.wiring.specs.declared.netlist.Assign.{Assign}
use Rattle.wiring.specs.Sizes.{IsConstant}
use Rattle.wiring.specs.Netlist.{Netlist, net_width, IsDeclared, IsDriven}
use Rattle.wiring.specs.Rights.{nets_of, right_value}
use Rattle.wiring.specs.Snapshot.{net_value, word_value}
use Rattle.wiring.specs.Rules.{KeepsRules, AssignIsSound, UpdateIsSound}
use Rattle.wiring.specs.Order.{Feeds, IsEvaluationOrder}
use Rattle.wiring.proofs.Lists.{All-at, All-from_at, slice_get-append}
use Rattle.wiring.proofs.Ordered.{order_acyclic}
use Rattle.net_build.specs.Includes.{Includes, InEach}
use Rattle.net_build.specs.Draft.{IsDraft, AreSources, IsCounted, AllUpdated, output_assign, output_assigns, with_outputs}
use Rattle.net_build.proofs.Parts.{Begins-refl, at_Begins}
use Rattle.net_build.proofs.Grown.{assign_more, update_more, width_more, declared_more}
use Rattle.net_build.proofs.Drafts.{append_at, append_behind}

abbrev OutputAt : ℕ → List Net → ℕ → Assign → Type 0
OutputAt k ns i a = (n : Net) × (slice_get ns i ≡ Some n) × (a ≡ output_assign (k + i) n)

output_at : (k : ℕ) (ns : List Net) (i : ℕ) (a : Assign) → slice_get (output_assigns k ns) i ≡ Some a → OutputAt k ns i a
output_at k [] i a e = cc
output_at k (n ∷ ns) zero a e = (n, refl, sym (same_Some (output_assign k n) a e) ∙ ap (λ (j : ℕ). output_assign j n) (let h : k ≡ k + 0 = omega arith in h))
output_at k (n ∷ ns) (suc i) a e =
    let h = output_at (suc k) ns i a e in
    (h.0, h.1, h.2 ∙ ap (λ (j : ℕ). output_assign j h.0) (let g : suc k + i ≡ k + suc i = omega arith in g))

output_there : (k : ℕ) (ns : List Net) (i : ℕ) (n : Net) → slice_get ns i ≡ Some n → slice_get (output_assigns k ns) i ≡ Some (output_assign (k + i) n)
output_there k [] i n e = cc
output_there k (x ∷ ns) zero n e =
    ap (λ (y : Net). Some (output_assign k y)) (same_Some x n e) ∙ ap (λ (j : ℕ). Some (output_assign j n)) (let h : k ≡ k + 0 = omega arith in h)
output_there k (x ∷ ns) (suc i) n e = output_there (suc k) ns i n e ∙ ap (λ (j : ℕ). Some (output_assign j n)) (let g : suc k + i ≡ k + suc i = omega arith in g)

pub includes_outputs : (b : Netlist) (sources : List Net) → Includes (with_outputs b sources) b
includes_outputs b sources = record {
  enable = refl;
  inputs = refl;
  outputs = refl;
  wires = Begins-refl b.wires;
  regs = Begins-refl b.regs;
  arrays = Begins-refl b.arrays;
  assigns = (output_assigns 0 sources, refl);
  updates = Begins-refl b.updates;
}

module _ (b : Netlist) (draft : IsDraft b) (sources : List Net) (are : AreSources b sources) where
  abbrev m : Netlist
  m = with_outputs b sources

  abbrev n : ℕ
  n = length b.assigns

  data Stands (k : ℕ) (a : Assign) : Type 0 where
    old : slice_get b.assigns k ≡ Some a → k < n → Stands k a
    output : (j : ℕ) (x : Net) → k ≡ n + j → slice_get sources j ≡ Some x → a ≡ output_assign j x → Stands k a

  stands : (k : ℕ) (a : Assign) → slice_get m.assigns k ≡ Some a → Stands k a
  stands k a at =
      elim (append_at b.assigns (output_assigns 0 sources) k a at) as (λ _. Stands k a) [
        | inl h ↦ old h (slice_get_within b.assigns k a h)
        | inr h ↦ (let g = output_at 0 sources h.0 a h.2 in output h.0 g.0 h.1 g.1 (g.2 ∙ ap (λ (j : ℕ). output_assign j g.0) (let e : 0 + h.0 ≡ h.0 = omega arith in e)))
      ]

  output_is : (j : ℕ) (x : Net) → slice_get sources j ≡ Some x → slice_get m.assigns (n + j) ≡ Some (output_assign j x)
  output_is j x at =
      append_behind b.assigns (output_assigns 0 sources) j (output_assign j x)
      (output_there 0 sources j x at ∙ ap (λ (i : ℕ). Some (output_assign i x)) (let e : 0 + j ≡ j = omega arith in e))

  part : Includes m b
  part = includes_outputs b sources

  output_sound : (j : ℕ) (x : Net) → slice_get sources j ≡ Some x → AssignIsSound m (output_assign j x)
  output_sound j x at =
      let s = are.each j x at in
      let within : j < length b.outputs = omega (arith, slice_get_within sources j x at, are.one_each) in
      record {
        target = within;
        right = record {
          nets = All-cons (IsDeclared m) x [] (declared_more m b part x s.net.declared) (All-nil (IsDeclared m));
          constants = All-nil IsConstant;
          array = tt;
          divisor = tt;
          widths = tt;
        };
        width = width_more m b part x s.net.declared ∙ s.width_is ∙ sym (width_more m b part (Output j) within);
      }

  sound : All (AssignIsSound m) m.assigns
  sound = All-from_at (AssignIsSound m) m.assigns (λ k a at. by k a (stands k a at))
    where
      by : (k : ℕ) (a : Assign) → Stands k a → AssignIsSound m a
      by k a (old h l) = assign_more m b part a (All-at (AssignIsSound b) b.assigns k a draft.sound h)
      by k a (output j x e at is) = subst (AssignIsSound m) (sym is) (output_sound j x at)

  abbrev Driver : Net → Type 0
  Driver net = (k : ℕ) × (a : Assign) × (slice_get m.assigns k ≡ Some a) × (a.target ≡ net)

  some : (net : Net) → IsDriven m net → Driver net
  some (Input i) d = absurd d
  some (Reg i) d = absurd d
  some (Output i) d =
      elim (slice_get_cases sources i).1 as (λ _. Driver (Output i)) [
        | inl h ↦ (n + i, output_assign i h.0, output_is i h.0 h.2, refl)
        | inr h ↦ absurd (omega (arith, h.0, d, are.one_each))
      ]
  some (Wire i) d =
      elim (slice_get_cases b.assigns i).1 as (λ _. Driver (Wire i)) [
        | inl h ↦ (i, h.0, slice_get-append b.assigns (output_assigns 0 sources) i h.0 h.2, draft.each i h.0 h.2)
        | inr h ↦ absurd (omega (arith, h.0, d, draft.wires))
      ]

  place : Net → ℕ
  place (Input i) = 0
  place (Output i) = n + i
  place (Wire i) = i
  place (Reg i) = 0

  placed : (k : ℕ) (a : Assign) → slice_get m.assigns k ≡ Some a → place a.target ≡ k
  unfolding place
  placed k a at = by (stands k a at)
    where
      by : Stands k a → place a.target ≡ k
      by (old h l) = ap place (draft.each k a h)
      by (output j x e at is) = ap (λ (z : Assign). place z.target) is ∙ sym e

  only : (x y : Net) → Contains (x ∷ []) y → x ≡ y
  only x y (zero, l, e) = e
  only x y (suc i, l, e) = absurd (omega (arith, l))

  feeds_earlier : (j k : ℕ) → Feeds m.assigns j k → j < k
  feeds_earlier j k feeds = by (stands k feeds.to feeds.to_at) (stands j feeds.from feeds.from_at)
    where
      by : Stands k feeds.to → Stands j feeds.from → j < k
      by (old h l) (old g i) = draft.earlier k feeds.to j h (subst (λ (x : Net). Contains (nets_of feeds.to.right) x) (draft.each j feeds.from g) feeds.read)
      by (old h l) (output i x e at is) = absurd (draft.readable k feeds.to h i (subst (λ (a : Assign). Contains (nets_of feeds.to.right) a.target) is feeds.read))
      by (output i x e at is) (old g l) = omega (arith, e, l)
      by (output i x e at is) (output j' y e' at' is') =
          absurd ((are.each i x at).net.no_output j' (only x (Output j') (subst (λ (a : Assign). Contains (nets_of (output_assign i x).right) a.target) is' (subst (λ (a : Assign). Contains (nets_of a.right) feeds.from.target) is feeds.read))))

  module _ (order : List ℕ) (counted : IsCounted order (length m.assigns)) where
    counted_at : (p k : ℕ) → slice_get order p ≡ Some k → (p ≡ k) × (p < length m.assigns)
    counted_at p k at =
        let l : p < length m.assigns = omega (arith, slice_get_within order p k at, counted.long) in
        (same_Some p k (sym (counted.each p l) ∙ at), l)

    pub finished_ordered : IsEvaluationOrder m.assigns order
    finished_ordered = record {
      within = λ p k at. let c = counted_at p k at in omega (arith, c.0, c.1);
      once = λ p q k at_p at_q. (counted_at p k at_p).0 ∙ sym (counted_at q k at_q).0;
      all = λ k l. (k, counted.each k l);
      behind = λ p j k at feeds. let c = counted_at p k at in (j, omega (arith, feeds_earlier j k feeds, c.0), counted.each j (slice_get_within m.assigns j feeds.from feeds.from_at));
    }

    pub finished_rules : AllUpdated b → KeepsRules m
    finished_rules all = record {
      ports = draft.ports;
      wires = draft.wire_widths;
      regs = draft.reg_widths;
      arrays = draft.shapes;
      assigns = sound;
      updates = All-weaker (UpdateIsSound b) (UpdateIsSound m) (update_more m b part) b.updates draft.updates;
      driven = record {
        some = some;
        one = λ j k x y at_j at_k same. sym (placed j x at_j) ∙ ap place same ∙ placed k y at_k;
      };
      updated = record { some = all; one = draft.once };
      acyclic = order_acyclic m.assigns order finished_ordered;
    }

-- each output shows its net
pub output_shown : (b : Netlist) (sources : List Net) (k : ℕ) (n : Net) → slice_get sources k ≡ Some n → InEach (with_outputs b sources) (λ m s. net_value s (Output k) ≡ net_value s n)
output_shown b sources k n at m s part settled =
    let whole : Netlist = with_outputs b sources in
    let there : slice_get whole.assigns (length b.assigns + k) ≡ Some (output_assign k n) =
    append_behind b.assigns (output_assigns 0 sources) k (output_assign k n) (output_there 0 sources k n at ∙ ap (λ (i : ℕ). Some (output_assign i n)) (let e : 0 + k ≡ k = omega arith in e)) in
    All-at (λ (a : Assign). net_value s a.target ≡ right_value (net_width m) (word_value s) (net_value s) a.right) m.assigns (length b.assigns + k) (output_assign k n) settled.assigns
    (at_Begins whole.assigns m.assigns (length b.assigns + k) (output_assign k n) part.assigns there)
