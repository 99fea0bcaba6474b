-- A draft that grows is a draft, and goes on after what it was.
use Rattle.std.proofs.Common.{◌≡◌, ◌≢◌, ◌⊎◌, ℕ, zero, suc, ◌+◌, ◌<◌, List, [], ◌∷◌, ◌++◌, length, Some, refl, sym, ap, subst, ◌∙◌, inl, inr, arith}
use Rattle.std.specs.Prelude.{slice_get, Contains}
use Rattle.std.proofs.lemmas.Option.{slice_get_within}
use Rattle.std.proofs.lemmas.List.{length_push, get_or_push}
use Rattle.std.proofs.lemmas.List.Elements.{All-push, All-weaker, All-contains}
use Rattle.wiring.specs.declared.netlist.Net.{Net}
use Rattle.wiring.specs.declared.netlist.Net.TheVariants.{Output, Wire}
use Rattle.wiring.specs.declared.netlist.Shape.{Shape}
use Rattle.wiring.specs.declared.netlist.Assign.{Assign}
use Rattle.wiring.specs.declared.netlist.Update.{Update}
use Rattle.wiring.specs.declared.right.Right.{Right}
use Rattle.wiring.specs.Netlist.{Netlist, net_width, IsDeclared, update_target}
use Rattle.wiring.specs.Rights.{nets_of, right_value}
use Rattle.wiring.specs.Sizes.{IsWidth}
use Rattle.wiring.specs.Rules.{IsShape, AssignIsSound, UpdateIsSound}
use Rattle.wiring.specs.Snapshot.{net_value, word_value, TakesPlace}
use Rattle.wiring.proofs.Lists.{All-at, Contains-at}
use Rattle.wiring.proofs.Search.{at_push}
use Rattle.net_build.specs.Includes.{Includes, InEach, AtEachEdge}
use Rattle.net_build.specs.Draft.{IsNet, IsReadable, IsDraft, IsOperation, IsFree, HasWire, width_of, with_wire, with_reg, with_array, with_update}
use Rattle.net_build.proofs.Parts.{Begins-refl, Begins-push, at_Begins, Includes-refl}
use Rattle.net_build.proofs.Grown.{assign_more, update_more, right_more, right_width_more}

pub last_push : {X : Type 0} (xs : List X) (y : X) → slice_get (xs ++ y ∷ []) (length xs) ≡ Some y
last_push [] y = refl
last_push (x ∷ xs) y = last_push xs y

-- what is in two lists, one after the other
abbrev pub InAppend : {X : Type 0} → List X → List X → ℕ → X → Type 0
InAppend {X} xs ys i x = (slice_get xs i ≡ Some x) ⊎ ((j : ℕ) × (i ≡ length xs + j) × (slice_get ys j ≡ Some x))

pub append_at : {X : Type 0} (xs ys : List X) (i : ℕ) (x : X) → slice_get (xs ++ ys) i ≡ Some x → InAppend xs ys i x
append_at [] ys i x e = inr (i, omega arith, e)
append_at (y ∷ xs) ys zero x e = inl e
append_at (y ∷ xs) ys (suc i) x e = elim (append_at xs ys i x e) as (λ _. InAppend (y ∷ xs) ys (suc i) x) [ inl h ↦ inl h | inr h ↦ inr (h.0, omega (arith, h.1), h.2) ]

pub append_behind : {X : Type 0} (xs ys : List X) (j : ℕ) (x : X) → slice_get ys j ≡ Some x → slice_get (xs ++ ys) (length xs + j) ≡ Some x
append_behind [] ys j x e = subst (λ (i : ℕ). slice_get ys i ≡ Some x) (let h : j ≡ 0 + j = omega arith in h) e
append_behind (y ∷ xs) ys j x e = subst (λ (i : ℕ). slice_get (y ∷ (xs ++ ys)) i ≡ Some x) (let h : suc (length xs + j) ≡ suc (length xs) + j = omega arith in h) (append_behind xs ys j x e)

-- no two places have the same key, if none has that of what is added
pub differ_push : {X K : Type 0} (key : X → K) (xs : List X) (y : X) → ((j k : ℕ) (a b : X) → slice_get xs j ≡ Some a → slice_get xs k ≡ Some b → key a ≡ key b → j ≡ k) → ((k : ℕ) (a : X) → slice_get xs k ≡ Some a → key a ≢ key y) →
    (j k : ℕ) (a b : X) → slice_get (xs ++ y ∷ []) j ≡ Some a → slice_get (xs ++ y ∷ []) k ≡ Some b → key a ≡ key b → j ≡ k
differ_push key xs y once free j k a b at_j at_k same =
    elim (at_push xs y a j at_j) as (λ _. j ≡ k) [
      | inl h ↦ elim (at_push xs y b k at_k) as (λ _. j ≡ k) [
        | inl g ↦ once j k a b h g same
        | inr g ↦ absurd (free j a h (same ∙ ap key (sym g.1)))
      ]
      | inr h ↦ elim (at_push xs y b k at_k) as (λ _. j ≡ k) [
        | inl g ↦ absurd (free k b g (sym same ∙ ap key (sym h.1)))
        | inr g ↦ h.0 ∙ sym g.0
      ]
    ]

pub includes_wire : (b : Netlist) (r : Right Net ℕ) → Includes (with_wire b r) b
includes_wire b r = record {
  enable = refl;
  inputs = refl;
  outputs = refl;
  wires = Begins-push b.wires (width_of b r);
  regs = Begins-refl b.regs;
  arrays = Begins-refl b.arrays;
  assigns = Begins-push b.assigns (record { target = Wire (length b.wires); right = r });
  updates = Begins-refl b.updates;
}

pub includes_reg : (b : Netlist) (w : ℕ) → Includes (with_reg b w) b
includes_reg b w = record { enable = refl; inputs = refl; outputs = refl; wires = Begins-refl b.wires; regs = Begins-push b.regs w; arrays = Begins-refl b.arrays; assigns = Begins-refl b.assigns; updates = Begins-refl b.updates }

pub includes_array : (b : Netlist) (s : Shape) → Includes (with_array b s) b
includes_array b s = record { enable = refl; inputs = refl; outputs = refl; wires = Begins-refl b.wires; regs = Begins-refl b.regs; arrays = Begins-push b.arrays s; assigns = Begins-refl b.assigns; updates = Begins-refl b.updates }

pub includes_update : (b : Netlist) (u : Update) → Includes (with_update b u) b
includes_update b u = record { enable = refl; inputs = refl; outputs = refl; wires = Begins-refl b.wires; regs = Begins-refl b.regs; arrays = Begins-refl b.arrays; assigns = Begins-refl b.assigns; updates = Begins-push b.updates u }

pub includes_op : (old new : Netlist) (r : Right Net ℕ) → (new ≡ old) ⊎ (new ≡ with_wire old r) → Includes new old
includes_op old new r (inl e) = subst (λ (n : Netlist). Includes n old) (sym e) (Includes-refl old)
includes_op old new r (inr e) = subst (λ (n : Netlist). Includes n old) (sym e) (includes_wire old r)

pub includes_same : (old new part : Netlist) → new ≡ old → Includes old part → Includes new part
includes_same old new part e f = subst (λ (n : Netlist). Includes n part) (sym e) f

pub draft_wire : (b : Netlist) (r : Right Net ℕ) → IsDraft b → IsOperation b r → ((k : ℕ) (a : Assign) → slice_get b.assigns k ≡ Some a → a.right ≢ r) → IsDraft (with_wire b r)
draft_wire b r draft operation absent =
    let m : Netlist = with_wire b r in
    let a : Assign = record { target = Wire (length b.wires); right = r } in
    let part : Includes m b = includes_wire b r in
    let last : net_width m (Wire (length b.wires)) ≡ width_of b r = get_or_push b.wires (width_of b r) 0 (length b.wires) refl in
    let added : AssignIsSound m a = record {
      target = omega (arith, length_push b.wires (width_of b r));
      right = right_more m b part r operation.sound;
      width = right_width_more m b part r operation.sound ∙ sym last;
    } in
    record {
      ports = draft.ports;
      wires = omega (arith, length_push b.assigns a, length_push b.wires (width_of b r), draft.wires);
      each = λ k x at. elim (at_push b.assigns a x k at) [
        | inl h ↦ draft.each k x h
        | inr h ↦ sym (ap (λ (z : Assign). z.target) h.1) ∙ ap (λ z. Wire z) (sym (h.0 ∙ draft.wires))
      ];
      wire_widths = All-push IsWidth b.wires (width_of b r) draft.wire_widths operation.wide;
      reg_widths = draft.reg_widths;
      shapes = draft.shapes;
      sound = All-push (AssignIsSound m) b.assigns a (All-weaker (AssignIsSound b) (AssignIsSound m) (assign_more m b part) b.assigns draft.sound) added;
      readable = λ k x at. elim (at_push b.assigns a x k at) as (λ _. IsReadable x.right) [
        | inl h ↦ draft.readable k x h
        | inr h ↦ subst (λ (z : Assign). IsReadable z.right) h.1 operation.readable
      ];
      earlier = λ k x j at read. elim (at_push b.assigns a x k at) [
        | inl h ↦ draft.earlier k x j h read
        | inr h ↦
            let read' : Contains (nets_of r) (Wire j) = subst (λ (z : Assign). Contains (nets_of z.right) (Wire j)) (sym h.1) read in
            let declared : j < length b.wires = All-contains (IsDeclared b) (nets_of r) (Wire j) operation.sound.nets read' in
            omega (arith, declared, draft.wires, h.0)
      ];
      differ = differ_push (λ (z : Assign). z.right) b.assigns a draft.differ absent;
      updates = All-weaker (UpdateIsSound b) (UpdateIsSound m) (update_more m b part) b.updates draft.updates;
      once = draft.once;
    }

pub draft_reg : (b : Netlist) (w : ℕ) → IsDraft b → IsWidth w → IsDraft (with_reg b w)
draft_reg b w draft wide =
    let m : Netlist = with_reg b w in
    let part : Includes m b = includes_reg b w in
    record {
      ports = draft.ports;
      wires = draft.wires;
      each = draft.each;
      wire_widths = draft.wire_widths;
      reg_widths = All-push IsWidth b.regs w draft.reg_widths wide;
      shapes = draft.shapes;
      sound = All-weaker (AssignIsSound b) (AssignIsSound m) (assign_more m b part) b.assigns draft.sound;
      readable = draft.readable;
      earlier = draft.earlier;
      differ = draft.differ;
      updates = All-weaker (UpdateIsSound b) (UpdateIsSound m) (update_more m b part) b.updates draft.updates;
      once = draft.once;
    }

pub draft_array : (b : Netlist) (s : Shape) → IsDraft b → IsShape s → IsDraft (with_array b s)
draft_array b s draft shaped =
    let m : Netlist = with_array b s in
    let part : Includes m b = includes_array b s in
    record {
      ports = draft.ports;
      wires = draft.wires;
      each = draft.each;
      wire_widths = draft.wire_widths;
      reg_widths = draft.reg_widths;
      shapes = All-push IsShape b.arrays s draft.shapes shaped;
      sound = All-weaker (AssignIsSound b) (AssignIsSound m) (assign_more m b part) b.assigns draft.sound;
      readable = draft.readable;
      earlier = draft.earlier;
      differ = draft.differ;
      updates = All-weaker (UpdateIsSound b) (UpdateIsSound m) (update_more m b part) b.updates draft.updates;
      once = draft.once;
    }

pub draft_update : (b : Netlist) (u : Update) → IsDraft b → UpdateIsSound b u → IsFree b (update_target u) → IsDraft (with_update b u)
draft_update b u draft sound free =
    let m : Netlist = with_update b u in
    let part : Includes m b = includes_update b u in
    record {
      ports = draft.ports;
      wires = draft.wires;
      each = draft.each;
      wire_widths = draft.wire_widths;
      reg_widths = draft.reg_widths;
      shapes = draft.shapes;
      sound = All-weaker (AssignIsSound b) (AssignIsSound m) (assign_more m b part) b.assigns draft.sound;
      readable = draft.readable;
      earlier = draft.earlier;
      differ = draft.differ;
      updates = All-push (UpdateIsSound m) b.updates u (All-weaker (UpdateIsSound b) (UpdateIsSound m) (update_more m b part) b.updates draft.updates) (update_more m b part u sound);
      once = differ_push update_target b.updates u draft.once free;
    }

-- the value of a wire, in each valuation
pub wire_value : (b : Netlist) (k : ℕ) (r : Right Net ℕ) → HasWire b k r → InEach b (λ m s. net_value s (Wire k) ≡ right_value (net_width m) (word_value s) (net_value s) r)
wire_value b k r has m s part settled =
    All-at (λ (a : Assign). net_value s a.target ≡ right_value (net_width m) (word_value s) (net_value s) a.right) m.assigns k (record { target = Wire k; right = r }) settled.assigns
    (at_Begins b.assigns m.assigns k (record { target = Wire k; right = r }) part.assigns has)

pub wire_net : (b : Netlist) (k : ℕ) (r : Right Net ℕ) → IsDraft b → HasWire b k r → IsNet b (Wire k)
wire_net b k r draft has = record {
  declared = omega (arith, slice_get_within b.assigns k (record { target = Wire k; right = r }) has, draft.wires);
  no_output = λ j e. (let f : Wire k ≡ Output j = e in cc);
}

-- what the last update does at each edge
pub last_update : (b : Netlist) (u : Update) → AtEachEdge (with_update b u) (λ s next. TakesPlace s next u)
last_update b u m s next part is =
    All-at (TakesPlace s next) m.updates (length b.updates) u is.updates (at_Begins (b.updates ++ u ∷ []) m.updates (length b.updates) u part.updates (last_push b.updates u))

pub wire_width : (old new : Netlist) (k : ℕ) (r : Right Net ℕ) → IsDraft new → IsOperation old r → Includes new old → HasWire new k r → net_width new (Wire k) ≡ width_of old r
wire_width old new k r draft operation part has =
    sym (All-at (AssignIsSound new) new.assigns k (record { target = Wire k; right = r }) draft.sound has).width ∙ right_width_more new old part r operation.sound

pub wire_made : (b : Netlist) (k : ℕ) (r : Right Net ℕ) → HasWire b k r → Contains b.assigns (record { target = Wire k; right = r })
wire_made b k r has = Contains-at b.assigns k (record { target = Wire k; right = r }) has
