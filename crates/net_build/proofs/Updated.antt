-- Updates of registers and arrays.
use Rattle.std.proofs.Common.{◌≡◌, ◌⊎◌, inl, inr, ℕ, ◌+◌, ◌<◌, List, [], ◌∷◌, ◌++◌, length, sym, ap, subst, ◌∙◌}
use Rattle.std.specs.Prelude.{Contains}
use Rattle.std.proofs.lemmas.List.Elements.{All-cons, All-nil}
use Rattle.wiring.specs.declared.netlist.Net.{Net}
use Rattle.wiring.specs.declared.netlist.Holder.TheVariants.{OfNet, OfArray}
use Rattle.wiring.specs.declared.netlist.Update.{Update}
use Rattle.wiring.specs.declared.netlist.Update.TheVariants.{Set, Put}
use Rattle.wiring.specs.declared.right.Atom.{Atom}
use Rattle.wiring.specs.declared.right.Atom.TheVariants as atom
use Rattle.wiring.specs.Sizes.{IsConstant}
use Rattle.wiring.specs.Netlist.{Netlist, net_width, word_width, IsDeclared, update_target}
use Rattle.wiring.specs.Rules.{UpdateIsSound, AtomIsSound}
use Rattle.wiring.specs.Snapshot.{TakesPlace}
use Rattle.net_build.specs.Includes.{Includes, AtEachEdge}
use Rattle.net_build.specs.Draft.{IsDraft, IsNet, IsRegister, IsFree, number, with_update}
use Rattle.net_build.specs.Runs.{StaysInside, NeverStops}
use Rattle.net_build.specs.Control.{IsControlBut, TakesControl, IsControlled}
use Rattle.net_build.specs.Depth.{IsWithin, is_start, control_levels}
use Rattle.net_build.proofs.Stops.{update_stops}
use Rattle.net_build.proofs.Control.{update_control}
use Rattle.net_build.proofs.Drafts.{draft_update, includes_update, last_update}
use Rattle.net_build.proofs.Room.{has_room}

net_sound : (b : Netlist) (n : Net) → IsNet b n → AtomIsSound b (atom.Net n)
net_sound b n h = record { nets = All-cons (IsDeclared b) n [] h.declared (All-nil (IsDeclared b)); constants = All-nil IsConstant }

-- what an update must meet to be added
pub record CanAdd (b : Netlist) (u : Update) : Type 0 where
  pub draft : IsDraft (with_update b u)
  pub room : length b.updates < length b.regs + length b.arrays

can_add : (b : Netlist) (u : Update) → IsDraft b → UpdateIsSound b u → IsFree b (update_target u) → CanAdd b u
can_add b u draft sound free = record { draft = draft_update b u draft sound free; room = has_room b u draft sound free }

pub can_set : (b : Netlist) (reg value : Net) → IsDraft b → IsRegister b reg → IsNet b value → net_width b value ≡ net_width b reg → IsFree b (OfNet reg) → CanAdd b (Set (number reg) (atom.Net value))
can_set b reg value draft register net same free =
    can_add b (Set (number reg) (atom.Net value)) draft
    (register.1, net_sound b value net, same ∙ ap (net_width b) register.0)
    (subst (λ (n : Net). IsFree b (OfNet n)) register.0 free)

pub can_put : (b : Netlist) (array : ℕ) (index value : Net) → IsDraft b → array < length b.arrays → IsNet b index → IsNet b value → net_width b value ≡ word_width b array → IsFree b (OfArray array) → CanAdd b (Put array (atom.Net index) (atom.Net value))
can_put b array index value draft within at net same free =
    can_add b (Put array (atom.Net index) (atom.Net value)) draft (within, net_sound b index at, net_sound b value net, same) free

-- with the conditions on the builder's value
pub set_at : (b self : Netlist) (reg value : Net) → b ≡ self → IsDraft b → IsRegister self reg → IsNet self value → net_width self value ≡ net_width self reg → IsFree self (OfNet reg) → CanAdd b (Set (number reg) (atom.Net value))
set_at b self reg value e draft register net same free =
    can_set b reg value draft
    (subst (λ (n : Netlist). IsRegister n reg) (sym e) register)
    (subst (λ (n : Netlist). IsNet n value) (sym e) net)
    (subst (λ (n : Netlist). net_width n value ≡ net_width n reg) (sym e) same)
    (subst (λ (n : Netlist). IsFree n (OfNet reg)) (sym e) free)

pub put_at : (b self : Netlist) (array : ℕ) (index value : Net) → b ≡ self → IsDraft b → array < length self.arrays → IsNet self index → IsNet self value → net_width self value ≡ word_width self array → IsFree self (OfArray array) → CanAdd b (Put array (atom.Net index) (atom.Net value))
put_at b self array index value e draft within at net same free =
    can_put b array index value draft
    (subst (λ (n : Netlist). array < length n.arrays) (sym e) within)
    (subst (λ (n : Netlist). IsNet n index) (sym e) at)
    (subst (λ (n : Netlist). IsNet n value) (sym e) net)
    (subst (λ (n : Netlist). net_width n value ≡ word_width n array) (sym e) same)
    (subst (λ (n : Netlist). IsFree n (OfArray array)) (sym e) free)

abbrev updated : Netlist → List Update → Netlist
updated b us = record b { updates = us }

pub draft_updated : (b : Netlist) (us : List Update) (u : Update) → us ≡ b.updates ++ u ∷ [] → CanAdd b u → IsDraft (updated b us)
draft_updated b us u e can = subst (λ (l : List Update). IsDraft (updated b l)) (sym e) can.draft

pub includes_updated : (b self : Netlist) (us : List Update) (u : Update) → b ≡ self → us ≡ b.updates ++ u ∷ [] → Includes (updated b us) self
includes_updated b self us u same e = subst (λ (n : Netlist). Includes (updated b us) n) same (subst (λ (l : List Update). Includes (updated b l) b) (sym e) (includes_update b u))

pub edge_updated : (b : Netlist) (us : List Update) (u : Update) → us ≡ b.updates ++ u ∷ [] → AtEachEdge (updated b us) (λ s next. TakesPlace s next u)
edge_updated b us u e = subst (λ (l : List Update). AtEachEdge (updated b l) (λ s next. TakesPlace s next u)) (sym e) (last_update b u)

pub stops_set : (b self : Netlist) (us : List Update) (r : ℕ) (a : Atom Net) → b ≡ self → us ≡ b.updates ++ Set r a ∷ [] → NeverStops self → NeverStops (updated b us)
stops_set b self us r a same e never =
    subst (λ (l : List Update). NeverStops (updated b l)) (sym e) (update_stops b (Set r a) (subst NeverStops (sym same) never) (All-nil (StaysInside (with_update b (Set r a)))))

pub stops_put : (b self : Netlist) (us : List Update) (x : ℕ) (i a : Atom Net) → b ≡ self → us ≡ b.updates ++ Put x i a ∷ [] → NeverStops self → StaysInside (updated b us) (x, i) → NeverStops (updated b us)
stops_put b self us x i a same e never inside =
    let n : Netlist = with_update b (Put x i a) in
    let there : StaysInside n (x, i) = subst (λ (l : List Update). StaysInside (updated b l) (x, i)) e inside in
    subst (λ (l : List Update). NeverStops (updated b l)) (sym e) (update_stops b (Put x i a) (subst NeverStops (sym same) never) (All-cons (StaysInside n) (x, i) [] there (All-nil (StaysInside n))))

pub control_set : (b self : Netlist) (us : List Update) (r : ℕ) (value : Net) (copies : List ℕ) → b ≡ self → us ≡ b.updates ++ Set r (atom.Net value) ∷ [] → IsControlled self copies → Contains copies r ⊎ IsControlBut (updated b us) copies (OfNet value) → IsWithin (updated b us) is_start (control_levels b.enable) (OfNet value) → IsControlled (updated b us) copies
control_set b self us r value copies same e is takes short =
    let n : Netlist = with_update b (Set r (atom.Net value)) in
    subst (λ (l : List Update). IsControlled (updated b l) copies) (sym e) (update_control b (Set r (atom.Net value)) copies (subst (λ (x : Netlist). IsControlled x copies) (sym same) is) (by takes)
    (All-cons (IsWithin n is_start (control_levels b.enable)) (OfNet value) [] (subst (λ (l : List Update). IsWithin (updated b l) is_start (control_levels b.enable) (OfNet value)) e short) (All-nil (IsWithin n is_start (control_levels b.enable)))))
  where
    by : Contains copies r ⊎ IsControlBut (updated b us) copies (OfNet value) → TakesControl (with_update b (Set r (atom.Net value))) copies (Set r (atom.Net value))
    by (inl c) = inl c
    by (inr is) =
        let n : Netlist = with_update b (Set r (atom.Net value)) in
        inr (All-cons (IsControlBut n copies) (OfNet value) [] (subst (λ (l : List Update). IsControlBut (updated b l) copies (OfNet value)) e is) (All-nil (IsControlBut n copies)))

pub control_put : (b self : Netlist) (us : List Update) (x : ℕ) (i a : Atom Net) (copies : List ℕ) → b ≡ self → us ≡ b.updates ++ Put x i a ∷ [] → IsControlled self copies → IsControlled (updated b us) copies
control_put b self us x i a copies same e is = subst (λ (l : List Update). IsControlled (updated b l) copies) (sym e) (update_control b (Put x i a) copies (subst (λ (n : Netlist). IsControlled n copies) (sym same) is) tt tt)
