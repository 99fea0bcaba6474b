-- One register or one array is added, with its update.
use Rattle.std.proofs.Common.{◌≡◌, ℕ, zero, suc, ◌<◌, ◌≤◌, refl, Bool, true, false, List, [], ◌∷◌, ◌++◌, length, Some, sym, ap, subst, ◌∙◌, inl, inr, arith, append-nil}
use Rattle.std.specs.Prelude.{IsTrue, Contains, slice_get}
use Rattle.std.proofs.lemmas.List.{length_push}
use Rattle.std.proofs.lemmas.Option.{slice_get_within}
use Rattle.std.proofs.lemmas.List.Elements.{All-nil, All-cons, All-weaker, Contains-append_cases}
use Rattle.wiring.specs.declared.right.Atom.TheVariants as atom
use Rattle.wiring.specs.declared.netlist.Net.{Net}
use Rattle.wiring.specs.declared.netlist.Net.TheVariants.{Reg}
use Rattle.wiring.specs.declared.netlist.Holder.{Holder}
use Rattle.wiring.specs.declared.netlist.Holder.TheVariants.{OfNet, OfArray}
use Rattle.wiring.specs.declared.netlist.Shape.{Shape}
use Rattle.wiring.specs.declared.netlist.Assign.{Assign}
use Rattle.wiring.specs.declared.netlist.Update.{Update}
use Rattle.wiring.specs.declared.netlist.Update.TheVariants.{Set, Put}
use Rattle.wiring.specs.Netlist.{Netlist, IsState, update_target}
use Rattle.wiring.specs.BufferBits.{atom_reads}
use Rattle.net_build.specs.Includes.{Includes}
use Rattle.net_build.specs.Draft.{AddsWires, UpdatedBut, with_array, with_update}
use Rattle.net_build.specs.Runs.{StaysInside, IsStill, StillBut}
use Rattle.net_build.specs.Control.{IsMadeOf, AddsReads}
use Rattle.net_build.specs.Counters.{control_nets, IsMadeOfRegister, AddsRegister}
use Rattle.net_build.specs.Depth.{SetsWithin}
use Rattle.net_build.proofs.Parts.{Includes-trans}
use Rattle.wiring.proofs.Search.{at_push}
use Rattle.net_build.proofs.Drafts.{includes_array, includes_update}
use Rattle.net_build.proofs.Reading.{reads_none, reads_joined, none_reads}
use Rattle.net_build.proofs.Standing.{still_wires, still_array, still_update, still_said, still_ready, still_copies}
use Rattle.net_build.proofs.Updating.{but_array, but_wires, but_update}
use Rattle.line_buffer.specs.Added.{EachAdded}
use Rattle.line_buffer.specs.Buffers.{AddsBuffer, ReadsInside, PutsInside, is_new, is_added, TakesAdded, IsAdded}
use Rattle.line_buffer.proofs.More.{added_as, added_last, none_inside, is_added_one}

-- the last update is of something new
pub only_last : (updates : List Update) (u : Update) (P : Update → Type 0) → (P u → ⊥) → (k : ℕ) (v : Update) → length updates ≤ k → slice_get (updates ++ u ∷ []) k ≡ Some v → P v → ⊥
only_last updates u P none k v low at p =
    elim (at_push updates u v k at) as (λ _. ⊥) [
      | inl earlier ↦ omega (arith, low, slice_get_within updates k v earlier)
      | inr last ↦ none (subst P (sym last.1) p)
    ]

-- what is made of one added register is made of added ones
register_made : (new old : Netlist) (h : Holder) → length old.regs < length new.regs → IsMadeOfRegister new (length old.regs) h → IsMadeOf new (is_added new.enable (length old.regs) (length new.regs) []) h
register_made new old h there is = is (is_added new.enable (length old.regs) (length new.regs) []) each
  where
    port : (e : Bool) (n : Net) → Contains (control_nets e) n → IsTrue (is_added e (length old.regs) (length new.regs) [] (OfNet n))
    port true n (zero, l, e) = subst (λ (x : Net). IsTrue (is_added true (length old.regs) (length new.regs) [] (OfNet x))) e refl
    port false n (zero, l, e) = subst (λ (x : Net). IsTrue (is_added false (length old.regs) (length new.regs) [] (OfNet x))) e refl
    port true n (suc zero, l, e) = subst (λ (x : Net). IsTrue (is_added true (length old.regs) (length new.regs) [] (OfNet x))) e refl
    port true n (suc (suc i), l, e) = absurd (omega (arith, l))
    port false n (suc i, l, e) = absurd (omega (arith, l))

    own : (n : Net) → Contains (Reg (length old.regs) ∷ []) n → IsTrue (is_added new.enable (length old.regs) (length new.regs) [] (OfNet n))
    own n (zero, l, e) =
        subst (λ (x : Net). IsTrue (is_added new.enable (length old.regs) (length new.regs) [] (OfNet x))) e
        (is_added_one (length old.regs) (length new.regs) [] (length old.regs) (omega arith) there (λ c. no_place c))
      where
        no_place : Contains [] (length old.regs) → ⊥
        no_place (i, low, f) = omega (arith, low)
    own n (suc i, l, e) = absurd (omega (arith, l))

    each : (n : Net) → Contains (control_nets new.enable ++ Reg (length old.regs) ∷ []) n → IsTrue (is_added new.enable (length old.regs) (length new.regs) [] (OfNet n))
    each n c = elim (Contains-append_cases (control_nets new.enable) (Reg (length old.regs) ∷ []) n c) as (λ _. IsTrue (is_added new.enable (length old.regs) (length new.regs) [] (OfNet n))) [ inl h ↦ port new.enable n h | inr h ↦ own n h ]

pub adds_register : (new old : Netlist) (width : ℕ) → AddsRegister new old width → AddsBuffer new old [] []
adds_register new old width is = record {
  includes = is.includes;
  arrays = is.arrays ∙ sym (append-nil old.arrays);
  added = All-nil (IsAdded new old);
  updated = is.updated;
  only = λ k v low at. only_last old.updates (Set (length old.regs) is.next) (λ w. IsState old (update_target w)) (λ state. omega (arith, state)) k v low (subst (λ (us : List Update). slice_get us k ≡ Some v) is.updates at);
  still = λ others free but. still_copies new others [] free (is.still others free but);
  control = added_as (TakesAdded new old []) (old.updates ++ Set (length old.regs) is.next ∷ []) new.updates old.updates is.updates
      (added_last (TakesAdded new old []) old.updates (Set (length old.regs) is.next)
      (inr (All-weaker (IsMadeOfRegister new (length old.regs)) (IsMadeOf new (is_added new.enable (length old.regs) (length new.regs) [])) (λ h. register_made new old h (omega (arith, ap length is.regs, length_push old.regs width))) (atom_reads is.next) is.next_control)));
  levels = added_as (SetsWithin new) (old.updates ++ Set (length old.regs) is.next ∷ []) new.updates old.updates is.updates (added_last (SetsWithin new) old.updates (Set (length old.regs) is.next) is.next_levels);
  reads_inside = none_inside new old is.reads;
  puts_inside = added_as (PutsInside new) (old.updates ++ Set (length old.regs) is.next ∷ []) new.updates old.updates is.updates (added_last (PutsInside new) old.updates (Set (length old.regs) is.next) (All-nil (StaysInside new)));
  reads = none_reads new old (is_new old) is.reads;
}

module _ (old b1 b2 b3 : Netlist) (shape : Shape) (x : ℕ) (index value : Net) (made : b1 ≡ with_array old shape) (grows : Includes b2 b1) (wires : AddsWires b2 b1) (reads : AddsReads b2 b1 (is_new old)) (put : b3 ≡ with_update b2 (Put x (atom.Net index) (atom.Net value))) (numbered : x ≡ length old.arrays) where
  abbrev w : Update
  w = Put x (atom.Net index) (atom.Net value)

  abbrev g : Holder
  g = OfArray (length old.arrays)

  f10 : Includes b1 old
  f10 = subst (λ (b : Netlist). Includes b old) (sym made) (includes_array old shape)

  f32 : Includes b3 b2
  f32 = subst (λ (b : Netlist). Includes b b2) (sym put) (includes_update b2 w)

  f30 : Includes b3 old
  f30 = Includes-trans b3 b2 old f32 (Includes-trans b2 b1 old grows f10)

  arrays_more : b3.arrays ≡ old.arrays ++ shape ∷ []
  arrays_more = ap (λ (b : Netlist). b.arrays) put ∙ wires.arrays ∙ ap (λ (b : Netlist). b.arrays) made

  updates_more : b3.updates ≡ old.updates ++ w ∷ []
  updates_more = ap (λ (b : Netlist). b.updates) put ∙ ap (λ (us : List Update). us ++ w ∷ []) (wires.updates ∙ ap (λ (b : Netlist). b.updates) made)

  updated_all : (free : List Holder) → UpdatedBut old free → UpdatedBut b3 free
  updated_all free but =
      let with : UpdatedBut b1 (OfArray (length old.arrays) ∷ free) = subst (λ (b : Netlist). UpdatedBut b (OfArray (length old.arrays) ∷ free)) (sym made) (but_array old shape free but) in
      subst (λ (b : Netlist). UpdatedBut b free) (sym put) (but_update b2 w g free (ap (λ (j : ℕ). OfArray j) numbered) (but_wires b2 b1 (OfArray (length old.arrays) ∷ free) wires with))

  still_all : IsStill b3 [] (OfArray x) → (others : List ℕ) (free : List Holder) → StillBut old others free → StillBut b3 (others ++ []) free
  still_all own others free is =
      let with : StillBut b1 others (OfArray (length old.arrays) ∷ free) = subst (λ (b : Netlist). StillBut b others (OfArray (length old.arrays) ∷ free)) (sym made) (still_array old shape others free is) in
      let grown : StillBut b3 others (OfArray (length old.arrays) ∷ free) = subst (λ (b : Netlist). StillBut b others (OfArray (length old.arrays) ∷ free)) (sym put) (still_update b2 w others (OfArray (length old.arrays) ∷ free) (still_wires b2 b1 others (OfArray (length old.arrays) ∷ free) grows wires with)) in
      still_copies b3 others [] free (still_said b3 others g free (still_ready b3 [] others g (λ before ready. tt) (subst (λ (j : ℕ). IsStill b3 [] (OfArray j)) numbered own)) grown)

  pub adds_array : EachAdded (ReadsInside b3) b2.assigns b1.assigns → StaysInside b3 (x, atom.Net index) → IsStill b3 [] (OfArray x) → AddsBuffer b3 old (shape ∷ []) []
  adds_array inside inside_put own = record {
    includes = f30;
    arrays = arrays_more;
    added = All-nil (IsAdded b3 old);
    updated = updated_all;
    only = λ k v low at. only_last old.updates w (λ y. IsState old (update_target y)) (λ state. omega (arith, state, numbered)) k v low (subst (λ (us : List Update). slice_get us k ≡ Some v) updates_more at);
    still = still_all own;
    control = added_as (TakesAdded b3 old []) (old.updates ++ w ∷ []) b3.updates old.updates updates_more (added_last (TakesAdded b3 old []) old.updates w tt);
    levels = added_as (SetsWithin b3) (old.updates ++ w ∷ []) b3.updates old.updates updates_more (added_last (SetsWithin b3) old.updates w tt);
    reads_inside = added_as (ReadsInside b3) b2.assigns b3.assigns old.assigns (ap (λ (b : Netlist). b.assigns) put)
        (subst (λ (xs : List Assign). EachAdded (ReadsInside b3) b2.assigns xs) (ap (λ (b : Netlist). b.assigns) made) inside);
    puts_inside = added_as (PutsInside b3) (old.updates ++ w ∷ []) b3.updates old.updates updates_more (added_last (PutsInside b3) old.updates w (All-cons (StaysInside b3) (x, atom.Net index) [] inside_put (All-nil (StaysInside b3))));
    reads = reads_joined b3 b2 old (is_new old) f32 (reads_none b3 b2 (is_new old) (ap (λ (b : Netlist). b.assigns) put)) (reads_joined b2 b1 old (is_new old) grows reads (reads_none b1 old (is_new old) (ap (λ (b : Netlist). b.assigns) made)));
  }
