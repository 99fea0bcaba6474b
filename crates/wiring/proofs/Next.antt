-- The contents after an edge are one.
use Rattle.std.proofs.Common.{◌≡◌, ◌≢◌, ℕ, zero, suc, ◌<◌, ◌≤◌, List, [], length, refl, ap, subst, sym, ◌∙◌, inl, inr, arith, Some}
use Rattle.std.specs.Prelude.{slice_get, slice_set, slice_index_or}
use Rattle.std.proofs.lemmas.List.{length-set, ext_get_or}
use Rattle.std.proofs.lemmas.Option.{slice_get_within, slice_get_cases, get_or_from_slice_get}
use Rattle.std.proofs.lemmas.Bool.{cases_lt}
use Rattle.wiring.specs.declared.netlist.Net.TheVariants.{Reg}
use Rattle.wiring.specs.declared.netlist.Update.{Update}
use Rattle.wiring.specs.declared.netlist.Update.TheVariants.{Set, Put}
use Rattle.wiring.specs.Rights.{atom_value}
use Rattle.wiring.specs.Netlist.{Netlist, update_target}
use Rattle.wiring.specs.declared.netlist.Holder.TheVariants.{OfNet, OfArray}
use Rattle.wiring.specs.Snapshot.{Contents, Snapshot, net_value, TakesPlace, IsNext, HasPlaces, HasOneNext}
use Rattle.wiring.specs.Rules.{KeepsRules, UpdateIsSound}
use Rattle.wiring.proofs.Lists.{All-at, All-from_at, at_one}
use Rattle.wiring.proofs.Search.{get_set_same, get_set_other}

same_reg : (t r : ℕ) → OfNet (Reg t) ≡ OfNet (Reg r) → r ≡ t
same_reg t r e = cc

same_array : (y x : ℕ) → OfArray y ≡ OfArray x → x ≡ y
same_array y x e = cc

not_reg : (x r : ℕ) → OfArray x ≡ OfNet (Reg r) → ⊥
not_reg x r e = cc

-- the contents after one update more
abbrev pub put_update : Snapshot → Update → Contents → Contents
put_update s (Set r a) c = record { regs = slice_set c.regs r (atom_value (net_value s) a); arrays = c.arrays }
put_update s (Put x i a) c = record { regs = c.regs; arrays = slice_set c.arrays x (slice_set (slice_index_or s.contents.arrays x []) (atom_value (net_value s) i) (atom_value (net_value s) a)) }

places-put_update : (m : Netlist) (s : Snapshot) (u : Update) (c : Contents) → HasPlaces m c → HasPlaces m (put_update s u c)
places-put_update m s (Set r a) c h = record { regs = length-set c.regs r (atom_value (net_value s) a) ∙ h.regs; arrays = h.arrays }
places-put_update m s (Put x i a) c h = record { regs = h.regs; arrays = length-set c.arrays x (slice_set (slice_index_or s.contents.arrays x []) (atom_value (net_value s) i) (atom_value (net_value s) a)) ∙ h.arrays }

takes_same : (m : Netlist) (s : Snapshot) (u : Update) (c : Contents) → HasPlaces m c → UpdateIsSound m u → TakesPlace s (put_update s u c) u
takes_same m s (Set r a) c h sound = get_set_same c.regs r (atom_value (net_value s) a) (omega (arith, sound.0, h.regs))
takes_same m s (Put x i a) c h sound = get_set_same c.arrays x (slice_set (slice_index_or s.contents.arrays x []) (atom_value (net_value s) i) (atom_value (net_value s) a)) (omega (arith, sound.0, h.arrays))

takes_other : (s : Snapshot) (u v : Update) (c : Contents) → update_target u ≢ update_target v → TakesPlace s c v → TakesPlace s (put_update s u c) v
takes_other s (Set r a) (Set t b) c ne takes = get_set_other c.regs r t (atom_value (net_value s) a) (λ e. ne (ap (λ (z : ℕ). OfNet (Reg z)) (sym e))) ∙ takes
takes_other s (Set r a) (Put y j b) c ne takes = takes
takes_other s (Put x i a) (Set t b) c ne takes = takes
takes_other s (Put x i a) (Put y j b) c ne takes =
    get_set_other c.arrays x y (slice_set (slice_index_or s.contents.arrays x []) (atom_value (net_value s) i) (atom_value (net_value s) a)) (λ e. ne (ap (λ (z : ℕ). OfArray z) (sym e))) ∙ takes

module _ (m : Netlist) (rules : KeepsRules m) (s : Snapshot) (places : HasPlaces m s.contents) where
  -- contents in which the first updates took place
  record Partly (p : ℕ) : Type 0 where
    now : Contents
    has : HasPlaces m now
    upto : (k : ℕ) (u : Update) → k < p → slice_get m.updates k ≡ Some u → TakesPlace s now u

  partly : (p : ℕ) → p ≤ length m.updates → Partly p
  partly zero le = record { now = s.contents; has = places; upto = λ k u l at. absurd (omega (arith, l)) }
  partly (suc p) le =
      let before = partly p (omega arith) in
      elim (slice_get_cases m.updates p).1 as (λ _. Partly (suc p)) [
        | inl found ↦
            let u = found.0 in
            let sound = All-at (UpdateIsSound m) m.updates p u rules.updates found.2 in
            record {
              now = put_update s u before.now;
              has = places-put_update m s u before.now before.has;
              upto = λ k v l at. elim (cases_lt k p) as (λ _. TakesPlace s (put_update s u before.now) v) [
                | inl below ↦ takes_other s u v before.now (λ same. let e : p ≡ k = rules.updated.one p k u v found.2 at same in absurd (omega (arith, below, e))) (before.upto k v below at)
                | inr above ↦
                    let e : k ≡ p = omega (arith, l, above) in
                    let one : u ≡ v = at_one m.updates p u v found.2 (subst (λ (z : ℕ). slice_get m.updates z ≡ Some v) e at) in
                    subst (λ (w : Update). TakesPlace s (put_update s u before.now) w) one (takes_same m s u before.now before.has sound)
              ];
            }
        | inr past ↦ absurd (omega (arith, past.0))
      ]

  pub some_next : (new : Contents) × IsNext m s new
  some_next =
      let all = partly (length m.updates) (omega arith) in (
        all.now,
        record {
          regs = all.has.regs ∙ sym places.regs;
          arrays = all.has.arrays ∙ sym places.arrays;
          updates = All-from_at (TakesPlace s all.now) m.updates (λ k u at. all.upto k u (slice_get_within m.updates k u at) at);
        },
      )

  module _ (new other : Contents) (a : IsNext m s new) (b : IsNext m s other) where
    reg_by : (r k : ℕ) (u : Update) → slice_get m.updates k ≡ Some u → update_target u ≡ OfNet (Reg r) → (x : ℕ) × (slice_get new.regs r ≡ Some x) × (slice_get other.regs r ≡ Some x)
    reg_by r k (Set t v) at is =
        let sets : r ≡ t = same_reg t r is in
        let x = atom_value (net_value s) v in
        (x, subst (λ (z : ℕ). slice_get new.regs z ≡ Some x) (sym sets) (All-at (TakesPlace s new) m.updates k (Set t v) a.updates at), subst (λ (z : ℕ). slice_get other.regs z ≡ Some x) (sym sets) (All-at (TakesPlace s other) m.updates k (Set t v) b.updates at))
    reg_by r k (Put x i v) at is = absurd (not_reg x r is)

    array_by : (x k : ℕ) (u : Update) → slice_get m.updates k ≡ Some u → update_target u ≡ OfArray x → (w : List ℕ) × (slice_get new.arrays x ≡ Some w) × (slice_get other.arrays x ≡ Some w)
    array_by x k (Set t v) at is = absurd (not_reg x t (sym is))
    array_by x k (Put y i v) at is =
        let puts : x ≡ y = same_array y x is in
        let w = slice_set (slice_index_or s.contents.arrays y []) (atom_value (net_value s) i) (atom_value (net_value s) v) in
        (w, subst (λ (z : ℕ). slice_get new.arrays z ≡ Some w) (sym puts) (All-at (TakesPlace s new) m.updates k (Put y i v) a.updates at), subst (λ (z : ℕ). slice_get other.arrays z ≡ Some w) (sym puts) (All-at (TakesPlace s other) m.updates k (Put y i v) b.updates at))

    same_regs : new.regs ≡ other.regs
    same_regs = ext_get_or 0 new.regs other.regs (a.regs ∙ sym b.regs) (λ r l.
        let by = rules.updated.some (OfNet (Reg r)) (omega (arith, a.regs, places.regs)) in
        let both = reg_by r by.0 by.1 by.2 by.3 in
        get_or_from_slice_get new.regs r both.0 0 both.1 ∙ sym (get_or_from_slice_get other.regs r both.0 0 both.2))

    same_arrays : new.arrays ≡ other.arrays
    same_arrays = ext_get_or [] new.arrays other.arrays (a.arrays ∙ sym b.arrays) (λ x l.
        let by = rules.updated.some (OfArray x) (omega (arith, a.arrays, places.arrays)) in
        let both = array_by x by.0 by.1 by.2 by.3 in
        get_or_from_slice_get new.arrays x both.0 [] both.1 ∙ sym (get_or_from_slice_get other.arrays x both.0 [] both.2))

    pub same_next : new ≡ other
    same_next = rw (same_regs, same_arrays) refl

pub has_one_next : (m : Netlist) → KeepsRules m → HasOneNext m
has_one_next m rules = record {
  some = λ s places. some_next m rules s places;
  one = λ s new other places a b. same_next m rules s places new other a b;
}
