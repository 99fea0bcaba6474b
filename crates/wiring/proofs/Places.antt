-- What a right side reads, place by place.
use Rattle.std.proofs.Common.{◌≡◌, ℕ, zero, suc, ◌+◌, ◌-◌, ◌<◌, ◌≤◌, List, [], ◌∷◌, ◌++◌, length, set, refl, ap, subst, sym, ◌∙◌, inl, inr, arith, lit<, Option, Some, None}
use Rattle.std.specs.Prelude.{slice_get, Contains}
use Rattle.std.specs.Option.{option_and_then}
use Rattle.std.proofs.lemmas.List.Elements.{Contains-append_left, Contains-append_right, Contains-append_cases}
use Rattle.std.proofs.lemmas.Option.{same_Some, slice_get_within, slice_get_past, option_and_then_some, none-some}
use Rattle.wiring.specs.declared.right.Atom.{Atom}
use Rattle.wiring.specs.declared.right.Atom.TheVariants as atom
use Rattle.wiring.specs.declared.right.Right.{Right}
use Rattle.wiring.specs.declared.right.Right.TheVariants.{Copy, Not, Binary, Choose, Join, Repeat, Bit, Slice, Word}
use Rattle.wiring.specs.declared.netlist.Net.{Net}
use Rattle.wiring.specs.declared.netlist.Assign.{Assign}
use Rattle.wiring.specs.declared.order.Mark.{Mark}
use Rattle.wiring.specs.declared.order.Mark.TheVariants.{New, Open, Done}
use Rattle.wiring.specs.declared.order.Visit.{Visit}
use Rattle.wiring.specs.declared.drivers.Drivers.{Drivers}
use Rattle.wiring.specs.Rights.{operands, nets_of, atom_nets}
use Rattle.wiring.specs.Order.{Feeds, net_in, reads_at, driver_at_of}
use Rattle.wiring.specs.Moves.{FeedsAt, new_count, path_weight}
use Rattle.wiring.specs.Tables.{driver_of, IsTable}
use Rattle.wiring.proofs.Lists.{at_one}

one : (n : Net) → Contains (n ∷ []) n
one n = (0, lit< tt, refl)

in_atom : (a : Atom Net) (n : Net) → net_in a ≡ Some n → Contains (atom_nets a) n
in_atom (atom.Net m) n e = subst (λ (x : Net). Contains (m ∷ []) x) (same_Some m n e) (one m)
in_atom (atom.Constant c) n e = cc

atom_in : (a : Atom Net) (n : Net) → Contains (atom_nets a) n → net_in a ≡ Some n
atom_in (atom.Net m) n c = single m n c
  where
    single : (m n : Net) → Contains (m ∷ []) n → Some m ≡ Some n
    single m n (zero, l, e) = ap (λ (x : Net). Some x) e
    single m n (suc k, l, e) = absurd (omega (arith, l))
atom_in (atom.Constant c) n (k, l, e) = absurd (omega (arith, l))

first_in : (r : Right Net ℕ) (n : Net) → reads_at r 0 ≡ Some n → Contains (nets_of r) n
first_in (Copy a) n e = in_atom a n e
first_in (Not a) n e = in_atom a n e
first_in (Binary o a b) n e = Contains-append_left (atom_nets a) (atom_nets b) n (in_atom a n e)
first_in (Choose c a b) n e = Contains-append_left (atom_nets c ++ atom_nets a) (atom_nets b) n (Contains-append_left (atom_nets c) (atom_nets a) n (in_atom c n e))
first_in (Join a b) n e = Contains-append_left (atom_nets a) (atom_nets b) n (in_atom a n e)
first_in (Repeat k a) n e = in_atom a n e
first_in (Bit v k) n e = subst (λ (x : Net). Contains (v ∷ []) x) (same_Some v n e) (one v)
first_in (Slice v m l) n e = subst (λ (x : Net). Contains (v ∷ []) x) (same_Some v n e) (one v)
first_in (Word m i) n e = in_atom i n e

second_in : (r : Right Net ℕ) (n : Net) → reads_at r 1 ≡ Some n → Contains (nets_of r) n
second_in (Binary o a b) n e = Contains-append_right (atom_nets a) (atom_nets b) n (in_atom b n e)
second_in (Choose c a b) n e = Contains-append_left (atom_nets c ++ atom_nets a) (atom_nets b) n (Contains-append_right (atom_nets c) (atom_nets a) n (in_atom a n e))
second_in (Join a b) n e = Contains-append_right (atom_nets a) (atom_nets b) n (in_atom b n e)
second_in r n e = cc

third_in : (r : Right Net ℕ) (n : Net) → reads_at r 2 ≡ Some n → Contains (nets_of r) n
third_in (Choose c a b) n e = Contains-append_right (atom_nets c ++ atom_nets a) (atom_nets b) n (in_atom b n e)
third_in r n e = cc

-- there are three places
pub reads_past : (r : Right Net ℕ) (i : ℕ) → 3 ≤ i → reads_at r i ≡ None
reads_past r i l = ap (option_and_then net_in) (slice_get_past (operands r) i (omega (arith, l, few r)))
  where
    few : (r : Right Net ℕ) → length (operands r) ≤ 3
    few (Copy a) = omega arith
    few (Not a) = omega arith
    few (Binary o a b) = omega arith
    few (Choose c a b) = omega arith
    few (Join a b) = omega arith
    few (Repeat n a) = omega arith
    few (Bit v k) = omega arith
    few (Slice v m l) = omega arith
    few (Word m i) = omega arith

-- what is at a place is read
reads_in : (r : Right Net ℕ) (place : ℕ) (n : Net) → reads_at r place ≡ Some n → Contains (nets_of r) n
reads_in r zero n e = first_in r n e
reads_in r (suc zero) n e = second_in r n e
reads_in r (suc (suc zero)) n e = third_in r n e
reads_in r (suc (suc (suc k))) n e = absurd (none-some n (sym (reads_past r (suc (suc (suc k))) (omega arith)) ∙ e))

abbrev Stands : Right Net ℕ → Net → Type 0
Stands r n = (place : ℕ) × (place < 3) × (reads_at r place ≡ Some n)

-- what is read is at a place
stands : (r : Right Net ℕ) (n : Net) → Contains (nets_of r) n → Stands r n
stands (Copy a) n c = (0, lit< tt, atom_in a n c)
stands (Not a) n c = (0, lit< tt, atom_in a n c)
stands (Binary o a b) n c = elim (Contains-append_cases (atom_nets a) (atom_nets b) n c) as (λ _. Stands (Binary o a b) n) [ inl h ↦ (0, lit< tt, atom_in a n h) | inr h ↦ (1, lit< tt, atom_in b n h) ]
stands (Choose k a b) n c =
    elim (Contains-append_cases (atom_nets k ++ atom_nets a) (atom_nets b) n c) as (λ _. Stands (Choose k a b) n) [
      | inl h ↦ elim (Contains-append_cases (atom_nets k) (atom_nets a) n h) as (λ _. Stands (Choose k a b) n) [ inl g ↦ (0, lit< tt, atom_in k n g) | inr g ↦ (1, lit< tt, atom_in a n g) ]
      | inr h ↦ (2, lit< tt, atom_in b n h)
    ]
stands (Join a b) n c = elim (Contains-append_cases (atom_nets a) (atom_nets b) n c) as (λ _. Stands (Join a b) n) [ inl h ↦ (0, lit< tt, atom_in a n h) | inr h ↦ (1, lit< tt, atom_in b n h) ]
stands (Repeat k a) n c = (0, lit< tt, atom_in a n c)
stands (Bit v k) n c = (0, lit< tt, atom_in (atom.Net v) n c)
stands (Slice v m l) n c = (0, lit< tt, atom_in (atom.Net v) n c)
stands (Word m i) n c = (0, lit< tt, atom_in i n c)

module _ (assigns : List Assign) (d : Drivers) (table : IsTable assigns d) (k : ℕ) (a : Assign) (at : slice_get assigns k ≡ Some a) where
  -- what feeds an assign at a place is the table's
  pub feeds_driver : (j place : ℕ) → FeedsAt assigns j k place → driver_at_of d a.right place ≡ Some j
  feeds_driver j place feeds =
      let same : feeds.to ≡ a = at_one assigns k feeds.to a feeds.to_at at in
      let read : reads_at a.right place ≡ Some feeds.from.target = subst (λ (x : Assign). reads_at x.right place ≡ Some feeds.from.target) same feeds.read in
      ap (λ (o : Option Net). option_and_then (driver_of d) o) read ∙ table.complete j feeds.from feeds.from_at

  -- and it feeds it
  pub driver_feeds : (j place : ℕ) → driver_at_of d a.right place ≡ Some j → Feeds assigns j k
  driver_feeds j place e =
      option_and_then_some (driver_of d) (reads_at a.right place) j e (λ n read driver.
      let from = table.sound n j driver in
      record { from = from.0; to = a; from_at = from.1; to_at = at; read = subst (λ (x : Net). Contains (nets_of a.right) x) (sym from.2) (reads_in a.right place n read) })

  pub driver_within : (j place : ℕ) → driver_at_of d a.right place ≡ Some j → j < length assigns
  driver_within j place e =
      let feeds = driver_feeds j place e in
      slice_get_within assigns j feeds.from feeds.from_at

-- what feeds an assign feeds it at a place
pub feeds_at : (assigns : List Assign) (j k : ℕ) → Feeds assigns j k → (place : ℕ) × (place < 3) × FeedsAt assigns j k place
feeds_at assigns j k feeds =
    let s = stands feeds.to.right feeds.from.target feeds.read in
    (s.0, s.1, record { from = feeds.from; to = feeds.to; from_at = feeds.from_at; to_at = feeds.to_at; read = s.2 })

-- how far the search has to go after a mark was set
pub count_opened : (marks : List Mark) (k : ℕ) → slice_get marks k ≡ Some New → suc (new_count (set marks k Open)) ≡ new_count marks
count_opened [] k e = cc
count_opened (m ∷ marks) zero e = subst (λ (x : Mark). suc (new_count (set (x ∷ marks) 0 Open)) ≡ new_count (x ∷ marks)) (sym (same_Some m New e)) refl
count_opened (New ∷ marks) (suc k) e = ap suc (count_opened marks k e)
count_opened (Open ∷ marks) (suc k) e = count_opened marks k e
count_opened (Done ∷ marks) (suc k) e = count_opened marks k e

pub count_done : (marks : List Mark) (k : ℕ) → slice_get marks k ≡ Some Open → new_count (set marks k Done) ≡ new_count marks
count_done [] k e = cc
count_done (m ∷ marks) zero e = subst (λ (x : Mark). new_count (set (x ∷ marks) 0 Done) ≡ new_count (x ∷ marks)) (sym (same_Some m Open e)) refl
count_done (New ∷ marks) (suc k) e = ap suc (count_done marks k e)
count_done (Open ∷ marks) (suc k) e = count_done marks k e
count_done (Done ∷ marks) (suc k) e = count_done marks k e

pub weight_push : (path : List Visit) (v : Visit) → path_weight (path ++ v ∷ []) ≡ path_weight path + suc (3 - v.looked)
weight_push [] v = omega arith
weight_push (w ∷ path) v = omega (arith, weight_push path v)
