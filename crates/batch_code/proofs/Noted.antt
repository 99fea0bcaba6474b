-- Updates and reads that are noted one after another.
use Rattle.std.proofs.Common.{◌≡◌, ◌≢◌, ℕ, ◌+◌, ◌<◌, ◌≤◌, Bool, true, false, List, [], ◌∷◌, length, ◌⊎◌, inl, inr, refl, ap, sym, subst, ◌∙◌, arith, Some, lit<, length-set}
use Rattle.std.specs.Prelude.{All, slice_get, slice_index_or, slice_set}
use Rattle.std.proofs.lemmas.Bool.{cases_eq, cases_lt}
use Rattle.std.proofs.lemmas.List.{get_or-set_same, get_or-set_other}
use Rattle.std.proofs.lemmas.List.Elements.{All-set, All-contains}
use Rattle.std.proofs.lemmas.Option.{slice_get_within, slice_get-get_or, get_or_from_slice_get}
use Rattle.wiring.specs.declared.right.Atom.{Atom}
use Rattle.wiring.specs.declared.right.Atom.TheVariants as atom
use Rattle.wiring.specs.declared.right.Right.TheVariants.{Word}
use Rattle.wiring.specs.declared.netlist.Net.{Net}
use Rattle.wiring.specs.declared.netlist.Holder.TheVariants.{OfNet, OfArray}
use Rattle.wiring.specs.declared.netlist.Net.TheVariants.{Reg}
use Rattle.wiring.specs.declared.netlist.Assign.{Assign}
use Rattle.wiring.specs.declared.netlist.Update.{Update}
use Rattle.wiring.specs.declared.netlist.Update.TheVariants.{Set, Put}
use Rattle.wiring.specs.Rights.{atom_nets}
use Rattle.wiring.specs.Netlist.{Netlist, IsDeclared}
use Rattle.wiring.specs.Rules.{KeepsRules, UpdateIsSound, AssignIsSound}
use Rattle.wiring.proofs.Lists.{All-at, at_one}
use Rattle.wiring.proofs.Nets.{driven_declared}
use Rattle.cycle_sim.specs.Slots.{slot, rename_atom, all_widths}
use Rattle.batch_rows.specs.declared.module_code.WordRead.{WordRead}
use Rattle.batch_rows.specs.declared.module_code.WordPut.{WordPut}
use Rattle.batch_code.specs.Code.{IsWithin, ReadIsWithin, PutIsWithin, IsRead, read_of, put_of}
use Rattle.batch_code.specs.Parts.{AreNexts, ArePuts, AreReads, AreReadWhereMarked, HasReads}
use Rattle.batch_code.proofs.Left.{declared_within}

-- ---- places of a list that is written

set_here : {X : Type 0} (xs : List X) (i : ℕ) (y : X) → i < length xs → slice_get (slice_set xs i y) i ≡ Some y
set_here xs i y l = slice_get-get_or (slice_set xs i y) i y (let n = length-set xs i y in omega (arith, n, l)) ∙ ap (λ z. Some z) (get_or-set_same xs i y y l)

set_other : {X : Type 0} (xs : List X) (i j : ℕ) (y x : X) → j ≢ i → slice_get xs j ≡ Some x → slice_get (slice_set xs i y) j ≡ Some x
set_other xs i j y x apart at =
    let l = slice_get_within xs j x at in
    slice_get-get_or (slice_set xs i y) j x (let n = length-set xs i y in omega (arith, n, l)) ∙ ap (λ z. Some z) (get_or-set_other xs i j y x apart ∙ get_or_from_slice_get xs j x x at)

mark_here : (marks : List Bool) (i : ℕ) → i < length marks → slice_index_or (slice_set marks i true) i false ≡ true
mark_here marks i l = get_or-set_same marks i true false l

-- ---- slots

pub atom_within : (m : Netlist) (a : Atom Net) → All (IsDeclared m) (atom_nets a) → IsWithin (length (all_widths m)) (rename_atom (slot m) a)
atom_within m (atom.Net n) h = declared_within m n (All-contains (IsDeclared m) (n ∷ []) n h (0, lit< tt, refl))
atom_within m (atom.Constant c) h = tt

abbrev put_with : Atom ℕ → Atom ℕ → WordPut
put_with index value = record { index = index; value = value }

abbrev read_with : ℕ → Atom ℕ → WordRead
read_with target index = record { target = target; index = index }

earlier : (j k : ℕ) → j < k + 1 → (j ≡ k → ⊥) → j < k
earlier j k l apart = within (cases_lt j k)
  where
    within : (j < k) ⊎ (k ≤ j) → j < k
    within (inl h) = h
    within (inr h) = absurd (apart (omega (arith, h, l)))

module _ (m : Netlist) (rules : KeepsRules m) (k : ℕ) where
  update_sound : (u : Update) → slice_get m.updates k ≡ Some u → UpdateIsSound m u
  update_sound u at = All-at (UpdateIsSound m) m.updates k u rules.updates at

  -- ---- next values

  pub next_more : (r : ℕ) (a : Atom Net) → slice_get m.updates k ≡ Some (Set r a) → (nexts : List (Atom ℕ)) → AreNexts m k nexts → (b : Atom ℕ) → b ≡ rename_atom (slot m) a → AreNexts m (k + 1) (slice_set nexts r b)
  next_more r a at nexts before b is = record {
    places = length-set nexts r b ∙ before.places;
    within = All-set (IsWithin (length (all_widths m))) nexts r b (subst (λ (c : Atom ℕ). IsWithin (length (all_widths m)) c) (sym is) (atom_within m a (update_sound (Set r a) at).1.nets)) before.within;
    each = λ j s d l there. by_place j s d l there (cases_eq j k);
  }
    where
      here : slice_get (slice_set nexts r b) r ≡ Some (rename_atom (slot m) a)
      here = set_here nexts r b (let ok = update_sound (Set r a) at in omega (arith, ok.0, before.places)) ∙ ap (λ c. Some c) is

      by_reg : (j s : ℕ) (d : Atom Net) → slice_get m.updates j ≡ Some (Set s d) → slice_get nexts s ≡ Some (rename_atom (slot m) d) → (j ≡ k → ⊥) → (s ≡ r) ⊎ (s ≡ r → ⊥) → slice_get (slice_set nexts r b) s ≡ Some (rename_atom (slot m) d)
      by_reg j s d there was apart (inl e) = absurd (apart (rules.updated.one j k (Set s d) (Set r a) there at (ap (λ n. OfNet (Reg n)) e)))
      by_reg j s d there was apart (inr other) = set_other nexts r s b (rename_atom (slot m) d) other was

      by_place : (j s : ℕ) (d : Atom Net) → j < k + 1 → slice_get m.updates j ≡ Some (Set s d) → (j ≡ k) ⊎ (j ≡ k → ⊥) → slice_get (slice_set nexts r b) s ≡ Some (rename_atom (slot m) d)
      by_place j s d l there (inl e) =
          let same : Set r a ≡ Set s d = at_one m.updates k (Set r a) (Set s d) at (subst (λ (n : ℕ). slice_get m.updates n ≡ Some (Set s d)) e there) in
          let reg : r ≡ s = cc same in
          let next : a ≡ d = cc same in
          subst (λ (n : ℕ). slice_get (slice_set nexts r b) n ≡ Some (rename_atom (slot m) d)) reg (here ∙ ap (λ c. Some (rename_atom (slot m) c)) next)
      by_place j s d l there (inr apart) = by_reg j s d there (before.each j s d (earlier j k l apart) there) apart (cases_eq s r)

  pub next_same : (x : ℕ) (i a : Atom Net) → slice_get m.updates k ≡ Some (Put x i a) → (nexts : List (Atom ℕ)) → AreNexts m k nexts → AreNexts m (k + 1) nexts
  next_same x i a at nexts before = record { places = before.places; within = before.within; each = λ j s d l there. by_place j s d l there (cases_eq j k) }
    where
      by_place : (j s : ℕ) (d : Atom Net) → j < k + 1 → slice_get m.updates j ≡ Some (Set s d) → (j ≡ k) ⊎ (j ≡ k → ⊥) → slice_get nexts s ≡ Some (rename_atom (slot m) d)
      by_place j s d l there (inl e) =
          let same : Put x i a ≡ Set s d = at_one m.updates k (Put x i a) (Set s d) at (subst (λ (n : ℕ). slice_get m.updates n ≡ Some (Set s d)) e there) in
          absurd (cc same)
      by_place j s d l there (inr apart) = before.each j s d (earlier j k l apart) there

  -- ---- puts

  pub put_more : (x : ℕ) (i a : Atom Net) → slice_get m.updates k ≡ Some (Put x i a) → (puts : List WordPut) → ArePuts m k puts → (index value : Atom ℕ) → index ≡ rename_atom (slot m) i → value ≡ rename_atom (slot m) a → ArePuts m (k + 1) (slice_set puts x (record { index = index; value = value }))
  put_more x i a at puts before index value index_is value_is = record {
    places = length-set puts x (put_with index value) ∙ before.places;
    within = All-set (PutIsWithin (length (all_widths m))) puts x (put_with index value) (subst (λ (q : WordPut). PutIsWithin (length (all_widths m)) q) (sym is) (atom_within m i (update_sound (Put x i a) at).1.nets, atom_within m a (update_sound (Put x i a) at).2.nets)) before.within;
    each = λ j y n v l there. by_place j y n v l there (cases_eq j k);
  }
    where
      is : (put_with index value) ≡ put_of m i a
      is = ap (λ n. let q : WordPut = record { index = n; value = value } in q) index_is ∙ ap (λ v. let q : WordPut = record { index = rename_atom (slot m) i; value = v } in q) value_is

      here : slice_get (slice_set puts x (put_with index value)) x ≡ Some (put_of m i a)
      here = set_here puts x (put_with index value) (let ok = update_sound (Put x i a) at in omega (arith, ok.0, before.places)) ∙ ap (λ q. Some q) is

      by_array : (j y : ℕ) (n v : Atom Net) → slice_get m.updates j ≡ Some (Put y n v) → slice_get puts y ≡ Some (put_of m n v) → (j ≡ k → ⊥) → (y ≡ x) ⊎ (y ≡ x → ⊥) → slice_get (slice_set puts x (put_with index value)) y ≡ Some (put_of m n v)
      by_array j y n v there was apart (inl e) = absurd (apart (rules.updated.one j k (Put y n v) (Put x i a) there at (ap (λ z. OfArray z) e)))
      by_array j y n v there was apart (inr other) = set_other puts x y (put_with index value) (put_of m n v) other was

      by_place : (j y : ℕ) (n v : Atom Net) → j < k + 1 → slice_get m.updates j ≡ Some (Put y n v) → (j ≡ k) ⊎ (j ≡ k → ⊥) → slice_get (slice_set puts x (put_with index value)) y ≡ Some (put_of m n v)
      by_place j y n v l there (inl e) =
          let same : Put x i a ≡ Put y n v = at_one m.updates k (Put x i a) (Put y n v) at (subst (λ (q : ℕ). slice_get m.updates q ≡ Some (Put y n v)) e there) in
          let array : x ≡ y = cc same in
          let at_index : i ≡ n = cc same in
          let at_value : a ≡ v = cc same in
          subst (λ (z : ℕ). slice_get (slice_set puts x (put_with index value)) z ≡ Some (put_of m n v)) array (here ∙ ap (λ c. Some (put_of m c a)) at_index ∙ ap (λ c. Some (put_of m n c)) at_value)
      by_place j y n v l there (inr apart) = by_array j y n v there (before.each j y n v (earlier j k l apart) there) apart (cases_eq y x)

  pub put_same : (r : ℕ) (a : Atom Net) → slice_get m.updates k ≡ Some (Set r a) → (puts : List WordPut) → ArePuts m k puts → ArePuts m (k + 1) puts
  put_same r a at puts before = record { places = before.places; within = before.within; each = λ j y n v l there. by_place j y n v l there (cases_eq j k) }
    where
      by_place : (j y : ℕ) (n v : Atom Net) → j < k + 1 → slice_get m.updates j ≡ Some (Put y n v) → (j ≡ k) ⊎ (j ≡ k → ⊥) → slice_get puts y ≡ Some (put_of m n v)
      by_place j y n v l there (inl e) =
          let same : Set r a ≡ Put y n v = at_one m.updates k (Set r a) (Put y n v) at (subst (λ (q : ℕ). slice_get m.updates q ≡ Some (Put y n v)) e there) in
          absurd (cc same)
      by_place j y n v l there (inr apart) = before.each j y n v (earlier j k l apart) there

  -- ---- reads

  abbrev word : Net → ℕ → Atom Net → Assign
  word n x i = record { target = n; right = Word x i }

  pub read_more : (n : Net) (x : ℕ) (i : Atom Net) → slice_get m.assigns k ≡ Some (word n x i) → (reads : List WordRead) (marks : List Bool) → AreReads m k reads marks → slice_index_or marks x false ≡ false →
      (target : ℕ) (index : Atom ℕ) → target ≡ slot m n → index ≡ rename_atom (slot m) i → AreReads m (k + 1) (slice_set reads x (record { target = target; index = index })) (slice_set marks x true)
  read_more n x i at reads marks before free target index target_is index_is = record {
    places = length-set reads x (read_with target index) ∙ before.places;
    mark_count = length-set marks x true ∙ before.mark_count;
    within = All-set (ReadIsWithin (length (all_widths m))) reads x (read_with target index) (subst (λ (q : WordRead). ReadIsWithin (length (all_widths m)) q) (sym is) (declared_within m n (driven_declared m n sound.target), atom_within m i sound.right.nets)) before.within;
    each = λ j d y c l there. by_place j d y c l there (cases_eq j k);
    marked = λ j d y c l there. mark_by_place j d y c l there (cases_eq j k);
  }
    where
      sound : AssignIsSound m (word n x i)
      sound = All-at (AssignIsSound m) m.assigns k (word n x i) rules.assigns at

      is : (read_with target index) ≡ read_of m n i
      is = ap (λ z. let q : WordRead = record { target = z; index = index } in q) target_is ∙ ap (λ z. let q : WordRead = record { target = slot m n; index = z } in q) index_is

      here : slice_get (slice_set reads x (read_with target index)) x ≡ Some (read_of m n i)
      here = set_here reads x (read_with target index) (let array = sound.right.array in omega (arith, array, before.places)) ∙ ap (λ q. Some q) is

      apart_from : (j : ℕ) (d : Net) (y : ℕ) (c : Atom Net) → j < k → slice_get m.assigns j ≡ Some (word d y c) → y ≢ x
      apart_from j d y c l there e = cc (sym (before.marked j d y c l there) ∙ ap (λ z. slice_index_or marks z false) e ∙ free)

      same : (j : ℕ) (d : Net) (y : ℕ) (c : Atom Net) → slice_get m.assigns j ≡ Some (word d y c) → j ≡ k → word n x i ≡ word d y c
      same j d y c there e = at_one m.assigns k (word n x i) (word d y c) at (subst (λ (q : ℕ). slice_get m.assigns q ≡ Some (word d y c)) e there)

      array_same : (d : Net) (y : ℕ) (c : Atom Net) → word n x i ≡ word d y c → x ≡ y
      array_same d y c e = let rights : Word x i ≡ Word y c = ap (λ (a : Assign). a.right) e in cc rights

      by_place : (j : ℕ) (d : Net) (y : ℕ) (c : Atom Net) → j < k + 1 → slice_get m.assigns j ≡ Some (word d y c) → (j ≡ k) ⊎ (j ≡ k → ⊥) → slice_get (slice_set reads x (read_with target index)) y ≡ Some (read_of m d c)
      by_place j d y c l there (inl e) =
          let assigns = same j d y c there e in
          let rights : Word x i ≡ Word y c = ap (λ (a : Assign). a.right) assigns in
          let at_index : i ≡ c = cc rights in
          subst (λ (z : ℕ). slice_get (slice_set reads x (read_with target index)) z ≡ Some (read_of m d c)) (array_same d y c assigns) (here ∙ ap (λ z. Some (read_of m z i)) (ap (λ (a : Assign). a.target) assigns) ∙ ap (λ z. Some (read_of m d z)) at_index)
      by_place j d y c l there (inr apart) = let before_k = earlier j k l apart in set_other reads x y (read_with target index) (read_of m d c) (apart_from j d y c before_k there) (before.each j d y c before_k there)

      mark_by_place : (j : ℕ) (d : Net) (y : ℕ) (c : Atom Net) → j < k + 1 → slice_get m.assigns j ≡ Some (word d y c) → (j ≡ k) ⊎ (j ≡ k → ⊥) → slice_index_or (slice_set marks x true) y false ≡ true
      mark_by_place j d y c l there (inl e) =
          subst (λ (z : ℕ). slice_index_or (slice_set marks x true) z false ≡ true) (array_same d y c (same j d y c there e)) (mark_here marks x (let array = sound.right.array in omega (arith, array, before.mark_count)))
      mark_by_place j d y c l there (inr apart) = let before_k = earlier j k l apart in get_or-set_other marks x y true false (apart_from j d y c before_k there) ∙ before.marked j d y c before_k there

  pub marked_more : (n : Net) (x : ℕ) (i : Atom Net) → slice_get m.assigns k ≡ Some (word n x i) → (marks : List Bool) → AreReadWhereMarked m marks → AreReadWhereMarked m (slice_set marks x true)
  marked_more n x i at marks before y marked = by_array (cases_eq y x)
    where
      by_array : (y ≡ x) ⊎ (y ≡ x → ⊥) → IsRead m y
      by_array (inl e) = subst (λ (z : ℕ). IsRead m z) (sym e) (k, n, i, at)
      by_array (inr other) = before y (sym (get_or-set_other marks x y true false other) ∙ marked)

  pub read_same : (a : Assign) → slice_get m.assigns k ≡ Some a → ((x : ℕ) (i : Atom Net) → a.right ≡ Word x i → ⊥) → (reads : List WordRead) (marks : List Bool) → AreReads m k reads marks → AreReads m (k + 1) reads marks
  read_same a at plain reads marks before = record {
    places = before.places;
    mark_count = before.mark_count;
    within = before.within;
    each = λ j d y c l there. before.each j d y c (before_k j d y c l there) there;
    marked = λ j d y c l there. before.marked j d y c (before_k j d y c l there) there;
  }
    where
      before_k : (j : ℕ) (d : Net) (y : ℕ) (c : Atom Net) → j < k + 1 → slice_get m.assigns j ≡ Some (word d y c) → j < k
      before_k j d y c l there = earlier j k l (λ e. plain y c (ap (λ (b : Assign). b.right) (at_one m.assigns k a (word d y c) at (subst (λ (q : ℕ). slice_get m.assigns q ≡ Some (word d y c)) e there))))

pub all_read : (m : Netlist) (reads : List WordRead) (marks : List Bool) → AreReads m (length m.assigns) reads marks → AreReadWhereMarked m marks → ((x : ℕ) → x < length marks → slice_index_or marks x false ≡ true) → HasReads m reads
all_read m reads marks are where_marked all = record {
  places = are.places;
  within = are.within;
  each = λ k n x i at. are.each k n x i (slice_get_within m.assigns k (record { target = n; right = Word x i }) at) at;
  some = λ x l. where_marked x (all x (let count = are.mark_count in omega (arith, l, count)));
}
