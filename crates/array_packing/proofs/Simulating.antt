-- A netlist with packed arrays does what the old one does.
use Rattle.std.proofs.Common.{◌≡◌, ℕ, zero, suc, ◌+◌, ◌-◌, ◌/◌, ◌%◌, ◌^◌, ◌<◌, ◌≤◌, List, [], ◌∷◌, length, get_or, map, take, refl, ap, subst, sym, ◌∙◌, arith, inl, inr, Some, None}
use Rattle.std.specs.Prelude.{All, Contains, slice_get, slice_set, slice_index, slice_index_or, unwrap_or}
use Rattle.std.specs.List.{AllZip}
use Rattle.std.specs.Option.{option_map}
use Rattle.std.proofs.Math.Pow.{pow_pos}
use Rattle.std.proofs.Math.Nat.{mod-lt}
use Rattle.std.proofs.lemmas.List.{length-map, get_or-take, map-set}
use Rattle.std.proofs.lemmas.List.Elements.{All-nil, All-cons, All-append, All-contains, All-map, All-head, All-weaker}
use Rattle.std.proofs.lemmas.Slice.Zip.{AllZip-long}
use Rattle.std.proofs.lemmas.Option.{same_Some, slice_get_within, slice_get_cases, get_or_from_slice_get, slice_get-map}
use Rattle.wiring.specs.declared.right.Atom.{Atom}
use Rattle.wiring.specs.declared.right.Atom.TheVariants as atom
use Rattle.wiring.specs.declared.right.Right.{Right}
use Rattle.wiring.specs.declared.right.Right.TheVariants.{Copy, Not, Binary, Choose, Join, Repeat, Bit, Slice, Word}
use Rattle.wiring.specs.declared.netlist.Net.{Net}
use Rattle.wiring.specs.declared.netlist.Net.TheVariants.{Input, Output, Wire, Reg}
use Rattle.wiring.specs.declared.netlist.Shape.{Shape}
use Rattle.wiring.specs.declared.netlist.Assign.{Assign}
use Rattle.wiring.specs.declared.netlist.Update.{Update}
use Rattle.wiring.specs.declared.netlist.Update.TheVariants.{Set, Put}
use Rattle.wiring.specs.Sizes.{IsConstant}
use Rattle.wiring.specs.Rights.{array_of, nets_of, atom_nets, atom_constants, atom_value, atom_width, right_value}
use Rattle.wiring.specs.Netlist.{Netlist, net_width, word_width, depth, IsDeclared, IsDriven}
use Rattle.wiring.specs.Snapshot.{Contents, Snapshot, Fit, FitsContents, IsSettled, IsInside, IsInRange, IsNext, TakesPlace, net_value, word_value, right_accesses, update_accesses, accesses_of}
use Rattle.wiring.specs.Order.{IsEvaluationOrder}
use Rattle.wiring.specs.Rules.{KeepsRules, AssignIsSound, UpdateIsSound}
use Rattle.wiring.proofs.Lists.{All-from_contains, All-left, All-right}
use Rattle.netlist.proofs.FitLaws.{net_fits}
use Rattle.array_packing.specs.declared.slots.Slot.{Slot}
use Rattle.module_pass.specs.Simulation.{View, seen, IsSnapshot, Simulates}
use Rattle.array_packing.specs.Packing.{bits_at, words_seen, packed, assign, IsReadAt, HoldsPart, IsAssigned, IsUpdated, IsReadOf, IsPutOf, HasSlot, IsPacked, itself, above, below, as_word, as_slice}
use Rattle.array_packing.proofs.Parts.{bits_whole, bits_above, bits_below, get_bits, all_of, of_all, right_alike, atom_alike, width_alike}

pub zip_at : {A B : Type 0} (R : A → B → Type 0) (xs : List A) (ys : List B) (k : ℕ) (x : A) (y : B) → AllZip R xs ys → slice_get xs k ≡ Some x → slice_get ys k ≡ Some y → R x y
zip_at R [] ys k x y all e f = absurd (omega (arith, slice_get_within [] k x e))
zip_at R (a ∷ xs) [] k x y all e f = absurd all
zip_at R (a ∷ xs) (b ∷ ys) zero x y all e f = subst (λ z. R z y) (same_Some a x e) (subst (R a) (same_Some b y f) all.0)
zip_at R (a ∷ xs) (b ∷ ys) (suc k) x y all e f = zip_at R xs ys k x y all.1 e f

pub zip_from : {A B : Type 0} (R : A → B → Type 0) (xs : List A) (ys : List B) → length xs ≡ length ys → ((k : ℕ) (x : A) (y : B) → slice_get xs k ≡ Some x → slice_get ys k ≡ Some y → R x y) → AllZip R xs ys
zip_from R [] [] e h = tt
zip_from R [] (b ∷ ys) e h = absurd (omega (arith, e))
zip_from R (a ∷ xs) [] e h = absurd (omega (arith, e))
zip_from R (a ∷ xs) (b ∷ ys) e h = (h zero a b refl refl, zip_from R xs ys (omega (arith, e)) (λ k x y f g. h (suc k) x y f g))

-- what a map makes of the element at k
pub at_map : {A B : Type 0} (f : A → B) (xs : List A) (k : ℕ) (x : A) → slice_get xs k ≡ Some x → slice_get (map f xs) k ≡ Some (f x)
at_map f xs k x e = slice_get-map f xs k ∙ ap (option_map f) e

module _ (new old : Netlist) (slots : List Slot) (is : IsPacked new old slots) (old_rules : KeepsRules old) (rules : KeepsRules new) (order : List ℕ) (ordered : IsEvaluationOrder new.assigns order) where
  abbrev v : View
  v = packed old slots

  one_each : length slots ≡ length old.arrays
  one_each = sym (AllZip-long (λ (k : Slot) (s : Shape). HasSlot new k s) slots old.arrays is.places)

  slot_at : (x : ℕ) (k : Slot) (s : Shape) → slice_get slots x ≡ Some k → slice_get old.arrays x ≡ Some s → HasSlot new k s
  slot_at x k s at_k at_s = zip_at (λ (k : Slot) (s : Shape). HasSlot new k s) slots old.arrays x k s is.places at_k at_s

  assigned : (a : Assign) → Contains old.assigns a → IsAssigned new slots a.target a.right
  assigned a c = All-contains (λ (a : Assign). IsAssigned new slots a.target a.right) old.assigns a is.assigns c

  updated : (u : Update) → Contains old.updates u → IsUpdated new slots u
  updated u c = All-contains (IsUpdated new slots) old.updates u is.updates c

  read_of : (a : Assign) → Contains new.assigns a → IsReadOf old slots a.right
  read_of a c = All-contains (λ (a : Assign). IsReadOf old slots a.right) new.assigns a is.reads c

  put_of : (u : Update) → Contains new.updates u → IsPutOf old slots u
  put_of u c = All-contains (IsPutOf old slots) new.updates u is.puts c

  -- the old array of a slot
  record Place (x : ℕ) (k : Slot) : Type 0 where
    shape : Shape
    at : slice_get old.arrays x ≡ Some shape
    has : HasSlot new k shape

  place : (x : ℕ) (k : Slot) → slice_get slots x ≡ Some k → Place x k
  place x k at_k =
      elim (slice_get_cases old.arrays x).1 as (λ _. Place x k) [
        | inl found ↦ record { shape = found.0; at = found.2; has = slot_at x k found.0 at_k found.2 }
        | inr past ↦ absurd (omega (arith, past.0, slice_get_within slots x k at_k, one_each))
      ]

  same_depth : (x : ℕ) (k : Slot) → slice_get slots x ≡ Some k → depth new k.array ≡ depth old x
  same_depth x k at_k =
      let p = place x k at_k in
      ap (λ o. unwrap_or (option_map (λ (s : Shape). s.depth) o) 0) p.has.at ∙ p.has.depth ∙ sym (ap (λ o. unwrap_or (option_map (λ (s : Shape). s.depth) o) 0) p.at)

  same_word_width : (x : ℕ) (k : Slot) → slice_get slots x ≡ Some k → word_width old x ≡ k.width
  same_word_width x k at_k =
      let p = place x k at_k in
      ap (λ o. unwrap_or (option_map (λ (s : Shape). s.width) o) 0) p.at ∙ sym p.has.width

  -- nets keep their widths and values
  wires_more : length old.wires ≤ length new.wires
  wires_more = longer old.wires new.wires (ap length is.wires)
    where
      longer : (xs ys : List ℕ) → length (take (length xs) ys) ≡ length xs → length xs ≤ length ys
      longer [] ys e = omega arith
      longer (x ∷ xs) [] e = omega (arith, e)
      longer (x ∷ xs) (y ∷ ys) e = let l : length xs ≤ length ys = longer xs ys (let f : length (take (length xs) ys) ≡ length xs = omega (arith, e) in f) in omega (arith, l)

  declared : (n : Net) → IsDeclared old n → IsDeclared new n
  declared (Input i) d = subst (λ (l : List ℕ). i < length l) (sym is.inputs) d
  declared (Output i) d = subst (λ (l : List ℕ). i < length l) (sym is.outputs) d
  declared (Reg i) d = subst (λ (l : List ℕ). i < length l) (sym is.regs) d
  declared (Wire i) d = omega (arith, d, wires_more)

  same_width : (n : Net) → IsDeclared old n → net_width old n ≡ net_width new n
  same_width (Input i) d = ap (λ (l : List ℕ). slice_index l i) (sym is.inputs)
  same_width (Output i) d = ap (λ (l : List ℕ). slice_index l i) (sym is.outputs)
  same_width (Reg i) d = ap (λ (l : List ℕ). slice_index l i) (sym is.regs)
  same_width (Wire i) d = ap (λ (l : List ℕ). slice_index l i) (sym is.wires) ∙ get_or-take (length old.wires) new.wires i 0 d

  same_value : (t : Snapshot) (n : Net) → IsDeclared old n → net_value (seen v t) n ≡ net_value t n
  same_value t (Input i) d = refl
  same_value t (Output i) d = refl
  same_value t (Reg i) d = refl
  same_value t (Wire i) d = get_or-take (length old.wires) t.wires i 0 d

  driven_declared : (n : Net) → IsDriven old n → IsDeclared old n
  driven_declared (Input i) d = absurd d
  driven_declared (Output i) d = d
  driven_declared (Reg i) d = absurd d
  driven_declared (Wire i) d = d

  alike : (t : Snapshot) (ns : List Net) → All (IsDeclared old) ns → (n : Net) → Contains ns n → (net_value (seen v t) n ≡ net_value t n) × (net_width old n ≡ net_width new n)
  alike t ns all n c = let d = All-contains (IsDeclared old) ns n all c in (same_value t n d, same_width n d)

  same_atom : (t : Snapshot) (a : Atom Net) → All (IsDeclared old) (atom_nets a) → atom_value (net_value (seen v t)) a ≡ atom_value (net_value t) a
  same_atom t a all = atom_alike (net_value (seen v t)) (net_width old) (net_value t) (net_width new) a (alike t (atom_nets a) all)

  same_atom_width : (t : Snapshot) (a : Atom Net) → All (IsDeclared old) (atom_nets a) → atom_width (net_width old) a ≡ atom_width (net_width new) a
  same_atom_width t a all = width_alike (net_value (seen v t)) (net_width old) (net_value t) (net_width new) a (alike t (atom_nets a) all)

  -- the words of an old array
  words_are : (arrays : List (List ℕ)) (x : ℕ) (k : Slot) → slice_get slots x ≡ Some k → slice_index_or (map (words_seen arrays) slots) x [] ≡ words_seen arrays k
  words_are arrays x k at_k = get_or_from_slice_get (map (words_seen arrays) slots) x (words_seen arrays k) [] (at_map (words_seen arrays) slots x k at_k)

  word_is : (t : Snapshot) (x i : ℕ) (k : Slot) → slice_get slots x ≡ Some k → word_value (seen v t) x i ≡ bits_at k.low k.width (word_value t k.array i)
  word_is t x i k at_k = ap (λ (l : List ℕ). get_or l i 0) (words_are t.contents.arrays x k at_k) ∙ get_bits k.low k.width (slice_index_or t.contents.arrays k.array []) i

  -- contents that fit show contents that fit
  abbrev ArrayFits : Shape → List ℕ → Type 0
  ArrayFits q words = (length words ≡ q.depth) × All (λ w. w < 2 ^ q.width) words

  fits : (c : Contents) → FitsContents new c → FitsContents old (v.contents c)
  fits c fit = record {
    regs = subst (λ (l : List ℕ). Fit l c.regs) is.regs fit.regs;
    arrays = zip_from ArrayFits old.arrays (map (words_seen c.arrays) slots) (sym (length-map slots (words_seen c.arrays) ∙ one_each)) (λ x s words at_s at_words. array_fits x s words at_s at_words);
  }
    where
      array_fits : (x : ℕ) (s : Shape) (words : List ℕ) → slice_get old.arrays x ≡ Some s → slice_get (map (words_seen c.arrays) slots) x ≡ Some words → ArrayFits s words
      array_fits x s words at_s at_words =
          elim (slice_get_cases slots x).1 as (λ _. ArrayFits s words) [
            | inl found ↦
                let k = found.0 in
                let has = slot_at x k s found.2 at_s in
                let e : words_seen c.arrays k ≡ words = same_Some (words_seen c.arrays k) words (sym (at_map (words_seen c.arrays) slots x k found.2) ∙ at_words) in
                subst (ArrayFits s) e (
                  length-map (slice_index_or c.arrays k.array []) (bits_at k.low k.width) ∙ new_long k s has ∙ has.depth,
                  All-map (λ w. w < 2 ^ s.width) (bits_at k.low k.width) (slice_index_or c.arrays k.array []) (λ j d l. subst (λ (w : ℕ). bits_at k.low k.width (get_or (slice_index_or c.arrays k.array []) j d) < 2 ^ w) has.width (mod-lt (get_or (slice_index_or c.arrays k.array []) j d / 2 ^ k.low) (pow_pos k.width))),
                )
            | inr past ↦ absurd (omega (arith, past.0, slice_get_within old.arrays x s at_s, one_each))
          ]
        where
          new_long : (k : Slot) (s : Shape) (has : HasSlot new k s) → length (slice_index_or c.arrays k.array []) ≡ has.there.depth
          new_long k s has =
              elim (slice_get_cases c.arrays k.array).1 as (λ _. length (slice_index_or c.arrays k.array []) ≡ has.there.depth) [
                | inl found ↦ ap length (get_or_from_slice_get c.arrays k.array found.0 [] found.2) ∙ (zip_at ArrayFits new.arrays c.arrays k.array has.there found.0 fit.arrays has.at found.2).0
                | inr past ↦ absurd (omega (arith, past.0, slice_get_within new.arrays k.array has.there has.at, AllZip-long ArrayFits new.arrays c.arrays fit.arrays))
              ]

  module _ (t : Snapshot) (snap : IsSnapshot new t) where
    fitting : (n : Net) → IsDeclared new n → net_value t n < 2 ^ net_width new n
    fitting n d = net_fits new rules order ordered t snap.settled snap.contents snap.inputs n d

    atom_fitting : (a : Atom Net) → All (IsDeclared new) (atom_nets a) → All IsConstant (atom_constants a) → atom_value (net_value t) a < 2 ^ atom_width (net_width new) a
    atom_fitting (atom.Net n) nets constants = fitting n (All-head (IsDeclared new) n [] nets)
    atom_fitting (atom.Constant c) nets constants = (All-head IsConstant c [] constants).fits

    holds : (n : Net) (r : Right Net ℕ) → Contains new.assigns (assign n r) → net_value t n ≡ right_value (net_width new) (word_value t) (net_value t) r
    holds n r c = All-contains (λ (a : Assign). net_value t a.target ≡ right_value (net_width new) (word_value t) (net_value t) a.right) new.assigns (assign n r) snap.settled.assigns c

    sound : (n : Net) (r : Right Net ℕ) → Contains new.assigns (assign n r) → AssignIsSound new (assign n r)
    sound n r c = All-contains (AssignIsSound new) new.assigns (assign n r) rules.assigns c

    -- a part is within the whole
    part_width : (part whole : Atom Net) (low : ℕ) → HoldsPart new part whole low → low + atom_width (net_width new) part ≤ atom_width (net_width new) whole
    part_width part whole low itself = omega arith
    part_width part whole low (above n a b k c h) =
        let ih = part_width part a k h in
        let w : atom_width (net_width new) a + atom_width (net_width new) b ≡ net_width new n = (sound n (Join a b) c).width in
        omega (arith, ih, w)
    part_width part whole low (below n a b k c h) =
        let ih = part_width part b k h in
        let w : atom_width (net_width new) a + atom_width (net_width new) b ≡ net_width new n = (sound n (Join a b) c).width in
        omega (arith, ih, w)

    -- and has its value
    part_value : (part whole : Atom Net) (low : ℕ) → atom_value (net_value t) part < 2 ^ atom_width (net_width new) part → HoldsPart new part whole low →
        bits_at low (atom_width (net_width new) part) (atom_value (net_value t) whole) ≡ atom_value (net_value t) part
    part_value part whole low lt itself = bits_whole (atom_width (net_width new) part) (atom_value (net_value t) part) lt
    part_value part whole low lt (above n a b k c h) =
        let right = (sound n (Join a b) c).right in
        let lb = atom_fitting b (All-right (IsDeclared new) (atom_nets a) (atom_nets b) right.nets) (All-right IsConstant (atom_constants a) (atom_constants b) right.constants) in
        let wp = atom_width (net_width new) part in
        let wb = atom_width (net_width new) b in
        ap (bits_at (k + wb) wp) (holds n (Join a b) c) ∙ bits_above k wp (atom_value (net_value t) a) wb (atom_value (net_value t) b) lb ∙ part_value part a k lt h
    part_value part whole low lt (below n a b k c h) =
        let wp = atom_width (net_width new) part in
        let wb = atom_width (net_width new) b in
        ap (bits_at k wp) (holds n (Join a b) c) ∙ bits_below k wp (atom_value (net_value t) a) wb (atom_value (net_value t) b) (part_width part b k h) ∙ part_value part b k lt h

    -- an assign that is as it was holds
    abbrev Settled : Net → Right Net ℕ → Type 0
    Settled n r = net_value (seen v t) n ≡ right_value (net_width old) (word_value (seen v t)) (net_value (seen v t)) r

    kept : (n : Net) (r : Right Net ℕ) → AssignIsSound old (assign n r) → array_of r ≡ None → Contains new.assigns (assign n r) → Settled n r
    kept n r ok none c =
        same_value t n (driven_declared n ok.target) ∙ holds n r c
        ∙ sym (right_alike (net_value (seen v t)) (net_width old) (net_value t) (net_width new) (word_value (seen v t)) (word_value t) r none (alike t (nets_of r) ok.right.nets))

    word_lt : (x : ℕ) (i : Atom Net) (k : Slot) (n : Net) → word_width new k.array ≡ k.width → Contains new.assigns (assign n (Word k.array i)) → word_value t k.array (atom_value (net_value t) i) < 2 ^ k.width
    word_lt x i k n w c =
        let ok = sound n (Word k.array i) c in
        let l : net_value t n < 2 ^ net_width new n = fitting n (driven_new n ok.target) in
        subst (λ (z : ℕ). z < 2 ^ k.width) (holds n (Word k.array i) c) (subst (λ (z : ℕ). net_value t n < 2 ^ z) (sym ok.width ∙ w) l)
      where
        driven_new : (n : Net) → IsDriven new n → IsDeclared new n
        driven_new (Input i) d = absurd d
        driven_new (Output i) d = d
        driven_new (Reg i) d = absurd d
        driven_new (Wire i) d = d

    read_value : (n : Net) (i : Atom Net) (k : Slot) → IsReadAt new k i n → net_value t n ≡ bits_at k.low k.width (word_value t k.array (atom_value (net_value t) i))
    read_value n i k (as_word low w c) =
        let word = word_value t k.array (atom_value (net_value t) i) in
        holds n (Word k.array i) c ∙ sym (bits_whole k.width word (word_lt 0 i k n w c)) ∙ ap (λ l. bits_at l k.width word) (sym low)
    read_value n i k (as_slice p top le e c s) =
        let word = word_value t k.array (atom_value (net_value t) i) in
        let width : top - k.low + 1 ≡ k.width = omega (arith, le, e) in
        holds n (Slice p top k.low) s ∙ ap (λ x. x / 2 ^ k.low % 2 ^ (top - k.low + 1)) (holds p (Word k.array i) c) ∙ ap (λ w. word / 2 ^ k.low % 2 ^ w) width

    word_settled : (n : Net) (x : ℕ) (i : Atom Net) → AssignIsSound old (assign n (Word x i)) → IsAssigned new slots n (Word x i) → Settled n (Word x i)
    word_settled n x i ok by =
        same_value t n (driven_declared n ok.target) ∙ read_value n i by.0 by.2
        ∙ sym (word_is t x (atom_value (net_value (seen v t)) i) by.0 by.1 ∙ ap (λ j. bits_at by.0.low by.0.width (word_value t by.0.array j)) (same_atom t i ok.right.nets))

    right_settled : (n : Net) (r : Right Net ℕ) → AssignIsSound old (assign n r) → IsAssigned new slots n r → Settled n r
    right_settled n (Word x i) ok by = word_settled n x i ok by
    right_settled n (Copy a) ok by = kept n (Copy a) ok refl by
    right_settled n (Not a) ok by = kept n (Not a) ok refl by
    right_settled n (Binary o a b) ok by = kept n (Binary o a b) ok refl by
    right_settled n (Choose c a b) ok by = kept n (Choose c a b) ok refl by
    right_settled n (Join a b) ok by = kept n (Join a b) ok refl by
    right_settled n (Repeat m a) ok by = kept n (Repeat m a) ok refl by
    right_settled n (Bit m k) ok by = kept n (Bit m k) ok refl by
    right_settled n (Slice m h l) ok by = kept n (Slice m h l) ok refl by

    settled : IsSettled old (seen v t)
    settled = record {
      outputs = snap.settled.outputs ∙ ap length is.outputs;
      wires = taken old.wires new.wires t.wires (ap length is.wires) snap.settled.wires;
      assigns = All-from_contains (λ (a : Assign). Settled a.target a.right) old.assigns (λ a c. right_settled a.target a.right (All-contains (AssignIsSound old) old.assigns a old_rules.assigns c) (assigned a c));
    }
      where
        taken : (xs ys zs : List ℕ) → length (take (length xs) ys) ≡ length xs → length zs ≡ length ys → length (take (length xs) zs) ≡ length xs
        taken [] ys zs e f = refl
        taken (x ∷ xs) [] zs e f = absurd (omega (arith, e))
        taken (x ∷ xs) (y ∷ ys) [] e f = absurd (omega (arith, f))
        taken (x ∷ xs) (y ∷ ys) (z ∷ zs) e f =
            let ih : length (take (length xs) zs) ≡ length xs = taken xs ys zs (let g : length (take (length xs) ys) ≡ length xs = omega (arith, e) in g) (omega (arith, f)) in
            omega (arith, ih)

    -- accesses are inside together
    reader : (i : Atom Net) (k : Slot) (n : Net) → IsReadAt new k i n → (p : Net) × Contains new.assigns (assign p (Word k.array i))
    reader i k n (as_word low w c) = (n, c)
    reader i k n (as_slice p top le e c s) = (p, c)

    abbrev reads_in : Netlist → List (ℕ × Atom Net)
    reads_in m = accesses_of (λ (a : Assign). right_accesses a.right) m.assigns

    abbrev puts_in : Netlist → List (ℕ × Atom Net)
    puts_in m = accesses_of update_accesses m.updates

    at_assign : (m : Netlist) (s : Snapshot) (n : Net) (x : ℕ) (i : Atom Net) → Contains m.assigns (assign n (Word x i)) → IsInRange m s → atom_value (net_value s) i < depth m x
    at_assign m s n x i c range =
        All-head (IsInside m s) (x, i) [] (of_all (IsInside m s) (λ (a : Assign). right_accesses a.right) m.assigns (assign n (Word x i)) c (All-left (IsInside m s) (reads_in m) (puts_in m) range))

    at_update : (m : Netlist) (s : Snapshot) (x : ℕ) (i a : Atom Net) → Contains m.updates (Put x i a) → IsInRange m s → atom_value (net_value s) i < depth m x
    at_update m s x i a c range =
        All-head (IsInside m s) (x, i) [] (of_all (IsInside m s) update_accesses m.updates (Put x i a) c (All-right (IsInside m s) (reads_in m) (puts_in m) range))

    -- an old access is inside exactly if the new one of its slot is
    inside_old : (x : ℕ) (k : Slot) (i : Atom Net) → slice_get slots x ≡ Some k → All (IsDeclared old) (atom_nets i) → atom_value (net_value t) i < depth new k.array → IsInside old (seen v t) (x, i)
    inside_old x k i at_k nets l = omega (arith, l, same_atom t i nets, same_depth x k at_k)

    inside_new : (x : ℕ) (k : Slot) (i : Atom Net) → slice_get slots x ≡ Some k → All (IsDeclared old) (atom_nets i) → atom_value (net_value (seen v t)) i < depth old x → IsInside new t (k.array, i)
    inside_new x k i at_k nets l = omega (arith, l, same_atom t i nets, same_depth x k at_k)

    old_assign : (a : Assign) → Contains old.assigns a → AssignIsSound old a
    old_assign a c = All-contains (AssignIsSound old) old.assigns a old_rules.assigns c

    old_update : (u : Update) → Contains old.updates u → UpdateIsSound old u
    old_update u c = All-contains (UpdateIsSound old) old.updates u old_rules.updates c

    abbrev InOld : List (ℕ × Atom Net) → Type 0
    InOld l = All (IsInside old (seen v t)) l

    abbrev InNew : List (ℕ × Atom Net) → Type 0
    InNew l = All (IsInside new t) l

    goes_on : IsInRange new t → IsInRange old (seen v t)
    goes_on range = All-append (IsInside old (seen v t)) (reads_in old) (puts_in old)
        (all_of (IsInside old (seen v t)) (λ (a : Assign). right_accesses a.right) old.assigns (λ a c. read a.target a.right (old_assign a c) (assigned a c)))
        (all_of (IsInside old (seen v t)) update_accesses old.updates (λ u c. put u (old_update u c) (updated u c)))
      where
        none : InOld []
        none = All-nil (IsInside old (seen v t))

        single : (x : ℕ) (i : Atom Net) → IsInside old (seen v t) (x, i) → InOld ((x, i) ∷ [])
        single x i h = All-cons (IsInside old (seen v t)) (x, i) [] h none

        read : (n : Net) (r : Right Net ℕ) → AssignIsSound old (assign n r) → IsAssigned new slots n r → InOld (right_accesses r)
        read n (Word x i) ok by = let p = reader i by.0 n by.2 in single x i (inside_old x by.0 i by.1 ok.right.nets (at_assign new t p.0 by.0.array i p.1 range))
        read n (Copy a) ok by = none
        read n (Not a) ok by = none
        read n (Binary o a b) ok by = none
        read n (Choose c a b) ok by = none
        read n (Join a b) ok by = none
        read n (Repeat m a) ok by = none
        read n (Bit m k) ok by = none
        read n (Slice m h l) ok by = none

        put : (u : Update) → UpdateIsSound old u → IsUpdated new slots u → InOld (update_accesses u)
        put (Set r a) ok by = none
        put (Put x i a) ok by = single x i (inside_old x by.0 i by.2 ok.1.nets (at_update new t by.0.array i by.1 by.3 range))

    back : IsInRange old (seen v t) → IsInRange new t
    back range = All-append (IsInside new t) (reads_in new) (puts_in new)
        (all_of (IsInside new t) (λ (a : Assign). right_accesses a.right) new.assigns (λ a c. read a.right (read_of a c)))
        (all_of (IsInside new t) update_accesses new.updates (λ u c. put u (put_of u c)))
      where
        none : InNew []
        none = All-nil (IsInside new t)

        at_slot : (g : ℕ) (x : ℕ) (k : Slot) (i : Atom Net) → k.array ≡ g → IsInside new t (k.array, i) → InNew ((g, i) ∷ [])
        at_slot g x k i e h = All-cons (IsInside new t) (g, i) [] (subst (λ (z : ℕ). IsInside new t (z, i)) e h) none

        read : (r : Right Net ℕ) → IsReadOf old slots r → InNew (right_accesses r)
        read (Word g i) by =
            at_slot g by.0 by.1 i by.4 (inside_new by.0 by.1 i by.3 (old_assign (assign by.2 (Word by.0 i)) by.5).right.nets (at_assign old (seen v t) by.2 by.0 i by.5 range))
        read (Copy a) by = none
        read (Not a) by = none
        read (Binary o a b) by = none
        read (Choose c a b) by = none
        read (Join a b) by = none
        read (Repeat m a) by = none
        read (Bit m k) by = none
        read (Slice m h l) by = none

        put : (u : Update) → IsPutOf old slots u → InNew (update_accesses u)
        put (Set r a) by = none
        put (Put g i w) by =
            at_slot g by.0 by.1 i by.4 (inside_new by.0 by.1 i by.3 (old_update (Put by.0 i by.2) by.5).1.nets (at_update old (seen v t) by.0 i by.2 by.5 range))

    -- and so do the contents after the edge
    module _ (to : Contents) (next : IsNext new t to) where
      taken : (u : Update) → Contains new.updates u → TakesPlace t to u
      taken u c = All-contains (TakesPlace t to) new.updates u next.updates c

      put_taken : (x : ℕ) (i a : Atom Net) → UpdateIsSound old (Put x i a) → IsUpdated new slots (Put x i a) → TakesPlace (seen v t) (v.contents to) (Put x i a)
      put_taken x i a ok by =
          let k = by.0 in
          let words = slice_index_or t.contents.arrays k.array [] in
          let index = atom_value (net_value t) i in
          let whole = atom_value (net_value t) by.1 in
          let value = atom_value (net_value t) a in
          let f = bits_at k.low k.width in
          let new_words : slice_index_or to.arrays k.array [] ≡ slice_set words index whole =
          get_or_from_slice_get to.arrays k.array (slice_set words index whole) [] (taken (Put k.array i by.1) by.3) in
          let width : atom_width (net_width new) a ≡ k.width = sym (same_atom_width t a ok.2.nets) ∙ ok.3 ∙ same_word_width x k by.2 in
          let lt : value < 2 ^ atom_width (net_width new) a = atom_fitting a (All-weaker (IsDeclared old) (IsDeclared new) declared (atom_nets a) ok.2.nets) ok.2.constants in
          let part : f whole ≡ value = subst (λ (w : ℕ). bits_at k.low w whole ≡ value) width (part_value a by.1 k.low lt by.4) in
          let seen_words : words_seen to.arrays k ≡ slice_set (words_seen t.contents.arrays k) index value =
          ap (map f) new_words ∙ map-set f words index whole ∙ ap (λ z. slice_set (map f words) index z) part in
          let got : slice_get (map (words_seen to.arrays) slots) x ≡ Some (words_seen to.arrays k) = at_map (words_seen to.arrays) slots x k by.2 in
          got ∙ ap (λ l. Some l) (seen_words
          ∙ ap (λ l. slice_set l index value) (sym (words_are t.contents.arrays x k by.2))
          ∙ ap (λ j. slice_set (slice_index_or (map (words_seen t.contents.arrays) slots) x []) j value) (sym (same_atom t i ok.1.nets))
          ∙ ap (λ z. slice_set (slice_index_or (map (words_seen t.contents.arrays) slots) x []) (atom_value (net_value (seen v t)) i) z) (sym (same_atom t a ok.2.nets)))

      update_taken : (u : Update) → UpdateIsSound old u → IsUpdated new slots u → TakesPlace (seen v t) (v.contents to) u
      update_taken (Set r a) ok by = taken (Set r a) by ∙ ap (λ z. Some z) (sym (same_atom t a ok.1.nets))
      update_taken (Put x i a) ok by = put_taken x i a ok by

      next_seen : IsNext old (seen v t) (v.contents to)
      next_seen = record {
        regs = next.regs;
        arrays = length-map slots (words_seen to.arrays) ∙ sym (length-map slots (words_seen t.contents.arrays));
        updates = All-from_contains (TakesPlace (seen v t) (v.contents to)) old.updates (λ u c. update_taken u (old_update u c) (updated u c));
      }

  pub packed_simulates : Simulates new old (packed old slots)
  packed_simulates = record {
    enable = is.enable;
    inputs = is.inputs;
    outputs = is.outputs;
    fits = fits;
    settled = settled;
    goes_on = goes_on;
    back = back;
    next = λ t to snap step. next_seen t snap to step;
  }
