-- Values fit their widths in each clock, and contents go on to fit.
use Rattle.std.proofs.Common.{◌≡◌, ℕ, zero, suc, ◌^◌, ◌<◌, List, [], ◌∷◌, length, get_or, refl, ap, subst, sym, ◌∙◌, inl, inr, arith, Some}
use Rattle.std.specs.Prelude.{slice_get, slice_set, slice_index_or, All, Contains, unwrap_or}
use Rattle.std.specs.Option.{option_map}
use Rattle.std.specs.List.{AllZip}
use Rattle.std.proofs.Math.Pow.{pow_pos}
use Rattle.std.proofs.lemmas.List.{length-set}
use Rattle.std.proofs.lemmas.List.Elements.{All-contains, All-set, AllZip-get_or}
use Rattle.std.proofs.lemmas.Slice.Zip.{AllZip-long}
use Rattle.std.proofs.lemmas.Option.{same_Some, slice_get_within, slice_get_cases, get_or_from_slice_get, unwrap_or-slice_get}
use Rattle.wiring.specs.declared.right.Atom.{Atom}
use Rattle.wiring.specs.declared.netlist.Net.{Net}
use Rattle.wiring.specs.declared.netlist.Net.TheVariants.{Input, Output, Wire, Reg}
use Rattle.wiring.specs.declared.netlist.Holder.TheVariants.{OfNet, OfArray}
use Rattle.wiring.specs.declared.netlist.Shape.{Shape}
use Rattle.wiring.specs.declared.netlist.Assign.{Assign}
use Rattle.wiring.specs.declared.netlist.Update.{Update}
use Rattle.wiring.specs.declared.netlist.Update.TheVariants.{Set, Put}
use Rattle.wiring.specs.Rights.{nets_of, atom_nets, atom_value, atom_width, right_value}
use Rattle.wiring.specs.Netlist.{Netlist, net_width, word_width, IsDeclared, IsDriven, update_target}
use Rattle.wiring.specs.Snapshot.{Contents, Snapshot, net_value, word_value, Fit, FitsContents, IsSettled, TakesPlace, IsNext}
use Rattle.wiring.specs.Order.{Feeds, IsEvaluationOrder}
use Rattle.wiring.specs.Rules.{KeepsRules, AssignIsSound, UpdateIsSound, AtomIsSound}
use Rattle.wiring.proofs.Lists.{All-at}
use Rattle.wiring.proofs.Fits.{right_lt, atom_lt}

-- two lists place by place
zip_at : {A B : Type 0} (R : A → B → Type 0) (xs : List A) (ys : List B) (k : ℕ) (x : A) (y : B) → AllZip R xs ys → slice_get xs k ≡ Some x → slice_get ys k ≡ Some y → R x y
zip_at R [] ys k x y all e f = absurd (omega (arith, slice_get_within [] k x e))
zip_at R (a ∷ xs) [] k x y all e f = absurd all
zip_at R (a ∷ xs) (b ∷ ys) zero x y all e f = subst (λ z. R z y) (same_Some a x e) (subst (R a) (same_Some b y f) all.0)
zip_at R (a ∷ xs) (b ∷ ys) (suc k) x y all e f = zip_at R xs ys k x y all.1 e f

zip_from : {A B : Type 0} (R : A → B → Type 0) (xs : List A) (ys : List B) → length xs ≡ length ys → ((k : ℕ) (x : A) (y : B) → slice_get xs k ≡ Some x → slice_get ys k ≡ Some y → R x y) → AllZip R xs ys
zip_from R [] [] e h = tt
zip_from R [] (b ∷ ys) e h = absurd (omega (arith, e))
zip_from R (a ∷ xs) [] e h = absurd (omega (arith, e))
zip_from R (a ∷ xs) (b ∷ ys) e h = (h zero a b refl refl, zip_from R xs ys (omega (arith, e)) (λ k x y f g. h (suc k) x y f g))

-- a word of a list, 0 past its end
word_fit : (words : List ℕ) (i w : ℕ) → All (λ v. v < 2 ^ w) words → get_or words i 0 < 2 ^ w
word_fit words i w all =
    elim (slice_get_cases words i).1 as (λ _. get_or words i 0 < 2 ^ w) [
      | inl found ↦ all i 0 found.1
      | inr past ↦ subst (λ (v : ℕ). v < 2 ^ w) (sym (ap (λ o. unwrap_or o 0) past.1) ∙ unwrap_or-slice_get words i 0) (pow_pos w)
    ]

module _ (m : Netlist) (rules : KeepsRules m) (order : List ℕ) (ordered : IsEvaluationOrder m.assigns order)
    (s : Snapshot) (settled : IsSettled m s) (contents : FitsContents m s.contents) (inputs : Fit m.inputs s.inputs) where
  abbrev NetFits : Net → Type 0
  NetFits n = net_value s n < 2 ^ net_width m n

  words_fit : (x i : ℕ) → word_value s x i < 2 ^ word_width m x
  words_fit x i =
      elim (slice_get_cases s.contents.arrays x).1 as (λ _. word_value s x i < 2 ^ word_width m x) [
        | inl found ↦ elim (slice_get_cases m.arrays x).1 as (λ _. word_value s x i < 2 ^ word_width m x) [
          | inl shape ↦
              let fit : All (λ v. v < 2 ^ shape.0.width) found.0 = (zip_at (λ (q : Shape) words. (length words ≡ q.depth) × All (λ w. w < 2 ^ q.width) words) m.arrays s.contents.arrays x shape.0 found.0 contents.arrays shape.2 found.2).1 in
              let width : word_width m x ≡ shape.0.width = ap (λ o. unwrap_or (option_map (λ (q : Shape). q.width) o) 0) shape.2 in
              let words : slice_index_or s.contents.arrays x [] ≡ found.0 = get_or_from_slice_get s.contents.arrays x found.0 [] found.2 in
              subst (λ (w : ℕ). word_value s x i < 2 ^ w) (sym width) (subst (λ (l : List ℕ). get_or l i 0 < 2 ^ shape.0.width) (sym words) (word_fit found.0 i shape.0.width fit))
          | inr past ↦ absurd (omega (arith, past.0, found.1, AllZip-long (λ (q : Shape) words. (length words ≡ q.depth) × All (λ w. w < 2 ^ q.width) words) m.arrays s.contents.arrays contents.arrays))
        ]
        | inr past ↦
            let none : [] ≡ slice_index_or s.contents.arrays x [] = sym (ap (λ o. unwrap_or o []) past.1) ∙ unwrap_or-slice_get s.contents.arrays x [] in
            subst (λ (l : List ℕ). get_or l i 0 < 2 ^ word_width m x) none (pow_pos (word_width m x))
      ]

  input_fits : (i : ℕ) → i < length m.inputs → NetFits (Input i)
  input_fits i l = AllZip-get_or (λ w v. v < 2 ^ w) m.inputs s.inputs i 0 0 inputs l

  reg_fits : (i : ℕ) → i < length m.regs → NetFits (Reg i)
  reg_fits i l = AllZip-get_or (λ w v. v < 2 ^ w) m.regs s.contents.regs i 0 0 contents.regs l

  abbrev FitBelow : ℕ → Type 0
  FitBelow b = (p k : ℕ) (a : Assign) → p < b → slice_get order p ≡ Some k → slice_get m.assigns k ≡ Some a → NetFits a.target

  driven_read : (p k : ℕ) (a : Assign) (n : Net) → FitBelow p → slice_get order p ≡ Some k → slice_get m.assigns k ≡ Some a → Contains (nets_of a.right) n → IsDriven m n → NetFits n
  driven_read p k a n below at_p at_k read driven =
      let d = rules.driven.some n driven in
      let feeds : Feeds m.assigns d.0 k = record { from = d.1; to = a; from_at = d.2; to_at = at_k; read = subst (λ (x : Net). Contains (nets_of a.right) x) (sym d.3) read } in
      let before = ordered.behind p d.0 k at_p feeds in
      subst (λ (x : Net). NetFits x) d.3 (below before.0 d.0 d.1 before.1 before.2 d.2)

  read_fits : (p k : ℕ) (a : Assign) (n : Net) → FitBelow p → slice_get order p ≡ Some k → slice_get m.assigns k ≡ Some a → Contains (nets_of a.right) n → IsDeclared m n → NetFits n
  read_fits p k a (Input i) below at_p at_k read d = input_fits i d
  read_fits p k a (Reg i) below at_p at_k read d = reg_fits i d
  read_fits p k a (Output i) below at_p at_k read d = driven_read p k a (Output i) below at_p at_k read d
  read_fits p k a (Wire i) below at_p at_k read d = driven_read p k a (Wire i) below at_p at_k read d

  target_fits : (p k : ℕ) (a : Assign) → FitBelow p → slice_get order p ≡ Some k → slice_get m.assigns k ≡ Some a → NetFits a.target
  target_fits p k a below at_p at_k =
      let sound = All-at (AssignIsSound m) m.assigns k a rules.assigns at_k in
      let holds = All-at (λ (b : Assign). net_value s b.target ≡ right_value (net_width m) (word_value s) (net_value s) b.right) m.assigns k a settled.assigns at_k in
      let lt = right_lt (net_width m) (word_width m) (word_value s) (net_value s) words_fit a.right
      (λ n read. read_fits p k a n below at_p at_k read (All-contains (IsDeclared m) (nets_of a.right) n sound.right.nets read)) sound.right.constants sound.right.widths in
      subst (λ (v : ℕ). v < 2 ^ net_width m a.target) (sym holds) (subst (λ (w : ℕ). right_value (net_width m) (word_value s) (net_value s) a.right < 2 ^ w) sound.width lt)

  fit_below : (b : ℕ) → FitBelow b
  fit_below zero p k a lt at_p at_k = absurd (omega (arith, lt))
  fit_below (suc b) p k a lt at_p at_k = target_fits p k a (λ q j x below at_q at_j. fit_below b q j x (omega (arith, below, lt)) at_q at_j) at_p at_k

  driven_fits : (n : Net) → IsDriven m n → NetFits n
  driven_fits n driven =
      let d = rules.driven.some n driven in
      let place = ordered.all d.0 (slice_get_within m.assigns d.0 d.1 d.2) in
      subst (λ (x : Net). NetFits x) d.3 (fit_below (suc place.0) place.0 d.0 d.1 (omega arith) place.1 d.2)

  -- each net's value fits its width
  pub net_fits : (n : Net) → IsDeclared m n → NetFits n
  net_fits (Input i) d = input_fits i d
  net_fits (Reg i) d = reg_fits i d
  net_fits (Output i) d = driven_fits (Output i) d
  net_fits (Wire i) d = driven_fits (Wire i) d

  atom_fits : (a : Atom Net) → AtomIsSound m a → atom_value (net_value s) a < 2 ^ atom_width (net_width m) a
  atom_fits a sound = atom_lt (net_width m) (word_width m) (word_value s) (net_value s) words_fit a (λ n c. net_fits n (All-contains (IsDeclared m) (atom_nets a) n sound.nets c)) sound.constants

  module _ (new : Contents) (next : IsNext m s new) where
    reg_next : (r k : ℕ) (u : Update) → slice_get m.updates k ≡ Some u → update_target u ≡ OfNet (Reg r) → (x : ℕ) × (slice_get new.regs r ≡ Some x) × (x < 2 ^ net_width m (Reg r))
    reg_next r k (Set t a) at is =
        let e : t ≡ r = same_reg t r is in
        let sound = All-at (UpdateIsSound m) m.updates k (Set t a) rules.updates at in
        let x = atom_value (net_value s) a in
        let fits : x < 2 ^ net_width m (Reg t) = subst (λ (w : ℕ). x < 2 ^ w) sound.2 (atom_fits a sound.1) in
        (x, subst (λ (z : ℕ). slice_get new.regs z ≡ Some x) e (All-at (TakesPlace s new) m.updates k (Set t a) next.updates at), subst (λ (z : ℕ). x < 2 ^ net_width m (Reg z)) e fits)
      where
        same_reg : (t r : ℕ) → OfNet (Reg t) ≡ OfNet (Reg r) → t ≡ r
        same_reg t r e = cc
    reg_next r k (Put x i a) at is = absurd (not_reg is)
      where
        not_reg : OfArray x ≡ OfNet (Reg r) → ⊥
        not_reg e = cc

    regs_next : Fit m.regs new.regs
    regs_next = zip_from (λ w v. v < 2 ^ w) m.regs new.regs (sym (next.regs ∙ AllZip-long (λ w v. v < 2 ^ w) m.regs s.contents.regs contents.regs)) (λ r w v at_w at_v.
        let by = rules.updated.some (OfNet (Reg r)) (slice_get_within m.regs r w at_w) in
        let got = reg_next r by.0 by.1 by.2 by.3 in
        let same : got.0 ≡ v = same_Some got.0 v (sym got.1 ∙ at_v) in
        let width : net_width m (Reg r) ≡ w = get_or_from_slice_get m.regs r w 0 at_w in
        subst (λ (z : ℕ). z < 2 ^ w) same (subst (λ (z : ℕ). got.0 < 2 ^ z) width got.2))

    abbrev ArrayFits : Shape → List ℕ → Type 0
    ArrayFits q words = (length words ≡ q.depth) × All (λ w. w < 2 ^ q.width) words

    array_next : (x k : ℕ) (u : Update) (shape : Shape) (words : List ℕ) → slice_get m.updates k ≡ Some u → update_target u ≡ OfArray x → slice_get m.arrays x ≡ Some shape → slice_get new.arrays x ≡ Some words → ArrayFits shape words
    array_next x k (Set t a) shape words at is at_shape at_words = absurd (not_array is)
      where
        not_array : OfNet (Reg t) ≡ OfArray x → ⊥
        not_array e = cc
    array_next x k (Put y i a) shape words at is at_shape at_words =
        let e : y ≡ x = same_array y x is in
        let sound = All-at (UpdateIsSound m) m.updates k (Put y i a) rules.updates at in
        let v = atom_value (net_value s) a in
        let n = atom_value (net_value s) i in
        let put : slice_get new.arrays y ≡ Some (slice_set (slice_index_or s.contents.arrays y []) n v) = All-at (TakesPlace s new) m.updates k (Put y i a) next.updates at in
        let at_y : slice_get m.arrays y ≡ Some shape = subst (λ (z : ℕ). slice_get m.arrays z ≡ Some shape) (sym e) at_shape in
        let is_words : slice_set (slice_index_or s.contents.arrays y []) n v ≡ words = same_Some (slice_set (slice_index_or s.contents.arrays y []) n v) words (sym put ∙ subst (λ (z : ℕ). slice_get new.arrays z ≡ Some words) (sym e) at_words) in
        let width : word_width m y ≡ shape.width = ap (λ o. unwrap_or (option_map (λ (q : Shape). q.width) o) 0) at_y in
        let fits : v < 2 ^ shape.width = subst (λ (w : ℕ). v < 2 ^ w) (sound.3 ∙ width) (atom_fits a sound.2) in
        let old : ArrayFits shape (slice_index_or s.contents.arrays y []) = old_fits y shape at_y in
        subst (ArrayFits shape) is_words (length-set (slice_index_or s.contents.arrays y []) n v ∙ old.0, All-set (λ w. w < 2 ^ shape.width) (slice_index_or s.contents.arrays y []) n v fits old.1)
      where
        same_array : (y x : ℕ) → OfArray y ≡ OfArray x → y ≡ x
        same_array y x e = cc

        old_fits : (y : ℕ) (shape : Shape) → slice_get m.arrays y ≡ Some shape → ArrayFits shape (slice_index_or s.contents.arrays y [])
        old_fits y shape at_y =
            elim (slice_get_cases s.contents.arrays y).1 as (λ _. ArrayFits shape (slice_index_or s.contents.arrays y [])) [
              | inl found ↦
                  subst (ArrayFits shape) (sym (get_or_from_slice_get s.contents.arrays y found.0 [] found.2))
                  (zip_at ArrayFits m.arrays s.contents.arrays y shape found.0 contents.arrays at_y found.2)
              | inr past ↦ absurd (omega (arith, past.0, slice_get_within m.arrays y shape at_y, AllZip-long ArrayFits m.arrays s.contents.arrays contents.arrays))
            ]

    arrays_next : AllZip ArrayFits m.arrays new.arrays
    arrays_next = zip_from ArrayFits m.arrays new.arrays (sym (next.arrays ∙ AllZip-long ArrayFits m.arrays s.contents.arrays contents.arrays)) (λ x shape words at_shape at_words.
        let by = rules.updated.some (OfArray x) (slice_get_within m.arrays x shape at_shape) in
        array_next x by.0 by.1 shape words by.2 by.3 at_shape at_words)

    -- the contents after the edge fit
    pub contents_fit : FitsContents m new
    contents_fit = record { regs = regs_next; arrays = arrays_next }
