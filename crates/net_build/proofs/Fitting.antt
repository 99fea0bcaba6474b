-- The values of a draft's nets fit their widths.
use Rattle.std.proofs.Common.{◌≡◌, ℕ, zero, suc, ◌^◌, ◌<◌, List, [], ◌∷◌, length, get_or, refl, ap, subst, sym, ◌∙◌, inl, inr, arith, Some}
use Rattle.std.specs.Prelude.{slice_get, slice_index_or, All, Contains, unwrap_or}
use Rattle.std.specs.Option.{option_map}
use Rattle.std.specs.List.{AllZip}
use Rattle.std.proofs.Math.Pow.{pow_pos}
use Rattle.std.proofs.lemmas.List.Elements.{All-contains, AllZip-get_or}
use Rattle.std.proofs.lemmas.Slice.Zip.{AllZip-long}
use Rattle.std.proofs.lemmas.Option.{slice_get_within, slice_get_cases, slice_get_past, same_Some, unwrap_or-slice_get}
use Rattle.wiring.specs.declared.netlist.Net.{Net}
use Rattle.wiring.specs.declared.netlist.Net.TheVariants.{Input, Output, Wire, Reg}
use Rattle.wiring.specs.declared.netlist.Shape.{Shape}
use Rattle.wiring.specs.declared.netlist.Assign.{Assign}
use Rattle.wiring.specs.Rights.{nets_of, right_value}
use Rattle.wiring.specs.Netlist.{Netlist, net_width, word_width, IsDeclared}
use Rattle.wiring.specs.Snapshot.{Contents, Snapshot, net_value, word_value, Fit, FitsContents, IsSettled}
use Rattle.wiring.specs.Rules.{AssignIsSound}
use Rattle.wiring.proofs.Lists.{All-at}
use Rattle.wiring.proofs.Fits.{right_lt}
use Rattle.net_build.specs.Includes.{Includes}
use Rattle.net_build.specs.Draft.{IsNet, IsDraft, ValuesFit}
use Rattle.net_build.proofs.Parts.{at_Begins}
use Rattle.net_build.proofs.Grown.{assign_more, declared_more}

-- two lists place by place
zip_get : {A B : Type 0} (R : A → B → Type 0) (xs : List A) (ys : List B) (k : ℕ) (x : A) (d : B) → AllZip R xs ys → slice_get xs k ≡ Some x → R x (get_or ys k d)
zip_get R [] ys k x d all e = absurd (omega (arith, slice_get_within [] k x e))
zip_get R (a ∷ xs) [] k x d all e = absurd all
zip_get R (a ∷ xs) (b ∷ ys) zero x d all e = subst (λ z. R z b) (same_Some a x e) all.0
zip_get R (a ∷ xs) (b ∷ ys) (suc k) x d all e = zip_get R xs ys k x d all.1 e

-- contents that fit have each word of an array
pub array_long : (m : Netlist) (c : Contents) (x : ℕ) (shape : Shape) → FitsContents m c → slice_get m.arrays x ≡ Some shape → length (slice_index_or c.arrays x []) ≡ shape.depth
array_long m c x shape fits at = (zip_get (λ (s : Shape) words. (length words ≡ s.depth) × All (λ w. w < 2 ^ s.width) words) m.arrays c.arrays x shape [] fits.arrays at).0

-- a word of a list, 0 past its end
word_fits : (words : List ℕ) (i w : ℕ) → All (λ v. v < 2 ^ w) words → get_or words i 0 < 2 ^ w
word_fits words i w all =
    elim (slice_get_cases words i).1 as (λ _. get_or words i 0 < 2 ^ w) [
      | inl found ↦ all i 0 found.1
      | inr past ↦ subst (λ (v : ℕ). v < 2 ^ w) (sym (ap (λ o. unwrap_or o 0) past.1) ∙ unwrap_or-slice_get words i 0) (pow_pos w)
    ]

module _ (m b : Netlist) (part : Includes m b) (draft : IsDraft b) (s : Snapshot) (settled : IsSettled m s) (contents : FitsContents m s.contents) (inputs : Fit m.inputs s.inputs) where
  abbrev NetFits : Net → Type 0
  NetFits n = net_value s n < 2 ^ net_width m n

  abbrev Holds : Shape → List ℕ → Type 0
  Holds q words = (length words ≡ q.depth) × All (λ w. w < 2 ^ q.width) words

  words_fit : (x i : ℕ) → word_value s x i < 2 ^ word_width m x
  words_fit x i =
      elim (slice_get_cases m.arrays x).1 as (λ _. word_value s x i < 2 ^ word_width m x) [
        | inl shape ↦
            let fit : Holds shape.0 (slice_index_or s.contents.arrays x []) = zip_get Holds m.arrays s.contents.arrays x shape.0 [] contents.arrays shape.2 in
            let width : word_width m x ≡ shape.0.width = ap (λ o. unwrap_or (option_map (λ (q : Shape). q.width) o) 0) shape.2 in
            subst (λ (w : ℕ). word_value s x i < 2 ^ w) (sym width) (word_fits (slice_index_or s.contents.arrays x []) i shape.0.width fit.1)
        | inr past ↦
            let empty : [] ≡ slice_index_or s.contents.arrays x [] =
            sym (ap (λ o. unwrap_or o []) (slice_get_past s.contents.arrays x (omega (arith, past.0, AllZip-long Holds m.arrays s.contents.arrays contents.arrays)))) ∙ unwrap_or-slice_get s.contents.arrays x [] in
            subst (λ (l : List ℕ). get_or l i 0 < 2 ^ word_width m x) empty (pow_pos (word_width m x))
      ]

  input_fits : (i : ℕ) → i < length m.inputs → NetFits (Input i)
  input_fits i l = AllZip-get_or (λ w v. v < 2 ^ w) m.inputs s.inputs i 0 0 inputs l

  reg_fits : (i : ℕ) → i < length m.regs → NetFits (Reg i)
  reg_fits i l = AllZip-get_or (λ w v. v < 2 ^ w) m.regs s.contents.regs i 0 0 contents.regs l

  abbrev FitBelow : ℕ → Type 0
  FitBelow k = (j : ℕ) → j < k → j < length b.assigns → NetFits (Wire j)

  read_fits : (k : ℕ) (a : Assign) (n : Net) → FitBelow k → slice_get b.assigns k ≡ Some a → Contains (nets_of a.right) n → IsDeclared m n → NetFits n
  read_fits k a (Input i) below at read d = input_fits i d
  read_fits k a (Reg i) below at read d = reg_fits i d
  read_fits k a (Output i) below at read d = absurd (draft.readable k a at i read)
  read_fits k a (Wire i) below at read d = let l = draft.earlier k a i at read in below i l (omega (arith, l, slice_get_within b.assigns k a at))

  target_fits : (k : ℕ) (a : Assign) → FitBelow k → slice_get b.assigns k ≡ Some a → NetFits a.target
  target_fits k a below at =
      let sound = assign_more m b part a (All-at (AssignIsSound b) b.assigns k a draft.sound at) in
      let there = at_Begins b.assigns m.assigns k a part.assigns at in
      let holds = All-at (λ (x : Assign). net_value s x.target ≡ right_value (net_width m) (word_value s) (net_value s) x.right) m.assigns k a settled.assigns there in
      let lt = right_lt (net_width m) (word_width m) (word_value s) (net_value s) words_fit a.right
      (λ n read. read_fits k a n below at read (All-contains (IsDeclared m) (nets_of a.right) n sound.right.nets read)) sound.right.constants sound.right.widths in
      subst (λ (v : ℕ). v < 2 ^ net_width m a.target) (sym holds) (subst (λ (w : ℕ). right_value (net_width m) (word_value s) (net_value s) a.right < 2 ^ w) sound.width lt)

  wire_fits : (j : ℕ) → FitBelow j → j < length b.assigns → NetFits (Wire j)
  wire_fits j below l =
      elim (slice_get_cases b.assigns j).1 as (λ _. NetFits (Wire j)) [
        | inl h ↦ subst (λ (x : Net). NetFits x) (draft.each j h.0 h.2) (target_fits j h.0 below h.2)
        | inr h ↦ absurd (omega (arith, h.0, l))
      ]

  fit_below : (k : ℕ) → FitBelow k
  fit_below zero j lt l = absurd (omega (arith, lt))
  fit_below (suc k) j lt l = wire_fits j (λ i below within. fit_below k i (omega (arith, below, lt)) within) l

  nets_fit : (n : Net) → IsNet b n → NetFits n
  nets_fit (Input i) h = input_fits i (declared_more m b part (Input i) h.declared)
  nets_fit (Reg i) h = reg_fits i (declared_more m b part (Reg i) h.declared)
  nets_fit (Output i) h = absurd (h.no_output i refl)
  nets_fit (Wire i) h = fit_below (suc i) i (omega arith) (let d : i < length b.wires = h.declared in omega (arith, d, draft.wires))

pub draft_fits : (b : Netlist) → IsDraft b → ValuesFit b
draft_fits b draft m s part settled contents inputs n net = nets_fit m b part draft s settled contents inputs n net
