-- Slots that fill an array, and what a packed netlist shows of its contents.
use Rattle.std.proofs.Common.{◌≡◌, ℕ, ◌+◌, ◌*◌, ◌%◌, ◌^◌, ◌<◌, List, [], length, get_or, map, ap, subst, sym, ◌∙◌, arith, inl, inr, Some}
use Rattle.std.specs.Prelude.{slice_get, slice_index_or}
use Rattle.std.proofs.Math.Nat.{mod-one, mod-eq_of_lt}
use Rattle.std.proofs.lemmas.Nat.{mod-pow-add}
use Rattle.std.proofs.lemmas.List.{ext_get_or}
use Rattle.std.proofs.lemmas.Slice.Zip.{AllZip-long}
use Rattle.std.proofs.lemmas.Option.{same_Some, slice_get_cases, slice_get-get_or}
use Rattle.std.specs.Prelude.{All}
use Rattle.wiring.specs.declared.netlist.Shape.{Shape}
use Rattle.wiring.specs.Netlist.{Netlist}
use Rattle.wiring.specs.Snapshot.{Contents, FitsContents}
use Rattle.array_packing.specs.declared.slots.Slot.{Slot}
use Rattle.array_packing.specs.Packing.{bits_at, words_seen, packed, IsFilledTo, AreFilled, empty, more}
use Rattle.array_packing.proofs.Parts.{get_bits}
use Rattle.array_packing.proofs.Simulating.{zip_at, at_map}

module _ (new : Netlist) (slots : List Slot) (filled : AreFilled new slots) (c d : Contents) (fit_c : FitsContents new c) (fit_d : FitsContents new d) (same : map (words_seen c.arrays) slots ≡ map (words_seen d.arrays) slots) where
  abbrev words : Contents → ℕ → List ℕ
  words x g = slice_index_or x.arrays g []

  same_slot : (x : ℕ) (k : Slot) → slice_get slots x ≡ Some k → words_seen c.arrays k ≡ words_seen d.arrays k
  same_slot x k at =
      same_Some (words_seen c.arrays k) (words_seen d.arrays k) (sym (at_map (words_seen c.arrays) slots x k at) ∙ ap (λ (l : List (List ℕ)). slice_get l x) same ∙ at_map (words_seen d.arrays) slots x k at)

  -- the bits of a word below those that are reached
  same_bits : (g n i : ℕ) → IsFilledTo slots g n → get_or (words c g) i 0 % 2 ^ n ≡ get_or (words d g) i 0 % 2 ^ n
  same_bits g n i empty = mod-one (get_or (words c g) i 0) ∙ sym (mod-one (get_or (words d g) i 0))
  same_bits g n i (more x k at array below) =
      let a = get_or (words c g) i 0 in
      let b = get_or (words d g) i 0 in
      let order : k.low + k.width ≡ k.width + k.low = omega arith in
      let seen : map (bits_at k.low k.width) (words c g) ≡ map (bits_at k.low k.width) (words d g) =
      subst (λ (h : ℕ). map (bits_at k.low k.width) (words c h) ≡ map (bits_at k.low k.width) (words d h)) array (same_slot x k at) in
      let part : bits_at k.low k.width a ≡ bits_at k.low k.width b =
      sym (get_bits k.low k.width (words c g) i) ∙ ap (λ (l : List ℕ). get_or l i 0) seen ∙ get_bits k.low k.width (words d g) i in
      ap (λ e. a % 2 ^ e) order ∙ mod-pow-add a k.width k.low
      ∙ ap (λ p. p * 2 ^ k.low + a % 2 ^ k.low) part ∙ ap (λ r. bits_at k.low k.width b * 2 ^ k.low + r) (same_bits g k.low i below)
      ∙ sym (mod-pow-add b k.width k.low) ∙ ap (λ e. b % 2 ^ e) (sym order)

  abbrev ArrayFits : Shape → List ℕ → Type 0
  ArrayFits s ws = (length ws ≡ s.depth) × All (λ w. w < 2 ^ s.width) ws

  array_fits : (x : Contents) → FitsContents new x → (g : ℕ) (s : Shape) → slice_get new.arrays g ≡ Some s → g < length x.arrays → ArrayFits s (words x g)
  array_fits x fit g s at l = zip_at ArrayFits new.arrays x.arrays g s (get_or x.arrays g []) fit.arrays at (slice_get-get_or x.arrays g [] l)

  same_words : (g : ℕ) (s : Shape) → slice_get new.arrays g ≡ Some s → ArrayFits s (words c g) → ArrayFits s (words d g) → words c g ≡ words d g
  same_words g s at fc fd = ext_get_or 0 (words c g) (words d g) (fc.0 ∙ sym fd.0) (λ i l.
      sym (mod-eq_of_lt (fc.1 i 0 l)) ∙ same_bits g s.width i (filled g s at) ∙ mod-eq_of_lt (fd.1 i 0 (omega (arith, l, fc.0, fd.0))))

  long : (x : Contents) → FitsContents new x → length x.arrays ≡ length new.arrays
  long x fit = AllZip-long ArrayFits new.arrays x.arrays fit.arrays

  same_array : (g : ℕ) → g < length c.arrays → words c g ≡ words d g
  same_array g l =
      elim (slice_get_cases new.arrays g).1 as (λ _. words c g ≡ words d g) [
        | inl found ↦ same_words g found.0 found.2 (array_fits c fit_c g found.0 found.2 l) (array_fits d fit_d g found.0 found.2 (omega (arith, l, long c fit_c, long d fit_d)))
        | inr past ↦ absurd (omega (arith, past.0, l, long c fit_c))
      ]

  same_arrays : c.arrays ≡ d.arrays
  same_arrays = ext_get_or [] c.arrays d.arrays (long c fit_c ∙ sym (long d fit_d)) same_array

abbrev with_parts : List ℕ → List (List ℕ) → Contents
with_parts regs arrays = record { regs = regs; arrays = arrays }

pub contents_seen : (new old : Netlist) (slots : List Slot) → AreFilled new slots → (c d : Contents) → FitsContents new c → FitsContents new d → (packed old slots).contents c ≡ (packed old slots).contents d → c ≡ d
contents_seen new old slots filled c d fit_c fit_d same =
    let regs : c.regs ≡ d.regs = ap (λ (x : Contents). x.regs) same in
    let arrays : c.arrays ≡ d.arrays = same_arrays new slots filled c d fit_c fit_d (ap (λ (x : Contents). x.arrays) same) in
    both c d regs arrays
  where
    both : (c d : Contents) → c.regs ≡ d.regs → c.arrays ≡ d.arrays → c ≡ d
    both c d e f = ap (λ (l : List ℕ). with_parts l c.arrays) e ∙ ap (λ (l : List (List ℕ)). with_parts d.regs l) f
