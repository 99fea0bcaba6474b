-- Contents that fit.
use Rattle.std.proofs.Common.{◌≡◌, ℕ, zero, suc, ◌^◌, ◌<◌, List, [], ◌∷◌, length, map, replicate, refl, ap, sym, subst}
use Rattle.std.specs.Prelude.{All}
use Rattle.std.specs.List.{AllZip}
use Rattle.std.proofs.Math.Pow.{pow_pos}
use Rattle.std.proofs.lemmas.List.{length-replicate}
use Rattle.std.proofs.lemmas.List.Elements.{All-nil, All-cons}
use Rattle.wiring.specs.declared.netlist.Shape.{Shape}
use Rattle.wiring.specs.Netlist.{Netlist}
use Rattle.wiring.specs.Snapshot.{Contents, Fit, FitsContents, HasPlaces}
use Rattle.cycle_sim.proofs.Pieces.{length_fit}
use Rattle.cycle_sim.specs.Simulated.{held_contents}

zeros_all : (bound n : ℕ) → 0 < bound → All (λ w. w < bound) (replicate n 0)
zeros_all bound zero h = All-nil (λ w. w < bound)
zeros_all bound (suc n) h = All-cons (λ w. w < bound) 0 (replicate n 0) h (zeros_all bound n h)

zero_regs : (widths : List ℕ) → Fit widths (replicate (length widths) 0)
zero_regs [] = tt
zero_regs (w ∷ ws) = (pow_pos w, zero_regs ws)

abbrev AreWords : Shape → List ℕ → Type 0
AreWords s words = (length words ≡ s.depth) × All (λ w. w < 2 ^ s.width) words

zero_words : (shapes : List Shape) → AllZip AreWords shapes (map (λ (s : Shape). replicate s.depth 0) shapes)
zero_words [] = tt
zero_words (s ∷ ss) = ((length-replicate s.depth 0, zeros_all (2 ^ s.width) s.depth (pow_pos s.width)), zero_words ss)

pub zeros_fit : (m : Netlist) (regs : List ℕ) (words : List (List ℕ)) → regs ≡ replicate (length m.regs) 0 → words ≡ map (λ (s : Shape). replicate s.depth 0) m.arrays → FitsContents m (held_contents regs words)
zeros_fit m regs words e f = record {
  regs = subst (λ (r : List ℕ). Fit m.regs r) (sym e) (zero_regs m.regs);
  arrays = subst (λ (a : List (List ℕ)). AllZip AreWords m.arrays a) (sym f) (zero_words m.arrays);
}

arrays_count : (shapes : List Shape) (arrays : List (List ℕ)) → AllZip AreWords shapes arrays → length arrays ≡ length shapes
arrays_count [] [] h = refl
arrays_count [] (words ∷ arrays) h = absurd h
arrays_count (s ∷ shapes) [] h = absurd h
arrays_count (s ∷ shapes) (words ∷ arrays) h = ap suc (arrays_count shapes arrays h.1)

pub have_places : (m : Netlist) (c : Contents) → FitsContents m c → HasPlaces m c
have_places m c fits = record { regs = length_fit m.regs c.regs fits.regs; arrays = arrays_count m.arrays c.arrays fits.arrays }
