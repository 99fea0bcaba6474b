-- What the dins are given fits them.
use Rattle.std.proofs.Common.{◌≡◌, ℕ, zero, suc, ◌+◌, ◌-◌, ◌^◌, ◌<◌, List, [], ◌∷◌, length, map, replicate, refl, ap, sym, subst, ◌∙◌, arith, Some, None, get_or, inl, inr}
use Rattle.std.specs.Prelude.{◌/◌, ◌%◌, ◌⊎◌, slice_get, slice_index}
use Rattle.std.specs.List.{range_with_len}
use Rattle.std.proofs.Math.Nat.{mod-lt}
use Rattle.std.proofs.Math.Pow.{pow_pos}
use Rattle.std.proofs.lemmas.Option.{slice_get-get_or, slice_get_within}
use Rattle.dk_base.specs.Frames.{Size, area}
use Rattle.pgm_rounds.specs.declared.round.Round.{Round}
use Rattle.wiring.specs.Snapshot.{Fit}
use Rattle.wiring.proofs.Lists.{All-at, at_one}
use Rattle.stimulus.specs.Stimulus.{stream, dins_at, greatest_dins}
use Rattle.stimulus.specs.Given.{rounds_of, IsBenchRound, AreBenchFrames}
use Rattle.stimulus.proofs.Streams.{frame_at, pixel_is, pixel_past}

fit_map : (ws : List ℕ) (f : ℕ → ℕ) (a : ℕ) → ((k w : ℕ) → slice_get ws k ≡ Some w → f (a + k) < 2 ^ w) → Fit ws (map f (range_with_len a (length ws)))
fit_map [] f a h = tt
fit_map (w ∷ ws) f a h = (
  subst (λ z. f z < 2 ^ w) (let e : a + 0 ≡ a = omega arith in e) (h 0 w refl),
  fit_map ws f (a + 1) (λ k v at. subst (λ z. f z < 2 ^ v) (let e : a + suc k ≡ a + 1 + k = omega arith in e) (h (suc k) v at)),
)

pub fit_greatest : (ws : List ℕ) → Fit ws (greatest_dins ws)
fit_greatest [] = tt
fit_greatest (w ∷ ws) = (less (2 ^ w) (pow_pos w), fit_greatest ws)
  where
    less : (n : ℕ) → 0 < n → n - 1 < n
    less n l = omega (arith, l)

pub fit_zeros : (ws : List ℕ) → Fit ws (replicate (length ws) 0)
fit_zeros [] = tt
fit_zeros (w ∷ ws) = (pow_pos w, fit_zeros ws)

at_or : {X : Type 0} (xs : List X) (k : ℕ) → ((x : X) × (slice_get xs k ≡ Some x)) ⊎ (slice_get xs k ≡ None)
at_or [] k = inr refl
at_or (x ∷ xs) zero = inl (x, refl)
at_or (x ∷ xs) (suc k) = at_or xs k

module _ (widths : List ℕ) (size : Size) (rounds : List Round) (frames : AreBenchFrames widths size rounds) (some : 0 < area size) (number : ℕ) where
  sample_fits : (input w : ℕ) (r : Round) → slice_get widths input ≡ Some w → slice_get rounds (number / area size) ≡ Some r → slice_index (stream (rounds_of rounds) input) number < 2 ^ w
  sample_fits input w r at there =
      let within = slice_get_within widths input w at in
      let f = frame_at widths size r.frames.items (All-at (IsBenchRound widths size) rounds (number / area size) r frames.each there) input within in
      let inside : number % area size < length f.1.samples = subst (λ z. number % area size < z) (sym f.4.whole) (mod-lt number some) in
      let value : get_or f.1.samples (number % area size) 0 < 2 ^ f.0 = All-at (λ s. s < 2 ^ f.0) f.1.samples (number % area size) (get_or f.1.samples (number % area size) 0) f.4.values (slice_get-get_or f.1.samples (number % area size) 0 inside) in
      subst (λ z. z < 2 ^ w) (sym (pixel_is widths size rounds frames input within number r f.1 some there f.3))
      (subst (λ z. get_or f.1.samples (number % area size) 0 < 2 ^ z) (at_one widths input f.0 w f.2 at) value)

  pixel_fits : (input w : ℕ) → slice_get widths input ≡ Some w → slice_index (stream (rounds_of rounds) input) number < 2 ^ w
  pixel_fits input w at =
      elim (at_or rounds (number / area size)) as (λ _. slice_index (stream (rounds_of rounds) input) number < 2 ^ w) [
        | inl x ↦ sample_fits input w x.0 at x.1
        | inr e ↦ subst (λ z. z < 2 ^ w) (sym (pixel_past widths size rounds frames input (slice_get_within widths input w at) number e)) (pow_pos w)
      ]

  pub fit_dins : Fit widths (dins_at (length widths) (rounds_of rounds) number)
  fit_dins = fit_map widths (λ input. slice_index (stream (rounds_of rounds) input) number) 0 (λ k w at. subst (λ z. slice_index (stream (rounds_of rounds) z) number < 2 ^ w) (let e : k ≡ 0 + k = omega arith in e) (pixel_fits k w at))

-- a list is made place by place
pub made_of : (f : ℕ → ℕ) (xs : List ℕ) (a : ℕ) → ((k : ℕ) → k < length xs → slice_index xs k ≡ f (a + k)) → xs ≡ map f (range_with_len a (length xs))
made_of f [] a h = refl
made_of f (x ∷ xs) a h =
    ap (λ z. z ∷ xs) (h 0 (omega arith) ∙ ap f (let e : a + 0 ≡ a = omega arith in e))
    ∙ ap (λ z. f a ∷ z) (made_of f xs (a + 1) (λ k l. h (suc k) (omega (arith, l)) ∙ ap f (let e : a + suc k ≡ a + 1 + k = omega arith in e)))
