-- Tests that differ, and bands that divide their side.
use Rattle.std.proofs.Common.{◌≡◌, ℕ, ◌+◌, ◌<◌, Bool, false, List, [], ◌∷◌, ◌++◌, length, refl, sym, ap, subst, ◌∙◌, inl, inr, arith}
use Rattle.std.specs.Prelude.{if◌then◌else◌, not}
use Rattle.std.proofs.lemmas.List.{length_push}
use Rattle.std.proofs.lemmas.Bool.{false_from_ne_true}
use Rattle.wiring.proofs.Search.{at_push}
use Rattle.edge_select.specs.declared.bands.Band.{Band}
use Rattle.edge_select.specs.declared.frame_tests.Test.{Test}
use Rattle.edge_select.specs.Bands.{IsBand, in_interval, in_band}
use Rattle.edge_select.specs.FrameTests.{Divides, HasNone, TestsDiffer}
use Rattle.edge_select.proofs.Moving.{Between, interval_in, in_the_interval}

pub none_differ : TestsDiffer []
none_differ j k t u at_t at_u start band = cc

pub push_some : {X : Type 0} (xs : List X) (x : X) → xs ++ x ∷ [] ≡ [] → ⊥
push_some xs x e = omega (arith, length_push xs x, ap length e)

pub push_differs : (tests : List Test) (new : Test) → TestsDiffer tests → HasNone tests new.start new.band → TestsDiffer (tests ++ new ∷ [])
push_differs tests new differ none j k t u at_t at_u start band =
    elim (at_push tests new t j at_t) as (λ _. j ≡ k) [
      | inl h ↦ elim (at_push tests new u k at_u) as (λ _. j ≡ k) [
        | inl g ↦ differ j k t u h g start band
        | inr g ↦ absurd (none j t h (start ∙ ap (λ (v : Test). v.start) (sym g.1)) (band ∙ ap (λ (v : Test). v.band) (sym g.1)))
      ]
      | inr h ↦ elim (at_push tests new u k at_u) as (λ _. j ≡ k) [
        | inl g ↦ absurd (none k u g (sym start ∙ ap (λ (v : Test). v.start) (sym h.1)) (sym band ∙ ap (λ (v : Test). v.band) (sym h.1)))
        | inr g ↦ h.0 ∙ sym g.0
      ]
    ]

-- an interval that is not the whole side
module _ (side : ℕ) (band : Band) (plain : band.outside ≡ false) (is : IsBand side band) (part : band.last + 1 < side) where
  plainly : (x : ℕ) → in_band side band x ≡ in_interval side band.first band.last x
  plainly x = ap (λ (t : Bool). if t then not (in_interval side band.first band.last x) else in_interval side band.first band.last x) plain

  missed : (x : ℕ) → x < side → (Between band.first band.last x → ⊥) → in_band side band x ≡ false
  missed x low none = plainly x ∙ false_from_ne_true (in_interval side band.first band.last x) (λ h. none (interval_in side band.first band.last x low h))

  pub divides : Divides side band
  divides = record {
    inside = (band.first, omega (arith, is.some, is.last), plainly band.first ∙ in_the_interval side band.first band.last band.first (omega (arith, is.some, is.last)) (record { low = omega arith; high = is.some }));
    outside = (band.last + 1, part, missed (band.last + 1) part (λ h. omega (arith, h.high)));
    plain = plain;
    last = part;
  }

-- the band of an interval that is not the whole side
pub band_divides : (side : ℕ) (band inner : Band) → inner ≡ record { first = band.first; last = band.last; outside = false } → IsBand side band → band.last + 1 < side → Divides side inner
band_divides side band inner e is part =
    subst (Divides side) (sym e) (divides side (record { first = band.first; last = band.last; outside = false }) refl (record { some = is.some; last = is.last }) part)
