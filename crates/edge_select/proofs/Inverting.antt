-- Tests of bands: not another test, of one coordinate, or of more.
use Rattle.std.proofs.Common.{◌≡◌, ℕ, zero, suc, ◌-◌, ◌^◌, ◌==◌, Bool, true, false, [], ◌∷◌, refl, sym, ap, subst, ◌∙◌, arith}
use Rattle.std.specs.Prelude.{if◌then◌else◌, not}
use Rattle.std.proofs.lemmas.Bool.{eq-eqb, ne_eqb}
use Rattle.wiring.specs.declared.right.Atom.TheVariants as atom
use Rattle.wiring.specs.declared.right.Right.TheVariants.{Not}
use Rattle.wiring.specs.declared.netlist.Net.{Net}
use Rattle.wiring.specs.declared.netlist.Holder.{Holder}
use Rattle.wiring.specs.declared.netlist.Holder.TheVariants.{OfNet}
use Rattle.wiring.specs.Netlist.{Netlist, net_width}
use Rattle.wiring.specs.Snapshot.{net_value}
use Rattle.wiring.specs.Clock.{bit}
use Rattle.net_build.specs.Includes.{Includes}
use Rattle.net_build.specs.Draft.{IsNet}
use Rattle.net_build.specs.Control.{IsMadeOf}
use Rattle.net_build.specs.Logic.{AreMadeOf, Computes, IsGate}
use Rattle.net_build.proofs.Control.{made_more, made_net}
use Rattle.net_build.proofs.Parts.{Includes-trans}
use Rattle.net_build.proofs.Grown.{width_more}
use Rattle.net_build.proofs.Logic.{first_in, computes_as, computes_through}
use Rattle.edge_select.specs.declared.bands.Band.{Band}
use Rattle.edge_select.specs.Logic.{is_within}
use Rattle.edge_select.specs.Bands.{in_interval, in_band}

pub negated_is : (b0 b1 : Netlist) (test n : Net) → Includes b1 b0 → IsNet b0 test → net_width b0 test ≡ 1 → IsGate b1 b0 (Not (atom.Net test)) n → Computes b1 b0 (test ∷ []) 1 (λ s. 1 - net_value s test) n
negated_is b0 b1 test n grows is wide g = record {
  net = g.net;
  width = g.width ∙ wide;
  value = λ m s part settled.
      g.value m s part settled ∙ ap (λ (w : ℕ). 2 ^ w - 1 - net_value s test) (width_more m b0 (Includes-trans m b1 b0 part grows) test is.declared ∙ wide);
  made_of = λ base all. g.made_of base (made_net b1 base test (made_more b1 b0 base grows (all test (first_in test []))));
}

pub inverted : (t : Bool) → 1 - bit t ≡ bit (not t)
inverted true = refl
inverted false = refl

-- one coordinate
pub one_is : (new old : Netlist) (x n : Net) (side first last : ℕ) → first ≡ last → Computes new old (x ∷ []) 1 (λ s. bit (net_value s x == first)) n → Computes new old (x ∷ []) 1 (λ s. bit (in_interval side first last (net_value s x))) n
one_is new old x n side first last e is =
    computes_as new old (x ∷ []) 1 1 (λ s. bit (net_value s x == first)) (λ s. bit (in_interval side first last (net_value s x))) n refl is
    (λ s. ap (λ (t : Bool). bit (if t then net_value s x == first else is_within side first last (net_value s x))) (sym (eq-eqb first last e)))

-- more than one
pub more_is : (new old : Netlist) (x n : Net) (side first last : ℕ) → (first ≡ last → ⊥) → Computes new old (x ∷ []) 1 (λ s. bit (is_within side first last (net_value s x))) n → Computes new old (x ∷ []) 1 (λ s. bit (in_interval side first last (net_value s x))) n
more_is new old x n side first last ne is =
    computes_as new old (x ∷ []) 1 1 (λ s. bit (is_within side first last (net_value s x))) (λ s. bit (in_interval side first last (net_value s x))) n refl is
    (λ s. ap (λ (t : Bool). bit (if t then net_value s x == first else is_within side first last (net_value s x))) (sym (ne_eqb first last ne)))

-- inside the interval, and outside it
pub inside_is : (new old : Netlist) (x n : Net) (side : ℕ) (band : Band) → band.outside ≡ false → Computes new old (x ∷ []) 1 (λ s. bit (in_interval side band.first band.last (net_value s x))) n → Computes new old (x ∷ []) 1 (λ s. bit (in_band side band (net_value s x))) n
inside_is new old x n side band e is =
    computes_as new old (x ∷ []) 1 1 (λ s. bit (in_interval side band.first band.last (net_value s x))) (λ s. bit (in_band side band (net_value s x))) n refl is
    (λ s. ap (λ (t : Bool). bit (if t then not (in_interval side band.first band.last (net_value s x)) else in_interval side band.first band.last (net_value s x))) (sym e))

pub outside_is : (new mid old : Netlist) (x inner n : Net) (side : ℕ) (band : Band) → band.outside ≡ true → Includes new mid → Computes mid old (x ∷ []) 1 (λ s. bit (in_interval side band.first band.last (net_value s x))) inner →
    Computes new mid (inner ∷ []) 1 (λ s. 1 - net_value s inner) n → Computes new old (x ∷ []) 1 (λ s. bit (in_band side band (net_value s x))) n
outside_is new mid old x inner n side band e grows is of =
    computes_through new mid old (x ∷ []) (inner ∷ []) 1 (λ s. 1 - net_value s inner) (λ s. bit (in_band side band (net_value s x))) n of
    (λ base all. one base (is.made_of base all))
    (λ m s part settled.
    ap (λ (v : ℕ). 1 - v) (is.value m s (Includes-trans m new mid part grows) settled)
    ∙ inverted (in_interval side band.first band.last (net_value s x))
    ∙ ap (λ (t : Bool). bit (if t then not (in_interval side band.first band.last (net_value s x)) else in_interval side band.first band.last (net_value s x))) (sym e))
  where
    one : (base : Holder → Bool) → IsMadeOf mid base (OfNet inner) → AreMadeOf mid base (inner ∷ [])
    one base p y (zero, l, q) = subst (λ (z : Net). IsMadeOf mid base (OfNet z)) q p
    one base p y (suc i, l, q) = absurd (omega (arith, l))

pub is_inside : (t : Bool) → not t ≡ true → t ≡ false
is_inside true h = cc
is_inside false h = refl

pub is_outside : (t : Bool) → not t ≡ false → t ≡ true
is_outside true h = refl
is_outside false h = cc
