-- What the wires of a count compute.
use Rattle.std.proofs.Common.{◌≡◌, ℕ, zero, suc, ◌-◌, ◌==◌, Bool, true, List, [], ◌∷◌, ◌++◌, sym, ap, subst, ◌∙◌, inl, inr, arith}
use Rattle.std.specs.Prelude.{if◌then◌else◌, Contains}
use Rattle.std.proofs.lemmas.List.Elements.{Contains-append_right, Contains-append_left, Contains-append_cases}
use Rattle.wiring.specs.declared.right.Atom.TheVariants as atom
use Rattle.wiring.specs.declared.right.Right.TheVariants.{Choose}
use Rattle.wiring.specs.declared.netlist.Net.{Net}
use Rattle.wiring.specs.declared.netlist.Holder.{Holder}
use Rattle.wiring.specs.declared.netlist.Holder.TheVariants.{OfNet}
use Rattle.wiring.specs.Netlist.{Netlist}
use Rattle.wiring.specs.Snapshot.{Snapshot, net_value}
use Rattle.wiring.specs.Clock.{bit}
use Rattle.net_build.specs.Includes.{Includes}
use Rattle.net_build.specs.Control.{IsMadeOf}
use Rattle.net_build.proofs.Control.{made_more}
use Rattle.net_build.proofs.Parts.{Includes-trans}
use Rattle.dk_base.specs.FrameSizes.{size_of}
use Rattle.dk_base.specs.Numbers.{bit_count}
use Rattle.edge_select.specs.declared.pixel.Pixel.{Pixel}
use Rattle.net_build.specs.Logic.{Computes, IsGate, AreMadeOf}
use Rattle.edge_select.specs.Pixels.{HasPixel}
use Rattle.net_build.specs.Counters.{after, control_nets, taken}
use Rattle.edge_select.specs.Counters.{row_after, pixel_nets}
use Rattle.net_build.proofs.Counting.{by_bit}
use Rattle.net_build.proofs.Logic.{Source, net_source, given_source, computes_more, computes_as, computes_from, computes_since, choose_computes, computes_through, AreIn, first_in, second_in, none_in, more_in}

pub column_is : (b0 b1 b3 : Netlist) (from via : List Net) (bits other_bits last other_last : ℕ) (at n : Net) → bits ≡ other_bits → last ≡ other_last → Includes b3 b1 → AreIn from via → Computes b1 b0 via bits (λ s. after true last (net_value s at)) n → Computes b3 b0 from other_bits (λ s. after true other_last (net_value s at)) n
column_is b0 b1 b3 from via bits other_bits last other_last at n e f grows among is =
    computes_from b3 b0 from via other_bits (λ s. after true other_last (net_value s at)) n among
    (computes_as b3 b0 via bits other_bits (λ s. after true last (net_value s at)) (λ s. after true other_last (net_value s at)) n e
    (computes_more b3 b1 b0 via bits (λ s. after true last (net_value s at)) n grows is) (λ s. ap (λ (l : ℕ). after true l (net_value s at)) f))

pub row_is : (b0 b1 b2 b3 : Netlist) (p : Pixel) (bits last_column last_row : ℕ) (ending next n : Net) → HasPixel b0 p → bits ≡ bit_count (p.size.height - 1) → last_column ≡ p.size.width - 1 → last_row ≡ p.size.height - 1 → Includes b1 b0 → Includes b2 b1 → Includes b3 b2 →
    Computes b1 b0 (p.column ∷ []) 1 (λ s. bit (net_value s p.column == last_column)) ending → Computes b2 b1 (p.row ∷ []) bits (λ s. after true last_row (net_value s p.row)) next → IsGate b3 b2 (Choose (atom.Net ending) (atom.Net next) (atom.Net p.row)) n →
    Computes b3 b0 (p.column ∷ (p.row ∷ [])) (bit_count (p.size.height - 1)) (λ s. row_after (size_of p.size) (net_value s p.column) (net_value s p.row)) n
row_is b0 b1 b2 b3 p bits last_column last_row ending next n has e ec er f1 f2 f3 c1 c2 g =
    let from : List Net = p.column ∷ (p.row ∷ []) in
    let f20 : Includes b2 b0 = Includes-trans b2 b1 b0 f2 f1 in
    let test : Snapshot → ℕ = λ s. bit (net_value s p.column == last_column) in
    let down : Snapshot → ℕ = λ s. after true last_row (net_value s p.row) in
    let s1 : Source b2 b0 from 1 test (atom.Net ending) =
    net_source b2 b0 from 1 test ending (computes_more b2 b1 b0 from 1 test ending f2 (computes_from b1 b0 from (p.column ∷ []) 1 test ending (more_in from p.column [] (first_in p.column (p.row ∷ [])) (none_in from)) c1)) in
    let s2 : Source b2 b0 from bits (λ s. net_value s p.row) (atom.Net p.row) = given_source b2 b0 from bits p.row f20 has.row (has.row_width ∙ sym e) (second_in p.column p.row []) in
    let s3 : Source b2 b0 from bits down (atom.Net next) =
    net_source b2 b0 from bits down next (computes_from b2 b0 from (p.row ∷ []) bits down next (more_in from p.row [] (second_in p.column p.row []) (none_in from)) (computes_since b2 b1 b0 (p.row ∷ []) bits down next f1 c2)) in
    computes_as b3 b0 from bits (bit_count (p.size.height - 1)) (λ s. if test s == 1 then down s else net_value s p.row) (λ s. row_after (size_of p.size) (net_value s p.column) (net_value s p.row)) n e
    (choose_computes b3 b2 b0 from f3 bits test down (λ s. net_value s p.row) (atom.Net ending) (atom.Net next) (atom.Net p.row) n s1 s3 s2 g)
    (λ s. by_bit (net_value s p.column == last_column) (down s) (net_value s p.row)
    ∙ ap (λ (l : ℕ). if net_value s p.column == l then down s else net_value s p.row) ec
    ∙ ap (λ (l : ℕ). if net_value s p.column == p.size.width - 1 then after true l (net_value s p.row) else net_value s p.row) er)

-- what a register takes, by only the pixel's nets
pub advances : (new mid one old : Netlist) (p : Pixel) (now next n : Net) (bits next_bits first : ℕ) (worth : Snapshot → ℕ) → Includes new mid → Includes mid one → Includes one old → Contains (p.column ∷ (p.row ∷ [])) now → Computes one old (p.column ∷ (p.row ∷ [])) next_bits worth next →
    Computes new mid (control_nets mid.enable ++ now ∷ (next ∷ [])) bits (λ s. taken mid.enable first (net_value s now) (net_value s next) s) n → Computes new old (pixel_nets old.enable p) bits (λ s. taken old.enable first (net_value s now) (worth s) s) n
advances new mid one old p now next n bits next_bits first worth f g h at c d =
    let own : List Net = p.column ∷ (p.row ∷ []) in
    let from : List Net = pixel_nets old.enable p in
    let grows : Includes mid old = Includes-trans mid one old g h in
    computes_through new mid old from (control_nets mid.enable ++ now ∷ (next ∷ [])) bits (λ s. taken mid.enable first (net_value s now) (net_value s next) s) (λ s. taken old.enable first (net_value s now) (worth s) s) n d
    (λ base all x in_via.
    let pixel_made : AreMadeOf old base own = λ y k. all y (Contains-append_right (control_nets old.enable) own y k) in
    elim (Contains-append_cases (control_nets mid.enable) (now ∷ (next ∷ [])) x in_via) as (λ _. IsMadeOf mid base (OfNet x)) [
      | inl k ↦ made_more mid old base grows (all x (Contains-append_left (control_nets old.enable) own x (subst (λ (e : Bool). Contains (control_nets e) x) grows.enable k)))
      | inr k ↦ two_made mid base now next (made_more mid old base grows (pixel_made now at)) (made_more mid one base g (c.made_of base pixel_made)) x k
    ])
    (λ m s part settled.
    ap (λ (e : Bool). taken e first (net_value s now) (net_value s next) s) grows.enable
    ∙ ap (λ (v : ℕ). taken old.enable first (net_value s now) v s) (c.value m s (Includes-trans m mid one (Includes-trans m new mid part f) g) settled))
  where
    two_made : (b : Netlist) (base : Holder → Bool) (y z : Net) → IsMadeOf b base (OfNet y) → IsMadeOf b base (OfNet z) → AreMadeOf b base (y ∷ (z ∷ []))
    two_made b base y z p q x (zero, l, e) = subst (λ (w : Net). IsMadeOf b base (OfNet w)) e p
    two_made b base y z p q x (suc zero, l, e) = subst (λ (w : Net). IsMadeOf b base (OfNet w)) e q
    two_made b base y z p q x (suc (suc k), l, e) = absurd (omega (arith, l))
