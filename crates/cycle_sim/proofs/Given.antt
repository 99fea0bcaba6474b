-- What the ports are given, and what is shown of a clock.
use Rattle.std.proofs.Common.{◌≡◌, ℕ, ◌*◌, ◌^◌, ◌<◌, Bool, true, false, List, [], ◌∷◌, length, drop, refl, ap, sym, subst, ◌∙◌, arith, Some, lit<}
use Rattle.std.specs.Prelude.{All, if◌then◌else◌, slice_get}
use Rattle.std.proofs.lemmas.Option.{slice_get_within, same_Some}
use Rattle.wiring.specs.Netlist.{Netlist}
use Rattle.wiring.specs.Snapshot.{Snapshot, Fit}
use Rattle.wiring.specs.Clock.{Clock, bit, given}
use Rattle.wiring.specs.Rules.{KeepsRules, ArePorts, IsPortCount, IsPortWidth, with_valids}
use Rattle.cycle_sim.specs.declared.ports.Out.{Out}
use Rattle.cycle_sim.specs.OneClock.{port_values}
use Rattle.cycle_sim.specs.Ports.{din_widths, out_of, IsShown, AreShown}

bit_fits : (b : Bool) → bit b < 2 ^ 1
bit_fits true = lit< tt
bit_fits false = lit< tt

fit_by : (enable : Bool) (inputs outputs : List ℕ) → ArePorts enable inputs outputs → (r e : Bool) (dins : List ℕ) → Fit (drop (if enable then 2 else 1) inputs) dins → Fit inputs (port_values enable r e dins)
fit_by true inputs outputs ports r e dins h =
    subst (λ (l : List ℕ). Fit l (bit r ∷ bit e ∷ dins)) (sym ports.inputs_are) (bit_fits r, (bit_fits e, subst (λ (l : List ℕ). Fit (drop 2 l) dins) ports.inputs_are h))
fit_by false inputs outputs ports r e dins h =
    subst (λ (l : List ℕ). Fit l (bit r ∷ dins)) (sym ports.inputs_are) (bit_fits r, subst (λ (l : List ℕ). Fit (drop 1 l) dins) ports.inputs_are h)

-- where each din fits its port, all inputs fit theirs
pub given_fit : (m : Netlist) → KeepsRules m → (c : Clock) → Fit (din_widths m) c.dins → Fit m.inputs (given m c)
given_fit m rules c fits = fit_by m.enable m.inputs m.outputs rules.ports c.reset c.enable c.dins fits

dins_are : (enable : Bool) (inputs outputs : List ℕ) (p : ArePorts enable inputs outputs) → drop (if enable then 2 else 1) inputs ≡ p.dins
dins_are true inputs outputs p = ap (λ z. drop 2 z) p.inputs_are
dins_are false inputs outputs p = ap (λ z. drop 1 z) p.inputs_are

-- there are 1 to 8 dins, each of 1 to 16 bits
pub din_ports : (m : Netlist) → KeepsRules m → IsPortCount (length (din_widths m)) × All IsPortWidth (din_widths m)
din_ports m rules =
    let e = dins_are m.enable m.inputs m.outputs rules.ports in
    (subst (λ z. IsPortCount (length z)) (sym e) rules.ports.din_count, subst (λ z. All IsPortWidth z) (sym e) rules.ports.din_widths)

-- each output has two ports
pub valids_even : (douts : List ℕ) → length (with_valids douts) ≡ 2 * length douts
valids_even [] = refl
valids_even (w ∷ douts) = omega (arith, valids_even douts)

-- what is shown of them
pub one_shown : (s : Snapshot) (values : List ℕ) (k : ℕ) (out : Out) → values ≡ s.outputs → out ≡ out_of values k → IsShown s k out
one_shown s values k out e f =
    subst (λ (o : Out). IsShown s k o) (sym f) (subst (λ (l : List ℕ). IsShown s k (out_of l k)) (sym e) (record { valid = refl; dout = refl }))

pub are_shown : (s : Snapshot) (values : List ℕ) (outs : List Out) → values ≡ s.outputs → length values ≡ 2 * length outs →
    ((k : ℕ) → k < length outs → slice_get outs k ≡ Some (out_of values k)) → AreShown s outs
are_shown s values outs e n each = record {
  count = ap length (sym e) ∙ n;
  each = λ k out at. one_shown s values k out e (same_Some out (out_of values k) (sym at ∙ each k (slice_get_within outs k out at)));
}
