-- A net that is 1 from some clock on.
use Rattle.std.proofs.Common.{◌≡◌, ℕ, ◌-◌, ◌^◌, ◌<◌, ◌==◌, nat_le, Bool, true, false, length, refl, sym, ap, subst, ◌∙◌, inl, inr, arith}
use Rattle.std.specs.Prelude.{if◌then◌else◌, min, [], ◌∷◌, ◌++◌, Contains}
use Rattle.std.proofs.lemmas.Bool.{cases_lt}
use Rattle.wiring.specs.declared.right.Atom.{Atom}
use Rattle.wiring.specs.declared.right.Atom.TheVariants as atom
use Rattle.wiring.specs.declared.right.Operator.TheVariants.{Equal}
use Rattle.wiring.specs.declared.right.Right.TheVariants.{Binary, Not}
use Rattle.wiring.specs.declared.netlist.Holder.{Holder}
use Rattle.wiring.specs.declared.netlist.Holder.TheVariants.{OfNet}
use Rattle.wiring.specs.declared.netlist.Net.{Net}
use Rattle.wiring.specs.declared.netlist.Net.TheVariants.{Reg}
use Rattle.wiring.specs.Sizes.{SizedNumber}
use Rattle.wiring.specs.Rights.{atom_value}
use Rattle.wiring.specs.Netlist.{Netlist, net_width, reset_net}
use Rattle.wiring.specs.Snapshot.{net_value}
use Rattle.wiring.specs.Clock.{bit}
use Rattle.wiring.specs.History.{counted}
use Rattle.net_build.specs.Includes.{Includes}
use Rattle.net_build.specs.Draft.{IsNet}
use Rattle.net_build.specs.Logic.{AddsLogic, IsGate}
use Rattle.net_build.specs.Control.{is_control}
use Rattle.net_build.specs.Depth.{IsWithin, by_itself}
use Rattle.net_build.specs.Counters.{control_nets, start_levels, Counts, AddsRegister, AddsControl, Starts}
use Rattle.net_build.proofs.Control.{in_control}
use Rattle.net_build.proofs.Depth.{within_more, within_deeper, within_net, within_constant}
use Rattle.net_build.proofs.Levels.{binary_within}
use Rattle.net_build.proofs.Counting.{reset_in}
use Rattle.net_build.proofs.Parts.{Includes-trans}
use Rattle.net_build.proofs.Grown.{width_more}
use Rattle.net_build.proofs.Runs.{reset_shown, clock_more}
use Rattle.net_build.proofs.Reading.{reads_joined}
use Rattle.net_build.proofs.Updating.{but_wires}
use Rattle.net_build.proofs.Standing.{still_wires}

pub register_adds : (new old : Netlist) (w : ℕ) → AddsRegister new old w → AddsControl new old
register_adds new old w is = record { includes = is.includes; arrays = is.arrays; reads = is.reads; updated = is.updated; still = is.still; stops = is.stops; control = is.control }

pub logic_adds : (new old : Netlist) → AddsLogic new old → AddsControl new old
logic_adds new old is = record {
  includes = is.includes;
  arrays = is.wires.arrays;
  reads = is.reads;
  updated = λ free but. but_wires new old free is.wires but;
  still = λ copies free but. still_wires new old copies free is.includes is.wires but;
  stops = is.stops;
  control = is.control;
}

pub control_on : (a b c : Netlist) → AddsControl b a → AddsControl c b → AddsControl c a
control_on a b c f g = record {
  includes = Includes-trans c b a g.includes f.includes;
  arrays = g.arrays ∙ f.arrays;
  reads = reads_joined c b a (λ x. false) g.includes g.reads f.reads;
  updated = λ free but. g.updated free (f.updated free but);
  still = λ copies free but. g.still copies free (f.still copies free but);
  stops = λ h. g.stops (f.stops h);
  control = λ copies h. g.control copies (f.control copies h);
}

-- at once
pub starts_now : (b0 b1 : Netlist) (reset n : Net) → reset ≡ reset_net → IsNet b0 reset → net_width b0 reset ≡ 1 → Includes b1 b0 → IsGate b1 b0 (Not (atom.Net reset)) n → Starts b1 0 n
starts_now b0 b1 reset n reset_is is wide grows g = record {
  shown = λ m from before c s clock since.
      let f : Includes m b0 = Includes-trans m b1 b0 clock.whole.includes grows in
      g.value m s clock.whole.includes clock.at.snapshot.settled
      ∙ ap (λ (w : ℕ). 2 ^ w - 1 - net_value s reset) (width_more m b0 f reset is.declared ∙ wide)
      ∙ ap (λ (v : ℕ). 2 ^ 1 - 1 - v) (ap (net_value s) reset_is ∙ reset_shown m from before c s clock.at)
      ∙ by c.reset (length (counted m before));
}
  where
    by : (r : Bool) (t : ℕ) → 2 ^ 1 - 1 - bit r ≡ (if r then 0 else bit (nat_le 0 t))
    by true t = refl
    by false t = ap bit (let e : true ≡ nat_le 0 t = grind arith in e)

-- it is made of rst, en and registers
pub now_depth : (b1 b0 : Netlist) (reset n : Net) → reset ≡ reset_net → IsGate b1 b0 (Not (atom.Net reset)) n → IsWithin b1 (is_control b1.enable) start_levels (OfNet n)
now_depth b1 b0 reset n e g =
    let base : Holder → Bool = is_control b1.enable in
    within_deeper (omega arith) (g.within base 0 (within_net b1 base 0 reset (by_itself (in_control b1.enable 0 reset (subst (Contains (control_nets b1.enable ++ Reg 0 ∷ [])) (sym e) (reset_in b1.enable (Reg 0 ∷ [])))))))

pub later_depth : (b2 b1 : Netlist) (count n : Net) (a : Atom Net) (number : SizedNumber) → a ≡ atom.Constant number → Includes b2 b1 → IsWithin b1 (is_control b1.enable) 1 (OfNet count) → IsGate b2 b1 (Binary Equal (atom.Net count) a) n → IsWithin b2 (is_control b2.enable) start_levels (OfNet n)
later_depth b2 b1 count n a number a_is grows depth g =
    let base : Holder → Bool = is_control b2.enable in
    let of_count : IsWithin b2 base 1 (OfNet count) = subst (λ (e : Bool). IsWithin b2 (is_control e) 1 (OfNet count)) (sym grows.enable) (within_more b2 b1 (is_control b1.enable) grows depth) in
    binary_within b2 b1 base 1 Equal (atom.Net count) a n g (within_net b2 base 1 count of_count) (within_constant b2 base 1 a number a_is)

-- where a count has come to its end
at_end : (t last : ℕ) → (if min t last == last then 1 else 0) ≡ bit (nat_le last t)
at_end t last =
    elim (cases_lt t last) as (λ _. (if min t last == last then 1 else 0) ≡ bit (nat_le last t)) [
      | inl lt ↦
          let e : (min t last == last) ≡ false = (let h : min t last ≡ t = omega (arith, lt) in subst (λ (x : ℕ). (x == last) ≡ false) (sym h) (grind (arith, lt))) in
          let l : nat_le last t ≡ false = grind (arith, lt) in
          ap (λ (b : Bool). if b then 1 else 0) e ∙ ap bit (sym l)
      | inr ge ↦
          let e : (min t last == last) ≡ true = (let h : min t last ≡ last = omega (arith, ge) in subst (λ (x : ℕ). (x == last) ≡ true) (sym h) (grind arith)) in
          let l : nat_le last t ≡ true = grind (arith, ge) in
          ap (λ (b : Bool). if b then 1 else 0) e ∙ ap bit (sym l)
    ]

pub starts_later : (b1 b2 : Netlist) (count n : Net) (a : Atom Net) (bits last : ℕ) → 0 < last → a ≡ atom.Constant (record { width = bits; value = last }) → Includes b2 b1 → Counts b1 (λ t. min t last) count → IsGate b2 b1 (Binary Equal (atom.Net count) a) n → Starts b2 last n
starts_later b1 b2 count n a bits last some a_is grows counts g = record {
  shown = λ m from before c s clock since.
      g.value m s clock.whole.includes clock.at.snapshot.settled
      ∙ ap (λ (x : Atom Net). if net_value s count == atom_value (net_value s) x then 1 else 0) a_is
      ∙ ap (λ (v : ℕ). if v == last then 1 else 0) (counts.counts m from before c s (clock_more b2 b1 m from before c s grows clock) since)
      ∙ by c.reset (length (counted m before));
}
  where
    by : (r : Bool) (t : ℕ) → (if min (if r then 0 else t) last == last then 1 else 0) ≡ (if r then 0 else bit (nat_le last t))
    by false t = at_end t last
    by true t = at_end 0 last ∙ ap bit (let e : nat_le last 0 ≡ false = grind (arith, some) in e)
