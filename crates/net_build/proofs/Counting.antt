-- What the wires of a count compute.
use Rattle.std.proofs.Common.{◌≡◌, ℕ, ◌+◌, ◌%◌, ◌^◌, ◌<◌, ◌≤◌, ◌==◌, nat_lt, Bool, true, false, List, [], ◌∷◌, ◌++◌, refl, sym, ap, subst, ◌∙◌, inl, inr, arith, lit≤}
use Rattle.std.specs.Prelude.{if◌then◌else◌, Contains}
use Rattle.std.proofs.lemmas.Bool.{cases_lt, ne_eqb}
use Rattle.std.proofs.Math.Nat.{mod-eq_of_lt}
use Rattle.std.proofs.Math.Pow.{pow_mono, pow_pos}
use Rattle.std.proofs.lemmas.List.Elements.{Contains-append_right}
use Rattle.dk_base.specs.Numbers.{bit_count}
use Rattle.wiring.specs.declared.right.Atom.{Atom}
use Rattle.wiring.specs.declared.right.Atom.TheVariants as atom
use Rattle.wiring.specs.declared.right.Operator.TheVariants.{Add, Equal}
use Rattle.wiring.specs.declared.right.Right.TheVariants.{Binary, Choose}
use Rattle.wiring.specs.declared.netlist.Net.{Net}
use Rattle.wiring.specs.Sizes.{IsWidth}
use Rattle.wiring.specs.Netlist.{Netlist, net_width, reset_net, enable_net}
use Rattle.wiring.specs.Snapshot.{Snapshot, net_value}
use Rattle.wiring.specs.Clock.{bit}
use Rattle.net_build.specs.Includes.{Includes}
use Rattle.net_build.specs.Draft.{IsNet, IsOperand}
use Rattle.net_build.proofs.Control.{made_more, made_net}
use Rattle.net_build.proofs.Parts.{Includes-refl, Includes-trans}
use Rattle.net_build.proofs.Operands.{net_operand, constant_operand, operand_more}
use Rattle.net_build.specs.Logic.{Computes, IsGate}
use Rattle.net_build.specs.Counters.{after, control_nets, taken}
use Rattle.net_build.proofs.Logic.{Source, net_source, given_source, number_source, source_more, computes_more, computes_as, binary_computes, choose_computes, first_in, second_in}

pub one_fits : (w : ℕ) → 1 ≤ w → 1 < 2 ^ w
one_fits w h = let p : 2 ^ 1 ≤ 2 ^ w = pow_mono h in omega (arith, p)

pub one_wide : IsWidth 1
one_wide = (lit≤ tt, lit≤ tt)

pub yes_lt : (a b : ℕ) → a < b → nat_lt a b ≡ true
yes_lt a b h = grind arith

pub no_lt : (a b : ℕ) → b ≤ a → nat_lt a b ≡ false
no_lt a b h = grind arith

pub by_bit : (b : Bool) (x y : ℕ) → (if bit b == 1 then x else y) ≡ (if b then x else y)
by_bit true x y = refl
by_bit false x y = refl

-- a test for the last number, and what follows
pub after_is : (x last bits over : ℕ) → last < 2 ^ bits → bits ≡ bit_count last → (if bit (x == last) == 1 then over else (x + 1) % 2 ^ bits) ≡ (if nat_lt x last then x + 1 else if x == last then over else (x + 1) % 2 ^ bit_count last)
after_is x last bits over fits needed =
    let on : ℕ = (x + 1) % 2 ^ bit_count last in
    by_bit (x == last) over ((x + 1) % 2 ^ bits)
    ∙ ap (λ (n : ℕ). if x == last then over else (x + 1) % 2 ^ n) needed
    ∙ (elim (cases_lt x last) as (λ _. (if x == last then over else on) ≡ (if nat_lt x last then x + 1 else if x == last then over else on)) [
      | inl lt ↦
          let small : on ≡ x + 1 = mod-eq_of_lt (let f : x + 1 < 2 ^ bit_count last = subst (λ (n : ℕ). x + 1 < 2 ^ n) needed (omega (arith, lt, fits)) in f) in
          ap (λ (t : Bool). if t then over else on) (ne_eqb x last (λ e. omega (arith, e, lt))) ∙ small ∙ sym (ap (λ (t : Bool). if t then x + 1 else if x == last then over else on) (yes_lt x last lt))
      | inr ge ↦ sym (ap (λ (t : Bool). if t then x + 1 else if x == last then over else on) (no_lt x last ge))
    ])

-- a number as an operand
pub number_operand : (b : Netlist) (a : Atom Net) (bits value : ℕ) → a ≡ atom.Constant (record { width = bits; value = value }) → IsWidth bits → value < 2 ^ bits → IsOperand b a bits
number_operand b a bits value e wide fits = subst (λ (x : Atom Net). IsOperand b x bits) (sym e) (constant_operand b (record { width = bits; value = value }) bits (record { width = wide; fits = fits }) refl)

-- what follows the last number, as an operand
abbrev pub over_atom : Bool → ℕ → Net → Atom Net
over_atom wraps bits at = if wraps then atom.Constant (record { width = bits; value = 0 }) else atom.Net at

pub over_operand : (b : Netlist) (wraps : Bool) (bits : ℕ) (at : Net) (a : Atom Net) → a ≡ over_atom wraps bits at → IsWidth bits → IsOperand b (atom.Net at) bits → IsOperand b a bits
over_operand b true bits at a e wide is = number_operand b a bits 0 e wide (pow_pos bits)
over_operand b false bits at a e wide is = subst (λ (x : Atom Net). IsOperand b x bits) (sym e) is

-- an older net as an operand
pub old_operand : (b a : Netlist) (n : Net) (bits : ℕ) → Includes b a → IsNet a n → net_width a n ≡ bits → IsOperand b (atom.Net n) bits
old_operand b a n bits f is e = operand_more b a (atom.Net n) bits f (net_operand a n bits is e)

module _ (b0 b1 b2 b3 : Netlist) (at : Net) (bits last : ℕ) (wraps : Bool) (low one over : Atom Net) (ending more next : Net) (f1 : Includes b1 b0) (f2 : Includes b2 b1) (f3 : Includes b3 b2) (is : IsNet b0 at) (width : net_width b0 at ≡ bits) (wide : IsWidth bits) (fits : last < 2 ^ bits)
    (needed : bits ≡ bit_count last) (low_is : low ≡ atom.Constant (record { width = bits; value = last })) (one_is : one ≡ atom.Constant (record { width = bits; value = 1 })) (over_is : over ≡ over_atom wraps bits at) where
  abbrev from : List Net
  from = at ∷ []

  at_in : (b : Netlist) → Includes b b0 → Source b b0 from bits (λ s. net_value s at) (atom.Net at)
  at_in b f = given_source b b0 from bits at f is width (first_in at [])

  ending_is : IsGate b1 b0 (Binary Equal (atom.Net at) low) ending → Computes b1 b0 from 1 (λ s. bit (net_value s at == last)) ending
  ending_is g = binary_computes b1 b0 b0 from f1 bits Equal (λ s. net_value s at) (λ s. last) (atom.Net at) low ending (at_in b0 (Includes-refl b0)) (number_source b0 b0 from bits last low low_is (record { width = wide; fits = fits })) g

  more_is : IsGate b2 b1 (Binary Add (atom.Net at) one) more → Computes b2 b0 from bits (λ s. (net_value s at + 1) % 2 ^ bits) more
  more_is g = binary_computes b2 b1 b0 from f2 bits Add (λ s. net_value s at) (λ s. 1) (atom.Net at) one more (at_in b1 f1) (number_source b1 b0 from bits 1 one one_is (record { width = wide; fits = one_fits bits wide.0 })) g

  over_in2 : Source b2 b0 from bits (λ s. if wraps then 0 else net_value s at) over
  over_in2 = by wraps over_is
    where
      by : (w : Bool) → over ≡ over_atom w bits at → Source b2 b0 from bits (λ s. if w then 0 else net_value s at) over
      by true e = number_source b2 b0 from bits 0 over e (record { width = wide; fits = pow_pos bits })
      by false e = subst (λ (a : Atom Net). Source b2 b0 from bits (λ s. net_value s at) a) (sym e) (at_in b2 (Includes-trans b2 b1 b0 f2 f1))

  module _ (g1 : IsGate b1 b0 (Binary Equal (atom.Net at) low) ending) (g2 : IsGate b2 b1 (Binary Add (atom.Net at) one) more) where
    ending_in : Source b2 b0 from 1 (λ s. bit (net_value s at == last)) (atom.Net ending)
    ending_in = source_more b2 b1 b0 from 1 (λ s. bit (net_value s at == last)) (atom.Net ending) f2 (net_source b1 b0 from 1 (λ s. bit (net_value s at == last)) ending (ending_is g1))

    more_source : Source b2 b0 from bits (λ s. (net_value s at + 1) % 2 ^ bits) (atom.Net more)
    more_source = net_source b2 b0 from bits (λ s. (net_value s at + 1) % 2 ^ bits) more (more_is g2)

    pub ending_computes : Computes b3 b0 from 1 (λ s. bit (net_value s at == last)) ending
    ending_computes = computes_more b3 b1 b0 from 1 (λ s. bit (net_value s at == last)) ending (Includes-trans b3 b2 b1 f3 f2) (ending_is g1)

    pub next_computes : IsGate b3 b2 (Choose (atom.Net ending) over (atom.Net more)) next → Computes b3 b0 from bits (λ s. after wraps last (net_value s at)) next
    next_computes g = computes_as b3 b0 from bits bits (λ s. if bit (net_value s at == last) == 1 then (if wraps then 0 else net_value s at) else (net_value s at + 1) % 2 ^ bits) (λ s. after wraps last (net_value s at)) next refl
        (choose_computes b3 b2 b0 from f3 bits (λ s. bit (net_value s at == last)) (λ s. if wraps then 0 else net_value s at) (λ s. (net_value s at + 1) % 2 ^ bits) (atom.Net ending) over (atom.Net more) next ending_in over_in2 more_source g)
        (λ s. after_is (net_value s at) last bits (if wraps then 0 else net_value s at) fits needed)

-- an input as an operand
pub input_source : (b old : Netlist) (sources : List Net) (bits : ℕ) (n : Net) → Includes b old → IsNet b n → net_width b n ≡ bits → Contains sources n → Source b old sources bits (λ s. net_value s n) (atom.Net n)
input_source b old sources bits n f is e c = record {
  operand = net_operand b n bits is e;
  value = λ m s part settled. refl;
  made_of = λ base all. made_net b base n (made_more b old base f (all n c));
}

pub enable_in : (e : Bool) (rest : List Net) → e ≡ true → Contains (control_nets e ++ rest) enable_net
enable_in true rest h = second_in reset_net enable_net rest
enable_in false rest h = cc

pub reset_in : (e : Bool) (rest : List Net) → Contains (control_nets e ++ rest) reset_net
reset_in e rest = first_in reset_net ((if e then enable_net ∷ [] else []) ++ rest)

-- what is next unless the clock is held
abbrev pub going : Bool → (now next : Net) → Snapshot → ℕ
going e now next s = if e then (if net_value s enable_net == 1 then net_value s next else net_value s now) else net_value s next

pub held_is : (b0 b1 : Netlist) (e : Bool) (now next en n : Net) (bits : ℕ) → e ≡ true → en ≡ enable_net → Includes b1 b0 → IsNet b0 en → net_width b0 en ≡ 1 → IsNet b0 now → net_width b0 now ≡ bits → IsNet b0 next → net_width b0 next ≡ bits →
    IsGate b1 b0 (Choose (atom.Net en) (atom.Net next) (atom.Net now)) n → Computes b1 b0 (control_nets e ++ now ∷ (next ∷ [])) bits (going e now next) n
held_is b0 b1 e now next en n bits on en_is f is_en en_wide is_now now_wide is_next next_wide g =
    let rest : List Net = now ∷ (next ∷ []) in
    let from : List Net = control_nets e ++ rest in
    let same : Includes b0 b0 = Includes-refl b0 in
    let s1 : Source b0 b0 from 1 (λ s. net_value s en) (atom.Net en) = input_source b0 b0 from 1 en same is_en en_wide (subst (Contains from) (sym en_is) (enable_in e rest on)) in
    let s2 : Source b0 b0 from bits (λ s. net_value s next) (atom.Net next) = input_source b0 b0 from bits next same is_next next_wide (Contains-append_right (control_nets e) rest next (second_in now next [])) in
    let s3 : Source b0 b0 from bits (λ s. net_value s now) (atom.Net now) = input_source b0 b0 from bits now same is_now now_wide (Contains-append_right (control_nets e) rest now (first_in now (next ∷ []))) in
    computes_as b1 b0 from bits bits (λ s. if net_value s en == 1 then net_value s next else net_value s now) (going e now next) n refl
    (choose_computes b1 b0 b0 from f bits (λ s. net_value s en) (λ s. net_value s next) (λ s. net_value s now) (atom.Net en) (atom.Net next) (atom.Net now) n s1 s2 s3 g)
    (λ s. ap (λ (x : Net). if net_value s x == 1 then net_value s next else net_value s now) en_is ∙ ap (λ (t : Bool). if t then (if net_value s enable_net == 1 then net_value s next else net_value s now) else net_value s next) (sym on))

pub taken_is : (b0 b1 b2 : Netlist) (e : Bool) (now next reset then_net n : Net) (start : Atom Net) (bits first : ℕ) → reset ≡ reset_net → start ≡ atom.Constant (record { width = bits; value = first }) → IsWidth bits → first < 2 ^ bits → Includes b1 b0 → Includes b2 b1 → IsNet b1 reset → net_width b1 reset ≡ 1 →
    Computes b1 b0 (control_nets e ++ now ∷ (next ∷ [])) bits (going e now next) then_net → IsGate b2 b1 (Choose (atom.Net reset) start (atom.Net then_net)) n →
    Computes b2 b0 (control_nets e ++ now ∷ (next ∷ [])) bits (λ s. taken e first (net_value s now) (net_value s next) s) n
taken_is b0 b1 b2 e now next reset then_net n start bits first reset_is start_is wide fits f1 f2 is_reset reset_wide c g =
    let rest : List Net = now ∷ (next ∷ []) in
    let from : List Net = control_nets e ++ rest in
    let s1 : Source b1 b0 from 1 (λ s. net_value s reset) (atom.Net reset) = input_source b1 b0 from 1 reset f1 is_reset reset_wide (subst (Contains from) (sym reset_is) (reset_in e rest)) in
    let s2 : Source b1 b0 from bits (λ s. first) start = number_source b1 b0 from bits first start start_is (record { width = wide; fits = fits }) in
    computes_as b2 b0 from bits bits (λ s. if net_value s reset == 1 then first else going e now next s) (λ s. taken e first (net_value s now) (net_value s next) s) n refl
    (choose_computes b2 b1 b0 from f2 bits (λ s. net_value s reset) (λ s. first) (going e now next) (atom.Net reset) start (atom.Net then_net) n s1 s2 (net_source b1 b0 from bits (going e now next) then_net c) g)
    (λ s. ap (λ (x : Net). if net_value s x == 1 then first else going e now next s) reset_is)
