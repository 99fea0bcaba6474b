-- Nets, and the widths of sound netlists.
use Rattle.std.proofs.Common.{◌≡◌, ◌≢◌, ℕ, suc, ◌⊎◌, inl, inr, ap, subst, sym, Bool, true, false, List, [], ◌∷◌, arith, lit≤}
use Rattle.std.specs.Prelude.{All, if◌then◌else◌}
use Rattle.std.proofs.lemmas.List.Elements.{All-weaker, All-cons}
use Rattle.std.proofs.lemmas.Bool.{cases_eq}
use Rattle.wiring.specs.declared.netlist.Net.{Net}
use Rattle.wiring.specs.declared.netlist.Net.TheVariants.{Input, Output, Wire, Reg}
use Rattle.wiring.specs.Netlist.{Netlist, net_width, IsDeclared, IsDriven}
use Rattle.wiring.specs.declared.netlist.Holder.{Holder}
use Rattle.wiring.specs.declared.netlist.Holder.TheVariants.{OfNet, OfArray}
use Rattle.wiring.specs.Sizes.{IsWidth}
use Rattle.wiring.specs.Rules.{KeepsRules, ArePorts, IsPortWidth, with_valids}

-- two nets are one or not
pub net_cases : (a b : Net) → (a ≡ b) ⊎ (a ≢ b)
net_cases (Input i) (Input j) = elim (cases_eq i j) [ inl e ↦ inl (ap (λ z. Input z) e) | inr n ↦ inr (λ e. n (let f : Input i ≡ Input j = e in cc)) ]
net_cases (Output i) (Output j) = elim (cases_eq i j) [ inl e ↦ inl (ap (λ z. Output z) e) | inr n ↦ inr (λ e. n (let f : Output i ≡ Output j = e in cc)) ]
net_cases (Wire i) (Wire j) = elim (cases_eq i j) [ inl e ↦ inl (ap (λ z. Wire z) e) | inr n ↦ inr (λ e. n (let f : Wire i ≡ Wire j = e in cc)) ]
net_cases (Reg i) (Reg j) = elim (cases_eq i j) [ inl e ↦ inl (ap (λ z. Reg z) e) | inr n ↦ inr (λ e. n (let f : Reg i ≡ Reg j = e in cc)) ]
net_cases a b = inr (λ e. cc)

pub holder_cases : (a b : Holder) → (a ≡ b) ⊎ (a ≢ b)
holder_cases (OfNet n) (OfNet k) = elim (net_cases n k) [ inl e ↦ inl (ap (λ z. OfNet z) e) | inr ne ↦ inr (λ e. ne (let f : OfNet n ≡ OfNet k = e in cc)) ]
holder_cases (OfArray i) (OfArray j) = elim (cases_eq i j) [ inl e ↦ inl (ap (λ z. OfArray z) e) | inr n ↦ inr (λ e. n (let f : OfArray i ≡ OfArray j = e in cc)) ]
holder_cases a b = inr (λ e. cc)

-- a port has 1 to 64 bits
module _ (enable : Bool) (inputs outputs : List ℕ) (ports : ArePorts enable inputs outputs) where
  as_port : (w : ℕ) → IsPortWidth w → IsWidth w
  as_port w h = (h.0, omega (arith, h.1))

  one : IsWidth 1
  one = (lit≤ tt, lit≤ tt)

  front : (ws : List ℕ) → All IsWidth ws → (b : Bool) → All IsWidth (1 ∷ (if b then 1 ∷ ws else ws))
  front ws all true = All-cons IsWidth 1 (1 ∷ ws) one (All-cons IsWidth 1 ws one all)
  front ws all false = All-cons IsWidth 1 ws one all

  pub input_widths : All IsWidth inputs
  input_widths = subst (All IsWidth) (sym ports.inputs_are) (front ports.dins (All-weaker IsPortWidth IsWidth as_port ports.dins ports.din_widths) enable)

  paired : (ws : List ℕ) → All IsPortWidth ws → All IsWidth (with_valids ws)
  paired [] all k d l = absurd (omega (arith, l))
  paired (w ∷ ws) all k d l = All-cons IsWidth 1 (w ∷ with_valids ws) one (All-cons IsWidth w (with_valids ws) (as_port w (all 0 w (omega arith))) (paired ws (λ j e g. all (suc j) e (omega (arith, g))))) k d l

  pub output_widths : All IsWidth outputs
  output_widths = subst (All IsWidth) (sym ports.outputs_are) (paired ports.douts ports.dout_widths)

-- a declared net has 1 to 64 bits
pub width_within : (m : Netlist) (n : Net) → KeepsRules m → IsDeclared m n → IsWidth (net_width m n)
width_within m (Input i) rules d = input_widths m.enable m.inputs m.outputs rules.ports i 0 d
width_within m (Output i) rules d = output_widths m.enable m.inputs m.outputs rules.ports i 0 d
width_within m (Wire i) rules d = rules.wires i 0 d
width_within m (Reg i) rules d = rules.regs i 0 d

pub driven_declared : (m : Netlist) (n : Net) → IsDriven m n → IsDeclared m n
driven_declared m (Input i) d = absurd d
driven_declared m (Output i) d = d
driven_declared m (Wire i) d = d
driven_declared m (Reg i) d = absurd d
