-- Operands that a bit lets through, and leaves in a later builder.
use Rattle.std.proofs.Common.{ℕ, ◌≡◌, ◌-◌, ◌<◌, Bool, true, false, nat_eq, if◌then◌else◌, pos, ap, refl, subst, ◌∙◌, List}
use Rattle.std.proofs.lemmas.Nat.{pow_pos}
use Rattle.dk_base.specs.declared.ty.Ty.{Ty}
use Rattle.dk_base.specs.declared.ty.Ty.TheVariants.{Unsigned, Signed}
use Rattle.dk_base.specs.Types.{width_of, above}
use Rattle.dk_base.specs.Numbers.{number}
use Rattle.dk_base.proofs.Codes.{number_low}
use Rattle.datapath.specs.Nets.{IsPartOf, Grows, HasWidth, IsWord, bits_of}
use Rattle.wiring.specs.Snapshot.{Snapshot, net_value}
use Rattle.datapath.proofs.Growth.{width_later, net_has}
use Rattle.wiring.specs.declared.netlist.Net.{Net}
use Rattle.datapath.specs.declared.operand.Signal.{Signal}
use Rattle.datapath.specs.declared.operand.Signal.TheVariants as signal
use Rattle.wiring.specs.Netlist.{Netlist}
use Rattle.datapath.specs.declared.operand.Operand.{Operand}
use Rattle.datapath.specs.Operands.{IsOperand, Carries, worth}
use Rattle.net_build.specs.Draft.{ValuesFit}
use Rattle.datapath.specs.Expressions.{AreLeaves, LeavesAreOperands}
use Rattle.datapath.proofs.Carried.{operand_later, later}

above_some : (t : Ty) → 0 < above t
above_some (Unsigned n) = pow_pos n
above_some (Signed n) = pow_pos (n - 1)

through : (t : Ty) (c : Bool) (n : ℕ) → number t (if c then n else 0) ≡ (if c then number t n else pos 0)
through t true n = refl
through t false n = number_low t 0 (above_some t)

pub gated_carries : (a b : Netlist) (x : Operand) (bit : Net) (z r : Signal) (w : ℕ) → w ≡ width_of x.ty → IsOperand a x → IsPartOf a b → ((nets : Snapshot) → bits_of nets z ≡ 0) →
    IsWord b r w (λ nets. if nat_eq (net_value nets bit) 1 then bits_of nets x.bits else bits_of nets z) →
    Carries b (record { bits = r; ty = x.ty }) x.ty (λ nets. if nat_eq (net_value nets bit) 1 then worth nets x else pos 0)
gated_carries a b x bit z r w e ox ab nothing word =
    let W : ℕ → Type 0 = λ n. HasWidth b r n in
    record {
      is = refl;
      operand = record { ty = ox.ty; width = subst W e word.width };
      value = λ later nets grows holds.
          ap (number x.ty) (word.value later nets grows holds ∙ ap (λ n. if nat_eq (net_value nets bit) 1 then bits_of nets x.bits else n) (nothing nets)) ∙ through x.ty (nat_eq (net_value nets bit) 1) (bits_of nets x.bits);
    }

pub leaves_later : (a b : Netlist) (reads : List (Ty × Net)) (bits : List Net) → Grows a b → LeavesAreOperands a reads bits → LeavesAreOperands b reads bits
leaves_later a b reads bits grows h = record {
  operand = λ k leaf e. operand_later a b (record { bits = signal.Net leaf.1; ty = leaf.0 }) grows (h.operand k leaf e);
  one_bit = λ k n e. width_later a b (signal.Net n) 1 grows (h.one_bit k n e);
}

-- the nets of leaves fit their widths
pub leaves_have : (b : Netlist) (reads : List (Ty × Net)) (bits : List Net) → ValuesFit b → AreLeaves b reads bits → LeavesAreOperands b reads bits
leaves_have b reads bits fit h = record {
  operand = λ k leaf e. record { ty = h.read_type k leaf e; width = net_has b leaf.1 (width_of leaf.0) fit (h.read_net k leaf e) (h.read_width k leaf e) };
  one_bit = λ k n e. net_has b n 1 fit (h.bit_net k n e) (h.bit_width k n e);
}

pub ruleset leaves = (later, leaves_later)
