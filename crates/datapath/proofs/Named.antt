-- The net of an operand.
use Rattle.std.proofs.Common.{ℕ, ◌≡◌, ℤ, ap, refl, subst, sym, ◌∙◌}
use Rattle.dk_base.specs.declared.ty.Ty.{Ty}
use Rattle.dk_base.specs.Types.{IsType, width_of}
use Rattle.dk_base.specs.Numbers.{number}
use Rattle.datapath.specs.Nets.{IsPartOf, IsWord, HasWidth, bits_of}
use Rattle.wiring.specs.Snapshot.{Snapshot}
use Rattle.datapath.proofs.Growth.{part_on}
use Rattle.wiring.specs.declared.netlist.Net.{Net}
use Rattle.datapath.specs.declared.operand.Signal.TheVariants as signal
use Rattle.wiring.specs.Netlist.{Netlist}
use Rattle.datapath.specs.declared.operand.Operand.{Operand}
use Rattle.datapath.specs.Operands.{Carries}

pub named_carries : (b c : Netlist) (x : Operand) (net : Net) (t : Ty) (w : ℕ) (f : Snapshot → ℤ) → w ≡ width_of x.ty → IsPartOf b c → Carries b x t f → IsWord c (signal.Net net) w (λ nets. bits_of nets x.bits) →
    Carries c (record { bits = signal.Net net; ty = t }) t f
named_carries b c x net t w f e bc h word =
    let W : ℕ → Type 0 = λ n. HasWidth c (signal.Net net) n in
    let T : Ty → Type 0 = λ u. IsType u in
    record {
      is = refl;
      operand = record { ty = subst T h.is h.operand.ty; width = subst W (e ∙ ap width_of h.is) word.width };
      value = λ later nets grows holds.
          ap (number t) (word.value later nets grows holds) ∙ sym (ap (λ u. number u (bits_of nets x.bits)) h.is) ∙ h.value later nets (part_on b c later bc grows) holds;
    }
