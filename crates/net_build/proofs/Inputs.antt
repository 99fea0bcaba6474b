-- The inputs of a draft.
use Rattle.std.proofs.Common.{◌≡◌, ℕ, suc, ◌∷◌, sym, subst, ◌∙◌, ◌+◌, ◌<◌, Bool, true, false, length, ap, arith}
use Rattle.std.specs.Prelude.{IsTrue, List, slice_index, if◌then◌else◌}
use Rattle.wiring.specs.declared.netlist.Net.TheVariants.{Input, Output}
use Rattle.wiring.specs.Netlist.{Netlist, net_width, first_din}
use Rattle.wiring.specs.Rules.{ArePorts, IsPortWidth}
use Rattle.net_build.specs.Draft.{IsNet, IsDraft}

pub input_net : (b : Netlist) (k : ℕ) → k < length b.inputs → IsNet b (Input k)
input_net b k within = record { declared = within; no_output = λ j e. (let f : Input k ≡ Output j = e in cc) }

pub rst_net : (b : Netlist) → IsDraft b → IsNet b (Input 0)
rst_net b draft = input_net b 0 (omega (arith, ap length draft.ports.inputs_are))

pub rst_width : (b : Netlist) → IsDraft b → net_width b (Input 0) ≡ 1
rst_width b draft = ap (λ (l : List ℕ). slice_index l 0) draft.ports.inputs_are

module _ (inputs outputs : List ℕ) where
  en_within : (enable : Bool) → IsTrue enable → ArePorts enable inputs outputs → 1 < length inputs
  en_within false h p = cc
  en_within true h p = omega (arith, ap length p.inputs_are)

  en_one : (enable : Bool) → IsTrue enable → ArePorts enable inputs outputs → slice_index inputs 1 ≡ 1
  en_one false h p = cc
  en_one true h p = ap (λ (l : List ℕ). slice_index l 1) p.inputs_are

  din_in : (enable : Bool) → ArePorts enable inputs outputs → (if enable then 2 else 1) + 0 < length inputs
  din_in false p = omega (arith, ap length p.inputs_are, p.din_count.0)
  din_in true p = omega (arith, ap length p.inputs_are, p.din_count.0)

pub en_net : (b : Netlist) → IsDraft b → IsTrue b.enable → IsNet b (Input 1)
en_net b draft h = input_net b 1 (en_within b.inputs b.outputs b.enable h draft.ports)

pub en_width : (b : Netlist) → IsDraft b → IsTrue b.enable → net_width b (Input 1) ≡ 1
en_width b draft h = en_one b.inputs b.outputs b.enable h draft.ports

pub din_within : (b : Netlist) → IsDraft b → first_din b + 0 < length b.inputs
din_within b draft = din_in b.inputs b.outputs b.enable draft.ports

-- each din has the width of a port
module _ (outputs : List ℕ) (k : ℕ) where
  din_wide : (enable : Bool) (inputs : List ℕ) → ArePorts enable inputs outputs → (if enable then 2 else 1) + k < length inputs → IsPortWidth (slice_index inputs ((if enable then 2 else 1) + k))
  din_wide true inputs p within =
      let at : slice_index inputs (2 + k) ≡ slice_index p.dins k = ap (λ (l : List ℕ). slice_index l (2 + k)) p.inputs_are ∙ ap (λ (j : ℕ). slice_index (1 ∷ (1 ∷ p.dins)) j) (let e : 2 + k ≡ suc (suc k) = omega arith in e) in
      subst IsPortWidth (sym at) (p.din_widths k 0 (omega (arith, within, ap length p.inputs_are)))
  din_wide false inputs p within =
      let at : slice_index inputs (1 + k) ≡ slice_index p.dins k = ap (λ (l : List ℕ). slice_index l (1 + k)) p.inputs_are ∙ ap (λ (j : ℕ). slice_index (1 ∷ p.dins) j) (let e : 1 + k ≡ suc k = omega arith in e) in
      subst IsPortWidth (sym at) (p.din_widths k 0 (omega (arith, within, ap length p.inputs_are)))

pub din_width : (b : Netlist) (k : ℕ) → IsDraft b → first_din b + k < length b.inputs → IsPortWidth (net_width b (Input (first_din b + k)))
din_width b k draft within = din_wide b.outputs k b.enable b.inputs draft.ports within
