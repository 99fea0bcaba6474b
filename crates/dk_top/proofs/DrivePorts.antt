-- The ports, the power-up and the latency of a compiled module.
use Rattle.std.proofs.Common.{◌≡◌, ℕ, zero, suc, ◌+◌, ◌*◌, ◌/◌, ◌^◌, ◌<◌, ◌≤◌, Bool, true, false, if◌then◌else◌, List, [], ◌∷◌, length, map, drop, Some, slice_get, slice_index, slice_index_or, refl, sym, ap, ◌∙◌, subst, arith}
use Rattle.std.specs.List.{All, AllZip}
use Rattle.std.proofs.lemmas.List.{length-map, length-replicate}
use Rattle.std.proofs.lemmas.List.Elements.{All-nil, All-cons, All-replicate}
use Rattle.std.proofs.lemmas.Nat.{pow_pos, div-mul-add}
use Rattle.dk_base.specs.declared.ty.Ty.{Ty}
use Rattle.dk_base.specs.declared.ty.Ty.TheVariants.{Unsigned}
use Rattle.dk_base.specs.declared.stencils.Image.{Image}
use Rattle.dk_base.specs.Types.{IsPort, width_of}
use Rattle.dk_base.specs.Stencils.{place}
use Rattle.dk_types.specs.declared.typed.TypedInput.{TypedInput}
use Rattle.dk_types.specs.Typed.{Typing, types_of}
use Rattle.dk_types.specs.Kept.{IsTyped, ArePorts, IsOutputOf, AreOutputsOf}
use Rattle.wiring.specs.declared.netlist.Shape.{Shape}
use Rattle.wiring.specs.Netlist.{Netlist, net_width, dout_net, first_din}
use Rattle.wiring.specs.Rules.{with_valids}
use Rattle.wiring.specs.Snapshot.{Fit, FitsContents}
use Rattle.pointwise_ir.specs.declared.program.Input.{Input}
use Rattle.pointwise_ir.specs.Programs.{Program}
use Rattle.buffer_plan.specs.Limits.{greatest_delay}
use Rattle.buffer_plan.specs.Plans.{Plan, latency, latency_of}
use Rattle.circuit.specs.Rounds.{type_at}
use Rattle.circuit.specs.Behaviour.{HasPorts}
use Rattle.circuit.specs.Driven.{input_widths}
use Rattle.cycle_sim.specs.declared.fill.Fill.{Fill}
use Rattle.cycle_sim.specs.declared.fill.Fill.TheVariants.{Zeros, Ones}
use Rattle.cycle_sim.specs.Filled.{filled_contents, fill_value, filled_words}
use Rattle.cycle_sim.specs.Ports.{din_widths}
use Rattle.program_images.specs.Ports.{bits_of}
use Rattle.dk_compile.specs.Fronts.{IsForm}
use Rattle.stimulus.specs.Showing.{output_count}
use Rattle.stimulus.proofs.Streams.{map_at, read_at}
use Rattle.dk_top.proofs.DriveRounds.{HasPortTypes}

-- the dins
pub widths_are : (m : Netlist) (ir : Program) → HasPorts m ir m.enable → din_widths m ≡ input_widths ir
widths_are m ir ports = ap (drop (first_din m)) ports.inputs ∙ by m.enable
  where
    by : (e : Bool) → drop (if e then 2 else 1) (1 ∷ (if e then 1 ∷ input_widths ir else input_widths ir)) ≡ input_widths ir
    by true = refl
    by false = refl

-- each output has two ports
pub two_each : (ws : List ℕ) → length (with_valids ws) ≡ length ws * 2
two_each [] = refl
two_each (w ∷ ws) = let e = two_each ws in omega (arith, e)

pub count_is : (m : Netlist) (ir : Program) → HasPorts m ir m.enable → output_count m ≡ length ir.outputs
count_is m ir ports =
    let ws = map (λ g. width_of (type_at ir g)) ir.outputs in
    ap (λ (xs : List ℕ). length xs / 2) ports.outputs ∙ ap (λ n. n / 2) (two_each ws ∙ (let e : length ws * 2 ≡ length ws * 2 + 0 = omega arith in e)) ∙ div-mul-add (length ws) 2 0 (omega arith)
    ∙ length-map ir.outputs (λ g. width_of (type_at ir g))

-- the dout of output k
dout_at : (ws : List ℕ) (k : ℕ) → slice_index (with_valids ws) (2 * k + 1) ≡ slice_index ws k
dout_at [] k = refl
dout_at (w ∷ ws) zero = refl
dout_at (w ∷ ws) (suc k) = ap (slice_index (1 ∷ w ∷ with_valids ws)) (let e : 2 * suc k + 1 ≡ suc (suc (2 * k + 1)) = omega arith in e) ∙ dout_at ws k

pub output_typed : (types : List Ty) (gs : List ℕ) → AreOutputsOf types gs → (k g : ℕ) → slice_get gs k ≡ Some g → IsOutputOf types g
output_typed types [] h k g at = absurd (let e : ⊥ = cc in e)
output_typed types (x ∷ gs) h zero g at = let same : x ≡ g = cc in subst (IsOutputOf types) same h.0
output_typed types (x ∷ gs) h (suc k) g at = output_typed types gs h.1 k g at

pub dout_width : (m : Netlist) (p : Typing) (ir : Program) → HasPorts m ir m.enable → IsForm p ir → IsTyped p → (k g : ℕ) → slice_get p.outputs k ≡ Some g → net_width m (dout_net k) ≡ bits_of (types_of p) g
dout_width m p ir ports form typed k g at =
    let is = output_typed (types_of p) p.outputs typed.outputs k g at in
    let here : slice_get ir.outputs k ≡ Some g = subst (λ gs. slice_get gs k ≡ Some g) (sym form.outputs) at in
    ap (λ (xs : List ℕ). slice_index xs (2 * k + 1)) ports.outputs ∙ dout_at (map (λ h. width_of (type_at ir h)) ir.outputs) k
    ∙ read_at (map (λ h. width_of (type_at ir h)) ir.outputs) k (width_of (type_at ir g)) 0 (map_at (λ h. width_of (type_at ir h)) ir.outputs k g here)
    ∙ ap width_of (ap (λ ts. slice_index_or ts g (Unsigned 1)) form.types ∙ read_at (types_of p) g is.ty (Unsigned 1) is.image ∙ sym (read_at (types_of p) g is.ty (Unsigned 0) is.image))

-- the inputs have types of ports
port_types : (xs : List Input) (ys : List TypedInput) → map (λ (i : Input). i.ty) xs ≡ map (λ (i : TypedInput). i.ty) ys → ArePorts ys → All (λ (i : Input). IsPort i.ty) xs
port_types [] ys same ports = All-nil (λ (i : Input). IsPort i.ty)
port_types (x ∷ xs) [] same ports = absurd (let e : ⊥ = cc in e)
port_types (x ∷ xs) (y ∷ ys) same ports =
    let head : x.ty ≡ y.ty = cc in
    let tail : map (λ (i : Input). i.ty) xs ≡ map (λ (i : TypedInput). i.ty) ys = cc in
    All-cons (λ (i : Input). IsPort i.ty) x xs (subst IsPort (sym head) ports.0) (port_types xs ys tail ports.1)

pub has_port_types : (p : Typing) (ir : Program) → IsForm p ir → IsTyped p → HasPortTypes ir
has_port_types p ir form typed = port_types ir.inputs p.inputs form.inputs typed.inputs

pub widths_same : (p : Typing) (ir : Program) → IsForm p ir → map width_of (map (λ (i : TypedInput). i.ty) p.inputs) ≡ input_widths ir
widths_same p ir form = ap (map width_of) (sym form.inputs) ∙ fused ir.inputs
  where
    fused : (xs : List Input) → map width_of (map (λ (i : Input). i.ty) xs) ≡ map (λ (i : Input). width_of i.ty) xs
    fused [] = refl
    fused (x ∷ xs) = ap (λ ws. width_of x.ty ∷ ws) (fused xs)

-- what is stored at power-up fits
fill_fits : (fill : Fill) (w : ℕ) → fill_value fill w < 2 ^ w
fill_fits Zeros w = pow_pos w
fill_fits Ones w = let some : 0 < 2 ^ w = pow_pos w in omega (arith, some)

regs_fit : (fill : Fill) (ws : List ℕ) → Fit ws (map (fill_value fill) ws)
regs_fit fill [] = tt
regs_fit fill (w ∷ ws) = (fill_fits fill w, regs_fit fill ws)

words_fit : (fill : Fill) (ss : List Shape) → AllZip (λ (s : Shape) words. (length words ≡ s.depth) × All (λ w. w < 2 ^ s.width) words) ss (map (filled_words fill) ss)
words_fit fill [] = tt
words_fit fill (s ∷ ss) = ((length-replicate s.depth (fill_value fill s.width), All-replicate (λ w. w < 2 ^ s.width) s.depth (fill_value fill s.width) (fill_fits fill s.width)), words_fit fill ss)

pub filled_fits : (fill : Fill) (m : Netlist) → FitsContents m (filled_contents fill m)
filled_fits fill m = record { regs = regs_fit fill m.regs; arrays = words_fit fill m.arrays }

pub power_up_fits : (m : Netlist) → FitsContents m (filled_contents Zeros m)
power_up_fits m = filled_fits Zeros m

-- no output is later than the latency, and an only one is as late
greatest_is : (images : List Image) (d gs : List ℕ) (k : ℕ) → k < length gs → slice_index d (place images (slice_index gs k)) ≤ greatest_delay images d gs
greatest_is images d [] k lt = absurd (omega arith)
greatest_is images d (g ∷ gs) zero lt = omega arith
greatest_is images d (g ∷ gs) (suc k) lt = let e = greatest_is images d gs k (omega (arith, lt)) in omega (arith, e)

only_one : (images : List Image) (d gs : List ℕ) → length gs ≡ 1 → slice_index d (place images (slice_index gs 0)) ≡ greatest_delay images d gs
only_one images d [] one = absurd (let e : ⊥ = omega (arith, one) in e)
only_one images d (g ∷ []) one = omega arith
only_one images d (g ∷ h ∷ gs) one = absurd (let e : ⊥ = omega (arith, one) in e)

pub latency_bounds : (plan : Plan) (k : ℕ) → k < length plan.system.stencils.outputs → latency_of plan k ≤ latency plan
latency_bounds plan k lt = greatest_is plan.system.stencils.images plan.delays plan.system.stencils.outputs k lt

pub latency_of_one : (plan : Plan) → length plan.system.stencils.outputs ≡ 1 → latency_of plan 0 ≡ latency plan
latency_of_one plan one = only_one plan.system.stencils.images plan.delays plan.system.stencils.outputs one
