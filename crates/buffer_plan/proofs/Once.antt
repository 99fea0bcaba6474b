-- A system has one least vector, and one limit that it passes first.
use Rattle.std.proofs.Common.{◌≡◌, ◌⊎◌, ◌∙◌, ℕ, ◌<◌, List, length, inl, inr, refl, sym, ap, arith}
use Rattle.std.proofs.lemmas.List.{ext_get_or}
use Rattle.raster_delay.specs.Systems.{System, image_count, bits}
use Rattle.flow_dual.specs.Solutions.{IsLeastVector}
use Rattle.buffer_plan.specs.declared.fault.PlanFault.{PlanFault}
use Rattle.buffer_plan.specs.declared.fault.PlanFault.TheVariants.{Bits, Latency, OutOfMemory}
use Rattle.buffer_plan.specs.Limits.{latency_in, KeepsLimits, IsPlanFault}

pub vector_once : (s : System) (d e : List ℕ) → IsLeastVector s d → IsLeastVector s e → d ≡ e
vector_once s d e h k =
    let low = h.least_bits e k.causal in
    let high = k.least_bits d h.causal in
    let same : bits s d ≡ bits s e = omega (arith, low, high) in
    let long : length d ≡ image_count s = h.causal.one_each in
    let wide : length e ≡ image_count s = k.causal.one_each in
    ext_get_or 0 d e (omega (arith, long, wide)) (λ i lt.
    let below : i < image_count s = omega (arith, lt, long) in
    let one = h.least e k.causal (sym same) i below in
    let other = k.least d h.causal same i below in
    omega (arith, one, other))

bits_once : (s : System) (d e : List ℕ) → IsLeastVector s d → IsLeastVector s e → bits s d ≡ bits s e
bits_once s d e h k = ap (bits s) (vector_once s d e h k)

latency_once : (s : System) (d e : List ℕ) → IsLeastVector s d → IsLeastVector s e → latency_in s d ≡ latency_in s e
latency_once s d e h k = ap (latency_in s) (vector_once s d e h k)

pub limits_apart : (s : System) (f : PlanFault) → KeepsLimits s → IsPlanFault s f → f ≡ OutOfMemory
limits_apart s (Bits n) h is =
    let few = h.within.few_bits in
    let told = is.passes.0 in
    let passes = is.passes.1 in
    absurd (omega (arith, few, passes, told, bits_once s h.delays_are is.delays_are h.vector is.vector))
limits_apart s (Latency n) h is =
    let short = h.within.short in
    let told = is.passes.1 in
    let passes = is.passes.2 in
    absurd (omega (arith, short, passes, told, latency_once s h.delays_are is.delays_are h.vector is.vector))
limits_apart s OutOfMemory h is = refl

pub fault_once : (s : System) (f g : PlanFault) → IsPlanFault s f → IsPlanFault s g → (f ≡ OutOfMemory) ⊎ (g ≡ OutOfMemory) ⊎ (f ≡ g)
fault_once s OutOfMemory g h k = inl refl
fault_once s (Bits m) OutOfMemory h k = inr (inl refl)
fault_once s (Latency m) OutOfMemory h k = inr (inl refl)
fault_once s (Bits m) (Bits n) h k = inr (inr (ap Bits (h.passes.0 ∙ (bits_once s h.delays_are k.delays_are h.vector k.vector ∙ sym k.passes.0))))
fault_once s (Bits m) (Latency n) h k =
    let told = h.passes.0 in
    let passes = h.passes.1 in
    let few = k.passes.0 in
    absurd (omega (arith, told, passes, few, bits_once s h.delays_are k.delays_are h.vector k.vector))
fault_once s (Latency m) (Bits n) h k =
    let told = k.passes.0 in
    let passes = k.passes.1 in
    let few = h.passes.0 in
    absurd (omega (arith, told, passes, few, bits_once s h.delays_are k.delays_are h.vector k.vector))
fault_once s (Latency m) (Latency n) h k = inr (inr (ap Latency (h.passes.1 ∙ (latency_once s h.delays_are k.delays_are h.vector k.vector ∙ sym k.passes.1))))
