use Rattle.std.proofs.Common.{◌≤◌, ℕ, List, slice_index, arith, ap, ◌∙◌, inl, inr}
use Rattle.std.proofs.lemmas.Bool.{cases_lt}
use Rattle.std.proofs.lemmas.List.{get_or_past}
use Rattle.std.proofs.lemmas.List.Elements.{All-from_recursion, recursion_from_All}
use Rattle.raster_delay.specs.Network.{Holds}
use Rattle.raster_delay.specs.Delays.{begin_of}
use Rattle.raster_delay.specs.Systems.{IsCausal, image_count, placed_reads, constraints_in}
use Rattle.raster_delay.proofs.Bridge.{holds_causal, numbers_of, numbers_hold, begins_of}
use Rattle.raster_delay.proofs.Early.{growing, growing_causal, growing_small}
use Rattle.raster_delay.proofs.Places.{system_form}
use Rattle.raster_delay.proofs.numbers.earliest.Goals as goal

pub returns : goal.returns
returns c =
    let s = c.args.system.now in
    let form = system_form s c.law.ensures in
    let told = c.in_ok-numbers.ensures in
    let p = c.in_ok-numbers.numbers.items in
    let value = c.deref.ensures.value in
    let delays = c.in_ok-delays.delays.items in
    let reads = placed_reads s in
    let images = image_count s in
    let inputs = s.stencils.inputs in
    let row = s.stencils.width in
    let least : (d : List ℕ) → IsCausal s d → (k : ℕ) → slice_index delays k ≤ slice_index d k = λ d causal k. elim (cases_lt k images) [
      | inl h ↦ omega (
        arith,
        c.in_ok-delays.ensures.numbers k h,
        ap (λ xs. slice_index xs (begin_of inputs k)) value,
        told.least (numbers_of row inputs images reads d)
            (All-from_recursion (Holds (numbers_of row inputs images reads d)) (constraints_in s) (numbers_hold row s.age inputs images reads form.reads_are form.some_inputs form.inputs_kept d causal))
            (begin_of inputs k),
        begins_of row inputs images reads d form.some_inputs form.inputs_kept causal.inputs_at_once k h,
      )
      | inr h ↦ omega (arith, get_or_past delays k 0 (omega (arith, h, c.in_ok-delays.ensures.length)))
    ] in
    record {
      causal = holds_causal row s.age inputs images reads form.reads_are form.some_inputs form.inputs_kept p delays
          (recursion_from_All (Holds p) (constraints_in s) told.holds) c.in_ok-delays.ensures.length
          (λ k h. c.in_ok-delays.ensures.numbers k h ∙ ap (λ xs. slice_index xs (begin_of inputs k)) value) told.zero;
      least = least;
      near = λ k. elim (cases_lt k images) [
        | inl h ↦ omega (
          arith,
          least (growing inputs images) (growing_causal row s.age inputs images reads form.reads_are form.age_limit form.inputs_kept) k,
          growing_small inputs images k h form.image_limit,
        )
        | inr h ↦ omega (arith, get_or_past delays k 0 (omega (arith, h, c.in_ok-delays.ensures.length)))
      ];
    }
