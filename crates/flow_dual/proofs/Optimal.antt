-- Numbers that keep each constraint, are tight where there is flow, and are the least of these, are the least vector of least bits.
use Rattle.std.proofs.Common.{◌≡◌, ◌<◌, ◌≤◌, ℕ, pos, List, length, slice_index, ◌+◌, refl, ap, sym, ◌∙◌, arith, inl, inr}
use Rattle.std.specs.Prelude.{◌+ℤ◌}
use Rattle.std.specs.List.{AllByRecursion}
use Rattle.std.proofs.lemmas.Int.{ints}
use Rattle.std.proofs.lemmas.Bool.{cases_lt}
use Rattle.std.proofs.lemmas.List.{get_or_past}
use Rattle.std.proofs.lemmas.List.Elements.{All-from_recursion, recursion_from_All}
use Rattle.raster_delay.specs.Network.{Holds, objective}
use Rattle.raster_delay.specs.Delays.{begin_of, end_of, IsForm}
use Rattle.raster_delay.specs.Systems.{System, IsSystem, IsCausal, image_count, widths, placed_reads, nodes, constraints_in, buffers, bits, depth, worth_of}
use Rattle.raster_delay.proofs.Duality.{bits_are, spare, spare-complementary, complementary-spare}
use Rattle.raster_delay.proofs.Within.{within_all, keeps_all, numbers_keep, numbers_objective}
use Rattle.raster_delay.proofs.Places.{system_form}
use Rattle.raster_delay.proofs.Bridge.{holds_causal, holds_room, objective-least, numbers_of, begins_of, ends_of}
use Rattle.raster_delay.specs.declared.placed.PlacedRead.{PlacedRead}
use Rattle.flow_dual.specs.declared.solution.Solution.{Solution}
use Rattle.flow_dual.specs.Solutions.{IsOptimum, IsSolution}

module _ (s : System) (is : IsSystem s) (p flow : List ℕ) (best : IsOptimum s p flow) (x : Solution) (same_flow : x.flow ≡ flow)
    (size : length x.delays ≡ image_count s) (begins : (k : ℕ) → k < image_count s → slice_index x.delays k ≡ slice_index p (begin_of s.stencils.inputs k))
    (end_size : length x.ends ≡ image_count s) (ends : (k : ℕ) → k < image_count s → slice_index x.ends k ≡ slice_index p (end_of s.stencils.inputs (image_count s) k)) where
  abbrev row : ℕ
  row = s.stencils.width

  abbrev inputs : ℕ
  inputs = s.stencils.inputs

  abbrev images : ℕ
  images = image_count s

  abbrev reads : List PlacedRead
  reads = placed_reads s

  form : IsForm s.stencils.width s.age s.stencils.inputs (image_count s) (widths s) (placed_reads s)
  form = system_form s is

  held : AllByRecursion (Holds p) (constraints_in s)
  held = recursion_from_All (Holds p) (constraints_in s) best.holds

  delays_causal : IsCausal s x.delays
  delays_causal = holds_causal row s.age inputs images reads form.reads_are form.some_inputs form.inputs_kept p x.delays held size begins best.inputs_at_once

  room : (k : ℕ) → k < image_count s → slice_index x.delays k + depth s x.delays k ≤ slice_index p (end_of s.stencils.inputs (image_count s) k)
  room = holds_room row s.age inputs images reads form.reads_are form.some_inputs form.inputs_kept p x.delays held size begins

  of_flow : (q : List ℕ) → AllByRecursion (Holds q) (constraints_in s) → worth_of s flow +ℤ pos (spare (constraints_in s) flow q) ≡ pos (objective (buffers s) q)
  of_flow q keeps = bits_are (nodes s) (constraints_in s) (buffers s) flow q (within_all row s.age inputs images (widths s) reads form) best.balanced
      (keeps_all row s.age inputs images (widths s) reads form q keeps)

  -- the worth is the objective of these numbers, and at most that of any
  worth_objective : worth_of s flow ≡ pos (objective (buffers s) p)
  worth_objective = omega (arith, ints, of_flow p held, spare-complementary (constraints_in s) flow p best.carries)

  others_objective : (d : List ℕ) → IsCausal s d → objective (buffers s) p + spare (constraints_in s) flow (numbers_of row inputs images reads d) ≡ bits s d
  others_objective d causal = omega (
    arith,
    ints,
    worth_objective,
    numbers_objective row s.age inputs images (widths s) reads form d causal,
    of_flow (numbers_of row inputs images reads d) (numbers_keep row s.age inputs images (widths s) reads form d causal),
  )

  delays_objective : bits s x.delays ≤ objective (buffers s) p
  delays_objective = objective-least inputs images row x.delays reads p 0 (widths s) (λ k _ h.
      omega (arith, room k (omega (arith, form.one_width_each, h)), begins k (omega (arith, form.one_width_each, h))))

  bits_objective : bits s x.delays ≡ objective (buffers s) p
  bits_objective = omega (arith, delays_objective, others_objective x.delays delays_causal)

  below : (d : List ℕ) → IsCausal s d → bits s d ≡ bits s x.delays → (v : ℕ) → v < nodes s → slice_index p v ≤ slice_index (numbers_of row inputs images reads d) v
  below d causal same =
      let keeps = numbers_keep row s.age inputs images (widths s) reads form d causal in
      best.least (numbers_of row inputs images reads d) (All-from_recursion (Holds (numbers_of row inputs images reads d)) (constraints_in s) keeps)
      (complementary-spare (constraints_in s) flow (numbers_of row inputs images reads d) keeps (omega (arith, others_objective d causal, bits_objective, same)))

  begin_is : (d : List ℕ) → IsCausal s d → (k : ℕ) → k < image_count s → slice_index (numbers_of row inputs images reads d) (begin_of s.stencils.inputs k) ≡ slice_index d k
  begin_is d causal k h = begins_of row inputs images reads d form.some_inputs form.inputs_kept causal.inputs_at_once k h

  end_is : (d : List ℕ) → (k : ℕ) → k < image_count s → slice_index (numbers_of row inputs images reads d) (end_of s.stencils.inputs (image_count s) k) ≡ slice_index d k + depth s d k
  end_is d k h = ends_of row inputs images reads d form.some_inputs form.inputs_kept k h

  pub solution_of : IsSolution s x
  solution_of = record {
    vector = record {
      causal = delays_causal;
      least_bits = λ d causal. omega (arith, bits_objective, others_objective d causal);
      least = λ d causal same k h. omega (arith, begins k h, below d causal same (begin_of s.stencils.inputs k) (omega (arith, h, form.inputs_kept)), begin_is d causal k h);
    };
    ends_are = λ k h. omega (arith, ends k h, room k h, below x.delays delays_causal refl (end_of s.stencils.inputs (image_count s) k) (omega (arith, h)), end_is x.delays k h);
    one_end_each = end_size;
    balanced = rw same_flow best.balanced;
    worth_is = rw same_flow (worth_objective ∙ ap pos (sym bits_objective));
    near = λ k. elim (cases_lt k (image_count s)) [
      | inl h ↦ omega (arith, begins k h, best.near (begin_of s.stencils.inputs k))
      | inr h ↦ omega (arith, get_or_past x.delays k 0 (omega (arith, h, size)))
    ];
  }
