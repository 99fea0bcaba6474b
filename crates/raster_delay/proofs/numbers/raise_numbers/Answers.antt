use Rattle.std.proofs.Common.{◌≡◌, ◌<◌, ◌+◌, ◌^◌, ℕ, pos, slice_index, arith, ◌∙◌}
use Rattle.std.specs.Prelude.{map, All}
use Rattle.raster_delay.specs.Network.{Holds}
use Rattle.raster_delay.specs.Delays.{begin_count, read, keep, holds_of}
use Rattle.raster_delay.specs.Systems.{image_count, placed_reads}
use Rattle.raster_delay.specs.declared.network.Constraint.{Constraint}
use Rattle.raster_delay.proofs.Bridge.{raised_hold}
use Rattle.raster_delay.proofs.Within.{holds_parts}
use Rattle.raster_delay.proofs.Places.{system_form}
use Rattle.raster_delay.proofs.numbers.raise_numbers.Goals as goal

pub relax-requires-clause-bounds : goal.relax-requires-clause-bounds
relax-requires-clause-bounds c = rw c.requires.size c.read_constraints.ensures.bounds

pub relax-requires-2-clause-bounds : goal.relax-requires-2-clause-bounds
relax-requires-2-clause-bounds c = rw (c.relax.auto.numbers ∙ c.requires.size) c.hold_constraints.ensures.bounds

pub relax-requires-3-clause-bounds : goal.relax-requires-3-clause-bounds
relax-requires-3-clause-bounds c = rw (c.relax-2.auto.numbers ∙ c.relax.auto.numbers ∙ c.requires.size) c.keep_constraints.ensures.bounds

pub relax-requires-2-clause-numbers : goal.relax-requires-2-clause-numbers
relax-requires-2-clause-numbers c = λ v. omega (arith, c.relax.ensures.near 0 (λ w. omega (arith, c.requires.zero w)) v)

pub relax-requires-3-clause-numbers : goal.relax-requires-3-clause-numbers
relax-requires-3-clause-numbers c = λ v.
    omega (arith, c.relax-2.ensures.near (2 ^ 39) (λ u. omega (arith, c.relax.ensures.near 0 (λ w. omega (arith, c.requires.zero w)) u)) v)

pub returns : goal.returns
returns c =
    let s = c.args.system.now in
    let form = system_form s c.law.ensures in
    let w = s.stencils.width in
    let inputs = s.stencils.inputs in
    let images = image_count s in
    let reads = placed_reads s in
    let p1 = c.relax.new.numbers in
    let p2 = c.relax-2.new.numbers in
    let p3 = c.relax-3.new.numbers in
    let none : Constraint = record { source = 0; target = 0; cost = pos 0 } in
    let reads_hold : All (Holds p1) (map (read w s.age inputs) reads) = rw (← c.read_constraints.ensures.items) c.relax.ensures.holds in
    let holds_hold : All (Holds p2) (holds_of inputs images) = rw (← c.hold_constraints.ensures.items) c.relax-2.ensures.holds in
    let keeps_hold : All (Holds p3) (map (keep w inputs images) reads) = rw (← c.keep_constraints.ensures.items) c.relax-3.ensures.holds in
    let first : (v : ℕ) → v < begin_count inputs images → slice_index p2 v ≡ slice_index p1 v = λ v h.
    c.relax-2.ensures.others v (λ i lt e. omega (arith, c.hold_constraints.ensures.ends i none lt, h, e)) in
    let second : (v : ℕ) → v < begin_count inputs images → slice_index p3 v ≡ slice_index p2 v = λ v h.
    c.relax-3.ensures.others v (λ i lt e. omega (arith, c.keep_constraints.ensures.ends i none lt, h, e)) in
    let some : 0 < begin_count inputs images = omega (arith, form.inputs_kept) in
    let zero_at : slice_index p3 0 ≡ 0 = second 0 some ∙ first 0 some
    ∙ c.relax.ensures.others 0 (λ i lt e. omega (arith, c.read_constraints.ensures.later i none lt, e)) ∙ c.requires.zero 0 in
    record {
      length = c.relax-3.auto.numbers ∙ c.relax-2.auto.numbers ∙ c.relax.auto.numbers ∙ c.requires.size;
      holds = raised_hold w s.age inputs images reads form.reads_are form.inputs_kept p1 p2 p3 reads_hold holds_hold keeps_hold (λ v h. second v h ∙ first v h) second c.relax-3.ensures.more zero_at;
      zero = zero_at;
      least = λ p holds.
          let parts = holds_parts w s.age inputs images reads p holds in
          let one = c.relax.ensures.least p (rw c.read_constraints.ensures.items parts.reads_hold) (λ v. omega (arith, c.requires.zero v)) in
          let two = c.relax-2.ensures.least p (rw c.hold_constraints.ensures.items parts.holds_hold) one in
          c.relax-3.ensures.least p (rw c.keep_constraints.ensures.items parts.keeps_hold) two;
      near = λ v. omega (
        arith,
        c.relax-3.ensures.near (2 ^ 39 + 2 ^ 39)
            (λ t. omega (arith, c.relax-2.ensures.near (2 ^ 39) (λ u. omega (arith, c.relax.ensures.near 0 (λ w. omega (arith, c.requires.zero w)) u)) t)) v,
      );
    }
