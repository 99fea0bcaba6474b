use Rattle.std.proofs.Common.{◌≡◌, ◌≤◌, ◌<◌, length, get_or, slice_index, arith, rules, ap, sym, ◌∙◌}
use Rattle.std.proofs.lemmas.Int.{ints}
use Rattle.std.proofs.lemmas.List.{get_or-map, length-map}
use Rattle.dk_base.specs.declared.stencils.Image.{Image}
use Rattle.raster_delay.specs.Network.{Buffer, constraint_at}
use Rattle.raster_delay.specs.Delays.{begin_of, end_of}
use Rattle.raster_delay.specs.Systems.{image_count, widths, placed_reads, constraints_in}
use Rattle.raster_delay.specs.declared.network.Constraint.{Constraint}
use Rattle.raster_delay.proofs.Amounts.{spot, amount-more, amount-all}
use Rattle.raster_delay.proofs.Places.{system_form}
use Rattle.raster_delay.proofs.Parts.{hold_at, length_all}
use Rattle.flow_dual.specs.Tree.{Moves}
use Rattle.flow_dual.proofs.Networks.{network_in}
use Rattle.flow_dual.proofs.Pushes.{empty_balanced}
use Rattle.flow_dual.proofs.sending.send_all.Goals as goal

pub loop-image-init : goal.loop-image-init
loop-image-init c = record {
  numbers = c.requires.numbers;
  amounts = λ i. omega (arith, c.requires.empty i);
  holds = c.requires.holds;
  carries = λ i h some. absurd (omega (arith, c.requires.empty i));
  sent = λ v. omega (arith, empty_balanced (constraints_in c.args.system.now) c.args.flow.now c.requires.empty v);
}

pub send-requires-clause-network : goal.send-requires-clause-network
send-requires-clause-network c =
    rw (c.constraints-constraints.ensures.form, c.loop-image.auto.numbers ∙ c.requires.nodes_are) (network_in c.args.system.now c.law.ensures)

pub send-requires-clause-hold : goal.send-requires-clause-hold
send-requires-clause-hold c =
    let s = c.args.system.now in
    let n = image_count s in
    let kept = (system_form s c.law.ensures).inputs_kept in
    let below : c.loop-image.image < n = omega (arith, ap length c.images-images.ensures) in
    rw c.constraints-constraints.ensures.form (
      omega (arith, length_all s.stencils.width s.age s.stencils.inputs n (placed_reads s) kept, below),
      ap (λ (c : Constraint). c.cost) (hold_at s.stencils.width s.age s.stencils.inputs n (placed_reads s) kept c.loop-image.image below),
    )

pub loop-image-preserved : goal.loop-image-preserved
loop-image-preserved c =
    let s = c.args.system.now in
    let n = image_count s in
    let inputs = s.stencils.inputs in
    let cs = constraints_in s in
    let i = c.loop-image.image in
    let none : Image = record { number = 0; width = 0 } in
    let kept = (system_form s c.law.ensures).inputs_kept in
    let below : i < n = omega (arith, ap length c.images-images.ensures) in
    let listed : i < length (widths s) = omega (arith, below, length-map s.stencils.images (λ (i : Image). i.width)) in
    let value = c.constraints-constraints.ensures.form in
    let told = c.in_ok-send.ensures in
    let sent = (get_or c.images-images.result.now i none).width in
    let width : sent ≡ slice_index (widths s) i =
    ap (λ xs. (get_or xs i none).width) c.images-images.ensures ∙ sym (get_or-map (λ (i : Image). i.width) s.stencils.images i none 0 below) in
    let hold = hold_at s.stencils.width s.age inputs n (placed_reads s) kept i below in
    let source : (constraint_at cs i).source ≡ begin_of inputs i = ap (λ (c : Constraint). c.source) hold in
    let target : (constraint_at cs i).target ≡ end_of inputs n i = ap (λ (c : Constraint). c.target) hold in
    let moves : Moves cs c.loop-image.flow c.send.new.flow (constraint_at cs i).source (constraint_at cs i).target sent = rw (← value) told.moves in
    record {
      numbers = told.sent.numbers;
      amounts = told.sent.amounts;
      holds = rw (← value) told.sent.holds;
      carries = rw (← value) told.sent.carries;
      sent = λ v. omega (
        arith,
        moves v,
        c.loop-image.invariant.sent v,
        amount-more inputs n (widths s) (λ (b : Buffer). b.begin) i v listed,
        amount-more inputs n (widths s) (λ (b : Buffer). b.end) i v listed,
        ap (λ k. spot k sent v) source,
        ap (λ k. spot k sent v) target,
        ap (λ w. spot (begin_of inputs i) w v) width,
        ap (λ w. spot (end_of inputs n i) w v) width,
      );
    }

pub returns : goal.returns
returns c =
    let s = c.args.system.now in
    let end : length (widths s) ≤ c.loop-image.image = omega (arith, ap length c.images-images.ensures, length-map s.stencils.images (λ (i : Image). i.width)) in
    record {
      numbers = search rules;
      holds = c.loop-image.invariant.holds;
      carries = c.loop-image.invariant.carries;
      balanced = record {
        one_each = c.loop-image.auto.flow ∙ c.requires.flows;
        balanced = λ v. omega (
          arith,
          ints,
          c.loop-image.invariant.sent v,
          amount-all s.stencils.inputs (image_count s) (widths s) (λ (b : Buffer). b.begin) c.loop-image.image v end,
          amount-all s.stencils.inputs (image_count s) (widths s) (λ (b : Buffer). b.end) c.loop-image.image v end,
        );
      };
    }
