use Rattle.std.proofs.Common.{◌≡◌, List, length, ap, arith}
use Rattle.dk_base.specs.declared.stencils.Image.{Image}
use Rattle.raster_delay.specs.declared.placed.PlacedRead.{PlacedRead}
use Rattle.latency_report.proofs.Splits.{sizes, in_parts}
use Rattle.latency_report.proofs.flow.flow_lines.Goals as goal

count : (xs ys : List Image) → xs ≡ ys → length xs ≡ length ys
count xs ys e = ap (λ (l : List Image). length l) e

reads_count : (xs ys : List PlacedRead) → xs ≡ ys → length xs ≡ length ys
reads_count xs ys e = ap (λ (l : List PlacedRead). length l) e

pub split_at-requires : goal.split_at-requires
split_at-requires c = omega (arith, c.requires, sizes c.args.system.now, count _ _ c.images-images.ensures)

pub split_at-requires-2 : goal.split_at-requires-2
split_at-requires-2 c = omega (arith, c.requires, sizes c.args.system.now, count _ _ c.images-images.ensures, c.inputs.ensures, c.split_at.ensures.back_len)

pub split_at-requires-3 : goal.split_at-requires-3
split_at-requires-3 c =
    omega (
      arith,
      c.requires,
      sizes c.args.system.now,
      count _ _ c.images-images.ensures,
      c.inputs.ensures,
      reads_count _ _ c.placed_reads-reads.ensures,
      c.split_at.ensures.back_len,
      c.split_at-2.ensures.back_len,
    )

pub push_keeps-requires : goal.push_keeps-requires
push_keeps-requires c =
    omega (
      arith,
      c.requires,
      sizes c.args.system.now,
      count _ _ c.images-images.ensures,
      c.inputs.ensures,
      reads_count _ _ c.placed_reads-reads.ensures,
      c.law.ensures.stencils.images.inputs_kept,
      c.split_at.ensures.back_len,
      c.split_at-2.ensures.back_len,
      c.split_at-3.ensures.back_len,
    )

pub returns : goal.returns
returns c =
    in_parts c.args.system.now c.args.flow.now (length c.images-images.result.now) _ (length c.placed_reads-reads.result.now) c.split_at.result.0.now c.split_at.result.1.now c.split_at-2.result.0.now
    c.split_at-2.result.1.now c.split_at-3.result.0.now c.split_at-3.result.1.now c.inputs-2.result c.placed_reads-reads.result.now c.new-lines.result.items c.push_holds.new.lines.items
    c.push_starts.new.lines.items c.push_reads.new.lines.items c.push_keeps.new.lines.items (count _ _ c.images-images.ensures) c.inputs-2.ensures
    (omega (arith, count _ _ c.images-images.ensures, c.inputs.ensures)) c.placed_reads-reads.ensures (reads_count _ _ c.placed_reads-reads.ensures) c.requires
    c.split_at.ensures.front c.split_at.ensures.back c.split_at-2.ensures.front c.split_at-2.ensures.back c.split_at-3.ensures.front c.split_at-3.ensures.back c.new-lines.ensures.items
    c.in_ok-push_holds.ensures c.in_ok-push_starts.ensures c.in_ok-push_reads.ensures c.in_ok-push_keeps.ensures
