use Rattle.std.proofs.Common.{◌≡◌, length, ap, ◌∙◌, rules, arith}
use Rattle.std.specs.Prelude.{All}
use Rattle.dk_base.specs.Stencils.{IsKept}
use Rattle.raster_delay.specs.Placing.{reads_of}
use Rattle.raster_delay.proofs.Places.{placed_are}
use Rattle.raster_delay.proofs.system.System.aged.Goals as goal

pub placed_reads-requires-clause-ascending : goal.placed_reads-requires-clause-ascending
placed_reads-requires-clause-ascending c =
    let images : c.deref.result.now ≡ c.args.stencils.now.images = c.deref.ensures.value ∙ c.in_ok-images.ensures.items ∙ c.images.ensures in
    rw images c.law.ensures.images.ascending

pub placed_reads-requires-clause-readers : goal.placed_reads-requires-clause-readers
placed_reads-requires-clause-readers c =
    let s = c.args.stencils.now in
    let images : c.deref.result.now ≡ s.images = c.deref.ensures.value ∙ c.in_ok-images.ensures.items ∙ c.images.ensures in
    let reads : c.deref-2.result.now ≡ s.reads = c.deref-2.ensures.value ∙ c.in_ok-reads.ensures.items ∙ c.reads.ensures in
    let all : All (λ r. IsKept s.images r.f) s.reads = λ k d lt. (c.law.ensures.reads.between k d lt).reader_kept in
    rw (images, reads) all

pub placed_reads-requires-clause-sources : goal.placed_reads-requires-clause-sources
placed_reads-requires-clause-sources c =
    let s = c.args.stencils.now in
    let images : c.deref.result.now ≡ s.images = c.deref.ensures.value ∙ c.in_ok-images.ensures.items ∙ c.images.ensures in
    let reads : c.deref-2.result.now ≡ s.reads = c.deref-2.ensures.value ∙ c.in_ok-reads.ensures.items ∙ c.reads.ensures in
    let all : All (λ r. IsKept s.images r.g) s.reads = λ k d lt. (c.law.ensures.reads.between k d lt).source_kept in
    rw (images, reads) all

pub constraints-requires : goal.constraints-requires
constraints-requires c =
    let s = c.args.stencils.now in
    let images : c.deref.result.now ≡ s.images = c.deref.ensures.value ∙ c.in_ok-images.ensures.items ∙ c.images.ensures in
    let reads : c.deref-2.result.now ≡ s.reads = c.deref-2.ensures.value ∙ c.in_ok-reads.ensures.items ∙ c.reads.ensures in
    let kept : c.in_ok-images.images.items ≡ s.images = c.in_ok-images.ensures.items ∙ c.images.ensures in
    let placed : c.deref-3.result.now ≡ reads_of s.images s.reads =
    c.deref-3.ensures.value ∙ c.in_ok-placed.ensures ∙ ap (λ xs. reads_of xs c.deref-2.result.now) images ∙ ap (reads_of s.images) reads in
    let vec : c.len.result ≡ length c.in_ok-images.images.items = search rules in
    let size : c.len.result ≡ length s.images = vec ∙ ap length kept in
    record {
      row_limit = rw c.width.ensures c.law.ensures.frame.most_columns;
      counts = record {
        kept = omega (arith, c.inputs.ensures, size, c.law.ensures.images.inputs_kept);
        limit = omega (arith, size, c.law.ensures.images.most_images);
      };
      reads_are = rw (c.width.ensures, c.inputs.ensures, size, placed) (placed_are s c.law.ensures);
    }
