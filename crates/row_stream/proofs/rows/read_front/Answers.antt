use Rattle.std.proofs.Common.{rules, ◌≡◌, ◌∙◌, ℕ, List, ap, length, take, subst, sym}
use Rattle.std.proofs.lemmas.Result.{on_ok_weaker}
use Rattle.pgm_codec.specs.Rasters.{row_length}
use Rattle.row_stream.specs.RowReading.{TakesRow}
use Rattle.row_stream.proofs.Batches.{in_place}
use Rattle.row_stream.proofs.rows.read_front.Goals as goal

pub returns : goal.returns
returns g c =
    let old = c.args.to.now in
    let new = c.read_within.new.to in
    let header = c.args.header.now in
    let before = (g.D.Desk.outside c.args.desk.now).image in
    let now = (g.D.Desk.outside c.read_within.new.desk).image in
    let len : old.len ≡ length old.items = search rules in
    let size : length new ≡ length old.items = c.read_within.ensures.room ∙ ap (λ (z : List ℕ). length z) c.deref_mut.ensures.value in
    let is = in_place old.len old.items new len size in
    record {
      room = ap (λ (z : List ℕ). length z) is ∙ size;
      ok = on_ok_weaker c.read_within.result (λ h. subst (λ z. TakesRow header c.args.row (take (row_length header) z) before now) (sym is) h) c.read_within.ensures.ok;
      fault = c.read_within.ensures.fault;
      desk = c.read_within.ensures.desk;
    }
