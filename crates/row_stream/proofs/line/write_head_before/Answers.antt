use Rattle.std.proofs.Common.{rules, ◌≡◌, [], sym, subst, if◌then◌else◌, ◌&&◌, nat_eq, nat_lt, ◌%◌, false, ◌∙◌}
use Rattle.dk_desk.specs.declared.OutSlot.TheVariants.{File}
use Rattle.dk_desk.specs.Calls.{AddsToFile}
use Rattle.dk_desk.proofs.DeskLemmas.{Adds-nothing}
use Rattle.row_stream.specs.Lines.{head}
use Rattle.row_stream.specs.Formats.{kind_of}
use Rattle.row_stream.proofs.line.write_head_before.Goals as goal

pub returns-else-begins_image : goal.returns-else-begins_image
returns-else-begins_image g c =
    let o = g.D.Desk.outside c.args.desk.now in
    let no : (nat_eq (c.args.row % c.args.format.size.height) 0 && nat_lt 0 c.args.row) ≡ false = sym c.begins_image.ensures ∙ search rules in
    record { ok = subst (λ b. AddsToFile o (if b then head (kind_of c.args.format) else []) o) (sym no) (Adds-nothing File o); err = search rules; desk = search rules }
