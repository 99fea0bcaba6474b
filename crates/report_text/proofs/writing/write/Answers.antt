use Rattle.std.proofs.Common.{◌++◌, ◌∷◌, [], ◌∙◌, ap, sym, map}
use Rattle.report_text.specs.Reports.{parts_of}
use Rattle.report_text.specs.Layout.{image_line, latency_line, flow_line, size_line, clocks_line, bits_line, reads_line, end_line, head_lines, unless_first, joined}
use Rattle.report_text.proofs.Chains.{parts}
use Rattle.report_text.proofs.writing.write.Goals as goal

pub returns : goal.returns
returns c =
    let r = parts_of c.args.report.now in
    let last = clocks_line r.clocks ++ (bits_line r.bits ++ (joined (unless_first r.version (reads_line r.reads ∷ [])) ++ (joined (map (flow_line r.images) r.flow) ++ joined (unless_first r.version (end_line ∷ []))))) in
    let first = joined (head_lines r) ++ (size_line r.width r.height ++ (joined (map image_line r.images) ++ joined (map latency_line r.latencies))) in
    c.in_ok-push_last.ensures ∙ ap (λ x. x ++ last) c.in_ok-push_first.ensures ∙ ap (λ x. (x ++ first) ++ last) c.in_ok-text.ensures.items
    ∙ sym (parts (head_lines r) (map image_line r.images) (map latency_line r.latencies) (unless_first r.version (reads_line r.reads ∷ [])) (map (flow_line r.images) r.flow) (unless_first r.version (end_line ∷ [])) (size_line r.width r.height) (clocks_line r.clocks) (bits_line r.bits))
