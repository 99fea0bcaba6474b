use Rattle.std.proofs.Common.{◌≡◌, ◌++◌, drop, map}
use Rattle.report_text.specs.Layout.{joined, image_line}
use Rattle.report_text.proofs.writing.push_images.Given as goal

abbrev pub invariant-loop-image : goal.invariant-loop-image
invariant-loop-image l = l.out.items ++ joined (map image_line (drop l.image-index l.images)) ≡ l.fn.out.items ++ joined (map image_line l.images)
