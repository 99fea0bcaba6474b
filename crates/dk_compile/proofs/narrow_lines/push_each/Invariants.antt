use Rattle.std.proofs.Common.{◌≡◌, ◌++◌, drop}
use Rattle.std.specs.List.{flat_map}
use Rattle.dk_compile.specs.NarrowLines.{wider_words}
use Rattle.dk_compile.proofs.narrow_lines.push_each.Given as goal

abbrev pub invariant-loop-image : goal.invariant-loop-image
invariant-loop-image l = l.out.items ++ flat_map wider_words (drop l.image-index l.wider) ≡ l.fn.out.items ++ flat_map wider_words l.wider
