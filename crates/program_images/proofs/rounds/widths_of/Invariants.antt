use Rattle.std.proofs.Common.{◌≡◌, map, take}
use Rattle.dk_base.specs.Types.{width_of}
use Rattle.program_images.proofs.rounds.widths_of.Given as goal

abbrev pub invariant-loop-input : goal.invariant-loop-input
invariant-loop-input l = l.widths.items ≡ map width_of (map (λ i. i.ty) (take l.input-index l.inputs))
