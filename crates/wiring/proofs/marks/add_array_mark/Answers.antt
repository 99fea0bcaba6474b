use Rattle.std.proofs.Common.{refl}
use Rattle.wiring.specs.declared.netlist.Holder.TheVariants.{OfArray}
use Rattle.wiring.proofs.MarkLists.{adds_arrays}
use Rattle.wiring.proofs.marks.add_array_mark.Goals as goal

pub returns : goal.returns
returns c = adds_arrays c.args.marks.now (OfArray c.args.array) c.args.array refl c.requires.place c.requires.free
