use Rattle.std.proofs.Common.{subst, sym, ◌∙◌}
use Rattle.array_packing.specs.Packing.{AreFilledTo}
use Rattle.array_packing.proofs.Reached.{none_filled}
use Rattle.array_packing.proofs.filled.filled_bits.Goals as goal

pub fill_all-requires : goal.fill_all-requires
fill_all-requires c = subst (AreFilledTo c.args.slots.now) (sym (c.deref_mut.ensures.value ∙ c.in_ok-reached.ensures)) (none_filled c.args.slots.now c.args.arrays)
