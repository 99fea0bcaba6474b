use Rattle.std.proofs.Common.{refl}
use Rattle.dk_types.specs.Typed.{typing_of}
use Rattle.dk_inline.proofs.Counted.{first_is, none_is}
use Rattle.dk_inline.proofs.extent.first_deep.Goals as goal

pub returns-then-is_deep : goal.returns-then-is_deep
returns-then-is_deep c =
    first_is c.args.program.now c.definitions.result.now c.loop-k.k c.index-definitions-k.result c.args.extents.now c.requires c.definitions.ensures c.loop-k-test.true c.loop-k.invariant (c.if-is_deep.ensures.yes refl)

pub returns : goal.returns
returns c = none_is (typing_of c.args.program.now) c.args.extents.now c.loop-k.k c.requires c.loop-k-test.false c.loop-k.invariant
