use Rattle.std.proofs.Common.{sym, ◌∙◌}
use Rattle.std.proofs.lemmas.Option.{slice_get-get_or}
use Rattle.dk_types.specs.Typed.{typing_of}
use Rattle.dk_inline.proofs.Counted.{deep_is, deep_only}
use Rattle.dk_inline.proofs.extent.is_deep.Goals as goal

pub returns-clause-yes : goal.returns-clause-yes
returns-clause-yes c passes d is =
    let at = slice_get-get_or c.args.extents.now c.args.number (record { nodes = 0; depth = 0 }) c.requires.number in
    deep_is (typing_of c.args.program.now) c.args.extents.now c.args.number _ c.requires.extents at d is (sym (c.stays.ensures d is) ∙ c.if-not-stays.false) (c.passes.ensures.0 passes)

pub returns-clause-no : goal.returns-clause-no
returns-clause-no c d is =
    let at = slice_get-get_or c.args.extents.now c.args.number (record { nodes = 0; depth = 0 }) c.requires.number in
    c.passes.ensures.1 (deep_only (typing_of c.args.program.now) c.args.extents.now c.args.number _ c.requires.extents at d is)
