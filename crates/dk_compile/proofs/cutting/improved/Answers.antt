use Rattle.std.proofs.Common.{rules, ◌≤◌, max}
use Rattle.dk_types.specs.Typed.{typing_of}
use Rattle.pointwise_ir.specs.Programs.{bodies_of}
use Rattle.body_levels.specs.Levels.{greatest_level}
use Rattle.body_levels.specs.Deep.{IsShallower}
use Rattle.dk_compile.proofs.Same.{improved_of}
use Rattle.dk_compile.proofs.cutting.improved.Goals as goal

pub returns : goal.returns
returns c =
    let source = c.args.source.now in
    let after = c.in_ok-after.after in
    let below : greatest_level (bodies_of after) ≤ max source.levels (greatest_level (bodies_of source.form.now)) = search rules in
    let fewer : IsShallower source.levels source.form.now after = search rules in
    improved_of source.text.now c.args.text.items source.old.now (typing_of c.args.program.now) source.levels source.form.now after c.requires.source c.requires.keeps c.requires.program c.in_ok-after.ensures below fewer
