use Rattle.std.proofs.Common.{rules, ◌≡◌, get_or, Some, ap, sym, ◌∙◌}
use Rattle.same_phases.proofs.Types.{input_entry}
use Rattle.same_phases.proofs.phases.has_input_type.Goals as goal

pub returns : goal.returns
returns c = λ yes.
    let same : (get_or c.args.new.now c.args.j c.index-new-j.result).ty ≡ (get_or c.args.old.now c.args.k c.index-old-k.result).ty = search rules in
    input_entry c.args.new.now c.args.j c.index-new-j.result c.requires.new ∙ ap Some same ∙ sym (input_entry c.args.old.now c.args.k c.index-old-k.result c.requires.old)
