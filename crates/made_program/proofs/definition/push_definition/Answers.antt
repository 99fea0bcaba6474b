use Rattle.std.proofs.Common.{◌++◌, ◌-◌, ap, ◌∙◌, codes}
use Rattle.made_program.specs.Programs.{opening, is_inline, name, body, read}
use Rattle.made_program.proofs.Joins.{five}
use Rattle.made_program.proofs.definition.push_definition.Goals as goal

pub returns : goal.returns
returns c =
    let d = c.args.draws in
    let first = read (c.args.k - 1) d.reads.first in
    let second = read d.reads.source d.reads.second in
    let front = c.extend_from_slice.new.self.items in
    five c.args.to.now.items c.push_opening.new.to.items c.push_name.new.to.items front c.push_body.new.to.items c.extend_from_slice-2.new.self.items
    (opening (is_inline c.args.k c.args.last d)) (name c.args.k) (codes " = im(x,y) ") (body d.kind first second) (codes " end\n")
    (c.in_ok-push_opening.ensures ∙ ap (λ b. c.args.to.now.items ++ opening b) c.tells_inline.ensures)
    c.in_ok-push_name.ensures c.in_ok-extend_from_slice.ensures.items
    (c.in_ok-push_body.ensures ∙ ap (λ x. front ++ body d.kind x c.deref-2.result.now) (c.deref.ensures.value ∙ c.in_ok-first.ensures) ∙ ap (λ x. front ++ body d.kind first x) (c.deref-2.ensures.value ∙ c.in_ok-second.ensures))
    c.in_ok-extend_from_slice-2.ensures.items
