use Rattle.std.proofs.Common.{◌≡◌, ◌++◌, ◌∙◌, ap}
use Rattle.verilog_layout.specs.Layout.{layout}
use Rattle.verilog_print.proofs.text.print.Goals as goal

pub returns-clause-stands : goal.returns-clause-stands
returns-clause-stands c = λ most.
    let is : c.push_text.new.text.items ≡ layout c.args.module.now = c.in_ok-push_text.ensures ∙ ap (λ x. x ++ layout c.args.module.now) c.in_ok-text.ensures.items in
    c.layout_stands_law.ensures.stands c.args.module.now c.push_text.new.text (record { rules = c.wiring-rules.ensures.rules; names = c.names-names.ensures.fit; bits = most }) is

pub returns-clause-only : goal.returns-clause-only
returns-clause-only c = λ most other stands.
    let is : c.push_text.new.text.items ≡ layout c.args.module.now = c.in_ok-push_text.ensures ∙ ap (λ x. x ++ layout c.args.module.now) c.in_ok-text.ensures.items in
    c.layout_stands_law.ensures.only c.args.module.now other c.push_text.new.text (record { rules = c.wiring-rules.ensures.rules; names = c.names-names.ensures.fit; bits = most }) is stands
