use Rattle.std.proofs.Common.{◌∙◌, sym}
use Rattle.net_build.proofs.Logic.{logic_none, logic_on}
use Rattle.net_build.proofs.Cycling.{loaded_is, loaded_right, loaded_plain}
use Rattle.net_build.proofs.Levels.{loaded_over, plain_over}
use Rattle.net_build.proofs.counters.loaded.Goals as goal

pub returns-in_err-net-clause-logic : goal.returns-in_err-net-clause-logic
returns-in_err-net-clause-logic c = logic_on _ _ _ c.driven.ensures.logic c.driven-then-has_en.ensures.logic

pub returns-then-has_en-clause-logic : goal.returns-then-has_en-clause-logic
returns-then-has_en-clause-logic c = logic_on _ _ _ c.driven.ensures.logic c.driven-then-has_en.ensures.logic

pub returns-then-has_en-clause-net : goal.returns-then-has_en-clause-net
returns-then-has_en-clause-net c =
    loaded_is c.args.b.now c.driven.new.b c.driven-then-has_en.new.b c.args.now c.args.next c.rst-reset.result c.en-en.result c.in_ok-going.going c.in_ok-net.net c.args.bits (sym c.has_en.ensures ∙ c.if-has_en.true) c.rst-reset.ensures.reset c.en-en.ensures.enable c.driven.ensures.logic.includes c.driven-then-has_en.ensures.logic.includes
    c.rst-reset.ensures.net c.rst-reset.ensures.width c.en-en.ensures.net c.en-en.ensures.width c.requires.now c.requires.now_width c.requires.next c.requires.next_width c.in_ok-going.ensures.gate c.in_ok-net.ensures.gate

pub returns-then-has_en-clause-right : goal.returns-then-has_en-clause-right
returns-then-has_en-clause-right c =
    loaded_right c.args.b.now c.driven.new.b c.driven-then-has_en.new.b c.args.now c.args.next c.rst-reset.result c.en-en.result c.in_ok-going.going c.in_ok-net.net (sym c.has_en.ensures ∙ c.if-has_en.true) c.rst-reset.ensures.reset c.en-en.ensures.enable c.driven.ensures.logic.includes c.driven-then-has_en.ensures.logic.includes
    c.in_ok-going.ensures.made c.in_ok-net.ensures.made

pub returns-clause-logic : goal.returns-clause-logic
returns-clause-logic c = logic_none c.args.b.now

pub returns-clause-right : goal.returns-clause-right
returns-clause-right c = loaded_plain c.args.b.now c.args.now c.args.next (sym c.has_en.ensures ∙ c.if-has_en.false)

pub returns-then-has_en-clause-depth : goal.returns-then-has_en-clause-depth
returns-then-has_en-clause-depth c =
    loaded_over c.args.b.now c.driven.new.b c.driven-then-has_en.new.b c.args.now c.args.next c.rst-reset.result c.en-en.result c.in_ok-going.going c.in_ok-net.net (sym c.has_en.ensures ∙ c.if-has_en.true) c.rst-reset.ensures.reset c.en-en.ensures.enable c.driven.ensures.logic.includes c.driven-then-has_en.ensures.logic.includes
    c.in_ok-going.ensures.gate c.in_ok-net.ensures.gate

pub returns-clause-depth : goal.returns-clause-depth
returns-clause-depth c = plain_over c.args.b.now 2 c.args.now c.args.next
