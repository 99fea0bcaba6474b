use Rattle.std.proofs.Common.{◌∷◌, ◌∙◌, sym, ap}
use Rattle.verilog_lexer.proofs.Cuts.{after_end, after_other, cut_place, cut_left, end_stays}
use Rattle.verilog_lexer.proofs.tokens.Tokens.take.Goals as goal

pub invariant_of-self : goal.invariant_of-self
invariant_of-self c = cut_place c.self.invariant.fewer c.self.invariant.has c.next_token-next.ensures

pub returns-clause-next : goal.returns-clause-next
returns-clause-next c = λ h. sym c.self.view_is ∙ after_other _ _ h ∙ ap (λ x. c.self.inside.next ∷ x) (cut_left c.self.invariant.has c.next_token-next.ensures)

pub returns-clause-last : goal.returns-clause-last
returns-clause-last c = λ e. (sym c.self.view_is ∙ after_end _ _ e, end_stays c.self.invariant c.next_token-next.ensures e ∙ c.self.view_is)
