use Rattle.std.proofs.lemmas.Result.{err_from_is_err_and}
use Rattle.dk_grammar.proofs.Clears.{clear_one}
use Rattle.dk_grammar.proofs.Stucks as T
use Rattle.dk_parser.proofs.Tokens as K
use Rattle.dk_parser.proofs.ReadLaws as L
use Rattle.dk_parser.proofs.Stucks as S
use Rattle.dk_parser.proofs.read.moved.Goals as goal

pub returns-in_err-turn : goal.returns-in_err-turn
returns-in_err-turn c =
    let p = err_from_is_err_and c.from_residual.result c.from_residual.ensures.1 in rw (p.1, p.2) (record { parsed = S.halts (λ at k. T.then_first (clear_one (K.turn_class c.args.mark c.requires)) (λ t. L.clear_after_turn c.args.mark t) k) _ c.in_err-turn.ensures.parsed; fewer = tt })

pub returns-in_err-offset : goal.returns-in_err-offset
returns-in_err-offset c =
    let p = err_from_is_err_and c.from_residual-in_err-offset.result c.from_residual-in_err-offset.ensures.1 in rw (p.1, p.2) (record { parsed = S.halts (λ at k. T.then_second (clear_one (K.turn_class c.args.mark c.requires)) c.in_ok-turn.ensures.parsed k) _ c.in_err-offset.ensures.parsed; fewer = tt })
