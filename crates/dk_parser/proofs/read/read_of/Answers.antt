use Rattle.std.proofs.Common.{sym, arith}
use Rattle.std.proofs.lemmas.Result.{err_from_is_err_and}
use Rattle.dk_parser.specs.Grammar.{reading}
use Rattle.dk_parser.specs.Reads.{plain}
use Rattle.dk_parser.proofs.Stucks as S
use Rattle.dk_parser.proofs.Insides as I
use Rattle.dk_parser.proofs.read.read_of.Goals as goal

pub returns-in_err-span : goal.returns-in_err-span
returns-in_err-span c =
    let p = err_from_is_err_and c.from_residual.result c.from_residual.ensures.1 in rw (p.1, p.2) (record { parsed = S.halts (λ at k. I.stuck_unclamped _ _ at c.requires.tok c.requires.whole c.requires.starts k) _ c.in_err-span.ensures.parsed })

pub returns-in_default : goal.returns-in_default
returns-in_default c =
    record { parsed = record { tree = _; parsed = record { phrase = reading (plain c.in_ok-span.ensures.parsed); ends = c.in_default.ensures; fewer = omega (arith, c.in_ok-span.ensures.fewer) }; stands = c.read.ensures } }

pub returns-in_err-last : goal.returns-in_err-last
returns-in_err-last c =
    let p = err_from_is_err_and c.from_residual-in_err-last.result c.from_residual-in_err-last.ensures.1 in rw (p.1, p.2) (record { parsed = S.halts (λ at k. let e = c.in-Some.ensures in I.stuck_clamp _ _ _ at _ e.tok c.in_ok-span.ensures.parsed e.whole e.is_edge k) _ c.in_err-last.ensures.parsed })

pub returns-in-Some-edge : goal.returns-in-Some-edge
returns-in-Some-edge c =
    let e = c.in-Some.ensures in let l = c.in_ok-last.ensures.parsed in let f = c.in-Some-edge.ensures in record { parsed = I.stuck_twice _ _ _ _ _ e.tok l.0 c.in_ok-span.ensures.parsed e.whole e.is_edge l.1 l.2.0 (I.edge_rank _ _ f) }

pub returns : goal.returns
returns c =
    let e = c.in-Some.ensures in let l = c.in_ok-last.ensures.parsed in record { parsed = record { tree = _; parsed = record { phrase = reading (rw (sym l.2.1) (I.clamped_whole _ _ _ _ _ e.tok l.0 c.in_ok-span.ensures.parsed e.whole e.is_edge l.1 l.2.0)); ends = c.in_default-edge.ensures; fewer = omega (arith, c.in_ok-span.ensures.fewer, e.fewer, c.in_ok-last.ensures.fewer) }; stands = c.read-2.ensures } }
