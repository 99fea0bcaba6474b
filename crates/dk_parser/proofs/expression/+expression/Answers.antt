use Rattle.std.proofs.Common.{rules, ◌≡◌, ◌≢◌, arith, refl, ◌-◌}
use Rattle.std.proofs.lemmas.Result.{err_from_is_err_and, MatchResult-weaker}
use Rattle.dk_lexer.specs.declared.token.Symbol.TheVariants.{Open, Close, Comma}
use Rattle.dk_grammar.proofs.Clears.{clear_then, clear_done}
use Rattle.dk_grammar.proofs.Stucks as T
use Rattle.dk_parser.specs.declared.terminal.Mark.TheVariants as mark
use Rattle.dk_parser.specs.Marks.{mark_terminal}
use Rattle.dk_parser.specs.Grammar.{closed}
use Rattle.dk_parser.proofs.Tokens as K
use Rattle.dk_parser.proofs.Stucks as S
use Rattle.dk_parser.proofs.Insides as I
use Rattle.dk_parser.proofs.expression.+expression.Goals as goal

pub closed_by-returns-in_err-body : goal.closed_by-returns-in_err-body
closed_by-returns-in_err-body t c =
    let p = err_from_is_err_and c.from_residual.result c.from_residual.ensures.1 in rw (p.1, p.2) (record { parsed = S.halts (λ at k. S.closed_first c.args.mark _ at c.requires k) _ c.in_err-body.ensures.parsed })

pub closed_by-returns-in_default : goal.closed_by-returns-in_default
closed_by-returns-in_default t c =
    record { parsed = S.closed_second c.args.mark _ _ _ c.requires c.in_ok-body.ensures.parsed.parsed (λ tok r e k. cc (c.in_default.ensures)) }

pub closed_by-returns-else-eq : goal.closed_by-returns-else-eq
closed_by-returns-else-eq t c =
    let ne : c.in-Some.kind ≢ mark_terminal c.args.mark = search rules in record { parsed = S.closed_second c.args.mark _ _ _ c.requires c.in_ok-body.ensures.parsed.parsed (λ tok r e k. ne (cc (c.in-Some.ensures.whole, c.in-Some.ensures.kind_is))) }

pub closed_by-returns-then-eq : goal.closed_by-returns-then-eq
closed_by-returns-then-eq t c =
    let f = c.in-Some.ensures in let b = c.in_ok-body.ensures.parsed in let same : c.in-Some.kind ≡ mark_terminal c.args.mark = search rules in record { parsed = record { tree = b.tree; phrase = S.closed_whole c.args.mark _ _ _ b.tree c.in-Some.last.now b.parsed f.whole (cc (f.kind_is, same)); fewer = omega (arith, b.parsed.fewer, f.fewer); stands = b.stands } }

pub comparison_of-returns-in_err-left : goal.comparison_of-returns-in_err-left
comparison_of-returns-in_err-left t c =
    let p = err_from_is_err_and c.from_residual.result c.from_residual.ensures.1 in rw (p.1, p.2) (record { parsed = S.halts (λ at k. S.comparison_first _ at k) _ c.in_err-left.ensures.parsed })

pub comparison_of-returns-in_err-right-in-Operand : goal.comparison_of-returns-in_err-right-in-Operand
comparison_of-returns-in_err-right-in-Operand t c =
    let p = err_from_is_err_and c.from_residual-in_err-right-in-Operand.result c.from_residual-in_err-right-in-Operand.ensures.1 in rw (p.1, p.2) (record { parsed = let a = c.in-Operand.ensures in S.halts (λ at k. S.comparison_second _ _ _ at _ a.tok _ c.in_ok-left.ensures.parsed.parsed a.whole a.binds k) _ c.in_err-right-in-Operand.ensures.parsed })

pub comparison_of-returns-in-End : goal.comparison_of-returns-in-End
comparison_of-returns-in-End t c =
    let l = c.in_ok-left.ensures.parsed in record { parsed = record { tree = _; parsed = S.comparison_single _ _ l.tree l.parsed c.in-End.ensures; stands = l.stands } }

pub comparison_of-returns-in_ok-binary-in-Operand : goal.comparison_of-returns-in_ok-binary-in-Operand
comparison_of-returns-in_ok-binary-in-Operand t c =
    let a = c.in-Operand.ensures in let l = c.in_ok-left.ensures.parsed in let r = c.in_ok-right-in-Operand.ensures.parsed in record { parsed = record { tree = _; parsed = S.comparison_whole _ _ _ _ l.tree r.tree a.tok _ l.parsed a.whole a.binds r.parsed c.in-End-look_ahead.ensures; stands = c.in_ok-binary-in-Operand.ensures l.tree r.tree l.stands r.stands } }

pub comparison_of-returns-in_default : goal.comparison_of-returns-in_default
comparison_of-returns-in_default t c =
    let a = c.in-Operand.ensures in record { parsed = S.comparison_twice _ _ _ _ _ _ a.tok _ c.in_ok-left.ensures.parsed.parsed a.whole a.binds c.in_ok-right-in-Operand.ensures.parsed.parsed (S.not_end 8 _ c.look_ahead-in-Operand.result c.look_ahead-in-Operand.ensures c.in_default.not-End) }

pub level_of-returns-in_err-left : goal.level_of-returns-in_err-left
level_of-returns-in_err-left t c =
    let p = err_from_is_err_and c.from_residual.result c.from_residual.ensures.1 in rw (p.1, p.2) (record { parsed = S.level_first_at _ (c.args.precedence - 1) _ _ (omega arith) (omega arith) c.in_err-left.ensures.parsed })

pub level_of-returns : goal.level_of-returns
level_of-returns t c =
    let l = c.in_ok-left.ensures.parsed in record { parsed = MatchResult-weaker c.steps_of.result (c.steps_of.ensures.parsed l.tree l.stands) (λ x p. record { tree = p.tree; parsed = S.level_whole_at _ (c.args.precedence - 1) _ _ _ _ _ (omega arith) l.parsed p.parsed; stands = p.stands }) (λ x h. S.level_second_at _ (c.args.precedence - 1) _ _ _ x (omega arith) l.parsed h) }

pub steps_of-steps-preserved-in-Operand : goal.steps_of-steps-preserved-in-Operand
steps_of-steps-preserved-in-Operand t c =
    let a = c.in-Operand.ensures in let r = c.in_ok-right-in-Operand.ensures.parsed in record { fewer = omega (arith, c.steps.invariant.fewer, a.fewer, r.parsed.fewer); keeps = λ l0 h. let k = c.steps.invariant.keeps l0 h in record { tree = _; stands = c.in_ok-left-in-Operand.ensures k.tree r.tree k.stands r.stands; resumes = S.resumes_operand _ _ _ _ _ _ _ _ a.tok _ k.resumes a.whole (S.with_suc _ _ _ a.binds) r.parsed } }

pub steps_of-steps-preserved : goal.steps_of-steps-preserved
steps_of-steps-preserved t c =
    let a = c.in-Suffix.ensures in record { fewer = omega (arith, c.steps.invariant.fewer, a.operates.fewer, c.in_ok-longer-in-Suffix.ensures.fewer); keeps = λ l0 h. let k = c.steps.invariant.keeps l0 h in let m = c.in_ok-longer-in-Suffix.ensures.parsed k.tree k.stands in let b = m.phrase in record { tree = m.tree; stands = m.stands; resumes = S.resumes_suffix _ _ _ _ _ _ _ _ a.operates.tok b.0 _ k.resumes a.operates.whole (S.with_suc _ _ _ a.operates.binds) a.other b.1 b.2 } }

pub steps_of-returns-in_err-right-in-Operand : goal.steps_of-returns-in_err-right-in-Operand
steps_of-returns-in_err-right-in-Operand t c =
    let p = err_from_is_err_and c.from_residual.result c.from_residual.ensures.1 in let a = c.in-Operand.ensures in rw (p.1, p.2) (record { parsed = λ l0 h. let k = c.steps.invariant.keeps l0 h in S.halts (λ at q. S.resumes_stuck _ _ _ _ _ at k.resumes (S.stuck_operand _ _ _ _ at a.tok _ (omega arith) a.whole (S.with_suc _ _ _ a.binds) q)) _ c.in_err-right-in-Operand.ensures.parsed })

pub steps_of-returns-in_err-longer-in-Suffix : goal.steps_of-returns-in_err-longer-in-Suffix
steps_of-returns-in_err-longer-in-Suffix t c =
    let p = err_from_is_err_and c.from_residual-in_err-longer-in-Suffix.result c.from_residual-in_err-longer-in-Suffix.ensures.1 in let a = c.in-Suffix.ensures in rw (p.1, p.2) (record { parsed = λ l0 h. let k = c.steps.invariant.keeps l0 h in S.halts (λ at q. S.resumes_stuck _ _ _ _ _ at k.resumes (S.stuck_suffix _ _ _ _ at a.operates.tok _ (omega arith) a.operates.whole (S.with_suc _ _ _ a.operates.binds) a.other q)) _ (c.in_err-longer-in-Suffix.ensures.parsed k.tree k.stands) })

pub steps_of-returns-in-Tighter : goal.steps_of-returns-in-Tighter
steps_of-returns-in-Tighter t c =
    record { parsed = λ l0 h. let k = c.steps.invariant.keeps l0 h in S.resumes_stuck _ _ _ _ _ _ k.resumes (S.stuck_tight _ _ _ (omega arith) (omega (arith, c.in-Tighter.ensures))) }

pub steps_of-returns-in-End : goal.steps_of-returns-in-End
steps_of-returns-in-End t c =
    record { parsed = λ l0 h. let k = c.steps.invariant.keeps l0 h in record { tree = k.tree; parsed = S.resumes_done _ _ _ _ _ k.resumes (omega (arith, c.in-End.ensures)); stands = k.stands } }

pub unary_of-returns-in_default-start : goal.unary_of-returns-in_default-start
unary_of-returns-in_default-start t c =
    let f = c.in-Some.ensures in record { parsed = MatchResult-weaker c.primary_of-in_default-start.result c.primary_of-in_default-start.ensures.parsed (λ x p. record { tree = p.tree; parsed = S.plain_whole _ _ _ p.parsed; stands = p.stands }) (λ x h. S.halts (λ at k. S.stuck_plain _ at (λ tok s o e q. let g = c.in_default-start.not-Prefix o in g (cc (f.kind_is, f.whole, e, c.start.ensures))) k) x h) }

pub unary_of-returns-in_ok-unary-in-Prefix : goal.unary_of-returns-in_ok-unary-in-Prefix
unary_of-returns-in_ok-unary-in-Prefix t c =
    let f = c.in-Some.ensures in let b = c.in_ok-body-in-Prefix.ensures.parsed in record { parsed = record { tree = _; parsed = S.prefixed_whole _ _ _ b.tree c.in-Some.first.now _ f.whole (cc (f.kind_is, c.start.ensures, c.in-Prefix.is)) b.parsed; stands = c.in_ok-unary-in-Prefix.ensures b.tree b.stands } }

pub unary_of-returns-in_default : goal.unary_of-returns-in_default
unary_of-returns-in_default t c =
    record { parsed = S.stuck_plain _ _ (λ tok s o e k. cc (c.in_default.ensures)) (I.stuck_nothing _ (λ tok s k e g o. absurd (cc (c.in_default.ensures)))) }

pub unary_of-returns-in_err-body-in-Prefix : goal.unary_of-returns-in_err-body-in-Prefix
unary_of-returns-in_err-body-in-Prefix t c =
    let p = err_from_is_err_and c.from_residual.result c.from_residual.ensures.1 in rw (p.1, p.2) (record { parsed = let f = c.in-Some.ensures in S.halts (λ at k. S.stuck_prefixed _ _ at _ c.in-Prefix.operator f.whole (cc (f.kind_is, c.start.ensures, c.in-Prefix.is)) k) _ c.in_err-body-in-Prefix.ensures.parsed })

pub primary_of-returns-in_default : goal.primary_of-returns-in_default
primary_of-returns-in_default t c =
    record { parsed = I.stuck_nothing _ (λ tok s k e g o. absurd (cc (c.in_default.ensures))) }

pub bracket_of-returns-in_err-body : goal.bracket_of-returns-in_err-body
bracket_of-returns-in_err-body t c =
    let p = err_from_is_err_and c.from_residual.result c.from_residual.ensures.1 in rw (p.1, p.2) (record { parsed = S.halts (λ at k. T.then_first (S.clear_closed (mark.Sign Close) refl) (λ z. clear_done _) k) _ c.in_err-body.ensures.parsed })

pub bracket_of-returns : goal.bracket_of-returns
bracket_of-returns t c =
    let b = c.in_ok-body.ensures.parsed in record { parsed = record { tree = _; phrase = (_, _, c.in_ok-body.ensures.parsed.phrase, (refl, refl)); fewer = omega (arith, c.in_ok-body.ensures.parsed.fewer); stands = c.bracketed.ensures b.tree b.stands } }

pub pair_of-returns-in_err-inner : goal.pair_of-returns-in_err-inner
pair_of-returns-in_err-inner t c =
    let p = err_from_is_err_and c.from_residual.result c.from_residual.ensures.1 in rw (p.1, p.2) (record { parsed = S.halts (λ at k. T.then_first (K.clear_mark (mark.Sign Open)) (λ z. clear_then (S.clear_closed (mark.Sign Comma) refl) (λ z. clear_then (S.clear_closed (mark.Sign Close) refl) (λ z. clear_done _))) k) _ c.in_err-inner.ensures.parsed })

pub pair_of-returns-in_err-left : goal.pair_of-returns-in_err-left
pair_of-returns-in_err-left t c =
    let p = err_from_is_err_and c.from_residual-in_err-left.result c.from_residual-in_err-left.ensures.1 in rw (p.1, p.2) (record { parsed = S.halts (λ at k. T.then_second (K.clear_mark (mark.Sign Open)) c.in_ok-inner.ensures.parsed (T.then_first (S.clear_closed (mark.Sign Comma) refl) (λ z. clear_then (S.clear_closed (mark.Sign Close) refl) (λ z. clear_done _)) k)) _ c.in_err-left.ensures.parsed })

pub pair_of-returns-in_err-right : goal.pair_of-returns-in_err-right
pair_of-returns-in_err-right t c =
    let p = err_from_is_err_and c.from_residual-in_err-right.result c.from_residual-in_err-right.ensures.1 in rw (p.1, p.2) (record { parsed = S.halts (λ at k. T.then_second (K.clear_mark (mark.Sign Open)) c.in_ok-inner.ensures.parsed (T.then_second (S.clear_closed (mark.Sign Comma) refl) c.in_ok-left.ensures.parsed.phrase (T.then_first (S.clear_closed (mark.Sign Close) refl) (λ z. clear_done _) k))) _ c.in_err-right.ensures.parsed })

pub pair_of-returns : goal.pair_of-returns
pair_of-returns t c =
    let l = c.in_ok-left.ensures.parsed in let r = c.in_ok-right.ensures.parsed in record { parsed = record { tree = _; phrase = (_, _, c.in_ok-inner.ensures.parsed, (_, _, c.in_ok-left.ensures.parsed.phrase, (_, _, c.in_ok-right.ensures.parsed.phrase, (refl, refl)))); fewer = omega (arith, c.in_ok-inner.ensures.fewer, c.in_ok-left.ensures.parsed.fewer, c.in_ok-right.ensures.parsed.fewer); stands = c.in_ok-built.ensures l.tree r.tree l.stands r.stands } }

pub absolute_of-returns-in_err-inner : goal.absolute_of-returns-in_err-inner
absolute_of-returns-in_err-inner t c =
    let p = err_from_is_err_and c.from_residual.result c.from_residual.ensures.1 in rw (p.1, p.2) (record { parsed = S.halts (λ at k. T.then_first (K.clear_mark (mark.Sign Open)) (λ z. clear_then (S.clear_closed (mark.Sign Close) refl) (λ z. clear_done _)) k) _ c.in_err-inner.ensures.parsed })

pub absolute_of-returns-in_err-body : goal.absolute_of-returns-in_err-body
absolute_of-returns-in_err-body t c =
    let p = err_from_is_err_and c.from_residual-in_err-body.result c.from_residual-in_err-body.ensures.1 in rw (p.1, p.2) (record { parsed = S.halts (λ at k. T.then_second (K.clear_mark (mark.Sign Open)) c.in_ok-inner.ensures.parsed (T.then_first (S.clear_closed (mark.Sign Close) refl) (λ z. clear_done _) k)) _ c.in_err-body.ensures.parsed })

pub absolute_of-returns : goal.absolute_of-returns
absolute_of-returns t c =
    let b = c.in_ok-body.ensures.parsed in record { parsed = record { tree = _; phrase = (_, _, c.in_ok-inner.ensures.parsed, (_, _, c.in_ok-body.ensures.parsed.phrase, (refl, refl))); fewer = omega (arith, c.in_ok-inner.ensures.fewer, c.in_ok-body.ensures.parsed.fewer); stands = c.in_ok-built.ensures b.tree b.stands } }

pub saturate_of-returns-in_err-inner : goal.saturate_of-returns-in_err-inner
saturate_of-returns-in_err-inner t c =
    let p = err_from_is_err_and c.from_residual.result c.from_residual.ensures.1 in rw (p.1, p.2) (record { parsed = S.halts (λ at k. T.then_first (K.clear_mark (mark.Sign Open)) (λ z. clear_then (S.clear_closed (mark.Sign Comma) refl) (λ z. clear_then K.clear_type (λ z. clear_then (K.clear_mark (mark.Sign Close)) (λ z. clear_done _)))) k) _ c.in_err-inner.ensures.parsed })

pub saturate_of-returns-in_err-body : goal.saturate_of-returns-in_err-body
saturate_of-returns-in_err-body t c =
    let p = err_from_is_err_and c.from_residual-in_err-body.result c.from_residual-in_err-body.ensures.1 in rw (p.1, p.2) (record { parsed = S.halts (λ at k. T.then_second (K.clear_mark (mark.Sign Open)) c.in_ok-inner.ensures.parsed (T.then_first (S.clear_closed (mark.Sign Comma) refl) (λ z. clear_then K.clear_type (λ z. clear_then (K.clear_mark (mark.Sign Close)) (λ z. clear_done _))) k)) _ c.in_err-body.ensures.parsed })

pub saturate_of-returns-in_err-to : goal.saturate_of-returns-in_err-to
saturate_of-returns-in_err-to t c =
    let p = err_from_is_err_and c.from_residual-in_err-to.result c.from_residual-in_err-to.ensures.1 in rw (p.1, p.2) (record { parsed = S.halts (λ at k. T.then_second (K.clear_mark (mark.Sign Open)) c.in_ok-inner.ensures.parsed (T.then_second (S.clear_closed (mark.Sign Comma) refl) c.in_ok-body.ensures.parsed.phrase (T.then_first K.clear_type (λ z. clear_then (K.clear_mark (mark.Sign Close)) (λ z. clear_done _)) k))) _ c.in_err-to.ensures.parsed })

pub saturate_of-returns-in_err-last : goal.saturate_of-returns-in_err-last
saturate_of-returns-in_err-last t c =
    let p = err_from_is_err_and c.from_residual-in_err-last.result c.from_residual-in_err-last.ensures.1 in rw (p.1, p.2) (record { parsed = S.halts (λ at k. T.then_second (K.clear_mark (mark.Sign Open)) c.in_ok-inner.ensures.parsed (T.then_second (S.clear_closed (mark.Sign Comma) refl) c.in_ok-body.ensures.parsed.phrase (T.then_second K.clear_type c.in_ok-to.ensures.parsed (T.then_first (K.clear_mark (mark.Sign Close)) (λ z. clear_done _) k)))) _ c.in_err-last.ensures.parsed })

pub saturate_of-returns : goal.saturate_of-returns
saturate_of-returns t c =
    let b = c.in_ok-body.ensures.parsed in record { parsed = record { tree = _; phrase = (_, _, c.in_ok-inner.ensures.parsed, (_, _, c.in_ok-body.ensures.parsed.phrase, (_, _, c.in_ok-to.ensures.parsed, (_, _, c.in_ok-last.ensures.parsed, (refl, refl))))); fewer = omega (arith, c.in_ok-inner.ensures.fewer, c.in_ok-body.ensures.parsed.fewer, c.in_ok-to.ensures.fewer, c.in_ok-last.ensures.fewer); stands = c.in_ok-built.ensures b.tree b.stands } }

pub choice_of-returns-in_err-inner : goal.choice_of-returns-in_err-inner
choice_of-returns-in_err-inner t c =
    let p = err_from_is_err_and c.from_residual.result c.from_residual.ensures.1 in rw (p.1, p.2) (record { parsed = S.halts (λ at k. T.then_first (K.clear_mark (mark.Sign Open)) (λ z. clear_then (S.clear_closed (mark.Sign Comma) refl) (λ z. clear_then (S.clear_closed (mark.Sign Comma) refl) (λ z. clear_then (S.clear_closed (mark.Sign Close) refl) (λ z. clear_done _)))) k) _ c.in_err-inner.ensures.parsed })

pub choice_of-returns-in_err-test : goal.choice_of-returns-in_err-test
choice_of-returns-in_err-test t c =
    let p = err_from_is_err_and c.from_residual-in_err-test.result c.from_residual-in_err-test.ensures.1 in rw (p.1, p.2) (record { parsed = S.halts (λ at k. T.then_second (K.clear_mark (mark.Sign Open)) c.in_ok-inner.ensures.parsed (T.then_first (S.clear_closed (mark.Sign Comma) refl) (λ z. clear_then (S.clear_closed (mark.Sign Comma) refl) (λ z. clear_then (S.clear_closed (mark.Sign Close) refl) (λ z. clear_done _))) k)) _ c.in_err-test.ensures.parsed })

pub choice_of-returns-in_err-left : goal.choice_of-returns-in_err-left
choice_of-returns-in_err-left t c =
    let p = err_from_is_err_and c.from_residual-in_err-left.result c.from_residual-in_err-left.ensures.1 in rw (p.1, p.2) (record { parsed = S.halts (λ at k. T.then_second (K.clear_mark (mark.Sign Open)) c.in_ok-inner.ensures.parsed (T.then_second (S.clear_closed (mark.Sign Comma) refl) c.in_ok-test.ensures.parsed.phrase (T.then_first (S.clear_closed (mark.Sign Comma) refl) (λ z. clear_then (S.clear_closed (mark.Sign Close) refl) (λ z. clear_done _)) k))) _ c.in_err-left.ensures.parsed })

pub choice_of-returns-in_err-right : goal.choice_of-returns-in_err-right
choice_of-returns-in_err-right t c =
    let p = err_from_is_err_and c.from_residual-in_err-right.result c.from_residual-in_err-right.ensures.1 in rw (p.1, p.2) (record { parsed = S.halts (λ at k. T.then_second (K.clear_mark (mark.Sign Open)) c.in_ok-inner.ensures.parsed (T.then_second (S.clear_closed (mark.Sign Comma) refl) c.in_ok-test.ensures.parsed.phrase (T.then_second (S.clear_closed (mark.Sign Comma) refl) c.in_ok-left.ensures.parsed.phrase (T.then_first (S.clear_closed (mark.Sign Close) refl) (λ z. clear_done _) k)))) _ c.in_err-right.ensures.parsed })

pub choice_of-returns : goal.choice_of-returns
choice_of-returns t c =
    let c' = c.in_ok-test.ensures.parsed in let l = c.in_ok-left.ensures.parsed in let r = c.in_ok-right.ensures.parsed in record { parsed = record { tree = _; phrase = (_, _, c.in_ok-inner.ensures.parsed, (_, _, c.in_ok-test.ensures.parsed.phrase, (_, _, c.in_ok-left.ensures.parsed.phrase, (_, _, c.in_ok-right.ensures.parsed.phrase, (refl, refl))))); fewer = omega (arith, c.in_ok-inner.ensures.fewer, c.in_ok-test.ensures.parsed.fewer, c.in_ok-left.ensures.parsed.fewer, c.in_ok-right.ensures.parsed.fewer); stands = c.in_ok-built.ensures c'.tree l.tree r.tree c'.stands l.stands r.stands } }

pub primary_of-returns-in_err-built-in_default-start : goal.primary_of-returns-in_err-built-in_default-start
primary_of-returns-in_err-built-in_default-start t c =
    let p = err_from_is_err_and c.from_residual.result c.from_residual.ensures.1 in rw (p.1, p.2) (record { parsed = let f = c.in-Some.ensures in S.halts (λ at k. I.stuck_inside _ _ at c.in-Some.first.now c.start.result f.whole (cc (f.kind_is, c.start.ensures)) (let d = c.in_default-start in I.opens_all c.start.result d.not-Image d.not-Prefix d.not-Nothing) k) _ c.in_err-built-in_default-start.ensures.parsed })

pub primary_of-returns-in-Prefix : goal.primary_of-returns-in-Prefix
primary_of-returns-in-Prefix t c =
    record { parsed = I.stuck_start _ _ _ _ c.start.result c.in-Some.ensures c.start.ensures (I.prefix_not c.start.result _ c.in-Prefix.is) }

pub primary_of-returns-in-Nothing : goal.primary_of-returns-in-Nothing
primary_of-returns-in-Nothing t c =
    record { parsed = I.stuck_start _ _ _ _ c.start.result c.in-Some.ensures c.start.ensures (I.nothing_not c.start.result c.in-Nothing.is) }

pub primary_of-returns-in-Some-edge : goal.primary_of-returns-in-Some-edge
primary_of-returns-in-Some-edge t c =
    let f = c.in-Some.ensures in let b = c.in_ok-built-in_default-start.ensures.parsed in record { parsed = I.stuck_edge _ _ b.tree (I.primary_whole _ _ _ b.tree c.in-Some.first.now c.start.result f.whole (cc (f.kind_is, c.start.ensures)) b.phrase) (I.edge_rank _ _ c.in-Some-edge.ensures) }

pub primary_of-returns-in-None : goal.primary_of-returns-in-None
primary_of-returns-in-None t c =
    let f = c.in-Some.ensures in let b = c.in_ok-built-in_default-start.ensures.parsed in record { parsed = record { tree = b.tree; parsed = record { phrase = closed (I.primary_whole _ _ _ b.tree c.in-Some.first.now c.start.result f.whole (cc (f.kind_is, c.start.ensures)) b.phrase); ends = c.in-None.ensures; fewer = omega (arith, b.fewer, f.fewer) }; stands = b.stands } }
