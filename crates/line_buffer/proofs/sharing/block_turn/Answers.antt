use Rattle.std.proofs.Common.{◌<◌, ◌≤◌, ℕ, length, sym, arith}
use Rattle.net_build.specs.declared.counters.Indices.{Indices}
use Rattle.line_buffer.proofs.Rotations.{yes_eq, no_eq}
use Rattle.line_buffer.proofs.Counted.{none_more, none_at_all, one_there}
use Rattle.line_buffer.proofs.Shared.{block_found}
use Rattle.line_buffer.proofs.sharing.block_turn.Goals as goal

pub returns-then-count-words-clause-found : goal.returns-then-count-words-clause-found
returns-then-count-words-clause-found c b are =
    let within : c.loop-k.k < length c.args.turns.now.blocks.items = omega (arith, c.loop-k-test.true, c.len-k-end.ensures, c.args.turns.now.blocks.ok.0) in
    block_found b c.args.turns.now c.loop-k.k c.args.words c.index.result.now within c.index.ensures c.if-count-words.true are

pub returns-then-count-words-clause-listed : goal.returns-then-count-words-clause-listed
returns-then-count-words-clause-listed c =
    let within : c.loop-k.k < length c.args.turns.now.blocks.items = omega (arith, c.loop-k-test.true, c.len-k-end.ensures, c.args.turns.now.blocks.ok.0) in
    sym (one_there (λ (t : ℕ × Indices). t.0) c.args.words c.args.turns.now.blocks.items c.loop-k.k c.index.result.now within c.index.ensures (yes_eq c.index.result.now.0 c.args.words c.if-count-words.true))

pub loop-k-preserved : goal.loop-k-preserved
loop-k-preserved c =
    let within : c.loop-k.k < length c.args.turns.now.blocks.items = omega (arith, c.loop-k-test.true, c.len-k-end.ensures, c.args.turns.now.blocks.ok.0) in
    record { none = none_more (λ (t : ℕ × Indices). t.0) c.args.words c.args.turns.now.blocks.items c.loop-k.k c.index.result.now within c.index.ensures (no_eq c.index.result.now.0 c.args.words c.if-count-words.false) c.loop-k.invariant.none }

pub returns-clause-listed : goal.returns-clause-listed
returns-clause-listed c =
    let all : length c.args.turns.now.blocks.items ≤ c.loop-k.k = omega (arith, c.loop-k-test.false, c.len-k-end.ensures, c.args.turns.now.blocks.ok.0) in
    sym (none_at_all (λ (t : ℕ × Indices). t.0) c.args.words c.args.turns.now.blocks.items c.loop-k.k all c.loop-k.invariant.none)
