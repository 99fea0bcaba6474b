use Rattle.std.proofs.Common.{◌≡◌, ◌++◌, ◌∷◌, [], ℕ, Bool, refl, subst, arith}
use Rattle.std.specs.Prelude.{if◌then◌else◌}
use Rattle.net_build.proofs.Failing.{at_err}
use Rattle.line_buffer.specs.SharedCounters.{index_bits, line_words, block_words}
use Rattle.net_build.specs.declared.counters.Indices.{Indices}
use Rattle.line_buffer.proofs.Counted.{bits_pushed, listed_new}
use Rattle.line_buffer.proofs.Adding.{adds_none}
use Rattle.line_buffer.proofs.Shared.{turns_more, with_block}
use Rattle.line_buffer.proofs.sharing.turning_indices.Goals as goal

pub returns-in-Some : goal.returns-in-Some
returns-in-Some c = record {
  adds = adds_none c.args.b.now;
  indices = c.in-Some.ensures.found c.args.b.now c.requires.turns;
  turns = c.requires.turns;
  lines = refl;
  blocks = subst (λ (t : Bool). block_words c.args.turns.now ≡ (if t then block_words c.args.turns.now else block_words c.args.turns.now ++ c.args.words ∷ [])) c.in-Some.ensures.listed refl;
  bits = λ two. refl;
}

pub returns : goal.returns
returns c = record {
  adds = c.in_ok-at.ensures.adds;
  indices = c.in_ok-at.ensures.indices;
  turns = with_block c.new_turns.new.b (record { lines = c.args.turns.now.lines; blocks = c.push.new.self }) c.args.turns.now c.args.words c.in_ok-at.at c.in_ok-push.ensures.items refl (turns_more c.new_turns.new.b c.args.b.now c.args.turns.now c.in_ok-at.ensures.adds.includes c.requires.turns) c.in_ok-at.ensures.indices;
  lines = refl;
  blocks = listed_new (λ (t : ℕ × Indices). t.0) c.push.new.self.items c.args.turns.now.blocks.items (c.args.words, c.in_ok-at.at) c.args.words refl c.in_ok-push.ensures.items c.in_default.ensures.listed;
  bits = λ two. omega (arith, bits_pushed (λ (t : ℕ × Indices). t.0) c.push.new.self.items c.args.turns.now.blocks.items (c.args.words, c.in_ok-at.at) c.args.words _ _ (index_bits (line_words c.args.turns.now)) refl c.in_ok-push.ensures.items (c.in_ok-at.ensures.bits two));
}

pub returns-in_err-at : goal.returns-in_err-at
returns-in_err-at c = at_err _ _ _ c.from_residual.result c.from_residual.ensures.1 c.in_err-at.ensures

pub returns-in_err-push : goal.returns-in_err-push
returns-in_err-push c = at_err _ _ _ c.from_residual-in_err-push.result c.from_residual-in_err-push.ensures.1 c.in_ok-at.ensures.adds.includes
