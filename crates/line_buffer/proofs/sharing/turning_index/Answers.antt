use Rattle.std.proofs.Common.{◌≡◌, ◌++◌, ◌∷◌, [], ℕ, Bool, refl, subst, arith}
use Rattle.std.specs.Prelude.{if◌then◌else◌}
use Rattle.net_build.proofs.Failing.{at_err}
use Rattle.line_buffer.specs.SharedCounters.{index_bits, line_words, block_words}
use Rattle.wiring.specs.declared.netlist.Net.{Net}
use Rattle.line_buffer.proofs.Counted.{bits_pushed, listed_new}
use Rattle.line_buffer.proofs.Adding.{adds_none}
use Rattle.line_buffer.proofs.Shared.{turns_more, with_line}
use Rattle.line_buffer.proofs.sharing.turning_index.Goals as goal

pub returns-in-Some : goal.returns-in-Some
returns-in-Some c = record {
  adds = adds_none c.args.b.now;
  turn = c.in-Some.ensures.found c.args.b.now c.requires.turns;
  turns = c.requires.turns;
  lines = subst (λ (t : Bool). line_words c.args.turns.now ≡ (if t then line_words c.args.turns.now else line_words c.args.turns.now ++ c.args.words ∷ [])) c.in-Some.ensures.listed refl;
  blocks = refl;
  bits = refl;
}

pub returns : goal.returns
returns c = record {
  adds = c.in_ok-net.ensures.adds;
  turn = c.in_ok-net.ensures.turn;
  turns = with_line c.new_turn.new.b (record { lines = c.push.new.self; blocks = c.args.turns.now.blocks }) c.args.turns.now c.args.words c.in_ok-net.net c.in_ok-push.ensures.items refl (turns_more c.new_turn.new.b c.args.b.now c.args.turns.now c.in_ok-net.ensures.adds.includes c.requires.turns) c.in_ok-net.ensures.turn;
  lines = listed_new (λ (t : ℕ × Net). t.0) c.push.new.self.items c.args.turns.now.lines.items (c.args.words, c.in_ok-net.net) c.args.words refl c.in_ok-push.ensures.items c.in_default.ensures.listed;
  blocks = refl;
  bits = omega (arith, bits_pushed (λ (t : ℕ × Net). t.0) c.push.new.self.items c.args.turns.now.lines.items (c.args.words, c.in_ok-net.net) c.args.words _ _ (index_bits (block_words c.args.turns.now)) refl c.in_ok-push.ensures.items c.in_ok-net.ensures.bits);
}

pub returns-in_err-net : goal.returns-in_err-net
returns-in_err-net c = at_err _ _ _ c.from_residual.result c.from_residual.ensures.1 c.in_err-net.ensures

pub returns-in_err-push : goal.returns-in_err-push
returns-in_err-push c = at_err _ _ _ c.from_residual-in_err-push.result c.from_residual-in_err-push.ensures.1 c.in_ok-net.ensures.adds.includes
