-- Counters that arrays share.
use Rattle.std.proofs.Common.{◌≡◌, ℕ, ◌<◌, [], ◌∷◌, ◌++◌, sym, ap, subst, ◌∙◌}
use Rattle.std.specs.Prelude.{All, length, slice_index_or}
use Rattle.std.proofs.Math.Nat.{mod-one}
use Rattle.std.proofs.lemmas.List.Elements.{All-get_or, All-push, All-weaker}
use Rattle.wiring.specs.declared.right.Atom.{Atom}
use Rattle.wiring.specs.declared.right.Atom.TheVariants as atom
use Rattle.wiring.specs.declared.right.Right.{Right}
use Rattle.wiring.specs.declared.right.Right.TheVariants.{Copy}
use Rattle.wiring.specs.declared.netlist.Net.{Net}
use Rattle.wiring.specs.Netlist.{Netlist}
use Rattle.wiring.specs.Rights.{atom_value}
use Rattle.wiring.specs.Snapshot.{net_value}
use Rattle.net_build.specs.Includes.{Includes}
use Rattle.net_build.specs.Control.{is_control}
use Rattle.net_build.proofs.Depth.{within_constant}
use Rattle.net_build.specs.Logic.{IsGate}
use Rattle.net_build.specs.Counters.{clock_number}
use Rattle.net_build.specs.declared.counters.Indices.{Indices}
use Rattle.net_build.proofs.Grown.{net_more, width_more}
use Rattle.line_buffer.specs.declared.sharing.Turns.{Turns}
use Rattle.line_buffer.specs.Lines.{AreIndices}
use Rattle.line_buffer.specs.Depths.{line_operators}
use Rattle.line_buffer.specs.SharedCounters.{IsTurn, AreTurns}
use Rattle.line_buffer.proofs.Turning.{index_more}
use Rattle.line_buffer.proofs.Depth.{index_within_more}
use Rattle.line_buffer.proofs.BlockMade.{indices_more}

pub turn_more : (b a : Netlist) (words : ℕ) (net : Net) → Includes b a → IsTurn a words net → IsTurn b words net
turn_more b a words net f is = record {
  there = net_more b a f net is.there;
  width = width_more b a f net is.there.declared ∙ is.width;
  counter = index_more b a words net f is.counter;
  control = index_within_more b a line_operators net f is.control;
}

pub turns_more : (b a : Netlist) (turns : Turns) → Includes b a → AreTurns a turns → AreTurns b turns
turns_more b a turns f are = record {
  lines = All-weaker (λ (t : ℕ × Net). IsTurn a t.0 t.1) (λ (t : ℕ × Net). IsTurn b t.0 t.1) (λ t is. turn_more b a t.0 t.1 f is) turns.lines.items are.lines;
  blocks = All-weaker (λ (t : ℕ × Indices). AreIndices a t.0 t.1) (λ (t : ℕ × Indices). AreIndices b t.0 t.1) (λ t is. indices_more b a t.0 t.1 f is) turns.blocks.items are.blocks;
}

-- one counter more
pub with_line : (b : Netlist) (new old : Turns) (words : ℕ) (net : Net) → new.lines.items ≡ old.lines.items ++ (words, net) ∷ [] → new.blocks.items ≡ old.blocks.items → AreTurns b old → IsTurn b words net → AreTurns b new
with_line b new old words net more same are is = record {
  lines = subst (All (λ (t : ℕ × Net). IsTurn b t.0 t.1)) (sym more) (All-push (λ (t : ℕ × Net). IsTurn b t.0 t.1) old.lines.items (words, net) are.lines is);
  blocks = subst (All (λ (t : ℕ × Indices). AreIndices b t.0 t.1)) (sym same) are.blocks;
}

pub with_block : (b : Netlist) (new old : Turns) (words : ℕ) (at : Indices) → new.blocks.items ≡ old.blocks.items ++ (words, at) ∷ [] → new.lines.items ≡ old.lines.items → AreTurns b old → AreIndices b words at → AreTurns b new
with_block b new old words at more same are is = record {
  lines = subst (All (λ (t : ℕ × Net). IsTurn b t.0 t.1)) (sym same) are.lines;
  blocks = subst (All (λ (t : ℕ × Indices). AreIndices b t.0 t.1)) (sym more) (All-push (λ (t : ℕ × Indices). AreIndices b t.0 t.1) old.blocks.items (words, at) are.blocks is);
}

-- a constant 0 is the index of an array of one word
pub zero_turn : (new old : Netlist) (a : Atom Net) (net : Net) → a ≡ atom.Constant (record { width = 1; value = 0 }) → IsGate new old (Copy a) net → IsTurn new 1 net
zero_turn new old a net e g = record {
  there = g.net;
  width = g.width ∙ ap (λ (x : Atom Net). Rattle.net_build.specs.Draft.width_of old (let r : Right Net ℕ = Copy x in r)) e;
  counter = record {
    counts = λ m from before c s clock since.
        g.value m s clock.whole.includes clock.at.snapshot.settled
        ∙ ap (λ (x : Atom Net). atom_value (net_value s) x) e
        ∙ sym (mod-one (clock_number m before c));
  };
  control = g.within (is_control new.enable) line_operators (within_constant new (is_control new.enable) line_operators a (record { width = 1; value = 0 }) e);
}

-- a counter that is found in the list
pub line_found : (b : Netlist) (turns : Turns) (k words : ℕ) (t : ℕ × Net) → k < length turns.lines.items → t ≡ slice_index_or turns.lines.items k t → t.0 ≡ words → AreTurns b turns → IsTurn b words t.1
line_found b turns k words t within at e are =
    subst (λ (w : ℕ). IsTurn b w t.1) e
    (subst (λ (s : ℕ × Net). IsTurn b s.0 s.1) (sym at)
    (All-get_or (λ (s : ℕ × Net). IsTurn b s.0 s.1) turns.lines.items k t within are.lines))

pub block_found : (b : Netlist) (turns : Turns) (k words : ℕ) (t : ℕ × Indices) → k < length turns.blocks.items → t ≡ slice_index_or turns.blocks.items k t → t.0 ≡ words → AreTurns b turns → AreIndices b words t.1
block_found b turns k words t within at e are =
    subst (λ (w : ℕ). AreIndices b w t.1) e
    (subst (λ (s : ℕ × Indices). AreIndices b s.0 s.1) (sym at)
    (All-get_or (λ (s : ℕ × Indices). AreIndices b s.0 s.1) turns.blocks.items k t within are.blocks))
