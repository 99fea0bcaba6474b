use Rattle.std.proofs.Common.{◌∙◌, ℕ, List, length, ap, sym, subst, arith}
use Rattle.wiring.specs.declared.right.Atom.{Atom}
use Rattle.lane_rows.specs.Values.{values_of}
use Rattle.batch_sim.specs.Checked.{HaveAtomRows}
use Rattle.batch_sim.proofs.judge.are_right.Goals as goal

pub are_kept-requires : goal.are_kept-requires
are_kept-requires c =
    let nexts = ap (λ (l : List (Atom ℕ)). length l) c.deref.ensures.value in
    record {
      slots = omega (arith, c.requires.wide.regs, c.requires.slots, nexts);
      stored = c.requires.regs ∙ sym nexts;
      long = λ n l. c.requires.wide.long n (omega (arith, l, c.requires.slots));
      nexts = subst (λ (l : List (Atom ℕ)). HaveAtomRows (values_of c.args.rows.now) c.args.piece.now.count l) (sym c.deref.ensures.value) c.requires.wide.nexts;
      room = c.requires.spare;
    }
