use Rattle.std.proofs.Common.{◌≡◌, ◌≤◌, ℕ, List, length, sym, subst, arith, rules}
use Rattle.batch_guess.proofs.Tables.{in_place}
use Rattle.batch_sim.proofs.judge.passes.pass_vec.Goals as goal

pub returns-clause-room : goal.returns-clause-room
returns-clause-room c =
    let to = c.args.room.now.to in
    let size : length c.pass_first.new.to ≡ length to.items = search rules in
    let long : c.args.access.now.count ≤ length c.pass_first.new.to = omega (arith, size, c.requires.room.to) in
    record {
      spares = c.pass_first.ensures.room;
      to = subst (λ (ws : List ℕ). c.args.access.now.count ≤ length ws) (sym (in_place to.len to.items c.pass_first.new.to to.ok.0 size)) long;
    }
