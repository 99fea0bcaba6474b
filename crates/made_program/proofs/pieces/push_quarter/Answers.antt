use Rattle.std.proofs.Common.{codes}
use Rattle.made_program.proofs.Joins.{five}
use Rattle.made_program.proofs.pieces.push_quarter.Goals as goal

pub returns : goal.returns
returns c =
    five c.args.to.now.items c.extend_from_slice.new.self.items c.extend_from_slice-2.new.self.items c.extend_from_slice-3.new.self.items c.extend_from_slice-4.new.self.items c.extend_from_slice-5.new.self.items
    (codes ",(") c.args.first.now (codes "*3+") c.args.second.now (codes ")>>2) as u8")
    c.in_ok-extend_from_slice.ensures.items c.in_ok-extend_from_slice-2.ensures.items c.in_ok-extend_from_slice-3.ensures.items c.in_ok-extend_from_slice-4.ensures.items c.in_ok-extend_from_slice-5.ensures.items
