use Rattle.std.proofs.Common.{inr, ◌∙◌}
use Rattle.net_build.proofs.Grown.{net_more, width_more}
use Rattle.edge_select.proofs.Combining.{bit_more}
use Rattle.edge_select.proofs.Beside.{register_adds}
use Rattle.edge_select.proofs.Levels.{value_depth}
use Rattle.edge_select.proofs.registers.register_of.Goals as goal

pub choice_of-requires : goal.choice_of-requires
choice_of-requires c =
    let b = c.reg.new.self in
    let grows = c.reg.ensures.includes in
    record {
      load = bit_more b c.args.b.now c.args.load grows c.requires.load;
      test = record { net = net_more b c.args.b.now grows c.args.test c.requires.test.net; width = width_more b c.args.b.now grows c.args.test c.requires.test.net.declared ∙ c.requires.test.width };
      register = record { net = c.in_ok-register.ensures.net; width = c.in_ok-register.ensures.width };
    }

pub returns : goal.returns
returns c =
    record {
      adds = register_adds c.args.b.now c.reg.new.self c.choice_of.new.b c.still_value.new.b c.set.new.self c.args.load c.args.first c.args.test c.in_ok-register.register c.in_ok-next.next c.in_ok-value.value c.in_ok-register.ensures.ok c.in_ok-register.ensures.number c.in_ok-next.ensures.logic c.in_ok-value.ensures.logic c.set.ensures.update c.in_ok-next.ensures.test c.in_ok-value.ensures.test
          c.in_ok-register.ensures.net c.in_ok-register.ensures.width c.set.ensures.edge (λ h. c.set.ensures.stops (c.in_ok-value.ensures.logic.stops (c.in_ok-next.ensures.logic.stops (c.reg.ensures.stops h))))
          (λ copies h is short. c.set.ensures.control copies (c.in_ok-value.ensures.logic.control copies (c.in_ok-next.ensures.logic.control copies (c.reg.ensures.control copies h))) (inr is) short)
          (value_depth c.args.b.now c.reg.new.self c.choice_of.new.b c.still_value.new.b c.set.new.self c.args.load c.args.test c.in_ok-register.register c.in_ok-next.next c.in_ok-value.value _ c.in_ok-register.ensures.number c.reg.ensures.includes c.in_ok-value.ensures.logic.includes c.set.ensures.includes c.in_ok-next.ensures.depth c.in_ok-value.ensures.depth);
    }
