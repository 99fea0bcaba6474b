use Rattle.std.proofs.Common.{List, ap, ◌∙◌, arith}
use Rattle.wiring.specs.declared.netlist.Update.{Update}
use Rattle.wiring.specs.declared.netlist.Update.TheVariants.{Set}
use Rattle.wiring.specs.declared.right.Atom.TheVariants as atom
use Rattle.wiring.specs.Netlist.{Netlist, netlist_of}
use Rattle.net_build.specs.Draft.{number, with_update}
use Rattle.net_build.proofs.Updated.{CanAdd, set_at, draft_updated, includes_updated, edge_updated, stops_set, control_set}
use Rattle.net_build.proofs.builder.Builder.set.Goals as goal

pub add_set-requires : goal.add_set-requires
add_set-requires c =
    let b : Netlist = netlist_of c.self.inside.wiring in
    let can : CanAdd b (Set (number c.args.reg) (atom.Net c.args.value)) = set_at b c.args.self.now c.args.reg c.args.value c.self.view_is c.self.invariant.0 c.requires.nets.reg c.requires.nets.value c.requires.nets.width c.requires.free in
    omega (arith, can.room, c.self.invariant.2, c.self.inside.wiring.updates.ok.0)

pub invariant_of-self : goal.invariant_of-self
invariant_of-self c =
    let b : Netlist = netlist_of c.self.inside.wiring in
    let can : CanAdd b (Set (number c.args.reg) (atom.Net c.args.value)) = set_at b c.args.self.now c.args.reg c.args.value c.self.view_is c.self.invariant.0 c.requires.nets.reg c.requires.nets.value c.requires.nets.width c.requires.free in
    (draft_updated b c.add_set.new.updates.items (Set (number c.args.reg) (atom.Net c.args.value)) c.add_set.ensures.items can, c.self.invariant.1, omega (arith, c.self.invariant.2, c.add_set.ensures.room))

pub returns : goal.returns
returns c = record {
  includes = includes_updated (netlist_of c.self.inside.wiring) c.args.self.now c.add_set.new.updates.items (Set (number c.args.reg) (atom.Net c.args.value)) c.self.view_is c.add_set.ensures.items;
  update = let b : Netlist = netlist_of c.self.inside.wiring in
      ap (λ (us : List Update). let n : Netlist = record b { updates = us } in n) c.add_set.ensures.items ∙ ap (λ (n : Netlist). with_update n (Set (number c.args.reg) (atom.Net c.args.value))) c.self.view_is;
  edge = edge_updated (netlist_of c.self.inside.wiring) c.add_set.new.updates.items (Set (number c.args.reg) (atom.Net c.args.value)) c.add_set.ensures.items;
  stops = λ never. stops_set (netlist_of c.self.inside.wiring) c.args.self.now c.add_set.new.updates.items (number c.args.reg) (atom.Net c.args.value) c.self.view_is c.add_set.ensures.items never;
  control = λ copies is takes short. control_set (netlist_of c.self.inside.wiring) c.args.self.now c.add_set.new.updates.items (number c.args.reg) c.args.value copies c.self.view_is c.add_set.ensures.items is takes short;
}
