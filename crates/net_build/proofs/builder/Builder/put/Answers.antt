use Rattle.std.proofs.Common.{List, ap, ◌∙◌, arith}
use Rattle.wiring.specs.declared.netlist.Update.{Update}
use Rattle.wiring.specs.declared.netlist.Update.TheVariants.{Put}
use Rattle.wiring.specs.declared.right.Atom.TheVariants as atom
use Rattle.wiring.specs.Netlist.{Netlist, netlist_of}
use Rattle.net_build.specs.Draft.{with_update}
use Rattle.net_build.proofs.Updated.{CanAdd, put_at, draft_updated, includes_updated, edge_updated, stops_put, control_put}
use Rattle.net_build.proofs.builder.Builder.put.Goals as goal

pub add_put-requires : goal.add_put-requires
add_put-requires c =
    let b : Netlist = netlist_of c.self.inside.wiring in
    let can : CanAdd b (Put c.args.array (atom.Net c.args.index) (atom.Net c.args.value)) = put_at b c.args.self.now c.args.array c.args.index c.args.value c.self.view_is c.self.invariant.0 c.requires.array c.requires.index c.requires.value c.requires.width c.requires.free in
    omega (arith, can.room, c.self.invariant.2, c.self.inside.wiring.updates.ok.0)

pub invariant_of-self : goal.invariant_of-self
invariant_of-self c =
    let b : Netlist = netlist_of c.self.inside.wiring in
    let can : CanAdd b (Put c.args.array (atom.Net c.args.index) (atom.Net c.args.value)) = put_at b c.args.self.now c.args.array c.args.index c.args.value c.self.view_is c.self.invariant.0 c.requires.array c.requires.index c.requires.value c.requires.width c.requires.free in
    (draft_updated b c.add_put.new.updates.items (Put c.args.array (atom.Net c.args.index) (atom.Net c.args.value)) c.add_put.ensures.items can, c.self.invariant.1, omega (arith, c.self.invariant.2, c.add_put.ensures.room))

pub returns : goal.returns
returns c = record {
  includes = includes_updated (netlist_of c.self.inside.wiring) c.args.self.now c.add_put.new.updates.items (Put c.args.array (atom.Net c.args.index) (atom.Net c.args.value)) c.self.view_is c.add_put.ensures.items;
  update = let b : Netlist = netlist_of c.self.inside.wiring in
      ap (λ (us : List Update). let n : Netlist = record b { updates = us } in n) c.add_put.ensures.items ∙ ap (λ (n : Netlist). with_update n (Put c.args.array (atom.Net c.args.index) (atom.Net c.args.value))) c.self.view_is;
  edge = edge_updated (netlist_of c.self.inside.wiring) c.add_put.new.updates.items (Put c.args.array (atom.Net c.args.index) (atom.Net c.args.value)) c.add_put.ensures.items;
  stops = λ never inside. stops_put (netlist_of c.self.inside.wiring) c.args.self.now c.add_put.new.updates.items c.args.array (atom.Net c.args.index) (atom.Net c.args.value) c.self.view_is c.add_put.ensures.items never inside;
  control = λ copies is. control_put (netlist_of c.self.inside.wiring) c.args.self.now c.add_put.new.updates.items c.args.array (atom.Net c.args.index) (atom.Net c.args.value) copies c.self.view_is c.add_put.ensures.items is;
}
