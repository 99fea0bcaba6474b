use Rattle.std.proofs.Common.{◌≡◌, ◌++◌, ◌∷◌, [], ◌∙◌}
use Rattle.netlist.specs.Scopes.{wire_name, reg_name, array_name}
use Rattle.netlist.proofs.Turning.{take_last}
use Rattle.netlist.proofs.checking.names_backwards.Goals as goal

pub loop-declaration-preserved : goal.loop-declaration-preserved
loop-declaration-preserved c =
    let last : c.loop-declaration.declarations.items ≡ c.pop.new.self.items ++ c.in-Some.declaration ∷ [] = c.in-Some.ensures.items in
    record {
      top = c.in_ok-note_name.ensures.top ∙ c.loop-declaration.invariant.top;
      wires = take_last wire_name c.loop-declaration.declarations.items c.pop.new.self.items c.in-Some.declaration c.loop-declaration.names.wires.items c.note_name.new.names.wires.items _ last c.in_ok-note_name.ensures.wires c.loop-declaration.invariant.wires;
      regs = take_last reg_name c.loop-declaration.declarations.items c.pop.new.self.items c.in-Some.declaration c.loop-declaration.names.regs.items c.note_name.new.names.regs.items _ last c.in_ok-note_name.ensures.regs c.loop-declaration.invariant.regs;
      arrays = take_last array_name c.loop-declaration.declarations.items c.pop.new.self.items c.in-Some.declaration c.loop-declaration.names.arrays.items c.note_name.new.names.arrays.items _ last c.in_ok-note_name.ensures.arrays c.loop-declaration.invariant.arrays;
    }
