use Rattle.std.proofs.Common.{◌≡◌, map, take}
use Rattle.verilog_text.specs.Stands.{declaration_of}
use Rattle.verilog_read.proofs.parts.declarations_of.Given as goal

abbrev pub invariant-loop-declaration : goal.invariant-loop-declaration
invariant-loop-declaration l = l.items.items ≡ map (declaration_of l.text) (take l.declaration-index l.declarations)
