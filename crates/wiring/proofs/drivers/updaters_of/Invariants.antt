use Rattle.std.proofs.Common.{◌≡◌, take, length}
use Rattle.wiring.specs.Tables.{IsUpdateTable}
use Rattle.wiring.proofs.drivers.updaters_of.Given as goal

abbrev pub invariant-loop-k : goal.invariant-loop-k
invariant-loop-k l = record {
  table : IsUpdateTable (take l.k l.updates) l.updaters;
  regs : length l.updaters.regs.items ≡ l.fn.regs;
  arrays : length l.updaters.arrays.items ≡ l.fn.arrays;
}
