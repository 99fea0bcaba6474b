-- What the netlist of a builder is: at its beginning, at any time, and at its end.
use Rattle.std.specs.Prelude.{◌≡◌, ◌^◌, ℕ, Bool, List, []}
use Rattle.wiring.specs.declared.netlist.Net.{Net}
use Rattle.wiring.specs.Netlist.{Netlist, net_width}
use Rattle.wiring.specs.BufferBits.{IsBufferBits, array_bits}
use Rattle.netlist.specs.Names.{NamedNetlist}
use Rattle.net_build.specs.Draft.{AllUpdated, IsDraft, IsNet, ValuesFit, empty_draft}
use Rattle.net_build.specs.Runs.{IsWhole, NeverStops, RunsOn, StaysBelow, StillBut}
use Rattle.net_build.specs.Control.{FedOnly, IsControlled}
use Rattle.net_build.specs.Naming.{finished}

-- a builder of a module with these widths of ports, before anything is added
pub record IsBegun (enable : Bool) (dins douts : List ℕ) (b : Netlist) : Type 0 where
  -- there are ports only
  pub ports : b ≡ empty_draft enable dins douts
  -- no register and no array is without an update
  pub updated : AllUpdated b
  -- none changes in held clocks
  pub still : StillBut b [] []
  -- no access is outside its array
  pub stops : NeverStops b
  -- no register takes in data
  pub control : IsControlled b []

-- what a builder's netlist is at any time
pub record IsInMaking (b : Netlist) : Type 0 where
  -- the k-th assign drives the k-th wire and reads earlier ones, no two have the same right side, and no two updates are of the same register or array
  pub draft : IsDraft b
  -- in every netlist that includes this one values fit their widths where contents and inputs do
  pub fits : ValuesFit b
  -- as they do in runs
  pub below : (n : Net) → IsNet b n → StaysBelow b (2 ^ net_width b n) n

-- the module of a builder whose outputs take these nets
pub record IsFinished (b : Netlist) (sources : List Net) (m : NamedNetlist) : Type 0 where
  -- it is the builder's netlist with the outputs' assigns, and names made of numbers
  pub made : m ≡ finished b sources
  -- it includes the builder's netlist and keeps the net rules
  pub whole : IsWhole m.netlist b
  -- no run that begins with a reset clock stops
  pub runs : NeverStops b → RunsOn m.netlist
  -- where registers take in no data, only the arrays count as buffer bits
  pub bits : IsControlled b [] → IsBufferBits m.netlist (array_bits b.arrays)
  -- no register except the copies depends on a din
  pub fed : (copies : List ℕ) → IsControlled b copies → FedOnly m.netlist copies
  -- registers and arrays that keep their contents in held clocks still do
  pub still : (copies : List ℕ) → StillBut b copies [] → StillBut m.netlist copies []
