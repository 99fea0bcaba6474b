-- The nets of the inputs of a module.
use Rattle.std.specs.Prelude.{◌≡◌, ℕ}
use Rattle.wiring.specs.declared.netlist.Net.{Net}
use Rattle.wiring.specs.Netlist.{Netlist, net_width, reset_net, enable_net, din_net}
use Rattle.wiring.specs.Rules.{IsPortWidth}
use Rattle.net_build.specs.Draft.{IsNet}

-- the net of rst
pub record IsResetNet (b : Netlist) (n : Net) : Type 0 where
  -- it is the input rst
  pub reset : n ≡ reset_net
  -- it can go into right sides
  pub net : IsNet b n
  -- it has one bit
  pub width : net_width b n ≡ 1

-- the net of en
pub record IsEnableNet (b : Netlist) (n : Net) : Type 0 where
  -- it is the input en
  pub enable : n ≡ enable_net
  -- it can go into right sides
  pub net : IsNet b n
  -- it has one bit
  pub width : net_width b n ≡ 1

-- the net of the din of the number k
pub record IsDinNet (b : Netlist) (k : ℕ) (n : Net) : Type 0 where
  -- it is that input
  pub din : n ≡ din_net b k
  -- it can go into right sides
  pub net : IsNet b n
  -- its width is one that a port may have
  pub width : IsPortWidth (net_width b n)
