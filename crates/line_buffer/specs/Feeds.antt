-- What goes into an array, and at which index.
use Rattle.std.specs.Prelude.{◌≡◌, ℕ, ◌-◌, ◌^◌, ◌<◌, ◌≤◌}
use Rattle.dk_base.specs.declared.TheConstants.{MAX_BUFFER_BITS}
use Rattle.wiring.specs.declared.netlist.Net.{Net}
use Rattle.wiring.specs.Netlist.{Netlist, net_width}
use Rattle.wiring.specs.Sizes.{IsWidth, IsDepth}
use Rattle.net_build.specs.Draft.{IsNet}
use Rattle.line_buffer.specs.declared.chains.Tap.{Tap}

-- a net can go into an array of this many words of this many bits
pub record CanFeed (b : Netlist) (width words : ℕ) (from : Net) : Type 0 where
  -- a word has 1 to 64 bits
  pub bits : IsWidth width
  -- an array may have this many words
  pub deep : IsDepth words
  -- the net is there
  pub there : IsNet b from
  -- it is as wide as a word
  pub wide : net_width b from ≡ width

-- a chain can go on from a tap to the tap of this age
pub record CanGoOn (b : Netlist) (width : ℕ) (from : Tap) (age : ℕ) : Type 0 where
  -- a word has 1 to 64 bits
  pub bits : IsWidth width
  -- ages ascend
  pub up : from.age ≤ age
  -- the age is within the limit
  pub most : age ≤ MAX_BUFFER_BITS
  -- the net of the tap is there
  pub there : IsNet b from.net
  -- it is as wide as a word
  pub wide : net_width b from.net ≡ width

-- from an index of this many bits one can go back this many words in a ring
pub record CanGoBack (b : Netlist) (index : Net) (bits words age : ℕ) : Type 0 where
  -- the index is there
  pub there : IsNet b index
  -- it has this many bits
  pub width : net_width b index ≡ bits
  -- it is 1 to 64
  pub wide : IsWidth bits
  -- they hold the last index
  pub fits : words - 1 < 2 ^ bits
  -- it is at least one word
  pub some : 0 < age
  -- and not the whole ring
  pub short : age < words
