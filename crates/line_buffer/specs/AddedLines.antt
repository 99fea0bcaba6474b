-- What a call adds for a delay line.
use Rattle.std.specs.Prelude.{◌≡◌, ℕ, ◌+◌, [], ◌∷◌, length}
use Rattle.wiring.specs.declared.netlist.Net.{Net}
use Rattle.wiring.specs.declared.netlist.Holder.TheVariants.{OfNet}
use Rattle.wiring.specs.Netlist.{Netlist, net_width}
use Rattle.net_build.specs.Draft.{IsNet}
use Rattle.net_build.specs.Depth.{IsWithin}
use Rattle.line_buffer.specs.declared.lines.DelayLine.{DelayLine}
use Rattle.line_buffer.specs.Depths.{line_operators}
use Rattle.line_buffer.specs.Buffers.{AddsBuffer, is_buffer}
use Rattle.line_buffer.specs.Indices.{AreReadOnce}
use Rattle.line_buffer.specs.Lines.{IsDelayLine}
use Rattle.line_buffer.specs.SharedCounters.{IsTurn}

-- A delay line for the net `value` is added: one array of this many words of this many bits. Its index is a counter of as many words. The word that comes out has the width, and is made only of this array, rst, en and registers, with one operator at most.
pub record AddsLine (new old : Netlist) (width words : ℕ) (value : Net) (line : DelayLine) : Type 0 where
  pub adds : AddsBuffer new old ((record { width = width; depth = words }) ∷ []) []
  pub array : line.array ≡ length old.arrays
  pub delays : IsDelayLine new (length old.arrays) words value line.word
  pub once : AreReadOnce new old
  pub word : IsNet new line.word
  pub word_width : net_width new line.word ≡ width
  pub index : IsTurn new words line.index
  pub made : IsWithin new (is_buffer new.enable (length old.arrays) (length old.arrays + 1)) line_operators (OfNet line.word)
