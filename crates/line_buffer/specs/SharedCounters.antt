-- The counters of arrays, which arrays of the same number of words share.
use Rattle.std.specs.Prelude.{◌≡◌, ℕ, ◌+◌, ◌-◌, Bool, not, List, map, filter, fold, sum_by, All}
use Rattle.dk_base.specs.Numbers.{bit_count}
use Rattle.wiring.specs.declared.netlist.Net.{Net}
use Rattle.wiring.specs.declared.netlist.Holder.TheVariants.{OfNet}
use Rattle.wiring.specs.declared.netlist.Shape.{Shape}
use Rattle.wiring.specs.Netlist.{Netlist, net_width}
use Rattle.net_build.specs.Draft.{IsNet}
use Rattle.net_build.specs.Control.{is_control}
use Rattle.net_build.specs.Depth.{IsWithin}
use Rattle.net_build.specs.Registers.{register_bits, count_bits, with_new}
use Rattle.net_build.specs.declared.counters.Indices.{Indices}
use Rattle.line_buffer.specs.declared.sharing.Turns.{Turns}
use Rattle.line_buffer.specs.Depths.{line_operators}
use Rattle.line_buffer.specs.Lines.{IsIndex, AreIndices}

-- an index of arrays of this number of words, which is made of rst, en and registers, with one operator at most
pub record IsTurn (b : Netlist) (words : ℕ) (net : Net) : Type 0 where
  pub there : IsNet b net
  pub width : net_width b net ≡ bit_count (words - 1)
  pub counter : IsIndex b words net
  pub control : IsWithin b (is_control b.enable) line_operators (OfNet net)

-- each counter is one of the number of words that it is listed with
pub record AreTurns (b : Netlist) (turns : Turns) : Type 0 where
  pub lines : All (λ t. IsTurn b t.0 t.1) turns.lines.items
  pub blocks : All (λ t. AreIndices b t.0 t.1) turns.blocks.items

-- the numbers of words that have a counter
abbrev pub line_words : Turns → List ℕ
line_words turns = map (λ (t : ℕ × Net). t.0) turns.lines.items

abbrev pub block_words : Turns → List ℕ
block_words turns = map (λ (t : ℕ × Indices). t.0) turns.blocks.items

-- the bits of the registers of counters of arrays of these numbers of words
abbrev pub index_bits : (words : List ℕ) → ℕ
index_bits words = sum_by (λ n. count_bits (n - 1)) words

abbrev pub turn_bits : Turns → ℕ
turn_bits turns = index_bits (line_words turns) + index_bits (block_words turns)

-- the numbers of words of the arrays that are long, and of those that are not
abbrev pub long_words : (long : (words : ℕ) → Bool) → List Shape → List ℕ
long_words long shapes = map (λ (s : Shape). s.depth) (filter (λ (s : Shape). long s.depth) shapes)

abbrev pub short_words : (long : (words : ℕ) → Bool) → List Shape → List ℕ
short_words long shapes = map (λ (s : Shape). s.depth) (filter (λ (s : Shape). not (long s.depth)) shapes)

-- the bits of a copy for each long array, as wide as its words
abbrev pub copy_bits : (long : (words : ℕ) → Bool) → List Shape → ℕ
copy_bits long shapes = sum_by (λ (s : Shape). s.width) (filter (λ (s : Shape). long s.depth) shapes)

-- For arrays of these shapes only the registers are added that they need: a counter for each number of words that has none yet, and a copy for each long array.
pub record CountsTurns (new old : Netlist) (now before : Turns) (long : (words : ℕ) → Bool) (shapes : List Shape) : Type 0 where
  pub lines : line_words now ≡ fold with_new (line_words before) (short_words long shapes)
  pub blocks : block_words now ≡ fold with_new (block_words before) (long_words long shapes)
  pub bits : register_bits new + turn_bits before ≡ register_bits old + (turn_bits now + copy_bits long shapes)
