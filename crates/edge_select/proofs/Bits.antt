-- The bits of the registers of frame tests.
use Rattle.std.proofs.Common.{◌≡◌, ℕ, ◌+◌, ◌-◌, ◌<◌, ◌≤◌, Bool, true, [], ◌∷◌, ◌++◌, length, Option, None, Some, ap, ◌∙◌, arith}
use Rattle.std.specs.Prelude.{if◌then◌else◌, nat_lt, nat_le, ◌&&◌}
use Rattle.std.proofs.lemmas.List.{length_push}
use Rattle.std.proofs.lemmas.Bool.{false_from_ne_true, and_parts, ltb-true, leb-true}
use Rattle.dk_base.specs.Frames.{Size, area}
use Rattle.dk_base.specs.FrameSizes.{size_of}
use Rattle.dk_base.specs.Numbers.{bit_count}
use Rattle.wiring.specs.Netlist.{Netlist}
use Rattle.net_build.specs.Registers.{register_bits, count_bits}
use Rattle.net_build.specs.Logic.{AddsLogic}
use Rattle.net_build.proofs.Bits.{bits_same, bits_more, bits_two_more}
use Rattle.edge_select.specs.declared.counters.Counters.{Counters}
use Rattle.edge_select.specs.declared.frame_tests.Test.{Test}
use Rattle.edge_select.specs.declared.frame_tests.FrameTests.{FrameTests}
use Rattle.edge_select.specs.FrameTests.{counter_bits, CountsTests, start_bits}

-- with one more test
pub counts_column : (new mid old : Netlist) (now before : FrameTests) (k : Counters) (t : Test) → register_bits mid + counter_bits before.counters ≡ register_bits old + counter_bits (Some k) → register_bits new ≡ register_bits mid + 1 →
    now.counters ≡ Some k → now.columns.items ≡ before.columns.items ++ t ∷ [] → now.rows.items ≡ before.rows.items → CountsTests new old now before
counts_column new mid old now before k t counters one ek ec er =
    let a : counter_bits now.counters ≡ counter_bits (Some k) = ap counter_bits ek in
    let c : length now.columns.items ≡ length before.columns.items + 1 = ap length ec ∙ length_push before.columns.items t in
    let r : length now.rows.items ≡ length before.rows.items = ap length er in
    omega (arith, counters, one, a, c, r)

pub counts_row : (new mid old : Netlist) (now before : FrameTests) (k : Counters) (t : Test) → register_bits mid + counter_bits before.counters ≡ register_bits old + counter_bits (Some k) → register_bits new ≡ register_bits mid + 1 →
    now.counters ≡ Some k → now.columns.items ≡ before.columns.items → now.rows.items ≡ before.rows.items ++ t ∷ [] → CountsTests new old now before
counts_row new mid old now before k t counters one ek ec er =
    let a : counter_bits now.counters ≡ counter_bits (Some k) = ap counter_bits ek in
    let c : length now.columns.items ≡ length before.columns.items = ap length ec in
    let r : length now.rows.items ≡ length before.rows.items + 1 = ap length er ∙ length_push before.rows.items t in
    omega (arith, counters, one, a, c, r)

-- one after another
pub counts_on : (a b c : Netlist) (i j k : FrameTests) → CountsTests b a j i → CountsTests c b k j → CountsTests c a k i
counts_on a b c i j k f g = omega (arith, f, g)

pub counts_logic : (new mid old : Netlist) (now before : FrameTests) → AddsLogic new mid → CountsTests mid old now before → CountsTests new old now before
counts_logic new mid old now before logic is = (let e : register_bits new ≡ register_bits mid = bits_same new mid logic.wires.regs in omega (arith, e, is))

pub counts_none : (new old : Netlist) (tests : FrameTests) → AddsLogic new old → CountsTests new old tests tests
counts_none new old tests logic = (let e : register_bits new ≡ register_bits old = bits_same new old logic.wires.regs in omega (arith, e))

-- a register that is set at a pixel, or a count
pub at_a_pixel : (k : Counters) (size : Size) (last : ℕ) → 1 < last → last ≤ area size → start_bits (Some k) size last ≡ 1
at_a_pixel k size last more most = ap (λ (t : Bool). if t then 1 else count_bits last) (let e : (nat_lt 1 last && nat_le last (area size)) ≡ true = grind (arith, more, most) in e)

pub at_no_pixel : (k : Counters) (size : Size) (last : ℕ) → (1 < last → last ≤ area size → ⊥) → start_bits (Some k) size last ≡ count_bits last
at_no_pixel k size last none = ap (λ (t : Bool). if t then 1 else count_bits last) (false_from_ne_true (nat_lt 1 last && nat_le last (area size)) (λ e. none (ltb-true 1 last (and_parts (nat_lt 1 last) (nat_le last (area size)) e).0) (leb-true last (area size) (and_parts (nat_lt 1 last) (nat_le last (area size)) e).1)))

-- counters that are added
pub counters_bits : (new old : Netlist) (size : Size) (before : Option Counters) (k : Counters) → before ≡ None → size_of k.pixel.size ≡ size → new.regs ≡ old.regs ++ bit_count (size.width - 1) ∷ (bit_count (size.height - 1) ∷ []) →
    register_bits new + counter_bits before ≡ register_bits old + counter_bits (Some k)
counters_bits new old size before k none e regs =
    let two : register_bits new ≡ register_bits old + (bit_count (size.width - 1) + bit_count (size.height - 1)) = bits_two_more new old (bit_count (size.width - 1)) (bit_count (size.height - 1)) regs in
    let b : counter_bits before ≡ 0 = ap counter_bits none in
    let w : bit_count (k.pixel.size.width - 1) ≡ bit_count (size.width - 1) = ap (λ (z : Size). bit_count (z.width - 1)) e in
    let h : bit_count (k.pixel.size.height - 1) ≡ bit_count (size.height - 1) = ap (λ (z : Size). bit_count (z.height - 1)) e in
    omega (arith, two, b, w, h)

-- a register of one bit that is added after wires
pub one_more : (new mid old : Netlist) → new.regs ≡ mid.regs ++ 1 ∷ [] → AddsLogic mid old → register_bits new ≡ register_bits old + 1
one_more new mid old e logic = bits_more new mid 1 e ∙ ap (λ (n : ℕ). n + 1) (bits_same mid old logic.wires.regs)
