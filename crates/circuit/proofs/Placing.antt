-- Tests of the pixels of an image, by its registers or by constants.
use Rattle.std.proofs.Common.{◌≡◌, ℕ, ◌<◌, Bool, true, false, [], sym, subst, inl, inr, arith}
use Rattle.std.specs.Prelude.{Contains}
use Rattle.dk_base.specs.Frames.{Size, column, row}
use Rattle.dk_base.specs.FrameSizes.{size_of}
use Rattle.wiring.specs.declared.netlist.Net.{Net}
use Rattle.wiring.specs.declared.netlist.Holder.{Holder}
use Rattle.wiring.specs.declared.netlist.Holder.TheVariants.{OfNet}
use Rattle.wiring.specs.Netlist.{Netlist}
use Rattle.wiring.specs.Clock.{bit}
use Rattle.net_build.specs.Control.{is_control}
use Rattle.net_build.specs.Depth.{IsWithin, IsOver}
use Rattle.circuit.specs.Depths.{test_levels}
use Rattle.net_build.specs.Logic.{AddsLogic, Computes}
use Rattle.net_build.proofs.Depth.{within_wider}
use Rattle.edge_select.specs.declared.frame_tests.FrameTests.{FrameTests}
use Rattle.edge_select.specs.Pixels.{AllPass, NonePass}
use Rattle.edge_select.specs.FrameTests.{AddsTests, AreFrameTests, IsFrameTest}
use Rattle.edge_select.proofs.Beside.{beside_none, beside_logic, beside_on}
use Rattle.edge_select.proofs.Raster.{place}
use Rattle.buffer_plan.specs.Plans.{Plan, IsPlan, delay_of}
use Rattle.circuit.specs.Taps.{size_in}
use Rattle.circuit.specs.Reads.{IsPixelTest}

-- what frame tests add: nothing, wires, and more
pub tests_none : (b : Netlist) (t : FrameTests) → AddsTests b b t t
tests_none b t = beside_none b t.counters

pub tests_logic : (new mid old : Netlist) (now before : FrameTests) → AddsTests mid old now before → AddsLogic new mid → AddsTests new old now before
tests_logic new mid old now before f g = beside_on old mid new before.counters now.counters now.counters f (beside_logic new mid now.counters g)

pub tests_on : (a b c : Netlist) (i j k : FrameTests) → AddsTests b a j i → AddsTests c b k j → AddsTests c a k i
tests_on a b c i j k f g = beside_on a b c i.counters j.counters k.counters f g

-- the tests are of frames of the plan's size
pub own_tests : (b : Netlist) (size : Size) (t : FrameTests) → AreFrameTests b size t → AreFrameTests b (size_of t.size) t
own_tests b size t is = subst (λ (z : Size). AreFrameTests b z t) (sym is.size_is) is

pub their_tests : (new old : Netlist) (size : Size) (now before : FrameTests) → AreFrameTests old size before → AreFrameTests new (size_of before.size) now → AreFrameTests new size now
their_tests new old size now before was is = subst (λ (z : Size). AreFrameTests new z now) was.size_is is

-- columns and rows of pixels are in the frame
pub columns_below : (plan : Plan) → IsPlan plan → (q : ℕ) → column (size_in plan) q < plan.system.stencils.width
columns_below plan is q = (place (size_in plan) q is.system.stencils.frame.some_columns is.system.stencils.frame.some_rows).column_below

pub rows_below : (plan : Plan) → IsPlan plan → (q : ℕ) → row (size_in plan) q < plan.system.stencils.height
rows_below plan is q = (place (size_in plan) q is.system.stencils.frame.some_columns is.system.stencils.frame.some_rows).row_below

-- a test by the frame tests
pub pixel_test : (b old : Netlist) (plan : Plan) (f delay : ℕ) (t : FrameTests) (P : Size → (x y : ℕ) → Type 0) (n : Net) → delay ≡ delay_of plan f → AreFrameTests old (size_in plan) t → IsFrameTest b (size_of t.size) delay (P (size_of t.size)) n → IsWithin b (is_control b.enable) test_levels (OfNet n) → IsPixelTest b plan f (P (size_in plan)) n
pixel_test b old plan f delay t P n e was is within =
    let own : IsFrameTest b (size_in plan) delay (P (size_in plan)) n = subst (λ (z : Size). IsFrameTest b z delay (P z) n) was.size_is is in
    let here : IsFrameTest b (size_in plan) (delay_of plan f) (P (size_in plan)) n = subst (λ (d : ℕ). IsFrameTest b (size_in plan) d (P (size_in plan)) n) e own in
    record {
      there = here.there;
      width = here.width;
      value = λ m from before c s run q sum. here.value m from before c s run.clock run.since q sum;
      within = λ base has. within_wider b (is_control b.enable) base has within;
    }

-- a test that all pixels pass, and one that none does
none_within : (b : Netlist) (base : Holder → Bool) (j : ℕ) (n : Net) → Contains [] n → IsWithin b base j (OfNet n)
none_within b base j n has = absurd (let lt = has.1 in let f : ⊥ = omega (arith, lt) in f)

pub always_test : (new old : Netlist) (plan : Plan) (f : ℕ) (passes : (x y : ℕ) → Type 0) (n : Net) → IsPlan plan → Computes new old [] 1 (λ s. bit true) n → IsOver new old 0 [] n → AllPass plan.system.stencils.width plan.system.stencils.height passes → IsPixelTest new plan f passes n
always_test new old plan f passes n is computes over all = record {
  there = computes.net;
  width = computes.width;
  value = λ m from before c s run q e. inl (all (column (size_in plan) q) (row (size_in plan) q) (columns_below plan is q) (rows_below plan is q), computes.value m s run.clock.whole.includes run.clock.at.snapshot.settled);
  within = λ base has. over base test_levels (none_within old base test_levels);
}

pub never_test : (new old : Netlist) (plan : Plan) (f : ℕ) (passes : (x y : ℕ) → Type 0) (n : Net) → IsPlan plan → Computes new old [] 1 (λ s. bit false) n → IsOver new old 0 [] n → NonePass plan.system.stencils.width plan.system.stencils.height passes → IsPixelTest new plan f passes n
never_test new old plan f passes n is computes over none = record {
  there = computes.net;
  width = computes.width;
  value = λ m from before c s run q e. inr (none (column (size_in plan) q) (row (size_in plan) q) (columns_below plan is q) (rows_below plan is q), computes.value m s run.clock.whole.includes run.clock.at.snapshot.settled);
  within = λ base has. over base test_levels (none_within old base test_levels);
}
