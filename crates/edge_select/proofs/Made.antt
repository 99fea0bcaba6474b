-- Registers of tests that are added beside the counters.
use Rattle.std.proofs.Common.{◌≡◌, ℕ, suc, [], ◌∷◌, arith, ◌-◌, ◌<◌, ◌≤◌, ◌==◌, Bool, true, None, Some, ap, ◌∙◌}
use Rattle.std.specs.Prelude.{if◌then◌else◌}
use Rattle.dk_base.specs.Frames.{Size}
use Rattle.wiring.specs.declared.netlist.Net.{Net}
use Rattle.wiring.specs.declared.netlist.Holder.TheVariants.{OfNet}
use Rattle.wiring.specs.Netlist.{Netlist}
use Rattle.wiring.specs.Snapshot.{net_value}
use Rattle.wiring.specs.Clock.{bit}
use Rattle.net_build.specs.Includes.{Includes, InEach}
use Rattle.net_build.specs.Depth.{IsOver}
use Rattle.net_build.specs.Logic.{AddsLogic}
use Rattle.net_build.specs.Counters.{after}
use Rattle.net_build.proofs.Parts.{Includes-refl, Includes-trans}
use Rattle.net_build.proofs.Logic.{logic_on}
use Rattle.net_build.proofs.Control.{control_but_more}
use Rattle.edge_select.specs.declared.counters.Counters.{Counters}
use Rattle.edge_select.specs.declared.bands.Band.{Band}
use Rattle.edge_select.specs.Bands.{in_band}
use Rattle.edge_select.specs.FrameTests.{band_levels, IsTestOf, AddsRegisterOf, AddsBeside, AreCounters, IsColumnTest, IsRowTest}
use Rattle.edge_select.proofs.Beside.{beside_logic, beside_on, beside_register, column_control, row_control, test_control}
use Rattle.edge_select.proofs.Depth.{register_within}
use Rattle.edge_select.proofs.Levels.{test_starts}
use Rattle.edge_select.proofs.Testing.{column_shown, row_shown}
use Rattle.edge_select.proofs.Framed.{counters_more}

-- a test of a coordinate lasts
module _ (new mid old : Netlist) (side : ℕ) (passes : ℕ → Bool) (x n : Net) (grows : Includes new mid) (is : IsTestOf mid old side passes x n) where
  lasts : InEach new (λ m s. net_value s x < side → net_value s n ≡ bit (passes (net_value s x)))
  lasts m s part settled low = is.computes.value m s (Includes-trans m new mid part grows) settled ∙ ap bit (is.right (net_value s x) low)

-- of columns
module _ (new mid old : Netlist) (size : Size) (k : Counters) (band : Band) (first : ℕ) (test n : Net) (counters : AreCounters old size k) where
  abbrev of_next : ℕ → Bool
  of_next x = in_band size.width band (after true (size.width - 1) x)

  abbrev Tests : Type 0
  Tests = IsTestOf mid old size.width of_next k.pixel.column test

  pub column_adds : AddsLogic mid old → Tests → IsOver mid old band_levels (k.pixel.column ∷ []) test → AddsRegisterOf new mid None first test n → AddsBeside new old (Some k) (Some k)
  column_adds logic is over adds =
      beside_on old mid new (Some k) (Some k) (Some k) (beside_logic mid old (Some k) logic)
      (beside_register new mid None first test n k adds
      (λ copies plain. (test_control mid old copies k.pixel.column test 1 (λ s. bit (is.test (net_value s k.pixel.column))) logic.includes is.computes (column_control old counters.first k counters.next copies plain), tt))
      (test_starts mid mid old k.pixel.column test band_levels counters.first counters.next.column_at (omega arith) (Includes-refl mid) over) tt)

  pub column_is_test : 1 ≤ size.width → 1 ≤ size.height → first ≡ bit (in_band size.width band 0) → AddsLogic mid old → Tests → AddsRegisterOf new mid None first test n → IsColumnTest new size (record { start = 0; band = band; net = n })
  column_is_test some tall first_is logic is adds = record {
    there = adds.net;
    width = adds.width;
    value = column_shown new size k (counters_more new old size k (Includes-trans new mid old adds.includes logic.includes) counters) band first test n adds.takes_test some tall first_is (lasts new mid old size.width of_next k.pixel.column test adds.includes is);
    register = register_within new n adds.takes_test.number adds.takes_test.at;
  }

-- of rows
module _ (new mid one old : Netlist) (size : Size) (k : Counters) (start : ℕ) (band : Band) (first : ℕ) (begins test n : Net) (counters : AreCounters old size k) where
  abbrev at_start : ℕ → Bool
  at_start x = after true (size.width - 1) x == start

  abbrev of_row : ℕ → Bool
  of_row y = in_band size.height band (if start == 0 then after true (size.height - 1) y else y)

  abbrev Begins : Type 0
  Begins = IsTestOf one old size.width at_start k.pixel.column begins

  abbrev RowTests : Type 0
  RowTests = IsTestOf mid one size.height of_row k.pixel.row test

  pub row_adds : AddsLogic one old → AddsLogic mid one → Begins → RowTests → IsOver one old 1 (k.pixel.column ∷ []) begins → IsOver mid one band_levels (k.pixel.row ∷ []) test → AddsRegisterOf new mid (Some begins) first test n → AddsBeside new old (Some k) (Some k)
  row_adds first_logic logic at is at_over over adds =
      beside_on old mid new (Some k) (Some k) (Some k) (beside_logic mid old (Some k) (logic_on old one mid first_logic logic))
      (beside_register new mid (Some begins) first test n k adds
      (λ copies plain. (
        test_control mid one copies k.pixel.row test 1 (λ s. bit (is.test (net_value s k.pixel.row))) logic.includes is.computes (control_but_more one old copies (OfNet k.pixel.row) first_logic.includes (row_control old counters.first k counters.next copies plain)),
        control_but_more mid one copies (OfNet begins) logic.includes (test_control one old copies k.pixel.column begins 1 (λ s. bit (at.test (net_value s k.pixel.column))) first_logic.includes at.computes (column_control old counters.first k counters.next copies plain)),
      ))
      (test_starts mid mid one k.pixel.row test band_levels (suc counters.first) counters.next.row_at (omega arith) (Includes-refl mid) over) (test_starts mid one old k.pixel.column begins 1 counters.first counters.next.column_at (omega arith) logic.includes at_over))

  pub row_is_test : 1 ≤ size.width → 1 ≤ size.height → start < size.width → first ≡ bit (in_band size.height band 0) → AddsLogic one old → AddsLogic mid one → Begins → RowTests → AddsRegisterOf new mid (Some begins) first test n → IsRowTest new size (record { start = start; band = band; net = n })
  row_is_test some tall low first_is first_logic logic at is adds =
      let grows : Includes new one = Includes-trans new mid one adds.includes logic.includes in
      record {
        there = adds.net;
        width = adds.width;
        value = row_shown new size k (counters_more new old size k (Includes-trans new one old grows first_logic.includes) counters) start band first begins test n adds.takes_test some tall low first_is
            (lasts new one old size.width at_start k.pixel.column begins grows at) (lasts new mid one size.height of_row k.pixel.row test adds.includes is);
        register = register_within new n adds.takes_test.number adds.takes_test.at;
      }
