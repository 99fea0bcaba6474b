-- Frame tests for a delay, from tests of columns and rows; and what lasts as the netlist grows.
use Rattle.std.proofs.Common.{◌≡◌, ℕ, zero, suc, ◌+◌, ◌-◌, ◌*◌, ◌/◌, ◌%◌, ◌<◌, ◌≤◌, Bool, true, false, [], ◌∷◌, ◌++◌, length, Option, None, Some, refl, sym, ap, subst, ◌∙◌, inl, inr, arith}
use Rattle.std.specs.Prelude.{All, Contains, IfSome, IsTrue, slice_get, if◌then◌else◌, not, bit_and}
use Rattle.std.proofs.lemmas.Nat.{div-add-mod'}
use Rattle.std.proofs.lemmas.List.Elements.{All-weaker, All-push, All-nil}
use Rattle.dk_base.specs.Frames.{Size, column, row}
use Rattle.dk_base.specs.FrameSizes.{size_of}
use Rattle.wiring.specs.declared.netlist.Net.{Net}
use Rattle.wiring.specs.declared.netlist.Net.TheVariants.{Reg}
use Rattle.wiring.specs.declared.netlist.Holder.TheVariants.{OfNet}
use Rattle.wiring.specs.Netlist.{Netlist}
use Rattle.wiring.specs.Snapshot.{Contents, Snapshot, net_value}
use Rattle.wiring.specs.Clock.{bit}
use Rattle.wiring.specs.History.{was_reset, counted}
use Rattle.net_build.specs.Includes.{Includes}
use Rattle.net_build.specs.Control.{IsMadeOf, is_control, IsControl}
use Rattle.net_build.specs.Logic.{AreMadeOf, Computes}
use Rattle.net_build.specs.Counters.{control_nets}
use Rattle.net_build.proofs.Grown.{net_more, width_more}
use Rattle.net_build.proofs.Control.{made_more}
use Rattle.net_build.proofs.Runs.{InEachRun-more, AtEachEdge-more, clock_more}
use Rattle.frame_paths.specs.declared.moves.Interval.{Interval}
use Rattle.frame_paths.specs.Moves.{IsIn}
use Rattle.edge_select.specs.declared.counters.Counters.{Counters}
use Rattle.edge_select.specs.declared.bands.Band.{Band}
use Rattle.edge_select.specs.declared.frame_tests.Test.{Test}
use Rattle.edge_select.specs.declared.frame_tests.FrameTests.{FrameTests}
use Rattle.edge_select.specs.declared.paths.Rectangle.{Rectangle}
use Rattle.edge_select.specs.Passes.{Passes}
use Rattle.edge_select.specs.Bands.{in_interval, in_band}
use Rattle.edge_select.specs.Logic.{IsBit, IsBoth, IsTestNet}
use Rattle.edge_select.specs.Pixels.{HasPixel, Follows, IsBitOf}
use Rattle.edge_select.specs.Counters.{TakesNext}
use Rattle.edge_select.specs.FrameTests.{AreCounters, IsColumnTest, IsRowTest, AreFrameTests, IsFrameTest, IsPartTest, DividesColumns, DividesRows, HasNone, TestsDiffer}
use Rattle.net_build.proofs.Depth.{within_made}
use Rattle.edge_select.proofs.Differing.{none_differ, push_differs, push_some}
use Rattle.edge_select.proofs.Lasting.{follows_more}
use Rattle.edge_select.proofs.Depth.{depth_more}
use Rattle.edge_select.proofs.Raster.{place}
use Rattle.edge_select.proofs.Inverting.{inverted}
use Rattle.edge_select.proofs.Combining.{bit_as}
use Rattle.edge_select.proofs.Shifts.{column_moved, row_moved}

-- as the netlist grows
pub control_more : (b a : Netlist) (n : Net) → Includes b a → IsControl a (OfNet n) → IsControl b (OfNet n)
control_more b a n f is = subst (λ (e : Bool). IsMadeOf b (is_control e) (OfNet n)) (sym f.enable) (made_more b a (is_control a.enable) f is)

pub frame_test_more : (b a : Netlist) (size : Size) (delay : ℕ) (passes : (x y : ℕ) → Type 0) (n : Net) → Includes b a → IsFrameTest a size delay passes n → IsFrameTest b size delay passes n
frame_test_more b a size delay passes n f is = record {
  there = net_more b a f n is.there;
  width = width_more b a f n is.there.declared ∙ is.width;
  value = InEachRun-more (λ m before c s. IsTrue (was_reset before) → (k : ℕ) → k + delay ≡ length (counted m before) → IsBitOf (passes (column size k) (row size k)) (net_value s n)) b a f is.value;
  made = control_more b a n f is.made;
}

pub part_test_more : (b a : Netlist) (size : Size) (delay : ℕ) (passes : (x y : ℕ) → Type 0) (o : Option Net) → Includes b a → IsPartTest a size delay passes o → IsPartTest b size delay passes o
part_test_more b a size delay passes None f is = is
part_test_more b a size delay passes (Some n) f is = frame_test_more b a size delay passes n f is

pub column_test_more : (b a : Netlist) (size : Size) (t : Test) → Includes b a → IsColumnTest a size t → IsColumnTest b size t
column_test_more b a size t f is = record {
  there = net_more b a f t.net is.there;
  width = width_more b a f t.net is.there.declared ∙ is.width;
  value = InEachRun-more (λ m before c s. IsTrue (was_reset before) → net_value s t.net ≡ bit (in_band size.width t.band (column size (length (counted m before))))) b a f is.value;
  register = depth_more b a 0 t.net f is.register;
}

pub row_test_more : (b a : Netlist) (size : Size) (t : Test) → Includes b a → IsRowTest a size t → IsRowTest b size t
row_test_more b a size t f is = record {
  there = net_more b a f t.net is.there;
  width = width_more b a f t.net is.there.declared ∙ is.width;
  value = InEachRun-more (λ m before c s. IsTrue (was_reset before) → (k : ℕ) → k + t.start ≡ length (counted m before) → net_value s t.net ≡ bit (in_band size.height t.band (row size k))) b a f is.value;
  register = depth_more b a 0 t.net f is.register;
}

pub pixel_more : (b a : Netlist) (k : Counters) → Includes b a → HasPixel a k.pixel → HasPixel b k.pixel
pixel_more b a k f is = record {
  column = net_more b a f k.pixel.column is.column;
  row = net_more b a f k.pixel.row is.row;
  column_width = width_more b a f k.pixel.column is.column.declared ∙ is.column_width;
  row_width = width_more b a f k.pixel.row is.row.declared ∙ is.row_width;
}

pub next_more : (b a : Netlist) (first : ℕ) (k : Counters) → Includes b a → TakesNext a first k → TakesNext b first k
next_more b a first k f is = record {
  column_at = is.column_at;
  row_at = is.row_at;
  column = net_more b a f k.next.column is.column;
  row = net_more b a f k.next.row is.row;
  column_width = width_more b a f k.next.column is.column.declared ∙ is.column_width;
  row_width = width_more b a f k.next.row is.row.declared ∙ is.row_width;
  column_edge = AtEachEdge-more (λ (s : Snapshot) (next : Contents). slice_get next.regs first ≡ Some (net_value s k.next.column)) b a f is.column_edge;
  row_edge = AtEachEdge-more (λ (s : Snapshot) (next : Contents). slice_get next.regs (suc first) ≡ Some (net_value s k.next.row)) b a f is.row_edge;
  column_made = λ base all. made_more b a base f (is.column_made base (λ n c. all n (subst (λ (e : Bool). Contains (control_nets e ++ Reg first ∷ (Reg (suc first) ∷ [])) n) (sym f.enable) c)));
  row_made = λ base all. made_more b a base f (is.row_made base (λ n c. all n (subst (λ (e : Bool). Contains (control_nets e ++ Reg first ∷ (Reg (suc first) ∷ [])) n) (sym f.enable) c)));
}

pub counters_more : (b a : Netlist) (size : Size) (k : Counters) → Includes b a → AreCounters a size k → AreCounters b size k
counters_more b a size k f is = record {
  size_is = is.size_is;
  pixel = pixel_more b a k f is.pixel;
  follows = follows_more b a 0 k.pixel f is.follows;
  first = is.first;
  next = next_more b a is.first k f is.next;
}

some_counters : (b a : Netlist) (size : Size) (o : Option Counters) → Includes b a → IfSome o (AreCounters a size) → IfSome o (AreCounters b size)
some_counters b a size None f is = is
some_counters b a size (Some k) f is = counters_more b a size k f is

pub tests_more : (b a : Netlist) (size : Size) (tests : FrameTests) → Includes b a → AreFrameTests a size tests → AreFrameTests b size tests
tests_more b a size tests f is = record {
  size_is = is.size_is;
  counters = some_counters b a size tests.counters f is.counters;
  columns = All-weaker (IsColumnTest a size) (IsColumnTest b size) (λ t. column_test_more b a size t f) tests.columns.items is.columns;
  rows = All-weaker (IsRowTest a size) (IsRowTest b size) (λ t. row_test_more b a size t f) tests.rows.items is.rows;
  columns_divide = is.columns_divide;
  rows_divide = is.rows_divide;
  columns_differ = is.columns_differ;
  rows_differ = is.rows_differ;
  needed = is.needed;
}

-- without tests, or with one more
pub no_tests : (b : Netlist) (size : Size) (tests : FrameTests) → size_of tests.size ≡ size → tests.counters ≡ None → tests.columns.items ≡ [] → tests.rows.items ≡ [] → AreFrameTests b size tests
no_tests b size tests es ek ec er = record {
  size_is = es;
  counters = subst (λ (o : Option Counters). IfSome o (AreCounters b size)) (sym ek) tt;
  columns = subst (All (IsColumnTest b size)) (sym ec) (All-nil (IsColumnTest b size));
  rows = subst (All (IsRowTest b size)) (sym er) (All-nil (IsRowTest b size));
  columns_divide = subst (All (DividesColumns size)) (sym ec) (All-nil (DividesColumns size));
  rows_divide = subst (All (DividesRows size)) (sym er) (All-nil (DividesRows size));
  columns_differ = subst TestsDiffer (sym ec) none_differ;
  rows_differ = subst TestsDiffer (sym er) none_differ;
  needed = λ no_columns no_rows. ek;
}

pub counters_are : (b : Netlist) (size : Size) (first : ℕ) (k : Counters) → size_of k.pixel.size ≡ size → HasPixel b k.pixel → Follows b 0 k.pixel → TakesNext b first k → AreCounters b size k
counters_are b size first k e has follows next = record { size_is = e; pixel = has; follows = follows; first = first; next = next }

pub some_counters_are : (b : Netlist) (size : Size) (tests : FrameTests) (k : Counters) → tests.counters ≡ Some k → AreFrameTests b size tests → AreCounters b size k
some_counters_are b size tests k e is = subst (λ (o : Option Counters). IfSome o (AreCounters b size)) e is.counters

-- counters by their own size
pub own_size : (b : Netlist) (size : Size) (k : Counters) → AreCounters b size k → AreCounters b (size_of k.pixel.size) k
own_size b size k is = subst (λ (z : Size). AreCounters b z k) (sym is.size_is) is

pub with_column : (b : Netlist) (size : Size) (tests old : FrameTests) (k : Counters) (t : Test) → tests.size ≡ old.size → tests.counters ≡ Some k → tests.columns.items ≡ old.columns.items ++ t ∷ [] → tests.rows.items ≡ old.rows.items → AreFrameTests b size old → AreCounters b size k → IsColumnTest b size t →
    DividesColumns size t → HasNone old.columns.items t.start t.band → AreFrameTests b size tests
with_column b size tests old k t es ek ec er is counters new divides none = record {
  size_is = ap (λ z. size_of z) es ∙ is.size_is;
  counters = subst (λ (o : Option Counters). IfSome o (AreCounters b size)) (sym ek) counters;
  columns = subst (All (IsColumnTest b size)) (sym ec) (All-push (IsColumnTest b size) old.columns.items t is.columns new);
  rows = subst (All (IsRowTest b size)) (sym er) is.rows;
  columns_divide = subst (All (DividesColumns size)) (sym ec) (All-push (DividesColumns size) old.columns.items t is.columns_divide divides);
  rows_divide = subst (All (DividesRows size)) (sym er) is.rows_divide;
  columns_differ = subst TestsDiffer (sym ec) (push_differs old.columns.items t is.columns_differ none);
  rows_differ = subst TestsDiffer (sym er) is.rows_differ;
  needed = λ no_columns no_rows. absurd (push_some old.columns.items t (sym ec ∙ no_columns));
}

pub with_row : (b : Netlist) (size : Size) (tests old : FrameTests) (k : Counters) (t : Test) → tests.size ≡ old.size → tests.counters ≡ Some k → tests.columns.items ≡ old.columns.items → tests.rows.items ≡ old.rows.items ++ t ∷ [] → AreFrameTests b size old → AreCounters b size k → IsRowTest b size t →
    DividesRows size t → HasNone old.rows.items t.start t.band → AreFrameTests b size tests
with_row b size tests old k t es ek ec er is counters new divides none = record {
  size_is = ap (λ z. size_of z) es ∙ is.size_is;
  counters = subst (λ (o : Option Counters). IfSome o (AreCounters b size)) (sym ek) counters;
  columns = subst (All (IsColumnTest b size)) (sym ec) is.columns;
  rows = subst (All (IsRowTest b size)) (sym er) (All-push (IsRowTest b size) old.rows.items t is.rows new);
  columns_divide = subst (All (DividesColumns size)) (sym ec) is.columns_divide;
  rows_divide = subst (All (DividesRows size)) (sym er) (All-push (DividesRows size) old.rows.items t is.rows_divide divides);
  columns_differ = subst TestsDiffer (sym ec) is.columns_differ;
  rows_differ = subst TestsDiffer (sym er) (push_differs old.rows.items t is.rows_differ none);
  needed = λ no_columns no_rows. absurd (push_some old.rows.items t (sym er ∙ no_rows));
}

-- the bit of a band from that of its interval
turned_by : (t i : Bool) (v : ℕ) → v ≡ bit i → (if t then 1 - v else v) ≡ bit (if t then not i else i)
turned_by true i v e = ap (λ (a : ℕ). 1 - a) e ∙ inverted i
turned_by false i v e = e

turned_bit : (side : ℕ) (band : Band) (x v : ℕ) → v ≡ bit (in_band side (record { first = band.first; last = band.last; outside = false }) x) → (if band.outside then 1 - v else v) ≡ bit (in_band side band x)
turned_bit side band x v e = turned_by band.outside (in_interval side band.first band.last x) v e

-- the pixel that came a delay ago
module _ (b : Netlist) (size : Size) (delay : ℕ) (some : 1 ≤ size.width) (tall : 1 ≤ size.height) where
  abbrev turn : Band → Net → Snapshot → ℕ
  turn band register s = if band.outside then 1 - net_value s register else net_value s register

  abbrev inner : Band → Band
  inner band = record { first = band.first; last = band.last; outside = false }

  turned_made : (new : Netlist) (band : Band) (register n : Net) → Includes new b → IsControl b (OfNet register) → Computes new b (register ∷ []) 1 (turn band register) n → IsControl new (OfNet n)
  turned_made new band register n grows of is = subst (λ (t : Bool). IsMadeOf new (is_control t) (OfNet n)) (sym grows.enable) (is.made_of (is_control b.enable) one)
    where
      one : AreMadeOf b (is_control b.enable) (register ∷ [])
      one x (zero, l, e) = subst (λ (w : Net). IsMadeOf b (is_control b.enable) (OfNet w)) e of
      one x (suc i, l, e) = absurd (omega (arith, l))

  pub column_frame_test : (new : Netlist) (band : Band) (register n : Net) (i : Interval) (shift : ℕ) → Includes new b → shift ≡ delay % size.width → ((x : ℕ) → x < size.width → IsBitOf (IsIn i x) (bit (in_band size.width band ((x + shift) % size.width)))) → IsColumnTest b size (record { start = 0; band = inner band; net = register }) →
      Computes new b (register ∷ []) 1 (turn band register) n → IsFrameTest new size delay (λ x y. IsIn i x) n
  column_frame_test new band register n i shift grows e moved is turned = record {
    there = turned.net;
    width = turned.width;
    value = λ m from before c s clock since k sum.
        let was = clock_more new b m from before c s grows clock in
        let there : column size (length (counted m before)) ≡ (column size k + shift) % size.width =
        ap (column size) (sym sum) ∙ column_moved size some tall k delay ∙ ap (λ (d : ℕ). (column size k + d) % size.width) (sym e) in
        subst (IsBitOf (IsIn i (column size k)))
        (sym (turned.value m s clock.whole.includes clock.at.snapshot.settled ∙ turned_bit size.width band (column size (length (counted m before))) (net_value s register) (is.value m from before c s was since) ∙ ap (λ (v : ℕ). bit (in_band size.width band v)) there))
        (moved (column size k) (place size k some tall).column_below);
    made = turned_made new band register n grows (within_made is.register) turned;
  }

  pub row_frame_test : (new : Netlist) (start : ℕ) (band : Band) (register n : Net) (i : Interval) (shift : ℕ) → Includes new b → start ≡ delay % size.width → shift ≡ delay / size.width % size.height → ((y : ℕ) → y < size.height → IsBitOf (IsIn i y) (bit (in_band size.height band ((y + shift) % size.height)))) → IsRowTest b size (record { start = start; band = inner band; net = register }) →
      Computes new b (register ∷ []) 1 (turn band register) n → IsFrameTest new size delay (λ x y. IsIn i y) n
  row_frame_test new start band register n i shift grows e f moved is turned = record {
    there = turned.net;
    width = turned.width;
    value = λ m from before c s clock since k sum.
        let was = clock_more new b m from before c s grows clock in
        let q : ℕ = delay / size.width in
        let whole = div-add-mod' delay size.width in
        let there : row size (k + q * size.width) ≡ (row size k + shift) % size.height =
        row_moved size some tall k (delay / size.width) ∙ ap (λ (d : ℕ). (row size k + d) % size.height) (sym f) in
        let count : k + q * size.width + start ≡ length (counted m before) = omega (arith, whole, sum, e) in
        subst (IsBitOf (IsIn i (row size k)))
        (sym (turned.value m s clock.whole.includes clock.at.snapshot.settled ∙ turned_bit size.height band (row size (k + q * size.width)) (net_value s register) (is.value m from before c s was since (k + q * size.width) count) ∙ ap (λ (v : ℕ). bit (in_band size.height band v)) there))
        (moved (row size k) (place size k some tall).row_below);
    made = turned_made new band register n grows (within_made is.register) turned;
  }

  -- of the same pixels, said in another way
  pub test_same : (passes other : (x y : ℕ) → Type 0) (n : Net) → IsFrameTest b size delay passes n → ((x y : ℕ) → x < size.width → y < size.height → (passes x y → other x y) × (other x y → passes x y)) → IsFrameTest b size delay other n
  test_same passes other n is same = record {
    there = is.there;
    width = is.width;
    value = λ m from before c s clock since k sum.
        let p = place size k some tall in
        let e = same (column size k) (row size k) p.column_below p.row_below in
        bit_as (passes (column size k) (row size k)) (other (column size k) (row size k)) (net_value s n) e.0 e.1 (is.value m from before c s clock since k sum);
    made = is.made;
  }

  -- a test that is always 1 or always 0
  pub constant_frame_test : (old : Netlist) (passes : (x y : ℕ) → Type 0) (t : Bool) (n : Net) → Computes b old [] 1 (λ s. bit t) n → ((x y : ℕ) → x < size.width → y < size.height → IsBitOf (passes x y) (bit t)) → IsFrameTest b size delay passes n
  constant_frame_test old passes t n is right = record {
    there = is.net;
    width = is.width;
    value = λ m from before c s clock since k sum.
        let p = place size k some tall in
        subst (IsBitOf (passes (column size k) (row size k))) (sym (is.value m s clock.whole.includes clock.at.snapshot.settled)) (right (column size k) (row size k) p.column_below p.row_below);
    made = is.made_of (is_control b.enable) none;
  }
    where
      none : AreMadeOf old (is_control b.enable) []
      none x (k, l, e) = absurd (omega (arith, l))

-- both of two tests
both_bits : (P Q : Type 0) (u v : ℕ) → IsBitOf P u → IsBitOf Q v → IsBitOf (P × Q) (bit_and u v)
both_bits P Q u v (inl h) (inl g) = inl ((h.0, g.0), ap (λ (a : ℕ). bit_and a v) h.1 ∙ ap (λ (c : ℕ). bit_and 1 c) g.1)
both_bits P Q u v (inl h) (inr g) = inr ((λ p. g.0 p.1), ap (λ (a : ℕ). bit_and a v) h.1 ∙ ap (λ (c : ℕ). bit_and 1 c) g.1)
both_bits P Q u v (inr h) (inl g) = inr ((λ p. h.0 p.0), ap (λ (a : ℕ). bit_and a v) h.1 ∙ ap (λ (c : ℕ). bit_and 0 c) g.1)
both_bits P Q u v (inr h) (inr g) = inr ((λ p. h.0 p.0), ap (λ (a : ℕ). bit_and a v) h.1 ∙ ap (λ (c : ℕ). bit_and 0 c) g.1)

pub part_bit : (b : Netlist) (size : Size) (delay : ℕ) (passes : (x y : ℕ) → Type 0) (o : Option Net) → IsPartTest b size delay passes o → IsBit b o
part_bit b size delay passes None is = tt
part_bit b size delay passes (Some n) is = (is.there, is.width)

pub both_parts : (new old : Netlist) (size : Size) (delay : ℕ) (some : 1 ≤ size.width) (tall : 1 ≤ size.height) (f g : (x y : ℕ) → Type 0) (one other both : Option Net) → Includes new old → IsPartTest old size delay f one → IsPartTest old size delay g other → IsBoth new old one other both → IsPartTest new size delay (λ x y. f x y × g x y) both
both_parts new old size delay some tall f g None None both grows p q e = subst (IsPartTest new size delay (λ x y. f x y × g x y)) (sym e) (λ x y low high. (p x y low high, q x y low high))
both_parts new old size delay some tall f g None (Some o) both grows p q e =
    subst (IsPartTest new size delay (λ x y. f x y × g x y)) (sym e)
    (frame_test_more new old size delay (λ x y. f x y × g x y) o grows (test_same old size delay some tall g (λ x y. f x y × g x y) o q (λ x y low high. ((λ h. (p x y low high, h)), (λ h. h.1)))))
both_parts new old size delay some tall f g (Some n) None both grows p q e =
    subst (IsPartTest new size delay (λ x y. f x y × g x y)) (sym e)
    (frame_test_more new old size delay (λ x y. f x y × g x y) n grows (test_same old size delay some tall f (λ x y. f x y × g x y) n p (λ x y low high. ((λ h. (h, q x y low high)), (λ h. h.0)))))
both_parts new old size delay some tall f g (Some n) (Some o) None grows p q e = absurd e
both_parts new old size delay some tall f g (Some n) (Some o) (Some k) grows p q e = record {
  there = e.net;
  width = e.width;
  value = λ m from before c s clock since i sum.
      let was = clock_more new old m from before c s grows clock in
      subst (IsBitOf (f (column size i) (row size i) × g (column size i) (row size i))) (sym (e.value m s clock.whole.includes clock.at.snapshot.settled))
      (both_bits (f (column size i) (row size i)) (g (column size i) (row size i)) (net_value s n) (net_value s o) (p.value m from before c s was since i sum) (q.value m from before c s was since i sum));
  made = subst (λ (t : Bool). IsMadeOf new (is_control t) (OfNet k)) (sym grows.enable) (e.made_of (is_control old.enable) two);
}
  where
    two : AreMadeOf old (is_control old.enable) (n ∷ (o ∷ []))
    two x (zero, l, is) = subst (λ (w : Net). IsMadeOf old (is_control old.enable) (OfNet w)) is p.made
    two x (suc zero, l, is) = subst (λ (w : Net). IsMadeOf old (is_control old.enable) (OfNet w)) is q.made
    two x (suc (suc i), l, is) = absurd (omega (arith, l))

-- the net of a test
pub part_net : (new old : Netlist) (size : Size) (delay : ℕ) (some : 1 ≤ size.width) (tall : 1 ≤ size.height) (passes : (x y : ℕ) → Type 0) (o : Option Net) (n : Net) → Includes new old → IsPartTest old size delay passes o → IsTestNet new old o n → IsFrameTest new size delay passes n
part_net new old size delay some tall passes None n grows is net = constant_frame_test new size delay some tall old passes true n net (λ x y low high. inl (is x y low high, refl))
part_net new old size delay some tall passes (Some k) n grows is net = subst (IsFrameTest new size delay passes) (sym net) (frame_test_more new old size delay passes k grows is)

-- a rectangle of columns and rows
pub rectangle_frame_test : (new mid old : Netlist) (size : Size) (delay : ℕ) (some : 1 ≤ size.width) (tall : 1 ≤ size.height) (r : Rectangle) (across down both : Option Net) (n : Net) → Includes mid old → Includes new mid → IsPartTest old size delay (λ x y. IsIn r.across x) across → IsPartTest old size delay (λ x y. IsIn r.down y) down →
    IsBoth mid old across down both → IsTestNet new mid both n → IsFrameTest new size delay (Passes r) n
rectangle_frame_test new mid old size delay some tall r across down both n f g one other is net =
    let all : IsFrameTest new size delay (λ x y. IsIn r.across x × IsIn r.down y) n =
    part_net new mid size delay some tall (λ x y. IsIn r.across x × IsIn r.down y) both n g (both_parts mid old size delay some tall (λ x y. IsIn r.across x) (λ x y. IsIn r.down y) across down both f one other is) net in
    test_same new size delay some tall (λ x y. IsIn r.across x × IsIn r.down y) (Passes r) n all (λ x y low high. ((λ h. record { across = h.0; down = h.1 }), (λ h. (h.across, h.down))))
