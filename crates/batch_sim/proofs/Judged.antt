-- From rows that are judged right to the run.
use Rattle.std.proofs.Common.{◌≡◌, ℕ, ◌+◌, ◌*◌, ◌<◌, ◌≤◌, Bool, true, false, List, [], length, drop, Vec, refl, ap, sym, subst, ◌∙◌, arith}
use Rattle.std.specs.Prelude.{Option, Some, None, IfSome, All, IsTrue, IsFalse, slice_index, slice_index_or, if◌then◌else◌}
use Rattle.std.proofs.lemmas.Option.{slice_get_within}
use Rattle.std.proofs.lemmas.List.{with_items_is}
use Rattle.std.specs.Vec.{with_items}
use Rattle.std.specs.declared.alloc.Global.{Global}
use Rattle.wiring.specs.declared.right.Atom.{Atom}
use Rattle.wiring.specs.declared.right.Atom.TheVariants as atom
use Rattle.wiring.specs.declared.netlist.Net.TheVariants.{Reg}
use Rattle.wiring.specs.Netlist.{Netlist}
use Rattle.wiring.specs.Rules.{KeepsRules, ArePorts}
use Rattle.wiring.specs.Snapshot.{Contents, Fit, FitsContents}
use Rattle.wiring.specs.Clock.{Clock}
use Rattle.wiring.proofs.Lists.{All-at}
use Rattle.cycle_sim.specs.Ports.{din_widths}
use Rattle.cycle_sim.specs.Slots.{slot, words_of}
use Rattle.lane_rows.specs.Values.{value_at}
use Rattle.batch_rows.specs.Rights.{HasRow}
use Rattle.batch_rows.specs.Code.{AreRows, AllHold}
use Rattle.batch_code.specs.Code.{IsWithin, ReadIsWithin, PutIsWithin}
use Rattle.batch_code.specs.Rows.{KeepsRegister, KeepsArray, KeepEquations, AreLeft, RowsRan, words_put}
use Rattle.batch_code.proofs.RowsRun.{rows_ran}
use Rattle.batch_code.proofs.Left.{left_fits}
use Rattle.batch_guess.specs.declared.engine.Engine.{Engine}
use Rattle.batch_guess.specs.Guess.{KeepsCode}
use Rattle.batch_guess.specs.declared.stored.Stored.{Stored}
use Rattle.batch_sim.specs.Arrays.{AreKept, ArePut}
use Rattle.batch_sim.specs.Checked.{AreInputRows, AreRegisterRows}
use Rattle.batch_sim.specs.declared.rows.Rows.{Rows}
use Rattle.batch_guess.specs.declared.inputs.Piece.{Piece}
use Rattle.batch_sim.specs.Pieces.{clocks_of, clocks_in, IsPieceOf, HasDins}
use Rattle.batch_sim.specs.Engine.{IsEngineOf, AreWide, AreRowsOf, IsJudged}
use Rattle.batch_sim.specs.Stored.{contents_in}
use Rattle.batch_sim.proofs.Fitting.{have_places}
use Rattle.batch_sim.proofs.Rowwise.{piece_given, piece_fits, piece_long}
use Rattle.batch_sim.proofs.Vectors.{length-items}

count_by : (enable : Bool) (inputs outputs : List ℕ) → ArePorts enable inputs outputs → length inputs ≡ (if enable then 2 else 1) + length (drop (if enable then 2 else 1) inputs)
count_by true inputs outputs ports = subst (λ (l : List ℕ). length l ≡ 2 + length (drop 2 l)) (sym ports.inputs_are) (omega arith)
count_by false inputs outputs ports = subst (λ (l : List ℕ). length l ≡ 1 + length (drop 1 l)) (sym ports.inputs_are) (omega arith)

has_row : (rows : List (List ℕ)) (slots count : ℕ) → slots ≡ length rows → ((n : ℕ) → n < length rows → count < length (slice_index_or rows n [])) → (a : Atom ℕ) → IsWithin slots a → HasRow rows count a
has_row rows slots count e long (atom.Net n) l = let within : n < length rows = omega (arith, l, e) in (within, (let h = long n within in omega (arith, h)))
has_row rows slots count e long (atom.Constant c) l = tt

module _ (m : Netlist) (rules : KeepsRules m) (e : Engine) (is : IsEngineOf m e) (rows : List (List ℕ)) (long count : ℕ) (are : AreRows e.code.widths.items long rows) (room : count < long) where
  rows_are : length rows ≡ e.code.first_reg + length m.regs
  rows_are = are.slots ∙ is.code.slots.all

  longer : (n : ℕ) → n < length rows → count < length (slice_index_or rows n [])
  longer n l = omega (arith, are.long n l, room)

  pub outputs_in : e.code.first_output + length m.outputs ≤ length rows
  outputs_in = omega (arith, rows_are, is.code.slots.first_output, is.code.slots.first_reg)

  pub wide_of : AreWide e rows count
  wide_of = record {
    inputs = is.code.slots.first_output ∙ count_by m.enable m.inputs m.outputs rules.ports ∙ ap (λ n. (if m.enable then 2 else 1) + n) (sym is.ports) ∙ ap (λ (b : Bool). (if b then 2 else 1) + e.ports) (sym is.enable);
    slots = omega (arith, rows_are, is.code.slots.first_output, is.code.slots.first_reg);
    long = longer;
    regs = omega (arith, rows_are, is.code.runnable.next_count);
    nexts = λ k a at. has_row rows (length e.code.widths.items) count (sym are.slots) longer a (All-at (IsWithin (length e.code.widths.items)) e.code.nexts.items k a is.code.runnable.nexts at);
    arrays = λ x r p at there.
        let read = All-at (ReadIsWithin (length e.code.widths.items)) e.code.reads.items x r is.code.runnable.reads at in
        let put = All-at (PutIsWithin (length e.code.widths.items)) e.code.puts.items x p is.code.runnable.puts there in
        let target : r.target < length rows = omega (arith, read.0, are.slots) in
        record {
          target = target;
          long = (let h = longer r.target target in omega (arith, h));
          read = has_row rows (length e.code.widths.items) count (sym are.slots) longer r.index read.1;
          index = has_row rows (length e.code.widths.items) count (sym are.slots) longer p.index put.0;
          value = has_row rows (length e.code.widths.items) count (sym are.slots) longer p.value put.1;
        };
  }

module _ (m : Netlist) (rules : KeepsRules m) (e : Engine) (is : IsEngineOf m e) (rows : List (List ℕ)) (long : ℕ) (p : Piece) (are : AreRows e.code.widths.items long rows) (room : p.count < long)
    (within : p.first + p.count ≤ length p.inputs.enables.now) (old new : Stored) (fits : FitsContents m (contents_in old)) (all : All (λ (c : Clock). Fit (din_widths m) c.dins) (clocks_of m p.inputs))
    (hold : AllHold e.code.widths.items long rows (length e.code.instructions.items) e.code.instructions.items) (judged : IsJudged e rows p old new) where
  abbrev count : ℕ
  count = p.count

  abbrev enables : List Bool
  enables = p.inputs.enables.now

  abbrev dins : List ℕ
  dins = p.inputs.dins.now

  abbrev clocks : List Clock
  clocks = clocks_in m p

  size : length clocks ≡ count
  size = piece_long m enables dins p.first count within

  keep : KeepEquations m e.code clocks (contents_in old) rows
  keep = record {
    inputs = piece_given m p e.has_enable e.ports e.code.first_output is.enable is.ports is.code.slots.first_output rows judged.given;
    instructions = λ p t i l k at. hold p t i l (omega (arith, k, size, room)) at;
    registers = λ r next at. subst (λ (n : ℕ). KeepsRegister rows n (slice_index old.regs.items r) (slot m (Reg r)) next) (sym size) (subst (λ (n : ℕ). KeepsRegister rows count (slice_index old.regs.items r) (n + r) next) is.code.slots.first_reg (judged.registers r next at));
    arrays = λ x r p at there. subst (λ (n : ℕ). KeepsArray rows n (slice_index_or (words_of old.arrays.items) x []) r p) (sym size)
        (judged.kept x r p (omega (arith, slice_get_within e.code.reads.items x r at, is.code.runnable.read_count, (have_places m (contents_in old) fits).arrays, length-items old.arrays.items)) at there);
  }

  left : AreLeft m e.code rows (length clocks) (contents_in old) (contents_in new)
  left = record {
    reg_count = judged.long ∙ (have_places m (contents_in old) fits).regs;
    regs = λ r l. judged.taken r (omega (arith, l, judged.long, (have_places m (contents_in old) fits).regs)) ∙ ap (λ n. value_at rows n (e.code.first_reg + r)) (sym size) ∙ ap (λ n. value_at rows (length clocks) (n + r)) is.code.slots.first_reg;
    array_count = judged.put.same ∙ (have_places m (contents_in old) fits).arrays;
    arrays = λ x p at. judged.put.put x p (omega (arith, slice_get_within e.code.puts.items x p at, is.code.runnable.put_count, (have_places m (contents_in old) fits).arrays, length-items old.arrays.items)) at ∙ ap (λ n. words_put rows p (slice_index_or (words_of old.arrays.items) x []) n) (sym size);
  }

  pub ran_of : RowsRan m clocks (contents_in old) (contents_in new) rows
  ran_of = rows_ran m e.code rules is.code clocks (contents_in old) (contents_in new) rows (piece_fits m enables dins p.first count all) fits keep left

  pub fits_of : FitsContents m (contents_in new)
  fits_of = left_fits m e.code rules is.code (contents_in old) (contents_in new) rows long (length clocks) (omega (arith, size, room)) fits are left

-- registers and arrays that were written in their vectors
pub judged_by : (e : Engine) (rows : List (List ℕ)) (p : Piece) (old : Stored) (regs : List ℕ) (arrays : List (Vec ℕ Global)) → length regs ≡ length old.regs.items → length arrays ≡ length old.arrays.items →
    AreInputRows e.has_enable e.ports p e.code.first_output rows → AreRegisterRows rows p.count e.code.first_reg old.regs.items e.code.nexts.items →
    AreKept rows e.code.reads.items e.code.puts.items p.count (words_of old.arrays.items) (length old.arrays.items) → ArePut rows e.code.puts.items p.count (words_of old.arrays.items) (words_of arrays) (length old.arrays.items) →
    ((r : ℕ) → r < length regs → slice_index regs r ≡ value_at rows p.count (e.code.first_reg + r)) →
    IsJudged e rows p old (record { regs = with_items old.regs regs; arrays = with_items old.arrays arrays })
judged_by e rows p old regs arrays reg_count array_count given registers kept put taken =
    let is_regs : (with_items old.regs regs).items ≡ regs = with_items_is old.regs regs (reg_count ∙ sym old.regs.ok.0) in
    let is_arrays : (with_items old.arrays arrays).items ≡ arrays = with_items_is old.arrays arrays (array_count ∙ sym old.arrays.ok.0) in
    record {
      given = given;
      registers = registers;
      kept = kept;
      put = subst (λ (a : List (Vec ℕ Global)). ArePut rows e.code.puts.items p.count (words_of old.arrays.items) (words_of a) (length old.arrays.items)) (sym is_arrays) put;
      long = ap (λ (r : List ℕ). length r) is_regs ∙ reg_count;
      taken = subst (λ (h : List ℕ). (r : ℕ) → r < length h → slice_index h r ≡ value_at rows p.count (e.code.first_reg + r)) (sym is_regs) taken;
    }

-- the counts of a code's registers, reads and puts
pub counts_of : (m : Netlist) (e : Engine) → IsEngineOf m e → (s : Stored) → FitsContents m (contents_in s) →
    (length s.regs.items ≡ length e.code.nexts.items) × (length e.code.reads.items ≡ length s.arrays.items) × (length e.code.puts.items ≡ length s.arrays.items)
counts_of m e is s fits =
    let places = have_places m (contents_in s) fits in (
      omega (arith, is.code.runnable.next_count, places.regs),
      omega (arith, is.code.runnable.read_count, places.arrays, length-items s.arrays.items),
      omega (arith, is.code.runnable.put_count, places.arrays, length-items s.arrays.items),
    )

-- each clock has the dins that an engine expects
pub dins_for : (m : Netlist) (e : Engine) → IsEngineOf m e → (p : Piece) → IsPieceOf m p → HasDins e.ports p
dins_for m e is p piece = record {
  all = piece.inputs.all ∙ ap (λ n. length p.inputs.enables.now * n) (sym is.ports);
  within = piece.within;
}

pub fits_either : (m : Netlist) (b : Bool) (h : Contents) → (IsTrue b → FitsContents m h) → (IsFalse b → FitsContents m h) → FitsContents m h
fits_either m true h then_fits else_fits = then_fits refl
fits_either m false h then_fits else_fits = else_fits refl

-- rows with other values
pub rows_as : (m : Netlist) (r s : Rows) → AreRowsOf m r → KeepsCode r.guess s.guess → s.size ≡ r.size → AreRowsOf m s
rows_as m r s are keeps size = record {
  engine = subst (λ (e : Engine). IsEngineOf m e) (sym keeps.0) are.engine;
  some = omega (arith, are.some, size);
  wide = omega (arith, are.wide, size, keeps.1);
}

-- rows have a clock at least
pub some_clocks : (m : Netlist) (rows : Option Rows) → IfSome rows (AreRowsOf m) → IfSome rows (λ (r : Rows). 1 ≤ r.size)
some_clocks m None are = tt
some_clocks m (Some r) are = are.some
