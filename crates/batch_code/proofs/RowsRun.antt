-- Rows that keep the equations of a module's code are the module's run.
use Rattle.std.proofs.Common.{◌≡◌, ℕ, zero, suc, ◌^◌, ◌<◌, List, [], ◌∷◌, length, get_or, refl, ap, sym, subst, ◌∙◌, arith, Some}
use Rattle.std.specs.Prelude.{All, Option, None, Contains, slice_get, slice_index, slice_index_or, slice_set, unwrap_or}
use Rattle.std.specs.Option.{option_map}
use Rattle.std.specs.List.{AllZip}
use Rattle.std.proofs.lemmas.List.Elements.{All-contains, All-nil, All-cons, All-append}
use Rattle.std.proofs.lemmas.Option.{slice_get_within, same_Some, slice_get-get_or}
use Rattle.wiring.specs.declared.right.Atom.{Atom}
use Rattle.wiring.specs.declared.right.Atom.TheVariants as atom
use Rattle.wiring.specs.declared.right.Right.{Right}
use Rattle.wiring.specs.declared.right.Right.TheVariants as right
use Rattle.wiring.specs.declared.netlist.Net.{Net}
use Rattle.wiring.specs.declared.netlist.Net.TheVariants.{Input, Output, Reg}
use Rattle.wiring.specs.declared.netlist.Shape.{Shape}
use Rattle.wiring.specs.declared.netlist.Assign.{Assign}
use Rattle.wiring.specs.declared.netlist.Update.{Update}
use Rattle.wiring.specs.declared.netlist.Update.TheVariants.{Set, Put}
use Rattle.wiring.specs.Rights.{array_of, nets_of, atom_value, right_value}
use Rattle.wiring.specs.Netlist.{Netlist, net_width, depth, IsDeclared}
use Rattle.wiring.specs.Snapshot.{Contents, Snapshot, Fit, FitsContents, net_value, accesses, accesses_of, right_accesses, update_accesses}
use Rattle.wiring.specs.Clock.{Clock, given}
use Rattle.wiring.specs.Runs.{Runs}
use Rattle.wiring.specs.Rules.{KeepsRules, AssignIsSound, UpdateIsSound}
use Rattle.wiring.proofs.Lists.{All-at}
use Rattle.cycle_sim.specs.Ports.{din_widths}
use Rattle.cycle_sim.specs.Slots.{slot, rename, rename_atom, all_widths}
use Rattle.cycle_sim.proofs.Flat.{flat_width_at}
use Rattle.cycle_sim.proofs.Given.{given_fit}
use Rattle.cycle_sim.proofs.Pieces.{length_fit}
use Rattle.cycle_sim.proofs.Renamed.{right_renamed}
use Rattle.lane_rows.specs.Values.{value_at}
use Rattle.batch_rows.specs.declared.module_code.WordRead.{WordRead}
use Rattle.batch_rows.specs.declared.module_code.WordPut.{WordPut}
use Rattle.batch_rows.specs.declared.module_code.BatchCode.{BatchCode}
use Rattle.batch_code.specs.Batch.{firsts}
use Rattle.batch_code.specs.Streams.{Streams, AreStreams, AssignHolds, UpdateHolds, contents_at, shot_at}
use Rattle.batch_code.specs.Code.{IsBatchCode, instruction, read_of, put_of}
use Rattle.batch_code.specs.Rows.{atom_at, words_put, KeepsArray, KeepEquations, AreLeft, RowsRan}
use Rattle.batch_code.proofs.StreamRuns.{length-firsts, firsts-get, net_at, accesses_all, run_is}

-- ---- lists by place

firsts_are : {X : Type 0} (f : ℕ → X) (xs : List X) (n : ℕ) (d : X) → length xs ≡ n → ((i : ℕ) → i < n → f i ≡ get_or xs i d) → firsts f n ≡ xs
firsts_are f [] zero d e h = refl
firsts_are f (x ∷ xs) zero d e h = absurd (omega (arith, e))
firsts_are f [] (suc n) d e h = absurd (omega (arith, e))
firsts_are f (x ∷ xs) (suc n) d e h =
    ap (λ y. y ∷ firsts (λ i. f (suc i)) n) (h 0 (omega arith)) ∙ ap (λ l. x ∷ l) (firsts_are (λ i. f (suc i)) xs n d (omega (arith, e)) (λ i l. h (suc i) (omega (arith, l))))

-- the words of an array are as many as its shape says
deep : (shapes : List Shape) (arrays : List (List ℕ)) (x : ℕ) → x < length shapes →
    AllZip (λ (s : Shape) words. (length words ≡ s.depth) × All (λ w. w < 2 ^ s.width) words) shapes arrays →
    length (slice_index_or arrays x []) ≡ unwrap_or (option_map (λ (s : Shape). s.depth) (slice_get shapes x)) 0
deep [] arrays x l h = absurd (omega (arith, l))
deep (s ∷ shapes) [] x l h = absurd h
deep (s ∷ shapes) (ws ∷ arrays) zero l h = h.0.0
deep (s ∷ shapes) (ws ∷ arrays) (suc x) l h = deep shapes arrays x (omega (arith, l)) h.1

array_count : (shapes : List Shape) (arrays : List (List ℕ)) →
    AllZip (λ (s : Shape) words. (length words ≡ s.depth) × All (λ w. w < 2 ^ s.width) words) shapes arrays → length arrays ≡ length shapes
array_count [] [] h = refl
array_count [] (ws ∷ arrays) h = absurd h
array_count (s ∷ shapes) [] h = absurd h
array_count (s ∷ shapes) (ws ∷ arrays) h = ap (λ n. suc n) (array_count shapes arrays h.1)

-- ---- right sides

-- without a read, the words do not matter
plain : (w : Net → ℕ) (word other : ℕ → ℕ → ℕ) (v : Net → ℕ) (r : Right Net ℕ) → array_of r ≡ None → right_value w word v r ≡ right_value w other v r
plain w word other v (right.Copy a) e = refl
plain w word other v (right.Not a) e = refl
plain w word other v (right.Binary o a b) e = refl
plain w word other v (right.Choose c a b) e = refl
plain w word other v (right.Join a b) e = refl
plain w word other v (right.Repeat n a) e = refl
plain w word other v (right.Bit n k) e = refl
plain w word other v (right.Slice n h l) e = refl
plain w word other v (right.Word x i) e = absurd (cc e)

at_of : {X : Type 0} (xs : List X) (x : X) → (inside : Contains xs x) → slice_get xs inside.0 ≡ Some x
at_of xs x inside = slice_get-get_or xs inside.0 x inside.1 ∙ ap (λ y. Some y) inside.2

-- ---- streams of rows

-- the words of an array with this put, or with none
abbrev pub words_by : List (List ℕ) → Option WordPut → List ℕ → ℕ → List ℕ
words_by rows None words t = words
words_by rows (Some p) words t = words_put rows p words t

words_first : (rows : List (List ℕ)) (o : Option WordPut) (words : List ℕ) → words_by rows o words 0 ≡ words
words_first rows None words = refl
words_first rows (Some p) words = refl

module _ (m : Netlist) (c : BatchCode) (rules : KeepsRules m) (is : IsBatchCode m c) (clocks : List Clock) (from to : Contents) (rows : List (List ℕ))
    (fits : All (λ (k : Clock). Fit (din_widths m) k.dins) clocks) (fitting : FitsContents m from) (keep : KeepEquations m c clocks from rows) (left : AreLeft m c rows (length clocks) from to) where
  abbrev streams : Streams
  streams = record {
    value = λ t n. value_at rows t (slot m n);
    words = λ t x. words_by rows (slice_get c.puts.items x) (slice_index_or from.arrays x []) t;
  }

  atom_same : (t : ℕ) (a : Atom Net) → atom_at rows t (rename_atom (slot m) a) ≡ atom_value (streams.value t) a
  atom_same t (atom.Net n) = refl
  atom_same t (atom.Constant k) = refl

  words_are : (t x : ℕ) (p : WordPut) → slice_get c.puts.items x ≡ Some p → streams.words t x ≡ words_put rows p (slice_index_or from.arrays x []) t
  words_are t x p at = ap (λ o. words_by rows o (slice_index_or from.arrays x []) t) at

  put_at : (x : ℕ) → x < length m.arrays → (p : WordPut) × (slice_get c.puts.items x ≡ Some p)
  put_at x l = (get_or c.puts.items x (record { index = atom.Net 0; value = atom.Net 0 }), slice_get-get_or c.puts.items x (record { index = atom.Net 0; value = atom.Net 0 }) (omega (arith, l, is.runnable.put_count)))

  read_at : (x : ℕ) → x < length m.arrays → (r : WordRead) × (slice_get c.reads.items x ≡ Some r)
  read_at x l = (get_or c.reads.items x (record { target = 0; index = atom.Net 0 }), slice_get-get_or c.reads.items x (record { target = 0; index = atom.Net 0 }) (omega (arith, l, is.runnable.read_count)))

  -- ---- assigns

  plain_holds : (t : ℕ) → t < length clocks → (k : ℕ) (n : Net) (r : Right Net ℕ) → slice_get m.assigns k ≡ Some (record { target = n; right = r }) → array_of r ≡ None → AssignHolds m streams t (record { target = n; right = r })
  plain_holds t l k n r at none =
      let ok = All-at (AssignIsSound m) m.assigns k (record { target = n; right = r }) rules.assigns at in
      let inside = is.code.assigns k (record { target = n; right = r }) at none in
      let place : slice_get c.instructions.items inside.0 ≡ Some (instruction m (record { target = n; right = r })) = at_of c.instructions.items (instruction m (record { target = n; right = r })) inside in
      keep.instructions inside.0 t (instruction m (record { target = n; right = r })) inside.1 l place
      ∙ ap (λ (ws : List ℕ). right_value (λ j. slice_index ws j) (λ (_ : ℕ) (_ : ℕ). 0) (value_at rows t) (rename (slot m) r)) is.slots.widths
      ∙ right_renamed (slot m) (streams.value t) (net_width m) (value_at rows t) (λ j. slice_index (all_widths m) j) (λ (_ : ℕ) (_ : ℕ). 0) r (λ d contained. (refl, flat_width_at m d (All-contains (IsDeclared m) (nets_of r) d ok.right.nets contained)))
      ∙ plain (net_width m) (λ _ _. 0) (λ x i. slice_index (streams.words t x) i) (streams.value t) r none

  array_at : (x : ℕ) (r : WordRead) → x < length m.arrays → slice_get c.reads.items x ≡ Some r → (p : WordPut) × (slice_get c.puts.items x ≡ Some p) × KeepsArray rows (length clocks) (slice_index_or from.arrays x []) r p
  array_at x r l at = let p = put_at x l in (p.0, p.1, keep.arrays x r p.0 at p.1)

  read_holds : (t : ℕ) → t < length clocks → (k : ℕ) (n : Net) (x : ℕ) (i : Atom Net) → slice_get m.assigns k ≡ Some (record { target = n; right = right.Word x i }) → AssignHolds m streams t (record { target = n; right = right.Word x i })
  read_holds t l k n x i at =
      let ok = All-at (AssignIsSound m) m.assigns k (record { target = n; right = right.Word x i }) rules.assigns at in
      let array = array_at x (read_of m n i) ok.right.array (is.code.reads k n x i at) in
      array.2.row t l
      ∙ ap (λ (ws : List ℕ). slice_index ws (atom_at rows t (rename_atom (slot m) i))) (sym (words_are t x array.0 array.1))
      ∙ ap (λ j. slice_index (streams.words t x) j) (atom_same t i)

  assign_holds : (t : ℕ) → t < length clocks → (k : ℕ) (n : Net) (r : Right Net ℕ) → slice_get m.assigns k ≡ Some (record { target = n; right = r }) → AssignHolds m streams t (record { target = n; right = r })
  assign_holds t l k n (right.Copy a) at = plain_holds t l k n (right.Copy a) at refl
  assign_holds t l k n (right.Not a) at = plain_holds t l k n (right.Not a) at refl
  assign_holds t l k n (right.Binary o a b) at = plain_holds t l k n (right.Binary o a b) at refl
  assign_holds t l k n (right.Choose d a b) at = plain_holds t l k n (right.Choose d a b) at refl
  assign_holds t l k n (right.Join a b) at = plain_holds t l k n (right.Join a b) at refl
  assign_holds t l k n (right.Repeat j a) at = plain_holds t l k n (right.Repeat j a) at refl
  assign_holds t l k n (right.Bit v j) at = plain_holds t l k n (right.Bit v j) at refl
  assign_holds t l k n (right.Slice v h j) at = plain_holds t l k n (right.Slice v h j) at refl
  assign_holds t l k n (right.Word x i) at = read_holds t l k n x i at

  -- ---- updates

  update_holds : (t : ℕ) → t < length clocks → (k : ℕ) (u : Update) → slice_get m.updates k ≡ Some u → UpdateHolds streams t u
  update_holds t l k (Set r a) at = (keep.registers r (rename_atom (slot m) a) (is.code.nexts k r a at)).later t l ∙ atom_same t a
  update_holds t l k (Put x i a) at =
      let put = is.code.puts k x i a at in
      words_are (suc t) x (put_of m i a) put
      ∙ ap (λ (ws : List ℕ). slice_set ws (atom_at rows t (rename_atom (slot m) i)) (atom_at rows t (rename_atom (slot m) a))) (sym (words_are t x (put_of m i a) put))
      ∙ ap (λ j. slice_set (streams.words t x) j (atom_at rows t (rename_atom (slot m) a))) (atom_same t i)
      ∙ ap (λ v. slice_set (streams.words t x) (atom_value (streams.value t) i) v) (atom_same t a)

  -- ---- accesses

  abbrev IsInsideAt : ℕ → ℕ × Atom Net → Type 0
  IsInsideAt t access = atom_value (streams.value t) access.1 < depth m access.0

  deep_at : (x : ℕ) → x < length m.arrays → length (slice_index_or from.arrays x []) ≡ depth m x
  deep_at x l = deep m.arrays from.arrays x l fitting.arrays

  inside_at : (t x : ℕ) (i : Atom Net) → x < length m.arrays → atom_at rows t (rename_atom (slot m) i) < length (slice_index_or from.arrays x []) → IsInsideAt t (x, i)
  inside_at t x i l h = let same = atom_same t i in let depth_is = deep_at x l in omega (arith, h, same, depth_is)

  right_inside : (t : ℕ) → t < length clocks → (k : ℕ) (n : Net) (r : Right Net ℕ) → slice_get m.assigns k ≡ Some (record { target = n; right = r }) → All (IsInsideAt t) (right_accesses r)
  right_inside t l k n (right.Copy a) at = All-nil (IsInsideAt t)
  right_inside t l k n (right.Not a) at = All-nil (IsInsideAt t)
  right_inside t l k n (right.Binary o a b) at = All-nil (IsInsideAt t)
  right_inside t l k n (right.Choose d a b) at = All-nil (IsInsideAt t)
  right_inside t l k n (right.Join a b) at = All-nil (IsInsideAt t)
  right_inside t l k n (right.Repeat j a) at = All-nil (IsInsideAt t)
  right_inside t l k n (right.Bit v j) at = All-nil (IsInsideAt t)
  right_inside t l k n (right.Slice v h j) at = All-nil (IsInsideAt t)
  right_inside t l k n (right.Word x i) at =
      let ok = All-at (AssignIsSound m) m.assigns k (record { target = n; right = right.Word x i }) rules.assigns at in
      let array = array_at x (read_of m n i) ok.right.array (is.code.reads k n x i at) in
      All-cons (IsInsideAt t) (x, i) [] (inside_at t x i ok.right.array (array.2.read_inside t l)) (All-nil (IsInsideAt t))

  update_inside : (t : ℕ) → t < length clocks → (k : ℕ) (u : Update) → slice_get m.updates k ≡ Some u → All (IsInsideAt t) (update_accesses u)
  update_inside t l k (Set r a) at = All-nil (IsInsideAt t)
  update_inside t l k (Put x i a) at =
      let ok = All-at (UpdateIsSound m) m.updates k (Put x i a) rules.updates at in
      let read = read_at x ok.0 in
      let array = keep.arrays x read.0 (put_of m i a) read.1 (is.code.puts k x i a at) in
      All-cons (IsInsideAt t) (x, i) [] (inside_at t x i ok.0 (array.put_inside t l)) (All-nil (IsInsideAt t))

  inside : (t : ℕ) → t < length clocks → All (IsInsideAt t) (accesses m)
  inside t l =
      All-append (IsInsideAt t) (accesses_of (λ (a : Assign). right_accesses a.right) m.assigns) (accesses_of update_accesses m.updates)
      (accesses_all (IsInsideAt t) (λ (a : Assign). right_accesses a.right) m.assigns (λ k a at. right_inside t l k a.target a.right at))
      (accesses_all (IsInsideAt t) update_accesses m.updates (update_inside t l))

  -- ---- the whole

  given_are : (t : ℕ) (k : Clock) → slice_get clocks t ≡ Some k → firsts (λ i. streams.value t (Input i)) (length m.inputs) ≡ given m k
  given_are t k at =
      let fit = given_fit m rules k (All-at (λ (k : Clock). Fit (din_widths m) k.dins) clocks t k fits at) in
      firsts_are (λ i. streams.value t (Input i)) (given m k) (length m.inputs) 0 (length_fit m.inputs (given m k) fit) (λ i l. keep.inputs t i k at l)

  pub are_streams : AreStreams m clocks streams
  are_streams = record {
    given_are = given_are;
    assigns = λ t l k a at. assign_holds t l k a.target a.right at;
    updates = update_holds;
    inside = inside;
  }

  next_at : (r : ℕ) → r < length m.regs → (a : Atom ℕ) × (slice_get c.nexts.items r ≡ Some a)
  next_at r l = (get_or c.nexts.items r (atom.Net 0), slice_get-get_or c.nexts.items r (atom.Net 0) (omega (arith, l, is.runnable.next_count)))

  regs_first : (r : ℕ) → r < length m.regs → streams.value 0 (Reg r) ≡ slice_index from.regs r
  regs_first r l = let next = next_at r l in (keep.registers r next.0 next.1).first

  from_is : contents_at m streams 0 ≡ from
  from_is =
      let regs = firsts_are (λ i. streams.value 0 (Reg i)) from.regs (length m.regs) 0 (length_fit m.regs from.regs fitting.regs) regs_first in
      let arrays = firsts_are (streams.words 0) from.arrays (length m.arrays) [] (array_count m.arrays from.arrays fitting.arrays) (λ x l. words_first rows (slice_get c.puts.items x) (slice_index_or from.arrays x [])) in
      ap (λ (rs : List ℕ). let stored : Contents = record { regs = rs; arrays = firsts (streams.words 0) (length m.arrays) } in stored) regs
      ∙ ap (λ (ws : List (List ℕ)). let stored : Contents = record { regs = from.regs; arrays = ws } in stored) arrays

  to_is : contents_at m streams (length clocks) ≡ to
  to_is =
      let regs = firsts_are (λ i. streams.value (length clocks) (Reg i)) to.regs (length m.regs) 0 left.reg_count (λ r l. sym (left.regs r l)) in
      let arrays = firsts_are (streams.words (length clocks)) to.arrays (length m.arrays) [] left.array_count
      (λ x l. let p = put_at x l in words_are (length clocks) x p.0 p.1 ∙ sym (left.arrays x p.0 p.1)) in
      ap (λ (rs : List ℕ). let stored : Contents = record { regs = rs; arrays = firsts (streams.words (length clocks)) (length m.arrays) } in stored) regs
      ∙ ap (λ (ws : List (List ℕ)). let stored : Contents = record { regs = to.regs; arrays = ws } in stored) arrays

  shot_is : (t : ℕ) (s : Snapshot) → slice_get (firsts (shot_at m streams) (length clocks)) t ≡ Some s → shot_at m streams t ≡ s
  shot_is t s at =
      let l : t < length clocks = let e = length-firsts (shot_at m streams) (length clocks) in omega (arith, e, slice_get_within (firsts (shot_at m streams) (length clocks)) t s at) in
      same_Some (shot_at m streams t) s (sym (firsts-get (shot_at m streams) (length clocks) t l) ∙ at)

  pub rows_ran : RowsRan m clocks from to rows
  rows_ran = record {
    shots = firsts (shot_at m streams) (length clocks);
    run = subst (λ (end : Contents). Runs m from clocks (firsts (shot_at m streams) (length clocks)) end) to_is
        (subst (λ (begin : Contents). Runs m begin clocks (firsts (shot_at m streams) (length clocks)) (contents_at m streams (length clocks))) from_is (run_is m rules clocks streams are_streams));
    count = length-firsts (shot_at m streams) (length clocks);
    outputs = λ t s at. ap (λ (z : Snapshot). length z.outputs) (sym (shot_is t s at)) ∙ length-firsts (λ i. streams.value t (Output i)) (length m.outputs);
    nets = λ t s n at d. ap (λ (z : Snapshot). net_value z n) (sym (shot_is t s at)) ∙ net_at m streams t n d;
  }
