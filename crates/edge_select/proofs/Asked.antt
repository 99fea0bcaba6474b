-- What frame tests are for, as tests are added; and that none is there for what all pixels pass, or none.
use Rattle.std.proofs.Common.{◌≡◌, ◌⊎◌, ℕ, ◌+◌, ◌-◌, ◌*◌, ◌/◌, ◌%◌, ◌<◌, ◌≤◌, Bool, true, false, List, [], ◌∷◌, ◌++◌, length, refl, sym, ap, subst, ◌∙◌, inl, inr, arith}
use Rattle.std.specs.Prelude.{Contains, if◌then◌else◌, not}
use Rattle.std.proofs.lemmas.Nat.{div-add-mod'}
use Rattle.std.proofs.lemmas.List.Elements.{Contains-push_cases, All-contains}
use Rattle.dk_base.specs.Frames.{Size, area, column, row}
use Rattle.wiring.specs.Netlist.{Netlist}
use Rattle.wiring.specs.Clock.{bit}
use Rattle.frame_paths.specs.Moves.{IsIn}
use Rattle.edge_select.specs.declared.bands.Band.{Band}
use Rattle.edge_select.specs.declared.frame_tests.Test.{Test}
use Rattle.edge_select.specs.declared.frame_tests.FrameTests.{FrameTests}
use Rattle.edge_select.specs.declared.paths.Rectangle.{Rectangle}
use Rattle.edge_select.specs.Bands.{in_interval, in_band}
use Rattle.edge_select.specs.Passes.{IsRectangle, Passes}
use Rattle.edge_select.specs.Pixels.{IsBitOf, AllPass, NonePass}
use Rattle.edge_select.specs.FrameTests.{AreFrameTests, Divides, DividesColumns, DividesRows, test_bits, counter_bits}
use Rattle.edge_select.specs.Asked.{InColumn, InRow, HasIntervalOf, SeparatesColumns, SeparatesRows, AddsOnly, AddsFor}
use Rattle.edge_select.proofs.Combining.{bit_as}
use Rattle.edge_select.proofs.Raster.{at_frame, place, some_area}
use Rattle.edge_select.proofs.Shifts.{column_moved, row_moved}

-- nothing, one more, and one after another
pub only_same : (tests : FrameTests) (P Q : Test → Type 0) → AddsOnly tests tests P Q
only_same tests P Q = record { columns = λ t h. inl h; rows = λ t h. inl h }

pushed : (P : Test → Type 0) (now before : List Test) (new t : Test) → now ≡ before ++ new ∷ [] → P new → Contains now t → Contains before t ⊎ P t
pushed P now before new t e is has = elim (Contains-push_cases before new t (subst (λ (ts : List Test). Contains ts t) e has)) as (λ _. Contains before t ⊎ P t) [
  | inl old ↦ inl old
  | inr same ↦ inr (subst P same is)
]

kept : (P : Test → Type 0) (now before : List Test) (t : Test) → now ≡ before → Contains now t → Contains before t ⊎ P t
kept P now before t e has = inl (subst (λ (ts : List Test). Contains ts t) e has)

pub only_column : (now before : FrameTests) (P Q : Test → Type 0) (new : Test) → now.columns.items ≡ before.columns.items ++ new ∷ [] → now.rows.items ≡ before.rows.items → P new → AddsOnly now before P Q
only_column now before P Q new ec er is = record {
  columns = λ t. pushed P now.columns.items before.columns.items new t ec is;
  rows = λ t. kept Q now.rows.items before.rows.items t er;
}

pub only_row : (now before : FrameTests) (P Q : Test → Type 0) (new : Test) → now.columns.items ≡ before.columns.items → now.rows.items ≡ before.rows.items ++ new ∷ [] → Q new → AddsOnly now before P Q
only_row now before P Q new ec er is = record {
  columns = λ t. kept P now.columns.items before.columns.items t ec;
  rows = λ t. pushed Q now.rows.items before.rows.items new t er is;
}

pub only_by : (now before : FrameTests) (P Q R S : Test → Type 0) → ((t : Test) → P t → R t) → ((t : Test) → Q t → S t) → AddsOnly now before P Q → AddsOnly now before R S
only_by now before P Q R S f g is = record {
  columns = λ t has. elim (is.columns t has) as (λ _. Contains before.columns.items t ⊎ R t) [ inl old ↦ inl old | inr new ↦ inr (f t new) ];
  rows = λ t has. elim (is.rows t has) as (λ _. Contains before.rows.items t ⊎ S t) [ inl old ↦ inl old | inr new ↦ inr (g t new) ];
}

pub only_on : (c b a : FrameTests) (P Q : Test → Type 0) → AddsOnly b a P Q → AddsOnly c b P Q → AddsOnly c a P Q
only_on c b a P Q one other = record {
  columns = λ t has. elim (other.columns t has) as (λ _. Contains a.columns.items t ⊎ P t) [ inl old ↦ one.columns t old | inr new ↦ inr new ];
  rows = λ t has. elim (other.rows t has) as (λ _. Contains a.rows.items t ⊎ Q t) [ inl old ↦ one.rows t old | inr new ↦ inr new ];
}

module _ (size : Size) (some : 1 ≤ size.width) (tall : 1 ≤ size.height) where
  -- a test of the interval of coordinates that are moved on
  pub separates_columns : (delay shift : ℕ) (columns : ℕ → Type 0) (band : Band) (t : Test) → shift ≡ delay % size.width → ((x : ℕ) → x < size.width → IsBitOf (columns x) (bit (in_band size.width band ((x + shift) % size.width)))) → HasIntervalOf band t → SeparatesColumns size delay columns t
  separates_columns delay shift columns band t e moved is = record {
    band = band;
    interval = is;
    columns_are = λ k.
        let there : column size (k + delay) ≡ (column size k + shift) % size.width = column_moved size some tall k delay ∙ ap (λ (d : ℕ). (column size k + d) % size.width) (sym e) in
        subst (λ (v : ℕ). IsBitOf (columns (column size k)) (bit (in_band size.width band v))) (sym there) (moved (column size k) (place size k some tall).column_below);
  }

  pub separates_rows : (delay shift : ℕ) (rows : ℕ → Type 0) (band : Band) (t : Test) → shift ≡ delay / size.width % size.height → ((y : ℕ) → y < size.height → IsBitOf (rows y) (bit (in_band size.height band ((y + shift) % size.height)))) → t.start ≡ delay % size.width → HasIntervalOf band t → SeparatesRows size delay rows t
  separates_rows delay shift rows band t e moved start is = record {
    start = start;
    band = band;
    interval = is;
    rows_are = λ k.
        let whole = div-add-mod' delay size.width in
        let later : k + (delay - t.start) ≡ k + delay / size.width * size.width = omega (arith, whole, start) in
        let there : row size (k + (delay - t.start)) ≡ (row size k + shift) % size.height =
        ap (row size) later ∙ row_moved size some tall k (delay / size.width) ∙ ap (λ (d : ℕ). (row size k + d) % size.height) (sym e) in
        subst (λ (v : ℕ). IsBitOf (rows (row size k)) (bit (in_band size.height band v))) (sym there) (moved (row size k) (place size k some tall).row_below);
  }

  -- the same columns or rows, said in another way
  columns_same : (delay : ℕ) (P Q : ℕ → Type 0) (t : Test) → ((x : ℕ) → x < size.width → (P x → Q x) × (Q x → P x)) → SeparatesColumns size delay P t → SeparatesColumns size delay Q t
  columns_same delay P Q t same is = record {
    band = is.band;
    interval = is.interval;
    columns_are = λ k. let e = same (column size k) (place size k some tall).column_below in bit_as (P (column size k)) (Q (column size k)) (bit (in_band size.width is.band (column size (k + delay)))) e.0 e.1 (is.columns_are k);
  }

  rows_same : (delay : ℕ) (P Q : ℕ → Type 0) (t : Test) → ((y : ℕ) → y < size.height → (P y → Q y) × (Q y → P y)) → SeparatesRows size delay P t → SeparatesRows size delay Q t
  rows_same delay P Q t same is = record {
    start = is.start;
    band = is.band;
    interval = is.interval;
    rows_are = λ k. let e = same (row size k) (place size k some tall).row_below in bit_as (P (row size k)) (Q (row size k)) (bit (in_band size.height is.band (row size (k + (delay - t.start))))) e.0 e.1 (is.rows_are k);
  }

  -- those of a rectangle
  pub only_rectangle : (delay : ℕ) (r : Rectangle) (new mid old : FrameTests) → IsRectangle size r → AddsOnly mid old (SeparatesColumns size delay (IsIn r.across)) (λ t. ⊥) → AddsOnly new mid (λ t. ⊥) (SeparatesRows size delay (IsIn r.down)) → AddsFor size delay (Passes r) new old
  only_rectangle delay r new mid old is across down =
      only_on new mid old (SeparatesColumns size delay (InColumn size (Passes r))) (SeparatesRows size delay (InRow size (Passes r)))
      (only_by mid old (SeparatesColumns size delay (IsIn r.across)) (λ t. ⊥) (SeparatesColumns size delay (InColumn size (Passes r))) (SeparatesRows size delay (InRow size (Passes r))) (λ t. columns_same delay (IsIn r.across) (InColumn size (Passes r)) t wide) (λ t no. absurd no) across)
      (only_by new mid (λ t. ⊥) (SeparatesRows size delay (IsIn r.down)) (SeparatesColumns size delay (InColumn size (Passes r))) (SeparatesRows size delay (InRow size (Passes r))) (λ t no. absurd no) (λ t. rows_same delay (IsIn r.down) (InRow size (Passes r)) t high) down)
    where
      wide : (x : ℕ) → x < size.width → (IsIn r.across x → InColumn size (Passes r) x) × (InColumn size (Passes r) x → IsIn r.across x)
      wide x low = ((λ h. (r.down.first, omega (arith, is.down.some, is.down.last), record { across = h; down = record { first = omega arith; last = is.down.some } })), (λ h. h.2.across))

      high : (y : ℕ) → y < size.height → (IsIn r.down y → InRow size (Passes r) y) × (InRow size (Passes r) y → IsIn r.down y)
      high y low = ((λ h. (r.across.first, omega (arith, is.across.some, is.across.last), record { across = record { first = omega arith; last = is.across.some }; down = h })), (λ h. h.2.down))

  -- those of the same pixels
  pub for_same : (delay : ℕ) (passes other : (x y : ℕ) → Type 0) (now before : FrameTests) → ((x y : ℕ) → x < size.width → y < size.height → (passes x y → other x y) × (other x y → passes x y)) → AddsFor size delay passes now before → AddsFor size delay other now before
  for_same delay passes other now before same =
      only_by now before (SeparatesColumns size delay (InColumn size passes)) (SeparatesRows size delay (InRow size passes)) (SeparatesColumns size delay (InColumn size other)) (SeparatesRows size delay (InRow size other))
      (λ t. columns_same delay (InColumn size passes) (InColumn size other) t (λ x low. ((λ h. (h.0, h.1, (same x h.0 low h.1).0 h.2)), (λ h. (h.0, h.1, (same x h.0 low h.1).1 h.2)))))
      (λ t. rows_same delay (InRow size passes) (InRow size other) t (λ y low. ((λ h. (h.0, h.1, (same h.0 y h.1 low).0 h.2)), (λ h. (h.0, h.1, (same h.0 y h.1 low).1 h.2)))))

  -- some pixel comes to each place after a delay
  reach : (d x y : ℕ) → x < size.width → y < size.height → (k : ℕ) × (column size (k + d) ≡ x) × (row size (k + d) ≡ y)
  reach d x y low high =
      let n : ℕ = area size in
      let whole : n ≡ n - 1 + 1 = (let h = some_area size some tall in omega (arith, h)) in
      let times : d * n ≡ d * (n - 1 + 1) = ap (λ (m : ℕ). d * m) whole in
      let k : ℕ = d * (n - 1) + (y * size.width + x) in
      let e : k + d ≡ d * n + (y * size.width + x) = omega (arith, times) in
      let at = at_frame size d x y low high in
      (k, ap (column size) e ∙ at.0, ap (row size) e ∙ at.1)

-- an interval that divides its side has both results, and so have the others
both_by : (o i j : Bool) (v : ℕ) → i ≡ true → j ≡ false → bit (if o then not i else i) ≡ v → bit (if o then not j else j) ≡ v → ⊥
both_by true i j v ei ej one other = (let a : 0 ≡ v = ap (λ (t : Bool). bit (not t)) (sym ei) ∙ one in let b : 1 ≡ v = ap (λ (t : Bool). bit (not t)) (sym ej) ∙ other in omega (arith, a, b))
both_by false i j v ei ej one other = (let a : 1 ≡ v = ap bit (sym ei) ∙ one in let b : 0 ≡ v = ap bit (sym ej) ∙ other in omega (arith, a, b))

two_results : (side : ℕ) (band : Band) (t : Test) (v : ℕ) → HasIntervalOf band t → Divides side t.band → ((x : ℕ) → x < side → bit (in_band side band x) ≡ v) → ⊥
two_results side band t v e divides all =
    let inner : (x : ℕ) → in_interval side band.first band.last x ≡ in_band side t.band x = λ x. ap (λ (b : Band). in_band side b x) (sym e) in
    let x = divides.inside in
    let y = divides.outside in
    both_by band.outside (in_interval side band.first band.last x.0) (in_interval side band.first band.last y.0) v (inner x.0 ∙ x.2) (inner y.0 ∙ y.2) (all x.0 x.1) (all y.0 y.1)

is_one : (P : Type 0) (v : ℕ) → P → IsBitOf P v → v ≡ 1
is_one P v p (inl h) = h.1
is_one P v p (inr h) = absurd (h.0 p)

is_zero : (P : Type 0) (v : ℕ) → (P → ⊥) → IsBitOf P v → v ≡ 0
is_zero P v none (inl h) = absurd (none h.0)
is_zero P v none (inr h) = h.1

-- so no test is there for what all pixels pass, or none
module _ (size : Size) (some : 1 ≤ size.width) (tall : 1 ≤ size.height) (delay : ℕ) (passes : (x y : ℕ) → Type 0) where
  column_value : (v : ℕ) (band : Band) → ((k : ℕ) → bit (in_band size.width band (column size (k + delay))) ≡ v) → (x : ℕ) → x < size.width → bit (in_band size.width band x) ≡ v
  column_value v band all x low = let at = reach size some tall delay x 0 low tall in sym (ap (λ (u : ℕ). bit (in_band size.width band u)) at.1) ∙ all at.0

  pub no_columns : (t : Test) → SeparatesColumns size delay (InColumn size passes) t → DividesColumns size t → AllPass size.width size.height passes ⊎ NonePass size.width size.height passes → ⊥
  no_columns t is divides (inl all) =
      two_results size.width is.band t 1 is.interval divides.band
      (column_value 1 is.band (λ k. is_one (InColumn size passes (column size k)) (bit (in_band size.width is.band (column size (k + delay)))) (0, tall, all (column size k) 0 (place size k some tall).column_below tall) (is.columns_are k)))
  no_columns t is divides (inr none) =
      two_results size.width is.band t 0 is.interval divides.band
      (column_value 0 is.band (λ k. is_zero (InColumn size passes (column size k)) (bit (in_band size.width is.band (column size (k + delay)))) (λ h. none (column size k) h.0 (place size k some tall).column_below h.1 h.2) (is.columns_are k)))

  row_value : (v d : ℕ) (band : Band) → ((k : ℕ) → bit (in_band size.height band (row size (k + d))) ≡ v) → (y : ℕ) → y < size.height → bit (in_band size.height band y) ≡ v
  row_value v d band all y low = let at = reach size some tall d 0 y some low in sym (ap (λ (u : ℕ). bit (in_band size.height band u)) at.2) ∙ all at.0

  pub no_rows : (t : Test) → SeparatesRows size delay (InRow size passes) t → DividesRows size t → AllPass size.width size.height passes ⊎ NonePass size.width size.height passes → ⊥
  no_rows t is divides (inl all) =
      two_results size.height is.band t 1 is.interval divides.band
      (row_value 1 (delay - t.start) is.band (λ k. is_one (InRow size passes (row size k)) (bit (in_band size.height is.band (row size (k + (delay - t.start))))) (0, some, all 0 (row size k) some (place size k some tall).row_below) (is.rows_are k)))
  no_rows t is divides (inr none) =
      two_results size.height is.band t 0 is.interval divides.band
      (row_value 0 (delay - t.start) is.band (λ k. is_zero (InRow size passes (row size k)) (bit (in_band size.height is.band (row size (k + (delay - t.start))))) (λ h. none h.0 (row size k) h.1 (place size k some tall).row_below h.2) (is.rows_are k)))

none_in : (ts : List Test) → ((t : Test) → Contains ts t → ⊥) → ts ≡ []
none_in [] none = refl
none_in (t ∷ ts) none = absurd (none t (0, omega arith, refl))

-- without tests there are no registers
pub no_bits : (b : Netlist) (size : Size) (tests : FrameTests) → AreFrameTests b size tests → ((t : Test) → Contains tests.columns.items t → DividesColumns size t → ⊥) → ((t : Test) → Contains tests.rows.items t → DividesRows size t → ⊥) → test_bits tests ≡ 0
no_bits b size tests are no_columns no_rows =
    let columns : tests.columns.items ≡ [] = none_in tests.columns.items (λ t has. no_columns t has (All-contains (DividesColumns size) tests.columns.items t are.columns_divide has)) in
    let rows : tests.rows.items ≡ [] = none_in tests.rows.items (λ t has. no_rows t has (All-contains (DividesRows size) tests.rows.items t are.rows_divide has)) in
    let c = ap length columns in
    let r = ap length rows in
    let k = ap counter_bits (are.needed columns rows) in
    omega (arith, c, r, k)
