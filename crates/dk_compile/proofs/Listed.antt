-- Each typed program has a list of its live reads of kept images, in order.
use Rattle.std.proofs.Common.{◌≡◌, ℕ, ◌+◌, ◌<◌, ℤ, ◌<ℤ◌, List, length, refl, subst, arith}
use Rattle.std.proofs.lemmas.Int.{ints}
use Rattle.dk_base.specs.declared.stencils.LiveRead.{LiveRead}
use Rattle.dk_base.specs.Stencils.{IsBefore}
use Rattle.dk_types.specs.Typed.{Typing}
use Rattle.dk_types.specs.Kept.{IsTyped}
use Rattle.pointwise_ir.specs.Stencils.{the}
use Rattle.dk_compile.specs.Sources.{IsKeptRead, AreReadsOf}
use Rattle.dk_compile.proofs.Searches.{Settled, both, settled_as}
use Rattle.dk_compile.proofs.Decided.{offset_at, offset_place, offsets_ascend, live_or_not, live_bounded, kept_or_not}
use Rattle.dk_compile.proofs.Sweeps.{Each, In, Ascend, in_order, each_of, in_contains, sweep, each_sweep, in_sweep, ascend_sweep, picked, each_picked, ascend_picked, in_picked}

-- what is known of all reads of one sweep: the reader, the source, the row and the column
record InReader (f : ℕ) (r : LiveRead) : Type 0 where
  pub reader : r.f ≡ f

record InSource (f g : ℕ) (r : LiveRead) : Type 0 where
  pub reader : r.f ≡ f
  pub source : r.g ≡ g

record InRow (f g : ℕ) (dy : ℤ) (r : LiveRead) : Type 0 where
  pub reader : r.f ≡ f
  pub source : r.g ≡ g
  pub down : r.dy ≡ dy

record InCell (f g : ℕ) (dy dx : ℤ) (r : LiveRead) : Type 0 where
  pub reader : r.f ≡ f
  pub source : r.g ≡ g
  pub down : r.dy ≡ dy
  pub across : r.dx ≡ dx

reader_first : (m n : ℕ) (a b : LiveRead) → m < n → InReader m a → InReader n b → IsBefore a b
reader_first m n a b lt x y =
    let p = x.reader in let q = y.reader in
    record { reader = omega (arith, lt, p, q); source = λ e. absurd (omega (arith, lt, p, q, e)); rows = λ e g. absurd (omega (arith, lt, p, q, e)); columns = λ e g h. absurd (omega (arith, lt, p, q, e)) }

source_first : (f m n : ℕ) (a b : LiveRead) → m < n → InSource f m a → InSource f n b → IsBefore a b
source_first f m n a b lt x y =
    let i = x.reader in let j = y.reader in
    let p = x.source in let q = y.source in
    record { reader = omega (arith, i, j); source = λ e. omega (arith, lt, p, q); rows = λ e g. absurd (omega (arith, lt, p, q, g)); columns = λ e g h. absurd (omega (arith, lt, p, q, g)) }

row_first : (f g : ℕ) (m n : ℤ) (a b : LiveRead) → m <ℤ n → InRow f g m a → InRow f g n b → IsBefore a b
row_first f g m n a b lt x y =
    let i = x.reader in let j = y.reader in
    let k = x.source in let l = y.source in
    let p = x.down in let q = y.down in
    record { reader = omega (arith, i, j); source = λ e. omega (arith, k, l); rows = λ e h. omega (arith, ints, lt, p, q); columns = λ e h s. absurd (omega (arith, ints, lt, p, q, s)) }

column_first : (f g : ℕ) (dy m n : ℤ) (a b : LiveRead) → m <ℤ n → InCell f g dy m a → InCell f g dy n b → IsBefore a b
column_first f g dy m n a b lt x y =
    let i = x.reader in let j = y.reader in
    let k = x.source in let l = y.source in
    let s = x.down in let t = y.down in
    let p = x.across in let q = y.across in
    record { reader = omega (arith, i, j); source = λ e. omega (arith, k, l); rows = λ e h. omega (arith, ints, s, t); columns = λ e h z. omega (arith, ints, lt, p, q) }

module _ (p : Typing) (typed : IsTyped p) where
  read_or_not : (r : LiveRead) → Settled (IsKeptRead p r)
  read_or_not r = settled_as (λ h. record { kept = h.0; live = h.1 }) (λ h. (h.kept, h.live)) (both (kept_or_not p typed r.f) (live_or_not p typed r.f r.g r.dx r.dy))

  abbrev across : ℕ → ℤ
  across i = offset_at p.size.width i

  abbrev down : ℕ → ℤ
  down j = offset_at p.size.height j

  abbrev cell : (f g : ℕ) → (dy dx : ℤ) → List LiveRead
  cell f g dy dx = picked (IsKeptRead p) (the f g dx dy) (read_or_not (the f g dx dy))

  abbrev row : (f g : ℕ) → ℤ → List LiveRead
  row f g dy = sweep (p.size.width + p.size.width) (λ i. cell f g dy (across i))

  abbrev source : (f g : ℕ) → List LiveRead
  source f g = sweep (p.size.height + p.size.height) (λ j. row f g (down j))

  abbrev reader : ℕ → List LiveRead
  reader f = sweep f (λ g. source f g)

  abbrev all : List LiveRead
  all = sweep (length p.inputs + length p.definitions) reader

  -- a fact of each read of a row, of a source, of a reader
  each_row : (P : LiveRead → Type 0) (f g : ℕ) (dy : ℤ) → ((dx : ℤ) → IsKeptRead p (the f g dx dy) → P (the f g dx dy)) → Each P (row f g dy)
  each_row P f g dy fact = each_sweep P (p.size.width + p.size.width) (λ i. cell f g dy (across i)) (λ i lt. each_picked P (IsKeptRead p) (the f g (across i) dy) (read_or_not (the f g (across i) dy)) (fact (across i)))

  each_source : (P : LiveRead → Type 0) (f g : ℕ) → ((dx dy : ℤ) → IsKeptRead p (the f g dx dy) → P (the f g dx dy)) → Each P (source f g)
  each_source P f g fact = each_sweep P (p.size.height + p.size.height) (λ j. row f g (down j)) (λ j lt. each_row P f g (down j) (λ dx. fact dx (down j)))

  each_reader : (P : LiveRead → Type 0) (f : ℕ) → ((g : ℕ) (dx dy : ℤ) → IsKeptRead p (the f g dx dy) → P (the f g dx dy)) → Each P (reader f)
  each_reader P f fact = each_sweep P f (λ g. source f g) (λ g lt. each_source P f g (fact g))

  sound : Each (IsKeptRead p) all
  sound = each_sweep (IsKeptRead p) (length p.inputs + length p.definitions) reader (λ f lt. each_reader (IsKeptRead p) f (λ g dx dy is. is))

  row_ascends : (f g : ℕ) (dy : ℤ) → Ascend (row f g dy)
  row_ascends f g dy = ascend_sweep (λ i r. InCell f g dy (across i) r) (λ j k a b lt x y. column_first f g dy (across j) (across k) a b (offsets_ascend p.size.width j k lt) x y)
      (p.size.width + p.size.width) (λ i. cell f g dy (across i)) (λ i. ascend_picked (IsKeptRead p) (the f g (across i) dy) (read_or_not (the f g (across i) dy)))
      (λ i. each_picked (InCell f g dy (across i)) (IsKeptRead p) (the f g (across i) dy) (read_or_not (the f g (across i) dy)) (λ is. record { reader = refl; source = refl; down = refl; across = refl }))

  source_ascends : (f g : ℕ) → Ascend (source f g)
  source_ascends f g = ascend_sweep (λ j r. InRow f g (down j) r) (λ j k a b lt x y. row_first f g (down j) (down k) a b (offsets_ascend p.size.height j k lt) x y)
      (p.size.height + p.size.height) (λ j. row f g (down j)) (λ j. row_ascends f g (down j))
      (λ j. each_row (InRow f g (down j)) f g (down j) (λ dx is. record { reader = refl; source = refl; down = refl }))

  reader_ascends : (f : ℕ) → Ascend (reader f)
  reader_ascends f = ascend_sweep (λ g r. InSource f g r) (λ j k a b lt x y. source_first f j k a b lt x y) f (λ g. source f g) (λ g. source_ascends f g)
      (λ g. each_source (InSource f g) f g (λ dx dy is. record { reader = refl; source = refl }))

  ascends : Ascend all
  ascends = ascend_sweep (λ f r. InReader f r) (λ j k a b lt x y. reader_first j k a b lt x y) (length p.inputs + length p.definitions) reader reader_ascends
      (λ f. each_reader (InReader f) f (λ g dx dy is. record { reader = refl }))

  complete : (r : LiveRead) → IsKeptRead p r → In r all
  complete r is =
      let bounds = live_bounded p typed r.f r.g r.dx r.dy is.live in
      let (i, less, x) = offset_place p.size.width r.dx bounds.across in
      let (j, lt, y) = offset_place p.size.height r.dy bounds.down in
      let here : In r (cell r.f r.g r.dy r.dx) = in_picked (IsKeptRead p) r (read_or_not r) is in
      let A : ℤ → Type 0 = λ d. In r (cell r.f r.g r.dy d) in
      let in_row : In r (row r.f r.g r.dy) = in_sweep r (p.size.width + p.size.width) (λ i. cell r.f r.g r.dy (across i)) i less (subst A x here) in
      let B : ℤ → Type 0 = λ d. In r (row r.f r.g d) in
      let in_source : In r (source r.f r.g) = in_sweep r (p.size.height + p.size.height) (λ j. row r.f r.g (down j)) j lt (subst B y in_row) in
      let in_reader : In r (reader r.f) = in_sweep r r.f (λ g. source r.f g) r.g bounds.source in_source in
      in_sweep r (length p.inputs + length p.definitions) reader r.f bounds.reader in_reader

  pub listed : (reads : List LiveRead) × AreReadsOf p reads
  listed = (all, record { in_order = in_order all ascends; exact = λ r. (λ h. each_of (IsKeptRead p) all sound r h, λ is. in_contains all r (complete r is)) })
