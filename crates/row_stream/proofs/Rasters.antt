-- Lines of a raster that follow one another.
use Rattle.std.proofs.Common.{◌≡◌, ℕ, zero, suc, ◌+◌, ◌*◌, ◌<◌, ◌≤◌, ◌⊎◌, inl, inr, Bool, true, false, List, [], ◌∷◌, ◌++◌, length, map, refl, ap, sym, subst, ◌∙◌, arith, length-append}
use Rattle.std.specs.List.{AllByRecursion, range_with_len}
use Rattle.std.specs.Io.KnownBytes.{prepend_known}
use Rattle.std.proofs.lemmas.List.{get_or_append_left, get_or-append-add}
use Rattle.dk_desk.specs.Outside.{Outside}
use Rattle.dk_desk.proofs.DeskLemmas.{prepend_known-more}
use Rattle.wiring.specs.Netlist.{Netlist}
use Rattle.wiring.specs.Snapshot.{Contents}
use Rattle.wiring.specs.Clock.{Clock}
use Rattle.pgm_codec.specs.declared.header.Header.{Header}
use Rattle.pgm_codec.specs.Images.{is_narrow, size_of, sample_size}
use Rattle.pgm_codec.specs.Rasters.{AllFit, sample_by, sample_at, row_length}
use Rattle.row_stream.specs.declared.line.Line.{Line}
use Rattle.row_stream.specs.Lines.{Kind}
use Rattle.row_stream.specs.Standing.{pixel_clock, IsPixelClock}
use Rattle.row_stream.specs.Progress.{Goes, pixel_clocks}
use Rattle.row_stream.specs.RowReading.{Streams, samples_in}
use Rattle.row_stream.proofs.Clocks.{goes_join, goes_none}
use Rattle.row_stream.proofs.Pixels.{cut}

pub side : (k n : ℕ) → (k < n) ⊎ ((j : ℕ) × (k ≡ n + j))
side k zero = inr (k, (let e : k ≡ 0 + k = omega arith in e))
side zero (suc n) = inl (let l : 0 < suc n = omega arith in l)
side (suc k) (suc n) = next k n (side k n)
  where
    next : (k n : ℕ) → (k < n) ⊎ ((j : ℕ) × (k ≡ n + j)) → (suc k < suc n) ⊎ ((j : ℕ) × (suc k ≡ suc n + j))
    next k n (inl l) = inl (let h : suc k < suc n = omega (arith, l) in h)
    next k n (inr p) = inr (p.0, (let e : suc k ≡ suc n + p.0 = omega (arith, p.1) in e))

pub placed_front : (b : Bool) (xs ys : List ℕ) (k : ℕ) → (k + 1) * size_of b ≤ length xs → sample_by b (xs ++ ys) k ≡ sample_by b xs k
placed_front true xs ys k l = get_or_append_left xs ys 0 k (omega (arith, l))
placed_front false xs ys k l =
    ap (λ z. 256 * z + Rattle.std.specs.Prelude.slice_index (xs ++ ys) (2 * k + 1)) (get_or_append_left xs ys 0 (2 * k) (omega (arith, l)))
    ∙ ap (λ z. 256 * Rattle.std.specs.Prelude.slice_index xs (2 * k) + z) (get_or_append_left xs ys 0 (2 * k + 1) (omega (arith, l)))

pub placed_back : (b : Bool) (xs ys : List ℕ) (n k : ℕ) → length xs ≡ n * size_of b → sample_by b (xs ++ ys) (n + k) ≡ sample_by b ys k
placed_back true xs ys n k e = ap (λ z. Rattle.std.specs.Prelude.slice_index (xs ++ ys) z) (let f : n + k ≡ length xs + k = omega (arith, e) in f) ∙ get_or-append-add xs ys k 0
placed_back false xs ys n k e =
    ap (λ z. 256 * Rattle.std.specs.Prelude.slice_index (xs ++ ys) z + Rattle.std.specs.Prelude.slice_index (xs ++ ys) (2 * (n + k) + 1)) (let f : 2 * (n + k) ≡ length xs + 2 * k = omega (arith, e) in f)
    ∙ ap (λ z. 256 * Rattle.std.specs.Prelude.slice_index (xs ++ ys) (length xs + 2 * k) + Rattle.std.specs.Prelude.slice_index (xs ++ ys) z) (let f : 2 * (n + k) + 1 ≡ length xs + (2 * k + 1) = omega (arith, e) in f)
    ∙ ap (λ z. 256 * z + Rattle.std.specs.Prelude.slice_index (xs ++ ys) (length xs + (2 * k + 1))) (get_or-append-add xs ys (2 * k) 0)
    ∙ ap (λ z. 256 * Rattle.std.specs.Prelude.slice_index ys (2 * k) + z) (get_or-append-add xs ys (2 * k + 1) 0)

pub times : (k n s : ℕ) → k < n → (k + 1) * s ≤ n * s
times k zero s l = absurd (omega (arith, l))
times zero (suc n) s l = omega arith
times (suc k) (suc n) s l = let h : (k + 1) * s ≤ n * s = times k n s (omega (arith, l)) in omega (arith, h)

pub fit_both : (maxval n : ℕ) (xs ys : List ℕ) → length xs ≡ n * sample_size maxval → AllFit maxval xs → AllFit maxval ys → AllFit maxval (xs ++ ys)
fit_both maxval n xs ys e first second k l = at (side k n)
  where
    behind : (s j : ℕ) (a b : ℕ) → a ≡ n * s → (n + j + 1) * s ≤ a + b → (j + 1) * s ≤ b
    behind s j a b e l = let f : (n + j + 1) * s ≡ n * s + (j + 1) * s = omega arith in omega (arith, e, l, f)

    at : (k < n) ⊎ ((j : ℕ) × (k ≡ n + j)) → sample_at maxval (xs ++ ys) k ≤ maxval
    at (inl below) =
        let here : (k + 1) * sample_size maxval ≤ length xs = subst (λ z. (k + 1) * sample_size maxval ≤ z) (sym e) (times k n (sample_size maxval) below) in
        subst (λ z. z ≤ maxval) (sym (placed_front (is_narrow maxval) xs ys k here)) (first k here)
    at (inr p) =
        let there : (p.0 + 1) * sample_size maxval ≤ length ys = behind (sample_size maxval) p.0 (length xs) (length ys) e (subst (λ z. (z + 1) * sample_size maxval ≤ length xs + length ys) p.1 (subst (λ z. (k + 1) * sample_size maxval ≤ z) (length-append xs ys) l)) in
        subst (λ z. z ≤ maxval) (sym (ap (λ z. sample_at maxval (xs ++ ys) z) p.1 ∙ placed_back (is_narrow maxval) xs ys n p.0 e)) (second p.0 there)

same_clocks : (f g : ℕ → ℕ) (a b n : ℕ) → ((k : ℕ) → k < n → f (a + k) ≡ g (b + k)) → map (λ k. pixel_clock (f k)) (range_with_len a n) ≡ map (λ k. pixel_clock (g k)) (range_with_len b n)
same_clocks f g a b zero h = refl
same_clocks f g a b (suc n) h =
    let first : f a ≡ g b = ap f (let e : a ≡ a + 0 = omega arith in e) ∙ h 0 (omega arith) ∙ ap g (let e : b + 0 ≡ b = omega arith in e) in
    ap (λ z. pixel_clock z ∷ map (λ k. pixel_clock (f k)) (range_with_len (a + 1) n)) first
    ∙ ap (λ z. pixel_clock (g b) ∷ z) (same_clocks f g (a + 1) (b + 1) n (λ k l. ap f (let e : a + 1 + k ≡ a + suc k = omega arith in e) ∙ h (suc k) (omega (arith, l)) ∙ ap g (let e : b + suc k ≡ b + 1 + k = omega arith in e)))

pub row_bytes : (rows : ℕ) (header : Header) → rows * row_length header ≡ rows * header.width * sample_size header.maxval
row_bytes rows header = sym (assoc rows header.width (sample_size header.maxval))
  where
    assoc : (a b c : ℕ) → a * b * c ≡ a * (b * c)
    assoc zero b c = omega arith
    assoc (suc a) b c = let e : a * b * c ≡ a * (b * c) = assoc a b c in distribute a b c e
      where
        distribute : (a b c : ℕ) → a * b * c ≡ a * (b * c) → suc a * b * c ≡ suc a * (b * c)
        distribute a b c e = grind (arith, e)

small_both : (xs ys : List ℕ) → ((k : ℕ) → Rattle.std.specs.Prelude.slice_index xs k < 256) → ((k : ℕ) → Rattle.std.specs.Prelude.slice_index ys k < 256) → (k : ℕ) → Rattle.std.specs.Prelude.slice_index (xs ++ ys) k < 256
small_both [] ys h g k = g k
small_both (x ∷ xs) ys h g zero = h 0
small_both (x ∷ xs) ys h g (suc k) = small_both xs ys (λ j. h (suc j)) g k

-- one line more
pub streams_more : (kind : Kind) (m : Netlist) (header : Header) (rows : ℕ) (from mid to : Contents) (old between new : Line) (before half now : Outside) → Streams kind m header rows from mid old between before half →
    Streams kind m header 1 mid to between new half now → Streams kind m header (rows + 1) from to old new before now
streams_more kind m header rows from mid to old between new before half now h g =
    let s = sample_size header.maxval in
    let w = header.width in
    let xs = h.raster in
    let ys = g.raster in
    let count : length xs ≡ rows * w * s = h.are.length_is ∙ row_bytes rows header in
    let last : length ys ≡ 1 * w * s = g.are.length_is ∙ row_bytes 1 header in
    let front : pixel_clocks (samples_in header.maxval (xs ++ ys)) (rows * w) ≡ pixel_clocks (samples_in header.maxval xs) (rows * w) =
    same_clocks (samples_in header.maxval (xs ++ ys)) (samples_in header.maxval xs) 0 0 (rows * w) (λ k l. placed_front (is_narrow header.maxval) xs ys (0 + k) (subst (λ z. (0 + k + 1) * s ≤ z) (sym count) (times (0 + k) (rows * w) s (omega (arith, l))))) in
    let back : map (λ k. pixel_clock (samples_in header.maxval (xs ++ ys) k)) (range_with_len (0 + rows * w) (1 * w)) ≡ pixel_clocks (samples_in header.maxval ys) (1 * w) =
    same_clocks (samples_in header.maxval (xs ++ ys)) (samples_in header.maxval ys) (0 + rows * w) 0 (1 * w) (λ k l. placed_back (is_narrow header.maxval) xs ys (0 + rows * w) (k) (count ∙ ap (λ z. z * s) (let e : rows * w ≡ 0 + rows * w = omega arith in e)) ∙ ap (λ z. samples_in header.maxval ys z) (let e : k ≡ 0 + k = omega arith in e)) in
    let parts : pixel_clocks (samples_in header.maxval (xs ++ ys)) ((rows + 1) * w) ≡ pixel_clocks (samples_in header.maxval xs) (rows * w) ++ pixel_clocks (samples_in header.maxval ys) (1 * w) =
    ap (λ z. pixel_clocks (samples_in header.maxval (xs ++ ys)) z) (let e : (rows + 1) * w ≡ rows * w + 1 * w = omega arith in e)
    ∙ cut (λ k. pixel_clock (samples_in header.maxval (xs ++ ys) k)) 0 (rows * w) (1 * w)
    ∙ ap (λ z. z ++ map (λ k. pixel_clock (samples_in header.maxval (xs ++ ys) k)) (range_with_len (0 + rows * w) (1 * w))) front
    ∙ ap (λ z. pixel_clocks (samples_in header.maxval xs) (rows * w) ++ z) back in
    record {
      raster = xs ++ ys;
      are = record {
        length_is = length-append xs ys ∙ (let e : length xs + length ys ≡ (rows + 1) * row_length header = omega (arith, h.are.length_is, g.are.length_is) in e);
        fit = fit_both header.maxval (rows * w) xs ys count h.are.fit g.are.fit;
        bytes = small_both xs ys h.are.bytes g.are.bytes;
      };
      given = h.given ∙ ap (λ z. prepend_known xs z) g.given ∙ prepend_known-more xs ys now.image.rest;
      goes = subst (λ z. Goes kind m z from to old new before now) (sym parts) (goes_join kind m (pixel_clocks (samples_in header.maxval xs) (rows * w)) (pixel_clocks (samples_in header.maxval ys) (1 * w)) from mid old between before half now to new h.goes g.goes);
    }

pub streams_none : (kind : Kind) (m : Netlist) (header : Header) (at : Contents) (line : Line) (o : Outside) → Streams kind m header 0 at at line line o o
streams_none kind m header at line o = record {
  raster = [];
  are = record { length_is = (let e : 0 ≡ 0 * row_length header = omega arith in e); fit = λ k l. absurd (none k (sample_size header.maxval) (some (is_narrow header.maxval)) l); bytes = λ k. zeros k };
  given = nothing o.image.rest;
  goes = subst (λ n. Goes kind m (pixel_clocks (samples_in header.maxval []) n) at at line line o o) (let e : 0 ≡ 0 * header.width = omega arith in e) (goes_none kind m at line o);
}
  where
    zeros : (k : ℕ) → Rattle.std.specs.Prelude.slice_index [] k < 256
    zeros zero = omega arith
    zeros (suc k) = omega arith

    some : (b : Bool) → 0 < size_of b
    some true = omega arith
    some false = omega arith

    none : (k s : ℕ) → 0 < s → (k + 1) * s ≤ 0 → ⊥
    none k s p l = let e : (k + 1) * s ≡ k * s + s = omega arith in omega (arith, e, p, l)

    nothing : (known : Rattle.std.specs.Prelude.Option (List ℕ)) → known ≡ prepend_known [] known
    nothing Rattle.std.specs.Prelude.None = refl
    nothing (Rattle.std.specs.Prelude.Some x) = refl

pub both : (m : Netlist) (cs ds : List Clock) → AllByRecursion (IsPixelClock m) cs → AllByRecursion (IsPixelClock m) ds → AllByRecursion (IsPixelClock m) (cs ++ ds)
both m [] ds h g = g
both m (c ∷ cs) ds h g = (h.0, both m cs ds h.1 g)
