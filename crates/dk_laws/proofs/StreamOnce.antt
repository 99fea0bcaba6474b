-- At an Image fault what is left of the file is decided by the file.
use Rattle.std.proofs.Common.{◌≡◌, ℕ, suc, ◌+◌, ◌*◌, ◌/◌, ◌<◌, ◌≤◌, ◌⊎◌, inl, inr, Bool, true, false, List, [], ◌∷◌, ◌++◌, length, take, drop, Option, Some, sym, ap, ◌∙◌, subst, arith, append_assoc, length-append}
use Rattle.std.specs.List.{flat_map}
use Rattle.std.proofs.lemmas.List.{take-append-le, take_all}
use Rattle.std.proofs.lemmas.Nat.{div-mul-add}
use Rattle.std.proofs.lemmas.Bool.{cases_lt}
use Rattle.dk_base.specs.declared.TheConstants.{MAX_FILE_IMAGES}
use Rattle.dk_base.specs.Frames.{Size}
use Rattle.dk_types.specs.Typed.{Typing}
use Rattle.pgm_codec.specs.declared.header.Header.{Header}
use Rattle.pgm_codec.specs.Answers.{Reads, Undecided}
use Rattle.pgm_codec.specs.Images.{Image, AreImages, IsImageOf, IsRaster, is_narrow, spelled, size_of, sample_size}
use Rattle.pgm_codec.specs.Rasters.{row_length}
use Rattle.pgm_codec.proofs.Unique.{one_front}
use Rattle.pgm_rounds.specs.Files.{IsHeaded}
use Rattle.row_stream.specs.Heads.{IsUndecidedBefore}
use Rattle.row_stream.proofs.HeadEnds.{exact_whole, one_header}
use Rattle.dk_top.specs.Streaming.{first_bits, OpenLines, between, opened, ReadsHeader, to_fault, further_byte, ReadsRow, ReadsNext, ReadsToFault}
use Rattle.dk_top.proofs.StreamTaken.{headed_line}

abbrev pub OneImage : Type 0
OneImage = (first second rest more : List ℕ) (p q : Image) → IsImageOf first p → IsImageOf second q → first ++ rest ≡ second ++ more → (first ≡ second) × (p ≡ q)

-- fronts of one length
pub same_rest : (xs ys rest more : List ℕ) → length xs ≡ length ys → xs ++ rest ≡ ys ++ more → rest ≡ more
same_rest [] [] rest more count e = e
same_rest [] (y ∷ ys) rest more count e = absurd (let f : ⊥ = omega (arith, count) in f)
same_rest (x ∷ xs) [] rest more count e = absurd (let f : ⊥ = omega (arith, count) in f)
same_rest (x ∷ xs) (y ∷ ys) rest more count e = same_rest xs ys rest more (let c : length xs ≡ length ys = omega (arith, count) in c) (ap (λ l. drop 1 l) e)

-- as many images at the front are the same bytes
same_images : OneImage → (ps qs : List Image) (xs ys rest more : List ℕ) → AreImages xs ps → AreImages ys qs → length ps ≡ length qs → xs ++ rest ≡ ys ++ more → xs ≡ ys
same_images one [] [] xs ys rest more a b count e = a ∙ sym b
same_images one [] (q ∷ qs) xs ys rest more a b count e = absurd (let f : ⊥ = omega (arith, count) in f)
same_images one (p ∷ ps) [] xs ys rest more a b count e = absurd (let f : ⊥ = omega (arith, count) in f)
same_images one (p ∷ ps) (q ∷ qs) xs ys rest more a b count e =
    let whole : a.0 ++ (a.1 ++ rest) ≡ b.0 ++ (b.1 ++ more) = sym (ap (λ z. z ++ rest) a.2 ∙ append_assoc a.0 a.1 rest) ∙ (e ∙ (ap (λ z. z ++ more) b.2 ∙ append_assoc b.0 b.1 more)) in
    let first : a.0 ≡ b.0 = (one a.0 b.0 (a.1 ++ rest) (b.1 ++ more) p q a.3 b.3 whole).0 in
    let behind : a.1 ++ rest ≡ b.1 ++ more = same_rest a.0 b.0 (a.1 ++ rest) (b.1 ++ more) (ap length first) whole in
    let others : a.1 ≡ b.1 = same_images one ps qs a.1 b.1 rest more a.4 b.4 (let c : length ps ≡ length qs = omega (arith, count) in c) behind in
    a.2 ∙ (ap (λ z. z ++ a.1) first ∙ (ap (λ z. b.0 ++ z) others ∙ sym b.2))

-- the bytes of samples
spelled_length : (narrow : Bool) (xs : List ℕ) → length (flat_map (spelled narrow) xs) ≡ length xs * size_of narrow
spelled_length narrow [] = let e : 0 ≡ 0 * size_of narrow = omega arith in e
spelled_length true (x ∷ xs) = ap suc (spelled_length true xs) ∙ (let e : suc (length xs * 1) ≡ suc (length xs) * 1 = omega arith in e)
spelled_length false (x ∷ xs) = ap (λ n. suc (suc n)) (spelled_length false xs) ∙ (let e : suc (suc (length xs * 2)) ≡ suc (length xs) * 2 = omega arith in e)

pub raster_length : (raster samples : List ℕ) (width rows maxval : ℕ) → IsRaster raster width rows maxval samples → length raster ≡ width * rows * sample_size maxval
raster_length raster samples width rows maxval is = ap length is.bytes_are ∙ (spelled_length (is_narrow maxval) samples ∙ ap (λ n. n * sample_size maxval) is.count)

-- the first byte at which more is known
shorter_undecided : (xs ys rest more : List ℕ) → IsUndecidedBefore ys → (Undecided xs → rest ≡ []) → xs ++ rest ≡ ys ++ more → length xs < length ys → ⊥
shorter_undecided xs ys rest more before shown e less =
    let front : take (length xs) ys ≡ xs =
    sym (take-append-le (length xs) ys more (omega (arith, less))) ∙ (ap (λ z. take (length xs) z) (sym e) ∙ (take-append-le (length xs) xs rest (omega arith) ∙ take_all (length xs) xs (omega arith))) in
    let none : rest ≡ [] = shown (subst Undecided front (before (length xs) less)) in
    let f : ⊥ = omega (arith, ap length e, length-append xs rest, length-append ys more, ap length none, less) in
    f

one_header_read : (size : Size) (bits images others : ℕ) (xs ys rest more : List ℕ) → ReadsHeader size bits images xs rest → ReadsHeader size bits others ys more → images ≡ others → xs ++ rest ≡ ys ++ more → rest ≡ more
one_header_read size bits images others xs ys rest more (to_fault few r) (to_fault less s) same e = by (cases_lt (length xs) (length ys)) (cases_lt (length ys) (length xs))
  where
    by : (length xs < length ys) ⊎ (length ys ≤ length xs) → (length ys < length xs) ⊎ (length xs ≤ length ys) → rest ≡ more
    by (inl lt) other = absurd (shorter_undecided xs ys rest more s.before r.shown e lt)
    by (inr le) (inl lt) = absurd (shorter_undecided ys xs more rest r.before s.shown (sym e) lt)
    by (inr le) (inr ge) = same_rest xs ys rest more (omega (arith, le, ge)) e
one_header_read size bits images others xs ys rest more (to_fault few r) (further_byte full one) same e = absurd (let f : ⊥ = omega (arith, few, full, same) in f)
one_header_read size bits images others xs ys rest more (further_byte full one) (to_fault few r) same e = absurd (let f : ⊥ = omega (arith, few, full, same) in f)
one_header_read size bits images others xs ys rest more (further_byte full one) (further_byte filled single) same e = same_rest xs ys rest more (one ∙ sym single) e

one_row_read : (header other : Header) (rows others : ℕ) (xs ys rest more : List ℕ) → header ≡ other → ReadsRow header rows xs rest → ReadsRow other others ys more → xs ++ rest ≡ ys ++ more → rest ≡ more
one_row_read header other rows others xs ys rest more same r s e =
    let equal : xs ≡ ys = r.all ∙ (ap (λ z. take (row_length header) z) e ∙ (ap (λ (h : Header). take (row_length h) (ys ++ more)) same ∙ sym s.all)) in
    same_rest xs ys rest more (ap length equal) e

-- how many images there are
one_count : (H k j o u : ℕ) → o < H → u < H → k * H + o ≡ j * H + u → (k ≡ j) × (o ≡ u)
one_count H k j o u low less e =
    let same : k ≡ j = sym (div-mul-add k H o low) ∙ (ap (λ n. n / H) e ∙ div-mul-add j H u less) in
    let total : j * H + o ≡ j * H + u = ap (λ n. n * H + o) (sym same) ∙ e in
    (same, omega (arith, total))

module _ (one : OneImage) (size : Size) (bits : ℕ) (tall : 0 < size.height) (ps qs : List Image) (before earlier : List ℕ) (are : AreImages before ps) (be : AreImages earlier qs) where
  -- the lines that are in order end at one place
  both : {o u : ℕ} {xs ys part piece : List ℕ} (last final after more : List ℕ) → (l : OpenLines size bits (length ps) o xs part) → (k : OpenLines size bits (length qs) u ys piece) → ReadsNext l last after → ReadsNext k final more → (before ++ part) ++ (last ++ after) ≡ (earlier ++ piece) ++ (final ++ more)
      → length ps * size.height + o ≡ length qs * size.height + u → after ≡ more
  both {o = o} {u = u} {part = part} {piece = piece} last final after more (between a b c) (between d e f) next then parts rows =
      let count = one_count size.height (length ps) (length qs) o u (omega (arith, a, tall)) (omega (arith, d, tall)) rows in
      let whole : before ++ (part ++ (last ++ after)) ≡ earlier ++ (piece ++ (final ++ more)) = sym (append_assoc before part (last ++ after)) ∙ (parts ∙ append_assoc earlier piece (final ++ more)) in
      let same = same_images one ps qs before earlier (part ++ (last ++ after)) (piece ++ (final ++ more)) are be count.0 whole in
      let behind = same_rest before earlier (part ++ (last ++ after)) (piece ++ (final ++ more)) (ap length same) whole in
      one_header_read size bits (length ps) (length qs) last final after more next then count.0 (sym (ap (λ z. z ++ (last ++ after)) c) ∙ (behind ∙ ap (λ z. z ++ (final ++ more)) f))
  both {o = o} {u = u} {part = part} {piece = piece} last final after more (between a b c) (opened header head raster few fits reads exact within is part_is) next then parts rows =
      let count = one_count size.height (length ps) (length qs) o u (omega (arith, a, tall)) (let i = then.inside in let h = fits.sized.height in omega (arith, i, h)) rows in
      let whole : before ++ (part ++ (last ++ after)) ≡ earlier ++ (piece ++ (final ++ more)) = sym (append_assoc before part (last ++ after)) ∙ (parts ∙ append_assoc earlier piece (final ++ more)) in
      let same = same_images one ps qs before earlier (part ++ (last ++ after)) (piece ++ (final ++ more)) are be count.0 whole in
      let behind = same_rest before earlier (part ++ (last ++ after)) (piece ++ (final ++ more)) (ap length same) whole in
      absurd (headed next (subst (λ z. IsHeaded size bits z header) (sym (sym (ap (λ z. z ++ (last ++ after)) c) ∙ (behind ∙ (ap (λ z. z ++ (final ++ more)) part_is ∙ append_assoc head raster (final ++ more))))) (headed_line size bits head (raster ++ (final ++ more)) header reads fits)) (omega (arith, few, count.0)))
    where
      headed : ReadsHeader size bits (length ps) last after → IsHeaded size bits (last ++ after) header → length ps < MAX_FILE_IMAGES → ⊥
      headed (to_fault few r) is less = r.none header is
      headed (further_byte full b) is less = let f : ⊥ = omega (arith, full, less) in f
  both {o = o} {u = u} {part = part} {piece = piece} last final after more (opened header head raster few fits reads exact within is part_is) (between d e f) next then parts rows =
      let count = one_count size.height (length ps) (length qs) o u (let i = next.inside in let h = fits.sized.height in omega (arith, i, h)) (omega (arith, d, tall)) rows in
      let whole : before ++ (part ++ (last ++ after)) ≡ earlier ++ (piece ++ (final ++ more)) = sym (append_assoc before part (last ++ after)) ∙ (parts ∙ append_assoc earlier piece (final ++ more)) in
      let same = same_images one ps qs before earlier (part ++ (last ++ after)) (piece ++ (final ++ more)) are be count.0 whole in
      let behind = same_rest before earlier (part ++ (last ++ after)) (piece ++ (final ++ more)) (ap length same) whole in
      absurd (headed then (subst (λ z. IsHeaded size bits z header) (sym (sym (ap (λ z. z ++ (final ++ more)) f) ∙ (sym behind ∙ (ap (λ z. z ++ (last ++ after)) part_is ∙ append_assoc head raster (last ++ after))))) (headed_line size bits head (raster ++ (last ++ after)) header reads fits)) (omega (arith, few, count.0)))
    where
      headed : ReadsHeader size bits (length qs) final more → IsHeaded size bits (final ++ more) header → length qs < MAX_FILE_IMAGES → ⊥
      headed (to_fault few r) is less = r.none header is
      headed (further_byte full b) is less = let f : ⊥ = omega (arith, full, less) in f
  both {o = o} {u = u} {xs = xs} {ys = ys} {part = part} {piece = piece} last final after more (opened header head raster few fits reads exact within is part_is) (opened other crown grid less suits tells precise inner es piece_is) next then parts rows =
      let count = one_count size.height (length ps) (length qs) o u (let i = next.inside in let h = fits.sized.height in omega (arith, i, h)) (let i = then.inside in let h = suits.sized.height in omega (arith, i, h)) rows in
      let whole : before ++ (part ++ (last ++ after)) ≡ earlier ++ (piece ++ (final ++ more)) = sym (append_assoc before part (last ++ after)) ∙ (parts ∙ append_assoc earlier piece (final ++ more)) in
      let same = same_images one ps qs before earlier (part ++ (last ++ after)) (piece ++ (final ++ more)) are be count.0 whole in
      let behind : part ++ (last ++ after) ≡ piece ++ (final ++ more) = same_rest before earlier (part ++ (last ++ after)) (piece ++ (final ++ more)) (ap length same) whole in
      let opened_so : head ++ (raster ++ (last ++ after)) ≡ crown ++ (grid ++ (final ++ more)) =
      sym (ap (λ z. z ++ (last ++ after)) part_is ∙ append_assoc head raster (last ++ after)) ∙ (behind ∙ (ap (λ z. z ++ (final ++ more)) piece_is ∙ append_assoc crown grid (final ++ more))) in
      let heads : head ≡ crown = one_front head crown (raster ++ (last ++ after)) (grid ++ (final ++ more)) (exact_whole head header reads exact) (exact_whole crown other tells precise) opened_so in
      let headers : header ≡ other = one_header crown header other (subst (λ z. Reads z header) heads reads) tells in
      let rasters : raster ++ (last ++ after) ≡ grid ++ (final ++ more) = same_rest head crown (raster ++ (last ++ after)) (grid ++ (final ++ more)) (ap length heads) opened_so in
      let long : length raster ≡ length grid = raster_length raster xs header.width o header.maxval is ∙ (ap (λ n. header.width * n * sample_size header.maxval) count.1 ∙ (ap (λ (h : Header). h.width * u * sample_size h.maxval) headers ∙ sym (raster_length grid ys other.width u other.maxval es))) in
      one_row_read header other o u last final after more headers next then (same_rest raster grid (last ++ after) (final ++ more) long rasters)

pub one_left : OneImage → (p : Typing) (file : List ℕ) (left other : Option (List ℕ)) (xs ys : List ℕ) → 0 < p.size.height → ReadsToFault p file left xs → ReadsToFault p file other ys → left ≡ other
one_left one p file left other xs ys tall r s =
    let t = r.taken in
    let u = s.taken in
    let more = r.most s.rows ys s.front (s.last ++ s.after) s.taken in
    let less = s.most r.rows xs r.front (r.last ++ r.after) r.taken in
    let rows : r.rows ≡ s.rows = omega (arith, more, less) in
    r.is_left ∙ (ap Some (both one p.size (first_bits p) tall t.images u.images t.before u.before t.are u.are r.last s.last r.after s.after t.open_lines u.open_lines r.next s.next
    (sym (t.bytes_are ∙ ap (λ z. z ++ (r.last ++ r.after)) t.front_is) ∙ (u.bytes_are ∙ ap (λ z. z ++ (s.last ++ s.after)) u.front_is)) (sym t.rows_are ∙ (rows ∙ u.rows_are))) ∙ sym s.is_left)
