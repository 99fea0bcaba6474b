-- One image more.
use Rattle.std.proofs.Common.{◌≡◌, ℕ, suc, ◌+◌, ◌*◌, ◌<◌, ◌≤◌, List, [], ◌∷◌, ◌++◌, length, map, Option, refl, ap, sym, subst, ◌∙◌, arith, append_assoc, append-nil, length-append}
use Rattle.std.specs.Prelude.{slice_index}
use Rattle.std.specs.List.{range_with_len, AllByRecursion}
use Rattle.std.specs.Io.KnownBytes.{prepend_known}
use Rattle.std.proofs.lemmas.List.{map-append}
use Rattle.std.proofs.lemmas.Grind.{flat_map-append}
use Rattle.dk_desk.specs.Outside.{Outside}
use Rattle.dk_desk.proofs.DeskLemmas.{prepend_known-more}
use Rattle.wiring.specs.Netlist.{Netlist}
use Rattle.wiring.specs.Snapshot.{Contents}
use Rattle.pgm_codec.specs.declared.header.Header.{Header}
use Rattle.pgm_codec.specs.Images.{Image, AreImages}
use Rattle.pgm_codec.specs.Rasters.{row_length}
use Rattle.row_stream.specs.declared.line.Line.{Line}
use Rattle.row_stream.specs.Lines.{Kind}
use Rattle.row_stream.specs.Standing.{pixel_clock}
use Rattle.row_stream.specs.Progress.{Goes, pixel_clocks}
use Rattle.row_stream.specs.RowReading.{Streams, samples_in}
use Rattle.row_stream.specs.Images.{FitsImage, samples_of}
use Rattle.row_stream.specs.ImageReading.{Images, AtHead}
use Rattle.row_stream.proofs.Clocks.{goes_join}
use Rattle.row_stream.proofs.RowLemmas.{goes_read}
use Rattle.row_stream.proofs.Taken.{samples, sample_is, is_image, is_raster}

-- clocks by number, and by sample
pub by_sample : (f : ℕ → ℕ) (a : ℕ) (xs : List ℕ) → ((k : ℕ) → k < length xs → slice_index xs k ≡ f (a + k)) → map (λ k. pixel_clock (f k)) (range_with_len a (length xs)) ≡ map (λ s. pixel_clock s) xs
by_sample f a [] h = refl
by_sample f a (x ∷ xs) h =
    let first : f a ≡ x = ap f (let e : a ≡ a + 0 = omega arith in e) ∙ sym (h 0 (omega arith)) in
    ap (λ z. pixel_clock z ∷ map (λ k. pixel_clock (f k)) (range_with_len (a + 1) (length xs))) first
    ∙ ap (λ z. pixel_clock x ∷ z) (by_sample f (a + 1) xs (λ k l. h (suc k) (omega (arith, l)) ∙ ap f (let e : a + suc k ≡ a + 1 + k = omega arith in e)))

joined_images : (xs ys : List ℕ) (images more : List Image) → AreImages xs images → AreImages ys more → AreImages (xs ++ ys) (images ++ more)
joined_images xs ys [] more h g = subst (λ z. AreImages (z ++ ys) more) (sym h) g
joined_images xs ys (p ∷ images) more h g =
    (h.0, h.1 ++ ys, ap (λ z. z ++ ys) h.2 ∙ append_assoc h.0 h.1 ys, h.3, joined_images h.1 ys images more h.4 g)

both_fit : (P : Image → Type 0) (xs ys : List Image) → AllByRecursion P xs → AllByRecursion P ys → AllByRecursion P (xs ++ ys)
both_fit P [] ys h g = g
both_fit P (x ∷ xs) ys h g = (h.0, both_fit P xs ys h.1 g)

pub times_turned : (w h : ℕ) → h * w ≡ w * h
times_turned w h = grind arith

-- the lines of an image whose header was taken
pub image_more : (kind : Kind) (m : Netlist) (most count : ℕ) (header : Header) (all : Option (List ℕ)) (from mid to : Contents) (old between new : Line) (before half now : Outside) → header.width ≡ kind.size.width → header.height ≡ kind.size.height → header.maxval ≤ most →
    AtHead kind m most count header all from mid old between before half → Streams kind m header header.height mid to between new half now → Images kind m most (count + 1) all from to old new before now
image_more kind m most count header all from mid to old between new before half now w h l at s =
    let xs = samples header s.raster s.are in
    let image : Image = record { width = header.width; height = header.height; maxval = header.maxval; samples = xs } in
    let r = is_raster header s.raster s.are in
    let clocks : pixel_clocks (samples_in header.maxval s.raster) (header.height * header.width) ≡ map (λ z. pixel_clock z) xs =
    ap (λ n. pixel_clocks (samples_in header.maxval s.raster) n) (times_turned header.width header.height ∙ sym r.count)
    ∙ by_sample (samples_in header.maxval s.raster) 0 xs (λ k b. sample_is header s.raster s.are k (subst (λ z. k < z) r.count b) ∙ ap (λ z. samples_in header.maxval s.raster z) (let e : k ≡ 0 + k = omega arith in e)) in
    let last : Goes kind m (map (λ z. pixel_clock z) xs) mid to between new at.half now =
    goes_read kind m (map (λ z. pixel_clock z) xs) mid to between new at.half half now at.only (subst (λ z. Goes kind m z mid to between new half now) clocks s.goes) in
    let parts : map (λ z. pixel_clock z) (samples_of (at.images.images ++ image ∷ [])) ≡ map (λ z. pixel_clock z) (samples_of at.images.images) ++ map (λ z. pixel_clock z) xs =
    ap (λ (z : List ℕ). map (λ t. pixel_clock t) z) (flat_map-append (λ (i : Image). i.samples) at.images.images (image ∷ []) ∙ ap (λ z. samples_of at.images.images ++ z) (append-nil xs))
    ∙ map-append (λ z. pixel_clock z) (samples_of at.images.images) xs in
    record {
      images = at.images.images ++ image ∷ [];
      bytes = at.images.bytes ++ (at.head ++ s.raster);
      are = joined_images at.images.bytes (at.head ++ s.raster) at.images.images (image ∷ []) at.images.are (at.head ++ s.raster, [], sym (append-nil (at.head ++ s.raster)), is_image header at.head s.raster at.reads at.exact s.are, refl);
      fit = both_fit (FitsImage kind.size most) at.images.images (image ∷ []) at.images.fit (record { width = w; height = h; maxval = l }, tt);
      count_is = length-append at.images.images (image ∷ []) ∙ ap (λ n. n + 1) at.images.count_is;
      given = at.images.given ∙ ap (λ z. prepend_known at.images.bytes z) (at.given ∙ ap (λ z. prepend_known at.head z) s.given ∙ prepend_known-more at.head s.raster now.image.rest) ∙ prepend_known-more at.images.bytes (at.head ++ s.raster) now.image.rest;
      goes = subst (λ z. Goes kind m z from to old new before now) (sym parts) (goes_join kind m (map (λ z. pixel_clock z) (samples_of at.images.images)) (map (λ z. pixel_clock z) xs) from mid old between before at.half now to new at.images.goes last);
    }

-- how many bytes the images then have
pub bytes_more : (kind : Kind) (m : Netlist) (most count : ℕ) (header : Header) (all : Option (List ℕ)) (from mid to : Contents) (old between new : Line) (before half now : Outside) → (w : header.width ≡ kind.size.width) → (h : header.height ≡ kind.size.height) → (l : header.maxval ≤ most) →
    (at : AtHead kind m most count header all from mid old between before half) → (s : Streams kind m header header.height mid to between new half now) →
    length (image_more kind m most count header all from mid to old between new before half now w h l at s).bytes ≡ length at.images.bytes + (header.length + header.height * row_length header)
unfolding image_more
bytes_more kind m most count header all from mid to old between new before half now w h l at s =
    omega (arith, length-append at.images.bytes (at.head ++ s.raster), length-append at.head s.raster, at.exact, s.are.length_is)
