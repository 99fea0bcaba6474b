-- The refusal of an image that comes next: there is one at most, and none where an image that fits is there.
use Rattle.std.proofs.Common.{◌≡◌, ◌∙◌, sym, ap, refl, subst, ◌++◌, List, ℕ, ◌+◌, ◌-◌, ◌*◌, ◌^◌, ◌<◌, ◌≤◌, arith, length, append_assoc, Result, Ok, Err}
use Rattle.dk_base.specs.Frames.{Size, area}
use Rattle.pgm_codec.specs.declared.header.Header.{Header}
use Rattle.pgm_codec.specs.declared.header.HeaderFault.{HeaderFault}
use Rattle.pgm_codec.specs.declared.header.HeaderFault.TheVariants as header
use Rattle.pgm_codec.specs.declared.raster.RasterFault.{RasterFault}
use Rattle.pgm_codec.specs.declared.raster.RasterFault.TheVariants as raster
use Rattle.pgm_codec.specs.Answers.{Reads, Refuses}
use Rattle.pgm_codec.specs.Images.{Image, IsImageOf}
use Rattle.pgm_codec.specs.Rasters.{JudgesRaster}
use Rattle.pgm_rounds.specs.declared.fault.FileFault.{FileFault}
use Rattle.pgm_rounds.specs.declared.fault.FileFault.TheVariants.{Magic, LongHeader, Number, Range, Size as WrongSize, Maxval, SampleTooGreat, Short, Count, Round as OpenRound}
use Rattle.pgm_rounds.specs.Files.{HasSize, IsHeaded, Refused}
use Rattle.pgm_rounds.proofs.Readings.{OneHeader, OneRaster}
use Rattle.pgm_rounds.proofs.Places.{FitsOne}

-- a header's fault, counted from the start of the file
abbrev pub told : ℕ → HeaderFault → FileFault
told offset header.Magic = Magic offset
told offset header.LongHeader = LongHeader
told offset (header.Number inside) = Number (offset + inside)
told offset (header.Range inside) = Range (offset + inside)

-- a raster's fault, with its sample counted over all images
abbrev pub told_raster : ℕ → Size → RasterFault → FileFault
told_raster number size (raster.SampleTooGreat k) = SampleTooGreat (number * area size + k)
told_raster number size (raster.Short held need) = Short held need

-- the step at which an image is refused, and the answer there
pub data Cause (size : Size) (bits number offset : ℕ) (bytes : List ℕ) (f : FileFault) : Type 0 where
  in_header : (h : HeaderFault) → Refuses bytes h → f ≡ told offset h → Cause size bits number offset bytes f
  sized : (h : Header) → Reads bytes h → ¬ HasSize size h → f ≡ WrongSize h.width h.height → Cause size bits number offset bytes f
  great : (h : Header) → Reads bytes h → HasSize size h → 2 ^ bits - 1 < h.maxval → f ≡ Maxval h.maxval → Cause size bits number offset bytes f
  in_raster : (h : Header) → IsHeaded size bits bytes h → (r : RasterFault) → JudgesRaster bytes h (Err r) → f ≡ told_raster number size r → Cause size bits number offset bytes f

pub cause : (size : Size) (bits number offset : ℕ) (bytes : List ℕ) (f : FileFault) → Refused size bits number offset bytes f → Cause size bits number offset bytes f
cause size bits number offset bytes (Magic at) r = in_header header.Magic r.0 (ap (λ x. Magic x) r.1)
cause size bits number offset bytes LongHeader r = in_header header.LongHeader r refl
cause size bits number offset bytes (Number at) r = in_header (header.Number r.0) r.1 (ap (λ x. Number x) r.2)
cause size bits number offset bytes (Range at) r = in_header (header.Range r.0) r.1 (ap (λ x. Range x) r.2)
cause size bits number offset bytes (WrongSize width height) r = sized r.0 r.1 r.2 (ap (λ x. WrongSize x height) r.3 ∙ ap (λ x. WrongSize r.0.width x) r.4)
cause size bits number offset bytes (Maxval maxval) r = great r.0 r.1 r.2 r.3 (ap (λ x. Maxval x) r.4)
cause size bits number offset bytes (SampleTooGreat index) r = in_raster r.0 r.1 (raster.SampleTooGreat r.2) r.3 (ap (λ x. SampleTooGreat x) r.4)
cause size bits number offset bytes (Short held need) r = in_raster r.0 r.1 (raster.Short held need) r.2 refl
cause size bits number offset bytes Count r = absurd r
cause size bits number offset bytes (OpenRound held need) r = absurd r

module _ (one_header : OneHeader) (one_raster : OneRaster) (size : Size) (bits number offset : ℕ) (bytes : List ℕ) where
  -- bytes that begin with a header are not refused as none
  read_not_refused : (h : Header) (f : HeaderFault) → Reads bytes h → Refuses bytes f → ⊥
  read_not_refused h f r s = apart h f (one_header bytes (Ok h) (Err f) r s)
    where
      apart : (h : Header) (f : HeaderFault) → ◌≡◌ {A = Result Header HeaderFault} (Ok h) (Err f) → ⊥
      apart h f e = cc

  same_header : (g h : Header) → Reads bytes g → Reads bytes h → g ≡ h
  same_header g h r s = taken_out g h (one_header bytes (Ok g) (Ok h) r s)
    where
      taken_out : (g h : Header) → ◌≡◌ {A = Result Header HeaderFault} (Ok g) (Ok h) → g ≡ h
      taken_out g h e = cc

  same_fault : (f g : HeaderFault) → Refuses bytes f → Refuses bytes g → f ≡ g
  same_fault f g r s = taken_out f g (one_header bytes (Err f) (Err g) r s)
    where
      taken_out : (f g : HeaderFault) → ◌≡◌ {A = Result Header HeaderFault} (Err f) (Err g) → f ≡ g
      taken_out f g e = cc

  same_raster : (h : Header) (f g : RasterFault) → Reads bytes h → JudgesRaster bytes h (Err f) → JudgesRaster bytes h (Err g) → f ≡ g
  same_raster h f g r a b = taken_out f g (one_raster bytes h r (Err f) (Err g) a b)
    where
      taken_out : (f g : RasterFault) → ◌≡◌ {A = Result Unit RasterFault} (Err f) (Err g) → f ≡ g
      taken_out f g e = cc

  not_above : (m n : ℕ) → m ≤ n → n < m → ⊥
  not_above m n a b = omega arith

  pub one_cause : (f g : FileFault) → Cause size bits number offset bytes f → Cause size bits number offset bytes g → f ≡ g
  one_cause f g (in_header h r e) (in_header i s d) = e ∙ ap (λ x. told offset x) (same_fault h i r s) ∙ sym d
  one_cause f g (in_header h r e) (sized i s n d) = absurd (read_not_refused i h s r)
  one_cause f g (in_header h r e) (great i s n m d) = absurd (read_not_refused i h s r)
  one_cause f g (in_header h r e) (in_raster i s k m d) = absurd (read_not_refused i h s.reads r)
  one_cause f g (sized h r n e) (in_header i s d) = absurd (read_not_refused h i r s)
  one_cause f g (sized h r n e) (sized i s m d) = e ∙ ap (λ x. WrongSize x.width x.height) (same_header h i r s) ∙ sym d
  one_cause f g (sized h r n e) (great i s z m d) = absurd (n (subst (λ x. HasSize size x) (same_header i h s r) z))
  one_cause f g (sized h r n e) (in_raster i s k m d) = absurd (n (subst (λ x. HasSize size x) (same_header i h s.reads r) s.sized))
  one_cause f g (great h r z n e) (in_header i s d) = absurd (read_not_refused h i r s)
  one_cause f g (great h r z n e) (sized i s m d) = absurd (m (subst (λ x. HasSize size x) (same_header h i r s) z))
  one_cause f g (great h r z n e) (great i s y m d) = e ∙ ap (λ x. Maxval x.maxval) (same_header h i r s) ∙ sym d
  one_cause f g (great h r z n e) (in_raster i s k m d) = absurd (not_above h.maxval (2 ^ bits - 1) (subst (λ x. x.maxval ≤ 2 ^ bits - 1) (same_header i h s.reads r) s.maxval) n)
  one_cause f g (in_raster h r k n e) (in_header i s d) = absurd (read_not_refused h i r.reads s)
  one_cause f g (in_raster h r k n e) (sized i s m d) = absurd (m (subst (λ x. HasSize size x) (same_header h i r.reads s) r.sized))
  one_cause f g (in_raster h r k n e) (great i s z m d) = absurd (not_above i.maxval (2 ^ bits - 1) (subst (λ x. x.maxval ≤ 2 ^ bits - 1) (same_header h i r.reads s) r.maxval) m)
  one_cause f g (in_raster h r k n e) (in_raster i s l m d) =
      e ∙ ap (λ x. told_raster number size x) (same_raster h k l r.reads n (subst (λ x. JudgesRaster bytes x (Err l)) (same_header i h s.reads r.reads) m)) ∙ sym d

  -- the header of an image with which the bytes begin
  abbrev header_of : (first : List ℕ) (q : Image) → IsImageOf first q → Header
  header_of first q i = record { width = q.width; height = q.height; maxval = q.maxval; length = length i.header }

  reads_image : (first rest : List ℕ) (q : Image) → (i : IsImageOf first q) → bytes ≡ first ++ rest → Reads bytes (header_of first q i)
  reads_image first rest q i e = record {
    front = i.header;
    rest = i.raster ++ rest;
    place = i.place;
    parts = e ∙ ap (λ x. x ++ rest) i.parts ∙ append_assoc i.header i.raster rest;
    heads = i.heads;
    positive = i.positive;
    small = i.small;
    length_is = refl;
  }

  judges_image : (first rest : List ℕ) (q : Image) → (i : IsImageOf first q) → bytes ≡ first ++ rest → JudgesRaster bytes (header_of first q i) (Ok tt)
  judges_image first rest q i e = (q.samples, record { image = first; rest = rest; parts = e; is_image = i })

  raster_apart : (h : Header) (f : RasterFault) → Reads bytes h → JudgesRaster bytes h (Err f) → JudgesRaster bytes h (Ok tt) → ⊥
  raster_apart h f r a b = apart f (one_raster bytes h r (Err f) (Ok tt) a b)
    where
      apart : (f : RasterFault) → ◌≡◌ {A = Result Unit RasterFault} (Err f) (Ok tt) → ⊥
      apart f e = cc

  pub no_cause : (f : FileFault) (first rest : List ℕ) (q : Image) → Cause size bits number offset bytes f → bytes ≡ first ++ rest → IsImageOf first q → FitsOne size.width size.height bits q → ⊥
  no_cause f first rest q (in_header h r d) e i fits = read_not_refused (header_of first q i) h (reads_image first rest q i e) r
  no_cause f first rest q (sized h r n d) e i fits =
      n (subst (λ x. HasSize size x) (same_header (header_of first q i) h (reads_image first rest q i e) r) (record { width = fits.width; height = fits.height }))
  no_cause f first rest q (great h r z n d) e i fits =
      not_above h.maxval (2 ^ bits - 1) (subst (λ x. x.maxval ≤ 2 ^ bits - 1) (same_header (header_of first q i) h (reads_image first rest q i e) r) fits.maxval) n
  no_cause f first rest q (in_raster h r k n d) e i fits =
      raster_apart h k r.reads n (subst (λ x. JudgesRaster bytes x (Ok tt)) (same_header (header_of first q i) h (reads_image first rest q i e) r.reads) (judges_image first rest q i e))
