-- What comes next in a file is an image for its input, or is refused.
use Rattle.std.proofs.Common.{◌≡◌, refl, List, ℕ, ◌-◌, ◌^◌, ◌<◌, ◌≤◌, ◌⊎◌, inl, inr, length, Result, Ok, Err}
use Rattle.std.proofs.lemmas.Bool.{cases_lt, cases_eq}
use Rattle.dk_base.specs.Frames.{Size}
use Rattle.dk_frames.specs.declared.frame.Frame.{Frame}
use Rattle.pgm_codec.specs.declared.header.Header.{Header}
use Rattle.pgm_codec.specs.declared.header.HeaderFault.{HeaderFault}
use Rattle.pgm_codec.specs.declared.header.HeaderFault.TheVariants as header
use Rattle.pgm_codec.specs.declared.raster.RasterFault.{RasterFault}
use Rattle.pgm_codec.specs.declared.raster.RasterFault.TheVariants as raster
use Rattle.pgm_codec.specs.Answers.{Judges, Reads, Refuses}
use Rattle.pgm_codec.specs.Images.{Image}
use Rattle.pgm_codec.specs.Rasters.{JudgesRaster, BeginsImage}
use Rattle.pgm_codec.proofs.Decoding.{AreBytes}
use Rattle.pgm_rounds.specs.declared.fault.FileFault.{FileFault}
use Rattle.pgm_rounds.specs.declared.fault.FileFault.TheVariants.{Size as WrongSize, Maxval}
use Rattle.pgm_rounds.specs.Files.{HasSize, IsHeaded, Refused, frame_of}
use Rattle.pgm_rounds.specs.Standing.{IsNext}
use Rattle.pgm_rounds.proofs.Refusals.{told, told_raster}
use Rattle.file_verdicts.proofs.Headers.{header_judged}
use Rattle.file_verdicts.proofs.Rasters.{raster_judged}

has_size : (size : Size) (h : Header) → HasSize size h ⊎ ¬ HasSize size h
has_size size h = by (cases_eq h.width size.width) (cases_eq h.height size.height)
  where
    by : (h.width ≡ size.width) ⊎ (h.width ≡ size.width → ⊥) → (h.height ≡ size.height) ⊎ (h.height ≡ size.height → ⊥) → HasSize size h ⊎ ¬ HasSize size h
    by (inl w) (inl v) = inl (record { width = w; height = v })
    by (inl w) (inr n) = inr (λ s. n s.height)
    by (inr n) v = inr (λ s. n s.width)

module _ (size : Size) (bits number offset : ℕ) (bytes : List ℕ) where
  abbrev pub IsRefused : Type 0
  IsRefused = (fault : FileFault) × Refused size bits number offset bytes fault

  abbrev pub IsImage : Type 0
  IsImage = (len : ℕ) × (frame : Frame) × IsNext size bits bytes len frame

  header_refused : (f : HeaderFault) → Refuses bytes f → Refused size bits number offset bytes (told offset f)
  header_refused header.Magic r = (r, refl)
  header_refused header.LongHeader r = r
  header_refused (header.Number inside) r = (inside, r, refl)
  header_refused (header.Range inside) r = (inside, r, refl)

  raster_refused : (h : Header) → IsHeaded size bits bytes h → (f : RasterFault) → JudgesRaster bytes h (Err f) → Refused size bits number offset bytes (told_raster number size f)
  raster_refused h headed (raster.SampleTooGreat k) j = (h, headed, k, j, refl)
  raster_refused h headed (raster.Short held need) j = (h, headed, j)

  accepted : (h : Header) → IsHeaded size bits bytes h → (samples : List ℕ) → BeginsImage bytes h samples → IsImage
  accepted h headed samples b =
      let image : Image = record { width = h.width; height = h.height; maxval = h.maxval; samples = samples } in (
        length b.image,
        frame_of image,
        record {
          image = image;
          first = b.image;
          rest = b.rest;
          parts = b.parts;
          length_is = refl;
          is = b.is_image;
          width = headed.sized.width;
          height = headed.sized.height;
          maxval = headed.maxval;
          frame_is = refl;
        },
      )

  headed_judged : (h : Header) → IsHeaded size bits bytes h → (r : Result Unit RasterFault) → JudgesRaster bytes h r → IsImage ⊎ IsRefused
  headed_judged h headed (Ok u) j = inl (accepted h headed j.0 j.1)
  headed_judged h headed (Err f) j = inr (told_raster number size f, raster_refused h headed f j)

  sized_judged : (h : Header) → Reads bytes h → HasSize size h → AreBytes bytes → (2 ^ bits - 1 < h.maxval) ⊎ (h.maxval ≤ 2 ^ bits - 1) → IsImage ⊎ IsRefused
  sized_judged h r s are (inl great) = inr (Maxval h.maxval, (h, r, s, great, refl))
  sized_judged h r s are (inr l) = let j = raster_judged bytes h are r in headed_judged h (record { reads = r; sized = s; maxval = l }) j.0 j.1

  read_judged : (h : Header) → Reads bytes h → AreBytes bytes → HasSize size h ⊎ ¬ HasSize size h → IsImage ⊎ IsRefused
  read_judged h r are (inl s) = sized_judged h r s are (cases_lt (2 ^ bits - 1) h.maxval)
  read_judged h r are (inr n) = inr (WrongSize h.width h.height, (h, r, n, refl, refl))

  by_header : AreBytes bytes → (j : Result Header HeaderFault) → Judges bytes j → IsImage ⊎ IsRefused
  by_header are (Ok h) r = read_judged h r are (has_size size h)
  by_header are (Err f) r = inr (told offset f, header_refused f r)

  pub next_judged : AreBytes bytes → IsImage ⊎ IsRefused
  next_judged are = let j = header_judged bytes in by_header are j.0 j.1
