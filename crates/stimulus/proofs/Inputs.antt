-- A file has one reading, or one first fault.
use Rattle.std.proofs.Common.{◌≡◌, ◌∙◌, sym, ap, refl, subst, [], ◌∷◌, ◌++◌, List, ℕ, ◌<◌, arith, length, append_assoc, Result, Ok, Err}
use Rattle.std.specs.List.{flat_map, AllByRecursion}
use Rattle.dk_base.specs.Frames.{Size, IsFrame}
use Rattle.pgm_codec.specs.declared.header.Header.{Header}
use Rattle.pgm_codec.specs.declared.header.HeaderFault.{HeaderFault}
use Rattle.pgm_codec.specs.Answers.{Reads, Refuses}
use Rattle.pgm_codec.specs.Images.{Image, IsImageOf, AreImages}
use Rattle.pgm_codec.specs.Rounds.{FitsInputs}
use Rattle.pgm_rounds.specs.declared.fault.FileFault.{FileFault}
use Rattle.pgm_rounds.specs.declared.fault.FileFault.TheVariants as fault
use Rattle.pgm_rounds.specs.Ports.{Ports, ports_with}
use Rattle.pgm_rounds.specs.Files.{FitsFile, IsFault}
use Rattle.pgm_rounds.proofs.Readings.{OneHeader}
use Rattle.stimulus.specs.Inputs.{FitsBench, size_in, first_fault, IsBenchFault, heading, sizing, later}

abbrev OneRounds : Type 0
OneRounds = (ports : Ports) → 0 < length ports.inputs → (bytes : List ℕ) → (a b : List (List Image)) → FitsFile ports bytes a → FitsFile ports bytes b → a ≡ b

abbrev NoFault : Type 0
NoFault = (ports : Ports) → 0 < length ports.inputs → (bytes : List ℕ) → (rounds : List (List Image)) (f : FileFault) → FitsFile ports bytes rounds → IsFault ports bytes f → ⊥

abbrev OneFault : Type 0
OneFault = (ports : Ports) → 0 < length ports.inputs → (bytes : List ℕ) → (f g : FileFault) → IsFault ports bytes f → IsFault ports bytes g → f ≡ g

-- the first header of a file has the size of the frames
record Heads (size : Size) (bytes : List ℕ) : Type 0 where
  header : Header
  reads : Reads bytes header
  size_is : size_in header ≡ size

header_of : (size : Size) (bytes first rest : List ℕ) (q : Image) → bytes ≡ first ++ rest → IsImageOf first q → q.width ≡ size.width → q.height ≡ size.height → Heads size bytes
header_of size bytes first rest q e i w h = record {
  header = record { width = q.width; height = q.height; maxval = q.maxval; length = length i.header };
  reads = record {
    front = i.header;
    rest = i.raster ++ rest;
    place = i.place;
    parts = e ∙ ap (λ x. x ++ rest) i.parts ∙ append_assoc i.header i.raster rest;
    heads = i.heads;
    positive = i.positive;
    small = i.small;
    length_is = refl;
  };
  size_is = same size q.width q.height w h;
}
  where
    same : (size : Size) (w h : ℕ) → w ≡ size.width → h ≡ size.height → ◌≡◌ {A = Size} (record { width = w; height = h }) size
    same size w h a b = ap (λ x. record { width = x; height = h }) a ∙ ap (λ x. record { width = size.width; height = x }) b

heads : (size : Size) (widths bytes : List ℕ) (images : List Image) (rounds : List (List Image)) → 0 < length widths → 0 < length images → AreImages bytes images → images ≡ flat_map (λ round. round) rounds → AllByRecursion (FitsInputs size.width size.height widths) rounds → Heads size bytes
heads size widths bytes [] rounds some l a e f = absurd (omega (arith, l))
heads size widths bytes (q ∷ qs) [] some l a e f = absurd (let x : ⊥ = cc in x)
heads size [] bytes (q ∷ qs) (r ∷ rs) some l a e f = absurd (omega (arith, some))
heads size (b ∷ bs) bytes (q ∷ qs) ([] ∷ rs) some l a e f = absurd f.0
heads size (b ∷ bs) bytes (q ∷ qs) ((p ∷ ps) ∷ rs) some l a e f =
    let same : q ≡ p = cc in
    header_of size bytes a.0 a.1 q a.2 a.3 (ap (λ x. x.width) same ∙ f.0.0) (ap (λ x. x.height) same ∙ f.0.1)

module _ (one_header : OneHeader) (widths : List ℕ) (some : 0 < length widths) (bytes : List ℕ) where
  apart : (h : Header) (f : HeaderFault) → Reads bytes h → Refuses bytes f → ⊥
  apart h f r s = other h f (one_header bytes (Ok h) (Err f) r s)
    where
      other : (h : Header) (f : HeaderFault) → ◌≡◌ {A = Result Header HeaderFault} (Ok h) (Err f) → ⊥
      other h f e = cc

  same_header : (g h : Header) → Reads bytes g → Reads bytes h → g ≡ h
  same_header g h r s = taken_out g h (one_header bytes (Ok g) (Ok h) r s)
    where
      taken_out : (g h : Header) → ◌≡◌ {A = Result Header HeaderFault} (Ok g) (Ok h) → g ≡ h
      taken_out g h e = cc

  same_fault : (f g : HeaderFault) → Refuses bytes f → Refuses bytes g → f ≡ g
  same_fault f g r s = taken_out f g (one_header bytes (Err f) (Err g) r s)
    where
      taken_out : (f g : HeaderFault) → ◌≡◌ {A = Result Header HeaderFault} (Err f) (Err g) → f ≡ g
      taken_out f g e = cc

  headed : (s : Size) (a : List (List Image)) → FitsBench widths bytes s a → Heads s bytes
  headed s a f = heads s widths bytes f.fits.images a some f.fits.file.0 f.fits.file.2 f.fits.fits.joined f.fits.fits.fit

  pub one_size : (s t : Size) (a b : List (List Image)) → FitsBench widths bytes s a → FitsBench widths bytes t b → s ≡ t
  one_size s t a b f g =
      let x = headed s a f in
      let y = headed t b g in
      sym x.size_is ∙ ap (λ h. size_in h) (same_header x.header y.header x.reads y.reads) ∙ y.size_is

  pub one_reading : OneRounds → (s t : Size) (a b : List (List Image)) → FitsBench widths bytes s a → FitsBench widths bytes t b → (s ≡ t) × (a ≡ b)
  one_reading one s t a b f g =
      let e = one_size s t a b f g in
      (e, one (ports_with t widths) some bytes a b (subst (λ z. FitsFile (ports_with z widths) bytes a) e f.fits) g.fits)

  pub fits_apart : NoFault → (s : Size) (a : List (List Image)) (f : FileFault) → FitsBench widths bytes s a → IsBenchFault widths bytes f → ⊥
  fits_apart none s a f x (heading h r e) = let y = headed s a x in apart y.header h y.reads r
  fits_apart none s a f x (sizing h r n e) =
      let y = headed s a x in
      let same = ap (λ g. size_in g) (same_header h y.header r y.reads) ∙ y.size_is in
      n (subst (λ (z : Size). IsFrame z.width z.height) (sym same) x.frame)
  fits_apart none s a f x (later h r i d) =
      let y = headed s a x in
      let same = ap (λ g. size_in g) (same_header h y.header r y.reads) ∙ y.size_is in
      none (ports_with s widths) some bytes a f x.fits (subst (λ z. IsFault (ports_with z widths) bytes f) same d)

  pub one_fault : OneFault → (f g : FileFault) → IsBenchFault widths bytes f → IsBenchFault widths bytes g → f ≡ g
  one_fault one f g (heading h r e) (heading i s d) = e ∙ ap (λ x. first_fault x) (same_fault h i r s) ∙ sym d
  one_fault one f g (heading h r e) (sizing i s n d) = absurd (apart i h s r)
  one_fault one f g (heading h r e) (later i s n d) = absurd (apart i h s r)
  one_fault one f g (sizing h r n e) (heading i s d) = absurd (apart h i r s)
  one_fault one f g (sizing h r n e) (sizing i s o d) = e ∙ ap (λ x. fault.Size x.width x.height) (same_header h i r s) ∙ sym d
  one_fault one f g (sizing h r n e) (later i s o d) = absurd (n (subst (λ x. IsFrame x.width x.height) (same_header i h s r) o))
  one_fault one f g (later h r n e) (heading i s d) = absurd (apart h i r s)
  one_fault one f g (later h r n e) (sizing i s o d) = absurd (o (subst (λ x. IsFrame x.width x.height) (same_header h i r s) n))
  one_fault one f g (later h r n e) (later i s o d) =
      one (ports_with (size_in i) widths) some bytes f g (subst (λ x. IsFault (ports_with (size_in x) widths) bytes f) (same_header h i r s) e) d
