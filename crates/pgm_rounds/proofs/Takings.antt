-- Two takings of the same bytes: one reading, and one first fault.
use Rattle.std.proofs.Common.{◌≡◌, ◌∙◌, sym, ap, refl, subst, [], ◌∷◌, ◌++◌, List, ℕ, ◌<◌, ◌≤◌, arith, length, take, append_assoc, append-nil, length-append, Some, Option, slice_get}
use Rattle.dk_base.specs.Frames.{Size}
use Rattle.pgm_codec.specs.Images.{Image, AreImages}
use Rattle.pgm_codec.specs.Rounds.{FitsInputs}
use Rattle.pgm_rounds.specs.declared.fault.FileFault.{FileFault}
use Rattle.pgm_rounds.specs.declared.fault.FileFault.TheVariants.{Magic, LongHeader, Number, Range, Size as WrongSize, Maxval, SampleTooGreat, Short, Count, Round as OpenRound}
use Rattle.pgm_rounds.specs.Ports.{Ports}
use Rattle.pgm_rounds.specs.Files.{joined, FitsFile, Taken, IsRefused, IsTooMany, EndsInRound, IsFault}
use Rattle.pgm_rounds.proofs.Readings.{OneImage, OneFile, OneCut, OneHeader, OneRaster}
use Rattle.pgm_rounds.proofs.Fronts.{Compared, onward, back, compared}
use Rattle.pgm_rounds.proofs.Places.{InOrder, same_further, place_fits}
use Rattle.pgm_rounds.proofs.Refusals.{Cause, cause, one_cause, no_cause}

pub in_order : (ports : Ports) (bytes : List ℕ) (rounds : List (List Image)) (further : List Image) (front rest : List ℕ) → Taken ports bytes rounds further front rest
    → InOrder ports.size.width ports.size.height ports.inputs rounds further
in_order ports bytes rounds further front rest t = record { whole = t.whole; begun = t.begun; room = t.room }

none_begun : (w h : ℕ) (inputs : List ℕ) → FitsInputs w h (take 0 inputs) []
none_begun w h [] = tt
none_begun w h (b ∷ bs) = tt

-- a file of whole rounds is taken whole
pub taken_whole : (ports : Ports) → 0 < length ports.inputs → (bytes : List ℕ) (rounds : List (List Image)) → FitsFile ports bytes rounds → Taken ports bytes rounds [] bytes []
taken_whole ports some bytes rounds f = record {
  parts = sym (append-nil bytes);
  images = subst (λ x. AreImages bytes x) (f.fits.joined ∙ sym (append-nil (joined rounds))) f.file.2;
  whole = f.fits.fit;
  begun = none_begun ports.size.width ports.size.height ports.inputs;
  room = some;
}

-- which kind of fault
data Kind (ports : Ports) (bytes : List ℕ) (f : FileFault) : Type 0 where
  refused : IsRefused ports bytes f → Kind ports bytes f
  many : f ≡ Count → IsTooMany ports bytes → Kind ports bytes f
  ended : (held : ℕ) → f ≡ OpenRound held (length ports.inputs) → EndsInRound ports bytes held → Kind ports bytes f

kind : (ports : Ports) (bytes : List ℕ) (f : FileFault) → IsFault ports bytes f → Kind ports bytes f
kind ports bytes (Magic at) i = refused i
kind ports bytes LongHeader i = refused i
kind ports bytes (Number at) i = refused i
kind ports bytes (Range at) i = refused i
kind ports bytes (WrongSize width height) i = refused i
kind ports bytes (Maxval maxval) i = refused i
kind ports bytes (SampleTooGreat index) i = refused i
kind ports bytes (Short held need) i = refused i
kind ports bytes Count i = many refl i
kind ports bytes (OpenRound held need) i = ended held (ap (λ x. OpenRound held x) i.1) i.0

moved : (size : Size) (b c n m o p : ℕ) (r s : List ℕ) (f : FileFault) → b ≡ c → n ≡ m → o ≡ p → r ≡ s → Cause size b n o r f → Cause size c m p s f
moved size b c n m o p r s f d e g h x =
    subst (λ t. Cause size c m p t f) h (subst (λ t. Cause size c m t r f) g (subst (λ t. Cause size c t o r f) e (subst (λ t. Cause size t n o r f) d x)))

same_input : (inputs : List ℕ) (k l b c : ℕ) → k ≡ l → slice_get inputs k ≡ Some b → slice_get inputs l ≡ Some c → b ≡ c
same_input inputs k l b c e s t = inside b c (sym s ∙ ap (λ x. slice_get inputs x) e ∙ t)
  where
    inside : (b c : ℕ) → ◌≡◌ {A = Option ℕ} (Some b) (Some c) → b ≡ c
    inside b c e = cc

no_bytes : (between rest : List ℕ) → [] ≡ between ++ rest → 0 < length rest → ⊥
no_bytes between rest e l = omega (arith, ap length e, length-append between rest)

module _ (one_image : OneImage) (one_file : OneFile) (one_header : OneHeader) (one_raster : OneRaster) (ports : Ports) (bytes : List ℕ) where
  -- no image that is in order is where one is refused
  goes_on : (f : FileFault) (x : IsRefused ports bytes f) (rounds : List (List Image)) (further : List Image) (front rest between : List ℕ) (q : Image) (more : List Image) → Taken ports bytes rounds further front rest
      → joined rounds ++ further ≡ (joined x.rounds ++ x.further) ++ q ∷ more → AreImages between (q ∷ more) → x.rest ≡ between ++ rest → ⊥
  goes_on f x rounds further front rest between q more t e a r =
      no_cause one_header one_raster ports.size x.bits (length (joined x.rounds ++ x.further)) (length x.front) x.rest f a.0 (a.1 ++ rest) q
      (cause ports.size x.bits (length (joined x.rounds ++ x.further)) (length x.front) x.rest f x.refused)
      (r ∙ ap (λ s. s ++ rest) a.2 ∙ append_assoc a.0 a.1 rest) a.3
      (place_fits ports.size.width ports.size.height ports.inputs x.rounds rounds x.further further q more x.bits (in_order ports bytes x.rounds x.further x.front x.rest x.taken) (in_order ports bytes rounds further front rest t) x.input e)

  both : (rs : List (List Image)) (f : List Image) (a b : List ℕ) (ss : List (List Image)) (g : List Image) (c d : List ℕ) → Taken ports bytes rs f a b → Taken ports bytes ss g c d → Compared (joined rs ++ f) (joined ss ++ g) b d
  both rs f a b ss g c d t u = compared one_image (joined rs ++ f) (joined ss ++ g) a c b d t.images u.images (sym t.parts ∙ u.parts)

  -- all bytes are images that are in order: none is refused, and a byte after them is none
  whole_not_refused : (rounds : List (List Image)) (further : List Image) (f : FileFault) → Taken ports bytes rounds further bytes [] → 0 < length (joined rounds ++ further) → IsRefused ports bytes f → ⊥
  whole_not_refused rounds further f t l x = decided (both x.rounds x.further x.front x.rest rounds further bytes [] x.taken t)
    where
      decided : Compared (joined x.rounds ++ x.further) (joined rounds ++ further) x.rest [] → ⊥
      decided (onward [] between a b c) =
          let same : 0 < length (joined x.rounds ++ x.further) = subst (λ s. 0 < length s) (a ∙ append-nil (joined x.rounds ++ x.further)) l in
          no_bytes [] x.rest (sym (c ∙ append-nil between ∙ b)) (x.some same)
      decided (onward (q ∷ more) between a b c) = goes_on f x rounds further bytes [] between q more t a b c
      decided (back more between a b c) =
          let some : 0 < length (joined x.rounds ++ x.further) = omega (arith, l, ap length a, length-append (joined rounds ++ further) more) in
          no_bytes between x.rest c (x.some some)

  whole_not_many : (rounds : List (List Image)) (further : List Image) → Taken ports bytes rounds further bytes [] → length (joined rounds ++ further) ≤ 65536 → IsTooMany ports bytes → ⊥
  whole_not_many rounds further t l x = decided (both x.rounds x.further x.front x.rest rounds further bytes [] x.taken t)
    where
      decided : Compared (joined x.rounds ++ x.further) (joined rounds ++ further) x.rest [] → ⊥
      decided (onward [] between a b c) = no_bytes [] x.rest (sym (c ∙ append-nil between ∙ b)) x.more
      decided (onward (q ∷ more) between a b c) = omega (arith, l, x.full, ap length a, length-append (joined x.rounds ++ x.further) (q ∷ more))
      decided (back more between a b c) = no_bytes between x.rest c x.more

  refused_not_many : (f : FileFault) → IsRefused ports bytes f → IsTooMany ports bytes → ⊥
  refused_not_many f x y = decided (both x.rounds x.further x.front x.rest y.rounds y.further y.front y.rest x.taken y.taken)
    where
      decided : Compared (joined x.rounds ++ x.further) (joined y.rounds ++ y.further) x.rest y.rest → ⊥
      decided (onward [] between a b c) = omega (arith, x.few, y.full, ap length a, length-append (joined x.rounds ++ x.further) [])
      decided (onward (q ∷ more) between a b c) = goes_on f x y.rounds y.further y.front y.rest between q more y.taken a b c
      decided (back more between a b c) = omega (arith, x.few, y.full, ap length a, length-append (joined y.rounds ++ y.further) more)

  same_place : (f g : FileFault) (x : IsRefused ports bytes f) (y : IsRefused ports bytes g) → joined x.rounds ++ x.further ≡ joined y.rounds ++ y.further → x.rest ≡ y.rest → f ≡ g
  same_place f g x y e r =
      let m = length (joined y.rounds ++ y.further) in
      let o = length y.front in
      let further : length x.further ≡ length y.further =
      same_further ports.size.width ports.size.height ports.inputs x.rounds y.rounds x.further y.further (in_order ports bytes x.rounds x.further x.front x.rest x.taken) (in_order ports bytes y.rounds y.further y.front y.rest y.taken) e in
      let bits : x.bits ≡ y.bits = same_input ports.inputs (length x.further) (length y.further) x.bits y.bits further x.input y.input in
      let offset : length x.front ≡ o = omega (arith, ap length x.taken.parts, ap length y.taken.parts, ap length r, length-append x.front x.rest, length-append y.front y.rest) in
      let number : length (joined x.rounds ++ x.further) ≡ m = ap length e in
      one_cause one_header one_raster ports.size y.bits m o y.rest f g
      (moved ports.size x.bits y.bits (length (joined x.rounds ++ x.further)) m (length x.front) o x.rest y.rest f bits number offset r
      (cause ports.size x.bits (length (joined x.rounds ++ x.further)) (length x.front) x.rest f x.refused)) (cause ports.size y.bits m o y.rest g y.refused)

  one_refused : (f g : FileFault) → IsRefused ports bytes f → IsRefused ports bytes g → f ≡ g
  one_refused f g x y = decided (both x.rounds x.further x.front x.rest y.rounds y.further y.front y.rest x.taken y.taken)
    where
      decided : Compared (joined x.rounds ++ x.further) (joined y.rounds ++ y.further) x.rest y.rest → f ≡ g
      decided (onward [] between a b c) = same_place f g x y (sym (a ∙ append-nil (joined x.rounds ++ x.further))) (c ∙ ap (λ s. s ++ y.rest) b)
      decided (onward (q ∷ more) between a b c) = absurd (goes_on f x y.rounds y.further y.front y.rest between q more y.taken a b c)
      decided (back [] between a b c) = same_place f g x y (a ∙ append-nil (joined y.rounds ++ y.further)) (sym (c ∙ ap (λ s. s ++ x.rest) b))
      decided (back (q ∷ more) between a b c) = absurd (goes_on g y x.rounds x.further x.front x.rest between q more x.taken a b c)

  ended_some : (rounds : List (List Image)) (further : List Image) → 0 < length further → 0 < length (joined rounds ++ further)
  ended_some rounds further l = omega (arith, length-append (joined rounds) further)

  -- bytes that are all taken are taken in one way
  whole_same : (rs ss : List (List Image)) (f g : List Image) → Taken ports bytes rs f bytes [] → Taken ports bytes ss g bytes [] → 0 < length (joined rs ++ f) → 0 < length (joined ss ++ g)
      → length (joined rs ++ f) ≤ 65536 → length (joined ss ++ g) ≤ 65536 → length f ≡ length g
  whole_same rs ss f g t u a b c d =
      same_further ports.size.width ports.size.height ports.inputs rs ss f g (in_order ports bytes rs f bytes [] t) (in_order ports bytes ss g bytes [] u)
      (one_file bytes (joined rs ++ f) (joined ss ++ g) (a, c, t.images) (b, d, u.images))

  ended_not_refused : (held : ℕ) (f : FileFault) → EndsInRound ports bytes held → IsRefused ports bytes f → ⊥
  ended_not_refused held f e x = whole_not_refused e.rounds e.further f e.taken (ended_some e.rounds e.further e.some) x

  ended_not_many : (held : ℕ) → EndsInRound ports bytes held → IsTooMany ports bytes → ⊥
  ended_not_many held e x = whole_not_many e.rounds e.further e.taken e.few x

  one_kind : (f g : FileFault) → Kind ports bytes f → Kind ports bytes g → f ≡ g
  one_kind f g (refused x) (refused y) = one_refused f g x y
  one_kind f g (refused x) (many e y) = absurd (refused_not_many f x y)
  one_kind f g (refused x) (ended held e y) = absurd (ended_not_refused held f y x)
  one_kind f g (many d x) (refused y) = absurd (refused_not_many g y x)
  one_kind f g (many d x) (many e y) = d ∙ sym e
  one_kind f g (many d x) (ended held e y) = absurd (ended_not_many held y x)
  one_kind f g (ended held d x) (refused y) = absurd (ended_not_refused held g x y)
  one_kind f g (ended held d x) (many e y) = absurd (ended_not_many held x y)
  one_kind f g (ended h d x) (ended i e y) =
      let further = whole_same x.rounds y.rounds x.further y.further x.taken y.taken (ended_some x.rounds x.further x.some) (ended_some y.rounds y.further y.some) x.few y.few in
      d ∙ ap (λ n. OpenRound n (length ports.inputs)) (x.held_is ∙ further ∙ sym y.held_is) ∙ sym e

  pub one_fault : (f g : FileFault) → IsFault ports bytes f → IsFault ports bytes g → f ≡ g
  one_fault f g x y = one_kind f g (kind ports bytes f x) (kind ports bytes g y)

  joined_file : (rounds : List (List Image)) → (f : FitsFile ports bytes rounds) → f.images ≡ joined rounds ++ []
  joined_file rounds f = f.fits.joined ∙ sym (append-nil (joined rounds))

  no_kind : 0 < length ports.inputs → (rounds : List (List Image)) (f : FileFault) → FitsFile ports bytes rounds → Kind ports bytes f → ⊥
  no_kind some rounds f file (refused x) = whole_not_refused rounds [] f (taken_whole ports some bytes rounds file) (subst (λ s. 0 < length s) (joined_file rounds file) file.file.0) x
  no_kind some rounds f file (many e x) = whole_not_many rounds [] (taken_whole ports some bytes rounds file) (subst (λ s. length s ≤ 65536) (joined_file rounds file) file.file.1) x
  no_kind some rounds f file (ended held e x) =
      let further : length {A = Image} [] ≡ length x.further =
      whole_same rounds x.rounds [] x.further (taken_whole ports some bytes rounds file) x.taken (subst (λ s. 0 < length s) (joined_file rounds file) file.file.0) (ended_some x.rounds x.further x.some)
      (subst (λ s. length s ≤ 65536) (joined_file rounds file) file.file.1) x.few in
      omega (arith, further, x.some)

  pub no_fault : 0 < length ports.inputs → (rounds : List (List Image)) (f : FileFault) → FitsFile ports bytes rounds → IsFault ports bytes f → ⊥
  no_fault some rounds f file x = no_kind some rounds f file (kind ports bytes f x)

  pub one_rounds : OneCut → 0 < length ports.inputs → (rounds others : List (List Image)) → FitsFile ports bytes rounds → FitsFile ports bytes others → rounds ≡ others
  one_rounds one_cut some rounds others f g =
      let same : g.images ≡ f.images = one_file bytes g.images f.images g.file f.file in
      one_cut ports.size.width ports.size.height ports.inputs f.images rounds others some f.fits (record { joined = sym same ∙ g.fits.joined; fit = g.fits.fit })
