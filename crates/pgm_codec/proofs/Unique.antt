-- Bytes have one answer.
use Rattle.std.proofs.Common.{◌≡◌, ◌∙◌, sym, ap, refl, subst, [], ◌∷◌, ◌++◌, List, ℕ, zero, suc, ◌+◌, ◌<◌, ◌≤◌, arith, length, take, drop, append_assoc, length-append, append-nil, Result, Ok, Err, ◌⊎◌, inl, inr}
use Rattle.std.proofs.Math.Seq.{take-append-add}
use Rattle.std.proofs.lemmas.List.{take-append-drop, length-take-le}
use Rattle.pgm_codec.specs.declared.reading.Stage.{Stage}
use Rattle.pgm_codec.specs.declared.reading.Stage.TheVariants as stages
use Rattle.pgm_codec.specs.declared.reading.Number.TheVariants as numbers
use Rattle.pgm_codec.specs.declared.header.Header.{Header}
use Rattle.pgm_codec.specs.declared.header.HeaderFault.{HeaderFault}
use Rattle.pgm_codec.specs.declared.header.HeaderFault.TheVariants.{Magic, LongHeader, Number, Range}
use Rattle.pgm_codec.specs.Headers.{IsHeader, capped}
use Rattle.pgm_codec.specs.Scans.{reading}
use Rattle.pgm_codec.specs.Automaton.{start, run}
use Rattle.pgm_codec.specs.Answers.{Whole, Begins, Inside, HasMagic, Reads, OutOfRange, TooLong, StopsAt, Refuses, Judges}
use Rattle.pgm_codec.proofs.Forward.{whole}
use Rattle.pgm_codec.proofs.Begun.{stage_of, whole_stage, begins_not_lost, whole_then_lost}
use Rattle.pgm_codec.proofs.Verdicts.{magic_inside}
use Rattle.pgm_codec.proofs.Stays.{begins_front}

-- of two fronts of one text one is a front of the other
pub data Nested (f g : List ℕ) : Type 0 where
  shorter : (more : List ℕ) → g ≡ f ++ more → Nested f g
  longer : (b : ℕ) (more : List ℕ) → f ≡ g ++ b ∷ more → Nested f g

heads_same : (a b : ℕ) (s t : List ℕ) → a ∷ s ≡ b ∷ t → a ≡ b
heads_same a b s t e = cc

tails_same : (a b : ℕ) (s t : List ℕ) → a ∷ s ≡ b ∷ t → s ≡ t
tails_same a b s t e = cc

grown : (a b : ℕ) (f g : List ℕ) → a ≡ b → Nested f g → Nested (a ∷ f) (b ∷ g)
grown a b f g e (shorter more h) = shorter more (cc (e, h))
grown a b f g e (longer c more h) = longer c more (cc (e, h))

pub nested : (f g r s : List ℕ) → f ++ r ≡ g ++ s → Nested f g
nested [] g r s e = shorter g refl
nested (a ∷ f) [] r s e = longer a f refl
nested (a ∷ f) (b ∷ g) r s e = grown a b f g (heads_same a b (f ++ r) (g ++ s) e) (nested f g r s (tails_same a b (f ++ r) (g ++ s) e))

whole_not_lost : (bytes : List ℕ) → Whole bytes → stage_of bytes ≡ stages.Lost → ⊥
whole_not_lost bytes i e = apart (stage_of bytes) (whole_stage bytes i) e
  where
    apart : (s : Stage) → s ≡ stages.Whole → s ≡ stages.Lost → ⊥
    apart s a b = cc

nothing_more : (f g more : List ℕ) → Whole f → Whole g → g ≡ f ++ more → f ≡ g
nothing_more f g [] a b e = sym (e ∙ append-nil f)
nothing_more f g (c ∷ more) a b e = absurd (whole_not_lost g b (ap (λ x. stage_of x) e ∙ whole_then_lost f c more a))

same_front : (f g : List ℕ) → Whole f → Whole g → Nested f g → f ≡ g
same_front f g a b (shorter more e) = nothing_more f g more a b e
same_front f g a b (longer c more e) = sym (nothing_more g f (c ∷ more) b a e)

pub one_front : (f g r s : List ℕ) → Whole f → Whole g → f ++ r ≡ g ++ s → f ≡ g
one_front f g r s a b e = same_front f g a b (nested f g r s e)

pub is_whole : (f : List ℕ) (w h m p : ℕ) → IsHeader f w h m p → Whole f
is_whole f w h m p i = (i.across, i.down, record { value = m; place = p }, i.text)

-- a header has one reading
pub record SameNumbers (w h m p w' h' m' p' : ℕ) : Type 0 where
  pub width : w ≡ w'
  pub height : h ≡ h'
  pub maxval : capped m ≡ capped m'
  pub place : p ≡ p'

pub one_header : (f g : List ℕ) (w h m p w' h' m' p' : ℕ) → f ≡ g → IsHeader f w h m p → IsHeader g w' h' m' p' → SameNumbers w h m p w' h' m' p'
one_header f g w h m p w' h' m' p' e a b =
    let x : run start f ≡ reading stages.Whole numbers.Maxval (capped a.across.value) (capped a.down.value) (capped m) p (length f) = whole f a.across a.down (record { value = m; place = p }) a.text in
    let y : run start g ≡ reading stages.Whole numbers.Maxval (capped b.across.value) (capped b.down.value) (capped m') p' (length g) = whole g b.across b.down (record { value = m'; place = p' }) b.text in
    let z = sym x ∙ ap (λ t. run start t) e ∙ y in
    record {
      width = a.width_is ∙ ap (λ r. r.width) z ∙ sym b.width_is;
      height = a.height_is ∙ ap (λ r. r.height) z ∙ sym b.height_is;
      maxval = ap (λ r. r.value) z;
      place = ap (λ r. r.first) z;
    }

pub same_small : (m m' : ℕ) → m ≤ 65535 → m' ≤ 65535 → capped m ≡ capped m' → m ≡ m'
unfolding capped
same_small m m' a b e = omega arith

not_in_range : (m m' : ℕ) → 0 < m → m ≤ 65535 → (m' ≡ 0) ⊎ (65535 < m') → capped m ≡ capped m' → ⊥
unfolding capped
not_in_range m m' a b (inl z) e = omega arith
not_in_range m m' a b (inr g) e = omega arith

-- where the bytes have a whole header, it is longer than what is inside one
inside_shorter : (f g : List ℕ) → Whole f → Inside g → Nested f g → (b : ℕ) × (more : List ℕ) × (f ≡ g ++ b ∷ more)
inside_shorter f g w i (longer b more e) = (b, more, e)
inside_shorter f g w i (shorter [] e) = absurd (i.open_yet (subst (λ x. Whole x) (sym (e ∙ append-nil f)) w))
inside_shorter f g w i (shorter (c ∷ more) e) = absurd (begins_not_lost g i.begins (ap (λ x. stage_of x) e ∙ whole_then_lost f c more w))

cut : (bytes : List ℕ) (k : ℕ) → bytes ≡ take k bytes ++ drop k bytes
cut bytes k = sym (take-append-drop k bytes)

-- a whole header in its limit, and no long one
whole_not_long : (bytes f rest : List ℕ) → bytes ≡ f ++ rest → Whole f → length f ≤ 65536 → TooLong bytes → ⊥
whole_not_long bytes f rest parts w l t =
    let n = inside_shorter f (take 65536 bytes) w t.inside (nested f (take 65536 bytes) rest (drop 65536 bytes) (sym parts ∙ cut bytes 65536)) in
    omega (arith, l, ap length n.2, length-append (take 65536 bytes) (n.0 ∷ n.1), length-take-le 65536 bytes t.enough)

one_further : (bytes g tail : List ℕ) (b : ℕ) (more : List ℕ) → bytes ≡ (g ++ b ∷ more) ++ tail → take (length g + 1) bytes ≡ g ++ b ∷ []
one_further bytes g tail b more e =
    ap (λ x. take (length g + 1) x) (e ∙ append_assoc g (b ∷ more) tail) ∙ take-append-add g (b ∷ (more ++ tail)) 1

-- a whole header, and no stop in one
whole_not_stopped : (bytes f rest : List ℕ) (k : ℕ) → bytes ≡ f ++ rest → Whole f → StopsAt bytes k → ⊥
whole_not_stopped bytes f rest k parts w s =
    let g = take k bytes in
    let n = inside_shorter f g w s.inside (nested f g rest (drop k bytes) (sym parts ∙ cut bytes k)) in
    let c : length g ≡ k = length-take-le k bytes s.within in
    let whole_of : bytes ≡ (g ++ n.0 ∷ n.1) ++ rest = parts ∙ ap (λ x. x ++ rest) n.2 in
    let further : take (k + 1) bytes ≡ g ++ n.0 ∷ [] = ap (λ x. take (x + 1) bytes) (sym c) ∙ one_further bytes g rest n.0 n.1 whole_of in
    let begun : Begins (g ++ n.0 ∷ []) = begins_front (g ++ n.0 ∷ []) n.1 ([], subst (λ x. Whole x) (n.2 ∙ sym (append_assoc g (n.0 ∷ []) n.1) ∙ sym (append-nil ((g ++ n.0 ∷ []) ++ n.1))) w) in
    s.stops (omega (arith, c, ap length whole_of, length-append (g ++ n.0 ∷ n.1) rest, length-append g (n.0 ∷ n.1))) (subst (λ x. Begins x) (sym further) begun)

taken : (bytes : List ℕ) (i j : ℕ) → i ≤ j → take i (take j bytes) ≡ take i bytes
taken bytes zero j l = refl
taken bytes (suc i) zero l = absurd (omega arith)
taken [] (suc i) (suc j) l = refl
taken (b ∷ bs) (suc i) (suc j) l = ap (λ x. b ∷ x) (taken bs i j (omega arith))

begins_less : (bytes : List ℕ) (i j : ℕ) → i ≤ j → Begins (take j bytes) → Begins (take i bytes)
begins_less bytes i j l b =
    begins_front (take i bytes) (drop i (take j bytes)) (subst (λ x. Begins x) (sym (ap (λ x. x ++ drop i (take j bytes)) (sym (taken bytes i j l)) ∙ take-append-drop i (take j bytes))) b)

long_not_stopped : (bytes : List ℕ) (k : ℕ) → TooLong bytes → StopsAt bytes k → ⊥
long_not_stopped bytes k t s = s.stops (omega (arith, s.limit, t.enough)) (begins_less bytes (k + 1) 65536 (omega (arith, s.limit)) t.inside.begins)

not_earlier : (bytes : List ℕ) (i j : ℕ) → StopsAt bytes i → StopsAt bytes j → i < j → ⊥
not_earlier bytes i j a b l = a.stops (omega (arith, l, b.within)) (begins_less bytes (i + 1) j (omega arith) b.inside.begins)

one_stop : (bytes : List ℕ) (i j : ℕ) → StopsAt bytes i → StopsAt bytes j → i ≡ j
one_stop bytes i j a b = equal i j (not_earlier bytes i j a b) (not_earlier bytes j i b a)
  where
    equal : (i j : ℕ) → (i < j → ⊥) → (j < i → ⊥) → i ≡ j
    equal i j f g = grind arith

-- each of them but Magic has the magic number
header_magic : (bytes f rest : List ℕ) → bytes ≡ f ++ rest → Whole f → HasMagic bytes
header_magic bytes f rest e w = (w.3.rest ++ rest, e ∙ ap (λ x. x ++ rest) w.3.magic)

long_magic : (bytes : List ℕ) → TooLong bytes → HasMagic bytes
long_magic bytes t =
    let m = magic_inside (take 65536 bytes) t.inside.begins (omega (arith, length-take-le 65536 bytes t.enough)) in
    (m.0 ++ drop 65536 bytes, cut bytes 65536 ∙ ap (λ x. x ++ drop 65536 bytes) m.1)

pub reads_whole : (bytes : List ℕ) (h : Header) → (r : Reads bytes h) → Whole r.front
reads_whole bytes h r = is_whole r.front h.width h.height h.maxval r.place r.heads

range_whole : (bytes : List ℕ) (k : ℕ) → (r : OutOfRange bytes k) → Whole r.front
range_whole bytes k r = is_whole r.front r.width r.height r.maxval k r.heads

one_reads : (bytes : List ℕ) (a b : Header) → Reads bytes a → Reads bytes b → a ≡ b
one_reads bytes a b x y =
    let f = one_front x.front y.front x.rest y.rest (reads_whole bytes a x) (reads_whole bytes b y) (sym x.parts ∙ y.parts) in
    let n = one_header x.front y.front a.width a.height a.maxval x.place b.width b.height b.maxval y.place f x.heads y.heads in
    same a.width b.width a.height b.height a.maxval b.maxval a.length b.length n.width n.height (same_small a.maxval b.maxval x.small y.small n.maxval) (x.length_is ∙ ap length f ∙ sym y.length_is)
  where
    make : ℕ → ℕ → ℕ → ℕ → Header
    make w h m l = record { width = w; height = h; maxval = m; length = l }

    same : (w w' h h' m m' l l' : ℕ) → w ≡ w' → h ≡ h' → m ≡ m' → l ≡ l' → make w h m l ≡ make w' h' m' l'
    same w w' h h' m m' l l' e f g i = ap (λ x. make x h m l) e ∙ ap (λ x. make w' x m l) f ∙ ap (λ x. make w' h' x l) g ∙ ap (λ x. make w' h' m' x) i

one_range : (bytes : List ℕ) (i j : ℕ) → OutOfRange bytes i → OutOfRange bytes j → i ≡ j
one_range bytes i j x y =
    let f = one_front x.front y.front x.rest y.rest (range_whole bytes i x) (range_whole bytes j y) (sym x.parts ∙ y.parts) in
    let n = one_header x.front y.front x.width x.height x.maxval i y.width y.height y.maxval j f x.heads y.heads in
    n.place

reads_not_range : (bytes : List ℕ) (a : Header) (j : ℕ) → Reads bytes a → OutOfRange bytes j → ⊥
reads_not_range bytes a j x y =
    let f = one_front x.front y.front x.rest y.rest (reads_whole bytes a x) (range_whole bytes j y) (sym x.parts ∙ y.parts) in
    let n = one_header x.front y.front a.width a.height a.maxval x.place y.width y.height y.maxval j f x.heads y.heads in
    not_in_range a.maxval y.maxval x.positive x.small y.range n.maxval

reads_not_refused : (bytes : List ℕ) (a : Header) (f : HeaderFault) → Reads bytes a → Refuses bytes f → ⊥
reads_not_refused bytes a Magic x y = y (header_magic bytes x.front x.rest x.parts (reads_whole bytes a x))
reads_not_refused bytes a LongHeader x y = whole_not_long bytes x.front x.rest x.parts (reads_whole bytes a x) x.heads.limit y
reads_not_refused bytes a (Number k) x y = whole_not_stopped bytes x.front x.rest k x.parts (reads_whole bytes a x) y
reads_not_refused bytes a (Range k) x y = reads_not_range bytes a k x y

range_not_long : (bytes : List ℕ) (k : ℕ) → OutOfRange bytes k → TooLong bytes → ⊥
range_not_long bytes k x y = whole_not_long bytes x.front x.rest x.parts (range_whole bytes k x) x.heads.limit y

range_not_stopped : (bytes : List ℕ) (i k : ℕ) → OutOfRange bytes i → StopsAt bytes k → ⊥
range_not_stopped bytes i k x y = whole_not_stopped bytes x.front x.rest k x.parts (range_whole bytes i x) y

range_magic : (bytes : List ℕ) (k : ℕ) → OutOfRange bytes k → HasMagic bytes
range_magic bytes k x = header_magic bytes x.front x.rest x.parts (range_whole bytes k x)

pub one_fault : (bytes : List ℕ) (f g : HeaderFault) → Refuses bytes f → Refuses bytes g → f ≡ g
one_fault bytes Magic Magic x y = refl
one_fault bytes Magic LongHeader x y = absurd (x (long_magic bytes y))
one_fault bytes Magic (Number k) x y = absurd (x y.magic)
one_fault bytes Magic (Range k) x y = absurd (x (range_magic bytes k y))
one_fault bytes LongHeader Magic x y = absurd (y (long_magic bytes x))
one_fault bytes LongHeader LongHeader x y = refl
one_fault bytes LongHeader (Number k) x y = absurd (long_not_stopped bytes k x y)
one_fault bytes LongHeader (Range k) x y = absurd (range_not_long bytes k y x)
one_fault bytes (Number i) Magic x y = absurd (y x.magic)
one_fault bytes (Number i) LongHeader x y = absurd (long_not_stopped bytes i y x)
one_fault bytes (Number i) (Number k) x y = ap (λ n. Number n) (one_stop bytes i k x y)
one_fault bytes (Number i) (Range k) x y = absurd (range_not_stopped bytes k i y x)
one_fault bytes (Range i) Magic x y = absurd (y (range_magic bytes i x))
one_fault bytes (Range i) LongHeader x y = absurd (range_not_long bytes i x y)
one_fault bytes (Range i) (Number k) x y = absurd (range_not_stopped bytes i k x y)
one_fault bytes (Range i) (Range k) x y = ap (λ n. Range n) (one_range bytes i k x y)

pub one_answer : (bytes : List ℕ) (a b : Result Header HeaderFault) → Judges bytes a → Judges bytes b → a ≡ b
one_answer bytes (Ok a) (Ok b) x y = ap (λ h. Ok h) (one_reads bytes a b x y)
one_answer bytes (Ok a) (Err f) x y = absurd (reads_not_refused bytes a f x y)
one_answer bytes (Err f) (Ok b) x y = absurd (reads_not_refused bytes b f y x)
one_answer bytes (Err f) (Err g) x y = ap (λ h. Err h) (one_fault bytes f g x y)
