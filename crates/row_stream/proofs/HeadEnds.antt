-- How the taking of a header ends, and its fault with what follows.
use Rattle.std.proofs.Common.{◌≡◌, ℕ, ◌+◌, ◌<◌, ◌≤◌, List, [], ◌∷◌, ◌++◌, length, take, drop, Option, Some, None, refl, ap, sym, subst, ◌∙◌, arith, append-nil, length-append, ◌-◌, ◌^◌}
use Rattle.std.proofs.lemmas.List.{take-append-drop, take-append-le, length-take-le}
use Rattle.dk_base.specs.declared.TheConstants.{MAX_HEADER_BYTES}
use Rattle.std.specs.Io.KnownBytes.{prepend_known, IsAtEnd}
use Rattle.dk_base.specs.Frames.{Size}
use Rattle.dk_desk.specs.Outside.{Input}
use Rattle.pgm_codec.specs.declared.header.Header.{Header}
use Rattle.pgm_codec.specs.declared.header.HeaderFault.{HeaderFault}
use Rattle.pgm_codec.specs.declared.scan.Scan.{Scan}
use Rattle.pgm_codec.specs.declared.scan.Scan.TheVariants.{Fault, More}
use Rattle.pgm_codec.specs.Answers.{Whole, Refuses, Reads, OutOfRange, Undecided}
use Rattle.std.specs.Prelude.{Result, Ok, Err}
use Rattle.pgm_codec.proofs.Unique.{one_answer, one_front, reads_whole}
use Rattle.pgm_codec.proofs.Stays.{stays, reads_more, undecided_front}
use Rattle.pgm_rounds.specs.declared.fault.FileFault.{FileFault}
use Rattle.pgm_rounds.specs.Files.{HasSize, Refused}
use Rattle.pgm_rounds.proofs.Digits.{range_within}
use Rattle.row_stream.specs.Heads.{IsUndecidedBefore, TakesHead, RefusesHead}
use Rattle.row_stream.specs.HeadReading.{IsNoHead, decided, ended, IsRefusal, MissesHead}

-- a prefix of bytes that begin a header and hold none whole
pub undecided_before : (bytes : List ℕ) → Undecided bytes → IsUndecidedBefore bytes
undecided_before bytes u count inside = undecided_front (take count bytes) (drop count bytes) (subst Undecided (sym (take-append-drop count bytes)) u)

pub undecided_more : (bytes : List ℕ) (b : ℕ) → Undecided bytes → IsUndecidedBefore (bytes ++ b ∷ [])
undecided_more bytes b u count inside =
    let within : count ≤ length bytes = omega (arith, inside, length-append bytes (b ∷ [])) in
    subst Undecided (sym (take-append-le count bytes (b ∷ []) within)) (undecided_front (take count bytes) (drop count bytes) (subst Undecided (sym (take-append-drop count bytes)) u))

-- the bytes of a header and no more
pub exact_whole : (bytes : List ℕ) (h : Header) → Reads bytes h → length bytes ≡ h.length → Whole bytes
exact_whole bytes h r exact = by r.rest r.parts
  where
    by : (rest : List ℕ) → bytes ≡ r.front ++ rest → Whole bytes
    by [] parts = subst Whole (sym (parts ∙ append-nil r.front)) (reads_whole bytes h r)
    by (b ∷ rest) parts = absurd (let e : ⊥ = omega (arith, exact, r.length_is, ap length parts, length-append r.front (b ∷ rest)) in e)

exact_undecided : (bytes : List ℕ) (h : Header) → Reads bytes h → length bytes ≡ h.length → IsUndecidedBefore bytes
exact_undecided bytes h r exact count inside = record {
  inside = record {
    begins = (drop count bytes, subst Whole (sym (take-append-drop count bytes)) whole);
    open_yet = λ w. let same : take count bytes ≡ bytes = one_front (take count bytes) bytes (drop count bytes) [] w whole (take-append-drop count bytes ∙ sym (append-nil bytes)) in
        let e : ⊥ = omega (arith, inside, count_is, ap length same) in e;
  };
  limit = omega (arith, inside, count_is, exact, r.length_is, r.heads.limit);
}
  where
    whole : Whole bytes
    whole = exact_whole bytes h r exact

    count_is : length (take count bytes) ≡ count
    count_is = length-take-le count bytes (omega (arith, inside))

-- the first digit of a maxval is in the header
pub range_short : (bytes : List ℕ) (offset : ℕ) → OutOfRange bytes offset → offset ≤ MAX_HEADER_BYTES
range_short bytes offset r =
    let front : OutOfRange r.front offset = record {
      front = r.front;
      rest = [];
      width = r.width;
      height = r.height;
      maxval = r.maxval;
      parts = sym (append-nil r.front);
      heads = r.heads;
      range = r.range;
    } in
    omega (arith, range_within r.front offset front, r.heads.limit)

pub prepend_none : (known : Option (List ℕ)) → prepend_known [] known ≡ known
prepend_none None = refl
prepend_none (Some x) = refl

pub at_end : (rest : Option (List ℕ)) (more : List ℕ) → IsAtEnd rest → rest ≡ Some more → more ≡ []
at_end None more e f = absurd (let z : ⊥ = cc in z)
at_end (Some []) more e f = sym (taken [] more f)
  where
    taken : (p q : List ℕ) → ◌≡◌ {A = Option (List ℕ)} (Some p) (Some q) → p ≡ q
    taken p q e = cc
at_end (Some (x ∷ xs)) more e f = absurd (let z : ⊥ = cc in z)

not_more : (f : HeaderFault) → ◌≡◌ {A = Scan} (Fault f) More → ⊥
not_more f e = cc

-- bytes that begin no header have this fault
pub refusal_of : (may_end : Rattle.std.specs.Prelude.Bool) (f : HeaderFault) (old new : Input) → MissesHead may_end f old new → IsRefusal f
refusal_of may_end f old new h = shown h.why
  where
    shown : IsNoHead h.read f new → IsRefusal f
    shown (decided a) = (h.read, a.0)
    shown (ended r e) = (h.read, r)

-- a fault on the bytes that were read is the fault on these with all that follows
pub no_head_stays : (read : List ℕ) (f : HeaderFault) (new : Input) (more : List ℕ) → IsNoHead read f new → new.rest ≡ Some more → Refuses (read ++ more) f
no_head_stays read f new more (decided a) e = (stays read more (Fault f) a (not_more f)).0
no_head_stays read f new more (ended r end) e = subst (λ z. Refuses (read ++ z) f) (sym (at_end new.rest more end e)) (subst (λ z. Refuses z f) (sym (append-nil read)) r)

not_both : (bytes : List ℕ) (h : Header) (f : HeaderFault) → Reads bytes h → Refuses bytes f → ⊥
not_both bytes h f r x = apart h f (one_answer bytes (Ok h) (Err f) r x)
  where
    apart : (h : Header) (f : HeaderFault) → ◌≡◌ {A = Result Header HeaderFault} (Ok h) (Err f) → ⊥
    apart h f e = cc

pub one_header : (bytes : List ℕ) (g h : Header) → Reads bytes g → Reads bytes h → g ≡ h
one_header bytes g h r s = taken_out g h (one_answer bytes (Ok g) (Ok h) r s)
  where
    taken_out : (g h : Header) → ◌≡◌ {A = Result Header HeaderFault} (Ok g) (Ok h) → g ≡ h
    taken_out g h e = cc

pub refuses_head : (size : Size) (bits offset : ℕ) (f : HeaderFault) (g : FileFault) (old new : Input) (may_end : Rattle.std.specs.Prelude.Bool) → ((size : Size) (bits number : ℕ) (bytes : List ℕ) → Refuses bytes f → Refused size bits number offset bytes g)
    → MissesHead may_end f old new → RefusesHead size bits offset may_end g old new
refuses_head size bits offset f g old new may_end told h = record {
  read = h.read;
  before = h.before;
  shown = shown h.why;
  some = h.some;
  given = h.given;
  refused = λ number more e. told size bits number (h.read ++ more) (no_head_stays h.read f new more h.why e);
  none = λ more e header i. not_both (h.read ++ more) header f i.reads (no_head_stays h.read f new more h.why e);
}
  where
    shown : IsNoHead h.read f new → Undecided h.read → IsAtEnd new.rest
    shown (decided a) u = absurd (a.1 u)
    shown (ended r end) u = end

-- a header has bytes
pub reads_some : (bytes : List ℕ) (h : Header) → Reads bytes h → 0 < length bytes
reads_some bytes h r = omega (arith, ap length r.heads.text.magic, ap length r.parts, Rattle.std.proofs.Common.length-append r.front r.rest)

-- a header that was taken, and is of no image that fits
pub refuses_taken : (size : Size) (bits offset : ℕ) (header : Header) (g : FileFault) (old new : Input) (may_end : Rattle.std.specs.Prelude.Bool) → ((number offset : ℕ) (bytes : List ℕ) → Reads bytes header → Refused size bits number offset bytes g)
    → (HasSize size header → header.maxval ≤ 2 ^ bits - 1 → ⊥) → TakesHead header old new → RefusesHead size bits offset may_end g old new
refuses_taken size bits offset header g old new may_end told unfit h = record {
  read = h.read;
  before = exact_undecided h.read header h.reads h.exact;
  shown = λ u. absurd (u.inside.open_yet (exact_whole h.read header h.reads h.exact));
  some = λ _. reads_some h.read header h.reads;
  given = h.given;
  refused = λ number more e. told number offset (h.read ++ more) (reads_more h.read more header h.reads);
  none = λ more e other i.
      let same : other ≡ header = one_header (h.read ++ more) other header i.reads (reads_more h.read more header h.reads) in
      unfit (subst (λ z. HasSize size z) same i.sized) (subst (λ z. z.maxval ≤ 2 ^ bits - 1) same i.maxval);
}
