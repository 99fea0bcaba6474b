-- An answer stays, whatever bytes follow.
use Rattle.std.proofs.Common.{◌≡◌, ◌∙◌, sym, ap, refl, subst, [], ◌∷◌, ◌++◌, List, ℕ, ◌+◌, ◌<◌, ◌≤◌, arith, length, take, append_assoc, length-append, append-nil}
use Rattle.std.proofs.lemmas.List.{take_all, take-append-le}
use Rattle.pgm_codec.specs.declared.header.Header.{Header}
use Rattle.pgm_codec.specs.declared.header.HeaderFault.{HeaderFault}
use Rattle.pgm_codec.specs.declared.header.HeaderFault.TheVariants.{Magic, LongHeader, Number, Range}
use Rattle.pgm_codec.specs.declared.scan.Scan.{Scan}
use Rattle.pgm_codec.specs.declared.scan.Scan.TheVariants.{More, Done, Fault}
use Rattle.pgm_codec.specs.Answers.{Whole, Begins, Inside, HasMagic, Reads, TooLong, StopsAt, Refuses, Undecided, Answers}
use Rattle.pgm_codec.proofs.Begun.{live_inside, begins_not_lost, whole_then_lost}
use Rattle.pgm_codec.proofs.Verdicts.{nothing}

pub begins_front : (xs ys : List ℕ) → Begins (xs ++ ys) → Begins xs
begins_front xs ys b = (ys ++ b.0, subst (λ x. Whole x) (append_assoc xs ys b.0) b.1)

pub inside_front : (xs ys : List ℕ) → Inside (xs ++ ys) → Inside xs
inside_front xs [] i = subst (λ x. Inside x) (append-nil xs) i
inside_front xs (b ∷ ys) i = record {
  begins = begins_front xs (b ∷ ys) i.begins;
  open_yet = λ w. begins_not_lost (xs ++ b ∷ ys) i.begins (whole_then_lost xs b ys w);
}

pub undecided_front : (xs ys : List ℕ) → Undecided (xs ++ ys) → Undecided xs
undecided_front xs ys u = record { inside = inside_front xs ys u.inside; limit = omega (arith, u.limit, length-append xs ys) }

letter_alone : Undecided (80 ∷ [])
letter_alone = record { inside = live_inside (80 ∷ []) tt; limit = omega arith }

magic_stays : (xs ys : List ℕ) → (Undecided xs → ⊥) → (HasMagic xs → ⊥) → HasMagic (xs ++ ys) → ⊥
magic_stays [] ys u h m = u nothing
magic_stays (x ∷ []) ys u h m = u (subst (λ a. Undecided (a ∷ [])) (sym (head x 80 ys (53 ∷ m.0) m.1)) letter_alone)
  where
    head : (a b : ℕ) (s t : List ℕ) → a ∷ s ≡ b ∷ t → a ≡ b
    head a b s t e = cc
magic_stays (x ∷ y ∷ xs) ys u h m = h (xs, front x y 80 53 (xs ++ ys) m.0 xs m.1)
  where
    front : (x y a c : ℕ) (s t bs : List ℕ) → x ∷ y ∷ s ≡ a ∷ c ∷ t → x ∷ y ∷ bs ≡ a ∷ c ∷ bs
    front x y a c s t bs e = cc

long_stays : (xs ys : List ℕ) → TooLong xs → TooLong (xs ++ ys)
long_stays xs ys t = record {
  enough = omega (arith, t.enough, length-append xs ys);
  inside = subst (λ x. Inside x) (sym (take-append-le 65536 xs ys t.enough)) t.inside;
}

-- a scan answers Number at the byte, not before it
stop_within : (xs : List ℕ) (k : ℕ) → StopsAt xs k → (Undecided xs → ⊥) → length xs ≤ k → ⊥
stop_within xs k s u l =
    let all : take k xs ≡ xs = take_all k xs l in
    u (record { inside = subst (λ x. Inside x) all s.inside; limit = omega (arith, s.within, s.limit) })

stop_stays : (xs ys : List ℕ) (k : ℕ) → StopsAt xs k → k < length xs → StopsAt (xs ++ ys) k
stop_stays xs ys k s l = record {
  magic = (s.magic.0 ++ ys, ap (λ x. x ++ ys) s.magic.1);
  within = omega (arith, l, length-append xs ys);
  limit = s.limit;
  inside = subst (λ x. Inside x) (sym (take-append-le k xs ys (omega arith))) s.inside;
  stops = λ below b. s.stops l (subst (λ x. Begins x) (take-append-le (k + 1) xs ys (omega arith)) b);
}

below_or : (k n : ℕ) → ((n ≤ k) → ⊥) → k < n
below_or k n f = grind arith

refusal_stays : (xs ys : List ℕ) (f : HeaderFault) → Refuses xs f → (Undecided xs → ⊥) → Refuses (xs ++ ys) f
refusal_stays xs ys Magic r u = magic_stays xs ys u r
refusal_stays xs ys LongHeader r u = long_stays xs ys r
refusal_stays xs ys (Number k) r u = stop_stays xs ys k r (below_or k (length xs) (stop_within xs k r u))
refusal_stays xs ys (Range k) r u = record {
  front = r.front;
  rest = r.rest ++ ys;
  width = r.width;
  height = r.height;
  maxval = r.maxval;
  parts = ap (λ x. x ++ ys) r.parts ∙ append_assoc r.front r.rest ys;
  heads = r.heads;
  range = r.range;
}

pub reads_more : (xs ys : List ℕ) (h : Header) → Reads xs h → Reads (xs ++ ys) h
reads_more xs ys h r = record {
  front = r.front;
  rest = r.rest ++ ys;
  place = r.place;
  parts = ap (λ x. x ++ ys) r.parts ∙ append_assoc r.front r.rest ys;
  heads = r.heads;
  positive = r.positive;
  small = r.small;
  length_is = r.length_is;
}

pub stays : (xs ys : List ℕ) (a : Scan) → Answers xs a → (a ≡ More → ⊥) → Answers (xs ++ ys) a
stays xs ys More a n = absurd (n refl)
stays xs ys (Done h) a n = reads_more xs ys h a
stays xs ys (Fault f) a n = (refusal_stays xs ys f a.0 a.1, λ u. a.1 (undecided_front xs ys u))
