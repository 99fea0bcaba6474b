-- What the automaton answers is what the definition says.
use Rattle.std.proofs.Common.{◌≡◌, ◌∙◌, sym, ap, refl, subst, [], ◌∷◌, ◌++◌, List, ℕ, ◌+◌, ◌<◌, ◌≤◌, Bool, true, false, arith, length, length-append, append-nil, ◌⊎◌, inl, inr}
use Rattle.std.specs.Prelude.{nat_eq, nat_lt, ◌||◌, if◌then◌else◌}
use Rattle.std.proofs.Math.Seq.{take-append_seam}
use Rattle.std.proofs.lemmas.List.{take_all}
use Rattle.std.proofs.lemmas.Bool.Decides.{nat_tests}
use Rattle.pgm_codec.specs.declared.reading.Stage.{Stage}
use Rattle.pgm_codec.specs.declared.reading.Stage.TheVariants as stages
use Rattle.pgm_codec.specs.declared.header.HeaderFault.TheVariants.{Magic, LongHeader, Number, Range}
use Rattle.pgm_codec.specs.declared.scan.Scan.TheVariants.{More, Done, Fault}
use Rattle.pgm_codec.specs.Headers.{Field, HeaderText, capped}
use Rattle.pgm_codec.specs.Automaton.{start, step, run, verdict, verdict_at, going, ranged, fault_at}
use Rattle.pgm_codec.specs.Answers.{Whole, Begins, Inside, HasMagic, Reads, OutOfRange, TooLong, StopsAt, Refuses, Undecided, Answers}
use Rattle.pgm_codec.proofs.Forward.{whole, run_append}
use Rattle.pgm_codec.proofs.Backward.{text_of}
use Rattle.pgm_codec.proofs.Begun.{Live, live_not_lost, stage_of, live_inside, begins_not_lost, inside_live, counts, lost_counts}

-- a maxval in its range is not capped
small_capped : (m : ℕ) → nat_lt 65535 (capped m) ≡ false → capped m ≡ m
unfolding capped
small_capped m e = grind (arith, nat_tests)

great_capped : (m : ℕ) → nat_lt 65535 (capped m) ≡ true → 65535 < m
unfolding capped
great_capped m e = grind (arith, nat_tests)

zero_capped : (m : ℕ) → nat_eq (capped m) 0 ≡ true → m ≡ 0
unfolding capped
zero_capped m e = grind (arith, nat_tests)

not_zero : (m : ℕ) → nat_eq m 0 ≡ false → 0 < m
not_zero m e = grind (arith, nat_tests)

not_great : (m : ℕ) → nat_lt 65535 m ≡ false → m ≤ 65535
not_great m e = grind (arith, nat_tests)

whole_reads : (bytes : List ℕ) (w h m : Field) → HeaderText bytes w h m → length bytes ≤ 65536 → nat_eq (capped m.value) 0 ≡ false → nat_lt 65535 (capped m.value) ≡ false
    → Reads bytes (record { width = capped w.value; height = capped h.value; maxval = capped m.value; length = length bytes })
whole_reads bytes w h m text limit a b = record {
  front = bytes;
  rest = [];
  place = m.place;
  parts = sym (append-nil bytes);
  heads = record {
    across = w;
    down = h;
    text = subst (λ x. HeaderText bytes w h (record { value = x; place = m.place })) (sym (small_capped m.value b)) text;
    width_is = refl;
    height_is = refl;
    limit = limit;
  };
  positive = not_zero (capped m.value) a;
  small = not_great (capped m.value) b;
  length_is = refl;
}

out_of_range : (bytes : List ℕ) (w h m : Field) → HeaderText bytes w h m → length bytes ≤ 65536 → (m.value ≡ 0) ⊎ (65535 < m.value) → OutOfRange bytes m.place
out_of_range bytes w h m text limit range = record {
  front = bytes;
  rest = [];
  width = capped w.value;
  height = capped h.value;
  maxval = m.value;
  parts = sym (append-nil bytes);
  heads = record { across = w; down = h; text = text; width_is = refl; height_is = refl; limit = limit };
  range = range;
}

whole_decides : (bytes : List ℕ) → Whole bytes → Undecided bytes → ⊥
whole_decides bytes i u = u.inside.open_yet i

ranged_by : (a b : Bool) (bytes : List ℕ) (w h m : Field) → HeaderText bytes w h m → length bytes ≤ 65536 → nat_eq (capped m.value) 0 ≡ a → nat_lt 65535 (capped m.value) ≡ b
    → Answers bytes (if a || b then Fault (Range m.place) else Done (record { width = capped w.value; height = capped h.value; maxval = capped m.value; length = length bytes }))
ranged_by true b bytes w h m text limit e f = (out_of_range bytes w h m text limit (inl (zero_capped m.value e)), whole_decides bytes (w, h, m, text))
ranged_by false true bytes w h m text limit e f = (out_of_range bytes w h m text limit (inr (great_capped m.value f)), whole_decides bytes (w, h, m, text))
ranged_by false false bytes w h m text limit e f = whole_reads bytes w h m text limit e f

whole_answers : (bytes : List ℕ) → stage_of bytes ≡ stages.Whole → length bytes ≤ 65536 → Answers bytes (ranged (run start bytes))
whole_answers bytes e limit =
    let t = text_of bytes e in
    let w = t.0 in
    let h = t.1 in
    let m = t.2 in
    subst (λ r. Answers bytes (ranged r)) (sym (whole bytes w h m t.3)) (ranged_by (nat_eq (capped m.value) 0) (nat_lt 65535 (capped m.value)) bytes w h m t.3 limit refl refl)

too_long : (bytes : List ℕ) → Inside bytes → length bytes ≡ 65536 → TooLong bytes
too_long bytes i e = record { enough = omega arith; inside = subst (λ x. Inside x) (sym (take_all 65536 bytes (omega arith))) i }

going_by : (a : Bool) (bytes : List ℕ) (n : ℕ) → Inside bytes → n ≡ length bytes → length bytes ≤ 65536 → nat_lt n 65536 ≡ a → Answers bytes (if a then More else Fault LongHeader)
going_by true bytes n i c limit e = record { inside = i; limit = below n (length bytes) c e }
  where
    below : (n m : ℕ) → n ≡ m → nat_lt n 65536 ≡ true → m < 65536
    below n m c e = grind (arith, nat_tests)
going_by false bytes n i c limit e = (too_long bytes i (full n (length bytes) c limit e), λ u. over (length bytes) (full n (length bytes) c limit e) u.limit)
  where
    full : (n m : ℕ) → n ≡ m → m ≤ 65536 → nat_lt n 65536 ≡ false → m ≡ 65536
    full n m c limit e = grind (arith, nat_tests)

    over : (m : ℕ) → m ≡ 65536 → m < 65536 → ⊥
    over m e l = omega arith

going_answers : (bytes : List ℕ) → Live (stage_of bytes) → length bytes ≤ 65536 → Answers bytes (going (run start bytes))
going_answers bytes l limit =
    let r = run start bytes in
    going_by (nat_lt r.length 65536) bytes r.length (live_inside bytes l) (counts bytes (live_not_lost (stage_of bytes) l)) limit refl

no_magic : (bytes : List ℕ) → length bytes < 2 → HasMagic bytes → ⊥
no_magic bytes l h = omega (arith, ap length h.1)

-- what begins a header and has two bytes has its magic number
pub magic_inside : (bytes : List ℕ) → Begins bytes → 2 ≤ length bytes → HasMagic bytes
magic_inside [] b l = absurd (omega arith)
magic_inside (x ∷ []) b l = absurd (omega arith)
magic_inside (x ∷ y ∷ bs) b l = (bs, front x y 80 53 (bs ++ b.0) b.1.3.rest bs b.1.3.magic)
  where
    front : (x y a c : ℕ) (xs ys bs : List ℕ) → x ∷ y ∷ xs ≡ a ∷ c ∷ ys → x ∷ y ∷ bs ≡ a ∷ c ∷ bs
    front x y a c xs ys bs e = cc

two_are_magic : (bytes : List ℕ) → HasMagic bytes → length bytes ≤ 2 → bytes ≡ 80 ∷ 53 ∷ []
two_are_magic bytes h l = h.1 ∙ ap (λ x. 80 ∷ 53 ∷ x) (empty h.0 (omega (arith, ap length h.1)))
  where
    empty : (xs : List ℕ) → length xs ≡ 0 → xs ≡ []
    empty [] e = refl
    empty (x ∷ xs) e = absurd (omega arith)

lost_magic : (bytes : List ℕ) → stage_of bytes ≡ stages.Lost → length bytes ≤ 2 → HasMagic bytes → ⊥
lost_magic bytes e l h = gap_not_lost (sym (ap (λ x. stage_of x) (two_are_magic bytes h l)) ∙ e)
  where
    gap_not_lost : stages.Gap ≡ stages.Lost → ⊥
    gap_not_lost e = cc

has_more_magic : (bytes more : List ℕ) → HasMagic bytes → HasMagic (bytes ++ more)
has_more_magic bytes more h = (h.0 ++ more, ap (λ x. x ++ more) h.1)

stops_at : (bytes : List ℕ) (b : ℕ) → Undecided bytes → stage_of (bytes ++ b ∷ []) ≡ stages.Lost → 2 ≤ length bytes → StopsAt (bytes ++ b ∷ []) (length bytes)
stops_at bytes b u e two =
    let all = bytes ++ b ∷ [] in
    record {
      magic = has_more_magic bytes (b ∷ []) (magic_inside bytes u.inside.begins two);
      within = omega (arith, length-append bytes (b ∷ []));
      limit = u.limit;
      inside = subst (λ x. Inside x) (sym (take-append_seam bytes (b ∷ []))) u.inside;
      stops = λ below begins. begins_not_lost all (subst (λ x. Begins x) (take_all (length bytes + 1) all (omega (arith, length-append bytes (b ∷ [])))) begins) e;
    }

lost_by : (a : Bool) (bytes : List ℕ) (b n : ℕ) → Undecided bytes → stage_of (bytes ++ b ∷ []) ≡ stages.Lost → n ≡ length bytes → nat_lt n 2 ≡ a
    → Refuses (bytes ++ b ∷ []) (if a then Magic else Number n)
lost_by true bytes b n u e c t = lost_magic (bytes ++ b ∷ []) e (omega (arith, length-append bytes (b ∷ []), below n t))
  where
    below : (n : ℕ) → nat_lt n 2 ≡ true → n < 2
    below n t = grind (arith, nat_tests)
lost_by false bytes b n u e c t = subst (λ x. StopsAt (bytes ++ b ∷ []) x) (sym c) (stops_at bytes b u e (above n (length bytes) c t))
  where
    above : (n m : ℕ) → n ≡ m → nat_lt n 2 ≡ false → 2 ≤ m
    above n m c t = grind (arith, nat_tests)

lost_answers : (bytes : List ℕ) (b : ℕ) → Undecided bytes → stage_of (bytes ++ b ∷ []) ≡ stages.Lost → Answers (bytes ++ b ∷ []) (Fault (fault_at (run start (bytes ++ b ∷ [])).length))
lost_answers bytes b u e =
    let n = (run start (bytes ++ b ∷ [])).length in
    (lost_by (nat_lt n 2) bytes b n u e (lost_counts bytes b (inside_live bytes u.inside) e) refl, λ v. begins_not_lost (bytes ++ b ∷ []) v.inside.begins e)

-- the answer after one byte more
verdict_by : (s : Stage) (bytes : List ℕ) (b : ℕ) → Undecided bytes → stage_of (bytes ++ b ∷ []) ≡ s → length (bytes ++ b ∷ []) ≤ 65536
    → Answers (bytes ++ b ∷ []) (verdict_at s (run start (bytes ++ b ∷ [])))
verdict_by stages.Start bytes b u e l = going_answers (bytes ++ b ∷ []) (subst (λ s. Live s) (sym e) tt) l
verdict_by stages.Letter bytes b u e l = going_answers (bytes ++ b ∷ []) (subst (λ s. Live s) (sym e) tt) l
verdict_by stages.Gap bytes b u e l = going_answers (bytes ++ b ∷ []) (subst (λ s. Live s) (sym e) tt) l
verdict_by stages.Filled bytes b u e l = going_answers (bytes ++ b ∷ []) (subst (λ s. Live s) (sym e) tt) l
verdict_by stages.Comment bytes b u e l = going_answers (bytes ++ b ∷ []) (subst (λ s. Live s) (sym e) tt) l
verdict_by stages.Digits bytes b u e l = going_answers (bytes ++ b ∷ []) (subst (λ s. Live s) (sym e) tt) l
verdict_by stages.Whole bytes b u e l = whole_answers (bytes ++ b ∷ []) e l
verdict_by stages.Lost bytes b u e l = lost_answers bytes b u e

pub verdict_answers : (bytes : List ℕ) (b : ℕ) → Undecided bytes → Answers (bytes ++ b ∷ []) (verdict (step (run start bytes) b))
verdict_answers bytes b u =
    subst (λ r. Answers (bytes ++ b ∷ []) (verdict r)) (run_append bytes (b ∷ []) start)
    (verdict_by (stage_of (bytes ++ b ∷ [])) bytes b u refl (omega (arith, u.limit, length-append bytes (b ∷ []))))

-- nothing yet
pub nothing : Undecided []
nothing = record { inside = live_inside [] tt; limit = omega arith }

-- where the bytes end inside a header
end_by : (a : Bool) (bytes : List ℕ) (n : ℕ) → Undecided bytes → n ≡ length bytes → nat_lt n 2 ≡ a → Refuses bytes (if a then Magic else Number n)
end_by true bytes n u c t = no_magic bytes (below n (length bytes) c t)
  where
    below : (n m : ℕ) → n ≡ m → nat_lt n 2 ≡ true → m < 2
    below n m c t = grind (arith, nat_tests)
end_by false bytes n u c t = subst (λ x. StopsAt bytes x) (sym c) (record {
  magic = magic_inside bytes u.inside.begins (above n (length bytes) c t);
  within = omega arith;
  limit = u.limit;
  inside = subst (λ x. Inside x) (sym (take_all (length bytes) bytes (omega arith))) u.inside;
  stops = λ below b. absurd (omega arith);
})
  where
    above : (n m : ℕ) → n ≡ m → nat_lt n 2 ≡ false → 2 ≤ m
    above n m c t = grind (arith, nat_tests)

pub ends_here : (bytes : List ℕ) → Undecided bytes → Refuses bytes (fault_at (run start bytes).length)
ends_here bytes u =
    let n = (run start bytes).length in
    end_by (nat_lt n 2) bytes n u (counts bytes (live_not_lost (stage_of bytes) (inside_live bytes u.inside))) refl
