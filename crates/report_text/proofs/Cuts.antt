-- The lines of a text, and the text of lines.
use Rattle.std.proofs.Common.{◌≡◌, ◌<◌, ◌^◌, ◌∙◌, ℕ, ℤ, pos, negsuc, suc, List, [], ◌∷◌, ◌++◌, length, map, codes, refl, ap, sym, subst, arith, append_assoc, Bool, true, false, decimal}
use Rattle.std.specs.Prelude.{nat_eq, not, if◌then◌else◌}
use Rattle.std.specs.List.{AllByRecursion}
use Rattle.std.specs.Fmt.{signed_decimal}
use Rattle.std.proofs.lemmas.Bool.{eqb-true, ne_eqb}
use Rattle.dk_base.specs.declared.TheConstants.{MAX_SIDE}
use Rattle.dk_base.specs.Stencils.{IsOffset}
use Rattle.report_text.specs.declared.report.ImageLine.{ImageLine}
use Rattle.report_text.specs.declared.report.FlowLine.{FlowLine}
use Rattle.report_text.specs.declared.report.FlowLine.TheVariants.{Hold, Start, Read, Keep}
use Rattle.dk_base.specs.Ascii.{is_digit, is_word_byte}
use Rattle.report_text.specs.Reports.{Report, Meets, IsImageLine, IsAmount, IsFlowLine}
use Rattle.report_text.specs.Layout.{number_line, pair_line, plan_line, limits_line, age_line, image_line, latency_line, reads_line, name_at, image_flow, read_flow, flow_line, end_line, head_lines, unless_first, lines, joined}
use Rattle.dk_grammar.specs.Lines.{onto_first, cut}
use Rattle.report_text.specs.Reading.{is_empty}
use Rattle.report_text.proofs.Fields.{Passes, decimal_passes}
use Rattle.report_text.proofs.Offsets.{pos_small, neg_small}
use Rattle.report_text.proofs.Words.{all_pass, name_passes}
use Rattle.report_text.proofs.FlowLines.{named}
use Rattle.report_text.proofs.Automaton.{from_flow, from_clocks, from_latencies, from_images, from_size}

-- bytes other than LF
abbrev pub is_plain : ℕ → Bool
is_plain b = not (nat_eq b 10)

abbrev pub IsPlain : List ℕ → Type 0
IsPlain bytes = Passes is_plain bytes

-- such bytes, and an LF after them
abbrev pub IsLine : List ℕ → Type 0
IsLine line = (front : List ℕ) × IsPlain front × (line ≡ front ++ 10 ∷ [])

passes_all : (p q : ℕ → Bool) → ((b : ℕ) → p b ≡ true → q b ≡ true) → (bytes : List ℕ) → Passes p bytes → Passes q bytes
passes_all p q h [] a = tt
passes_all p q h (b ∷ bytes) a = (h b a.0, passes_all p q h bytes a.1)

passes_both : (p : ℕ → Bool) (a b : List ℕ) → Passes p a → Passes p b → Passes p (a ++ b)
passes_both p [] b x y = y
passes_both p (c ∷ a) b x y = (x.0, passes_both p a b x.1 y)

plain_unless : (b : ℕ) → (b ≡ 10 → ⊥) → is_plain b ≡ true
plain_unless b h = rw (ne_eqb b 10 h) refl

digit_plain : (b : ℕ) → is_digit b ≡ true → is_plain b ≡ true
digit_plain b e = plain_unless b (λ h. absurd (cc (subst (λ x. is_digit x ≡ true) h e)))

word_plain : (b : ℕ) → is_word_byte b ≡ true → is_plain b ≡ true
word_plain b e = plain_unless b (λ h. absurd (cc (subst (λ x. is_word_byte x ≡ true) h e)))

decimal_plain : (n : ℕ) → n < 2 ^ 64 → IsPlain (decimal n)
decimal_plain n h = passes_all is_digit is_plain digit_plain (decimal n) (decimal_passes n h)

signed_plain : (z : ℤ) → IsOffset MAX_SIDE z → IsPlain (signed_decimal z)
signed_plain (pos n) o = let h = pos_small n o in decimal_plain n (omega arith)
signed_plain (negsuc n) o = let h = neg_small n o in (refl, decimal_plain (suc n) (omega arith))

-- lines of plain parts
behind : (a line : List ℕ) → IsPlain a → IsLine line → IsLine (a ++ line)
behind a line p l = (a ++ l.0, passes_both is_plain a l.0 p l.1, ap (λ x. a ++ x) l.2 ∙ sym (append_assoc a l.0 (10 ∷ [])))

last_lf : IsLine (codes "\n")
last_lf = ([], tt, refl)

spaced : (line : List ℕ) → IsLine line → IsLine (codes " " ++ line)
spaced line l = behind (codes " ") line (all_pass is_plain (codes " ") refl) l

number_is : (word : List ℕ) (n : ℕ) → IsPlain word → n < 2 ^ 64 → IsLine (number_line word n)
number_is word n p h = behind word (decimal n ++ codes "\n") p (behind (decimal n) (codes "\n") (decimal_plain n h) last_lf)

pair_is : (word : List ℕ) (m n : ℕ) → IsPlain word → m < 2 ^ 64 → n < 2 ^ 64 → IsLine (pair_line word m n)
pair_is word m n p h k = behind word (decimal m ++ number_line (codes " ") n) p (behind (decimal m) (number_line (codes " ") n) (decimal_plain m h) (number_is (codes " ") n (all_pass is_plain (codes " ") refl) k))

image_is : (i : ImageLine) → IsImageLine i → IsLine (image_line i)
image_is i h =
    let small : i.width < 2 ^ 64 = let m = h.most_bits in omega arith in
    let rows = pair_line (codes " ") i.delay i.depth in
    behind (codes "image ") (i.name ++ (codes " " ++ (decimal i.width ++ rows))) (all_pass is_plain (codes "image ") refl)
    (behind i.name (codes " " ++ (decimal i.width ++ rows)) (passes_all is_word_byte is_plain word_plain i.name (name_passes i.name h.name))
    (spaced (decimal i.width ++ rows) (behind (decimal i.width) rows (decimal_plain i.width small) (pair_is (codes " ") i.delay i.depth (all_pass is_plain (codes " ") refl) h.delay h.depth))))

name_plain : (images : List ImageLine) (g : ℕ) → AllByRecursion IsImageLine images → g < length images → IsPlain (name_at images g)
name_plain images g a h = passes_all is_word_byte is_plain word_plain (name_at images g) (named images g a h)

amount_is : (n : ℕ) → IsAmount n → IsLine (number_line (codes " ") n)
amount_is n h = number_is (codes " ") n (all_pass is_plain (codes " ") refl) h.most

image_flow_is : (word : List ℕ) (images : List ImageLine) (g n : ℕ) → IsPlain word → AllByRecursion IsImageLine images → g < length images → IsAmount n → IsLine (image_flow word images g n)
image_flow_is word images g n p a h m =
    behind word (name_at images g ++ number_line (codes " ") n) p (behind (name_at images g) (number_line (codes " ") n) (name_plain images g a h) (amount_is n m))

read_flow_is : (word : List ℕ) (images : List ImageLine) (f g : ℕ) (dx dy : ℤ) (n : ℕ) → IsPlain word → AllByRecursion IsImageLine images → f < length images → g < length images → IsOffset MAX_SIDE dx → IsOffset MAX_SIDE dy → IsAmount n
    → IsLine (read_flow word images f g dx dy n)
read_flow_is word images f g dx dy n p a h k x y m =
    let down = signed_decimal dy ++ number_line (codes " ") n in
    let across = signed_decimal dx ++ (codes " " ++ down) in
    let source = name_at images g ++ (codes " " ++ across) in
    let third = behind (signed_decimal dy) (number_line (codes " ") n) (signed_plain dy y) (amount_is n m) in
    let second = behind (signed_decimal dx) (codes " " ++ down) (signed_plain dx x) (spaced down third) in
    let first = behind (name_at images g) (codes " " ++ across) (name_plain images g a k) (spaced across second) in
    behind word (name_at images f ++ (codes " " ++ source)) p (behind (name_at images f) (codes " " ++ source) (name_plain images f a h) (spaced source first))

flow_is : (images : List ImageLine) (x : FlowLine) → AllByRecursion IsImageLine images → IsFlowLine (length images) x → IsLine (flow_line images x)
flow_is images (Hold g n) a h = image_flow_is (codes "flow hold ") images g n (all_pass is_plain (codes "flow hold ") refl) a h.0 h.1
flow_is images (Start f n) a h = image_flow_is (codes "flow start ") images f n (all_pass is_plain (codes "flow start ") refl) a h.0 h.1
flow_is images (Read f g dx dy n) a h = read_flow_is (codes "flow read ") images f g dx dy n (all_pass is_plain (codes "flow read ") refl) a h.0 h.1 h.2 h.3 h.4
flow_is images (Keep f g dx dy n) a h = read_flow_is (codes "flow keep ") images f g dx dy n (all_pass is_plain (codes "flow keep ") refl) a h.0 h.1 h.2 h.3 h.4

-- all lines of a report
all_both : {A : Type 0} (P : A → Type 0) (xs ys : List A) → AllByRecursion P xs → AllByRecursion P ys → AllByRecursion P (xs ++ ys)
all_both P [] ys a b = b
all_both P (x ∷ xs) ys a b = (a.0, all_both P xs ys a.1 b)

all_map : {A B : Type 0} (P : A → Type 0) (Q : B → Type 0) (f : A → B) → ((x : A) → P x → Q (f x)) → (xs : List A) → AllByRecursion P xs → AllByRecursion Q (map f xs)
all_map P Q f h [] a = tt
all_map P Q f h (x ∷ xs) a = (h x a.0, all_map P Q f h xs a.1)

all_unless : (v : ℕ) (ls : List (List ℕ)) → AllByRecursion IsLine ls → AllByRecursion IsLine (unless_first v ls)
all_unless v ls a = by (nat_eq v 1)
  where
    by : (t : Bool) → AllByRecursion IsLine (if t then [] else ls)
    by true = tt
    by false = a

end_is_line : IsLine end_line
end_is_line = behind (codes "end") (codes "\n") (all_pass is_plain (codes "end") refl) last_lf

number_of : (word : List ℕ) → IsPlain word → (n : ℕ) → n < 2 ^ 64 → IsLine (number_line word n)
number_of word p n h = number_is word n p h

flow_all : (r : Report) → Meets r → AllByRecursion IsLine (from_flow r)
flow_all r m = all_both IsLine (map (flow_line r.images) r.flow) (unless_first r.version (end_line ∷ []))
    (all_map (IsFlowLine (length r.images)) IsLine (flow_line r.images) (λ x h. flow_is r.images x m.images h) r.flow m.flow)
    (all_unless r.version (end_line ∷ []) (end_is_line, tt))

clocks_all : (r : Report) → Meets r → AllByRecursion IsLine (from_clocks r)
clocks_all r m = (
  number_is (codes "clocks ") r.clocks (all_pass is_plain (codes "clocks ") refl) m.clocks,
  (
    number_is (codes "bits ") r.bits (all_pass is_plain (codes "bits ") refl) m.bits,
    all_both IsLine (unless_first r.version (reads_line r.reads ∷ [])) (from_flow r) (all_unless r.version (reads_line r.reads ∷ []) (number_is (codes "reads ") r.reads (all_pass is_plain (codes "reads ") refl) m.reads, tt)) (flow_all r m),
  ),
)

images_all : (r : Report) → Meets r → AllByRecursion IsLine (from_images r)
images_all r m = all_both IsLine (map image_line r.images) (from_latencies r) (all_map IsImageLine IsLine image_line image_is r.images m.images)
    (all_both IsLine (map latency_line r.latencies) (from_clocks r) (all_map (λ n. n < 2 ^ 64) IsLine latency_line (number_of (codes "latency ") (all_pass is_plain (codes "latency ") refl)) r.latencies m.latencies) (clocks_all r m))

pub lines_are : (r : Report) → Meets r → AllByRecursion IsLine (lines r)
lines_are r m =
    let columns : r.width < 2 ^ 64 = let h = m.most_columns in omega arith in
    let rows : r.height < 2 ^ 64 = let h = m.most_rows in omega arith in
    let version : r.version < 2 ^ 64 = let h = m.last_version in omega arith in
    let age : r.age < 2 ^ 64 = let h = m.age in omega arith in
    let head : AllByRecursion IsLine (plan_line r.version ∷ limits_line r.bits_limit r.latency_limit ∷ age_line r.age ∷ []) = (
      number_is (codes "plan ") r.version (all_pass is_plain (codes "plan ") refl) version,
      (pair_is (codes "limits ") r.bits_limit r.latency_limit (all_pass is_plain (codes "limits ") refl) m.bits_limit m.latency_limit, (number_is (codes "age ") r.age (all_pass is_plain (codes "age ") refl) age, tt)),
    ) in
    all_both IsLine (head_lines r) (from_size r) (all_unless r.version (plan_line r.version ∷ limits_line r.bits_limit r.latency_limit ∷ age_line r.age ∷ []) head)
    (pair_is (codes "size ") r.width r.height (all_pass is_plain (codes "size ") refl) columns rows, images_all r m)

-- lines are cut where they were joined
cut_front : (front rest : List ℕ) → IsPlain front → cut (front ++ 10 ∷ rest) ≡ (front ++ 10 ∷ []) ∷ cut rest
cut_front [] rest p = refl
cut_front (b ∷ front) rest p = let i = cut_front front rest p.1 in by (nat_eq b 10) refl p.0 i
  where
    by : (t : Bool) → nat_eq b 10 ≡ t → not t ≡ true → cut (front ++ 10 ∷ rest) ≡ (front ++ 10 ∷ []) ∷ cut rest → cut (b ∷ (front ++ 10 ∷ rest)) ≡ (b ∷ (front ++ 10 ∷ [])) ∷ cut rest
    by true h n i = absurd (cc n)
    by false h n i = ap (λ t. if t then (10 ∷ []) ∷ cut (front ++ 10 ∷ rest) else onto_first b (cut (front ++ 10 ∷ rest))) h ∙ ap (onto_first b) i

pub cut_joined : (ls : List (List ℕ)) → AllByRecursion IsLine ls → cut (joined ls) ≡ ls ++ [] ∷ []
cut_joined [] a = refl
cut_joined (line ∷ ls) a =
    let l = a.0 in
    ap (λ x. cut (x ++ joined ls)) l.2 ∙ ap cut (append_assoc l.0 (10 ∷ []) (joined ls)) ∙ cut_front l.0 (joined ls) l.1
    ∙ ap (λ x. x ∷ cut (joined ls)) (sym l.2) ∙ ap (λ x. line ∷ x) (cut_joined ls a.1)

onto_joined : (b : ℕ) (ls : List (List ℕ)) → joined (onto_first b ls) ≡ b ∷ joined ls
onto_joined b [] = refl
onto_joined b (l ∷ ls) = refl

pub joined_cut : (text : List ℕ) → joined (cut text) ≡ text
joined_cut [] = refl
joined_cut (b ∷ text) = by (nat_eq b 10) refl (joined_cut text)
  where
    by : (t : Bool) → nat_eq b 10 ≡ t → joined (cut text) ≡ text → joined (if t then (10 ∷ []) ∷ cut text else onto_first b (cut text)) ≡ b ∷ text
    by true h i = ap (λ x. 10 ∷ x) i ∙ ap (λ x. x ∷ text) (sym (eqb-true b 10 h))
    by false h i = onto_joined b (cut text) ∙ ap (λ x. b ∷ x) i

-- of the lines of a text the last one has no LF, and no other is empty
abbrev pub AreCut : List (List ℕ) → Type 0
AreCut [] = ⊥
AreCut (l ∷ []) = IsPlain l
AreCut (l ∷ m ∷ more) = (is_empty l ≡ false) × AreCut (m ∷ more)

cut_more : (l : List ℕ) (ls : List (List ℕ)) → is_empty l ≡ false → AreCut ls → AreCut (l ∷ ls)
cut_more l [] e a = absurd a
cut_more l (m ∷ ls) e a = (e, a)

onto_cut : (b : ℕ) (ls : List (List ℕ)) → nat_eq b 10 ≡ false → AreCut ls → AreCut (onto_first b ls)
onto_cut b [] e a = absurd a
onto_cut b (l ∷ []) e a = (ap not e, a)
onto_cut b (l ∷ m ∷ ls) e a = (refl, a.1)

pub are_cut : (text : List ℕ) → AreCut (cut text)
are_cut [] = tt
are_cut (b ∷ text) = by (nat_eq b 10) refl (are_cut text)
  where
    by : (t : Bool) → nat_eq b 10 ≡ t → AreCut (cut text) → AreCut (if t then (10 ∷ []) ∷ cut text else onto_first b (cut text))
    by true h a = cut_more (10 ∷ []) (cut text) refl a
    by false h a = onto_cut b (cut text) h a

-- a line has an LF
with_lf : (front : List ℕ) → IsPlain (front ++ 10 ∷ []) → ⊥
with_lf [] p = absurd (cc p.0)
with_lf (b ∷ front) p = with_lf front p.1

pub line_not_plain : (line : List ℕ) → IsLine line → IsPlain line → ⊥
line_not_plain line l p = with_lf l.0 (subst IsPlain l.2 p)

not_nil : (taken : List (List ℕ)) (line : List ℕ) (more : List (List ℕ)) → taken ++ line ∷ more ≡ [] → ⊥
not_nil [] line more e = absurd (cc e)
not_nil (t ∷ taken) line more e = absurd (cc e)

-- what is not the last of lines and an empty one is among the lines
pub line_in : (taken : List (List ℕ)) (line l : List ℕ) (more ls : List (List ℕ)) → taken ++ line ∷ l ∷ more ≡ ls ++ [] ∷ [] → AllByRecursion IsLine ls → IsLine line
line_in [] line l more [] e a = absurd (cc e)
line_in [] line l more (x ∷ ls) e a = let s : line ≡ x = cc in subst IsLine (sym s) a.0
line_in (t ∷ taken) line l more [] e a = absurd (not_nil taken line (l ∷ more) (cc e))
line_in (t ∷ taken) line l more (x ∷ ls) e a = line_in taken line l more ls (cc e) a.1
