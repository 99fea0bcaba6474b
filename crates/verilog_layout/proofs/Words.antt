-- Names, numbers, constants and symbols are read as their tokens.
use Rattle.std.proofs.Common.{◌≡◌, ℕ, suc, ◌+◌, ◌^◌, ◌<◌, ◌≤◌, List, [], ◌∷◌, ◌++◌, map, length, take, drop, Ok, Some, Bool, true, false, ◌&&◌, ◌||◌, not, nat_eq, nat_lt, nat_le, refl, sym, ap, ◌∙◌, subst, arith, codes}
use Rattle.std.specs.Prelude.{if◌then◌else◌}
use Rattle.std.proofs.lemmas.Bool.{leb-true}
use Rattle.std.specs.List.{prefix_len}
use Rattle.std.specs.Fmt.{decimal}
use Rattle.std.proofs.Math.Pow.{pow_mono}
use Rattle.std.proofs.Math.Seq.{take-append_seam, drop-append_seam}
use Rattle.dk_base.specs.declared.span.Span.{Span}
use Rattle.wiring.specs.Sizes.{SizedNumber, IsConstant}
use Rattle.wiring.specs.declared.right.Atom.TheVariants as atom
use Rattle.verilog_text.specs.declared.token.TokenKind.{TokenKind}
use Rattle.verilog_text.specs.declared.token.TokenKind.TheVariants.{Name, Clock, Plain, Sized, Symbol as Sym}
use Rattle.verilog_text.specs.declared.token.Symbol.{Symbol}
use Rattle.verilog_text.specs.declared.token.Symbol.TheVariants as symbol
use Rattle.verilog_text.specs.declared.token.Keyword.{Keyword}
use Rattle.std.specs.Str.{bytes_eq}
use Rattle.net_names.specs.Words.{is_letter, is_word_byte, is_digit, is_word, is_name, is_among, is_structure_word, is_refused_word}
use Rattle.verilog_text.specs.Bytes.{is_white, is_in_number, is_in_constant, value_of, word_kind, keyword_or, keywords, refused_or_name}
use Rattle.verilog_text.specs.Lexis.{Solid, lexeme, number_at, plain_of, is_tick_first, symbol_here}
use Rattle.verilog_text.specs.Grammar.{named, atomic}
use Rattle.verilog_layout.specs.Layout.{constant_layout}
use Rattle.verilog_layout.proofs.Pieces.{IsRead}
use Rattle.verilog_layout.proofs.Spelling.{AllOf, StopsAt, run_of, word_reads, constant_reads, decimal_is, IsDecimal, all_number, numeral_digits, first_digit, is_digit_of_ten, no_word}

-- what a word, a number or a constant may go on with
abbrev pub is_tail : ℕ → Bool
is_tail b = is_word_byte b || nat_eq b 39

no_tail_word : (b : ℕ) → is_tail b ≡ false → is_word_byte b ≡ false
no_tail_word b h = grind arith

no_tail_number : (b : ℕ) → is_tail b ≡ false → is_in_number b ≡ false
no_tail_number b h = grind arith

no_tail_constant : (b : ℕ) → is_tail b ≡ false → is_in_constant b ≡ false
no_tail_constant b h = grind arith

no_tail_tick : (b : ℕ) → is_tail b ≡ false → nat_eq b 39 ≡ false
no_tail_tick b h = grind arith

stops : (p : ℕ → Bool) → ((b : ℕ) → is_tail b ≡ false → p b ≡ false) → (rest : List ℕ) → StopsAt is_tail rest → StopsAt p rest
stops p h [] s = tt
stops p h (b ∷ bs) s = h b s

no_tick : (rest : List ℕ) → StopsAt is_tail rest → is_tick_first rest ≡ false
no_tick [] s = refl
no_tick (b ∷ bs) s = no_tail_tick b s

solid_is : (a : ℕ) (x : List ℕ) → is_white a ≡ false → (a ≡ 47 → ⊥) → Solid (a ∷ x)
solid_is a [] w n = w
solid_is a (b ∷ bs) w n = (w, λ e f. n e, λ e f. absurd (n e))

letter_white : (a : ℕ) → is_letter a ≡ true → is_white a ≡ false
letter_white a h = grind arith

letter_slash : (a : ℕ) → is_letter a ≡ true → a ≡ 47 → ⊥
letter_slash a h e = grind arith

digit_white : (a : ℕ) → is_digit a ≡ true → is_white a ≡ false
digit_white a h = grind arith

digit_slash : (a : ℕ) → is_digit a ≡ true → a ≡ 47 → ⊥
digit_slash a h e = grind arith

-- a word of at most 64 bytes
pub word_read : (a : ℕ) (bs rest : List ℕ) → is_letter a ≡ true → AllOf is_word_byte bs → length (a ∷ bs) ≤ 64 → StopsAt is_tail rest → IsRead (a ∷ bs) (word_kind (a ∷ bs)) rest
word_read a bs rest l all fits s = record {
  first = a;
  others = bs;
  whole = refl;
  solid = solid_is a (bs ++ rest) (letter_white a l) (letter_slash a l);
  reads = word_reads a bs rest l all (stops is_word_byte no_tail_word rest s) fits;
}

all_word : (bs : List ℕ) → prefix_len is_word_byte bs ≡ length bs → AllOf is_word_byte bs
all_word [] e = tt
all_word (b ∷ bs) e = by_byte (is_word_byte b) refl (λ i f. all_word bs f)
  where
    by_byte : (t : Bool) → is_word_byte b ≡ t → (is_word_byte b ≡ true → prefix_len is_word_byte bs ≡ length bs → AllOf is_word_byte bs) → (is_word_byte b ≡ true) × AllOf is_word_byte bs
    by_byte true i go = (i, go i (let f : 1 + prefix_len is_word_byte bs ≡ suc (length bs) = rw i at e in omega (arith, f)))
    by_byte false i go = absurd (let f : 0 ≡ suc (length bs) = rw i at e in omega (arith, f))

and_left : (a b : Bool) → (a && b) ≡ true → a ≡ true
and_left true b h = refl
and_left false b h = h

and_right : (a b : Bool) → (a && b) ≡ true → b ≡ true
and_right true b h = h
and_right false b h = absurd (cc)

equal_true : (a b : ℕ) → nat_eq a b ≡ true → a ≡ b
equal_true a b h = grind arith

-- what a name is
record IsWord (bytes : List ℕ) : Type 0 where
  first : ℕ
  others : List ℕ
  whole : bytes ≡ first ∷ others
  letter : is_letter first ≡ true
  all : AllOf is_word_byte others
  fits : length (first ∷ others) ≤ 64

word_is : (bytes : List ℕ) → is_word bytes ≡ true → nat_le (length bytes) 64 ≡ true → IsWord bytes
word_is [] w l = absurd (cc)
word_is (a ∷ bs) w l = record {
  first = a;
  others = bs;
  whole = refl;
  letter = and_left (is_letter a) (nat_eq (prefix_len is_word_byte bs) (length bs)) w;
  all = all_word bs (equal_true (prefix_len is_word_byte bs) (length bs) (and_right (is_letter a) (nat_eq (prefix_len is_word_byte bs) (length bs)) w));
  fits = leb-true (length (a ∷ bs)) 64 l;
}

record NameFacts (bytes : List ℕ) : Type 0 where
  word : IsWord bytes
  free : is_structure_word bytes ≡ false
  allowed : is_refused_word bytes ≡ false

facts_of : (w l s r : Bool) → ((w && l) && not s && not r) ≡ true → (w ≡ true) × (l ≡ true) × (s ≡ false) × (r ≡ false)
facts_of true true false false h = (refl, refl, refl, refl)
facts_of true true false true h = absurd (cc)
facts_of true true true r h = absurd (cc)
facts_of true false s r h = absurd (cc)
facts_of false l s r h = absurd (cc)

name_facts : (bytes : List ℕ) → is_name bytes ≡ true → NameFacts bytes
name_facts bytes h =
    let f = facts_of (is_word bytes) (nat_le (length bytes) 64) (is_structure_word bytes) (is_refused_word bytes) h in
    record { word = word_is bytes f.0 f.1; free = f.2; allowed = f.3 }

no_keyword : (bytes : List ℕ) (ws : List (List ℕ × Keyword)) (other : TokenKind) → is_among bytes (map (λ (w : List ℕ × Keyword). w.0) ws) ≡ false → keyword_or bytes ws other ≡ other
no_keyword bytes [] other h = refl
no_keyword bytes (w ∷ ws) other h = by_word (bytes_eq bytes w.0) (is_among bytes (map (λ (v : List ℕ × Keyword). v.0) ws)) h (no_keyword bytes ws other)
  where
    by_word : (s t : Bool) → (s || t) ≡ false → (t ≡ false → keyword_or bytes ws other ≡ other) → (if s then TokenKind.Keyword w.1 else keyword_or bytes ws other) ≡ other
    by_word true t e go = absurd (cc)
    by_word false t e go = go e

pub name_kind : (bytes : List ℕ) → is_name bytes ≡ true → word_kind bytes ≡ (if bytes_eq bytes (codes "clk") then Clock else Name)
name_kind bytes h =
    let f = name_facts bytes h in
    no_keyword bytes keywords (refused_or_name bytes) f.free ∙ (rw (f.allowed) refl)

named_either : (t : Bool) (s : Span) → named (if t then Clock else Name) s ≡ Some s
named_either true s = refl
named_either false s = refl

atomic_either : (t : Bool) (s : Span) → atomic (if t then Clock else Name) s ≡ Some (atom.Net s)
atomic_either true s = refl
atomic_either false s = refl

pub is_named : (bytes : List ℕ) (s : Span) → is_name bytes ≡ true → named (word_kind bytes) s ≡ Some s
is_named bytes s h = ap (λ k. named k s) (name_kind bytes h) ∙ named_either (bytes_eq bytes (codes "clk")) s

pub is_atomic : (bytes : List ℕ) (s : Span) → is_name bytes ≡ true → atomic (word_kind bytes) s ≡ Some (atom.Net s)
is_atomic bytes s h = ap (λ k. atomic k s) (name_kind bytes h) ∙ atomic_either (bytes_eq bytes (codes "clk")) s

pub name_read : (bytes : List ℕ) {rest : List ℕ} → is_name bytes ≡ true → StopsAt is_tail rest → IsRead bytes (word_kind bytes) rest
name_read bytes {rest} h s =
    let w = (name_facts bytes h).word in
    subst (λ x. IsRead x (word_kind x) rest) (sym w.whole) (word_read w.first w.others rest w.letter w.all w.fits s)

-- a plain number
plain_fits : (n m : ℕ) → n < 2 ^ 64 → plain_of n m ≡ Ok (Plain n, m)
plain_fits n m h =
    let t : nat_lt n (2 ^ 64) ≡ true = grind arith in
    rw t refl

plain_reads : (a n : ℕ) (ds rest : List ℕ) → IsDecimal n (a ∷ ds) → n < 2 ^ 64 → StopsAt is_tail rest → lexeme a (ds ++ rest) ≡ Ok (Plain n, length (a ∷ ds))
unfolding lexeme
plain_reads a n ds rest p fits s =
    let all = (a ∷ ds) ++ rest in
    let digits : AllOf is_in_number (a ∷ ds) = all_number (a ∷ ds) (numeral_digits (a ∷ ds) p.numeral) in
    let size : prefix_len is_in_number all ≡ length (a ∷ ds) = run_of is_in_number (a ∷ ds) rest digits (stops is_in_number no_tail_number rest s) in
    let front : take (length (a ∷ ds)) all ≡ a ∷ ds = take-append_seam (a ∷ ds) rest in
    let behind : drop (length (a ∷ ds)) all ≡ rest = drop-append_seam (a ∷ ds) rest in
    let d : is_digit a ≡ true = is_digit_of_ten a (first_digit a ds p.numeral) in
    let l : is_letter a ≡ false = no_word a d in
    let first : lexeme a (ds ++ rest) ≡ number_at all (prefix_len is_in_number all) (prefix_len is_in_constant all) = rw (l, d) refl in
    let tick : is_tick_first (drop (length (a ∷ ds)) all) ≡ false = ap (λ x. is_tick_first x) behind ∙ no_tick rest s in
    let second : number_at all (length (a ∷ ds)) (prefix_len is_in_constant all) ≡ plain_of (value_of 10 (take (length (a ∷ ds)) all)) (length (a ∷ ds)) = rw tick refl in
    first ∙ ap (λ m. number_at all m (prefix_len is_in_constant all)) size ∙ second
    ∙ ap (λ x. plain_of (value_of 10 x) (length (a ∷ ds))) front
    ∙ ap (λ x. plain_of x (length (a ∷ ds))) p.value
    ∙ plain_fits n (length (a ∷ ds)) fits

digits_read : (n : ℕ) (ds rest : List ℕ) → IsDecimal n ds → n < 2 ^ 64 → StopsAt is_tail rest → IsRead ds (Plain n) rest
digits_read n [] rest p fits s = absurd (let e : false ≡ true = p.numeral in cc)
digits_read n (a ∷ ds) rest p fits s =
    let d : is_digit a ≡ true = is_digit_of_ten a (first_digit a ds p.numeral) in
    record {
      first = a;
      others = ds;
      whole = refl;
      solid = solid_is a (ds ++ rest) (digit_white a d) (digit_slash a d);
      reads = plain_reads a n ds rest p fits s;
    }

pub number_read : (n : ℕ) {rest : List ℕ} → n < 2 ^ 64 → StopsAt is_tail rest → IsRead (decimal n) (Plain n) rest
number_read n {rest} fits s = digits_read n (decimal n) rest (decimal_is n fits) fits s

-- a sized constant
sized_read : (w v : ℕ) (ws vs rest : List ℕ) → IsDecimal w ws → IsDecimal v vs → 1 ≤ w → w ≤ 64 → v < 2 ^ w → StopsAt is_tail rest
    → IsRead (ws ++ (39 ∷ 100 ∷ vs)) (Sized (record { width = w; value = v })) rest
sized_read w v [] vs rest p q low high fits s = absurd (let e : false ≡ true = p.numeral in cc)
sized_read w v (a ∷ ws) vs rest p q low high fits s =
    let d : is_digit a ≡ true = is_digit_of_ten a (first_digit a ws p.numeral) in
    record {
      first = a;
      others = ws ++ (39 ∷ 100 ∷ vs);
      whole = refl;
      solid = solid_is a ((ws ++ (39 ∷ 100 ∷ vs)) ++ rest) (digit_white a d) (digit_slash a d);
      reads = constant_reads a w v ws vs rest p q low high fits (stops is_in_constant no_tail_constant rest s);
    }

value_small : (v w : ℕ) → w ≤ 64 → v < 2 ^ w → v < 2 ^ 64
value_small v w h k =
    let top : 2 ^ w ≤ 2 ^ 64 = pow_mono h in
    omega (arith, k, top)

pub constant_read : (c : SizedNumber) {rest : List ℕ} → IsConstant c → StopsAt is_tail rest → IsRead (constant_layout c) (Sized c) rest
constant_read c {rest} k s =
    let small : c.width < 2 ^ 64 = let h = k.width.1 in omega (arith, h) in
    sized_read c.width c.value (decimal c.width) (decimal c.value) rest (decimal_is c.width small) (decimal_is c.value (value_small c.value c.width k.width.1 k.fits)) k.width.0 k.width.1 k.fits s

-- a symbol of one byte that begins no other one
abbrev pub IsLone : ℕ → Symbol → Type 0
IsLone b s = (is_letter b ≡ false) × (is_digit b ≡ false) × (is_white b ≡ false) × (nat_eq b 47 ≡ false) × ((rest : List ℕ) → symbol_here (b ∷ rest) ≡ Ok (Sym s, 1))

not_slash : (b : ℕ) → nat_eq b 47 ≡ false → b ≡ 47 → ⊥
not_slash b h e = grind arith

lone_reads : (b : ℕ) (s : Symbol) (rest : List ℕ) → IsLone b s → lexeme b rest ≡ Ok (Sym s, 1)
unfolding lexeme
lone_reads b s rest l = let e : lexeme b rest ≡ symbol_here (b ∷ rest) = rw (l.0, l.1) refl in e ∙ l.4 rest

pub lone_read : (b : ℕ) (s : Symbol) {rest : List ℕ} → IsLone b s → IsRead (b ∷ []) (Sym s) rest
lone_read b s {rest} l = record { first = b; others = []; whole = refl; solid = solid_is b rest l.2 (not_slash b l.3); reads = lone_reads b s rest l }

-- `/`, `<` and `=` in front of a blank
pub slash_read : {rest : List ℕ} → IsRead (codes "/") (Sym symbol.Slash) (32 ∷ rest)
unfolding lexeme
slash_read {rest} = record { first = 47; others = []; whole = refl; solid = (refl, λ e f. absurd (omega (arith, f)), λ e f. absurd (omega (arith, f))); reads = refl }

pub less_read : {rest : List ℕ} → IsRead (codes "<") (Sym symbol.Less) (32 ∷ rest)
unfolding lexeme
less_read {rest} = record { first = 60; others = []; whole = refl; solid = (refl, λ e f. absurd (omega (arith, e)), λ e f. absurd (omega (arith, e))); reads = refl }

pub equal_read : {rest : List ℕ} → IsRead (codes "=") (Sym symbol.Equal) (32 ∷ rest)
unfolding lexeme
equal_read {rest} = record { first = 61; others = []; whole = refl; solid = (refl, λ e f. absurd (omega (arith, e)), λ e f. absurd (omega (arith, e))); reads = refl }

pub same_read : {rest : List ℕ} → IsRead (codes "==") (Sym symbol.EqualEqual) rest
unfolding lexeme
same_read {rest} = record { first = 61; others = 61 ∷ []; whole = refl; solid = (refl, λ e f. absurd (omega (arith, e)), λ e f. absurd (omega (arith, e))); reads = refl }

pub takes_read : {rest : List ℕ} → IsRead (codes "<=") (Sym symbol.LessEqual) rest
unfolding lexeme
takes_read {rest} = record { first = 60; others = 61 ∷ []; whole = refl; solid = (refl, λ e f. absurd (omega (arith, e)), λ e f. absurd (omega (arith, e))); reads = refl }

-- a word of the grammar
pub keyword_read : (bytes : List ℕ) {rest : List ℕ} → is_word bytes ≡ true → nat_le (length bytes) 64 ≡ true → StopsAt is_tail rest → IsRead bytes (word_kind bytes) rest
keyword_read bytes {rest} h l s =
    let w = word_is bytes h l in
    subst (λ x. IsRead x (word_kind x) rest) (sym w.whole) (word_read w.first w.others rest w.letter w.all w.fits s)

-- the number 0
pub zero_read : {rest : List ℕ} → StopsAt is_tail rest → IsRead (codes "0") (Plain 0) rest
zero_read {rest} s = digits_read 0 (codes "0") rest (record { numeral = refl; value = refl }) (omega arith) s
