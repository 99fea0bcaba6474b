-- The names that a builder gives are names, and each has its own.
use Rattle.std.proofs.Common.{◌≡◌, ◌≢◌, ◌⊎◌, ℕ, zero, suc, ◌+◌, ◌-◌, ◌*◌, ◌/◌, ◌<◌, ◌≤◌, ◌^◌, Bool, true, false, ◌&&◌, not, List, [], ◌∷◌, ◌++◌, length, get_or, Some, refl, sym, ap, ◌∙◌, inl, inr, arith, codes, decimal, nat_le}
use Rattle.std.specs.Prelude.{slice_get, nat_eq, if◌then◌else◌}
use Rattle.std.specs.List.{prefix_len}
use Rattle.std.specs.Str.Parse.{IsNumeral}
use Rattle.std.proofs.lemmas.Str.Parse.{digit_at}
use Rattle.std.proofs.lemmas.Fmt.{decimal_is_IsNumeral, decimal_injective, length-decimal-le}
use Rattle.std.proofs.lemmas.Bool.{le-leb}
use Rattle.net_names.specs.declared.TheConstants.{MOST_NAME_BYTES}
use Rattle.std.proofs.lemmas.Option.{same_Some, slice_get_within, get_or_from_slice_get}
use Rattle.std.proofs.lemmas.List.FromFn.{length-map-range_with_len, get_or-map-range_with_len, map-range_with_len_more}
use Rattle.std.proofs.lemmas.Bool.Decides.{nat_tests}
use Rattle.wiring.proofs.Lists.{All-from_at}
use Rattle.std.specs.Str.{bytes_eq}
use Rattle.net_names.specs.Words.{is_letter, is_digit, is_name, is_word, is_word_byte, is_among, structure_words, is_structure_word, is_refused_word, refused_a_to_d, refused_e, refused_f, refused_g_to_n, refused_o_to_s, refused_t_to_x}
use Rattle.wiring.specs.Netlist.{Netlist, first_din}
use Rattle.netlist.specs.Names.{numbered, din_names, output_names, input_names, port_names, AreDistinct, HasNames}
use Rattle.net_build.specs.Naming.{made_name, made_names, names_for, AreCounts}
use Rattle.net_build.specs.Draft.{with_outputs}
use Rattle.wiring.specs.declared.netlist.Net.{Net}
use Rattle.net_build.proofs.Drafts.{append_at}

-- the letters of wires, registers and arrays
pub data Letter : ℕ → Type 0 where
  of_wires : Letter 110
  of_regs : Letter 114
  of_arrays : Letter 109

all_of : (a b c d : Bool) → a ≡ true → b ≡ true → c ≡ false → d ≡ false → ((a && b) && not c && not d) ≡ true
all_of a b c d e f g h = rw (e, f, g, h) refl

-- the second byte of a word, if there is one
abbrev second : List ℕ → ℕ
second x = get_or x 1 0

-- none of the words has a digit after its first letter
abbrev none_numbered : List (List ℕ) → Bool
none_numbered [] = true
none_numbered (w ∷ words) = not (is_digit (second w)) && none_numbered words

no_digit : (d b : ℕ) → is_digit d ≡ true → not (is_digit b) ≡ true → nat_eq d b ≡ false
no_digit d b digit none = by (nat_eq d b) (λ e. grind (arith, nat_tests))
  where
    by : (t : Bool) → (t ≡ true → ⊥) → t ≡ false
    by true f = absurd (f refl)
    by false f = refl

both : (a b : Bool) → (a && b) ≡ true → (a ≡ true) × (b ≡ true)
both true true e = (refl, refl)
both true false e = cc
both false b e = cc

no_same : (l d : ℕ) (rest w : List ℕ) → is_digit d ≡ true → not (is_digit (second w)) ≡ true → bytes_eq (l ∷ (d ∷ rest)) w ≡ false
no_same l d rest [] digit none = refl
no_same l d rest (a ∷ []) digit none = by (nat_eq l a)
  where
    by : (t : Bool) → (t && false) ≡ false
    by true = refl
    by false = refl
no_same l d rest (a ∷ (b ∷ w)) digit none = by (nat_eq l a) (nat_eq d b) (bytes_eq rest w) (no_digit d b digit none)
  where
    by : (t u v : Bool) → u ≡ false → (t && (u && v)) ≡ false
    by true false v e = refl
    by false u v e = refl
    by true true v e = cc

no_word : (l d : ℕ) (rest : List ℕ) (words : List (List ℕ)) → is_digit d ≡ true → none_numbered words ≡ true → is_among (l ∷ (d ∷ rest)) words ≡ false
no_word l d rest [] digit none = refl
no_word l d rest (w ∷ words) digit none = rw (no_same l d rest w digit (both (not (is_digit (second w))) (none_numbered words) none).0, no_word l d rest words digit (both (not (is_digit (second w))) (none_numbered words) none).1) refl

no_structure_word : (l d : ℕ) (rest : List ℕ) → is_digit d ≡ true → is_structure_word (l ∷ (d ∷ rest)) ≡ false
no_structure_word l d rest digit = no_word l d rest structure_words digit refl

no_refused_word : (l d : ℕ) (rest : List ℕ) → is_digit d ≡ true → is_refused_word (l ∷ (d ∷ rest)) ≡ false
no_refused_word l d rest digit =
    rw (no_word l d rest refused_a_to_d digit refl, no_word l d rest refused_e digit refl, no_word l d rest refused_f digit refl, no_word l d rest refused_g_to_n digit refl, no_word l d rest refused_o_to_s digit refl, no_word l d rest refused_t_to_x digit refl) refl

-- a number begins with a digit
record Begun (k : ℕ) : Type 0 where
  digit : ℕ
  rest : List ℕ
  is : decimal k ≡ digit ∷ rest
  passes : is_digit digit ≡ true

begun : (k : ℕ) → k < 2 ^ 64 → Begun k
begun k small = by (decimal k) refl
  where
    numeral : IsNumeral 10 (decimal k)
    numeral = (decimal_is_IsNumeral k small).0

    digit_is : (b : ℕ) → 48 ≤ b → b ≤ 57 → is_digit b ≡ true
    digit_is b low high = grind (arith, nat_tests)

    by : (ds : List ℕ) → decimal k ≡ ds → Begun k
    by [] e = absurd (omega (arith, numeral.0, ap length e))
    by (d ∷ rest) e =
        let range = digit_at (decimal k) 0 numeral.1 numeral.0 in
        let same : get_or (decimal k) 0 0 ≡ d = ap (λ (ds : List ℕ). get_or ds 0 0) e in
        record { digit = d; rest = rest; is = e; passes = digit_is d (omega (arith, range, same)) (omega (arith, range, same)) }

letter_is : (l : ℕ) → Letter l → is_letter l ≡ true
letter_is l of_wires = refl
letter_is l of_regs = refl
letter_is l of_arrays = refl

digit_byte : (b : ℕ) → 48 ≤ b → b ≤ 57 → is_word_byte b ≡ true
digit_byte b low high = grind (arith, nat_tests)

prefix_all : (p : ℕ → Bool) (xs : List ℕ) → ((k x : ℕ) → slice_get xs k ≡ Some x → p x ≡ true) → prefix_len p xs ≡ length xs
prefix_all p [] h = refl
prefix_all p (x ∷ xs) h =
    let e : prefix_len p xs ≡ length xs = prefix_all p xs (λ k y e. h (suc k) y e) in
    let g : 1 + prefix_len p xs ≡ suc (length xs) = omega (arith, e) in
    rw (h 0 x refl) g

digits_pass : (k : ℕ) → k < 2 ^ 64 → (i b : ℕ) → slice_get (decimal k) i ≡ Some b → is_word_byte b ≡ true
digits_pass k small i b at =
    let inside = slice_get_within (decimal k) i b at in
    let range = digit_at (decimal k) i (decimal_is_IsNumeral k small).0.1 inside in
    let same : get_or (decimal k) i 0 ≡ b = get_or_from_slice_get (decimal k) i b 0 at in
    digit_byte b (omega (arith, range, same)) (omega (arith, range, same))

eqb_same : (n k : ℕ) → n ≡ k → nat_eq n k ≡ true
eqb_same n k e = grind (arith, nat_tests)

made_word : (l k : ℕ) → Letter l → k < 2 ^ 64 → is_word (l ∷ decimal k) ≡ true
made_word l k letter small =
    let digits : prefix_len is_word_byte (decimal k) ≡ length (decimal k) = prefix_all is_word_byte (decimal k) (digits_pass k small) in
    rw (letter_is l letter) (eqb_same (prefix_len is_word_byte (decimal k)) (length (decimal k)) digits)

pub made_is_name : (l k : ℕ) → Letter l → k < 2 ^ 64 → is_name (l ∷ decimal k) ≡ true
made_is_name l k letter small =
    let b = begun k small in
    all_of (is_word (l ∷ decimal k)) (nat_le (length (l ∷ decimal k)) MOST_NAME_BYTES) (is_structure_word (l ∷ decimal k)) (is_refused_word (l ∷ decimal k))
    (made_word l k letter small)
    (le-leb (length (l ∷ decimal k)) MOST_NAME_BYTES (omega (arith, length-decimal-le 20 k (omega arith) (omega (arith, small)) small)))
    (ap (λ (ds : List ℕ). is_structure_word (l ∷ ds)) b.is ∙ no_structure_word l b.digit b.rest b.passes)
    (ap (λ (ds : List ℕ). is_refused_word (l ∷ ds)) b.is ∙ no_refused_word l b.digit b.rest b.passes)

-- the names with a letter
abbrev named : ℕ → ℕ → List (List ℕ)
named l n = made_names (l ∷ []) n

pub length_made : (l n : ℕ) → length (named l n) ≡ n
length_made l n = length-map-range_with_len (made_name (l ∷ [])) 0 n

-- one name more
pub more_names : (letter : List ℕ) (k : ℕ) → made_names letter (k + 1) ≡ made_names letter k ++ made_name letter k ∷ []
more_names letter k = map-range_with_len_more (made_name letter) 0 k k (omega arith)

pub made_at : (l n k : ℕ) (x : List ℕ) → slice_get (named l n) k ≡ Some x → (k < n) × (x ≡ l ∷ decimal k)
made_at l n k x e =
    let within : k < n = omega (arith, slice_get_within (named l n) k x e, length_made l n) in
    (within, sym (get_or_from_slice_get (named l n) k x [] e) ∙ get_or-map-range_with_len (made_name (l ∷ [])) 0 n k k [] within (omega arith))

-- the number of a made name
made_one : (l j k : ℕ) → j < 2 ^ 64 → k < 2 ^ 64 → l ∷ decimal j ≡ l ∷ decimal k → j ≡ k
made_one l j k small little e = decimal_injective j k small little (ap (λ (x : List ℕ). rest x) e)
  where
    rest : List ℕ → List ℕ
    rest [] = []
    rest (a ∷ x) = x

pub made_distinct : (l n : ℕ) → n ≤ 2 ^ 64 → AreDistinct (named l n)
made_distinct l n small i j x at_i at_j =
    let a = made_at l n i x at_i in
    let b = made_at l n j x at_j in
    made_one l i j (omega (arith, a.0, small)) (omega (arith, b.0, small)) (sym a.1 ∙ b.1)

-- ports

din_at : (k n i : ℕ) (x : List ℕ) → slice_get (din_names k n) i ≡ Some x → x ≡ numbered (codes "din") (k + i)
din_at k zero i x e = cc
din_at k (suc n) zero x e = sym (same_Some (numbered (codes "din") k) x e) ∙ ap (numbered (codes "din")) (let h : k ≡ k + 0 = omega arith in h)
din_at k (suc n) (suc i) x e = din_at (suc k) n i x e ∙ ap (numbered (codes "din")) (let h : suc k + i ≡ k + suc i = omega arith in h)

abbrev OutAt : ℕ → ℕ → List ℕ → Type 0
OutAt k i x = ((j : ℕ) × (i ≡ 2 * j) × (x ≡ numbered (codes "valid") (k + j))) ⊎ ((j : ℕ) × (i ≡ 2 * j + 1) × (x ≡ numbered (codes "dout") (k + j)))

out_at : (k n i : ℕ) (x : List ℕ) → slice_get (output_names k n) i ≡ Some x → OutAt k i x
out_at k zero i x e = cc
out_at k (suc n) zero x e = inl (0, omega arith, sym (same_Some (numbered (codes "valid") k) x e) ∙ ap (numbered (codes "valid")) (let h : k ≡ k + 0 = omega arith in h))
out_at k (suc n) (suc zero) x e = inr (0, omega arith, sym (same_Some (numbered (codes "dout") k) x e) ∙ ap (numbered (codes "dout")) (let h : k ≡ k + 0 = omega arith in h))
out_at k (suc n) (suc (suc i)) x e =
    elim (out_at (suc k) n i x e) as (λ _. OutAt k (suc (suc i)) x) [
      | inl h ↦ inl (suc h.0, omega (arith, h.1), h.2 ∙ ap (numbered (codes "valid")) (let g : suc k + h.0 ≡ k + suc h.0 = omega arith in g))
      | inr h ↦ inr (suc h.0, omega (arith, h.1), h.2 ∙ ap (numbered (codes "dout")) (let g : suc k + h.0 ≡ k + suc h.0 = omega arith in g))
    ]

second_din : (k : ℕ) → second (numbered (codes "din") k) ≡ 105
second_din zero = refl
second_din (suc k) = refl

second_valid : (k : ℕ) → second (numbered (codes "valid") k) ≡ 97
second_valid zero = refl
second_valid (suc k) = refl

second_dout : (k : ℕ) → second (numbered (codes "dout") k) ≡ 111
second_dout zero = refl
second_dout (suc k) = refl

digit_din : (k : ℕ) → get_or (numbered (codes "din") k) 3 48 ≡ 48 + k
digit_din zero = refl
digit_din (suc k) = let e : 49 + k ≡ 48 + suc k = omega arith in e

digit_valid : (k : ℕ) → get_or (numbered (codes "valid") k) 5 48 ≡ 48 + k
digit_valid zero = refl
digit_valid (suc k) = let e : 49 + k ≡ 48 + suc k = omega arith in e

digit_dout : (k : ℕ) → get_or (numbered (codes "dout") k) 4 48 ≡ 48 + k
digit_dout zero = refl
digit_dout (suc k) = let e : 49 + k ≡ 48 + suc k = omega arith in e

apart_numbers : (a b : ℕ) → a < b → a ≡ b → ⊥
apart_numbers a b l e = omega (arith, l, e)

din_distinct : (n : ℕ) → AreDistinct (din_names 0 n)
din_distinct n i j x at_i at_j =
    let a : 48 + (0 + i) ≡ 48 + (0 + j) =
    sym (digit_din (0 + i)) ∙ ap (λ (y : List ℕ). get_or y 3 48) (sym (din_at 0 n i x at_i) ∙ din_at 0 n j x at_j) ∙ digit_din (0 + j) in
    omega (arith, a)

out_distinct : (n : ℕ) → AreDistinct (output_names 0 n)
out_distinct n i j x at_i at_j =
    elim (out_at 0 n i x at_i) as (λ _. i ≡ j) [
      | inl a ↦ elim (out_at 0 n j x at_j) as (λ _. i ≡ j) [
        | inl b ↦
            let e : 48 + (0 + a.0) ≡ 48 + (0 + b.0) = sym (digit_valid (0 + a.0)) ∙ ap (λ (y : List ℕ). get_or y 5 48) (sym a.2 ∙ b.2) ∙ digit_valid (0 + b.0) in
            omega (arith, e, a.1, b.1)
        | inr b ↦ absurd (apart_numbers 97 111 (omega arith) (sym (second_valid (0 + a.0)) ∙ ap second (sym a.2 ∙ b.2) ∙ second_dout (0 + b.0)))
      ]
      | inr a ↦ elim (out_at 0 n j x at_j) as (λ _. i ≡ j) [
        | inl b ↦ absurd (apart_numbers 97 111 (omega arith) (sym (second_valid (0 + b.0)) ∙ ap second (sym b.2 ∙ a.2) ∙ second_dout (0 + a.0)))
        | inr b ↦
            let e : 48 + (0 + a.0) ≡ 48 + (0 + b.0) = sym (digit_dout (0 + a.0)) ∙ ap (λ (y : List ℕ). get_or y 4 48) (sym a.2 ∙ b.2) ∙ digit_dout (0 + b.0) in
            omega (arith, e, a.1, b.1)
      ]
    ]

distinct_cons : (y : List ℕ) (ys : List (List ℕ)) → AreDistinct ys → ((j : ℕ) (x : List ℕ) → slice_get ys j ≡ Some x → x ≢ y) → AreDistinct (y ∷ ys)
distinct_cons y ys d free zero zero x e f = refl
distinct_cons y ys d free zero (suc j) x e f = absurd (free j x f (sym (same_Some y x e)))
distinct_cons y ys d free (suc i) zero x e f = absurd (free i x e (sym (same_Some y x f)))
distinct_cons y ys d free (suc i) (suc j) x e f = ap suc (d i j x e f)

distinct_append : (xs ys : List (List ℕ)) → AreDistinct xs → AreDistinct ys → ((i j : ℕ) (x : List ℕ) → slice_get xs i ≡ Some x → slice_get ys j ≡ Some x → ⊥) → AreDistinct (xs ++ ys)
distinct_append xs ys d e apart i j x at_i at_j =
    elim (append_at xs ys i x at_i) as (λ _. i ≡ j) [
      | inl a ↦ elim (append_at xs ys j x at_j) as (λ _. i ≡ j) [ inl b ↦ d i j x a b | inr b ↦ absurd (apart i b.0 x a b.2) ]
      | inr a ↦ elim (append_at xs ys j x at_j) as (λ _. i ≡ j) [
        | inl b ↦ absurd (apart j a.0 x b a.2)
        | inr b ↦ (let h = e a.0 b.0 x a.2 b.2 in omega (arith, h, a.1, b.1))
      ]
    ]

-- the names of inputs after rst
abbrev behind : Bool → ℕ → List (List ℕ)
behind enable n = if enable then codes "en" ∷ din_names 0 n else din_names 0 n

behind_second : (enable : Bool) (n i : ℕ) (x : List ℕ) → slice_get (behind enable n) i ≡ Some x → (second x ≡ 110) ⊎ (second x ≡ 105)
behind_second false n i x e = inr (ap second (din_at 0 n i x e) ∙ second_din (0 + i))
behind_second true n zero x e = inl (ap second (sym (same_Some (codes "en") x e)))
behind_second true n (suc i) x e = inr (ap second (din_at 0 n i x e) ∙ second_din (0 + i))

behind_distinct : (enable : Bool) (n : ℕ) → AreDistinct (behind enable n)
behind_distinct false n = din_distinct n
behind_distinct true n = distinct_cons (codes "en") (din_names 0 n) (din_distinct n) (λ j x at e. apart_numbers 105 110 (omega arith) (sym (second_din (0 + j)) ∙ sym (ap second (din_at 0 n j x at)) ∙ ap second e))

inputs_second : (enable : Bool) (n i : ℕ) (x : List ℕ) → slice_get (codes "clk" ∷ (codes "rst" ∷ behind enable n)) i ≡ Some x → (97 < second x) × (second x ≢ 111)
inputs_second enable n zero x e = let h : 108 ≡ second x = ap second (same_Some (codes "clk") x e) in (omega (arith, h), λ g. omega (arith, h, g))
inputs_second enable n (suc zero) x e = let h : 115 ≡ second x = ap second (same_Some (codes "rst") x e) in (omega (arith, h), λ g. omega (arith, h, g))
inputs_second enable n (suc (suc i)) x e =
    elim (behind_second enable n i x e) as (λ _. (97 < second x) × (second x ≢ 111)) [
      | inl h ↦ (omega (arith, h), λ g. omega (arith, h, g))
      | inr h ↦ (omega (arith, h), λ g. omega (arith, h, g))
    ]

inputs_distinct : (enable : Bool) (n : ℕ) → AreDistinct (codes "clk" ∷ (codes "rst" ∷ behind enable n))
inputs_distinct enable n =
    distinct_cons (codes "clk") (codes "rst" ∷ behind enable n)
    (distinct_cons (codes "rst") (behind enable n) (behind_distinct enable n) (λ j x at e. not_rst x (behind_second enable n j x at) (ap second e)))
    not_clk
  where
    not_rst : (x : List ℕ) → (second x ≡ 110) ⊎ (second x ≡ 105) → second x ≡ 115 → ⊥
    not_rst x (inl h) e = omega (arith, h, e)
    not_rst x (inr h) e = omega (arith, h, e)

    not_clk_by : (x : List ℕ) → (second x ≡ 110) ⊎ (second x ≡ 105) → second x ≡ 108 → ⊥
    not_clk_by x (inl h) e = omega (arith, h, e)
    not_clk_by x (inr h) e = omega (arith, h, e)

    not_clk : (j : ℕ) (x : List ℕ) → slice_get (codes "rst" ∷ behind enable n) j ≡ Some x → x ≢ codes "clk"
    not_clk zero x at e = (let h : 115 ≡ 108 = ap second (same_Some (codes "rst") x at) ∙ ap second e in omega (arith, h))
    not_clk (suc j) x at e = not_clk_by x (behind_second enable n j x at) (ap second e)

out_second : (n i : ℕ) (x : List ℕ) → slice_get (output_names 0 n) i ≡ Some x → (second x ≡ 97) ⊎ (second x ≡ 111)
out_second n i x e =
    elim (out_at 0 n i x e) as (λ _. (second x ≡ 97) ⊎ (second x ≡ 111)) [
      | inl h ↦ inl (ap second h.2 ∙ second_valid (0 + h.0))
      | inr h ↦ inr (ap second h.2 ∙ second_dout (0 + h.0))
    ]

ports_distinct : (m : Netlist) → AreDistinct (port_names m)
ports_distinct m =
    distinct_append (input_names m) (output_names 0 (length m.outputs / 2)) (inputs_distinct m.enable (length m.inputs - first_din m)) (out_distinct (length m.outputs / 2)) (λ i j x at_i at_j.
    by x (inputs_second m.enable (length m.inputs - first_din m) i x at_i) (out_second (length m.outputs / 2) j x at_j))
  where
    by : (x : List ℕ) → (97 < second x) × (second x ≢ 111) → (second x ≡ 97) ⊎ (second x ≡ 111) → ⊥
    by x a (inl h) = omega (arith, a.0, h)
    by x a (inr h) = a.1 h

ports_second : (m : Netlist) (i : ℕ) (x : List ℕ) → slice_get (port_names m) i ≡ Some x → 57 < second x
ports_second m i x at =
    elim (append_at (input_names m) (output_names 0 (length m.outputs / 2)) i x at) as (λ _. 57 < second x) [
      | inl h ↦ omega (arith, (inputs_second m.enable (length m.inputs - first_din m) i x h).0)
      | inr h ↦ elim (out_second (length m.outputs / 2) h.0 x h.2) as (λ _. 57 < second x) [ inl e ↦ omega (arith, e) | inr e ↦ omega (arith, e) ]
    ]

abbrev first : List ℕ → ℕ
first x = get_or x 0 0

made_first : (l n k : ℕ) (x : List ℕ) → slice_get (named l n) k ≡ Some x → first x ≡ l
made_first l n k x at = ap first (made_at l n k x at).1

made_second : (l n k : ℕ) (x : List ℕ) → n ≤ 2 ^ 64 → slice_get (named l n) k ≡ Some x → second x ≤ 57
made_second l n k x small at =
    let h = made_at l n k x at in
    let b = begun k (omega (arith, h.0, small)) in
    let same : second x ≡ b.digit = ap second h.1 ∙ ap (λ (ds : List ℕ). second (l ∷ ds)) b.is in
    low b.digit (second x) b.passes same
  where
    low : (d s : ℕ) → is_digit d ≡ true → s ≡ d → s ≤ 57
    low d s passes same = grind (arith, nat_tests)

-- a port's name is not made, and names made with two letters differ
port_apart : (m : Netlist) (l n i j : ℕ) (x : List ℕ) → n ≤ 2 ^ 64 → slice_get (port_names m) i ≡ Some x → slice_get (named l n) j ≡ Some x → ⊥
port_apart m l n i j x small at_i at_j = omega (arith, ports_second m i x at_i, made_second l n j x small at_j)

letters_apart : (l n k o i j : ℕ) (x : List ℕ) → (l < k) ⊎ (k < l) → slice_get (named l n) i ≡ Some x → slice_get (named k o) j ≡ Some x → ⊥
letters_apart l n k o i j x (inl less) at_i at_j = omega (arith, less, made_first l n i x at_i, made_first k o j x at_j)
letters_apart l n k o i j x (inr less) at_i at_j = omega (arith, less, made_first l n i x at_i, made_first k o j x at_j)

made_are_names : (l n : ℕ) → Letter l → n ≤ 2 ^ 64 → (k : ℕ) (x : List ℕ) → slice_get (named l n) k ≡ Some x → is_name x ≡ true
made_are_names l n letter small k x at = let h = made_at l n k x at in ap is_name h.1 ∙ made_is_name l k letter (omega (arith, h.0, small))

module _ (b : Netlist) (sources : List Net) (small : AreCounts b) where
  abbrev m : Netlist
  m = with_outputs b sources

  abbrev wires : List (List ℕ)
  wires = named 110 (length b.wires)

  abbrev regs : List (List ℕ)
  regs = named 114 (length b.regs)

  abbrev arrays : List (List ℕ)
  arrays = named 109 (length b.arrays)

  with_wires : AreDistinct (port_names m ++ wires)
  with_wires = distinct_append (port_names m) wires (ports_distinct m) (made_distinct 110 (length b.wires) small.wires) (λ i j x. port_apart m 110 (length b.wires) i j x small.wires)

  with_regs : AreDistinct ((port_names m ++ wires) ++ regs)
  with_regs = distinct_append (port_names m ++ wires) regs with_wires (made_distinct 114 (length b.regs) small.regs) apart
    where
      apart : (i j : ℕ) (x : List ℕ) → slice_get (port_names m ++ wires) i ≡ Some x → slice_get regs j ≡ Some x → ⊥
      apart i j x at_i at_j =
          elim (append_at (port_names m) wires i x at_i) as (λ _. ⊥) [
            | inl h ↦ port_apart m 114 (length b.regs) i j x small.regs h at_j
            | inr h ↦ letters_apart 110 (length b.wires) 114 (length b.regs) h.0 j x (inl (omega arith)) h.2 at_j
          ]

  with_arrays : AreDistinct (((port_names m ++ wires) ++ regs) ++ arrays)
  with_arrays = distinct_append ((port_names m ++ wires) ++ regs) arrays with_regs (made_distinct 109 (length b.arrays) small.arrays) apart
    where
      apart : (i j : ℕ) (x : List ℕ) → slice_get ((port_names m ++ wires) ++ regs) i ≡ Some x → slice_get arrays j ≡ Some x → ⊥
      apart i j x at_i at_j =
          elim (append_at (port_names m ++ wires) regs i x at_i) as (λ _. ⊥) [
            | inl h ↦ elim (append_at (port_names m) wires i x h) as (λ _. ⊥) [
              | inl g ↦ port_apart m 109 (length b.arrays) i j x small.arrays g at_j
              | inr g ↦ letters_apart 110 (length b.wires) 109 (length b.arrays) g.0 j x (inr (omega arith)) g.2 at_j
            ]
            | inr h ↦ letters_apart 114 (length b.regs) 109 (length b.arrays) h.0 j x (inr (omega arith)) h.2 at_j
          ]

  all_names : (k : ℕ) (x : List ℕ) → slice_get ((wires ++ regs) ++ arrays) k ≡ Some x → is_name x ≡ true
  all_names k x at =
      elim (append_at (wires ++ regs) arrays k x at) as (λ _. is_name x ≡ true) [
        | inl h ↦ elim (append_at wires regs k x h) as (λ _. is_name x ≡ true) [
          | inl g ↦ made_are_names 110 (length b.wires) of_wires small.wires k x g
          | inr g ↦ made_are_names 114 (length b.regs) of_regs small.regs g.0 x g.2
        ]
        | inr h ↦ made_are_names 109 (length b.arrays) of_arrays small.arrays h.0 x h.2
      ]

  pub has_names : HasNames m (names_for b)
  has_names = record {
    wires = length_made 110 (length b.wires);
    regs = length_made 114 (length b.regs);
    arrays = length_made 109 (length b.arrays);
    distinct = with_arrays;
    module_name = refl;
    are_names = All-from_at (λ x. is_name x ≡ true) ((wires ++ regs) ++ arrays) all_names;
  }
