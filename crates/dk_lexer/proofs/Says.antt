-- The tokens of a text say what is in it.
use Rattle.std.proofs.Common.{◌≡◌, ◌≢◌, ◌≤◌, ◌+◌, ◌-◌, List, [], ◌∷◌, ℕ, suc, length, take, drop, arith, refl, sym, ap, ◌∙◌, length-drop, length-append, Ok, false, zero}
use Rattle.std.specs.List.{AllByRecursion, slice_range}
use Rattle.std.proofs.lemmas.List.Elements.{All-from_recursion}
use Rattle.std.proofs.lemmas.List.{drop-drop, take_at, drop_at, take_rest, drop_all}
use Rattle.dk_lexer.specs.declared.token.Token.{Token}
use Rattle.dk_lexer.specs.declared.token.TokenKind.{TokenKind}
use Rattle.dk_lexer.specs.declared.token.TokenKind.TheVariants.{Word, Number, Symbol as Sym, End}
use Rattle.dk_base.specs.Ascii.{is_white}
use Rattle.dk_lexer.specs.Lexis.{Gap, Solid, Lexes, finish, next, lexeme, span_at}
use Rattle.dk_lexer.specs.Faithful.{Stands, Blank, Follow, with_line_end, IsEnded, IsFaithful}
use Rattle.dk_lexer.proofs.Stretches.{Front, front_of, last_gap}
use Rattle.dk_lexer.proofs.Written.{found}

-- what the tokens from one byte on say
pub record Says (source : List ℕ) (from : ℕ) (tokens : List Token) : Type 0 where
  pub stand : AllByRecursion (Stands source) tokens
  pub follow : Follow source from tokens
  pub ended : IsEnded tokens

take_none : (n : ℕ) → ◌≡◌ {A = List ℕ} (take n []) []
take_none zero = refl
take_none (suc n) = refl

take_left : (source : List ℕ) (from : ℕ) → slice_range source from (length source) ≡ drop from source
take_left source from = take_rest source from

-- what is left of the source at one byte
pub record Left (source text : List ℕ) (from : ℕ) : Type 0 where
  pub is : text ≡ drop from source
  pub within : from ≤ length source

-- the stretch before what is left, and its place
pub record Before (source : List ℕ) (from : ℕ) (bytes : List ℕ) : Type 0 where
  pub start : length source - length bytes ≤ length source
  pub after : from ≤ length source - length bytes
  pub is : drop (length source - length bytes) source ≡ bytes
  pub fits : length bytes ≤ length source
  pub blank : Blank (slice_range source from (length source - length bytes))

before : (source text bytes : List ℕ) (from : ℕ) → Left source text from → Front text bytes → Before source from bytes
before source text bytes from l f =
    let text_length : length text ≡ length source - from = ap (λ x. length x) l.is ∙ length-drop from source in
    let parts : length text ≡ length f.front + length bytes = ap (λ x. length x) f.whole ∙ length-append f.front bytes in
    let within = l.within in
    let start : length source - length bytes ≡ from + length f.front = omega (arith, text_length, parts, within) in
    let width : length source - length bytes - from ≡ length f.front = omega (arith, text_length, parts, within) in
    let front : slice_range source from (length source - length bytes) ≡ f.front = rw width (rw (sym l.is ∙ f.whole) (take_at f.front bytes (length f.front) refl)) in
    let left : drop (from + length f.front) source ≡ bytes = sym (drop-drop (length f.front) from source) ∙ rw (sym l.is ∙ f.whole) (drop_at f.front bytes (length f.front) refl) in
    record {
      start = omega arith;
      after = omega (arith, start);
      is = rw start left;
      fits = omega (arith, text_length, parts);
      blank = rw front f.blank;
    }

-- the first byte of what is solid is not white
first_solid : (a : ℕ) (bs : List ℕ) → Solid (a ∷ bs) → is_white a ≡ false
first_solid a [] s = s
first_solid a (b ∷ bs) s = s.0

-- only the last token has the kind of the end
blank_at : (kind : TokenKind) (bytes : List ℕ) → kind ≢ End → Blank bytes → Blank (with_line_end kind bytes)
blank_at (Word text) bytes n b = b
blank_at (Number value) bytes n b = b
blank_at (Sym symbol) bytes n b = b
blank_at End bytes n b = absurd (n refl)

ended_behind : (token : Token) (tokens : List Token) → token.kind ≢ End → IsEnded tokens → IsEnded (token ∷ tokens)
ended_behind token [] n e = absurd e
ended_behind token (u ∷ tokens) n e = (n, e)

says_end : (source text : List ℕ) (from : ℕ) → Left source text from → Gap text [] → Says source from (record { span = record { start = length source; stop = length source }; kind = End } ∷ [])
says_end source text from l g =
    let nothing : slice_range source (length source) (length source) ≡ [] = rw (drop_all (length source) source (omega arith)) (take_none (length source - length source)) in
    let all : slice_range source from (length source) ≡ text = take_left source from ∙ sym l.is in
    record {
      stand = (record { ordered = omega arith; within = omega arith; written = nothing; last = λ e. refl }, tt);
      follow = (l.within, rw all (last_gap g refl), tt);
      ended = refl;
    }

says_next : (source text bs : List ℕ) (a n from : ℕ) (kind : TokenKind) (tokens : List Token) → Left source text from → Gap text (a ∷ bs) → Solid (a ∷ bs) → lexeme a bs ≡ Ok (kind, n)
    → ((at : ℕ) → Left source (drop n (a ∷ bs)) at → Says source at tokens)
    → Says source from (record { span = span_at (length source) (a ∷ bs) n; kind = kind } ∷ tokens)
says_next source text bs a n from kind tokens l g s k more =
    let b = before source text (a ∷ bs) from l (front_of g a bs refl (first_solid a bs s)) in
    let f = found a bs (kind, n) k in
    let start = length source - length (a ∷ bs) in
    let width : start + n - start ≡ n = omega arith in
    let bytes : slice_range source start (start + n) ≡ take n (a ∷ bs) = rw (width, b.is) refl in
    let stop : start + n ≤ length source = omega (arith, f.within, b.fits) in
    let rest : drop n (a ∷ bs) ≡ drop (start + n) source = ap (λ x. drop n x) (sym b.is) ∙ drop-drop n start source in
    let then = more (start + n) (record { is = rest; within = stop }) in
    record {
      stand = (record { ordered = omega arith; within = stop; written = rw bytes f.writes; last = λ e. absurd (f.inner e) }, then.stand);
      follow = (b.after, blank_at kind _ f.inner b.blank, then.follow);
      ended = ended_behind (record { span = span_at (length source) (a ∷ bs) n; kind = kind }) tokens f.inner then.ended;
    }

says : {total : ℕ} {text : List ℕ} {tokens : List Token} → Lexes total text tokens → (source : List ℕ) (from : ℕ) → total ≡ length source → Left source text from → Says source from tokens
says (finish {text = x} g) source from t l = rw t (says_end source x from l g)
says (next {text = x} {bs = bs} {a = a} {n = n} {kind = kind} {tokens = more} g s k r) source from t l =
    rw t (says_next source x bs a n from kind more l g s k (λ at m. says r source at t m))

pub faithful_tokens : (source : List ℕ) (tokens : List Token) → Lexes (length source) source tokens → IsFaithful source tokens
faithful_tokens source tokens h =
    let s = says h source 0 refl (record { is = refl; within = omega arith }) in
    record { stand = All-from_recursion (Stands source) tokens s.stand; follow = s.follow; ended = s.ended }
