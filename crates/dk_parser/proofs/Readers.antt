-- Phrases that are read, or where the tokens are stuck: what needs no expression.
use Rattle.std.proofs.Common.{◌≡◌, ◌≢◌, ◌⊎◌, inl, inr, ℕ, ◌+◌, ◌<◌, ◌≤◌, [], ◌∷◌, ◌++◌, length, length-append, Option, Some, None, Bool, true, false, refl, ap, arith}
use Rattle.dk_lexer.specs.declared.token.Token.{Token}
use Rattle.dk_lexer.specs.declared.token.Symbol.TheVariants.{Open, Close, Comma, Colon, Equal}
use Rattle.dk_grammar.specs.Reading.{Phrases, One, IsClass, Then, Done, Clear, Stuck}
use Rattle.dk_grammar.proofs.Clears.{clear_one, clear_then, clear_done}
use Rattle.dk_grammar.proofs.Stucks.{stuck_one, then_first, then_second}
use Rattle.dk_parser.specs.declared.single.Turn.TheVariants as turn
use Rattle.dk_parser.specs.declared.single.Turn.{Turn}
use Rattle.source_words.specs.declared.word.Keyword.TheVariants as word
use Rattle.dk_parser.specs.declared.terminal.Terminal.{Terminal}
use Rattle.dk_parser.specs.declared.terminal.Terminal.TheVariants.{Keyword, Symbol as Sym}
use Rattle.dk_parser.specs.declared.terminal.Mark.{Mark}
use Rattle.dk_parser.specs.declared.terminal.Mark.TheVariants as mark
use Rattle.dk_parser.specs.declared.tree.Name.{Name}
use Rattle.dk_parser.specs.Marks.{mark_terminal}
use Rattle.dk_parser.specs.Terminals.{terminal}
use Rattle.dk_parser.specs.Words.{Gives, Sign, AName, ALiteral, AType, sign_of}
use Rattle.dk_parser.specs.Reads.{Turns, AfterTurn, Moved, Point, Unclamped}
use Rattle.dk_parser.specs.Grammar.{Tokens}
use Rattle.dk_parser.specs.Front.{IsFront}
use Rattle.dk_parser.specs.Programs.{AnInput, declares, AfterDeclares, Declared, Header}
use Rattle.dk_parser.proofs.Tokens.{clear_mark, no_mark, other_mark, turn_class, other_turn, name_class, literal_class, type_class}
use Rattle.dk_parser.proofs.Keeping.{declares_class}

-- a phrase at the front of the tokens, or where they are stuck
abbrev pub Read : {V : Type 0} → Phrases Token V → Tokens → Type 0
Read {V = V} P ts = ((v : V) × (rest : Tokens) × P ts v rest) ⊎ ((at : Tokens) × Stuck P ts at)

-- the phrase is read in each list of fewer than n tokens
pub record Reader {V : Type 0} (n : ℕ) (P : Phrases Token V) : Type 0 where
  pub clear : Clear P
  pub reads : (ts : Tokens) → length ts < n → Read P ts

pub no_longer : {V : Type 0} {P : Phrases Token V} {ts rest : Tokens} {v : V} → Clear P → P ts v rest → length rest ≤ length ts
no_longer {rest = rest} c p =
    let o = c.own p in
    let long : length (o.0 ++ rest) ≡ length o.0 + length rest = length-append o.0 rest in
    let whole = ap (λ (x : Tokens). length x) o.1 in
    omega (arith, long, whole)

then_read : {U V : Type 0} {P : Phrases Token U} {Q : U → Phrases Token V} (ts : Tokens) → Clear P → ((u : U) → Clear (Q u)) → Read P ts → ((u : U) (mid : Tokens) → P ts u mid → Read (Q u) mid) → Read (Then P Q) ts
then_read ts c d (inr bad) k = inr (bad.0, then_first c d bad.1)
then_read {P = P} {Q = Q} ts c d (inl good) k = by (k good.0 good.1 good.2)
  where
    by : Read (Q good.0) good.1 → Read (Then P Q) ts
    by (inl next) = inl (next.0, next.1, (good.0, good.1, good.2, next.2))
    by (inr bad) = inr (bad.0, then_second c good.2 bad.1)

pub then_reader : {U V : Type 0} {n : ℕ} {P : Phrases Token U} {Q : U → Phrases Token V} → Reader n P → ((u : U) → Reader n (Q u)) → Reader n (Then P Q)
then_reader a b = record {
  clear = clear_then a.clear (λ u. (b u).clear);
  reads = λ ts lt. then_read ts a.clear (λ u. (b u).clear) (a.reads ts lt) (λ u mid p. let less = no_longer a.clear p in (b u).reads mid (omega (arith, less, lt)));
}

pub done_reader : {V : Type 0} {n : ℕ} (v : V) → Reader n (Done {T = Token} v)
done_reader v = record { clear = clear_done v; reads = λ ts lt. inl (v, ts, (refl, refl)) }

pub front : (t : Token) (ts : Tokens) → IsFront (t ∷ ts) t (terminal t) ts
front t ts = record { whole = refl; kind_is = refl; fewer = omega arith }

-- Single tokens.
abbrev pub Decides : Mark → Type 0
Decides m = (k : Terminal) → (k ≡ mark_terminal m) ⊎ (k ≢ mark_terminal m)

mark_read : (m : Mark) → Decides m → (ts : Tokens) → Read (Sign m) ts
mark_read m d [] = inr ([], no_mark m [] refl)
mark_read m d (t ∷ ts) = by (d (terminal t))
  where
    by : (terminal t ≡ mark_terminal m) ⊎ (terminal t ≢ mark_terminal m) → Read (Sign m) (t ∷ ts)
    by (inl is) = inl (t.span, ts, (t, refl, (is, refl)))
    by (inr other) = inr (t ∷ ts, other_mark m (t ∷ ts) ts t (terminal t) (front t ts) other)

pub mark_reader : {n : ℕ} (m : Mark) → Decides m → Reader n (Sign m)
mark_reader m d = record { clear = clear_mark m; reads = λ ts lt. mark_read m d ts }

class_read : {V : Type 0} (f : Token → Option V) → IsClass (Gives f) → (ts : Tokens) → Read (One (Gives f)) ts
class_read f k [] = inr ([], stuck_one {R = Gives f} [] k tt)
class_read f k (t ∷ ts) = by (f t) refl
  where
    by : (o : Option _) → f t ≡ o → Read (One (Gives f)) (t ∷ ts)
    by (Some v) e = inl (v, ts, (t, refl, e))
    by None e = inr (t ∷ ts, stuck_one {R = Gives f} (t ∷ ts) k (λ v g. cc (e, g)))

pub class_reader : {V : Type 0} {n : ℕ} (f : Token → Option V) → IsClass (Gives f) → Reader n (One (Gives f))
class_reader f k = record { clear = clear_one k; reads = λ ts lt. class_read f k ts }

pub name_reader : {n : ℕ} → Reader n AName
name_reader = class_reader _ name_class

pub literal_reader : {n : ℕ} → Reader n ALiteral
literal_reader = class_reader _ literal_class

pub type_reader : {n : ℕ} → Reader n AType
type_reader = class_reader _ type_class

-- Which mark a token is.
pub is_open : Decides (mark.Sign Open)
is_open (Sym Open) = inl refl
is_open _ = inr (λ e. cc)

pub is_close : Decides (mark.Sign Close)
is_close (Sym Close) = inl refl
is_close _ = inr (λ e. cc)

pub is_comma : Decides (mark.Sign Comma)
is_comma (Sym Comma) = inl refl
is_comma _ = inr (λ e. cc)

is_colon : Decides (mark.Sign Colon)
is_colon (Sym Colon) = inl refl
is_colon _ = inr (λ e. cc)

is_equal : Decides (mark.Sign Equal)
is_equal (Sym Equal) = inl refl
is_equal _ = inr (λ e. cc)

pub is_size : Decides (mark.Reserved word.Size)
is_size (Keyword word.Size) = inl refl
is_size _ = inr (λ e. cc)

pub is_input : Decides (mark.Reserved word.Input)
is_input (Keyword word.Input) = inl refl
is_input _ = inr (λ e. cc)

pub is_let : Decides (mark.Reserved word.Let)
is_let (Keyword word.Let) = inl refl
is_let _ = inr (λ e. cc)

is_im : Decides (mark.Reserved word.Im)
is_im (Keyword word.Im) = inl refl
is_im _ = inr (λ e. cc)

pub is_end_word : Decides (mark.Reserved word.End)
is_end_word (Keyword word.End) = inl refl
is_end_word _ = inr (λ e. cc)

is_x : Decides (mark.Reserved word.X)
is_x (Keyword word.X) = inl refl
is_x _ = inr (λ e. cc)

is_y : Decides (mark.Reserved word.Y)
is_y (Keyword word.Y) = inl refl
is_y _ = inr (λ e. cc)

pub is_edge : Decides (mark.Reserved word.Edge)
is_edge (Keyword word.Edge) = inl refl
is_edge _ = inr (λ e. cc)

pub is_clamp : Decides (mark.Reserved word.Clamp)
is_clamp (Keyword word.Clamp) = inl refl
is_clamp _ = inr (λ e. cc)

-- Points of reads.
turn_read : (m : Mark) → Decides m → sign_of (mark_terminal m) ≡ None → (ts : Tokens) → Read (One (Turns m)) ts
turn_read m d n [] = inr ([], stuck_one {R = Turns m} [] (turn_class m n) tt)
turn_read m d n (t ∷ ts) = by (d (terminal t))
  where
    sign : (o : Option Bool) → sign_of (terminal t) ≡ o → terminal t ≢ mark_terminal m → Read (One (Turns m)) (t ∷ ts)
    sign (Some b) e other = inl (turn.Signed b, ts, (t, refl, e))
    sign None e other = inr (t ∷ ts, other_turn m (t ∷ ts) ts t (terminal t) n (front t ts) other e)

    by : (terminal t ≡ mark_terminal m) ⊎ (terminal t ≢ mark_terminal m) → Read (One (Turns m)) (t ∷ ts)
    by (inl is) = inl (turn.Mark t.span, ts, (t, refl, (is, refl)))
    by (inr other) = sign (sign_of (terminal t)) refl other

after_turn : {n : ℕ} (m : Mark) → Decides m → (t : Turn) → Reader n (AfterTurn m t)
after_turn m d (turn.Mark s) = done_reader _
after_turn m d (turn.Signed b) = then_reader literal_reader (λ k. then_reader (mark_reader m d) (λ s. done_reader _))

moved : {n : ℕ} (m : Mark) → Decides m → sign_of (mark_terminal m) ≡ None → Reader n (Moved m)
moved m d e = then_reader (record { clear = clear_one (turn_class m e); reads = λ ts lt. turn_read m d e ts }) (λ t. after_turn m d t)

point : {n : ℕ} (name : Name) → Reader n (Point name)
point name =
    then_reader (mark_reader (mark.Sign Open) is_open) (λ a. then_reader (mark_reader (mark.Reserved word.X) is_x) (λ b. then_reader (moved (mark.Sign Comma) is_comma refl) (λ x.
    then_reader (mark_reader (mark.Reserved word.Y) is_y) (λ c. then_reader (moved (mark.Sign Close) is_close refl) (λ y. done_reader _)))))

pub unclamped : {n : ℕ} → Reader n Unclamped
unclamped = then_reader name_reader (λ name. point name)

-- Parts of items.
pub an_input : {n : ℕ} → Reader n AnInput
an_input = then_reader name_reader (λ n. then_reader (mark_reader (mark.Sign Colon) is_colon) (λ a. then_reader type_reader (λ t. done_reader _)))

after_declares : {n : ℕ} (b : Bool) → Reader n (AfterDeclares b)
after_declares true = then_reader type_reader (λ t. then_reader (mark_reader (mark.Sign Equal) is_equal) (λ a. done_reader _))
after_declares false = done_reader _

pub declared : {n : ℕ} → Reader n Declared
declared = then_reader (class_reader (λ t. declares (terminal t)) declares_class) (λ b. after_declares b)

pub header : {n : ℕ} → Reader n Header
header =
    then_reader (mark_reader (mark.Reserved word.Im) is_im) (λ a. then_reader (mark_reader (mark.Sign Open) is_open) (λ b. then_reader (mark_reader (mark.Reserved word.X) is_x) (λ c.
    then_reader (mark_reader (mark.Sign Comma) is_comma) (λ d. then_reader (mark_reader (mark.Reserved word.Y) is_y) (λ e. mark_reader (mark.Sign Close) is_close)))))
