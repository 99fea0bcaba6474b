-- Tokens of each kind, and where a token is not the expected one.
use Rattle.std.proofs.Common.{◌≡◌, ◌≢◌, ℕ, List, [], ◌∷◌, Option, Some, None, refl, ap, sym, ◌∙◌, codes}
use Rattle.std.proofs.lemmas.Option.{same_Some}
use Rattle.dk_base.specs.declared.span.Span.{Span}
use Rattle.dk_base.specs.declared.ty.Ty.TheVariants.{Unsigned}
use Rattle.dk_lexer.specs.declared.token.Token.{Token}
use Rattle.dk_lexer.specs.declared.token.TokenKind.TheVariants.{Word as Word', Number, End as End', Symbol as Symbol'}
use Rattle.dk_grammar.specs.Reading.{One, IsClass, Clear, Stuck}
use Rattle.dk_grammar.proofs.Clears.{clear_one}
use Rattle.dk_grammar.proofs.Stucks.{stuck_one}
use Rattle.dk_parser.specs.declared.single.Turn.{Turn}
use Rattle.dk_parser.specs.declared.single.Turn.TheVariants as turn
use Rattle.dk_parser.specs.declared.terminal.Mark.{Mark}
use Rattle.dk_parser.specs.declared.terminal.Mark.TheVariants.{Reserved, Sign, Finish}
use Rattle.source_words.specs.declared.word.Keyword.{Keyword as Keyword'}
use Rattle.source_words.specs.declared.word.Keyword.TheVariants.{As, Size, Input, Let, Inline, Im, End, Output, Select, Min, Max, Abs, Sat, X, Y, Edge, Clamp}
use Rattle.dk_parser.specs.declared.terminal.Terminal.{Terminal}
use Rattle.dk_parser.specs.declared.terminal.Terminal.TheVariants.{Keyword, TypeWord as Type', Name as Name', Number as Number'}
use Rattle.dk_parser.specs.Marks.{mark_terminal}
use Rattle.dk_parser.specs.Terminals.{terminal, terminal_of}
use Rattle.dk_parser.specs.Words.{Gives, IsMark, name, name_at, literal, literal_at, type_word, type_at, sign_of, AName, ALiteral, AType, spelling}
use Rattle.dk_parser.specs.Words as words
use Rattle.dk_parser.specs.Reads.{Turns}
use Rattle.dk_parser.specs.Grammar.{Tokens}
use Rattle.dk_parser.specs.Front.{IsFront}

word_token : List ℕ → Token
word_token w = record { span = record { start = 0; stop = 0 }; kind = Word' w }

keyword_token : (k : Keyword') → (tok : Token) × (terminal tok ≡ Keyword k)
unfolding terminal_of word_token
keyword_token Size = (word_token (codes "size"), refl)
keyword_token Input = (word_token (codes "input"), refl)
keyword_token Let = (word_token (codes "let"), refl)
keyword_token Inline = (word_token (codes "inline"), refl)
keyword_token Im = (word_token (codes "im"), refl)
keyword_token End = (word_token (codes "end"), refl)
keyword_token Output = (word_token (codes "output"), refl)
keyword_token As = (word_token (codes "as"), refl)
keyword_token Select = (word_token (codes "select"), refl)
keyword_token Min = (word_token (codes "min"), refl)
keyword_token Max = (word_token (codes "max"), refl)
keyword_token Abs = (word_token (codes "abs"), refl)
keyword_token Sat = (word_token (codes "sat"), refl)
keyword_token X = (word_token (codes "x"), refl)
keyword_token Y = (word_token (codes "y"), refl)
keyword_token Edge = (word_token (codes "edge"), refl)
keyword_token Clamp = (word_token (codes "clamp"), refl)

pub mark_token : (m : Mark) → (tok : Token) × (terminal tok ≡ mark_terminal m)
unfolding terminal_of
mark_token (Reserved k) = keyword_token k
mark_token (Sign s) = (record { span = record { start = 0; stop = 0 }; kind = Symbol' s }, refl)
mark_token Finish = (record { span = record { start = 0; stop = 0 }; kind = End' }, refl)

pub number_token : (v : ℕ) → (tok : Token) × (terminal tok ≡ Number' v)
unfolding terminal_of
number_token v = (record { span = record { start = 0; stop = 0 }; kind = Number v }, refl)

pub type_token : (tok : Token) × (terminal tok ≡ Type' (Unsigned 8))
unfolding terminal_of
type_token = (record { span = record { start = 0; stop = 0 }; kind = Word' (117 ∷ 56 ∷ []) }, refl)

name_token : (tok : Token) × (terminal tok ≡ Name')
unfolding terminal_of
name_token = (record { span = record { start = 0; stop = 0 }; kind = Word' (codes "a") }, refl)

pub gives_class : {V : Type 0} (f : Token → Option V) (t : Token) (v : V) → f t ≡ Some v → IsClass (Gives f)
gives_class f t v e = record { one = λ u v w p q. same_Some v w (sym p ∙ q); token = t; value = v; some = e }

pub name_class : IsClass (Gives name)
name_class = let t = name_token in gives_class name t.0 (record { span = t.0.span; text = spelling t.0.kind }) (ap (λ k. name_at k t.0.span (spelling t.0.kind)) t.1)

pub literal_class : IsClass (Gives literal)
literal_class = let t = number_token 0 in gives_class literal t.0 (record { span = t.0.span; value = 0 }) (ap (λ k. literal_at k t.0.span) t.1)

pub type_class : IsClass (Gives type_word)
type_class = let t = type_token in gives_class type_word t.0 (record { span = t.0.span; ty = Unsigned 8 }) (ap (λ k. type_at k t.0.span) t.1)

mark_class : (m : Mark) → IsClass (IsMark m)
mark_class m = let t = mark_token m in record { one = λ u v w p q. sym p.1 ∙ q.1; token = t.0; value = t.0.span; some = (t.1, refl) }

turn_one : (m : Mark) (t : Token) (a b : Turn) → sign_of (mark_terminal m) ≡ None → Turns m t a → Turns m t b → a ≡ b
turn_one m t (turn.Mark s) (turn.Mark r) n p q = ap (λ x. turn.Mark x) (sym p.1 ∙ q.1)
turn_one m t (turn.Mark s) (turn.Signed b) n p q = let e : sign_of (terminal t) ≡ None = ap sign_of p.0 ∙ n in absurd (cc (e, q))
turn_one m t (turn.Signed b) (turn.Mark s) n p q = let e : sign_of (terminal t) ≡ None = ap sign_of q.0 ∙ n in absurd (cc (e, p))
turn_one m t (turn.Signed a) (turn.Signed b) n p q = ap (λ x. turn.Signed x) (same_Some _ _ (sym p ∙ q))

pub turn_class : (m : Mark) → sign_of (mark_terminal m) ≡ None → IsClass (Turns m)
turn_class m n = let t = mark_token m in record { one = λ u v w p q. turn_one m u v w n p q; token = t.0; value = turn.Mark t.0.span; some = (t.1, refl) }

pub clear_mark : (m : Mark) → Clear (words.Sign m)
clear_mark m = clear_one (mark_class m)

pub clear_name : Clear AName
clear_name = clear_one name_class

pub clear_literal : Clear ALiteral
clear_literal = clear_one literal_class

pub clear_type : Clear AType
clear_type = clear_one type_class

-- There is no token.
stuck_empty : {V : Type 0} (R : Token → V → Type 0) (ts : Tokens) → IsClass R → ts ≡ [] → Stuck (One R) ts ts
stuck_empty R ts k e = rw e (stuck_one {R = R} [] k tt)

-- There is another token.
stuck_other : {V : Type 0} (R : Token → V → Type 0) (ts r : Tokens) (t : Token) → IsClass R → ts ≡ t ∷ r → ((v : V) → R t v → ⊥) → Stuck (One R) ts ts
stuck_other R ts r t k e n = rw e (stuck_one {R = R} (t ∷ r) k n)

stuck_none : {V : Type 0} (f : Token → Option V) (ts r : Tokens) (t : Token) → IsClass (Gives f) → ts ≡ t ∷ r → f t ≡ None → Stuck (One (Gives f)) ts ts
stuck_none f ts r t k e n = stuck_other (Gives f) ts r t k e (λ v g. cc (n, g))

pub no_mark : (m : Mark) (ts : Tokens) → ts ≡ [] → Stuck (words.Sign m) ts ts
no_mark m ts e = stuck_empty (IsMark m) ts (mark_class m) e

pub other_mark : (m : Mark) (ts after : Tokens) (t : Token) (k : Terminal) → IsFront ts t k after → k ≢ mark_terminal m → Stuck (words.Sign m) ts ts
other_mark m ts after t k f n = stuck_other (IsMark m) ts after t (mark_class m) f.whole (λ v g. n (sym f.kind_is ∙ g.0))

pub no_literal : (ts : Tokens) → ts ≡ [] → Stuck ALiteral ts ts
no_literal ts e = stuck_empty (Gives literal) ts literal_class e

pub other_literal : (ts after : Tokens) (t : Token) (k : Terminal) → IsFront ts t k after → literal_at k t.span ≡ None → Stuck ALiteral ts ts
other_literal ts after t k f n = stuck_none literal ts after t literal_class f.whole (ap (λ x. literal_at x t.span) f.kind_is ∙ n)

pub no_type : (ts : Tokens) → ts ≡ [] → Stuck AType ts ts
no_type ts e = stuck_empty (Gives type_word) ts type_class e

pub other_type : (ts after : Tokens) (t : Token) (k : Terminal) → IsFront ts t k after → type_at k t.span ≡ None → Stuck AType ts ts
other_type ts after t k f n = stuck_none type_word ts after t type_class f.whole (ap (λ x. type_at x t.span) f.kind_is ∙ n)

pub no_name : (ts : Tokens) → ts ≡ [] → Stuck AName ts ts
no_name ts e = stuck_empty (Gives name) ts name_class e

not_name : (k : Terminal) (s : Span) (l : List ℕ) → k ≢ Name' → name_at k s l ≡ None
not_name Name' s l n = absurd (n refl)
not_name _ s l n = refl

pub other_name : (ts after : Tokens) (t : Token) (k : Terminal) → IsFront ts t k after → k ≢ Name' → Stuck AName ts ts
other_name ts after t k f n = stuck_none name ts after t name_class f.whole (ap (λ x. name_at x t.span (spelling t.kind)) f.kind_is ∙ not_name k t.span (spelling t.kind) n)

pub no_turn : (m : Mark) (ts : Tokens) → sign_of (mark_terminal m) ≡ None → ts ≡ [] → Stuck (One (Turns m)) ts ts
no_turn m ts n e = stuck_empty (Turns m) ts (turn_class m n) e

turns_not : (m : Mark) (t : Token) (k : Terminal) → terminal t ≡ k → k ≢ mark_terminal m → sign_of k ≡ None → (v : Turn) → Turns m t v → ⊥
turns_not m t k e n s (turn.Mark r) g = n (sym e ∙ g.0)
turns_not m t k e n s (turn.Signed b) g = let h : sign_of (terminal t) ≡ None = ap sign_of e ∙ s in cc (g, h)

pub other_turn : (m : Mark) (ts after : Tokens) (t : Token) (k : Terminal) → sign_of (mark_terminal m) ≡ None → IsFront ts t k after → k ≢ mark_terminal m → sign_of k ≡ None → Stuck (One (Turns m)) ts ts
other_turn m ts after t k w f n s = stuck_other (Turns m) ts after t (turn_class m w) f.whole (turns_not m t k f.kind_is n s)
