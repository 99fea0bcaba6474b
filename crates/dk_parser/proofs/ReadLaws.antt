-- Laws of reads.
use Rattle.std.proofs.Common.{◌≡◌, ℕ, ◌<◌, List, [], ◌∷◌, ◌++◌, Some, None, refl, ap, sym, ◌∙◌, arith, append_assoc}
use Rattle.dk_base.specs.declared.span.Span.{Span}
use Rattle.dk_lexer.specs.declared.token.Token.{Token}
use Rattle.dk_lexer.specs.declared.token.Symbol.TheVariants.{Open, Close, Comma}
use Rattle.dk_grammar.specs.Reading.{Clear}
use Rattle.dk_grammar.proofs.Clears.{clear_one, clear_then, clear_done}
use Rattle.dk_parser.specs.declared.single.Turn.{Turn}
use Rattle.dk_parser.specs.declared.single.Turn.TheVariants as turn
use Rattle.source_words.specs.declared.word.Keyword.TheVariants.{X, Y}
use Rattle.dk_parser.specs.declared.terminal.Terminal.{Terminal}
use Rattle.dk_parser.specs.declared.terminal.Terminal.TheVariants.{Name as Name'}
use Rattle.dk_parser.specs.declared.terminal.Mark.{Mark}
use Rattle.dk_parser.specs.declared.terminal.Mark.TheVariants as mark
use Rattle.dk_parser.specs.declared.tree.ImageRead.{ImageRead}
use Rattle.dk_parser.specs.declared.tree.Name.{Name}
use Rattle.dk_parser.specs.declared.tree.Start.TheVariants.{Image}
use Rattle.dk_parser.specs.Tree.{Tree, read}
use Rattle.dk_parser.specs.Marks.{mark_terminal}
use Rattle.dk_parser.specs.Terminals.{terminal}
use Rattle.dk_parser.specs.Words.{over, name_at, sign_of, spelling}
use Rattle.dk_parser.specs.Reads.{AfterTurn, Moved, Point, Unclamped, Reads, plain, clamped, clamped_of}
use Rattle.dk_parser.specs.Grammar.{Tokens, start}
use Rattle.dk_parser.specs.Front.{rank}
use Rattle.dk_parser.proofs.Tokens.{clear_mark, clear_name, clear_literal, turn_class}

after_turn : (m : Mark) (t : Turn) → Clear (AfterTurn m t)
after_turn m (turn.Mark s) = clear_done _
after_turn m (turn.Signed b) = clear_then clear_literal (λ n. clear_then (clear_mark m) (λ s. clear_done _))

pub clear_after_turn : (m : Mark) (t : Turn) → Clear (AfterTurn m t)
clear_after_turn = after_turn

pub clear_moved : (m : Mark) → sign_of (mark_terminal m) ≡ None → Clear (Moved m)
clear_moved m e = clear_then (clear_one (turn_class m e)) (λ t. after_turn m t)

pub clear_point : (n : Name) → Clear (Point n)
clear_point n =
    clear_then (clear_mark (mark.Sign Open)) (λ a. clear_then (clear_mark (mark.Reserved X)) (λ b. clear_then (clear_moved (mark.Sign Comma) refl) (λ x.
    clear_then (clear_mark (mark.Reserved Y)) (λ c. clear_then (clear_moved (mark.Sign Close) refl) (λ y. clear_done _)))))

pub clear_unclamped : Clear Unclamped
clear_unclamped = clear_then clear_name (λ n. clear_point n)

named : (k : Terminal) (s : Span) (l : List ℕ) (n : Name) → name_at k s l ≡ Some n → k ≡ Name'
named Name' s l n e = refl
named _ s l n e = absurd (cc)

-- A read begins with a name.
unclamped_first : {ts r : Tokens} {x : Span × ImageRead} → Unclamped ts x r → (tok : Token) × (s : Tokens) × (ts ≡ tok ∷ s) × (start (terminal tok) ≡ Image)
unclamped_first p = let t = p.2 in (t.0, p.1, t.1, ap start (named (terminal t.0) t.0.span (spelling t.0.kind) p.0 t.2))

pub reads_first : {ts r : Tokens} {e : Tree} → Reads ts e r → (tok : Token) × (s : Tokens) × (ts ≡ tok ∷ s) × (start (terminal tok) ≡ Image)
reads_first (plain p) = unclamped_first p
reads_first (clamped p a b) = unclamped_first p

pub reads_own : {ts r : Tokens} {e : Tree} → Reads ts e r → (own : Tokens) × (ts ≡ own ++ r) × ((w : Tokens) → Reads (own ++ w) e w)
reads_own (plain p) = let i = clear_unclamped.own p in (i.0, i.1, λ w. plain (i.2 w))
reads_own {r = r} (clamped {r = x} {edge = a} {clamp = b} p f g) =
    let i = clear_unclamped.own p in
    (i.0 ++ (a ∷ b ∷ []), i.1 ∙ sym (append_assoc i.0 (a ∷ b ∷ []) r), λ w. rw append_assoc (clamped (i.2 (a ∷ b ∷ w)) f g))

pub reads_one : {ts r : Tokens} {e : Tree} → Reads ts e r → 1 < rank r → (e' : Tree) (r' : Tokens) → Reads ts e' r' → 1 < rank r' → (e ≡ e') × (r ≡ r')
reads_one (plain {r = x} p) h e' r' (plain {r = y} q) k = let i = clear_unclamped.one p q in (ap (λ z. read z.0 z.1) i.0, i.1)
reads_one (plain p) h e' r' (clamped q f g) k =
    let i = clear_unclamped.one p q in let n : rank _ ≡ 1 = ap rank i.1 ∙ rw f refl in absurd (omega (arith, n))
reads_one (clamped p f g) h e' r' (plain q) k =
    let i = clear_unclamped.one q p in let n : rank _ ≡ 1 = ap rank i.1 ∙ rw f refl in absurd (omega (arith, n))
reads_one (clamped {r = x} {edge = a} {clamp = b} p f g) h e' r' (clamped {r = y} {edge = a'} {clamp = b'} q f' g') k =
    let i = clear_unclamped.one p q in
    let same : b ≡ b' = cc (i.1) in
    (ap (λ z. read (over z.0 b.span) (clamped_of z.1)) i.0 ∙ ap (λ t. read (over y.0 t.span) (clamped_of y.1)) same, cc (i.1))
