-- What a class of tokens says of a token's kind, and which kinds are in it.
use Rattle.std.proofs.Common.{◌≡◌, Some, Bool, true, false, refl, sym, ap, subst}
use Rattle.std.proofs.lemmas.Option.{same_Some}
use Rattle.dk_base.specs.declared.span.Span.{Span}
use Rattle.wiring.specs.declared.right.Atom.{Atom}
use Rattle.wiring.specs.declared.right.Atom.TheVariants as atom
use Rattle.wiring.specs.declared.right.Operator.{Operator}
use Rattle.verilog_text.specs.declared.token.Symbol.TheVariants as symbol
use Rattle.verilog_text.specs.declared.token.Keyword.TheVariants as keyword
use Rattle.verilog_text.specs.declared.token.TokenKind.{TokenKind}
use Rattle.verilog_text.specs.declared.token.TokenKind.TheVariants as kind
use Rattle.verilog_text.specs.declared.written.Count.{Count}
use Rattle.verilog_parse.specs.declared.kind.RightStart.{RightStart}
use Rattle.verilog_parse.specs.declared.kind.RightStart.TheVariants as start
use Rattle.verilog_parse.specs.declared.kind.Item.{Item}
use Rattle.verilog_parse.specs.declared.kind.Item.TheVariants as items
use Rattle.verilog_parse.specs.declared.kind.Follow.{Follow}
use Rattle.verilog_parse.specs.declared.kind.Follow.TheVariants as follow
use Rattle.verilog_parse.specs.declared.kind.Head.{Head}
use Rattle.verilog_parse.specs.declared.kind.Head.TheVariants as heads
use Rattle.verilog_parse.specs.declared.kind.PortLead.{PortLead}
use Rattle.verilog_parse.specs.declared.kind.PortLead.TheVariants as leads
use Rattle.verilog_parse.specs.declared.kind.Tail.{Tail}
use Rattle.verilog_parse.specs.declared.kind.Tail.TheVariants as tails
use Rattle.verilog_parse.specs.declared.kind.Arrow.{Arrow}
use Rattle.verilog_parse.specs.declared.kind.Arrow.TheVariants as arrows
use Rattle.verilog_parse.specs.declared.kind.Target.{Target}
use Rattle.verilog_parse.specs.declared.kind.Target.TheVariants as targets
use Rattle.verilog_parse.specs.declared.kind.Section.{Section}
use Rattle.verilog_parse.specs.declared.kind.Section.TheVariants as sections
use Rattle.verilog_text.specs.Grammar.{named, atomic, counted, binary}
use Rattle.verilog_parse.specs.Forms.{starting, item, following, square, colon_or_close}
use Rattle.verilog_parse.specs.Sections.{comma_or_close, heading, leading, tailing, arrowing, targeting, section_of, statement_of, last_of}

abbrev pub StartMeans : TokenKind → Span → RightStart → Type 0
StartMeans k s start.Tilde = k ≡ kind.Symbol symbol.Tilde
StartMeans k s start.Brace = k ≡ kind.Symbol symbol.OpenBrace
StartMeans k s (start.Atom x) = atomic k s ≡ Some x

abbrev pub ItemMeans : TokenKind → Span → Item → Type 0
ItemMeans k s (items.Count c) = counted k s ≡ Some c
ItemMeans k s (items.Atom x) = atomic k s ≡ Some x

abbrev pub FollowMeans : Atom Span → TokenKind → Follow → Type 0
FollowMeans a k follow.End = k ≡ kind.Symbol symbol.Semicolon
FollowMeans a k (follow.Operator o) = binary k ≡ Some o
FollowMeans a k follow.Question = k ≡ kind.Symbol symbol.Question
FollowMeans a k (follow.Square n) = (k ≡ kind.Symbol symbol.OpenSquare) × (a ≡ atom.Net n)

abbrev pub MoreMeans : TokenKind → Bool → Type 0
MoreMeans k true = k ≡ kind.Symbol symbol.Colon
MoreMeans k false = k ≡ kind.Symbol symbol.CloseSquare

abbrev pub CommaMeans : TokenKind → Bool → Type 0
CommaMeans k true = k ≡ kind.Symbol symbol.Comma
CommaMeans k false = k ≡ kind.Symbol symbol.Close

abbrev pub HeadMeans : TokenKind → Span → Head → Type 0
HeadMeans k s heads.Square = k ≡ kind.Symbol symbol.OpenSquare
HeadMeans k s (heads.Name n) = named k s ≡ Some n

abbrev pub LeadMeans : TokenKind → Span → PortLead → Type 0
LeadMeans k s leads.Wire = k ≡ kind.Keyword keyword.Wire
LeadMeans k s (leads.Head h) = HeadMeans k s h

abbrev pub TailMeans : TokenKind → Tail → Type 0
TailMeans k tails.End = k ≡ kind.Symbol symbol.Semicolon
TailMeans k tails.Words = k ≡ kind.Symbol symbol.OpenSquare

abbrev pub ArrowMeans : TokenKind → Arrow → Type 0
ArrowMeans k arrows.Takes = k ≡ kind.Symbol symbol.LessEqual
ArrowMeans k arrows.Index = k ≡ kind.Symbol symbol.OpenSquare

abbrev pub TargetMeans : TokenKind → Span → Target → Type 0
TargetMeans k s (targets.Name n) = named k s ≡ Some n
TargetMeans k s targets.End = k ≡ kind.Keyword keyword.End

abbrev pub SectionMeans : TokenKind → Section → Type 0
SectionMeans k sections.Wire = k ≡ kind.Keyword keyword.Wire
SectionMeans k sections.Reg = k ≡ kind.Keyword keyword.Reg
SectionMeans k sections.Assign = k ≡ kind.Keyword keyword.Assign
SectionMeans k sections.Always = k ≡ kind.Keyword keyword.Always
SectionMeans k sections.End = k ≡ kind.Keyword keyword.EndModule

pub start_means : (k : TokenKind) (s : Span) (v : RightStart) → starting k s ≡ Some v → StartMeans k s v
start_means kind.Name s v e = subst (λ x. StartMeans kind.Name s x) (same_Some _ _ e) refl
start_means kind.Clock s v e = subst (λ x. StartMeans kind.Clock s x) (same_Some _ _ e) refl
start_means kind.Refused s v e = absurd (cc)
start_means (kind.Plain m) s v e = absurd (cc)
start_means (kind.Sized c) s v e = subst (λ x. StartMeans (kind.Sized c) s x) (same_Some _ _ e) refl
start_means kind.End s v e = absurd (cc)
start_means (kind.Keyword w) s v e = absurd (cc)
start_means (kind.Symbol symbol.LessEqual) s v e = absurd (cc)
start_means (kind.Symbol symbol.EqualEqual) s v e = absurd (cc)
start_means (kind.Symbol symbol.Open) s v e = absurd (cc)
start_means (kind.Symbol symbol.Close) s v e = absurd (cc)
start_means (kind.Symbol symbol.OpenSquare) s v e = absurd (cc)
start_means (kind.Symbol symbol.CloseSquare) s v e = absurd (cc)
start_means (kind.Symbol symbol.OpenBrace) s v e = subst (λ x. StartMeans (kind.Symbol symbol.OpenBrace) s x) (same_Some _ _ e) refl
start_means (kind.Symbol symbol.CloseBrace) s v e = absurd (cc)
start_means (kind.Symbol symbol.Comma) s v e = absurd (cc)
start_means (kind.Symbol symbol.Semicolon) s v e = absurd (cc)
start_means (kind.Symbol symbol.Colon) s v e = absurd (cc)
start_means (kind.Symbol symbol.Question) s v e = absurd (cc)
start_means (kind.Symbol symbol.Equal) s v e = absurd (cc)
start_means (kind.Symbol symbol.Less) s v e = absurd (cc)
start_means (kind.Symbol symbol.Plus) s v e = absurd (cc)
start_means (kind.Symbol symbol.Minus) s v e = absurd (cc)
start_means (kind.Symbol symbol.Star) s v e = absurd (cc)
start_means (kind.Symbol symbol.Slash) s v e = absurd (cc)
start_means (kind.Symbol symbol.Ampersand) s v e = absurd (cc)
start_means (kind.Symbol symbol.Bar) s v e = absurd (cc)
start_means (kind.Symbol symbol.Caret) s v e = absurd (cc)
start_means (kind.Symbol symbol.Tilde) s v e = subst (λ x. StartMeans (kind.Symbol symbol.Tilde) s x) (same_Some _ _ e) refl
start_means (kind.Symbol symbol.At) s v e = absurd (cc)

pub item_means : (k : TokenKind) (s : Span) (v : Item) → item k s ≡ Some v → ItemMeans k s v
item_means kind.Name s v e = subst (λ x. ItemMeans kind.Name s x) (same_Some _ _ e) refl
item_means kind.Clock s v e = subst (λ x. ItemMeans kind.Clock s x) (same_Some _ _ e) refl
item_means kind.Refused s v e = absurd (cc)
item_means (kind.Plain m) s v e = subst (λ x. ItemMeans (kind.Plain m) s x) (same_Some _ _ e) refl
item_means (kind.Sized c) s v e = subst (λ x. ItemMeans (kind.Sized c) s x) (same_Some _ _ e) refl
item_means kind.End s v e = absurd (cc)
item_means (kind.Keyword w) s v e = absurd (cc)
item_means (kind.Symbol y) s v e = absurd (cc)

square_means : (a : Atom Span) (v : Follow) → square a ≡ Some v → FollowMeans a (kind.Symbol symbol.OpenSquare) v
square_means (atom.Net n) v e = subst (λ x. FollowMeans (atom.Net n) (kind.Symbol symbol.OpenSquare) x) (same_Some _ _ e) (refl, refl)
square_means (atom.Constant c) v e = absurd (cc)

pub follow_means : (a : Atom Span) (k : TokenKind) (v : Follow) → following a k ≡ Some v → FollowMeans a k v
follow_means a kind.Name v e = absurd (cc)
follow_means a kind.Clock v e = absurd (cc)
follow_means a kind.Refused v e = absurd (cc)
follow_means a (kind.Plain m) v e = absurd (cc)
follow_means a (kind.Sized c) v e = absurd (cc)
follow_means a kind.End v e = absurd (cc)
follow_means a (kind.Keyword w) v e = absurd (cc)
follow_means a (kind.Symbol symbol.LessEqual) v e = absurd (cc)
follow_means a (kind.Symbol symbol.EqualEqual) v e = subst (λ x. FollowMeans a (kind.Symbol symbol.EqualEqual) x) (same_Some _ _ e) refl
follow_means a (kind.Symbol symbol.Open) v e = absurd (cc)
follow_means a (kind.Symbol symbol.Close) v e = absurd (cc)
follow_means a (kind.Symbol symbol.OpenSquare) v e = square_means a v e
follow_means a (kind.Symbol symbol.CloseSquare) v e = absurd (cc)
follow_means a (kind.Symbol symbol.OpenBrace) v e = absurd (cc)
follow_means a (kind.Symbol symbol.CloseBrace) v e = absurd (cc)
follow_means a (kind.Symbol symbol.Comma) v e = absurd (cc)
follow_means a (kind.Symbol symbol.Semicolon) v e = subst (λ x. FollowMeans a (kind.Symbol symbol.Semicolon) x) (same_Some _ _ e) refl
follow_means a (kind.Symbol symbol.Colon) v e = absurd (cc)
follow_means a (kind.Symbol symbol.Question) v e = subst (λ x. FollowMeans a (kind.Symbol symbol.Question) x) (same_Some _ _ e) refl
follow_means a (kind.Symbol symbol.Equal) v e = absurd (cc)
follow_means a (kind.Symbol symbol.Less) v e = subst (λ x. FollowMeans a (kind.Symbol symbol.Less) x) (same_Some _ _ e) refl
follow_means a (kind.Symbol symbol.Plus) v e = subst (λ x. FollowMeans a (kind.Symbol symbol.Plus) x) (same_Some _ _ e) refl
follow_means a (kind.Symbol symbol.Minus) v e = subst (λ x. FollowMeans a (kind.Symbol symbol.Minus) x) (same_Some _ _ e) refl
follow_means a (kind.Symbol symbol.Star) v e = subst (λ x. FollowMeans a (kind.Symbol symbol.Star) x) (same_Some _ _ e) refl
follow_means a (kind.Symbol symbol.Slash) v e = subst (λ x. FollowMeans a (kind.Symbol symbol.Slash) x) (same_Some _ _ e) refl
follow_means a (kind.Symbol symbol.Ampersand) v e = subst (λ x. FollowMeans a (kind.Symbol symbol.Ampersand) x) (same_Some _ _ e) refl
follow_means a (kind.Symbol symbol.Bar) v e = subst (λ x. FollowMeans a (kind.Symbol symbol.Bar) x) (same_Some _ _ e) refl
follow_means a (kind.Symbol symbol.Caret) v e = subst (λ x. FollowMeans a (kind.Symbol symbol.Caret) x) (same_Some _ _ e) refl
follow_means a (kind.Symbol symbol.Tilde) v e = absurd (cc)
follow_means a (kind.Symbol symbol.At) v e = absurd (cc)

pub more_means : (k : TokenKind) (v : Bool) → colon_or_close k ≡ Some v → MoreMeans k v
more_means kind.Name v e = absurd (cc)
more_means kind.Clock v e = absurd (cc)
more_means kind.Refused v e = absurd (cc)
more_means (kind.Plain m) v e = absurd (cc)
more_means (kind.Sized c) v e = absurd (cc)
more_means kind.End v e = absurd (cc)
more_means (kind.Keyword w) v e = absurd (cc)
more_means (kind.Symbol symbol.LessEqual) v e = absurd (cc)
more_means (kind.Symbol symbol.EqualEqual) v e = absurd (cc)
more_means (kind.Symbol symbol.Open) v e = absurd (cc)
more_means (kind.Symbol symbol.Close) v e = absurd (cc)
more_means (kind.Symbol symbol.OpenSquare) v e = absurd (cc)
more_means (kind.Symbol symbol.CloseSquare) v e = subst (λ x. MoreMeans (kind.Symbol symbol.CloseSquare) x) (same_Some _ _ e) refl
more_means (kind.Symbol symbol.OpenBrace) v e = absurd (cc)
more_means (kind.Symbol symbol.CloseBrace) v e = absurd (cc)
more_means (kind.Symbol symbol.Comma) v e = absurd (cc)
more_means (kind.Symbol symbol.Semicolon) v e = absurd (cc)
more_means (kind.Symbol symbol.Colon) v e = subst (λ x. MoreMeans (kind.Symbol symbol.Colon) x) (same_Some _ _ e) refl
more_means (kind.Symbol symbol.Question) v e = absurd (cc)
more_means (kind.Symbol symbol.Equal) v e = absurd (cc)
more_means (kind.Symbol symbol.Less) v e = absurd (cc)
more_means (kind.Symbol symbol.Plus) v e = absurd (cc)
more_means (kind.Symbol symbol.Minus) v e = absurd (cc)
more_means (kind.Symbol symbol.Star) v e = absurd (cc)
more_means (kind.Symbol symbol.Slash) v e = absurd (cc)
more_means (kind.Symbol symbol.Ampersand) v e = absurd (cc)
more_means (kind.Symbol symbol.Bar) v e = absurd (cc)
more_means (kind.Symbol symbol.Caret) v e = absurd (cc)
more_means (kind.Symbol symbol.Tilde) v e = absurd (cc)
more_means (kind.Symbol symbol.At) v e = absurd (cc)

pub comma_means : (k : TokenKind) (v : Bool) → comma_or_close k ≡ Some v → CommaMeans k v
comma_means kind.Name v e = absurd (cc)
comma_means kind.Clock v e = absurd (cc)
comma_means kind.Refused v e = absurd (cc)
comma_means (kind.Plain m) v e = absurd (cc)
comma_means (kind.Sized c) v e = absurd (cc)
comma_means kind.End v e = absurd (cc)
comma_means (kind.Keyword w) v e = absurd (cc)
comma_means (kind.Symbol symbol.LessEqual) v e = absurd (cc)
comma_means (kind.Symbol symbol.EqualEqual) v e = absurd (cc)
comma_means (kind.Symbol symbol.Open) v e = absurd (cc)
comma_means (kind.Symbol symbol.Close) v e = subst (λ x. CommaMeans (kind.Symbol symbol.Close) x) (same_Some _ _ e) refl
comma_means (kind.Symbol symbol.OpenSquare) v e = absurd (cc)
comma_means (kind.Symbol symbol.CloseSquare) v e = absurd (cc)
comma_means (kind.Symbol symbol.OpenBrace) v e = absurd (cc)
comma_means (kind.Symbol symbol.CloseBrace) v e = absurd (cc)
comma_means (kind.Symbol symbol.Comma) v e = subst (λ x. CommaMeans (kind.Symbol symbol.Comma) x) (same_Some _ _ e) refl
comma_means (kind.Symbol symbol.Semicolon) v e = absurd (cc)
comma_means (kind.Symbol symbol.Colon) v e = absurd (cc)
comma_means (kind.Symbol symbol.Question) v e = absurd (cc)
comma_means (kind.Symbol symbol.Equal) v e = absurd (cc)
comma_means (kind.Symbol symbol.Less) v e = absurd (cc)
comma_means (kind.Symbol symbol.Plus) v e = absurd (cc)
comma_means (kind.Symbol symbol.Minus) v e = absurd (cc)
comma_means (kind.Symbol symbol.Star) v e = absurd (cc)
comma_means (kind.Symbol symbol.Slash) v e = absurd (cc)
comma_means (kind.Symbol symbol.Ampersand) v e = absurd (cc)
comma_means (kind.Symbol symbol.Bar) v e = absurd (cc)
comma_means (kind.Symbol symbol.Caret) v e = absurd (cc)
comma_means (kind.Symbol symbol.Tilde) v e = absurd (cc)
comma_means (kind.Symbol symbol.At) v e = absurd (cc)

pub head_means : (k : TokenKind) (s : Span) (v : Head) → heading k s ≡ Some v → HeadMeans k s v
head_means kind.Name s v e = subst (λ x. HeadMeans kind.Name s x) (same_Some _ _ e) refl
head_means kind.Clock s v e = subst (λ x. HeadMeans kind.Clock s x) (same_Some _ _ e) refl
head_means kind.Refused s v e = absurd (cc)
head_means (kind.Plain m) s v e = absurd (cc)
head_means (kind.Sized c) s v e = absurd (cc)
head_means kind.End s v e = absurd (cc)
head_means (kind.Keyword w) s v e = absurd (cc)
head_means (kind.Symbol symbol.LessEqual) s v e = absurd (cc)
head_means (kind.Symbol symbol.EqualEqual) s v e = absurd (cc)
head_means (kind.Symbol symbol.Open) s v e = absurd (cc)
head_means (kind.Symbol symbol.Close) s v e = absurd (cc)
head_means (kind.Symbol symbol.OpenSquare) s v e = subst (λ x. HeadMeans (kind.Symbol symbol.OpenSquare) s x) (same_Some _ _ e) refl
head_means (kind.Symbol symbol.CloseSquare) s v e = absurd (cc)
head_means (kind.Symbol symbol.OpenBrace) s v e = absurd (cc)
head_means (kind.Symbol symbol.CloseBrace) s v e = absurd (cc)
head_means (kind.Symbol symbol.Comma) s v e = absurd (cc)
head_means (kind.Symbol symbol.Semicolon) s v e = absurd (cc)
head_means (kind.Symbol symbol.Colon) s v e = absurd (cc)
head_means (kind.Symbol symbol.Question) s v e = absurd (cc)
head_means (kind.Symbol symbol.Equal) s v e = absurd (cc)
head_means (kind.Symbol symbol.Less) s v e = absurd (cc)
head_means (kind.Symbol symbol.Plus) s v e = absurd (cc)
head_means (kind.Symbol symbol.Minus) s v e = absurd (cc)
head_means (kind.Symbol symbol.Star) s v e = absurd (cc)
head_means (kind.Symbol symbol.Slash) s v e = absurd (cc)
head_means (kind.Symbol symbol.Ampersand) s v e = absurd (cc)
head_means (kind.Symbol symbol.Bar) s v e = absurd (cc)
head_means (kind.Symbol symbol.Caret) s v e = absurd (cc)
head_means (kind.Symbol symbol.Tilde) s v e = absurd (cc)
head_means (kind.Symbol symbol.At) s v e = absurd (cc)

pub lead_means : (k : TokenKind) (s : Span) (v : PortLead) → leading k s ≡ Some v → LeadMeans k s v
lead_means kind.Name s v e = subst (λ x. LeadMeans kind.Name s x) (same_Some _ _ e) refl
lead_means kind.Clock s v e = subst (λ x. LeadMeans kind.Clock s x) (same_Some _ _ e) refl
lead_means kind.Refused s v e = absurd (cc)
lead_means (kind.Plain m) s v e = absurd (cc)
lead_means (kind.Sized c) s v e = absurd (cc)
lead_means kind.End s v e = absurd (cc)
lead_means (kind.Keyword keyword.Module) s v e = absurd (cc)
lead_means (kind.Keyword keyword.EndModule) s v e = absurd (cc)
lead_means (kind.Keyword keyword.Input) s v e = absurd (cc)
lead_means (kind.Keyword keyword.Output) s v e = absurd (cc)
lead_means (kind.Keyword keyword.Wire) s v e = subst (λ x. LeadMeans (kind.Keyword keyword.Wire) s x) (same_Some _ _ e) refl
lead_means (kind.Keyword keyword.Reg) s v e = absurd (cc)
lead_means (kind.Keyword keyword.Assign) s v e = absurd (cc)
lead_means (kind.Keyword keyword.Always) s v e = absurd (cc)
lead_means (kind.Keyword keyword.Posedge) s v e = absurd (cc)
lead_means (kind.Keyword keyword.Begin) s v e = absurd (cc)
lead_means (kind.Keyword keyword.End) s v e = absurd (cc)
lead_means (kind.Symbol symbol.LessEqual) s v e = absurd (cc)
lead_means (kind.Symbol symbol.EqualEqual) s v e = absurd (cc)
lead_means (kind.Symbol symbol.Open) s v e = absurd (cc)
lead_means (kind.Symbol symbol.Close) s v e = absurd (cc)
lead_means (kind.Symbol symbol.OpenSquare) s v e = subst (λ x. LeadMeans (kind.Symbol symbol.OpenSquare) s x) (same_Some _ _ e) refl
lead_means (kind.Symbol symbol.CloseSquare) s v e = absurd (cc)
lead_means (kind.Symbol symbol.OpenBrace) s v e = absurd (cc)
lead_means (kind.Symbol symbol.CloseBrace) s v e = absurd (cc)
lead_means (kind.Symbol symbol.Comma) s v e = absurd (cc)
lead_means (kind.Symbol symbol.Semicolon) s v e = absurd (cc)
lead_means (kind.Symbol symbol.Colon) s v e = absurd (cc)
lead_means (kind.Symbol symbol.Question) s v e = absurd (cc)
lead_means (kind.Symbol symbol.Equal) s v e = absurd (cc)
lead_means (kind.Symbol symbol.Less) s v e = absurd (cc)
lead_means (kind.Symbol symbol.Plus) s v e = absurd (cc)
lead_means (kind.Symbol symbol.Minus) s v e = absurd (cc)
lead_means (kind.Symbol symbol.Star) s v e = absurd (cc)
lead_means (kind.Symbol symbol.Slash) s v e = absurd (cc)
lead_means (kind.Symbol symbol.Ampersand) s v e = absurd (cc)
lead_means (kind.Symbol symbol.Bar) s v e = absurd (cc)
lead_means (kind.Symbol symbol.Caret) s v e = absurd (cc)
lead_means (kind.Symbol symbol.Tilde) s v e = absurd (cc)
lead_means (kind.Symbol symbol.At) s v e = absurd (cc)

pub tail_means : (k : TokenKind) (v : Tail) → tailing k ≡ Some v → TailMeans k v
tail_means kind.Name v e = absurd (cc)
tail_means kind.Clock v e = absurd (cc)
tail_means kind.Refused v e = absurd (cc)
tail_means (kind.Plain m) v e = absurd (cc)
tail_means (kind.Sized c) v e = absurd (cc)
tail_means kind.End v e = absurd (cc)
tail_means (kind.Keyword w) v e = absurd (cc)
tail_means (kind.Symbol symbol.LessEqual) v e = absurd (cc)
tail_means (kind.Symbol symbol.EqualEqual) v e = absurd (cc)
tail_means (kind.Symbol symbol.Open) v e = absurd (cc)
tail_means (kind.Symbol symbol.Close) v e = absurd (cc)
tail_means (kind.Symbol symbol.OpenSquare) v e = subst (λ x. TailMeans (kind.Symbol symbol.OpenSquare) x) (same_Some _ _ e) refl
tail_means (kind.Symbol symbol.CloseSquare) v e = absurd (cc)
tail_means (kind.Symbol symbol.OpenBrace) v e = absurd (cc)
tail_means (kind.Symbol symbol.CloseBrace) v e = absurd (cc)
tail_means (kind.Symbol symbol.Comma) v e = absurd (cc)
tail_means (kind.Symbol symbol.Semicolon) v e = subst (λ x. TailMeans (kind.Symbol symbol.Semicolon) x) (same_Some _ _ e) refl
tail_means (kind.Symbol symbol.Colon) v e = absurd (cc)
tail_means (kind.Symbol symbol.Question) v e = absurd (cc)
tail_means (kind.Symbol symbol.Equal) v e = absurd (cc)
tail_means (kind.Symbol symbol.Less) v e = absurd (cc)
tail_means (kind.Symbol symbol.Plus) v e = absurd (cc)
tail_means (kind.Symbol symbol.Minus) v e = absurd (cc)
tail_means (kind.Symbol symbol.Star) v e = absurd (cc)
tail_means (kind.Symbol symbol.Slash) v e = absurd (cc)
tail_means (kind.Symbol symbol.Ampersand) v e = absurd (cc)
tail_means (kind.Symbol symbol.Bar) v e = absurd (cc)
tail_means (kind.Symbol symbol.Caret) v e = absurd (cc)
tail_means (kind.Symbol symbol.Tilde) v e = absurd (cc)
tail_means (kind.Symbol symbol.At) v e = absurd (cc)

pub arrow_means : (k : TokenKind) (v : Arrow) → arrowing k ≡ Some v → ArrowMeans k v
arrow_means kind.Name v e = absurd (cc)
arrow_means kind.Clock v e = absurd (cc)
arrow_means kind.Refused v e = absurd (cc)
arrow_means (kind.Plain m) v e = absurd (cc)
arrow_means (kind.Sized c) v e = absurd (cc)
arrow_means kind.End v e = absurd (cc)
arrow_means (kind.Keyword w) v e = absurd (cc)
arrow_means (kind.Symbol symbol.LessEqual) v e = subst (λ x. ArrowMeans (kind.Symbol symbol.LessEqual) x) (same_Some _ _ e) refl
arrow_means (kind.Symbol symbol.EqualEqual) v e = absurd (cc)
arrow_means (kind.Symbol symbol.Open) v e = absurd (cc)
arrow_means (kind.Symbol symbol.Close) v e = absurd (cc)
arrow_means (kind.Symbol symbol.OpenSquare) v e = subst (λ x. ArrowMeans (kind.Symbol symbol.OpenSquare) x) (same_Some _ _ e) refl
arrow_means (kind.Symbol symbol.CloseSquare) v e = absurd (cc)
arrow_means (kind.Symbol symbol.OpenBrace) v e = absurd (cc)
arrow_means (kind.Symbol symbol.CloseBrace) v e = absurd (cc)
arrow_means (kind.Symbol symbol.Comma) v e = absurd (cc)
arrow_means (kind.Symbol symbol.Semicolon) v e = absurd (cc)
arrow_means (kind.Symbol symbol.Colon) v e = absurd (cc)
arrow_means (kind.Symbol symbol.Question) v e = absurd (cc)
arrow_means (kind.Symbol symbol.Equal) v e = absurd (cc)
arrow_means (kind.Symbol symbol.Less) v e = absurd (cc)
arrow_means (kind.Symbol symbol.Plus) v e = absurd (cc)
arrow_means (kind.Symbol symbol.Minus) v e = absurd (cc)
arrow_means (kind.Symbol symbol.Star) v e = absurd (cc)
arrow_means (kind.Symbol symbol.Slash) v e = absurd (cc)
arrow_means (kind.Symbol symbol.Ampersand) v e = absurd (cc)
arrow_means (kind.Symbol symbol.Bar) v e = absurd (cc)
arrow_means (kind.Symbol symbol.Caret) v e = absurd (cc)
arrow_means (kind.Symbol symbol.Tilde) v e = absurd (cc)
arrow_means (kind.Symbol symbol.At) v e = absurd (cc)

pub target_means : (k : TokenKind) (s : Span) (v : Target) → targeting k s ≡ Some v → TargetMeans k s v
target_means kind.Name s v e = subst (λ x. TargetMeans kind.Name s x) (same_Some _ _ e) refl
target_means kind.Clock s v e = subst (λ x. TargetMeans kind.Clock s x) (same_Some _ _ e) refl
target_means kind.Refused s v e = absurd (cc)
target_means (kind.Plain m) s v e = absurd (cc)
target_means (kind.Sized c) s v e = absurd (cc)
target_means kind.End s v e = absurd (cc)
target_means (kind.Keyword keyword.Module) s v e = absurd (cc)
target_means (kind.Keyword keyword.EndModule) s v e = absurd (cc)
target_means (kind.Keyword keyword.Input) s v e = absurd (cc)
target_means (kind.Keyword keyword.Output) s v e = absurd (cc)
target_means (kind.Keyword keyword.Wire) s v e = absurd (cc)
target_means (kind.Keyword keyword.Reg) s v e = absurd (cc)
target_means (kind.Keyword keyword.Assign) s v e = absurd (cc)
target_means (kind.Keyword keyword.Always) s v e = absurd (cc)
target_means (kind.Keyword keyword.Posedge) s v e = absurd (cc)
target_means (kind.Keyword keyword.Begin) s v e = absurd (cc)
target_means (kind.Keyword keyword.End) s v e = subst (λ x. TargetMeans (kind.Keyword keyword.End) s x) (same_Some _ _ e) refl
target_means (kind.Symbol y) s v e = absurd (cc)

pub section_means : (k : TokenKind) (v : Section) → section_of k ≡ Some v → SectionMeans k v
section_means kind.Name v e = absurd (cc)
section_means kind.Clock v e = absurd (cc)
section_means kind.Refused v e = absurd (cc)
section_means (kind.Plain m) v e = absurd (cc)
section_means (kind.Sized c) v e = absurd (cc)
section_means kind.End v e = absurd (cc)
section_means (kind.Keyword keyword.Module) v e = absurd (cc)
section_means (kind.Keyword keyword.EndModule) v e = subst (λ x. SectionMeans (kind.Keyword keyword.EndModule) x) (same_Some _ _ e) refl
section_means (kind.Keyword keyword.Input) v e = absurd (cc)
section_means (kind.Keyword keyword.Output) v e = absurd (cc)
section_means (kind.Keyword keyword.Wire) v e = subst (λ x. SectionMeans (kind.Keyword keyword.Wire) x) (same_Some _ _ e) refl
section_means (kind.Keyword keyword.Reg) v e = subst (λ x. SectionMeans (kind.Keyword keyword.Reg) x) (same_Some _ _ e) refl
section_means (kind.Keyword keyword.Assign) v e = subst (λ x. SectionMeans (kind.Keyword keyword.Assign) x) (same_Some _ _ e) refl
section_means (kind.Keyword keyword.Always) v e = subst (λ x. SectionMeans (kind.Keyword keyword.Always) x) (same_Some _ _ e) refl
section_means (kind.Keyword keyword.Posedge) v e = absurd (cc)
section_means (kind.Keyword keyword.Begin) v e = absurd (cc)
section_means (kind.Keyword keyword.End) v e = absurd (cc)
section_means (kind.Symbol y) v e = absurd (cc)

-- which sections may follow an assign, and which after the block
abbrev pub is_statement : Section → Bool
is_statement sections.Wire = false
is_statement sections.Reg = false
is_statement sections.Assign = true
is_statement sections.Always = true
is_statement sections.End = true

abbrev pub is_closing : Section → Bool
is_closing sections.Wire = false
is_closing sections.Reg = false
is_closing sections.Assign = false
is_closing sections.Always = true
is_closing sections.End = true

abbrev pub is_ending : Section → Bool
is_ending sections.Wire = false
is_ending sections.Reg = false
is_ending sections.Assign = false
is_ending sections.Always = false
is_ending sections.End = true

pub statement_means : (k : TokenKind) (v : Section) → statement_of k ≡ Some v → SectionMeans k v × (is_statement v ≡ true)
statement_means kind.Name v e = absurd (cc)
statement_means kind.Clock v e = absurd (cc)
statement_means kind.Refused v e = absurd (cc)
statement_means (kind.Plain m) v e = absurd (cc)
statement_means (kind.Sized c) v e = absurd (cc)
statement_means kind.End v e = absurd (cc)
statement_means (kind.Keyword keyword.Module) v e = absurd (cc)
statement_means (kind.Keyword keyword.EndModule) v e = subst (λ x. SectionMeans (kind.Keyword keyword.EndModule) x × (is_statement x ≡ true)) (same_Some _ _ e) (refl, refl)
statement_means (kind.Keyword keyword.Input) v e = absurd (cc)
statement_means (kind.Keyword keyword.Output) v e = absurd (cc)
statement_means (kind.Keyword keyword.Wire) v e = absurd (cc)
statement_means (kind.Keyword keyword.Reg) v e = absurd (cc)
statement_means (kind.Keyword keyword.Assign) v e = subst (λ x. SectionMeans (kind.Keyword keyword.Assign) x × (is_statement x ≡ true)) (same_Some _ _ e) (refl, refl)
statement_means (kind.Keyword keyword.Always) v e = subst (λ x. SectionMeans (kind.Keyword keyword.Always) x × (is_statement x ≡ true)) (same_Some _ _ e) (refl, refl)
statement_means (kind.Keyword keyword.Posedge) v e = absurd (cc)
statement_means (kind.Keyword keyword.Begin) v e = absurd (cc)
statement_means (kind.Keyword keyword.End) v e = absurd (cc)
statement_means (kind.Symbol y) v e = absurd (cc)

pub last_means : (k : TokenKind) (v : Section) → last_of k ≡ Some v → (k ≡ kind.Keyword keyword.EndModule) × (v ≡ sections.End)
last_means kind.Name v e = absurd (cc)
last_means kind.Clock v e = absurd (cc)
last_means kind.Refused v e = absurd (cc)
last_means (kind.Plain m) v e = absurd (cc)
last_means (kind.Sized c) v e = absurd (cc)
last_means kind.End v e = absurd (cc)
last_means (kind.Keyword keyword.Module) v e = absurd (cc)
last_means (kind.Keyword keyword.EndModule) v e = (refl, sym (same_Some _ _ e))
last_means (kind.Keyword keyword.Input) v e = absurd (cc)
last_means (kind.Keyword keyword.Output) v e = absurd (cc)
last_means (kind.Keyword keyword.Wire) v e = absurd (cc)
last_means (kind.Keyword keyword.Reg) v e = absurd (cc)
last_means (kind.Keyword keyword.Assign) v e = absurd (cc)
last_means (kind.Keyword keyword.Always) v e = absurd (cc)
last_means (kind.Keyword keyword.Posedge) v e = absurd (cc)
last_means (kind.Keyword keyword.Begin) v e = absurd (cc)
last_means (kind.Keyword keyword.End) v e = absurd (cc)
last_means (kind.Symbol y) v e = absurd (cc)

-- and the other way
pub start_atom : (k : TokenKind) (s : Span) (x : Atom Span) → atomic k s ≡ Some x → starting k s ≡ Some (start.Atom x)
start_atom kind.Name s x e = ap (λ a. Some (start.Atom a)) (same_Some _ _ e)
start_atom kind.Clock s x e = ap (λ a. Some (start.Atom a)) (same_Some _ _ e)
start_atom kind.Refused s x e = absurd (cc)
start_atom (kind.Plain m) s x e = absurd (cc)
start_atom (kind.Sized c) s x e = ap (λ a. Some (start.Atom a)) (same_Some _ _ e)
start_atom kind.End s x e = absurd (cc)
start_atom (kind.Keyword w) s x e = absurd (cc)
start_atom (kind.Symbol y) s x e = absurd (cc)

pub item_atom : (k : TokenKind) (s : Span) (x : Atom Span) → atomic k s ≡ Some x → item k s ≡ Some (items.Atom x)
item_atom kind.Name s x e = ap (λ a. Some (items.Atom a)) (same_Some _ _ e)
item_atom kind.Clock s x e = ap (λ a. Some (items.Atom a)) (same_Some _ _ e)
item_atom kind.Refused s x e = absurd (cc)
item_atom (kind.Plain m) s x e = absurd (cc)
item_atom (kind.Sized c) s x e = ap (λ a. Some (items.Atom a)) (same_Some _ _ e)
item_atom kind.End s x e = absurd (cc)
item_atom (kind.Keyword w) s x e = absurd (cc)
item_atom (kind.Symbol y) s x e = absurd (cc)

pub item_count : (k : TokenKind) (s : Span) (x : Count) → counted k s ≡ Some x → item k s ≡ Some (items.Count x)
item_count kind.Name s x e = absurd (cc)
item_count kind.Clock s x e = absurd (cc)
item_count kind.Refused s x e = absurd (cc)
item_count (kind.Plain m) s x e = ap (λ a. Some (items.Count a)) (same_Some _ _ e)
item_count (kind.Sized c) s x e = absurd (cc)
item_count kind.End s x e = absurd (cc)
item_count (kind.Keyword w) s x e = absurd (cc)
item_count (kind.Symbol y) s x e = absurd (cc)

pub name_atom : (k : TokenKind) (s n : Span) → named k s ≡ Some n → atomic k s ≡ Some (atom.Net n)
name_atom kind.Name s n e = ap (λ a. Some (atom.Net a)) (same_Some _ _ e)
name_atom kind.Clock s n e = ap (λ a. Some (atom.Net a)) (same_Some _ _ e)
name_atom kind.Refused s n e = absurd (cc)
name_atom (kind.Plain m) s n e = absurd (cc)
name_atom (kind.Sized c) s n e = absurd (cc)
name_atom kind.End s n e = absurd (cc)
name_atom (kind.Keyword w) s n e = absurd (cc)
name_atom (kind.Symbol y) s n e = absurd (cc)

pub atom_name : (k : TokenKind) (s n : Span) → atomic k s ≡ Some (atom.Net n) → named k s ≡ Some n
atom_name kind.Name s n e = cc
atom_name kind.Clock s n e = cc
atom_name kind.Refused s n e = absurd (cc)
atom_name (kind.Plain m) s n e = absurd (cc)
atom_name (kind.Sized c) s n e = absurd (cc)
atom_name kind.End s n e = absurd (cc)
atom_name (kind.Keyword w) s n e = absurd (cc)
atom_name (kind.Symbol y) s n e = absurd (cc)

pub follow_operator : (a : Atom Span) (k : TokenKind) (o : Operator) → binary k ≡ Some o → following a k ≡ Some (follow.Operator o)
follow_operator a kind.Name o e = absurd (cc)
follow_operator a kind.Clock o e = absurd (cc)
follow_operator a kind.Refused o e = absurd (cc)
follow_operator a (kind.Plain m) o e = absurd (cc)
follow_operator a (kind.Sized c) o e = absurd (cc)
follow_operator a kind.End o e = absurd (cc)
follow_operator a (kind.Keyword w) o e = absurd (cc)
follow_operator a (kind.Symbol symbol.LessEqual) o e = absurd (cc)
follow_operator a (kind.Symbol symbol.EqualEqual) o e = ap (λ x. Some (follow.Operator x)) (same_Some _ _ e)
follow_operator a (kind.Symbol symbol.Open) o e = absurd (cc)
follow_operator a (kind.Symbol symbol.Close) o e = absurd (cc)
follow_operator a (kind.Symbol symbol.OpenSquare) o e = absurd (cc)
follow_operator a (kind.Symbol symbol.CloseSquare) o e = absurd (cc)
follow_operator a (kind.Symbol symbol.OpenBrace) o e = absurd (cc)
follow_operator a (kind.Symbol symbol.CloseBrace) o e = absurd (cc)
follow_operator a (kind.Symbol symbol.Comma) o e = absurd (cc)
follow_operator a (kind.Symbol symbol.Semicolon) o e = absurd (cc)
follow_operator a (kind.Symbol symbol.Colon) o e = absurd (cc)
follow_operator a (kind.Symbol symbol.Question) o e = absurd (cc)
follow_operator a (kind.Symbol symbol.Equal) o e = absurd (cc)
follow_operator a (kind.Symbol symbol.Less) o e = ap (λ x. Some (follow.Operator x)) (same_Some _ _ e)
follow_operator a (kind.Symbol symbol.Plus) o e = ap (λ x. Some (follow.Operator x)) (same_Some _ _ e)
follow_operator a (kind.Symbol symbol.Minus) o e = ap (λ x. Some (follow.Operator x)) (same_Some _ _ e)
follow_operator a (kind.Symbol symbol.Star) o e = ap (λ x. Some (follow.Operator x)) (same_Some _ _ e)
follow_operator a (kind.Symbol symbol.Slash) o e = ap (λ x. Some (follow.Operator x)) (same_Some _ _ e)
follow_operator a (kind.Symbol symbol.Ampersand) o e = ap (λ x. Some (follow.Operator x)) (same_Some _ _ e)
follow_operator a (kind.Symbol symbol.Bar) o e = ap (λ x. Some (follow.Operator x)) (same_Some _ _ e)
follow_operator a (kind.Symbol symbol.Caret) o e = ap (λ x. Some (follow.Operator x)) (same_Some _ _ e)
follow_operator a (kind.Symbol symbol.Tilde) o e = absurd (cc)
follow_operator a (kind.Symbol symbol.At) o e = absurd (cc)

pub head_name : (k : TokenKind) (s n : Span) → named k s ≡ Some n → heading k s ≡ Some (heads.Name n)
head_name kind.Name s n e = ap (λ x. Some (heads.Name x)) (same_Some _ _ e)
head_name kind.Clock s n e = ap (λ x. Some (heads.Name x)) (same_Some _ _ e)
head_name kind.Refused s n e = absurd (cc)
head_name (kind.Plain m) s n e = absurd (cc)
head_name (kind.Sized c) s n e = absurd (cc)
head_name kind.End s n e = absurd (cc)
head_name (kind.Keyword w) s n e = absurd (cc)
head_name (kind.Symbol y) s n e = absurd (cc)

pub lead_name : (k : TokenKind) (s n : Span) → named k s ≡ Some n → leading k s ≡ Some (leads.Head (heads.Name n))
lead_name kind.Name s n e = ap (λ x. Some (leads.Head (heads.Name x))) (same_Some _ _ e)
lead_name kind.Clock s n e = ap (λ x. Some (leads.Head (heads.Name x))) (same_Some _ _ e)
lead_name kind.Refused s n e = absurd (cc)
lead_name (kind.Plain m) s n e = absurd (cc)
lead_name (kind.Sized c) s n e = absurd (cc)
lead_name kind.End s n e = absurd (cc)
lead_name (kind.Keyword w) s n e = absurd (cc)
lead_name (kind.Symbol y) s n e = absurd (cc)

pub target_name : (k : TokenKind) (s n : Span) → named k s ≡ Some n → targeting k s ≡ Some (targets.Name n)
target_name kind.Name s n e = ap (λ x. Some (targets.Name x)) (same_Some _ _ e)
target_name kind.Clock s n e = ap (λ x. Some (targets.Name x)) (same_Some _ _ e)
target_name kind.Refused s n e = absurd (cc)
target_name (kind.Plain m) s n e = absurd (cc)
target_name (kind.Sized c) s n e = absurd (cc)
target_name kind.End s n e = absurd (cc)
target_name (kind.Keyword w) s n e = absurd (cc)
target_name (kind.Symbol y) s n e = absurd (cc)
