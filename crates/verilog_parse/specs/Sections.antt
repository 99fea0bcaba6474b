-- For the private functions: ports and the sections of a module as they are read, with one token ahead.
use Rattle.std.specs.Prelude.{◌≡◌, List, [], ◌∷◌, ◌++◌, Option, Some, None, Bool, true, false}
use Rattle.dk_grammar.specs.Reading.{Phrases, One, Then, Done, Listed, Chain}
use Rattle.dk_base.specs.declared.span.Span.{Span}
use Rattle.verilog_text.specs.declared.token.Token.{Token}
use Rattle.verilog_text.specs.declared.token.Symbol.TheVariants as symbol
use Rattle.verilog_text.specs.declared.token.Keyword.TheVariants as keyword
use Rattle.verilog_text.specs.declared.token.TokenKind.{TokenKind}
use Rattle.verilog_text.specs.declared.token.TokenKind.TheVariants as kind
use Rattle.verilog_text.specs.declared.written.Range.{Range}
use Rattle.verilog_text.specs.declared.written.WrittenPort.{WrittenPort}
use Rattle.verilog_text.specs.declared.written.WrittenSort.TheVariants as sort
use Rattle.verilog_text.specs.declared.written.WrittenDeclaration.{WrittenDeclaration}
use Rattle.verilog_text.specs.declared.written.WrittenAssign.{WrittenAssign}
use Rattle.verilog_text.specs.declared.written.WrittenUpdate.{WrittenUpdate}
use Rattle.verilog_text.specs.declared.written.WrittenUpdate.TheVariants as update
use Rattle.verilog_text.specs.declared.written.Written.{Written}
use Rattle.verilog_text.specs.Grammar.{directed, Source}
use Rattle.verilog_parse.specs.declared.kind.Head.{Head}
use Rattle.verilog_parse.specs.declared.kind.Head.TheVariants as heads
use Rattle.verilog_parse.specs.declared.kind.PortLead.{PortLead}
use Rattle.verilog_parse.specs.declared.kind.PortLead.TheVariants as leads
use Rattle.verilog_parse.specs.declared.kind.RangedName.{RangedName}
use Rattle.verilog_parse.specs.declared.kind.Tail.{Tail}
use Rattle.verilog_parse.specs.declared.kind.Tail.TheVariants as tails
use Rattle.verilog_parse.specs.declared.kind.Arrow.{Arrow}
use Rattle.verilog_parse.specs.declared.kind.Arrow.TheVariants as arrows
use Rattle.verilog_parse.specs.declared.kind.Target.{Target}
use Rattle.verilog_parse.specs.declared.kind.Target.TheVariants as targets
use Rattle.verilog_parse.specs.declared.kind.Section.{Section}
use Rattle.verilog_parse.specs.declared.kind.Section.TheVariants as sections
use Rattle.verilog_parse.specs.Forms.{Is, Gives, Sign, Word, AName, ACount, Closed, AnAssign}

abbrev pub comma_or_close : TokenKind → Option Bool
comma_or_close (kind.Symbol symbol.Comma) = Some true
comma_or_close (kind.Symbol symbol.Close) = Some false
comma_or_close _ = None

abbrev pub heading : TokenKind → Span → Option Head
heading (kind.Symbol symbol.OpenSquare) s = Some heads.Square
heading kind.Name s = Some (heads.Name s)
heading kind.Clock s = Some (heads.Name s)
heading _ s = None

abbrev pub leading : TokenKind → Span → Option PortLead
leading (kind.Keyword keyword.Wire) s = Some leads.Wire
leading (kind.Symbol symbol.OpenSquare) s = Some (leads.Head heads.Square)
leading kind.Name s = Some (leads.Head (heads.Name s))
leading kind.Clock s = Some (leads.Head (heads.Name s))
leading _ s = None

abbrev pub tailing : TokenKind → Option Tail
tailing (kind.Symbol symbol.Semicolon) = Some tails.End
tailing (kind.Symbol symbol.OpenSquare) = Some tails.Words
tailing _ = None

abbrev pub arrowing : TokenKind → Option Arrow
arrowing (kind.Symbol symbol.LessEqual) = Some arrows.Takes
arrowing (kind.Symbol symbol.OpenSquare) = Some arrows.Index
arrowing _ = None

abbrev pub targeting : TokenKind → Span → Option Target
targeting kind.Name s = Some (targets.Name s)
targeting kind.Clock s = Some (targets.Name s)
targeting (kind.Keyword keyword.End) s = Some targets.End
targeting _ s = None

-- the first words of all sections, of those after the declarations, and of the last one
abbrev pub section_of : TokenKind → Option Section
section_of (kind.Keyword keyword.Wire) = Some sections.Wire
section_of (kind.Keyword keyword.Reg) = Some sections.Reg
section_of (kind.Keyword keyword.Assign) = Some sections.Assign
section_of (kind.Keyword keyword.Always) = Some sections.Always
section_of (kind.Keyword keyword.EndModule) = Some sections.End
section_of _ = None

abbrev pub statement_of : TokenKind → Option Section
statement_of (kind.Keyword keyword.Assign) = Some sections.Assign
statement_of (kind.Keyword keyword.Always) = Some sections.Always
statement_of (kind.Keyword keyword.EndModule) = Some sections.End
statement_of _ = None

abbrev pub last_of : TokenKind → Option Section
last_of (kind.Keyword keyword.EndModule) = Some sections.End
last_of _ = None

abbrev pub section_after : Section → TokenKind → Option Section
section_after sections.Wire k = section_of k
section_after sections.Reg k = section_of k
section_after sections.Assign k = statement_of k
section_after sections.Always k = last_of k
section_after sections.End k = None

-- a range after its "["
abbrev pub ABits : Phrases Token Range
ABits = Then ACount (λ a. Then (Sign symbol.Colon) (λ _. Then ACount (λ b. Then (Sign symbol.CloseSquare) (λ _. Done (record { first = a; second = b })))))

abbrev pub AfterHead : Head → Phrases Token RangedName
AfterHead heads.Square = Then ABits (λ r. Then AName (λ n. Done (record { bits = Some r; name = n })))
AfterHead (heads.Name n) = Done (record { bits = None; name = n })

-- a name with its range, where one is written
abbrev pub ARanged : Phrases Token RangedName
ARanged = Then (One (Gives heading)) (λ h. AfterHead h)

abbrev pub AfterLead : PortLead → Phrases Token RangedName
AfterLead leads.Wire = ARanged
AfterLead (leads.Head h) = AfterHead h

abbrev pub APort : Phrases Token WrittenPort
APort = Then (One (Gives (λ k s. directed k))) (λ d. Then (One (Gives leading)) (λ l. Then (AfterLead l) (λ r. Done (record { direction = d; bits = r.bits; name = r.name }))))

-- ports with commas between them, and ")"
abbrev pub Ports : Phrases Token (List WrittenPort)
Ports = Listed APort (λ t. comma_or_close t.kind)

-- what follows "wire" and after "reg"
abbrev pub AWire : Phrases Token WrittenDeclaration
AWire = Then ARanged (λ r. Then (Sign symbol.Semicolon) (λ _. Done (record { sort = sort.Wire; bits = r.bits; name = r.name })))

abbrev pub AfterReg : RangedName → Tail → Phrases Token WrittenDeclaration
AfterReg r tails.End = Done (record { sort = sort.Reg; bits = r.bits; name = r.name })
AfterReg r tails.Words = Then ABits (λ w. Then (Sign symbol.Semicolon) (λ _. Done (record { sort = sort.Array w; bits = r.bits; name = r.name })))

abbrev pub AReg : Phrases Token WrittenDeclaration
AReg = Then ARanged (λ r. Then (One (Gives (λ k s. tailing k))) (λ t. AfterReg r t))

abbrev pub AfterArrow : Span → Arrow → Phrases Token WrittenUpdate
AfterArrow n arrows.Takes = Then (Closed symbol.Semicolon) (λ a. Done (update.Set n a))
AfterArrow n arrows.Index = Then (Closed symbol.CloseSquare) (λ i. Then (Sign symbol.LessEqual) (λ _. Then (Closed symbol.Semicolon) (λ a. Done (update.Put n i a))))

-- what follows the name of what is updated
abbrev pub AnUpdate : Span → Phrases Token WrittenUpdate
AnUpdate n = Then (One (Gives (λ k s. arrowing k))) (λ a. AfterArrow n a)

-- nothing follows the end of the block
abbrev pub AfterTarget : Target → Phrases Token WrittenUpdate
AfterTarget (targets.Name n) = AnUpdate n
AfterTarget targets.End = λ ts u rest. ⊥

abbrev pub is_end : Target → Bool
is_end (targets.Name n) = false
is_end targets.End = true

abbrev pub next_target : Target → Token → Option Target
next_target m t = targeting t.kind t.span

abbrev pub UpdatesFrom : Target → Phrases Token (List WrittenUpdate)
UpdatesFrom m = Chain AfterTarget next_target is_end m

-- updates, and "end"
abbrev pub Updates : Phrases Token (List WrittenUpdate)
Updates = Then (One (Gives targeting)) UpdatesFrom

-- "@" "(" "posedge" "clk"
abbrev pub ATrigger : Phrases Token (Unit {0})
ATrigger = Then (Sign symbol.At) (λ _. Then (Sign symbol.Open) (λ _. Then (Word keyword.Posedge) (λ _. One (Is kind.Clock))))

-- what follows "always"
abbrev pub ABlock : Phrases Token (List WrittenUpdate)
ABlock = Then ATrigger (λ _. Then (Sign symbol.Close) (λ _. Then (Word keyword.Begin) (λ _. Updates)))

-- a section that was read
pub data Piece : Type 0 where
  declaration : WrittenDeclaration → Piece
  assign : WrittenAssign → Piece
  block : List WrittenUpdate → Piece

abbrev pub AfterSection : Section → Phrases Token Piece
AfterSection sections.Wire = Then AWire (λ d. Done (declaration d))
AfterSection sections.Reg = Then AReg (λ d. Done (declaration d))
AfterSection sections.Assign = Then AnAssign (λ a. Done (assign a))
AfterSection sections.Always = Then ABlock (λ us. Done (block us))
AfterSection sections.End = λ ts p rest. ⊥

abbrev pub is_last : Section → Bool
is_last sections.Wire = false
is_last sections.Reg = false
is_last sections.Assign = false
is_last sections.Always = false
is_last sections.End = true

abbrev pub next_section : Section → Token → Option Section
next_section m t = section_after m t.kind

abbrev pub SectionsFrom : Section → Phrases Token (List Piece)
SectionsFrom m = Chain AfterSection next_section is_last m

-- sections, and "endmodule"
abbrev pub Sections : Phrases Token (List Piece)
Sections = Then (One (Gives (λ k s. section_of k))) SectionsFrom

-- what the sections say
abbrev pub gather : {X : Type 0} → (Piece → List X) → List Piece → List X
gather f [] = []
gather f (p ∷ ps) = f p ++ gather f ps

abbrev pub declared : Piece → List WrittenDeclaration
declared (declaration d) = d ∷ []
declared (assign a) = []
declared (block us) = []

abbrev pub assigned : Piece → List WrittenAssign
assigned (declaration d) = []
assigned (assign a) = a ∷ []
assigned (block us) = []

abbrev pub updated : Piece → List WrittenUpdate
updated (declaration d) = []
updated (assign a) = []
updated (block us) = us

-- "module" NAME "("
abbrev pub AHeadline : Phrases Token Span
AHeadline = Then (Word keyword.Module) (λ _. Then AName (λ n. Then (Sign symbol.Open) (λ _. Done n)))

abbrev pub source_with : Span → List WrittenPort → List Piece → Source
source_with n ps pieces = record { name = n; ports = ps; declarations = gather declared pieces; assigns = gather assigned pieces; updates = gather updated pieces }

-- the name and the ports
abbrev pub AHead : Phrases Token Source
AHead = Then AHeadline (λ n. Then Ports (λ ps. Then (Sign symbol.Semicolon) (λ _. Done (source_with n ps []))))

-- a module and the end of the text
abbrev pub AModule : Phrases Token Source
AModule = Then AHead (λ h. Then Sections (λ pieces. Then (One (Is kind.End)) (λ _. Done (source_with h.name h.ports pieces))))

-- these sections more are written
pub record Adds (pieces : List Piece) (old new : Written) : Type 0 where
  pub name : new.name ≡ old.name
  pub ports : new.ports.items ≡ old.ports.items
  pub declarations : new.declarations.items ≡ old.declarations.items ++ gather declared pieces
  pub assigns : new.assigns.items ≡ old.assigns.items ++ gather assigned pieces
  pub updates : new.updates.items ≡ old.updates.items ++ gather updated pieces
