-- The forms are clear.
use Rattle.std.proofs.Common.{◌≡◌, ◌++◌, List, [], ◌∷◌, Bool, true, false, refl}
use Rattle.dk_base.specs.declared.span.Span.{Span}
use Rattle.wiring.specs.declared.right.Atom.{Atom}
use Rattle.verilog_text.specs.declared.token.Token.{Token}
use Rattle.verilog_text.specs.declared.token.Symbol.{Symbol}
use Rattle.verilog_text.specs.declared.token.Symbol.TheVariants as symbol
use Rattle.verilog_text.specs.declared.token.Keyword.{Keyword}
use Rattle.verilog_text.specs.declared.token.Keyword.TheVariants as keyword
use Rattle.verilog_text.specs.declared.token.TokenKind.TheVariants as kind
use Rattle.verilog_text.specs.declared.written.Count.{Count}
use Rattle.verilog_parse.specs.declared.kind.RightStart.{RightStart}
use Rattle.verilog_parse.specs.declared.kind.RightStart.TheVariants as start
use Rattle.verilog_parse.specs.declared.kind.Item.{Item}
use Rattle.verilog_parse.specs.declared.kind.Item.TheVariants as items
use Rattle.verilog_parse.specs.declared.kind.Follow.{Follow}
use Rattle.verilog_parse.specs.declared.kind.Follow.TheVariants as follow
use Rattle.verilog_parse.specs.declared.kind.Head.{Head}
use Rattle.verilog_parse.specs.declared.kind.Head.TheVariants as heads
use Rattle.verilog_parse.specs.declared.kind.PortLead.{PortLead}
use Rattle.verilog_parse.specs.declared.kind.PortLead.TheVariants as leads
use Rattle.verilog_parse.specs.declared.kind.Tail.{Tail}
use Rattle.verilog_parse.specs.declared.kind.Tail.TheVariants as tails
use Rattle.verilog_parse.specs.declared.kind.Arrow.{Arrow}
use Rattle.verilog_parse.specs.declared.kind.Arrow.TheVariants as arrows
use Rattle.verilog_parse.specs.declared.kind.Target.{Target}
use Rattle.verilog_parse.specs.declared.kind.Target.TheVariants as targets
use Rattle.verilog_parse.specs.declared.kind.Section.{Section}
use Rattle.verilog_parse.specs.declared.kind.Section.TheVariants as sections
use Rattle.verilog_parse.specs.declared.kind.RangedName.{RangedName}
use Rattle.dk_grammar.specs.Reading.{Phrases, One, Clear, Stuck, end, link}
use Rattle.dk_grammar.proofs.Clears.{clear_one, clear_then, clear_done, clear_listed, extend}
use Rattle.dk_grammar.proofs.Chains.{AllClear, AllLive, clear_chain}
use Rattle.verilog_parse.specs.declared.halt.Halt.{Halt}
use Rattle.verilog_parse.specs.declared.halt.Halt.TheVariants.{Faulty, OutOfMemory}
use Rattle.verilog_parse.specs.Forms.{Halts, Is, Sign, Word, AName, ACount, AnAtom, Closed, Ended, AfterFirst, AfterItem, AfterAtom, AfterBrace, AfterStart, ARight, AnAssign}
use Rattle.verilog_parse.specs.Sections.{comma_or_close, ABits, AfterHead, ARanged, AfterLead, APort, Ports, AWire, AfterReg, AReg, AfterArrow, AnUpdate, AfterTarget, is_end, next_target, UpdatesFrom, Updates, ATrigger, ABlock, AfterSection, is_last, next_section, SectionsFrom, Sections, AHeadline, AHead}
use Rattle.verilog_parse.proofs.Fronts as F

pub halts : {U V : Type 0} {P : Phrases Token U} {Q : Phrases Token V} {mid ts : List Token} → ((at : List Token) → Stuck P mid at → Stuck Q ts at) → (at : List Token) (e : Halt) → Halts P mid at e → Halts Q ts at e
halts f at Faulty h = f at h
halts f at OutOfMemory h = tt

pub sign : (s : Symbol) → Clear (Sign s)
sign s = clear_one (F.is_class (kind.Symbol s))

pub word : (w : Keyword) → Clear (Word w)
word w = clear_one (F.is_class (kind.Keyword w))

pub name : Clear AName
name = clear_one F.name_class

pub count : Clear ACount
count = clear_one F.count_class

pub atomic : Clear AnAtom
atomic = clear_one F.atom_class

pub closed : (s : Symbol) → Clear (Closed s)
closed s = clear_then atomic (λ a. clear_then (sign s) (λ u. clear_done a))

pub ended : (s : Symbol) → Clear (Ended s)
ended s = clear_then (sign s) (λ u. sign symbol.Semicolon)

pub after_first : (n : Span) (k : Count) (b : Bool) → Clear (AfterFirst n k b)
after_first n k true = clear_then count (λ l. clear_then (ended symbol.CloseSquare) (λ u. clear_done _))
after_first n k false = clear_then (sign symbol.Semicolon) (λ u. clear_done _)

pub after_item : (n : Span) (i : Item) → Clear (AfterItem n i)
after_item n (items.Count k) = clear_then (clear_one F.colon_or_close_class) (λ b. after_first n k b)
after_item n (items.Atom i) = clear_then (ended symbol.CloseSquare) (λ u. clear_done _)

pub after_atom : (a : Atom Span) (f : Follow) → Clear (AfterAtom a f)
after_atom a follow.End = clear_done _
after_atom a (follow.Operator o) = clear_then (closed symbol.Semicolon) (λ b. clear_done _)
after_atom a follow.Question = clear_then (closed symbol.Colon) (λ b. clear_then (closed symbol.Semicolon) (λ c. clear_done _))
after_atom a (follow.Square n) = clear_then (clear_one F.item_class) (λ i. after_item n i)

pub after_brace : (i : Item) → Clear (AfterBrace i)
after_brace (items.Count n) = clear_then (sign symbol.OpenBrace) (λ u. clear_then (closed symbol.CloseBrace) (λ a. clear_then (ended symbol.CloseBrace) (λ x. clear_done _)))
after_brace (items.Atom a) = clear_then (sign symbol.Comma) (λ u. clear_then atomic (λ b. clear_then (ended symbol.CloseBrace) (λ x. clear_done _)))

pub after_start : (s : RightStart) → Clear (AfterStart s)
after_start start.Tilde = clear_then (closed symbol.Semicolon) (λ a. clear_done _)
after_start start.Brace = clear_then (clear_one F.item_class) (λ i. after_brace i)
after_start (start.Atom a) = clear_then (clear_one (F.follow_class a)) (λ f. after_atom a f)

pub a_right : Clear ARight
a_right = clear_then (clear_one F.start_class) (λ s. after_start s)

pub an_assign : Clear AnAssign
an_assign = clear_then name (λ n. clear_then (sign symbol.Equal) (λ x. clear_then a_right (λ r. clear_done _)))

pub bits : Clear ABits
bits = clear_then count (λ a. clear_then (sign symbol.Colon) (λ x. clear_then count (λ b. clear_then (sign symbol.CloseSquare) (λ y. clear_done _))))

pub after_head : (h : Head) → Clear (AfterHead h)
after_head heads.Square = clear_then bits (λ r. clear_then name (λ n. clear_done _))
after_head (heads.Name n) = clear_done _

pub ranged : Clear ARanged
ranged = clear_then (clear_one F.head_class) (λ h. after_head h)

pub after_lead : (l : PortLead) → Clear (AfterLead l)
after_lead leads.Wire = ranged
after_lead (leads.Head h) = after_head h

pub port : Clear APort
port = clear_then (clear_one F.direction_class) (λ d. clear_then (clear_one F.lead_class) (λ l. clear_then (after_lead l) (λ r. clear_done _)))

pub ports : Clear Ports
ports = clear_listed {P = APort} {f = λ t. comma_or_close t.kind} F.close refl port

pub a_wire : Clear AWire
a_wire = clear_then ranged (λ r. clear_then (sign symbol.Semicolon) (λ u. clear_done _))

pub after_reg : (r : RangedName) (t : Tail) → Clear (AfterReg r t)
after_reg r tails.End = clear_done _
after_reg r tails.Words = clear_then bits (λ w. clear_then (sign symbol.Semicolon) (λ u. clear_done _))

pub a_reg : Clear AReg
a_reg = clear_then ranged (λ r. clear_then (clear_one F.tail_class) (λ t. after_reg r t))

pub after_arrow : (n : Span) (a : Arrow) → Clear (AfterArrow n a)
after_arrow n arrows.Takes = clear_then (closed symbol.Semicolon) (λ a. clear_done _)
after_arrow n arrows.Index = clear_then (closed symbol.CloseSquare) (λ i. clear_then (sign symbol.LessEqual) (λ u. clear_then (closed symbol.Semicolon) (λ a. clear_done _)))

pub an_update : (n : Span) → Clear (AnUpdate n)
an_update n = clear_then (clear_one F.arrow_class) (λ a. after_arrow n a)

pub targets_clear : AllClear AfterTarget is_end
targets_clear (targets.Name n) h = an_update n
targets_clear targets.End h = absurd (cc)

pub targets_live : AllLive AfterTarget next_target is_end
targets_live (targets.Name n) = let s = (an_update n).some in (s.0 ++ F.end_word ∷ [], s.1 ∷ [], link refl (extend (an_update n) s.2 (F.end_word ∷ [])) refl refl (end refl))
targets_live targets.End = ([], [], end refl)

pub updates_from : (m : Target) → Clear (UpdatesFrom m)
updates_from m = clear_chain m targets_clear targets_live

pub updates : Clear Updates
updates = clear_then (clear_one F.target_class) (λ m. updates_from m)

pub trigger : Clear ATrigger
trigger = clear_then (sign symbol.At) (λ a. clear_then (sign symbol.Open) (λ b. clear_then (word keyword.Posedge) (λ c. clear_one (F.is_class kind.Clock))))

pub a_block : Clear ABlock
a_block = clear_then trigger (λ a. clear_then (sign symbol.Close) (λ b. clear_then (word keyword.Begin) (λ c. updates)))

pub after_section : (m : Section) → is_last m ≡ false → Clear (AfterSection m)
after_section sections.Wire h = clear_then a_wire (λ d. clear_done _)
after_section sections.Reg h = clear_then a_reg (λ d. clear_done _)
after_section sections.Assign h = clear_then an_assign (λ a. clear_done _)
after_section sections.Always h = clear_then a_block (λ us. clear_done _)
after_section sections.End h = absurd (cc)

pub sections_live : AllLive AfterSection next_section is_last
sections_live sections.Wire = let c = after_section sections.Wire refl in let s = c.some in (s.0 ++ F.last_word ∷ [], s.1 ∷ [], link refl (extend c s.2 (F.last_word ∷ [])) refl refl (end refl))
sections_live sections.Reg = let c = after_section sections.Reg refl in let s = c.some in (s.0 ++ F.last_word ∷ [], s.1 ∷ [], link refl (extend c s.2 (F.last_word ∷ [])) refl refl (end refl))
sections_live sections.Assign = let c = after_section sections.Assign refl in let s = c.some in (s.0 ++ F.last_word ∷ [], s.1 ∷ [], link refl (extend c s.2 (F.last_word ∷ [])) refl refl (end refl))
sections_live sections.Always = let c = after_section sections.Always refl in let s = c.some in (s.0 ++ F.last_word ∷ [], s.1 ∷ [], link refl (extend c s.2 (F.last_word ∷ [])) refl refl (end refl))
sections_live sections.End = ([], [], end refl)

pub sections_from : (m : Section) → Clear (SectionsFrom m)
sections_from m = clear_chain m after_section sections_live

pub sections_all : Clear Sections
sections_all = clear_then (clear_one F.section_class) (λ m. sections_from m)

pub headline : Clear AHeadline
headline = clear_then (word keyword.Module) (λ u. clear_then name (λ n. clear_then (sign symbol.Open) (λ x. clear_done _)))

pub head : Clear AHead
head = clear_then headline (λ n. clear_then ports (λ ps. clear_then (sign symbol.Semicolon) (λ u. clear_done _)))

pub the_end : Clear (One (Is kind.End))
the_end = clear_one (F.is_class kind.End)
