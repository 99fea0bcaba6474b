-- Tokens up to the end of a text are a module, or one of them is faulty.
use Rattle.std.proofs.Common.{◌≡◌, ◌⊎◌, inl, inr, ℕ, suc, List, [], ◌∷◌, ◌++◌, length, length-append, take, arith, None, Bool, true, false, Some, refl, ap, sym, ◌∙◌, subst, append_assoc}
use Rattle.dk_base.specs.declared.span.Span.{Span}
use Rattle.wiring.specs.declared.right.Atom.{Atom}
use Rattle.wiring.specs.declared.right.Atom.TheVariants as atom
use Rattle.wiring.specs.declared.right.Operator.{Operator}
use Rattle.dk_grammar.specs.Reading.{One, Then, Done, Clear, Stuck, IsFaulty}
use Rattle.dk_grammar.proofs.Clears.{append_nil, first_same, rest_same, clear_one, clear_then, clear_done}
use Rattle.dk_grammar.proofs.Stucks.{faulty}
use Rattle.verilog_text.specs.declared.token.Token.{Token}
use Rattle.verilog_text.specs.declared.token.Symbol.{Symbol}
use Rattle.verilog_text.specs.declared.token.Symbol.TheVariants as symbol
use Rattle.verilog_text.specs.declared.token.Keyword.TheVariants as keyword
use Rattle.verilog_text.specs.declared.token.TokenKind.{TokenKind}
use Rattle.verilog_text.specs.declared.token.TokenKind.TheVariants as kind
use Rattle.verilog_text.specs.declared.written.Count.{Count}
use Rattle.verilog_text.specs.declared.written.WrittenRight.TheVariants as right
use Rattle.verilog_text.specs.Grammar.{named, atomic, counted, directed, Source, Module}
use Rattle.verilog_text.specs.Faults.{IsModule}
use Rattle.verilog_parse.specs.Forms.{Is, Gives, starting, item, following, colon_or_close, Sign, AName, ACount, AnAtom, Closed, Ended, AfterFirst, AfterItem, AfterAtom, AfterBrace, AfterStart, ARight, AnAssign}
use Rattle.verilog_parse.specs.Sections.{comma_or_close, heading, leading, tailing, arrowing, targeting, section_of, statement_of, last_of, section_after, ABits, AfterHead, ARanged, AfterLead, APort, Ports, AWire, AfterReg, AReg, AfterArrow, AnUpdate, AfterTarget, is_end, Updates, ATrigger, ABlock, AfterSection, is_last, Sections, AHeadline, AHead, AModule, Piece, source_with}
use Rattle.verilog_parse.proofs.Fronts as F
use Rattle.verilog_parse.proofs.Shapes as C
use Rattle.verilog_parse.proofs.AgreeModule.{to_module, faulty_module}
use Rattle.verilog_verdicts.proofs.Readers.{Read, Reader, Endless, leaves_then, Decides, then_read, kind_read, then_reader, done_reader, kind_reader, class_reader, choice_reader, chosen, listed_reader, chain_reader}

-- Single tokens.
is_semicolon : Decides (kind.Symbol symbol.Semicolon)
is_semicolon (kind.Symbol symbol.Semicolon) = inl refl
is_semicolon _ = inr (λ e. cc)

is_colon : Decides (kind.Symbol symbol.Colon)
is_colon (kind.Symbol symbol.Colon) = inl refl
is_colon _ = inr (λ e. cc)

is_comma : Decides (kind.Symbol symbol.Comma)
is_comma (kind.Symbol symbol.Comma) = inl refl
is_comma _ = inr (λ e. cc)

is_equal : Decides (kind.Symbol symbol.Equal)
is_equal (kind.Symbol symbol.Equal) = inl refl
is_equal _ = inr (λ e. cc)

is_less_equal : Decides (kind.Symbol symbol.LessEqual)
is_less_equal (kind.Symbol symbol.LessEqual) = inl refl
is_less_equal _ = inr (λ e. cc)

is_at : Decides (kind.Symbol symbol.At)
is_at (kind.Symbol symbol.At) = inl refl
is_at _ = inr (λ e. cc)

is_open : Decides (kind.Symbol symbol.Open)
is_open (kind.Symbol symbol.Open) = inl refl
is_open _ = inr (λ e. cc)

is_close : Decides (kind.Symbol symbol.Close)
is_close (kind.Symbol symbol.Close) = inl refl
is_close _ = inr (λ e. cc)

is_close_square : Decides (kind.Symbol symbol.CloseSquare)
is_close_square (kind.Symbol symbol.CloseSquare) = inl refl
is_close_square _ = inr (λ e. cc)

is_open_brace : Decides (kind.Symbol symbol.OpenBrace)
is_open_brace (kind.Symbol symbol.OpenBrace) = inl refl
is_open_brace _ = inr (λ e. cc)

is_close_brace : Decides (kind.Symbol symbol.CloseBrace)
is_close_brace (kind.Symbol symbol.CloseBrace) = inl refl
is_close_brace _ = inr (λ e. cc)

is_module_word : Decides (kind.Keyword keyword.Module)
is_module_word (kind.Keyword keyword.Module) = inl refl
is_module_word _ = inr (λ e. cc)

is_posedge : Decides (kind.Keyword keyword.Posedge)
is_posedge (kind.Keyword keyword.Posedge) = inl refl
is_posedge _ = inr (λ e. cc)

is_begin : Decides (kind.Keyword keyword.Begin)
is_begin (kind.Keyword keyword.Begin) = inl refl
is_begin _ = inr (λ e. cc)

is_clock : Decides kind.Clock
is_clock kind.Clock = inl refl
is_clock _ = inr (λ e. cc)

is_end_of_text : Decides kind.End
is_end_of_text kind.End = inl refl
is_end_of_text _ = inr (λ e. cc)

sign : (s : Symbol) → Decides (kind.Symbol s) → Reader (Sign s)
sign s d = kind_reader (kind.Symbol s) d (λ e. cc)

semicolon : Reader (Sign symbol.Semicolon)
semicolon = sign symbol.Semicolon is_semicolon

name : Reader AName
name = class_reader named F.name_class (λ s. refl)

count : Reader ACount
count = class_reader counted F.count_class (λ s. refl)

an_atom : Reader AnAtom
an_atom = class_reader atomic F.atom_class (λ s. refl)

an_item : Reader (One (Gives item))
an_item = class_reader item F.item_class (λ s. refl)

-- Right sides.
closed : (s : Symbol) → Decides (kind.Symbol s) → Reader (Closed s)
closed s d = then_reader an_atom (λ a. then_reader (sign s d) (λ u. done_reader a))

ended : (s : Symbol) → Decides (kind.Symbol s) → Reader (Ended s)
ended s d = then_reader (sign s d) (λ u. semicolon)

after_first : (n : Span) (k : Count) (b : Bool) → Reader (AfterFirst n k b)
after_first n k true = then_reader count (λ l. then_reader (ended symbol.CloseSquare is_close_square) (λ u. done_reader _))
after_first n k false = then_reader semicolon (λ u. done_reader _)

after_index : (n : Span) (i : Atom Span) → Reader (Then (Ended symbol.CloseSquare) (λ u. Done (right.Word n i)))
after_index n i = then_reader (ended symbol.CloseSquare is_close_square) (λ u. done_reader _)

after_item : (n : Span) (k : TokenKind) (s : Span) (i : _) → item k s ≡ Some i → Reader (AfterItem n i)
after_item n (kind.Plain v) s i e = chosen (λ x. Reader (AfterItem n x)) _ _ e (then_reader (class_reader (λ x s. colon_or_close x) F.colon_or_close_class (λ s. refl)) (λ b. after_first n (record { value = v; span = s }) b))
after_item n kind.Name s i e = chosen (λ x. Reader (AfterItem n x)) _ _ e (after_index n _)
after_item n kind.Clock s i e = chosen (λ x. Reader (AfterItem n x)) _ _ e (after_index n _)
after_item n (kind.Sized c) s i e = chosen (λ x. Reader (AfterItem n x)) _ _ e (after_index n _)
after_item n _ s i e = absurd (let no : None ≡ Some i = e in cc)

operated : (o : Operator) (a : Atom Span) → Reader (Then (Closed symbol.Semicolon) (λ b. Done (right.Binary o a b)))
operated o a = then_reader (closed symbol.Semicolon is_semicolon) (λ b. done_reader _)

after_atom : (a : Atom Span) (k : TokenKind) (f : _) → following a k ≡ Some f → Reader (AfterAtom a f)
after_atom a (kind.Symbol symbol.Semicolon) f e = chosen (λ x. Reader (AfterAtom a x)) _ _ e (done_reader _)
after_atom a (kind.Symbol symbol.Question) f e = chosen (λ x. Reader (AfterAtom a x)) _ _ e (then_reader (closed symbol.Colon is_colon) (λ b. then_reader (closed symbol.Semicolon is_semicolon) (λ c. done_reader _)))
after_atom a (kind.Symbol symbol.Plus) f e = chosen (λ x. Reader (AfterAtom a x)) _ _ e (operated _ a)
after_atom a (kind.Symbol symbol.Minus) f e = chosen (λ x. Reader (AfterAtom a x)) _ _ e (operated _ a)
after_atom a (kind.Symbol symbol.Star) f e = chosen (λ x. Reader (AfterAtom a x)) _ _ e (operated _ a)
after_atom a (kind.Symbol symbol.Slash) f e = chosen (λ x. Reader (AfterAtom a x)) _ _ e (operated _ a)
after_atom a (kind.Symbol symbol.Less) f e = chosen (λ x. Reader (AfterAtom a x)) _ _ e (operated _ a)
after_atom a (kind.Symbol symbol.EqualEqual) f e = chosen (λ x. Reader (AfterAtom a x)) _ _ e (operated _ a)
after_atom a (kind.Symbol symbol.Ampersand) f e = chosen (λ x. Reader (AfterAtom a x)) _ _ e (operated _ a)
after_atom a (kind.Symbol symbol.Bar) f e = chosen (λ x. Reader (AfterAtom a x)) _ _ e (operated _ a)
after_atom a (kind.Symbol symbol.Caret) f e = chosen (λ x. Reader (AfterAtom a x)) _ _ e (operated _ a)
after_atom (atom.Net n) (kind.Symbol symbol.OpenSquare) f e =
    chosen (λ x. Reader (AfterAtom (atom.Net n) x)) _ _ e (choice_reader item F.item_class (λ s. refl) (λ i. C.after_item n i) (λ k s i h. after_item n k s i h))
after_atom a _ f e = absurd (let no : None ≡ Some f = e in cc)

joined : (a : Atom Span) → Reader (Then (Sign symbol.Comma) (λ u. Then AnAtom (λ b. Then (Ended symbol.CloseBrace) (λ x. Done (right.Join a b)))))
joined a = then_reader (sign symbol.Comma is_comma) (λ u. then_reader an_atom (λ b. then_reader (ended symbol.CloseBrace is_close_brace) (λ x. done_reader _)))

after_brace : (k : TokenKind) (s : Span) (i : _) → item k s ≡ Some i → Reader (AfterBrace i)
after_brace (kind.Plain v) s i e =
    chosen (λ x. Reader (AfterBrace x)) _ _ e (then_reader (sign symbol.OpenBrace is_open_brace) (λ u. then_reader (closed symbol.CloseBrace is_close_brace) (λ a. then_reader (ended symbol.CloseBrace is_close_brace) (λ x. done_reader _))))
after_brace kind.Name s i e = chosen (λ x. Reader (AfterBrace x)) _ _ e (joined _)
after_brace kind.Clock s i e = chosen (λ x. Reader (AfterBrace x)) _ _ e (joined _)
after_brace (kind.Sized c) s i e = chosen (λ x. Reader (AfterBrace x)) _ _ e (joined _)
after_brace _ s i e = absurd (let no : None ≡ Some i = e in cc)

followed : (a : Atom Span) → Reader (Then (One (Gives (λ k s. following a k))) (λ f. AfterAtom a f))
followed a = choice_reader (λ k s. following a k) (F.follow_class a) (λ s. refl) (λ f. C.after_atom a f) (λ k s f e. after_atom a k f e)

after_start : (k : TokenKind) (s : Span) (v : _) → starting k s ≡ Some v → Reader (AfterStart v)
after_start (kind.Symbol symbol.Tilde) s v e = chosen (λ x. Reader (AfterStart x)) _ _ e (then_reader (closed symbol.Semicolon is_semicolon) (λ a. done_reader _))
after_start (kind.Symbol symbol.OpenBrace) s v e = chosen (λ x. Reader (AfterStart x)) _ _ e (choice_reader item F.item_class (λ s. refl) (λ i. C.after_brace i) after_brace)
after_start kind.Name s v e = chosen (λ x. Reader (AfterStart x)) _ _ e (followed _)
after_start kind.Clock s v e = chosen (λ x. Reader (AfterStart x)) _ _ e (followed _)
after_start (kind.Sized c) s v e = chosen (λ x. Reader (AfterStart x)) _ _ e (followed _)
after_start _ s v e = absurd (let no : None ≡ Some v = e in cc)

a_right : Reader ARight
a_right = choice_reader starting F.start_class (λ s. refl) (λ v. C.after_start v) after_start

an_assign : Reader AnAssign
an_assign = then_reader name (λ n. then_reader (sign symbol.Equal is_equal) (λ x. then_reader a_right (λ r. done_reader _)))

-- Ports and declarations.
bits : Reader ABits
bits = then_reader count (λ a. then_reader (sign symbol.Colon is_colon) (λ x. then_reader count (λ b. then_reader (sign symbol.CloseSquare is_close_square) (λ y. done_reader _))))

after_head : (k : TokenKind) (s : Span) (h : _) → heading k s ≡ Some h → Reader (AfterHead h)
after_head (kind.Symbol symbol.OpenSquare) s h e = chosen (λ x. Reader (AfterHead x)) _ _ e (then_reader bits (λ r. then_reader name (λ n. done_reader _)))
after_head kind.Name s h e = chosen (λ x. Reader (AfterHead x)) _ _ e (done_reader _)
after_head kind.Clock s h e = chosen (λ x. Reader (AfterHead x)) _ _ e (done_reader _)
after_head _ s h e = absurd (let no : None ≡ Some h = e in cc)

ranged : Reader ARanged
ranged = choice_reader heading F.head_class (λ s. refl) (λ h. C.after_head h) after_head

after_lead : (k : TokenKind) (s : Span) (l : _) → leading k s ≡ Some l → Reader (AfterLead l)
after_lead (kind.Keyword keyword.Wire) s l e = chosen (λ x. Reader (AfterLead x)) _ _ e ranged
after_lead (kind.Symbol symbol.OpenSquare) s l e = chosen (λ x. Reader (AfterLead x)) _ _ e (then_reader bits (λ r. then_reader name (λ n. done_reader _)))
after_lead kind.Name s l e = chosen (λ x. Reader (AfterLead x)) _ _ e (done_reader _)
after_lead kind.Clock s l e = chosen (λ x. Reader (AfterLead x)) _ _ e (done_reader _)
after_lead _ s l e = absurd (let no : None ≡ Some l = e in cc)

port : Reader APort
port =
    then_reader (class_reader (λ k s. directed k) F.direction_class (λ s. refl)) (λ d.
    choice_reader leading F.lead_class (λ s. refl) (λ l. clear_then (C.after_lead l) (λ r. clear_done _)) (λ k s l e. then_reader (after_lead k s l e) (λ r. done_reader _)))

ports : Reader Ports
ports = listed_reader APort comma_or_close port (class_reader (λ k s. comma_or_close k) F.comma_or_close_class (λ s. refl)) F.close refl

a_wire : Reader AWire
a_wire = then_reader ranged (λ r. then_reader semicolon (λ u. done_reader _))

after_reg : (r : _) (k : TokenKind) (t : _) → tailing k ≡ Some t → Reader (AfterReg r t)
after_reg r (kind.Symbol symbol.Semicolon) t e = chosen (λ x. Reader (AfterReg r x)) _ _ e (done_reader _)
after_reg r (kind.Symbol symbol.OpenSquare) t e = chosen (λ x. Reader (AfterReg r x)) _ _ e (then_reader bits (λ w. then_reader semicolon (λ u. done_reader _)))
after_reg r _ t e = absurd (let no : None ≡ Some t = e in cc)

a_reg : Reader AReg
a_reg = then_reader ranged (λ r. choice_reader (λ k s. tailing k) F.tail_class (λ s. refl) (λ t. C.after_reg r t) (λ k s t e. after_reg r k t e))

-- Updates.
after_arrow : (n : Span) (k : TokenKind) (a : _) → arrowing k ≡ Some a → Reader (AfterArrow n a)
after_arrow n (kind.Symbol symbol.LessEqual) a e = chosen (λ x. Reader (AfterArrow n x)) _ _ e (then_reader (closed symbol.Semicolon is_semicolon) (λ x. done_reader _))
after_arrow n (kind.Symbol symbol.OpenSquare) a e =
    chosen (λ x. Reader (AfterArrow n x)) _ _ e (then_reader (closed symbol.CloseSquare is_close_square) (λ i. then_reader (sign symbol.LessEqual is_less_equal) (λ u. then_reader (closed symbol.Semicolon is_semicolon) (λ x. done_reader _))))
after_arrow n _ a e = absurd (let no : None ≡ Some a = e in cc)

an_update : (n : Span) → Reader (AnUpdate n)
an_update n = choice_reader (λ k s. arrowing k) F.arrow_class (λ s. refl) (λ a. C.after_arrow n a) (λ k s a e. after_arrow n k a e)

after_target : (k : TokenKind) (s : Span) (m : _) → targeting k s ≡ Some m → is_end m ≡ false → Reader (AfterTarget m)
after_target kind.Name s m e = chosen (λ x. is_end x ≡ false → Reader (AfterTarget x)) _ _ e (λ g. an_update _)
after_target kind.Clock s m e = chosen (λ x. is_end x ≡ false → Reader (AfterTarget x)) _ _ e (λ g. an_update _)
after_target (kind.Keyword keyword.End) s m e = chosen (λ x. is_end x ≡ false → Reader (AfterTarget x)) _ _ e (λ g. absurd (let no : true ≡ false = g in cc))
after_target _ s m e = absurd (let no : None ≡ Some m = e in cc)

a_target : Reader (One (Gives targeting))
a_target = class_reader targeting F.target_class (λ s. refl)

updates : Reader Updates
updates = choice_reader targeting F.target_class (λ s. refl) (λ m. C.updates_from m) (λ k s m e.
    chain_reader AfterTarget (λ m k s. targeting k s) is_end (λ m. (k : TokenKind) × (s : Span) × (targeting k s ≡ Some m)) (λ m n k s h e. (k, s, e)) C.targets_clear C.targets_live
    (λ m h g. after_target h.0 h.1 m h.2 g) (λ m h g. a_target) m (k, s, e))

trigger : Reader ATrigger
trigger =
    then_reader (sign symbol.At is_at) (λ a. then_reader (sign symbol.Open is_open) (λ b. then_reader (kind_reader (kind.Keyword keyword.Posedge) is_posedge (λ e. cc)) (λ c. kind_reader kind.Clock is_clock (λ e. cc))))

a_block : Reader ABlock
a_block = then_reader trigger (λ a. then_reader (sign symbol.Close is_close) (λ b. then_reader (kind_reader (kind.Keyword keyword.Begin) is_begin (λ e. cc)) (λ c. updates)))

-- Sections.
after_section : (k : TokenKind) (m : _) → section_of k ≡ Some m → is_last m ≡ false → Reader (AfterSection m)
after_section (kind.Keyword keyword.Wire) m e = chosen (λ x. is_last x ≡ false → Reader (AfterSection x)) _ _ e (λ g. then_reader a_wire (λ d. done_reader _))
after_section (kind.Keyword keyword.Reg) m e = chosen (λ x. is_last x ≡ false → Reader (AfterSection x)) _ _ e (λ g. then_reader a_reg (λ d. done_reader _))
after_section (kind.Keyword keyword.Assign) m e = chosen (λ x. is_last x ≡ false → Reader (AfterSection x)) _ _ e (λ g. then_reader an_assign (λ d. done_reader _))
after_section (kind.Keyword keyword.Always) m e = chosen (λ x. is_last x ≡ false → Reader (AfterSection x)) _ _ e (λ g. then_reader a_block (λ d. done_reader _))
after_section (kind.Keyword keyword.EndModule) m e = chosen (λ x. is_last x ≡ false → Reader (AfterSection x)) _ _ e (λ g. absurd (let no : true ≡ false = g in cc))
after_section _ m e = absurd (let no : None ≡ Some m = e in cc)

statement_is_section : (k : TokenKind) (n : _) → statement_of k ≡ Some n → section_of k ≡ Some n
statement_is_section (kind.Keyword keyword.Assign) n e = e
statement_is_section (kind.Keyword keyword.Always) n e = e
statement_is_section (kind.Keyword keyword.EndModule) n e = e
statement_is_section _ n e = absurd (let no : None ≡ Some n = e in cc)

last_is_section : (k : TokenKind) (n : _) → last_of k ≡ Some n → section_of k ≡ Some n
last_is_section (kind.Keyword keyword.EndModule) n e = e
last_is_section _ n e = absurd (let no : None ≡ Some n = e in cc)

next_is_section : (j k : TokenKind) (m n : _) → section_of j ≡ Some m → section_after m k ≡ Some n → section_of k ≡ Some n
next_is_section (kind.Keyword keyword.Wire) k m n e = chosen (λ x. section_after x k ≡ Some n → section_of k ≡ Some n) _ _ e (λ h. h)
next_is_section (kind.Keyword keyword.Reg) k m n e = chosen (λ x. section_after x k ≡ Some n → section_of k ≡ Some n) _ _ e (λ h. h)
next_is_section (kind.Keyword keyword.Assign) k m n e = chosen (λ x. section_after x k ≡ Some n → section_of k ≡ Some n) _ _ e (statement_is_section k n)
next_is_section (kind.Keyword keyword.Always) k m n e = chosen (λ x. section_after x k ≡ Some n → section_of k ≡ Some n) _ _ e (last_is_section k n)
next_is_section (kind.Keyword keyword.EndModule) k m n e = chosen (λ x. section_after x k ≡ Some n → section_of k ≡ Some n) _ _ e (λ h. absurd (let no : None ≡ Some n = h in cc))
next_is_section _ k m n e = absurd (let no : None ≡ Some m = e in cc)

no_section : (k : TokenKind) (m : _) → section_of k ≡ Some m → section_after m kind.End ≡ None
no_section (kind.Keyword keyword.Wire) m e = chosen (λ x. section_after x kind.End ≡ None) _ _ e refl
no_section (kind.Keyword keyword.Reg) m e = chosen (λ x. section_after x kind.End ≡ None) _ _ e refl
no_section (kind.Keyword keyword.Assign) m e = chosen (λ x. section_after x kind.End ≡ None) _ _ e refl
no_section (kind.Keyword keyword.Always) m e = chosen (λ x. section_after x kind.End ≡ None) _ _ e refl
no_section (kind.Keyword keyword.EndModule) m e = chosen (λ x. section_after x kind.End ≡ None) _ _ e refl
no_section _ m e = absurd (let no : None ≡ Some m = e in cc)

all_sections : Reader Sections
all_sections = choice_reader (λ k s. section_of k) F.section_class (λ s. refl) (λ m. C.sections_from m) (λ k s m e.
    chain_reader AfterSection (λ m k s. section_after m k) is_last (λ m. (k : TokenKind) × (section_of k ≡ Some m)) (λ m n k s h e. (k, next_is_section h.0 k m n h.1 e)) C.after_section C.sections_live
    (λ m h g. after_section h.0 m h.1 g) (λ m h g. class_reader (λ k s. section_after m k) (F.after_class m g) (λ s. no_section h.0 m h.1)) m (k, e))

headline : Reader AHeadline
headline = then_reader (kind_reader (kind.Keyword keyword.Module) is_module_word (λ e. cc)) (λ x. then_reader name (λ n. then_reader (sign symbol.Open is_open) (λ u. done_reader n)))

head : Reader AHead
head = then_reader headline (λ n. then_reader ports (λ ps. then_reader semicolon (λ u. done_reader _)))

-- The module and the end of the text.
clear_last : (h : Source) (pieces : List Piece) → Clear (Then (One (Is kind.End)) (λ u. Done (source_with h.name h.ports pieces)))
clear_last h pieces = clear_then (clear_one (F.is_class kind.End)) (λ u. clear_done _)

after_head_clear : (h : Source) → Clear (Then Sections (λ pieces. Then (One (Is kind.End)) (λ u. Done (source_with h.name h.ports pieces))))
after_head_clear h = clear_then all_sections.clear (λ pieces. clear_last h pieces)

module_clear : Clear AModule
module_clear = clear_then head.clear after_head_clear

module_read : (ts : List Token) → Read AModule ts
module_read ts =
    then_read ts head.clear after_head_clear (head.reads ts) (λ h mid p.
    then_read mid all_sections.clear (λ pieces. clear_last h pieces) (all_sections.reads mid) (λ pieces after q.
    then_read after (clear_one (F.is_class kind.End)) (λ u. clear_done _) (kind_read kind.End is_end_of_text after) (λ u rest r. inl (_, rest, (refl, refl)))))

-- a module's tokens are those before an end of the text, and that end
pub record Closes (ts rest : List Token) : Type 0 where
  pub before : List Token
  pub last : Token
  pub whole : ts ≡ before ++ last ∷ rest
  pub endless : Endless before
  pub is_end : last.kind ≡ kind.End

closes : {ts rest : List Token} {s : Source} → AModule ts s rest → Closes ts rest
closes {ts = ts} {rest = rest} p =
    let q = p.3 in
    let r = q.3 in
    let t = r.2.0 in
    let own = leaves_then ts p.1 q.1 (head.endless ts p.1 p.0 p.2) (all_sections.endless p.1 q.1 q.0 q.2) in
    record {
      before = own.0;
      last = t;
      whole = own.1 ∙ ap (λ x. own.0 ++ x) (r.2.1 ∙ ap (λ x. t ∷ x) r.3.1);
      endless = own.2;
      is_end = r.2.2;
    }

not_empty : (a b : List Token) (t : Token) → a ++ t ∷ b ≡ [] → ⊥
not_empty [] b t e = cc
not_empty (x ∷ a) b t e = cc

-- nothing is after the end of the text
nothing_after : (o a b : List Token) (e last : Token) → o ++ e ∷ [] ≡ a ++ last ∷ b → Endless o → last.kind ≡ kind.End → b ≡ []
nothing_after [] [] b e last same n k = sym (rest_same e last [] b same)
nothing_after [] (x ∷ a) b e last same n k = absurd (not_empty a b last (sym (rest_same e x [] (a ++ last ∷ b) same)))
nothing_after (y ∷ o) [] b e last same n k = absurd (n.0 (ap (λ z. z.kind) (first_same y last (o ++ e ∷ []) b same) ∙ k))
nothing_after (y ∷ o) (x ∷ a) b e last same n k = nothing_after o a b e last (rest_same y x (o ++ e ∷ []) (a ++ last ∷ b) same) n.1 k

-- tokens up to an end of the text are not stuck at their end
not_behind : (before : List Token) (last : Token) → last.kind ≡ kind.End → Stuck AModule (before ++ last ∷ []) [] → ⊥
not_behind before last k s =
    let whole : before ++ last ∷ [] ≡ s.taken = s.whole ∙ append_nil s.taken in
    let begun : AModule (before ++ last ∷ s.more) s.value [] = subst (λ x. AModule x s.value []) (ap (λ x. x ++ s.more) (sym whole) ∙ append_assoc before (last ∷ []) s.more) s.begins in
    let c = closes begun in
    let none : s.more ≡ [] = nothing_after c.before before s.more c.last last (sym c.whole) c.endless k in
    s.none [] [] s.value refl (subst (λ x. AModule (s.taken ++ x) s.value []) none s.begins)

-- a token after a module is faulty
front_taken : (xs ys : List Token) → take (length xs) (xs ++ ys) ≡ xs
front_taken [] ys = refl
front_taken (x ∷ xs) ys = ap (λ z. x ∷ z) (front_taken xs ys)

one_more_taken : (xs ys : List Token) (t : Token) → take (suc (length xs)) (xs ++ t ∷ ys) ≡ xs ++ t ∷ []
one_more_taken [] ys t = refl
one_more_taken (x ∷ xs) ys t = ap (λ z. x ∷ z) (one_more_taken xs ys t)

behind_module : (ts after : List Token) (t : Token) (s : Source) → AModule ts s (t ∷ after) → (k : ℕ) × IsFaulty (λ w. (v : Source) × AModule w v []) ts k
behind_module ts after t s p =
    let own = module_clear.own p in
    let L : List Token → Type 0 = λ w. (v : Source) × AModule w v [] in (
      length own.0,
      subst (λ x. IsFaulty L x (length own.0)) (sym own.1) (record {
        inside = (let n = length-append own.0 (t ∷ after) in omega (arith, n));
        before = ([], (s, subst (λ x. AModule (x ++ []) s []) (sym (front_taken own.0 (t ∷ after))) (own.2 [])));
        none = λ b.
            let long : AModule (own.0 ++ t ∷ b.0) b.1.0 [] = subst (λ x. AModule x b.1.0 []) (ap (λ x. x ++ b.0) (one_more_taken own.0 after t) ∙ append_assoc own.0 (t ∷ []) b.0) b.1.1 in
            let same = module_clear.one long (own.2 (t ∷ b.0)) in
            let no_rest : [] ≡ t ∷ b.0 = same.1 in
            cc;
      }),
    )

-- tokens up to an end of the text are a module, or one of them is faulty
pub some_source : (before : List Token) (last : Token) → last.kind ≡ kind.End → ((s : Source) × Module (before ++ last ∷ []) s) ⊎ ((k : ℕ) × IsFaulty IsModule (before ++ last ∷ []) k)
some_source before last is = by (module_read (before ++ last ∷ []))
  where
    by : Read AModule (before ++ last ∷ []) → ((s : Source) × Module (before ++ last ∷ []) s) ⊎ ((k : ℕ) × IsFaulty IsModule (before ++ last ∷ []) k)
    by (inl (s, [], p)) = inl (s, to_module p)
    by (inl (s, t ∷ after, p)) = let f = behind_module (before ++ last ∷ []) after t s p in inr (f.0, faulty_module (before ++ last ∷ []) f.0 f.1)
    by (inr ([], s)) = absurd (not_behind before last is s)
    by (inr (t ∷ after, s)) = inr (length s.taken, faulty_module (before ++ last ∷ []) (length s.taken) (faulty AModule (before ++ last ∷ []) after t s))
