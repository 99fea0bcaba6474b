-- Where a program ends, and the faulty token from where the parser stops.
use Rattle.std.proofs.Common.{◌≡◌, ◌≢◌, ◌≤◌, inl, inr, ℕ, suc, List, [], ◌∷◌, ◌++◌, length, Some, None, Bool, true, false, Bor, refl, sym, ap, ◌∙◌, subst, arith}
use Rattle.std.proofs.lemmas.Option.{same_Some}
use Rattle.dk_base.specs.declared.span.Span.{Span}
use Rattle.dk_lexer.specs.declared.token.Token.{Token}
use Rattle.dk_lexer.specs.declared.token.Symbol.TheVariants.{Open, Close, Comma, Colon, Equal}
use Rattle.dk_grammar.specs.Reading.{Stuck, end, link}
use Rattle.dk_grammar.proofs.Clears.{append_nil}
use Rattle.dk_grammar.proofs.Stucks.{faulty}
use Rattle.dk_grammar.proofs.Faulty.{none_faulty}
use Rattle.dk_parser.specs.declared.halt.Halt.{Halt}
use Rattle.dk_parser.specs.declared.halt.Halt.TheVariants.{Faulty}
use Rattle.dk_parser.specs.declared.items.Lead.{Lead}
use Rattle.dk_parser.specs.declared.items.Lead.TheVariants as lead
use Rattle.source_words.specs.declared.word.Keyword.TheVariants as word
use Rattle.dk_parser.specs.declared.terminal.Terminal.{Terminal}
use Rattle.dk_parser.specs.declared.terminal.Terminal.TheVariants.{EndOfText}
use Rattle.dk_parser.specs.declared.terminal.Mark.TheVariants as mark
use Rattle.dk_parser.specs.declared.whole.ParseError.{ParseError}
use Rattle.dk_parser.specs.declared.whole.ParseError.TheVariants.{Nest, Syntax, Depth, OutOfMemory}
use Rattle.dk_parser.specs.Terminals.{terminal}
use Rattle.dk_parser.specs.Words.{Gives}
use Rattle.dk_parser.specs.Ended.{Ended}
use Rattle.dk_parser.specs.Faults.{Halts}
use Rattle.dk_parser.specs.Grammar.{Tokens}
use Rattle.dk_parser.specs.Nest.{unclosed, StaysShallow, PassesAt}
use Rattle.dk_parser.specs.Programs.{Source, Definition, declares, AfterDeclares, ADefinition}
use Rattle.dk_parser.specs.Items.{Item, AnItem, lead_of, next, is_end, Items, AProgram}
use Rattle.dk_parser.specs.Rules.{ProgramRule}
use Rattle.dk_parser.specs.Judged.{Derives, IsProgram, IsFaultyAt, Accepted, AreShallow, first_deep, Faults}
use Rattle.dk_parser.proofs.Depths.{shallow}
use Rattle.dk_parser.proofs.Free.{Free, Front, IsFree, both, one, free_then, free_one, free_done, free_mark, free_name, free_literal, free_type, free_closed, no_more, ended_rest}
use Rattle.dk_parser.proofs.Keeping.{clear_program}
use Rattle.dk_parser.proofs.Ruled.{allowed_some, ends_only, to_rules, from_rules}

no_declares : (k : Terminal) (b : Bool) → declares k ≡ Some b → k ≢ EndOfText
no_declares EndOfText b e h = cc (e)
no_declares _ b e h = cc (h)

free_after : (b : Bool) → IsFree (AfterDeclares b)
free_after true = free_then free_type (λ t. free_then (free_mark (mark.Sign Equal) (λ e. cc)) (λ s. free_done _))
free_after false = free_done _

free_definition : (b : Bool) → IsFree (ADefinition b)
free_definition b =
    free_then free_name (λ n. free_then (free_then (free_one (Gives (λ t. declares (terminal t))) (λ t v p. no_declares (terminal t) v p)) free_after) (λ d.
    free_then (free_then (free_mark (mark.Reserved word.Im) (λ e. cc)) (λ a. free_then (free_mark (mark.Sign Open) (λ e. cc)) (λ f. free_then (free_mark (mark.Reserved word.X) (λ e. cc)) (λ g.
    free_then (free_mark (mark.Sign Comma) (λ e. cc)) (λ h. free_then (free_mark (mark.Reserved word.Y) (λ e. cc)) (λ i. free_mark (mark.Sign Close) (λ e. cc))))))) (λ j.
    free_then (free_closed (mark.Reserved word.End) (λ e. cc)) (λ k. free_done _))))

free_item : (l : Lead) → is_end l ≡ false → IsFree (AnItem l)
free_item lead.Input e = free_then (free_then free_name (λ n. free_then (free_mark (mark.Sign Colon) (λ e. cc)) (λ s. free_then free_type (λ t. free_done _)))) (λ i. free_done _)
free_item lead.Let e = free_then (free_definition false) (λ d. free_done _)
free_item lead.Inline e = free_then (free_mark (mark.Reserved word.Let) (λ e. cc)) (λ s. free_then (free_definition true) (λ d. free_done _))
free_item lead.Output e = free_then free_name (λ n. free_done _)
free_item lead.End e = absurd (cc)

-- a front without the end of the text, and the end of the text
record Closes (ts rest : Tokens) : Type 0 where
  own : Tokens
  tok : Token
  whole : ts ≡ own ++ (tok ∷ rest)
  free : Free own
  is_end' : terminal tok ≡ EndOfText

closes_behind : (ts mid rest : Tokens) → Front ts mid → Closes mid rest → Closes ts rest
closes_behind ts mid rest f c =
    let g : Front ts (c.tok ∷ rest) = both ts mid (c.tok ∷ rest) f (record { own = c.own; whole = c.whole; free = c.free }) in
    record { own = g.own; tok = c.tok; whole = g.whole; free = g.free; is_end' = c.is_end' }

not_ending : (k : Terminal) (n : Lead) → lead_of k ≡ Some n → n ≢ lead.End → k ≢ EndOfText
not_ending k n e o h = o (same_Some _ _ (sym e ∙ ap lead_of h))

-- one item and the word after it
last_word : (l : Lead) {ts mid rest : Tokens} (v : Item) (t : Token) → is_end l ≡ false → AnItem l ts v mid → mid ≡ t ∷ rest → next l t ≡ Some lead.End → Closes ts rest
last_word l {ts = ts} {mid = mid} {rest = rest} v t g p e k =
    closes_behind ts mid rest ((free_item l g).free p) (rw e (record { own = []; tok = t; whole = refl; free = tt; is_end' = ends_only (terminal t) (allowed_some l (lead_of (terminal t)) lead.End k) }))

other_word : (l : Lead) {ts mid after rest : Tokens} (v : Item) (t : Token) (n : Lead) → is_end l ≡ false → AnItem l ts v mid → mid ≡ t ∷ after → next l t ≡ Some n → n ≢ lead.End → Closes after rest → Closes ts rest
other_word l {ts = ts} {mid = mid} {after = after} {rest = rest} v t n g p e k o c =
    let free = not_ending (terminal t) n (allowed_some l (lead_of (terminal t)) n k) o in
    closes_behind ts mid rest ((free_item l g).free p)
    (rw e (closes_behind (t ∷ after) after rest (one t after after free (record { own = []; whole = refl; free = tt })) c))

-- The last word of the items is the end of the text, and no other is.
items_close : {l : Lead} {ts rest : Tokens} {vs : List Item} → is_end l ≡ false → Items l ts vs rest → Closes ts rest
items_close g (end g') = absurd (cc (g, g'))
items_close {l = l} g (link {n = lead.End} {t = t} {v = v} g' p e k (end h)) = last_word l v t g p e k
items_close g (link {n = lead.End} {t = t} g' p e k (link h p' e' k' q)) = absurd (cc (h))
items_close {l = l} g (link {n = lead.Input} {t = t} {v = v} g' p e k q) = other_word l v t lead.Input g p e k (λ e. cc (e)) (items_close refl q)
items_close {l = l} g (link {n = lead.Let} {t = t} {v = v} g' p e k q) = other_word l v t lead.Let g p e k (λ e. cc (e)) (items_close refl q)
items_close {l = l} g (link {n = lead.Inline} {t = t} {v = v} g' p e k q) = other_word l v t lead.Inline g p e k (λ e. cc (e)) (items_close refl q)
items_close {l = l} g (link {n = lead.Output} {t = t} {v = v} g' p e k q) = other_word l v t lead.Output g p e k (λ e. cc (e)) (items_close refl q)

program_closes : {ts rest : Tokens} {p : Source} → AProgram ts p rest → Closes ts rest
program_closes {ts = ts} {rest = rest} p =
    let w = p.3 in
    let h = w.3 in
    let i = h.3 in
    let v = i.3 in
    let c : Closes i.1 rest = subst (λ x. Closes i.1 x) v.3.1 (items_close refl v.2) in
    closes_behind ts p.1 rest ((free_mark (mark.Reserved word.Size) (λ e. cc)).free p.2)
    (closes_behind p.1 w.1 rest (free_literal.free w.2)
    (closes_behind w.1 h.1 rest (free_literal.free h.2)
    (closes_behind h.1 i.1 rest ((free_mark (mark.Reserved word.Input) (λ e. cc)).free i.2) c)))

-- The parser does not stop after the end of the text.
pub not_behind : (ts : Tokens) → Ended ts → Stuck AProgram ts [] → ⊥
not_behind ts h s =
    let e : ts ≡ s.taken = s.whole ∙ append_nil s.taken in
    let f = program_closes s.begins in
    let nothing : s.more ≡ [] = no_more ts s.more f.own f.tok h f.free (ap (λ x. x ++ s.more) e ∙ f.whole) in
    s.none [] [] s.value refl (subst (λ x. AProgram (s.taken ++ x) s.value []) nothing s.begins)

pub derives : (ts rest : Tokens) (p : Source) → Ended ts → AProgram ts p rest → Derives ts p
derives ts rest p h q =
    let f = program_closes q in
    let nothing : rest ≡ [] = ended_rest f.own f.tok rest (subst Ended f.whole h) f.is_end' in
    to_rules ts [] p (subst (λ x. AProgram ts p x) nothing q)

stuck_there : (ts : Tokens) (s : Bor Tokens) (x : Halt) → x ≡ Faulty s → Halts AProgram ts x → Stuck AProgram ts s.now
stuck_there ts s x e h = subst (λ y. Halts AProgram ts y) e h

pub not_behind_at : (ts : Tokens) (s : Bor Tokens) (x : Halt) → x ≡ Faulty s → Ended ts → s.now ≡ [] → Halts AProgram ts x → ⊥
not_behind_at ts s x e h n k = not_behind ts h (subst (λ y. Stuck AProgram ts y) n (stuck_there ts s x e k))

-- where the chain of items is stuck, the rules are
stuck_rules : (ts at : Tokens) → Stuck AProgram ts at → Stuck ProgramRule ts at
stuck_rules ts at s = record {
  taken = s.taken;
  whole = s.whole;
  more = s.more;
  value = s.value;
  begins = to_rules (s.taken ++ s.more) [] s.value s.begins;
  none = λ w r v alike p. s.none w r v alike (from_rules (s.taken ++ w) r v p);
}

rules_faulty : (ts after : Tokens) (t : Token) → Stuck ProgramRule ts (t ∷ after) → IsFaultyAt ts t.span
rules_faulty ts after t s = record {
  index = length s.taken;
  faulty = faulty ProgramRule ts after t s;
  stands = record { before = s.taken; tok = t; after = after; whole = s.whole; index = refl; is_there = refl };
}

pub faulty_at : (ts after : Tokens) (t : Token) → Stuck AProgram ts (t ∷ after) → IsFaultyAt ts t.span
faulty_at ts after t s = rules_faulty ts after t (stuck_rules ts (t ∷ after) s)

pub faulty_there : (ts : Tokens) (s : Bor Tokens) (x : Halt) (after : Tokens) (t : Token) → x ≡ Faulty s → s.now ≡ t ∷ after → Halts AProgram ts x → IsFaultyAt ts t.span
faulty_there ts s x after t e w k = faulty_at ts after t (subst (λ y. Stuck AProgram ts y) w (stuck_there ts s x e k))

-- Tokens have one program, or one fault.
pub one_program : (ts : Tokens) (p q : Source) → Derives ts p → Derives ts q → p ≡ q
one_program ts p q a b = (clear_program.one (from_rules ts [] p a) (from_rules ts [] q b)).0

few : (n : ℕ) (ts : Tokens) → StaysShallow n ts → n ≤ 128
few n [] s = s
few n (t ∷ ts) s = s.0

pub not_both : (n : ℕ) (ts : Tokens) (span : Span) → StaysShallow n ts → PassesAt n ts span → ⊥
not_both n [] span s p = p
not_both n (t ∷ ts) span s (inl p) =
    let k = p.1 in
    let h : StaysShallow (suc n) ts = rw k at s.1 in
    omega (arith, p.0, few (suc n) ts h)
not_both n (t ∷ ts) span s (inr p) = not_both (unclosed n (terminal t)) ts span s.1 p.1

none_deep : (ds : List Definition) → AreShallow ds → first_deep ds ≡ None
none_deep [] a = refl
none_deep (d ∷ ds) a = rw (shallow d.body a.0) (none_deep ds a.1)

pub no_fault : (ts : Tokens) (p : Source) (f : ParseError) → Accepted ts p → Faults ts f → f ≡ OutOfMemory
no_fault ts p (Nest span) a q = absurd (not_both 0 ts span a.nests q)
no_fault ts p (Syntax span) a q =
    absurd (none_faulty IsProgram ts q.1.index (p, a.derives) q.1.faulty)
no_fault ts p (Depth span) a q =
    let d = q.1 in
    let same : d.program ≡ p = one_program ts d.program p d.derives a.derives in
    let h : first_deep p.definitions ≡ Some span = subst (λ x. first_deep x.definitions ≡ Some span) same d.first in
    absurd (cc (h, none_deep p.definitions a.shallow))
no_fault ts p OutOfMemory a q = refl
