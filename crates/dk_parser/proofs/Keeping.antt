-- The items so far.
use Rattle.std.proofs.Common.{◌≡◌, ◌≢◌, ◌≤◌, List, [], ◌∷◌, ◌++◌, Option, Some, None, Bool, true, false, refl, sym, ap, ◌∙◌, subst}
use Rattle.dk_base.specs.declared.span.Span.{Span}
use Rattle.dk_lexer.specs.declared.token.Token.{Token}
use Rattle.dk_lexer.specs.declared.token.Symbol.TheVariants.{Open, Close, Comma, Colon, Equal}
use Rattle.dk_grammar.specs.Reading.{One, IsClass, Clear, Stuck, end, link}
use Rattle.dk_grammar.proofs.Clears.{append_nil, clear_one, clear_then, clear_done, extend}
use Rattle.dk_grammar.proofs.Stucks.{Reached, stuck_one, reached_whole, reached_stuck}
use Rattle.dk_grammar.proofs.Chains.{chain_next, chain_element, chain_mark, clear_chain}
use Rattle.dk_parser.specs.declared.items.Draft.{Draft}
use Rattle.dk_parser.specs.declared.items.Lead.{Lead}
use Rattle.dk_parser.specs.declared.items.Lead.TheVariants as lead
use Rattle.dk_parser.specs.declared.items.Parts.{Parts}
use Rattle.source_words.specs.declared.word.Keyword.TheVariants as word
use Rattle.dk_parser.specs.declared.terminal.Terminal.{Terminal}
use Rattle.dk_parser.specs.declared.terminal.Terminal.TheVariants.{EndOfText}
use Rattle.dk_parser.specs.declared.terminal.Mark.TheVariants as mark
use Rattle.dk_parser.specs.declared.tree.Def.{Def}
use Rattle.dk_parser.specs.declared.tree.Input.{Input}
use Rattle.dk_parser.specs.declared.tree.Name.{Name}
use Rattle.dk_parser.specs.Tree.{tree_of}
use Rattle.dk_parser.specs.Terminals.{terminal}
use Rattle.dk_parser.specs.Words.{Gives}
use Rattle.dk_parser.specs.Grammar.{Tokens}
use Rattle.dk_parser.specs.Depth.{depth, too_deep, first}
use Rattle.dk_parser.specs.Front.{IsFront}
use Rattle.dk_parser.specs.Programs.{Definition, definition_of, definitions_as, AnInput, declares, AfterDeclares, Declared, Header, ADefinition}
use Rattle.dk_parser.specs.Items.{Item, input, definition, output, AnItem, lead_of, may_follow, allowed, next, is_end, Items, inputs_of, definitions_of, outputs_of, source, AProgram}
use Rattle.dk_parser.specs.declared.tree.Literal.{Literal}
use Rattle.dk_parser.specs.Nest.{StaysShallow}
use Rattle.dk_parser.specs.Judged.{Accepted, Derives, AreShallow, first_deep}
use Rattle.dk_parser.specs.Kept.{IsDraft, Keeps, Holds}
use Rattle.dk_parser.proofs.Tokens.{mark_token, gives_class, clear_mark, clear_name, clear_literal, clear_type}
use Rattle.dk_parser.proofs.Depths.{shallow}
use Rattle.dk_parser.proofs.Stucks.{clear_closed}

-- Every part of a definition is clear.
pub declares_class : IsClass (Gives (λ t. declares (terminal t)))
declares_class = let t = mark_token (mark.Sign Equal) in gives_class (λ t. declares (terminal t)) t.0 false (ap declares t.1)

pub clear_after : (b : Bool) → Clear (AfterDeclares b)
clear_after true = clear_then clear_type (λ t. clear_then (clear_mark (mark.Sign Equal)) (λ s. clear_done _))
clear_after false = clear_done _

pub clear_declared : Clear Declared
clear_declared = clear_then (clear_one declares_class) (λ b. clear_after b)

pub clear_header : Clear Header
clear_header =
    clear_then (clear_mark (mark.Reserved word.Im)) (λ a. clear_then (clear_mark (mark.Sign Open)) (λ b. clear_then (clear_mark (mark.Reserved word.X)) (λ c.
    clear_then (clear_mark (mark.Sign Comma)) (λ d. clear_then (clear_mark (mark.Reserved word.Y)) (λ e. clear_mark (mark.Sign Close))))))

pub clear_input : Clear AnInput
clear_input = clear_then clear_name (λ n. clear_then (clear_mark (mark.Sign Colon)) (λ s. clear_then clear_type (λ t. clear_done _)))

pub clear_definition : (b : Bool) → Clear (ADefinition b)
clear_definition b = clear_then clear_name (λ n. clear_then clear_declared (λ d. clear_then clear_header (λ h. clear_then (clear_closed (mark.Reserved word.End) refl) (λ e. clear_done _))))

pub clear_item : (l : Lead) → is_end l ≡ false → Clear (AnItem l)
clear_item lead.Input e = clear_then clear_input (λ i. clear_done _)
clear_item lead.Let e = clear_then (clear_definition false) (λ d. clear_done _)
clear_item lead.Inline e = clear_then (clear_mark (mark.Reserved word.Let)) (λ s. clear_then (clear_definition true) (λ d. clear_done _))
clear_item lead.Output e = clear_then clear_name (λ n. clear_done _)
clear_item lead.End e = absurd (cc)

-- From each word on there is an end.
ending : (t : Token) (w : Tokens) (vs : List Item) → Items lead.End w vs [] → terminal t ≡ EndOfText → next lead.Output t ≡ Some lead.End
ending t w vs i e = rw e refl

live_output : (w : Tokens) × (vs : List Item) × Items lead.Output w vs []
live_output =
    let c = clear_item lead.Output refl in
    let s = c.some in
    let t = mark_token mark.Finish in
    (s.0 ++ (t.0 ∷ []), s.1 ∷ [], link {n = lead.End} refl (extend c s.2 (t.0 ∷ [])) refl (rw t.1 refl) (end refl))

before_output : (l : Lead) → is_end l ≡ false → may_follow l lead.Output ≡ true → (w : Tokens) × (vs : List Item) × Items l w vs []
before_output l g m =
    let c = clear_item l g in
    let s = c.some in
    let t = mark_token (mark.Reserved word.Output) in
    let r = live_output in
    (s.0 ++ (t.0 ∷ r.0), s.1 ∷ r.1, link {n = lead.Output} g (extend c s.2 (t.0 ∷ r.0)) refl (rw (t.1, m) refl) r.2)

pub live_items : (l : Lead) → (w : Tokens) × (vs : List Item) × Items l w vs []
live_items lead.Input = before_output lead.Input refl refl
live_items lead.Let = before_output lead.Let refl refl
live_items lead.Inline = before_output lead.Inline refl refl
live_items lead.Output = live_output
live_items lead.End = ([], [], end refl)

pub clear_items : (l : Lead) → Clear (Items l)
clear_items l = clear_chain l clear_item live_items

pub clear_program : Clear AProgram
clear_program =
    clear_then (clear_mark (mark.Reserved word.Size)) (λ a. clear_then clear_literal (λ w. clear_then clear_literal (λ h. clear_then (clear_mark (mark.Reserved word.Input)) (λ b.
    clear_then (clear_items lead.Input) (λ vs. clear_done _)))))

-- no word follows the end
some_after : (l : Lead) → is_end l ≡ false → (t : Token) × (n : Lead) × (next l t ≡ Some n)
some_after lead.Input e = let t = mark_token (mark.Reserved word.Output) in (t.0, lead.Output, rw t.1 refl)
some_after lead.Let e = let t = mark_token (mark.Reserved word.Output) in (t.0, lead.Output, rw t.1 refl)
some_after lead.Inline e = let t = mark_token (mark.Reserved word.Output) in (t.0, lead.Output, rw t.1 refl)
some_after lead.Output e = let t = mark_token (mark.Reserved word.Output) in (t.0, lead.Output, rw t.1 refl)
some_after lead.End e = absurd (cc)

pub not_end : (l : Lead) → l ≢ lead.End → is_end l ≡ false
not_end lead.Input n = refl
not_end lead.Let n = refl
not_end lead.Inline n = refl
not_end lead.Output n = refl
not_end lead.End n = absurd (n refl)

next_class : (l : Lead) → is_end l ≡ false → IsClass (Gives (next l))
next_class l e = let s = some_after l e in gives_class (next l) s.0 s.1 s.2

pub no_next : (l : Lead) (ts : Tokens) → l ≢ lead.End → ts ≡ [] → Stuck (One (λ t n. next l t ≡ Some n)) ts ts
no_next l ts n e = rw e (stuck_one {R = Gives (next l)} [] (next_class l (not_end l n)) tt)

pub other_next : (l : Lead) (ts after : Tokens) (t : Token) (k : Terminal) (m : Option Lead) → l ≢ lead.End → IsFront ts t k after → m ≡ lead_of k → allowed l m ≡ None → Stuck (One (λ t n. next l t ≡ Some n)) ts ts
other_next l ts after t k m n f g h =
    let none : next l t ≡ None = ap (λ x. allowed l (lead_of x)) f.kind_is ∙ ap (λ x. allowed l x) (sym g) ∙ h in
    rw f.whole (stuck_one {R = Gives (next l)} (t ∷ after) (next_class l (not_end l n)) (λ v e. cc (none, e)))

pub no_declares : (ts : Tokens) → ts ≡ [] → Stuck (One (Gives (λ t. declares (terminal t)))) ts ts
no_declares ts e = rw e (stuck_one {R = Gives (λ t. declares (terminal t))} [] declares_class tt)

pub other_declares : (ts after : Tokens) (t : Token) (k : Terminal) → IsFront ts t k after → declares k ≡ None → Stuck (One (Gives (λ t. declares (terminal t)))) ts ts
other_declares ts after t k f h =
    let none : declares (terminal t) ≡ None = ap declares f.kind_is ∙ h in
    rw f.whole (stuck_one {R = Gives (λ t. declares (terminal t))} (t ∷ after) declares_class (λ v e. cc (none, e)))

-- One item more.
inputs_more : (vs : List Item) (v : Item) → inputs_of (vs ++ (v ∷ [])) ≡ inputs_of vs ++ inputs_of (v ∷ [])
inputs_more [] v = refl
inputs_more (input i ∷ vs) v = ap (λ x. i ∷ x) (inputs_more vs v)
inputs_more (definition d ∷ vs) v = inputs_more vs v
inputs_more (output n ∷ vs) v = inputs_more vs v

definitions_more : (vs : List Item) (v : Item) → definitions_of (vs ++ (v ∷ [])) ≡ definitions_of vs ++ definitions_of (v ∷ [])
definitions_more [] v = refl
definitions_more (input i ∷ vs) v = definitions_more vs v
definitions_more (definition d ∷ vs) v = ap (λ x. d ∷ x) (definitions_more vs v)
definitions_more (output n ∷ vs) v = definitions_more vs v

outputs_more : (vs : List Item) (v : Item) → outputs_of (vs ++ (v ∷ [])) ≡ outputs_of vs ++ outputs_of (v ∷ [])
outputs_more [] v = refl
outputs_more (input i ∷ vs) v = outputs_more vs v
outputs_more (definition d ∷ vs) v = outputs_more vs v
outputs_more (output n ∷ vs) v = ap (λ x. n ∷ x) (outputs_more vs v)

as_more : (ds : List Def) (d : Def) → definitions_as (ds ++ (d ∷ [])) ≡ definitions_as ds ++ (definition_of d ∷ [])
as_more [] d = refl
as_more (e ∷ ds) d = ap (λ x. definition_of e ∷ x) (as_more ds d)

shallow_more : (ds : List Definition) (d : Definition) → AreShallow ds → depth d.body ≤ 512 → AreShallow (ds ++ (d ∷ []))
shallow_more [] d a h = (h, tt)
shallow_more (e ∷ ds) d a h = (a.0, shallow_more ds d a.1 h)

deep_more : (ds es : List Definition) (s : Span) → first_deep ds ≡ Some s → first_deep (ds ++ es) ≡ Some s
deep_more [] es s e = absurd (cc (e))
deep_more (d ∷ ds) es s e = behind (too_deep d.body) (first_deep ds) (first_deep (ds ++ es)) s (λ h. deep_more ds es s h) e
  where
    behind : (o p q : Option Span) (s : Span) → (p ≡ Some s → q ≡ Some s) → first o p ≡ Some s → first o q ≡ Some s
    behind None p q s f e = f e
    behind (Some r) p q s f e = e

deep_last : (ds : List Definition) (d : Definition) (s : Span) → AreShallow ds → too_deep d.body ≡ Some s → first_deep (ds ++ (d ∷ [])) ≡ Some s
deep_last [] d s a e = rw e refl
deep_last (b ∷ ds) d s a e = rw (shallow b.body a.0) (deep_last ds d s a.1 e)

pub more_input : (p q : Parts) (vs : List Item) (i : Input) → Holds p vs → q.inputs.items ≡ p.inputs.items ++ (i ∷ []) → q.definitions.items ≡ p.definitions.items → q.outputs.items ≡ p.outputs.items → q.deep ≡ p.deep
    → Holds q (vs ++ (input i ∷ []))
more_input p q vs i h a b c d = record {
  inputs = a ∙ ap (λ x. x ++ (i ∷ [])) h.inputs ∙ sym (inputs_more vs (input i));
  definitions = rw (b, d, definitions_more vs (input i), append_nil (definitions_of vs)) h.definitions;
  outputs = c ∙ h.outputs ∙ sym (append_nil (outputs_of vs)) ∙ sym (outputs_more vs (input i));
}

pub more_output : (p q : Parts) (vs : List Item) (n : Name) → Holds p vs → q.inputs.items ≡ p.inputs.items → q.definitions.items ≡ p.definitions.items → q.outputs.items ≡ p.outputs.items ++ (n ∷ []) → q.deep ≡ p.deep
    → Holds q (vs ++ (output n ∷ []))
more_output p q vs n h a b c d = record {
  inputs = a ∙ h.inputs ∙ sym (append_nil (inputs_of vs)) ∙ sym (inputs_more vs (output n));
  definitions = rw (b, d, definitions_more vs (output n), append_nil (definitions_of vs)) h.definitions;
  outputs = c ∙ ap (λ x. x ++ (n ∷ [])) h.outputs ∙ sym (outputs_more vs (output n));
}

-- One more definition: after one that is too deep, too deep itself, or kept.
pub still_deep : (p : Parts) (vs : List Item) (d : Definition) (s : Span) → Holds p vs → p.deep ≡ Some s → Holds p (vs ++ (definition d ∷ []))
still_deep p vs d s h e = record {
  inputs = h.inputs ∙ sym (append_nil (inputs_of vs)) ∙ sym (inputs_more vs (definition d));
  definitions =
      let k : Keeps (Some s) (definitions_as p.definitions.items) (definitions_of vs) = subst (λ x. Keeps x (definitions_as p.definitions.items) (definitions_of vs)) e h.definitions in
      rw (e, definitions_more vs (definition d)) (deep_more (definitions_of vs) (d ∷ []) s k);
  outputs = h.outputs ∙ sym (append_nil (outputs_of vs)) ∙ sym (outputs_more vs (definition d));
}

kept : (p : Parts) (vs : List Item) → Holds p vs → p.deep ≡ None → (definitions_as p.definitions.items ≡ definitions_of vs) × AreShallow (definitions_of vs)
kept p vs h e = subst (λ x. Keeps x (definitions_as p.definitions.items) (definitions_of vs)) e h.definitions

pub now_deep : (p q : Parts) (vs : List Item) (d : Definition) (s : Span) → Holds p vs → p.deep ≡ None → too_deep d.body ≡ Some s → q.inputs.items ≡ p.inputs.items → q.outputs.items ≡ p.outputs.items → q.deep ≡ Some s
    → Holds q (vs ++ (definition d ∷ []))
now_deep p q vs d s h e t a c g = record {
  inputs = a ∙ h.inputs ∙ sym (append_nil (inputs_of vs)) ∙ sym (inputs_more vs (definition d));
  definitions = let k = kept p vs h e in rw (g, definitions_more vs (definition d)) (deep_last (definitions_of vs) d s k.1 t);
  outputs = c ∙ h.outputs ∙ sym (append_nil (outputs_of vs)) ∙ sym (outputs_more vs (definition d));
}

pub more_definition : (p q : Parts) (vs : List Item) (r : Draft) (d : Definition) (f : Def) → Holds p vs → p.deep ≡ None → IsDraft r d → f.inline ≡ r.inline → f.name ≡ r.name → f.declared ≡ r.declared → tree_of f.body ≡ d.body → depth d.body ≤ 512
    → q.inputs.items ≡ p.inputs.items → q.definitions.items ≡ p.definitions.items ++ (f ∷ []) → q.outputs.items ≡ p.outputs.items → q.deep ≡ None
    → Holds q (vs ++ (definition d ∷ []))
more_definition p q vs r d f h e i fi fn fd t s a b c g =
    let k = kept p vs h e in
    let same : definition_of f ≡ d = rw (fi ∙ i.inline, fn ∙ i.name, fd ∙ i.declared, t) refl in
    record {
      inputs = a ∙ h.inputs ∙ sym (append_nil (inputs_of vs)) ∙ sym (inputs_more vs (definition d));
      definitions = rw (g, b, as_more p.definitions.items f, k.0, same, definitions_more vs (definition d)) (refl, shallow_more (definitions_of vs) d k.1 s);
      outputs = c ∙ h.outputs ∙ sym (append_nil (outputs_of vs)) ∙ sym (outputs_more vs (definition d));
    }

-- What the loop over the items knows.
pub record Going (ts : Tokens) (l : Lead) (parts : Parts) (rest : Tokens) : Type 0 where
  pub other : l ≢ lead.End
  pub items : List Item
  pub holds : Holds parts items
  pub reached : Reached (Items lead.Input) (Items l) (λ us. items ++ us) ts rest

pub going_next : {ts rest mid after : Tokens} {l n : Lead} {parts new : Parts} (g : Going ts l parts rest) (v : Item) → AnItem l rest v mid → One (λ t n. next l t ≡ Some n) mid n after
    → Holds new (g.items ++ (v ∷ [])) → n ≢ lead.End → Going ts n new after
going_next {l = l} g v p o h e = record {
  other = e;
  items = g.items ++ (v ∷ []);
  holds = h;
  reached = chain_next g.items (clear_item l (not_end l g.other)) (not_end l g.other) g.reached p o.1 o.2;
}

pub going_done : {ts rest mid after : Tokens} {l n : Lead} {parts : Parts} (g : Going ts l parts rest) (v : Item) → AnItem l rest v mid → One (λ t n. next l t ≡ Some n) mid n after
    → n ≡ lead.End → Items lead.Input ts (g.items ++ (v ∷ [])) after
going_done {after = after} {l = l} {n = n} g v p o e =
    let last : Items n after [] after = end (rw e refl) in
    reached_whole g.reached (link (not_end l g.other) p o.1 o.2 last)

pub going_item : {ts rest at : Tokens} {l : Lead} {parts : Parts} → Going ts l parts rest → Stuck (AnItem l) rest at → Stuck (Items lead.Input) ts at
going_item {l = l} g k = reached_stuck g.reached (chain_element (not_end l g.other) (clear_item l (not_end l g.other)) live_items k)

pub going_lead : {ts rest mid at : Tokens} {l : Lead} {parts : Parts} (g : Going ts l parts rest) (v : Item) → AnItem l rest v mid → Stuck (One (λ t n. next l t ≡ Some n)) mid at → Stuck (Items lead.Input) ts at
going_lead {l = l} g v p k = reached_stuck g.reached (chain_mark (not_end l g.other) (clear_item l (not_end l g.other)) live_items p k)

pub deep_is : (p : Parts) (vs : List Item) (s : Span) → Holds p vs → p.deep ≡ Some s → first_deep (definitions_of vs) ≡ Some s
deep_is p vs s h e = subst (λ x. Keeps x (definitions_as p.definitions.items) (definitions_of vs)) e h.definitions

pub whole_is : (ts : Tokens) (w h : Literal) (p : Parts) (vs : List Item) → Holds p vs → p.deep ≡ None → StaysShallow 0 ts → Derives ts (source w h vs)
    → Accepted ts (record { width = w; height = h; inputs = p.inputs.items; definitions = definitions_as p.definitions.items; outputs = p.outputs.items })
whole_is ts w h p vs k e n d =
    let f = kept p vs k e in
    let same : record { width = w; height = h; inputs = p.inputs.items; definitions = definitions_as p.definitions.items; outputs = p.outputs.items } ≡ source w h vs = rw (k.inputs, f.0, k.outputs) refl in
    subst (λ x. Accepted ts x) (sym same) (record { nests = n; derives = d; shallow = f.1 })
