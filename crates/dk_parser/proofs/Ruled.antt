-- The chain of items of a program is the grammar's rules.
use Rattle.std.proofs.Common.{◌≡◌, List, [], ◌∷◌, ◌++◌, map, Option, Some, None, Bool, true, false, if◌then◌else◌, refl, ap, sym, subst, ◌∙◌}
use Rattle.std.proofs.lemmas.Option.{same_Some}
use Rattle.dk_lexer.specs.declared.token.Token.{Token}
use Rattle.dk_grammar.specs.Reading.{Phrases, Many, none, more, Several, end, link}
use Rattle.dk_parser.specs.declared.items.Lead.{Lead}
use Rattle.dk_parser.specs.declared.items.Lead.TheVariants as lead
use Rattle.source_words.specs.declared.word.Keyword.TheVariants as word
use Rattle.dk_parser.specs.declared.terminal.Terminal.{Terminal}
use Rattle.dk_parser.specs.declared.terminal.Terminal.TheVariants.{Keyword, EndOfText}
use Rattle.dk_parser.specs.declared.tree.Name.{Name}
use Rattle.dk_parser.specs.declared.tree.Literal.{Literal}
use Rattle.dk_parser.specs.declared.tree.Input.{Input}
use Rattle.dk_parser.specs.Terminals.{terminal}
use Rattle.dk_parser.specs.Grammar.{Tokens}
use Rattle.dk_parser.specs.Programs.{Source, Definition}
use Rattle.dk_parser.specs.Items.{Item, input, definition, output, AnItem, lead_of, may_follow, allowed, next, is_end, Items, inputs_of, definitions_of, outputs_of, source, AProgram}
use Rattle.dk_parser.specs.Rules.{InputRule, DefinitionRule, plain, inlined, OutputRule, ProgramRule}

picked : (b : Bool) (m n : Lead) → (if b then Some m else None) ≡ Some n → m ≡ n
picked true m n e = same_Some m n e
picked false m n e = absurd (cc (e))

pub allowed_some : (l : Lead) (o : Option Lead) (n : Lead) → allowed l o ≡ Some n → o ≡ Some n
allowed_some l None n e = absurd (cc (e))
allowed_some l (Some m) n e = ap Some (picked (may_follow l m) m n e)

pub ends_only : (k : Terminal) → lead_of k ≡ Some lead.End → k ≡ EndOfText
ends_only EndOfText e = refl
ends_only (Keyword word.Input) e = absurd (cc (e))
ends_only _ e = absurd (cc (e))

abbrev Some' : {A : Type 0} → List A → Type 0
Some' {A = A} xs = (x : A) × (others : List A) × (xs ≡ x ∷ others)

several : {A : Type 0} {P : Phrases Token A} {ts rest : Tokens} {xs : List A} → Many P ts xs rest → Some' xs → Several P ts xs rest
several none s = absurd (cc (s.2))
several {rest = rest} (more {mid = mid} {v = v} {vs = vs} p q) s = (v, mid, p, (vs, rest, q, (refl, refl)))

-- inputs, definitions and outputs, and the end of the text
record Ruled (ts : Tokens) (is : List Input) (ds : List Definition) (os : List Name) (rest : Tokens) : Type 0 where
  first : Tokens
  second : Tokens
  inputs : Many InputRule ts is first
  definitions : Many DefinitionRule first ds second
  closing : Token
  outputs : Many OutputRule second os (closing ∷ rest)
  ends : terminal closing ≡ EndOfText

-- which of them there are, by the word that they begin with
abbrev Leads : Lead → List Input → List Definition → Type 0
Leads lead.Input is ds = Some' is
Leads lead.Let is ds = is ≡ []
Leads lead.Inline is ds = is ≡ []
Leads lead.Output is ds = (is ≡ []) × (ds ≡ [])
Leads lead.End is ds = (is ≡ []) × (ds ≡ [])

record Read (l : Lead) (ts : Tokens) (vs : List Item) (rest : Tokens) : Type 0 where
  ruled : Ruled ts (inputs_of vs) (definitions_of vs) (outputs_of vs) rest
  leads : Leads l (inputs_of vs) (definitions_of vs)
  some : is_end l ≡ false → Some' (outputs_of vs)

behind_input : (n : Lead) → may_follow lead.Input n ≡ true → is_end n ≡ false
behind_input lead.Input f = refl
behind_input lead.Let f = refl
behind_input lead.Inline f = refl
behind_input lead.Output f = refl
behind_input lead.End f = absurd (cc (f))

behind_definition : (n : Lead) → may_follow lead.Let n ≡ true → is_end n ≡ false
behind_definition lead.Input f = refl
behind_definition lead.Let f = refl
behind_definition lead.Inline f = refl
behind_definition lead.Output f = refl
behind_definition lead.End f = absurd (cc (f))

no_more_inputs : (n : Lead) (is : List Input) (ds : List Definition) → may_follow lead.Let n ≡ true → Leads n is ds → is ≡ []
no_more_inputs lead.Input is ds f h = absurd (cc (f))
no_more_inputs lead.Let is ds f h = h
no_more_inputs lead.Inline is ds f h = h
no_more_inputs lead.Output is ds f h = h.0
no_more_inputs lead.End is ds f h = h.0

only_outputs : (n : Lead) (is : List Input) (ds : List Definition) → may_follow lead.Output n ≡ true → Leads n is ds → (is ≡ []) × (ds ≡ [])
only_outputs lead.Input is ds f h = absurd (cc (f))
only_outputs lead.Let is ds f h = absurd (cc (f))
only_outputs lead.Inline is ds f h = absurd (cc (f))
only_outputs lead.Output is ds f h = h
only_outputs lead.End is ds f h = h

alike : (n : Lead) → may_follow lead.Inline n ≡ may_follow lead.Let n
alike lead.Input = refl
alike lead.Let = refl
alike lead.Inline = refl
alike lead.Output = refl
alike lead.End = refl

input_word : (k : Terminal) → lead_of k ≡ Some lead.Input → k ≡ Keyword word.Input
input_word (Keyword word.Input) e = refl
input_word _ e = absurd (cc (e))

let_word : (k : Terminal) → lead_of k ≡ Some lead.Let → k ≡ Keyword word.Let
let_word (Keyword word.Let) e = refl
let_word _ e = absurd (cc (e))

inline_word : (k : Terminal) → lead_of k ≡ Some lead.Inline → k ≡ Keyword word.Inline
inline_word (Keyword word.Inline) e = refl
inline_word _ e = absurd (cc (e))

output_word : (k : Terminal) → lead_of k ≡ Some lead.Output → k ≡ Keyword word.Output
output_word (Keyword word.Output) e = refl
output_word _ e = absurd (cc (e))

no_inputs : {ts first : Tokens} {is : List Input} → is ≡ [] → Many InputRule ts is first → first ≡ ts
no_inputs e none = refl
no_inputs e (more p q) = absurd (cc (e))

no_definitions : {ts first : Tokens} {ds : List Definition} → ds ≡ [] → Many DefinitionRule ts ds first → first ≡ ts
no_definitions e none = refl
no_definitions e (more p q) = absurd (cc (e))

with_input : {ts mid rest : Tokens} (vs : List Item) (i : Input) → InputRule ts i mid → Ruled mid (inputs_of vs) (definitions_of vs) (outputs_of vs) rest
    → Ruled ts (i ∷ inputs_of vs) (definitions_of vs) (outputs_of vs) rest
with_input vs i p r = record {
  first = r.first;
  second = r.second;
  inputs = more p r.inputs;
  definitions = r.definitions;
  closing = r.closing;
  outputs = r.outputs;
  ends = r.ends;
}

with_definition : {ts mid rest : Tokens} (vs : List Item) (d : Definition) → DefinitionRule ts d mid → inputs_of vs ≡ [] → Ruled mid (inputs_of vs) (definitions_of vs) (outputs_of vs) rest
    → Ruled ts (inputs_of vs) (d ∷ definitions_of vs) (outputs_of vs) rest
with_definition {ts = ts} vs d p n r = record {
  first = ts;
  second = r.second;
  inputs = subst (λ x. Many InputRule ts x ts) (sym n) none;
  definitions = more p (subst (λ x. Many DefinitionRule x (definitions_of vs) r.second) (no_inputs n r.inputs) r.definitions);
  closing = r.closing;
  outputs = r.outputs;
  ends = r.ends;
}

with_output : {ts mid rest : Tokens} (vs : List Item) (o : Name) → OutputRule ts o mid → inputs_of vs ≡ [] → definitions_of vs ≡ [] → Ruled mid (inputs_of vs) (definitions_of vs) (outputs_of vs) rest
    → Ruled ts (inputs_of vs) (definitions_of vs) (o ∷ outputs_of vs) rest
with_output {ts = ts} {rest = rest} vs o p n m r =
    let same = no_definitions m r.definitions ∙ no_inputs n r.inputs in
    record {
      first = ts;
      second = ts;
      inputs = subst (λ x. Many InputRule ts x ts) (sym n) none;
      definitions = subst (λ x. Many DefinitionRule ts x ts) (sym m) none;
      closing = r.closing;
      outputs = more p (subst (λ x. Many OutputRule x (outputs_of vs) (r.closing ∷ rest)) same r.outputs);
      ends = r.ends;
    }

input_read : (n : Lead) {ts mid rest : Tokens} {vs : List Item} (t : Token) (v : Item) → terminal t ≡ Keyword word.Input → may_follow lead.Input n ≡ true
    → AnItem lead.Input ts v mid → Read n mid vs rest → Read lead.Input (t ∷ ts) (v ∷ vs) rest
input_read n {ts = ts} {rest = rest} {vs = vs} t v k f p r =
    let behind : Ruled p.1 (inputs_of vs) (definitions_of vs) (outputs_of vs) rest = subst (λ x. Ruled x (inputs_of vs) (definitions_of vs) (outputs_of vs) rest) (sym p.3.1) r.ruled in
    let read : Read lead.Input (t ∷ ts) (input p.0 ∷ vs) rest = record {
      ruled = with_input vs p.0 (t.span, ts, (t, refl, (k, refl)), p.2) behind;
      leads = (p.0, inputs_of vs, refl);
      some = λ e. r.some (behind_input n f);
    } in
    subst (λ x. Read lead.Input (t ∷ ts) (x ∷ vs) rest) p.3.0 read

let_read : (n : Lead) {ts mid rest : Tokens} {vs : List Item} (t : Token) (v : Item) → terminal t ≡ Keyword word.Let → may_follow lead.Let n ≡ true
    → AnItem lead.Let ts v mid → Read n mid vs rest → Read lead.Let (t ∷ ts) (v ∷ vs) rest
let_read n {ts = ts} {rest = rest} {vs = vs} t v k f p r =
    let behind : Ruled p.1 (inputs_of vs) (definitions_of vs) (outputs_of vs) rest = subst (λ x. Ruled x (inputs_of vs) (definitions_of vs) (outputs_of vs) rest) (sym p.3.1) r.ruled in
    let none' = no_more_inputs n (inputs_of vs) (definitions_of vs) f r.leads in
    let read : Read lead.Let (t ∷ ts) (definition p.0 ∷ vs) rest = record {
      ruled = with_definition vs p.0 (plain (t.span, ts, (t, refl, (k, refl)), p.2)) none' behind;
      leads = none';
      some = λ e. r.some (behind_definition n f);
    } in
    subst (λ x. Read lead.Let (t ∷ ts) (x ∷ vs) rest) p.3.0 read

inline_read : (n : Lead) {ts mid rest : Tokens} {vs : List Item} (t : Token) (v : Item) → terminal t ≡ Keyword word.Inline → may_follow lead.Let n ≡ true
    → AnItem lead.Inline ts v mid → Read n mid vs rest → Read lead.Inline (t ∷ ts) (v ∷ vs) rest
inline_read n {ts = ts} {rest = rest} {vs = vs} t v k f p r =
    let d = p.3 in
    let behind : Ruled d.1 (inputs_of vs) (definitions_of vs) (outputs_of vs) rest = subst (λ x. Ruled x (inputs_of vs) (definitions_of vs) (outputs_of vs) rest) (sym d.3.1) r.ruled in
    let none' = no_more_inputs n (inputs_of vs) (definitions_of vs) f r.leads in
    let read : Read lead.Inline (t ∷ ts) (definition d.0 ∷ vs) rest = record {
      ruled = with_definition vs d.0 (inlined (t.span, ts, (t, refl, (k, refl)), (p.0, p.1, p.2, d.2))) none' behind;
      leads = none';
      some = λ e. r.some (behind_definition n f);
    } in
    subst (λ x. Read lead.Inline (t ∷ ts) (x ∷ vs) rest) d.3.0 read

output_read : (n : Lead) {ts mid rest : Tokens} {vs : List Item} (t : Token) (v : Item) → terminal t ≡ Keyword word.Output → may_follow lead.Output n ≡ true
    → AnItem lead.Output ts v mid → Read n mid vs rest → Read lead.Output (t ∷ ts) (v ∷ vs) rest
output_read n {ts = ts} {rest = rest} {vs = vs} t v k f p r =
    let behind : Ruled p.1 (inputs_of vs) (definitions_of vs) (outputs_of vs) rest = subst (λ x. Ruled x (inputs_of vs) (definitions_of vs) (outputs_of vs) rest) (sym p.3.1) r.ruled in
    let none' = only_outputs n (inputs_of vs) (definitions_of vs) f r.leads in
    let read : Read lead.Output (t ∷ ts) (output p.0 ∷ vs) rest = record {
      ruled = with_output vs p.0 (t.span, ts, (t, refl, (k, refl)), p.2) none'.0 none'.1 behind;
      leads = none';
      some = λ e. (p.0, outputs_of vs, refl);
    } in
    subst (λ x. Read lead.Output (t ∷ ts) (x ∷ vs) rest) p.3.0 read

-- what an item makes of the items after it
item_read : (l n : Lead) {ts mid rest : Tokens} {vs : List Item} (t : Token) (v : Item) → lead_of (terminal t) ≡ Some l → may_follow l n ≡ true
    → AnItem l ts v mid → Read n mid vs rest → Read l (t ∷ ts) (v ∷ vs) rest
item_read lead.Input n t v k f p r = input_read n t v (input_word (terminal t) k) f p r
item_read lead.Let n t v k f p r = let_read n t v (let_word (terminal t) k) f p r
item_read lead.Inline n t v k f p r = inline_read n t v (inline_word (terminal t) k) (sym (alike n) ∙ f) p r
item_read lead.Output n t v k f p r = output_read n t v (output_word (terminal t) k) f p r
item_read lead.End n t v k f p r = absurd p

end_read : (l : Lead) (t : Token) (ts : Tokens) → is_end l ≡ true → lead_of (terminal t) ≡ Some l → Read l (t ∷ ts) [] ts
end_read lead.End t ts e k = record {
  ruled = record { first = t ∷ ts; second = t ∷ ts; inputs = none; definitions = none; closing = t; outputs = none; ends = ends_only (terminal t) k };
  leads = (refl, refl);
  some = λ h. absurd (cc (h));
}
end_read lead.Input t ts e k = absurd (cc (e))
end_read lead.Let t ts e k = absurd (cc (e))
end_read lead.Inline t ts e k = absurd (cc (e))
end_read lead.Output t ts e k = absurd (cc (e))

picks : (b : Bool) (m n : Lead) → (if b then Some m else None) ≡ Some n → b ≡ true
picks true m n e = refl
picks false m n e = absurd (cc (e))

follows : (l : Lead) (o : Option Lead) (n : Lead) → o ≡ Some n → allowed l o ≡ Some n → may_follow l n ≡ true
follows l None n e h = absurd (cc (e))
follows l (Some m) n e h = let k : m ≡ n = cc in subst (λ x. may_follow l x ≡ true) k (picks (may_follow l m) m n h)

read : {l : Lead} {ts rest : Tokens} {vs : List Item} (t : Token) → lead_of (terminal t) ≡ Some l → Items l ts vs rest → Read l (t ∷ ts) vs rest
read {l = l} {ts = ts} t k (end h) = end_read l t ts h k
read {l = l} {rest = rest} t k (link {n = n} {mid = mid} {after = after} {t = u} {v = v} {vs = vs} g p e h q) =
    let lead = allowed_some l (lead_of (terminal u)) n h in
    let behind : Read n mid vs rest = subst (λ x. Read n x vs rest) (sym e) (read u lead q) in
    item_read l n t v k (follows l (lead_of (terminal u)) n lead h) p behind

pub to_rules : (ts rest : Tokens) (p : Source) → AProgram ts p rest → ProgramRule ts p rest
to_rules ts rest p a =
    let w = a.3 in
    let h = w.3 in
    let i = h.3 in
    let v = i.3 in
    let sign = i.2 in
    let r = read {vs = v.0} sign.0 (rw sign.2.0 refl) v.2 in
    let first : Several InputRule h.1 (inputs_of v.0) r.ruled.first = subst (λ x. Several InputRule x (inputs_of v.0) r.ruled.first) (sym sign.1) (several r.ruled.inputs r.leads) in (
      a.0,
      a.1,
      a.2,
      (
        w.0,
        w.1,
        w.2,
        (
          h.0,
          h.1,
          h.2,
          (
            _,
            r.ruled.first,
            first,
            (
              _,
              r.ruled.second,
              r.ruled.definitions,
              (
                _,
                r.ruled.closing ∷ v.1,
                several r.ruled.outputs (r.some refl),
                (r.ruled.closing.span, v.1, (r.ruled.closing, refl, (r.ruled.ends, refl)), (v.3.0, v.3.1)),
              ),
            ),
          ),
        ),
      ),
    )

-- The tokens from the word of an item on, where it may follow.
record Goes (l : Lead) (ts : Tokens) (vs : List Item) (rest : Tokens) : Type 0 where
  tok : Token
  after : Tokens
  state : Lead
  whole : ts ≡ tok ∷ after
  step : next l tok ≡ Some state
  items : Items state after vs rest

steps_to : (l n : Lead) (t : Token) → lead_of (terminal t) ≡ Some n → may_follow l n ≡ true → next l t ≡ Some n
steps_to l n t a b = rw a (rw b refl)

goes : (l n : Lead) {ts mid rest : Tokens} {vs : List Item} (t : Token) (v : Item) → lead_of (terminal t) ≡ Some n → may_follow l n ≡ true → is_end n ≡ false
    → AnItem n ts v mid → Goes n mid vs rest → Goes l (t ∷ ts) (v ∷ vs) rest
goes l n {ts = ts} t v k f g p r = record { tok = t; after = ts; state = n; whole = refl; step = steps_to l n t k f; items = link g p r.whole r.step r.items }

end_goes : (t : Token) (rest : Tokens) → terminal t ≡ EndOfText → Goes lead.Output (t ∷ rest) [] rest
end_goes t rest k = record { tok = t; after = rest; state = lead.End; whole = refl; step = steps_to lead.Output lead.End t (rw k refl) refl; items = end refl }

output_goes : (l : Lead) {ts mid rest : Tokens} {vs : List Item} (o : Name) → may_follow l lead.Output ≡ true → OutputRule ts o mid → Goes lead.Output mid vs rest → Goes l ts (output o ∷ vs) rest
output_goes l {mid = mid} {rest = rest} {vs = vs} o f p r =
    subst (λ x. Goes l x (output o ∷ vs) rest) (sym p.2.1) (goes l lead.Output p.2.0 (output o) (rw p.2.2.0 refl) f refl (o, mid, p.3, (refl, refl)) r)

outputs_go : {ts mid rest : Tokens} {os : List Name} → Many OutputRule ts os mid → Goes lead.Output mid [] rest → Goes lead.Output ts (map output os) rest
outputs_go none r = r
outputs_go (more {v = o} p q) r = output_goes lead.Output o refl p (outputs_go q r)

-- what follows definitions may follow an input or a definition
abbrev Reaches : Tokens → List Item → Tokens → Type 0
Reaches ts vs rest = (l : Lead) → may_follow l lead.Output ≡ true → Goes l ts vs rest

definition_goes : (l : Lead) {ts mid rest : Tokens} {vs : List Item} (d : Definition) → may_follow l lead.Let ≡ true → may_follow l lead.Inline ≡ true → DefinitionRule ts d mid
    → Goes lead.Let mid vs rest → Goes lead.Inline mid vs rest → Goes l ts (definition d ∷ vs) rest
definition_goes l {mid = mid} {rest = rest} {vs = vs} d f g (plain p) r s =
    subst (λ x. Goes l x (definition d ∷ vs) rest) (sym p.2.1) (goes l lead.Let p.2.0 (definition d) (rw p.2.2.0 refl) f refl (d, mid, p.3, (refl, refl)) r)
definition_goes l {mid = mid} {rest = rest} {vs = vs} d f g (inlined p) r s =
    let b = p.3 in
    subst (λ x. Goes l x (definition d ∷ vs) rest) (sym p.2.1) (goes l lead.Inline p.2.0 (definition d) (rw p.2.2.0 refl) g refl (b.0, b.1, b.2, (d, mid, b.3, (refl, refl))) s)

definitions_go : (l : Lead) {ts mid rest : Tokens} {ds : List Definition} (vs : List Item) → may_follow l lead.Let ≡ true → may_follow l lead.Inline ≡ true → may_follow l lead.Output ≡ true
    → Many DefinitionRule ts ds mid → Reaches mid vs rest → Goes l ts (map definition ds ++ vs) rest
definitions_go l vs f g h none r = r l h
definitions_go l vs f g h (more {v = d} p q) r = definition_goes l d f g p (definitions_go lead.Let vs refl refl refl q r) (definitions_go lead.Inline vs refl refl refl q r)

inputs_go : {ts mid rest : Tokens} {is : List Input} (vs : List Item) → Many InputRule ts is mid → Goes lead.Input mid vs rest → Goes lead.Input ts (map input is ++ vs) rest
inputs_go vs none r = r
inputs_go {rest = rest} vs (more {mid = mid} {v = i} {vs = is} p q) r =
    subst (λ x. Goes lead.Input x (map input (i ∷ is) ++ vs) rest) (sym p.2.1) (goes lead.Input lead.Input p.2.0 (input i) (rw p.2.2.0 refl) refl refl (i, mid, p.3, (refl, refl)) (inputs_go vs q r))

-- the parts of a list of items
record Holds (vs : List Item) (is : List Input) (ds : List Definition) (os : List Name) : Type 0 where
  inputs : inputs_of vs ≡ is
  definitions : definitions_of vs ≡ ds
  outputs : outputs_of vs ≡ os

hold_outputs : (os : List Name) → Holds (map output os) [] [] os
hold_outputs [] = record { inputs = refl; definitions = refl; outputs = refl }
hold_outputs (o ∷ os) = let h = hold_outputs os in record { inputs = h.inputs; definitions = h.definitions; outputs = ap (λ x. o ∷ x) h.outputs }

hold_definitions : (ds : List Definition) (os : List Name) → Holds (map definition ds ++ map output os) [] ds os
hold_definitions [] os = hold_outputs os
hold_definitions (d ∷ ds) os = let h = hold_definitions ds os in record { inputs = h.inputs; definitions = ap (λ x. d ∷ x) h.definitions; outputs = h.outputs }

hold : (is : List Input) (ds : List Definition) (os : List Name) → Holds (map input is ++ (map definition ds ++ map output os)) is ds os
hold [] ds os = hold_definitions ds os
hold (i ∷ is) ds os = let h = hold is ds os in record { inputs = ap (λ x. i ∷ x) h.inputs; definitions = h.definitions; outputs = h.outputs }

source_is : (w h : Literal) (vs : List Item) (is : List Input) (ds : List Definition) (os : List Name) → Holds vs is ds os
    → source w h vs ≡ record { width = w; height = h; inputs = is; definitions = ds; outputs = os }
source_is w h vs is ds os k = rw (k.inputs, k.definitions, k.outputs) refl

pub from_rules : (ts rest : Tokens) (p : Source) → ProgramRule ts p rest → AProgram ts p rest
from_rules ts rest p a =
    let w = a.3 in
    let h = w.3 in
    let i = h.3 in
    let first = i.2 in
    let more' = first.3 in
    let d = i.3 in
    let o = d.3 in
    let last = o.2 in
    let others = last.3 in
    let e = o.3 in
    let closing : Goes lead.Output others.1 [] e.1 = subst (λ x. Goes lead.Output x [] e.1) (sym (others.3.1 ∙ e.2.1)) (end_goes e.2.0 e.1 e.2.2.0) in
    let os = last.0 ∷ others.0 in
    let reach : Reaches d.1 (map output os) e.1 = λ l f. output_goes l last.0 f last.2 (outputs_go others.2 closing) in
    let behind = map definition d.0 ++ map output os in
    let items = inputs_go behind more'.2 (subst (λ x. Goes lead.Input x behind e.1) (sym more'.3.1) (definitions_go lead.Input (map output os) refl refl refl d.2 reach)) in
    let is = first.0 ∷ more'.0 in
    let vs = map input is ++ behind in
    let chain : Items lead.Input first.2.1 vs e.1 = link refl (first.0, first.1, first.2.3, (refl, refl)) items.whole items.step items.items in
    let same : source w.0 h.0 vs ≡ p = source_is w.0 h.0 vs i.0 d.0 o.0 (subst (λ x. Holds vs x d.0 o.0) more'.3.0 (subst (λ x. Holds vs is d.0 x) others.3.0 (hold is d.0 os))) ∙ e.3.0 in
    (a.0, a.1, a.2, (w.0, w.1, w.2, (h.0, h.1, h.2, (first.2.0, first.2.1, first.2.2, (vs, e.1, chain, (same, e.3.1))))))
