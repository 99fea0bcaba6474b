-- The names of the items of a program's tree are names of the source language.
use Rattle.std.proofs.Common.{◌≡◌, Bool, true, false, List, [], ◌∷◌, ◌++◌, subst}
use Rattle.std.specs.List.{AllByRecursion}
use Rattle.dk_lexer.specs.declared.token.Token.{Token}
use Rattle.dk_grammar.specs.Reading.{Phrases, Clear, Many, none, more}
use Rattle.dk_parser.specs.declared.tree.Name.{Name}
use Rattle.dk_parser.specs.declared.tree.Input.{Input}
use Rattle.dk_parser.specs.Words.{AName}
use Rattle.dk_parser.specs.Programs.{Source, Definition, AnInput, ADefinition}
use Rattle.dk_parser.specs.Rules.{InputRule, DefinitionRule, plain, inlined}
use Rattle.dk_parser.specs.Judged.{Derives}
use Rattle.dk_parser.proofs.Keeping.{clear_input, clear_definition}
use Rattle.source_words.specs.Words.{is_name}
use Rattle.source_names.proofs.Spelled.{AllSpelled}
use Rattle.source_names.proofs.Worded.{token_named}

abbrev pub IsNamed : Name → Type 0
IsNamed n = is_name n.text ≡ true

later : (o rest : List Token) → AllSpelled (o ++ rest) → AllSpelled rest
later [] rest all = all
later (t ∷ o) rest all = later o rest all.1

behind : {V : Type 0} (P : Phrases Token V) → Clear P → {ts rest : List Token} {v : V} → P ts v rest → AllSpelled ts → AllSpelled rest
behind P clear {ts = ts} {rest = rest} h all = let o = clear.own h in later o.0 rest (subst AllSpelled o.1 all)

name_named : {ts mid : List Token} {n : Name} → AllSpelled ts → AName ts n mid → IsNamed n
name_named {n = n} all (tok, at, is) = token_named tok n (subst AllSpelled at all).0 is

input_named : {ts mid : List Token} {i : Input} → AllSpelled ts → AnInput ts i mid → IsNamed i.name
input_named all (n, a, named, (colon, b, sign, (t, c, typed, (same, done)))) = subst (λ (i : Input). IsNamed i.name) same (name_named all named)

definition_named : {b : Bool} {ts mid : List Token} {d : Definition} → AllSpelled ts → ADefinition b ts d mid → IsNamed d.name
definition_named all (n, a, named, (declared, b, is_declared, (header, c, is_header, (e, f, closed, (same, done))))) = subst (λ (d : Definition). IsNamed d.name) same (name_named all named)

input_left : {ts mid : List Token} {i : Input} → AllSpelled ts → InputRule ts i mid → AllSpelled mid
input_left all (s, a, (tok, at, is), read) = behind AnInput clear_input read (subst AllSpelled at all).1

inputs_named : {ts rest : List Token} {is : List Input} → AllSpelled ts → Many InputRule ts is rest → AllByRecursion (λ (i : Input). IsNamed i.name) is
inputs_named all none = tt
inputs_named all (more rule rules) = (input_named (subst AllSpelled rule.2.1 all).1 rule.3, inputs_named (input_left all rule) rules)

inputs_left : {ts rest : List Token} {is : List Input} → AllSpelled ts → Many InputRule ts is rest → AllSpelled rest
inputs_left all none = all
inputs_left all (more rule rules) = inputs_left (input_left all rule) rules

rule_named : {ts mid : List Token} {d : Definition} → AllSpelled ts → DefinitionRule ts d mid → IsNamed d.name
rule_named all (plain (s, a, (tok, at, is), read)) = definition_named (subst AllSpelled at all).1 read
rule_named all (inlined (s, a, (tok, at, is), (z, b, (next, there, word), read))) = definition_named (subst AllSpelled there (subst AllSpelled at all).1).1 read

rule_left : {ts mid : List Token} {d : Definition} → AllSpelled ts → DefinitionRule ts d mid → AllSpelled mid
rule_left all (plain (s, a, (tok, at, is), read)) = behind (ADefinition false) (clear_definition false) read (subst AllSpelled at all).1
rule_left all (inlined (s, a, (tok, at, is), (z, b, (next, there, word), read))) =
    behind (ADefinition true) (clear_definition true) read (subst AllSpelled there (subst AllSpelled at all).1).1

definitions_named : {ts rest : List Token} {ds : List Definition} → AllSpelled ts → Many DefinitionRule ts ds rest → AllByRecursion (λ (d : Definition). IsNamed d.name) ds
definitions_named all none = tt
definitions_named all (more rule rules) = (rule_named all rule, definitions_named (rule_left all rule) rules)

-- all inputs and definitions of a tree have names
pub record AreNamed (tree : Source) : Type 0 where
  pub inputs : AllByRecursion (λ (i : Input). IsNamed i.name) tree.inputs
  pub definitions : AllByRecursion (λ (d : Definition). IsNamed d.name) tree.definitions

pub tree_named : (ts : List Token) (p : Source) → AllSpelled ts → Derives ts p → AreNamed p
tree_named ts p all (s, a, (st, sat, sm), (w, b, (wt, wat, wm), (h, c, (ht, hat, hm), (is, d, (i, e, first, (js, f, others, (whole, left))), (ds, g, definitions, (os, k, outputs, (z, l, ends, (same, done)))))))) =
    let all_a = (subst AllSpelled sat all).1 in
    let all_b = (subst AllSpelled wat all_a).1 in
    let all_c = (subst AllSpelled hat all_b).1 in
    let named = inputs_named all_c (more first others) in
    let all_d = subst AllSpelled left (inputs_left all_c (more first others)) in
    let inputs = subst (λ (xs : List Input). AllByRecursion (λ (i : Input). IsNamed i.name) xs) whole named in
    subst AreNamed same (record { inputs = inputs; definitions = definitions_named all_d definitions })
