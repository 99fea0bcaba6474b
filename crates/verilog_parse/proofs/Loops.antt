-- What the loops have read.
use Rattle.std.proofs.Common.{◌≡◌, ◌++◌, ◌<◌, List, [], ◌∷◌, Some, Bool, true, false, refl, sym, ap, ◌∙◌, subst, length, append_assoc}
use Rattle.dk_base.specs.declared.span.Span.{Span}
use Rattle.verilog_text.specs.declared.token.Token.{Token}
use Rattle.verilog_text.specs.declared.token.TokenKind.TheVariants as kind
use Rattle.verilog_text.specs.declared.written.WrittenPort.{WrittenPort}
use Rattle.verilog_text.specs.declared.written.WrittenDeclaration.{WrittenDeclaration}
use Rattle.verilog_text.specs.declared.written.WrittenAssign.{WrittenAssign}
use Rattle.verilog_text.specs.declared.written.WrittenUpdate.{WrittenUpdate}
use Rattle.verilog_parse.specs.declared.kind.Target.{Target}
use Rattle.verilog_parse.specs.declared.kind.Target.TheVariants as targets
use Rattle.verilog_parse.specs.declared.kind.Section.{Section}
use Rattle.dk_grammar.specs.Reading.{One, last, end, Stuck}
use Rattle.dk_grammar.proofs.Clears.{append_nil}
use Rattle.dk_grammar.proofs.Stucks.{Reached, reached_stuck, reached_whole, listed_next, listed_fewer}
use Rattle.dk_grammar.proofs.Chains.{chain_next, chain_element, chain_mark}
use Rattle.verilog_text.specs.declared.written.Written.{Written}
use Rattle.verilog_text.specs.Grammar.{Source, source_of}
use Rattle.verilog_parse.specs.Forms.{Is, Gives}
use Rattle.verilog_parse.specs.Sections.{comma_or_close, APort, Ports, targeting, AnUpdate, UpdatesFrom, Piece, declaration, assign, block, section_after, AfterSection, is_last, SectionsFrom, gather, declared, assigned, updated, Adds, Sections, AHead, AModule, source_with}
use Rattle.verilog_parse.proofs.Shapes as C

abbrev source_of_parts : Span → List WrittenPort → List WrittenDeclaration → List WrittenAssign → List WrittenUpdate → Source
source_of_parts n ps ds as' us = record { name = n; ports = ps; declarations = ds; assigns = as'; updates = us }

-- ports
pub last_port : (items new : List WrittenPort) (ts rest behind after : List Token) (p : WrittenPort) (more : Bool) → Reached Ports Ports (λ us. items ++ us) ts rest → APort rest p behind
    → One (Gives (λ k s. comma_or_close k)) behind more after → more ≡ false → new ≡ items ++ p ∷ [] → Ports ts new after
last_port items new ts rest behind after p more d q m e n =
    rw n (reached_whole d (last q m.1 (m.2 ∙ ap (λ b. Some b) e)))

pub next_port : (items new : List WrittenPort) (ts rest behind after : List Token) (p : WrittenPort) (more : Bool) → Reached Ports Ports (λ us. items ++ us) ts rest → APort rest p behind
    → One (Gives (λ k s. comma_or_close k)) behind more after → more ≡ true → new ≡ items ++ p ∷ [] → Reached Ports Ports (λ us. new ++ us) ts after
next_port items new ts rest behind after p more d q m e n =
    subst (λ x. Reached Ports Ports (λ us. x ++ us) ts after) (sym n) (listed_next items C.port d q m.1 (m.2 ∙ ap (λ b. Some b) e))

pub port_fewer : {rest behind after : List Token} {p : WrittenPort} {more : Bool} → APort rest p behind → One (Gives (λ k s. comma_or_close k)) behind more after → length after < length rest
port_fewer q m = listed_fewer m.0 C.port q m.1

-- updates
pub record UpdatesBegun (first target : Target) (old now : List WrittenUpdate) (ts rest : List Token) : Type 0 where
  pub us : List WrittenUpdate
  pub reached : Reached (UpdatesFrom first) (UpdatesFrom target) (λ ws. us ++ ws) ts rest
  pub items : now ≡ old ++ us

pub updates_next : {first target next : Target} {old now new : List WrittenUpdate} {ts rest behind after : List Token} {n : Span} {u : WrittenUpdate} → UpdatesBegun first target old now ts rest → target ≡ targets.Name n
    → AnUpdate n rest u behind → One (Gives targeting) behind next after → new ≡ now ++ u ∷ [] → UpdatesBegun first next old new ts after
updates_next {first = first} {next = next} {old = old} {ts = ts} {rest = rest} {n = n} {u = u} b e q m w = record {
  us = b.us ++ u ∷ [];
  reached = chain_next b.us (C.an_update n) refl (subst (λ x. Reached (UpdatesFrom first) (UpdatesFrom x) (λ ws. b.us ++ ws) ts rest) e b.reached) q m.1 m.2;
  items = w ∙ ap (λ x. x ++ u ∷ []) b.items ∙ append_assoc old b.us (u ∷ []);
}

pub updates_end : {first target : Target} {old now : List WrittenUpdate} {ts rest : List Token} → UpdatesBegun first target old now ts rest → target ≡ targets.End
    → (us : List WrittenUpdate) × UpdatesFrom first ts us rest × (now ≡ old ++ us)
updates_end {first = first} {ts = ts} {rest = rest} b e =
    let whole = reached_whole (subst (λ x. Reached (UpdatesFrom first) (UpdatesFrom x) (λ ws. b.us ++ ws) ts rest) e b.reached) (end refl) in
    (b.us, subst (λ x. UpdatesFrom first ts x rest) (append_nil b.us) whole, b.items)

pub updates_element : {first target : Target} {old now : List WrittenUpdate} {ts rest : List Token} {n : Span} → UpdatesBegun first target old now ts rest → target ≡ targets.Name n
    → (at : List Token) → Stuck (AnUpdate n) rest at → Stuck (UpdatesFrom first) ts at
updates_element {first = first} {ts = ts} {rest = rest} {n = n} b e at k =
    reached_stuck (subst (λ x. Reached (UpdatesFrom first) (UpdatesFrom x) (λ ws. b.us ++ ws) ts rest) e b.reached) (chain_element {m = targets.Name n} refl (C.an_update n) C.targets_live k)

pub updates_mark : {first target : Target} {old now : List WrittenUpdate} {ts rest behind : List Token} {n : Span} {u : WrittenUpdate} → UpdatesBegun first target old now ts rest → target ≡ targets.Name n
    → AnUpdate n rest u behind → (at : List Token) → Stuck (One (Gives targeting)) behind at → Stuck (UpdatesFrom first) ts at
updates_mark {first = first} {ts = ts} {rest = rest} {n = n} b e q at k =
    reached_stuck (subst (λ x. Reached (UpdatesFrom first) (UpdatesFrom x) (λ ws. b.us ++ ws) ts rest) e b.reached) (chain_mark {m = targets.Name n} refl (C.an_update n) C.targets_live q k)

pub update_fewer : {n : Span} {next : Target} {rest behind after : List Token} {u : WrittenUpdate} → AnUpdate n rest u behind → One (Gives targeting) behind next after → length after < length rest
update_fewer {n = n} q m = listed_fewer m.0 (C.an_update n) q m.1

gather_more : {X : Type 0} (f : Piece → List X) (ps qs : List Piece) → gather f (ps ++ qs) ≡ gather f ps ++ gather f qs
gather_more f [] qs = refl
gather_more f (p ∷ ps) qs = ap (λ x. f p ++ x) (gather_more f ps qs) ∙ sym (append_assoc (f p) (gather f ps) (gather f qs))

adds_list : {X : Type 0} (f : Piece → List X) (old now new : List X) (ps qs : List Piece) → now ≡ old ++ gather f ps → new ≡ now ++ gather f qs → new ≡ old ++ gather f (ps ++ qs)
adds_list f old now new ps qs a b = b ∙ ap (λ x. x ++ gather f qs) a ∙ append_assoc old (gather f ps) (gather f qs) ∙ ap (λ x. old ++ x) (sym (gather_more f ps qs))

pub adds_none : (w : Written) → Adds [] w w
adds_none w = record { name = refl; ports = refl; declarations = sym (append_nil w.declarations.items); assigns = sym (append_nil w.assigns.items); updates = sym (append_nil w.updates.items) }

adds_more : {ps qs : List Piece} {old now new : Written} → Adds ps old now → Adds qs now new → Adds (ps ++ qs) old new
adds_more {ps = ps} {qs = qs} {old = old} {now = now} {new = new} a b = record {
  name = b.name ∙ a.name;
  ports = b.ports ∙ a.ports;
  declarations = adds_list declared old.declarations.items now.declarations.items new.declarations.items ps qs a.declarations b.declarations;
  assigns = adds_list assigned old.assigns.items now.assigns.items new.assigns.items ps qs a.assigns b.assigns;
  updates = adds_list updated old.updates.items now.updates.items new.updates.items ps qs a.updates b.updates;
}

pub record SectionsBegun (first next : Section) (old now : Written) (ts rest : List Token) : Type 0 where
  pub pieces : List Piece
  pub reached : Reached (SectionsFrom first) (SectionsFrom next) (λ ws. pieces ++ ws) ts rest
  pub adds : Adds pieces old now

pub sections_next : {first m next : Section} {old now new : Written} {ts rest behind after : List Token} (p : Piece) → SectionsBegun first m old now ts rest → is_last m ≡ false
    → AfterSection m rest p behind → One (Gives (λ k s. section_after m k)) behind next after → Adds (p ∷ []) now new → SectionsBegun first next old new ts after
sections_next {m = m} p b e q s a = record {
  pieces = b.pieces ++ p ∷ [];
  reached = chain_next b.pieces (C.after_section m e) e b.reached q s.1 s.2;
  adds = adds_more b.adds a;
}

pub sections_end : {first m : Section} {old now : Written} {ts rest : List Token} → SectionsBegun first m old now ts rest → is_last m ≡ true
    → (pieces : List Piece) × SectionsFrom first ts pieces rest × Adds pieces old now
sections_end {first = first} {ts = ts} {rest = rest} b e = (b.pieces, subst (λ x. SectionsFrom first ts x rest) (append_nil b.pieces) (reached_whole b.reached (end e)), b.adds)

pub sections_element : {first m : Section} {old now : Written} {ts rest : List Token} → SectionsBegun first m old now ts rest → is_last m ≡ false
    → (at : List Token) → Stuck (AfterSection m) rest at → Stuck (SectionsFrom first) ts at
sections_element {m = m} b e at k = reached_stuck b.reached (chain_element {m = m} e (C.after_section m e) C.sections_live k)

pub sections_mark : {first m : Section} {old now : Written} {ts rest behind : List Token} (p : Piece) → SectionsBegun first m old now ts rest → is_last m ≡ false → AfterSection m rest p behind
    → (at : List Token) → Stuck (One (Gives (λ k s. section_after m k))) behind at → Stuck (SectionsFrom first) ts at
sections_mark {m = m} p b e q at k = reached_stuck b.reached (chain_mark {m = m} e (C.after_section m e) C.sections_live q k)

pub section_fewer : {next : Section} {behind after : List Token} (m : Section) (rest : List Token) (p : Piece) → is_last m ≡ false → AfterSection m rest p behind → One (Gives (λ k s. section_after m k)) behind next after → length after < length rest
section_fewer m rest p e q s = listed_fewer s.0 (C.after_section m e) q s.1

-- the section that a first word begins
pub adds_declaration : (d : WrittenDeclaration) (old new : Written) → new.name ≡ old.name → new.ports.items ≡ old.ports.items → new.declarations.items ≡ old.declarations.items ++ d ∷ [] → new.assigns.items ≡ old.assigns.items → new.updates.items ≡ old.updates.items → Adds (declaration d ∷ []) old new
adds_declaration d old new n p ds as' us = record { name = n; ports = p; declarations = ds; assigns = as' ∙ sym (append_nil old.assigns.items); updates = us ∙ sym (append_nil old.updates.items) }

pub adds_assign : (a : WrittenAssign) (old new : Written) → new.name ≡ old.name → new.ports.items ≡ old.ports.items → new.declarations.items ≡ old.declarations.items → new.assigns.items ≡ old.assigns.items ++ a ∷ [] → new.updates.items ≡ old.updates.items → Adds (assign a ∷ []) old new
adds_assign a old new n p ds as' us = record { name = n; ports = p; declarations = ds ∙ sym (append_nil old.declarations.items); assigns = as'; updates = us ∙ sym (append_nil old.updates.items) }

pub adds_block : (ws : List WrittenUpdate) (old new : Written) → new.name ≡ old.name → new.ports.items ≡ old.ports.items → new.declarations.items ≡ old.declarations.items → new.assigns.items ≡ old.assigns.items → new.updates.items ≡ old.updates.items ++ ws → Adds (block ws ∷ []) old new
adds_block ws old new n p ds as' us = record {
  name = n;
  ports = p;
  declarations = ds ∙ sym (append_nil old.declarations.items);
  assigns = as' ∙ sym (append_nil old.assigns.items);
  updates = us ∙ ap (λ x. old.updates.items ++ x) (sym (append_nil ws));
}

same_source : (n m : Span) (ps qs : List WrittenPort) (ds es : List WrittenDeclaration) (as' bs : List WrittenAssign) (us ws : List WrittenUpdate) → n ≡ m → ps ≡ qs → ds ≡ es → as' ≡ bs → us ≡ ws
    → source_of_parts n ps ds as' us ≡ source_of_parts m qs es bs ws
same_source n m ps qs ds es as' bs us ws a b c d e = rw (a, b, c, d, e) refl

-- the source of a head without sections, and that of the head with its sections
no_sections : {ts rest : List Token} {s : Source} → AHead ts s rest → (s.declarations ≡ []) × (s.assigns ≡ []) × (s.updates ≡ [])
no_sections h = let e = h.3.3.3.0 in (ap (λ (s : Source). s.declarations) (sym e), ap (λ (s : Source). s.assigns) (sym e), ap (λ (s : Source). s.updates) (sym e))

added : {X : Type 0} (old new ws : List X) → new ≡ old ++ ws → old ≡ [] → ws ≡ new
added old new ws a e = sym (a ∙ ap (λ x. x ++ ws) e)

pub module_read : {ts mid end' rest : List Token} {pieces : List Piece} {old new : Written} → AHead ts (source_of old) mid → Sections mid pieces end' → One (Is kind.End) end' tt rest → Adds pieces old new → AModule ts (source_of new) rest
module_read {pieces = pieces} {old = old} {new = new} h s e a =
    let n = no_sections h in
    let same : source_with old.name old.ports.items pieces ≡ source_of new =
    same_source _ _ _ _ _ _ _ _ _ _ (sym a.name) (sym a.ports) (added _ _ _ a.declarations n.0) (added _ _ _ a.assigns n.1) (added _ _ _ a.updates n.2) in
    (source_of old, _, h, (pieces, _, s, (tt, _, e, (same, refl))))
