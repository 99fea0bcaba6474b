-- Tokens that spell a module's pieces are those of a module.
use Rattle.std.proofs.Common.{◌≡◌, ℕ, ◌+◌, ◌≤◌, List, [], ◌∷◌, map, Some, None, refl, sym, ap, ◌∙◌, subst, arith, codes}
use Rattle.std.specs.List.{AllByRecursion, AllZip}
use Rattle.netlist.specs.declared.parts.Port.{Port}
use Rattle.netlist.specs.declared.parts.Direction.{Direction}
use Rattle.netlist.specs.declared.parts.Direction.TheVariants.{Input as Takes, Output as Gives}
use Rattle.netlist.specs.declared.parts.Declaration.{Declaration}
use Rattle.netlist.specs.declared.parts.NamedAssign.{NamedAssign}
use Rattle.netlist.specs.declared.parts.NamedUpdate.{NamedUpdate}
use Rattle.verilog_text.specs.declared.token.Token.{Token}
use Rattle.verilog_text.specs.declared.token.TokenKind.TheVariants as kind
use Rattle.verilog_text.specs.declared.token.Keyword.TheVariants as keyword
use Rattle.verilog_text.specs.declared.written.WrittenPort.{WrittenPort}
use Rattle.verilog_text.specs.declared.written.WrittenDeclaration.{WrittenDeclaration}
use Rattle.verilog_text.specs.declared.written.WrittenAssign.{WrittenAssign}
use Rattle.verilog_text.specs.declared.written.WrittenUpdate.{WrittenUpdate}
use Rattle.verilog_text.specs.Bytes.{word_kind}
use Rattle.verilog_text.specs.Grammar.{Tokens, Is, directed, Assign, Update, Declares, Port as PortOf, Ports, Each, Block, Module, Source}
use Rattle.verilog_text.specs.Limits.{limit_fault, ports_fault, declarations_fault, assigns_fault, width_fault, sort_fault}
use Rattle.verilog_text.specs.Stands.{bytes_at, port_of, declaration_of, assign_of, update_of}
use Rattle.verilog_layout.proofs.Pieces.{Piece, Spells, ends, token}
use Rattle.verilog_layout.proofs.Clear.{end_line, assign_pieces, update_pieces, declaration_pieces, direction_own, port_pieces, more_ports, each_pieces, last_piece, end_pieces, whole_block_pieces, block_pieces, module_pieces, IsNamed, AssignIsFine, UpdateIsFine, DeclarationIsFine, PortIsFine}
use Rattle.verilog_layout.proofs.Derived.{Parsed, one_token, ranged_parsed, sort_parsed, assign_parsed, update_parsed, AssignMeans, SortMeans, sort_bits, name_token}

direction_is : (d : Direction) → directed (word_kind (direction_own d)) ≡ Some d
direction_is Takes = refl
direction_is Gives = refl

-- the bits of all arrays
abbrev pub total_bits : List Declaration → ℕ
total_bits [] = 0
total_bits (d ∷ ds) = sort_bits d.sort + total_bits ds

all_same : {X V : Type 0} (f : V → X) (Means : X → V → Type 0) → ((x : X) (v : V) → Means x v → f v ≡ x) → (xs : List X) (vs : List V) → AllZip Means xs vs → map f vs ≡ xs
all_same f Means one [] [] z = refl
all_same f Means one [] (v ∷ vs) z = absurd z
all_same f Means one (x ∷ xs) [] z = absurd z
all_same f Means one (x ∷ xs) (v ∷ vs) z = ap (λ y. y ∷ map f vs) (one x v z.0) ∙ ap (λ ys. x ∷ ys) (all_same f Means one xs vs z.1)

module _ (whole : List ℕ) where
  each_parsed : {X V : Type 0} (pieces : X → List Piece → List Piece) (P : Tokens → V → Tokens → Type 0) (Means : X → V → Type 0) (Fine : X → Type 0)
      → ((x : X) (ts : Tokens) (ps : List Piece) → Fine x → Spells whole ts (pieces x ps) → Parsed whole P (Means x) ts ps)
      → (xs : List X) (ts : Tokens) (ps : List Piece) → AllByRecursion Fine xs → Spells whole ts (each_pieces pieces xs ps) → Parsed whole (Each P) (AllZip Means xs) ts ps
  each_parsed pieces P Means Fine one [] ts ps f s = record { value = []; after = ts; phrase = Each.none; means = tt; spells = s }
  each_parsed pieces P Means Fine one (x ∷ xs) ts ps f s =
      let first = one x ts (each_pieces pieces xs ps) f.0 s in
      let others = each_parsed pieces P Means Fine one xs first.after ps f.1 first.spells in
      record { value = first.value ∷ others.value; after = others.after; phrase = Each.more first.phrase others.phrase; means = (first.means, others.means); spells = others.spells }

  record PortMeans (p : Port) (v : WrittenPort) : Type 0 where
    is : port_of whole v ≡ p
    within : width_fault v.bits ≡ None

  port_parsed : (gap : List ℕ) (p : Port) (ts : Tokens) (ps : List Piece) → PortIsFine p → Spells whole ts (port_pieces gap p ps) → Parsed whole PortOf (PortMeans p) ts ps
  port_parsed gap p _ ps f (token {ts = ts} k b s) =
      let r = ranged_parsed whole p.width p.name ts ps f.1 f.0 s in
      record {
        value = record { direction = p.direction; bits = r.range; name = r.span };
        after = r.after;
        phrase = PortOf.plain (ap (λ x. directed x) k ∙ direction_is p.direction) r.phrase;
        means = record {
          is = ap (λ x. let q : Port = record { direction = p.direction; width = x; name = bytes_at whole r.span } in q) r.width ∙ ap (λ x. let q : Port = record { direction = p.direction; width = p.width; name = x } in q) r.bytes;
          within = r.within;
        };
        spells = r.spells;
      }

  ports_parsed : (gap : List ℕ) (p : Port) (ps : List Port) (ts : Tokens) (qs : List Piece) → PortIsFine p → AllByRecursion PortIsFine ps → Spells whole ts (port_pieces gap p (more_ports ps qs))
      → Parsed whole Ports (AllZip PortMeans (p ∷ ps)) ts qs
  ports_parsed gap p [] ts qs f fs s =
      let first = port_parsed gap p ts (more_ports [] qs) f s in
      let e = one_token whole _ first.after qs first.spells in
      record {
        value = first.value ∷ [];
        after = e.rest;
        phrase = Ports.last (subst (λ x. PortOf ts first.value x) e.is first.phrase) e.is_kind;
        means = (first.means, tt);
        spells = e.spells;
      }
  ports_parsed gap p (q ∷ ps) ts qs f fs s =
      let first = port_parsed gap p ts (more_ports (q ∷ ps) qs) f s in
      let e = one_token whole _ first.after (port_pieces (codes " ") q (more_ports ps qs)) first.spells in
      let others = ports_parsed (codes " ") q ps e.rest qs fs.0 fs.1 e.spells in
      record {
        value = first.value ∷ others.value;
        after = others.after;
        phrase = Ports.more (subst (λ x. PortOf ts first.value x) e.is first.phrase) e.is_kind others.phrase;
        means = (first.means, others.means);
        spells = others.spells;
      }

  -- the end of a module and of its text
  record Closing (ts : Tokens) : Type 0 where
    t : Token
    e : Token
    is : ts ≡ t ∷ e ∷ []
    closes : Is (kind.Keyword keyword.EndModule) t
    at_end : Is kind.End e

  closing : (ts : Tokens) → Spells whole ts (last_piece ∷ []) → Closing ts
  closing _ (token {t = t} k b (ends {t = e} n)) = record { t = t; e = e; is = refl; closes = k; at_end = n }

  record BlockParsed (us : List NamedUpdate) (ts : Tokens) : Type 0 where
    value : List WrittenUpdate
    e : Token
    phrase : Block ts value (e ∷ [])
    at_end : Is kind.End e
    means : AllZip (λ (u : NamedUpdate) (v : WrittenUpdate). update_of whole v ≡ u) us value

  whole_block_parsed : (us : List NamedUpdate) (ts : Tokens) → AllByRecursion UpdateIsFine us → Spells whole ts (whole_block_pieces us) → BlockParsed us ts
  whole_block_parsed us _ f (token ka ba (token kt bt (token ko bo (token kp bp (token kc bc (token ke be (token {ts = ts} kb bb s))))))) =
      let body = each_parsed update_pieces Update (λ (u : NamedUpdate) (v : WrittenUpdate). update_of whole v ≡ u) UpdateIsFine (update_parsed whole) us ts end_pieces f s in
      let end = one_token whole _ body.after (last_piece ∷ []) body.spells in
      let c = closing end.rest end.spells in
      record {
        value = body.value;
        e = c.e;
        phrase = Block.always ka kt ko kp kc ke kb (subst (λ x. Each Update ts body.value x) (end.is ∙ ap (λ x. end.t ∷ x) c.is) body.phrase) end.is_kind c.closes;
        at_end = c.at_end;
        means = body.means;
      }

  block_parsed : (us : List NamedUpdate) (ts : Tokens) → AllByRecursion UpdateIsFine us → Spells whole ts (block_pieces us) → BlockParsed us ts
  block_parsed [] ts f s =
      let c = closing ts s in
      record { value = []; e = c.e; phrase = subst (λ x. Block x [] (c.e ∷ [])) (sym c.is) (Block.left_out c.closes); at_end = c.at_end; means = tt }
  block_parsed (u ∷ us) ts f s = whole_block_parsed (u ∷ us) ts f s

  abbrev DeclarationMeans : Declaration → WrittenDeclaration → Type 0
  DeclarationMeans d v = SortMeans whole d.name d.sort v

  declaration_parsed : (d : Declaration) (ts : Tokens) (ps : List Piece) → DeclarationIsFine d → Spells whole ts (declaration_pieces d ps) → Parsed whole Declares (DeclarationMeans d) ts ps
  declaration_parsed d ts ps f s = sort_parsed whole d.name d.sort ts ps f.0 f.1 s

  ports_within : (ps : List Port) (vs : List WrittenPort) → AllZip PortMeans ps vs → ports_fault vs ≡ None
  ports_within ps [] z = refl
  ports_within [] (v ∷ vs) z = absurd z
  ports_within (p ∷ ps) (v ∷ vs) z = rw (z.0.within) (ports_within ps vs z.1)

  declarations_within : (ds : List Declaration) (vs : List WrittenDeclaration) → AllZip DeclarationMeans ds vs → (before : ℕ) → before + total_bits ds ≤ 67108864 → declarations_fault before vs ≡ None
  declarations_within ds [] z before h = refl
  declarations_within [] (v ∷ vs) z before h = absurd z
  declarations_within (d ∷ ds) (v ∷ vs) z before h =
      let now : sort_fault v v.sort before ≡ None = z.0.within before (omega (arith, h)) in
      let later : declarations_fault (before + sort_bits d.sort) vs ≡ None = declarations_within ds vs z.1 (before + sort_bits d.sort) (omega (arith, h)) in
      rw (z.0.width, now) (ap (λ n. declarations_fault (before + n) vs) z.0.size ∙ later)

  assigns_within : (as' : List NamedAssign) (vs : List WrittenAssign) → AllZip (AssignMeans whole) as' vs → assigns_fault vs ≡ None
  assigns_within as' [] z = refl
  assigns_within [] (v ∷ vs) z = absurd z
  assigns_within (a ∷ as') (v ∷ vs) z = rw (z.0.within) (assigns_within as' vs z.1)

  pub record ModuleParsed (name : List ℕ) (ports : List Port) (declarations : List Declaration) (assigns : List NamedAssign) (updates : List NamedUpdate) (ts : Tokens) : Type 0 where
    pub source : Source
    pub phrase : Module ts source
    pub limits : total_bits declarations ≤ 67108864 → limit_fault source ≡ None
    pub is_name : bytes_at whole source.name ≡ name
    pub are_ports : map (port_of whole) source.ports ≡ ports
    pub are_declarations : map (declaration_of whole) source.declarations ≡ declarations
    pub are_assigns : map (assign_of whole) source.assigns ≡ assigns
    pub are_updates : map (update_of whole) source.updates ≡ updates

  pub module_parsed : (name : List ℕ) (port : Port) (ports : List Port) (declarations : List Declaration) (assigns : List NamedAssign) (updates : List NamedUpdate) (ts : Tokens) → IsNamed name → PortIsFine port
      → AllByRecursion PortIsFine ports → AllByRecursion DeclarationIsFine declarations → AllByRecursion AssignIsFine assigns → AllByRecursion UpdateIsFine updates
      → Spells whole ts (module_pieces name port ports declarations assigns updates) → ModuleParsed name (port ∷ ports) declarations assigns updates ts
  module_parsed name port ports declarations assigns updates _ n p ps ds as' us (token km bm (token {t = t} kn bn (token {ts = ts} ko bo s))) =
      let block = block_pieces updates in
      let lines = each_pieces assign_pieces assigns block in
      let body = each_pieces declaration_pieces declarations lines in
      let head = ports_parsed [] port ports ts (end_line ∷ body) p ps s in
      let e = one_token whole end_line head.after body head.spells in
      let decls = each_parsed declaration_pieces Declares DeclarationMeans DeclarationIsFine declaration_parsed declarations e.rest lines ds e.spells in
      let rights = each_parsed assign_pieces Assign (AssignMeans whole) AssignIsFine (assign_parsed whole) assigns decls.after block as' decls.spells in
      let last = block_parsed updates rights.after us rights.spells in
      record {
        source = record { name = t.span; ports = head.value; declarations = decls.value; assigns = rights.value; updates = last.value };
        phrase = Module.whole {e = last.e} {updates = last.value} km (name_token name t n kn) ko (subst (λ x. Ports ts head.value x) e.is head.phrase) e.is_kind decls.phrase rights.phrase last.phrase last.at_end;
        limits = λ h. rw (ports_within (port ∷ ports) head.value head.means, declarations_within declarations decls.value decls.means 0 (omega (arith, h))) (assigns_within assigns rights.value rights.means);
        is_name = bn;
        are_ports = all_same (port_of whole) PortMeans (λ x v m. m.is) (port ∷ ports) head.value head.means;
        are_declarations = all_same (declaration_of whole) DeclarationMeans (λ x v m. m.is) declarations decls.value decls.means;
        are_assigns = all_same (assign_of whole) (AssignMeans whole) (λ x v m. m.is) assigns rights.value rights.means;
        are_updates = all_same (update_of whole) (λ u v. update_of whole v ≡ u) (λ x v m. m) updates last.value last.means;
      }
