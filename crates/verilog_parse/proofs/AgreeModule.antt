-- Whole modules as they are read are the grammar's.
use Rattle.std.proofs.Common.{◌≡◌, ℕ, List, [], ◌∷◌, Some, true, false, refl, sym, ap, ◌∙◌, subst}
use Rattle.dk_base.specs.declared.span.Span.{Span}
use Rattle.verilog_text.specs.declared.token.Token.{Token}
use Rattle.verilog_text.specs.declared.token.Keyword.TheVariants as keyword
use Rattle.verilog_text.specs.declared.token.TokenKind.TheVariants as kind
use Rattle.verilog_text.specs.declared.written.WrittenPort.{WrittenPort}
use Rattle.verilog_text.specs.declared.written.WrittenDeclaration.{WrittenDeclaration}
use Rattle.verilog_text.specs.declared.written.WrittenAssign.{WrittenAssign}
use Rattle.verilog_text.specs.declared.written.WrittenUpdate.{WrittenUpdate}
use Rattle.verilog_parse.specs.declared.kind.Section.{Section}
use Rattle.verilog_parse.specs.declared.kind.Section.TheVariants as sections
use Rattle.dk_grammar.specs.Reading.{end, link, IsFaulty}
use Rattle.dk_grammar.proofs.Clears.{append_nil}
use Rattle.verilog_text.specs.Grammar.{Declares, Assign, Update, Each, none, more as further, Block, left_out, always, Source, Module, whole}
use Rattle.verilog_text.specs.Faults.{IsModule}
use Rattle.verilog_parse.specs.Sections.{section_of, statement_of, last_of, ABlock, Piece, declaration, assign as assigned_piece, block, SectionsFrom, Ports as read_ports, gather, declared, assigned, updated, AModule, source_with}
use Rattle.verilog_parse.proofs.Means.{SectionMeans, section_means, is_statement, is_closing, is_ending, statement_means, last_means}
use Rattle.verilog_parse.proofs.AgreeRights.{from_assign, to_assign}
use Rattle.verilog_parse.proofs.AgreeParts.{from_ports, to_ports, to_wire, to_reg, IsDeclared, of_wire, of_reg, from_declares, to_updates, from_updates}

-- the sections from this first word on, as the grammar has them
record Body (m : Section) (ts : List Token) (pieces : List Piece) (rest : List Token) : Type 0 where
  pub mid : List Token
  pub behind : List Token
  pub declarations : Each Declares ts (gather declared pieces) mid
  pub assigns : Each Assign mid (gather assigned pieces) behind
  pub block' : Block behind (gather updated pieces) rest
  pub no_declarations : is_statement m ≡ true → (gather declared pieces ≡ []) × (mid ≡ ts)
  pub no_assigns : is_closing m ≡ true → (gather assigned pieces ≡ []) × (behind ≡ mid)
  pub no_updates : is_ending m ≡ true → gather updated pieces ≡ []

-- "always" and what follows it, up to "endmodule"
to_block : {mid rest behind : List Token} {us : List WrittenUpdate} (t e : Token) → t.kind ≡ kind.Keyword keyword.Always → ABlock mid us behind → behind ≡ e ∷ rest → e.kind ≡ kind.Keyword keyword.EndModule → Block (t ∷ mid) us rest
to_block {mid = mid} {rest = z} {us = us} t e w q h k =
    let a = q.2 in
    let b = a.3 in
    let c = b.3 in
    let d = q.3 in
    let f = d.3 in
    let u = to_updates f.3 in
    let whole' : mid ≡ a.2.0 ∷ b.2.0 ∷ c.2.0 ∷ c.3.0 ∷ d.2.0 ∷ f.2.0 ∷ f.1 = cc (a.2.1, b.2.1, c.2.1, c.3.1, d.2.1, f.2.1) in
    let each : Each Update f.1 us (u.end' ∷ e ∷ z) = subst (λ x. Each Update f.1 us (u.end' ∷ x)) h u.each in
    subst (λ x. Block (t ∷ x) us z) (sym whole') (always w a.2.2 b.2.2 c.2.2 c.3.2 d.2.2 f.2.2 each u.word k)

last_none : {mid rest : List Token} {pieces : List Piece} → SectionsFrom sections.End mid pieces rest → (pieces ≡ []) × (mid ≡ rest)
last_none (end g) = (refl, refl)
last_none (link g p e k q) = absurd (cc)

with_declaration : (m : Section) {n : Section} {ts next rest : List Token} {d : WrittenDeclaration} {vs : List Piece} → is_statement m ≡ false → is_closing m ≡ false → is_ending m ≡ false → Declares ts d next → Body n next vs rest
    → Body m ts (declaration d ∷ vs) rest
with_declaration m s c z p b = record {
  mid = b.mid;
  behind = b.behind;
  declarations = further p b.declarations;
  assigns = b.assigns;
  block' = b.block';
  no_declarations = λ e. absurd (cc (s, e));
  no_assigns = λ e. absurd (cc (c, e));
  no_updates = λ e. absurd (cc (z, e));
}

with_assign : {n : Section} {ts next rest : List Token} {a : WrittenAssign} {vs : List Piece} → is_statement n ≡ true → Assign ts a next → Body n next vs rest → Body sections.Assign ts (assigned_piece a ∷ vs) rest
with_assign {ts = ts} {vs = vs} s p b =
    let e = b.no_declarations s in
    record {
      mid = ts;
      behind = b.behind;
      declarations = subst (λ x. Each Declares ts x ts) (sym e.0) none;
      assigns = further p (subst (λ x. Each Assign x (gather assigned vs) b.behind) e.1 b.assigns);
      block' = b.block';
      no_declarations = λ h. (e.0, refl);
      no_assigns = λ h. absurd (cc);
      no_updates = λ h. absurd (cc);
    }

with_block : {ts rest : List Token} {us : List WrittenUpdate} → Block ts us rest → Body sections.Always ts (block us ∷ []) rest
with_block {ts = ts} {rest = z} {us = us} p = record {
  mid = ts;
  behind = ts;
  declarations = none;
  assigns = none;
  block' = subst (λ x. Block ts x z) (sym (append_nil us)) p;
  no_declarations = λ h. (refl, refl);
  no_assigns = λ h. (refl, refl);
  no_updates = λ h. absurd (cc);
}

to_last : {mid rest : List Token} {pieces : List Piece} → SectionsFrom sections.End mid pieces rest → (t : Token) → t.kind ≡ kind.Keyword keyword.EndModule → Body sections.End (t ∷ mid) pieces rest
to_last {mid = mid} (end g) t h = record { mid = t ∷ mid; behind = t ∷ mid; declarations = none; assigns = none; block' = left_out h; no_declarations = λ e. (refl, refl); no_assigns = λ e. (refl, refl); no_updates = λ e. refl }
to_last (link g p e k q) t h = absurd (cc)

to_sections : {m : Section} {mid rest : List Token} {pieces : List Piece} → SectionsFrom m mid pieces rest → (t : Token) → SectionMeans t.kind m → Body m (t ∷ mid) pieces rest
to_sections {m = sections.End} (end g) t h = to_last (end g) t h
to_sections {m = sections.Wire} (end g) t h = absurd (cc)
to_sections {m = sections.Reg} (end g) t h = absurd (cc)
to_sections {m = sections.Assign} (end g) t h = absurd (cc)
to_sections {m = sections.Always} (end g) t h = absurd (cc)
to_sections {m = sections.End} (link g p e k q) t h = absurd (cc)
to_sections {m = sections.Wire} {mid = ts} (link {n = n} {rest = z} {t = t'} {vs = vs} g p e k q) t h =
    let b = to_sections q t' (section_means _ n k) in
    subst (λ x. Body sections.Wire (t ∷ ts) (x ∷ vs) z) p.3.0 (with_declaration sections.Wire refl refl refl (subst (λ x. Declares (t ∷ ts) p.0 x) (p.3.1 ∙ e) (to_wire t h p.2)) b)
to_sections {m = sections.Reg} {mid = ts} (link {n = n} {rest = z} {t = t'} {vs = vs} g p e k q) t h =
    let b = to_sections q t' (section_means _ n k) in
    subst (λ x. Body sections.Reg (t ∷ ts) (x ∷ vs) z) p.3.0 (with_declaration sections.Reg refl refl refl (subst (λ x. Declares (t ∷ ts) p.0 x) (p.3.1 ∙ e) (to_reg t h p.2)) b)
to_sections {m = sections.Assign} {mid = ts} (link {n = n} {rest = z} {t = t'} {vs = vs} g p e k q) t h =
    let s = statement_means _ n k in
    let b = to_sections q t' s.0 in
    subst (λ x. Body sections.Assign (t ∷ ts) (x ∷ vs) z) p.3.0 (with_assign s.1 (subst (λ x. Assign (t ∷ ts) p.0 x) (p.3.1 ∙ e) (to_assign t ts p.1 p.0 h p.2)) b)
to_sections {m = sections.Always} {mid = ts} (link {n = n} {after = y} {rest = z} {t = t'} {v = v} {vs = vs} g p e k q) t h =
    let s = last_means _ n k in
    let l = last_none (subst (λ x. SectionsFrom x y vs z) s.1 q) in
    let b : Block (t ∷ ts) p.0 z = to_block t t' h p.2 (p.3.1 ∙ e ∙ ap (λ x. t' ∷ x) l.1) s.0 in
    subst (λ x. Body sections.Always (t ∷ ts) (v ∷ x) z) (sym l.0) (subst (λ x. Body sections.Always (t ∷ ts) (x ∷ []) z) p.3.0 (with_block b))

-- and the other way
record Read (ts : List Token) (ds : List WrittenDeclaration) (as' : List WrittenAssign) (us : List WrittenUpdate) (rest : List Token) : Type 0 where
  pub first : Token
  pub inner : List Token
  pub section : Section
  pub whole' : ts ≡ first ∷ inner
  pub word : section_of first.kind ≡ Some section
  pub statement : ds ≡ [] → statement_of first.kind ≡ Some section
  pub pieces : List Piece
  pub chain : SectionsFrom section inner pieces rest
  pub declarations : gather declared pieces ≡ ds
  pub assigns : gather assigned pieces ≡ as'
  pub updates : gather updated pieces ≡ us

from_block : {ts rest : List Token} {us : List WrittenUpdate} → Block ts us rest → Read ts [] [] us rest
from_block (left_out {e = e} {rest = z} k) = record {
  first = e;
  inner = z;
  section = sections.End;
  whole' = refl;
  word = ap (λ x. section_of x) k;
  statement = λ h. ap (λ x. statement_of x) k;
  pieces = [];
  chain = end refl;
  declarations = refl;
  assigns = refl;
  updates = refl;
}
from_block {us = us} (always {a = a} {at = at} {opens = o} {p = p} {c = c} {close = d} {b = b} {end = f} {e = e} {ts = ts} {rest = z} ak tk ok pk ck dk bk each fk ek) =
    let us' = from_updates f (e ∷ z) each refl fk in
    record {
      first = a;
      inner = at ∷ o ∷ p ∷ c ∷ d ∷ b ∷ ts;
      section = sections.Always;
      whole' = refl;
      word = ap (λ x. section_of x) ak;
      statement = λ h. ap (λ x. statement_of x) ak;
      pieces = block us ∷ [];
      chain = link refl (us, e ∷ z, (tt, d ∷ b ∷ ts, (tt, o ∷ p ∷ c ∷ d ∷ b ∷ ts, (at, refl, tk), (tt, p ∷ c ∷ d ∷ b ∷ ts, (o, refl, ok), (tt, c ∷ d ∷ b ∷ ts, (p, refl, pk), (c, refl, ck)))), (tt, b ∷ ts, (d, refl, dk), (tt, ts, (b, refl, bk), us'))), (refl, refl)) refl (ap (λ x. last_of x) ek) (end refl);
      declarations = refl;
      assigns = refl;
      updates = append_nil us;
    }

from_assigns : {ts mid rest : List Token} {as' : List WrittenAssign} {us : List WrittenUpdate} → Each Assign ts as' mid → Block mid us rest → Read ts [] as' us rest
from_assigns none b = from_block b
from_assigns (further {mid = m} {x = a} p l) b =
    let f = from_assign p in
    let i = from_assigns l b in
    record {
      first = f.0;
      inner = f.1;
      section = sections.Assign;
      whole' = f.2;
      word = ap (λ x. section_of x) f.3;
      statement = λ h. ap (λ x. statement_of x) f.3;
      pieces = assigned_piece a ∷ i.pieces;
      chain = link refl (a, m, f.4, (refl, refl)) i.whole' (i.statement refl) i.chain;
      declarations = i.declarations;
      assigns = ap (λ x. a ∷ x) i.assigns;
      updates = i.updates;
    }

read_declared : {k : Token} {ts inner mid rest : List Token} {d : WrittenDeclaration} {ds : List WrittenDeclaration} {as' : List WrittenAssign} {us : List WrittenUpdate} → ts ≡ k ∷ inner → IsDeclared k inner d mid → Read mid ds as' us rest → Read ts (d ∷ ds) as' us rest
read_declared {k = k} {inner = y} {mid = m} {d = d} e (of_wire w p) i = record {
  first = k;
  inner = y;
  section = sections.Wire;
  whole' = e;
  word = ap (λ x. section_of x) w;
  statement = λ h. absurd (cc);
  pieces = declaration d ∷ i.pieces;
  chain = link refl (d, m, p, (refl, refl)) i.whole' i.word i.chain;
  declarations = ap (λ x. d ∷ x) i.declarations;
  assigns = i.assigns;
  updates = i.updates;
}
read_declared {k = k} {inner = y} {mid = m} {d = d} e (of_reg w p) i = record {
  first = k;
  inner = y;
  section = sections.Reg;
  whole' = e;
  word = ap (λ x. section_of x) w;
  statement = λ h. absurd (cc);
  pieces = declaration d ∷ i.pieces;
  chain = link refl (d, m, p, (refl, refl)) i.whole' i.word i.chain;
  declarations = ap (λ x. d ∷ x) i.declarations;
  assigns = i.assigns;
  updates = i.updates;
}

from_declarations : {ts mid behind rest : List Token} {ds : List WrittenDeclaration} {as' : List WrittenAssign} {us : List WrittenUpdate} → Each Declares ts ds mid → Each Assign mid as' behind → Block behind us rest → Read ts ds as' us rest
from_declarations none a b = from_assigns a b
from_declarations (further p l) a b = let f = from_declares p in read_declared f.2 f.3 (from_declarations l a b)

abbrev parts : Span → List WrittenPort → List WrittenDeclaration → List WrittenAssign → List WrittenUpdate → Source
parts n ps ds as' us = record { name = n; ports = ps; declarations = ds; assigns = as'; updates = us }

same_parts : (n : Span) (ps : List WrittenPort) {ds es : List WrittenDeclaration} {as' bs : List WrittenAssign} {us ws : List WrittenUpdate} → ds ≡ es → as' ≡ bs → us ≡ ws → parts n ps ds as' us ≡ parts n ps es bs ws
same_parts n ps a b c = rw (a, b, c) refl

pub from_module : {ts : List Token} {s : Source} → Module ts s → AModule ts s []
from_module (whole {m = m} {t = t} {opens = o} {s = s} {ts = ts} {ds = ds} {e = e} {n = n} {ports = ps} mk nk ok pk sk d a b ek) =
    let i = from_declarations d a b in (
      source_with n ps [],
      ds,
      (n, ts, (tt, t ∷ o ∷ ts, (m, refl, mk), (n, o ∷ ts, (t, refl, nk), (tt, ts, (o, refl, ok), (refl, refl)))), (ps, s ∷ ds, from_ports pk, (tt, ds, (s, refl, sk), (refl, refl)))),
      (i.pieces, e ∷ [], (i.section, i.inner, (i.first, i.whole', i.word), i.chain), (tt, [], (e, refl, ek), (same_parts n ps i.declarations i.assigns i.updates, refl))),
    )

pub to_module : {ts : List Token} {s : Source} → AModule ts s [] → Module ts s
to_module {ts = ts} {s = s} p =
    let h = p.2 in
    let l = h.2 in
    let ports = h.3 in
    let semi = ports.3 in
    let all = p.3 in
    let sec = all.2 in
    let last = all.3 in
    let body = to_sections sec.3 sec.2.0 (section_means _ sec.0 sec.2.2) in
    let name = l.3 in
    let open' = name.3 in
    let front : ts ≡ l.2.0 ∷ name.2.0 ∷ open'.2.0 ∷ h.1 = cc (l.2.1, name.2.1, open'.2.1, open'.3.1) in
    let read = to_ports (subst (λ x. read_ports h.1 ports.0 x) (semi.2.1 ∙ ap (λ x. semi.2.0 ∷ x) semi.3.1) ports.2) in
    let decls = subst (λ x. Each Declares x (gather declared all.0) body.mid) (sym sec.2.1) body.declarations in
    let block' = subst (λ x. Block body.behind (gather updated all.0) x) (last.2.1 ∙ ap (λ x. last.2.0 ∷ x) last.3.1) body.block' in
    let is = whole l.2.2 name.2.2 open'.2.2 read semi.2.2 decls body.assigns block' last.2.2 in
    let named : name.0 ≡ p.0.name = open'.3.0 ∙ ap (λ (x : Source). x.name) semi.3.0 in
    let ported : ports.0 ≡ p.0.ports = ap (λ (x : Source). x.ports) semi.3.0 in
    subst (λ x. Module ts x) (ap (λ n. source_with n ports.0 all.0) named ∙ ap (λ q. source_with p.0.name q all.0) ported ∙ last.3.0) (subst (λ x. Module x (source_with name.0 ports.0 all.0)) (sym front) is)

-- the faulty token is that of the grammar
pub faulty_module : (ts : List Token) (k : ℕ) → IsFaulty (λ w. (v : Source) × AModule w v []) ts k → IsFaulty IsModule ts k
faulty_module ts k f = record {
  inside = f.inside;
  before = (f.before.0, (f.before.1.0, to_module f.before.1.1));
  none = λ b. f.none (b.0, (b.1.0, from_module b.1.1));
}
