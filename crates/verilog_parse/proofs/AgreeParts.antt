-- Names with their ranges, ports, declarations and updates as they are read are the grammar's.
use Rattle.std.proofs.Common.{◌≡◌, List, ◌∷◌, Option, Some, true, false, refl, sym, ap, ◌∙◌, subst}
use Rattle.dk_base.specs.declared.span.Span.{Span}
use Rattle.netlist.specs.declared.parts.Direction.{Direction}
use Rattle.verilog_text.specs.declared.token.Token.{Token}
use Rattle.verilog_text.specs.declared.token.Symbol.TheVariants as symbol
use Rattle.verilog_text.specs.declared.token.Keyword.TheVariants as keyword
use Rattle.verilog_text.specs.declared.token.TokenKind.TheVariants as kind
use Rattle.verilog_text.specs.declared.written.Range.{Range}
use Rattle.verilog_text.specs.declared.written.WrittenPort.{WrittenPort}
use Rattle.verilog_text.specs.declared.written.WrittenSort.{WrittenSort}
use Rattle.verilog_text.specs.declared.written.WrittenDeclaration.{WrittenDeclaration}
use Rattle.verilog_text.specs.declared.written.WrittenUpdate.{WrittenUpdate}
use Rattle.verilog_text.specs.declared.written.WrittenUpdate.TheVariants as update
use Rattle.verilog_parse.specs.declared.kind.Head.{Head}
use Rattle.verilog_parse.specs.declared.kind.Head.TheVariants as heads
use Rattle.verilog_parse.specs.declared.kind.PortLead.{PortLead}
use Rattle.verilog_parse.specs.declared.kind.PortLead.TheVariants as leads
use Rattle.verilog_parse.specs.declared.kind.Tail.{Tail}
use Rattle.verilog_parse.specs.declared.kind.Tail.TheVariants as tails
use Rattle.verilog_parse.specs.declared.kind.Arrow.{Arrow}
use Rattle.verilog_parse.specs.declared.kind.Arrow.TheVariants as arrows
use Rattle.verilog_parse.specs.declared.kind.Target.{Target}
use Rattle.verilog_parse.specs.declared.kind.Target.TheVariants as targets
use Rattle.verilog_parse.specs.declared.kind.RangedName.{RangedName}
use Rattle.dk_grammar.specs.Reading.{One, last as last', another, end, link}
use Rattle.verilog_text.specs.Grammar as grammar
use Rattle.verilog_text.specs.Grammar.{named, directed, Bits, bits, Ranged, one_bit, wide, Port, plain, wire as wire_port, last, more, Declares, wire, reg, array, Update, set, put, Each, none, more as further}
use Rattle.verilog_parse.specs.Forms.{Gives}
use Rattle.verilog_parse.specs.Sections.{comma_or_close, heading, leading, tailing, arrowing, targeting, ABits, AfterHead, ARanged, AfterLead, APort, Ports, AWire, AfterReg, AReg, AfterArrow, AnUpdate, UpdatesFrom, Updates}
use Rattle.verilog_parse.proofs.Means.{HeadMeans, LeadMeans, TailMeans, ArrowMeans, TargetMeans, head_means, lead_means, comma_means, tail_means, arrow_means, target_means, head_name, lead_name, target_name}

-- a range after its opening bracket
pub record Opened (ts : List Token) (r : Range) (rest : List Token) : Type 0 where
  pub open' : Token
  pub inner : List Token
  pub whole : ts ≡ open' ∷ inner
  pub mark : open'.kind ≡ kind.Symbol symbol.OpenSquare
  pub bits' : ABits inner r rest

opened : {ts rest : List Token} {r : Range} → Bits ts r rest → Opened ts r rest
opened {rest = z} (bits {opens = o} {first = f} {colon = c} {second = s} {close = e} {a = a} {b = b} p q r t u) = record {
  open' = o;
  inner = f ∷ c ∷ s ∷ e ∷ z;
  whole = refl;
  mark = p;
  bits' = (a, c ∷ s ∷ e ∷ z, (f, refl, q), (tt, s ∷ e ∷ z, (c, refl, r), (b, e ∷ z, (s, refl, t), (tt, z, (e, refl, u), (refl, refl)))));
}

closed : (ts inner rest : List Token) (o : Token) (r : Range) → ts ≡ o ∷ inner → o.kind ≡ kind.Symbol symbol.OpenSquare → ABits inner r rest → Bits ts r rest
closed ts inner rest o r e g p =
    let q = p.3 in
    let s = q.3 in
    let u = s.3 in
    let whole : ts ≡ o ∷ p.2.0 ∷ q.2.0 ∷ s.2.0 ∷ u.2.0 ∷ rest = cc (e, p.2.1, q.2.1, s.2.1, u.2.1, u.3.1) in
    subst (λ y. Bits ts y rest) u.3.0 (rw whole (bits g p.2.2 q.2.2 s.2.2 u.2.2))

abbrev ranged_name : Option Range → Span → RangedName
ranged_name r n = record { bits = r; name = n }

pub from_ranged : {ts rest : List Token} {r : Option Range} {n : Span} → Ranged ts r n rest → ARanged ts (ranged_name r n) rest
from_ranged {rest = rest} {n = n} (one_bit {t = t} g) = (heads.Name n, rest, (t, refl, head_name _ _ _ g), (refl, refl))
from_ranged {rest = rest} {n = n} (wide {r = r'} {t = t} b g) =
    let o = opened b in
    (heads.Square, o.inner, (o.open', o.whole, ap (λ k. heading k o.open'.span) o.mark), (r', t ∷ rest, o.bits', (n, rest, (t, refl, g), (refl, refl))))

from_lead : {ts rest : List Token} {r : Option Range} {n : Span} → Ranged ts r n rest → (l : PortLead) × (mid : List Token) × One (Gives leading) ts l mid × AfterLead l mid (ranged_name r n) rest
from_lead {rest = rest} {n = n} (one_bit {t = t} g) = (leads.Head (heads.Name n), rest, (t, refl, lead_name _ _ _ g), (refl, refl))
from_lead {rest = rest} {n = n} (wide {r = r'} {t = t} b g) =
    let o = opened b in
    (leads.Head heads.Square, o.inner, (o.open', o.whole, ap (λ k. leading k o.open'.span) o.mark), (r', t ∷ rest, o.bits', (n, rest, (t, refl, g), (refl, refl))))

from_port : {ts rest : List Token} {p : WrittenPort} → Port ts p rest → APort ts p rest
from_port {rest = z} (plain {t = t} {ts = ts} {d = d} {r = r} {n = n} g h) =
    let l = from_lead h in
    (d, ts, (t, refl, g), (l.0, l.1, l.2, (ranged_name r n, z, l.3, (refl, refl))))
from_port {rest = z} (wire_port {t = t} {wire = w} {ts = ts} {d = d} {r = r} {n = n} g k h) =
    (d, w ∷ ts, (t, refl, g), (leads.Wire, ts, (w, refl, ap (λ x. leading x w.span) k), (ranged_name r n, z, from_ranged h, (refl, refl))))

pub from_ports : {ts rest : List Token} {ps : List WrittenPort} → grammar.Ports ts ps rest → Ports ts ps rest
from_ports (last p k) = last' (from_port p) refl (ap (λ x. comma_or_close x) k)
from_ports (more p k l) = another (from_port p) refl (ap (λ x. comma_or_close x) k) (from_ports l)

-- and the other way
to_head : (h : Head) (t : Token) (ts mid rest : List Token) (r : RangedName) → ts ≡ t ∷ mid → HeadMeans t.kind t.span h → AfterHead h mid r rest → Ranged ts r.bits r.name rest
to_head heads.Square t ts mid rest r e g q =
    let n = q.3 in
    let b : Bits ts q.0 (n.2.0 ∷ rest) = subst (λ x. Bits ts q.0 x) (n.2.1 ∙ ap (λ x. n.2.0 ∷ x) n.3.1) (closed ts mid q.1 t q.0 e g q.2) in
    subst (λ (x : RangedName). Ranged ts x.bits x.name rest) n.3.0 (wide b n.2.2)
to_head (heads.Name n) t ts mid rest r e g q =
    let whole : ts ≡ t ∷ rest = cc (e, q.1) in
    subst (λ (x : RangedName). Ranged ts x.bits x.name rest) q.0 (rw whole (one_bit g))

pub to_ranged : {ts rest : List Token} {r : RangedName} → ARanged ts r rest → Ranged ts r.bits r.name rest
to_ranged {ts = ts} {rest = rest} {r = r} q = to_head q.0 q.2.0 ts q.1 rest r q.2.1 (head_means _ _ _ q.2.2) q.3

to_lead : (l : PortLead) (d : Direction) (k t : Token) (ts tail mid rest : List Token) (r : RangedName) → ts ≡ k ∷ tail → tail ≡ t ∷ mid → directed k.kind ≡ Some d → LeadMeans t.kind t.span l → AfterLead l mid r rest
    → Port ts (record { direction = d; bits = r.bits; name = r.name }) rest
to_lead leads.Wire d k t ts tail mid rest r e f g h q =
    let whole : ts ≡ k ∷ t ∷ mid = cc (e, f) in
    rw whole (wire_port g h (to_ranged q))
to_lead (leads.Head v) d k t ts tail mid rest r e f g h q = rw e (plain g (to_head v t tail mid rest r f h q))

to_port : {ts rest : List Token} {p : WrittenPort} → APort ts p rest → Port ts p rest
to_port {ts = ts} {rest = z} {p = p} q =
    let l = q.3 in
    let a = l.3 in
    let is : Port ts (record { direction = q.0; bits = a.0.bits; name = a.0.name }) z = to_lead l.0 q.0 q.2.0 l.2.0 ts q.1 l.1 z a.0 q.2.1 l.2.1 q.2.2 (lead_means _ _ _ l.2.2) (subst (λ x. AfterLead l.0 l.1 a.0 x) a.3.1 a.2) in
    subst (λ y. Port ts y z) a.3.0 is

pub to_ports : {ts rest : List Token} {ps : List WrittenPort} → Ports ts ps rest → grammar.Ports ts ps rest
to_ports {ts = ts} (last' {t = t} {v = v} p e k) = last (subst (λ x. Port ts v x) e (to_port p)) (comma_means _ false k)
to_ports {ts = ts} (another {t = t} {v = v} p e k l) = more (subst (λ x. Port ts v x) e (to_port p)) (comma_means _ true k) (to_ports l)

-- declarations, after their first word
abbrev pub declared_as : WrittenSort → RangedName → WrittenDeclaration
declared_as s r = record { sort = s; bits = r.bits; name = r.name }

pub to_wire : {ts rest : List Token} {d : WrittenDeclaration} (k : Token) → k.kind ≡ kind.Keyword keyword.Wire → AWire ts d rest → Declares (k ∷ ts) d rest
to_wire {ts = ts} {rest = z} k w q =
    let s = q.3 in
    let r : Ranged ts q.0.bits q.0.name (s.2.0 ∷ z) = subst (λ x. Ranged ts q.0.bits q.0.name x) (s.2.1 ∙ ap (λ x. s.2.0 ∷ x) s.3.1) (to_ranged q.2) in
    subst (λ y. Declares (k ∷ ts) y z) s.3.0 (wire w r s.2.2)

to_tail : (t : Tail) (k o : Token) (ts mid inner rest : List Token) (r : RangedName) (d : WrittenDeclaration) → k.kind ≡ kind.Keyword keyword.Reg → Ranged ts r.bits r.name mid → mid ≡ o ∷ inner → TailMeans o.kind t → AfterReg r t inner d rest
    → Declares (k ∷ ts) d rest
to_tail tails.End k o ts mid inner z r d w q e g p =
    let n : Ranged ts r.bits r.name (o ∷ z) = subst (λ x. Ranged ts r.bits r.name x) (e ∙ ap (λ x. o ∷ x) p.1) q in
    subst (λ y. Declares (k ∷ ts) y z) p.0 (reg w n g)
to_tail tails.Words k o ts mid inner z r d w q e g p =
    let s = p.3 in
    let b : Bits mid p.0 (s.2.0 ∷ z) = subst (λ x. Bits mid p.0 x) (s.2.1 ∙ ap (λ x. s.2.0 ∷ x) s.3.1) (closed mid inner p.1 o p.0 e g p.2) in
    subst (λ y. Declares (k ∷ ts) y z) s.3.0 (array w q b s.2.2)

pub to_reg : {ts rest : List Token} {d : WrittenDeclaration} (k : Token) → k.kind ≡ kind.Keyword keyword.Reg → AReg ts d rest → Declares (k ∷ ts) d rest
to_reg {ts = ts} {rest = z} {d = d} k w q =
    let t = q.3 in
    to_tail t.0 k t.2.0 ts q.1 t.1 z q.0 d w (to_ranged q.2) t.2.1 (tail_means _ _ t.2.2) t.3

-- a declaration is a first word and what follows it
pub data IsDeclared (k : Token) : List Token → WrittenDeclaration → List Token → Type 0 where
  of_wire : {mid rest : List Token} {d : WrittenDeclaration} → k.kind ≡ kind.Keyword keyword.Wire → AWire mid d rest → IsDeclared k mid d rest
  of_reg : {mid rest : List Token} {d : WrittenDeclaration} → k.kind ≡ kind.Keyword keyword.Reg → AReg mid d rest → IsDeclared k mid d rest

pub from_declares : {ts rest : List Token} {d : WrittenDeclaration} → Declares ts d rest → (k : Token) × (mid : List Token) × (ts ≡ k ∷ mid) × IsDeclared k mid d rest
from_declares {rest = z} (wire {k = k} {s = s} {ts = ts} {r = r} {n = n} w q e) = (k, ts, refl, of_wire w (ranged_name r n, s ∷ z, from_ranged q, (tt, z, (s, refl, e), (refl, refl))))
from_declares {rest = z} (reg {k = k} {s = s} {ts = ts} {r = r} {n = n} w q e) =
    (k, ts, refl, of_reg w (ranged_name r n, s ∷ z, from_ranged q, (tails.End, z, (s, refl, ap (λ x. tailing x) e), (refl, refl))))
from_declares {rest = z} (array {k = k} {s = s} {ts = ts} {mid = mid} {r = r} {n = n} {w = ws} w q b e) =
    let o = opened b in
    (k, ts, refl, of_reg w (ranged_name r n, mid, from_ranged q, (tails.Words, o.inner, (o.open', o.whole, ap (λ x. tailing x) o.mark), (ws, s ∷ z, o.bits', (tt, z, (s, refl, e), (refl, refl))))))

-- updates
to_arrow : (a : Arrow) (n : Span) (t o : Token) (ts mid inner rest : List Token) (u : WrittenUpdate) → ts ≡ t ∷ mid → mid ≡ o ∷ inner → named t.kind t.span ≡ Some n → ArrowMeans o.kind a → AfterArrow n a inner u rest → Update ts u rest
to_arrow arrows.Takes n t o ts mid inner rest u e f g h p =
    let q = p.2 in
    let whole : ts ≡ t ∷ o ∷ q.2.0 ∷ q.3.2.0 ∷ rest = cc (e, f, q.2.1, q.3.2.1, q.3.3.1, p.3.1) in
    let value : update.Set n q.0 ≡ u = cc (q.3.3.0, p.3.0) in
    subst (λ y. Update ts y rest) value (rw whole (set g h q.2.2 q.3.2.2))
to_arrow arrows.Index n t o ts mid inner rest u e f g h p =
    let i = p.2 in
    let s = p.3 in
    let q = s.3.2 in
    let whole : ts ≡ t ∷ o ∷ i.2.0 ∷ i.3.2.0 ∷ s.2.0 ∷ q.2.0 ∷ q.3.2.0 ∷ rest = cc (e, f, i.2.1, i.3.2.1, i.3.3.1, s.2.1, q.2.1, q.3.2.1, q.3.3.1, s.3.3.1) in
    let value : update.Put n i.0 q.0 ≡ u = cc (i.3.3.0, q.3.3.0, s.3.3.0) in
    subst (λ y. Update ts y rest) value (rw whole (put g h i.2.2 i.3.2.2 s.2.2 q.2.2 q.3.2.2))

to_update : {mid rest : List Token} {u : WrittenUpdate} {n : Span} (t : Token) → named t.kind t.span ≡ Some n → AnUpdate n mid u rest → Update (t ∷ mid) u rest
to_update {mid = mid} {rest = z} {u = u} {n = n} t g q = to_arrow q.0 n t q.2.0 (t ∷ mid) mid q.1 z u refl q.2.1 g (arrow_means _ _ q.2.2) q.3

from_update : {ts rest : List Token} {u : WrittenUpdate} → Update ts u rest → (t : Token) × (n : Span) × (mid : List Token) × (ts ≡ t ∷ mid) × (named t.kind t.span ≡ Some n) × AnUpdate n mid u rest
from_update {rest = z} (set {t = t} {e = e} {a = a} {s = s} {n = n} {x = x} f g h i) =
    (t, n, e ∷ a ∷ s ∷ z, refl, f, (arrows.Takes, a ∷ s ∷ z, (e, refl, ap (λ k. arrowing k) g), (x, z, (x, s ∷ z, (a, refl, h), (tt, z, (s, refl, i), (refl, refl))), (refl, refl))))
from_update {rest = z} (put {t = t} {o = o} {i = i} {c = c} {e = e} {a = a} {s = s} {n = n} {x = x} {y = y} f g h j k l m) = (
  t,
  n,
  o ∷ i ∷ c ∷ e ∷ a ∷ s ∷ z,
  refl,
  f,
  (
    arrows.Index,
    i ∷ c ∷ e ∷ a ∷ s ∷ z,
    (o, refl, ap (λ k. arrowing k) g),
    (
      y,
      e ∷ a ∷ s ∷ z,
      (y, c ∷ e ∷ a ∷ s ∷ z, (i, refl, h), (tt, e ∷ a ∷ s ∷ z, (c, refl, j), (refl, refl))),
      (tt, a ∷ s ∷ z, (e, refl, k), (x, z, (x, s ∷ z, (a, refl, l), (tt, z, (s, refl, m), (refl, refl))), (refl, refl))),
    ),
  ),
)

-- updates up to the word that ends them
pub record IsEnded (ts : List Token) (us : List WrittenUpdate) (rest : List Token) : Type 0 where
  pub end' : Token
  pub each : Each Update ts us (end' ∷ rest)
  pub word : end'.kind ≡ kind.Keyword keyword.End

to_target : {m : Target} {mid rest : List Token} {us : List WrittenUpdate} → UpdatesFrom m mid us rest → (t : Token) → TargetMeans t.kind t.span m → IsEnded (t ∷ mid) us rest
to_target {m = targets.Name n} (end g) t h = absurd (cc)
to_target {m = targets.End} (end g) t h = record { end' = t; each = none; word = h }
to_target {m = targets.End} (link g p e k q) t h = absurd (cc)
to_target {m = targets.Name n} {mid = mid} (link {n = m'} {t = t'} {v = u} g p e k q) t h =
    let i = to_target q t' (target_means _ _ m' k) in
    record { end' = i.end'; each = further (subst (λ x. Update (t ∷ mid) u x) e (to_update t h p)) i.each; word = i.word }

pub to_updates : {ts rest : List Token} {us : List WrittenUpdate} → Updates ts us rest → IsEnded ts us rest
to_updates {ts = ts} {rest = z} {us = us} q = subst (λ x. IsEnded x us z) (sym q.2.1) (to_target q.3 q.2.0 (target_means _ _ _ q.2.2))

pub from_updates : {ts rest : List Token} {us : List WrittenUpdate} (e : Token) (behind : List Token) → Each Update ts us rest → rest ≡ e ∷ behind → e.kind ≡ kind.Keyword keyword.End → Updates ts us behind
from_updates e behind none w k = (targets.End, behind, (e, w, ap (λ x. targeting x e.span) k), end refl)
from_updates e behind (further p l) w k =
    let u = from_update p in
    let i = from_updates e behind l w k in
    (targets.Name u.1, u.2, (u.0, u.3, target_name _ _ _ u.4), link refl u.5 i.2.1 i.2.2 i.3)
