-- Right sides and assigns as they are read are the grammar's.
use Rattle.std.proofs.Common.{◌≡◌, List, ◌∷◌, Some, Bool, true, false, refl, sym, ap, ◌∙◌, subst}
use Rattle.dk_base.specs.declared.span.Span.{Span}
use Rattle.wiring.specs.declared.right.Atom.{Atom}
use Rattle.wiring.specs.declared.right.Atom.TheVariants as atom
use Rattle.verilog_text.specs.declared.token.Token.{Token}
use Rattle.verilog_text.specs.declared.token.Symbol.TheVariants as symbol
use Rattle.verilog_text.specs.declared.token.Keyword.TheVariants as keyword
use Rattle.verilog_text.specs.declared.token.TokenKind.TheVariants as kind
use Rattle.verilog_text.specs.declared.written.Count.{Count}
use Rattle.verilog_text.specs.declared.written.WrittenRight.{WrittenRight}
use Rattle.verilog_text.specs.declared.written.WrittenRight.TheVariants as right
use Rattle.verilog_text.specs.declared.written.WrittenAssign.{WrittenAssign}
use Rattle.verilog_parse.specs.declared.kind.RightStart.{RightStart}
use Rattle.verilog_parse.specs.declared.kind.RightStart.TheVariants as start
use Rattle.verilog_parse.specs.declared.kind.Item.{Item}
use Rattle.verilog_parse.specs.declared.kind.Item.TheVariants as items
use Rattle.verilog_parse.specs.declared.kind.Follow.{Follow}
use Rattle.verilog_parse.specs.declared.kind.Follow.TheVariants as follow
use Rattle.verilog_text.specs.Grammar.{named, atomic, counted, Right, copy, complement, two, choose, join, repeat, bit, slice, word, Assign, assign}
use Rattle.verilog_parse.specs.Forms.{starting, following, colon_or_close, AfterFirst, AfterItem, AfterAtom, AfterBrace, AfterStart, ARight, AnAssign}
use Rattle.verilog_parse.proofs.Means.{StartMeans, ItemMeans, FollowMeans, MoreMeans, start_means, item_means, follow_means, more_means, start_atom, item_atom, item_count, name_atom, atom_name, follow_operator}

pub from_right : {ts rest : List Token} {r : WrittenRight} → Right ts r rest → ARight ts r rest
from_right {rest = z} (copy {a = a} {s = s} {x = x} g h) = (start.Atom x, s ∷ z, (a, refl, start_atom _ _ _ g), (follow.End, z, (s, refl, ap (λ k. following x k) h), (refl, refl)))
from_right {rest = z} (complement {o = o} {a = a} {s = s} {x = x} g h i) = (start.Tilde, a ∷ s ∷ z, (o, refl, ap (λ k. starting k o.span) g), (x, z, (x, s ∷ z, (a, refl, h), (tt, z, (s, refl, i), (refl, refl))), (refl, refl)))
from_right {rest = z} (two {a = a} {o = o} {b = b} {s = s} {x = x} {y = y} {op = op} g h i j) =
    (start.Atom x, o ∷ b ∷ s ∷ z, (a, refl, start_atom _ _ _ g), (follow.Operator op, b ∷ s ∷ z, (o, refl, follow_operator _ _ _ h), (y, z, (y, s ∷ z, (b, refl, i), (tt, z, (s, refl, j), (refl, refl))), (refl, refl))))
from_right {rest = w} (choose {c = c} {q = q} {a = a} {o = o} {b = b} {s = s} {x = x} {y = y} {z = z} g h i j k l) = (
  start.Atom x,
  q ∷ a ∷ o ∷ b ∷ s ∷ w,
  (c, refl, start_atom _ _ _ g),
  (
    follow.Question,
    a ∷ o ∷ b ∷ s ∷ w,
    (q, refl, ap (λ k. following x k) h),
    (y, b ∷ s ∷ w, (y, o ∷ b ∷ s ∷ w, (a, refl, i), (tt, b ∷ s ∷ w, (o, refl, j), (refl, refl))), (z, w, (z, s ∷ w, (b, refl, k), (tt, w, (s, refl, l), (refl, refl))), (refl, refl))),
  ),
)
from_right {rest = z} (join {o = o} {a = a} {c = c} {b = b} {e = e} {s = s} {x = x} {y = y} f g h i j k) = (
  start.Brace,
  a ∷ c ∷ b ∷ e ∷ s ∷ z,
  (o, refl, ap (λ k. starting k o.span) f),
  (
    items.Atom x,
    c ∷ b ∷ e ∷ s ∷ z,
    (a, refl, item_atom _ _ _ g),
    (tt, b ∷ e ∷ s ∷ z, (c, refl, h), (y, e ∷ s ∷ z, (b, refl, i), (tt, z, (tt, s ∷ z, (e, refl, j), (s, refl, k)), (refl, refl)))),
  ),
)
from_right {rest = z} (repeat {o = o} {k = k} {i = i} {a = a} {e = e} {f = f} {s = s} {n = n} {x = x} p q r t u v w) = (
  start.Brace,
  k ∷ i ∷ a ∷ e ∷ f ∷ s ∷ z,
  (o, refl, ap (λ k. starting k o.span) p),
  (
    items.Count n,
    i ∷ a ∷ e ∷ f ∷ s ∷ z,
    (k, refl, item_count _ _ _ q),
    (tt, a ∷ e ∷ f ∷ s ∷ z, (i, refl, r), (x, f ∷ s ∷ z, (x, e ∷ f ∷ s ∷ z, (a, refl, t), (tt, f ∷ s ∷ z, (e, refl, u), (refl, refl))), (tt, z, (tt, s ∷ z, (f, refl, v), (s, refl, w)), (refl, refl)))),
  ),
)
from_right {rest = z} (bit {v = v} {o = o} {k = k} {e = e} {s = s} {n = n} {c = c} f g h i j) = (
  start.Atom (atom.Net n),
  o ∷ k ∷ e ∷ s ∷ z,
  (v, refl, start_atom _ _ _ (name_atom _ _ _ f)),
  (
    follow.Square n,
    k ∷ e ∷ s ∷ z,
    (o, refl, ap (λ k. following (atom.Net n) k) g),
    (items.Count c, e ∷ s ∷ z, (k, refl, item_count _ _ _ h), (false, s ∷ z, (e, refl, ap (λ k. colon_or_close k) i), (tt, z, (s, refl, j), (refl, refl)))),
  ),
)
from_right {rest = z} (slice {v = v} {o = o} {k = k} {m = m} {l = l} {e = e} {s = s} {n = n} {c = c} {d = d} f g h i j p q) = (
  start.Atom (atom.Net n),
  o ∷ k ∷ m ∷ l ∷ e ∷ s ∷ z,
  (v, refl, start_atom _ _ _ (name_atom _ _ _ f)),
  (
    follow.Square n,
    k ∷ m ∷ l ∷ e ∷ s ∷ z,
    (o, refl, ap (λ k. following (atom.Net n) k) g),
    (
      items.Count c,
      m ∷ l ∷ e ∷ s ∷ z,
      (k, refl, item_count _ _ _ h),
      (
        true,
        l ∷ e ∷ s ∷ z,
        (m, refl, ap (λ k. colon_or_close k) i),
        (d, e ∷ s ∷ z, (l, refl, j), (tt, z, (tt, s ∷ z, (e, refl, p), (s, refl, q)), (refl, refl))),
      ),
    ),
  ),
)
from_right {rest = z} (word {v = v} {o = o} {i = i} {e = e} {s = s} {n = n} {x = x} f g h j k) = (
  start.Atom (atom.Net n),
  o ∷ i ∷ e ∷ s ∷ z,
  (v, refl, start_atom _ _ _ (name_atom _ _ _ f)),
  (
    follow.Square n,
    i ∷ e ∷ s ∷ z,
    (o, refl, ap (λ k. following (atom.Net n) k) g),
    (items.Atom x, e ∷ s ∷ z, (i, refl, item_atom _ _ _ h), (tt, z, (tt, s ∷ z, (e, refl, j), (s, refl, k)), (refl, refl))),
  ),
)

pub from_assign : {ts rest : List Token} {a : WrittenAssign} → Assign ts a rest → (k : Token) × (mid : List Token) × (ts ≡ k ∷ mid) × (k.kind ≡ kind.Keyword keyword.Assign) × AnAssign mid a rest
from_assign {rest = z} (assign {k = k} {t = t} {e = e} {ts = ts} {n = n} {r = r} f g h i) = (k, t ∷ e ∷ ts, refl, f, (n, e ∷ ts, (t, refl, g), (tt, ts, (e, refl, h), (r, z, from_right i, (refl, refl)))))

-- and what is read is of the grammar
to_first : (c : Bool) (v o k m : Token) (n : Span) (d : Count) (ts a b rest : List Token) (r : WrittenRight) → ts ≡ v ∷ o ∷ k ∷ m ∷ b → named v.kind v.span ≡ Some n → o.kind ≡ kind.Symbol symbol.OpenSquare
    → counted k.kind k.span ≡ Some d → MoreMeans m.kind c → AfterFirst n d c b r rest → Right ts r rest
to_first true v o k m n d ts a b rest r e f g h i p =
    let l = p.2 in
    let q = p.3.2 in
    let whole : ts ≡ v ∷ o ∷ k ∷ m ∷ l.0 ∷ q.2.0 ∷ q.3.0 ∷ rest = cc (e, l.1, q.2.1, q.3.1, p.3.3.1) in
    subst (λ x. Right ts x rest) p.3.3.0 (rw whole (slice f g h i l.2 q.2.2 q.3.2))
to_first false v o k m n d ts a b rest r e f g h i p =
    let whole : ts ≡ v ∷ o ∷ k ∷ m ∷ p.2.0 ∷ rest = cc (e, p.2.1, p.3.1) in
    subst (λ x. Right ts x rest) p.3.0 (rw whole (bit f g h i p.2.2))

to_item : (c : Item) (v o k : Token) (n : Span) (ts b rest : List Token) (r : WrittenRight) → ts ≡ v ∷ o ∷ k ∷ b → named v.kind v.span ≡ Some n → o.kind ≡ kind.Symbol symbol.OpenSquare
    → ItemMeans k.kind k.span c → AfterItem n c b r rest → Right ts r rest
to_item (items.Count d) v o k n ts b rest r e f g h p =
    let m = p.2 in
    let whole : ts ≡ v ∷ o ∷ k ∷ m.0 ∷ p.1 = cc (e, m.1) in
    to_first p.0 v o k m.0 n d ts b p.1 rest r whole f g h (more_means _ _ m.2) p.3
to_item (items.Atom x) v o k n ts b rest r e f g h p =
    let q = p.2 in
    let whole : ts ≡ v ∷ o ∷ k ∷ q.2.0 ∷ q.3.0 ∷ rest = cc (e, q.2.1, q.3.1, p.3.1) in
    subst (λ x. Right ts x rest) p.3.0 (rw whole (word f g h q.2.2 q.3.2))

to_follow : (c : Follow) (v o : Token) (x : Atom Span) (ts b rest : List Token) (r : WrittenRight) → ts ≡ v ∷ o ∷ b → atomic v.kind v.span ≡ Some x → FollowMeans x o.kind c → AfterAtom x c b r rest → Right ts r rest
to_follow follow.End v o x ts b rest r e f g p =
    let whole : ts ≡ v ∷ o ∷ rest = cc (e, p.1) in
    subst (λ y. Right ts y rest) p.0 (rw whole (copy f g))
to_follow (follow.Operator op) v o x ts b rest r e f g p =
    let q = p.2 in
    let whole : ts ≡ v ∷ o ∷ q.2.0 ∷ q.3.2.0 ∷ rest = cc (e, q.2.1, q.3.2.1, q.3.3.1, p.3.1) in
    subst (λ y. Right ts y rest) p.3.0 (rw whole (subst (λ z. Right (v ∷ o ∷ q.2.0 ∷ q.3.2.0 ∷ rest) (right.Binary op x z) rest) q.3.3.0 (two f g q.2.2 q.3.2.2)))
to_follow follow.Question v o x ts b rest r e f g p =
    let q = p.2 in
    let s = p.3.2 in
    let whole : ts ≡ v ∷ o ∷ q.2.0 ∷ q.3.2.0 ∷ s.2.0 ∷ s.3.2.0 ∷ rest = cc (e, q.2.1, q.3.2.1, q.3.3.1, s.2.1, s.3.2.1, s.3.3.1, p.3.3.1) in
    let value : right.Choose x q.0 s.0 ≡ r = cc (q.3.3.0, s.3.3.0, p.3.3.0) in
    subst (λ y. Right ts y rest) value (rw whole (choose f g q.2.2 q.3.2.2 s.2.2 s.3.2.2))
to_follow (follow.Square n) v o x ts b rest r e f g p =
    let whole : ts ≡ v ∷ o ∷ p.2.0 ∷ p.1 = cc (e, p.2.1) in
    let f' : atomic v.kind v.span ≡ Some (atom.Net n) = f ∙ ap (λ y. Some y) g.1 in
    to_item p.0 v o p.2.0 n ts p.1 rest r whole (atom_name _ _ _ f') g.0 (item_means _ _ _ p.2.2) p.3

to_brace : (c : Item) (o k : Token) (ts b rest : List Token) (r : WrittenRight) → ts ≡ o ∷ k ∷ b → o.kind ≡ kind.Symbol symbol.OpenBrace → ItemMeans k.kind k.span c → AfterBrace c b r rest → Right ts r rest
to_brace (items.Count n) o k ts b rest r e f g p =
    let q = p.3.2 in
    let s = p.3.3.2 in
    let whole : ts ≡ o ∷ k ∷ p.2.0 ∷ q.2.0 ∷ q.3.2.0 ∷ s.2.0 ∷ s.3.0 ∷ rest = cc (e, p.2.1, q.2.1, q.3.2.1, q.3.3.1, s.2.1, s.3.1, p.3.3.3.1) in
    let value : right.Repeat n q.0 ≡ r = cc (q.3.3.0, p.3.3.3.0) in
    subst (λ y. Right ts y rest) value (rw whole (repeat f g p.2.2 q.2.2 q.3.2.2 s.2.2 s.3.2))
to_brace (items.Atom x) o k ts b rest r e f g p =
    let q = p.3.2 in
    let s = p.3.3.2 in
    let whole : ts ≡ o ∷ k ∷ p.2.0 ∷ q.0 ∷ s.2.0 ∷ s.3.0 ∷ rest = cc (e, p.2.1, q.1, s.2.1, s.3.1, p.3.3.3.1) in
    subst (λ y. Right ts y rest) p.3.3.3.0 (rw whole (join f g p.2.2 q.2 s.2.2 s.3.2))

to_start : (c : RightStart) (v : Token) (ts b rest : List Token) (r : WrittenRight) → ts ≡ v ∷ b → StartMeans v.kind v.span c → AfterStart c b r rest → Right ts r rest
to_start start.Tilde v ts b rest r e g p =
    let q = p.2 in
    let whole : ts ≡ v ∷ q.2.0 ∷ q.3.2.0 ∷ rest = cc (e, q.2.1, q.3.2.1, q.3.3.1, p.3.1) in
    let value : right.Not q.0 ≡ r = cc (q.3.3.0, p.3.0) in
    subst (λ y. Right ts y rest) value (rw whole (complement g q.2.2 q.3.2.2))
to_start start.Brace v ts b rest r e g p =
    let whole : ts ≡ v ∷ p.2.0 ∷ p.1 = cc (e, p.2.1) in
    to_brace p.0 v p.2.0 ts p.1 rest r whole g (item_means _ _ _ p.2.2) p.3
to_start (start.Atom x) v ts b rest r e g p =
    let whole : ts ≡ v ∷ p.2.0 ∷ p.1 = cc (e, p.2.1) in
    to_follow p.0 v p.2.0 x ts p.1 rest r whole g (follow_means _ _ _ p.2.2) p.3

pub to_right : (ts rest : List Token) (r : WrittenRight) → ARight ts r rest → Right ts r rest
to_right ts rest r p = to_start p.0 p.2.0 ts p.1 rest r p.2.1 (start_means _ _ _ p.2.2) p.3

pub to_assign : (k : Token) (ts rest : List Token) (a : WrittenAssign) → k.kind ≡ kind.Keyword keyword.Assign → AnAssign ts a rest → Assign (k ∷ ts) a rest
to_assign k ts rest a w p =
    let s = p.3 in
    let z = s.3 in
    let whole : ts ≡ p.2.0 ∷ s.2.0 ∷ s.1 = cc (p.2.1, s.2.1) in
    let right : Right s.1 z.0 rest = subst (λ x. Right s.1 z.0 x) z.3.1 (to_right s.1 z.1 z.0 z.2) in
    subst (λ y. Assign (k ∷ ts) y rest) z.3.0 (subst (λ x. Assign (k ∷ x) (record { target = p.0; right = z.0 }) rest) (sym whole) (assign w p.2.2 s.2.2 right))
