-- What is read of a part of the grammar is that part.
use Rattle.std.proofs.Common.{◌≡◌, Option, Some, None, refl}
use Rattle.dk_base.specs.declared.span.Span.{Span}
use Rattle.wiring.specs.declared.right.Atom.TheVariants as atom
use Rattle.verilog_text.specs.declared.token.TokenKind.{TokenKind}
use Rattle.verilog_text.specs.declared.token.TokenKind.TheVariants as kind
use Rattle.verilog_text.specs.declared.written.Count.{Count}
use Rattle.verilog_text.specs.declared.written.Range.{Range}
use Rattle.verilog_text.specs.declared.written.WrittenPort.{WrittenPort}
use Rattle.verilog_text.specs.declared.written.WrittenDeclaration.{WrittenDeclaration}
use Rattle.verilog_text.specs.declared.written.WrittenRight.{WrittenRight}
use Rattle.verilog_text.specs.declared.written.WrittenAssign.{WrittenAssign}
use Rattle.verilog_text.specs.declared.written.WrittenUpdate.{WrittenUpdate}
use Rattle.verilog_text.specs.Grammar.{Tokens, named, atomic, counted, bits, Ranged, one_bit, wide, Port, plain, wire as wire_port, Right, copy, complement, two, choose, join, repeat, bit, slice, word, Assign, assign, Update, set, put, Declares, wire, reg, array}
use Rattle.verilog_text.proofs.PartReaders.{code, ranged_of, port_of, right_of, assign_of, update_of, declaration_of}

-- a name is an atom, and neither is a number
name_is_atom : (k : TokenKind) (s n : Span) → named k s ≡ Some n → atomic k s ≡ Some (atom.Net n)
name_is_atom kind.Name s n e = let f : Some s ≡ Some n = e in cc
name_is_atom kind.Clock s n e = let f : Some s ≡ Some n = e in cc
name_is_atom (kind.Keyword w) s n e = absurd (cc)
name_is_atom kind.Refused s n e = absurd (cc)
name_is_atom (kind.Plain v) s n e = absurd (cc)
name_is_atom (kind.Sized c) s n e = absurd (cc)
name_is_atom (kind.Symbol x) s n e = absurd (cc)
name_is_atom kind.End s n e = absurd (cc)

count_no_atom : (k : TokenKind) (s : Span) (c : Count) → counted k s ≡ Some c → atomic k s ≡ None
count_no_atom kind.Name s c e = absurd (cc)
count_no_atom kind.Clock s c e = absurd (cc)
count_no_atom (kind.Keyword w) s c e = absurd (cc)
count_no_atom kind.Refused s c e = absurd (cc)
count_no_atom (kind.Plain v) s c e = refl
count_no_atom (kind.Sized d) s c e = absurd (cc)
count_no_atom (kind.Symbol x) s c e = absurd (cc)
count_no_atom kind.End s c e = absurd (cc)

name_no_code : (k : TokenKind) (s n : Span) → named k s ≡ Some n → code k ≡ 0
name_no_code kind.Name s n e = refl
name_no_code kind.Clock s n e = refl
name_no_code (kind.Keyword w) s n e = absurd (cc)
name_no_code kind.Refused s n e = absurd (cc)
name_no_code (kind.Plain v) s n e = absurd (cc)
name_no_code (kind.Sized c) s n e = absurd (cc)
name_no_code (kind.Symbol x) s n e = absurd (cc)
name_no_code kind.End s n e = absurd (cc)

pub ranged_is : {ts rest : Tokens} {r : Option Range} {n : Span} → Ranged ts r n rest → ranged_of ts ≡ Some ((r, n), rest)
ranged_is (one_bit n) = rw n refl
ranged_is (wide (bits o a c b e) n) = rw (o, a, c, b, e, n) refl

pub port_is : {ts rest : Tokens} {p : WrittenPort} → Port ts p rest → port_of ts ≡ Some (p, rest)
port_is (plain {t = t} d (one_bit {t = u} {n = x} n)) = rw (d, name_no_code u.kind u.span x n, n) refl
port_is (plain d (wide (bits o a c b e) n)) = rw (d, o, a, c, b, e, n) refl
port_is (wire_port d w r) = rw (d, w, ranged_is r) refl

pub right_is : {ts rest : Tokens} {v : WrittenRight} → Right ts v rest → right_of ts ≡ Some (v, rest)
right_is (copy a s) = rw (a, s) refl
right_is (complement o a s) = rw (o, a, s) refl
right_is (two a o b s) = rw (a, o, b, s) refl
right_is (choose c q a o b s) = rw (c, q, a, o, b, s) refl
right_is (join o a c b e s) = rw (o, a, c, b, e, s) refl
right_is (repeat {k = k} {n = n} o c i a e f s) = rw (o, count_no_atom k.kind k.span n c, c, i, a, e, f, s) refl
right_is (bit {v = v} {k = k} {n = n} {c = c} x o d e s) = rw (name_is_atom v.kind v.span n x, x, o, count_no_atom k.kind k.span c d, d, e, s) refl
right_is (slice {v = v} {k = k} {n = n} {c = c} x o a m b e s) = rw (name_is_atom v.kind v.span n x, x, o, count_no_atom k.kind k.span c a, a, m, b, e, s) refl
right_is (word {v = v} {n = n} x o i e s) = rw (name_is_atom v.kind v.span n x, x, o, i, e, s) refl

pub assign_is : {ts rest : Tokens} {a : WrittenAssign} → Assign ts a rest → assign_of ts ≡ Some (a, rest)
assign_is (assign k n e r) = rw (k, n, e, right_is r) refl

pub update_is : {ts rest : Tokens} {u : WrittenUpdate} → Update ts u rest → update_of ts ≡ Some (u, rest)
update_is (set n e a s) = rw (n, e, a, s) refl
update_is (put n o i c e a s) = rw (n, o, i, c, e, a, s) refl

pub declaration_is : {ts rest : Tokens} {d : WrittenDeclaration} → Declares ts d rest → declaration_of ts ≡ Some (d, rest)
declaration_is (wire k r s) = rw (k, ranged_is r, s) refl
declaration_is (reg k r s) = rw (k, ranged_is r, s) refl
declaration_is (array k r (bits o a c b e) s) = rw (k, ranged_is r, o, a, c, b, e, s) refl
