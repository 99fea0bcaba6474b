-- The names of the parts of a module are those of its tokens.
use Rattle.std.proofs.Common.{◌≡◌, ℕ, List, [], Option, Some, All, refl, subst}
use Rattle.std.proofs.lemmas.List.Elements.{All-cons, All-nil}
use Rattle.std.proofs.lemmas.Option.{same_Some}
use Rattle.dk_base.specs.declared.span.Span.{Span}
use Rattle.wiring.specs.declared.right.Atom.{Atom}
use Rattle.verilog_text.specs.declared.token.Token.{Token}
use Rattle.verilog_text.specs.declared.token.TokenKind.{TokenKind}
use Rattle.verilog_text.specs.declared.token.TokenKind.TheVariants as kind
use Rattle.verilog_text.specs.declared.written.Range.{Range}
use Rattle.verilog_text.specs.declared.written.WrittenPort.{WrittenPort}
use Rattle.verilog_text.specs.declared.written.WrittenDeclaration.{WrittenDeclaration}
use Rattle.verilog_text.specs.declared.written.WrittenRight.{WrittenRight}
use Rattle.verilog_text.specs.declared.written.WrittenAssign.{WrittenAssign}
use Rattle.verilog_text.specs.declared.written.WrittenUpdate.{WrittenUpdate}
use Rattle.verilog_text.specs.Grammar.{named, atomic, Bits, bits, Ranged, one_bit, wide, Port, plain, wire as wire_port, Ports, last, more, Right, copy, complement, two, choose, join, repeat, bit, slice, word, Assign, assign, Update, set, put, Declares, wire, reg, array, Each, none, more as further, Block, left_out, always, Source, Module, whole}
use Rattle.verilog_text.specs.Stands.{IsWritten}
use Rattle.verilog_parse.specs.Named.{IsNameSpan, IsNamedAtom, IsNamedRight, IsNamedAssign, IsNamedUpdate, IsNamedSource}
use Rattle.verilog_parse.proofs.NamedTokens.{IsNamedToken, AllNamed, tokens_named}

atom_here : (text : List ℕ) (k : TokenKind) (s : Span) (x : Atom Span) → ((n : Span) → named k s ≡ Some n → IsNameSpan text n) → atomic k s ≡ Some x → IsNamedAtom text x
atom_here text kind.Name s x h e = subst (λ a. IsNamedAtom text a) (same_Some _ _ e) (h s refl)
atom_here text kind.Clock s x h e = subst (λ a. IsNamedAtom text a) (same_Some _ _ e) (h s refl)
atom_here text (kind.Sized c) s x h e = subst (λ a. IsNamedAtom text a) (same_Some _ _ e) tt
atom_here text (kind.Keyword w) s x h e = absurd (cc)
atom_here text kind.Refused s x h e = absurd (cc)
atom_here text (kind.Plain v) s x h e = absurd (cc)
atom_here text (kind.Symbol y) s x h e = absurd (cc)
atom_here text kind.End s x h e = absurd (cc)

an_atom : (text : List ℕ) (t : Token) (x : Atom Span) → IsNamedToken text t → atomic t.kind t.span ≡ Some x → IsNamedAtom text x
an_atom text t x h e = atom_here text t.kind t.span x h e

module _ (text : List ℕ) where
  bits_named : {ts rest : List Token} {r : Range} → Bits ts r rest → AllNamed text ts → AllNamed text rest
  bits_named (bits o a c b e) h = h.1.1.1.1.1

  ranged_named : {ts rest : List Token} {r : Option Range} {n : Span} → Ranged ts r n rest → AllNamed text ts → IsNameSpan text n × AllNamed text rest
  ranged_named (one_bit {n = n} e) h = (h.0 n e, h.1)
  ranged_named (wide {n = n} b e) h = let i = bits_named b h in (i.0 n e, i.1)

  port_named : {ts rest : List Token} {p : WrittenPort} → Port ts p rest → AllNamed text ts → IsNameSpan text p.name × AllNamed text rest
  port_named (plain d r) h = ranged_named r h.1
  port_named (wire_port d w r) h = ranged_named r h.1.1

  abbrev NamedPort : WrittenPort → Type 0
  NamedPort p = IsNameSpan text p.name

  abbrev NamedDeclaration : WrittenDeclaration → Type 0
  NamedDeclaration d = IsNameSpan text d.name

  ports_named : {ts rest : List Token} {ps : List WrittenPort} → Ports ts ps rest → AllNamed text ts → All NamedPort ps × AllNamed text rest
  ports_named (last {p = p} q c) h = let i = port_named q h in (All-cons NamedPort p [] i.0 (All-nil NamedPort), i.1.1)
  ports_named (more {p = p} {ps = ps} q c l) h =
      let i = port_named q h in
      let j = ports_named l i.1.1 in
      (All-cons NamedPort p ps i.0 j.0, j.1)

  right_named : {ts rest : List Token} {r : WrittenRight} → Right ts r rest → AllNamed text ts → IsNamedRight text r × AllNamed text rest
  right_named (copy {a = a} {x = x} e s) h = (an_atom text a x h.0 e, h.1.1)
  right_named (complement {a = a} {x = x} o e s) h = (an_atom text a x h.1.0 e, h.1.1.1)
  right_named (two {a = a} {b = b} {x = x} {y = y} e o f s) h = ((an_atom text a x h.0 e, an_atom text b y h.1.1.0 f), h.1.1.1.1)
  right_named (choose {c = c} {a = a} {b = b} {x = x} {y = y} {z = z} e q f o g s) h = ((an_atom text c x h.0 e, an_atom text a y h.1.1.0 f, an_atom text b z h.1.1.1.1.0 g), h.1.1.1.1.1.1)
  right_named (join {a = a} {b = b} {x = x} {y = y} o e c f d s) h = ((an_atom text a x h.1.0 e, an_atom text b y h.1.1.1.0 f), h.1.1.1.1.1.1)
  right_named (repeat {a = a} {x = x} o k i e d f s) h = (an_atom text a x h.1.1.1.0 e, h.1.1.1.1.1.1.1)
  right_named (bit {n = n} v o k e s) h = (h.0 n v, h.1.1.1.1.1)
  right_named (slice {n = n} v o k m l e s) h = (h.0 n v, h.1.1.1.1.1.1.1)
  right_named (word {i = i} {n = n} {x = x} v o e d s) h = ((h.0 n v, an_atom text i x h.1.1.0 e), h.1.1.1.1.1)

  assign_named : {ts rest : List Token} {a : WrittenAssign} → Assign ts a rest → AllNamed text ts → IsNamedAssign text a × AllNamed text rest
  assign_named (assign {n = n} k t e r) h = let i = right_named r h.1.1.1 in (record { target = h.1.0 n t; right = i.0 }, i.1)

  update_named : {ts rest : List Token} {u : WrittenUpdate} → Update ts u rest → AllNamed text ts → IsNamedUpdate text u × AllNamed text rest
  update_named (set {a = a} {n = n} {x = x} t e f s) h = ((h.0 n t, an_atom text a x h.1.1.0 f), h.1.1.1.1)
  update_named (put {i = i} {a = a} {n = n} {x = x} {y = y} t o f c e g s) h = ((h.0 n t, an_atom text i y h.1.1.0 f, an_atom text a x h.1.1.1.1.1.0 g), h.1.1.1.1.1.1.1)

  declares_named : {ts rest : List Token} {d : WrittenDeclaration} → Declares ts d rest → AllNamed text ts → IsNameSpan text d.name × AllNamed text rest
  declares_named (wire k r s) h = let i = ranged_named r h.1 in (i.0, i.1.1)
  declares_named (reg k r s) h = let i = ranged_named r h.1 in (i.0, i.1.1)
  declares_named (array k r b s) h = let i = ranged_named r h.1 in (i.0, (bits_named b i.1).1)

  each_named : {X : Type 0} (One : List Token → X → List Token → Type 0) (P : X → Type 0) → ((ts rest : List Token) (x : X) → One ts x rest → AllNamed text ts → P x × AllNamed text rest) → {ts rest : List Token} {xs : List X}
      → Each One ts xs rest → AllNamed text ts → All P xs × AllNamed text rest
  each_named One P step none h = (All-nil P, h)
  each_named One P step {ts = ts} (further {mid = m} {x = x} {xs = xs} p l) h =
      let i = step ts m x p h in
      let j = each_named One P step l i.1 in
      (All-cons P x xs i.0 j.0, j.1)

  block_named : {ts rest : List Token} {us : List WrittenUpdate} → Block ts us rest → AllNamed text ts → All (IsNamedUpdate text) us
  block_named (left_out e) h = All-nil (IsNamedUpdate text)
  block_named (always a t o p c d b us e f) h = let i = each_named Update (IsNamedUpdate text) (λ ts rest x u g. update_named u g) us h.1.1.1.1.1.1.1 in i.0

  module_named : {ts : List Token} {s : Source} → Module ts s → AllNamed text ts → IsNamedSource text s
  module_named (whole {n = n} m t o p c d a b e) h =
      let i = ports_named p h.1.1.1 in
      let j = each_named Declares NamedDeclaration (λ ts rest x q g. declares_named q g) d i.1.1 in
      let k = each_named Assign (IsNamedAssign text) (λ ts rest x q g. assign_named q g) a j.1 in
      record { name = h.1.0 n t; ports = i.0; declarations = j.0; assigns = k.0; updates = block_named b k.1 }

pub written_named : (text : List ℕ) (s : Source) → IsWritten text s → IsNamedSource text s
written_named text s w = module_named text w.is_module (tokens_named w.has_tokens text [] refl refl)
