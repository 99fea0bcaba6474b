-- The constants of what is written are those of its tokens.
use Rattle.std.proofs.Common.{◌≡◌, ℕ, List, [], ◌++◌, Option, Some, All, refl, subst}
use Rattle.std.proofs.lemmas.List.Elements.{All-cons, All-nil, All-append}
use Rattle.std.proofs.lemmas.Option.{same_Some}
use Rattle.dk_base.specs.declared.span.Span.{Span}
use Rattle.wiring.specs.Sizes.{IsConstant}
use Rattle.wiring.specs.Rights.{atom_constants, constants_of}
use Rattle.wiring.specs.declared.right.Atom.{Atom}
use Rattle.netlist.specs.Scopes.{update_constants}
use Rattle.verilog_text.specs.declared.token.Token.{Token}
use Rattle.verilog_text.specs.declared.token.TokenKind.{TokenKind}
use Rattle.verilog_text.specs.declared.token.TokenKind.TheVariants as kind
use Rattle.verilog_text.specs.declared.written.Range.{Range}
use Rattle.verilog_text.specs.declared.written.WrittenPort.{WrittenPort}
use Rattle.verilog_text.specs.declared.written.WrittenDeclaration.{WrittenDeclaration}
use Rattle.verilog_text.specs.declared.written.WrittenRight.{WrittenRight}
use Rattle.verilog_text.specs.declared.written.WrittenAssign.{WrittenAssign}
use Rattle.verilog_text.specs.declared.written.WrittenUpdate.{WrittenUpdate}
use Rattle.verilog_text.specs.Grammar.{atomic, Bits, bits, Ranged, one_bit, wide, Port, plain, wire as wire_port, Ports, last, more, Right, copy, complement, two, choose, join, repeat, bit, slice, word, Assign, assign, Update, set, put, Declares, wire, reg, array, Each, none, more as further, Block, left_out, always, Source, Module, whole}
use Rattle.verilog_text.specs.Stands.{atom_of, right_of, update_of, IsWritten}
use Rattle.verilog_verdicts.proofs.Constants.{IsSound, AllSound, tokens_sound}

-- what comes after a part
bits_after : {ts rest : List Token} {r : Range} → Bits ts r rest → AllSound ts → AllSound rest
bits_after (bits o a c b e) h = h.1.1.1.1.1

ranged_after : {ts rest : List Token} {r : Option Range} {n : Span} → Ranged ts r n rest → AllSound ts → AllSound rest
ranged_after (one_bit e) h = h.1
ranged_after (wide b e) h = (bits_after b h).1

port_after : {ts rest : List Token} {p : WrittenPort} → Port ts p rest → AllSound ts → AllSound rest
port_after (plain d r) h = ranged_after r h.1
port_after (wire_port d w r) h = ranged_after r h.1.1

ports_after : {ts rest : List Token} {ps : List WrittenPort} → Ports ts ps rest → AllSound ts → AllSound rest
ports_after (last q c) h = (port_after q h).1
ports_after (more q c l) h = ports_after l (port_after q h).1

declares_after : {ts rest : List Token} {d : WrittenDeclaration} → Declares ts d rest → AllSound ts → AllSound rest
declares_after (wire k r s) h = (ranged_after r h.1).1
declares_after (reg k r s) h = (ranged_after r h.1).1
declares_after (array k r b s) h = (bits_after b (ranged_after r h.1)).1

each_after : {ts rest : List Token} {ds : List WrittenDeclaration} → Each Declares ts ds rest → AllSound ts → AllSound rest
each_after none h = h
each_after (further d ds) h = each_after ds (declares_after d h)

module _ (text : List ℕ) where
  abbrev AtomFits : Atom Span → Type 0
  AtomFits x = All IsConstant (atom_constants (atom_of text x))

  abbrev pub RightFits : WrittenRight → Type 0
  RightFits r = All IsConstant (constants_of (right_of text r))

  abbrev pub AssignFits : WrittenAssign → Type 0
  AssignFits a = RightFits a.right

  abbrev pub UpdateFits : WrittenUpdate → Type 0
  UpdateFits u = All IsConstant (update_constants (update_of text u))

  atom_here : (k : TokenKind) (s : Span) (x : Atom Span) → IsSound k → atomic k s ≡ Some x → AtomFits x
  atom_here kind.Name s x h e = subst AtomFits (same_Some _ _ e) (All-nil IsConstant)
  atom_here kind.Clock s x h e = subst AtomFits (same_Some _ _ e) (All-nil IsConstant)
  atom_here (kind.Sized c) s x h e = subst AtomFits (same_Some _ _ e) (All-cons IsConstant c [] (h c refl) (All-nil IsConstant))
  atom_here (kind.Keyword w) s x h e = absurd (cc)
  atom_here kind.Refused s x h e = absurd (cc)
  atom_here (kind.Plain v) s x h e = absurd (cc)
  atom_here (kind.Symbol y) s x h e = absurd (cc)
  atom_here kind.End s x h e = absurd (cc)

  an_atom : (t : Token) (x : Atom Span) → IsSound t.kind → atomic t.kind t.span ≡ Some x → AtomFits x
  an_atom t x h e = atom_here t.kind t.span x h e

  both : (x y : Atom Span) → AtomFits x → AtomFits y → All IsConstant (atom_constants (atom_of text x) ++ atom_constants (atom_of text y))
  both x y a b = All-append IsConstant (atom_constants (atom_of text x)) (atom_constants (atom_of text y)) a b

  right_fits : {ts rest : List Token} {r : WrittenRight} → Right ts r rest → AllSound ts → RightFits r × AllSound rest
  right_fits (copy {a = a} {x = x} e s) h = (an_atom a x h.0 e, h.1.1)
  right_fits (complement {a = a} {x = x} o e s) h = (an_atom a x h.1.0 e, h.1.1.1)
  right_fits (two {a = a} {b = b} {x = x} {y = y} e o f s) h = (both x y (an_atom a x h.0 e) (an_atom b y h.1.1.0 f), h.1.1.1.1)
  right_fits (choose {c = c} {a = a} {b = b} {x = x} {y = y} {z = z} e q f o g s) h = (
    All-append IsConstant (atom_constants (atom_of text x) ++ atom_constants (atom_of text y)) (atom_constants (atom_of text z)) (both x y (an_atom c x h.0 e) (an_atom a y h.1.1.0 f)) (an_atom b z h.1.1.1.1.0 g),
    h.1.1.1.1.1.1,
  )
  right_fits (join {a = a} {b = b} {x = x} {y = y} o e c f d s) h = (both x y (an_atom a x h.1.0 e) (an_atom b y h.1.1.1.0 f), h.1.1.1.1.1.1)
  right_fits (repeat {a = a} {x = x} o k i e d f s) h = (an_atom a x h.1.1.1.0 e, h.1.1.1.1.1.1.1)
  right_fits (bit v o k e s) h = (All-nil IsConstant, h.1.1.1.1.1)
  right_fits (slice v o k m l e s) h = (All-nil IsConstant, h.1.1.1.1.1.1.1)
  right_fits (word {i = i} {x = x} v o e d s) h = (an_atom i x h.1.1.0 e, h.1.1.1.1.1)

  assigns_fit : {ts rest : List Token} {as' : List WrittenAssign} → Each Assign ts as' rest → AllSound ts → All AssignFits as' × AllSound rest
  assigns_fit none h = (All-nil AssignFits, h)
  assigns_fit (further {x = x} {xs = xs} (assign k t e r) as') h =
      let i = right_fits r h.1.1.1 in
      let j = assigns_fit as' i.1 in
      (All-cons AssignFits x xs i.0 j.0, j.1)

  update_fits : {ts rest : List Token} {u : WrittenUpdate} → Update ts u rest → AllSound ts → UpdateFits u × AllSound rest
  update_fits (set {a = a} {x = x} t e f s) h = (an_atom a x h.1.1.0 f, h.1.1.1.1)
  update_fits (put {i = i} {a = a} {x = x} {y = y} t o f c e g s) h = (both y x (an_atom i y h.1.1.0 f) (an_atom a x h.1.1.1.1.1.0 g), h.1.1.1.1.1.1.1)

  updates_fit : {ts rest : List Token} {us : List WrittenUpdate} → Each Update ts us rest → AllSound ts → All UpdateFits us
  updates_fit none h = All-nil UpdateFits
  updates_fit (further {x = x} {xs = xs} u us) h = let i = update_fits u h in All-cons UpdateFits x xs i.0 (updates_fit us i.1)

  block_fits : {ts rest : List Token} {us : List WrittenUpdate} → Block ts us rest → AllSound ts → All UpdateFits us
  block_fits (left_out e) h = All-nil UpdateFits
  block_fits (always a t o p c d b us e f) h = updates_fit us h.1.1.1.1.1.1.1

  module_fits : {ts : List Token} {s : Source} → Module ts s → AllSound ts → All AssignFits s.assigns × All UpdateFits s.updates
  module_fits (whole m t o p c d a b e) h =
      let i = assigns_fit a (each_after d (ports_after p h.1.1.1).1) in
      (i.0, block_fits b i.1)

-- the constants of a text fit their sizes
pub constants_fit : (text : List ℕ) (s : Source) → IsWritten text s → All (AssignFits text) s.assigns × All (UpdateFits text) s.updates
constants_fit text s w = module_fits text w.is_module (tokens_sound w.has_tokens)
