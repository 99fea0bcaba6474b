-- The grammar: tokens, a part of a module, and the tokens after it.
use Rattle.std.specs.Prelude.{◌≡◌, List, [], ◌∷◌, Option, Some, None}
use Rattle.wiring.specs.declared.right.Atom.{Atom}
use Rattle.wiring.specs.declared.right.Atom.TheVariants as atom
use Rattle.wiring.specs.declared.right.Operator.{Operator}
use Rattle.wiring.specs.declared.right.Operator.TheVariants as operator
use Rattle.dk_base.specs.declared.span.Span.{Span}
use Rattle.verilog_text.specs.declared.token.Token.{Token}
use Rattle.verilog_text.specs.declared.token.Symbol.{Symbol}
use Rattle.verilog_text.specs.declared.token.Symbol.TheVariants as symbol
use Rattle.verilog_text.specs.declared.token.Keyword.TheVariants as keyword
use Rattle.verilog_text.specs.declared.token.TokenKind.{TokenKind}
use Rattle.verilog_text.specs.declared.token.TokenKind.TheVariants as kind
use Rattle.verilog_text.specs.declared.written.Count.{Count}
use Rattle.verilog_text.specs.declared.written.Range.{Range}
use Rattle.netlist.specs.declared.parts.Direction.{Direction}
use Rattle.netlist.specs.declared.parts.Direction.TheVariants as direction
use Rattle.verilog_text.specs.declared.written.WrittenPort.{WrittenPort}
use Rattle.verilog_text.specs.declared.written.WrittenSort.TheVariants as sort
use Rattle.verilog_text.specs.declared.written.WrittenDeclaration.{WrittenDeclaration}
use Rattle.verilog_text.specs.declared.written.WrittenRight.{WrittenRight}
use Rattle.verilog_text.specs.declared.written.WrittenRight.TheVariants as right
use Rattle.verilog_text.specs.declared.written.WrittenAssign.{WrittenAssign}
use Rattle.verilog_text.specs.declared.written.WrittenUpdate.{WrittenUpdate}
use Rattle.verilog_text.specs.declared.written.WrittenUpdate.TheVariants as update
use Rattle.verilog_text.specs.declared.written.Written.{Written}

abbrev pub Tokens : Type 0
Tokens = List Token

abbrev pub Is : TokenKind → Token → Type 0
Is k t = t.kind ≡ k

abbrev pub Sign : Symbol → Token → Type 0
Sign s t = t.kind ≡ kind.Symbol s

-- `clk` is a name as any other
abbrev pub named : TokenKind → Span → Option Span
named kind.Name s = Some s
named kind.Clock s = Some s
named (kind.Keyword w) s = None
named kind.Refused s = None
named (kind.Plain v) s = None
named (kind.Sized c) s = None
named (kind.Symbol x) s = None
named kind.End s = None

abbrev pub atomic : TokenKind → Span → Option (Atom Span)
atomic kind.Name s = Some (atom.Net s)
atomic kind.Clock s = Some (atom.Net s)
atomic (kind.Sized c) s = Some (atom.Constant c)
atomic (kind.Keyword w) s = None
atomic kind.Refused s = None
atomic (kind.Plain v) s = None
atomic (kind.Symbol x) s = None
atomic kind.End s = None

abbrev pub counted : TokenKind → Span → Option Count
counted (kind.Plain v) s = Some (record { value = v; span = s })
counted _ s = None

abbrev pub binary : TokenKind → Option Operator
binary (kind.Symbol symbol.Plus) = Some operator.Add
binary (kind.Symbol symbol.Minus) = Some operator.Subtract
binary (kind.Symbol symbol.Star) = Some operator.Multiply
binary (kind.Symbol symbol.Slash) = Some operator.Divide
binary (kind.Symbol symbol.Less) = Some operator.Less
binary (kind.Symbol symbol.EqualEqual) = Some operator.Equal
binary (kind.Symbol symbol.Ampersand) = Some operator.And
binary (kind.Symbol symbol.Bar) = Some operator.Or
binary (kind.Symbol symbol.Caret) = Some operator.Xor
binary _ = None

abbrev pub directed : TokenKind → Option Direction
directed (kind.Keyword keyword.Input) = Some direction.Input
directed (kind.Keyword keyword.Output) = Some direction.Output
directed _ = None

abbrev pub IsName : Token → Span → Type 0
IsName t n = named t.kind t.span ≡ Some n

abbrev pub IsAtom : Token → Atom Span → Type 0
IsAtom t a = atomic t.kind t.span ≡ Some a

abbrev pub IsCount : Token → Count → Type 0
IsCount t c = counted t.kind t.span ≡ Some c

-- "[" PLAIN ":" PLAIN "]"
pub data Bits : Tokens → Range → Tokens → Type 0 where
  bits : {opens first colon second close : Token} {rest : Tokens} {a b : Count} → Sign symbol.OpenSquare opens → IsCount first a → Sign symbol.Colon colon → IsCount second b → Sign symbol.CloseSquare close →
      Bits (opens ∷ first ∷ colon ∷ second ∷ close ∷ rest) (record { first = a; second = b }) rest

-- [range] NAME
pub data Ranged : Tokens → Option Range → Span → Tokens → Type 0 where
  one_bit : {t : Token} {n : Span} {rest : Tokens} → IsName t n → Ranged (t ∷ rest) None n rest
  wide : {ts rest : Tokens} {r : Range} {t : Token} {n : Span} → Bits ts r (t ∷ rest) → IsName t n → Ranged ts (Some r) n rest

-- ("input"|"output") ["wire"] [range] NAME
pub data Port : Tokens → WrittenPort → Tokens → Type 0 where
  plain : {t : Token} {ts rest : Tokens} {d : Direction} {r : Option Range} {n : Span} → directed t.kind ≡ Some d → Ranged ts r n rest →
      Port (t ∷ ts) (record { direction = d; bits = r; name = n }) rest
  wire : {t wire : Token} {ts rest : Tokens} {d : Direction} {r : Option Range} {n : Span} → directed t.kind ≡ Some d → Is (kind.Keyword keyword.Wire) wire → Ranged ts r n rest →
      Port (t ∷ wire ∷ ts) (record { direction = d; bits = r; name = n }) rest

-- port { "," port } ")"
pub data Ports : Tokens → List WrittenPort → Tokens → Type 0 where
  last : {ts rest : Tokens} {p : WrittenPort} {t : Token} → Port ts p (t ∷ rest) → Sign symbol.Close t → Ports ts (p ∷ []) rest
  more : {ts mid rest : Tokens} {p : WrittenPort} {ps : List WrittenPort} {t : Token} → Port ts p (t ∷ mid) → Sign symbol.Comma t → Ports mid ps rest → Ports ts (p ∷ ps) rest

-- right ";"
pub data Right : Tokens → WrittenRight → Tokens → Type 0 where
  copy : {a s : Token} {x : Atom Span} {rest : Tokens} → IsAtom a x → Sign symbol.Semicolon s → Right (a ∷ s ∷ rest) (right.Copy x) rest
  complement : {o a s : Token} {x : Atom Span} {rest : Tokens} → Sign symbol.Tilde o → IsAtom a x → Sign symbol.Semicolon s → Right (o ∷ a ∷ s ∷ rest) (right.Not x) rest
  two : {a o b s : Token} {x y : Atom Span} {op : Operator} {rest : Tokens} → IsAtom a x → binary o.kind ≡ Some op → IsAtom b y → Sign symbol.Semicolon s →
      Right (a ∷ o ∷ b ∷ s ∷ rest) (right.Binary op x y) rest
  choose : {c q a o b s : Token} {x y z : Atom Span} {rest : Tokens} → IsAtom c x → Sign symbol.Question q → IsAtom a y → Sign symbol.Colon o → IsAtom b z → Sign symbol.Semicolon s →
      Right (c ∷ q ∷ a ∷ o ∷ b ∷ s ∷ rest) (right.Choose x y z) rest
  join : {o a c b e s : Token} {x y : Atom Span} {rest : Tokens} → Sign symbol.OpenBrace o → IsAtom a x → Sign symbol.Comma c → IsAtom b y → Sign symbol.CloseBrace e → Sign symbol.Semicolon s →
      Right (o ∷ a ∷ c ∷ b ∷ e ∷ s ∷ rest) (right.Join x y) rest
  repeat : {o k i a e f s : Token} {n : Count} {x : Atom Span} {rest : Tokens} → Sign symbol.OpenBrace o → IsCount k n → Sign symbol.OpenBrace i → IsAtom a x → Sign symbol.CloseBrace e → Sign symbol.CloseBrace f →
      Sign symbol.Semicolon s → Right (o ∷ k ∷ i ∷ a ∷ e ∷ f ∷ s ∷ rest) (right.Repeat n x) rest
  bit : {v o k e s : Token} {n : Span} {c : Count} {rest : Tokens} → IsName v n → Sign symbol.OpenSquare o → IsCount k c → Sign symbol.CloseSquare e → Sign symbol.Semicolon s →
      Right (v ∷ o ∷ k ∷ e ∷ s ∷ rest) (right.Bit n c.value) rest
  slice : {v o k m l e s : Token} {n : Span} {c d : Count} {rest : Tokens} → IsName v n → Sign symbol.OpenSquare o → IsCount k c → Sign symbol.Colon m → IsCount l d → Sign symbol.CloseSquare e →
      Sign symbol.Semicolon s → Right (v ∷ o ∷ k ∷ m ∷ l ∷ e ∷ s ∷ rest) (right.Slice n c.value d.value) rest
  word : {v o i e s : Token} {n : Span} {x : Atom Span} {rest : Tokens} → IsName v n → Sign symbol.OpenSquare o → IsAtom i x → Sign symbol.CloseSquare e → Sign symbol.Semicolon s →
      Right (v ∷ o ∷ i ∷ e ∷ s ∷ rest) (right.Word n x) rest

-- "assign" NAME "=" right ";"
pub data Assign : Tokens → WrittenAssign → Tokens → Type 0 where
  assign : {k t e : Token} {ts rest : Tokens} {n : Span} {r : WrittenRight} → Is (kind.Keyword keyword.Assign) k → IsName t n → Sign symbol.Equal e → Right ts r rest →
      Assign (k ∷ t ∷ e ∷ ts) (record { target = n; right = r }) rest

-- NAME "<=" atom ";" | NAME "[" atom "]" "<=" atom ";"
pub data Update : Tokens → WrittenUpdate → Tokens → Type 0 where
  set : {t e a s : Token} {rest : Tokens} {n : Span} {x : Atom Span} → IsName t n → Sign symbol.LessEqual e → IsAtom a x → Sign symbol.Semicolon s → Update (t ∷ e ∷ a ∷ s ∷ rest) (update.Set n x) rest
  put : {t o i c e a s : Token} {rest : Tokens} {n : Span} {x y : Atom Span} → IsName t n → Sign symbol.OpenSquare o → IsAtom i y → Sign symbol.CloseSquare c → Sign symbol.LessEqual e → IsAtom a x → Sign symbol.Semicolon s →
      Update (t ∷ o ∷ i ∷ c ∷ e ∷ a ∷ s ∷ rest) (update.Put n y x) rest

-- "wire" [range] NAME ";" | "reg" [range] NAME [words] ";"
pub data Declares : Tokens → WrittenDeclaration → Tokens → Type 0 where
  wire : {k s : Token} {ts rest : Tokens} {r : Option Range} {n : Span} → Is (kind.Keyword keyword.Wire) k → Ranged ts r n (s ∷ rest) → Sign symbol.Semicolon s →
      Declares (k ∷ ts) (record { sort = sort.Wire; bits = r; name = n }) rest
  reg : {k s : Token} {ts rest : Tokens} {r : Option Range} {n : Span} → Is (kind.Keyword keyword.Reg) k → Ranged ts r n (s ∷ rest) → Sign symbol.Semicolon s →
      Declares (k ∷ ts) (record { sort = sort.Reg; bits = r; name = n }) rest
  array : {k s : Token} {ts mid rest : Tokens} {r : Option Range} {n : Span} {w : Range} → Is (kind.Keyword keyword.Reg) k → Ranged ts r n mid → Bits mid w (s ∷ rest) → Sign symbol.Semicolon s →
      Declares (k ∷ ts) (record { sort = sort.Array w; bits = r; name = n }) rest

-- any number of these one after another
pub data Each {X : Type 0} (One : Tokens → X → Tokens → Type 0) : Tokens → List X → Tokens → Type 0 where
  none : {ts : Tokens} → Each One ts [] ts
  more : {ts mid rest : Tokens} {x : X} {xs : List X} → One ts x mid → Each One mid xs rest → Each One ts (x ∷ xs) rest

-- [always] "endmodule"
pub data Block : Tokens → List WrittenUpdate → Tokens → Type 0 where
  left_out : {e : Token} {rest : Tokens} → Is (kind.Keyword keyword.EndModule) e → Block (e ∷ rest) [] rest
  always : {a at opens p c close b end e : Token} {ts rest : Tokens} {us : List WrittenUpdate} → Is (kind.Keyword keyword.Always) a → Sign symbol.At at → Sign symbol.Open opens →
      Is (kind.Keyword keyword.Posedge) p → Is kind.Clock c → Sign symbol.Close close → Is (kind.Keyword keyword.Begin) b → Each Update ts us (end ∷ e ∷ rest) → Is (kind.Keyword keyword.End) end →
      Is (kind.Keyword keyword.EndModule) e → Block (a ∷ at ∷ opens ∷ p ∷ c ∷ close ∷ b ∷ ts) us rest

-- a module as it is written
pub record Source : Type 0 where
  pub name : Span
  pub ports : List WrittenPort
  pub declarations : List WrittenDeclaration
  pub assigns : List WrittenAssign
  pub updates : List WrittenUpdate

abbrev pub source_of : Written → Source
source_of w = record { name = w.name; ports = w.ports.items; declarations = w.declarations.items; assigns = w.assigns.items; updates = w.updates.items }

-- "module" NAME "(" port { "," port } ")" ";" decl* assign* [always] "endmodule" end-of-text
pub data Module : Tokens → Source → Type 0 where
  whole : {m t opens s : Token} {ts ds as' us : Tokens} {e : Token} {n : Span} {ports : List WrittenPort} {decls : List WrittenDeclaration} {assigns : List WrittenAssign} {updates : List WrittenUpdate} →
      Is (kind.Keyword keyword.Module) m → IsName t n → Sign symbol.Open opens → Ports ts ports (s ∷ ds) → Sign symbol.Semicolon s → Each Declares ds decls as' → Each Assign as' assigns us →
      Block us updates (e ∷ []) → Is kind.End e →
      Module (m ∷ t ∷ opens ∷ ts) (record { name = n; ports = ports; declarations = decls; assigns = assigns; updates = updates })
