-- The parts of a module as functions of their tokens.
use Rattle.std.proofs.Common.{ℕ, [], ◌∷◌, Option, Some, None, nat_eq, if◌then◌else◌}
use Rattle.dk_base.specs.declared.span.Span.{Span}
use Rattle.wiring.specs.declared.right.Atom.{Atom}
use Rattle.wiring.specs.declared.right.Operator.{Operator}
use Rattle.netlist.specs.declared.parts.Direction.{Direction}
use Rattle.verilog_text.specs.declared.token.Symbol.TheVariants as symbol
use Rattle.verilog_text.specs.declared.token.Keyword.TheVariants as keyword
use Rattle.verilog_text.specs.declared.token.TokenKind.{TokenKind}
use Rattle.verilog_text.specs.declared.token.TokenKind.TheVariants as kind
use Rattle.verilog_text.specs.declared.written.Count.{Count}
use Rattle.verilog_text.specs.declared.written.Range.{Range}
use Rattle.verilog_text.specs.declared.written.WrittenPort.{WrittenPort}
use Rattle.verilog_text.specs.declared.written.WrittenSort.TheVariants as sort
use Rattle.verilog_text.specs.declared.written.WrittenDeclaration.{WrittenDeclaration}
use Rattle.verilog_text.specs.declared.written.WrittenRight.{WrittenRight}
use Rattle.verilog_text.specs.declared.written.WrittenRight.TheVariants as right
use Rattle.verilog_text.specs.declared.written.WrittenAssign.{WrittenAssign}
use Rattle.verilog_text.specs.declared.written.WrittenUpdate.{WrittenUpdate}
use Rattle.verilog_text.specs.declared.written.WrittenUpdate.TheVariants as update
use Rattle.verilog_text.specs.Grammar.{Tokens, named, atomic, counted, binary, directed}

-- the signs and words that determine what comes
abbrev pub code : TokenKind → ℕ
code (kind.Symbol symbol.Semicolon) = 1
code (kind.Symbol symbol.Question) = 2
code (kind.Symbol symbol.OpenSquare) = 3
code (kind.Symbol symbol.CloseSquare) = 4
code (kind.Symbol symbol.OpenBrace) = 5
code (kind.Symbol symbol.CloseBrace) = 6
code (kind.Symbol symbol.Comma) = 7
code (kind.Symbol symbol.Colon) = 8
code (kind.Symbol symbol.Tilde) = 9
code (kind.Symbol symbol.Equal) = 10
code (kind.Symbol symbol.LessEqual) = 11
code (kind.Symbol symbol.Close) = 12
code (kind.Keyword keyword.Wire) = 20
code (kind.Keyword keyword.Reg) = 21
code (kind.Keyword keyword.Assign) = 22
code (kind.Keyword keyword.Always) = 23
code (kind.Keyword keyword.EndModule) = 24
code _ = 0

abbrev pub bind : {A B : Type 0} → Option A → (A → Option B) → Option B
bind None f = None
bind (Some a) f = f a

-- the tokens after this sign or word
abbrev pub behind : ℕ → Tokens → Option Tokens
behind n [] = None
behind n (t ∷ ts) = if nat_eq (code t.kind) n then Some ts else None

-- what ends with this sign
abbrev pub closed : {V : Type 0} → ℕ → V → Tokens → Option (V × Tokens)
closed n v ts = bind (behind n ts) (λ rest. Some (v, rest))

abbrev pub name_of : Tokens → Option (Span × Tokens)
name_of [] = None
name_of (t ∷ ts) = bind (named t.kind t.span) (λ n. Some (n, ts))

abbrev pub atom_of : Tokens → Option (Atom Span × Tokens)
atom_of [] = None
atom_of (t ∷ ts) = bind (atomic t.kind t.span) (λ a. Some (a, ts))

abbrev pub count_of : Tokens → Option (Count × Tokens)
count_of [] = None
count_of (t ∷ ts) = bind (counted t.kind t.span) (λ c. Some (c, ts))

-- "[" PLAIN ":" PLAIN "]"
abbrev pub bits_of : Tokens → Option (Range × Tokens)
bits_of ts =
    bind (behind 3 ts) (λ as'. bind (count_of as') (λ a. bind (behind 8 a.1) (λ bs. bind (count_of bs) (λ b. closed 4 (record { first = a.0; second = b.0 }) b.1))))

abbrev pub with_bits : Option Span → Tokens → Tokens → Option ((Option Range × Span) × Tokens)
with_bits (Some n) own ts = Some ((None, n), ts)
with_bits None own ts = bind (bits_of own) (λ r. bind (name_of r.1) (λ n. Some ((Some r.0, n.0), n.1)))

abbrev pub ranged_of : Tokens → Option ((Option Range × Span) × Tokens)
ranged_of [] = None
ranged_of (t ∷ ts) = with_bits (named t.kind t.span) (t ∷ ts) ts

abbrev pub port_with : Direction → Option ((Option Range × Span) × Tokens) → Option (WrittenPort × Tokens)
port_with d r = bind r (λ x. Some (record { direction = d; bits = x.0.0; name = x.0.1 }, x.1))

abbrev pub port_of : Tokens → Option (WrittenPort × Tokens)
port_of [] = None
port_of (t ∷ []) = None
port_of (t ∷ u ∷ ts) = bind (directed t.kind) (λ d. if nat_eq (code u.kind) 20 then port_with d (ranged_of ts) else port_with d (ranged_of (u ∷ ts)))

-- a bit or some bits of a net
abbrev pub end_of_bits : Span → Count → Tokens → Option (WrittenRight × Tokens)
end_of_bits v c [] = None
end_of_bits v c (t ∷ ts) =
    if nat_eq (code t.kind) 4 then closed 1 (right.Bit v c.value) ts
    else bind (behind 8 (t ∷ ts)) (λ bs. bind (count_of bs) (λ d. bind (behind 4 d.1) (λ rest. closed 1 (right.Slice v c.value d.0.value) rest)))

abbrev pub with_index : Span → Option (Atom Span) → Option Count → Tokens → Option (WrittenRight × Tokens)
with_index v (Some i) c ts = bind (behind 4 ts) (λ rest. closed 1 (right.Word v i) rest)
with_index v None None ts = None
with_index v None (Some c) ts = end_of_bits v c ts

abbrev pub index_of : Span → Tokens → Option (WrittenRight × Tokens)
index_of v [] = None
index_of v (t ∷ ts) = with_index v (atomic t.kind t.span) (counted t.kind t.span) ts

abbrev pub with_operator : Atom Span → Option Operator → TokenKind → Option Span → Tokens → Option (WrittenRight × Tokens)
with_operator x (Some o) k n ts = bind (atom_of ts) (λ y. closed 1 (right.Binary o x y.0) y.1)
with_operator x None k n ts =
    if nat_eq (code k) 1 then Some (right.Copy x, ts)
    else (if nat_eq (code k) 2 then bind (atom_of ts) (λ y. bind (behind 8 y.1) (λ bs. bind (atom_of bs) (λ z. closed 1 (right.Choose x y.0 z.0) z.1)))
    else (if nat_eq (code k) 3 then bind n (λ v. index_of v ts) else None))

abbrev pub after_atom : Atom Span → Option Span → Tokens → Option (WrittenRight × Tokens)
after_atom x n [] = None
after_atom x n (o ∷ ts) = with_operator x (binary o.kind) o.kind n ts

abbrev pub with_brace : Option (Atom Span) → Option Count → Tokens → Option (WrittenRight × Tokens)
with_brace (Some x) c ts = bind (behind 7 ts) (λ bs. bind (atom_of bs) (λ y. bind (behind 6 y.1) (λ rest. closed 1 (right.Join x y.0) rest)))
with_brace None None ts = None
with_brace None (Some c) ts = bind (behind 5 ts) (λ as'. bind (atom_of as') (λ x. bind (behind 6 x.1) (λ bs. bind (behind 6 bs) (λ rest. closed 1 (right.Repeat c x.0) rest))))

abbrev pub after_brace : Tokens → Option (WrittenRight × Tokens)
after_brace [] = None
after_brace (t ∷ ts) = with_brace (atomic t.kind t.span) (counted t.kind t.span) ts

abbrev pub with_first : Option (Atom Span) → Option Span → TokenKind → Tokens → Option (WrittenRight × Tokens)
with_first (Some x) n k ts = after_atom x n ts
with_first None n k ts =
    if nat_eq (code k) 9 then bind (atom_of ts) (λ x. closed 1 (right.Not x.0) x.1)
    else (if nat_eq (code k) 5 then after_brace ts else None)

abbrev pub right_of : Tokens → Option (WrittenRight × Tokens)
right_of [] = None
right_of (t ∷ ts) = with_first (atomic t.kind t.span) (named t.kind t.span) t.kind ts

abbrev pub assign_of : Tokens → Option (WrittenAssign × Tokens)
assign_of ts = bind (behind 22 ts) (λ as'. bind (name_of as') (λ n. bind (behind 10 n.1) (λ bs. bind (right_of bs) (λ r. Some (record { target = n.0; right = r.0 }, r.1)))))

abbrev pub after_target : Span → Tokens → Option (WrittenUpdate × Tokens)
after_target n [] = None
after_target n (t ∷ ts) =
    if nat_eq (code t.kind) 11 then bind (atom_of ts) (λ x. closed 1 (update.Set n x.0) x.1)
    else bind (behind 3 (t ∷ ts)) (λ js. bind (atom_of js) (λ i. bind (behind 4 i.1) (λ bs. bind (behind 11 bs) (λ as'. bind (atom_of as') (λ x. closed 1 (update.Put n i.0 x.0) x.1)))))

abbrev pub update_of : Tokens → Option (WrittenUpdate × Tokens)
update_of ts = bind (name_of ts) (λ n. after_target n.0 n.1)

abbrev pub end_of_reg : Option Range → Span → Tokens → Option (WrittenDeclaration × Tokens)
end_of_reg b n [] = None
end_of_reg b n (t ∷ ts) =
    if nat_eq (code t.kind) 1 then Some (record { sort = sort.Reg; bits = b; name = n }, ts)
    else bind (bits_of (t ∷ ts)) (λ w. closed 1 (record { sort = sort.Array w.0; bits = b; name = n }) w.1)

abbrev pub declaration_of : Tokens → Option (WrittenDeclaration × Tokens)
declaration_of [] = None
declaration_of (t ∷ ts) =
    if nat_eq (code t.kind) 20 then bind (ranged_of ts) (λ r. closed 1 (record { sort = sort.Wire; bits = r.0.0; name = r.0.1 }) r.1)
    else (if nat_eq (code t.kind) 21 then bind (ranged_of ts) (λ r. end_of_reg r.0.0 r.0.1 r.1) else None)
