-- The pieces of a module's parts, which are clear.
use Rattle.std.proofs.Common.{◌≡◌, ℕ, ◌-◌, ◌^◌, ◌<◌, List, [], ◌∷◌, Bool, true, false, nat_eq, refl, arith, codes}
use Rattle.std.specs.Prelude.{if◌then◌else◌}
use Rattle.std.specs.List.{AllByRecursion}
use Rattle.std.specs.Fmt.{decimal}
use Rattle.wiring.specs.Sizes.{IsConstant, IsWidth, IsDepth}
use Rattle.wiring.specs.Rules.{IsShape}
use Rattle.wiring.specs.declared.right.Atom.{Atom}
use Rattle.wiring.specs.declared.right.Atom.TheVariants as atom
use Rattle.wiring.specs.declared.right.Operator.{Operator}
use Rattle.wiring.specs.declared.right.Operator.TheVariants.{Add, Subtract, Multiply, Divide, Less, Equal, And, Or, Xor}
use Rattle.wiring.specs.declared.right.Right.{Right}
use Rattle.wiring.specs.declared.right.Right.TheVariants.{Copy, Not, Binary, Choose, Join, Repeat, Bit, Slice, Word}
use Rattle.netlist.specs.declared.parts.Port.{Port}
use Rattle.netlist.specs.declared.parts.Direction.{Direction}
use Rattle.netlist.specs.declared.parts.Direction.TheVariants.{Input as Takes, Output as Gives}
use Rattle.netlist.specs.declared.parts.Declaration.{Declaration}
use Rattle.netlist.specs.declared.parts.Sort.{Sort}
use Rattle.netlist.specs.declared.parts.Sort.TheVariants.{Wire as OfWire, Reg as OfReg, Array as OfArray}
use Rattle.netlist.specs.declared.parts.NamedAssign.{NamedAssign}
use Rattle.netlist.specs.declared.parts.NamedUpdate.{NamedUpdate}
use Rattle.netlist.specs.declared.parts.NamedUpdate.TheVariants.{Set, Put}
use Rattle.net_names.specs.Words.{is_name}
use Rattle.verilog_text.specs.declared.token.TokenKind.{TokenKind}
use Rattle.verilog_text.specs.declared.token.TokenKind.TheVariants.{Plain, Sized, Symbol as Sym}
use Rattle.verilog_text.specs.declared.token.Symbol.{Symbol}
use Rattle.verilog_text.specs.declared.token.Symbol.TheVariants as symbol
use Rattle.verilog_text.specs.Bytes.{word_kind}
use Rattle.verilog_layout.specs.Layout.{constant_layout}
use Rattle.verilog_layout.proofs.Spelling.{StopsAt}
use Rattle.verilog_layout.proofs.Pieces.{Piece, IsRead, IsGap, AreClear, text_of}
use Rattle.verilog_layout.proofs.Words.{is_tail, keyword_read, name_read, number_read, zero_read, constant_read, lone_read, slash_read, less_read, equal_read, same_read, takes_read}

abbrev pub word : List ℕ → List ℕ → Piece
word gap bytes = record { gap = gap; own = bytes; kind = word_kind bytes }

abbrev pub number : List ℕ → ℕ → Piece
number gap n = record { gap = gap; own = decimal n; kind = Plain n }

abbrev pub sign : List ℕ → List ℕ → Symbol → Piece
sign gap bytes s = record { gap = gap; own = bytes; kind = Sym s }

abbrev pub atom_own : Atom (List ℕ) → List ℕ
atom_own (atom.Net b) = b
atom_own (atom.Constant c) = constant_layout c

abbrev pub atom_kind : Atom (List ℕ) → TokenKind
atom_kind (atom.Net b) = word_kind b
atom_kind (atom.Constant c) = Sized c

abbrev pub atom_piece : List ℕ → Atom (List ℕ) → Piece
atom_piece gap a = record { gap = gap; own = atom_own a; kind = atom_kind a }

abbrev pub operator_own : Operator → List ℕ
operator_own Add = codes "+"
operator_own Subtract = codes "-"
operator_own Multiply = codes "*"
operator_own Divide = codes "/"
operator_own Less = codes "<"
operator_own Equal = codes "=="
operator_own And = codes "&"
operator_own Or = codes "|"
operator_own Xor = codes "^"

abbrev pub operator_sign : Operator → Symbol
operator_sign Add = symbol.Plus
operator_sign Subtract = symbol.Minus
operator_sign Multiply = symbol.Star
operator_sign Divide = symbol.Slash
operator_sign Less = symbol.Less
operator_sign Equal = symbol.EqualEqual
operator_sign And = symbol.Ampersand
operator_sign Or = symbol.Bar
operator_sign Xor = symbol.Caret

abbrev pub end_line : Piece
end_line = sign [] (codes ";") symbol.Semicolon

-- each part's pieces precede those that follow
-- a right side and its `;`
abbrev pub right_pieces : Right (List ℕ) (List ℕ) → List Piece → List Piece
right_pieces (Copy a) ps = atom_piece (codes " ") a ∷ end_line ∷ ps
right_pieces (Not a) ps = sign (codes " ") (codes "~") symbol.Tilde ∷ atom_piece [] a ∷ end_line ∷ ps
right_pieces (Binary o a b) ps = atom_piece (codes " ") a ∷ sign (codes " ") (operator_own o) (operator_sign o) ∷ atom_piece (codes " ") b ∷ end_line ∷ ps
right_pieces (Choose c a b) ps = atom_piece (codes " ") c ∷ sign (codes " ") (codes "?") symbol.Question ∷ atom_piece (codes " ") a ∷ sign (codes " ") (codes ":") symbol.Colon ∷ atom_piece (codes " ") b ∷ end_line ∷ ps
right_pieces (Join a b) ps = sign (codes " ") (codes "{") symbol.OpenBrace ∷ atom_piece [] a ∷ sign [] (codes ",") symbol.Comma ∷ atom_piece (codes " ") b ∷ sign [] (codes "}") symbol.CloseBrace ∷ end_line ∷ ps
right_pieces (Repeat n a) ps =
    sign (codes " ") (codes "{") symbol.OpenBrace ∷ number [] n ∷ sign [] (codes "{") symbol.OpenBrace ∷ atom_piece [] a ∷ sign [] (codes "}") symbol.CloseBrace ∷ sign [] (codes "}") symbol.CloseBrace ∷ end_line ∷ ps
right_pieces (Bit v k) ps = word (codes " ") v ∷ sign [] (codes "[") symbol.OpenSquare ∷ number [] k ∷ sign [] (codes "]") symbol.CloseSquare ∷ end_line ∷ ps
right_pieces (Slice v h l) ps =
    word (codes " ") v ∷ sign [] (codes "[") symbol.OpenSquare ∷ number [] h ∷ sign [] (codes ":") symbol.Colon ∷ number [] l ∷ sign [] (codes "]") symbol.CloseSquare ∷ end_line ∷ ps
right_pieces (Word x i) ps = word (codes " ") x ∷ sign [] (codes "[") symbol.OpenSquare ∷ atom_piece [] i ∷ sign [] (codes "]") symbol.CloseSquare ∷ end_line ∷ ps

abbrev pub assign_pieces : NamedAssign → List Piece → List Piece
assign_pieces a ps = word (codes "\n  ") (codes "assign") ∷ word (codes " ") a.target ∷ sign (codes " ") (codes "=") symbol.Equal ∷ right_pieces a.right ps

abbrev pub update_pieces : NamedUpdate → List Piece → List Piece
update_pieces (Set r a) ps = word (codes "\n    ") r ∷ sign (codes " ") (codes "<=") symbol.LessEqual ∷ atom_piece (codes " ") a ∷ end_line ∷ ps
update_pieces (Put x i a) ps =
    word (codes "\n    ") x ∷ sign [] (codes "[") symbol.OpenSquare ∷ atom_piece [] i ∷ sign [] (codes "]") symbol.CloseSquare ∷ sign (codes " ") (codes "<=") symbol.LessEqual ∷ atom_piece (codes " ") a ∷ end_line ∷ ps

abbrev pub zero_piece : Piece
zero_piece = record { gap = []; own = codes "0"; kind = Plain 0 }

-- the bits where there are more than one, and a name
abbrev pub wide_pieces : ℕ → List ℕ → List Piece → List Piece
wide_pieces w name ps =
    sign (codes " ") (codes "[") symbol.OpenSquare ∷ number [] (w - 1) ∷ sign [] (codes ":") symbol.Colon ∷ zero_piece ∷ sign [] (codes "]") symbol.CloseSquare ∷ word (codes " ") name ∷ ps

abbrev pub ranged_pieces : ℕ → List ℕ → List Piece → List Piece
ranged_pieces w name ps = if nat_eq w 1 then word (codes " ") name ∷ ps else wide_pieces w name ps

abbrev pub words_pieces : ℕ → List Piece → List Piece
words_pieces d ps = sign (codes " ") (codes "[") symbol.OpenSquare ∷ zero_piece ∷ sign [] (codes ":") symbol.Colon ∷ number [] (d - 1) ∷ sign [] (codes "]") symbol.CloseSquare ∷ end_line ∷ ps

abbrev pub sort_pieces : List ℕ → Sort → List Piece → List Piece
sort_pieces name (OfWire w) ps = word (codes "\n  ") (codes "wire") ∷ ranged_pieces w name (end_line ∷ ps)
sort_pieces name (OfReg w) ps = word (codes "\n  ") (codes "reg") ∷ ranged_pieces w name (end_line ∷ ps)
sort_pieces name (OfArray s) ps = word (codes "\n  ") (codes "reg") ∷ ranged_pieces s.width name (words_pieces s.depth ps)

abbrev pub declaration_pieces : Declaration → List Piece → List Piece
declaration_pieces d ps = sort_pieces d.name d.sort ps

abbrev pub direction_own : Direction → List ℕ
direction_own Takes = codes "input"
direction_own Gives = codes "output"

abbrev pub port_pieces : List ℕ → Port → List Piece → List Piece
port_pieces gap p ps = word gap (direction_own p.direction) ∷ ranged_pieces p.width p.name ps

-- the ports after the first one, each after a comma, and the bracket
abbrev pub more_ports : List Port → List Piece → List Piece
more_ports [] qs = sign [] (codes ")") symbol.Close ∷ qs
more_ports (p ∷ ps) qs = sign [] (codes ",") symbol.Comma ∷ port_pieces (codes " ") p (more_ports ps qs)

abbrev pub each_pieces : {X : Type 0} → (X → List Piece → List Piece) → List X → List Piece → List Piece
each_pieces pieces [] ps = ps
each_pieces pieces (x ∷ xs) ps = pieces x (each_pieces pieces xs ps)

abbrev pub last_piece : Piece
last_piece = word (codes "\n") (codes "endmodule")

abbrev pub end_pieces : List Piece
end_pieces = word (codes "\n  ") (codes "end") ∷ last_piece ∷ []

abbrev pub begin_pieces : List NamedUpdate → List Piece
begin_pieces us = word (codes " ") (codes "begin") ∷ each_pieces update_pieces us end_pieces

abbrev pub whole_block_pieces : List NamedUpdate → List Piece
whole_block_pieces us =
    word (codes "\n  ") (codes "always") ∷ sign (codes " ") (codes "@") symbol.At ∷ sign [] (codes "(") symbol.Open ∷ word [] (codes "posedge") ∷ word (codes " ") (codes "clk") ∷ sign [] (codes ")") symbol.Close ∷ begin_pieces us

abbrev pub block_pieces : List NamedUpdate → List Piece
block_pieces [] = last_piece ∷ []
block_pieces (u ∷ us) = whole_block_pieces (u ∷ us)

abbrev pub module_pieces : List ℕ → Port → List Port → List Declaration → List NamedAssign → List NamedUpdate → List Piece
module_pieces name port ports declarations assigns updates =
    word [] (codes "module") ∷ word (codes " ") name ∷ sign [] (codes "(") symbol.Open
    ∷ port_pieces [] port (more_ports ports (end_line ∷ each_pieces declaration_pieces declarations (each_pieces assign_pieces assigns (block_pieces updates))))

-- what names and numbers have to be
abbrev pub IsNamed : List ℕ → Type 0
IsNamed b = is_name b ≡ true

abbrev pub AtomIsFine : Atom (List ℕ) → Type 0
AtomIsFine (atom.Net b) = IsNamed b
AtomIsFine (atom.Constant c) = IsConstant c

abbrev pub RightIsFine : Right (List ℕ) (List ℕ) → Type 0
RightIsFine (Copy a) = AtomIsFine a
RightIsFine (Not a) = AtomIsFine a
RightIsFine (Binary o a b) = AtomIsFine a × AtomIsFine b
RightIsFine (Choose c a b) = AtomIsFine c × AtomIsFine a × AtomIsFine b
RightIsFine (Join a b) = AtomIsFine a × AtomIsFine b
RightIsFine (Repeat n a) = IsWidth n × AtomIsFine a
RightIsFine (Bit v k) = IsNamed v × (k < 64)
RightIsFine (Slice v h l) = IsNamed v × (h < 64) × (l < 64)
RightIsFine (Word x i) = IsNamed x × AtomIsFine i

abbrev pub AssignIsFine : NamedAssign → Type 0
AssignIsFine a = IsNamed a.target × RightIsFine a.right

abbrev pub UpdateIsFine : NamedUpdate → Type 0
UpdateIsFine (Set r a) = IsNamed r × AtomIsFine a
UpdateIsFine (Put x i a) = IsNamed x × AtomIsFine i × AtomIsFine a

abbrev pub SortIsFine : Sort → Type 0
SortIsFine (OfWire w) = IsWidth w
SortIsFine (OfReg w) = IsWidth w
SortIsFine (OfArray s) = IsShape s

abbrev pub DeclarationIsFine : Declaration → Type 0
DeclarationIsFine d = IsNamed d.name × SortIsFine d.sort

abbrev pub PortIsFine : Port → Type 0
PortIsFine p = IsNamed p.name × IsWidth p.width

-- each is read in front of what follows it
blank : IsGap (codes " ")
blank = (refl, tt)

indent : IsGap (codes "\n  ")
indent = (refl, (refl, blank))

indent_twice : IsGap (codes "\n    ")
indent_twice = (refl, (refl, (refl, (refl, blank))))

atom_read : (a : Atom (List ℕ)) {rest : List ℕ} → AtomIsFine a → StopsAt is_tail rest → IsRead (atom_own a) (atom_kind a) rest
atom_read (atom.Net b) f s = name_read b f s
atom_read (atom.Constant c) f s = constant_read c f s

operator_read : (o : Operator) {rest : List ℕ} → IsRead (operator_own o) (Sym (operator_sign o)) (32 ∷ rest)
operator_read Add = lone_read 43 symbol.Plus (refl, refl, refl, refl, λ rest. refl)
operator_read Subtract = lone_read 45 symbol.Minus (refl, refl, refl, refl, λ rest. refl)
operator_read Multiply = lone_read 42 symbol.Star (refl, refl, refl, refl, λ rest. refl)
operator_read Divide = slash_read
operator_read Less = less_read
operator_read Equal = same_read
operator_read And = lone_read 38 symbol.Ampersand (refl, refl, refl, refl, λ rest. refl)
operator_read Or = lone_read 124 symbol.Bar (refl, refl, refl, refl, λ rest. refl)
operator_read Xor = lone_read 94 symbol.Caret (refl, refl, refl, refl, λ rest. refl)

semicolon_read : {rest : List ℕ} → IsRead (codes ";") (Sym symbol.Semicolon) rest
semicolon_read = lone_read 59 symbol.Semicolon (refl, refl, refl, refl, λ rest. refl)

open_read : {rest : List ℕ} → IsRead (codes "(") (Sym symbol.Open) rest
open_read = lone_read 40 symbol.Open (refl, refl, refl, refl, λ rest. refl)

close_read : {rest : List ℕ} → IsRead (codes ")") (Sym symbol.Close) rest
close_read = lone_read 41 symbol.Close (refl, refl, refl, refl, λ rest. refl)

open_square_read : {rest : List ℕ} → IsRead (codes "[") (Sym symbol.OpenSquare) rest
open_square_read = lone_read 91 symbol.OpenSquare (refl, refl, refl, refl, λ rest. refl)

close_square_read : {rest : List ℕ} → IsRead (codes "]") (Sym symbol.CloseSquare) rest
close_square_read = lone_read 93 symbol.CloseSquare (refl, refl, refl, refl, λ rest. refl)

open_brace_read : {rest : List ℕ} → IsRead (codes "{") (Sym symbol.OpenBrace) rest
open_brace_read = lone_read 123 symbol.OpenBrace (refl, refl, refl, refl, λ rest. refl)

close_brace_read : {rest : List ℕ} → IsRead (codes "}") (Sym symbol.CloseBrace) rest
close_brace_read = lone_read 125 symbol.CloseBrace (refl, refl, refl, refl, λ rest. refl)

comma_read : {rest : List ℕ} → IsRead (codes ",") (Sym symbol.Comma) rest
comma_read = lone_read 44 symbol.Comma (refl, refl, refl, refl, λ rest. refl)

colon_read : {rest : List ℕ} → IsRead (codes ":") (Sym symbol.Colon) rest
colon_read = lone_read 58 symbol.Colon (refl, refl, refl, refl, λ rest. refl)

question_read : {rest : List ℕ} → IsRead (codes "?") (Sym symbol.Question) rest
question_read = lone_read 63 symbol.Question (refl, refl, refl, refl, λ rest. refl)

tilde_read : {rest : List ℕ} → IsRead (codes "~") (Sym symbol.Tilde) rest
tilde_read = lone_read 126 symbol.Tilde (refl, refl, refl, refl, λ rest. refl)

at_read : {rest : List ℕ} → IsRead (codes "@") (Sym symbol.At) rest
at_read = lone_read 64 symbol.At (refl, refl, refl, refl, λ rest. refl)

small : (k : ℕ) → k < 64 → k < 2 ^ 64
small k h = omega (arith, h)

right_clear : (r : Right (List ℕ) (List ℕ)) (ps : List Piece) (end : List ℕ) → RightIsFine r → AreClear ps end → AreClear (right_pieces r ps) end
right_clear (Copy a) ps end f c = (blank, atom_read a f refl, (tt, semicolon_read, c))
right_clear (Not a) ps end f c = (blank, tilde_read, (tt, atom_read a f refl, (tt, semicolon_read, c)))
right_clear (Binary o a b) ps end f c = (blank, atom_read a f.0 refl, (blank, operator_read o, (blank, atom_read b f.1 refl, (tt, semicolon_read, c))))
right_clear (Choose x a b) ps end f c = (blank, atom_read x f.0 refl, (blank, question_read, (blank, atom_read a f.1 refl, (blank, colon_read, (blank, atom_read b f.2 refl, (tt, semicolon_read, c))))))
right_clear (Join a b) ps end f c = (blank, open_brace_read, (tt, atom_read a f.0 refl, (tt, comma_read, (blank, atom_read b f.1 refl, (tt, close_brace_read, (tt, semicolon_read, c))))))
right_clear (Repeat n a) ps end f c =
    let k : n < 2 ^ 64 = let h = f.0.1 in omega (arith, h) in
    (blank, open_brace_read, (tt, number_read n k refl, (tt, open_brace_read, (tt, atom_read a f.1 refl, (tt, close_brace_read, (tt, close_brace_read, (tt, semicolon_read, c)))))))
right_clear (Bit v k) ps end f c = (blank, name_read v f.0 refl, (tt, open_square_read, (tt, number_read k (small k f.1) refl, (tt, close_square_read, (tt, semicolon_read, c)))))
right_clear (Slice v h l) ps end f c =
    (blank, name_read v f.0 refl, (tt, open_square_read, (tt, number_read h (small h f.1) refl, (tt, colon_read, (tt, number_read l (small l f.2) refl, (tt, close_square_read, (tt, semicolon_read, c)))))))
right_clear (Word x i) ps end f c = (blank, name_read x f.0 refl, (tt, open_square_read, (tt, atom_read i f.1 refl, (tt, close_square_read, (tt, semicolon_read, c)))))

-- a right side begins with a blank
equal_behind : (r : Right (List ℕ) (List ℕ)) (ps : List Piece) (end : List ℕ) → IsRead (codes "=") (Sym symbol.Equal) (text_of (right_pieces r ps) end)
equal_behind (Copy a) ps end = equal_read
equal_behind (Not a) ps end = equal_read
equal_behind (Binary o a b) ps end = equal_read
equal_behind (Choose c a b) ps end = equal_read
equal_behind (Join a b) ps end = equal_read
equal_behind (Repeat n a) ps end = equal_read
equal_behind (Bit v k) ps end = equal_read
equal_behind (Slice v h l) ps end = equal_read
equal_behind (Word x i) ps end = equal_read

assign_clear : (a : NamedAssign) (ps : List Piece) (end : List ℕ) → AssignIsFine a → AreClear ps end → AreClear (assign_pieces a ps) end
assign_clear a ps end f c = (indent, keyword_read (codes "assign") refl refl refl, (blank, name_read a.target f.0 refl, (blank, equal_behind a.right ps end, right_clear a.right ps end f.1 c)))

update_clear : (u : NamedUpdate) (ps : List Piece) (end : List ℕ) → UpdateIsFine u → AreClear ps end → AreClear (update_pieces u ps) end
update_clear (Set r a) ps end f c = (indent_twice, name_read r f.0 refl, (blank, takes_read, (blank, atom_read a f.1 refl, (tt, semicolon_read, c))))
update_clear (Put x i a) ps end f c =
    (indent_twice, name_read x f.0 refl, (tt, open_square_read, (tt, atom_read i f.1 refl, (tt, close_square_read, (blank, takes_read, (blank, atom_read a f.2 refl, (tt, semicolon_read, c)))))))

wide_clear : (w : ℕ) (name : List ℕ) (ps : List Piece) (end : List ℕ) → IsWidth w → IsNamed name → StopsAt is_tail (text_of ps end) → AreClear ps end → AreClear (wide_pieces w name ps) end
wide_clear w name ps end f n s c =
    let k : w - 1 < 2 ^ 64 = let h = f.1 in omega (arith, h) in
    (blank, open_square_read, (tt, number_read (w - 1) k refl, (tt, colon_read, (tt, zero_read refl, (tt, close_square_read, (blank, name_read name n s, c))))))

ranged_clear : (w : ℕ) (name : List ℕ) (ps : List Piece) (end : List ℕ) → IsWidth w → IsNamed name → StopsAt is_tail (text_of ps end) → AreClear ps end → AreClear (ranged_pieces w name ps) end
ranged_clear w name ps end f n s c = by_bits (nat_eq w 1)
  where
    by_bits : (t : Bool) → AreClear (if t then word (codes " ") name ∷ ps else wide_pieces w name ps) end
    by_bits true = (blank, name_read name n s, c)
    by_bits false = wide_clear w name ps end f n s c

-- what begins with a blank ends a word
behind_range : (w : ℕ) (name : List ℕ) (ps : List Piece) (end : List ℕ) → StopsAt is_tail (text_of (ranged_pieces w name ps) end)
behind_range w name ps end = by_bits (nat_eq w 1)
  where
    by_bits : (t : Bool) → StopsAt is_tail (text_of (if t then word (codes " ") name ∷ ps else wide_pieces w name ps) end)
    by_bits true = refl
    by_bits false = refl

words_clear : (d : ℕ) (ps : List Piece) (end : List ℕ) → IsDepth d → AreClear ps end → AreClear (words_pieces d ps) end
words_clear d ps end f c =
    let k : d - 1 < 2 ^ 64 = let h = f.1 in omega (arith, h) in
    (blank, open_square_read, (tt, zero_read refl, (tt, colon_read, (tt, number_read (d - 1) k refl, (tt, close_square_read, (tt, semicolon_read, c))))))

sort_clear : (name : List ℕ) (s : Sort) (ps : List Piece) (end : List ℕ) → IsNamed name → SortIsFine s → AreClear ps end → AreClear (sort_pieces name s ps) end
sort_clear name (OfWire w) ps end n f c =
    (indent, keyword_read (codes "wire") refl refl (behind_range w name (end_line ∷ ps) end), ranged_clear w name (end_line ∷ ps) end f n refl (tt, semicolon_read, c))
sort_clear name (OfReg w) ps end n f c =
    (indent, keyword_read (codes "reg") refl refl (behind_range w name (end_line ∷ ps) end), ranged_clear w name (end_line ∷ ps) end f n refl (tt, semicolon_read, c))
sort_clear name (OfArray s) ps end n f c =
    let words = words_pieces s.depth ps in
    (indent, keyword_read (codes "reg") refl refl (behind_range s.width name words end), ranged_clear s.width name words end f.width n refl (words_clear s.depth ps end f.depth c))

declaration_clear : (d : Declaration) (ps : List Piece) (end : List ℕ) → DeclarationIsFine d → AreClear ps end → AreClear (declaration_pieces d ps) end
declaration_clear d ps end f c = sort_clear d.name d.sort ps end f.0 f.1 c

direction_read : (d : Direction) {rest : List ℕ} → StopsAt is_tail rest → IsRead (direction_own d) (word_kind (direction_own d)) rest
direction_read Takes s = keyword_read (codes "input") refl refl s
direction_read Gives s = keyword_read (codes "output") refl refl s

port_clear : (gap : List ℕ) (p : Port) (ps : List Piece) (end : List ℕ) → IsGap gap → PortIsFine p → StopsAt is_tail (text_of ps end) → AreClear ps end → AreClear (port_pieces gap p ps) end
port_clear gap p ps end g f s c = (g, direction_read p.direction (behind_range p.width p.name ps end), ranged_clear p.width p.name ps end f.1 f.0 s c)

behind_ports : (ps : List Port) (qs : List Piece) (end : List ℕ) → StopsAt is_tail (text_of (more_ports ps qs) end)
behind_ports [] qs end = refl
behind_ports (p ∷ ps) qs end = refl

ports_clear : (ps : List Port) (qs : List Piece) (end : List ℕ) → AllByRecursion PortIsFine ps → AreClear qs end → AreClear (more_ports ps qs) end
ports_clear [] qs end f c = (tt, close_read, c)
ports_clear (p ∷ ps) qs end f c = (tt, comma_read, port_clear (codes " ") p (more_ports ps qs) end blank f.0 (behind_ports ps qs end) (ports_clear ps qs end f.1 c))

each_clear : {X : Type 0} (pieces : X → List Piece → List Piece) (Fine : X → Type 0) → ((x : X) (ps : List Piece) (end : List ℕ) → Fine x → AreClear ps end → AreClear (pieces x ps) end)
    → (xs : List X) (ps : List Piece) (end : List ℕ) → AllByRecursion Fine xs → AreClear ps end → AreClear (each_pieces pieces xs ps) end
each_clear pieces Fine one [] ps end f c = c
each_clear pieces Fine one (x ∷ xs) ps end f c = one x (each_pieces pieces xs ps) end f.0 (each_clear pieces Fine one xs ps end f.1 c)

-- the text ends in LF
abbrev pub last_line : List ℕ
last_line = codes "\n"

last_clear : AreClear (last_piece ∷ []) last_line
last_clear = ((refl, tt), keyword_read (codes "endmodule") refl refl refl, tt)

end_clear : AreClear end_pieces last_line
end_clear = (indent, keyword_read (codes "end") refl refl refl, last_clear)

behind_begin : (us : List NamedUpdate) → StopsAt is_tail (text_of (each_pieces update_pieces us end_pieces) last_line)
behind_begin [] = refl
behind_begin (Set r a ∷ us) = refl
behind_begin (Put x i a ∷ us) = refl

begin_clear : (us : List NamedUpdate) → AllByRecursion UpdateIsFine us → AreClear (begin_pieces us) last_line
begin_clear us f = (blank, keyword_read (codes "begin") refl refl (behind_begin us), each_clear update_pieces UpdateIsFine update_clear us end_pieces last_line f end_clear)

whole_block_clear : (us : List NamedUpdate) → AllByRecursion UpdateIsFine us → AreClear (whole_block_pieces us) last_line
whole_block_clear us f =
    let edge : AreClear (word [] (codes "posedge") ∷ word (codes " ") (codes "clk") ∷ sign [] (codes ")") symbol.Close ∷ begin_pieces us) last_line =
    (tt, keyword_read (codes "posedge") refl refl refl, (blank, keyword_read (codes "clk") refl refl refl, (tt, close_read, begin_clear us f))) in
    (indent, keyword_read (codes "always") refl refl refl, (blank, at_read, (tt, open_read, edge)))

block_clear : (us : List NamedUpdate) → AllByRecursion UpdateIsFine us → AreClear (block_pieces us) last_line
block_clear [] f = last_clear
block_clear (u ∷ us) f = whole_block_clear (u ∷ us) f

pub module_clear : (name : List ℕ) (port : Port) (ports : List Port) (declarations : List Declaration) (assigns : List NamedAssign) (updates : List NamedUpdate) → IsNamed name → PortIsFine port → AllByRecursion PortIsFine ports
    → AllByRecursion DeclarationIsFine declarations → AllByRecursion AssignIsFine assigns → AllByRecursion UpdateIsFine updates → AreClear (module_pieces name port ports declarations assigns updates) last_line
module_clear name port ports declarations assigns updates n p ps ds as' us =
    let block = block_pieces updates in
    let lines = each_pieces assign_pieces assigns block in
    let body = each_pieces declaration_pieces declarations lines in
    let rights = each_clear assign_pieces AssignIsFine assign_clear assigns block last_line as' (block_clear updates us) in
    let decls = each_clear declaration_pieces DeclarationIsFine declaration_clear declarations lines last_line ds rights in
    let more = ports_clear ports (end_line ∷ body) last_line ps (tt, semicolon_read, decls) in
    let head = port_clear [] port (more_ports ports (end_line ∷ body)) last_line tt p (behind_ports ports (end_line ∷ body) last_line) more in
    (tt, keyword_read (codes "module") refl refl refl, (blank, name_read name n refl, (tt, open_read, head)))
