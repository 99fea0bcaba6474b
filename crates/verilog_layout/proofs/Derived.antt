-- Tokens that spell a module's pieces are those of the grammar's parts, which mean what the pieces say.
use Rattle.std.proofs.Common.{◌≡◌, ℕ, ◌+◌, ◌-◌, ◌*◌, ◌<◌, ◌≤◌, List, ◌∷◌, Bool, true, false, Option, Some, None, nat_eq, nat_le, nat_lt, refl, ap, ◌∙◌, subst, arith, codes}
use Rattle.std.specs.Prelude.{if◌then◌else◌}
use Rattle.dk_base.specs.declared.span.Span.{Span}
use Rattle.wiring.specs.Sizes.{IsWidth, IsDepth}
use Rattle.wiring.specs.declared.right.Atom.{Atom}
use Rattle.wiring.specs.declared.right.Atom.TheVariants as atom
use Rattle.wiring.specs.declared.right.Operator.{Operator}
use Rattle.wiring.specs.declared.right.Operator.TheVariants.{Add, Subtract, Multiply, Divide, Less, Equal, And, Or, Xor}
use Rattle.wiring.specs.declared.right.Right.{Right}
use Rattle.wiring.specs.declared.right.Right.TheVariants.{Copy, Not, Binary, Choose, Join, Repeat, Bit, Slice, Word}
use Rattle.netlist.specs.declared.parts.Declaration.{Declaration}
use Rattle.netlist.specs.declared.parts.Sort.{Sort}
use Rattle.netlist.specs.declared.parts.Sort.TheVariants.{Wire as OfWire, Reg as OfReg, Array as OfArray}
use Rattle.netlist.specs.declared.parts.NamedAssign.{NamedAssign}
use Rattle.netlist.specs.declared.parts.NamedUpdate.{NamedUpdate}
use Rattle.netlist.specs.declared.parts.NamedUpdate.TheVariants.{Set, Put}
use Rattle.verilog_text.specs.declared.token.Token.{Token}
use Rattle.verilog_text.specs.declared.token.TokenKind.TheVariants as kind
use Rattle.verilog_text.specs.declared.token.Symbol.TheVariants as symbol
use Rattle.verilog_text.specs.declared.written.Count.{Count}
use Rattle.verilog_text.specs.declared.written.Range.{Range}
use Rattle.verilog_text.specs.declared.written.WrittenSort.TheVariants as sort
use Rattle.verilog_text.specs.declared.written.WrittenDeclaration.{WrittenDeclaration}
use Rattle.verilog_text.specs.declared.written.WrittenRight.{WrittenRight}
use Rattle.verilog_text.specs.declared.written.WrittenRight.TheVariants as right
use Rattle.verilog_text.specs.declared.written.WrittenAssign.{WrittenAssign}
use Rattle.verilog_text.specs.declared.written.WrittenUpdate.TheVariants as update
use Rattle.verilog_text.specs.Bytes.{word_kind}
use Rattle.verilog_text.specs.Grammar.{Tokens, named, atomic, counted, binary, IsName, IsAtom, IsCount, Ranged, one_bit, wide, Bits, bits, copy, complement, two, choose, join, repeat, bit, slice, word, assign, set, put}
use Rattle.verilog_text.specs.Grammar.{Right as RightOf, Assign as AssignOf, Update as UpdateOf, Declares}
use Rattle.verilog_text.specs.Limits.{width_fault, words_fault, bits_fault, sort_fault, width_of, depth_of, bits_of, right_fault, count_fault}
use Rattle.verilog_text.specs.Stands.{bytes_at, declaration_of, atom_of, right_of, assign_of, update_of}
use Rattle.verilog_layout.proofs.Pieces.{Piece, Spells, token}
use Rattle.verilog_layout.proofs.Spelling.{le_true}
use Rattle.verilog_layout.proofs.Words.{is_named, is_atomic}
use Rattle.verilog_layout.proofs.Clear.{word as word_piece, atom_own, atom_kind, operator_sign, end_line, right_pieces, assign_pieces, update_pieces, wide_pieces, ranged_pieces, words_pieces, sort_pieces, IsNamed, AtomIsFine, RightIsFine, AssignIsFine, UpdateIsFine, SortIsFine}

-- the tokens begin with a part of the grammar, which means so, and those after it spell the pieces that are left
pub record Parsed {V : Type 0} (whole : List ℕ) (P : Tokens → V → Tokens → Type 0) (Means : V → Type 0) (ts : Tokens) (ps : List Piece) : Type 0 where
  pub value : V
  pub after : Tokens
  pub phrase : P ts value after
  pub means : Means value
  pub spells : Spells whole after ps

-- a token that is an atom
record IsAtomOf (whole : List ℕ) (a : Atom (List ℕ)) (t : Token) : Type 0 where
  value : Atom Span
  is : IsAtom t value
  means : atom_of whole value ≡ a

atom_token : (whole : List ℕ) (a : Atom (List ℕ)) (t : Token) → AtomIsFine a → t.kind ≡ atom_kind a → bytes_at whole t.span ≡ atom_own a → IsAtomOf whole a t
atom_token whole (atom.Net b) t f k e = record { value = atom.Net t.span; is = ap (λ x. atomic x t.span) k ∙ is_atomic b t.span f; means = ap (λ x. atom.Net x) e }
atom_token whole (atom.Constant c) t f k e = record { value = atom.Constant c; is = ap (λ x. atomic x t.span) k; means = refl }

pub name_token : (b : List ℕ) (t : Token) → IsNamed b → t.kind ≡ word_kind b → IsName t t.span
name_token b t f k = ap (λ x. named x t.span) k ∙ is_named b t.span f

abbrev count_of : Token → ℕ → Count
count_of t n = record { value = n; span = t.span }

count_token : (n : ℕ) (t : Token) → t.kind ≡ kind.Plain n → IsCount t (count_of t n)
count_token n t k = ap (λ x. counted x t.span) k

operator_is : (o : Operator) → binary (kind.Symbol (operator_sign o)) ≡ Some o
operator_is Add = refl
operator_is Subtract = refl
operator_is Multiply = refl
operator_is Divide = refl
operator_is Less = refl
operator_is Equal = refl
operator_is And = refl
operator_is Or = refl
operator_is Xor = refl

count_within : (t : Token) (n : ℕ) → IsWidth n → count_fault (count_of t n) ≡ None
count_within t n w =
    let low = le_true 1 n w.0 in
    let high = le_true n 64 w.1 in
    rw (low, high) refl

one_is : (w : ℕ) → nat_eq w 1 ≡ true → 1 ≡ w
one_is w e = grind arith

-- the bits of an array
abbrev pub sort_bits : Sort → ℕ
sort_bits (OfWire w) = 0
sort_bits (OfReg w) = 0
sort_bits (OfArray s) = s.width * s.depth

total_within : (v : WrittenDeclaration) (total : ℕ) → total ≤ 67108864 → bits_fault v total ≡ None
total_within v total h =
    let e : nat_le total 67108864 ≡ true = le_true total 67108864 h in
    rw e refl

array_within : (v : WrittenDeclaration) (r : Range) (w d : ℕ) → width_of v.bits ≡ w → depth_of r ≡ d → words_fault r ≡ None → (before : ℕ) → before + w * d ≤ 67108864 → sort_fault v (sort.Array r) before ≡ None
array_within v r w d e f words before h =
    rw words (ap (λ x. bits_fault v (before + x * depth_of r)) e ∙ ap (λ x. bits_fault v (before + w * x)) f ∙ total_within v (before + w * d) h)

declared_is : {a b : List ℕ} {x y : ℕ} (of : ℕ → Sort) → a ≡ b → x ≡ y → (let d : Declaration = record { name = a; sort = of x } in d) ≡ record { name = b; sort = of y }
declared_is {a = a} {b = b} {x = x} {y = y} of e f = ap (λ z. let d : Declaration = record { name = z; sort = of x } in d) e ∙ ap (λ z. let d : Declaration = record { name = b; sort = of z } in d) f

module _ (whole : List ℕ) where
  record RightMeans (r : Right (List ℕ) (List ℕ)) (v : WrittenRight) : Type 0 where
    is : right_of whole v ≡ r
    within : right_fault v ≡ None

  right_parsed : (r : Right (List ℕ) (List ℕ)) (ts : Tokens) (ps : List Piece) → RightIsFine r → Spells whole ts (right_pieces r ps) → Parsed whole RightOf (RightMeans r) ts ps
  right_parsed (Copy a) _ ps f (token {t = t} {ts = ts} k b (token {ts = rest} ks bs s)) =
      let x = atom_token whole a t f k b in
      record { value = right.Copy x.value; after = rest; phrase = copy x.is ks; means = record { is = ap (λ z. Copy z) x.means; within = refl }; spells = s }
  right_parsed (Not a) _ ps f (token {t = to} ko bo (token {t = ta} ka ba (token {ts = rest} kz bz s))) =
      let x = atom_token whole a ta f ka ba in
      record { value = right.Not x.value; after = rest; phrase = complement ko x.is kz; means = record { is = ap (λ w. Not w) x.means; within = refl }; spells = s }
  right_parsed (Binary op a b) _ ps f (token {t = ta} ka ba (token {t = to} ko bo (token {t = tb} kb bb (token {ts = rest} kz bz s)))) =
      let x = atom_token whole a ta f.0 ka ba in
      let y = atom_token whole b tb f.1 kb bb in
      record { value = right.Binary op x.value y.value; after = rest; phrase = two x.is (ap (λ w. binary w) ko ∙ operator_is op) y.is kz; means = record { is = ap (λ w. Binary op w (atom_of whole y.value)) x.means ∙ ap (λ w. Binary op a w) y.means; within = refl }; spells = s }
  right_parsed (Choose c a b) _ ps f (token {t = tc} kc bc (token {t = tq} kq bq (token {t = ta} ka ba (token {t = to} ko bo (token {t = tb} kb bb (token {ts = rest} kz bz s)))))) =
      let w = atom_token whole c tc f.0 kc bc in
      let x = atom_token whole a ta f.1 ka ba in
      let y = atom_token whole b tb f.2 kb bb in
      record { value = right.Choose w.value x.value y.value; after = rest; phrase = choose w.is kq x.is ko y.is kz; means = record { is = ap (λ v. Choose v (atom_of whole x.value) (atom_of whole y.value)) w.means ∙ ap (λ v. Choose c v (atom_of whole y.value)) x.means ∙ ap (λ v. Choose c a v) y.means; within = refl }; spells = s }
  right_parsed (Join a b) _ ps f (token {t = to} ko bo (token {t = ta} ka ba (token {t = tc} kc bc (token {t = tb} kb bb (token {t = te} ke be (token {ts = rest} kz bz s)))))) =
      let x = atom_token whole a ta f.0 ka ba in
      let y = atom_token whole b tb f.1 kb bb in
      record { value = right.Join x.value y.value; after = rest; phrase = join ko x.is kc y.is ke kz; means = record { is = ap (λ w. Join w (atom_of whole y.value)) x.means ∙ ap (λ w. Join a w) y.means; within = refl }; spells = s }
  right_parsed (Repeat n a) _ ps f (token {t = to} ko bo (token {t = tn} kn bn (token {t = ti} ki bi (token {t = ta} ka ba (token {t = te} ke be (token {t = tg} kg bg (token {ts = rest} kz bz s))))))) =
      let x = atom_token whole a ta f.1 ka ba in
      record { value = right.Repeat (count_of tn n) x.value; after = rest; phrase = repeat ko (count_token n tn kn) ki x.is ke kg kz; means = record { is = ap (λ w. Repeat n w) x.means; within = count_within tn n f.0 }; spells = s }
  right_parsed (Bit v k) _ ps f (token {t = tv} kv bv (token {t = to} ko bo (token {t = tk} kk bk (token {t = te} ke be (token {ts = rest} kz bz s))))) =
      record { value = right.Bit tv.span k; after = rest; phrase = bit {c = count_of tk k} (name_token v tv f.0 kv) ko (count_token k tk kk) ke kz; means = record { is = ap (λ w. Bit w k) bv; within = refl }; spells = s }
  right_parsed (Slice v h l) _ ps f (token {t = tv} kv bv (token {t = to} ko bo (token {t = th} kh bh (token {t = tc} kc bc (token {t = tl} kl bl (token {t = te} ke be (token {ts = rest} kz bz s))))))) =
      record { value = right.Slice tv.span h l; after = rest; phrase = slice {c = count_of th h} {d = count_of tl l} (name_token v tv f.0 kv) ko (count_token h th kh) kc (count_token l tl kl) ke kz; means = record { is = ap (λ w. Slice w h l) bv; within = refl }; spells = s }
  right_parsed (Word m a) _ ps f (token {t = tm} km bm (token {t = to} ko bo (token {t = ta} ka ba (token {t = te} ke be (token {ts = rest} kz bz s))))) =
      let x = atom_token whole a ta f.1 ka ba in
      record { value = right.Word tm.span x.value; after = rest; phrase = word (name_token m tm f.0 km) ko x.is ke kz; means = record { is = ap (λ w. Word w (atom_of whole x.value)) bm ∙ ap (λ w. Word m w) x.means; within = refl }; spells = s }

  pub record AssignMeans (a : NamedAssign) (v : WrittenAssign) : Type 0 where
    pub is : assign_of whole v ≡ a
    pub within : right_fault v.right ≡ None

  pub assign_parsed : (a : NamedAssign) (ts : Tokens) (ps : List Piece) → AssignIsFine a → Spells whole ts (assign_pieces a ps) → Parsed whole AssignOf (AssignMeans a) ts ps
  assign_parsed a _ ps f (token kk bk (token {t = tn} kn bn (token {ts = ts} ke be s))) =
      let r = right_parsed a.right ts ps f.1 s in
      record {
        value = record { target = tn.span; right = r.value };
        after = r.after;
        phrase = assign kk (name_token a.target tn f.0 kn) ke r.phrase;
        means = record { is = ap (λ (w : List ℕ). let x : NamedAssign = record { target = w; right = right_of whole r.value } in x) bn ∙ ap (λ w. let x : NamedAssign = record { target = a.target; right = w } in x) r.means.is; within = r.means.within };
        spells = r.spells;
      }

  pub update_parsed : (u : NamedUpdate) (ts : Tokens) (ps : List Piece) → UpdateIsFine u → Spells whole ts (update_pieces u ps) → Parsed whole UpdateOf (λ v. update_of whole v ≡ u) ts ps
  update_parsed (Set r a) _ ps f (token {t = tr} kr br (token ke be (token {t = ta} ka ba (token {ts = rest} kz bz s)))) =
      let x = atom_token whole a ta f.1 ka ba in
      record { value = update.Set tr.span x.value; after = rest; phrase = set (name_token r tr f.0 kr) ke x.is kz; means = ap (λ w. Set w (atom_of whole x.value)) br ∙ ap (λ w. Set r w) x.means; spells = s }
  update_parsed (Put m i a) _ ps f (token {t = tm} km bm (token ko bo (token {t = ti} ki bi (token kc bc (token ke be (token {t = ta} ka ba (token {ts = rest} kz bz s))))))) =
      let y = atom_token whole i ti f.1 ki bi in
      let x = atom_token whole a ta f.2 ka ba in
      record {
        value = update.Put tm.span y.value x.value;
        after = rest;
        phrase = put (name_token m tm f.0 km) ko y.is kc ke x.is kz;
        means = ap (λ w. Put w (atom_of whole y.value) (atom_of whole x.value)) bm ∙ ap (λ w. Put m w (atom_of whole x.value)) y.means ∙ ap (λ w. Put m i w) x.means;
        spells = s;
      }

  -- the token of the next piece
  pub record OneToken (p : Piece) (ts : Tokens) (ps : List Piece) : Type 0 where
    pub t : Token
    pub rest : Tokens
    pub is : ts ≡ t ∷ rest
    pub is_kind : t.kind ≡ p.kind
    pub spells : Spells whole rest ps

  pub one_token : (p : Piece) (ts : Tokens) (ps : List Piece) → Spells whole ts (p ∷ ps) → OneToken p ts ps
  one_token p _ ps (token {t = t} {ts = rest} k b s) = record { t = t; rest = rest; is = refl; is_kind = k; spells = s }

  pub record IsRangedOf (w : ℕ) (name : List ℕ) (ts : Tokens) (ps : List Piece) : Type 0 where
    pub range : Option Range
    pub span : Span
    pub after : Tokens
    pub phrase : Ranged ts range span after
    pub width : width_of range ≡ w
    pub within : width_fault range ≡ None
    pub bytes : bytes_at whole span ≡ name
    pub spells : Spells whole after ps

  one_bit_parsed : (w : ℕ) (name : List ℕ) (ts : Tokens) (ps : List Piece) → 1 ≡ w → IsNamed name → Spells whole ts (word_piece (codes " ") name ∷ ps) → IsRangedOf w name ts ps
  one_bit_parsed w name _ ps e n (token {t = t} {ts = rest} k b s) =
      record { range = None; span = t.span; after = rest; phrase = one_bit (name_token name t n k); width = e; within = refl; bytes = b; spells = s }

  range_within : (a b : Count) → a.value < 64 → b.value ≡ 0 → width_fault (Some (record { first = a; second = b })) ≡ None
  range_within a b h e =
      let f : nat_le 64 a.value ≡ false = grind arith in
      let g : nat_eq b.value 0 ≡ true = grind arith in
      rw (f, g) refl

  wide_parsed : (w : ℕ) (name : List ℕ) (ts : Tokens) (ps : List Piece) → IsWidth w → IsNamed name → Spells whole ts (wide_pieces w name ps) → IsRangedOf w name ts ps
  wide_parsed w name _ ps f n (token ko bo (token {t = th} kh bh (token kc bc (token {t = tl} kl bl (token ke be (token {t = t} {ts = rest} k b s)))))) =
      record {
        range = Some (record { first = count_of th (w - 1); second = count_of tl 0 });
        span = t.span;
        after = rest;
        phrase = wide (bits ko (count_token (w - 1) th kh) kc (count_token 0 tl kl) ke) (name_token name t n k);
        width = let h = f.0 in omega (arith, h);
        within = range_within (count_of th (w - 1)) (count_of tl 0) (let h = f.0 in let g = f.1 in omega (arith, h, g)) refl;
        bytes = b;
        spells = s;
      }

  pub ranged_parsed : (w : ℕ) (name : List ℕ) (ts : Tokens) (ps : List Piece) → IsWidth w → IsNamed name → Spells whole ts (ranged_pieces w name ps) → IsRangedOf w name ts ps
  ranged_parsed w name ts ps f n s = by_bits (nat_eq w 1) refl s
    where
      by_bits : (t : Bool) → nat_eq w 1 ≡ t → Spells whole ts (if t then word_piece (codes " ") name ∷ ps else wide_pieces w name ps) → IsRangedOf w name ts ps
      by_bits true e z = one_bit_parsed w name ts ps (one_is w e) n z
      by_bits false e z = wide_parsed w name ts ps f n z

  record AreWordsOf (d : ℕ) (ts : Tokens) (ps : List Piece) : Type 0 where
    range : Range
    t : Token
    rest : Tokens
    phrase : Bits ts range (t ∷ rest)
    sign : t.kind ≡ kind.Symbol symbol.Semicolon
    depth : depth_of range ≡ d
    within : words_fault range ≡ None
    spells : Spells whole rest ps

  words_within : (a b : Count) → a.value ≡ 0 → b.value < 67108864 → words_fault (record { first = a; second = b }) ≡ None
  words_within a b e h =
      let f : nat_lt b.value 67108864 ≡ true = grind arith in
      let g : nat_eq a.value 0 ≡ true = grind arith in
      rw (g, f) refl

  words_parsed : (d : ℕ) (ts : Tokens) (ps : List Piece) → IsDepth d → Spells whole ts (words_pieces d ps) → AreWordsOf d ts ps
  words_parsed d _ ps f (token ko bo (token {t = tl} kl bl (token kc bc (token {t = th} kh bh (token ke be (token {t = t} {ts = rest} k b s)))))) =
      record {
        range = record { first = count_of tl 0; second = count_of th (d - 1) };
        t = t;
        rest = rest;
        phrase = bits ko (count_token 0 tl kl) kc (count_token (d - 1) th kh) ke;
        sign = k;
        depth = let h = f.0 in omega (arith, h);
        within = words_within (count_of tl 0) (count_of th (d - 1)) refl (let h = f.0 in let g = f.1 in omega (arith, h, g));
        spells = s;
      }

  pub record SortMeans (name : List ℕ) (s : Sort) (v : WrittenDeclaration) : Type 0 where
    pub is : declaration_of whole v ≡ record { name = name; sort = s }
    pub width : width_fault v.bits ≡ None
    pub size : bits_of v.bits v.sort ≡ sort_bits s
    pub within : (before : ℕ) → before + sort_bits s ≤ 67108864 → sort_fault v v.sort before ≡ None

  pub sort_parsed : (name : List ℕ) (s : Sort) (ts : Tokens) (ps : List Piece) → IsNamed name → SortIsFine s → Spells whole ts (sort_pieces name s ps) → Parsed whole Declares (SortMeans name s) ts ps
  sort_parsed name (OfWire w) _ ps n f (token {ts = ts} k b s) =
      let r = ranged_parsed w name ts (end_line ∷ ps) f n s in
      let e = one_token end_line r.after ps r.spells in
      record {
        value = record { sort = sort.Wire; bits = r.range; name = r.span };
        after = e.rest;
        phrase = Declares.wire k (subst (λ x. Ranged ts r.range r.span x) e.is r.phrase) e.is_kind;
        means = record { is = declared_is (λ x. OfWire x) r.bytes r.width; width = r.within; size = refl; within = λ before h. refl };
        spells = e.spells;
      }
  sort_parsed name (OfReg w) _ ps n f (token {ts = ts} k b s) =
      let r = ranged_parsed w name ts (end_line ∷ ps) f n s in
      let e = one_token end_line r.after ps r.spells in
      record {
        value = record { sort = sort.Reg; bits = r.range; name = r.span };
        after = e.rest;
        phrase = Declares.reg k (subst (λ x. Ranged ts r.range r.span x) e.is r.phrase) e.is_kind;
        means = record { is = declared_is (λ x. OfReg x) r.bytes r.width; width = r.within; size = refl; within = λ before h. refl };
        spells = e.spells;
      }
  sort_parsed name (OfArray a) _ ps n f (token {ts = ts} k b s) =
      let r = ranged_parsed a.width name ts (words_pieces a.depth ps) f.width n s in
      let e = words_parsed a.depth r.after ps f.depth r.spells in
      let v : WrittenDeclaration = record { sort = sort.Array e.range; bits = r.range; name = r.span } in
      record {
        value = v;
        after = e.rest;
        phrase = Declares.array k r.phrase e.phrase e.sign;
        means = record {
          is = declared_is (λ x. OfArray (record { width = x; depth = depth_of e.range })) r.bytes r.width ∙ ap (λ x. let d : Declaration = record { name = name; sort = OfArray (record { width = a.width; depth = x }) } in d) e.depth;
          width = r.within;
          size = ap (λ x. x * depth_of e.range) r.width ∙ ap (λ x. a.width * x) e.depth;
          within = array_within v e.range a.width a.depth r.width e.depth e.within;
        };
        spells = e.spells;
      }
