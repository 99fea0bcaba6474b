-- The parts of an expression: where their leaves are, that they are typed, and of what their nets are made.
use Rattle.std.proofs.Math.Nat.{le-max_left, le-max_right}
use Rattle.std.proofs.Common.{ℕ, ℤ, max, ◌≡◌, ◌+◌, ◌<◌, ◌≤◌, [], ◌∷◌, ap, subst, sym, ◌∙◌, List, length, arith}
use Rattle.std.specs.Prelude.{slice_get, Some, IsTrue}
use Rattle.dk_base.specs.declared.ty.Ty.{Ty}
use Rattle.dk_base.specs.declared.ty.Ty.TheVariants.{Unsigned}
use Rattle.dk_base.specs.declared.operator.Unary.{Unary}
use Rattle.dk_base.specs.declared.operator.Binary.{Binary}
use Rattle.dk_base.specs.declared.operator.Scaling.{Scaling}
use Rattle.dk_base.specs.declared.operator.Conversion.{Conversion}
use Rattle.dk_base.specs.Types.{IsType, IsIn, common_type}
use Rattle.dk_base.specs.Operators.{are_operands, binary_result}
use Rattle.wiring.specs.declared.netlist.Net.{Net}
use Rattle.wiring.specs.Netlist.{Netlist}
use Rattle.pointwise_ir.specs.declared.expr.Edge.{Edge}
use Rattle.pointwise_ir.specs.Trees.{Tree, constant, read, shifted, unary, binary, select, convert, scale}
use Rattle.datapath.specs.declared.operand.Signal.{Signal}
use Rattle.datapath.specs.declared.operand.Signal.TheVariants as signal
use Rattle.datapath.specs.Nets.{IsPartOf, IsMadeOver}
use Rattle.datapath.specs.Walks.{IsPartAt}
use Rattle.datapath.specs.Expressions.{IsMadeOfLeaves, edge_bits, TakesOperand, TakesNumber, unary_result, scaling_result, IsTyped, type_of, types_in, reads_in, bits_in}
use Rattle.datapath.proofs.Growth.{part_on}
use Rattle.datapath.proofs.Over.{made_deeper}

module _ (whole : Tree) (reads : List (Ty × Net)) (bits : List Net) (n k : ℕ) (part : IsPartAt whole reads bits n k) where
  at : (e : Tree) → whole ≡ e → IsPartAt e reads bits n k
  at e is = let P : Tree → Type 0 = λ t. IsPartAt t reads bits n k in subst P is part

  pub constant_typed : (v : ℤ) (t : Ty) → whole ≡ constant v t → IsType t × IsIn t v
  constant_typed v t is = (at (constant v t) is).typed

  pub read_place : (edge : Edge) (g : ℕ) (dx dy : ℤ) → whole ≡ read edge g dx dy → n < length reads
  read_place edge g dx dy is = let h = (at (read edge g dx dy) is).reads_stand in omega (arith, h)

  pub shifted_place : (edge : Edge) (dx dy : ℤ) (e : Tree) → whole ≡ shifted edge dx dy e → k + edge_bits edge ≤ length bits
  shifted_place edge dx dy e is = let h = (at (shifted edge dx dy e) is).bits_stand in omega (arith, h)

  pub shifted_part : (edge : Edge) (dx dy : ℤ) (e : Tree) (m j : ℕ) → whole ≡ shifted edge dx dy e → m ≡ n → j ≡ k + edge_bits edge → IsPartAt e reads bits m j
  shifted_part edge dx dy e m j is here step =
      let h = at (shifted edge dx dy e) is in
      let r = h.reads_stand in let b = h.bits_stand in
      let P : ℕ → Type 0 = λ i. IsTyped e (types_in reads) i in
      record { typed = subst P (sym here) h.typed; reads_stand = omega (arith, r, here); bits_stand = omega (arith, b, step) }

  pub unary_part : (o : Unary) (e : Tree) → whole ≡ unary o e → IsPartAt e reads bits n k
  unary_part o e is = let h = at (unary o e) is in record { typed = h.typed.0; reads_stand = h.reads_stand; bits_stand = h.bits_stand }

  pub unary_takes : (o : Unary) (e : Tree) (t : Ty) → whole ≡ unary o e → t ≡ type_of e (types_in reads) n → TakesOperand o t × IsType (unary_result o t)
  unary_takes o e t is ty =
      let P : Ty → Type 0 = λ u. TakesOperand o u × IsType (unary_result o u) in
      let h = at (unary o e) is in
      let here : P (type_of e (types_in reads) n) = (h.typed.1, h.typed.2) in
      subst P (sym ty) here

  pub convert_part : (how : Conversion) (e : Tree) (t : Ty) → whole ≡ convert how e t → IsPartAt e reads bits n k
  convert_part how e t is = let h = at (convert how e t) is in record { typed = h.typed.0; reads_stand = h.reads_stand; bits_stand = h.bits_stand }

  pub convert_type : (how : Conversion) (e : Tree) (t : Ty) → whole ≡ convert how e t → IsType t
  convert_type how e t is = (at (convert how e t) is).typed.1

  pub scale_part : (o : Scaling) (e : Tree) (by : ℕ) → whole ≡ scale o e by → IsPartAt e reads bits n k
  scale_part o e by is = let h = at (scale o e by) is in record { typed = h.typed.0; reads_stand = h.reads_stand; bits_stand = h.bits_stand }

  pub scale_takes : (o : Scaling) (e : Tree) (by : ℕ) (t : Ty) → whole ≡ scale o e by → t ≡ type_of e (types_in reads) n → TakesNumber o by × IsType (scaling_result o t by)
  scale_takes o e by t is ty =
      let P : Ty → Type 0 = λ u. TakesNumber o by × IsType (scaling_result o u by) in
      let h = at (scale o e by) is in
      let here : P (type_of e (types_in reads) n) = (h.typed.1, h.typed.2) in
      subst P (sym ty) here

  pub left_part : (o : Binary) (e f : Tree) → whole ≡ binary o e f → IsPartAt e reads bits n k
  left_part o e f is =
      let h = at (binary o e f) is in
      let r = h.reads_stand in let b = h.bits_stand in
      record { typed = h.typed.0; reads_stand = omega (arith, r); bits_stand = omega (arith, b) }

  pub right_part : (o : Binary) (e f : Tree) (m j : ℕ) → whole ≡ binary o e f → m ≡ n + reads_in e → j ≡ k + bits_in e → IsPartAt f reads bits m j
  right_part o e f m j is read_is bit_is =
      let h = at (binary o e f) is in
      let r = h.reads_stand in let b = h.bits_stand in
      let P : ℕ → Type 0 = λ i. IsTyped f (types_in reads) i in
      record { typed = subst P (sym read_is) h.typed.1; reads_stand = omega (arith, r, read_is); bits_stand = omega (arith, b, bit_is) }

  pub binary_takes : (o : Binary) (e f : Tree) (m : ℕ) (t u : Ty) → whole ≡ binary o e f → m ≡ n + reads_in e → t ≡ type_of e (types_in reads) n → u ≡ type_of f (types_in reads) m →
      IsTrue (are_operands o t u) × IsType (common_type t u) × IsType (binary_result o t u)
  binary_takes o e f m t u is read_is left right =
      let P : Ty → Ty → Type 0 = λ x y. IsTrue (are_operands o x y) × IsType (common_type x y) × IsType (binary_result o x y) in
      let there : u ≡ type_of f (types_in reads) (n + reads_in e) = right ∙ ap (type_of f (types_in reads)) read_is in
      let h : P (type_of e (types_in reads) n) (type_of f (types_in reads) (n + reads_in e)) = let w = at (binary o e f) is in (w.typed.2, w.typed.3, w.typed.4) in
      subst (λ (x : Ty). P x u) (sym left) (subst (λ (y : Ty). P (type_of e (types_in reads) n) y) (sym there) h)

  pub condition_part : (g e f : Tree) → whole ≡ select g e f → IsPartAt g reads bits n k
  condition_part g e f is =
      let h = at (select g e f) is in
      let r = h.reads_stand in let b = h.bits_stand in
      record { typed = h.typed.0; reads_stand = omega (arith, r); bits_stand = omega (arith, b) }

  pub chosen_part : (g e f : Tree) (m j : ℕ) → whole ≡ select g e f → m ≡ n + reads_in g → j ≡ k + bits_in g → IsPartAt e reads bits m j
  chosen_part g e f m j is read_is bit_is =
      let h = at (select g e f) is in
      let r = h.reads_stand in let b = h.bits_stand in
      let P : ℕ → Type 0 = λ i. IsTyped e (types_in reads) i in
      record { typed = subst P (sym read_is) h.typed.2; reads_stand = omega (arith, r, read_is); bits_stand = omega (arith, b, bit_is) }

  pub other_part : (g e f : Tree) (m j m' j' : ℕ) → whole ≡ select g e f → m ≡ n + reads_in g → j ≡ k + bits_in g → m' ≡ m + reads_in e → j' ≡ j + bits_in e → IsPartAt f reads bits m' j'
  other_part g e f m j m' j' is read_is bit_is read_next bit_next =
      let h = at (select g e f) is in
      let r = h.reads_stand in let b = h.bits_stand in
      let P : ℕ → Type 0 = λ i. IsTyped f (types_in reads) i in
      let there : m' ≡ n + reads_in g + reads_in e = omega (arith, read_is, read_next) in
      record { typed = subst P (sym there) h.typed.3; reads_stand = omega (arith, r, read_is, read_next); bits_stand = omega (arith, b, bit_is, bit_next) }

  pub condition_type : (g e f : Tree) (t : Ty) → whole ≡ select g e f → t ≡ type_of g (types_in reads) n → t ≡ Unsigned 1
  condition_type g e f t is ty = ty ∙ (at (select g e f) is).typed.1

  pub select_type : (g e f : Tree) (m m' : ℕ) (t u : Ty) → whole ≡ select g e f → m ≡ n + reads_in g → m' ≡ m + reads_in e → t ≡ type_of e (types_in reads) m → u ≡ type_of f (types_in reads) m' → IsType (common_type t u)
  select_type g e f m m' t u is read_is read_next left right =
      let here : t ≡ type_of e (types_in reads) (n + reads_in g) = left ∙ ap (type_of e (types_in reads)) read_is in
      let there : u ≡ type_of f (types_in reads) (n + reads_in g + reads_in e) = right ∙ ap (type_of f (types_in reads)) (read_next ∙ ap (λ i. i + reads_in e) read_is) in
      let h : IsType (common_type (type_of e (types_in reads) (n + reads_in g)) (type_of f (types_in reads) (n + reads_in g + reads_in e))) = (at (select g e f) is).typed.4 in
      subst (λ (x : Ty). IsType (common_type x u)) (sym here) (subst (λ (y : Ty). IsType (common_type (type_of e (types_in reads) (n + reads_in g)) y)) (sym there) h)

-- of what the nets of forms are made
module _ {reads : List (Ty × Net)} {bits : List Net} where
  pub leaves_constant : {b : Netlist} {r : Signal} → IsMadeOver b 0 r [] → IsMadeOfLeaves b 0 r reads bits
  leaves_constant h = record { made = λ m base j more is. h.made m base j more tt }

  pub leaves_read : (b : Netlist) (k : ℕ) (leaf : Ty × Net) → slice_get reads k ≡ Some leaf → IsMadeOfLeaves b 0 (signal.Net leaf.1) reads bits
  leaves_read b k leaf e = record { made = λ m base j more is. made_deeper m base (signal.Net leaf.1) (omega arith) (is.read k leaf e) }

  pub leaves_gate : {b c : Netlist} {r p : Signal} (i l k : ℕ) (n : Net) → i ≡ 1 → slice_get bits k ≡ Some n → IsPartOf b c → IsMadeOver c 1 r (signal.Net n ∷ (p ∷ [])) → IsMadeOfLeaves b l p reads bits → IsMadeOfLeaves c (i + l) r reads bits
  leaves_gate {b} {c} {r} i l k n one e bc h f = record {
    made = λ m base j more is. made_deeper m base r (let g : 1 + (l + j) ≤ i + l + j = omega (arith, one) in g) (h.made m base (l + j) more (made_deeper m base (signal.Net n) (omega arith) (is.bit k n e), (f.made m base j (part_on b c m bc more) is, tt)));
  }

  pub leaves_clamp : {b : Netlist} {r : Signal} {l n : ℕ} → l ≤ n → IsMadeOfLeaves b l r reads bits → IsMadeOfLeaves b n r reads bits
  leaves_clamp {b} {r} {l} {n} le f = record { made = λ m base j more is. made_deeper m base r (let g : l + j ≤ n + j = omega (arith, le) in g) (f.made m base j more is) }

  pub leaves_one : {b c : Netlist} {i l : ℕ} {r p : Signal} → IsPartOf b c → IsMadeOver c i r (p ∷ []) → IsMadeOfLeaves b l p reads bits → IsMadeOfLeaves c (i + l) r reads bits
  leaves_one {b} {c} {i} {l} {r} bc h f = record { made = λ m base j more is. made_deeper m base r (omega arith) (h.made m base (l + j) more (f.made m base j (part_on b c m bc more) is, tt)) }

  pub leaves_two : {b c d : Netlist} {i l o : ℕ} {r p q : Signal} → IsPartOf b c → IsPartOf c d → IsMadeOver d i r (p ∷ (q ∷ [])) → IsMadeOfLeaves b l p reads bits → IsMadeOfLeaves c o q reads bits → IsMadeOfLeaves d (i + max l o) r reads bits
  leaves_two {b} {c} {d} {i} {l} {o} {r} {p} {q} bc cd h f g = record {
    made = λ m base j more is.
        let on = part_on c d m cd more in
        let left = le-max_left l o in
        let right = le-max_right l o in
        made_deeper m base r (omega arith) (h.made m base (max l o + j) more (made_deeper m base p (omega (arith, left)) (f.made m base j (part_on b c m bc on) is), (made_deeper m base q (omega (arith, right)) (g.made m base j on is), tt)));
  }

  pub leaves_three : {a b c d : Netlist} {i k l n : ℕ} {r o p q : Signal} → IsPartOf a b → IsPartOf b c → IsPartOf c d → IsMadeOver d i r (o ∷ (p ∷ (q ∷ []))) → IsMadeOfLeaves a k o reads bits → IsMadeOfLeaves b l p reads bits → IsMadeOfLeaves c n q reads bits →
      IsMadeOfLeaves d (i + max k (max l n)) r reads bits
  leaves_three {a} {b} {c} {d} {i} {k} {l} {n} {r} {o} {p} {q} ab bc cd h e f g = record {
    made = λ m base j more is.
        let on_c = part_on c d m cd more in
        let on_b = part_on b c m bc on_c in
        let first = le-max_left k (max l n) in
        let rest = le-max_right k (max l n) in
        let second = le-max_left l n in
        let third = le-max_right l n in
        made_deeper m base r (omega arith) (h.made m base (max k (max l n) + j) more (
          made_deeper m base o (omega (arith, first)) (e.made m base j (part_on a b m ab on_b) is),
          (made_deeper m base p (omega (arith, rest, second)) (f.made m base j on_b is), (made_deeper m base q (omega (arith, rest, third)) (g.made m base j on_c is), tt)),
        ));
  }
