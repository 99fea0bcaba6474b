-- What each form of an expression carries, over what its parts carry.
use Rattle.std.proofs.Common.{ℕ, ◌≡◌, ◌+◌, [], ◌∷◌, nat_eq, if◌then◌else◌, ℤ, pos, ap, refl, subst, sym, ◌∙◌, List, arith}
use Rattle.std.specs.Prelude.{slice_get, Some}
use Rattle.dk_base.specs.declared.ty.Ty.{Ty}
use Rattle.dk_base.specs.declared.operator.Unary.{Unary}
use Rattle.dk_base.specs.declared.operator.Binary.{Binary}
use Rattle.dk_base.specs.declared.operator.Scaling.{Scaling}
use Rattle.dk_base.specs.declared.operator.Conversion.{Conversion}
use Rattle.dk_base.specs.Types.{common_type}
use Rattle.dk_base.specs.Operators.{unary_value, binary_result, binary_value, scaling_value, conversion_value, select_value}
use Rattle.wiring.specs.declared.netlist.Net.{Net}
use Rattle.wiring.specs.Netlist.{Netlist}
use Rattle.wiring.specs.Snapshot.{net_value}
use Rattle.pointwise_ir.specs.declared.expr.Edge.{Edge}
use Rattle.pointwise_ir.specs.declared.expr.Edge.TheVariants.{Zero, Clamp}
use Rattle.pointwise_ir.specs.Trees.{Tree, constant, read, shifted, unary, binary, select, convert, scale}
use Rattle.datapath.specs.declared.operand.Signal.TheVariants as signal
use Rattle.datapath.specs.declared.lowering.Walked.{Walked}
use Rattle.datapath.specs.declared.operand.Operand.{Operand}
use Rattle.datapath.specs.Nets.{IsPartOf, IsMadeOver}
use Rattle.datapath.specs.Levels.{unary_levels, binary_levels, conversion_levels, scaling_levels, select_levels, edge_levels, logic_levels}
use Rattle.datapath.specs.Operands.{IsOperand, Carries, worth}
use Rattle.datapath.specs.Expressions.{HasLeaves, LeavesAreOperands, IsMadeOfLeaves, edge_bits, edged, unary_result, scaling_result, type_of, types_in, type_or, worth_in, worth_or, set_in, is_set, leaf_value, reads_in, bits_in}
use Rattle.datapath.specs.Walks.{IsPartAt, IsWalked}
use Rattle.datapath.proofs.Growth.{part_on}
use Rattle.datapath.proofs.ExpressionParts.{leaves_constant, leaves_read, leaves_one, leaves_two, leaves_three}

at_place : (b : Netlist) (w : Walked) (e : Tree) (reads : List (Ty × Net)) (bits : List Net) (m n j k : ℕ) → m ≡ n → j ≡ k → IsWalked b w e reads bits m j → IsWalked b w e reads bits n k
at_place b w e reads bits m n j k p q h =
    let P : ℕ → Type 0 = λ i. IsWalked b w e reads bits i j in
    let Q : ℕ → Type 0 = λ i. IsWalked b w e reads bits n i in
    subst Q q (subst P p h)

module _ (whole : Tree) (reads : List (Ty × Net)) (bits : List Net) (n k : ℕ) where
  walked_as : (b : Netlist) (w : Walked) (e : Tree) → whole ≡ e → IsWalked b w e reads bits n k → IsWalked b w whole reads bits n k
  walked_as b w e is h = let P : Tree → Type 0 = λ g. IsWalked b w g reads bits n k in subst P (sym is) h

  constant_walked : (b : Netlist) (x : Operand) (v : ℤ) (t : Ty) → whole ≡ constant v t → Carries b x t (λ s. v) → IsMadeOver b 0 x.bits [] → IsWalked b (record { operand = x; after = record { read = n; bit = k } }) whole reads bits n k
  constant_walked b x v t is h made = walked_as b _ (constant v t) is (record { carries = h; made = leaves_constant made; read = omega arith; bit = omega arith })

  pub literal_walked : (b : Netlist) (x : Operand) (v u : ℤ) (t : Ty) → whole ≡ constant v t → u ≡ v → Carries b x t (λ s. u) → IsMadeOver b 0 x.bits [] → IsWalked b (record { operand = x; after = record { read = n; bit = k } }) whole reads bits n k
  literal_walked b x v u t is e h made = constant_walked b x v t is (let P : ℤ → Type 0 = λ z. Carries b x t (λ s. z) in subst P e h) made

  pub read_walked : (b : Netlist) (leaf : Ty × Net) (m : ℕ) (edge : Edge) (g : ℕ) (dx dy : ℤ) → whole ≡ read edge g dx dy → m ≡ n + 1 → LeavesAreOperands b reads bits → slice_get reads n ≡ Some leaf →
      IsWalked b (record { operand = record { bits = signal.Net leaf.1; ty = leaf.0 }; after = record { read = m; bit = k } }) whole reads bits n k
  read_walked b leaf m edge g dx dy is step leaves e = walked_as b _ (read edge g dx dy) is (record {
    carries = record {
      is = sym (ap type_or e);
      operand = leaves.operand n leaf e;
      value = λ m s more holds. sym (ap (worth_or s) e);
    };
    made = leaves_read b n leaf e;
    read = step;
    bit = omega arith;
  })

  pub shifted_walked : (b c : Netlist) (w : Walked) (x : Operand) (edge : Edge) (dx dy : ℤ) (e : Tree) (m j : ℕ) → whole ≡ shifted edge dx dy e → IsPartOf b c → m ≡ n → j ≡ k + edge_bits edge → IsWalked b w e reads bits m j →
      Carries c x w.operand.ty (λ s. edged edge (set_in s bits k) (worth s w.operand)) → IsMadeOfLeaves c (edge_levels edge + logic_levels e) x.bits reads bits → IsWalked c (record { operand = x; after = w.after }) whole reads bits n k
  shifted_walked b c w x edge dx dy e m j is bc here step inner h made =
      let below = at_place b w e reads bits m n j (k + edge_bits edge) here step inner in
      let bit_is = below.bit in
      walked_as c _ (shifted edge dx dy e) is (record {
        carries = record {
          is = h.is ∙ below.carries.is;
          operand = h.operand;
          value = λ m s more holds. h.value m s more holds ∙ ap (edged edge (set_in s bits k)) (below.carries.value m s (part_on b c m bc more) holds);
        };
        made = made;
        read = below.read;
        bit = omega (arith, bit_is);
      })

  pub unary_walked : (b c : Netlist) (w : Walked) (x : Operand) (o : Unary) (e : Tree) → whole ≡ unary o e → IsPartOf b c → IsWalked b w e reads bits n k →
      Carries c x (unary_result o w.operand.ty) (λ s. unary_value o (worth s w.operand)) → IsMadeOver c (unary_levels o) x.bits (w.operand.bits ∷ []) → IsWalked c (record { operand = x; after = w.after }) whole reads bits n k
  unary_walked b c w x o e is bc inner h made = walked_as c _ (unary o e) is (record {
    carries = record {
      is = h.is ∙ ap (unary_result o) inner.carries.is;
      operand = h.operand;
      value = λ m s more holds. h.value m s more holds ∙ ap (unary_value o) (inner.carries.value m s (part_on b c m bc more) holds);
    };
    made = leaves_one bc made inner.made;
    read = inner.read;
    bit = inner.bit;
  })

  pub convert_walked : (b c : Netlist) (w : Walked) (x : Operand) (how : Conversion) (e : Tree) (t : Ty) → whole ≡ convert how e t → IsPartOf b c → IsWalked b w e reads bits n k →
      Carries c x t (λ s. conversion_value how t (worth s w.operand)) → IsMadeOver c (conversion_levels how) x.bits (w.operand.bits ∷ []) → IsWalked c (record { operand = x; after = w.after }) whole reads bits n k
  convert_walked b c w x how e t is bc inner h made = walked_as c _ (convert how e t) is (record {
    carries = record {
      is = h.is;
      operand = h.operand;
      value = λ m s more holds. h.value m s more holds ∙ ap (conversion_value how t) (inner.carries.value m s (part_on b c m bc more) holds);
    };
    made = leaves_one bc made inner.made;
    read = inner.read;
    bit = inner.bit;
  })

  pub scale_walked : (b c : Netlist) (w : Walked) (x : Operand) (o : Scaling) (e : Tree) (by : ℕ) → whole ≡ scale o e by → IsPartOf b c → IsWalked b w e reads bits n k →
      Carries c x (scaling_result o w.operand.ty by) (λ s. scaling_value o (worth s w.operand) by) → IsMadeOver c (scaling_levels o by) x.bits (w.operand.bits ∷ []) → IsWalked c (record { operand = x; after = w.after }) whole reads bits n k
  scale_walked b c w x o e by is bc inner h made = walked_as c _ (scale o e by) is (record {
    carries = record {
      is = h.is ∙ ap (λ t. scaling_result o t by) inner.carries.is;
      operand = h.operand;
      value = λ m s more holds. h.value m s more holds ∙ ap (λ v. scaling_value o v by) (inner.carries.value m s (part_on b c m bc more) holds);
    };
    made = leaves_one bc made inner.made;
    read = inner.read;
    bit = inner.bit;
  })

  pub binary_walked : (b c d : Netlist) (w v : Walked) (x : Operand) (o : Binary) (e f : Tree) → whole ≡ binary o e f → IsPartOf b c → IsPartOf c d → IsWalked b w e reads bits n k → IsWalked c v f reads bits w.after.read w.after.bit →
      Carries d x (binary_result o w.operand.ty v.operand.ty) (λ s. binary_value o (worth s w.operand) (worth s v.operand)) → IsMadeOver d (binary_levels o) x.bits (w.operand.bits ∷ (v.operand.bits ∷ [])) → IsWalked d (record { operand = x; after = v.after }) whole reads bits n k
  binary_walked b c d w v x o e f is bc cd left right h made =
      let there = at_place c v f reads bits w.after.read (n + reads_in e) w.after.bit (k + bits_in e) left.read left.bit right in
      let r = there.read in let t = there.bit in
      walked_as d _ (binary o e f) is (record {
        carries = record {
          is = h.is ∙ ap (λ t. binary_result o t v.operand.ty) left.carries.is ∙ ap (λ t. binary_result o (type_of e (types_in reads) n) t) there.carries.is;
          operand = h.operand;
          value = λ later s more holds.
              let from_c = part_on c d later cd more in
              h.value later s more holds ∙ ap (λ z. binary_value o z (worth s v.operand)) (left.carries.value later s (part_on b c later bc from_c) holds) ∙
              ap (λ z. binary_value o (leaf_value e (worth_in s reads) (set_in s bits) n k) z) (there.carries.value later s from_c holds);
        };
        made = leaves_two bc cd made left.made right.made;
        read = omega (arith, r);
        bit = omega (arith, t);
      })

  pub select_walked : (a b c d : Netlist) (u w v : Walked) (x : Operand) (g e f : Tree) → whole ≡ select g e f → IsPartOf a b → IsPartOf b c → IsPartOf c d →
      IsWalked a u g reads bits n k → IsWalked b w e reads bits u.after.read u.after.bit → IsWalked c v f reads bits w.after.read w.after.bit →
      Carries d x (common_type w.operand.ty v.operand.ty) (λ s. select_value (worth s u.operand) (worth s w.operand) (worth s v.operand)) → IsMadeOver d select_levels x.bits (u.operand.bits ∷ (w.operand.bits ∷ (v.operand.bits ∷ []))) →
      IsWalked d (record { operand = x; after = v.after }) whole reads bits n k
  select_walked a b c d u w v x g e f is ab bc cd condition left right h made =
      let first = at_place b w e reads bits u.after.read (n + reads_in g) u.after.bit (k + bits_in g) condition.read condition.bit left in
      let second = at_place c v f reads bits w.after.read (n + reads_in g + reads_in e) w.after.bit (k + bits_in g + bits_in e) first.read first.bit right in
      let r = second.read in let t = second.bit in
      walked_as d _ (select g e f) is (record {
        carries = record {
          is = h.is ∙ ap (λ t. common_type t v.operand.ty) first.carries.is ∙ ap (λ t. common_type (type_of e (types_in reads) (n + reads_in g)) t) second.carries.is;
          operand = h.operand;
          value = λ later s more holds.
              let from_c = part_on c d later cd more in
              let from_b = part_on b c later bc from_c in
              h.value later s more holds ∙ ap (λ z. select_value z (worth s w.operand) (worth s v.operand)) (condition.carries.value later s (part_on a b later ab from_b) holds) ∙
              ap (λ z. select_value (leaf_value g (worth_in s reads) (set_in s bits) n k) z (worth s v.operand)) (first.carries.value later s from_b holds) ∙
              ap (λ z. select_value (leaf_value g (worth_in s reads) (set_in s bits) n k) (leaf_value e (worth_in s reads) (set_in s bits) (n + reads_in g) (k + bits_in g)) z) (second.carries.value later s from_c holds);
        };
        made = leaves_three ab bc cd made condition.made left.made right.made;
        read = omega (arith, r);
        bit = omega (arith, t);
      })

-- a shifted part with its bit, and a clamped one
pub gate_carries : (b c : Netlist) (x r : Operand) (n : Net) (edge : Edge) (bits : List Net) (k : ℕ) → edge ≡ Zero → slice_get bits k ≡ Some n → Carries c r x.ty (λ s. if nat_eq (net_value s n) 1 then worth s x else pos 0) →
    Carries c r x.ty (λ s. edged edge (set_in s bits k) (worth s x))
gate_carries b c x r n edge bits k zero at_k h = record {
  is = h.is;
  operand = h.operand;
  value = λ m s more holds. h.value m s more holds ∙ ap (λ t. if t then worth s x else pos 0) (sym (ap (is_set s) at_k)) ∙ sym (ap (λ i. edged i (set_in s bits k) (worth s x)) zero);
}

pub clamped_carries : (b : Netlist) (x : Operand) (edge : Edge) (bits : List Net) (k : ℕ) → edge ≡ Clamp → IsOperand b x → Carries b x x.ty (λ s. edged edge (set_in s bits k) (worth s x))
clamped_carries b x edge bits k clamp h = record {
  is = refl;
  operand = h;
  value = λ m s more holds. sym (ap (λ i. edged i (set_in s bits k) (worth s x)) clamp);
}

-- the whole, whose leaves are all there are
pub whole_part : (e : Tree) (reads : List (Ty × Net)) (bits : List Net) → HasLeaves e reads bits → IsPartAt e reads bits 0 0
whole_part e reads bits h =
    let r = h.reads_are in let b = h.bits_are in
    record { typed = h.typed; reads_stand = omega (arith, r); bits_stand = omega (arith, b) }

-- the lists of leaves under other names
pub leaves_as : (b : Netlist) (rs reads : List (Ty × Net)) (bs bits : List Net) → rs ≡ reads → bs ≡ bits → LeavesAreOperands b reads bits → LeavesAreOperands b rs bs
leaves_as b rs reads bs bits e f h = subst (λ (l : List (Ty × Net)). LeavesAreOperands b l bs) (sym e) (subst (λ (l : List Net). LeavesAreOperands b reads l) (sym f) h)

pub part_as : (e : Tree) (rs reads : List (Ty × Net)) (bs bits : List Net) → rs ≡ reads → bs ≡ bits → IsPartAt e reads bits 0 0 → IsPartAt e rs bs 0 0
part_as e rs reads bs bits p q h = subst (λ (l : List (Ty × Net)). IsPartAt e l bs 0 0) (sym p) (subst (λ (l : List Net). IsPartAt e reads l 0 0) (sym q) h)

pub walked_over : (b : Netlist) (w : Walked) (e : Tree) (rs reads : List (Ty × Net)) (bs bits : List Net) → rs ≡ reads → bs ≡ bits → IsWalked b w e rs bs 0 0 → IsWalked b w e reads bits 0 0
walked_over b w e rs reads bs bits p q h = subst (λ (l : List Net). IsWalked b w e reads l 0 0) q (subst (λ (l : List (Ty × Net)). IsWalked b w e l bs 0 0) p h)
