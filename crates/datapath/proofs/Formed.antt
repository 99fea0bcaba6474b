-- The forms of an expression without where they lie in memory, and their parts.
use Rattle.std.proofs.Common.{ℕ, ℤ, ◌≡◌, ◌+◌, ap, refl, sym, ◌∙◌, List}
use Rattle.dk_base.specs.declared.ty.Ty.{Ty}
use Rattle.dk_base.specs.declared.operator.Unary.{Unary}
use Rattle.dk_base.specs.declared.operator.Binary.{Binary}
use Rattle.dk_base.specs.declared.operator.Scaling.{Scaling}
use Rattle.dk_base.specs.declared.operator.Conversion.{Conversion}
use Rattle.wiring.specs.declared.netlist.Net.{Net}
use Rattle.wiring.specs.Netlist.{Netlist}
use Rattle.pointwise_ir.specs.declared.expr.Edge.{Edge}
use Rattle.pointwise_ir.specs.declared.expr.Expr.{Expr}
use Rattle.pointwise_ir.specs.declared.expr.Expr.TheVariants.{Shifted', Unary', Binary', Select', Convert', Scale'}
use Rattle.pointwise_ir.specs.Trees.{tree_of, shifted, unary, binary, select, convert, scale}
use Rattle.datapath.specs.declared.lowering.Place.{Place}
use Rattle.datapath.specs.declared.lowering.Walked.{Walked}
use Rattle.datapath.specs.Expressions.{edge_bits}
use Rattle.datapath.specs.Walks.{IsPartAt, IsWalked}
use Rattle.datapath.proofs.Gates.{leaves_later}
use Rattle.datapath.proofs.ExpressionParts.{shifted_part, unary_part, convert_part, scale_part, left_part, right_part, condition_part, chosen_part, other_part}

pub shifted_tree : (x : Expr) (edge : Edge) (dx dy : ℤ) (p : _) (a d : Expr) → x ≡ Shifted' edge dx dy p a → d ≡ a → tree_of x ≡ shifted edge dx dy (tree_of d)
shifted_tree x edge dx dy p a d is h = ap tree_of is ∙ sym (ap (λ e. shifted edge dx dy (tree_of e)) h)

pub unary_tree : (x : Expr) (o : Unary) (p : _) (a d : Expr) → x ≡ Unary' o p a → d ≡ a → tree_of x ≡ unary o (tree_of d)
unary_tree x o p a d is h = ap tree_of is ∙ sym (ap (λ e. unary o (tree_of e)) h)

pub convert_tree : (x : Expr) (how : Conversion) (p : _) (a : Expr) (t : Ty) (d : Expr) → x ≡ Convert' how p a t → d ≡ a → tree_of x ≡ convert how (tree_of d) t
convert_tree x how p a t d is h = ap tree_of is ∙ sym (ap (λ e. convert how (tree_of e) t) h)

pub scale_tree : (x : Expr) (o : Scaling) (p : _) (a : Expr) (by : ℕ) (d : Expr) → x ≡ Scale' o p a by → d ≡ a → tree_of x ≡ scale o (tree_of d) by
scale_tree x o p a by d is h = ap tree_of is ∙ sym (ap (λ e. scale o (tree_of e) by) h)

pub binary_tree : (x : Expr) (o : Binary) (p : _) (a : Expr) (q : _) (b d e : Expr) → x ≡ Binary' o p a q b → d ≡ a → e ≡ b → tree_of x ≡ binary o (tree_of d) (tree_of e)
binary_tree x o p a q b d e is h k = ap tree_of is ∙ sym (ap (λ i. binary o (tree_of i) (tree_of b)) h) ∙ sym (ap (λ i. binary o (tree_of d) (tree_of i)) k)

pub select_tree : (x : Expr) (p : _) (c : Expr) (q : _) (a : Expr) (r : _) (b f d e : Expr) → x ≡ Select' p c q a r b → f ≡ c → d ≡ a → e ≡ b → tree_of x ≡ select (tree_of f) (tree_of d) (tree_of e)
select_tree x p c q a r b f d e is g h k = ap tree_of is ∙ sym (ap (λ i. select (tree_of i) (tree_of a) (tree_of b)) g) ∙ sym (ap (λ i. select (tree_of f) (tree_of i) (tree_of b)) h) ∙ sym (ap (λ i. select (tree_of f) (tree_of d) (tree_of i)) k)

-- what a call for a part needs
module _ (x : Expr) (reads : List (Ty × Net)) (bits : List Net) (n k : ℕ) where
  pub shifted_sub : (edge : Edge) (dx dy : ℤ) (p : _) (a d : Expr) (at : Place) → x ≡ Shifted' edge dx dy p a → d ≡ a → at.read ≡ n → at.bit ≡ k + edge_bits edge → IsPartAt (tree_of x) reads bits n k → IsPartAt (tree_of d) reads bits at.read at.bit
  shifted_sub edge dx dy p a d at is h here step part = shifted_part (tree_of x) reads bits n k part edge dx dy (tree_of d) at.read at.bit (shifted_tree x edge dx dy p a d is h) here step

  pub unary_sub : (o : Unary) (p : _) (a d : Expr) → x ≡ Unary' o p a → d ≡ a → IsPartAt (tree_of x) reads bits n k → IsPartAt (tree_of d) reads bits n k
  unary_sub o p a d is h part = unary_part (tree_of x) reads bits n k part o (tree_of d) (unary_tree x o p a d is h)

  pub convert_sub : (how : Conversion) (p : _) (a : Expr) (t : Ty) (d : Expr) → x ≡ Convert' how p a t → d ≡ a → IsPartAt (tree_of x) reads bits n k → IsPartAt (tree_of d) reads bits n k
  convert_sub how p a t d is h part = convert_part (tree_of x) reads bits n k part how (tree_of d) t (convert_tree x how p a t d is h)

  pub scale_sub : (o : Scaling) (p : _) (a : Expr) (by : ℕ) (d : Expr) → x ≡ Scale' o p a by → d ≡ a → IsPartAt (tree_of x) reads bits n k → IsPartAt (tree_of d) reads bits n k
  scale_sub o p a by d is h part = scale_part (tree_of x) reads bits n k part o (tree_of d) by (scale_tree x o p a by d is h)

  pub left_sub : (o : Binary) (p : _) (a : Expr) (q : _) (b d : Expr) → x ≡ Binary' o p a q b → d ≡ a → IsPartAt (tree_of x) reads bits n k → IsPartAt (tree_of d) reads bits n k
  left_sub o p a q b d is h part = left_part (tree_of x) reads bits n k part o (tree_of d) (tree_of b) (binary_tree x o p a q b d b is h refl)

  pub right_sub : (o : Binary) (p : _) (a : Expr) (q : _) (b d e : Expr) (c : Netlist) (w : Walked) → x ≡ Binary' o p a q b → d ≡ a → e ≡ b → IsWalked c w (tree_of d) reads bits n k → IsPartAt (tree_of x) reads bits n k →
      IsPartAt (tree_of e) reads bits w.after.read w.after.bit
  right_sub o p a q b d e c w is h i left part = right_part (tree_of x) reads bits n k part o (tree_of d) (tree_of e) w.after.read w.after.bit (binary_tree x o p a q b d e is h i) left.read left.bit

  pub condition_sub : (p : _) (c : Expr) (q : _) (a : Expr) (r : _) (b f : Expr) → x ≡ Select' p c q a r b → f ≡ c → IsPartAt (tree_of x) reads bits n k → IsPartAt (tree_of f) reads bits n k
  condition_sub p c q a r b f is h part = condition_part (tree_of x) reads bits n k part (tree_of f) (tree_of a) (tree_of b) (select_tree x p c q a r b f a b is h refl refl)

  pub chosen_sub : (p : _) (c : Expr) (q : _) (a : Expr) (r : _) (b f d : Expr) (m : Netlist) (w : Walked) → x ≡ Select' p c q a r b → f ≡ c → d ≡ a → IsWalked m w (tree_of f) reads bits n k → IsPartAt (tree_of x) reads bits n k →
      IsPartAt (tree_of d) reads bits w.after.read w.after.bit
  chosen_sub p c q a r b f d m w is h i first part = chosen_part (tree_of x) reads bits n k part (tree_of f) (tree_of d) (tree_of b) w.after.read w.after.bit (select_tree x p c q a r b f d b is h i refl) first.read first.bit

  pub other_sub : (p : _) (c : Expr) (q : _) (a : Expr) (r : _) (b f d e : Expr) (m o : Netlist) (w v : Walked) → x ≡ Select' p c q a r b → f ≡ c → d ≡ a → e ≡ b → IsWalked m w (tree_of f) reads bits n k → IsWalked o v (tree_of d) reads bits w.after.read w.after.bit →
      IsPartAt (tree_of x) reads bits n k → IsPartAt (tree_of e) reads bits v.after.read v.after.bit
  other_sub p c q a r b f d e m o w v is h i j first second part =
      other_part (tree_of x) reads bits n k part (tree_of f) (tree_of d) (tree_of e) w.after.read w.after.bit v.after.read v.after.bit (select_tree x p c q a r b f d e is h i j) first.read first.bit second.read second.bit

pub ruleset parts = (leaves_later, shifted_sub, unary_sub, convert_sub, scale_sub, left_sub, right_sub, condition_sub, chosen_sub, other_sub)
