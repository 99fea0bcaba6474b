-- Right sides over operands of a draft.
use Rattle.std.proofs.Common.{◌≡◌, ◌≢◌, ℕ, zero, suc, List, [], ◌∷◌, ◌++◌, refl, sym, subst, ◌∙◌, inl, inr, arith, lit≤, lit<, ap}
use Rattle.std.specs.Option.{option_map}
use Rattle.std.proofs.lemmas.Option.{slice_get_within}
use Rattle.wiring.specs.declared.netlist.Shape.{Shape}
use Rattle.std.specs.Prelude.{slice_get, Some, unwrap_or, Contains, All}
use Rattle.std.proofs.lemmas.List.Elements.{All-nil, All-cons, All-append, Contains-append_cases}
use Rattle.wiring.specs.declared.right.Atom.{Atom}
use Rattle.wiring.specs.declared.right.Atom.TheVariants as atom
use Rattle.wiring.specs.declared.right.Operator.{Operator}
use Rattle.wiring.specs.declared.right.Operator.TheVariants.{Add, Subtract, Multiply, Divide, Less, Equal, And, Or, Xor}
use Rattle.wiring.specs.declared.right.Right.{Right}
use Rattle.wiring.specs.declared.right.Right.TheVariants.{Copy, Not, Binary, Choose, Word}
use Rattle.wiring.specs.declared.netlist.Net.{Net}
use Rattle.wiring.specs.declared.netlist.Net.TheVariants.{Output}
use Rattle.wiring.specs.Sizes.{IsWidth, IsConstant, SizedNumber}
use Rattle.wiring.specs.Rights.{nets_of, atom_nets, atom_constants, operator_width}
use Rattle.wiring.specs.Netlist.{Netlist, net_width, IsDeclared}
use Rattle.wiring.specs.Rules.{DividesByDivisor}
use Rattle.wiring.proofs.Lists.{All-from_contains}
use Rattle.net_build.specs.Includes.{Includes}
use Rattle.net_build.specs.Draft.{IsNet, IsReadable, IsOperation, IsOperand}
use Rattle.net_build.proofs.Grown.{net_more, width_more}

only : (n x : Net) → Contains (n ∷ []) x → n ≡ x
only n x (zero, l, e) = e
only n x (suc k, l, e) = absurd (omega (arith, l))

none : (x : Net) → Contains [] x → ⊥
none x (k, l, e) = absurd (omega (arith, l))

pub net_operand : (b : Netlist) (n : Net) (w : ℕ) → IsNet b n → net_width b n ≡ w → IsOperand b (atom.Net n) w
net_operand b n w is e = record { nets = λ x c. subst (IsNet b) (only n x c) is; constants = All-nil IsConstant; width_is = e }

pub constant_operand : (b : Netlist) (c : SizedNumber) (w : ℕ) → IsConstant c → c.width ≡ w → IsOperand b (atom.Constant c) w
constant_operand b c w is e = record { nets = λ x h. absurd (none x h); constants = All-cons IsConstant c [] is (All-nil IsConstant); width_is = e }

pub operand_more : (b a : Netlist) (x : Atom Net) (w : ℕ) → Includes b a → IsOperand a x w → IsOperand b x w
operand_more b a (atom.Net n) w f is = net_operand b n w (net_more b a f n (is.nets n (0, lit< tt, refl))) (width_more b a f n (is.nets n (0, lit< tt, refl)).declared ∙ is.width_is)
operand_more b a (atom.Constant c) w f is = record { nets = λ x h. absurd (none x h); constants = is.constants; width_is = is.width_is }

-- each net of a list may go in
abbrev AreNets : Netlist → List Net → Type 0
AreNets b ns = (n : Net) → Contains ns n → IsNet b n

both : (b : Netlist) (ns ms : List Net) → AreNets b ns → AreNets b ms → AreNets b (ns ++ ms)
both b ns ms h g n c = elim (Contains-append_cases ns ms n c) as (λ _. IsNet b n) [ inl l ↦ h n l | inr r ↦ g n r ]

declared : (b : Netlist) (ns : List Net) → AreNets b ns → All (IsDeclared b) ns
declared b ns h = All-from_contains (IsDeclared b) ns (λ n c. (h n c).declared)

readable : (b : Netlist) (r : Right Net ℕ) → AreNets b (nets_of r) → IsReadable r
readable b r h k c = (h (Output k) c).no_output k refl

not_divided : (o : Operator) (x : Atom Net) → o ≢ Divide → DividesByDivisor o x
not_divided Add x h = tt
not_divided Subtract x h = tt
not_divided Multiply x h = tt
not_divided Divide x h = absurd (h refl)
not_divided Less x h = tt
not_divided Equal x h = tt
not_divided And x h = tt
not_divided Or x h = tt
not_divided Xor x h = tt

operator_wide : (o : Operator) (w : ℕ) → IsWidth w → IsWidth (operator_width o w)
operator_wide Add w h = h
operator_wide Subtract w h = h
operator_wide Multiply w h = h
operator_wide Divide w h = h
operator_wide Less w h = (lit≤ tt, lit≤ tt)
operator_wide Equal w h = (lit≤ tt, lit≤ tt)
operator_wide And w h = h
operator_wide Or w h = h
operator_wide Xor w h = h

module _ (b : Netlist) where
  pub copy_operation : (a : Atom Net) (w : ℕ) → IsWidth w → IsOperand b a w → IsOperation b (Copy a)
  copy_operation a w wide h = record {
    sound = record { nets = declared b (atom_nets a) h.nets; constants = h.constants; array = tt; divisor = tt; widths = tt };
    readable = readable b (Copy a) h.nets;
    wide = subst IsWidth (sym h.width_is) wide;
  }

  pub not_operation : (a : Atom Net) (w : ℕ) → IsWidth w → IsOperand b a w → IsOperation b (Not a)
  not_operation a w wide h = record {
    sound = record { nets = declared b (atom_nets a) h.nets; constants = h.constants; array = tt; divisor = tt; widths = tt };
    readable = readable b (Not a) h.nets;
    wide = subst IsWidth (sym h.width_is) wide;
  }

  pub binary_operation : (o : Operator) (a x : Atom Net) (w : ℕ) → o ≢ Divide → IsWidth w → IsOperand b a w → IsOperand b x w → IsOperation b (Binary o a x)
  binary_operation o a x w other wide h g =
      let nets : AreNets b (atom_nets a ++ atom_nets x) = both b (atom_nets a) (atom_nets x) h.nets g.nets in
      record {
        sound = record {
          nets = declared b (atom_nets a ++ atom_nets x) nets;
          constants = All-append IsConstant (atom_constants a) (atom_constants x) h.constants g.constants;
          array = tt;
          divisor = not_divided o x other;
          widths = h.width_is ∙ sym g.width_is;
        };
        readable = readable b (Binary o a x) nets;
        wide = subst (λ (v : ℕ). IsWidth (operator_width o v)) (sym h.width_is) (operator_wide o w wide);
      }

  pub choose_operation : (c a x : Atom Net) (w : ℕ) → IsWidth w → IsOperand b c 1 → IsOperand b a w → IsOperand b x w → IsOperation b (Choose c a x)
  choose_operation c a x w wide i h g =
      let first : AreNets b (atom_nets c ++ atom_nets a) = both b (atom_nets c) (atom_nets a) i.nets h.nets in
      let nets : AreNets b (nets_of (let r : Right Net ℕ = Choose c a x in r)) = both b (atom_nets c ++ atom_nets a) (atom_nets x) first g.nets in
      record {
        sound = record {
          nets = declared b (nets_of (let r : Right Net ℕ = Choose c a x in r)) nets;
          constants = All-append IsConstant (atom_constants c ++ atom_constants a) (atom_constants x) (All-append IsConstant (atom_constants c) (atom_constants a) i.constants h.constants) g.constants;
          array = tt;
          divisor = tt;
          widths = (i.width_is, h.width_is ∙ sym g.width_is);
        };
        readable = readable b (Choose c a x) nets;
        wide = subst IsWidth (sym h.width_is) wide;
      }

  pub word_operation : (m : ℕ) (i : Atom Net) (w : ℕ) (shape : Shape) → slice_get b.arrays m ≡ Some shape → IsWidth shape.width → IsOperand b i w → IsOperation b (Word m i)
  word_operation m i w shape at wide h = record {
    sound = record { nets = declared b (atom_nets i) h.nets; constants = h.constants; array = slice_get_within b.arrays m shape at; divisor = tt; widths = tt };
    readable = readable b (Word m i) h.nets;
    wide = subst IsWidth (sym (ap (λ o. unwrap_or (option_map (λ (s : Shape). s.width) o) 0) at)) wide;
  }
