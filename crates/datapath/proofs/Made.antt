-- What a new net is worth, for each right side over operands of known widths.
use Rattle.std.proofs.Common.{ℕ, ◌≡◌, ◌+◌, ◌-◌, ◌*◌, ◌/◌, ◌%◌, ◌<◌, ◌≤◌, ◌^◌, List, [], ◌∷◌, ◌++◌, nat_eq, if◌then◌else◌, ap, refl, subst, sym, ◌∙◌, arith, inl, inr}
use Rattle.std.specs.Prelude.{All, Contains}
use Rattle.std.proofs.lemmas.List.Elements.{All-nil, All-append, Contains-append_cases}
use Rattle.wiring.specs.declared.right.Atom.{Atom}
use Rattle.wiring.specs.declared.right.Operator.{Operator}
use Rattle.wiring.specs.declared.right.Right.{Right}
use Rattle.wiring.specs.declared.right.Right.TheVariants.{Copy, Not, Binary, Choose, Join, Repeat, Slice}
use Rattle.wiring.specs.declared.netlist.Net.{Net}
use Rattle.wiring.specs.declared.netlist.Net.TheVariants.{Output}
use Rattle.wiring.specs.Sizes.{IsWidth, IsConstant}
use Rattle.wiring.specs.Rights.{nets_of, atom_nets, atom_constants, atom_width, operator_width, operator_value, atom_value, repeated}
use Rattle.wiring.specs.Rules.{DividesByDivisor}
use Rattle.wiring.specs.Netlist.{Netlist, net_width, IsDeclared}
use Rattle.wiring.specs.Snapshot.{Snapshot, net_value}
use Rattle.wiring.proofs.Lists.{All-from_contains}
use Rattle.net_build.specs.Draft.{IsNet, IsReadable, IsOperation, IsOperand as IsAtom}
use Rattle.net_build.proofs.Operands.{operand_more as atom_more, not_operation, copy_operation, choose_operation}
use Rattle.datapath.specs.declared.operand.Signal.{Signal}
use Rattle.datapath.specs.declared.operand.Signal.TheVariants as signal
use Rattle.datapath.specs.Nets.{IsPartOf, HasWidth, IsWord, IsNetOf, bits_of, atom_of}
use Rattle.datapath.proofs.Growth.{part_on}

abbrev AreNets : Netlist → List Net → Type 0
AreNets b ns = (n : Net) → Contains ns n → IsNet b n

both : (b : Netlist) (ns ms : List Net) → AreNets b ns → AreNets b ms → AreNets b (ns ++ ms)
both b ns ms h g n c = elim (Contains-append_cases ns ms n c) as (λ _. IsNet b n) [ inl l ↦ h n l | inr r ↦ g n r ]

declared : (b : Netlist) (ns : List Net) → AreNets b ns → All (IsDeclared b) ns
declared b ns h = All-from_contains (IsDeclared b) ns (λ n c. (h n c).declared)

readable : (b : Netlist) (r : Right Net ℕ) → AreNets b (nets_of r) → IsReadable r
readable b r h k c = (h (Output k) c).no_output k refl

-- the width of an operand, in a later netlist
width_in : (a m : Netlist) (x : Signal) (w : ℕ) → HasWidth a x w → IsPartOf a m → atom_width (net_width m) (atom_of x) ≡ w
width_in a m x w h more = (atom_more m a (atom_of x) w more h.operand).width_is

-- the bits of an operand, as a right side has them
bits_are : (s : Snapshot) (x : Signal) → atom_value (net_value s) (atom_of x) ≡ bits_of s x
bits_are s (signal.Net n) = refl
bits_are s (signal.Constant w v) = refl

-- right sides over operands may go in
module _ (b : Netlist) where
  pub binary_operation : (o : Operator) (x y : Signal) (p q : Atom Net) (w : ℕ) → p ≡ atom_of x → q ≡ atom_of y → IsWidth (operator_width o w) → HasWidth b x w → HasWidth b y w → DividesByDivisor o q → IsOperation b (Binary o p q)
  binary_operation o x y p q w e f wide hx hy divisor =
      let h : IsAtom b p w = subst (λ a. IsAtom b a w) (sym e) hx.operand in
      let g : IsAtom b q w = subst (λ a. IsAtom b a w) (sym f) hy.operand in
      let nets : AreNets b (atom_nets p ++ atom_nets q) = both b (atom_nets p) (atom_nets q) h.nets g.nets in
      record {
        sound = record {
          nets = declared b (atom_nets p ++ atom_nets q) nets;
          constants = All-append IsConstant (atom_constants p) (atom_constants q) h.constants g.constants;
          array = tt;
          divisor = divisor;
          widths = h.width_is ∙ sym g.width_is;
        };
        readable = readable b (Binary o p q) nets;
        wide = subst (λ (v : ℕ). IsWidth (operator_width o v)) (sym h.width_is) wide;
      }

  pub join_operation : (x y : Signal) (p q : Atom Net) (v w : ℕ) → p ≡ atom_of x → q ≡ atom_of y → IsWidth (v + w) → HasWidth b x v → HasWidth b y w → IsOperation b (Join p q)
  join_operation x y p q v w e f wide hx hy =
      let h : IsAtom b p v = subst (λ a. IsAtom b a v) (sym e) hx.operand in
      let g : IsAtom b q w = subst (λ a. IsAtom b a w) (sym f) hy.operand in
      let nets : AreNets b (atom_nets p ++ atom_nets q) = both b (atom_nets p) (atom_nets q) h.nets g.nets in
      record {
        sound = record {
          nets = declared b (atom_nets p ++ atom_nets q) nets;
          constants = All-append IsConstant (atom_constants p) (atom_constants q) h.constants g.constants;
          array = tt;
          divisor = tt;
          widths = tt;
        };
        readable = readable b (Join p q) nets;
        wide = subst IsWidth (sym (ap (λ n. n + atom_width (net_width b) q) h.width_is ∙ ap (λ n. v + n) g.width_is)) wide;
      }

  pub repeat_operation : (x : Signal) (p : Atom Net) (n : ℕ) → p ≡ atom_of x → IsWidth n → HasWidth b x 1 → IsOperation b (Repeat n p)
  repeat_operation x p n e wide hx =
      let h : IsAtom b p 1 = subst (λ a. IsAtom b a 1) (sym e) hx.operand in
      record {
        sound = record { nets = declared b (atom_nets p) h.nets; constants = h.constants; array = tt; divisor = tt; widths = tt };
        readable = readable b (Repeat n p) h.nets;
        wide = subst IsWidth (sym (ap (λ w. n * w) h.width_is ∙ (let k : n * 1 ≡ n = grind arith in k))) wide;
      }

  pub not_is_operation : (x : Signal) (p : Atom Net) (w : ℕ) → p ≡ atom_of x → IsWidth w → HasWidth b x w → IsOperation b (Not p)
  not_is_operation x p w e wide hx = not_operation b p w wide (subst (λ a. IsAtom b a w) (sym e) hx.operand)

  pub copy_is_operation : (x : Signal) (p : Atom Net) (w : ℕ) → p ≡ atom_of x → IsWidth w → HasWidth b x w → IsOperation b (Copy p)
  copy_is_operation x p w e wide hx = copy_operation b p w wide (subst (λ a. IsAtom b a w) (sym e) hx.operand)

  pub choose_is_operation : (c x y : Signal) (o p q : Atom Net) (w : ℕ) → o ≡ atom_of c → p ≡ atom_of x → q ≡ atom_of y → IsWidth w → HasWidth b c 1 → HasWidth b x w → HasWidth b y w → IsOperation b (Choose o p q)
  choose_is_operation c x y o p q w d e f wide hc hx hy =
      choose_operation b o p q w wide (subst (λ a. IsAtom b a 1) (sym d) hc.operand) (subst (λ a. IsAtom b a w) (sym e) hx.operand) (subst (λ a. IsAtom b a w) (sym f) hy.operand)

  pub slice_operation : (n : Net) (low count w top : ℕ) → HasWidth b (signal.Net n) w → w ≤ 64 → 1 ≤ count → low + count ≤ w → count < w → top + 1 ≡ low + count → IsOperation b (Slice n top low)
  slice_operation n low count w top h most some inside proper last =
      let e : net_width b n ≡ w = h.operand.width_is in
      record {
        sound = record {
          nets = declared b (n ∷ []) h.operand.nets;
          constants = All-nil IsConstant;
          array = tt;
          divisor = tt;
          widths = (omega (arith, e, proper, some), omega (arith, last, some), omega (arith, e, last, inside));
        };
        readable = readable b (Slice n top low) h.operand.nets;
        wide = (omega (arith, last), omega (arith, last, inside, most));
      }

-- their values
module _ (a b : Netlist) (n : Net) where
  pub binary_made : (o : Operator) (x y : Signal) (p q : Atom Net) (w : ℕ) → p ≡ atom_of x → q ≡ atom_of y → HasWidth a x w → IsPartOf a b → IsNetOf a b (Binary o p q) n →
      IsWord b (signal.Net n) (operator_width o w) (λ s. operator_value o w (bits_of s x) (bits_of s y))
  binary_made o x y p q w e f h ab made =
      let k : atom_width (net_width a) p ≡ w = ap (atom_width (net_width a)) e ∙ h.operand.width_is in
      record {
        width = subst (λ (v : ℕ). HasWidth b (signal.Net n) (operator_width o v)) k made.width;
        value = λ m s more is.
            made.value m s more is.settled ∙ ap (λ v. operator_value o v (atom_value (net_value s) p) (atom_value (net_value s) q)) (ap (atom_width (net_width m)) e ∙ width_in a m x w h (part_on a b m ab more)) ∙
            ap (λ v. operator_value o w v (atom_value (net_value s) q)) (ap (atom_value (net_value s)) e ∙ bits_are s x) ∙ ap (λ v. operator_value o w (bits_of s x) v) (ap (atom_value (net_value s)) f ∙ bits_are s y);
      }

  pub not_made : (x : Signal) (p : Atom Net) (w : ℕ) → p ≡ atom_of x → HasWidth a x w → IsPartOf a b → IsNetOf a b (Not p) n → IsWord b (signal.Net n) w (λ s. 2 ^ w - 1 - bits_of s x)
  not_made x p w e h ab made = record {
    width = subst (λ (v : ℕ). HasWidth b (signal.Net n) v) (ap (atom_width (net_width a)) e ∙ h.operand.width_is) made.width;
    value = λ m s more is.
        made.value m s more is.settled ∙ ap (λ v. 2 ^ v - 1 - atom_value (net_value s) p) (ap (atom_width (net_width m)) e ∙ width_in a m x w h (part_on a b m ab more)) ∙
        ap (λ v. 2 ^ w - 1 - v) (ap (atom_value (net_value s)) e ∙ bits_are s x);
  }

  pub copy_made : (x : Signal) (p : Atom Net) (w : ℕ) → p ≡ atom_of x → HasWidth a x w → IsNetOf a b (Copy p) n → IsWord b (signal.Net n) w (λ s. bits_of s x)
  copy_made x p w e h made = record {
    width = subst (λ (v : ℕ). HasWidth b (signal.Net n) v) (ap (atom_width (net_width a)) e ∙ h.operand.width_is) made.width;
    value = λ m s more is. made.value m s more is.settled ∙ ap (atom_value (net_value s)) e ∙ bits_are s x;
  }

  pub choose_made : (c x y : Signal) (o p q : Atom Net) (w : ℕ) → o ≡ atom_of c → p ≡ atom_of x → q ≡ atom_of y → HasWidth a x w → IsNetOf a b (Choose o p q) n →
      IsWord b (signal.Net n) w (λ s. if nat_eq (bits_of s c) 1 then bits_of s x else bits_of s y)
  choose_made c x y o p q w d e f h made = record {
    width = subst (λ (v : ℕ). HasWidth b (signal.Net n) v) (ap (atom_width (net_width a)) e ∙ h.operand.width_is) made.width;
    value = λ m s more is.
        made.value m s more is.settled ∙ ap (λ v. if nat_eq v 1 then atom_value (net_value s) p else atom_value (net_value s) q) (ap (atom_value (net_value s)) d ∙ bits_are s c) ∙
        ap (λ v. if nat_eq (bits_of s c) 1 then v else atom_value (net_value s) q) (ap (atom_value (net_value s)) e ∙ bits_are s x) ∙
        ap (λ v. if nat_eq (bits_of s c) 1 then bits_of s x else v) (ap (atom_value (net_value s)) f ∙ bits_are s y);
  }

  pub join_made : (x y : Signal) (p q : Atom Net) (v w : ℕ) → p ≡ atom_of x → q ≡ atom_of y → HasWidth a x v → HasWidth a y w → IsPartOf a b → IsNetOf a b (Join p q) n →
      IsWord b (signal.Net n) (v + w) (λ s. bits_of s x * 2 ^ w + bits_of s y)
  join_made x y p q v w e f h g ab made = record {
    width = subst (λ (k : ℕ). HasWidth b (signal.Net n) k) (ap (λ k. k + atom_width (net_width a) q) (ap (atom_width (net_width a)) e ∙ h.operand.width_is) ∙ ap (λ k. v + k) (ap (atom_width (net_width a)) f ∙ g.operand.width_is)) made.width;
    value = λ m s more is.
        made.value m s more is.settled ∙ ap (λ k. atom_value (net_value s) p * 2 ^ k + atom_value (net_value s) q) (ap (atom_width (net_width m)) f ∙ width_in a m y w g (part_on a b m ab more)) ∙
        ap (λ k. k * 2 ^ w + atom_value (net_value s) q) (ap (atom_value (net_value s)) e ∙ bits_are s x) ∙ ap (λ k. bits_of s x * 2 ^ w + k) (ap (atom_value (net_value s)) f ∙ bits_are s y);
  }

  pub repeat_made : (x : Signal) (p : Atom Net) (k : ℕ) → p ≡ atom_of x → HasWidth a x 1 → IsPartOf a b → IsNetOf a b (Repeat k p) n → IsWord b (signal.Net n) k (λ s. repeated k 1 (bits_of s x))
  repeat_made x p k e h ab made = record {
    width = subst (λ (v : ℕ). HasWidth b (signal.Net n) v) (ap (λ w. k * w) (ap (atom_width (net_width a)) e ∙ h.operand.width_is) ∙ (let i : k * 1 ≡ k = grind arith in i)) made.width;
    value = λ m s more is.
        made.value m s more is.settled ∙ ap (λ v. repeated k v (atom_value (net_value s) p)) (ap (atom_width (net_width m)) e ∙ width_in a m x 1 h (part_on a b m ab more)) ∙
        ap (λ v. repeated k 1 v) (ap (atom_value (net_value s)) e ∙ bits_are s x);
  }

  pub slice_made : (x : Net) (low count top : ℕ) → top + 1 ≡ low + count → 1 ≤ count → IsNetOf a b (Slice x top low) n → IsWord b (signal.Net n) count (λ s. bits_of s (signal.Net x) / 2 ^ low % 2 ^ count)
  slice_made x low count top last some made =
      let e : top - low + 1 ≡ count = omega (arith, last, some) in
      record {
        width = subst (λ (v : ℕ). HasWidth b (signal.Net n) v) e made.width;
        value = λ m s more is. made.value m s more is.settled ∙ ap (λ k. net_value s x / 2 ^ low % 2 ^ k) e;
      }
