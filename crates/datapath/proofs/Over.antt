-- Of what nets and constants are made, and with how many operators on a path.
use Rattle.std.proofs.Common.{ℕ, ◌+◌, ◌≤◌, ◌≡◌, Bool, List, [], ◌∷◌, ◌++◌, subst, sym, arith}
use Rattle.std.specs.Prelude.{All}
use Rattle.std.proofs.lemmas.List.Elements.{All-nil, All-cons, All-append}
use Rattle.wiring.specs.declared.right.Atom.{Atom}
use Rattle.wiring.specs.declared.right.Operator.{Operator}
use Rattle.wiring.specs.declared.right.Right.TheVariants.{Copy, Not, Binary, Choose, Join, Repeat, Slice}
use Rattle.wiring.specs.declared.netlist.Net.{Net}
use Rattle.wiring.specs.declared.netlist.Holder.{Holder}
use Rattle.wiring.specs.declared.netlist.Holder.TheVariants.{OfNet}
use Rattle.wiring.specs.BufferBits.{atom_reads}
use Rattle.wiring.specs.Netlist.{Netlist}
use Rattle.net_build.specs.Depth.{IsWithin}
use Rattle.net_build.proofs.Depth.{within_deeper}
use Rattle.datapath.specs.declared.operand.Signal.{Signal}
use Rattle.datapath.specs.declared.operand.Signal.TheVariants as signal
use Rattle.datapath.specs.Nets.{IsPartOf, IsMade, IsMadeOver, IsLimited, IsNetOf, atom_of}
use Rattle.datapath.proofs.Growth.{part_on}

-- with more operators too
pub made_deeper : (m : Netlist) (base : Holder → Bool) {j n : ℕ} (x : Signal) → j ≤ n → IsMade m base j x → IsMade m base n x
made_deeper m base (signal.Net x) le is = within_deeper le is
made_deeper m base (signal.Constant w v) le is = tt

pub over_deeper : {b : Netlist} {i j : ℕ} {r : Signal} {xs : List Signal} → i ≤ j → IsMadeOver b i r xs → IsMadeOver b j r xs
over_deeper {b} {i} {j} {r} le h = record { made = λ m base n more is. made_deeper m base r (let g : i + n ≤ j + n = omega (arith, le) in g) (h.made m base n more is) }

pub over_later : {a b : Netlist} {k : ℕ} {r : Signal} {xs : List Signal} → IsPartOf a b → IsMadeOver a k r xs → IsMadeOver b k r xs
over_later {a} {b} ab h = record { made = λ m base n more is. h.made m base n (part_on a b m ab more) is }

pub itself_over : {b : Netlist} {k : ℕ} {x : Signal} → IsMadeOver b k x (x ∷ [])
itself_over {b} {k} {x} = record { made = λ m base n more is. made_deeper m base x (omega arith) is.0 }

pub same_over : (b : Netlist) (k : ℕ) (x y : Signal) → x ≡ y → IsMadeOver b k y (x ∷ [])
same_over b k x y e = record { made = λ m base n more is. made_deeper m base y (omega arith) (subst (IsMade m base n) e is.0) }

pub first_over : {b : Netlist} {k : ℕ} {x y : Signal} → IsMadeOver b k x (x ∷ (y ∷ []))
first_over {b} {k} {x} = record { made = λ m base n more is. made_deeper m base x (omega arith) is.0 }

pub second_over : {b : Netlist} {k : ℕ} {x y : Signal} → IsMadeOver b k y (x ∷ (y ∷ []))
second_over {b} {k} {x} {y} = record { made = λ m base n more is. made_deeper m base y (omega arith) is.1.0 }

pub middle_over : {b : Netlist} {k : ℕ} {c x y : Signal} → IsMadeOver b k x (c ∷ (x ∷ (y ∷ [])))
middle_over {b} {k} {c} {x} = record { made = λ m base n more is. made_deeper m base x (omega arith) is.1.0 }

pub last_over : {b : Netlist} {k : ℕ} {c x y : Signal} → IsMadeOver b k y (c ∷ (x ∷ (y ∷ [])))
last_over {b} {k} {c} {x} {y} = record { made = λ m base n more is. made_deeper m base y (omega arith) is.1.1.0 }

pub nothing_over : {b : Netlist} {k : ℕ} {r : Signal} {xs : List Signal} → IsMadeOver b 0 r [] → IsMadeOver b k r xs
nothing_over {b} {k} {r} h = record { made = λ m base n more is. made_deeper m base r (omega arith) (h.made m base n more tt) }

pub constant_over : (b : Netlist) {w v : ℕ} → IsMadeOver b 0 (signal.Constant w v) []
constant_over b = record { made = λ m base n more is. tt }

-- one thing after another
pub then_one : {b : Netlist} {i : ℕ} (j : ℕ) {p r : Signal} {xs : List Signal} → IsMadeOver b i r (p ∷ []) → IsMadeOver b j p xs → IsMadeOver b (i + j) r xs
then_one {b} {i} j {p} {r} h f = record { made = λ m base n more is. made_deeper m base r (omega arith) (h.made m base (j + n) more (f.made m base n more is, tt)) }

pub then_two : {b : Netlist} {i : ℕ} (j : ℕ) {p q r : Signal} {xs : List Signal} → IsMadeOver b i r (p ∷ (q ∷ [])) → IsMadeOver b j p xs → IsMadeOver b j q xs → IsMadeOver b (i + j) r xs
then_two {b} {i} j {p} {q} {r} h f g = record { made = λ m base n more is. made_deeper m base r (omega arith) (h.made m base (j + n) more (f.made m base n more is, (g.made m base n more is, tt))) }

pub then_three : {b : Netlist} {i : ℕ} (j : ℕ) {o p q r : Signal} {xs : List Signal} → IsMadeOver b i r (o ∷ (p ∷ (q ∷ []))) → IsMadeOver b j o xs → IsMadeOver b j p xs → IsMadeOver b j q xs → IsMadeOver b (i + j) r xs
then_three {b} {i} j {o} {p} {q} {r} h e f g = record { made = λ m base n more is. made_deeper m base r (omega arith) (h.made m base (j + n) more (e.made m base n more is, (f.made m base n more is, (g.made m base n more is, tt)))) }

-- two operands, each brought to a width
pub two_over : {b c d : Netlist} {i : ℕ} (j : ℕ) {x y p q r : Signal} → IsPartOf b c → IsPartOf c d → IsMadeOver b j p (x ∷ []) → IsMadeOver c j q (y ∷ []) → IsMadeOver d i r (p ∷ (q ∷ [])) → IsMadeOver d (i + j) r (x ∷ (y ∷ []))
two_over {b} {c} {d} {i} j {x} {y} {p} {q} {r} bc cd f g h = record {
  made = λ m base n more is.
      let on = part_on c d m cd more in
      made_deeper m base r (omega arith) (h.made m base (j + n) more (f.made m base n (part_on b c m bc on) (is.0, tt), (g.made m base n on (is.1.0, tt), tt)));
}

pub three_over : {b c d : Netlist} {i : ℕ} (j : ℕ) {o x y p q r : Signal} → IsPartOf b c → IsPartOf c d → IsMadeOver b j p (x ∷ []) → IsMadeOver c j q (y ∷ []) → IsMadeOver d i r (o ∷ (p ∷ (q ∷ []))) → IsMadeOver d (i + j) r (o ∷ (x ∷ (y ∷ [])))
three_over {b} {c} {d} {i} j {o} {x} {y} {p} {q} {r} bc cd f g h = record {
  made = λ m base n more is.
      let on = part_on c d m cd more in
      made_deeper m base r (omega arith) (h.made m base (j + n) more (made_deeper m base o (omega arith) is.0, (f.made m base n (part_on b c m bc on) (is.1.0, tt), (g.made m base n on (is.1.1.0, tt), tt))));
}

-- bits that are not limited
pub unlimited : (b : Netlist) (x bits : Signal) → IsLimited b x bits bits
unlimited b x bits = record { test = x; tested = itself_over; limited = second_over }

-- what an operand in a right side reads
reads_made : (m : Netlist) (base : Holder → Bool) (n : ℕ) (x : Signal) (p : Atom Net) → p ≡ atom_of x → IsMade m base n x → All (IsWithin m base n) (atom_reads p)
reads_made m base n x p e is = subst (λ (a : Atom Net). All (IsWithin m base n) (atom_reads a)) (sym e) (of x is)
  where
    of : (y : Signal) → IsMade m base n y → All (IsWithin m base n) (atom_reads (atom_of y))
    of (signal.Net x) h = All-cons (IsWithin m base n) (OfNet x) [] h (All-nil (IsWithin m base n))
    of (signal.Constant w v) h = All-nil (IsWithin m base n)

both_made : (m : Netlist) (base : Holder → Bool) (n : ℕ) (x y : Signal) (p q : Atom Net) → p ≡ atom_of x → q ≡ atom_of y → IsMade m base n x → IsMade m base n y → All (IsWithin m base n) (atom_reads p ++ atom_reads q)
both_made m base n x y p q e f hx hy = All-append (IsWithin m base n) (atom_reads p) (atom_reads q) (reads_made m base n x p e hx) (reads_made m base n y q f hy)

-- right sides over operands
module _ (a b : Netlist) (n : Net) where
  pub binary_over : (o : Operator) (x y : Signal) (p q : Atom Net) → p ≡ atom_of x → q ≡ atom_of y → IsNetOf a b (Binary o p q) n → IsMadeOver b 1 (signal.Net n) (x ∷ (y ∷ []))
  binary_over o x y p q e f h = record { made = λ m base j more is. h.within m base j more (both_made m base j x y p q e f is.0 is.1.0) }

  pub join_over : (x y : Signal) (p q : Atom Net) → p ≡ atom_of x → q ≡ atom_of y → IsNetOf a b (Join p q) n → IsMadeOver b 0 (signal.Net n) (x ∷ (y ∷ []))
  join_over x y p q e f h = record { made = λ m base j more is. h.within m base j more (both_made m base j x y p q e f is.0 is.1.0) }

  pub choose_over : (c x y : Signal) (o p q : Atom Net) → o ≡ atom_of c → p ≡ atom_of x → q ≡ atom_of y → IsNetOf a b (Choose o p q) n → IsMadeOver b 1 (signal.Net n) (c ∷ (x ∷ (y ∷ [])))
  choose_over c x y o p q d e f h = record {
    made = λ m base j more is. h.within m base j more (All-append (IsWithin m base j) (atom_reads o ++ atom_reads p) (atom_reads q) (both_made m base j c x o p d e is.0 is.1.0) (reads_made m base j y q f is.1.1.0));
  }

  pub repeat_over : (x : Signal) (p : Atom Net) (k : ℕ) → p ≡ atom_of x → IsNetOf a b (Repeat k p) n → IsMadeOver b 0 (signal.Net n) (x ∷ [])
  repeat_over x p k e h = record { made = λ m base j more is. h.within m base j more (reads_made m base j x p e is.0) }

  pub not_over : (x : Signal) (p : Atom Net) → p ≡ atom_of x → IsNetOf a b (Not p) n → IsMadeOver b 1 (signal.Net n) (x ∷ [])
  not_over x p e h = record { made = λ m base j more is. h.within m base j more (reads_made m base j x p e is.0) }

  pub copy_over : (x : Signal) (p : Atom Net) → p ≡ atom_of x → IsNetOf a b (Copy p) n → IsMadeOver b 0 (signal.Net n) (x ∷ [])
  copy_over x p e h = record { made = λ m base j more is. h.within m base j more (reads_made m base j x p e is.0) }

  pub slice_over : (x : Net) (top low : ℕ) → IsNetOf a b (Slice x top low) n → IsMadeOver b 0 (signal.Net n) (signal.Net x ∷ [])
  slice_over x top low h = record { made = λ m base j more is. h.within m base j more (All-cons (IsWithin m base j) (OfNet x) [] is.0 (All-nil (IsWithin m base j))) }
