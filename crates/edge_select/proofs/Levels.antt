-- Logic depth of what the counters and the registers of tests take.
use Rattle.std.proofs.Common.{◌∙◌, ◌≡◌, ℕ, zero, suc, ◌≤◌, ◌+◌, Bool, true, false, List, [], ◌∷◌, ◌++◌, Option, None, Some, refl, sym, subst, inl, inr, arith}
use Rattle.std.specs.Prelude.{IsTrue, IfSome, Contains}
use Rattle.std.specs.Option.{option_to_list}
use Rattle.std.proofs.lemmas.List.Elements.{Contains-append_left, Contains-append_right, Contains-append_cases}
use Rattle.wiring.specs.Sizes.{SizedNumber}
use Rattle.wiring.specs.declared.right.Atom.{Atom}
use Rattle.wiring.specs.declared.right.Atom.TheVariants as atom
use Rattle.wiring.specs.declared.right.Operator.{Operator}
use Rattle.wiring.specs.declared.right.Operator.TheVariants.{And}
use Rattle.wiring.specs.declared.right.Right.TheVariants.{Binary, Choose}
use Rattle.wiring.specs.declared.netlist.Net.{Net}
use Rattle.wiring.specs.declared.netlist.Net.TheVariants.{Reg}
use Rattle.wiring.specs.declared.netlist.Holder.{Holder}
use Rattle.wiring.specs.declared.netlist.Holder.TheVariants.{OfNet}
use Rattle.wiring.specs.Netlist.{Netlist, reset_net}
use Rattle.net_build.specs.Includes.{Includes}
use Rattle.net_build.specs.Control.{is_control}
use Rattle.net_build.specs.Counters.{control_nets, start_levels}
use Rattle.net_build.specs.Depth.{IsWithin, AreWithin, IsOver, by_itself, is_start, hold_levels, control_levels}
use Rattle.net_build.specs.Logic.{IsGate}
use Rattle.net_build.proofs.Depth.{within_more, within_deeper, within_net, within_constant}
use Rattle.net_build.proofs.Levels.{atom_deeper, given_within, binary_within, choose_within, choice_nets, choice_within, single_within, few_held, starts_at, register_starts}
use Rattle.net_build.proofs.Logic.{AreIn, first_in, second_in}
use Rattle.net_build.proofs.Parts.{Includes-refl, Includes-trans}
use Rattle.edge_select.specs.declared.pixel.Pixel.{Pixel}
use Rattle.edge_select.specs.Counters.{pixel_nets}
use Rattle.edge_select.specs.FrameTests.{band_levels, sources}
use Rattle.edge_select.proofs.Depth.{none_within, one_within, two_within}

pub over_deeper : (new old : Netlist) (i j : ℕ) (from : List Net) (n : Net) → i ≤ j → IsOver new old i from n → IsOver new old j from n
over_deeper new old i j from n le is base k all = within_deeper (omega (arith, le)) (is base k all)

-- of more nets, in a netlist that grows
pub over_among : (c b old : Netlist) (k : ℕ) (from via : List Net) (n : Net) → AreIn from via → Includes c b → IsOver b old k via n → IsOver c old k from n
over_among c b old k from via n among f is base j all = within_more c b base f (is base j (λ x h. all x (among x h)))

-- a coordinate and a number, compared
pub compared_over : (b1 b0 : Netlist) (o : Operator) (x n : Net) (a : Atom Net) (number : SizedNumber) → Includes b1 b0 → a ≡ atom.Constant number → IsGate b1 b0 (Binary o (atom.Net x) a) n → IsOver b1 b0 1 (x ∷ []) n
compared_over b1 b0 o x n a number f e g base j all = binary_within b1 b0 base j o (atom.Net x) a n g (given_within b1 b0 base j (x ∷ []) x f (first_in x []) all) (within_constant b1 base j a number e)

pub above_over : (b1 b0 : Netlist) (o : Operator) (x n : Net) (a : Atom Net) (number : SizedNumber) → Includes b1 b0 → a ≡ atom.Constant number → IsGate b1 b0 (Binary o a (atom.Net x)) n → IsOver b1 b0 1 (x ∷ []) n
above_over b1 b0 o x n a number f e g base j all = binary_within b1 b0 base j o a (atom.Net x) n g (within_constant b1 base j a number e) (given_within b1 b0 base j (x ∷ []) x f (first_in x []) all)

-- and turned by a choice of numbers
pub apart_over : (b2 b1 b0 : Netlist) (x same n : Net) (zero_is one_is : Atom Net) (k l : SizedNumber) → Includes b2 b1 → zero_is ≡ atom.Constant k → one_is ≡ atom.Constant l → IsOver b1 b0 1 (x ∷ []) same → IsGate b2 b1 (Choose (atom.Net same) zero_is one_is) n → IsOver b2 b0 2 (x ∷ []) n
apart_over b2 b1 b0 x same n zero_is one_is k l f d e is g base j all =
    within_deeper (omega arith) (choose_within b2 b1 base (1 + j) (atom.Net same) zero_is one_is n g (within_net b2 base (1 + j) same (within_more b2 b1 base f (is base j all))) (within_constant b2 base (1 + j) zero_is k d) (within_constant b2 base (1 + j) one_is l e))

-- two tests of a coordinate, and both
abbrev pub IsSomeOver : (new old : Netlist) → (k : ℕ) → (from : List Net) → Option Net → Type 0
IsSomeOver new old k from o = IfSome o (IsOver new old k from)

pub both_depth : (three two one old : Netlist) (low high test : Option Net) (from : List Net) → Includes one old → Includes two one → IsSomeOver one old 2 from low → IsSomeOver two one 2 from high → IfSome test (IsOver three two 1 (option_to_list low ++ option_to_list high)) → IsSomeOver three old 3 from test
both_depth three two one old low high None from f g p q is = tt
both_depth three two one old low high (Some n) from f g p q is = λ base j all. within_deeper (omega arith) (is base (2 + j) (parts low high base j all p q))
  where
    parts : (l h : Option Net) (base : Holder → Bool) (j : ℕ) → AreWithin old base j from → IsSomeOver one old 2 from l → IsSomeOver two one 2 from h → AreWithin two base (2 + j) (option_to_list l ++ option_to_list h)
    parts None None base j all a b = none_within two base (2 + j)
    parts None (Some k) base j all a b = one_within two base (2 + j) k (b base j (λ x h. within_more one old base f (all x h)))
    parts (Some i) None base j all a b = one_within two base (2 + j) i (within_more two one base g (a base j all))
    parts (Some i) (Some k) base j all a b = two_within two base (2 + j) i k (within_more two one base g (a base j all)) (b base j (λ x h. within_more one old base f (all x h)))

pub test_depth : (new one old : Netlist) (test : Option Net) (k : ℕ) (from : List Net) (n : Net) → IsSomeOver one old k from test → IsOver new one 0 (option_to_list test) n → IsOver new old k from n
test_depth new one old None k from n p is base j all = within_deeper (omega arith) (is base (k + j) (none_within one base (k + j)))
test_depth new one old (Some t) k from n p is base j all = within_deeper (omega arith) (is base (k + j) (one_within one base (k + j) t (p base j all)))

-- a test and then one of it
pub turned_over : (new one old : Netlist) (k : ℕ) (from : List Net) (test n : Net) → IsOver one old k from test → IsOver new one 1 (test ∷ []) n → IsOver new old (1 + k) from n
turned_over new one old k from test n p is base j all = within_deeper (omega arith) (is base (k + j) (single_within one base (k + j) test (p base j all)))

-- two tests, of column and of row
pub here_over : (b3 b2 b1 b0 : Netlist) (x y across down n : Net) → Includes b1 b0 → Includes b2 b1 → Includes b3 b2 → IsOver b1 b0 1 (x ∷ []) across → IsOver b2 b1 1 (y ∷ []) down → IsGate b3 b2 (Binary And (atom.Net across) (atom.Net down)) n → IsOver b3 b0 2 (x ∷ (y ∷ [])) n
here_over b3 b2 b1 b0 x y across down n f1 f2 f3 p q g base j all =
    within_deeper (omega arith)
    (binary_within b3 b2 base (1 + j) And (atom.Net across) (atom.Net down) n g
    (within_net b3 base (1 + j) across (within_more b3 b2 base f3 (within_more b2 b1 base f2 (p base j (single_within b0 base j x (all x (first_in x (y ∷ []))))))))
    (within_net b3 base (1 + j) down (within_more b3 b2 base f3 (q base j (single_within b1 base j y (within_more b1 b0 base f1 (all y (second_in x y []))))))))

-- what a register takes that is loaded where `load` is 1, or always
pub load_over : (b1 b0 : Netlist) (load : Option Net) (l test register n : Net) → load ≡ Some l → Includes b1 b0 → IsGate b1 b0 (Choose (atom.Net l) (atom.Net test) (atom.Net register)) n → IsOver b1 b0 1 (sources load test register) n
load_over b1 b0 load l test register n e f g = subst (λ (o : Option Net). IsOver b1 b0 1 (sources o test register) n) (sym e) over
  where
    over : IsOver b1 b0 1 (l ∷ (test ∷ (register ∷ []))) n
    over base j all =
        choose_within b1 b0 base j (atom.Net l) (atom.Net test) (atom.Net register) n g (given_within b1 b0 base j (l ∷ (test ∷ (register ∷ []))) l f (first_in l (test ∷ (register ∷ []))) all)
        (given_within b1 b0 base j (l ∷ (test ∷ (register ∷ []))) test f (second_in l test (register ∷ [])) all) (given_within b1 b0 base j (l ∷ (test ∷ (register ∷ []))) register f (suc (suc zero), omega arith, refl) all)

pub always_over : (b : Netlist) (load : Option Net) (test register : Net) → load ≡ None → IsOver b b 1 (sources load test register) test
always_over b load test register e = subst (λ (o : Option Net). IsOver b b 1 (sources o test register) test) (sym e) (λ base j all. within_deeper (omega arith) (all test (first_in test [])))

-- what the register of a test takes
pub value_depth : (b0 b1 b2 b3 b4 : Netlist) (load : Option Net) (test register next value : Net) (k : ℕ) → register ≡ Reg k → Includes b1 b0 → Includes b3 b2 → Includes b4 b3 → IsOver b2 b1 1 (sources load test register) next → IsOver b3 b2 (1 + hold_levels b2.enable) (control_nets b2.enable ++ register ∷ (next ∷ [])) value →
    IsWithin b0 is_start band_levels (OfNet test) → IfSome load (λ l. IsWithin b0 is_start band_levels (OfNet l)) → IsWithin b4 is_start (control_levels b4.enable) (OfNet value)
value_depth b0 b1 b2 b3 b4 load test register next value k at f1 f3 f4 o2 o3 short by =
    subst (λ (e : Bool). IsWithin b4 is_start (control_levels e) (OfNet value)) (sym (f4.enable ∙ f3.enable))
    (within_more b4 b3 is_start f4
    (within_deeper (omega arith)
    (o3 is_start (1 + band_levels)
    (choice_within b2 b2 is_start 0 (1 + band_levels) register next (omega arith) (Includes-refl b2) (starts_at b2 0) (register_starts b2 (1 + band_levels) k register at) (o2 is_start band_levels (from_sources load by))))))
  where
    one : (n : Net) → IsWithin b0 is_start band_levels (OfNet n) → IsWithin b1 is_start band_levels (OfNet n)
    one n is = within_more b1 b0 is_start f1 is

    from_sources : (o : Option Net) → IfSome o (λ l. IsWithin b0 is_start band_levels (OfNet l)) → AreWithin b1 is_start band_levels (sources o test register)
    from_sources None of n (zero, l, e) = subst (λ (x : Net). IsWithin b1 is_start band_levels (OfNet x)) e (one test short)
    from_sources None of n (suc i, l, e) = absurd (omega (arith, l))
    from_sources (Some x) of n (zero, l, e) = subst (λ (x : Net). IsWithin b1 is_start band_levels (OfNet x)) e (one x of)
    from_sources (Some x) of n (suc zero, l, e) = subst (λ (x : Net). IsWithin b1 is_start band_levels (OfNet x)) e (one test short)
    from_sources (Some x) of n (suc (suc zero), l, e) = subst (λ (x : Net). IsWithin b1 is_start band_levels (OfNet x)) e (register_starts b1 band_levels k register at)
    from_sources (Some x) of n (suc (suc (suc i)), l, e) = absurd (omega (arith, l))

-- a test of one register, and of two
pub test_starts : (c b old : Netlist) (x n : Net) (k j : ℕ) → x ≡ Reg j → k ≤ band_levels → Includes c b → IsOver b old k (x ∷ []) n → IsWithin c is_start band_levels (OfNet n)
test_starts c b old x n k j at le f is = within_more c b is_start f (within_deeper (omega (arith, le)) (is is_start 0 (single_within old is_start 0 x (register_starts old 0 j x at))))

pub here_starts : (c b old : Netlist) (x y n : Net) (i j : ℕ) → x ≡ Reg i → y ≡ Reg j → Includes c b → IsOver b old 2 (x ∷ (y ∷ [])) n → IsWithin c is_start band_levels (OfNet n)
here_starts c b old x y n i j at_x at_y f is = within_more c b is_start f (within_deeper (omega arith) (is is_start 0 (two_within old is_start 0 x y (register_starts old 0 i x at_x) (register_starts old 0 j y at_y))))

pub constant_starts : (b old : Netlist) (n : Net) → IsOver b old 0 [] n → IsWithin b is_start band_levels (OfNet n)
constant_starts b old n is = within_deeper (omega arith) (is is_start 0 (none_within old is_start 0))

-- the pixel that follows
pub row_over : (b3 b2 b1 b0 : Netlist) (column row ending next n : Net) → Includes b1 b0 → Includes b2 b1 → Includes b3 b2 → IsOver b1 b0 1 (column ∷ []) ending → IsOver b2 b1 2 (row ∷ []) next → IsGate b3 b2 (Choose (atom.Net ending) (atom.Net next) (atom.Net row)) n → IsOver b3 b0 3 (column ∷ (row ∷ [])) n
row_over b3 b2 b1 b0 column row ending next n f1 f2 f3 p q g base j all =
    let here : IsWithin b1 base j (OfNet row) = within_more b1 b0 base f1 (all row (second_in column row [])) in
    within_deeper (omega arith)
    (choose_within b3 b2 base (2 + j) (atom.Net ending) (atom.Net next) (atom.Net row) n g
    (atom_deeper b3 base (1 + j) (2 + j) ending (omega arith) (within_more b3 b2 base f3 (within_more b2 b1 base f2 (p base j (single_within b0 base j column (all column (first_in column (row ∷ []))))))))
    (within_net b3 base (2 + j) next (within_more b3 b2 base f3 (q base j (single_within b1 base j row here)))) (atom_deeper b3 base j (2 + j) row (omega arith) (within_more b3 b2 base f3 (within_more b2 b1 base f2 here))))

-- what a register of a pixel takes
pub advance_over : (c new mid one old : Netlist) (p : Pixel) (now next n : Net) → Includes c new → Includes mid one → Includes one old → Contains (p.column ∷ (p.row ∷ [])) now → IsOver one old 3 (p.column ∷ (p.row ∷ [])) next → IsOver new mid (1 + hold_levels mid.enable) (choice_nets mid.enable now next) n → IsOver c old 5 (pixel_nets old.enable p) n
advance_over c new mid one old p now next n f g h at o1 o2 base j all =
    within_more c new base f
    (within_deeper (omega (arith, few_held mid.enable))
    (o2 base (3 + j)
    (choice_within mid old base j (3 + j) now next (omega arith) (Includes-trans mid one old g h) (λ x k. all x (Contains-append_left (control_nets old.enable) (p.column ∷ (p.row ∷ [])) x k)) (within_deeper (omega arith) (within_more mid one base g (within_more one old base h (pixel now at))))
    (within_deeper (omega arith) (within_more mid one base g (o1 base j pixel))))))
  where
    pixel : (x : Net) → Contains (p.column ∷ (p.row ∷ [])) x → IsWithin old base j (OfNet x)
    pixel x k = all x (Contains-append_right (control_nets old.enable) (p.column ∷ (p.row ∷ [])) x k)

pub pixel_starts : (c b old : Netlist) (p : Pixel) (n : Net) (i k : ℕ) → p.column ≡ Reg i → p.row ≡ Reg k → Includes c b → IsOver b old 5 (pixel_nets old.enable p) n → IsWithin c is_start (control_levels c.enable) (OfNet n)
pixel_starts c b old p n i k at_column at_row f is = within_more c b is_start f (within_deeper (omega arith) (is is_start 0 nets))
  where
    nets : AreWithin old is_start 0 (pixel_nets old.enable p)
    nets x c = elim (Contains-append_cases (control_nets old.enable) (p.column ∷ (p.row ∷ [])) x c) as (λ _. IsWithin old is_start 0 (OfNet x)) [
      | inl h ↦ starts_at old 0 x h
      | inr h ↦ two_within old is_start 0 p.column p.row (register_starts old 0 i p.column at_column) (register_starts old 0 k p.row at_row) x h
    ]

-- what a register has, and 0 in a reset clock
pub unless_over : (b1 b0 : Netlist) (reset register n : Net) (a : Atom Net) (number : SizedNumber) → Includes b1 b0 → reset ≡ reset_net → a ≡ atom.Constant number → IsGate b1 b0 (Choose (atom.Net reset) a (atom.Net register)) n → IsOver b1 b0 1 (reset_net ∷ (register ∷ [])) n
unless_over b1 b0 reset register n a number f e zero_is g base j all =
    choose_within b1 b0 base j (atom.Net reset) a (atom.Net register) n g (given_within b1 b0 base j (reset_net ∷ (register ∷ [])) reset f (subst (Contains (reset_net ∷ (register ∷ []))) (sym e) (first_in reset_net (register ∷ []))) all) (within_constant b1 base j a number zero_is)
    (given_within b1 b0 base j (reset_net ∷ (register ∷ [])) register f (second_in reset_net register []) all)

pub unless_depth : (new old : Netlist) (register n : Net) → Includes new old → IsWithin old (is_control old.enable) 0 (OfNet register) → IsOver new old 1 (reset_net ∷ (register ∷ [])) n → IsWithin new (is_control new.enable) start_levels (OfNet n)
unless_depth new old register n grows is over =
    subst (λ (e : Bool). IsWithin new (is_control e) start_levels (OfNet n)) (sym grows.enable) (within_deeper (omega arith) (over (is_control old.enable) 0 (two_within old (is_control old.enable) 0 reset_net register (by_itself (first old.enable)) is)))
  where
    first : (e : Bool) → IsTrue (is_control e (OfNet reset_net))
    first true = refl
    first false = refl
