-- One read more among which a net is chosen.
use Rattle.std.proofs.Common.{◌≡◌, ◌⊎◌, ℕ, zero, suc, ◌<◌, ◌==◌, Bool, List, [], ◌∷◌, ◌++◌, length, Option, Some, None, refl, sym, ap, subst, ◌∙◌, inl, inr, arith, ◌+◌, ◌≤◌}
use Rattle.std.specs.Prelude.{IfSome, Contains, if◌then◌else◌}
use Rattle.dk_base.specs.declared.stencils.LiveRead.{LiveRead}
use Rattle.dk_base.specs.Frames.{Size, column, row}
use Rattle.wiring.specs.declared.netlist.Net.{Net}
use Rattle.wiring.specs.declared.netlist.Holder.{Holder}
use Rattle.wiring.specs.declared.netlist.Holder.TheVariants.{OfNet}
use Rattle.wiring.specs.Netlist.{Netlist, net_width}
use Rattle.wiring.specs.Snapshot.{Snapshot, net_value}
use Rattle.net_build.specs.Includes.{Includes}
use Rattle.wiring.specs.declared.right.Atom.{Atom}
use Rattle.wiring.specs.declared.right.Atom.TheVariants as atom
use Rattle.wiring.specs.declared.right.Right.TheVariants.{Choose}
use Rattle.wiring.specs.Sizes.{IsWidth, IsConstant}
use Rattle.std.proofs.Math.Pow.{pow_pos}
use Rattle.net_build.specs.Draft.{IsNet, IsOperand}
use Rattle.net_build.specs.Control.{IsMadeOf}
use Rattle.net_build.specs.Depth.{IsWithin, IsOver}
use Rattle.net_build.proofs.Depth.{within_more, within_deeper, within_made}
use Rattle.circuit.specs.Depths.{MayMean, MeansAtMost, IsOverTaps, test_levels}
use Rattle.circuit.proofs.Depths.{most_last, most_fewer, all_within}
use Rattle.net_build.specs.Logic.{AreMadeOf, Computes, IsGate}
use Rattle.net_build.proofs.Parts.{Includes-refl, Includes-trans}
use Rattle.net_build.proofs.Logic.{Source, given_source, number_source, choose_computes, first_in, second_in}
use Rattle.net_build.proofs.Operands.{net_operand, constant_operand}
use Rattle.net_build.proofs.Control.{made_more}
use Rattle.edge_select.specs.Steps.{LeadBy}
use Rattle.edge_select.specs.Pixels.{IsBitOf, AllPass}
use Rattle.buffer_plan.specs.Plans.{Plan, delay_of}
use Rattle.circuit.specs.Leaves.{LeafRead}
use Rattle.circuit.specs.Taps.{size_in, IsTapOf, HasControl}
use Rattle.circuit.specs.Reads.{IsChosen, IsChoice, IsPixelTest, IsMadeOfTaps, atom_of_choice, choice_nets, chosen_by, worth_of}
use Rattle.circuit.proofs.Lasting.{each_pixel_more, choice_more}

-- which of a longer list
pub push_in : {X : Type 0} (xs : List X) (y x : X) → Contains (xs ++ y ∷ []) x → Contains xs x ⊎ (y ≡ x)
push_in [] y x (zero, lt, e) = inr e
push_in [] y x (suc k, lt, e) = absurd (omega (arith, lt))
push_in (z ∷ xs) y x (zero, lt, e) = inl (0, omega arith, e)
push_in (z ∷ xs) y x (suc k, lt, e) = elim (push_in xs y x (k, (let h : k < length (xs ++ y ∷ []) = omega (arith, lt) in h), e)) [
  | inl (j, low, f) ↦ inl (suc j, (let h : suc j < length (z ∷ xs) = omega (arith, low) in h), f)
  | inr f ↦ inr f
]

pub old_in : {X : Type 0} (xs : List X) (y x : X) → Contains xs x → Contains (xs ++ y ∷ []) x
old_in [] y x (k, lt, e) = absurd (omega (arith, lt))
old_in (z ∷ xs) y x (zero, lt, e) = (0, omega arith, e)
old_in (z ∷ xs) y x (suc k, lt, e) = from (old_in xs y x (k, (let h : k < length xs = omega (arith, lt) in h), e))
  where
    from : Contains (xs ++ y ∷ []) x → Contains ((z ∷ xs) ++ y ∷ []) x
    from (j, low, f) = (suc j, (let h : suc j < length ((z ∷ xs) ++ y ∷ []) = omega (arith, low) in h), f)

pub last_in : {X : Type 0} (xs : List X) (y : X) → Contains (xs ++ y ∷ []) y
last_in [] y = (0, omega arith, refl)
last_in (z ∷ xs) y = from (last_in xs y)
  where
    from : Contains (xs ++ y ∷ []) y → Contains ((z ∷ xs) ++ y ∷ []) y
    from (j, low, f) = (suc j, (let h : suc j < length ((z ∷ xs) ++ y ∷ []) = omega (arith, low) in h), f)

module _ (size : Size) (plan : Plan) (taps : List (List Net)) (reads : List LiveRead) (r : LiveRead) (leaf : LeafRead) (x y : ℕ) (s : Snapshot) where
  -- it leads, and is taken
  taken : (tap : Net) (v : ℕ) → r.g ≡ leaf.image → LeadBy size leaf.steps r.dx r.dy x y → IsTapOf plan taps r tap → v ≡ net_value s tap → IsChosen size plan taps (reads ++ r ∷ []) leaf x y s v
  taken tap v same on is e = inl (record { read = r; among = last_in reads r; of_image = same; leads = on; tap = tap; is_tap = is; value_is = e })

  -- it is no read of the image, or does not lead
  kept : (v w : ℕ) → (r.g ≡ leaf.image → LeadBy size leaf.steps r.dx r.dy x y → ⊥) → v ≡ w → IsChosen size plan taps reads leaf x y s w → IsChosen size plan taps (reads ++ r ∷ []) leaf x y s v
  kept v w off e (inl to) = inl (record { read = to.read; among = old_in reads r to.read to.among; of_image = to.of_image; leads = to.leads; tap = to.tap; is_tap = to.is_tap; value_is = e ∙ to.value_is })
  kept v w off e (inr none') = inr (record {
    none = λ q among same on. elim (push_in reads r q among) [
      | inl old ↦ none'.none q old same on
      | inr new ↦ off (ap (λ (z : LiveRead). z.g) new ∙ same) (subst (λ (z : LiveRead). LeadBy size leaf.steps z.dx z.dy x y) (sym new) on)
    ];
    value_is = e ∙ none'.value_is;
  })

  -- by a test
  tested : (test tap v w : ℕ) (net : Net) → r.g ≡ leaf.image → IsTapOf plan taps r net → tap ≡ net_value s net → IsBitOf (LeadBy size leaf.steps r.dx r.dy x y) test → v ≡ (if test == 1 then tap else w) → IsChosen size plan taps reads leaf x y s w → IsChosen size plan taps (reads ++ r ∷ []) leaf x y s v
  tested test tap v w net same is tap_is (inl on) e before = taken net v same on.0 is (e ∙ ap (λ (b : ℕ). if b == 1 then tap else w) on.1 ∙ tap_is)
  tested test tap v w net same is tap_is (inr off) e before = kept v w (λ _ led. off.0 led) (e ∙ ap (λ (b : ℕ). if b == 1 then tap else w) off.1) before

module _ (b first : Netlist) (plan : Plan) (taps : List (List Net)) (f : ℕ) (reads : List LiveRead) (r : LiveRead) (leaf : LeafRead) (bits : ℕ) where
  fewer : (n : Net) → IsMadeOfTaps b first plan taps reads n → IsMadeOfTaps b first plan taps (reads ++ r ∷ []) n
  fewer n is base has own = is base has (λ q tap among is_tap. own q tap (old_in reads r q among) is_tap)

  fewer_made : (o : Option Net) → IfSome o (IsMadeOfTaps b first plan taps reads) → IfSome o (IsMadeOfTaps b first plan taps (reads ++ r ∷ []))
  fewer_made None h = h
  fewer_made (Some n) h = fewer n h

  fewer_levels : (o : Option Net) → ((k : ℕ) → MeansAtMost (size_in plan) leaf reads k → IfSome o (IsOverTaps b first plan taps reads k)) →
      (k : ℕ) → MeansAtMost (size_in plan) leaf (reads ++ r ∷ []) k → IfSome o (IsOverTaps b first plan taps (reads ++ r ∷ []) k)
  fewer_levels None h k most = h k (most_fewer (size_in plan) leaf reads r k most)
  fewer_levels (Some n) h k most = λ base j has least own. h k (most_fewer (size_in plan) leaf reads r k most) base j has least (λ q tap among is_tap. own q tap (old_in reads r q among) is_tap)

  -- a read that no pixel is led to, or of another image, changes nothing
  pub choice_kept : (o : Option Net) → ((x y : ℕ) → x < plan.system.stencils.width → y < plan.system.stencils.height → r.g ≡ leaf.image → LeadBy (size_in plan) leaf.steps r.dx r.dy x y → ⊥) → ((q : ℕ) → column (size_in plan) q < plan.system.stencils.width) → ((q : ℕ) → row (size_in plan) q < plan.system.stencils.height) →
      IsChoice b first plan taps f reads leaf bits o → IsChoice b first plan taps f (reads ++ r ∷ []) leaf bits o
  choice_kept o off wide high is = record {
    there = is.there;
    width = is.width;
    value = λ m from before c s run q e. kept (size_in plan) plan taps reads r leaf (column (size_in plan) q) (row (size_in plan) q) s (worth_of s o) (worth_of s o) (off (column (size_in plan) q) (row (size_in plan) q) (wide q) (high q)) refl (is.value m from before c s run q e);
    made = fewer_made o is.made;
    levels = fewer_levels o is.levels;
  }

  -- a read of another image changes nothing
  pub choice_other : (o : Option Net) → (r.g ≡ leaf.image → ⊥) → IsChoice b first plan taps f reads leaf bits o → IsChoice b first plan taps f (reads ++ r ∷ []) leaf bits o
  choice_other o other is = record {
    there = is.there;
    width = is.width;
    value = λ m from before c s run q e. kept (size_in plan) plan taps reads r leaf (column (size_in plan) q) (row (size_in plan) q) s (worth_of s o) (worth_of s o) (λ same on. other same) refl (is.value m from before c s run q e);
    made = fewer_made o is.made;
    levels = fewer_levels o is.levels;
  }

  -- one to which every pixel is led is taken
  pub choice_taken : (o : Option Net) (tap : Net) → r.g ≡ leaf.image → AllPass plan.system.stencils.width plan.system.stencils.height (LeadBy (size_in plan) leaf.steps r.dx r.dy) → ((q : ℕ) → column (size_in plan) q < plan.system.stencils.width) → ((q : ℕ) → row (size_in plan) q < plan.system.stencils.height) →
      IsTapOf plan taps r tap → IsNet b tap → net_width b tap ≡ bits → Includes b first → IsChoice b first plan taps f (reads ++ r ∷ []) leaf bits (Some tap)
  choice_taken o tap same on wide high is there wide_tap grows = record {
    there = there;
    width = wide_tap;
    value = λ m from before c s run q e. taken (size_in plan) plan taps reads r leaf (column (size_in plan) q) (row (size_in plan) q) s tap (net_value s tap) same (on (column (size_in plan) q) (row (size_in plan) q) (wide q) (high q)) is refl;
    made = λ base has own. made_more b first base grows (own r tap (last_in reads r) is);
    levels = λ k most base j has least own. within_deeper (omega arith) (within_more b first base grows (own r tap (last_in reads r) is));
  }

-- a test, a tap and a choice that are made of the base
first_of : {X : Type 0} (y : X) (ys : List X) (x : X) → Contains (y ∷ ys) x → (y ≡ x) ⊎ Contains ys x
first_of y ys x (zero, lt, e) = inl e
first_of y ys x (suc k, lt, e) = inr (k, (let h : k < length ys = omega (arith, lt) in h), e)

from_all : (b : Netlist) (base : Holder → Bool) (test tap : Net) (o : Option Net) → IsMadeOf b base (OfNet test) → IsMadeOf b base (OfNet tap) → IfSome o (λ n. IsMadeOf b base (OfNet n)) → AreMadeOf b base (test ∷ (tap ∷ choice_nets o))
from_all b base test tap o t p rest n has = elim (first_of test (tap ∷ choice_nets o) n has) [
  | inl e ↦ subst (λ (x : Net). IsMadeOf b base (OfNet x)) e t
  | inr more ↦ elim (first_of tap (choice_nets o) n more) [
    | inl e ↦ subst (λ (x : Net). IsMadeOf b base (OfNet x)) e p
    | inr last ↦ of_choice o rest last
  ]
]
  where
    of_choice : (o : Option Net) → IfSome o (λ n. IsMadeOf b base (OfNet n)) → Contains (choice_nets o) n → IsMadeOf b base (OfNet n)
    of_choice None h (k, lt, e) = absurd (let f : ⊥ = omega (arith, lt) in f)
    of_choice (Some x) h (zero, lt, e) = subst (λ (y : Net). IsMadeOf b base (OfNet y)) e h
    of_choice (Some x) h (suc k, lt, e) = absurd (let f : ⊥ = omega (arith, lt) in f)

-- and else a test chooses between its tap and what was chosen before
pub choice_tested : (new mid old first : Netlist) (plan : Plan) (taps : List (List Net)) (f : ℕ) (reads : List LiveRead) (r : LiveRead) (leaf : LeafRead) (bits : ℕ) (o : Option Net) (test tap net : Net) → r.g ≡ leaf.image → ((MayMean (size_in plan) leaf r → ⊥) → ⊥) → IsTapOf plan taps r tap → Includes new mid → Includes mid old → Includes old first →
    IsPixelTest mid plan f (LeadBy (size_in plan) leaf.steps r.dx r.dy) test → Computes new mid (test ∷ (tap ∷ choice_nets o)) bits (chosen_by test tap o) net → IsOver new mid 1 (test ∷ (tap ∷ choice_nets o)) net → IsChoice old first plan taps f reads leaf bits o → IsChoice new first plan taps f (reads ++ r ∷ []) leaf bits (Some net)
choice_tested new mid old first plan taps f reads r leaf bits o test tap net same some is_tap late early begun tests one over before =
    let grows : Includes new old = Includes-trans new mid old late early in
    let whole : Includes mid first = Includes-trans mid old first early begun in
    let held : IsChoice mid first plan taps f reads leaf bits o = choice_more mid old early first plan taps f reads leaf bits o before in
    let now : IsChoice new first plan taps f reads leaf bits o = choice_more new old grows first plan taps f reads leaf bits o before in
    let value = each_pixel_more new mid late (size_in plan) (delay_of plan f) (λ x y s. IsBitOf (LeadBy (size_in plan) leaf.steps r.dx r.dy x y) (net_value s test)) tests.value in
    record {
      there = one.net;
      width = one.width;
      value = λ m from before c s run q e.
          tested (size_in plan) plan taps reads r leaf (column (size_in plan) q) (row (size_in plan) q) s (net_value s test) (net_value s tap) (net_value s net) (worth_of s o) tap same is_tap refl (value m from before c s run q e)
          (one.value m s run.clock.whole.includes run.clock.at.snapshot.settled) (now.value m from before c s run q e);
      made = λ base has own.
          let control : HasControl mid.enable base = subst (λ (e : Bool). HasControl e base) (sym (early.enable ∙ begun.enable)) has in
          one.made_of base (from_all mid base test tap o (within_made (tests.within base control)) (made_more mid first base whole (own r tap (last_in reads r) is_tap)) (rest o held.made base has (λ q t among is. own q t (old_in reads r q among) is)));
      levels = λ k most base j has least own.
          let control : HasControl mid.enable base = subst (λ (e : Bool). HasControl e base) (sym (early.enable ∙ begun.enable)) has in
          elim (most_last (size_in plan) leaf reads r k most) as (λ _. IsWithin new base (k + j) (OfNet net)) [
            | inl (never, fewer) ↦ absurd (some never)
            | inr (i, less, fewer) ↦ within_deeper (let g : 1 + (i + j) ≤ k + j = omega (arith, less) in g)
                (over base (i + j) (all_within mid base (i + j) test tap o
                (within_deeper (let g : test_levels ≤ i + j = omega (arith, least) in g) (tests.within base control))
                (within_deeper (let g : j ≤ i + j = omega arith in g) (within_more mid first base whole (own r tap (last_in reads r) is_tap)))
                (deep i o (held.levels i fewer) base j has least (λ q t among is. own q t (old_in reads r q among) is))))
          ];
    }
  where
    rest : (o : Option Net) → IfSome o (IsMadeOfTaps mid first plan taps reads) → (base : Holder → Bool) → HasControl first.enable base → ((q : LiveRead) (t : Net) → Contains reads q → IsTapOf plan taps q t → IsMadeOf first base (OfNet t)) → IfSome o (λ n. IsMadeOf mid base (OfNet n))
    rest None h base has own = h
    rest (Some n) h base has own = h base has own

    deep : (k : ℕ) (o : Option Net) → IfSome o (IsOverTaps mid first plan taps reads k) → (base : Holder → Bool) (j : ℕ) → HasControl first.enable base → test_levels ≤ j → ((q : LiveRead) (t : Net) → Contains reads q → IsTapOf plan taps q t → IsWithin first base j (OfNet t)) → IfSome o (λ n. IsWithin mid base (k + j) (OfNet n))
    deep k None h base j has least own = h
    deep k (Some n) h base j has least own = h base j has least own

-- 0 fits each width
zero_fits : (bits : ℕ) → IsWidth bits → IsConstant (record { width = bits; value = 0 })
zero_fits bits fits = record { width = fits; fits = pow_pos bits }

-- among no reads nothing is chosen
pub choice_none : (b first : Netlist) (plan : Plan) (taps : List (List Net)) (f : ℕ) (leaf : LeafRead) (bits : ℕ) → IsChoice b first plan taps f [] leaf bits None
choice_none b first plan taps f leaf bits = record {
  there = tt;
  width = tt;
  value = λ m from before c s run q e. inr (record { none = λ r among same on. (let f : ⊥ = omega (arith, among.1) in f); value_is = refl });
  made = tt;
  levels = λ k most. tt;
}

-- the gate of such a choice
pub chosen_gate : (new b : Netlist) (test tap : Net) (o : Option Net) (bits : ℕ) (rest : Atom Net) (n : Net) → Includes new b → IsNet b test → net_width b test ≡ 1 → IsNet b tap → net_width b tap ≡ bits → IfSome o (IsNet b) → IfSome o (λ m. net_width b m ≡ bits) → IsWidth bits → rest ≡ atom_of_choice bits o → IsGate new b (Choose (atom.Net test) (atom.Net tap) rest) n →
    Computes new b (test ∷ (tap ∷ choice_nets o)) bits (chosen_by test tap o) n
chosen_gate new b test tap o bits rest n grows is_test one is_tap wide nets widths fits e g =
    let from = test ∷ (tap ∷ choice_nets o) in
    choose_computes new b b from grows bits (λ s. net_value s test) (λ s. net_value s tap) (λ s. worth_of s o) (atom.Net test) (atom.Net tap) rest n
    (given_source b b from 1 test (Includes-refl b) is_test one (first_in test (tap ∷ choice_nets o))) (given_source b b from bits tap (Includes-refl b) is_tap wide (second_in test tap (choice_nets o)))
    (of_rest o nets widths rest e) g
  where
    of_rest : (o : Option Net) → IfSome o (IsNet b) → IfSome o (λ m. net_width b m ≡ bits) → (rest : Atom Net) → rest ≡ atom_of_choice bits o → Source b b (test ∷ (tap ∷ choice_nets o)) bits (λ s. worth_of s o) rest
    of_rest None nets widths rest e = number_source b b (test ∷ (tap ∷ [])) bits 0 rest e (zero_fits bits fits)
    of_rest (Some m) nets widths rest e = subst (Source b b (test ∷ (tap ∷ (m ∷ []))) bits (λ s. net_value s m)) (sym e) (given_source b b (test ∷ (tap ∷ (m ∷ []))) bits m (Includes-refl b) nets widths (2, omega arith, refl))

-- and its parts
pub choice_operand : (b : Netlist) (o : Option Net) (bits : ℕ) (rest : Atom Net) → IfSome o (IsNet b) → IfSome o (λ m. net_width b m ≡ bits) → IsWidth bits → rest ≡ atom_of_choice bits o → IsOperand b rest bits
choice_operand b None bits rest nets widths fits e = subst (λ (a : Atom Net). IsOperand b a bits) (sym e) (constant_operand b (record { width = bits; value = 0 }) bits (zero_fits bits fits) refl)
choice_operand b (Some n) bits rest nets widths fits e = subst (λ (a : Atom Net). IsOperand b a bits) (sym e) (net_operand b n bits nets widths)
