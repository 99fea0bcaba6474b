-- The ports of the profile.
use Rattle.std.proofs.Common.{◌≡◌, ℕ, zero, suc, ◌+◌, ◌<◌, ◌≤◌, true, false, List, [], ◌∷◌, ◌++◌, length, refl, ap, subst, sym, ◌∙◌, arith}
use Rattle.std.specs.Prelude.{codes}
use Rattle.std.specs.List.{AllZip}
use Rattle.std.specs.Str.{bytes_eq}
use Rattle.wiring.specs.Rules.{IsPortCount}
use Rattle.netlist.specs.declared.parts.Port.{Port}
use Rattle.netlist.specs.declared.parts.Direction.TheVariants.{Input as Takes, Output as Gives}
use Rattle.netlist.specs.Names.{numbered}
use Rattle.netlist.specs.Faults.{PortRule, FitsRule, din_rules, output_rules}
use Rattle.netlist.specs.Profile.{din_rule, AreOutputs, AreFromDins}
use Rattle.netlist.proofs.Naming.{codes_same, same_equal}

-- a list with one item at its end is determined by both
pub push_equal : (xs ys : List ℕ) (x y : ℕ) → xs ++ x ∷ [] ≡ ys ++ y ∷ [] → (xs ≡ ys) × (x ≡ y)
push_equal [] [] x y e = (refl, cc)
push_equal [] (b ∷ ys) x y e = absurd (omega (arith, ap length e, push_length ys y))
  where
    push_length : (zs : List ℕ) (z : ℕ) → length (zs ++ z ∷ []) ≡ suc (length zs)
    push_length [] z = refl
    push_length (w ∷ zs) z = ap suc (push_length zs z)
push_equal (a ∷ xs) [] x y e = absurd (omega (arith, ap length e, push_length xs x))
  where
    push_length : (zs : List ℕ) (z : ℕ) → length (zs ++ z ∷ []) ≡ suc (length zs)
    push_length [] z = refl
    push_length (w ∷ zs) z = ap suc (push_length zs z)
push_equal (a ∷ xs) (b ∷ ys) x y e =
    let head : a ≡ b = cc in
    let tail : xs ++ x ∷ [] ≡ ys ++ y ∷ [] = cc in
    let rest = push_equal xs ys x y tail in
    (ap (λ (z : ℕ). z ∷ xs) head ∙ ap (λ (l : List ℕ). b ∷ l) rest.0, rest.1)

module _ (name front word : List ℕ) (digit n : ℕ) (whole : name ≡ front ++ digit ∷ []) (some : 0 < n) where
  pub not_numbered : bytes_eq front word ≡ false → name ≡ numbered word n → ⊥
  not_numbered other is = by n some is
    where
      by : (m : ℕ) → 0 < m → name ≡ numbered word m → ⊥
      by zero l e = omega (arith, l)
      by (suc k) l e =
          let parts = push_equal front word digit (49 + k) (sym whole ∙ e) in
          let same : false ≡ true = sym other ∙ ap (λ (x : List ℕ). bytes_eq x word) parts.0 ∙ codes_same word in
          cc

  pub numbered_is : bytes_eq front word ≡ true → digit ≡ 48 + n → name ≡ numbered word n
  numbered_is same last = by n some last
    where
      by : (m : ℕ) → 0 < m → digit ≡ 48 + m → name ≡ numbered word m
      by zero l e = absurd (omega (arith, l))
      by (suc k) l e = whole ∙ ap (λ (x : List ℕ). x ++ digit ∷ []) (same_equal front word same) ∙ ap (λ (z : ℕ). word ++ z ∷ []) (let f : digit ≡ 49 + k = omega (arith, e) in f)

abbrev valid_rule : ℕ → PortRule
valid_rule k = record { direction = Gives; name = numbered (codes "valid") k; wide = false }

abbrev dout_rule : ℕ → PortRule
dout_rule k = record { direction = Gives; name = numbered (codes "dout") k; wide = true }

module _ (ports rest more : List Port) (v d : Port) (n : ℕ) (first : ports ≡ v ∷ rest) (second : rest ≡ d ∷ more) where
  both : ports ≡ v ∷ (d ∷ more)
  both = first ∙ ap (λ (l : List Port). v ∷ l) second

  pub outputs_yes : FitsRule v (valid_rule n) → FitsRule d (dout_rule n) → AreOutputs more (n + 1) → AreOutputs ports n
  outputs_yes fv fd are = record {
    count = suc are.count;
    few = omega (arith, are.few);
    fit = subst (λ (l : List Port). AllZip FitsRule l (output_rules n (suc are.count))) (sym both) (fv, (fd, subst (λ (z : ℕ). AllZip FitsRule more (output_rules z are.count)) (let e : n + 1 ≡ suc n = omega arith in e) are.fit));
  }

  -- the rules of the first two, and what is left
  pub record Split : Type 0 where
    pub room : n < 8
    pub valid : FitsRule v (valid_rule n)
    pub dout : FitsRule d (dout_rule n)
    pub rest_are : AreOutputs more (n + 1)

  pub outputs_split : AreOutputs ports n → Split
  outputs_split are = by are.count are.few (subst (λ (l : List Port). AllZip FitsRule l (output_rules n are.count)) both are.fit)
    where
      by : (c : ℕ) → n + c ≤ 8 → AllZip FitsRule (v ∷ (d ∷ more)) (output_rules n c) → Split
      by zero few fit = absurd fit
      by (suc c) few fit = record {
        room = omega (arith, few);
        valid = fit.0;
        dout = fit.1.0;
        rest_are = record { count = c; few = omega (arith, few); fit = subst (λ (z : ℕ). AllZip FitsRule more (output_rules z c)) (let e : suc n ≡ n + 1 = omega arith in e) fit.1.1 };
      }

module _ (ports rest : List Port) (q : Port) (n : ℕ) (first : ports ≡ q ∷ rest) where
  pub dins_yes : FitsRule q (din_rule n) → AreFromDins rest (n + 1) → AreFromDins ports n
  dins_yes fq are = record {
    dins = suc are.dins;
    douts = are.douts;
    din_count = (let a = are.din_count.0 in omega (arith, a), let b = are.din_count.1 in omega (arith, b));
    dout_count = are.dout_count;
    fit = subst (λ (l : List Port). AllZip FitsRule l (din_rules n (suc are.dins) ++ output_rules 0 are.douts)) (sym first) (fq, subst (λ (z : ℕ). AllZip FitsRule rest (din_rules z are.dins ++ output_rules 0 are.douts)) (let e : n + 1 ≡ suc n = omega arith in e) are.fit);
  }

  -- where the first is a din, the rest goes on from the next
  pub dins_no : FitsRule q (din_rule n) → AreFromDins ports n → AreFromDins rest (n + 1)
  dins_no fq are = by are.dins are.din_count are.douts are.dout_count (subst (λ (l : List Port). AllZip FitsRule l (din_rules n are.dins ++ output_rules 0 are.douts)) first are.fit)
    where
      by : (c : ℕ) → IsPortCount (n + c) → (o : ℕ) → IsPortCount o → AllZip FitsRule (q ∷ rest) (din_rules n c ++ output_rules 0 o) → AreFromDins rest (n + 1)
      by zero count zero outs fit = absurd fit
      by zero count (suc o) outs fit = absurd (let e : Takes ≡ Gives = sym fq.direction ∙ fit.0.direction in cc)
      by (suc c) count o outs fit = record {
        dins = c;
        douts = o;
        din_count = (let a = count.0 in omega (arith, a), let b = count.1 in omega (arith, b));
        dout_count = outs;
        fit = subst (λ (z : ℕ). AllZip FitsRule rest (din_rules z c ++ output_rules 0 o)) (let e : suc n ≡ n + 1 = omega arith in e) fit.1;
      }

  -- where it is none, outputs begin here
  pub no_din : (n < 8 → FitsRule q (din_rule n) → ⊥) → AreFromDins ports n → (0 < n) × AreOutputs ports 0
  no_din other are = by are.dins are.din_count are.douts are.dout_count are.fit (subst (λ (l : List Port). AllZip FitsRule l (din_rules n are.dins ++ output_rules 0 are.douts)) first are.fit)
    where
      by : (c : ℕ) → IsPortCount (n + c) → (o : ℕ) → IsPortCount o → AllZip FitsRule ports (din_rules n c ++ output_rules 0 o) → AllZip FitsRule (q ∷ rest) (din_rules n c ++ output_rules 0 o) → (0 < n) × AreOutputs ports 0
      by zero count o outs whole fit = (let a = count.0 in omega (arith, a), record { count = o; few = let b = outs.1 in omega (arith, b); fit = whole })
      by (suc c) count o outs whole fit = absurd (other (let b = count.1 in omega (arith, b)) fit.0)

  pub outputs_from : 0 < n → n ≤ 8 → AreOutputs ports 0 → AreFromDins ports n
  outputs_from some few are = by are.count are.few (subst (λ (l : List Port). AllZip FitsRule l (output_rules 0 are.count)) first are.fit) are.fit
    where
      by : (c : ℕ) → 0 + c ≤ 8 → AllZip FitsRule (q ∷ rest) (output_rules 0 c) → AllZip FitsRule ports (output_rules 0 c) → AreFromDins ports n
      by zero l fit whole = absurd fit
      by (suc c) l fit whole = record { dins = 0; douts = suc c; din_count = (omega (arith, some), omega (arith, few)); dout_count = (omega arith, omega (arith, l)); fit = whole }
