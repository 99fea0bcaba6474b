-- Languages that are read with one token ahead are clear.
use Rattle.std.proofs.Common.{◌≡◌, List, [], ◌∷◌, ◌++◌, Option, Some, refl, ap, sym, ◌∙◌, subst, append_assoc, Bool, true, false}
use Rattle.std.proofs.lemmas.Option.{same_Some}
use Rattle.dk_grammar.specs.Reading.{Phrases, One, IsClass, Then, Done, Clear, Listed, last, another}

pub append_nil : {T : Type 0} (xs : List T) → xs ++ [] ≡ xs
append_nil [] = refl
append_nil (x ∷ xs) = ap (λ y. x ∷ y) (append_nil xs)

pub first_same : {T : Type 0} (a b : T) (x y : List T) → a ∷ x ≡ b ∷ y → a ≡ b
first_same a b x y e = cc

pub rest_same : {T : Type 0} (a b : T) (x y : List T) → a ∷ x ≡ b ∷ y → x ≡ y
rest_same a b x y e = cc

pub clear_one : {T V : Type 0} {R : T → V → Type 0} → IsClass R → Clear (One R)
clear_one {R = R} k = record {
  own = λ p. (p.0 ∷ [], p.1, λ w. (p.0, refl, p.2));
  one = λ {v = v} {w = w} p q.
      let same = sym p.1 ∙ q.1 in
      (k.one q.0 v w (subst (λ t. R t v) (first_same _ _ _ _ same) p.2) q.2, rest_same _ _ _ _ same);
  some = (k.token ∷ [], k.value, (k.token, refl, k.some));
}

pub clear_done : {T V : Type 0} (v : V) → Clear (Done {T = T} v)
clear_done v = record {
  own = λ p. ([], p.1, λ w. (p.0, refl));
  one = λ p q. (sym p.0 ∙ q.0, sym p.1 ∙ q.1);
  some = ([], v, (refl, refl));
}

-- A phrase with nothing after it, with more after it.
pub extend : {T V : Type 0} {P : Phrases T V} {ts : List T} {v : V} → Clear P → P ts v [] → (w : List T) → P (ts ++ w) v w
extend {P = P} {ts = ts} {v = v} c p w =
    let o = c.own p in
    subst (λ x. P (x ++ w) v w) (sym (o.1 ∙ append_nil o.0)) (o.2 w)

pub clear_then : {T U V : Type 0} {P : Phrases T U} {Q : U → Phrases T V} → Clear P → ((u : U) → Clear (Q u)) → Clear (Then P Q)
clear_then {T = T} {U = U} {V = V} {P = P} {Q = Q} c d = record {
  own = λ {ts = ts} {rest = rest} {v = v} p.
      let a = c.own p.2 in
      let b = (d p.0).own p.3 in (
        a.0 ++ b.0,
        a.1 ∙ ap (λ x. a.0 ++ x) b.1 ∙ sym (append_assoc a.0 b.0 rest),
        λ w. (p.0, b.0 ++ w, subst (λ x. P x p.0 (b.0 ++ w)) (sym (append_assoc a.0 b.0 w)) (a.2 (b.0 ++ w)), b.2 w),
      );
  one = λ {a = x} {b = y} {v = v} {w = w} p q.
      let a = c.one p.2 q.2 in
      (d q.0).one (subst (λ u. Q u q.1 v x) a.0 (subst (λ m. Q p.0 m v x) a.1 p.3)) q.3;
  some =
      let a = c.some in
      let b = (d a.1).some in
      (a.0 ++ b.0, b.1, (a.1, b.0, extend c a.2 b.0, b.2));
}

-- what a token after an element says, one way only
pub marks : {T : Type 0} (f : T → Option Bool) (a b : T) (x y : Bool) → f a ≡ Some x → f b ≡ Some y → a ≡ b → x ≡ y
marks f a b x y p q e = same_Some x y (sym p ∙ ap f e ∙ q)

listed_own : {T V : Type 0} {P : Phrases T V} {f : T → Option Bool} {ts rest : List T} {vs : List V} → Clear P → Listed P f ts vs rest
    → (o : List T) × (ts ≡ o ++ rest) × ((w : List T) → Listed P f (o ++ w) vs w)
listed_own {T = T} {P = P} {f = f} {rest = rest} c (last {mid = m} {t = t} {v = v} p e k) =
    let o = c.own p in (
      o.0 ++ (t ∷ []),
      o.1 ∙ ap (λ x. o.0 ++ x) e ∙ sym (append_assoc o.0 (t ∷ []) rest),
      λ w. subst (λ x. Listed P f x (v ∷ []) w) (sym (append_assoc o.0 (t ∷ []) w)) (last (o.2 (t ∷ w)) refl k),
    )
listed_own {T = T} {P = P} {f = f} {rest = rest} c (another {mid = m} {after = a} {t = t} {v = v} {vs = vs} p e k l) =
    let o = c.own p in
    let i = listed_own c l in (
      o.0 ++ (t ∷ i.0),
      o.1 ∙ ap (λ x. o.0 ++ x) (e ∙ ap (λ x. t ∷ x) i.1) ∙ sym (append_assoc o.0 (t ∷ i.0) rest),
      λ w. subst (λ x. Listed P f x (v ∷ vs) w) (sym (append_assoc o.0 (t ∷ i.0) w)) (another (o.2 (t ∷ (i.0 ++ w))) refl k (i.2 w)),
    )

listed_one : {T V : Type 0} {P : Phrases T V} {f : T → Option Bool} {ts a : List T} {vs : List V} → Clear P → Listed P f ts vs a
    → (ws : List V) (b : List T) → Listed P f ts ws b → (vs ≡ ws) × (a ≡ b)
listed_one c (last {t = t} {v = v} p e k) ws b (last {t = t'} {v = v'} p' e' k') =
    let s = c.one p p' in
    let whole = sym e ∙ s.1 ∙ e' in
    (ap (λ x. x ∷ []) s.0, rest_same _ _ _ _ whole)
listed_one {f = f} c (last {t = t} p e k) ws b (another {t = t'} p' e' k' l') =
    let s = c.one p p' in
    let h = marks f t t' false true k k' (first_same _ _ _ _ (sym e ∙ s.1 ∙ e')) in
    absurd (cc)
listed_one {f = f} c (another {t = t} p e k l) ws b (last {t = t'} p' e' k') =
    let s = c.one p p' in
    let h = marks f t t' true false k k' (first_same _ _ _ _ (sym e ∙ s.1 ∙ e')) in
    absurd (cc)
listed_one {P = P} {f = f} c (another {t = t} {v = v} p e k l) ws b (another {t = t'} {v = v'} {vs = vs'} p' e' k' l') =
    let s = c.one p p' in
    let whole = sym e ∙ s.1 ∙ e' in
    let r = listed_one c l vs' b (subst (λ x. Listed P f x vs' b) (sym (rest_same _ _ _ _ whole)) l') in
    let first = s.0 in
    let others = r.0 in
    (cc (first, others), r.1)

pub clear_listed : {T V : Type 0} {P : Phrases T V} {f : T → Option Bool} (t : T) → f t ≡ Some false → Clear P → Clear (Listed P f)
clear_listed {P = P} t e c =
    let o = c.some in
    record {
      own = λ p. listed_own c p;
      one = λ {b = b} {w = w} p q. listed_one c p w b q;
      some = (o.0 ++ (t ∷ []), o.1 ∷ [], last (extend c o.2 (t ∷ [])) refl e);
    }
