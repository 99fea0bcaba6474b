-- Chains of elements.
use Rattle.std.proofs.Common.{◌≡◌, List, [], ◌∷◌, ◌++◌, Option, Some, Bool, false, refl, ap, sym, ◌∙◌, subst, append_assoc}
use Rattle.std.proofs.lemmas.Option.{same_Some}
use Rattle.dk_grammar.specs.Reading.{Phrases, One, Clear, Stuck, Chain, end, link}
use Rattle.dk_grammar.proofs.Clears.{extend, first_same, rest_same}
use Rattle.dk_grammar.proofs.Stucks.{Reached, stuck_behind}

-- each element that is none of the last ones is clear
abbrev pub AllClear : {T M V : Type 0} → (M → Phrases T V) → (M → Bool) → Type 0
AllClear {M = M} P l = (m : M) → l m ≡ false → Clear (P m)

-- from each state on there is a chain
abbrev pub AllLive : {T M V : Type 0} → (M → Phrases T V) → (M → T → Option M) → (M → Bool) → Type 0
AllLive {T = T} {M = M} {V = V} P f l = (m : M) → (w : List T) × (vs : List V) × Chain P f l m w vs []

chain_own : {T M V : Type 0} {P : M → Phrases T V} {f : M → T → Option M} {l : M → Bool} {m : M} {ts rest : List T} {vs : List V} → AllClear P l → Chain P f l m ts vs rest
    → (o : List T) × (ts ≡ o ++ rest) × ((w : List T) → Chain P f l m (o ++ w) vs w)
chain_own c (end g) = ([], refl, λ w. end g)
chain_own {P = P} {f = f} {l = l} {rest = rest} c (link {m = m} {t = t} {v = v} {vs = vs} g p e k q) =
    let o = (c m g).own p in
    let i = chain_own c q in (
      o.0 ++ (t ∷ i.0),
      o.1 ∙ ap (λ x. o.0 ++ x) (e ∙ ap (λ x. t ∷ x) i.1) ∙ sym (append_assoc o.0 (t ∷ i.0) rest),
      λ w. subst (λ x. Chain P f l m x (v ∷ vs) w) (sym (append_assoc o.0 (t ∷ i.0) w)) (link g (o.2 (t ∷ (i.0 ++ w))) refl k (i.2 w)),
    )

chain_one : {T M V : Type 0} {P : M → Phrases T V} {f : M → T → Option M} {l : M → Bool} {m : M} {ts a : List T} {vs : List V} → AllClear P l → Chain P f l m ts vs a
    → (ws : List V) (b : List T) → Chain P f l m ts ws b → (vs ≡ ws) × (a ≡ b)
chain_one c (end g) ws b (end g') = (refl, refl)
chain_one c (end g) ws b (link g' p e k q) = absurd (cc (g, g'))
chain_one c (link g p e k q) ws b (end g') = absurd (cc (g, g'))
chain_one {P = P} {f = f} {l = l} {m = m} c (link {n = n} {t = t} {v = v} {vs = vs} g p e k q) ws b (link {n = n'} {after = y} {t = t'} {v = v'} {vs = vs'} g' p' e' k' q') =
    let s = (c m g).one p p' in
    let whole = sym e ∙ s.1 ∙ e' in
    let same : n' ≡ n = same_Some _ _ (sym k' ∙ ap (λ x. f m x) (sym (first_same _ _ _ _ whole)) ∙ k) in
    let again = subst (λ x. Chain P f l n x vs' b) (sym (rest_same _ _ _ _ whole)) (subst (λ x. Chain P f l x y vs' b) same q') in
    let r = chain_one c q vs' b again in
    let first = s.0 in
    let others = r.0 in
    (cc (first, others), r.1)

pub clear_chain : {T M V : Type 0} {P : M → Phrases T V} {f : M → T → Option M} {l : M → Bool} (m : M) → AllClear P l → AllLive P f l → Clear (Chain P f l m)
clear_chain m c s = record {
  own = λ p. chain_own c p;
  one = λ {b = b} {w = w} p q. chain_one c p w b q;
  some = s m;
}

-- at the start of a chain, and after an element and the token after it
pub chain_start : {T M V : Type 0} {P : M → Phrases T V} {f : M → T → Option M} {l : M → Bool} (m : M) (ts : List T) → Reached (Chain P f l m) (Chain P f l m) (λ vs. [] ++ vs) ts ts
chain_start m ts = record { own = []; whole = refl; into = λ q. q; out = λ {v = v} p. (v, p, refl) }

chain_out : {T M V : Type 0} {P : M → Phrases T V} {f : M → T → Option M} {l : M → Bool} {m n : M} (o w r : List T) (v : V) {vs : List V} (t : T) → Clear (P m) → l m ≡ false → P m (o ++ t ∷ w) v (t ∷ w) → f m t ≡ Some n
    → Chain P f l m (o ++ t ∷ w) vs r → (us : List V) × Chain P f l n w us r × (vs ≡ v ∷ us)
chain_out o w r v t c g h k (end g') = absurd (cc (g, g'))
chain_out {P = P} {f = f} {l = l} {m = m} {n = n} o w r v t c g h k (link {n = n'} {after = y} {t = t'} {vs = vs'} g' p e k' q) =
    let s = c.one h p in
    let whole = s.1 ∙ e in
    let same : n' ≡ n = same_Some _ _ (sym k' ∙ ap (λ x. f m x) (sym (first_same _ _ _ _ whole)) ∙ k) in
    (vs', subst (λ x. Chain P f l n x vs' r) (sym (rest_same _ _ _ _ whole)) (subst (λ x. Chain P f l x y vs' r) same q), ap (λ x. x ∷ vs') (sym s.0))

pub chain_next : {T M V : Type 0} {P : M → Phrases T V} {f : M → T → Option M} {l : M → Bool} (vs : List V) {m0 m n : M} {ts mid after behind : List T} {v : V} {t : T} → Clear (P m) → l m ≡ false
    → Reached (Chain P f l m0) (Chain P f l m) (λ us. vs ++ us) ts mid → P m mid v after → after ≡ t ∷ behind → f m t ≡ Some n
    → Reached (Chain P f l m0) (Chain P f l n) (λ us. (vs ++ v ∷ []) ++ us) ts behind
chain_next {T = T} {V = V} {P = P} {f = f} {l = l} vs {m0 = m0} {m = m} {n = n} {behind = behind} {v = v} {t = t} c g d p e k =
    let o = c.own p in
    record {
      own = d.own ++ (o.0 ++ t ∷ []);
      whole = d.whole ∙ ap (λ x. d.own ++ x) (o.1 ∙ ap (λ x. o.0 ++ x) e ∙ sym (append_assoc o.0 (t ∷ []) behind)) ∙ sym (append_assoc d.own (o.0 ++ t ∷ []) behind);
      into = λ {w = w} {r = r} {u = u} q.
          let inner : Chain P f l m ((o.0 ++ t ∷ []) ++ w) (v ∷ u) r = subst (λ x. Chain P f l m x (v ∷ u) r) (sym (append_assoc o.0 (t ∷ []) w)) (link g (o.2 (t ∷ w)) refl k q) in
          let outer : Chain P f l m0 (d.own ++ ((o.0 ++ t ∷ []) ++ w)) (vs ++ v ∷ u) r = d.into inner in
          subst (λ y. Chain P f l m0 ((d.own ++ (o.0 ++ t ∷ [])) ++ w) y r) (sym (append_assoc vs (v ∷ []) u))
          (subst (λ x. Chain P f l m0 x (vs ++ v ∷ u) r) (sym (append_assoc d.own (o.0 ++ t ∷ []) w)) outer);
      out = λ {w = w} {r = r} {v = ws} q.
          let a = d.out (subst (λ x. Chain P f l m0 x ws r) (append_assoc d.own (o.0 ++ t ∷ []) w) q) in
          let b = chain_out o.0 w r v t c g (o.2 (t ∷ w)) k (subst (λ x. Chain P f l m x a.0 r) (append_assoc o.0 (t ∷ []) w) a.1) in
          (b.0, b.1, a.2 ∙ ap (λ x. vs ++ x) b.2 ∙ sym (append_assoc vs (v ∷ []) b.0));
    }

-- what a chain goes on with after an element
chain_rest : {T M V : Type 0} {P : M → Phrases T V} {f : M → T → Option M} {l : M → Bool} {m : M} {ts r : List T} {vs : List V} → l m ≡ false → Chain P f l m ts vs r
    → (v : V) × (mid : List T) × (n : M) × (t : T) × (after : List T) × (us : List V) × P m ts v mid × (mid ≡ t ∷ after) × (f m t ≡ Some n) × Chain P f l n after us r
chain_rest g (end g') = absurd (cc (g, g'))
chain_rest g (link {n = n} {mid = mid} {after = a} {t = t} {v = v} {vs = us} g' p e k q) = (v, mid, n, t, a, us, p, e, k, q)

pub chain_element : {T M V : Type 0} {P : M → Phrases T V} {f : M → T → Option M} {l : M → Bool} {m : M} {ts at : List T} → l m ≡ false → Clear (P m) → AllLive P f l → Stuck (P m) ts at → Stuck (Chain P f l m) ts at
chain_element {P = P} {f = f} {l = l} {m = m} g c s k =
    let i = s m in
    let h = chain_rest g i.2 in
    stuck_behind {P = P m} {Q = Chain P f l m} []
    (λ w u p. (h.3 ∷ h.4, u ∷ h.5, link g (extend c p (h.3 ∷ h.4)) refl h.8 h.9))
    (λ w r v a q. let j = chain_rest g q in (j.0, j.1, j.6))
    k

pub chain_mark : {T M V : Type 0} {P : M → Phrases T V} {f : M → T → Option M} {l : M → Bool} {m : M} {ts mid at : List T} {v : V} → l m ≡ false → Clear (P m) → AllLive P f l → P m ts v mid
    → Stuck (One (λ t n. f m t ≡ Some n)) mid at → Stuck (Chain P f l m) ts at
chain_mark {T = T} {M = M} {V = V} {P = P} {f = f} {l = l} {m = m} {ts = ts} {mid = mid} {at = at} {v = v} g c s p k =
    let o = c.own p in
    subst (λ x. Stuck (Chain P f l m) x at) (sym o.1) (stuck_behind {P = One (λ t n. f m t ≡ Some n)} {Q = Chain P f l m} o.0
    (λ w n q. let i = s n in (i.0, v ∷ i.1, link g (o.2 (w ++ i.0)) (ap (λ x. x ++ i.0) q.1) q.2 i.2))
    (λ w r vs a q.
    let j = chain_rest g q in
    let e = c.one (o.2 w) j.6 in
    (j.2, j.4, (j.3, e.1 ∙ j.7, j.8)))
    k)
