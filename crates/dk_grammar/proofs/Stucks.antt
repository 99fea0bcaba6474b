-- How a fault inside a phrase is one of the phrase around it.
use Rattle.std.proofs.Common.{◌≡◌, suc, ◌+◌, ◌<◌, List, [], ◌∷◌, ◌++◌, length, take, Option, Some, Bool, true, false, refl, ap, sym, ◌∙◌, subst, append_assoc, arith}
use Rattle.dk_grammar.specs.Reading.{Phrases, One, IsClass, Then, Done, Clear, Alike, Stuck, IsFaulty, Listed, last, another}
use Rattle.dk_grammar.proofs.Clears.{append_nil, extend, marks, first_same, rest_same, clear_one, clear_then, clear_done, clear_listed}
use Rattle.std.proofs.lemmas.List.{length-append}

pub alike_behind : {T : Type 0} (p at w : List T) → Alike at w → Alike (p ++ at) (p ++ w)
alike_behind [] at w a = a
alike_behind (t ∷ p) at w a = (p ++ w, refl)

-- the token at the front is worth nothing
abbrev pub NoneHere : {T V : Type 0} → (T → V → Type 0) → List T → Type 0
NoneHere R [] = Unit {0}
NoneHere {V = V} R (t ∷ ts) = (v : V) → R t v → ⊥

none_here : {T V : Type 0} (R : T → V → Type 0) (at w r : List T) (t : T) (v : V) → NoneHere R at → Alike at w → w ≡ t ∷ r → R t v → ⊥
none_here R [] w r t v n a e k = cc (a, e)
none_here R (s ∷ at) w r t v n a e k = n v (subst (λ x. R x v) (sym (first_same _ _ _ _ (sym a.1 ∙ e))) k)

pub stuck_one : {T V : Type 0} {R : T → V → Type 0} (ts : List T) → IsClass R → NoneHere R ts → Stuck (One R) ts ts
stuck_one {R = R} ts k n = record {
  taken = [];
  whole = refl;
  more = k.token ∷ [];
  value = k.value;
  begins = (k.token, refl, k.some);
  none = λ w r v a p. none_here R ts w r p.0 v n a p.1 p.2;
}

pub then_first : {T U V : Type 0} {P : Phrases T U} {Q : U → Phrases T V} {ts at : List T} → Clear P → ((u : U) → Clear (Q u)) → Stuck P ts at → Stuck (Then P Q) ts at
then_first {P = P} {Q = Q} c d s =
    let q = (d s.value).some in
    record {
      taken = s.taken;
      whole = s.whole;
      more = s.more ++ q.0;
      value = q.1;
      begins = (s.value, q.0, subst (λ x. P x s.value q.0) (append_assoc s.taken s.more q.0) (extend c s.begins q.0), q.2);
      none = λ w r v a p. s.none w p.1 p.0 a p.2;
    }

pub then_second : {T U V : Type 0} {P : Phrases T U} {Q : U → Phrases T V} {ts mid at : List T} {u : U} → Clear P → P ts u mid → Stuck (Q u) mid at → Stuck (Then P Q) ts at
then_second {T = T} {P = P} {Q = Q} {ts = ts} {mid = mid} {at = at} {u = u} c p s =
    let o = c.own p in
    record {
      taken = o.0 ++ s.taken;
      whole = o.1 ∙ ap (λ x. o.0 ++ x) s.whole ∙ sym (append_assoc o.0 s.taken at);
      more = s.more;
      value = s.value;
      begins = (u, s.taken ++ s.more, subst (λ x. P x u (s.taken ++ s.more)) (sym (append_assoc o.0 s.taken s.more)) (o.2 (s.taken ++ s.more)), s.begins);
      none = λ w r v a q.
          let same = c.one (o.2 (s.taken ++ w)) (subst (λ x. P x q.0 q.1) (append_assoc o.0 s.taken w) q.2) in
          s.none w r v a (subst (λ m. Q u m v r) (sym same.1) (subst (λ x. Q x q.1 v r) (sym same.0) q.3));
    }

take_front : {T : Type 0} (xs ys : List T) → take (length xs) (xs ++ ys) ≡ xs
take_front [] ys = refl
take_front (x ∷ xs) ys = ap (λ z. x ∷ z) (take_front xs ys)

take_front_more : {T : Type 0} (xs ys : List T) (t : T) → take (suc (length xs)) (xs ++ t ∷ ys) ≡ xs ++ t ∷ []
take_front_more [] ys t = refl
take_front_more (x ∷ xs) ys t = ap (λ z. x ∷ z) (take_front_more xs ys t)

inside_of : {T : Type 0} (xs ys : List T) (t : T) → length xs < length (xs ++ t ∷ ys)
inside_of [] ys t = omega arith
inside_of (x ∷ xs) ys t = let h = inside_of xs ys t in omega (arith, h)

pub faulty : {T V : Type 0} (P : Phrases T V) (ts after : List T) (t : T) (s : Stuck P ts (t ∷ after)) → IsFaulty (λ w. (v : V) × P w v []) ts (length s.taken)
faulty P ts after t s =
    rw s.whole (record {
      inside = inside_of s.taken after t;
      before = (s.more, (s.value, rw (take_front s.taken (t ∷ after)) s.begins));
      none = λ b. s.none (t ∷ b.0) [] b.1.0 (b.0, refl)
          (subst (λ x. P x b.1.0 []) (append_assoc s.taken (t ∷ []) b.0) (subst (λ x. P (x ++ b.0) b.1.0 []) (take_front_more s.taken after t) b.1.1));
    })

-- What P reads at ts is f of what Q reads at rest, whatever is in place of rest.
pub record Reached {T U V : Type 0} (P : Phrases T V) (Q : Phrases T U) (f : U → V) (ts rest : List T) : Type 0 where
  pub own : List T
  pub whole : ts ≡ own ++ rest
  pub into : {w r : List T} {u : U} → Q w u r → P (own ++ w) (f u) r
  pub out : {w r : List T} {v : V} → P (own ++ w) v r → (u : U) × Q w u r × (v ≡ f u)

pub reached_stuck : {T U V : Type 0} {P : Phrases T V} {Q : Phrases T U} {f : U → V} {ts rest at : List T} → Reached P Q f ts rest → Stuck Q rest at → Stuck P ts at
reached_stuck {T = T} {P = P} {f = f} {at = at} d s = record {
  taken = d.own ++ s.taken;
  whole = d.whole ∙ ap (λ x. d.own ++ x) s.whole ∙ sym (append_assoc d.own s.taken at);
  more = s.more;
  value = f s.value;
  begins = subst (λ x. P x (f s.value) []) (sym (append_assoc d.own s.taken s.more)) (d.into s.begins);
  none = λ w r v a p.
      let o = d.out (subst (λ x. P x v r) (append_assoc d.own s.taken w) p) in
      s.none w r o.0 a o.1;
}

pub reached_whole : {T U V : Type 0} {P : Phrases T V} {Q : Phrases T U} {f : U → V} {ts rest after : List T} {u : U} → Reached P Q f ts rest → Q rest u after → P ts (f u) after
reached_whole {P = P} {f = f} {after = after} {u = u} d q = subst (λ x. P x (f u) after) (sym d.whole) (d.into q)

listed_out : {T V : Type 0} {P : Phrases T V} {f : T → Option Bool} (o w r : List T) (v : V) {vs : List V} (t : T) → Clear P → P (o ++ t ∷ w) v (t ∷ w) → f t ≡ Some true
    → Listed P f (o ++ t ∷ w) vs r → (us : List V) × Listed P f w us r × (vs ≡ v ∷ us)
listed_out {f = f} o w r v t c h k (last {t = t'} p e k') =
    let s = c.one h p in
    let m = marks f t t' true false k k' (first_same _ _ _ _ (s.1 ∙ e)) in
    absurd (cc)
listed_out {P = P} {f = f} o w r v t c h k (another {t = t'} {vs = vs'} p e k' l) =
    let s = c.one h p in
    (vs', subst (λ x. Listed P f x vs' r) (sym (rest_same _ _ _ _ (s.1 ∙ e))) l, ap (λ x. x ∷ vs') (sym s.0))

pub listed_next : {T V : Type 0} {P : Phrases T V} {f : T → Option Bool} (vs : List V) {ts mid after behind : List T} {v : V} {t : T} → Clear P
    → Reached (Listed P f) (Listed P f) (λ us. vs ++ us) ts mid → P mid v after → after ≡ t ∷ behind → f t ≡ Some true
    → Reached (Listed P f) (Listed P f) (λ us. (vs ++ v ∷ []) ++ us) ts behind
listed_next {T = T} {V = V} {P = P} {f = f} vs {ts = ts} {behind = behind} {v = v} {t = t} c d p e k =
    let o = c.own p in
    record {
      own = d.own ++ (o.0 ++ t ∷ []);
      whole = d.whole ∙ ap (λ x. d.own ++ x) (o.1 ∙ ap (λ x. o.0 ++ x) e ∙ sym (append_assoc o.0 (t ∷ []) behind)) ∙ sym (append_assoc d.own (o.0 ++ t ∷ []) behind);
      into = λ {w = w} {r = r} {u = u} q.
          let inner : Listed P f ((o.0 ++ t ∷ []) ++ w) (v ∷ u) r = subst (λ x. Listed P f x (v ∷ u) r) (sym (append_assoc o.0 (t ∷ []) w)) (another (o.2 (t ∷ w)) refl k q) in
          let outer : Listed P f (d.own ++ ((o.0 ++ t ∷ []) ++ w)) (vs ++ v ∷ u) r = d.into inner in
          subst (λ y. Listed P f ((d.own ++ (o.0 ++ t ∷ [])) ++ w) y r) (sym (append_assoc vs (v ∷ []) u))
          (subst (λ x. Listed P f x (vs ++ v ∷ u) r) (sym (append_assoc d.own (o.0 ++ t ∷ []) w)) outer);
      out = λ {w = w} {r = r} {v = ws} q.
          let a = d.out (subst (λ x. Listed P f x ws r) (append_assoc d.own (o.0 ++ t ∷ []) w) q) in
          let b = listed_out o.0 w r v t c (o.2 (t ∷ w)) k (subst (λ x. Listed P f x a.0 r) (append_assoc o.0 (t ∷ []) w) a.1) in
          (b.0, b.1, a.2 ∙ ap (λ x. vs ++ x) b.2 ∙ sym (append_assoc vs (v ∷ []) b.0));
    }

-- Two languages that are the same have the same faults.
pub stuck_same : {T V : Type 0} {P Q : Phrases T V} {ts at : List T} → ((w r : List T) (v : V) → P w v r → Q w v r) → ((w r : List T) (v : V) → Q w v r → P w v r) → Stuck P ts at → Stuck Q ts at
stuck_same to from s = record {
  taken = s.taken;
  whole = s.whole;
  more = s.more;
  value = s.value;
  begins = to _ _ _ s.begins;
  none = λ w r v a q. s.none w r v a (from _ _ _ q);
}

-- a list is an element, a token that says whether it goes on, and the rest
pub tail : {T V : Type 0} → Phrases T V → (T → Option Bool) → V → Bool → Phrases T (List V)
tail P f v true = Then (Listed P f) (λ us. Done (v ∷ us))
tail P f v false = Done (v ∷ [])

pub Unfolded : {T V : Type 0} → Phrases T V → (T → Option Bool) → Phrases T (List V)
Unfolded P f = Then P (λ v. Then (One (λ t b. f t ≡ Some b)) (λ b. tail P f v b))

mark_class : {T : Type 0} (f : T → Option Bool) (t : T) → f t ≡ Some false → IsClass (λ t b. f t ≡ Some b)
mark_class f t e = record { one = λ t a b p q. marks f t t a b p q refl; token = t; value = false; some = e }

clear_tail : {T V : Type 0} {P : Phrases T V} (f : T → Option Bool) (t : T) → f t ≡ Some false → Clear P → (v : V) (b : Bool) → Clear (tail P f v b)
unfolding tail
clear_tail f t e c v true = clear_then (clear_listed t e c) (λ us. clear_done _)
clear_tail f t e c v false = clear_done _

fold_list : {T V : Type 0} (P : Phrases T V) (f : T → Option Bool) (v : V) (b : Bool) (w m a r : List T) (t : T) (vs : List V) → P w v m → m ≡ t ∷ a → f t ≡ Some b → tail P f v b a vs r → Listed P f w vs r
unfolding tail
fold_list P f v true w m a r t vs p e k q = subst (λ x. Listed P f w x r) q.3.0 (subst (λ x. Listed P f w (v ∷ q.0) x) q.3.1 (another p e k q.2))
fold_list P f v false w m a r t vs p e k q = subst (λ x. Listed P f w x r) q.0 (subst (λ x. Listed P f w (v ∷ []) x) q.1 (last p e k))

unfold_list : {T V : Type 0} {P : Phrases T V} {f : T → Option Bool} {w r : List T} {vs : List V} → Listed P f w vs r → Unfolded P f w vs r
unfolding tail Unfolded
unfold_list (last {mid = m} {rest = r} {t = t} {v = v} p e k) = (v, m, p, (false, r, (t, e, k), (refl, refl)))
unfold_list (another {mid = m} {after = a} {rest = r} {t = t} {v = v} {vs = vs} p e k l) = (v, m, p, (true, a, (t, e, k), (vs, r, l, (refl, refl))))

refold : {T V : Type 0} (P : Phrases T V) (f : T → Option Bool) (w r : List T) (vs : List V) → Unfolded P f w vs r → Listed P f w vs r
unfolding Unfolded
refold P f w r vs u = let i = u.3 in fold_list P f u.0 i.0 w u.1 i.1 r i.2.0 vs u.2 i.2.1 i.2.2 i.3

pub listed_element : {T V : Type 0} {P : Phrases T V} {f : T → Option Bool} {ts at : List T} (t : T) → f t ≡ Some false → Clear P → Stuck P ts at → Stuck (Listed P f) ts at
unfolding Unfolded
listed_element {P = P} {f = f} t e c s =
    stuck_same {P = Unfolded P f} (λ w r v u. refold P f w r v u) (λ w r v l. unfold_list l)
    (then_first c (λ v. clear_then (clear_one (mark_class f t e)) (λ b. clear_tail f t e c v b)) s)

pub listed_mark : {T V : Type 0} {P : Phrases T V} {f : T → Option Bool} {ts mid at : List T} {v : V} (t : T) → f t ≡ Some false → Clear P → P ts v mid
    → Stuck (One (λ t b. f t ≡ Some b)) mid at → Stuck (Listed P f) ts at
unfolding Unfolded
listed_mark {P = P} {f = f} {v = v} t e c p s =
    stuck_same {P = Unfolded P f} (λ w r v u. refold P f w r v u) (λ w r v l. unfold_list l)
    (then_second c p (then_first (clear_one (mark_class f t e)) (λ b. clear_tail f t e c v b) s))

-- after an element and a mark fewer tokens are left
pub listed_fewer : {T V : Type 0} {P : Phrases T V} {ts mid behind : List T} {v : V} (t : T) → Clear P → P ts v mid → mid ≡ t ∷ behind → length behind < length ts
listed_fewer {behind = b} t c p e =
    let o = c.own p in
    let h : length (o.0 ++ t ∷ b) ≡ length o.0 + length (t ∷ b) = length-append o.0 (t ∷ b) in
    let w = ap (λ x. length x) (o.1 ∙ ap (λ x. o.0 ++ x) e) in
    omega (arith, h, w)

-- A fault of P is one of Q, where after the front every Q goes on as a P does, and a P can be made a Q.
pub stuck_behind : {T U V : Type 0} {P : Phrases T U} {Q : Phrases T V} (front : List T) {mid at : List T}
    → ((w : List T) (u : U) → P w u [] → (m : List T) × (v : V) × Q (front ++ (w ++ m)) v [])
    → ((w r : List T) (v : V) → Alike mid w → Q (front ++ w) v r → (u : U) × (s : List T) × P w u s)
    → Stuck P mid at → Stuck Q (front ++ mid) at
stuck_behind {Q = Q} front {mid = mid} {at = at} into out s =
    let made = into (s.taken ++ s.more) s.value s.begins in
    record {
      taken = front ++ s.taken;
      whole = ap (λ x. front ++ x) s.whole ∙ sym (append_assoc front s.taken at);
      more = s.more ++ made.0;
      value = made.1;
      begins = subst (λ x. Q x made.1 []) (sym (append_assoc front s.taken (s.more ++ made.0) ∙ ap (λ x. front ++ x) (sym (append_assoc s.taken s.more made.0)))) made.2;
      none = λ w r v a q.
          let like : Alike mid (s.taken ++ w) = subst (λ x. Alike x (s.taken ++ w)) (sym s.whole) (alike_behind s.taken at w a) in
          let o = out (s.taken ++ w) r v like (subst (λ x. Q x v r) (append_assoc front s.taken w) q) in
          s.none w o.1 o.0 a o.2;
    }

-- The same, where no more tokens are needed.
pub stuck_within : {T U V : Type 0} {P : Phrases T U} {Q : Phrases T V} (front : List T) {mid at : List T}
    → ((w : List T) (u : U) → P w u [] → (v : V) × Q (front ++ w) v [])
    → ((w r : List T) (v : V) → Alike mid w → Q (front ++ w) v r → (u : U) × (s : List T) × P w u s)
    → Stuck P mid at → Stuck Q (front ++ mid) at
stuck_within {Q = Q} front into out s =
    stuck_behind front (λ w u p. let q = into w u p in ([], q.0, subst (λ x. Q (front ++ x) q.0 []) (sym (append_nil w)) q.1)) out s

-- A fault at the first token.
pub stuck_here : {T V : Type 0} {P : Phrases T V} (at more : List T) (v : V) → P more v [] → ((w r : List T) (u : V) → Alike at w → P w u r → ⊥) → Stuck P at at
stuck_here at more v begins none = record { taken = []; whole = refl; more = more; value = v; begins = begins; none = none }

-- what begins alike has the same first token
pub front_alike : {T : Type 0} (at w r : List T) (t : T) → Alike at w → w ≡ t ∷ r → (s : List T) × (at ≡ t ∷ s)
front_alike [] w r t a e = cc (a, e)
front_alike (u ∷ at) w r t a e = let h = a.1 in (at, cc (h, e))
