-- Phrases that are read, or where the tokens are stuck.
use Rattle.std.proofs.Common.{◌≡◌, ◌≢◌, ◌⊎◌, inl, inr, ℕ, zero, suc, ◌<◌, List, [], ◌∷◌, ◌++◌, length, append_assoc, Option, Some, None, Bool, true, false, refl, ap, sym, ◌∙◌, subst, arith}
use Rattle.std.specs.List.{AllByRecursion}
use Rattle.dk_base.specs.declared.span.Span.{Span}
use Rattle.dk_grammar.specs.Reading.{Phrases, One, IsClass, Then, Done, Clear, Stuck, Listed, last, another, Chain, end, link}
use Rattle.std.proofs.lemmas.Bool.{cases_Bool}
use Rattle.std.proofs.lemmas.Option.{same_Some}
use Rattle.dk_grammar.proofs.Clears.{clear_one, clear_then, clear_done, clear_listed}
use Rattle.dk_grammar.proofs.Stucks.{stuck_one, then_first, then_second, Reached, reached_stuck, listed_element, listed_mark, listed_next, listed_fewer}
use Rattle.dk_grammar.proofs.Chains.{AllClear, AllLive, chain_element, chain_mark, chain_start, chain_next, clear_chain}
use Rattle.verilog_text.specs.declared.token.Token.{Token}
use Rattle.verilog_text.specs.declared.token.TokenKind.{TokenKind}
use Rattle.verilog_text.specs.declared.token.TokenKind.TheVariants as kind
use Rattle.verilog_parse.specs.Forms.{Is, Gives}
use Rattle.verilog_parse.proofs.Fronts.{is_class}

-- a phrase at the front of the tokens, or where they are stuck
abbrev pub Read : {V : Type 0} → Phrases Token V → List Token → Type 0
Read {V = V} P ts = ((v : V) × (rest : List Token) × P ts v rest) ⊎ ((at : List Token) × Stuck P ts at)

-- none of these tokens is the end of the text
abbrev pub Endless : List Token → Type 0
Endless ts = AllByRecursion (λ (t : Token). t.kind ≢ kind.End) ts

-- such tokens are before the rest
abbrev pub Leaves : List Token → List Token → Type 0
Leaves ts rest = (own : List Token) × (ts ≡ own ++ rest) × Endless own

abbrev pub IsEndless : {V : Type 0} → Phrases Token V → Type 0
IsEndless {V = V} P = (ts rest : List Token) (v : V) → P ts v rest → Leaves ts rest

-- the phrase is read in each list of tokens, and has no end of the text in it
pub record Reader {V : Type 0} (P : Phrases Token V) : Type 0 where
  pub clear : Clear P
  pub endless : IsEndless P
  pub reads : (ts : List Token) → Read P ts

endless_append : (xs ys : List Token) → Endless xs → Endless ys → Endless (xs ++ ys)
endless_append [] ys a b = b
endless_append (x ∷ xs) ys a b = (a.0, endless_append xs ys a.1 b)

pub leaves_then : (ts mid rest : List Token) → Leaves ts mid → Leaves mid rest → Leaves ts rest
leaves_then ts mid rest a b = (a.0 ++ b.0, a.1 ∙ ap (λ x. a.0 ++ x) b.1 ∙ sym (append_assoc a.0 b.0 rest), endless_append a.0 b.0 a.2 b.2)

pub then_read : {U V : Type 0} {P : Phrases Token U} {Q : U → Phrases Token V} (ts : List Token) → Clear P → ((u : U) → Clear (Q u)) → Read P ts → ((u : U) (mid : List Token) → P ts u mid → Read (Q u) mid) → Read (Then P Q) ts
then_read ts c d (inr bad) k = inr (bad.0, then_first c d bad.1)
then_read {P = P} {Q = Q} ts c d (inl good) k = by (k good.0 good.1 good.2)
  where
    by : Read (Q good.0) good.1 → Read (Then P Q) ts
    by (inl next) = inl (next.0, next.1, (good.0, good.1, good.2, next.2))
    by (inr bad) = inr (bad.0, then_second c good.2 bad.1)

-- what follows a phrase is read where its value is that of such a phrase
pub then_reader_of : {U V : Type 0} {P : Phrases Token U} {Q : U → Phrases Token V} → Reader P → ((u : U) → Clear (Q u)) → ((ts mid : List Token) (u : U) → P ts u mid → Reader (Q u)) → Reader (Then P Q)
then_reader_of a d b = record {
  clear = clear_then a.clear d;
  endless = λ ts rest v p. leaves_then ts p.1 rest (a.endless ts p.1 p.0 p.2) ((b ts p.1 p.0 p.2).endless p.1 rest v p.3);
  reads = λ ts. then_read ts a.clear d (a.reads ts) (λ u mid p. (b ts mid u p).reads mid);
}

pub then_reader : {U V : Type 0} {P : Phrases Token U} {Q : U → Phrases Token V} → Reader P → ((u : U) → Reader (Q u)) → Reader (Then P Q)
then_reader a b = then_reader_of a (λ u. (b u).clear) (λ ts mid u p. b u)

pub done_reader : {V : Type 0} (v : V) → Reader (Done {T = Token} v)
done_reader v = record { clear = clear_done v; endless = λ ts rest w p. ([], p.1, tt); reads = λ ts. inl (v, ts, (refl, refl)) }

-- Single tokens.
abbrev pub Decides : TokenKind → Type 0
Decides k = (j : TokenKind) → (j ≡ k) ⊎ (j ≢ k)

pub kind_read : (k : TokenKind) → Decides k → (ts : List Token) → Read (One (Is k)) ts
kind_read k d [] = inr ([], stuck_one {R = Is k} [] (is_class k) tt)
kind_read k d (t ∷ ts) = by (d t.kind)
  where
    by : (t.kind ≡ k) ⊎ (t.kind ≢ k) → Read (One (Is k)) (t ∷ ts)
    by (inl is) = inl (tt, ts, (t, refl, is))
    by (inr other) = inr (t ∷ ts, stuck_one {R = Is k} (t ∷ ts) (is_class k) (λ v g. other g))

pub kind_reader : (k : TokenKind) → Decides k → k ≢ kind.End → Reader (One (Is k))
kind_reader k d other = record {
  clear = clear_one (is_class k);
  endless = λ ts rest v p. (p.0 ∷ [], p.1, (λ e. other (sym p.2 ∙ e), tt));
  reads = kind_read k d;
}

class_read : {V : Type 0} (f : TokenKind → Span → Option V) → IsClass (Gives f) → (ts : List Token) → Read (One (Gives f)) ts
class_read f k [] = inr ([], stuck_one {R = Gives f} [] k tt)
class_read f k (t ∷ ts) = by (f t.kind t.span) refl
  where
    by : (o : Option _) → f t.kind t.span ≡ o → Read (One (Gives f)) (t ∷ ts)
    by (Some v) e = inl (v, ts, (t, refl, e))
    by None e = inr (t ∷ ts, stuck_one {R = Gives f} (t ∷ ts) k (λ v g. cc (e, g)))

pub class_reader : {V : Type 0} (f : TokenKind → Span → Option V) → IsClass (Gives f) → ((s : Span) → f kind.End s ≡ None) → Reader (One (Gives f))
class_reader f k n = record {
  clear = clear_one k;
  endless = λ ts rest v p. (p.0 ∷ [], p.1, (λ e. let h = p.2 in let none = n p.0.span in let at = ap (λ x. f x p.0.span) e in cc (h, none, at), tt));
  reads = class_read f k;
}

-- a token of a class, and what its value says
pub choice_reader : {U V : Type 0} {Q : U → Phrases Token V} (f : TokenKind → Span → Option U) → IsClass (Gives f) → ((s : Span) → f kind.End s ≡ None) → ((u : U) → Clear (Q u)) → ((k : TokenKind) (s : Span) (u : U) → f k s ≡ Some u → Reader (Q u)) → Reader (Then (One (Gives f)) Q)
choice_reader f k n c b = then_reader_of (class_reader f k n) c (λ ts mid u p. b p.0.kind p.0.span u p.2)

-- what holds of the one value of a token
pub chosen : {U : Type 0} (R : U → Type 0) (u v : U) → Some u ≡ Some v → R u → R v
chosen R u v e r = subst R (same_Some u v e) r

-- Lists.
module _ {V : Type 0} (P : Phrases Token V) (f : TokenKind → Option Bool) (p : Reader P) (mark : Reader (One (Gives (λ k s. f k)))) (t0 : Token) (is : f t0.kind ≡ Some false) where
  abbrev List' : Phrases Token (List V)
  List' = Listed P (λ (t : Token). f t.kind)

  listed_endless : {ts rest : List Token} {vs : List V} → List' ts vs rest → Leaves ts rest
  listed_endless (last {mid = mid} {rest = rest} {t = t} {v = v} q e k) = leaves_then _ mid rest (p.endless _ mid v q) (mark.endless mid rest false (t, e, k))
  listed_endless (another {mid = mid} {after = after} {rest = rest} {t = t} {v = v} q e k l) =
      leaves_then _ mid rest (p.endless _ mid v q) (leaves_then mid after rest (mark.endless mid after true (t, e, k)) (listed_endless l))

  listed_start : (ts : List Token) → Reached List' List' (λ vs. [] ++ vs) ts ts
  listed_start ts = record { own = []; whole = refl; into = λ q. q; out = λ {v = v} q. (v, q, refl) }

  listed_next_read : (ts : List Token) → ((us : List Token) → length us < length ts → Read List' us) → Read List' ts
  listed_next_read ts again = by (p.reads ts)
    where
      going : (v : V) (t : Token) (after : List Token) → P ts v (t ∷ after) → f t.kind ≡ Some true → Read List' after → Read List' ts
      going v t after q e (inl (vs, rest, r)) = inl (v ∷ vs, rest, another q refl e r)
      going v t after q e (inr bad) = inr (bad.0, reached_stuck (listed_next [] p.clear (listed_start ts) q refl e) bad.1)

      follows : (v : V) (mid : List Token) → P ts v mid → Read (One (Gives (λ k s. f k))) mid → Read List' ts
      follows v mid q (inr bad) = inr (bad.0, listed_mark t0 is p.clear q bad.1)
      follows v mid q (inl (false, after, (t, e, k))) = inl (v ∷ [], after, last q e k)
      follows v mid q (inl (true, after, (t, e, k))) = going v t after (subst (λ x. P ts v x) e q) k (again after (listed_fewer t p.clear q e))

      by : Read P ts → Read List' ts
      by (inr bad) = inr (bad.0, listed_element t0 is p.clear bad.1)
      by (inl (v, mid, q)) = follows v mid q (mark.reads mid)

  listed_read : (fuel : ℕ) (ts : List Token) → length ts < fuel → Read List' ts
  listed_read zero ts l = absurd (omega (arith, l))
  listed_read (suc fuel) ts l = listed_next_read ts (λ us less. listed_read fuel us (omega (arith, l, less)))

  pub listed_reader : Reader List'
  listed_reader = record {
    clear = clear_listed t0 is p.clear;
    endless = λ ts rest vs q. listed_endless q;
    reads = λ ts. listed_read (suc (length ts)) ts (omega arith);
  }

-- Chains, from a state of which this holds on.
module _ {M V : Type 0} (P : M → Phrases Token V) (f : M → TokenKind → Span → Option M) (l : M → Bool) (Good : M → Type 0) (good : (m n : M) (k : TokenKind) (s : Span) → Good m → f m k s ≡ Some n → Good n)
    (clears : AllClear P l) (live : AllLive P (λ m (t : Token). f m t.kind t.span) l) (p : (m : M) → Good m → l m ≡ false → Reader (P m)) (mark : (m : M) → Good m → l m ≡ false → Reader (One (Gives (f m)))) where
  abbrev From : M → Phrases Token (List V)
  From m = Chain P (λ m (t : Token). f m t.kind t.span) l m

  chain_endless : {m : M} {ts rest : List Token} {vs : List V} → Good m → From m ts vs rest → Leaves ts rest
  chain_endless h (end g) = ([], refl, tt)
  chain_endless h (link {m = m} {n = n} {mid = mid} {after = after} {rest = rest} {t = t} {v = v} g q e k c) =
      leaves_then _ mid rest ((p m h g).endless _ mid v q) (leaves_then mid after rest ((mark m h g).endless mid after n (t, e, k)) (chain_endless (good m n t.kind t.span h k) c))

  chain_next_read : (m : M) (ts : List Token) → Good m → l m ≡ false → ((n : M) (us : List Token) → Good n → length us < length ts → Read (From n) us) → Read (From m) ts
  chain_next_read m ts h g again = by ((p m h g).reads ts)
    where
      going : (v : V) (t : Token) (after : List Token) (n : M) → P m ts v (t ∷ after) → f m t.kind t.span ≡ Some n → Read (From n) after → Read (From m) ts
      going v t after n q e (inl (vs, rest, r)) = inl (v ∷ vs, rest, link g q refl e r)
      going v t after n q e (inr bad) = inr (bad.0, reached_stuck (chain_next [] (clears m g) g (chain_start m ts) q refl e) bad.1)

      follows : (v : V) (mid : List Token) → P m ts v mid → Read (One (Gives (f m))) mid → Read (From m) ts
      follows v mid q (inr bad) = inr (bad.0, chain_mark g (clears m g) live q bad.1)
      follows v mid q (inl (n, after, (t, e, k))) = going v t after n (subst (λ x. P m ts v x) e q) k (again n after (good m n t.kind t.span h k) (listed_fewer t (clears m g) q e))

      by : Read (P m) ts → Read (From m) ts
      by (inr bad) = inr (bad.0, chain_element g (clears m g) live bad.1)
      by (inl (v, mid, q)) = follows v mid q ((mark m h g).reads mid)

  chain_read : (fuel : ℕ) (m : M) (ts : List Token) → Good m → length ts < fuel → Read (From m) ts
  chain_read zero m ts h less = absurd (omega (arith, less))
  chain_read (suc fuel) m ts h less = elim (cases_Bool (l m)) [
    | inl stops ↦ inl ([], ts, end stops)
    | inr goes ↦ chain_next_read m ts h goes (λ n us i fewer. chain_read fuel n us i (omega (arith, less, fewer)))
  ]

  pub chain_reader : (m : M) → Good m → Reader (From m)
  chain_reader m h = record {
    clear = clear_chain m clears live;
    endless = λ ts rest vs c. chain_endless h c;
    reads = λ ts. chain_read (suc (length ts)) m ts h (omega arith);
  }
