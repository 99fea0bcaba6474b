-- Lists of reads in order.
use Rattle.std.proofs.Common.{◌≡◌, ℕ, zero, suc, ◌<◌, ℤ, pos, ◌+ℤ◌, ◌≤ℤ◌, ◌<ℤ◌, ◌⊎◌, inl, inr, List, [], ◌∷◌, ◌++◌, length, slice_index_or, Contains, refl, sym, ap, subst, ◌∙◌, arith}
use Rattle.std.proofs.lemmas.Int.{ints}
use Rattle.std.proofs.lemmas.Bool.{cases_order}
use Rattle.std.proofs.lemmas.List.{length-append}
use Rattle.dk_base.specs.declared.stencils.LiveRead.{LiveRead}
use Rattle.dk_base.specs.Stencils.{IsBefore, AreInOrder}
use Rattle.pointwise_ir.specs.Stencils.{the}
use Rattle.pointwise_ir.proofs.ReadLists.{head_in, tail_in, one_of, none_in}
use Rattle.stencil_sets.specs.Found.{AllBefore, Within, IsRun, RunSoFar}
use Rattle.frame_paths.proofs.Chains.{either}

at_front : (xs : List LiveRead) (r d : LiveRead) (i : ℕ) → i < length xs → slice_index_or (xs ++ r ∷ []) i d ≡ slice_index_or xs i d
at_front [] r d i h = absurd (omega (arith, h))
at_front (x ∷ xs) r d zero h = refl
at_front (x ∷ xs) r d (suc i) h = at_front xs r d i (omega (arith, h))

at_end : (xs : List LiveRead) (r d : LiveRead) → slice_index_or (xs ++ r ∷ []) (length xs) d ≡ r
at_end [] r d = refl
at_end (x ∷ xs) r d = at_end xs r d

one_before : (xs : List LiveRead) (r d : LiveRead) (i : ℕ) → AllBefore xs r → i < length xs → IsBefore (slice_index_or xs i d) r
one_before [] r d i b h = absurd (omega (arith, h))
one_before (x ∷ xs) r d zero b h = b.0
one_before (x ∷ xs) r d (suc i) b h = one_before xs r d i b.1 (omega (arith, h))

in_order_at : (xs : List LiveRead) (r : LiveRead) → AreInOrder xs → AllBefore xs r → (i j : ℕ) (d : LiveRead) → i < j → j < length (xs ++ r ∷ []) → (j ≡ length xs) ⊎ ((j < length xs) ⊎ (length xs < j))
    → IsBefore (slice_index_or (xs ++ r ∷ []) i d) (slice_index_or (xs ++ r ∷ []) j d)
in_order_at xs r o b i j d h k (inl e) =
    let f : i < length xs = omega (arith, h, e) in
    subst (λ y. IsBefore (slice_index_or (xs ++ r ∷ []) i d) y) (sym (ap (λ n. slice_index_or (xs ++ r ∷ []) n d) e ∙ at_end xs r d))
    (subst (λ x. IsBefore x r) (sym (at_front xs r d i f)) (one_before xs r d i b f))
in_order_at xs r o b i j d h k (inr (inl l)) =
    subst (λ y. IsBefore (slice_index_or (xs ++ r ∷ []) i d) y) (sym (at_front xs r d j l))
    (subst (λ x. IsBefore x (slice_index_or xs j d)) (sym (at_front xs r d i (omega (arith, h, l)))) (o i j d h l))
in_order_at xs r o b i j d h k (inr (inr g)) = let e = length-append xs (r ∷ []) in absurd (omega (arith, k, g, e))

pub in_order_more : (xs : List LiveRead) (r : LiveRead) → AreInOrder xs → AllBefore xs r → AreInOrder (xs ++ r ∷ [])
in_order_more xs r o b i j d h k = in_order_at xs r o b i j d h k (cases_order j (length xs))

-- what is before a place is before each later one
before_later : (a b c : LiveRead) → IsBefore a b → ((b.f < c.f) ⊎ ((b.f ≡ c.f) × ((b.g < c.g) ⊎ ((b.g ≡ c.g) × ((b.dy <ℤ c.dy) ⊎ ((b.dy ≡ c.dy) × (b.dx ≤ℤ c.dx))))))) → IsBefore a c
before_later a b c p (inl h) = record { reader = omega (arith, p.reader, h); source = λ e. absurd (omega (arith, p.reader, h, e)); rows = λ e g. absurd (omega (arith, p.reader, h, e)); columns = λ e g r. absurd (omega (arith, p.reader, h, e)) }
before_later a b c p (inr (s, inl h)) = record {
  reader = omega (arith, p.reader, s);
  source = λ e. let k = p.source (e ∙ sym s) in omega (arith, k, h);
  rows = λ e g. let k = p.source (e ∙ sym s) in absurd (omega (arith, k, h, g));
  columns = λ e g r. let k = p.source (e ∙ sym s) in absurd (omega (arith, k, h, g));
}
before_later a b c p (inr (s, inr (t, inl h))) = record {
  reader = omega (arith, p.reader, s);
  source = λ e. let k = p.source (e ∙ sym s) in omega (arith, k, t);
  rows = λ e g. let k = p.rows (e ∙ sym s) (g ∙ sym t) in omega (arith, ints, k, h);
  columns = λ e g r. let k = p.rows (e ∙ sym s) (g ∙ sym t) in absurd (omega (arith, ints, k, h, r));
}
before_later a b c p (inr (s, inr (t, inr (u, h)))) = record {
  reader = omega (arith, p.reader, s);
  source = λ e. let k = p.source (e ∙ sym s) in omega (arith, k, t);
  rows = λ e g. let k = p.rows (e ∙ sym s) (g ∙ sym t) in omega (arith, ints, k, u);
  columns = λ e g r. let k = p.columns (e ∙ sym s) (g ∙ sym t) (r ∙ sym u) in omega (arith, ints, k, h);
}

pub all_before_later : (xs : List LiveRead) (b c : LiveRead) → AllBefore xs b → ((b.f < c.f) ⊎ ((b.f ≡ c.f) × ((b.g < c.g) ⊎ ((b.g ≡ c.g) × ((b.dy <ℤ c.dy) ⊎ ((b.dy ≡ c.dy) × (b.dx ≤ℤ c.dx))))))) → AllBefore xs c
all_before_later [] b c p l = tt
all_before_later (x ∷ xs) b c p l = (before_later x b c p.0 l, all_before_later xs b c p.1 l)

all_before_more : (xs : List LiveRead) (r c : LiveRead) → AllBefore xs c → IsBefore r c → AllBefore (xs ++ r ∷ []) c
all_before_more [] r c p h = (h, tt)
all_before_more (x ∷ xs) r c p h = (p.0, all_before_more xs r c p.1 h)

-- one read more, in its row
pub row_more : (xs : List LiveRead) (f g : ℕ) (dx dy : ℤ) → AllBefore xs (the f g dx dy) → AllBefore (xs ++ the f g dx dy ∷ []) (the f g (dx +ℤ pos 1) dy)
row_more xs f g dx dy b =
    all_before_more xs (the f g dx dy) (the f g (dx +ℤ pos 1) dy) (all_before_later xs (the f g dx dy) (the f g (dx +ℤ pos 1) dy) b (inr (refl, inr (refl, inr (refl, omega (arith, ints))))))
    (record { reader = omega arith; source = λ e. omega arith; rows = λ e h. omega (arith, ints); columns = λ e h r. omega (arith, ints) })

contains_one : (r q : LiveRead) → (r ≡ q) ⊎ Contains [] q → r ≡ q
contains_one r q (inl e) = e
contains_one r q (inr n) = absurd (none_in q n)

contains_more : (xs : List LiveRead) (r q : LiveRead) → Contains (xs ++ r ∷ []) q → Contains xs q ⊎ (r ≡ q)
contains_more [] r q h = inr (contains_one r q (one_of r [] q h))
contains_more (x ∷ xs) r q h = first (one_of x (xs ++ r ∷ []) q h) (λ c. contains_more xs r q c)
  where
    more : Contains xs q ⊎ (r ≡ q) → Contains (x ∷ xs) q ⊎ (r ≡ q)
    more (inl c) = inl (tail_in x xs q c)
    more (inr e) = inr e

    first : (x ≡ q) ⊎ Contains (xs ++ r ∷ []) q → (Contains (xs ++ r ∷ []) q → Contains xs q ⊎ (r ≡ q)) → Contains (x ∷ xs) q ⊎ (r ≡ q)
    first (inl e) split = inl (subst (Contains (x ∷ xs)) e (head_in x xs))
    first (inr c) split = more (split c)

contains_same : (xs : List LiveRead) (r q : LiveRead) → Contains xs q ⊎ (r ≡ q) → Contains (xs ++ r ∷ []) q
contains_same [] r q (inl n) = absurd (none_in q n)
contains_same [] r q (inr e) = subst (Contains (r ∷ [])) e (head_in r [])
contains_same (x ∷ xs) r q (inr e) = tail_in x (xs ++ r ∷ []) q (contains_same xs r q (inr e))
contains_same (x ∷ xs) r q (inl h) = first (one_of x xs q h) (λ c. contains_same xs r q (inl c))
  where
    first : (x ≡ q) ⊎ Contains xs q → (Contains xs q → Contains (xs ++ r ∷ []) q) → Contains (x ∷ (xs ++ r ∷ [])) q
    first (inl e) rest = subst (Contains (x ∷ (xs ++ r ∷ []))) e (head_in x (xs ++ r ∷ []))
    first (inr c) rest = tail_in x (xs ++ r ∷ []) q (rest c)

the_are : (f f' g g' : ℕ) (dx dx' dy dy' : ℤ) → f' ≡ f → g' ≡ g → dx' ≡ dx → dy' ≡ dy → the f g dx dy ≡ the f' g' dx' dy'
the_are f f' g g' dx dx' dy dy' a b c d = rw (a, b, c, d) refl

run_split : (a b : ℕ) (row from col : ℤ) (f g : ℕ) (dx dy : ℤ) → (dx ≡ col) ⊎ (dx <ℤ col) → IsRun a b row from (col +ℤ pos 1) f g dx dy → IsRun a b row from col f g dx dy ⊎ (the a b col row ≡ the f g dx dy)
run_split a b row from col f g dx dy (inl e) r = inr (the_are a f b g col dx row dy r.reader r.source e r.down)
run_split a b row from col f g dx dy (inr l) r = inl (record { reader = r.reader; source = r.source; down = r.down; low = r.low; high = l })

next_col : (dx col : ℤ) → dx <ℤ (col +ℤ pos 1) → (dx ≤ℤ col) ⊎ (col <ℤ dx) → (col ≤ℤ dx) ⊎ (dx <ℤ col) → (dx ≡ col) ⊎ (dx <ℤ col)
next_col dx col h a (inr l) = inr l
next_col dx col h (inl a) (inl b) = inl (omega (arith, ints, a, b))
next_col dx col h (inr a) (inl b) = absurd (omega (arith, ints, h, a))

run_longer : (a b : ℕ) (row from col : ℤ) → from ≤ℤ col → (f g : ℕ) (dx dy : ℤ) → IsRun a b row from col f g dx dy ⊎ (the a b col row ≡ the f g dx dy) → IsRun a b row from (col +ℤ pos 1) f g dx dy
run_longer a b row from col k f g dx dy (inl r) = let h = r.high in record { reader = r.reader; source = r.source; down = r.down; low = r.low; high = omega (arith, ints, h) }
run_longer a b row from col k f g dx dy (inr i) =
    let e : col ≡ dx = ap (λ (q : LiveRead). q.dx) i in
    record {
      reader = sym (ap (λ (q : LiveRead). q.f) i);
      source = sym (ap (λ (q : LiveRead). q.g) i);
      down = sym (ap (λ (q : LiveRead). q.dy) i);
      low = omega (arith, ints, e, k);
      high = omega (arith, ints, e);
    }

third : {A B C D : Type 0} → (B ⊎ C → D) → (A ⊎ B) ⊎ C → A ⊎ D
third f (inl (inl a)) = inl a
third f (inl (inr b)) = inr (f (inl b))
third f (inr c) = inr (f (inr c))

split_third : {A B C D : Type 0} → (D → B ⊎ C) → A ⊎ D → (A ⊎ B) ⊎ C
split_third f (inl a) = inl (inl a)
split_third {A = A} {B = B} {C = C} f (inr d) = placed (f d)
  where
    placed : B ⊎ C → (A ⊎ B) ⊎ C
    placed (inl b) = inl (inr b)
    placed (inr c) = inr c

either_of : {A B C D : Type 0} → (A → C) → (B → D) → A ⊎ B → C ⊎ D
either_of f g (inl a) = inl (f a)
either_of f g (inr b) = inr (g b)

-- a run that ends early
pub run_within : (old mid new : List LiveRead) (a b : ℕ) (row row' from from' col end : ℤ) → row ≡ row' → from ≡ from' → col ≤ℤ end → new ≡ mid → RunSoFar old mid a b row from col
    → Within old new (λ f g dx dy. IsRun a b row' from' end f g dx dy)
run_within old mid new a b row row' from from' col end e k l same s =
    let P : List LiveRead → Type 0 = λ xs. Within old xs (λ f g dx dy. IsRun a b row' from' end f g dx dy) in
    subst P (sym same) (λ f g dx dy h. either_of (λ x. x) (λ r. longer f g dx dy r) ((s.gains f g dx dy).0 h))
  where
    longer : (f g : ℕ) (dx dy : ℤ) → IsRun a b row from col f g dx dy → IsRun a b row' from' end f g dx dy
    longer f g dx dy r =
        let low = r.low in
        let high = r.high in
        record { reader = r.reader; source = r.source; down = r.down ∙ e; low = omega (arith, ints, low, k); high = omega (arith, ints, high, l) }

pub run_more : (old new next : List LiveRead) (a b : ℕ) (row from col to : ℤ) → from ≤ℤ col → next ≡ new ++ the a b col row ∷ [] → to ≡ col +ℤ pos 1 → RunSoFar old new a b row from col → RunSoFar old next a b row from to
run_more old new next a b row from col to k e t s = rw (e, t) (record {
  order = in_order_more new (the a b col row) s.order s.before;
  gains = λ f g dx dy. (
    (λ h. third (run_longer a b row from col k f g dx dy) (either_of (s.gains f g dx dy).0 (λ i. i) (contains_more new (the a b col row) (the f g dx dy) h))),
    (λ h. contains_same new (the a b col row) (the f g dx dy) (either_of (s.gains f g dx dy).1 (λ i. i)
        (split_third (λ r. let u = r.high in run_split a b row from col f g dx dy (next_col dx col u (either dx col) (either col dx)) r) h))),
  );
  before = row_more new a b col row s.before;
})

pub run_done : (old new : List LiveRead) (a b : ℕ) (row row' from from' col end : ℤ) → row ≡ row' → from ≡ from' → col ≡ end → RunSoFar old new a b row from col → RunSoFar old new a b row' from' end
run_done old new a b row row' from from' col end r f e s = subst (λ x. RunSoFar old new a b row' x end) f (subst (λ x. RunSoFar old new a b x from end) r (subst (λ x. RunSoFar old new a b row from x) e s))
