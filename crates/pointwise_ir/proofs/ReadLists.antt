-- Lists of reads in order.
use Rattle.std.proofs.Common.{◌≡◌, ◌⊎◌, zero, suc, ◌≤◌, ◌<◌, inl, inr, List, [], ◌∷◌, length, Contains, refl, sym, ap, subst, ◌∙◌, arith}
use Rattle.std.proofs.lemmas.Int.{ints}
use Rattle.dk_base.specs.declared.stencils.LiveRead.{LiveRead}
use Rattle.dk_base.specs.Stencils.{IsBefore, AreInOrder}

pub head_in : {X : Type 0} (x : X) (xs : List X) → Contains (x ∷ xs) x
head_in x xs = (0, omega arith, refl)

pub tail_in : {X : Type 0} (x : X) (xs : List X) (a : X) → Contains xs a → Contains (x ∷ xs) a
tail_in x xs a (k, lt, e) = (suc k, (let h : suc k < length (x ∷ xs) = omega (arith, lt) in h), e)

pub one_of : {X : Type 0} (x : X) (xs : List X) (a : X) → Contains (x ∷ xs) a → (x ≡ a) ⊎ Contains xs a
one_of x xs a (zero, lt, e) = inl e
one_of x xs a (suc k, lt, e) = inr (k, (let h : k < length xs = omega (arith, lt) in h), e)

pub none_in : {X : Type 0} (a : X) → Contains [] a → ⊥
none_in a (k, lt, e) = omega (arith, lt)

not_itself : (a : LiveRead) → IsBefore a a → ⊥
not_itself a b = let h = b.columns refl refl refl in omega (arith, ints, h)

not_both : (a b : LiveRead) → IsBefore a b → IsBefore b a → ⊥
not_both a b h k =
    let hf = h.reader in
    let kf = k.reader in
    let f : a.f ≡ b.f = omega (arith, hf, kf) in
    let hg = h.source f in
    let kg = k.source (sym f) in
    let g : a.g ≡ b.g = omega (arith, hg, kg) in
    let hy = h.rows f g in
    let ky = k.rows (sym f) (sym g) in
    let y : a.dy ≡ b.dy = omega (arith, ints, hy, ky) in
    let hx = h.columns f g y in
    let kx = k.columns (sym f) (sym g) (sym y) in
    omega (arith, ints, hx, kx)

tail_order : (x : LiveRead) (xs : List LiveRead) → AreInOrder (x ∷ xs) → AreInOrder xs
tail_order x xs o i j d h l = o (suc i) (suc j) d (omega (arith, h)) (omega (arith, l))

later : (x : LiveRead) (xs : List LiveRead) → AreInOrder (x ∷ xs) → (r : LiveRead) → Contains xs r → IsBefore x r
later x xs o r (k, lt, is) = subst (IsBefore x) is (o zero (suc k) r (omega arith) (omega (arith, lt)))

-- a list in order that has no more is no longer
pub no_longer : (xs ys : List LiveRead) → AreInOrder xs → AreInOrder ys → ((r : LiveRead) → Contains xs r → Contains ys r) → length xs ≤ length ys
no_longer [] ys o q s = omega arith
no_longer (x ∷ xs) [] o q s = absurd (none_in x (s x (head_in x xs)))
no_longer (x ∷ xs) (y ∷ ys) o q s = which (one_of y ys x (s x (head_in x xs))) (λ r. no_longer xs ys (tail_order x xs o) (tail_order y ys q) r) (λ r. no_longer (x ∷ xs) ys o (tail_order y ys q) r)
  where
    rest : y ≡ x → (r : LiveRead) → Contains xs r → (y ≡ r) ⊎ Contains ys r → Contains ys r
    rest e r h (inl k) = absurd (not_itself x (subst (IsBefore x) (sym k ∙ e) (later x xs o r h)))
    rest e r h (inr k) = k

    all : IsBefore y x → (r : LiveRead) → (x ≡ r) ⊎ Contains xs r → (y ≡ r) ⊎ Contains ys r → Contains ys r
    all b r h (inr k) = k
    all b r (inl h) (inl k) = absurd (not_itself y (subst (IsBefore y) (h ∙ sym k) b))
    all b r (inr h) (inl k) = absurd (not_both y x b (subst (IsBefore x) (sym k) (later x xs o r h)))

    which : (y ≡ x) ⊎ Contains ys x → (((r : LiveRead) → Contains xs r → Contains ys r) → length xs ≤ length ys)
        → (((r : LiveRead) → Contains (x ∷ xs) r → Contains ys r) → length (x ∷ xs) ≤ length ys) → length (x ∷ xs) ≤ length (y ∷ ys)
    which (inl k) one two =
        let l = one (λ r h. rest k r h (one_of y ys r (s r (tail_in x xs r h)))) in
        omega (arith, l)
    which (inr k) one two =
        let b = later y ys q x k in
        let l = two (λ r h. all b r (one_of x xs r h) (one_of y ys r (s r h))) in
        omega (arith, l)

-- lists in order that have the same are the same
pub same_list : (xs ys : List LiveRead) → AreInOrder xs → AreInOrder ys → ((r : LiveRead) → Contains xs r → Contains ys r) → ((r : LiveRead) → Contains ys r → Contains xs r) → xs ≡ ys
same_list [] [] o q s t = refl
same_list [] (y ∷ ys) o q s t = absurd (none_in y (t y (head_in y ys)))
same_list (x ∷ xs) [] o q s t = absurd (none_in x (s x (head_in x xs)))
same_list (x ∷ xs) (y ∷ ys) o q s t =
    ap (λ r. r ∷ xs) head ∙ ap (λ rs. y ∷ rs) (same_list xs ys (tail_order x xs o) (tail_order y ys q)
    (λ r h. there r h (one_of y ys r (s r (tail_in x xs r h)))) (λ r h. back r h (one_of x xs r (t r (tail_in y ys r h)))))
  where
    first : (y ≡ x) ⊎ Contains ys x → (x ≡ y) ⊎ Contains xs y → x ≡ y
    first (inl k) h = sym k
    first (inr k) (inl h) = h
    first (inr k) (inr h) = absurd (not_both y x (later y ys q x k) (later x xs o y h))

    head : x ≡ y
    head = first (one_of y ys x (s x (head_in x xs))) (one_of x xs y (t y (head_in y ys)))

    there : (r : LiveRead) → Contains xs r → (y ≡ r) ⊎ Contains ys r → Contains ys r
    there r h (inl k) = absurd (not_itself x (subst (IsBefore x) (sym k ∙ sym head) (later x xs o r h)))
    there r h (inr k) = k

    back : (r : LiveRead) → Contains ys r → (x ≡ r) ⊎ Contains xs r → Contains xs r
    back r h (inl k) = absurd (not_itself y (subst (IsBefore y) (sym k ∙ head) (later y ys q r h)))
    back r h (inr k) = k
