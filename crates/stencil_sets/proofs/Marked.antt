-- Marks, one after another.
use Rattle.std.proofs.Common.{◌≡◌, ℕ, zero, suc, ◌+◌, ◌≤◌, ◌<◌, ℤ, ◌⊎◌, inl, inr, Bool, true, List, [], ◌∷◌, length, slice_get, slice_index_or, take, map, Some, Option, false, IsTrue, Contains, ◌+ℤ◌, refl, sym, ap, subst, ◌∙◌, arith}
use Rattle.std.proofs.lemmas.Bool.{cases_lt}
use Rattle.dk_base.specs.Frames.{Size}
use Rattle.pointwise_ir.specs.Trees.{Tree, tree_of, constant, read, shifted, unary, binary, select, convert, scale, EachImage}
use Rattle.std.proofs.lemmas.List.{length-append}
use Rattle.pointwise_ir.specs.declared.program.Definition.{Definition}
use Rattle.pointwise_ir.specs.declared.program.Input.{Input}
use Rattle.pointwise_ir.specs.Programs.{Program, IsProgram, IsOutput, types_of, bodies_of}
use Rattle.pointwise_ir.specs.Reads.{Reads, IsLive, Kept, input, output, reached}
use Rattle.pointwise_ir.proofs.Pictured.{reads_earlier}
use Rattle.stencil_sets.specs.Paths.{ReadsAt, IsIn, Covered}
use Rattle.stencil_sets.specs.declared.path.Rect.{Rect}
use Rattle.stencil_sets.specs.Marks.{IsMarked, AreMarks, MarksMore, MarkedSoFar}

pub marks_none : (old : List Bool) (P : ℕ → Type 0) → ((g : ℕ) → P g → ⊥) → MarksMore old old P
marks_none old P n = record { length_stays = refl; stay = λ g h. h; marked = λ g l p. absurd (n g p); only = λ g h. inl h }

pub marks_then : (old mid new : List Bool) (P Q R : ℕ → Type 0) → MarksMore old mid P → MarksMore mid new Q → ((g : ℕ) → R g → P g ⊎ Q g) → ((g : ℕ) → P g ⊎ Q g → R g) → MarksMore old new R
marks_then old mid new P Q R a b split join = record {
  length_stays = b.length_stays ∙ a.length_stays;
  stay = λ g h. b.stay g (a.stay g h);
  marked = λ g l r. which g l (split g r);
  only = λ g h. from g (b.only g h);
}
  where
    which : (g : ℕ) → g < length old → P g ⊎ Q g → IsMarked new g
    which g l (inl p) = b.stay g (a.marked g l p)
    which g l (inr q) = let e = a.length_stays in b.marked g (omega (arith, l, e)) q

    first : (g : ℕ) → IsMarked old g ⊎ P g → IsMarked old g ⊎ R g
    first g (inl h) = inl h
    first g (inr p) = inr (join g (inl p))

    from : (g : ℕ) → IsMarked mid g ⊎ Q g → IsMarked old g ⊎ R g
    from g (inl h) = first g (a.only g h)
    from g (inr q) = inr (join g (inr q))

pub marks_as : (old new : List Bool) (P Q : ℕ → Type 0) → ((g : ℕ) → P g → Q g) → ((g : ℕ) → Q g → P g) → MarksMore old new P → MarksMore old new Q
marks_as old new P Q f b m = record { length_stays = m.length_stays; stay = m.stay; marked = λ g l q. m.marked g l (b g q); only = λ g h. from g (m.only g h) }
  where
    from : (g : ℕ) → IsMarked old g ⊎ P g → IsMarked old g ⊎ Q g
    from g (inl h) = inl h
    from g (inr p) = inr (f g p)

-- one rectangle after another
abbrev pub SomeIn : Rect → ℕ → Type 0
SomeIn rect g = (dx : ℤ) × (dy : ℤ) × IsIn rect g dx dy

abbrev pub SomeCovered : List Rect → ℕ → Type 0
SomeCovered rects g = (dx : ℤ) × (dy : ℤ) × Covered rects g dx dy

covered_last : (rs : List Rect) (i : ℕ) (d : Rect) → i < length rs → (g : ℕ) (dx dy : ℤ) → Covered (take (suc i) rs) g dx dy → Covered (take i rs) g dx dy ⊎ IsIn (slice_index_or rs i d) g dx dy
covered_last [] i d h g dx dy c = absurd (omega (arith, h))
covered_last (r ∷ rs) zero d h g dx dy (inl k) = inr k
covered_last (r ∷ rs) zero d h g dx dy (inr n) = absurd n
covered_last (r ∷ rs) (suc i) d h g dx dy (inl k) = inl (inl k)
covered_last (r ∷ rs) (suc i) d h g dx dy (inr c) = later (covered_last rs i d (omega (arith, h)) g dx dy c)
  where
    later : Covered (take i rs) g dx dy ⊎ IsIn (slice_index_or rs i d) g dx dy → (IsIn r g dx dy ⊎ Covered (take i rs) g dx dy) ⊎ IsIn (slice_index_or rs i d) g dx dy
    later (inl k) = inl (inr k)
    later (inr k) = inr k

covered_longer : (rs : List Rect) (i : ℕ) (d : Rect) → i < length rs → (g : ℕ) (dx dy : ℤ) → Covered (take i rs) g dx dy ⊎ IsIn (slice_index_or rs i d) g dx dy → Covered (take (suc i) rs) g dx dy
covered_longer [] i d h g dx dy c = absurd (omega (arith, h))
covered_longer (r ∷ rs) zero d h g dx dy (inl n) = absurd n
covered_longer (r ∷ rs) zero d h g dx dy (inr k) = inl k
covered_longer (r ∷ rs) (suc i) d h g dx dy (inl (inl k)) = inl k
covered_longer (r ∷ rs) (suc i) d h g dx dy (inl (inr c)) = inr (covered_longer rs i d (omega (arith, h)) g dx dy (inl c))
covered_longer (r ∷ rs) (suc i) d h g dx dy (inr k) = inr (covered_longer rs i d (omega (arith, h)) g dx dy (inr k))

pub rects_more : (old new after : List Bool) (rects : List Rect) (i : ℕ) (d : Rect) → i < length rects → MarksMore old new (SomeCovered (take i rects)) → MarksMore new after (SomeIn (slice_index_or rects i d)) → MarksMore old after (SomeCovered (take (i + 1) rects))
rects_more old new after rects i d h a b =
    let e : suc i ≡ i + 1 = omega arith in
    subst (λ n. MarksMore old after (SomeCovered (take n rects))) e
    (marks_then old new after (SomeCovered (take i rects)) (SomeIn (slice_index_or rects i d)) (SomeCovered (take (suc i) rects)) a b
    (λ g c. split g c.0 c.1 (covered_last rects i d h g c.0 c.1 c.2)) join)
  where
    split : (g : ℕ) (dx dy : ℤ) → Covered (take i rects) g dx dy ⊎ IsIn (slice_index_or rects i d) g dx dy → SomeCovered (take i rects) g ⊎ SomeIn (slice_index_or rects i d) g
    split g dx dy (inl c) = inl (dx, dy, c)
    split g dx dy (inr k) = inr (dx, dy, k)

    join : (g : ℕ) → SomeCovered (take i rects) g ⊎ SomeIn (slice_index_or rects i d) g → SomeCovered (take (suc i) rects) g
    join g (inl c) = (c.0, c.1, covered_longer rects i d h g c.0 c.1 (inl c.2))
    join g (inr k) = (k.0, k.1, covered_longer rects i d h g k.0 k.1 (inr k.2))

pub no_offset : (b : Bool) → b ≡ false → IsTrue b → ⊥
no_offset b e t = cc (e, t)

-- an image that is read is one of those that the tree reads
read_among : (P : ℕ → Type 0) (size : Size) (e : Tree) (x y : ℤ) (g : ℕ) (u v : ℤ) → EachImage P e → Reads size e x y g u v → P g
read_among P size (constant c t) x y g u v a r = absurd r
read_among P size (read edge h dx dy) x y g u v a r = subst P (sym r.0) a
read_among P size (shifted edge dx dy b) x y g u v a r = read_among P size b r.0 r.1 g u v a r.3
read_among P size (unary o b) x y g u v a r = read_among P size b x y g u v a r
read_among P size (binary o b d) x y g u v a (inl r) = read_among P size b x y g u v a.0 r
read_among P size (binary o b d) x y g u v a (inr r) = read_among P size d x y g u v a.1 r
read_among P size (select c b d) x y g u v a (inl r) = read_among P size c x y g u v a.0 r
read_among P size (select c b d) x y g u v a (inr (inl r)) = read_among P size b x y g u v a.1 r
read_among P size (select c b d) x y g u v a (inr (inr r)) = read_among P size d x y g u v a.2 r
read_among P size (convert h b t) x y g u v a r = read_among P size b x y g u v a r
read_among P size (scale o b k) x y g u v a r = read_among P size b x y g u v a r

-- so it is an earlier one
pub read_below : (p : Program) → IsProgram p → (k : ℕ) (e : Tree) → slice_get (bodies_of p) k ≡ Some e → (g : ℕ) (dx dy : ℤ) → ReadsAt p.size e g dx dy → g < length p.inputs + k
read_below p is k e there g dx dy r = read_among (λ h. h < length p.inputs + k) p.size e r.0 r.1 g (r.0 +ℤ dx) (r.1 +ℤ dy) (reads_earlier p is k e there) r.3

pub live_of : (p : Program) (k : ℕ) (e : Tree) → slice_get (bodies_of p) k ≡ Some e → (g : ℕ) (dx dy : ℤ) → ReadsAt p.size e g dx dy → IsLive p (length p.inputs + k) g dx dy
live_of p k e there g dx dy r = (e, (k, refl, there), r.0, r.1, r.2, r.3)

pub same_body : {A : Type 0} (x y : A) (o : Option A) → o ≡ Some x → o ≡ Some y → x ≡ y
same_body x y o a b = cc

pub marks_step : (p : Program) → IsProgram p → (first now after : List Bool) (k : ℕ) (e : Tree) → slice_get (bodies_of p) k ≡ Some e → k < length p.images → IsMarked now (length p.inputs + k)
    → MarksMore now after (λ h. (dx : ℤ) × (dy : ℤ) × ReadsAt p.size e h dx dy) → MarkedSoFar p first now (k + 1) → MarkedSoFar p first after k
marks_step p is first now after k e there h marked m s = record {
  one_each = m.length_stays ∙ s.one_each;
  within = omega (arith, h);
  stay = λ g a. m.stay g (s.stay g a);
  sound = λ g a. from g (m.only g a);
  closed = λ j d l at a. closed j d at (m.only (length p.inputs + j) a) (cases_lt k j) l;
}
  where
    from : (g : ℕ) → IsMarked now g ⊎ ((dx : ℤ) × (dy : ℤ) × ReadsAt p.size e g dx dy) → Kept p g
    from g (inl a) = s.sound g a
    from g (inr r) = reached (length p.inputs + k) g r.0 r.1 (s.sound (length p.inputs + k) marked) (live_of p k e there g r.0 r.1 r.2)

    own : (j : ℕ) (d : Tree) → slice_get (bodies_of p) j ≡ Some d → j ≡ k → (g : ℕ) (dx dy : ℤ) → ReadsAt p.size d g dx dy → IsMarked after g
    own j d at same g dx dy r =
        let body : d ≡ e = same_body d e (slice_get (bodies_of p) k) (ap (λ n. slice_get (bodies_of p) n) (sym same) ∙ at) there in
        let read : ReadsAt p.size e g dx dy = subst (λ t. ReadsAt p.size t g dx dy) body r in
        let low = read_below p is k e there g dx dy read in
        let long = s.one_each in
        m.marked g (omega (arith, low, long, h)) (dx, dy, read)

    closed : (j : ℕ) (d : Tree) → slice_get (bodies_of p) j ≡ Some d → IsMarked now (length p.inputs + j) ⊎ ((dx : ℤ) × (dy : ℤ) × ReadsAt p.size e (length p.inputs + j) dx dy) → (k < j) ⊎ (j ≤ k) → k ≤ j
        → (g : ℕ) (dx dy : ℤ) → ReadsAt p.size d g dx dy → IsMarked after g
    closed j d at a (inr b) l g dx dy r = own j d at (omega (arith, b, l)) g dx dy r
    closed j d at (inl a) (inl b) l g dx dy r = m.stay g (s.closed j d (omega (arith, b)) at a g dx dy r)
    closed j d at (inr a) (inl b) l g dx dy r = let low = read_below p is k e there (length p.inputs + j) a.0 a.1 a.2 in absurd (omega (arith, low, b))

pub marks_left : (p : Program) (first now : List Bool) (k : ℕ) → k < length p.images → (IsMarked now (length p.inputs + k) → ⊥) → MarkedSoFar p first now (k + 1) → MarkedSoFar p first now k
marks_left p first now k h none s = record {
  one_each = s.one_each;
  within = omega (arith, h);
  stay = s.stay;
  sound = s.sound;
  closed = λ j d l at a. closed j d at a (cases_lt k j) l;
}
  where
    closed : (j : ℕ) (d : Tree) → slice_get (bodies_of p) j ≡ Some d → IsMarked now (length p.inputs + j) → (k < j) ⊎ (j ≤ k) → k ≤ j → (g : ℕ) (dx dy : ℤ) → ReadsAt p.size d g dx dy → IsMarked now g
    closed j d at a (inl b) l g dx dy r = s.closed j d (omega (arith, b)) at a g dx dy r
    closed j d at a (inr b) l g dx dy r = let same : j ≡ k = omega (arith, b, l) in absurd (none (subst (λ n. IsMarked now (length p.inputs + n)) same a))

-- once all are done, all that are kept are marked
pub marks_complete : (p : Program) (first now : List Bool) → ((g : ℕ) → g < length p.inputs → IsMarked first g) → ((g : ℕ) → Contains p.outputs g → IsMarked first g) → MarkedSoFar p first now 0 → (g : ℕ) → Kept p g → IsMarked now g
marks_complete p first now a b s g (input h l) = s.stay h (a h l)
marks_complete p first now a b s g (output h c) = s.stay h (b h c)
marks_complete p first now a b s g (reached f h dx dy k l) =
    let mark = marks_complete p first now a b s f k in
    let body = l.1 in
    s.closed body.0 l.0 (omega arith) body.2 (subst (λ n. IsMarked now n) body.1 mark) h dx dy (l.2, l.3, l.4, l.5)

-- the images below one
pub below_none : (old : List Bool) → MarksMore old old (λ h. h < 0)
below_none old = marks_none old (λ h. h < 0) (λ g p. omega (arith, p))

pub below_more : (old new after : List Bool) (k : ℕ) → MarksMore old new (λ h. h < k) → MarksMore new after (λ h. h ≡ k) → MarksMore old after (λ h. h < k + 1)
below_more old new after k a b =
    marks_then old new after (λ h. h < k) (λ h. h ≡ k) (λ h. h < k + 1) a b (λ g p. split g p (cases_lt g k)) join
  where
    split : (g : ℕ) → g < k + 1 → (g < k) ⊎ (k ≤ g) → (g < k) ⊎ (g ≡ k)
    split g p (inl l) = inl l
    split g p (inr l) = inr (omega (arith, p, l))

    join : (g : ℕ) → (g < k) ⊎ (g ≡ k) → g < k + 1
    join g (inl l) = omega (arith, l)
    join g (inr e) = omega (arith, e)

pub below_all : (old new : List Bool) (k n : ℕ) → n ≤ k → k ≤ n → MarksMore old new (λ h. h < k) → MarksMore old new (λ h. h < n)
below_all old new k n a b m = let e : k ≡ n = omega (arith, a, b) in subst (λ x. MarksMore old new (λ h. h < x)) e m

-- the first n of a list
abbrev pub Among : List ℕ → ℕ → ℕ → Type 0
Among xs i h = (k : ℕ) × (k < i) × (slice_index_or xs k h ≡ h)

pub among_none : (old : List Bool) (xs : List ℕ) → MarksMore old old (Among xs 0)
among_none old xs = marks_none old (Among xs 0) (λ g p. let l = p.1 in omega (arith, l))

default_same : (xs : List ℕ) (k d e : ℕ) → k < length xs → slice_index_or xs k d ≡ slice_index_or xs k e
default_same [] k d e h = absurd (omega (arith, h))
default_same (x ∷ xs) zero d e h = refl
default_same (x ∷ xs) (suc k) d e h = default_same xs k d e (omega (arith, h))

pub among_more : (old new after : List Bool) (xs : List ℕ) (i : ℕ) → i < length xs → MarksMore old new (Among xs i) → MarksMore new after (λ h. h ≡ slice_index_or xs i 0) → MarksMore old after (Among xs (i + 1))
among_more old new after xs i h a b =
    marks_then old new after (Among xs i) (λ g. g ≡ slice_index_or xs i 0) (Among xs (i + 1)) a b (λ g p. split g p (cases_lt p.0 i)) join
  where
    split : (g : ℕ) (p : Among xs (i + 1) g) → (p.0 < i) ⊎ (i ≤ p.0) → Among xs i g ⊎ (g ≡ slice_index_or xs i 0)
    split g p (inl l) = inl (p.0, l, p.2)
    split g p (inr l) = let k = p.1 in let e : p.0 ≡ i = omega (arith, k, l) in inr (sym p.2 ∙ ap (λ n. slice_index_or xs n g) e ∙ default_same xs i g 0 h)

    join : (g : ℕ) → Among xs i g ⊎ (g ≡ slice_index_or xs i 0) → Among xs (i + 1) g
    join g (inl p) = let k = p.1 in (p.0, omega (arith, k), p.2)
    join g (inr e) = (i, omega arith, default_same xs i g 0 h ∙ sym e)

pub among_all : (old new : List Bool) (xs : List ℕ) (i : ℕ) → length xs ≤ i → i ≤ length xs → MarksMore old new (Among xs i) → MarksMore old new (λ h. Contains xs h)
among_all old new xs i a b m =
    let e : i ≡ length xs = omega (arith, a, b) in
    marks_as old new (Among xs (length xs)) (λ h. Contains xs h) (λ g p. p) (λ g p. p) (subst (λ n. MarksMore old new (Among xs n)) e m)

pub mapped_short : {A B : Type 0} (f : A → B) (xs : List A) (j : ℕ) (y : B) → slice_get (map f xs) j ≡ Some y → j < length xs
mapped_short f [] j y e = absurd (cc (e))
mapped_short f (x ∷ xs) zero y e = omega arith
mapped_short f (x ∷ xs) (suc j) y e = let h = mapped_short f xs j y e in omega (arith, h)

pub marked_start : (p : Program) (first : List Bool) (k : ℕ) → k ≡ length p.images → length first ≡ length p.inputs + length p.images → ((g : ℕ) → IsMarked first g → Kept p g) → MarkedSoFar p first first k
marked_start p first k e l s = record {
  one_each = l;
  within = omega (arith, e);
  stay = λ g h. h;
  sound = s;
  closed = λ j d h at. let n = mapped_short (λ x. tree_of x.body) p.images j d at in absurd (omega (arith, n, h, e));
}

entry_at : {A : Type 0} (xs : List A) (k : ℕ) (d : A) → k < length xs → slice_get xs k ≡ Some (slice_index_or xs k d)
entry_at [] k d h = absurd (omega (arith, h))
entry_at (x ∷ xs) zero d h = refl
entry_at (x ∷ xs) (suc k) d h = entry_at xs k d (omega (arith, h))

mapped_at : {A B : Type 0} (f : A → B) (xs : List A) (k : ℕ) (d : A) → k < length xs → slice_get (map f xs) k ≡ Some (f (slice_index_or xs k d))
mapped_at f [] k d h = absurd (omega (arith, h))
mapped_at f (x ∷ xs) zero d h = refl
mapped_at f (x ∷ xs) (suc k) d h = mapped_at f xs k d (omega (arith, h))

pub body_there : (p : Program) (images : List Definition) → images ≡ p.images → (k : ℕ) (d : Definition) → k < length p.images → slice_get (bodies_of p) k ≡ Some (tree_of (slice_index_or images k d).body)
body_there p images e k d h = subst (λ xs. slice_get (bodies_of p) k ≡ Some (tree_of (slice_index_or xs k d).body)) (sym e) (mapped_at (λ x. tree_of x.body) p.images k d h)

-- a mark by its place
pub mark_there : (kept : List Bool) (g : ℕ) → slice_index_or kept g false ≡ true → IsMarked kept g
mark_there [] g e = absurd (cc (e))
mark_there (b ∷ bs) zero e = ap Some e
mark_there (b ∷ bs) (suc g) e = mark_there bs g e

pub mark_not : (kept : List Bool) (g : ℕ) → slice_index_or kept g false ≡ false → IsMarked kept g → ⊥
mark_not [] g e m = cc (m)
mark_not (b ∷ bs) zero e m = cc (e, m)
mark_not (b ∷ bs) (suc g) e m = mark_not bs g e m

pub marked_at : (p : Program) (first now : List Bool) (k k' : ℕ) → k ≡ k' → MarkedSoFar p first now k → MarkedSoFar p first now k'
marked_at p first now k k' e s = subst (λ n. MarkedSoFar p first now n) e s

pub marks_moved : (old new : List Bool) (size size' : Size) (e : Tree) → size ≡ size' → MarksMore old new (λ h. (dx : ℤ) × (dy : ℤ) × ReadsAt size e h dx dy) → MarksMore old new (λ h. (dx : ℤ) × (dy : ℤ) × ReadsAt size' e h dx dy)
marks_moved old new size size' e s m = subst (λ z. MarksMore old new (λ h. (dx : ℤ) × (dy : ℤ) × ReadsAt z e h dx dy)) s m

there_below : {A : Type 0} (xs : List A) (k : ℕ) (x : A) → slice_get xs k ≡ Some x → k < length xs
there_below [] k x e = absurd (cc (e))
there_below (y ∷ xs) zero x e = omega arith
there_below (y ∷ xs) (suc k) x e = let h = there_below xs k x e in omega (arith, h)

length_mapped : {A B : Type 0} (f : A → B) (xs : List A) → length (map f xs) ≡ length xs
length_mapped f [] = refl
length_mapped f (x ∷ xs) = ap suc (length_mapped f xs)

output_below : (p : Program) → IsProgram p → (g : ℕ) → Contains p.outputs g → g < length p.inputs + length p.images
output_below p is g c =
    let o : IsOutput (types_of p) g = subst (IsOutput (types_of p)) c.2 (is.outputs c.0 g c.1) in
    let h = there_below (types_of p) g o.ty o.there in
    let n = length-append (map (λ i. i.ty) p.inputs) (map (λ d. d.ty) p.images) in
    let a = length_mapped (λ (i : Input). i.ty) p.inputs in
    let b = length_mapped (λ (d : Definition). d.ty) p.images in
    omega (arith, h, n, a, b)

pub marks_first : (p : Program) (old one two : List Bool) → ((g : ℕ) → IsMarked old g → ⊥) → MarksMore old one (λ h. h < length p.inputs) → MarksMore one two (λ h. Contains p.outputs h) → (g : ℕ) → IsMarked two g → Kept p g
marks_first p old one two none a b g m = second (b.only g m)
  where
    first : IsMarked old g ⊎ (g < length p.inputs) → Kept p g
    first (inl m) = absurd (none g m)
    first (inr h) = input g h

    second : IsMarked one g ⊎ Contains p.outputs g → Kept p g
    second (inl m) = first (a.only g m)
    second (inr c) = output g c

pub marks_done : (p : Program) → IsProgram p → (old one two now : List Bool) → length old ≡ length p.inputs + length p.images → MarksMore old one (λ h. h < length p.inputs) → MarksMore one two (λ h. Contains p.outputs h)
    → MarkedSoFar p two now 0 → AreMarks p now
marks_done p is old one two now long a b s = record {
  one_each = s.one_each;
  sound = s.sound;
  complete = marks_complete p two now (λ g h. b.stay g (a.marked g (omega (arith, h, long)) h))
      (λ g c. let h = output_below p is g c in let l = a.length_stays in b.marked g (omega (arith, h, l, long)) c) s;
}
