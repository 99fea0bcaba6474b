-- Programs whose bodies are folded.
use Rattle.std.proofs.Common.{◌≡◌, ℕ, zero, suc, ◌+◌, ◌<◌, ◌≤◌, ◌≢◌, List, [], ◌∷◌, ◌++◌, length, map, take, drop, get_or, set, refl, ap, sym, ◌∙◌, subst, arith, get_or-set_same, get_or-set_other, inl, inr, Some, slice_get}
use Rattle.std.specs.List.{All}
use Rattle.std.proofs.Math.Seq.{take-append_seam}
use Rattle.std.proofs.lemmas.Bool.{cases_lt}
use Rattle.std.proofs.lemmas.List.{get_or_default}
use Rattle.std.proofs.lemmas.List.Elements.{All-map}
use Rattle.std.proofs.lemmas.Option.{slice_get-get_or}
use Rattle.dk_base.specs.declared.ty.Ty.{Ty}
use Rattle.dk_base.specs.Frames.{Size}
use Rattle.pointwise_ir.specs.declared.program.Input.{Input}
use Rattle.pointwise_ir.specs.declared.program.Definition.{Definition}
use Rattle.pointwise_ir.specs.Trees.{Tree, tree_of}
use Rattle.pointwise_ir.specs.Programs.{IsProgram, AreDefined}
use Rattle.pointwise_ir.specs.Rewritings.{AreRewritten, IsSameBut}
use Rattle.pointwise_ir.proofs.Defined.{DefinedFrom, first_defined, rest_defined}
use Rattle.dk_inline.specs.Folded.{HasFoldedParts, IsFoldOf, IsFolding}
use Rattle.dk_inline.specs.Standing.{IsTyped, IsFoldedImage}

-- what a slice of all of a vector leaves in it
pub refilled : {A : Type 0} (n : ℕ) (xs ws : List A) → n ≡ length xs → length ws ≡ length xs → take n (ws ++ drop (length ws) xs) ≡ ws
refilled n xs ws is same = ap (λ m. take m (ws ++ drop (length ws) xs)) (is ∙ sym same) ∙ take-append_seam ws (drop (length ws) xs)

-- each image of the second list is the one of the first at its place, folded
abbrev pub AreFolds : (old new : List Definition) → Type 0
AreFolds old new = (k : ℕ) (d : Definition) → k < length old → IsFoldedImage (get_or old k d) (get_or new k d)

-- one image more is folded
pub folds_more : (old before : List Definition) (i : ℕ) (a b : Definition) → i < length before → IsFoldedImage (get_or before i a) b →
    ((k : ℕ) (d : Definition) → k < i → IsFoldedImage (get_or old k d) (get_or before k d)) → ((k : ℕ) (d : Definition) → i ≤ k → get_or before k d ≡ get_or old k d) →
    (k : ℕ) (d : Definition) → k < i + 1 → IsFoldedImage (get_or old k d) (get_or (set before i b) k d)
folds_more old before i a b within fold done rest k d lt = elim (cases_lt k i) [
  | inl low ↦
      let other : k ≢ i = omega (arith, low) in
      rw (get_or-set_other before i k b d other) (done k d low)
  | inr high ↦
      let here : k ≡ i = omega (arith, high, lt) in
      let P : ℕ → Type 0 = λ j. IsFoldedImage (get_or old j d) (get_or (set before i b) j d) in
      let last : i ≤ i = omega arith in
      subst P (sym here) (rw (get_or-set_same before i b d within, ← (rest i d last), get_or_default before i d a within) fold)
]

-- the images after it are as they were
pub rest_stays : (old before : List Definition) (i : ℕ) (b : Definition) → ((k : ℕ) (d : Definition) → i ≤ k → get_or before k d ≡ get_or old k d) →
    (k : ℕ) (d : Definition) → i + 1 ≤ k → get_or (set before i b) k d ≡ get_or old k d
rest_stays old before i b rest k d past =
    let other : k ≢ i = omega (arith, past) in
    let after : i ≤ k = omega (arith, past) in
    get_or-set_other before i k b d other ∙ rest k d after

pub all_typed : (inputs : List Input) (images : List Definition) → AreDefined inputs images → All (λ d. IsTyped (tree_of d.body)) images
all_typed inputs images defined k d lt =
    let is = defined k (get_or images k d) (slice_get-get_or images k d lt) in
    record { types = _; ty = _; typed = is.typed; offsets = is.offsets }

are_rewritten : (size : Size) (ts : List Ty) (old new : List Definition) → length new ≡ length old → DefinedFrom ts old → AreFolds old new → AreRewritten size ts old new
are_rewritten size ts [] [] same defined folds = tt
are_rewritten size ts [] (e ∷ new) same defined folds = absurd (omega (arith, same))
are_rewritten size ts (d ∷ old) [] same defined folds = absurd (omega (arith, same))
are_rewritten size ts (d ∷ old) (e ∷ new) same defined folds =
    let first = first_defined ts d old defined in
    let some : 0 < length (d ∷ old) = omega arith in
    let fold = folds 0 d some in
    let shorter : length new ≡ length old = omega (arith, same) in (
      record { name = fold.name; ty = fold.ty; body = fold.stands.rewriting size ts d.ty first.typed first.offsets },
      are_rewritten size (ts ++ d.ty ∷ []) old new shorter (rest_defined ts d old defined) (λ k x lt. folds (suc k) x (let more : suc k < length (d ∷ old) = omega (arith, lt) in more)),
    )

-- the program with folded images
pub same_but : (size : Size) (inputs : List Input) (old new : List Definition) (outputs : List ℕ) →
    IsProgram (record { size = size; inputs = inputs; images = old; outputs = outputs }) → length new ≡ length old → AreFolds old new →
    IsSameBut (record { size = size; inputs = inputs; images = old; outputs = outputs }) (record { size = size; inputs = inputs; images = new; outputs = outputs })
same_but size inputs old new outputs is same folds = record {
  size = refl;
  inputs = refl;
  outputs = refl;
  images = are_rewritten size (map (λ i. i.ty) inputs) old new same is.images folds;
}

pub all_folded : (old new : List Definition) → length new ≡ length old → AreFolds old new → All HasFoldedParts (map (λ d. tree_of d.body) new)
all_folded old new same folds = All-map HasFoldedParts (λ (d : Definition). tree_of d.body) new (λ k d lt. (folds k d (let here : k < length old = omega (arith, lt, same) in here)).folded)

less : (d e : Definition) (old new : List Definition) → AreFolds (d ∷ old) (e ∷ new) → AreFolds old new
less d e old new folds k x lt = folds (suc k) x (let more : suc k < length (d ∷ old) = omega (arith, lt) in more)

-- what the images keep
kept : {A : Type 0} (f : Definition → A) → ((d e : Definition) → IsFoldedImage d e → f e ≡ f d) → (old new : List Definition) → length new ≡ length old → AreFolds old new → map f new ≡ map f old
kept f stays [] [] same folds = refl
kept f stays [] (e ∷ new) same folds = absurd (omega (arith, same))
kept f stays (d ∷ old) [] same folds = absurd (omega (arith, same))
kept f stays (d ∷ old) (e ∷ new) same folds =
    let some : 0 < length (d ∷ old) = omega arith in
    let shorter : length new ≡ length old = omega (arith, same) in
    ap (λ x. x ∷ map f new) (stays d e (folds 0 d some)) ∙ ap (λ xs. f d ∷ xs) (kept f stays old new shorter (less d e old new folds))

body_fold : (old new : List Definition) → AreFolds old new → (k : ℕ) (a b : Tree) → slice_get (map (λ d. tree_of d.body) old) k ≡ Some a → slice_get (map (λ d. tree_of d.body) new) k ≡ Some b → IsFoldOf a b
body_fold [] new folds k a b at of = absurd (let no : ⊥ = cc in no)
body_fold (d ∷ old) [] folds k a b at of = absurd (let no : ⊥ = cc in no)
body_fold (d ∷ old) (e ∷ new) folds zero a b at of =
    let some : 0 < length (d ∷ old) = omega arith in
    let first : tree_of d.body ≡ a = cc in
    let last : tree_of e.body ≡ b = cc in
    let P : Tree → Type 0 = λ x. IsFoldOf x (tree_of e.body) in
    let Q : Tree → Type 0 = λ x. IsFoldOf a x in
    subst Q last (subst P first (folds 0 d some).fold)
body_fold (d ∷ old) (e ∷ new) folds (suc k) a b at of = body_fold old new (less d e old new folds) k a b at of

pub is_folding : (size : Size) (inputs : List Input) (old new : List Definition) (outputs : List ℕ) → length new ≡ length old → AreFolds old new →
    IsFolding (record { size = size; inputs = inputs; images = old; outputs = outputs }) (record { size = size; inputs = inputs; images = new; outputs = outputs })
is_folding size inputs old new outputs same folds = record {
  size = refl;
  inputs = refl;
  outputs = refl;
  names = ap (λ xs. map (λ (i : Input). i.name) inputs ++ xs) (kept (λ (d : Definition). d.name) (λ d e f. f.name) old new same folds);
  types = ap (λ xs. map (λ (i : Input). i.ty) inputs ++ xs) (kept (λ (d : Definition). d.ty) (λ d e f. f.ty) old new same folds);
  bodies = body_fold old new folds;
}
