-- What is marked, the last image first.
use Rattle.std.proofs.Common.{◌≡◌, ℕ, ◌+◌, ◌<◌, ◌≤◌, Option, List, length, map, get_or, Some, slice_get, ap, sym, ◌∙◌, subst, arith, inl, inr}
use Rattle.std.specs.Prelude.{unwrap_or, slice_index}
use Rattle.std.specs.Option.{option_map}
use Rattle.std.proofs.lemmas.Bool.{cases_lt}
use Rattle.std.proofs.lemmas.Option.{slice_get-get_or, slice_get-map, unwrap_or-slice_get}
use Rattle.pointwise_ir.specs.declared.program.Definition.{Definition}
use Rattle.pointwise_ir.specs.Trees.{Tree, tree_of, EachImage}
use Rattle.pointwise_ir.proofs.Agreement.{each_weaker}
use Rattle.std.specs.List.{All}
use Rattle.pointwise_ir.specs.Programs.{Program, bodies_of}
use Rattle.pointwise_eval.specs.Needs.{IsNeeded, image_count, AreNeeds}

-- the same entry, and 0 past both ends
pub same_index : (xs ys : List ℕ) (g : ℕ) → slice_get xs g ≡ slice_get ys g → slice_index xs g ≡ slice_index ys g
same_index xs ys g same = sym (unwrap_or-slice_get xs g 0) ∙ ap (λ (o : Option ℕ). unwrap_or o 0) same ∙ unwrap_or-slice_get ys g 0

-- from image k on, what an image reads that is needed after itself is needed up to it
abbrev pub IsClosed : ℕ → List Tree → List ℕ → ℕ → Type 0
IsClosed inputs bodies until k = (j : ℕ) (e : Tree) → k ≤ j → slice_get bodies j ≡ Some e → IsNeeded until (inputs + j + 1) (inputs + j) → EachImage (IsNeeded until (inputs + j)) e

-- where image k is needed, and what it reads was marked
pub closed_marked : (inputs : ℕ) (bodies : List Tree) (old new : List ℕ) (k : ℕ) (b : Tree) → slice_get bodies k ≡ Some b → EachImage (λ g. g < inputs + k) b → EachImage (IsNeeded new (inputs + k)) b →
    ((n g : ℕ) → IsNeeded old n g → IsNeeded new n g) → ((n : ℕ) → EachImage (λ g. g < n) b → (g : ℕ) → n ≤ g → slice_get new g ≡ slice_get old g) → IsClosed inputs bodies old (k + 1) → IsClosed inputs bodies new k
closed_marked inputs bodies old new k b there earlier reads kept others closed j e past listed needed = elim (cases_lt k j) [
  | inl later ↦
      let same : slice_index new (inputs + j) ≡ slice_index old (inputs + j) = same_index new old (inputs + j) (others (inputs + k) earlier (inputs + j) (let far : inputs + k ≤ inputs + j = omega (arith, past) in far)) in
      let before : IsNeeded old (inputs + j + 1) (inputs + j) = subst (λ n. inputs + j + 1 < n) same needed in
      each_weaker (IsNeeded old (inputs + j)) (IsNeeded new (inputs + j)) (kept (inputs + j)) e (closed j e (let far : k + 1 ≤ j = omega (arith, later) in far) listed before)
  | inr here ↦
      let same : k ≡ j = omega (arith, here, past) in
      let both : Some b ≡ Some e = sym there ∙ ap (slice_get bodies) same ∙ listed in
      let is : b ≡ e = cc in
      let P : Tree → Type 0 = λ f. EachImage (IsNeeded new (inputs + j)) f in
      let Q : ℕ → Type 0 = λ n. EachImage (IsNeeded new (inputs + n)) b in
      subst P is (subst Q same reads)
]

-- where image k is not needed
pub closed_left : (inputs : ℕ) (bodies : List Tree) (until : List ℕ) (k : ℕ) → (IsNeeded until (inputs + k + 1) (inputs + k) → ⊥) → IsClosed inputs bodies until (k + 1) → IsClosed inputs bodies until k
closed_left inputs bodies until k left closed j e past listed is = elim (cases_lt k j) [
  | inl later ↦ closed j e (let far : k + 1 ≤ j = omega (arith, later) in far) listed is
  | inr here ↦
      let same : j ≡ k = omega (arith, here, past) in
      let P : ℕ → Type 0 = λ n. IsNeeded until (inputs + n + 1) (inputs + n) in
      absurd (left (subst P same is))
]

-- what was noted of all images
pub are_needs : (p : Program) (until : List ℕ) → length until ≡ image_count p → All (IsNeeded until (image_count p)) p.outputs →
    ((k : ℕ) (e : Tree) → slice_get (bodies_of p) k ≡ Some e → IsNeeded until (length p.inputs + k + 1) (length p.inputs + k) → EachImage (IsNeeded until (length p.inputs + k)) e) → AreNeeds p until
are_needs p until one_each outputs closed = record {
  one_each = one_each;
  outputs = outputs;
  bodies = λ f e b wants.
      let P : ℕ → Type 0 = λ n. IsNeeded until (n + 1) n in
      let R : ℕ → Type 0 = λ n. EachImage (IsNeeded until n) e in
      subst R (sym b.1) (closed b.0 e b.2 (subst P b.1 wants));
}

-- the body of the image that a loop is at
pub body_at : (images : List Definition) (k : ℕ) (d : Definition) → k < length images → slice_get (map (λ d. tree_of d.body) images) k ≡ Some (tree_of (get_or images k d).body)
body_at images k d lt = slice_get-map (λ (d : Definition). tree_of d.body) images k ∙ ap (option_map (λ (d : Definition). tree_of d.body)) (slice_get-get_or images k d lt)
