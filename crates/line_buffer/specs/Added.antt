-- What a list has more than the one that it goes on from.
use Rattle.std.specs.Prelude.{◌≡◌, ℕ, ◌≤◌, List, length, slice_get, Some}

-- each entry after those of the old list
abbrev pub EachAdded : {X : Type 0} → (X → Type 0) → (new old : List X) → Type 0
EachAdded {X} P new old = (k : ℕ) (x : X) → length old ≤ k → slice_get new k ≡ Some x → P x
