-- Arrays that are read once and put once in each clock.
use Rattle.std.specs.Prelude.{◌≡◌, ℕ, ◌≤◌, ◌<◌, nat_le, Bool, false, not, IsTrue, List, [], ◌∷◌, length, Option, Some, None}
use Rattle.wiring.specs.declared.right.Atom.{Atom}
use Rattle.wiring.specs.declared.netlist.Net.{Net}
use Rattle.wiring.specs.Netlist.{Netlist, depth}
use Rattle.net_build.specs.Indices.{read_indices, put_indices}

-- of an array: one reading assign and one put, at the same index
pub record IsReadOnce (reads puts : List (Atom Net)) : Type 0 where
  pub index : Atom Net
  pub read : reads ≡ index ∷ []
  pub put : puts ≡ index ∷ []

-- each added array is so
abbrev pub AreReadOnce : (new old : Netlist) → Type 0
AreReadOnce new old = (x : ℕ) → length old.arrays ≤ x → x < length new.arrays → IsReadOnce (read_indices new x) (put_indices new x)

-- of an array: one reading assign and one put, at the same index if it must be
pub record IsReadAndPut (same : Bool) (reads puts : List (Atom Net)) : Type 0 where
  pub read_at : Atom Net
  pub put_at : Atom Net
  pub read : reads ≡ read_at ∷ []
  pub put : puts ≡ put_at ∷ []
  pub one : IsTrue same → read_at ≡ put_at

-- an array of at least this number of words is long; without a number none is
abbrev pub is_long : (least : Option ℕ) → (words : ℕ) → Bool
is_long None words = false
is_long (Some n) words = nat_le n words

-- an array is read directly, by any logic, unless it is long: then only a register that copies its word reads it
abbrev pub is_direct : (long : (words : ℕ) → Bool) → Netlist → (x : ℕ) → Bool
is_direct long b x = not (long (depth b x))

-- each added array is so, at the same index unless it is long
abbrev pub AreReadAndPut : (long : (words : ℕ) → Bool) → (new old : Netlist) → Type 0
AreReadAndPut long new old = (x : ℕ) → length old.arrays ≤ x → x < length new.arrays → IsReadAndPut (is_direct long new x) (read_indices new x) (put_indices new x)
