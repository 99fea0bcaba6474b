-- Elements as values.
use Rattle.std.proofs.Common.{get_or, Some, slice_get, subst, ◌≡◌, ◌∙◌, sym, ℕ, ◌+◌, ◌-◌, ◌<◌, ◌≤◌, List, [], ◌∷◌, length, map, take, drop, ℤ, pos, unsigned_abs, refl, ap, arith}
use Rattle.std.specs.Prelude.{slice_index_or}
use Rattle.std.proofs.Math.Pow.{pow_mono}
use Rattle.std.proofs.lemmas.Grind.{common_steps}
use Rattle.std.proofs.lemmas.List.{length-map, get_or-map, get_or-take, get_or-drop, take-map, drop-map}
use Rattle.std.specs.List.{All}
use Rattle.std.proofs.lemmas.Option.{slice_get_within, get_or_from_slice_get}
use Rattle.dk_base.specs.declared.ty.Ty.TheVariants.{Unsigned, Signed}
use Rattle.dk_base.specs.Types.{IsWithin}
use Rattle.value_rows.specs.Rows.{entry}

pub all_within : {A : Type 0} (worth : A → ℤ) (s : List A) (start count : ℕ) → start + count ≤ length (map worth s) → start + count ≤ length s
all_within worth s start count h = rw (length-map s worth) at h

pub same_length : {A : Type 0} (worth : A → ℤ) (s : List A) (n : ℕ) → length (map worth s) ≡ n → length s ≡ n
same_length worth s n h = sym (length-map s worth) ∙ h

pub element_within : {A : Type 0} (worth : A → ℤ) (s : List A) (k : ℕ) → k < length (map worth s) → k < length s
element_within worth s k h = rw (length-map s worth) at h

pub element_value : {A : Type 0} (worth : A → ℤ) (s : List A) (k : ℕ) (d : A) → k < length (map worth s) → worth (get_or s k d) ≡ slice_index_or (map worth s) k (pos 0)
element_value worth s k d h = sym (get_or-map worth s k d (pos 0) (element_within worth s k h))

part_elements : {A : Type 0} (s : List A) (start count : ℕ) → start + count ≤ length s → length (take count (drop start s)) ≡ count
part_elements s start count h = grind (arith, common_steps)

pub part_length : {A : Type 0} (worth : A → ℤ) (s : List A) (start count : ℕ) → start + count ≤ length (map worth s) → length (map worth (take count (drop start s))) ≡ count
part_length worth s start count h = length-map (take count (drop start s)) worth ∙ part_elements s start count (all_within worth s start count h)

pub part_entry : {A : Type 0} (worth : A → ℤ) (s : List A) (start count k : ℕ) → start + count ≤ length (map worth s) → k < count → entry (map worth (take count (drop start s))) k ≡ entry (map worth s) (start + k)
part_entry worth s start count k h lt =
    ap (λ l. entry l k) (sym (take-map worth count (drop start s)) ∙ ap (take count) (sym (drop-map worth start s)))
    ∙ get_or-take count (drop start (map worth s)) k (pos 0) lt ∙ get_or-drop start (map worth s) k (pos 0)

-- what each element's value has
pub element_all : {A : Type 0} (worth : A → ℤ) (P : ℤ → Type 0) (s : List A) (k : ℕ) (x : A) → All P (map worth s) → slice_get s k ≡ Some x → P (worth x)
element_all worth P s k x all there =
    let lt = slice_get_within s k x there in
    subst P (get_or-map worth s k x (pos 0) lt ∙ ap worth (get_or_from_slice_get s k x x there)) (all k (pos 0) (rw (length-map s worth) lt))

-- narrower types
pub unsigned_within : (n m : ℕ) → n ≤ m → IsWithin (Unsigned n) (Unsigned m)
unsigned_within n m h = record { low = omega arith; high = pow_mono h }

pub signed_within : (n m : ℕ) → n ≤ m → IsWithin (Signed n) (Signed m)
signed_within n m h = let g : n - 1 ≤ m - 1 = omega (arith, h) in record { low = pow_mono g; high = pow_mono g }

-- values that were samples
pub samples_back : (s : List ℕ) → s ≡ map unsigned_abs (map pos s)
samples_back [] = refl
samples_back (x ∷ s) = ap (λ t. x ∷ t) (samples_back s)
