-- Which arrays were accessed.
use Rattle.std.proofs.Common.{◌≡◌, ℕ, zero, suc, ◌+◌, ◌<◌, ◌==◌, Bool, true, false, List, [], ◌∷◌, ◌++◌, length, drop, refl, ap, subst, sym, ◌∙◌, arith, if◌then◌else◌}
use Rattle.std.specs.Prelude.{slice_index_or}
use Rattle.wiring.specs.declared.right.Atom.{Atom}
use Rattle.wiring.specs.declared.netlist.Net.{Net}
use Rattle.wiring.specs.Snapshot.{accesses_of}
use Rattle.net_build.specs.Indices.{indices_of}
use Rattle.array_packing.specs.Packing.{Marks}

both : (x : ℕ) (one other : List (ℕ × Atom Net)) → length (indices_of x (one ++ other)) ≡ length (indices_of x one) + length (indices_of x other)
both x [] other = omega arith
both x (a ∷ one) other = by (a.0 == x) (both x one other)
  where
    by : (b : Bool) → length (indices_of x (one ++ other)) ≡ length (indices_of x one) + length (indices_of x other)
        → length (if b then a.1 ∷ indices_of x (one ++ other) else indices_of x (one ++ other)) ≡ length (if b then a.1 ∷ indices_of x one else indices_of x one) + length (indices_of x other)
    by true rest = let e : suc (length (indices_of x (one ++ other))) ≡ suc (length (indices_of x one)) + length (indices_of x other) = omega (arith, rest) in e
    by false rest = rest

-- one after another
pub marks_both : (old between new : List Bool) (one other : List (ℕ × Atom Net)) → Marks old between one → Marks between new other → Marks old new (one ++ other)
marks_both old between new one other a b = record {
  size = b.size ∙ a.size;
  each = λ x low. (let first = a.each x low in let second = b.each x (subst (λ (n : ℕ). x < n) (sym a.size) low) in omega (arith, first, second, both x one other));
}

-- the accesses of one more of several
pub accesses_more : {X : Type 0} (f : X → List (ℕ × Atom Net)) (xs : List X) (k : ℕ) (d : X) → k < length xs → accesses_of f (drop k xs) ≡ f (slice_index_or xs k d) ++ accesses_of f (drop (k + 1) xs)
accesses_more f [] k d low = absurd (omega (arith, low))
accesses_more f (x ∷ xs) zero d low = refl
accesses_more f (x ∷ xs) (suc k) d low = accesses_more f xs k d (omega (arith, low)) ∙ ap (λ (j : ℕ). f (slice_index_or xs k d) ++ accesses_of f (drop j (x ∷ xs))) (let e : suc (k + 1) ≡ suc k + 1 = omega arith in e)
