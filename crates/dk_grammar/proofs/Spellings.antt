-- Tables of spellings: which row is the first that a text begins with, by look-ups, where spellings of two bytes come before those of one.
use Rattle.std.proofs.Common.{◌≡◌, ℕ, List, [], ◌∷◌, ◌++◌, length, Option, Some, None, Bool, true, false, nat_eq, arith, refl}
use Rattle.std.specs.List.{find, starts_with}
use Rattle.std.specs.Map.{lookup}
use Rattle.std.specs.Str.{bytes_eq}

abbrev pub Table : Type 0 → Type 0
Table S = List (List ℕ × S)

same_test : (a b : ℕ) → nat_eq a b ≡ nat_eq b a
same_test a b = grind arith

module _ {S : Type 0} where
  -- the symbol of a row, and how many bytes it has
  abbrev pub met : Option (List ℕ × S) → Option (S × ℕ)
  met None = None
  met (Some row) = Some (row.1, length row.0)

  -- what the look-ups give
  abbrev pub one_met : Option S → Option (S × ℕ)
  one_met None = None
  one_met (Some s) = Some (s, 1)

  abbrev pub two_met : Option S → Option S → Option (S × ℕ)
  two_met None one = one_met one
  two_met (Some s) one = Some (s, 2)

  -- whether the spellings have two bytes, and one
  abbrev pub are_two : Table S → Bool
  are_two [] = true
  are_two ((k ∷ l ∷ [], t) ∷ rows) = are_two rows
  are_two _ = false

  abbrev pub are_one : Table S → Bool
  are_one [] = true
  are_one ((k ∷ [], t) ∷ rows) = are_one rows
  are_one _ = false

  abbrev pub first_in : List ℕ → Table S → Option (S × ℕ)
  first_in bytes rows = met (find (λ row. starts_with nat_eq bytes row.0) rows)

  abbrev pub in_table : List ℕ → Table S → Option S
  in_table bytes rows = lookup (bytes_eq bytes) rows

  -- a row more in front
  two_row : (a b k l : ℕ) (bs : List ℕ) (t : S) (rows : Table S) (p q : Bool) → nat_eq a k ≡ p → nat_eq b l ≡ q
      → first_in (a ∷ b ∷ bs) rows ≡ two_met (in_table (a ∷ b ∷ []) rows) (in_table (a ∷ []) rows)
      → first_in (a ∷ b ∷ bs) ((k ∷ l ∷ [], t) ∷ rows) ≡ two_met (in_table (a ∷ b ∷ []) ((k ∷ l ∷ [], t) ∷ rows)) (in_table (a ∷ []) ((k ∷ l ∷ [], t) ∷ rows))
  two_row a b k l bs t rows true true e f h = rw (same_test k a, same_test l b, e, f) refl
  two_row a b k l bs t rows true false e f h = rw (same_test k a, same_test l b, e, f) h
  two_row a b k l bs t rows false q e f h = rw (same_test k a, e) h

  one_row : (a b k : ℕ) (bs : List ℕ) (t : S) (rows : Table S) (p : Bool) → nat_eq a k ≡ p
      → first_in (a ∷ b ∷ bs) rows ≡ one_met (in_table (a ∷ []) rows)
      → first_in (a ∷ b ∷ bs) ((k ∷ [], t) ∷ rows) ≡ one_met (in_table (a ∷ []) ((k ∷ [], t) ∷ rows))
  one_row a b k bs t rows true e h = rw (same_test k a, e) refl
  one_row a b k bs t rows false e h = rw (same_test k a, e) h

  none_row : (a b k : ℕ) (t : S) (rows : Table S) (p : Bool) → nat_eq a k ≡ p → in_table (a ∷ b ∷ []) rows ≡ None → in_table (a ∷ b ∷ []) ((k ∷ [], t) ∷ rows) ≡ None
  none_row a b k t rows true e h = rw e h
  none_row a b k t rows false e h = rw e h

  -- rows of one byte give nothing of two, and their first row is that of the first byte
  record Ones (a b : ℕ) (bs : List ℕ) (rows : Table S) : Type 0 where
    pub no_two : in_table (a ∷ b ∷ []) rows ≡ None
    pub one : first_in (a ∷ b ∷ bs) rows ≡ one_met (in_table (a ∷ []) rows)

  ones : (a b : ℕ) (bs : List ℕ) (rows : Table S) → are_one rows ≡ true → Ones a b bs rows
  ones a b bs [] h = record { no_two = refl; one = refl }
  ones a b bs (([], t) ∷ rows) h = absurd (cc)
  ones a b bs ((k ∷ [], t) ∷ rows) h =
      let more = ones a b bs rows h in
      record { no_two = none_row a b k t rows _ refl more.no_two; one = one_row a b k bs t rows _ refl more.one }
  ones a b bs ((k ∷ l ∷ ks, t) ∷ rows) h = absurd (cc)

  pub at_two : (a b : ℕ) (bs : List ℕ) (rows more : Table S) → are_two rows ≡ true → are_one more ≡ true
      → first_in (a ∷ b ∷ bs) (rows ++ more) ≡ two_met (in_table (a ∷ b ∷ []) (rows ++ more)) (in_table (a ∷ []) (rows ++ more))
  at_two a b bs [] more h g = let o = ones a b bs more g in rw (o.no_two) o.one
  at_two a b bs (([], t) ∷ rows) more h g = absurd (cc)
  at_two a b bs ((k ∷ [], t) ∷ rows) more h g = absurd (cc)
  at_two a b bs ((k ∷ l ∷ [], t) ∷ rows) more h g = two_row a b k l bs t (rows ++ more) _ _ refl refl (at_two a b bs rows more h g)
  at_two a b bs ((k ∷ l ∷ m ∷ ks, t) ∷ rows) more h g = absurd (cc)

  -- at the end of the text no row of two bytes is there
  end_two : (a k l : ℕ) (t : S) (rows : Table S) (p : Bool) → nat_eq a k ≡ p → first_in (a ∷ []) rows ≡ one_met (in_table (a ∷ []) rows)
      → first_in (a ∷ []) ((k ∷ l ∷ [], t) ∷ rows) ≡ one_met (in_table (a ∷ []) ((k ∷ l ∷ [], t) ∷ rows))
  end_two a k l t rows true e h = rw (same_test k a, e) h
  end_two a k l t rows false e h = rw (same_test k a, e) h

  end_one : (a k : ℕ) (t : S) (rows : Table S) (p : Bool) → nat_eq a k ≡ p → first_in (a ∷ []) rows ≡ one_met (in_table (a ∷ []) rows)
      → first_in (a ∷ []) ((k ∷ [], t) ∷ rows) ≡ one_met (in_table (a ∷ []) ((k ∷ [], t) ∷ rows))
  end_one a k t rows true e h = rw (same_test k a, e) refl
  end_one a k t rows false e h = rw (same_test k a, e) h

  end_ones : (a : ℕ) (rows : Table S) → are_one rows ≡ true → first_in (a ∷ []) rows ≡ one_met (in_table (a ∷ []) rows)
  end_ones a [] h = refl
  end_ones a (([], t) ∷ rows) h = absurd (cc)
  end_ones a ((k ∷ [], t) ∷ rows) h = end_one a k t rows _ refl (end_ones a rows h)
  end_ones a ((k ∷ l ∷ ks, t) ∷ rows) h = absurd (cc)

  pub at_last : (a : ℕ) (rows more : Table S) → are_two rows ≡ true → are_one more ≡ true → first_in (a ∷ []) (rows ++ more) ≡ one_met (in_table (a ∷ []) (rows ++ more))
  at_last a [] more h g = end_ones a more g
  at_last a (([], t) ∷ rows) more h g = absurd (cc)
  at_last a ((k ∷ [], t) ∷ rows) more h g = absurd (cc)
  at_last a ((k ∷ l ∷ [], t) ∷ rows) more h g = end_two a k l t (rows ++ more) _ refl (at_last a rows more h g)
  at_last a ((k ∷ l ∷ m ∷ ks, t) ∷ rows) more h g = absurd (cc)
