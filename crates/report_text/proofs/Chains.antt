-- Bytes one after another.
use Rattle.std.proofs.Common.{◌≡◌, ◌∙◌, ℕ, List, [], ◌∷◌, ◌++◌, refl, ap, sym, append_assoc}
use Rattle.report_text.specs.Layout.{joined}

pub four : (a b c d tail : List ℕ) → (a ++ (b ++ (c ++ d))) ++ tail ≡ a ++ (b ++ (c ++ (d ++ tail)))
four a b c d tail = append_assoc a (b ++ (c ++ d)) tail ∙ ap (λ x. a ++ x) (append_assoc b (c ++ d) tail ∙ ap (λ x. b ++ x) (append_assoc c d tail))

pub five : (out a b c d tail : List ℕ) → (out ++ (a ++ (b ++ (c ++ d)))) ++ tail ≡ out ++ (a ++ (b ++ (c ++ (d ++ tail))))
five out a b c d tail = append_assoc out (a ++ (b ++ (c ++ d))) tail ∙ ap (λ x. out ++ x) (four a b c d tail)

pub joined_append : (xs ys : List (List ℕ)) → joined (xs ++ ys) ≡ joined xs ++ joined ys
joined_append [] ys = refl
joined_append (x ∷ xs) ys = ap (λ l. x ++ l) (joined_append xs ys) ∙ sym (append_assoc x (joined xs) (joined ys))

pub parts : (h i l r f e : List (List ℕ)) (size clocks bits : List ℕ)
    → joined (h ++ (size ∷ (i ++ (l ++ (clocks ∷ bits ∷ (r ++ (f ++ e))))))) ≡ (joined h ++ (size ++ (joined i ++ joined l))) ++ (clocks ++ (bits ++ (joined r ++ (joined f ++ joined e))))
parts h i l r f e size clocks bits =
    joined_append h (size ∷ (i ++ (l ++ (clocks ∷ bits ∷ (r ++ (f ++ e))))))
    ∙ ap (λ x. joined h ++ (size ++ x)) (joined_append i (l ++ (clocks ∷ bits ∷ (r ++ (f ++ e))))
    ∙ ap (λ x. joined i ++ x) (joined_append l (clocks ∷ bits ∷ (r ++ (f ++ e)))
    ∙ ap (λ x. joined l ++ (clocks ++ (bits ++ x))) (joined_append r (f ++ e) ∙ ap (λ x. joined r ++ x) (joined_append f e))))
    ∙ sym (four (joined h) size (joined i) (joined l) (clocks ++ (bits ++ (joined r ++ (joined f ++ joined e)))))
