-- Products modulo m.
use Rattle.std.proofs.Common.{◌≡◌, ℕ, suc, ◌+◌, ◌*◌, ◌%◌, ◌^◌, ℤ, pos, negsuc, ◌*ℤ◌, sym, ◌∙◌, ap, arith}
use Rattle.std.proofs.lemmas.Int.{ints}
use Rattle.dk_base.specs.Numbers.{code}
use Rattle.dk_base.proofs.Congruence.{IsCongruent, code_is, code_congruent}

wide : (x i y k m : ℕ) → x * y + (i * y + x * k + i * k * m) * m ≡ (x + i * m) * (y + k * m)
wide x i y k m = grind arith

both_pos : (x i a j y k b l m : ℕ) → x + i * m ≡ a + j * m → y + k * m ≡ b + l * m →
    x * y + (i * y + x * k + i * k * m) * m ≡ a * b + (j * b + a * l + j * l * m) * m
both_pos x i a j y k b l m p q = wide x i y k m ∙ ap (λ z. z * (y + k * m)) p ∙ ap (λ z. (a + j * m) * z) q ∙ sym (wide a j b l m)

mixed_left : (a b j l i Y m x : ℕ) → a * b + x * Y + (j * b + a * l + j * l * m + i * Y) * m ≡ (x + i * m) * Y + (a + j * m) * (b + l * m)
mixed_left a b j l i Y m x = grind arith

mixed_right : (x i Y k b l m : ℕ) → Y + (b + l * m) ≡ k * m → (x + i * m) * Y + (x + i * m) * (b + l * m) ≡ ((x + i * m) * k) * m
mixed_right x i Y k b l m q =
    let t : (x + i * m) * Y + (x + i * m) * (b + l * m) ≡ (x + i * m) * (Y + (b + l * m)) = grind arith in
    let u : (x + i * m) * (k * m) ≡ ((x + i * m) * k) * m = grind arith in
    t ∙ ap (λ z. (x + i * m) * z) q ∙ u

mixed : (x i a j Y k b l m : ℕ) → x + i * m ≡ a + j * m → Y + (b + l * m) ≡ k * m →
    a * b + x * Y + (j * b + a * l + j * l * m + i * Y) * m ≡ ((x + i * m) * k) * m
mixed x i a j Y k b l m p q =
    mixed_left a b j l i Y m x ∙ ap (λ z. (x + i * m) * Y + z * (b + l * m)) (sym p) ∙ mixed_right x i Y k b l m q

neg_square : (X A Y B : ℕ) → X * Y + (X + A) * (Y + B) ≡ A * B + ((X + A) * Y + (Y + B) * X)
neg_square X A Y B = grind arith

neg_left : (X i Y k m : ℕ) → X * Y + (i * k * m) * m ≡ X * Y + (i * m) * (k * m)
neg_left X i Y k m = grind arith

neg_right : (a j b l i Y k X m : ℕ) → (a + j * m) * (b + l * m) + ((i * m) * Y + (k * m) * X) ≡ a * b + (j * b + a * l + j * l * m + i * Y + k * X) * m
neg_right a j b l i Y k X m = grind arith

both_neg : (X i a j Y k b l m : ℕ) → X + (a + j * m) ≡ i * m → Y + (b + l * m) ≡ k * m →
    X * Y + (i * k * m) * m ≡ a * b + (j * b + a * l + j * l * m + i * Y + k * X) * m
both_neg X i a j Y k b l m p q =
    neg_left X i Y k m ∙ ap (λ z. X * Y + z * (k * m)) (sym p) ∙ ap (λ z. X * Y + (X + (a + j * m)) * z) (sym q) ∙ neg_square X (a + j * m) Y (b + l * m) ∙
    ap (λ z. (a + j * m) * (b + l * m) + (z * Y + (Y + (b + l * m)) * X)) p ∙ ap (λ z. (a + j * m) * (b + l * m) + ((i * m) * Y + z * X)) q ∙ neg_right a j b l i Y k X m

-- the product of congruent numbers
pub congruent_multiply : (m : ℕ) (v w : ℤ) (a b : ℕ) → IsCongruent m v a → IsCongruent m w b → IsCongruent m (v *ℤ w) (a * b)
congruent_multiply m (pos x) (pos y) a b p q =
    let e : x + p.up * m ≡ a + p.down * m = let h = p.is in omega (arith, ints, h) in
    let f : y + q.up * m ≡ b + q.down * m = let h = q.is in omega (arith, ints, h) in
    let g = both_pos x p.up a p.down y q.up b q.down m e f in
    record { up = p.up * y + x * q.up + p.up * q.up * m; down = p.down * b + a * q.down + p.down * q.down * m; is = omega (arith, ints, g) }
congruent_multiply m (pos x) (negsuc y) a b p q =
    let e : x + p.up * m ≡ a + p.down * m = let h = p.is in omega (arith, ints, h) in
    let f : suc y + (b + q.down * m) ≡ q.up * m = let h = q.is in omega (arith, ints, h) in
    let g = mixed x p.up a p.down (suc y) q.up b q.down m e f in
    record { up = (x + p.up * m) * q.up; down = p.down * b + a * q.down + p.down * q.down * m + p.up * suc y; is = omega (arith, ints, g) }
congruent_multiply m (negsuc x) (pos y) a b p q =
    let e : suc x + (a + p.down * m) ≡ p.up * m = let h = p.is in omega (arith, ints, h) in
    let f : y + q.up * m ≡ b + q.down * m = let h = q.is in omega (arith, ints, h) in
    let g = mixed y q.up b q.down (suc x) p.up a p.down m f e in
    let c : b * a ≡ a * b = grind arith in
    let d : y * suc x ≡ suc x * y = grind arith in
    record { up = (y + q.up * m) * p.up; down = q.down * a + b * p.down + q.down * p.down * m + q.up * suc x; is = omega (arith, ints, g, c, d) }
congruent_multiply m (negsuc x) (negsuc y) a b p q =
    let e : suc x + (a + p.down * m) ≡ p.up * m = let h = p.is in omega (arith, ints, h) in
    let f : suc y + (b + q.down * m) ≡ q.up * m = let h = q.is in omega (arith, ints, h) in
    let g = both_neg (suc x) p.up a p.down (suc y) q.up b q.down m e f in
    record { up = p.up * q.up * m; down = p.down * b + a * q.down + p.down * q.down * m + p.up * suc y + q.up * suc x; is = omega (arith, ints, g) }

pub code_multiply : (w : ℕ) (v u : ℤ) → code w (v *ℤ u) ≡ code w v * code w u % 2 ^ w
code_multiply w v u = code_is w _ _ (congruent_multiply _ _ _ _ _ (code_congruent w v) (code_congruent w u))
