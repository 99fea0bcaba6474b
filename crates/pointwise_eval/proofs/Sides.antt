-- Rows that are read at the side, as rows of expressions.
use Rattle.std.proofs.Common.{◌≡◌, ◌∙◌, sym, ap, subst, ℕ, min, ◌+◌, ◌-◌, ◌*◌, ◌<◌, ◌≤◌, List, length, map, ℤ, pos, negsuc, ◌+ℤ◌, refl, arith, inl, inr}
use Rattle.std.proofs.lemmas.Bool.{cases_lt}
use Rattle.std.proofs.lemmas.List.{length-map}
use Rattle.dk_base.specs.declared.ty.Ty.{Ty}
use Rattle.dk_base.specs.Types.{IsIn}
use Rattle.dk_base.specs.Frames.{Size, Picture, clamped}
use Rattle.pointwise_ir.specs.declared.expr.Edge.{Edge}
use Rattle.pointwise_ir.specs.declared.expr.Edge.TheVariants.{Zero, Clamp}
use Rattle.pointwise_ir.specs.Meaning.{edged}
use Rattle.value_rows.specs.Rows.{entry, beside, IsRow}
use Rattle.std.proofs.Math.Nat.{mul-le-mul_right}
use Rattle.pointwise_eval.specs.Planes.{shown}
use Rattle.pointwise_eval.specs.Steps.{LeadsToRow}
use Rattle.pointwise_eval.proofs.Rendered.{shown_value}

-- an entry of a row is a value of the picture
pub entry_in : (t : Ty) (size : Size) (picture : Picture) (y : ℤ) (row : List ℤ) → IsRow size picture y row → ((x y : ℤ) → IsIn t (picture x y)) → (k : ℕ) → k < size.width → IsIn t (entry row k)
entry_in t size picture y row is all k lt = subst (IsIn t) (sym (is.values k lt)) (all (pos k) y)

-- so is an element
pub row_in : {A : Type 0} (worth : A → ℤ) (t : Ty) (size : Size) (picture : Picture) (y : ℤ) (row : List A) → IsRow size picture y (map worth row) → ((x y : ℤ) → IsIn t (picture x y)) → (k : ℕ) → k < length row → IsIn t (entry (map worth row) k)
row_in worth t size picture y row is all k lt =
    let long : length (map worth row) ≡ length row = length-map row worth in
    let whole = is.whole in
    entry_in t size picture y (map worth row) is all k (let within : k < size.width = omega (arith, lt, long, whole) in within)

zero_side : (size : Size) (picture : Picture) (there n : ℕ) (row : List ℤ) → there < size.height → IsRow size picture (pos there) row → beside Zero row (pos n) ≡ edged size Zero picture (pos n) (pos there)
zero_side size picture there n row down is = elim (cases_lt n size.width) [
  | inl lt ↦ (let e = is.values n lt in let w = is.whole in grind arith)
  | inr ge ↦ (let w = is.whole in grind arith)
]

clamp_side : (size : Size) (picture : Picture) (there : ℕ) (x y : ℤ) (row : List ℤ) → 0 < size.width → pos there ≡ clamped size.height y → IsRow size picture (pos there) row → beside Clamp row x ≡ edged size Clamp picture x y
clamp_side size picture there (pos n) y row some is row_is =
    let w = row_is.whole in
    let within : min n (size.width - 1) < size.width = omega (arith, some) in
    ap (λ k. entry row (min n (k - 1))) w ∙ row_is.values _ within ∙ ap (picture (clamped size.width (pos n))) is
clamp_side size picture there (negsuc n) y row some is row_is = row_is.values 0 some ∙ ap (picture (pos 0)) is

pub side_is : (size : Size) (edge : Edge) (picture : Picture) (there : ℕ) (x y : ℤ) (row : List ℤ) → 0 < size.width → LeadsToRow edge y size.height there → IsRow size picture (pos there) row → beside edge row x ≡ edged size edge picture x y
side_is size Zero picture there (pos n) y row some leads is = zero_side size picture there n row leads.below is ∙ ap (edged size Zero picture (pos n)) leads.row
side_is size Zero picture there (negsuc n) y row some leads is = refl
side_is size Clamp picture there x y row some leads is = clamp_side size picture there x y row some leads.row is

-- a row that is read at the side
pub side_row : {A : Type 0} (worth : A → ℤ) (size : Size) (edge : Edge) (picture : Picture) (dx dy : ℤ) (y there : ℕ) (row : List ℤ) (new : List A) → 0 < size.width → length new ≡ size.width → LeadsToRow edge (pos y +ℤ dy) size.height there → IsRow size picture (pos there) row →
    ((x : ℕ) → x < size.width → entry (map worth new) x ≡ beside edge row (pos x +ℤ dx)) → IsRow size (λ x z. edged size edge picture (x +ℤ dx) (z +ℤ dy)) (pos y) (map worth new)
side_row worth size edge picture dx dy y there row new some long leads is placed = record {
  whole = length-map new worth ∙ long;
  values = λ x lt. placed x lt ∙ side_is size edge picture there (pos x +ℤ dx) (pos y +ℤ dy) row some leads is;
}

-- a part of values in raster order that is a row of their picture
pub part_row : (size : Size) (values part : List ℤ) (y : ℕ) → y < size.height → length part ≡ size.width → ((k : ℕ) → k < size.width → entry part k ≡ entry values (y * size.width + k)) → IsRow size (shown size values) (pos y) part
part_row size values part y down whole at = record { whole = whole; values = λ x lt. at x lt ∙ sym (shown_value size values x y lt down) }

-- row y is within the values
pub row_within : (y w h n : ℕ) → y < h → n ≡ w * h → y * w + w ≤ n
row_within y w h n down whole =
    let rows : (y + 1) * w ≤ h * w = mul-le-mul_right w (let le : y + 1 ≤ h = omega (arith, down) in le) in
    omega (arith, rows, whole)
