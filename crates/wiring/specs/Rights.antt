-- What a right side reads and what it is worth, over nets N and arrays A of any kind.
use Rattle.std.specs.Prelude.{ℕ, zero, suc, ◌+◌, ◌-◌, ◌*◌, ◌/◌, ◌%◌, ◌^◌, nat_lt, ◌==◌, if◌then◌else◌, Option, Some, None, List, [], ◌∷◌, ◌++◌, bit_and, bit_or, bit_xor}
use Rattle.wiring.specs.Sizes.{SizedNumber}
use Rattle.wiring.specs.declared.right.Atom.{Atom}
use Rattle.wiring.specs.declared.right.Atom.TheVariants as atom
use Rattle.wiring.specs.declared.right.Operator.{Operator}
use Rattle.wiring.specs.declared.right.Operator.TheVariants.{Add, Subtract, Multiply, Divide, Less, Equal, And, Or, Xor}
use Rattle.wiring.specs.declared.right.Right.{Right}
use Rattle.wiring.specs.declared.right.Right.TheVariants.{Copy, Not, Binary, Choose, Join, Repeat, Bit, Slice, Word}

-- the nets and constants of a right side, in order
abbrev pub operands : {N A : Type 0} → Right N A → List (Atom N)
operands (Copy a) = a ∷ []
operands (Not a) = a ∷ []
operands (Binary o a b) = a ∷ (b ∷ [])
operands (Choose c a b) = c ∷ (a ∷ (b ∷ []))
operands (Join a b) = a ∷ (b ∷ [])
operands (Repeat n a) = a ∷ []
operands (Bit v k) = atom.Net v ∷ []
operands (Slice v m l) = atom.Net v ∷ []
operands (Word m i) = i ∷ []

-- the array that it reads, at its one operand
abbrev pub array_of : {N A : Type 0} → Right N A → Option A
array_of (Copy a) = None
array_of (Not a) = None
array_of (Binary o a b) = None
array_of (Choose c a b) = None
array_of (Join a b) = None
array_of (Repeat n a) = None
array_of (Bit v k) = None
array_of (Slice v m l) = None
array_of (Word m i) = Some m

-- a list, and after it what each of these gives
abbrev pub gathered : {X Y : Type 0} → (X → List Y) → List Y → List X → List Y
gathered f ys [] = ys
gathered f ys (x ∷ xs) = gathered f (ys ++ f x) xs

-- the nets that an atom reads, and those that a right side reads
abbrev pub atom_nets : {N : Type 0} → Atom N → List N
atom_nets (atom.Net n) = n ∷ []
atom_nets (atom.Constant c) = []

abbrev pub nets_of : {N A : Type 0} → Right N A → List N
nets_of r = gathered atom_nets [] (operands r)

-- and the constants in them
abbrev pub atom_constants : {N : Type 0} → Atom N → List SizedNumber
atom_constants (atom.Net n) = []
atom_constants (atom.Constant c) = c ∷ []

abbrev pub constants_of : {N A : Type 0} → Right N A → List SizedNumber
constants_of r = gathered atom_constants [] (operands r)

abbrev pub atom_width : {N : Type 0} → (N → ℕ) → Atom N → ℕ
atom_width width (atom.Net n) = width n
atom_width width (atom.Constant c) = c.width

-- the width that a right side has
abbrev pub operator_width : Operator → ℕ → ℕ
operator_width Add w = w
operator_width Subtract w = w
operator_width Multiply w = w
operator_width Divide w = w
operator_width Less w = 1
operator_width Equal w = 1
operator_width And w = w
operator_width Or w = w
operator_width Xor w = w

abbrev pub right_width : {N A : Type 0} → (N → ℕ) → (A → ℕ) → Right N A → ℕ
right_width width word_width (Copy a) = atom_width width a
right_width width word_width (Not a) = atom_width width a
right_width width word_width (Binary o a b) = operator_width o (atom_width width a)
right_width width word_width (Choose c a b) = atom_width width a
right_width width word_width (Join a b) = atom_width width a + atom_width width b
right_width width word_width (Repeat n a) = n * atom_width width a
right_width width word_width (Bit v k) = 1
right_width width word_width (Slice v m l) = m - l + 1
right_width width word_width (Word m i) = word_width m

abbrev pub atom_value : {N : Type 0} → (N → ℕ) → Atom N → ℕ
atom_value value (atom.Net n) = value n
atom_value value (atom.Constant c) = c.value

-- two numbers of w bits under an operator
abbrev pub operator_value : Operator → ℕ → ℕ → ℕ → ℕ
operator_value Add w a b = (a + b) % 2 ^ w
operator_value Subtract w a b = (a + 2 ^ w - b) % 2 ^ w
operator_value Multiply w a b = a * b % 2 ^ w
operator_value Divide w a b = a / b
operator_value Less w a b = if nat_lt a b then 1 else 0
operator_value Equal w a b = if a == b then 1 else 0
operator_value And w a b = bit_and a b
operator_value Or w a b = bit_or a b
operator_value Xor w a b = bit_xor a b

-- n copies of a number of w bits, one above the other
abbrev pub repeated : ℕ → ℕ → ℕ → ℕ
repeated zero w a = 0
repeated (suc n) w a = repeated n w a * 2 ^ w + a

-- `word m i` is what array m holds at i
abbrev pub right_value : {N A : Type 0} → (N → ℕ) → (A → ℕ → ℕ) → (N → ℕ) → Right N A → ℕ
right_value width word value (Copy a) = atom_value value a
right_value width word value (Not a) = 2 ^ atom_width width a - 1 - atom_value value a
right_value width word value (Binary o a b) = operator_value o (atom_width width a) (atom_value value a) (atom_value value b)
right_value width word value (Choose c a b) = if atom_value value c == 1 then atom_value value a else atom_value value b
right_value width word value (Join a b) = atom_value value a * 2 ^ atom_width width b + atom_value value b
right_value width word value (Repeat n a) = repeated n (atom_width width a) (atom_value value a)
right_value width word value (Bit v k) = value v / 2 ^ k % 2
right_value width word value (Slice v m l) = value v / 2 ^ l % 2 ^ (m - l + 1)
right_value width word value (Word m i) = word m (atom_value value i)
