-- Checks of rows.
use Rattle.std.proofs.Common.{◌≡◌, ℕ, suc, ◌+◌, ◌*◌, ◌<◌, Bool, true, false, List, [], length, drop, ap, sym, ◌∙◌, arith}
use Rattle.std.specs.Prelude.{slice_index, slice_index_or, if◌then◌else◌}
use Rattle.std.proofs.lemmas.List.{get_or-take, get_or-drop}
use Rattle.wiring.specs.declared.right.Atom.{Atom}
use Rattle.wiring.specs.Clock.{bit}
use Rattle.batch_rows.specs.Rights.{IsAtomRow}
use Rattle.batch_code.specs.Rows.{KeepsRegister}
use Rattle.batch_sim.specs.Called.{of_clock}
use Rattle.batch_sim.specs.Checked.{input_of, Follows}

pub input_reset : (has_enable : Bool) (ports : ℕ) (enables : List Bool) (dins : List ℕ) (clock input : ℕ) → input ≡ 0 → 0 ≡ input_of has_enable ports enables dins clock input
input_reset has_enable ports enables dins clock input e = ap (λ n. input_of has_enable ports enables dins clock n) (sym e)

pub input_enable : (has_enable : Bool) (ports : ℕ) (enables : List Bool) (dins : List ℕ) (clock input : ℕ) → has_enable ≡ true → input ≡ 1 → bit (slice_index_or enables clock false) ≡ input_of has_enable ports enables dins clock input
input_enable has_enable ports enables dins clock input h e = ap (λ n. input_of true ports enables dins clock n) {y = input} (sym e) ∙ ap (λ (b : Bool). input_of b ports enables dins clock input) (sym h)

of_here : (ports clock j : ℕ) (dins : List ℕ) → j < ports → slice_index (of_clock ports clock dins) j ≡ slice_index dins (clock * ports + j)
of_here ports clock j dins l = get_or-take ports (drop (clock * ports) dins) j 0 l ∙ get_or-drop (clock * ports) dins j 0

pub input_din : (has_enable : Bool) (ports : ℕ) (enables : List Bool) (dins : List ℕ) (clock input j : ℕ) → input ≡ (if has_enable then 2 else 1) + j → j < ports → slice_index dins (clock * ports + j) ≡ input_of has_enable ports enables dins clock input
input_din true ports enables dins clock input j e l = sym (of_here ports clock j dins l) ∙ ap (λ n. input_of true ports enables dins clock n) {y = input} (sym (e ∙ (let z : 2 + j ≡ suc (suc j) = omega arith in z)))
input_din false ports enables dins clock input j e l = sym (of_here ports clock j dins l) ∙ ap (λ n. input_of false ports enables dins clock n) {y = input} (sym (e ∙ (let z : 1 + j ≡ suc j = omega arith in z)))

pub kept_register : (rows : List (List ℕ)) (count stored slot : ℕ) (next : Atom ℕ) (row later : List ℕ) → row ≡ slice_index_or rows slot [] → length later ≡ count → IsAtomRow rows next count later → Follows row later stored → KeepsRegister rows count stored slot next
kept_register rows count stored slot next row later e long is follows = record {
  first = ap (λ (r : List ℕ). slice_index r 0) (sym e) ∙ follows.first;
  later = λ t l. ap (λ (r : List ℕ). slice_index r (suc t)) (sym e) ∙ follows.later t (omega (arith, l, long)) ∙ is t l;
}
