-- Within the limits the widths, the numbers of words and the bits of all arrays are in their ranges.
use Rattle.std.proofs.Common.{◌≡◌, ℕ, ◌+◌, ◌≤◌, ◌<◌, List, [], ◌∷◌, ◌++◌, map, Option, Some, None, nat_lt, nat_le, nat_eq, All, refl, inl, inr, arith}
use Rattle.std.specs.Option.{option_to_list}
use Rattle.std.proofs.lemmas.Bool.{cases_Bool}
use Rattle.std.proofs.lemmas.List.Elements.{All-nil, All-cons}
use Rattle.dk_base.specs.declared.TheConstants.{MAX_BUFFER_BITS}
use Rattle.wiring.specs.Sizes.{IsWidth, IsDepth}
use Rattle.wiring.specs.BufferBits.{array_bits}
use Rattle.wiring.specs.declared.netlist.Shape.{Shape}
use Rattle.netlist.specs.declared.parts.Declaration.{Declaration}
use Rattle.netlist.specs.Scopes.{SortFits, array_shape, collected}
use Rattle.verilog_text.specs.declared.written.Range.{Range}
use Rattle.verilog_text.specs.declared.written.WrittenSort.{WrittenSort}
use Rattle.verilog_text.specs.declared.written.WrittenSort.TheVariants as sort
use Rattle.verilog_text.specs.declared.written.WrittenDeclaration.{WrittenDeclaration}
use Rattle.verilog_text.specs.declared.fault.LimitFault.{LimitFault}
use Rattle.verilog_text.specs.declared.fault.LimitKind.TheVariants.{Width, Words, ArrayBits}
use Rattle.verilog_text.specs.Grammar.{Source}
use Rattle.verilog_text.specs.Limits.{or_else, width_fault, words_fault, width_of, depth_of, bits_of, bits_fault, sort_fault, ports_fault, declarations_fault, assigns_fault, limit_fault}
use Rattle.verilog_text.specs.Stands.{sort_of, declaration_of}

both_none : (a b : Option LimitFault) → or_else a b ≡ None → (a ≡ None) × (b ≡ None)
both_none None b e = (refl, e)
both_none (Some f) b e = absurd (cc)

width_fits : (bits : Option Range) → width_fault bits ≡ None → IsWidth (width_of bits)
width_fits None e = (omega arith, omega arith)
width_fits (Some r) e = elim (cases_Bool (nat_le 64 r.first.value)) as (λ _. IsWidth (width_of (Some r))) [
  | inl t ↦ absurd (let f : width_fault (Some r) ≡ Some (record { span = r.first.span; kind = Width }) = rw t refl in cc)
  | inr f ↦ let l : r.first.value < 64 = grind arith in (omega arith, omega (arith, l))
]

depth_fits : (r : Range) → words_fault r ≡ None → IsDepth (depth_of r)
depth_fits r e = elim (cases_Bool (nat_eq r.first.value 0)) as (λ _. IsDepth (depth_of r)) [
  | inr f ↦ absurd (let g : words_fault r ≡ Some (record { span = r.first.span; kind = Words }) = rw f refl in cc)
  | inl t ↦ elim (cases_Bool (nat_lt r.second.value MAX_BUFFER_BITS)) as (λ _. IsDepth (depth_of r)) [
    | inr f ↦ absurd (let g : words_fault r ≡ Some (record { span = r.second.span; kind = Words }) = rw (t, f) refl in cc)
    | inl h ↦ let l : r.second.value < MAX_BUFFER_BITS = grind arith in (omega arith, omega (arith, l))
  ]
]

bits_fit : (d : WrittenDeclaration) (total : ℕ) → bits_fault d total ≡ None → total ≤ MAX_BUFFER_BITS
bits_fit d total e = elim (cases_Bool (nat_le total MAX_BUFFER_BITS)) as (λ _. total ≤ MAX_BUFFER_BITS) [
  | inl t ↦ grind arith
  | inr f ↦ absurd (let g : bits_fault d total ≡ Some (record { span = d.name; kind = ArrayBits }) = rw f refl in cc)
]

module _ (text : List ℕ) where
  abbrev pub DeclarationFits : WrittenDeclaration → Type 0
  DeclarationFits d = SortFits (sort_of text d.bits d.sort)

  sort_fits : (d : WrittenDeclaration) (s : WrittenSort) (before : ℕ) → before ≤ MAX_BUFFER_BITS → width_fault d.bits ≡ None → sort_fault d s before ≡ None → SortFits (sort_of text d.bits s) × (before + bits_of d.bits s ≤ MAX_BUFFER_BITS)
  sort_fits d sort.Wire before l w e = (width_fits d.bits w, omega (arith, l))
  sort_fits d sort.Reg before l w e = (width_fits d.bits w, omega (arith, l))
  sort_fits d (sort.Array words) before l w e =
      let h = both_none (words_fault words) (bits_fault d (before + bits_of d.bits (sort.Array words))) e in
      (record { width = width_fits d.bits w; depth = depth_fits words h.0 }, bits_fit d (before + bits_of d.bits (sort.Array words)) h.1)

  abbrev pub shapes_of : List WrittenDeclaration → List Shape
  shapes_of ds = collected (λ (d : Declaration). array_shape d.sort) (map (declaration_of text) ds)

  -- the bits of one more declaration, and those of the rest
  one_more : (bits : Option Range) (s : WrittenSort) (shapes : List Shape) → array_bits (option_to_list (array_shape (sort_of text bits s)) ++ shapes) ≡ bits_of bits s + array_bits shapes
  one_more bits sort.Wire shapes = omega arith
  one_more bits sort.Reg shapes = omega arith
  one_more bits (sort.Array words) shapes = refl

  declarations_fit : (before : ℕ) (ds : List WrittenDeclaration) → before ≤ MAX_BUFFER_BITS → declarations_fault before ds ≡ None → All DeclarationFits ds × (before + array_bits (shapes_of ds) ≤ MAX_BUFFER_BITS)
  declarations_fit before [] l e = (All-nil DeclarationFits, omega (arith, l))
  declarations_fit before (d ∷ ds) l e =
      let h = both_none (width_fault d.bits) (or_else (sort_fault d d.sort before) (declarations_fault (before + bits_of d.bits d.sort) ds)) e in
      let g = both_none (sort_fault d d.sort before) (declarations_fault (before + bits_of d.bits d.sort) ds) h.1 in
      let i = sort_fits d d.sort before l h.0 g.0 in
      let j = declarations_fit (before + bits_of d.bits d.sort) ds i.1 g.1 in
      let n = one_more d.bits d.sort (shapes_of ds) in
      (All-cons DeclarationFits d ds i.0 j.0, omega (arith, j.1, n))

  -- what is declared fits, and so do the bits of all arrays
  pub declared_fit : (s : Source) → limit_fault s ≡ None → All DeclarationFits s.declarations × (array_bits (shapes_of s.declarations) ≤ MAX_BUFFER_BITS)
  declared_fit s e =
      let h = both_none (ports_fault s.ports) (or_else (declarations_fault 0 s.declarations) (assigns_fault s.assigns)) e in
      let g = both_none (declarations_fault 0 s.declarations) (assigns_fault s.assigns) h.1 in
      let i = declarations_fit 0 s.declarations (omega arith) g.0 in
      (i.0, let l = i.1 in omega (arith, l))
