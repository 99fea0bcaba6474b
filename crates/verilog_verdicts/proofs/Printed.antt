-- The parts of a text have their sizes, names and bits in their limits.
use Rattle.std.proofs.Common.{◌≡◌, ◌≤◌, ℕ, List, All, true, map, sym, subst}
use Rattle.std.proofs.lemmas.List.Elements.{All-map, All-same, All-weaker}
use Rattle.dk_base.specs.declared.TheConstants.{MAX_BUFFER_BITS}
use Rattle.net_names.specs.Words.{is_name}
use Rattle.wiring.specs.Sizes.{IsConstant}
use Rattle.wiring.specs.Rights.{constants_of}
use Rattle.wiring.specs.BufferBits.{array_bits}
use Rattle.netlist.specs.declared.parts.Parts.{Parts}
use Rattle.netlist.specs.declared.parts.Declaration.{Declaration}
use Rattle.netlist.specs.declared.parts.NamedAssign.{NamedAssign}
use Rattle.netlist.specs.declared.parts.NamedUpdate.{NamedUpdate}
use Rattle.netlist.specs.Scopes.{SortFits, update_constants, array_shape, collected, SizesFit, NamesAre}
use Rattle.verilog_text.specs.declared.written.WrittenDeclaration.{WrittenDeclaration}
use Rattle.verilog_text.specs.Stands.{bytes_at, declaration_of, assign_of, update_of, HasParts}
use Rattle.verilog_parse.specs.Named.{IsNameSpan}
use Rattle.verilog_parse.proofs.NamedParts.{written_named}
use Rattle.verilog_verdicts.proofs.Sources.{constants_fit}
use Rattle.verilog_verdicts.proofs.Bounded.{declared_fit}

-- what each item of a list is made into keeps P, so all that are made keep it
all_made : {X Y : Type 0} (P : Y → Type 0) (f : X → Y) (xs : List X) (ys : List Y) → ys ≡ map f xs → All (λ x. P (f x)) xs → All P ys
all_made P f xs ys e h = All-same P ys (map f xs) e (All-map P f xs h)

module _ (text : List ℕ) (p : Parts) (h : HasParts text p) where
  pub sizes_fit : SizesFit p
  sizes_fit =
      let c = constants_fit text h.source h.written in
      record {
        declarations = all_made (λ (d : Declaration). SortFits d.sort) (declaration_of text) h.source.declarations p.declarations.items h.parts.declarations (declared_fit text h.source h.limits).0;
        assigns = all_made (λ (a : NamedAssign). All IsConstant (constants_of a.right)) (assign_of text) h.source.assigns p.assigns.items h.parts.assigns c.0;
        updates = all_made (λ (u : NamedUpdate). All IsConstant (update_constants u)) (update_of text) h.source.updates p.updates.items h.parts.updates c.1;
      }

  pub names_are : NamesAre p
  names_are =
      let n = written_named text h.source h.written in
      let named = All-weaker (λ (d : WrittenDeclaration). IsNameSpan text d.name) (λ (d : WrittenDeclaration). is_name (bytes_at text d.name) ≡ true) (λ d s. s.name) h.source.declarations n.declarations in
      record {
        «module» = subst (λ x. is_name x ≡ true) (sym h.parts.name) n.name.name;
        declarations = all_made (λ (d : Declaration). is_name d.name ≡ true) (declaration_of text) h.source.declarations p.declarations.items h.parts.declarations named;
      }

  pub bits_within : array_bits (collected (λ (d : Declaration). array_shape d.sort) p.declarations.items) ≤ MAX_BUFFER_BITS
  bits_within = subst (λ ds. array_bits (collected (λ (d : Declaration). array_shape d.sort) ds) ≤ MAX_BUFFER_BITS) (sym h.parts.declarations) (declared_fit text h.source h.limits).1
