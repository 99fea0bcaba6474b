-- The scope of a module's parts: each name that it has denotes what has that name.
use Rattle.std.proofs.Common.{◌≡◌, ℕ, zero, suc, ◌+◌, Bool, true, false, List, [], ◌∷◌, ◌++◌, length, refl, ap, subst, sym, ◌∙◌, arith, Some, None}
use Rattle.std.specs.Prelude.{Contains, slice_get, map, if◌then◌else◌, codes}
use Rattle.std.proofs.lemmas.Option.{slice_get_read, same_Some, slice_get-map}
use Rattle.std.specs.Str.{bytes_eq}
use Rattle.std.proofs.lemmas.Slice.Eq.{bytes_eq-Decides}
use Rattle.wiring.specs.declared.netlist.Net.TheVariants.{Input, Output, Wire, Reg}
use Rattle.netlist.specs.declared.parts.Port.{Port}
use Rattle.netlist.specs.declared.parts.Direction.TheVariants.{Input as Takes, Output as Gives}
use Rattle.netlist.specs.declared.parts.Declaration.{Declaration}
use Rattle.netlist.specs.declared.parts.Sort.TheVariants.{Wire as OfWire, Reg as OfReg, Array as OfArray}
use Rattle.wiring.specs.declared.netlist.Shape.{Shape}
use Rattle.netlist.specs.Names.{AreDistinct, NamedNetlist, name_at, all_inputs, all_outputs}
use Rattle.netlist.specs.Scopes.{Meaning, clock, net, array, Entry, port_entries, all_ports, declared_entries, stands_for}
use Rattle.verilog_layout.proofs.Named.{named_ports, ports_of, named_sorts, declarations_of}

codes_same : (a : List ℕ) → bytes_eq a a ≡ true
codes_same a = (bytes_eq-Decides a a).1 refl

same_equal : (a b : List ℕ) → bytes_eq a b ≡ true → a ≡ b
same_equal a b e = (bytes_eq-Decides a b).0 e

abbrev pub names_in : List Entry → List (List ℕ)
names_in scope = map (λ (e : Entry). e.name) scope

distinct_rest : (x : List ℕ) (xs : List (List ℕ)) → AreDistinct (x ∷ xs) → AreDistinct xs
distinct_rest x xs d i j y a b = let e : suc i ≡ suc j = d (suc i) (suc j) y a b in omega (arith, e)

-- among distinct names the entry at a place is what its name denotes
stands_at : (scope : List Entry) (k : ℕ) (e : Entry) → slice_get scope k ≡ Some e → AreDistinct (names_in scope) → stands_for scope e.name ≡ Some e.meaning
stands_at [] k e at d = absurd (let f : None ≡ Some e = at in cc)
stands_at (b ∷ scope) zero e at d =
    let same : b ≡ e = same_Some b e at in
    let t : bytes_eq b.name e.name ≡ true = subst (λ x. bytes_eq b.name x.name ≡ true) same (codes_same b.name) in
    rw t (ap (λ x. Some x.meaning) same)
stands_at (b ∷ scope) (suc k) e at d =
    either (bytes_eq b.name e.name) refl (stands_at scope k e at (distinct_rest b.name (names_in scope) d))
  where
    there : slice_get (names_in (b ∷ scope)) (suc k) ≡ Some e.name
    there = slice_get-map (λ (x : Entry). x.name) scope k ∙ rw at refl

    not_here : bytes_eq b.name e.name ≡ true → ⊥
    not_here t =
        let first : slice_get (names_in (b ∷ scope)) zero ≡ Some e.name = ap (λ x. Some x) (same_equal b.name e.name t) in
        let f : zero ≡ suc k = d zero (suc k) e.name first there in absurd (omega (arith, f))

    either : (t : Bool) → bytes_eq b.name e.name ≡ t → stands_for scope e.name ≡ Some e.meaning → (if t then Some b.meaning else stands_for scope e.name) ≡ Some e.meaning
    either true f later = absurd (not_here f)
    either false f later = later

pub stands_entry : (scope : List Entry) (e : Entry) → Contains scope e → AreDistinct (names_in scope) → stands_for scope e.name ≡ Some e.meaning
stands_entry scope e c d = stands_at scope c.0 e (slice_get_read scope (length scope) c.0 e refl c.1 (sym c.2)) d

-- entries of one sort, from the k-th name on
abbrev pub named_entries : {X : Type 0} → (ℕ → Meaning) → List (List ℕ) → ℕ → List X → List Entry
named_entries meaning names k [] = []
named_entries meaning names k (x ∷ xs) = record { name = name_at names k; meaning = meaning k } ∷ named_entries meaning names (suc k) xs

input_entries : (names : List (List ℕ)) (k o : ℕ) (ws : List ℕ) (rest : List Port)
    → port_entries k o (named_ports Takes names k ws ++ rest) ≡ named_entries (λ i. net (Input i)) names k ws ++ port_entries (k + length ws) o rest
input_entries names k o [] rest = ap (λ i. port_entries i o rest) (omega arith)
input_entries names k o (w ∷ ws) rest =
    ap (λ (es : List Entry). record { name = name_at names k; meaning = net (Input k) } ∷ es)
    (input_entries names (suc k) o ws rest ∙ ap (λ i. named_entries (λ i. net (Input i)) names (suc k) ws ++ port_entries i o rest) (omega arith))

output_entries : (names : List (List ℕ)) (i k : ℕ) (ws : List ℕ) → port_entries i k (named_ports Gives names k ws) ≡ named_entries (λ o. net (Output o)) names k ws
output_entries names i k [] = refl
output_entries names i k (w ∷ ws) = ap (λ (es : List Entry). record { name = name_at names k; meaning = net (Output k) } ∷ es) (output_entries names i (suc k) ws)

wire_entries : (names : List (List ℕ)) (k r a : ℕ) (ws : List ℕ) (rest : List Declaration)
    → declared_entries k r a (named_sorts (λ w. OfWire w) names k ws ++ rest) ≡ named_entries (λ i. net (Wire i)) names k ws ++ declared_entries (k + length ws) r a rest
wire_entries names k r a [] rest = ap (λ i. declared_entries i r a rest) (omega arith)
wire_entries names k r a (w ∷ ws) rest =
    ap (λ (es : List Entry). record { name = name_at names k; meaning = net (Wire k) } ∷ es)
    (wire_entries names (suc k) r a ws rest ∙ ap (λ i. named_entries (λ i. net (Wire i)) names (suc k) ws ++ declared_entries i r a rest) (omega arith))

reg_entries : (names : List (List ℕ)) (w k a : ℕ) (ws : List ℕ) (rest : List Declaration)
    → declared_entries w k a (named_sorts (λ w. OfReg w) names k ws ++ rest) ≡ named_entries (λ i. net (Reg i)) names k ws ++ declared_entries w (k + length ws) a rest
reg_entries names w k a [] rest = ap (λ i. declared_entries w i a rest) (omega arith)
reg_entries names w k a (v ∷ ws) rest =
    ap (λ (es : List Entry). record { name = name_at names k; meaning = net (Reg k) } ∷ es)
    (reg_entries names w (suc k) a ws rest ∙ ap (λ i. named_entries (λ i. net (Reg i)) names (suc k) ws ++ declared_entries w i a rest) (omega arith))

array_entries : (names : List (List ℕ)) (w r k : ℕ) (ss : List Shape) → declared_entries w r k (named_sorts (λ (s : Shape). OfArray s) names k ss) ≡ named_entries array names k ss
array_entries names w r k [] = refl
array_entries names w r k (s ∷ ss) = ap (λ (es : List Entry). record { name = name_at names k; meaning = array k } ∷ es) (array_entries names w r (suc k) ss)

-- the clock, then the ports, then what is declared
abbrev pub inputs_of : NamedNetlist → List Entry
inputs_of m = named_entries (λ i. net (Input i)) (all_inputs m.netlist.enable) 0 m.netlist.inputs

abbrev pub outputs_of : NamedNetlist → List Entry
outputs_of m = named_entries (λ o. net (Output o)) all_outputs 0 m.netlist.outputs

abbrev pub wires_of : NamedNetlist → List Entry
wires_of m = named_entries (λ i. net (Wire i)) m.names.wires 0 m.netlist.wires

abbrev pub regs_of : NamedNetlist → List Entry
regs_of m = named_entries (λ i. net (Reg i)) m.names.regs 0 m.netlist.regs

abbrev pub arrays_of : NamedNetlist → List Entry
arrays_of m = named_entries array m.names.arrays 0 m.netlist.arrays

abbrev pub clock_entry : Entry
clock_entry = record { name = codes "clk"; meaning = clock }

abbrev pub port_scope : NamedNetlist → List Entry
port_scope m = clock_entry ∷ (inputs_of m ++ outputs_of m)

abbrev pub declared_scope : NamedNetlist → List Entry
declared_scope m = wires_of m ++ (regs_of m ++ arrays_of m)

abbrev pub module_scope : NamedNetlist → List Entry
module_scope m = port_scope m ++ declared_scope m

pub scope_is : (m : NamedNetlist) → all_ports (ports_of m) ++ declared_entries 0 0 0 (declarations_of m) ≡ module_scope m
scope_is m =
    let ports : all_ports (ports_of m) ≡ port_scope m =
    ap (λ (es : List Entry). clock_entry ∷ es)
    (input_entries (all_inputs m.netlist.enable) 0 0 m.netlist.inputs (named_ports Gives all_outputs 0 m.netlist.outputs)
    ∙ ap (λ (es : List Entry). inputs_of m ++ es) (output_entries all_outputs (0 + length m.netlist.inputs) 0 m.netlist.outputs)) in
    let regs = named_sorts (λ w. OfReg w) m.names.regs 0 m.netlist.regs in
    let arrays = named_sorts (λ (s : Shape). OfArray s) m.names.arrays 0 m.netlist.arrays in
    let declared : declared_entries 0 0 0 (declarations_of m) ≡ declared_scope m =
    wire_entries m.names.wires 0 0 0 m.netlist.wires (regs ++ arrays)
    ∙ ap (λ (es : List Entry). wires_of m ++ es)
    (reg_entries m.names.regs (0 + length m.netlist.wires) 0 0 m.netlist.regs arrays
    ∙ ap (λ (es : List Entry). regs_of m ++ es) (array_entries m.names.arrays (0 + length m.netlist.wires) (0 + length m.netlist.regs) 0 m.netlist.arrays)) in
    ap (λ (es : List Entry). es ++ declared_entries 0 0 0 (declarations_of m)) ports ∙ ap (λ (es : List Entry). port_scope m ++ es) declared
