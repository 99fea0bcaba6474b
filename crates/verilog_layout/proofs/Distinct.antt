-- The names of a module's scope are its names, and they differ.
use Rattle.std.proofs.Common.{◌≡◌, ℕ, zero, suc, ◌-◌, ◌*◌, ◌/◌, ◌≤◌, Bool, true, false, List, [], ◌∷◌, ◌++◌, length, refl, ap, subst, sym, ◌∙◌, arith, append_assoc}
use Rattle.std.specs.Prelude.{if◌then◌else◌, codes}
use Rattle.std.proofs.lemmas.List.{map-append}
use Rattle.wiring.specs.Rules.{ArePorts, with_valids}
use Rattle.netlist.specs.Names.{AreDistinct, NamedNetlist, HasNames, numbered, din_names, output_names, input_names, port_names, name_at, all_inputs, all_outputs}
use Rattle.netlist.specs.Scopes.{Meaning, Entry}
use Rattle.verilog_layout.proofs.Entries.{names_in, named_entries, inputs_of, outputs_of, wires_of, regs_of, arrays_of, port_scope, declared_scope, module_scope}

-- this many names, from the k-th on
abbrev pub picked : List (List ℕ) → ℕ → ℕ → List (List ℕ)
picked names k zero = []
picked names k (suc n) = name_at names k ∷ picked names (suc k) n

entries_named : {X : Type 0} (meaning : ℕ → Meaning) (names : List (List ℕ)) (k : ℕ) (xs : List X) → names_in (named_entries meaning names k xs) ≡ picked names k (length xs)
entries_named meaning names k [] = refl
entries_named meaning names k (x ∷ xs) = ap (λ (l : List (List ℕ)). name_at names k ∷ l) (entries_named meaning names (suc k) xs)

pub picked_shift : (x : List ℕ) (names : List (List ℕ)) (k n : ℕ) → picked (x ∷ names) (suc k) n ≡ picked names k n
picked_shift x names k zero = refl
picked_shift x names k (suc n) = ap (λ (l : List (List ℕ)). name_at names k ∷ l) (picked_shift x names (suc k) n)

pub picked_all : (names : List (List ℕ)) → picked names 0 (length names) ≡ names
picked_all [] = refl
picked_all (x ∷ names) = ap (λ (l : List (List ℕ)). x ∷ l) (picked_shift x names 0 (length names) ∙ picked_all names)

pub dins_picked : (c j n : ℕ) → n ≤ c → picked (din_names j c) 0 n ≡ din_names j n
dins_picked c j zero l = refl
dins_picked zero j (suc n) l = absurd (omega (arith, l))
dins_picked (suc c) j (suc n) l =
    ap (λ (xs : List (List ℕ)). numbered (codes "din") j ∷ xs) (picked_shift (numbered (codes "din") j) (din_names (suc j) c) 0 n ∙ dins_picked c (suc j) n (omega (arith, l)))

pub outputs_picked : (c j : ℕ) (ds : List ℕ) → length ds ≤ c → picked (output_names j c) 0 (length (with_valids ds)) ≡ output_names j (length ds)
outputs_picked c j [] l = refl
outputs_picked zero j (d ∷ ds) l = absurd (omega (arith, l))
outputs_picked (suc c) j (d ∷ ds) l =
    let v = numbered (codes "valid") j in
    let o = numbered (codes "dout") j in
    let rest = output_names (suc j) c in
    ap (λ (xs : List (List ℕ)). v ∷ (o ∷ xs))
    (picked_shift v (o ∷ rest) 1 (length (with_valids ds)) ∙ picked_shift o rest 0 (length (with_valids ds)) ∙ outputs_picked c (suc j) ds (omega (arith, l)))

pub valids_twice : (ds : List ℕ) → length (with_valids ds) ≡ 2 * length ds
valids_twice [] = refl
valids_twice (w ∷ ds) = omega (arith, valids_twice ds)

half : (n k : ℕ) → n ≡ 2 * k → n / 2 ≡ k
half n k e = omega (arith, e)

-- the names of the inputs by how many there are
abbrev inputs_by : Bool → ℕ → List (List ℕ)
inputs_by enable n = codes "clk" ∷ (codes "rst" ∷ (if enable then codes "en" ∷ din_names 0 (n - (if enable then 2 else 1)) else din_names 0 (n - (if enable then 2 else 1))))

inputs_named : (enable : Bool) (inputs dins : List ℕ) → inputs ≡ 1 ∷ (if enable then 1 ∷ dins else dins) → length dins ≤ 8
    → codes "clk" ∷ picked (all_inputs enable) 0 (length inputs) ≡ inputs_by enable (length inputs)
inputs_named true inputs dins e l =
    let n : length inputs ≡ suc (suc (length dins)) = ap (λ (x : List ℕ). length x) e in
    let m : length inputs - 2 ≡ length dins = omega (arith, n) in
    let names = din_names 0 8 in
    ap (λ k. codes "clk" ∷ picked (all_inputs true) 0 k) n
    ∙ ap (λ (xs : List (List ℕ)). codes "clk" ∷ (codes "rst" ∷ (codes "en" ∷ xs)))
    (picked_shift (codes "rst") (codes "en" ∷ names) 1 (length dins) ∙ picked_shift (codes "en") names 0 (length dins) ∙ dins_picked 8 0 (length dins) l)
    ∙ ap (λ k. codes "clk" ∷ (codes "rst" ∷ (codes "en" ∷ din_names 0 k))) (sym m)
inputs_named false inputs dins e l =
    let n : length inputs ≡ suc (length dins) = ap (λ (x : List ℕ). length x) e in
    let m : length inputs - 1 ≡ length dins = omega (arith, n) in
    ap (λ k. codes "clk" ∷ picked (all_inputs false) 0 k) n
    ∙ ap (λ (xs : List (List ℕ)). codes "clk" ∷ (codes "rst" ∷ xs)) (picked_shift (codes "rst") (din_names 0 8) 0 (length dins) ∙ dins_picked 8 0 (length dins) l)
    ∙ ap (λ k. codes "clk" ∷ (codes "rst" ∷ din_names 0 k)) (sym m)

outputs_named : (outputs douts : List ℕ) → outputs ≡ with_valids douts → length douts ≤ 8 → picked all_outputs 0 (length outputs) ≡ output_names 0 (length outputs / 2)
outputs_named outputs douts e l =
    let h : length outputs / 2 ≡ length douts = half (length outputs) (length douts) (ap (λ (x : List ℕ). length x) e ∙ valids_twice douts) in
    ap (λ (x : List ℕ). picked all_outputs 0 (length x)) e ∙ outputs_picked 8 0 douts l ∙ ap (λ k. output_names 0 k) (sym h)

declared_named : {X : Type 0} (meaning : ℕ → Meaning) (names : List (List ℕ)) (xs : List X) → length names ≡ length xs → names_in (named_entries meaning names 0 xs) ≡ names
declared_named meaning names xs e = entries_named meaning names 0 xs ∙ ap (λ n. picked names 0 n) (sym e) ∙ picked_all names

module _ (m : NamedNetlist) (ports : ArePorts m.netlist.enable m.netlist.inputs m.netlist.outputs) (named : HasNames m.netlist m.names) where
  names_of_ports : names_in (port_scope m) ≡ port_names m.netlist
  names_of_ports =
      let split : names_in (inputs_of m ++ outputs_of m) ≡ picked (all_inputs m.netlist.enable) 0 (length m.netlist.inputs) ++ picked all_outputs 0 (length m.netlist.outputs) =
      map-append (λ (e : Entry). e.name) (inputs_of m) (outputs_of m)
      ∙ ap (λ (l : List (List ℕ)). l ++ names_in (outputs_of m)) (entries_named _ (all_inputs m.netlist.enable) 0 m.netlist.inputs)
      ∙ ap (λ (l : List (List ℕ)). picked (all_inputs m.netlist.enable) 0 (length m.netlist.inputs) ++ l) (entries_named _ all_outputs 0 m.netlist.outputs) in
      ap (λ (l : List (List ℕ)). codes "clk" ∷ l) split
      ∙ ap (λ (l : List (List ℕ)). l ++ picked all_outputs 0 (length m.netlist.outputs)) (inputs_named m.netlist.enable m.netlist.inputs ports.dins ports.inputs_are ports.din_count.1)
      ∙ ap (λ (l : List (List ℕ)). input_names m.netlist ++ l) (outputs_named m.netlist.outputs ports.douts ports.outputs_are ports.dout_count.1)

  names_declared : names_in (declared_scope m) ≡ m.names.wires ++ (m.names.regs ++ m.names.arrays)
  names_declared =
      map-append (λ (e : Entry). e.name) (wires_of m) (regs_of m ++ arrays_of m)
      ∙ ap (λ (l : List (List ℕ)). l ++ names_in (regs_of m ++ arrays_of m)) (declared_named _ m.names.wires m.netlist.wires named.wires)
      ∙ ap (λ (l : List (List ℕ)). m.names.wires ++ l)
      (map-append (λ (e : Entry). e.name) (regs_of m) (arrays_of m)
      ∙ ap (λ (l : List (List ℕ)). l ++ names_in (arrays_of m)) (declared_named _ m.names.regs m.netlist.regs named.regs)
      ∙ ap (λ (l : List (List ℕ)). m.names.regs ++ l) (declared_named _ m.names.arrays m.netlist.arrays named.arrays))

  names_of_scope : names_in (module_scope m) ≡ ((port_names m.netlist ++ m.names.wires) ++ m.names.regs) ++ m.names.arrays
  names_of_scope =
      map-append (λ (e : Entry). e.name) (port_scope m) (declared_scope m)
      ∙ ap (λ (l : List (List ℕ)). l ++ names_in (declared_scope m)) names_of_ports
      ∙ ap (λ (l : List (List ℕ)). port_names m.netlist ++ l) names_declared
      ∙ sym (append_assoc (port_names m.netlist) m.names.wires (m.names.regs ++ m.names.arrays))
      ∙ sym (append_assoc (port_names m.netlist ++ m.names.wires) m.names.regs m.names.arrays)

  pub scope_distinct : AreDistinct (names_in (module_scope m))
  scope_distinct = subst AreDistinct (sym names_of_scope) named.distinct
