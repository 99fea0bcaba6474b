-- Parts with the lists of a module are parts of that module.
use Rattle.std.proofs.Common.{◌≡◌, ℕ, zero, suc, ◌+◌, ◌<◌, ◌≤◌, Bool, true, false, List, [], ◌∷◌, ◌++◌, length, refl, ap, subst, sym, ◌∙◌, arith, Option, Some, None, append_assoc}
use Rattle.std.specs.Prelude.{All, slice_get, map, if◌then◌else◌, codes}
use Rattle.std.specs.Option.{option_map, option_to_list}
use Rattle.std.specs.List.{AllZip}
use Rattle.std.proofs.lemmas.List.{append-nil}
use Rattle.std.proofs.lemmas.List.Elements.{All-nil, All-cons, All-append, All-map, All-weaker}
use Rattle.wiring.specs.declared.netlist.Net.TheVariants.{Output, Wire, Reg}
use Rattle.wiring.specs.declared.netlist.Holder.TheVariants.{OfNet, OfArray}
use Rattle.wiring.specs.declared.netlist.Shape.{Shape}
use Rattle.wiring.specs.declared.netlist.Assign.{Assign}
use Rattle.wiring.specs.declared.netlist.Update.{Update}
use Rattle.wiring.specs.declared.netlist.Update.TheVariants.{Set, Put}
use Rattle.wiring.specs.Netlist.{Netlist, IsDriven, update_target}
use Rattle.wiring.specs.Tables.{assign_target}
use Rattle.wiring.specs.Order.{IsAcyclic}
use Rattle.wiring.specs.Rules.{ArePorts, IsPortWidth, with_valids, AssignIsSound, UpdateIsSound, KeepsRules}
use Rattle.wiring.proofs.Lists.{All-at}
use Rattle.netlist.specs.declared.parts.Parts.{Parts}
use Rattle.netlist.specs.declared.parts.Port.{Port}
use Rattle.netlist.specs.declared.parts.Direction.{Direction}
use Rattle.netlist.specs.declared.parts.Direction.TheVariants.{Input as Takes, Output as Gives}
use Rattle.netlist.specs.declared.parts.Declaration.{Declaration}
use Rattle.netlist.specs.declared.parts.Sort.{Sort}
use Rattle.netlist.specs.declared.parts.Sort.TheVariants.{Wire as OfWire, Reg as OfReg, Array as ArrayOf}
use Rattle.netlist.specs.Names.{AreDistinct, NamedNetlist, ModuleNames, HasNames, numbered, din_names, output_names, name_at, all_inputs, all_outputs}
use Rattle.netlist.specs.Scopes.{Meaning, Entry, all_ports, declared_entries, scope_of, assign_named, update_named, collected, taken, given, past_clock, has_enable, wire_width, reg_width, array_shape, netlist_of_parts, names_of_parts, module_of}
use Rattle.netlist.specs.Faults.{PortRule, bit_input, din_rules, output_rules, FitsRule, PortsFit, AllKnown, assign_names, update_names, AssignFits, UpdateFits, TargetsDiffer, HasDriver, IsModuleOf}
use Rattle.netlist.proofs.Ruled.{keeps_of}
use Rattle.netlist.specs.Passes.{FineAssign, FineUpdate, PassesPorts, PassesStatements, PassesTargets, PassesDrivers}
use Rattle.verilog_layout.proofs.Named.{named_assign, named_update, named_ports, clock_port, ports_of, named_sorts, wire_declarations, reg_declarations, array_declarations, declarations_of}
use Rattle.verilog_layout.proofs.Entries.{names_in, named_entries, inputs_of, outputs_of, wires_of, regs_of, arrays_of, port_scope, declared_scope, module_scope, scope_is}
use Rattle.verilog_layout.proofs.Distinct.{picked, picked_all, scope_distinct}
use Rattle.verilog_layout.proofs.Resolved.{assign_is, update_is, assign_known, update_known}

-- the name and the lists of the module
pub record HasLists (m : NamedNetlist) (p : Parts) : Type 0 where
  pub name : p.name ≡ m.names.«module»
  pub ports : p.ports.items ≡ ports_of m
  pub declarations : p.declarations.items ≡ declarations_of m
  pub assigns : p.assigns.items ≡ map (named_assign m) m.netlist.assigns
  pub updates : p.updates.items ≡ map (named_update m) m.netlist.updates

-- what is collected
collected_append : {X Y : Type 0} (f : X → Option Y) (xs ys : List X) → collected f (xs ++ ys) ≡ collected f xs ++ collected f ys
collected_append f [] ys = refl
collected_append f (x ∷ xs) ys = ap (λ l. option_to_list (f x) ++ l) (collected_append f xs ys) ∙ sym (append_assoc (option_to_list (f x)) (collected f xs) (collected f ys))

collected_back : {X Y : Type 0} (f : X → Option Y) (g : Y → X) (P : Y → Type 0) → ((y : Y) → P y → f (g y) ≡ Some y) → (ys : List Y) → All P ys → collected f (map g ys) ≡ ys
collected_back f g P is [] all = refl
collected_back f g P is (y ∷ ys) all =
    ap (λ o. option_to_list o ++ collected f (map g ys)) (is y (all 0 y (omega arith)))
    ∙ ap (λ l. y ∷ l) (collected_back f g P is ys (λ k d l. all (suc k) d (omega (arith, l))))

ports_taken : (names : List (List ℕ)) (k : ℕ) (ws : List ℕ) → collected (λ (q : Port). taken q.direction q.width) (named_ports Takes names k ws) ≡ ws
ports_taken names k [] = refl
ports_taken names k (w ∷ ws) = ap (λ l. w ∷ l) (ports_taken names (suc k) ws)

none_taken : (names : List (List ℕ)) (k : ℕ) (ws : List ℕ) → collected (λ (q : Port). taken q.direction q.width) (named_ports Gives names k ws) ≡ []
none_taken names k [] = refl
none_taken names k (w ∷ ws) = none_taken names (suc k) ws

ports_given : (names : List (List ℕ)) (k : ℕ) (ws : List ℕ) → collected (λ (q : Port). given q.direction q.width) (named_ports Gives names k ws) ≡ ws
ports_given names k [] = refl
ports_given names k (w ∷ ws) = ap (λ l. w ∷ l) (ports_given names (suc k) ws)

none_given : (names : List (List ℕ)) (k : ℕ) (ws : List ℕ) → collected (λ (q : Port). given q.direction q.width) (named_ports Takes names k ws) ≡ []
none_given names k [] = refl
none_given names k (w ∷ ws) = none_given names (suc k) ws

module _ {X Y : Type 0} (f : Declaration → Option Y) (sort : X → Sort) (names : List (List ℕ)) where
  sorts_none : ((n : List ℕ) (x : X) → f (record { name = n; sort = sort x }) ≡ None) → (k : ℕ) (xs : List X) → collected f (named_sorts sort names k xs) ≡ []
  sorts_none is k [] = refl
  sorts_none is k (x ∷ xs) = ap (λ o. option_to_list o ++ collected f (named_sorts sort names (suc k) xs)) (is (name_at names k) x) ∙ sorts_none is (suc k) xs

sorts_same : {X : Type 0} (f : Declaration → Option X) (sort : X → Sort) (names : List (List ℕ)) → ((n : List ℕ) (x : X) → f (record { name = n; sort = sort x }) ≡ Some x)
    → (k : ℕ) (xs : List X) → collected f (named_sorts sort names k xs) ≡ xs
sorts_same f sort names is k [] = refl
sorts_same f sort names is k (x ∷ xs) =
    ap (λ o. option_to_list o ++ collected f (named_sorts sort names (suc k) xs)) (is (name_at names k) x) ∙ ap (λ l. x ∷ l) (sorts_same f sort names is (suc k) xs)

sorts_named : {X : Type 0} (f : Declaration → Option (List ℕ)) (sort : X → Sort) (names : List (List ℕ)) → ((n : List ℕ) (x : X) → f (record { name = n; sort = sort x }) ≡ Some n)
    → (k : ℕ) (xs : List X) → collected f (named_sorts sort names k xs) ≡ picked names k (length xs)
sorts_named f sort names is k [] = refl
sorts_named f sort names is k (x ∷ xs) =
    ap (λ o. option_to_list o ++ collected f (named_sorts sort names (suc k) xs)) (is (name_at names k) x) ∙ ap (λ l. name_at names k ∷ l) (sorts_named f sort names is (suc k) xs)

three_collected : {Y : Type 0} (f : Declaration → Option Y) (m : NamedNetlist) (a b c : List Y)
    → collected f (wire_declarations m) ≡ a → collected f (reg_declarations m) ≡ b → collected f (array_declarations m) ≡ c → collected f (declarations_of m) ≡ a ++ (b ++ c)
three_collected f m a b c ea eb ec =
    collected_append f (wire_declarations m) (reg_declarations m ++ array_declarations m)
    ∙ ap (λ l. collected f (wire_declarations m) ++ l) (collected_append f (reg_declarations m) (array_declarations m))
    ∙ rw (ea, eb, ec) refl

-- the lists of the netlist and of the names
module _ (m : NamedNetlist) where
  inputs_back : collected (λ (q : Port). taken q.direction q.width) (past_clock (ports_of m)) ≡ m.netlist.inputs
  inputs_back =
      let a = named_ports Takes (all_inputs m.netlist.enable) 0 m.netlist.inputs in
      let b = named_ports Gives all_outputs 0 m.netlist.outputs in
      collected_append (λ (q : Port). taken q.direction q.width) a b
      ∙ ap (λ l. l ++ collected (λ (q : Port). taken q.direction q.width) b) (ports_taken (all_inputs m.netlist.enable) 0 m.netlist.inputs)
      ∙ ap (λ l. m.netlist.inputs ++ l) (none_taken all_outputs 0 m.netlist.outputs)
      ∙ append-nil m.netlist.inputs

  outputs_back : collected (λ (q : Port). given q.direction q.width) (past_clock (ports_of m)) ≡ m.netlist.outputs
  outputs_back =
      let a = named_ports Takes (all_inputs m.netlist.enable) 0 m.netlist.inputs in
      let b = named_ports Gives all_outputs 0 m.netlist.outputs in
      collected_append (λ (q : Port). given q.direction q.width) a b
      ∙ ap (λ l. l ++ collected (λ (q : Port). given q.direction q.width) b) (none_given (all_inputs m.netlist.enable) 0 m.netlist.inputs)
      ∙ ports_given all_outputs 0 m.netlist.outputs

  wires_back : collected (λ (d : Declaration). wire_width d.sort) (declarations_of m) ≡ m.netlist.wires
  wires_back =
      three_collected (λ (d : Declaration). wire_width d.sort) m m.netlist.wires [] [] (sorts_same _ (λ w. OfWire w) m.names.wires (λ n x. refl) 0 m.netlist.wires)
      (sorts_none _ (λ w. OfReg w) m.names.regs (λ n x. refl) 0 m.netlist.regs) (sorts_none _ (λ s. ArrayOf s) m.names.arrays (λ n x. refl) 0 m.netlist.arrays)
      ∙ append-nil m.netlist.wires

  regs_back : collected (λ (d : Declaration). reg_width d.sort) (declarations_of m) ≡ m.netlist.regs
  regs_back =
      three_collected (λ (d : Declaration). reg_width d.sort) m [] m.netlist.regs [] (sorts_none _ (λ w. OfWire w) m.names.wires (λ n x. refl) 0 m.netlist.wires)
      (sorts_same _ (λ w. OfReg w) m.names.regs (λ n x. refl) 0 m.netlist.regs) (sorts_none _ (λ s. ArrayOf s) m.names.arrays (λ n x. refl) 0 m.netlist.arrays)
      ∙ append-nil m.netlist.regs

  arrays_back : collected (λ (d : Declaration). array_shape d.sort) (declarations_of m) ≡ m.netlist.arrays
  arrays_back =
      three_collected (λ (d : Declaration). array_shape d.sort) m [] [] m.netlist.arrays (sorts_none _ (λ w. OfWire w) m.names.wires (λ n x. refl) 0 m.netlist.wires)
      (sorts_none _ (λ w. OfReg w) m.names.regs (λ n x. refl) 0 m.netlist.regs) (sorts_same _ (λ s. ArrayOf s) m.names.arrays (λ n x. refl) 0 m.netlist.arrays)

  module _ (named : HasNames m.netlist m.names) where
    abbrev wire_name : Declaration → Option (List ℕ)
    wire_name d = option_map (λ (w : ℕ). d.name) (wire_width d.sort)

    abbrev reg_name : Declaration → Option (List ℕ)
    reg_name d = option_map (λ (w : ℕ). d.name) (reg_width d.sort)

    abbrev array_name_of : Declaration → Option (List ℕ)
    array_name_of d = option_map (λ (s : Shape). d.name) (array_shape d.sort)

    wire_names_back : collected wire_name (declarations_of m) ≡ m.names.wires
    wire_names_back =
        three_collected wire_name m (picked m.names.wires 0 (length m.netlist.wires)) [] [] (sorts_named _ (λ w. OfWire w) m.names.wires (λ n x. refl) 0 m.netlist.wires)
        (sorts_none _ (λ w. OfReg w) m.names.regs (λ n x. refl) 0 m.netlist.regs) (sorts_none _ (λ s. ArrayOf s) m.names.arrays (λ n x. refl) 0 m.netlist.arrays)
        ∙ append-nil (picked m.names.wires 0 (length m.netlist.wires)) ∙ ap (λ n. picked m.names.wires 0 n) (sym named.wires) ∙ picked_all m.names.wires

    reg_names_back : collected reg_name (declarations_of m) ≡ m.names.regs
    reg_names_back =
        three_collected reg_name m [] (picked m.names.regs 0 (length m.netlist.regs)) [] (sorts_none _ (λ w. OfWire w) m.names.wires (λ n x. refl) 0 m.netlist.wires)
        (sorts_named _ (λ w. OfReg w) m.names.regs (λ n x. refl) 0 m.netlist.regs) (sorts_none _ (λ s. ArrayOf s) m.names.arrays (λ n x. refl) 0 m.netlist.arrays)
        ∙ append-nil (picked m.names.regs 0 (length m.netlist.regs)) ∙ ap (λ n. picked m.names.regs 0 n) (sym named.regs) ∙ picked_all m.names.regs

    array_names_back : collected array_name_of (declarations_of m) ≡ m.names.arrays
    array_names_back =
        three_collected array_name_of m [] [] (picked m.names.arrays 0 (length m.netlist.arrays)) (sorts_none _ (λ w. OfWire w) m.names.wires (λ n x. refl) 0 m.netlist.wires)
        (sorts_none _ (λ w. OfReg w) m.names.regs (λ n x. refl) 0 m.netlist.regs) (sorts_named _ (λ s. ArrayOf s) m.names.arrays (λ n x. refl) 0 m.netlist.arrays)
        ∙ ap (λ n. picked m.names.arrays 0 n) (sym named.arrays) ∙ picked_all m.names.arrays

    pub names_back : (p : Parts) → HasLists m p → names_of_parts p ≡ m.names
    names_back p h =
        ap (λ ds. record { «module» = p.name; wires = collected wire_name ds; regs = collected reg_name ds; arrays = collected array_name_of ds }) h.declarations
        ∙ rw (h.name, wire_names_back, reg_names_back, array_names_back) refl

-- the third port says whether there is an enable
enable_back : (enable : Bool) (inputs dins : List ℕ) (rest : List Port) → inputs ≡ 1 ∷ (if enable then 1 ∷ dins else dins) → 1 ≤ length dins
    → has_enable (clock_port ∷ (named_ports Takes (all_inputs enable) 0 inputs ++ rest)) ≡ enable
enable_back true inputs dins rest e l = rw e refl
enable_back false inputs [] rest e l = absurd (omega (arith, l))
enable_back false inputs (d ∷ dins) rest e l = rw e refl

-- the ports are those of the profile
ports_shift : (d : Direction) (x : List ℕ) (names : List (List ℕ)) (k : ℕ) (ws : List ℕ) → named_ports d (x ∷ names) (suc k) ws ≡ named_ports d names k ws
ports_shift d x names k [] = refl
ports_shift d x names k (w ∷ ws) = ap (λ (l : List Port). record { direction = d; width = w; name = name_at names k } ∷ l) (ports_shift d x names (suc k) ws)

rest_all : {X : Type 0} (P : X → Type 0) (x : X) (xs : List X) → All P (x ∷ xs) → All P xs
rest_all P x xs all k d l = all (suc k) d (omega (arith, l))

first_all : {X : Type 0} (P : X → Type 0) (x : X) (xs : List X) → All P (x ∷ xs) → P x
first_all P x xs all = all 0 x (omega arith)

dins_fit : (c j : ℕ) (ws : List ℕ) (ports : List Port) (rules : List PortRule) → length ws ≤ c → All IsPortWidth ws → AllZip FitsRule ports rules
    → AllZip FitsRule (named_ports Takes (din_names j c) 0 ws ++ ports) (din_rules j (length ws) ++ rules)
dins_fit c j [] ports rules l all fit = fit
dins_fit zero j (w ∷ ws) ports rules l all fit = absurd (omega (arith, l))
dins_fit (suc c) j (w ∷ ws) ports rules l all fit =
    let more = dins_fit c (suc j) ws ports rules (omega (arith, l)) (rest_all IsPortWidth w ws all) fit in (
      record { direction = refl; name = refl; width = first_all IsPortWidth w ws all },
      subst (λ (x : List Port). AllZip FitsRule (x ++ ports) (din_rules (suc j) (length ws) ++ rules)) (sym (ports_shift Takes (numbered (codes "din") j) (din_names (suc j) c) 0 ws)) more,
    )

outputs_fit : (c j : ℕ) (ds : List ℕ) → length ds ≤ c → All IsPortWidth ds → AllZip FitsRule (named_ports Gives (output_names j c) 0 (with_valids ds)) (output_rules j (length ds))
outputs_fit c j [] l all = tt
outputs_fit zero j (d ∷ ds) l all = absurd (omega (arith, l))
outputs_fit (suc c) j (d ∷ ds) l all =
    let more = outputs_fit c (suc j) ds (omega (arith, l)) (rest_all IsPortWidth d ds all) in
    let v = numbered (codes "valid") j in
    let o = numbered (codes "dout") j in
    let names = output_names (suc j) c in
    let shift : named_ports Gives (v ∷ (o ∷ names)) 2 (with_valids ds) ≡ named_ports Gives names 0 (with_valids ds) =
    ports_shift Gives v (o ∷ names) 1 (with_valids ds) ∙ ports_shift Gives o names 0 (with_valids ds) in (
      record { direction = refl; name = refl; width = refl },
      (
        record { direction = refl; name = refl; width = first_all IsPortWidth d ds all },
        subst (λ (x : List Port). AllZip FitsRule x (output_rules (suc j) (length ds))) (sym shift) more,
      ),
    )

inputs_fit : (enable : Bool) (inputs dins : List ℕ) (ports : List Port) (rules : List PortRule) → inputs ≡ 1 ∷ (if enable then 1 ∷ dins else dins) → length dins ≤ 8 → All IsPortWidth dins → AllZip FitsRule ports rules
    → AllZip FitsRule (clock_port ∷ (named_ports Takes (all_inputs enable) 0 inputs ++ ports)) (bit_input (codes "clk") ∷ (bit_input (codes "rst") ∷ ((if enable then bit_input (codes "en") ∷ [] else []) ++ (din_rules 0 (length dins) ++ rules))))
inputs_fit true inputs dins ports rules e l all fit =
    let bit : (name : List ℕ) → FitsRule (record { direction = Takes; width = 1; name = name }) (bit_input name) = λ name. record { direction = refl; name = refl; width = refl } in
    let names = din_names 0 8 in
    let shift : named_ports Takes (all_inputs true) 2 dins ≡ named_ports Takes names 0 dins = ports_shift Takes (codes "rst") (codes "en" ∷ names) 1 dins ∙ ports_shift Takes (codes "en") names 0 dins in
    let behind : AllZip FitsRule (named_ports Takes (all_inputs true) 2 dins ++ ports) (din_rules 0 (length dins) ++ rules) =
    subst (λ (x : List Port). AllZip FitsRule (x ++ ports) (din_rules 0 (length dins) ++ rules)) (sym shift) (dins_fit 8 0 dins ports rules l all fit) in
    subst (λ (x : List ℕ). AllZip FitsRule (clock_port ∷ (named_ports Takes (all_inputs true) 0 x ++ ports)) (bit_input (codes "clk") ∷ (bit_input (codes "rst") ∷ (bit_input (codes "en") ∷ (din_rules 0 (length dins) ++ rules))))) (sym e)
    (bit (codes "clk"), (bit (codes "rst"), (bit (codes "en"), behind)))
inputs_fit false inputs dins ports rules e l all fit =
    let bit : (name : List ℕ) → FitsRule (record { direction = Takes; width = 1; name = name }) (bit_input name) = λ name. record { direction = refl; name = refl; width = refl } in
    let behind : AllZip FitsRule (named_ports Takes (all_inputs false) 1 dins ++ ports) (din_rules 0 (length dins) ++ rules) =
    subst (λ (x : List Port). AllZip FitsRule (x ++ ports) (din_rules 0 (length dins) ++ rules)) (sym (ports_shift Takes (codes "rst") (din_names 0 8) 0 dins)) (dins_fit 8 0 dins ports rules l all fit) in
    subst (λ (x : List ℕ). AllZip FitsRule (clock_port ∷ (named_ports Takes (all_inputs false) 0 x ++ ports)) (bit_input (codes "clk") ∷ (bit_input (codes "rst") ∷ (din_rules 0 (length dins) ++ rules)))) (sym e)
    (bit (codes "clk"), (bit (codes "rst"), behind))

ports_fit : (m : NamedNetlist) → ArePorts m.netlist.enable m.netlist.inputs m.netlist.outputs → PortsFit (ports_of m)
ports_fit m a = record {
  enable = m.netlist.enable;
  dins = length a.dins;
  douts = length a.douts;
  din_count = a.din_count;
  dout_count = a.dout_count;
  fit =
      inputs_fit m.netlist.enable m.netlist.inputs a.dins (named_ports Gives all_outputs 0 m.netlist.outputs) (output_rules 0 (length a.douts)) a.inputs_are a.din_count.1 a.din_widths
      (subst (λ (x : List ℕ). AllZip FitsRule (named_ports Gives all_outputs 0 x) (output_rules 0 (length a.douts))) (sym a.outputs_are) (outputs_fit 8 0 a.douts a.dout_count.1 a.dout_widths));
}

-- what drives each entry
entries_all : {X : Type 0} (P : Meaning → Type 0) (meaning : ℕ → Meaning) (names : List (List ℕ)) (k : ℕ) (xs : List X) → ((i : ℕ) → i < k + length xs → P (meaning i)) → All (λ (e : Entry). P e.meaning) (named_entries meaning names k xs)
entries_all P meaning names k [] h = All-nil (λ (e : Entry). P e.meaning)
entries_all P meaning names k (x ∷ xs) h =
    All-cons (λ (e : Entry). P e.meaning) (record { name = name_at names k; meaning = meaning k }) (named_entries meaning names (suc k) xs) (h k (omega arith))
    (entries_all P meaning names (suc k) xs (λ i l. h i (omega (arith, l))))

below : (n i : ℕ) → i < 0 + n → i < n
below n i l = omega (arith, l)

module _ (m : NamedNetlist) (rules : KeepsRules m.netlist) where
  abbrev Driven : Entry → Type 0
  Driven e = HasDriver m.netlist e.meaning

  scope_driven : All Driven (module_scope m)
  scope_driven =
      All-append Driven (port_scope m) (declared_scope m)
      (All-cons Driven _ (inputs_of m ++ outputs_of m) tt
      (All-append Driven (inputs_of m) (outputs_of m) (entries_all (HasDriver m.netlist) _ (all_inputs m.netlist.enable) 0 m.netlist.inputs (λ i l. tt))
      (entries_all (HasDriver m.netlist) _ all_outputs 0 m.netlist.outputs (λ i l. rules.driven.some (Output i) (below _ i l)))))
      (All-append Driven (wires_of m) (regs_of m ++ arrays_of m) (entries_all (HasDriver m.netlist) _ m.names.wires 0 m.netlist.wires (λ i l. rules.driven.some (Wire i) (below _ i l)))
      (All-append Driven (regs_of m) (arrays_of m) (entries_all (HasDriver m.netlist) _ m.names.regs 0 m.netlist.regs (λ i l. rules.updated.some (OfNet (Reg i)) (below _ i l)))
      (entries_all (HasDriver m.netlist) _ m.names.arrays 0 m.netlist.arrays (λ i l. rules.updated.some (OfArray i) (below _ i l)))))

-- the whole
abbrev netlist_by : Bool → List ℕ → List ℕ → List ℕ → List ℕ → List Shape → List Assign → List Update → Netlist
netlist_by e i o w r a s u = record { enable = e; inputs = i; outputs = o; wires = w; regs = r; arrays = a; assigns = s; updates = u }

same_netlist : (e e' : Bool) (i i' o o' w w' r r' : List ℕ) (a a' : List Shape) (s s' : List Assign) (u u' : List Update)
    → e ≡ e' → i ≡ i' → o ≡ o' → w ≡ w' → r ≡ r' → a ≡ a' → s ≡ s' → u ≡ u' → netlist_by e i o w r a s u ≡ netlist_by e' i' o' w' r' a' s' u'
same_netlist e e' i i' o o' w w' r r' a a' s s' u u' he hi ho hw hr ha hs hu = rw (he, hi, ho, hw, hr, ha, hs, hu) refl

abbrev module_by : Netlist → ModuleNames → NamedNetlist
module_by n x = record { netlist = n; names = x }

same_module : (n n' : Netlist) (x x' : ModuleNames) → n ≡ n' → x ≡ x' → module_by n x ≡ module_by n' x'
same_module n n' x x' a b = rw (a, b) refl

module _ (m : NamedNetlist) (p : Parts) (rules : KeepsRules m.netlist) (named : HasNames m.netlist m.names) (h : HasLists m p) where
  scope_here : scope_of p ≡ module_scope m
  scope_here = ap (λ x. all_ports x ++ declared_entries 0 0 0 p.declarations.items) h.ports ∙ ap (λ x. all_ports (ports_of m) ++ declared_entries 0 0 0 x) h.declarations ∙ scope_is m

  names_differ : AreDistinct (names_in (module_scope m))
  names_differ = scope_distinct m rules.ports named

  assigns_here : collected (assign_named (scope_of p)) p.assigns.items ≡ m.netlist.assigns
  assigns_here =
      ap (λ x. collected (assign_named x) p.assigns.items) scope_here ∙ ap (λ x. collected (assign_named (module_scope m)) x) h.assigns
      ∙ collected_back (assign_named (module_scope m)) (named_assign m) (AssignIsSound m.netlist) (assign_is m names_differ) m.netlist.assigns rules.assigns

  updates_here : collected (update_named (scope_of p)) p.updates.items ≡ m.netlist.updates
  updates_here =
      ap (λ x. collected (update_named x) p.updates.items) scope_here ∙ ap (λ x. collected (update_named (module_scope m)) x) h.updates
      ∙ collected_back (update_named (module_scope m)) (named_update m) (UpdateIsSound m.netlist) (update_is m names_differ) m.netlist.updates rules.updates

  netlist_here : netlist_of_parts p ≡ m.netlist
  netlist_here =
      same_netlist _ _ _ _ _ _ _ _ _ _ _ _ _ _ _ _
      (ap has_enable h.ports ∙ enable_back m.netlist.enable m.netlist.inputs rules.ports.dins (named_ports Gives all_outputs 0 m.netlist.outputs) rules.ports.inputs_are rules.ports.din_count.0)
      (ap (λ x. collected (λ (q : Port). taken q.direction q.width) (past_clock x)) h.ports ∙ inputs_back m)
      (ap (λ x. collected (λ (q : Port). given q.direction q.width) (past_clock x)) h.ports ∙ outputs_back m)
      (ap (λ x. collected (λ (d : Declaration). wire_width d.sort) x) h.declarations ∙ wires_back m)
      (ap (λ x. collected (λ (d : Declaration). reg_width d.sort) x) h.declarations ∙ regs_back m)
      (ap (λ x. collected (λ (d : Declaration). array_shape d.sort) x) h.declarations ∙ arrays_back m)
      assigns_here
      updates_here

  module_here : m ≡ module_of p
  module_here = same_module _ _ _ _ (sym netlist_here) (sym (names_back m named p h))

  fine_assign : (a : Assign) → AssignIsSound m.netlist a → FineAssign p (named_assign m a)
  fine_assign a s = record {
    known = subst (λ x. AllKnown x (assign_names (named_assign m a))) (sym scope_here) (assign_known m names_differ a s);
    stands = a;
    sorted = (ap (λ x. assign_named x (named_assign m a)) scope_here ∙ assign_is m names_differ a s, subst (λ n. IsDriven n a.target) (sym netlist_here) s.target);
    divisor = s.right.divisor;
    widths = subst (λ n. AssignFits n a) (sym netlist_here) (s.right.widths, s.width);
  }

  update_fits : (u : Update) → UpdateIsSound m.netlist u → UpdateFits m.netlist u
  update_fits (Set r a) s = s.2
  update_fits (Put x i a) s = s.3

  fine_update : (u : Update) → UpdateIsSound m.netlist u → FineUpdate p (named_update m u)
  fine_update u s = record {
    known = subst (λ x. AllKnown x (update_names (named_update m u))) (sym scope_here) (update_known m names_differ u s);
    stands = u;
    sorted = ap (λ x. update_named x (named_update m u)) scope_here ∙ update_is m names_differ u s;
    widths = subst (λ n. UpdateFits n u) (sym netlist_here) (update_fits u s);
  }

  passes_ports : PassesPorts p
  passes_ports = record { names = subst (λ x. AreDistinct (names_in x)) (sym scope_here) names_differ; ports = subst PortsFit (sym h.ports) (ports_fit m rules.ports) }

  passes_statements : PassesStatements p
  passes_statements = record {
    before = passes_ports;
    assigns = subst (All (FineAssign p)) (sym h.assigns) (All-map (FineAssign p) (named_assign m) m.netlist.assigns (All-weaker (AssignIsSound m.netlist) (λ a. FineAssign p (named_assign m a)) fine_assign m.netlist.assigns rules.assigns));
    updates = subst (All (FineUpdate p)) (sym h.updates) (All-map (FineUpdate p) (named_update m) m.netlist.updates (All-weaker (UpdateIsSound m.netlist) (λ u. FineUpdate p (named_update m u)) fine_update m.netlist.updates rules.updates));
  }

  passes_targets : PassesTargets p
  passes_targets = record {
    before = passes_statements;
    assigns = subst (λ n. TargetsDiffer assign_target n.assigns) (sym netlist_here) rules.driven.one;
    updates = subst (λ n. TargetsDiffer update_target n.updates) (sym netlist_here) rules.updated.one;
  }

  passes_drivers : PassesDrivers p
  passes_drivers = record {
    before = passes_targets;
    driven = λ k e at.
        subst (λ n. HasDriver n e.meaning) (sym netlist_here)
        (All-at (λ (x : Entry). HasDriver m.netlist x.meaning) (module_scope m) k e (scope_driven m rules) (ap (λ x. slice_get x k) (sym scope_here) ∙ at));
  }

  -- parts with these lists make this module
  pub is_module_of : IsModuleOf p m
  is_module_of = record { keeps = keeps_of p passes_drivers (subst (λ n. IsAcyclic n.assigns) (sym netlist_here) rules.acyclic); is = module_here }
