-- Parts that pass all passes have fitting names.
use Rattle.std.proofs.Common.{◌≡◌, ◌⊎◌, ℕ, zero, suc, ◌+◌, ◌-◌, ◌*◌, ◌/◌, Bool, true, false, List, [], ◌∷◌, ◌++◌, length, refl, ap, subst, sym, ◌∙◌, inl, inr, arith, Option, Some, None}
use Rattle.std.specs.Prelude.{All, slice_get, codes, map, if◌then◌else◌}
use Rattle.std.specs.Option.{option_map, option_to_list}
use Rattle.std.specs.List.{AllZip}
use Rattle.std.proofs.lemmas.List.Elements.{All-nil, All-cons, All-append}
use Rattle.std.proofs.lemmas.Option.{same_Some, slice_get_within, slice_get-map}
use Rattle.std.specs.Str.{bytes_eq}
use Rattle.net_names.specs.Words.{is_name}
use Rattle.wiring.specs.declared.netlist.Net.TheVariants.{Input, Output, Wire, Reg}
use Rattle.wiring.specs.declared.netlist.Shape.{Shape}
use Rattle.wiring.specs.Rules.{IsPortCount, with_valids}
use Rattle.wiring.proofs.Lists.{at_one, slice_get-append, All-at}
use Rattle.netlist.specs.declared.parts.Parts.{Parts}
use Rattle.netlist.specs.declared.parts.Port.{Port}
use Rattle.netlist.specs.declared.parts.Declaration.{Declaration}
use Rattle.netlist.specs.declared.parts.Direction.{Direction}
use Rattle.netlist.specs.declared.parts.Direction.TheVariants.{Input as Takes, Output as Gives}
use Rattle.netlist.specs.declared.parts.Sort.{Sort}
use Rattle.netlist.specs.declared.parts.Sort.TheVariants.{Wire as OfWire, Reg as OfReg, Array as ArrayOf}
use Rattle.netlist.specs.Names.{numbered, din_names, output_names, port_names, AreDistinct, HasNames}
use Rattle.netlist.specs.Scopes.{Meaning, clock, net, array, Entry, port_entries, inputs_after, outputs_after, all_ports, sort_meaning, wires_after, regs_after, arrays_after, declared_entries, scope_of, collected, past_clock, has_enable, wire_width, reg_width, array_shape, netlist_of_parts, names_of_parts, port_meaning, NamesAre}
use Rattle.netlist.specs.Faults.{PortRule, din_rules, output_rules, profile, FitsRule}
use Rattle.netlist.specs.Passes.{entry_names, PassesDrivers}
use Rattle.netlist.proofs.Scoped.{takings, givings, one_part}
use Rattle.netlist.proofs.Kept.{dins_part, taking_one, giving_none, collected_all}

-- the names of the ports are those of the rules
rules_named : (ports : List Port) (rules : List PortRule) → AllZip FitsRule ports rules → map (λ (q : Port). q.name) ports ≡ map (λ (r : PortRule). r.name) rules
rules_named [] [] fit = refl
rules_named [] (r ∷ rules) fit = absurd fit
rules_named (q ∷ ports) [] fit = absurd fit
rules_named (q ∷ ports) (r ∷ rules) fit = ap (λ (n : List ℕ). n ∷ map (λ (q : Port). q.name) ports) fit.0.name ∙ ap (λ (l : List (List ℕ)). r.name ∷ l) (rules_named ports rules fit.1)

output_rules_named : (o j : ℕ) → map (λ (r : PortRule). r.name) (output_rules j o) ≡ output_names j o
output_rules_named zero j = refl
output_rules_named (suc o) j = ap (λ (l : List (List ℕ)). numbered (codes "valid") j ∷ (numbered (codes "dout") j ∷ l)) (output_rules_named o (suc j))

rest_named : (n k o : ℕ) → map (λ (r : PortRule). r.name) (din_rules k n ++ output_rules 0 o) ≡ din_names k n ++ output_names 0 o
rest_named zero k o = output_rules_named o 0
rest_named (suc n) k o = ap (λ (l : List (List ℕ)). numbered (codes "din") k ∷ l) (rest_named n (suc k) o)

valids_twice : (ds : List ℕ) → length (with_valids ds) ≡ 2 * length ds
valids_twice [] = refl
valids_twice (w ∷ ds) = omega (arith, valids_twice ds)

half : (n k : ℕ) → n ≡ 2 * k → n / 2 ≡ k
half n k e = omega (arith, e)

-- the profile's names by the lists of the ports
abbrev pn : Bool → List ℕ → List ℕ → List (List ℕ)
pn enable inputs outputs =
    (codes "clk" ∷ (codes "rst" ∷ (if enable then codes "en" ∷ din_names 0 (length inputs - (if enable then 2 else 1)) else din_names 0 (length inputs - (if enable then 2 else 1)))))
    ++ output_names 0 (length outputs / 2)

pn_true : (ws ds inputs outputs : List ℕ) (dins douts : ℕ) → inputs ≡ 1 ∷ (1 ∷ ws) → outputs ≡ with_valids ds → length ws ≡ dins → length ds ≡ douts →
    pn true inputs outputs ≡ codes "clk" ∷ (codes "rst" ∷ (codes "en" ∷ (din_names 0 dins ++ output_names 0 douts)))
pn_true ws ds inputs outputs dins douts ei eo ci co =
    let a : length inputs - 2 ≡ dins = omega (arith, ap length ei, ci) in
    let b : length outputs / 2 ≡ douts = half (length outputs) douts (ap length eo ∙ valids_twice ds ∙ ap (λ (k : ℕ). 2 * k) co) in
    ap (λ (k : ℕ). codes "clk" ∷ (codes "rst" ∷ (codes "en" ∷ (din_names 0 k ++ output_names 0 (length outputs / 2))))) a
    ∙ ap (λ (k : ℕ). codes "clk" ∷ (codes "rst" ∷ (codes "en" ∷ (din_names 0 dins ++ output_names 0 k)))) b

pn_false : (ws ds inputs outputs : List ℕ) (dins douts : ℕ) → inputs ≡ 1 ∷ ws → outputs ≡ with_valids ds → length ws ≡ dins → length ds ≡ douts →
    pn false inputs outputs ≡ codes "clk" ∷ (codes "rst" ∷ (din_names 0 dins ++ output_names 0 douts))
pn_false ws ds inputs outputs dins douts ei eo ci co =
    let a : length inputs - 1 ≡ dins = omega (arith, ap length ei, ci) in
    let b : length outputs / 2 ≡ douts = half (length outputs) douts (ap length eo ∙ valids_twice ds ∙ ap (λ (k : ℕ). 2 * k) co) in
    ap (λ (k : ℕ). codes "clk" ∷ (codes "rst" ∷ (din_names 0 k ++ output_names 0 (length outputs / 2)))) a
    ∙ ap (λ (k : ℕ). codes "clk" ∷ (codes "rst" ∷ (din_names 0 dins ++ output_names 0 k))) b

abbrev Named : List Port → Type 0
Named ports = map (λ (q : Port). q.name) ports ≡ pn (has_enable ports) (takings (past_clock ports)) (givings (past_clock ports))

ports_named : (ports : List Port) (enable : Bool) (dins douts : ℕ) → IsPortCount dins → AllZip FitsRule ports (profile enable dins douts) → Named ports
ports_named [] enable dins douts ci fit = absurd fit
ports_named (c ∷ []) enable dins douts ci fit = absurd fit.1
ports_named (c ∷ (r ∷ [])) true dins douts ci fit = absurd fit.1.1
ports_named (c ∷ (r ∷ [])) false zero douts ci fit = absurd (omega (arith, ci.0))
ports_named (c ∷ (r ∷ [])) false (suc n) douts ci fit = absurd fit.1.1
ports_named (c ∷ (r ∷ (e ∷ ports))) true dins douts ci fit =
    let rest = dins_part dins 0 douts ports fit.1.1.1 in
    let named : bytes_eq e.name (codes "en") ≡ true = ap (λ (n : List ℕ). bytes_eq n (codes "en")) fit.1.1.0.name in
    let ins : takings (r ∷ (e ∷ ports)) ≡ 1 ∷ (1 ∷ rest.ws) =
    taking_one r (e ∷ ports) fit.1.0.direction ∙ ap (λ (w : ℕ). w ∷ takings (e ∷ ports)) fit.1.0.width ∙ ap (λ (l : List ℕ). 1 ∷ l) (taking_one e ports fit.1.1.0.direction ∙ ap (λ (w : ℕ). w ∷ takings ports) fit.1.1.0.width ∙ ap (λ (l : List ℕ). 1 ∷ l) rest.taken_are) in
    let outs : givings (r ∷ (e ∷ ports)) ≡ with_valids rest.ds = giving_none r (e ∷ ports) fit.1.0.direction ∙ giving_none e ports fit.1.1.0.direction ∙ rest.given_are in
    let names : map (λ (q : Port). q.name) (c ∷ (r ∷ (e ∷ ports))) ≡ codes "clk" ∷ (codes "rst" ∷ (codes "en" ∷ (din_names 0 dins ++ output_names 0 douts))) =
    rules_named (c ∷ (r ∷ (e ∷ ports))) (profile true dins douts) fit ∙ ap (λ (l : List (List ℕ)). codes "clk" ∷ (codes "rst" ∷ (codes "en" ∷ l))) (rest_named dins 0 douts) in
    names ∙ sym (pn_true rest.ws rest.ds (takings (r ∷ (e ∷ ports))) (givings (r ∷ (e ∷ ports))) dins douts ins outs rest.din_count rest.dout_count)
    ∙ ap (λ (b : Bool). pn b (takings (r ∷ (e ∷ ports))) (givings (r ∷ (e ∷ ports)))) (sym named)
ports_named (c ∷ (r ∷ (e ∷ ports))) false zero douts ci fit = absurd (omega (arith, ci.0))
ports_named (c ∷ (r ∷ (e ∷ ports))) false (suc n) douts ci fit =
    let rest = dins_part (suc n) 0 douts (e ∷ ports) fit.1.1 in
    let named : bytes_eq e.name (codes "en") ≡ false = ap (λ (n : List ℕ). bytes_eq n (codes "en")) fit.1.1.0.name in
    let ins : takings (r ∷ (e ∷ ports)) ≡ 1 ∷ rest.ws = taking_one r (e ∷ ports) fit.1.0.direction ∙ ap (λ (w : ℕ). w ∷ takings (e ∷ ports)) fit.1.0.width ∙ ap (λ (l : List ℕ). 1 ∷ l) rest.taken_are in
    let outs : givings (r ∷ (e ∷ ports)) ≡ with_valids rest.ds = giving_none r (e ∷ ports) fit.1.0.direction ∙ rest.given_are in
    let names : map (λ (q : Port). q.name) (c ∷ (r ∷ (e ∷ ports))) ≡ codes "clk" ∷ (codes "rst" ∷ (din_names 0 (suc n) ++ output_names 0 douts)) =
    rules_named (c ∷ (r ∷ (e ∷ ports))) (profile false (suc n) douts) fit ∙ ap (λ (l : List (List ℕ)). codes "clk" ∷ (codes "rst" ∷ l)) (rest_named (suc n) 0 douts) in
    names ∙ sym (pn_false rest.ws rest.ds (takings (r ∷ (e ∷ ports))) (givings (r ∷ (e ∷ ports))) (suc n) douts ins outs rest.din_count rest.dout_count)
    ∙ ap (λ (b : Bool). pn b (takings (r ∷ (e ∷ ports))) (givings (r ∷ (e ∷ ports)))) (sym named)

-- the entries of the ports have their names
port_entry_names : (ports : List Port) (i o : ℕ) → map (λ (e : Entry). e.name) (port_entries i o ports) ≡ map (λ (q : Port). q.name) ports
port_entry_names [] i o = refl
port_entry_names (p ∷ ports) i o = ap (λ (l : List (List ℕ)). p.name ∷ l) (port_entry_names ports (inputs_after p.direction i) (outputs_after p.direction o))

all_port_names : (ports : List Port) → map (λ (e : Entry). e.name) (all_ports ports) ≡ map (λ (q : Port). q.name) ports
all_port_names [] = refl
all_port_names (p ∷ ports) = ap (λ (l : List (List ℕ)). p.name ∷ l) (port_entry_names ports 0 0)

-- no port's entry means a wire, a register or an array
abbrev IsPortMeaning : Meaning → Type 0
IsPortMeaning clock = Unit {0}
IsPortMeaning (net (Input i)) = Unit {0}
IsPortMeaning (net (Output i)) = Unit {0}
IsPortMeaning (net (Wire i)) = ⊥
IsPortMeaning (net (Reg i)) = ⊥
IsPortMeaning (array x) = ⊥

port_meanings : (ports : List Port) (i o : ℕ) → All (λ (e : Entry). IsPortMeaning e.meaning) (port_entries i o ports)
port_meanings [] i o = All-nil (λ (e : Entry). IsPortMeaning e.meaning)
port_meanings (p ∷ ports) i o =
    All-cons (λ (e : Entry). IsPortMeaning e.meaning) (record { name = p.name; meaning = port_meaning p.direction i o }) (port_entries (inputs_after p.direction i) (outputs_after p.direction o) ports)
    (of_port p.direction i o) (port_meanings ports (inputs_after p.direction i) (outputs_after p.direction o))
  where
    of_port : (d : Direction) (i o : ℕ) → IsPortMeaning (port_meaning d i o)
    of_port Takes i o = tt
    of_port Gives i o = tt

all_meanings : (ports : List Port) → All (λ (e : Entry). IsPortMeaning e.meaning) (all_ports ports)
all_meanings [] = All-nil (λ (e : Entry). IsPortMeaning e.meaning)
all_meanings (p ∷ ports) = All-cons (λ (e : Entry). IsPortMeaning e.meaning) (record { name = p.name; meaning = clock }) (port_entries 0 0 ports) tt (port_meanings ports 0 0)

-- an entry with this name and this meaning
abbrev NamedAs : List ℕ → Meaning → List Entry → Type 0
NamedAs x μ entries = (place : ℕ) × (e : Entry) × (slice_get entries place ≡ Some e) × (e.name ≡ x) × (e.meaning ≡ μ)

named_more : (x : List ℕ) (μ : Meaning) (e : Entry) (entries : List Entry) → NamedAs x μ entries → NamedAs x μ (e ∷ entries)
named_more x μ e entries h = (suc h.0, h.1, h.2, h.3, h.4)

named_right : (x : List ℕ) (μ : Meaning) (entries more : List Entry) → NamedAs x μ more → NamedAs x μ (entries ++ more)
named_right x μ [] more h = h
named_right x μ (e ∷ entries) more h = named_more x μ e (entries ++ more) (named_right x μ entries more h)

same_length : {A B : Type 0} (o : Option A) (g : A → B) (xs : List B) (ys : List A) → length xs ≡ length ys → length (option_to_list (option_map g o) ++ xs) ≡ length (option_to_list o ++ ys)
same_length None g xs ys e = e
same_length (Some a) g xs ys e = ap suc e

abbrev wire_names : List Declaration → List (List ℕ)
wire_names ds = collected (λ (d : Declaration). option_map (λ (z : ℕ). d.name) (wire_width d.sort)) ds

wire_step : (s : Sort) (w r a k : ℕ) (name x : List ℕ) (rest : List Entry) (xs : List (List ℕ)) → slice_get (option_to_list (option_map (λ (z : ℕ). name) (wire_width s)) ++ xs) k ≡ Some x → ((j : ℕ) → slice_get xs j ≡ Some x → NamedAs x (net (Wire (wires_after s w + j))) rest) → NamedAs x (net (Wire (w + k))) (record { name = name; meaning = sort_meaning s w r a } ∷ rest)
wire_step (OfWire v) w r a zero name x rest xs at later = (zero, record { name = name; meaning = net (Wire w) }, refl, same_Some name x at, ap (λ (z : ℕ). net (Wire (z))) (let e : w ≡ w + 0 = omega arith in e))
wire_step (OfWire v) w r a (suc k) name x rest xs at later = subst (λ (z : ℕ). NamedAs x (net (Wire (z))) (record { name = name; meaning = net (Wire w) } ∷ rest)) (let e : suc w + k ≡ w + suc k = omega arith in e) (named_more x (net (Wire (suc w + k))) (record { name = name; meaning = net (Wire w) }) rest (later k at))
wire_step (OfReg v) w r a k name x rest xs at later = named_more x (net (Wire (w + k))) (record { name = name; meaning = net (Reg r) }) rest (later k at)
wire_step (ArrayOf q) w r a k name x rest xs at later = named_more x (net (Wire (w + k))) (record { name = name; meaning = array a }) rest (later k at)

wire_named : (ds : List Declaration) (w r a k : ℕ) (x : List ℕ) → slice_get (wire_names ds) k ≡ Some x → NamedAs x (net (Wire (w + k))) (declared_entries w r a ds)
wire_named [] w r a k x at = absurd (omega (arith, slice_get_within {A = List ℕ} [] k x at))
wire_named (d ∷ ds) w r a k x at =
    wire_step d.sort w r a k d.name x (declared_entries (wires_after d.sort w) (regs_after d.sort r) (arrays_after d.sort a) ds) (wire_names ds) at
    (λ j e. wire_named ds (wires_after d.sort w) (regs_after d.sort r) (arrays_after d.sort a) j x e)

wire_count : (ds : List Declaration) → length (wire_names ds) ≡ length (collected (λ (d : Declaration). wire_width d.sort) ds)
wire_count [] = refl
wire_count (d ∷ ds) = same_length (wire_width d.sort) (λ (z : ℕ). d.name) (wire_names ds) (collected (λ (d : Declaration). wire_width d.sort) ds) (wire_count ds)

abbrev reg_names : List Declaration → List (List ℕ)
reg_names ds = collected (λ (d : Declaration). option_map (λ (z : ℕ). d.name) (reg_width d.sort)) ds

reg_step : (s : Sort) (w r a k : ℕ) (name x : List ℕ) (rest : List Entry) (xs : List (List ℕ)) → slice_get (option_to_list (option_map (λ (z : ℕ). name) (reg_width s)) ++ xs) k ≡ Some x → ((j : ℕ) → slice_get xs j ≡ Some x → NamedAs x (net (Reg (regs_after s r + j))) rest) → NamedAs x (net (Reg (r + k))) (record { name = name; meaning = sort_meaning s w r a } ∷ rest)
reg_step (OfWire v) w r a k name x rest xs at later = named_more x (net (Reg (r + k))) (record { name = name; meaning = net (Wire w) }) rest (later k at)
reg_step (OfReg v) w r a zero name x rest xs at later = (zero, record { name = name; meaning = net (Reg r) }, refl, same_Some name x at, ap (λ (z : ℕ). net (Reg (z))) (let e : r ≡ r + 0 = omega arith in e))
reg_step (OfReg v) w r a (suc k) name x rest xs at later = subst (λ (z : ℕ). NamedAs x (net (Reg (z))) (record { name = name; meaning = net (Reg r) } ∷ rest)) (let e : suc r + k ≡ r + suc k = omega arith in e) (named_more x (net (Reg (suc r + k))) (record { name = name; meaning = net (Reg r) }) rest (later k at))
reg_step (ArrayOf q) w r a k name x rest xs at later = named_more x (net (Reg (r + k))) (record { name = name; meaning = array a }) rest (later k at)

reg_named : (ds : List Declaration) (w r a k : ℕ) (x : List ℕ) → slice_get (reg_names ds) k ≡ Some x → NamedAs x (net (Reg (r + k))) (declared_entries w r a ds)
reg_named [] w r a k x at = absurd (omega (arith, slice_get_within {A = List ℕ} [] k x at))
reg_named (d ∷ ds) w r a k x at =
    reg_step d.sort w r a k d.name x (declared_entries (wires_after d.sort w) (regs_after d.sort r) (arrays_after d.sort a) ds) (reg_names ds) at
    (λ j e. reg_named ds (wires_after d.sort w) (regs_after d.sort r) (arrays_after d.sort a) j x e)

reg_count : (ds : List Declaration) → length (reg_names ds) ≡ length (collected (λ (d : Declaration). reg_width d.sort) ds)
reg_count [] = refl
reg_count (d ∷ ds) = same_length (reg_width d.sort) (λ (z : ℕ). d.name) (reg_names ds) (collected (λ (d : Declaration). reg_width d.sort) ds) (reg_count ds)

abbrev array_names : List Declaration → List (List ℕ)
array_names ds = collected (λ (d : Declaration). option_map (λ (z : Shape). d.name) (array_shape d.sort)) ds

array_step : (s : Sort) (w r a k : ℕ) (name x : List ℕ) (rest : List Entry) (xs : List (List ℕ)) → slice_get (option_to_list (option_map (λ (z : Shape). name) (array_shape s)) ++ xs) k ≡ Some x → ((j : ℕ) → slice_get xs j ≡ Some x → NamedAs x (array (arrays_after s a + j)) rest) → NamedAs x (array (a + k)) (record { name = name; meaning = sort_meaning s w r a } ∷ rest)
array_step (OfWire v) w r a k name x rest xs at later = named_more x (array (a + k)) (record { name = name; meaning = net (Wire w) }) rest (later k at)
array_step (OfReg v) w r a k name x rest xs at later = named_more x (array (a + k)) (record { name = name; meaning = net (Reg r) }) rest (later k at)
array_step (ArrayOf q) w r a zero name x rest xs at later = (zero, record { name = name; meaning = array a }, refl, same_Some name x at, ap (λ (z : ℕ). array (z)) (let e : a ≡ a + 0 = omega arith in e))
array_step (ArrayOf q) w r a (suc k) name x rest xs at later = subst (λ (z : ℕ). NamedAs x (array (z)) (record { name = name; meaning = array a } ∷ rest)) (let e : suc a + k ≡ a + suc k = omega arith in e) (named_more x (array (suc a + k)) (record { name = name; meaning = array a }) rest (later k at))

array_named : (ds : List Declaration) (w r a k : ℕ) (x : List ℕ) → slice_get (array_names ds) k ≡ Some x → NamedAs x (array (a + k)) (declared_entries w r a ds)
array_named [] w r a k x at = absurd (omega (arith, slice_get_within {A = List ℕ} [] k x at))
array_named (d ∷ ds) w r a k x at =
    array_step d.sort w r a k d.name x (declared_entries (wires_after d.sort w) (regs_after d.sort r) (arrays_after d.sort a) ds) (array_names ds) at
    (λ j e. array_named ds (wires_after d.sort w) (regs_after d.sort r) (arrays_after d.sort a) j x e)

array_count : (ds : List Declaration) → length (array_names ds) ≡ length (collected (λ (d : Declaration). array_shape d.sort) ds)
array_count [] = refl
array_count (d ∷ ds) = same_length (array_shape d.sort) (λ (z : Shape). d.name) (array_names ds) (collected (λ (d : Declaration). array_shape d.sort) ds) (array_count ds)

append_cases : {X : Type 0} (xs ys : List X) (i : ℕ) (x : X) → slice_get (xs ++ ys) i ≡ Some x → (slice_get xs i ≡ Some x) ⊎ ((j : ℕ) × (i ≡ length xs + j) × (slice_get ys j ≡ Some x))
append_cases [] ys i x e = inr (i, omega arith, e)
append_cases (a ∷ xs) ys zero x e = inl e
append_cases (a ∷ xs) ys (suc i) x e = elim (append_cases xs ys i x e) [ inl h ↦ inl h | inr h ↦ inr (h.0, omega (arith, h.1), h.2) ]

distinct_append : (xs ys : List (List ℕ)) → AreDistinct xs → AreDistinct ys → ((i j : ℕ) (x : List ℕ) → slice_get xs i ≡ Some x → slice_get ys j ≡ Some x → ⊥) → AreDistinct (xs ++ ys)
distinct_append xs ys dx dy apart i j x at_i at_j =
    elim (append_cases xs ys i x at_i) as (λ _. i ≡ j) [
      | inl a ↦ elim (append_cases xs ys j x at_j) as (λ _. i ≡ j) [
        | inl b ↦ dx i j x a b
        | inr b ↦ absurd (apart i b.0 x a b.2)
      ]
      | inr a ↦ elim (append_cases xs ys j x at_j) as (λ _. i ≡ j) [
        | inl b ↦ absurd (apart j a.0 x b a.2)
        | inr b ↦ let e : a.0 ≡ b.0 = dy a.0 b.0 x a.2 b.2 in omega (arith, a.1, b.1, e)
      ]
    ]

module _ (p : Parts) (names : NamesAre p) (passes : PassesDrivers p) where
  abbrev scope : List Entry
  scope = scope_of p

  abbrev ds : List Declaration
  ds = p.declarations.items

  -- two entries of one name are one
  same_entry : (x : List ℕ) (i j : ℕ) (e f : Entry) → slice_get scope i ≡ Some e → e.name ≡ x → slice_get scope j ≡ Some f → f.name ≡ x → (i ≡ j) × (e ≡ f)
  same_entry x i j e f at_i is_e at_j is_f =
      let here : slice_get (entry_names p) i ≡ Some x = slice_get-map (λ (e : Entry). e.name) scope i ∙ ap (option_map (λ (e : Entry). e.name)) at_i ∙ ap (λ (n : List ℕ). Some n) is_e in
      let there : slice_get (entry_names p) j ≡ Some x = slice_get-map (λ (e : Entry). e.name) scope j ∙ ap (option_map (λ (e : Entry). e.name)) at_j ∙ ap (λ (n : List ℕ). Some n) is_f in
      let e1 : i ≡ j = passes.before.before.before.names i j x here there in
      (e1, at_one scope j e f (subst (λ (z : ℕ). slice_get scope z ≡ Some e) e1 at_i) at_j)

  same_meaning : (x : List ℕ) (μ ν : Meaning) → NamedAs x μ scope → NamedAs x ν scope → μ ≡ ν
  same_meaning x μ ν a b = sym a.4 ∙ ap (λ (e : Entry). e.meaning) (same_entry x a.0 b.0 a.1 b.1 a.2 a.3 b.2 b.3).1 ∙ b.4

  port_at : (i : ℕ) (x : List ℕ) → slice_get (map (λ (q : Port). q.name) p.ports.items) i ≡ Some x → (e : Entry) × (slice_get scope i ≡ Some e) × (e.name ≡ x) × IsPortMeaning e.meaning
  port_at i x at =
      let there : option_map (λ (e : Entry). e.name) (slice_get (all_ports p.ports.items) i) ≡ Some x =
      sym (slice_get-map (λ (e : Entry). e.name) (all_ports p.ports.items) i) ∙ ap (λ (l : List (List ℕ)). slice_get l i) (all_port_names p.ports.items) ∙ at in
      let r = one_part (λ (e : Entry). e.name) (slice_get (all_ports p.ports.items) i) x there in
      (r.0, slice_get-append (all_ports p.ports.items) (declared_entries 0 0 0 ds) i r.0 r.1, r.2, All-at (λ (e : Entry). IsPortMeaning e.meaning) (all_ports p.ports.items) i r.0 (all_meanings p.ports.items) r.1)

  wire_at : (k : ℕ) (x : List ℕ) → slice_get (wire_names ds) k ≡ Some x → NamedAs x (net (Wire k)) scope
  wire_at k x at = named_right x (net (Wire k)) (all_ports p.ports.items) (declared_entries 0 0 0 ds) (subst (λ (z : ℕ). NamedAs x (net (Wire z)) (declared_entries 0 0 0 ds)) (let e : 0 + k ≡ k = omega arith in e) (wire_named ds 0 0 0 k x at))

  reg_at : (k : ℕ) (x : List ℕ) → slice_get (reg_names ds) k ≡ Some x → NamedAs x (net (Reg k)) scope
  reg_at k x at = named_right x (net (Reg k)) (all_ports p.ports.items) (declared_entries 0 0 0 ds) (subst (λ (z : ℕ). NamedAs x (net (Reg z)) (declared_entries 0 0 0 ds)) (let e : 0 + k ≡ k = omega arith in e) (reg_named ds 0 0 0 k x at))

  array_at : (k : ℕ) (x : List ℕ) → slice_get (array_names ds) k ≡ Some x → NamedAs x (array k) scope
  array_at k x at = named_right x (array k) (all_ports p.ports.items) (declared_entries 0 0 0 ds) (subst (λ (z : ℕ). NamedAs x (array z) (declared_entries 0 0 0 ds)) (let e : 0 + k ≡ k = omega arith in e) (array_named ds 0 0 0 k x at))

  -- a port's name is no other's
  port_apart : (μ : Meaning) → (IsPortMeaning μ → ⊥) → (i : ℕ) (x : List ℕ) → slice_get (map (λ (q : Port). q.name) p.ports.items) i ≡ Some x → NamedAs x μ scope → ⊥
  port_apart μ other i x at h =
      let q = port_at i x at in
      other (subst IsPortMeaning (ap (λ (e : Entry). e.meaning) (same_entry x i h.0 q.0 h.1 q.1 q.2 h.2 h.3).1 ∙ h.4) q.3)

  abbrev ports : List (List ℕ)
  ports = map (λ (q : Port). q.name) p.ports.items

  ports_differ : AreDistinct ports
  ports_differ i j x at_i at_j =
      let a = port_at i x at_i in
      let b = port_at j x at_j in
      (same_entry x i j a.0 b.0 a.1 a.2 b.1 b.2).0

  wires_differ : AreDistinct (wire_names ds)
  wires_differ i j x a b = let e : net (Wire i) ≡ net (Wire j) = same_meaning x (net (Wire i)) (net (Wire j)) (wire_at i x a) (wire_at j x b) in cc

  regs_differ : AreDistinct (reg_names ds)
  regs_differ i j x a b = let e : net (Reg i) ≡ net (Reg j) = same_meaning x (net (Reg i)) (net (Reg j)) (reg_at i x a) (reg_at j x b) in cc

  arrays_differ : AreDistinct (array_names ds)
  arrays_differ i j x a b = let e : array i ≡ array j = same_meaning x (array i) (array j) (array_at i x a) (array_at j x b) in cc

  up_to_wires : AreDistinct (ports ++ wire_names ds)
  up_to_wires = distinct_append ports (wire_names ds) ports_differ wires_differ (λ i j x a b. port_apart (net (Wire j)) (λ h. h) i x a (wire_at j x b))

  before_reg : (i j : ℕ) (x : List ℕ) → slice_get (ports ++ wire_names ds) i ≡ Some x → slice_get (reg_names ds) j ≡ Some x → ⊥
  before_reg i j x a b =
      elim (append_cases ports (wire_names ds) i x a) as (λ _. ⊥) [
        | inl h ↦ port_apart (net (Reg j)) (λ h. h) i x h (reg_at j x b)
        | inr h ↦ let e : net (Wire h.0) ≡ net (Reg j) = same_meaning x (net (Wire h.0)) (net (Reg j)) (wire_at h.0 x h.2) (reg_at j x b) in cc
      ]

  up_to_regs : AreDistinct ((ports ++ wire_names ds) ++ reg_names ds)
  up_to_regs = distinct_append (ports ++ wire_names ds) (reg_names ds) up_to_wires regs_differ before_reg

  before_array : (i j : ℕ) (x : List ℕ) → slice_get ((ports ++ wire_names ds) ++ reg_names ds) i ≡ Some x → slice_get (array_names ds) j ≡ Some x → ⊥
  before_array i j x a b =
      elim (append_cases (ports ++ wire_names ds) (reg_names ds) i x a) as (λ _. ⊥) [
        | inl g ↦ elim (append_cases ports (wire_names ds) i x g) as (λ _. ⊥) [
          | inl h ↦ port_apart (array j) (λ h. h) i x h (array_at j x b)
          | inr h ↦ let e : net (Wire h.0) ≡ array j = same_meaning x (net (Wire h.0)) (array j) (wire_at h.0 x h.2) (array_at j x b) in cc
        ]
        | inr h ↦ let e : net (Reg h.0) ≡ array j = same_meaning x (net (Reg h.0)) (array j) (reg_at h.0 x h.2) (array_at j x b) in cc
      ]

  all_differ : AreDistinct (((ports ++ wire_names ds) ++ reg_names ds) ++ array_names ds)
  all_differ = distinct_append ((ports ++ wire_names ds) ++ reg_names ds) (array_names ds) up_to_regs arrays_differ before_array

  are_names : {T : Type 0} (f : Sort → Option T) → All (λ b. is_name b ≡ true) (collected (λ (d : Declaration). option_map (λ (z : T). d.name) (f d.sort)) ds)
  are_names {T} f =
      collected_all (λ (d : Declaration). option_map (λ (z : T). d.name) (f d.sort)) (λ b. is_name b ≡ true) ds
      (λ k d y at e. subst (λ (b : List ℕ). is_name b ≡ true) (one_part (λ (z : T). d.name) (f d.sort) y e).2 (All-at (λ (d : Declaration). is_name d.name ≡ true) ds k d names.declarations at))

  pub names_kept : HasNames (netlist_of_parts p) (names_of_parts p)
  names_kept =
      let fit = passes.before.before.before.ports in
      let named : ports ≡ port_names (netlist_of_parts p) = ports_named p.ports.items fit.enable fit.dins fit.douts fit.din_count fit.fit in
      record {
        wires = wire_count ds;
        regs = reg_count ds;
        arrays = array_count ds;
        distinct = subst (λ (l : List (List ℕ)). AreDistinct (((l ++ wire_names ds) ++ reg_names ds) ++ array_names ds)) named all_differ;
        module_name = names.«module»;
        are_names = All-append (λ b. is_name b ≡ true) (wire_names ds ++ reg_names ds) (array_names ds) (All-append (λ b. is_name b ≡ true) (wire_names ds) (reg_names ds) (are_names wire_width) (are_names reg_width)) (are_names array_shape);
      }
