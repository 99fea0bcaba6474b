-- Parts that pass all passes keep the net rules.
use Rattle.std.proofs.Common.{◌≡◌, ℕ, zero, suc, ◌+◌, ◌<◌, ◌≤◌, Bool, true, false, List, [], ◌∷◌, ◌++◌, length, refl, ap, subst, sym, ◌∙◌, inl, inr, arith, Option, Some, None}
use Rattle.std.specs.Prelude.{All, slice_get, codes}
use Rattle.std.specs.Option.{option_to_list}
use Rattle.std.specs.List.{AllZip}
use Rattle.std.proofs.lemmas.Bool.{cases_lt}
use Rattle.std.proofs.lemmas.List.Elements.{All-nil, All-cons, All-append}
use Rattle.std.proofs.lemmas.Option.{same_Some}
use Rattle.std.specs.Str.{bytes_eq}
use Rattle.wiring.specs.declared.right.Atom.{Atom}
use Rattle.wiring.specs.declared.right.Atom.TheVariants as atom
use Rattle.wiring.specs.declared.right.Right.{Right}
use Rattle.wiring.specs.declared.right.Right.TheVariants.{Copy, Not, Binary, Choose, Join, Repeat, Bit, Slice, Word}
use Rattle.wiring.specs.declared.netlist.Net.{Net}
use Rattle.wiring.specs.declared.netlist.Net.TheVariants.{Input, Output, Wire, Reg}
use Rattle.wiring.specs.declared.netlist.Holder.{Holder}
use Rattle.wiring.specs.declared.netlist.Holder.TheVariants.{OfNet, OfArray}
use Rattle.wiring.specs.declared.netlist.Shape.{Shape}
use Rattle.wiring.specs.declared.netlist.Assign.{Assign}
use Rattle.wiring.specs.declared.netlist.Update.{Update}
use Rattle.wiring.specs.declared.netlist.Update.TheVariants.{Set, Put}
use Rattle.wiring.specs.Sizes.{IsWidth, IsConstant, SizedNumber}
use Rattle.wiring.specs.Rights.{constants_of, atom_constants, nets_of}
use Rattle.wiring.specs.Netlist.{Netlist, IsDeclared, IsDriven, IsState}
use Rattle.wiring.specs.Rules.{KeepsRules, ArePorts, ArrayIsDeclared, IsPortCount, IsPortWidth, with_valids, IsShape, AssignIsSound, AtomIsSound, UpdateIsSound}
use Rattle.wiring.specs.Order.{IsAcyclic}
use Rattle.wiring.proofs.Lists.{All-at, slice_get-append}
use Rattle.netlist.specs.declared.parts.Parts.{Parts}
use Rattle.netlist.specs.declared.parts.Port.{Port}
use Rattle.netlist.specs.declared.parts.Declaration.{Declaration}
use Rattle.netlist.specs.declared.parts.Direction.{Direction}
use Rattle.netlist.specs.declared.parts.Direction.TheVariants.{Input as Takes, Output as Gives}
use Rattle.netlist.specs.declared.parts.Sort.{Sort}
use Rattle.netlist.specs.declared.parts.Sort.TheVariants.{Wire as OfWire, Reg as OfReg, Array as ArrayOf}
use Rattle.netlist.specs.declared.parts.NamedAssign.{NamedAssign}
use Rattle.netlist.specs.declared.parts.NamedUpdate.{NamedUpdate}
use Rattle.netlist.specs.declared.parts.NamedUpdate.TheVariants.{Set as NamedSet, Put as NamedPut}
use Rattle.netlist.specs.Scopes.{Meaning, clock, net, array, Entry, port_meaning, inputs_after, outputs_after, port_entries, all_ports, sort_meaning, wires_after, regs_after, arrays_after, declared_entries, scope_of, net_named, array_named, atom_named, right_named, assign_named, update_named, reg_of_net, collected, taken, given, past_clock, has_enable, wire_width, reg_width, array_shape, netlist_of_parts, SortFits, update_constants, SizesFit}
use Rattle.netlist.specs.Faults.{din_rules, output_rules, profile, FitsRule, UpdateFits, HasDriver, HasAssign, HasUpdate}
use Rattle.netlist.specs.Passes.{FineAssign, FineUpdate, PassesDrivers}
use Rattle.netlist.proofs.Scoped.{takings, givings, wires_of, regs_of, arrays_of, one_part, two_parts, three_parts, net_declared, array_declared, atom_declared, right_declared}

option_all : {Y : Type 0} (P : Y → Type 0) (o : Option Y) → ((y : Y) → o ≡ Some y → P y) → All P (option_to_list o)
option_all P None g = All-nil P
option_all P (Some y) g = All-cons P y [] (g y refl) (All-nil P)

-- what holds of each that is made holds of all that are collected
pub collected_all : {X Y : Type 0} (f : X → Option Y) (P : Y → Type 0) (xs : List X) → ((k : ℕ) (x : X) (y : Y) → slice_get xs k ≡ Some x → f x ≡ Some y → P y) → All P (collected f xs)
collected_all f P [] h = All-nil P
collected_all f P (x ∷ xs) h =
    All-append P (option_to_list (f x)) (collected f xs) (option_all P (f x) (λ y e. h zero x y refl e)) (collected_all f P xs (λ k z y at e. h (suc k) z y at e))

-- ports
taking_none : (q : Port) (ports : List Port) → q.direction ≡ Gives → takings (q ∷ ports) ≡ takings ports
taking_none q ports e = ap (λ (d : Direction). option_to_list (taken d q.width) ++ takings ports) e

pub taking_one : (q : Port) (ports : List Port) → q.direction ≡ Takes → takings (q ∷ ports) ≡ q.width ∷ takings ports
taking_one q ports e = ap (λ (d : Direction). option_to_list (taken d q.width) ++ takings ports) e

pub giving_none : (q : Port) (ports : List Port) → q.direction ≡ Takes → givings (q ∷ ports) ≡ givings ports
giving_none q ports e = ap (λ (d : Direction). option_to_list (given d q.width) ++ givings ports) e

giving_one : (q : Port) (ports : List Port) → q.direction ≡ Gives → givings (q ∷ ports) ≡ q.width ∷ givings ports
giving_one q ports e = ap (λ (d : Direction). option_to_list (given d q.width) ++ givings ports) e

-- the ports from the dins on
pub record Rest (ports : List Port) (dins douts : ℕ) : Type 0 where
  pub ws : List ℕ
  pub ds : List ℕ
  pub taken_are : takings ports ≡ ws
  pub given_are : givings ports ≡ with_valids ds
  pub din_count : length ws ≡ dins
  pub dout_count : length ds ≡ douts
  pub din_widths : All IsPortWidth ws
  pub dout_widths : All IsPortWidth ds

outputs_part : (o j : ℕ) (ports : List Port) → AllZip FitsRule ports (output_rules j o) → Rest ports 0 o
outputs_part zero j [] fit = record { ws = []; ds = []; taken_are = refl; given_are = refl; din_count = refl; dout_count = refl; din_widths = All-nil IsPortWidth; dout_widths = All-nil IsPortWidth }
outputs_part zero j (q ∷ ports) fit = absurd fit
outputs_part (suc o) j [] fit = absurd fit
outputs_part (suc o) j (v ∷ []) fit = absurd fit.1
outputs_part (suc o) j (v ∷ (d ∷ ports)) fit =
    let rest = outputs_part o (suc j) ports fit.1.1 in
    let none : takings (v ∷ (d ∷ ports)) ≡ rest.ws = taking_none v (d ∷ ports) fit.0.direction ∙ taking_none d ports fit.1.0.direction ∙ rest.taken_are in
    let one : givings (v ∷ (d ∷ ports)) ≡ 1 ∷ (d.width ∷ with_valids rest.ds) =
    giving_one v (d ∷ ports) fit.0.direction ∙ ap (λ (w : ℕ). w ∷ givings (d ∷ ports)) fit.0.width ∙ ap (λ (l : List ℕ). 1 ∷ l) (giving_one d ports fit.1.0.direction ∙ ap (λ (l : List ℕ). d.width ∷ l) rest.given_are) in
    record {
      ws = rest.ws;
      ds = d.width ∷ rest.ds;
      taken_are = none;
      given_are = one;
      din_count = rest.din_count;
      dout_count = ap suc rest.dout_count;
      din_widths = rest.din_widths;
      dout_widths = All-cons IsPortWidth d.width rest.ds fit.1.0.width rest.dout_widths;
    }

pub dins_part : (n k o : ℕ) (ports : List Port) → AllZip FitsRule ports (din_rules k n ++ output_rules 0 o) → Rest ports n o
dins_part zero k o ports fit = outputs_part o 0 ports fit
dins_part (suc n) k o [] fit = absurd fit
dins_part (suc n) k o (q ∷ ports) fit =
    let rest = dins_part n (suc k) o ports fit.1 in
    record {
      ws = q.width ∷ rest.ws;
      ds = rest.ds;
      taken_are = taking_one q ports fit.0.direction ∙ ap (λ (l : List ℕ). q.width ∷ l) rest.taken_are;
      given_are = giving_none q ports fit.0.direction ∙ rest.given_are;
      din_count = ap suc rest.din_count;
      dout_count = rest.dout_count;
      din_widths = All-cons IsPortWidth q.width rest.ws fit.0.width rest.din_widths;
      dout_widths = rest.dout_widths;
    }

abbrev Ports : List Port → Type 0
Ports ports = ArePorts (has_enable ports) (takings (past_clock ports)) (givings (past_clock ports))

with_enable : (c r e : Port) (ports : List Port) (dins douts : ℕ) → IsPortCount dins → IsPortCount douts → AllZip FitsRule (c ∷ (r ∷ (e ∷ ports))) (profile true dins douts) → Ports (c ∷ (r ∷ (e ∷ ports)))
with_enable c r e ports dins douts ci co fit =
    let rest = dins_part dins 0 douts ports fit.1.1.1 in
    let named : bytes_eq e.name (codes "en") ≡ true = ap (λ (n : List ℕ). bytes_eq n (codes "en")) fit.1.1.0.name in
    let ins : takings (r ∷ (e ∷ ports)) ≡ 1 ∷ (1 ∷ rest.ws) =
    taking_one r (e ∷ ports) fit.1.0.direction ∙ ap (λ (w : ℕ). w ∷ takings (e ∷ ports)) fit.1.0.width ∙ ap (λ (l : List ℕ). 1 ∷ l) (taking_one e ports fit.1.1.0.direction ∙ ap (λ (w : ℕ). w ∷ takings ports) fit.1.1.0.width ∙ ap (λ (l : List ℕ). 1 ∷ l) rest.taken_are) in
    let outs : givings (r ∷ (e ∷ ports)) ≡ with_valids rest.ds = giving_none r (e ∷ ports) fit.1.0.direction ∙ giving_none e ports fit.1.1.0.direction ∙ rest.given_are in
    subst (λ (b : Bool). ArePorts b (takings (r ∷ (e ∷ ports))) (givings (r ∷ (e ∷ ports)))) (sym named)
    (record { dins = rest.ws; douts = rest.ds; inputs_are = ins; outputs_are = outs; din_count = subst IsPortCount (sym rest.din_count) ci; dout_count = subst IsPortCount (sym rest.dout_count) co; din_widths = rest.din_widths; dout_widths = rest.dout_widths })

no_enable : (c r e : Port) (ports : List Port) (dins douts : ℕ) → IsPortCount dins → IsPortCount douts → AllZip FitsRule (c ∷ (r ∷ (e ∷ ports))) (profile false dins douts) → Ports (c ∷ (r ∷ (e ∷ ports)))
no_enable c r e ports zero douts ci co fit = absurd (omega (arith, ci.0))
no_enable c r e ports (suc n) douts ci co fit =
    let rest = dins_part (suc n) 0 douts (e ∷ ports) fit.1.1 in
    let named : bytes_eq e.name (codes "en") ≡ false = ap (λ (n : List ℕ). bytes_eq n (codes "en")) fit.1.1.0.name in
    let ins : takings (r ∷ (e ∷ ports)) ≡ 1 ∷ rest.ws = taking_one r (e ∷ ports) fit.1.0.direction ∙ ap (λ (w : ℕ). w ∷ takings (e ∷ ports)) fit.1.0.width ∙ ap (λ (l : List ℕ). 1 ∷ l) rest.taken_are in
    let outs : givings (r ∷ (e ∷ ports)) ≡ with_valids rest.ds = giving_none r (e ∷ ports) fit.1.0.direction ∙ rest.given_are in
    subst (λ (b : Bool). ArePorts b (takings (r ∷ (e ∷ ports))) (givings (r ∷ (e ∷ ports)))) (sym named)
    (record { dins = rest.ws; douts = rest.ds; inputs_are = ins; outputs_are = outs; din_count = subst IsPortCount (sym rest.din_count) ci; dout_count = subst IsPortCount (sym rest.dout_count) co; din_widths = rest.din_widths; dout_widths = rest.dout_widths })

ports_are : (ports : List Port) (enable : Bool) (dins douts : ℕ) → IsPortCount dins → IsPortCount douts → AllZip FitsRule ports (profile enable dins douts) → Ports ports
ports_are [] enable dins douts ci co fit = absurd fit
ports_are (c ∷ []) enable dins douts ci co fit = absurd fit.1
ports_are (c ∷ (r ∷ [])) true dins douts ci co fit = absurd fit.1.1
ports_are (c ∷ (r ∷ [])) false zero douts ci co fit = absurd (omega (arith, ci.0))
ports_are (c ∷ (r ∷ [])) false (suc n) douts ci co fit = absurd fit.1.1
ports_are (c ∷ (r ∷ (e ∷ ports))) true dins douts ci co fit = with_enable c r e ports dins douts ci co fit
ports_are (c ∷ (r ∷ (e ∷ ports))) false dins douts ci co fit = no_enable c r e ports dins douts ci co fit

-- an entry with this meaning
abbrev Has : Meaning → List Entry → Type 0
Has x entries = (place : ℕ) × (e : Entry) × (slice_get entries place ≡ Some e) × (e.meaning ≡ x)

has_more : (x : Meaning) (e : Entry) (entries : List Entry) → Has x entries → Has x (e ∷ entries)
has_more x e entries h = (suc h.0, h.1, h.2, h.3)

has_right : (x : Meaning) (entries more : List Entry) → Has x more → Has x (entries ++ more)
has_right x [] more h = h
has_right x (e ∷ entries) more h = has_more x e (entries ++ more) (has_right x entries more h)

has_left : (x : Meaning) (entries more : List Entry) → Has x entries → Has x (entries ++ more)
has_left x entries more h = (h.0, h.1, slice_get-append entries more h.0 h.1 h.2, h.3)

output_step : (d : Direction) (v i o k : ℕ) (name : List ℕ) (rest : List Entry) (ys : List ℕ) → o ≤ k → k < o + length (option_to_list (given d v) ++ ys) → (outputs_after d o ≤ k → k < outputs_after d o + length ys → Has (net (Output k)) rest) → Has (net (Output k)) (record { name = name; meaning = port_meaning d i o } ∷ rest)
output_step Takes v i o k name rest ys le lt later = has_more (net (Output k)) (record { name = name; meaning = port_meaning Takes i o }) rest (later le lt)
output_step Gives v i o k name rest ys le lt later =
    elim (cases_lt o k) as (λ _. Has (net (Output k)) (record { name = name; meaning = port_meaning Gives i o } ∷ rest)) [
      | inl l ↦ has_more (net (Output k)) (record { name = name; meaning = port_meaning Gives i o }) rest (later (omega (arith, l)) (omega (arith, lt)))
      | inr g ↦ (zero, record { name = name; meaning = port_meaning Gives i o }, refl, ap (λ (z : ℕ). net (Output z)) (let e : o ≡ k = omega (arith, le, g) in e))
    ]

output_entry : (ports : List Port) (i o k : ℕ) → o ≤ k → k < o + length (givings ports) → Has (net (Output k)) (port_entries i o ports)
output_entry [] i o k le lt = absurd (omega (arith, le, lt))
output_entry (p ∷ ports) i o k le lt =
    output_step p.direction p.width i o k p.name (port_entries (inputs_after p.direction i) (outputs_after p.direction o) ports) (givings ports) le lt
    (λ a b. output_entry ports (inputs_after p.direction i) (outputs_after p.direction o) k a b)

output_port : (ports : List Port) (k : ℕ) → k < length (givings (past_clock ports)) → Has (net (Output k)) (all_ports ports)
output_port [] k l = absurd (omega (arith, l))
output_port (p ∷ ports) k l = has_more (net (Output k)) (record { name = p.name; meaning = clock }) (port_entries 0 0 ports) (output_entry ports 0 0 k (omega arith) (omega (arith, l)))

wire_step : (s : Sort) (w r a k : ℕ) (name : List ℕ) (rest : List Entry) (xs : List ℕ) → w ≤ k → k < w + length (option_to_list (wire_width s) ++ xs) → (wires_after s w ≤ k → k < wires_after s w + length xs → Has (net (Wire k)) rest) → Has (net (Wire k)) (record { name = name; meaning = sort_meaning s w r a } ∷ rest)
wire_step (OfWire v) w r a k name rest xs le lt later =
    elim (cases_lt w k) as (λ _. Has (net (Wire k)) (record { name = name; meaning = net (Wire w) } ∷ rest)) [
      | inl l ↦ has_more (net (Wire k)) (record { name = name; meaning = net (Wire w) }) rest (later (omega (arith, l)) (omega (arith, lt)))
      | inr g ↦ (zero, record { name = name; meaning = net (Wire w) }, refl, ap (λ (z : ℕ). net (Wire z)) (let e : w ≡ k = omega (arith, le, g) in e))
    ]
wire_step (OfReg v) w r a k name rest xs le lt later = has_more (net (Wire k)) (record { name = name; meaning = net (Reg r) }) rest (later le lt)
wire_step (ArrayOf q) w r a k name rest xs le lt later = has_more (net (Wire k)) (record { name = name; meaning = array a }) rest (later le lt)

wire_entry : (ds : List Declaration) (w r a k : ℕ) → w ≤ k → k < w + length (wires_of ds) → Has (net (Wire k)) (declared_entries w r a ds)
wire_entry [] w r a k le lt = absurd (omega (arith, le, lt))
wire_entry (d ∷ ds) w r a k le lt =
    wire_step d.sort w r a k d.name (declared_entries (wires_after d.sort w) (regs_after d.sort r) (arrays_after d.sort a) ds) (wires_of ds) le lt
    (λ x y. wire_entry ds (wires_after d.sort w) (regs_after d.sort r) (arrays_after d.sort a) k x y)

reg_step : (s : Sort) (w r a k : ℕ) (name : List ℕ) (rest : List Entry) (xs : List ℕ) → r ≤ k → k < r + length (option_to_list (reg_width s) ++ xs) → (regs_after s r ≤ k → k < regs_after s r + length xs → Has (net (Reg k)) rest) → Has (net (Reg k)) (record { name = name; meaning = sort_meaning s w r a } ∷ rest)
reg_step (OfWire v) w r a k name rest xs le lt later = has_more (net (Reg k)) (record { name = name; meaning = net (Wire w) }) rest (later le lt)
reg_step (OfReg v) w r a k name rest xs le lt later =
    elim (cases_lt r k) as (λ _. Has (net (Reg k)) (record { name = name; meaning = net (Reg r) } ∷ rest)) [
      | inl l ↦ has_more (net (Reg k)) (record { name = name; meaning = net (Reg r) }) rest (later (omega (arith, l)) (omega (arith, lt)))
      | inr g ↦ (zero, record { name = name; meaning = net (Reg r) }, refl, ap (λ (z : ℕ). net (Reg z)) (let e : r ≡ k = omega (arith, le, g) in e))
    ]
reg_step (ArrayOf q) w r a k name rest xs le lt later = has_more (net (Reg k)) (record { name = name; meaning = array a }) rest (later le lt)

reg_entry : (ds : List Declaration) (w r a k : ℕ) → r ≤ k → k < r + length (regs_of ds) → Has (net (Reg k)) (declared_entries w r a ds)
reg_entry [] w r a k le lt = absurd (omega (arith, le, lt))
reg_entry (d ∷ ds) w r a k le lt =
    reg_step d.sort w r a k d.name (declared_entries (wires_after d.sort w) (regs_after d.sort r) (arrays_after d.sort a) ds) (regs_of ds) le lt
    (λ x y. reg_entry ds (wires_after d.sort w) (regs_after d.sort r) (arrays_after d.sort a) k x y)

array_step : (s : Sort) (w r a k : ℕ) (name : List ℕ) (rest : List Entry) (xs : List Shape) → a ≤ k → k < a + length (option_to_list (array_shape s) ++ xs) → (arrays_after s a ≤ k → k < arrays_after s a + length xs → Has (array k) rest) → Has (array k) (record { name = name; meaning = sort_meaning s w r a } ∷ rest)
array_step (OfWire v) w r a k name rest xs le lt later = has_more (array k) (record { name = name; meaning = net (Wire w) }) rest (later le lt)
array_step (OfReg v) w r a k name rest xs le lt later = has_more (array k) (record { name = name; meaning = net (Reg r) }) rest (later le lt)
array_step (ArrayOf q) w r a k name rest xs le lt later =
    elim (cases_lt a k) as (λ _. Has (array k) (record { name = name; meaning = array a } ∷ rest)) [
      | inl l ↦ has_more (array k) (record { name = name; meaning = array a }) rest (later (omega (arith, l)) (omega (arith, lt)))
      | inr g ↦ (zero, record { name = name; meaning = array a }, refl, ap (λ (z : ℕ). array z) (let e : a ≡ k = omega (arith, le, g) in e))
    ]

array_entry : (ds : List Declaration) (w r a k : ℕ) → a ≤ k → k < a + length (arrays_of ds) → Has (array k) (declared_entries w r a ds)
array_entry [] w r a k le lt = absurd (omega (arith, le, lt))
array_entry (d ∷ ds) w r a k le lt =
    array_step d.sort w r a k d.name (declared_entries (wires_after d.sort w) (regs_after d.sort r) (arrays_after d.sort a) ds) (arrays_of ds) le lt
    (λ x y. array_entry ds (wires_after d.sort w) (regs_after d.sort r) (arrays_after d.sort a) k x y)

-- the constants stay
atom_constants_kept : (scope : List Entry) (a : Atom (List ℕ)) (b : Atom Net) → atom_named scope a ≡ Some b → atom_constants b ≡ atom_constants a
atom_constants_kept scope (atom.Net name) b e = let r = one_part (λ (n : Net). atom.Net n) (net_named scope name) b e in ap (λ (x : Atom Net). atom_constants x) (sym r.2)
atom_constants_kept scope (atom.Constant c) b e = ap (λ (x : Atom Net). atom_constants x) (sym (same_Some (atom.Constant c) b e))

constants_kept : (scope : List Entry) (r : Right (List ℕ) (List ℕ)) (q : Right Net ℕ) → right_named scope r ≡ Some q → constants_of q ≡ constants_of r
constants_kept scope (Copy a) q e = let s = one_part (λ (x : Atom Net). Copy x) (atom_named scope a) q e in ap (λ (x : Right Net ℕ). constants_of x) (sym s.2) ∙ atom_constants_kept scope a s.0 s.1
constants_kept scope (Not a) q e = let s = one_part (λ (x : Atom Net). Not x) (atom_named scope a) q e in ap (λ (x : Right Net ℕ). constants_of x) (sym s.2) ∙ atom_constants_kept scope a s.0 s.1
constants_kept scope (Binary o a b) q e =
    let s = two_parts (λ (x y : Atom Net). Binary o x y) (atom_named scope a) (atom_named scope b) q e in
    ap (λ (x : Right Net ℕ). constants_of x) (sym s.4) ∙ ap (λ (l : List SizedNumber). l ++ atom_constants s.1) (atom_constants_kept scope a s.0 s.2) ∙ ap (λ (l : List SizedNumber). atom_constants a ++ l) (atom_constants_kept scope b s.1 s.3)
constants_kept scope (Choose c a b) q e =
    let s = three_parts (λ (x y z : Atom Net). Choose x y z) (atom_named scope c) (atom_named scope a) (atom_named scope b) q e in
    ap (λ (x : Right Net ℕ). constants_of x) (sym s.6)
    ∙ ap (λ (l : List SizedNumber). l ++ atom_constants s.1 ++ atom_constants s.2) (atom_constants_kept scope c s.0 s.3)
    ∙ ap (λ (l : List SizedNumber). atom_constants c ++ l ++ atom_constants s.2) (atom_constants_kept scope a s.1 s.4)
    ∙ ap (λ (l : List SizedNumber). atom_constants c ++ atom_constants a ++ l) (atom_constants_kept scope b s.2 s.5)
constants_kept scope (Join a b) q e =
    let s = two_parts (λ (x y : Atom Net). Join x y) (atom_named scope a) (atom_named scope b) q e in
    ap (λ (x : Right Net ℕ). constants_of x) (sym s.4) ∙ ap (λ (l : List SizedNumber). l ++ atom_constants s.1) (atom_constants_kept scope a s.0 s.2) ∙ ap (λ (l : List SizedNumber). atom_constants a ++ l) (atom_constants_kept scope b s.1 s.3)
constants_kept scope (Repeat n a) q e = let s = one_part (λ (x : Atom Net). Repeat n x) (atom_named scope a) q e in ap (λ (x : Right Net ℕ). constants_of x) (sym s.2) ∙ atom_constants_kept scope a s.0 s.1
constants_kept scope (Bit v k) q e = let s = one_part (λ (n : Net). Bit n k) (net_named scope v) q e in ap (λ (x : Right Net ℕ). constants_of x) (sym s.2)
constants_kept scope (Slice v h l) q e = let s = one_part (λ (n : Net). Slice n h l) (net_named scope v) q e in ap (λ (x : Right Net ℕ). constants_of x) (sym s.2)
constants_kept scope (Word x i) q e =
    let s = two_parts (λ (y : ℕ) (z : Atom Net). Word y z) (array_named scope x) (atom_named scope i) q e in
    ap (λ (x : Right Net ℕ). constants_of x) (sym s.4) ∙ atom_constants_kept scope i s.1 s.3

all_front : (xs ys : List SizedNumber) → All IsConstant (xs ++ ys) → All IsConstant xs
all_front [] ys h = All-nil IsConstant
all_front (x ∷ xs) ys h = All-cons IsConstant x xs (h 0 x (omega arith)) (all_front xs ys (λ k d l. h (suc k) d (omega (arith, l))))

all_back : (xs ys : List SizedNumber) → All IsConstant (xs ++ ys) → All IsConstant ys
all_back [] ys h = h
all_back (x ∷ xs) ys h = all_back xs ys (λ k d l. h (suc k) d (omega (arith, l)))

module _ (p : Parts) (sizes : SizesFit p) (passes : PassesDrivers p) where
  abbrev m : Netlist
  m = netlist_of_parts p

  abbrev scope : List Entry
  scope = scope_of p

  sound_assign : (a : NamedAssign) → FineAssign p a → All IsConstant (constants_of a.right) → (b : Assign) → assign_named scope a ≡ Some b → AssignIsSound m b
  sound_assign a fine constants b is =
      let same : fine.stands ≡ b = same_Some fine.stands b (sym fine.sorted.0 ∙ is) in
      let r = two_parts (λ (t : Net) (q : Right Net ℕ). let x : Assign = record { target = t; right = q } in x) (net_named scope a.target) (right_named scope a.right) fine.stands fine.sorted.0 in
      let whole : (let x : Assign = record { target = r.0; right = r.1 } in x) ≡ fine.stands = r.4 in
      let declared = right_declared p a.right r.1 r.3 in
      let kept : constants_of r.1 ≡ constants_of a.right = constants_kept scope a.right r.1 r.3 in
      subst (AssignIsSound m) same (record {
        target = fine.sorted.1;
        right = record {
          nets = subst (λ (x : Assign). All (IsDeclared m) (nets_of x.right)) whole declared.0;
          constants = subst (λ (x : Assign). All IsConstant (constants_of x.right)) whole (subst (All IsConstant) (sym kept) constants);
          array = subst (λ (x : Assign). ArrayIsDeclared m x.right) whole declared.1;
          divisor = fine.divisor;
          widths = fine.widths.0;
        };
        width = fine.widths.1;
      })

  reg_is : (o : Option Net) (x : ℕ) → reg_of_net o ≡ Some x → o ≡ Some (Reg x)
  reg_is None x e = absurd (let g : None ≡ Some x = e in cc)
  reg_is (Some (Input i)) x e = absurd (let g : None ≡ Some x = e in cc)
  reg_is (Some (Output i)) x e = absurd (let g : None ≡ Some x = e in cc)
  reg_is (Some (Wire i)) x e = absurd (let g : None ≡ Some x = e in cc)
  reg_is (Some (Reg i)) x e = ap (λ (z : ℕ). Some (Reg z)) (same_Some i x e)

  sound_atom : (a : Atom (List ℕ)) (b : Atom Net) → atom_named scope a ≡ Some b → All IsConstant (atom_constants a) → AtomIsSound m b
  sound_atom a b is constants = record { nets = atom_declared p a b is; constants = subst (All IsConstant) (sym (atom_constants_kept scope a b is)) constants }

  sound_update : (u : NamedUpdate) → FineUpdate p u → All IsConstant (update_constants u) → (v : Update) → update_named scope u ≡ Some v → UpdateIsSound m v
  sound_update (NamedSet n a) fine constants v is =
      let same : fine.stands ≡ v = same_Some fine.stands v (sym fine.sorted ∙ is) in
      let r = two_parts (λ (x : ℕ) (y : Atom Net). Set x y) (reg_of_net (net_named scope n)) (atom_named scope a) fine.stands fine.sorted in
      let fits : UpdateFits m (Set r.0 r.1) = subst (UpdateFits m) (sym r.4) fine.widths in
      subst (UpdateIsSound m) (r.4 ∙ same) (net_declared p n (Reg r.0) (reg_is (net_named scope n) r.0 r.2), sound_atom a r.1 r.3 constants, fits)
  sound_update (NamedPut n i a) fine constants v is =
      let same : fine.stands ≡ v = same_Some fine.stands v (sym fine.sorted ∙ is) in
      let r = three_parts (λ (x : ℕ) (y z : Atom Net). Put x y z) (array_named scope n) (atom_named scope i) (atom_named scope a) fine.stands fine.sorted in
      let fits : UpdateFits m (Put r.0 r.1 r.2) = subst (UpdateFits m) (sym r.6) fine.widths in
      subst (UpdateIsSound m) (r.6 ∙ same)
      (array_declared p n r.0 r.3, sound_atom i r.1 r.4 (all_front (atom_constants i) (atom_constants a) constants), sound_atom a r.2 r.5 (all_back (atom_constants i) (atom_constants a) constants), fits)

  width_kept : (s : Sort) (w : ℕ) → SortFits s → wire_width s ≡ Some w → IsWidth w
  width_kept (OfWire v) w fits e = subst IsWidth (same_Some v w e) fits
  width_kept (OfReg v) w fits e = absurd (let g : None ≡ Some w = e in cc)
  width_kept (ArrayOf q) w fits e = absurd (let g : None ≡ Some w = e in cc)

  reg_width_kept : (s : Sort) (w : ℕ) → SortFits s → reg_width s ≡ Some w → IsWidth w
  reg_width_kept (OfWire v) w fits e = absurd (let g : None ≡ Some w = e in cc)
  reg_width_kept (OfReg v) w fits e = subst IsWidth (same_Some v w e) fits
  reg_width_kept (ArrayOf q) w fits e = absurd (let g : None ≡ Some w = e in cc)

  shape_kept : (s : Sort) (q : Shape) → SortFits s → array_shape s ≡ Some q → IsShape q
  shape_kept (OfWire v) q fits e = absurd (let g : None ≡ Some q = e in cc)
  shape_kept (OfReg v) q fits e = absurd (let g : None ≡ Some q = e in cc)
  shape_kept (ArrayOf r) q fits e = subst IsShape (same_Some r q e) fits

  driver_at : (x : Meaning) → Has x scope → HasDriver m x
  driver_at x h = subst (HasDriver m) h.3 (passes.driven h.0 h.1 h.2)

  driven : (n : Net) → IsDriven m n → HasAssign m n
  driven (Input i) l = absurd l
  driven (Output i) l = driver_at (net (Output i)) (has_left (net (Output i)) (all_ports p.ports.items) (declared_entries 0 0 0 p.declarations.items) (output_port p.ports.items i l))
  driven (Wire i) l = driver_at (net (Wire i)) (has_right (net (Wire i)) (all_ports p.ports.items) (declared_entries 0 0 0 p.declarations.items) (wire_entry p.declarations.items 0 0 0 i (omega arith) (omega (arith, l))))
  driven (Reg i) l = absurd l

  updated : (h : Holder) → IsState m h → HasUpdate m h
  updated (OfNet (Input i)) l = absurd l
  updated (OfNet (Output i)) l = absurd l
  updated (OfNet (Wire i)) l = absurd l
  updated (OfNet (Reg i)) l = driver_at (net (Reg i)) (has_right (net (Reg i)) (all_ports p.ports.items) (declared_entries 0 0 0 p.declarations.items) (reg_entry p.declarations.items 0 0 0 i (omega arith) (omega (arith, l))))
  updated (OfArray x) l = driver_at (array x) (has_right (array x) (all_ports p.ports.items) (declared_entries 0 0 0 p.declarations.items) (array_entry p.declarations.items 0 0 0 x (omega arith) (omega (arith, l))))

  pub rules_kept : IsAcyclic m.assigns → KeepsRules m
  rules_kept acyclic =
      let statements = passes.before.before in
      let ports = statements.before.ports in
      record {
        ports = ports_are p.ports.items ports.enable ports.dins ports.douts ports.din_count ports.dout_count ports.fit;
        wires = collected_all (λ (d : Declaration). wire_width d.sort) IsWidth p.declarations.items (λ k d w at e. width_kept d.sort w (All-at (λ (d : Declaration). SortFits d.sort) p.declarations.items k d sizes.declarations at) e);
        regs = collected_all (λ (d : Declaration). reg_width d.sort) IsWidth p.declarations.items (λ k d w at e. reg_width_kept d.sort w (All-at (λ (d : Declaration). SortFits d.sort) p.declarations.items k d sizes.declarations at) e);
        arrays = collected_all (λ (d : Declaration). array_shape d.sort) IsShape p.declarations.items (λ k d q at e. shape_kept d.sort q (All-at (λ (d : Declaration). SortFits d.sort) p.declarations.items k d sizes.declarations at) e);
        assigns = collected_all (assign_named scope) (AssignIsSound m) p.assigns.items (λ k a b at is. sound_assign a (All-at (FineAssign p) p.assigns.items k a statements.assigns at) (All-at (λ (a : NamedAssign). All IsConstant (constants_of a.right)) p.assigns.items k a sizes.assigns at) b is);
        updates = collected_all (update_named scope) (UpdateIsSound m) p.updates.items (λ k u v at is. sound_update u (All-at (FineUpdate p) p.updates.items k u statements.updates at) (All-at (λ (u : NamedUpdate). All IsConstant (update_constants u)) p.updates.items k u sizes.updates at) v is);
        driven = record { some = driven; one = passes.before.assigns };
        updated = record { some = updated; one = passes.before.updates };
        acyclic = acyclic;
      }
