-- Scopes and nets that grow with ports and declarations.
use Rattle.std.proofs.Common.{◌≡◌, ℕ, zero, suc, ◌+◌, ◌<◌, ◌≤◌, append_assoc, List, [], ◌∷◌, ◌++◌, length, drop, refl, ap, subst, sym, ◌∙◌, arith, Some}
use Rattle.std.specs.Prelude.{slice_get, Result, Ok, Err, IfErr, IsErrAnd}
use Rattle.std.proofs.lemmas.List.{map-append}
use Rattle.std.proofs.lemmas.Option.{slice_get_within, same_Some}
use Rattle.wiring.specs.Tables.{IsSecond}
use Rattle.wiring.proofs.Lists.{slice_get-append}
use Rattle.netlist.specs.declared.parts.Parts.{Parts}
use Rattle.netlist.specs.declared.parts.Port.{Port}
use Rattle.netlist.specs.declared.parts.Declaration.{Declaration}
use Rattle.netlist.specs.declared.parts.Sort.{Sort}
use Rattle.netlist.specs.declared.parts.Sort.TheVariants.{Wire as OfWire, Reg as OfReg, Array as OfArray}
use Rattle.netlist.specs.declared.fault.Declared.TheVariants.{Port as PortAt, Declaration as DeclarationAt}
use Rattle.netlist.specs.declared.fault.NetError.{NetError}
use Rattle.netlist.specs.declared.fault.NetError.TheVariants.{Fault, OutOfMemory}
use Rattle.netlist.specs.Scopes.{Meaning, Entry, port_meaning, inputs_after, outputs_after, port_entries, sort_meaning, wires_after, regs_after, arrays_after, declared_entries, all_ports, scope_of}
use Rattle.netlist.specs.Names.{AreDistinct}
use Rattle.netlist.specs.Faults.{IsErrorBy}
use Rattle.netlist.specs.Passes.{entry_names, NamesDiffer, IsPassFault}
use Rattle.netlist.specs.Entries.{names_in, IsRepeat, IsTaken, IsSecondPort, IsSecondDeclaration}

-- the list from the item at k on
pub drop_at : {X : Type 0} (xs : List X) (k : ℕ) (x : X) → slice_get xs k ≡ Some x → drop k xs ≡ x ∷ drop (suc k) xs
drop_at [] k x e = absurd (omega (arith, slice_get_within [] k x e))
drop_at (y ∷ xs) zero x e = ap (λ z. z ∷ xs) (same_Some y x e)
drop_at (y ∷ xs) (suc k) x e = drop_at xs k x e

front : {X : Type 0} (xs ys : List X) (i : ℕ) (x : X) → i < length xs → slice_get (xs ++ ys) i ≡ Some x → slice_get xs i ≡ Some x
front [] ys i x l e = absurd (omega (arith, l))
front (y ∷ xs) ys zero x l e = e
front (y ∷ xs) ys (suc i) x l e = front xs ys i x (omega (arith, l)) e

second_more : {X T : Type 0} (target : X → T) (xs ys : List X) (k : ℕ) → k < length xs → IsSecond target xs k → IsSecond target (xs ++ ys) k
second_more target xs ys k l s = record {
  before = λ i j x y li lj at_i at_j same. s.before i j x y li lj (front xs ys i x (omega (arith, li, l)) at_i) (front xs ys j y (omega (arith, lj, l)) at_j) same;
  earlier = s.earlier;
  first = s.first;
  second = s.second;
  order = s.order;
  first_at = slice_get-append xs ys s.earlier s.first s.first_at;
  second_at = slice_get-append xs ys k s.second s.second_at;
  same = s.same;
}

names_length : (scope : List Entry) → length (names_in scope) ≡ length scope
names_length [] = refl
names_length (e ∷ scope) = ap suc (names_length scope)

-- a name that is there already is a repeat among all names, whatever follows
pub repeats : (scope rest whole : List Entry) (e : Entry) → scope ++ (e ∷ rest) ≡ whole → IsRepeat (names_in scope ++ e.name ∷ []) (length scope) → IsRepeat (names_in whole) (length scope)
repeats scope rest whole e is s =
    let split : names_in whole ≡ (names_in scope ++ e.name ∷ []) ++ names_in rest =
    ap names_in (sym is) ∙ map-append (λ (b : Entry). b.name) scope (e ∷ rest) ∙ sym (append_assoc (names_in scope) (e.name ∷ []) (names_in rest)) in
    let room : length scope < length (names_in scope ++ e.name ∷ []) = omega (arith, names_length scope, length_push (names_in scope) e.name) in
    subst (λ (l : List (List ℕ)). IsRepeat l (length scope)) (sym split) (second_more (λ (n : List ℕ). n) (names_in scope ++ e.name ∷ []) (names_in rest) (length scope) room s)
  where
    length_push : (xs : List (List ℕ)) (x : List ℕ) → length (xs ++ x ∷ []) ≡ suc (length xs)
    length_push [] x = refl
    length_push (y ∷ xs) x = ap suc (length_push xs x)

-- one entry more
pub grows : (scope new rest whole : List Entry) (e : Entry) → scope ++ (e ∷ rest) ≡ whole → new ≡ scope ++ e ∷ [] → new ++ rest ≡ whole
grows scope new rest whole e is more = ap (λ (l : List Entry). l ++ rest) more ∙ append_assoc scope (e ∷ []) rest ∙ is

module _ (ports : List Port) (k i o : ℕ) (q : Port) (at : slice_get ports k ≡ Some q) where
  abbrev port_entry : Entry
  port_entry = record { name = q.name; meaning = port_meaning q.direction i o }

  abbrev later_ports : List Entry
  later_ports = port_entries (inputs_after q.direction i) (outputs_after q.direction o) (drop (suc k) ports)

  pub ports_at : port_entries i o (drop k ports) ≡ port_entry ∷ later_ports
  ports_at = ap (λ (l : List Port). port_entries i o l) (drop_at ports k q at)

module _ (ds : List Declaration) (k w r a : ℕ) (d : Declaration) (at : slice_get ds k ≡ Some d) where
  abbrev declared_entry : Entry
  declared_entry = record { name = d.name; meaning = sort_meaning d.sort w r a }

  abbrev later_entries : List Entry
  later_entries = declared_entries (wires_after d.sort w) (regs_after d.sort r) (arrays_after d.sort a) (drop (suc k) ds)

  pub entries_at : declared_entries w r a (drop k ds) ≡ declared_entry ∷ later_entries
  entries_at = ap (λ (l : List Declaration). declared_entries w r a l) (drop_at ds k d at)

-- what a `?` on the function's own error returns
pub if_err : {T E : Type 0} (P : E → Type 0) (r : Result T E) (e : E) → IsErrAnd r (λ y. y ≡ e) → P e → IfErr r P
if_err P (Ok x) e is h = tt
if_err P (Err y) e is h = subst P (sym is) h

module _ (scope whole : List Entry) (n : List ℕ) where
  pub port_taken : (ports : List Port) (k i o : ℕ) (q : Port) → slice_get ports k ≡ Some q → n ≡ q.name → scope ++ port_entries i o (drop k ports) ≡ whole → length scope ≡ 1 + k
      → (e : NetError) → IsErrorBy (IsTaken scope n (PortAt (k + 1))) e → IsErrorBy (IsSecondPort (names_in whole) (1 + length ports)) e
  port_taken ports k i o q at named is size OutOfMemory t = tt
  port_taken ports k i o q at named is size (Fault f) t =
      let split : scope ++ (port_entry ports k i o q at ∷ later_ports ports k i o q at) ≡ whole = ap (λ (l : List Entry). scope ++ l) (sym (ports_at ports k i o q at)) ∙ is in
      let place : length scope ≡ k + 1 = omega (arith, size) in
      let l = slice_get_within ports k q at in
      record {
        place = k + 1;
        within = omega (arith, l);
        fault = t.0;
        is_repeat = subst (IsRepeat (names_in whole)) place (repeats scope (later_ports ports k i o q at) whole (port_entry ports k i o q at) split (subst (λ (x : List ℕ). IsRepeat (names_in scope ++ x ∷ []) (length scope)) named t.1));
      }

  pub declaration_taken : (ds : List Declaration) (before k w r a : ℕ) (d : Declaration) → slice_get ds k ≡ Some d → n ≡ d.name → scope ++ declared_entries w r a (drop k ds) ≡ whole → length scope ≡ before + k
      → (e : NetError) → IsErrorBy (IsTaken scope n (DeclarationAt k)) e → IsErrorBy (IsSecondDeclaration (names_in whole) before) e
  declaration_taken ds before k w r a d at named is size OutOfMemory t = tt
  declaration_taken ds before k w r a d at named is size (Fault f) t =
      let split : scope ++ (declared_entry ds k w r a d at ∷ later_entries ds k w r a d at) ≡ whole = ap (λ (l : List Entry). scope ++ l) (sym (entries_at ds k w r a d at)) ∙ is in
      record {
        place = k;
        fault = t.0;
        is_repeat = subst (IsRepeat (names_in whole)) size (repeats scope (later_entries ds k w r a d at) whole (declared_entry ds k w r a d at) split (subst (λ (x : List ℕ). IsRepeat (names_in scope ++ x ∷ []) (length scope)) named t.1));
      }

-- one declaration more
pub declaration_grows : (scope new whole : List Entry) (n : List ℕ) (x : Meaning) (ds : List Declaration) (k w r a nw nr na : ℕ) (d : Declaration) → slice_get ds k ≡ Some d → n ≡ d.name → x ≡ sort_meaning d.sort w r a
    → nw ≡ wires_after d.sort w → nr ≡ regs_after d.sort r → na ≡ arrays_after d.sort a
    → scope ++ declared_entries w r a (drop k ds) ≡ whole → new ≡ scope ++ (record { name = n; meaning = x }) ∷ [] → new ++ declared_entries nw nr na (drop (k + 1) ds) ≡ whole
declaration_grows scope new whole n x ds k w r a nw nr na d at named means ew er ea is more =
    let split : scope ++ (declared_entry ds k w r a d at ∷ later_entries ds k w r a d at) ≡ whole = ap (λ (l : List Entry). scope ++ l) (sym (entries_at ds k w r a d at)) ∙ is in
    let entry : (let e : Entry = record { name = n; meaning = x } in e) ≡ declared_entry ds k w r a d at = ap (λ (m : List ℕ). let e : Entry = record { name = m; meaning = x } in e) named ∙ ap (λ (y : Meaning). let e : Entry = record { name = d.name; meaning = y } in e) means in
    let rest : declared_entries nw nr na (drop (suc k) ds) ≡ later_entries ds k w r a d at =
    ap (λ (z : ℕ). declared_entries z nr na (drop (suc k) ds)) ew ∙ ap (λ (z : ℕ). declared_entries (wires_after d.sort w) z na (drop (suc k) ds)) er ∙ ap (λ (z : ℕ). declared_entries (wires_after d.sort w) (regs_after d.sort r) z (drop (suc k) ds)) ea in
    ap (λ (z : ℕ). new ++ declared_entries nw nr na (drop z ds)) (let e : k + 1 ≡ suc k = omega arith in e)
    ∙ ap (λ (l : List Entry). new ++ l) rest
    ∙ grows scope new (later_entries ds k w r a d at) whole (declared_entry ds k w r a d at) split (more ∙ ap (λ (e : Entry). scope ++ e ∷ []) entry)

pub length_grows : (scope new : List Entry) (e : Entry) (before k : ℕ) → new ≡ scope ++ e ∷ [] → length scope ≡ before + k → length new ≡ before + (k + 1)
length_grows scope new e before k more size = ap length more ∙ push scope ∙ (let f : suc (length scope) ≡ before + (k + 1) = omega (arith, size) in f)
  where
    push : (s : List Entry) → length (s ++ e ∷ []) ≡ suc (length s)
    push [] = refl
    push (x ∷ s) = ap suc (push s)

-- counts rise by one at most
pub wires_few : (s : Sort) (w n k : ℕ) → n ≡ wires_after s w → w ≤ k → n ≤ k + 1
wires_few (OfWire v) w n k e l = omega (arith, e, l)
wires_few (OfReg v) w n k e l = omega (arith, e, l)
wires_few (OfArray q) w n k e l = omega (arith, e, l)

pub regs_few : (s : Sort) (w n k : ℕ) → n ≡ regs_after s w → w ≤ k → n ≤ k + 1
regs_few (OfWire v) w n k e l = omega (arith, e, l)
regs_few (OfReg v) w n k e l = omega (arith, e, l)
regs_few (OfArray q) w n k e l = omega (arith, e, l)

pub arrays_few : (s : Sort) (w n k : ℕ) → n ≡ arrays_after s w → w ≤ k → n ≤ k + 1
arrays_few (OfWire v) w n k e l = omega (arith, e, l)
arrays_few (OfReg v) w n k e l = omega (arith, e, l)
arrays_few (OfArray q) w n k e l = omega (arith, e, l)

entries_length : (i o : ℕ) (ports : List Port) → length (port_entries i o ports) ≡ length ports
entries_length i o [] = refl
entries_length i o (q ∷ ports) = ap suc (entries_length (inputs_after q.direction i) (outputs_after q.direction o) ports)

ports_length : (ports : List Port) → length (all_ports ports) ≡ length ports
ports_length [] = refl
ports_length (q ∷ ports) = ap suc (entries_length 0 0 ports)

module _ (p : Parts) where
  abbrev declared : List Entry
  declared = declared_entries 0 0 0 p.declarations.items

  all_names : entry_names p ≡ names_in (all_ports p.ports.items) ++ names_in declared
  all_names = map-append (λ (e : Entry). e.name) (all_ports p.ports.items) declared

  first_port_error : (e : NetError) → IsErrorBy (IsSecondPort (names_in (all_ports p.ports.items)) (length p.ports.items)) e → IsErrorBy (IsPassFault p) e
  first_port_error OutOfMemory s = tt
  first_port_error (Fault f) s =
      let room : s.place < length (names_in (all_ports p.ports.items)) = omega (arith, s.within, names_length (all_ports p.ports.items), ports_length p.ports.items) in
      let among : IsRepeat (entry_names p) s.place = subst (λ (l : List (List ℕ)). IsRepeat l s.place) (sym all_names) (second_more (λ (n : List ℕ). n) (names_in (all_ports p.ports.items)) (names_in declared) s.place room s.is_repeat) in
      subst (IsPassFault p) (sym s.fault) (s.place, (s.within, refl), among)

  pub port_error : (ports : List Port) → ports ≡ p.ports.items → (e : NetError) → IsErrorBy (IsSecondPort (names_in (all_ports ports)) (length ports)) e → IsErrorBy (IsPassFault p) e
  port_error ports same e h = first_port_error e (subst (λ (l : List Port). IsErrorBy (IsSecondPort (names_in (all_ports l)) (length l)) e) same h)

  first_declaration_error : (scope : List Entry) (e : NetError) → scope ≡ all_ports p.ports.items → IsErrorBy (IsSecondDeclaration (names_in (scope ++ declared)) (length scope)) e → IsErrorBy (IsPassFault p) e
  first_declaration_error scope OutOfMemory is s = tt
  first_declaration_error scope (Fault f) is s =
      let size : length scope ≡ length p.ports.items = ap length is ∙ ports_length p.ports.items in
      let among : IsRepeat (entry_names p) (length scope + s.place) = subst (λ (l : List Entry). IsRepeat (names_in (l ++ declared)) (length scope + s.place)) is s.is_repeat in
      subst (IsPassFault p) (sym s.fault) (length scope + s.place, (let e : length p.ports.items + s.place ≡ length scope + s.place = omega (arith, size) in e), among)

  module _ (ports : List Port) (same_ports : ports ≡ p.ports.items) (ds : List Declaration) (same_declarations : ds ≡ p.declarations.items) (scope : List Entry) (is : scope ≡ all_ports ports) where
    pub declaration_error : (e : NetError) → IsErrorBy (IsSecondDeclaration (names_in (scope ++ declared_entries 0 0 0 ds)) (length scope)) e → IsErrorBy (IsPassFault p) e
    declaration_error e h = first_declaration_error scope e (is ∙ ap all_ports same_ports) (subst (λ (l : List Declaration). IsErrorBy (IsSecondDeclaration (names_in (scope ++ declared_entries 0 0 0 l)) (length scope)) e) same_declarations h)

    pub scope_whole : (new : List Entry) → new ≡ scope ++ declared_entries 0 0 0 ds → new ≡ scope_of p
    scope_whole new more = more ∙ ap (λ (l : List Declaration). scope ++ declared_entries 0 0 0 l) same_declarations ∙ ap (λ (l : List Entry). l ++ declared) (is ∙ ap all_ports same_ports)

  pub all_differ : (scope : List Entry) → scope ≡ scope_of p → AreDistinct (names_in scope) → NamesDiffer p
  all_differ scope is differ = subst (λ (l : List Entry). AreDistinct (names_in l)) is differ
