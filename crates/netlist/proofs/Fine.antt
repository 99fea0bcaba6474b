-- Statements that are good against the nets of parts are fine, and wrong ones are the fault.
use Rattle.std.proofs.Common.{◌≡◌, ℕ, List, ap, subst, sym, ◌∙◌, Some}
use Rattle.std.proofs.Math.Path.{fun_ext}
use Rattle.std.specs.Prelude.{slice_get, slice_index, All, unwrap_or}
use Rattle.std.specs.Option.{option_map}
use Rattle.wiring.specs.declared.right.Right.{Right}
use Rattle.wiring.specs.declared.netlist.Net.{Net}
use Rattle.wiring.specs.declared.netlist.Net.TheVariants.{Input, Output, Wire, Reg}
use Rattle.wiring.specs.declared.netlist.Shape.{Shape}
use Rattle.wiring.specs.declared.netlist.Assign.{Assign}
use Rattle.wiring.specs.declared.netlist.Update.{Update}
use Rattle.wiring.specs.declared.netlist.Update.TheVariants.{Set, Put}
use Rattle.wiring.specs.declared.netlist.Netlist.{Netlist as TheNetlist}
use Rattle.wiring.specs.Rights.{atom_width, right_width, constants_of}
use Rattle.wiring.specs.Netlist.{Netlist, netlist_of, net_width, word_width, IsDeclared, IsDriven}
use Rattle.wiring.specs.Sizes.{IsConstant}
use Rattle.wiring.specs.Rules.{WidthsAgree}
use Rattle.wiring.proofs.Lists.{All-at, All-from_at}
use Rattle.netlist.specs.declared.parts.Parts.{Parts}
use Rattle.netlist.specs.declared.parts.NamedAssign.{NamedAssign}
use Rattle.netlist.specs.declared.parts.NamedUpdate.{NamedUpdate}
use Rattle.netlist.specs.declared.fault.Statement.TheVariants.{Assign as AssignAt, Update as UpdateAt}
use Rattle.netlist.specs.declared.fault.NetError.{NetError}
use Rattle.netlist.specs.declared.fault.NetError.TheVariants.{Fault, OutOfMemory}
use Rattle.netlist.specs.declared.statement.Wrong.{Wrong}
use Rattle.netlist.specs.declared.statement.Wrong.TheVariants.{Unknown, WrongSort, Divisor, Width}
use Rattle.netlist.specs.Scopes.{Entry, scope_of, net_named, right_named, assign_named, update_named, netlist_of_parts, collected, update_constants}
use Rattle.netlist.specs.Faults.{AssignFits, UpdateFits, IsErrorBy}
use Rattle.netlist.specs.Passes.{IsSortedAssign, FineAssign, FineUpdate, FirstWrong, PassesPorts, IsPassFault, UnknownAssign, WrongSortAssign, DivisorAssign, WidthAssign, UnknownUpdate, WrongSortUpdate, WidthUpdate}
use Rattle.netlist.specs.Statements.{IsOfDrivenSort, HasNets, IsGoodAssign, IsGoodUpdate, IsWrongAssign, IsWrongUpdate, IsFirstFault, fault_of}
use Rattle.netlist.proofs.Scoped.{two_parts, net_declared}
use Rattle.netlist.proofs.Resolving.{assign_known, update_known}

-- the first that is wrong is so by weaker words too
first_weaker : {X : Type 0} (Fine Wrong Good Bad : X → Type 0) → ((x : X) → Good x → Fine x) → ((x : X) → Bad x → Wrong x) → (items : List X) (k : ℕ) → FirstWrong Good Bad items k → FirstWrong Fine Wrong items k
first_weaker Fine Wrong Good Bad fine wrong items k f = record { item = f.item; at = f.at; wrong = wrong f.item f.wrong; before = λ j x l at. fine x (f.before j x l at) }

all_weaker : {X : Type 0} (Fine Good : X → Type 0) → ((x : X) → Good x → Fine x) → (items : List X) → All Good items → All Fine items
all_weaker Fine Good fine items all = All-from_at Fine items (λ k x at. fine x (All-at Good items k x all at))

module _ (p : Parts) (w : TheNetlist) (nets : HasNets p w) where
  abbrev m : Netlist
  m = netlist_of_parts p

  abbrev n : Netlist
  n = netlist_of w

  abbrev scope : List Entry
  scope = scope_of p

  net_same : (x : Net) → net_width n x ≡ net_width m x
  net_same (Input i) = ap (λ (l : List ℕ). slice_index l i) nets.inputs
  net_same (Output i) = ap (λ (l : List ℕ). slice_index l i) nets.outputs
  net_same (Wire i) = ap (λ (l : List ℕ). slice_index l i) nets.wires
  net_same (Reg i) = ap (λ (l : List ℕ). slice_index l i) nets.regs

  nets_same : net_width n ≡ net_width m
  nets_same = fun_ext net_same

  words_same : word_width n ≡ word_width m
  words_same = fun_ext (λ a. ap (λ (l : List Shape). unwrap_or (option_map (λ (s : Shape). s.width) (slice_get l a)) 0) nets.arrays)

  abbrev Fits : (Net → ℕ) → (ℕ → ℕ) → Assign → Type 0
  Fits width words b = WidthsAgree width words b.right × (right_width width words b.right ≡ width b.target)

  fits_here : (b : Assign) → AssignFits n b → AssignFits m b
  fits_here b fits = subst (λ (f : Net → ℕ). Fits f (word_width m) b) nets_same (subst (λ (g : ℕ → ℕ). Fits (net_width n) g b) words_same fits)

  fits_there : (b : Assign) → AssignFits m b → AssignFits n b
  fits_there b fits = subst (λ (f : Net → ℕ). Fits f (word_width n) b) (sym nets_same) (subst (λ (g : ℕ → ℕ). Fits (net_width m) g b) (sym words_same) fits)

  update_here : (v : Update) → UpdateFits n v → UpdateFits m v
  update_here (Set r a) fits = subst (λ (f : Net → ℕ). atom_width f a ≡ f (Reg r)) nets_same fits
  update_here (Put x i a) fits = subst (λ (f : Net → ℕ). atom_width f a ≡ word_width m x) nets_same (subst (λ (g : ℕ → ℕ). atom_width (net_width n) a ≡ g x) words_same fits)

  update_there : (v : Update) → UpdateFits m v → UpdateFits n v
  update_there (Set r a) fits = subst (λ (f : Net → ℕ). atom_width f a ≡ f (Reg r)) (sym nets_same) fits
  update_there (Put x i a) fits = subst (λ (f : Net → ℕ). atom_width f a ≡ word_width n x) (sym nets_same) (subst (λ (g : ℕ → ℕ). atom_width (net_width m) a ≡ g x) (sym words_same) fits)

  driven : (x : Net) → IsOfDrivenSort x → IsDeclared m x → IsDriven m x
  driven (Input i) sort declared = absurd sort
  driven (Output i) sort declared = declared
  driven (Wire i) sort declared = declared
  driven (Reg i) sort declared = absurd sort

  of_sort : (x : Net) → IsDriven m x → IsOfDrivenSort x
  of_sort (Input i) d = absurd d
  of_sort (Output i) d = tt
  of_sort (Wire i) d = tt
  of_sort (Reg i) d = absurd d

  sorted : (a : NamedAssign) (b : Assign) → assign_named scope a ≡ Some b → IsOfDrivenSort b.target → IsSortedAssign p a b
  sorted a b named sort =
      let r = two_parts (λ (t : Net) (q : Right Net ℕ). let x : Assign = record { target = t; right = q } in x) (net_named scope a.target) (right_named scope a.right) b named in
      (named, driven b.target sort (subst (λ (x : Assign). IsDeclared m x.target) r.4 (net_declared p a.target r.0 r.2)))

  fine_assign : (a : NamedAssign) → IsGoodAssign scope n a → FineAssign p a
  fine_assign a good = let b = good.0 in record {
    known = assign_known scope a b good.1.named;
    stands = b;
    sorted = sorted a b good.1.named good.1.driven;
    divisor = good.1.divisor;
    widths = fits_here b good.1.fits;
  }

  fine_update : (u : NamedUpdate) → IsGoodUpdate scope n u → FineUpdate p u
  fine_update u good = record {
    known = update_known scope u good.0 good.1.named;
    stands = good.0;
    sorted = good.1.named;
    widths = update_here good.0 good.1.fits;
  }

  sort_assign : (a : NamedAssign) → IsWrongAssign scope n WrongSort a → WrongSortAssign p a
  sort_assign a h = record { known = h.0; wrong = λ b s. h.1 b s.0 (of_sort b.target s.1) }

  divisor_assign : (a : NamedAssign) → IsWrongAssign scope n Divisor a → DivisorAssign p a
  divisor_assign a h = record { known = assign_known scope a h.0 h.1; stands = h.0; sorted = sorted a h.0 h.1 h.2; wrong = h.3 }

  width_assign : (a : NamedAssign) → IsWrongAssign scope n Width a → WidthAssign p a
  width_assign a h = record { known = assign_known scope a h.0 h.1; stands = h.0; sorted = sorted a h.0 h.1 h.2; divisor = h.3; wrong = λ fits. h.4 (fits_there h.0 fits) }

  sort_update : (u : NamedUpdate) → IsWrongUpdate scope n WrongSort u → WrongSortUpdate p u
  sort_update u h = record { known = h.0; wrong = h.1 }

  width_update : (u : NamedUpdate) → IsWrongUpdate scope n Width u → WidthUpdate p u
  width_update u h = record { known = update_known scope u h.0 h.1; stands = h.0; sorted = h.1; wrong = λ fits. h.2 (update_there h.0 fits) }

  pub all_fine : All (IsGoodAssign scope n) p.assigns.items → All (FineAssign p) p.assigns.items
  all_fine good = all_weaker (FineAssign p) (IsGoodAssign scope n) fine_assign p.assigns.items good

  pub updates_fine : All (IsGoodUpdate scope n) p.updates.items → All (FineUpdate p) p.updates.items
  updates_fine good = all_weaker (FineUpdate p) (IsGoodUpdate scope n) fine_update p.updates.items good

  module _ (passes : PassesPorts p) where
    first_assign : (x : Wrong) (k : ℕ) → FirstWrong (IsGoodAssign scope n) (IsWrongAssign scope n x) p.assigns.items k → IsPassFault p (fault_of x (AssignAt k))
    first_assign Unknown k f = (passes, first_weaker (FineAssign p) (UnknownAssign p) (IsGoodAssign scope n) (IsWrongAssign scope n Unknown) fine_assign (λ a h. h) p.assigns.items k f)
    first_assign WrongSort k f = (passes, first_weaker (FineAssign p) (WrongSortAssign p) (IsGoodAssign scope n) (IsWrongAssign scope n WrongSort) fine_assign sort_assign p.assigns.items k f)
    first_assign Divisor k f = (passes, first_weaker (FineAssign p) (DivisorAssign p) (IsGoodAssign scope n) (IsWrongAssign scope n Divisor) fine_assign divisor_assign p.assigns.items k f)
    first_assign Width k f = (passes, first_weaker (FineAssign p) (WidthAssign p) (IsGoodAssign scope n) (IsWrongAssign scope n Width) fine_assign width_assign p.assigns.items k f)

    pub assign_error : (e : NetError) → IsErrorBy (IsFirstFault (IsGoodAssign scope n) (IsWrongAssign scope n) (λ k. AssignAt k) p.assigns.items) e → IsErrorBy (IsPassFault p) e
    assign_error OutOfMemory h = tt
    assign_error (Fault f) h = subst (IsPassFault p) (sym h.fault) (first_assign h.wrong h.place h.first)

    module _ (assigns : All (FineAssign p) p.assigns.items) where
      first_update : (x : Wrong) (k : ℕ) → FirstWrong (IsGoodUpdate scope n) (IsWrongUpdate scope n x) p.updates.items k → IsPassFault p (fault_of x (UpdateAt k))
      first_update Unknown k f = (passes, (assigns, first_weaker (FineUpdate p) (UnknownUpdate p) (IsGoodUpdate scope n) (IsWrongUpdate scope n Unknown) fine_update (λ u h. h) p.updates.items k f))
      first_update WrongSort k f = (passes, (assigns, first_weaker (FineUpdate p) (WrongSortUpdate p) (IsGoodUpdate scope n) (IsWrongUpdate scope n WrongSort) fine_update sort_update p.updates.items k f))
      first_update Divisor k f = absurd f.wrong
      first_update Width k f = (passes, (assigns, first_weaker (FineUpdate p) (WidthUpdate p) (IsGoodUpdate scope n) (IsWrongUpdate scope n Width) fine_update width_update p.updates.items k f))

      pub update_error : (e : NetError) → IsErrorBy (IsFirstFault (IsGoodUpdate scope n) (IsWrongUpdate scope n) (λ k. UpdateAt k) p.updates.items) e → IsErrorBy (IsPassFault p) e
      update_error OutOfMemory h = tt
      update_error (Fault f) h = subst (IsPassFault p) (sym h.fault) (first_update h.wrong h.place h.first)

  -- the same of the slices and the scope that a call is given
  module _ (s : List Entry) (same_scope : s ≡ scope_of p) where
    module _ (xs : List NamedAssign) (same : xs ≡ p.assigns.items) where
      pub assigns_error : PassesPorts p → (e : NetError) → IsErrorBy (IsFirstFault (IsGoodAssign s n) (IsWrongAssign s n) (λ k. AssignAt k) xs) e → IsErrorBy (IsPassFault p) e
      assigns_error passes e h =
          assign_error passes e
          (subst (λ (l : List NamedAssign). IsErrorBy (IsFirstFault (IsGoodAssign scope n) (IsWrongAssign scope n) (λ k. AssignAt k) l) e) same
          (subst (λ (x : List Entry). IsErrorBy (IsFirstFault (IsGoodAssign x n) (IsWrongAssign x n) (λ k. AssignAt k) xs) e) same_scope h))

      good_here : All (IsGoodAssign s n) xs → All (IsGoodAssign scope n) p.assigns.items
      good_here good = subst (λ (l : List NamedAssign). All (IsGoodAssign scope n) l) same (subst (λ (x : List Entry). All (IsGoodAssign x n) xs) same_scope good)

      pub assigns_fine : All (IsGoodAssign s n) xs → All (FineAssign p) p.assigns.items
      assigns_fine good = all_fine (good_here good)

      pub assigns_sized : All (IsGoodAssign s n) xs → All (λ (a : NamedAssign). All IsConstant (constants_of a.right)) p.assigns.items
      assigns_sized good = all_weaker (λ (a : NamedAssign). All IsConstant (constants_of a.right)) (IsGoodAssign scope n) (λ a g. g.1.constants) p.assigns.items (good_here good)

      pub assigns_made : (bs : List Assign) → bs ≡ collected (assign_named s) xs → bs ≡ m.assigns
      assigns_made bs e = e ∙ ap (λ (x : List Entry). collected (assign_named x) xs) same_scope ∙ ap (λ (l : List NamedAssign). collected (assign_named scope) l) same

    module _ (us : List NamedUpdate) (same : us ≡ p.updates.items) where
      pub updates_error : PassesPorts p → All (FineAssign p) p.assigns.items → (e : NetError) → IsErrorBy (IsFirstFault (IsGoodUpdate s n) (IsWrongUpdate s n) (λ k. UpdateAt k) us) e → IsErrorBy (IsPassFault p) e
      updates_error passes assigns e h =
          update_error passes assigns e
          (subst (λ (l : List NamedUpdate). IsErrorBy (IsFirstFault (IsGoodUpdate scope n) (IsWrongUpdate scope n) (λ k. UpdateAt k) l) e) same
          (subst (λ (x : List Entry). IsErrorBy (IsFirstFault (IsGoodUpdate x n) (IsWrongUpdate x n) (λ k. UpdateAt k) us) e) same_scope h))

      good_there : All (IsGoodUpdate s n) us → All (IsGoodUpdate scope n) p.updates.items
      good_there good = subst (λ (l : List NamedUpdate). All (IsGoodUpdate scope n) l) same (subst (λ (x : List Entry). All (IsGoodUpdate x n) us) same_scope good)

      pub all_updates_fine : All (IsGoodUpdate s n) us → All (FineUpdate p) p.updates.items
      all_updates_fine good = updates_fine (good_there good)

      pub updates_sized : All (IsGoodUpdate s n) us → All (λ (u : NamedUpdate). All IsConstant (update_constants u)) p.updates.items
      updates_sized good = all_weaker (λ (u : NamedUpdate). All IsConstant (update_constants u)) (IsGoodUpdate scope n) (λ u g. g.1.constants) p.updates.items (good_there good)

      pub updates_made : (vs : List Update) → vs ≡ collected (update_named s) us → vs ≡ m.updates
      updates_made vs e = e ∙ ap (λ (x : List Entry). collected (update_named x) us) same_scope ∙ ap (λ (l : List NamedUpdate). collected (update_named scope) l) same
