-- The sums of lines in order are those of the flow whose lines they are.
use Rattle.std.proofs.Common.{◌≡◌, ◌∙◌, ℕ, pos, zero, suc, List, [], ◌∷◌, length, cond, eqb, ltb, refl, sym, ap, arith}
use Rattle.std.specs.Prelude.{All, ◌+ℤ◌, ◌*ℤ◌}
use Rattle.std.proofs.lemmas.Int.{ints}
use Rattle.std.proofs.lemmas.Bool.Decides.{nat_tests}
use Rattle.std.proofs.lemmas.List.Elements.{recursion_from_All}
use Rattle.raster_delay.specs.Network.{inflow, outflow, worth}
use Rattle.raster_delay.specs.Systems.{System, IsSystem, constraints_in}
use Rattle.raster_delay.specs.declared.network.Constraint.{Constraint}
use Rattle.report_text.specs.declared.report.FlowLine.{FlowLine}
use Rattle.report_text.specs.Reports.{Ascend}
use Rattle.plan_check.specs.Flows.{makers, carried, carrying, amount_of}
use Rattle.plan_check.specs.Holding.{HasConstraint, FlowHolds}
use Rattle.plan_check.specs.Sums.{SumsHold, constraint_of, carriers, amounts}
use Rattle.plan_check.proofs.Flowing.{inflow_cons, outflow_cons}
use Rattle.plan_check.proofs.Carried.{Maker, Make, all_made, in_same, out_same, worth_same, times_none, above}
use Rattle.plan_check.proofs.Filling.{fill, fill_length, fill_lines, placed_all}
use Rattle.plan_check.proofs.Least.{balanced_at}

module _ (s : System) where
  -- lines of 0 add nothing
  in_one : (v : ℕ) (x : FlowLine) (xs : List FlowLine) (n : ℕ) → amount_of x ≡ n → inflow (carriers s (carrying xs)) (amounts (carrying xs)) v ≡ inflow (carriers s xs) (amounts xs) v
      → inflow (carriers s (carrying (x ∷ xs))) (amounts (carrying (x ∷ xs))) v ≡ inflow (carriers s (x ∷ xs)) (amounts (x ∷ xs)) v
  in_one v x xs zero e rest =
      let none : cond (eqb (constraint_of s x).target v) (amount_of x) 0 ≡ 0 = grind (arith, nat_tests, e) in
      ap (λ a. let ys = cond (ltb 0 a) (x ∷ carrying xs) (carrying xs) in inflow (carriers s ys) (amounts ys) v) e ∙ omega (arith, inflow_cons s v x xs, rest, none)
  in_one v x xs (suc n) e rest =
      ap (λ b. let ys = cond b (x ∷ carrying xs) (carrying xs) in inflow (carriers s ys) (amounts ys) v) (above (amount_of x) n e) ∙ omega (arith, inflow_cons s v x xs, inflow_cons s v x (carrying xs), rest)

  in_carrying : (xs : List FlowLine) (v : ℕ) → inflow (carriers s (carrying xs)) (amounts (carrying xs)) v ≡ inflow (carriers s xs) (amounts xs) v
  in_carrying [] v = refl
  in_carrying (x ∷ xs) v = in_one v x xs (amount_of x) refl (in_carrying xs v)

  out_one : (v : ℕ) (x : FlowLine) (xs : List FlowLine) (n : ℕ) → amount_of x ≡ n → outflow (carriers s (carrying xs)) (amounts (carrying xs)) v ≡ outflow (carriers s xs) (amounts xs) v
      → outflow (carriers s (carrying (x ∷ xs))) (amounts (carrying (x ∷ xs))) v ≡ outflow (carriers s (x ∷ xs)) (amounts (x ∷ xs)) v
  out_one v x xs zero e rest =
      let none : cond (eqb (constraint_of s x).source v) (amount_of x) 0 ≡ 0 = grind (arith, nat_tests, e) in
      ap (λ a. let ys = cond (ltb 0 a) (x ∷ carrying xs) (carrying xs) in outflow (carriers s ys) (amounts ys) v) e ∙ omega (arith, outflow_cons s v x xs, rest, none)
  out_one v x xs (suc n) e rest =
      ap (λ b. let ys = cond b (x ∷ carrying xs) (carrying xs) in outflow (carriers s ys) (amounts ys) v) (above (amount_of x) n e) ∙ omega (arith, outflow_cons s v x xs, outflow_cons s v x (carrying xs), rest)

  out_carrying : (xs : List FlowLine) (v : ℕ) → outflow (carriers s (carrying xs)) (amounts (carrying xs)) v ≡ outflow (carriers s xs) (amounts xs) v
  out_carrying [] v = refl
  out_carrying (x ∷ xs) v = out_one v x xs (amount_of x) refl (out_carrying xs v)

  worth_one : (x : FlowLine) (xs : List FlowLine) (n : ℕ) → amount_of x ≡ n → worth (carriers s (carrying xs)) (amounts (carrying xs)) ≡ worth (carriers s xs) (amounts xs)
      → worth (carriers s (carrying (x ∷ xs))) (amounts (carrying (x ∷ xs))) ≡ worth (carriers s (x ∷ xs)) (amounts (x ∷ xs))
  worth_one x xs zero e rest =
      let none : (constraint_of s x).cost *ℤ pos (amount_of x) ≡ pos 0 = ap (λ a. (constraint_of s x).cost *ℤ pos a) e ∙ times_none s (constraint_of s x).cost in
      ap (λ a. let ys = cond (ltb 0 a) (x ∷ carrying xs) (carrying xs) in worth (carriers s ys) (amounts ys)) e ∙ omega (arith, ints, rest, none)
  worth_one x xs (suc n) e rest =
      ap (λ b. let ys = cond b (x ∷ carrying xs) (carrying xs) in worth (carriers s ys) (amounts ys)) (above (amount_of x) n e)
      ∙ ap (λ w. (constraint_of s x).cost *ℤ pos (amount_of x) +ℤ w) rest

  worth_carrying : (xs : List FlowLine) → worth (carriers s (carrying xs)) (amounts (carrying xs)) ≡ worth (carriers s xs) (amounts xs)
  worth_carrying [] = refl
  worth_carrying (x ∷ xs) = worth_one x xs (amount_of x) refl (worth_carrying xs)

  module _ (lines : List FlowLine) (flow : List ℕ) (same : carrying lines ≡ carried (makers s) flow) where
    all_in : (v : ℕ) → inflow (carriers s lines) (amounts lines) v ≡ inflow (constraints_in s) flow v
    all_in v = sym (in_carrying lines v) ∙ (ap (λ xs. inflow (carriers s xs) (amounts xs) v) same ∙ in_same s (makers s) (constraints_in s) flow v (all_made s))

    all_out : (v : ℕ) → outflow (carriers s lines) (amounts lines) v ≡ outflow (constraints_in s) flow v
    all_out v = sym (out_carrying lines v) ∙ (ap (λ xs. outflow (carriers s xs) (amounts xs) v) same ∙ out_same s (makers s) (constraints_in s) flow v (all_made s))

    all_worth : worth (carriers s lines) (amounts lines) ≡ worth (constraints_in s) flow
    all_worth = sym (worth_carrying lines) ∙ (ap (λ xs. worth (carriers s xs) (amounts xs)) same ∙ worth_same s (makers s) (constraints_in s) flow (all_made s))

  pub sums_of_flow : (lines : List FlowLine) (bits : ℕ) → FlowHolds s lines bits → SumsHold s lines bits
  sums_of_flow lines bits h = record {
    balanced = λ v below. omega (arith, ints, all_in lines h.flow h.lines_are v, all_out lines h.flow h.lines_are v, h.balanced.balanced v);
    worth_is = all_worth lines h.flow h.lines_are ∙ h.worth_is;
  }

  make_length : (ms : List Maker) (cs : List Constraint) → Make s ms cs → length ms ≡ length cs
  make_length [] [] h = refl
  make_length [] (c ∷ cs) h = absurd h
  make_length (m ∷ ms) [] h = absurd h
  make_length (m ∷ ms) (c ∷ cs) h = ap suc (make_length ms cs h.1)

  pub flow_of_sums : IsSystem s → (lines : List FlowLine) (bits : ℕ) → All (HasConstraint s) lines → Ascend lines → SumsHold s lines bits → FlowHolds s lines bits
  flow_of_sums is lines bits has up h =
      let placed = placed_all s is lines (recursion_from_All (HasConstraint s) lines has) up in
      let flow = fill (makers s) lines placed in
      let same = fill_lines (makers s) lines placed in
      record {
        flow = flow;
        lines_are = same;
        balanced = record {
          one_each = fill_length (makers s) lines placed ∙ make_length (makers s) (constraints_in s) (all_made s);
          balanced = λ v. omega (arith, ints, all_in lines flow same v, all_out lines flow same v, balanced_at s is lines has bits h v);
        };
        worth_is = sym (all_worth lines flow same) ∙ h.worth_is;
      }
