-- A text that is held in memory has room for the parts that it describes.
use Rattle.std.proofs.Common.{◌≡◌, ℕ, suc, ◌+◌, ◌≤◌, List, [], ◌∷◌, ◌++◌, length, refl, sym, ap, ◌∙◌, subst, arith, codes}
use Rattle.std.specs.Prelude.{map}
use Rattle.std.specs.Global.{Vec}
use Rattle.std.proofs.lemmas.List.{length-append, length-map}
use Rattle.wiring.specs.declared.netlist.Update.{Update}
use Rattle.wiring.specs.declared.netlist.Update.TheVariants.{Set, Put}
use Rattle.wiring.specs.Rules.{KeepsRules}
use Rattle.netlist.specs.declared.parts.Parts.{Parts}
use Rattle.netlist.specs.declared.parts.Direction.{Direction}
use Rattle.netlist.specs.declared.parts.Direction.TheVariants.{Input as Takes, Output as Gives}
use Rattle.netlist.specs.declared.parts.Sort.{Sort}
use Rattle.netlist.specs.Names.{NamedNetlist, HasNames, all_inputs, all_outputs}
use Rattle.verilog_text.specs.Grammar.{Source}
use Rattle.verilog_text.specs.Stands.{StandsFor}
use Rattle.verilog_layout.specs.Layout.{each, each_at, input_layout, output_layout, net_line, array_line, assign_layout, update_layout, head_layout, declarations_layout, block_head, block_layout, layout}
use Rattle.verilog_layout.proofs.Named.{named_assign, named_update, named_ports, ports_of, named_sorts, wire_declarations, reg_declarations, array_declarations, declarations_of, IsSourceOf}
use Rattle.verilog_layout.proofs.Made.{is_module_of}

-- a list of this many items, where a text of this length is held
vec_beside : {X Y : Type 0} (v : Vec Y) (xs : List X) → length xs ≤ length v.items → Vec X
vec_beside v xs l = record {
  ptr = v.ptr;
  len = length xs;
  cap = length xs;
  alloc = v.alloc;
  items = xs;
  ok = (refl, omega arith);
  small = (let a = v.ok.0 in let b = v.ok.1 in let c = v.small in omega (arith, l, a, b, c));
}

each_long : {X : Type 0} (f : X → List ℕ) (xs : List X) → ((x : X) → 1 ≤ length (f x)) → length xs ≤ length (each f xs)
each_long f [] h = omega arith
each_long f (x ∷ xs) h = let a = h x in let b = each_long f xs h in let c = length-append (f x) (each f xs) in omega (arith, a, b, c)

each_at_long : {X : Type 0} (f : ℕ → X → List ℕ) (k : ℕ) (xs : List X) → ((k : ℕ) (x : X) → 1 ≤ length (f k x)) → length xs ≤ length (each_at f k xs)
each_at_long f k [] h = omega arith
each_at_long f k (x ∷ xs) h =
    let a = h k x in let b = each_at_long f (suc k) xs h in let c = length-append (f k x) (each_at f (suc k) xs) in omega (arith, a, b, c)

module _ (m : NamedNetlist) where
  ports_long : suc (length m.netlist.inputs + length m.netlist.outputs) ≤ length (head_layout m)
  ports_long =
      let is = each_at (input_layout m.netlist.enable) 0 m.netlist.inputs in
      let os = each_at (λ k w. output_layout k w) 0 m.netlist.outputs in
      let i = each_at_long (input_layout m.netlist.enable) 0 m.netlist.inputs (λ k x. omega arith) in
      let o = each_at_long (λ k w. output_layout k w) 0 m.netlist.outputs (λ k x. omega arith) in
      let a = length-append m.names.«module» (codes "(input clk" ++ (is ++ (os ++ codes ");\n"))) in
      let b = length-append is (os ++ codes ");\n") in
      let c = length-append os (codes ");\n") in
      omega (arith, i, o, a, b, c)

  declarations_long : length m.netlist.wires + (length m.netlist.regs + length m.netlist.arrays) ≤ length (declarations_layout m)
  declarations_long =
      let ws = each_at (net_line (codes "  wire ") m.names.wires) 0 m.netlist.wires in
      let rs = each_at (net_line (codes "  reg ") m.names.regs) 0 m.netlist.regs in
      let as' = each_at (array_line m.names.arrays) 0 m.netlist.arrays in
      let w = each_at_long (net_line (codes "  wire ") m.names.wires) 0 m.netlist.wires (λ k x. omega arith) in
      let r = each_at_long (net_line (codes "  reg ") m.names.regs) 0 m.netlist.regs (λ k x. omega arith) in
      let a = each_at_long (array_line m.names.arrays) 0 m.netlist.arrays (λ k x. omega arith) in
      let b = length-append ws (rs ++ as') in
      let c = length-append rs as' in
      omega (arith, w, r, a, b, c)

  update_long : (u : Update) → 1 ≤ length (update_layout m u)
  update_long (Set r a) = omega arith
  update_long (Put x i a) = omega arith

  updates_long : (us : List Update) → length us ≤ length (block_layout m us)
  updates_long [] = omega arith
  updates_long (u ∷ us) =
      let l = each_long (update_layout m) (u ∷ us) update_long in
      let a = length-append block_head (each (update_layout m) (u ∷ us) ++ codes "  end\n") in
      let b = length-append (each (update_layout m) (u ∷ us)) (codes "  end\n") in
      omega (arith, l, a, b)

  pub record FitIn (n : ℕ) : Type 0 where
    pub ports : length (ports_of m) ≤ n
    pub declarations : length (declarations_of m) ≤ n
    pub assigns : length (map (named_assign m) m.netlist.assigns) ≤ n
    pub updates : length (map (named_update m) m.netlist.updates) ≤ n

  named_ports_many : (d : Direction) (names : List (List ℕ)) (k : ℕ) (ws : List ℕ) → length (named_ports d names k ws) ≡ length ws
  named_ports_many d names k [] = refl
  named_ports_many d names k (w ∷ ws) = let e = named_ports_many d names (suc k) ws in omega (arith, e)

  named_sorts_many : {X : Type 0} (sort : X → Sort) (names : List (List ℕ)) (k : ℕ) (xs : List X) → length (named_sorts sort names k xs) ≡ length xs
  named_sorts_many sort names k [] = refl
  named_sorts_many sort names k (x ∷ xs) = let e = named_sorts_many sort names (suc k) xs in omega (arith, e)

  lists_fit : FitIn (length (layout m))
  lists_fit =
      let d = declarations_layout m in
      let s = each (assign_layout m) m.netlist.assigns in
      let b = block_layout m m.netlist.updates in
      let e = codes "endmodule\n" in
      let total : length (layout m) ≡ length (head_layout m) + (length d + (length s + (length b + length e))) =
      length-append (head_layout m) (d ++ (s ++ (b ++ e))) ∙ ap (λ n. length (head_layout m) + n)
      (length-append d (s ++ (b ++ e)) ∙ ap (λ n. length d + n) (length-append s (b ++ e) ∙ ap (λ n. length s + n) (length-append b e))) in
      let inputs = named_ports_many Takes (all_inputs m.netlist.enable) 0 m.netlist.inputs in
      let outputs = named_ports_many Gives all_outputs 0 m.netlist.outputs in
      let ports : length (ports_of m) ≡ suc (length m.netlist.inputs + length m.netlist.outputs) =
      ap suc (length-append (named_ports Takes (all_inputs m.netlist.enable) 0 m.netlist.inputs) (named_ports Gives all_outputs 0 m.netlist.outputs) ∙ rw (inputs, outputs) refl) in
      let wires : length (wire_declarations m) ≡ length m.netlist.wires = named_sorts_many _ m.names.wires 0 m.netlist.wires in
      let regs : length (reg_declarations m) ≡ length m.netlist.regs = named_sorts_many _ m.names.regs 0 m.netlist.regs in
      let arrays : length (array_declarations m) ≡ length m.netlist.arrays = named_sorts_many _ m.names.arrays 0 m.netlist.arrays in
      let declarations : length (declarations_of m) ≡ length m.netlist.wires + (length m.netlist.regs + length m.netlist.arrays) =
      length-append (wire_declarations m) (reg_declarations m ++ array_declarations m) ∙ rw (length-append (reg_declarations m) (array_declarations m), wires, regs, arrays) refl in
      let pl = ports_long in
      let dl = declarations_long in
      let al = each_long (assign_layout m) m.netlist.assigns (λ x. omega arith) in
      let ul = updates_long m.netlist.updates in
      let an = length-map m.netlist.assigns (named_assign m) in
      let un = length-map m.netlist.updates (named_update m) in
      record {
        ports = omega (arith, total, ports, pl);
        declarations = omega (arith, total, declarations, dl);
        assigns = omega (arith, total, al, an);
        updates = omega (arith, total, ul, un);
      }

  module _ (text : Vec ℕ) (is : text.items ≡ layout m) where
    fits_text : (n : ℕ) → n ≤ length (layout m) → n ≤ length text.items
    fits_text n l = subst (λ (x : List ℕ). n ≤ length x) (sym is) l

    -- parts with the lists of the module
    parts_held : Parts
    parts_held = record {
      name = m.names.«module»;
      ports = vec_beside text (ports_of m) (fits_text _ lists_fit.ports);
      declarations = vec_beside text (declarations_of m) (fits_text _ lists_fit.declarations);
      assigns = vec_beside text (map (named_assign m) m.netlist.assigns) (fits_text _ lists_fit.assigns);
      updates = vec_beside text (map (named_update m) m.netlist.updates) (fits_text _ lists_fit.updates);
    }

    -- what is written in the text are these parts, so it denotes the module
    pub layout_held : (s : Source) → IsSourceOf m s → KeepsRules m.netlist → HasNames m.netlist m.names → StandsFor text.items m
    unfolding vec_beside parts_held
    layout_held s h rules named = subst (λ (x : List ℕ). StandsFor x m) (sym is) (record {
      parts = parts_held;
      has_parts = record {
        source = s;
        written = h.written;
        limits = h.limits;
        parts = record { name = sym h.name; ports = sym h.ports; declarations = sym h.declarations; assigns = sym h.assigns; updates = sym h.updates };
      };
      is_module = is_module_of m parts_held rules named (record { name = refl; ports = refl; declarations = refl; assigns = refl; updates = refl });
    })
