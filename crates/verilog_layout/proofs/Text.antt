-- The text of a module's pieces is its layout. A line's LF is in the gap before the next piece.
use Rattle.std.proofs.Common.{◌≡◌, ℕ, suc, ◌-◌, List, [], ◌∷◌, ◌++◌, map, Bool, true, false, nat_eq, refl, sym, ap, ◌∙◌, append_assoc, codes}
use Rattle.std.specs.Prelude.{if◌then◌else◌}
use Rattle.std.specs.Fmt.{decimal}
use Rattle.std.proofs.lemmas.List.{append-nil}
use Rattle.wiring.specs.declared.right.Atom.{Atom}
use Rattle.wiring.specs.declared.right.Atom.TheVariants as atom
use Rattle.wiring.specs.declared.right.Operator.{Operator}
use Rattle.wiring.specs.declared.right.Operator.TheVariants.{Add, Subtract, Multiply, Divide, Less, Equal, And, Or, Xor}
use Rattle.wiring.specs.declared.right.Right.{Right}
use Rattle.wiring.specs.declared.right.Right.TheVariants.{Copy, Not, Binary, Choose, Join, Repeat, Bit, Slice, Word}
use Rattle.wiring.specs.declared.netlist.Net.{Net}
use Rattle.wiring.specs.declared.netlist.Shape.{Shape}
use Rattle.wiring.specs.declared.netlist.Assign.{Assign}
use Rattle.wiring.specs.declared.netlist.Update.{Update}
use Rattle.wiring.specs.declared.netlist.Update.TheVariants.{Set, Put}
use Rattle.netlist.specs.declared.parts.Port.{Port}
use Rattle.netlist.specs.declared.parts.Direction.{Direction}
use Rattle.netlist.specs.declared.parts.Direction.TheVariants.{Input as Takes, Output as Gives}
use Rattle.netlist.specs.declared.parts.Sort.{Sort}
use Rattle.netlist.specs.declared.parts.Sort.TheVariants.{Wire as OfWire, Reg as OfReg, Array as OfArray}
use Rattle.netlist.specs.Names.{NamedNetlist, name_at, all_inputs, all_outputs}
use Rattle.verilog_layout.specs.Layout.{net_name, atom_layout, operator_layout, right_layout, assign_layout, update_layout, range_layout, named_layout, net_line, array_line, each_at, each, input_layout, output_layout, declarations_layout, block_head, block_layout, layout}
use Rattle.verilog_layout.proofs.Named.{named_atom, named_right, named_assign, named_update, named_ports, clock_port, named_sorts, wire_declarations, reg_declarations, array_declarations, declarations_of}
use Rattle.verilog_layout.proofs.Pieces.{Piece, text_of}
use Rattle.verilog_layout.proofs.Clear.{word, atom_own, operator_own, end_line, right_pieces, assign_pieces, update_pieces, wide_pieces, ranged_pieces, words_pieces, sort_pieces, declaration_pieces, direction_own, port_pieces, more_ports, each_pieces, end_pieces, block_pieces, module_pieces, last_line}

atom_same : (m : NamedNetlist) (a : Atom Net) → atom_own (named_atom m a) ≡ atom_layout m a
atom_same m (atom.Net n) = refl
atom_same m (atom.Constant c) = refl

operator_same : (o : Operator) → operator_layout o ≡ 32 ∷ (operator_own o ++ (32 ∷ []))
operator_same Add = refl
operator_same Subtract = refl
operator_same Multiply = refl
operator_same Divide = refl
operator_same Less = refl
operator_same Equal = refl
operator_same And = refl
operator_same Or = refl
operator_same Xor = refl

right_text : (m : NamedNetlist) (r : Right Net ℕ) (ps : List Piece) (end : List ℕ) → text_of (right_pieces (named_right m r) ps) end ≡ 32 ∷ (right_layout m r ++ (59 ∷ text_of ps end))
right_text m (Copy a) ps end = rw (atom_same m a) refl
right_text m (Not a) ps end = rw (atom_same m a) refl
right_text m (Binary o a b) ps end = simp (append_assoc, atom_same, operator_same) refl
right_text m (Choose c a b) ps end = simp (append_assoc, atom_same) refl
right_text m (Join a b) ps end = simp (append_assoc, atom_same) refl
right_text m (Repeat n a) ps end = simp (append_assoc, atom_same) refl
right_text m (Bit v k) ps end = simp append_assoc refl
right_text m (Slice v h l) ps end = simp append_assoc refl
right_text m (Word x i) ps end = simp (append_assoc, atom_same) refl

assign_text : (m : NamedNetlist) (a : Assign) (ps : List Piece) (end rest : List ℕ) → text_of ps end ≡ 10 ∷ rest → text_of (assign_pieces (named_assign m a) ps) end ≡ 10 ∷ (assign_layout m a ++ rest)
assign_text m a ps end rest e =
    ap (λ x. codes "\n  assign " ++ (net_name m a.target ++ (codes " =" ++ x))) (right_text m a.right ps end ∙ ap (λ x. 32 ∷ (right_layout m a.right ++ (59 ∷ x))) e)
    ∙ simp append_assoc refl

update_text : (m : NamedNetlist) (u : Update) (ps : List Piece) (end rest : List ℕ) → text_of ps end ≡ 10 ∷ rest → text_of (update_pieces (named_update m u) ps) end ≡ 10 ∷ (update_layout m u ++ rest)
update_text m (Set r a) ps end rest e = rw e (simp (append_assoc, atom_same) refl)
update_text m (Put x i a) ps end rest e = rw e (simp (append_assoc, atom_same) refl)

ranged_text : (w : ℕ) (name : List ℕ) (ps : List Piece) (end : List ℕ) → text_of (ranged_pieces w name ps) end ≡ 32 ∷ (range_layout w ++ (name ++ text_of ps end))
ranged_text w name ps end = by_bits (nat_eq w 1)
  where
    by_bits : (t : Bool) → text_of (if t then word (codes " ") name ∷ ps else wide_pieces w name ps) end ≡ 32 ∷ ((if t then [] else codes "[" ++ (decimal (w - 1) ++ codes ":0] ")) ++ (name ++ text_of ps end))
    by_bits true = refl
    by_bits false = simp append_assoc refl

wire_text : (names : List (List ℕ)) (k w : ℕ) (ps : List Piece) (end rest : List ℕ) → text_of ps end ≡ 10 ∷ rest
    → text_of (sort_pieces (name_at names k) (OfWire w) ps) end ≡ 10 ∷ (net_line (codes "  wire ") names k w ++ rest)
wire_text names k w ps end rest e = ap (λ x. codes "\n  wire" ++ x) (ranged_text w (name_at names k) (end_line ∷ ps) end) ∙ rw e (simp append_assoc refl)

reg_text : (names : List (List ℕ)) (k w : ℕ) (ps : List Piece) (end rest : List ℕ) → text_of ps end ≡ 10 ∷ rest
    → text_of (sort_pieces (name_at names k) (OfReg w) ps) end ≡ 10 ∷ (net_line (codes "  reg ") names k w ++ rest)
reg_text names k w ps end rest e = ap (λ x. codes "\n  reg" ++ x) (ranged_text w (name_at names k) (end_line ∷ ps) end) ∙ rw e (simp append_assoc refl)

array_text : (names : List (List ℕ)) (k : ℕ) (s : Shape) (ps : List Piece) (end rest : List ℕ) → text_of ps end ≡ 10 ∷ rest
    → text_of (sort_pieces (name_at names k) (OfArray s) ps) end ≡ 10 ∷ (array_line names k s ++ rest)
array_text names k s ps end rest e = ap (λ x. codes "\n  reg" ++ x) (ranged_text s.width (name_at names k) (words_pieces s.depth ps) end) ∙ rw e (simp append_assoc refl)

sorts_text : {X : Type 0} (layout : ℕ → X → List ℕ) (sort : X → Sort) (names : List (List ℕ))
    → ((k : ℕ) (x : X) (ps : List Piece) (end rest : List ℕ) → text_of ps end ≡ 10 ∷ rest → text_of (sort_pieces (name_at names k) (sort x) ps) end ≡ 10 ∷ (layout k x ++ rest))
    → (k : ℕ) (xs : List X) (ps : List Piece) (end rest : List ℕ) → text_of ps end ≡ 10 ∷ rest → text_of (each_pieces declaration_pieces (named_sorts sort names k xs) ps) end ≡ 10 ∷ (each_at layout k xs ++ rest)
sorts_text layout sort names one k [] ps end rest e = e
sorts_text layout sort names one k (x ∷ xs) ps end rest e =
    one k x (each_pieces declaration_pieces (named_sorts sort names (suc k) xs) ps) end (each_at layout (suc k) xs ++ rest) (sorts_text layout sort names one (suc k) xs ps end rest e)
    ∙ ap (λ z. 10 ∷ z) (sym (append_assoc (layout k x) (each_at layout (suc k) xs) rest))

each_text : {X Y : Type 0} (name : X → Y) (pieces : Y → List Piece → List Piece) (layout : X → List ℕ)
    → ((x : X) (ps : List Piece) (end rest : List ℕ) → text_of ps end ≡ 10 ∷ rest → text_of (pieces (name x) ps) end ≡ 10 ∷ (layout x ++ rest))
    → (xs : List X) (ps : List Piece) (end rest : List ℕ) → text_of ps end ≡ 10 ∷ rest → text_of (each_pieces pieces (map name xs) ps) end ≡ 10 ∷ (each layout xs ++ rest)
each_text name pieces layout one [] ps end rest e = e
each_text name pieces layout one (x ∷ xs) ps end rest e =
    one x (each_pieces pieces (map name xs) ps) end (each layout xs ++ rest) (each_text name pieces layout one xs ps end rest e)
    ∙ ap (λ z. 10 ∷ z) (sym (append_assoc (layout x) (each layout xs) rest))

each-append : {X : Type 0} (pieces : X → List Piece → List Piece) (xs ys : List X) (ps : List Piece) → each_pieces pieces (xs ++ ys) ps ≡ each_pieces pieces xs (each_pieces pieces ys ps)
each-append pieces [] ys ps = refl
each-append pieces (x ∷ xs) ys ps = ap (λ z. pieces x z) (each-append pieces xs ys ps)

declarations_text : (m : NamedNetlist) (ps : List Piece) (end rest : List ℕ) → text_of ps end ≡ 10 ∷ rest → text_of (each_pieces declaration_pieces (declarations_of m) ps) end ≡ 10 ∷ (declarations_layout m ++ rest)
declarations_text m ps end rest e =
    let wires = each_at (net_line (codes "  wire ") m.names.wires) 0 m.netlist.wires in
    let regs = each_at (net_line (codes "  reg ") m.names.regs) 0 m.netlist.regs in
    let arrays = each_at (array_line m.names.arrays) 0 m.netlist.arrays in
    let third = sorts_text (array_line m.names.arrays) (λ (s : Shape). OfArray s) m.names.arrays (array_text m.names.arrays) 0 m.netlist.arrays ps end rest e in
    let second = sorts_text (net_line (codes "  reg ") m.names.regs) (λ w. OfReg w) m.names.regs (reg_text m.names.regs) 0 m.netlist.regs (each_pieces declaration_pieces (array_declarations m) ps) end (arrays ++ rest) third in
    let first = sorts_text (net_line (codes "  wire ") m.names.wires) (λ w. OfWire w) m.names.wires (wire_text m.names.wires) 0 m.netlist.wires
    (each_pieces declaration_pieces (reg_declarations m) (each_pieces declaration_pieces (array_declarations m) ps)) end (regs ++ (arrays ++ rest)) second in
    ap (λ x. text_of x end) (each-append declaration_pieces (wire_declarations m) (reg_declarations m ++ array_declarations m) ps
    ∙ ap (λ x. each_pieces declaration_pieces (wire_declarations m) x) (each-append declaration_pieces (reg_declarations m) (array_declarations m) ps))
    ∙ first ∙ ap (λ x. 10 ∷ x) (ap (λ x. wires ++ x) (sym (append_assoc regs arrays rest)) ∙ sym (append_assoc wires (regs ++ arrays) rest))

abbrev port_word : Direction → List ℕ
port_word Takes = codes ", input "
port_word Gives = codes ", output "

port_text : (p : Port) (qs : List Piece) (end : List ℕ) → 44 ∷ text_of (port_pieces (codes " ") p qs) end ≡ named_layout (port_word p.direction) p.width p.name ++ text_of qs end
port_text p qs end = ap (λ x. codes ", " ++ (direction_own p.direction ++ x)) (ranged_text p.width p.name qs end) ∙ by_direction p.direction
  where
    by_direction : (d : Direction) → codes ", " ++ (direction_own d ++ (32 ∷ (range_layout p.width ++ (p.name ++ text_of qs end)))) ≡ named_layout (port_word d) p.width p.name ++ text_of qs end
    by_direction Takes = simp append_assoc refl
    by_direction Gives = simp append_assoc refl

ports_text : (d : Direction) (names : List (List ℕ)) (k : ℕ) (ws : List ℕ) (ps : List Port) (qs : List Piece) (end : List ℕ)
    → text_of (more_ports (named_ports d names k ws ++ ps) qs) end ≡ each_at (λ j w. named_layout (port_word d) w (name_at names j)) k ws ++ text_of (more_ports ps qs) end
ports_text d names k [] ps qs end = refl
ports_text d names k (w ∷ ws) ps qs end =
    let p : Port = record { direction = d; width = w; name = name_at names k } in
    port_text p (more_ports (named_ports d names (suc k) ws ++ ps) qs) end
    ∙ ap (λ x. named_layout (port_word d) w (name_at names k) ++ x) (ports_text d names (suc k) ws ps qs end)
    ∙ sym (append_assoc (named_layout (port_word d) w (name_at names k)) (each_at (λ j v. named_layout (port_word d) v (name_at names j)) (suc k) ws) (text_of (more_ports ps qs) end))

block_text : (m : NamedNetlist) (us : List Update) → text_of (block_pieces (map (named_update m) us)) last_line ≡ 10 ∷ (block_layout m us ++ codes "endmodule\n")
unfolding block_head
block_text m [] = refl
block_text m (u ∷ us) =
    let body = each_text (named_update m) update_pieces (update_layout m) (update_text m) (u ∷ us) end_pieces last_line (codes "  end\nendmodule\n") refl in
    ap (λ x. codes "\n  always @(posedge clk) begin" ++ x) body
    ∙ ap (λ x. 10 ∷ (block_head ++ x)) (sym (append_assoc (each (update_layout m) (u ∷ us)) (codes "  end\n") (codes "endmodule\n")))
    ∙ ap (λ x. 10 ∷ x) (sym (append_assoc block_head (each (update_layout m) (u ∷ us) ++ codes "  end\n") (codes "endmodule\n")))

abbrev pub pieces_of : NamedNetlist → List Piece
pieces_of m =
    module_pieces m.names.«module» clock_port (named_ports Takes (all_inputs m.netlist.enable) 0 m.netlist.inputs ++ named_ports Gives all_outputs 0 m.netlist.outputs) (declarations_of m)
    (map (named_assign m) m.netlist.assigns) (map (named_update m) m.netlist.updates)

-- what follows the first line
abbrev body_layout : NamedNetlist → List ℕ
body_layout m = declarations_layout m ++ (each (assign_layout m) m.netlist.assigns ++ (block_layout m m.netlist.updates ++ codes "endmodule\n"))

abbrev body_of : NamedNetlist → List Piece
body_of m = each_pieces declaration_pieces (declarations_of m) (each_pieces assign_pieces (map (named_assign m) m.netlist.assigns) (block_pieces (map (named_update m) m.netlist.updates)))

body_text : (m : NamedNetlist) → text_of (body_of m) last_line ≡ 10 ∷ body_layout m
body_text m =
    let block = block_pieces (map (named_update m) m.netlist.updates) in
    let last = block_layout m m.netlist.updates ++ codes "endmodule\n" in
    declarations_text m (each_pieces assign_pieces (map (named_assign m) m.netlist.assigns) block) last_line (each (assign_layout m) m.netlist.assigns ++ last)
    (each_text (named_assign m) assign_pieces (assign_layout m) (assign_text m) m.netlist.assigns block last_line last (block_text m m.netlist.updates))

-- the ports after the clock, and the end of the line
head_text : (m : NamedNetlist) (qs : List Piece) (end : List ℕ)
    → text_of (more_ports (named_ports Takes (all_inputs m.netlist.enable) 0 m.netlist.inputs ++ named_ports Gives all_outputs 0 m.netlist.outputs) qs) end
    ≡ each_at (input_layout m.netlist.enable) 0 m.netlist.inputs ++ (each_at output_layout 0 m.netlist.outputs ++ (41 ∷ text_of qs end))
head_text m qs end =
    let outputs = named_ports Gives all_outputs 0 m.netlist.outputs in
    ports_text Takes (all_inputs m.netlist.enable) 0 m.netlist.inputs outputs qs end
    ∙ ap (λ x. each_at (input_layout m.netlist.enable) 0 m.netlist.inputs ++ x)
    (ap (λ x. text_of (more_ports x qs) end) (sym (append-nil outputs)) ∙ ports_text Gives all_outputs 0 m.netlist.outputs [] qs end)

pub layout_is : (m : NamedNetlist) → layout m ≡ text_of (pieces_of m) last_line
layout_is m =
    let inputs = each_at (input_layout m.netlist.enable) 0 m.netlist.inputs in
    let outputs = each_at output_layout 0 m.netlist.outputs in
    let name = m.names.«module» in
    let body = body_layout m in
    let ports : (inputs ++ (outputs ++ codes ");\n")) ++ body ≡ text_of (more_ports (named_ports Takes (all_inputs m.netlist.enable) 0 m.netlist.inputs ++ named_ports Gives all_outputs 0 m.netlist.outputs) (end_line ∷ body_of m)) last_line =
    append_assoc inputs (outputs ++ codes ");\n") body
    ∙ ap (λ x. inputs ++ x) (append_assoc outputs (codes ");\n") body ∙ ap (λ x. outputs ++ (codes ");" ++ x)) (sym (body_text m)))
    ∙ sym (head_text m (end_line ∷ body_of m) last_line) in
    ap (λ x. codes "module " ++ x) (append_assoc name (codes "(input clk" ++ (inputs ++ (outputs ++ codes ");\n"))) body
    ∙ ap (λ x. name ++ (codes "(input clk" ++ x)) ports)
