-- The net of a body is the image's pixel.
use Rattle.std.proofs.Common.{◌≡◌, ℕ, ◌+◌, ◌<◌, true, List, [], Option, Some, refl, sym, ap, subst, ◌∙◌, inl, inr, arith}
use Rattle.std.specs.Prelude.{pos, ◌^◌, nat_eq, IsTrue, slice_get}
use Rattle.dk_base.specs.declared.ty.Ty.{Ty}
use Rattle.dk_base.specs.Types.{width_of}
use Rattle.dk_base.specs.Numbers.{number, code}
use Rattle.dk_base.specs.Frames.{Size, Picture, column, row, frame_of, picture_at}
use Rattle.dk_base.proofs.Codes.{code_number}
use Rattle.wiring.specs.declared.netlist.Net.{Net}
use Rattle.wiring.specs.Netlist.{Netlist}
use Rattle.wiring.specs.Snapshot.{Contents, Snapshot, net_value}
use Rattle.wiring.specs.Clock.{Clock}
use Rattle.net_build.proofs.Runs.{clock_contents, clock_inputs}
use Rattle.pointwise_ir.specs.Programs.{Program}
use Rattle.pointwise_ir.specs.Meaning.{value}
use Rattle.pointwise_ir.specs.Trees.{Tree}
use Rattle.datapath.specs.Nets.{IsValuation}
use Rattle.datapath.specs.Expressions.{IsLowered, type_of, types_in, worth_in, set_in, is_set}
use Rattle.datapath.specs.Meant.{AreRight}
use Rattle.datapath.proofs.Meant.{value_of_leaves}
use Rattle.edge_select.specs.declared.step.Step.{Step}
use Rattle.edge_select.specs.Steps.{LeadOn}
use Rattle.edge_select.specs.Pixels.{IsBitOf}
use Rattle.buffer_plan.specs.Plans.{Plan}
use Rattle.circuit.specs.Runs.{IsRunning}
use Rattle.circuit.specs.Rounds.{Rounds, type_at, pictures_in, pixel, pixel_bits}
use Rattle.circuit.specs.Leaves.{LeafRead, reads_of, bits_of, ReadIsRight, BitIsRight}
use Rattle.circuit.proofs.Paths.{leaves_are}

-- what a bit's net says
pub bit_right : (size : Size) (x y : ℕ) (steps : List Step) (s : Snapshot) (o : Option Net) (n : Net) → o ≡ Some n → IsBitOf (LeadOn size steps x y) (net_value s n) → BitIsRight size x y steps (is_set s o)
bit_right size x y steps s o n e (inl on) =
    let set : is_set s o ≡ true = ap (is_set s) e ∙ ap (λ (v : ℕ). nat_eq v 1) on.1 in
    record { yes = λ _. set; no = λ _. on.0 }
bit_right size x y steps s o n e (inr off) =
    let clear : is_set s o ≡ nat_eq 0 1 = ap (is_set s) e ∙ ap (λ (v : ℕ). nat_eq v 1) off.1 in
    record { yes = λ on. absurd (off.0 on); no = λ set. absurd (let f : ⊥ = never (subst IsTrue clear set) in f) }
  where
    never : IsTrue (nat_eq 0 1) → ⊥
    never h = cc

module _ (b m : Netlist) (from : Contents) (before : List Clock) (c : Clock) (s : Snapshot) (is : IsRunning b m from before c s) (p : Program) (rounds : Rounds) (plan : Plan) (f q : ℕ) (e : Tree) (reads : List (Ty × Net)) (bits : List Net) (net : Net)
    (lowered : IsLowered b e reads bits net) (typed : type_of e (types_in reads) 0 ≡ type_at p f)
    (read : (i : ℕ) (leaf : LeafRead) → slice_get (reads_of e []) i ≡ Some leaf → ReadIsRight p.size (pictures_in p rounds (frame_of p.size q)) (column p.size q) (row p.size q) leaf (worth_in s reads i))
    (bit : (i : ℕ) (steps : List Step) → slice_get (bits_of e []) i ≡ Some steps → BitIsRight p.size (column p.size q) (row p.size q) steps (set_in s bits i))
    (picture_is : picture_at (pictures_in p rounds (frame_of p.size q)) f (pos (column p.size q)) (pos (row p.size q)) ≡ value p.size (pictures_in p rounds (frame_of p.size q)) e (pos (column p.size q)) (pos (row p.size q))) where
  abbrev x : ℕ
  x = column p.size q

  abbrev y : ℕ
  y = row p.size q

  abbrev known : List Picture
  known = pictures_in p rounds (frame_of p.size q)

  abbrev ty : Ty
  ty = type_of e (types_in reads) 0

  fits : IsValuation m s
  fits = record { settled = is.clock.at.snapshot.settled; contents = clock_contents b m from before c s is.clock; inputs = clock_inputs b m from before c s is.clock }

  leaves : AreRight p.size known e (pos x) (pos y) (worth_in s reads) (set_in s bits) 0 0
  leaves =
      leaves_are p.size known x y (worth_in s reads) (set_in s bits) e [] (pos x) (pos y) 0 0 (refl, refl)
      (λ i leaf at. subst (λ (j : ℕ). ReadIsRight p.size known x y leaf (worth_in s reads j)) (let z : i ≡ 0 + i = omega arith in z) (read i leaf at))
      (λ i steps at. subst (λ (j : ℕ). BitIsRight p.size x y steps (set_in s bits j)) (let z : i ≡ 0 + i = omega arith in z) (bit i steps at))

  pub pixel_right : net_value s net ≡ pixel_bits p rounds f q
  pixel_right =
      let worth : number ty (net_value s net) ≡ value p.size known e (pos x) (pos y) = lowered.value m s is.clock.whole.includes fits ∙ value_of_leaves p.size known e (pos x) (pos y) (worth_in s reads) (set_in s bits) 0 0 leaves in
      let is_pixel : number ty (net_value s net) ≡ pixel p rounds f q = worth ∙ sym picture_is in
      let small : net_value s net < 2 ^ width_of ty = lowered.operand.width.fits m s is.clock.whole.includes fits in
      sym (code_number ty (net_value s net) small)
      ∙ ap (code (width_of ty)) is_pixel
      ∙ ap (λ (t : Ty). code (width_of t) (pixel p rounds f q)) typed
