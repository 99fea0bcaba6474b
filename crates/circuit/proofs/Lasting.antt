-- What lasts as the netlist grows.
use Rattle.std.proofs.Common.{◌≡◌, ℕ, List, Option, Some, None, subst, ◌∙◌}
use Rattle.std.specs.Prelude.{Bool, IfSome}
use Rattle.dk_base.specs.declared.stencils.LiveRead.{LiveRead}
use Rattle.dk_base.specs.declared.ty.Ty.{Ty}
use Rattle.dk_base.specs.Types.{width_of as bits_of_type}
use Rattle.dk_base.specs.Frames.{Size}
use Rattle.wiring.specs.declared.netlist.Net.{Net}
use Rattle.wiring.specs.Netlist.{Netlist, net_width}
use Rattle.wiring.specs.Snapshot.{Contents, Snapshot, net_value}
use Rattle.wiring.specs.Clock.{Clock}
use Rattle.net_build.specs.Includes.{Includes}
use Rattle.net_build.specs.Draft.{IsNet}
use Rattle.net_build.proofs.Grown.{net_more, width_more}
use Rattle.net_build.proofs.Control.{made_more}
use Rattle.net_build.proofs.Depth.{within_more}
use Rattle.circuit.specs.Depths.{IsOverTaps}
use Rattle.circuit.proofs.Depths.{over_taps_more}
use Rattle.net_build.proofs.Runs.{clock_more}
use Rattle.pointwise_ir.specs.Programs.{Program}
use Rattle.edge_select.specs.declared.step.Step.{Step}
use Rattle.edge_select.specs.Pixels.{IsBitOf}
use Rattle.buffer_plan.specs.Plans.{Plan, delay_of}
use Rattle.circuit.specs.Runs.{IsRunning, AtEachPixel}
use Rattle.circuit.specs.Leaves.{LeafRead}
use Rattle.circuit.specs.Taps.{size_in, HasTaps, HasControl, IsReading}
use Rattle.circuit.specs.Reads.{IsChosen, worth_of, IsChoice, IsReadNet, IsPixelTest, IsMadeOfTaps, AreLeafNets, reads_in}

if_some : {X : Type 0} (P Q : X → Type 0) (o : Option X) → ((x : X) → P x → Q x) → IfSome o P → IfSome o Q
if_some P Q None f h = h
if_some P Q (Some x) f h = f x h

module _ (c b : Netlist) (f : Includes c b) where
  pub running_more : (m : Netlist) (from : Contents) (before : List Clock) (d : Clock) (s : Snapshot) → IsRunning c m from before d s → IsRunning b m from before d s
  running_more m from before d s is = record { clock = clock_more c b m from before d s f is.clock; since = is.since; off = is.off; going = is.going }

  pub each_pixel_more : (size : Size) (delay : ℕ) (P : (x y : ℕ) → Snapshot → Type 0) → AtEachPixel b size delay P → AtEachPixel c size delay P
  each_pixel_more size delay P h m from before d s is q e = h m from before d s (running_more m from before d s is) q e

  pub width_is : (n : Net) (w : ℕ) → IsNet b n → net_width b n ≡ w → net_width c n ≡ w
  width_is n w is e = width_more c b f n is.declared ∙ e

  pub test_more : (plan : Plan) (g : ℕ) (passes : (x y : ℕ) → Type 0) (n : Net) → IsPixelTest b plan g passes n → IsPixelTest c plan g passes n
  test_more plan g passes n is = record {
    there = net_more c b f n is.there;
    width = width_is n 1 is.there is.width;
    value = each_pixel_more (size_in plan) (delay_of plan g) (λ x y s. IsBitOf (passes x y) (net_value s n)) is.value;
    within = λ base has. within_more c b base f (is.within base (subst (λ (e : Bool). HasControl e base) f.enable has));
  }

  pub taps_more : (plan : Plan) (taps : List (List Net)) (g : ℕ) → HasTaps b plan taps g → HasTaps c plan taps g
  taps_more plan taps g is = record {
    there = is.there;
    one_each = is.one_each;
    net = λ h kept less k tap at. net_more c b f tap (is.net h kept less k tap at);
    width = λ h kept less k tap at. width_is tap _ (is.net h kept less k tap at) (is.width h kept less k tap at);
  }

  pub reading_more : (p : Program) (plan : Plan) (taps : List (List Net)) (g : ℕ) → IsReading b p plan taps g → IsReading c p plan taps g
  reading_more p plan taps g is = record { stencils = is.stencils; kept = is.kept; there = is.there; taps_are = taps_more plan taps g is.taps_are }

  made_of_taps_more : (first : Netlist) (plan : Plan) (taps : List (List Net)) (reads : List LiveRead) (n : Net) → IsMadeOfTaps b first plan taps reads n → IsMadeOfTaps c first plan taps reads n
  made_of_taps_more first plan taps reads n is base has own = made_more c b base f (is base has own)

  pub choice_more : (first : Netlist) (plan : Plan) (taps : List (List Net)) (g : ℕ) (reads : List LiveRead) (leaf : LeafRead) (bits : ℕ) (o : Option Net) → IsChoice b first plan taps g reads leaf bits o → IsChoice c first plan taps g reads leaf bits o
  choice_more first plan taps g reads leaf bits o is = record {
    there = if_some (IsNet b) (IsNet c) o (λ n h. net_more c b f n h) is.there;
    width = widths o is.there is.width;
    value = each_pixel_more (size_in plan) (delay_of plan g) (λ x y s. IsChosen (size_in plan) plan taps reads leaf x y s (worth_of s o)) is.value;
    made = if_some (IsMadeOfTaps b first plan taps reads) (IsMadeOfTaps c first plan taps reads) o (λ n h. made_of_taps_more first plan taps reads n h) is.made;
    levels = λ k most. if_some (IsOverTaps b first plan taps reads k) (IsOverTaps c first plan taps reads k) o (λ n h. over_taps_more c b first plan taps reads k n f h) (is.levels k most);
  }
    where
      widths : (o : Option Net) → IfSome o (IsNet b) → IfSome o (λ n. net_width b n ≡ bits) → IfSome o (λ n. net_width c n ≡ bits)
      widths None there h = h
      widths (Some n) there h = width_is n bits there h

  read_net_more : (first : Netlist) (plan : Plan) (taps : List (List Net)) (g : ℕ) (leaf : LeafRead) (bits : ℕ) (n : Net) → IsReadNet b first plan taps g leaf bits n → IsReadNet c first plan taps g leaf bits n
  read_net_more first plan taps g leaf bits n is = record {
    there = net_more c b f n is.there;
    width = width_is n bits is.there is.width;
    value = each_pixel_more (size_in plan) (delay_of plan g) (λ x y s. IsChosen (size_in plan) plan taps (reads_in plan g) leaf x y s (net_value s n)) is.value;
    made = made_of_taps_more first plan taps (reads_in plan g) n is.made;
    levels = λ k most. over_taps_more c b first plan taps (reads_in plan g) k n f (is.levels k most);
  }

  pub leaf_nets_more : (first : Netlist) (p : Program) (plan : Plan) (taps : List (List Net)) (g : ℕ) (ls : List LeafRead) (ps : List (List Step)) (reads : List (Ty × Net)) (bits : List Net) → AreLeafNets b first p plan taps g ls ps reads bits → AreLeafNets c first p plan taps g ls ps reads bits
  leaf_nets_more first p plan taps g ls ps reads bits is = record {
    reads_are = is.reads_are;
    bits_are = is.bits_are;
    ty = is.ty;
    read = λ i leaf n at on. read_net_more first plan taps g leaf (bits_of_type n.0) n.1 (is.read i leaf n at on);
    bit = λ i steps n at on. test_more plan g _ n (is.bit i steps n at on);
  }
