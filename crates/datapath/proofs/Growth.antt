-- A netlist that grows keeps what it had.
use Rattle.std.proofs.Common.{ℕ, List, ◌≡◌, ◌⊎◌, ◌<◌, ◌^◌, [], refl, subst, sym, ◌∙◌, inl, Result, Ok, Err, OnOk, OnErr, ◌+◌, ◌≤◌, length, ap, arith, inr}
use Rattle.std.specs.Prelude.{All, Contains}
use Rattle.std.proofs.lemmas.List.{length_push}
use Rattle.std.proofs.lemmas.List.Elements.{All-nil, All-head, Contains-append_left}
use Rattle.wiring.specs.declared.right.Right.{Right}
use Rattle.wiring.specs.Rights.{right_value}
use Rattle.datapath.specs.declared.operand.Signal.{Signal}
use Rattle.datapath.specs.declared.operand.Signal.TheVariants as signal
use Rattle.wiring.specs.declared.netlist.Net.{Net}
use Rattle.wiring.specs.declared.netlist.Net.TheVariants.{Wire}
use Rattle.wiring.specs.Netlist.{Netlist, net_width}
use Rattle.wiring.specs.Snapshot.{Snapshot, net_value, word_value, right_accesses}
use Rattle.wiring.specs.Sizes.{IsWidth, IsConstant, SizedNumber}
use Rattle.net_build.specs.Includes.{Includes, InEach}
use Rattle.net_build.specs.Runs.{NeverStops, StaysInside}
use Rattle.net_build.specs.Control.{IsControlled}
use Rattle.net_build.proofs.Depth.{within_wire}
use Rattle.wiring.specs.declared.netlist.Assign.{Assign}
use Rattle.net_build.specs.Draft.{IsNet, ValuesFit, AddsWires, with_wire, width_of}
use Rattle.net_build.proofs.Operands.{operand_more as atom_more, constant_operand, net_operand}
use Rattle.net_build.proofs.Parts.{Includes-trans, Includes-refl}
use Rattle.net_build.proofs.Grown.{width_more as net_width_more}
use Rattle.net_build.proofs.Reading.{reads_joined, reads_none, reads_nets}
use Rattle.datapath.specs.Nets.{IsValuation, IsPartOf, InEachFit, HasWidth, IsWord, Grows, IsNetOf, IsSignal, bits_of, atom_of}

pub part_on : (a b c : Netlist) → IsPartOf a b → IsPartOf b c → IsPartOf a c
part_on a b c p q = Includes-trans c b a q p

pub grows_on : (a b c : Netlist) → Grows a b → Grows b c → Grows a c
grows_on a b c p q = record {
  includes = Includes-trans c b a q.includes p.includes;
  wires = record { regs = q.wires.regs ∙ p.wires.regs; arrays = q.wires.arrays ∙ p.wires.arrays; updates = q.wires.updates ∙ p.wires.updates };
  reads = reads_joined c b a _ q.includes q.reads p.reads;
  stops = λ h. q.stops (p.stops h);
  control = λ copies h. q.control copies (p.control copies h);
}

pub grows_itself : (a : Netlist) → Grows a a
grows_itself a = record {
  includes = Includes-refl a;
  wires = record { regs = refl; arrays = refl; updates = refl };
  reads = reads_none a a _ refl;
  stops = λ h. h;
  control = λ copies h. h;
}

pub each_more : (a b : Netlist) (P : Snapshot → Type 0) → IsPartOf a b → InEachFit a P → InEachFit b P
each_more a b P grows h m s more is = h m s (part_on a b m grows more) is

pub width_more : (a b : Netlist) (x : Signal) (w : ℕ) → IsPartOf a b → HasWidth a x w → HasWidth b x w
width_more a b x w grows h = record { operand = atom_more b a (atom_of x) w grows h.operand; fits = λ m s more is. h.fits m s (part_on a b m grows more) is }

pub width_later : (a b : Netlist) (x : Signal) (w : ℕ) → Grows a b → HasWidth a x w → HasWidth b x w
width_later a b x w grows h = width_more a b x w grows.includes h

pub word_more : (a b : Netlist) (x : Signal) (w : ℕ) (f : Snapshot → ℕ) → IsPartOf a b → IsWord a x w f → IsWord b x w f
word_more a b x w f grows h = record { width = width_more a b x w grows h.width; value = λ m s more is. h.value m s (part_on a b m grows more) is }

-- the bits of an atom of w bits, in a later netlist
pub fits_later : (b later : Netlist) (x : Signal) (w : ℕ) (nets : Snapshot) → HasWidth b x w → IsPartOf b later → IsValuation later nets → bits_of nets x < 2 ^ w
fits_later b later x w nets h grows is = h.fits later nets grows is

-- a net has its width
pub net_has : (b : Netlist) (n : Net) (w : ℕ) → ValuesFit b → IsNet b n → net_width b n ≡ w → HasWidth b (signal.Net n) w
net_has b n w fit net e = record {
  operand = net_operand b n w net e;
  fits = λ m s more is.
      let v : net_width m n ≡ w = net_width_more m b more n net.declared ∙ e in
      subst (λ (k : ℕ). bits_of s (signal.Net n) < 2 ^ k) v (fit m s more is.settled is.contents is.inputs n net);
}

-- a constant has its size
pub constant_has : (b : Netlist) (x : Signal) (w v : ℕ) → x ≡ signal.Constant w v → IsWidth w → v < 2 ^ w → HasWidth b x w
constant_has b x w v e wide fit =
    let P : Signal → Type 0 = λ y. HasWidth b y w in
    subst P (sym e) (record { operand = constant_operand b (record { width = w; value = v }) w (record { width = wide; fits = fit }) refl; fits = λ m s more is. fit })

pub signal_of : (b : Netlist) (x : Signal) (w : ℕ) → HasWidth b x w → IsSignal x
signal_of b (signal.Net n) w h = tt
signal_of b (signal.Constant v k) w h = let c = All-head IsConstant (let k' : SizedNumber = record { width = v; value = k } in k') [] h.operand.constants in (c.width, c.fits)

pub size_of : (x : Signal) (w v : ℕ) → x ≡ signal.Constant w v → IsSignal x → IsWidth w
size_of x w v e h = let g : IsWidth w × (v < 2 ^ w) = subst IsSignal e h in g.0

pub constant_of : (x : Signal) (w v r : ℕ) → x ≡ signal.Constant w v → r ≡ w → IsSignal x → IsConstant (record { width = r; value = v })
constant_of x w v r e k h =
    let g : IsWidth w × (v < 2 ^ w) = subst IsSignal e h in
    let P : ℕ → Type 0 = λ n. IsConstant (record { width = n; value = v }) in
    subst P (sym k) (record { width = g.0; fits = g.1 })

-- the builder after a call for a net that reads no array
pub grown : {A E : Type 0} (old new : Netlist) (r : Right Net ℕ) (answer : Result A E) → right_accesses r ≡ [] → Includes new old → OnOk answer ((new ≡ old) ⊎ (new ≡ with_wire old r)) → OnErr answer (new ≡ old) → AddsWires new old →
    (NeverStops old → All (StaysInside new) (right_accesses r) → NeverStops new) → ((copies : List ℕ) → IsControlled old copies → IsControlled new copies) → Grows old new
grown old new r answer none includes ok err wires stops control = record {
  includes = includes;
  wires = wires;
  reads = reads_nets old new r _ (either answer ok err) none;
  stops = λ h. stops h (subst (λ l. All (StaysInside new) l) (sym none) (All-nil (StaysInside new)));
  control = control;
}
  where
    either : {A E : Type 0} (answer : Result A E) → OnOk answer ((new ≡ old) ⊎ (new ≡ with_wire old r)) → OnErr answer (new ≡ old) → (new ≡ old) ⊎ (new ≡ with_wire old r)
    either (Ok n) ok err = ok
    either (Err e) ok err = inl err

no_wire : (old new : Netlist) → new ≡ old → length new.assigns ≤ length old.assigns + 1
no_wire old new e = let l = ap (λ (b : Netlist). length b.assigns) e in omega (arith, l)

-- it takes one assign at most
pub at_most_one : {A E : Type 0} (old new : Netlist) (r : Right Net ℕ) (answer : Result A E) → OnOk answer ((new ≡ old) ⊎ (new ≡ with_wire old r)) → OnErr answer (new ≡ old) → length new.assigns ≤ length old.assigns + 1
at_most_one old new r (Ok n) ok err = elim ok as (λ _. length new.assigns ≤ length old.assigns + 1) [ inl e ↦ no_wire old new e | inr e ↦ let l = ap (λ (b : Netlist). length b.assigns) e ∙ length_push old.assigns (record { target = Wire (length old.wires); right = r }) in omega (arith, l) ]
at_most_one old new r (Err e) ok err = no_wire old new err

-- the net of that call
pub net_is : (old new : Netlist) (r : Right Net ℕ) (n : Net) → ValuesFit new → IsNet new n → net_width new n ≡ width_of old r → InEach new (λ m s. net_value s n ≡ right_value (net_width m) (word_value s) (net_value s) r) →
    Contains new.assigns (record { target = n; right = r }) → IsNetOf old new r n
net_is old new r n fit net width value at = record {
  width = net_has new n (width_of old r) fit net width;
  value = value;
  within = λ m base j more all.
      let there = subst (λ l. Contains l (let a : Assign = record { target = n; right = r } in a)) (sym more.assigns.1) (Contains-append_left new.assigns more.assigns.0 _ at) in
      within_wire m n r base j there all;
}

-- one growth after another
pub then_grows : {a b c : Netlist} → Grows a b → Grows b c → Grows a c
then_grows {a} {b} {c} p q = grows_on a b c p q

pub has_width_of : {b : Netlist} {x : Signal} {w v : ℕ} → w ≡ v → HasWidth b x v → HasWidth b x w
has_width_of {b} {x} e h = subst (λ (n : ℕ). HasWidth b x n) (sym e) h

pub ruleset later = (width_later)
