-- What nets may be made of: arrays that are not long, registers and inputs.
use Rattle.std.proofs.Common.{◌≡◌, ℕ, zero, suc, ◌<◌, Bool, true, false, List, [], ◌∷◌, ◌++◌, length, take, drop, Option, Some, refl, sym, ap, subst, ◌∙◌, arith, append_assoc, append-nil}
use Rattle.std.specs.Prelude.{IsTrue, not, ◌&&◌, ◌||◌, nat_le, nat_lt, All, Contains, slice_get, slice_index_or, unwrap_or}
use Rattle.std.specs.Option.{option_map}
use Rattle.std.specs.List.{list_any}
use Rattle.std.proofs.lemmas.Option.{slice_get-get_or}
use Rattle.dk_base.specs.declared.stencils.Image.{Image}
use Rattle.dk_base.specs.declared.stencils.LiveRead.{LiveRead}
use Rattle.wiring.specs.declared.netlist.Net.TheVariants.{Input, Output, Wire, Reg}
use Rattle.wiring.specs.declared.netlist.Shape.{Shape}
use Rattle.wiring.specs.declared.netlist.Holder.{Holder}
use Rattle.wiring.specs.declared.netlist.Holder.TheVariants.{OfNet, OfArray}
use Rattle.wiring.specs.Netlist.{Netlist, depth}
use Rattle.wiring.proofs.Lists.{slice_get-append}
use Rattle.net_build.specs.Includes.{Includes}
use Rattle.net_build.specs.Control.{is_control_but}
use Rattle.buffer_plan.specs.Plans.{Plan}
use Rattle.line_buffer.specs.Indices.{is_direct}
use Rattle.line_buffer.specs.Chains.{AreCopies, is_short}
use Rattle.line_buffer.proofs.More.{and_left, and_right, and_both, is_lt}
use Rattle.line_buffer.proofs.Chaining.{copies_joined}
use Rattle.circuit.specs.Taps.{HasControl}
use Rattle.circuit.specs.Reads.{reads_in}
use Rattle.circuit.specs.Forms.{Shapes, Form, shapes_of, first_array, end_array}
use Rattle.circuit.specs.Images.{is_array_of, words_in, reads_directly, tap_source_of, source_of, direct_source}
use Rattle.circuit.specs.Nets.{kept_source_of}

-- the arrays of the first images, and those of the rest
shapes_split : (shapes : Shapes) (plan : Plan) (images : List Image) (n : ℕ) → shapes_of shapes plan images ≡ shapes_of shapes plan (take n images) ++ shapes_of shapes plan (drop n images)
shapes_split shapes plan [] zero = refl
shapes_split shapes plan [] (suc n) = refl
shapes_split shapes plan (i ∷ images) zero = refl
shapes_split shapes plan (i ∷ images) (suc n) = ap (λ (ss : List Shape). shapes plan i.number ++ ss) (shapes_split shapes plan images n) ∙ sym (append_assoc (shapes plan i.number) (shapes_of shapes plan (take n images)) (shapes_of shapes plan (drop n images)))

-- an array of what is built has the words that the plan gives it
pub words_are : (shapes : Shapes) (plan : Plan) (b : Netlist) (n : ℕ) → b.arrays ≡ shapes_of shapes plan (take n plan.system.stencils.images) → (x : ℕ) → x < length b.arrays → depth b x ≡ words_in shapes plan x
words_are shapes plan b n e x lt =
    let images = plan.system.stencils.images in
    let none : Shape = record { width = 0; depth = 0 } in
    let s : Shape = slice_index_or b.arrays x none in
    let here : slice_get b.arrays x ≡ Some s = slice_get-get_or b.arrays x none lt in
    let front : slice_get (shapes_of shapes plan (take n images)) x ≡ Some s = subst (λ (ss : List Shape). slice_get ss x ≡ Some s) e here in
    let whole : slice_get (shapes_of shapes plan images) x ≡ Some s = subst (λ (ss : List Shape). slice_get ss x ≡ Some s) (sym (shapes_split shapes plan images n)) (slice_get-append (shapes_of shapes plan (take n images)) (shapes_of shapes plan (drop n images)) x s front) in
    ap (λ (o : Option Shape). unwrap_or (option_map (λ (t : Shape). t.depth) o) 0) (here ∙ sym whole)

-- an array that is read directly in the netlist is so by the plan
pub direct_is : (form : Form) (plan : Plan) (b : Netlist) (x : ℕ) → depth b x ≡ words_in form.shapes plan x → IsTrue (is_direct form.long b x) → IsTrue (reads_directly form plan x)
direct_is form plan b x same is = subst (λ (d : ℕ). IsTrue (not (form.long d))) same is

-- what the taps of a buffer are made of
pub short_tap : (form : Form) (plan : Plan) (g : ℕ) (b : Netlist) (first end : ℕ) → first ≡ first_array form.shapes plan g → end ≡ end_array form.shapes plan g → ((x : ℕ) → x < end → depth b x ≡ words_in form.shapes plan x) → (h : Holder) → IsTrue (is_short form.long b first end h) → IsTrue (tap_source_of form plan g b.enable h)
short_tap form plan g b first end low high same (OfNet n) is = is
short_tap form plan g b first end low high same (OfArray x) is =
    let ranged : IsTrue (nat_le first x && nat_lt x end) = and_left (nat_le first x && nat_lt x end) (is_direct form.long b x) is in
    let short : IsTrue (is_direct form.long b x) = and_right (nat_le first x && nat_lt x end) (is_direct form.long b x) is in
    let within : x < end = is_lt x end (and_right (nat_le first x) (nat_lt x end) ranged) in
    and_both (reads_directly form plan x) (is_array_of form.shapes plan g x) (direct_is form plan b x (same x within) short)
    (subst (λ (e : ℕ). IsTrue (nat_le (first_array form.shapes plan g) x && nat_lt x e)) high (subst (λ (f : ℕ). IsTrue (nat_le f x && nat_lt x end)) low ranged))

pub any_of : {X : Type 0} (test : X → Bool) (xs : List X) (x : X) → Contains xs x → IsTrue (test x) → IsTrue (list_any test xs)
any_of test [] x (k, lt, e) h = absurd (let f : ⊥ = omega (arith, lt) in f)
any_of test (y ∷ xs) x (zero, lt, e) h = first (test y) (subst (λ z. IsTrue (test z)) (sym e) h)
  where
    first : (t : Bool) → IsTrue t → IsTrue (t || list_any test xs)
    first true h = h
    first false h = absurd (let f : ⊥ = cc in f)
any_of test (y ∷ xs) x (suc k, lt, e) h = rest (test y) (any_of test xs x (k, (let g : k < length xs = omega (arith, lt) in g), e) h)
  where
    rest : (t : Bool) → IsTrue (list_any test xs) → IsTrue (t || list_any test xs)
    rest true h = refl
    rest false h = h

-- the base of an image has rst, en and the registers, and what the taps of its reads are made of
pub control_source : (form : Form) (plan : Plan) (f : ℕ) (e : Bool) → HasControl e (source_of form plan f e)
control_source form plan f e (OfNet n) h = h
control_source form plan f e (OfArray x) h = absurd (let f : ⊥ = cc in f)

pub tap_in_source : (form : Form) (plan : Plan) (f : ℕ) (e : Bool) (r : LiveRead) → Contains (reads_in plan f) r → (h : Holder) → IsTrue (tap_source_of form plan r.g e h) → IsTrue (source_of form plan f e h)
tap_in_source form plan f e r has (OfNet n) h = h
tap_in_source form plan f e r has (OfArray x) h =
    let own : Bool = is_array_of form.shapes plan r.g x in
    and_both (reads_directly form plan x) (list_any (λ (q : LiveRead). is_array_of form.shapes plan q.g x) (reads_in plan f)) (and_left (reads_directly form plan x) own h)
    (any_of (λ (q : LiveRead). is_array_of form.shapes plan q.g x) (reads_in plan f) r has (and_right (reads_directly form plan x) own h))

-- all of these are inputs, registers and arrays that are not long
pub control_direct : (form : Form) (plan : Plan) (e : Bool) → HasControl e (direct_source form plan)
control_direct form plan e (OfNet (Input k)) h = refl
control_direct form plan e (OfNet (Output k)) h = h
control_direct form plan e (OfNet (Wire k)) h = h
control_direct form plan e (OfNet (Reg k)) h = refl
control_direct form plan e (OfArray x) h = absurd (let f : ⊥ = cc in f)

pub but_direct : (form : Form) (plan : Plan) (e : Bool) (copies : List ℕ) (h : Holder) → IsTrue (is_control_but e copies h) → IsTrue (direct_source form plan h)
but_direct form plan e copies (OfNet (Input k)) h = refl
but_direct form plan e copies (OfNet (Output k)) h = h
but_direct form plan e copies (OfNet (Wire k)) h = h
but_direct form plan e copies (OfNet (Reg k)) h = refl
but_direct form plan e copies (OfArray x) h = absurd (let f : ⊥ = cc in f)

pub tap_in_direct : (form : Form) (plan : Plan) (g : ℕ) (e : Bool) (h : Holder) → IsTrue (tap_source_of form plan g e h) → IsTrue (direct_source form plan h)
tap_in_direct form plan g e (OfNet n) h = control_direct form plan e (OfNet n) h
tap_in_direct form plan g e (OfArray x) h = and_left (reads_directly form plan x) (is_array_of form.shapes plan g x) h

-- the base of what an image's own puts read
or_right : (p q : Bool) → IsTrue q → IsTrue (p || q)
or_right true q h = refl
or_right false q h = h

or_left : (p q : Bool) → IsTrue p → IsTrue (p || q)
or_left true q h = refl
or_left false q h = absurd (let f : ⊥ = cc in f)

pub source_kept : (form : Form) (plan : Plan) (f : ℕ) (e : Bool) (h : Holder) → IsTrue (source_of form plan f e h) → IsTrue (kept_source_of form plan f e h)
source_kept form plan f e (OfNet n) h = h
source_kept form plan f e (OfArray x) h =
    let read : Bool = list_any (λ (r : LiveRead). is_array_of form.shapes plan r.g x) (reads_in plan f) in
    let own : Bool = is_array_of form.shapes plan f x in
    and_both (reads_directly form plan x) (own || read) (and_left (reads_directly form plan x) read h) (or_right own read (and_right (reads_directly form plan x) read h))

pub control_kept : (form : Form) (plan : Plan) (f : ℕ) (e : Bool) → HasControl e (kept_source_of form plan f e)
control_kept form plan f e (OfNet n) h = h
control_kept form plan f e (OfArray x) h = absurd (let f : ⊥ = cc in f)

pub own_kept : (form : Form) (plan : Plan) (f : ℕ) (e : Bool) (x : ℕ) → IsTrue (is_array_of form.shapes plan f x) → IsTrue (reads_directly form plan x) → IsTrue (kept_source_of form plan f e (OfArray x))
own_kept form plan f e x own short =
    let read : Bool = list_any (λ (r : LiveRead). is_array_of form.shapes plan r.g x) (reads_in plan f) in
    and_both (reads_directly form plan x) (is_array_of form.shapes plan f x || read) short (or_left (is_array_of form.shapes plan f x) read own)

-- the copies as the netlist grows
pub copies_last : (long : (words : ℕ) → Bool) (c b : Netlist) (copies : List ℕ) (shapes : List Shape) → Includes c b → All (λ r. r < length b.regs) copies → AreCopies long b copies shapes → AreCopies long c copies shapes
copies_last long c b copies shapes f there is =
    subst (λ (l : List ℕ). AreCopies long c l shapes) (append-nil copies) (subst (λ (ss : List Shape). AreCopies long c (copies ++ []) ss) (append-nil shapes) (copies_joined long c b copies [] shapes [] f there is refl))
