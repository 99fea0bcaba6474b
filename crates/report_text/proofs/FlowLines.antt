-- Flow lines: what is read is written so, and what is written so is read.
use Rattle.std.proofs.Common.{◌≡◌, ◌<◌, ◌∙◌, inl, inr, ℕ, ℤ, zero, suc, List, [], ◌∷◌, ◌++◌, length, get_or, codes, refl, ap, subst, arith}
use Rattle.std.specs.Prelude.{Some, None, nat_lt, if◌then◌else◌}
use Rattle.std.specs.List.{AllByRecursion}
use Rattle.std.specs.Fmt.{signed_decimal}
use Rattle.std.proofs.lemmas.Bool.{ltb-true, lt-ltb}
use Rattle.std.proofs.lemmas.Option.{same_Some}
use Rattle.dk_base.specs.declared.TheConstants.{MAX_SIDE}
use Rattle.dk_base.specs.Stencils.{IsOffset}
use Rattle.report_text.specs.declared.report.ImageLine.{ImageLine}
use Rattle.report_text.specs.declared.report.FlowLine.{FlowLine}
use Rattle.report_text.specs.declared.report.FlowLine.TheVariants.{Hold, Start, Read, Keep}
use Rattle.dk_base.specs.Ascii.{is_word_byte}
use Rattle.report_text.specs.Layout.{name_at, number_line, image_flow, read_flow, flow_line}
use Rattle.report_text.specs.Reports.{AreDistinct, names_of, IsImageLine, IsAmount, IsFlowLine}
use Rattle.report_text.specs.Reading.{◌>>=◌, strip, number_line_at, word_at, find, offset_at, amount_at, image_flow_at, read_flow_at, flow_at}
use Rattle.report_text.proofs.Options.{bind_some, if_some, or_some}
use Rattle.report_text.proofs.Fields.{Passes, strip_takes, line_again, line_takes}
use Rattle.report_text.proofs.Offsets.{offset_takes, offset_again}
use Rattle.report_text.proofs.Words.{some_image, name_passes, word_first, word_second, word_takes, name_at_is, find_takes, find_again}

pub all_at : {A : Type 0} (P : A → Type 0) (xs : List A) (k : ℕ) (d : A) → AllByRecursion P xs → k < length xs → P (get_or xs k d)
all_at P [] k d a h = absurd (omega arith)
all_at P (x ∷ xs) zero d a h = a.0
all_at P (x ∷ xs) (suc k) d a h = all_at P xs k d a.1 (omega arith)

pub named : (images : List ImageLine) (g : ℕ) → AllByRecursion IsImageLine images → g < length images → Passes is_word_byte (name_at images g)
named images g a h = rw (name_at_is images g h) (name_passes (get_or images g some_image).name (all_at IsImageLine images g some_image a h).name)

-- amounts
amount_takes : (bytes : List ℕ) (n : ℕ) → amount_at bytes ≡ Some n → (bytes ≡ number_line (codes " ") n) × IsAmount n
amount_takes bytes n e =
    let a = bind_some (number_line_at (codes " ") bytes) (λ n. if nat_lt 0 n then Some n else None) n e in
    let i = if_some (nat_lt 0 a.0) a.0 n a.2 in
    let t = line_takes (codes " ") bytes a.0 a.1 in
    let low = ltb-true 0 a.0 i.0 in
    subst (λ x. (bytes ≡ number_line (codes " ") x) × IsAmount x) i.1 (t.0, record { some = omega arith; most = t.1 })

amount_again : (n : ℕ) → IsAmount n → amount_at (number_line (codes " ") n) ≡ Some n
amount_again n a = let low = a.some in rw (line_again (codes " ") n a.most, lt-ltb 0 n (omega arith)) refl

-- an image and a flow
record ImageFlow (make : ℕ → ℕ → FlowLine) (images : List ImageLine) (word bytes : List ℕ) (x : FlowLine) : Type 0 where
  image : ℕ
  flow : ℕ
  is : make image flow ≡ x
  inside : image < length images
  amount : IsAmount flow
  written : word ++ bytes ≡ image_flow word images image flow

image_flow_takes : (make : ℕ → ℕ → FlowLine) (images : List ImageLine) (word bytes : List ℕ) (x : FlowLine) → image_flow_at make images bytes ≡ Some x → ImageFlow make images word bytes x
unfolding image_flow_at
image_flow_takes make images word bytes x e =
    let a = bind_some (find images (word_at bytes).0) (λ g. amount_at (word_at bytes).1 >>= λ n. Some (make g n)) x e in
    let b = bind_some (amount_at (word_at bytes).1) (λ n. Some (make a.0 n)) x a.2 in
    let f = find_takes images (word_at bytes).0 a.0 a.1 in
    let n = amount_takes (word_at bytes).1 b.0 b.1 in
    record {
      image = a.0;
      flow = b.0;
      is = same_Some (make a.0 b.0) x b.2;
      inside = f.0;
      amount = n.1;
      written = ap (λ y. word ++ y) (word_takes bytes ∙ ap (λ y. y ++ (word_at bytes).1) f.1 ∙ ap (λ y. name_at images a.0 ++ y) n.0);
    }

image_flow_again : (make : ℕ → ℕ → FlowLine) (images : List ImageLine) (g n : ℕ) → AllByRecursion IsImageLine images → AreDistinct (names_of images) → g < length images → IsAmount n
    → image_flow_at make images (name_at images g ++ number_line (codes " ") n) ≡ Some (make g n)
unfolding image_flow_at
image_flow_again make images g n a d h m =
    let p = named images g a h in
    rw (word_first (name_at images g) (number_line (codes " ") n) p refl, word_second (name_at images g) (number_line (codes " ") n) p refl, find_again images g h d, amount_again n m) refl

-- a read and a flow
record ReadFlow (make : ℕ → ℕ → ℤ → ℤ → ℕ → FlowLine) (images : List ImageLine) (word bytes : List ℕ) (x : FlowLine) : Type 0 where
  reader : ℕ
  source : ℕ
  dx : ℤ
  dy : ℤ
  flow : ℕ
  is : make reader source dx dy flow ≡ x
  reads : reader < length images
  gives : source < length images
  across : IsOffset MAX_SIDE dx
  down : IsOffset MAX_SIDE dy
  amount : IsAmount flow
  written : word ++ bytes ≡ read_flow word images reader source dx dy flow

read_flow_takes : (make : ℕ → ℕ → ℤ → ℤ → ℕ → FlowLine) (images : List ImageLine) (word bytes : List ℕ) (x : FlowLine) → read_flow_at make images bytes ≡ Some x → ReadFlow make images word bytes x
unfolding read_flow_at
read_flow_takes make images word bytes x e =
    let a = bind_some (find images (word_at bytes).0) (λ f. strip (codes " ") (word_at bytes).1 >>= λ source. find images (word_at source).0 >>= λ g. strip (codes " ") (word_at source).1 >>= λ across. offset_at across >>= λ dx. strip (codes " ") dx.1 >>= λ down. offset_at down >>= λ dy. amount_at dy.1 >>= λ n. Some (make f g dx.0 dy.0 n)) x e in
    let b = bind_some (strip (codes " ") (word_at bytes).1) (λ source. find images (word_at source).0 >>= λ g. strip (codes " ") (word_at source).1 >>= λ across. offset_at across >>= λ dx. strip (codes " ") dx.1 >>= λ down. offset_at down >>= λ dy. amount_at dy.1 >>= λ n. Some (make a.0 g dx.0 dy.0 n)) x a.2 in
    let c = bind_some (find images (word_at b.0).0) (λ g. strip (codes " ") (word_at b.0).1 >>= λ across. offset_at across >>= λ dx. strip (codes " ") dx.1 >>= λ down. offset_at down >>= λ dy. amount_at dy.1 >>= λ n. Some (make a.0 g dx.0 dy.0 n)) x b.2 in
    let d = bind_some (strip (codes " ") (word_at b.0).1) (λ across. offset_at across >>= λ dx. strip (codes " ") dx.1 >>= λ down. offset_at down >>= λ dy. amount_at dy.1 >>= λ n. Some (make a.0 c.0 dx.0 dy.0 n)) x c.2 in
    let p = bind_some (offset_at d.0) (λ dx. strip (codes " ") dx.1 >>= λ down. offset_at down >>= λ dy. amount_at dy.1 >>= λ n. Some (make a.0 c.0 dx.0 dy.0 n)) x d.2 in
    let q = bind_some (strip (codes " ") p.0.1) (λ down. offset_at down >>= λ dy. amount_at dy.1 >>= λ n. Some (make a.0 c.0 p.0.0 dy.0 n)) x p.2 in
    let r = bind_some (offset_at q.0) (λ dy. amount_at dy.1 >>= λ n. Some (make a.0 c.0 p.0.0 dy.0 n)) x q.2 in
    let s = bind_some (amount_at r.0.1) (λ n. Some (make a.0 c.0 p.0.0 r.0.0 n)) x r.2 in
    let f = find_takes images (word_at bytes).0 a.0 a.1 in
    let g = find_takes images (word_at b.0).0 c.0 c.1 in
    let dx = offset_takes d.0 p.0.1 p.0.0 p.1 in
    let dy = offset_takes q.0 r.0.1 r.0.0 r.1 in
    let n = amount_takes r.0.1 s.0 s.1 in
    let low = ap (λ y. codes " " ++ y) (dy.0 ∙ ap (λ y. signed_decimal r.0.0 ++ y) n.0) in
    let high = ap (λ y. codes " " ++ y) (dx.0 ∙ ap (λ y. signed_decimal p.0.0 ++ y) (strip_takes (codes " ") p.0.1 q.0 q.1 ∙ low)) in
    let second = ap (λ y. codes " " ++ y) (word_takes b.0 ∙ ap (λ y. y ++ (word_at b.0).1) g.1 ∙ ap (λ y. name_at images c.0 ++ y) (strip_takes (codes " ") (word_at b.0).1 d.0 d.1 ∙ high)) in
    record {
      reader = a.0;
      source = c.0;
      dx = p.0.0;
      dy = r.0.0;
      flow = s.0;
      is = same_Some (make a.0 c.0 p.0.0 r.0.0 s.0) x s.2;
      reads = f.0;
      gives = g.0;
      across = dx.1;
      down = dy.1;
      amount = n.1;
      written = ap (λ y. word ++ y) (word_takes bytes ∙ ap (λ y. y ++ (word_at bytes).1) f.1 ∙ ap (λ y. name_at images a.0 ++ y) (strip_takes (codes " ") (word_at bytes).1 b.0 b.1 ∙ second));
    }

abbrev down_line : ℤ → ℕ → List ℕ
down_line dy n = codes " " ++ (signed_decimal dy ++ number_line (codes " ") n)

abbrev across_line : ℤ → ℤ → ℕ → List ℕ
across_line dx dy n = codes " " ++ (signed_decimal dx ++ down_line dy n)

read_flow_again : (make : ℕ → ℕ → ℤ → ℤ → ℕ → FlowLine) (images : List ImageLine) (f g : ℕ) (dx dy : ℤ) (n : ℕ) → AllByRecursion IsImageLine images → AreDistinct (names_of images)
    → f < length images → g < length images → IsOffset MAX_SIDE dx → IsOffset MAX_SIDE dy → IsAmount n
    → read_flow_at make images (name_at images f ++ (codes " " ++ (name_at images g ++ across_line dx dy n))) ≡ Some (make f g dx dy n)
unfolding read_flow_at
read_flow_again make images f g dx dy n a d h k x y m =
    let p = named images f a h in
    let q = named images g a k in
    let more = codes " " ++ (name_at images g ++ across_line dx dy n) in
    rw (
      word_first (name_at images f) more p refl,
      word_second (name_at images f) more p refl,
      find_again images f h d,
      word_first (name_at images g) (across_line dx dy n) q refl,
      word_second (name_at images g) (across_line dx dy n) q refl,
      find_again images g k d,
      offset_again dx (down_line dy n) x refl,
      offset_again dy (number_line (codes " ") n) y refl,
      amount_again n m,
    ) refl

-- any flow line
abbrev IsFlow : List ImageLine → List ℕ → FlowLine → Type 0
IsFlow images line x = (line ≡ flow_line images x) × IsFlowLine (length images) x

hold_is : (images : List ImageLine) (line bytes : List ℕ) (x : FlowLine) → line ≡ codes "flow hold " ++ bytes → ImageFlow Hold images (codes "flow hold ") bytes x → IsFlow images line x
hold_is images line bytes x e h = subst (λ y. IsFlow images line y) h.is (e ∙ h.written, (h.inside, h.amount))

start_is : (images : List ImageLine) (line bytes : List ℕ) (x : FlowLine) → line ≡ codes "flow start " ++ bytes → ImageFlow Start images (codes "flow start ") bytes x → IsFlow images line x
start_is images line bytes x e h = subst (λ y. IsFlow images line y) h.is (e ∙ h.written, (h.inside, h.amount))

read_is : (images : List ImageLine) (line bytes : List ℕ) (x : FlowLine) → line ≡ codes "flow read " ++ bytes → ReadFlow Read images (codes "flow read ") bytes x → IsFlow images line x
read_is images line bytes x e h = subst (λ y. IsFlow images line y) h.is (e ∙ h.written, (h.reads, h.gives, h.across, h.down, h.amount))

keep_is : (images : List ImageLine) (line bytes : List ℕ) (x : FlowLine) → line ≡ codes "flow keep " ++ bytes → ReadFlow Keep images (codes "flow keep ") bytes x → IsFlow images line x
keep_is images line bytes x e h = subst (λ y. IsFlow images line y) h.is (e ∙ h.written, (h.reads, h.gives, h.across, h.down, h.amount))

hold_takes : (images : List ImageLine) (line : List ℕ) (x : FlowLine) → (strip (codes "flow hold ") line >>= λ b. image_flow_at Hold images b) ≡ Some x → IsFlow images line x
hold_takes images line x e =
    let a = bind_some (strip (codes "flow hold ") line) (λ b. image_flow_at Hold images b) x e in
    hold_is images line a.0 x (strip_takes (codes "flow hold ") line a.0 a.1) (image_flow_takes Hold images (codes "flow hold ") a.0 x a.2)

start_takes : (images : List ImageLine) (line : List ℕ) (x : FlowLine) → (strip (codes "flow start ") line >>= λ b. image_flow_at Start images b) ≡ Some x → IsFlow images line x
start_takes images line x e =
    let a = bind_some (strip (codes "flow start ") line) (λ b. image_flow_at Start images b) x e in
    start_is images line a.0 x (strip_takes (codes "flow start ") line a.0 a.1) (image_flow_takes Start images (codes "flow start ") a.0 x a.2)

read_takes : (images : List ImageLine) (line : List ℕ) (x : FlowLine) → (strip (codes "flow read ") line >>= λ b. read_flow_at Read images b) ≡ Some x → IsFlow images line x
read_takes images line x e =
    let a = bind_some (strip (codes "flow read ") line) (λ b. read_flow_at Read images b) x e in
    read_is images line a.0 x (strip_takes (codes "flow read ") line a.0 a.1) (read_flow_takes Read images (codes "flow read ") a.0 x a.2)

keep_takes : (images : List ImageLine) (line : List ℕ) (x : FlowLine) → (strip (codes "flow keep ") line >>= λ b. read_flow_at Keep images b) ≡ Some x → IsFlow images line x
keep_takes images line x e =
    let a = bind_some (strip (codes "flow keep ") line) (λ b. read_flow_at Keep images b) x e in
    keep_is images line a.0 x (strip_takes (codes "flow keep ") line a.0 a.1) (read_flow_takes Keep images (codes "flow keep ") a.0 x a.2)

pub flow_takes : (images : List ImageLine) (line : List ℕ) (x : FlowLine) → flow_at images line ≡ Some x → (line ≡ flow_line images x) × IsFlowLine (length images) x
unfolding flow_at
flow_takes images line x e =
    elim (or_some (strip (codes "flow hold ") line >>= λ b. image_flow_at Hold images b) _ x e) [
      | inl h ↦ hold_takes images line x h
      | inr h ↦
          elim (or_some (strip (codes "flow start ") line >>= λ b. image_flow_at Start images b) _ x h) [
            | inl i ↦ start_takes images line x i
            | inr i ↦
                elim (or_some (strip (codes "flow read ") line >>= λ b. read_flow_at Read images b) _ x i) [
                  | inl j ↦ read_takes images line x j
                  | inr j ↦ keep_takes images line x j
                ]
          ]
    ]

pub flow_again : (images : List ImageLine) (x : FlowLine) → AllByRecursion IsImageLine images → AreDistinct (names_of images) → IsFlowLine (length images) x → flow_at images (flow_line images x) ≡ Some x
unfolding flow_at
flow_again images (Hold g n) a d h = rw (image_flow_again Hold images g n a d h.0 h.1) refl
flow_again images (Start f n) a d h = rw (image_flow_again Start images f n a d h.0 h.1) refl
flow_again images (Read f g dx dy n) a d h = rw (read_flow_again Read images f g dx dy n a d h.0 h.1 h.2 h.3 h.4) refl
flow_again images (Keep f g dx dy n) a d h = rw (read_flow_again Keep images f g dx dy n a d h.0 h.1 h.2 h.3 h.4) refl
