-- What lines are, from what is in them.
use Rattle.std.proofs.Common.{◌≡◌, ◌<◌, ◌-◌, ◌∙◌, ℕ, ℤ, suc, List, [], ◌∷◌, ◌++◌, length, codes, refl, ap, sym, subst, arith, Bool, true, false}
use Rattle.std.specs.Prelude.{Option, Some, None, MatchOption, nat_lt, if◌then◌else◌, not}
use Rattle.std.specs.List.{slice_get}
use Rattle.std.proofs.lemmas.Bool.{eq-eqb, lt-ltb, ltb-false}
use Rattle.std.proofs.lemmas.List.Sums.{prefix_len-le-length}
use Rattle.report_text.specs.declared.report.ImageLine.{ImageLine}
use Rattle.report_text.specs.declared.report.FlowLine.{FlowLine}
use Rattle.report_text.specs.declared.report.FlowLine.TheVariants.{Read}
use Rattle.report_text.specs.declared.step.Stage.TheVariants.{Images}
use Rattle.std.specs.Str.{bytes_eq}
use Rattle.report_text.specs.Reports.{Report, most_images}
use Rattle.report_text.specs.Reading.{strip, word_at, find, place_of, read_flow_at, flow_at, image_at, imaged, is_before, follows}
use Rattle.report_text.proofs.Fields.{strip_takes}
use Rattle.report_text.specs.Steps.{behind_names}

pub match_equal : (r o : Option ℕ) → r ≡ o → MatchOption r (o ≡ None) (λ k. o ≡ Some k)
match_equal None o e = sym e
match_equal (Some k) o e = sym e

-- reads
abbrev pub Maker : Type 0
Maker = ℕ → ℕ → ℤ → ℤ → ℕ → FlowLine

pub no_reader : (images : List ImageLine) (bytes name : List ℕ) → name ≡ (word_at bytes).0 → find images name ≡ None → (make : Maker) → read_flow_at make images bytes ≡ None
unfolding read_flow_at
no_reader images bytes name e none make =
    let h : find images (word_at bytes).0 ≡ None = subst (λ x. find images x ≡ None) e none in
    rw h refl

pub no_blank : (images : List ImageLine) (bytes name behind : List ℕ) (f : ℕ) → name ≡ (word_at bytes).0 → behind ≡ (word_at bytes).1 → find images name ≡ Some f → strip (codes " ") behind ≡ None → (make : Maker) → read_flow_at make images bytes ≡ None
unfolding read_flow_at
no_blank images bytes name behind f e d some none make =
    let h : find images (word_at bytes).0 ≡ Some f = subst (λ x. find images x ≡ Some f) e some in
    let s : strip (codes " ") (word_at bytes).1 ≡ None = subst (λ x. strip (codes " ") x ≡ None) d none in
    rw (h, s) refl

pub no_source : (images : List ImageLine) (bytes name behind after source : List ℕ) (f : ℕ) → name ≡ (word_at bytes).0 → behind ≡ (word_at bytes).1 → find images name ≡ Some f → strip (codes " ") behind ≡ Some after → source ≡ (word_at after).0 → find images source ≡ None → (make : Maker) → read_flow_at make images bytes ≡ None
unfolding read_flow_at
no_source images bytes name behind after source f e d some blank w none make =
    let h : find images (word_at bytes).0 ≡ Some f = subst (λ x. find images x ≡ Some f) e some in
    let s : strip (codes " ") (word_at bytes).1 ≡ Some after = subst (λ x. strip (codes " ") x ≡ Some after) d blank in
    let n : find images (word_at after).0 ≡ None = subst (λ x. find images x ≡ None) w none in
    rw (h, s, n) refl

pub two_names : (images : List ImageLine) (bytes name behind after source rest : List ℕ) (f g : ℕ) → name ≡ (word_at bytes).0 → behind ≡ (word_at bytes).1 → find images name ≡ Some f → strip (codes " ") behind ≡ Some after → source ≡ (word_at after).0 → rest ≡ (word_at after).1 → find images source ≡ Some g → (make : Maker) → read_flow_at make images bytes ≡ behind_names (make f g) rest
unfolding read_flow_at
two_names images bytes name behind after source rest f g e d some blank w r found make =
    let h : find images (word_at bytes).0 ≡ Some f = subst (λ x. find images x ≡ Some f) e some in
    let s : strip (codes " ") (word_at bytes).1 ≡ Some after = subst (λ x. strip (codes " ") x ≡ Some after) d blank in
    let n : find images (word_at after).0 ≡ Some g = subst (λ x. find images x ≡ Some g) w found in
    rw (h, s, n) (ap (λ x. behind_names (make f g) x) (sym r))

-- a line that begins as a read does, and is none
pub no_read : (images : List ImageLine) (line rest : List ℕ) → strip (codes "flow hold ") line ≡ None → strip (codes "flow start ") line ≡ None → strip (codes "flow read ") line ≡ Some rest → ((make : Maker) → read_flow_at make images rest ≡ None) → flow_at images line ≡ None
unfolding flow_at
no_read images line rest hold start read none =
    let keep : strip (codes "flow keep ") line ≡ None = rw (strip_takes (codes "flow read ") line rest read) refl in
    rw (hold, start, read, none Read, keep) refl

-- the last line
pub follows_last : (flow : List FlowLine) (x last : FlowLine) → Some last ≡ slice_get flow (length flow - 1) → is_before last x ≡ follows flow x
follows_last [] x last e = absurd (cc e)
follows_last (a ∷ []) x last e = let s : last ≡ a = cc e in ap (λ l. is_before l x) s
follows_last (a ∷ b ∷ more) x last e =
    let m : suc (suc (length more)) - 1 ≡ suc (length more) = omega arith in
    let n : suc (length more) - 1 ≡ length more = omega arith in
    let g = rw m at e in
    let f : Some last ≡ slice_get (b ∷ more) (suc (length more) - 1) = rw n g in
    follows_last (b ∷ more) x last f

-- images
fresh : (images : List ImageLine) (name : List ℕ) → find images name ≡ None → place_of images name ≡ length images
fresh images name e = by (nat_lt (place_of images name) (length images)) refl e
  where
    by : (t : Bool) → nat_lt (place_of images name) (length images) ≡ t → (if t then Some (place_of images name) else None) ≡ None → place_of images name ≡ length images
    by true f e = absurd (cc e)
    by false f e = let l = ltb-false _ _ f in let m = prefix_len-le-length (λ (i : ImageLine). not (bytes_eq i.name name)) images in omega (arith, l, m)

pub image_more : (r : Report) (line : List ℕ) (i j : ImageLine) (before all : List ImageLine) → image_at line ≡ Some j → i ≡ j → length r.images < most_images r.version → before ≡ r.images → find before j.name ≡ None → all ≡ r.images ++ i ∷ [] → imaged r line ≡ Some (Images, record r { images = all })
image_more r line i j before all e same few h none is =
    let new : find r.images j.name ≡ None = subst (λ x. find x j.name ≡ None) h none in
    let whole : all ≡ r.images ++ j ∷ [] = is ∙ ap (λ (x : ImageLine). r.images ++ x ∷ []) same in
    rw (e, lt-ltb _ _ few, eq-eqb _ _ (fresh r.images j.name new)) (ap (λ (x : List ImageLine). Some (Images, record r { images = x })) (sym whole))
