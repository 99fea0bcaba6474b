-- Each line that is taken is the report's next one.
use Rattle.std.proofs.Common.{◌≡◌, ◌<◌, ◌≤◌, ◌^◌, ◌∙◌, inl, inr, ℕ, List, [], ◌∷◌, ◌++◌, length, map, codes, refl, ap, sym, subst, arith, append_assoc, Bool, true, false}
use Rattle.std.specs.Prelude.{Some, None, nat_eq, nat_lt, ◌&&◌, ◌||◌, not, if◌then◌else◌}
use Rattle.std.specs.List.{AllByRecursion}
use Rattle.std.proofs.lemmas.Bool.{eqb-true, ne_eqb, ltb-true, ltb-false, and_parts, or_cases, not-true}
use Rattle.std.proofs.lemmas.List.{append-nil, map_push}
use Rattle.std.proofs.lemmas.Option.{same_Some}
use Rattle.report_text.specs.declared.report.ImageLine.{ImageLine}
use Rattle.report_text.specs.declared.step.Stage.{Stage}
use Rattle.report_text.specs.declared.step.Stage.TheVariants.{Start, Plan, Limits, Age, Size, Images, Latencies, Clocks, Bits, Reads, Flow, End}
use Rattle.std.specs.Str.{bytes_eq}
use Rattle.report_text.specs.Reports.{Report, Meets, IsImageLine, AreDistinct, names_of, most_images, most_latencies}
use Rattle.report_text.specs.Layout.{plan_line, limits_line, age_line, size_line, image_line, latency_line, clocks_line, reads_line, flow_line, head_lines}
use Rattle.report_text.specs.Reading.{◌>>=◌, number_line_at, pair_line_at, image_at, flow_at, place_of, within, follows, planned, sized, imaged, delayed, counted, flowing, ended, next}
use Rattle.report_text.proofs.Options.{bind_some, if_some, unless_some, or_some}
use Rattle.report_text.proofs.Fields.{line_takes, pair_takes}
use Rattle.report_text.proofs.ImageLines.{within_is, image_takes}
use Rattle.report_text.proofs.FlowLines.{flow_takes}
use Rattle.report_text.proofs.Words.{same_is}
use Rattle.report_text.proofs.Automaton.{upto_images, upto_latencies, upto_bits, upto_reads, upto_flow, upto, with_latency, with_size, finished, NoLatencies, NoImages, IsLater, Ready, later_head}
use Rattle.report_text.proofs.Values.{plan_meets, limits_meets, age_meets, sized_meets, imaged_meets, delayed_meets, clocks_meets, bits_meets, reads_meets, flow_meets}

-- the lines taken so far begin a report
pub record Begun (stage : Stage) (r : Report) (taken : List (List ℕ)) : Type 0 where
  pub ready : Ready stage r
  pub meets : Meets (finished stage r)
  pub are : taken ≡ upto stage r

abbrev With : List (List ℕ) → List ℕ → Stage × Report → Type 0
With taken line s = Begun s.0 s.1 (taken ++ line ∷ [])

later : (v : ℕ) → (nat_eq v 2 || nat_eq v 3) ≡ true → (nat_eq v 1 ≡ false) × (1 ≤ v) × (v ≤ 3)
later v e = elim (or_cases (nat_eq v 2) (nat_eq v 3) e) [
  | inl h ↦ at 2 (eqb-true v 2 h) (omega arith) (omega arith)
  | inr h ↦ at 3 (eqb-true v 3 h) (omega arith) (omega arith)
]
  where
    at : (k : ℕ) → v ≡ k → 2 ≤ k → k ≤ 3 → (nat_eq v 1 ≡ false) × (1 ≤ v) × (v ≤ 3)
    at k h a b = (ne_eqb v 1 (λ i. omega arith), omega arith, omega arith)

planned_step : (r : Report) (taken : List (List ℕ)) (line : List ℕ) (s : Stage × Report) → Begun Start r taken → planned r line ≡ Some s → With taken line s
planned_step r taken line s b e =
    let a = bind_some (number_line_at (codes "plan ") line) (λ v. if nat_eq v 2 || nat_eq v 3 then Some (Plan, record r { version = v }) else None) s e in
    let i = if_some (nat_eq a.0 2 || nat_eq a.0 3) (Plan, record r { version = a.0 }) s a.2 in
    let l = later a.0 i.0 in
    let t = line_takes (codes "plan ") line a.0 a.1 in
    subst (With taken line) i.1 (record {
      ready = (l.0, b.ready.1);
      meets = plan_meets r a.0 b.meets l.0 l.1 l.2;
      are = ap (λ x. x ++ line ∷ []) b.are ∙ ap (λ x. x ∷ []) t.0;
    })

sized_step : (r : Report) (taken : List (List ℕ)) (line : List ℕ) (s : Stage × Report) → taken ≡ head_lines r → NoImages r → Meets (with_size r) → sized r line ≡ Some s → With taken line s
sized_step r taken line s b k m e =
    let a = bind_some (pair_line_at (codes "size ") line) (λ x. if within 4096 x.0 && within 4096 x.1 then Some (Size, record r { width = x.0; height = x.1 }) else None) s e in
    let i = if_some (within 4096 a.0.0 && within 4096 a.0.1) (Size, record r { width = a.0.0; height = a.0.1 }) s a.2 in
    let p = and_parts (within 4096 a.0.0) (within 4096 a.0.1) i.0 in
    let w = within_is 4096 a.0.0 p.0 in
    let h = within_is 4096 a.0.1 p.1 in
    let t = pair_takes (codes "size ") line a.0.0 a.0.1 a.1 in
    subst (With taken line) i.1 (record {
      ready = k;
      meets = sized_meets r a.0.0 a.0.1 m w.0 w.1 h.0 h.1;
      are = ap (λ x. x ++ line ∷ []) b ∙ ap (λ x. head_lines r ++ x ∷ []) t.0;
    })

start_head : (r : Report) → r.version ≡ 1 → head_lines r ≡ []
start_head r e = ap (λ v. if nat_eq v 1 then [] else plan_line r.version ∷ limits_line r.bits_limit r.latency_limit ∷ age_line r.age ∷ []) e

start_step : (r : Report) (taken : List (List ℕ)) (line : List ℕ) (s : Stage × Report) → Begun Start r taken → next Start r line ≡ Some s → With taken line s
start_step r taken line s b e = elim (or_some (planned r line) (sized r line) s e) [
  | inl h ↦ planned_step r taken line s b h
  | inr h ↦ sized_step r taken line s (b.are ∙ sym (start_head r b.ready.0)) b.ready.1 b.meets h
]

plan_step : (r : Report) (taken : List (List ℕ)) (line : List ℕ) (s : Stage × Report) → Begun Plan r taken → next Plan r line ≡ Some s → With taken line s
plan_step r taken line s b e =
    let a = bind_some (pair_line_at (codes "limits ") line) (λ x. Some (Limits, record r { bits_limit = x.0; latency_limit = x.1 })) s e in
    let t = pair_takes (codes "limits ") line a.0.0 a.0.1 a.1 in
    subst (With taken line) (same_Some (Limits, record r { bits_limit = a.0.0; latency_limit = a.0.1 }) s a.2) (record {
      ready = b.ready;
      meets = limits_meets r a.0.0 a.0.1 b.meets b.ready.0 t.1 t.2;
      are = ap (λ x. x ++ line ∷ []) b.are ∙ ap (λ x. plan_line r.version ∷ x ∷ []) t.0;
    })

limits_step : (r : Report) (taken : List (List ℕ)) (line : List ℕ) (s : Stage × Report) → Begun Limits r taken → next Limits r line ≡ Some s → With taken line s
limits_step r taken line s b e =
    let a = bind_some (number_line_at (codes "age ") line) (λ n. if nat_lt 64 n then None else Some (Age, record r { age = n })) s e in
    let i = unless_some (nat_lt 64 a.0) (Age, record r { age = a.0 }) s a.2 in
    let t = line_takes (codes "age ") line a.0 a.1 in
    subst (With taken line) i.1 (record {
      ready = b.ready.1;
      meets = age_meets r a.0 b.meets b.ready.0 (ltb-false 64 a.0 i.0);
      are = ap (λ x. x ++ line ∷ []) b.are ∙ ap (λ x. plan_line r.version ∷ limits_line r.bits_limit r.latency_limit ∷ x ∷ []) t.0 ∙ sym (later_head (record r { age = a.0 }) b.ready.0);
    })

imaged_step : (r : Report) (images : List ImageLine) (taken : List (List ℕ)) (line : List ℕ) (s : Stage × Report) → taken ≡ upto_images r → NoLatencies r
    → AllByRecursion IsImageLine r.images → AreDistinct (names_of r.images) → Meets (with_latency (record r { images = images })) → imaged r line ≡ Some s → With taken line s
imaged_step r images taken line s b k all distinct m e =
    let a = bind_some (image_at line) (λ i. if nat_lt (length r.images) (most_images r.version) && nat_eq (place_of r.images i.name) (length r.images) then Some (Images, record r { images = r.images ++ i ∷ [] }) else None) s e in
    let i = if_some (nat_lt (length r.images) (most_images r.version) && nat_eq (place_of r.images a.0.name) (length r.images)) (Images, record r { images = r.images ++ a.0 ∷ [] }) s a.2 in
    let p = and_parts (nat_lt (length r.images) (most_images r.version)) (nat_eq (place_of r.images a.0.name) (length r.images)) i.0 in
    let t = image_takes line a.0 a.1 in
    subst (With taken line) i.1 (record {
      ready = k;
      meets = imaged_meets r images a.0 m all distinct k.1 t.1 (ltb-true _ _ p.0) (eqb-true _ _ p.1);
      are = ap (λ x. x ++ line ∷ []) b ∙ append_assoc (head_lines r) (size_line r.width r.height ∷ map image_line r.images) (line ∷ [])
          ∙ ap (λ x. head_lines r ++ (size_line r.width r.height ∷ (map image_line r.images ++ x ∷ []))) t.0
          ∙ ap (λ x. head_lines r ++ (size_line r.width r.height ∷ x)) (sym (map_push image_line r.images a.0));
    })

delayed_step : (r : Report) (latencies : List ℕ) (taken : List (List ℕ)) (line : List ℕ) (s : Stage × Report) → taken ≡ upto_latencies r → r.flow ≡ []
    → AllByRecursion (λ n. n < 2 ^ 64) r.latencies → Meets (record r { latencies = latencies }) → delayed r line ≡ Some s → With taken line s
delayed_step r latencies taken line s b k all m e =
    let a = bind_some (number_line_at (codes "latency ") line) (λ n. if nat_lt (length r.latencies) (most_latencies r.version) then Some (Latencies, record r { latencies = r.latencies ++ n ∷ [] }) else None) s e in
    let i = if_some (nat_lt (length r.latencies) (most_latencies r.version)) (Latencies, record r { latencies = r.latencies ++ a.0 ∷ [] }) s a.2 in
    let t = line_takes (codes "latency ") line a.0 a.1 in
    subst (With taken line) i.1 (record {
      ready = k;
      meets = delayed_meets r latencies a.0 m all t.1 (ltb-true _ _ i.0);
      are = ap (λ x. x ++ line ∷ []) b ∙ append_assoc (upto_images r) (map latency_line r.latencies) (line ∷ [])
          ∙ ap (λ x. upto_images r ++ (map latency_line r.latencies ++ x ∷ [])) t.0
          ∙ ap (λ x. upto_images r ++ x) (sym (map_push latency_line r.latencies a.0));
    })

pub none_distinct : AreDistinct []
none_distinct i j h l = absurd (omega arith)

size_step : (r : Report) (taken : List (List ℕ)) (line : List ℕ) (s : Stage × Report) → Begun Size r taken → next Size r line ≡ Some s → With taken line s
size_step r taken line s b e =
    let k = b.ready in
    imaged_step r _ taken line s (b.are ∙ ap (λ l. head_lines r ++ (size_line r.width r.height ∷ map image_line l)) (sym k.0)) (k.1, k.2)
    (subst (AllByRecursion IsImageLine) (sym k.0) tt) (subst (λ l. AreDistinct (names_of l)) (sym k.0) none_distinct) b.meets e

images_step : (r : Report) (taken : List (List ℕ)) (line : List ℕ) (s : Stage × Report) → Begun Images r taken → next Images r line ≡ Some s → With taken line s
images_step r taken line s b e = elim (or_some (imaged r line) (delayed r line) s e) [
  | inl h ↦ imaged_step r r.images taken line s b.are b.ready b.meets.images b.meets.distinct b.meets h
  | inr h ↦ delayed_step r _ taken line s (b.are ∙ sym (append-nil (upto_images r)) ∙ ap (λ l. upto_images r ++ map latency_line l) (sym b.ready.0)) b.ready.1
      (subst (AllByRecursion (λ n. n < 2 ^ 64)) (sym b.ready.0) tt) b.meets h
]

timed_step : (r : Report) (taken : List (List ℕ)) (line : List ℕ) (s : Stage × Report) → Begun Latencies r taken → (number_line_at (codes "clocks ") line >>= λ n. Some (Clocks, record r { clocks = n })) ≡ Some s → With taken line s
timed_step r taken line s b e =
    let a = bind_some (number_line_at (codes "clocks ") line) (λ n. Some (Clocks, record r { clocks = n })) s e in
    let t = line_takes (codes "clocks ") line a.0 a.1 in
    subst (With taken line) (same_Some (Clocks, record r { clocks = a.0 }) s a.2) (record {
      ready = b.ready;
      meets = clocks_meets r a.0 b.meets t.1;
      are = ap (λ x. x ++ line ∷ []) b.are ∙ ap (λ x. upto_latencies r ++ x ∷ []) t.0;
    })

latencies_step : (r : Report) (taken : List (List ℕ)) (line : List ℕ) (s : Stage × Report) → Begun Latencies r taken → next Latencies r line ≡ Some s → With taken line s
latencies_step r taken line s b e = elim (or_some (delayed r line) (number_line_at (codes "clocks ") line >>= λ n. Some (Clocks, record r { clocks = n })) s e) [
  | inl h ↦ delayed_step r r.latencies taken line s b.are b.ready b.meets.latencies b.meets h
  | inr h ↦ timed_step r taken line s b h
]

clocks_step : (r : Report) (taken : List (List ℕ)) (line : List ℕ) (s : Stage × Report) → Begun Clocks r taken → next Clocks r line ≡ Some s → With taken line s
clocks_step r taken line s b e =
    let a = bind_some (number_line_at (codes "bits ") line) (λ n. Some (Bits, record r { bits = n })) s e in
    let t = line_takes (codes "bits ") line a.0 a.1 in
    subst (With taken line) (same_Some (Bits, record r { bits = a.0 }) s a.2) (record {
      ready = b.ready;
      meets = bits_meets r a.0 b.meets t.1;
      are = ap (λ x. x ++ line ∷ []) b.are ∙ append_assoc (upto_latencies r) (clocks_line r.clocks ∷ []) (line ∷ []) ∙ ap (λ x. upto_latencies r ++ (clocks_line r.clocks ∷ x ∷ [])) t.0;
    })

counted_step : (r : Report) (taken : List (List ℕ)) (line : List ℕ) (s : Stage × Report) → Begun Bits r taken → IsLater r → counted r line ≡ Some s → With taken line s
counted_step r taken line s b l e =
    let a = bind_some (number_line_at (codes "reads ") line) (λ n. Some (Reads, record r { reads = n })) s e in
    let t = line_takes (codes "reads ") line a.0 a.1 in
    subst (With taken line) (same_Some (Reads, record r { reads = a.0 }) s a.2) (record {
      ready = b.ready;
      meets = reads_meets r a.0 b.meets l t.1;
      are = ap (λ x. x ++ line ∷ []) b.are ∙ ap (λ x. upto_bits r ++ x ∷ []) t.0 ∙ ap (λ x. upto_bits r ++ (if x then [] else reads_line a.0 ∷ [])) (sym l);
    })

flowing_step : (r : Report) (taken : List (List ℕ)) (line : List ℕ) (s : Stage × Report) → taken ≡ upto_flow r → Meets r → flowing r line ≡ Some s → With taken line s
flowing_step r taken line s b m e =
    let a = bind_some (flow_at r.images line) (λ x. if follows r.flow x then Some (Flow, record r { flow = r.flow ++ x ∷ [] }) else None) s e in
    let i = if_some (follows r.flow a.0) (Flow, record r { flow = r.flow ++ a.0 ∷ [] }) s a.2 in
    let t = flow_takes r.images line a.0 a.1 in
    subst (With taken line) i.1 (record {
      ready = tt;
      meets = flow_meets r a.0 m t.1 i.0;
      are = ap (λ x. x ++ line ∷ []) b ∙ append_assoc (upto_reads r) (map (flow_line r.images) r.flow) (line ∷ [])
          ∙ ap (λ x. upto_reads r ++ (map (flow_line r.images) r.flow ++ x ∷ [])) t.0
          ∙ ap (λ x. upto_reads r ++ x) (sym (map_push (flow_line r.images) r.flow a.0));
    })

ended_step : (r : Report) (taken : List (List ℕ)) (line : List ℕ) (s : Stage × Report) → taken ≡ upto_flow r → Meets r → ended r line ≡ Some s → With taken line s
ended_step r taken line s b m e =
    let i = if_some (bytes_eq line (codes "end\n") && not (nat_eq r.version 1)) (End, r) s e in
    let p = and_parts (bytes_eq line (codes "end\n")) (not (nat_eq r.version 1)) i.0 in
    subst (With taken line) i.1 (record {
      ready = not-true _ p.1;
      meets = m;
      are = ap (λ x. x ++ line ∷ []) b ∙ ap (λ x. upto_flow r ++ x ∷ []) (same_is line (codes "end\n") p.0);
    })

none_flow : (r : Report) (taken : List (List ℕ)) → taken ≡ upto_reads r → r.flow ≡ [] → taken ≡ upto_flow r
none_flow r taken b k = b ∙ sym (append-nil (upto_reads r)) ∙ ap (λ l. upto_reads r ++ map (flow_line r.images) l) (sym k)

bits_step : (r : Report) (taken : List (List ℕ)) (line : List ℕ) (s : Stage × Report) → Begun Bits r taken → next Bits r line ≡ Some s → With taken line s
bits_step r taken line s b = by (nat_eq r.version 1) refl
  where
    by : (t : Bool) → nat_eq r.version 1 ≡ t → (if t then flowing r line else counted r line) ≡ Some s → With taken line s
    by true h e = flowing_step r taken line s (none_flow r taken (b.are ∙ sym (append-nil (upto_bits r)) ∙ ap (λ t. upto_bits r ++ (if t then [] else reads_line r.reads ∷ [])) (sym h)) b.ready) b.meets e
    by false h e = counted_step r taken line s b h e

reads_step : (r : Report) (taken : List (List ℕ)) (line : List ℕ) (s : Stage × Report) → Begun Reads r taken → next Reads r line ≡ Some s → With taken line s
reads_step r taken line s b e = elim (or_some (flowing r line) (ended r line) s e) [
  | inl h ↦ flowing_step r taken line s (none_flow r taken b.are b.ready) b.meets h
  | inr h ↦ ended_step r taken line s (none_flow r taken b.are b.ready) b.meets h
]

flow_step : (r : Report) (taken : List (List ℕ)) (line : List ℕ) (s : Stage × Report) → Begun Flow r taken → next Flow r line ≡ Some s → With taken line s
flow_step r taken line s b e = elim (or_some (flowing r line) (ended r line) s e) [
  | inl h ↦ flowing_step r taken line s b.are b.meets h
  | inr h ↦ ended_step r taken line s b.are b.meets h
]

pub steps : (stage : Stage) (r : Report) (taken : List (List ℕ)) (line : List ℕ) (s : Stage × Report) → Begun stage r taken → next stage r line ≡ Some s → Begun s.0 s.1 (taken ++ line ∷ [])
steps Start r taken line s b e = start_step r taken line s b e
steps Plan r taken line s b e = plan_step r taken line s b e
steps Limits r taken line s b e = limits_step r taken line s b e
steps Age r taken line s b e = sized_step r taken line s b.are b.ready b.meets e
steps Size r taken line s b e = size_step r taken line s b e
steps Images r taken line s b e = images_step r taken line s b e
steps Latencies r taken line s b e = latencies_step r taken line s b e
steps Clocks r taken line s b e = clocks_step r taken line s b e
steps Bits r taken line s b e = bits_step r taken line s b e
steps Reads r taken line s b e = reads_step r taken line s b e
steps Flow r taken line s b e = flow_step r taken line s b e
steps End r taken line s b e = absurd (cc e)
