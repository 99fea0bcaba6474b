-- The flow is taken kind by kind, and the image lines are made one by one.
use Rattle.std.proofs.Common.{◌≡◌, ◌∙◌, ℕ, ◌+◌, ◌-◌, ◌<◌, ◌≤◌, List, [], ◌∷◌, ◌++◌, length, map, take, drop, get_or, slice_index, sym, ap, append_assoc, length-append, arith}
use Rattle.std.specs.List.{range_with_len, enumerate_from}
use Rattle.std.proofs.lemmas.List.{length-map, length-take, length-drop}
use Rattle.std.proofs.lemmas.List.FromFn.{length-range_with_len, length-enumerate_from, get_or-enumerate_from}
use Rattle.dk_base.specs.declared.stencils.Image.{Image}
use Rattle.pointwise_ir.specs.Programs.{Program}
use Rattle.raster_delay.specs.declared.placed.PlacedRead.{PlacedRead}
use Rattle.raster_delay.specs.Delays.{hold, start, read, keep, holds_of, starts_of}
use Rattle.raster_delay.specs.Systems.{System, image_count, placed_reads, constraints_in, depth}
use Rattle.report_text.specs.declared.report.ImageLine.{ImageLine}
use Rattle.report_text.specs.declared.report.FlowLine.{FlowLine}
use Rattle.latency_report.specs.Printed.{name_of, line_of}
use Rattle.plan_check.specs.Flows.{makers, carried}
use Rattle.plan_check.specs.Sums.{hold_maker, start_maker, read_maker, keep_maker}
use Rattle.latency_report.proofs.Lines.{Maker}
use Rattle.latency_report.proofs.Loops.{carried_append, more, all}

-- how many constraints there are
pub sizes : (s : System) → length (constraints_in s) ≡ image_count s + (image_count s - s.stencils.inputs) + length (placed_reads s) + length (placed_reads s)
sizes s =
    let holds = holds_of s.stencils.inputs (image_count s) in
    let starts = starts_of s.stencils.inputs (image_count s) in
    let reads = map (read s.stencils.width s.age s.stencils.inputs) (placed_reads s) in
    let keeps = map (keep s.stencils.width s.stencils.inputs (image_count s)) (placed_reads s) in
    omega (
      arith,
      length-append ((holds ++ starts) ++ reads) keeps,
      length-append (holds ++ starts) reads,
      length-append holds starts,
      length-map (range_with_len 0 (image_count s)) (hold s.stencils.inputs (image_count s)),
      length-range_with_len 0 (image_count s),
      length-map (range_with_len s.stencils.inputs (image_count s - s.stencils.inputs)) (start s.stencils.inputs),
      length-range_with_len s.stencils.inputs (image_count s - s.stencils.inputs),
      length-map (placed_reads s) (read s.stencils.width s.age s.stencils.inputs),
      length-map (placed_reads s) (keep s.stencils.width s.stencils.inputs (image_count s)),
    )

-- four kinds one after another
four : (h s r k : List Maker) (n1 n2 n3 : ℕ) (flow : List ℕ) → length h ≡ n1 → length s ≡ n2 → length r ≡ n3 → n1 + n2 + n3 ≤ length flow
    → carried (((h ++ s) ++ r) ++ k) flow
    ≡ ((carried h (take n1 flow) ++ carried s (take n2 (drop n1 flow))) ++ carried r (take n3 (drop n2 (drop n1 flow)))) ++ carried k (drop n3 (drop n2 (drop n1 flow)))
four h s r k n1 n2 n3 flow e1 e2 e3 le =
    let f1 = drop n1 flow in
    let f2 = drop n2 f1 in
    let l1 = length-drop n1 flow in
    let l2 = length-drop n2 f1 in
    let ch = carried h (take n1 flow) in
    let cs = carried s (take n2 f1) in
    let cr = carried r (take n3 f2) in
    let ck = carried k (drop n3 f2) in
    let nested : ((h ++ s) ++ r) ++ k ≡ h ++ (s ++ (r ++ k)) = append_assoc (h ++ s) r k ∙ append_assoc h s (r ++ k) in
    let one : carried (h ++ (s ++ (r ++ k))) flow ≡ ch ++ carried (s ++ (r ++ k)) f1 =
    carried_append h (s ++ (r ++ k)) flow (omega arith) ∙ ap (λ n. carried h (take n flow) ++ carried (s ++ (r ++ k)) (drop n flow)) e1 in
    let two : carried (s ++ (r ++ k)) f1 ≡ cs ++ carried (r ++ k) f2 =
    carried_append s (r ++ k) f1 (omega (arith, l1)) ∙ ap (λ n. carried s (take n f1) ++ carried (r ++ k) (drop n f1)) e2 in
    let three : carried (r ++ k) f2 ≡ cr ++ ck =
    carried_append r k f2 (omega (arith, l1, l2)) ∙ ap (λ n. carried r (take n f2) ++ carried k (drop n f2)) e3 in
    ap (λ ms. carried ms flow) nested
    ∙ (one ∙ (ap (λ l. ch ++ l) (two ∙ ap (λ l. cs ++ l) three)
    ∙ sym (append_assoc (ch ++ cs) cr ck ∙ append_assoc ch cs (cr ++ ck))))

module _ (s : System) (flow : List ℕ) (n1 n2 n3 : ℕ) where
  pub in_parts : (f1 r1 f2 r2 f3 f4 : List ℕ) (first : ℕ) (reads : List PlacedRead) (a0 a1 a2 a3 a4 : List FlowLine)
      → n1 ≡ image_count s → first ≡ s.stencils.inputs → n2 ≡ image_count s - s.stencils.inputs → reads ≡ placed_reads s → n3 ≡ length (placed_reads s) → length flow ≡ length (constraints_in s)
      → f1 ≡ take n1 flow → r1 ≡ drop n1 flow → f2 ≡ take n2 r1 → r2 ≡ drop n2 r1 → f3 ≡ take n3 r2 → f4 ≡ drop n3 r2
      → a0 ≡ [] → a1 ≡ a0 ++ carried (map hold_maker (range_with_len 0 (length f1))) f1
      → a2 ≡ a1 ++ carried (map start_maker (range_with_len first (length f2))) f2
      → a3 ≡ a2 ++ carried (map read_maker reads) f3
      → a4 ≡ a3 ++ carried (map keep_maker reads) f4
      → a4 ≡ carried (makers s) flow
  in_parts f1 r1 f2 r2 f3 f4 first reads a0 a1 a2 a3 a4 en1 ei en2 er en3 size t1 d1 t2 d2 t3 d3 p0 p1 p2 p3 p4 =
      let count = sizes s in
      let u2 : f2 ≡ take n2 (drop n1 flow) = t2 ∙ ap (take n2) d1 in
      let v2 : r2 ≡ drop n2 (drop n1 flow) = d2 ∙ ap (drop n2) d1 in
      let u3 : f3 ≡ take n3 (drop n2 (drop n1 flow)) = t3 ∙ ap (take n3) v2 in
      let u4 : f4 ≡ drop n3 (drop n2 (drop n1 flow)) = d3 ∙ ap (drop n3) v2 in
      let k1 : length f1 ≡ image_count s = ap (λ (xs : List ℕ). length xs) t1 ∙ (let e = length-take n1 flow in omega (arith, e, en1, size, count)) in
      let k2 : length f2 ≡ image_count s - s.stencils.inputs =
      ap (λ (xs : List ℕ). length xs) u2 ∙ (let e = length-take n2 (drop n1 flow) in let g = length-drop n1 flow in omega (arith, e, g, en1, en2, size, count)) in
      let c1 = ap (λ n. carried (map hold_maker (range_with_len 0 n)) f1) k1 ∙ ap (carried (map hold_maker (range_with_len 0 (image_count s)))) t1 in
      let c2 = ap (λ n. carried (map start_maker (range_with_len first n)) f2) k2
      ∙ (ap (λ i. carried (map start_maker (range_with_len i (image_count s - s.stencils.inputs))) f2) ei
      ∙ ap (carried (map start_maker (range_with_len s.stencils.inputs (image_count s - s.stencils.inputs)))) u2) in
      let c3 = ap (λ rs. carried (map read_maker rs) f3) er ∙ ap (carried (map read_maker (placed_reads s))) u3 in
      let c4 = ap (λ rs. carried (map keep_maker rs) f4) er ∙ ap (carried (map keep_maker (placed_reads s))) u4 in
      let b1 = p1 ∙ (ap (λ l. l ++ carried (map hold_maker (range_with_len 0 (length f1))) f1) p0 ∙ c1) in
      let b2 = p2 ∙ (ap (λ l. l ++ carried (map start_maker (range_with_len first (length f2))) f2) b1 ∙ ap (λ l. carried (map hold_maker (range_with_len 0 (image_count s))) (take n1 flow) ++ l) c2) in
      let b3 = p3 ∙ (ap (λ l. l ++ carried (map read_maker reads) f3) b2
      ∙ ap (λ l. (carried (map hold_maker (range_with_len 0 (image_count s))) (take n1 flow)
      ++ carried (map start_maker (range_with_len s.stencils.inputs (image_count s - s.stencils.inputs))) (take n2 (drop n1 flow))) ++ l) c3) in
      p4 ∙ (ap (λ l. l ++ carried (map keep_maker reads) f4) b3
      ∙ (ap (λ l. ((carried (map hold_maker (range_with_len 0 (image_count s))) (take n1 flow)
      ++ carried (map start_maker (range_with_len s.stencils.inputs (image_count s - s.stencils.inputs))) (take n2 (drop n1 flow)))
      ++ carried (map read_maker (placed_reads s)) (take n3 (drop n2 (drop n1 flow)))) ++ l) c4
      ∙ sym (four (map hold_maker (range_with_len 0 (image_count s))) (map start_maker (range_with_len s.stencils.inputs (image_count s - s.stencils.inputs)))
      (map read_maker (placed_reads s)) (map keep_maker (placed_reads s)) n1 n2 n3 flow
      (length-map (range_with_len 0 (image_count s)) hold_maker ∙ (length-range_with_len 0 (image_count s) ∙ sym en1))
      (length-map (range_with_len s.stencils.inputs (image_count s - s.stencils.inputs)) start_maker ∙ (length-range_with_len s.stencils.inputs (image_count s - s.stencils.inputs) ∙ sym en2))
      (length-map (placed_reads s) read_maker ∙ sym en3)
      (omega (arith, en1, en2, en3, size, count)))))

-- the line of the image at a place, and all of them
module _ (p : Program) (s : System) (d ends : List ℕ) where
  abbrev none : Image
  none = record { number = 0; width = 0 }

  abbrev line_with : List Image → List ℕ → ℕ → ℕ → ImageLine
  line_with images ds k n = record { name = name_of p (get_or images k none).number; width = (get_or images k none).width; delay = get_or ds k 0; depth = n }

  pub line_more : (images : List Image) (ds es : List ℕ) (k : ℕ) (line : ImageLine) (old new whole : List ImageLine)
      → images ≡ s.stencils.images → ds ≡ d → es ≡ ends → k < length images → slice_index ends k ≡ slice_index d k + depth s d k
      → line ≡ line_with images ds k (get_or es k 0 - get_or ds k 0) → new ≡ old ++ (line ∷ [])
      → old ++ map (line_of p (record { system = s; delays = d })) (drop k (enumerate_from 0 s.stencils.images)) ≡ whole
      → new ++ map (line_of p (record { system = s; delays = d })) (drop (k + 1) (enumerate_from 0 s.stencils.images)) ≡ whole
  line_more images ds es k line old new whole ei ed ee lt end is made so =
      let inside : k < length s.stencils.images = omega (arith, lt, ap (λ (xs : List Image). length xs) ei) in
      let size = length-enumerate_from 0 s.stencils.images in
      let deep : get_or es k 0 - get_or ds k 0 ≡ depth s d k =
      ap (λ xs. get_or xs k 0 - get_or ds k 0) ee ∙ (ap (λ xs. get_or ends k 0 - get_or xs k 0) ed ∙ (let e = end in omega (arith, e))) in
      let at : get_or (enumerate_from 0 s.stencils.images) k (0, none) ≡ (k, get_or s.stencils.images k none) =
      get_or-enumerate_from 0 s.stencils.images k (0, none) inside ∙ ap (λ j. (j, get_or s.stencils.images k none)) (let h : 0 + k ≡ k = omega arith in h) in
      let right : line ≡ line_of p (record { system = s; delays = d }) (get_or (enumerate_from 0 s.stencils.images) k (0, none)) =
      is ∙ (ap (λ xs. line_with xs ds k (get_or es k 0 - get_or ds k 0)) ei ∙ (ap (λ xs. line_with s.stencils.images xs k (get_or es k 0 - get_or ds k 0)) ed
      ∙ (ap (λ n. line_with s.stencils.images d k n) deep ∙ ap (line_of p (record { system = s; delays = d })) (sym at)))) in
      more (line_of p (record { system = s; delays = d })) (enumerate_from 0 s.stencils.images) whole k (0, none) line old new (omega (arith, size)) right made so

  pub lines_all : (images : List Image) (k : ℕ) (old whole : List ImageLine) → images ≡ s.stencils.images → length images ≤ k
      → old ++ map (line_of p (record { system = s; delays = d })) (drop k (enumerate_from 0 s.stencils.images)) ≡ whole → old ≡ whole
  lines_all images k old whole ei le so =
      all (line_of p (record { system = s; delays = d })) (enumerate_from 0 s.stencils.images) whole k old
      (omega (arith, le, ap (λ (xs : List Image). length xs) ei, length-enumerate_from 0 s.stencils.images)) so
