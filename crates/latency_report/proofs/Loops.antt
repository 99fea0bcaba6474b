-- Loops over constraints, and lists that are made place by place.
use Rattle.std.proofs.Common.{◌≡◌, ◌∙◌, ℕ, ◌+◌, ◌<◌, ◌≤◌, List, [], ◌∷◌, ◌++◌, length, map, take, drop, get_or, refl, sym, ap, append_assoc, add-one, drop-cons, arith}
use Rattle.std.specs.List.{range_with_len}
use Rattle.std.proofs.lemmas.List.{length-map, get_or-map, append-nil}
use Rattle.std.proofs.lemmas.List.FromFn.{get_or-map-range_with_len, length-range_with_len}
use Rattle.std.proofs.Math.ListN.{drop_of_length-le}
use Rattle.raster_delay.specs.declared.placed.PlacedRead.{PlacedRead}
use Rattle.report_text.specs.declared.report.FlowLine.{FlowLine}
use Rattle.plan_check.specs.Flows.{carried}
use Rattle.latency_report.proofs.Lines.{Maker, one, step, carried_next}

-- constraints of the images from a place on
pub ranged : (f : ℕ → Maker) (a : ℕ) (flow : List ℕ) (k j x : ℕ) (old new whole : List FlowLine)
    → k < length flow → a + k ≡ j → get_or flow k 0 ≡ x → new ≡ old ++ one (f j x) x
    → old ++ carried (drop k (map f (range_with_len a (length flow)))) (drop k flow) ≡ whole
    → new ++ carried (drop (k + 1) (map f (range_with_len a (length flow)))) (drop (k + 1) flow) ≡ whole
ranged f a flow k j x old new whole lt ej ex made so =
    let size = length-map (range_with_len a (length flow)) f ∙ length-range_with_len a (length flow) in
    step (map f (range_with_len a (length flow))) flow k (f j) x old new whole (omega (arith, size)) lt
    (get_or-map-range_with_len f a (length flow) k j (f j) lt ej) ex made so

-- constraints of reads
pub listed : (f : PlacedRead → Maker) (reads : List PlacedRead) (flow : List ℕ) (k : ℕ) (d : PlacedRead) (x : ℕ) (line : FlowLine) (old new whole : List FlowLine)
    → k < length reads → length flow ≡ length reads → get_or flow k 0 ≡ x → line ≡ f (get_or reads k d) x → new ≡ old ++ one line x
    → old ++ carried (drop k (map f reads)) (drop k flow) ≡ whole
    → new ++ carried (drop (k + 1) (map f reads)) (drop (k + 1) flow) ≡ whole
listed f reads flow k d x line old new whole lt same ex is made so =
    let r = get_or reads k d in
    let size = length-map reads f in
    step (map f reads) flow k (f r) x old new whole (omega (arith, size)) (omega arith)
    (get_or-map f reads k d (f r) lt) ex (made ∙ ap (λ l. old ++ one l x) is) so

-- none are left
pub done : (ms : List Maker) (flow : List ℕ) (k : ℕ) (old whole : List FlowLine) → length ms ≤ k
    → old ++ carried (drop k ms) (drop k flow) ≡ whole → old ≡ whole
done ms flow k old whole le so =
    sym (append-nil old) ∙ (ap (λ l. old ++ carried l (drop k flow)) (sym (drop_of_length-le ms le)) ∙ so)

pub ranged_done : (f : ℕ → Maker) (a : ℕ) (flow : List ℕ) (k : ℕ) (old whole : List FlowLine) → length flow ≤ k
    → old ++ carried (drop k (map f (range_with_len a (length flow)))) (drop k flow) ≡ whole → old ≡ whole
ranged_done f a flow k old whole le so =
    let size = length-map (range_with_len a (length flow)) f ∙ length-range_with_len a (length flow) in
    done (map f (range_with_len a (length flow))) flow k old whole (omega (arith, size)) so

-- makers one after another take the flow one after another
pub carried_append : (ms ns : List Maker) (flow : List ℕ) → length ms ≤ length flow → carried (ms ++ ns) flow ≡ carried ms (take (length ms) flow) ++ carried ns (drop (length ms) flow)
carried_append [] ns flow le = refl
carried_append (m ∷ ms) ns [] le = absurd (omega arith)
carried_append (m ∷ ms) ns (x ∷ flow) le =
    carried_next m (ms ++ ns) x flow
    ∙ (ap (λ l. one (m x) x ++ l) (carried_append ms ns flow (omega arith))
    ∙ (sym (append_assoc (one (m x) x) (carried ms (take (length ms) flow)) (carried ns (drop (length ms) flow)))
    ∙ ap (λ l. l ++ carried ns (drop (length ms) flow)) (sym (carried_next m ms x (take (length ms) flow)))))

-- a list that is made from another, item by item
module _ {X Y : Type 0} (f : X → Y) (xs : List X) (whole : List Y) where
  pub more : (k : ℕ) (d : X) (y : Y) (old new : List Y) → k < length xs → y ≡ f (get_or xs k d) → new ≡ old ++ (y ∷ [])
      → old ++ map f (drop k xs) ≡ whole → new ++ map f (drop (k + 1) xs) ≡ whole
  more k d y old new lt is made so =
      let next : drop k xs ≡ get_or xs k d ∷ drop (k + 1) xs = drop-cons xs k d lt ∙ ap (λ j. get_or xs k d ∷ drop j xs) (sym (add-one k)) in
      ap (λ l. l ++ map f (drop (k + 1) xs)) made
      ∙ (append_assoc old (y ∷ []) (map f (drop (k + 1) xs))
      ∙ (ap (λ z. old ++ (z ∷ map f (drop (k + 1) xs))) is
      ∙ (ap (λ l. old ++ map f l) (sym next) ∙ so)))

  pub all : (k : ℕ) (old : List Y) → length xs ≤ k → old ++ map f (drop k xs) ≡ whole → old ≡ whole
  all k old le so = sym (append-nil old) ∙ (ap (λ l. old ++ map f l) (sym (drop_of_length-le xs le)) ∙ so)
