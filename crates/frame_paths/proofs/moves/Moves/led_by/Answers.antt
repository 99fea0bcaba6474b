use Rattle.std.proofs.Common.{arith, rules, ◌≡◌, ◌⊎◌, ℤ, ◌≤ℤ◌, ◌<ℤ◌, ◌-ℤ◌, subst, to_z, of_z, w32, w64, ◌∙◌}
use Rattle.std.proofs.lemmas.Int.{ints, to_z-of_z}
use Rattle.frame_paths.proofs.Chains.{AreEnds, led_none, led_inside, led_interval, led_is, same64, small64, are_small}
use Rattle.frame_paths.proofs.moves.Moves.led_by.Goals as goal

pub returns-then-first-last-clause-led : goal.returns-then-first-last-clause-led
returns-then-first-last-clause-led c =
    let m = c.args.self in
    let small = are_small c.args.side m c.requires.moves.within c.requires.side in
    let by : to_z w64 (of_z w64 c.from-by.result) ≡ c.args.by = same64 c.from-by.result (search rules) ∙ c.from-by.ensures ∙ to_z-of_z w32 c.args.by (search rules) in
    let ends : AreEnds m c.args.by (to_z w64 (of_z w64 c.max-first.result)) (to_z w64 (of_z w64 c.min-last.result)) = record {
      first_by = c.first_led.result;
      last_by = c.last_led.result;
      first_is = cc (same64 c.max-first.result (search rules), c.max-first.ensures.value, small64 m.first small.first, same64 c.first_led.result (search rules));
      last_is = cc (same64 c.min-last.result (search rules), c.min-last.ensures.value, small64 m.last small.last, same64 c.last_led.result (search rules));
      first_cases = subst (λ (d : ℤ). ((m.shift ≤ℤ d) × (c.first_led.result ≡ m.least -ℤ d)) ⊎ ((d <ℤ m.shift) × (c.first_led.result ≡ m.most -ℤ d))) by c.first_led.ensures;
      last_cases = subst (λ (d : ℤ). ((d ≤ℤ m.shift) × (c.last_led.result ≡ m.most -ℤ d)) ⊎ ((m.shift <ℤ d) × (c.last_led.result ≡ m.least -ℤ d))) by c.last_led.ensures;
    } in
    led_none c.args.side m c.args.by _ _ c.requires.moves.within ends (omega (arith, ints, c.if-first-last.true))

pub overflow_cast-result : goal.overflow_cast-result
overflow_cast-result c =
    let m = c.args.self in
    let small = are_small c.args.side m c.requires.moves.within c.requires.side in
    let by : to_z w64 (of_z w64 c.from-by.result) ≡ c.args.by = same64 c.from-by.result (search rules) ∙ c.from-by.ensures ∙ to_z-of_z w32 c.args.by (search rules) in
    let ends : AreEnds m c.args.by (to_z w64 (of_z w64 c.max-first.result)) (to_z w64 (of_z w64 c.min-last.result)) = record {
      first_by = c.first_led.result;
      last_by = c.last_led.result;
      first_is = cc (same64 c.max-first.result (search rules), c.max-first.ensures.value, small64 m.first small.first, same64 c.first_led.result (search rules));
      last_is = cc (same64 c.min-last.result (search rules), c.min-last.ensures.value, small64 m.last small.last, same64 c.last_led.result (search rules));
      first_cases = subst (λ (d : ℤ). ((m.shift ≤ℤ d) × (c.first_led.result ≡ m.least -ℤ d)) ⊎ ((d <ℤ m.shift) × (c.first_led.result ≡ m.most -ℤ d))) by c.first_led.ensures;
      last_cases = subst (λ (d : ℤ). ((d ≤ℤ m.shift) × (c.last_led.result ≡ m.most -ℤ d)) ⊎ ((m.shift <ℤ d) × (c.last_led.result ≡ m.least -ℤ d))) by c.last_led.ensures;
    } in
    let some : to_z w64 (of_z w64 c.max-first.result) ≤ℤ to_z w64 (of_z w64 c.min-last.result) = omega (arith, ints, c.if-first-last.false) in
    let inside = led_inside c.args.side m c.args.by _ _ c.requires.moves.within ends some in
    let low = inside.0 in
    let high = inside.1 in
    (grind (arith, low), omega (arith, ints, low, high, some, c.requires.side))

pub overflow_cast-result-2 : goal.overflow_cast-result-2
overflow_cast-result-2 c =
    let m = c.args.self in
    let small = are_small c.args.side m c.requires.moves.within c.requires.side in
    let by : to_z w64 (of_z w64 c.from-by.result) ≡ c.args.by = same64 c.from-by.result (search rules) ∙ c.from-by.ensures ∙ to_z-of_z w32 c.args.by (search rules) in
    let ends : AreEnds m c.args.by (to_z w64 (of_z w64 c.max-first.result)) (to_z w64 (of_z w64 c.min-last.result)) = record {
      first_by = c.first_led.result;
      last_by = c.last_led.result;
      first_is = cc (same64 c.max-first.result (search rules), c.max-first.ensures.value, small64 m.first small.first, same64 c.first_led.result (search rules));
      last_is = cc (same64 c.min-last.result (search rules), c.min-last.ensures.value, small64 m.last small.last, same64 c.last_led.result (search rules));
      first_cases = subst (λ (d : ℤ). ((m.shift ≤ℤ d) × (c.first_led.result ≡ m.least -ℤ d)) ⊎ ((d <ℤ m.shift) × (c.first_led.result ≡ m.most -ℤ d))) by c.first_led.ensures;
      last_cases = subst (λ (d : ℤ). ((d ≤ℤ m.shift) × (c.last_led.result ≡ m.most -ℤ d)) ⊎ ((m.shift <ℤ d) × (c.last_led.result ≡ m.least -ℤ d))) by c.last_led.ensures;
    } in
    let some : to_z w64 (of_z w64 c.max-first.result) ≤ℤ to_z w64 (of_z w64 c.min-last.result) = omega (arith, ints, c.if-first-last.false) in
    let inside = led_inside c.args.side m c.args.by _ _ c.requires.moves.within ends some in
    let low = inside.0 in
    let high = inside.1 in
    (grind (arith, low, some), omega (arith, ints, low, high, some, c.requires.side))

pub returns-clause-interval : goal.returns-clause-interval
returns-clause-interval c =
    let m = c.args.self in
    let small = are_small c.args.side m c.requires.moves.within c.requires.side in
    let by : to_z w64 (of_z w64 c.from-by.result) ≡ c.args.by = same64 c.from-by.result (search rules) ∙ c.from-by.ensures ∙ to_z-of_z w32 c.args.by (search rules) in
    let ends : AreEnds m c.args.by (to_z w64 (of_z w64 c.max-first.result)) (to_z w64 (of_z w64 c.min-last.result)) = record {
      first_by = c.first_led.result;
      last_by = c.last_led.result;
      first_is = cc (same64 c.max-first.result (search rules), c.max-first.ensures.value, small64 m.first small.first, same64 c.first_led.result (search rules));
      last_is = cc (same64 c.min-last.result (search rules), c.min-last.ensures.value, small64 m.last small.last, same64 c.last_led.result (search rules));
      first_cases = subst (λ (d : ℤ). ((m.shift ≤ℤ d) × (c.first_led.result ≡ m.least -ℤ d)) ⊎ ((d <ℤ m.shift) × (c.first_led.result ≡ m.most -ℤ d))) by c.first_led.ensures;
      last_cases = subst (λ (d : ℤ). ((d ≤ℤ m.shift) × (c.last_led.result ≡ m.most -ℤ d)) ⊎ ((m.shift <ℤ d) × (c.last_led.result ≡ m.least -ℤ d))) by c.last_led.ensures;
    } in
    let some : to_z w64 (of_z w64 c.max-first.result) ≤ℤ to_z w64 (of_z w64 c.min-last.result) = omega (arith, ints, c.if-first-last.false) in
    led_interval c.args.side m c.args.by _ _ c.requires.moves.within ends some

pub returns-clause-led : goal.returns-clause-led
returns-clause-led c =
    let m = c.args.self in
    let small = are_small c.args.side m c.requires.moves.within c.requires.side in
    let by : to_z w64 (of_z w64 c.from-by.result) ≡ c.args.by = same64 c.from-by.result (search rules) ∙ c.from-by.ensures ∙ to_z-of_z w32 c.args.by (search rules) in
    let ends : AreEnds m c.args.by (to_z w64 (of_z w64 c.max-first.result)) (to_z w64 (of_z w64 c.min-last.result)) = record {
      first_by = c.first_led.result;
      last_by = c.last_led.result;
      first_is = cc (same64 c.max-first.result (search rules), c.max-first.ensures.value, small64 m.first small.first, same64 c.first_led.result (search rules));
      last_is = cc (same64 c.min-last.result (search rules), c.min-last.ensures.value, small64 m.last small.last, same64 c.last_led.result (search rules));
      first_cases = subst (λ (d : ℤ). ((m.shift ≤ℤ d) × (c.first_led.result ≡ m.least -ℤ d)) ⊎ ((d <ℤ m.shift) × (c.first_led.result ≡ m.most -ℤ d))) by c.first_led.ensures;
      last_cases = subst (λ (d : ℤ). ((d ≤ℤ m.shift) × (c.last_led.result ≡ m.most -ℤ d)) ⊎ ((m.shift <ℤ d) × (c.last_led.result ≡ m.least -ℤ d))) by c.last_led.ensures;
    } in
    let some : to_z w64 (of_z w64 c.max-first.result) ≤ℤ to_z w64 (of_z w64 c.min-last.result) = omega (arith, ints, c.if-first-last.false) in
    led_is c.args.side m c.args.by _ _ c.requires.moves.within ends some
