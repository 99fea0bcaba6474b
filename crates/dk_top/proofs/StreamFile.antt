-- What a stream writes to File, in words of what the program gives.
use Rattle.std.proofs.Common.{◌≡◌, ℕ, zero, suc, ◌+◌, ◌-◌, ◌*◌, ◌/◌, ◌^◌, ◌<◌, ◌≤◌, List, [], ◌∷◌, ◌++◌, length, map, take, drop, slice_index, Option, None, Some, IfSome, refl, sym, ap, ◌∙◌, subst, arith, suc-mul, length-append}
use Rattle.std.specs.List.{AllByRecursion}
use Rattle.std.proofs.lemmas.List.{length-map, length-take-le, take-append-drop, take-append-le, drop-append-le, length-drop}
use Rattle.std.proofs.lemmas.Nat.{div-mul-add}
use Rattle.dk_desk.specs.declared.OutSlot.TheVariants.{File}
use Rattle.dk_desk.specs.Outside.{Outside}
use Rattle.dk_desk.specs.Calls.{IsIfTold, grown, WritesFront}
use Rattle.wiring.specs.Netlist.{Netlist}
use Rattle.wiring.specs.Snapshot.{Contents, Snapshot}
use Rattle.wiring.specs.Runs.{Runs, picture}
use Rattle.pgm_codec.specs.Images.{raster_of}
use Rattle.row_stream.specs.Lines.{Kind, head, header_before, line_at, lines}
use Rattle.row_stream.specs.Standing.{pixel_clock, reset_clock}
use Rattle.row_stream.specs.Whole.{Creates, Shows, FailsShowing, drive}
use Rattle.row_stream.proofs.Adding.{lines_same}

-- what is specified of a file that was created empty
pub told_file : (a b : Option (List ℕ)) (w : List ℕ) → IsIfTold a (Some []) → IsIfTold b (grown a w) → IfSome b (λ x. x ≡ w)
told_file a None w empty grows = tt
told_file None (Some x) w empty grows = absurd (let e : ⊥ = cc in e)
told_file (Some y) (Some x) w empty grows =
    let nothing : [] ≡ y = cc in
    let all : y ++ w ≡ x = cc in
    sym (subst (λ z. z ++ w ≡ x) (sym nothing) all)

-- what is said of File is said of it by another name
pub told_as : (b : Option (List ℕ)) (v w : List ℕ) → v ≡ w → IfSome b (λ x. x ≡ v) → IfSome b (λ x. x ≡ w)
told_as b v w same h = subst (λ z. IfSome b (λ x. x ≡ z)) same h

pixels_append : (xs ys : List ℕ) → map (λ s. pixel_clock s) xs ++ map (λ s. pixel_clock s) ys ≡ map (λ s. pixel_clock s) (xs ++ ys)
pixels_append [] ys = refl
pixels_append (x ∷ xs) ys = ap (λ cs. pixel_clock x ∷ cs) (pixels_append xs ys)

pixels_taken : (n : ℕ) (xs : List ℕ) → take n (map (λ s. pixel_clock s) xs) ≡ map (λ s. pixel_clock s) (take n xs)
pixels_taken zero xs = refl
pixels_taken (suc n) [] = refl
pixels_taken (suc n) (x ∷ xs) = ap (λ cs. pixel_clock x ∷ cs) (pixels_taken n xs)

pub drive_more : (xs ys : List ℕ) (n : ℕ) → drive xs ++ take n (map (λ s. pixel_clock s) ys) ≡ drive (xs ++ take n ys)
drive_more xs ys n = ap (λ cs. reset_clock ∷ cs) (ap (λ cs. map (λ s. pixel_clock s) xs ++ cs) (pixels_taken n ys) ∙ pixels_append xs (take n ys))

-- how many lines of W are whole
pub rows_of : (rows W n : ℕ) → rows * W ≤ n → n < (rows + 1) * W → rows ≡ n / W
rows_of rows W n low high =
    let next : (rows + 1) * W ≡ rows * W + W = ap (λ k. k * W) (let e : rows + 1 ≡ suc rows = omega arith in e) ∙ suc-mul rows W in
    let rest : n - rows * W < W = omega (arith, low, high, next) in
    let all : rows * W + (n - rows * W) ≡ n = omega (arith, low) in
    sym (div-mul-add rows W (n - rows * W) rest) ∙ ap (λ k. k / W) all

-- a line is that of what goes on after it
line_same : (kind : Kind) (samples more : List ℕ) (k : ℕ) → k * kind.size.width + kind.size.width ≤ length samples → line_at kind (samples ++ more) k ≡ line_at kind samples k
line_same kind samples more k h =
    let w = kind.size.width in
    let d : drop (k * w) (samples ++ more) ≡ drop (k * w) samples ++ more = drop-append-le (k * w) samples more (omega (arith, h)) in
    let inside : w ≤ length (drop (k * w) samples) = subst (λ z. w ≤ z) (sym (length-drop (k * w) samples)) (omega (arith, h)) in
    ap (λ z. header_before kind k ++ raster_of kind.maxval (take w z)) d
    ∙ ap (λ z. header_before kind k ++ raster_of kind.maxval z) (take-append-le w (drop (k * w) samples) more inside)

lines_taken : (kind : Kind) (xs : List ℕ) (n rows : ℕ) → rows * kind.size.width ≤ length (take n xs) → lines kind (take n xs) rows ≡ lines kind xs rows
lines_taken kind xs n rows low = sym (lines_same kind (take n xs) (drop n xs) rows low) ∙ ap (λ z. lines kind z rows) (take-append-drop n xs)

line_taken : (kind : Kind) (xs : List ℕ) (n y : ℕ) → y * kind.size.width + kind.size.width ≤ length (take n xs) → line_at kind (take n xs) y ≡ line_at kind xs y
line_taken kind xs n y low = sym (line_same kind (take n xs) (drop n xs) y low) ∙ ap (λ z. line_at kind z y) (take-append-drop n xs)

-- what a module shows over these numbers at the din: of what it gives for the same numbers and zeros after them, as many as came in after its latency
abbrev pub Small : (bits : ℕ) → List ℕ → Type 0
Small bits samples = AllByRecursion (λ s. s < 2 ^ bits) samples

abbrev pub AreSame : (samples whole : List ℕ) → Type 0
AreSame samples whole = (q : ℕ) → q < length samples → slice_index samples q ≡ slice_index whole q

abbrev pub ShowsLaw : (m : Netlist) (from : Contents) (bits late : ℕ) (shown : List ℕ → List ℕ) → Type 0
ShowsLaw m from bits late shown =
    (samples whole : List ℕ) → Small bits samples → Small bits whole → AreSame samples whole → length samples ≤ length whole + late
    → (shots : List Snapshot) (to : Contents) → Runs m from (drive samples) shots to → picture 0 shots ≡ take (length samples - late) (shown whole)

-- The header, all lines before this one, and a front of this one, short of its whole.
pub record IsFront (kind : Kind) (given : List ℕ) (y : ℕ) (bytes : List ℕ) : Type 0 where
  pub count : ℕ
  pub inside : count < length (line_at kind given y)
  pub holds : bytes ≡ head kind ++ (lines kind given y ++ take count (line_at kind given y))

-- A write failed in line y, which is whole with this many of the numbers after those before.
pub record FailsLine (kind : Kind) (late before more : ℕ) (given : List ℕ) (now : Outside) : Type 0 where
  pub y : ℕ
  pub made : ℕ
  pub some : 0 < made
  pub within : made ≤ more
  pub whole : (y + 1) * kind.size.width ≡ before + made - late
  pub told : IfSome now.file.bytes (IsFront kind given y)

told_front : (b : Option (List ℕ)) (kind : Kind) (given : List ℕ) (y count : ℕ) → count < length (line_at kind given y) → IfSome b (λ x. x ≡ head kind ++ (lines kind given y ++ take count (line_at kind given y))) → IfSome b (IsFront kind given y)
told_front None kind given y count inside h = tt
told_front (Some x) kind given y count inside h = record { count = count; inside = inside; holds = h }

module _ (kind : Kind) (m : Netlist) (from : Contents) (bits late : ℕ) (shown : List ℕ → List ℕ) (law : ShowsLaw m from bits late shown) (long : (whole : List ℕ) → length whole ≤ length (shown whole)) where
  -- all lines that are whole
  pub shows_lines : (samples name : List ℕ) (old created now : Outside) → Small bits samples → Creates name old created → Shows kind m from (drive samples) created now
      → IfSome now.file.bytes (λ bytes. bytes ≡ head kind ++ lines kind (shown samples) ((length samples - late) / kind.size.width))
  shows_lines samples name old created now small creates shows =
      let n = length samples - late in
      let same : picture 0 shows.shots ≡ take n (shown samples) = law samples samples small small (λ q lt. refl) (omega arith) shows.shots shows.to shows.runs in
      let enough = long samples in
      let count : length (take n (shown samples)) ≡ n = length-take-le n (shown samples) (omega (arith, enough)) in
      let many : length (picture 0 shows.shots) ≡ n = ap length same ∙ count in
      let rows : shows.rows ≡ n / kind.size.width = rows_of shows.rows kind.size.width n (subst (λ z. shows.rows * kind.size.width ≤ z) many shows.whole) (subst (λ z. z < (shows.rows + 1) * kind.size.width) many shows.last) in
      let low : shows.rows * kind.size.width ≤ length (take n (shown samples)) = subst (λ z. shows.rows * kind.size.width ≤ length z) same shows.whole in
      told_as now.file.bytes (head kind ++ lines kind (picture 0 shows.shots) shows.rows) (head kind ++ lines kind (shown samples) (n / kind.size.width))
      (ap (λ xs. head kind ++ xs) (ap (λ xs. lines kind xs shows.rows) same ∙ (lines_taken kind (shown samples) n shows.rows low ∙ ap (lines kind (shown samples)) rows)))
      (told_file created.file.bytes now.file.bytes (head kind ++ lines kind (picture 0 shows.shots) shows.rows) creates.empty shows.gained.grows)

  -- a line that can't be written
  pub fails_line : (samples more whole name : List ℕ) (old created now : Outside) → Small bits whole → ((n : ℕ) → Small bits (samples ++ take n more)) → ((n : ℕ) → AreSame (samples ++ take n more) whole)
      → length samples + length more ≤ length whole + late → Creates name old created → FailsShowing kind m from (drive samples) (map (λ s. pixel_clock s) more) created now
      → FailsLine kind late (length samples) (length more) (shown whole) now
  fails_line samples more whole name old created now small small_all same_all room creates fails =
      let all = samples ++ take fails.made more in
      let within : fails.made ≤ length more = subst (λ z. fails.made ≤ z) (length-map more (λ s. pixel_clock s)) fails.within in
      let total : length all ≡ length samples + fails.made = length-append samples (take fails.made more) ∙ ap (λ n. length samples + n) (length-take-le fails.made more within) in
      let n = length all - late in
      let runs : Runs m from (drive all) fails.shots fails.to = subst (λ cs. Runs m from cs fails.shots fails.to) (drive_more samples more fails.made) fails.runs in
      let same : picture 0 fails.shots ≡ take n (shown whole) = law all whole (small_all fails.made) small (same_all fails.made) (omega (arith, room, total, within)) fails.shots fails.to runs in
      let enough = long whole in
      let count : length (take n (shown whole)) ≡ n = length-take-le n (shown whole) (omega (arith, enough, room, total, within)) in
      let many : length (picture 0 fails.shots) ≡ n = ap length same ∙ count in
      let y = fails.row in
      let W = kind.size.width in
      let next : (y + 1) * W ≡ y * W + W = ap (λ k. k * W) (let e : y + 1 ≡ suc y = omega arith in e) ∙ suc-mul y W in
      let whole_line : y * W + W ≤ length (take n (shown whole)) = (let w = fails.whole in omega (arith, w, many, count, next)) in
      let line : line_at kind (picture 0 fails.shots) y ≡ line_at kind (shown whole) y = ap (λ xs. line_at kind xs y) same ∙ line_taken kind (shown whole) n y whole_line in
      let before : lines kind (picture 0 fails.shots) y ≡ lines kind (shown whole) y = ap (λ xs. lines kind xs y) same ∙ lines_taken kind (shown whole) n y (omega (arith, whole_line)) in
      record {
        y = y;
        made = fails.made;
        some = fails.some;
        within = within;
        whole = sym fails.whole ∙ (many ∙ ap (λ k. k - late) total);
        told = told_front now.file.bytes kind (shown whole) y fails.count (subst (λ xs. fails.count < length xs) line fails.inside)
            (told_as now.file.bytes (head kind ++ (lines kind (picture 0 fails.shots) y ++ take fails.count (line_at kind (picture 0 fails.shots) y))) (head kind ++ (lines kind (shown whole) y ++ take fails.count (line_at kind (shown whole) y)))
            (ap (λ xs. head kind ++ (xs ++ take fails.count (line_at kind (picture 0 fails.shots) y))) before ∙ ap (λ xs. head kind ++ (lines kind (shown whole) y ++ take fails.count xs)) line)
            (told_file created.file.bytes now.file.bytes (head kind ++ (lines kind (picture 0 fails.shots) y ++ take fails.count (line_at kind (picture 0 fails.shots) y))) creates.empty fails.gained.grows));
      }

  -- in the reset clock no line is whole
  pub not_at_reset : 0 < kind.size.width → (created now : Outside) → FailsShowing kind m from [] (reset_clock ∷ []) created now → ⊥
  not_at_reset wide created now fails =
      let one : fails.made ≡ 1 = (let a = fails.some in let b = fails.within in omega (arith, a, b)) in
      let runs : Runs m from (drive []) fails.shots fails.to = subst (λ n. Runs m from ([] ++ take n (reset_clock ∷ [])) fails.shots fails.to) one fails.runs in
      let same : picture 0 fails.shots ≡ take (0 - late) (shown []) = law [] [] tt tt (λ q lt. refl) (omega arith) fails.shots fails.to runs in
      let none : 0 - late ≡ 0 = omega arith in
      let nothing : length (picture 0 fails.shots) ≡ 0 = ap length (same ∙ ap (λ n. take n (shown [])) none) in
      let next : (fails.row + 1) * kind.size.width ≡ fails.row * kind.size.width + kind.size.width = ap (λ k. k * kind.size.width) (let e : fails.row + 1 ≡ suc fails.row = omega arith in e) ∙ suc-mul fails.row kind.size.width in
      let w = fails.whole in
      let e : ⊥ = omega (arith, w, nothing, next, wide) in e

-- the first header can't be written
pub fails_head : (kind : Kind) (name : List ℕ) (old created now : Outside) → Creates name old created → (w : WritesFront File created (head kind) now) → IfSome now.file.bytes (λ bytes. bytes ≡ take w.count (head kind))
fails_head kind name old created now creates w = told_file created.file.bytes now.file.bytes (take w.count (head kind)) creates.empty w.adds.grows
