-- A sample more.
use Rattle.std.proofs.Common.{◌≡◌, ℕ, zero, suc, ◌+◌, ◌*◌, ◌<◌, ◌≤◌, List, [], ◌∷◌, ◌++◌, length, take, drop, ap, sym, subst, ◌∙◌, arith, append-nil, length-append, length-drop, Bool}
use Rattle.std.proofs.lemmas.List.{take-append-le, drop-append-le}
use Rattle.std.proofs.lemmas.Grind.{flat_map-append, common_steps}
use Rattle.pgm_codec.specs.Images.{sample_bytes, raster_of}
use Rattle.row_stream.specs.Lines.{Kind, header_before, line_at, lines}
use Rattle.std.specs.Prelude.{Vec}
use Rattle.std.specs.declared.alloc.Global.{Global}
use Rattle.dk_desk.specs.declared.OutSlot.TheVariants.{File}
use Rattle.dk_desk.specs.Outside.{Outside}
use Rattle.dk_desk.specs.Calls.{AddsToFile, WritesFront}
use Rattle.row_stream.specs.declared.line.Line.{Line}
use Rattle.row_stream.specs.Moving.{Gains, GainsBut}
use Rattle.row_stream.specs.Progress.{IsPending, Writes, FailsInLine}
use Rattle.row_stream.proofs.Ranges.{flat_more, same_flat}
use Rattle.row_stream.proofs.Writes.{gains_add, gains_front}

upto : (k n w total : ℕ) → k < n → n * w ≤ total → k * w + w ≤ total
upto k n w total l h = let e : k * w + w ≤ n * w = below k n w l in omega (arith, e, h)
  where
    below : (k n w : ℕ) → k < n → k * w + w ≤ n * w
    below k zero w l = absurd (omega (arith, l))
    below zero (suc n) w l = omega arith
    below (suc k) (suc n) w l = let e : k * w + w ≤ n * w = below k n w (omega (arith, l)) in omega (arith, e)

-- whole lines are the same with samples after them
line_same : (kind : Kind) (samples more : List ℕ) (k : ℕ) → k * kind.size.width + kind.size.width ≤ length samples → line_at kind (samples ++ more) k ≡ line_at kind samples k
line_same kind samples more k h =
    let w = kind.size.width in
    let d : drop (k * w) (samples ++ more) ≡ drop (k * w) samples ++ more = drop-append-le (k * w) samples more (omega (arith, h)) in
    let inside : w ≤ length (drop (k * w) samples) = subst (λ z. w ≤ z) (sym (length-drop (k * w) samples)) (omega (arith, h)) in
    ap (λ z. header_before kind k ++ raster_of kind.maxval (take w z)) d
    ∙ ap (λ z. header_before kind k ++ raster_of kind.maxval z) (take-append-le w (drop (k * w) samples) more inside)

pub lines_same : (kind : Kind) (samples more : List ℕ) (n : ℕ) → n * kind.size.width ≤ length samples → lines kind (samples ++ more) n ≡ lines kind samples n
lines_same kind samples more n h =
    same_flat (line_at kind (samples ++ more)) (line_at kind samples) 0 n (λ k l.
    ap (λ z. line_at kind (samples ++ more) z) (let e : 0 + k ≡ k = omega arith in e) ∙ line_same kind samples more k (upto k n kind.size.width (length samples) l h)
    ∙ ap (λ z. line_at kind samples z) (let e : k ≡ 0 + k = omega arith in e))

-- one line more
pub lines_more : (kind : Kind) (samples : List ℕ) (n : ℕ) → lines kind samples (n + 1) ≡ lines kind samples n ++ line_at kind samples n
lines_more kind samples n = flat_more (line_at kind samples) 0 n ∙ ap (λ z. lines kind samples n ++ line_at kind samples z) (let e : 0 + n ≡ n = omega arith in e)

-- the bytes of a line that is not whole, with a sample more
pub bytes_more : (maxval at : ℕ) (samples : List ℕ) (sample : ℕ) → at ≤ length samples → raster_of maxval (drop at (samples ++ sample ∷ [])) ≡ raster_of maxval (drop at samples) ++ sample_bytes maxval sample
bytes_more maxval at samples sample h =
    ap (raster_of maxval) (drop-append-le at samples (sample ∷ []) h)
    ∙ flat_map-append (sample_bytes maxval) (drop at samples) (sample ∷ [])
    ∙ ap (λ z. raster_of maxval (drop at samples) ++ z) (append-nil (sample_bytes maxval sample))

drop_all : (n : ℕ) (xs : List ℕ) → length xs ≤ n → drop n xs ≡ []
drop_all n [] l = grind (arith, common_steps)
drop_all zero (x ∷ xs) l = absurd (omega (arith, l))
drop_all (suc n) (x ∷ xs) l = drop_all n xs (omega (arith, l))

take_all : (n : ℕ) (xs : List ℕ) → length xs ≤ n → take n xs ≡ xs
take_all n [] l = grind (arith, common_steps)
take_all zero (x ∷ xs) l = absurd (omega (arith, l))
take_all (suc n) (x ∷ xs) l = ap (λ z. x ∷ z) (take_all n xs (omega (arith, l)))

times_more : (r w : ℕ) → (r + 1) * w ≡ r * w + w
times_more r w = omega arith

module _ (kind : Kind) (samples : List ℕ) (sample : ℕ) (line : Line) (bytes : Vec ℕ Global) (pending : IsPending kind samples line) (added : bytes.items ≡ line.bytes.items ++ sample_bytes kind.maxval sample) where
  abbrev at : ℕ
  at = line.rows * kind.size.width

  longer : length (samples ++ sample ∷ []) ≡ at + (line.count + 1)
  longer = omega (arith, length-append samples (sample ∷ []), pending.count)

  now_bytes : bytes.items ≡ raster_of kind.maxval (drop at (samples ++ sample ∷ []))
  now_bytes = added ∙ ap (λ z. z ++ sample_bytes kind.maxval sample) pending.bytes ∙ sym (bytes_more kind.maxval at samples sample (omega (arith, pending.count)))

  same_lines : lines kind samples line.rows ≡ lines kind (samples ++ sample ∷ []) line.rows
  same_lines = sym (lines_same kind samples (sample ∷ []) line.rows (omega (arith, pending.count)))

  pub still_pending : line.count + 1 < kind.size.width → IsPending kind (samples ++ sample ∷ []) (record { bytes = bytes; count = line.count + 1; rows = line.rows })
  still_pending below = record { count = longer; below = below; bytes = now_bytes }

  module _ (full : line.count + 1 ≡ kind.size.width) where
    whole : length (samples ++ sample ∷ []) ≡ (line.rows + 1) * kind.size.width
    whole = longer ∙ ap (λ z. at + z) full ∙ sym (times_more line.rows kind.size.width)

    one_line : header_before kind line.rows ++ bytes.items ≡ line_at kind (samples ++ sample ∷ []) line.rows
    one_line =
        let n : length (drop at (samples ++ sample ∷ [])) ≤ kind.size.width = subst (λ z. z ≤ kind.size.width) (sym (length-drop at (samples ++ sample ∷ []))) (omega (arith, longer, full)) in
        ap (λ z. header_before kind line.rows ++ z) now_bytes ∙ ap (λ z. header_before kind line.rows ++ raster_of kind.maxval z) (sym (take_all kind.size.width (drop at (samples ++ sample ∷ [])) n))

    pub failed_line : (start now next : Outside) (notes : List (Bool × ℕ)) → Gains start (lines kind samples line.rows) notes now → WritesFront File now (header_before kind line.rows ++ bytes.items) next → FailsInLine kind start (samples ++ sample ∷ []) notes next
    failed_line start now next notes g h = record {
      row = line.rows;
      whole = whole;
      count = h.count;
      within = subst (λ z. h.count < length z) one_line h.within;
      gained = subst (λ z. GainsBut start (z ++ take h.count (line_at kind (samples ++ sample ∷ []) line.rows)) notes next) same_lines
          (subst (λ z. GainsBut start (lines kind samples line.rows ++ take h.count z) notes next) one_line (gains_front start now next (lines kind samples line.rows) (header_before kind line.rows ++ bytes.items) notes g h));
    }

    pub written_line : (start now next : Outside) (notes : List (Bool × ℕ)) (cleared : Vec ℕ Global) → cleared.items ≡ [] → 0 < kind.size.width → Gains start (lines kind samples line.rows) notes now → AddsToFile now (header_before kind line.rows ++ bytes.items) next →
        Writes kind start (samples ++ sample ∷ []) notes (record { bytes = cleared; count = 0; rows = line.rows + 1 }) next
    written_line start now next notes cleared e some g a = record {
      pending = record {
        count = omega (arith, whole);
        below = some;
        bytes = e ∙ ap (raster_of kind.maxval) (sym (drop_all ((line.rows + 1) * kind.size.width) (samples ++ sample ∷ []) (omega (arith, whole))));
      };
      gained = subst (λ z. Gains start z notes next) (sym (lines_more kind (samples ++ sample ∷ []) line.rows ∙ ap (λ z. z ++ line_at kind (samples ++ sample ∷ []) line.rows) (sym same_lines) ∙ ap (λ z. lines kind samples line.rows ++ z) (sym one_line)))
          (gains_add start now next (lines kind samples line.rows) (header_before kind line.rows ++ bytes.items) notes g a);
    }

-- the line goes on
pub goes_on : (kind : Kind) (samples : List ℕ) (sample : ℕ) (line : Line) (bytes : Vec ℕ Global) {start now : Outside} {notes : List (Bool × ℕ)} → Writes kind start samples notes line now → bytes.items ≡ line.bytes.items ++ sample_bytes kind.maxval sample →
    line.count + 1 < kind.size.width → Writes kind start (samples ++ sample ∷ []) notes (record { bytes = bytes; count = line.count + 1; rows = line.rows }) now
goes_on kind samples sample line bytes {start} {now} {notes} h added below = record {
  pending = still_pending kind samples sample line bytes h.pending added below;
  gained = subst (λ z. Gains start z notes now) (same_lines kind samples sample line bytes h.pending added) h.gained;
}
