-- Pixel clocks that follow one another.
use Rattle.std.proofs.Common.{◌≡◌, ℕ, zero, suc, ◌+◌, [], ◌∷◌, ◌++◌, map, ap, sym, subst, ◌∙◌, arith}
use Rattle.std.specs.List.{range_with_len}
use Rattle.std.proofs.lemmas.List.FromFn.{map-range_with_len_more}
use Rattle.dk_desk.specs.Outside.{Outside}
use Rattle.wiring.specs.Netlist.{Netlist}
use Rattle.wiring.specs.Snapshot.{Contents}
use Rattle.wiring.specs.Clock.{Clock}
use Rattle.row_stream.specs.declared.line.Line.{Line}
use Rattle.row_stream.specs.Lines.{Kind}
use Rattle.row_stream.specs.Standing.{pixel_clock}
use Rattle.row_stream.specs.Progress.{Goes, pixel_clocks}
use Rattle.row_stream.proofs.Clocks.{goes_join}

one_more : (f : ℕ → ℕ) (k : ℕ) → pixel_clocks f (k + 1) ≡ pixel_clocks f k ++ pixel_clock (f k) ∷ []
one_more f k = map-range_with_len_more (λ j. pixel_clock (f j)) 0 k k (omega arith)

pub goes_more : (kind : Kind) (m : Netlist) (f : ℕ → ℕ) (k : ℕ) (from mid to : Contents) (old between new : Line) (before half now : Outside) → Goes kind m (pixel_clocks f k) from mid old between before half →
    Goes kind m (pixel_clock (f k) ∷ []) mid to between new half now → Goes kind m (pixel_clocks f (k + 1)) from to old new before now
goes_more kind m f k from mid to old between new before half now h g =
    subst (λ z. Goes kind m z from to old new before now) (sym (one_more f k)) (goes_join kind m (pixel_clocks f k) (pixel_clock (f k) ∷ []) from mid old between before half now to new h g)

pub cut : (f : ℕ → Clock) (a x y : ℕ) → map f (range_with_len a (x + y)) ≡ map f (range_with_len a x) ++ map f (range_with_len (a + x) y)
cut f a zero y = ap (λ n. map f (range_with_len a n)) (let e : 0 + y ≡ y = omega arith in e) ∙ ap (λ n. map f (range_with_len n y)) (let e : a ≡ a + 0 = omega arith in e)
cut f a (suc x) y =
    ap (λ n. map f (range_with_len a n)) (let e : suc x + y ≡ suc (x + y) = omega arith in e)
    ∙ ap (λ z. f a ∷ z) (cut f (a + 1) x y ∙ ap (λ n. map f (range_with_len (a + 1) x) ++ map f (range_with_len n y)) (let e : a + 1 + x ≡ a + suc x = omega arith in e))
