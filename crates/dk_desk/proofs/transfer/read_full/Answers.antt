use Rattle.std.proofs.Common.{◌≡◌, ℕ, ◌+◌, ◌-◌, ◌≤◌, List, ◌++◌, Option, length, take, ap, sym, rules, ◌∙◌, length-take-le}
use Rattle.std.proofs.lemmas.List.{take-append-le}
use Rattle.std.proofs.Math.Seq.{take-append-add}
use borrow.Rule.Slice.PartMut.{put_mid, post_of}
use Rattle.std.specs.Io.KnownBytes.{prepend_known}
use Rattle.dk_desk.proofs.DeskLemmas.{prepend_known-more}
use Rattle.dk_desk.proofs.transfer.read_full.Goals as goal

-- what was read into a part follows what was there
filled_then : (a k n : ℕ) (xs ys : List ℕ) → a ≤ length xs → n ≤ length ys → take (a + n) (put_mid a k xs ys) ≡ take a xs ++ take n ys
filled_then a k n xs ys p q =
    ap (λ m. take (m + n) (put_mid a k xs ys)) (sym (length-take-le a xs p)) ∙ take-append-add (take a xs) (ys ++ post_of a k xs) n
    ∙ ap (λ l. take a xs ++ l) (take-append-le n ys (post_of a k xs) q)

given_more : (old mid new : Option (List ℕ)) (a k n : ℕ) (xs ys : List ℕ) → a ≤ length xs → n ≤ length ys → old ≡ prepend_known (take a xs) mid → mid ≡ prepend_known (take n ys) new
    → old ≡ prepend_known (take (a + n) (put_mid a k xs ys)) new
given_more old mid new a k n xs ys p q first second =
    first ∙ ap (λ known. prepend_known (take a xs) known) second ∙ prepend_known-more (take a xs) (take n ys) new ∙ ap (λ l. prepend_known l new) (sym (filled_then a k n xs ys p q))

pub fill-preserved : goal.fill-preserved
fill-preserved g c = record {
  within = search rules;
  given = given_more _ _ _ c.fill.done (length c.fill.to - c.fill.done) c.in_ok-more.more c.fill.to c.read.new.to c.fill.invariant.within c.in_ok-more.ensures.bound c.fill.invariant.given c.in_ok-more.ensures.bytes;
  opened = search rules;
  only = search rules;
  no_failure = search rules;
}
