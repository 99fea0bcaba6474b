use Rattle.std.proofs.Common.{◌≡◌, ◌<◌, ◌≤◌, ◌/◌, ◌%◌, ℕ, List, [], ◌∷◌, length, take, arith, ap, sym}
use Rattle.std.specs.Prelude.{slice_set}
use Rattle.pgm_codec.specs.Images.{sample_bytes, spelled}
use Rattle.pgm_codec.proofs.Sizes.{narrow, wide}
use Rattle.pgm_codec.proofs.write.put_sample.Goals as goal

put_one : (out : List ℕ) (value maxval : ℕ) → length out ≡ 2 → maxval < 256 → take 1 (slice_set out 0 value) ≡ sample_bytes maxval value
put_one [] value maxval two small = absurd (omega arith)
put_one (a ∷ out) value maxval two small = ap (λ b. spelled b value) (sym (narrow maxval small))

put_two : (out : List ℕ) (value maxval : ℕ) → length out ≡ 2 → 256 ≤ maxval → take 2 (slice_set (slice_set out 0 (value / 256)) 1 (value % 256)) ≡ sample_bytes maxval value
put_two [] value maxval two great = absurd (omega arith)
put_two (a ∷ []) value maxval two great = absurd (omega arith)
put_two (a ∷ b ∷ out) value maxval two great = ap (λ b. spelled b value) (sym (wide maxval great))

pub returns-then-maxval-lt256-clause-sample : goal.returns-then-maxval-lt256-clause-sample
returns-then-maxval-lt256-clause-sample c = put_one c.args.out.now c.args.value c.args.maxval (omega arith) (omega arith)

pub returns-else-maxval-lt256-clause-sample : goal.returns-else-maxval-lt256-clause-sample
returns-else-maxval-lt256-clause-sample c = put_two c.args.out.now c.args.value c.args.maxval (omega arith) (omega arith)
