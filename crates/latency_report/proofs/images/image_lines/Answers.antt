use Rattle.std.proofs.Common.{◌≡◌, ◌<◌, ℕ, List, length, ap, arith}
use Rattle.dk_base.specs.declared.stencils.Image.{Image}
use Rattle.latency_report.proofs.Splits.{line_more, lines_all}
use Rattle.latency_report.proofs.images.image_lines.Goals as goal

inside : (xs ys : List Image) (k : ℕ) → xs ≡ ys → k < length xs → k < length ys
inside xs ys k e lt = omega (arith, lt, ap (λ (l : List Image). length l) e)

pub loop-k-preserved : goal.loop-k-preserved
loop-k-preserved c =
    line_more c.args.ir.now c.args.system.now c.args.solution.now.delays c.args.solution.now.ends c.images-images.result.now c.as_slice-delays.result.now c.as_slice-ends.result.now
    c.loop-k.k c.in_ok-line.line c.loop-k.lines.items c.push.new.self.items _ c.images-images.ensures c.as_slice-delays.ensures c.as_slice-ends.ensures c.loop-k-test.true
    (c.requires.solution.ends_are c.loop-k.k (inside _ _ c.loop-k.k c.images-images.ensures c.loop-k-test.true)) c.in_ok-line.ensures c.in_ok-push.ensures.items c.loop-k.invariant

pub returns : goal.returns
returns c =
    lines_all c.args.ir.now c.args.system.now c.args.solution.now.delays c.args.solution.now.ends c.images-images.result.now c.loop-k.k c.loop-k.lines.items _
    c.images-images.ensures c.loop-k-test.false c.loop-k.invariant
