use Rattle.circuit.specs.Whole.{HasImages}
use Rattle.std.proofs.Common.{◌≡◌, ℕ, suc, ◌+◌, length, subst, ◌∙◌, arith, rules}
use Rattle.circuit.proofs.making.add_images.Goals as goal

pub loop-k-preserved : goal.loop-k-preserved
loop-k-preserved g c =
    let next : suc c.loop-k.k ≡ c.loop-k.k + 1 = omega arith in
    record {
      enable = c.in_ok-add_image.ensures.enable ∙ c.loop-k.invariant.enable;
      images = subst (λ (n : ℕ). HasImages c.add_image.new.b c.args.ir.now c.args.plan.now (g.F.BufferForm.form c.args.form.now) n c.add_image.new.images) next c.in_ok-add_image.ensures.images;
    }

pub returns-clause-images : goal.returns-clause-images
returns-clause-images g c =
    let all : c.loop-k.k ≡ length c.args.plan.now.system.stencils.images = search rules in
    subst (λ (n : ℕ). HasImages c.loop-k.b c.args.ir.now c.args.plan.now (g.F.BufferForm.form c.args.form.now) n c.loop-k.images) all c.loop-k.invariant.images
