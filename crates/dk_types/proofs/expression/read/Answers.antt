use Rattle.dk_types.proofs.Rules as R
use Rattle.dk_types.proofs.expression.read.Goals as goal

pub returns-in_default : goal.returns-in_default
returns-in_default c = R.told_unknown c.args.scope.now c.args.span c.args.read.now c.as_bytes.result.now c.fault.result c.fault.ensures c.as_bytes.ensures c.in_default.ensures

pub returns-in-Err : goal.returns-in-Err
returns-in-Err c =
    let i = R.image_at c.args.scope.now c.args.read.now c.as_bytes.result.now c.in-Some.image c.in-Some.ty c.as_bytes.ensures c.in-Some.ensures.image in
    R.told_far_in_x c.args.scope.now c.args.span c.in-Err.far c.args.read.now c.in-Some.image c.in-Some.ty c.fault-in-Err.result c.fault-in-Err.ensures i c.in-Err.ensures.far

pub returns-in-Err-offset : goal.returns-in-Err-offset
returns-in-Err-offset c =
    let i = R.image_at c.args.scope.now c.args.read.now c.as_bytes.result.now c.in-Some.image c.in-Some.ty c.as_bytes.ensures c.in-Some.ensures.image in
    R.told_far_in_y c.args.scope.now c.args.span c.in-Err-offset.far c.args.read.now c.in-Some.image c.in-Some.ty c.fault-in-Err-offset.result c.fault-in-Err-offset.ensures i c.in-Ok.ensures.near.1 c.in-Err-offset.ensures.far

pub returns : goal.returns
returns c =
    let i = R.image_at c.args.scope.now c.args.read.now c.as_bytes.result.now c.in-Some.image c.in-Some.ty c.as_bytes.ensures c.in-Some.ensures.image in
    let x = c.in-Ok.ensures.near in
    let y = c.in-Ok-offset.ensures.near in
    record {
      has = R.read_is c.args.scope.now c.args.span c.args.read.now c.in-Some.image c.in-Some.ty _ _ i (R.stored c.in-Ok.dx c.args.read.now.x x) x.1 (R.stored c.in-Ok-offset.dy c.args.read.now.y y) y.1;
      is_type = c.in-Some.ensures.is_type;
    }
