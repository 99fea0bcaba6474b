use Rattle.pointwise_ir.specs.Programs.{bodies_of}
use Rattle.pointwise_ir.proofs.Pictured.{first_pictures, picture_of_body, values_in, pixels_decide}
use Rattle.pointwise_ir.proofs.laws.meaning_law.Goals as goal

pub returns-clause-inputs : goal.returns-clause-inputs
returns-clause-inputs c = λ round long g lt. first_pictures c.args.ir.now.size (bodies_of c.args.ir.now) round g lt

pub returns-clause-images : goal.returns-clause-images
returns-clause-images c = λ round long f e is x y. picture_of_body c.args.ir.now c.law.ensures round long f e is x y

pub returns-clause-values : goal.returns-clause-values
returns-clause-values c = λ round is g t there. values_in c.args.ir.now c.law.ensures round is g t there

pub returns-clause-pixels : goal.returns-clause-pixels
returns-clause-pixels c = λ one other is also same g x y. pixels_decide c.args.ir.now one other is also same g x y
