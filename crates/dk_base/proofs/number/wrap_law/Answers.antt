use Rattle.dk_base.proofs.Codes.{number_code}
use Rattle.dk_base.proofs.Wrapping.{wrapped_is, wrapped_only}
use Rattle.dk_base.proofs.number.wrap_law.Goals as goal

pub returns-clause-wraps : goal.returns-clause-wraps
returns-clause-wraps c = λ v. wrapped_is c.args.ty v c.requires

pub returns-clause-only : goal.returns-clause-only
returns-clause-only c = λ v w h. wrapped_only c.args.ty v w c.requires h

pub returns-clause-kept : goal.returns-clause-kept
returns-clause-kept c = λ v h. number_code c.args.ty v c.requires h
