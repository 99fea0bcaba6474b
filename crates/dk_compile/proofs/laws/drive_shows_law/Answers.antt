use Rattle.std.proofs.Common.{◌≡◌, ◌*◌, ◌∙◌, ap, arith, map, unsigned_abs}
use Rattle.std.specs.List.{range_with_len}
use Rattle.dk_base.specs.Frames.{area, pixel_of}
use Rattle.dk_compile.proofs.DrivePictures.{shows, first_shown, whole_shown}
use Rattle.dk_compile.proofs.Rounds.{all_rasters}
use Rattle.dk_compile.proofs.laws.drive_shows_law.Goals as goal

pub returns-clause-picture : goal.returns-clause-picture
returns-clause-picture c m p plan d from to dins shots fc fn runs rounds ok agree k l n = shows m p plan d from to dins shots fc fn runs rounds ok agree k l n

pub returns-clause-first : goal.returns-clause-first
returns-clause-first c m p plan d from to dins shots fc fn runs rounds ok agree k l = first_shown m p plan d from to dins shots fc fn runs rounds ok agree k l

pub returns-clause-whole : goal.returns-clause-whole
returns-clause-whole c m p plan d from to dins shots fc fn runs rounds ok agree k l past = whole_shown m p plan d from to dins shots fc fn runs rounds ok agree k l past

pub returns-clause-rasters : goal.returns-clause-rasters
returns-clause-rasters c size pictures n = ap (λ z. map (λ q. unsigned_abs (pixel_of size pictures q)) (range_with_len z (n * area size))) (let e : 0 ≡ 0 * area size = omega arith in e) ∙ all_rasters size pictures 0 n
