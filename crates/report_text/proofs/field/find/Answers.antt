use Rattle.report_text.specs.Reading.{find}
use Rattle.report_text.proofs.Lines.{match_equal}
use Rattle.report_text.proofs.field.find.Goals as goal

pub returns : goal.returns
returns c = match_equal c.first_place.result (find c.args.images.now c.args.name.now) c.first_place.ensures
