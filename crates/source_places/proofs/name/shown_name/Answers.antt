use Rattle.std.proofs.Common.{rules}
use Rattle.std.proofs.lemmas.Str.{chars_from_encodes}
use Rattle.source_places.proofs.name.shown_name.Goals as goal

pub returns : goal.returns
unfolding Rattle.source_places.specs.Names.shown_name
returns c = search (rules, chars_from_encodes)
