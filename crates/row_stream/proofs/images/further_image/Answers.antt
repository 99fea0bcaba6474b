use Rattle.std.proofs.Common.{rules, ◌≡◌, arith, refl, subst}
use Rattle.std.specs.Prelude.{option_to_list}
use Rattle.std.specs.Io.KnownBytes.{prepend_known}
use Rattle.row_stream.specs.Ends.{at_byte}
use Rattle.row_stream.proofs.images.further_image.Goals as goal

pub returns-in-Ok-Some-clause-next : goal.returns-in-Ok-Some-clause-next
returns-in-Ok-Some-clause-next g c = record {
  ok = search rules;
  none = search rules;
  err =
      at_byte (omega (arith, c.requires.images, c.if-images-lt-MAX_FILE_IMAGES.false)) (
        c.in-Ok-Some.field-0-0,
        refl,
        subst (λ z. (g.D.Desk.outside c.args.desk.now).image.rest ≡ prepend_known (option_to_list z) (g.D.Desk.outside c.next_byte.new.desk).image.rest) c.in-Ok-Some.field-0-is c.in-Ok-Some.ensures.given,
      );
  desk = search rules;
}
