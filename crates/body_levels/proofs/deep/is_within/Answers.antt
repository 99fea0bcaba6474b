use Rattle.std.proofs.Common.{rules, ◌≡◌, ◌≤◌, ◌∙◌, ap, sym, subst, ℕ, Some, slice_get, get_or}
use Rattle.std.proofs.lemmas.Option.{slice_get-get_or}
use Rattle.body_levels.proofs.deep.is_within.Goals as goal

pub returns : goal.returns
returns c = λ is.
    let images = c.args.program.now.images in
    let image = c.index-images-k.result in
    let at : slice_get images c.args.k ≡ Some image =
    slice_get-get_or images c.args.k image c.requires.there ∙ ap Some (sym (c.index-images-k.is ∙ ap (λ ds. get_or ds c.args.k image) c.images.ensures)) in
    let name : image.name ≡ c.args.name.now = search rules in
    let least : c.level_at.result ≤ c.args.most = search rules in
    record {
      place = c.args.k;
      image = image;
      there = at;
      same = name;
      within = subst (λ (n : ℕ). n ≤ c.args.most) (c.level_at.ensures.image image at) least;
    }
