use Rattle.std.proofs.Common.{◌≡◌, ◌++◌, ◌∙◌, ap, sym, codes, ℤ, ℕ, List, to_z, of_z, w32, rules, FitsSigned}
use Rattle.std.proofs.lemmas.Int.{to_z-of_z}
use Rattle.std.specs.Fmt.{signed_decimal}
use Rattle.report_text.specs.declared.report.ImageLine.{ImageLine}
use Rattle.report_text.specs.Layout.{name_at, number_line, read_flow, flow_line}
use Rattle.report_text.proofs.Chains.{five}
use Rattle.report_text.proofs.writing.push_flow.Goals as goal

-- an offset and a flow, after the names of a read
tail : ℕ → ℤ → ℤ → List ℕ
tail n x y = codes " " ++ (signed_decimal x ++ (codes " " ++ (signed_decimal y ++ number_line (codes " ") n)))

-- the names and then the rest are the whole
written : (images : List ImageLine) (out word names new : List ℕ) (f g n : ℕ) (dx dy : ℤ) → FitsSigned w32 dx → FitsSigned w32 dy
    → names ≡ out ++ (word ++ (name_at images f ++ (codes " " ++ name_at images g)))
    → new ≡ names ++ tail n (to_z w32 (of_z w32 dx)) (to_z w32 (of_z w32 dy))
    → new ≡ out ++ read_flow word images f g dx dy n
unfolding tail
written images out word names new f g n dx dy across down named ended =
    ended
    ∙ ap (λ x. names ++ tail n x (to_z w32 (of_z w32 dy))) (to_z-of_z w32 dx across)
    ∙ ap (λ y. names ++ tail n dx y) (to_z-of_z w32 dy down)
    ∙ ap (λ x. x ++ tail n dx dy) named
    ∙ five out word (name_at images f) (codes " ") (name_at images g) (tail n dx dy)

pub returns-in_ok-push_offset-in-Read : goal.returns-in_ok-push_offset-in-Read
unfolding tail
returns-in_ok-push_offset-in-Read c =
    let images = c.args.images.now in
    let out = c.args.out.now.items in
    let x = c.in-Read in
    let across : FitsSigned w32 x.dx = search rules in
    let down : FitsSigned w32 x.dy = search rules in
    written images out (codes "flow read ") c.push_names.new.out.items c.push_offset.new.out.items x.reader x.source x.flow x.dx x.dy across down c.in_ok-push_names-in-Read.ensures c.in_ok-push_offset-in-Read.ensures
    ∙ ap (λ l. out ++ flow_line images l) (sym x.is)

pub returns-in_ok-push_offset-in-Keep : goal.returns-in_ok-push_offset-in-Keep
unfolding tail
returns-in_ok-push_offset-in-Keep c =
    let images = c.args.images.now in
    let out = c.args.out.now.items in
    let x = c.in-Keep in
    let across : FitsSigned w32 x.dx = search rules in
    let down : FitsSigned w32 x.dy = search rules in
    written images out (codes "flow keep ") c.push_names-in-Keep.new.out.items c.push_offset-in-Keep.new.out.items x.reader x.source x.flow x.dx x.dy across down c.in_ok-push_names-in-Keep.ensures c.in_ok-push_offset-in-Keep.ensures
    ∙ ap (λ l. out ++ flow_line images l) (sym x.is)
