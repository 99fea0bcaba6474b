use Rattle.std.proofs.Common.{rules, ◌≡◌, ℕ, List, ◌++◌, subst, w32, to_z, of_z, FitsSigned}
use Rattle.std.specs.Prelude.{ℤ, codes}
use Rattle.std.specs.Fmt.{signed_decimal}
use Rattle.std.proofs.lemmas.Int.{to_z-of_z}
use Rattle.net_lines.specs.Lines.{name_of, field}
use Rattle.net_lines.proofs.Loops.{two}
use Rattle.net_lines.proofs.lines.push_place.Goals as goal

-- a number that is stored and read back
told : (x : ℤ) (start end : List ℕ) → FitsSigned w32 x → end ≡ start ++ field (signed_decimal (to_z w32 (of_z w32 x))) → end ≡ start ++ field (signed_decimal x)
told x start end fits h = subst (λ (u : ℤ). end ≡ start ++ field (signed_decimal u)) (to_z-of_z w32 x fits) h

pub returns : goal.returns
returns c =
    let start = c.args.out.now.items in
    let word = c.extend_from_slice.new.self.items in
    let reader = c.push_name.new.out.items in
    let image = c.push_name-2.new.out.items in
    let across = c.push_signed.new.out.items in
    let end = c.push_signed-2.new.out.items in
    let r = c.args.read in
    let fx : FitsSigned w32 r.dx = search rules in
    let fy : FitsSigned w32 r.dy = search rules in
    let dy : List ℕ = field (signed_decimal r.dy) in
    let offset : List ℕ = field (signed_decimal r.dx) ++ dy in
    let rest : List ℕ = field (name_of c.args.ir.now r.g) ++ offset in
    two start word end (codes "read") (field (name_of c.args.ir.now r.f) ++ rest) c.in_ok-extend_from_slice.ensures.items
    (two word reader end (field (name_of c.args.ir.now r.f)) rest c.in_ok-push_name.ensures
    (two reader image end (field (name_of c.args.ir.now r.g)) offset c.in_ok-push_name-2.ensures
    (two image across end (field (signed_decimal r.dx)) dy (told r.dx image across fx c.in_ok-push_signed.ensures) (told r.dy across end fy c.in_ok-push_signed-2.ensures))))
