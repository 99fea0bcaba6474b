-- A program that is read from a text has an input and an output.
use Rattle.std.proofs.Common.{◌≡◌, ℕ, ◌≤◌, suc, List, ◌∷◌, length, refl, ap, subst, arith}
use Rattle.dk_lexer.specs.declared.token.Token.{Token}
use Rattle.dk_parser.specs.Programs.{Source}
use Rattle.dk_parser.specs.Judged.{Derives}
use Rattle.dk_types.specs.Typed.{Typing}
use Rattle.dk_types.specs.Sequences.{Each, none, next}
use Rattle.dk_types.specs.Types.{IsTyping}
use Rattle.dk_compile.specs.Sources.{HasTree}

some : {A : Type 0} {x : A} {xs ys : List A} → x ∷ xs ≡ ys → 1 ≤ length ys
some e = subst (λ zs. 1 ≤ length zs) e (omega arith)

tree_ports : (ts : List Token) (p : Source) → Derives ts p → (1 ≤ length p.inputs) × (1 ≤ length p.outputs)
tree_ports ts p (s, a, size, (w, b, width, (h, c, height, (is, d, (i, e, input, (js, f, inputs, (some_inputs, x))), (ds, g, definitions, (os, k, (o, l, output, (qs, m, outputs, (some_outputs, y))), (z, n, ends, (same, done)))))))) =
    let P : Source → Type 0 = λ q. (1 ≤ length q.inputs) × (1 ≤ length q.outputs) in
    subst P same (some some_inputs, some some_outputs)

-- as many become typed as there are
as_many : {I O : Type 0} {Rule : List I → List O → I → O → Type 0} {is : List I} {os : List O} {xs : List I} {ys : List O} → Each Rule is os xs ys → length xs ≡ length ys
as_many none = refl
as_many (next r rest) = ap suc (as_many rest)

pub some_ports : (text : List ℕ) (tree : Source) (p : Typing) → HasTree text tree → IsTyping tree p → (1 ≤ length p.inputs) × (1 ≤ length p.outputs)
some_ports text tree p has typed =
    let some = tree_ports has.tokens tree has.parsed.derives in
    let i = as_many typed.inputs in
    let o = as_many typed.outputs in
    let a = some.0 in
    let b = some.1 in
    (omega (arith, a, i), omega (arith, b, o))
