-- The program's command, built row by row.
use Rattle.std.proofs.Common.{◌≡◌, ◌&&◌, not, Bool, true, false, ℕ, ◌+◌, ◌<◌, List, [], ◌∷◌, ◌++◌, map, take, get_or, length, refl, sym, ap, append_assoc, ◌∙◌}
use Rattle.std.proofs.lemmas.List.{take_more, map-append}
use Rattle.std.specs.Borrow.{Bor}
use Rattle.clap.specs.Simple as clap
use Rattle.clap.specs.Words.{App, Rule, shape_of, with_rule, with_subcommand}
use Rattle.clap.specs.declared.builder.command.Command.{Command}
use Rattle.clap.specs.declared.builder.command.Command.TheViews.{out-Command as fields_of}
use Rattle.dk_words.specs.declared.shapes.Shape.{Shape}
use Rattle.dk_words.specs.Shapes.{names_of, command_of_row, program_of}

-- the images of the first items and one more
map-take_more : {X Y : Type 0} (f : X → Y) (xs : List X) (i : ℕ) (x : X) → i < length xs → map f (take (i + 1) xs) ≡ map f (take i xs) ++ f (get_or xs i x) ∷ []
map-take_more f xs i x low = ap (map f) (take_more xs i x low) ∙ map-append f (take i xs) (get_or xs i x ∷ [])

-- the rules of a command with the arguments of the first names and one more
pub one_more_name : (rule : List ℕ → Rule) (names : List (Bor (List ℕ))) (i : ℕ) (name : Bor (List ℕ)) (a : Rule) (before : clap.Shape) (old new : App) → i < length names → new ≡ with_rule old a → a ≡ rule (get_or names i name).now
    → old.top ≡ record before { rules = before.rules ++ map rule (names_of (take i names)) }
    → new.top ≡ record before { rules = before.rules ++ map rule (names_of (take (i + 1) names)) }
one_more_name rule names i name a before old new low adds is so =
    let names_more : names_of (take (i + 1) names) ≡ names_of (take i names) ++ (get_or names i name).now ∷ [] = map-take_more (λ n. n.now) names i name low in
    let rules_more : map rule (names_of (take (i + 1) names)) ≡ map rule (names_of (take i names)) ++ rule (get_or names i name).now ∷ [] = ap (map rule) names_more ∙ map-append rule (names_of (take i names)) ((get_or names i name).now ∷ []) in
    let all : before.rules ++ map rule (names_of (take (i + 1) names)) ≡ (before.rules ++ map rule (names_of (take i names))) ++ a ∷ [] =
    ap (λ rs. before.rules ++ rs) rules_more ∙ (sym (append_assoc before.rules (map rule (names_of (take i names))) (rule (get_or names i name).now ∷ [])) ∙ ap (λ r. (before.rules ++ map rule (names_of (take i names))) ++ r ∷ []) (sym is)) in
    ap (λ (n : App). n.top) adds ∙ (ap (λ (s : clap.Shape). record s { rules = s.rules ++ a ∷ [] }) so ∙ ap (λ rs. record before { rules = rs }) (sym all))

-- a command of a row has no global argument
row_is_local : (row : Shape) (c : Command) → shape_of c ≡ command_of_row row → (fields_of c).has_globals ≡ false
row_is_local row c is = third _ _ (fields_of c).has_globals _ (ap (λ (s : clap.Shape). s.is_plain) is)
  where
    third : (a b g rest : Bool) → (a && (b && (not g && rest))) ≡ true → g ≡ false
    third a b false rest plain = refl
    third true true true rest plain = sym plain
    third true false true rest plain = sym plain
    third false b true rest plain = sym plain

-- the program with the commands of the first rows and one more
pub one_more_row : (rows : List Shape) (i : ℕ) (row : Shape) (c : Command) (old new : App) → i < length rows → ((fields_of c).has_globals ≡ false → new ≡ with_subcommand old (shape_of c)) → shape_of c ≡ command_of_row (get_or rows i row) → old ≡ program_of (take i rows) → new ≡ program_of (take (i + 1) rows)
one_more_row rows i row c old new low adds is so =
    let added : new ≡ with_subcommand (program_of (take i rows)) (command_of_row (get_or rows i row)) = adds (row_is_local (get_or rows i row) c is) ∙ (ap (λ x. with_subcommand x (shape_of c)) so ∙ ap (λ x. with_subcommand (program_of (take i rows)) x) is) in
    added ∙ (appended (take i rows) (get_or rows i row) ∙ ap program_of (sym (take_more rows i row low)))
  where
    appended : (first : List Shape) (last : Shape) → with_subcommand (program_of first) (command_of_row last) ≡ program_of (first ++ last ∷ [])
    appended [] last = refl
    appended (x ∷ xs) last = ap (λ subs. record (with_subcommand (program_of (x ∷ xs)) (command_of_row last)) { subs = command_of_row x ∷ subs }) (sym (map-append command_of_row xs (last ∷ [])))
