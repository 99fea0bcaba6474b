-- Names that are taken from the end of a list, and turned round.
use Rattle.std.proofs.Common.{◌≡◌, List, [], ◌∷◌, ◌++◌, append_assoc, ap, sym, ◌∙◌, Option, Some, None}
use Rattle.std.specs.Prelude.{reverse}
use Rattle.std.specs.Option.{option_to_list}
use Rattle.std.proofs.lemmas.List.{reverse-append}
use Rattle.netlist.specs.Scopes.{collected}
use Rattle.netlist.proofs.Resolving.{collected-append}

turned : {Y : Type 0} (o : Option Y) (ws : List Y) → reverse (ws ++ option_to_list o) ≡ option_to_list o ++ reverse ws
turned None ws = reverse-append ws []
turned (Some y) ws = reverse-append ws (y ∷ [])

-- one item is taken from the end
pub take_last : {X Y : Type 0} (f : X → Option Y) (old new : List X) (x : X) (ws vs whole : List Y) → old ≡ new ++ x ∷ [] → vs ≡ ws ++ option_to_list (f x) → collected f old ++ reverse ws ≡ whole → collected f new ++ reverse vs ≡ whole
take_last f old new x ws vs whole last more is =
    ap (λ l. collected f new ++ reverse l) more
    ∙ ap (λ l. collected f new ++ l) (turned (f x) ws)
    ∙ sym (append_assoc (collected f new) (option_to_list (f x)) (reverse ws))
    ∙ ap (λ l. l ++ reverse ws) (sym (collected-append f new x))
    ∙ ap (λ l. collected f l ++ reverse ws) (sym last)
    ∙ is

-- none is left
pub none_left : {X Y : Type 0} (f : X → Option Y) (rest : List X) (ws whole : List Y) → rest ≡ [] → collected f rest ++ reverse ws ≡ whole → reverse ws ≡ whole
none_left f rest ws whole none is = ap (λ l. collected f l ++ reverse ws) (sym none) ∙ is
