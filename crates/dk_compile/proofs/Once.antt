-- A text is that of one program at most.
use Rattle.std.proofs.Common.{◌≡◌, ℕ, List, subst}
use Rattle.dk_lexer.specs.declared.token.Token.{Token}
use Rattle.dk_lexer.specs.Lexis.{HasTokens}
use Rattle.dk_parser.specs.Programs.{Source}
use Rattle.dk_parser.specs.Judged.{Derives}
use Rattle.dk_types.specs.Typed.{Typing}
use Rattle.dk_types.specs.Types.{IsTyping}
use Rattle.dk_compile.specs.Sources.{HasTree, IsText}

module _ (tokens_once : (text : List ℕ) (ts us : List Token) → HasTokens text ts → HasTokens text us → ts ≡ us) (tree_once : (ts : List Token) (p q : Source) → Derives ts p → Derives ts q → p ≡ q) where
  pub tree_one : (text : List ℕ) (a b : Source) → HasTree text a → HasTree text b → a ≡ b
  tree_one text a b h k =
      let same = tokens_once text h.tokens k.tokens h.cut.are k.cut.are in
      let P : List Token → Type 0 = λ ts. Derives ts a in
      tree_once k.tokens a b (subst P same h.parsed.derives) k.parsed.derives

  pub text_one : ((a : Source) (p q : Typing) → IsTyping a p → IsTyping a q → p ≡ q) → (text : List ℕ) (p q : Typing) → IsText text p → IsText text q → p ≡ q
  text_one typing_once text p q h k =
      let P : Source → Type 0 = λ a. IsTyping a p in
      typing_once k.tree p q (subst P (tree_one text h.tree k.tree h.parsed k.parsed) h.typed) k.typed
