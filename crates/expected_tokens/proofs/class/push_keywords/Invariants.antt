use Rattle.std.proofs.Common.{◌≡◌, ◌++◌, map, take}
use Rattle.expected_tokens.specs.declared.class.TokenClass.{TokenClass}
use Rattle.expected_tokens.specs.declared.class.TokenClass.TheVariants as class
use Rattle.expected_tokens.proofs.class.push_keywords.Given as goal

abbrev pub invariant-loop-keyword : goal.invariant-loop-keyword
invariant-loop-keyword l = l.to.items ≡ l.fn.to.items ++ map class.Keyword (take l.keyword-index l.keywords)
