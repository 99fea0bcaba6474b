-- What is left to read of the steps after a first operand.
use Rattle.std.proofs.Common.{◌≡◌, ℕ, suc, ◌<◌, ◌≤◌, ◌++◌, length}
use Rattle.dk_parser.specs.Tree.{Tree}
use Rattle.dk_parser.specs.Grammar.{Tokens, steps, Phrase}
use Rattle.dk_parser.specs.Front.{rank}
use Rattle.dk_parser.specs.Grown.{Stands}
use Rattle.dk_parser.specs.declared.built.Built.{Built}

-- The steps after l0 in ts are those after l in rest, whatever is in place of rest.
pub record Resumes (n : ℕ) (l0 : Tree) (ts : Tokens) (l : Tree) (rest : Tokens) : Type 0 where
  pub own : Tokens
  pub whole : ts ≡ own ++ rest
  pub into : (w r : Tokens) (e : Tree) → Phrase (steps n l) w e r → Phrase (steps n l0) (own ++ w) e r
  pub out : (w r : Tokens) (e : Tree) → rank w ≡ rank rest → Phrase (steps n l0) (own ++ w) e r → suc (suc n) < rank r → Phrase (steps n l) w e r
  pub fewer : length rest ≤ length ts

-- The same, with what is kept of the tree so far.
pub record Keeps (n : ℕ) (l0 : Tree) (ts : Tokens) (built : Built) (rest : Tokens) : Type 0 where
  pub tree : Tree
  pub stands : Stands built tree
  pub resumes : Resumes n l0 ts tree rest

pub record Going (n : ℕ) (first : Built) (ts : Tokens) (built : Built) (rest : Tokens) : Type 0 where
  pub fewer : length rest ≤ length ts
  pub keeps : (l0 : Tree) → Stands first l0 → Keeps n l0 ts built rest
