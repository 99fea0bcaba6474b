-- The numbers of a command that words name are in their ranges.
use Rattle.std.proofs.Common.{◌≡◌, ℕ, ◌≤◌, ◌&&◌, refl, Bool, true, false, cond, List, Option, None, Some, IfSome, Result, Ok, Err, IfOk, option_and_then, option_map, subst, arith, nat_le, codes}
use Rattle.std.proofs.lemmas.Bool.Decides.{nat_tests}
use Rattle.std.specs.Str.{bytes_eq}
use Rattle.dk_base.specs.declared.TheConstants.{MAX_CLOCKS, MAX_HOLD, MAX_AGE, MAX_BUFFER_BITS, MAX_MADE}
use Rattle.dk_words.specs.declared.TheConstants.{MAX_LEVELS, MAX_PHASES}
use Rattle.clap.specs.Walk.{Row, Text, first_of}
use Rattle.clap.specs.Simple.{subcommand_of}
use Rattle.clap.specs.Takes.{takes}
use Rattle.dk_words.specs.Words.{program}
use Rattle.dk_words.specs.Numbers.{number_of, number_within, within}
use Rattle.dk_words.specs.Command.{Command, IsInRange, age_number, age_of, block_number, block_of, check_of_rows, check_on, clocks_of, command_asked, command_from, command_of, compile_of_rows, compile_on, cut_of_rows, cut_on, enable_of, eval_of_rows, eval_on, explain_of_rows, explain_on, fill_of, hold_number, hold_of, levels_number, made_number, make_of_rows, make_on, narrow_of_rows, narrow_on, nets_of_rows, nets_on, phases_number, plan_of_rows, plan_on, run_of_rows, run_on, sim_of_rows, sim_on, trace_of_rows, trace_on, widen_of_rows, widen_on}
use Rattle.dk_words.specs.declared.NoCommand.{NoCommand}
use Rattle.dk_words.specs.declared.command.Asked.{Asked}
use Rattle.dk_words.specs.declared.command.PowerUp.{PowerUp}

-- ---- numbers

-- a number that is read within a range is in it
number_in : (low high : ℕ) (word : Text) → IfSome (number_within low high word) (λ n. (low ≤ n) × (n ≤ high))
number_in low high word = read (number_of word)
  where
    tested : (n : ℕ) (b : Bool) → (nat_le low n && nat_le n high) ≡ b → IfSome (cond b (Some n) None) (λ m. (low ≤ m) × (m ≤ high))
    tested n true e = (grind (arith, nat_tests), grind (arith, nat_tests))
    tested n false e = tt

    read : (o : Option ℕ) → IfSome (option_and_then (within low high) o) (λ n. (low ≤ n) × (n ≤ high))
    read None = tt
    read (Some n) = tested n (nat_le low n && nat_le n high) refl

-- CLOCKS
clocks_in : (o : Option Text) → IfSome (option_and_then clocks_of o) (λ n. n ≤ MAX_CLOCKS)
clocks_in None = tt
clocks_in (Some word) = read (clocks_of word) (number_in 0 MAX_CLOCKS word)
  where
    read : (n : Option ℕ) → IfSome n (λ m. (0 ≤ m) × (m ≤ MAX_CLOCKS)) → IfSome n (λ m. m ≤ MAX_CLOCKS)
    read None e = tt
    read (Some n) e = e.1

-- `--hold`
hold_in : (o : Option Text) → IfSome (hold_of o) (λ h. IfSome h (λ k. (1 ≤ k) × (k ≤ MAX_HOLD)))
hold_in None = tt
hold_in (Some word) = read (hold_number word) (number_in 1 MAX_HOLD word)
  where
    read : (n : Option ℕ) → IfSome n (λ k. (1 ≤ k) × (k ≤ MAX_HOLD)) → IfSome (option_map (λ k. Some k) n) (λ h. IfSome h (λ k. (1 ≤ k) × (k ≤ MAX_HOLD)))
    read None e = tt
    read (Some n) e = e

-- `--age`
age_in : (o : Option Text) → IfSome (age_of o) (λ a. a ≤ MAX_AGE)
age_in None = omega arith
age_in (Some word) = read (age_number word) (number_in 0 MAX_AGE word)
  where
    read : (n : Option ℕ) → IfSome n (λ m. (0 ≤ m) × (m ≤ MAX_AGE)) → IfSome n (λ m. m ≤ MAX_AGE)
    read None e = tt
    read (Some n) e = e.1

-- `--block`
block_in : (o : Option Text) → IfSome (block_of o) (λ h. IfSome h (λ n. (2 ≤ n) × (n ≤ MAX_BUFFER_BITS)))
block_in None = tt
block_in (Some word) = read (block_number word) (number_in 2 MAX_BUFFER_BITS word)
  where
    read : (n : Option ℕ) → IfSome n (λ k. (2 ≤ k) × (k ≤ MAX_BUFFER_BITS)) → IfSome (option_map (λ k. Some k) n) (λ h. IfSome h (λ k. (2 ≤ k) × (k ≤ MAX_BUFFER_BITS)))
    read None e = tt
    read (Some n) e = e

-- N
number_made_in : (o : Option Text) → IfSome (option_and_then made_number o) (λ n. n ≤ MAX_MADE)
number_made_in None = tt
number_made_in (Some word) = read (made_number word) (number_in 0 MAX_MADE word)
  where
    read : (n : Option ℕ) → IfSome n (λ m. (0 ≤ m) × (m ≤ MAX_MADE)) → IfSome n (λ m. m ≤ MAX_MADE)
    read None e = tt
    read (Some n) e = e.1

-- N of `cut`
levels_in : (o : Option Text) → IfSome (option_and_then levels_number o) (λ n. (1 ≤ n) × (n ≤ MAX_LEVELS))
levels_in None = tt
levels_in (Some word) = number_in 1 MAX_LEVELS word

-- P of `widen`
phases_in : (o : Option Text) → IfSome (option_and_then phases_number o) (λ n. (2 ≤ n) × (n ≤ MAX_PHASES))
phases_in None = tt
phases_in (Some word) = number_in 2 MAX_PHASES word

-- ---- commands

run_in : (p i o : Option Text) (a : Option ℕ) → IfSome a (λ m. m ≤ MAX_AGE) → IfSome (run_on p i o a) IsInRange
run_in None i o a low = tt
run_in (Some p) None o a low = tt
run_in (Some p) (Some i) None a low = tt
run_in (Some p) (Some i) (Some o) None low = tt
run_in (Some p) (Some i) (Some o) (Some a) low = low

eval_in : (p i o : Option Text) → IfSome (eval_on p i o) IsInRange
eval_in None i o = tt
eval_in (Some p) None o = tt
eval_in (Some p) (Some i) None = tt
eval_in (Some p) (Some i) (Some o) = tt

compile_in : (p o : Option Text) (enable : Bool) (a : Option ℕ) (b : Option (Option ℕ)) → IfSome a (λ m. m ≤ MAX_AGE) → IfSome b (λ h. IfSome h (λ n. (2 ≤ n) × (n ≤ MAX_BUFFER_BITS))) → IfSome (compile_on p o enable a b) IsInRange
compile_in None o enable a b low within = tt
compile_in (Some p) None enable a b low within = tt
compile_in (Some p) (Some o) enable None b low within = tt
compile_in (Some p) (Some o) enable (Some a) None low within = tt
compile_in (Some p) (Some o) enable (Some a) (Some b) low within = (low, within)

trace_in : (v : Option Text) (n : Option ℕ) (i o : Option Text) → IfSome n (λ m. m ≤ MAX_CLOCKS) → IfSome (trace_on v n i o) IsInRange
trace_in None n i o few = tt
trace_in (Some v) None i o few = tt
trace_in (Some v) (Some n) None o few = tt
trace_in (Some v) (Some n) (Some i) None few = tt
trace_in (Some v) (Some n) (Some i) (Some o) few = few

make_in : (n : Option ℕ) → IfSome n (λ m. m ≤ MAX_MADE) → IfSome (make_on n) IsInRange
make_in None low = tt
make_in (Some n) low = low

cut_in : (n : Option ℕ) (p o : Option Text) → IfSome n (λ m. (1 ≤ m) × (m ≤ MAX_LEVELS)) → IfSome (cut_on n p o) IsInRange
cut_in None p o within = tt
cut_in (Some n) None o within = tt
cut_in (Some n) (Some p) None within = tt
cut_in (Some n) (Some p) (Some o) within = within

narrow_in : (p o : Option Text) → IfSome (narrow_on p o) IsInRange
narrow_in None o = tt
narrow_in (Some p) None = tt
narrow_in (Some p) (Some o) = tt

widen_in : (n : Option ℕ) (p o : Option Text) → IfSome n (λ m. (2 ≤ m) × (m ≤ MAX_PHASES)) → IfSome (widen_on n p o) IsInRange
widen_in None p o within = tt
widen_in (Some n) None o within = tt
widen_in (Some n) (Some p) None within = tt
widen_in (Some n) (Some p) (Some o) within = within

sim_in : (v : Option Text) (n : Option ℕ) (i o : Option Text) (f : Option PowerUp) (h : Option (Option ℕ)) → IfSome n (λ m. m ≤ MAX_CLOCKS) → IfSome h (λ x. IfSome x (λ k. (1 ≤ k) × (k ≤ MAX_HOLD))) → IfSome (sim_on v n i o f h) IsInRange
sim_in None n i o f h few held = tt
sim_in (Some v) None i o f h few held = tt
sim_in (Some v) (Some n) None o f h few held = tt
sim_in (Some v) (Some n) (Some i) None f h few held = tt
sim_in (Some v) (Some n) (Some i) (Some o) None h few held = tt
sim_in (Some v) (Some n) (Some i) (Some o) (Some f) None few held = tt
sim_in (Some v) (Some n) (Some i) (Some o) (Some f) (Some h) few held = (few, held)

plan_in : (p : Option Text) (a : Option ℕ) → IfSome a (λ m. m ≤ MAX_AGE) → IfSome (plan_on p a) IsInRange
plan_in None a low = tt
plan_in (Some p) None low = tt
plan_in (Some p) (Some a) low = low

check_in : (p r : Option Text) → IfSome (check_on p r) IsInRange
check_in None r = tt
check_in (Some p) None = tt
check_in (Some p) (Some r) = tt

explain_in : (p : Option Text) → IfSome (explain_on p) IsInRange
explain_in None = tt
explain_in (Some p) = tt

nets_in : (p : Option Text) (enable : Bool) (a : Option ℕ) (b : Option (Option ℕ)) → IfSome a (λ m. m ≤ MAX_AGE) → IfSome b (λ h. IfSome h (λ n. (2 ≤ n) × (n ≤ MAX_BUFFER_BITS))) → IfSome (nets_on p enable a b) IsInRange
nets_in None enable a b low within = tt
nets_in (Some p) enable None b low within = tt
nets_in (Some p) enable (Some a) None low within = tt
nets_in (Some p) enable (Some a) (Some b) low within = (low, within)

-- one of two commands
one_in : (b : Bool) (x y : Option Command) → IfSome x IsInRange → IfSome y IsInRange → IfSome (cond b x y) IsInRange
one_in true x y first second = first
one_in false x y first second = second

-- the command of a subcommand
from_in : (found : Option (Text × List Row)) → IfSome (command_from found) IsInRange
from_in None = tt
from_in (Some p) =
    one_in (bytes_eq p.0 (codes "run")) (run_of_rows p.1) _
    (run_in (first_of (codes "PROG") p.1) (first_of (codes "IN") p.1) (first_of (codes "OUT") p.1) (age_of (first_of (codes "age") p.1)) (age_in (first_of (codes "age") p.1)))
    (one_in (bytes_eq p.0 (codes "eval")) (eval_of_rows p.1) _ (eval_in (first_of (codes "PROG") p.1) (first_of (codes "IN") p.1) (first_of (codes "OUT") p.1))
    (one_in (bytes_eq p.0 (codes "compile")) (compile_of_rows p.1) _
    (compile_in (first_of (codes "PROG") p.1) (first_of (codes "OUT") p.1) (enable_of (first_of (codes "enable") p.1)) (age_of (first_of (codes "age") p.1)) (block_of (first_of (codes "block") p.1)) (age_in (first_of (codes "age") p.1)) (block_in (first_of (codes "block") p.1)))
    (one_in (bytes_eq p.0 (codes "sim")) (sim_of_rows p.1) _
    (sim_in (first_of (codes "VERILOG") p.1) (option_and_then clocks_of (first_of (codes "CLOCKS") p.1)) (first_of (codes "IN") p.1) (first_of (codes "OUT") p.1) (fill_of (first_of (codes "fill") p.1)) (hold_of (first_of (codes "hold") p.1))
    (clocks_in (first_of (codes "CLOCKS") p.1)) (hold_in (first_of (codes "hold") p.1)))
    (one_in (bytes_eq p.0 (codes "trace")) (trace_of_rows p.1) _
    (trace_in (first_of (codes "VERILOG") p.1) (option_and_then clocks_of (first_of (codes "CLOCKS") p.1)) (first_of (codes "IN") p.1) (first_of (codes "VCD") p.1) (clocks_in (first_of (codes "CLOCKS") p.1)))
    (one_in (bytes_eq p.0 (codes "plan")) (plan_of_rows p.1) _ (plan_in (first_of (codes "PROG") p.1) (age_of (first_of (codes "age") p.1)) (age_in (first_of (codes "age") p.1)))
    (one_in (bytes_eq p.0 (codes "check")) (check_of_rows p.1) _ (check_in (first_of (codes "PROG") p.1) (first_of (codes "REPORT") p.1))
    (one_in (bytes_eq p.0 (codes "make")) (make_of_rows p.1) _ (make_in (option_and_then made_number (first_of (codes "N") p.1)) (number_made_in (first_of (codes "N") p.1)))
    (one_in (bytes_eq p.0 (codes "cut")) (cut_of_rows p.1) _
    (cut_in (option_and_then levels_number (first_of (codes "N") p.1)) (first_of (codes "PROG") p.1) (first_of (codes "OUT") p.1) (levels_in (first_of (codes "N") p.1)))
    (one_in (bytes_eq p.0 (codes "narrow")) (narrow_of_rows p.1) _ (narrow_in (first_of (codes "PROG") p.1) (first_of (codes "OUT") p.1))
    (one_in (bytes_eq p.0 (codes "widen")) (widen_of_rows p.1) _
    (widen_in (option_and_then phases_number (first_of (codes "P") p.1)) (first_of (codes "PROG") p.1) (first_of (codes "OUT") p.1) (phases_in (first_of (codes "P") p.1)))
    (one_in (bytes_eq p.0 (codes "explain")) (explain_of_rows p.1) _ (explain_in (first_of (codes "PROG") p.1))
    (one_in (bytes_eq p.0 (codes "nets")) (nets_of_rows p.1) None
    (nets_in (first_of (codes "PROG") p.1) (enable_of (first_of (codes "enable") p.1)) (age_of (first_of (codes "age") p.1)) (block_of (first_of (codes "block") p.1)) (age_in (first_of (codes "age") p.1)) (block_in (first_of (codes "block") p.1))) tt))))))))))))

-- the command that words name
pub named_in : (ws : List Text) (command : Command) → command_of ws ≡ Some command → IsInRange command
named_in ws command is =
    let P : Option Command → Type 0 = λ o. IfSome o IsInRange in
    subst P is (one_in (takes program ws) (command_from (subcommand_of program ws)) None (from_in (subcommand_of program ws)) tt)

-- and the command that is read
pub read_in : (ws : List Text) (r : Result Asked NoCommand) → IfOk r (λ asked. command_of ws ≡ Some (command_asked asked)) → IfOk r (λ asked. IsInRange (command_asked asked))
read_in ws (Ok asked) is = named_in ws (command_asked asked) is
read_in ws (Err e) is = tt
