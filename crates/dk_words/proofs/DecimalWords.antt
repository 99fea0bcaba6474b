-- What commands with numbers read, where the numbers are decimals after zeros, in their ranges.
use Rattle.std.proofs.Common.{◌≡◌, ℕ, ◌≤◌, true, false, [], ◌∷◌, Some, None, codes, arith}
use Rattle.dk_base.specs.declared.TheConstants.{MAX_CLOCKS, MAX_HOLD, MAX_AGE, MAX_BUFFER_BITS, MAX_MADE}
use Rattle.dk_words.specs.declared.TheConstants.{MAX_LEVELS, MAX_PHASES}
use Rattle.clap.specs.Walk.{Text}
use Rattle.dk_words.specs.Words.{is_like_option}
use Rattle.dk_words.specs.Numbers.{padded_decimal}
use Rattle.dk_words.specs.Command.{age_number, block_number, clocks_of, command_of, compile, hold_number, levels_number, made_number, make, nets, phases_number, plan, rewrite, run, sim, trace}
use Rattle.dk_words.specs.declared.command.Rewriting.TheVariants.{Cut, Widen}
use Rattle.dk_words.specs.declared.command.PowerUp.TheVariants.{Zeros, Ones}
use Rattle.dk_words.proofs.FileWords.{age_first_reads, age_last_reads, block_first_reads, block_last_reads, both_first_reads, both_last_reads, both_reads, compile_age_first_reads, compile_age_last_reads, cut_reads, cut_reads_after, hold_reads, make_reads, make_reads_after, nets_age_reads, nets_block_reads, ones_reads, run_age_first_reads, run_age_last_reads, sim_reads, sim_reads_after, trace_reads, trace_reads_after, widen_reads, widen_reads_after}
use Rattle.dk_words.proofs.NumberLemmas.{plain-padded, within-padded}

-- ---- the ranges

clocks_padded : (z n : ℕ) → n ≤ MAX_CLOCKS → clocks_of (padded_decimal z n) ≡ Some n
clocks_padded z n h = within-padded 0 MAX_CLOCKS z n (omega arith) h (omega arith)

hold_padded : (z n : ℕ) → 1 ≤ n → n ≤ MAX_HOLD → hold_number (padded_decimal z n) ≡ Some n
hold_padded z n l h = within-padded 1 MAX_HOLD z n l h (omega arith)

age_padded : (z n : ℕ) → n ≤ MAX_AGE → age_number (padded_decimal z n) ≡ Some n
age_padded z n h = within-padded 0 MAX_AGE z n (omega arith) h (omega arith)

block_padded : (z n : ℕ) → 2 ≤ n → n ≤ MAX_BUFFER_BITS → block_number (padded_decimal z n) ≡ Some n
block_padded z n l h = within-padded 2 MAX_BUFFER_BITS z n l h (omega arith)

made_padded : (z n : ℕ) → n ≤ MAX_MADE → made_number (padded_decimal z n) ≡ Some n
made_padded z n h = within-padded 0 MAX_MADE z n (omega arith) h (omega arith)

levels_padded : (z n : ℕ) → 1 ≤ n → n ≤ MAX_LEVELS → levels_number (padded_decimal z n) ≡ Some n
levels_padded z n l h = within-padded 1 MAX_LEVELS z n l h (omega arith)

phases_padded : (z n : ℕ) → 2 ≤ n → n ≤ MAX_PHASES → phases_number (padded_decimal z n) ≡ Some n
phases_padded z n l h = within-padded 2 MAX_PHASES z n l h (omega arith)

-- a number in a range is no option
plain : (z n : ℕ) → n ≤ MAX_CLOCKS → is_like_option (padded_decimal z n) ≡ false
plain z n h = plain-padded z n (omega arith)

-- ---- the commands

module _ (name v i o : Text) (z n : ℕ) (few : n ≤ MAX_CLOCKS) where
  pub sim_after : command_of (name ∷ codes "sim" ∷ codes "--" ∷ v ∷ padded_decimal z n ∷ i ∷ o ∷ []) ≡ Some (sim v n i o Zeros None)
  sim_after = sim_reads_after name v (padded_decimal z n) i o n (clocks_padded z n few)

  module _ (ev : is_like_option v ≡ false) (ei : is_like_option i ≡ false) (eo : is_like_option o ≡ false) where
    pub sim_alone : command_of (name ∷ codes "sim" ∷ v ∷ padded_decimal z n ∷ i ∷ o ∷ []) ≡ Some (sim v n i o Zeros None)
    sim_alone = sim_reads v (padded_decimal z n) i o ev (plain z n few) ei eo name n (clocks_padded z n few)

    pub sim_ones : command_of (name ∷ codes "sim" ∷ v ∷ padded_decimal z n ∷ i ∷ o ∷ codes "--fill" ∷ codes "ones" ∷ []) ≡ Some (sim v n i o Ones None)
    sim_ones = ones_reads v (padded_decimal z n) i o ev (plain z n few) ei eo name n (clocks_padded z n few)

    module _ (y k : ℕ) (low : 1 ≤ k) (high : k ≤ MAX_HOLD) where
      pub sim_hold : command_of (name ∷ codes "sim" ∷ v ∷ padded_decimal z n ∷ i ∷ o ∷ codes "--hold" ∷ padded_decimal y k ∷ []) ≡ Some (sim v n i o Zeros (Some k))
      sim_hold = hold_reads v (padded_decimal z n) i o ev (plain z n few) ei eo name n (clocks_padded z n few) (padded_decimal y k) (plain y k (omega arith)) k (hold_padded y k low high)

      pub sim_ones_hold : command_of (name ∷ codes "sim" ∷ v ∷ padded_decimal z n ∷ i ∷ o ∷ codes "--fill" ∷ codes "ones" ∷ codes "--hold" ∷ padded_decimal y k ∷ []) ≡ Some (sim v n i o Ones (Some k))
      sim_ones_hold = both_reads v (padded_decimal z n) i o ev (plain z n few) ei eo name n (clocks_padded z n few) (padded_decimal y k) (plain y k (omega arith)) k (hold_padded y k low high)

module _ (name p : Text) (z age : ℕ) (low : age ≤ MAX_AGE) (ep : is_like_option p ≡ false) where
  pub plan_age_first : command_of (name ∷ codes "plan" ∷ codes "--age" ∷ padded_decimal z age ∷ p ∷ []) ≡ Some (plan p age)
  plan_age_first = age_first_reads p (padded_decimal z age) ep (plain z age (omega arith)) name age (age_padded z age low)

  pub plan_age_last : command_of (name ∷ codes "plan" ∷ p ∷ codes "--age" ∷ padded_decimal z age ∷ []) ≡ Some (plan p age)
  plan_age_last = age_last_reads p (padded_decimal z age) ep (plain z age (omega arith)) name age (age_padded z age low)

module _ (name p i o : Text) (z age : ℕ) (low : age ≤ MAX_AGE) (ep : is_like_option p ≡ false) (ei : is_like_option i ≡ false) (eo : is_like_option o ≡ false) where
  pub run_age_first : command_of (name ∷ codes "run" ∷ codes "--age" ∷ padded_decimal z age ∷ p ∷ i ∷ o ∷ []) ≡ Some (run p i o age)
  run_age_first = run_age_first_reads p i o ep ei eo (padded_decimal z age) (plain z age (omega arith)) name age (age_padded z age low)

  pub run_age_last : command_of (name ∷ codes "run" ∷ p ∷ i ∷ o ∷ codes "--age" ∷ padded_decimal z age ∷ []) ≡ Some (run p i o age)
  run_age_last = run_age_last_reads p i o ep ei eo (padded_decimal z age) (plain z age (omega arith)) name age (age_padded z age low)

module _ (name p o : Text) (z age : ℕ) (low : age ≤ MAX_AGE) (ep : is_like_option p ≡ false) (eo : is_like_option o ≡ false) where
  pub compile_age_first : command_of (name ∷ codes "compile" ∷ codes "--age" ∷ padded_decimal z age ∷ p ∷ o ∷ []) ≡ Some (compile p o false age None)
  compile_age_first = compile_age_first_reads p o ep eo (padded_decimal z age) (plain z age (omega arith)) name age (age_padded z age low)

  pub compile_age_last : command_of (name ∷ codes "compile" ∷ p ∷ o ∷ codes "--age" ∷ padded_decimal z age ∷ []) ≡ Some (compile p o false age None)
  compile_age_last = compile_age_last_reads p o ep eo (padded_decimal z age) (plain z age (omega arith)) name age (age_padded z age low)

  pub compile_both_first : command_of (name ∷ codes "compile" ∷ codes "--enable" ∷ codes "--age" ∷ padded_decimal z age ∷ p ∷ o ∷ []) ≡ Some (compile p o true age None)
  compile_both_first = both_first_reads p o ep eo (padded_decimal z age) (plain z age (omega arith)) name age (age_padded z age low)

  pub compile_both_last : command_of (name ∷ codes "compile" ∷ p ∷ o ∷ codes "--enable" ∷ codes "--age" ∷ padded_decimal z age ∷ []) ≡ Some (compile p o true age None)
  compile_both_last = both_last_reads p o ep eo (padded_decimal z age) (plain z age (omega arith)) name age (age_padded z age low)

module _ (name p o : Text) (z n : ℕ) (low : 1 ≤ n) (high : n ≤ MAX_LEVELS) where
  pub cut_alone : is_like_option p ≡ false → is_like_option o ≡ false → command_of (name ∷ codes "cut" ∷ padded_decimal z n ∷ p ∷ o ∷ []) ≡ Some (rewrite (Cut n) p o)
  cut_alone ep eo = cut_reads name (padded_decimal z n) p o n (levels_padded z n low high) (plain z n (omega (arith, high))) ep eo

  pub cut_after : command_of (name ∷ codes "cut" ∷ codes "--" ∷ padded_decimal z n ∷ p ∷ o ∷ []) ≡ Some (rewrite (Cut n) p o)
  cut_after = cut_reads_after name (padded_decimal z n) p o n (levels_padded z n low high)

module _ (name p o : Text) (z n : ℕ) (low : 2 ≤ n) (high : n ≤ MAX_PHASES) where
  pub widen_alone : is_like_option p ≡ false → is_like_option o ≡ false → command_of (name ∷ codes "widen" ∷ padded_decimal z n ∷ p ∷ o ∷ []) ≡ Some (rewrite (Widen n) p o)
  widen_alone ep eo = widen_reads name (padded_decimal z n) p o n (phases_padded z n low high) (plain z n (omega (arith, high))) ep eo

  pub widen_after : command_of (name ∷ codes "widen" ∷ codes "--" ∷ padded_decimal z n ∷ p ∷ o ∷ []) ≡ Some (rewrite (Widen n) p o)
  widen_after = widen_reads_after name (padded_decimal z n) p o n (phases_padded z n low high)

pub make_alone : (name : Text) (z n : ℕ) → n ≤ MAX_MADE → command_of (name ∷ codes "make" ∷ padded_decimal z n ∷ []) ≡ Some (make n)
make_alone name z n low = make_reads name (padded_decimal z n) n (made_padded z n low) (plain z n (omega arith))

pub make_after : (name : Text) (z n : ℕ) → n ≤ MAX_MADE → command_of (name ∷ codes "make" ∷ codes "--" ∷ padded_decimal z n ∷ []) ≡ Some (make n)
make_after name z n low = make_reads_after name (padded_decimal z n) n (made_padded z n low)

module _ (name v i o : Text) (z n : ℕ) (few : n ≤ MAX_CLOCKS) where
  pub trace_alone : is_like_option v ≡ false → is_like_option i ≡ false → is_like_option o ≡ false → command_of (name ∷ codes "trace" ∷ v ∷ padded_decimal z n ∷ i ∷ o ∷ []) ≡ Some (trace v n i o)
  trace_alone ev ei eo = trace_reads name v (padded_decimal z n) i o n (clocks_padded z n few) ev (plain z n few) ei eo

  pub trace_after : command_of (name ∷ codes "trace" ∷ codes "--" ∷ v ∷ padded_decimal z n ∷ i ∷ o ∷ []) ≡ Some (trace v n i o)
  trace_after = trace_reads_after name v (padded_decimal z n) i o n (clocks_padded z n few)

module _ (name p o : Text) (z block : ℕ) (low : 2 ≤ block) (high : block ≤ MAX_BUFFER_BITS) (ep : is_like_option p ≡ false) (eo : is_like_option o ≡ false) where
  pub compile_block_first : command_of (name ∷ codes "compile" ∷ codes "--block" ∷ padded_decimal z block ∷ p ∷ o ∷ []) ≡ Some (compile p o false 0 (Some block))
  compile_block_first = block_first_reads p o ep eo (padded_decimal z block) (plain z block (omega (arith, high))) name block (block_padded z block low high)

  pub compile_block_last : command_of (name ∷ codes "compile" ∷ p ∷ o ∷ codes "--block" ∷ padded_decimal z block ∷ []) ≡ Some (compile p o false 0 (Some block))
  compile_block_last = block_last_reads p o ep eo (padded_decimal z block) (plain z block (omega (arith, high))) name block (block_padded z block low high)

module _ (name p : Text) (ep : is_like_option p ≡ false) where
  pub nets_age : (z age : ℕ) → age ≤ MAX_AGE → command_of (name ∷ codes "nets" ∷ codes "--age" ∷ padded_decimal z age ∷ p ∷ []) ≡ Some (nets p false age None)
  nets_age z age low = nets_age_reads p ep (padded_decimal z age) (plain z age (omega arith)) name age (age_padded z age low)

  pub nets_block : (z block : ℕ) → 2 ≤ block → block ≤ MAX_BUFFER_BITS → command_of (name ∷ codes "nets" ∷ codes "--block" ∷ padded_decimal z block ∷ p ∷ []) ≡ Some (nets p false 0 (Some block))
  nets_block z block low high = nets_block_reads p ep (padded_decimal z block) (plain z block (omega (arith, high))) name block (block_padded z block low high)
