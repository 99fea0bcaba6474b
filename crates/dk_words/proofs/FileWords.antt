-- What a command reads where none of its words is like an option.
use Rattle.std.proofs.Common.{◌≡◌, ℕ, ◌==◌, ◌&&◌, Bool, true, false, cond, List, [], ◌∷◌, Option, Some, None, fold, refl, ap, ◌∙◌, codes, option_and_then, option_map}
use Rattle.std.specs.List.{list_all}
use Rattle.std.specs.Str.{bytes_eq}
use Rattle.clap.specs.Lexer.{long_of, long_of_rest, short_of, short_of_rest, strip_byte}
use Rattle.clap.specs.Takes as pass
use Rattle.clap.specs.Takes.{walk_passes}
use Rattle.clap.specs.Walk.{Held, Row, Rule, Text, Walk, after_step, arg_by_index, finished, idle, nothing_held, option, plain_word, rows_after, settled, to_positional, value, walk_from, walked, walked_from, word_met}
use Rattle.clap.specs.Simple.{Shape}
use Rattle.dk_words.specs.Words.{is_like_option}
use Rattle.dk_words.specs.Command.{Command, age_number, block_number, check, check_of_rows, clocks_of, command_of, compile, compile_of_rows, compile_on, cut_of_rows, cut_on, eval, eval_of_rows, explain, explain_of_rows, hold_number, levels_number, made_number, make, make_of_rows, make_on, narrow_of_rows, nets, nets_of_rows, nets_on, phases_number, plan, plan_of_rows, plan_on, rewrite, run, run_of_rows, run_on, sim, sim_of_rows, sim_on, trace, trace_of_rows, trace_on, widen_of_rows, widen_on}
use Rattle.dk_words.specs.declared.command.PowerUp.TheVariants.{Zeros, Ones}
use Rattle.dk_words.specs.declared.command.Rewriting.TheVariants.{Cut, Narrow, Widen}
use Rattle.dk_words.proofs.Joined.{both}
use Rattle.dk_words.specs.Words.{run_command, eval_command, compile_command, sim_command, trace_command, plan_command, check_command, make_command, cut_command, narrow_command, widen_command, explain_command, nets_command}
use Rattle.dk_words.proofs.TakenLemmas.{in_program}

-- ---- a word that is not like an option

-- it does not end the options
no_dashes : (word : Text) → is_like_option word ≡ false → bytes_eq word (45 ∷ 45 ∷ []) ≡ false
no_dashes [] e = refl
no_dashes (x ∷ []) e = elim (x == 45) as (λ b. (b && false) ≡ false) [ true ↦ refl | false ↦ refl ]
no_dashes (x ∷ y ∷ rest) e = rw e refl

-- it is no long option
no_long : (word : Text) → is_like_option word ≡ false → long_of word ≡ None
no_long [] e = refl
no_long (x ∷ []) e = cases (x == 45)
  where
    cases : (b : Bool) → option_and_then long_of_rest (option_and_then (strip_byte 45) (cond b (Some []) None)) ≡ None
    cases true = refl
    cases false = refl
no_long (x ∷ y ∷ rest) e = rw e refl

-- it is no bundle of short options
no_short : (word : Text) → is_like_option word ≡ false → short_of word ≡ None
no_short [] e = refl
no_short (x ∷ []) e = cases (x == 45)
  where
    cases : (b : Bool) → option_and_then short_of_rest (cond b (Some []) None) ≡ None
    cases true = refl
    cases false = refl
no_short (x ∷ y ∷ rest) e = rw e refl

-- it goes to a positional
goes_on : (c : List Rule) (position : ℕ) (word : Text) (h : Held) → is_like_option word ≡ false → word_met c [] false idle position word h ≡ (h, value)
goes_on c position word h e = rw (no_dashes word e, no_long word e, no_short word e) refl

-- no flag is met in it
is_no_flag : (s : Shape) (word : Text) (h : Held) → is_like_option word ≡ false → pass.other_passes s None word h ≡ true
is_no_flag s word h e = rw (no_dashes word e, no_long word e, no_short word e) refl

-- ---- one word of three

-- where the walk is before the positional of this number
abbrev standing : Held → ℕ → Walk
standing h position = record { held = h; waiting = idle; position = position; is_trailing = false; stopped = None }

-- the walk takes it to the next positional
moved : (c : List Rule) (h : Held) (position : ℕ) (word : Text) → is_like_option word ≡ false → walked c [] (standing h position) word ≡ to_positional c (arg_by_index c position) word (standing h position) h
unfolding walked
moved c h position word e = ap (λ met. after_step c word (standing h position) met.0 met.1) (goes_on c position word h e)

-- the walk passes it
turn : (s : Shape) (h : Held) (position : ℕ) (word : Text) → is_like_option word ≡ false → pass.step_passes s position h value ≡ true → pass.turn_passes s [] (standing h position) word ≡ true
turn s h position word e step =
    let met : pass.step_passes s position (word_met s.rules [] false idle position word h).0 (word_met s.rules [] false idle position word h).1 ≡ true =
    ap (λ m. pass.step_passes s position m.0 m.1) (goes_on s.rules position word h e) ∙ step in
    both _ _ (is_no_flag s word h e) met

-- ---- a word for an option that waits

-- where the walk is where this option waits for its value
abbrev waiting_for : Text → Held → ℕ → Walk
waiting_for id h position = record { held = h; waiting = option id; position = position; is_trailing = false; stopped = None }

-- the word is its value
goes_to_option : (c : List Rule) (id : Text) (position : ℕ) (word : Text) (h : Held) → is_like_option word ≡ false → word_met c [] false (option id) position word h ≡ plain_word c (option id) word h
goes_to_option c id position word h e = rw (no_dashes word e, no_long word e, no_short word e) refl

-- the walk takes it
taken_up : (c : List Rule) (id : Text) (h : Held) (position : ℕ) (word : Text) → is_like_option word ≡ false
    → walked c [] (waiting_for id h position) word ≡ after_step c word (waiting_for id h position) (plain_word c (option id) word h).0 (plain_word c (option id) word h).1
unfolding walked
taken_up c id h position word e = ap (λ met. after_step c word (waiting_for id h position) met.0 met.1) (goes_to_option c id position word h e)

-- the walk passes it
value_turn : (s : Shape) (id : Text) (h : Held) (position : ℕ) (word : Text) → is_like_option word ≡ false → pass.turn_passes s [] (waiting_for id h position) word ≡ true
value_turn s id h position word e =
    let met : pass.step_passes s position (word_met s.rules [] false (option id) position word h).0 (word_met s.rules [] false (option id) position word h).1 ≡ true =
    ap (λ m. pass.step_passes s position m.0 m.1) (goes_to_option s.rules id position word h e) in
    both _ _ (is_no_flag s word h e) met

-- ---- words in a row

-- the words pass, and lead the walk from one place to another
abbrev Goes : Shape → Walk → List Text → Walk → Type 0
Goes s from ws to = (fold (walked s.rules []) from ws ≡ to) × (walk_passes s [] from ws ≡ true)

goes_nowhere : (s : Shape) (w : Walk) → Goes s w [] w
unfolding walk_passes
goes_nowhere s w = (refl, refl)

-- one word more in front
goes_by : (s : Shape) (from next to : Walk) (word : Text) (rest : List Text) → walked s.rules [] from word ≡ next → pass.turn_passes s [] from word ≡ true → Goes s next rest to → Goes s from (word ∷ rest) to
unfolding walk_passes
goes_by s from next to word rest moves passes goes =
    (ap (λ w. fold (walked s.rules []) w rest) moves ∙ goes.0, both _ _ passes (ap (λ w. walk_passes s [] w rest) moves ∙ goes.1))

-- a word for a positional in front
goes_by_word : (s : Shape) (h : Held) (position : ℕ) (to : Walk) (word : Text) (rest : List Text) → is_like_option word ≡ false → pass.step_passes s position h value ≡ true
    → Goes s (to_positional s.rules (arg_by_index s.rules position) word (standing h position) h) rest to → Goes s (standing h position) (word ∷ rest) to
goes_by_word s h position to word rest e step goes = goes_by s (standing h position) _ to word rest (moved s.rules h position word e) (turn s h position word e step) goes

-- a word for an option in front
goes_by_value : (s : Shape) (id : Text) (h : Held) (position : ℕ) (to : Walk) (word : Text) (rest : List Text) → is_like_option word ≡ false
    → Goes s (after_step s.rules word (waiting_for id h position) (plain_word s.rules (option id) word h).0 (plain_word s.rules (option id) word h).1) rest to → Goes s (waiting_for id h position) (word ∷ rest) to
goes_by_value s id h position to word rest e goes = goes_by s (waiting_for id h position) _ to word rest (taken_up s.rules id h position word e) (value_turn s id h position word e) goes

-- what is left at the end of words that pass
abbrev ends : Shape → Walk → Bool
ends s w = pass.settle_passes s.rules s.args_override_self w.held && (list_all pass.default_passes s.rules && pass.is_valid s (finished s.rules w.held) false)

-- the words are taken by the command
level : (s : Shape) (ws : List Text) (to : Walk) → Goes s (walk_from nothing_held) ws to → ends s to ≡ true → pass.level_passes s [] nothing_held ws false ≡ true
level s ws to goes last = both _ _ goes.1 (ap (ends s) goes.0 ∙ last)

-- and read as this
reads : (s : Shape) (ws : List Text) (to : Walk) (read : List Row → Option Command) (is : Option Command) → Goes s (walk_from nothing_held) ws to → read (finished s.rules to.held) ≡ is → read (rows_after s.rules [] ws) ≡ is
reads s ws to read is goes last = ap (λ (w : Walk). read (finished s.rules w.held)) goes.0 ∙ last

-- a command whose words are taken and read
named : (taken : Bool) (read is : Option Command) → taken ≡ true → read ≡ is → cond taken read None ≡ is
named true read is e same = same
named false read is e same = absurd (cc)

-- ---- words for positionals, and options

-- where the walk is after words that go to positionals
abbrev placed_from : Shape → Walk → List Text → Walk
placed_from s w words = fold (λ w word. to_positional s.rules (arg_by_index s.rules w.position) word w w.held) w words

abbrev placed : Shape → List Text → Walk
placed s words = placed_from s (walk_from nothing_held) words

-- what is held where an option waits for its value
abbrev asked_held : Shape → Text → Held → Held
asked_held s id h = record (settled s.rules h) { pending = Some (id, []) }

-- where the walk is after the value of an option
abbrev given_option : Shape → Text → Walk → Text → Walk
given_option s id w k = after_step s.rules k (waiting_for id (asked_held s id w.held) w.position) (plain_word s.rules (option id) k (asked_held s id w.held)).0 (plain_word s.rules (option id) k (asked_held s id w.held)).1

-- an option and its value in front, where its word leads to where it waits
goes_by_option : (s : Shape) (id dashed : Text) (w to : Walk) (k : Text) (rest : List Text) → walked s.rules [] w dashed ≡ waiting_for id (asked_held s id w.held) w.position → pass.turn_passes s [] w dashed ≡ true → is_like_option k ≡ false
    → Goes s (given_option s id w k) rest to → Goes s w (dashed ∷ k ∷ rest) to
goes_by_option s id dashed w to k rest moves passes e goes = goes_by s w (waiting_for id (asked_held s id w.held) w.position) to dashed (k ∷ rest) moves passes (goes_by_value s id (asked_held s id w.held) w.position to k rest e goes)

-- what is held after a word for the positional of this number
abbrev held_after : Shape → Held → ℕ → Text → Held
held_after s h position word = (to_positional s.rules (arg_by_index s.rules position) word (standing h position) h).held

-- the options' words
abbrev age_word : Text
age_word = codes "--age"

abbrev enable_word : Text
enable_word = codes "--enable"

-- where the walk is after `--age` and its value
abbrev aged : Shape → Walk → Text → Walk
aged s w k = given_option s (codes "age") w k

-- ---- `eval`

abbrev eval_shape : Shape
eval_shape = in_program eval_command

module _ (p i o : Text) (ep : is_like_option p ≡ false) (ei : is_like_option i ≡ false) (eo : is_like_option o ≡ false) where
  abbrev eval_three : Walk
  eval_three = placed eval_shape (p ∷ i ∷ o ∷ [])

  eval_go : Goes eval_shape (walk_from nothing_held) (p ∷ i ∷ o ∷ []) eval_three
  eval_go = goes_by_word eval_shape _ 1 _ p _ ep refl (goes_by_word eval_shape _ 2 _ i _ ei refl (goes_by_word eval_shape _ 3 _ o _ eo refl (goes_nowhere eval_shape _)))

  pub eval_reads : (name : Text) → command_of (name ∷ codes "eval" ∷ p ∷ i ∷ o ∷ []) ≡ Some (eval p i o)
  unfolding walked walk_passes
  eval_reads name = named _ _ _ (both _ _ (level eval_shape (p ∷ i ∷ o ∷ []) eval_three eval_go refl) refl) (reads eval_shape (p ∷ i ∷ o ∷ []) eval_three eval_of_rows _ eval_go refl)

-- after `--` all words are file words
pub eval_reads_after : (name p i o : Text) → command_of (name ∷ codes "eval" ∷ codes "--" ∷ p ∷ i ∷ o ∷ []) ≡ Some (eval p i o)
unfolding walked walk_passes
eval_reads_after name p i o = refl

-- ---- `run`

abbrev run_shape : Shape
run_shape = in_program run_command

module _ (p i o : Text) (ep : is_like_option p ≡ false) (ei : is_like_option i ≡ false) (eo : is_like_option o ≡ false) where
  -- the three words, from where the walk is
  three_from : (h : Held) (rest : List Text) (to : Walk) → pass.step_passes run_shape 1 h value ≡ true → pass.step_passes run_shape 2 (held_after run_shape h 1 p) value ≡ true → pass.step_passes run_shape 3 (held_after run_shape (held_after run_shape h 1 p) 2 i) value ≡ true
      → Goes run_shape (placed_from run_shape (standing h 1) (p ∷ i ∷ o ∷ [])) rest to → Goes run_shape (standing h 1) (p ∷ i ∷ o ∷ rest) to
  three_from h rest to one two three goes =
      goes_by_word run_shape h 1 to p (i ∷ o ∷ rest) ep one
      (goes_by_word run_shape (held_after run_shape h 1 p) 2 to i (o ∷ rest) ei two (goes_by_word run_shape (held_after run_shape (held_after run_shape h 1 p) 2 i) 3 to o rest eo three goes))

  abbrev run_three : Walk
  run_three = placed run_shape (p ∷ i ∷ o ∷ [])

  run_go : (rest : List Text) (to : Walk) → Goes run_shape run_three rest to → Goes run_shape (walk_from nothing_held) (p ∷ i ∷ o ∷ rest) to
  run_go rest to goes = three_from nothing_held rest to refl refl refl goes

  pub run_reads : (name : Text) → command_of (name ∷ codes "run" ∷ p ∷ i ∷ o ∷ []) ≡ Some (run p i o 0)
  unfolding walked walk_passes
  run_reads name =
      let goes = run_go [] run_three (goes_nowhere run_shape run_three) in
      named _ _ _ (both _ _ (level run_shape (p ∷ i ∷ o ∷ []) run_three goes refl) refl) (reads run_shape (p ∷ i ∷ o ∷ []) run_three run_of_rows _ goes refl)

  module _ (k : Text) (ek : is_like_option k ≡ false) where
    -- the option in front
    abbrev age_then_three : Walk
    age_then_three = placed_from run_shape (aged run_shape (walk_from nothing_held) k) (p ∷ i ∷ o ∷ [])

    run_age_first_go : Goes run_shape (walk_from nothing_held) (age_word ∷ k ∷ p ∷ i ∷ o ∷ []) age_then_three
    unfolding walked
    run_age_first_go =
        goes_by_option run_shape (codes "age") age_word (walk_from nothing_held) _ k _ refl refl ek
        (three_from (aged run_shape (walk_from nothing_held) k).held [] age_then_three refl refl refl (goes_nowhere run_shape age_then_three))

    -- the option after
    run_age_last_go : Goes run_shape (walk_from nothing_held) (p ∷ i ∷ o ∷ age_word ∷ k ∷ []) (aged run_shape run_three k)
    unfolding walked
    run_age_last_go = run_go (age_word ∷ k ∷ []) _ (goes_by_option run_shape (codes "age") age_word run_three _ k [] refl refl ek (goes_nowhere run_shape _))

    module _ (name : Text) (age : ℕ) (is : age_number k ≡ Some age) where
      pub run_age_first_reads : command_of (name ∷ codes "run" ∷ age_word ∷ k ∷ p ∷ i ∷ o ∷ []) ≡ Some (run p i o age)
      unfolding walked walk_passes
      run_age_first_reads =
          named _ _ _ (both _ _ (level run_shape (age_word ∷ k ∷ p ∷ i ∷ o ∷ []) age_then_three run_age_first_go refl) refl)
          (reads run_shape (age_word ∷ k ∷ p ∷ i ∷ o ∷ []) age_then_three run_of_rows _ run_age_first_go (ap (run_on (Some p) (Some i) (Some o)) is))

      pub run_age_last_reads : command_of (name ∷ codes "run" ∷ p ∷ i ∷ o ∷ age_word ∷ k ∷ []) ≡ Some (run p i o age)
      unfolding walked walk_passes
      run_age_last_reads =
          named _ _ _ (both _ _ (level run_shape (p ∷ i ∷ o ∷ age_word ∷ k ∷ []) (aged run_shape run_three k) run_age_last_go refl) refl)
          (reads run_shape (p ∷ i ∷ o ∷ age_word ∷ k ∷ []) (aged run_shape run_three k) run_of_rows _ run_age_last_go (ap (run_on (Some p) (Some i) (Some o)) is))

pub run_reads_after : (name p i o : Text) → command_of (name ∷ codes "run" ∷ codes "--" ∷ p ∷ i ∷ o ∷ []) ≡ Some (run p i o 0)
unfolding walked walk_passes
run_reads_after name p i o = refl

-- ---- `compile`

abbrev compile_shape : Shape
compile_shape = in_program compile_command

-- where the walk is after `--enable`
abbrev enabled : Walk → Walk
enabled w = walked_from compile_shape.rules [] w.stopped w enable_word

module _ (p o : Text) (ep : is_like_option p ≡ false) (eo : is_like_option o ≡ false) where
  -- the two words, from where the walk is
  two_from : (h : Held) (rest : List Text) (to : Walk) → pass.step_passes compile_shape 1 h value ≡ true → pass.step_passes compile_shape 2 (held_after compile_shape h 1 p) value ≡ true
      → Goes compile_shape (placed_from compile_shape (standing h 1) (p ∷ o ∷ [])) rest to → Goes compile_shape (standing h 1) (p ∷ o ∷ rest) to
  two_from h rest to one two goes = goes_by_word compile_shape h 1 to p (o ∷ rest) ep one (goes_by_word compile_shape (held_after compile_shape h 1 p) 2 to o rest eo two goes)

  -- only the two words, and from another start
  abbrev two_after : Walk → Walk
  two_after w = placed_from compile_shape w (p ∷ o ∷ [])

  abbrev two : Walk
  two = two_after (walk_from nothing_held)

  two_go : (rest : List Text) (to : Walk) → Goes compile_shape two rest to → Goes compile_shape (walk_from nothing_held) (p ∷ o ∷ rest) to
  two_go rest to goes = two_from nothing_held rest to refl refl goes

  pub compile_reads : (name : Text) → command_of (name ∷ codes "compile" ∷ p ∷ o ∷ []) ≡ Some (compile p o false 0 None)
  unfolding walked walk_passes
  compile_reads name =
      let goes = two_go [] two (goes_nowhere compile_shape two) in
      named _ _ _ (both _ _ (level compile_shape (p ∷ o ∷ []) two goes refl) refl) (reads compile_shape (p ∷ o ∷ []) two compile_of_rows _ goes refl)

  -- `--enable` in front
  abbrev enable_then_two : Walk
  enable_then_two = two_after (enabled (walk_from nothing_held))

  enable_first_go : Goes compile_shape (walk_from nothing_held) (enable_word ∷ p ∷ o ∷ []) enable_then_two
  unfolding walked
  enable_first_go =
      goes_by compile_shape (walk_from nothing_held) (enabled (walk_from nothing_held)) _ enable_word _ refl refl
      (two_from (enabled (walk_from nothing_held)).held [] enable_then_two refl refl (goes_nowhere compile_shape enable_then_two))

  pub enable_first_reads : (name : Text) → command_of (name ∷ codes "compile" ∷ enable_word ∷ p ∷ o ∷ []) ≡ Some (compile p o true 0 None)
  unfolding walked walk_passes
  enable_first_reads name =
      named _ _ _ (both _ _ (level compile_shape (enable_word ∷ p ∷ o ∷ []) enable_then_two enable_first_go refl) refl)
      (reads compile_shape (enable_word ∷ p ∷ o ∷ []) enable_then_two compile_of_rows _ enable_first_go refl)

  -- and after
  two_enable_go : (rest : List Text) (to : Walk) → Goes compile_shape (enabled two) rest to → Goes compile_shape (walk_from nothing_held) (p ∷ o ∷ enable_word ∷ rest) to
  unfolding walked
  two_enable_go rest to goes = two_go (enable_word ∷ rest) to (goes_by compile_shape two (enabled two) to enable_word rest refl refl goes)

  pub enable_last_reads : (name : Text) → command_of (name ∷ codes "compile" ∷ p ∷ o ∷ enable_word ∷ []) ≡ Some (compile p o true 0 None)
  unfolding walked walk_passes
  enable_last_reads name =
      let goes = two_enable_go [] (enabled two) (goes_nowhere compile_shape (enabled two)) in
      named _ _ _ (both _ _ (level compile_shape (p ∷ o ∷ enable_word ∷ []) (enabled two) goes refl) refl) (reads compile_shape (p ∷ o ∷ enable_word ∷ []) (enabled two) compile_of_rows _ goes refl)

  module _ (k : Text) (ek : is_like_option k ≡ false) where
    -- `--age` in front
    abbrev age_then_two : Walk
    age_then_two = two_after (aged compile_shape (walk_from nothing_held) k)

    compile_age_first_go : Goes compile_shape (walk_from nothing_held) (age_word ∷ k ∷ p ∷ o ∷ []) age_then_two
    unfolding walked
    compile_age_first_go =
        goes_by_option compile_shape (codes "age") age_word (walk_from nothing_held) _ k _ refl refl ek
        (two_from (aged compile_shape (walk_from nothing_held) k).held [] age_then_two refl refl (goes_nowhere compile_shape age_then_two))

    -- and after
    compile_age_last_go : Goes compile_shape (walk_from nothing_held) (p ∷ o ∷ age_word ∷ k ∷ []) (aged compile_shape two k)
    unfolding walked
    compile_age_last_go = two_go (age_word ∷ k ∷ []) _ (goes_by_option compile_shape (codes "age") age_word two _ k [] refl refl ek (goes_nowhere compile_shape _))

    -- both in front
    abbrev both_then_two : Walk
    both_then_two = two_after (aged compile_shape (enabled (walk_from nothing_held)) k)

    both_first_go : Goes compile_shape (walk_from nothing_held) (enable_word ∷ age_word ∷ k ∷ p ∷ o ∷ []) both_then_two
    unfolding walked
    both_first_go =
        goes_by compile_shape (walk_from nothing_held) (enabled (walk_from nothing_held)) _ enable_word _ refl refl
        (goes_by_option compile_shape (codes "age") age_word (enabled (walk_from nothing_held)) _ k _ refl refl ek
        (two_from (aged compile_shape (enabled (walk_from nothing_held)) k).held [] both_then_two refl refl (goes_nowhere compile_shape both_then_two)))

    -- and after
    both_last_go : Goes compile_shape (walk_from nothing_held) (p ∷ o ∷ enable_word ∷ age_word ∷ k ∷ []) (aged compile_shape (enabled two) k)
    unfolding walked
    both_last_go = two_enable_go (age_word ∷ k ∷ []) _ (goes_by_option compile_shape (codes "age") age_word (enabled two) _ k [] refl refl ek (goes_nowhere compile_shape _))

    module _ (name : Text) (age : ℕ) (is : age_number k ≡ Some age) where
      pub compile_age_first_reads : command_of (name ∷ codes "compile" ∷ age_word ∷ k ∷ p ∷ o ∷ []) ≡ Some (compile p o false age None)
      unfolding walked walk_passes
      compile_age_first_reads =
          named _ _ _ (both _ _ (level compile_shape (age_word ∷ k ∷ p ∷ o ∷ []) age_then_two compile_age_first_go refl) refl)
          (reads compile_shape (age_word ∷ k ∷ p ∷ o ∷ []) age_then_two compile_of_rows _ compile_age_first_go (ap (λ a. compile_on (Some p) (Some o) false a (Some None)) is))

      pub compile_age_last_reads : command_of (name ∷ codes "compile" ∷ p ∷ o ∷ age_word ∷ k ∷ []) ≡ Some (compile p o false age None)
      unfolding walked walk_passes
      compile_age_last_reads =
          named _ _ _ (both _ _ (level compile_shape (p ∷ o ∷ age_word ∷ k ∷ []) (aged compile_shape two k) compile_age_last_go refl) refl)
          (reads compile_shape (p ∷ o ∷ age_word ∷ k ∷ []) (aged compile_shape two k) compile_of_rows _ compile_age_last_go (ap (λ a. compile_on (Some p) (Some o) false a (Some None)) is))

      pub both_first_reads : command_of (name ∷ codes "compile" ∷ enable_word ∷ age_word ∷ k ∷ p ∷ o ∷ []) ≡ Some (compile p o true age None)
      unfolding walked walk_passes
      both_first_reads =
          named _ _ _ (both _ _ (level compile_shape (enable_word ∷ age_word ∷ k ∷ p ∷ o ∷ []) both_then_two both_first_go refl) refl)
          (reads compile_shape (enable_word ∷ age_word ∷ k ∷ p ∷ o ∷ []) both_then_two compile_of_rows _ both_first_go (ap (λ a. compile_on (Some p) (Some o) true a (Some None)) is))

      pub both_last_reads : command_of (name ∷ codes "compile" ∷ p ∷ o ∷ enable_word ∷ age_word ∷ k ∷ []) ≡ Some (compile p o true age None)
      unfolding walked walk_passes
      both_last_reads =
          named _ _ _ (both _ _ (level compile_shape (p ∷ o ∷ enable_word ∷ age_word ∷ k ∷ []) (aged compile_shape (enabled two) k) both_last_go refl) refl)
          (reads compile_shape (p ∷ o ∷ enable_word ∷ age_word ∷ k ∷ []) (aged compile_shape (enabled two) k) compile_of_rows _ both_last_go (ap (λ a. compile_on (Some p) (Some o) true a (Some None)) is))

  -- `--block`
  module _ (k : Text) (ek : is_like_option k ≡ false) where
    abbrev blocked : Walk → Walk
    blocked w = given_option compile_shape (codes "block") w k

    -- in front
    abbrev block_then_two : Walk
    block_then_two = two_after (blocked (walk_from nothing_held))

    block_first_go : Goes compile_shape (walk_from nothing_held) (codes "--block" ∷ k ∷ p ∷ o ∷ []) block_then_two
    unfolding walked
    block_first_go =
        goes_by_option compile_shape (codes "block") (codes "--block") (walk_from nothing_held) _ k _ refl refl ek
        (two_from (blocked (walk_from nothing_held)).held [] block_then_two refl refl (goes_nowhere compile_shape block_then_two))

    -- and after
    block_last_go : Goes compile_shape (walk_from nothing_held) (p ∷ o ∷ codes "--block" ∷ k ∷ []) (blocked two)
    unfolding walked
    block_last_go = two_go (codes "--block" ∷ k ∷ []) _ (goes_by_option compile_shape (codes "block") (codes "--block") two _ k [] refl refl ek (goes_nowhere compile_shape _))

    module _ (name : Text) (block : ℕ) (is : block_number k ≡ Some block) where
      pub block_first_reads : command_of (name ∷ codes "compile" ∷ codes "--block" ∷ k ∷ p ∷ o ∷ []) ≡ Some (compile p o false 0 (Some block))
      unfolding walked walk_passes
      block_first_reads =
          named _ _ _ (both _ _ (level compile_shape (codes "--block" ∷ k ∷ p ∷ o ∷ []) block_then_two block_first_go refl) refl)
          (reads compile_shape (codes "--block" ∷ k ∷ p ∷ o ∷ []) block_then_two compile_of_rows _ block_first_go (ap (λ n. compile_on (Some p) (Some o) false (Some 0) (option_map (λ x. Some x) n)) is))

      pub block_last_reads : command_of (name ∷ codes "compile" ∷ p ∷ o ∷ codes "--block" ∷ k ∷ []) ≡ Some (compile p o false 0 (Some block))
      unfolding walked walk_passes
      block_last_reads =
          named _ _ _ (both _ _ (level compile_shape (p ∷ o ∷ codes "--block" ∷ k ∷ []) (blocked two) block_last_go refl) refl)
          (reads compile_shape (p ∷ o ∷ codes "--block" ∷ k ∷ []) (blocked two) compile_of_rows _ block_last_go (ap (λ n. compile_on (Some p) (Some o) false (Some 0) (option_map (λ x. Some x) n)) is))

pub compile_reads_after : (name p o : Text) → command_of (name ∷ codes "compile" ∷ codes "--" ∷ p ∷ o ∷ []) ≡ Some (compile p o false 0 None)
unfolding walked walk_passes
compile_reads_after name p o = refl

-- ---- `make`

abbrev make_shape : Shape
make_shape = in_program make_command

module _ (name n : Text) (number : ℕ) (is : made_number n ≡ Some number) where
  pub make_reads : is_like_option n ≡ false → command_of (name ∷ codes "make" ∷ n ∷ []) ≡ Some (make number)
  unfolding walked walk_passes
  make_reads en =
      let to = placed make_shape (n ∷ []) in
      let goes = goes_by_word make_shape nothing_held 1 to n [] en refl (goes_nowhere make_shape to) in
      named _ _ _ (both _ _ (level make_shape (n ∷ []) to goes refl) refl) (reads make_shape (n ∷ []) to make_of_rows _ goes (ap make_on is))

  pub make_reads_after : command_of (name ∷ codes "make" ∷ codes "--" ∷ n ∷ []) ≡ Some (make number)
  unfolding walked walk_passes
  make_reads_after = ap make_on is

-- ---- `cut`

abbrev cut_shape : Shape
cut_shape = in_program cut_command

cut_go : (n p o : Text) → is_like_option n ≡ false → is_like_option p ≡ false → is_like_option o ≡ false → Goes cut_shape (walk_from nothing_held) (n ∷ p ∷ o ∷ []) (placed cut_shape (n ∷ p ∷ o ∷ []))
cut_go n p o en ep eo = goes_by_word cut_shape _ 1 _ n _ en refl (goes_by_word cut_shape _ 2 _ p _ ep refl (goes_by_word cut_shape _ 3 _ o _ eo refl (goes_nowhere cut_shape _)))

module _ (name n p o : Text) (levels : ℕ) (is : levels_number n ≡ Some levels) where
  pub cut_reads : is_like_option n ≡ false → is_like_option p ≡ false → is_like_option o ≡ false → command_of (name ∷ codes "cut" ∷ n ∷ p ∷ o ∷ []) ≡ Some (rewrite (Cut levels) p o)
  unfolding walked walk_passes
  cut_reads en ep eo =
      let to = placed cut_shape (n ∷ p ∷ o ∷ []) in
      let goes = cut_go n p o en ep eo in
      named _ _ _ (both _ _ (level cut_shape (n ∷ p ∷ o ∷ []) to goes refl) refl) (reads cut_shape (n ∷ p ∷ o ∷ []) to cut_of_rows _ goes (ap (λ k. cut_on k (Some p) (Some o)) is))

  pub cut_reads_after : command_of (name ∷ codes "cut" ∷ codes "--" ∷ n ∷ p ∷ o ∷ []) ≡ Some (rewrite (Cut levels) p o)
  unfolding walked walk_passes
  cut_reads_after = ap (λ k. cut_on k (Some p) (Some o)) is

-- ---- `narrow`

abbrev narrow_shape : Shape
narrow_shape = in_program narrow_command

narrow_go : (p o : Text) → is_like_option p ≡ false → is_like_option o ≡ false → Goes narrow_shape (walk_from nothing_held) (p ∷ o ∷ []) (placed narrow_shape (p ∷ o ∷ []))
narrow_go p o ep eo = goes_by_word narrow_shape _ 1 _ p _ ep refl (goes_by_word narrow_shape _ 2 _ o _ eo refl (goes_nowhere narrow_shape _))

pub narrow_reads : (name p o : Text) → is_like_option p ≡ false → is_like_option o ≡ false → command_of (name ∷ codes "narrow" ∷ p ∷ o ∷ []) ≡ Some (rewrite Narrow p o)
unfolding walked walk_passes
narrow_reads name p o ep eo =
    named _ _ _ (both _ _ (level narrow_shape (p ∷ o ∷ []) (placed narrow_shape (p ∷ o ∷ [])) (narrow_go p o ep eo) refl) refl)
    (reads narrow_shape (p ∷ o ∷ []) (placed narrow_shape (p ∷ o ∷ [])) narrow_of_rows _ (narrow_go p o ep eo) refl)

pub narrow_reads_after : (name p o : Text) → command_of (name ∷ codes "narrow" ∷ codes "--" ∷ p ∷ o ∷ []) ≡ Some (rewrite Narrow p o)
unfolding walked walk_passes
narrow_reads_after name p o = refl

-- ---- `widen`

abbrev widen_shape : Shape
widen_shape = in_program widen_command

widen_go : (n p o : Text) → is_like_option n ≡ false → is_like_option p ≡ false → is_like_option o ≡ false → Goes widen_shape (walk_from nothing_held) (n ∷ p ∷ o ∷ []) (placed widen_shape (n ∷ p ∷ o ∷ []))
widen_go n p o en ep eo = goes_by_word widen_shape _ 1 _ n _ en refl (goes_by_word widen_shape _ 2 _ p _ ep refl (goes_by_word widen_shape _ 3 _ o _ eo refl (goes_nowhere widen_shape _)))

module _ (name n p o : Text) (phases : ℕ) (is : phases_number n ≡ Some phases) where
  pub widen_reads : is_like_option n ≡ false → is_like_option p ≡ false → is_like_option o ≡ false → command_of (name ∷ codes "widen" ∷ n ∷ p ∷ o ∷ []) ≡ Some (rewrite (Widen phases) p o)
  unfolding walked walk_passes
  widen_reads en ep eo =
      let to = placed widen_shape (n ∷ p ∷ o ∷ []) in
      let goes = widen_go n p o en ep eo in
      named _ _ _ (both _ _ (level widen_shape (n ∷ p ∷ o ∷ []) to goes refl) refl) (reads widen_shape (n ∷ p ∷ o ∷ []) to widen_of_rows _ goes (ap (λ k. widen_on k (Some p) (Some o)) is))

  pub widen_reads_after : command_of (name ∷ codes "widen" ∷ codes "--" ∷ n ∷ p ∷ o ∷ []) ≡ Some (rewrite (Widen phases) p o)
  unfolding walked walk_passes
  widen_reads_after = ap (λ k. widen_on k (Some p) (Some o)) is

-- ---- `explain`

abbrev explain_shape : Shape
explain_shape = in_program explain_command

explain_go : (p : Text) → is_like_option p ≡ false → Goes explain_shape (walk_from nothing_held) (p ∷ []) (placed explain_shape (p ∷ []))
explain_go p ep = goes_by_word explain_shape _ 1 _ p _ ep refl (goes_nowhere explain_shape _)

pub explain_reads : (name p : Text) → is_like_option p ≡ false → command_of (name ∷ codes "explain" ∷ p ∷ []) ≡ Some (explain p)
unfolding walked walk_passes
explain_reads name p ep =
    named _ _ _ (both _ _ (level explain_shape (p ∷ []) (placed explain_shape (p ∷ [])) (explain_go p ep) refl) refl)
    (reads explain_shape (p ∷ []) (placed explain_shape (p ∷ [])) explain_of_rows _ (explain_go p ep) refl)

pub explain_reads_after : (name p : Text) → command_of (name ∷ codes "explain" ∷ codes "--" ∷ p ∷ []) ≡ Some (explain p)
unfolding walked walk_passes
explain_reads_after name p = refl

-- ---- `nets`

abbrev nets_shape : Shape
nets_shape = in_program nets_command

module _ (p : Text) (ep : is_like_option p ≡ false) where
  nets_from : (h : Held) (to : Walk) → pass.step_passes nets_shape 1 h value ≡ true → Goes nets_shape (placed_from nets_shape (standing h 1) (p ∷ [])) [] to → Goes nets_shape (standing h 1) (p ∷ []) to
  nets_from h to one goes = goes_by_word nets_shape h 1 to p [] ep one goes

  abbrev nets_program : Walk → Walk
  nets_program w = placed_from nets_shape w (p ∷ [])

  nets_go : Goes nets_shape (walk_from nothing_held) (p ∷ []) (nets_program (walk_from nothing_held))
  nets_go = nets_from nothing_held _ refl (goes_nowhere nets_shape _)

  pub nets_reads : (name : Text) → command_of (name ∷ codes "nets" ∷ p ∷ []) ≡ Some (nets p false 0 None)
  unfolding walked walk_passes
  nets_reads name =
      named _ _ _ (both _ _ (level nets_shape (p ∷ []) (nets_program (walk_from nothing_held)) nets_go refl) refl)
      (reads nets_shape (p ∷ []) (nets_program (walk_from nothing_held)) nets_of_rows _ nets_go refl)

  -- `--enable` in front
  abbrev nets_enabled : Walk
  nets_enabled = walked_from nets_shape.rules [] None (walk_from nothing_held) enable_word

  nets_enable_go : Goes nets_shape (walk_from nothing_held) (enable_word ∷ p ∷ []) (nets_program nets_enabled)
  unfolding walked
  nets_enable_go =
      goes_by nets_shape (walk_from nothing_held) nets_enabled _ enable_word _ refl refl
      (nets_from nets_enabled.held (nets_program nets_enabled) refl (goes_nowhere nets_shape (nets_program nets_enabled)))

  pub nets_enable_reads : (name : Text) → command_of (name ∷ codes "nets" ∷ enable_word ∷ p ∷ []) ≡ Some (nets p true 0 None)
  unfolding walked walk_passes
  nets_enable_reads name =
      named _ _ _ (both _ _ (level nets_shape (enable_word ∷ p ∷ []) (nets_program nets_enabled) nets_enable_go refl) refl)
      (reads nets_shape (enable_word ∷ p ∷ []) (nets_program nets_enabled) nets_of_rows _ nets_enable_go refl)

  module _ (k : Text) (ek : is_like_option k ≡ false) where
    -- `--age` in front
    abbrev nets_aged : Walk
    nets_aged = aged nets_shape (walk_from nothing_held) k

    nets_age_go : Goes nets_shape (walk_from nothing_held) (age_word ∷ k ∷ p ∷ []) (nets_program nets_aged)
    unfolding walked
    nets_age_go =
        goes_by_option nets_shape (codes "age") age_word (walk_from nothing_held) _ k _ refl refl ek
        (nets_from nets_aged.held (nets_program nets_aged) refl (goes_nowhere nets_shape (nets_program nets_aged)))

    pub nets_age_reads : (name : Text) (age : ℕ) → age_number k ≡ Some age → command_of (name ∷ codes "nets" ∷ age_word ∷ k ∷ p ∷ []) ≡ Some (nets p false age None)
    unfolding walked walk_passes
    nets_age_reads name age is =
        named _ _ _ (both _ _ (level nets_shape (age_word ∷ k ∷ p ∷ []) (nets_program nets_aged) nets_age_go refl) refl)
        (reads nets_shape (age_word ∷ k ∷ p ∷ []) (nets_program nets_aged) nets_of_rows _ nets_age_go (ap (λ a. nets_on (Some p) false a (Some None)) is))

    -- `--block` in front
    abbrev nets_blocked : Walk
    nets_blocked = given_option nets_shape (codes "block") (walk_from nothing_held) k

    nets_block_go : Goes nets_shape (walk_from nothing_held) (codes "--block" ∷ k ∷ p ∷ []) (nets_program nets_blocked)
    unfolding walked
    nets_block_go =
        goes_by_option nets_shape (codes "block") (codes "--block") (walk_from nothing_held) _ k _ refl refl ek
        (nets_from nets_blocked.held (nets_program nets_blocked) refl (goes_nowhere nets_shape (nets_program nets_blocked)))

    pub nets_block_reads : (name : Text) (block : ℕ) → block_number k ≡ Some block → command_of (name ∷ codes "nets" ∷ codes "--block" ∷ k ∷ p ∷ []) ≡ Some (nets p false 0 (Some block))
    unfolding walked walk_passes
    nets_block_reads name block is =
        named _ _ _ (both _ _ (level nets_shape (codes "--block" ∷ k ∷ p ∷ []) (nets_program nets_blocked) nets_block_go refl) refl)
        (reads nets_shape (codes "--block" ∷ k ∷ p ∷ []) (nets_program nets_blocked) nets_of_rows _ nets_block_go (ap (λ n. nets_on (Some p) false (Some 0) (option_map (λ x. Some x) n)) is))

pub nets_reads_after : (name p : Text) → command_of (name ∷ codes "nets" ∷ codes "--" ∷ p ∷ []) ≡ Some (nets p false 0 None)
unfolding walked walk_passes
nets_reads_after name p = refl

-- ---- `trace`
abbrev trace_shape : Shape
trace_shape = in_program trace_command

abbrev trace_four : (v n i o : Text) → Walk
trace_four v n i o = placed trace_shape (v ∷ n ∷ i ∷ o ∷ [])

trace_go : (v n i o : Text) → is_like_option v ≡ false → is_like_option n ≡ false → is_like_option i ≡ false → is_like_option o ≡ false → Goes trace_shape (walk_from nothing_held) (v ∷ n ∷ i ∷ o ∷ []) (trace_four v n i o)
trace_go v n i o ev en ei eo =
    goes_by_word trace_shape _ 1 _ v _ ev refl (goes_by_word trace_shape _ 2 _ n _ en refl (goes_by_word trace_shape _ 3 _ i _ ei refl (goes_by_word trace_shape _ 4 _ o _ eo refl (goes_nowhere trace_shape _))))

module _ (name v n i o : Text) (clocks : ℕ) (is : clocks_of n ≡ Some clocks) where
  pub trace_reads : is_like_option v ≡ false → is_like_option n ≡ false → is_like_option i ≡ false → is_like_option o ≡ false → command_of (name ∷ codes "trace" ∷ v ∷ n ∷ i ∷ o ∷ []) ≡ Some (trace v clocks i o)
  unfolding walked walk_passes
  trace_reads ev en ei eo =
      let goes = trace_go v n i o ev en ei eo in
      named _ _ _ (both _ _ (level trace_shape (v ∷ n ∷ i ∷ o ∷ []) (trace_four v n i o) goes refl) refl)
      (reads trace_shape (v ∷ n ∷ i ∷ o ∷ []) (trace_four v n i o) trace_of_rows _ goes (ap (λ c. trace_on (Some v) c (Some i) (Some o)) is))

  pub trace_reads_after : command_of (name ∷ codes "trace" ∷ codes "--" ∷ v ∷ n ∷ i ∷ o ∷ []) ≡ Some (trace v clocks i o)
  unfolding walked walk_passes
  trace_reads_after = ap (λ c. trace_on (Some v) c (Some i) (Some o)) is

-- ---- `check`

abbrev check_shape : Shape
check_shape = in_program check_command

check_go : (p r : Text) → is_like_option p ≡ false → is_like_option r ≡ false → Goes check_shape (walk_from nothing_held) (p ∷ r ∷ []) (placed check_shape (p ∷ r ∷ []))
check_go p r ep er = goes_by_word check_shape _ 1 _ p _ ep refl (goes_by_word check_shape _ 2 _ r _ er refl (goes_nowhere check_shape _))

pub check_reads : (name p r : Text) → is_like_option p ≡ false → is_like_option r ≡ false → command_of (name ∷ codes "check" ∷ p ∷ r ∷ []) ≡ Some (check p r)
unfolding walked walk_passes
check_reads name p r ep er =
    named _ _ _ (both _ _ (level check_shape (p ∷ r ∷ []) (placed check_shape (p ∷ r ∷ [])) (check_go p r ep er) refl) refl)
    (reads check_shape (p ∷ r ∷ []) (placed check_shape (p ∷ r ∷ [])) check_of_rows _ (check_go p r ep er) refl)

pub check_reads_after : (name p r : Text) → command_of (name ∷ codes "check" ∷ codes "--" ∷ p ∷ r ∷ []) ≡ Some (check p r)
unfolding walked walk_passes
check_reads_after name p r = refl

-- ---- `plan`

abbrev plan_shape : Shape
plan_shape = in_program plan_command

plan_go : (p : Text) → is_like_option p ≡ false → Goes plan_shape (walk_from nothing_held) (p ∷ []) (placed plan_shape (p ∷ []))
plan_go p ep = goes_by_word plan_shape _ 1 _ p _ ep refl (goes_nowhere plan_shape _)

pub plan_reads : (name p : Text) → is_like_option p ≡ false → command_of (name ∷ codes "plan" ∷ p ∷ []) ≡ Some (plan p 0)
unfolding walked walk_passes
plan_reads name p ep =
    named _ _ _ (both _ _ (level plan_shape (p ∷ []) (placed plan_shape (p ∷ [])) (plan_go p ep) refl) refl)
    (reads plan_shape (p ∷ []) (placed plan_shape (p ∷ [])) plan_of_rows _ (plan_go p ep) refl)

pub plan_reads_after : (name p : Text) → command_of (name ∷ codes "plan" ∷ codes "--" ∷ p ∷ []) ≡ Some (plan p 0)
unfolding walked walk_passes
plan_reads_after name p = refl

module _ (p k : Text) (ep : is_like_option p ≡ false) (ek : is_like_option k ≡ false) where
  -- the option in front
  abbrev age_then_program : Walk
  age_then_program = placed_from plan_shape (aged plan_shape (walk_from nothing_held) k) (p ∷ [])

  age_first_go : Goes plan_shape (walk_from nothing_held) (age_word ∷ k ∷ p ∷ []) age_then_program
  unfolding walked
  age_first_go =
      goes_by_option plan_shape (codes "age") age_word (walk_from nothing_held) _ k _ refl refl ek
      (goes_by_word plan_shape (aged plan_shape (walk_from nothing_held) k).held 1 _ p _ ep refl (goes_nowhere plan_shape _))

  -- the option after
  abbrev program_then_age : Walk
  program_then_age = aged plan_shape (placed plan_shape (p ∷ [])) k

  age_last_go : Goes plan_shape (walk_from nothing_held) (p ∷ age_word ∷ k ∷ []) program_then_age
  unfolding walked
  age_last_go = goes_by_word plan_shape _ 1 _ p _ ep refl (goes_by_option plan_shape (codes "age") age_word (placed plan_shape (p ∷ [])) _ k [] refl refl ek (goes_nowhere plan_shape _))

  module _ (name : Text) (age : ℕ) (is : age_number k ≡ Some age) where
    pub age_first_reads : command_of (name ∷ codes "plan" ∷ age_word ∷ k ∷ p ∷ []) ≡ Some (plan p age)
    unfolding walked walk_passes
    age_first_reads =
        named _ _ _ (both _ _ (level plan_shape (age_word ∷ k ∷ p ∷ []) age_then_program age_first_go refl) refl)
        (reads plan_shape (age_word ∷ k ∷ p ∷ []) age_then_program plan_of_rows _ age_first_go (ap (plan_on (Some p)) is))

    pub age_last_reads : command_of (name ∷ codes "plan" ∷ p ∷ age_word ∷ k ∷ []) ≡ Some (plan p age)
    unfolding walked walk_passes
    age_last_reads =
        named _ _ _ (both _ _ (level plan_shape (p ∷ age_word ∷ k ∷ []) program_then_age age_last_go refl) refl)
        (reads plan_shape (p ∷ age_word ∷ k ∷ []) program_then_age plan_of_rows _ age_last_go (ap (plan_on (Some p)) is))

-- ---- `sim`

abbrev sim_shape : Shape
sim_shape = in_program sim_command

module _ (v n i o : Text) (ev : is_like_option v ≡ false) (en : is_like_option n ≡ false) (ei : is_like_option i ≡ false) (eo : is_like_option o ≡ false) where
  -- where the walk is after the four words, and then after options
  abbrev four : Walk
  four = placed sim_shape (v ∷ n ∷ i ∷ o ∷ [])

  abbrev with_ones : Walk
  with_ones = given_option sim_shape (codes "fill") four (codes "ones")

  four_go : (rest : List Text) (to : Walk) → Goes sim_shape four rest to → Goes sim_shape (walk_from nothing_held) (v ∷ n ∷ i ∷ o ∷ rest) to
  four_go rest to goes = goes_by_word sim_shape _ 1 _ v _ ev refl (goes_by_word sim_shape _ 2 _ n _ en refl (goes_by_word sim_shape _ 3 _ i _ ei refl (goes_by_word sim_shape _ 4 _ o _ eo refl goes)))

  ones_go : (rest : List Text) (to : Walk) → Goes sim_shape with_ones rest to → Goes sim_shape four (codes "--fill" ∷ codes "ones" ∷ rest) to
  unfolding walked
  ones_go rest to goes = goes_by_option sim_shape (codes "fill") (codes "--fill") four to (codes "ones") rest refl refl refl goes

  hold_go : (k : Text) → is_like_option k ≡ false → Goes sim_shape four (codes "--hold" ∷ k ∷ []) (given_option sim_shape (codes "hold") four k)
  unfolding walked
  hold_go k ek = goes_by_option sim_shape (codes "hold") (codes "--hold") four _ k [] refl refl ek (goes_nowhere sim_shape _)

  both_go : (k : Text) → is_like_option k ≡ false → Goes sim_shape with_ones (codes "--hold" ∷ k ∷ []) (given_option sim_shape (codes "hold") with_ones k)
  unfolding walked
  both_go k ek = goes_by_option sim_shape (codes "hold") (codes "--hold") with_ones _ k [] refl refl ek (goes_nowhere sim_shape _)

  module _ (name : Text) (clocks : ℕ) (is : clocks_of n ≡ Some clocks) where
    pub sim_reads : command_of (name ∷ codes "sim" ∷ v ∷ n ∷ i ∷ o ∷ []) ≡ Some (sim v clocks i o Zeros None)
    unfolding walked walk_passes
    sim_reads =
        let goes = four_go [] four (goes_nowhere sim_shape four) in
        named _ _ _ (both _ _ (level sim_shape (v ∷ n ∷ i ∷ o ∷ []) four goes refl) refl)
        (reads sim_shape (v ∷ n ∷ i ∷ o ∷ []) four sim_of_rows _ goes (ap (λ c. sim_on (Some v) c (Some i) (Some o) (Some Zeros) (Some None)) is))

    pub ones_reads : command_of (name ∷ codes "sim" ∷ v ∷ n ∷ i ∷ o ∷ codes "--fill" ∷ codes "ones" ∷ []) ≡ Some (sim v clocks i o Ones None)
    unfolding walked walk_passes
    ones_reads =
        let goes = four_go (codes "--fill" ∷ codes "ones" ∷ []) with_ones (ones_go [] with_ones (goes_nowhere sim_shape with_ones)) in
        named _ _ _ (both _ _ (level sim_shape (v ∷ n ∷ i ∷ o ∷ codes "--fill" ∷ codes "ones" ∷ []) with_ones goes refl) refl)
        (reads sim_shape (v ∷ n ∷ i ∷ o ∷ codes "--fill" ∷ codes "ones" ∷ []) with_ones sim_of_rows _ goes (ap (λ c. sim_on (Some v) c (Some i) (Some o) (Some Ones) (Some None)) is))

    module _ (k : Text) (ek : is_like_option k ≡ false) (hold : ℕ) (ok : hold_number k ≡ Some hold) where
      pub hold_reads : command_of (name ∷ codes "sim" ∷ v ∷ n ∷ i ∷ o ∷ codes "--hold" ∷ k ∷ []) ≡ Some (sim v clocks i o Zeros (Some hold))
      unfolding walked walk_passes
      hold_reads =
          let to = given_option sim_shape (codes "hold") four k in
          let goes = four_go (codes "--hold" ∷ k ∷ []) to (hold_go k ek) in
          named _ _ _ (both _ _ (level sim_shape (v ∷ n ∷ i ∷ o ∷ codes "--hold" ∷ k ∷ []) to goes refl) refl)
          (reads sim_shape (v ∷ n ∷ i ∷ o ∷ codes "--hold" ∷ k ∷ []) to sim_of_rows _ goes
          (ap (λ c. sim_on (Some v) c (Some i) (Some o) (Some Zeros) (option_map (λ x. Some x) (hold_number k))) is ∙ ap (λ h. sim_on (Some v) (Some clocks) (Some i) (Some o) (Some Zeros) (option_map (λ x. Some x) h)) ok))

      pub both_reads : command_of (name ∷ codes "sim" ∷ v ∷ n ∷ i ∷ o ∷ codes "--fill" ∷ codes "ones" ∷ codes "--hold" ∷ k ∷ []) ≡ Some (sim v clocks i o Ones (Some hold))
      unfolding walked walk_passes
      both_reads =
          let to = given_option sim_shape (codes "hold") with_ones k in
          let goes = four_go (codes "--fill" ∷ codes "ones" ∷ codes "--hold" ∷ k ∷ []) to (ones_go (codes "--hold" ∷ k ∷ []) to (both_go k ek)) in
          named _ _ _ (both _ _ (level sim_shape (v ∷ n ∷ i ∷ o ∷ codes "--fill" ∷ codes "ones" ∷ codes "--hold" ∷ k ∷ []) to goes refl) refl)
          (reads sim_shape (v ∷ n ∷ i ∷ o ∷ codes "--fill" ∷ codes "ones" ∷ codes "--hold" ∷ k ∷ []) to sim_of_rows _ goes
          (ap (λ c. sim_on (Some v) c (Some i) (Some o) (Some Ones) (option_map (λ x. Some x) (hold_number k))) is ∙ ap (λ h. sim_on (Some v) (Some clocks) (Some i) (Some o) (Some Ones) (option_map (λ x. Some x) h)) ok))

pub sim_reads_after : (name v n i o : Text) (clocks : ℕ) → clocks_of n ≡ Some clocks → command_of (name ∷ codes "sim" ∷ codes "--" ∷ v ∷ n ∷ i ∷ o ∷ []) ≡ Some (sim v clocks i o Zeros None)
unfolding walked walk_passes
sim_reads_after name v n i o clocks is = ap (λ c. sim_on (Some v) c (Some i) (Some o) (Some Zeros) (Some None)) is
