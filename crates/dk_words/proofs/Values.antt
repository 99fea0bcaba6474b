-- Where each use of an argument has a value, or one that takes its place, each row that words leave, where they pass, has a value.
use Rattle.std.proofs.Common.{◌≡◌, ℕ, zero, suc, ◌&&◌, not, Bool, true, false, cond, List, [], ◌∷◌, ◌++◌, length, drop, fold, Option, None, Some, is_some, refl, find, encode_utf8, slice_get, option_and_then, ◌||◌, ap, ◌∙◌, nat_le, arith}
use Rattle.std.proofs.lemmas.Bool.Decides.{nat_tests}
use Rattle.std.specs.List.{list_all}
use Rattle.std.specs.Option.{option_map_or}
use Rattle.std.specs.Str.{bytes_eq, chars}
use Rattle.clap.specs.Facts.{explicit_source, unwrap_or_range}
use Rattle.clap.specs.Simple.{Shape}
use Rattle.clap.specs.Lexer.{long_of, short_of}
use Rattle.clap.specs.Takes.{is_given, action_passes, use_passes, settle_passes, react_passes, option_passes, long_passes, short_passes, bundle_step_passes, flags_pass, bundle_passes, flag_word_passes, other_passes, word_passes, positional_passes, step_passes, turn_passes, walk_passes}
use Rattle.clap.specs.declared.builder.value_parser.Reading.{Reading}
use Rattle.clap.specs.declared.builder.action.ArgAction.{ArgAction}
use Rattle.clap.specs.declared.builder.action.ArgAction.TheVariants.{Set, Append, SetTrue, SetFalse, Count, Help, HelpShort, HelpLong, Version}
use Rattle.clap.specs.declared.parser.matches.ValueSource.{ValueSource}
use Rattle.clap.specs.declared.parser.matches.ValueSource.TheVariants.{DefaultValue, CommandLine}
use Rattle.clap.specs.Walk.{Held, Names, Outcome, Row, Rule, Step, Text, Waiting, Walk, action_of, after_flag, attached_value, bundle_step, flag_met, long_met, most_values, option_met, reacted, takes_values, used, after_step, arg_by_id, arg_by_index, arg_by_long, arg_by_short, at_row, bundle, bundle_met, default_rows, done, first_of, has_long, has_row, has_short, idle, is_pending, long_or_other, more_values, next, nothing_held, option, option_word, plain, plain_word, positional, positional_held, pushed, reading_by, refused, rows_after, settled, settled_rows, short_met, short_or_plain, subcommand, subcommand_met, subcommand_or_other, takes_several, to_positional, trailing, used_as, used_by_id, value, waits, walk, walk_from, walked, walked_from, with_default, with_values, without, word_met}
use Rattle.dk_words.proofs.Joined.{both, left, right}

-- ---- rows

-- the list has a first value
abbrev pub has_first : List Text → Bool
has_first values = is_some (slice_get values 0)

-- the row has a value
abbrev pub has_value : Row → Bool
has_value r = has_first r.values

-- each row has a value
abbrev pub are_valued : List Row → Bool
are_valued rows = list_all has_value rows

-- values with more after them
first_append : (xs ys : List Text) → has_first xs ≡ true → has_first (xs ++ ys) ≡ true
first_append [] ys e = absurd (cc)
first_append (x ∷ xs) ys e = refl

-- rows with more after them
valued_append : (xs ys : List Row) → are_valued xs ≡ true → are_valued ys ≡ true → are_valued (xs ++ ys) ≡ true
valued_append [] ys x y = y
valued_append (r ∷ rs) ys x y = both _ _ (left (has_value r) (are_valued rs) x) (valued_append rs ys (right (has_value r) (are_valued rs) x) y)

-- a change of one row that keeps its value, or adds a row with one
changed : (id : Text) (change : Row → List Row) (missing rows : List Row) → ((r : Row) → has_value r ≡ true → are_valued (change r) ≡ true) → are_valued missing ≡ true → are_valued rows ≡ true → are_valued (at_row id change missing rows) ≡ true
changed id change missing [] each new old = new
changed id change missing (r ∷ rs) each new old =
    let first = left (has_value r) (are_valued rs) old in
    let rest = right (has_value r) (are_valued rs) old in
    elim (bytes_eq r.id id) as (λ b. are_valued (cond b (change r ++ rs) (r ∷ at_row id change missing rs)) ≡ true) [
      | true ↦ valued_append (change r) rs (each r first) rest
      | false ↦ both _ _ first (changed id change missing rs each new rest)
    ]

-- rows with one taken out
valued_without : (id : Text) (rows : List Row) → are_valued rows ≡ true → are_valued (without id rows) ≡ true
valued_without id rows e = changed id (λ _. []) [] rows (λ r _. refl) refl e

-- rows with values put in
valued_with : (id : Text) (how : Reading) (s : ValueSource) (values : List Text) (rows : List Row) → has_first values ≡ true → are_valued rows ≡ true → are_valued (with_values id how s values rows) ≡ true
valued_with id how s values rows some e =
    changed id (more_values s values) (record { id = id; values = values; count = None; source = Some s; reading = how } ∷ []) rows
    (λ r first. both _ _ (first_append r.values values first) refl) (both _ _ some refl) e

-- ---- one use of an argument, with a value

-- each action keeps the values of a use that has one
used_with : (act : ArgAction) (id : Text) (how : Reading) (v : Text) (vs : List Text) (rows : List Row) → are_valued rows ≡ true → are_valued (used_as act id how (v ∷ vs) rows) ≡ true
used_with Set id how v vs rows e = valued_with id how CommandLine (v ∷ vs) (without id rows) refl (valued_without id rows e)
used_with SetTrue id how v vs rows e = valued_with id how CommandLine (v ∷ vs) (without id rows) refl (valued_without id rows e)
used_with SetFalse id how v vs rows e = valued_with id how CommandLine (v ∷ vs) (without id rows) refl (valued_without id rows e)
used_with Append id how v vs rows e = valued_with id how CommandLine (v ∷ vs) rows refl e
used_with Count id how v vs rows e = valued_with id how CommandLine (v ∷ vs) (without id rows) refl (valued_without id rows e)
used_with Help id how v vs rows e = e
used_with HelpShort id how v vs rows e = e
used_with HelpLong id how v vs rows e = e
used_with Version id how v vs rows e = e

-- each use of each argument has a value, its own or one that takes its place
abbrev pub has_least_one : Rule → Bool
has_least_one a = nat_le 1 (unwrap_or_range a.range).start_inclusive || has_first a.missing

abbrev pub have_values : List Rule → Bool
have_values c = list_all has_least_one c

-- a search for an argument finds one whose uses have values
found_has : (c : List Rule) (test : Rule → Bool) → have_values c ≡ true → option_map_or has_least_one (find test c) true ≡ true
found_has [] test e = refl
found_has (a ∷ rest) test e =
    elim (test a) as (λ b. option_map_or has_least_one (cond b (Some a) (find test rest)) true ≡ true) [
      | true ↦ left (has_least_one a) (have_values rest) e
      | false ↦ found_has rest test (right (has_least_one a) (have_values rest) e)
    ]

-- where a use that passes has no value of its own, one takes its place
must_stand : (n : ℕ) (stands : Bool) → (nat_le 1 n || stands) ≡ true → nat_le n 0 ≡ true → stands ≡ true
must_stand n true x y = refl
must_stand n false x y = grind (arith, nat_tests)

-- a use with the values that take its place
used_standing : (act : ArgAction) (id : Text) (how : Reading) (vs : List Text) (rows : List Row) → has_first vs ≡ true → are_valued rows ≡ true → are_valued (used_as act id how vs rows) ≡ true
used_standing act id how [] rows some all = absurd (cc)
used_standing act id how (v ∷ vs) rows some all = used_with act id how v vs rows all

-- a use that passes leaves rows with values
valued_use : (again : Bool) (a : Rule) (vs : List Text) (rows : List Row) → has_least_one a ≡ true → use_passes again a vs rows ≡ true → are_valued rows ≡ true → are_valued (used a vs rows) ≡ true
valued_use again a [] rows one e all =
    let least = (unwrap_or_range a.range).start_inclusive in
    let none = left (nat_le least 0) (nat_le 0 (most_values a) && action_passes (action_of a) again a a.missing rows) e in
    used_standing (action_of a) a.id (reading_by a) a.missing rows (must_stand least (has_first a.missing) one none) all
valued_use again a (v ∷ vs) rows one e all = used_with (action_of a) a.id (reading_by a) v vs rows all

-- ---- what is held

-- the pending argument is used
settled_use : (c : List Rule) (again : Bool) (id : Text) (vs : List Text) (rows : List Row) (o : Option Rule) → option_map_or has_least_one o true ≡ true → option_map_or (λ a. use_passes again a vs rows) o true ≡ true → are_valued rows ≡ true → are_valued (used_by_id o vs rows) ≡ true
settled_use c again id vs rows None one e all = all
settled_use c again id vs rows (Some a) one e all = valued_use again a vs rows one e all

settled_kept : (c : List Rule) (again : Bool) (p : Option (Text × List Text)) (rows : List Row) → have_values c ≡ true → option_map_or (λ q. option_map_or (λ a. use_passes again a q.1 rows) (arg_by_id c q.0) true) p true ≡ true → are_valued rows ≡ true → are_valued (settled_rows c p rows) ≡ true
settled_kept c again None rows one e all = all
settled_kept c again (Some q) rows one e all = settled_use c again q.0 q.1 rows (arg_by_id c q.0) (found_has c (λ a. bytes_eq a.id q.0) one) e all

-- the rows, once the pending argument is used
rows_settled : (c : List Rule) (again : Bool) (h : Held) → have_values c ≡ true → settle_passes c again h ≡ true → are_valued h.rows ≡ true → are_valued (settled c h).rows ≡ true
rows_settled c again h one e all = settled_kept c again h.pending h.rows one e all

-- and then another is used
rows_reacted : (c : List Rule) (again : Bool) (a : Rule) (vs : List Text) (h : Held) → have_values c ≡ true → has_least_one a ≡ true → react_passes c again a vs h ≡ true → are_valued h.rows ≡ true → are_valued (reacted c a vs h).rows ≡ true
rows_reacted c again a vs h one here e all =
    let x = settle_passes c again h in
    let y = use_passes again a vs (settled c h).rows in
    valued_use again a vs (settled c h).rows here (right x y e) (rows_settled c again h one (left x y e) all)

-- ---- options

-- an option, with or without the value that is attached to it
option_kept : (c : List Rule) (again : Bool) (a : Rule) (v : Option Text) (h : Held) → have_values c ≡ true → has_least_one a ≡ true → option_passes c again a v h ≡ true → are_valued h.rows ≡ true → are_valued (option_met c a v h).0.rows ≡ true
option_kept c again a (Some v) h one here e all = rows_reacted c again a (v ∷ []) h one here e all
option_kept c again a None h one here e all = rows_settled c again h one e all

-- a flag
flag_kept : (c : List Rule) (again : Bool) (a : Rule) (v : Option Text) (h : Held) → have_values c ≡ true → has_least_one a ≡ true → (not (is_some v) && react_passes c again a [] h) ≡ true → are_valued h.rows ≡ true → are_valued (flag_met c a v h).0.rows ≡ true
flag_kept c again a (Some v) h one here e all = all
flag_kept c again a None h one here e all = rows_reacted c again a [] h one here e all

-- `--name`, with or without a value
long_kept : (c : List Rule) (again : Bool) (o : Option Rule) (v : Option Text) (h : Held) → have_values c ≡ true → option_map_or has_least_one o true ≡ true → long_passes c again o v h ≡ true → are_valued h.rows ≡ true → are_valued (long_met c o v h).0.rows ≡ true
long_kept c again None v h one here e all = all
long_kept c again (Some a) v h one here e all = by_kind (takes_values a) e
  where
    by_kind : (b : Bool) → cond b (option_passes c again a v h) (not (is_some v) && react_passes c again a [] h) ≡ true → are_valued (cond b (option_met c a v h) (flag_met c a v h)).0.rows ≡ true
    by_kind true x = option_kept c again a v h one here x all
    by_kind false x = flag_kept c again a v h one here x all

-- one short name of a bundle
short_kept : (c : List Rule) (again : Bool) (o : Option Rule) (rest : Text) (h : Held) (more : Held → Held × Outcome) (passes : Held → Bool) → have_values c ≡ true → option_map_or has_least_one o true ≡ true
    → ((held : Held) → passes held ≡ true → are_valued held.rows ≡ true → are_valued (more held).0.rows ≡ true) → short_passes c again o rest h passes ≡ true → are_valued h.rows ≡ true → are_valued (short_met c o rest h more).0.rows ≡ true
short_kept c again None rest h more passes one here each e all = all
short_kept c again (Some a) rest h more passes one here each e all = by_kind (takes_values a) e
  where
    by_kind : (b : Bool) → cond b (option_passes c again a (attached_value rest) h) (react_passes c again a [] h && passes (reacted c a [] h)) ≡ true → are_valued (cond b (option_met c a (attached_value rest) h) (more (reacted c a [] h))).0.rows ≡ true
    by_kind true x = option_kept c again a (attached_value rest) h one here x all
    by_kind false x =
        let p = react_passes c again a [] h in
        let q = passes (reacted c a [] h) in
        each (reacted c a [] h) (right p q x) (rows_reacted c again a [] h one here (left p q x) all)

-- one character of a bundle
step_kept : (c : List Rule) (again : Bool) (x : Option ℕ) (flags : Text) (skip : ℕ) (so_far : Outcome) (h : Held) (more : Text → ℕ → Outcome → Held → Held × Outcome) (passes : Text → ℕ → Held → Bool) → have_values c ≡ true
    → ((t : Text) (k : ℕ) (o : Outcome) (held : Held) → passes t k held ≡ true → are_valued held.rows ≡ true → are_valued (more t k o held).0.rows ≡ true) → bundle_step_passes c again x flags skip h passes ≡ true → are_valued h.rows ≡ true
    → are_valued (bundle_step c x flags skip so_far h more).0.rows ≡ true
step_kept c again None flags skip so_far h more passes one each e all = all
step_kept c again (Some x) flags zero so_far h more passes one each e all =
    let rest = drop (length (encode_utf8 x)) flags in
    short_kept c again (arg_by_short c x) rest h (more rest 0 done) (passes rest 0) one (found_has c (λ a. not (is_some a.index) && has_short a x) one) (each rest 0 done) e all
step_kept c again (Some x) flags (suc skip) so_far h more passes one each e all = each (drop (length (encode_utf8 x)) flags) skip so_far h e all

-- the characters of a bundle
bundle_kept : (c : List Rule) (again : Bool) (k : ℕ) (flags : Text) (skip : ℕ) (so_far : Outcome) (h : Held) → have_values c ≡ true → flags_pass c again k flags skip h ≡ true → are_valued h.rows ≡ true → are_valued (bundle_met c k flags skip so_far h).0.rows ≡ true
unfolding bundle_met flags_pass
bundle_kept c again zero flags skip so_far h one e all = all
bundle_kept c again (suc k) flags skip so_far h one e all = step_kept c again (slice_get (chars flags) 0) flags skip so_far h (bundle_met c k) (flags_pass c again k) one (λ t j o held. bundle_kept c again k t j o held one) e all

-- ---- one word

-- a word that is no flag changes no row
plain_rows : (c : List Rule) (waiting : Waiting) (word : Text) (h : Held) → (plain_word c waiting word h).0.rows ≡ h.rows
plain_rows c idle word h = refl
plain_rows c positional word h = refl
plain_rows c (option id) word h = found (arg_by_id c id)
  where
    found : (o : Option Rule) → (option_word o id word h).0.rows ≡ h.rows
    found None = refl
    found (Some a) = refl

-- nor does a word, after what its flags came to
after_rows : (c : List Rule) (waiting : Waiting) (word : Text) (h : Held) (o : Outcome) → (after_flag c waiting word h o).0.rows ≡ h.rows
after_rows c waiting word h done = refl
after_rows c waiting word h (waits id) = refl
after_rows c waiting word h plain = plain_rows c waiting word h
after_rows c waiting word h refused = plain_rows c waiting word h

-- rows that are the same have values alike
alike : (xs ys : List Row) → xs ≡ ys → are_valued ys ≡ true → are_valued xs ≡ true
alike xs ys same e = ap are_valued same ∙ e

-- a word that is no long name
shorts_kept : (c : List Rule) (again : Bool) (waiting : Waiting) (word : Text) (o : Option Text) (h : Held) → have_values c ≡ true → option_map_or (λ flags. bundle_passes c again flags h) o true ≡ true → are_valued h.rows ≡ true → are_valued (short_or_plain c waiting word o h).0.rows ≡ true
shorts_kept c again waiting word None h one e all = alike _ _ (plain_rows c waiting word h) all
shorts_kept c again waiting word (Some flags) h one e all =
    let met = bundle c flags h in
    alike _ _ (after_rows c waiting word met.0 met.1) (bundle_kept c again (length flags) flags h.skip plain (record h { skip = 0 }) one e all)

-- a word that may be a long name
longs_kept : (c : List Rule) (again : Bool) (waiting : Waiting) (word : Text) (o : Option (Text × Option Text)) (h : Held) → have_values c ≡ true → flag_word_passes c again o word h ≡ true → are_valued h.rows ≡ true → are_valued (long_or_other c waiting word o h).0.rows ≡ true
longs_kept c again waiting word None h one e all = shorts_kept c again waiting word (short_of word) h one e all
longs_kept c again waiting word (Some p) h one e all =
    let met = long_met c (arg_by_long c p.0) p.1 h in
    alike _ _ (after_rows c waiting word met.0 met.1) (long_kept c again (arg_by_long c p.0) p.1 h one (found_has c (λ a. not (is_some a.index) && has_long a p.0) one) e all)

-- a word before `--`
others_kept : (s : Shape) (o : Option Text) (waiting : Waiting) (position : ℕ) (word : Text) (h : Held) → have_values s.rules ≡ true → other_passes s o word h ≡ true → are_valued h.rows ≡ true → are_valued (subcommand_or_other s.rules o waiting position word h).0.rows ≡ true
others_kept s (Some name) waiting position word h one e all = all
others_kept s None waiting position word h one e all = by_word (bytes_eq word (45 ∷ 45 ∷ [])) e
  where
    by_word : (b : Bool) → (b || flag_word_passes s.rules s.args_override_self (long_of word) word h) ≡ true → are_valued (cond b (h, trailing position) (long_or_other s.rules waiting word (long_of word) h)).0.rows ≡ true
    by_word true x = all
    by_word false x = longs_kept s.rules s.args_override_self waiting word (long_of word) h one x all

-- any word
word_kept : (s : Shape) (names : Names) (is_trailing : Bool) (waiting : Waiting) (position : ℕ) (word : Text) (h : Held) → have_values s.rules ≡ true → word_passes s names is_trailing waiting word h ≡ true → are_valued h.rows ≡ true → are_valued (word_met s.rules names is_trailing waiting position word h).0.rows ≡ true
word_kept s names true waiting position word h one e all = all
word_kept s names false waiting position word h one e all = others_kept s (subcommand_met names waiting word) waiting position word h one e all

-- a word that goes to a positional uses what was pending
positional_kept : (c : List Rule) (again : Bool) (a : Rule) (word : Text) (h : Held) → have_values c ≡ true → positional_passes c again a h ≡ true → are_valued h.rows ≡ true → are_valued (positional_held c a word h).rows ≡ true
positional_kept c again a word h one e all = by_pending (is_pending a h.pending && takes_several a) e
  where
    by_pending : (b : Bool) → (b || settle_passes c again h) ≡ true → are_valued (pushed a.id word (cond b h (settled c h))).rows ≡ true
    by_pending true x = all
    by_pending false x = rows_settled c again h one x all

-- a word, by the positional that is next
placed_kept : (c : List Rule) (again : Bool) (o : Option Rule) (word : Text) (w : Walk) (h : Held) → have_values c ≡ true → option_map_or (λ a. positional_passes c again a h) o false ≡ true → are_valued h.rows ≡ true → are_valued (to_positional c o word w h).held.rows ≡ true
placed_kept c again None word w h one e all = all
placed_kept c again (Some a) word w h one e all = positional_kept c again a word h one e all

-- what a word comes to
after_kept : (s : Shape) (word : Text) (w : Walk) (h : Held) (step : Step) → have_values s.rules ≡ true → step_passes s w.position h step ≡ true → are_valued h.rows ≡ true → are_valued (after_step s.rules word w h step).held.rows ≡ true
after_kept s word w h (next waiting) one e all = all
after_kept s word w h (trailing position) one e all = all
after_kept s word w h (subcommand name) one e all = all
after_kept s word w h value one e all = placed_kept s.rules s.args_override_self (arg_by_index s.rules w.position) word w h one e all

-- one word of the walk
walked_kept : (s : Shape) (names : Names) (o : Option (Text × List Text)) (w : Walk) (word : Text) → have_values s.rules ≡ true
    → (is_some o || (word_passes s names w.is_trailing w.waiting word w.held
    && step_passes s w.position (word_met s.rules names w.is_trailing w.waiting w.position word w.held).0 (word_met s.rules names w.is_trailing w.waiting w.position word w.held).1)) ≡ true
    → are_valued w.held.rows ≡ true → are_valued (walked_from s.rules names o w word).held.rows ≡ true
walked_kept s names (Some p) w word one e all = all
walked_kept s names None w word one e all =
    let met = word_met s.rules names w.is_trailing w.waiting w.position word w.held in
    let x = word_passes s names w.is_trailing w.waiting word w.held in
    let y = step_passes s w.position met.0 met.1 in
    after_kept s word w met.0 met.1 one (right x y e) (word_kept s names w.is_trailing w.waiting w.position word w.held one (left x y e) all)

-- ---- all the words

-- the words of the walk
walk_kept : (s : Shape) (names : Names) (w : Walk) (ws : List Text) → have_values s.rules ≡ true → walk_passes s names w ws ≡ true → are_valued w.held.rows ≡ true → are_valued (fold (walked s.rules names) w ws).held.rows ≡ true
unfolding walked walk_passes
walk_kept s names w [] one e all = all
walk_kept s names w (word ∷ rest) one e all =
    let x = turn_passes s names w word in
    let y = walk_passes s names (walked s.rules names w word) rest in
    walk_kept s names (walked s.rules names w word) rest one (right x y e) (walked_kept s names w.stopped w word one (left x y e) all)

-- a default that is filled in
default_kept : (id : Text) (how : Reading) (values : List Text) (rows : List Row) → are_valued rows ≡ true → are_valued (default_rows id how values rows) ≡ true
default_kept id how [] rows e = e
default_kept id how (v ∷ vs) rows e = valued_with id how DefaultValue (v ∷ vs) rows refl e

-- all defaults
defaults_kept : (rows : List Row) (c : List Rule) → are_valued rows ≡ true → are_valued (fold with_default rows c) ≡ true
defaults_kept rows [] e = e
defaults_kept rows (a ∷ rest) e =
    defaults_kept (with_default rows a) rest (elim (has_row a.id rows) as (λ b. are_valued (cond b rows (default_rows a.id (reading_by a) a.defaults rows)) ≡ true) [
      | true ↦ e
      | false ↦ default_kept a.id (reading_by a) a.defaults rows e
    ])

-- the rows at the end of words that pass
rows_are_valued : (s : Shape) (names : Names) (ws : List Text) → have_values s.rules ≡ true → walk_passes s names (walk_from nothing_held) ws ≡ true → settle_passes s.rules s.args_override_self (walk s.rules names nothing_held ws).held ≡ true → are_valued (rows_after s.rules names ws) ≡ true
rows_are_valued s names ws one walks settles =
    let end = (walk s.rules names nothing_held ws).held in
    defaults_kept (settled s.rules end).rows s.rules (rows_settled s.rules s.args_override_self end one settles (walk_kept s names (walk_from nothing_held) ws one walks refl))

-- ---- what is given has a value

-- an argument that is given has a value
given_has_value : (id : Text) (rows : List Row) → are_valued rows ≡ true → is_given id rows ≡ true → is_some (first_of id rows) ≡ true
given_has_value id [] all e = absurd (cc)
given_has_value id (r ∷ rs) all e =
    let P : Option Row → Type 0 = λ o. option_map_or (λ (q : Row). explicit_source q.source) o false ≡ true → is_some (option_and_then (λ (q : Row). slice_get q.values 0) o) ≡ true in
    elim (bytes_eq r.id id) as (λ b. P (cond b (Some r) (find (λ q. bytes_eq q.id id) rs))) [
      | true ↦ λ _. left (has_value r) (are_valued rs) all
      | false ↦ given_has_value id rs (right (has_value r) (are_valued rs) all)
    ] e

-- the argument has a value where it must be given
abbrev pub is_met_by : List Row → Rule → Bool
is_met_by rows a = not a.required || is_some (first_of a.id rows)

-- a required argument that is given
given_met : (required given some : Bool) → (given ≡ true → some ≡ true) → (not required || given) ≡ true → (not required || some) ≡ true
given_met true given some so e = so e
given_met false given some so e = refl

-- all required arguments
all_met : (c : List Rule) (rows : List Row) → are_valued rows ≡ true → list_all (λ a. not a.required || is_given a.id rows) c ≡ true → list_all (is_met_by rows) c ≡ true
all_met [] rows all e = refl
all_met (a ∷ rest) rows all e =
    let first = not a.required || is_given a.id rows in
    let others = list_all (λ a. not a.required || is_given a.id rows) rest in
    both _ _ (given_met a.required (is_given a.id rows) (is_some (first_of a.id rows)) (given_has_value a.id rows all) (left first others e)) (all_met rest rows all (right first others e))

-- each argument that must be given has a value, where words pass and the required ones are given
pub required_have_values : (s : Shape) (names : Names) (ws : List Text) → have_values s.rules ≡ true → walk_passes s names (walk_from nothing_held) ws ≡ true → settle_passes s.rules s.args_override_self (walk s.rules names nothing_held ws).held ≡ true
    → list_all (λ a. not a.required || is_given a.id (rows_after s.rules names ws)) s.rules ≡ true → list_all (is_met_by (rows_after s.rules names ws)) s.rules ≡ true
required_have_values s names ws one walks settles e = all_met s.rules (rows_after s.rules names ws) (rows_are_valued s names ws one walks settles) e
