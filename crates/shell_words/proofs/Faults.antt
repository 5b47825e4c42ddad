-- What `clap` finds wrong with words of which none begins with a dash, at the commands that count them.
use Rattle.std.proofs.Common.{◌≡◌, ◌⊎◌, inl, inr, subst, map, ◌-◌, ◌+◌, ◌<◌, ◌≤◌, ◌||◌, ℕ, Bool, cond, true, false, true≢false, refl, sym, ap, ap₂, ◌∙◌, arith, List, [], ◌∷◌, ◌++◌, length, Option, Some, None, codes}
use Rattle.std.specs.Prelude.{is_some, ◌&&◌, option_and_then}
use Rattle.std.specs.Option.{option_map_or}
use Rattle.std.specs.Str.{bytes_eq}
use Rattle.std.specs.List.{fold, list_any}
use Rattle.clap.specs.Lexer.{long_of, long_of_rest, short_of, short_of_rest, strip_byte}
use Rattle.clap.specs.Walk.{Waiting, trailing, subcommand_or_other, plain_word, long_or_other, short_or_plain, Held, Row, Rule, Text, Walk, Step, word_met, walked, nothing_held, positional, idle, value, after_step, to_positional, arg_by_index, settled, finished}
use Rattle.clap.specs.Simple.{App, Shape, built, entered, new_app}
use Rattle.clap.specs.Kinds.{Kinds, IsAmong, or_else}
use Rattle.clap.specs.Faults.{other_fault, flag_word_fault, bundle_fault, turn_fault, word_fault, step_fault, walk_fault, settle_fault, defaults_fault, check_fault, level_fault, entered_fault, fault_of, is_simple_and_free}
use Rattle.clap.specs.declared.error.ErrorKind.{ErrorKind}
use Rattle.clap.specs.declared.error.ErrorKind.TheVariants.{OutOfMemory}
use Rattle.clap.specs.declared.parser.ValueSource.TheVariants.{CommandLine}
use Rattle.clap.specs.Words.{reading_of}
use Rattle.clap.specs.declared.builder.ValueParser.TheVariants as parsers
use Rattle.shell_words.specs.Words.{begins_with_dash}
use Rattle.shell_words.specs.Inner.Counting.{Fits, single, two_app, four_app, open_app, publish_app, app_of_keyword}
use Rattle.shell_words.proofs.Naming.{any_map, same_length}
use Rattle.shell_words.specs.declared.keyword.Keyword.{Keyword}
use Rattle.shell_words.specs.declared.keyword.Keyword.TheVariants.{Assemble, Open, Record, List as ListAll, Publish, Rehearse, Session, Big, Find, OpenId, PublishPsi, PublishOn, Mounts, Watch, Plan, Inspect, Extract, Air}

-- a walk between two words, where the next one goes to the positional at place n
abbrev between : Held → Bool → ℕ → Walk
between h several n = record { held = h; waiting = cond several positional idle; position = n; is_trailing = false; stopped = None }

no_dashes : (word : Text) → begins_with_dash word ≡ false → bytes_eq word (45 ∷ 45 ∷ []) ≡ false
no_dashes [] d = refl
no_dashes (x ∷ xs) d = ap (λ b. b && bytes_eq xs (45 ∷ [])) d

no_long : (word : Text) → begins_with_dash word ≡ false → long_of word ≡ None
no_long [] d = refl
no_long (x ∷ xs) d = ap (λ b. option_and_then long_of_rest (option_and_then (strip_byte 45) (cond b (Some xs) None))) d

no_short : (word : Text) → begins_with_dash word ≡ false → short_of word ≡ None
no_short [] d = refl
no_short (x ∷ xs) d = ap (λ b. option_and_then short_of_rest (cond b (Some xs) None)) d

is_plain_word : (c : List Rule) (waiting : Waiting) (n : ℕ) (word : Text) (h : Held) → begins_with_dash word ≡ false → subcommand_or_other c None waiting n word h ≡ plain_word c waiting word h
is_plain_word c waiting n word h d =
    ap (λ b. cond b (h, trailing n) (long_or_other c waiting word (long_of word) h)) (no_dashes word d)
    ∙ ap (λ l. long_or_other c waiting word l h) (no_long word d)
    ∙ ap (λ s. short_or_plain c waiting word s h) (no_short word d)

-- a word without a dash is a value
is_value : (c : List Rule) (several : Bool) (n : ℕ) (word : Text) (h : Held) → begins_with_dash word ≡ false → word_met c [] false (cond several positional idle) n word h ≡ (h, value)
is_value c true n word h d = is_plain_word c positional n word h d
is_value c false n word h d = is_plain_word c idle n word h d

is_no_flag : (s : Shape) (word : Text) (h : Held) → begins_with_dash word ≡ false → other_fault s None word h ≡ []
is_no_flag s word h d =
    ap (λ b. cond b [] (flag_word_fault s.rules s.args_override_self (long_of word) word h)) (no_dashes word d)
    ∙ ap (λ l. flag_word_fault s.rules s.args_override_self l word h) (no_long word d)
    ∙ ap (λ o. option_map_or (λ flags. bundle_fault s.rules s.args_override_self flags h) o []) (no_short word d)

is_sound : (s : Shape) (several : Bool) (word : Text) (h : Held) → begins_with_dash word ≡ false → word_fault s [] false (cond several positional idle) word h ≡ []
is_sound s true word h d = is_no_flag s word h d
is_sound s false word h d = is_no_flag s word h d

-- the faults after the last word
abbrev end_fault : Shape → Held → Kinds
end_fault s end =
    or_else (settle_fault s.rules s.args_override_self end) (or_else (defaults_fault (settled s.rules end).rows s.rules) (check_fault s (finished s.rules end) false))

-- the faults from a word on
abbrev faults_from : Shape → Walk → List Text → Kinds
faults_from s w words = or_else (walk_fault s [] w words) (end_fault s (fold (walked s.rules []) w words).held)

or_else_assoc : (a b c : Kinds) → or_else (or_else a b) c ≡ or_else a (or_else b c)
or_else_assoc [] b c = refl
or_else_assoc (k ∷ ks) b c = refl

turn_is : (s : Shape) (h : Held) (several : Bool) (n : ℕ) (word : Text) → begins_with_dash word ≡ false → turn_fault s [] (between h several n) word ≡ step_fault s n h value
turn_is s h several n word d = ap₂ (λ (f : Kinds) (m : Held × Step). or_else f (step_fault s n m.0 m.1)) (is_sound s several word h d) (is_value s.rules several n word h d)

walked_is : (c : List Rule) (h : Held) (several : Bool) (n : ℕ) (word : Text) → begins_with_dash word ≡ false
    → walked c [] (between h several n) word ≡ to_positional c (arg_by_index c n) word (between h several n) h
unfolding walked
walked_is c h several n word d = ap (λ (m : Held × Step). after_step c word (between h several n) m.0 m.1) (is_value c several n word h d)

-- one word
step_is : (s : Shape) (h : Held) (several : Bool) (n : ℕ) (word : Text) (rest : List Text) → begins_with_dash word ≡ false
    → faults_from s (between h several n) (word ∷ rest) ≡ or_else (step_fault s n h value) (faults_from s (to_positional s.rules (arg_by_index s.rules n) word (between h several n) h) rest)
unfolding walk_fault
step_is s h several n word rest d =
    let w = between h several n in
    or_else_assoc (turn_fault s [] w word) (walk_fault s [] (walked s.rules [] w word) rest) (end_fault s (fold (walked s.rules []) (walked s.rules [] w word) rest).held)
    ∙ ap₂ (λ (f : Kinds) (v : Walk). or_else f (faults_from s v rest)) (turn_is s h several n word d) (walked_is s.rules h several n word d)

neither : (a b : Bool) → (a || b) ≡ false → (a ≡ false) × (b ≡ false)
neither false b e = (refl, e)
neither true b e = absurd (true≢false e)

-- there is no fault exactly where F holds
record Counts (s : Shape) (w : Walk) (F : Type 0) (words : List Text) : Type 0 where
  fits : F → faults_from s w words ≡ []
  only : faults_from s w words ≡ [] → F

some≢nil : (k : ErrorKind) (ks : Kinds) → k ∷ ks ≡ [] → ⊥
some≢nil k ks e = cc

too_few : (s : Shape) (w : Walk) (F : Type 0) (k : ErrorKind) (ks : Kinds) → (F → ⊥) → faults_from s w [] ≡ k ∷ ks → Counts s w F []
too_few s w F k ks never e = record { fits = λ f. absurd (never f); only = λ z. absurd (some≢nil k ks (sym e ∙ z)) }

too_many : (s : Shape) (h : Held) (several : Bool) (n : ℕ) (F : Type 0) (k : ErrorKind) (ks : Kinds) (word : Text) (rest : List Text) → (F → ⊥) → begins_with_dash word ≡ false
    → step_fault s n h value ≡ k ∷ ks → Counts s (between h several n) F (word ∷ rest)
too_many s h several n F k ks word rest never d e =
    let is : faults_from s (between h several n) (word ∷ rest) ≡ k ∷ ks = step_is s h several n word rest d ∙ ap (λ f. or_else f (faults_from s (to_positional s.rules (arg_by_index s.rules n) word (between h several n) h) rest)) e in
    record { fits = λ f. absurd (never f); only = λ z. absurd (some≢nil k ks (sym is ∙ z)) }

next_is : (s : Shape) (h : Held) (several : Bool) (n : ℕ) (next : Walk) (word : Text) (rest : List Text) → begins_with_dash word ≡ false → step_fault s n h value ≡ []
    → to_positional s.rules (arg_by_index s.rules n) word (between h several n) h ≡ next → faults_from s (between h several n) (word ∷ rest) ≡ faults_from s next rest
next_is s h several n next word rest d sound to =
    step_is s h several n word rest d ∙ ap₂ (λ (f : Kinds) (v : Walk). or_else f (faults_from s v rest)) sound to

one_word : (s : Shape) (h : Held) (n : ℕ) (next : Walk) (k : ℕ) (word : Text) (rest : List Text) → begins_with_dash word ≡ false → step_fault s n h value ≡ []
    → to_positional s.rules (arg_by_index s.rules n) word (between h false n) h ≡ next → Counts s next (length rest ≡ k) rest → Counts s (between h false n) (length (word ∷ rest) ≡ k + 1) (word ∷ rest)
one_word s h n next k word rest d sound to c =
    let is = next_is s h false n next word rest d sound to in
    record { fits = λ l. is ∙ c.fits (omega arith); only = λ z. let l : length rest ≡ k = c.only (sym is ∙ z) in omega arith }

-- what was found for a positional
abbrev row : Text → List Text → Row
row id values = record { id = id; values = values; count = None; source = Some CommandLine; reading = reading_of parsers.String }

-- rows were found, and a word waits to be one
abbrev held : List Row → Text → Text → Held
held rows id word = record { rows = rows; pending = Some (id, word ∷ []); skip = 0 }

-- a command as it is built
abbrev shape : App → Shape
shape a = (built a).top

-- no word
none_0 : (name : Text) (words : List Text) → list_any begins_with_dash words ≡ false → Counts (shape (new_app name)) (between nothing_held false 1) (length words ≡ 0) words
unfolding walk_fault defaults_fault
none_0 name [] p = record { fits = λ _. refl; only = λ _. refl }
none_0 name (x ∷ rest) p = too_many (shape (new_app name)) nothing_held false 1 _ _ _ x rest (λ e. omega arith) (neither _ _ p).0 refl

-- one word
single_1 : (name : Text) (a : Text) (words : List Text) → list_any begins_with_dash words ≡ false → Counts (shape (single name)) (between (held ([]) (codes "VALUE") a) false 2) (length words ≡ 0) words
unfolding walk_fault defaults_fault
single_1 name a [] p = record { fits = λ _. refl; only = λ _. refl }
single_1 name a (x ∷ rest) p = too_many (shape (single name)) (held ([]) (codes "VALUE") a) false 2 _ _ _ x rest (λ e. omega arith) (neither _ _ p).0 refl

single_0 : (name : Text) (words : List Text) → list_any begins_with_dash words ≡ false → Counts (shape (single name)) (between nothing_held false 1) (length words ≡ 1) words
unfolding walk_fault defaults_fault
single_0 name [] p = too_few (shape (single name)) (between nothing_held false 1) _ _ _ (λ e. omega arith) refl
single_0 name (a ∷ rest) p =
    one_word (shape (single name)) nothing_held 1 (between (held ([]) (codes "VALUE") a) false 2) 0 a rest (neither _ _ p).0 refl refl (single_1 name a rest (neither _ _ p).1)

-- a folder, a carousel and a number of cycles
publish_3 : (name : Text) (a b c : Text) (words : List Text) → list_any begins_with_dash words ≡ false → Counts (shape (publish_app name)) (between (held (row (codes "FOLDER") (a ∷ []) ∷ row (codes "CAROUSEL") (b ∷ []) ∷ []) (codes "CYCLES") c) false 4) (length words ≡ 0) words
unfolding walk_fault defaults_fault
publish_3 name a b c [] p = record { fits = λ _. refl; only = λ _. refl }
publish_3 name a b c (x ∷ rest) p = too_many (shape (publish_app name)) (held (row (codes "FOLDER") (a ∷ []) ∷ row (codes "CAROUSEL") (b ∷ []) ∷ []) (codes "CYCLES") c) false 4 _ _ _ x rest (λ e. omega arith) (neither _ _ p).0 refl

publish_2 : (name : Text) (a b : Text) (words : List Text) → list_any begins_with_dash words ≡ false → Counts (shape (publish_app name)) (between (held (row (codes "FOLDER") (a ∷ []) ∷ []) (codes "CAROUSEL") b) false 3) (length words ≡ 1) words
unfolding walk_fault defaults_fault
publish_2 name a b [] p = too_few (shape (publish_app name)) (between (held (row (codes "FOLDER") (a ∷ []) ∷ []) (codes "CAROUSEL") b) false 3) _ _ _ (λ e. omega arith) refl
publish_2 name a b (c ∷ rest) p =
    one_word (shape (publish_app name)) (held (row (codes "FOLDER") (a ∷ []) ∷ []) (codes "CAROUSEL") b) 3 (between (held (row (codes "FOLDER") (a ∷ []) ∷ row (codes "CAROUSEL") (b ∷ []) ∷ []) (codes "CYCLES") c) false 4) 0 c rest (neither _ _ p).0 refl refl (publish_3 name a b c rest (neither _ _ p).1)

publish_1 : (name : Text) (a : Text) (words : List Text) → list_any begins_with_dash words ≡ false → Counts (shape (publish_app name)) (between (held ([]) (codes "FOLDER") a) false 2) (length words ≡ 2) words
unfolding walk_fault defaults_fault
publish_1 name a [] p = too_few (shape (publish_app name)) (between (held ([]) (codes "FOLDER") a) false 2) _ _ _ (λ e. omega arith) refl
publish_1 name a (b ∷ rest) p =
    one_word (shape (publish_app name)) (held ([]) (codes "FOLDER") a) 2 (between (held (row (codes "FOLDER") (a ∷ []) ∷ []) (codes "CAROUSEL") b) false 3) 1 b rest (neither _ _ p).0 refl refl (publish_2 name a b rest (neither _ _ p).1)

publish_0 : (name : Text) (words : List Text) → list_any begins_with_dash words ≡ false → Counts (shape (publish_app name)) (between nothing_held false 1) (length words ≡ 3) words
unfolding walk_fault defaults_fault
publish_0 name [] p = too_few (shape (publish_app name)) (between nothing_held false 1) _ _ _ (λ e. omega arith) refl
publish_0 name (a ∷ rest) p =
    one_word (shape (publish_app name)) nothing_held 1 (between (held ([]) (codes "FOLDER") a) false 2) 2 a rest (neither _ _ p).0 refl refl (publish_1 name a rest (neither _ _ p).1)

-- a PID and a folder
two_2 : (name : Text) (a b : Text) (words : List Text) → list_any begins_with_dash words ≡ false → Counts (shape (two_app name)) (between (held (row (codes "PID") (a ∷ []) ∷ []) (codes "FOLDER") b) false 3) (length words ≡ 0) words
unfolding walk_fault defaults_fault
two_2 name a b [] p = record { fits = λ _. refl; only = λ _. refl }
two_2 name a b (x ∷ rest) p = too_many (shape (two_app name)) (held (row (codes "PID") (a ∷ []) ∷ []) (codes "FOLDER") b) false 3 _ _ _ x rest (λ e. omega arith) (neither _ _ p).0 refl

two_1 : (name : Text) (a : Text) (words : List Text) → list_any begins_with_dash words ≡ false → Counts (shape (two_app name)) (between (held ([]) (codes "PID") a) false 2) (length words ≡ 1) words
unfolding walk_fault defaults_fault
two_1 name a [] p = too_few (shape (two_app name)) (between (held ([]) (codes "PID") a) false 2) _ _ _ (λ e. omega arith) refl
two_1 name a (b ∷ rest) p =
    one_word (shape (two_app name)) (held ([]) (codes "PID") a) 2 (between (held (row (codes "PID") (a ∷ []) ∷ []) (codes "FOLDER") b) false 3) 0 b rest (neither _ _ p).0 refl refl (two_2 name a b rest (neither _ _ p).1)

two_0 : (name : Text) (words : List Text) → list_any begins_with_dash words ≡ false → Counts (shape (two_app name)) (between nothing_held false 1) (length words ≡ 2) words
unfolding walk_fault defaults_fault
two_0 name [] p = too_few (shape (two_app name)) (between nothing_held false 1) _ _ _ (λ e. omega arith) refl
two_0 name (a ∷ rest) p =
    one_word (shape (two_app name)) nothing_held 1 (between (held ([]) (codes "PID") a) false 2) 1 a rest (neither _ _ p).0 refl refl (two_1 name a rest (neither _ _ p).1)

-- four words
four_4 : (name : Text) (a b c d : Text) (words : List Text) → list_any begins_with_dash words ≡ false → Counts (shape (four_app name)) (between (held (row (codes "FIRST") (a ∷ []) ∷ row (codes "SECOND") (b ∷ []) ∷ row (codes "THIRD") (c ∷ []) ∷ []) (codes "FOURTH") d) false 5) (length words ≡ 0) words
unfolding walk_fault defaults_fault
four_4 name a b c d [] p = record { fits = λ _. refl; only = λ _. refl }
four_4 name a b c d (x ∷ rest) p = too_many (shape (four_app name)) (held (row (codes "FIRST") (a ∷ []) ∷ row (codes "SECOND") (b ∷ []) ∷ row (codes "THIRD") (c ∷ []) ∷ []) (codes "FOURTH") d) false 5 _ _ _ x rest (λ e. omega arith) (neither _ _ p).0 refl

four_3 : (name : Text) (a b c : Text) (words : List Text) → list_any begins_with_dash words ≡ false → Counts (shape (four_app name)) (between (held (row (codes "FIRST") (a ∷ []) ∷ row (codes "SECOND") (b ∷ []) ∷ []) (codes "THIRD") c) false 4) (length words ≡ 1) words
unfolding walk_fault defaults_fault
four_3 name a b c [] p = too_few (shape (four_app name)) (between (held (row (codes "FIRST") (a ∷ []) ∷ row (codes "SECOND") (b ∷ []) ∷ []) (codes "THIRD") c) false 4) _ _ _ (λ e. omega arith) refl
four_3 name a b c (d ∷ rest) p =
    one_word (shape (four_app name)) (held (row (codes "FIRST") (a ∷ []) ∷ row (codes "SECOND") (b ∷ []) ∷ []) (codes "THIRD") c) 4 (between (held (row (codes "FIRST") (a ∷ []) ∷ row (codes "SECOND") (b ∷ []) ∷ row (codes "THIRD") (c ∷ []) ∷ []) (codes "FOURTH") d) false 5) 0 d rest (neither _ _ p).0 refl refl (four_4 name a b c d rest (neither _ _ p).1)

four_2 : (name : Text) (a b : Text) (words : List Text) → list_any begins_with_dash words ≡ false → Counts (shape (four_app name)) (between (held (row (codes "FIRST") (a ∷ []) ∷ []) (codes "SECOND") b) false 3) (length words ≡ 2) words
unfolding walk_fault defaults_fault
four_2 name a b [] p = too_few (shape (four_app name)) (between (held (row (codes "FIRST") (a ∷ []) ∷ []) (codes "SECOND") b) false 3) _ _ _ (λ e. omega arith) refl
four_2 name a b (c ∷ rest) p =
    one_word (shape (four_app name)) (held (row (codes "FIRST") (a ∷ []) ∷ []) (codes "SECOND") b) 3 (between (held (row (codes "FIRST") (a ∷ []) ∷ row (codes "SECOND") (b ∷ []) ∷ []) (codes "THIRD") c) false 4) 1 c rest (neither _ _ p).0 refl refl (four_3 name a b c rest (neither _ _ p).1)

four_1 : (name : Text) (a : Text) (words : List Text) → list_any begins_with_dash words ≡ false → Counts (shape (four_app name)) (between (held ([]) (codes "FIRST") a) false 2) (length words ≡ 3) words
unfolding walk_fault defaults_fault
four_1 name a [] p = too_few (shape (four_app name)) (between (held ([]) (codes "FIRST") a) false 2) _ _ _ (λ e. omega arith) refl
four_1 name a (b ∷ rest) p =
    one_word (shape (four_app name)) (held ([]) (codes "FIRST") a) 2 (between (held (row (codes "FIRST") (a ∷ []) ∷ []) (codes "SECOND") b) false 3) 2 b rest (neither _ _ p).0 refl refl (four_2 name a b rest (neither _ _ p).1)

four_0 : (name : Text) (words : List Text) → list_any begins_with_dash words ≡ false → Counts (shape (four_app name)) (between nothing_held false 1) (length words ≡ 4) words
unfolding walk_fault defaults_fault
four_0 name [] p = too_few (shape (four_app name)) (between nothing_held false 1) _ _ _ (λ e. omega arith) refl
four_0 name (a ∷ rest) p =
    one_word (shape (four_app name)) nothing_held 1 (between (held ([]) (codes "FIRST") a) false 2) 3 a rest (neither _ _ p).0 refl refl (four_1 name a rest (neither _ _ p).1)

-- a source and paths: those before the last one are a row
abbrev paths_found : Text → List Text → Text → Held
paths_found a seen last = held (row (codes "SOURCE") (a ∷ []) ∷ row (codes "PATH") seen ∷ []) (codes "PATH") last

open_all : (name : Text) (a : Text) (seen : List Text) (last : Text) (words : List Text) → list_any begins_with_dash words ≡ false
    → faults_from (shape (open_app name)) (between (paths_found a seen last) true 2) words ≡ []
unfolding walk_fault defaults_fault
open_all name a seen last [] p = refl
open_all name a seen last (x ∷ rest) p =
    next_is (shape (open_app name)) (paths_found a seen last) true 2 (between (paths_found a (seen ++ last ∷ []) x) true 2) x rest (neither _ _ p).0 refl refl
    ∙ open_all name a (seen ++ last ∷ []) x rest (neither _ _ p).1

open_2 : (name : Text) (a b : Text) (words : List Text) → list_any begins_with_dash words ≡ false
    → faults_from (shape (open_app name)) (between (held (row (codes "SOURCE") (a ∷ []) ∷ []) (codes "PATH") b) true 2) words ≡ []
unfolding walk_fault defaults_fault
open_2 name a b [] p = refl
open_2 name a b (x ∷ rest) p =
    next_is (shape (open_app name)) (held (row (codes "SOURCE") (a ∷ []) ∷ []) (codes "PATH") b) true 2 (between (paths_found a (b ∷ []) x) true 2) x rest (neither _ _ p).0 refl refl
    ∙ open_all name a (b ∷ []) x rest (neither _ _ p).1

open_1 : (name : Text) (a : Text) (words : List Text) → list_any begins_with_dash words ≡ false → Counts (shape (open_app name)) (between (held [] (codes "SOURCE") a) false 2) (1 ≤ length words) words
unfolding walk_fault defaults_fault
open_1 name a [] p = too_few (shape (open_app name)) (between (held [] (codes "SOURCE") a) false 2) _ _ _ (λ e. omega arith) refl
open_1 name a (b ∷ rest) p =
    let is = next_is (shape (open_app name)) (held [] (codes "SOURCE") a) false 2 (between (held (row (codes "SOURCE") (a ∷ []) ∷ []) (codes "PATH") b) true 2) b rest (neither _ _ p).0 refl refl in
    record { fits = λ _. is ∙ open_2 name a b rest (neither _ _ p).1; only = λ _. omega arith }

open_0 : (name : Text) (words : List Text) → list_any begins_with_dash words ≡ false → Counts (shape (open_app name)) (between nothing_held false 1) (2 ≤ length words) words
unfolding walk_fault defaults_fault
open_0 name [] p = too_few (shape (open_app name)) (between nothing_held false 1) _ _ _ (λ e. omega arith) refl
open_0 name (a ∷ rest) p =
    let is = next_is (shape (open_app name)) nothing_held false 1 (between (held [] (codes "SOURCE") a) false 2) a rest (neither _ _ p).0 refl refl in
    let more = open_1 name a rest (neither _ _ p).1 in
    record { fits = λ l. is ∙ more.fits (omega arith); only = λ z. let l : 1 ≤ length rest = more.only (sym is ∙ z) in omega arith }

counted : (keyword : Keyword) (words : List Text) → list_any begins_with_dash words ≡ false → Counts (shape (app_of_keyword keyword)) (between nothing_held false 1) (Fits keyword (length words)) words
counted Assemble words p = four_0 (codes "assemble") words p
counted Open words p = open_0 (codes "open") words p
counted Record words p = single_0 (codes "record") words p
counted ListAll words p = single_0 (codes "list") words p
counted Publish words p = publish_0 (codes "publish") words p
counted Rehearse words p = none_0 (codes "rehearse") words p
counted Session words p = none_0 (codes "session") words p
counted Big words p = single_0 (codes "big") words p
counted Find words p = single_0 (codes "find") words p
counted OpenId words p = open_0 (codes "open-id") words p
counted PublishPsi words p = publish_0 (codes "publish-psi") words p
counted PublishOn words p = four_0 (codes "publish-on") words p
counted Mounts words p = open_0 (codes "mounts") words p
counted Watch words p = open_0 (codes "watch") words p
counted Plan words p = publish_0 (codes "plan") words p
counted Inspect words p = single_0 (codes "inspect") words p
counted Extract words p = two_0 (codes "extract") words p
counted Air words p = four_0 (codes "air") words p

-- no positional has a rule on another, and there are no options
pub is_free : (keyword : Keyword) → is_simple_and_free (app_of_keyword keyword) ≡ true
is_free Assemble = refl
is_free Open = refl
is_free Record = refl
is_free ListAll = refl
is_free Publish = refl
is_free Rehearse = refl
is_free Session = refl
is_free Big = refl
is_free Find = refl
is_free OpenId = refl
is_free PublishPsi = refl
is_free PublishOn = refl
is_free Mounts = refl
is_free Watch = refl
is_free Plan = refl
is_free Inspect = refl
is_free Extract = refl
is_free Air = refl

no_subcommand : (s : Shape) (words : List Text) (stop : Option (Text × List Text))
    → level_fault s [] nothing_held words (is_some (entered (record { top = s; subs = [] }) stop)) (entered_fault (record { top = s; subs = [] }) stop) ≡ faults_from s (between nothing_held false 1) words
no_subcommand s words None = refl
no_subcommand s words (Some p) = refl

faults_are : (keyword : Keyword) (first : Text) (words : List Text) → fault_of (app_of_keyword keyword) (first ∷ words) ≡ faults_from (shape (app_of_keyword keyword)) (between nothing_held false 1) words
faults_are Assemble first words = no_subcommand (shape (app_of_keyword Assemble)) words _
faults_are Open first words = no_subcommand (shape (app_of_keyword Open)) words _
faults_are Record first words = no_subcommand (shape (app_of_keyword Record)) words _
faults_are ListAll first words = no_subcommand (shape (app_of_keyword ListAll)) words _
faults_are Publish first words = no_subcommand (shape (app_of_keyword Publish)) words _
faults_are Rehearse first words = no_subcommand (shape (app_of_keyword Rehearse)) words _
faults_are Session first words = no_subcommand (shape (app_of_keyword Session)) words _
faults_are Big first words = no_subcommand (shape (app_of_keyword Big)) words _
faults_are Find first words = no_subcommand (shape (app_of_keyword Find)) words _
faults_are OpenId first words = no_subcommand (shape (app_of_keyword OpenId)) words _
faults_are PublishPsi first words = no_subcommand (shape (app_of_keyword PublishPsi)) words _
faults_are PublishOn first words = no_subcommand (shape (app_of_keyword PublishOn)) words _
faults_are Mounts first words = no_subcommand (shape (app_of_keyword Mounts)) words _
faults_are Watch first words = no_subcommand (shape (app_of_keyword Watch)) words _
faults_are Plan first words = no_subcommand (shape (app_of_keyword Plan)) words _
faults_are Inspect first words = no_subcommand (shape (app_of_keyword Inspect)) words _
faults_are Extract first words = no_subcommand (shape (app_of_keyword Extract)) words _
faults_are Air first words = no_subcommand (shape (app_of_keyword Air)) words _

behind : {A : Type 0} (f : A → Text) (w : A) (ws : List A) → length (w ∷ ws) - 1 ≡ length (map f ws)
behind f w ws = omega (arith, same_length f ws)

-- no fault where the number of words fits
pub fits_soundly : {A : Type 0} (keyword : Keyword) (a : App) (f : A → Text) (words : List A) → a ≡ app_of_keyword keyword → 0 < length words
    → list_any (λ w. begins_with_dash (f w)) words ≡ false → Fits keyword (length words - 1) → fault_of a (map f words) ≡ []
fits_soundly keyword a f [] e n p h = absurd (omega arith)
fits_soundly keyword a f (w ∷ ws) e n p h =
    let plain = any_map f ws ∙ (neither _ _ p).1 in
    ap (λ (app : App). fault_of app (f w ∷ map f ws)) e ∙ faults_are keyword (f w) (map f ws)
    ∙ (counted keyword (map f ws) plain).fits (subst (Fits keyword) (behind f w ws) h)

-- it fits where there is no fault
pub sound_fits : {A : Type 0} (keyword : Keyword) (a : App) (f : A → Text) (words : List A) → a ≡ app_of_keyword keyword → 0 < length words
    → list_any (λ w. begins_with_dash (f w)) words ≡ false → fault_of a (map f words) ≡ [] → Fits keyword (length words - 1)
sound_fits keyword a f [] e n p z = absurd (omega arith)
sound_fits keyword a f (w ∷ ws) e n p z =
    let plain = any_map f ws ∙ (neither _ _ p).1 in
    subst (Fits keyword) (sym (behind f w ws))
    ((counted keyword (map f ws) plain).only (sym (faults_are keyword (f w) (map f ws)) ∙ sym (ap (λ (app : App). fault_of app (f w ∷ map f ws)) e) ∙ z))

-- a fault of another kind than out of memory comes where the number doesn't fit
pub faulty_misfits : {A : Type 0} (keyword : Keyword) (a : App) (f : A → Text) (words : List A) (k : ErrorKind) → a ≡ app_of_keyword keyword → 0 < length words
    → list_any (λ w. begins_with_dash (f w)) words ≡ false → (k ≡ OutOfMemory → ⊥) → (k ≡ OutOfMemory) ⊎ IsAmong k (fault_of a (map f words)) → Fits keyword (length words - 1) → ⊥
faulty_misfits keyword a f words k e n p other (inl memory) h = other memory
faulty_misfits keyword a f words k e n p other (inr among) h = subst (IsAmong k) (fits_soundly keyword a f words e n p h) among
