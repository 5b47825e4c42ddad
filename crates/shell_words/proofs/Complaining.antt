-- There is nothing to complain of exactly where the words are those of a command.
use Rattle.std.proofs.Common.{◌≡◌, ℕ, ◌+◌, ◌-◌, ◌≤◌, ◌<◌, ◌⊎◌, inl, inr, Bool, cond, true, false, not, ◌&&◌, ◌||◌, nat_lt, nat_le, List, [], ◌∷◌, length, get_or, drop, map, Option, Some, None, Result, Ok, Err, is_some, is_ok, refl, sym, ap, ◌∙◌, arith, codes}
use Rattle.std.specs.List.{find, list_any, enumerate_from}
use Rattle.std.specs.Option.{option_map}
use Rattle.std.specs.Str.{bytes_eq}
use Rattle.std.proofs.lemmas.List.{drop_more, drop_all}
use Rattle.std.proofs.lemmas.Bool.{cond-true, cond-false, lt-ltb, le-ltb, le-leb, lt-leb, cases_lt, eqb-true}
use Rattle.oc_bytes.specs.Decimals.{decimal_in}
use Rattle.path_tree.specs.Paths.{Bytes, PathNames}
use Rattle.shell_words.specs.declared.keyword.Keyword.{Keyword}
use Rattle.shell_words.specs.declared.keyword.Keyword.TheVariants as keywords
use Rattle.shell_words.specs.declared.places.Slot.{Slot}
use Rattle.shell_words.specs.declared.places.Slot.TheVariants as slots
use Rattle.shell_words.specs.declared.places.Complaint.{Complaint}
use Rattle.shell_words.specs.declared.places.Complaint.TheVariants as complaints
use Rattle.shell_words.specs.Complaints.{FitsIsAccepted}
use Rattle.shell_words.specs.Inner.Keywords.{words_by, words_after}
use Rattle.shell_words.specs.Places.{keyword_table, keyword_of, slot_at, needed, suits, has_value, breaks, complaint_at, complaint_after, complaint_by, complaint_behind, first_breaking, asks_why, complaint_of, plain_complaint_of}
use Rattle.shell_words.specs.Values.{◌>>=◌, begins_with_dash, pid_in, any_u32_in, folder_in, path_in, onto, each_in, watched_in, Entry, table_in}
use Rattle.shell_words.proofs.Naming.{same_length, published_on, on_air}
use Rattle.shell_words.specs.Words as commands
use Rattle.shell_words.specs.Words.{Named, OpenSections, Open, OpenId, Publish, PublishPsi, Mounts, Watch, Plan, Why, Words, Misfit, command_named, or_misfit, plain_command_of, command_of}

-- ---- tests

off : (b : Bool) → (b && false) ≡ false
off true = refl
off false = refl

on : (b : Bool) → (b && true) ≡ b
on true = refl
on false = refl

not_not : (b : Bool) → not (not b) ≡ b
not_not true = refl
not_not false = refl

is_fits : Complaint → Bool
is_fits complaints.Fits = true
is_fits complaints.Unknown = false
is_fits (complaints.Misfit n slot) = false
is_fits (complaints.TooMany n) = false
is_fits (complaints.TooFew slot) = false

fits_of : (c : Complaint) → is_fits c ≡ true → c ≡ complaints.Fits
unfolding is_fits
fits_of complaints.Fits e = refl
fits_of complaints.Unknown e = absurd (cc)
fits_of (complaints.Misfit n slot) e = absurd (cc)
fits_of (complaints.TooMany n) e = absurd (cc)
fits_of (complaints.TooFew slot) e = absurd (cc)

-- ---- the keyword, and what its command's words say

-- a keyword's text, and the reader of the words behind it
abbrev Reader : Type 0
Reader = Bytes × (List Bytes → Option Named)

abbrev reader_of : Bytes × Keyword → Reader
reader_of k = (k.0, words_by k.1)

named_by : (word : Bytes) (words : List Bytes) (table : List (Bytes × Keyword))
    → (find (λ (c : Reader). bytes_eq word c.0) (map reader_of table) >>= λ (c : Reader). c.1 words)
    ≡ words_after words (option_map (λ (k : Bytes × Keyword). k.1) (find (λ (k : Bytes × Keyword). bytes_eq word k.0) table))
named_by word words [] = refl
named_by word words (k ∷ table) = here (bytes_eq word k.0) (named_by word words table)
  where
    here : (b : Bool)
        → (find (λ (c : Reader). bytes_eq word c.0) (map reader_of table) >>= λ (c : Reader). c.1 words)
        ≡ words_after words (option_map (λ (k : Bytes × Keyword). k.1) (find (λ (k : Bytes × Keyword). bytes_eq word k.0) table))
        → (cond b (Some (reader_of k)) (find (λ (c : Reader). bytes_eq word c.0) (map reader_of table)) >>= λ (c : Reader). c.1 words)
        ≡ words_after words (option_map (λ (k : Bytes × Keyword). k.1) (cond b (Some k) (find (λ (k : Bytes × Keyword). bytes_eq word k.0) table)))
    here true rest = refl
    here false rest = rest

pub named : (word : Bytes) (words : List Bytes) → command_named word words ≡ words_after words (keyword_of word)
named word words = named_by word words keyword_table

pub reads_as : (word : Bytes) (o : Option Keyword) → o ≡ keyword_of word → (words : List Bytes) → command_named word words ≡ words_after words o
reads_as word o is words = named word words ∙ ap (words_after words) (sym is)

-- no keyword begins with a dash
dash_names_none : (c : ℕ) (cs : Bytes) → c ≡ 45 → keyword_of (c ∷ cs) ≡ None
dash_names_none c cs e = ap (λ (d : ℕ). keyword_of (d ∷ cs)) e

no_dash : (word : Bytes) (k : Keyword) → keyword_of word ≡ Some k → begins_with_dash word ≡ false
no_dash [] k e = refl
no_dash (c ∷ cs) k e = by (begins_with_dash (c ∷ cs)) refl
  where
    by : (b : Bool) → begins_with_dash (c ∷ cs) ≡ b → b ≡ false
    by false q = refl
    by true q = absurd (let none = dash_names_none c cs (eqb-true c 45 q) in cc)

-- ---- each word fits

all_fit : Keyword → ℕ → List Bytes → Bool
all_fit k n [] = true
all_fit k n (w ∷ ws) = not (breaks k n w) && all_fit k (n + 1) ws

all_suit : Keyword → ℕ → List Bytes → Bool
all_suit k n [] = true
all_suit k n (w ∷ ws) = suits (slot_at k n) w && all_suit k (n + 1) ws

is_found : Option (ℕ × Bytes) → Bool
is_found (Some found) = true
is_found None = false

none_breaks : (k : Keyword) (n : ℕ) (ws : List Bytes) → not (is_found (find (λ p. breaks k p.0 p.1) (enumerate_from n ws))) ≡ all_fit k n ws
unfolding all_fit is_found
none_breaks k n [] = refl
none_breaks k n (w ∷ ws) = here (breaks k n w) (find (λ p. breaks k p.0 p.1) (enumerate_from (n + 1) ws)) ∙ ap (λ b. not (breaks k n w) && b) (none_breaks k (n + 1) ws)
  where
    here : (b : Bool) (rest : Option (ℕ × Bytes)) → not (is_found (cond b (Some (n, w)) rest)) ≡ (not b && not (is_found rest))
    here true rest = refl
    here false rest = refl

at_fits : (i : ℕ) (slot : Option Slot) → is_fits (complaint_at i slot) ≡ false
unfolding is_fits
at_fits i (Some slot) = refl
at_fits i None = refl

after_fits : (k : Keyword) (count : ℕ) → is_fits (complaint_after k count) ≡ not (nat_lt count (needed k))
unfolding is_fits
after_fits k count = here (nat_lt count (needed k)) _
  where
    here : (b : Bool) (slot : Slot) → is_fits (cond b (complaints.TooFew slot) complaints.Fits) ≡ not b
    here true slot = refl
    here false slot = refl

by_fits : (k : Keyword) (count : ℕ) (found : Option (ℕ × Bytes)) → is_fits (complaint_by k count found) ≡ (not (is_found found) && not (nat_lt count (needed k)))
unfolding is_found
by_fits k count (Some found) = at_fits found.0 (slot_at k found.0)
by_fits k count None = after_fits k count

dashes_apart : (d s e r : Bool) → (not (d || not s) && (not e && r)) ≡ (not (d || e) && (s && r))
dashes_apart true s e r = refl
dashes_apart false true e r = refl
dashes_apart false false true r = refl
dashes_apart false false false r = refl

fit_and_suit : (k : Keyword) (n : ℕ) (ws : List Bytes) → all_fit k n ws ≡ (not (list_any begins_with_dash ws) && all_suit k n ws)
unfolding all_fit all_suit
fit_and_suit k n [] = refl
fit_and_suit k n (w ∷ ws) =
    ap (λ b. not (breaks k n w) && b) (fit_and_suit k (n + 1) ws)
    ∙ dashes_apart (begins_with_dash w) (suits (slot_at k n) w) (list_any begins_with_dash ws) (all_suit k (n + 1) ws)

-- ---- as many words as slots, and each has a value

short : (a e : Bool) → e ≡ false → (a && e) ≡ false
short a e h = ap (λ b. a && b) h ∙ off a

long_1 : (a e : Bool) → ((a && false) && e) ≡ false
long_1 true e = refl
long_1 false e = refl

long_2 : (a b e : Bool) → ((a && (b && false)) && e) ≡ false
long_2 true b e = long_1 b e
long_2 false b e = refl

long_3 : (a b c e : Bool) → ((a && (b && (c && false))) && e) ≡ false
long_3 true b c e = long_2 b c e
long_3 false b c e = refl

long_4 : (a b c d e : Bool) → ((a && (b && (c && (d && false)))) && e) ≡ false
long_4 true b c d e = long_3 b c d e
long_4 false b c d e = refl

one_value : {A : Type 0} (named : A → Named) (o : Option A) → ((is_some o && true) && true) ≡ is_some (option_map named o)
one_value named (Some x) = refl
one_value named None = refl

two_values : {A B : Type 0} (named : A → B → Named) (o : Option A) (p : Option B) → ((is_some o && (is_some p && true)) && true) ≡ is_some (o >>= λ x. p >>= λ y. Some (named x y))
two_values named (Some x) (Some y) = refl
two_values named (Some x) None = refl
two_values named None p = refl

four_values : (named : ℕ → ℕ → ℕ → ℕ → Named) (i v s d : Option ℕ)
    → ((is_some i && (is_some v && (is_some s && (is_some d && true)))) && true) ≡ is_some (i >>= λ a. v >>= λ b. s >>= λ c. d >>= λ e. Some (named a b c e))
four_values named None v s d = refl
four_values named (Some a) None s d = refl
four_values named (Some a) (Some b) None d = refl
four_values named (Some a) (Some b) (Some c) None = refl
four_values named (Some a) (Some b) (Some c) (Some e) = refl

publication : (named : Bytes × ℕ × ℕ → Named) (f : Option Bytes) (c n : Option ℕ)
    → ((is_some f && (is_some c && (is_some n && true))) && true) ≡ is_some (option_map named (c >>= λ x. n >>= λ y. f >>= λ z. Some (z, x, y)))
publication named None None n = refl
publication named None (Some x) None = refl
publication named None (Some x) (Some y) = refl
publication named (Some z) None n = refl
publication named (Some z) (Some x) None = refl
publication named (Some z) (Some x) (Some y) = refl

publication_on : (named : ℕ → Bytes × ℕ × ℕ → Named) (q : Option ℕ) (f : Option Bytes) (c n : Option ℕ)
    → ((is_some q && (is_some f && (is_some c && (is_some n && true)))) && true) ≡ is_some (q >>= λ p. option_map (named p) (c >>= λ x. n >>= λ y. f >>= λ z. Some (z, x, y)))
publication_on named None f c n = refl
publication_on named (Some p) f c n = publication (named p) f c n

-- nothing is sent on a PID alone
nothing : (named : ℕ → Bytes × ℕ × ℕ → Named) (o : Option ℕ) → false ≡ is_some (o >>= λ q. option_map (named q) None)
nothing named None = refl
nothing named (Some q) = refl

-- ---- paths behind a first word

is_some_onto : {A : Type 0} (x : Option A) (xs : Option (List A)) → is_some (onto x xs) ≡ (is_some x && is_some xs)
is_some_onto (Some x) (Some xs) = refl
is_some_onto (Some x) None = refl
is_some_onto None xs = refl

any_paths : (k : Keyword) → ((i : ℕ) → 1 ≤ i → slot_at k i ≡ Some slots.Path) → (n : ℕ) → 1 ≤ n → (ws : List Bytes) → all_suit k n ws ≡ is_some (each_in path_in ws)
unfolding all_suit
any_paths k all n h [] = refl
any_paths k all n h (w ∷ ws) =
    ap (λ (s : Option Slot). suits s w && all_suit k (n + 1) ws) (all n h)
    ∙ ap (λ b. is_some (path_in w) && b) (any_paths k all (n + 1) (omega arith) ws)
    ∙ sym (is_some_onto (path_in w) (each_in path_in ws))

open_paths : (i : ℕ) → 1 ≤ i → slot_at keywords.Open i ≡ Some slots.Path
open_paths i h = cond-false _ _ _ (le-ltb i 1 h)

open_id_paths : (i : ℕ) → 1 ≤ i → slot_at keywords.OpenId i ≡ Some slots.Path
open_id_paths i h = cond-false _ _ _ (le-ltb i 1 h)

mounts_paths : (i : ℕ) → 1 ≤ i → slot_at keywords.Mounts i ≡ Some slots.Path
mounts_paths i h = cond-false _ _ _ (le-ltb i 1 h)

-- up to a limit
watch_path : (i : ℕ) → 1 ≤ i → i - 1 < 1024 → slot_at keywords.Watch i ≡ Some slots.Path
watch_path i h l = cond-false _ _ _ (le-ltb i 1 h) ∙ cond-true _ _ _ (lt-ltb (i - 1) 1024 l)

watch_end : (i : ℕ) → 1 ≤ i → 1024 ≤ i - 1 → slot_at keywords.Watch i ≡ None
watch_end i h l = cond-false _ _ _ (le-ltb i 1 h) ∙ cond-false _ _ _ (le-ltb (i - 1) 1024 l)

few : (a b : ℕ) → a ≡ b → nat_le a 1024 ≡ nat_le b 1024
few a b e = ap (λ m. nat_le m 1024) e

watched_paths : (n : ℕ) → 1 ≤ n → n - 1 ≤ 1024 → (ws : List Bytes) → all_suit keywords.Watch n ws ≡ (is_some (each_in path_in ws) && nat_le (length ws + (n - 1)) 1024)
unfolding all_suit
watched_paths n h l [] = sym (le-leb (length {A = Bytes} [] + (n - 1)) 1024 (omega arith))
watched_paths n h l (w ∷ ws) = by (cases_lt (n - 1) 1024) (λ m. watched_paths (n + 1) (omega arith) m ws)
  where
    by : ((n - 1 < 1024) ⊎ (1024 ≤ n - 1)) → (((n + 1) - 1 ≤ 1024) → all_suit keywords.Watch (n + 1) ws ≡ (is_some (each_in path_in ws) && nat_le (length ws + ((n + 1) - 1)) 1024))
        → (suits (slot_at keywords.Watch n) w && all_suit keywords.Watch (n + 1) ws) ≡ (is_some (onto (path_in w) (each_in path_in ws)) && nat_le (length (w ∷ ws) + (n - 1)) 1024)
    by (inl m) rest =
        ap (λ (s : Option Slot). suits s w && all_suit keywords.Watch (n + 1) ws) (watch_path n h m)
        ∙ ap (λ b. is_some (path_in w) && b) (rest (omega arith))
        ∙ regroup (is_some (path_in w)) (is_some (each_in path_in ws)) _ _ (few (length ws + ((n + 1) - 1)) (length (w ∷ ws) + (n - 1)) (omega arith))
        ∙ ap (λ b. b && nat_le (length (w ∷ ws) + (n - 1)) 1024) (sym (is_some_onto (path_in w) (each_in path_in ws)))
      where
        regroup : (a b c d : Bool) → c ≡ d → (a && (b && c)) ≡ ((a && b) && d)
        regroup true b c d e = ap (λ x. b && x) e
        regroup false b c d e = refl
    by (inr m) rest =
        ap (λ (s : Option Slot). suits s w && all_suit keywords.Watch (n + 1) ws) (watch_end n h m)
        ∙ sym (short _ _ (lt-leb (length (w ∷ ws) + (n - 1)) 1024 (omega arith)))

one_more : (a : Bytes) (b : Bytes) (ws : List Bytes) → nat_lt (length (a ∷ b ∷ ws)) 2 ≡ false
one_more a b ws = le-ltb (length (a ∷ b ∷ ws)) 2 (omega arith)

enough : (x e : Bool) → e ≡ false → (x && not e) ≡ x
enough x e h = ap (λ b. x && not b) h ∙ on x

is_some_map : {A : Type 0} (named : A → Named) (o : Option A) → is_some (option_map named o) ≡ is_some o
is_some_map named (Some x) = refl
is_some_map named None = refl

source_and_paths : (b : Bool) (pid : Option ℕ) (paths : Option (List PathNames))
    → ((b || is_some pid) && is_some paths) ≡ is_some (cond b (option_map OpenSections paths) (pid >>= λ p. option_map (Open p) paths))
source_and_paths true pid paths = sym (is_some_map OpenSections paths)
source_and_paths false None paths = refl
source_and_paths false (Some p) paths = sym (is_some_map (Open p) paths)

first_and_paths : {A B : Type 0} (named : A → B → Named) (first : Option A) (paths : Option B) → (is_some first && is_some paths) ≡ is_some (first >>= λ x. option_map (named x) paths)
first_and_paths named None paths = refl
first_and_paths named (Some x) paths = sym (is_some_map (named x) paths)

if_few : {A : Type 0} (b : Bool) (o : Option A) → (is_some o && b) ≡ is_some (cond b o None)
if_few true o = on (is_some o)
if_few false o = off (is_some o)

watched : (ws : List Bytes) (a : ℕ) → a ≡ length ws → (o : Option (List PathNames)) → (is_some o && nat_le a 1024) ≡ is_some (cond (nat_le (length ws) 1024) o None)
watched ws a e o = ap (λ m. is_some o && nat_le m 1024) e ∙ if_few (nat_le (length ws) 1024) o

-- ---- each command

abbrev is_enough : Keyword → List Bytes → Bool
is_enough k ws = not (nat_lt (length ws) (needed k))

values : (k : Keyword) (ws : List Bytes) → (all_suit k 0 ws && not (nat_lt (length ws) (needed k))) ≡ is_some (words_by k ws)
unfolding all_suit
values keywords.Assemble [] = refl
values keywords.Assemble (a ∷ []) = off _
values keywords.Assemble (a ∷ b ∷ []) = off _
values keywords.Assemble (a ∷ b ∷ c ∷ []) = off _
values keywords.Assemble (a ∷ b ∷ c ∷ d ∷ []) = four_values commands.Assemble (decimal_in 0 65535 a) (decimal_in 0 255 b) (decimal_in 0 16842752 c) (any_u32_in d)
values keywords.Assemble (a ∷ b ∷ c ∷ d ∷ e ∷ ws) = long_4 (has_value slots.Id a) (has_value slots.Version b) (has_value slots.Size c) (has_value slots.Download d) (is_enough keywords.Assemble (a ∷ b ∷ c ∷ d ∷ e ∷ ws))
values keywords.Open [] = refl
values keywords.Open (a ∷ []) = off _ ∙ sym (no_paths (bytes_eq a (codes "sections")) (pid_in a))
  where
    no_paths : (b : Bool) (o : Option ℕ) → is_some (cond b None (o >>= λ pid. option_map (Open pid) None)) ≡ false
    no_paths true o = refl
    no_paths false None = refl
    no_paths false (Some pid) = refl
values keywords.Open (a ∷ b ∷ ws) =
    enough _ _ (one_more a b ws) ∙ ap (λ x. suits (Some slots.Source) a && x) (any_paths keywords.Open open_paths 1 (omega arith) (b ∷ ws))
    ∙ source_and_paths (bytes_eq a (codes "sections")) (pid_in a) (each_in path_in (b ∷ ws))
values keywords.Record [] = refl
values keywords.Record (a ∷ []) = one_value commands.Record (pid_in a)
values keywords.Record (a ∷ b ∷ ws) = long_1 (has_value slots.Pid a) (is_enough keywords.Record (a ∷ b ∷ ws))
values keywords.List [] = refl
values keywords.List (a ∷ []) = one_value commands.ListAll (pid_in a)
values keywords.List (a ∷ b ∷ ws) = long_1 (has_value slots.Pid a) (is_enough keywords.List (a ∷ b ∷ ws))
values keywords.Publish [] = refl
values keywords.Publish (a ∷ []) = off _
values keywords.Publish (a ∷ b ∷ []) = off _
values keywords.Publish (a ∷ b ∷ c ∷ []) = publication (λ p. Publish p.0 p.1 p.2) (folder_in a) (any_u32_in b) (decimal_in 1 1000 c)
values keywords.Publish (a ∷ b ∷ c ∷ d ∷ ws) = long_3 (has_value slots.Folder a) (has_value slots.Carousel b) (has_value slots.Cycles c) (is_enough keywords.Publish (a ∷ b ∷ c ∷ d ∷ ws))
values keywords.Rehearse [] = refl
values keywords.Rehearse (a ∷ ws) = refl
values keywords.Session [] = refl
values keywords.Session (a ∷ ws) = refl
values keywords.Big [] = refl
values keywords.Big (a ∷ []) = one_value commands.Big (decimal_in 1 16 a)
values keywords.Big (a ∷ b ∷ ws) = long_1 (has_value slots.Editors a) (is_enough keywords.Big (a ∷ b ∷ ws))
values keywords.Find [] = refl
values keywords.Find (a ∷ []) = one_value commands.Find (any_u32_in a)
values keywords.Find (a ∷ b ∷ ws) = long_1 (has_value slots.Carousel a) (is_enough keywords.Find (a ∷ b ∷ ws))
values keywords.OpenId [] = refl
values keywords.OpenId (a ∷ []) = off _ ∙ sym (off (is_some (any_u32_in a))) ∙ first_and_paths OpenId (any_u32_in a) None
values keywords.OpenId (a ∷ b ∷ ws) =
    enough _ _ (one_more a b ws) ∙ ap (λ x. suits (Some slots.Carousel) a && x) (any_paths keywords.OpenId open_id_paths 1 (omega arith) (b ∷ ws))
    ∙ first_and_paths OpenId (any_u32_in a) (each_in path_in (b ∷ ws))
values keywords.PublishPsi [] = refl
values keywords.PublishPsi (a ∷ []) = off _
values keywords.PublishPsi (a ∷ b ∷ []) = off _
values keywords.PublishPsi (a ∷ b ∷ c ∷ []) = publication (λ p. PublishPsi p.0 p.1 p.2) (folder_in a) (any_u32_in b) (decimal_in 1 1000 c)
values keywords.PublishPsi (a ∷ b ∷ c ∷ d ∷ ws) = long_3 (has_value slots.Folder a) (has_value slots.Carousel b) (has_value slots.Cycles c) (is_enough keywords.PublishPsi (a ∷ b ∷ c ∷ d ∷ ws))
values keywords.PublishOn [] = refl
values keywords.PublishOn (a ∷ []) = off _ ∙ nothing published_on (pid_in a)
values keywords.PublishOn (a ∷ b ∷ []) = off _ ∙ nothing published_on (pid_in a)
values keywords.PublishOn (a ∷ b ∷ c ∷ []) = off _ ∙ nothing published_on (pid_in a)
values keywords.PublishOn (a ∷ b ∷ c ∷ d ∷ []) = publication_on published_on (pid_in a) (folder_in b) (any_u32_in c) (decimal_in 1 1000 d)
values keywords.PublishOn (a ∷ b ∷ c ∷ d ∷ e ∷ ws) =
    long_4 (has_value slots.Pid a) (has_value slots.Folder b) (has_value slots.Carousel c) (has_value slots.Cycles d) (is_enough keywords.PublishOn (a ∷ b ∷ c ∷ d ∷ e ∷ ws)) ∙ nothing published_on (pid_in a)
values keywords.Mounts [] = refl
values keywords.Mounts (a ∷ []) = off _ ∙ first_and_paths_none (table_in a)
  where
    first_and_paths_none : (o : Option (List Entry)) → false ≡ is_some (o >>= λ t. option_map (Mounts t) None)
    first_and_paths_none None = refl
    first_and_paths_none (Some t) = refl
values keywords.Mounts (a ∷ b ∷ ws) =
    enough _ _ (one_more a b ws) ∙ ap (λ x. suits (Some slots.Table) a && x) (any_paths keywords.Mounts mounts_paths 1 (omega arith) (b ∷ ws))
    ∙ first_and_paths Mounts (table_in a) (each_in path_in (b ∷ ws))
values keywords.Watch [] = refl
values keywords.Watch (a ∷ []) = off _ ∙ nothing (pid_in a)
  where
    nothing : (o : Option ℕ) → false ≡ is_some (o >>= λ q. option_map (Watch q) None)
    nothing None = refl
    nothing (Some q) = refl
values keywords.Watch (a ∷ b ∷ ws) =
    enough _ _ (one_more a b ws) ∙ ap (λ x. suits (Some slots.Pid) a && x) (watched_paths 1 (omega arith) (omega arith) (b ∷ ws))
    ∙ ap (λ x. is_some (pid_in a) && x) (watched (b ∷ ws) (length (b ∷ ws) + (1 - 1)) (omega arith) (each_in path_in (b ∷ ws)))
    ∙ first_and_paths Watch (pid_in a) (watched_in (b ∷ ws))
values keywords.Plan [] = refl
values keywords.Plan (a ∷ []) = off _
values keywords.Plan (a ∷ b ∷ []) = off _
values keywords.Plan (a ∷ b ∷ c ∷ []) = publication (λ p. Plan p.0 p.1 p.2) (folder_in a) (any_u32_in b) (decimal_in 1 4294967295 c)
values keywords.Plan (a ∷ b ∷ c ∷ d ∷ ws) = long_3 (has_value slots.Folder a) (has_value slots.Carousel b) (has_value slots.Bitrate c) (is_enough keywords.Plan (a ∷ b ∷ c ∷ d ∷ ws))
values keywords.Inspect [] = refl
values keywords.Inspect (a ∷ []) = one_value commands.Inspect (pid_in a)
values keywords.Inspect (a ∷ b ∷ ws) = long_1 (has_value slots.Pid a) (is_enough keywords.Inspect (a ∷ b ∷ ws))
values keywords.Extract [] = refl
values keywords.Extract (a ∷ []) = off _
values keywords.Extract (a ∷ b ∷ []) = two_values commands.Extract (pid_in a) (folder_in b)
values keywords.Extract (a ∷ b ∷ c ∷ ws) = long_2 (has_value slots.Pid a) (has_value slots.Folder b) (is_enough keywords.Extract (a ∷ b ∷ c ∷ ws))
values keywords.Air [] = refl
values keywords.Air (a ∷ []) = off _ ∙ nothing on_air (pid_in a)
values keywords.Air (a ∷ b ∷ []) = off _ ∙ nothing on_air (pid_in a)
values keywords.Air (a ∷ b ∷ c ∷ []) = off _ ∙ nothing on_air (pid_in a)
values keywords.Air (a ∷ b ∷ c ∷ d ∷ []) = publication_on on_air (pid_in a) (folder_in b) (any_u32_in c) (decimal_in 1 4294967295 d)
values keywords.Air (a ∷ b ∷ c ∷ d ∷ e ∷ ws) =
    long_4 (has_value slots.Pid a) (has_value slots.Folder b) (has_value slots.Carousel c) (has_value slots.AirCycles d) (is_enough keywords.Air (a ∷ b ∷ c ∷ d ∷ e ∷ ws)) ∙ nothing on_air (pid_in a)

-- ---- the words of a command line

is_ok_misfit : {A : Type 0} (o : Option A) → is_ok (or_misfit o) ≡ is_some o
is_ok_misfit (Some x) = refl
is_ok_misfit None = refl

no_command : (b : Bool) (o : Option Named) → o ≡ None → is_ok (cond b (Err Words) (or_misfit o)) ≡ false
no_command true o e = refl
no_command false o e = ap (λ (p : Option Named). is_ok (or_misfit p)) e

named_fits : (k : Keyword) (ws : List Bytes) → is_fits (complaint_behind (Some k) ws) ≡ (not (list_any begins_with_dash ws) && is_some (words_by k ws))
named_fits k ws =
    by_fits k (length ws) (first_breaking k ws)
    ∙ ap (λ b. b && not (nat_lt (length ws) (needed k))) (none_breaks k 0 ws ∙ fit_and_suit k 0 ws)
    ∙ joined (not (list_any begins_with_dash ws)) (all_suit k 0 ws) _ _ (values k ws)
  where
    joined : (a b c d : Bool) → (b && c) ≡ d → ((a && b) && c) ≡ (a && d)
    joined true b c d e = e
    joined false b c d e = refl

behind_fits : (w : Bytes) (ws : List Bytes) (o : Option Keyword) → keyword_of w ≡ o → is_fits (complaint_behind o ws) ≡ is_ok (plain_command_of (w ∷ ws))
unfolding is_fits
behind_fits w ws None e = sym (no_command (list_any begins_with_dash (w ∷ ws)) (command_named w ws) (named w ws ∙ ap (words_after ws) e))
behind_fits w ws (Some k) e =
    named_fits k ws
    ∙ sym (ap (λ b. is_ok (cond (b || list_any begins_with_dash ws) (Err Words) (or_misfit (command_named w ws)))) (no_dash w k e)
    ∙ ap (λ (o : Option Named). is_ok (cond (list_any begins_with_dash ws) (Err Words) (or_misfit o))) (named w ws ∙ ap (words_after ws) e)
    ∙ accepted (list_any begins_with_dash ws) (words_by k ws))
  where
    accepted : (b : Bool) (o : Option Named) → is_ok (cond b (Err Words) (or_misfit o)) ≡ (not b && is_some o)
    accepted true o = refl
    accepted false o = is_ok_misfit o

plain_fits : (ws : List Bytes) → is_fits (plain_complaint_of ws) ≡ is_ok (plain_command_of ws)
unfolding is_fits
plain_fits [] = refl
plain_fits (w ∷ ws) = behind_fits w ws (keyword_of w) refl

same_test : (ws : List Bytes) → is_fits (complaint_of ws) ≡ is_ok (command_of ws)
unfolding is_fits
same_test ws = here (asks_why ws) _ _ _ (plain_fits ws)
  where
    here : (b : Bool) (c : Complaint) (r : Result Named Misfit) (why : Named) → is_fits c ≡ is_ok r → is_fits (cond b complaints.Fits c) ≡ is_ok (cond b (Ok why) r)
    here true c r why e = refl
    here false c r why e = e

pub fits_is_accepted : (ws : List Bytes) → FitsIsAccepted ws
unfolding is_fits
fits_is_accepted ws = (λ e. sym (same_test ws) ∙ ap is_fits e, λ e. fits_of (complaint_of ws) (same_test ws ∙ e))

-- ---- what the code meets

-- the words from one of them on, where those before it fit
abbrev pub breaking_from : Keyword → ℕ → List Bytes → Option (ℕ × Bytes)
breaking_from k n ws = find (λ p. breaks k p.0 p.1) (enumerate_from n ws)

module _ {A : Type 0} (k : Keyword) (f : A → Bytes) (words : List A) (n : ℕ) (so_far : first_breaking k (map f words) ≡ breaking_from k n (map f (drop n words))) where
  next_is : (d : A) (w : Bytes) → n < length words → w ≡ f (get_or words n d)
      → first_breaking k (map f words) ≡ cond (breaks k n w) (Some (n, w)) (breaking_from k (n + 1) (map f (drop (n + 1) words)))
  next_is d w h at =
      so_far ∙ ap (λ (ws : List A). breaking_from k n (map f ws)) (drop_more words n d h)
      ∙ ap (λ (v : Bytes). cond (breaks k n v) (Some (n, v)) (breaking_from k (n + 1) (map f (drop (n + 1) words)))) (sym at)

  pub this_breaks : (d : A) (w : Bytes) → n < length words → w ≡ f (get_or words n d) → breaks k n w ≡ true → first_breaking k (map f words) ≡ Some (n, w)
  this_breaks d w h at b = next_is d w h at ∙ cond-true _ _ _ b

  pub this_fits : (d : A) (w : Bytes) → n < length words → w ≡ f (get_or words n d) → breaks k n w ≡ false
      → first_breaking k (map f words) ≡ breaking_from k (n + 1) (map f (drop (n + 1) words))
  this_fits d w h at b = next_is d w h at ∙ cond-false _ _ _ b

  pub none_left : length words ≤ n → first_breaking k (map f words) ≡ None
  none_left h = so_far ∙ ap (λ (ws : List A). breaking_from k n (map f ws)) (drop_all n words h)

-- `why`, and the words behind it
pub why_of : {A : Type 0} (f : A → Bytes) (words : List A) (c : Complaint) → asks_why (map f words) ≡ true → c ≡ complaint_of (map f (drop 1 words)) → command_of (map f words) ≡ Ok (Why c)
why_of f [] c h e = absurd (cc)
why_of f (w ∷ ws) c h e = cond-true _ _ _ h ∙ ap (λ (x : Complaint). Ok (Why x)) (sym e)

pub plain_of : (words : List Bytes) → asks_why words ≡ false → command_of words ≡ plain_command_of words
plain_of words h = cond-false _ _ _ h

complaint_plain : {A : Type 0} (f : A → Bytes) (words : List A) (d : A) (name : Bytes) → asks_why (map f words) ≡ false → 0 < length words → name ≡ f (get_or words 0 d)
    → complaint_of (map f words) ≡ complaint_behind (keyword_of name) (map f (drop 1 words))
complaint_plain f [] d name h n e = absurd (omega arith)
complaint_plain f (w ∷ ws) d name h n e = cond-false _ _ _ h ∙ ap (λ (x : Bytes). complaint_behind (keyword_of x) (map f ws)) (sym e)

-- a first word that isn't `why`, with what it was read as
module _ {A : Type 0} (f : A → Bytes) (words : List A) (d : A) (name : Bytes) (o : Option Keyword)
    (plain : asks_why (map f words) ≡ false) (some : 0 < length words) (is : name ≡ f (get_or words 0 d)) (read : o ≡ keyword_of name) where
  pub complaint_keyword : (k : Keyword) → o ≡ Some k
      → complaint_by k (length (drop 1 words)) (first_breaking k (map f (drop 1 words))) ≡ complaint_of (map f words)
  complaint_keyword k e =
      ap (λ (n : ℕ). complaint_by k n (first_breaking k (map f (drop 1 words)))) (same_length f (drop 1 words))
      ∙ ap (λ (p : Option Keyword). complaint_behind p (map f (drop 1 words))) (sym e ∙ read)
      ∙ sym (complaint_plain f words d name plain some is)

  pub complaint_unknown : o ≡ None → complaints.Unknown ≡ complaint_of (map f words)
  complaint_unknown e = ap (λ (p : Option Keyword). complaint_behind p (map f (drop 1 words))) (sym e ∙ read) ∙ sym (complaint_plain f words d name plain some is)

pub complaint_none : {A : Type 0} (f : A → Bytes) (words : List A) → length words ≡ 0 → complaint_of (map f words) ≡ complaints.TooFew slots.Command
complaint_none f [] h = refl
complaint_none f (w ∷ ws) h = absurd (omega arith)
