-- Words as a name and what stands after it.
use Rattle.std.proofs.Common.{◌≡◌, ℕ, Bool, cond, subst, ◌-◌, ◌+◌, ◌<◌, ◌≤◌, true, false, ◌||◌, nat_le, List, [], ◌∷◌, ◌++◌, length, get_or, drop, map, Result, Ok, Err, Option, Some, None, IfOk, IfSome, refl, arith, ◌∙◌, sym, ap, append_assoc, append-nil, codes}
use Rattle.std.specs.List.{list_any}
use Rattle.std.specs.Str.{bytes_eq}
use Rattle.std.proofs.lemmas.Bool.{cond-true, cond-false, le-leb, lt-leb}
use Rattle.std.proofs.lemmas.Option.{same_Some}
use Rattle.std.proofs.lemmas.List.{drop_more, drop_all}
use Rattle.std.specs.Option.{option_map}
use Rattle.oc_bytes.specs.Outcome.{Gives}
use Rattle.path_tree.specs.Paths.{PathNames}
use Rattle.shell_words.specs.declared.words.WordsFault.{WordsFault}
use Rattle.shell_words.specs.declared.words.WordsFault.TheVariants as faults
use Rattle.shell_words.specs.declared.keyword.Keyword.{Keyword}
use Rattle.shell_words.specs.declared.keyword.Keyword.TheVariants as keywords
use Rattle.shell_words.specs.Inner.Keywords.{words_by}
use Rattle.shell_words.specs.Inner.Counting.{Fits}
use Rattle.shell_words.specs.Values.{◌>>=◌, pid_in, any_u32_in, path_in, onto, each_in, paths_in, watched_in, table_in}
use Rattle.shell_words.specs.Words.{Named, Open, OpenId, PublishOn, Mounts, Watch, Air, Words, begins_with_dash, or_misfit, command_named, plain_command_of, view, cause}

pub same_length : {A : Type 0} (f : A → List ℕ) (words : List A) → length words ≡ length (map f words)
same_length f [] = refl
same_length f (w ∷ ws) = omega (arith, same_length f ws)

pub any_map : {A : Type 0} (f : A → List ℕ) (words : List A) → list_any begins_with_dash (map f words) ≡ list_any (λ w. begins_with_dash (f w)) words
any_map f [] = refl
any_map f (w ∷ ws) = ap (λ b. begins_with_dash (f w) || b) (any_map f ws)

pub command_of-none : {A : Type 0} (f : A → List ℕ) (words : List A) → length words ≡ 0 → plain_command_of (map f words) ≡ Err Words
command_of-none f [] h = refl
command_of-none f (w ∷ ws) h = absurd (omega arith)

pub command_of-dash : {A : Type 0} (f : A → List ℕ) (words : List A) → list_any (λ w. begins_with_dash (f w)) words ≡ true → plain_command_of (map f words) ≡ Err Words
command_of-dash f [] h = refl
command_of-dash f (w ∷ ws) h = cond-true _ _ _ (any_map f (w ∷ ws) ∙ h)

pub command_of-named : {A : Type 0} (f : A → List ℕ) (words : List A) (d : A) (name : List ℕ) → 0 < length words → list_any (λ w. begins_with_dash (f w)) words ≡ false → name ≡ f (get_or words 0 d)
    → plain_command_of (map f words) ≡ or_misfit (command_named name (map f (drop 1 words)))
command_of-named f [] d name n h e = absurd (omega arith)
command_of-named f (w ∷ ws) d name n h e = cond-false _ _ _ (any_map f (w ∷ ws) ∙ h) ∙ ap (λ m. or_misfit (command_named m (map f ws))) (sym e)

paths_in_each : {A : Type 0} (f : A → List ℕ) (words : List A) → 0 < length words → paths_in (map f words) ≡ each_in path_in (map f words)
paths_in_each f [] n = absurd (omega arith)
paths_in_each f (w ∷ ws) n = refl

-- ---- what several words stand for, one after another

-- values in front of those of other words
abbrev pub prepended : {A : Type 0} → List A → Option (List A) → Option (List A)
prepended xs o = option_map (λ more. xs ++ more) o

pub each_begins : {A : Type 0} (o : Option (List A)) → o ≡ prepended [] o
each_begins (Some xs) = refl
each_begins None = refl

value_read : {A : Type 0} (o : Option A) (x : A) → or_misfit o ≡ Ok x → o ≡ Some x
value_read (Some y) x e = cc
value_read None x e = cc

value_unread : {A : Type 0} (o : Option A) → or_misfit o ≡ Err Words → o ≡ None
value_unread (Some y) e = cc
value_unread None e = refl

prepended_one : {A : Type 0} (xs : List A) (x : A) (o : Option (List A)) → prepended xs (onto (Some x) o) ≡ prepended (xs ++ x ∷ []) o
prepended_one xs x (Some more) = ap Some (sym (append_assoc xs (x ∷ []) more))
prepended_one xs x None = refl

-- the words from one of them on, after what the words before it stand for
module _ {A B : Type 0} (value_in : List ℕ → Option B) (f : A → List ℕ) (words : List A) (i : ℕ) (o : Option (List B)) (xs : List B)
    (so_far : o ≡ prepended xs (each_in value_in (map f (drop i words)))) where
  next_is : (d : A) (word : List ℕ) → i < length words → word ≡ f (get_or words i d) → o ≡ prepended xs (onto (value_in word) (each_in value_in (map f (drop (i + 1) words))))
  next_is d word h at =
      so_far ∙ ap (λ ws. prepended xs (each_in value_in (map f ws))) (drop_more words i d h)
      ∙ ap (λ w. prepended xs (onto (value_in w) (each_in value_in (map f (drop (i + 1) words))))) (sym at)

  -- the next one was read
  pub each_more : (d : A) (word : List ℕ) (x : B) → i < length words → word ≡ f (get_or words i d) → or_misfit (value_in word) ≡ Ok x
      → o ≡ prepended (xs ++ x ∷ []) (each_in value_in (map f (drop (i + 1) words)))
  each_more d word x h at e =
      next_is d word h at ∙ ap (λ y. prepended xs (onto y (each_in value_in (map f (drop (i + 1) words))))) (value_read _ x e)
      ∙ prepended_one xs x (each_in value_in (map f (drop (i + 1) words)))

  -- the next one stands for nothing, so they don't either
  pub each_fault : (d : A) (word : List ℕ) (fault : WordsFault) → i < length words → word ≡ f (get_or words i d) → IfSome (cause fault) (λ m. or_misfit (value_in word) ≡ Err m)
      → IfSome (cause fault) (λ m. or_misfit o ≡ Err m)
  each_fault d word faults.NoMemory h at e = tt
  each_fault d word faults.Words h at e = ap or_misfit (next_is d word h at ∙ ap (λ y. prepended xs (onto y (each_in value_in (map f (drop (i + 1) words))))) (value_unread _ e))

  -- all were read
  pub each_ends : length words ≤ i → or_misfit o ≡ Ok xs
  each_ends h = ap or_misfit (so_far ∙ ap (λ ws. prepended xs (each_in value_in (map f ws))) (drop_all i words h) ∙ ap Some (append-nil xs))

-- ---- paths of which there are not too many

pub few_watched : {A : Type 0} (f : A → List ℕ) (words : List A) → length words ≤ 1024 → watched_in (map f words) ≡ paths_in (map f words)
few_watched f words h = cond-true (nat_le (length (map f words)) 1024) (paths_in (map f words)) None (le-leb (length (map f words)) 1024 (omega (arith, h, same_length f words)))

pub many_watched : {A : Type 0} (f : A → List ℕ) (words : List A) → 1024 < length words → watched_in (map f words) ≡ None
many_watched f words h = cond-false (nat_le (length (map f words)) 1024) (paths_in (map f words)) None (lt-leb (length (map f words)) 1024 (omega (arith, h, same_length f words)))

-- as many values as words
each_as_many : {A : Type 0} (value_in : List ℕ → Option A) (words : List (List ℕ)) (xs : List A) → each_in value_in words ≡ Some xs → length xs ≡ length words
each_as_many value_in [] xs e = ap length (sym (same_Some _ xs e))
each_as_many {A} value_in (w ∷ ws) xs e = by (value_in w) (each_in value_in ws) (each_as_many value_in ws) e
  where
    by : (x : Option A) (o : Option (List A)) → ((ys : List A) → o ≡ Some ys → length ys ≡ length ws) → onto x o ≡ Some xs → length xs ≡ length (w ∷ ws)
    by (Some x) (Some ys) rest q = omega (arith, ap length (same_Some (x ∷ ys) xs q), rest ys refl)
    by (Some x) None rest q = absurd (cc)
    by None o rest q = absurd (cc)

paths_as_many : (words : List (List ℕ)) (xs : List PathNames) → paths_in words ≡ Some xs → length xs ≡ length words
paths_as_many [] xs e = absurd (cc)
paths_as_many (w ∷ ws) xs e = each_as_many path_in (w ∷ ws) xs e

pub few_paths : {A P : Type 0} (f : A → List ℕ) (items : P → List PathNames) (words : List A) (r : Result P WordsFault) → length words ≤ 1024
    → Gives items cause r (or_misfit (paths_in (map f words))) → IfOk r (λ paths. length (items paths) ≤ 1024)
few_paths f items words (Ok paths) h g = omega (arith, h, same_length f words, paths_as_many (map f words) (items paths) (value_read _ (items paths) g))
few_paths f items words (Err fault) h g = tt

-- ---- words of which there are too few or too many

-- no value, whatever the source
no_paths : (b : Bool) (o : Option ℕ) → cond b None (o >>= λ pid. option_map (Open pid) None) ≡ None
no_paths true o = refl
no_paths false None = refl
no_paths false (Some pid) = refl

-- nor with the value of the first word alone
nowhere : {A B : Type 0} (named : A → B → Named) (o : Option A) → (o >>= λ a. option_map (named a) None) ≡ None
nowhere named None = refl
nowhere named (Some a) = refl

publishes_nothing : (named : ℕ → List ℕ × ℕ × ℕ → Named) (o : Option ℕ) → (o >>= λ q. option_map (named q) None) ≡ None
publishes_nothing named o = nowhere {A = ℕ} {B = List ℕ × ℕ × ℕ} named o

abbrev pub published_on : ℕ → List ℕ × ℕ × ℕ → Named
published_on q p = PublishOn q p.0 p.1 p.2

abbrev pub on_air : ℕ → List ℕ × ℕ × ℕ → Named
on_air q p = Air q p.0 p.1 p.2

-- words of another number than the keyword's command takes say nothing
misfit_none : (keyword : Keyword) (words : List (List ℕ)) → (Fits keyword (length words) → ⊥) → words_by keyword words ≡ None
misfit_none keywords.Assemble [] h = refl
misfit_none keywords.Assemble (a ∷ []) h = refl
misfit_none keywords.Assemble (a ∷ b ∷ []) h = refl
misfit_none keywords.Assemble (a ∷ b ∷ c ∷ []) h = refl
misfit_none keywords.Assemble (a ∷ b ∷ c ∷ d ∷ []) h = absurd (h (omega arith))
misfit_none keywords.Assemble (a ∷ b ∷ c ∷ d ∷ e ∷ words) h = refl
misfit_none keywords.Open [] h = refl
misfit_none keywords.Open (from ∷ []) h = no_paths (bytes_eq from (codes "sections")) (pid_in from)
misfit_none keywords.Open (from ∷ word ∷ words) h = absurd (h (omega arith))
misfit_none keywords.Record [] h = refl
misfit_none keywords.Record (pid ∷ []) h = absurd (h (omega arith))
misfit_none keywords.Record (pid ∷ word ∷ words) h = refl
misfit_none keywords.List [] h = refl
misfit_none keywords.List (pid ∷ []) h = absurd (h (omega arith))
misfit_none keywords.List (pid ∷ word ∷ words) h = refl
misfit_none keywords.Publish [] h = refl
misfit_none keywords.Publish (a ∷ []) h = refl
misfit_none keywords.Publish (a ∷ b ∷ []) h = refl
misfit_none keywords.Publish (a ∷ b ∷ c ∷ []) h = absurd (h (omega arith))
misfit_none keywords.Publish (a ∷ b ∷ c ∷ d ∷ words) h = refl
misfit_none keywords.Rehearse [] h = absurd (h (omega arith))
misfit_none keywords.Rehearse (word ∷ words) h = refl
misfit_none keywords.Session [] h = absurd (h (omega arith))
misfit_none keywords.Session (word ∷ words) h = refl
misfit_none keywords.Big [] h = refl
misfit_none keywords.Big (n ∷ []) h = absurd (h (omega arith))
misfit_none keywords.Big (n ∷ word ∷ words) h = refl
misfit_none keywords.Find [] h = refl
misfit_none keywords.Find (c ∷ []) h = absurd (h (omega arith))
misfit_none keywords.Find (c ∷ word ∷ words) h = refl
misfit_none keywords.OpenId [] h = refl
misfit_none keywords.OpenId (c ∷ []) h = nowhere OpenId (any_u32_in c)
misfit_none keywords.OpenId (c ∷ word ∷ words) h = absurd (h (omega arith))
misfit_none keywords.PublishPsi [] h = refl
misfit_none keywords.PublishPsi (a ∷ []) h = refl
misfit_none keywords.PublishPsi (a ∷ b ∷ []) h = refl
misfit_none keywords.PublishPsi (a ∷ b ∷ c ∷ []) h = absurd (h (omega arith))
misfit_none keywords.PublishPsi (a ∷ b ∷ c ∷ d ∷ words) h = refl
misfit_none keywords.PublishOn [] h = refl
misfit_none keywords.PublishOn (a ∷ []) h = publishes_nothing published_on (pid_in a)
misfit_none keywords.PublishOn (a ∷ b ∷ []) h = publishes_nothing published_on (pid_in a)
misfit_none keywords.PublishOn (a ∷ b ∷ c ∷ []) h = publishes_nothing published_on (pid_in a)
misfit_none keywords.PublishOn (a ∷ b ∷ c ∷ d ∷ []) h = absurd (h (omega arith))
misfit_none keywords.PublishOn (a ∷ b ∷ c ∷ d ∷ e ∷ words) h = publishes_nothing published_on (pid_in a)
misfit_none keywords.Mounts [] h = refl
misfit_none keywords.Mounts (t ∷ []) h = nowhere Mounts (table_in t)
misfit_none keywords.Mounts (t ∷ word ∷ words) h = absurd (h (omega arith))
misfit_none keywords.Watch [] h = refl
misfit_none keywords.Watch (pid ∷ []) h = nowhere Watch (pid_in pid)
misfit_none keywords.Watch (pid ∷ word ∷ words) h = absurd (h (omega arith))
misfit_none keywords.Plan [] h = refl
misfit_none keywords.Plan (a ∷ []) h = refl
misfit_none keywords.Plan (a ∷ b ∷ []) h = refl
misfit_none keywords.Plan (a ∷ b ∷ c ∷ []) h = absurd (h (omega arith))
misfit_none keywords.Plan (a ∷ b ∷ c ∷ d ∷ words) h = refl
misfit_none keywords.Inspect [] h = refl
misfit_none keywords.Inspect (pid ∷ []) h = absurd (h (omega arith))
misfit_none keywords.Inspect (pid ∷ word ∷ words) h = refl
misfit_none keywords.Extract [] h = refl
misfit_none keywords.Extract (pid ∷ []) h = refl
misfit_none keywords.Extract (pid ∷ folder ∷ []) h = absurd (h (omega arith))
misfit_none keywords.Extract (pid ∷ folder ∷ word ∷ words) h = refl
misfit_none keywords.Air [] h = refl
misfit_none keywords.Air (a ∷ []) h = publishes_nothing on_air (pid_in a)
misfit_none keywords.Air (a ∷ b ∷ []) h = publishes_nothing on_air (pid_in a)
misfit_none keywords.Air (a ∷ b ∷ c ∷ []) h = publishes_nothing on_air (pid_in a)
misfit_none keywords.Air (a ∷ b ∷ c ∷ d ∷ []) h = absurd (h (omega arith))
misfit_none keywords.Air (a ∷ b ∷ c ∷ d ∷ e ∷ words) h = publishes_nothing on_air (pid_in a)

length_behind : {A : Type 0} (f : A → List ℕ) (words : List A) → length (map f (drop 1 words)) ≡ length words - 1
length_behind f [] = refl
length_behind f (w ∷ ws) = omega (arith, same_length f ws)

-- words that were refused for their number, or since there was no memory
pub gives_misfit : {A : Type 0} (keyword : Keyword) (f : A → List ℕ) (words : List A) (fault : WordsFault)
    → (◌≡◌ {A = Result (Unit {0}) WordsFault} (Err fault) (Err faults.Words) → Fits keyword (length words - 1) → ⊥)
    → Gives view cause (Err fault) (or_misfit (words_by keyword (map f (drop 1 words))))
gives_misfit keyword f words faults.NoMemory h = tt
gives_misfit keyword f words faults.Words h = ap or_misfit (misfit_none keyword (map f (drop 1 words)) (λ fit. h refl (subst (Fits keyword) (length_behind f words) fit)))
