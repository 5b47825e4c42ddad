-- What was written and told of some paths, and then of one more.
use Rattle.std.proofs.Common.{◌≡◌, ℕ, ◌+◌, ◌<◌, ◌≤◌, Bool, cond, true, false, ◌&&◌, List, [], ◌∷◌, ◌++◌, length, get_or, take, drop, Option, Some, None, Ok, Err, inl, inr, refl, sym, ap, ◌∙◌, subst, append-nil, append_assoc}
use Rattle.std.specs.List.{flat_map, list_all}
use Rattle.std.proofs.lemmas.List.{take_all, take_more, drop_more, take-append-drop}
use Rattle.std.proofs.lemmas.List.Folds.{list_all-append}
use Rattle.std.proofs.lemmas.Grind.{flat_map-append}
use Rattle.path_tree.specs.Paths.{Bytes, PathNames}
use Rattle.path_resolver.specs.declared.answer.Answer.{Answer}
use Rattle.folder_store.specs.Folders.{FolderTree, MayFail}
use Rattle.folder_store.specs.Stores.{can_add, with_entries}
use Rattle.shell_streams.specs.Sending.{OutputState, HasPut, Puts}
use Rattle.shell_streams.specs.declared.output.OutputFault.{OutputFault}
use Rattle.shell_streams.proofs.CallerLemmas.{puts_nothing, puts_then, puts_stop, puts_as, puts_err, puts_ok}
use Rattle.shell_words.specs.Texts.{is_found}
use Rattle.folder_extract.specs.Naming.{can_stand}
use Rattle.folder_extract.specs.Telling.{listed, line_for, lines_for, extract_text, are_all_listed, is_whole, more_unless}
use Rattle.folder_extract.specs.Extracting.{Ends, WrotePart, EndsWhole, StopsAt, entries_at, entries_for}
use Rattle.folder_extract.specs.declared.extracting.Extracted.TheVariants as ends
use Rattle.folder_extract.specs.Inner.Writing.{Wrote, FailsAt, Breaks}
use Rattle.folder_store.specs.Walk.{text_below}

-- ---- entries that are added to a tree

pub with_nothing : (t : Option FolderTree) → with_entries t [] ≡ t
with_nothing None = refl
with_nothing (Some t) = ap Some (append-nil t)

pub with_both : (t : Option FolderTree) (xs ys : FolderTree) → with_entries (with_entries t xs) ys ≡ with_entries t (xs ++ ys)
with_both None xs ys = refl
with_both (Some t) xs ys = ap Some (append_assoc t xs ys)

pub part_none : (t : Option FolderTree) (es : FolderTree) → WrotePart t t es
part_none t es = record { part = []; rest = es; split = refl; wrote = sym (with_nothing t) }

pub part_all : (t u : Option FolderTree) (es : FolderTree) → u ≡ with_entries t es → WrotePart t u es
part_all t u es e = record { part = es; rest = []; split = sym (append-nil es); wrote = e }

pub part_then : (t u v : Option FolderTree) (xs ys : FolderTree) → u ≡ with_entries t xs → WrotePart u v ys → WrotePart t v (xs ++ ys)
part_then t u v xs ys e p = record {
  part = xs ++ p.part;
  rest = p.rest;
  split = ap (λ (zs : FolderTree). xs ++ zs) p.split ∙ sym (append_assoc xs p.part p.rest);
  wrote = p.wrote ∙ ap (λ (o : Option FolderTree). with_entries o p.part) e ∙ with_both t xs p.part;
}

pub part_front : (t u : Option FolderTree) (xs ys : FolderTree) → WrotePart t u xs → WrotePart t u (xs ++ ys)
part_front t u xs ys p = record {
  part = p.part;
  rest = p.rest ++ ys;
  split = ap (λ (zs : FolderTree). zs ++ ys) p.split ∙ append_assoc p.part p.rest ys;
  wrote = p.wrote;
}

-- the same of entries in other words
pub part_as : (t u : Option FolderTree) (xs ys : FolderTree) → xs ≡ ys → WrotePart t u xs → WrotePart t u ys
part_as t u xs ys e p = record { part = p.part; rest = p.rest; split = sym e ∙ p.split; wrote = p.wrote }

-- ---- one of a list's elements

pub at_split : {X : Type 0} (xs : List X) (i : ℕ) (x : X) → i < length xs → x ≡ get_or xs i x → xs ≡ take i xs ++ x ∷ drop (i + 1) xs
at_split {X} xs i x h e =
    sym (take-append-drop i xs) ∙ ap (λ (ys : List X). take i xs ++ ys) (drop_more xs i x h ∙ ap (λ (y : X). y ∷ drop (i + 1) xs) (sym e))

pub next_taken : {X : Type 0} (xs : List X) (i : ℕ) (x : X) → i < length xs → x ≡ get_or xs i x → take (i + 1) xs ≡ take i xs ++ x ∷ []
next_taken {X} xs i x h e = take_more xs i x h ∙ ap (λ (y : X). take i xs ++ y ∷ []) (sym e)

flat_both : {X A : Type 0} (f : X → List A) (xs ys : List X) (x : X) → flat_map f (xs ++ x ∷ ys) ≡ (flat_map f xs ++ f x) ++ flat_map f ys
flat_both f xs ys x = flat_map-append f xs (x ∷ ys) ∙ sym (append_assoc (flat_map f xs) (f x) (flat_map f ys))

pub flat_next : {X A : Type 0} (f : X → List A) (xs : List X) (i : ℕ) (x : X) → i < length xs → x ≡ get_or xs i x → flat_map f (take (i + 1) xs) ≡ flat_map f (take i xs) ++ f x
flat_next f xs i x h e = ap (flat_map f) (next_taken xs i x h e) ∙ flat_both f (take i xs) [] x ∙ append-nil (flat_map f (take i xs) ++ f x)

pub flat_split : {X A : Type 0} (f : X → List A) (xs : List X) (i : ℕ) (x : X) → i < length xs → x ≡ get_or xs i x → flat_map f xs ≡ (flat_map f (take i xs) ++ f x) ++ flat_map f (drop (i + 1) xs)
flat_split f xs i x h e = ap (flat_map f) (at_split xs i x h e) ∙ flat_both f (take i xs) (drop (i + 1) xs) x

pub flat_parts : {X A : Type 0} (f : X → List A) (xs : List X) (i : ℕ) → flat_map f xs ≡ flat_map f (take i xs) ++ flat_map f (drop i xs)
flat_parts f xs i = ap (flat_map f) (sym (take-append-drop i xs)) ∙ flat_map-append f (take i xs) (drop i xs)

and_true : (a : Bool) → (a && true) ≡ a
and_true true = refl
and_true false = refl

and_false : (a : Bool) → (a && false) ≡ false
and_false true = refl
and_false false = refl

and_assoc : (a b c : Bool) → ((a && b) && c) ≡ (a && (b && c))
and_assoc true b c = refl
and_assoc false b c = refl

all_next : {X : Type 0} (p : X → Bool) (xs : List X) (i : ℕ) (x : X) → i < length xs → x ≡ get_or xs i x → list_all p (take (i + 1) xs) ≡ (list_all p (take i xs) && p x)
all_next p xs i x h e =
    ap (list_all p) (next_taken xs i x h e) ∙ list_all-append p (take i xs) (x ∷ []) ∙ ap (λ b. list_all p (take i xs) && b) (and_true (p x))

-- ---- some paths

-- These paths were gone through: their entries are written and their lines told, and all is whole so far, where it was at first.
pub record HasTaken (folder : Bytes) (answer : PathNames → Answer) (paths : List PathNames) (first all : Bool) (before after : Option FolderTree) (old new : OutputState) : Type 0 where
  pub wrote : after ≡ with_entries before (entries_for folder answer paths)
  pub told : HasPut old new (lines_for answer paths)
  pub all_is : all ≡ (first && list_all (is_whole answer) paths)

pub taken_none : (folder : Bytes) (answer : PathNames → Answer) (w : Bool) (t : Option FolderTree) (o : OutputState) → HasTaken folder answer [] w w t t o o
taken_none folder answer w t o = record { wrote = sym (with_nothing t); told = puts_nothing tt o; all_is = sym (and_true w) }

module _ (folder : Bytes) (answer : PathNames → Answer) (paths : List PathNames) (i : ℕ) (p : PathNames) (first all : Bool) (before now after : Option FolderTree) (old mid new : OutputState)
    (within : i < length paths) (is : p ≡ get_or paths i p) (h : HasTaken folder answer (take i paths) first all before now old mid) where
  -- one path more was gone through
  pub taken_more : (whole : Bool) → Wrote (entries_at folder answer p) (line_for answer p) now after mid new → is_whole answer p ≡ whole
      → HasTaken folder answer (take (i + 1) paths) first (all && whole) before after old new
  taken_more whole s e = record {
    wrote = s.wrote ∙ ap (λ (t : Option FolderTree). with_entries t (entries_at folder answer p)) h.wrote
        ∙ with_both before (entries_for folder answer (take i paths)) (entries_at folder answer p)
        ∙ ap (with_entries before) (sym (flat_next (entries_at folder answer) paths i p within is));
    told = puts_as (sym (flat_next (line_for answer) paths i p within is)) (puts_then h.told s.told_is);
    all_is = ap (λ b. all && b) (sym e) ∙ ap (λ b. b && is_whole answer p) h.all_is
        ∙ and_assoc first (list_all (is_whole answer) (take i paths)) (is_whole answer p)
        ∙ ap (λ b. first && b) (sym (all_next (is_whole answer) paths i p within is));
  }

  pub taken_whole : Wrote (entries_at folder answer p) (line_for answer p) now after mid new → is_whole answer p ≡ true → HasTaken folder answer (take (i + 1) paths) first all before after old new
  taken_whole s e = subst (λ b. HasTaken folder answer (take (i + 1) paths) first b before after old new) (and_true all) (taken_more true s e)

  pub taken_not_whole : Wrote (entries_at folder answer p) (line_for answer p) now after mid new → is_whole answer p ≡ false → HasTaken folder answer (take (i + 1) paths) first false before after old new
  taken_not_whole s e = subst (λ b. HasTaken folder answer (take (i + 1) paths) first b before after old new) (and_false all) (taken_more false s e)

  -- the output failed at one path more, or there was no memory
  pub part_breaks : paths ≡ listed answer → (fault : OutputFault) → Breaks fault (entries_at folder answer p) (line_for answer p) now after mid new
      → WrotePart before after (entries_for folder answer (listed answer))
  part_breaks e fault s = part_as before after _ _ (sym (flat_split (entries_at folder answer) paths i p within is) ∙ ap (entries_for folder answer) e)
      (part_front before after (entries_for folder answer (take i paths) ++ entries_at folder answer p) (entries_for folder answer (drop (i + 1) paths))
      (part_then before now after (entries_for folder answer (take i paths)) (entries_at folder answer p) h.wrote s.part))

  pub told_breaks : paths ≡ listed answer → (fault : OutputFault) → Breaks fault (entries_at folder answer p) (line_for answer p) now after mid new
      → Puts {T = Unit {0}} (Err fault) old new (extract_text answer)
  told_breaks e fault s =
      puts_as (ap (λ (ps : List PathNames). lines_for answer ps ++ more_unless (are_all_listed answer)) e)
      (puts_stop {T = Unit {0}} (more_unless (are_all_listed answer)) (puts_as (sym (flat_split (line_for answer) paths i p within is))
      (puts_stop {T = Unit {0}} (lines_for answer (drop (i + 1) paths)) (puts_then h.told s.told_is))))

-- ---- how a walk over the paths of a listing ends

may_fail_weaker : (told : Option FolderTree) (A B : Type 0) (wrong : FolderTree → Type 0) → (A → B) → MayFail A told wrong → MayFail B told wrong
may_fail_weaker None A B wrong f h = f h
may_fail_weaker (Some t) A B wrong f (inl h) = inl (f h)
may_fail_weaker (Some t) A B wrong f (inr h) = inr h

module _ (folder : Bytes) (answer : PathNames → Answer) (paths : List PathNames) (i : ℕ) (first all : Bool) (before now : Option FolderTree) (old mid : OutputState)
    (e : paths ≡ listed answer) (h : HasTaken folder answer (take i paths) first all before now old mid) where
  -- a part of all entries was written
  pub part_stops : (after : Option FolderTree) → after ≡ now → WrotePart before after (entries_for folder answer (listed answer))
  part_stops after same = part_as before after _ _ (sym (flat_parts (entries_at folder answer) paths i) ∙ ap (entries_for folder answer) e)
      (part_front before after (entries_for folder answer (take i paths)) (entries_for folder answer (drop i paths))
      (part_all before after (entries_for folder answer (take i paths)) (same ∙ h.wrote)))

  -- the output failed once the lines of the first paths were told, or there was no memory
  pub told_stops : {T : Type 0} (fault : OutputFault) (new last : OutputState) → new ≡ mid → Puts {T = T} (Err fault) new last [] → Puts {T = Unit {0}} (Err fault) old last (extract_text answer)
  told_stops {T} fault new last untold s =
      let more : Bytes = more_unless (are_all_listed answer) in
      let lines : Bytes = lines_for answer (take i paths) in
      let others : Bytes = lines_for answer (drop i paths) in
      puts_as (append_assoc (lines ++ []) others more ∙ ap (λ (bs : Bytes). bs ++ (others ++ more)) (append-nil lines) ∙ sym (append_assoc lines others more)
      ∙ ap (λ (bs : Bytes). bs ++ more) (sym (flat_parts (line_for answer) paths i)) ∙ ap (λ (ps : List PathNames). lines_for answer ps ++ more) e)
      (puts_stop {T = Unit {0}} more (puts_stop {T = T} others (puts_then h.told (subst (λ (o : OutputState). Puts {T = T} (Err fault) o last []) untold s))))

  -- the store failed at one path more
  pub stops_at : (p : PathNames) (after : Option FolderTree) (rose : Type 0) (new last : OutputState) → i < length paths → p ≡ get_or paths i p
      → can_stand p ≡ true → is_found (answer p) ≡ true → (inner : Type 0) → (inner → rose) → FailsAt (text_below folder p) now after inner mid new
      → HasPut new last [] → StopsAt folder answer before after rose old last
  stops_at p after rose new last within is can found inner rises s flushed = record {
    done = take i paths;
    path = p;
    rest = drop (i + 1) paths;
    split = sym e ∙ at_split paths i p within is;
    can = can;
    found = found;
    wrote = s.same ∙ h.wrote;
    told = puts_as (append-nil (lines_for answer (take i paths))) (puts_then h.told (subst (λ (o : OutputState). HasPut o last []) s.untold flushed));
    cause = subst (λ (t : Option FolderTree). MayFail rose t (λ t. can_add t (text_below folder p) ≡ false)) (sym s.same)
        (may_fail_weaker now inner rose (λ t. can_add t (text_below folder p) ≡ false) rises s.cause);
  }

-- the answer of a walk that went through all paths
pub ends_by : (folder : Bytes) (answer : PathNames → Answer) (all : Bool) (before after : Option FolderTree) (rose : Type 0) (old new : OutputState) → EndsWhole folder answer all before after old new
    → Ends folder answer (Ok (cond all ends.All ends.NotAll)) before after rose old new
ends_by folder answer true before after rose old new h = h
ends_by folder answer false before after rose old new h = h

module _ (folder : Bytes) (answer : PathNames → Answer) (paths : List PathNames) (i : ℕ) (first all : Bool) (before now : Option FolderTree) (old mid : OutputState)
    (e : paths ≡ listed answer) (w : first ≡ are_all_listed answer) (past : length paths ≤ i)
    (h : HasTaken folder answer (take i paths) first all before now old mid) where
  taken_all : HasTaken folder answer (listed answer) first all before now old mid
  taken_all = subst (λ (ps : List PathNames). HasTaken folder answer ps first all before now old mid) (take_all i paths past ∙ e) h

  text_all : lines_for answer (listed answer) ++ more_unless first ≡ extract_text answer
  text_all = ap (λ b. lines_for answer (listed answer) ++ more_unless b) w

  -- the last line wasn't told
  pub last_breaks : {T : Type 0} (fault : OutputFault) (new : OutputState) → Puts {T = T} (Err fault) mid new (more_unless first) → Puts {T = Unit {0}} (Err fault) old new (extract_text answer)
  last_breaks fault new s = puts_as text_all (puts_err (puts_then taken_all.told s))

  -- it was, but not written
  pub flush_breaks : {T U : Type 0} {x : T} (fault : OutputFault) (new last : OutputState) → Puts (Ok x) mid new (more_unless first) → Puts {T = U} (Err fault) new last []
      → Puts {T = Unit {0}} (Err fault) old last (extract_text answer)
  flush_breaks fault new last s t = puts_as (append-nil (lines_for answer (listed answer) ++ more_unless first) ∙ text_all) (puts_err (puts_then (puts_then taken_all.told s) t))

  -- all was
  pub ends_whole : {T U : Type 0} {x : T} {y : U} (new last : OutputState) → Puts (Ok x) mid new (more_unless first) → Puts (Ok y) new last [] → EndsWhole folder answer all before now old last
  ends_whole new last s t = record {
    wrote = taken_all.wrote;
    told = puts_as (append-nil (lines_for answer (listed answer) ++ more_unless first) ∙ text_all) (puts_ok tt (puts_then (puts_then taken_all.told s) t));
    all_is = ap (λ b. b && list_all (is_whole answer) (listed answer)) (sym w) ∙ sym taken_all.all_is;
  }

  pub part_whole : WrotePart before now (entries_for folder answer (listed answer))
  part_whole = part_all before now (entries_for folder answer (listed answer)) taken_all.wrote
