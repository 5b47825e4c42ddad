-- A watcher before and after one candidate more.
use Rattle.std.proofs.Common.{◌≡◌, ◌≢◌, ℕ, ◌<◌, true, List, [], ◌∷◌, ◌++◌, length, map, take, get_or, Result, Ok, Err, sym, ap, ◌∙◌, subst}
use Rattle.std.specs.Prelude.{OnOk}
use Rattle.std.specs.List.{AllPairs}
use Rattle.std.proofs.lemmas.List.{get_or_read, take-map}
use Rattle.path_tree.specs.Paths.{PathNames, same_path}
use Rattle.path_tree.proofs.CallerLemmas.{same_path-refl}
use Rattle.path_resolver.specs.Resolving.{Held}
use Rattle.path_resolver.specs.declared.answer.Answer.{Answer}
use Rattle.tuner_core.specs.Heard.{as_heard}
use Rattle.tuner_core.specs.LookBack.{held_after}
use Rattle.tuner_core.specs.Stands as tuners
use Rattle.watch_desk.specs.Prefixes.{prefixes_of}
use Rattle.watch_desk.specs.Parts.{HeldStays, is_of_blocks, whole_after, whole_modules}
use Rattle.watch_desk.specs.Telling.{AreUpToDate, ShotsAreNeededAtChanges}
use Rattle.watch_desk.specs.View.{state}
use Rattle.watch_desk.specs.Watching as desks
use Rattle.watch_desk.specs.declared.filter.Filter.{Filter}
use Rattle.watch_desk.specs.declared.desk.Desk.{Desk}
use Rattle.shell_streams.specs.Cuts.{Bytes}
use Rattle.shell_words.specs.Texts.{answered_line}
use Rattle.receiver_commands.specs.Firsts.{first_only}
use Rattle.receiver_commands.specs.Watch.{path_at, first_watchers}
use Rattle.receiver_commands.specs.Inner.Watching.{StandsFor}
use Rattle.receiver_commands.specs.declared.watch.Watcher.{Watcher}
use Rattle.receiver_commands.proofs.Firsts.{firsts_differ}

pub on_ok : {T E A : Type 0} (r : Result T E) → A → OnOk r A
on_ok (Ok x) a = a
on_ok (Err e) a = tt

-- ---- what is watched

pub paths_differ : (paths : List PathNames) → AllPairs (λ p q. p ≢ q) (first_only same_path paths)
paths_differ paths = firsts_differ same_path (λ p q e. subst (λ (r : PathNames). same_path p r ≡ true) e (same_path-refl p)) paths

-- ---- one that has heard nothing

pub stands_new : {X : _} {F : _} {g : _} {w : Watcher X F g} {paths prefixes : List PathNames} → ShotsAreNeededAtChanges → tuners.StandsFor w.tuner [] → desks.StandsFor (state w.desk) []
    → w.whole ≡ 0 → (state w.desk).paths ≡ paths → (state w.desk).prefixes ≡ prefixes → StandsFor w paths prefixes []
stands_new laws tuner desk whole e f = record { tuner_stands = tuner; shots = []; desk_stands = desk; up_to_date = laws.begun; whole_are = whole; paths_are = e; prefixes_are = f }

-- the prefixes of the first watchers
pub prefixes_first : {X : _} {F : _} {g : _} (first all : List (Filter X F g)) → first ≡ take 64 all → prefixes_of first ≡ first_watchers (prefixes_of all)
prefixes_first first all e = ap prefixes_of e ∙ sym (take-map (λ f. f.prefix) 64 all)

-- ---- one that has heard a candidate more

-- it changed nothing, and no shot was shown
pub stands_still : {X : _} {F : _} {g : _} {old new : Watcher X F g} {paths prefixes : List PathNames} (before : List Bytes) (c : Bytes) → ShotsAreNeededAtChanges → StandsFor old paths prefixes before
    → HeldStays before c → tuners.StandsFor new.tuner (before ++ c ∷ []) → new.desk ≡ old.desk → new.whole ≡ old.whole → StandsFor new paths prefixes (before ++ c ∷ [])
stands_still {X} {F} {g} before c laws st stays heard e same = record {
  tuner_stands = heard;
  shots = st.shots;
  desk_stands = subst (λ (d : Desk X F g). desks.StandsFor (state d) st.shots) (sym e) st.desk_stands;
  up_to_date = laws.still st.shots before c stays st.up_to_date;
  whole_are = same ∙ st.whole_are ∙ sym (ap whole_modules stays);
  paths_are = ap (λ (d : Desk X F g). (state d).paths) e ∙ st.paths_are;
  prefixes_are = ap (λ (d : Desk X F g). (state d).prefixes) e ∙ st.prefixes_are;
}

-- a section of blocks made no module whole
pub part_stays : ShotsAreNeededAtChanges → (before : List Bytes) (c : Bytes) (held : Held) (whole now : ℕ) → is_of_blocks c ≡ true → now ≡ whole_modules held → held ≡ held_after (map as_heard (before ++ c ∷ []))
    → whole ≡ whole_after before → now ≡ whole → HeldStays before c
part_stays laws before c held whole now of_blocks now_is held_is whole_is same = laws.part before c of_blocks (sym (ap whole_modules held_is) ∙ sym now_is ∙ same ∙ whole_is)

-- a shot was shown
pub stands_shown : {X : _} {F : _} {g : _} {old new : Watcher X F g} {paths prefixes : List PathNames} (before : List Bytes) (c : Bytes) (held : Held) → ShotsAreNeededAtChanges
    → (st : StandsFor old paths prefixes before) → tuners.StandsFor new.tuner (before ++ c ∷ []) → held ≡ held_after (map as_heard (before ++ c ∷ [])) → new.whole ≡ whole_modules held → desks.StandsFor (state new.desk) (st.shots ++ held ∷ [])
    → (state new.desk).paths ≡ (state old.desk).paths → (state new.desk).prefixes ≡ (state old.desk).prefixes → StandsFor new paths prefixes (before ++ c ∷ [])
stands_shown before c held laws st heard held_is whole desk same_paths same_prefixes = record {
  tuner_stands = heard;
  shots = st.shots ++ held ∷ [];
  desk_stands = desk;
  up_to_date = subst (λ (h : Held). AreUpToDate (st.shots ++ h ∷ []) (before ++ c ∷ [])) (sym held_is) (laws.up_to_date st.shots (before ++ c ∷ []));
  whole_are = whole ∙ ap whole_modules held_is;
  paths_are = same_paths ∙ st.paths_are;
  prefixes_are = same_prefixes ∙ st.prefixes_are;
}

-- ---- the line of a notice

pub path_there : (paths : List PathNames) (i : ℕ) (p : PathNames) → p ≡ get_or paths i p → i < length paths → path_at paths i ≡ p
path_there paths i p is within = sym (get_or_read paths i p within is [])

pub line_of_path : (answer : PathNames → Answer) (q p : PathNames) (a : Answer) → q ≡ p → a ≡ answer p → answered_line p a ≡ answered_line q (answer q)
line_of_path answer q p a same is = ap (λ (x : Answer). answered_line p x) is ∙ ap (λ (r : PathNames). answered_line r (answer r)) (sym same)
