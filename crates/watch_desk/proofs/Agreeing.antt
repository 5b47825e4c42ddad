-- What a desk goes through, path by path and watcher by watcher, are the notices of the definition.
use Rattle.std.proofs.Common.{ℕ, suc, ◌≡◌, ◌+◌, Bool, true, false, cond, not, List, [], ◌∷◌, ◌++◌, length, map, ◌<◌, Option, Some, None, Result, Ok, Err, refl, sym, ap, ap₂, subst, ◌∙◌}
use Rattle.std.specs.Prelude.{IfOk, OnOk}
use Rattle.std.specs.declared.vec.Vec.{Vec}
use Rattle.std.specs.List.{All, enumerate_from, filter, flat_map}
use Rattle.oc_bytes.specs.Outcome.{MakesList}
use Rattle.path_tree.specs.Paths.{PathNames}
use Rattle.path_resolver.specs.Resolving.{Held, answer_of}
use Rattle.path_resolver.specs.Comparing.{same_answer}
use Rattle.path_resolver.specs.declared.answer.Answer.{Answer}
use Rattle.path_resolver.specs.declared.answer.Answer.TheVariants as answers
use Rattle.watch_desk.specs.declared.notice.Notice.{Notice}
use Rattle.watch_desk.specs.Notices.{differs, is_told, notice, notices_to}
use Rattle.watch_desk.specs.Inner.Showing.{changes, keeping, told_from, told_of, told_to_all}
use Rattle.watch_desk.specs.Watching.{DeskState, StandsFor, answer_on, answers_kept, last_shot, notices_of}
use Rattle.watch_desk.proofs.Lists.{last_more}
use Rattle.watch_desk.proofs.Within.{told_within}

-- ---- which answers changed

first_changes : (now : PathNames → Answer) (paths : List PathNames) → changes [] (map now paths) ≡ map (differs (answer_on None) now) paths
first_changes now [] = refl
first_changes now (p ∷ ps) = ap (λ (bs : List Bool). not (same_answer answers.NoCarousel (now p)) ∷ bs) (first_changes now ps)

later_changes : (held : Held) (now : PathNames → Answer) (paths : List PathNames) → changes (map (answer_of held) paths) (map now paths) ≡ map (differs (answer_of held) now) paths
later_changes held now [] = refl
later_changes held now (p ∷ ps) = ap (λ (bs : List Bool). not (same_answer (answer_of held p) (now p)) ∷ bs) (later_changes held now ps)

changes_are : (shot : Option Held) (now : PathNames → Answer) (paths : List PathNames) → changes (answers_kept shot paths) (map now paths) ≡ map (differs (answer_on shot) now) paths
changes_are None now paths = first_changes now paths
changes_are (Some held) now paths = later_changes held now paths

pub as_many : (last now : List Answer) → length (changes last now) ≡ length now
as_many last [] = refl
as_many [] (a ∷ more) = ap (λ (n : ℕ). suc n) (as_many [] more)
as_many (b ∷ kept) (a ∷ more) = ap (λ (n : ℕ). suc n) (as_many kept more)

-- ---- the notices

one_more : (watcher i : ℕ) (p : PathNames) (ns : List Notice) (xs : List (ℕ × PathNames)) (b : Bool) → ns ≡ map (λ (x : ℕ × PathNames). notice watcher x.0) xs
    → cond b (notice watcher i ∷ ns) ns ≡ map (λ (x : ℕ × PathNames). notice watcher x.0) (cond b ((i, p) ∷ xs) xs)
one_more watcher i p ns xs true e = ap (λ (ms : List Notice). notice watcher i ∷ ms) e
one_more watcher i p ns xs false e = e

told_to_one : (watcher : ℕ) (prefix : PathNames) (before now : PathNames → Answer) (i : ℕ) (ps : List PathNames)
    → told_from watcher prefix i ps (map (differs before now) ps) ≡ map (λ (x : ℕ × PathNames). notice watcher x.0) (filter (λ (x : ℕ × PathNames). is_told before now prefix x.1) (enumerate_from i ps))
told_to_one watcher prefix before now i [] = refl
told_to_one watcher prefix before now i (p ∷ ps) =
    one_more watcher i p (told_from watcher prefix (i + 1) ps (map (differs before now) ps)) (filter (λ (x : ℕ × PathNames). is_told before now prefix x.1) (enumerate_from (i + 1) ps))
    (is_told before now prefix p) (told_to_one watcher prefix before now (i + 1) ps)

told_is : (paths : List PathNames) (before now : PathNames → Answer) (watcher : ℕ) (prefixes : List PathNames)
    → told_to_all watcher prefixes paths (map (differs before now) paths) ≡ flat_map (λ (w : ℕ × PathNames). notices_to w.0 w.1 paths before now) (enumerate_from watcher prefixes)
told_is paths before now watcher [] = refl
told_is paths before now watcher (prefix ∷ prefixes) =
    ap₂ (λ (ms ns : List Notice). ms ++ ns) (told_to_one watcher prefix before now 0 paths) (told_is paths before now (watcher + 1) prefixes)

-- ---- over shots

pub tells : (d : DeskState) (shots : List Held) (shot : Held) → StandsFor d shots → told_of d shot ≡ notices_of d shots shot
tells d shots shot s =
    ap (λ (last : List Answer). told_to_all 0 d.prefixes d.paths (changes last (map (answer_of shot) d.paths))) s.kept
    ∙ ap (told_to_all 0 d.prefixes d.paths) (changes_are (last_shot shots) (answer_of shot) d.paths)
    ∙ told_is d.paths (answer_on (last_shot shots)) (answer_of shot) 0 d.prefixes

pub stands_still : (d : DeskState) (shots : List Held) (shot : Held) → StandsFor (keeping d shot) (shots ++ shot ∷ [])
stands_still d shots shot = record { kept = sym (ap (λ (o : Option Held). answers_kept o d.paths) (last_more shots shot)) }

-- ---- of a call, where it isn't refused

pub told_are : {Z E : Type 0} (d : DeskState) (shot : Held) (r : Result (Vec Notice Z) E) → MakesList r (told_of d shot)
    → IfOk r (λ told. (shots : List Held) → StandsFor d shots → told.items ≡ notices_of d shots shot)
told_are d shot (Ok told) e = λ shots s. e ∙ tells d shots shot s
told_are d shot (Err refused) e = tt

pub within_are : {Z E : Type 0} (d : DeskState) (shot : Held) (r : Result (Vec Notice Z) E) → MakesList r (told_of d shot) → IfOk r (λ told. All (λ n. n.path < length d.paths) told.items)
within_are d shot (Ok told) e = rw e (told_within d shot)
within_are d shot (Err refused) e = tt

pub stands_kept : {X E : Type 0} (d new : DeskState) (shot : Held) (r : Result X E) → OnOk r (new ≡ keeping d shot)
    → OnOk r ((shots : List Held) → StandsFor d shots → StandsFor new (shots ++ shot ∷ []))
stands_kept d new shot (Ok told) e = λ shots s. subst (λ (k : DeskState). StandsFor k (shots ++ shot ∷ [])) (sym e) (stands_still d shots shot)
stands_kept d new shot (Err refused) e = tt
