-- A script with one line more: its numbers lie in their ranges, no actor stands twice, and it lists all whom its lines name.
use Rattle.session_script.proofs.Imports.{◌≡◌, ℕ, ◌≤◌, Bool, true, false, cond, eqb, nat_eq, List, [], ◌∷◌, ◌++◌, length, get_or, Option, Some, None, refl, arith, All, Contains, IfSome, AllByRecursion, IsDistinct, list_any, eqb-true, ne_eqb, All-nil, All-cons, All-push, All-head, All-tail, All-map, Stage, During, After, Act, Fill, Draw, Open, Settle, LineFields, Fields, Saying, Passed, Starts, Does, Ends, editor_of, reader_of, with_actor, script_of, IsActor, IsInRange, AreActors, IsInRanges, IsMentioned, AreListed, as_before, with_line, script_after, SaysInRange}
use Rattle.std.proofs.lemmas.Cmp.{nat_eq_equiv}
use Rattle.std.proofs.lemmas.List.Elements.{All-contains, Contains-append_left}
use Rattle.std.proofs.lemmas.Map.Keys.{IsDistinct-push}
use Rattle.indexmap.proofs.CallerLemmas.{Contains-list_any, Contains-insert_key}
use Rattle.std.proofs.lemmas.Map.Steps.{length-le_from_distinct_below}

-- ---- actors

none_zero : (xs : List ℕ) → All IsActor xs → AllByRecursion (λ y. eqb 0 y ≡ false) xs
none_zero [] h = tt
none_zero (x ∷ xs) h = let least = (All-head IsActor x xs h).at_least in (ne_eqb 0 x (λ e. omega arith), none_zero xs (All-tail IsActor x xs h))

few : (xs : List ℕ) → All IsActor xs → IsDistinct eqb xs → length xs ≤ 64
unfolding IsDistinct
few xs h once =
    let low : All (λ n. n ≤ 64) (0 ∷ xs) = All-cons (λ n. n ≤ 64) 0 xs (omega arith) (λ k d lt. (h k d lt).at_most) in
    let l = length-le_from_distinct_below (0 ∷ xs) 65 (none_zero xs h, once)
    (λ q is. let most = All-contains (λ n. n ≤ 64) (0 ∷ xs) q low (Contains-list_any nat_eq eqb-true (0 ∷ xs) q is) in omega arith) in omega arith

actor_more : (known : List ℕ) (n : ℕ) → IsActor n → AreActors known → (b : Bool) → list_any (eqb n) known ≡ b → AreActors (cond b known (known ++ n ∷ []))
actor_more known n a h true e = h
actor_more known n a h false e = let each = All-push IsActor known n h.each a in let once = IsDistinct-push nat_eq_equiv known n h.once e in
    record { each = each; once = once; most = few (known ++ n ∷ []) each once }

actors_more : (known : List ℕ) (o : Option ℕ) → IfSome o IsActor → AreActors known → AreActors (with_actor known o)
actors_more known (Some n) a h = actor_more known n a h (list_any (eqb n) known) refl
actors_more known None a h = h

editor_in_range : (act : Act) → IsInRange act → IfSome (editor_of act) IsActor
editor_in_range (Fill editor path size from) h = h.0
editor_in_range (Draw asked fates) h = tt
editor_in_range (Open reader path) h = tt
editor_in_range Settle h = tt
editor_in_range _ h = h

reader_in_range : (act : Act) → IsInRange act → IfSome (reader_of act) IsActor
reader_in_range (Open reader path) h = h
reader_in_range _ h = tt

line_ranges : (number : ℕ) (stage : Stage) (act : Act) (script : Fields) → IsInRange act → IsInRanges script → IsInRanges (with_line number stage act script)
line_ranges number stage act script a h = record {
  editors = actors_more script.editors (editor_of act) (editor_in_range act a) h.editors;
  readers = actors_more script.readers (reader_of act) (reader_in_range act a) h.readers;
  lines = All-push (λ (l : LineFields). IsInRange l.act) script.lines (record { number = number; stage = stage; act = act }) h.lines a;
}

pub ranges_after : (number : ℕ) (saying : Saying) (script : Fields) → SaysInRange saying → IsInRanges script → IsInRanges (script_after number saying script)
ranges_after number Passed script a h = h
ranges_after number Starts script a h =
    record { editors = h.editors; readers = h.readers; lines = All-map (λ (l : LineFields). IsInRange l.act) as_before script.lines h.lines }
ranges_after number (Does act) script a h = line_ranges number During act script a h
ranges_after number (Ends act) script a h = line_ranges number After act script a h

pub none_in_range : IsInRanges (script_of [])
unfolding IsDistinct
none_in_range = let none : AreActors [] = record { each = All-nil IsActor; once = tt; most = omega arith } in
    record { editors = none; readers = none; lines = All-nil (λ (l : LineFields). IsInRange l.act) }

-- ---- all whom lines name

is_here : (known : List ℕ) (o : Option ℕ) → IfSome o (Contains (with_actor known o))
is_here known (Some n) = Contains-insert_key nat_eq eqb-true known n
is_here known None = tt

stays : (known : List ℕ) (o : Option ℕ) (m : ℕ) → Contains known m → Contains (with_actor known o) m
stays known (Some n) m h = elim (list_any (eqb n) known) as (λ b. Contains (cond b known (known ++ n ∷ [])) m) [ true ↦ h | false ↦ Contains-append_left known (n ∷ []) m h ]
stays known None m h = h

mentioned : (editors readers : List ℕ) (act : Act) → IfSome (editor_of act) (Contains editors) → IfSome (reader_of act) (Contains readers) → IsMentioned editors readers act
mentioned editors readers (Draw asked fates) e r = tt
mentioned editors readers (Open reader path) e r = r
mentioned editors readers Settle e r = tt
mentioned editors readers _ e r = e

mentions : (editors readers : List ℕ) (act : Act) → IsMentioned editors readers act → IfSome (editor_of act) (Contains editors) × IfSome (reader_of act) (Contains readers)
mentions editors readers (Draw asked fates) h = (tt, tt)
mentions editors readers (Open reader path) h = (tt, h)
mentions editors readers Settle h = (tt, tt)
mentions editors readers _ h = (h, tt)

some_more : (o : Option ℕ) (xs ys : List ℕ) → ((n : ℕ) → Contains xs n → Contains ys n) → IfSome o (Contains xs) → IfSome o (Contains ys)
some_more (Some n) xs ys f h = f n h
some_more None xs ys f h = tt

line_listed : (number : ℕ) (stage : Stage) (act : Act) (script : Fields) → AreListed script → AreListed (with_line number stage act script)
line_listed number stage act script h =
    let editors = with_actor script.editors (editor_of act) in let readers = with_actor script.readers (reader_of act) in
    All-push (λ (l : LineFields). IsMentioned editors readers l.act) script.lines (record { number = number; stage = stage; act = act })
    (λ k d lt. let here = (get_or script.lines k d).act in let m = mentions script.editors script.readers here (h k d lt) in
    mentioned editors readers here (some_more (editor_of here) script.editors editors (stays script.editors (editor_of act)) m.0)
    (some_more (reader_of here) script.readers readers (stays script.readers (reader_of act)) m.1))
    (mentioned editors readers act (is_here script.editors (editor_of act)) (is_here script.readers (reader_of act)))

pub listed_after : (number : ℕ) (saying : Saying) (script : Fields) → AreListed script → AreListed (script_after number saying script)
listed_after number Passed script h = h
listed_after number Starts script h = All-map (λ (l : LineFields). IsMentioned script.editors script.readers l.act) as_before script.lines h
listed_after number (Does act) script h = line_listed number During act script h
listed_after number (Ends act) script h = line_listed number After act script h
