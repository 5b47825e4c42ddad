-- Lemmas for those who use this crate.
-- The lines of a part of a script, one after another: `line_at` and `none_left` say which are left, `at_place` what holds of one of them. The numbers of
-- a script that lie in their ranges do so part by part: `before_in_range`, `during_in_range`, `finales_in_range`. A `for` over a vector: `item_comes`, `items_came`.
use Rattle.std.proofs.Common.{◌≡◌, ℕ, suc, ◌<◌, List, [], ◌∷◌, ◌++◌, length, map, drop, get_or, All, Option, sym, ap, ◌∙◌, subst, arith, ◌+◌}
use Rattle.std.proofs.lemmas.List.{length-append, get_or_append_left, get_or-append-add, get_or-map, length-map}
use Rattle.std.proofs.Math.Seq.{drop-cons, drop-length}
use Rattle.session_script.specs.declared.script.TaskLine.{TaskLine}
use Rattle.session_script.specs.declared.script.Finale.{Finale}
use Rattle.session_script.specs.declared.script.Stage.TheVariants.{Before, During}
use Rattle.session_script.specs.Scripts.{LineFields, act_of, task_line, settle_lines, finale_line, lines_of}
use Rattle.session_script.specs.Ranges.{IsActor, IsInRange}
pub use Rattle.session_script.proofs.Lists.{item_comes, items_came}

-- a line stands first of those that are left, and those after it are left then
pub line_at : {A : Type 0} (view : A → LineFields) (xs yielded : List A) (rest : List LineFields) (x : A) → length yielded < length xs → x ≡ get_or xs (length yielded) x
    → map view (drop (length yielded) xs) ++ rest ≡ view x ∷ (map view (drop (length (yielded ++ x ∷ [])) xs) ++ rest)
line_at {A = A} view xs yielded rest x lt at = let k = length yielded in
    let next : suc k ≡ length (yielded ++ x ∷ []) = let e = length-append yielded (x ∷ []) in omega (arith, e) in
    ap (λ (ys : List A). map view ys ++ rest) (drop-cons xs k x lt)
    ∙ ap (λ (y : A). view y ∷ (map view (drop (suc k) xs) ++ rest)) (sym at)
    ∙ ap (λ n. view x ∷ (map view (drop n xs) ++ rest)) next

pub none_left : {A : Type 0} (view : A → LineFields) (xs yielded : List A) (rest : List LineFields) → length yielded ≡ length xs → map view (drop (length yielded) xs) ++ rest ≡ rest
none_left {A = A} view xs yielded rest e = ap (λ (ys : List A). map view ys ++ rest) (ap (λ n. drop n xs) e ∙ drop-length xs)

-- what holds of each holds of this one
pub at_place : {A : Type 0} (P : A → Type 0) (xs : List A) (k : ℕ) (x : A) → All P xs → k < length xs → x ≡ get_or xs k x → P x
at_place P xs k x all lt at = subst P (sym at) (all k x lt)

-- ---- ranges, part by part

abbrev InLines : List LineFields → Type 0
InLines ls = All (λ (l : LineFields). IsInRange l.act) ls

front : (xs ys : List LineFields) → InLines (xs ++ ys) → InLines xs
front xs ys h = λ k d lt. subst (λ (l : LineFields). IsInRange l.act) (get_or_append_left xs ys d k lt) (h k d (let n = length-append xs ys in omega (arith, lt, n)))

back : (xs ys : List LineFields) → InLines (xs ++ ys) → InLines ys
back xs ys h = λ k d lt. subst (λ (l : LineFields). IsInRange l.act) (get_or-append-add xs ys k d) (h (length xs + k) d (let n = length-append xs ys in omega (arith, lt, n)))

of_view : {A : Type 0} (view : A → LineFields) (xs : List A) → InLines (map view xs) → All (λ x. IsInRange (view x).act) xs
of_view view xs h = λ k d lt. subst (λ (l : LineFields). IsInRange l.act) (get_or-map view xs k d (view d) lt) (h k (view d) (let n = length-map xs view in omega (arith, lt, n)))

pub before_in_range : (before during : List TaskLine) (settle : Option ℕ) (finales : List Finale) → InLines (lines_of before during settle finales)
    → All (λ (line : TaskLine). IsInRange (act_of line.task)) before
before_in_range before during settle finales h =
    of_view (task_line Before) before (front (map (task_line Before) before) (map (task_line During) during ++ (settle_lines settle ++ map finale_line finales)) h)

pub during_in_range : (before during : List TaskLine) (settle : Option ℕ) (finales : List Finale) → InLines (lines_of before during settle finales)
    → All (λ (line : TaskLine). IsInRange (act_of line.task)) during
during_in_range before during settle finales h =
    of_view (task_line During) during (front (map (task_line During) during) (settle_lines settle ++ map finale_line finales)
    (back (map (task_line Before) before) (map (task_line During) during ++ (settle_lines settle ++ map finale_line finales)) h))

pub finales_in_range : (before during : List TaskLine) (settle : Option ℕ) (finales : List Finale) → InLines (lines_of before during settle finales)
    → All (λ (last : Finale). IsActor last.reader) finales
finales_in_range before during settle finales h =
    of_view finale_line finales (back (settle_lines settle) (map finale_line finales) (back (map (task_line During) during) (settle_lines settle ++ map finale_line finales)
    (back (map (task_line Before) before) (map (task_line During) during ++ (settle_lines settle ++ map finale_line finales)) h)))
