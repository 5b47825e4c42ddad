-- One step of each loop.
use Rattle.std.proofs.Common.{ℕ, zero, suc, ◌≡◌, ◌+◌, ◌<◌, ◌≤◌, Bool, true, false, cond, ◌&&◌, List, [], ◌∷◌, ◌++◌, length, drop, get_or, refl, sym, ap, ap₂, ◌∙◌, append_assoc, append-nil, add-one}
use Rattle.std.proofs.lemmas.List.{drop_all, drop_more}
use Rattle.path_tree.specs.Paths.{PathNames}
use Rattle.path_resolver.specs.declared.answer.Answer.{Answer}
use Rattle.watch_desk.specs.declared.notice.Notice.{Notice}
use Rattle.watch_desk.specs.Wanting.{is_wanted}
use Rattle.watch_desk.specs.Notices.{notice}
use Rattle.watch_desk.specs.Inner.Showing.{changes, differs_at, told_from, told_to_all}

-- what is left, one step on
goes_on : {A : Type 0} (done more left rest whole : List A) (x : A) → more ≡ done ++ x ∷ [] → left ≡ x ∷ rest → done ++ left ≡ whole → more ++ rest ≡ whole
goes_on {A} done more left rest whole x e f so_far =
    ap (λ (xs : List A). xs ++ rest) e ∙ append_assoc done (x ∷ []) rest ∙ ap (λ (xs : List A). done ++ xs) (sym f) ∙ so_far

ends : {A : Type 0} (done left whole : List A) → left ≡ [] → done ++ left ≡ whole → done ≡ whole
ends {A} done left whole f so_far = sym (append-nil done) ∙ ap (λ (xs : List A). done ++ xs) (sym f) ∙ so_far

-- ---- which answers changed

drop_none : {A : Type 0} (i : ℕ) → ◌≡◌ {A = List A} (drop i []) []
drop_none zero = refl
drop_none (suc i) = refl

one_change : (last : List Answer) (i : ℕ) (a : Answer) (more : List Answer) → changes (drop i last) (a ∷ more) ≡ differs_at last i a ∷ changes (drop (suc i) last) more
one_change [] i a more = ap (λ (bs : List Answer). changes bs (a ∷ more)) (drop_none i)
one_change (b ∷ kept) zero a more = refl
one_change (b ∷ kept) (suc i) a more = one_change kept i a more

pub change_next : (last now : List Answer) (i : ℕ) (a : Answer) (done more : List Bool) (here : Bool) (whole : List Bool) → i < length now → a ≡ get_or now i a → here ≡ differs_at last i a → more ≡ done ++ here ∷ []
    → done ++ changes (drop i last) (drop i now) ≡ whole → more ++ changes (drop (i + 1) last) (drop (i + 1) now) ≡ whole
change_next last now i a done more here whole lt is e f so_far =
    let left : drop i now ≡ a ∷ drop (i + 1) now = drop_more now i a lt ∙ ap (λ (x : Answer). x ∷ drop (i + 1) now) (sym is) in
    let first : changes (drop i last) (drop i now) ≡ here ∷ changes (drop (i + 1) last) (drop (i + 1) now) =
    ap (changes (drop i last)) left ∙ one_change last i a (drop (i + 1) now) ∙ ap₂ (λ (b : Bool) (k : ℕ). b ∷ changes (drop k last) (drop (i + 1) now)) (sym e) (sym (add-one i)) in
    goes_on done more (changes (drop i last) (drop i now)) (changes (drop (i + 1) last) (drop (i + 1) now)) whole here f first so_far

pub changes_end : (last now : List Answer) (i : ℕ) (done whole : List Bool) → length now ≤ i → done ++ changes (drop i last) (drop i now) ≡ whole → done ≡ whole
changes_end last now i done whole past so_far = ends done (changes (drop i last) (drop i now)) whole (ap (changes (drop i last)) (drop_all i now past)) so_far

-- ---- the notices to one watcher

-- what is left of paths and of what changed, one path on
left_from : (watcher : ℕ) (prefix : PathNames) (i : ℕ) (paths : List PathNames) (changed : List Bool) (p : PathNames) (c : Bool) → i < length paths → i < length changed → p ≡ get_or paths i p → c ≡ get_or changed i c
    → told_from watcher prefix i (drop i paths) (drop i changed) ≡ told_from watcher prefix i (p ∷ drop (i + 1) paths) (c ∷ drop (i + 1) changed)
left_from watcher prefix i paths changed p c lt below is so =
    ap₂ (told_from watcher prefix i) (drop_more paths i p lt ∙ ap (λ (x : PathNames). x ∷ drop (i + 1) paths) (sym is)) (drop_more changed i c below ∙ ap (λ (x : Bool). x ∷ drop (i + 1) changed) (sym so))

if_told : (b : Bool) (n : Notice) (rest : List Notice) → b ≡ true → cond b (n ∷ rest) rest ≡ n ∷ rest
if_told b n rest t = ap (λ (r : Bool). cond r (n ∷ rest) rest) t

if_not_told : (b : Bool) (n : Notice) (rest : List Notice) → b ≡ false → cond b (n ∷ rest) rest ≡ rest
if_not_told b n rest t = ap (λ (r : Bool). cond r (n ∷ rest) rest) t

pub told_next : (watcher : ℕ) (prefix : PathNames) (i : ℕ) (paths : List PathNames) (changed : List Bool) (p : PathNames) (c : Bool) (done more whole : List Notice) → i < length paths → i < length changed → p ≡ get_or paths i p → c ≡ get_or changed i c
    → (c && is_wanted prefix p) ≡ true → more ≡ done ++ notice watcher i ∷ [] → done ++ told_from watcher prefix i (drop i paths) (drop i changed) ≡ whole
    → more ++ told_from watcher prefix (i + 1) (drop (i + 1) paths) (drop (i + 1) changed) ≡ whole
told_next watcher prefix i paths changed p c done more whole lt below is so t f so_far =
    let rest : List Notice = told_from watcher prefix (i + 1) (drop (i + 1) paths) (drop (i + 1) changed) in
    goes_on done more (told_from watcher prefix i (drop i paths) (drop i changed)) rest whole (notice watcher i) f
    (left_from watcher prefix i paths changed p c lt below is so ∙ if_told (c && is_wanted prefix p) (notice watcher i) rest t) so_far

pub passed_next : (watcher : ℕ) (prefix : PathNames) (i : ℕ) (paths : List PathNames) (changed : List Bool) (p : PathNames) (c : Bool) (done whole : List Notice) → i < length paths → i < length changed → p ≡ get_or paths i p → c ≡ get_or changed i c
    → (c && is_wanted prefix p) ≡ false → done ++ told_from watcher prefix i (drop i paths) (drop i changed) ≡ whole
    → done ++ told_from watcher prefix (i + 1) (drop (i + 1) paths) (drop (i + 1) changed) ≡ whole
passed_next watcher prefix i paths changed p c done whole lt below is so t so_far =
    let rest : List Notice = told_from watcher prefix (i + 1) (drop (i + 1) paths) (drop (i + 1) changed) in
    ap (λ (ns : List Notice). done ++ ns) (sym (left_from watcher prefix i paths changed p c lt below is so ∙ if_not_told (c && is_wanted prefix p) (notice watcher i) rest t)) ∙ so_far

pub told_end : (watcher : ℕ) (prefix : PathNames) (i : ℕ) (paths : List PathNames) (changed : List Bool) (done whole : List Notice) → length paths ≤ i → done ++ told_from watcher prefix i (drop i paths) (drop i changed) ≡ whole → done ≡ whole
told_end watcher prefix i paths changed done whole past so_far =
    ends done (told_from watcher prefix i (drop i paths) (drop i changed)) whole (ap (λ (ps : List PathNames). told_from watcher prefix i ps (drop i changed)) (drop_all i paths past)) so_far

-- ---- the notices to all watchers

pub watcher_next : (watcher : ℕ) (prefix : PathNames) (prefixes left paths : List PathNames) (changed : List Bool) (done more whole : List Notice) → left ≡ prefix ∷ prefixes → more ≡ done ++ told_from watcher prefix 0 paths changed
    → done ++ told_to_all watcher left paths changed ≡ whole → more ++ told_to_all (watcher + 1) prefixes paths changed ≡ whole
watcher_next watcher prefix prefixes left paths changed done more whole e f so_far =
    ap (λ (ns : List Notice). ns ++ told_to_all (watcher + 1) prefixes paths changed) f
    ∙ append_assoc done (told_from watcher prefix 0 paths changed) (told_to_all (watcher + 1) prefixes paths changed)
    ∙ ap (λ (ps : List PathNames). done ++ told_to_all watcher ps paths changed) (sym e) ∙ so_far

pub watchers_end : (watcher : ℕ) (left paths : List PathNames) (changed : List Bool) (done whole : List Notice) → left ≡ [] → done ++ told_to_all watcher left paths changed ≡ whole → done ≡ whole
watchers_end watcher left paths changed done whole e so_far = ends done (told_to_all watcher left paths changed) whole (ap (λ (ps : List PathNames). told_to_all watcher ps paths changed) e) so_far
