-- The events of a script that parts make, part by part.
use Rattle.session.proofs.Words.{suc, if◌then◌else◌, arith, subst, ne_eqb, length-append, get_or_append_left, Fields, asked_from, asked_of, all_draws, draws_before_start, least_for, settling_line, ◌≡◌, ℕ, List, [], ◌∷◌, ◌++◌, map, Bool, true, false, Option, Some, None, refl, sym, ap, ◌∙◌, append_assoc, is_some, ◌||◌, All, Contains, list_any, map-append, All-nil, All-head, All-tail, All-cons, All-append, TaskLine, Finale, Stage, Before, During, After, Act, LineFields, act_of, task_line, settle_lines, finale_line, script_of_parts, AreListed, IsMentioned, Step, Commit, Draw, Open, Pending, none_pending, pending_after, events_of, events_of_line, events_from, settling_step, DrawFields, commits_by, draws_in, is_settle, staged_events, staged_from, settles, opens_by, above, at_end, before_steps, below, during_steps, end_steps, events_at, finale_step, settling, settling_lines, steps, waiting_below}
use Rattle.session_script.specs.declared.script.Task.{Task}
use Rattle.session_script.specs.declared.script.Task.TheVariants as tasks
use Rattle.session_script.specs.declared.script.Parts.{Parts}
use Rattle.session_script.specs.Scripts as acts
use Rattle.session.proofs.Committed.{HasNone, not_among}
use Rattle.session.proofs.Staged.{draws_more, steps_more, unstaged}

-- ---- the draws of `settle`

abbrev pub EndsDrawn : List DrawFields → Type 0
EndsDrawn ds = (earlier : List DrawFields) × (ds ≡ earlier ++ settling_line ∷ settling_line ∷ [])

-- ---- with their stages

tasks_staged : (stage : Stage) (p : Pending) (ts : List TaskLine) (rest : List LineFields)
    → staged_from p (map (task_line stage) ts ++ rest) ≡ map (λ (e : Step). (stage, e)) (events_at p ts) ++ staged_from (waiting_below p ts) rest
tasks_staged stage p [] rest = refl
tasks_staged stage p (t ∷ ts) rest = let here = events_of_line p (act_of t.task) in let next = pending_after p (act_of t.task) in
    let put : Step → Stage × Step = λ e. (stage, e) in ap (λ (es : List (Stage × Step)). map put here ++ es) (tasks_staged stage next ts rest)
    ∙ sym (append_assoc (map put here) (map put (events_at next ts)) (staged_from (waiting_below next ts) rest))
    ∙ ap (λ (es : List (Stage × Step)). es ++ staged_from (waiting_below next ts) rest) (sym (map-append put here (events_at next ts)))

finales_staged : (p : Pending) (fs : List Finale) → staged_from p (map finale_line fs) ≡ at_end (map finale_step fs)
finales_staged p [] = refl
finales_staged p (f ∷ fs) = ap (λ (es : List (Stage × Step)). (After, finale_step f) ∷ es) (finales_staged p fs)

ends_staged : (p : Pending) (settle : Option ℕ) (fs : List Finale) → staged_from p (settle_lines settle ++ map finale_line fs) ≡ at_end (settling (is_some settle) ++ map finale_step fs)
ends_staged p (Some number) fs = ap (λ (es : List (Stage × Step)). (After, settling_step) ∷ (After, settling_step) ∷ es) (finales_staged p fs)
ends_staged p None fs = finales_staged p fs

pub staged_parts : (p : Parts) → staged_events (script_of_parts p) ≡ (above (before_steps p) ++ below (during_steps p)) ++ at_end (end_steps p)
staged_parts p = let last = settle_lines p.settle ++ map finale_line p.finales.items in let mid = waiting_below none_pending p.before.items in
    tasks_staged Before none_pending p.before.items (map (task_line During) p.during.items ++ last)
    ∙ ap (λ (es : List (Stage × Step)). above (before_steps p) ++ es)
    (tasks_staged During mid p.during.items last ∙ ap (λ (es : List (Stage × Step)). below (during_steps p) ++ es) (ends_staged (waiting_below mid p.during.items) p.settle p.finales.items))
    ∙ sym (append_assoc (above (before_steps p)) (below (during_steps p)) (at_end (end_steps p)))

steps_from : (p : Pending) (lines : List LineFields) → steps (staged_from p lines) ≡ events_from p lines
steps_from p [] = refl
steps_from p (l ∷ lines) = steps_more (map (λ (e : Step). (l.stage, e)) (events_of_line p l.act)) (staged_from (pending_after p l.act) lines)
    ∙ (λ i. unstaged l.stage (events_of_line p l.act) i ++ steps_from (pending_after p l.act) lines i)

-- without them
pub events_parts : (p : Parts) → events_of (script_of_parts p) ≡ (before_steps p ++ during_steps p) ++ end_steps p
events_parts p = let b = before_steps p in let d = during_steps p in let e = end_steps p in
    sym (steps_from none_pending (script_of_parts p).lines) ∙ ap steps (staged_parts p) ∙ steps_more (above b ++ below d) (at_end e)
    ∙ (λ i. (steps_more (above b) (below d) ∙ (λ j. unstaged Before b j ++ unstaged During d j)) i ++ unstaged After e i)

-- ---- those at the end

finales_draw_nothing : (fs : List Finale) → draws_in (map finale_step fs) ≡ []
finales_draw_nothing [] = refl
finales_draw_nothing (f ∷ fs) = finales_draw_nothing fs

finales_commit_nothing : (n : ℕ) (fs : List Finale) → commits_by n (map finale_step fs) ≡ []
finales_commit_nothing n [] = refl
finales_commit_nothing n (f ∷ fs) = finales_commit_nothing n fs

pub draws_at_end : (p : Parts) → draws_in (end_steps p) ≡ settling_lines (is_some p.settle)
draws_at_end p = by p.settle
  where
    by : (s : Option ℕ) → draws_in (settling (is_some s) ++ map finale_step p.finales.items) ≡ settling_lines (is_some s)
    by (Some number) = ap (λ (ds : List DrawFields). record { asked = 1048576; fates = [] } ∷ record { asked = 1048576; fates = [] } ∷ ds) (finales_draw_nothing p.finales.items)
    by None = finales_draw_nothing p.finales.items

pub commits_at_end : (n : ℕ) (p : Parts) → commits_by n (end_steps p) ≡ []
commits_at_end n p = by p.settle
  where
    by : (s : Option ℕ) → commits_by n (settling (is_some s) ++ map finale_step p.finales.items) ≡ []
    by (Some number) = finales_commit_nothing n p.finales.items
    by None = finales_commit_nothing n p.finales.items

pub opens_at_end : (n : ℕ) (p : Parts) → opens_by n (end_steps p) ≡ opens_by n (map finale_step p.finales.items)
opens_at_end n p = by p.settle
  where
    by : (s : Option ℕ) → opens_by n (settling (is_some s) ++ map finale_step p.finales.items) ≡ opens_by n (map finale_step p.finales.items)
    by (Some number) = refl
    by None = refl

-- ---- whether the script settles

abbrev any_settles : List LineFields → Bool
any_settles ls = list_any (λ (l : LineFields). is_settle l.act) ls

no_task_settles : (t : Task) → is_settle (act_of t) ≡ false
no_task_settles (tasks.Put editor path content) = refl
no_task_settles (tasks.Fill editor path size from) = refl
no_task_settles (tasks.Remove editor path) = refl
no_task_settles (tasks.MakeFolder editor path) = refl
no_task_settles (tasks.RemoveFolder editor path) = refl
no_task_settles (tasks.Commit editor) = refl
no_task_settles (tasks.Draw asked fates) = refl
no_task_settles (tasks.Open reader path) = refl

after_tasks : (stage : Stage) (ts : List TaskLine) (rest : List LineFields) → any_settles (map (task_line stage) ts ++ rest) ≡ any_settles rest
after_tasks stage [] rest = refl
after_tasks stage (t ∷ ts) rest = ap (λ (b : Bool). b || any_settles (map (task_line stage) ts ++ rest)) (no_task_settles t.task) ∙ after_tasks stage ts rest

no_finale_settles : (fs : List Finale) → any_settles (map finale_line fs) ≡ false
no_finale_settles [] = refl
no_finale_settles (f ∷ fs) = no_finale_settles fs

-- then there is a line that says so
pub settle_there : (p : Parts) → settles (script_of_parts p) ≡ true → is_some p.settle ≡ true
settle_there p s = let last = settle_lines p.settle ++ map finale_line p.finales.items in
    by p.settle (sym (after_tasks Before p.before.items (map (task_line During) p.during.items ++ last) ∙ after_tasks During p.during.items last) ∙ s)
  where
    by : (o : Option ℕ) → any_settles (settle_lines o ++ map finale_line p.finales.items) ≡ true → is_some o ≡ true
    by (Some number) h = refl
    by None h = absurd (let e : true ≡ false = sym h ∙ no_finale_settles p.finales.items in cc)

-- and its last two draws are those of `settle`
pub settles_last : (p : Parts) → settles (script_of_parts p) ≡ true → EndsDrawn (draws_in (events_of (script_of_parts p)))
settles_last p s = let first = before_steps p ++ during_steps p in (
  draws_in first,
  ap draws_in (events_parts p) ∙ draws_more first (end_steps p) ∙ ap (λ (ds : List DrawFields). draws_in first ++ ds) (draws_at_end p ∙ ap settling_lines (settle_there p s)),
)

-- ---- whom the events are of

-- whom the event is of is among the script's editors or readers
abbrev pub IsNamed : List ℕ → List ℕ → Step → Type 0
IsNamed editors readers (Commit editor edits) = Contains editors editor
IsNamed editors readers (Draw asked fates) = Unit {0}
IsNamed editors readers (Open reader path) = Contains readers reader

module _ (editors readers : List ℕ) where
  abbrev Named : Step → Type 0
  Named = IsNamed editors readers

  abbrev Mentioned : LineFields → Type 0
  Mentioned l = IsMentioned editors readers l.act

  one : (p : Pending) (act : Act) → IsMentioned editors readers act → All Named (events_of_line p act)
  one p (acts.Put editor path content) m = All-nil Named
  one p (acts.Fill editor path size from) m = All-nil Named
  one p (acts.Remove editor path) m = All-nil Named
  one p (acts.MakeFolder editor path) m = All-nil Named
  one p (acts.RemoveFolder editor path) m = All-nil Named
  one p (acts.Commit editor) m = All-cons Named (Commit editor (p editor)) [] m (All-nil Named)
  one p (acts.Draw asked fates) m = All-cons Named (Draw asked fates) [] tt (All-nil Named)
  one p (acts.Open reader path) m = All-cons Named (Open reader path) [] m (All-nil Named)
  one p acts.Settle m = All-cons Named settling_step (settling_step ∷ []) tt (All-cons Named settling_step [] tt (All-nil Named))

  all_named : (p : Pending) (lines : List LineFields) → All Mentioned lines → All Named (events_from p lines)
  all_named p [] m = All-nil Named
  all_named p (l ∷ lines) m = All-append Named (events_of_line p l.act) (events_from (pending_after p l.act) lines)
      (one p l.act (All-head Mentioned l lines m)) (all_named (pending_after p l.act) lines (All-tail Mentioned l lines m))

  -- who isn't among them has made no commit, and was asked for nothing
  no_commits : (editor : ℕ) → HasNone editors editor → (es : List Step) → All Named es → commits_by editor es ≡ []
  no_commits editor lacks [] m = refl
  no_commits editor lacks (Commit e edits ∷ es) m = ap (λ (b : Bool). (if b then edits ∷ [] else []) ++ commits_by editor es)
      (ne_eqb e editor (not_among editors editor e lacks (All-head Named (Commit e edits) es m))) ∙ no_commits editor lacks es (All-tail Named (Commit e edits) es m)
  no_commits editor lacks (Draw asked fates ∷ es) m = no_commits editor lacks es (All-tail Named (Draw asked fates) es m)
  no_commits editor lacks (Open reader path ∷ es) m = no_commits editor lacks es (All-tail Named (Open reader path) es m)

  none_asked : (reader : ℕ) → HasNone readers reader → (before all above : ℕ) (es : List (Stage × Step)) → All Named (steps es) → asked_from reader before all above es ≡ []
  none_asked reader lacks before all above [] m = refl
  none_asked reader lacks before all above ((stage, Commit e edits) ∷ es) m = none_asked reader lacks before all above es (All-tail Named (Commit e edits) (steps es) m)
  none_asked reader lacks before all above ((stage, Draw asked fates) ∷ es) m = none_asked reader lacks before all (suc above) es (All-tail Named (Draw asked fates) (steps es) m)
  none_asked reader lacks before all above ((stage, Open r path) ∷ es) m =
      ap (λ (b : Bool). (if b then record { path = path; least = least_for above before all stage } ∷ [] else []) ++ asked_from reader before all above es)
      (ne_eqb r reader (not_among readers reader r lacks (All-head Named (Open r path) (steps es) m)))
      ∙ none_asked reader lacks before all above es (All-tail Named (Open r path) (steps es) m)

pub none_of_editor : (script : Fields) → AreListed script → (editor : ℕ) → HasNone script.editors editor → commits_by editor (events_of script) ≡ []
none_of_editor script listed editor lacks = no_commits script.editors script.readers editor lacks (events_of script) (all_named script.editors script.readers none_pending script.lines listed)

pub none_of_reader : (script : Fields) → AreListed script → (reader : ℕ) → HasNone script.readers reader → asked_of reader script ≡ []
none_of_reader script listed reader lacks = none_asked script.editors script.readers reader lacks (draws_before_start script) (all_draws script) 0 (staged_events script)
    (subst (All (IsNamed script.editors script.readers)) (sym (steps_from none_pending script.lines)) (all_named script.editors script.readers none_pending script.lines listed))
