-- Tasks, one after another, and whose they are.
use Rattle.session.proofs.Words.{BTreeMap, ◌≡◌, ℕ, ◌==◌, Bool, true, false, List, [], ◌∷◌, ◌++◌, map, Result, Ok, Err, refl, sym, ap, ◌∙◌, subst, append-nil, append_assoc, IfOk, if◌then◌else◌, All, Vec, Global, map-append, All-push, PathNames, TaskLine, act_of, Step, Commit, Draw, Open, InRange, Happening, view_happening, Pending, pending_after, events_of_line, ByActor, CommitLine, DrawLine, lists_of, DrawFields, commits_by, draws_in, opens_by, edits_of, draw_of, IsDrawLine, HasSplit, events_at, waiting_below}
use Rattle.rehearsal.specs.declared.interpreter.Happening.TheVariants as deeds
use Rattle.session.specs.declared.plan.Work.{Work}
use Rattle.session.proofs.Staged.{commits_more, draws_more, idle_of, opens_more}
use Rattle.session.proofs.Taking.{either_side}

pub if_ok_map : {T E : Type 0} {P Q : T → Type 0} (r : Result T E) → ((x : T) → P x → Q x) → IfOk r P → IfOk r Q
if_ok_map (Ok x) f h = f x h
if_ok_map (Err e) f h = tt

-- ---- one task more

pub events_more : (p : Pending) (ts : List TaskLine) (t : TaskLine) → events_at p (ts ++ t ∷ []) ≡ events_at p ts ++ events_of_line (waiting_below p ts) (act_of t.task)
events_more p [] t = append-nil (events_of_line p (act_of t.task))
events_more p (x ∷ ts) t = let here = events_of_line p (act_of x.task) in let next = pending_after p (act_of x.task) in
    ap (λ (es : List Step). here ++ es) (events_more next ts t) ∙ sym (append_assoc here (events_at next ts) (events_of_line (waiting_below next ts) (act_of t.task)))

pub waiting_more : (p : Pending) (ts : List TaskLine) (t : TaskLine) → waiting_below p (ts ++ t ∷ []) ≡ pending_after (waiting_below p ts) (act_of t.task)
waiting_more p [] t = refl
waiting_more p (x ∷ ts) t = waiting_more (pending_after p (act_of x.task)) ts t

-- ---- one event more

-- an actor's list with one element more, where the event is the actor's
pub one_given : {A B : Type 0} (F : List A → List B) (x : A) (y : B) → ((l : List A) → F (l ++ x ∷ []) ≡ F l ++ y ∷ []) → (n actor : ℕ) (l : List A) (cs : List B) → F l ≡ cs
    → F (if n == actor then l ++ x ∷ [] else l) ≡ cs ++ ((if actor == n then y ∷ [] else []) ++ [])
one_given F x y push n actor l cs h = by (n == actor) (actor == n) (either_side n actor)
  where
    by : (t u : Bool) → t ≡ u → F (if t then l ++ x ∷ [] else l) ≡ cs ++ ((if u then y ∷ [] else []) ++ [])
    by true true e = push l ∙ ap (λ (ys : List _). ys ++ y ∷ []) h
    by false false e = h ∙ sym (append-nil cs)
    by true false e = absurd (cc)
    by false true e = absurd (cc)

module _ (old : Work) (done : List Step) (h : HasSplit old done) (what : Happening) where
  pub split_commit : (line : CommitLine) (editor : ℕ) (edit_lines : BTreeMap ℕ ℕ) (commits : ByActor CommitLine) → what ≡ deeds.Commit editor line.edits
      → ((n : ℕ) → lists_of commits n ≡ (if n == editor then lists_of old.commits n ++ line ∷ [] else lists_of old.commits n))
      → HasSplit (record { commits = commits; edit_lines = edit_lines; draws = old.draws; paths = old.paths }) (done ++ view_happening what ∷ [])
  split_commit line editor edit_lines commits is given = let e = Commit editor line.edits.items in
      subst (λ (x : Happening). HasSplit (record { commits = commits; edit_lines = edit_lines; draws = old.draws; paths = old.paths }) (done ++ view_happening x ∷ [])) (sym is)
      (record {
        commits = λ n. ap (map edits_of) (given n)
            ∙ one_given (map edits_of) line (edits_of line) (λ l. map-append edits_of l (line ∷ [])) n editor (lists_of old.commits n) (commits_by n done) (h.commits n) ∙ sym (commits_more n done (e ∷ []));
        draws = h.draws ∙ sym (idle_of draws_in draws_more done e refl);
        in_range = h.in_range;
        paths = λ n. h.paths n ∙ sym (idle_of (opens_by n) (opens_more n) done e refl);
      })

  pub split_draw : (line : DrawLine) (draws : Vec DrawLine Global) → what ≡ deeds.Draw line.asked line.fates → InRange (view_happening what) → draws.items ≡ old.draws.items ++ line ∷ []
      → HasSplit (record { commits = old.commits; edit_lines = old.edit_lines; draws = draws; paths = old.paths }) (done ++ view_happening what ∷ [])
  split_draw line draws is ranged pushed = let e = Draw line.asked line.fates.items in
      let within : IsDrawLine line = (let r : InRange e = subst (λ (x : Happening). InRange (view_happening x)) is ranged in r) in
      subst (λ (x : Happening). HasSplit (record { commits = old.commits; edit_lines = old.edit_lines; draws = draws; paths = old.paths }) (done ++ view_happening x ∷ [])) (sym is)
      (record {
        commits = λ n. h.commits n ∙ sym (idle_of (commits_by n) (commits_more n) done e refl);
        draws = ap (map draw_of) pushed ∙ map-append draw_of old.draws.items (line ∷ []) ∙ ap (λ (ds : List DrawFields). ds ++ draw_of line ∷ []) h.draws ∙ sym (draws_more done (e ∷ []));
        in_range = subst (All IsDrawLine) (sym pushed) (All-push IsDrawLine old.draws.items line h.in_range within);
        paths = λ n. h.paths n ∙ sym (idle_of (opens_by n) (opens_more n) done e refl);
      })

  pub split_open : (reader : ℕ) (path : PathNames) (paths : ByActor PathNames) → what ≡ deeds.Open reader path
      → ((n : ℕ) → lists_of paths n ≡ (if n == reader then lists_of old.paths n ++ path ∷ [] else lists_of old.paths n))
      → HasSplit (record { commits = old.commits; edit_lines = old.edit_lines; draws = old.draws; paths = paths }) (done ++ view_happening what ∷ [])
  split_open reader path paths is given = let e = Open reader path in
      subst (λ (x : Happening). HasSplit (record { commits = old.commits; edit_lines = old.edit_lines; draws = old.draws; paths = paths }) (done ++ view_happening x ∷ [])) (sym is)
      (record {
        commits = λ n. h.commits n ∙ sym (idle_of (commits_by n) (commits_more n) done e refl);
        draws = h.draws ∙ sym (idle_of draws_in draws_more done e refl);
        in_range = h.in_range;
        paths = λ n. given n ∙ one_given (λ (l : List PathNames). l) path path (λ l. refl) n reader (lists_of old.paths n) (opens_by n done) (h.paths n) ∙ sym (opens_more n done (e ∷ []));
      })
