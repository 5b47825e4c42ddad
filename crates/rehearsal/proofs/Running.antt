-- Lines of a script one after another, and the report of their events.
use Rattle.rehearsal.proofs.Words.{◌≡◌, ℕ, List, [], ◌∷◌, ◌++◌, Result, Ok, Err, refl, sym, ap, ◌∙◌, append-nil, append_assoc, subst, OnOk, Fields, LineFields, OutputState, Puts, puts_nothing, puts_then, puts_as, puts_ok, Step, WorldState, initial_world, reply_to, happens, after_all, MeetsHeadline, world_after, events_of_line, pending_after, events_from, none_pending, subject_words, path_words, line_of, report_line, report_in, Reply, Bytes, report_of, Stands, HasRun, GoesOn, Rehearses, EveryRunMeetsTheHeadline, arith, settle_lines, Some, events_of, puts_none, Draw, During}
use Rattle.std.proofs.lemmas.List.Elements.{All-nil}
use Rattle.carousel_world.proofs.CallerLemmas.{after_all-append}
use Rattle.carousel_world.specs.View.{Kept, StandsFor}
use Rattle.generation.specs.Lawful.{IsPublishable}
use Rattle.shell_streams.specs.declared.output.OutputFault.{OutputFault}
use Rattle.shell_streams.specs.declared.output.OutputFault.TheVariants as faults
use Rattle.session_script.specs.Scripts as lines
use Rattle.ts_packet.specs.declared.Fate.{Fate}
use Rattle.rehearsal.specs.declared.rehearsal.Rehearsal.{Rehearsal}

-- the report of one event more
report_more : (w : WorldState) (es : List Step) (e : Step) → report_in w es ++ report_line e (reply_to (after_all w es) e) ≡ report_in w (es ++ e ∷ [])
report_more w [] e = sym (append-nil (report_line e (reply_to w e)))
report_more w (f ∷ fs) e = append_assoc (report_line f (reply_to w f)) (report_in (happens w f) fs) (report_line e (reply_to (after_all w (f ∷ fs)) e))
    ∙ ap (λ bs. report_line f (reply_to w f) ++ bs) (report_more (happens w f) fs e)

-- the line of an event
pub line_as : (e : Step) (words path : Bytes) (reply given : Reply) → words ≡ subject_words e → path ≡ path_words e → reply ≡ given → line_of words path reply ≡ report_line e given
line_as e words path reply given a b c = λ i. line_of (a i) (b i) (c i)

pub on_ok : {T E A : Type 0} (r : Result T E) → A → OnOk r A
on_ok (Ok x) a = a
on_ok (Err e) a = tt

-- an event more in the world
pub world_more : (k : Kept) (ws : List ℕ) (before : List Step) (e : Step) → StandsFor k (happens (world_after 1 ws before) e) → StandsFor k (world_after 1 ws (before ++ e ∷ []))
world_more k ws before e st = subst (StandsFor k) (sym (after_all-append (initial_world 1 ws) before (e ∷ []))) st

-- what is promised of every list of events holds of none
pub meets_nothing : EveryRunMeetsTheHeadline → (weights : List ℕ) → MeetsHeadline 1 weights []
meets_nothing law weights = law 1 weights [] (record { carousel_id = omega arith; few = omega arith; each = All-nil IsPublishable })

pub runs_first : {X : _} {F : _} {g : _} {ws : List ℕ} {r : Rehearsal X F g} (script : Fields) (o : OutputState) → Stands r ws [] none_pending → HasRun r ws script script.lines o o
runs_first script o s = record { happened = []; pending = none_pending; split = refl; stands = s; puts = puts_nothing tt o }

-- the same lines in other words
pub has_run_as : {X : _} {F : _} {g : _} {ws : List ℕ} {r : Rehearsal X F g} {script : Fields} {left others : List LineFields} {a b : OutputState} → left ≡ others → HasRun r ws script left a b → HasRun r ws script others a b
has_run_as {ws = ws} {r = r} {script = script} {a = a} {b = b} e h = let P : List LineFields → Type 0 = λ ls. HasRun r ws script ls a b in subst P e h

-- a line at which nothing happens
pub runs_quietly : {X : _} {F : _} {g : _} {ws : List ℕ} {r s : Rehearsal X F g} {script : Fields} {line : LineFields} {left : List LineFields} {a b : OutputState} (h : HasRun r ws script (line ∷ left) a b)
    → [] ≡ events_of_line h.pending line.act → Stands s ws h.happened (pending_after h.pending line.act) → HasRun s ws script left a b
runs_quietly {line = line} {left = left} h none stands = record {
  happened = h.happened;
  pending = pending_after h.pending line.act;
  split = h.split ∙ ap (λ (es : List Step). h.happened ++ (es ++ events_from (pending_after h.pending line.act) left)) (sym none);
  stands = stands;
  puts = h.puts;
}

split_at : {X : _} {F : _} {g : _} {ws : List ℕ} {r : Rehearsal X F g} {script : Fields} {line : LineFields} {left : List LineFields} {a b : OutputState} (h : HasRun r ws script (line ∷ left) a b) (e : Step)
    → e ∷ [] ≡ events_of_line h.pending line.act → events_of script ≡ (h.happened ++ e ∷ []) ++ events_from (pending_after h.pending line.act) left
split_at {line = line} {left = left} h e one = let rest = events_from (pending_after h.pending line.act) left in
    h.split ∙ ap (λ (es : List Step). h.happened ++ (es ++ rest)) (sym one) ∙ sym (append_assoc h.happened (e ∷ []) rest)

-- a line at which this event happens, whose line is put
pub runs_event : {X : _} {F : _} {g : _} {ws : List ℕ} {r s : Rehearsal X F g} {script : Fields} {line : LineFields} {left : List LineFields} {a b c : OutputState} (outcome : Result (Unit {0}) OutputFault)
    (h : HasRun r ws script (line ∷ left) a b) (e : Step) → e ∷ [] ≡ events_of_line h.pending line.act → Stands s ws (h.happened ++ e ∷ []) (pending_after h.pending line.act)
    → Puts outcome b c (report_line e (reply_to (world_after 1 ws h.happened) e)) → GoesOn outcome s ws script left a c
runs_event {ws = ws} {line = line} {left = left} (Ok x) h e one stands p = record {
  happened = h.happened ++ e ∷ [];
  pending = pending_after h.pending line.act;
  split = split_at h e one;
  stands = stands;
  puts = puts_ok tt (puts_as (report_more (initial_world 1 ws) h.happened e) (puts_then h.puts p));
}
runs_event {ws = ws} {line = line} {left = left} (Err f) h e one stands p = record {
  happened = h.happened ++ e ∷ [];
  rest = events_from (pending_after h.pending line.act) left;
  events = split_at h e one;
  all = tt;
  puts = puts_as (report_more (initial_world 1 ws) h.happened e) (puts_then h.puts p);
  empty = tt;
  headline = stands.headline;
}

abbrev pub drawing : List Fate → LineFields
drawing fates = record { number = 0; stage = During; act = lines.Draw 1048576 fates }

-- a line that settles is two draws all of whose packets arrive
pub runs_settling : {X : _} {F : _} {g : _} {ws : List ℕ} {r : Rehearsal X F g} {script : Fields} {left : List LineFields} {a b : OutputState} (number : ℕ) {first last : List Fate} → first ≡ [] → last ≡ []
    → HasRun r ws script (settle_lines (Some number) ++ left) a b → HasRun r ws script (drawing first ∷ drawing last ∷ left) a b
runs_settling {left = left} number f l h = record {
  happened = h.happened;
  pending = h.pending;
  split = h.split ∙ (λ i. h.happened ++ Draw 1048576 (sym f i) ∷ Draw 1048576 (sym l i) ∷ events_from h.pending left);
  stands = h.stands;
  puts = h.puts;
}

-- the rehearsal ends, by a fault or since all lines were run, and what was pending was written then
pub rehearses_so : {T : Type 0} {X : _} {F : _} {g : _} {ws : List ℕ} {r : Rehearsal X F g} {script : Fields} {left : List LineFields} {a b c : OutputState} (outcome : Result T OutputFault)
    (h : HasRun r ws script left a b) → OnOk outcome (events_from h.pending left ≡ []) → Puts outcome b c [] → OnOk outcome (c.pending ≡ []) → Rehearses outcome a c ws script
rehearses_so {ws = ws} {left = left} outcome h all flushed empty = record {
  happened = h.happened;
  rest = events_from h.pending left;
  events = h.split;
  all = all;
  puts = puts_as (append-nil (report_of ws h.happened)) (puts_then h.puts flushed);
  empty = empty;
  headline = h.stands.headline;
}

-- there was no memory for the next line
pub runs_none : {T : Type 0} {X : _} {F : _} {g : _} {ws : List ℕ} {r : Rehearsal X F g} {script : Fields} {left : List LineFields} {a b : OutputState} → HasRun r ws script left a b → Rehearses {T = T} (Err faults.NoMemory) a b ws script
runs_none h = rehearses_so (Err faults.NoMemory) h tt (puts_none _ []) tt

-- no world could be made
pub rehearses_nothing : {T : Type 0} {ws : List ℕ} (script : Fields) (o : OutputState) → MeetsHeadline 1 ws [] → Rehearses {T = T} (Err faults.NoMemory) o o ws script
rehearses_nothing script o m = record {
  happened = [];
  rest = events_of script;
  events = refl;
  all = tt;
  puts = puts_none o [];
  empty = tt;
  headline = m;
}
