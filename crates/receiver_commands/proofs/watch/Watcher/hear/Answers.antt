use Rattle.std.proofs.Common.{◌≡◌, ◌≢◌, ◌++◌, ◌∷◌, [], refl, sym, ap, ◌∙◌, append-nil}
use Rattle.std.specs.Arc.{arc_value}
use Rattle.std.proofs.lemmas.Result.{err_from_is_err_and}
use Rattle.path_resolver.specs.Shots.{held_of}
use Rattle.path_resolver.specs.declared.shot.Shot.{Shot}
use Rattle.tuner_core.specs.Answers.{fed_after}
use Rattle.tuner_core.specs.declared.told.Fed.TheVariants.{Changed}
use Rattle.watch_desk.specs.Parts.{whole_modules}
use Rattle.watch_desk.specs.View.{state}
use Rattle.shell_streams.proofs.CallerLemmas.{puts_nothing, puts_none, puts_then, puts_as}
use Rattle.receiver_commands.proofs.Telling.{lines_none, lines_shown}
use Rattle.receiver_commands.proofs.Showing.{on_ok, part_stays, stands_still, stands_shown}
use Rattle.receiver_commands.proofs.watch.Watcher.hear.Goals as goal

pub returns-in_err-fed-clause-puts : goal.returns-in_err-fed-clause-puts
returns-in_err-fed-clause-puts g c =
    let p = err_from_is_err_and c.from_residual.result c.from_residual.ensures.1 in
    λ paths prefixes before st. rw (p.1, p.2) (puts_none _ _)

pub returns-in_default-clause-puts : goal.returns-in_default-clause-puts
returns-in_default-clause-puts g c = λ paths prefixes before st.
    let other : fed_after before c.args.candidate.now ≢ Changed = λ e. c.in_default.not-Changed (c.in_ok-fed.ensures.looks_back before st.tuner_stands ∙ e) in
    puts_as (sym (lines_none c.shots_are_needed_at_changes.ensures paths prefixes before c.args.candidate.now (c.shots_are_needed_at_changes.ensures.nothing before c.args.candidate.now other))) (puts_nothing tt _)

pub returns-in_default-clause-stands : goal.returns-in_default-clause-stands
returns-in_default-clause-stands g c = λ paths prefixes before st.
    let other : fed_after before c.args.candidate.now ≢ Changed = λ e. c.in_default.not-Changed (c.in_ok-fed.ensures.looks_back before st.tuner_stands ∙ e) in
    stands_still before c.args.candidate.now c.shots_are_needed_at_changes.ensures st (c.shots_are_needed_at_changes.ensures.nothing before c.args.candidate.now other) (c.in_ok-fed.ensures.stands before st.tuner_stands) refl refl

pub returns-then-whole-self-clause-puts : goal.returns-then-whole-self-clause-puts
returns-then-whole-self-clause-puts g c = λ paths prefixes before st.
    let longer = before ++ c.args.candidate.now ∷ [] in
    let held = ap held_of c.deref.ensures ∙ ap (λ v. v.held) (c.in_ok-shot.ensures.held longer (c.in_ok-fed.ensures.stands before st.tuner_stands)) in
    let stays = part_stays c.shots_are_needed_at_changes.ensures before c.args.candidate.now (held_of c.deref.result.now) c.args.self.now.whole c.whole_modules-whole.result
    (sym c.is_of_blocks.ensures ∙ c.if-is_of_blocks.true) c.whole_modules-whole.ensures held st.whole_are c.if-whole-self.true in
    puts_as (sym (lines_none c.shots_are_needed_at_changes.ensures paths prefixes before c.args.candidate.now stays)) (puts_nothing tt _)

pub returns-then-whole-self-clause-stands : goal.returns-then-whole-self-clause-stands
returns-then-whole-self-clause-stands g c = λ paths prefixes before st.
    let longer = before ++ c.args.candidate.now ∷ [] in
    let held = ap held_of c.deref.ensures ∙ ap (λ v. v.held) (c.in_ok-shot.ensures.held longer (c.in_ok-fed.ensures.stands before st.tuner_stands)) in
    let stays = part_stays c.shots_are_needed_at_changes.ensures before c.args.candidate.now (held_of c.deref.result.now) c.args.self.now.whole c.whole_modules-whole.result
    (sym c.is_of_blocks.ensures ∙ c.if-is_of_blocks.true) c.whole_modules-whole.ensures held st.whole_are c.if-whole-self.true in
    stands_still before c.args.candidate.now c.shots_are_needed_at_changes.ensures st stays (c.in_ok-fed.ensures.stands before st.tuner_stands) refl refl

pub returns-in_err-shot-clause-puts : goal.returns-in_err-shot-clause-puts
returns-in_err-shot-clause-puts g c =
    let p = err_from_is_err_and c.from_residual-in_err-shot.result c.from_residual-in_err-shot.ensures.1 in
    λ paths prefixes before st. rw (p.1, p.2) (puts_none _ _)

pub returns-in_err-shown-clause-puts : goal.returns-in_err-shown-clause-puts
returns-in_err-shown-clause-puts g c =
    let p = err_from_is_err_and c.from_residual-in_err-shown.result c.from_residual-in_err-shown.ensures.1 in
    λ paths prefixes before st. rw (p.1, p.2) (puts_none _ _)

pub returns-in-Err-clause-puts : goal.returns-in-Err-clause-puts
returns-in-Err-clause-puts g c = λ paths prefixes before st. puts_none _ _

pub put_notices-requires : goal.put_notices-requires
put_notices-requires g c = rw (c.deref-2.ensures.value, c.paths.ensures, c.show.ensures.same.1) c.in-Ok.ensures.within

pub returns-in_err-put_notices-clause-puts : goal.returns-in_err-put_notices-clause-puts
returns-in_err-put_notices-clause-puts g c = λ paths prefixes before st.
    let p = err_from_is_err_and c.from_residual-in_err-put_notices.result c.from_residual-in_err-put_notices.ensures.1 in
    let same : arc_value c.in_ok-shown.shown ≡ arc_value c.in_ok-shot.shot = cc (c.in_ok-shown.ensures) in
    let longer = before ++ c.args.candidate.now ∷ [] in
    let snapshot = c.in_ok-shot.ensures.held longer (c.in_ok-fed.ensures.stands before st.tuner_stands) in
    let d = state c.args.self.now.desk in
    let lines = lines_shown paths prefixes c.paths.result.now st.shots before c.args.candidate.now d.prefixes d.paths c.deref-2.result.now
    (held_of c.deref-3.result.now) (held_of (arc_value c.in_ok-shown.shown)) c.deref-3.result.now.mark
    st.up_to_date (c.paths.ensures ∙ c.show.ensures.same.1 ∙ st.paths_are)
    (ap (λ (s : Shot). s.mark) c.deref-3.ensures ∙ ap (λ v. v.mark) snapshot)
    (ap held_of c.deref-3.ensures ∙ ap (λ v. v.held) snapshot)
    (c.deref-2.ensures.value ∙ c.in-Ok.ensures.told st.shots st.desk_stands) st.prefixes_are st.paths_are (ap held_of (same ∙ sym c.deref-3.ensures)) in
    rw (p.1, p.2) (puts_as lines c.in_err-put_notices.ensures)

pub returns-clause-puts : goal.returns-clause-puts
returns-clause-puts g c = λ paths prefixes before st.
    let same : arc_value c.in_ok-shown.shown ≡ arc_value c.in_ok-shot.shot = cc (c.in_ok-shown.ensures) in
    let longer = before ++ c.args.candidate.now ∷ [] in
    let snapshot = c.in_ok-shot.ensures.held longer (c.in_ok-fed.ensures.stands before st.tuner_stands) in
    let d = state c.args.self.now.desk in
    let lines = lines_shown paths prefixes c.paths.result.now st.shots before c.args.candidate.now d.prefixes d.paths c.deref-2.result.now
    (held_of c.deref-3.result.now) (held_of (arc_value c.in_ok-shown.shown)) c.deref-3.result.now.mark
    st.up_to_date (c.paths.ensures ∙ c.show.ensures.same.1 ∙ st.paths_are)
    (ap (λ (s : Shot). s.mark) c.deref-3.ensures ∙ ap (λ v. v.mark) snapshot)
    (ap held_of c.deref-3.ensures ∙ ap (λ v. v.held) snapshot)
    (c.deref-2.ensures.value ∙ c.in-Ok.ensures.told st.shots st.desk_stands) st.prefixes_are st.paths_are (ap held_of (same ∙ sym c.deref-3.ensures)) in
    puts_as (append-nil _ ∙ lines) (puts_then c.in_ok-put_notices.ensures c.flush.ensures.puts)

pub returns-clause-stands : goal.returns-clause-stands
returns-clause-stands g c =
    on_ok c.flush.result (λ paths prefixes before st.
    let same : arc_value c.in_ok-shown.shown ≡ arc_value c.in_ok-shot.shot = cc (c.in_ok-shown.ensures) in
    let longer = before ++ c.args.candidate.now ∷ [] in
    let heard = c.in_ok-fed.ensures.stands before st.tuner_stands in
    let held = ap held_of same ∙ ap (λ v. v.held) (c.in_ok-shot.ensures.held longer heard) in
    stands_shown before c.args.candidate.now (held_of (arc_value c.in_ok-shown.shown)) c.shots_are_needed_at_changes.ensures st heard held (c.whole_modules-whole.ensures ∙ ap whole_modules (ap held_of (c.deref.ensures ∙ sym same))) (c.in-Ok.ensures.stands st.shots st.desk_stands) c.show.ensures.same.1 c.show.ensures.same.0)
