use Rattle.std.proofs.Common.{◌≡◌, ℕ, List, ◌++◌, ◌+◌, false, true, drop, sym, ap, ◌∙◌}
use Rattle.std.specs.Prelude.{codes}
use Rattle.std.proofs.lemmas.Result.{err_from_is_err_and}
use Rattle.path_tree.specs.Texts.{is_name}
use Rattle.shell_words.specs.Texts.{line}
use Rattle.shell_streams.proofs.CallerLemmas.{puts_none, puts_then, puts_stop, puts_as, puts_ok, puts_err}
use Rattle.folder_extract.specs.Telling.{unnamed_lines}
use Rattle.folder_extract.proofs.Lines.{unnamed_same, unnamed_more, unnamed_rest, all_same, all_none}
use Rattle.folder_extract.proofs.telling.put_unnamed.Goals as goal
use Rattle.folder_extract.proofs.telling.put_unnamed.Goals.{then-not-is_path_name+in_ok-text+in_ok-put_passed, else-not-is_path_name}

pub returns-in_err-text-clause-puts : goal.returns-in_err-text-clause-puts
returns-in_err-text-clause-puts g c =
    let p = err_from_is_err_and c.from_residual.result c.from_residual.ensures.1 in
    rw (p.1, p.2) (puts_as (sym (unnamed_rest c.args.path.now c.args.names.now c.loop-i.i))
    (puts_then c.loop-i.invariant.told (puts_none _ (unnamed_lines c.args.path.now (drop c.loop-i.i c.args.names.now)))))

pub returns-in_err-put_passed-clause-puts : goal.returns-in_err-put_passed-clause-puts
returns-in_err-put_passed-clause-puts g c =
    let p = err_from_is_err_and c.from_residual-in_err-put_passed.result c.from_residual-in_err-put_passed.ensures.1 in
    let none : is_name c.name-name.result.now ≡ false = sym c.is_path_name.ensures ∙ c.if-not-is_path_name.true in
    let told = puts_as (ap (λ (t : List ℕ). line (codes "passed " ++ t)) (c.as_str.ensures.value ∙ c.in_ok-text.ensures)) c.in_err-put_passed.ensures in
    rw (p.1, p.2) (puts_err (puts_as (sym (unnamed_rest c.args.path.now c.args.names.now (c.loop-i.i + 1)))
    (puts_stop {T = Unit {0}} {U = Unit {0}} (unnamed_lines c.args.path.now (drop (c.loop-i.i + 1) c.args.names.now))
    (puts_as (sym (unnamed_more c.args.path.now c.args.names.now c.loop-i.i c.name-name.result.now c.name-name.ensures none)) (puts_then c.loop-i.invariant.told told)))))

pub loop-i-preserved : goal.loop-i-preserved
loop-i-preserved g c =
    let n = c.name-name.result.now in
    elim c.if-not-is_path_name.branch [
      | then-not-is_path_name+in_ok-text+in_ok-put_passed w ↦
          let none : is_name n ≡ false = sym c.is_path_name.ensures ∙ w.if-not-is_path_name.true in
          let told = puts_as (ap (λ (t : List ℕ). line (codes "passed " ++ t)) (w.as_str.ensures.value ∙ w.in_ok-text.ensures)) w.in_ok-put_passed.ensures in
          rw (w.all-is, w.out-is) (record {
            all = all_none c.args.names.now c.loop-i.i n c.name-name.ensures none;
            told = puts_as (sym (unnamed_more c.args.path.now c.args.names.now c.loop-i.i n c.name-name.ensures none)) (puts_ok tt (puts_then c.loop-i.invariant.told told));
          })
      | else-not-is_path_name w ↦
          let some : is_name n ≡ true = sym c.is_path_name.ensures ∙ w.if-not-is_path_name.false in
          rw (w.all-is, w.out-is) (record {
            all = all_same c.args.names.now c.loop-i.i n c.loop-i.all c.name-name.ensures some c.loop-i.invariant.all;
            told = puts_as (sym (unnamed_same c.args.path.now c.args.names.now c.loop-i.i n c.name-name.ensures some)) c.loop-i.invariant.told;
          })
    ]
