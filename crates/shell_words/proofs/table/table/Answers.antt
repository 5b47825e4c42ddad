use Rattle.std.proofs.Common.{length}
use Rattle.std.specs.List.{slice_split}
use Rattle.std.proofs.lemmas.List.{length_push}
use Rattle.std.proofs.lemmas.List.Elements.{All-nil, All-push}
use Rattle.std.proofs.lemmas.Result.{err_from_is_err_and}
use Rattle.shell_words.specs.Values.{is_comma, entry_in, table_in, IsEntry}
use Rattle.shell_words.proofs.Naming.{each_more, each_fault, each_ends}
use Rattle.shell_words.proofs.Tabling.{table_begins, next_piece, no_more_pieces}
use Rattle.shell_words.proofs.table.table.Goals as goal

pub loop-text-init : goal.loop-text-init
loop-text-init c = rw c.new-table.ensures.items (record { so_far = table_begins c.args.word.now; ranges = All-nil IsEntry })

pub loop-text-preserved : goal.loop-text-preserved
loop-text-preserved c =
    let next = next_piece c.args.word.now c.split-text-items.result c.into_iter-text-iterator.result c.loop-text.text-iterator c.next.new.self c.into_iter-text-iterator.ensures.into_iter_gives c.split-text-items.ensures.text c.split-text-items.ensures.has_more c.split-text-items.ensures.pattern c.loop-text.yielded c.loop-text.yielded_by _ c.next.ensures.steps c.in-Some.text c.in-Some.is in
    rw (length_push c.loop-text.yielded c.in-Some.text, c.in_ok-push.ensures.items) (record {
      so_far = each_more entry_in (λ x. x) (slice_split is_comma c.args.word.now) (length c.loop-text.yielded) (table_in c.args.word.now) c.loop-text.table.items c.loop-text.invariant.so_far c.in-Some.text.now c.in-Some.text.now c.in_ok-entry.entry next.within next.at c.in_ok-entry.ensures.gives;
      ranges = All-push IsEntry c.loop-text.table.items c.in_ok-entry.entry c.loop-text.invariant.ranges c.in_ok-entry.ensures.ranges;
    })

pub returns-in_err-entry-clause-gives : goal.returns-in_err-entry-clause-gives
returns-in_err-entry-clause-gives c =
    let next = next_piece c.args.word.now c.split-text-items.result c.into_iter-text-iterator.result c.loop-text.text-iterator c.next.new.self c.into_iter-text-iterator.ensures.into_iter_gives c.split-text-items.ensures.text c.split-text-items.ensures.has_more c.split-text-items.ensures.pattern c.loop-text.yielded c.loop-text.yielded_by _ c.next.ensures.steps c.in-Some.text c.in-Some.is in
    let p = err_from_is_err_and c.from_residual.result c.from_residual.ensures.1 in
    rw (p.1, p.2) (each_fault entry_in (λ x. x) (slice_split is_comma c.args.word.now) (length c.loop-text.yielded) (table_in c.args.word.now) c.loop-text.table.items c.loop-text.invariant.so_far c.in-Some.text.now c.in-Some.text.now c.in_err-entry.field-0.0 next.within next.at c.in_err-entry.ensures.gives)

pub returns-clause-gives : goal.returns-clause-gives
returns-clause-gives c =
    each_ends entry_in (λ x. x) (slice_split is_comma c.args.word.now) (length c.loop-text.yielded) (table_in c.args.word.now) c.loop-text.table.items c.loop-text.invariant.so_far (no_more_pieces c.args.word.now c.split-text-items.result c.into_iter-text-iterator.result c.loop-text.text-iterator c.next.new.self c.into_iter-text-iterator.ensures.into_iter_gives c.split-text-items.ensures.text c.split-text-items.ensures.has_more c.split-text-items.ensures.pattern c.loop-text.yielded c.loop-text.yielded_by _ c.next.ensures.steps c.in-None.is)
