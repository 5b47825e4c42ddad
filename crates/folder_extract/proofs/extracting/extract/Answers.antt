use Rattle.std.proofs.Common.{◌<◌, ◌≤◌, length, ◌∙◌, arith}
use Rattle.std.proofs.lemmas.Result.{err_from_is_err_and}
use Rattle.path_resolver.specs.Resolving.{answer_of}
use Rattle.path_resolver.specs.Shots.{held_of}
use Rattle.shell_streams.proofs.CallerLemmas.{puts_none, puts_ok, rose_last}
use Rattle.folder_extract.proofs.Taking.{ends_by, ends_whole, flush_breaks, last_breaks, part_breaks, part_none, part_stops, part_whole, stops_at, taken_none, taken_not_whole, taken_whole, told_breaks, told_stops}
use Rattle.folder_extract.proofs.extracting.extract.Goals as goal
use Rattle.folder_extract.proofs.extracting.extract.Goals.{in-All, in-NotAll}

pub returns-in_err-listing-clause-part : goal.returns-in_err-listing-clause-part
returns-in_err-listing-clause-part g c = part_none _ _

pub returns-in_err-listing-clause-ends : goal.returns-in_err-listing-clause-ends
returns-in_err-listing-clause-ends g c =
    let p = err_from_is_err_and c.from_residual.result c.from_residual.ensures.1 in
    rw (p.1, p.2) (puts_none _ _)

pub loop-path-init : goal.loop-path-init
loop-path-init g c = record { taken = taken_none _ _ _ _ _; later = omega arith }

pub returns-in_err-extract_path-clause-part : goal.returns-in_err-extract_path-clause-part
returns-in_err-extract_path-clause-part g c =
    let within : c.loop-path.path-index < length c.deref-path-items.result.now = omega arith in
    part_breaks c.args.folder.now (answer_of (held_of c.args.shot.now)) c.deref-path-items.result.now c.loop-path.path-index c.path-item.result _ _ _ _ _ _ _ _ within (cc)
    c.loop-path.invariant.taken (c.deref-path-items.ensures.value ∙ c.in_ok-listing.ensures.paths) _ c.in_err-extract_path.ensures.takes

pub returns-in_err-extract_path-clause-ends : goal.returns-in_err-extract_path-clause-ends
returns-in_err-extract_path-clause-ends g c =
    let p = err_from_is_err_and c.from_residual-in_err-extract_path.result c.from_residual-in_err-extract_path.ensures.1 in
    let within : c.loop-path.path-index < length c.deref-path-items.result.now = omega arith in
    rw (p.1, p.2) (told_breaks c.args.folder.now (answer_of (held_of c.args.shot.now)) c.deref-path-items.result.now c.loop-path.path-index c.path-item.result _ _ _ _ _ _ _ _ within (cc)
    c.loop-path.invariant.taken (c.deref-path-items.ensures.value ∙ c.in_ok-listing.ensures.paths) _ c.in_err-extract_path.ensures.takes)

pub returns-in_err-flush-in-Failed-clause-part : goal.returns-in_err-flush-in-Failed-clause-part
returns-in_err-flush-in-Failed-clause-part g c =
    let f = rw c.in-Failed.is at c.in_ok-extract_path.ensures.takes in
    part_stops c.args.folder.now (answer_of (held_of c.args.shot.now)) c.deref-path-items.result.now c.loop-path.path-index _ _ _ _ _ _
    (c.deref-path-items.ensures.value ∙ c.in_ok-listing.ensures.paths) c.loop-path.invariant.taken _ f.same

pub returns-in_err-flush-in-Failed-clause-ends : goal.returns-in_err-flush-in-Failed-clause-ends
returns-in_err-flush-in-Failed-clause-ends g c =
    let p = err_from_is_err_and c.from_residual-in_err-flush-in-Failed.result c.from_residual-in_err-flush-in-Failed.ensures.1 in
    let f = rw c.in-Failed.is at c.in_ok-extract_path.ensures.takes in
    rw (p.1, p.2) (told_stops c.args.folder.now (answer_of (held_of c.args.shot.now)) c.deref-path-items.result.now c.loop-path.path-index _ _ _ _ _ _
    (c.deref-path-items.ensures.value ∙ c.in_ok-listing.ensures.paths) c.loop-path.invariant.taken _ _ _ f.untold c.in_err-flush-in-Failed.ensures.puts)

pub returns-in-Failed-clause-part : goal.returns-in-Failed-clause-part
returns-in-Failed-clause-part g c =
    let f = rw c.in-Failed.is at c.in_ok-extract_path.ensures.takes in
    part_stops c.args.folder.now (answer_of (held_of c.args.shot.now)) c.deref-path-items.result.now c.loop-path.path-index _ _ _ _ _ _
    (c.deref-path-items.ensures.value ∙ c.in_ok-listing.ensures.paths) c.loop-path.invariant.taken _ f.same

pub returns-in-Failed-clause-ends : goal.returns-in-Failed-clause-ends
returns-in-Failed-clause-ends g c =
    let within : c.loop-path.path-index < length c.deref-path-items.result.now = omega arith in
    let can = c.in_ok-extract_path.ensures.fails c.in-Failed.is in
    stops_at c.args.folder.now (answer_of (held_of c.args.shot.now)) c.deref-path-items.result.now c.loop-path.path-index _ _ _ _ _ _
    (c.deref-path-items.ensures.value ∙ c.in_ok-listing.ensures.paths) c.loop-path.invariant.taken c.path-item.result _ _ _ _ within (cc) can.0 can.1 _
    (rose_last c.loop-path.invariant.later) (rw c.in-Failed.is at c.in_ok-extract_path.ensures.takes) (puts_ok tt c.in_ok-flush-in-Failed.ensures.puts)

pub loop-path-preserved : goal.loop-path-preserved
loop-path-preserved g c =
    let within : c.loop-path.path-index < length c.deref-path-items.result.now = omega arith in
    elim c.match-branch-3.branch [
      | in-All w ↦
          let s = rw w.in-All.is at c.in_ok-extract_path.ensures.takes in
          rw w.all-is (record {
            taken = taken_whole c.args.folder.now (answer_of (held_of c.args.shot.now)) c.deref-path-items.result.now c.loop-path.path-index c.path-item.result _ _ _ _ _ _ _ _ within (cc)
                c.loop-path.invariant.taken s.0 s.1;
            later = omega (arith, c.loop-path.invariant.later, c.in_ok-extract_path.ensures.later);
          })
      | in-NotAll w ↦
          let s = rw w.in-NotAll.is at c.in_ok-extract_path.ensures.takes in
          rw w.all-is (record {
            taken = taken_not_whole c.args.folder.now (answer_of (held_of c.args.shot.now)) c.deref-path-items.result.now c.loop-path.path-index c.path-item.result _ _ _ _ _ _ _ _ within (cc)
                c.loop-path.invariant.taken s.0 s.1;
            later = omega (arith, c.loop-path.invariant.later, c.in_ok-extract_path.ensures.later);
          })
    ]

pub returns-in_err-put-clause-part : goal.returns-in_err-put-clause-part
returns-in_err-put-clause-part g c =
    let past : length c.deref-path-items.result.now ≤ c.loop-path.path-index = omega arith in
    part_whole c.args.folder.now (answer_of (held_of c.args.shot.now)) c.deref-path-items.result.now c.loop-path.path-index _ _ _ _ _ _
    (c.deref-path-items.ensures.value ∙ c.in_ok-listing.ensures.paths) c.in_ok-listing.ensures.whole past c.loop-path.invariant.taken

pub returns-in_err-put-clause-ends : goal.returns-in_err-put-clause-ends
returns-in_err-put-clause-ends g c =
    let p = err_from_is_err_and c.from_residual-in_err-put.result c.from_residual-in_err-put.ensures.1 in
    let past : length c.deref-path-items.result.now ≤ c.loop-path.path-index = omega arith in
    rw (p.1, p.2) (last_breaks c.args.folder.now (answer_of (held_of c.args.shot.now)) c.deref-path-items.result.now c.loop-path.path-index _ _ _ _ _ _
    (c.deref-path-items.ensures.value ∙ c.in_ok-listing.ensures.paths) c.in_ok-listing.ensures.whole past c.loop-path.invariant.taken _ _
    (rw c.last_line.ensures at c.in_err-put.ensures.puts))

pub returns-in_err-flush-clause-part : goal.returns-in_err-flush-clause-part
returns-in_err-flush-clause-part g c =
    let past : length c.deref-path-items.result.now ≤ c.loop-path.path-index = omega arith in
    part_whole c.args.folder.now (answer_of (held_of c.args.shot.now)) c.deref-path-items.result.now c.loop-path.path-index _ _ _ _ _ _
    (c.deref-path-items.ensures.value ∙ c.in_ok-listing.ensures.paths) c.in_ok-listing.ensures.whole past c.loop-path.invariant.taken

pub returns-in_err-flush-clause-ends : goal.returns-in_err-flush-clause-ends
returns-in_err-flush-clause-ends g c =
    let p = err_from_is_err_and c.from_residual-in_err-flush.result c.from_residual-in_err-flush.ensures.1 in
    let past : length c.deref-path-items.result.now ≤ c.loop-path.path-index = omega arith in
    rw (p.1, p.2) (flush_breaks c.args.folder.now (answer_of (held_of c.args.shot.now)) c.deref-path-items.result.now c.loop-path.path-index _ _ _ _ _ _
    (c.deref-path-items.ensures.value ∙ c.in_ok-listing.ensures.paths) c.in_ok-listing.ensures.whole past c.loop-path.invariant.taken _ _ _
    (rw c.last_line.ensures at c.in_ok-put.ensures.puts) c.in_err-flush.ensures.puts)

pub returns-clause-part : goal.returns-clause-part
returns-clause-part g c =
    let past : length c.deref-path-items.result.now ≤ c.loop-path.path-index = omega arith in
    part_whole c.args.folder.now (answer_of (held_of c.args.shot.now)) c.deref-path-items.result.now c.loop-path.path-index _ _ _ _ _ _
    (c.deref-path-items.ensures.value ∙ c.in_ok-listing.ensures.paths) c.in_ok-listing.ensures.whole past c.loop-path.invariant.taken

pub returns-clause-ends : goal.returns-clause-ends
returns-clause-ends g c =
    let past : length c.deref-path-items.result.now ≤ c.loop-path.path-index = omega arith in
    rw c.all_or_not.ensures (ends_by _ _ c.loop-path.all _ _ _ _ _ (ends_whole c.args.folder.now (answer_of (held_of c.args.shot.now)) c.deref-path-items.result.now c.loop-path.path-index _ _ _ _ _ _
    (c.deref-path-items.ensures.value ∙ c.in_ok-listing.ensures.paths) c.in_ok-listing.ensures.whole past c.loop-path.invariant.taken _ _
    (rw c.last_line.ensures at c.in_ok-put.ensures.puts) c.in_ok-flush.ensures.puts))
