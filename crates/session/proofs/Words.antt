-- The words and lemmas of the crates below, and of this crate's definitions, that several of these proofs use.
pub use Rattle.std.proofs.Common.{◌≡◌, ℕ, ◌+◌, ◌==◌, Bool, true, false, cond, nat_lt, List, [], ◌∷◌, ◌++◌, length, Option, Some, None, Result, Ok, Err, count_by, ◌⊎◌, inl, inr, sym, ap, ◌∙◌, refl, arith, length-append, eqb-true, ltb-true, ◌<◌, ◌≤◌, map, subst, append_assoc, append-nil, suc, All, ne_eqb, if◌then◌else◌, ◌≢◌, filter, drop, get_or, sum_by, eq-eqb, slice_set, slice_index_or, get_or-set_other, length-set, take, length-take-le, zero, slice_get, nat_eq, ◌↔◌, ◌&&◌, is_some, OnOk, IfOk, ◌-◌, nat_le, flat_map, leb-false, ◌||◌, Contains, BTreeMap, take_all, take-append-drop, option_to_list, rules, IfSome}
pub use Rattle.carousel_world.proofs.CallerLemmas.{opens_leave, after_all-append, settled_among_opens, stands_after_draw, SentSo, none_sent_so, piece_sent, draw_sent, piece_of, framed_is_like}
pub use Rattle.carousel_world.specs.DownView.{DownlinkState, DownlinkStands}
pub use Rattle.carousel_world.specs.Events.{Step, Commit, Draw, Open}
pub use Rattle.carousel_world.specs.Promises.{MeetsHeadline, world_after, IsUndamaged, broadcast_of}
pub use Rattle.carousel_world.specs.Settling.{EverySettledRunIsWhole, EverySettledRunOpens, IsOpening, with_settling, Answers}
pub use Rattle.carousel_world.specs.World.{drawing_of, Drawing, InRange, WorldState, initial_world, happens, after_all, candidates_in, reply_to, replies_to, sections_of, groups_sent, arrivals, commit_reply}
pub use Rattle.carousel_world.specs.declared.event.Reply.{Reply}
pub use Rattle.cycle_planner.specs.declared.Item.{Item}
pub use Rattle.generation.specs.Lawful.{ArePublishable, tree_at}
pub use Rattle.generation.specs.Layouts.{GenerationState, section_of, items_of}
pub use Rattle.generation_catalogue.specs.Calls.{IsDrawn, BatchFields, view_batch, IsCommitted}
pub use Rattle.generation_catalogue.specs.History.{CatalogueState, put_bytes, put_bytes_of, journal_of, current_of, trees_of, trees_after, with_tree, last_tree, or_same, outcome_of, unless_edit, unless_limit, is_entered, cursor_of, count_drawn, is_draw, with_commit, with_draw, with_entry, IsHistory, items_drawn}
pub use Rattle.generation_catalogue.specs.Laws.{HistoriesGrow}
pub use Rattle.generation_catalogue.specs.View.{state}
pub use Rattle.generation_catalogue.specs.declared.entry.Batch.{Batch}
pub use Rattle.generation_catalogue.specs.declared.entry.DrawFault.{DrawFault}
pub use Rattle.generation_catalogue.specs.declared.entry.Entry.{Entry}
pub use Rattle.history_lock.specs.History.{Begins, times, places, total, once_within}
pub use Rattle.history_lock.specs.Passes.{IsPassOf, number_of}
pub use Rattle.history_lock.specs.declared.pass.Pass.{Pass}
pub use Rattle.history_merge.proofs.CallerLemmas.{count_more, count_same, filter_skips, each_opened, commit_told, merged_is_published, get_next, filter_takes}
pub use Rattle.history_merge.specs.Merged.{IsPlaced, AreNumbers, is_commit_at, is_commit_of, is_draw_step, is_open_by, IsInOrder, AreParts, IsReady, IsMerged, EveryMergeIsMerged, state_of, drawings_after, AreAnswered, IsRunOfWorld, candidates_after, IsAnswered}
pub use Rattle.history_merge.specs.Merging.{fates_view, known_view, Each, event_of, opened_of, opens_at, merge_entries, merge_of, drawn_with, has_heard, opens_of}
pub use Rattle.logbook.specs.Pages.{Book}
pub use Rattle.open_history.specs.Opens.{ReaderView, IsSameReader, AllAnswered, Answered}
pub use Rattle.open_history.specs.declared.entry.OpenEntry.{OpenEntry}
pub use Rattle.path_resolver.specs.Shots.{view, Snapshot}
pub use Rattle.path_resolver.specs.declared.shot.Shot.{Shot}
pub use Rattle.path_tree.specs.Paths.{PathNames, Bytes}
pub use Rattle.path_tree.specs.Trees.{Tree, node_at}
pub use Rattle.path_tree.specs.declared.tree.Edit.{Edit}
pub use Rattle.rehearsal.specs.Lines.{happened, Holds, Pending, none_pending, pending_after, events_of_line, events_from, events_of, settling_step}
pub use Rattle.rehearsal.specs.declared.interpreter.Happening.{Happening}
pub use Rattle.session.specs.Chains.{DrawFields, Seen, seen_after, Commits, Draws, GoesOnWith, seen_in, nothing_seen}
pub use Rattle.session.specs.Gathering.{is_made, IsFullAfter, entries_to_next, AreEntered, asked_in, GatherGrows, IsGathered, AllCommitted, ActorsGather}
pub use Rattle.session.specs.Inner.Acting.{AreApart, numbers_of, IsNext, ReaderStands, ReadersStand, Setting, draws_before, draws_of, events_in, readers_of, view_happening, EditorsStand, done_in, IsViewerOf, EditorStands, EachAt, FeederStands, IsReaderOf}
pub use Rattle.session.specs.Inner.Plans.{lists_of, above, before_steps, steps, at_end, below, during_steps, end_steps, settling_line, settling_lines, HasSplit, events_at, waiting_below, finale_step, settling, AreInRange, IsPlanOf, opens_by}
pub use Rattle.session.specs.Inner.Casting.{CastStands, IsBegun, IsBoardOf}
pub use Rattle.session.specs.Inner.Ending.{EditorsDone, ReaderDone, CastDone, AreDone, GathersAll, GathersOn, HasGathered, AreAll, IsWhole}
pub use Rattle.session.specs.Inner.Seats.{drawing_in, WouldBeEntered}
pub use Rattle.session.specs.Lines.{staged_from, commits_by, asked_from, asked_of, least_for, all_draws, draws_before_start, draws_in, settles, is_draw_before, is_settle, staged_events}
pub use Rattle.session.specs.Opened.{Asked, AreOpened, HasOpened, Rises}
pub use Rattle.session.specs.Played.{IsPlayed, fates_of, PlayedIsASession, FitsAndTells, HasRead, IsSettled, whose}
pub use Rattle.session.specs.Seats.{asked_at, EachDid, DidEdit, DidFeed, DidRead, IsReaderSeat, draw_of, HasCommitted, HasFed, edits_of, IsDrawLine, IsEditorSeat}
pub use Rattle.session.specs.Sessions.{up_to_next, AreCommitted, AreKnown, AreOnShots, IsShown, EndsSettled, IsSession, EndsWhole, EndsAnswered, OpensInPlace, IsFull, is_accepted, put_by_step}
pub use Rattle.session.specs.Shown.{AreShots, HasShown}
pub use Rattle.session.specs.declared.plan.ByActor.{ByActor}
pub use Rattle.session.specs.declared.cast.Cast.{Cast}
pub use Rattle.session.specs.declared.editor.CommitLine.{CommitLine}
pub use Rattle.session.specs.declared.editor.EditorSeat.{EditorSeat}
pub use Rattle.session.specs.declared.feeder.DrawLine.{DrawLine}
pub use Rattle.session.specs.declared.feeder.FeederSeat.{FeederSeat}
pub use Rattle.session.specs.declared.reader.ReaderSeat.{ReaderSeat}
pub use Rattle.session.specs.declared.whole.Start.{Start}
pub use Rattle.session_script.proofs.CallerLemmas.{before_in_range, during_in_range, at_place, item_comes, items_came}
pub use Rattle.session_script.specs.Scripts.{script_of_parts, act_of, task_line, settle_lines, finale_line, Act, LineFields, Fields}
pub use Rattle.session_script.specs.Ranges.{AreListed, IsMentioned, IsInRanges, IsActor, AreActors, IsInRange}
pub use Rattle.session_script.specs.declared.script.Finale.{Finale}
pub use Rattle.session_script.specs.declared.script.TaskLine.{TaskLine}
pub use Rattle.session_script.specs.declared.script.Stage.{Stage}
pub use Rattle.session_script.specs.declared.script.Stage.TheVariants.{Before, During, After}
pub use Rattle.shot_board.proofs.CallerLemmas.{prefix_whole, prefix_length}
pub use Rattle.shot_board.specs.Showers.{shown_by, IsSameBoard, most_by, shower_board}
pub use Rattle.shot_board.specs.declared.viewer.Viewer.{Viewer}
pub use Rattle.station.specs.Calls.{InOneHold}
pub use Rattle.station.specs.Passes.{carousel_of, weights_of, IsStationPass, AreAllPasses, pass_count, entries_seen, owners_of, AreNewPasses, own_entries}
pub use Rattle.station.specs.declared.kept.Kept.{Kept}
pub use Rattle.station.specs.declared.kept.KeptItem.{KeptItem}
pub use Rattle.station.specs.declared.station.Station.{Station}
pub use Rattle.std.proofs.Math.Seq.{map-set_same, drop-cons}
pub use Rattle.std.proofs.lemmas.Bool.{cases_Bool, eqb-false, both_ways, and_parts, cond_both}
pub use Rattle.std.proofs.lemmas.Grind.{get_or-set_at}
pub use Rattle.std.proofs.lemmas.List.{map-append, get_or-map, get_or_append_left, length-map, take_more, with_items_is, same_from_push, append_cancel_left, take-append-le, get_or_default, get_or_push}
pub use Rattle.std.proofs.lemmas.List.Elements.{All-head, All-tail, filter-append, All-get_or, All-push, All-nil, All-cons, All-append, All-map, All-weaker, recursion_from_All}
pub use Rattle.std.proofs.lemmas.List.Sums.{sum_by-append, sum_by-cons, AllPass-from_list_all, list_all-from_AllPass}
pub use Rattle.std.proofs.lemmas.Option.{slice_get_within}
pub use Rattle.std.proofs.lemmas.Result.{on_ok_weaker}
pub use Rattle.std.specs.Arc.{arc_value}
pub use Rattle.std.specs.List.{AllByRecursion, list_all, range_with_len, list_any}
unfoldable pub use Rattle.std.specs.List.{IsDistinct}
pub use Rattle.std.specs.declared.alloc.Global.{Global}
pub use Rattle.std.specs.declared.vec.Vec.{Vec}
pub use Rattle.ts_packet.specs.declared.Fate.{Fate}
pub use Rattle.tuner_core.specs.LookBack.{snapshot_after, answer_after}
pub use mathlib.Core.List.{IsPrefix}
pub use mathlib.Core.Logic.{dite}
pub use native.Mathlib.Decide.{ℕ_discrete}
