-- The words and lemmas of the crates below, and of this crate's definitions, that several of these proofs use.
pub use Rattle.std.proofs.Common.{◌≡◌, ◌≢◌, ℕ, zero, suc, ◌+◌, ◌<◌, ◌≤◌, List, [], ◌∷◌, ◌++◌, filter, sym, ap, ◌∙◌, refl, arith, eq-eqb, ne_eqb, true, length, drop, get_or, Result, subst, append_assoc, append-nil, flat_map, count_by, get_or-drop, ◌-◌, ◌%◌, min, cond, map, take, Ok, Err, ◌==◌, nat_lt, if◌then◌else◌, sum_by, Some, slice_get, Bool, set, drop-cons, take-append-drop, drop-set-lt, false, All, slice_index_or, length-append, eqb-true, nat_le}
pub use Rattle.carousel_world.specs.Events.{Step, Draw, Commit, Open}
pub use Rattle.carousel_world.specs.World.{InRange, Drawing, drawing_of, WorldState, arrivals, commit_reply, initial_world, after_all, replies_to, reply_to, happens}
pub use Rattle.carousel_world.specs.declared.event.Reply.{Reply}
pub use Rattle.generation.specs.Lawful.{ArePublishable}
pub use Rattle.generation.specs.Layouts.{GenerationState, generation_of, lines_of}
pub use Rattle.generation_catalogue.specs.History.{is_draw, trees_after, with_tree, last_tree, drawn_since, put_bytes, put_bytes_of, draws_of, current_of, cursor_of, cycle_in, count_drawn, unless_edit, CatalogueState, trees_of, IsEntered, IsHistory, entry_after, is_entered, with_draw, with_entry}
pub use Rattle.generation_catalogue.specs.declared.entry.Entry.{Entry}
pub use Rattle.generation_catalogue.specs.declared.entry.Refusal.{Refusal}
pub use Rattle.history_merge.specs.Inner.{WaitingFields, waited_by, opened_at, AllClimb, view_waiting, all_wait, Climb, HasTold, HaveTold}
pub use Rattle.history_merge.specs.Merged.{NeverFall, with_draws_before, state_of, drawings_of, AreAnswered, drawings_after, IsAnswered, IsRunOfWorld, OpensHavePlaces, IsPlaced, AreParts, IsInOrder, AreApart, is_draw_step, is_commit_of, is_commit_at, MergesGrow, AreNumbers, IsReady, EveryMergeIsMerged, is_open_by, AMergeIsReady}
pub use Rattle.history_merge.specs.Merging.{known_view, fates_view, has_heard, Each, event_of, opens_at, merge_entries, merge_of, opens_by, opened_of, opens_of, drawn_with}
pub use Rattle.history_merge.specs.declared.history.Waiting.{Waiting}
pub use Rattle.open_history.specs.Opens.{ReaderView}
pub use Rattle.open_history.specs.declared.entry.OpenEntry.{OpenEntry}
pub use Rattle.path_tree.specs.Paths.{Bytes}
pub use Rattle.path_tree.specs.declared.tree.Edit.{Edit}
pub use Rattle.std.proofs.lemmas.Bool.{cond_both, lt-leb}
pub use Rattle.std.proofs.lemmas.List.{drop_all, length-map, get_or-map, take-set, drop-set, take_more_set, map-set, get_or_past, take_rest}
pub use Rattle.std.proofs.lemmas.List.Elements.{filter-append, All-from_recursion, recursion_from_All, All-map}
pub use Rattle.std.proofs.lemmas.List.Sums.{sum_by-cons, sum_by-append}
pub use Rattle.std.specs.List.{range_with_len}
pub use Rattle.ts_packet.specs.declared.Fate.{Fate}
pub use mathlib.Core.List.{map-append}
pub use mathlib.Core.Logic.{dite}
pub use native.Mathlib.Decide.{ℕ_discrete, dec_lt}
