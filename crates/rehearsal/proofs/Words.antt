-- The words and lemmas of the crates below, and of this crate's definitions, that several of these proofs use.
pub use Rattle.std.proofs.Common.{◌≡◌, ◌≢◌, ℕ, List, [], ◌∷◌, ◌++◌, Result, Ok, Err, refl, sym, ap, ◌∙◌, append-nil, append_assoc, subst, OnOk, map, flat_map, None, codes, zero, suc, ◌+◌, arith, Some, BTreeMap, nat_cmp, length, drop, rules, Option, IfSome, take, ◌≤◌, ◌<◌, take_all}
pub use Rattle.carousel_world.specs.Events.{Step, view, Commit, Draw, Open}
pub use Rattle.carousel_world.specs.Promises.{MeetsHeadline, world_after, EveryRunMeetsTheHeadline}
pub use Rattle.carousel_world.specs.World.{WorldState, initial_world, reply_to, happens, after_all, InRange}
pub use Rattle.carousel_world.specs.declared.event.Reply.{Reply}
pub use Rattle.path_tree.specs.Paths.{Bytes, PathNames}
pub use Rattle.rehearsal.specs.Inner.{Stands, HasRun, GoesOn}
pub use Rattle.rehearsal.specs.Lines.{edits_in, happened, view_happening, events_of, Pending, events_of_line, pending_after, events_from, none_pending, filled_bytes, filled_byte, with_edit, without}
pub use Rattle.rehearsal.specs.Reports.{subject_words, path_words, line_of, report_line, report_in, report_of, report, reply_words, reply_tail, Rehearses}
pub use Rattle.session_script.proofs.CallerLemmas.{line_at, none_left, at_place, before_in_range, during_in_range, finales_in_range, item_comes, items_came}
pub use Rattle.session_script.specs.Scripts.{task_line, act_of, settle_lines, finale_line, script_of_parts, Fields, LineFields, Act}
pub use Rattle.session_script.specs.Ranges.{IsInRange, IsActor}
pub use Rattle.session_script.specs.declared.script.Stage.TheVariants.{During, Before, After}
pub use Rattle.shell_streams.proofs.CallerLemmas.{puts_nothing, puts_none, puts_then, puts_as, puts_stop, puts_ok}
pub use Rattle.shell_streams.specs.Sending.{OutputState, Puts, HasPut}
pub use Rattle.std.proofs.lemmas.Result.{err_from_is_err_and}
