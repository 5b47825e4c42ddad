-- The words and lemmas of the crates below, and of this crate's definitions, that several of these proofs use.
pub use Rattle.std.proofs.Common.{◌≡◌, ℕ, ◌+◌, ◌*◌, ◌≤◌, List, [], ◌∷◌, ◌++◌, length, map, Some, refl, sym, ap, ◌∙◌, arith, length-append, flat_map, ◌-◌, take, replicate, option_map, Option, None, append_assoc, take_all, ◌<◌, All, Contains, Bool, true, false, ◌||◌, ◌&&◌, cond, eqb, Result, Ok, Err, suc, append-nil, eqb-true, get_or, drop, Bor, take-append-drop, ◌^◌, rules, fold, leb-true, subst, ne_eqb, min, nat_eq, codes, decimal, nat_le, tests, IfOk, IfSome}
pub use Rattle.oc_bytes.specs.Outcome.{Gives, cap_at_u32}
pub use Rattle.path_tree.specs.Paths.{PathNames, Bytes}
pub use Rattle.session_script.specs.Generated.{number_lines}
unfoldable pub use Rattle.session_script.specs.Generated.{numbers, commit_of, lines_of_editor, lines_of_feeder, lines_of_reader, finales_of, acts_during, acts_at_end, generated_script, file_path, fill_of, fates, open_of, finale_of}
pub use Rattle.session_script.specs.Grammar.{Starts, Saying, Passed, said_by, may_stand, in_order, in_words, words_in, line_by, Does, Ends, is_start, is_end, part_of, who, first_mentions, actors, stage_above, lines_from, is_feed, lines_in, or_bad_line, sayings, script_of, meaning_of, ◌>>=◌, is_space, keyword_of, fates_in, fates_onto, all_fates}
pub use Rattle.session_script.specs.Inner.{as_before, with_line, script_after, script_read, SaysSomething, StandsFor, Reads, IsShaped, Adds, Suits, SaysInRange, view_said, words_left, part_after, with_actor}
pub use Rattle.session_script.specs.Memory.{has_path, reaches_path, is_kept, asks_in_order, asks_in_words, line_asks, AsksForMemory}
pub use Rattle.session_script.specs.Scripts.{act_of, task_line, finale_line, script_of_parts, lines_of, settle_lines, Act, LineFields, Open, Fields, cause, editor_of, reader_of, Settle, Put, Fill, Remove, MakeFolder, RemoveFolder, Commit, Draw, view_line}
pub use Rattle.session_script.specs.Ranges.{IsActor, IsInRange, AreActors, IsInRanges, IsMentioned, AreListed}
pub use Rattle.session_script.specs.declared.line.Keyword.{Keyword}
pub use Rattle.session_script.specs.declared.line.Part.{Part}
pub use Rattle.session_script.specs.declared.line.Part.TheVariants.{Opening, Running, Closing}
pub use Rattle.session_script.specs.declared.script.Finale.{Finale}
pub use Rattle.session_script.specs.declared.script.Parts.{Parts}
pub use Rattle.session_script.specs.declared.script.Task.{Task}
pub use Rattle.session_script.specs.declared.script.TaskLine.{TaskLine}
pub use Rattle.session_script.specs.declared.reading.Reading.{Reading}
pub use Rattle.session_script.specs.declared.script.LineCause.{LineCause}
pub use Rattle.session_script.specs.declared.script.LineCause.TheVariants.{Order, Unknown, BadNumber, BadPath, BadHex, BadFate, Missing, Extra}
pub use Rattle.session_script.specs.declared.script.Stage.{Stage}
pub use Rattle.session_script.specs.declared.script.Stage.TheVariants.{During, After, Before}
pub use Rattle.std.proofs.lemmas.Iterator.Consumers.{YieldsList-at, YieldsList-turn, YieldsList-end}
pub use Rattle.std.proofs.lemmas.List.{length-map, map-append, take_more, drop_more, flat_map_more, length_push}
pub use Rattle.std.proofs.lemmas.List.Elements.{All-nil, All-cons, All-head, All-tail, All-append, All-map, All-replicate, All-push}
pub use Rattle.std.proofs.lemmas.List.FromFn.{length-range_with_len, map-range_with_len_more}
pub use Rattle.std.proofs.lemmas.Option.{cond_some}
pub use Rattle.std.specs.List.{range_with_len, list_any, list_all, AllByRecursion, join_with_byte}
unfoldable pub use Rattle.std.specs.List.{IsDistinct}
pub use Rattle.ts_packet.specs.declared.Fate.{Fate}
