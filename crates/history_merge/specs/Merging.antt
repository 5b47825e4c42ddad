-- One history out of a catalogue's entries and the readers' passes: the entries in their order, and after each draw the opens whose shots
-- had heard so many draws, by the readers' numbers and then in each reader's order. The order is this project's own.
use Rattle.std.specs.Prelude.{ℕ, suc, ◌==◌, Bool, List, [], ◌∷◌, ◌++◌, map, drop, get_or, if◌then◌else◌, flat_map, filter}
use Rattle.std.specs.List.{range_with_len}
use Rattle.std.specs.declared.vec.Vec.{Vec}
use Rattle.std.specs.declared.alloc.Global.{Global}
use Rattle.ts_packet.specs.declared.Fate.{Fate}
use Rattle.generation_catalogue.specs.declared.entry.Entry.{Entry}
use Rattle.generation_catalogue.specs.declared.entry.Entry.TheVariants as entries
use Rattle.open_history.specs.Opens.{ReaderView}
use Rattle.open_history.specs.declared.entry.OpenEntry.{OpenEntry}
use Rattle.carousel_world.specs.Events.{Step, Commit, Draw, Open, view}
use Rattle.carousel_world.specs.declared.event.Event.{Event}
use Rattle.carousel_world.specs.World.{commit_reply}
use Rattle.carousel_world.specs.declared.event.Reply.{Reply}
use Rattle.carousel_world.specs.declared.event.Reply.TheVariants as replies
pub use Rattle.std.specs.List.{AllByRecursion as Each}

-- an event and its reply, without where the fates lie in memory
abbrev pub known_view : Event × Reply → Step × Reply
known_view x = (view x.0, x.1)

abbrev pub fates_view : Vec Fate Global → List Fate
fates_view v = v.items

-- an entry's event and reply, under these fates if it is a draw. A commit's entry has the place of its editor, and its event the number
abbrev pub event_of : List ℕ → Entry → List Fate → Step × Reply
event_of editors (entries.Commit editor edits outcome) fates = (Commit (get_or editors editor 0) edits, commit_reply outcome)
event_of editors (entries.Draw asked generation first count) fates = (Draw asked fates, replies.Drawn generation first count)

-- the event and the reply of an open by the reader of this number
abbrev pub opened_of : ℕ → OpenEntry → Step × Reply
opened_of reader o = (Open reader o.path, replies.Opened o.label o.answer)

-- the opens of the reader of this number
abbrev pub opens_by : ℕ → List ReaderView → List OpenEntry
opens_by reader [] = []
opens_by reader (p ∷ ps) = (if p.reader == reader then p.opens else []) ++ opens_by reader ps

-- whether the open's shot had heard so many draws
abbrev pub has_heard : ℕ → OpenEntry → Bool
has_heard draws o = o.draws == draws

-- those of a reader's opens whose shots had, as events
abbrev pub opens_of : List ReaderView → ℕ → ℕ → List (Step × Reply)
opens_of passes draws reader = map (opened_of reader) (filter (has_heard draws) (opens_by reader passes))

-- the same of all readers, whose numbers are 1 to 64, by these numbers
abbrev pub opens_at : List ReaderView → ℕ → List (Step × Reply)
opens_at passes draws = flat_map (opens_of passes draws) (range_with_len 1 64)

-- the entries after so many draws, the next draw being under the first of the fates; after each draw come its opens
abbrev pub merge_entries : List ℕ → List ReaderView → ℕ → List (List Fate) → List Entry → List (Step × Reply)
merge_entries editors passes draws fates [] = []
merge_entries editors passes draws fates (entries.Commit editor edits outcome ∷ es) =
    event_of editors (entries.Commit editor edits outcome) [] ∷ merge_entries editors passes draws fates es
merge_entries editors passes draws fates (entries.Draw asked generation first count ∷ es) =
    event_of editors (entries.Draw asked generation first count) (get_or fates 0 [])
    ∷ opens_at passes (suc draws) ++ merge_entries editors passes (suc draws) (drop 1 fates) es

-- the opens whose shots had heard no draw stand before all entries
abbrev pub merge_of : List ℕ → List ReaderView → List (List Fate) → List Entry → List (Step × Reply)
merge_of editors passes fates entries = opens_at passes 0 ++ merge_entries editors passes 0 fates entries

-- these draws as events, each under its own fates
abbrev pub drawn_with : List ℕ → List (List Fate) → List Entry → List (Step × Reply)
drawn_with editors fates [] = []
drawn_with editors fates (e ∷ es) = event_of editors e (get_or fates 0 []) ∷ drawn_with editors (drop 1 fates) es
