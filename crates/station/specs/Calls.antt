-- What a call of a station does.
use Rattle.std.specs.Prelude.{◌≡◌, ℕ, List, [], ◌∷◌, ◌++◌, Result, Ok, Err, ⊤}
use Rattle.history_lock.specs.History.{Begins, new_places}
use Rattle.history_lock.specs.declared.pass.Pass.{Pass}
use Rattle.generation_catalogue.specs.History.{CatalogueState, IsHistory}
use Rattle.generation_catalogue.specs.declared.entry.Batch.{Batch}
use Rattle.generation_catalogue.specs.declared.entry.Entry.{Entry}
use Rattle.generation_catalogue.specs.declared.entry.Refusal.{Refusal}
use Rattle.generation_catalogue.specs.declared.entry.CommitFault.{CommitFault}
use Rattle.generation_catalogue.specs.declared.entry.CommitFault.TheVariants as commits
use Rattle.generation_catalogue.specs.declared.entry.DrawFault.{DrawFault}
use Rattle.generation_catalogue.specs.declared.entry.DrawFault.TheVariants as draws
use Rattle.station.specs.declared.kept.Kept.{Kept}
use Rattle.station.specs.declared.kept.KeptItem.{KeptItem}
use Rattle.station.specs.Passes.{entries_seen, own_entries}

-- One call of a pass, p before and q after it, in one hold: it is made on a catalogue of the station's carousel and weights whose entries begin with those that the pass had seen. Then the pass has seen all entries, and its own
-- places have grown by those of the entries that the call made.
pub record InOneHold (carousel : ℕ) (weights : List ℕ) (p q : Pass Kept KeptItem) (Call : CatalogueState → CatalogueState → Type 0) : Type 0 where
  pub before : CatalogueState
  pub after : CatalogueState
  pub same : before.carousel ≡ carousel
  pub weighs : before.weights ≡ weights
  pub history : IsHistory before
  pub begins : Begins (entries_seen p) before.entries
  pub call : Call before after
  pub seen : entries_seen q ≡ after.entries
  pub own : own_entries q ≡ own_entries p ++ new_places before.entries after.entries

-- P of what a commit answered, if it wasn't out of memory
abbrev pub IfAnswered : Result ℕ CommitFault → (Result ℕ Refusal → Type 0) → Type 0
IfAnswered (Ok n) P = P (Ok n)
IfAnswered (Err (commits.Refused refusal)) P = P (Err refusal)
IfAnswered (Err commits.NoMemory) P = ⊤

-- P of the number of a draw that was refused since so many are entered
abbrev pub IfFull : Result Batch DrawFault → (ℕ → Type 0) → Type 0
IfFull (Ok b) P = ⊤
IfFull (Err (draws.DrawsFull n)) P = P n
IfFull (Err draws.NoMemory) P = ⊤

-- the entry is the last one
abbrev pub EndsWith : List Entry → Entry → Type 0
EndsWith es e = (earlier : List Entry) × (es ≡ earlier ++ e ∷ [])
