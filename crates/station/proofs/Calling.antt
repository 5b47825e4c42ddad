-- What a commit and a draw add to the list of a kept catalogue, and what one hold does with its pass.
use Rattle.std.proofs.Common.{◌≡◌, ℕ, Bool, true, false, cond, List, [], ◌∷◌, ◌++◌, sym, ap, ◌∙◌, subst, append-nil, append_assoc, Result, Ok, Err}
use mathlib.Core.List.{map-append}
use Rattle.history_lock.specs.History.{Begins, new_places}
use Rattle.history_lock.specs.Passes.{IsPassOf, seen_of, own_of}
use Rattle.history_lock.specs.declared.pass.Pass.{Pass}
use Rattle.path_tree.specs.declared.tree.Edit.{Edit}
use Rattle.generation_catalogue.specs.History.{CatalogueState, IsHistory, is_entered, outcome_of, with_entry, with_commit, with_draw, current_of, cursor_of, count_drawn}
use Rattle.generation_catalogue.specs.Calls.{IsCommitted, IsDrawn}
use Rattle.generation_catalogue.specs.declared.entry.Entry.{Entry as CatalogueEntry}
use Rattle.generation_catalogue.specs.declared.entry.Entry.TheVariants as entries
use Rattle.generation_catalogue.specs.declared.entry.CommitFault.{CommitFault}
use Rattle.generation_catalogue.specs.declared.entry.CommitFault.TheVariants as commits
use Rattle.generation_catalogue.specs.declared.entry.Batch.{Batch}
use Rattle.generation_catalogue.specs.declared.entry.DrawFault.{DrawFault}
use Rattle.station.specs.declared.kept.Kept.{Kept}
use Rattle.station.specs.declared.kept.KeptItem.{KeptItem}
use Rattle.station.specs.declared.kept.KeptItem.TheVariants.{Setting, Entry}
use Rattle.station.specs.Items.{items_of, entries_in, carousel_in, entry_places}
use Rattle.station.specs.Inner.Items.{weights_in}
use Rattle.station.specs.Kept.{list_of}
use Rattle.history_lock.specs.declared.lock.HistoryLock.{HistoryLock}
use Rattle.station.specs.Passes.{entries_seen, own_entries}
use Rattle.station.specs.Calls.{InOneHold}
use Rattle.station.proofs.Listed.{entries_of_items, begins_entries, places_append, new_entry_places}

pub begins_later : (a b c : List KeptItem) → Begins a b → Begins b c → Begins a c
begins_later a b c p q = (p.0 ++ q.0, q.1 ∙ ap (λ l. l ++ q.0) p.1 ∙ append_assoc a p.0 q.0)

grows_by : (c : CatalogueState) (e : CatalogueEntry) → Begins (items_of c) (items_of (with_entry c e))
grows_by c e = (Entry e ∷ [], ap (λ l. Setting c.carousel c.weights ∷ l) (map-append Entry c.entries (e ∷ [])))

grows_if : (entered : Bool) (c : CatalogueState) (e : CatalogueEntry) → Begins (items_of c) (items_of (cond entered (with_entry c e) c))
grows_if true c e = grows_by c e
grows_if false c e = ([], sym (append-nil (items_of c)))

stays : (c : CatalogueState) → Begins (items_of c) (items_of c)
stays c = ([], sym (append-nil (items_of c)))

becomes : (c d d' : CatalogueState) → d' ≡ d → Begins (items_of c) (items_of d) → Begins (items_of c) (items_of d')
becomes c d d' e b = subst (λ (s : CatalogueState). Begins (items_of c) (items_of s)) (sym e) b

commit_grows : (c : CatalogueState) (editor : ℕ) (edits : List Edit) → Begins (items_of c) (items_of (with_commit c editor edits))
commit_grows c editor edits = grows_if (is_entered (outcome_of c edits)) c (entries.Commit editor edits (outcome_of c edits))

pub committed_grows : (c d : CatalogueState) (editor : ℕ) (edits : List Edit) (result : Result ℕ CommitFault) → IsCommitted c editor edits result d → Begins (items_of c) (items_of d)
committed_grows c d editor edits (Ok n) is = becomes c (with_commit c editor edits) d is.entry (commit_grows c editor edits)
committed_grows c d editor edits (Err (commits.Refused refusal)) is = becomes c (with_commit c editor edits) d is.entry (commit_grows c editor edits)
committed_grows c d editor edits (Err commits.NoMemory) is = becomes c c d is.entry (stays c)

pub drawn_grows : (c d : CatalogueState) (n : ℕ) (result : Result Batch DrawFault) → IsDrawn c n result d → Begins (items_of c) (items_of d)
drawn_grows c d n (Ok b) is = becomes c (with_draw c n) d is.entry (grows_by c (entries.Draw n (current_of c).number (cursor_of c) (count_drawn c n)))
drawn_grows c d n (Err fault) is = becomes c c d is.entry (stays c)

-- the carousel of a catalogue whose list begins with what a pass has seen
same_carousel : (k : ℕ) (ws : List ℕ) (c : CatalogueState) (seen : List KeptItem) → Begins (Setting k ws ∷ []) seen → Begins seen (items_of c) → c.carousel ≡ k
same_carousel k ws c seen p q = ap carousel_in (begins_later (Setting k ws ∷ []) seen (items_of c) p q).1

-- and its weights
pub same_weights : (k : ℕ) (ws : List ℕ) (c : CatalogueState) (seen : List KeptItem) → Begins (Setting k ws ∷ []) seen → Begins seen (items_of c) → c.weights ≡ ws
same_weights k ws c seen p q = ap weights_in (begins_later (Setting k ws ∷ []) seen (items_of c) p q).1

-- what is lent is what was taken
lent : (kept now : Kept) (new : CatalogueState) (Call : CatalogueState → CatalogueState → Type 0) → now ≡ kept → Call now.journal new → Call kept.journal new
lent kept now new Call same call = subst (λ (k : Kept). Call k.journal new) same call

-- the list grows from the one that the hold got
pub grows_from : (kept now : Kept) (new : CatalogueState) (taken : List KeptItem) → taken ≡ list_of kept → now ≡ kept → Begins (list_of now) (items_of new) → Begins taken (items_of new)
grows_from kept now new taken got same grows = subst (λ (l : List KeptItem). Begins l (items_of new)) (ap list_of same ∙ sym got) grows

-- What a hold, a call under it and the return from it say, put together: the pass before is p, under the hold h, and after it q. The hold got `kept`, which was lent as `now`
pub one_hold : (k : ℕ) (ws : List ℕ) (p h q : Pass Kept KeptItem) (kept now : Kept) (new : CatalogueState) (taken : List KeptItem) (Call : CatalogueState → CatalogueState → Type 0)
    → Begins (Setting k ws ∷ []) (seen_of p) → Begins (seen_of p) (list_of kept) → own_of h ≡ own_of p → taken ≡ list_of kept
    → now ≡ kept → IsHistory now.journal → Call now.journal new
    → seen_of q ≡ items_of new → own_of q ≡ own_of h ++ new_places taken (items_of new) → InOneHold k ws p q Call
one_hold k ws p h q kept now new taken Call setting begins mine got same history call seen own =
    let old = kept.journal in
    record {
      before = old;
      after = new;
      same = same_carousel k ws old (seen_of p) setting begins;
      weighs = same_weights k ws old (seen_of p) setting begins;
      history = subst (λ (k : Kept). IsHistory k.journal) same history;
      begins = subst (Begins (entries_seen p)) (entries_of_items old) (begins_entries (seen_of p) (items_of old) begins);
      call = lent kept now new Call same call;
      seen = ap entries_in seen ∙ entries_of_items new;
      own = ap entry_places (own ∙ (λ i. mine i ++ new_places (got i) (items_of new)))
          ∙ places_append (own_of p) (new_places (items_of old) (items_of new)) ∙ ap (λ l. own_entries p ++ l) (new_entry_places old new);
    }

-- and the pass is still one of the lock, and has seen the setting
pub still_pass : (lock l : HistoryLock Kept KeptItem) (k : ℕ) (ws : List ℕ) (p q : Pass Kept KeptItem) (kept now : Kept) (new : CatalogueState) → l.table.shared.table_id ≡ lock.table.shared.table_id → IsPassOf l q
    → Begins (Setting k ws ∷ []) (seen_of p) → Begins (seen_of p) (list_of kept) → now ≡ kept → Begins (list_of now) (items_of new) → seen_of q ≡ items_of new
    → IsPassOf lock q × Begins (Setting k ws ∷ []) (seen_of q)
still_pass lock l k ws p q kept now new is own setting begins same grows seen =
    let first = Setting k ws ∷ [] in
    let grown : Begins (list_of kept) (items_of new) = subst (λ (k : Kept). Begins (list_of k) (items_of new)) same grows in
    let all = begins_later first (seen_of p) (items_of new) setting (begins_later (seen_of p) (list_of kept) (items_of new) begins grown) in
    ((own.0 ∙ is, own.1, own.2, own.3, own.4), subst (Begins first) (sym seen) all)
