-- What is promised where nothing was done.
use Rattle.std.proofs.Common.{◌≡◌, ℕ, Bool, false, List, [], Option, Result, Ok, Err, inl, inr, refl, sym, ap, ◌∙◌, append-nil, subst}
use Rattle.std.specs.Prelude.{MatchOption, ⊤}
use Rattle.oc_bytes.specs.Outcome.{Known}
use Rattle.path_tree.specs.Paths.{PathNames}
use Rattle.folder_store.specs.Folders.{FolderTree}
use Rattle.folder_playout.specs.Notices.{Notice}
use Rattle.folder_playout.proofs.CallerLemmas.{nothing_read}
use Rattle.shell_words.specs.Words as commands
use Rattle.shell_words.specs.Complaints.{complaint_line}
use Rattle.shell_words.specs.declared.words.WordsFault.{WordsFault}
use Rattle.shell_words.specs.declared.words.WordsFault.TheVariants as word_faults
use Rattle.shell_streams.specs.Cuts.{Bytes}
use Rattle.shell_streams.specs.Packets.{IsRear}
use Rattle.shell_streams.specs.Carriers.{sections_by, all_packets}
use Rattle.shell_streams.specs.declared.carrier.Carrier.{Carrier}
use Rattle.shell_streams.specs.declared.carrier.Carrier.TheVariants as carriers
use Rattle.shell_streams.proofs.CallerLemmas.{told_same}
use Rattle.tuner_core.specs.LookBack.{answer_after}
use Rattle.receiver_commands.specs.Over.{Over, over, IsUntouched, TakesPrefix, WritesPrefix, Appends}
use Rattle.receiver_commands.specs.AsRead.{AreFirst}
use Rattle.receiver_commands.specs.Record.{Records}
use Rattle.receiver_commands.specs.Replies.{Reply}
use Rattle.receiver_commands.specs.Open.{AllAnswers, Answers, reply_by, asks_paths, asks_all}
use Rattle.shell_commands.specs.Air.{WereRead}
use Rattle.receiver_commands.specs.Watch.{Watches}
use Rattle.receiver_commands.specs.Find.{place_of}
use Rattle.receiver_commands.specs.OpenId.{sections_by_id}
use Rattle.shell_commands.specs.Promises.{Promises, Keeps}
use Rattle.receiver_commands.specs.Statuses.{words_status}
use Rattle.receiver_commands.specs.declared.status.Status.{Status}
use Rattle.receiver_commands.specs.declared.status.Status.TheVariants as status
use Rattle.receiver_commands.proofs.CallerLemmas.{first_none, replies_nothing, serves_no_memory, inspects_nothing, extracts_nothing}
use Rattle.shell_commands.proofs.Planning.{plan_nothing}

pub takes_nothing : (source : Over Bytes) → IsUntouched source → TakesPrefix source
takes_nothing source e = let P : Option Bytes → Type 0 = λ a. Known source.before a IsRear in subst P (sym e) (told_same source.before (λ x. record { taken = []; whole = refl }))

answers_nothing : (carrier : Carrier) (question : Reply AllAnswers) (source sink : Over Bytes) → IsUntouched source → IsUntouched sink → Answers carrier question status.NoMemory source sink
answers_nothing carrier question source sink e f = replies_nothing (sections_by carrier) (reply_by answer_after question) source sink (takes_nothing source e) f

first_untouched : (pid : ℕ) (source : Over Bytes) → IsUntouched source → Known source.before source.after (AreFirst pid [])
first_untouched pid source e = let P : Option Bytes → Type 0 = λ a. Known source.before a (AreFirst pid []) in subst P (sym e) (first_none pid source.before)

prefix_untouched : (sink : Over Bytes) (text : Bytes) → IsUntouched sink → WritesPrefix sink text
prefix_untouched sink text f =
    let Q : Option Bytes → Type 0 = λ a. Known sink.before a (Appends text) in
    subst Q (sym f) (told_same sink.before (λ x. record { part = []; rest = text; output_is = refl; after_is = sym (append-nil x) }))

nothing_written : (sink : Over Bytes) → IsUntouched sink → WritesPrefix sink []
nothing_written sink f = prefix_untouched sink [] f

records_nothing : (pid : ℕ) (source sink : Over Bytes) → IsUntouched source → IsUntouched sink → Records pid status.NoMemory source sink
records_nothing pid source sink e f = record { ends = record { sections = []; first = first_untouched pid source e; writes = nothing_written sink f }; takes = takes_nothing source e }

watches_nothing : (pid : ℕ) (prefixes paths : List PathNames) (source sink : Over Bytes) → IsUntouched source → IsUntouched sink → Watches pid prefixes paths status.NoMemory source sink
watches_nothing pid prefixes paths source sink e f =
    record { ends = record { sections = []; first = first_untouched pid source e; writes = nothing_written sink f }; takes = takes_nothing source e }

-- nothing was read of the folders, and nothing told
pub record HasDoneNothing (folders : Over FolderTree) (told : List Notice → Type 0) : Type 0 where
  pub unread : (folder : Bytes) → WereRead folder folders []
  pub untold : told []

-- nor has the folders' walk begun, where they are as they were
pub done_nothing : {X : Type 0} (tree : X → Option FolderTree) (faults : X → ℕ) (folders : X) (told : List Notice → Type 0) → told [] → HasDoneNothing (over tree faults folders folders) told
done_nothing tree faults folders told none = record { unread = λ folder. nothing_read folder (tree folders) (faults folders); untold = none }

-- there was no memory before a command began
memory_promises : (weights : List ℕ) (prefixes : List PathNames) (c : commands.Named) (source sink : Over Bytes) (folders store : Over FolderTree) (refused : Option Bytes) (told : List Notice → Type 0) → IsUntouched source → IsUntouched sink → IsUntouched store → HasDoneNothing folders told → Promises weights prefixes c status.NoMemory source sink folders store refused told
memory_promises weights prefixes (commands.Assemble id version size download) source sink folders store refused told e f k none = record { ends = inl f; takes = takes_nothing source e }
memory_promises weights prefixes (commands.OpenSections paths) source sink folders store refused told e f k none = answers_nothing (carriers.Sections 16777216) (asks_paths paths) source sink e f
memory_promises weights prefixes (commands.Open pid paths) source sink folders store refused told e f k none = answers_nothing (carriers.Packets pid) (asks_paths paths) source sink e f
memory_promises weights prefixes (commands.Record pid) source sink folders store refused told e f k none = records_nothing pid source sink e f
memory_promises weights prefixes (commands.ListAll pid) source sink folders store refused told e f k none = answers_nothing (carriers.Packets pid) asks_all source sink e f
memory_promises weights prefixes (commands.Publish folder carousel cycles) source sink folders store refused told e f k none =
    record { unread = e; keeps = record { ends = inl f; needs = λ t h n. inr refl } }
memory_promises weights prefixes commands.Rehearse source sink folders store refused told e f k none = record { ends = inl f; takes = takes_nothing source e }
memory_promises weights prefixes commands.Session source sink folders store refused told e f k none = record { ends = inr refl; unread = e; unwritten = f }
memory_promises weights prefixes (commands.Big n) source sink folders store refused told e f k none = record { ends = inr refl; unread = e; unwritten = f }
memory_promises weights prefixes (commands.Find carousel) source sink folders store refused told e f k none =
    replies_nothing all_packets (place_of carousel) source sink (takes_nothing source e) f
memory_promises weights prefixes (commands.OpenId carousel paths) source sink folders store refused told e f k none =
    replies_nothing (sections_by_id carousel) (reply_by answer_after (asks_paths paths)) source sink (takes_nothing source e) f
memory_promises weights prefixes (commands.PublishPsi folder carousel cycles) source sink folders store refused told e f k none =
    record { unread = e; keeps = record { ends = inl f; needs = λ t h n. inr refl } }
memory_promises weights prefixes (commands.PublishOn pid folder carousel cycles) source sink folders store refused told e f k none =
    record { unread = e; keeps = record { ends = inl f; needs = λ t h n. inr refl } }
memory_promises weights prefixes (commands.Mounts entries paths) source sink folders store refused told e f k none = serves_no_memory entries paths source sink e f
memory_promises weights prefixes (commands.Watch pid paths) source sink folders store refused told e f k none = watches_nothing pid prefixes paths source sink e f
memory_promises weights prefixes (commands.Plan folder carousel bitrate) source sink folders store refused told e f k none = record { unread = e; keeps = plan_nothing folder carousel weights bitrate sink folders refused f }
memory_promises weights prefixes (commands.Inspect pid) source sink folders store refused told e f k none = inspects_nothing pid source sink (takes_nothing source e) f
memory_promises weights prefixes (commands.Extract pid folder) source sink folders store refused told e f k none = extracts_nothing pid folder source sink store (takes_nothing source e) (f, k)
memory_promises weights prefixes (commands.Air pid folder carousel cycles) source sink folders store refused told e f k none =
    record { unread = e; keeps = record { ends = inl (record { read = none.unread folder; told = none.untold; unwritten = f }) } }
memory_promises weights prefixes (commands.Why complaint) source sink folders store refused told e f k none = record { unread = e; keeps = record { ends = prefix_untouched sink (complaint_line complaint) f } }

memory_keeps : (weights : List ℕ) (prefixes : List PathNames) (r : Result commands.Named commands.Misfit) (source sink : Over Bytes) (folders store : Over FolderTree) (refused : Option Bytes) (told : List Notice → Type 0) → IsUntouched source → IsUntouched sink → IsUntouched store → HasDoneNothing folders told
    → Keeps weights prefixes r status.NoMemory source sink folders store refused told
memory_keeps weights prefixes (Ok c) source sink folders store refused told e f k none = memory_promises weights prefixes c source sink folders store refused told e f k none
memory_keeps weights prefixes (Err misfit) source sink folders store refused told e f k none = record { ends = inr refl; unread = e; unwritten = f }

-- the words don't fit
words_keep : (weights : List ℕ) (prefixes : List PathNames) (r : Result commands.Named commands.Misfit) (source sink : Over Bytes) (folders store : Over FolderTree) (refused : Option Bytes) (told : List Notice → Type 0) → r ≡ Err commands.Words → IsUntouched source → IsUntouched sink
    → Keeps weights prefixes r status.Words source sink folders store refused told
words_keep weights prefixes r source sink folders store refused told is e f =
    let P : Result commands.Named commands.Misfit → Type 0 = λ x. Keeps weights prefixes x status.Words source sink folders store refused told in
    subst P (sym is) (record { ends = inl refl; unread = e; unwritten = f })

-- the words give no command, or there was no memory before one began
pub fault_keeps : (weights : List ℕ) (prefixes : List PathNames) (r : Result commands.Named commands.Misfit) (fault : WordsFault) (source sink : Over Bytes) (folders store : Over FolderTree) (refused : Option Bytes) (told : List Notice → Type 0)
    → MatchOption (commands.cause fault) ⊤ (λ f. r ≡ Err f) → IsUntouched source → IsUntouched sink → IsUntouched store → HasDoneNothing folders told → Keeps weights prefixes r (words_status fault) source sink folders store refused told
fault_keeps weights prefixes r word_faults.Words source sink folders store refused told is e f k none = words_keep weights prefixes r source sink folders store refused told is e f
fault_keeps weights prefixes r word_faults.NoMemory source sink folders store refused told is e f k none = memory_keeps weights prefixes r source sink folders store refused told e f k none

-- ---- what holds of an output's sink holds of the one that was handed in, which it lends

pub sink_as : {X : Type 0} (P : Over Bytes → Type 0) (content : X → Option Bytes) (faults : X → ℕ) (begin end first last : X) → begin ≡ first → end ≡ last → P (over content faults begin end) → P (over content faults first last)
sink_as {X} P content faults begin end first last a b p =
    let B : X → Type 0 = λ x. P (over content faults x end) in
    let E : X → Type 0 = λ x. P (over content faults first x) in
    subst E b (subst B a p)

pub promises_over : {X : Type 0} (weights : List ℕ) (prefixes : List PathNames) (c : commands.Named) (s : Status) (source : Over Bytes) (folders store : Over FolderTree) (refused : Option Bytes) (told : List Notice → Type 0) (content : X → Option Bytes) (faults : X → ℕ) (begin end first last : X)
    → begin ≡ first → end ≡ last → Promises weights prefixes c s source (over content faults begin end) folders store refused told → Promises weights prefixes c s source (over content faults first last) folders store refused told
promises_over weights prefixes c s source folders store refused told content faults begin end first last a b p =
    sink_as (λ sink. Promises weights prefixes c s source sink folders store refused told) content faults begin end first last a b p

-- nor is a write tried there after one that failed
pub in_time_over : {X : Type 0} (failed late : X → Bool) (begin end first last : X) → begin ≡ first → end ≡ last → (failed begin ≡ false → late end ≡ late begin)
    → failed first ≡ false → late last ≡ late first
in_time_over failed late begin end first last a b p h = sym (ap late b) ∙ p (ap failed a ∙ h) ∙ ap late a
