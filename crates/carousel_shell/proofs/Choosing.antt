-- What is promised of a command, by whether it plays a session.
use Rattle.std.proofs.Common.{◌≡◌, ℕ, Bool, true, false, List, [], Option, Result, Ok, Err, inl, inr, refl, sym, ◌∙◌, subst}
use Rattle.std.specs.Prelude.{MatchOption, ⊤}
use Rattle.std.proofs.lemmas.Bool.{true≢false}
use Rattle.path_tree.specs.Paths.{Bytes, PathNames}
use Rattle.folder_store.specs.Folders.{FolderTree}
use Rattle.folder_playout.specs.Notices.{Notice}
use Rattle.shell_words.specs.Words as commands
use Rattle.shell_words.specs.Words.{Named, Misfit}
use Rattle.shell_words.specs.declared.words.Command.{Command}
use Rattle.shell_words.specs.declared.words.Command.TheVariants as code
use Rattle.shell_words.specs.declared.words.WordsFault.{WordsFault}
use Rattle.shell_words.specs.declared.words.WordsFault.TheVariants as word_faults
use Rattle.receiver_commands.specs.Over.{Over, over, IsUntouched}
use Rattle.shell_commands.specs.Promises.{Promises, Keeps, WithoutInput}
use Rattle.receiver_commands.specs.Refusing.{Declines}
use Rattle.receiver_commands.specs.Statuses.{words_status}
use Rattle.receiver_commands.specs.declared.status.Status.{Status}
use Rattle.receiver_commands.specs.declared.status.Status.TheVariants as status
use Rattle.shell_commands.proofs.CallerLemmas.{done_nothing, fault_keeps, takes_nothing, sink_as}
use Rattle.carousel_shell.specs.Session.{Plays}
use Rattle.carousel_shell.specs.Big.{PlaysBig}
use Rattle.carousel_shell.specs.Commands.{is_session, names_session, PromisesSession, KeepsSession, PlaysOrKeeps, KeepsAll}

-- a command of another kind plays none
is_plain : (command : Command) → (command ≡ code.Session → ⊥) → ((size : ℕ) → command ≡ code.Big size → ⊥) → is_session (commands.view command) ≡ false
is_plain (code.Assemble id version size download) other small = refl
is_plain (code.OpenSections paths) other small = refl
is_plain (code.Open pid paths) other small = refl
is_plain (code.Record pid) other small = refl
is_plain (code.List pid) other small = refl
is_plain (code.Publish folder carousel cycles) other small = refl
is_plain code.Rehearse other small = refl
is_plain code.Session other small = absurd (other refl)
is_plain (code.Big size) other small = absurd (small size refl)
is_plain (code.Find carousel) other small = refl
is_plain (code.OpenId carousel paths) other small = refl
is_plain (code.PublishPsi folder carousel cycles) other small = refl
is_plain (code.PublishOn pid folder carousel cycles) other small = refl
is_plain (code.Mounts table paths) other small = refl
is_plain (code.Watch pid paths) other small = refl
is_plain (code.Plan folder carousel bitrate) other small = refl
is_plain (code.Inspect pid) other small = refl
is_plain (code.Extract pid folder) other small = refl
is_plain (code.Air pid folder carousel cycles) other small = refl
is_plain (code.Why complaint) other small = refl

-- a call for sessions declines a command that plays none
by_kind : (ws : List ℕ) (c : Named) (s : Status) (source sink : Over Bytes) → (is_session c ≡ false → Declines s source sink) → (is_session c ≡ true → Plays ws s source sink)
    → ((size : ℕ) → is_session c ≡ true → WithoutInput source (PlaysBig ws size s sink)) → PromisesSession ws c s source sink
by_kind ws (commands.Assemble id version size download) s source sink other session big = other refl
by_kind ws (commands.OpenSections paths) s source sink other session big = other refl
by_kind ws (commands.Open pid paths) s source sink other session big = other refl
by_kind ws (commands.Record pid) s source sink other session big = other refl
by_kind ws (commands.ListAll pid) s source sink other session big = other refl
by_kind ws (commands.Publish folder carousel cycles) s source sink other session big = other refl
by_kind ws commands.Rehearse s source sink other session big = other refl
by_kind ws commands.Session s source sink other session big = session refl
by_kind ws (commands.Big size) s source sink other session big = big size refl
by_kind ws (commands.Find carousel) s source sink other session big = other refl
by_kind ws (commands.OpenId carousel paths) s source sink other session big = other refl
by_kind ws (commands.PublishPsi folder carousel cycles) s source sink other session big = other refl
by_kind ws (commands.PublishOn pid folder carousel cycles) s source sink other session big = other refl
by_kind ws (commands.Mounts table paths) s source sink other session big = other refl
by_kind ws (commands.Watch pid paths) s source sink other session big = other refl
by_kind ws (commands.Plan folder carousel bitrate) s source sink other session big = other refl
by_kind ws (commands.Inspect pid) s source sink other session big = other refl
by_kind ws (commands.Extract pid folder) s source sink other session big = other refl
by_kind ws (commands.Air pid folder carousel cycles) s source sink other session big = other refl
by_kind ws (commands.Why complaint) s source sink other session big = other refl

pub others_decline : (ws : List ℕ) (command : Command) (source sink : Over Bytes) → (command ≡ code.Session → ⊥) → ((size : ℕ) → command ≡ code.Big size → ⊥) → IsUntouched source → IsUntouched sink
    → PromisesSession ws (commands.view command) status.Words source sink
others_decline ws command source sink other small e f =
    let plain = is_plain command other small in
    by_kind ws (commands.view command) status.Words source sink (λ n. record { ends = inl refl; unread = e; unwritten = f }) (λ y. absurd (true≢false (sym y ∙ plain))) (λ size y. absurd (true≢false (sym y ∙ plain)))

-- ---- where no command began

-- there was no memory before a session began
memory_declines : (ws : List ℕ) (r : Result Named Misfit) (source sink : Over Bytes) → IsUntouched source → IsUntouched sink → KeepsSession ws r status.NoMemory source sink
memory_declines ws (Err misfit) source sink e f = record { ends = inr refl; unread = e; unwritten = f }
memory_declines ws (Ok c) source sink e f =
    by_kind ws c status.NoMemory source sink (λ n. record { ends = inr refl; unread = e; unwritten = f }) (λ y. record { ends = inl f; takes = takes_nothing source e }) (λ size y. record { unread = e; keeps = inl f })

-- the words name nothing, so nothing was done
words_decline : (ws : List ℕ) (r : Result Named Misfit) (misfit : Misfit) (source sink : Over Bytes) → r ≡ Err misfit → IsUntouched source → IsUntouched sink → KeepsSession ws r status.Words source sink
words_decline ws r misfit source sink is e f =
    subst (λ (q : Result Named Misfit). KeepsSession ws q status.Words source sink) (sym is) (record { ends = inl refl; unread = e; unwritten = f })

pub fault_declines : (ws : List ℕ) (r : Result Named Misfit) (fault : WordsFault) (source sink : Over Bytes) → MatchOption (commands.cause fault) ⊤ (λ f. r ≡ Err f) → IsUntouched source → IsUntouched sink
    → KeepsSession ws r (words_status fault) source sink
fault_declines ws r word_faults.Words source sink is e f = words_decline ws r commands.Words source sink is e f
fault_declines ws r word_faults.NoMemory source sink is e f = memory_declines ws r source sink e f

-- ---- what is promised of all words

either : (ws : List ℕ) (ps : List PathNames) (b : Bool) (r : Result Named Misfit) (s : Status) (source sink : Over Bytes) (folders store : Over FolderTree) (refused : Option Bytes) (told : List Notice → Type 0)
    → (b ≡ true → KeepsSession ws r s source sink) → (b ≡ false → Keeps ws ps r s source sink folders store refused told) → PlaysOrKeeps ws ps b r s source sink folders store refused told
either ws ps true r s source sink folders store refused told session plain = session refl
either ws ps false r s source sink folders store refused told session plain = plain refl

-- a command that plays no session keeps what a run without threads promises of it
pub plain_keeps : (ws : List ℕ) (ps : List PathNames) (command : Command) (s : Status) (source sink : Over Bytes) (folders store : Over FolderTree) (refused : Option Bytes) (told : List Notice → Type 0)
    → (command ≡ code.Session → ⊥) → ((size : ℕ) → command ≡ code.Big size → ⊥) → Promises ws ps (commands.view command) s source sink folders store refused told
    → KeepsAll ws ps (Ok (commands.view command)) s source sink folders store refused told
plain_keeps ws ps command s source sink folders store refused told other small k =
    either ws ps (is_session (commands.view command)) (Ok (commands.view command)) s source sink folders store refused told (λ y. absurd (true≢false (sym y ∙ is_plain command other small))) (λ n. k)

-- the words give no command, or there was no memory before one began
pub all_decline : {F T : Type 0} (ws : List ℕ) (ps : List PathNames) (r : Result Named Misfit) (fault : WordsFault) (source sink : Over Bytes) (tree : F → Option FolderTree) (unlisted : F → ℕ) (folders : F)
    (stored : T → Option FolderTree) (unstored : T → ℕ) (store : T) (refused : Option Bytes) (told : List Notice → Type 0)
    → MatchOption (commands.cause fault) ⊤ (λ f. r ≡ Err f) → IsUntouched source → IsUntouched sink → told []
    → KeepsAll ws ps r (words_status fault) source sink (over tree unlisted folders folders) (over stored unstored store store) refused told
all_decline ws ps r fault source sink tree unlisted folders stored unstored store refused told is e f untold =
    either ws ps (names_session r) r (words_status fault) source sink (over tree unlisted folders folders) (over stored unstored store store) refused told (λ y. fault_declines ws r fault source sink is e f)
    (λ n. fault_keeps ws ps r fault source sink (over tree unlisted folders folders) (over stored unstored store store) refused told is e f refl (done_nothing tree unlisted folders told untold))

-- ---- the sink that the output lends is the one that was handed in

pub promises_over : {X : Type 0} (ws : List ℕ) (c : Named) (s : Status) (source : Over Bytes) (content : X → Option Bytes) (faults : X → ℕ) (begin end first last : X) → begin ≡ first → end ≡ last
    → PromisesSession ws c s source (over content faults begin end) → PromisesSession ws c s source (over content faults first last)
promises_over ws c s source content faults begin end first last a b p = sink_as (λ sink. PromisesSession ws c s source sink) content faults begin end first last a b p

pub keeps_over : {X : Type 0} (ws : List ℕ) (ps : List PathNames) (r : Result Named Misfit) (s : Status) (source : Over Bytes) (folders store : Over FolderTree) (refused : Option Bytes) (told : List Notice → Type 0) (content : X → Option Bytes) (faults : X → ℕ) (begin end first last : X)
    → begin ≡ first → end ≡ last → KeepsAll ws ps r s source (over content faults begin end) folders store refused told → KeepsAll ws ps r s source (over content faults first last) folders store refused told
keeps_over ws ps r s source folders store refused told content faults begin end first last a b p =
    sink_as (λ sink. KeepsAll ws ps r s source sink folders store refused told) content faults begin end first last a b p
