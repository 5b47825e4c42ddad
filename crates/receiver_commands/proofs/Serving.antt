-- What `mounts` promises, by the table that was made, what was heard and what was put.
use Rattle.std.proofs.Common.{◌≡◌, inl, inr, Bool, List, [], ◌∷◌, ◌++◌, Option, Some, None, Result, refl, sym, ap, ◌∙◌, subst}
use Rattle.std.specs.Prelude.{IfOk, IfSome, OnOk}
use Rattle.std.proofs.lemmas.Result.{IfOk-weaker}
use Rattle.path_tree.specs.Paths.{PathNames}
use Rattle.path_resolver.specs.declared.answer.Answer.{Answer}
use Rattle.path_resolver.specs.declared.answer.Answer.TheVariants as answers
use Rattle.mount_table.specs.declared.mount.Mount.{Mount}
use Rattle.mount_table.specs.declared.fault.TableFault.{TableFault}
use Rattle.mount_table.specs.declared.fault.TableFault.TheVariants as tables
use Rattle.mount_table.specs.declared.mounts.Mounted.{Mounted}
use Rattle.mount_table.specs.declared.mounts.Mounted.TheVariants.{Root}
use Rattle.mount_table.specs.Mounts.{refusal_of, refusal_in, IsTableOf, names_of, mount_named, at_mount, mounted_after}
use Rattle.mount_table.specs.Stands.{MountsState, StandsFor, mounts_of}
use Rattle.shell_words.specs.Values.{Entry}
use Rattle.shell_words.specs.Texts.{answered_line, tail_of, open_text, open_entry}
use Rattle.shell_streams.specs.Cuts.{Bytes}
use Rattle.shell_streams.specs.Carriers.{all_packets, HeardAll}
use Rattle.shell_streams.specs.Sending.{OutputState, Puts}
use Rattle.shell_streams.specs.declared.output.OutputFault.{OutputFault}
use Rattle.receiver_commands.specs.Over.{Over, sink_over, IsUntouched}
use Rattle.receiver_commands.specs.Open.{AllAnswers, asks_paths, reply_by}
use Rattle.receiver_commands.specs.Replies.{Replies}
use Rattle.receiver_commands.specs.Statuses.{table_status}
use Rattle.receiver_commands.specs.Inner.Statuses.{answer_status}
use Rattle.receiver_commands.specs.Mounts.{mounts_in, as_answer, mounted_answer, AreItsAnswers, EndsMounts, ServesMounts}
use Rattle.receiver_commands.specs.Inner.Mounts.{root_text}
use Rattle.receiver_commands.specs.declared.status.Status.{Status}
use Rattle.receiver_commands.specs.declared.status.Status.TheVariants as status
use Rattle.receiver_commands.proofs.Replying.{replies_written}

-- ---- an answer

module _ (m : MountsState) (answer : AllAnswers) (p : PathNames) (a : Mounted) (own : AreItsAnswers m answer)
    (opened : (packets : List Bytes) → StandsFor m packets → a ≡ mounted_after (mounts_of m) packets p) where
  pub is_answer : as_answer (mounts_of m) a ≡ answer p
  is_answer = ap (as_answer (mounts_of m)) (opened own.packets own.stands) ∙ sym (ap (λ (f : AllAnswers). f p) own.is)

no_root : (packets : List Bytes) (rest : PathNames) (o : Option Mount) → Root ≡ at_mount packets rest o → ⊥
no_root packets rest (Some m) e = cc
no_root packets rest None e = cc

-- the root is the path of no names
pub root_only : (table : List Mount) (packets : List Bytes) (p : PathNames) → Root ≡ mounted_after table packets p → p ≡ []
root_only table packets [] e = refl
root_only table packets (n ∷ rest) e = absurd (no_root packets rest (mount_named table n) e)

pub root_entry : (m : MountsState) (answer : AllAnswers) (p : PathNames) (own : AreItsAnswers m answer) → ((packets : List Bytes) → StandsFor m packets → Root ≡ mounted_after (mounts_of m) packets p)
    → root_text (mounts_of m) ≡ open_entry answer p
root_entry m answer p own opened =
    let at_root : p ≡ [] = root_only (mounts_of m) own.packets p (opened own.packets own.stands) in
    ap (λ (q : PathNames). answered_line q (answers.Folder (names_of (mounts_of m))) ++ tail_of (answers.Folder (names_of (mounts_of m)))) (sym at_root)
    ∙ ap (λ (x : Answer). answered_line p x ++ tail_of x) (is_answer m answer p Root own opened)

-- ---- what was heard and put

-- all packets were handed to the table, which had none before
abbrev pub HasFed : MountsState → MountsState → Over Bytes → Type 0
HasFed old new source = HeardAll all_packets (λ packets. (mounts_of new ≡ mounts_of old) × StandsFor new packets) source.before source.after

-- its answers are those after all of them
fed_answers : (old new : MountsState) (source : Over Bytes) (fed : HasFed old new source) → AreItsAnswers new (mounted_answer (mounts_of new) fed.taken)
fed_answers old new source fed = record { packets = fed.taken; stands = fed.heard.1; is = refl }

pub mounts_written : (old new : MountsState) (paths : List PathNames) (source : Over Bytes) (begin end : OutputState) (r : Result Bool OutputFault) → HasFed old new source → begin.pending ≡ []
    → IfOk r (λ all. (answer : AllAnswers) → AreItsAnswers new answer → all ≡ (asks_paths paths).all answer)
    → ((answer : AllAnswers) → AreItsAnswers new answer → Puts r begin end (open_text answer paths)) → OnOk r (end.pending ≡ [])
    → Replies all_packets (reply_by (mounted_answer (mounts_of old)) (asks_paths paths)) (answer_status r) source (sink_over begin end)
mounts_written old new paths source begin end r fed none all puts empty =
    let own = fed_answers old new source fed in
    let same : mounts_of new ≡ mounts_of old = fed.heard.0 in
    let A : List Mount → Type 0 = λ t. IfOk r (λ b. b ≡ (asks_paths paths).all (mounted_answer t fed.taken)) in
    let P : List Mount → Type 0 = λ t. Puts r begin end (open_text (mounted_answer t fed.taken) paths) in
    replies_written all_packets (reply_by (mounted_answer (mounts_of old)) (asks_paths paths)) source begin end fed.taken r fed.told none
    (subst A same (IfOk-weaker r _ _ (λ b k. k (mounted_answer (mounts_of new) fed.taken) own) all)) (subst P same (puts (mounted_answer (mounts_of new) fed.taken) own)) empty

-- ---- what is promised

ends_as : (mounts : List Mount) (paths : List PathNames) (s : Status) (source sink : Over Bytes) (o : Option TableFault) → refusal_of mounts ≡ o → EndsMounts o mounts paths s source sink
    → EndsMounts (refusal_of mounts) mounts paths s source sink
ends_as mounts paths s source sink o e ends = subst (λ (x : Option TableFault). EndsMounts x mounts paths s source sink) (sym e) ends

-- the table was made, and answered
pub serves_table : (entries : List Entry) (paths : List PathNames) (s : Status) (source sink : Over Bytes) (table : List Mount) → refusal_of (mounts_in entries) ≡ None
    → IsTableOf (mounts_in entries) table → Replies all_packets (reply_by (mounted_answer table) (asks_paths paths)) s source sink → ServesMounts entries paths s source sink
serves_table entries paths s source sink table accepted of replies =
    ends_as (mounts_in entries) paths s source sink None accepted (inr (record { table = table; of = of; replies = replies }))

-- there was no memory for it
pub serves_no_memory : (entries : List Entry) (paths : List PathNames) (source sink : Over Bytes) → IsUntouched source → IsUntouched sink → ServesMounts entries paths status.NoMemory source sink
serves_no_memory entries paths source sink e f = by (refusal_of (mounts_in entries))
  where
    by : (o : Option TableFault) → EndsMounts o (mounts_in entries) paths status.NoMemory source sink
    by (Some fault) = record { ends = inr refl; unread = e; unwritten = f }
    by None = inl (record { ends = refl; unread = e; unwritten = f })

-- it wasn't made
pub serves_none : (entries : List Entry) (paths : List PathNames) (source sink : Over Bytes) (fault : TableFault) → IfSome (refusal_in fault) (λ f. refusal_of (mounts_in entries) ≡ Some f)
    → IsUntouched source → IsUntouched sink → ServesMounts entries paths (table_status fault) source sink
serves_none entries paths source sink fault refused e f = by fault refused
  where
    words : (x : TableFault) → refusal_of (mounts_in entries) ≡ Some x → ServesMounts entries paths status.Words source sink
    words x is = ends_as (mounts_in entries) paths status.Words source sink (Some x) is (record { ends = inl refl; unread = e; unwritten = f })

    by : (x : TableFault) → IfSome (refusal_in x) (λ y. refusal_of (mounts_in entries) ≡ Some y) → ServesMounts entries paths (table_status x) source sink
    by tables.TooMany is = words tables.TooMany is
    by (tables.BadName place) is = words (tables.BadName place) is
    by (tables.BadPid place) is = words (tables.BadPid place) is
    by (tables.NameTwice place) is = words (tables.NameTwice place) is
    by (tables.PidTwice place) is = words (tables.PidTwice place) is
    by tables.NoMemory is = serves_no_memory entries paths source sink e f

-- what a refusal of the list says of it
pub refused_as : (r o : Option TableFault) → r ≡ o → IfSome o (λ f. r ≡ Some f)
refused_as r (Some f) e = e
refused_as r None e = tt
