-- What `open` and `list` promise, by what was heard and what was put.
use Rattle.std.proofs.Common.{◌≡◌, Bool, [], map, Result, ap, ◌∙◌, subst}
use Rattle.std.specs.Prelude.{IfOk, OnOk}
use Rattle.std.proofs.lemmas.Result.{IfOk-weaker}
use Rattle.path_resolver.specs.Resolving.{Held, answer_of}
use Rattle.tuner_core.specs.Heard.{as_heard}
use Rattle.tuner_core.specs.LookBack.{held_after, answer_after}
use Rattle.shell_streams.specs.Cuts.{Bytes}
use Rattle.shell_streams.specs.Carriers.{Reading, HeardAll}
use Rattle.shell_streams.specs.Sending.{OutputState, Puts}
use Rattle.shell_streams.specs.declared.output.OutputFault.{OutputFault}
use Rattle.receiver_commands.specs.Over.{Over, sink_over}
use Rattle.receiver_commands.specs.Replies.{Reply, Replies}
use Rattle.receiver_commands.specs.Open.{AllAnswers, reply_by}
use Rattle.receiver_commands.specs.Inner.Statuses.{answer_status}
use Rattle.receiver_commands.proofs.Replying.{replies_written}

-- what was read, and what is held of it
abbrev pub HoldsHeard : Reading → Held → Over Bytes → Type 0
HoldsHeard reading held source = HeardAll reading (λ sections. held ≡ held_after (map as_heard sections)) source.before source.after

-- the sections that were read were heard, and the answers were put
pub answers_replied : (reading : Reading) (question : Reply AllAnswers) (source : Over Bytes) (old new : OutputState) (held : Held) (r : Result Bool OutputFault) → HoldsHeard reading held source
    → old.pending ≡ [] → IfOk r (λ all. all ≡ question.all (answer_of held)) → Puts r old new (question.text (answer_of held)) → OnOk r (new.pending ≡ [])
    → Replies reading (reply_by answer_after question) (answer_status r) source (sink_over old new)
answers_replied reading question source old new held r h begin all puts empty =
    let P : Held → Type 0 = λ x. Puts r old new (question.text (answer_of x)) in
    replies_written reading (reply_by answer_after question) source old new h.taken r h.told begin
    (IfOk-weaker r _ _ (λ all e. e ∙ ap (λ x. question.all (answer_of x)) h.heard) all) (subst P h.heard puts) empty
