use Rattle.std.proofs.Common.{◌∙◌, ap, refl, map, inl}
use Rattle.history_merge.specs.Merging.{known_view}
use Rattle.shell_streams.proofs.CallerLemmas.{puts_as}
use Rattle.carousel_shell.specs.Big.{big_line}
use Rattle.carousel_shell.proofs.Making.{counts_all, counts_part}
use Rattle.carousel_shell.proofs.big.play_generated.Goals as goal

pub returns-in-Err-clause-plays : goal.returns-in-Err-clause-plays
returns-in-Err-clause-plays g c = inl refl

pub returns-in-Err-play-clause-plays : goal.returns-in-Err-play-clause-plays
returns-in-Err-play-clause-plays g c = inl refl

pub returns-in-Err-big_line-clause-plays : goal.returns-in-Err-big_line-clause-plays
returns-in-Err-big_line-clause-plays g c = inl refl

pub returns-in-Ok-put_all-clause-plays : goal.returns-in-Ok-put_all-clause-plays
returns-in-Ok-put_all-clause-plays g c =
    counts_all c.args.weigh.weights c.args.size _ _ (map known_view c.in-Ok-play.told.items) (rw c.in-Ok.ensures.script at c.in-Ok-play.ensures) c.requires.empty c.in-Ok-put_all.ensures.empty
    (puts_as (c.as_bytes.ensures.value ∙ c.in-Ok-big_line.ensures ∙ ap (λ told. big_line c.args.size (map known_view told)) c.deref.ensures.value) c.in-Ok-put_all.ensures.puts)

pub returns-clause-plays : goal.returns-clause-plays
returns-clause-plays g c =
    rw c.from.ensures (counts_part c.args.weigh.weights c.args.size _ _ (map known_view c.in-Ok-play.told.items) c.in-Err-put_all.fault (rw c.in-Ok.ensures.script at c.in-Ok-play.ensures) c.requires.empty
    (puts_as (c.as_bytes.ensures.value ∙ c.in-Ok-big_line.ensures ∙ ap (λ told. big_line c.args.size (map known_view told)) c.deref.ensures.value) c.in-Err-put_all.ensures.puts))
