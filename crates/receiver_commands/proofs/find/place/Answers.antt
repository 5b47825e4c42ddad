use Rattle.std.proofs.Common.{refl, ap, ◌∙◌}
use Rattle.std.proofs.lemmas.Result.{err_from_is_err_and}
use Rattle.psi_tables.specs.Finding.{found_in}
use Rattle.shell_streams.specs.Carriers.{all_packets}
use Rattle.receiver_commands.proofs.Replying.{hears_no_memory}
use Rattle.receiver_commands.proofs.find.place.Goals as goal

pub returns-in_err-finder : goal.returns-in_err-finder
returns-in_err-finder g c =
    let p = err_from_is_err_and c.from_residual.result c.from_residual.ensures.1 in
    rw (p.1, p.2) (hears_no_memory all_packets _ _ _)

pub hear_all_packets-requires : goal.hear_all_packets-requires
hear_all_packets-requires g c = (refl, c.in_ok-finder.ensures.stands)

pub returns-in_err-hear_all_packets : goal.returns-in_err-hear_all_packets
returns-in_err-hear_all_packets g c =
    let p = err_from_is_err_and c.from_residual-in_err-hear_all_packets.result c.from_residual-in_err-hear_all_packets.ensures.1 in
    rw (p.1, p.2) (record { ok = tt; err = c.in_err-hear_all_packets.ensures.err; later = c.hear_all_packets.ensures.later; cause = λ e. c.in_err-hear_all_packets.ensures.cause (cc) })

pub returns : goal.returns
returns g c =
    let all = c.in_ok-hear_all_packets.ensures.ok in
    record {
      ok = record {
        taken = all.taken;
        told = all.told;
        heard = c.find.ensures all.taken all.heard.1 ∙ ap (λ k. found_in k all.taken) (all.heard.0 ∙ c.in_ok-finder.ensures.carousel);
      };
      err = tt;
      later = c.hear_all_packets.ensures.later;
      cause = λ e. absurd (cc);
    }
