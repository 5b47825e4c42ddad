use Rattle.std.proofs.Common.{refl, ap}
use Rattle.std.proofs.lemmas.Result.{err_from_is_err_and}
use Rattle.receiver_commands.specs.OpenId.{sections_by_id}
use Rattle.receiver_commands.proofs.Replying.{hears_no_memory, hears_memory_after}
use Rattle.receiver_commands.proofs.Seeking.{seeks_first, heard_by_id}
use Rattle.receiver_commands.proofs.open_id.receive_by_id.Goals as goal

pub returns-in_err-finder : goal.returns-in_err-finder
returns-in_err-finder g c =
    let p = err_from_is_err_and c.from_residual.result c.from_residual.ensures.1 in
    rw (p.1, p.2) (hears_no_memory (sections_by_id c.args.carousel) _ _ _)

pub hear_all_packets-requires : goal.hear_all_packets-requires
hear_all_packets-requires g c = seeks_first _ _ refl refl c.in_ok-finder.ensures.stands c.new-2.ensures.stands

pub returns-in_err-hear_all_packets : goal.returns-in_err-hear_all_packets
returns-in_err-hear_all_packets g c =
    let p = err_from_is_err_and c.from_residual-in_err-hear_all_packets.result c.from_residual-in_err-hear_all_packets.ensures.1 in
    rw (p.1, p.2) (record { ok = tt; err = c.in_err-hear_all_packets.ensures.err; later = c.hear_all_packets.ensures.later; cause = λ e. c.in_err-hear_all_packets.ensures.cause (cc) })

pub returns-in_err-shot : goal.returns-in_err-shot
returns-in_err-shot g c =
    let p = err_from_is_err_and c.from_residual-in_err-shot.result c.from_residual-in_err-shot.ensures.1 in
    let all = heard_by_id c.args.carousel _ _ _ (rw c.in_ok-finder.ensures.carousel at c.in_ok-hear_all_packets.ensures.ok) in
    rw (p.1, p.2) (hears_memory_after (sections_by_id c.args.carousel) _ all.told c.hear_all_packets.ensures.later)

pub returns : goal.returns
returns g c =
    let all = heard_by_id c.args.carousel _ _ _ (rw c.in_ok-finder.ensures.carousel at c.in_ok-hear_all_packets.ensures.ok) in
    record {
      ok = record {
        taken = all.taken;
        told = all.told;
        heard = ap (λ v. v.held) (c.in_ok-shot.ensures.held all.taken all.heard);
      };
      err = tt;
      later = c.hear_all_packets.ensures.later;
      cause = λ e. absurd (cc);
    }
