-- The packet at which a carousel is found, and what is heard from there on.
use Rattle.std.proofs.Common.{◌≡◌, ℕ, zero, suc, ◌*◌, ◌<◌, ◌≤◌, ◌⊎◌, inl, inr, List, [], length, take, drop, Option, Some, None, refl, sym, ap, ◌∙◌, arith}
use Rattle.std.proofs.lemmas.Bool.{cases_lt}
use Rattle.carousel_profile.specs.declared.TheConstants.{PACKET_LENGTH}
use Rattle.path_tree.specs.Paths.{PathNames}
use Rattle.path_resolver.specs.declared.answer.Answer.TheVariants as answers
use Rattle.section_stream.specs.Cuts.{candidates}
use Rattle.tuner_core.specs.LookBack.{answer_after}
use Rattle.psi_tables.specs.declared.finder.Find.{Find}
use Rattle.psi_tables.specs.declared.finder.Find.TheVariants.{NoPat, NotNamed, At}
use Rattle.psi_tables.specs.Finding.{found_in}
use Rattle.shell_streams.specs.Cuts.{Bytes}
use Rattle.shell_streams.specs.Packets.{packets_of, candidates_of}
use Rattle.shell_streams.proofs.CallerLemmas.{packets_behind}
use Rattle.receiver_commands.specs.OpenId.{found_after, or_then, found_within, sections_after, sections_among}
use Rattle.shell_commands.specs.Laws.{IsNowhere, IsFirst, IsNeverFound, HeardById}

-- ---- the packet at which it is found

nowhere_behind : (n : ℕ) (f : Find) → IsNowhere f → found_after n f ≡ None
nowhere_behind n NoPat h = refl
nowhere_behind n NotNamed h = refl
nowhere_behind n (At pid) h = absurd h

or_none : (o later : Option (ℕ × ℕ)) → o ≡ None → or_then o later ≡ later
or_none o later e = ap (λ x. or_then x later) e

none_within : (carousel : ℕ) (packets : List Bytes) (n : ℕ) → ((m : ℕ) → m ≤ n → IsNowhere (found_in carousel (take m packets))) → found_within carousel packets n ≡ None
none_within carousel packets zero h = refl
none_within carousel packets (suc n) h =
    or_none _ _ (none_within carousel packets n (λ m le. h m (omega arith))) ∙ nowhere_behind (suc n) (found_in carousel (take (suc n) packets)) (h (suc n) (omega arith))

-- it is found after one packet at least
not_at_once : (carousel pid : ℕ) (packets : List Bytes) → found_in carousel (take 0 packets) ≡ At pid → ⊥
not_at_once carousel pid packets e = cc

first_within : (carousel : ℕ) (packets : List Bytes) (n pid k : ℕ) → IsFirst carousel packets n pid → n ≤ k → found_within carousel packets k ≡ Some (n, pid)
first_within carousel packets zero pid k h le = absurd (not_at_once carousel pid packets h.found)
first_within carousel packets (suc n) pid zero h le = absurd (omega arith)
first_within carousel packets (suc n) pid (suc k) h le = by (cases_lt n k) (first_within carousel packets (suc n) pid k h)
  where
    by : (n < k) ⊎ (k ≤ n) → (suc n ≤ k → found_within carousel packets k ≡ Some (suc n, pid)) → found_within carousel packets (suc k) ≡ Some (suc n, pid)
    by (inl more) fewer = ap (λ o. or_then o (found_after (suc k) (found_in carousel (take (suc k) packets)))) (fewer (omega (arith, more)))
    by (inr here) fewer =
        let e : k ≡ n = omega arith in
        let none = none_within carousel packets n (λ m small. h.before m (omega arith)) in
        ap (λ i. found_within carousel packets (suc i)) e ∙ or_none _ _ none ∙ ap (found_after (suc n)) h.found

-- ---- what is heard

heard_behind : (carousel : ℕ) (input : Bytes) (n pid : ℕ) → IsFirst carousel (packets_of input) n pid
    → sections_among carousel (packets_of input) ≡ candidates_of pid (drop (PACKET_LENGTH * n) input)
heard_behind carousel input n pid first =
    let packets = packets_of input in
    ap (sections_after packets) (first_within carousel packets n pid (length packets) first first.within)
    ∙ ap (candidates pid) (sym (packets_behind n input first.within))

no_carousel : (sections : List Bytes) (p : PathNames) → sections ≡ [] → answer_after sections p ≡ answers.NoCarousel
no_carousel sections p e = ap (λ ss. answer_after ss p) e

heard_nowhere : (carousel : ℕ) (packets : List Bytes) (p : PathNames) → IsNeverFound carousel packets
    → answer_after (sections_among carousel packets) p ≡ answers.NoCarousel
heard_nowhere carousel packets p never = no_carousel (sections_among carousel packets) p
    (ap (sections_after packets) (none_within carousel packets (length packets) never))

pub heard_by_id : (carousel : ℕ) (input : Bytes) → HeardById carousel input
heard_by_id carousel input = record {
  behind = λ n pid first. heard_behind carousel input n pid first;
  nowhere = λ p never. heard_nowhere carousel (packets_of input) p never;
}
