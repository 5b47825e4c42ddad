-- What a reception is, by what was heard and what was counted after it.
use Rattle.std.proofs.Common.{◌≡◌, ℕ, ◌≤◌, List, [], ◌∷◌, ◌++◌, Option, Some, None, Err, true, false, Bool, cond, if◌then◌else◌, refl, sym, ap, ◌∙◌, subst, arith, eqb}
use Rattle.path_tree.specs.Paths.{Bytes}
use Rattle.shell_streams.specs.Carriers.{Reading, Hears}
use Rattle.shell_streams.specs.declared.input.InputFault.TheVariants as inputs
use Rattle.shell_streams.proofs.CallerLemmas.{told_same}
use Rattle.section_stream.specs.Cuts.{candidates}
use Rattle.section_stream.specs.Counting.{CountsAreNumbers, counts_over}
use Rattle.section_stream.specs.Rules.{StandsFor}
use Rattle.section_stream.specs.declared.counts.Counts.{Counts}
use Rattle.reception_report.specs.Hearing.{Follows, IsReception}
use Rattle.reception_report.specs.Inner.Hearing.{HasHeard}
use Rattle.reception_report.specs.Report.{counts_told, tail_of, lacks_sync, sync_told}
use Rattle.reception_report.specs.Sync.{front_of, sync_of}
use Rattle.reception_report.specs.Inner.Sync.{IsFront}
use Rattle.reception_report.specs.declared.hearing.Ear.{Ear}
use Rattle.reception_report.specs.declared.sync.SyncPlace.{SyncPlace}

abbrev with_tail : Counts → ℕ → Counts
with_tail c tail = record c { short_tail = tail }

few_tails : (n : ℕ) → tail_of n ≤ 1
few_tails n = go (eqb n 0) where
  go : (b : Bool) → cond {A = ℕ} b 0 1 ≤ 1
  go true = omega arith
  go false = omega arith

-- the counts over all packets, whatever stood for last pieces
counts_as : (pid : ℕ) (packets : List Bytes) (c : Counts) (tail : ℕ) → with_tail c 0 ≡ counts_over pid packets → with_tail c tail ≡ counts_told pid packets tail
counts_as pid packets c tail e = ap (λ x. with_tail x tail) e

sync_as : (pid : ℕ) (packets : List Bytes) (c : Counts) (tail : ℕ) (front : Bytes) (sync : Option SyncPlace) → c ≡ counts_told pid packets tail → front ≡ front_of packets
    → sync ≡ (if lacks_sync c then Some (sync_of front) else None) → sync ≡ sync_told packets tail
sync_as pid packets c tail front sync e f is =
    is ∙ ap (λ bs. if lacks_sync c then Some (sync_of bs) else None) f ∙ ap (λ x. if lacks_sync x then Some (sync_of (front_of packets)) else None) e

pub is_reception : CountsAreNumbers → (pid rest : ℕ) (ear : Ear) (counts given : Counts) (sync : Option SyncPlace) (packets : List Bytes) → HasHeard pid ear packets
    → given ≡ ear.demux.counts → counts ≡ with_tail given (tail_of rest) → sync ≡ (if lacks_sync counts then Some (sync_of ear.front.bytes.items) else None)
    → IsReception pid (record { counts = counts; sync = sync; follower = ear.follower }) packets
is_reception law pid rest ear counts given sync packets h g e s =
    let over : with_tail ear.demux.counts 0 ≡ counts_over pid packets = law.of_packets ear.demux packets h.demux_stands ∙ ap (λ p. counts_over p packets) h.pid_is in
    let told : counts ≡ counts_told pid packets (tail_of rest) = e ∙ ap (λ c. with_tail c (tail_of rest)) g ∙ counts_as pid packets ear.demux.counts (tail_of rest) over in
    let tail : counts.short_tail ≡ tail_of rest = ap (λ c. c.short_tail) e in
    record {
      counts_are = told ∙ ap (counts_told pid packets) (sym tail);
      few = rw tail (few_tails rest);
      sync_is = sync_as pid packets counts (tail_of rest) ear.front.bytes.items sync told h.front_is.bytes_are s ∙ ap (sync_told packets) (sym tail);
      follows = h.follows;
    }

-- ---- hearing one packet

-- one that hears a PID of its own
pub hears_own : (pid : ℕ) (ear : Ear) (packets : List Bytes) → HasHeard pid ear packets → HasHeard ear.demux.pid ear packets
hears_own pid ear packets h = let P : ℕ → Type 0 = λ p. HasHeard p ear packets in subst P (sym h.pid_is) h

pub hears_of : (pid : ℕ) (ear : Ear) (packets : List Bytes) (own : ℕ) → own ≡ pid → HasHeard own ear packets → HasHeard pid ear packets
hears_of pid ear packets own e h = let P : ℕ → Type 0 = λ p. HasHeard p ear packets in subst P e h

pub heard_more : (pid : ℕ) (old new : Ear) (packets : List Bytes) (packet : Bytes) (out : List Bytes) → HasHeard pid old packets → new.demux.pid ≡ old.demux.pid
    → ((ps : List Bytes) → StandsFor old.demux ps → StandsFor new.demux (ps ++ packet ∷ []))
    → ((ps : List Bytes) → StandsFor old.demux ps → candidates old.demux.pid (ps ++ packet ∷ []) ≡ candidates old.demux.pid ps ++ out)
    → (Follows old.follower (candidates pid packets) → Follows new.follower (candidates pid packets ++ out)) → (IsFront old.front packets → IsFront new.front (packets ++ packet ∷ []))
    → HasHeard pid new (packets ++ packet ∷ [])
heard_more pid old new packets packet out h same stands cuts follows front =
    let P : List Bytes → Type 0 = λ cs. Follows new.follower cs in
    let all : candidates pid (packets ++ packet ∷ []) ≡ candidates pid packets ++ out =
    ap (λ p. candidates p (packets ++ packet ∷ [])) (sym h.pid_is) ∙ cuts packets h.demux_stands ∙ ap (λ p. candidates p packets ++ out) h.pid_is in
    record {
      pid_is = same ∙ h.pid_is;
      demux_stands = stands packets h.demux_stands;
      follows = subst P (sym all) (follows h.follows);
      front_is = front h.front_is;
    }

-- ---- reading that ends at once

-- there was no memory to begin with
pub hears_nothing : {T : Type 0} {reading : Reading} {Heard : T → List Bytes → Type 0} (before : Option Bytes) (faults : ℕ) → Hears {T = T} reading Heard (Err inputs.NoMemory) before before faults faults
hears_nothing before faults = record {
  ok = tt;
  err = told_same before (λ x. record { rear = record { taken = []; whole = refl }; too_long = λ e. absurd (cc) });
  later = omega arith;
  cause = λ e. absurd (cc);
}
