-- How hearing an input ends.
use Rattle.std.proofs.Common.{◌≡◌, ◌≤◌, ◌<◌, ℕ, ◌+◌, List, ◌++◌, ◌∷◌, [], length, take, get_or, map, Option, Ok, Err, sym, ap, ◌∙◌, append_assoc}
use Rattle.std.proofs.lemmas.List.{map_more}
use Rattle.oc_bytes.specs.Outcome.{Rose, Known}
use Rattle.shell_streams.specs.Cuts.{Bytes}
use Rattle.shell_streams.specs.Packets.{Stopped}
use Rattle.shell_streams.specs.Carriers.{Reading, HeardAll, Hears}
use Rattle.shell_streams.specs.declared.input.InputFault.{InputFault}
use Rattle.shell_streams.specs.declared.input.InputFault.TheVariants as inputs

pub hears_end : {T : Type 0} {x : T} {reading : Reading} {Heard : T → List Bytes → Type 0} {before after : Option Bytes} {faults later : ℕ} → HeardAll reading (Heard x) before after → faults ≤ later
    → Hears reading Heard (Ok x) before after faults later
hears_end all le = record { ok = all; err = tt; later = le; cause = λ e. absurd (cc) }

pub hears_fault : {T : Type 0} {reading : Reading} {Heard : T → List Bytes → Type 0} {before after : Option Bytes} {faults later : ℕ} (fault : InputFault)
    → Known before after (Stopped reading.goes_on fault) → faults ≤ later → (fault ≡ inputs.Failed → Rose faults later) → Hears reading Heard (Err fault) before after faults later
hears_fault fault stopped le cause = record { ok = tt; err = stopped; later = le; cause = λ e. cause (cc) }

pub map_next : {X : Type 0} (f : X → Bytes) (before : List Bytes) (xs : List X) (i : ℕ) (x : X) → i < length xs → x ≡ get_or xs i x → (before ++ map f (take i xs)) ++ f x ∷ [] ≡ before ++ map f (take (i + 1) xs)
map_next f before xs i x h e =
    append_assoc before (map f (take i xs)) (f x ∷ []) ∙ ap (λ ys. before ++ ys) (ap (λ y. map f (take i xs) ++ f y ∷ []) e ∙ sym (map_more f xs i x h))

-- the same was heard, whatever is answered beside it
pub hears_as : {T U : Type 0} {x : T} (y : U) {reading : Reading} {Heard : List Bytes → Type 0} {before after : Option Bytes} {faults later : ℕ} → Hears reading (λ (_ : T). Heard) (Ok x) before after faults later
    → Hears reading (λ (_ : U). Heard) (Ok y) before after faults later
hears_as y h = hears_end h.ok h.later

pub hears_fails : {T U : Type 0} {fault : InputFault} {reading : Reading} {Heard : List Bytes → Type 0} {before after : Option Bytes} {faults later : ℕ} → Hears reading (λ (_ : T). Heard) (Err fault) before after faults later
    → Hears reading (λ (_ : U). Heard) (Err fault) before after faults later
hears_fails {fault = fault} h = hears_fault fault h.err h.later (λ e. h.cause (cc))
