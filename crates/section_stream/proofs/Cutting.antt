-- The rules, packet by packet, cut what looking forward from each opening cuts.
use Rattle.std.proofs.Common.{◌≡◌, ℕ, zero, suc, ◌+◌, ◌%◌, ◌≤◌, Bool, true, false, ◌&&◌, ◌||◌, ◌==◌, nat_le, List, [], ◌∷◌, ◌++◌, length, map, take, drop, slice_index, Option, Some, None, if◌then◌else◌, refl, sym, ◌∙◌, ap, subst, arith, append_assoc, append-nil}
use Rattle.std.proofs.lemmas.Grind.{common_steps}
use Rattle.std.proofs.lemmas.List.{take-append-le, map-append}
use Rattle.std.proofs.lemmas.Bool.{le-leb}
use Rattle.carousel_profile.specs.declared.TheConstants.{PACKET_LENGTH}
use Rattle.section_stream.specs.Cuts.{Bytes, Received, Cut, whole_len, going_on, opened_in, cuts_at, cuts_of, pointer_of, pointer_fits}
use Rattle.section_stream.specs.Rules.{After, Grown, Growing, Oversize, Whole, as_grown, open_on, after_append, goes_on, closes, starts}
use Rattle.section_stream.specs.declared.counts.Counts.{Counts}

-- the candidate of some bytes
abbrev pub candidate : Option ℕ → Bytes → List Bytes
candidate (Some n) bytes = take n bytes ∷ []
candidate None bytes = []

-- what becomes of the open section with the bytes that go on
abbrev pub finish : Option Bytes → Bytes → List Bytes
finish (Some x) more = candidate (whole_len (x ++ more)) (x ++ more)
finish None more = []

growing_is_not_whole : (x : Bytes) → as_grown x ≡ Growing → whole_len x ≡ None
growing_is_not_whole x e = grind (arith, common_steps)

whole_with_more : (x more : Bytes) (n : ℕ) → as_grown x ≡ Whole n → (whole_len (x ++ more) ≡ Some n) × (n ≤ length x)
whole_with_more x more n e = (grind (arith, common_steps), grind (arith, common_steps))

oversize_with_more : (x more : Bytes) → as_grown x ≡ Oversize → whole_len (x ++ more) ≡ None
oversize_with_more x more e = grind (arith, common_steps)

-- an append that closes nothing
append_open : (x more : Bytes) (k : Counts) → (after_append false x k).out ++ finish (after_append false x k).opened more ≡ finish (Some x) more
append_open x more k = go (as_grown x) refl where
  go : (g : Grown) → as_grown x ≡ g → (after_append false x k).out ++ finish (after_append false x k).opened more ≡ finish (Some x) more
  go Growing e = rw e refl
  go Oversize e = rw (e, oversize_with_more x more e) refl
  go (Whole n) e = rw (e, (whole_with_more x more n e).0) (ap (λ b. b ∷ []) (sym (take-append-le n x more (whole_with_more x more n e).1)))

-- one that closes
append_closed : (x : Bytes) (k : Counts) → ((after_append true x k).out ≡ finish (Some x) []) × ((after_append true x k).opened ≡ None)
append_closed x k = go (as_grown x) refl where
  go : (g : Grown) → as_grown x ≡ g → ((after_append true x k).out ≡ finish (Some x) []) × ((after_append true x k).opened ≡ None)
  go Growing e = (rw (e, append-nil, growing_is_not_whole x e) refl, rw e refl)
  go Oversize e = (rw (e, oversize_with_more x [] e) refl, rw e refl)
  go (Whole n) e = (rw (e, (whole_with_more x [] n e).0) (ap (λ b. b ∷ []) (sym (take-append-le n x [] (whole_with_more x [] n e).1))), rw e refl)

abbrev pub bytes_of : List Cut → List Bytes
bytes_of cs = map (λ c. c.bytes) cs

-- a section that grows is not whole with what goes on, and else ends after this packet
grows_past : (here more : Bytes) (n : ℕ) → as_grown here ≡ Growing → whole_len (here ++ more) ≡ Some n → nat_le n (length here) ≡ false
grows_past here more n e w = grind (arith, common_steps)

-- what is opened in a packet, with the bytes that go on after it
opens : (steps number : ℕ) (here more : Bytes) (k : Counts) → (open_on steps here k).out ++ finish (open_on steps here k).opened more ≡ bytes_of (opened_in steps number here more)
opens zero number here more k = refl
opens (suc steps) number here more k = ends (λ rest. opens steps number rest more k) ((length here == 0) || (slice_index here 0 == 0xFF)) refl where
  Claim : Type 0
  Claim = (open_on (suc steps) here k).out ++ finish (open_on (suc steps) here k).opened more ≡ bytes_of (opened_in (suc steps) number here more)

  Next : Type 0
  Next = (rest : Bytes) → (open_on steps rest k).out ++ finish (open_on steps rest k).opened more ≡ bytes_of (opened_in steps number rest more)

  grows : ((length here == 0) || (slice_index here 0 == 0xFF)) ≡ false → as_grown here ≡ Growing → (w : Option ℕ) → whole_len (here ++ more) ≡ w → Claim
  grows t e None w = rw (t, e, w) refl
  grows t e (Some n) w = rw (t, e, w, grows_past here more n e w) refl

  goes : Next → ((length here == 0) || (slice_index here 0 == 0xFF)) ≡ false → (g : Grown) → as_grown here ≡ g → Claim
  goes next t Growing e = grows t e (whole_len (here ++ more)) refl
  goes next t Oversize e = rw (t, e, oversize_with_more here more e) refl
  goes next t (Whole n) e =
      let is = whole_with_more here more n e in
      let within : nat_le n (length here) ≡ true = le-leb n (length here) is.1 in
      rw (t, e, is.0, within, take-append-le n here more is.1) (ap (λ bs. take n here ∷ bs) (next (drop n here)))

  ends : Next → (b : Bool) → ((length here == 0) || (slice_index here 0 == 0xFF)) ≡ b → Claim
  ends next true t = rw t refl
  ends next false t = goes next t (as_grown here) refl

-- what is kept open can still grow
abbrev pub IsOpen : Option Bytes → Type 0
IsOpen (Some x) = as_grown x ≡ Growing
IsOpen None = Unit {0}

append_keeps : (closing : Bool) (x : Bytes) (k : Counts) → IsOpen (after_append closing x k).opened
append_keeps closing x k = go closing (as_grown x) refl where
  go : (b : Bool) (g : Grown) → as_grown x ≡ g → IsOpen (after_append b x k).opened
  go true Growing e = rw e tt
  go false Growing e = subst IsOpen (sym (opened_is e)) e where
    opened_is : as_grown x ≡ Growing → (after_append false x k).opened ≡ Some x
    opened_is h = rw h refl
  go b Oversize e = rw e tt
  go b (Whole n) e = rw e tt

open_keeps : (steps : ℕ) (here : Bytes) (k : Counts) → IsOpen (open_on steps here k).opened
open_keeps zero here k = tt
open_keeps (suc steps) here k = ends (λ rest. open_keeps steps rest k) ((length here == 0) || (slice_index here 0 == 0xFF)) refl where
  Claim : Type 0
  Claim = IsOpen (open_on (suc steps) here k).opened

  goes : ((rest : Bytes) → IsOpen (open_on steps rest k).opened) → ((length here == 0) || (slice_index here 0 == 0xFF)) ≡ false → (g : Grown) → as_grown here ≡ g → Claim
  goes next t Growing e = subst IsOpen (sym (opened_is t e)) e where
    opened_is : ((length here == 0) || (slice_index here 0 == 0xFF)) ≡ false → as_grown here ≡ Growing → (open_on (suc steps) here k).opened ≡ Some here
    opened_is u h = rw (u, h) refl
  goes next t Oversize e = rw (t, e) tt
  goes next t (Whole n) e = rw (t, e) (next (drop n here))

  ends : ((rest : Bytes) → IsOpen (open_on steps rest k).opened) → (b : Bool) → ((length here == 0) || (slice_index here 0 == 0xFF)) ≡ b → Claim
  ends next true t = rw t tt
  ends next false t = goes next t (as_grown here) refl

pub finish_nothing : (o : Option Bytes) → IsOpen o → finish o [] ≡ []
finish_nothing None h = refl
finish_nothing (Some x) h = rw (append-nil, growing_is_not_whole x h) refl

-- ---- over all packets

abbrev pub kept : Option Bytes → ℕ → Received → Option Bytes
kept o c q = if q.counter == (c + 1) % 16 then o else None

abbrev pub act : Option Bytes → Counts → Received → After
act o k q = if q.start then starts o q.payload k else goes_on o q.payload k

-- the candidates that the rules give, from any open section on
abbrev pub run_from : Option Bytes → Counts → ℕ → List Received → List Bytes
run_from o k c [] = []
run_from o k c (q ∷ qs) = (act (kept o c q) k q).out ++ run_from (act (kept o c q) k q).opened (act (kept o c q) k q).counts q.counter qs

-- one packet that goes on: what it gives, and what is still to be finished
goes_through : (o : Option Bytes) (payload more : Bytes) (k : Counts) → IsOpen o
    → ((goes_on o payload k).out ++ finish (goes_on o payload k).opened more ≡ finish o (payload ++ more)) × IsOpen (goes_on o payload k).opened
goes_through None payload more k h = (refl, tt)
goes_through (Some x) payload more k h = (append_open (x ++ payload) more k ∙ ap (λ b. candidate (whole_len b) b) (append_assoc x payload more), append_keeps false (x ++ payload) k)

closes_with : (o : Option Bytes) (part : Bytes) (k : Counts) → IsOpen o → (closes o part k).out ≡ finish o part
closes_with None part k h = refl
closes_with (Some x) part k h = (append_closed (x ++ part) k).0 ∙ ap (λ b. candidate (whole_len b) b) (append-nil (x ++ part))

-- one start packet
starts_with : (o : Option Bytes) (q : Received) (more : Bytes) (k : Counts) → q.start ≡ true → IsOpen o
    → ((starts o q.payload k).out ++ finish (starts o q.payload k).opened more
    ≡ finish o (if pointer_fits q then take (pointer_of q) (drop 1 q.payload) else [])
    ++ bytes_of (if q.start && pointer_fits q then opened_in PACKET_LENGTH q.number (drop (1 + pointer_of q) q.payload) more else []))
    × IsOpen (starts o q.payload k).opened
starts_with o q more k s h = go (pointer_fits q) refl where
  Claim : Type 0
  Claim = ((starts o q.payload k).out ++ finish (starts o q.payload k).opened more
      ≡ finish o (if pointer_fits q then take (pointer_of q) (drop 1 q.payload) else [])
      ++ bytes_of (if q.start && pointer_fits q then opened_in PACKET_LENGTH q.number (drop (1 + pointer_of q) q.payload) more else []))
      × IsOpen (starts o q.payload k).opened

  go : (b : Bool) → pointer_fits q ≡ b → Claim
  go false f = (rw (s, f, finish_nothing o h) refl, rw f tt)
  go true f =
      let part = take (pointer_of q) (drop 1 q.payload) in
      let first = closes o part k in (
        rw (s, f, closes_with o part k h) (append_assoc (finish o part) _ _ ∙ ap (λ bs. finish o part ++ bs) (opens PACKET_LENGTH q.number (drop (1 + pointer_of q) q.payload) more first.counts)),
        rw f (open_keeps PACKET_LENGTH (drop (1 + pointer_of q) q.payload) first.counts),
      )

-- what goes on in one packet, where `more` goes on after it
abbrev pub part_of : Received → Bytes → Bytes
part_of q more = if q.start then (if pointer_fits q then take (pointer_of q) (drop 1 q.payload) else []) else q.payload ++ more

abbrev pub opened_by : Received → Bytes → List Cut
opened_by q more = if q.start && pointer_fits q then opened_in PACKET_LENGTH q.number (drop (1 + pointer_of q) q.payload) more else []

pub acts : (o : Option Bytes) (q : Received) (more : Bytes) (k : Counts) → IsOpen o
    → ((act o k q).out ++ finish (act o k q).opened more ≡ finish o (part_of q more) ++ bytes_of (opened_by q more)) × IsOpen (act o k q).opened
acts o q more k h = go q.start refl where
  go : (b : Bool) → q.start ≡ b → ((act o k q).out ++ finish (act o k q).opened more ≡ finish o (part_of q more) ++ bytes_of (opened_by q more)) × IsOpen (act o k q).opened
  go true s = let is = starts_with o q more k s h in (rw s (rw s at is.0), rw s is.1)
  go false s = let is = goes_through o q.payload more k h in (rw s (is.0 ∙ sym (append-nil (finish o (q.payload ++ more)))), rw s is.1)

pub onto : (out rest mine cuts left : List Bytes) → out ++ rest ≡ mine ++ cuts → out ++ (rest ++ left) ≡ mine ++ (cuts ++ left)
onto out rest mine cuts left e = sym (append_assoc out rest left) ∙ ap (λ bs. bs ++ left) e ∙ append_assoc mine cuts left

-- the rules give what looking forward gives, from any open section on
pub run_is_cuts : (o : Option Bytes) (k : Counts) (c : ℕ) (qs : List Received) → IsOpen o → run_from o k c qs ≡ finish o (going_on c qs) ++ bytes_of (cuts_of qs)
run_is_cuts o k c [] h = rw (finish_nothing o h) refl
run_is_cuts o k c (q ∷ qs) h = go (λ p l i. run_is_cuts p l q.counter qs i) (q.counter == (c + 1) % 16) refl where
  more : Bytes
  more = going_on q.counter qs

  Next : Type 0
  Next = (p : Option Bytes) (l : Counts) → IsOpen p → run_from p l q.counter qs ≡ finish p more ++ bytes_of (cuts_of qs)

  one : Next → (p : Option Bytes) → IsOpen p → (act p k q).out ++ run_from (act p k q).opened (act p k q).counts q.counter qs ≡ finish p (part_of q more) ++ bytes_of (cuts_at q qs ++ cuts_of qs)
  one next p i =
      let is = acts p q more k i in
      rw (next (act p k q).opened (act p k q).counts is.1, map-append) (onto _ _ _ _ (bytes_of (cuts_of qs)) is.0)

  go : Next → (b : Bool) → (q.counter == (c + 1) % 16) ≡ b → (act (kept o c q) k q).out ++ run_from (act (kept o c q) k q).opened (act (kept o c q) k q).counts q.counter qs ≡ finish o (going_on c (q ∷ qs)) ++ bytes_of (cuts_of (q ∷ qs))
  go next true t = rw t (one next o h)
  go next false t = rw (t, finish_nothing o h) (one next None tt)
