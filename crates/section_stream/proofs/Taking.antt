-- A packet that is taken: what is kept and given is what the rules say.
use Rattle.std.proofs.Common.{◌≡◌, ℕ, Bool, true, false, List, Option, Some, None, if◌then◌else◌, refl, sym, ◌∙◌, ap, ap₂, subst}
use Rattle.ts_packet.specs.Packets.{Fields}
use Rattle.section_stream.specs.Cuts.{Bytes}
use Rattle.section_stream.specs.Rules.{Receiving, After, goes_on, jumps_from, keeps, one_more, starts, takes, up}
use Rattle.section_stream.specs.Steps.{kept_unless}
use Rattle.section_stream.specs.Inner.Steps.{Gives, HasDone, done_by, with_packet}
use Rattle.section_stream.specs.declared.counts.Counts.{Counts}

abbrev taken_with : Receiving → Fields → Bool → Receiving × List Bytes
taken_with s p jumped =
    let opened = if jumped then None else s.opened in
    let c = if jumped then record (one_more s).counts { jumps = up s.counts.jumps } else (one_more s).counts in
    keeps (one_more s) p (if p.start then starts opened p.payload c else goes_on opened p.payload c)

takes_with : (s : Receiving) (p : Fields) (jumped : Bool) → jumps_from p.counter s.last ≡ jumped → takes (one_more s) p ≡ taken_with s p jumped
takes_with s p jumped e = ap (taken_with s p) e

with_is : (s : Receiving) (p : Fields) (jumped : Bool) → taken_with s p jumped ≡ keeps (one_more s) p (done_by p.start (kept_unless jumped s.opened) p.payload (with_packet jumped s.counts))
with_is s p true = refl
with_is s p false = refl

keeps_done : (s : Receiving) (p : Fields) (a : After) (left : Option Bytes) (before candidates : List Bytes) (counts : Counts) → HasDone a left before candidates counts
    → Gives (keeps (one_more s) p a) (record { pid = s.pid; last = Some (p.counter, p.payload); opened = left; counts = counts }) before candidates
keeps_done s p a left before candidates counts d = record {
  state = λ i. record { pid = s.pid; last = Some (p.counter, p.payload); opened = d.opened i; counts = d.counted i };
  out = d.out;
}

pub takes_done : (s t : Receiving) (p : Fields) (jumped : Bool) (last : Option (ℕ × Bytes)) (kept : Option Bytes) (c : Counts) (before : List Bytes) (left now : Option Bytes) (candidates : List Bytes) (counts : Counts)
    → s ≡ t → jumps_from p.counter t.last ≡ jumped → last ≡ Some (p.counter, p.payload)
    → kept ≡ kept_unless jumped s.opened → c ≡ with_packet jumped s.counts → now ≡ left
    → HasDone (done_by p.start kept p.payload c) left before candidates counts
    → Gives (takes (one_more t) p) (record { pid = s.pid; last = last; opened = now; counts = counts }) before candidates
takes_done s t p jumped last kept c before left now candidates counts is j l k w n d =
    let d1 : HasDone (done_by p.start (kept_unless jumped s.opened) p.payload c) left before candidates counts = subst (λ x. HasDone (done_by p.start x p.payload c) left before candidates counts) k d in
    let d2 : HasDone (done_by p.start (kept_unless jumped s.opened) p.payload (with_packet jumped s.counts)) left before candidates counts =
    subst (λ x. HasDone (done_by p.start (kept_unless jumped s.opened) p.payload x) left before candidates counts) w d1 in
    let same : takes (one_more t) p ≡ keeps (one_more s) p (done_by p.start (kept_unless jumped s.opened) p.payload (with_packet jumped s.counts)) =
    ap (λ x. takes (one_more x) p) (sym is) ∙ takes_with s p jumped (ap (λ x. jumps_from p.counter x.last) is ∙ j) ∙ with_is s p jumped in
    let new : Receiving = record { pid = s.pid; last = Some (p.counter, p.payload); opened = left; counts = counts } in
    let g : Gives (takes (one_more t) p) new before candidates = subst (λ r. Gives r new before candidates) (sym same) (keeps_done s p _ left before candidates counts d2) in
    record {
      state = g.state ∙ ap (λ (x : Option (ℕ × Bytes)). record { pid = s.pid; last = x; opened = left; counts = counts }) (sym l)
          ∙ ap (λ (x : Option Bytes). record { pid = s.pid; last = last; opened = x; counts = counts }) (sym n);
      out = g.out;
    }

-- with the two counts of a packet as they were, all are
pub uncounted : (jumped : Bool) (c d e : Counts) → d ≡ with_packet jumped c → e ≡ d → record e { packets = c.packets; jumps = c.jumps } ≡ c
uncounted true c d e w same = ap (λ (x : Counts). record x { packets = c.packets; jumps = c.jumps }) (same ∙ w)
uncounted false c d e w same = ap (λ (x : Counts). record x { packets = c.packets; jumps = c.jumps }) (same ∙ w)

pub as_before : (s t : Receiving) (opened : Option Bytes) (counts : Counts) → s ≡ t → opened ≡ s.opened → counts ≡ s.counts → record { pid = s.pid; last = s.last; opened = opened; counts = counts } ≡ t
as_before s t opened counts is o c =
    ap₂ (λ (x : Option Bytes) (y : Counts). record { pid = s.pid; last = s.last; opened = x; counts = y }) o c ∙ is
