use Rattle.std.proofs.Common.{◌≡◌, List, ◌++◌, ap, ◌∙◌, append_assoc, subst}
use Rattle.std.specs.Prelude.{Result, Ok, Err, OnOk}
use Rattle.section_stream.specs.Cuts.{Bytes}
use Rattle.section_stream.specs.Packing.{MuxState}
use Rattle.psi_tables.specs.Written.{AnnouncerState, after_announcing, announcer_packets, packets_of_table, past_table, pat_spelling, pmt_spelling}
use Rattle.psi_tables.proofs.announcer.Announcer.packets.Goals as goal

-- one table after the other
both : {X E : Type 0} (r : Result X E) (a : AnnouncerState) (old one two : List Bytes) (pat pmt : Bytes) → pat ≡ pat_spelling → pmt ≡ pmt_spelling a.carousel
    → one ≡ old ++ packets_of_table a.tables pat → OnOk r (two ≡ one ++ packets_of_table a.maps pmt) → OnOk r (two ≡ old ++ announcer_packets a)
both (Ok x) a old one two pat pmt p q first second =
    second ∙ ap (λ (xs : List Bytes). xs ++ packets_of_table a.maps pmt) first ∙ append_assoc old (packets_of_table a.tables pat) (packets_of_table a.maps pmt)
    ∙ ap (λ (s : Bytes). old ++ (packets_of_table a.tables s ++ packets_of_table a.maps pmt)) p ∙ ap (λ (s : Bytes). old ++ (packets_of_table a.tables pat_spelling ++ packets_of_table a.maps s)) q
both (Err e) a old one two pat pmt p q first second = tt

pub returns-clause-packets : goal.returns-clause-packets
returns-clause-packets c =
    let inside = c.self.inside in
    let a : AnnouncerState = record { carousel = inside.carousel; tables = inside.tables; maps = inside.maps } in
    subst (λ (b : AnnouncerState). OnOk c.send-2.result (c.send-2.new.out.items ≡ c.args.out.now.items ++ announcer_packets b)) c.self.view_is
    (both c.send-2.result a c.args.out.now.items c.send.new.out.items c.send-2.new.out.items c.deref.result.now c.deref-2.result.now
    (c.deref.ensures.value ∙ c.self.invariant.1) (c.deref-2.ensures.value ∙ c.self.invariant.2)
    c.in_ok-send.ensures.packets c.send-2.ensures.packets)

both_counters : {X E : Type 0} (r : Result X E) (a : AnnouncerState) (t m : MuxState) (pat pmt : Bytes) → pat ≡ pat_spelling → pmt ≡ pmt_spelling a.carousel → t ≡ past_table a.tables pat
    → OnOk r (m ≡ past_table a.maps pmt) → OnOk r (◌≡◌ {A = AnnouncerState} (record { carousel = a.carousel; tables = t; maps = m }) (after_announcing a))
both_counters (Ok x) a t m pat pmt p q first second =
    ap (λ (y : MuxState). record { carousel = a.carousel; tables = y; maps = m }) (first ∙ ap (past_table a.tables) p)
    ∙ ap (λ (y : MuxState). record { carousel = a.carousel; tables = past_table a.tables pat_spelling; maps = y }) (second ∙ ap (past_table a.maps) q)
both_counters (Err e) a t m pat pmt p q first second = tt

pub returns-clause-counters : goal.returns-clause-counters
returns-clause-counters c =
    let inside = c.self.inside in
    let a : AnnouncerState = record { carousel = inside.carousel; tables = inside.tables; maps = inside.maps } in
    subst (λ (b : AnnouncerState). OnOk c.send-2.result (◌≡◌ {A = AnnouncerState} (record { carousel = inside.carousel; tables = c.send.new.mux; maps = c.send-2.new.mux }) (after_announcing b))) c.self.view_is
    (both_counters c.send-2.result a c.send.new.mux c.send-2.new.mux c.deref.result.now c.deref-2.result.now
    (c.deref.ensures.value ∙ c.self.invariant.1) (c.deref-2.ensures.value ∙ c.self.invariant.2) c.in_ok-send.ensures.counters c.send-2.ensures.counters)
