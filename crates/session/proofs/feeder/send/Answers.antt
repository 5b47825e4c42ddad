use Rattle.session.proofs.Words.{◌≡◌, ◌==◌, ℕ, List, length, map, take, sym, ap, ◌∙◌, subst, arith, All, Vec, Global, take_all, All-map, All-weaker, section_of, none_sent_so, piece_sent, draw_sent, piece_of, framed_is_like}
use Rattle.dsmcc_section.specs.Sections.{IsFramed}
use Rattle.section_stream.specs.Kept.{view_bytes}
use Rattle.section_stream.specs.Packing.{IsSectionLike}
use Rattle.session.proofs.feeder.send.Goals as goal

like : (made given : List (Vec ℕ Global)) → given ≡ made → All (λ v. IsFramed v.items) made → All (λ v. IsSectionLike v.items) given
like made given same framed = subst (λ (vs : List (Vec ℕ Global)). All (λ v. IsSectionLike v.items) vs) (sym same)
    (All-weaker (λ (v : Vec ℕ Global). IsFramed v.items) (λ (v : Vec ℕ Global). IsSectionLike v.items) (λ v f. framed_is_like v.items f) made framed)

pub carry-requires-clause-sections : goal.carry-requires-clause-sections
carry-requires-clause-sections g c = like c.in_ok-sections.sections.items c.deref.result.now c.deref.ensures.value c.in_ok-sections.ensures.framed

pub loop-sections-init : goal.loop-sections-init
loop-sections-init g c = record { within = omega arith; so = none_sent_so c.args.downlink.now c.args.fates.now }

pub loop-sections-preserved : goal.loop-sections-preserved
loop-sections-preserved g c = let sec = section_of c.args.generation.now in let made = c.in_ok-sections.sections.items in let given = c.deref.result.now in
    record {
      within = omega arith;
      so = piece_sent (c.min-end.result == length c.args.items.now) c.args.downlink.now c.loop-sections.downlink c.carry.new.self c.args.fates.now c.loop-sections.number c.in_ok-number.number
          (map sec (take c.loop-sections.sent c.args.items.now)) (map view_bytes given) (map sec (take c.min-end.result c.args.items.now)) (grind (arith, c.if-last.false))
          (piece_of sec c.args.items.now c.loop-sections.sent c.min-end.result made given (omega arith) c.deref.ensures.value c.in_ok-sections.ensures.exact)
          (All-map IsSectionLike view_bytes given (like made given c.deref.ensures.value c.in_ok-sections.ensures.framed))
          c.in_ok-number.ensures.number c.in_ok-number.ensures.mux c.in_ok-number.ensures.stands c.loop-sections.invariant.so;
    }

pub returns-then-last : goal.returns-then-last
returns-then-last g c = let sec = section_of c.args.generation.now in let made = c.in_ok-sections.sections.items in let given = c.deref.result.now in
    draw_sent (c.min-end.result == length c.args.items.now) c.args.downlink.now c.loop-sections.downlink c.carry.new.self c.args.fates.now c.loop-sections.number
    (map sec (take c.loop-sections.sent c.args.items.now)) (map view_bytes given) (map sec c.args.items.now) (grind (arith, c.if-last.true))
    (ap (map sec) (sym (take_all c.min-end.result c.args.items.now (omega (arith, c.if-last.true))))
    ∙ piece_of sec c.args.items.now c.loop-sections.sent c.min-end.result made given (omega arith) c.deref.ensures.value c.in_ok-sections.ensures.exact)
    (All-map IsSectionLike view_bytes given (like made given c.deref.ensures.value c.in_ok-sections.ensures.framed))
    c.in_ok-number.ensures.stands c.loop-sections.invariant.so
