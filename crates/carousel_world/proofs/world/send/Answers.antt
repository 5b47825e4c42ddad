use Rattle.std.proofs.Common.{◌==◌, List, length, map, take, sym, ap, ◌∙◌, subst, arith, ℕ}
use Rattle.std.specs.List.{All}
use Rattle.std.specs.declared.vec.Vec.{Vec}
use Rattle.std.specs.declared.alloc.Global.{Global}
use Rattle.std.proofs.lemmas.List.{take_all}
use Rattle.std.proofs.lemmas.List.Elements.{All-map}
use Rattle.generation.specs.Layouts.{section_of}
use Rattle.section_stream.specs.Kept.{view_bytes}
use Rattle.section_stream.specs.Packing.{IsSectionLike}
use Rattle.carousel_world.proofs.Carrying.{draw_sent, piece_sent}
use Rattle.carousel_world.proofs.Happening.{piece_of}
use Rattle.carousel_world.proofs.world.send.Goals as goal

pub loop-sections-preserved : goal.loop-sections-preserved
loop-sections-preserved c =
    let sec = section_of c.args.generation.now in
    let given = c.deref.result.now in
    record {
      within = omega arith;
      so = piece_sent (c.min-end.result == length c.args.items.now) c.args.downlink.now c.loop-sections.downlink c.carry.new.self c.args.fates.now c.loop-sections.number c.in_ok-number.number
          (map sec (take c.loop-sections.sent c.args.items.now)) (map view_bytes given) (map sec (take c.min-end.result c.args.items.now)) (grind (arith, c.if-last.false))
          (piece_of sec c.args.items.now c.loop-sections.sent c.min-end.result c.in_ok-sections.sections.items given (omega arith) c.deref.ensures.value c.in_ok-sections.ensures.sections)
          (All-map IsSectionLike view_bytes given (subst (λ (vs : List (Vec ℕ Global)). All (λ v. IsSectionLike v.items) vs) (sym c.deref.ensures.value) c.in_ok-sections.ensures.like))
          c.in_ok-number.ensures.number c.in_ok-number.ensures.mux c.in_ok-number.ensures.stands c.loop-sections.invariant.so;
    }

pub returns-then-last : goal.returns-then-last
returns-then-last c =
    let sec = section_of c.args.generation.now in
    let given = c.deref.result.now in
    draw_sent (c.min-end.result == length c.args.items.now) c.args.downlink.now c.loop-sections.downlink c.carry.new.self c.args.fates.now c.loop-sections.number
    (map sec (take c.loop-sections.sent c.args.items.now)) (map view_bytes given) (map sec c.args.items.now) (grind (arith, c.if-last.true))
    (ap (map sec) (sym (take_all c.min-end.result c.args.items.now (omega (arith, c.if-last.true))))
    ∙ piece_of sec c.args.items.now c.loop-sections.sent c.min-end.result c.in_ok-sections.sections.items given (omega arith) c.deref.ensures.value c.in_ok-sections.ensures.sections)
    (All-map IsSectionLike view_bytes given (subst (λ (vs : List (Vec ℕ Global)). All (λ v. IsSectionLike v.items) vs) (sym c.deref.ensures.value) c.in_ok-sections.ensures.like))
    c.in_ok-number.ensures.stands c.loop-sections.invariant.so
