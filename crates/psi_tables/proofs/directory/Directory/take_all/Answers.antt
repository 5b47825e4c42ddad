use Rattle.std.proofs.Common.{ℕ, List, map, refl, subst, ◌∙◌}
use Rattle.std.proofs.lemmas.List.{take_all}
use Rattle.std.specs.declared.vec.Vec.{Vec}
use Rattle.std.specs.declared.alloc.Global.{Global}
use Rattle.section_stream.specs.Kept.{view_bytes}
use Rattle.psi_tables.proofs.Keeping.{Takes, takes_none, takes_more}
use Rattle.psi_tables.proofs.directory.Directory.take_all.Goals as goal

pub loop-section-init : goal.loop-section-init
loop-section-init c = record { takes = takes_none c.args.self.now; carousel = refl }

pub loop-section-preserved : goal.loop-section-preserved
loop-section-preserved c = record {
  takes = takes_more c.args.self.now c.loop-section.self c.take.new.self c.args.sections.now c.loop-section.section-index c.section-item.result c.deref.result.now c.loop-section-test.true c.section-item.is c.deref.ensures.value
      c.loop-section.invariant.takes c.in_ok-take.ensures.keeps;
  carousel = c.take.ensures.carousel ∙ c.loop-section.invariant.carousel;
}

pub returns-clause-keeps : goal.returns-clause-keeps
returns-clause-keeps c =
    subst (λ (ss : List (Vec ℕ Global)). Takes c.args.self.now c.loop-section.self (map view_bytes ss)) (take_all c.loop-section.section-index c.args.sections.now c.loop-section-test.false) c.loop-section.invariant.takes
