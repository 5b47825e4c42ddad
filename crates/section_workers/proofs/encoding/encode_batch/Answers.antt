use Rattle.std.proofs.Common.{◌≡◌, ◌++◌, Vec, Global, ℕ, sym, subst, rules}
use Rattle.std.specs.List.{All, Contains}
use Rattle.std.proofs.lemmas.List.Elements.{All-take, All-drop, All-append}
use Rattle.cycle_planner.specs.declared.Item.{Item}
use Rattle.dsmcc_section.specs.Sections.{IsFramed}
use Rattle.generation.specs.Layouts.{items_of}
use Rattle.section_workers.proofs.encoding.encode_batch.Goals as goal

pub join-first-requires-after_bounds : goal.join-first-requires-after_bounds
join-first-requires-after_bounds g c κs bounds =
    let OfGeneration : Item → Type 0 = λ i. Contains (items_of c.args.generation.now) i in (
      subst (All OfGeneration) (sym c.split_at.ensures.front) (All-take OfGeneration _ c.args.items.now c.requires.items),
      subst (All OfGeneration) (sym c.split_at.ensures.back) (All-drop OfGeneration _ c.args.items.now c.requires.items),
    )

pub returns-clause-framed : goal.returns-clause-framed
returns-clause-framed g c =
    let Framed : Vec ℕ Global → Type 0 = λ s. IsFramed s.items in
    let all : c.append.new.self.items ≡ c.in_ok-sections.sections.items ++ c.in_ok-second.field-0.items = search rules in
    let first : All Framed c.in_ok-sections.sections.items = search rules in
    let second : All Framed c.in_ok-second.field-0.items = search rules in
    subst (All Framed) (sym all) (All-append Framed _ _ first second)
