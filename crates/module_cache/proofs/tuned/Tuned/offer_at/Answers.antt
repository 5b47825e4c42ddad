use Rattle.std.proofs.Common.{◌≡◌, ◌∙◌, Some, ap, subst, sym}
use Rattle.std.proofs.lemmas.Result.{on_ok_weaker, IfOk-weaker, on_err_weaker}
use Rattle.ddb_block.specs.Blocks.{parts_view}
use Rattle.module_cache.specs.Held.{taken_tuned, tuned_after}
use Rattle.module_cache.specs.Joining.{no_id_twice}
use Rattle.module_cache.specs.TunedView.{view_tuned}
use Rattle.module_cache.specs.Inner.Placing.{line_in}
use Rattle.module_cache.specs.Inner.Reaches.{AreWithin}
use Rattle.module_cache.proofs.Places.{refused_at, taken_at, after_refused, after_taken, said_set}
use Rattle.module_cache.proofs.tuned.Tuned.offer_at.Goals as goal

pub returns-then-line-parts-clause-answer : goal.returns-then-line-parts-clause-answer
returns-then-line-parts-clause-answer c =
    let b = parts_view c.args.parts.now in
    let t = view_tuned c.self.inside in
    let at : line_in b t ≡ Some c.args.place = ap (line_in b) c.self.view_is ∙ c.requires in
    sym (ap (λ u. taken_tuned u b) (sym c.self.view_is) ∙ refused_at b t c.args.place c.index_mut-line.result.now at c.index_mut-line.ensures.value c.if-line-parts.true)

pub returns-then-line-parts-clause-ok : goal.returns-then-line-parts-clause-ok
returns-then-line-parts-clause-ok c =
    let b = parts_view c.args.parts.now in
    let t = view_tuned c.self.inside in
    let at : line_in b t ≡ Some c.args.place = ap (line_in b) c.self.view_is ∙ c.requires in
    after_refused b t c.args.place c.index_mut-line.result.now at c.index_mut-line.ensures.value c.if-line-parts.true ∙ ap (λ u. tuned_after u b) c.self.view_is

pub invariant_of-self-2 : goal.invariant_of-self-2
invariant_of-self-2 c =
    let said = said_set c.self.inside.lines.items c.args.place c.index_mut-line.result.now c.offer.new.self c.index_mut-line.ensures.value in
    record {
      version = c.self.invariant.version;
      once = ap no_id_twice said ∙ c.self.invariant.once;
      within = subst (AreWithin c.self.inside.reach) (sym said) c.self.invariant.within;
    }

pub returns-clause-answer : goal.returns-clause-answer
returns-clause-answer c =
    let b = parts_view c.args.parts.now in
    let t = view_tuned c.self.inside in
    let at : line_in b t ≡ Some c.args.place = ap (line_in b) c.self.view_is ∙ c.requires in
    IfOk-weaker c.offer.result _ (λ x. x ≡ taken_tuned c.args.self.now b)
    (λ x e. e ∙ sym (taken_at b t c.args.place c.index_mut-line.result.now at c.index_mut-line.ensures.value c.if-line-parts.false) ∙ ap (λ u. taken_tuned u b) c.self.view_is)
    c.offer.ensures.answer

pub returns-clause-ok : goal.returns-clause-ok
returns-clause-ok c =
    let b = parts_view c.args.parts.now in
    let t = view_tuned c.self.inside in
    let at : line_in b t ≡ Some c.args.place = ap (line_in b) c.self.view_is ∙ c.requires in
    on_ok_weaker c.offer.result
    (λ e. after_taken b t c.args.place c.index_mut-line.result.now c.offer.new.self at c.index_mut-line.ensures.value c.if-line-parts.false e ∙ ap (λ u. tuned_after u b) c.self.view_is)
    c.offer.ensures.ok

pub returns-clause-memory : goal.returns-clause-memory
returns-clause-memory c =
    let b = parts_view c.args.parts.now in
    let t = view_tuned c.self.inside in
    let at : line_in b t ≡ Some c.args.place = ap (line_in b) c.self.view_is ∙ c.requires in
    on_err_weaker c.offer.result
    (λ e. ap (λ u. taken_tuned u b) (sym c.self.view_is) ∙ taken_at b t c.args.place c.index_mut-line.result.now at c.index_mut-line.ensures.value c.if-line-parts.false ∙ e)
    c.offer.ensures.memory
