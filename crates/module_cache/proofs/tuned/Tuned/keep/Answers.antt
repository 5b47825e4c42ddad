use Rattle.std.proofs.Common.{◌≡◌, ◌∙◌, ap, subst, sym, map, length, List}
use Rattle.std.proofs.lemmas.List.{with_items_is}
use Rattle.std.specs.List.{fold}
use Rattle.module_cache.specs.Inner.Keeping.{lines_keeping}
use Rattle.module_cache.specs.Joining.{no_id_twice}
use Rattle.module_cache.proofs.Keeping.{said_keeping}
use Rattle.module_cache.specs.declared.stored.Line.{Line}
use Rattle.module_cache.specs.Inner.Reaches.{AreWithin}
use Rattle.dsi_dii.specs.declared.ModuleLine.{ModuleLine}
use Rattle.module_cache.proofs.tuned.Tuned.keep.Goals as goal

pub invariant_of-self : goal.invariant_of-self
invariant_of-self c =
    let whole : length c.keep_lines.new.lines ≡ c.self.inside.lines.len = c.keep_lines.auto.lines ∙ c.deref_mut.ensures.len in
    let says : List Line → List ModuleLine = map (λ x. x.line) in
    let said =
    ap says (with_items_is c.self.inside.lines c.keep_lines.new.lines whole ∙ c.keep_lines.ensures ∙ ap (λ xs. fold lines_keeping xs c.old.inside.lines.items) c.deref_mut.ensures.value)
    ∙ said_keeping c.self.inside.lines.items c.old.inside.lines.items in
    record {
      version = c.self.invariant.version;
      once = ap no_id_twice said ∙ c.self.invariant.once;
      within = subst (AreWithin c.self.inside.reach) (sym said) c.self.invariant.within;
    }
