use Rattle.std.proofs.Common.{◌∙◌, ap, sym, ℕ, Option}
use Rattle.std.specs.Option.{option_map_or}
use Rattle.biop_object.specs.declared.module.Found.TheVariants as found
use Rattle.biop_object.proofs.Finding.{object_found, object_missed, folder_has}
use Rattle.biop_object.proofs.module.find_in.Goals as goal

pub returns-in-Some-default-clause-found : goal.returns-in-Some-default-clause-found
returns-in-Some-default-clause-found c = (rw (← c.index-items-number.is) at c.found.ensures) ∙ sym (object_found c.args.key.now c.args.stop c.args.index.now c.in-Some-default.number c.index-items-number.result (sym c.in-Some-default.ensures.first) (rw c.items.ensures at c.index-items-number.is))

pub returns-in-Some-default-clause-folder : goal.returns-in-Some-default-clause-folder
returns-in-Some-default-clause-folder c = λ k e. folder_has c.args.index.now c.in-Some-default.number k c.index-items-number.result c.in-Some-default.ensures.inside (rw c.items.ensures at c.index-items-number.is) (sym (rw (← c.index-items-number.is) at c.found.ensures) ∙ e)

pub returns-in-None-Some-clause-found : goal.returns-in-None-Some-clause-found
returns-in-None-Some-clause-found c = sym (object_missed c.args.key.now c.args.stop c.args.index.now (sym c.in-None-Some.ensures.first) ∙ ap (λ (o : Option ℕ). option_map_or (λ place. found.Bad place) o found.Missing) c.in-None-Some.is-1)

pub returns-in-None-None-clause-found : goal.returns-in-None-None-clause-found
returns-in-None-None-clause-found c = sym (object_missed c.args.key.now c.args.stop c.args.index.now (sym c.in-None-None.ensures.first) ∙ ap (λ (o : Option ℕ). option_map_or (λ place. found.Bad place) o found.Missing) c.in-None-None.is-1)
