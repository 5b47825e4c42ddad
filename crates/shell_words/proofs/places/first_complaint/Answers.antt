use Rattle.std.proofs.Common.{◌≡◌, ◌∙◌, ◌<◌, IfOk, arith, sym, ap, subst, map, length}
use Rattle.std.specs.String.{string_bytes}
use Rattle.std.proofs.lemmas.Bool.{eqb-true, eqb-false}
use Rattle.std.proofs.lemmas.List.{take_rest}
use Rattle.shell_words.specs.declared.places.Complaint.{Complaint}
use Rattle.shell_words.proofs.Complaining.{complaint_none, complaint_keyword, complaint_unknown, fits_is_accepted}
use Rattle.shell_words.proofs.Firsts.{first_is_named}
use Rattle.shell_words.proofs.places.first_complaint.Goals as goal

pub returns-then-asks_why-clause-fits : goal.returns-then-asks_why-clause-fits
returns-then-asks_why-clause-fits c = fits_is_accepted (map string_bytes c.args.words.now)

pub returns-then-asks_why-clause-first : goal.returns-then-asks_why-clause-first
returns-then-asks_why-clause-first c = first_is_named (map string_bytes c.args.words.now)

pub returns-then-is_empty-clause-gives : goal.returns-then-is_empty-clause-gives
returns-then-is_empty-clause-gives c = sym (complaint_none string_bytes c.args.words.now (eqb-true _ _ (sym c.is_empty.ensures ∙ c.if-is_empty.true)))

pub returns-then-is_empty-clause-fits : goal.returns-then-is_empty-clause-fits
returns-then-is_empty-clause-fits c = fits_is_accepted (map string_bytes c.args.words.now)

pub returns-then-is_empty-clause-first : goal.returns-then-is_empty-clause-first
returns-then-is_empty-clause-first c = first_is_named (map string_bytes c.args.words.now)

pub returns-in-Some-clause-gives : goal.returns-in-Some-clause-gives
returns-in-Some-clause-gives c =
    let some : 0 < length c.args.words.now = omega (arith, eqb-false _ _ (sym c.is_empty.ensures ∙ c.if-is_empty.false)) in
    let name = c.as_str.ensures.value ∙ ap string_bytes c.index-words-0.is in
    let read = rw (take_rest c.args.words.now 1) at c.complaint_behind.ensures in
    subst (λ (x : Complaint). IfOk c.complaint_behind.result (λ y. y ≡ x))
    (complaint_keyword string_bytes c.args.words.now c.index-words-0.result c.as_str.result.now c.parse.result (sym c.asks_why.ensures.value ∙ c.if-asks_why.false) some name c.parse.ensures.keyword c.in-Some.keyword c.in-Some.is)
    read

pub returns-in-Some-clause-fits : goal.returns-in-Some-clause-fits
returns-in-Some-clause-fits c = fits_is_accepted (map string_bytes c.args.words.now)

pub returns-in-Some-clause-first : goal.returns-in-Some-clause-first
returns-in-Some-clause-first c = first_is_named (map string_bytes c.args.words.now)

pub returns-in-None-clause-gives : goal.returns-in-None-clause-gives
returns-in-None-clause-gives c =
    let some : 0 < length c.args.words.now = omega (arith, eqb-false _ _ (sym c.is_empty.ensures ∙ c.if-is_empty.false)) in
    let name = c.as_str.ensures.value ∙ ap string_bytes c.index-words-0.is in
    complaint_unknown string_bytes c.args.words.now c.index-words-0.result c.as_str.result.now c.parse.result (sym c.asks_why.ensures.value ∙ c.if-asks_why.false) some name c.parse.ensures.keyword c.in-None.is

pub returns-in-None-clause-fits : goal.returns-in-None-clause-fits
returns-in-None-clause-fits c = fits_is_accepted (map string_bytes c.args.words.now)

pub returns-in-None-clause-first : goal.returns-in-None-clause-first
returns-in-None-clause-first c = first_is_named (map string_bytes c.args.words.now)
