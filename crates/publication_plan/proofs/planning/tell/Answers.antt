use Rattle.std.proofs.Common.{◌≡◌, rules, subst}
use Rattle.std.specs.String.{string_bytes}
use Rattle.oc_bytes.specs.Outcome.{Rose}
use Rattle.generation_catalogue.specs.declared.entry.CommitFault.TheVariants as commits
use Rattle.publication_plan.specs.Inner.Judging.{FaultTells, IsAccepted, RefusalTells}
use Rattle.publication_plan.specs.Plans.{IsTextOf}
use Rattle.publication_plan.specs.declared.planning.Told.{Told}
use Rattle.publication_plan.proofs.Telltale.{Surveys, fault_text, ok_weaker, outcome_told, plan_is, refusal_text, refusal_wider}
use Rattle.publication_plan.proofs.planning.tell.Goals as goal

pub returns-in-Err-clause-text : goal.returns-in-Err-clause-text
returns-in-Err-clause-text g c =
    let told = g.F.Folders.tree c.args.folders.now in
    let ws = c.args.weigh.now.weights in
    ok_weaker (λ (r : Told). FaultTells c.in-Err.fault r.end (string_bytes r.text))
    (λ (r : Told). IsTextOf c.args.folder.now ws c.args.carousel c.args.bitrate told (Rose (g.F.Folders.faults c.args.folders.now) (g.F.Folders.faults c.survey.new.folders)) (g.F.Folders.refused c.survey.new.folders) r.end (string_bytes r.text)) c.tell_fault.result
    (λ r tells. fault_text c.args.folder.now ws c.args.carousel c.args.bitrate told (Rose (g.F.Folders.faults c.args.folders.now) (g.F.Folders.faults c.survey.new.folders)) (g.F.Folders.refused c.survey.new.folders) c.in-Err.fault.cause c.in-Err.fault.at r.end (string_bytes r.text) tells
    c.in-Err.ensures.too_deep c.in-Err.ensures.bad_name c.in-Err.ensures.fault c.in-Err.ensures.named) c.tell_fault.ensures

pub returns-in-Ok-judge-clause-text : goal.returns-in-Ok-judge-clause-text
returns-in-Ok-judge-clause-text g c =
    let told = g.F.Folders.tree c.args.folders.now in
    let surveys : Surveys c.args.folder.now told c.in-Ok.survey = record { edits = c.in-Ok.ensures.edits; large = c.in-Ok.ensures.large; look = c.in-Ok.ensures.look } in
    plan_is c.args.folder.now c.args.weigh.now.weights c.args.carousel c.args.bitrate told c.in-Ok.survey c.in-Ok-judge.tree _ surveys
    (subst (λ es. IsAccepted es c.in-Ok-judge.tree) c.deref.ensures.value c.in-Ok-judge.ensures.accepted) c.in_ok-tell_tree-in-Ok-judge.ensures

pub returns-in-Err-Refused-clause-text : goal.returns-in-Err-Refused-clause-text
returns-in-Err-Refused-clause-text g c =
    let told = g.F.Folders.tree c.args.folders.now in
    let ws = c.args.weigh.now.weights in
    let surveys : Surveys c.args.folder.now told c.in-Ok.survey = record { edits = c.in-Ok.ensures.edits; large = c.in-Ok.ensures.large; look = c.in-Ok.ensures.look } in
    let is : c.in-Err-Refused.field-0 ≡ commits.Refused c.in-Err-Refused.refusal = search rules in
    ok_weaker (λ (r : Told). RefusalTells (g.F.Folders.tree c.survey.new.folders) (Rose (g.F.Folders.faults c.survey.new.folders) (g.F.Folders.faults c.tell_refusal.new.folders)) (g.F.Folders.refused c.tell_refusal.new.folders) c.in-Ok.survey c.in-Err-Refused.refusal r.end (string_bytes r.text))
    (λ (r : Told). IsTextOf c.args.folder.now ws c.args.carousel c.args.bitrate told (Rose (g.F.Folders.faults c.args.folders.now) (g.F.Folders.faults c.tell_refusal.new.folders)) (g.F.Folders.refused c.tell_refusal.new.folders) r.end (string_bytes r.text)) c.tell_refusal.result
    (λ r tells. refusal_text c.args.folder.now ws c.args.carousel c.args.bitrate told (Rose (g.F.Folders.faults c.args.folders.now) (g.F.Folders.faults c.tell_refusal.new.folders)) (g.F.Folders.refused c.tell_refusal.new.folders) c.in-Ok.survey c.in-Err-Refused.refusal r.end (string_bytes r.text) surveys
    (outcome_told c.deref.result.now c.in-Ok.survey.edits.items c.in-Err-Refused.field-0 c.in-Err-Refused.refusal c.args.carousel is c.in-Err-Refused.ensures.refused c.deref.ensures.value)
    (refusal_wider told (g.F.Folders.tree c.survey.new.folders) (g.F.Folders.refused c.tell_refusal.new.folders) c.in-Ok.survey c.in-Err-Refused.refusal r.end (string_bytes r.text) (g.F.Folders.faults c.args.folders.now) (g.F.Folders.faults c.survey.new.folders) (g.F.Folders.faults c.tell_refusal.new.folders)
    c.in-Ok.ensures.later c.in-Ok.ensures.same tells)) c.tell_refusal.ensures.text
