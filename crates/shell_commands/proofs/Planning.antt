-- What `plan` promises, by what was told.
use Rattle.std.proofs.Common.{◌≡◌, ℕ, Bool, true, false, cond, List, [], Option, Some, Result, Ok, Err, inl, inr, refl, ap, ◌∙◌}
use Rattle.path_tree.specs.Trees.{Tree}
use Rattle.path_tree.specs.Edits.{apply_all}
use Rattle.path_tree.specs.declared.tree.Edit.{Edit}
use Rattle.path_tree.specs.declared.tree.EditFault.{EditFault}
use Rattle.generation_catalogue.specs.declared.entry.Refusal.{Refusal}
use Rattle.folder_store.specs.Folders.{FolderTree, is_folder_at}
use Rattle.folder_store.specs.Surveys.{Look, Stands, survey_of}
use Rattle.folder_store.specs.Walk.{Walked, IsTooDeep, IsBadName, edits_of}
use Rattle.folder_store.specs.declared.reading.TreeFault.{TreeFault}
use Rattle.folder_store.specs.declared.reading.TreeFault.TheVariants as trees
use Rattle.publication_plan.specs.Plans as plans
use Rattle.publication_plan.specs.Plans.{IsTextOf, Plans, NeedsFolder}
use Rattle.publication_plan.specs.declared.planning.PlanEnd.{PlanEnd}
use Rattle.publication_plan.specs.declared.planning.PlanEnd.TheVariants as planned
use Rattle.shell_streams.specs.Cuts.{Bytes}
use Rattle.shell_streams.specs.Sending.{OutputState}
use Rattle.shell_streams.specs.declared.output.OutputFault.{OutputFault}
use Rattle.shell_streams.specs.declared.output.OutputFault.TheVariants as outputs
use Rattle.receiver_commands.specs.Over.{Over, sink_over, Failed, IsUntouched}
use Rattle.shell_commands.specs.Publishing.{first_outcome, unless_refused, end_by, publish_end}
use Rattle.shell_commands.specs.Plan.{EndsPlan, EndsAlike, TellsPlan}
use Rattle.shell_commands.specs.Inner.Plan.{plan_status}
use Rattle.receiver_commands.specs.declared.status.Status.{Status}
use Rattle.receiver_commands.specs.declared.status.Status.TheVariants as status
use Rattle.shell_commands.proofs.Committing.{tree_accepted}
use Rattle.receiver_commands.proofs.CallerLemmas.{writes_all, writes_prefix}

-- ---- as publishing ends

module _ (folder : Bytes) (weights : List ℕ) (carousel bitrate : ℕ) (t : FolderTree) where
  commit_done : (k : Look) (es : List Edit) (r : Result ℕ Refusal) (a : Result Tree (ℕ × EditFault)) (text : Bytes) → plans.commit_text weights carousel bitrate t k es r a ≡ Ok text
      → unless_refused r ≡ status.Done
  commit_done k es (Ok n) (Ok tree) text e = refl
  commit_done k es (Ok n) (Err fault) text e = absurd (cc)
  commit_done k es (Err refusal) a text e = absurd (cc)

  walk_done : (look : Result Look Stands) (w : Walked) (text : Bytes) → plans.walk_text weights carousel bitrate t look w ≡ Ok text → end_by carousel w ≡ status.Done
  walk_done look (Ok es) text e = commit_done (plans.look_in look) es (first_outcome carousel es) (apply_all [] es) text e
  walk_done look (Err rule) text e = absurd (cc)

  commit_refused : (k : Look) (es : List Edit) (r : Result ℕ Refusal) (a : Result Tree (ℕ × EditFault)) (text : Bytes) → first_outcome carousel es ≡ r → apply_all [] es ≡ a
      → plans.commit_text weights carousel bitrate t k es r a ≡ Err text → (fault : TreeFault) × (unless_refused r ≡ status.TreeRefused fault)
  commit_refused k es (Ok n) (Ok tree) text out applied e = absurd (cc)
  commit_refused k es (Ok n) (Err fault) text out applied e = let accepted = tree_accepted carousel n es out in absurd (cc (accepted.1, applied))
  commit_refused k es (Err refusal) a text out applied e = (trees.Commit refusal, refl)

  walk_refused : (look : Result Look Stands) (w : Walked) (text : Bytes) → plans.walk_text weights carousel bitrate t look w ≡ Err text
      → (fault : TreeFault) × (end_by carousel w ≡ status.TreeRefused fault)
  walk_refused look (Ok es) text e = commit_refused (plans.look_in look) es (first_outcome carousel es) (apply_all [] es) text refl refl e
  walk_refused look (Err IsTooDeep) text e = (trees.TooDeep, refl)
  walk_refused look (Err IsBadName) text e = (trees.BadName, refl)

  by_folder : (b : Bool) (end : Status) → (b ≡ false → ⊥) → cond b end status.FolderFault ≡ end
  by_folder true end h = refl
  by_folder false end h = absurd (h refl)

  ends_as_walked : (is_folder_at t folder ≡ false → ⊥) → publish_end folder carousel t ≡ end_by carousel (edits_of t folder)
  ends_as_walked h = by_folder (is_folder_at t folder) (end_by carousel (edits_of t folder)) h

  pub alike_whole : (text : Bytes) → (is_folder_at t folder ≡ false → ⊥) → plans.plan_of folder weights carousel bitrate t ≡ Ok text → publish_end folder carousel t ≡ status.Done
  alike_whole text there e = ends_as_walked there ∙ walk_done (survey_of t folder) (edits_of t folder) text e

  pub alike_refused : (text : Bytes) → (is_folder_at t folder ≡ false → ⊥) → plans.plan_of folder weights carousel bitrate t ≡ Err text
      → (fault : TreeFault) × (publish_end folder carousel t ≡ status.TreeRefused fault)
  alike_refused text there e =
      let refused = walk_refused (survey_of t folder) (edits_of t folder) text e in
      (refused.0, ends_as_walked there ∙ refused.1)

-- ---- what was told

module _ (folder : Bytes) (weights : List ℕ) (carousel bitrate : ℕ) (folders : Over FolderTree) (refused : Option Bytes) (old new : OutputState) (begin : old.pending ≡ []) where
  ends_told : (r : Result PlanEnd OutputFault) → plans.EndsPlan folder weights carousel bitrate folders.before (Failed folders) refused r old new
      → EndsPlan folder carousel weights bitrate (sink_over old new) folders refused (plan_status r)
  ends_told (Ok planned.Published) e = record { text = e.tells.text; is = e.tells.is; writes = writes_all begin e.empty e.tells.puts }
  ends_told (Ok planned.Refused) e = record { text = e.tells.text; is = e.tells.is; writes = writes_all begin e.empty e.tells.puts }
  ends_told (Ok planned.Unreadable) e = record { text = e.tells.text; is = e.tells.is; writes = writes_all begin e.empty e.tells.puts }
  ends_told (Err outputs.Failed) e = (e.tells.puts.cause refl, record { end = e.end; text = e.tells.text; is = e.tells.is; writes = writes_prefix begin e.tells.puts })
  ends_told (Err outputs.NoMemory) (inl same) = inl (ap (λ (o : OutputState). o.written) same)
  ends_told (Err outputs.NoMemory) (inr e) = inr (record { end = e.end; text = e.tells.text; is = e.tells.is; writes = writes_prefix begin e.tells.puts })

  ends_alike : (r : Result PlanEnd OutputFault) → plans.EndsPlan folder weights carousel bitrate folders.before (Failed folders) refused r old new → NeedsFolder folder folders.before r
      → (t : FolderTree) → folders.before ≡ Some t → EndsAlike folder carousel t (plan_status r)
  ends_alike (Ok planned.Published) e needs t told = alike_whole folder weights carousel bitrate t e.tells.text (needs t told) (e.tells.is.known t told)
  ends_alike (Ok planned.Refused) e needs t told = alike_refused folder weights carousel bitrate t e.tells.text (needs t told) (e.tells.is t told)
  ends_alike (Ok planned.Unreadable) e needs t told = tt
  ends_alike (Err outputs.Failed) e needs t told = tt
  ends_alike (Err outputs.NoMemory) e needs t told = tt

  pub plan_told : (r : Result PlanEnd OutputFault) → Plans folder weights carousel bitrate r old new folders.before (Failed folders) refused
      → TellsPlan folder carousel weights bitrate (plan_status r) (sink_over old new) folders refused
  plan_told r p = record { ends = ends_told r p.ends; alike = ends_alike r p.ends p.needs }

-- there was no memory before it began
pub plan_nothing : (folder : Bytes) (carousel : ℕ) (weights : List ℕ) (bitrate : ℕ) (sink : Over Bytes) (folders : Over FolderTree) (refused : Option Bytes) → IsUntouched sink
    → TellsPlan folder carousel weights bitrate status.NoMemory sink folders refused
plan_nothing folder carousel weights bitrate sink folders refused none = record { ends = inl none; alike = λ t told. tt }
