use Rattle.std.proofs.Common.{◌∙◌, ◌-◌, None, Err, length, map, ap, sym, append-nil}
use Rattle.std.specs.String.{string_bytes}
use Rattle.folder_store.specs.Surveys.{at_in, first_large, marks_below, view_standing}
use Rattle.folder_store.specs.Inner.Sighting.{look_in}
use Rattle.folder_store.specs.Walk.{IsTooDeep, IsBadName}
use Rattle.folder_store.proofs.Marking.{bad_stops, deep_stops, look, survey_goes, survey_stops}
use Rattle.folder_store.proofs.Walking.{root_is, whole_ends, whole_goes}
use Rattle.folder_store.proofs.Refusing.{root_text}
use Rattle.folder_store.proofs.surveying.survey.Goals as goal

pub returns-in-Ok-walk_folder-clause-edits : goal.returns-in-Ok-walk_folder-clause-edits
returns-in-Ok-walk_folder-clause-edits g c = λ t told.
    whole_goes t c.args.root.now c.in-Ok.path (string_bytes c.in_ok-text.text) c.walk_folder.new.gathered.edits.items c.walk_folder.new.gathered.read (root_is c.in-Ok.path c.in-Ok.ensures.reads) c.in_ok-text.ensures.ok
    (λ rest. rw c.new.ensures.items at (c.in-Ok-walk_folder.ensures.walk t told rest))

pub returns-in-Ok-walk_folder-clause-look : goal.returns-in-Ok-walk_folder-clause-look
returns-in-Ok-walk_folder-clause-look g c = λ t told few.
    survey_goes t c.args.root.now c.in-Ok.path (string_bytes c.in_ok-text.text) c.walk_folder.new.gathered.edits.items (look (map view_standing c.new-2.result.items) None) (look_in c.walk_folder.new.sights) c.walk_folder.new.gathered.read
    (at_in c.walk_folder.new.sights.at) (root_is c.in-Ok.path c.in-Ok.ensures.reads) c.in_ok-text.ensures.ok (ap (λ xs. look (map view_standing xs) None) c.new-2.ensures.items)
    (λ rest. rw c.new.ensures.items at (c.in-Ok-walk_folder.ensures.walk t told rest)) (c.in-Ok-walk_folder.ensures.tells t told) few

pub returns-in-Err-clause-too_deep : goal.returns-in-Err-clause-too_deep
returns-in-Err-clause-too_deep g c = λ is t told. (
  whole_ends t c.args.root.now c.in-Ok.path (string_bytes c.in_ok-text.text) IsTooDeep (root_is c.in-Ok.path c.in-Ok.ensures.reads) c.in_ok-text.ensures.ok
      (λ rest. rw (is, c.new.ensures.items) at (c.in-Err.ensures.walk t told rest)),
  survey_stops t c.args.root.now c.in-Ok.path (string_bytes c.in_ok-text.text) (look (map view_standing c.new-2.result.items) None) (at_in c.walk_folder.new.sights.at) (root_is c.in-Ok.path c.in-Ok.ensures.reads) c.in_ok-text.ensures.ok
      (ap (λ xs. look (map view_standing xs) None) c.new-2.ensures.items)
      (deep_stops (marks_below t (16 - length c.in-Ok.path) c.in-Ok.path (string_bytes c.in_ok-text.text)) (look (map view_standing c.new-2.result.items) None) (look_in c.walk_folder.new.sights) 0 c.walk_folder.new.gathered.read
      (at_in c.walk_folder.new.sights.at) c.in-Err.cause is (c.in-Err.ensures.tells t told)),
)

pub returns-in-Err-clause-bad_name : goal.returns-in-Err-clause-bad_name
returns-in-Err-clause-bad_name g c = λ is t told. (
  whole_ends t c.args.root.now c.in-Ok.path (string_bytes c.in_ok-text.text) IsBadName (root_is c.in-Ok.path c.in-Ok.ensures.reads) c.in_ok-text.ensures.ok
      (λ rest. rw (is, c.new.ensures.items) at (c.in-Err.ensures.walk t told rest)),
  survey_stops t c.args.root.now c.in-Ok.path (string_bytes c.in_ok-text.text) (look (map view_standing c.new-2.result.items) None) (at_in c.walk_folder.new.sights.at) (root_is c.in-Ok.path c.in-Ok.ensures.reads) c.in_ok-text.ensures.ok
      (ap (λ xs. look (map view_standing xs) None) c.new-2.ensures.items)
      (bad_stops (marks_below t (16 - length c.in-Ok.path) c.in-Ok.path (string_bytes c.in_ok-text.text)) (look (map view_standing c.new-2.result.items) None) (look_in c.walk_folder.new.sights) 0 c.walk_folder.new.gathered.read
      (at_in c.walk_folder.new.sights.at) c.in-Err.cause is (c.in-Err.ensures.tells t told)),
)

pub returns-in-Ok-walk_folder-clause-large : goal.returns-in-Ok-walk_folder-clause-large
returns-in-Ok-walk_folder-clause-large g c =
    c.in-Ok-walk_folder.ensures.large c.args.root.now (root_text c.args.root.now c.in-Ok.path (string_bytes c.in_ok-text.text) (root_is c.in-Ok.path c.in-Ok.ensures.reads) c.in_ok-text.ensures.ok)
    (sym (ap (first_large c.args.root.now) c.new.ensures.items))

pub returns-in-Err-clause-named : goal.returns-in-Err-clause-named
returns-in-Err-clause-named g c = λ failed.
    c.in-Err.ensures.named c.args.root.now (root_text c.args.root.now c.in-Ok.path (string_bytes c.in_ok-text.text) (root_is c.in-Ok.path c.in-Ok.ensures.reads) c.in_ok-text.ensures.ok)
    (append-nil c.args.root.now ∙ sym c.in_ok-text.ensures.ok) (ap Err failed)
