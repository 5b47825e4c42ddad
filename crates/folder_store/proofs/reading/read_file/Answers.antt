use Rattle.std.specs.String.{string_bytes}
use Rattle.folder_store.proofs.Walking.{read_goes}
use Rattle.std.proofs.Common.{◌≡◌, ◌∙◌, ap, length, rules}
use Rattle.folder_store.specs.Inner.Sighting.{look_in, with_file}
use Rattle.folder_store.proofs.Marking.{read_size}
use Rattle.folder_store.proofs.Refusing.{large_noted}
use Rattle.folder_store.proofs.reading.read_file.Goals as goal

pub returns-clause-walk : goal.returns-clause-walk
returns-clause-walk g c = λ t content told there rest.
    read_goes t (string_bytes c.args.place.text) content c.in_ok-content.content.items c.args.place.path c.args.gathered.now.edits.items _ c.args.gathered.now.read _
    (rw c.deref.ensures at (c.in_ok-content.ensures.bytes t told)) there c.requires c.in_ok-add.ensures.edits c.in_ok-add.ensures.read rest

pub returns-clause-look : goal.returns-clause-look
returns-clause-look g c = λ t content told there.
    let size : c.len.result ≡ length c.in_ok-content.content.items = search rules in
    c.note.ensures.look ∙ ap (λ n. with_file (look_in c.args.sights.now) (string_bytes c.args.place.text) n)
    (size ∙ read_size t (string_bytes c.args.place.text) content c.in_ok-content.content.items (rw c.deref.ensures at (c.in_ok-content.ensures.bytes t told)) there)

pub returns-clause-large : goal.returns-clause-large
returns-clause-large g c = λ root text_is before.
    let size : c.len.result ≡ length c.in_ok-content.content.items = search rules in
    large_noted root (string_bytes c.args.place.text) c.args.place.path c.in_ok-content.content.items c.args.gathered.now.edits.items _ (look_in c.args.sights.now) _ c.len.result text_is before size c.note.ensures.look c.in_ok-add.ensures.edits
