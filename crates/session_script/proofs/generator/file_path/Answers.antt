use Rattle.session_script.proofs.Imports.{◌≡◌, ◌∙◌, [], refl, rules, arith, subst, IfOk, PathNames}
use Rattle.session_script.proofs.Generating.{editor_is_named, file_is_named, path_of_file}
use Rattle.session_script.proofs.generator.file_path.Goals as goal

pub entry-requires-clause-name : goal.entry-requires-clause-name
entry-requires-clause-name c = rw (c.as_str.ensures.value, c.in_ok-first.ensures.ok) (editor_is_named c.args.editor (omega (arith, c.requires.editor)))

pub entry-requires-2-clause-name : goal.entry-requires-2-clause-name
entry-requires-2-clause-name c = rw (c.as_str-2.ensures.value, c.in_ok-second.ensures.ok) (file_is_named c.args.file c.requires.file)

pub returns : goal.returns
returns c = let none : c.in-Ok.root ≡ [] = first_of (search rules, cc (c.in-Ok.ensures.reads)) in
    subst (λ (names : PathNames). IfOk c.entry-2.result (λ path. path ≡ names)) (path_of_file c.args.editor c.args.file c.in_ok-folder.folder _
    (c.in_ok-folder.ensures ∙ rw (none, c.as_str.ensures.value, c.in_ok-first.ensures.ok) refl) (c.as_str-2.ensures.value ∙ c.in_ok-second.ensures.ok)) c.entry-2.ensures
