use Rattle.std.proofs.Common.{◌≡◌, ◌++◌, ◌∷◌, [], Some, true, false, refl, sym, ◌∙◌, arith}
use Rattle.folder_store.specs.Folders.{after_prefix, is_name_text}
use Rattle.folder_store.specs.Memory.{ends_in_slash}
use Rattle.folder_store.proofs.MemoryTexts.{no_slash}
use Rattle.folder_store.proofs.memory.file_below.Goals as goal

pub returns-in-None : goal.returns-in-None
returns-in-None c =
    let ends : ends_in_slash c.args.text.now ≡ false = sym (c.ends_with.ensures.byte (omega arith) (omega arith) (λ w o h. h)) ∙ c.if-ends_with.false in
    let there : Some c.in_ok-rest.rest.now ≡ after_prefix (c.args.path.now ++ 47 ∷ []) c.args.text.now = c.in_ok-rest.ensures in
    let plain : is_name_text c.in_ok-rest.rest.now ≡ true = no_slash c.in_ok-rest.rest.now (c.in-None.ensures.byte (omega arith) (λ w o h. h)) in
    rw (ends, ← there, plain) refl
