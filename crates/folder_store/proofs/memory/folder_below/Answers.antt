use Rattle.std.proofs.Common.{◌≡◌, ◌++◌, ◌∷◌, [], Some, true, refl, arith}
use Rattle.folder_store.specs.Folders.{after_prefix, is_name_text}
use Rattle.folder_store.proofs.MemoryTexts.{no_slash}
use Rattle.folder_store.proofs.memory.folder_below.Goals as goal

pub returns-in_err-name : goal.returns-in_err-name
returns-in_err-name c =
    let there : Some c.in_ok-below.field-0.now ≡ after_prefix (c.args.path.now ++ 47 ∷ []) c.args.text.now = c.in_ok-below.ensures in
    let plain : is_name_text c.in_ok-below.field-0.now ≡ true = no_slash c.in_ok-below.field-0.now (c.in_err-name.ensures.byte (omega arith) (λ w o h. h)) in
    rw (c.from_residual-in_err-name.ensures, ← there, plain) refl
