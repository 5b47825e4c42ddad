use Rattle.std.proofs.Common.{◌∙◌, sym, rules, tests}
use Rattle.std.specs.String.{string_bytes}
use Rattle.std.proofs.lemmas.Iterator.{YieldsList-from_slice}
use Rattle.std.proofs.lemmas.Iterator.Search.{any_from_yields_List}
use Rattle.folder_store.specs.Stores.{is_parent, view_stood}
use Rattle.folder_store.proofs.Storing.{parent_any}
use Rattle.folder_store.proofs.mem_store.has_folder_above.Goals as goal

pub returns : goal.returns
returns c =
    any_from_yields_List (λ e. is_parent c.args.path.now (string_bytes e.0, view_stood e.1)) _ _ _ c.any.ensures.ran (YieldsList-from_slice c.args.entries.now cc) (λ x b q k. search (rules, tests))
    ∙ sym (parent_any c.args.path.now c.args.entries.now)
