use Rattle.std.proofs.Common.{rules, append_assoc, arith}
use Rattle.std.specs.String.{string_bytes}
use Rattle.folder_store.proofs.PlaceTexts.{text_first, text_more}
use Rattle.folder_store.proofs.places.standing_text.Goals as goal

pub returns-then-len-eq0 : goal.returns-then-len-eq0
returns-then-len-eq0 c = let e = text_first c.args.standing.now.folder (string_bytes c.args.standing.now.name) (omega arith) in search (rules, append_assoc, e)

pub returns : goal.returns
returns c = let e = text_more c.args.standing.now.folder (string_bytes c.args.standing.now.name) (omega arith) in search (rules, append_assoc, e)
