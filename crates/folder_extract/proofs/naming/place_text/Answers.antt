use Rattle.std.proofs.Common.{ℕ, List, [], ◌∷◌, ◌++◌, sym, ap, ◌∙◌, take, arith}
use Rattle.std.specs.String.{string_bytes}
use Rattle.folder_store.specs.Walk.{text_below}
use Rattle.folder_extract.specs.Naming.{is_file_name}
use Rattle.folder_extract.proofs.Places.{named, unnamed, place_none, stand_never, stand_next, text_next}
use Rattle.folder_extract.proofs.naming.place_text.Goals as goal

pub returns-in_default : goal.returns-in_default
returns-in_default c =
    sym (place_none c.args.folder.now c.args.path.now (stand_never c.args.path.now c.loop-i.i c.name.result.now c.name.ensures (unnamed (is_file_name c.name.result.now) c.name.result.now c.in_default.ensures)))

pub loop-i-preserved : goal.loop-i-preserved
loop-i-preserved c =
    let n = named (is_file_name c.name.result.now) c.name.result.now c.in-Some.name.now c.in-Some.ensures in
    record {
      text = c.in_ok-push_str.ensures.bytes ∙ ap (λ (bs : List ℕ). bs ++ c.in-Some.name.now) (c.in_ok-push.ensures.bytes ∙ ap (λ (bs : List ℕ). string_bytes c.loop-i.text ++ bs) (c.in_ok-push.ensures.ascii (omega arith)) ∙ ap (λ (bs : List ℕ). bs ++ 47 ∷ []) c.loop-i.invariant.text)
          ∙ ap (λ (bs : List ℕ). (text_below c.args.folder.now (take c.loop-i.i c.args.path.now) ++ 47 ∷ []) ++ bs) n.1
          ∙ text_next c.args.folder.now c.args.path.now c.loop-i.i c.name.result.now c.name.ensures;
      can = stand_next c.args.path.now c.loop-i.i c.name.result.now c.loop-i.invariant.can c.name.ensures n.0;
    }
