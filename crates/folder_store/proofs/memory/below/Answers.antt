use Rattle.std.proofs.Common.{◌++◌, ap, sym, ◌∙◌, arith}
use Rattle.std.proofs.lemmas.Str.Pattern.{strip_prefix_char}
use Rattle.folder_store.proofs.MemoryTexts.{lacks, strips}
use Rattle.folder_store.proofs.memory.below.Goals as goal

pub returns-in_err-strip_prefix : goal.returns-in_err-strip_prefix
returns-in_err-strip_prefix c = rw c.from_residual.ensures (sym (lacks c.args.path.now c.args.text.now c.in_err-strip_prefix.ensures.cases))

pub returns : goal.returns
returns c =
    let taken = c.in_ok-strip_prefix.ensures.cases in
    strips c.args.path.now c.args.text.now c.in_ok-strip_prefix.field-0.now c.strip_prefix-2.result (taken.1.1 ∙ ap (λ r. c.args.path.now ++ r) (sym taken.2))
    (strip_prefix_char 47 c.in_ok-strip_prefix.field-0.now c.strip_prefix-2.result c.strip_prefix-2.ensures.cases (omega arith))
