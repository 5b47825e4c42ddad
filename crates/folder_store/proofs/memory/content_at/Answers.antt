use Rattle.std.proofs.Common.{◌≡◌, true, false, ap, sym, ◌∙◌, Some, arith}
use Rattle.folder_store.specs.Memory.{entries_in, ends_in_slash}
use Rattle.folder_store.proofs.MemoryTrees.{content-none, content-is, bytes-next, bytes-here, bytes-end}
use Rattle.folder_store.proofs.memory.content_at.Goals as goal

pub returns-then-ends_with : goal.returns-then-ends_with
returns-then-ends_with c =
    let ends : ends_in_slash c.args.path.now ≡ true = sym (c.ends_with.ensures.byte (omega arith) (omega arith) (λ w o h. h)) ∙ c.if-ends_with.true in
    sym (content-none (entries_in c.args.entries.now) c.args.path.now ends)

pub returns-then-eq : goal.returns-then-eq
returns-then-eq c =
    let ends : ends_in_slash c.args.path.now ≡ false = sym (c.ends_with.ensures.byte (omega arith) (omega arith) (λ w o h. h)) ∙ c.if-ends_with.false in
    let here = bytes-here c.args.path.now c.args.entries.now c.loop-text.text-index c.loop-text-item.result c.loop-text-test.true c.loop-text-item.is (cc) in
    ap (λ bs. Some bs) c.bytes.ensures ∙ sym (content-is (entries_in c.args.entries.now) c.args.path.now ends ∙ c.loop-text.invariant ∙ here)

pub loop-text-preserved : goal.loop-text-preserved
loop-text-preserved c = c.loop-text.invariant ∙ bytes-next c.args.path.now c.args.entries.now c.loop-text.text-index c.loop-text-item.result c.loop-text-test.true c.loop-text-item.is (cc)

pub returns : goal.returns
returns c =
    let ends : ends_in_slash c.args.path.now ≡ false = sym (c.ends_with.ensures.byte (omega arith) (omega arith) (λ w o h. h)) ∙ c.if-ends_with.false in
    sym (content-is (entries_in c.args.entries.now) c.args.path.now ends ∙ c.loop-text.invariant ∙ bytes-end c.args.path.now c.args.entries.now c.loop-text.text-index c.loop-text-test.false)
