use Rattle.std.proofs.Common.{rules, ◌≡◌}
use Rattle.std.proofs.lemmas.List.Elements.{All-push}
use Rattle.open_history.specs.declared.pass.ReaderPass.{ReaderPass}
use Rattle.bench_programs.proofs.readers.passes.Goals as goal

pub loop-viewer-preserved : goal.loop-viewer-preserved
loop-viewer-preserved c =
    let is : c.in-Ok.pass.room ≡ 120000 = search rules in
    rw c.in_ok-push-in-Ok.ensures.items (All-push (λ (pass : ReaderPass). pass.room ≡ 120000) c.loop-viewer.passes.items c.in-Ok.pass c.loop-viewer.invariant is)
