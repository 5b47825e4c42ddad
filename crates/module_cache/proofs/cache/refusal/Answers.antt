use Rattle.std.proofs.Common.{◌==◌, true, ap, sym, ◌∙◌}
use Rattle.std.specs.List.{list_any}
use Rattle.module_cache.specs.Joining.{taken_unlisted}
use Rattle.module_cache.proofs.Handling.{is_any_if}
use Rattle.module_cache.proofs.cache.refusal.Goals as goal

pub returns-then-has_download : goal.returns-then-has_download
returns-then-has_download c =
    sym (ap (λ a. taken_unlisted a (list_any (λ t. t.download == c.args.download) c.args.held.now)) (is_any_if c.args.held.now (sym c.if-is_empty.ensures))
    ∙ ap (taken_unlisted true) (sym c.if-has_download.ensures))

pub returns : goal.returns
returns c =
    sym (ap (λ a. taken_unlisted a (list_any (λ t. t.download == c.args.download) c.args.held.now)) (is_any_if c.args.held.now (sym c.if-is_empty.ensures))
    ∙ ap (taken_unlisted true) (sym c.if-has_download.ensures))
