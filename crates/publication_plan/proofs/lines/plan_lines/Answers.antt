use Rattle.std.proofs.Common.{map}
use Rattle.std.specs.String.{string_bytes}
use Rattle.folder_store.specs.Surveys.{view_standing}
use Rattle.publication_plan.proofs.Between.{plan_made}
use Rattle.publication_plan.proofs.lines.plan_lines.Goals as goal

pub returns : goal.returns
returns g c =
    plan_made c.args.weigh.now.weights c.args.bitrate c.args.generation.now (map view_standing c.args.left.now)
    (string_bytes c.new-text.result) (string_bytes c.put_objects.new.text) (string_bytes c.put_modules.new.text) (string_bytes c.put_cycle.new.text)
    c.new-text.ensures.bytes c.in_ok-put_objects.ensures c.in_ok-put_modules.ensures c.in_ok-put_cycle.ensures
