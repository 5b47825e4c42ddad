use Rattle.std.proofs.Common.{arith, length, ◌≤◌, ◌+◌, ◌-◌, ◌∙◌, ap, drop}
use Rattle.shell_streams.proofs.Holding.{range_drop, length-range}
use Rattle.shell_streams.proofs.unread.Unread.pass.Goals as goal

pub returns : goal.returns
returns c =
    let long : length c.args.self.now ≤ c.self.inside.end - c.self.inside.at = rw (← c.self.view_is) (length-range c.self.inside.bytes.items c.self.inside.at c.self.inside.end) in
    let fits : c.self.inside.at + c.args.n ≤ c.self.inside.end = omega (arith, long, c.self.invariant.0, c.requires) in
    range_drop c.args.n c.self.inside.at c.self.inside.end c.self.inside.bytes.items fits ∙ ap (drop c.args.n) c.self.view_is
