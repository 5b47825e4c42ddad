use Rattle.std.proofs.Common.{arith, ◌≡◌, ◌≤◌, ◌-◌, ℕ, length, take, drop, length-take}
use Rattle.shell_streams.proofs.Holding.{reads_behind, if_both}
use Rattle.shell_streams.proofs.Putting.{told_weaker}
use Rattle.shell_streams.proofs.unread.read_behind.Goals as goal

pub returns-clause-read : goal.returns-clause-read
returns-clause-read g c =
    let len : length c.read.new.into ≡ length c.args.bytes.now - c.args.start = omega arith in
    if_both c.read.result c.read.ensures.within c.read.ensures.read
    (λ n within t. told_weaker t (λ before after r. reads_behind c.args.bytes.now c.read.new.into before after c.args.start n c.requires len (fits n within) r))
  where
    fits : (n : ℕ) → n ≤ length (take (length c.args.bytes.now - c.args.start) (drop c.args.start c.args.bytes.now)) → n ≤ length c.args.bytes.now - c.args.start
    fits n h = omega (arith, length-take (length c.args.bytes.now - c.args.start) (drop c.args.start c.args.bytes.now))
