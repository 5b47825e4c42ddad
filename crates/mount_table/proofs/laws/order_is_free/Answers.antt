use Rattle.mount_table.proofs.Finding.{order_is_free}
use Rattle.mount_table.proofs.laws.order_is_free.Goals as goal

pub returns : goal.returns
returns c = order_is_free
