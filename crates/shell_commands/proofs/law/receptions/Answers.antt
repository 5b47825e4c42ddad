use Rattle.shell_commands.proofs.Receiving.{all_laws}
use Rattle.shell_commands.proofs.Overhearing.{cycles_open}
use Rattle.shell_commands.proofs.law.receptions.Goals as goal

pub returns : goal.returns
returns c = all_laws c.every_reception_meets.ensures c.labels_never_fall.ensures c.every_publication_meets.ensures c.each_cycle_opens.ensures (cycles_open c.packets_give_the_groups.ensures c.publications_can_be_packed.ensures c.each_cycle_opens.ensures) c.it_is_nowhere_else.ensures c.it_is_found_once_its_tables_came.ensures c.each_listed_pid_is_followed.ensures c.one_mount_decides.ensures
