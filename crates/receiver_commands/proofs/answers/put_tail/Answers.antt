use Rattle.receiver_commands.proofs.answers.put_tail.Goals as goal

pub returns-in-File : goal.returns-in-File
returns-in-File g c = rw c.in-File.is (rw c.bytes.ensures at c.put_bytes_line.ensures)

pub returns-in-Folder : goal.returns-in-Folder
returns-in-Folder g c = rw c.in-Folder.is c.put_names.ensures
