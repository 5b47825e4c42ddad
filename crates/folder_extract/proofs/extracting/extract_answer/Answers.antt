use Rattle.std.proofs.Common.{ap}
use Rattle.std.proofs.lemmas.Result.{IfOk-weaker}
use Rattle.shell_words.specs.Texts.{is_found}
use Rattle.folder_extract.proofs.Choosing.{all_ok, other_takes}
use Rattle.folder_extract.proofs.extracting.extract_answer.Goals as goal

pub returns-in-File-clause-takes : goal.returns-in-File-clause-takes
returns-in-File-clause-takes g c = rw c.in-File.is c.write_file.ensures.takes

pub returns-in-File-clause-fails : goal.returns-in-File-clause-fails
returns-in-File-clause-fails g c = all_ok c.write_file.result (λ end e. ap is_found c.in-File.is)

pub returns-in-Folder-clause-takes : goal.returns-in-Folder-clause-takes
returns-in-Folder-clause-takes g c = rw c.in-Folder.is c.write_folder.ensures.takes

pub returns-in-Folder-clause-fails : goal.returns-in-Folder-clause-fails
returns-in-Folder-clause-fails g c = all_ok c.write_folder.result (λ end e. ap is_found c.in-Folder.is)

pub returns-in_default-clause-takes : goal.returns-in_default-clause-takes
returns-in_default-clause-takes g c =
    other_takes c.tell_answer.result c.args.text.now c.args.path.now c.args.answer.now _ _ _ _ c.in_default.not-File c.in_default.not-Folder c.tell_answer.ensures.puts c.tell_answer.ensures.end

pub returns-in_default-clause-fails : goal.returns-in_default-clause-fails
returns-in_default-clause-fails g c = IfOk-weaker c.tell_answer.result _ _ (λ end e f. absurd (cc (e, f))) c.tell_answer.ensures.end
