use Rattle.std.proofs.Common.{arith}
use Rattle.ior_tap.specs.Iors as iors
use Rattle.ior_tap.proofs.CallerLemmas.{spelling_length, written_reads}
use Rattle.dsi_dii.specs.Controls.{DsiFields, IsDsi, IsDii, dsi_spelling, dii_spelling}
use Rattle.dsi_dii.proofs.Laws.{read_again}
use Rattle.dsi_dii.proofs.Spelled.{dii_body_length, dii_spelled, dsi_body_length, dsi_spelled}
use Rattle.dsi_dii.proofs.writing.spellings_read_back.Goals as goal

pub returns-clause-dii : goal.returns-clause-dii
returns-clause-dii c = λ d h. read_again (dii_spelling d) (IsDii d) (dii_spelled d h)

pub returns-clause-dii_size : goal.returns-clause-dii_size
returns-clause-dii_size c = λ d. omega (arith, dii_body_length d)

pub returns-clause-dsi : goal.returns-clause-dsi
returns-clause-dsi c = λ transaction kind l lt h room.
    let d : DsiFields = record { transaction = transaction; gateway = iors.written_form kind l } in
    let reference = iors.spelling kind l in
    let reads = dsi_spelled d reference (spelling_length kind l h.four h.key) lt (written_reads kind l h room) in
    read_again (dsi_spelling transaction kind l) (IsDsi d) reads

pub returns-clause-dsi_size : goal.returns-clause-dsi_size
returns-clause-dsi_size c = λ transaction kind l h.
    omega (arith, dsi_body_length (iors.spelling kind l), spelling_length kind l h.four h.key)
