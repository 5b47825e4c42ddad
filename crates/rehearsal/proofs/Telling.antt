-- A report, line by line.
use Rattle.rehearsal.proofs.Words.{◌≡◌, List, [], ◌∷◌, ◌++◌, map, refl, ap, flat_map, view, Reply, Bytes, report, report_line}
use Rattle.carousel_world.specs.declared.event.Event.{Event}

abbrev pub told_line : Event × Reply → Bytes
told_line x = report_line (view x.0) x.1

pub report_is : (told : List (Event × Reply)) → flat_map told_line told ≡ report (map (λ x. view x.0) told) (map (λ x. x.1) told)
report_is [] = refl
report_is (x ∷ xs) = ap (λ bs. told_line x ++ bs) (report_is xs)
