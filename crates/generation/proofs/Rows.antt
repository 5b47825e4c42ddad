-- Worked rows, by computation: kept folders among the objects.
use Rattle.std.proofs.Common.{◌≡◌, [], ◌∷◌, None, Some, map, refl, ℕ, Option}
use Rattle.generation.proofs.Words.{Tree, spots_of, sizes_of, limit_of}
use Rattle.path_tree.specs.declared.entry.Entry.TheVariants as entries

-- a kept folder /d alone, and /d with /d/x in it
abbrev kept : Tree
kept = ((100 ∷ []) ∷ [], entries.Folder) ∷ []

abbrev filled : Tree
filled = ((100 ∷ []) ∷ [], entries.Folder) ∷ ((100 ∷ []) ∷ (120 ∷ []) ∷ [], entries.File (49 ∷ [])) ∷ []

-- the gateway's object has one binding, and that of /d none
kept-sizes : sizes_of kept ≡ 109 ∷ 34 ∷ []
kept-sizes = refl

kept-passes : limit_of kept ≡ None
kept-passes = refl

-- a folder is the same object whether or not it is kept, once something stands in it
filled-objects : spots_of filled ≡ spots_of (((100 ∷ []) ∷ (120 ∷ []) ∷ [], entries.File (49 ∷ [])) ∷ [])
filled-objects = refl

-- /a with a kept folder /a/b in it, and then /c: each object names the folder that it stands in
numbers : map {B = ℕ × Option ℕ} (λ s. (s.number, s.parent)) (spots_of (((97 ∷ []) ∷ (98 ∷ []) ∷ [], entries.Folder) ∷ ((99 ∷ []) ∷ [], entries.File []) ∷ []))
    ≡ (0, None) ∷ (1, Some 0) ∷ (2, Some 1) ∷ (3, Some 0) ∷ []
numbers = refl
