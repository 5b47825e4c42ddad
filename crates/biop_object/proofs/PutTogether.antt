-- Parts put one after another.
use Rattle.std.proofs.Common.{◌≡◌, List, ℕ, ◌++◌, append_assoc}

pub ten_parts : (o h z l k f d n i c b : List ℕ) → o ++ h ++ z ++ l ++ k ++ f ++ d ++ n ++ i ++ c ++ b ≡ o ++ (h ++ z ++ (l ++ k) ++ f ++ d ++ n ++ i ++ (c ++ b))
ten_parts o h z l k f d n i c b = simp append_assoc
