-- Objects that are named by an entry and a number of names.
use Rattle.std.proofs.Common.{◌≡◌, ℕ, zero, suc, ◌+◌, ◌<◌, false, [], ◌∷◌, length, Some, None, sym, ◌∙◌, ap, subst, arith, get_or}
use Rattle.generation.proofs.Words.{slice_get, get_or_from_slice_get, slice_get_within, Bytes, PathNames, IsName, Tree, IsTree, Entry, path_at, last_of, view_spot, item_at, IsSpotIn, get_or_default, CodeSpot}
use Rattle.path_tree.specs.declared.entry.Entry.TheVariants as entries

-- an entry by its number
pub item_is : (t : Tree) (i : ℕ) (d : PathNames × Entry) → i < length t → get_or t i d ≡ item_at t i
item_is t i d lt = get_or_default t i d ([], entries.Folder) lt

pub path_at_within : (t : Tree) (i : ℕ) → 0 < length (path_at t i) → i < length t
path_at_within [] i lt = absurd (omega (arith, lt))
path_at_within (x ∷ xs) zero lt = omega arith
path_at_within (x ∷ xs) (suc i) lt = omega (arith, path_at_within xs i lt)

-- the last of an object's names, read out of a path that was lent
pub name_read : (t : Tree) (s : CodeSpot) (q : PathNames) (j : ℕ) (n : Bytes) → IsTree t → q ≡ path_at t s.entry → slice_get q j ≡ Some n → j + 1 ≡ s.names → (n ≡ (view_spot t s).name) × IsName n
name_read t s q j n tree same e is =
    let p = path_at t s.entry in
    let here : slice_get p j ≡ Some n = ap (λ r. slice_get r j) (sym same) ∙ e in
    let read = get_or_from_slice_get p j n [] here in
    let within = slice_get_within p j n here in
    let last : suc j ≡ s.names = omega (arith, is) in
    let names = (tree.paths s.entry ([], entries.Folder) (path_at_within t s.entry (omega (arith, within)))).0.names in
    (sym read ∙ ap (last_of p) last, subst IsName read (names j [] within))

-- the gateway is an object of any tree
pub gateway_valid : (t : Tree) → IsSpotIn t (record { entry = 0; names = 0; whole = false; number = 0; parent = None })
gateway_valid t = record { names = omega arith; whole = λ e. cc; named = λ folder e. cc }
