-- What `record` writes of a list of sections is what it writes of its parts.
use Rattle.std.proofs.Common.{◌≡◌, ◌<◌, ℕ, ◌+◌, Bool, true, false, cond, List, [], ◌∷◌, ◌++◌, length, take, drop, get_or, map, Vec, Global, refl, sym, ap, ◌∙◌, append-nil, add-one}
use Rattle.std.specs.List.{concat, filter}
use Rattle.std.proofs.lemmas.List.{map-append, take-append-drop}
use Rattle.std.proofs.lemmas.List.Elements.{filter-append}
use Rattle.std.proofs.lemmas.List.Folds.{concat-append}
use Rattle.std.proofs.Math.Seq.{take-suc}
use Rattle.section_stream.specs.Kept.{view_bytes}
use Rattle.shell_streams.specs.Cuts.{Bytes}
use Rattle.receiver_commands.specs.Accepted.{is_accepted, accepted_bytes}
use Rattle.receiver_commands.specs.Inner.Accepted.{accepted_one}

pub accepted-append : (xs ys : List Bytes) → accepted_bytes (xs ++ ys) ≡ accepted_bytes xs ++ accepted_bytes ys
accepted-append xs ys = ap concat (filter-append is_accepted xs ys) ∙ concat-append (filter is_accepted xs) (filter is_accepted ys)

accepted-one : (x : Bytes) → accepted_bytes (x ∷ []) ≡ accepted_one x
accepted-one x = by (is_accepted x) x
  where
    by : (b : Bool) (x : Bytes) → concat (cond b (x ∷ []) []) ≡ cond b x []
    by true x = append-nil x
    by false x = refl

pub accepted_next : (vs : List (Vec ℕ Global)) (i : ℕ) (v : Vec ℕ Global) (bytes : Bytes) → i < length vs → v ≡ get_or vs i v → bytes ≡ v.items
    → accepted_bytes (map view_bytes (take i vs)) ++ accepted_one bytes ≡ accepted_bytes (map view_bytes (take (i + 1) vs))
accepted_next vs i v bytes h is b = sym (
    ap (λ k. accepted_bytes (map view_bytes (take k vs))) (add-one i)
    ∙ ap (λ t. accepted_bytes (map view_bytes t)) (take-suc vs i v h)
    ∙ ap accepted_bytes (map-append view_bytes (take i vs) (get_or vs i v ∷ []))
    ∙ accepted-append (map view_bytes (take i vs)) (view_bytes (get_or vs i v) ∷ [])
    ∙ ap (λ t. accepted_bytes (map view_bytes (take i vs)) ++ t) (accepted-one (view_bytes (get_or vs i v)) ∙ ap (λ w. accepted_one (view_bytes w)) (sym is) ∙ ap accepted_one (sym b)))

-- the first of them, and the others
pub accepted_all : (vs : List (Vec ℕ Global)) (i : ℕ) → accepted_bytes (map view_bytes (take i vs)) ++ accepted_bytes (map view_bytes (drop i vs)) ≡ accepted_bytes (map view_bytes vs)
accepted_all vs i = sym (
    ap (λ t. accepted_bytes (map view_bytes t)) (sym (take-append-drop i vs))
    ∙ ap accepted_bytes (map-append view_bytes (take i vs) (drop i vs))
    ∙ accepted-append (map view_bytes (take i vs)) (map view_bytes (drop i vs)))
