-- Groups whose packets are put one after another.
use Rattle.std.proofs.Common.{◌≡◌, ℕ, ◌+◌, List, [], ◌∷◌, ◌++◌, length, refl, ◌∙◌, sym, ap, append_assoc, append-nil}
use Rattle.std.specs.List.{All, concat, fold}
use Rattle.std.proofs.lemmas.List.Elements.{All-head, All-tail}
use Rattle.std.proofs.lemmas.List.Folds.{concat-append}
use Rattle.std.proofs.lemmas.List.Sums.{fold_push}
use Rattle.section_stream.specs.Cuts.{Bytes}
use Rattle.section_stream.specs.Groups.{IsBetween, layout_of, packets_of_group, packets_of_groups, past_group}
use Rattle.section_stream.specs.Packing.{MuxState, IsSectionLike, after_finish, idle, last_of, packets_of_all, past}
use Rattle.section_stream.proofs.CallerLemmas.{between_idle}
use Rattle.cycle_sender.proofs.CallerLemmas.{packs_then, counts_then, packs_group, counts_group}
use Rattle.path_tree.specs.Trees.{Tree}
use Rattle.folder_playout.specs.OnAir.{OnAir, air_bytes, cycle_in, groups_of, with_cycle, with_tree}
use Rattle.folder_playout.specs.Inner.Standing.{before_group, given_bytes}

-- one group more
groups_push : (m : MuxState) (gs : List (List Bytes)) (g : List Bytes) → packets_of_groups m (gs ++ g ∷ []) ≡ packets_of_groups m gs ++ packets_of_group (fold past_group m gs) g
groups_push m [] g = append-nil (packets_of_group m g)
groups_push m (h ∷ hs) g =
    ap (λ ps. packets_of_group m h ++ ps) (groups_push (past_group m h) hs g)
    ∙ sym (append_assoc (packets_of_group m h) (packets_of_groups (past_group m h) hs) (packets_of_group (fold past_group (past_group m h) hs) g))

groups_bytes : (m : MuxState) (gs : List (List Bytes)) (g : List Bytes)
    → concat (packets_of_groups m (gs ++ g ∷ [])) ≡ concat (packets_of_groups m gs) ++ concat (packets_of_group (fold past_group m gs) g)
groups_bytes m gs g = ap concat (groups_push m gs g) ∙ concat-append (packets_of_groups m gs) (packets_of_group (fold past_group m gs) g)

-- between groups nothing is held back
between_groups : (m : MuxState) (gs : List (List Bytes)) → IsBetween m → IsBetween (fold past_group m gs)
between_groups m [] b = b
between_groups m (g ∷ gs) b = between_groups (past_group m g) gs (between_idle m.pid (m.counter + length (layout_of g)))

pub between : (pid : ℕ) (s : OnAir) → IsBetween (before_group pid s)
between pid s = between_groups (idle pid 0) s.ended (between_idle pid 0)

-- what a cycle adds
pub cycle_given : (weights : List ℕ) (pid : ℕ) (s : OnAir) (mux : MuxState) → mux ≡ fold past (before_group pid s) s.running
    → given_bytes pid s ++ concat (packets_of_all mux (cycle_in weights s.generation)) ≡ given_bytes pid (with_cycle weights s)
cycle_given weights pid s mux e =
    let ended = concat (packets_of_groups (idle pid 0) s.ended) in
    let start = before_group pid s in
    append_assoc ended (concat (packets_of_all start s.running)) (concat (packets_of_all mux (cycle_in weights s.generation)))
    ∙ ap (λ bs. ended ++ bs) (packs_then start mux s.running (cycle_in weights s.generation) e)

pub cycle_counted : (weights : List ℕ) (pid : ℕ) (s : OnAir) (mux : MuxState) → mux ≡ fold past (before_group pid s) s.running
    → fold past mux (cycle_in weights s.generation) ≡ fold past (before_group pid (with_cycle weights s)) (with_cycle weights s).running
cycle_counted weights pid s mux e = counts_then (before_group pid s) mux s.running (cycle_in weights s.generation) e

-- the group that goes on is one of all
running_like : (s : OnAir) → All (All IsSectionLike) (groups_of s) → All IsSectionLike s.running
running_like s like = last (s.ended) like where
  last : (gs : List (List Bytes)) → All (All IsSectionLike) (gs ++ s.running ∷ []) → All IsSectionLike s.running
  last [] h = All-head (All IsSectionLike) s.running [] h
  last (g ∷ gs) h = last gs (All-tail (All IsSectionLike) g (gs ++ s.running ∷ []) h)

-- what the end of its group adds: then all of it is given
pub end_given : (pid : ℕ) (s : OnAir) (mux : MuxState) → All (All IsSectionLike) (groups_of s) → mux ≡ fold past (before_group pid s) s.running
    → given_bytes pid s ++ concat (last_of mux) ≡ air_bytes pid s
end_given pid s mux like e =
    let ended = concat (packets_of_groups (idle pid 0) s.ended) in
    let start = before_group pid s in
    append_assoc ended (concat (packets_of_all start s.running)) (concat (last_of mux))
    ∙ ap (λ bs. ended ++ bs) (packs_group start mux s.running (between pid s) (running_like s like) e)
    ∙ sym (groups_bytes (idle pid 0) s.ended s.running)

-- and with another tree nothing of its group is given yet
pub tree_given : (pid : ℕ) (tree : Tree) (s : OnAir) → air_bytes pid s ≡ given_bytes pid (with_tree tree s)
tree_given pid tree s = sym (append-nil (air_bytes pid s))

pub tree_counted : (pid : ℕ) (tree : Tree) (s : OnAir) (mux : MuxState) → All (All IsSectionLike) (groups_of s) → mux ≡ fold past (before_group pid s) s.running
    → after_finish mux ≡ fold past (before_group pid (with_tree tree s)) (with_tree tree s).running
tree_counted pid tree s mux like e =
    counts_group (before_group pid s) mux s.running (between pid s) (running_like s like) e ∙ sym (fold_push past_group (idle pid 0) s.ended s.running)

-- what was given before a cycle is a front of all that is sent with it
pub given_front : (weights : List ℕ) (pid : ℕ) (s : OnAir) → All (All IsSectionLike) (groups_of (with_cycle weights s))
    → (more : Bytes) × (given_bytes pid s ++ more ≡ air_bytes pid (with_cycle weights s))
given_front weights pid s like =
    let t = with_cycle weights s in
    let mux = fold past (before_group pid s) s.running in
    let end = fold past (before_group pid t) t.running in
    let cycle = concat (packets_of_all mux (cycle_in weights s.generation)) in
    let last = concat (last_of end) in (
      cycle ++ last,
      sym (append_assoc (given_bytes pid s) cycle last) ∙ ap (λ bs. bs ++ last) (cycle_given weights pid s mux refl) ∙ end_given pid t end like refl,
    )
