-- Whole cycles whose packets are put one after another.
use Rattle.std.proofs.Common.{◌≡◌, ℕ, zero, suc, ◌+◌, ◌-◌, ◌<◌, List, ◌++◌, map, refl, ◌∙◌, sym, ap, subst, append_assoc, append-nil, arith}
use Rattle.std.specs.List.{All, concat, fold}
use Rattle.std.proofs.lemmas.List.{map-append}
use Rattle.std.proofs.lemmas.List.Elements.{All-append, All-nil}
use Rattle.section_stream.specs.Groups.{IsBetween, packets_of_group}
use Rattle.section_stream.specs.Packing.{MuxState, IsSectionLike, last_of, packets_of_all, past}
use Rattle.cycle_sender.proofs.CallerLemmas.{packs_then, counts_then, packs_group}
use Rattle.carousel_world.specs.Publishing.{repeat_list}
use Rattle.shell_streams.specs.Cuts.{Bytes}

-- ---- cycles

repeated_more : {X : Type 0} (n : ℕ) (xs : List X) → repeat_list n xs ++ xs ≡ repeat_list (suc n) xs
repeated_more zero xs = sym (append-nil xs)
repeated_more (suc n) xs = append_assoc xs (repeat_list n xs) xs ∙ ap (λ ys. xs ++ ys) (repeated_more n xs)

repeated_next : {X : Type 0} (n : ℕ) (xs : List X) → repeat_list n xs ++ xs ≡ repeat_list (n + 1) xs
repeated_next n xs = let e : suc n ≡ n + 1 = omega arith in repeated_more n xs ∙ ap (λ k. repeat_list k xs) e

repeated_sum : {X : Type 0} (m n : ℕ) (xs : List X) → repeat_list m xs ++ repeat_list n xs ≡ repeat_list (m + n) xs
repeated_sum zero n xs = let e : n ≡ 0 + n = omega arith in ap (λ k. repeat_list k xs) e
repeated_sum (suc m) n xs =
    let e : suc (m + n) ≡ suc m + n = omega arith in
    append_assoc xs (repeat_list m xs) (repeat_list n xs) ∙ ap (λ ys. xs ++ ys) (repeated_sum m n xs) ∙ ap (λ k. repeat_list k xs) e

map_cycle : {X : Type 0} (f : X → Bytes) (xs : List X) (i : ℕ) → map f (repeat_list i xs) ++ map f xs ≡ map f (repeat_list (i + 1) xs)
map_cycle f xs i = sym (map-append f (repeat_list i xs) xs) ∙ ap (map f) (repeated_next i xs)

-- one cycle more
pub packs_cycle : {X : Type 0} (f : X → Bytes) (start mux : MuxState) (xs : List X) (i : ℕ) → mux ≡ fold past start (map f (repeat_list i xs))
    → concat (packets_of_all start (map f (repeat_list i xs))) ++ concat (packets_of_all mux (map f xs)) ≡ concat (packets_of_all start (map f (repeat_list (i + 1) xs)))
packs_cycle f start mux xs i e = packs_then start mux (map f (repeat_list i xs)) (map f xs) e ∙ ap (λ ss. concat (packets_of_all start ss)) (map_cycle f xs i)

pub counts_cycle : {X : Type 0} (f : X → Bytes) (start mux : MuxState) (xs : List X) (i : ℕ) → mux ≡ fold past start (map f (repeat_list i xs))
    → fold past mux (map f xs) ≡ fold past start (map f (repeat_list (i + 1) xs))
counts_cycle f start mux xs i e = counts_then start mux (map f (repeat_list i xs)) (map f xs) e ∙ ap (fold past start) (map_cycle f xs i)

-- the first cycles, and the others
pub packs_cycles : {X : Type 0} (f : X → Bytes) (start : MuxState) (xs : List X) (i n : ℕ) → i < n
    → concat (packets_of_all start (map f (repeat_list (i + 1) xs))) ++ concat (packets_of_all (fold past start (map f (repeat_list (i + 1) xs))) (map f (repeat_list (n - (i + 1)) xs)))
    ≡ concat (packets_of_all start (map f (repeat_list n xs)))
packs_cycles f start xs i n h =
    let e : i + 1 + (n - (i + 1)) ≡ n = omega arith in
    packs_then start (fold past start (map f (repeat_list (i + 1) xs))) (map f (repeat_list (i + 1) xs)) (map f (repeat_list (n - (i + 1)) xs)) refl
    ∙ ap (λ ss. concat (packets_of_all start ss)) (sym (map-append f (repeat_list (i + 1) xs) (repeat_list (n - (i + 1)) xs)) ∙ ap (map f) (repeated_sum (i + 1) (n - (i + 1)) xs ∙ ap (λ k. repeat_list k xs) e))

-- ---- the end of a group

-- in cycles there are no other sections than in one
pub like_cycles : {X : Type 0} (f : X → Bytes) (n : ℕ) (xs : List X) → All IsSectionLike (map f xs) → All IsSectionLike (map f (repeat_list n xs))
like_cycles f zero xs like = All-nil IsSectionLike
like_cycles f (suc n) xs like = subst (All IsSectionLike) (sym (map-append f xs (repeat_list n xs))) (All-append IsSectionLike (map f xs) (map f (repeat_list n xs)) like (like_cycles f n xs like))

-- all cycles, and the end of their group
pub packs_end : {X : Type 0} (f : X → Bytes) (start mux : MuxState) (xs : List X) (i n : ℕ) → IsBetween start → All IsSectionLike (map f xs) → i ≡ n → mux ≡ fold past start (map f (repeat_list i xs))
    → concat (packets_of_all start (map f (repeat_list i xs))) ++ concat (last_of mux) ≡ concat (packets_of_group start (map f (repeat_list n xs)))
packs_end f start mux xs i n between like all e =
    packs_group start mux (map f (repeat_list i xs)) between (like_cycles f i xs like) e ∙ ap (λ k. concat (packets_of_group start (map f (repeat_list k xs)))) all
