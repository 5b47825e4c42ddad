-- Lists that grow by ranges, by the items of a vector, by the words of a draw, and by parts.
use Rattle.session_script.proofs.Imports.{◌≡◌, ℕ, ◌+◌, ◌-◌, ◌≤◌, ◌<◌, Bool, true, List, [], ◌∷◌, ◌++◌, map, All, Contains, refl, sym, ap, ◌∙◌, subst, arith, append_assoc, ne_eqb, nat_eq, flat_map, range_with_len, list_all, IsDistinct, map-append, flat_map_more, length-range_with_len, map-range_with_len_more, All-nil, All-head, All-tail, All-append, length, get_or, take, Option, Some, None, YieldsList-turn, YieldsList-end, replicate, option_map, take_all, Bytes, Fate, fates_in, fates_onto, all_fates, length-append, length-map, TaskLine, Finale, Before, During, task_line, settle_lines, finale_line, lines_of}
use Rattle.std.proofs.lemmas.List.{map-id}
use Rattle.std.proofs.lemmas.List.Elements.{All-contains}
use Rattle.std.proofs.lemmas.List.FromFn.{get_or-range_with_len}
use Rattle.std.proofs.lemmas.List.Sums.{AllPass-from_list_all}
use Rattle.std.proofs.lemmas.Map.Keys.{IsDistinct-from_apart}
use Rattle.std.specs.Iterator.{Yields}
use Rattle.std.specs.Vec.Iter.{into_iter_items, into_iter_len, into_iter_steps}
use Rattle.std.proofs.lemmas.Iterator.Adapters.{YieldsList-from_vec}
use Rattle.std.proofs.lemmas.Iterator.Consumers.{YieldsList-so_far}

-- ---- ranges

pub range_more : (a n : ℕ) → range_with_len a (n + 1) ≡ range_with_len a n ++ (a + n) ∷ []
range_more a n = sym (map-id (range_with_len a (n + 1))) ∙ map-range_with_len_more (λ x. x) a n (a + n) refl
    ∙ ap (λ xs. xs ++ (a + n) ∷ []) (map-id (range_with_len a n))

pub all_in_range : (P : ℕ → Type 0) (a n : ℕ) → ((i : ℕ) → a ≤ i → i < a + n → P i) → All P (range_with_len a n)
all_in_range P a n h = λ k d lt. let l = length-range_with_len a n in let less : k < n = omega (arith, l, lt) in
    subst P (sym (get_or-range_with_len a n k d less)) (h (a + k) (omega arith) (omega arith))

pub in_range : (a n i : ℕ) → a ≤ i → i < a + n → Contains (range_with_len a n) i
in_range a n i low high = let l = length-range_with_len a n in let less : i - a < n = omega (arith, low, high) in
    let back : a + (i - a) ≡ i = omega (arith, low) in (i - a, omega (arith, l, less), get_or-range_with_len a n (i - a) i less ∙ back)

-- what a test says of a whole range it says of each number there
pub tested : (p : ℕ → Bool) (a n i : ℕ) → list_all p (range_with_len a n) ≡ true → a ≤ i → i < a + n → p i ≡ true
tested p a n i h low high =
    All-contains (λ x. p x ≡ true) (range_with_len a n) i (AllPass-from_list_all p (range_with_len a n) h) (in_range a n i low high)

pub range_is_distinct : (a n : ℕ) → IsDistinct nat_eq (range_with_len a n)
range_is_distinct a n = IsDistinct-from_apart nat_eq (range_with_len a n)
    (λ i j d less lt. let l = length-range_with_len a n in let last : j < n = omega (arith, l, lt) in let first : i < n = omega (arith, less, last) in
    rw (get_or-range_with_len a n i d first, get_or-range_with_len a n j d last) (ne_eqb (a + i) (a + j) (λ e. omega (arith, e, less))))

-- ---- lists of lists

pub all_flat : {X A : Type 0} (P : A → Type 0) (f : X → List A) (xs : List X) → All (λ x. All P (f x)) xs → All P (flat_map f xs)
all_flat P f [] h = All-nil P
all_flat {X} P f (x ∷ xs) h =
    let Q : X → Type 0 = λ y. All P (f y) in All-append P (f x) (flat_map f xs) (All-head Q x xs h) (all_flat P f xs (All-tail Q x xs h))

-- ---- lists that a loop makes

pub push_last : {A B : Type 0} (view : A → B) (xs : List A) (base more : List B) (x : A) (y : B) → map view xs ≡ base ++ more → view x ≡ y → map view (xs ++ x ∷ []) ≡ base ++ (more ++ y ∷ [])
push_last view xs base more x y so_far is = map-append view xs (x ∷ []) ∙ rw (so_far, is) (append_assoc base more (y ∷ []))

-- one more element of what stands for a range
pub push_more : {A B : Type 0} (view : A → B) (f : ℕ → B) (xs : List A) (base : List B) (x : A) (a n m j : ℕ) → a + n ≡ j → m ≡ n + 1
    → map view xs ≡ base ++ map f (range_with_len a n) → view x ≡ f j → map view (xs ++ x ∷ []) ≡ base ++ map f (range_with_len a m)
push_more view f xs base x a n m j at more so_far is =
    rw (more, map-range_with_len_more f a n j at) (map-append view xs (x ∷ []) ∙ rw (so_far, is) (append_assoc base (map f (range_with_len a n)) (f j ∷ [])))

-- one more list of those that stand for a range
pub put_more : {A : Type 0} (f : ℕ → List A) (base now new : List A) (a n m j : ℕ) → a + n ≡ j → m ≡ n + 1
    → now ≡ base ++ flat_map f (range_with_len a n) → new ≡ now ++ f j → new ≡ base ++ flat_map f (range_with_len a m)
put_more f base now new a n m j at more so_far is =
    let next : range_with_len a m ≡ range_with_len a n ++ j ∷ [] = ap (range_with_len a) more ∙ range_more a n ∙ ap (λ k. range_with_len a n ++ k ∷ []) at in
    is ∙ ap (λ ys. ys ++ f j) so_far ∙ flat_map_more f base (range_with_len a n) j ∙ ap (λ ys. base ++ flat_map f ys) (sym next)

-- ---- a `for` over the items of a vector

-- an item that comes is the next of them, after those that came
pub item_comes : {A Z : Type 0} (s : _) (all : List A) → into_iter_items s ≡ all → into_iter_len s ≡ length all → (xs : List A) (t : _) → Yields (into_iter_steps {X = A} {Z = Z}) s xs t
    → {r : Option A} (u : _) {x : A} → r ≡ Some x → into_iter_steps t r u → (length xs < length all) × (x ≡ get_or all (length xs) x) × (xs ≡ take (length xs) all)
item_comes s all items len xs t y {r} u {x} is steps =
    let list = YieldsList-from_vec {s = s} all items len in let turn = YieldsList-turn list xs t y r u x is steps in (turn.0, turn.1, sym (map-id xs) ∙ YieldsList-so_far list xs t y)

-- where none comes, all of them came
pub items_came : {A Z : Type 0} (s : _) (all : List A) → into_iter_items s ≡ all → into_iter_len s ≡ length all → (xs : List A) (t : _) → Yields (into_iter_steps {X = A} {Z = Z}) s xs t
    → {r : Option A} (u : _) → r ≡ None → into_iter_steps t r u → xs ≡ all
items_came s all items len xs t y {r} u is steps = sym (map-id xs) ∙ (YieldsList-end (YieldsList-from_vec {s = s} all items len) xs t y r u is steps).0

-- ---- the fates of a draw, word by word

-- how many fates there are, where n are known and others follow
abbrev pub counted : ℕ → Option (List Fate) → Option ℕ
counted n others = option_map (λ fates. n + length fates) others

joined : (fates run : List Fate) (others : Option (List Fate)) → fates_onto (Some fates) (fates_onto (Some run) others) ≡ fates_onto (Some (fates ++ run)) others
joined fates run (Some others) = ap Some (sym (append_assoc fates run others))
joined fates run None = refl

-- one word more, whose n fates fill up the list from k elements to m
pub filled : (all : Option (List Fate)) (fates : List Fate) (k m n : ℕ) (f : Fate) (word : Bytes) (words : List Bytes) → Some (replicate n f) ≡ fates_in word → k ≡ length fates → m ≡ k + n
    → all ≡ fates_onto (Some fates) (all_fates (word ∷ words)) → all ≡ fates_onto (Some (take m fates ++ replicate (m - k) f)) (all_fates words)
filled all fates k m n f word words e l t h = let front : take m fates ≡ fates = take_all m fates (omega arith) in let more : m - k ≡ n = omega arith in
    rw (front, more) (h ∙ ap (λ run. fates_onto (Some fates) (fates_onto run (all_fates words))) (sym e) ∙ joined fates (replicate n f) (all_fates words))

-- ---- the lines of a script's parts

pub line_count : (before during : List TaskLine) (settle : Option ℕ) (finales : List Finale) → length (lines_of before during settle finales) ≡ length before + (length during + (length (settle_lines settle) + length finales))
line_count before during settle finales = let b = length-map before (task_line Before) in let d = length-map during (task_line During) in let f = length-map finales finale_line in
    let one = length-append (map (task_line Before) before) (map (task_line During) during ++ (settle_lines settle ++ map finale_line finales)) in
    let two = length-append (map (task_line During) during) (settle_lines settle ++ map finale_line finales) in
    let three = length-append (settle_lines settle) (map finale_line finales) in omega (arith, b, d, f, one, two, three)
