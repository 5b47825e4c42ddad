-- The items of a cycle, by place and by number.
use Rattle.std.proofs.Common.{◌≡◌, ◌≢◌, ℕ, zero, suc, ◌+◌, ◌-◌, ◌*◌, ◌^◌, ◌<◌, ◌≤◌, Bool, true, false, cond, nat_lt, max, filter, if◌then◌else◌, List, [], ◌∷◌, ◌++◌, length, map, refl, ap, sym, ◌∙◌, subst, arith, get_or, take, zero-add, length-append, ◌⊎◌, inl, inr}
use Rattle.std.specs.List.{All, Contains, AllPairs, flat_map, fold, range_with_len, sum_by, count_by}
use Rattle.std.proofs.lemmas.List.{take_all, length-map, get_or_past}
use Rattle.std.proofs.lemmas.List.Concat.{length-flat_map}
use Rattle.std.proofs.lemmas.List.FromFn.{get_or-range_with_len}
use Rattle.std.proofs.lemmas.List.Sums.{sum_by-cons, sum_by-append, sum_by-le, sum_by-take-le, sum_by_more, fold_more}
use Rattle.std.proofs.lemmas.List.Elements.{All-head, All-tail, All-cons, All-nil, All-map, All-append}
use Rattle.std.proofs.lemmas.Bool.{cases_eq, cases_lt, eq-eqb, ne_eqb, lt-ltb, le-ltb, ltb-true, ltb-false}
use Rattle.cycle_planner.specs.declared.Item.{Item}
use Rattle.cycle_planner.specs.declared.Item.TheVariants.{Dsi, Block}
use Rattle.cycle_planner.specs.Weights.{weight, AreWeights}
use Rattle.cycle_planner.specs.Rounds.{blocks_in_round}
use Rattle.cycle_planner.specs.Cycle.{Line, blocks_of, diis_of, round, greatest_weight, cycle_of, AreLines, SendsEach, IsOfLines, is_dsi, is_dii, is_block}
use Rattle.cycle_planner.specs.Places.{IsListed}
use Rattle.cycle_planner.proofs.Groups.{group_known, group_listed, few_diis, no_dii, dii_once, all_diis, count_none, count_one}

-- ---- by place

length_range : (a n : ℕ) → length (range_with_len a n) ≡ n
length_range a zero = refl
length_range a (suc n) = ap suc (length_range (a + 1) n)

pub length_blocks : (line : Line) → length (blocks_of line) ≡ line.1
length_blocks line = length-map (range_with_len 0 line.1) (λ (b : ℕ). Block line.0 b) ∙ length_range 0 line.1

-- ---- a round as a walk over all lines

is_lt : (a b : ℕ) → a < b → nat_lt a b ≡ true
is_lt a b h = lt-ltb a b h

not_lt : (a b : ℕ) → b ≤ a → nat_lt a b ≡ false
not_lt a b h = le-ltb a b h

sent_yes : (ws : List ℕ) (r : ℕ) (line : Line) → r < weight ws line.0 → blocks_in_round ws r line ≡ blocks_of line
sent_yes ws r line h = rw (is_lt r (weight ws line.0) h) refl

sent_no : (ws : List ℕ) (r : ℕ) (line : Line) → weight ws line.0 ≤ r → blocks_in_round ws r line ≡ []
sent_no ws r line h = rw (not_lt r (weight ws line.0) h) refl

-- what a round's rest is, whichever way the test of its first line goes
by_test : (b : Bool) (line : Line) (lines : List Line) (rest : List Item) → flat_map blocks_of lines ≡ rest
    → flat_map blocks_of (cond b (line ∷ lines) lines) ≡ cond b (blocks_of line) [] ++ rest
by_test true line lines rest e = ap (λ xs. blocks_of line ++ xs) e
by_test false line lines rest e = e

pub walk : (ws : List ℕ) (r : ℕ) (lines : List Line) → flat_map blocks_of (filter (λ line. nat_lt r (weight ws line.0)) lines) ≡ flat_map (blocks_in_round ws r) lines
walk ws r [] = refl
walk ws r (line ∷ lines) =
    by_test (nat_lt r (weight ws line.0)) line (filter (λ l. nat_lt r (weight ws l.0)) lines) (flat_map (blocks_in_round ws r) lines) (walk ws r lines)

pub round_is : (ws : List ℕ) (lines : List Line) (r : ℕ) → round ws lines r ≡ diis_of lines ++ flat_map (blocks_in_round ws r) lines
round_is ws lines r = ap (λ xs. diis_of lines ++ xs) (walk ws r lines)

-- a line that sends something sends its blocks
all_of : (ws : List ℕ) (r : ℕ) (line : Line) (left : ℕ) → left < length (blocks_in_round ws r line) → (r < weight ws line.0) ⊎ (weight ws line.0 ≤ r) → blocks_in_round ws r line ≡ blocks_of line
all_of ws r line left h (inl lower) = sent_yes ws r line lower
all_of ws r line left h (inr higher) = absurd (omega (arith, h, ap length (sent_no ws r line higher)))

pub all_blocks : (ws : List ℕ) (r : ℕ) (line : Line) (left : ℕ) → left < length (blocks_in_round ws r line) → blocks_in_round ws r line ≡ blocks_of line
all_blocks ws r line left h = all_of ws r line left h (cases_lt r (weight ws line.0))

pub within_line : (ws : List ℕ) (r : ℕ) (line : Line) (left : ℕ) → left < length (blocks_in_round ws r line) → left < line.1
within_line ws r line left h = omega (arith, h, ap length (all_blocks ws r line left h), length_blocks line)

-- ---- the length of a round

pub round_length : (ws : List ℕ) (lines : List Line) (r : ℕ) → length (round ws lines r) ≡ length (diis_of lines) + sum_by (λ l. length (blocks_in_round ws r l)) lines
round_length ws lines r =
    ap length (round_is ws lines r) ∙ length-append (diis_of lines) (flat_map (blocks_in_round ws r) lines) ∙ ap (λ n. length (diis_of lines) + n) (length-flat_map (blocks_in_round ws r) lines)

-- as many lines as there are ids at most
few_from : (lines : List Line) (low : ℕ) → AllPairs (λ a b. a.0 < b.0) lines → All (λ l. low ≤ l.0) lines → All (λ l. l.0 ≤ 2224) lines → low ≤ 2225 → low + length lines ≤ 2225
few_from [] low rising above below h = omega arith
few_from (line ∷ lines) low rising above below h =
    let here : low ≤ line.0 = All-head (λ l. low ≤ l.0) line lines above in
    let top : line.0 ≤ 2224 = All-head (λ l. l.0 ≤ 2224) line lines below in
    let later : All (λ l. low + 1 ≤ l.0) lines = λ k d q. omega (arith, here, rising 0 (suc k) d (omega arith) (omega arith)) in
    omega (arith, few_from lines (low + 1) (λ i j d p q. rising (suc i) (suc j) d (omega arith) (omega arith)) later (All-tail (λ l. l.0 ≤ 2224) line lines below) (omega arith))

pub few_lines : (lines : List Line) → AreLines lines → length lines ≤ 2224
few_lines lines are = omega (arith, few_from lines 1 are.rising (λ k d q. (are.ids k d q).0) (λ k d q. (are.ids k d q).1) (omega arith))

sent_within : (ws : List ℕ) (r : ℕ) (line : Line) → (r < weight ws line.0) ⊎ (weight ws line.0 ≤ r) → length (blocks_in_round ws r line) ≤ line.1
sent_within ws r line (inl lower) = omega (arith, ap length (sent_yes ws r line lower), length_blocks line)
sent_within ws r line (inr higher) = omega (arith, ap length (sent_no ws r line higher))

pub sent_few : (ws : List ℕ) (r : ℕ) (lines : List Line) → AreLines lines → All (λ l. length (blocks_in_round ws r l) ≤ 65536) lines
sent_few ws r lines are = λ k d q. omega (arith, are.blocks k d q, sent_within ws r (get_or lines k d) (cases_lt r (weight ws (get_or lines k d).0)))

pub round_within : (ws : List ℕ) (r : ℕ) (lines : List Line) (i : ℕ) → AreLines lines → sum_by (λ l. length (blocks_in_round ws r l)) (take i lines) ≤ 2224 * 65536
round_within ws r lines i are =
    let f : Line → ℕ = λ l. length (blocks_in_round ws r l) in
    omega (arith, sum_by-le f 65536 lines (sent_few ws r lines are), few_lines lines are, sum_by-take-le f lines i)

pub round_fits : (ws : List ℕ) (r : ℕ) (lines : List Line) (i items next : ℕ) (d : Line) → AreLines lines → i < length lines → items ≡ length (diis_of lines) + sum_by (λ l. length (blocks_in_round ws r l)) (take i lines) → next ≡ length (blocks_in_round ws r (get_or lines i d)) → items + next < 2 ^ 64
round_fits ws r lines i items next d are h e n =
    omega (arith, e, n, few_diis lines, round_within ws r lines (i + 1) are, sum_by_more (λ (l : Line). length (blocks_in_round ws r l)) lines i d h)

pub round_size : (ws : List ℕ) (r : ℕ) (lines : List Line) (i items : ℕ) → length lines ≤ i → items ≡ length (diis_of lines) + sum_by (λ l. length (blocks_in_round ws r l)) (take i lines) → items ≡ length (round ws lines r)
round_size ws r lines i items h e =
    let f : Line → ℕ = λ l. length (blocks_in_round ws r l) in
    let all : sum_by f (take i lines) ≡ sum_by f lines = ap (sum_by f) (take_all i lines h) in
    omega (arith, all, round_length ws lines r)

pub sends_all : (ws : List ℕ) (r : ℕ) (line : Line) → r < weight ws line.0 → line.1 ≡ length (blocks_in_round ws r line)
sends_all ws r line h = sym (ap length (sent_yes ws r line h) ∙ length_blocks line)

pub sends_none : (ws : List ℕ) (r : ℕ) (line : Line) → weight ws line.0 ≤ r → 0 ≡ length (blocks_in_round ws r line)
sends_none ws r line h = sym (ap length (sent_no ws r line h))

-- ---- the rounds of a cycle

max_by : (a b : ℕ) → ((a ≤ max a b) × (b ≤ max a b)) × ((top : ℕ) → a ≤ top → b ≤ top → max a b ≤ top)
max_by a b = ((omega arith, omega arith), λ top p q. omega (arith, p, q))

max_left : (a b : ℕ) → a ≤ max a b
max_left a b = (max_by a b).0.0

max_right : (a b : ℕ) → b ≤ max a b
max_right a b = (max_by a b).0.1

max_below : (a b top : ℕ) → a ≤ top → b ≤ top → max a b ≤ top
max_below a b top p q = (max_by a b).1 top p q

at_least : (ws : List ℕ) (a : ℕ) (lines : List Line) → a ≤ fold (λ r line. max r (weight ws line.0)) a lines
at_least ws a [] = omega arith
at_least ws a (line ∷ lines) =
    omega (arith, at_least ws (max a (weight ws line.0)) lines, max_left a (weight ws line.0))

each_at_most : (ws : List ℕ) (a : ℕ) (lines : List Line) → All (λ l. weight ws l.0 ≤ fold (λ r line. max r (weight ws line.0)) a lines) lines
each_at_most ws a [] k d q = absurd (omega arith)
each_at_most ws a (line ∷ lines) zero d q = omega (arith, at_least ws (max a (weight ws line.0)) lines, max_right a (weight ws line.0))
each_at_most ws a (line ∷ lines) (suc k) d q = each_at_most ws (max a (weight ws line.0)) lines k d (omega arith)

at_most : (ws : List ℕ) (a top : ℕ) (lines : List Line) → a ≤ top → All (λ l. weight ws l.0 ≤ top) lines → fold (λ r line. max r (weight ws line.0)) a lines ≤ top
at_most ws a top [] h all = h
at_most ws a top (line ∷ lines) h all =
    at_most ws (max a (weight ws line.0)) top lines (max_below a (weight ws line.0) top h (All-head (λ l. weight ws l.0 ≤ top) line lines all)) (All-tail (λ l. weight ws l.0 ≤ top) line lines all)

ranged : (ws : List ℕ) (n : ℕ) → AreWeights ws → (n < length ws) ⊎ (length ws ≤ n) → (1 ≤ get_or ws n 1) × (get_or ws n 1 ≤ 8)
ranged ws n are (inl inside) = are.range n 1 inside
ranged ws n are (inr past) = (omega (arith, get_or_past ws n 1 past), omega (arith, get_or_past ws n 1 past))

pub known_weight : (ws : List ℕ) (m : ℕ) → AreWeights ws → (1 ≤ weight ws m) × (weight ws m ≤ 8)
known_weight ws m are = ranged ws (m - 1) are (cases_lt (m - 1) (length ws))

pub most_rounds : (ws : List ℕ) (lines : List Line) → AreWeights ws → AreLines lines → greatest_weight ws lines ≤ 8
most_rounds ws lines are of = at_most ws 0 8 lines (omega arith) (λ k d q. (known_weight ws (get_or lines k d).0 are).1)

rounds_from : (ws : List ℕ) (lines : List Line) (r n m : ℕ) → n ≡ suc m → flat_map (round ws lines) (range_with_len r n) ≡ round ws lines r ++ flat_map (round ws lines) (range_with_len (r + 1) m)
rounds_from ws lines r n m e = ap (λ k. flat_map (round ws lines) (range_with_len r k)) e

pub first_round : (ws : List ℕ) (lines : List Line) (r : ℕ) → r < greatest_weight ws lines
    → flat_map (round ws lines) (range_with_len r (greatest_weight ws lines - r)) ≡ round ws lines r ++ flat_map (round ws lines) (range_with_len (r + 1) (greatest_weight ws lines - (r + 1)))
first_round ws lines r h = rounds_from ws lines r (greatest_weight ws lines - r) (greatest_weight ws lines - (r + 1)) (omega (arith, h))

-- ---- the length of a cycle

-- how many of n rounds from r on are below a weight
abbrev hits : (w r n : ℕ) → ℕ
hits w r zero = 0
hits w r (suc n) = cond (nat_lt r w) 1 0 + hits w (r + 1) n

hit : (b : Bool) (w r n k : ℕ) → (b ≡ true → r < w) → (b ≡ false → w ≤ r) → k ≡ w - (r + 1) → cond b 1 0 + k ≡ w - r
hit true w r n k below above e = omega (arith, below refl, e)
hit false w r n k below above e = omega (arith, above refl, e)

hits_all : (w r n : ℕ) → w ≤ r + n → hits w r n ≡ w - r
hits_all w r zero h = let e : 0 ≡ w - r = omega (arith, h) in e
hits_all w r (suc n) h = hit (nat_lt r w) w r n (hits w (r + 1) n) (λ e. ltb-true r w e) (λ e. ltb-false r w e) (hits_all w (r + 1) n (omega (arith, h)))

sent_length : (b : Bool) (line : Line) → length (if b then blocks_of line else []) ≡ cond b 1 0 * line.1
sent_length true line = omega (arith, length_blocks line)
sent_length false line = omega arith

add_up : (f g h : Line → ℕ) (lines : List Line) → ((l : Line) → h l ≡ f l + g l) → sum_by h lines ≡ sum_by f lines + sum_by g lines
add_up f g h [] e = refl
add_up f g h (line ∷ lines) e = omega (arith, sum_by-cons f line lines, sum_by-cons g line lines, sum_by-cons h line lines, e line, add_up f g h lines e)

sum_same : (f g : Line → ℕ) (lines : List Line) → All (λ l. f l ≡ g l) lines → sum_by f lines ≡ sum_by g lines
sum_same f g [] e = refl
sum_same f g (line ∷ lines) e = omega (arith, sum_by-cons f line lines, sum_by-cons g line lines, All-head (λ l. f l ≡ g l) line lines e, sum_same f g lines (All-tail (λ l. f l ≡ g l) line lines e))

none_sum : (lines : List Line) → 0 ≡ sum_by (λ l. 0 * l.1) lines
none_sum [] = refl
none_sum (line ∷ lines) = omega (arith, sum_by-cons (λ (l : Line). 0 * l.1) line lines, none_sum lines)

spread : (a b c : ℕ) → (a + b) * c ≡ a * c + b * c
spread a b c = omega arith

rounds_length : (ws : List ℕ) (lines : List Line) (r n : ℕ) → length (flat_map (round ws lines) (range_with_len r n)) ≡ n * length (diis_of lines) + sum_by (λ l. hits (weight ws l.0) r n * l.1) lines
rounds_length ws lines r zero = omega (arith, none_sum lines)
rounds_length ws lines r (suc n) =
    let f : Line → ℕ = λ l. length (blocks_in_round ws r l) in
    let g : Line → ℕ = λ l. hits (weight ws l.0) (r + 1) n * l.1 in
    let h : Line → ℕ = λ l. hits (weight ws l.0) r (suc n) * l.1 in
    let each : (l : Line) → h l ≡ f l + g l = λ l. spread (cond (nat_lt r (weight ws l.0)) 1 0) (hits (weight ws l.0) (r + 1) n) l.1 ∙ ap (λ k. k + g l) (sym (sent_length (nat_lt r (weight ws l.0)) l)) in
    omega (
      arith,
      length-append (round ws lines r) (flat_map (round ws lines) (range_with_len (r + 1) n)),
      round_length ws lines r,
      rounds_length ws lines (r + 1) n,
      spread 1 n (length (diis_of lines)),
      add_up f g h lines each,
    )

each_weight : (ws : List ℕ) (lines : List Line) (k : ℕ) (d : Line) → k < length lines → hits (weight ws (get_or lines k d).0) 0 (greatest_weight ws lines) ≡ weight ws (get_or lines k d).0
each_weight ws lines k d h = hits_all (weight ws (get_or lines k d).0) 0 (greatest_weight ws lines) (omega (arith, each_at_most ws 0 lines k d h)) ∙ omega arith

pub cycle_length : (ws : List ℕ) (lines : List Line) → length (cycle_of ws lines) ≡ 1 + greatest_weight ws lines * length (diis_of lines) + sum_by (λ l. weight ws l.0 * l.1) lines
cycle_length ws lines =
    omega (
      arith,
      rounds_length ws lines 0 (greatest_weight ws lines),
      sum_same (λ l. hits (weight ws l.0) 0 (greatest_weight ws lines) * l.1) (λ l. weight ws l.0 * l.1) lines (λ k d h. ap (λ n. n * (get_or lines k d).1) (each_weight ws lines k d h)),
    )

-- ---- how often

count_blocks : (p : Item → Bool) (xs ys : List Item) → count_by p (xs ++ ys) ≡ count_by p xs + count_by p ys
count_blocks p xs ys = sum_by-append (λ (x : Item). cond (p x) 1 0) xs ys

-- a test that no block passes
no_block : (p : Item → Bool) → ((m b : ℕ) → p (Block m b) ≡ false) → (m a n : ℕ) → count_by p (map (λ b. Block m b) (range_with_len a n)) ≡ 0
no_block p f m a zero = refl
no_block p f m a (suc n) = count_none p (Block m a) (map (λ b. Block m b) (range_with_len (a + 1) n)) (f m a) ∙ no_block p f m (a + 1) n

-- the blocks of another module
other_module : (m b n a k : ℕ) → m ≢ n → count_by (is_block m b) (map (λ x. Block n x) (range_with_len a k)) ≡ 0
other_module m b n a zero ne = refl
other_module m b n a (suc k) ne =
    count_none (is_block m b) (Block n a) (map (λ x. Block n x) (range_with_len (a + 1) k)) (rw (ne_eqb m n ne) refl) ∙ other_module m b n (a + 1) k ne

-- the block's number isn't among these
other_number : (m b a k : ℕ) → b < a → count_by (is_block m b) (map (λ x. Block m x) (range_with_len a k)) ≡ 0
other_number m b a zero h = refl
other_number m b a (suc k) h =
    count_none (is_block m b) (Block m a) (map (λ x. Block m x) (range_with_len (a + 1) k)) (rw (eq-eqb m m refl, ne_eqb b a (omega arith)) refl) ∙ other_number m b (a + 1) k (omega arith)

at_first : (m b a : ℕ) (rest : List Item) → (b ≡ a → count_by (is_block m b) rest ≡ 0) → ((b ≡ a → ⊥) → count_by (is_block m b) rest ≡ 1) → (b ≡ a) ⊎ (b ≡ a → ⊥)
    → count_by (is_block m b) (Block m a ∷ rest) ≡ 1
at_first m b a rest none one (inl same) =
    count_one (is_block m b) (Block m a) rest (rw (eq-eqb m m refl, eq-eqb b a same) refl) ∙ ap (λ (n : ℕ). 1 + n) (none same)
at_first m b a rest none one (inr other) =
    count_none (is_block m b) (Block m a) rest (rw (eq-eqb m m refl, ne_eqb b a other) refl) ∙ one other

this_number : (k m b a : ℕ) → a ≤ b → b < a + k → count_by (is_block m b) (map (λ x. Block m x) (range_with_len a k)) ≡ 1
this_number zero m b a l h = absurd (omega arith)
this_number (suc k) m b a l h =
    at_first m b a (map (λ x. Block m x) (range_with_len (a + 1) k)) (λ e. other_number m b (a + 1) k (omega arith)) (λ ne. this_number k m b (a + 1) (omega arith) (omega arith)) (cases_eq b a)

no_sent : (p : Item → Bool) → ((m b : ℕ) → p (Block m b) ≡ false) → (c : Bool) (line : Line) → count_by p (if c then blocks_of line else []) ≡ 0
no_sent p f true line = no_block p f line.0 0 line.1
no_sent p f false line = refl

no_blocks : (p : Item → Bool) → ((m b : ℕ) → p (Block m b) ≡ false) → (ws : List ℕ) (r : ℕ) (lines : List Line) → count_by p (flat_map (blocks_in_round ws r) lines) ≡ 0
no_blocks p f ws r [] = refl
no_blocks p f ws r (line ∷ lines) =
    omega (arith, count_blocks p (blocks_in_round ws r line) (flat_map (blocks_in_round ws r) lines), no_sent p f (nat_lt r (weight ws line.0)) line, no_blocks p f ws r lines)

other_sent : (m b : ℕ) (c : Bool) (line : Line) → m ≢ line.0 → count_by (is_block m b) (if c then blocks_of line else []) ≡ 0
other_sent m b true line ne = other_module m b line.0 0 line.1 ne
other_sent m b false line ne = refl

this_sent : (c : Bool) (line : Line) (b : ℕ) → b < line.1 → count_by (is_block line.0 b) (if c then blocks_of line else []) ≡ cond c 1 0
this_sent true line b h = this_number line.1 line.0 b 0 (omega arith) (omega (arith, h))
this_sent false line b h = refl

not_among : (m b : ℕ) (ws : List ℕ) (r : ℕ) (lines : List Line) → All (λ l. m < l.0) lines → count_by (is_block m b) (flat_map (blocks_in_round ws r) lines) ≡ 0
not_among m b ws r [] h = refl
not_among m b ws r (line ∷ lines) h =
    let other : m ≢ line.0 = omega (arith, All-head (λ l. m < l.0) line lines h) in
    omega (arith, count_blocks (is_block m b) (blocks_in_round ws r line) (flat_map (blocks_in_round ws r) lines), other_sent m b (nat_lt r (weight ws line.0)) line other, not_among m b ws r lines (All-tail (λ l. m < l.0) line lines h))

-- a block of a module is in a round once, or not at all
pub in_round : (ws : List ℕ) (r : ℕ) (lines : List Line) (line : Line) (k b : ℕ) → AllPairs (λ a c. a.0 < c.0) lines → k < length lines → get_or lines k line ≡ line → b < line.1
    → count_by (is_block line.0 b) (flat_map (blocks_in_round ws r) lines) ≡ cond (nat_lt r (weight ws line.0)) 1 0
in_round ws r [] line k b rising h e l = absurd (omega arith)
in_round ws r (first ∷ lines) line zero b rising h e l =
    let later : All (λ c. line.0 < c.0) lines = λ j d q. subst (λ (x : Line). x.0 < (get_or lines j d).0) e (rising 0 (suc j) d (omega arith) (omega arith)) in
    let this : count_by (is_block line.0 b) (blocks_in_round ws r first) ≡ cond (nat_lt r (weight ws line.0)) 1 0 =
    ap (λ (x : Line). count_by (is_block line.0 b) (blocks_in_round ws r x)) e ∙ this_sent (nat_lt r (weight ws line.0)) line b l in
    omega (arith, count_blocks (is_block line.0 b) (blocks_in_round ws r first) (flat_map (blocks_in_round ws r) lines), this, not_among line.0 b ws r lines later)
in_round ws r (first ∷ lines) line (suc k) b rising h e l =
    let before : first.0 < line.0 = subst (λ (x : Line). first.0 < x.0) e (rising 0 (suc k) line (omega arith) h) in
    let other : line.0 ≢ first.0 = omega (arith, before) in
    omega (
      arith,
      count_blocks (is_block line.0 b) (blocks_in_round ws r first) (flat_map (blocks_in_round ws r) lines),
      other_sent line.0 b (nat_lt r (weight ws first.0)) first other,
      in_round ws r lines line k b (λ i j d p q. rising (suc i) (suc j) d (omega arith) (omega arith)) (omega arith) e l,
    )

count_round : (p : Item → Bool) (ws : List ℕ) (lines : List Line) (r : ℕ) → count_by p (round ws lines r) ≡ count_by p (diis_of lines) + count_by p (flat_map (blocks_in_round ws r) lines)
count_round p ws lines r = ap (count_by p) (round_is ws lines r) ∙ count_blocks p (diis_of lines) (flat_map (blocks_in_round ws r) lines)

no_dsi : (ws : List ℕ) (lines : List Line) (r n : ℕ) → count_by is_dsi (flat_map (round ws lines) (range_with_len r n)) ≡ 0
no_dsi ws lines r zero = refl
no_dsi ws lines r (suc n) =
    omega (
      arith,
      count_blocks is_dsi (round ws lines r) (flat_map (round ws lines) (range_with_len (r + 1) n)),
      count_round is_dsi ws lines r,
      no_dii is_dsi (λ j. refl) lines,
      no_blocks is_dsi (λ m b. refl) ws r lines,
      no_dsi ws lines (r + 1) n,
    )

-- each DII is in a round once
dii_of_round : (ws : List ℕ) (lines : List Line) (j r : ℕ) → IsListed lines j → count_by (is_dii j) (round ws lines r) ≡ 1
dii_of_round ws lines j r is = omega (arith, count_round (is_dii j) ws lines r, dii_once lines j is, no_blocks (is_dii j) (λ m b. refl) ws r lines)

each_dii : (ws : List ℕ) (lines : List Line) (j : ℕ) → IsListed lines j → (r n : ℕ) → count_by (is_dii j) (flat_map (round ws lines) (range_with_len r n)) ≡ n
each_dii ws lines j is r zero = refl
each_dii ws lines j is r (suc n) =
    omega (
      arith,
      count_blocks (is_dii j) (round ws lines r) (flat_map (round ws lines) (range_with_len (r + 1) n)),
      dii_of_round ws lines j r is,
      each_dii ws lines j is (r + 1) n,
    )

in_rounds : (ws : List ℕ) (lines : List Line) (line : Line) (k b r n : ℕ) → AllPairs (λ a c. a.0 < c.0) lines → k < length lines → get_or lines k line ≡ line → b < line.1
    → count_by (is_block line.0 b) (flat_map (round ws lines) (range_with_len r n)) ≡ hits (weight ws line.0) r n
in_rounds ws lines line k b r zero rising h e l = refl
in_rounds ws lines line k b r (suc n) rising h e l =
    count_blocks (is_block line.0 b) (round ws lines r) (flat_map (round ws lines) (range_with_len (r + 1) n))
    ∙ ap (λ x. x + count_by (is_block line.0 b) (flat_map (round ws lines) (range_with_len (r + 1) n)))
    (count_round (is_block line.0 b) ws lines r ∙ ap (λ n. n + count_by (is_block line.0 b) (flat_map (blocks_in_round ws r) lines)) (no_dii (is_block line.0 b) (λ j. refl) lines)
    ∙ zero-add (count_by (is_block line.0 b) (flat_map (blocks_in_round ws r) lines)) ∙ in_round ws r lines line k b rising h e l)
    ∙ ap (λ x. cond (nat_lt r (weight ws line.0)) 1 0 + x) (in_rounds ws lines line k b (r + 1) n rising h e l)

-- ---- nothing else

one_line : (P : Item → Type 0) (line : Line) → ((b : ℕ) → b < line.1 → P (Block line.0 b)) → All P (blocks_of line)
one_line P line h =
    All-map P (λ b. Block line.0 b) (range_with_len 0 line.1) (λ k d inside.
    let within : k < line.1 = omega (arith, inside, length_range 0 line.1) in
    let is : get_or (range_with_len 0 line.1) k d ≡ k = get_or-range_with_len 0 line.1 k d within ∙ omega arith in
    subst (λ (b : ℕ). P (Block line.0 b)) (sym is) (h k within))

pub all_blocks_of : (P : Item → Type 0) (lines : List Line) → ((line : Line) (b : ℕ) → Contains lines line → b < line.1 → P (Block line.0 b)) → All P (flat_map blocks_of lines)
all_blocks_of P [] h = All-nil P
all_blocks_of P (line ∷ lines) h =
    All-append P (blocks_of line) (flat_map blocks_of lines) (one_line P line (λ b l. h line b (0, omega arith, refl) l))
    (all_blocks_of P lines (λ other b c l. h other b (suc c.0, omega (arith, c.1), c.2) l))

all_left : (P : Item → Type 0) (xs ys : List Item) → All P (xs ++ ys) → All P xs
all_left P [] ys all = All-nil P
all_left P (x ∷ xs) ys all = All-cons P x xs (All-head P x (xs ++ ys) all) (all_left P xs ys (All-tail P x (xs ++ ys) all))

all_right : (P : Item → Type 0) (xs ys : List Item) → All P (xs ++ ys) → All P ys
all_right P [] ys all = all
all_right P (x ∷ xs) ys all = all_right P xs ys (All-tail P x (xs ++ ys) all)

where_sent : (P : Item → Type 0) (b : Bool) (xs : List Item) → All P xs → All P (if b then xs else [])
where_sent P true xs all = all
where_sent P false xs all = All-nil P

all_sent : (P : Item → Type 0) (ws : List ℕ) (r : ℕ) (lines : List Line) → All P (flat_map blocks_of lines) → All P (flat_map (blocks_in_round ws r) lines)
all_sent P ws r [] all = All-nil P
all_sent P ws r (line ∷ lines) all =
    All-append P (blocks_in_round ws r line) (flat_map (blocks_in_round ws r) lines)
    (where_sent P (nat_lt r (weight ws line.0)) (blocks_of line) (all_left P (blocks_of line) (flat_map blocks_of lines) all))
    (all_sent P ws r lines (all_right P (blocks_of line) (flat_map blocks_of lines) all))

all_rounds : (P : Item → Type 0) (ws : List ℕ) (lines : List Line) (r n : ℕ) → All P (diis_of lines) → All P (flat_map blocks_of lines) → All P (flat_map (round ws lines) (range_with_len r n))
all_rounds P ws lines r zero dii all = All-nil P
all_rounds P ws lines r (suc n) dii all =
    All-append P (round ws lines r) (flat_map (round ws lines) (range_with_len (r + 1) n))
    (subst (All P) (sym (round_is ws lines r)) (All-append P (diis_of lines) (flat_map (blocks_in_round ws r) lines) dii (all_sent P ws r lines all)))
    (all_rounds P ws lines (r + 1) n dii all)

pub cycle_all : (P : Item → Type 0) (ws : List ℕ) (lines : List Line) → P Dsi → All P (diis_of lines) → All P (flat_map blocks_of lines) → All P (cycle_of ws lines)
cycle_all P ws lines dsi dii all =
    All-cons P Dsi (flat_map (round ws lines) (range_with_len 0 (greatest_weight ws lines))) dsi (all_rounds P ws lines 0 (greatest_weight ws lines) dii all)

each_of_lines : (ws : List ℕ) (lines : List Line) → All (IsOfLines lines) (cycle_of ws lines)
each_of_lines ws lines = cycle_all (IsOfLines lines) ws lines tt (all_diis (IsOfLines lines) lines (λ j is. group_known lines j is.has)) (all_blocks_of (IsOfLines lines) lines (λ line b here l. (line, here, refl, l)))

-- ---- the first round is whole

heavy_enough : (ws : List ℕ) (lines : List Line) → All (λ l. 1 ≤ weight ws l.0) lines → flat_map (blocks_in_round ws 0) lines ≡ flat_map blocks_of lines
heavy_enough ws [] all = refl
heavy_enough ws (line ∷ lines) all =
    ap (λ (xs : List Item). xs ++ flat_map (blocks_in_round ws 0) lines) (sent_yes ws 0 line (All-head (λ l. 1 ≤ weight ws l.0) line lines all))
    ∙ ap (λ (xs : List Item). blocks_of line ++ xs) (heavy_enough ws lines (All-tail (λ l. 1 ≤ weight ws l.0) line lines all))

at_least_one : (ws : List ℕ) (lines : List Line) → AreWeights ws → All (λ l. 1 ≤ weight ws l.0) lines
at_least_one ws lines w = λ k d q. (known_weight ws (get_or lines k d).0 w).0

pub some_round : (ws : List ℕ) (lines : List Line) → AreWeights ws → 0 < length lines → 1 ≤ greatest_weight ws lines
some_round ws lines w some = omega (arith, at_least_one ws lines w 0 (0, 0) some, each_at_most ws 0 lines 0 (0, 0) some)

pub cycle_begins : (ws : List ℕ) (lines : List Line) → AreWeights ws → 0 < length lines
    → cycle_of ws lines ≡ Dsi ∷ ((diis_of lines ++ flat_map blocks_of lines) ++ flat_map (round ws lines) (range_with_len 1 (greatest_weight ws lines - 1)))
cycle_begins ws lines w some =
    let later = flat_map (round ws lines) (range_with_len 1 (greatest_weight ws lines - 1)) in
    ap (λ (xs : List Item). Dsi ∷ xs) (rounds_from ws lines 0 (greatest_weight ws lines) (greatest_weight ws lines - 1) (omega (arith, some_round ws lines w some)))
    ∙ ap (λ (xs : List Item). Dsi ∷ (xs ++ later)) (round_is ws lines 0 ∙ ap (λ (xs : List Item). diis_of lines ++ xs) (heavy_enough ws lines (at_least_one ws lines w)))

pub sends_each : (ws : List ℕ) (lines : List Line) → AreLines lines → SendsEach ws lines
sends_each ws lines are =
    let rounds = flat_map (round ws lines) (range_with_len 0 (greatest_weight ws lines)) in
    record {
      size = cycle_length ws lines;
      dsi = omega (arith, count_one is_dsi Dsi rounds refl, no_dsi ws lines 0 (greatest_weight ws lines));
      diis = λ j is. count_none (is_dii j) Dsi rounds refl ∙ each_dii ws lines j (group_listed lines are j is) 0 (greatest_weight ws lines);
      rounds = λ j r is h. dii_of_round ws lines j r (group_listed lines are j is);
      blocks = λ line b here l.
          count_none (is_block line.0 b) Dsi rounds refl
          ∙ in_rounds ws lines line here.0 b 0 (greatest_weight ws lines) are.rising here.1 here.2 l
          ∙ ap (λ (x : Line). hits (weight ws x.0) 0 (greatest_weight ws lines)) (sym here.2)
          ∙ each_weight ws lines here.0 line here.1
          ∙ ap (λ (x : Line). weight ws x.0) here.2;
      only = each_of_lines ws lines;
    }

pub round_more : (ws : List ℕ) (r : ℕ) (lines : List Line) (i items next : ℕ) (d : Line) → i < length lines → items ≡ length (diis_of lines) + sum_by (λ l. length (blocks_in_round ws r l)) (take i lines) → next ≡ length (blocks_in_round ws r (get_or lines i d))
    → items + next ≡ length (diis_of lines) + sum_by (λ l. length (blocks_in_round ws r l)) (take (i + 1) lines)
round_more ws r lines i items next d h e n = omega (arith, e, n, sum_by_more (λ (l : Line). length (blocks_in_round ws r l)) lines i d h)

-- ---- the loop over the lines

pub products : (a b c d : ℕ) → a ≤ b → c ≤ d → a * c ≤ b * d
products zero b c d h l = omega arith
products (suc a) zero c d h l = absurd (omega (arith, h))
products (suc a) (suc b) c d h l = omega (arith, products a b c d (omega (arith, h)) l, spread a 1 c, spread b 1 d, l)

few_each : (ws : List ℕ) (lines : List Line) → AreWeights ws → AreLines lines → All (λ l. weight ws l.0 * l.1 ≤ 8 * 65536) lines
few_each ws lines w are k d q =
    products (weight ws (get_or lines k d).0) 8 (get_or lines k d).1 65536 (known_weight ws (get_or lines k d).0 w).1 (are.blocks k d q)

weighed_within : (ws : List ℕ) (lines : List Line) (i : ℕ) → AreWeights ws → AreLines lines → sum_by (λ l. weight ws l.0 * l.1) (take i lines) ≤ 2224 * 524288
weighed_within ws lines i w are =
    let f : Line → ℕ = λ l. weight ws l.0 * l.1 in
    omega (arith, sum_by-le f 524288 lines (few_each ws lines w are), few_lines lines are, sum_by-take-le f lines i)

pub items_fit : (ws : List ℕ) (lines : List Line) (i items next : ℕ) (d : Line) → AreWeights ws → AreLines lines → i < length lines → items ≡ 1 + sum_by (λ l. weight ws l.0 * l.1) (take i lines)
    → next ≡ weight ws (get_or lines i d).0 * (get_or lines i d).1 → items + next < 2 ^ 64
items_fit ws lines i items next d w are h e n =
    omega (arith, e, n, weighed_within ws lines (i + 1) w are, sum_by_more (λ (l : Line). weight ws l.0 * l.1) lines i d h)

pub items_more : (ws : List ℕ) (lines : List Line) (i items next : ℕ) (d : Line) → i < length lines → items ≡ 1 + sum_by (λ l. weight ws l.0 * l.1) (take i lines)
    → next ≡ weight ws (get_or lines i d).0 * (get_or lines i d).1 → items + next ≡ 1 + sum_by (λ l. weight ws l.0 * l.1) (take (i + 1) lines)
items_more ws lines i items next d h e n =
    omega (arith, e, n, sum_by_more (λ (l : Line). weight ws l.0 * l.1) lines i d h)

pub rounds_more : (ws : List ℕ) (lines : List Line) (i rounds next : ℕ) (d : Line) → i < length lines → rounds ≡ greatest_weight ws (take i lines) → next ≡ weight ws (get_or lines i d).0
    → max rounds next ≡ greatest_weight ws (take (i + 1) lines)
rounds_more ws lines i rounds next d h e n =
    ap (λ x. max x next) e ∙ ap (λ x. max (greatest_weight ws (take i lines)) x) n ∙ sym (fold_more (λ r (line : Line). max r (weight ws line.0)) 0 lines i d h)

pub diis_fit : (ws : List ℕ) (lines : List Line) → AreWeights ws → AreLines lines → greatest_weight ws lines * length (diis_of lines) ≤ 128
diis_fit ws lines w are = products (greatest_weight ws lines) 8 (length (diis_of lines)) 16 (most_rounds ws lines w are) (few_diis lines)

pub all_fit : (ws : List ℕ) (lines : List Line) (i items rounds diis : ℕ) → AreWeights ws → AreLines lines → length lines ≤ i → items ≡ 1 + sum_by (λ l. weight ws l.0 * l.1) (take i lines) → rounds ≡ greatest_weight ws (take i lines)
    → diis ≡ length (diis_of lines) → (rounds * diis < 2 ^ 64) × (items + rounds * diis < 2 ^ 64)
all_fit ws lines i items rounds diis w are h e r d =
    let all : rounds ≡ greatest_weight ws lines = r ∙ ap (greatest_weight ws) (take_all i lines h) in
    let product : rounds * diis ≡ greatest_weight ws lines * length (diis_of lines) = cc in
    let few = diis_fit ws lines w are in
    (omega (arith, product, few), omega (arith, e, product, few, weighed_within ws lines i w are))

pub all_items : (ws : List ℕ) (lines : List Line) (i items rounds diis : ℕ) → length lines ≤ i → items ≡ 1 + sum_by (λ l. weight ws l.0 * l.1) (take i lines) → rounds ≡ greatest_weight ws (take i lines)
    → diis ≡ length (diis_of lines) → items + rounds * diis ≡ length (cycle_of ws lines)
all_items ws lines i items rounds diis h e r d =
    let all : rounds ≡ greatest_weight ws lines = r ∙ ap (greatest_weight ws) (take_all i lines h) in
    let product : rounds * diis ≡ greatest_weight ws lines * length (diis_of lines) = cc in
    omega (arith, e, product, cycle_length ws lines, ap (sum_by (λ (l : Line). weight ws l.0 * l.1)) (take_all i lines h))
