-- A generated script: the names of its files, how many lines it has, their numbers, and that these lines are in their ranges and of the actors that it lists.
use Rattle.session_script.proofs.Imports.{◌≡◌, ◌++◌, ◌∷◌, [], ◌<◌, ℕ, true, refl, arith, codes, list_all, range_with_len, decimal, Bytes, PathNames, file_path, ◌+◌, ◌*◌, ◌≤◌, List, length, map, Some, sym, ap, ◌∙◌, length-append, flat_map, length-map, length-range_with_len, Task, Parts, Stage, During, After, Act, LineFields, act_of, task_line, finale_line, script_of_parts, numbers, commit_of, lines_of_editor, lines_of_feeder, lines_of_reader, finale_of, finales_of, acts_during, acts_at_end, number_lines, generated_script, All, Contains, All-nil, All-cons, All-head, All-tail, All-append, All-map, All-replicate, IsActor, IsInRange, AreActors, IsInRanges, IsMentioned, AreListed, fill_of, fates, open_of}
use Rattle.std.specs.Fmt.{digits}
use Rattle.path_tree.specs.Texts.{is_name}
use Rattle.session_script.proofs.Lists.{tested, all_in_range, in_range, range_is_distinct, all_flat}
use native.Mathlib.Nat.{mul-suc}
use Rattle.session_script.specs.Scripts as acts

-- ---- names

editors_named : list_all (λ n. is_name (codes "e" ++ decimal n)) (range_with_len 0 32) ≡ true
unfolding digits
editors_named = refl

files_named : list_all (λ n. is_name (codes "f" ++ decimal n)) (range_with_len 0 32) ≡ true
unfolding digits
files_named = refl

pub editor_is_named : (n : ℕ) → n < 32 → is_name (codes "e" ++ decimal n) ≡ true
editor_is_named n few = tested (λ n. is_name (codes "e" ++ decimal n)) 0 32 n editors_named (omega arith) (omega (arith, few))

pub file_is_named : (n : ℕ) → n < 32 → is_name (codes "f" ++ decimal n) ≡ true
file_is_named n few = tested (λ n. is_name (codes "f" ++ decimal n)) 0 32 n files_named (omega arith) (omega (arith, few))

pub path_of_file : (e k : ℕ) (folder : PathNames) (b : Bytes) → folder ≡ (codes "e" ++ decimal e) ∷ [] → b ≡ codes "f" ++ decimal k → folder ++ b ∷ [] ≡ file_path e k
unfolding file_path
path_of_file e k folder b f second = rw (f, second) refl

-- ---- how many

editor_count : (e : ℕ) → length (lines_of_editor e) ≡ 36
unfolding lines_of_editor commit_of
editor_count e = refl

reader_count : (size r : ℕ) → length (lines_of_reader size r) ≡ 64
unfolding lines_of_reader
reader_count size r = refl

finale_count : (e : ℕ) → length (finales_of e) ≡ 32
unfolding finales_of
finale_count e = refl

feeder_count : length lines_of_feeder ≡ 64
unfolding lines_of_feeder
feeder_count = refl

flat_count : (c : ℕ) (f : ℕ → List Act) → ((n : ℕ) → length (f n) ≡ c) → (ns : List ℕ) → length (flat_map f ns) ≡ c * length ns
flat_count c f h [] = omega arith
flat_count c f h (n ∷ ns) =
    length-append (f n) (flat_map f ns) ∙ (λ i. h n i + flat_count c f h ns i) ∙ swap c (c * length ns) ∙ sym (mul-suc c (length ns))
  where
    swap : (a b : ℕ) → a + b ≡ b + a
    swap a b = omega arith

pub finales_count : (k : ℕ) → length (flat_map finales_of (range_with_len 1 k)) ≡ 32 * k
finales_count k = let count = flat_count 32 finales_of finale_count (range_with_len 1 k) in let many = length-range_with_len 1 k in omega (arith, count, many)

numbers_count : (size : ℕ) → length (numbers size) ≡ size
unfolding numbers
numbers_count size = length-range_with_len 1 size

during_count : (size : ℕ) → length (acts_during size) ≡ 100 * size + 64
unfolding acts_during
during_count size = let e = flat_count 36 lines_of_editor editor_count (numbers size) in
    let r = flat_count 64 (lines_of_reader size) (reader_count size) (numbers size) in let n = numbers_count size in
    let one = length-append (flat_map lines_of_editor (numbers size)) lines_of_feeder in
    let two = length-append (flat_map lines_of_editor (numbers size) ++ lines_of_feeder) (flat_map (lines_of_reader size) (numbers size)) in
    let f = feeder_count in omega (arith, e, r, n, one, two, f)

pub task_count : (size : ℕ) (xs : List Task) → map act_of xs ≡ acts_during size → length xs ≡ 100 * size + 64
task_count size xs is = let e = during_count size in let n = length-map xs act_of in let same = ap length is in omega (arith, e, n, same)

-- ---- numbered lines

pub number_lines-append : (n m : ℕ) (stage : Stage) (acts more : List Act) → m ≡ n + length acts
    → number_lines n stage (acts ++ more) ≡ number_lines n stage acts ++ number_lines m stage more
number_lines-append n m stage [] more e = let same : n ≡ m = omega (arith, e) in ap (λ k. number_lines k stage more) same
number_lines-append n m stage (act ∷ acts) more e =
    ap (λ ls. (record { number = n; stage = stage; act = act }) ∷ ls) (number_lines-append (n + 1) m stage acts more (omega (arith, e)))

-- ---- the whole

pub script_is : (size : ℕ) (parts : Parts) (tasks : List Task) (settle : ℕ) → map act_of tasks ≡ acts_during size
    → settle ≡ length tasks + 1 → parts.editors.items ≡ numbers size → parts.readers.items ≡ numbers size → parts.before.items ≡ []
    → map (task_line During) parts.during.items ≡ number_lines 1 During (map act_of tasks) → parts.settle ≡ Some settle
    → map finale_line parts.finales.items ≡ number_lines (settle + 1) After (flat_map finales_of (numbers size))
    → script_of_parts parts ≡ generated_script size
unfolding generated_script acts_at_end
script_is size parts tasks settle t count editors readers before during settles finales =
    let long : settle ≡ length (acts_during size) + 1 = let n = length-map tasks act_of in let e = ap length t in omega (arith, n, e, count) in
    rw (editors, readers, before, during, settles, finales, t, long) refl

-- ---- ranges

module _ (size : ℕ) (most : size ≤ 16) where
  -- what is wanted of a line
  abbrev Fits : Act → Type 0
  Fits act = IsInRange act × IsMentioned (numbers size) (numbers size) act

  listed : (n : ℕ) → 1 ≤ n → n < 1 + size → Contains (numbers size) n
  unfolding numbers
  listed n low high = in_range 1 size n low high

  actor : (n : ℕ) → 1 ≤ n → n < 1 + size → IsActor n
  actor n low high = record { at_least = low; at_most = omega (arith, high, most) }

  -- ---- the lines of each actor

  commit_fits : (e j : ℕ) → 1 ≤ e → e < 1 + size → All Fits (commit_of e j)
  unfolding commit_of fill_of
  commit_fits e j low high = All-append Fits (map (fill_of e) (range_with_len (8 * j) 8)) (acts.Commit e ∷ [])
      (All-map Fits (fill_of e) (range_with_len (8 * j) 8) (all_in_range (λ k. Fits (fill_of e k)) (8 * j) 8
      (λ k _ _. ((actor e low high, omega arith, omega arith), listed e low high))))
      (All-cons Fits (acts.Commit e) [] (actor e low high, listed e low high) (All-nil Fits))

  editor_fits : (e : ℕ) → 1 ≤ e → e < 1 + size → All Fits (lines_of_editor e)
  unfolding lines_of_editor
  editor_fits e low high =
      all_flat Fits (commit_of e) (range_with_len 0 4) (all_in_range (λ j. All Fits (commit_of e j)) 0 4 (λ j _ _. commit_fits e j low high))

  feeder_fits : All Fits lines_of_feeder
  unfolding lines_of_feeder fates
  feeder_fits = let e : length fates ≡ 50 = refl in All-replicate Fits 64 (acts.Draw 256 fates) ((omega arith, omega arith, omega (arith, e)), tt)

  reader_fits : (r : ℕ) → 1 ≤ r → r < 1 + size → All Fits (lines_of_reader size r)
  unfolding lines_of_reader open_of
  reader_fits r low high = All-map Fits (open_of size r) (range_with_len 0 64)
      (all_in_range (λ j. Fits (open_of size r j)) 0 64 (λ j _ _. (actor r low high, listed r low high)))

  finales_fit : 1 ≤ size → (e : ℕ) → All Fits (finales_of e)
  unfolding finales_of finale_of
  finales_fit least e = let high : 1 < 1 + size = omega (arith, least) in All-map Fits (finale_of e) (range_with_len 0 32)
      (all_in_range (λ k. Fits (finale_of e k)) 0 32 (λ k _ _. (actor 1 (omega arith) high, listed 1 (omega arith) high)))

  of_numbers : (f : ℕ → List Act) → ((n : ℕ) → 1 ≤ n → n < 1 + size → All Fits (f n)) → All Fits (flat_map f (numbers size))
  unfolding numbers
  of_numbers f h = all_flat Fits f (range_with_len 1 size) (all_in_range (λ n. All Fits (f n)) 1 size h)

  -- ---- numbered lines

  all_numbered : (Q : Act → Type 0) → ((act : Act) → Fits act → Q act) → (stage : Stage) (n : ℕ) (done : List Act)
      → All Fits done → All (λ (l : LineFields). Q l.act) (number_lines n stage done)
  all_numbered Q h stage n [] all = All-nil (λ (l : LineFields). Q l.act)
  all_numbered Q h stage n (act ∷ done) all =
      All-cons (λ (l : LineFields). Q l.act) (record { number = n; stage = stage; act = act }) (number_lines (n + 1) stage done)
      (h act (All-head Fits act done all)) (all_numbered Q h stage (n + 1) done (All-tail Fits act done all))

  -- a property of all lines, from that of what they do
  in_lines : (Q : Act → Type 0) → ((act : Act) → Fits act → Q act) → 1 ≤ size → All (λ (l : LineFields). Q l.act) (generated_script size).lines
  unfolding generated_script acts_during acts_at_end
  in_lines Q h least =
      let feeder = All-append Fits (flat_map lines_of_editor (numbers size)) lines_of_feeder (of_numbers lines_of_editor editor_fits) feeder_fits in
      let during = All-append Fits (flat_map lines_of_editor (numbers size) ++ lines_of_feeder) (flat_map (lines_of_reader size) (numbers size))
      feeder (of_numbers (lines_of_reader size) reader_fits) in
      let end = All-cons Fits acts.Settle (flat_map finales_of (numbers size)) (tt, tt) (of_numbers finales_of (λ e _ _. finales_fit least e)) in
      All-append (λ (l : LineFields). Q l.act) (number_lines 1 During (acts_during size)) (number_lines (length (acts_during size) + 1) After (acts_at_end size))
      (all_numbered Q h During 1 (acts_during size) during) (all_numbered Q h After (length (acts_during size) + 1) (acts_at_end size) end)

  -- ---- the whole

  actors_are : AreActors (numbers size)
  unfolding numbers
  actors_are = record {
    each = all_in_range IsActor 1 size actor;
    once = range_is_distinct 1 size;
    most = let e = length-range_with_len 1 size in omega (arith, e, most);
  }

  pub generated_in_ranges : 1 ≤ size → IsInRanges (generated_script size)
  unfolding generated_script
  generated_in_ranges least = record { editors = actors_are; readers = actors_are; lines = in_lines IsInRange (λ act fits. fits.0) least }

  pub generated_listed : 1 ≤ size → AreListed (generated_script size)
  unfolding generated_script
  generated_listed least = in_lines (IsMentioned (numbers size) (numbers size)) (λ act fits. fits.1) least
