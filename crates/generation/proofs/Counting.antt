-- How often each module has changed, by id, and that equal counts mean equal bytes, as equal versions fewer than 256 generations apart do.
use Rattle.std.proofs.Common.{◌≡◌, ℕ, zero, suc, ◌+◌, ◌%◌, ◌<◌, ◌≤◌, max, cond, List, [], ◌∷◌, length, get_or, Option, Some, None, refl, sym, ◌∙◌, ap, arith, inl, inr}
use Rattle.generation.proofs.Words.{same_Some, cases_Bool, cases_eq, Bytes, same_name, same_name-is, layout_at, count_of, EqualCountsMeanEqualBytes, EqualVersionsMeanEqualBytes, All, fold, range_with_len, ne_eqb, get_or_past, All-map, length-map-range_with_len, get_or-map-range_with_len, Layout, module_in, count_after, counts_after, ids_counted, count_in, one_if_changed}
use Rattle.generation.proofs.Writing.{small_count}

-- ---- how many ids are counted

not_counted : (layout : Layout) (end m : ℕ) → fold (λ end m. max end (m.0 + 1)) end layout ≤ m → (end ≤ m) × (module_in layout m ≡ None)
not_counted [] end m past = (past, refl)
not_counted (x ∷ xs) end m past =
    let later = not_counted xs (max end (x.0 + 1)) m past in
    (omega (arith, later.0), ap (λ b. cond b (Some x.1) (module_in xs m)) (ne_eqb x.0 m (λ same. omega (arith, later.0, same))) ∙ later.1)

-- ---- one generation on

pub count_step : (old new : Layout) (counts : List ℕ) (m : ℕ) → count_in (counts_after old new counts) m ≡ count_in counts m + one_if_changed (module_in old m) (module_in new m)
count_step old new counts m = grind (
  arith,
  not_counted new (length counts) m,
  get_or_past counts m 0,
  get_or_past (counts_after old new counts) m 0,
  length-map-range_with_len (count_after old new counts) 0 (ids_counted new counts),
  get_or-map-range_with_len (count_after old new counts) 0 (ids_counted new counts) m m 0,
)

pub rises_little : (before after : Option Bytes) → one_if_changed before after ≤ 1
rises_little before after = grind arith

-- counts rise by one at most
pub small_counts : (old new : Layout) (counts : List ℕ) (n : ℕ) → All (λ c. c ≤ n) counts → All (λ c. c ≤ n + 1) (counts_after old new counts)
small_counts old new counts n all = All-map (λ c. c ≤ n + 1) (count_after old new counts) (range_with_len 0 (ids_counted new counts)) (λ k d lt.
    let m = get_or (range_with_len 0 (ids_counted new counts)) k d in grind (arith, small_count counts m (n + 1), rises_little (module_in old m) (module_in new m)))

-- ---- over every list of layouts

-- where a count doesn't rise, the module was there with the same bytes
unchanged : (before : Option Bytes) (c : Bytes) → one_if_changed before (Some c) ≡ 0 → before ≡ Some c
unchanged None c e = cc
unchanged (Some b) c e = elim (cases_Bool (same_name b c)) [ inl t ↦ ap Some (same_name-is b c t) | inr f ↦ let one = rw f at e in cc ]

-- from one generation to a later one a count rises by as many at most
bounds : (ls : List Layout) (m g h : ℕ) → g ≤ h → (count_of ls g m ≤ count_of ls h m) × (count_of ls h m + g ≤ count_of ls g m + h)
bounds ls m g zero le = grind arith
bounds ls m g (suc h) le = elim (cases_eq g (suc h)) [
  | inl e ↦ rw e (omega arith, omega arith)
  | inr ne ↦ let b = bounds ls m g h (omega arith) in (omega (arith, b.0), omega (arith, b.1, rises_little (module_in (layout_at ls h) m) (module_in (layout_at ls (suc h)) m)))
]

-- and where it is the same, so are the bytes
same_bytes : (ls : List Layout) (m g h : ℕ) (c : Bytes) → g ≤ h → count_of ls g m ≡ count_of ls h m → module_in (layout_at ls h) m ≡ Some c → module_in (layout_at ls g) m ≡ Some c
same_bytes ls m g zero c le e is = grind arith
same_bytes ls m g (suc h) c le e is = elim (cases_eq g (suc h)) [
  | inl k ↦ rw k is
  | inr ne ↦
      let none : one_if_changed (module_in (layout_at ls h) m) (module_in (layout_at ls (suc h)) m) ≡ 0 = omega (arith, e, (bounds ls m g h (omega arith)).0) in
      same_bytes ls m g h c (omega arith) (omega (arith, e, none)) (unchanged (module_in (layout_at ls h) m) c (rw is at none))
]

pub equal_counts : (ls : List Layout) → EqualCountsMeanEqualBytes ls
equal_counts ls g h m b c le has_b has_c same = same_Some b c (sym has_b ∙ same_bytes ls m g h c le same has_c)

-- equal remainders of numbers fewer than 256 apart
apart : (a b : ℕ) → a ≤ b → b < a + 256 → a % 256 ≡ b % 256 → a ≡ b
apart a b p q e = omega arith

pub law_of_256 : (ls : List Layout) → EqualVersionsMeanEqualBytes ls
law_of_256 ls g h m b c le near in_range has_b has_c same =
    let k = bounds ls m g h le in
    equal_counts ls g h m b c le has_b has_c (apart _ _ k.0 (omega (arith, k.1, near, le)) same)
