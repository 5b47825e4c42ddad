-- The lines of modules, by their ids.
use Rattle.std.proofs.Common.{◌≡◌, ℕ, zero, suc, ◌+◌, ◌<◌, ◌≤◌, ◌⊎◌, inl, inr, ◌==◌, Bool, true, false, cond, List, [], ◌∷◌, ◌++◌, length, refl, sym, ap, ◌∙◌, arith, add-one, append-nil, append_assoc}
use Rattle.std.specs.List.{filter, flat_map}
use Rattle.std.proofs.lemmas.Bool.{cases_lt, eq-eqb, ne_eqb}
use Rattle.std.proofs.lemmas.List.Concat.{flat_map-cons}
use Rattle.std.proofs.lemmas.List.Elements.{filter-append}
use Rattle.std.proofs.lemmas.Grind.{flat_map-append}
use Rattle.std.specs.Prelude.{codes}
use Rattle.shell_words.specs.Texts.{line}
use Rattle.path_tree.specs.Paths.{Bytes}
use Rattle.module_cache.specs.Held.{TunedState}
use Rattle.module_cache.specs.declared.stored.Line.{Line}
use Rattle.reception_report.specs.Telling.{lines_below, lines_of, module_line, dii_line, diis_text}
use Rattle.reception_report.specs.Inner.Telling.{module_if, modules_of}

-- none is of an id below 0
pub below_none : (xs : List Line) → flat_map module_line (lines_below 0 xs) ≡ []
unfolding lines_below
below_none xs = refl

-- those of lower ids are the front of all
pub below_rest : (xs : List Line) (i n : ℕ) → i ≤ n → (rest : Bytes) × (flat_map module_line (lines_below n xs) ≡ flat_map module_line (lines_below i xs) ++ rest)
unfolding lines_below
below_rest xs i zero h =
    let e : i ≡ 0 = omega (arith, h) in
    ([], ap (λ n. flat_map module_line (lines_below n xs)) (sym e) ∙ sym (append-nil (flat_map module_line (lines_below i xs))))
below_rest xs i (suc n) h = by (cases_lt n i) (below_rest xs i n)
  where
    by : (n < i) ⊎ (i ≤ n) → (i ≤ n → (rest : Bytes) × (flat_map module_line (lines_below n xs) ≡ flat_map module_line (lines_below i xs) ++ rest))
        → (rest : Bytes) × (flat_map module_line (lines_below (suc n) xs) ≡ flat_map module_line (lines_below i xs) ++ rest)
    by (inl above) before =
        let e : i ≡ suc n = omega (arith, h, above) in
        ([], ap (λ m. flat_map module_line (lines_below m xs)) (sym e) ∙ sym (append-nil (flat_map module_line (lines_below i xs))))
    by (inr within) before =
        let front = before within in
        let more = flat_map module_line (filter (λ x. x.line.id == n) xs) in (
          front.0 ++ more,
          flat_map-append module_line (lines_below n xs) (filter (λ x. x.line.id == n) xs) ∙ ap (λ bs. bs ++ more) front.1
              ∙ append_assoc (flat_map module_line (lines_below i xs)) front.0 more,
        )

-- those of one id more
pub below_next : (id : ℕ) (xs : List Line) → flat_map module_line (lines_below id xs) ++ flat_map module_line (filter (λ x. x.line.id == id) xs) ≡ flat_map module_line (lines_below (id + 1) xs)
unfolding lines_below
below_next id xs = sym (ap (λ n. flat_map module_line (lines_below n xs)) (add-one id) ∙ flat_map-append module_line (lines_below id xs) (filter (λ x. x.line.id == id) xs))

-- those of one id, one module after another
pub rows_of : (id : ℕ) (xs : List Line) → flat_map module_line (filter (λ x. x.line.id == id) xs) ≡ flat_map (module_if id) xs
rows_of id [] = refl
rows_of id (x ∷ xs) = go (x.line.id == id) (rows_of id xs)
  where
    go : (b : Bool) → flat_map module_line (filter (λ y. y.line.id == id) xs) ≡ flat_map (module_if id) xs
        → flat_map module_line (cond b (x ∷ filter (λ y. y.line.id == id) xs) (filter (λ y. y.line.id == id) xs)) ≡ cond b (module_line x) [] ++ flat_map (module_if id) xs
    go true e = flat_map-cons module_line x (filter (λ y. y.line.id == id) xs) ∙ ap (λ bs. module_line x ++ bs) e
    go false e = e

-- and one DII after another
pub rows_in : (id : ℕ) (ts : List TunedState) → flat_map module_line (filter (λ x. x.line.id == id) (lines_of ts)) ≡ flat_map (modules_of id) ts
rows_in id [] = refl
rows_in id (t ∷ ts) =
    ap (λ (xs : List Line). flat_map module_line (filter (λ x. x.line.id == id) xs)) (flat_map-cons (λ (u : TunedState). u.lines) t ts)
    ∙ ap (flat_map module_line) (filter-append (λ (x : Line). x.line.id == id) t.lines (lines_of ts))
    ∙ flat_map-append module_line (filter (λ x. x.line.id == id) t.lines) (filter (λ x. x.line.id == id) (lines_of ts))
    ∙ ap (λ bs. modules_of id t ++ bs) (rows_in id ts)
    ∙ sym (flat_map-cons (modules_of id) t ts)

-- one module
pub row_here : (id : ℕ) (x : Line) → x.line.id ≡ id → module_line x ≡ module_if id x
row_here id x e = ap (λ (b : Bool). cond b (module_line x) []) (sym (eq-eqb x.line.id id e))

pub row_other : (id : ℕ) (x : Line) → (x.line.id ≡ id → ⊥) → [] ≡ module_if id x
row_other id x e = ap (λ (b : Bool). cond b (module_line x) []) (sym (ne_eqb x.line.id id e))

-- the held DIIs, where there are any
pub diis_some : (ts : List TunedState) → false ≡ (length ts == 0) → flat_map dii_line ts ≡ diis_text ts
diis_some [] h = absurd (cc)
diis_some (t ∷ ts) h = refl

pub diis_none : (ts : List TunedState) → true ≡ (length ts == 0) → line (codes "dii none") ≡ diis_text ts
diis_none [] e = refl
diis_none (t ∷ ts) e = let f : (length (t ∷ ts) == 0) ≡ true = sym e in absurd (grind (arith, f))
