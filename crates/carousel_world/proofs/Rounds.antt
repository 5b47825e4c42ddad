-- What is heard of a section is in what is heard of all, and a block fits where its own module is listed.
use Rattle.std.proofs.Common.{◌≡◌, ℕ, zero, suc, ◌*◌, ◌<◌, Bool, true, min, eqb, ltb, List, [], ◌∷◌, map, length, drop, get_or, refl, ap, sym, ◌∙◌, arith, length-drop}
use Rattle.std.proofs.lemmas.Bool.{eq-eqb, lt-ltb, and_from, or_left, or_right}
use Rattle.std.proofs.lemmas.List.{length-take, length-map, get_or-map}
use Rattle.std.specs.List.{Contains, list_any}
use Rattle.carousel_profile.specs.declared.TheConstants.{BLOCK_SIZE}
use Rattle.path_tree.specs.Paths.{Bytes}
use Rattle.ddb_block.specs.Blocks as ddb
use Rattle.dsi_dii.specs.Controls.{DiiFields}
use Rattle.tuner_core.specs.Heard.{Heard, as_heard}
use Rattle.tuner_core.specs.LookBack.{fits}
use Rattle.carousel_world.proofs.Modules.{line_of}

-- ---- a test that holds of an element

any_there : {X : Type 0} (test : X → Bool) (xs : List X) (k : ℕ) (d : X) → k < length xs → test (get_or xs k d) ≡ true → list_any test xs ≡ true
any_there test [] k d lt e = absurd (omega (arith, lt))
any_there test (x ∷ xs) zero d lt e = or_left (test x) (list_any test xs) e
any_there test (x ∷ xs) (suc k) d lt e = or_right (test x) (list_any test xs) (any_there test xs k d (omega (arith, lt)) e)

pub any_heard : (test : Heard → Bool) (candidates : List Bytes) (c : Bytes) → Contains candidates c → test (as_heard c) ≡ true → list_any test (map as_heard candidates) ≡ true
any_heard test candidates c has e =
    any_there test (map as_heard candidates) has.0 (as_heard c) (omega (arith, length-map candidates as_heard, has.1))
    (ap test (get_or-map as_heard candidates has.0 c (as_heard c) has.1 ∙ ap as_heard has.2) ∙ e)

pub contains_map : {X Y : Type 0} (f : X → Y) (xs : List X) (x : X) → Contains xs x → Contains (map f xs) (f x)
contains_map f xs x has = (has.0, omega (arith, length-map xs f, has.1), get_or-map f xs has.0 x (f x) has.1 ∙ ap f has.2)

-- ---- a block fits itself

span_is : (bytes : Bytes) (b : ℕ) → length (ddb.block_of bytes BLOCK_SIZE b) ≡ ddb.block_span_of (length bytes) BLOCK_SIZE b
span_is bytes b = length-take BLOCK_SIZE (drop (b * BLOCK_SIZE) bytes) ∙ ap (λ n. min BLOCK_SIZE n) (length-drop (b * BLOCK_SIZE) bytes)

pub fits_itself : (carousel : ℕ) (held : DiiFields) (version : ℕ → ℕ) (m : ℕ × Bytes) (b : ℕ) → held.download ≡ carousel → held.block_size ≡ BLOCK_SIZE → b < ddb.block_count_of (length m.1) BLOCK_SIZE
    → fits held (line_of version m) b (record { download = carousel; module_id = m.0; version = version m.0; number = b; bytes = ddb.block_of m.1 BLOCK_SIZE b }) ≡ true
fits_itself carousel held version m b own size lt =
    let count : ltb b (ddb.block_count_of (length m.1) held.block_size) ≡ true = ap (λ n. ltb b (ddb.block_count_of (length m.1) n)) size ∙ lt-ltb b (ddb.block_count_of (length m.1) BLOCK_SIZE) lt in
    let span : eqb (length (ddb.block_of m.1 BLOCK_SIZE b)) (ddb.block_span_of (length m.1) held.block_size b) ≡ true =
    eq-eqb (length (ddb.block_of m.1 BLOCK_SIZE b)) (ddb.block_span_of (length m.1) held.block_size b) (span_is m.1 b ∙ ap (λ n. ddb.block_span_of (length m.1) n b) (sym size)) in
    and_from _ _ (and_from _ _ (and_from _ _ (and_from _ _ (and_from _ _
    (eq-eqb carousel held.download (sym own)) (eq-eqb m.0 m.0 refl)) (eq-eqb (version m.0) (version m.0) refl)) (eq-eqb b b refl)) count) span
