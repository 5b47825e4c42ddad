-- Text in parts, one for each item of a list.
use Rattle.std.proofs.Common.{◌≡◌, ℕ, zero, suc, arith, ◌+◌, ◌<◌, ◌≤◌, List, [], ◌∷◌, ◌++◌, get_or, length, take, drop, Result, Ok, Err, refl, ◌∙◌, sym, ap, append-nil, append_assoc}
use Rattle.std.proofs.lemmas.List.{take_all, take-append-drop, take_more, flat_map_more}
use Rattle.std.proofs.lemmas.Grind.{flat_map-append}
use Rattle.std.specs.List.{flat_map, fold}
use Rattle.std.specs.Prelude.{IfOk}
use Rattle.std.specs.Fmt.{decimal}
use Rattle.shell_words.specs.Texts.{line}
use Rattle.reception_report.specs.Telling.{with_field}
use Rattle.path_tree.specs.Paths.{Bytes}
use Rattle.shell_streams.specs.Sending.{OutputState, HasPut, Puts}
use Rattle.shell_streams.specs.declared.output.OutputFault.{OutputFault}
use Rattle.shell_streams.proofs.CallerLemmas.{puts_nothing, puts_then, puts_stop, puts_ok, puts_as}

parts_more : {X : Type 0} (f : X → Bytes) (xs : List X) (i : ℕ) (x : X) → i < length xs → x ≡ get_or xs i x → flat_map f (take i xs) ++ f x ≡ flat_map f (take (i + 1) xs)
parts_more f xs i x h e =
    flat_map_more f [] (take i xs) x ∙ ap (λ y. flat_map f (take i xs ++ y ∷ [])) e ∙ ap (flat_map f) (sym (take_more xs i x h))

-- the first parts, and the others
parts_rest : {X : Type 0} (f : X → Bytes) (xs : List X) (i : ℕ) → flat_map f (take i xs) ++ flat_map f (drop i xs) ≡ flat_map f xs
parts_rest f xs i = sym (ap (flat_map f) (sym (take-append-drop i xs)) ∙ flat_map-append f (take i xs) (drop i xs))

pub no_parts : {X : Type 0} (f : X → Bytes) (xs : List X) (o : OutputState) → HasPut o o (flat_map f (take 0 xs))
no_parts f xs o = puts_nothing tt o

-- one part more was put, or a fault stopped that
pub part_put : {X T : Type 0} {r : Result T OutputFault} (f : X → Bytes) (xs : List X) (i : ℕ) (x : X) (a b c : OutputState) → i < length xs → x ≡ get_or xs i x
    → HasPut a b (flat_map f (take i xs)) → Puts r b c (f x) → Puts r a c (flat_map f (take (i + 1) xs))
part_put f xs i x a b c h e before here = puts_as (parts_more f xs i x h e) (puts_then before here)

pub part_stops : {X T U : Type 0} {fault : OutputFault} (f : X → Bytes) (xs : List X) (i : ℕ) (x : X) (a b c : OutputState) → i < length xs → x ≡ get_or xs i x
    → HasPut a b (flat_map f (take i xs)) → Puts {T = T} (Err fault) b c (f x) → Puts {T = U} (Err fault) a c (flat_map f xs)
part_stops f xs i x a b c h e before here = puts_as (parts_rest f xs (i + 1)) (puts_stop (flat_map f (drop (i + 1) xs)) (part_put f xs i x a b c h e before here))

-- all parts were put
pub all_parts : {X T : Type 0} (y : T) (f : X → Bytes) (xs : List X) (i : ℕ) (a b : OutputState) → length xs ≤ i → HasPut a b (flat_map f (take i xs)) → Puts (Ok y) a b (flat_map f xs)
all_parts y f xs i a b h before = puts_ok y (puts_as (ap (flat_map f) (take_all i xs h)) before)

-- ---- text that is added to

pub text_none : {X : Type 0} (f : X → Bytes) (xs : List X) (text : Bytes) → text ≡ text ++ flat_map f (take 0 xs)
text_none f xs text = sym (append-nil text)

pub text_more : {X : Type 0} (f : X → Bytes) (xs : List X) (i : ℕ) (x : X) (start old new : Bytes) → i < length xs → x ≡ get_or xs i x → old ≡ start ++ flat_map f (take i xs) → new ≡ old ++ f x
    → new ≡ start ++ flat_map f (take (i + 1) xs)
text_more f xs i x start old new h e so_far here =
    here ∙ ap (λ t. t ++ f x) so_far ∙ append_assoc start (flat_map f (take i xs)) (f x) ∙ ap (λ t. start ++ t) (parts_more f xs i x h e)

pub text_all : {X : Type 0} (f : X → Bytes) (xs : List X) (i : ℕ) (start text : Bytes) → length xs ≤ i → text ≡ start ++ flat_map f (take i xs) → text ≡ start ++ flat_map f xs
text_all {X} f xs i start text h e = e ∙ ap (λ (ys : List X). start ++ flat_map f ys) (take_all i xs h)

pub text_next : (old new before more there : Bytes) → new ≡ old ++ more → more ≡ there → old ≡ before → new ≡ before ++ there
text_next old new before more there e same so_far = e ∙ ap (λ t. old ++ t) same ∙ ap (λ t. t ++ there) so_far

pub field_next : (old new before name : Bytes) (n m : ℕ) → new ≡ old ++ name ++ 32 ∷ decimal n → n ≡ m → old ≡ before → new ≡ with_field before name m
unfolding with_field
field_next old new before name n m e same so_far = e ∙ ap (λ k. old ++ name ++ 32 ∷ decimal k) same ∙ ap (λ t. t ++ name ++ 32 ∷ decimal m) so_far

pub get_any : {X : Type 0} (xs : List X) (i : ℕ) (d e : X) → i < length xs → get_or xs i d ≡ get_or xs i e
get_any [] i d e h = absurd (omega arith)
get_any (x ∷ xs) zero d e h = refl
get_any (x ∷ xs) (suc i) d e h = get_any xs i d e (omega arith)

-- ---- names with their numbers

fold_more : {X : Type 0} (f : Bytes → X → Bytes) (start : Bytes) (xs : List X) (x : X) → f (fold f start xs) x ≡ fold f start (xs ++ x ∷ [])
fold_more f start [] x = refl
fold_more f start (y ∷ ys) x = fold_more f (f start y) ys x

-- one name more
pub field_more : {X : Type 0} (xs : List X) (name : X → Bytes) (number : X → ℕ) (start : Bytes) (i : ℕ) (d : X) (old new : Bytes) → i < length xs
    → old ≡ fold (λ t x. with_field t (name x) (number x)) start (take i xs) → new ≡ old ++ name (get_or xs i d) ++ 32 ∷ decimal (number (get_or xs i d))
    → new ≡ fold (λ t x. with_field t (name x) (number x)) start (take (i + 1) xs)
field_more {X} xs name number start i d old new h so_far here =
    let f : Bytes → X → Bytes = λ t x. with_field t (name x) (number x) in
    field_next old new (fold f start (take i xs)) (name (get_or xs i d)) (number (get_or xs i d)) (number (get_or xs i d)) here refl so_far
    ∙ fold_more f start (take i xs) (get_or xs i d) ∙ ap (fold f start) (sym (take_more xs i d h))

-- a line after which nothing follows
pub line_alone : {T E : Type 0} (f : T → Bytes) (r : Result T E) (a : Bytes) → IfOk r (λ x. f x ≡ line (a ++ [])) → IfOk r (λ x. f x ≡ line a)
line_alone f (Ok x) a e = e ∙ ap line (append-nil a)
line_alone f (Err e) a h = tt

-- a line whose end has two parts
pub line_of_parts : {T E : Type 0} (f : T → Bytes) (r : Result T E) (a b c : Bytes) → IfOk r (λ x. f x ≡ line (a ++ (b ++ c))) → IfOk r (λ x. f x ≡ line (a ++ b ++ c))
line_of_parts f (Ok x) a b c e = e ∙ ap line (sym (append_assoc a b c))
line_of_parts f (Err e) a b c h = tt
