-- What is written of one candidate more, and of several.
use Rattle.std.proofs.Common.{◌≡◌, ℕ, zero, suc, ◌+◌, ◌<◌, ◌≤◌, List, [], ◌∷◌, ◌++◌, length, map, take, drop, get_or, refl, sym, ap, ap₂, ◌∙◌, arith, append-nil, append_assoc, length-append}
use Rattle.std.specs.List.{flat_map}
use Rattle.std.proofs.lemmas.List.{map-append, take-append-le, take-append-drop, take_all, map_more}
use Rattle.std.proofs.lemmas.List.Folds.{flat_map-map}
use Rattle.std.proofs.lemmas.Grind.{flat_map-append}
use Rattle.oc_bytes.specs.Outcome.{cap_at_u64}
use Rattle.path_tree.specs.Paths.{PathNames}
use Rattle.path_resolver.specs.Resolving.{Held, answer_of}
use Rattle.path_resolver.specs.declared.answer.Answer.{Answer}
use Rattle.tuner_core.specs.Heard.{as_heard}
use Rattle.tuner_core.specs.LookBack.{answer_after, held_after}
use Rattle.watch_desk.specs.Notices.{notices}
use Rattle.watch_desk.specs.Parts.{HeldStays}
use Rattle.watch_desk.specs.Telling.{Told, told_at, told_upto, told_in, answers_after, AreUpToDate, ShotsAreNeededAtChanges}
use Rattle.watch_desk.specs.Watching.{answer_on, last_shot}
use Rattle.watch_desk.specs.declared.notice.Notice.{Notice}
use Rattle.watch_desk.proofs.CallerLemmas.{told_more}
use Rattle.shell_streams.specs.Cuts.{Bytes}
use Rattle.receiver_commands.specs.Watch.{notice_line, told_line, watch_text}
use Rattle.receiver_commands.specs.Inner.Watching.{lines_after, lines_behind}

-- ---- the lines of what was told stay

told_same : (paths : List PathNames) (cs ds : List Bytes) (k : ℕ) (ns : List Notice) → k ≤ length cs
    → flat_map (told_line paths (cs ++ ds)) (told_at k ns) ≡ flat_map (told_line paths cs) (told_at k ns)
told_same paths cs ds k ns h =
    let as_told : Notice → Told = λ n. record { mark = k; notice = n } in
    flat_map-map (told_line paths (cs ++ ds)) as_told ns
    ∙ ap (λ (heard : List Bytes). flat_map (λ n. notice_line paths (cap_at_u64 k) (answer_after heard) n) ns) (take-append-le k cs ds h)
    ∙ sym (flat_map-map (told_line paths cs) as_told ns)

all_same : (paths prefixes : List PathNames) (cs ds : List Bytes) (answers : ℕ → PathNames → Answer) (k : ℕ) → k ≤ length cs
    → flat_map (told_line paths (cs ++ ds)) (told_upto paths prefixes answers k) ≡ flat_map (told_line paths cs) (told_upto paths prefixes answers k)
all_same paths prefixes cs ds answers zero h = refl
all_same paths prefixes cs ds answers (suc k) h =
    let ns : List Notice = notices prefixes paths (answers k) (answers (suc k)) in
    flat_map-append (told_line paths (cs ++ ds)) (told_upto paths prefixes answers k) (told_at (suc k) ns)
    ∙ ap₂ (λ (a b : Bytes). a ++ b) (all_same paths prefixes cs ds answers k (omega (arith, h))) (told_same paths cs ds (suc k) ns h)
    ∙ sym (flat_map-append (told_line paths cs) (told_upto paths prefixes answers k) (told_at (suc k) ns))

-- ---- one candidate more

lines_at : (paths : List PathNames) (longer : List Bytes) (k : ℕ) (ns : List Notice) → k ≡ length longer
    → flat_map (told_line paths longer) (told_at k ns) ≡ flat_map (notice_line paths (cap_at_u64 (length longer)) (answer_after longer)) ns
lines_at paths longer k ns e =
    let as_told : Notice → Told = λ n. record { mark = k; notice = n } in
    flat_map-map (told_line paths longer) as_told ns
    ∙ ap (λ (heard : List Bytes). flat_map (λ n. notice_line paths (cap_at_u64 k) (answer_after heard) n) ns) (take_all k longer (omega (arith, e)))
    ∙ ap (λ (m : ℕ). flat_map (λ n. notice_line paths (cap_at_u64 m) (answer_after longer) n) ns) e

pub text_more : (paths prefixes : List PathNames) (cs : List Bytes) (c : Bytes) → watch_text paths prefixes (cs ++ c ∷ []) ≡ watch_text paths prefixes cs ++ lines_after paths prefixes cs c
text_more paths prefixes cs c =
    let longer : List Bytes = cs ++ c ∷ [] in
    let ns : List Notice = notices prefixes paths (answer_after cs) (answer_after longer) in
    let size : suc (length cs) ≡ length longer = omega (arith, length-append cs (c ∷ [])) in
    ap (flat_map (told_line paths longer)) (told_more paths prefixes cs c)
    ∙ flat_map-append (told_line paths longer) (told_in paths prefixes cs) (told_at (suc (length cs)) ns)
    ∙ ap₂ (λ (a b : Bytes). a ++ b) (all_same paths prefixes cs (c ∷ []) (answers_after cs) (length cs) (omega arith)) (lines_at paths longer (suc (length cs)) ns size)

-- ---- several

pub behind-append : (paths prefixes : List PathNames) (before xs ys : List Bytes)
    → lines_behind paths prefixes before (xs ++ ys) ≡ lines_behind paths prefixes before xs ++ lines_behind paths prefixes (before ++ xs) ys
behind-append paths prefixes before [] ys = ap (λ (bs : List Bytes). lines_behind paths prefixes bs ys) (sym (append-nil before))
behind-append paths prefixes before (x ∷ xs) ys =
    ap (λ (t : Bytes). lines_after paths prefixes before x ++ t) (behind-append paths prefixes (before ++ x ∷ []) xs ys)
    ∙ sym (append_assoc (lines_after paths prefixes before x) (lines_behind paths prefixes (before ++ x ∷ []) xs) (lines_behind paths prefixes ((before ++ x ∷ []) ++ xs) ys))
    ∙ ap (λ (bs : List Bytes). (lines_after paths prefixes before x ++ lines_behind paths prefixes (before ++ x ∷ []) xs) ++ lines_behind paths prefixes bs ys) (append_assoc before (x ∷ []) xs)

pub text_behind : (paths prefixes : List PathNames) (before cs : List Bytes) → watch_text paths prefixes before ++ lines_behind paths prefixes before cs ≡ watch_text paths prefixes (before ++ cs)
text_behind paths prefixes before [] = append-nil (watch_text paths prefixes before) ∙ ap (watch_text paths prefixes) (sym (append-nil before))
text_behind paths prefixes before (c ∷ cs) =
    sym (append_assoc (watch_text paths prefixes before) (lines_after paths prefixes before c) (lines_behind paths prefixes (before ++ c ∷ []) cs))
    ∙ ap (λ (t : Bytes). t ++ lines_behind paths prefixes (before ++ c ∷ []) cs) (sym (text_more paths prefixes before c))
    ∙ text_behind paths prefixes (before ++ c ∷ []) cs
    ∙ ap (watch_text paths prefixes) (append_assoc before (c ∷ []) cs)

-- the next of several
module _ {X : Type 0} (f : X → Bytes) (before : List Bytes) (xs : List X) (i : ℕ) (x : X) (bytes : Bytes) (within : i < length xs) (is : x ≡ get_or xs i x) (same : bytes ≡ f x) where
  one : map f (take i xs) ++ bytes ∷ [] ≡ map f (take (i + 1) xs)
  one = ap (λ (b : Bytes). map f (take i xs) ++ b ∷ []) (same ∙ ap f is) ∙ sym (map_more f xs i x within)

  pub heard_next : (before ++ map f (take i xs)) ++ bytes ∷ [] ≡ before ++ map f (take (i + 1) xs)
  heard_next = append_assoc before (map f (take i xs)) (bytes ∷ []) ∙ ap (λ (bs : List Bytes). before ++ bs) one

  pub lines_next : (paths prefixes : List PathNames)
      → lines_behind paths prefixes before (map f (take i xs)) ++ lines_after paths prefixes (before ++ map f (take i xs)) bytes ≡ lines_behind paths prefixes before (map f (take (i + 1) xs))
  lines_next paths prefixes =
      ap (λ (t : Bytes). lines_behind paths prefixes before (map f (take i xs)) ++ t) (sym (append-nil (lines_after paths prefixes (before ++ map f (take i xs)) bytes)))
      ∙ sym (behind-append paths prefixes before (map f (take i xs)) (bytes ∷ []))
      ∙ ap (lines_behind paths prefixes before) one

-- the first of them, and the others
pub lines_split : {X : Type 0} (f : X → Bytes) (paths prefixes : List PathNames) (before : List Bytes) (xs : List X) (i : ℕ)
    → lines_behind paths prefixes before (map f (take i xs)) ++ lines_behind paths prefixes (before ++ map f (take i xs)) (map f (drop i xs)) ≡ lines_behind paths prefixes before (map f xs)
lines_split {X} f paths prefixes before xs i =
    sym (behind-append paths prefixes before (map f (take i xs)) (map f (drop i xs)))
    ∙ ap (lines_behind paths prefixes before) (sym (map-append f (take i xs) (drop i xs)) ∙ ap (map f) (take-append-drop i xs))

-- ---- by a shot, or without one

no_more : {A : Type 0} (xs ys : List A) → xs ≡ xs ++ ys → ys ≡ []
no_more {A} xs ys e = none ys (omega (arith, ap length e, length-append xs ys))
  where
    none : (zs : List A) → length zs ≡ 0 → zs ≡ []
    none [] h = refl
    none (z ∷ zs) h = absurd (omega (arith, h))

none_at : (k : ℕ) (ns : List Notice) → told_at k ns ≡ [] → ns ≡ []
none_at k [] e = refl
none_at k (n ∷ ns) e = absurd (cc)

-- a candidate that changes nothing is told of nobody
pub lines_none : ShotsAreNeededAtChanges → (paths prefixes : List PathNames) (cs : List Bytes) (c : Bytes) → HeldStays cs c → lines_after paths prefixes cs c ≡ []
lines_none laws paths prefixes cs c stays =
    let longer : List Bytes = cs ++ c ∷ [] in
    let none = no_more (told_in paths prefixes cs) _ (sym (laws.skipped paths prefixes cs c stays) ∙ told_more paths prefixes cs c) in
    ap (flat_map (notice_line paths (cap_at_u64 (length longer)) (answer_after longer))) (none_at (suc (length cs)) (notices prefixes paths (answer_after cs) (answer_after longer)) none)

-- what is told of a shot, by a desk with these prefixes and paths
told_as : (prefixes paths own_prefixes own_paths : List PathNames) (shots : List Held) (held other : Held) (ns : List Notice) → ns ≡ notices own_prefixes own_paths (answer_on (last_shot shots)) (answer_of other)
    → own_prefixes ≡ prefixes → own_paths ≡ paths → other ≡ held → ns ≡ notices prefixes paths (answer_on (last_shot shots)) (answer_of held)
told_as prefixes paths own_prefixes own_paths shots held other ns told e f h =
    told ∙ ap (λ (ps : List PathNames). notices ps own_paths (answer_on (last_shot shots)) (answer_of other)) e
    ∙ ap (λ (ps : List PathNames). notices prefixes ps (answer_on (last_shot shots)) (answer_of other)) f
    ∙ ap (λ (x : Held). notices prefixes paths (answer_on (last_shot shots)) (answer_of x)) h

-- the lines of the notices of a shot that was taken after it
pub lines_shown : (paths prefixes lent : List PathNames) (shots : List Held) (cs : List Bytes) (c : Bytes) (own_prefixes own_paths : List PathNames) (ns : List Notice) (held other : Held) (mark : ℕ) → AreUpToDate shots cs → lent ≡ paths
    → mark ≡ cap_at_u64 (length (cs ++ c ∷ [])) → held ≡ held_after (map as_heard (cs ++ c ∷ [])) → ns ≡ notices own_prefixes own_paths (answer_on (last_shot shots)) (answer_of other) → own_prefixes ≡ prefixes → own_paths ≡ paths → other ≡ held
    → flat_map (notice_line lent mark (answer_of held)) ns ≡ lines_after paths prefixes cs c
lines_shown paths prefixes lent shots cs c own_prefixes own_paths ns held other mark up_to_date lent_is mark_is held_is told e f h =
    let longer : List Bytes = cs ++ c ∷ [] in
    let before : answer_on (last_shot shots) ≡ answer_after cs = λ i p. up_to_date p i in
    ap (λ (ps : List PathNames). flat_map (notice_line ps mark (answer_of held)) ns) lent_is
    ∙ ap (λ (m : ℕ). flat_map (notice_line paths m (answer_of held)) ns) mark_is
    ∙ ap (flat_map (notice_line paths (cap_at_u64 (length longer)) (answer_of held))) (told_as prefixes paths own_prefixes own_paths shots held other ns told e f h)
    ∙ ap (λ (h : Held). flat_map (notice_line paths (cap_at_u64 (length longer)) (answer_of h)) (notices prefixes paths (answer_on (last_shot shots)) (answer_of h))) held_is
    ∙ ap (λ (was : PathNames → Answer). flat_map (notice_line paths (cap_at_u64 (length longer)) (answer_after longer)) (notices prefixes paths was (answer_after longer))) before
