-- The open section's buffer becomes the candidate.
use Rattle.std.proofs.Common.{◌≡◌, ℕ, ◌+◌, ◌-◌, ◌<◌, ◌≤◌, min, Bool, true, false, List, [], ◌∷◌, ◌++◌, Option, Some, None, length, map, take, drop, slice_index, if◌then◌else◌, refl, sym, ◌∙◌, ap, ap₂, subst, arith, length-append, length-take}
use Rattle.std.specs.Prelude.{IsSome}
use Rattle.std.specs.List.{insert, take-map, drop-map}
use Rattle.std.specs.Option.{ForSome}
use Rattle.std.specs.declared.vec.Vec.{Vec}
use Rattle.std.specs.declared.alloc.Global.{Global}
use Rattle.std.proofs.lemmas.List.{length-map, map-append, take_all}
use Rattle.std.proofs.lemmas.List.Edits.{insert_end, insert-append_right}
use Rattle.section_stream.specs.Cuts.{Bytes}
use Rattle.section_stream.specs.Kept.{view_bytes}
use Rattle.section_stream.specs.Rules.{After, Growing, Oversize, Whole, as_grown, closes, goes_on, starts, up, with_out}
use Rattle.section_stream.specs.Steps.{kept_unless}
use Rattle.section_stream.specs.Inner.Steps.{HasDone, HasOut, IsWhole, begun_by, bytes_of, open_all, section_of}
use Rattle.section_stream.specs.declared.counts.Counts.{Counts}
use Rattle.section_stream.proofs.Completing.{more_left, more_right}
use Rattle.section_stream.proofs.Opening.{nothing_done, starts_is, whole_bounds, whole_most}
use Rattle.section_stream.proofs.Pieces.{take-pieces}

-- ---- the buffer

-- where a section is open, the buffer is its bytes
pub kept_bytes : (kept : Option Bytes) (is_open : Bool) (bytes : Bytes) → (if is_open then Some bytes else None) ≡ kept → IsSome kept → bytes ≡ bytes_of kept
kept_bytes kept true bytes view some = ap bytes_of view
kept_bytes None false bytes view some = cc
kept_bytes (Some other) false bytes view some = cc

pub grown_view : (kept : Option Bytes) (is_open : Bool) (bytes more now : Bytes) → (if is_open then Some bytes else None) ≡ kept → IsSome kept → now ≡ bytes ++ more
    → (if is_open then Some now else None) ≡ Some (bytes_of kept ++ more)
grown_view kept true bytes more now view some e = ap (λ (b : Bytes). Some b) (e ∙ ap (λ (b : Bytes). b ++ more) (ap bytes_of view))
grown_view None false bytes more now view some e = cc
grown_view (Some other) false bytes more now view some e = cc

-- the bytes that a section lacks, and no more
pub front_of_two : (n m : ℕ) (front back : Bytes) → m ≡ n - length front → take n (front ++ take m back) ≡ take n (front ++ back)
front_of_two n m front back e =
    let k : n - min n (length front) ≡ m = omega (arith, e) in
    let short : length (take m back) ≤ m = omega (arith, length-take m back) in
    take-pieces n front (take m back)
    ∙ ap (λ j. take (min n (length front)) front ++ take j (take m back)) k
    ∙ ap (λ (b : Bytes). take (min n (length front)) front ++ b) (take_all m (take m back) short)
    ∙ ap (λ j. take (min n (length front)) front ++ take j back) (sym k)
    ∙ sym (take-pieces n front back)

pub put_at : (old : List (Vec ℕ Global)) (section : Vec ℕ Global) (place : ℕ) (new : List (Vec ℕ Global)) (bytes : Bytes)
    → new ≡ insert old place section → section.items ≡ bytes → map view_bytes new ≡ insert (map view_bytes old) place bytes
put_at old section place new bytes e f =
    ap (map view_bytes) e ∙ map-append view_bytes (take place old) (section ∷ drop place old)
    ∙ ap₂ (λ (p q : List Bytes). p ++ section.items ∷ q) (sym (take-map view_bytes place old)) (sym (drop-map view_bytes place old))
    ∙ ap (λ (b : Bytes). insert (map view_bytes old) place b) f

pub inserted : (ok : Bool) (old mid new : List (Vec ℕ Global)) (place : ℕ) (section : Vec ℕ Global) → new ≡ (if ok then insert mid place section else mid) → ok ≡ true → mid ≡ old
    → new ≡ insert old place section
inserted true old mid new place section e t m = e ∙ ap (λ (xs : List (Vec ℕ Global)). insert xs place section) m
inserted false old mid new place section e t m = cc

pub length_items : (vs : List (Vec ℕ Global)) (len n : ℕ) → n ≡ len → len ≡ length vs → n ≡ length (map view_bytes vs)
length_items vs len n e k = omega (arith, e, k, length-map vs view_bytes)

-- ---- the open section, where no packets of it are missing

pub still_open : (jumped : Bool) (o : Option Bytes) (bytes : Bytes) → kept_unless jumped o ≡ Some bytes → o ≡ Some bytes
still_open true o bytes e = cc
still_open false o bytes e = e

pub whole_with : (o : Option Bytes) (bytes more : Bytes) (n : ℕ) → o ≡ Some bytes → n ≤ length (bytes ++ more) → n ≤ 4096 → IsWhole o more n
whole_with o bytes more n e within most = subst (λ x. IsWhole x more n) (sym e) (record { is_open = refl; within = within; most = most })

abbrev value_or : ℕ → Option ℕ → ℕ
value_or other None = other
value_or other (Some n) = n

pub whole_part : (o : Option Bytes) (bytes part : Bytes) (n : ℕ) → o ≡ Some bytes → as_grown (bytes ++ part) ≡ Whole n → ForSome (Some n) (λ m. IsWhole o part m)
whole_part o bytes part n e g = λ m same. subst (λ k. IsWhole o part k) (ap (value_or n) same) (whole_with o bytes part n e (whole_bounds (bytes ++ part) n g).1 (whole_most (bytes ++ part) n g))

still_whole : (jumped : Bool) (o : Option Bytes) (part : Bytes) (n : ℕ) → IsWhole (kept_unless jumped o) part n → IsWhole o part n
still_whole true o part n w = let none : false ≡ true = w.is_open in cc
still_whole false o part n w = w

pub all_still_whole : (jumped : Bool) (o : Option Bytes) (part : Bytes) (whole : Option ℕ) → ForSome whole (λ n. IsWhole (kept_unless jumped o) part n) → ForSome whole (λ n. IsWhole o part n)
all_still_whole jumped o part whole w = λ n e. still_whole jumped o part n (w n e)

same_section : (jumped : Bool) (o : Option Bytes) (part : Bytes) (whole : Option ℕ) → ForSome whole (λ n. IsWhole (kept_unless jumped o) part n)
    → section_of (bytes_of (kept_unless jumped o) ++ part) whole ≡ section_of (bytes_of o ++ part) whole
same_section false o part whole w = refl
same_section true o part None w = refl
same_section true o part (Some n) w = let none : false ≡ true = (w n refl).is_open in cc

-- ---- a packet that begins no section

pub goes_none : (kept : Option Bytes) (payload : Bytes) (c : Counts) (now : Option Bytes) (before : List Bytes) → kept ≡ None → now ≡ None
    → HasDone (goes_on kept payload c) now before before (record c { orphans = up c.orphans })
goes_none kept payload c now before k e =
    subst (λ x. HasDone (goes_on kept payload c) x before before (record c { orphans = up c.orphans })) (sym e)
    (nothing_done before None (record c { orphans = up c.orphans }) (goes_on kept payload c) (ap (λ x. goes_on x payload c) k))

pub goes_growing : (kept : Option Bytes) (bytes payload : Bytes) (c : Counts) (now : Option Bytes) (before : List Bytes) → kept ≡ Some bytes → as_grown (bytes ++ payload) ≡ Growing
    → now ≡ Some (bytes ++ payload) → HasDone (goes_on kept payload c) now before before c
goes_growing kept bytes payload c now before k g e =
    let is : goes_on (Some bytes) payload c ≡ record { opened = Some (bytes ++ payload); out = []; counts = c } = rw g refl in
    subst (λ x. HasDone (goes_on kept payload c) x before before c) (sym e)
    (nothing_done before (Some (bytes ++ payload)) c (goes_on kept payload c) (ap (λ x. goes_on x payload c) k ∙ is))

pub goes_oversize : (kept : Option Bytes) (bytes payload : Bytes) (c : Counts) (now : Option Bytes) (before : List Bytes) → kept ≡ Some bytes → as_grown (bytes ++ payload) ≡ Oversize
    → now ≡ None → HasDone (goes_on kept payload c) now before before (record c { oversize = up c.oversize })
goes_oversize kept bytes payload c now before k g e =
    let is : goes_on (Some bytes) payload c ≡ record { opened = None; out = []; counts = record c { oversize = up c.oversize } } = rw g refl in
    subst (λ x. HasDone (goes_on kept payload c) x before before (record c { oversize = up c.oversize })) (sym e)
    (nothing_done before None (record c { oversize = up c.oversize }) (goes_on kept payload c) (ap (λ x. goes_on x payload c) k ∙ is))

gives_whole : (kept : Option Bytes) (bytes payload : Bytes) (c : Counts) (n : ℕ) → kept ≡ Some bytes → as_grown (bytes ++ payload) ≡ Whole n
    → goes_on kept payload c ≡ record { opened = None; out = take n (bytes ++ payload) ∷ []; counts = c }
gives_whole kept bytes payload c n k g =
    let is : goes_on (Some bytes) payload c ≡ record { opened = None; out = take n (bytes ++ payload) ∷ []; counts = c } = rw g refl in
    ap (λ x. goes_on x payload c) k ∙ is

pub goes_whole : (o kept : Option Bytes) (bytes payload : Bytes) (c : Counts) (n place : ℕ) (now : Option Bytes) (before new : List Bytes) → o ≡ Some bytes → kept ≡ Some bytes
    → as_grown (bytes ++ payload) ≡ Whole n → place ≡ length before → new ≡ insert before place (take n (bytes_of o ++ payload)) → now ≡ None → HasDone (goes_on kept payload c) now before new c
goes_whole o kept bytes payload c n place now before new b k g at e z =
    let is = gives_whole kept bytes payload c n k g in
    record {
      opened = ap (λ (a : After). a.opened) is ∙ sym z;
      out = e ∙ ap₂ (λ i (x : Bytes). insert before i x) at (ap (λ x. take n (bytes_of x ++ payload)) b) ∙ insert_end before (take n (bytes ++ payload))
          ∙ ap (λ (out : List Bytes). before ++ out) (sym (ap (λ (a : After). a.out) is));
      counted = ap (λ (a : After). a.counts) is;
    }

pub goes_out : (kept : Option Bytes) (bytes payload : Bytes) (c : Counts) (n : ℕ) → kept ≡ Some bytes → as_grown (bytes ++ payload) ≡ Whole n → HasOut (goes_on kept payload c)
goes_out kept bytes payload c n k g =
    let some : 0 < length (take n (bytes ++ payload) ∷ []) = omega arith in
    record { some = subst (λ (a : After). 0 < length a.out) (sym (gives_whole kept bytes payload c n k g)) some }

-- ---- a packet that begins one

pub begun_none : (o : Option Bytes) (part here : Bytes) (whole : Option ℕ) (c counts : Counts) (left now : Option Bytes) (before candidates : List Bytes) → whole ≡ None
    → HasDone (open_all here c) left before candidates counts → now ≡ left → HasDone (begun_by o part whole here c) now before candidates counts
begun_none o part here whole c counts left now before candidates w d e = record {
  opened = d.opened ∙ sym e;
  out = d.out ∙ ap (λ (xs : List Bytes). before ++ (xs ++ (open_all here c).out)) (sym (ap (section_of (bytes_of o ++ part)) w));
  counted = d.counted;
}

pub begun_whole : (o : Option Bytes) (part here : Bytes) (whole : Option ℕ) (n place : ℕ) (c counts : Counts) (left now : Option Bytes) (before mid candidates : List Bytes) → whole ≡ Some n
    → place ≡ length before → HasDone (open_all here c) left before mid counts → candidates ≡ insert mid place (take n (bytes_of o ++ part)) → now ≡ left
    → HasDone (begun_by o part whole here c) now before candidates counts
begun_whole o part here whole n place c counts left now before mid candidates w at d e k =
    let section : Bytes = take n (bytes_of o ++ part) in
    let later : List Bytes = (open_all here c).out in
    let zero_more : place - place ≡ 0 = omega arith in
    record {
      opened = d.opened ∙ sym k;
      out = e ∙ ap (λ (xs : List Bytes). insert xs place section) d.out ∙ insert-append_right before later place place section (sym at) (omega arith)
          ∙ ap (λ i. before ++ insert later i section) zero_more
          ∙ ap (λ (xs : List Bytes). before ++ (xs ++ later)) (sym (ap (section_of (bytes_of o ++ part)) w));
      counted = d.counted;
    }

-- the place of the open section's candidate is still one of the list with those after it
pub place_within : (old mid : List (Vec ℕ Global)) (a : After) (left : Option Bytes) (counts : Counts) (len place : ℕ) → place ≡ len → len ≡ length old
    → HasDone a left (map view_bytes old) (map view_bytes mid) counts → place ≤ length mid
place_within old mid a left counts len place at k d =
    let long : length (map view_bytes mid) ≡ length (map view_bytes old ++ a.out) = ap length d.out in
    omega (arith, at, k, long, length-append (map view_bytes old) a.out, length-map old view_bytes, length-map mid view_bytes)

pub begun_first : (o : Option Bytes) (part here : Bytes) (whole : Option ℕ) (n : ℕ) (c : Counts) → whole ≡ Some n → HasOut (begun_by o part whole here c)
begun_first o part here whole n c w =
    let some : 0 < length (take n (bytes_of o ++ part) ∷ []) = omega arith in
    let one : 0 < length (section_of (bytes_of o ++ part) whole) = subst (λ x. 0 < length (section_of (bytes_of o ++ part) x)) (sym w) some in
    record { some = more_left (section_of (bytes_of o ++ part) whole) (open_all here c).out one }

pub begun_later : (o : Option Bytes) (part here : Bytes) (whole : Option ℕ) (c : Counts) → 0 < length (open_all here c).out → HasOut (begun_by o part whole here c)
begun_later o part here whole c h = record { some = more_right (section_of (bytes_of o ++ part) whole) (open_all here c).out h }

pub done_as : (a b : After) (now : Option Bytes) (before candidates : List Bytes) (counts : Counts) → a ≡ b → HasDone a now before candidates counts → HasDone b now before candidates counts
done_as a b now before candidates counts e d = subst (λ x. HasDone x now before candidates counts) e d

pub out_as : (a b : After) → a ≡ b → HasOut a → HasOut b
out_as a b e d = subst HasOut e d

pub starts_begun : (jumped : Bool) (o : Option Bytes) (payload : Bytes) (c k : Counts) (p : ℕ) (part here : Bytes) (whole : Option ℕ)
    → p ≡ slice_index payload 0 → p < length payload → part ≡ take p (drop 1 payload) → here ≡ drop (1 + p) payload
    → closes (kept_unless jumped o) part c ≡ record { opened = None; out = section_of (bytes_of (kept_unless jumped o) ++ part) whole; counts = k }
    → ForSome whole (λ n. IsWhole (kept_unless jumped o) part n)
    → begun_by o part whole here k ≡ starts (kept_unless jumped o) payload c
starts_begun jumped o payload c k p part here whole e h a b closed w =
    let kept : Option Bytes = kept_unless jumped o in
    sym (starts_is kept payload c p e h
    ∙ ap (λ (x : Bytes). with_out (closes kept x c).out (open_all (drop (1 + p) payload) (closes kept x c).counts)) (sym a)
    ∙ ap (λ (x : Bytes). with_out (closes kept part c).out (open_all x (closes kept part c).counts)) (sym b)
    ∙ ap (λ (y : After). with_out y.out (open_all here y.counts)) closed
    ∙ ap (λ (xs : List Bytes). with_out xs (open_all here k)) (same_section jumped o part whole w))
