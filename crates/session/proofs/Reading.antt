-- The seats of the readers, as they are made, and after one event more.
use Rattle.session.proofs.Words.{◌≡◌, ◌≢◌, ◌⊎◌, inl, arith, ℕ, suc, ◌+◌, ◌<◌, ◌≤◌, ◌==◌, Bool, true, false, cond, List, [], ◌∷◌, ◌++◌, map, length, refl, sym, ap, ◌∙◌, subst, append-nil, ne_eqb, eq-eqb, inr, slice_set, slice_index_or, if◌then◌else◌, count_by, All, IsPrefix, length-set, length-append, cases_Bool, at_place, PathNames, Shot, Viewer, prefix_length, IsSameReader, ReaderView, OpenEntry, Happening, is_open_by, Stage, Before, Step, Commit, Draw, Open, Asked, AreOpened, HasOpened, Rises, asked_at, ReaderSeat, draws_in, asked_from, opens_by, above, before_steps, during_steps, end_steps, steps, EachAt, IsNext, IsReaderOf, IsViewerOf, ReaderStands, ReadersStand, Setting, draws_before, draws_of, events_in, view_happening}
use Rattle.std.proofs.lemmas.List.Recursion.{is_count_by}
use Rattle.open_history.specs.Opens.{reader_view}
use Rattle.rehearsal.specs.declared.interpreter.Happening.TheVariants as deeds
use Rattle.session.proofs.Lists.{each_set}
use Rattle.session.proofs.Session.{apart_numbers}
use Rattle.session.proofs.Staged.{above_more, asked_more, count_all, count_done, opens_more, unstaged}

-- ---- what is asked of a reader

abbrev asked_in : ℕ → Setting → List Step → List Asked
asked_in reader setting done = asked_from reader (draws_before setting) (draws_of setting) 0 (above done)

asked_none : (reader before all above : ℕ) (e : Stage × Step) → opens_by reader (e.1 ∷ []) ≡ [] → asked_from reader before all above (e ∷ []) ≡ []
asked_none reader before all above (stage, Commit editor edits) none = refl
asked_none reader before all above (stage, Draw asked fates) none = refl
asked_none reader before all above (stage, Open r path) none = elim (cases_Bool (r == reader)) [ inl e ↦ let bad = rw e at none in absurd (cc) | inr e ↦ rw e refl ]

asked_one : (reader : ℕ) (setting : Setting) (done : List Step) (e : Step)
    → asked_in reader setting (done ++ e ∷ []) ≡ asked_in reader setting done ++ asked_from reader (draws_before setting) (draws_of setting) (0 + length (draws_in (steps (above done)))) ((Before, e) ∷ [])
asked_one reader setting done e =
    ap (asked_from reader (draws_before setting) (draws_of setting) 0) (above_more done (e ∷ [])) ∙ asked_more reader (draws_before setting) (draws_of setting) 0 (above done) ((Before, e) ∷ [])

-- an event that is no open of the reader
asked_idle : (reader : ℕ) (setting : Setting) (done : List Step) (e : Step) → opens_by reader (e ∷ []) ≡ [] → asked_in reader setting (done ++ e ∷ []) ≡ asked_in reader setting done
asked_idle reader setting done e none = asked_one reader setting done e
    ∙ ap (λ (zs : List Asked). asked_in reader setting done ++ zs) (asked_none reader (draws_before setting) (draws_of setting) (0 + length (draws_in (steps (above done)))) (Before, e) none)
    ∙ append-nil (asked_in reader setting done)

-- an open of the reader
asked_next : (reader : ℕ) (setting : Setting) (done : List Step) (path : PathNames)
    → asked_in reader setting (done ++ Open reader path ∷ []) ≡ asked_in reader setting done ++ asked_at (length (draws_in done)) path ∷ []
asked_next reader setting done path = let n = length (draws_in (steps (above done))) in
    let same : 0 + n ≡ length (draws_in done) = let e = ap (λ (es : List Step). length (draws_in es)) (unstaged Before done) in omega (arith, e) in
    asked_one reader setting done (Open reader path)
    ∙ ap (λ (zs : List Asked). asked_in reader setting done ++ zs)
    (ap (λ (t : Bool). (if t then record { path = path; least = 0 + n } ∷ [] else []) ++ []) (eq-eqb reader reader refl) ∙ ap (λ (m : ℕ). asked_at m path ∷ []) same)

-- ---- one seat

same_reader : (setting : Setting) (place : ℕ) (old new : ReaderSeat) → IsSameReader old.pass new.pass → new.paths ≡ old.paths → new.finales ≡ old.finales → IsReaderOf setting place old → IsReaderOf setting place new
same_reader setting place old new same paths finales is = record {
  number = same.0 ∙ is.number;
  board_is = same.2 ∙ is.board_is;
  most_is = same.3 ∙ is.most_is;
  room = same.1 ∙ is.room ∙ ap (λ (r : ℕ). length (opens_by r (steps (events_in setting)))) (sym same.0);
  paths = ap (λ v. v.items) paths ∙ is.paths ∙ ap (λ (r : ℕ). opens_by r (during_steps setting.parts)) (sym same.0);
  finales = ap (λ v. v.items) finales ∙ is.finales ∙ ap (λ (r : ℕ). opens_by r (end_steps setting.parts)) (sym same.0);
}

-- the reader was told of all shots
pub told_all : (setting : Setting) (done : List Step) (shots shown : List Shot) (place : ℕ) (old new : ReaderSeat) → IsSameReader old.pass new.pass → new.pass.known ≡ old.pass.known → new.pass.opens ≡ old.pass.opens
    → IsPrefix shown new.pass.told → new.paths ≡ old.paths → new.finales ≡ old.finales → ReaderStands setting done shots place old → ReaderStands setting done shown place new
told_all setting done shots shown place old new same known opens told paths finales st = record {
  reader = same_reader setting place old new same paths finales st.reader;
  few = let few = st.few in let most = same.3 in let count = ap length known in omega (arith, few, most, count);
  opened = record {
    opened = subst (AreOpened (asked_in new.pass.reader setting done)) (sym opens) (subst (λ (r : ℕ). AreOpened (asked_in r setting done) old.pass.opens) (sym same.0) st.opened.opened);
    rises = subst (λ (es : List OpenEntry). Rises 0 es (length new.pass.known)) (sym opens) (subst (λ (ks : List Shot). Rises 0 old.pass.opens (length ks)) (sym known) st.opened.rises);
  };
  told = told;
}

idles : (setting : Setting) (done : List Step) (shots : List Shot) (k : ℕ) (seat : ReaderSeat) (e : Step) → opens_by seat.pass.reader (e ∷ []) ≡ []
    → ReaderStands setting done shots k seat → ReaderStands setting (done ++ e ∷ []) shots k seat
idles setting done shots k seat e none st = record {
  reader = st.reader;
  few = st.few;
  opened = subst (λ (asked : List Asked). HasOpened asked seat.pass) (sym (asked_idle seat.pass.reader setting done e none)) st.opened;
  told = st.told;
}

not_its : (r m : ℕ) (path : PathNames) → m ≢ r → opens_by r (Open m path ∷ []) ≡ []
not_its r m path ne = ap (λ (t : Bool). (if t then path ∷ [] else []) ++ []) (ne_eqb m r ne)

pub opened_count : (asked : List Asked) (opens : List OpenEntry) → AreOpened asked opens → length opens ≡ length asked
opened_count [] [] h = refl
opened_count (a ∷ asked) (e ∷ es) h = ap suc (opened_count asked es h.2)
opened_count [] (e ∷ es) h = absurd h
opened_count (a ∷ asked) [] h = absurd h

pub asked_count : (reader before all above : ℕ) (es : List (Stage × Step)) → length (asked_from reader before all above es) ≡ length (opens_by reader (steps es))
asked_count reader before all above [] = refl
asked_count reader before all above ((stage, Commit editor edits) ∷ es) = asked_count reader before all above es
asked_count reader before all above ((stage, Draw asked fates) ∷ es) = asked_count reader before all (suc above) es
asked_count reader before all above ((stage, Open r path) ∷ es) =
    let rest = asked_count reader before all above es in elim (cases_Bool (r == reader)) [ inl e ↦ rw e (ap suc rest) | inr e ↦ rw e rest ]

-- there is room for an open that comes next
pub has_room : (setting : Setting) (done : List Step) (shots : List Shot) (place : ℕ) (seat : ReaderSeat) (reader : ℕ) (path : PathNames) → seat.pass.reader ≡ reader → ReaderStands setting done shots place seat
    → IsNext setting done (Open reader path) → length seat.pass.opens < seat.pass.room
has_room setting done shots place seat reader path named st next = let r = seat.pass.reader in
    let opened = opened_count (asked_in r setting done) seat.pass.opens st.opened.opened in
    let asked = asked_count r (draws_before setting) (draws_of setting) 0 (above done) in
    let plain = ap (λ (es : List Step). length (opens_by r es)) (unstaged Before done) in
    let before : length (opens_by r (before_steps setting.parts)) ≡ length (opens_by r done) + length (opens_by r (Open reader path ∷ next.0)) =
    ap (λ (es : List Step). length (opens_by r es)) next.1 ∙ ap (λ (xs : List PathNames). length xs) (opens_more r done (Open reader path ∷ next.0))
    ∙ length-append (opens_by r done) (opens_by r (Open reader path ∷ next.0)) in
    let one : length (opens_by r (Open reader path ∷ next.0)) ≡ suc (length (opens_by r next.0)) =
    ap (λ (t : Bool). length ((if t then path ∷ [] else []) ++ opens_by r next.0)) (eq-eqb reader r (sym named)) in
    let first = count_done (opens_by r) (opens_more r) setting in let all = count_all (opens_by r) (opens_more r) setting in let room = st.reader.room in
    omega (arith, opened, asked, plain, before, one, first, all, room)

-- ---- one event more

module _ (setting : Setting) (done : List Step) (shots : List Shot) (seats : List ReaderSeat) where
  -- an event that is no open of theirs
  pub readers_idle : (e : Step) → EachAt (λ k seat. opens_by seat.pass.reader (e ∷ []) ≡ []) seats → ReadersStand setting done shots seats → ReadersStand setting (done ++ e ∷ []) shots seats
  readers_idle e none st = (st.0, λ k d lt. idles setting done shots k (slice_index_or seats k d) e (none k d lt) (st.1 k d lt))

  pub nobody_opens : (reader : ℕ) (path : PathNames) → EachAt (λ k seat. seat.pass.reader ≢ reader) seats → ReadersStand setting done shots seats → ReadersStand setting (done ++ Open reader path ∷ []) shots seats
  nobody_opens reader path none = readers_idle (Open reader path) (λ k d lt. not_its (slice_index_or seats k d).pass.reader reader path (λ e. none k d lt (sym e)))

  -- the reader at a place opened a path
  pub opened_now : (reader : ℕ) (path : PathNames) (place : ℕ) (was new : ReaderSeat) → place < length seats → was ≡ slice_index_or seats place was → was.pass.reader ≡ reader → IsSameReader was.pass new.pass
      → new.pass.told ≡ was.pass.told → length new.pass.known ≤ new.pass.most + 1 → new.paths ≡ was.paths → new.finales ≡ was.finales
      → ((least : ℕ) (asked : List Asked) → (least + 1 ≤ length was.pass.told) ⊎ (least + 1 ≤ length was.pass.known) → HasOpened asked was.pass → HasOpened (asked ++ asked_at least path ∷ []) new.pass)
      → length shots ≡ length (draws_in done) + 1 → ReadersStand setting done shots seats → ReadersStand setting (done ++ Open reader path ∷ []) shots (slice_set seats place new)
  opened_now reader path place was new there is named same told few paths finales opens count st = (
    length-set seats place new ∙ st.0,
    each_set (ReaderStands setting (done ++ Open reader path ∷ []) shots) seats place new there here
        (λ k d lt ne. idles setting done shots k (slice_index_or seats k d) (Open reader path) (not_its (slice_index_or seats k d).pass.reader reader path
        (λ e. let l = st.0 in ne (apart_numbers setting.parts.readers.items setting.ranges.readers.once k place (omega (arith, l, lt)) (omega (arith, l, there))
        (sym (st.1 k d lt).reader.number ∙ sym e ∙ sym named ∙ stood.reader.number)))) (st.1 k d lt)),
  )
    where
      stood : ReaderStands setting done shots place was
      stood = subst (ReaderStands setting done shots place) (sym is) (st.1 place was there)

      here : ReaderStands setting (done ++ Open reader path ∷ []) shots place new
      here = let known = prefix_length shots was.pass.told stood.told in record {
        reader = same_reader setting place was new same paths finales stood.reader;
        few = few;
        opened = subst (λ (asked : List Asked). HasOpened asked new.pass) (sym (asked_next reader setting done path) ∙ ap (λ (n : ℕ). asked_in n setting (done ++ Open reader path ∷ [])) (sym (same.0 ∙ named)))
            (opens (length (draws_in done)) (asked_in reader setting done) (inl (omega (arith, count, known)))
            (subst (λ (n : ℕ). HasOpened (asked_in n setting done) was.pass) named stood.opened));
        told = subst (λ (xs : List Shot). IsPrefix shots xs) (sym told) stood.told;
      }

-- ---- as they are made

opens_counted : (r : ℕ) (ds : List Happening) → length (opens_by r (map view_happening ds)) ≡ count_by (λ (d : Happening). is_open_by r (view_happening d)) ds
opens_counted r = is_count_by (λ (ds : List Happening). length (opens_by r (map view_happening ds))) (λ (d : Happening). is_open_by r (view_happening d)) refl one
  where
    put : (t : Bool) (path : PathNames) (rest : List PathNames) → length ((if t then path ∷ [] else []) ++ rest) ≡ cond t (1 + length rest) (length rest)
    put true path rest = omega arith
    put false path rest = refl

    one : (d : Happening) (ds : List Happening) → length (opens_by r (map view_happening (d ∷ ds)))
        ≡ cond (is_open_by r (view_happening d)) (1 + length (opens_by r (map view_happening ds))) (length (opens_by r (map view_happening ds)))
    one (deeds.Commit editor edits) ds = refl
    one (deeds.Draw asked fates) ds = refl
    one (deeds.Open reader path) ds = put (reader == r) path (opens_by r (map view_happening ds))

-- The seat of this place, with a viewer, the paths of its number, and room for the opens among these events and of its paths
pub record IsNewReader (numbers : List ℕ) (viewers : List (Viewer Shot)) (before : List Happening) (paths finales : ℕ → List PathNames) (k : ℕ) (seat : ReaderSeat) : Type 0 where
  pub viewer : Viewer Shot
  pub room : ℕ
  pub pass : seat.pass ≡ reader_view (slice_index_or numbers k 0) room viewer [] 0
  pub its : viewer ≡ slice_index_or viewers k viewer
  pub enough : room ≡ count_by (λ (d : Happening). is_open_by (slice_index_or numbers k 0) (view_happening d)) before + length seat.paths.items + length seat.finales.items
  pub paths_are : seat.paths.items ≡ paths (slice_index_or numbers k 0)
  pub finales_are : seat.finales.items ≡ finales (slice_index_or numbers k 0)

pub new_readers : (setting : Setting) (numbers : List ℕ) (viewers : List (Viewer Shot)) (before : List Happening) (paths finales : ℕ → List PathNames) (seats : List ReaderSeat)
    → length seats ≡ length viewers → length viewers ≡ length numbers → EachAt (IsNewReader numbers viewers before paths finales) seats
    → (shots : List Shot) → numbers ≡ setting.parts.readers.items → map view_happening before ≡ before_steps setting.parts
    → ((n : ℕ) → paths n ≡ opens_by n (during_steps setting.parts)) → ((n : ℕ) → finales n ≡ opens_by n (end_steps setting.parts)) → length shots ≡ 1
    → All (IsViewerOf setting shots) viewers → ReadersStand setting [] shots seats
new_readers setting numbers viewers before paths finales seats all count made shots are above_is below_is last_is one each = (
  all ∙ count ∙ ap length are,
  λ k d lt. stands k (slice_index_or seats k d) (made k d lt) (omega (arith, all, lt)),
)
  where
    stands : (k : ℕ) (s : ReaderSeat) → IsNewReader numbers viewers before paths finales k s → k < length viewers → ReaderStands setting [] shots k s
    stands k s h lt = let n = slice_index_or numbers k 0 in let w = at_place (IsViewerOf setting shots) viewers k h.viewer each lt h.its in
        let reader : s.pass.reader ≡ n = ap (λ (p : ReaderView). p.reader) h.pass in
        let known : s.pass.known ≡ shots = ap (λ (p : ReaderView). p.known) h.pass ∙ w.2 in let opens : s.pass.opens ≡ [] = ap (λ (p : ReaderView). p.opens) h.pass in
        let its_paths = h.paths_are ∙ below_is n in let its_finales = h.finales_are ∙ last_is n in record {
          reader = record {
            number = reader ∙ ap (λ (ns : List ℕ). slice_index_or ns k 0) are;
            board_is = ap (λ (p : ReaderView). p.board) h.pass ∙ w.0;
            most_is = ap (λ (p : ReaderView). p.most) h.pass ∙ w.1;
            room = ap (λ (p : ReaderView). p.room) h.pass
                ∙ (let enough = h.enough in let opened = opens_counted n before in let a = ap (λ (es : List Step). length (opens_by n es)) above_is in let b = ap length its_paths in let c = ap length its_finales in
                let first = count_done (opens_by n) (opens_more n) setting in let every = count_all (opens_by n) (opens_more n) setting in omega (arith, enough, opened, a, b, c, first, every))
                ∙ ap (λ (m : ℕ). length (opens_by m (steps (events_in setting)))) (sym reader);
            paths = its_paths ∙ ap (λ (m : ℕ). opens_by m (during_steps setting.parts)) (sym reader);
            finales = its_finales ∙ ap (λ (m : ℕ). opens_by m (end_steps setting.parts)) (sym reader);
          };
          few = let l = ap length known in omega (arith, l, one);
          opened = record {
            opened = subst (λ (es : List OpenEntry). AreOpened [] es) (sym opens) tt;
            rises = subst (λ (es : List OpenEntry). Rises 0 es (length s.pass.known)) (sym opens) (omega arith);
          };
          told = ([], append-nil shots ∙ sym (ap (λ (p : ReaderView). p.told) h.pass ∙ w.3));
        }
