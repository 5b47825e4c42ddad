-- From the seats before the threads to the seats after them.
use Rattle.session.proofs.Words.{◌≡◌, ◌<◌, ◌≤◌, ◌+◌, ℕ, suc, true, false, Bool, List, [], ◌∷◌, ◌++◌, map, length, refl, sym, ap, ◌∙◌, subst, arith, ◌==◌, inl, inr, slice_index_or, count_by, count_more, count_same, list_all, All, Vec, both_ways, and_parts, ◌&&◌, ◌↔◌, cases_Bool, AllPass-from_list_all, list_all-from_AllPass, length-map, with_items_is, PathNames, Shot, Station, Stage, Before, During, After, Step, Commit, Draw, Open, DrawFields, DidEdit, DidFeed, DidRead, IsReaderSeat, draw_of, HasCommitted, HasFed, asked_at, EditorSeat, FeederSeat, ReaderSeat, Cast, asked_from, draws_in, is_draw_before, commits_by, opens_by, above, at_end, before_steps, below, during_steps, end_steps, steps, EditorsStand, FeederStands, ReaderStands, ReadersStand, Setting, draws_before, draws_of, events_in, readers_of, done_in, IsWhole, CastDone, Edit, prefix_length, Asked, HasOpened, EditorsDone, ReaderDone}
use Rattle.std.specs.Vec.{with_items}
use Rattle.session.specs.Seats.{EachDid}
use Rattle.session.proofs.Begun.{shots_count}
use Rattle.session.proofs.Lists.{count_append, map_at}
use Rattle.session.proofs.Staged.{count_all, count_done, draws_more, opens_more, unstaged, asked_more, commits_more, steps_done}
use Rattle.session.proofs.Reading.{asked_count, opened_count}

-- ---- how many draws are above the start

before_count : (es : List Step) → count_by is_draw_before (above es) ≡ length (draws_in es)
before_count [] = refl
before_count (Commit editor edits ∷ es) = count_same is_draw_before (Before, Commit editor edits) (above es) refl ∙ before_count es
before_count (Draw asked fates ∷ es) = count_more is_draw_before (Before, Draw asked fates) (above es) refl ∙ ap suc (before_count es)
before_count (Open reader path ∷ es) = count_same is_draw_before (Before, Open reader path) (above es) refl ∙ before_count es

later_count : (stage : Stage) → ((e : Step) → is_draw_before (stage, e) ≡ false) → (es : List Step) → count_by is_draw_before (map (λ (e : Step). (stage, e)) es) ≡ 0
later_count stage later [] = refl
later_count stage later (e ∷ es) = count_same is_draw_before (stage, e) (map (λ (e : Step). (stage, e)) es) (later e) ∙ later_count stage later es

draws_before_are : (setting : Setting) → draws_before setting ≡ length (draws_in (before_steps setting.parts))
draws_before_are setting = let b = before_steps setting.parts in let d = during_steps setting.parts in let e = end_steps setting.parts in
    let all = count_append is_draw_before (above b ++ below d) (at_end e) in let first = count_append is_draw_before (above b) (below d) in
    let before = before_count b in let during = later_count During (λ e. refl) d in let after = later_count After (λ e. refl) e in omega (arith, all, first, before, during, after)

-- ---- what is asked of the threads

module _ (setting : Setting) (shots : List Shot) where
  reader_ready : (k : ℕ) (seat : ReaderSeat) → ReaderStands setting (before_steps setting.parts) shots k seat → IsReaderSeat seat
  reader_ready k seat st = let r = seat.pass.reader in
      let opened = opened_count (asked_from r (draws_before setting) (draws_of setting) 0 (above (before_steps setting.parts))) seat.pass.opens st.opened.opened in
      let asked = asked_count r (draws_before setting) (draws_of setting) 0 (above (before_steps setting.parts)) in
      let plain = ap (λ (es : List Step). length (opens_by r es)) (unstaged Before (before_steps setting.parts)) in
      let paths = ap (λ (ps : List PathNames). length ps) st.reader.paths in let first = count_done (opens_by r) (opens_more r) setting in
      let all = count_all (opens_by r) (opens_more r) setting in let room = st.reader.room in omega (arith, opened, asked, plain, paths, first, all, room)

  pub readers_ready : (seats : List ReaderSeat) → ReadersStand setting (before_steps setting.parts) shots seats → All IsReaderSeat seats
  readers_ready seats st = λ k d lt. reader_ready k (slice_index_or seats k d) (st.1 k d lt)

  pub feeder_ready : {X : _} {F : _} {g : _} (s : Station X F g) (seat : FeederSeat) (most : ℕ) → FeederStands setting s (before_steps setting.parts) shots seat → most ≡ draws_of setting
      → length shots + length seat.draws.items ≤ most + 1
  feeder_ready s seat most st same = let count = shots_count s (before_steps setting.parts) shots seat st.fed in
      let draws = sym (length-map seat.draws.items draw_of) ∙ ap (λ (ds : List DrawFields). length ds) st.draws in
      let first = count_done draws_in draws_more setting in let all = count_all draws_in draws_more setting in omega (arith, count, draws, first, all, same)

  -- ---- what they did

  editors_done : {X : _} {F : _} {g : _} (s : Station X F g) (old new : List EditorSeat) → length new ≡ length old → EditorsStand setting s (before_steps setting.parts) old
      → EachDid (DidEdit s) old new → All (λ (seat : EditorSeat). seat.whole ≡ true) new → EditorsDone s (steps (done_in setting)) new
  editors_done s old new count st did whole = λ place d lt.
      let there : place < length old = omega (arith, lt, count) in let h = st.1 place d there in let n = (slice_index_or old place d).number in
      subst (λ (m : ℕ). HasCommitted s place (commits_by m (steps (done_in setting))) (slice_index_or new place d).pass) (sym (did place d there).editor)
      (subst (λ (lines : List (List Edit)). HasCommitted s place lines (slice_index_or new place d).pass)
      (ap (λ (cs : List (List Edit)). commits_by n (before_steps setting.parts) ++ cs) h.commits ∙ sym (ap (commits_by n) (steps_done setting) ∙ commits_more n (before_steps setting.parts) (during_steps setting.parts)))
      ((did place d there).whole (whole place d lt) place (commits_by n (before_steps setting.parts)) h.made))

  feeder_done : {X : _} {F : _} {g : _} (s : Station X F g) (old new : FeederSeat) (after : List Shot) → FeederStands setting s (before_steps setting.parts) shots old
      → DidFeed s old new shots after → new.whole ≡ true → HasFed s (draws_in (steps (done_in setting))) new after
  feeder_done s old new after st did whole = subst (λ (lines : List DrawFields). HasFed s lines new after)
      (ap (λ (ds : List DrawFields). draws_in (before_steps setting.parts) ++ ds) st.draws ∙ sym (ap draws_in (steps_done setting) ∙ draws_more (before_steps setting.parts) (during_steps setting.parts)))
      (did.whole whole (draws_in (before_steps setting.parts)) st.fed)

  asked_below : (r before all over : ℕ) (es : List Step) → asked_from r before all over (below es) ≡ map (asked_at before) (opens_by r es)
  asked_below r before all over [] = refl
  asked_below r before all over (Commit editor edits ∷ es) = asked_below r before all over es
  asked_below r before all over (Draw asked fates ∷ es) = asked_below r before all (suc over) es
  asked_below r before all over (Open reader path ∷ es) =
      let rest = asked_below r before all over es in elim (cases_Bool (reader == r)) [ inl e ↦ rw e (ap (λ (zs : List Asked). asked_at before path ∷ zs) rest) | inr e ↦ rw e rest ]

  reader_done : (k : ℕ) (old new : ReaderSeat) → length shots ≡ draws_before setting + 1 → ReaderStands setting (before_steps setting.parts) shots k old → DidRead old new → new.whole ≡ true → ReaderDone setting new
  reader_done k old new count st did whole = let r = old.pass.reader in let b = draws_before setting in let a = draws_of setting in
      let first = above (before_steps setting.parts) in let told = prefix_length shots old.pass.told st.told in let same = did.same.0 in record {
        board_is = did.same.2 ∙ st.reader.board_is;
        most_is = did.same.3 ∙ st.reader.most_is;
        opened = subst (λ (n : ℕ). HasOpened (asked_from n b a 0 (done_in setting)) new.pass) (sym same) (subst (λ (all : List Asked). HasOpened all new.pass)
            (ap (λ (ps : List PathNames). asked_from r b a 0 first ++ map (asked_at b) ps) st.reader.paths
            ∙ sym (asked_more r b a 0 first (below (during_steps setting.parts))
            ∙ ap (λ (zs : List Asked). asked_from r b a 0 first ++ zs) (asked_below r b a (0 + length (draws_in (steps first))) (during_steps setting.parts))))
            (did.whole whole b (asked_from r b a 0 first) (omega (arith, told, count)) st.opened));
        finales = ap (λ ps. ps.items) did.finales ∙ st.reader.finales ∙ ap (λ (n : ℕ). opens_by n (end_steps setting.parts)) (sym same);
        room = did.same.1 ∙ st.reader.room ∙ ap (λ (n : ℕ). length (opens_by n (steps (events_in setting)))) (sym same);
      }

  pub cast_done : {X : _} {F : _} {g : _} (s : Station X F g) (shown : List Shot) (old new : Cast) → EditorsStand setting s (before_steps setting.parts) old.editors.items
      → FeederStands setting s (before_steps setting.parts) shots old.feeder → ReadersStand setting (before_steps setting.parts) shots old.readers.items
      → length new.editors.items ≡ length old.editors.items → EachDid (DidEdit s) old.editors.items new.editors.items → DidFeed s old.feeder new.feeder shots shown
      → length new.readers.items ≡ length old.readers.items → EachDid DidRead old.readers.items new.readers.items → IsWhole new → CastDone setting s shown new
  cast_done s shown old new editors feeder readers same_editors edit feed same_readers read whole =
      let count : length shots ≡ draws_before setting + 1 = let shown = shots_count s (before_steps setting.parts) shots old.feeder feeder.fed in let before = draws_before_are setting in omega (arith, shown, before) in record {
        editors_are = map_at (λ (seat : EditorSeat). seat.number) new.editors.items setting.parts.editors.items (same_editors ∙ editors.0)
            (λ k d lt. let there : k < length old.editors.items = omega (arith, lt, same_editors) in (edit k d there).editor ∙ (editors.1 k d there).number);
        committed = editors_done s old.editors.items new.editors.items same_editors editors edit whole.editors;
        fed = feeder_done s old.feeder new.feeder shown feeder feed whole.feeder;
        readers_are = map_at (λ (seat : ReaderSeat). seat.pass.reader) new.readers.items setting.parts.readers.items (same_readers ∙ readers.0)
            (λ k d lt. let there : k < length old.readers.items = omega (arith, lt, same_readers) in (read k d there).same.0 ∙ (readers.1 k d there).reader.number);
        read = λ k d lt. let there : k < length old.readers.items = omega (arith, lt, same_readers) in
            reader_done k (slice_index_or old.readers.items k d) (slice_index_or new.readers.items k d) count (readers.1 k d there) (read k d there)
            (whole.readers k d lt);
      }

-- what was done to each of a vector's elements while it was lent, for the vector afterwards
pub put_back : {A Z : Type 0} (Did : A → A → Type 0) (v : Vec A Z) (lent new : List A) → lent ≡ v.items → length new ≡ length lent
    → ((i : ℕ) (d : A) → i < length lent → Did (slice_index_or lent i d) (slice_index_or new i d))
    → (length (with_items v new).items ≡ length v.items) × ((i : ℕ) (d : A) → i < length v.items → Did (slice_index_or v.items i d) (slice_index_or (with_items v new).items i d))
put_back Did v lent new is count did = let same = count ∙ ap (λ (xs : List _). length xs) is in
    let items : (with_items v new).items ≡ new = with_items_is v new (let ok = v.ok.0 in omega (arith, same, ok)) in (
      ap (λ (xs : List _). length xs) items ∙ same,
      subst (λ (xs : List _). (i : ℕ) (d : _) → i < length xs → Did (slice_index_or xs i d) (slice_index_or (with_items v new).items i d)) is
          (subst (λ (ys : List _). (i : ℕ) (d : _) → i < length lent → Did (slice_index_or lent i d) (slice_index_or ys i d)) (sym items) did),
    )

-- ---- whether memory cut them short

abbrev pub editors_pass : List EditorSeat → Bool
editors_pass seats = list_all (λ (seat : EditorSeat). seat.whole) seats

abbrev pub readers_pass : List ReaderSeat → Bool
readers_pass seats = list_all (λ (seat : ReaderSeat). seat.whole) seats

-- the two tests as one, where the first answers so
pub joined : (both first second is : Bool) → first ≡ true → both ≡ second → first ≡ is → both ≡ (is && second)
joined both first second is passed same are = same ∙ (let one : (true && second) ≡ (is && second) = ap (λ (t : Bool). t && second) (sym passed ∙ are) in one)

pub joined_not : (both first second is : Bool) → first ≡ false → both ≡ false → first ≡ is → both ≡ (is && second)
joined_not both first second is failed same are = same ∙ (let one : (false && second) ≡ (is && second) = ap (λ (t : Bool). t && second) (sym failed ∙ are) in one)

-- all seats pass where the tests answer so
pub are_whole : (cast : Cast) (editors : List EditorSeat) (readers : List ReaderSeat) (first second : Bool) → editors ≡ cast.editors.items → readers ≡ cast.readers.items
    → first ≡ (editors_pass editors && cast.feeder.whole) → first ≡ true → second ≡ readers_pass readers → second ≡ true ↔ IsWhole cast
are_whole cast editors readers first second e r is both second_is = let passed = and_parts (editors_pass editors) cast.feeder.whole (sym is ∙ both) in (
  λ also. record {
    editors = AllPass-from_list_all (λ (seat : EditorSeat). seat.whole) cast.editors.items (ap editors_pass (sym e) ∙ passed.0);
    feeder = passed.1;
    readers = AllPass-from_list_all (λ (seat : ReaderSeat). seat.whole) cast.readers.items (ap readers_pass (sym r) ∙ sym second_is ∙ also);
  },
  λ whole. second_is ∙ ap readers_pass r ∙ list_all-from_AllPass (λ (seat : ReaderSeat). seat.whole) cast.readers.items whole.readers,
)

pub are_cut : (cast : Cast) (editors : List EditorSeat) (first : Bool) → editors ≡ cast.editors.items → first ≡ (editors_pass editors && cast.feeder.whole) → first ≡ false → first ≡ true ↔ IsWhole cast
are_cut cast editors first e is cut = (
  λ both. absurd (both_ways first cut both),
  λ whole. is ∙ (λ i. (ap editors_pass e ∙ list_all-from_AllPass (λ (seat : EditorSeat). seat.whole) cast.editors.items whole.editors) i && whole.feeder i),
)
