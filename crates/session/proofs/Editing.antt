-- The seats of the editors, as they are made, and after one event more.
use Rattle.session.proofs.Words.{◌≡◌, ◌≢◌, arith, ℕ, zero, suc, ◌+◌, ◌<◌, Bool, List, [], ◌∷◌, ◌++◌, map, length, sym, ap, ◌∙◌, subst, ne_eqb, eq-eqb, slice_set, slice_index_or, if◌then◌else◌, length-set, AreNewPasses, Edit, Step, Commit, Station, Kept, KeptItem, Pass, HasCommitted, CommitLine, edits_of, EditorSeat, commits_by, during_steps, EachAt, EditorStands, EditorsStand, Setting}
use Rattle.session.proofs.Lists.{each_set}
use Rattle.session.proofs.Session.{apart_numbers}
use Rattle.session.proofs.Staged.{commits_more, idle_of}

its : (n m : ℕ) (edits : List Edit) → m ≡ n → commits_by n (Commit m edits ∷ []) ≡ edits ∷ []
its n m edits e = ap (λ (t : Bool). (if t then edits ∷ [] else []) ++ []) (eq-eqb m n e)

not_its : (n m : ℕ) (edits : List Edit) → m ≢ n → commits_by n (Commit m edits ∷ []) ≡ []
not_its n m edits ne = ap (λ (t : Bool). (if t then edits ∷ [] else []) ++ []) (ne_eqb m n ne)

module _ {X : _} {F : _} {g : _} (setting : Setting) (s : Station X F g) (done : List Step) where
  idles : (k : ℕ) (seat : EditorSeat) (e : Step) → commits_by seat.number (e ∷ []) ≡ [] → EditorStands setting s done k seat → EditorStands setting s (done ++ e ∷ []) k seat
  idles k seat e none st = record {
    number = st.number;
    made = subst (λ (lines : List (List Edit)). HasCommitted s k lines seat.pass) (sym (idle_of (commits_by seat.number) (commits_more seat.number) done e none)) st.made;
    commits = st.commits;
  }

  -- an event that is no commit of theirs
  pub editors_idle : (e : Step) (seats : List EditorSeat) → EachAt (λ k seat. commits_by seat.number (e ∷ []) ≡ []) seats → EditorsStand setting s done seats → EditorsStand setting s (done ++ e ∷ []) seats
  editors_idle e seats none st = (st.0, λ k d lt. idles k (slice_index_or seats k d) e (none k d lt) (st.1 k d lt))

  pub nobody_commits : (editor : ℕ) (edits : List Edit) (seats : List EditorSeat) → EachAt (λ k seat. seat.number ≢ editor) seats → EditorsStand setting s done seats
      → EditorsStand setting s (done ++ Commit editor edits ∷ []) seats
  nobody_commits editor edits seats none = editors_idle (Commit editor edits) seats (λ k d lt. not_its (slice_index_or seats k d).number editor edits (λ e. none k d lt (sym e)))

  -- the editor at a place made a commit
  pub committed_now : (editor : ℕ) (edits : List Edit) (seats : List EditorSeat) (place : ℕ) (was new : EditorSeat) → place < length seats → was ≡ slice_index_or seats place was → was.number ≡ editor → new.number ≡ was.number
      → new.commits ≡ was.commits → ((p : ℕ) (lines : List (List Edit)) → HasCommitted s p lines was.pass → HasCommitted s p (lines ++ edits ∷ []) new.pass)
      → EditorsStand setting s done seats → EditorsStand setting s (done ++ Commit editor edits ∷ []) (slice_set seats place new)
  committed_now editor edits seats place was new there is named same laid made st = (
    length-set seats place new ∙ st.0,
    each_set (EditorStands setting s (done ++ Commit editor edits ∷ [])) seats place new there here
        (λ k d lt ne. idles k (slice_index_or seats k d) (Commit editor edits) (not_its (slice_index_or seats k d).number editor edits
        (λ e. let l = st.0 in ne (apart_numbers setting.parts.editors.items setting.ranges.editors.once k place (omega (arith, l, lt)) (omega (arith, l, there))
        (sym (st.1 k d lt).number ∙ sym e ∙ sym named ∙ stood.number)))) (st.1 k d lt)),
  )
    where
      stood : EditorStands setting s done place was
      stood = subst (EditorStands setting s done place) (sym is) (st.1 place was there)

      here : EditorStands setting s (done ++ Commit editor edits ∷ []) place new
      here = let n = was.number in record {
        number = same ∙ stood.number;
        made = subst (λ (lines : List (List Edit)). HasCommitted s place lines new.pass)
            (ap (λ (xs : List (List Edit)). commits_by n done ++ xs) (sym (its n editor edits (sym named))) ∙ sym (commits_more n done (Commit editor edits ∷ []))
            ∙ ap (λ (m : ℕ). commits_by m (done ++ Commit editor edits ∷ [])) (sym same)) (made place (commits_by n done) stood.made);
        commits = ap (λ v. map edits_of v.items) laid ∙ stood.commits ∙ ap (λ (m : ℕ). commits_by m (during_steps setting.parts)) (sym same);
      }

-- ---- as they are made

-- the seat of this place, with its number, its pass, and the commits of its number
abbrev pub IsNewEditor : List ℕ → List (Pass Kept KeptItem) → (ℕ → List CommitLine) → ℕ → EditorSeat → Type 0
IsNewEditor numbers passes commits k seat =
    (seat.number ≡ slice_index_or numbers k 0) × (seat.pass ≡ slice_index_or passes k seat.pass) × (seat.commits.items ≡ commits seat.number)

new_passes : {X : _} {F : _} {g : _} (s : Station X F g) (first n : ℕ) (ps : List (Pass Kept KeptItem)) → AreNewPasses s first ps → (k : ℕ) (d : Pass Kept KeptItem) → k < length ps → n ≡ first + k
    → HasCommitted s n [] (slice_index_or ps k d)
new_passes s first n [] h k d lt e = absurd (omega (arith, lt))
new_passes s first n (p ∷ ps) h zero d lt e =
    record { pass = h.0; number = (let a = h.1 in omega (arith, a, e)); commits = λ i. record { entries = h.2 i; own = h.3 i } }
new_passes s first n (p ∷ ps) h (suc k) d lt e = new_passes s (suc first) n ps h.4 k d (omega (arith, lt)) (omega (arith, e))

pub new_editors : {X : _} {F : _} {g : _} (setting : Setting) (s : Station X F g) (numbers : List ℕ) (passes : List (Pass Kept KeptItem)) (commits : ℕ → List CommitLine) (seats : List EditorSeat)
    → AreNewPasses s 0 passes → length seats ≡ length passes → length passes ≡ length numbers → EachAt (IsNewEditor numbers passes commits) seats
    → numbers ≡ setting.parts.editors.items → ((n : ℕ) → map edits_of (commits n) ≡ commits_by n (during_steps setting.parts)) → EditorsStand setting s [] seats
new_editors setting s numbers passes commits seats news all count made are laid = (
  all ∙ count ∙ ap length are,
  λ k d lt. let h = made k d lt in let seat = slice_index_or seats k d in record {
    number = h.0 ∙ ap (λ (ns : List ℕ). slice_index_or ns k 0) are;
    made = subst (HasCommitted s k []) (sym h.1) (new_passes s 0 k passes news k seat.pass (omega (arith, all, lt)) (omega arith));
    commits = ap (map edits_of) h.2 ∙ laid seat.number;
  },
)
