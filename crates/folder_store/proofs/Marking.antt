-- What a walk comes by beside the files, one part after another.
use Rattle.std.proofs.Common.{◌≡◌, ℕ, zero, suc, ◌+◌, ◌-◌, ◌<◌, ◌≤◌, Bool, true, false, cond, nat_lt, List, [], ◌∷◌, ◌++◌, length, map, take, drop, Option, Some, None, Result, Ok, Err, refl, sym, ap, ◌∙◌, subst, arith, append_assoc, append-nil, length-append}
use Rattle.std.specs.Prelude.{MatchOption, OnOk, ⊤}
use Rattle.std.specs.List.{flat_map}
use Rattle.std.specs.String.{string_bytes}
use Rattle.std.proofs.lemmas.Bool.{le-ltb, ltb-false}
use Rattle.std.proofs.lemmas.List.{length-map, take_all}
use Rattle.std.proofs.lemmas.List.Sums.{sum_by-cons}
use Rattle.path_tree.specs.Paths.{Bytes, PathNames}
use Rattle.path_tree.specs.Texts.{is_name}
use Rattle.path_tree.specs.declared.tree.Edit.{Edit}
use Rattle.path_tree.specs.declared.tree.Edit.TheVariants.{Put, Remove, MakeFolder, RemoveFolder}
use Rattle.generation_catalogue.specs.History.{put_bytes, put_size}
use Rattle.folder_store.specs.declared.folders.EntryKind.TheVariants as kinds
use Rattle.folder_store.specs.declared.folders.FolderEntry.{FolderEntry}
use Rattle.folder_store.specs.declared.reading.ReadTree.{ReadTree}
use Rattle.folder_store.specs.declared.reading.ReadTree.TheVariants as refusals
use Rattle.folder_store.specs.Folders.{Entry, AFile, AFolder, AnOther, FolderTree, IsRead, entries_below, entry_at, kind_of, view_entry}
use Rattle.folder_store.specs.Walk.{Met, WalkFault, met_below, sort_entries, walk_edits, onto, size}
use Rattle.folder_store.specs.Inner.Gathering.{IsSortedListing, after, broken_rule}
use Rattle.folder_store.specs.Surveys.{Stands, Mark, Left, Broken, Large, Look, first_of, large_mark, look_from, marks_at, marks_below, marks_past, survey_of}
use Rattle.folder_store.specs.Inner.Sighting.{HasRoom, Tells, marks_one, with_file}
use Rattle.folder_store.proofs.Walking.{Found, Goes as WalkGoes, after_all, content_is, one_more, room_left, walked_file, whole}
use Rattle.folder_store.proofs.Files.{total, walked_whole}

-- all this was come by, and no rule was broken
abbrev pub Goes : List Mark → Look → Look → Type 0
Goes marks k l = (rest : List Mark) → look_from k (marks ++ rest) ≡ look_from l rest

-- the last of it breaks a rule
abbrev pub Stops : List Mark → Look → Stands → Type 0
Stops marks k at = (rest : List Mark) → look_from k (marks ++ rest) ≡ Err at

goes_then : (marks more : List Mark) (k l m : Look) → Goes marks k l → Goes more l m → Goes (marks ++ more) k m
goes_then marks more k l m f g rest = ap (look_from k) (append_assoc marks more rest) ∙ f (more ++ rest) ∙ g rest

stops_then : (marks more : List Mark) (k l : Look) (at : Stands) → Goes marks k l → Stops more l at → Stops (marks ++ more) k at
stops_then marks more k l at f g rest = ap (look_from k) (append_assoc marks more rest) ∙ f (more ++ rest) ∙ g rest

stops_more : (marks more : List Mark) (k : Look) (at : Stands) → Stops marks k at → Stops (marks ++ more) k at
stops_more marks more k at f rest = ap (look_from k) (append_assoc marks more rest) ∙ f (more ++ rest)

-- ---- one entry

abbrev pub look : List Stands → Option Bytes → Look
look left large = record { left = left; large = large }

look_is : (l : Look) (left : List Stands) (large : Option Bytes) → l.left ≡ left → l.large ≡ large → look left large ≡ l
look_is l left large a b = ap (λ (x : List Stands). look x large) (sym a) ∙ ap (λ (y : Option Bytes). look l.left y) (sym b)

pass_goes : (s : Stands) (k l : Look) → l.left ≡ k.left ++ s ∷ [] → l.large ≡ k.large → Goes (Left s ∷ []) k l
pass_goes s k l left large rest = ap (λ (m : Look). look_from m rest) (look_is l (k.left ++ s ∷ []) k.large left large)

-- what is passed over
pub pass_tells : (t : FolderTree) (room : ℕ) (path : PathNames) (text name : Bytes) (e : Entry) (k l : Look) (n : ℕ) (at : Stands) → kind_of e ≡ kinds.Other → HasRoom n
    → l.left ≡ k.left ++ (path, name) ∷ [] → l.large ≡ k.large → Tells (marks_one t room path text (name, e)) k n (Ok tt) l n at
pass_tells t zero path text name AnOther k l n at kind room left large = λ has. (room, pass_goes (path, name) k l left large)
pass_tells t (suc more) path text name AnOther k l n at kind room left large = λ has. (room, pass_goes (path, name) k l left large)
pass_tells t more path text name (AFile content) k l n at kind room left large = cc
pass_tells t more path text name AFolder k l n at kind room left large = cc

large_goes : (k : Look) (text : Bytes) (read : ℕ) → Goes (large_mark text read) k (with_file k text read)
large_goes k text read rest = by (nat_lt 16777216 read) where
  by : (b : Bool) → look_from k (cond b (Large text ∷ []) [] ++ rest) ≡ look_from (cond b (record k { large = first_of k.large text }) k) rest
  by true = refl
  by false = refl

-- so many bytes were read of a file
pub read_size : (t : FolderTree) (text content bytes : Bytes) → IsRead t text 16777217 bytes → entry_at t text ≡ Some (AFile content) → length bytes ≡ length (take 16777217 content)
read_size t text content bytes read there =
    let same : read.content ≡ content = content_is (entry_at t text) content read.content there read.file in
    ap length (read.front ∙ ap (take 16777217) same)

-- a file that was read
pub file_tells : (t : FolderTree) (path : PathNames) (text name full : Bytes) (e : Entry) (k before l : Look) (n m : ℕ) (result : Result (Unit {0}) ReadTree) (at : Stands) → kind_of e ≡ kinds.File → length path < 16 → is_name name ≡ true
    → full ≡ text ++ 47 ∷ name → entry_at t (text ++ 47 ∷ name) ≡ Some e → HasRoom n → (result ≡ Err refusals.TooDeep → ⊥) → (result ≡ Err refusals.BadName → ⊥)
    → before ≡ k → ((content : Bytes) → entry_at t full ≡ Some (AFile content) → OnOk result (l ≡ with_file before full (length (take 16777217 content))))
    → Tells (marks_one t (16 - length path) path text (name, e)) k n result l m at
file_tells t path text name full (AFile content) k before l n m (Ok u) at kind few good full_is there room deep bad same read = λ has.
    let r : 16 - length path ≡ suc (15 - length path) = room_left path few in
    let size : ℕ = length (take 16777217 content) in
    let marks : marks_one t (16 - length path) path text (name, AFile content) ≡ large_mark (text ++ 47 ∷ name) size =
    ap (λ more. marks_one t more path text (name, AFile content)) r ∙ rw good refl in
    let is : l ≡ with_file k (text ++ 47 ∷ name) size = read content (ap (entry_at t) full_is ∙ there) ∙ ap (λ (x : Look). with_file x full size) same ∙ ap (λ (x : Bytes). with_file k x size) full_is in
    (room, subst (λ (ms : List Mark). Goes ms k l) (sym marks) (subst (λ (x : Look). Goes (large_mark (text ++ 47 ∷ name) size) k x) (sym is) (large_goes k (text ++ 47 ∷ name) size)))
file_tells t path text name full (AFile content) k before l n m (Err refusals.TooDeep) at kind few good full_is there room deep bad same read = absurd (deep refl)
file_tells t path text name full (AFile content) k before l n m (Err refusals.BadName) at kind few good full_is there room deep bad same read = absurd (bad refl)
file_tells t path text name full (AFile content) k before l n m (Err refusals.FolderFault) at kind few good full_is there room deep bad same read = tt
file_tells t path text name full (AFile content) k before l n m (Err refusals.NoMemory) at kind few good full_is there room deep bad same read = tt
file_tells t path text name full AFolder k before l n m result at kind few good full_is there room deep bad same read = cc
file_tells t path text name full AnOther k before l n m result at kind few good full_is there room deep bad same read = cc

-- a folder that was walked
pub folder_tells : (t : FolderTree) (path below : PathNames) (text name full : Bytes) (e : Entry) (k l : Look) (n m : ℕ) (result : Result (Unit {0}) ReadTree) (at : Stands) → kind_of e ≡ kinds.Folder → length path < 16 → is_name name ≡ true
    → below ≡ path ++ name ∷ [] → full ≡ text ++ 47 ∷ name
    → Tells (marks_below t (16 - length below) below full) k n result l m at
    → Tells (marks_one t (16 - length path) path text (name, e)) k n result l m at
folder_tells t path below text name full AFolder k l n m result at kind few good below_is full_is tells =
    let r : 16 - length path ≡ suc (15 - length path) = room_left path few in
    let s : 16 - length below ≡ 15 - length path = deeper path below name below_is in
    let marks : marks_one t (16 - length path) path text (name, AFolder) ≡ marks_below t (16 - length below) below full =
    ap (λ more. marks_one t more path text (name, AFolder)) r ∙ rw good (rw (s, below_is, full_is) refl) in
    subst (λ (ms : List Mark). Tells ms k n result l m at) (sym marks) tells
  where
    deeper : (path below : PathNames) (name : Bytes) → below ≡ path ++ name ∷ [] → 16 - length below ≡ 15 - length path
    deeper path below name e = omega (arith, ap length e, length-append path (name ∷ []))
folder_tells t path below text name full (AFile content) k l n m result at kind few good below_is full_is tells = cc
folder_tells t path below text name full AnOther k l n m result at kind few good below_is full_is tells = cc

broken_stops : (s : Stands) (k : Look) → Stops (Broken s ∷ []) k s
broken_stops s k rest = refl

-- a file or a folder that breaks a rule
pub place_stops : (t : FolderTree) (path : PathNames) (text name : Bytes) (e : Entry) (k : Look) (n : ℕ) (at : Stands) (error : ReadTree) → (kind_of e ≡ kinds.Other → ⊥) → HasRoom n → at ≡ (path, name)
    → (error ≡ refusals.TooDeep → length path ≡ 16) → (error ≡ refusals.BadName → (length path < 16) × (is_name name ≡ false))
    → MatchOption (broken_rule error) ⊤ (λ _. HasRoom n × Stops (marks_one t (16 - length path) path text (name, e)) k at)
place_stops t path text name e k n at refusals.FolderFault kind room at_is deep bad = tt
place_stops t path text name e k n at refusals.NoMemory kind room at_is deep bad = tt
place_stops t path text name e k n at refusals.TooDeep kind room at_is deep bad =
    let r : 16 - length path ≡ 0 = omega (arith, deep refl) in
    (room, subst (λ more. Stops (marks_one t more path text (name, e)) k at) (sym r) (subst (Stops (marks_past path (name, e)) k) (sym at_is) (past e kind)))
  where
    past : (e : Entry) → (kind_of e ≡ kinds.Other → ⊥) → Stops (marks_past path (name, e)) k (path, name)
    past (AFile content) kind = broken_stops (path, name) k
    past AFolder kind = broken_stops (path, name) k
    past AnOther kind = absurd (kind refl)
place_stops t path text name e k n at refusals.BadName kind room at_is deep bad =
    let b = bad refl in
    let r : 16 - length path ≡ suc (15 - length path) = room_left path b.0 in
    (room, subst (λ more. Stops (marks_one t more path text (name, e)) k at) (sym r) (subst (Stops (marks_at (marks_below t (15 - length path)) path text (name, e)) k) (sym at_is) (broken_name e kind b.1)))
  where
    broken_name : (e : Entry) → (kind_of e ≡ kinds.Other → ⊥) → is_name name ≡ false → Stops (marks_at (marks_below t (15 - length path)) path text (name, e)) k (path, name)
    broken_name (AFile content) kind no_name = rw no_name (broken_stops (path, name) k)
    broken_name AFolder kind no_name = rw no_name (broken_stops (path, name) k)
    broken_name AnOther kind no_name = absurd (kind refl)

-- ---- one entry of a folder after another

marks_is : (t : FolderTree) (room : ℕ) (path : PathNames) (text : Bytes) → marks_below t room path text ≡ flat_map (marks_one t room path text) (sort_entries (entries_below t text))
unfolding marks_below
marks_is t zero path text = refl
marks_is t (suc room) path text = refl

-- what was told after so many entries
abbrev pub Told : FolderTree → ℕ → PathNames → Bytes → ℕ → Look → ℕ → Look → ℕ → Type 0
Told t room path text i k n l m = HasRoom m → HasRoom n × Goes (flat_map (marks_one t room path text) (take i (sort_entries (entries_below t text)))) k l

pub none_told : (t : FolderTree) (room : ℕ) (path : PathNames) (text : Bytes) (k : Look) (n : ℕ) → Told t room path text 0 k n k n
none_told t room path text k n = λ has. (has, λ rest. refl)

pub entry_told : (t : FolderTree) (room : ℕ) (path : PathNames) (text : Bytes) (i : ℕ) (x : FolderEntry) (k l o : Look) (n m p : ℕ) (at : Stands) → (h : Found t text i x) → Told t room path text i k n l m
    → Tells (marks_one t room path text (string_bytes x.name, h.entry)) l m (Ok tt) o p at → Told t room path text (i + 1) k n o p
entry_told t room path text i x k l o n m p at h before tells = λ has.
    let es : List (Bytes × Entry) = sort_entries (entries_below t text) in
    let e : Bytes × Entry = (string_bytes x.name, h.entry) in
    let later = tells has in
    let first = before later.0 in (
      first.0,
      subst (λ (ms : List Mark). Goes ms k o) (sym (one_more (marks_one t room path text) es i e h.within h.at))
          (goes_then (flat_map (marks_one t room path text) (take i es)) (marks_one t room path text e) k l o first.1 later.1),
    )

pub entry_stops : (t : FolderTree) (room : ℕ) (path : PathNames) (text : Bytes) (i : ℕ) (x : FolderEntry) (k l o : Look) (n m p : ℕ) (at : Stands) (error : ReadTree) → (h : Found t text i x) → Told t room path text i k n l m
    → Tells (marks_one t room path text (string_bytes x.name, h.entry)) l m (Err error) o p at → Tells (marks_below t room path text) k n (Err error) o p at
entry_stops t room path text i x k l o n m p at error h before tells = by (broken_rule error) tells where
  by : (r : Option WalkFault) → MatchOption r ⊤ (λ _. HasRoom m × Stops (marks_one t room path text (string_bytes x.name, h.entry)) l at)
      → MatchOption r ⊤ (λ _. HasRoom n × Stops (marks_below t room path text) k at)
  by None told = tt
  by (Some rule) told =
      let es : List (Bytes × Entry) = sort_entries (entries_below t text) in
      let e : Bytes × Entry = (string_bytes x.name, h.entry) in
      let marks : List Mark = flat_map (marks_one t room path text) (take i es) in
      let first = before told.0 in
      let split : marks_below t room path text ≡ (marks ++ marks_one t room path text e) ++ flat_map (marks_one t room path text) (drop (i + 1) es) =
      marks_is t room path text ∙ whole (marks_one t room path text) es (i + 1) ∙ ap (λ ms. ms ++ flat_map (marks_one t room path text) (drop (i + 1) es)) (one_more (marks_one t room path text) es i e h.within h.at) in (
        first.0,
        subst (λ (ms : List Mark). Stops ms k at) (sym split)
            (stops_more (marks ++ marks_one t room path text e) (flat_map (marks_one t room path text) (drop (i + 1) es)) k at
            (stops_then marks (marks_one t room path text e) k l at first.1 told.1)),
      )

pub folder_told : (t : FolderTree) (room : ℕ) (path : PathNames) (text : Bytes) (fs : List FolderEntry) (i : ℕ) (k l : Look) (n m : ℕ) (at : Stands) → IsSortedListing t text (map view_entry fs) → length fs ≤ i
    → Told t room path text i k n l m → Tells (marks_below t room path text) k n (Ok tt) l m at
folder_told t room path text fs i k l n m at h all before = λ has.
    let es : List (Bytes × Entry) = sort_entries (entries_below t text) in
    let same : length fs ≡ length es = sym (length-map fs view_entry) ∙ ap length h.entries ∙ length-map es (λ (e : Bytes × Entry). (e.0, kind_of e.1)) in
    let enough : length es ≤ i = omega (arith, same, all) in
    let marks : marks_below t room path text ≡ flat_map (marks_one t room path text) (take i es) = marks_is t room path text ∙ ap (flat_map (marks_one t room path text)) (sym (take_all i es enough)) in
    let first = before has in
    (first.0, subst (λ (ms : List Mark). Goes ms k l) (sym marks) first.1)

-- the limit was passed before
pub full_tells : (marks : List Mark) (k l : Look) (n m : ℕ) (at : Stands) → nat_lt 536870912 m ≡ true → Tells marks k n (Ok tt) l m at
full_tells marks k l n m at full = λ has. absurd (cc)

-- ---- the whole walk

-- a walk that has read no more than the limit goes on with another file
one_goes : (n : ℕ) (es : List Edit) (e : Edit) → n + total es ≤ 536870912 → walk_edits n (map Ok es ++ Ok e ∷ []) ≡ Ok (es ++ e ∷ [])
one_goes n [] e few = let le : n ≤ 536870912 = omega (arith, few) in walked_file n e [] (le-ltb 536870912 n le)
one_goes n (d ∷ es) e few =
    let le : n ≤ 536870912 = omega (arith, few) in
    let more : (n + size d) + total es ≤ 536870912 = omega (arith, few) in
    walked_file n d (map Ok es ++ Ok e ∷ []) (le-ltb 536870912 n le) ∙ ap (onto d) (one_goes (n + size d) es e more)

longer : (es : List Edit) (e : Edit) → es ++ e ∷ [] ≡ es → ⊥
longer es e h = omega (arith, ap length h, length-append es (e ∷ []))

same_one : (e : Edit) → size e ≡ put_size e
same_one (Put p b) = refl
same_one (Remove p) = refl
same_one (MakeFolder p) = refl
same_one (RemoveFolder p) = refl

same_size : (es : List Edit) → total es ≡ put_bytes es
same_size [] = refl
same_size (e ∷ es) = ap (λ n. size e + n) (same_size es) ∙ ap (λ n. n + put_bytes es) (same_one e) ∙ sym (sum_by-cons put_size e es)

-- the count of what was read tells whether the edits put more than the limit
has_room : (met : List Met) (es : List Edit) (n : ℕ) → WalkGoes met [] 0 es n → nat_lt 536870912 (put_bytes es) ≡ false → HasRoom n
has_room met es n goes few = by (nat_lt 536870912 n) refl where
  probe : Edit
  probe = Put [] []

  all : walk_edits 0 met ≡ Ok es
  all = ap (walk_edits 0) (sym (append-nil met)) ∙ goes [] ∙ after_all es

  le : 0 + total es ≤ 536870912
  le = let bytes : put_bytes es ≤ 536870912 = ltb-false 536870912 (put_bytes es) few in omega (arith, bytes, same_size es)

  more : walk_edits 0 (met ++ Ok probe ∷ []) ≡ Ok (es ++ probe ∷ [])
  more = ap (λ (ms : List Met). walk_edits 0 (ms ++ Ok probe ∷ [])) (walked_whole 0 met es all le) ∙ one_goes 0 es probe le

  by : (b : Bool) → nat_lt 536870912 n ≡ b → b ≡ false
  by false is = refl
  by true is =
      let none : walk_edits n (Ok probe ∷ []) ≡ Ok [] = rw is refl in
      let here : walk_edits 0 (met ++ Ok probe ∷ []) ≡ Ok es = goes (Ok probe ∷ []) ∙ ap (after es) none ∙ after_all es in
      let same : Ok (es ++ probe ∷ []) ≡ Ok es = sym more ∙ here in
      let equal : es ++ probe ∷ [] ≡ es = cc in
      absurd (longer es probe equal)

pub survey_goes : (t : FolderTree) (root : Bytes) (path : PathNames) (text : Bytes) (es : List Edit) (k l : Look) (n : ℕ) (at : Stands) → path ≡ [] → text ≡ root → k ≡ look [] None
    → WalkGoes (met_below t (16 - length path) path text) [] 0 es n → Tells (marks_below t (16 - length path) path text) k 0 (Ok tt) l n at
    → nat_lt 536870912 (put_bytes es) ≡ false → survey_of t root ≡ Ok l
survey_goes t root path text es k l n at path_is text_is k_is goes tells few =
    let told = tells (has_room (met_below t (16 - length path) path text) es n goes few) in
    let all : look_from k (marks_below t (16 - length path) path text) ≡ Ok l = ap (look_from k) (sym (append-nil (marks_below t (16 - length path) path text))) ∙ told.1 [] in
    rw (path_is, text_is, k_is) at all

pub survey_stops : (t : FolderTree) (root : Bytes) (path : PathNames) (text : Bytes) (k : Look) (at : Stands) → path ≡ [] → text ≡ root → k ≡ look [] None
    → Stops (marks_below t (16 - length path) path text) k at → survey_of t root ≡ Err at
survey_stops t root path text k at path_is text_is k_is stops =
    let all : look_from k (marks_below t (16 - length path) path text) ≡ Err at = ap (look_from k) (sym (append-nil (marks_below t (16 - length path) path text))) ∙ stops [] in
    rw (path_is, text_is, k_is) at all

pub deep_stops : (marks : List Mark) (k l : Look) (n m : ℕ) (at : Stands) (cause : ReadTree) → cause ≡ refusals.TooDeep → Tells marks k n (Err cause) l m at → Stops marks k at
deep_stops marks k l n m at cause is tells = let T : ReadTree → Type 0 = λ e. Tells marks k n (Err e) l m at in (subst T is tells).1

pub bad_stops : (marks : List Mark) (k l : Look) (n m : ℕ) (at : Stands) (cause : ReadTree) → cause ≡ refusals.BadName → Tells marks k n (Err cause) l m at → Stops marks k at
bad_stops marks k l n m at cause is tells = let T : ReadTree → Type 0 = λ e. Tells marks k n (Err e) l m at in (subst T is tells).1
