-- A walk in parts: one thing met after another.
use Rattle.std.proofs.Common.{◌≡◌, ℕ, zero, suc, ◌+◌, ◌-◌, ◌<◌, ◌≤◌, ◌^◌, true, false, nat_lt, List, [], ◌∷◌, ◌++◌, length, map, take, drop, get_or, Option, Some, None, Result, Ok, Err, refl, sym, ap, ◌∙◌, subst, inl, inr, arith, append_assoc, append-nil, length-append, length-take}
use Rattle.std.specs.Prelude.{MatchOption, ⊤}
use Rattle.std.specs.List.{flat_map}
use Rattle.std.specs.Option.{option_map}
use Rattle.std.specs.String.{string_bytes}
use Rattle.std.proofs.lemmas.List.{length-map, take_all, take-append-drop, take_more}
use Rattle.std.proofs.lemmas.Grind.{flat_map-append}
use Rattle.std.proofs.lemmas.Bool.{le-ltb}
use Rattle.oc_bytes.specs.Outcome.{Rose}
use Rattle.path_tree.specs.Paths.{Bytes, PathNames}
use Rattle.path_tree.specs.Texts.{is_name, path_of}
use Rattle.path_tree.specs.declared.tree.Edit.{Edit}
use Rattle.path_tree.specs.declared.tree.Edit.TheVariants.{Put, MakeFolder}
use Rattle.folder_store.specs.declared.folders.EntryKind.{EntryKind}
use Rattle.folder_store.specs.declared.folders.EntryKind.TheVariants as kinds
use Rattle.folder_store.specs.declared.folders.FolderEntry.{FolderEntry}
use Rattle.folder_store.specs.declared.reading.ReadTree.{ReadTree}
use Rattle.folder_store.specs.declared.reading.ReadTree.TheVariants as refusals
use Rattle.folder_store.specs.Folders.{Entry, AFile, AFolder, AnOther, FolderTree, IsRead, MayFail, content_of, entries_below, entry_at, kind_of, view_entry}
use Rattle.folder_store.specs.Walk.{Met, Walked, WalkFault, IsTooDeep, IsBadName, met_at, met_or_made, met_past, met_below, edits_of, onto, walk_edits, size, sort_entries}
use Rattle.folder_store.specs.Inner.Gathering.{IsSortedListing, Walks, after, broken_rule, going_on, kind_at, met_one}

-- all this was met, and no rule was broken
abbrev pub Goes : List Met → List Edit → ℕ → List Edit → ℕ → Type 0
Goes met before n edits m = (rest : List Met) → going_on before n (met ++ rest) ≡ going_on edits m rest

-- what was met breaks a rule
abbrev pub Ends : List Met → List Edit → ℕ → WalkFault → Type 0
Ends met before n fault = (rest : List Met) → going_on before n (met ++ rest) ≡ Err fault

after_more : (edits : List Edit) (e : Edit) (rest : Walked) → after (edits ++ e ∷ []) rest ≡ after edits (onto e rest)
after_more [] e rest = refl
after_more (f ∷ edits) e rest = ap (onto f) (after_more edits e rest)

after_fault : (edits : List Edit) (fault : WalkFault) → after edits (Err fault) ≡ Err fault
after_fault [] fault = refl
after_fault (e ∷ edits) fault = ap (onto e) (after_fault edits fault)

walked_full : (n : ℕ) (met : List Met) → nat_lt 536870912 n ≡ true → walk_edits n met ≡ Ok []
walked_full n [] full = refl
walked_full n (Ok e ∷ met) full = rw full refl
walked_full n (Err fault ∷ met) full = rw full refl

pub walked_file : (n : ℕ) (e : Edit) (met : List Met) → nat_lt 536870912 n ≡ false → walk_edits n (Ok e ∷ met) ≡ onto e (walk_edits (n + size e) met)
walked_file n e met room = rw room refl

walked_fault : (n : ℕ) (fault : WalkFault) (met : List Met) → nat_lt 536870912 n ≡ false → walk_edits n (Err fault ∷ met) ≡ Err fault
walked_fault n fault met room = rw room refl

-- once more bytes than the limit are read, nothing that is met counts
pub full_goes : (met : List Met) (edits : List Edit) (n : ℕ) → nat_lt 536870912 n ≡ true → Goes met edits n edits n
full_goes met edits n full rest = ap (after edits) (walked_full n (met ++ rest) full ∙ sym (walked_full n rest full))

pub nothing_goes : (edits : List Edit) (n : ℕ) → Goes [] edits n edits n
nothing_goes edits n rest = refl

pub goes_then : (met more : List Met) (first second third : List Edit) (k m n : ℕ) → Goes met first k second m → Goes more second m third n → Goes (met ++ more) first k third n
goes_then met more first second third k m n f g rest =
    ap (going_on first k) (append_assoc met more rest) ∙ f (more ++ rest) ∙ g rest

pub ends_then : (met more : List Met) (first second : List Edit) (k m : ℕ) (fault : WalkFault) → Goes met first k second m → Ends more second m fault → Ends (met ++ more) first k fault
ends_then met more first second k m fault f g rest =
    ap (going_on first k) (append_assoc met more rest) ∙ f (more ++ rest) ∙ g rest

pub ends_more : (met more : List Met) (first : List Edit) (k : ℕ) (fault : WalkFault) → Ends met first k fault → Ends (met ++ more) first k fault
ends_more met more first k fault f rest = ap (going_on first k) (append_assoc met more rest) ∙ f (more ++ rest)

pub fault_ends : (fault : WalkFault) (edits : List Edit) (n : ℕ) → nat_lt 536870912 n ≡ false → Ends (Err fault ∷ []) edits n fault
fault_ends fault edits n room rest = ap (after edits) (walked_fault n fault rest room) ∙ after_fault edits fault

file_goes : (e : Edit) (edits : List Edit) (n : ℕ) → nat_lt 536870912 n ≡ false → Goes (Ok e ∷ []) edits n (edits ++ e ∷ []) (n + size e)
file_goes e edits n room rest = ap (after edits) (walked_file n e rest room) ∙ sym (after_more edits e (walk_edits (n + size e) rest))

pub content_is : (o : Option Entry) (content found : Bytes) → o ≡ Some (AFile content) → content_of o ≡ Some found → found ≡ content
content_is o content found e f = let g : content_of o ≡ Some content = ap content_of e in cc

-- a file that was read makes its edit
pub read_goes : (t : FolderTree) (text content bytes : Bytes) (path : PathNames) (before edits : List Edit) (n m : ℕ) → IsRead t text 16777217 bytes → entry_at t text ≡ Some (AFile content) → n ≤ 536870912
    → edits ≡ before ++ Put path bytes ∷ [] → (n + length bytes < 2 ^ 64 → m ≡ n + length bytes) → Goes (Ok (Put path (take 16777217 content)) ∷ []) before n edits m
read_goes t text content bytes path before edits n m read there room edits_is read_is rest =
    let same : read.content ≡ content = content_is (entry_at t text) content read.content there read.file in
    let bytes_is : bytes ≡ take 16777217 content = read.front ∙ ap (take 16777217) same in
    let short : length bytes ≤ 16777217 = few bytes content bytes_is in
    let total : m ≡ n + length bytes = read_is (fits n (length bytes) room short) in
    subst (λ (bs : Bytes). going_on before n (Ok (Put path bs) ∷ rest) ≡ going_on edits m rest) bytes_is
    (file_goes (Put path bytes) before n (le-ltb 536870912 n room) rest ∙ ap (λ (es : List Edit). going_on es (n + length bytes) rest) (sym edits_is) ∙ ap (λ k. going_on edits k rest) (sym total))
  where
    few : (bs cs : Bytes) → bs ≡ take 16777217 cs → length bs ≤ 16777217
    few bs cs e = omega (arith, ap length e, length-take 16777217 cs)

    fits : (n k : ℕ) → n ≤ 536870912 → k ≤ 16777217 → n + k < 2 ^ 64
    fits n k a b = omega (arith, a, b)

-- ---- one entry of a folder

pub room_left : (path : PathNames) → length path < 16 → 16 - length path ≡ suc (15 - length path)
room_left path few = omega (arith, few)

pub file_walks : (t : FolderTree) (path below : PathNames) (text name full : Bytes) (e : Entry) (before edits : List Edit) (n m : ℕ) (result : Result (Unit {0}) ReadTree) → kind_of e ≡ kinds.File → length path < 16 → is_name name ≡ true
    → below ≡ path ++ name ∷ [] → full ≡ text ++ 47 ∷ name → entry_at t (text ++ 47 ∷ name) ≡ Some e
    → ((content : Bytes) → entry_at t full ≡ Some (AFile content) → Walks (Ok (Put below (take 16777217 content)) ∷ []) before n result edits m)
    → Walks (met_one t (16 - length path) path text (name, e)) before n result edits m
file_walks t path below text name full (AFile content) before edits n m result kind few good below_is full_is there read =
    let r : 16 - length path ≡ suc (15 - length path) = room_left path few in
    let met : met_one t (16 - length path) path text (name, AFile content) ≡ Ok (Put below (take 16777217 content)) ∷ [] =
    ap (λ room. met_one t room path text (name, AFile content)) r ∙ rw good (ap (λ (p : PathNames). Ok (Put p (take 16777217 content)) ∷ []) (sym below_is)) in
    subst (λ (ms : List Met). Walks ms before n result edits m) (sym met) (read content (ap (entry_at t) full_is ∙ there))
file_walks t path below text name full AFolder before edits n m result kind few good below_is full_is there read = cc
file_walks t path below text name full AnOther before edits n m result kind few good below_is full_is there read = cc

folder_met : (t : FolderTree) (path below : PathNames) (text name full : Bytes) (e : Entry) → kind_of e ≡ kinds.Folder → length path < 16 → is_name name ≡ true → below ≡ path ++ name ∷ [] → full ≡ text ++ 47 ∷ name
    → met_one t (16 - length path) path text (name, e) ≡ met_or_made below (met_below t (16 - length below) below full)
folder_met t path below text name full AFolder kind few good below_is full_is =
    let r : 16 - length path ≡ suc (15 - length path) = room_left path few in
    let s : 16 - length below ≡ 15 - length path = deeper path below name below_is in
    ap (λ room. met_one t room path text (name, AFolder)) r ∙ rw good (rw (s, below_is, full_is) refl)
  where
    deeper : (path below : PathNames) (name : Bytes) → below ≡ path ++ name ∷ [] → 16 - length below ≡ 15 - length path
    deeper path below name e = omega (arith, ap length e, length-append path (name ∷ []))
folder_met t path below text name full (AFile content) kind few good below_is full_is = cc
folder_met t path below text name full AnOther kind few good below_is full_is = cc

pub after_all : (edits : List Edit) → after edits (Ok []) ≡ Ok edits
after_all [] = refl
after_all (e ∷ edits) = ap (onto e) (after_all edits)

onto_same : (e : Edit) (v w : Walked) → onto e v ≡ onto e w → v ≡ w
onto_same e (Ok es) (Ok fs) h = let same : es ≡ fs = cc in ap Ok same
onto_same e (Err f) (Err g) h = let same : f ≡ g = cc in ap Err same
onto_same e (Ok es) (Err g) h = cc
onto_same e (Err f) (Ok fs) h = cc

after_same : (edits : List Edit) (v w : Walked) → after edits v ≡ after edits w → v ≡ w
after_same [] v w h = h
after_same (e ∷ edits) v w h = after_same edits v w (onto_same e (after edits v) (after edits w) h)

onto_parts : (e : Edit) (w : Walked) (es : List Edit) → onto e w ≡ Ok es → (rest : List Edit) × ((w ≡ Ok rest) × (es ≡ e ∷ rest))
onto_parts e (Ok rest) es h = (rest, (refl, cc))
onto_parts e (Err fault) es h = cc

after_parts : (before : List Edit) (w : Walked) (es : List Edit) → after before w ≡ Ok es → (more : List Edit) × ((w ≡ Ok more) × (es ≡ before ++ more))
after_parts [] w es h = (es, (h, refl))
after_parts (e ∷ before) w es h =
    let r = onto_parts e (after before w) es h in
    let q = after_parts before w r.0 r.1.0 in
    (q.0, (q.1.0, r.1.1 ∙ ap (λ (fs : List Edit). e ∷ fs) q.1.1))

-- where nothing was added, nothing was met
none_added : (met : List Met) (before edits : List Edit) (n m : ℕ) → nat_lt 536870912 n ≡ false → length edits ≤ length before → Goes met before n edits m → (met ≡ []) × (edits ≡ before)
none_added met before edits n m room same h =
    let all : after before (walk_edits n met) ≡ Ok edits = ap (going_on before n) (sym (append-nil met)) ∙ h [] ∙ after_all edits in
    let r = after_parts before (walk_edits n met) edits all in
    let none : r.0 ≡ [] = empty r.0 (omega (arith, same, ap length r.1.1, length-append before r.0)) in
    (nothing met (r.1.0 ∙ ap Ok none), r.1.1 ∙ ap (λ (fs : List Edit). before ++ fs) none ∙ append-nil before)
  where
    empty : (es : List Edit) → length es ≡ 0 → es ≡ []
    empty [] h = refl
    empty (e ∷ es) h = cc

    onto_some : (e : Edit) (w : Walked) → onto e w ≡ Ok [] → ⊥
    onto_some e (Ok es) h = cc
    onto_some e (Err fault) h = cc

    nothing : (met : List Met) → walk_edits n met ≡ Ok [] → met ≡ []
    nothing [] h = refl
    nothing (Ok e ∷ met) h = absurd (onto_some e (walk_edits (n + size e) met) (sym (walked_file n e met room) ∙ h))
    nothing (Err fault ∷ met) h = let z : Err fault ≡ Ok [] = sym (walked_fault n fault met room) ∙ h in cc

-- what was met below a folder, of which edits came
pub met_goes : (path : PathNames) (met : List Met) (before edits : List Edit) (n m : ℕ) → (length edits ≡ length before → ⊥) → Goes met before n edits m → Goes (met_or_made path met) before n edits m
met_goes path (e ∷ met) before edits n m more h = h
met_goes path [] before edits n m more h = absurd (more (ap length same)) where
  same : edits ≡ before
  same = let z : Ok before ≡ Ok edits = sym (after_all before) ∙ h [] ∙ after_all edits in cc

-- and of which none came: the folder is made
pub made_goes : (path : PathNames) (met : List Met) (before edits made : List Edit) (n m k : ℕ) → nat_lt 536870912 n ≡ false → length edits ≤ length before → Goes met before n edits m → made ≡ edits ++ MakeFolder path ∷ [] → k ≡ m → Goes (met_or_made path met) before n made k
made_goes path met before edits made n m k room same h made_is read rest =
    let none = none_added met before edits n m room same h in
    let walked : walk_edits n rest ≡ walk_edits m rest = after_same before (walk_edits n rest) (walk_edits m rest) (ap (λ (ms : List Met). going_on before n (ms ++ rest)) (sym none.0) ∙ h rest ∙ ap (λ (es : List Edit). after es (walk_edits m rest)) none.1) in
    let first : going_on before n (Ok (MakeFolder path) ∷ rest) ≡ after (before ++ MakeFolder path ∷ []) (walk_edits n rest) =
    ap (after before) (walked_file n (MakeFolder path) rest room ∙ ap (λ i. onto (MakeFolder path) (walk_edits i rest)) (plus_none n)) ∙ sym (after_more before (MakeFolder path) (walk_edits n rest)) in
    ap (λ (ms : List Met). going_on before n (met_or_made path ms ++ rest)) none.0 ∙ first
    ∙ ap (after (before ++ MakeFolder path ∷ [])) walked
    ∙ ap (λ (es : List Edit). after (es ++ MakeFolder path ∷ []) (walk_edits m rest)) (sym none.1)
    ∙ ap (λ (es : List Edit). after es (walk_edits m rest)) (sym made_is) ∙ ap (λ i. going_on made i rest) (sym read)
  where
    plus_none : (n : ℕ) → n + 0 ≡ n
    plus_none n = omega arith

-- what breaks a rule below a folder breaks it there
met_ends : (path : PathNames) (met : List Met) (before : List Edit) (n : ℕ) (fault : WalkFault) → Ends met before n fault → Ends (met_or_made path met) before n fault
met_ends path (e ∷ met) before n fault h = h
met_ends path [] before n fault h = let z : Ok before ≡ Err fault = sym (after_all before) ∙ h [] in cc

pub below_ends : (path : PathNames) (met : List Met) (before : List Edit) (n : ℕ) (error : ReadTree) → ((rest : List Met) → MatchOption (broken_rule error) ⊤ (λ fault. going_on before n (met ++ rest) ≡ Err fault))
    → (rest : List Met) → MatchOption (broken_rule error) ⊤ (λ fault. going_on before n (met_or_made path met ++ rest) ≡ Err fault)
below_ends path met before n error = by (broken_rule error) where
  by : (o : Option WalkFault) → ((rest : List Met) → MatchOption o ⊤ (λ fault. going_on before n (met ++ rest) ≡ Err fault)) → (rest : List Met) → MatchOption o ⊤ (λ fault. going_on before n (met_or_made path met ++ rest) ≡ Err fault)
  by None h rest = tt
  by (Some fault) h rest = met_ends path met before n fault h rest

pub folder_walks : (t : FolderTree) (path below : PathNames) (text name full : Bytes) (e : Entry) (before edits : List Edit) (n m : ℕ) (result : Result (Unit {0}) ReadTree) → kind_of e ≡ kinds.Folder → length path < 16 → is_name name ≡ true
    → below ≡ path ++ name ∷ [] → full ≡ text ++ 47 ∷ name → Walks (met_or_made below (met_below t (16 - length below) below full)) before n result edits m
    → Walks (met_one t (16 - length path) path text (name, e)) before n result edits m
folder_walks t path below text name full e before edits n m result kind few good below_is full_is walk =
    subst (λ (ms : List Met). Walks ms before n result edits m) (sym (folder_met t path below text name full e kind few good below_is full_is)) walk

-- a file or a folder that breaks a rule
pub place_ends : (t : FolderTree) (path : PathNames) (text name : Bytes) (e : Entry) (edits : List Edit) (n : ℕ) (error : ReadTree) → (kind_of e ≡ kinds.Other → ⊥) → nat_lt 536870912 n ≡ false
    → (error ≡ refusals.TooDeep → length path ≡ 16) → (error ≡ refusals.BadName → (length path < 16) × (is_name name ≡ false))
    → (rest : List Met) → MatchOption (broken_rule error) ⊤ (λ fault. going_on edits n (met_one t (16 - length path) path text (name, e) ++ rest) ≡ Err fault)
place_ends t path text name e edits n refusals.FolderFault kind room deep bad rest = tt
place_ends t path text name e edits n refusals.NoMemory kind room deep bad rest = tt
place_ends t path text name e edits n refusals.TooDeep kind room deep bad rest =
    let r : 16 - length path ≡ 0 = omega (arith, deep refl) in
    subst (λ k. going_on edits n (met_one t k path text (name, e) ++ rest) ≡ Err IsTooDeep) (sym r) (past e kind)
  where
    past : (e : Entry) → (kind_of e ≡ kinds.Other → ⊥) → going_on edits n (met_past (name, e) ++ rest) ≡ Err IsTooDeep
    past (AFile content) kind = fault_ends IsTooDeep edits n room rest
    past AFolder kind = fault_ends IsTooDeep edits n room rest
    past AnOther kind = absurd (kind refl)
place_ends t path text name e edits n refusals.BadName kind room deep bad rest =
    let b = bad refl in
    let r : 16 - length path ≡ suc (15 - length path) = room_left path b.0 in
    subst (λ k. going_on edits n (met_one t k path text (name, e) ++ rest) ≡ Err IsBadName) (sym r) (broken_name e kind b.1)
  where
    broken_name : (e : Entry) → (kind_of e ≡ kinds.Other → ⊥) → is_name name ≡ false → going_on edits n (met_at (met_below t (15 - length path)) path text (name, e) ++ rest) ≡ Err IsBadName
    broken_name (AFile content) kind no_name = rw no_name (fault_ends IsBadName edits n room rest)
    broken_name AFolder kind no_name = rw no_name (fault_ends IsBadName edits n room rest)
    broken_name AnOther kind no_name = absurd (kind refl)

-- ---- one entry of a folder after another

pub met_is : (t : FolderTree) (room : ℕ) (path : PathNames) (text : Bytes) → met_below t room path text ≡ flat_map (met_one t room path text) (sort_entries (entries_below t text))
unfolding met_below
met_is t zero path text = refl
met_is t (suc room) path text = refl

-- what stands where an entry is listed
pub record Found (t : FolderTree) (path : Bytes) (i : ℕ) (x : FolderEntry) : Type 0 where
  pub entry : Entry
  pub within : i < length (sort_entries (entries_below t path))
  pub at : get_or (sort_entries (entries_below t path)) i (string_bytes x.name, entry) ≡ (string_bytes x.name, entry)
  pub there : entry_at t (path ++ 47 ∷ string_bytes x.name) ≡ Some entry
  pub kind : kind_of entry ≡ x.kind

listed_at : (es : List (Bytes × Entry)) (fs : List FolderEntry) (i : ℕ) (x : FolderEntry) → map view_entry fs ≡ map (λ e. (e.0, kind_of e.1)) es → i < length fs → x ≡ get_or fs i x
    → (entry : Entry) × ((i < length es) × (get_or es i (string_bytes x.name, entry) ≡ (string_bytes x.name, entry)) × (kind_of entry ≡ x.kind))
listed_at es [] i x same within is = absurd (omega (arith, within))
listed_at [] (f ∷ fs) i x same within is = cc
listed_at (e ∷ es) (f ∷ fs) zero x same within is =
    let first : view_entry f ≡ (e.0, kind_of e.1) = cc in
    let name : string_bytes f.name ≡ e.0 = ap (λ (p : Bytes × EntryKind). p.0) first in
    let kind : f.kind ≡ kind_of e.1 = ap (λ (p : Bytes × EntryKind). p.1) first in
    let name_x : e.0 ≡ string_bytes x.name = sym name ∙ ap (λ (y : FolderEntry). string_bytes y.name) (sym is) in
    let kind_x : kind_of e.1 ≡ x.kind = sym kind ∙ ap (λ (y : FolderEntry). y.kind) (sym is) in
    (e.1, (omega arith, ap (λ (n : Bytes). (n, e.1)) name_x, kind_x))
listed_at (e ∷ es) (f ∷ fs) (suc i) x same within is =
    let rest : map view_entry fs ≡ map (λ e. (e.0, kind_of e.1)) es = cc in
    let r = listed_at es fs i x rest (omega (arith, within)) is in
    (r.0, (omega (arith, r.1.0), r.1.1, r.1.2))

pub found : (t : FolderTree) (path : Bytes) (fs : List FolderEntry) (i : ℕ) (x : FolderEntry) → IsSortedListing t path (map view_entry fs) → i < length fs → x ≡ get_or fs i x → Found t path i x
found t path fs i x h within is =
    let r = listed_at (sort_entries (entries_below t path)) fs i x h.entries within is in
    let d : Bytes × Entry = (string_bytes x.name, r.0) in
    let s = h.stand i d r.1.0 in
    record {
      entry = r.0;
      within = r.1.0;
      at = r.1.1;
      there = subst (λ (e : Bytes × Entry). entry_at t (path ++ 47 ∷ e.0) ≡ Some e.1) r.1.1 s;
      kind = r.1.2;
    }

pub one_more : {X Y : Type 0} (f : X → List Y) (xs : List X) (i : ℕ) (x : X) → i < length xs → get_or xs i x ≡ x → flat_map f (take (i + 1) xs) ≡ flat_map f (take i xs) ++ f x
one_more f xs i x within is =
    ap (flat_map f) (take_more xs i x within) ∙ ap (λ y. flat_map f (take i xs ++ y ∷ [])) is ∙ flat_map-append f (take i xs) (x ∷ []) ∙ ap (λ ys. flat_map f (take i xs) ++ ys) (append-nil (f x))

pub whole : {X Y : Type 0} (f : X → List Y) (xs : List X) (i : ℕ) → flat_map f xs ≡ flat_map f (take i xs) ++ flat_map f (drop i xs)
whole f xs i = ap (flat_map f) (sym (take-append-drop i xs)) ∙ flat_map-append f (take i xs) (drop i xs)

pub entry_goes : (t : FolderTree) (room : ℕ) (path : PathNames) (text : Bytes) (i : ℕ) (x : FolderEntry) (first second third : List Edit) (k m n : ℕ) → (h : Found t text i x)
    → Goes (flat_map (met_one t room path text) (take i (sort_entries (entries_below t text)))) first k second m
    → Goes (met_one t room path text (string_bytes x.name, h.entry)) second m third n
    → Goes (flat_map (met_one t room path text) (take (i + 1) (sort_entries (entries_below t text)))) first k third n
entry_goes t room path text i x first second third k m n h f g =
    subst (λ (ms : List Met). Goes ms first k third n) (sym (one_more (met_one t room path text) (sort_entries (entries_below t text)) i (string_bytes x.name, h.entry) h.within h.at))
    (goes_then (flat_map (met_one t room path text) (take i (sort_entries (entries_below t text)))) (met_one t room path text (string_bytes x.name, h.entry)) first second third k m n f g)

pub entry_ends : (t : FolderTree) (room : ℕ) (path : PathNames) (text : Bytes) (i : ℕ) (x : FolderEntry) (first second : List Edit) (k m : ℕ) (error : ReadTree) → (h : Found t text i x)
    → Goes (flat_map (met_one t room path text) (take i (sort_entries (entries_below t text)))) first k second m
    → ((rest : List Met) → MatchOption (broken_rule error) ⊤ (λ fault. going_on second m (met_one t room path text (string_bytes x.name, h.entry) ++ rest) ≡ Err fault))
    → (rest : List Met) → MatchOption (broken_rule error) ⊤ (λ fault. going_on first k (met_below t room path text ++ rest) ≡ Err fault)
entry_ends t room path text i x first second k m error h f g = by (broken_rule error) g where
  by : (o : Option WalkFault) → ((rest : List Met) → MatchOption o ⊤ (λ fault. going_on second m (met_one t room path text (string_bytes x.name, h.entry) ++ rest) ≡ Err fault))
      → (rest : List Met) → MatchOption o ⊤ (λ fault. going_on first k (met_below t room path text ++ rest) ≡ Err fault)
  by None g rest = tt
  by (Some fault) g rest =
      let es : List (Bytes × Entry) = sort_entries (entries_below t text) in
      let e : Bytes × Entry = (string_bytes x.name, h.entry) in
      let met : List Met = flat_map (met_one t room path text) (take i es) in
      let split : met_below t room path text ≡ (met ++ met_one t room path text e) ++ flat_map (met_one t room path text) (drop (i + 1) es) =
      met_is t room path text ∙ whole (met_one t room path text) es (i + 1) ∙ ap (λ ms. ms ++ flat_map (met_one t room path text) (drop (i + 1) es)) (one_more (met_one t room path text) es i e h.within h.at) in
      subst (λ (ms : List Met). going_on first k (ms ++ rest) ≡ Err fault) (sym split)
      (ends_more (met ++ met_one t room path text e) (flat_map (met_one t room path text) (drop (i + 1) es)) first k fault
      (ends_then met (met_one t room path text e) first second k m fault f g) rest)

pub folder_goes : (t : FolderTree) (room : ℕ) (path : PathNames) (text : Bytes) (fs : List FolderEntry) (i : ℕ) (first second : List Edit) (k m : ℕ) → IsSortedListing t text (map view_entry fs) → length fs ≤ i
    → Goes (flat_map (met_one t room path text) (take i (sort_entries (entries_below t text)))) first k second m → Goes (met_below t room path text) first k second m
folder_goes t room path text fs i first second k m h all f =
    let es : List (Bytes × Entry) = sort_entries (entries_below t text) in
    let same : length fs ≡ length es = sym (length-map fs view_entry) ∙ ap length h.entries ∙ length-map es (λ (e : Bytes × Entry). (e.0, kind_of e.1)) in
    let enough : length es ≤ i = omega (arith, same, all) in
    let met : met_below t room path text ≡ flat_map (met_one t room path text) (take i es) = met_is t room path text ∙ ap (flat_map (met_one t room path text)) (sym (take_all i es enough)) in
    subst (λ (ms : List Met). Goes ms first k second m) (sym met) f

-- ---- faults

pub wider : (a b c : ℕ) → a ≤ b → Rose b c → Rose a c
wider a b c le (inl h) = inl (omega (arith, le, h))
wider a b c le (inr h) = inr h

-- a fault of an entry that stands there is one of the outside
pub entry_fault : (tree : Option FolderTree) (a b c : ℕ) (wrong other : FolderTree → Type 0) → a ≤ b → ((t : FolderTree) → tree ≡ Some t → wrong t → ⊥) → MayFail (Rose b c) tree wrong → MayFail (Rose a c) tree other
entry_fault None a b c wrong other le right h = wider a b c le h
entry_fault (Some t) a b c wrong other le right (inl h) = inl (wider a b c le h)
entry_fault (Some t) a b c wrong other le right (inr h) = absurd (right t refl h)

pub kind_there : (t : FolderTree) (path : Bytes) (e : Entry) (kind : EntryKind) → entry_at t path ≡ Some e → kind_of e ≡ kind → kind_at t path ≡ Some kind
kind_there t path e kind there is = ap (option_map kind_of) there ∙ ap Some is

pub file_not_other : (kind : EntryKind) → kind ≡ kinds.File → kind ≡ kinds.Other → ⊥
file_not_other kind e f = let z : kinds.File ≡ kinds.Other = sym e ∙ f in cc

pub folder_not_other : (kind : EntryKind) → kind ≡ kinds.Folder → kind ≡ kinds.Other → ⊥
folder_not_other kind e f = let z : kinds.Folder ≡ kinds.Other = sym e ∙ f in cc

-- ---- the whole walk

pub root_is : (root : PathNames) → path_of (47 ∷ []) ≡ Ok root → root ≡ []
root_is root e = cc

pub whole_goes : (t : FolderTree) (root : Bytes) (path : PathNames) (text : Bytes) (edits : List Edit) (n : ℕ) → path ≡ [] → text ≡ root
    → Goes (met_below t (16 - length path) path text) [] 0 edits n → edits_of t root ≡ Ok edits
whole_goes t root path text edits n path_is text_is h =
    let all : walk_edits 0 (met_below t (16 - length path) path text) ≡ Ok edits = ap (walk_edits 0) (sym (append-nil (met_below t (16 - length path) path text))) ∙ h [] ∙ after_all edits in
    rw (path_is, text_is) at all

pub whole_ends : (t : FolderTree) (root : Bytes) (path : PathNames) (text : Bytes) (fault : WalkFault) → path ≡ [] → text ≡ root
    → Ends (met_below t (16 - length path) path text) [] 0 fault → edits_of t root ≡ Err fault
whole_ends t root path text fault path_is text_is h =
    let all : walk_edits 0 (met_below t (16 - length path) path text) ≡ Err fault = ap (walk_edits 0) (sym (append-nil (met_below t (16 - length path) path text))) ∙ h [] in
    rw (path_is, text_is) at all

pub refused_is : {T : Type 0} (error inner answer : ReadTree) (r : Result T ReadTree) → r ≡ Err error → error ≡ inner → r ≡ Err answer → inner ≡ answer
refused_is error inner answer r is same said = cc
