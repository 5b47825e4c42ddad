-- A playout from reading to reading: what stands before a cycle and after it, and how it ends.
use Rattle.std.proofs.Common.{◌≡◌, ◌≤◌, ◌<◌, ◌⊎◌, inl, inr, ℕ, ◌+◌, Bool, true, false, cond, List, [], ◌∷◌, ◌++◌, length, Result, Ok, Err, Option, Some, None, IfOk, OnOk, refl, ◌∙◌, sym, ap, subst, arith, append_assoc, append-nil, length-append}
use Rattle.std.specs.List.{All, concat, fold}
use Rattle.std.specs.Option.{option_map}
use Rattle.std.specs.String.{string_bytes}
use Rattle.std.proofs.lemmas.List.Elements.{All-nil, All-push}
use Rattle.std.proofs.lemmas.List.Sums.{fold_push}
use Rattle.path_tree.specs.Trees.{Tree}
use Rattle.generation.specs.Lawful.{IsPublishable}
use Rattle.generation.specs.Layouts.{GenerationState, first_of, next_of}
use Rattle.section_stream.specs.Cuts.{Bytes}
use Rattle.section_stream.specs.Packing.{IsSectionLike, last_of, past}
use Rattle.shell_streams.specs.Sending.{OutputState, HasPut, Puts}
use Rattle.shell_streams.specs.declared.output.OutputFault.{OutputFault}
use Rattle.shell_streams.specs.declared.output.OutputFault.TheVariants as outputs
use Rattle.shell_streams.proofs.CallerLemmas.{puts_as, puts_none, puts_nothing, puts_stop, puts_then}
use Rattle.folder_playout.specs.OnAir.{OnAir, air_bytes, begun, groups_of, same_tree, taken, turn, with_cycle, with_tree}
use Rattle.folder_playout.specs.Readings.{Reading, Found, Refused, Failed, is_no_memory, reading_in}
use Rattle.folder_playout.specs.Notices.{Notice, Began, Kept, began_notice, difference_of, kept_notices, told_from, told_of}
use Rattle.folder_playout.specs.Laws.{CanBeSent, PlayoutsAreBroadcasts, PlayoutsCanBePacked}
use Rattle.folder_playout.specs.Playing.{AirsAll, AirsPart, AirsSeason, IsFull, IsLawful, Sent, ToldFront, air_of, notices_of, sent_bytes}
use Rattle.folder_playout.specs.Inner.Standing.{IsNext, IsPlaying, IsTurning, StandsFor, before_group, given_bytes, told_next}
use Rattle.folder_playout.specs.declared.notices.Difference.{Difference}
use Rattle.folder_playout.specs.declared.reading.Unread.{Unread}
use Rattle.folder_playout.specs.declared.reading.Unread.TheVariants as unread
use Rattle.folder_playout.specs.declared.playout.Playout.{Playout}
use Rattle.folder_playout.proofs.Packing.{end_given, given_front}

-- ---- one reading more

pub air_push : (s : Sent) (tree : Tree) (rest : List Reading) (r : Reading) → air_of s tree (rest ++ r ∷ []) ≡ turn s.weights (air_of s tree rest) r
air_push s tree rest r = fold_push (turn s.weights) (with_cycle s.weights (begun s.carousel tree)) rest r

told_from_push : (weights : List ℕ) (a : OnAir) (cycle : ℕ) (rs : List Reading) (r : Reading)
    → told_from weights a cycle (rs ++ r ∷ []) ≡ told_from weights a cycle rs ++ told_of (fold (turn weights) a rs) (cycle + length rs) r
told_from_push weights a cycle [] r = append-nil (told_of a cycle r) ∙ ap (λ k. told_of a k r) (omega arith)
told_from_push weights a cycle (x ∷ xs) r =
    ap (λ ns. told_of a cycle x ++ ns) (told_from_push weights (turn weights a x) (cycle + 1) xs r
    ∙ ap (λ k. told_from weights (turn weights a x) (cycle + 1) xs ++ told_of (fold (turn weights) (turn weights a x) xs) k r) (omega arith))
    ∙ sym (append_assoc (told_of a cycle x) (told_from weights (turn weights a x) (cycle + 1) xs) (told_of (fold (turn weights) (turn weights a x) xs) (cycle + length (x ∷ xs)) r))

pub told_push : (s : Sent) (tree : Tree) (rest : List Reading) (r : Reading) (cycle : ℕ) → 2 + length rest ≡ cycle
    → notices_of s tree rest ++ told_of (air_of s tree rest) cycle r ≡ notices_of s tree (rest ++ r ∷ [])
told_push s tree rest r cycle e =
    let start = with_cycle s.weights (begun s.carousel tree) in
    sym (ap (λ ns. began_notice (first_of s.carousel) (next_of (first_of s.carousel) tree) 1 ∷ ns)
    (told_from_push s.weights start 2 rest r ∙ ap (λ k. told_from s.weights start 2 rest ++ told_of (air_of s tree rest) k r) e))

-- ---- numbers of generations

abbrev pub Counted : OnAir → Type 0
Counted a = a.generation.number ≡ length a.trees

counted_taken : (a : OnAir) (r : Reading) → Counted a → Counted (taken a r)
counted_taken a (Found tree) e = by (same_tree tree a.generation.tree) where
  by : (b : Bool) → Counted (cond b a (with_tree tree a))
  by true = e
  by false = omega (arith, e, length-append a.trees (tree ∷ []))
counted_taken a (Refused fault path) e = e
counted_taken a (Failed path) e = e

counted_turns : (weights : List ℕ) (a : OnAir) (rs : List Reading) → Counted a → Counted (fold (turn weights) a rs)
counted_turns weights a [] e = e
counted_turns weights a (r ∷ rs) e = counted_turns weights (turn weights a r) rs (counted_taken a r e)

pub counted : (s : Sent) (tree : Tree) (rest : List Reading) → (air_of s tree rest).generation.number ≡ length (air_of s tree rest).trees
counted s tree rest = counted_turns s.weights (with_cycle s.weights (begun s.carousel tree)) rest refl

-- a tree other than that on the air makes a generation
pub other_taken : (a : OnAir) (tree : Tree) → same_tree tree a.generation.tree ≡ false → taken a (Found tree) ≡ with_tree tree a
other_taken a tree e = ap (λ b. cond b a (with_tree tree a)) e

pub other_told : (a : OnAir) (tree : Tree) (cycle : ℕ) → same_tree tree a.generation.tree ≡ false → told_of a cycle (Found tree) ≡ began_notice a.generation (next_of a.generation tree) cycle ∷ []
other_told a tree cycle e = ap (λ b. cond b [] (began_notice a.generation (next_of a.generation tree) cycle ∷ [])) e

-- ---- what holds of the readings of a playout

-- the laws that its ends stand on
pub record Laws : Type 0 where
  pub broadcasts : PlayoutsAreBroadcasts
  pub packed : PlayoutsCanBePacked

-- these readings make a lawful broadcast
pub record AreGood (s : Sent) (tree : Tree) (rest : List Reading) : Type 0 where
  pub small : s.carousel < 4294967296
  pub first : IsPublishable tree
  pub others : All CanBeSent rest
  pub few : length (air_of s tree rest).trees ≤ 16383

pub lawful_of : Laws → (s : Sent) (tree : Tree) (rest : List Reading) → AreGood s tree rest → IsLawful s tree rest
lawful_of laws s tree rest good = laws.broadcasts s.carousel s.weights tree rest good.small good.first good.others good.few

pub like_of : Laws → (s : Sent) (tree : Tree) (rest : List Reading) → AreGood s tree rest → All (All IsSectionLike) (groups_of (air_of s tree rest))
like_of laws s tree rest good = laws.packed s.carousel s.weights (air_of s tree rest) (lawful_of laws s tree rest good)

-- all bytes that these readings have given are a front of those that are sent
pub front_sent : Laws → (s : Sent) (tree : Tree) (rest : List Reading) → AreGood s tree rest → (more : Bytes) × (given_bytes s.pid (air_of s tree rest) ++ more ≡ sent_bytes s tree rest)
front_sent laws s tree rest good =
    let a = air_of s tree rest in
    let end = fold past (before_group s.pid a) a.running in
    (concat (last_of end), end_given s.pid a end (like_of laws s tree rest good) refl)

-- ---- how it ends

-- a fault stops it after a front of what is given
pub ends_part : Laws → {T : Type 0} (s : Sent) (tree : Tree) (rest : List Reading) (cycles : ℕ) (Read : List Reading → Type 0) (Told : List Notice → Type 0) (fault : OutputFault) (old new : OutputState)
    → AreGood s tree rest → Read (Found tree ∷ rest) ⊎ IsFull s Read tree rest → length rest + 1 ≤ cycles → ToldFront Told (notices_of s tree rest)
    → (bytes more : Bytes) → bytes ++ more ≡ sent_bytes s tree rest → Puts {T = T} (Err fault) old new bytes → AirsPart s cycles Read Told fault old new
ends_part laws s tree rest cycles Read Told fault old new good read few told bytes more e p = record {
  tree = tree;
  rest = rest;
  read = read;
  few = few;
  lawful = lawful_of laws s tree rest good;
  told = told;
  puts = puts_as e (puts_stop more p);
}

-- all of it was told
pub told_all : (Told : List Notice → Type 0) (all : List Notice) → Told all → ToldFront Told all
told_all Told all t = record { front = all; rest = []; told = t; split = append-nil all }

pub told_front : (Told : List Notice → Type 0) (front rest all : List Notice) → front ++ rest ≡ all → Told front → ToldFront Told all
told_front Told front rest all e t = record { front = front; rest = rest; told = t; split = e }

-- ---- before the first cycle

-- the laws, a first tree, and nothing sent
pub good_first : (s : Sent) (tree : Tree) → s.carousel < 4294967296 → IsPublishable tree → AreGood s tree []
good_first s tree small is = record { small = small; first = is; others = All-nil CanBeSent; few = omega arith }

pub nothing_given : (pid carousel : ℕ) (tree : Tree) (o : OutputState) → HasPut o o (given_bytes pid (begun carousel tree))
nothing_given pid carousel tree o = puts_nothing tt o

-- there was no memory for its generation
pub first_unmade : Laws → (s : Sent) (tree : Tree) (cycles : ℕ) (Read : List Reading → Type 0) (Told : List Notice → Type 0) (o : OutputState)
    → s.carousel < 4294967296 → IsPublishable tree → Read (Found tree ∷ []) → Told [] → 1 ≤ cycles → AirsPart s cycles Read Told outputs.NoMemory o o
first_unmade laws s tree cycles Read Told o small is read told some =
    ends_part laws {T = Unit {0}} s tree [] cycles Read Told outputs.NoMemory o o (good_first s tree small is) (inl read) some
    (told_front Told [] (notices_of s tree []) (notices_of s tree []) refl told) [] (sent_bytes s tree []) refl (puts_none o [])

-- the first notice is that of the first generation
pub first_told : (s : Sent) (tree : Tree) (Told : List Notice → Type 0) (d : Difference) → d ≡ difference_of (first_of s.carousel) (next_of (first_of s.carousel) tree)
    → Told (Began 1 1 d ∷ []) → Told (notices_of s tree [])
first_told s tree Told d e t = subst (λ x. Told (Began 1 1 x ∷ [])) e t

-- its cycle wasn't put whole
pub first_unsent : Laws → {T : Type 0} (s : Sent) (tree : Tree) (cycles : ℕ) (Read : List Reading → Type 0) (Told : List Notice → Type 0) (fault : OutputFault) (old new : OutputState)
    → s.carousel < 4294967296 → IsPublishable tree → Read (Found tree ∷ []) → Told (notices_of s tree []) → 1 ≤ cycles
    → Puts {T = T} (Err fault) old new (given_bytes s.pid (air_of s tree [])) → AirsPart s cycles Read Told fault old new
first_unsent laws {T} s tree cycles Read Told fault old new small is read told some p =
    let good = good_first s tree small is in
    let front = front_sent laws s tree [] good in
    ends_part laws {T = T} s tree [] cycles Read Told fault old new good (inl read) some (told_all Told (notices_of s tree []) told) (given_bytes s.pid (air_of s tree [])) front.0 front.1 p

pub first_sent : (s : Sent) (tree : Tree) (Read : List Reading → Type 0) (Told : List Notice → Type 0) (old new : OutputState) (p : Playout)
    → IsPublishable tree → Read (Found tree ∷ []) → Told (notices_of s tree []) → StandsFor p s.pid (air_of s tree []) → HasPut old new (given_bytes s.pid (air_of s tree [])) → new.pending ≡ []
    → IsPlaying s Read Told 1 old new p
first_sent s tree Read Told old new p is read told stands puts empty = record {
  tree = tree;
  rest = [];
  read = read;
  many = refl;
  first = is;
  others = All-nil CanBeSent;
  few = omega arith;
  told = told;
  stands = stands;
  puts = puts;
  empty = empty;
}

-- ---- a reading after so many cycles

pub good_of : (s : Sent) (Read : List Reading → Type 0) (Told : List Notice → Type 0) (done : ℕ) (start now : OutputState) (p : Playout) → s.carousel < 4294967296
    → (h : IsPlaying s Read Told done start now p) → AreGood s h.tree h.rest
good_of s Read Told done start now p small h = record { small = small; first = h.first; others = h.others; few = h.few }

-- nothing was added
unadded : {X : Type 0} (P : List X → Type 0) (xs ys : List X) → ys ≡ [] → P (xs ++ ys) → P xs
unadded P xs ys e p = subst P (ap (λ zs. xs ++ zs) e ∙ append-nil xs) p

-- there was no memory for it
pub unread_ends : Laws → (s : Sent) (cycles done cycle : ℕ) (Read Next : List Reading → Type 0) (Told Says : List Notice → Type 0) (start now : OutputState) (p : Playout) (read : Result Tree Unread) (fault : OutputFault)
    → s.carousel < 4294967296 → done < cycles → IsPlaying s Read Told done start now p → (read ≡ Err unread.NoMemory) × (fault ≡ outputs.NoMemory)
    → ((rs : List Reading) → Read rs → Next (rs ++ reading_in read)) → ((ns : List Notice) → Told ns → Says (ns ++ told_next p.generation.number cycle read))
    → AirsPart s cycles Next Says fault start now
unread_ends laws s cycles done cycle Read Next Told Says start now p read fault small lt h e reads says =
    let good = good_of s Read Told done start now p small h in
    let front = front_sent laws s h.tree h.rest good in
    let given = given_bytes s.pid (air_of s h.tree h.rest) in
    let notices = notices_of s h.tree h.rest in
    subst (λ f. AirsPart s cycles Next Says f start now) (sym e.1)
    (ends_part laws {T = Unit {0}} s h.tree h.rest cycles Next Says outputs.NoMemory start now good
    (inl (unadded Next (Found h.tree ∷ h.rest) (reading_in read) (ap reading_in e.0) (reads (Found h.tree ∷ h.rest) h.read)))
    (omega (arith, h.many, lt))
    (told_all Says notices (unadded Says notices (told_next p.generation.number cycle read) (ap (told_next p.generation.number cycle) e.0) (says notices h.told)))
    (given ++ []) front.0 (ap (λ bs. bs ++ front.0) (append-nil given) ∙ front.1)
    (puts_then h.puts (puts_none {T = Unit {0}} now [])))

-- a reading's tree can be sent
sendable : (read : Result Tree Unread) (r : Reading) → reading_in read ≡ r ∷ [] → IfOk read IsPublishable → CanBeSent r
sendable (Ok tree) r e is = let same : Found tree ≡ r = cc in subst CanBeSent same is
sendable (Err (unread.Failed path)) r e is = let same : Failed (string_bytes path) ≡ r = cc in subst CanBeSent same tt
sendable (Err (unread.Refused fault path)) r e is = let same : Refused fault (option_map string_bytes path) ≡ r = cc in subst CanBeSent same tt
sendable (Err unread.NoMemory) r e is = absurd (cc)

-- it leaves the generation on the air
pub same_goes_on : (s : Sent) (done : ℕ) (Read Next : List Reading → Type 0) (Told Says : List Notice → Type 0) (start now : OutputState) (p : Playout) (read : Result Tree Unread) (found : Option Tree)
    → IsPlaying s Read Told done start now p → found ≡ None → IsNext p.generation (done + 1) read (Ok found) → IfOk read IsPublishable
    → ((rs : List Reading) → Read rs → Next (rs ++ reading_in read)) → ((ns : List Notice) → Told ns → Says (ns ++ told_next p.generation.number (done + 1) read))
    → IsTurning s Next Says done start now p
same_goes_on s done Read Next Told Says start now p read (Some tree) h none next is reads says = absurd (cc)
same_goes_on s done Read Next Told Says start now p read None h none next is reads says =
    let a = air_of s h.tree h.rest in
    let r = next.0 in
    let same = next.2 a (sym h.stands.generation) in
    let notices = notices_of s h.tree h.rest in
    let cycle : 2 + length h.rest ≡ done + 1 = omega (arith, h.many) in
    record {
      tree = h.tree;
      rest = h.rest;
      reading = r;
      read = subst (λ rs. Next ((Found h.tree ∷ h.rest) ++ rs)) next.1 (reads (Found h.tree ∷ h.rest) h.read);
      many = h.many;
      first = h.first;
      others = All-push CanBeSent h.rest r h.others (sendable read r next.1 is);
      few = subst (λ (b : OnAir). length b.trees ≤ 16383) (sym same.0) h.few;
      told = subst Says (ap (λ ns. notices ++ ns) (sym same.1) ∙ told_push s h.tree h.rest r (done + 1) cycle) (says notices h.told);
      stands = subst (λ b. StandsFor p s.pid b) (sym same.0) h.stands;
      puts = subst (λ b. HasPut start now (given_bytes s.pid b)) (sym same.0) h.puts;
    }

-- ---- another tree

-- the facts of a reading of another tree, where so many cycles are sent
pub record IsOther (s : Sent) (next : Tree) (Next : List Reading → Type 0) (Says : List Notice → Type 0) (done : ℕ) (start now : OutputState) (p : Playout) : Type 0 where
  pub tree : Tree
  pub rest : List Reading
  pub good : AreGood s tree rest
  pub sendable : IsPublishable next
  pub many : length rest + 1 ≡ done
  pub read : Next (Found tree ∷ rest ++ Found next ∷ [])
  pub told : Says (notices_of s tree rest)
  pub stands : StandsFor p s.pid (air_of s tree rest)
  pub puts : HasPut start now (given_bytes s.pid (air_of s tree rest))
  pub other : same_tree next (air_of s tree rest).generation.tree ≡ false

pub other_of : (s : Sent) (done : ℕ) (Read Next : List Reading → Type 0) (Told Says : List Notice → Type 0) (start now : OutputState) (p : Playout) (read : Result Tree Unread) (found : Option Tree) (next : Tree)
    → s.carousel < 4294967296 → IsPlaying s Read Told done start now p → found ≡ Some next → IsNext p.generation (done + 1) read (Ok found) → IfOk read IsPublishable
    → ((rs : List Reading) → Read rs → Next (rs ++ reading_in read)) → ((ns : List Notice) → Told ns → Says (ns ++ told_next p.generation.number (done + 1) read))
    → IsOther s next Next Says done start now p
other_of s done Read Next Told Says start now p read found next small h some gives is reads says =
    let notices = notices_of s h.tree h.rest in
    let e : (read ≡ Ok next) × (same_tree next p.generation.tree ≡ false) = subst (λ o. IsNext p.generation (done + 1) read (Ok o)) some gives in
    record {
      tree = h.tree;
      rest = h.rest;
      good = good_of s Read Told done start now p small h;
      sendable = subst (λ r. IfOk r IsPublishable) e.0 is;
      many = h.many;
      read = subst (λ r. Next ((Found h.tree ∷ h.rest) ++ reading_in r)) e.0 (reads (Found h.tree ∷ h.rest) h.read);
      told = unadded Says notices (told_next p.generation.number (done + 1) read) (ap (told_next p.generation.number (done + 1)) e.0) (says notices h.told);
      stands = h.stands;
      puts = h.puts;
      other = subst (λ g. same_tree next g.tree ≡ false) h.stands.generation e.1;
    }

-- the last generation is on the air
full_of : (s : Sent) (next : Tree) (Next : List Reading → Type 0) (Says : List Notice → Type 0) (done : ℕ) (start now : OutputState) (p : Playout) → (o : IsOther s next Next Says done start now p) → 16383 ≤ p.generation.number
    → IsFull s Next o.tree o.rest
full_of s next Next Says done start now p o last =
    let a = air_of s o.tree o.rest in
    let count = counted s o.tree o.rest in
    let same : p.generation.number ≡ a.generation.number = ap (λ g. g.number) o.stands.generation in
    record { next = next; read = o.read; number = omega (arith, last, same, count, o.good.few); other = o.other }

pub season_part : Laws → {T : Type 0} (s : Sent) (next : Tree) (cycles done : ℕ) (Next : List Reading → Type 0) (Says : List Notice → Type 0) (start now new : OutputState) (p : Playout) (fault : OutputFault)
    → (o : IsOther s next Next Says done start now p) → 16383 ≤ p.generation.number → done < cycles → Puts {T = T} (Err fault) start new (sent_bytes s o.tree o.rest) → AirsPart s cycles Next Says fault start new
season_part laws {T} s next cycles done Next Says start now new p fault o last lt puts =
    ends_part laws {T = T} s o.tree o.rest cycles Next Says fault start new o.good (inr (full_of s next Next Says done start now p o last)) (omega (arith, o.many, lt))
    (told_all Says (notices_of s o.tree o.rest) o.told) (sent_bytes s o.tree o.rest) [] (append-nil (sent_bytes s o.tree o.rest)) puts

pub season_ends : Laws → (s : Sent) (next : Tree) (cycles done : ℕ) (Next : List Reading → Type 0) (Says : List Notice → Type 0) (start now new : OutputState) (p : Playout)
    → (o : IsOther s next Next Says done start now p) → 16383 ≤ p.generation.number → done < cycles → HasPut start new (sent_bytes s o.tree o.rest) → new.pending ≡ [] → AirsSeason s cycles Next Says start new
season_ends laws s next cycles done Next Says start now new p o last lt puts empty = record {
  tree = o.tree;
  rest = o.rest;
  full = full_of s next Next Says done start now p o last;
  few = omega (arith, o.many, lt);
  lawful = lawful_of laws s o.tree o.rest o.good;
  told = o.told;
  puts = puts;
  empty = empty;
}

-- the readings with it are a lawful broadcast's
more_is : (s : Sent) (next : Tree) (Next : List Reading → Type 0) (Says : List Notice → Type 0) (done : ℕ) (start now : OutputState) (p : Playout) → (o : IsOther s next Next Says done start now p)
    → air_of s o.tree (o.rest ++ Found next ∷ []) ≡ with_cycle s.weights (with_tree next (air_of s o.tree o.rest))
more_is s next Next Says done start now p o = air_push s o.tree o.rest (Found next) ∙ ap (with_cycle s.weights) (other_taken (air_of s o.tree o.rest) next o.other)

few_more : (s : Sent) (next : Tree) (Next : List Reading → Type 0) (Says : List Notice → Type 0) (done : ℕ) (start now : OutputState) (p : Playout) → (o : IsOther s next Next Says done start now p) → p.generation.number < 16383
    → length (with_tree next (air_of s o.tree o.rest)).trees ≤ 16383
few_more s next Next Says done start now p o room =
    let a = air_of s o.tree o.rest in
    let count = counted s o.tree o.rest in
    let same : p.generation.number ≡ a.generation.number = ap (λ g. g.number) o.stands.generation in
    omega (arith, room, same, count, length-append a.trees (next ∷ []))

good_more : (s : Sent) (next : Tree) (Next : List Reading → Type 0) (Says : List Notice → Type 0) (done : ℕ) (start now : OutputState) (p : Playout) → (o : IsOther s next Next Says done start now p) → p.generation.number < 16383
    → AreGood s o.tree (o.rest ++ Found next ∷ [])
good_more s next Next Says done start now p o room = record {
  small = o.good.small;
  first = o.good.first;
  others = All-push CanBeSent o.rest (Found next) o.good.others o.sendable;
  few = subst (λ (b : OnAir). length b.trees ≤ 16383) (sym (more_is s next Next Says done start now p o)) (few_more s next Next Says done start now p o room);
}

-- it wasn't made
pub other_unmade : Laws → {T : Type 0} (s : Sent) (next : Tree) (cycles done : ℕ) (Next : List Reading → Type 0) (Says : List Notice → Type 0) (start now new : OutputState) (p : Playout) (fault : OutputFault)
    → (o : IsOther s next Next Says done start now p) → p.generation.number < 16383 → done < cycles → Puts {T = T} (Err fault) start new (given_bytes s.pid (with_tree next (air_of s o.tree o.rest)))
    → AirsPart s cycles Next Says fault start new
other_unmade laws {T} s next cycles done Next Says start now new p fault o room lt puts =
    let rest = o.rest ++ Found next ∷ [] in
    let good = good_more s next Next Says done start now p o room in
    let b = with_tree next (air_of s o.tree o.rest) in
    let is = more_is s next Next Says done start now p o in
    let like : All (All IsSectionLike) (groups_of (with_cycle s.weights b)) = subst (λ x. All (All IsSectionLike) (groups_of x)) is (like_of laws s o.tree rest good) in
    let front = given_front s.weights s.pid b like in
    ends_part laws {T = T} s o.tree rest cycles Next Says fault start new good (inl o.read) (omega (arith, o.many, lt, length-append o.rest (Found next ∷ [])))
    (told_front Says (notices_of s o.tree o.rest) (told_of (air_of s o.tree o.rest) (2 + length o.rest) (Found next)) (notices_of s o.tree rest)
    (told_push s o.tree o.rest (Found next) (2 + length o.rest) refl) o.told)
    (given_bytes s.pid b) front.0 (front.1 ∙ ap (air_bytes s.pid) (sym is)) puts

-- it is on the air
pub other_begins : (s : Sent) (next : Tree) (done : ℕ) (Next : List Reading → Type 0) (Says Tells : List Notice → Type 0) (start now new : OutputState) (p q : Playout) (number : ℕ) (d : Difference)
    → (o : IsOther s next Next Says done start now p) → p.generation.number < 16383 → StandsFor q s.pid (with_tree next (air_of s o.tree o.rest)) → HasPut start new (given_bytes s.pid (with_tree next (air_of s o.tree o.rest)))
    → number ≡ q.generation.number → d ≡ difference_of p.generation (next_of p.generation next) → ((ns : List Notice) → Says ns → Tells (ns ++ Began number (done + 1) d ∷ []))
    → IsTurning s Next Tells done start new q
other_begins s next done Next Says Tells start now new p q number d o room stands puts n e tells =
    let a = air_of s o.tree o.rest in
    let taken_is = other_taken a next o.other in
    let notices = notices_of s o.tree o.rest in
    let cycle : 2 + length o.rest ≡ done + 1 = omega (arith, o.many) in
    let gen = o.stands.generation in
    let number_is : number ≡ (next_of a.generation next).number = n ∙ ap (λ g. g.number) stands.generation in
    let difference_is : d ≡ difference_of a.generation (next_of a.generation next) = e ∙ ap (λ g. difference_of g (next_of g next)) gen in
    let notice : Began number (done + 1) d ∷ [] ≡ told_of a (done + 1) (Found next) =
    ap (λ k. Began k (done + 1) d ∷ []) number_is ∙ ap (λ x. Began (next_of a.generation next).number (done + 1) x ∷ []) difference_is ∙ sym (other_told a next (done + 1) o.other) in
    record {
      tree = o.tree;
      rest = o.rest;
      reading = Found next;
      read = o.read;
      many = o.many;
      first = o.good.first;
      others = All-push CanBeSent o.rest (Found next) o.good.others o.sendable;
      few = subst (λ (b : OnAir). length b.trees ≤ 16383) (sym taken_is) (few_more s next Next Says done start now p o room);
      told = subst Tells (ap (λ ns. notices ++ ns) notice ∙ told_push s o.tree o.rest (Found next) (done + 1) cycle) (tells notices o.told);
      stands = subst (λ b. StandsFor q s.pid b) (sym taken_is) stands;
      puts = subst (λ b. HasPut start new (given_bytes s.pid b)) (sym taken_is) puts;
    }

-- ---- a cycle after a reading

good_turning : (s : Sent) (Read : List Reading → Type 0) (Told : List Notice → Type 0) (done : ℕ) (start now : OutputState) (p : Playout) → s.carousel < 4294967296
    → (t : IsTurning s Read Told done start now p) → AreGood s t.tree (t.rest ++ t.reading ∷ [])
good_turning s Read Told done start now p small t = record {
  small = small;
  first = t.first;
  others = t.others;
  few = subst (λ (b : OnAir). length b.trees ≤ 16383) (sym (air_push s t.tree t.rest t.reading)) t.few;
}

-- what is on the air with it
turned_is : (s : Sent) (weights : List ℕ) (Read : List Reading → Type 0) (Told : List Notice → Type 0) (done : ℕ) (start now : OutputState) (p : Playout) → s.weights ≡ weights
    → (t : IsTurning s Read Told done start now p) → with_cycle weights (taken (air_of s t.tree t.rest) t.reading) ≡ air_of s t.tree (t.rest ++ t.reading ∷ [])
turned_is s weights Read Told done start now p e t =
    ap (λ ws. with_cycle ws (taken (air_of s t.tree t.rest) t.reading)) (sym e) ∙ sym (air_push s t.tree t.rest t.reading)

pub turn_part : Laws → {T : Type 0} (s : Sent) (weights : List ℕ) (cycles done : ℕ) (Read : List Reading → Type 0) (Told : List Notice → Type 0) (start now new : OutputState) (p : Playout) (fault : OutputFault)
    → s.carousel < 4294967296 → s.weights ≡ weights → done < cycles → (t : IsTurning s Read Told done start now p)
    → Puts {T = T} (Err fault) start new (given_bytes s.pid (with_cycle weights (taken (air_of s t.tree t.rest) t.reading))) → AirsPart s cycles Read Told fault start new
turn_part laws {T} s weights cycles done Read Told start now new p fault small e lt t puts =
    let rest = t.rest ++ t.reading ∷ [] in
    let good = good_turning s Read Told done start now p small t in
    let front = front_sent laws s t.tree rest good in
    let is = turned_is s weights Read Told done start now p e t in
    ends_part laws {T = T} s t.tree rest cycles Read Told fault start new good (inl t.read) (omega (arith, t.many, lt, length-append t.rest (t.reading ∷ [])))
    (told_all Told (notices_of s t.tree rest) t.told) (given_bytes s.pid (air_of s t.tree rest)) front.0 front.1 (puts_as (ap (given_bytes s.pid) is) puts)

pub turn_done : (s : Sent) (weights : List ℕ) (done : ℕ) (Read : List Reading → Type 0) (Told : List Notice → Type 0) (start now new : OutputState) (p q : Playout)
    → s.weights ≡ weights → (t : IsTurning s Read Told done start now p) → StandsFor q s.pid (with_cycle weights (taken (air_of s t.tree t.rest) t.reading))
    → HasPut start new (given_bytes s.pid (with_cycle weights (taken (air_of s t.tree t.rest) t.reading))) → new.pending ≡ [] → IsPlaying s Read Told (done + 1) start new q
turn_done s weights done Read Told start now new p q e t stands puts empty =
    let rest = t.rest ++ t.reading ∷ [] in
    let is = turned_is s weights Read Told done start now p e t in
    record {
      tree = t.tree;
      rest = rest;
      read = t.read;
      many = omega (arith, t.many, length-append t.rest (t.reading ∷ []));
      first = t.first;
      others = t.others;
      few = subst (λ (b : OnAir). length b.trees ≤ 16383) (sym (air_push s t.tree t.rest t.reading)) t.few;
      told = t.told;
      stands = subst (λ b. StandsFor q s.pid b) is stands;
      puts = puts_as (ap (given_bytes s.pid) is) puts;
      empty = empty;
    }

-- ---- the last cycle

pub all_ends : Laws → (s : Sent) (cycles done : ℕ) (Read : List Reading → Type 0) (Told : List Notice → Type 0) (start now new : OutputState) (p : Playout)
    → s.carousel < 4294967296 → done ≡ cycles → (h : IsPlaying s Read Told done start now p) → HasPut start new (sent_bytes s h.tree h.rest) → new.pending ≡ [] → AirsAll s cycles Read Told start new
all_ends laws s cycles done Read Told start now new p small all h puts empty = record {
  tree = h.tree;
  rest = h.rest;
  read = h.read;
  many = h.many ∙ all;
  lawful = lawful_of laws s h.tree h.rest (good_of s Read Told done start now p small h);
  told = h.told;
  puts = puts;
  empty = empty;
}

pub all_part : Laws → {T : Type 0} (s : Sent) (cycles done : ℕ) (Read : List Reading → Type 0) (Told : List Notice → Type 0) (start now new : OutputState) (p : Playout) (fault : OutputFault)
    → s.carousel < 4294967296 → done ≡ cycles → (h : IsPlaying s Read Told done start now p) → Puts {T = T} (Err fault) start new (sent_bytes s h.tree h.rest) → AirsPart s cycles Read Told fault start new
all_part laws {T} s cycles done Read Told start now new p fault small all h puts =
    ends_part laws {T = T} s h.tree h.rest cycles Read Told fault start new (good_of s Read Told done start now p small h) (inl h.read) (omega (arith, h.many, all))
    (told_all Told (notices_of s h.tree h.rest) h.told) (sent_bytes s h.tree h.rest) [] (append-nil (sent_bytes s h.tree h.rest)) puts

-- ---- what a reading gives

pub same_read : (g : GenerationState) (cycle : ℕ) (read : Result Tree Unread) (tree : Tree) → read ≡ Ok tree → same_tree tree g.tree ≡ true → IsNext g cycle read (Ok None)
same_read g cycle read tree e same =
    subst (λ r. IsNext g cycle r (Ok None)) (sym e) (
      Found tree,
      refl,
      λ s gen.
          let is : same_tree tree s.generation.tree ≡ true = ap (λ (x : GenerationState). same_tree tree x.tree) gen ∙ same in
          (ap (λ b. cond b s (with_tree tree s)) is, ap (λ b. cond b [] (began_notice s.generation (next_of s.generation tree) cycle ∷ [])) is),
    )

pub kept_read : (g : GenerationState) (cycle : ℕ) (read : Result Tree Unread) (cause : Unread) → read ≡ Err cause → is_no_memory cause ≡ false → IsNext g cycle read (Ok None)
kept_read g cycle read unread.NoMemory e other = absurd (cc)
kept_read g cycle read (unread.Failed path) e other =
    let failed = Failed (string_bytes path) in
    subst (λ r. IsNext g cycle r (Ok None)) (sym e) (failed, refl, λ s gen. (refl, ap (λ (x : GenerationState). Kept x.number cycle failed ∷ []) gen))
kept_read g cycle read (unread.Refused fault path) e other =
    let refused = Refused fault (option_map string_bytes path) in
    subst (λ r. IsNext g cycle r (Ok None)) (sym e) (refused, refl, λ s gen. (refl, ap (λ (x : GenerationState). Kept x.number cycle refused ∷ []) gen))

pub kept_told : (Says : List Notice → Type 0) (before : List Notice) (number given cycle : ℕ) (read : Result Tree Unread) (cause : Unread) → read ≡ Err cause → given ≡ number
    → Says (before ++ kept_notices given cycle cause) → Says (before ++ told_next number cycle read)
kept_told Says before number given cycle read cause e n told =
    subst (λ r. Says (before ++ told_next number cycle r)) (sym e) (subst (λ k. Says (before ++ kept_notices k cycle cause)) n told)

pub memory_is : (cause : Unread) → is_no_memory cause ≡ true → cause ≡ unread.NoMemory
memory_is unread.NoMemory e = refl
memory_is (unread.Failed path) e = absurd (cc)
memory_is (unread.Refused fault path) e = absurd (cc)

-- what holds whatever a call answers
pub on_ok : {T E : Type 0} {P : Type 0} (r : Result T E) → P → OnOk r P
on_ok (Ok x) p = p
on_ok (Err e) p = tt
