-- A mount over one packet more.
use Rattle.std.proofs.Common.{ℕ, ◌≡◌, ◌+◌, ◌<◌, ◌⊎◌, ◌==◌, true, false, List, [], ◌∷◌, ◌++◌, length, get_or, map, take, drop, Option, Some, None, inl, inr, refl, sym, ap, subst, ◌∙◌, append_assoc, arith, length-append}
use Rattle.std.proofs.Math.ListN.{set}
use Rattle.std.specs.List.{All, Contains, slice_get}
use Rattle.std.specs.Option.{option_map}
use Rattle.std.proofs.lemmas.Bool.{cases_eq, ne_eqb, eq-eqb}
use Rattle.std.proofs.lemmas.List.{append-nil, drop_all, length-map, length-set, map-append, map_more, get_or-map, get_or-set_same, get_or-set_other, take_all}
use Rattle.std.proofs.lemmas.List.Elements.{All-append, All-cons, All-nil, Contains-get_or}
use Rattle.std.proofs.lemmas.Option.{none-some, same_Some, slice_get-get_or, slice_get-map, slice_get_within}
use Rattle.section_stream.specs.Cuts.{Bytes, candidates}
use Rattle.section_stream.specs.Rules as streams
use Rattle.tuner_core.specs.Stands as tuners
use Rattle.tuner_core.specs.declared.tuner.Tuner.{Tuner}
use Rattle.mount_table.specs.declared.mount.Mount.{Mount}
use Rattle.mount_table.specs.declared.receiver.Receiver.{Receiver}
use Rattle.mount_table.specs.Inner.Places.{pids_of, IsPlaceOf}
use Rattle.mount_table.specs.Receiving.{header_pid, with_header_pid}
use Rattle.mount_table.specs.Stands.{Receives, CompletesOne}
use Rattle.mount_table.proofs.Cutting.{handed_with, handed_without, cuts_more, count_before, count_after, cuts_still}
use Rattle.mount_table.proofs.Placing.{pid_in}

-- ---- one mount

-- the PID in a packet's header, as the code compares it
pub other_pid : (own pid : ℕ) (x : Bytes) → header_pid x ≡ pid → (pid ≡ own → ⊥) → (header_pid x == own) ≡ false
other_pid own pid x is other = ap (λ (q : ℕ). q == own) is ∙ ne_eqb pid own other

pub own_pid : (own : ℕ) (x : Bytes) → header_pid x ≡ own → (header_pid x == own) ≡ true
own_pid own x is = eq-eqb (header_pid x) own is

-- a packet of another PID passes
pub passes : (x : Bytes) (r : Receiver) → (header_pid x == r.mount.pid) ≡ false → (packets : List Bytes) → Receives packets r → Receives (packets ++ x ∷ []) r
passes x r f packets h = record {
  own = h.own;
  demux = subst (λ (ps : List Bytes). streams.StandsFor r.demux ps) (sym (handed_without r.mount.pid packets x f)) h.demux;
  tuner = subst (λ (cs : List Bytes). tuners.StandsFor r.tuner cs) (sym (cuts_still r.mount.pid packets x f)) h.tuner;
}

-- a packet of its own is taken: what the demultiplexer gave of it, the receiver heard
pub hears : (x : Bytes) (new : List Bytes) (r s : Receiver) → (header_pid x == r.mount.pid) ≡ true → s.mount ≡ r.mount → s.demux.pid ≡ r.demux.pid
    → ((packets : List Bytes) → streams.StandsFor r.demux packets → streams.StandsFor s.demux (packets ++ x ∷ []))
    → ((packets : List Bytes) → streams.StandsFor r.demux packets → candidates r.demux.pid (packets ++ x ∷ []) ≡ candidates r.demux.pid packets ++ new)
    → ((heard : List Bytes) → tuners.StandsFor r.tuner heard → tuners.StandsFor s.tuner (heard ++ new))
    → (packets : List Bytes) → Receives packets r → Receives (packets ++ x ∷ []) s
hears x new r s mine mount own stands cuts hear packets h =
    let pid : ℕ = r.mount.pid in
    let same : s.mount.pid ≡ pid = ap (λ (m : Mount). m.pid) mount in
    let demux : streams.StandsFor s.demux (with_header_pid pid (packets ++ x ∷ [])) =
    subst (λ (ps : List Bytes). streams.StandsFor s.demux ps) (sym (handed_with pid packets x mine)) (stands (with_header_pid pid packets) h.demux) in
    let tuner : tuners.StandsFor s.tuner (candidates pid (packets ++ x ∷ [])) =
    subst (λ (cs : List Bytes). tuners.StandsFor s.tuner cs) (sym (cuts_more pid r.demux.pid packets x new mine h.own (cuts (with_header_pid pid packets) h.demux))) (hear (candidates pid packets) h.tuner) in
    record {
      own = own ∙ h.own ∙ sym same;
      demux = subst (λ (q : ℕ). streams.StandsFor s.demux (with_header_pid q (packets ++ x ∷ []))) (sym same) demux;
      tuner = subst (λ (q : ℕ). tuners.StandsFor s.tuner (candidates q (packets ++ x ∷ []))) (sym same) tuner;
    }

-- a packet that completed no section
pub hears_none : {A : Type 0} (view : A → Bytes) (xs : List A) (t : Tuner) → (length xs == 0) ≡ true
    → (heard : List Bytes) → tuners.StandsFor t heard → tuners.StandsFor t (heard ++ map view xs)
hears_none view [] t e heard s = subst (λ (cs : List Bytes). tuners.StandsFor t cs) (sym (append-nil heard)) s
hears_none view (x ∷ xs) t e heard s =
    let some : (length (x ∷ xs) == 0) ≡ false = ne_eqb (length (x ∷ xs)) 0 (λ n. omega (arith, n)) in absurd (cc (e, some))

abbrev pub Grows : ℕ → List Bytes → Bytes → Type 0
Grows pid packets x = length (candidates pid packets) < length (candidates pid (packets ++ x ∷ []))

-- where the demultiplexer found no memory
pub grows_in_demux : (x : Bytes) (r : Receiver) → (header_pid x == r.mount.pid) ≡ true
    → ((packets : List Bytes) → streams.StandsFor r.demux packets → Grows r.demux.pid packets x) → (packets : List Bytes) → Receives packets r → Grows r.mount.pid packets x
grows_in_demux x r mine grows packets h =
    let more = grows (with_header_pid r.mount.pid packets) h.demux in
    let before = count_before r.mount.pid r.demux.pid packets h.own in
    let after = count_after r.mount.pid r.demux.pid packets x mine h.own in
    omega (arith, more, before, after)

-- where the receiver found none for what the demultiplexer gave
pub grows_in_tuner : {A : Type 0} (x : Bytes) (view : A → Bytes) (new : List A) (r : Receiver) → (header_pid x == r.mount.pid) ≡ true → 0 < length new
    → ((packets : List Bytes) → streams.StandsFor r.demux packets → candidates r.demux.pid (packets ++ x ∷ []) ≡ candidates r.demux.pid packets ++ map view new)
    → (packets : List Bytes) → Receives packets r → Grows r.mount.pid packets x
grows_in_tuner x view new r mine some cuts packets h =
    let all = ap (λ (cs : List Bytes). length cs) (cuts_more r.mount.pid r.demux.pid packets x (map view new) mine h.own (cuts (with_header_pid r.mount.pid packets) h.demux)) in
    let both = length-append (candidates r.mount.pid packets) (map view new) in
    let mapped = length-map new view in
    omega (arith, some, all, both, mapped)

-- ---- all mounts

abbrev pub mount_in : Receiver → Mount
mount_in r = r.mount

-- its PID stands at its place
pid_stands : (rs : List Receiver) (k : ℕ) (d : Receiver) → k < length rs → slice_get (pids_of (map mount_in rs)) k ≡ Some (get_or rs k d).mount.pid
pid_stands rs k d lt =
    slice_get-map pid_in (map mount_in rs) k ∙ ap (option_map pid_in) (slice_get-map mount_in rs k) ∙ ap (λ (o : Option Receiver). option_map pid_in (option_map mount_in o)) (slice_get-get_or rs k d lt)

abbrev pub IsAt : Bytes → List Receiver → Option ℕ → Type 0
IsAt x rs place = IsPlaceOf (header_pid x) (pids_of (map mount_in rs)) place

-- a place that a packet has
pub at_place : (x : Bytes) (rs : List Receiver) (place : Option ℕ) (i n : ℕ) → IsAt x rs place → place ≡ Some n → i ≡ n → IsAt x rs (Some i)
at_place x rs place i n h e f = subst (IsAt x rs) (e ∙ ap (λ (k : ℕ). Some k) (sym f)) h

pub is_within : (x : Bytes) (rs : List Receiver) (i : ℕ) → IsAt x rs (Some i) → i < length rs
is_within x rs i place =
    omega (arith, slice_get_within (pids_of (map mount_in rs)) i (header_pid x) ((place i).0 refl), length-map (map mount_in rs) pid_in, length-map rs mount_in)

-- the receiver there is on the packet's PID
pub on_its_pid : (x : Bytes) (rs : List Receiver) (i : ℕ) (d : Receiver) → IsAt x rs (Some i) → header_pid x ≡ (get_or rs i d).mount.pid
on_its_pid x rs i d place = same_Some (header_pid x) (get_or rs i d).mount.pid (sym ((place i).0 refl) ∙ pid_stands rs i d (is_within x rs i place))

-- the others pass it
passes_at : (x : Bytes) (rs : List Receiver) (k : ℕ) (d : Receiver) (place : Option ℕ) → IsAt x rs place → k < length rs
    → (place ≡ Some k → ⊥) → (packets : List Bytes) → All (Receives packets) rs → Receives (packets ++ x ∷ []) (get_or rs k d)
passes_at x rs k d place h lt elsewhere packets all =
    let r : Receiver = get_or rs k d in
    let another : header_pid x ≡ r.mount.pid → ⊥ = λ e. elsewhere ((h k).1 (pid_stands rs k d lt ∙ ap (λ (p : ℕ). Some p) (sym e))) in
    passes x r (other_pid r.mount.pid (header_pid x) x refl another) packets (all k d lt)

-- where the one at the packet's place took it, all have heard it
pub heard_at : (x : Bytes) (rs : List Receiver) (i : ℕ) (d r : Receiver) → IsAt x rs (Some i)
    → ((packets : List Bytes) → Receives packets (get_or rs i d) → Receives (packets ++ x ∷ []) r)
    → (packets : List Bytes) → All (Receives packets) rs → All (Receives (packets ++ x ∷ [])) (set rs i r)
heard_at x rs i d r place hear packets all k e within = go (cases_eq k i) where
  lt : k < length rs
  lt = omega (arith, within, length-set rs i r)

  go : (k ≡ i) ⊎ (k ≡ i → ⊥) → Receives (packets ++ x ∷ []) (get_or (set rs i r) k e)
  go (inl same) =
      let here : i < length rs = omega (arith, lt, same) in
      let its : get_or (set rs i r) k e ≡ r = ap (λ (n : ℕ). get_or (set rs i r) n e) same ∙ get_or-set_same rs i r e here in
      subst (Receives (packets ++ x ∷ [])) (sym its) (hear packets (all i d here))
  go (inr other) =
      subst (Receives (packets ++ x ∷ [])) (sym (get_or-set_other rs i k r e other))
      (passes_at x rs k e (Some i) place lt (λ f. other (sym (same_Some i k f))) packets all)

-- a packet of no place
pub heard_nowhere : (x : Bytes) (rs : List Receiver) → IsAt x rs None
    → (packets : List Bytes) → All (Receives packets) rs → All (Receives (packets ++ x ∷ [])) rs
heard_nowhere x rs place packets all k e within = passes_at x rs k e None place within (none-some k) packets all

-- where the one at the place found no memory
pub completes_at : (x : Bytes) (rs : List Receiver) (i : ℕ) (d : Receiver) → i < length rs
    → ((packets : List Bytes) → Receives packets (get_or rs i d) → Grows (get_or rs i d).mount.pid packets x)
    → (packets : List Bytes) → All (Receives packets) rs → CompletesOne (map mount_in rs) packets x
completes_at x rs i d lt grows packets all =
    let r : Receiver = get_or rs i d in
    let found : get_or (map mount_in rs) i d.mount ≡ r.mount = get_or-map mount_in rs i d d.mount lt in
    let within : i < length (map mount_in rs) = omega (arith, lt, length-map rs mount_in) in
    record {
      mount = r.mount;
      among = subst (λ (m : Mount). Contains (map mount_in rs) m) found (Contains-get_or (map mount_in rs) i d.mount within);
      more = grows packets (all i d lt);
    }

-- ---- one element after another

-- the bytes of one more
pub map_next : {A : Type 0} (f : A → Bytes) (before : List Bytes) (xs : List A) (i : ℕ) (x : A) → i < length xs → x ≡ get_or xs i x
    → (before ++ map f (take i xs)) ++ f x ∷ [] ≡ before ++ map f (take (i + 1) xs)
map_next f before xs i x h e =
    append_assoc before (map f (take i xs)) (f x ∷ []) ∙ ap (λ (ys : List Bytes). before ++ ys) (ap (λ y. map f (take i xs) ++ f y ∷ []) e ∙ sym (map_more f xs i x h))

pub same_list : {A : Type 0} (xs : List A) → map (λ (x : A). x) xs ≡ xs
same_list [] = refl
same_list {A} (x ∷ xs) = ap (λ (ys : List A). x ∷ ys) (same_list xs)

-- the mounts of these receivers are these, and nothing was received
pub record AreNew (mounts : List Mount) (rs : List Receiver) : Type 0 where
  pub same : map mount_in rs ≡ mounts
  pub receives : All (Receives []) rs

pub none_new : AreNew [] []
none_new = record { same = refl; receives = All-nil (Receives []) }

pub one_new : (mounts : List Mount) (rs : List Receiver) (m : Mount) (r : Receiver) → r.mount ≡ m → Receives [] r → AreNew mounts rs → AreNew (mounts ++ m ∷ []) (rs ++ r ∷ [])
one_new mounts rs m r is receives h = record {
  same = map-append mount_in rs (r ∷ []) ∙ ap (λ (ms : List Mount). ms ++ r.mount ∷ []) h.same ∙ ap (λ (n : Mount). mounts ++ n ∷ []) is;
  receives = All-append (Receives []) rs (r ∷ []) h.receives (All-cons (Receives []) r [] receives (All-nil (Receives [])));
}

-- what a call leaves of a list whose elements it may write: as many as before
pub written_back : {A : Type 0} (n : ℕ) (xs ys : List A) → n ≡ length xs → length ys ≡ length xs → take n (ys ++ drop (length ys) xs) ≡ ys
written_back {A} n xs ys e f =
    ap (λ (zs : List A). take n (ys ++ zs)) (drop_all (length ys) xs (omega (arith, f))) ∙ ap (λ (zs : List A). take n zs) (append-nil ys)
    ∙ take_all n ys (omega (arith, e, f))
