-- The premises, place by place, and that every reception meets what a receiver owes.
use Rattle.std.proofs.lemmas.Bool.{ltb-true, ltb-false}
use Rattle.std.proofs.Common.{◌≡◌, ℕ, zero, suc, ◌+◌, ◌-◌, ◌<◌, ◌≤◌, ◌⊎◌, inl, inr, Bool, true, false, ltb, List, [], ◌∷◌, ◌++◌, map, length, get_or, Some, refl, ap, sym, ◌∙◌, subst, arith}
use Rattle.std.specs.Prelude.{slice_get}
use Rattle.std.specs.List.{All, AllPairs, flat_map}
use Rattle.std.proofs.lemmas.List.{get_or_append_left, get_or-append-add, get_or-map, length-append, length-map}
use Rattle.std.proofs.lemmas.List.Elements.{All-cons, All-head, All-map, All-nil, All-tail}
use Rattle.std.specs.Option.{unwrap_or}
use Rattle.std.proofs.lemmas.Option.{same_Some}
use Rattle.carousel_profile.specs.declared.TheConstants.{BLOCK_SIZE}
use Rattle.path_tree.specs.Paths.{Bytes}
use Rattle.biop_object.specs.Names.{Layout}
use Rattle.ddb_block.specs.Blocks as ddb
use Rattle.cycle_planner.specs.declared.Item.{Item}
use Rattle.cycle_planner.specs.declared.Item.TheVariants.{Dsi, Dii, Block}
use Rattle.generation.specs.Lawful.{IsItem, Lawful, section_in, EqualVersionsMeanEqualBytes}
use Rattle.dsmcc_section.specs.Sections as sections
use Rattle.section_stream.specs.Cuts.{Cut, cuts, candidates}
use Rattle.section_stream.specs.Packing.{IsSectionLike}
use Rattle.section_stream.specs.Groups.{layout_of, places_in, starts_from}
use Rattle.section_stream.specs.Laws.{CutsComeInOrder}
use Rattle.section_stream.proofs.CallerLemmas.{places_count, places_within, starts_behind}
use Rattle.tuner_core.specs.Heard.{as_heard}
use Rattle.carousel_world.specs.Broadcasts.{Broadcast, Group, Sending, SendsInOrder, Ascription, NeverBack, IsAscribed, sendings, sendings_of}
use Rattle.carousel_world.specs.Premises.{Ascribed, AcceptedAreSent, IsFromGeneration, IsHeardOf}
use Rattle.carousel_world.specs.Receptions.{IsSentIn, Meets, EveryReceptionMeets}
use Rattle.carousel_world.proofs.Saying.{Spelled, says, hears_item, item_framed}
use Rattle.carousel_world.proofs.Modules.{IsSent, is_sent}
use Rattle.carousel_world.proofs.Generations.{IsSaidIn}
use Rattle.carousel_world.proofs.Ascribing.{AreAscribed, EachIsSaid, NoneGoesBack}
use Rattle.carousel_world.proofs.Receiving.{meets_ascribed}

pub record At {X : Type 0} (xs : List X) (k : ℕ) (x d : X) : Type 0 where
  pub inside : k < length xs
  pub is : get_or xs k d ≡ x

at : {X : Type 0} (xs : List X) (k : ℕ) (x d : X) → slice_get xs k ≡ Some x → At xs k x d
at [] k x d e = cc
at (y ∷ ys) zero x d e = record { inside = omega arith; is = same_Some y x e }
at (y ∷ ys) (suc k) x d e = let r = at ys k x d e in record { inside = omega (arith, r.inside); is = r.is }

get_map : {X Y : Type 0} (f : X → Y) (xs : List X) (k : ℕ) (y : Y) → slice_get (map f xs) k ≡ Some y → (x : X) × ((slice_get xs k ≡ Some x) × (y ≡ f x))
get_map f [] k y e = cc
get_map f (x ∷ xs) zero y e = (x, (refl, sym (same_Some (f x) y e)))
get_map f (x ∷ xs) (suc k) y e = get_map f xs k y e

below : (ls : List Layout) (g : ℕ) (item : Item) → IsItem ls g item → g < length ls
below ls g Dsi is = is
below ls g (Dii j) is = is.0
below ls g (Block m b) is = is.0

pub said : (carousel : ℕ) (ls : List Layout) (g : ℕ) (item : Item) → IsItem ls g item → IsSaidIn carousel ls g (says carousel ls g item)
said carousel ls g Dsi item = refl
said carousel ls g (Dii j) item = record { number = j; there = item.1; some = item.2; few = item.3; is = refl }
said carousel ls g (Block m b) item = record {
  bytes = item.1.0;
  listed = item.1.1;
  part = ap (λ o. ddb.block_of (unwrap_or o []) BLOCK_SIZE b) item.1.1;
  versioned = refl;
}

-- what is ascribed never goes back to an earlier generation
abbrev pub InOrder : Broadcast → Ascribed → Type 0
InOrder b is_from = (i j k l : ℕ) (s t : Sending) → i < j → is_from i k → is_from j l → slice_get (sendings b) k ≡ Some s → slice_get (sendings b) l ≡ Some t → s.0 ≤ t.0

pub in_order : (xs : List Sending) → AllPairs (λ s t. s.0 ≤ t.0) xs → (k l : ℕ) (s t : Sending) → k ≤ l → slice_get xs k ≡ Some s → slice_get xs l ≡ Some t → s.0 ≤ t.0
in_order xs pairs k l s t le e f = by (ltb k l) refl where
  by : (b : Bool) → ltb k l ≡ b → s.0 ≤ t.0
  by true b =
      let p = at xs k s s e in
      let q = at xs l t s f in
      let h = pairs k l s (ltb-true k l b) q.inside in
      subst (λ x. x.0 ≤ t.0) p.is (subst (λ x. (get_or xs k s).0 ≤ x.0) q.is h)
  by false b =
      let same : k ≡ l = let ge = ltb-false k l b in omega (arith, ge, le) in
      let one : s ≡ t = same_Some s t (sym e ∙ ap (slice_get xs) same ∙ f) in
      subst (λ x. s.0 ≤ x.0) one (omega arith)

pub each_said : (b : Broadcast) (cs : List Bytes) (is_from : Ascribed) → Spelled → Lawful b.carousel b.layouts b.trees → SendsInOrder b → AcceptedAreSent b cs is_from
    → EachIsSaid b.carousel b.layouts cs (IsFromGeneration b is_from)
each_said b cs is_from spelled lawful sends sent_all i bytes e accepted =
    let x = sent_all i bytes e accepted in
    let y = get_map (λ (s : Sending). section_in b.carousel b.layouts s.0 s.1) (sendings b) x.0 bytes x.2 in
    let s : Sending = y.0 in
    let p = at (sendings b) x.0 s s y.1.0 in
    let item : IsItem b.layouts s.0 s.1 = subst (λ (t : Sending). IsItem b.layouts t.0 t.1) p.is (sends.items x.0 s p.inside) in
    let lt : s.0 < length b.layouts = below b.layouts s.0 s.1 item in
    let sent = is_sent b.carousel b.layouts b.trees s.0 lawful lt in (
      s.0,
      (
        (x.0, s, x.1, y.1.0, refl),
        (
          lt,
          subst (λ z. IsSaidIn b.carousel b.layouts s.0 (as_heard z)) (sym y.1.1)
              (subst (IsSaidIn b.carousel b.layouts s.0) (sym (hears_item b.carousel b.layouts s.0 spelled sent s.1 item)) (said b.carousel b.layouts s.0 s.1 item)),
        ),
      ),
    )

pub none_back : (b : Broadcast) (is_from : Ascribed) → InOrder b is_from → NoneGoesBack (IsFromGeneration b is_from)
none_back b is_from ordered i j g k lt p q =
    subst (λ x. x ≤ k) p.4 (subst (λ x. p.1.0 ≤ x) q.4 (ordered i j p.0 q.0 p.1 q.1 lt p.2 q.2 p.3 q.3))

pub ascribed : (b : Broadcast) (cs : List Bytes) (is_from : Ascribed) → Spelled → IsHeardOf b cs is_from → InOrder b is_from → AreAscribed b.carousel b.layouts cs (IsFromGeneration b is_from)
ascribed b cs is_from spelled h ordered = record {
  each = each_said b cs is_from spelled h.lawful h.in_order h.accepted;
  order = none_back b is_from ordered;
  near = λ i j g k lt dii block none p q. h.near i j g k block (record { before = lt; there = dii; last = none }) p q;
}

pub sent_from : (b : Broadcast) (is_from : Ascribed) (i g : ℕ) → IsFromGeneration b is_from i g → IsSentIn b g
sent_from b is_from i g p = (p.0, p.1, p.3, p.4)

-- ---- over packets

-- the sections of a group
abbrev pub sections_in : ℕ → List Layout → Group → List Bytes
sections_in carousel ls g = map (section_in carousel ls g.generation) g.items

-- an element of two lists is one of the first or one of the second
abbrev pub InTwo : {X : Type 0} → List X → List X → ℕ → X → Type 0
InTwo xs ys k z = ((slice_get xs k ≡ Some z) × (k < length xs)) ⊎ ((length xs ≤ k) × (slice_get ys (k - length xs) ≡ Some z))

in_two : {X : Type 0} (xs ys : List X) (k : ℕ) (z : X) → slice_get (xs ++ ys) k ≡ Some z → InTwo xs ys k z
in_two [] ys k z e = inr (omega arith, subst (λ j. slice_get ys j ≡ Some z) (omega arith) e)
in_two (x ∷ xs) ys zero z e = inl (e, omega arith)
in_two (x ∷ xs) ys (suc k) z e = further (in_two xs ys k z e) where
  further : InTwo xs ys k z → InTwo (x ∷ xs) ys (suc k) z
  further (inl h) = let lt = h.1 in inl (h.0, omega (arith, lt))
  further (inr h) = let le = h.0 in inr (omega (arith, le), subst (λ j. slice_get ys j ≡ Some z) (omega (arith, le)) h.1)

its_generation : (g : Group) (k : ℕ) (s : Sending) → slice_get (sendings_of g) k ≡ Some s → s.0 ≡ g.generation
its_generation g k s e = let x = get_map (λ (item : Item). (g.generation, item)) g.items k s e in ap (λ (y : Sending). y.0) x.1.1

-- A section that begins in a packet of a lower number, or in the same, isn't later, or it is of the same group.
no_earlier : (carousel : ℕ) (ls : List Layout) (n : ℕ) (gs : List Group) → All (λ g. All IsSectionLike (sections_in carousel ls g)) gs → (k l : ℕ) (p q : ℕ × ℕ) (s t : Sending)
    → slice_get (starts_from n (map (sections_in carousel ls) gs)) k ≡ Some p → slice_get (starts_from n (map (sections_in carousel ls) gs)) l ≡ Some q
    → slice_get (flat_map sendings_of gs) k ≡ Some s → slice_get (flat_map sendings_of gs) l ≡ Some t → p.0 ≤ q.0 → (k ≤ l) ⊎ (s.0 ≡ t.0)
no_earlier carousel ls n [] like k l p q s t e f x y le = cc
no_earlier carousel ls n (g ∷ gs) like k l p q s t e f x y le =
    go (λ i j a b c d. no_earlier carousel ls (n + packets) gs (All-tail Like g gs like) i j p q s t a b c d le)
    (in_two here later k p e) (in_two here later l q f) (in_two (sendings_of g) rest k s x) (in_two (sendings_of g) rest l t y) where
      Like : Group → Type 0
      Like h = All IsSectionLike (sections_in carousel ls h)

      packets : ℕ
      packets = length (layout_of (sections_in carousel ls g))

      here : List (ℕ × ℕ)
      here = places_in n (layout_of (sections_in carousel ls g))

      later : List (ℕ × ℕ)
      later = starts_from (n + packets) (map (sections_in carousel ls) gs)

      rest : List Sending
      rest = flat_map sendings_of gs

      size : length here ≡ length (sendings_of g)
      size = places_count n (sections_in carousel ls g) (All-head Like g gs like) ∙ length-map g.items (section_in carousel ls g.generation) ∙ sym (length-map g.items (λ item. (g.generation, item)))

      Next : Type 0
      Next = (i j : ℕ) → slice_get later i ≡ Some p → slice_get later j ≡ Some q → slice_get rest i ≡ Some s → slice_get rest j ≡ Some t → (i ≤ j) ⊎ (s.0 ≡ t.0)

      both : length here ≤ k → length here ≤ l → (k - length here ≤ l - length here) ⊎ (s.0 ≡ t.0) → (k ≤ l) ⊎ (s.0 ≡ t.0)
      both h i (inl j) = inl (omega (arith, h, i, j))
      both h i (inr j) = inr j

      above : (i : ℕ) (r : ℕ × ℕ) → slice_get later i ≡ Some r → n + packets ≤ r.0
      above i r h = let z = at later i r r h in subst (λ w. n + packets ≤ w.0) z.is (starts_behind (n + packets) (map (sections_in carousel ls) gs) i r z.inside)

      below_end : (i : ℕ) (r : ℕ × ℕ) → slice_get here i ≡ Some r → r.0 < n + packets
      below_end i r h = let z = at here i r r h in subst (λ w. w.0 < n + packets) z.is (places_within n (layout_of (sections_in carousel ls g)) i r z.inside).1

      go : Next → InTwo here later k p → InTwo here later l q → InTwo (sendings_of g) rest k s → InTwo (sendings_of g) rest l t → (k ≤ l) ⊎ (s.0 ≡ t.0)
      go next (inl a) (inl b) (inl c) (inl d) = inr (its_generation g k s c.0 ∙ sym (its_generation g l t d.0))
      go next (inl a) (inr b) c d = let lt = a.1 in let ge = b.0 in inl (omega (arith, lt, ge))
      go next (inr a) (inl b) c d = let x = above (k - length here) p a.1 in let y = below_end l q b.0 in absurd (omega (arith, x, y, le))
      go next (inr a) (inr b) (inr c) (inr d) =
          both a.0 b.0 (next (k - length here) (l - length here) a.1 b.1 (subst (λ w. slice_get rest (k - w) ≡ Some s) (sym size) c.1) (subst (λ w. slice_get rest (l - w) ≡ Some t) (sym size) d.1))
      go next (inl a) (inl b) (inr c) d = let lt = a.1 in let ge = c.0 in absurd (omega (arith, lt, ge, size))
      go next (inl a) (inl b) (inl c) (inr d) = let lt = b.1 in let ge = d.0 in absurd (omega (arith, lt, ge, size))
      go next (inr a) (inr b) (inl c) d = let lt = c.1 in let ge = a.0 in absurd (omega (arith, lt, ge, size))
      go next (inr a) (inr b) (inr c) (inl d) = let lt = d.1 in let ge = b.0 in absurd (omega (arith, lt, ge, size))

-- the sections of all groups meet the packer's condition
abbrev pub Framed : Type 0
Framed = (s : sections.Fields) → sections.Fits s → sections.IsFramed (sections.spelling s)

pub like_section : (bytes : Bytes) → sections.IsFramed bytes → IsSectionLike bytes
like_section bytes f = record { size = (f.least, f.most); length_field = sym f.counted; first = f.begins }

groups_like : (carousel : ℕ) (ls : List Layout) (gs : List Group) → ((g : ℕ) (item : Item) → IsItem ls g item → IsSectionLike (section_in carousel ls g item)) → All (λ s. IsItem ls s.0 s.1) (flat_map sendings_of gs)
    → All (λ g. All IsSectionLike (sections_in carousel ls g)) gs
groups_like carousel ls [] each items = All-nil (λ g. All IsSectionLike (sections_in carousel ls g))
groups_like carousel ls (g ∷ gs) each items =
    All-cons (λ h. All IsSectionLike (sections_in carousel ls h)) g gs
    (All-map IsSectionLike (section_in carousel ls g.generation) g.items
    (λ i d lt.
    let size : length (sendings_of g) ≡ length g.items = length-map g.items (λ item. (g.generation, item)) in
    let is : get_or (flat_map sendings_of (g ∷ gs)) i (g.generation, d) ≡ (g.generation, get_or g.items i d) =
    get_or_append_left (sendings_of g) (flat_map sendings_of gs) (g.generation, d) i (omega (arith, size, lt)) ∙ get_or-map (λ (item : Item). (g.generation, item)) g.items i d (g.generation, d) lt in
    let one : IsItem ls (get_or (flat_map sendings_of (g ∷ gs)) i (g.generation, d)).0 (get_or (flat_map sendings_of (g ∷ gs)) i (g.generation, d)).1 =
    items i (g.generation, d) (omega (arith, size, lt, length-append (sendings_of g) (flat_map sendings_of gs))) in
    each g.generation (get_or g.items i d) (subst (λ (s : Sending). IsItem ls s.0 s.1) is one)))
    (groups_like carousel ls gs each
    (λ i d lt. subst (λ (s : Sending). IsItem ls s.0 s.1) (get_or-append-add (sendings_of g) (flat_map sendings_of gs) i d)
    (items (length (sendings_of g) + i) d (omega (arith, lt, length-append (sendings_of g) (flat_map sendings_of gs))))))

pub broadcast_like : Framed → Spelled → (b : Broadcast) → Lawful b.carousel b.layouts b.trees → SendsInOrder b → All (λ g. All IsSectionLike (sections_in b.carousel b.layouts g)) b.groups
broadcast_like framed spelled b lawful sends =
    groups_like b.carousel b.layouts b.groups
    (λ g item is. like_section (section_in b.carousel b.layouts g item)
    (item_framed b.carousel b.layouts g framed spelled (is_sent b.carousel b.layouts b.trees g lawful (below b.layouts g item is)) item is))
    sends.items

-- a candidate doesn't open in an earlier packet than one before it
no_fall : CutsComeInOrder → (pid : ℕ) (packets : List Bytes) (i j : ℕ) (c d : Cut) → i < j → slice_get (cuts pid packets) i ≡ Some c → slice_get (cuts pid packets) j ≡ Some d → c.packet ≤ d.packet
no_fall law pid packets i j c d lt e f =
    let x = at (cuts pid packets) i c c e in
    let y = at (cuts pid packets) j d c f in
    subst (λ z. z.packet ≤ d.packet) x.is (subst (λ z. (get_or (cuts pid packets) i c).packet ≤ z.packet) y.is (law.packets_rise pid packets i j c lt y.inside))

pub packets_in_order : Framed → Spelled → CutsComeInOrder → (b : Broadcast) (pid : ℕ) (packets : List Bytes) (from : Ascription) → Lawful b.carousel b.layouts b.trees → SendsInOrder b → NeverBack from
    → InOrder b (IsAscribed b pid packets from)
packets_in_order framed spelled cut b pid packets from lawful sends never i j k l s t lt p q e f =
    let rises : p.cut.packet ≤ q.cut.packet = no_fall cut pid packets i j p.cut q.cut lt p.is q.is in
    let sent : p.packet ≤ q.packet = by rises (ltb p.cut.packet q.cut.packet) refl in
    ordered (no_earlier b.carousel b.layouts 0 b.groups (broadcast_like framed spelled b lawful sends) k l (p.packet, p.cut.offset) (q.packet, q.cut.offset) s t p.begins q.begins e f sent) where
      by : p.cut.packet ≤ q.cut.packet → (t : Bool) → ltb p.cut.packet q.cut.packet ≡ t → p.packet ≤ q.packet
      by le true t = never p.cut.packet q.cut.packet p.packet q.packet (ltb-true _ _ t) p.came q.came
      by le false t =
          let same : p.cut.packet ≡ q.cut.packet = let ge = ltb-false _ _ t in omega (arith, ge, le) in
          let one : p.packet ≡ q.packet = same_Some p.packet q.packet (sym p.came ∙ ap from same ∙ q.came) in
          omega (arith, one)

      ordered : (k ≤ l) ⊎ (s.0 ≡ t.0) → s.0 ≤ t.0
      ordered (inl le) = in_order (sendings b) sends.order k l s t le e f
      ordered (inr same) = omega (arith, same)

-- what is heard in order meets all that a receiver owes
meets_heard : (b : Broadcast) (cs : List Bytes) (is_from : Ascribed) → Spelled → EqualVersionsMeanEqualBytes b.layouts → IsHeardOf b cs is_from → InOrder b is_from → Meets b cs
meets_heard b cs is_from spelled same h ordered =
    let sent : (g : ℕ) → g < length b.layouts → IsSent b.carousel b.layouts g = λ g lt. is_sent b.carousel b.layouts b.trees g h.lawful lt in
    meets_ascribed b cs (IsFromGeneration b is_from) h.first (λ g item is. hears_item b.carousel b.layouts g spelled (sent g (below b.layouts g item is)) item is) h.lawful sent same
    (ascribed b cs is_from spelled h ordered) (sent_from b is_from)

-- what is sent in order of sections that stand back to back
pub sections_in_order : (b : Broadcast) (from : Ascription) → SendsInOrder b → NeverBack from → InOrder b (λ i k. from i ≡ Some k)
sections_in_order b from sends never i j k l s t lt p q e f = in_order (sendings b) sends.order k l s t (never i j k l lt p q) e f

pub every_reception : Framed → Spelled → ((ls : List Layout) → EqualVersionsMeanEqualBytes ls) → CutsComeInOrder → EveryReceptionMeets
every_reception framed spelled law cut = record {
  packets = λ pid packets b from never h.
      meets_heard b (candidates pid packets) (IsAscribed b pid packets from) spelled (law b.layouts) h
      (packets_in_order framed spelled cut b pid packets from h.lawful h.in_order never);
  sections = λ cs b from never h.
      meets_heard b cs (λ i k. from i ≡ Some k) spelled (law b.layouts) h
      (sections_in_order b from h.in_order never);
}
