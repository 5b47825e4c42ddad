-- What a receiver owes, put together.
use Rattle.std.proofs.Common.{◌≡◌, ℕ, suc, ltb, ◌<◌, ◌≤◌, ◌⊎◌, inl, inr, Bool, true, false, cond, ◌&&◌, List, [], ◌∷◌, ◌++◌, map, length, Option, Some, None, refl, ap, sym, ◌∙◌, subst, arith, ◌+◌}
use Rattle.std.specs.List.{All, Contains, list_any, fold, find}
use Rattle.std.proofs.lemmas.Bool.{and_parts, and_cases, ltb-true, ltb-false, true≢false}
use Rattle.std.proofs.lemmas.List.Elements.{All-cons, All-nil, Contains-append_right}
use Rattle.std.proofs.lemmas.Option.{same_Some}
use Rattle.std.proofs.lemmas.List.{map-append}
use Rattle.std.proofs.lemmas.List.Sums.{fold-append}
use Rattle.carousel_profile.specs.declared.TheConstants.{BLOCK_SIZE}
use Rattle.path_tree.specs.Paths.{Bytes, PathNames}
use Rattle.path_tree.specs.Trees.{node_at}
use Rattle.ddb_block.specs.Blocks as ddb
use Rattle.dsi_dii.specs.Controls.{DiiFields}
use Rattle.biop_object.specs.Names.{Layout, module_in}
use Rattle.cycle_planner.specs.declared.Item.{Item}
use Rattle.cycle_planner.specs.declared.Item.TheVariants.{Dsi, Dii, Block}
use Rattle.generation.specs.Lawful.{layout_at, tree_at, dii_in, section_in, Lawful, EqualVersionsMeanEqualBytes, IsItem, HasDii}
use Rattle.generation.specs.Layouts.{gateway_location}
use Rattle.generation.specs.Groups.{group_of}
use Rattle.module_cache.specs.Joining.{outline, lists}
use Rattle.module_cache.specs.Turns.{admitted, newest, heard_by, continued, with_joined, Turn}
use Rattle.path_resolver.specs.Resolving.{Target, HeldModule, answer_of}
use Rattle.path_resolver.specs.declared.answer.Answer.TheVariants as answers
use Rattle.tuner_core.specs.Heard.{Heard, Skipped, NoControl, NoBlock, ADsi, ADii, ABlock, as_heard}
use Rattle.tuner_core.specs.LookBack.{root_in, gateway_of}
use Rattle.module_cache.specs.Spans.{Span}
use Rattle.tuner_core.specs.Turns.{identification, turn_after, turns_of, table_in, held_after, answer_after, label_in, turnings}
use Rattle.tuner_core.proofs.CallerLemmas.{by_admission, distinct_from}
use Rattle.carousel_world.specs.Headline.{is_dsi, is_dii, IsAnswer, block_in, IsNodeAnswer, block_by, is_whole, is_awaited, waiting_in}
use Rattle.carousel_world.specs.Broadcasts.{Broadcast}
use Rattle.carousel_world.specs.Premises.{IsWhole}
use Rattle.carousel_world.specs.Receptions.{IsSentIn, label_after, HoldsOne, TellsOne, Meets, label_before, IsDiiOf, IsBlockOf}
use Rattle.carousel_world.proofs.Holding.{HoldsOf, IsListedIn, IsUnlistedIn}
use Rattle.carousel_world.proofs.Lists.{MaybeIs, last_if}
use Rattle.carousel_world.proofs.Modules.{IsSent, listed_holds, group_some, group_few}
use Rattle.carousel_world.proofs.Answering.{answers_told, answers_whole}
use Rattle.carousel_world.proofs.Saying.{says}
use Rattle.carousel_world.proofs.Generations.{AreOf, AreHeardOf, IsSaidIn, all_of, label_right, gens_with, gens_of, gens_are, AllOf, DiisAre, Each, each_like, each_more, IsAdmitted, sound_of}
use Rattle.carousel_world.proofs.Ascribing.{OfGeneration, AreAscribed, with_generations}
use Rattle.carousel_world.proofs.Completing.{UpTo, at_place, ends_in, EndsIn, whole_there}
use Rattle.carousel_world.proofs.Rounds.{any_heard, contains_map}
use Rattle.carousel_world.proofs.Wholeness.{first_is, whole_is}
use Rattle.carousel_world.proofs.Tables.{held_in, turn_right, table_right, there_listed, found_right, block_right}

abbrev pub root_of_carousel : ℕ → Target
root_of_carousel carousel = (gateway_location carousel, Some 0x80000002)

pub which : (o : Option Bytes) (x block : Bytes) → MaybeIs o x → o ≡ Some block → block ≡ x
which o x block (inl e) f = same_Some block x (sym f ∙ e)
which o x block (inr e) f = let bad : None ≡ Some block = sym e ∙ f in cc

-- ---- a list at a place

-- a list with its places, split where the other is
pub record Split (xs : List (ℕ × Heard)) (ys : List Heard) (z : Heard) (zs : List Heard) : Type 0 where
  pub before : List (ℕ × Heard)
  pub here : ℕ × Heard
  pub after : List (ℕ × Heard)
  pub whole : xs ≡ before ++ here ∷ after
  pub said : here.1 ≡ z
  pub rest : map (λ x. x.1) after ≡ zs

pub split_at : (xs : List (ℕ × Heard)) (ys : List Heard) (z : Heard) (zs : List Heard) → map (λ x. x.1) xs ≡ ys ++ z ∷ zs → Split xs ys z zs
split_at [] [] z zs e = cc
split_at [] (y ∷ ys) z zs e = cc
split_at (x ∷ xs) [] z zs e = record { before = []; here = x; after = xs; whole = refl; said = cc; rest = cc }
split_at (x ∷ xs) (y ∷ ys) z zs e =
    let tail : map (λ x. x.1) xs ≡ ys ++ z ∷ zs = cc in
    let s = split_at xs ys z zs tail in
    record { before = x ∷ s.before; here = s.here; after = s.after; whole = ap (λ us. x ∷ us) s.whole; said = s.said; rest = s.rest }

pub next_contains : (h x : Heard) (hs : List Heard) → Contains hs x → Contains (h ∷ hs) x
next_contains h x hs has = (suc has.0, omega (arith, has.1), has.2)

pub in_tail : (xs : List Heard) (y : Heard) (ys : List Heard) (h : Heard) → Contains ys h → Contains (xs ++ y ∷ ys) h
in_tail xs y ys h has = Contains-append_right xs (y ∷ ys) h (next_contains y h ys has)

-- ---- the gateway

root_said : (carousel : ℕ) (ls : List Layout) (k : ℕ) (h : Heard) → IsSaidIn carousel ls k h → root_in h ≡ cond (is_dsi h) (Some (root_of_carousel carousel)) None
root_said carousel ls k (Skipped skip) said = refl
root_said carousel ls k (NoControl place) said = refl
root_said carousel ls k (NoBlock place) said = refl
root_said carousel ls k (ADsi d) said = subst (λ x. root_in (ADsi x) ≡ Some (root_of_carousel carousel)) (sym said) refl
root_said carousel ls k (ADii d) said = refl
root_said carousel ls k (ABlock x) said = refl

roots_said : (carousel : ℕ) (ls : List Layout) (top : ℕ) (gs : List ℕ) (xs : List (ℕ × Heard)) → AreHeardOf carousel ls top gs xs
    → All (λ h. root_in h ≡ cond (is_dsi h) (Some (root_of_carousel carousel)) None) (map (λ x. x.1) xs)
roots_said carousel ls top gs [] heard = All-nil (λ h. root_in h ≡ cond (is_dsi h) (Some (root_of_carousel carousel)) None)
roots_said carousel ls top gs (x ∷ xs) heard =
    All-cons (λ h. root_in h ≡ cond (is_dsi h) (Some (root_of_carousel carousel)) None) x.1 (map (λ x. x.1) xs) (root_said carousel ls x.0 x.1 heard.1.1.0)
    (roots_said carousel ls x.0 (gens_with gs x.0 x.1) xs heard.1.1.1.1)

the_gateway : (carousel : ℕ) (ls : List Layout) (top : ℕ) (gs : List ℕ) (xs : List (ℕ × Heard)) → AreHeardOf carousel ls top gs xs
    → gateway_of (map (λ x. x.1) xs) ≡ cond (list_any is_dsi (map (λ x. x.1) xs)) (Some (root_of_carousel carousel)) None
the_gateway carousel ls top gs xs heard = last_if root_in is_dsi (root_of_carousel carousel) None (map (λ x. x.1) xs) (roots_said carousel ls top gs xs heard)

-- ---- a DII was heard, or none

no_turn : (hs : List Heard) → list_any is_dii hs ≡ false → fold turn_after [] hs ≡ []
no_turn [] e = refl
no_turn (ADii d ∷ hs) e = cc
no_turn (ABlock b ∷ hs) e = no_turn hs e
no_turn (ADsi d ∷ hs) e = no_turn hs e
no_turn (Skipped c ∷ hs) e = no_turn hs e
no_turn (NoControl c ∷ hs) e = no_turn hs e
no_turn (NoBlock c ∷ hs) e = no_turn hs e

pub record IsSome (ts : List (Turn Heard)) : Type 0 where
  pub head : Turn Heard
  pub tail : List (Turn Heard)
  pub are : ts ≡ head ∷ tail

one_more : (t : Turn Heard) (ts : List (Turn Heard)) (h : Heard) → IsSome (turn_after (t ∷ ts) h)
one_more t ts (ADii d) =
    by_admission IsSome (t ∷ ts) d (λ e. record { head = _; tail = _; are = refl }) (λ e f. record { head = _; tail = _; are = refl }) (λ e f. record { head = _; tail = _; are = refl })
one_more t ts (ABlock b) = record { head = _; tail = _; are = refl }
one_more t ts (ADsi d) = record { head = _; tail = _; are = refl }
one_more t ts (Skipped c) = record { head = _; tail = _; are = refl }
one_more t ts (NoControl c) = record { head = _; tail = _; are = refl }
one_more t ts (NoBlock c) = record { head = _; tail = _; are = refl }

stays_some : (hs : List Heard) (ts : List (Turn Heard)) → IsSome ts → IsSome (fold turn_after ts hs)
stays_some [] ts some = some
stays_some (h ∷ hs) ts some = stays_some hs (turn_after ts h) (subst (λ us. IsSome (turn_after us h)) (sym some.are) (one_more some.head some.tail h))

some_turn : (carousel : ℕ) (ls : List Layout) → ((k : ℕ) → k < length ls → IsSent carousel ls k) → (top : ℕ) (gs : List ℕ) (xs : List (ℕ × Heard)) → AreHeardOf carousel ls top gs xs
    → list_any is_dii (map (λ x. x.1) xs) ≡ true → IsSome (fold turn_after [] (map (λ x. x.1) xs))
some_turn carousel ls sent top gs [] heard e = cc
some_turn carousel ls sent top gs ((k, ADii d) ∷ xs) heard e =
    stays_some (map (λ x. x.1) xs) (turn_after [] (ADii d))
    (by_admission IsSome [] d (λ f. record { head = _; tail = _; are = refl }) (λ f g. absurd (true≢false (sym (sound_of carousel ls k d (sent k heard.1.0) heard.1.1.0) ∙ f)))
    (λ f g. absurd (true≢false (sym (sound_of carousel ls k d (sent k heard.1.0) heard.1.1.0) ∙ f))))
some_turn carousel ls sent top gs ((k, ABlock b) ∷ xs) heard e = some_turn carousel ls sent k (gens_with gs k (ABlock b)) xs heard.1.1.1.1 e
some_turn carousel ls sent top gs ((k, ADsi d) ∷ xs) heard e = some_turn carousel ls sent k (gens_with gs k (ADsi d)) xs heard.1.1.1.1 e
some_turn carousel ls sent top gs ((k, Skipped c) ∷ xs) heard e = some_turn carousel ls sent k (gens_with gs k (Skipped c)) xs heard.1.1.1.1 e
some_turn carousel ls sent top gs ((k, NoControl c) ∷ xs) heard e = absurd heard.1.1.0
some_turn carousel ls sent top gs ((k, NoBlock c) ∷ xs) heard e = absurd heard.1.1.0

-- ---- all that is held

no_answer : (label : Option ℕ) (held : List ℕ) (gateway : Option Target) (table : List HeldModule) (p : PathNames) → (label ≡ None) ⊎ (gateway ≡ None)
    → answer_of (record { label = label; held = held; gateway = gateway; table = table }) p ≡ answers.NoCarousel
no_answer None held None table p h = refl
no_answer None held (Some g) table p h = refl
no_answer (Some l) held None table p h = refl
no_answer (Some l) held (Some g) table p (inl h) = cc
no_answer (Some l) held (Some g) table p (inr h) = cc

-- a block that waits
pub record WaitsFrom (ls : List Layout) (ts : List (Turn Heard)) (g m n : ℕ) (block : Bytes) : Type 0 where
  pub from : ℕ
  pub labelled : label_before ts ≡ Some from
  pub earlier : from ≤ g
  pub near : g < from + 256
  pub is : IsBlockOf ls from m n block

waits_right : (carousel : ℕ) (ls : List Layout) → EqualVersionsMeanEqualBytes ls → length ls ≤ 16384 → (g top : ℕ) → top < length ls → (gs : List ℕ) (t : Turn Heard) (ts : List (Turn Heard)) → AreOf carousel ls top (g ∷ gs) (t ∷ ts)
    → (m n : ℕ) (block : Bytes) → waiting_in (t ∷ ts) m n ≡ Some block → WaitsFrom ls (t ∷ ts) g m n block
waits_right carousel ls law few g top lt gs t [] of m n block e = cc
waits_right carousel ls law few g top lt [] t (u ∷ us) of m n block e = absurd of.1
waits_right carousel ls law few g top lt (h ∷ hs) t (u ∷ us) of m n block e = go t.turning.kept refl where
  go : (k : Bool) → t.turning.kept ≡ k → WaitsFrom ls (t ∷ u ∷ us) g m n block
  go false f = let none : None ≡ Some block = rw f at e in cc
  go true f = record {
    from = h;
    labelled = label_right carousel ls few g (omega (arith, of.0.generation, lt)) hs h u us of.1;
    earlier = of.1.0.generation;
    near = of.0.near f;
    is =
        let there : block_by us m n (find (is_awaited t m) (admitted u)) ≡ Some block = rw f at e in
        let right = turn_right carousel ls h g hs u us of.1 in
        let x = there_listed carousel ls h g u.turning.kept us (is_awaited t m) (admitted u) right m n block there in (
          x.0,
          x.1,
          which (block_by us m n (find (is_awaited t m) (admitted u))) (ddb.block_of x.0 BLOCK_SIZE n) block
              (found_right carousel ls law h g (omega (arith, of.0.generation, lt)) u.turning.kept us (is_awaited t m) (admitted u) right m n x.0 x.1) there,
        );
  }

-- something that holds of each DII that is heard holds of each that is held
abbrev pub HoldsEach : (DiiFields → Type 0) → List (Turn Heard) → Type 0
HoldsEach P ts = Each (λ s. P s.dii) (newest ts)

goes_on : (P : DiiFields → Type 0) (ts : List (Turn Heard)) (h : Heard) → HoldsEach P ts → HoldsEach P (continued ts h)
goes_on P [] h each = tt
goes_on P (t ∷ ts) h each = each_like (λ s. P s.dii) (λ s. P s.dii) (heard_by h) (λ s p. p) (admitted t) each

joined_too : (P : DiiFields → Type 0) (ts : List (Turn Heard)) (d : DiiFields) → HoldsEach P ts → P d → HoldsEach P (with_joined ts d)
joined_too P [] d each p = (p, tt)
joined_too P (t ∷ ts) d each p = (each.0, each_more (λ s. P s.dii) (record { dii = d; kept = t.turning.kept; since = [] }) t.joined each.1 p)

each_step : (P : DiiFields → Type 0) (ts : List (Turn Heard)) (h : Heard) → HoldsEach P ts → ((d : DiiFields) → h ≡ ADii d → P d) → HoldsEach P (turn_after ts h)
each_step P ts (ADii d) each has =
    by_admission (HoldsEach P) ts d (λ e. (has d refl, tt)) (λ e f. joined_too P (continued ts (ADii d)) d (goes_on P ts (ADii d) each) (has d refl)) (λ e f. goes_on P ts (ADii d) each)
each_step P ts (ABlock b) each has = goes_on P ts (ABlock b) each
each_step P ts (ADsi d) each has = goes_on P ts (ADsi d) each
each_step P ts (Skipped c) each has = goes_on P ts (Skipped c) each
each_step P ts (NoControl c) each has = goes_on P ts (NoControl c) each
each_step P ts (NoBlock c) each has = goes_on P ts (NoBlock c) each

each_held : (P : DiiFields → Type 0) (hs : List Heard) (ts : List (Turn Heard)) → HoldsEach P ts → ((d : DiiFields) → Contains hs (ADii d) → P d) → HoldsEach P (fold turn_after ts hs)
each_held P [] ts each has = each
each_held P (h ∷ hs) ts each has =
    each_held P hs (turn_after ts h) (each_step P ts h each (λ d e. has d (0, omega arith, e))) (λ d c. has d (next_contains h (ADii d) hs c))

-- each held DII is one of the generation's and was heard
pub record IsHeld (carousel : ℕ) (ls : List Layout) (g : ℕ) (hs : List Heard) (s : Span Heard) : Type 0 where
  pub dii : IsDiiOf carousel ls g s.dii
  pub heard : Contains hs (ADii s.dii)

both_held : (carousel : ℕ) (ls : List Layout) (g top : ℕ) (kept : Bool) (hs : List Heard) (ss : List (Span Heard)) → Each (IsAdmitted carousel ls g top kept) ss → Each (λ s. Contains hs (ADii s.dii)) ss
    → All (IsHeld carousel ls g hs) ss
both_held carousel ls g top kept hs [] of heard = All-nil (IsHeld carousel ls g hs)
both_held carousel ls g top kept hs (s ∷ ss) of heard =
    All-cons (IsHeld carousel ls g hs) s ss (record { dii = of.0.dii; heard = heard.0 }) (both_held carousel ls g top kept hs ss of.1 heard.1)

-- of each module that the generation has
abbrev IsEntry : List Heard → List (Turn Heard) → ℕ → Bytes → Type 0
IsEntry hs ts m bytes = IsListedIn (held_in hs ts) m bytes ⊎ IsUnlistedIn (held_in hs ts) m

pub record HoldsGeneration (carousel : ℕ) (ls : List Layout) (P : ℕ → Type 0) (hs : List Heard) : Type 0 where
  pub generation : ℕ
  pub sent : P generation
  pub published : generation < length ls
  pub labelled : label_in (turnings (turns_of hs)) ≡ Some generation
  pub diis : All (IsHeld carousel ls generation hs) (newest (turns_of hs))
  pub blocks : (m n : ℕ) (block : Bytes) → block_in (turns_of hs) m n ≡ Some block → IsBlockOf ls generation m n block
  pub waiting : (m n : ℕ) (block : Bytes) → waiting_in (turns_of hs) m n ≡ Some block → WaitsFrom ls (turns_of hs) generation m n block
  pub holds : list_any is_dsi hs ≡ true → HoldsOf carousel (layout_at ls generation) (held_after hs)

gens_cons : (carousel : ℕ) (ls : List Layout) (top : ℕ) (gs : List ℕ) (t : Turn Heard) (ts : List (Turn Heard)) → AreOf carousel ls top gs (t ∷ ts) → (g : ℕ) × ((rest : List ℕ) × (gs ≡ g ∷ rest))
gens_cons carousel ls top [] t ts of = absurd of
gens_cons carousel ls top (g ∷ gs) t ts of = (g, (gs, refl))

-- where the newest turn is of generation g
pub holds_from : (carousel : ℕ) (ls : List Layout) → EqualVersionsMeanEqualBytes ls → length ls ≤ 16384 → (hs : List Heard) (xs : List (ℕ × Heard)) → map (λ x. x.1) xs ≡ hs → AreHeardOf carousel ls 0 [] xs
    → list_any is_dsi hs ≡ true → (head : Turn Heard) (tail : List (Turn Heard)) → turns_of hs ≡ head ∷ tail → (top : ℕ) → top < length ls → (g : ℕ) (gs : List ℕ) → AreOf carousel ls top (g ∷ gs) (head ∷ tail)
    → HoldsOf carousel (layout_at ls g) (held_after hs)
holds_from carousel ls law few hs xs is heard dsi head tail these top tlt g gs of = record {
  number = g;
  label = ap (λ ts. label_in (turnings ts)) these ∙ label_right carousel ls few top tlt gs g head tail of;
  delivery = 0x80000002;
  gateway = ap gateway_of (sym is) ∙ the_gateway carousel ls 0 [] xs heard ∙ ap (λ t. cond t (Some (root_of_carousel carousel)) None) (ap (list_any is_dsi) is ∙ dsi);
  delivered = refl;
  table = λ m bytes listed. subst (λ ts. IsEntry hs ts m bytes) (sym these) (table_right carousel ls law hs g top gs head tail tlt of m bytes listed);
}

pub holds_one : (carousel : ℕ) (ls : List Layout) → EqualVersionsMeanEqualBytes ls → length ls ≤ 16384 → 0 < length ls → ((k : ℕ) → k < length ls → IsSent carousel ls k)
    → (hs : List Heard) (xs : List (ℕ × Heard)) → map (λ x. x.1) xs ≡ hs → AreHeardOf carousel ls 0 [] xs → (P : ℕ → Type 0) → DiisAre P xs → list_any is_dii hs ≡ true → HoldsGeneration carousel ls P hs
holds_one carousel ls law few first sent hs xs is heard P diis dii =
    let some = some_turn carousel ls sent 0 [] xs heard (ap (list_any is_dii) is ∙ dii) in
    let has = all_of carousel ls few sent 0 first [] [] tt xs heard in
    let headed : AreOf carousel ls has.top (gens_of [] xs) (some.head ∷ some.tail) = subst (AreOf carousel ls has.top (gens_of [] xs)) some.are has.are in
    let g = gens_cons carousel ls has.top (gens_of [] xs) some.head some.tail headed in
    let of : AreOf carousel ls has.top (g.0 ∷ g.1.0) (some.head ∷ some.tail) = subst (λ gs. AreOf carousel ls has.top gs (some.head ∷ some.tail)) g.1.1 headed in
    let these : turns_of hs ≡ some.head ∷ some.tail = ap turns_of (sym is) ∙ some.are in
    record {
      generation = g.0;
      sent = (subst (AllOf P) g.1.1 (gens_are P [] xs tt diis)).0;
      published = omega (arith, of.0.generation, has.published);
      labelled = ap (λ ts. label_in (turnings ts)) these ∙ label_right carousel ls few has.top has.published g.1.0 g.0 some.head some.tail of;
      diis =
          let heard : HoldsEach (λ d. Contains hs (ADii d)) (turns_of hs) = each_held (λ d. Contains hs (ADii d)) hs [] tt (λ d c. c) in
          subst (λ ts. All (IsHeld carousel ls g.0 hs) (newest ts)) (sym these)
          (both_held carousel ls g.0 has.top some.head.turning.kept hs (admitted some.head) of.0.each (subst (HoldsEach (λ d. Contains hs (ADii d))) these heard));
      blocks = λ m n block there.
          let here : block_in (some.head ∷ some.tail) m n ≡ Some block = ap (λ ts. block_in ts m n) (sym these) ∙ there in
          let right = turn_right carousel ls g.0 has.top g.1.0 some.head some.tail of in
          let x = there_listed carousel ls g.0 has.top some.head.turning.kept some.tail (λ s. lists (outline s.dii) m) (admitted some.head) right m n block here in (
            x.0,
            x.1,
            which (block_in (some.head ∷ some.tail) m n) (ddb.block_of x.0 BLOCK_SIZE n) block (block_right carousel ls law g.0 has.top g.1.0 some.head some.tail has.published of m n x.0 x.1) here,
          );
      waiting = λ m n block there.
          subst (λ ts. WaitsFrom ls ts g.0 m n block) (sym these)
          (waits_right carousel ls law few g.0 has.top has.published g.1.0 some.head some.tail of m n block (ap (λ ts. waiting_in ts m n) (sym these) ∙ there));
      holds = λ dsi. holds_from carousel ls law few hs xs is heard dsi some.head some.tail these has.top has.published g.0 g.1.0 of;
    }

pub holds_none : (carousel : ℕ) (ls : List Layout) (hs : List Heard) (xs : List (ℕ × Heard)) → map (λ x. x.1) xs ≡ hs → AreHeardOf carousel ls 0 [] xs
    → (list_any is_dsi hs && list_any is_dii hs) ≡ false → (p : PathNames) → answer_of (held_after hs) p ≡ answers.NoCarousel
holds_none carousel ls hs xs is heard none p =
    no_answer (label_in (turnings (turns_of hs))) (map (λ s. identification s.dii) (newest (turns_of hs))) (gateway_of hs) (table_in (turns_of hs)) p (either (and_cases (list_any is_dsi hs) (list_any is_dii hs) none)) where
      either : (list_any is_dsi hs ≡ false) ⊎ (list_any is_dii hs ≡ false) → (label_in (turnings (turns_of hs)) ≡ None) ⊎ (gateway_of hs ≡ None)
      either (inl e) = inr (ap gateway_of (sym is) ∙ the_gateway carousel ls 0 [] xs heard ∙ ap (λ t. cond t (Some (root_of_carousel carousel)) None) (ap (list_any is_dsi) is ∙ e))
      either (inr e) = inl (ap (λ ts. label_in (turnings ts)) (no_turn hs e))

-- ---- after a whole cycle

-- no DII after it is of a later generation
none_later : (carousel : ℕ) (ls : List Layout) (g top : ℕ) (gs : List ℕ) (xs : List (ℕ × Heard)) → AreHeardOf carousel ls top gs xs
    → ((h j : ℕ) → g < h → h < length ls → HasDii ls h j → Contains (map (λ x. x.1) xs) (ADii (dii_in carousel ls h j)) → ⊥) → All (λ y. UpTo g y.1 y.0) xs
none_later carousel ls g top gs [] heard later_dii = All-nil (λ y. UpTo g y.1 y.0)
none_later carousel ls g top gs ((k, h) ∷ xs) heard later_dii =
    All-cons (λ y. UpTo g y.1 y.0) (k, h) xs (one h heard.1.1.0 (λ d e of lt. later_dii k of.number lt heard.1.0 of.there (0, omega arith, e ∙ ap ADii of.is)))
    (none_later carousel ls g k (gens_with gs k h) xs heard.1.1.1.1 (λ n j lt inside own has. later_dii n j lt inside own (next_contains h (ADii (dii_in carousel ls n j)) (map (λ x. x.1) xs) has))) where
      one : (y : Heard) → IsSaidIn carousel ls k y → ((d : DiiFields) → y ≡ ADii d → IsDiiOf carousel ls k d → g < k → ⊥) → UpTo g y k
      one (ADii d) said never = by (ltb g k) refl where
        by : (t : Bool) → ltb g k ≡ t → k ≤ g
        by false t = ltb-false g k t
        by true t = absurd (never d refl said (ltb-true g k t))
      one (ABlock b) said never = tt
      one (ADsi d) said never = tt
      one (Skipped c) said never = tt
      one (NoControl c) said never = tt
      one (NoBlock c) said never = tt

-- ---- what is owed

-- each section says when it is heard what its item says
abbrev pub Speaks : ℕ → List Layout → Type 0
Speaks carousel ls = (g : ℕ) (item : Item) → IsItem ls g item → as_heard (section_in carousel ls g item) ≡ says carousel ls g item

pub record IsReceived (b : Broadcast) (candidates : List Bytes) : Type 0 where
  pub first : 0 < length b.layouts
  pub speaks : Speaks b.carousel b.layouts
  pub lawful : Lawful b.carousel b.layouts b.trees
  pub limits : (k : ℕ) → k < length b.layouts → IsSent b.carousel b.layouts k
  pub same : EqualVersionsMeanEqualBytes b.layouts
  pub pairs : List (ℕ × Heard)
  pub heard_is : map (λ x. x.1) pairs ≡ map as_heard candidates
  pub are : AreHeardOf b.carousel b.layouts 0 [] pairs
  pub sent : DiisAre (IsSentIn b) pairs

pub record HoldsAll (b : Broadcast) (cs : List Bytes) : Type 0 where
  pub generation : ℕ
  pub one : HoldsOne b cs generation
  pub holds : list_any is_dsi (map as_heard cs) ≡ true → HoldsOf b.carousel (layout_at b.layouts generation) (held_after (map as_heard cs))

holds_all : (b : Broadcast) (cs : List Bytes) → IsReceived b cs → list_any is_dii (map as_heard cs) ≡ true → HoldsAll b cs
holds_all b cs r dii =
    let h = holds_one b.carousel b.layouts r.same r.lawful.few r.first r.limits (map as_heard cs) r.pairs r.heard_is r.are (IsSentIn b) r.sent dii in
    record {
      generation = h.generation;
      one = record {
        labelled = h.labelled;
        published = h.published;
        sent = h.sent;
        diis = λ k d lt. let x = h.diis k d lt in record { dii = x.dii; heard = x.heard };
        blocks = h.blocks;
        waiting = λ m n block there. let w = h.waiting m n block there in record { from = w.from; labelled = w.labelled; earlier = w.earlier; near = w.near; is = w.is };
      };
      holds = h.holds;
    }

tells : (b : Broadcast) (cs : List Bytes) → IsReceived b cs → (p : PathNames) → TellsOne b cs p (label_after cs) (answer_after cs p)
tells b cs r p = record {
  silent = λ e. holds_none b.carousel b.layouts (map as_heard cs) r.pairs r.heard_is r.are e p;
  known = λ e.
      let both = and_parts (list_any is_dsi (map as_heard cs)) (list_any is_dii (map as_heard cs)) e in
      let h = holds_all b cs r both.1 in
      record {
        generation = h.generation;
        labelled = h.one.labelled;
        holds = h.one;
        answered =
            subst (λ o. IsAnswer o (node_at (tree_at b.trees h.generation) p) (answer_after cs p)) (first_is b.carousel (layout_at b.layouts h.generation) cs p)
            (answers_told b.carousel (layout_at b.layouts h.generation) (tree_at b.trees h.generation) (held_after (map as_heard cs)) (h.holds both.0) (r.lawful.carries h.generation h.one.published) p);
      };
}

-- where DII j of generation g was heard, and then no DII of a later one
ends_for : (b : Broadcast) (cs : List Bytes) → IsReceived b cs → (g : ℕ) (whole : IsWhole b.carousel b.layouts g cs) (j : ℕ) → 1 ≤ j → j ≤ 16 → (has : HasDii b.layouts g j)
    → EndsIn b.carousel b.layouts g j (map as_heard (whole.rounds j has).after) (turns_of (map as_heard cs))
ends_for b cs r g whole j some small has =
    let ls = b.layouts in
    let round = whole.rounds j has in
    let d = dii_in b.carousel ls g j in
    let place : map as_heard cs ≡ map as_heard round.before ++ ADii d ∷ map as_heard round.after =
    ap (map as_heard) round.place ∙ map-append as_heard round.before (section_in b.carousel ls g (Dii j) ∷ round.after)
    ∙ ap (λ h. map as_heard round.before ++ h ∷ map as_heard round.after) (r.speaks g (Dii j) (whole.generation, has, some, small)) in
    let s = split_at r.pairs (map as_heard round.before) (ADii d) (map as_heard round.after) (r.heard_is ∙ place) in
    let pairs : AreHeardOf b.carousel ls 0 [] (s.before ++ s.here ∷ s.after) = subst (AreHeardOf b.carousel ls 0 []) s.whole r.are in
    let at = at_place b.carousel ls r.lawful.few r.limits 0 r.first [] [] tt s.before (s.here ∷ s.after) pairs in
    let upto : All (λ y. UpTo g y.1 y.0) s.after = none_later b.carousel ls g s.here.0 (gens_with at.gens s.here.0 s.here.1) s.after at.heard.1.1.1.1
    (λ h i lt inside own there. whole.no_later h i lt inside own
    (subst (λ hs. Contains hs (ADii (dii_in b.carousel ls h i))) (sym place)
    (in_tail (map as_heard round.before) (ADii d) (map as_heard round.after) (ADii (dii_in b.carousel ls h i)) (subst (λ hs. Contains hs (ADii (dii_in b.carousel ls h i))) s.rest there)))) in
    let end = ends_in b.carousel ls r.lawful.few r.limits g j whole.generation has some small (fold turn_after [] (map (λ x. x.1) s.before)) (distinct_from [] (map (λ x. x.1) s.before) tt) s.here s.after at s.said upto in
    let these : turns_of (map as_heard cs) ≡ fold turn_after (fold turn_after [] (map (λ x. x.1) s.before)) (map (λ x. x.1) (s.here ∷ s.after)) =
    ap turns_of (sym r.heard_is) ∙ ap (λ xs. turns_of (map (λ x. x.1) xs)) s.whole ∙ ap turns_of (map-append (λ (x : ℕ × Heard). x.1) s.before (s.here ∷ s.after))
    ∙ fold-append turn_after [] (map (λ x. x.1) s.before) (map (λ x. x.1) (s.here ∷ s.after)) in
    subst (λ hs. EndsIn b.carousel ls g j hs (turns_of (map as_heard cs))) s.rest (subst (EndsIn b.carousel ls g j (map (λ y. y.1) s.after)) (sym these) end)

-- each module is whole
each_whole : (b : Broadcast) (cs : List Bytes) → IsReceived b cs → (g : ℕ) → IsWhole b.carousel b.layouts g cs → (m : ℕ) (bytes : Bytes) → module_in (layout_at b.layouts g) m ≡ Some bytes → is_whole cs m ≡ true
each_whole b cs r g whole m bytes listed =
    let ls = b.layouts in
    let few : m ≤ 2224 = listed_holds (λ x. x.0 ≤ 2224) (layout_at ls g) m bytes (r.limits g whole.generation).ids listed in
    let has : HasDii ls g (group_of m) = inr (m, bytes, listed, refl) in
    let e = ends_for b cs r g whole (group_of m) (group_some m) (group_few m few) has in
    let round = whole.rounds (group_of m) has in
    whole_there b.carousel ls r.same g e.top e.gens (turns_of (map as_heard cs)) e.published whole.generation e.of m bytes listed e.span e.found
    (λ n item. e.has (says b.carousel ls g (Block m n))
    (subst (Contains (map as_heard round.after)) (r.speaks g (Block m n) item)
    (contains_map as_heard round.after (section_in b.carousel ls g (Block m n)) (round.blocks m n refl item))))

not_empty : (carousel : ℕ) (ls : List Layout) (top g : ℕ) (gs : List ℕ) (ts : List (Turn Heard)) → AreOf carousel ls top (g ∷ gs) ts → IsSome ts
not_empty carousel ls top g gs [] of = absurd of
not_empty carousel ls top g gs (t ∷ ts) of = record { head = t; tail = ts; are = refl }

opens : (b : Broadcast) (cs : List Bytes) → IsReceived b cs → (g : ℕ) (p : PathNames) → IsWhole b.carousel b.layouts g cs → IsNodeAnswer (answer_after cs p) (node_at (tree_at b.trees g) p)
opens b cs r g p whole =
    let ls = b.layouts in
    let dsi : list_any is_dsi (map as_heard cs) ≡ true = any_heard is_dsi cs (section_in b.carousel ls g Dsi) whole.gateway (ap is_dsi (r.speaks g Dsi whole.generation)) in
    let e = ends_for b cs r g whole 1 (omega arith) (omega arith) (inl refl) in
    let some = not_empty b.carousel ls e.top g e.gens (turns_of (map as_heard cs)) e.of in
    let of : AreOf b.carousel ls e.top (g ∷ e.gens) (some.head ∷ some.tail) = subst (AreOf b.carousel ls e.top (g ∷ e.gens)) some.are e.of in
    let held = holds_from b.carousel ls r.same r.lawful.few (map as_heard cs) r.pairs r.heard_is r.are dsi some.head some.tail some.are e.top e.published g e.gens of in
    answers_whole b.carousel (layout_at ls g) (tree_at b.trees g) (held_after (map as_heard cs)) held (r.lawful.carries g whole.generation)
    (λ m bytes listed. whole_is cs m ∙ each_whole b cs r g whole m bytes listed) p

-- what is known of candidates meets all that a receiver owes
pub meets : (b : Broadcast) (cs : List Bytes) → IsReceived b cs → Meets b cs
meets b cs r = record { held = λ dii. let h = holds_all b cs r dii in (h.generation, h.one); answers = tells b cs r; opens = opens b cs r }

-- from the premises place by place
pub meets_ascribed : (b : Broadcast) (cs : List Bytes) (of : OfGeneration) → 0 < length b.layouts → Speaks b.carousel b.layouts → Lawful b.carousel b.layouts b.trees
    → ((k : ℕ) → k < length b.layouts → IsSent b.carousel b.layouts k) → EqualVersionsMeanEqualBytes b.layouts → AreAscribed b.carousel b.layouts cs of → ((i g : ℕ) → of i g → IsSentIn b g) → Meets b cs
meets_ascribed b cs of first speaks lawful limits same a each =
    let t = with_generations b.carousel b.layouts (IsSentIn b) cs of a each 0 first (λ i g p. omega arith) [] tt in
    meets b cs (record { first = first; speaks = speaks; lawful = lawful; limits = limits; same = same; pairs = t.pairs; heard_is = t.heard_is; are = t.are; sent = t.diis })
