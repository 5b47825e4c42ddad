-- The generations of what is heard never go back, and none is below the label.
use Rattle.std.proofs.Common.{◌≡◌, ℕ, zero, suc, ◌-◌, ◌<◌, ◌≤◌, Bool, false, List, [], ◌∷◌, length, map, take, Some, Ok, Err, refl, ap, sym, ◌∙◌, subst, arith}
use Rattle.std.specs.Prelude.{Result, is_ok}
use Rattle.std.specs.List.{fold}
use Rattle.std.proofs.lemmas.Option.{same_Some}
use Rattle.path_tree.specs.Paths.{Bytes}
use Rattle.dsi_dii.specs.Controls.{DiiFields, distance_of}
use Rattle.dsmcc_section.specs.Sections as sections
use Rattle.dsmcc_section.specs.declared.Skip.{Skip}
use Rattle.biop_object.specs.Names.{Layout}
use Rattle.generation.specs.Lawful.{Lawful}
use Rattle.module_cache.specs.Turns.{continued, with_turning, with_joined, Turn}
use Rattle.section_stream.specs.Cuts.{candidates}
use Rattle.section_stream.specs.Laws.{CutsComeInOrder}
use Rattle.tuner_core.specs.Heard.{Heard, Skipped, NoControl, NoBlock, ADsi, ADii, ABlock, as_heard, heard_section}
use Rattle.tuner_core.specs.Turns.{label_in, is_near, version, turnings, turn_after}
use Rattle.tuner_core.proofs.CallerLemmas.{by_admission}
use Rattle.carousel_world.specs.Broadcasts.{Broadcast, SendsInOrder, IsAscribed}
use Rattle.carousel_world.specs.Premises.{Ascribed, AcceptedAreSent, IsFromGeneration}
use Rattle.carousel_world.specs.Receptions.{IsDiiOf, GoForward, GenerationsNeverGoBack}
use Rattle.carousel_world.proofs.Saying.{Spelled}
use Rattle.carousel_world.proofs.Generations.{IsSaidIn, version_is, apart_is, sums}
use Rattle.carousel_world.proofs.Ascribing.{OfGeneration, EachIsSaid, NoneGoesBack}
use Rattle.carousel_world.proofs.Premising.{Framed, InOrder, each_said, none_back, packets_in_order, sections_in_order}

-- ---- the label, without what the blocks are

-- the label is the generation of the DII that turned last, which is no later than this one
abbrev pub IsLabelled : ℕ → List Layout → ℕ → List (Turn Heard) → Type 0
IsLabelled carousel ls top [] = Unit {0}
IsLabelled carousel ls top (t ∷ ts) =
    (g : ℕ) × ((g ≤ top) × (IsDiiOf carousel ls g t.turning.dii × (label_in (turnings (t ∷ ts)) ≡ Some g)))

goes_on : (carousel : ℕ) (ls : List Layout) (top k : ℕ) → top ≤ k → (h : Heard) (ts : List (Turn Heard))
    → IsLabelled carousel ls top ts → IsLabelled carousel ls k (continued ts h)
goes_on carousel ls top k le h [] at = tt
goes_on carousel ls top k le h (t ∷ ts) at =
    (at.0, (omega (arith, at.1.0, le), (at.1.1.0, at.1.1.1)))

-- the first DII
begun : (carousel : ℕ) (ls : List Layout) (k : ℕ) → k < 16384 → (d : DiiFields)
    → IsDiiOf carousel ls k d → (keep : Bool) → IsLabelled carousel ls k (with_turning [] d keep)
begun carousel ls k lt d of keep =
    (k, (omega arith, (of, ap (λ (n : ℕ). Some n) (version_is carousel ls k d lt of))))

turned : (carousel : ℕ) (ls : List Layout) (top k : ℕ) → top ≤ k → k < 16384 → (d : DiiFields)
    → IsDiiOf carousel ls k d → (keep : Bool) (ts : List (Turn Heard)) → IsLabelled carousel ls top ts
    → IsLabelled carousel ls k (with_turning ts d keep)
turned carousel ls top k le lt d of keep [] at = begun carousel ls k lt d of keep
turned carousel ls top k le lt d of keep (t ∷ ts) at =
    let upto : at.0 ≤ k = omega (arith, at.1.0, le) in
    let was : label_in (t.turning ∷ turnings ts) ≡ Some at.0 = at.1.1.1 in
    let apart : distance_of (version t.turning.dii) (version d) ≡ k - at.0 =
    apart_is carousel ls at.0 k t.turning.dii d upto lt at.1.1.0 of in
    (k, (omega arith, (of, rw (was, apart) (ap (λ (n : ℕ). Some n) (sums at.0 k upto lt)))))

joined : (carousel : ℕ) (ls : List Layout) (top k : ℕ) → top ≤ k → k < 16384 → (d : DiiFields)
    → IsDiiOf carousel ls k d → (ts : List (Turn Heard)) → IsLabelled carousel ls top ts
    → IsLabelled carousel ls k (with_joined (continued ts (ADii d)) d)
joined carousel ls top k le lt d of [] at = begun carousel ls k lt d of false
joined carousel ls top k le lt d of (t ∷ ts) at =
    (at.0, (omega (arith, at.1.0, le), (at.1.1.0, at.1.1.1)))

-- one candidate more, of generation k
one_more : (carousel : ℕ) (ls : List Layout) (top k : ℕ) → top ≤ k → k < 16384 → (h : Heard)
    → IsSaidIn carousel ls k h → (ts : List (Turn Heard)) → IsLabelled carousel ls top ts
    → IsLabelled carousel ls k (turn_after ts h)
one_more carousel ls top k le lt (ADii d) said ts at =
    by_admission (IsLabelled carousel ls k) ts d
    (λ e. turned carousel ls top k le lt d said (is_near (turnings ts) d) ts at)
    (λ e f. joined carousel ls top k le lt d said ts at)
    (λ e f. goes_on carousel ls top k le (ADii d) ts at)
one_more carousel ls top k le lt (ABlock x) said ts at =
    goes_on carousel ls top k le (ABlock x) ts at
one_more carousel ls top k le lt (ADsi d) said ts at = goes_on carousel ls top k le (ADsi d) ts at
one_more carousel ls top k le lt (Skipped c) said ts at =
    goes_on carousel ls top k le (Skipped c) ts at
one_more carousel ls top k le lt (NoControl c) said ts at = absurd said
one_more carousel ls top k le lt (NoBlock c) said ts at = absurd said

-- ---- the next candidate is of no generation below it

here : (carousel : ℕ) (ls : List Layout) (top : ℕ) (ts : List (Turn Heard)) → IsLabelled carousel ls top ts
    → (h label : ℕ) → top ≤ h → label_in (turnings ts) ≡ Some label → label ≤ h
here carousel ls top [] at h label le e = cc
here carousel ls top (t ∷ ts) at h label le e =
    let same : at.0 ≡ label = same_Some at.0 label (sym at.1.1.1 ∙ e) in
    omega (arith, same, at.1.0, le)

none_below : (carousel : ℕ) (ls : List Layout) → length ls ≤ 16384
    → (cs : List Bytes) (of : OfGeneration) → EachIsSaid carousel ls cs of → NoneGoesBack of
    → (top : ℕ) → ((i g : ℕ) → of i g → top ≤ g) → (ts : List (Turn Heard)) → IsLabelled carousel ls top ts
    → (j h label : ℕ) → of j h
    → label_in (turnings (fold turn_after ts (map as_heard (take j cs)))) ≡ Some label → label ≤ h
none_below carousel ls few cs of says order top above ts at zero h label p e =
    here carousel ls top ts at h label (above 0 h p) e
none_below carousel ls few [] of says order top above ts at (suc j) h label p e =
    here carousel ls top ts at h label (above (suc j) h p) e
none_below carousel ls few (c ∷ cs) of says order top above ts at (suc j) h label p e =
    by (sections.read c) refl
    (λ k up us so f.
    none_below carousel ls few cs (λ i g. of (suc i) g) (λ i bytes f a. says (suc i) bytes f a)
    (λ i j g h lt p q. order (suc i) (suc j) g h (omega (arith, lt)) p q) k up us so j h label p f)
  where
    Rest : Type 0
    Rest = (k : ℕ) → ((i g : ℕ) → of (suc i) g → k ≤ g)
        → (us : List (Turn Heard)) → IsLabelled carousel ls k us
        → label_in (turnings (fold turn_after us (map as_heard (take j cs)))) ≡ Some label → label ≤ h

    by : (r : Result sections.Fields Skip) → sections.read c ≡ r → Rest → label ≤ h
    by (Err skip) is rest =
        let skipped : as_heard c ≡ Skipped skip = ap heard_section is in
        let so : IsLabelled carousel ls top (turn_after ts (Skipped skip)) =
        goes_on carousel ls top top (omega arith) (Skipped skip) ts at in
        rest top (λ i g q. above (suc i) g q) (turn_after ts (as_heard c))
        (subst (λ x. IsLabelled carousel ls top (turn_after ts x)) (sym skipped) so) e
    by (Ok s) is rest =
        let x = says 0 c refl (ap (λ r. is_ok r) is) in
        rest x.0 (λ i g q. order 0 (suc i) x.0 g (omega arith) x.1.0 q)
        (turn_after ts (as_heard c))
        (one_more carousel ls top x.0 (above 0 x.0 x.1.0) (omega (arith, x.1.1.0, few))
        (as_heard c) x.1.1.1 ts at) e

-- ---- put together

forward : (b : Broadcast) (cs : List Bytes) (is_from : Ascribed) → Spelled
    → Lawful b.carousel b.layouts b.trees → SendsInOrder b → AcceptedAreSent b cs is_from
    → InOrder b is_from → GoForward b cs is_from
forward b cs is_from spelled lawful sends accepted ordered =
    let says = each_said b cs is_from spelled lawful sends accepted in
    let order = none_back b is_from ordered in
    record {
      each = λ i a. let x = says i a.0 a.1 a.2 in (x.0, x.1.0);
      order = λ i j g h lt a c p q. order i j g h lt p q;
      next = λ j h label a p e.
          none_below b.carousel b.layouts lawful.few cs (IsFromGeneration b is_from) says order 0
          (λ i g q. omega arith) [] tt j h label p e;
    }

pub never_back : Framed → Spelled → CutsComeInOrder → GenerationsNeverGoBack
never_back framed spelled cut = record {
  packets = λ pid packets b from never lawful sends accepted.
      forward b (candidates pid packets) (IsAscribed b pid packets from) spelled lawful sends
      accepted (packets_in_order framed spelled cut b pid packets from lawful sends never);
  sections = λ cs b from never lawful sends accepted.
      forward b cs (λ i k. from i ≡ Some k) spelled lawful sends accepted
      (sections_in_order b from sends never);
}
