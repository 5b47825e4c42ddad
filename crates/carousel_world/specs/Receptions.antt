-- What a receiver owes of whatever it hears, over many generations.
use Rattle.std.specs.Prelude.{◌≡◌, ℕ, ◌+◌, ◌<◌, ◌≤◌, true, false, List, [], ◌∷◌, ◌++◌, length, map, take, Option, Some, None, slice_get}
use Rattle.std.specs.List.{All, Contains, list_any}
use Rattle.path_tree.specs.Paths.{Bytes, PathNames}
use Rattle.path_tree.specs.Trees.{node_at}
use Rattle.biop_object.specs.Names.{Layout, module_in}
use Rattle.ddb_block.specs.Blocks.{block_of}
use Rattle.dsi_dii.specs.Controls.{DiiFields}
use Rattle.generation.specs.Lawful.{Lawful, layout_at, tree_at, HasDii, dii_in}
use Rattle.module_cache.specs.Turns.{newest, Turn}
use Rattle.path_resolver.specs.declared.answer.Answer.{Answer}
use Rattle.path_resolver.specs.declared.answer.Answer.TheVariants as answers
use Rattle.section_stream.specs.Cuts.{candidates}
use Rattle.tuner_core.specs.Heard.{ADii, as_heard, Heard}
use Rattle.module_cache.specs.Spans.{Span}
use Rattle.tuner_core.specs.Turns.{turns_of, answer_after, label_in, turnings}
use Rattle.carousel_world.specs.Broadcasts.{Broadcast, Sending, sendings, SendsInOrder, Ascription, NeverBack, IsAscribed}
use Rattle.carousel_world.specs.Headline.{IsAnswer, IsNodeAnswer, is_dii, has_carousel, first_missing, block_there, waiting_in}
use Rattle.carousel_world.specs.Premises.{Ascribed, AcceptedAreSent, IsAcceptedAt, IsFromGeneration, IsHeardOf, IsWhole}
use Rattle.carousel_profile.specs.declared.TheConstants.{BLOCK_SIZE}

-- the number of the generation that a receiver takes what it holds for
abbrev pub label_after : List Bytes → Option ℕ
label_after candidates = label_in (turnings (turns_of (map as_heard candidates)))

-- the number before the last turn
abbrev pub label_before : List (Turn Heard) → Option ℕ
label_before [] = None
label_before (t ∷ ts) = label_in (turnings ts)

-- something of this generation was sent
abbrev pub IsSentIn : Broadcast → ℕ → Type 0
IsSentIn b g = (k : ℕ) × (s : Sending) × (slice_get (sendings b) k ≡ Some s) × (s.0 ≡ g)

-- one of the DIIs of generation g
pub record IsDiiOf (carousel : ℕ) (ls : List Layout) (g : ℕ) (d : DiiFields) : Type 0 where
  pub number : ℕ
  pub there : HasDii ls g number
  pub some : 1 ≤ number
  pub few : number ≤ 16
  pub is : d ≡ dii_in carousel ls g number

-- a held DII is one of that generation's, and was heard
pub record IsHeldOf (b : Broadcast) (candidates : List Bytes) (generation : ℕ) (s : Span Heard) : Type 0 where
  pub dii : IsDiiOf b.carousel b.layouts generation s.dii
  pub heard : Contains (map as_heard candidates) (ADii s.dii)

-- block n of module m, which generation g has
abbrev pub IsBlockOf : List Layout → ℕ → ℕ → ℕ → Bytes → Type 0
IsBlockOf ls g m n block = (bytes : Bytes) × (module_in (layout_at ls g) m ≡ Some bytes) × (block ≡ block_of bytes BLOCK_SIZE n)

-- a block that waits is of the generation before the last turn, fewer than 256 before the one that is held
pub record IsWaiting (b : Broadcast) (candidates : List Bytes) (generation m n : ℕ) (block : Bytes) : Type 0 where
  pub from : ℕ
  pub labelled : label_before (turns_of (map as_heard candidates)) ≡ Some from
  pub earlier : from ≤ generation
  pub near : generation < from + 256
  pub is : IsBlockOf b.layouts from m n block

-- All that is held is of one generation, whose number the label is. It was published, something of it was sent, and each held DII is
-- one of its own and was heard. Each block that is there is the one of its modules, whole or not; each that waits is the one of an
-- earlier generation's.
pub record HoldsOne (b : Broadcast) (candidates : List Bytes) (generation : ℕ) : Type 0 where
  pub labelled : label_after candidates ≡ Some generation
  pub published : generation < length b.layouts
  pub sent : IsSentIn b generation
  pub diis : All (IsHeldOf b candidates generation) (newest (turns_of (map as_heard candidates)))
  pub blocks : (m n : ℕ) (block : Bytes) → block_there candidates m n ≡ Some block → IsBlockOf b.layouts generation m n block
  pub waiting : (m n : ℕ) (block : Bytes) → waiting_in (turns_of (map as_heard candidates)) m n ≡ Some block → IsWaiting b candidates generation m n block

-- The label is that generation's number. The answer is the path's lookup in its tree, or the first module on the walk in its layout
-- that isn't whole.
pub record IsOfOne (b : Broadcast) (candidates : List Bytes) (p : PathNames) (label : Option ℕ) (answer : Answer) : Type 0 where
  pub generation : ℕ
  pub labelled : label ≡ Some generation
  pub holds : HoldsOne b candidates generation
  pub answered : IsAnswer (first_missing b.carousel (layout_at b.layouts generation) candidates p) (node_at (tree_at b.trees generation) p) answer

-- label and answer are of one generation; NoCarousel comes exactly where no DSI or no DII was heard
pub record TellsOne (b : Broadcast) (candidates : List Bytes) (p : PathNames) (label : Option ℕ) (answer : Answer) : Type 0 where
  pub silent : has_carousel candidates ≡ false → answer ≡ answers.NoCarousel
  pub known : has_carousel candidates ≡ true → IsOfOne b candidates p label answer

-- From the first DII on all that is held is of one generation; each answer tells of that one; and after a whole cycle of a generation
-- each path of it opens.
pub record Meets (b : Broadcast) (candidates : List Bytes) : Type 0 where
  pub held : list_any is_dii (map as_heard candidates) ≡ true → (g : ℕ) × HoldsOne b candidates g
  pub answers : (p : PathNames) → TellsOne b candidates p (label_after candidates) (answer_after candidates p)
  pub opens : (g : ℕ) (p : PathNames) → IsWhole b.carousel b.layouts g candidates → IsNodeAnswer (answer_after candidates p) (node_at (tree_at b.trees g) p)

-- over packets: for every broadcast and every way in which the packets can be from it
abbrev pub MeetsOnPackets : ℕ → List Bytes → List Bytes → Type 0
MeetsOnPackets pid packets candidates = (b : Broadcast) (from : Ascription) → NeverBack from
    → IsHeardOf b candidates (IsAscribed b pid packets from) → Meets b candidates

-- the same over sections that stand back to back, where each section is from one that was sent, or none
abbrev pub MeetsOnSections : List Bytes → Type 0
MeetsOnSections candidates = (b : Broadcast) (from : Ascription) → NeverBack from
    → IsHeardOf b candidates (λ i k. from i ≡ Some k) → Meets b candidates

-- it holds of whatever is heard
pub record EveryReceptionMeets : Type 0 where
  pub packets : (pid : ℕ) (packets : List Bytes) → MeetsOnPackets pid packets (candidates pid packets)
  pub sections : (candidates : List Bytes) → MeetsOnSections candidates

-- ---- a receiver's generations

-- from no label to any, and from a label to one that isn't lower
abbrev pub GoesOn : Option ℕ → Option ℕ → Type 0
GoesOn None later = Unit {0}
GoesOn (Some g) (Some h) = g ≤ h
GoesOn (Some g) None = ⊥

-- with more that is heard the label never falls, whatever it is
pub record LabelsNeverFall : Type 0 where
  pub sections : (candidates more : List Bytes) → GoesOn (label_after candidates) (label_after (candidates ++ more))
  pub packets : (pid : ℕ) (packets more : List Bytes) → GoesOn (label_after (candidates pid packets)) (label_after (candidates pid (packets ++ more)))

-- ---- the generations of what is heard

-- The generations of the sections that accepted candidates are from never go back. Each accepted
-- candidate is from one of some generation: none earlier than that of an accepted one before it, and
-- none below the label that a receiver has after all that it heard before.
pub record GoForward (b : Broadcast) (candidates : List Bytes) (is_from : Ascribed) : Type 0 where
  pub each : (i : ℕ) → IsAcceptedAt candidates i → (g : ℕ) × IsFromGeneration b is_from i g
  pub order : (i j g h : ℕ) → i < j → IsAcceptedAt candidates i → IsAcceptedAt candidates j
      → IsFromGeneration b is_from i g → IsFromGeneration b is_from j h → g ≤ h
  pub next : (j h label : ℕ) → IsAcceptedAt candidates j → IsFromGeneration b is_from j h
      → label_after (take j candidates) ≡ Some label → label ≤ h

-- Over packets: the accepted candidates were sent, in order, of a lawful broadcast. How far a block
-- is from the DII before it is free.
abbrev pub GoForwardOnPackets : ℕ → List Bytes → List Bytes → Type 0
GoForwardOnPackets pid packets candidates = (b : Broadcast) (from : Ascription) → NeverBack from
    → Lawful b.carousel b.layouts b.trees → SendsInOrder b
    → AcceptedAreSent b candidates (IsAscribed b pid packets from)
    → GoForward b candidates (IsAscribed b pid packets from)

-- the same over sections that stand back to back
abbrev pub GoForwardOnSections : List Bytes → Type 0
GoForwardOnSections candidates = (b : Broadcast) (from : Ascription) → NeverBack from
    → Lawful b.carousel b.layouts b.trees → SendsInOrder b
    → AcceptedAreSent b candidates (λ i k. from i ≡ Some k)
    → GoForward b candidates (λ i k. from i ≡ Some k)

-- it holds of whatever is heard
pub record GenerationsNeverGoBack : Type 0 where
  pub packets : (pid : ℕ) (packets : List Bytes)
      → GoForwardOnPackets pid packets (candidates pid packets)
  pub sections : (candidates : List Bytes) → GoForwardOnSections candidates
