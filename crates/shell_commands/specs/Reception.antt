-- What holds of all that is heard of an input: the law of receptions. No command's page names its
-- words.
use Rattle.std.specs.Prelude.{◌≡◌, ℕ, ◌+◌, ◌<◌, ◌≤◌, List, take, Some}
use Rattle.path_tree.specs.Paths.{PathNames}
use Rattle.path_tree.specs.Trees.{Tree, Node, File, Folder, NoSuch, node_at}
use Rattle.path_resolver.specs.declared.answer.Answer.{Answer}
use Rattle.path_resolver.specs.declared.answer.Answer.TheVariants as answers
use Rattle.generation.specs.Lawful.{IsPublishable, tree_at}
use Rattle.tuner_core.specs.LookBack.{answer_after}
use Rattle.carousel_world.specs.Broadcasts.{Broadcast, Ascription, NeverBack, IsAscribed}
use Rattle.carousel_world.specs.Premises.{AcceptedAreSent, IsHeardOf, IsWhole}
use Rattle.carousel_world.specs.Headline.{IsNodeAnswer}
use Rattle.carousel_world.specs.Publishing.{published_bytes, publication, layouts_for, MeetsPublished, MeetsPublishedSections}
use Rattle.carousel_world.specs.Receptions.{MeetsOnPackets, MeetsOnSections, label_after, GoesOn}
use Rattle.shell_streams.specs.Cuts.{Bytes, back_to_back}
use Rattle.shell_commands.specs.Announced.{published_after}
use Rattle.shell_streams.specs.Packets.{packets_of, candidates_of}
use Rattle.shell_streams.specs.Carriers.{sections_by}
use Rattle.shell_streams.specs.declared.carrier.Carrier.{Carrier}
use Rattle.shell_streams.specs.declared.carrier.Carrier.TheVariants as carriers

-- which candidate can be from which section of what was sent
abbrev pub Ascribing : Type 1
Ascribing = Broadcast → Ascription → ℕ → ℕ → Type 0

-- the candidates of packets, and those of sections back to back
abbrev pub is_from : Carrier → Bytes → Ascribing
is_from (carriers.Sections most) input = λ b from i k. from i ≡ Some k
is_from (carriers.Packets pid) input = λ b from. IsAscribed b pid (packets_of input) from

-- Whatever is heard of a carousel whose tree changes from generation to generation: each answer is the path's lookup in the one
-- generation of the receiver's label, or names the first module on the walk that isn't whole, or says that no carousel was heard.
abbrev pub MeetsBroadcasts : Carrier → Bytes → Type 0
MeetsBroadcasts (carriers.Sections most) input = MeetsOnSections (back_to_back input)
MeetsBroadcasts (carriers.Packets pid) input = MeetsOnPackets pid (packets_of input) (candidates_of pid input)

-- the same of one published tree, where nothing has to be near: whatever of its cycles is heard, each answer is the tree's own lookup, or names the first module on the walk that
-- isn't whole, or says that no carousel was heard
abbrev pub MeetsTrees : Carrier → Bytes → Type 0
MeetsTrees (carriers.Sections most) input = MeetsPublishedSections (back_to_back input)
MeetsTrees (carriers.Packets pid) input = MeetsPublished pid (packets_of input) (candidates_of pid input)

-- the answer that is a tree's own lookup
abbrev pub node_answer : Node → Answer
node_answer (File b) = answers.File b
node_answer (Folder ns) = answers.Folder ns
node_answer NoSuch = answers.NoSuch

abbrev pub answer_in : Tree → PathNames → Answer
answer_in t p = node_answer (node_at t p)

-- after a whole cycle of a generation each answer is the lookup in that generation's tree
abbrev pub OpensGeneration : Carrier → Bytes → Type 0
OpensGeneration carrier input = (b : Broadcast) (from : Ascription) (g : ℕ) → NeverBack from
    → IsHeardOf b ((sections_by carrier).standing_in input) (is_from carrier input b from) → IsWhole b.carousel b.layouts g ((sections_by carrier).standing_in input)
    → answer_after ((sections_by carrier).standing_in input) ≡ answer_in (tree_at b.trees g)

-- after a whole cycle of a published tree each answer is the tree's own lookup
abbrev pub OpensWhole : Carrier → Bytes → Type 0
OpensWhole carrier input = (carousel : ℕ) (weights : List ℕ) (cycles : ℕ) (t : Tree) (from : Ascription) → NeverBack from → carousel < 4294967296 → IsPublishable t
    → AcceptedAreSent (publication carousel weights cycles t) ((sections_by carrier).standing_in input) (is_from carrier input (publication carousel weights cycles t) from)
    → IsWhole carousel (layouts_for carousel t) 1 ((sections_by carrier).standing_in input) → answer_after ((sections_by carrier).standing_in input) ≡ answer_in t

-- The generation that is held never falls, whatever is heard: once there is a label, it isn't lower after more of the input. It holds
-- after each number of the input's sections, and after each beginning of the input, in bytes, as if it had ended there.
pub record NeverFalls (carrier : Carrier) (input : Bytes) : Type 0 where
  pub heard : (m n : ℕ) → m ≤ n → GoesOn (label_after (take m ((sections_by carrier).standing_in input))) (label_after (take n ((sections_by carrier).standing_in input)))
  pub read : (m n : ℕ) → m ≤ n → GoesOn (label_after ((sections_by carrier).standing_in (take m input))) (label_after ((sections_by carrier).standing_in (take n input)))

pub record Reception (carrier : Carrier) (input : Bytes) : Type 0 where
  pub meets : MeetsBroadcasts carrier input
  pub whole : OpensGeneration carrier input
  pub meets_published : MeetsTrees carrier input
  pub whole_published : OpensWhole carrier input
  pub never_falls : NeverFalls carrier input

-- whoever hears all packets of a publication on its PID has each path of its tree
abbrev pub SentOpens : (pid carousel : ℕ) (weights : List ℕ) (cycles : ℕ) → Type 0
SentOpens pid carousel weights cycles = (t : Tree) (p : PathNames) → pid < 8192 → 0 < cycles → carousel < 4294967296 → IsPublishable t
    → IsNodeAnswer (answer_after (candidates_of pid (published_bytes pid carousel weights cycles t)) p) (node_at t p)

-- whoever hears one or more whole cycles that are sent after tables, from any of them on, has each path of the tree
abbrev pub CyclesOpen : (carousel : ℕ) (weights : List ℕ) (cycles : ℕ) → Type 0
CyclesOpen carousel weights cycles = (t : Tree) (missed heard : ℕ) (p : PathNames) → 0 < heard → missed + heard ≤ cycles → carousel < 4294967296 → IsPublishable t
    → IsNodeAnswer (answer_after (candidates_of 256 (published_after carousel weights missed heard t)) p) (node_at t p)
