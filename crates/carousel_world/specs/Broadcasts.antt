-- What is sent over many generations, and which of what is received is from which of it.
use Rattle.std.specs.Prelude.{◌≡◌, ℕ, ◌<◌, ◌≤◌, List, map, Option, Some, slice_get}
use Rattle.std.specs.List.{All, AllPairs, flat_map}
use Rattle.path_tree.specs.Paths.{Bytes}
use Rattle.path_tree.specs.Trees.{Tree}
use Rattle.biop_object.specs.Names.{Layout}
use Rattle.cycle_planner.specs.declared.Item.{Item}
use Rattle.generation.specs.Lawful.{section_in, IsItem}
use Rattle.section_stream.specs.Cuts.{Cut, cuts}
use Rattle.section_stream.specs.Groups.{starts}

-- items of one generation that are sent together
pub record Group : Type 0 where
  pub generation : ℕ
  pub items : List Item

-- an item and its generation
abbrev pub Sending : Type 0
Sending = ℕ × Item

abbrev pub sendings_of : Group → List Sending
sendings_of g = map (λ item. (g.generation, item)) g.items

-- a carousel, the tree and the layout of each generation, and all that is sent of them, in order
pub record Broadcast : Type 0 where
  pub carousel : ℕ
  pub trees : List Tree
  pub layouts : List Layout
  pub groups : List Group

abbrev pub sendings : Broadcast → List Sending
sendings b = flat_map sendings_of b.groups

-- the sections that are sent
abbrev pub sections : Broadcast → List Bytes
sections b = map (λ s. section_in b.carousel b.layouts s.0 s.1) (sendings b)

-- the same, group by group
abbrev pub section_groups : Broadcast → List (List Bytes)
section_groups b = map (λ g. map (section_in b.carousel b.layouts g.generation) g.items) b.groups

-- each item is one of its generation, and nothing of a generation is sent after something of a later one
pub record SendsInOrder (b : Broadcast) : Type 0 where
  pub items : All (λ s. IsItem b.layouts s.0 s.1) (sendings b)
  pub order : AllPairs (λ s t. s.0 ≤ t.0) (sendings b)

-- for each packet that is received, the number of the sent packet that it is from, or none
abbrev pub Ascription : Type 0
Ascription = ℕ → Option ℕ

-- what is received keeps the order in which it was sent; what is lost, damaged or repeated is free
abbrev pub NeverBack : Ascription → Type 0
NeverBack from = (i j a b : ℕ) → i < j → from i ≡ Some a → from j ≡ Some b → a ≤ b

-- candidate number i opened in a packet that is from the one in which section k begins, at the same byte
pub record IsAscribed (b : Broadcast) (pid : ℕ) (packets : List Bytes) (from : Ascription) (i k : ℕ) : Type 0 where
  pub cut : Cut
  pub is : slice_get (cuts pid packets) i ≡ Some cut
  pub packet : ℕ
  pub came : from cut.packet ≡ Some packet
  pub begins : slice_get (starts (section_groups b)) k ≡ Some (packet, cut.offset)
