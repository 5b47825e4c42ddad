-- Two DIIs that describe a module in the same way.
use Rattle.std.proofs.Common.{◌≡◌, ℕ, Bool, true, false, not, cond, ◌&&◌, eqb, List, [], ◌∷◌, Option, Some, None, refl, ◌∙◌, ap}
use Rattle.std.specs.List.{range_with_len}
use Rattle.std.proofs.lemmas.Bool.{and_parts, eqb-true}
use Rattle.ddb_block.specs.Blocks as ddb
use Rattle.std.specs.Option.{option_and_then}
use Rattle.block_assembler.specs.Blocks.{Bytes, first_of}
use Rattle.dsi_dii.specs.Controls.{DiiFields}
use Rattle.dsi_dii.specs.declared.ModuleLine.{ModuleLine}
use Rattle.module_cache.specs.Contents.{content_of}
use Rattle.module_cache.specs.Held.{content_among}
use Rattle.module_cache.specs.Turns.{fits, block_among, blocks_among}
use Rattle.module_cache.specs.Spans.{Span, agrees, earlier, same_line}
use Rattle.module_cache.proofs.Lists.{map_like, filter_map_like}

pub record SameLine (d e : DiiFields) (l k : ModuleLine) : Type 0 where
  pub download : d.download ≡ e.download
  pub block_size : d.block_size ≡ e.block_size
  pub id : l.id ≡ k.id
  pub size : l.size ≡ k.size
  pub version : l.version ≡ k.version
  pub compressed : l.compressed ≡ k.compressed

agrees_same : (d e : DiiFields) (l k : ModuleLine) (t : DiiFields) → SameLine d e l k → agrees t d l ≡ agrees t e k
agrees_same d e l k t s = rw (s.download, s.block_size, s.id, s.size, s.version, s.compressed) refl

pub earlier_same : {H : Type 0} (d e : DiiFields) (l k : ModuleLine) → SameLine d e l k → (kept : Bool) (ss : List (Span H)) → earlier d l kept ss ≡ earlier e k kept ss
earlier_same d e l k same kept [] = refl
earlier_same d e l k same kept (s ∷ ss) = rw (agrees_same d e l k s.dii same, earlier_same d e l k same s.kept ss) refl

-- the bytes of a block that fits
abbrev pub bytes_if_fits : DiiFields → ModuleLine → ℕ → Option ddb.Block → Option Bytes
bytes_if_fits d l b o = option_and_then (λ (x : ddb.Block). cond (fits d l b x) (Some x.bytes) None) o

fitting_same : (d e : DiiFields) (l k : ModuleLine) (b : ℕ) → SameLine d e l k → (o : Option ddb.Block) → bytes_if_fits d l b o ≡ bytes_if_fits e k b o
fitting_same d e l k b s (Some x) = rw (s.download, s.block_size, s.id, s.size, s.version) refl
fitting_same d e l k b s None = refl

blocks_same : {H : Type 0} (says : H → Option ddb.Block) (since : List H) (d e : DiiFields) (l k : ModuleLine) → SameLine d e l k → blocks_among says since d l ≡ blocks_among says since e k
blocks_same says since d e l k s =
    map_like (block_among says since d l) (block_among says since e k) (range_with_len 0 (ddb.block_count_of l.size d.block_size))
    (λ b. ap first_of (filter_map_like (λ h. bytes_if_fits d l b (says h)) (λ h. bytes_if_fits e k b (says h)) since (λ h. fitting_same d e l k b s (says h))))
    ∙ rw (s.size, s.block_size) refl

pub content_same : {H : Type 0} (says : H → Option ddb.Block) (since : List H) (d e : DiiFields) (l k : ModuleLine) → SameLine d e l k → (c : Bool) → content_among says since d l c ≡ content_among says since e k c
content_same says since d e l k s true = refl
content_same says since d e l k s false = ap content_of (blocks_same says since d e l k s)

alike : (a b : Bool) → cond a b (not b) ≡ true → a ≡ b
alike true true e = refl
alike true false e = cc
alike false true e = cc
alike false false e = refl

-- the line of the DII before, of the same id, and the messages' own fields
pub same_line_is : (d e : DiiFields) (l k : ModuleLine) → (eqb d.download e.download && eqb d.block_size e.block_size) ≡ true → eqb l.id k.id ≡ true → same_line l k ≡ true → SameLine d e l k
same_line_is d e l k messages id line =
    let m = and_parts _ _ messages in
    let n = and_parts _ _ line in
    let o = and_parts _ _ n.0 in
    record {
      download = eqb-true _ _ m.0;
      block_size = eqb-true _ _ m.1;
      id = eqb-true _ _ id;
      size = eqb-true _ _ o.0;
      version = eqb-true _ _ o.1;
      compressed = alike l.compressed k.compressed n.1;
    }
