-- A module is held whole exactly where each of its blocks was heard in its stretch.
use Rattle.std.proofs.Common.{◌≡◌, ℕ, Bool, true, false, not, cond, ◌&&◌, List, [], ◌∷◌, map, Option, Some, None, is_some, refl, ap, ◌∙◌, eqb, ◌++◌, sym}
use Rattle.std.specs.List.{find, list_all, range_with_len, flat_map, list_any}
use Rattle.std.specs.Option.{option_map, option_zip}
use Rattle.std.proofs.lemmas.Bool.{cond-true, cond-false}
use Rattle.path_tree.specs.Paths.{Bytes, PathNames}
use Rattle.ddb_block.specs.Blocks.{block_count_of}
use Rattle.dsi_dii.specs.declared.ModuleLine.{ModuleLine}
use Rattle.biop_object.specs.Names.{Layout}
use Rattle.generation.specs.Layouts.{gateway_location}
use Rattle.module_cache.specs.Joining.{outline, lists}
use Rattle.module_cache.specs.Turns.{admitted, before, Turn}
use Rattle.module_cache.proofs.CallerLemmas.{find_map, any_map, found_there, found_later}
use Rattle.tuner_core.specs.Heard.{as_heard, Heard}
use Rattle.tuner_core.specs.LookBack.{block_among}
use Rattle.module_cache.specs.Spans.{Span}
use Rattle.tuner_core.specs.Turns.{stretch, turns_of, held_module, table_in, held_after}
use Rattle.carousel_world.specs.Headline.{is_line_whole, line_in, has_each_block, is_line_whole, is_whole_in, is_whole, modules_on, first_missing, listing, whole_by}
use Rattle.carousel_world.proofs.Tables.{modules_in}
use Rattle.carousel_world.proofs.Holding.{has_bytes, is_held_whole, first_not_held}
use Rattle.block_assembler.specs.Blocks.{join_all}

-- ---- of one line

onto_some : (o p : Option Bytes) → is_some (option_map (λ (q : Bytes × Bytes). q.0 ++ q.1) (option_zip o p)) ≡ (is_some o && is_some p)
onto_some (Some x) (Some y) = refl
onto_some (Some x) None = refl
onto_some None (Some y) = refl
onto_some None None = refl

joined_some : (f : ℕ → Option Bytes) (bs : List ℕ) → is_some (join_all (map f bs)) ≡ list_all (λ b. is_some (f b)) bs
joined_some f [] = refl
joined_some f (b ∷ bs) = onto_some (f b) (join_all (map f bs)) ∙ ap (λ t. is_some (f b) && t) (joined_some f bs)

unless_compressed : (c : Bool) (o : Option Bytes) → is_some (cond c None o) ≡ (not c && is_some o)
unless_compressed true o = refl
unless_compressed false o = refl

pub module_some : (s : Span Heard) (ss : List (Span Heard)) (l : ModuleLine) → is_some (held_module s ss l).bytes ≡ (not l.compressed && has_each_block s ss l)
module_some s ss l =
    unless_compressed l.compressed (join_all (map (block_among (stretch s ss l) s.dii l) (range_with_len 0 (block_count_of l.size s.dii.block_size))))
    ∙ ap (λ t. not l.compressed && t) (joined_some (block_among (stretch s ss l) s.dii l) (range_with_len 0 (block_count_of l.size s.dii.block_size)))

pub same_first : (f g : ℕ → Bool) → ((m : ℕ) → f m ≡ g m) → (ms : List ℕ) → find (λ m. not (f m)) ms ≡ find (λ m. not (g m)) ms
same_first f g same [] = refl
same_first f g same (m ∷ ms) = ap (λ t. cond (not t) (Some m) (find (λ k. not (f k)) ms)) (same m) ∙ ap (λ o. cond (not (g m)) (Some m) o) (same_first f g same ms)

line_some : (s : Span Heard) (ss : List (Span Heard)) (o : Option ModuleLine) → has_bytes (option_map (held_module s ss) o) ≡ is_line_whole s ss o
line_some s ss None = refl
line_some s ss (Some l) = module_some s ss l

-- ---- of the table

row_some : (ts : List (Turn Heard)) (s : Span Heard) (m : ℕ) → has_bytes (find (λ h. eqb h.line.id m) (modules_in ts s)) ≡ is_line_whole s (before s ts) (line_in s m)
row_some ts s m = ap has_bytes (find_map (held_module s (before s ts)) (λ h. eqb h.line.id m) s.dii.modules) ∙ line_some s (before s ts) (find (λ l. eqb l.id m) s.dii.modules)

rows_some : (ts : List (Turn Heard)) (m : ℕ) (ss : List (Span Heard)) → has_bytes (find (λ h. eqb h.line.id m) (flat_map (modules_in ts) ss)) ≡ whole_by ts m (listing m ss)
rows_some ts m [] = refl
rows_some ts m (s ∷ ss) = go (lists (outline s.dii) m) refl (rows_some ts m ss) where
  listed : list_any (λ h. eqb h.line.id m) (modules_in ts s) ≡ lists (outline s.dii) m
  listed = any_map (held_module s (before s ts)) (λ h. eqb h.line.id m) s.dii.modules

  go : (t : Bool) → lists (outline s.dii) m ≡ t → has_bytes (find (λ h. eqb h.line.id m) (flat_map (modules_in ts) ss)) ≡ whole_by ts m (listing m ss)
      → has_bytes (find (λ h. eqb h.line.id m) (modules_in ts s ++ flat_map (modules_in ts) ss)) ≡ whole_by ts m (listing m (s ∷ ss))
  go true e rest = ap has_bytes (found_there (λ h. eqb h.line.id m) (modules_in ts s) (flat_map (modules_in ts) ss) (listed ∙ e)) ∙ row_some ts s m ∙ ap (whole_by ts m) (sym (cond-true _ _ _ e))
  go false e rest = ap has_bytes (found_later (λ h. eqb h.line.id m) (modules_in ts s) (flat_map (modules_in ts) ss) (listed ∙ e)) ∙ rest ∙ ap (whole_by ts m) (sym (cond-false _ _ _ e))

table_some : (ts : List (Turn Heard)) (m : ℕ) → has_bytes (find (λ h. eqb h.line.id m) (table_in ts)) ≡ is_whole_in ts m
table_some [] m = refl
table_some (t ∷ ts) m = rows_some ts m (admitted t)

-- the module is held whole
pub whole_is : (cs : List Bytes) (m : ℕ) → is_held_whole (held_after (map as_heard cs)) m ≡ is_whole cs m
whole_is cs m = table_some (turns_of (map as_heard cs)) m

-- the first module on a walk that isn't held whole is the first that isn't whole
pub first_is : (carousel : ℕ) (layout : Layout) (cs : List Bytes) (p : PathNames) → first_not_held carousel layout (held_after (map as_heard cs)) p ≡ first_missing carousel layout cs p
first_is carousel layout cs p = same_first (is_held_whole (held_after (map as_heard cs))) (is_whole cs) (whole_is cs) (modules_on layout (Some (gateway_location carousel)) p)
