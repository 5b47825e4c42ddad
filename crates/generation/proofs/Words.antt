-- The words and lemmas of the crates below, and of this crate's definitions, that several of these proofs use.
pub use Rattle.biop_object.specs.Names.{Layout, module_in, Thing, AFile, AFolder, thing_at, thing_named, location_in, thing_in, thing_of, first_of_key}
pub use Rattle.biop_object.specs.ObjectReading.{reads_to_end, index_of, shape_bindings}
pub use Rattle.biop_object.specs.Objects.{file_spelling, folder_spelling, binding_spelling, bound_tail, bound_kind, binding_of, Object, IsFile, IsFolder, BindingFields, biop, kind_of, IsEntry}
pub use Rattle.biop_object.specs.Spelled.{SpellingsReadBack, IsSpellable, IsSpellableEntry, spelled_object, spelled_objects, Spelled, spelled_bytes}
pub use Rattle.biop_object.specs.declared.written.Written.{Written}
pub use Rattle.cycle_planner.proofs.CallerLemmas.{all_diis, all_blocks_of, group_known, group_has, dii_contained}
pub use Rattle.cycle_planner.specs.Cycle.{Line, IsGroupOf, AreLines, diis_of, blocks_of}
pub use Rattle.cycle_planner.specs.declared.Item.TheVariants.{Dsi, Dii, Block}
pub use Rattle.ddb_block.specs.Blocks.{block_count_of}
pub use Rattle.dsi_dii.specs.Controls.{DiiFields, dsi_spelling, dii_spelling, line_bytes, identification_of}
pub use Rattle.dsi_dii.specs.declared.ModuleLine.{ModuleLine}
pub use Rattle.dsi_dii.specs.declared.TheConstants.{LAST_GENERATION, MOST_TOTAL_SIZE}
pub use Rattle.dsmcc_section.specs.Sections.{spelling}
pub use Rattle.generation.specs.Groups.{is_in_group, group_in, group_of, dii_transaction}
pub use Rattle.generation.specs.Inner.Linking.{group_by, group_of_parent, is_of, AreMembers}
pub use Rattle.generation.specs.Inner.Merging.{AreBefore}
pub use Rattle.generation.specs.Inner.Passing.{spot_at, path_before, Keeps, to_come}
pub use Rattle.generation.specs.Inner.Stays.{bytes_of_all, SameModules, AreTheirs}
pub use Rattle.generation.specs.Inner.View.{IsSpotIn, IsMarked, AreMarked, placed_from, ArePlaced, AreReady, AreOld, AreSpotsOf, IsWeighed, IsId}
pub use Rattle.generation.specs.Kept.{layouts_of, LayoutsAreLawful, GenerationsAreOfTheLists, StandsFor}
pub use Rattle.generation.specs.Lawful.{layout_at, count_of, EqualCountsMeanEqualBytes, EqualVersionsMeanEqualBytes, HasDii, IsLayout, Carries, IsPublishable, tree_at, section_in, IsItem, IsNode, IsInside}
pub use Rattle.generation.specs.Layouts.{same_module, bound_of, location_of, is_in, module_bytes, object_bytes, GenerationState, lines_in, lines_of, items_of, key_bytes, layout_of, placed_at, key_in, module_of, is_same_spot, old_keys, taken_in, free_keys, fill_keys, keys_of, dii_lines, gateway_location, control_section, block_section, section_of, count_after, counts_after, ids_counted, module_if_used, greatest, first_of, next_of, gateway_before, objects_after, placed_all, written_in, folder_kind_of, modules_for, old_modules, generation_of, same_kind, Placed, entries_of, count_in, one_if_changed, spelled}
pub use Rattle.generation.specs.Limits.{check_of, unless_passed}
pub use Rattle.generation.specs.Publication.{is_child, AreRising, gateway_spot, below, spots_in, spots_of, size_of, sizes_of, binding_size, binding_rest, is_large_folder, large_folder, limit_of, or_else, over, Passed, Objects, Total, Modules, Spot}
pub use Rattle.generation.specs.Standing.{IsIn, IsNumbered, object_for, ObjectsAreWhatStands}
pub use Rattle.generation.specs.View.{view_spot, view_placed, objects_in, IsRising, view_listed, last_of, view_generation}
pub use Rattle.generation.specs.declared.made.Listed.{Listed}
pub use Rattle.ior_tap.specs.declared.Location.{Location}
pub use Rattle.module_groups.proofs.CallerLemmas.{id_of_group, groups_rise}
pub use Rattle.module_groups.specs.declared.TheConstants.{GROUP_SIZE, GREATEST_ID}
pub use Rattle.module_packer.specs.Kept.{KeptIsAPlacement, kept_modules, sizes_in, AreObjects}
pub use Rattle.module_packer.specs.Placement.{modules_needed, IsPlacement, sum_in}
pub use Rattle.oc_bytes.specs.Numbers.{IsBytes, two_bytes, four_bytes, eight_bytes}
pub use Rattle.path_tree.proofs.CallerLemmas.{same_name-is, path_cmp-is, same_name-refl, same_path-refl, rises_tree, path_total, name_cmp-refl, nested-flat, has_first, same_path-is, path_cmp-refl, walk, names_differ, content_here}
pub use Rattle.path_tree.specs.Edits.{AreAsBefore}
pub use Rattle.path_tree.specs.Nestings.{Nesting, Empty, FileThen, FolderThen, under, flat, nested, IsAfter, IsNesting, stands_in, stands_at, names_in, in_file}
pub use Rattle.path_tree.specs.Paths.{Bytes, shared, same_name, PathNames, path_cmp, same_path, name_cmp, IsName, IsPath}
pub use Rattle.path_tree.specs.Trees.{Tree, IsTree, file_in, entry_at, content_at, HasContent, is_a_file, NoSuch, node_at, content_in, item_at, path_at, bytes_at, is_file_at, Node}
pub use Rattle.path_tree.specs.declared.entry.Entry.{Entry}
pub use Rattle.std.proofs.Math.Seq.{take-length, drop-append-add}
pub use Rattle.std.proofs.lemmas.Bool.{cond_both, cases_Bool, eqb-true, eq-eqb, ne_eqb, ltb-true, ltb-false, cases_eq, cases_lt, and_parts, not-true, or_parts, false_from_ne_true, le-leb, lt-leb, cond-true, cond-false, not-false, or_right}
pub use Rattle.std.proofs.lemmas.Bool.Decides.{nat_tests}
pub use Rattle.std.proofs.lemmas.Grind.{common_steps, div_ceil_times}
pub use Rattle.std.proofs.lemmas.List.{take_more, get_or-map, length-map, drop_more, get_or_default, get_or-take, take_min, drop_all, take_all, get_or_past, get_or-set_same, get_or-set_other, map-append, map-id, drop-drop, drop_at, take_at, map_more, length-set, get_or_read}
pub use Rattle.std.proofs.lemmas.List.Edits.{split_between}
pub use Rattle.std.proofs.lemmas.List.Elements.{All-cons, All-head, All-tail, All-append, All-filter, filter_more, filter_passes, All-push, filter-append, All-map, recursion_from_All, filter_map-append, All-nil, Contains-append_left, Contains-append_right, All-contains}
pub use Rattle.std.proofs.lemmas.List.FromFn.{length-map-range_with_len, get_or-map-range_with_len, length-range_with_len, map-range_with_len_more, get_or-range_with_len}
pub use Rattle.std.proofs.lemmas.List.Folds.{list_any_at}
pub use Rattle.std.proofs.lemmas.List.Kept.{AllPairs-filter, AllPairs-cons}
pub use Rattle.std.proofs.lemmas.List.Sorted.{IsPartitionedBy-ltb, IsPartitionPoint-from_clause}
pub use Rattle.std.proofs.lemmas.List.Sums.{sum_by-cons, fold_push, sum-map, sum_by-le, sum_by-le-sum_by}
pub use Rattle.std.proofs.lemmas.List.Concat.{length-flat_map}
pub use Rattle.std.proofs.lemmas.Slice.Zip.{firsts-zip, seconds-zip}
pub use Rattle.std.proofs.lemmas.Option.{same_Some, get_or_from_slice_get, slice_get_within, cond_some, some_pair_parts}
pub use Rattle.std.specs.List.{All, filter, flat_map, fold, list_any, AllPairs, Contains, AllByRecursion, count_by, range_with_len, find, filter_map, sum_by, cons_option, zip, list_all}
pub use Rattle.std.specs.Option.{option_map, unwrap_or, is_none}
pub use Rattle.std.specs.Ordering.{is_eq, is_lt, ordering_reverse, nat_cmp, ordering_then}
pub use Rattle.std.specs.Prelude.{slice_get, IfOk, IsTrue}
pub use Rattle.std.specs.declared.cmp.Ordering.{Ordering}
pub use Rattle.std.specs.declared.cmp.Ordering.TheVariants.{Less, Equal, Greater}
pub use Rattle.generation.specs.declared.spots.Spot.{Spot as CodeSpot}
pub use Rattle.generation.specs.declared.objects.Placed.{Placed as CodePlaced}
pub use Rattle.generation.specs.declared.limit.Weighed.{Weighed}
pub use Rattle.generation.specs.declared.objects.Objects.{Objects as CodeObjects}
pub use Rattle.generation.specs.declared.links.By.{By}
pub use Rattle.generation.specs.declared.links.By.TheVariants.{Folder as ByFolder, Module as ByModule}
pub use Rattle.cycle_planner.specs.declared.Item.{Item}
use Rattle.std.proofs.Common.{◌≡◌, ◌⊎◌, suc, List, [], ◌∷◌, map, Option, Some, None, refl, subst, arith, inl, inr}

-- something is there, or nothing
pub option_cases : {A : Type 0} (o : Option A) → ((x : A) × (o ≡ Some x)) ⊎ (o ≡ None)
option_cases (Some x) = inl (x, refl)
option_cases None = inr refl

pub all_unmap : {A B : Type 0} (P : B → Type 0) (f : A → B) (xs : List A) → All P (map f xs) → All (λ x. P (f x)) xs
all_unmap P f xs all = λ k d lt. subst P (get_or-map f xs k d (f d) lt) (all k (f d) (omega (arith, lt, length-map xs f)))

-- what holds of each that is given for an element holds of all
pub all_kept : {A B : Type 0} (P : B → Type 0) (f : A → Option B) (xs : List A) → All (λ x. (y : B) → f x ≡ Some y → P y) xs → All P (filter_map f xs)
all_kept P f [] h = All-nil P
all_kept P f (x ∷ xs) h =
    let rest = all_kept P f xs (λ k d lt. h (suc k) d (omega (arith, lt))) in
    elim (option_cases (f x)) [ inl s ↦ rw s.1 (All-cons P s.0 (filter_map f xs) (h 0 x (omega arith) s.0 s.1) rest) | inr none ↦ rw none rest ]
