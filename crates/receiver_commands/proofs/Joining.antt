-- Blocks that are all there make a module.
use Rattle.std.proofs.Common.{◌≡◌, ℕ, ◌≤◌, Bool, true, false, not, List, [], ◌∷◌, length, cond, Option, Some, None, refl, arith, ◌∙◌, sym, ap, ◌++◌}
use Rattle.std.specs.List.{position, prefix_len}
use Rattle.std.specs.Option.{is_none, is_some, option_map, option_zip}
use Rattle.std.proofs.lemmas.Bool.{ltb-false, true≢false}
use Rattle.shell_streams.specs.Cuts.{Bytes}
use Rattle.block_assembler.specs.Blocks.{join_all}

joined_there : (blocks : List (Option Bytes)) → length blocks ≤ prefix_len (λ x. not (is_none x)) blocks → is_some (join_all blocks) ≡ true
joined_there [] h = refl
joined_there (Some x ∷ bs) h = onto x (join_all bs) (joined_there bs (omega (arith, h)))
  where
    onto : (x : Bytes) (o : Option Bytes) → is_some o ≡ true → is_some (option_map (λ (p : Bytes × Bytes). p.0 ++ p.1) (option_zip (Some x) o)) ≡ true
    onto x (Some xs) e = refl
    onto x None e = cc
joined_there (None ∷ bs) h = absurd (omega (arith, h))

-- where no place is empty, the blocks are joined
pub joined_all : (blocks : List (Option Bytes)) → position is_none blocks ≡ None → join_all blocks ≡ None → ⊥
joined_all blocks e j = true≢false (sym (joined_there blocks (ltb-false (prefix_len (λ x. not (is_none x)) blocks) (length blocks) (none _ _ e))) ∙ ap is_some j)
  where
    none : (b : Bool) (n : ℕ) → cond b (Some n) None ≡ None → b ≡ false
    none true n e = cc
    none false n e = refl
