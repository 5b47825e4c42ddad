-- One block offered to a module.
use Rattle.std.proofs.Common.{ℕ, zero, suc, replicate, ◌≡◌, ◌<◌, Bool, true, false, cond, not, List, [], length, get_or, Option, Some, None, refl, sym, ap, subst, ◌∙◌, arith}
use Rattle.std.specs.Option.{is_some}
use Rattle.std.proofs.Math.ListN.{set}
use Rattle.std.proofs.lemmas.List.{set-set, set-get_or, length-set, length-replicate, get_or-set_same}
use Rattle.std.proofs.lemmas.Bool.{ltb-true}
use Rattle.block_assembler.specs.Blocks.{AssemblerState, Bytes, offer_of, after_offer, after_forget, block_in, empty_of, is_new, join_all}
use Rattle.module_cache.specs.Inner.StoredView.{IsShaped}
use Rattle.module_cache.specs.Contents.{Blocks, Whole, content_of, whole_or}
use Rattle.block_assembler.specs.declared.Offer.TheVariants.{WrongPlace, WrongLength, Again, New}
use Rattle.ddb_block.specs.Blocks.{block_count_of}

-- ---- what is new

third : (a b c : Bool) → cond (not a) WrongPlace (cond (not b) WrongLength (cond c Again New)) ≡ New → c ≡ false
third true true true e = cc
third true true false e = refl
third true false c e = cc
third false b c e = cc

nothing_there : (o : Option Bytes) → is_some o ≡ false → o ≡ None
nothing_there None e = refl
nothing_there (Some x) e = cc

pub missing : (a : AssemblerState) (b : ℕ) (bytes : Bytes) → offer_of a b bytes ≡ New → block_in a.blocks b ≡ None
missing a b bytes e = nothing_there _ (third _ _ _ e)

same_blocks : (a : AssemblerState) (xs : List (Option Bytes)) → xs ≡ a.blocks → ◌≡◌ {A = AssemblerState} (record { size = a.size; block_size = a.block_size; blocks = xs }) a
same_blocks a xs e = ap (λ ys. record { size = a.size; block_size = a.block_size; blocks = ys }) e

pub forgotten : (a : AssemblerState) (b : ℕ) (bytes : Bytes) → offer_of a b bytes ≡ New → after_forget (after_offer a b bytes) b ≡ a
forgotten a b bytes e =
    rw e (same_blocks a _ (set-set a.blocks b (Some bytes) None ∙ ap (λ o. set a.blocks b o) (sym (missing a b bytes e)) ∙ set-get_or a.blocks b None))

-- ---- shapes

pub shaped_empty : (size block_size : ℕ) → IsShaped size block_size (empty_of size block_size)
shaped_empty size block_size = record { same_size = refl; same_block_size = refl; places = length-replicate (block_count_of size block_size) None }

after_either : (new : Bool) (size block_size b : ℕ) (bytes : Bytes) (a : AssemblerState) → IsShaped size block_size a
    → IsShaped size block_size (cond new (record { size = a.size; block_size = a.block_size; blocks = set a.blocks b (Some bytes) }) a)
after_either true size block_size b bytes a s = record { same_size = s.same_size; same_block_size = s.same_block_size; places = length-set a.blocks b (Some bytes) ∙ s.places }
after_either false size block_size b bytes a s = s

pub shaped_after : (size block_size b : ℕ) (bytes : Bytes) (a : AssemblerState) → IsShaped size block_size a → IsShaped size block_size (after_offer a b bytes)
shaped_after size block_size b bytes a s = after_either (is_new (offer_of a b bytes)) size block_size b bytes a s

-- ---- nothing yet

pub fresh_whole : (n : ℕ) → n ≡ 0 → content_of (replicate n None) ≡ Whole []
fresh_whole zero e = refl
fresh_whole (suc n) e = absurd (omega arith)

pub fresh_blocks : (n : ℕ) → 0 < n → content_of (replicate n None) ≡ Blocks (replicate n None)
fresh_blocks zero h = absurd (omega arith)
fresh_blocks (suc n) h = refl

-- ---- a block that is new changes what is there

other_content : (xs bs : List (Option Bytes)) → (xs ≡ bs → ⊥) → (w : Option Bytes) → whole_or xs w ≡ Blocks bs → ⊥
other_content xs bs f None e = f (same_list xs bs e) where
  same_list : (xs bs : List (Option Bytes)) → Blocks xs ≡ Blocks bs → xs ≡ bs
  same_list xs bs e = cc
other_content xs bs f (Some w) e = cc

some_not_none : (o : Option Bytes) (bytes : Bytes) → o ≡ Some bytes → o ≡ None → ⊥
some_not_none o bytes e g = cc

changed_blocks : (bs : List (Option Bytes)) (b : ℕ) (bytes : Bytes) → b < length bs → get_or bs b None ≡ None → content_of (set bs b (Some bytes)) ≡ Blocks bs → ⊥
changed_blocks bs b bytes h none e =
    other_content (set bs b (Some bytes)) bs
    (λ same. some_not_none (get_or bs b None) bytes (ap (λ xs. get_or xs b None) (sym same) ∙ get_or-set_same bs b (Some bytes) None h) none)
    (join_all (set bs b (Some bytes))) e

first : (a b c : Bool) → cond (not a) WrongPlace (cond (not b) WrongLength (cond c Again New)) ≡ New → a ≡ true
first true b c e = refl
first false b c e = cc

pub new_changes : (a : AssemblerState) (b : ℕ) (bytes : Bytes) (size block_size : ℕ) → IsShaped size block_size a → offer_of a b bytes ≡ New
    → content_of (after_offer a b bytes).blocks ≡ Blocks a.blocks → ⊥
new_changes a b bytes size block_size s e =
    let inside : b < block_count_of a.size a.block_size = ltb-true _ _ (first _ _ _ e) in
    let same : block_count_of a.size a.block_size ≡ length a.blocks = ap (λ n. block_count_of n a.block_size) s.same_size ∙ ap (λ n. block_count_of size n) s.same_block_size ∙ sym s.places in
    let h : b < length a.blocks = subst (λ n. b < n) same inside in
    rw e (changed_blocks a.blocks b bytes h (missing a b bytes e))
