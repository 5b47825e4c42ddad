-- What changes nothing.
use Rattle.std.proofs.Common.{ℕ, ◌≡◌, Bool, true, false, eqb, List, [], ◌∷◌, Some, refl, ap, ◌∙◌}
use Rattle.std.specs.List.{find, list_any}
use Rattle.std.proofs.lemmas.Bool.{cond-true, cond-false}
use Rattle.ddb_block.specs.Blocks as ddb
use Rattle.block_assembler.specs.Blocks.{Bytes}
use Rattle.module_cache.specs.Contents.{Content, StoredState, is_new, stored_after, taken_in}
use Rattle.module_cache.specs.Held.{TunedState, line_after, lines_after, tuned_after, taken_line, taken_tuned, with_first}
use Rattle.module_cache.specs.Joining.{CacheState, has_line, offered, is_any, taken_from, taken_of}
use Rattle.module_cache.specs.declared.stored.Line.{Line}
use Rattle.module_cache.specs.declared.taken.Taken.{Taken}
use Rattle.module_cache.specs.declared.taken.Taken.TheVariants as taken

not_new : (t : Taken) → (t ≡ taken.New → ⊥) → is_new t ≡ false
not_new taken.New f = absurd (f refl)
not_new taken.NoDii f = refl
not_new taken.OtherDownload f = refl
not_new taken.Unlisted f = refl
not_new taken.OtherVersion f = refl
not_new taken.Compressed f = refl
not_new taken.WrongPlace f = refl
not_new taken.WrongLength f = refl
not_new taken.Again f = refl

stored_with : StoredState → Content → StoredState
stored_with s c = record { size = s.size; block_size = s.block_size; content = c }

stored_kept : (s : StoredState) (n : ℕ) (bytes : Bytes) → (taken_in s n bytes ≡ taken.New → ⊥) → stored_after s n bytes ≡ s
unfolding stored_with
stored_kept s n bytes f = ap (stored_with s) (cond-false _ _ _ (not_new (taken_in s n bytes) f))

line_stored : Line → StoredState → Line
line_stored x s = record { line = x.line; stored = s }

line_kept : (b : ddb.Block) (x : Line) → (t : Bool) → eqb x.line.version b.version ≡ t → (taken_line b (Some x) ≡ taken.New → ⊥) → line_after b x ≡ x
unfolding line_stored
line_kept b x true e f = cond-true _ _ _ e ∙ ap (line_stored x) (stored_kept x.stored b.number b.bytes (λ g. f (cond-true _ _ _ e ∙ g)))
line_kept b x false e f = cond-false _ _ _ e

lines_kept : (b : ddb.Block) (xs : List Line) → (taken_line b (find (λ x. eqb x.line.id b.module_id) xs) ≡ taken.New → ⊥) → lines_after b xs ≡ xs
lines_kept b [] f = refl
lines_kept b (x ∷ xs) f = go (eqb x.line.id b.module_id) refl (lines_kept b xs) where
  go : (t : Bool) → eqb x.line.id b.module_id ≡ t → ((taken_line b (find (λ x. eqb x.line.id b.module_id) xs) ≡ taken.New → ⊥) → lines_after b xs ≡ xs) → lines_after b (x ∷ xs) ≡ x ∷ xs
  go true e rest = cond-true _ _ _ e ∙ ap (λ y. y ∷ xs) (line_kept b x (eqb x.line.version b.version) refl (λ g. f (ap (taken_line b) (cond-true _ _ _ e) ∙ g)))
  go false e rest = cond-false _ _ _ e ∙ ap (λ ys. x ∷ ys) (rest (λ g. f (ap (taken_line b) (cond-false _ _ _ e) ∙ g)))

with_lines : TunedState → List Line → TunedState
with_lines t ls = record t { lines = ls }

tuned_kept : (t : TunedState) (b : ddb.Block) → (taken_tuned t b ≡ taken.New → ⊥) → tuned_after t b ≡ t
unfolding with_lines
tuned_kept t b f = go (eqb t.download b.download) refl where
  go : (c : Bool) → eqb t.download b.download ≡ c → tuned_after t b ≡ t
  go true e = cond-true _ _ _ e ∙ ap (with_lines t) (lines_kept b t.lines (λ g. f (cond-true _ _ _ e ∙ g)))
  go false e = cond-false _ _ _ e

first_kept : {X : Type 0} (p : X → Bool) (f : X → X) (xs : List X) → ((x : X) → find p xs ≡ Some x → f x ≡ x) → with_first p f xs ≡ xs
first_kept p f [] h = refl
first_kept p f (x ∷ xs) h = go (p x) refl (first_kept p f xs) where
  go : (t : Bool) → p x ≡ t → (((y : _) → find p xs ≡ Some y → f y ≡ y) → with_first p f xs ≡ xs) → with_first p f (x ∷ xs) ≡ x ∷ xs
  go true e rest = cond-true _ _ _ e ∙ ap (λ y. y ∷ xs) (h x (cond-true _ _ _ e))
  go false e rest = cond-false _ _ _ e ∙ ap (λ ys. x ∷ ys) (rest (λ y g. h y (cond-false _ _ _ e ∙ g)))

held_with : CacheState → List TunedState → CacheState
held_with c ts = record { held = ts; waiting = c.waiting }

-- only a block that is new changes what is held
pub offer_keeps_all : (c : CacheState) (b : ddb.Block) → (taken_of c b ≡ taken.New → ⊥) → offered c b ≡ c
unfolding held_with
offer_keeps_all c b f =
    ap (held_with c) (first_kept (has_line b) (λ t. tuned_after t b) c.held
    (λ t e. tuned_kept t b (λ g. f (ap (taken_from b (is_any c.held) (list_any (λ u. eqb u.download b.download) c.held)) e ∙ g))))
