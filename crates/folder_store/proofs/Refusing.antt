-- Which path text was refused, and which file is too large.
use Rattle.std.proofs.Common.{◌≡◌, ℕ, Bool, true, false, cond, nat_lt, List, [], ◌∷◌, ◌++◌, length, Option, Some, refl, sym, ap, ◌∙◌, append-nil}
use Rattle.path_tree.specs.Paths.{Bytes, PathNames}
use Rattle.path_tree.specs.declared.tree.Edit.{Edit}
use Rattle.path_tree.specs.declared.tree.Edit.TheVariants.{Put, Remove, MakeFolder, RemoveFolder}
use Rattle.folder_store.specs.Walk.{text_below}
use Rattle.folder_store.specs.Surveys.{Look, first_large, first_of}
use Rattle.folder_store.specs.Inner.Sighting.{with_file}
use Rattle.folder_store.proofs.Files.{text_more}

-- the text of the root
pub root_text : (root : Bytes) (path : PathNames) (text : Bytes) → path ≡ [] → text ≡ root → text ≡ text_below root path
root_text root path text path_is text_is = text_is ∙ sym (append-nil root) ∙ ap (text_below root) (sym path_is)

-- the text of a place below another
pub place_below : (root text full : Bytes) (path below : PathNames) (name : Bytes) → text ≡ text_below root path → full ≡ text ++ 47 ∷ name → below ≡ path ++ name ∷ [] → full ≡ text_below root below
place_below root text full path below name text_is full_is below_is =
    full_is ∙ ap (λ (x : Bytes). x ++ 47 ∷ name) text_is ∙ sym (text_more root path name) ∙ ap (text_below root) (sym below_is)

large_with : (k : Look) (text : Bytes) (read : ℕ) → (with_file k text read).large ≡ cond (nat_lt 16777216 read) (first_of k.large text) k.large
large_with k text read = by (nat_lt 16777216 read) where
  by : (b : Bool) → (cond b (record k { large = first_of k.large text }) k).large ≡ cond b (first_of k.large text) k.large
  by true = refl
  by false = refl

large_more : (root : Bytes) (path : PathNames) (content : Bytes) (es : List Edit)
    → cond (nat_lt 16777216 (length content)) (first_of (first_large root es) (text_below root path)) (first_large root es) ≡ first_large root (es ++ Put path content ∷ [])
large_more root path content [] = refl
large_more root path content (Remove p ∷ es) = large_more root path content es
large_more root path content (MakeFolder p ∷ es) = large_more root path content es
large_more root path content (RemoveFolder p ∷ es) = large_more root path content es
large_more root path content (Put p c ∷ es) = by (nat_lt 16777216 (length c)) (nat_lt 16777216 (length content)) (large_more root path content es) where
  text : Bytes
  text = text_below root path

  here : Option Bytes
  here = Some (text_below root p)

  rest : Option Bytes
  rest = first_large root es

  more : Option Bytes
  more = first_large root (es ++ Put path content ∷ [])

  by : (a b : Bool) → cond b (first_of rest text) rest ≡ more → cond b (first_of (cond a here rest) text) (cond a here rest) ≡ cond a here more
  by true true h = refl
  by true false h = refl
  by false true h = h
  by false false h = h

-- the first file that is too large, after one file more
pub large_noted : (root text : Bytes) (path : PathNames) (content : Bytes) (before after : List Edit) (k l : Look) (read : ℕ) → text ≡ text_below root path → k.large ≡ first_large root before
    → read ≡ length content → l ≡ with_file k text read → after ≡ before ++ Put path content ∷ [] → l.large ≡ first_large root after
large_noted root text path content before after k l read text_is large_is read_is look_is after_is =
    ap (λ (x : Look). x.large) look_is ∙ large_with k text read ∙ ap (λ n. cond (nat_lt 16777216 n) (first_of k.large text) k.large) read_is
    ∙ ap (λ (x : Bytes). cond (nat_lt 16777216 (length content)) (first_of k.large x) k.large) text_is
    ∙ ap (λ (o : Option Bytes). cond (nat_lt 16777216 (length content)) (first_of o (text_below root path)) o) large_is
    ∙ large_more root path content before ∙ ap (first_large root) (sym after_is)

-- a folder that is made is no file
pub large_made : (root : Bytes) (path : PathNames) (es : List Edit) → first_large root es ≡ first_large root (es ++ MakeFolder path ∷ [])
large_made root path [] = refl
large_made root path (Remove p ∷ es) = large_made root path es
large_made root path (MakeFolder p ∷ es) = large_made root path es
large_made root path (RemoveFolder p ∷ es) = large_made root path es
large_made root path (Put p c ∷ es) = by (nat_lt 16777216 (length c)) (large_made root path es) where
  by : (b : Bool) → first_large root es ≡ first_large root (es ++ MakeFolder path ∷ []) → cond b (Some (text_below root p)) (first_large root es) ≡ cond b (Some (text_below root p)) (first_large root (es ++ MakeFolder path ∷ []))
  by true h = refl
  by false h = h
