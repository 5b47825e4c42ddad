-- One path, by its names and its answer.
use Rattle.std.proofs.Common.{◌≡◌, Bool, cond, true, false, ◌&&◌, List, [], Option, Result, Ok, Err, refl, sym, ap, ◌∙◌, subst}
use Rattle.std.specs.Prelude.{IfOk}
use Rattle.path_tree.specs.Paths.{Bytes, PathNames}
use Rattle.path_resolver.specs.declared.answer.Answer.{Answer}
use Rattle.path_resolver.specs.declared.answer.Answer.TheVariants as answers
use Rattle.folder_store.specs.Folders.{FolderTree}
use Rattle.folder_store.specs.Stores.{with_entries}
use Rattle.folder_store.specs.Walk.{text_below}
use Rattle.shell_streams.specs.Sending.{OutputState, Puts}
use Rattle.shell_streams.specs.declared.output.OutputFault.{OutputFault}
use Rattle.shell_streams.specs.declared.output.OutputFault.TheVariants as outputs
use Rattle.shell_streams.proofs.CallerLemmas.{puts_as, puts_none, puts_ok, puts_err}
use Rattle.shell_words.specs.Texts.{answered_line}
use Rattle.folder_extract.specs.Naming.{can_stand}
use Rattle.folder_extract.specs.Telling.{is_whole, is_whole_answer, line_for, passed_of, told_of}
use Rattle.folder_extract.specs.Extracting.{WrotePart, entries_at, entries_of}
use Rattle.folder_extract.specs.Inner.Writing.{Takes, Wrote, Breaks}
use Rattle.folder_extract.specs.declared.extracting.Extracted.{Extracted}
use Rattle.folder_extract.specs.declared.extracting.Extracted.TheVariants as ends
use Rattle.folder_extract.proofs.Taking.{part_none, with_nothing}

-- what holds of each value
pub all_ok : {X E : Type 0} {P : X → Type 0} (r : Result X E) → ((x : X) → P x) → IfOk r P
all_ok (Ok x) f = f x
all_ok (Err e) f = tt

-- the same in other words
pub takes_as : (r : Result Extracted OutputFault) (before after : Option FolderTree) (rose : Type 0) (old new : OutputState) (s t : Bytes) (xs ys : FolderTree) (a b : Bytes) (v w : Bool)
    → s ≡ t → xs ≡ ys → a ≡ b → v ≡ w → Takes s xs a v r before after rose old new → Takes t ys b w r before after rose old new
takes_as r before after rose old new s t xs ys a b v w texts entries told whole h =
    subst (λ (x : Bytes). Takes x ys b w r before after rose old new) texts
    (subst (λ (x : FolderTree). Takes s x b w r before after rose old new) entries
    (subst (λ (x : Bytes). Takes s xs x w r before after rose old new) told
    (subst (λ (x : Bool). Takes s xs a x r before after rose old new) whole h)))

-- there was no memory, and nothing was done
pub none_breaks : (entries : FolderTree) (told : Bytes) (t u : Option FolderTree) (o : OutputState) → u ≡ t → Breaks outputs.NoMemory entries told t u o o
none_breaks entries told t u o same = record { part = subst (λ (v : Option FolderTree). WrotePart t v entries) (sym same) (part_none t entries); told_is = puts_none o told }

-- all was written and told, and it is whole or isn't
pub by_all : (text : Bytes) (entries : FolderTree) (told : Bytes) (t u : Option FolderTree) (rose : Type 0) (old new : OutputState) (whole all : Bool) → whole ≡ all → Wrote entries told t u old new
    → Takes text entries told whole (Ok (cond all ends.All ends.NotAll)) t u rose old new
by_all text entries told t u rose old new whole true e h = (h, e)
by_all text entries told t u rose old new whole false e h = (h, e)

-- nothing is to be written, and this was told
pub tells : (r : Result Extracted OutputFault) (text : Bytes) (entries : FolderTree) (told : Bytes) (whole : Bool) (t : Option FolderTree) (rose : Type 0) (old new : OutputState)
    → entries ≡ [] → whole ≡ false → Puts r old new told → IfOk r (λ end. end ≡ ends.NotAll) → Takes text entries told whole r t t rose old new
tells (Ok ends.NotAll) text entries told whole t rose old new none not_whole h e =
    (record { wrote = sym (with_nothing t) ∙ ap (with_entries t) (sym none); told_is = puts_ok tt h }, not_whole)
tells (Ok ends.All) text entries told whole t rose old new none not_whole h e = absurd (cc)
tells (Ok ends.Failed) text entries told whole t rose old new none not_whole h e = absurd (cc)
tells (Err f) text entries told whole t rose old new none not_whole h e = record { part = part_none t entries; told_is = puts_err h }

-- an answer that is neither a file nor a folder
other : (text : Bytes) (p : PathNames) (a : Answer) → ((bytes : Bytes) → a ≡ answers.File bytes → ⊥) → ((names : List Bytes) → a ≡ answers.Folder names → ⊥)
    → (entries_of text a ≡ []) × (told_of p a ≡ answered_line p a) × (is_whole_answer a ≡ false)
other text p (answers.File bytes) file folder = absurd (file bytes refl)
other text p (answers.Folder names) file folder = absurd (folder names refl)
other text p answers.NoSuch file folder = (refl, refl, refl)
other text p (answers.NotYet m) file folder = (refl, refl, refl)
other text p answers.NoCarousel file folder = (refl, refl, refl)
other text p answers.Elsewhere file folder = (refl, refl, refl)
other text p (answers.Compressed m) file folder = (refl, refl, refl)
other text p (answers.Bad m place) file folder = (refl, refl, refl)
other text p (answers.Dangling m) file folder = (refl, refl, refl)
other text p (answers.OtherKind m) file folder = (refl, refl, refl)

pub other_takes : (r : Result Extracted OutputFault) (text : Bytes) (p : PathNames) (a : Answer) (t : Option FolderTree) (rose : Type 0) (old new : OutputState)
    → ((bytes : Bytes) → a ≡ answers.File bytes → ⊥) → ((names : List Bytes) → a ≡ answers.Folder names → ⊥) → Puts r old new (answered_line p a) → IfOk r (λ end. end ≡ ends.NotAll)
    → Takes text (entries_of text a) (told_of p a) (is_whole_answer a) r t t rose old new
other_takes r text p a t rose old new file folder h e =
    let o = other text p a file folder in
    tells r text (entries_of text a) (told_of p a) (is_whole_answer a) t rose old new o.0 o.2 (puts_as (sym o.1) h) e

module _ (folder : Bytes) (answer : PathNames → Answer) (p : PathNames) where
  -- a path whose names can be those of files
  pub placed_takes : (text : Bytes) (a : Answer) (r : Result Extracted OutputFault) (before after : Option FolderTree) (rose : Type 0) (old new : OutputState)
      → can_stand p ≡ true → text ≡ text_below folder p → a ≡ answer p → Takes text (entries_of text a) (told_of p a) (is_whole_answer a) r before after rose old new
      → Takes (text_below folder p) (entries_at folder answer p) (line_for answer p) (is_whole answer p) r before after rose old new
  placed_takes text a r before after rose old new can same is h = takes_as r before after rose old new text (text_below folder p) (entries_of text a) (entries_at folder answer p)
      (told_of p a) (line_for answer p) (is_whole_answer a) (is_whole answer p) same
      (ap (λ (x : Bytes). entries_of x a) same ∙ ap (entries_of (text_below folder p)) is ∙ sym (ap (λ c. cond c (entries_of (text_below folder p) (answer p)) []) can))
      (ap (told_of p) is ∙ sym (ap (λ c. cond c (told_of p (answer p)) (passed_of p)) can))
      (ap is_whole_answer is ∙ sym (ap (λ c. c && is_whole_answer (answer p)) can)) h

  -- one that is passed over
  pub passed_takes : (r : Result Extracted OutputFault) (t : Option FolderTree) (rose : Type 0) (old new : OutputState) → can_stand p ≡ false → Puts r old new (passed_of p) → IfOk r (λ end. end ≡ ends.NotAll)
      → Takes (text_below folder p) (entries_at folder answer p) (line_for answer p) (is_whole answer p) r t t rose old new
  passed_takes r t rose old new cannot h e = tells r (text_below folder p) (entries_at folder answer p) (line_for answer p) (is_whole answer p) t rose old new
      (ap (λ c. cond c (entries_of (text_below folder p) (answer p)) []) cannot) (ap (λ c. c && is_whole_answer (answer p)) cannot)
      (puts_as (sym (ap (λ c. cond c (told_of p (answer p)) (passed_of p)) cannot)) h) e
