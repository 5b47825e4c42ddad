-- Events, and what each actor has to do in them, in parts.
use Rattle.session.proofs.Words.{◌≡◌, ℕ, suc, ◌+◌, ◌==◌, if◌then◌else◌, List, [], ◌∷◌, ◌++◌, map, length, refl, sym, ap, ◌∙◌, arith, append-nil, append_assoc, map-append, length-append, PathNames, Edit, Stage, Before, During, After, Step, Commit, Draw, Open, DrawFields, Asked, commits_by, draws_in, asked_from, least_for, opens_by, Setting, done_in, events_in, above, at_end, before_steps, below, during_steps, end_steps}
pub use Rattle.session.specs.Inner.Plans.{steps}

pub commits_more : (n : ℕ) (xs ys : List Step) → commits_by n (xs ++ ys) ≡ commits_by n xs ++ commits_by n ys
commits_more n [] ys = refl
commits_more n (Commit m edits ∷ xs) ys = ap (λ (zs : List (List Edit)). (if m == n then edits ∷ [] else []) ++ zs) (commits_more n xs ys) ∙ sym (append_assoc (if m == n then edits ∷ [] else []) (commits_by n xs) (commits_by n ys))
commits_more n (Draw asked fates ∷ xs) ys = commits_more n xs ys
commits_more n (Open reader path ∷ xs) ys = commits_more n xs ys

pub draws_more : (xs ys : List Step) → draws_in (xs ++ ys) ≡ draws_in xs ++ draws_in ys
draws_more [] ys = refl
draws_more (Commit m edits ∷ xs) ys = draws_more xs ys
draws_more (Draw asked fates ∷ xs) ys = ap (λ (zs : List DrawFields). record { asked = asked; fates = fates } ∷ zs) (draws_more xs ys)
draws_more (Open reader path ∷ xs) ys = draws_more xs ys

pub opens_more : (r : ℕ) (xs ys : List Step) → opens_by r (xs ++ ys) ≡ opens_by r xs ++ opens_by r ys
opens_more r [] ys = refl
opens_more r (Commit m edits ∷ xs) ys = opens_more r xs ys
opens_more r (Draw asked fates ∷ xs) ys = opens_more r xs ys
opens_more r (Open reader path ∷ xs) ys = ap (λ (zs : List PathNames). (if reader == r then path ∷ [] else []) ++ zs) (opens_more r xs ys) ∙ sym (append_assoc (if reader == r then path ∷ [] else []) (opens_by r xs) (opens_by r ys))

pub asked_more : (r before all above : ℕ) (xs ys : List (Stage × Step))
    → asked_from r before all above (xs ++ ys) ≡ asked_from r before all above xs ++ asked_from r before all (above + length (draws_in (steps xs))) ys
asked_more r before all above [] ys = ap (λ (n : ℕ). asked_from r before all n ys) (omega arith)
asked_more r before all above ((stage, Commit m edits) ∷ xs) ys = asked_more r before all above xs ys
asked_more r before all above ((stage, Draw asked fates) ∷ xs) ys =
    asked_more r before all (suc above) xs ys ∙ ap (λ (n : ℕ). asked_from r before all (suc above) xs ++ asked_from r before all n ys) (omega arith)
asked_more r before all above ((stage, Open reader path) ∷ xs) ys =
    let one : List Asked = if reader == r then record { path = path; least = least_for above before all stage } ∷ [] else [] in
    ap (λ (zs : List Asked). one ++ zs) (asked_more r before all above xs ys) ∙ sym (append_assoc one (asked_from r before all above xs) (asked_from r before all (above + length (draws_in (steps xs))) ys))

-- ---- events by their stages

pub unstaged : (stage : Stage) (es : List Step) → steps (map (λ (e : Step). (stage, e)) es) ≡ es
unstaged stage [] = refl
unstaged stage (e ∷ es) = ap (λ (zs : List Step). e ∷ zs) (unstaged stage es)

pub steps_more : (xs ys : List (Stage × Step)) → steps (xs ++ ys) ≡ steps xs ++ steps ys
steps_more xs ys = map-append (λ (e : Stage × Step). e.1) xs ys

pub above_more : (xs ys : List Step) → above (xs ++ ys) ≡ above xs ++ above ys
above_more xs ys = map-append (λ (e : Step). (Before, e)) xs ys

pub steps_done : (setting : Setting) → steps (done_in setting) ≡ before_steps setting.parts ++ during_steps setting.parts
steps_done setting = steps_more (above (before_steps setting.parts)) (below (during_steps setting.parts))
    ∙ (λ i. unstaged Before (before_steps setting.parts) i ++ unstaged During (during_steps setting.parts) i)

pub steps_all : (setting : Setting) → steps (events_in setting) ≡ steps (done_in setting) ++ end_steps setting.parts
steps_all setting =
    steps_more (done_in setting) (at_end (end_steps setting.parts)) ∙ ap (λ (zs : List Step). steps (done_in setting) ++ zs) (unstaged After (end_steps setting.parts))

-- ---- how many of them there are, part by part

module _ {A : Type 0} (f : List Step → List A) (more : (xs ys : List Step) → f (xs ++ ys) ≡ f xs ++ f ys) (setting : Setting) where
  pub count_done : length (f (steps (done_in setting))) ≡ length (f (before_steps setting.parts)) + length (f (during_steps setting.parts))
  count_done =
      ap (λ (es : List Step). length (f es)) (steps_done setting) ∙ ap (λ (xs : List A). length xs) (more (before_steps setting.parts) (during_steps setting.parts))
      ∙ length-append (f (before_steps setting.parts)) (f (during_steps setting.parts))

  pub count_all : length (f (steps (events_in setting))) ≡ length (f (steps (done_in setting))) + length (f (end_steps setting.parts))
  count_all =
      ap (λ (es : List Step). length (f es)) (steps_all setting) ∙ ap (λ (xs : List A). length xs) (more (steps (done_in setting)) (end_steps setting.parts))
      ∙ length-append (f (steps (done_in setting))) (f (end_steps setting.parts))

-- nothing is gathered of one event more
pub idle_of : {A : Type 0} (f : List Step → List A) → ((xs ys : List Step) → f (xs ++ ys) ≡ f xs ++ f ys) → (done : List Step) (e : Step) → f (e ∷ []) ≡ [] → f (done ++ e ∷ []) ≡ f done
idle_of f more done e idle = more done (e ∷ []) ∙ ap (λ (xs : List _). f done ++ xs) idle ∙ append-nil (f done)
