-- Texts after a prefix, and the folders in which a text stands.
use Rattle.std.proofs.Common.{◌≡◌, ◌≢◌, ◌⊎◌, ℕ, suc, ◌+◌, Bool, true, false, not, ◌||◌, eqb, List, [], ◌∷◌, ◌++◌, length, take, map, Option, Some, None, cond, is_some, MatchOption, refl, ap, sym, ◌∙◌, subst, inl, inr, append_assoc, arith}
use Rattle.std.specs.List.{list_any, filter_map, position_or_len}
use Rattle.std.specs.Option.{option_to_list, option_copied}
use denote.Ref.{Bor}
use Rattle.std.proofs.lemmas.Bool.Decides.{nat_tests}
use Rattle.path_tree.specs.Paths.{Bytes, same_name}
use Rattle.folder_store.specs.Folders.{after_prefix, is_name_text}
use Rattle.folder_store.specs.Memory.{folders_above}
use Rattle.folder_store.specs.Inner.Memory.{file_name, folder_name, is_slash}

pub true_or_false : (b : Bool) → (b ≡ true) ⊎ (b ≡ false)
true_or_false true = inl refl
true_or_false false = inr refl

eqb-sym : (a b : ℕ) → eqb a b ≡ eqb b a
eqb-sym a b = grind (arith, nat_tests)

pub eqb-same : (a : ℕ) → eqb a a ≡ true
eqb-same a = grind (arith, nat_tests)

eqb-is : (a b : ℕ) → eqb a b ≡ true → a ≡ b
eqb-is a b e = grind (arith, nat_tests)

-- a text that begins so
pub behind_at : (q rest : Bytes) → after_prefix q (q ++ rest) ≡ Some rest
behind_at [] rest = refl
behind_at (b ∷ bs) rest = rw (eqb-same b) (behind_at bs rest)

pub behind_is : (q s rest : Bytes) → after_prefix q s ≡ Some rest → s ≡ q ++ rest
behind_is [] s rest e = cc
behind_is (b ∷ bs) [] rest e = cc
behind_is (b ∷ bs) (c ∷ cs) rest e = go (behind_is bs cs rest) (true_or_false (eqb b c)) where
  go : (after_prefix bs cs ≡ Some rest → cs ≡ bs ++ rest) → (eqb b c ≡ true) ⊎ (eqb b c ≡ false) → c ∷ cs ≡ b ∷ (bs ++ rest)
  go deeper (inl is) =
      let first = eqb-is b c is in
      let next : after_prefix bs cs ≡ Some rest = sym (ap (λ t. cond t (after_prefix bs cs) None) is) ∙ e in
      let more = deeper next in
      cc
  go deeper (inr isnt) = let none : None ≡ Some rest = sym (ap (λ t. cond t (after_prefix bs cs) None) isnt) ∙ e in cc

-- no text begins so
pub behind_none : (q s : Bytes) → ((rest : Bytes) → s ≢ q ++ rest) → after_prefix q s ≡ None
behind_none q s never = go (after_prefix q s) refl where
  go : (o : Option Bytes) → after_prefix q s ≡ o → after_prefix q s ≡ None
  go None e = e
  go (Some rest) e = absurd (never rest (behind_is q s rest e))

pub behind_some : (q s rest : Bytes) → s ≡ q ++ rest → after_prefix q s ≡ Some rest
behind_some q s rest e = subst (λ (t : Bytes). after_prefix q t ≡ Some rest) (sym e) (behind_at q rest)

-- the answers of taking a folder's text and then a slash off a text's front
pub lacks : (p s : Bytes) → ((rest : Bytes) → s ≢ p ++ rest) → after_prefix (p ++ 47 ∷ []) s ≡ None
lacks p s never = behind_none (p ++ 47 ∷ []) s (λ rest e. never (47 ∷ rest) (e ∙ simp append_assoc))

same_rest : (p x y : Bytes) → p ++ x ≡ p ++ y → x ≡ y
same_rest p x y e = let both : Some x ≡ Some y = sym (behind_at p x) ∙ ap (after_prefix p) e ∙ behind_at p y in cc

pub strips : (p s x : Bytes) (r : Option (Bor Bytes)) → s ≡ p ++ x → MatchOption r ((rest : Bytes) → x ≢ 47 ∷ rest) (λ y. x ≡ 47 ∷ y.now) → option_copied r ≡ after_prefix (p ++ 47 ∷ []) s
strips p s x None e h = sym (behind_none (p ++ 47 ∷ []) s (λ rest f. h rest (same_rest p x (47 ∷ rest) (sym e ∙ f ∙ simp append_assoc))))
strips p s x (Some y) e h = sym (behind_some (p ++ 47 ∷ []) s y.now (e ∙ ap (λ r. p ++ r) h ∙ simp append_assoc))

-- ---- names

pub no_slash : (s : Bytes) → position_or_len is_slash s ≡ length s → is_name_text s ≡ true
no_slash [] e = refl
no_slash (c ∷ cs) e = go (no_slash cs) (true_or_false (eqb c 47)) where
  go : (position_or_len is_slash cs ≡ length cs → is_name_text cs ≡ true) → (eqb c 47 ≡ true) ⊎ (eqb c 47 ≡ false) → not (eqb c 47 || list_any is_slash cs) ≡ true
  go deeper (inl is) = let zero_long : 0 ≡ suc (length cs) = sym (ap (λ t. cond (not t) (1 + position_or_len is_slash cs) 0) is) ∙ e in absurd (omega arith)
  go deeper (inr isnt) =
      let longer : 1 + position_or_len is_slash cs ≡ suc (length cs) = sym (ap (λ t. cond (not t) (1 + position_or_len is_slash cs) 0) isnt) ∙ e in
      rw isnt (deeper (omega arith))

-- ---- the folders in which a text stands, seen from a prefix

-- the name that a text is after a prefix
abbrev pub name_behind : Bytes → Bytes → Option Bytes
name_behind q s = file_name (after_prefix q s)

-- one step into a text and its prefix
front_stays : (b c : ℕ) (bs : Bytes) (fs : List Bytes) → eqb b c ≡ true → filter_map (name_behind (b ∷ bs)) (map (λ f. c ∷ f) fs) ≡ filter_map (name_behind bs) fs
front_stays b c bs [] is = refl
front_stays b c bs (f ∷ fs) is = rw (is, front_stays b c bs fs is) refl

front_differs : (b c : ℕ) (bs : Bytes) (fs : List Bytes) → eqb b c ≡ false → filter_map (name_behind (b ∷ bs)) (map (λ f. c ∷ f) fs) ≡ []
front_differs b c bs [] isnt = refl
front_differs b c bs (f ∷ fs) isnt = rw isnt (front_differs b c bs fs isnt)

-- with no prefix left, only the first folder is a name
none_behind_slash : (c : ℕ) (fs : List Bytes) → eqb c 47 ≡ true → filter_map (name_behind []) (map (λ f. c ∷ f) fs) ≡ []
none_behind_slash c [] is = refl
none_behind_slash c (f ∷ fs) is = rw is (none_behind_slash c fs is)

same_names : (c : ℕ) (fs : List Bytes) → eqb c 47 ≡ false → filter_map (name_behind []) (map (λ f. c ∷ f) fs) ≡ map (λ f. c ∷ f) (filter_map (name_behind []) fs)
same_names c [] isnt = refl
same_names c (f ∷ fs) isnt = go (same_names c fs isnt) (is_name_text f) refl where
  go : filter_map (name_behind []) (map (λ f. c ∷ f) fs) ≡ map (λ f. c ∷ f) (filter_map (name_behind []) fs) → (b : Bool) → is_name_text f ≡ b → filter_map (name_behind []) (map (λ f. c ∷ f) (f ∷ fs)) ≡ map (λ f. c ∷ f) (filter_map (name_behind []) (f ∷ fs))
  go rest true e = rw (isnt, e, rest) refl
  go rest false e = rw (isnt, e, rest) refl

one_more : (c n : ℕ) (cs : Bytes) → take (1 + n) (c ∷ cs) ≡ c ∷ take n cs
one_more c n cs = let e : 1 + n ≡ suc n = omega arith in rw e refl

-- the first name of a text that has a slash
first_name : (s : Bytes) → filter_map (name_behind []) (folders_above s) ≡ option_to_list (folder_name (Some s))
first_name [] = refl
first_name (c ∷ cs) = go (first_name cs) (true_or_false (eqb c 47)) where
  go : filter_map (name_behind []) (folders_above cs) ≡ option_to_list (folder_name (Some cs)) → (eqb c 47 ≡ true) ⊎ (eqb c 47 ≡ false) → filter_map (name_behind []) (folders_above (c ∷ cs)) ≡ option_to_list (folder_name (Some (c ∷ cs)))
  go deeper (inl is) = rw (is, none_behind_slash c (folders_above cs) is) refl
  go deeper (inr isnt) = rw isnt (same_names c (folders_above cs) isnt ∙ ap (λ ns. map (λ f. c ∷ f) ns) deeper ∙ later (is_name_text cs) refl) where
    later : (b : Bool) → is_name_text cs ≡ b → map (λ f. c ∷ f) (option_to_list (folder_name (Some cs))) ≡ option_to_list (cond (is_name_text cs) None (Some (take (1 + position_or_len is_slash cs) (c ∷ cs))))
    later true e = rw e refl
    later false e = rw (e, one_more c (position_or_len is_slash cs) cs) refl

-- of the folders in which a text stands, one at most is right below a folder
pub folder_right_below : (q s : Bytes) → filter_map (name_behind q) (folders_above s) ≡ option_to_list (folder_name (after_prefix q s))
folder_right_below [] s = first_name s
folder_right_below (b ∷ bs) [] = refl
folder_right_below (b ∷ bs) (c ∷ cs) = none_first ∙ go (folder_right_below bs cs) (true_or_false (eqb b c)) where
  none_first : filter_map (name_behind (b ∷ bs)) (folders_above (c ∷ cs)) ≡ filter_map (name_behind (b ∷ bs)) (map (λ f. c ∷ f) (folders_above cs))
  none_first = first (eqb c 47) refl where
    first : (t : Bool) → eqb c 47 ≡ t → filter_map (name_behind (b ∷ bs)) (folders_above (c ∷ cs)) ≡ filter_map (name_behind (b ∷ bs)) (map (λ f. c ∷ f) (folders_above cs))
    first true e = rw e refl
    first false e = rw e refl

  go : filter_map (name_behind bs) (folders_above cs) ≡ option_to_list (folder_name (after_prefix bs cs)) → (eqb b c ≡ true) ⊎ (eqb b c ≡ false) → filter_map (name_behind (b ∷ bs)) (map (λ f. c ∷ f) (folders_above cs)) ≡ option_to_list (folder_name (after_prefix (b ∷ bs) (c ∷ cs)))
  go deeper (inl is) = front_stays b c bs (folders_above cs) is ∙ deeper ∙ rw is refl
  go deeper (inr isnt) = front_differs b c bs (folders_above cs) isnt ∙ rw isnt refl

nothing_before : (c : ℕ) (fs : List Bytes) → list_any (λ f. same_name f []) (map (λ f. c ∷ f) fs) ≡ false
nothing_before c [] = refl
nothing_before c (f ∷ fs) = nothing_before c fs

other_first : (b c : ℕ) (bs : Bytes) (fs : List Bytes) → eqb b c ≡ false → list_any (λ f. same_name f (b ∷ bs)) (map (λ f. c ∷ f) fs) ≡ false
other_first b c bs [] isnt = refl
other_first b c bs (f ∷ fs) isnt = rw (eqb-sym c b, isnt) (other_first b c bs fs isnt)

same_first : (b c : ℕ) (bs : Bytes) (fs : List Bytes) → eqb b c ≡ true → list_any (λ f. same_name f (b ∷ bs)) (map (λ f. c ∷ f) fs) ≡ list_any (λ f. same_name f bs) fs
same_first b c bs [] is = refl
same_first b c bs (f ∷ fs) is = rw (eqb-sym c b, is, same_first b c bs fs is) refl

-- a text stands in a folder where the folder's text and a slash begin it
pub stands_in : (p s : Bytes) → list_any (λ f. same_name f p) (folders_above s) ≡ is_some (after_prefix (p ++ 47 ∷ []) s)
stands_in [] [] = refl
stands_in [] (c ∷ cs) = go (true_or_false (eqb c 47)) where
  go : (eqb c 47 ≡ true) ⊎ (eqb c 47 ≡ false) → list_any (λ f. same_name f []) (folders_above (c ∷ cs)) ≡ is_some (after_prefix (47 ∷ []) (c ∷ cs))
  go (inl is) = rw (eqb-sym 47 c, is) refl
  go (inr isnt) = rw (eqb-sym 47 c, isnt) (nothing_before c (folders_above cs))
stands_in (b ∷ bs) [] = refl
stands_in (b ∷ bs) (c ∷ cs) = none_first ∙ go (stands_in bs cs) (true_or_false (eqb b c)) where
  none_first : list_any (λ f. same_name f (b ∷ bs)) (folders_above (c ∷ cs)) ≡ list_any (λ f. same_name f (b ∷ bs)) (map (λ f. c ∷ f) (folders_above cs))
  none_first = first (eqb c 47) refl where
    first : (t : Bool) → eqb c 47 ≡ t → list_any (λ f. same_name f (b ∷ bs)) (folders_above (c ∷ cs)) ≡ list_any (λ f. same_name f (b ∷ bs)) (map (λ f. c ∷ f) (folders_above cs))
    first true e = rw e refl
    first false e = rw e refl

  go : list_any (λ f. same_name f bs) (folders_above cs) ≡ is_some (after_prefix (bs ++ 47 ∷ []) cs) → (eqb b c ≡ true) ⊎ (eqb b c ≡ false) → list_any (λ f. same_name f (b ∷ bs)) (map (λ f. c ∷ f) (folders_above cs)) ≡ is_some (after_prefix (b ∷ (bs ++ 47 ∷ [])) (c ∷ cs))
  go deeper (inl is) = same_first b c bs (folders_above cs) is ∙ deeper ∙ rw is refl
  go deeper (inr isnt) = other_first b c bs (folders_above cs) isnt ∙ rw isnt refl

-- what stands below a folder's folder stands below the folder
pub stands_higher : (p n s : Bytes) → is_some (after_prefix ((p ++ 47 ∷ n) ++ 47 ∷ []) s) ≡ true → is_some (after_prefix (p ++ 47 ∷ []) s) ≡ true
stands_higher p n s e = go (after_prefix ((p ++ 47 ∷ n) ++ 47 ∷ []) s) refl e where
  go : (o : Option Bytes) → after_prefix ((p ++ 47 ∷ n) ++ 47 ∷ []) s ≡ o → is_some o ≡ true → is_some (after_prefix (p ++ 47 ∷ []) s) ≡ true
  go None f none = cc
  go (Some rest) f some =
      let whole : s ≡ (p ++ 47 ∷ []) ++ (n ++ 47 ∷ rest) = behind_is ((p ++ 47 ∷ n) ++ 47 ∷ []) s rest f ∙ simp append_assoc in
      ap is_some (behind_some (p ++ 47 ∷ []) s (n ++ 47 ∷ rest) whole)
