-- The laws: a mount depends on its PID's packets alone, and a list that breaks no rule is accepted.
use Rattle.std.proofs.Common.{ℕ, ◌≡◌, ◌<◌, ◌≤◌, Bool, true, false, cond, not, ◌==◌, ltb, List, [], ◌∷◌, length, get_or, take, Option, Some, None, refl, sym, ap, subst, ◌∙◌, arith, zero-add}
use Rattle.std.specs.List.{All, filter_map, cons_option, enumerate_from, list_any, slice_get}
use Rattle.std.proofs.lemmas.Bool.{true≢false, le-ltb, ltb-false, eq-eqb, eqb-true}
use Rattle.std.proofs.lemmas.List.{length-take, get_or-take, get_or_default}
use Rattle.std.proofs.lemmas.List.Elements.{All-cons, All-nil, All-head, All-tail}
use Rattle.std.proofs.lemmas.List.Folds.{list_any_at, list_any_none}
use Rattle.std.proofs.lemmas.List.FromFn.{get_or-enumerate_from, length-enumerate_from}
use Rattle.carousel_profile.specs.declared.TheConstants.{MOST_PID}
use Rattle.section_stream.specs.Cuts.{Bytes}
use Rattle.path_tree.specs.Paths.{same_name}
use Rattle.path_tree.proofs.CallerLemmas.{same_name-is, same_name-refl}
use Rattle.tuner_core.specs.LookBack.{answer_after}
use Rattle.mount_table.specs.declared.mount.Mount.{Mount}
use Rattle.mount_table.specs.declared.mount.TheConstants.{MOST_MOUNTS}
use Rattle.mount_table.specs.declared.fault.TableFault.{TableFault}
use Rattle.mount_table.specs.declared.fault.TableFault.TheVariants.{TooMany, BadName, BadPid, NameTwice, PidTwice}
use Rattle.mount_table.specs.declared.mounts.Mounted.TheVariants.{At}
use Rattle.mount_table.specs.Mounts.{is_mount_name, has_name, has_pid, fault_at, faults_of, at_mount}
use Rattle.mount_table.specs.Laws.{OneMountDecides, IsSound, SoundIsAccepted}
use Rattle.mount_table.proofs.Cutting.{same_cuts}

pub mount_decides : OneMountDecides
mount_decides mounts name m xs ys named same rest =
    ap (at_mount xs rest) named ∙ ap (λ (cs : List Bytes). At m.pid (answer_after cs rest)) (same_cuts m.pid xs ys same).sections ∙ sym (ap (at_mount ys rest) named)

-- ---- no fault at all

none_each : {A B : Type 0} (f : A → Option B) (xs : List A) → slice_get (filter_map f xs) 0 ≡ None → All (λ x. f x ≡ None) xs
none_each f [] e = All-nil (λ x. f x ≡ None)
none_each {A} {B} f (x ∷ xs) e = go (f x) refl e (none_each f xs) where
  go : (o : Option B) → f x ≡ o → slice_get (cons_option o (filter_map f xs)) 0 ≡ None → (slice_get (filter_map f xs) 0 ≡ None → All (λ z. f z ≡ None) xs) → All (λ z. f z ≡ None) (x ∷ xs)
  go None g h later = All-cons (λ z. f z ≡ None) x xs g (later h)
  go (Some b) g h later = cc

each_none : {A B : Type 0} (f : A → Option B) (xs : List A) → All (λ x. f x ≡ None) xs → filter_map f xs ≡ []
each_none f [] all = refl
each_none {A} {B} f (x ∷ xs) all =
    ap (λ (o : Option B). cons_option o (filter_map f xs)) (All-head (λ z. f z ≡ None) x xs all) ∙ each_none f xs (All-tail (λ z. f z ≡ None) x xs all)

abbrev fault_in : List Mount → ℕ × Mount → Option TableFault
fault_in mounts x = fault_at x.0 (take x.0 mounts) x.1

-- the mount at a place, beside it
placed : (mounts : List Mount) (i : ℕ) (d : ℕ × Mount) → i < length mounts → get_or (enumerate_from 0 mounts) i d ≡ (i, get_or mounts i d.1)
placed mounts i d lt = subst (λ (k : ℕ). get_or (enumerate_from 0 mounts) i d ≡ (k, get_or mounts i d.1)) (zero-add i) (get_or-enumerate_from 0 mounts i d lt)

no_fault_at : (mounts : List Mount) → slice_get (faults_of mounts) 0 ≡ None → (i : ℕ) (d : Mount) → i < length mounts → fault_at i (take i mounts) (get_or mounts i d) ≡ None
no_fault_at mounts none i d lt =
    let all = none_each (fault_in mounts) (enumerate_from 0 mounts) none in
    let within : i < length (enumerate_from 0 mounts) = omega (arith, lt, length-enumerate_from 0 mounts) in
    ap (fault_in mounts) (sym (placed mounts i (i, d) lt)) ∙ all i (i, d) within

no_fault : (mounts : List Mount) → ((i : ℕ) (d : Mount) → i < length mounts → fault_at i (take i mounts) (get_or mounts i d) ≡ None) → slice_get (faults_of mounts) 0 ≡ None
no_fault mounts each =
    ap (λ (fs : List TableFault). slice_get fs 0) (each_none (fault_in mounts) (enumerate_from 0 mounts)
    (λ i d within. let lt : i < length mounts = omega (arith, within, length-enumerate_from 0 mounts) in ap (fault_in mounts) (placed mounts i d lt) ∙ each i d.1 lt))

-- ---- the rules of one mount

pub record NoRule (a b c d : Bool) : Type 0 where
  pub named : a ≡ true
  pub low : b ≡ false
  pub name : c ≡ false
  pub pid : d ≡ false

abbrev by_rules : Bool → Bool → Bool → Bool → ℕ → Option TableFault
by_rules a b c d p = cond (not a) (Some (BadName p)) (cond b (Some (BadPid p)) (cond c (Some (NameTwice p)) (cond d (Some (PidTwice p)) None)))

no_rule : (a b c d : Bool) (p : ℕ) → by_rules a b c d p ≡ None → NoRule a b c d
no_rule false b c d p e = cc
no_rule true true c d p e = cc
no_rule true false true d p e = cc
no_rule true false false true p e = cc
no_rule true false false false p e = record { named = refl; low = refl; name = refl; pid = refl }

breaks_none : (a b c d : Bool) (p : ℕ) → NoRule a b c d → by_rules a b c d p ≡ None
breaks_none false b c d p h = let e = h.named in cc
breaks_none true true c d p h = let e = h.low in cc
breaks_none true false true d p h = let e = h.name in cc
breaks_none true false false true p h = let e = h.pid in cc
breaks_none true false false false p h = refl

abbrev NoRuleAt : List Mount → Mount → Type 0
NoRuleAt earlier m = NoRule (is_mount_name m.name) (ltb MOST_PID m.pid) (has_name m.name earlier) (has_pid m.pid earlier)

no_rule_at : (mounts : List Mount) → slice_get (faults_of mounts) 0 ≡ None → (i : ℕ) (d : Mount) → i < length mounts → NoRuleAt (take i mounts) (get_or mounts i d)
no_rule_at mounts none i d lt =
    let m : Mount = get_or mounts i d in
    no_rule (is_mount_name m.name) (ltb MOST_PID m.pid) (has_name m.name (take i mounts)) (has_pid m.pid (take i mounts)) i (no_fault_at mounts none i d lt)

-- a test that fails of all before a place fails of each
fails : (test : Mount → Bool) (mounts : List Mount) (i j : ℕ) (d : Mount) → i < j → j < length mounts → list_any test (take j mounts) ≡ false → test (get_or mounts i d) ≡ true → ⊥
fails test mounts i j d before within none t =
    let size = length-take j mounts in
    let there : i < length (take j mounts) = omega (arith, before, within, size) in
    true≢false (sym (list_any_at test (take j mounts) i d there (ap test (get_or-take j mounts i d before) ∙ t)) ∙ none)

accepted : (mounts : List Mount) → length mounts ≤ MOST_MOUNTS → slice_get (faults_of mounts) 0 ≡ None → IsSound mounts
accepted mounts few none = record {
  few = few;
  names = λ i d lt. (no_rule_at mounts none i d lt).named;
  pids = λ i d lt. ltb-false MOST_PID (get_or mounts i d).pid (no_rule_at mounts none i d lt).low;
  apart = λ i j d before within. (
    λ same. fails (λ (o : Mount). same_name o.name (get_or mounts j d).name) mounts i j d before within (no_rule_at mounts none j d within).name
        (ap (λ (name : Bytes). same_name name (get_or mounts j d).name) same ∙ same_name-refl (get_or mounts j d).name),
    λ same. fails (λ (o : Mount). o.pid == (get_or mounts j d).pid) mounts i j d before within (no_rule_at mounts none j d within).pid
        (eq-eqb (get_or mounts i d).pid (get_or mounts j d).pid same),
  );
}

-- a test that is never passed before a place
passed_never : (test : Mount → Bool) (mounts : List Mount) (j : ℕ) → j < length mounts → ((i : ℕ) (d : Mount) → i < j → test (get_or mounts i d) ≡ true → ⊥) → list_any test (take j mounts) ≡ false
passed_never test mounts j within never = list_any_none test (take j mounts) (λ i d there.
    let size = length-take j mounts in
    let before : i < j = omega (arith, there, within, size) in
    ap test (get_or-take j mounts i d before) ∙ not_true (test (get_or mounts i d)) (never i d before)) where
      not_true : (b : Bool) → (b ≡ true → ⊥) → b ≡ false
      not_true true h = absurd (h refl)
      not_true false h = refl

names_apart : (mounts : List Mount) → IsSound mounts → (i j : ℕ) (e d : Mount) → i < j → j < length mounts → (get_or mounts i e).name ≡ (get_or mounts j d).name → ⊥
names_apart mounts h i j e d before within same =
    let lt : i < length mounts = omega arith in (h.apart i j d before within).0 (ap (λ (o : Mount). o.name) (get_or_default mounts i d e lt) ∙ same)

pids_apart : (mounts : List Mount) → IsSound mounts → (i j : ℕ) (e d : Mount) → i < j → j < length mounts → (get_or mounts i e).pid ≡ (get_or mounts j d).pid → ⊥
pids_apart mounts h i j e d before within same =
    let lt : i < length mounts = omega arith in (h.apart i j d before within).1 (ap (λ (o : Mount). o.pid) (get_or_default mounts i d e lt) ∙ same)

sound_at : (mounts : List Mount) → IsSound mounts → (j : ℕ) (d : Mount) → j < length mounts → NoRuleAt (take j mounts) (get_or mounts j d)
sound_at mounts h j d within = record {
  named = h.names j d within;
  low = le-ltb MOST_PID (get_or mounts j d).pid (h.pids j d within);
  name = passed_never (λ (o : Mount). same_name o.name (get_or mounts j d).name) mounts j within
      (λ i e before t. names_apart mounts h i j e d before within (same_name-is (get_or mounts i e).name (get_or mounts j d).name t));
  pid = passed_never (λ (o : Mount). o.pid == (get_or mounts j d).pid) mounts j within
      (λ i e before t. pids_apart mounts h i j e d before within (eqb-true (get_or mounts i e).pid (get_or mounts j d).pid t));
}

sound : (mounts : List Mount) → IsSound mounts → slice_get (faults_of mounts) 0 ≡ None
sound mounts h = no_fault mounts (λ j d within.
    let n : Mount = get_or mounts j d in
    breaks_none (is_mount_name n.name) (ltb MOST_PID n.pid) (has_name n.name (take j mounts)) (has_pid n.pid (take j mounts)) j (sound_at mounts h j d within))

-- ---- and at most 16 mounts

few_too : (t : Bool) (o : Option TableFault) → t ≡ false → o ≡ None → cond t (Some TooMany) o ≡ None
few_too true o e f = cc
few_too false o e f = f

pub sound_is_accepted : SoundIsAccepted
sound_is_accepted mounts = (λ e. there (ltb MOST_MOUNTS (length mounts)) refl e, λ h. few_too (ltb MOST_MOUNTS (length mounts)) (slice_get (faults_of mounts) 0) (le-ltb MOST_MOUNTS (length mounts) h.few) (sound mounts h)) where
  there : (t : Bool) → ltb MOST_MOUNTS (length mounts) ≡ t → cond {A = Option TableFault} t (Some TooMany) (slice_get (faults_of mounts) 0) ≡ None → IsSound mounts
  there true f e = cc
  there false f e = accepted mounts (ltb-false MOST_MOUNTS (length mounts) f) e
