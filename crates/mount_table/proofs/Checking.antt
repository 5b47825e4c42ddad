-- The first rule that a list of mounts breaks.
use Rattle.std.proofs.Common.{ℕ, ◌≡◌, ◌+◌, ◌<◌, ◌≤◌, Bool, true, false, cond, not, List, [], ◌∷◌, length, get_or, take, drop, Option, Some, None, refl, sym, ap, ◌∙◌}
use Rattle.std.specs.Prelude.{nat_lt}
use Rattle.std.specs.List.{filter_map, cons_option, enumerate_from, slice_get}
use Rattle.std.proofs.lemmas.List.{at_drop_more, at_drop_all}
use Rattle.carousel_profile.specs.declared.TheConstants.{MOST_PID}
use Rattle.mount_table.specs.declared.mount.Mount.{Mount}
use Rattle.mount_table.specs.declared.mount.TheConstants.{MOST_MOUNTS}
use Rattle.mount_table.specs.declared.fault.TableFault.{TableFault}
use Rattle.mount_table.specs.declared.fault.TableFault.TheVariants.{TooMany, BadName, BadPid, NameTwice, PidTwice, NoMemory}
use Rattle.mount_table.specs.Mounts.{is_mount_name, has_name, has_pid, fault_at, faults_of, refusal_of, refusal_in}

-- ---- one mount after another

-- the faults of the mounts from this place on
abbrev pub faults_from : List Mount → ℕ → List TableFault
faults_from mounts i = filter_map (λ x. fault_at x.0 (take x.0 mounts) x.1) (enumerate_from i (drop i mounts))

faults_next : (mounts : List Mount) (i : ℕ) (d : Mount) → i < length mounts → faults_from mounts i ≡ cons_option (fault_at i (take i mounts) (get_or mounts i d)) (faults_from mounts (i + 1))
faults_next mounts i d lt = at_drop_more (λ (ms : List Mount). filter_map (λ (x : ℕ × Mount). fault_at x.0 (take x.0 mounts) x.1) (enumerate_from i ms)) mounts i d lt

pub fault_here : (mounts : List Mount) (i : ℕ) (d : Mount) (f : TableFault) → i < length mounts → fault_at i (take i mounts) (get_or mounts i d) ≡ Some f → slice_get (faults_from mounts i) 0 ≡ Some f
fault_here mounts i d f lt e =
    ap (λ (fs : List TableFault). slice_get fs 0) (faults_next mounts i d lt ∙ ap (λ (o : Option TableFault). cons_option o (faults_from mounts (i + 1))) e)

pub fault_past : (mounts : List Mount) (i : ℕ) (d : Mount) → i < length mounts → fault_at i (take i mounts) (get_or mounts i d) ≡ None → faults_from mounts i ≡ faults_from mounts (i + 1)
fault_past mounts i d lt e = faults_next mounts i d lt ∙ ap (λ (o : Option TableFault). cons_option o (faults_from mounts (i + 1))) e

pub faults_end : (mounts : List Mount) (i : ℕ) → length mounts ≤ i → faults_from mounts i ≡ []
faults_end mounts i end = at_drop_all (λ (ms : List Mount). filter_map (λ (x : ℕ × Mount). fault_at x.0 (take x.0 mounts) x.1) (enumerate_from i ms)) mounts i end

-- ---- memory is no rule

first_is : {A B : Type 0} (f : A → Option B) (xs : List A) (y : B) → slice_get (filter_map f xs) 0 ≡ Some y → (x : A) × (f x ≡ Some y)
first_is f [] y e = cc
first_is {A} {B} f (x ∷ xs) y e = go (f x) refl e (first_is f xs y) where
  go : (o : Option B) → f x ≡ o → slice_get (cons_option o (filter_map f xs)) 0 ≡ Some y → (slice_get (filter_map f xs) 0 ≡ Some y → (z : A) × (f z ≡ Some y)) → (z : A) × (f z ≡ Some y)
  go None g h later = later h
  go (Some b) g h later = (x, g ∙ h)

by_rules : (a b c d : Bool) (p : ℕ)
    → cond {A = Option TableFault} (not a) (Some (BadName p)) (cond b (Some (BadPid p)) (cond c (Some (NameTwice p)) (cond d (Some (PidTwice p)) None))) ≡ Some NoMemory → ⊥
by_rules false b c d p e = cc
by_rules true true c d p e = cc
by_rules true false true d p e = cc
by_rules true false false true p e = cc
by_rules true false false false p e = cc

never : (mounts : List Mount) → refusal_of mounts ≡ Some NoMemory → ⊥
never mounts e = go (nat_lt MOST_MOUNTS (length mounts)) e where
  rule : (x : ℕ × Mount) → fault_at x.0 (take x.0 mounts) x.1 ≡ Some NoMemory → ⊥
  rule x h = by_rules (is_mount_name x.1.name) (nat_lt MOST_PID x.1.pid) (has_name x.1.name (take x.0 mounts)) (has_pid x.1.pid (take x.0 mounts)) x.0 h

  go : (t : Bool) → cond {A = Option TableFault} t (Some TooMany) (slice_get (faults_of mounts) 0) ≡ Some NoMemory → ⊥
  go true h = cc
  go false h = let found = first_is (λ (x : ℕ × Mount). fault_at x.0 (take x.0 mounts) x.1) (enumerate_from 0 mounts) NoMemory h in rule found.0 found.1

kept : (f : TableFault) → (f ≡ NoMemory → ⊥) → refusal_in f ≡ Some f
kept TooMany h = refl
kept (BadName p) h = refl
kept (BadPid p) h = refl
kept (NameTwice p) h = refl
kept (PidTwice p) h = refl
kept NoMemory h = absurd (h refl)

-- what is refused is told
pub told : (mounts : List Mount) (f : TableFault) → refusal_of mounts ≡ Some f → refusal_of mounts ≡ refusal_in f
told mounts f e = e ∙ sym (kept f (λ n. never mounts (e ∙ ap (λ (g : TableFault). Some g) n)))
