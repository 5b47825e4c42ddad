-- Worked cases: which lists of mounts are refused and why, and what is answered before a packet has come.
use Rattle.std.proofs.Common.{◌≡◌, ℕ, zero, suc, arith, [], ◌∷◌, Some, None, refl, sym, ◌∙◌}
use Rattle.std.specs.Prelude.{replicate}
use Rattle.std.specs.List.Sorted.{IsSortedByKey}
use Rattle.std.proofs.lemmas.List.Sorted.{IsPermutation-refl}
use Rattle.path_tree.specs.Paths.{name_cmp}
use Rattle.path_resolver.specs.declared.answer.Answer.TheVariants as answers
use Rattle.section_stream.specs.Cuts.{Bytes}
use Rattle.mount_table.specs.declared.mount.Mount.{Mount}
use Rattle.mount_table.specs.declared.fault.TableFault.TheVariants.{TooMany, BadName, BadPid, NameTwice, PidTwice}
use Rattle.mount_table.specs.declared.mounts.Mounted.TheVariants.{Root, NoMount, At}
use Rattle.mount_table.specs.Receiving.{of_pid}
use Rattle.mount_table.specs.Mounts.{refusal_of, mounted_after}
use Rattle.mount_table.specs.Laws.{PremisesMet, IsSound, one_list, other_list}
use Rattle.mount_table.proofs.Deciding.{sound_is_accepted}

abbrev mount : Bytes → ℕ → Mount
mount name pid = record { name = name; pid = pid }

-- the names are `a`, `b` and `games`
abbrev a : Bytes
a = 97 ∷ []

abbrev b : Bytes
b = 98 ∷ []

abbrev games : Bytes
games = 103 ∷ 97 ∷ 109 ∷ 101 ∷ 115 ∷ []

-- ---- refused or not

no_mounts : refusal_of [] ≡ None
no_mounts = refl

two_mounts : refusal_of (mount a 256 ∷ mount games 257 ∷ []) ≡ None
two_mounts = refl

first_and_last_pid : refusal_of (mount a 0 ∷ mount b 8190 ∷ []) ≡ None
first_and_last_pid = refl

null_packets : refusal_of (mount a 256 ∷ mount b 8191 ∷ []) ≡ Some (BadPid 1)
null_packets = refl

empty_name : refusal_of (mount [] 256 ∷ []) ≡ Some (BadName 0)
empty_name = refl

longest_name : refusal_of (mount (replicate 32 122) 256 ∷ []) ≡ None
longest_name = refl

longer_name : refusal_of (mount (replicate 33 122) 256 ∷ []) ≡ Some (BadName 0)
longer_name = refl

digits : refusal_of (mount (48 ∷ 57 ∷ []) 256 ∷ []) ≡ None
digits = refl

upper_case : refusal_of (mount (97 ∷ 65 ∷ []) 256 ∷ []) ≡ Some (BadName 0)
upper_case = refl

other_bytes : refusal_of (mount (47 ∷ []) 256 ∷ []) ≡ Some (BadName 0)
other_bytes = refl

name_twice : refusal_of (mount a 256 ∷ mount b 257 ∷ mount a 258 ∷ []) ≡ Some (NameTwice 2)
name_twice = refl

pid_twice : refusal_of (mount a 256 ∷ mount b 256 ∷ []) ≡ Some (PidTwice 1)
pid_twice = refl

-- of one mount the name comes first, and the name that stands twice before the PID that does
name_before_pid : refusal_of (mount [] 9000 ∷ []) ≡ Some (BadName 0)
name_before_pid = refl

both_twice : refusal_of (mount a 256 ∷ mount a 256 ∷ []) ≡ Some (NameTwice 1)
both_twice = refl

-- the first mount that breaks a rule is refused
first_mount : refusal_of (mount a 256 ∷ mount b 256 ∷ mount [] 257 ∷ []) ≡ Some (PidTwice 1)
first_mount = refl

sixteen : refusal_of (replicate 16 (mount a 256)) ≡ Some (NameTwice 1)
sixteen = refl

seventeen : refusal_of (replicate 17 (mount [] 256)) ≡ Some TooMany
seventeen = refl

-- ---- before a packet has come

the_root : mounted_after (mount a 256 ∷ []) [] [] ≡ Root
the_root = refl

no_mount : mounted_after (mount a 256 ∷ []) [] (b ∷ []) ≡ NoMount
no_mount = refl

longer_than_a_mount : mounted_after (mount a 256 ∷ []) [] ((97 ∷ 97 ∷ []) ∷ []) ≡ NoMount
longer_than_a_mount = refl

nothing_heard : mounted_after (mount a 256 ∷ mount games 257 ∷ []) [] (games ∷ a ∷ []) ≡ At 257 answers.NoCarousel
nothing_heard = refl

-- ---- the premises of the laws

one_more : of_pid 257 one_list ≡ []
one_more = refl

and_one : of_pid 257 other_list ≡ [] → ⊥
and_one e = cc

unsound : IsSound (mount a 256 ∷ mount b 256 ∷ []) → ⊥
unsound h = let e : Some (PidTwice 1) ≡ None = sym pid_twice ∙ (sound_is_accepted (mount a 256 ∷ mount b 256 ∷ [])).1 h in cc

in_order : IsSortedByKey (λ (m : Mount). m.name) name_cmp (mount a 256 ∷ mount b 257 ∷ [])
in_order zero d low high = refl
in_order (suc k) d low high = absurd (omega arith)

pub premises_met : PremisesMet
premises_met = record {
  agree = refl;
  differ = λ e. and_one (sym e ∙ one_more);
  sound = (sound_is_accepted (mount a 256 ∷ mount b 257 ∷ [])).0 refl;
  table = record { moved = IsPermutation-refl (mount a 256 ∷ mount b 257 ∷ []); rises = in_order };
  named = refl;
  unsound = unsound;
}
