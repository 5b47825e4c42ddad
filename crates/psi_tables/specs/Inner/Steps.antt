-- The parts of one packet's step, as the code goes through them.
use Rattle.std.specs.Prelude.{◌≡◌, ℕ, Bool, false, not, ◌&&◌, nat_lt, List, [], ◌∷◌, ◌++◌, length, Option, Some, None, ◌==◌, if◌then◌else◌}
use Rattle.section_stream.specs.Cuts.{Bytes, candidates}
use Rattle.std.specs.List.{list_any}
use Rattle.psi_tables.specs.declared.tables.PatLine.{PatLine}
use Rattle.psi_tables.specs.declared.followed.Followed.{Followed}
use Rattle.psi_tables.specs.declared.followed.Program.{Program}
use Rattle.psi_tables.specs.Pmts.{PmtFields}
use Rattle.psi_tables.specs.Finding.{pats_among, names, pmt_in, is_program}
use Rattle.psi_tables.specs.Inner.Finding.{listed_by}
use Rattle.psi_tables.specs.Pats.{PatFields}
use Rattle.psi_tables.specs.Receiving.{HeardOn}
use Rattle.psi_tables.specs.Stands.{FollowedState, FinderState, Hears, Keeps}
use Rattle.psi_tables.specs.declared.directory.TheConstants.{MOST_FOLLOWED}

-- an item in the place of the first that passes a test, and else after all
abbrev pub put : {A : Type 0} → (A → Bool) → A → List A → List A
put test y [] = y ∷ []
put test y (x ∷ xs) = if test x then y ∷ xs else x ∷ put test y xs

-- each item of a list is as R says of the item in its place
abbrev pub Each : {A : Type 0} → (A → A → Type 0) → List A → List A → Type 0
Each R [] [] = Unit {0}
Each R (x ∷ xs) (y ∷ ys) = R x y × Each R xs ys
Each R [] (y ∷ ys) = ⊥
Each R (x ∷ xs) [] = ⊥

-- a program's entry after a map table, where it is one
abbrev pub after_pmt : (carousel : ℕ) → List Program → Option PmtFields → List Program
after_pmt carousel programs None = programs
after_pmt carousel programs (Some p) = put (λ e. e.program == p.program) (record { program = p.program; named = names carousel p }) programs

abbrev pub after_pmts : (carousel : ℕ) → List Program → List Bytes → List Program
after_pmts carousel programs [] = programs
after_pmts carousel programs (s ∷ ss) = after_pmts carousel (after_pmt carousel programs (pmt_in s)) ss

-- what a followed PID is after a packet, and whether it can be another one for what is sought
pub record Heard (carousel : ℕ) (packet : Bytes) (completed : Bool) (before after : FollowedState) : Type 0 where
  pub hears : (packets : List Bytes) → Hears carousel before packets → Hears carousel after (packets ++ packet ∷ [])
  pub pid : after.pid ≡ before.pid
  pub quiet : completed ≡ false → after.programs ≡ before.programs

-- what the finder is after a packet on the PAT's PID, and whether it completed a section there
pub record TablesHeard (packet : Bytes) (listed : Bool) (before after : FinderState) : Type 0 where
  pub new : List Bytes
  pub tables : (packets : List Bytes) → HeardOn 0 before.tables packets → HeardOn 0 after.tables (packets ++ packet ∷ [])
  pub cuts : (packets : List Bytes) → HeardOn 0 before.tables packets → candidates 0 (packets ++ packet ∷ []) ≡ candidates 0 packets ++ new
  pub takes : (packets : List Bytes) (pats : List PatFields) (came : List (ℕ × ℕ)) → Keeps packets before.directory pats came
      → Keeps packets after.directory (pats ++ pats_among new) (came ++ listed_by (length packets) new)
  pub carousel : after.directory.carousel ≡ before.directory.carousel
  pub found : after.found ≡ before.found
  pub quiet : listed ≡ false → new ≡ []

-- a line's PID is followed from now on: it is a program's, there is room, and it isn't followed yet
abbrev pub becomes_followed : List Followed → PatLine → Bool
becomes_followed followed l = is_program l && nat_lt (length followed) MOST_FOLLOWED && not (list_any (λ f. f.pid == l.pid) followed)
