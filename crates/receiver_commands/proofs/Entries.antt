-- The answers to paths, put one after another.
use Rattle.std.proofs.Common.{◌≡◌, ℕ, ◌+◌, ◌<◌, ◌≤◌, Bool, true, ◌&&◌, List, [], ◌++◌, length, get_or, take, Result, Ok, Err, refl, ap, ◌∙◌, append-nil}
use Rattle.std.specs.List.{list_all, flat_map}
use Rattle.std.proofs.lemmas.List.{take_all}
use Rattle.path_tree.specs.Paths.{PathNames}
use Rattle.path_resolver.specs.declared.answer.Answer.{Answer}
use Rattle.shell_streams.specs.Cuts.{Bytes}
use Rattle.shell_streams.specs.Sending.{OutputState, Puts, HasPut}
use Rattle.shell_streams.specs.declared.output.OutputFault.{OutputFault}
use Rattle.shell_streams.proofs.CallerLemmas.{puts_nothing, puts_then, puts_stop, puts_as, puts_ok}
use Rattle.shell_words.specs.Texts.{answered_line, tail_of}
use Rattle.receiver_commands.proofs.Parts.{parts_next, parts_all, all_next}

-- ---- one answer

-- what is put of an answer is put of an equal one
pub entry_as : {r : Result Bool OutputFault} {old new : OutputState} (p : PathNames) {a b : Answer} → a ≡ b → Puts r old new (answered_line p a ++ tail_of a)
    → Puts r old new (answered_line p b ++ tail_of b)
entry_as p e puts = puts_as (ap (λ (x : Answer). answered_line p x ++ tail_of x) e) puts

-- ---- the first answers

-- the text of each of these paths was put, and this is whether each passes a test
pub record HasAnswered (old new : OutputState) (entry : PathNames → Bytes) (found : PathNames → Bool) (paths : List PathNames) (all : Bool) : Type 0 where
  pub puts : HasPut old new (flat_map entry paths)
  pub all_is : all ≡ list_all found paths

pub answered_none : (o : OutputState) (entry : PathNames → Bytes) (found : PathNames → Bool) → HasAnswered o o entry found [] true
answered_none o entry found = record { puts = puts_nothing tt o; all_is = refl }

module _ {old mid : OutputState} (entry : PathNames → Bytes) (found : PathNames → Bool) (paths : List PathNames) (i : ℕ) {all : Bool} (so_far : HasAnswered old mid entry found (take i paths) all) where
  -- one more
  pub answered_more : {new : OutputState} (p : PathNames) (one both : Bool) → i < length paths → p ≡ get_or paths i p → Puts (Ok one) mid new (entry p) → one ≡ found p → both ≡ (all && one)
      → HasAnswered old new entry found (take (i + 1) paths) both
  answered_more p one both h at puts e f = record {
    puts = puts_as (parts_next entry paths i p h at) (puts_ok tt (puts_then so_far.puts puts));
    all_is = f ∙ ap (λ b. b && one) so_far.all_is ∙ ap (λ b. list_all found (take i paths) && b) e ∙ all_next found paths i p h at;
  }

  -- the next one wasn't put
  pub answered_stop : {new : OutputState} {f : OutputFault} (p : PathNames) → i < length paths → p ≡ get_or paths i p → Puts {T = Bool} (Err f) mid new (entry p)
      → Puts {T = Bool} (Err f) old new (flat_map entry paths)
  answered_stop p h at puts = puts_as (parts_all entry paths (i + 1)) (puts_stop _ (puts_as (parts_next entry paths i p h at) (puts_then so_far.puts puts)))

  -- all of them
  pub answered_all : length paths ≤ i → HasPut old mid (flat_map entry paths)
  answered_all h = puts_as (ap (flat_map entry) (take_all i paths h)) so_far.puts

  pub found_all : length paths ≤ i → all ≡ list_all found paths
  found_all h = so_far.all_is ∙ ap (list_all found) (take_all i paths h)

  -- and then what is pending is written
  pub answered_sent : {new : OutputState} {r : Result (Unit {0}) OutputFault} → length paths ≤ i → Puts r mid new [] → Puts r old new (flat_map entry paths)
  answered_sent h puts = puts_as (append-nil _) (puts_then (answered_all h) puts)
