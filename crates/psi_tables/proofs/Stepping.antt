-- One packet more, and all that the finder keeps.
use Rattle.std.proofs.Common.{ℕ, ◌≡◌, Bool, true, false, cond, ◌||◌, List, [], ◌∷◌, ◌++◌, ◌==◌, length, map, Some, None, refl, sym, ap, subst, ◌∙◌}
use Rattle.std.proofs.lemmas.List.{append-nil}
use Rattle.section_stream.specs.Cuts.{Bytes, candidates}
use Rattle.section_stream.specs.Rules as streams
use Rattle.std.specs.List.{list_any}
use Rattle.psi_tables.specs.declared.directory.Directory.{Directory}
use Rattle.psi_tables.specs.Receiving.{pid_of, is_pid, HeardOn}
use Rattle.psi_tables.specs.Finding.{followed_in, is_in, pats_in, pats_among, listings, found_in}
use Rattle.psi_tables.specs.Inner.Finding.{listed_by}
use Rattle.psi_tables.specs.Stands.{DirectoryState, FinderState, Keeps, Holds, FollowsEach, view_directory, view_followed, heard_on, is_heard}
use Rattle.psi_tables.specs.Inner.Stands.{found_by}
use Rattle.psi_tables.specs.Inner.Steps.{Each, Heard, TablesHeard}
use Rattle.psi_tables.proofs.Keeping.{keeps_step, keeps_as, pats_more, listings_more, found_is, found_stays}
use Rattle.psi_tables.proofs.Following.{nobody_hears, follows_pids, seen_pid}
use Rattle.psi_tables.proofs.Hearing.{heard_still, cuts_still}

-- the parts of a step: what is followed, then the tables, and the answer
pub record Step (f g : FinderState) (x : Bytes) : Type 0 where
  pub middle : DirectoryState
  pub after : FinderState
  pub completed : Bool
  pub listed : Bool
  pub heard : Each (Heard f.directory.carousel x completed) f.directory.followed middle.followed
  pub carousel : middle.carousel ≡ f.directory.carousel
  pub newest : middle.newest ≡ f.directory.newest
  pub sections : middle.sections ≡ f.directory.sections
  pub turned : TablesHeard x listed (record { tables = f.tables; directory = middle; found = f.found; spent = f.spent }) after
  pub tables : g.tables ≡ after.tables
  pub directory : g.directory ≡ after.directory
  pub found : g.found ≡ cond (completed || listed) (found_by after.directory) after.found

neither : (a b : Bool) → (a || b) ≡ false → (a ≡ false) × (b ≡ false)
neither true b e = cc
neither false b e = (refl, e)

pub holds_step : (f g : FinderState) (x : Bytes) → Step f g x → (packets : List Bytes) → Holds f packets → Holds g (packets ++ x ∷ [])
holds_step f g x s packets h = record {
  tables = subst (λ (d : streams.DemuxState). HeardOn 0 d longer) (sym s.tables) (t.tables packets h.tables);
  directory = subst (λ (d : DirectoryState). Keeps longer d (pats_in longer) (listings longer)) (sym s.directory) keeps;
  found = s.found ∙ answer (s.completed || s.listed) refl ∙ ap (λ (d : DirectoryState). found_in d.carousel longer) (sym s.directory);
} where
  longer : List Bytes
  longer = packets ++ x ∷ []

  t : TablesHeard x s.listed (record { tables = f.tables; directory = s.middle; found = f.found; spent = f.spent }) s.after
  t = s.turned

  cuts : candidates 0 longer ≡ candidates 0 packets ++ t.new
  cuts = t.cuts packets h.tables

  middle : Keeps longer s.middle (pats_in packets) (listings packets)
  middle = keeps_step packets x s.completed f.directory s.middle (pats_in packets) (listings packets) s.carousel s.newest s.sections s.heard h.directory

  keeps : Keeps longer s.after.directory (pats_in longer) (listings longer)
  keeps =
      keeps_as longer s.after.directory (pats_in packets ++ pats_among t.new) (pats_in longer) (listings packets ++ listed_by (length longer) t.new) (listings longer)
      (sym (pats_more packets x t.new cuts)) (sym (listings_more packets x t.new cuts)) (t.takes longer (pats_in packets) (listings packets) middle)

  -- where nothing was completed, the directory in the middle keeps all
  all_in_middle : t.new ≡ [] → Keeps longer s.middle (pats_in longer) (listings longer)
  all_in_middle none =
      keeps_as longer s.middle (pats_in packets) (pats_in longer) (listings packets) (listings longer)
      (sym (append-nil (pats_in packets)) ∙ ap (λ (ss : List Bytes). pats_in packets ++ pats_among ss) (sym none) ∙ sym (pats_more packets x t.new cuts))
      (sym (append-nil (listings packets)) ∙ ap (λ (ss : List Bytes). listings packets ++ listed_by (length longer) ss) (sym none) ∙ sym (listings_more packets x t.new cuts))
      middle

  stays : s.completed ≡ false → t.new ≡ [] → s.after.found ≡ found_in s.after.directory.carousel longer
  stays off none =
      let silent : Each (Heard f.directory.carousel x false) f.directory.followed s.middle.followed = subst (λ (b : Bool). Each (Heard f.directory.carousel x b) f.directory.followed s.middle.followed) off s.heard in
      t.found ∙ h.found ∙ sym (found_is packets f.directory h.directory) ∙ sym (found_stays x f.directory s.middle s.newest s.sections silent) ∙ found_is longer s.middle (all_in_middle none)
      ∙ ap (λ (c : ℕ). found_in c longer) (sym t.carousel)

  answer : (b : Bool) → (s.completed || s.listed) ≡ b → cond b (found_by s.after.directory) s.after.found ≡ found_in s.after.directory.carousel longer
  answer true e = found_is longer s.after.directory keeps
  answer false e = let both = neither s.completed s.listed e in stays both.0 (t.quiet both.1)

-- ---- a packet that isn't heard

-- one of another PID than the PAT's
pub tables_unheard : (f : FinderState) (x : Bytes) → is_pid 0 (pid_of x) ≡ false → TablesHeard x false f f
tables_unheard f x other = record {
  new = [];
  tables = heard_still 0 f.tables x other;
  cuts = λ packets h. cuts_still 0 x other packets ∙ sym (append-nil (candidates 0 packets));
  takes = λ packets pats came h. keeps_as packets f.directory pats (pats ++ []) came (came ++ []) (sym (append-nil pats)) (sym (append-nil came)) h;
  carousel = refl;
  found = refl;
  quiet = λ e. refl;
}

-- one of no PID
pub holds_unheard : (f : FinderState) (x : Bytes) → pid_of x ≡ None → (packets : List Bytes) → Holds f packets → Holds f (packets ++ x ∷ [])
holds_unheard f x none = holds_step f f x (record {
  middle = f.directory;
  after = f;
  completed = false;
  listed = false;
  heard = nobody_hears f.directory.carousel x f.directory.followed none;
  carousel = refl;
  newest = refl;
  sections = refl;
  turned = tables_unheard f x (ap (is_pid 0) none);
  tables = refl;
  directory = refl;
  found = refl;
})

-- ---- what asks for memory

pub heard_on_tables : (packets : List Bytes) (x : Bytes) (pid : ℕ) → pid_of x ≡ Some pid → pid ≡ 0 → is_heard packets x ≡ true
heard_on_tables packets x pid is e = ap (heard_on (followed_in packets)) (is ∙ ap (λ (p : ℕ). Some p) e)

or_true : (a : Bool) → (a || true) ≡ true
or_true true = refl
or_true false = refl

pub heard_on_followed : (f : FinderState) (d : Directory) (packets : List Bytes) (x : Bytes) (pid : ℕ) → pid_of x ≡ Some pid → f.directory ≡ view_directory d
    → list_any (λ g. g.pid == pid) d.followed.items ≡ true → Holds f packets → is_heard packets x ≡ true
heard_on_followed f d packets x pid is same any h =
    let each : FollowsEach f.directory.carousel packets (map view_followed d.followed.items) (followed_in packets) =
    subst (λ (e : DirectoryState). FollowsEach f.directory.carousel packets e.followed (followed_in packets)) same h.directory.followed in
    let listed : is_in pid (map (λ y. y.0) (followed_in packets)) ≡ true =
    ap (is_in pid) (sym (follows_pids f.directory.carousel packets (map view_followed d.followed.items) (followed_in packets) each)) ∙ sym (seen_pid pid d.followed.items) ∙ any in
    ap (heard_on (followed_in packets)) is ∙ ap (λ (b : Bool). (pid == 0) || b) listed ∙ or_true (pid == 0)
