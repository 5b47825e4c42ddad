-- What map tables name, as the code asks for it and as it is kept.
use Rattle.std.proofs.Common.{ℕ, ◌≡◌, Bool, true, false, ◌==◌, List, [], ◌∷◌, ◌++◌, map, Option, Some, None, option_and_then, inl, inr, refl, sym, ap, subst, ◌∙◌, append_assoc}
use Rattle.std.specs.List.{find, filter_map, cons_option}
use Rattle.std.specs.Option.{option_map}
use Rattle.std.proofs.lemmas.Bool.{eq-eqb, ne_eqb, eqb-true, cases_eq}
use Rattle.std.proofs.lemmas.List.{append-nil}
use Rattle.std.proofs.lemmas.List.Elements.{filter_map-append}
use Rattle.section_stream.specs.Cuts.{Bytes, candidates}
use Rattle.psi_tables.specs.declared.tables.PatLine.{PatLine}
use Rattle.psi_tables.specs.declared.tables.PmtLine.{PmtLine}
use Rattle.psi_tables.specs.declared.tables.Pmt.{Pmt}
use Rattle.psi_tables.specs.declared.followed.Program.{Program}
use Rattle.psi_tables.specs.declared.followed.Followed.{Followed}
use Rattle.psi_tables.specs.Pmts.{PmtFields, LineFields, view_pmt, view_line}
use Rattle.psi_tables.specs.Finding.{names, is_in, pmt_in, pmt_among}
use Rattle.psi_tables.specs.Inner.Finding.{list_of}
use Rattle.psi_tables.specs.Receiving.{HeardOn, is_pid, pid_of}
use Rattle.psi_tables.specs.Stands.{FollowedState, Hears, view_followed, named_for}
use Rattle.psi_tables.specs.Inner.Stands.{named_by}
use Rattle.psi_tables.specs.Inner.Steps.{put, after_pmt, after_pmts}
use Rattle.psi_tables.proofs.Hearing.{heard_still, cuts_still}
use Rattle.psi_tables.proofs.Lists.{find_seen, found_put, found_still, last_where_here, last_where_still}

pub names_found : (carousel : ℕ) (p : Pmt) (ys : List PmtLine) (o : Option PmtLine) → ys ≡ p.lines.items → o ≡ find (λ l. is_in carousel l.carousels.items) ys
    → option_map (λ l. l.pid) o ≡ names carousel (view_pmt p)
names_found carousel p ys o same e =
    let here = e ∙ ap (find (λ l. is_in carousel l.carousels.items)) same in
    ap (option_map (λ l. l.pid)) here ∙ seen (find (λ l. is_in carousel l.carousels.items) p.lines.items)
    ∙ ap (option_map (λ (l : LineFields). l.pid)) (sym (find_seen view_line (λ l. is_in carousel l.carousels) p.lines.items)) where
      seen : (q : Option PmtLine) → option_map (λ l. l.pid) q ≡ option_map (λ (l : LineFields). l.pid) (option_map view_line q)
      seen (Some l) = refl
      seen None = refl

pub named_found : (xs : List Followed) (l : PatLine) (o : Option Followed) → o ≡ find (λ f. f.pid == l.pid) xs
    → option_and_then (λ f. named_for l.program f.programs.items) o ≡ named_by (map view_followed xs) l
named_found xs l o e =
    ap (option_and_then (λ f. named_for l.program f.programs.items)) e ∙ seen (find (λ f. f.pid == l.pid) xs)
    ∙ ap (option_and_then (λ (f : FollowedState). named_for l.program f.programs)) (sym (find_seen view_followed (λ f. f.pid == l.pid) xs)) where
      seen : (q : Option Followed) → option_and_then (λ f. named_for l.program f.programs.items) q ≡ option_and_then (λ (f : FollowedState). named_for l.program f.programs) (option_map view_followed q)
      seen (Some f) = refl
      seen None = refl

-- ---- one more map table

-- the entries are those of the last map table of each program
abbrev pub AreLast : (carousel : ℕ) → List Program → List PmtFields → Type 0
AreLast carousel entries pmts = (program : ℕ) → named_for program entries ≡ option_and_then (names carousel) (pmt_among program pmts)

abbrev entry_of : ℕ → PmtFields → Program
entry_of carousel p = record { program = p.program; named = names carousel p }

same_key : (p q : ℕ) → p ≡ q → (e : Program) → (e.program == p) ≡ (e.program == q)
same_key p q same e = ap (λ (k : ℕ). e.program == k) same

apart : (p q : ℕ) → (p ≡ q → ⊥) → (e : Program) → (e.program == p) ≡ true → (e.program == q) ≡ false
apart p q other e t = ne_eqb e.program q (λ same. other (sym (eqb-true e.program p t) ∙ same))

one_more : (carousel : ℕ) (entries : List Program) (pmts : List PmtFields) (p : PmtFields) → AreLast carousel entries pmts → AreLast carousel (put (λ e. e.program == p.program) (entry_of carousel p) entries) (pmts ++ p ∷ [])
one_more carousel entries pmts p are program = elim (cases_eq p.program program) [ inl same ↦ here same | inr other ↦ still other ] where
  sought : Program → Bool
  sought e = e.program == program

  here : p.program ≡ program → named_for program (put (λ e. e.program == p.program) (entry_of carousel p) entries) ≡ option_and_then (names carousel) (pmt_among program (pmts ++ p ∷ []))
  here same =
      ap (λ (k : ℕ). named_for program (put (λ e. e.program == k) (entry_of carousel p) entries)) same
      ∙ ap (option_and_then (λ (e : Program). e.named)) (found_put (λ e. e.program == program) (entry_of carousel p) entries (eq-eqb p.program program same))
      ∙ sym (ap (option_and_then (names carousel)) (last_where_here (λ q. q.program == program) pmts p (eq-eqb p.program program same)))

  still : (p.program ≡ program → ⊥) → named_for program (put (λ e. e.program == p.program) (entry_of carousel p) entries) ≡ option_and_then (names carousel) (pmt_among program (pmts ++ p ∷ []))
  still other =
      ap (option_and_then (λ (e : Program). e.named)) (found_still (λ e. e.program == p.program) (λ e. e.program == program) (entry_of carousel p) entries (apart p.program program other) (ne_eqb p.program program other))
      ∙ are program
      ∙ sym (ap (option_and_then (names carousel)) (last_where_still (λ q. q.program == program) pmts p (ne_eqb p.program program other)))

one_candidate : (carousel : ℕ) (entries : List Program) (pmts : List PmtFields) (o : Option PmtFields) → AreLast carousel entries pmts → AreLast carousel (after_pmt carousel entries o) (pmts ++ list_of o)
one_candidate carousel entries pmts None are program = are program ∙ ap (λ (xs : List PmtFields). option_and_then (names carousel) (pmt_among program xs)) (sym (append-nil pmts))
one_candidate carousel entries pmts (Some p) are program = one_more carousel entries pmts p are program

as_list : {A B : Type 0} (f : A → Option B) (x : A) (xs : List A) → filter_map f (x ∷ xs) ≡ list_of (f x) ++ filter_map f xs
as_list {A} {B} f x xs = go (f x) where
  go : (o : Option B) → cons_option o (filter_map f xs) ≡ list_of o ++ filter_map f xs
  go (Some y) = refl
  go None = refl

pub some_more : (carousel : ℕ) (sections : List Bytes) (entries : List Program) (pmts : List PmtFields) → AreLast carousel entries pmts → AreLast carousel (after_pmts carousel entries sections) (pmts ++ filter_map pmt_in sections)
some_more carousel [] entries pmts are program = are program ∙ ap (λ (xs : List PmtFields). option_and_then (names carousel) (pmt_among program xs)) (sym (append-nil pmts))
some_more carousel (s ∷ ss) entries pmts are program =
    let rest = some_more carousel ss (after_pmt carousel entries (pmt_in s)) (pmts ++ list_of (pmt_in s)) (one_candidate carousel entries pmts (pmt_in s) are) in
    let regrouped : pmts ++ list_of (pmt_in s) ++ filter_map pmt_in ss ≡ pmts ++ filter_map pmt_in (s ∷ ss) = append_assoc pmts (list_of (pmt_in s)) (filter_map pmt_in ss) ∙ ap (λ (xs : List PmtFields). pmts ++ xs) (sym (as_list pmt_in s ss)) in
    subst (λ (xs : List PmtFields). AreLast carousel (after_pmts carousel entries (s ∷ ss)) xs) regrouped rest program

-- ---- one packet on a followed PID

pub hears_more : (carousel : ℕ) (f g : FollowedState) (packet : Bytes) (new : List Bytes)
    → ((packets : List Bytes) → HeardOn f.pid f.demux packets → HeardOn f.pid g.demux (packets ++ packet ∷ []))
    → ((packets : List Bytes) → HeardOn f.pid f.demux packets → candidates f.pid (packets ++ packet ∷ []) ≡ candidates f.pid packets ++ new)
    → g.pid ≡ f.pid → g.programs ≡ after_pmts carousel f.programs new
    → (packets : List Bytes) → Hears carousel f packets → Hears carousel g (packets ++ packet ∷ [])
hears_more carousel f g packet new heard cuts pid programs packets h =
    let longer : candidates g.pid (packets ++ packet ∷ []) ≡ candidates f.pid packets ++ new = ap (λ (q : ℕ). candidates q (packets ++ packet ∷ [])) pid ∙ cuts packets h.demux in
    let pmts : filter_map pmt_in (candidates g.pid (packets ++ packet ∷ [])) ≡ filter_map pmt_in (candidates f.pid packets) ++ filter_map pmt_in new =
    ap (filter_map pmt_in) longer ∙ filter_map-append pmt_in (candidates f.pid packets) new in
    record {
      demux = subst (λ (q : ℕ). HeardOn q g.demux (packets ++ packet ∷ [])) (sym pid) (heard packets h.demux);
      programs = λ program.
          ap (named_for program) programs
          ∙ some_more carousel new f.programs (filter_map pmt_in (candidates f.pid packets)) h.programs program
          ∙ ap (λ (xs : List PmtFields). option_and_then (names carousel) (pmt_among program xs)) (sym pmts);
    }

-- a packet of another PID
pub hears_still : (carousel : ℕ) (f : FollowedState) (packet : Bytes) → is_pid f.pid (pid_of packet) ≡ false → (packets : List Bytes) → Hears carousel f packets → Hears carousel f (packets ++ packet ∷ [])
hears_still carousel f packet other packets h = record {
  demux = heard_still f.pid f.demux packet other packets h.demux;
  programs = λ program. h.programs program ∙ ap (λ (cs : List Bytes). option_and_then (names carousel) (pmt_among program (filter_map pmt_in cs))) (sym (cuts_still f.pid packet other packets));
}
