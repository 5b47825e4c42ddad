-- The written tables, as they are found.
use Rattle.std.proofs.Common.{ℕ, ◌≡◌, true, List, [], ◌∷◌, drop, Some, refl, sym, subst, ◌∙◌, lit≤, lit<}
use Rattle.std.specs.List.{All, Contains}
use Rattle.std.proofs.lemmas.List.Elements.{All-nil, All-cons}
use Rattle.std.proofs.lemmas.Option.{same_Some}
use Rattle.psi_tables.specs.declared.tables.PatLine.{PatLine}
use Rattle.psi_tables.specs.Pats.{PatFields}
use Rattle.psi_tables.specs.Pmts.{PmtFields}
use Rattle.psi_tables.specs.Written.{written_line, pat_value, pmt_value}
use Rattle.psi_tables.specs.Finding.{pats_in, pmts_in, is_program}
use Rattle.psi_tables.specs.Laws.{example, followed_since, HasOne, PremisesMet}

abbrev table : ℕ → PmtFields
table n = pmt_value 1

example_pats : pats_in example ≡ pat_value ∷ []
example_pats = refl

example_since : followed_since example 32 ≡ Some 1
example_since = refl

example_pmts : pmts_in 32 (drop 1 example) ≡ pmt_value 1 ∷ []
example_pmts = refl

-- what is said of the one map table
abbrev Its : PmtFields → Type 0
Its m = m.program ≡ written_line.program → m ≡ table written_line.program

has_one : HasOne 1 example table 256 written_line
has_one = record {
  its = refl;
  same = λ since e.
      subst (λ (k : ℕ). All Its (pmts_in 32 (drop k example))) (same_Some 1 since (sym example_since ∙ e))
      (subst (All Its) (sym example_pmts) (All-cons Its (pmt_value 1) [] (λ s. refl) (All-nil Its)));
  named = refl;
}

pub premises_met : PremisesMet
premises_met =
    let Same : PatFields → Type 0 = λ r. r ≡ pat_value in
    let Line : PatLine → Type 0 = λ l. is_program l ≡ true → HasOne 1 example table 256 l in
    record {
      usual = record {
        number = refl;
        pats = subst (All Same) (sym example_pats) (All-cons Same pat_value [] refl (All-nil Same));
        lines = All-cons Line written_line [] (λ t. has_one) (All-nil Line);
      };
      pat = subst (λ (ps : List PatFields). Contains ps pat_value) (sym example_pats) (0, lit< tt, refl);
      line = ((0, lit< tt, refl), refl);
      named = refl;
      came = record { since = 1; followed = example_since; among = subst (λ (ms : List PmtFields). Contains ms (pmt_value 1)) (sym example_pmts) (0, lit< tt, refl) };
      few = lit≤ tt;
      found = refl;
      too_early = refl;
      other = refl;
      no_table = refl;
    }
