use Rattle.session_script.proofs.Imports.{◌≡◌, ◌∙◌, rules, is_space, words_in, words_left}
use Rattle.path_tree.proofs.CallerLemmas.{cut_none, cut_at}
use Rattle.session_script.proofs.words.Words.next.Goals as goal

pub returns-in_default : goal.returns-in_default
returns-in_default c = let said : words_left c.args.self.now ≡ words_in c.in_ok-text.text.now = search (rules, c.in_ok-text.was) in
    said ∙ cut_none is_space c.in_ok-text.text.now (search rules)

pub returns : goal.returns
returns c = let said : words_left c.args.self.now ≡ words_in c.in_ok-text.text.now = search (rules, c.in_ok-text.was) in
    said ∙ (cut_at is_space c.in_ok-text.text.now c.in-Some.end (search rules)).0
