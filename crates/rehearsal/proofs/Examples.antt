-- Scripts whose events are known, and words of a reply, computed by the definitions.
use Rattle.rehearsal.proofs.Words.{◌≡◌, List, [], ◌∷◌, map, None, refl, codes, PathNames, During, Act, LineFields, Commit, Draw, Open, events_from, none_pending, reply_words}
use Rattle.path_tree.specs.declared.tree.Edit.TheVariants as edits
use Rattle.path_resolver.specs.declared.answer.Answer.TheVariants as answers
use Rattle.ts_packet.specs.declared.Fate.TheVariants.{Lose}
use Rattle.session_script.specs.Scripts as lines
use Rattle.carousel_world.specs.declared.event.Reply.TheVariants as replies

abbrev a : PathNames
a = codes "a" ∷ []

abbrev b : PathNames
b = codes "b" ∷ []

abbrev acts_by : List Act → List LineFields
acts_by acts = map (λ (act : Act). record { number = 1; stage = During; act = act }) acts

-- a commit takes its editor's edits since the last, and edits that no commit follows are given up
each_editor : events_from none_pending (acts_by (lines.Put 1 a (49 ∷ []) ∷ lines.Put 2 b [] ∷ lines.Remove 1 b ∷ lines.Commit 1 ∷ lines.Fill 1 a 3 250 ∷ lines.Commit 2 ∷ lines.Commit 1
    ∷ lines.Commit 1 ∷ lines.Put 2 a [] ∷ [])) ≡
    Commit 1 (edits.Put a (49 ∷ []) ∷ edits.Remove b ∷ []) ∷ Commit 2 (edits.Put b [] ∷ []) ∷ Commit 1 (edits.Put a (250 ∷ 1 ∷ 8 ∷ []) ∷ []) ∷ Commit 1 [] ∷ []
each_editor = refl

-- a folder is made and removed by edits like the others
folders_wait : events_from none_pending (acts_by (lines.MakeFolder 1 a ∷ lines.RemoveFolder 2 a ∷ lines.Put 1 b [] ∷ lines.Commit 2 ∷ lines.Commit 1 ∷ lines.MakeFolder 1 b ∷ [])) ≡
    Commit 2 (edits.RemoveFolder a ∷ []) ∷ Commit 1 (edits.MakeFolder a ∷ edits.Put b [] ∷ []) ∷ []
folders_wait = refl

settles : events_from none_pending (acts_by (lines.Draw 5 (Lose ∷ []) ∷ lines.Settle ∷ lines.Open 3 a ∷ [])) ≡
    Draw 5 (Lose ∷ []) ∷ Draw 1048576 [] ∷ Draw 1048576 [] ∷ Open 3 a ∷ []
settles = refl

opens_nothing : reply_words (codes "/a") (replies.Opened None answers.NoCarousel) ≡ codes "- /a no-carousel"
opens_nothing = refl
