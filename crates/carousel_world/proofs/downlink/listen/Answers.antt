use Rattle.std.proofs.Common.{◌≡◌, ℕ, ◌+◌, ◌<◌, ◌++◌, [], ◌∷◌, List, map, take, length, get_or, sym, ap, ◌∙◌, subst, append_assoc, arith}
use Rattle.std.proofs.lemmas.List.{take_more, take_all, map-append}
use Rattle.std.specs.declared.vec.Vec.{Vec}
use Rattle.std.specs.declared.alloc.Global.{Global}
use Rattle.path_tree.specs.Paths.{Bytes}
use Rattle.section_stream.specs.Kept.{view_bytes}
use Rattle.tuner_core.specs.Stands as tuning
use Rattle.carousel_world.proofs.downlink.listen.Goals as goal

-- one candidate more
one_more : (before : List Bytes) (cs : List (Vec ℕ Global)) (k : ℕ) (c : Vec ℕ Global) (bytes : Bytes) → k < length cs → c ≡ get_or cs k c → bytes ≡ view_bytes c
    → (before ++ map view_bytes (take k cs)) ++ bytes ∷ [] ≡ before ++ map view_bytes (take (k + 1) cs)
one_more before cs k c bytes lt is e =
    append_assoc before (map view_bytes (take k cs)) (bytes ∷ [])
    ∙ ap (λ b. before ++ (map view_bytes (take k cs) ++ b ∷ [])) e
    ∙ ap (λ xs. before ++ xs) (sym (map-append view_bytes (take k cs) (c ∷ [])) ∙ ap (λ x. map view_bytes (take k cs ++ x ∷ [])) is ∙ ap (map view_bytes) (sym (take_more cs k c lt)))

pub loop-candidate-preserved : goal.loop-candidate-preserved
loop-candidate-preserved c =
    λ before st. subst (tuning.StandsFor c.feed.new.self)
    (one_more before c.args.candidates.now c.loop-candidate.candidate-index c.candidate-item.result c.deref.result.now c.loop-candidate-test.true c.candidate-item.is c.deref.ensures.value)
    (c.in_ok-feed.ensures.stands (before ++ map view_bytes (take c.loop-candidate.candidate-index c.args.candidates.now)) (c.loop-candidate.invariant before st))

pub returns : goal.returns
returns c =
    λ before st. subst (λ xs. tuning.StandsFor c.loop-candidate.tuner (before ++ map view_bytes xs)) (take_all c.loop-candidate.candidate-index c.args.candidates.now (omega arith)) (c.loop-candidate.invariant before st)
