-- A module among those of the held DIIs, sought DII by DII.
use Rattle.std.proofs.Common.{◌≡◌, ℕ, ◌+◌, ◌<◌, Bool, true, false, ◌&&◌, ◌==◌, List, [], ◌∷◌, length, get_or, drop, Option, Some, None, refl, sym, ap, ◌∙◌, add-one, drop-cons}
use Rattle.std.proofs.lemmas.List.Folds.{find-append}
use Rattle.std.specs.List.{find, flat_map}
use Rattle.std.specs.Option.{option_map, option_or}
use Rattle.module_cache.specs.Contents.{bytes_of}
use Rattle.module_cache.specs.Held.{TunedState}
use Rattle.module_cache.specs.declared.stored.Line.{Line}
use Rattle.module_cache.proofs.CallerLemmas.{find_map}
use Rattle.path_resolver.specs.Resolving.{HeldModule}
use Rattle.tuner_core.specs.Stands.{modules_of}

-- ---- one DII more

-- what is found among DIIs, the first of which is this one
one_first : (p : HeldModule → Bool) (held : List TunedState) (i : ℕ) (t : TunedState) → i < length held → t ≡ get_or held i t
    → find p (flat_map modules_of (drop i held)) ≡ option_or (find p (modules_of t)) (find p (flat_map modules_of (drop (i + 1) held)))
one_first p held i t lt is =
    let front : drop i held ≡ get_or held i t ∷ drop (i + 1) held = rw (add-one, drop-cons held i t) in
    let same : get_or held i t ∷ drop (i + 1) held ≡ t ∷ drop (i + 1) held = ap (λ (u : TunedState). u ∷ drop (i + 1) held) (sym is) in
    ap (λ (us : List TunedState). find p (flat_map modules_of us)) (front ∙ same) ∙ find-append p (modules_of t) (flat_map modules_of (drop (i + 1) held))

pub found_by : (p : HeldModule → Bool) (held : List TunedState) (i : ℕ) (t : TunedState) (x : HeldModule) (whole : Option HeldModule) → i < length held → t ≡ get_or held i t
    → Some x ≡ find p (modules_of t) → find p (flat_map modules_of (drop i held)) ≡ whole → Some x ≡ whole
found_by p held i t x whole lt is found so_far =
    ap (λ (o : Option HeldModule). option_or o (find p (flat_map modules_of (drop (i + 1) held)))) found ∙ sym (one_first p held i t lt is) ∙ so_far

pub found_after : (p : HeldModule → Bool) (held : List TunedState) (i : ℕ) (t : TunedState) (whole : Option HeldModule) → i < length held → t ≡ get_or held i t
    → find p (modules_of t) ≡ None → find p (flat_map modules_of (drop i held)) ≡ whole → find p (flat_map modules_of (drop (i + 1) held)) ≡ whole
found_after p held i t whole lt is none so_far =
    ap (λ (o : Option HeldModule). option_or o (find p (flat_map modules_of (drop (i + 1) held)))) (sym none) ∙ sym (one_first p held i t lt is) ∙ so_far

-- ---- the DII of an identification

module_by : ℕ → Line → HeldModule
module_by i x = record { identification = i; line = x.line; bytes = bytes_of x.stored.content }

none_found : {X : Type 0} (xs : List X) → find (λ x. false) xs ≡ None
none_found [] = refl
none_found (x ∷ xs) = none_found xs

-- whether a DII has the identification is decided once for all of its lines
sought_once : (t : TunedState) (i id : ℕ)
    → find (λ h. (h.identification == i) && (h.line.id == id)) (modules_of t) ≡ option_map (module_by t.identification) (find (λ x. (t.identification == i) && (x.line.id == id)) t.lines)
unfolding module_by
sought_once t i id = find_map (module_by t.identification) (λ h. (h.identification == i) && (h.line.id == id)) t.lines

pub of_the_dii : (t : TunedState) (i id : ℕ) → t.identification == i ≡ true
    → find (λ h. (h.identification == i) && (h.line.id == id)) (modules_of t) ≡ find (λ h. h.line.id == id) (modules_of t)
unfolding module_by
of_the_dii t i id e =
    sought_once t i id
    ∙ ap (λ (b : Bool). option_map (module_by t.identification) (find (λ x. b && (x.line.id == id)) t.lines)) e
    ∙ sym (find_map (module_by t.identification) (λ h. h.line.id == id) t.lines)

pub of_another_dii : (t : TunedState) (i id : ℕ) → t.identification == i ≡ false → find (λ h. (h.identification == i) && (h.line.id == id)) (modules_of t) ≡ None
unfolding module_by
of_another_dii t i id e =
    sought_once t i id
    ∙ ap (λ (b : Bool). option_map (module_by t.identification) (find (λ x. b && (x.line.id == id)) t.lines)) e
    ∙ ap (option_map (module_by t.identification)) (none_found t.lines)
