-- One packet more at the front of an input.
use Rattle.std.proofs.Common.{◌≡◌, ◌+◌, ◌<◌, ◌≤◌, List, [], ◌∷◌, ◌++◌, length, sym, ap, ◌∙◌, arith, append-nil, length-append}
use Rattle.std.specs.List.{concat}
use Rattle.std.proofs.lemmas.List.{take_all, take-append-le}
use Rattle.std.proofs.lemmas.List.Folds.{concat-append}
use Rattle.path_tree.specs.Paths.{Bytes}
use Rattle.reception_report.specs.Inner.Sync.{IsFront}
use Rattle.reception_report.specs.declared.front.Front.{Front}

one : (p : Bytes) → concat (p ∷ []) ≡ p
one p = append-nil p

-- it is kept
pub front_more : (old new : Front) (packets : List Bytes) (p : Bytes) → IsFront old packets → old.packets < 24 → new.bytes.items ≡ old.bytes.items ++ p → new.packets ≡ old.packets + 1
    → IsFront new (packets ++ p ∷ [])
front_more old new packets p f room bytes n =
    let few : length packets < 24 = omega (arith, f.number, room) in
    record {
      bytes_are = bytes ∙ ap (λ bs. bs ++ p) (f.bytes_are ∙ ap concat (take_all 24 packets (omega (arith, few))))
          ∙ ap (λ bs. concat packets ++ bs) (sym (one p)) ∙ sym (concat-append packets (p ∷ []))
          ∙ ap concat (sym (take_all 24 (packets ++ p ∷ []) (omega (arith, few, length-append packets (p ∷ [])))));
      number = omega (arith, n, f.number, few, length-append packets (p ∷ []));
    }

-- there are enough
pub front_same : (f : Front) (packets : List Bytes) (p : Bytes) → IsFront f packets → 24 ≤ f.packets → IsFront f (packets ++ p ∷ [])
front_same front packets p f full =
    let many : 24 ≤ length packets = omega (arith, f.number, full) in
    record {
      bytes_are = f.bytes_are ∙ ap concat (sym (take-append-le 24 packets (p ∷ []) many));
      number = omega (arith, f.number, many, length-append packets (p ∷ []));
    }
