-- Content that is told over the reads of a file's front.
use Rattle.std.proofs.Common.{◌≡◌, ℕ, ◌≤◌, [], ◌++◌, length, take, drop, Option, Some, None, true, is_some, refl, ap, sym, ◌∙◌, append_assoc, append-nil, take-append-drop, arith}
use Rattle.std.proofs.Math.Seq.{take-append_seam}
use Rattle.std.proofs.lemmas.Option.{same_Some}
use Rattle.std.proofs.lemmas.List.{take_all, take-append-le}
use Rattle.oc_bytes.specs.Outcome.{Known}
use Rattle.oc_bytes.specs.Streams.{Takes}
use Rattle.path_tree.specs.Paths.{Bytes}

value_of : (o : Option Bytes) → is_some o ≡ true → (x : Bytes) × (o ≡ Some x)
value_of (Some x) e = (x, refl)
value_of None e = cc

abbrev pub Left : Type 0
Left = Option Bytes

-- nothing is read yet
pub told_begun : (left : Left) → Known left left (λ before after. before ≡ [] ++ after)
told_begun left = record {
  kept = refl;
  each = λ x y e f. same_Some x y (sym e ∙ f);
}

-- a read more
pub told_more : (first middle last : Left) (bytes more new : Bytes) (n : ℕ) → Known first middle (λ before after. before ≡ bytes ++ after) → Known middle last (λ before after. Takes before after new n) → more ≡ bytes ++ take n new
    → Known first last (λ before after. before ≡ more ++ after)
told_more first middle last bytes more new n p q e = record {
  kept = q.kept ∙ p.kept;
  each = λ x z f g.
      let m = value_of middle (p.kept ∙ ap is_some f) in
      let took = q.each m.0 z m.1 g in
      let whole : m.0 ≡ take n new ++ z = sym (take-append-drop n m.0) ∙ ap (λ (a : Bytes). a ++ drop n m.0) (sym took.front) ∙ ap (λ (b : Bytes). take n new ++ b) (sym took.left) in
      p.each x m.0 f m.1 ∙ ap (λ (b : Bytes). bytes ++ b) whole ∙ sym (append_assoc bytes (take n new) z) ∙ ap (λ (a : Bytes). a ++ z) (sym e);
}

-- nothing is left
pub told_ended : (first middle last : Left) (bytes new : Bytes) (most n : ℕ) → Known first middle (λ before after. before ≡ bytes ++ after) → Known middle last (λ before after. Takes before after new n) → n ≡ 0 → length bytes ≤ most
    → Known first last (λ before _. bytes ≡ take most before)
told_ended first middle last bytes new most n p q e within = record {
  kept = q.kept ∙ p.kept;
  each = λ x z f g.
      let m = value_of middle (p.kept ∙ ap is_some f) in
      let took = q.each m.0 z m.1 g in
      let whole : x ≡ bytes = p.each x m.0 f m.1 ∙ ap (λ (b : Bytes). bytes ++ b) (took.ended.0 e) ∙ append-nil bytes in
      sym (ap (λ (xs : Bytes). take most xs) whole ∙ take_all most bytes within);
}

-- as many bytes are read as were asked for
pub told_full : (first last : Left) (bytes : Bytes) (most : ℕ) → Known first last (λ before after. before ≡ bytes ++ after) → length bytes ≤ most → most ≤ length bytes → Known first last (λ before _. bytes ≡ take most before)
told_full first last bytes most p at_most at_least = record {
  kept = p.kept;
  each = λ x z f g. let n : most ≡ length bytes = omega arith in sym (ap (λ (xs : Bytes). take most xs) (p.each x z f g) ∙ ap (λ n. take n (bytes ++ z)) n ∙ take-append_seam bytes z);
}

-- what a read put into the front of a piece stands in the piece
pub told_front : (first last : Left) (new rest : Bytes) (n : ℕ) → Known first last (λ before after. Takes before after new n) → n ≤ length new → Known first last (λ before after. Takes before after (new ++ rest) n)
told_front first last new rest n p within = record {
  kept = p.kept;
  each = λ x y e f. let took = p.each x y e f in record { within = took.within; front = take-append-le n new rest within ∙ took.front; left = took.left; ended = took.ended };
}
