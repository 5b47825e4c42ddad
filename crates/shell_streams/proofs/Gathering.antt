-- An input that is taken piece by piece up to a limit.
use Rattle.std.proofs.Common.{◌≡◌, ℕ, ◌-◌, ◌<◌, ◌≤◌, [], ◌++◌, length, take, drop, Option, arith, sym, ap, ◌∙◌, append-nil, append_assoc, length-append, length-take, subst}
use Rattle.std.proofs.lemmas.Bool.{lt-ltb, le-ltb}
use Rattle.std.proofs.lemmas.List.{take-append-drop, take-append-le, take-take, drop_all}
use Rattle.oc_bytes.specs.Outcome.{Known}
use Rattle.oc_bytes.specs.Streams.{Takes}
use Rattle.shell_streams.specs.Cuts.{Bytes}
use Rattle.shell_streams.specs.Packets.{AllTaken, IsRear, Stopped, is_longer}
use Rattle.shell_streams.specs.declared.input.InputFault.{InputFault}
use Rattle.shell_streams.specs.declared.input.InputFault.TheVariants as faults
use Rattle.shell_streams.proofs.Putting.{told_then, told_weaker}

-- these bytes were taken from the front of the input
abbrev pub TakenFirst : Bytes → Bytes → Bytes → Type 0
TakenFirst bytes input left = input ≡ bytes ++ left

pub taken_more : {a b c : Option Bytes} (bytes into : Bytes) (n : ℕ) → Known a b (TakenFirst bytes) → Known b c (λ before after. Takes before after into n) → Known a c (TakenFirst (bytes ++ take n into))
taken_more bytes into n p q = told_then p q (λ x y z e t.
    e ∙ ap (λ l. bytes ++ l) (sym (take-append-drop n y) ∙ ap (λ f. f ++ drop n y) (sym t.front) ∙ ap (λ r. take n into ++ r) (sym t.left))
    ∙ sym (append_assoc bytes (take n into) z))

-- nothing more is left
pub taken_all : {a b c : Option Bytes} (bytes into : Bytes) (n most : ℕ) → n ≡ 0 → length bytes ≤ most → Known a b (TakenFirst bytes) → Known b c (λ before after. Takes before after into n)
    → Known a c (AllTaken (λ input. input) (is_longer most) bytes)
taken_all bytes into n most none within p q = told_then p q (λ x y z e t.
    let empty : y ≡ [] = t.ended.0 none in
    let all : x ≡ bytes = e ∙ ap (λ l. bytes ++ l) empty ∙ append-nil bytes in
    record {
      to_end = t.left ∙ ap (drop n) empty ∙ drop_all n [] (omega arith);
      within = le-ltb most (length x) (subst (λ (xs : Bytes). length xs ≤ most) (sym all) within);
      all = all;
    })

rear_of : (bytes x y : Bytes) → x ≡ bytes ++ y → IsRear x y
rear_of bytes x y e = record { taken = bytes; whole = e }

-- a fault stopped the reading
pub taken_stop : {a b : Option Bytes} (fault : InputFault) (bytes : Bytes) (most : ℕ) → (fault ≡ faults.TooLong → ⊥) → Known a b (TakenFirst bytes) → Known a b (Stopped (is_longer most) fault)
taken_stop fault bytes most other p = told_weaker p (λ x y e. record { rear = rear_of bytes x y e; too_long = λ long. absurd (other long) })

-- more than the most was read
pub taken_over : {a b c : Option Bytes} (bytes into : Bytes) (n most : ℕ) → length bytes ≤ most → most - length bytes < n → Known a b (TakenFirst bytes) → Known b c (λ before after. Takes before after into n)
    → Known a c (Stopped (is_longer most) faults.TooLong)
taken_over bytes into n most within over p q = told_then p q (λ x y z e t.
    let rest = sym (take-append-drop n y) ∙ ap (λ r. take n y ++ r) (sym t.left) in
    record {
      rear = record { taken = bytes ++ take n y; whole = e ∙ ap (λ l. bytes ++ l) rest ∙ sym (append_assoc bytes (take n y) z) };
      too_long = λ _. lt-ltb most (length x) (longer x y e t.within);
    })
  where
    longer : (x y : Bytes) → x ≡ bytes ++ y → n ≤ length y → most < length x
    longer x y e h = omega (arith, ap length e, length-append bytes y)

-- what was read into a buffer is at its front
pub read_front : (n room : ℕ) (into rest : Bytes) → n ≤ room → n ≤ length into → take n (take room (into ++ rest)) ≡ take n into
read_front n room into rest h k = take-take n room (into ++ rest) h ∙ take-append-le n into rest k

-- and goes after the bytes
pub gathered : (bytes new front into rest : Bytes) (n room : ℕ) → new ≡ bytes ++ take n front → front ≡ take room (into ++ rest) → n ≤ room → n ≤ length into → new ≡ bytes ++ take n into
gathered bytes new front into rest n room e f h k = e ∙ ap (λ xs. bytes ++ xs) (ap (take n) f ∙ read_front n room into rest h k)

pub gathered_length : (bytes into : Bytes) (n most : ℕ) → length bytes ≤ most → n ≤ most - length bytes → length (bytes ++ take n into) ≤ most
gathered_length bytes into n most h k = omega (arith, length-append bytes (take n into), length-take n into)
