-- A piece that is read, and sections that are cut.
use Rattle.std.specs.Prelude.{◌≡◌, ℕ, ◌≤◌, ◌++◌, List, [], length, take, drop, Option, IfSome}
use Rattle.std.specs.List.{concat}
use Rattle.shell_streams.specs.Cuts.{Bytes, back_to_back}

-- the source has nothing left, where it tells
abbrev pub IsDry : Option Bytes → Type 0
IsDry left = IfSome left (λ l. l ≡ [])

-- these sections were taken from the front of the input, and this is the rest
pub record AreCut (sections : List Bytes) (input rest : Bytes) : Type 0 where
  pub whole : input ≡ concat sections ++ rest
  pub cuts : back_to_back input ≡ sections ++ back_to_back rest

-- so many bytes of a source went after the first `start` of a buffer
pub record ReadsAfter (new before after : Bytes) (start n : ℕ) : Type 0 where
  pub within : n ≤ length before
  pub front : take n (drop start new) ≡ take n before
  pub left : after ≡ drop n before
  pub some : n ≡ 0 → before ≡ []
