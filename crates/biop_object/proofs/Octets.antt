-- What is spelled of bytes are bytes.
use Rattle.std.proofs.Common.{◌≡◌, ℕ, ◌+◌, ◌%◌, ◌<◌, List, [], ◌∷◌, ◌++◌, length, arith, lit<}
use Rattle.std.specs.List.{All, flat_map}
use Rattle.std.proofs.lemmas.List.Elements.{All-cons, All-append, All-head, All-tail, All-nil}
use Rattle.oc_bytes.specs.Numbers.{IsBytes, four_bytes, eight_bytes}
use Rattle.ior_tap.specs.declared.Location.{Location}
use Rattle.ior_tap.specs.Iors as iors
use Rattle.ior_tap.specs.declared.tags.TheConstants.{BINDER_TAG}
use Rattle.biop_object.specs.declared.written.Bound.{Bound}
use Rattle.biop_object.specs.declared.written.Bound.TheVariants as bounds
use Rattle.biop_object.specs.declared.written.Written.{Written}
use Rattle.biop_object.specs.declared.written.FolderKind.{FolderKind}
use Rattle.biop_object.specs.declared.written.FolderKind.TheVariants.{Directory, Gateway}
use Rattle.biop_object.specs.Objects.{file_spelling, folder_spelling, binding_spelling, IsEntry}

record Octets (xs : List ℕ) : Type 0 where
  all : IsBytes xs

none : Octets []
none = record { all = All-nil (λ b. b < 256) }

more : {x : ℕ} {xs : List ℕ} → x < 256 → Octets xs → Octets (x ∷ xs)
more {x} {xs} lt a = record { all = All-cons (λ b. b < 256) x xs lt a.all }

both : {xs ys : List ℕ} → Octets xs → Octets ys → Octets (xs ++ ys)
both {xs} {ys} a b = record { all = All-append (λ b. b < 256) xs ys a.all b.all }

low : (n : ℕ) → n % 256 < 256
low n = omega arith

eight : (n : ℕ) → Octets (eight_bytes n)
eight n = search (more, none, low) depth 20

tap : (m : ℕ) → Octets (iors.component_bytes BINDER_TAG (1 ∷ flat_map iors.tap_bytes (iors.written_tap m ∷ [])))
tap m = search (both, more, none, low, lit<) depth 40

location : (kind : List ℕ) (l : Location) → length l.key ≡ 4 → Octets l.key → Octets kind → Octets (iors.spelling kind l)
location kind l four ok ok_kind =
    let key : length l.key < 256 = omega (arith, four) in
    let small : length (iors.location_bytes l) < 256 = omega (arith, four) in
    let place : Octets (iors.location_bytes l) = search (both, more, low, lit<) depth 40 in
    let content : Octets (iors.biop_bytes l (iors.written_tap l.module ∷ [])) = search (both, more, low, lit<, tap) depth 40 fits 4000 in
    search (both, more, none, low) depth 40

binding : (name : List ℕ) (b : Bound) (l : Location) → Octets name → length name + 1 < 256 → length l.key ≡ 4 → Octets l.key → Octets (binding_spelling (record { name = name; bound = b; location = l }))
binding name (bounds.File size) l ok small four key = search (both, more, none, low, lit<, location, eight) depth 40
binding name bounds.Folder l ok small four key = search (both, more, none, low, lit<, location) depth 40

pub flat_octets : {A : Type 0} (f : A → List ℕ) (xs : List A) → All (λ x. IsBytes (f x)) xs → IsBytes (flat_map f xs)
flat_octets f [] all = All-nil (λ b. b < 256)
flat_octets f (x ∷ xs) all = All-append (λ b. b < 256) (f x) (flat_map f xs) (All-head (λ y. IsBytes (f y)) x xs all) (flat_octets f xs (All-tail (λ y. IsBytes (f y)) x xs all))

pub four_octets : (n : ℕ) → IsBytes (four_bytes n)
four_octets n = four.all where
  four : Octets (four_bytes n)
  four = search (more, none, low) depth 20

pub file_octets : (key content : List ℕ) → IsBytes key → length key ≡ 4 → IsBytes content → IsBytes (file_spelling key content)
file_octets key content ok four bytes = (file (record { all = ok }) (omega (arith, four)) (record { all = bytes })).all where
  file : Octets key → length key < 256 → Octets content → Octets (file_spelling key content)
  file ok_key small ok_content = search (both, more, none, low, lit<, eight) depth 40 fits 4000

pub folder_octets : (kind : FolderKind) (key : List ℕ) (entries : List Written) → IsBytes key → length key ≡ 4 → All IsEntry entries → All (λ w. IsBytes w.name × IsBytes w.location.key) entries
    → IsBytes (folder_spelling kind key entries)
folder_octets kind key entries ok four each bytes = (folder kind (record { all = ok }) (omega (arith, four)) (record { all = lines })).all where
  lines : IsBytes (flat_map binding_spelling entries)
  lines = flat_octets binding_spelling entries (λ i d lt.
      let small = (each i d lt).name.1 in
      (binding _ _ _ (record { all = (bytes i d lt).0 }) (omega (arith, small)) (each i d lt).key (record { all = (bytes i d lt).1 })).all)

  folder : (kind : FolderKind) → Octets key → length key < 256 → Octets (flat_map binding_spelling entries) → Octets (folder_spelling kind key entries)
  folder Directory ok_key small ok_lines = search (both, more, none, low, lit<) depth 40 fits 4000
  folder Gateway ok_key small ok_lines = search (both, more, none, low, lit<) depth 40 fits 4000
