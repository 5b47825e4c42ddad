-- Reading an IOR and the relation of its bytes say the same, and the written form has its spelling.
use Rattle.std.proofs.Common.{◌≡◌, ℕ, ◌+◌, List, [], ◌∷◌, ◌++◌, length, Some, Ok, refl, sym, ap, subst, ◌∙◌, append_assoc, arith}
use Rattle.std.proofs.lemmas.List.{append-nil, length-append}
use Rattle.std.specs.Prelude.{unwrap_or, option_and_then}
use Rattle.oc_bytes.specs.Numbers.{two_bytes, four_bytes}
use Rattle.oc_bytes.specs.Cursor.{Reading, from_start, read_from_start}
use Rattle.oc_bytes.specs.Agreement.{at, Agrees, InBytes}
use Rattle.oc_bytes.specs.Grammar.{Fits, spell, front_of}
use Rattle.oc_bytes.proofs.CallerLemmas.{agrees_by, grammar_agrees, fits_reads, spelled_again, spelled_front, front_spelled}
use Rattle.ior_tap.specs.declared.Location.{Location}
use Rattle.ior_tap.specs.Iors.{TapFields, ProfileFields, Biop, Fields, tap, location, taps, components, profile, ior, biop_in, Reads, written_tap, written_form, IsWritten, IsLocation, tap_bytes, component_bytes, location_bytes, biop_bytes, spelling, spelled_by, Other}
use Rattle.ior_tap.specs.declared.tags.TheConstants.{BIOP_TAG, LOCATION_TAG, BINDER_TAG}
use Rattle.ior_tap.specs.Inner.Iors.{ReadsTap}
use Rattle.ior_tap.specs.IorReading.{tap_at, ior_at}

pub tap_agrees : Agrees tap_at ReadsTap
tap_agrees = grammar_agrees tap

-- in numbers that are bytes, as any reading takes them
pub ior_agrees : Agrees ior_at (InBytes Reads)
ior_agrees = agrees_by (grammar_agrees ior) (λ s i fits h. record { fit = fits; reads = h }) (λ s i h. h.reads)

-- ---- the spelling, byte by byte, is the grammar's

abbrev written_taps : Location → List TapFields
written_taps l = written_tap l.module ∷ []

abbrev written_content : Location → List ℕ
written_content l = (spelled_by (Biop l (written_taps l))).1

abbrev spelled_content : Location → List ℕ
spelled_content l = biop_bytes l (written_taps l)

location_whole : (l : Location) → spell location l ≡ location_bytes l
unfolding spell
location_whole l = simp append-nil

both_whole : (a b : List ℕ) → spell components ((LOCATION_TAG, a) ∷ (BINDER_TAG, b) ∷ []) ≡ 0 ∷ 2 ∷ component_bytes LOCATION_TAG a ++ component_bytes BINDER_TAG b
unfolding spell
both_whole a b = rw (append-nil a) (simp append-nil)

content_is : (l : Location) → written_content l ≡ spelled_content l
unfolding spell
content_is l =
    both_whole (spell location l) (spell taps (written_taps l))
    ∙ ap (λ (s : List ℕ). 0 ∷ 2 ∷ component_bytes LOCATION_TAG s ++ component_bytes BINDER_TAG (spell taps (written_taps l))) (location_whole l)

spelled_length : (l : Location) → length l.key ≡ 4 → length (spelled_content l) ≡ 43
spelled_length l key = omega (arith, key, length-append l.key (component_bytes BINDER_TAG (1 ∷ tap_bytes (written_tap l.module))))

-- what stands around the content of the one profile
abbrev around : List ℕ → ℕ → List ℕ → List ℕ
around kind tag content = four_bytes 4 ++ (kind ++ (four_bytes 1 ++ (four_bytes tag ++ (four_bytes (length content) ++ content))))

form_whole : (kind : List ℕ) (p : ProfileFields) → spell ior (record { kind = kind; profiles = p ∷ [] }) ≡ around kind (spelled_by p).0 (spelled_by p).1
unfolding spell
form_whole kind p = simp append-nil

grouped : (a k b t n p : List ℕ) → a ++ k ++ b ++ t ++ n ++ p ≡ a ++ (k ++ (b ++ (t ++ (n ++ p))))
grouped a k b t n p = simp append_assoc

spelling_whole : (kind : List ℕ) (l : Location) → spelling kind l ≡ around kind BIOP_TAG (spelled_content l)
spelling_whole kind l = grouped (four_bytes 4) kind (four_bytes 1) (four_bytes BIOP_TAG) (four_bytes (length (spelled_content l))) (spelled_content l)

spelling_is : (kind : List ℕ) (l : Location) → spell ior (written_form kind l) ≡ spelling kind l
spelling_is kind l = form_whole kind (Biop l (written_taps l)) ∙ ap (around kind BIOP_TAG) (content_is l) ∙ sym (spelling_whole kind l)

pub spelling_length : (kind : List ℕ) (l : Location) → length kind ≡ 4 → length l.key ≡ 4 → length (spelling kind l) ≡ 63
spelling_length kind l four key =
    let behind : List ℕ = four_bytes 1 ++ (four_bytes BIOP_TAG ++ (four_bytes (length (spelled_content l)) ++ spelled_content l)) in
    ap length (spelling_whole kind l) ∙ omega (arith, four, length-append kind behind, spelled_length l key)

-- the parts that are put are the spelling
pub put_is : (kind : List ℕ) (l : Location) → length l.key ≡ 4 → four_bytes 4 ++ (kind ++ (four_bytes 1 ++ (four_bytes BIOP_TAG ++ (four_bytes 43 ++ (0 ∷ 2 ∷ four_bytes LOCATION_TAG
    ++ (13 ∷ four_bytes l.carousel ++ (two_bytes l.module ++ (1 ∷ 0 ∷ 4 ∷ l.key ++ component_bytes BINDER_TAG (1 ∷ tap_bytes (written_tap l.module)))))))))) ≡ spelling kind l
put_is kind l key = sym (spelling_whole kind l ∙ rw (spelled_length l key, key) refl)

-- ---- the written form

location_fits : (l : Location) → length l.key ≡ 4 → IsLocation l → Fits location l
unfolding Fits
location_fits l key room = (room.carousel, (room.module_id, ((omega arith, refl), (omega (arith, key), refl))))

taps_fit : (l : Location) → Fits taps (written_taps l)
unfolding Fits
taps_fit l = (omega arith, (refl, ((omega arith, (omega arith, (omega arith, (omega arith, refl)))), tt)))

parts_fit : (l : Location) → length l.key ≡ 4 → Fits components ((LOCATION_TAG, spell location l) ∷ (BINDER_TAG, spell taps (written_taps l)) ∷ [])
unfolding Fits spell
parts_fit l key = ((omega arith, refl), (omega arith, (refl, ((omega arith, (omega (arith, key, ap length (location_whole l)), refl)), ((omega arith, (omega arith, refl)), tt)))))

biop_found : (l : Location) → length l.key ≡ 4 → IsLocation l → option_and_then biop_in (front_of components (written_content l)) ≡ Some (Biop l (written_taps l))
biop_found l key room =
    rw (
      front_spelled components ((LOCATION_TAG, spell location l) ∷ (BINDER_TAG, spell taps (written_taps l)) ∷ []) (parts_fit l key),
      front_spelled location l (location_fits l key room),
      front_spelled taps (written_taps l) (taps_fit l),
    )

profile_fits : (l : Location) → length l.key ≡ 4 → IsLocation l → Fits profile (Biop l (written_taps l))
unfolding Fits
profile_fits l key room =
    (omega arith, (omega (arith, ap length (content_is l), spelled_length l key), sym (ap (λ o. unwrap_or o (Other BIOP_TAG (written_content l))) (biop_found l key room))))

written_fits : (kind : List ℕ) (l : Location) → IsWritten (written_form kind l) l → IsLocation l → Fits ior (written_form kind l)
unfolding Fits
written_fits kind l form room = ((omega arith, refl), (form.four, (omega arith, ((refl, (profile_fits l form.key room, tt)), refl))))

pub written_reads : (kind : List ℕ) (l : Location) → IsWritten (written_form kind l) l → IsLocation l → Reads (spelling kind l) (written_form kind l)
written_reads kind l form room = subst (λ (s : List ℕ). Reads s (written_form kind l)) (spelling_is kind l) (fits_reads ior (written_form kind l) (written_fits kind l form room))

-- what is written is read at any place, whatever stands after it
pub written_again : (kind : List ℕ) (l : Location) → IsWritten (written_form kind l) l → IsLocation l → (place : ℕ) (rest : List ℕ) → ior_at (at place (spelling kind l ++ rest)) ≡ Ok (written_form kind l, at (place + 63) rest)
written_again kind l form room place rest =
    subst (λ (s : List ℕ). ior_at (at place (s ++ rest)) ≡ done (place + length s)) (spelling_is kind l) (spelled_again ior (written_form kind l) (written_fits kind l form room) place rest)
    ∙ ap (λ (n : ℕ). done (place + n)) (spelling_length kind l form.four form.key) where
      done : ℕ → Reading Fields
      done n = Ok (written_form kind l, at n rest)

-- and from the front, with the number of its bytes
pub written_front : (kind : List ℕ) (l : Location) → IsWritten (written_form kind l) l → IsLocation l → (bytes rest : List ℕ) → bytes ≡ spelling kind l ++ rest → read_from_start (ior_at (from_start bytes)) ≡ Ok (written_form kind l, length (spelling kind l))
written_front kind l form room bytes rest =
    subst (λ (s : List ℕ). bytes ≡ s ++ rest → read_from_start (ior_at (from_start bytes)) ≡ Ok (written_form kind l, length s)) (spelling_is kind l)
    (spelled_front ior (written_form kind l) (written_fits kind l form room) bytes rest)
