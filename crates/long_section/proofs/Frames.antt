-- Bytes that pass each test are a frame of the fields that stand in them, and a frame passes each test.
use Rattle.std.proofs.Common.{ℕ, zero, suc, ◌≡◌, ◌≢◌, ◌+◌, ◌-◌, ◌*◌, ◌/◌, ◌%◌, ◌<◌, ◌≤◌, List, [], ◌∷◌, ◌++◌, length, get_or, take, drop, refl, sym, ap, subst, ◌∙◌, arith, lit<, length-append, length-drop, take-append-drop}
use Rattle.std.proofs.Math.Seq.{drop-cons}
use Rattle.std.proofs.lemmas.List.{length-take-le, get_or-drop, take_at}
use Rattle.oc_bytes.specs.Numbers.{four_bytes, number_of, section_length}
use Rattle.section_crc.specs.Crc.{crc_of}
use Rattle.long_section.specs.Frames.{Fields, Fits, IsFrame, fields_of, prefix_with, length_of, spelling}
use Rattle.long_section.proofs.Checks.{its_own_crc}

abbrev pub AreBytes : List ℕ → Type 0
AreBytes bytes = (i : ℕ) → get_or bytes i 0 < 256

-- a list of at least this many elements, with the first ones written out
one_off : (xs : List ℕ) (i : ℕ) → i < length xs → drop i xs ≡ get_or xs i 0 ∷ drop (suc i) xs
one_off xs i h = drop-cons xs i 0 h

eight : (xs : List ℕ) → 8 ≤ length xs → xs ≡ get_or xs 0 0 ∷ get_or xs 1 0 ∷ get_or xs 2 0 ∷ get_or xs 3 0 ∷ get_or xs 4 0 ∷ get_or xs 5 0 ∷ get_or xs 6 0 ∷ get_or xs 7 0 ∷ drop 8 xs
eight xs h = one_off xs 0 (omega arith)
    ∙ ap (λ t. get_or xs 0 0 ∷ t) (one_off xs 1 (omega arith)
    ∙ ap (λ t. get_or xs 1 0 ∷ t) (one_off xs 2 (omega arith)
    ∙ ap (λ t. get_or xs 2 0 ∷ t) (one_off xs 3 (omega arith)
    ∙ ap (λ t. get_or xs 3 0 ∷ t) (one_off xs 4 (omega arith)
    ∙ ap (λ t. get_or xs 4 0 ∷ t) (one_off xs 5 (omega arith)
    ∙ ap (λ t. get_or xs 5 0 ∷ t) (one_off xs 6 (omega arith)
    ∙ ap (λ t. get_or xs 6 0 ∷ t) (one_off xs 7 (omega arith))))))))

same_four : (a b c d e f g h : ℕ) → a ≡ e → b ≡ f → c ≡ g → d ≡ h → ◌≡◌ {A = List ℕ} (a ∷ b ∷ c ∷ d ∷ []) (e ∷ f ∷ g ∷ h ∷ [])
same_four a b c d e f g h p q r s = cc

-- the four bytes of the number that four bytes spell
spelled_four : (a b c d : ℕ) → a < 256 → b < 256 → c < 256 → d < 256 → four_bytes (number_of (a ∷ b ∷ c ∷ d ∷ [])) ≡ a ∷ b ∷ c ∷ d ∷ []
spelled_four a b c d ha hb hc hd = same_four _ _ _ _ a b c d (omega arith) (omega arith) (omega arith) (omega arith)

spelled_list : (xs : List ℕ) → length xs ≡ 4 → ((i : ℕ) → get_or xs i 0 < 256) → xs ≡ four_bytes (number_of xs)
spelled_list (a ∷ b ∷ c ∷ d ∷ []) e small = sym (spelled_four a b c d (small 0) (small 1) (small 2) (small 3))
spelled_list _ e small = cc

second_byte : (b1 b2 n : ℕ) → b1 < 256 → b2 < 256 → 128 ≤ b1 → 12 ≤ n → n ≡ b1 % 16 * 256 + b2 + 3
    → 128 + 64 * (b1 / 64 % 2) + 16 * (b1 / 16 % 4) + (n - 12 + 9) / 256 ≡ b1
second_byte b1 b2 n h1 h2 syntax least counted = omega arith

third_byte : (b1 b2 n : ℕ) → b2 < 256 → 12 ≤ n → n ≡ b1 % 16 * 256 + b2 + 3 → (n - 12 + 9) % 256 ≡ b2
third_byte b1 b2 n h2 least counted = omega arith

sixth_byte : (b5 : ℕ) → b5 < 256 → b5 % 2 ≢ 0 → 64 * (b5 / 64) + 2 * (b5 / 2 % 32) + 1 ≡ b5
sixth_byte b5 h current = omega arith

-- what holds of bytes that pass each test
pub record Passes (most id : ℕ) (bytes : List ℕ) : Type 0 where
  pub least : 12 ≤ length bytes
  pub within : section_length bytes ≤ most
  pub counted : length bytes ≡ section_length bytes + 3
  pub table : get_or bytes 0 0 ≡ id
  pub syntax : 128 ≤ get_or bytes 1 0
  pub current : get_or bytes 5 0 % 2 ≢ 0
  pub right : crc_of bytes ≡ 0

-- table_id_extension
pair : (bytes : List ℕ) → 5 ≤ length bytes → number_of (take 2 (drop 3 bytes)) ≡ (0 + get_or bytes 3 0) * 256 + get_or bytes 4 0
pair bytes h =
    ap (λ xs. number_of (take 2 xs)) (one_off bytes 3 (omega arith) ∙ ap (λ t. get_or bytes 3 0 ∷ t) (one_off bytes 4 (omega arith)))

same_eight : (a0 a1 a2 a3 a4 a5 a6 a7 b0 b1 b2 b3 b4 b5 b6 b7 : ℕ) (xs ys : List ℕ) → a0 ≡ b0 → a1 ≡ b1 → a2 ≡ b2 → a3 ≡ b3 → a4 ≡ b4 → a5 ≡ b5 → a6 ≡ b6 → a7 ≡ b7 → xs ≡ ys
    → ◌≡◌ {A = List ℕ} (a0 ∷ a1 ∷ a2 ∷ a3 ∷ a4 ∷ a5 ∷ a6 ∷ a7 ∷ xs) (b0 ∷ b1 ∷ b2 ∷ b3 ∷ b4 ∷ b5 ∷ b6 ∷ b7 ∷ ys)
same_eight a0 a1 a2 a3 a4 a5 a6 a7 b0 b1 b2 b3 b4 b5 b6 b7 xs ys h0 h1 h2 h3 h4 h5 h6 h7 h = cc

-- the last four bytes are the CRC
ends : (bytes : List ℕ) → 12 ≤ length bytes → ((i : ℕ) → get_or bytes i 0 < 256)
    → drop 8 bytes ≡ take (length bytes - 12) (drop 8 bytes) ++ four_bytes (number_of (drop (length bytes - 12) (drop 8 bytes)))
ends bytes h small =
    let last = drop (length bytes - 12) (drop 8 bytes) in
    let e : length last ≡ 4 = simp (length-drop) (omega arith) in
    let below : (i : ℕ) → get_or last i 0 < 256 = λ i. simp (get_or-drop) (small _) in
    sym (take-append-drop (length bytes - 12) (drop 8 bytes))
    ∙ ap (λ xs. take (length bytes - 12) (drop 8 bytes) ++ xs) (spelled_list last e below)

high_byte : (a b : ℕ) → a < 256 → b < 256 → a ≡ ((0 + a) * 256 + b) / 256 % 256
high_byte a b h g = omega arith

low_byte : (a b : ℕ) → a < 256 → b < 256 → b ≡ ((0 + a) * 256 + b) % 256
low_byte a b h g = omega arith

its_length : (bytes : List ℕ) → 12 ≤ length bytes → length (take (length bytes - 12) (drop 8 bytes)) ≡ length bytes - 12
its_length bytes h = length-take-le (length bytes - 12) (drop 8 bytes) (simp length-drop (omega arith))

fits_within : (n s size most : ℕ) → 12 ≤ n → n ≡ s + 3 → s ≤ most → size ≡ n - 12 → size + 9 ≤ most
fits_within n s size most least counted within e = omega arith

pub is_frame : (most id : ℕ) (bytes : List ℕ) → Passes most id bytes → AreBytes bytes → IsFrame most id bytes (fields_of bytes)
is_frame most id bytes p small =
    let five : 5 ≤ length bytes = omega arith in
    let least : 8 ≤ length bytes = omega arith in
    let size = its_length bytes p.least in
    record {
      private = get_or bytes 1 0 / 64 % 2;
      reserved = get_or bytes 1 0 / 16 % 4;
      version_reserved = get_or bytes 5 0 / 64;
      crc = number_of (drop (length bytes - 12) (drop 8 bytes));
      bits = (omega arith, omega arith, omega (arith, small 5));
      fits = record {
        extension = omega (arith, pair bytes five, small 3, small 4);
        version = omega arith;
        number = small 6;
        last = small 7;
        body = fits_within (length bytes) (section_length bytes) _ most p.least p.counted p.within size;
      };
      whole = eight bytes least ∙ same_eight _ _ _ _ _ _ _ _ _ _ _ _ _ _ _ _ _ _
          p.table
          (sym (second_byte (get_or bytes 1 0) (get_or bytes 2 0) (length bytes) (small 1) (small 2) p.syntax p.least p.counted) ∙ ap (λ n. 128 + 64 * (get_or bytes 1 0 / 64 % 2) + 16 * (get_or bytes 1 0 / 16 % 4) + (n + 9) / 256) (sym size))
          (sym (third_byte (get_or bytes 1 0) (get_or bytes 2 0) (length bytes) (small 2) p.least p.counted) ∙ ap (λ n. (n + 9) % 256) (sym size))
          (high_byte _ _ (small 3) (small 4) ∙ ap (λ n. n / 256 % 256) (sym (pair bytes five)))
          (low_byte _ _ (small 3) (small 4) ∙ ap (λ n. n % 256) (sym (pair bytes five)))
          (sym (sixth_byte (get_or bytes 5 0) (small 5) p.current))
          refl refl (ends bytes p.least small);
      right = p.right;
    }

-- ---- from here on: what a frame says of its bytes

same_fields : (b c d e h i j k : ℕ) (f l : List ℕ) → b ≡ h → c ≡ i → d ≡ j → e ≡ k → f ≡ l
    → ◌≡◌ {A = Fields} (record { extension = b; version = c; number = d; last = e; body = f }) (record { extension = h; version = i; number = j; last = k; body = l })
same_fields b c d e h i j k f l p2 p3 p4 p5 p6 = cc

syntax_set : (p q n : ℕ) → 128 ≤ 128 + 64 * p + 16 * q + n / 256
syntax_set p q n = omega arith

odd : (v w : ℕ) → (64 * v + 2 * w + 1) % 2 ≡ 0 → ⊥
odd v w e = omega arith

written_length : (id p q v crc : ℕ) (f : Fields) → length (prefix_with id p q v f ++ four_bytes crc) ≡ length f.body + 12
written_length id p q v crc f = omega (arith, lit<, length-append f.body (four_bytes crc))

written_field : (id p q v crc : ℕ) (f : Fields) → p < 2 → q < 4 → length f.body ≤ 4084 → section_length (prefix_with id p q v f ++ four_bytes crc) ≡ length f.body + 9
written_field id p q v crc f hp hq room = omega arith

written_fields : (id p q v crc most : ℕ) (f : Fields) → v < 4 → Fits most f → fields_of (prefix_with id p q v f ++ four_bytes crc) ≡ f
written_fields id p q v crc most f hv fits = same_fields _ _ _ _ _ _ _ _ _ _ (omega (arith, fits.extension)) (omega (arith, fits.version)) refl refl
    (let e : length (prefix_with id p q v f ++ four_bytes crc) - 12 ≡ length f.body = omega (arith, written_length id p q v crc f) in
    ap (λ n. take n (f.body ++ four_bytes crc)) e ∙ take_at f.body (four_bytes crc) (length f.body) refl)

room_of : (most n : ℕ) → most ≤ 4093 → n + 9 ≤ most → n ≤ 4084
room_of most n le fits = omega arith

written_passes : (id p q v crc most : ℕ) (f : Fields) → most ≤ 4093 → p < 2 → q < 4 → v < 4 → Fits most f → crc_of (prefix_with id p q v f ++ four_bytes crc) ≡ 0
    → Passes most id (prefix_with id p q v f ++ four_bytes crc)
written_passes id p q v crc most f le hp hq hv fits right =
    let size = written_length id p q v crc f in
    let field = written_field id p q v crc f hp hq (room_of most (length f.body) le fits.body) in
    record {
      least = omega (arith, size);
      within = omega (arith, field, fits.body);
      counted = omega (arith, size, field);
      table = refl;
      syntax = syntax_set p q (length_of f);
      current = odd v f.version;
      right = right;
    }

pub frame_passes : (most id : ℕ) (bytes : List ℕ) (f : Fields) → most ≤ 4093 → IsFrame most id bytes f → Passes most id bytes
frame_passes most id bytes f le s =
    subst (Passes most id) (sym s.whole)
    (written_passes id s.private s.reserved s.version_reserved s.crc most f le s.bits.0 s.bits.1 s.bits.2 s.fits (subst (λ xs. crc_of xs ≡ 0) s.whole s.right))

pub frame_fields : (most id : ℕ) (bytes : List ℕ) (f : Fields) → IsFrame most id bytes f → fields_of bytes ≡ f
frame_fields most id bytes f s = ap fields_of s.whole ∙ written_fields id s.private s.reserved s.version_reserved s.crc most f s.bits.2 s.fits

pub spelling_is_frame : (most id : ℕ) (f : Fields) → Fits most f → IsFrame most id (spelling id f) f
spelling_is_frame most id f fits = record {
  private = 0;
  reserved = 3;
  version_reserved = 3;
  crc = crc_of (prefix_with id 0 3 3 f);
  bits = (omega arith, omega arith, omega arith);
  fits = fits;
  whole = refl;
  right = its_own_crc (prefix_with id 0 3 3 f);
}

pub spelling_size : (id : ℕ) (f : Fields) → length (spelling id f) ≡ length f.body + 12
spelling_size id f = written_length id 0 3 3 (crc_of (prefix_with id 0 3 3 f)) f

-- ---- the body's bytes are bytes

taken_bytes : (n : ℕ) (xs : List ℕ) → AreBytes xs → AreBytes (take n xs)
taken_bytes zero xs all i = lit< tt
taken_bytes (suc n) [] all i = lit< tt
taken_bytes (suc n) (x ∷ xs) all zero = all 0
taken_bytes (suc n) (x ∷ xs) all (suc i) = taken_bytes n xs (λ k. all (suc k)) i

pub body_bytes : (bytes : List ℕ) → AreBytes bytes → AreBytes (fields_of bytes).body
body_bytes bytes small = taken_bytes (length bytes - 12) (drop 8 bytes) (λ i. simp get_or-drop (small (8 + i)))
