-- The relation of messages and blocks, and their reading.
use Rattle.std.proofs.Common.{ℕ, ◌≡◌, ◌+◌, ◌-◌, ◌≤◌, ◌<◌, true, leb, ◌&&◌, List, [], ◌∷◌, ◌++◌, length, take, drop, get_or, Ok, Err, refl, sym, ap, subst, ◌∙◌, arith, lit<, length-append, take-append-drop, append_assoc, length-take-le, append-nil, zero-add}
use Rattle.std.specs.Prelude.{Result}
use Rattle.std.proofs.lemmas.Bool.{le-leb, leb-true, eqb-true, eq-eqb, and_from, and_parts}
use Rattle.std.proofs.lemmas.List.{take_at}
use Rattle.std.proofs.lemmas.List.Elements.{All-take}
use Rattle.ddb_block.specs.declared.TheConstants.{MOST_BLOCK_SIZE}
use Rattle.oc_bytes.specs.Numbers.{IsBytes, two_bytes, four_bytes}
use Rattle.oc_bytes.specs.Cursor.{Cursor, Reading, from_start, number_at, bytes_at, value_only}
use Rattle.oc_bytes.specs.Agreement.{at}
use Rattle.oc_bytes.specs.Grammar.{read as read_by, Reads as ReadsBy, spell, Fits as FitsBy}
use Rattle.oc_bytes.proofs.CallerLemmas.{bind_ok, bytes_fit, each_fits, fits_back, fits_taken, held_ok, wide_2, number_agrees, bytes_agrees, grammar_agrees, fits_reads, spelled_again, joined, last}
use Rattle.ddb_block.specs.Message.{IsMessage, Opening, opening, message, prefix_of, message_at}
use Rattle.ddb_block.specs.Blocks.{Block, block_fields, fields_of, Fits, Reads, read, block_at, spelling}

-- numbers below 256
abbrev pub AreBytes : List ℕ → Type 0
AreBytes xs = (i : ℕ) → get_or xs i 0 < 256

same_value : {A : Type 0} {a b : A} → ◌≡◌ {A = Result A ℕ} (Ok a) (Ok b) → a ≡ b
same_value {a = a} {b = b} e = cc

-- ---- a message

abbrev opening_bytes : ℕ → Opening → List ℕ
opening_bytes id o = (0x11 ∷ 0x03 ∷ []) ++ two_bytes id ++ four_bytes o.transaction ++ (o.reserved ∷ o.adaptation_length ∷ [])

-- the bytes of an opening, and its numbers have room in their fields
record IsOpened (id : ℕ) (s : List ℕ) (o : Opening) : Type 0 where
  ranges : (id < 65536) × (o.transaction < 4294967296) × (o.reserved < 256) × (o.adaptation_length < 256)
  whole : s ≡ opening_bytes id o

opened : (id : ℕ) (s : List ℕ) (o : Opening) → ReadsBy (opening id) s o → IsOpened id s o
unfolding ReadsBy
opened id s o a =
    let b = a.second in
    let c = b.second in
    let d = c.second in
    let e = d.second in
    let f = e.second in
    let protocol : a.front ≡ 0x11 ∷ [] = a.first.0.1 ∙ ap (λ (n : ℕ). n ∷ []) (eqb-true a.value 0x11 a.first.1) in
    let kind : b.front ≡ 0x03 ∷ [] = b.first.0.1 ∙ ap (λ (n : ℕ). n ∷ []) (eqb-true b.value 0x03 b.first.1) in
    let same : c.value ≡ id = eqb-true c.value id c.first.1 in
    let whole : s ≡ (0x11 ∷ []) ++ ((0x03 ∷ []) ++ (two_bytes id ++ (four_bytes d.value ++ ((e.value ∷ []) ++ (f.value ∷ []))))) =
    joined a.whole protocol (joined b.whole kind (joined c.whole (c.first.0.1 ∙ ap two_bytes same) (joined d.whole d.first.1 (joined e.whole e.first.1 (last f.whole f.first.1 f.second.0))))) in
    subst (λ (x : Opening). IsOpened id s x) (sym f.second.1) (record { ranges = (subst (λ (n : ℕ). n < 65536) same c.first.0.0, d.first.0, e.first.0, f.first.0); whole = whole })

from_fields : (id : ℕ) (o : Opening) (size : ℕ) (adaptation body : List ℕ) (c0 c1 c2 c3 : Cursor) → read_by (opening id) c0 ≡ Ok (o, c1) → number_at 2 c1 ≡ Ok (size, c2)
    → (leb o.adaptation_length size && leb size (length c2.rest)) ≡ true → bytes_at o.adaptation_length c2 ≡ Ok (adaptation, c3) → take (size - o.adaptation_length) c3.rest ≡ body
    → message_at id c0 ≡ Ok (o.transaction, at c3.place body)
unfolding message_at
from_fields id o size adaptation body c0 c1 c2 c3 e1 e2 e3 e4 e5 = rw (e1, e2, e3, e4, e5) refl

pub message_is_read : (bytes : List ℕ) (id t : ℕ) (body : List ℕ) → (m : IsMessage bytes id t body) → message_at id (from_start bytes) ≡ Ok (t, record { place = 12 + length m.adaptation; rest = body })
unfolding spell FitsBy
message_is_read bytes id t body m =
    let o : Opening = record { transaction = t; reserved = m.reserved; adaptation_length = length m.adaptation } in
    let size = length m.adaptation + length body in
    let behind = body ++ m.trailing in
    let rest = two_bytes size ++ (m.adaptation ++ behind) in
    let whole : bytes ≡ spell (opening id) o ++ rest = m.whole ∙ ap (λ xs. spell (opening id) o ++ two_bytes size ++ xs) (append_assoc m.adaptation body m.trailing) in
    let fits : FitsBy (opening id) o = ((lit< tt, refl), ((lit< tt, refl), ((m.ranges.0, eq-eqb id id refl), (m.ranges.1, (m.ranges.2, (m.ranges.3, refl)))))) in
    let shorter : length m.adaptation ≤ size = omega arith in
    let inside : size ≤ length (m.adaptation ++ behind) = omega (arith, length-append m.adaptation behind, length-append body m.trailing) in
    let left : size - length m.adaptation ≡ length body = omega arith in
    ap (λ bs. message_at id (from_start bs)) whole
    ∙ from_fields id o size m.adaptation body (at 0 (spell (opening id) o ++ rest)) (at 10 rest) (at 12 (m.adaptation ++ behind)) (at (12 + length m.adaptation) behind)
    (spelled_again (opening id) o fits 0 rest)
    ((number_agrees wide_2).again (two_bytes size) (m.adaptation ++ behind) 10 size (m.ranges.4, refl))
    (and_from _ _ (le-leb _ _ shorter) (le-leb _ _ inside))
    ((bytes_agrees (length m.adaptation)).again m.adaptation behind 12 m.adaptation (refl, refl))
    (rw (left, take_at body m.trailing (length body) refl) refl)

-- a message from its parts, of which the lengths fit
message_of : (bytes s : List ℕ) (id : ℕ) (o : Opening) (size : ℕ) (adaptation behind : List ℕ) → IsOpened id s o → size < 65536 → length adaptation ≡ o.adaptation_length → o.adaptation_length ≤ size
    → size ≤ length (adaptation ++ behind) → bytes ≡ opening_bytes id o ++ (two_bytes size ++ (adaptation ++ behind)) → IsMessage bytes id o.transaction (take (size - o.adaptation_length) behind)
message_of bytes s id o size adaptation behind opened small long shorter inside whole =
    let left = size - o.adaptation_length in
    let body : length (take left behind) ≡ left = length-take-le left behind (omega (arith, length-append adaptation behind)) in
    let both : length adaptation + length (take left behind) ≡ size = omega (arith, body) in
    record {
      adaptation = adaptation;
      trailing = drop left behind;
      reserved = o.reserved;
      ranges = (opened.ranges.0, opened.ranges.1, opened.ranges.2, omega (arith, opened.ranges.3), omega (arith, both));
      whole = rw (both, long, append_assoc adaptation (take left behind) (drop left behind), take-append-drop left behind) whole;
    }

pub read_is_message : (bytes : List ℕ) (id : ℕ) (x : ℕ × Cursor) → AreBytes bytes → id < 65536 → message_at id (from_start bytes) ≡ Ok x → IsMessage bytes id x.0 x.1.rest × AreBytes x.1.rest
unfolding message_at
read_is_message bytes id x small hid e =
    let read_o = bind_ok _ _ _ e in
    let read_size = bind_ok _ _ _ read_o.2 in
    let read_test = bind_ok _ _ _ read_size.2 in
    let read_adaptation = bind_ok _ _ _ read_test.2 in
    let o = read_o.0 in
    let size = read_size.0 in
    let tested = held_ok (leb o.0.adaptation_length size.0 && leb size.0 (length size.1.rest)) o.1.place size read_test.0 read_test.1 in
    let test = and_parts _ _ tested.0 in
    let all : IsBytes bytes = bytes_fit bytes small in
    let a = (grammar_agrees (opening id)).takes (from_start bytes) o all read_o.1 in
    let a_fits = fits_taken (ReadsBy (opening id)) (from_start bytes) o a all in
    let is = opened id a.front o.0 a.reads in
    let b = (number_agrees wide_2).takes o.1 size a_fits read_size.1 in
    let b_fits : IsBytes size.1.rest = fits_back b.front size.1.rest (subst IsBytes b.parts a_fits) in
    let adaptation = read_adaptation.0 in
    let c = (bytes_agrees o.0.adaptation_length).takes size.1 adaptation b_fits (subst (λ (f : ℕ × Cursor). bytes_at o.0.adaptation_length f.1 ≡ Ok adaptation) (sym tested.1) read_adaptation.1) in
    let c_fits : IsBytes adaptation.1.rest = fits_back c.front adaptation.1.rest (subst IsBytes c.parts b_fits) in
    let parts = joined c.parts c.reads.1 refl in
    let inside : size.0 ≤ length (adaptation.0 ++ adaptation.1.rest) = omega (arith, leb-true _ _ test.1, ap length parts) in
    let found = message_of bytes a.front id o.0 size.0 adaptation.0 adaptation.1.rest is b.reads.0 c.reads.0 (leb-true _ _ test.0) inside (joined a.parts is.whole (joined b.parts b.reads.1 parts)) in
    subst (λ (p : ℕ × Cursor). IsMessage bytes id p.0 p.1.rest × AreBytes p.1.rest) (same_value read_adaptation.2) (found, each_fits _ (All-take (λ n. n < 256) (size.0 - o.0.adaptation_length) adaptation.1.rest c_fits))

pub spelling_is_message : (id t : ℕ) (body : List ℕ) → id < 65536 → t < 4294967296 → length body < 65536 → IsMessage (message id t body) id t body
spelling_is_message id t body hid ht hsize = record {
  adaptation = [];
  trailing = [];
  reserved = 0xFF;
  ranges = (hid, ht, lit< tt, lit< tt, omega arith);
  whole = ap (λ n. prefix_of id t n ++ body) (sym (zero-add (length body))) ∙ ap (λ xs. prefix_of id t (0 + length body) ++ xs) (sym (append-nil body));
}

-- ---- a block

block_of : (download : ℕ) → ℕ × ℕ × ℕ → List ℕ → Block
block_of download f bytes = record { download = download; module_id = f.0; version = f.1; number = f.2; bytes = bytes }

pub block_is_read : (payload : List ℕ) (b : Block) → Reads payload b → read payload ≡ Ok b
unfolding block_at
block_is_read payload b r =
    let p = 12 + length r.message.adaptation in
    rw (message_is_read payload 0x1003 b.download (r.front ++ b.bytes) r.message, (grammar_agrees block_fields).again r.front b.bytes p (fields_of b) r.fields) refl

its_value : {A : Type 0} (r : Reading A) (x : A) → value_only r ≡ Ok x → (c : Cursor) × (r ≡ Ok (x, c))
its_value (Ok y) x e = (y.1, ap (λ z. Ok (z, y.1)) (same_value e))
its_value (Err p) x e = cc

pub read_is_block : (payload : List ℕ) (b : Block) → AreBytes payload → read payload ≡ Ok b → Reads payload b
unfolding block_at block_of
read_is_block payload b small e =
    let v = its_value _ b e in
    let m = bind_ok _ _ _ v.1 in
    let f = bind_ok _ _ _ m.2 in
    let found = read_is_message payload 0x1003 m.0 small (lit< tt) m.1 in
    let t = (grammar_agrees block_fields).takes m.0.1 f.0 (bytes_fit m.0.1.rest found.1) f.1 in
    let is : block_of m.0.0 f.0.0 f.0.1.rest ≡ b = ap (λ (p : Block × Cursor). p.0) (same_value f.2) in
    subst (λ (x : Block). Reads payload x) is (record { front = t.front; fields = t.reads; message = subst (λ l. IsMessage payload 0x1003 m.0.0 l) t.parts found.0 })

pub spelling_reads : (b : Block) → Fits b → length b.bytes ≤ MOST_BLOCK_SIZE → Reads (spelling b) b
unfolding FitsBy spell
spelling_reads b f h = record {
  front = two_bytes b.module_id ++ (b.version ∷ 0xFF ∷ []) ++ two_bytes b.number;
  fields = fits_reads block_fields (fields_of b) (f.module_id, (f.version, (lit< tt, (f.number, refl))));
  message = spelling_is_message 0x1003 b.download (two_bytes b.module_id ++ (b.version ∷ 0xFF ∷ []) ++ two_bytes b.number ++ b.bytes) (lit< tt) f.download (omega arith);
}

pub spelled_reads : (bytes : List ℕ) (b : Block) → bytes ≡ spelling b → Fits b → length b.bytes ≤ MOST_BLOCK_SIZE → Reads bytes b
spelled_reads bytes b e fits short = rw e (spelling_reads b fits short)

pub spelling_length : (b : Block) → length (spelling b) ≡ length b.bytes + 18
spelling_length b = omega arith
