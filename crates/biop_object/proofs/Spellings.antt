-- What is written is read as what it was written for.
use Rattle.std.proofs.Common.{◌≡◌, ℕ, ◌+◌, ◌-◌, ◌*◌, ◌<◌, ◌≤◌, List, [], ◌∷◌, ◌++◌, length, map, None, refl, sym, ap, subst, ◌∙◌, append_assoc, arith, true, false}
use Rattle.std.specs.List.{All, flat_map, sum_by}
use Rattle.std.proofs.lemmas.List.{append-nil, length-append, length-map, take_at, drop_at}
use Rattle.std.proofs.lemmas.List.Elements.{All-head, All-tail}
use Rattle.std.proofs.lemmas.List.Sums.{sum_by-cons}
use Rattle.oc_bytes.specs.Numbers.{two_bytes, four_bytes, eight_bytes}
use Rattle.oc_bytes.specs.Grammar.{Grammar, Reads, in_bytes, four, eight, enclosed}
use Rattle.oc_bytes.specs.Agreement.{ReadsEach, Then}
use Rattle.oc_bytes.proofs.CallerLemmas.{put}
use Rattle.ior_tap.specs.declared.Location.{Location}
use Rattle.ior_tap.specs.Iors as iors
use Rattle.ior_tap.proofs.CallerLemmas.{written_reads, spelling_length}
use Rattle.biop_object.specs.declared.written.TheConstants.{MESSAGE_HEAD}
use Rattle.biop_object.specs.declared.written.Written.{Written}
use Rattle.biop_object.specs.declared.written.Bound.{Bound}
use Rattle.biop_object.specs.declared.written.Bound.TheVariants as bounds
use Rattle.biop_object.specs.declared.written.FolderKind.{FolderKind}
use Rattle.biop_object.specs.declared.written.FolderKind.TheVariants.{Directory, Gateway}
use Rattle.biop_object.specs.declared.reading.TheConstants.{HEAD, FILE, DIRECTORY}
use Rattle.biop_object.specs.Objects.{BindingFields, Shape, IsFile, IsFolder, Object, ReadsObject, ReadsModule, drop_zero, binding, shape, heading, message, biop, file_spelling, kind_of, binding_spelling, folder_spelling, binding_of, bound_size, binding_size, folder_size, IsEntry, shape_by}
use Rattle.biop_object.specs.Inner.Objects.{biop_prefix}
use Rattle.biop_object.specs.ObjectReading.{index_of}
use Rattle.biop_object.specs.Spelled.{Spelled, AFile, AFolder, spelled_bytes, spelled_object, spelled_objects, IsSpellableEntry, IsSpellable}
use Rattle.biop_object.proofs.ModuleLaws.{only_one}

-- ---- a message

-- a part that ends the whole
put_end : {A B : Type 0} {R : List ℕ → A → Type 0} {S : A → List ℕ → B → Type 0} {b : B} (a : A) (front : List ℕ) → R front a → S a [] b → Then R S front b
put_end a front first second = record { value = a; front = front; back = []; whole = sym (append-nil front); first = first; second = second }

-- a part with its length before it
enclosed_reads : {A : Type 0} (g : Grammar A) (s : List ℕ) (a : A) → length s < 4294967296 → Reads g s a → Reads (enclosed four g) (four_bytes (length s) ++ s) a
unfolding Reads
enclosed_reads g s a small reads = put (length s) (four_bytes (length s)) s (small, refl) (record { size = refl; front = s; trailing = []; whole = sym (append-nil s); reads = reads })

-- what stands before the body's length, and the whole after the message's size
abbrev heading_of : (key kind info : List ℕ) → List ℕ
heading_of key kind info = (length key ∷ key) ++ ((four_bytes (length kind) ++ kind) ++ ((two_bytes (length info) ++ info) ++ 0 ∷ []))

abbrev rest_of : (key kind info body : List ℕ) → List ℕ
rest_of key kind info body = (length key ∷ key) ++ four_bytes (length kind) ++ kind ++ two_bytes (length info) ++ info ++ (0 ∷ four_bytes (length body)) ++ body

regroup_rest : (p a k b i z n y : List ℕ) → p ++ a ++ k ++ b ++ i ++ (z ++ n) ++ y ≡ (p ++ ((a ++ k) ++ ((b ++ i) ++ z))) ++ (n ++ y)
regroup_rest p a k b i z n y = simp append_assoc

rest_length : (key kind info body : List ℕ) → length (rest_of key kind info body) ≡ 12 + length key + length kind + length info + length body
rest_length key kind info body = simp length-append (omega arith)

heading_reads : (key kind info : List ℕ) → length key < 256 → length kind < 65536 → length info < 65536 → Reads heading (heading_of key kind info) (record { key = key; kind = kind })
unfolding Reads
heading_reads key kind info k n i =
    put key (length key ∷ key) _ (k, refl) (put kind (four_bytes (length kind) ++ kind) _ (omega (arith, n), refl) (put info (two_bytes (length info) ++ info) (0 ∷ []) (i, refl)
    (put_end tt (0 ∷ []) (put_end [] (0 ∷ []) (put_end 0 (0 ∷ []) ((omega arith, refl)) (record { count = refl; each = refl })) (refl, refl)) (refl, refl))))

-- a message without service contexts, of which all of the body is read
biop_reads : (place : ℕ) (key kind info body : List ℕ) (said : Shape) → length key < 256 → length kind < 65536 → length info < 65536 → length body < 2147483648
    → Reads (shape kind (place + 24 + length key + length kind + length info)) body said → ReadsObject place (biop key kind info body) (record { key = key; shape = said })
unfolding Reads
biop_reads place key kind info body said k n i b reads =
    let o : Object = record { key = key; shape = said } in
    let n_front : ℕ = length (heading_of key kind info) in
    let there : place + 24 + length key + length kind + length info ≡ place + MESSAGE_HEAD + n_front + 4 = simp length-append (omega arith) in
    let inner : Reads (message (place + MESSAGE_HEAD)) (heading_of key kind info ++ (four_bytes (length body) ++ body)) o =
    put (record { key = key; kind = kind }, n_front) (heading_of key kind info) _ (heading_reads key kind info k n i, refl) (put_end said (four_bytes (length body) ++ body)
    (enclosed_reads (shape kind (place + MESSAGE_HEAD + n_front + 4)) body said (omega (arith, b)) (subst (λ (q : ℕ). Reads (shape kind q) body said) there reads)) (refl, refl)) in
    let whole = regroup_rest (length key ∷ key) (four_bytes (length kind)) kind (two_bytes (length info)) info (0 ∷ []) (four_bytes (length body)) body in
    put HEAD (in_bytes eight HEAD) _ ((omega arith, refl), refl)
    (enclosed_reads (message (place + MESSAGE_HEAD)) (rest_of key kind info body) o (omega (arith, rest_length key kind info body)) (subst (λ (s : List ℕ). Reads (message (place + MESSAGE_HEAD)) s o) (sym whole) inner))

-- the bytes before the body, written with the sizes as numbers
front_is : (key kind info body : List ℕ) (n : ℕ) → length key ≡ 4 → length kind ≡ 4 → n ≡ length body → biop_prefix key kind info n ++ body ≡ biop key kind info body
front_is key kind info body n k four_of is =
    let size : 20 + length info + n ≡ length (rest_of key kind info body) = omega (arith, rest_length key kind info body) in
    whole_is size k four_of is where
      whole : (s a b n : ℕ) → List ℕ
      whole s a b n = (66 ∷ 73 ∷ 79 ∷ 80 ∷ 1 ∷ 0 ∷ 0 ∷ 0 ∷ []) ++ four_bytes s ++ (a ∷ key) ++ four_bytes b ++ kind ++ two_bytes (length info) ++ info ++ (0 ∷ four_bytes n) ++ body

      whole_is : {s t a b n m : ℕ} → s ≡ t → a ≡ 4 → b ≡ 4 → n ≡ m → whole s 4 4 n ≡ whole t a b m
      whole_is p q r s = cc

-- ---- a file

pub file_reads : (place : ℕ) (key content : List ℕ) → length key ≡ 4 → length content ≤ 16777216 → ReadsObject place (file_spelling key content) (record { key = key; shape = IsFile (place + 44) (length content) })
unfolding Reads
file_reads place key content k small =
    let there : place + 24 + length key + 4 + 8 + 4 ≡ place + 44 = omega (arith, k) in
    biop_reads place key FILE (eight_bytes (length content)) (four_bytes (length content) ++ content) (IsFile (place + 44) (length content)) (omega (arith, k)) (omega arith) (omega arith) (omega (arith, small))
    (put_end content (four_bytes (length content) ++ content) (omega (arith, small), refl) (refl, ap (λ (q : ℕ). IsFile q (length content)) (sym there)))

-- ---- a binding

abbrev entry : List ℕ → Bound → Location → Written
entry name b l = record { name = name; bound = b; location = l }

-- the id of a name with a zero after it
zero_cut : (name : List ℕ) → drop_zero (name ++ 0 ∷ []) ≡ name
zero_cut name =
    let n : length (name ++ 0 ∷ []) - 1 ≡ length name = omega (arith, length-append name (0 ∷ [])) in
    rw (n, drop_at name (0 ∷ []) (length name) refl, take_at name (0 ∷ []) (length name) refl) refl

regroup_binding : (a z k t f i : List ℕ) → a ++ (z ++ k) ++ (t ++ f ++ i) ≡ (a ++ z) ++ (k ++ (t ++ (f ++ i)))
regroup_binding a z k t f i = simp append_assoc

-- a binding of this kind: type, reference, and objectInfo with its length
bound_reads : (w : Written) (kind info : List ℕ) (t : ℕ) → IsSpellableEntry w → length kind ≡ 4 → t < 256 → length info ≤ 8
    → Reads binding ((1 ∷ (length w.name + 1) ∷ w.name) ++ (0 ∷ 4 ∷ kind) ++ ((t ∷ iors.spelling kind w.location) ++ two_bytes (length info) ++ info)) (record { name = w.name; kind = kind; target = iors.written_form kind w.location })
unfolding Reads
bound_reads w kind info t e four_of small i =
    let id : List ℕ = w.name ++ 0 ∷ [] in
    let reference : List ℕ = iors.spelling kind w.location in
    let id_length : length id ≡ length w.name + 1 = length-append w.name (0 ∷ []) in
    let whole = regroup_binding (1 ∷ (length w.name + 1) ∷ w.name) (0 ∷ []) (4 ∷ kind) (t ∷ reference) (two_bytes (length info)) info in
    let form : iors.IsWritten (iors.written_form kind w.location) w.location = record { form = refl; four = four_of; key = e.location.0; listed = e.listed } in
    let target = written_reads kind w.location form (record { carousel = e.location.1; module_id = omega (arith, e.listed.1) }) in
    subst (λ (s : List ℕ). Reads binding s (named w.name)) (sym whole)
    (put 1 (1 ∷ []) _ ((omega arith, refl), refl) (put id ((length w.name + 1) ∷ id) _ (omega (arith, id_length, e.name.1), ap (λ (n : ℕ). n ∷ id) (sym id_length))
    (put kind (4 ∷ kind) _ (omega (arith, four_of), ap (λ (n : ℕ). n ∷ kind) (sym four_of)) (put t (t ∷ []) _ (small, refl) (put (iors.written_form kind w.location) reference _ target
    (put_end info (two_bytes (length info) ++ info) (omega (arith, i), refl) (refl, ap (λ (x : List ℕ). named x) (sym (zero_cut w.name))))))))) where
      named : List ℕ → BindingFields
      named x = record { name = x; kind = kind; target = iors.written_form kind w.location }

binding_reads : (name : List ℕ) (b : Bound) (l : Location) → IsSpellableEntry (entry name b l) → Reads binding (binding_spelling (entry name b l)) (binding_of (entry name b l))
binding_reads name (bounds.File size) l e = bound_reads (entry name (bounds.File size) l) FILE (eight_bytes size) 1 e refl (omega arith) (omega arith)
binding_reads name bounds.Folder l e =
    subst (λ (tail : List ℕ). Reads binding ((1 ∷ (length name + 1) ∷ name) ++ (0 ∷ 4 ∷ DIRECTORY) ++ tail) (binding_of (entry name bounds.Folder l)))
    (append-nil ((2 ∷ iors.spelling DIRECTORY l) ++ two_bytes 0)) (bound_reads (entry name bounds.Folder l) DIRECTORY [] 2 e refl (omega arith) (omega arith))

bound_length : (name kind ref info : List ℕ) → length ((1 ∷ (length name + 1) ∷ name) ++ (0 ∷ 4 ∷ kind) ++ (ref ++ info)) ≡ 4 + length name + length kind + length ref + length info
bound_length name kind ref info = simp length-append (omega arith)

binding_length : (name : List ℕ) (b : Bound) (l : Location) → length l.key ≡ 4 → length (binding_spelling (entry name b l)) ≡ length name + bound_size b
binding_length name (bounds.File size) l key =
    omega (arith, bound_length name FILE ((1 ∷ iors.spelling FILE l) ++ two_bytes 8) (eight_bytes size), length-append (1 ∷ iors.spelling FILE l) (two_bytes 8), spelling_length FILE l refl key)
binding_length name bounds.Folder l key = omega (arith, bound_length name DIRECTORY (2 ∷ iors.spelling DIRECTORY l) (two_bytes 0), spelling_length DIRECTORY l refl key)

-- a binding as it is put, part by part
pub file_parts : (o p z k t f i : List ℕ) → o ++ p ++ z ++ k ++ t ++ f ++ i ≡ o ++ (p ++ (z ++ k) ++ (t ++ f ++ i))
file_parts o p z k t f i = simp append_assoc

pub folder_parts : (o p z k t f : List ℕ) → o ++ p ++ z ++ k ++ t ++ f ≡ o ++ (p ++ (z ++ k) ++ (t ++ f))
folder_parts o p z k t f = simp append_assoc

-- ---- a folder

folder_kind : (kind : FolderKind) (place : ℕ) → (length (kind_of kind) ≡ 4) × (shape (kind_of kind) place ≡ shape_by false true place)
folder_kind Directory place = (refl, refl)
folder_kind Gateway place = (refl, refl)

abbrev lines_of : List Written → List ℕ
lines_of entries = flat_map binding_spelling entries

abbrev body_of : List Written → List ℕ
body_of entries = two_bytes (length entries) ++ lines_of entries

lines_length : (entries : List Written) → All IsEntry entries → length (lines_of entries) ≡ sum_by binding_size entries
lines_length [] all = refl
lines_length (w ∷ ws) all =
    let first = binding_length w.name w.bound w.location (All-head IsEntry w ws all).key in
    omega (arith, first, lines_length ws (All-tail IsEntry w ws all), length-append (binding_spelling w) (lines_of ws), sum_by-cons binding_size w ws)

pub folder_length : (kind : FolderKind) (key : List ℕ) (entries : List Written) → length key ≡ 4 → All IsEntry entries → length (folder_spelling kind key entries) ≡ folder_size entries
folder_length kind key entries k all = omega (arith, k, (folder_kind kind 0).0, rest_length key (kind_of kind) [] (body_of entries), lines_length entries all)

-- each binding takes bytes, so a small folder has few
pub few_entries : (entries : List Written) → 74 * length entries ≤ sum_by binding_size entries
few_entries [] = omega arith
few_entries (w ∷ ws) = omega (arith, few_entries ws, at_least w.bound, sum_by-cons binding_size w ws) where
  at_least : (b : Bound) → 74 ≤ bound_size b
  at_least (bounds.File size) = omega arith
  at_least bounds.Folder = omega arith

lines_read : (entries : List Written) → All IsSpellableEntry entries → ReadsEach (Reads binding) (lines_of entries) (map binding_of entries)
lines_read [] all = refl
lines_read (w ∷ ws) all = (binding_spelling w, lines_of ws, refl, binding_reads w.name w.bound w.location (All-head IsSpellableEntry w ws all), lines_read ws (All-tail IsSpellableEntry w ws all))

folder_body : (entries : List Written) → All IsSpellableEntry entries → length entries < 65536 → Reads (shape_by false true 0) (body_of entries) (IsFolder (map binding_of entries))
unfolding Reads
folder_body entries all few =
    put (length entries) (two_bytes (length entries)) (lines_of entries) (few, refl) (put_end (map binding_of entries) (lines_of entries) (record { count = length-map entries binding_of; each = lines_read entries all }) (refl, refl))

are_entries : (entries : List Written) → All IsSpellableEntry entries → All IsEntry entries
are_entries entries all i w lt = record { name = (all i w lt).name; key = (all i w lt).location.0; listed = (all i w lt).listed }

spellable_reads : (place : ℕ) (kind : FolderKind) (key : List ℕ) (entries : List Written) → length key ≡ 4 → All IsSpellableEntry entries → folder_size entries ≤ 1048576
    → ReadsObject place (folder_spelling kind key entries) (record { key = key; shape = IsFolder (map binding_of entries) })
spellable_reads place kind key entries k all small =
    let o : Shape = IsFolder (map binding_of entries) in
    let there : ℕ = place + 24 + length key + length (kind_of kind) + 0 in
    let four_of = (folder_kind kind there).0 in
    let body = subst (λ (g : Grammar Shape). Reads g (body_of entries) o) (sym (folder_kind kind there).1) (folder_body entries all (omega (arith, few_entries entries, small))) in
    biop_reads place key (kind_of kind) [] (body_of entries) o (omega (arith, k)) (omega (arith, four_of)) (omega arith) (omega (arith, small, lines_length entries (are_entries entries all))) body

spellable_entries : (entries : List Written) → All IsEntry entries → All (λ w. w.location.carousel < 4294967296) entries → All IsSpellableEntry entries
spellable_entries entries all room i w lt = record { name = (all i w lt).name; location = ((all i w lt).key, room i w lt); listed = (all i w lt).listed }

pub folder_reads : (place : ℕ) (kind : FolderKind) (key : List ℕ) (entries : List Written) → length key ≡ 4 → All IsEntry entries → All (λ w. iors.IsLocation w.location) entries → folder_size entries ≤ 1048576
    → ReadsObject place (folder_spelling kind key entries) (record { key = key; shape = IsFolder (map binding_of entries) })
folder_reads place kind key entries k all room small = spellable_reads place kind key entries k (spellable_entries entries all (λ i w lt. (room i w lt).carousel)) small

-- a folder that isn't too large has few entries
pub folder_spellable : (kind : FolderKind) (key : List ℕ) (entries : List Written) → length key ≡ 4 → All IsEntry entries → All (λ w. w.location.carousel < 4294967296) entries
    → length (folder_spelling kind key entries) ≤ 1048576 → IsSpellable (AFolder kind key entries)
folder_spellable kind key entries k all room small =
    (k, omega (arith, few_entries entries, folder_length kind key entries k all, small), small, spellable_entries entries all room)

pub folder_is : (kind : FolderKind) (key : List ℕ) (entries : List Written) (size : ℕ) → length key ≡ 4 → All IsEntry entries → size ≡ folder_size entries
    → biop_prefix key (kind_of kind) [] (size - MESSAGE_HEAD - 20) ++ two_bytes (length entries) ++ lines_of entries ≡ folder_spelling kind key entries
folder_is kind key entries size k all is =
    append_assoc (biop_prefix key (kind_of kind) [] (size - MESSAGE_HEAD - 20)) (two_bytes (length entries)) (lines_of entries)
    ∙ front_is key (kind_of kind) [] (body_of entries) (size - MESSAGE_HEAD - 20) k (folder_kind kind 0).0 (omega (arith, is, lines_length entries all))

-- ---- spellings one after another

spelled_reads : (place : ℕ) (s : Spelled) → IsSpellable s → ReadsObject place (spelled_bytes s) (spelled_object place s)
spelled_reads place (AFile key content) h = file_reads place key content h.0 h.1
spelled_reads place (AFolder kind key entries) h =
    spellable_reads place kind key entries h.0 h.3 (omega (arith, h.2, folder_length kind key entries h.0 (are_entries entries h.3)))

spelled_module : (place : ℕ) (list : List Spelled) → All IsSpellable list → ReadsModule place (flat_map spelled_bytes list) (spelled_objects place list) None
spelled_module place [] all = refl
spelled_module place (s ∷ list) all =
    (spelled_bytes s, flat_map spelled_bytes list, refl, spelled_reads place s (All-head IsSpellable s list all), spelled_module (place + length (spelled_bytes s)) list (All-tail IsSpellable s list all))

pub spelled_back : (list : List Spelled) → All IsSpellable list → index_of (flat_map spelled_bytes list) ≡ (spelled_objects 0 list, None)
spelled_back list all = only_one 0 (flat_map spelled_bytes list) (spelled_objects 0 list) None (λ some. absurd cc) (spelled_module 0 list all) (length (flat_map spelled_bytes list)) (omega arith)
