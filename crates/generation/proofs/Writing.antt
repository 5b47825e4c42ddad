-- What is written of a generation: bindings, modules, messages.
use Rattle.std.proofs.Common.{◌≡◌, ℕ, ◌*◌, ◌%◌, ◌<◌, ◌≤◌, false, List, [], ◌∷◌, length, map, refl, sym, subst, arith, length-append, Vec, Global, Result, inl, inr, lit≤}
use Rattle.generation.proofs.Words.{common_steps, nat_tests, All-tail, sum_by, sum_by-le, length-flat_map, get_or_past, All, flat_map, IfOk, cases_lt, All-map, Bytes, DiiFields, dii_spelling, line_bytes, dii_lines, gateway_location, module_in, unwrap_or, group_in, dii_transaction, count_in, Listed, view_listed, control_section}
use Rattle.ior_tap.specs.Iors as iors
use Rattle.dsmcc_section.specs.Sections as sections
use Rattle.biop_object.specs.declared.reading.TheConstants.{GATEWAY}
use Rattle.carousel_profile.specs.declared.TheConstants.{BLOCK_SIZE}

-- ---- modules

pub small_count : (counts : List ℕ) (id most : ℕ) → 0 < most → All (λ c. c < most) counts → count_in counts id < most
small_count counts id most some all = elim (cases_lt id (length counts)) [ inl here ↦ all id 0 here | inr past ↦ rw (get_or_past counts id 0 past) some ]

-- ---- control messages

pub dii_short : (d : DiiFields) → length d.modules ≤ 139 → length (dii_spelling d) ≤ 4084
dii_short d few =
    let lines : sum_by (λ m. length (line_bytes m)) d.modules ≤ length d.modules * 29 = sum_by-le (λ m. length (line_bytes m)) 29 d.modules (λ k e lt. lit≤ tt) in
    omega (arith, few, lines, length-flat_map line_bytes d.modules, length-append (flat_map line_bytes d.modules) (0 ∷ 0 ∷ []))

pub plain_lines : (counts : List ℕ) (layout : List (ℕ × Bytes)) → All (λ l. l.compressed ≡ false) (dii_lines counts layout)
plain_lines counts layout = All-map (λ l. l.compressed ≡ false) _ layout (λ k d lt. refl)

pub gateway_written : (c : ℕ) (ior : iors.Fields) → ior ≡ iors.written_form GATEWAY (gateway_location c) → iors.IsWritten ior (gateway_location c)
gateway_written c ior e = subst (λ v. iors.IsWritten v (gateway_location c)) (sym e) (record { form = refl; four = refl; key = refl; listed = (lit≤ tt, lit≤ tt) })

pub small_bytes : (layout : List (ℕ × Bytes)) (id : ℕ) → All (λ m. length m.1 ≤ 268435456) layout → length (unwrap_or (module_in layout id) []) ≤ 268435456
small_bytes [] id all = omega arith
small_bytes (m ∷ ms) id all = grind (arith, common_steps, nat_tests, all 0 (0, []) (omega arith), small_bytes ms id (All-tail (λ m. length m.1 ≤ 268435456) m ms all))

-- what is sent of listed modules, where they stand after a reference
abbrev pub DiiSection : {E : Type 0} → Result (Vec ℕ Global) E → (carousel number group : ℕ) → List ℕ → List Listed → Type 0
DiiSection r c g group counts modules = IfOk r (λ v. v.items ≡ sections.spelling (control_section (dii_transaction g group % 65536)
    (dii_spelling (record { download = c; block_size = BLOCK_SIZE; transaction = dii_transaction g group; modules = dii_lines counts (group_in (map view_listed modules) group) }))))

pub dii_arm : {E : Type 0} (r : Result (Vec ℕ Global) E) (c g group : ℕ) (counts counts' : List ℕ) (modules modules' : List Listed) → counts' ≡ counts → modules' ≡ modules
    → DiiSection r c g group counts' modules' → DiiSection r c g group counts modules
dii_arm r c g group counts counts' modules modules' ec em is = subst (λ k. DiiSection r c g group k modules) ec (subst (λ m. DiiSection r c g group counts' m) em is)
