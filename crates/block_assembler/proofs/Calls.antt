-- One more call, and what stands in each place.
use Rattle.std.proofs.Common.{◌≡◌, ◌≢◌, ℕ, ◌+◌, ◌-◌, ◌<◌, Bool, true, false, not, cond, ◌&&◌, List, [], ◌∷◌, ◌++◌, length, Option, Some, None, is_some, if◌then◌else◌, refl, ap, sym, ◌∙◌, subst, arith, set, eqb, ltb, get_or-set_other, get_or-set_same, ◌⊎◌, inl, inr}
use Rattle.std.specs.List.{after_last, suffix_len, prefix_len, filter_map, cons_option}
use Rattle.std.specs.Option.{option_or}
use Rattle.std.proofs.lemmas.List.{reverse-append, drop-append-le, drop_all, length-set, length_push, get_or-replicate, length-replicate}
use Rattle.std.proofs.lemmas.List.Elements.{filter_map-append}
use Rattle.std.proofs.lemmas.Bool.{cases_eq, eq-eqb, lt-ltb, ne_eqb}
use Rattle.ddb_block.specs.Blocks.{block_count_of, block_span_of}
use Rattle.block_assembler.specs.declared.Offer.{Offer}
use Rattle.block_assembler.specs.declared.Offer.TheVariants.{WrongPlace, WrongLength, Again, New}
use Rattle.block_assembler.specs.Blocks.{Bytes, AssemblerState, Call, Offered, Forgotten, StandsFor, block_in, fits, after_offer, after_forget, is_new, forgets, since_forgotten, offered_at, first_of, held_at, empty_of}

-- ---- the calls since the last that passes a test

suffix_push : {X : Type 0} (q : X → Bool) (xs : List X) (x : X) → suffix_len q (xs ++ x ∷ []) ≡ cond (q x) (1 + suffix_len q xs) 0
suffix_push q xs x = ap (prefix_len q) (reverse-append xs (x ∷ []))

after_last_at : {X : Type 0} (p : X → Bool) (xs : List X) (x : X) → p x ≡ true → after_last p (xs ++ x ∷ []) ≡ []
after_last_at p xs x h =
    let e : suffix_len (λ y. not (p y)) (xs ++ x ∷ []) ≡ 0 = suffix_push (λ y. not (p y)) xs x ∙ rw h refl in
    rw e (drop_all _ (xs ++ x ∷ []) (omega arith))

after_last_on : {X : Type 0} (p : X → Bool) (xs : List X) (x : X) → p x ≡ false → after_last p (xs ++ x ∷ []) ≡ after_last p xs ++ x ∷ []
after_last_on p xs x h =
    let e : suffix_len (λ y. not (p y)) (xs ++ x ∷ []) ≡ 1 + suffix_len (λ y. not (p y)) xs = suffix_push (λ y. not (p y)) xs x ∙ rw h refl in
    let n : length (xs ++ x ∷ []) - (1 + suffix_len (λ y. not (p y)) xs) ≡ length xs - suffix_len (λ y. not (p y)) xs = omega (arith, length_push xs x) in
    rw (e, n) (drop-append-le _ xs (x ∷ []) (omega arith))

-- ---- the first of what was offered

first_append : (xs ys : List Bytes) → first_of (xs ++ ys) ≡ option_or (first_of xs) (first_of ys)
first_append [] ys = refl
first_append (x ∷ xs) ys = refl

held_more : (size k c : ℕ) (calls : List Call) (call : Call) → forgets c call ≡ false
    → held_at size k c (calls ++ call ∷ []) ≡ option_or (held_at size k c calls) (first_of (filter_map (offered_at size k c) (call ∷ [])))
held_more size k c calls call h =
    rw (after_last_on (forgets c) calls call h, filter_map-append (offered_at size k c) (since_forgotten c calls) (call ∷ []))
    (first_append (filter_map (offered_at size k c) (since_forgotten c calls)) (filter_map (offered_at size k c) (call ∷ [])))

held_none : (size k c : ℕ) (calls : List Call) (call : Call) → forgets c call ≡ true → held_at size k c (calls ++ call ∷ []) ≡ None
held_none size k c calls call h = rw (after_last_at (forgets c) calls call h) refl

first_one : (o : Option Bytes) → first_of (cons_option o []) ≡ o
first_one None = refl
first_one (Some x) = refl

or_none : (o : Option Bytes) → option_or o None ≡ o
or_none None = refl
or_none (Some x) = refl

-- ---- an offer

answer : Bool → Bool → Option Bytes → Offer
answer below fitting there =
    if not below then WrongPlace
    else (if not fitting then WrongLength
    else (if is_some there then Again else New))

changed : AssemblerState → ℕ → Bytes → Offer → AssemblerState
changed a b bytes o = if is_new o then record a { blocks = set a.blocks b (Some bytes) } else a

changed_sizes : (a : AssemblerState) (b : ℕ) (bytes : Bytes) (o : Offer) → ((changed a b bytes o).size ≡ a.size) × ((changed a b bytes o).block_size ≡ a.block_size) × (length (changed a b bytes o).blocks ≡ length a.blocks)
unfolding changed
changed_sizes a b bytes WrongPlace = (refl, refl, refl)
changed_sizes a b bytes WrongLength = (refl, refl, refl)
changed_sizes a b bytes Again = (refl, refl, refl)
changed_sizes a b bytes New = (refl, refl, length-set a.blocks b (Some bytes))

changed_here : (a : AssemblerState) (b : ℕ) (bytes : Bytes) (below fitting : Bool) (o : Option Bytes) → block_in a.blocks b ≡ o → below ≡ true → b < length a.blocks
    → block_in (changed a b bytes (answer below fitting o)).blocks b ≡ option_or o (if below && fitting then Some bytes else None)
unfolding changed answer
changed_here a b bytes false fitting o e h l = cc
changed_here a b bytes true false o e h l = e ∙ sym (or_none o)
changed_here a b bytes true true None e h l = get_or-set_same a.blocks b (Some bytes) None l
changed_here a b bytes true true (Some x) e h l = e

changed_elsewhere : (a : AssemblerState) (b : ℕ) (bytes : Bytes) (o : Offer) (c : ℕ) → c ≢ b → block_in (changed a b bytes o).blocks c ≡ block_in a.blocks c
unfolding changed
changed_elsewhere a b bytes WrongPlace c ne = refl
changed_elsewhere a b bytes WrongLength c ne = refl
changed_elsewhere a b bytes Again c ne = refl
changed_elsewhere a b bytes New c ne = get_or-set_other a.blocks b c (Some bytes) None ne

after_is : (a : AssemblerState) (b : ℕ) (bytes : Bytes)
    → after_offer a b bytes ≡ changed a b bytes (answer (ltb b (block_count_of a.size a.block_size)) (eqb (length bytes) (block_span_of a.size a.block_size b)) (block_in a.blocks b))
unfolding changed answer
after_is a b bytes = refl

offered_one : (a : AssemblerState) (b : ℕ) (bytes : Bytes) (c : ℕ) → length a.blocks ≡ block_count_of a.size a.block_size → c < block_count_of a.size a.block_size
    → block_in (after_offer a b bytes).blocks c ≡ option_or (block_in a.blocks c) (offered_at a.size a.block_size c (Offered b bytes))
offered_one a b bytes c e h = by_place (cases_eq c b) where
  by_place : (c ≡ b) ⊎ (c ≡ b → ⊥) → block_in (after_offer a b bytes).blocks c ≡ option_or (block_in a.blocks c) (offered_at a.size a.block_size c (Offered b bytes))
  by_place (inl same) =
      let Claim : ℕ → Type 0 = λ x. block_in (after_offer a b bytes).blocks x ≡ option_or (block_in a.blocks x) (offered_at a.size a.block_size x (Offered b bytes)) in
      let below : b < block_count_of a.size a.block_size = omega (arith, same) in
      let inside : b < length a.blocks = omega arith in
      let there : block_in (after_offer a b bytes).blocks b ≡ option_or (block_in a.blocks b) (if fits a.size a.block_size b bytes then Some bytes else None) =
      ap (λ (v : AssemblerState). block_in v.blocks b) (after_is a b bytes)
      ∙ changed_here a b bytes (ltb b (block_count_of a.size a.block_size)) (eqb (length bytes) (block_span_of a.size a.block_size b)) (block_in a.blocks b) refl (lt-ltb b _ below) inside in
      let here : Claim b = rw (eq-eqb b b refl) there in
      subst Claim (sym same) here
  by_place (inr other) =
      let none : offered_at a.size a.block_size c (Offered b bytes) ≡ None = rw (ne_eqb c b other) refl in
      ap (λ (v : AssemblerState). block_in v.blocks c) (after_is a b bytes)
      ∙ changed_elsewhere a b bytes _ c other
      ∙ sym (or_none (block_in a.blocks c))
      ∙ ap (option_or (block_in a.blocks c)) (sym none)

own : (a : AssemblerState) (size k : ℕ) (calls : List Call) → StandsFor a size k calls → StandsFor a a.size a.block_size calls
own a size k calls s =
    subst (λ (z : ℕ). StandsFor a z a.block_size calls) (sym s.sizes.0) (subst (λ (z : ℕ). StandsFor a size z calls) (sym s.sizes.1) s)

given : (a v : AssemblerState) (size k : ℕ) (calls : List Call) → a.size ≡ size → a.block_size ≡ k → StandsFor v a.size a.block_size calls → StandsFor v size k calls
given a v size k calls e g s =
    subst (λ (z : ℕ). StandsFor v z k calls) e (subst (λ (z : ℕ). StandsFor v a.size z calls) g s)

sizes_after : (a : AssemblerState) (b : ℕ) (bytes : Bytes) → ((after_offer a b bytes).size ≡ a.size) × ((after_offer a b bytes).block_size ≡ a.block_size) × (length (after_offer a b bytes).blocks ≡ length a.blocks)
sizes_after a b bytes =
    let sizes = changed_sizes a b bytes (answer (ltb b (block_count_of a.size a.block_size)) (eqb (length bytes) (block_span_of a.size a.block_size b)) (block_in a.blocks b)) in
    rw (after_is a b bytes) sizes

offer_own : (a : AssemblerState) (b : ℕ) (bytes : Bytes) (calls : List Call) → StandsFor a a.size a.block_size calls
    → StandsFor (after_offer a b bytes) a.size a.block_size (calls ++ Offered b bytes ∷ [])
offer_own a b bytes calls s =
    let sizes = sizes_after a b bytes in
    record {
      sizes = (sizes.0, sizes.1);
      number = sizes.2 ∙ s.number;
      each = λ c h.
          offered_one a b bytes c s.number h
          ∙ ap (λ (o : Option Bytes). option_or o (offered_at a.size a.block_size c (Offered b bytes))) (s.each c h)
          ∙ ap (option_or (held_at a.size a.block_size c calls)) (sym (first_one (offered_at a.size a.block_size c (Offered b bytes))))
          ∙ sym (held_more a.size a.block_size c calls (Offered b bytes) refl);
    }

pub stands_offer : (a v : AssemblerState) (b : ℕ) (bytes : Bytes) → v ≡ after_offer a b bytes
    → (calls : List Call) (size k : ℕ) → StandsFor a size k calls → StandsFor v size k (calls ++ Offered b bytes ∷ [])
stands_offer a v b bytes e calls size k s =
    subst (λ (w : AssemblerState). StandsFor w size k (calls ++ Offered b bytes ∷ [])) (sym e)
    (given a _ size k _ s.sizes.0 s.sizes.1 (offer_own a b bytes calls (own a size k calls s)))

-- ---- a place that is forgotten

forget_own : (a : AssemblerState) (b : ℕ) (calls : List Call) → b < block_count_of a.size a.block_size → StandsFor a a.size a.block_size calls
    → StandsFor (after_forget a b) a.size a.block_size (calls ++ Forgotten b ∷ [])
forget_own a b calls below s = record {
  sizes = (refl, refl);
  number = length-set a.blocks b None ∙ s.number;
  each = λ c h. by_place c h (cases_eq c b);
} where
  by_place : (c : ℕ) → c < block_count_of a.size a.block_size → (c ≡ b) ⊎ (c ≡ b → ⊥)
      → block_in (set a.blocks b None) c ≡ held_at a.size a.block_size c (calls ++ Forgotten b ∷ [])
  by_place c h (inl same) =
      let inside : b < length a.blocks = omega (arith, s.number) in
      rw same (get_or-set_same a.blocks b None None inside)
      ∙ sym (held_none a.size a.block_size c calls (Forgotten b) (eq-eqb c b same))
  by_place c h (inr other) =
      get_or-set_other a.blocks b c None None other
      ∙ s.each c h
      ∙ sym (or_none (held_at a.size a.block_size c calls))
      ∙ sym (held_more a.size a.block_size c calls (Forgotten b) (ne_eqb c b other))

pub stands_forget : (a v : AssemblerState) (b : ℕ) → v ≡ after_forget a b → b < block_count_of a.size a.block_size
    → (calls : List Call) (size k : ℕ) → StandsFor a size k calls → StandsFor v size k (calls ++ Forgotten b ∷ [])
stands_forget a v b e below calls size k s =
    subst (λ (w : AssemblerState). StandsFor w size k (calls ++ Forgotten b ∷ [])) (sym e)
    (given a _ size k _ s.sizes.0 s.sizes.1 (forget_own a b calls below (own a size k calls s)))

-- ---- a new assembler

pub stands_new : (size k : ℕ) → StandsFor (empty_of size k) size k []
stands_new size k = record {
  sizes = (refl, refl);
  number = length-replicate (block_count_of size k) None;
  each = λ b h. get_or-replicate (block_count_of size k) b None None h;
}
