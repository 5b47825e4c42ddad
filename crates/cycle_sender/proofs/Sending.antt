-- Sections whose packets are put one after another.
use Rattle.std.proofs.Common.{◌≡◌, List, [], ◌∷◌, ◌++◌, map, ◌∙◌, sym, ap, subst, append_assoc, append-nil}
use Rattle.std.specs.Prelude.{Result, Ok, Err, OnOk}
use Rattle.std.specs.List.{All, concat, fold}
use Rattle.std.proofs.lemmas.List.Folds.{concat-append}
use Rattle.std.proofs.lemmas.List.Sums.{fold-append}
use Rattle.section_stream.specs.Groups.{IsBetween, packets_of_group, past_group}
use Rattle.section_stream.specs.Packing.{MuxState, IsSectionLike, after_finish, last_of, packets_of, packets_of_all, past}
use Rattle.section_stream.proofs.CallerLemmas.{calls_give, packets_of_all-append}
use Rattle.shell_streams.specs.Cuts.{Bytes}

-- ---- sections

-- the packets of some sections and then those of others
pub packs_then : (start mux : MuxState) (first second : List Bytes) → mux ≡ fold past start first
    → concat (packets_of_all start first) ++ concat (packets_of_all mux second) ≡ concat (packets_of_all start (first ++ second))
packs_then start mux first second e =
    ap (λ m. concat (packets_of_all start first) ++ concat (packets_of_all m second)) e
    ∙ sym (ap concat (packets_of_all-append start first second) ∙ concat-append (packets_of_all start first) (packets_of_all (fold past start first) second))

pub counts_then : (start mux : MuxState) (first second : List Bytes) → mux ≡ fold past start first → fold past mux second ≡ fold past start (first ++ second)
counts_then start mux first second e = ap (λ m. fold past m second) e ∙ sym (fold-append past start first second)

-- ---- the items of a cycle

-- these items are still to be sent, and what is put is the front of the packets of all
pub record IsSending {X : Type 0} (f : X → Bytes) (start mux : MuxState) (all left : List X) (put : Bytes) : Type 0 where
  pub packs : put ++ concat (packets_of_all mux (map f left)) ≡ concat (packets_of_all start (map f all))
  pub counts : fold past mux (map f left) ≡ fold past start (map f all)

pub sending_begins : {X : Type 0} (f : X → Bytes) (start : MuxState) (all left : List X) → left ≡ all → IsSending f start start all left []
sending_begins f start all left e = record { packs = ap (λ xs. concat (packets_of_all start (map f xs))) e; counts = ap (λ xs. fold past start (map f xs)) e }

-- the packets of the next item
packs_first : (mux : MuxState) (s : Bytes) (ss : List Bytes) (put : Bytes) → put ++ concat (packets_of_all mux (s ∷ ss)) ≡ (put ++ concat (packets_of mux s)) ++ concat (packets_of_all (past mux s) ss)
packs_first mux s ss put =
    ap (λ bs. put ++ bs) (concat-append (packets_of mux s) (packets_of_all (past mux s) ss))
    ∙ sym (append_assoc put (concat (packets_of mux s)) (concat (packets_of_all (past mux s) ss)))

pub sending_more : {X : Type 0} (f : X → Bytes) (start mux next : MuxState) (all old new : List X) (x : X) (put : Bytes) → old ≡ x ∷ new → next ≡ past mux (f x) → IsSending f start mux all old put
    → IsSending f start next all new (put ++ concat (packets_of mux (f x)))
sending_more f start mux next all old new x put o n s =
    let from : IsSending f start mux all (x ∷ new) put = subst (λ xs. IsSending f start mux all xs put) o s in
    subst (λ m. IsSending f start m all new (put ++ concat (packets_of mux (f x)))) (sym n)
    (record { packs = sym (packs_first mux (f x) (map f new) put) ∙ from.packs; counts = from.counts })

-- some of the packets are kept rather than put
pub sending_as : {X : Type 0} (f : X → Bytes) (start mux : MuxState) (all left : List X) (a b : Bytes) → a ≡ b → IsSending f start mux all left a → IsSending f start mux all left b
sending_as f start mux all left a b e s = subst (λ bs. IsSending f start mux all left bs) e s

pub kept_more : (put : Bytes) (old more made : List Bytes) → made ≡ old ++ more → (put ++ concat old) ++ concat more ≡ put ++ concat made
kept_more put old more made e = append_assoc put (concat old) (concat more) ∙ ap (λ bs. put ++ bs) (sym (concat-append old more) ∙ ap concat (sym e))

pub put_more : (put part : Bytes) (made new : List Bytes) → part ++ concat new ≡ concat made → put ++ concat made ≡ (put ++ part) ++ concat new
put_more put part made new e = ap (λ bs. put ++ bs) (sym e) ∙ sym (append_assoc put part (concat new))

-- no item is left
pub sending_ends : {X : Type 0} (f : X → Bytes) (start mux : MuxState) (all left : List X) (put : Bytes) → left ≡ [] → IsSending f start mux all left put
    → (put ≡ concat (packets_of_all start (map f all))) × (mux ≡ fold past start (map f all))
sending_ends f start mux all left put e s =
    let from : IsSending f start mux all [] put = subst (λ xs. IsSending f start mux all xs put) e s in
    (sym (append-nil put) ∙ from.packs, from.counts)

-- ---- the end of a group

-- the packets of sections and of their group's end
pub packs_group : (start mux : MuxState) (group : List Bytes) → IsBetween start → All IsSectionLike group → mux ≡ fold past start group
    → concat (packets_of_all start group) ++ concat (last_of mux) ≡ concat (packets_of_group start group)
packs_group start mux group between like e =
    ap (λ m. concat (packets_of_all start group) ++ concat (last_of m)) e ∙ sym (concat-append (packets_of_all start group) (last_of (fold past start group))) ∙ ap concat (calls_give start group between like).0

pub counts_group : (start mux : MuxState) (group : List Bytes) → IsBetween start → All IsSectionLike group → mux ≡ fold past start group → after_finish mux ≡ past_group start group
counts_group start mux group between like e = ap after_finish e ∙ (calls_give start group between like).1

-- ---- as the steps of the code have it

-- the packet that was put into the emptied room is the one of the group's end
pub last_is : (mux : MuxState) (cleared made lent : List Bytes) → lent ≡ made → made ≡ cleared ++ last_of mux → cleared ≡ [] → lent ≡ last_of mux
last_is mux cleared made lent a b c = a ∙ b ∙ ap (λ ps. ps ++ last_of mux) c

-- a fact of whatever the call answers
pub on_ok : {T E X : Type 0} (r : Result T E) → X → OnOk r X
on_ok (Ok x) fact = fact
on_ok (Err e) fact = tt
