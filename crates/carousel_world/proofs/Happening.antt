-- What the code keeps after one event more.
use Rattle.std.proofs.Common.{◌≡◌, ℕ, zero, suc, ◌-◌, ◌<◌, ◌≤◌, Bool, true, false, cond, nat_le, List, [], ◌∷◌, ◌++◌, length, map, take, drop, get_or, Result, Ok, Err, refl, ap, sym, ◌∙◌, subst, arith}
use Rattle.std.specs.Prelude.{IfOk, OnErr}
use Rattle.std.specs.List.{All}
use Rattle.std.specs.Arc.{arc_value}
use Rattle.std.proofs.Math.Seq.{take-add}
use Rattle.std.proofs.lemmas.List.{map-append, take_more, length-append}
use Rattle.std.proofs.lemmas.List.Elements.{All-head, All-tail}
use Rattle.std.specs.declared.vec.Vec.{Vec}
use Rattle.std.specs.declared.alloc.Global.{Global}
use Rattle.path_tree.specs.Paths.{Bytes, PathNames}
use Rattle.path_tree.specs.declared.tree.Edit.{Edit}
use Rattle.ts_packet.specs.declared.Fate.{Fate}
use Rattle.cycle_planner.specs.declared.Item.{Item}
use Rattle.dsmcc_section.specs.Sections.{IsFramed}
use Rattle.generation.specs.Layouts.{GenerationState, section_of}
use Rattle.generation_catalogue.specs.History.{CatalogueState, current_of, cursor_of, items_drawn, draws_of, with_draw, with_commit, outcome_of}
use Rattle.generation_catalogue.specs.Calls.{IsCommitted, IsDrawn, BatchFields, view_batch}
use Rattle.generation_catalogue.specs.declared.entry.Refusal.{Refusal}
use Rattle.generation_catalogue.specs.declared.entry.CommitFault.TheVariants as commits
use Rattle.generation_catalogue.specs.declared.entry.Batch.{Batch}
use Rattle.section_stream.specs.Kept.{view_bytes}
use Rattle.section_stream.specs.Packing.{IsSectionLike}
use Rattle.section_stream.specs.Groups.{packets_of_group}
use Rattle.carousel_world.specs.DownView.{DownlinkState, DownlinkStands}
use Rattle.carousel_world.specs.Events.{Step, Commit, Draw, Open, view}
use Rattle.carousel_world.specs.Fates.{received_under}
use Rattle.carousel_world.specs.Promises.{MeetsHeadline, world_after}
use Rattle.carousel_world.specs.View.{Kept, StandsFor}
use Rattle.carousel_world.specs.World.{WorldState, InRange, AsksForMemory, commit_reply, drawing_of, groups_sent, received_in, reply_to, happens, replies_to, after_all, initial_world}
use Rattle.carousel_world.specs.declared.event.Event.{Event}
use Rattle.carousel_world.specs.declared.event.Reply.{Reply}
use Rattle.carousel_world.specs.declared.event.Reply.TheVariants as replies
use Rattle.carousel_world.proofs.Sending.{stands_after_draw}
use Rattle.carousel_world.proofs.Promised.{after-append}

-- ---- sections

pub framed_is_like : (bytes : Bytes) → IsFramed bytes → IsSectionLike bytes
framed_is_like bytes f = record { size = (f.least, f.most); length_field = sym f.counted; first = f.begins }

-- one piece of a draw more
pub piece_of : (sec : Item → Bytes) (items : List Item) (sent end : ℕ) (made given : List (Vec ℕ Global)) → sent ≤ end → given ≡ made → map view_bytes made ≡ map sec (take (end - sent) (drop sent items))
    → map sec (take end items) ≡ map sec (take sent items) ++ map view_bytes given
piece_of sec items sent end made given le same is =
    ap (λ k. map sec (take k items)) (omega (arith, le)) ∙ ap (map sec) (take-add sent (end - sent) items) ∙ map-append sec (take sent items) (take (end - sent) (drop sent items))
    ∙ ap (λ xs. map sec (take sent items) ++ xs) (sym is ∙ ap (map view_bytes) (sym same))

-- ---- a commit that is refused

pub refused : (s d : CatalogueState) (w : WorldState) (down : DownlinkState) (editor : ℕ) (edits : List Edit) (r : Refusal) → IsCommitted s editor edits (Err (commits.Refused r)) d
    → StandsFor (record { catalogue = s; down = down }) w
    → (replies.Refused r ≡ commit_reply (outcome_of w.catalogue edits)) × StandsFor (record { catalogue = d; down = down }) (happens w (Commit editor edits))
refused s d w down editor edits r is st = (
  sym (ap commit_reply (ap (λ (c : CatalogueState). outcome_of c edits) (sym st.catalogue) ∙ is.answer)),
  record { catalogue = is.entry ∙ ap (λ (c : CatalogueState). with_commit c editor edits) st.catalogue; down = st.down },
)

-- ---- a draw

given : (full : Bool) (n : ℕ) (x y : BatchFields) → cond full (Err n) (Ok x) ≡ Ok y → (full ≡ false) × (x ≡ y)
given true n x y e = cc
given false n x y e = (refl, cc)

pub drawn_stands : (s d : CatalogueState) (w : WorldState) (b : Batch) (asked : ℕ) (fates : List Fate) (old new : DownlinkState) (g : GenerationState) (items : List Item)
    → IsDrawn s asked (Ok b) d → g ≡ arc_value b.generation → items ≡ b.items.items → StandsFor (record { catalogue = s; down = old }) w
    → ((pid : ℕ) (groups : List (List Bytes)) (packets : List Bytes) → DownlinkStands old pid groups [] packets
    → DownlinkStands new pid (groups ++ map (section_of g) items ∷ []) [] (packets ++ received_under fates 0 (packets_of_group old.mux (map (section_of g) items))))
    → StandsFor (record { catalogue = d; down = new }) (happens w (Draw asked fates))
drawn_stands s d w b asked fates old new g items is generation listed st on =
    let same = st.catalogue in
    let drawing = drawing_of w.catalogue asked fates in
    let fields : BatchFields = record { generation = current_of s; first = cursor_of s; items = items_drawn s asked } in
    let parts = given (nat_le 16777216 (draws_of s)) 16777216 fields (view_batch b) is.answer in
    let room : nat_le 16777216 (draws_of w.catalogue) ≡ false = ap (λ (c : CatalogueState). nat_le 16777216 (draws_of c)) (sym same) ∙ parts.0 in
    let its : g ≡ drawing.generation = generation ∙ ap (λ (x : BatchFields). x.generation) (sym parts.1) ∙ ap (λ (c : CatalogueState). current_of c) same in
    let all : items ≡ drawing.items = listed ∙ ap (λ (x : BatchFields). x.items) (sym parts.1) ∙ ap (λ (c : CatalogueState). items_drawn c asked) same in
    let P : GenerationState → List Item → Type 0 = λ x xs. DownlinkStands new 256 (groups_sent w.drawings ++ map (section_of x) xs ∷ []) [] (received_in w ++ received_under fates 0 (packets_of_group old.mux (map (section_of x) xs))) in
    let sent : P drawing.generation drawing.items = subst (P drawing.generation) all (subst (λ (x : GenerationState). P x items) its (on 256 (groups_sent w.drawings) (received_in w) st.down)) in
    let after : StandsFor (record { catalogue = d; down = new }) (record { catalogue = with_draw w.catalogue asked; drawings = w.drawings ++ drawing ∷ [] }) =
    record { catalogue = is.entry ∙ ap (λ (c : CatalogueState). with_draw c asked) same; down = stands_after_draw w drawing old new st.down sent } in
    subst (λ (full : Bool). StandsFor (record { catalogue = d; down = new }) (cond full w (record { catalogue = with_draw w.catalogue asked; drawings = w.drawings ++ drawing ∷ [] }))) (sym room) after

-- ---- an open

pub opened : {E : Type 0} (r : Result Reply E) (k : Kept) (p q : PathNames) (e : Step) (reader : ℕ) → e ≡ Open reader q → p ≡ q
    → IfOk r (λ x. (w : WorldState) (n : ℕ) → StandsFor k w → x ≡ reply_to w (Open n p)) → IfOk r (λ x. (w : WorldState) → StandsFor k w → x ≡ reply_to w e)
opened (Ok x) k p q e reader is same h = λ w st. h w reader st ∙ ap (λ (s : PathNames). reply_to w (Open reader s)) same ∙ ap (λ (s : Step). reply_to w s) (sym is)
opened (Err f) k p q e reader is same h = tt

pub open_asks : {E : Type 0} (r : Result Reply E) (k : Kept) (p q : PathNames) (e : Step) (reader : ℕ) → e ≡ Open reader q → p ≡ q
    → OnErr r ((w : WorldState) (n : ℕ) → StandsFor k w → AsksForMemory w (Open n p)) → OnErr r ((w : WorldState) → StandsFor k w → AsksForMemory w e)
open_asks (Ok x) k p q e reader is same h = tt
open_asks (Err f) k p q e reader is same h =
    λ w st. subst (λ (s : Step). AsksForMemory w s) (sym is) (subst (λ (s : PathNames). AsksForMemory w (Open reader s)) same (h w reader st))

-- ---- one event after another

pub in_range : (events : List Event) (k : ℕ) (e : Event) → All InRange (map view events) → k < length events → e ≡ get_or events k e → InRange (view e)
in_range [] k e all lt at = absurd (omega (arith, lt))
in_range (x ∷ xs) zero e all lt at = subst (λ (y : Event). InRange (view y)) (sym at) (All-head InRange (view x) (map view xs) all)
in_range (x ∷ xs) (suc k) e all lt at = in_range xs k e (All-tail InRange (view x) (map view xs) all) (omega (arith, lt)) at

replies-push : (w : WorldState) (xs : List Step) (e : Step) → replies_to w (xs ++ e ∷ []) ≡ replies_to w xs ++ reply_to (after_all w xs) e ∷ []
replies-push w [] e = refl
replies-push w (x ∷ xs) e = ap (λ rs. reply_to w x ∷ rs) (replies-push (happens w x) xs e)

pub one_more_event : (k l : Kept) (w : WorldState) (events yielded : List Event) (e : Event) (given more : List Reply) (r : Reply)
    → length yielded < length events → e ≡ get_or events (length yielded) e
    → StandsFor k (after_all w (map view (take (length yielded) events))) × (given ≡ replies_to w (map view (take (length yielded) events)))
    → ((v : WorldState) → StandsFor k v → StandsFor l (happens v (view e))) → ((v : WorldState) → StandsFor k v → r ≡ reply_to v (view e)) → more ≡ given ++ r ∷ []
    → StandsFor l (after_all w (map view (take (length (yielded ++ e ∷ [])) events))) × (more ≡ replies_to w (map view (take (length (yielded ++ e ∷ [])) events)))
one_more_event k l w events yielded e given more r lt at before stands reply m =
    let xs = map view (take (length yielded) events) in
    let v = after_all w xs in
    let longer : map view (take (length (yielded ++ e ∷ [])) events) ≡ xs ++ view e ∷ [] =
    ap (λ n. map view (take n events)) (length-append yielded (e ∷ [])) ∙ ap (map view) (take_more events (length yielded) e lt ∙ ap (λ x. take (length yielded) events ++ x ∷ []) (sym at))
    ∙ map-append view (take (length yielded) events) (e ∷ []) in
    let reached : StandsFor l (after_all w (xs ++ view e ∷ [])) = subst (StandsFor l) (sym (after-append w xs (view e ∷ []))) (stands v before.0) in
    let answered : more ≡ replies_to w (xs ++ view e ∷ []) =
    m ∙ ap (λ rs. rs ++ r ∷ []) before.1 ∙ ap (λ x. replies_to w xs ++ x ∷ []) (reply v before.0) ∙ sym (replies-push w xs (view e)) in
    subst (λ ys. StandsFor l (after_all w ys) × (more ≡ replies_to w ys)) (sym longer) (reached, answered)

-- ---- the headline of a world that was run

pub headline_of : (k l : Kept) (events : List Step) → ((carousel : ℕ) (weights : List ℕ) (all : List Step) → StandsFor l (world_after carousel weights all) → MeetsHeadline carousel weights all)
    → ((w : WorldState) → StandsFor k w → StandsFor l (after_all w events))
    → (carousel : ℕ) (weights : List ℕ) (before : List Step) → StandsFor k (world_after carousel weights before) → MeetsHeadline carousel weights (before ++ events)
headline_of k l events keeps stands carousel weights before st =
    keeps carousel weights (before ++ events) (subst (StandsFor l) (sym (after-append (initial_world carousel weights) before events)) (stands (world_after carousel weights before) st))
