-- The law of receptions, for every input and every publication.
use Rattle.std.proofs.Common.{◌≡◌, ℕ, zero, suc, ◌+◌, ◌≤◌, ◌%◌, List, [], ◌∷◌, ◌++◌, length, Option, Some, refl, sym, ap, ◌∙◌, arith, append-nil, length-append}
use Rattle.std.proofs.lemmas.List.{length-replicate}
use Rattle.std.proofs.lemmas.List.Elements.{All-head, All-tail}
use Rattle.std.specs.List.{All, concat}
use Rattle.path_tree.specs.Paths.{PathNames}
use Rattle.path_tree.specs.Trees.{Tree, Node, File, Folder, NoSuch, node_at}
use Rattle.cycle_planner.specs.Weights.{AreWeights}
use Rattle.generation.specs.Lawful.{tree_at}
use Rattle.path_resolver.specs.declared.answer.Answer.{Answer}
use Rattle.path_resolver.specs.declared.answer.Answer.TheVariants as answers
use Rattle.section_stream.specs.Cuts.{candidates}
use Rattle.section_stream.specs.Packing as packing
use Rattle.section_stream.specs.Groups.{Laid, layout_of, packets_from, packets_of_group}
use Rattle.section_stream.proofs.CallerLemmas.{Fits, layout_fits}
use Rattle.tuner_core.specs.LookBack.{answer_after}
use Rattle.carousel_world.specs.Broadcasts.{sections}
use Rattle.carousel_world.specs.Headline.{IsNodeAnswer}
use Rattle.carousel_world.specs.Receptions.{EveryReceptionMeets, LabelsNeverFall}
use Rattle.carousel_world.specs.Publishing.{EveryPublicationMeets, EachCycleOpens, publication, packets_sent, published_bytes}
use Rattle.shell_streams.specs.Cuts.{Bytes, back_to_back}
use Rattle.shell_streams.specs.Packets.{AreSized, packets_of, candidates_of}
use Rattle.shell_streams.specs.declared.carrier.Carrier.{Carrier}
use Rattle.shell_streams.specs.declared.carrier.Carrier.TheVariants as carriers
use Rattle.shell_streams.proofs.CallerLemmas.{packets_before}
use Rattle.mount_table.specs.Laws.{OneMountDecides}
use Rattle.mount_table.specs.Mounts.{mount_named, at_mount}
use Rattle.mount_table.specs.declared.mount.Mount.{Mount}
use Rattle.mount_table.specs.declared.mounts.Mounted.{Mounted}
use Rattle.shell_words.specs.Texts.{answered_line, tail_of}
use Rattle.psi_tables.specs.Laws.{IsNowhereElse, IsFoundOnceItCame, EachIsFollowed}
use Rattle.shell_commands.proofs.Beginning.{falls_never}
use Rattle.shell_commands.proofs.Opening.{heard_by_id}
use Rattle.receiver_commands.specs.Mounts.{as_answer}
use Rattle.shell_commands.specs.Laws.{UsuallyFound, UnderMount, Receptions}
use Rattle.shell_commands.specs.Reception.{Reception, SentOpens, CyclesOpen, node_answer, answer_in}

same_answer : (a : Answer) (n : Node) → IsNodeAnswer a n → a ≡ node_answer n
same_answer (answers.File b) (File c) h = ap answers.File h
same_answer (answers.Folder ns) (Folder ms) h = ap answers.Folder h
same_answer answers.NoSuch NoSuch h = refl
same_answer _ _ h = absurd h

all_same : (heard : List Bytes) (t : Tree) → ((p : PathNames) → IsNodeAnswer (answer_after heard p) (node_at t p)) → answer_after heard ≡ answer_in t
all_same heard t h =
    let each : (p : PathNames) → answer_after heard p ≡ answer_in t p = λ p. same_answer (answer_after heard p) (node_at t p) (h p) in
    λ i p. each p i

received : EveryReceptionMeets → LabelsNeverFall → EveryPublicationMeets → (carrier : Carrier) (input : Bytes) → Reception carrier input
received law falls one (carriers.Sections most) input = record {
  meets = law.sections (back_to_back input);
  whole = λ b from g never heard whole.
      all_same (back_to_back input) (tree_at b.trees g) (λ p. (law.sections (back_to_back input) b from never heard).opens g p whole);
  meets_published = one.sections (back_to_back input);
  whole_published = λ carousel weights cycles t from never small publishable accepted whole.
      all_same (back_to_back input) t (λ p. (one.sections (back_to_back input) carousel weights cycles t from never small publishable accepted).opens p whole);
  never_falls = falls_never falls (carriers.Sections most) input;
}
received law falls one (carriers.Packets pid) input = record {
  meets = law.packets pid (packets_of input);
  whole = λ b from g never heard whole.
      all_same (candidates_of pid input) (tree_at b.trees g) (λ p. (law.packets pid (packets_of input) b from never heard).opens g p whole);
  meets_published = one.packets pid (packets_of input);
  whole_published = λ carousel weights cycles t from never small publishable accepted whole.
      all_same (candidates_of pid input) t (λ p. (one.packets pid (packets_of input) carousel weights cycles t from never small publishable accepted).opens p whole);
  never_falls = falls_never falls (carriers.Packets pid) input;
}

-- ---- the packets of what was published are those that were sent

filled_sized : (piece : Bytes) → length piece ≤ 184 → length (packing.with_stuffing piece) ≡ 184
filled_sized piece h = simp (length-append, length-replicate) (omega arith)

laid_sized : (pid counter : ℕ) (ls : List Laid) → All Fits ls → AreSized (packets_from pid counter ls)
laid_sized pid counter [] fit = tt
laid_sized pid counter (l ∷ ls) fit =
    (omega (arith, filled_sized l.bytes (All-head Fits l ls fit)), laid_sized pid ((counter + 1) % 16) ls (All-tail Fits l ls fit))

pub all_sized : (m : packing.MuxState) (group : List Bytes) → AreSized (packets_of_group m group)
all_sized m group = laid_sized m.pid m.counter (layout_of group) (layout_fits group)

pub packets_back : (packets : List Bytes) → AreSized packets → packets_of (concat packets) ≡ packets
packets_back packets h = ap packets_of (sym (append-nil (concat packets))) ∙ packets_before packets [] h ∙ append-nil packets

-- whoever hears all packets of a publication has each path of its tree
sent_opens : EachCycleOpens → (pid carousel : ℕ) (weights : List ℕ) (cycles : ℕ) → AreWeights weights → SentOpens pid carousel weights cycles
sent_opens law pid carousel weights zero are t p below some small publishable = absurd (omega arith)
sent_opens law pid carousel weights (suc cycles) are t p below some small publishable =
    let back : candidates_of pid (published_bytes pid carousel weights (suc cycles) t) ≡ candidates pid (packets_sent pid carousel weights (suc cycles) t) =
    ap (candidates pid) (packets_back (packets_sent pid carousel weights (suc cycles) t) (all_sized (packing.idle pid 0) (sections (publication carousel weights (suc cycles) t)))) in
    rw back (law pid carousel weights cycles t p below small are publishable)

usually : IsNowhereElse → IsFoundOnceItCame → EachIsFollowed → (carousel : ℕ) (packets : List Bytes) → UsuallyFound carousel packets
usually nowhere once each carousel packets = record {
  nowhere_else = λ p table q usual. nowhere carousel packets p table q usual;
  once_it_came = λ p table q l usual came line program named there. once carousel packets p table q l usual came line program named there;
  followed = λ p l all line program few. each packets p l all line program few;
}

under_mount : OneMountDecides → (table : List Mount) (name : Bytes) (m : Mount) (input : Bytes)
    → mount_named table name ≡ Some m → UnderMount table name m input
under_mount law table name m input named = record {
  as_open = λ rest.
      ap (λ (o : Option Mount). as_answer table (at_mount (packets_of input) rest o)) named;
  alone = λ other rest same.
      ap (λ (a : Mounted). answered_line (name ∷ rest) (as_answer table a) ++ tail_of (as_answer table a))
      (law table name m (packets_of input) (packets_of other) named same rest);
}

pub all_laws : EveryReceptionMeets → LabelsNeverFall → EveryPublicationMeets → EachCycleOpens → ((carousel : ℕ) (weights : List ℕ) (cycles : ℕ) → AreWeights weights → CyclesOpen carousel weights cycles) → IsNowhereElse → IsFoundOnceItCame → EachIsFollowed → OneMountDecides
    → Receptions
all_laws law falls one cycle cycles nowhere once each mounts = record {
  each = received law falls one;
  sent = sent_opens cycle;
  cycles = cycles;
  tables = usually nowhere once each;
  by_id = heard_by_id;
  mounts = mounts;
  under = under_mount mounts;
}
