-- What was written, by what was put.
use Rattle.std.proofs.Common.{◌≡◌, [], ◌++◌, Ok, Err, refl, sym, ap, ◌∙◌, append-nil}
use Rattle.shell_streams.specs.Cuts.{Bytes}
use Rattle.shell_streams.specs.Sending.{OutputState, Puts}
use Rattle.shell_streams.specs.declared.output.OutputFault.{OutputFault}
use Rattle.shell_streams.proofs.CallerLemmas.{told_weaker, told_same}
use Rattle.receiver_commands.specs.Over.{sink_over, WritesAll, WritesPrefix}

-- all of a text, where nothing is pending before and after
pub writes_all : {T : Type 0} {x : T} {old new : OutputState} {text : Bytes} → old.pending ≡ [] → new.pending ≡ [] → Puts (Ok x) old new text → WritesAll (sink_over old new) text
writes_all {text = text} before after puts = told_weaker puts.ok (λ x y s.
    s.after_is ∙ ap (λ bs. x ++ bs) (sym (append-nil s.sent) ∙ ap (λ bs. s.sent ++ bs) (sym after) ∙ sym s.split ∙ ap (λ bs. bs ++ text) before))

-- a prefix of it
pub writes_prefix : {T : Type 0} {f : OutputFault} {old new : OutputState} {text : Bytes} → old.pending ≡ [] → Puts {T = T} (Err f) old new text → WritesPrefix (sink_over old new) text
writes_prefix {text = text} before puts = told_weaker puts.err (λ x y e. record {
  part = e.sends.sent;
  rest = e.rest;
  output_is = sym (ap (λ bs. bs ++ text) before) ∙ e.sends.split;
  after_is = e.sends.after_is;
})

-- a prefix of a text is one of a longer text
pub prefix_here : {T : Type 0} {x : T} {old new : OutputState} {text : Bytes} → old.pending ≡ [] → Puts (Ok x) old new text → WritesPrefix (sink_over old new) text
prefix_here {new = new} {text = text} before puts = told_weaker puts.ok (λ x y s. record {
  part = s.sent;
  rest = new.pending;
  output_is = sym (ap (λ bs. bs ++ text) before) ∙ s.split;
  after_is = s.after_is;
})

-- nothing of it
pub prefix_none : (o : OutputState) (text : Bytes) → WritesPrefix (sink_over o o) text
prefix_none o text = told_same o.written (λ x. record { part = []; rest = text; output_is = refl; after_is = sym (append-nil x) })
