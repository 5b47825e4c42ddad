use Rattle.std.proofs.Common.{arith, ◌≡◌, ◌∙◌, ap, length, take, drop, ◌+◌, ◌-◌, ℕ, nat_lt, Result, ◌++◌, append-nil, refl, Ok, false, Bool}
use Rattle.std.proofs.lemmas.Bool.{ltb-false}
use Rattle.std.proofs.lemmas.Result.{err_from_is_err_and}
use Rattle.shell_streams.proofs.Holding.{Reread, reread_same, reread_more, reads_on, reads_nothing}
use Rattle.shell_streams.proofs.unread.Unread.more.Given.{Over}
use Rattle.shell_streams.proofs.unread.Unread.more.Goals as goal

nothing_new : {E : Type 0} (n : ℕ) → ◌≡◌ {A = Result Bool E} (Ok (nat_lt 0 n)) (Ok false) → n ≡ 0
nothing_new n e = let f : nat_lt 0 n ≡ false = cc in omega (arith, ltb-false 0 n f)

failed : (g : Over) (c : goal.After-from_residual g) → Reread c.self.inside.bytes c.with_room-at.new.bytes c.read_behind.new.bytes c.self.inside.at c.self.inside.end c.with_room-at.result
failed g c = record {
  order = c.self.invariant.0;
  within = c.self.invariant.1;
  small = c.with_room-at.ensures.within;
  same_length = c.with_room-at.auto.bytes ∙ ap length c.deref_mut.ensures.value;
  same = rw c.deref_mut.ensures.value at c.with_room-at.ensures.same;
  last_length = c.read_behind.auto.bytes ∙ ap length c.deref_mut-2.ensures.value;
  front = rw c.deref_mut-2.ensures.value at c.read_behind.ensures.front;
}

pub returns-in_err-n-clause-rest : goal.returns-in_err-n-clause-rest
returns-in_err-n-clause-rest g c = rw (reread_same (failed g c), c.self.view_is, c.in_err-n.ensures.nothing) refl

pub returns-in_err-n-clause-kept : goal.returns-in_err-n-clause-kept
returns-in_err-n-clause-kept g c =
    let p = err_from_is_err_and c.from_residual.result c.from_residual.ensures.1 in
    rw p.1 (reread_same (failed g c) ∙ c.self.view_is)

went_on : (g : Over) (c : goal.After-self-5-1 g) → Reread c.self.inside.bytes c.with_room-at.new.bytes c.read_behind.new.bytes c.self.inside.at c.self.inside.end c.with_room-at.result
went_on g c = record {
  order = c.self.invariant.0;
  within = c.self.invariant.1;
  small = c.with_room-at.ensures.within;
  same_length = c.with_room-at.auto.bytes ∙ ap length c.deref_mut.ensures.value;
  same = rw c.deref_mut.ensures.value at c.with_room-at.ensures.same;
  last_length = c.read_behind.auto.bytes ∙ ap length c.deref_mut-2.ensures.value;
  front = rw c.deref_mut-2.ensures.value at c.read_behind.ensures.front;
}

pub returns-clause-rest : goal.returns-clause-rest
returns-clause-rest g c =
    reads_on c.args.self.now _ c.read_behind.new.bytes (c.with_room-at.result + (c.self.inside.end - c.self.inside.at)) c.in_ok-n.n _ _ c.in_ok-n.ensures.read
    (reread_more c.in_ok-n.n (went_on g c) ∙ ap (λ ds. ds ++ take c.in_ok-n.n (drop (c.with_room-at.result + (c.self.inside.end - c.self.inside.at)) c.read_behind.new.bytes)) c.self.view_is)

pub returns-clause-ended : goal.returns-clause-ended
returns-clause-ended g c = λ e.
    let none : c.in_ok-n.n ≡ 0 = nothing_new c.in_ok-n.n e in
    (reread_more c.in_ok-n.n (went_on g c) ∙ rw none (append-nil _ ∙ c.self.view_is), reads_nothing _ _ _ _ _ c.in_ok-n.ensures.read none)
