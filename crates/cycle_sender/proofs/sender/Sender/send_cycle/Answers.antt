use Rattle.std.proofs.Common.{◌++◌, ◌∙◌, [], map, refl, sym, ap, subst, append_assoc}
use Rattle.std.specs.List.{All, Contains, concat}
use Rattle.std.proofs.lemmas.List.Elements.{All-head, All-tail}
use Rattle.std.proofs.lemmas.Result.{err_from_is_err_and}
use Rattle.cycle_planner.specs.Cycle.{cycle_of}
use Rattle.cycle_planner.specs.Walks.{left_of}
use Rattle.cycle_planner.proofs.CallerLemmas.{cycle_only}
use Rattle.generation.specs.Layouts.{items_of, lines_of, section_of}
use Rattle.section_stream.specs.Packing.{packets_of, packets_of_all, past}
use Rattle.shell_streams.proofs.CallerLemmas.{puts_nothing, puts_none, puts_then, puts_stop, puts_as}
use Rattle.cycle_sender.proofs.Sending.{sending_begins, sending_as, sending_more, sending_ends, kept_more, put_more, on_ok}
use Rattle.cycle_sender.proofs.sender.Sender.send_cycle.Goals as goal

pub loop-item-init : goal.loop-item-init
loop-item-init g c =
    let gen = c.args.generation.now in
    let ws = c.args.weigh.now.weights in
    let whole = c.new-walk.ensures.items ∙ ap (cycle_of ws) c.lines-lines.ensures.exact in
    record {
      walk = c.new-walk.ensures.walk;
      own = subst (All (Contains (items_of gen))) (sym whole) (cycle_only ws (lines_of gen));
      put = [];
      puts = puts_nothing tt _;
      sending = sending_as (section_of gen) c.args.self.now.mux c.args.self.now.mux (cycle_of ws (lines_of gen)) _ [] _ (sym (ap concat c.clear.ensures.items))
          (sending_begins (section_of gen) c.args.self.now.mux (cycle_of ws (lines_of gen)) _ whole);
    }

pub pack-requires : goal.pack-requires
pack-requires g c =
    let Own = Contains (items_of c.args.generation.now) in
    All-head Own c.in-Some.item _ (subst (All Own) c.in-Some.ensures.items c.loop-item.invariant.own)

pub returns-in_err-pack-clause-puts : goal.returns-in_err-pack-clause-puts
returns-in_err-pack-clause-puts g c =
    let p = err_from_is_err_and c.from_residual.result c.from_residual.ensures.1 in
    let kept = concat c.loop-item.self.packets.items in
    let rest = concat (packets_of_all c.loop-item.self.mux (map (section_of c.args.generation.now) (left_of c.args.weigh.now.weights c.lines-lines.result.now c.loop-item.walk))) in
    rw (p.1, p.2) (puts_as (sym (append_assoc c.loop-item.invariant.put kept rest) ∙ c.loop-item.invariant.sending.packs) (puts_then c.loop-item.invariant.puts (puts_none _ (kept ++ rest))))

pub returns-in_err-put_many-clause-puts : goal.returns-in_err-put_many-clause-puts
returns-in_err-put_many-clause-puts g c =
    let p = err_from_is_err_and c.from_residual-in_err-put_many.result c.from_residual-in_err-put_many.ensures.1 in
    let f = section_of c.args.generation.now in
    let mux = c.loop-item.self.mux in
    let kept = c.loop-item.self.packets.items in
    let put = c.loop-item.invariant.put in
    let made = c.pack.new.self.packets.items in
    let more = sending_as f c.args.self.now.mux (past mux (f c.in-Some.item)) _ _ _ _ (kept_more put kept (packets_of mux (f c.in-Some.item)) made c.in_ok-pack.ensures.packets)
    (sending_more f c.args.self.now.mux mux (past mux (f c.in-Some.item)) _ _ _ c.in-Some.item (put ++ concat kept) c.in-Some.ensures.items refl c.loop-item.invariant.sending) in
    rw (p.1, p.2) (puts_as more.packs (puts_stop _ (puts_then c.loop-item.invariant.puts c.in_err-put_many.ensures.stopped)))

pub loop-item-preserved : goal.loop-item-preserved
loop-item-preserved g c =
    let f = section_of c.args.generation.now in
    let mux = c.loop-item.self.mux in
    let kept = c.loop-item.self.packets.items in
    let put = c.loop-item.invariant.put in
    let made = c.pack.new.self.packets.items in
    let part = c.in_ok-put_many.ensures.put in
    let Own = Contains (items_of c.args.generation.now) in
    record {
      walk = c.next.ensures.walk;
      own = All-tail Own c.in-Some.item _ (subst (All Own) c.in-Some.ensures.items c.loop-item.invariant.own);
      put = put ++ part.0;
      puts = puts_then c.loop-item.invariant.puts part.1;
      sending = sending_as f c.args.self.now.mux c.put_many.new.self.mux _ _ _ _
          (kept_more put kept (packets_of mux (f c.in-Some.item)) made c.in_ok-pack.ensures.packets ∙ put_more put part.0 made c.put_many.new.self.packets.items part.2)
          (sending_more f c.args.self.now.mux mux c.put_many.new.self.mux _ _ _ c.in-Some.item (put ++ concat kept) c.in-Some.ensures.items (c.put_many.ensures.mux ∙ c.in_ok-pack.ensures.mux) c.loop-item.invariant.sending);
    }

pub returns-clause-puts : goal.returns-clause-puts
returns-clause-puts g c =
    let put = c.loop-item.invariant.put in
    puts_as (ap (λ xs. put ++ concat xs) c.deref.ensures.value ∙ (sending_ends (section_of c.args.generation.now) c.args.self.now.mux c.loop-item.self.mux _ _ _ c.in_default.ensures.items.0 c.loop-item.invariant.sending).0)
    (puts_then c.loop-item.invariant.puts c.put_packets.ensures)

pub returns-in_err-pack-clause-mux : goal.returns-in_err-pack-clause-mux
returns-in_err-pack-clause-mux g c =
    let p = err_from_is_err_and c.from_residual.result c.from_residual.ensures.1 in
    rw p.1 tt

pub returns-in_err-put_many-clause-mux : goal.returns-in_err-put_many-clause-mux
returns-in_err-put_many-clause-mux g c =
    let p = err_from_is_err_and c.from_residual-in_err-put_many.result c.from_residual-in_err-put_many.ensures.1 in
    rw p.1 tt

pub returns-clause-mux : goal.returns-clause-mux
returns-clause-mux g c =
    on_ok c.put_packets.result (sending_ends (section_of c.args.generation.now) c.args.self.now.mux c.loop-item.self.mux _ _ _ c.in_default.ensures.items.0 c.loop-item.invariant.sending).1
