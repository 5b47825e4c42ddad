use Rattle.session.proofs.Words.{◌∷◌, ◌++◌, [], List, map, ◌∙◌, subst, arith, length-append, shown_by, DrawFields, HasFed, draw_of}
use Rattle.session.proofs.Lists.{one_more}
use Rattle.session.proofs.feeder.feed.Goals as goal

pub loop-line-preserved : goal.loop-line-preserved
loop-line-preserved g c = let i = c.loop-line.invariant in let o = c.draw.ensures in record {
  pass = o.pass;
  unfinished = o.rest.1 ∙ i.unfinished;
  board = (o.board.0 ∙ i.board.0, o.board.1 ∙ i.board.1);
  count = let more = c.in-Ok.ensures.count in let so_far = i.count in let n = length-append c.loop-line.yielded (c.in-Some.line ∷ []) in omega (arith, more, so_far, n);
  made = λ lines has.
      subst (λ (ls : List DrawFields). HasFed c.args.station.now ls c.draw.new.seat (shown_by c.draw.new.shower)) (one_more draw_of lines c.loop-line.yielded c.in-Some.line)
      (c.in-Ok.ensures.fed (lines ++ map draw_of c.loop-line.yielded) (i.made lines has));
}
