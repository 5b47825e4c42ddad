use Rattle.reception_report.proofs.following.FollowerListener.hear.Goals as goal

pub returns : goal.returns
returns c = λ start sections f. record {
  tuner_stands = c.in_ok-fed.ensures.stands sections f.tuner_stands;
  counts_are = c.count.ensures sections c.args.section.now f.counts_are (c.in_ok-fed.ensures.looks_back sections f.tuner_stands);
}
