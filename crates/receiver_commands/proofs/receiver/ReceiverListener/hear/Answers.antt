use Rattle.receiver_commands.proofs.receiver.ReceiverListener.hear.Goals as goal

pub returns : goal.returns
returns c = λ start sections h. c.in_ok-feed.ensures.stands sections h
