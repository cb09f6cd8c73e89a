use Rattle.lent.proofs.stream_lines.tally_in.Goals as goal

pub returns : goal.returns
returns c = λ i. record { jumped = c.word_at-jumped.ensures i; restarts = c.word_at-restarts.ensures i }
